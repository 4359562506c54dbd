-- A text of a document as a cell.
use Rattle.std.proofs.Common.{◌≡◌, ℕ, ◌≤◌, List, length, Some, le-leb, sym, IsUtf8}
use Rattle.std.proofs.lemmas.Option.{none-some, same_Some}
use Rattle.std.proofs.lemmas.Str.{is_utf8-from_IsUtf8}
use Rattle.toml.specs.Data.{Data, string, integer, float, boolean, datetime, array, table, as_str}
use Rattle.cs_schema.specs.declared.cells.Value.{Value}
use Rattle.cs_catalog.specs.Tree.{cut_of}
use Rattle.cs_schema.specs.Cuts.{cut_text}

pub read_text : (d : Data) (s : List ℕ) → Some s ≡ as_str d → length s ≤ 255 → IsUtf8 s → Some (Value.Text s) ≡ cut_text (cut_of d)
read_text (string t) s e few utf8 =
    let is : s ≡ t = same_Some s t e in
    rw (← is, is_utf8-from_IsUtf8 s utf8, le-leb (length s) 255 few)
read_text (integer z) s e few utf8 = absurd (none-some s (sym e))
read_text (float x) s e few utf8 = absurd (none-some s (sym e))
read_text (boolean b) s e few utf8 = absurd (none-some s (sym e))
read_text (datetime t) s e few utf8 = absurd (none-some s (sym e))
read_text (array ds) s e few utf8 = absurd (none-some s (sym e))
read_text (table ms) s e few utf8 = absurd (none-some s (sym e))
