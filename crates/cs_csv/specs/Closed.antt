-- The records of a text that are closed, and whether it ends within a quoted cell.
use Rattle.std.specs.Prelude.{ℕ, List, [], ◌∷◌, ◌++◌, Bool, true, false, if◌then◌else◌}
use Rattle.csv.specs.Machine.{field_after, fields_after, is_end, step}
use Rattle.csv.specs.Reading.{default_config}
use Rattle.csv.specs.declared.parser.State.{State}
use Rattle.csv.specs.declared.parser.State.TheVariants as st
use Rattle.cs_csv.specs.Fields.{Record}

-- the records before the end or before the one whose quoted cell is open at the end, and whether there is such a one
abbrev pub Closed : Type 0
Closed = List Record × Bool

-- the same at the end of a text, with the fields and the bytes of the field at hand
abbrev pub at_end : State → Record → List ℕ → Closed
at_end st.StartRecord fields field = ([], false)
at_end st.AfterCr fields field = ([], false)
at_end st.InQuoted fields field = ([], true)
at_end st.InEscape fields field = ([], true)
at_end st.StartField fields field = ((fields ++ field ∷ []) ∷ [], false)
at_end st.InField fields field = ((fields ++ field ∷ []) ∷ [], false)
at_end st.AfterQuote fields field = ((fields ++ field ∷ []) ∷ [], false)
at_end st.InComment fields field = ((fields ++ field ∷ []) ∷ [], false)

abbrev pub with_first : Record → Closed → Closed
with_first r closed = (r ∷ closed.0, closed.1)

-- the same from a state of the csv crate's machine, one byte after the other
unfoldable pub closed_from : State → Record → List ℕ → List ℕ → Closed
closed_from s fields field [] = at_end s fields field
closed_from s fields field (c ∷ rest) =
    if is_end (step default_config s c).1 then with_first (fields_after (step default_config s c).1 fields field) (closed_from (step default_config s c).0 [] [] rest)
    else closed_from (step default_config s c).0 (fields_after (step default_config s c).1 fields field) (field_after (step default_config s c).1 c field) rest
