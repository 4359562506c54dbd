-- Bytes that grow by the texts of records.
use Rattle.std.proofs.Common.{◌≡◌, ℕ, ◌+◌, List, [], ◌∷◌, ◌++◌, sym, ap, ◌∙◌, Some, None, zero-add}
use Rattle.std.specs.Prelude.{Option, Result, Ok, Err, OnOk}
use Rattle.std.specs.Io.KnownBytes.{Appends}
use Rattle.std.proofs.lemmas.List.{append-nil, append_assoc}
use Rattle.std.proofs.lemmas.List.FromFn.{map-range_with_len_more}
use Rattle.csv.specs.Writing.{default_writer, row_text}
use Rattle.cs_csv.specs.Fields.{Record}
use Rattle.cs_csv.specs.Writing.{records_text, row_record, rows_records}
use Rattle.cs_schema.specs.declared.cells.Cells.{Cells}

pub appends-none : (known : Option (List ℕ)) → Appends known known (records_text [])
unfolding records_text
appends-none None = tt
appends-none (Some xs) = sym (append-nil xs)

pub appends-more : (a b c : Option (List ℕ)) (x y : List ℕ) → Appends a b x → Appends b c y → Appends a c (x ++ y)
appends-more None b c x y h k = tt
appends-more (Some xs) None c x y h k = absurd h
appends-more (Some xs) (Some ys) None x y h k = k
appends-more (Some xs) (Some ys) (Some zs) x y h k = k ∙ ap (λ (l : List ℕ). l ++ y) h ∙ append_assoc xs x y

records-more : (rs : List Record) (r : Record) → records_text (rs ++ r ∷ []) ≡ records_text rs ++ row_text default_writer r
unfolding records_text
records-more [] r = append-nil (row_text default_writer r)
records-more (s ∷ rs) r = ap (λ (l : List ℕ). row_text default_writer s ++ l) (records-more rs r) ∙ sym (append_assoc (row_text default_writer s) (records_text rs) (row_text default_writer r))

pub rows-more-text : (cells : List Cells) (n : ℕ) → records_text (rows_records cells (n + 1)) ≡ records_text (rows_records cells n) ++ row_text default_writer (row_record cells n)
rows-more-text cells n = ap records_text (map-range_with_len_more (row_record cells) 0 n n (zero-add n)) ∙ records-more (rows_records cells n) (row_record cells n)

pub on-ok-then : {T E : Type 0} (r : Result T E) (P Q : Type 0) → (P → Q) → OnOk r P → OnOk r Q
on-ok-then (Ok x) P Q f p = f p
on-ok-then (Err e) P Q f p = tt
