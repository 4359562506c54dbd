-- A reader of a text with a mark after it, which is a record ahead: the mark shows whether a cell is open before it.
use Rattle.std.specs.Prelude.{◌≡◌, ◌≢◌, ◌⊎◌, ℕ, List, [], ◌∷◌, ◌++◌, false, true, Option, None, Some, ⊤}
use Rattle.csv.specs.declared.parser.State.{State}
use Rattle.csv.specs.declared.parser.State.TheVariants as st
use Rattle.cs_csv.specs.Fields.{Record}
use Rattle.cs_csv.specs.Closed.{Closed, closed_from, with_first}

-- the end of a line, and an `x`
abbrev pub mark : List ℕ
mark = 10 ∷ 120 ∷ []

-- these bytes and the mark after them, where they are known
abbrev pub with_mark : Option (List ℕ) → Option (List ℕ)
with_mark None = None
with_mark (Some text) = Some (text ++ mark)

-- the record that the mark is, unless it stands within a quoted cell
abbrev pub mark_record : Record
mark_record = (120 ∷ []) ∷ []

-- a state of the machine, and the fields and the bytes of the field at hand in it
abbrev pub Fits : State → Record → List ℕ → Type 0
Fits st.StartRecord fields field = (fields ≡ []) × (field ≡ [])
Fits st.AfterCr fields field = (fields ≡ []) × (field ≡ [])
Fits st.StartField fields field = ⊤
Fits st.InField fields field = ⊤
Fits st.InQuoted fields field = ⊤
Fits st.AfterQuote fields field = ⊤
Fits st.InEscape fields field = ⊥
Fits st.InComment fields field = ⊥

-- what is left to read between two records: a rest of the text and the mark, or what the mark is without the line's end
abbrev pub IsLeft : State → List ℕ → Closed → Type 0
IsLeft s left closed = ((text : List ℕ) × (left ≡ text ++ mark) × Fits s [] [] × (closed ≡ closed_from s [] [] text))
    ⊎ ((s ≡ st.StartRecord) × (left ≡ 120 ∷ []) × (closed ≡ ([], false)))

-- nothing is left, and the last record that was read is the mark, or has an open cell
abbrev pub IsLast : Record → State → List ℕ → Closed → Type 0
IsLast r s left closed = (s ≡ st.StartRecord) × (left ≡ []) × (((closed ≡ ([], false)) × (r ≡ mark_record)) ⊎ ((closed ≡ ([], true)) × (r ≢ mark_record)))

-- a record was read, and what is left
abbrev pub IsAhead : Record → State → List ℕ → Closed → Type 0
IsAhead r s left closed = ((more : Closed) × (closed ≡ with_first r more) × IsLeft s left more) ⊎ IsLast r s left closed
