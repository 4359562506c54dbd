-- A text with the mark after it reads as the text, and then shows whether the text ends within a quoted cell.
use Rattle.std.proofs.Common.{◌≡◌, ◌≢◌, ℕ, List, [], ◌∷◌, ◌++◌, length, refl, sym, ap, ◌∙◌, arith, cond, Bool, true, false, Some, None, inl, inr}
use Rattle.std.specs.Prelude.{Option, ◌==◌, ◌||◌}
use Rattle.std.proofs.lemmas.Bool.{cases_Bool, false≢true}
use Rattle.std.proofs.lemmas.List.{length-append}
use Rattle.std.proofs.lemmas.Option.{none-some}
use Rattle.csv.specs.Machine.{Read, after_end, field_after, fields_after, in_field, is_end, next_record, start_field, start_record, step}
use Rattle.csv.specs.Reading.{default_config, is_bom, strip_bom}
use Rattle.csv.specs.declared.parser.Terminator.TheVariants as term
use Rattle.csv.specs.declared.parser.State.{State}
use Rattle.csv.specs.declared.parser.State.TheVariants as st
use Rattle.csv.specs.declared.parser.Action.{Action}
use Rattle.csv.specs.declared.parser.Action.TheVariants as act
use Rattle.cs_csv.specs.Ahead.{Fits, IsAhead, IsLast, IsLeft, mark, mark_record}
use Rattle.cs_csv.specs.Closed.{Closed, at_end, closed_from, with_first}
use Rattle.cs_csv.specs.Fields.{Record}

either : {A : Type 0} (P : A → Type 0) (b : Bool) (x y : A) → P x → P y → P (cond b x y)
either P true x y p q = p
either P false x y p q = q

-- a byte leaves a state that fits the field at hand
abbrev StaysFit : Record → List ℕ → ℕ → State × Action → Type 0
StaysFit fields field c t = (is_end t.1 ≡ true → Fits t.0 [] []) × (is_end t.1 ≡ false → Fits t.0 (fields_after t.1 fields field) (field_after t.1 c field))

goes-on : (fields : Record) (field : List ℕ) (c : ℕ) (s : State) (a : Action) → is_end a ≡ false → Fits s (fields_after a fields field) (field_after a c field) → StaysFit fields field c (s, a)
goes-on fields field c s a e f = (λ t. absurd (false≢true (sym e ∙ t)), λ t. f)

abbrev FitsNew : State → Type 0
FitsNew s = Fits s [] []

ended : (c : ℕ) → FitsNew (after_end term.CRLF c)
ended c = either FitsNew (c == 13) st.AfterCr st.StartRecord (refl, refl) (refl, refl)

in-field : (fields : Record) (field : List ℕ) (c : ℕ) → StaysFit fields field c (in_field default_config c)
in-field fields field c =
    either (StaysFit fields field c) (c == 44) _ _ (goes-on fields field c st.StartField act.EndField refl tt)
    (either (StaysFit fields field c) ((c == 13) || (c == 10)) _ _ (λ t. ended c, λ t. absurd (false≢true (sym t))) (goes-on fields field c st.InField act.Copy refl tt))

start-field : (fields : Record) (field : List ℕ) (c : ℕ) → StaysFit fields field c (start_field default_config c)
start-field fields field c = either (StaysFit fields field c) (c == 34) _ _ (goes-on fields field c st.InQuoted act.Skip refl tt) (in-field fields field c)

start-record : (fields : Record) (field : List ℕ) (c : ℕ) → Fits st.StartRecord fields field → StaysFit fields field c (start_record default_config c)
start-record fields field c h =
    either (StaysFit fields field c) ((c == 13) || (c == 10)) _ _ (goes-on fields field c st.StartRecord act.Skip refl h) (start-field fields field c)

stays-fit : (s : State) (fields : Record) (field : List ℕ) (c : ℕ) → Fits s fields field → StaysFit fields field c (step default_config s c)
stays-fit st.StartRecord fields field c h = start-record fields field c h
stays-fit st.StartField fields field c h = start-field fields field c
stays-fit st.InField fields field c h = in-field fields field c
stays-fit st.InQuoted fields field c h =
    either (StaysFit fields field c) (c == 34) _ _ (goes-on fields field c st.AfterQuote act.Skip refl tt) (goes-on fields field c st.InQuoted act.Copy refl tt)
stays-fit st.InEscape fields field c h = absurd h
stays-fit st.AfterQuote fields field c h =
    either (StaysFit fields field c) (c == 34) _ _ (goes-on fields field c st.InQuoted act.Copy refl tt) (in-field fields field c)
stays-fit st.InComment fields field c h = absurd h
stays-fit st.AfterCr fields field c h =
    either (StaysFit fields field c) (c == 10) _ _ (goes-on fields field c st.StartRecord act.Skip refl h) (start-record fields field c h)

-- a cell that the mark is within is none of the mark's record
is-other : (fields : Record) (field : List ℕ) → fields ++ ((field ++ 10 ∷ []) ++ 120 ∷ []) ∷ [] ≢ mark_record
is-other [] field = λ e.
    let same : (field ++ 10 ∷ []) ++ 120 ∷ [] ≡ 120 ∷ [] = cc e in
    absurd (omega (arith, ap length same, length-append (field ++ 10 ∷ []) (120 ∷ []), length-append field (10 ∷ [])))
is-other (x ∷ rest) field = λ e. absurd (omega (arith, ap length e, length-append rest (((field ++ 10 ∷ []) ++ 120 ∷ []) ∷ [])))

-- the record that is read is one of the text's, or the last
abbrev ReadsAhead : Option Read → Closed → Type 0
ReadsAhead o closed = (p : Read) × (o ≡ Some p) × IsAhead p.0 p.1 p.2 closed

-- the mark alone, or its `x`
mark-alone : (fields : Record) (field : List ℕ) → fields ≡ [] → field ≡ [] → ReadsAhead (next_record default_config st.StartRecord fields field mark) ([], false)
unfolding next_record
mark-alone fields field e f = rw (e, f) ((mark_record, st.StartRecord, []), refl, inr (refl, refl, inl (refl, refl)))

ahead-at-end : (s : State) (fields : Record) (field : List ℕ) → Fits s fields field → ReadsAhead (next_record default_config s fields field mark) (at_end s fields field)
unfolding next_record
ahead-at-end st.StartRecord fields field h = mark-alone fields field h.0 h.1
ahead-at-end st.StartField fields field h = ((fields ++ field ∷ [], st.StartRecord, 120 ∷ []), refl, inl (([], false), refl, inr (refl, refl, refl)))
ahead-at-end st.InField fields field h = ((fields ++ field ∷ [], st.StartRecord, 120 ∷ []), refl, inl (([], false), refl, inr (refl, refl, refl)))
ahead-at-end st.InQuoted fields field h = ((fields ++ ((field ++ 10 ∷ []) ++ 120 ∷ []) ∷ [], st.StartRecord, []), refl, inr (refl, refl, inr (refl, is-other fields field)))
ahead-at-end st.InEscape fields field h = absurd h
ahead-at-end st.AfterQuote fields field h = ((fields ++ field ∷ [], st.StartRecord, 120 ∷ []), refl, inl (([], false), refl, inr (refl, refl, refl)))
ahead-at-end st.InComment fields field h = absurd h
ahead-at-end st.AfterCr fields field h = mark-alone fields field h.0 h.1

pub ahead-from : (s : State) (fields : Record) (field text : List ℕ) → Fits s fields field → ReadsAhead (next_record default_config s fields field (text ++ mark)) (closed_from s fields field text)
unfolding next_record closed_from
ahead-from s fields field [] h = ahead-at-end s fields field h
ahead-from s fields field (c ∷ rest) h =
    let fit = stays-fit s fields field c h in
    elim (cases_Bool (is_end (step default_config s c).1)) [
      | inl e ↦ rw e (
        (fields_after (step default_config s c).1 fields field, (step default_config s c).0, rest ++ mark),
        refl,
        inl (closed_from (step default_config s c).0 [] [] rest, refl, inl (rest, refl, fit.0 e, refl)),
      )
      | inr e ↦ rw e (ahead-from (step default_config s c).0 (fields_after (step default_config s c).1 fields field) (field_after (step default_config s c).1 c field) rest (fit.1 e))
    ]

-- between two records, one is read in any case
pub next-ahead : (s : State) (left : List ℕ) (closed : Closed) → IsLeft s left closed → ReadsAhead (next_record default_config s [] [] left) closed
unfolding next_record
next-ahead s left closed (inl (text, e, fits, is)) = rw (e, is) (ahead-from s [] [] text fits)
next-ahead s left closed (inr (es, el, is)) = rw (es, el, is) ((mark_record, st.StartRecord, []), refl, inr (refl, refl, inl (refl, refl)))

-- at the end, a record that was read is the last
pub is-last : (r : Record) (s : State) (left : List ℕ) (closed : Closed) → IsAhead r s left closed → next_record default_config s [] [] left ≡ None → IsLast r s left closed
is-last r s left closed (inl (more, e, l)) none = let next = next-ahead s left more l in absurd (none-some next.0 (sym none ∙ next.1))
is-last r s left closed (inr last) none = last

-- before another record, it is one of the text's
pub is-of-text : (r : Record) (s : State) (left : List ℕ) (closed : Closed) (p : Read) → IsAhead r s left closed → next_record default_config s [] [] left ≡ Some p
    → (more : Closed) × (closed ≡ with_first r more) × IsLeft s left more
unfolding next_record
is-of-text r s left closed p (inl h) some = h
is-of-text r s left closed p (inr (es, el, last)) some = absurd (none-some p (rw (es, el) at some))

-- a byte order mark is before the mark
pub bom-before : (text : List ℕ) → strip_bom (text ++ mark) ≡ strip_bom text ++ mark
unfolding strip_bom
bom-before [] = refl
bom-before (a ∷ []) = elim (cases_Bool (a == 0xEF)) [
  | inl e ↦ rw e refl
  | inr e ↦ rw e refl
]
bom-before (a ∷ b ∷ []) = elim (cases_Bool (a == 0xEF)) [
  | inl e ↦ elim (cases_Bool (b == 0xBB)) [
    | inl f ↦ rw (e, f) refl
    | inr f ↦ rw (e, f) refl
  ]
  | inr e ↦ rw e refl
]
bom-before (a ∷ b ∷ c ∷ rest) = elim (cases_Bool (is_bom a b c)) [
  | inl e ↦ rw e refl
  | inr e ↦ rw e refl
]
