-- No two lists have the same body under runs.
use Rattle.std.proofs.Common.{◌≡◌, ℕ, zero, suc, ◌+◌, ◌^◌, ◌<◌, ◌≤◌, Bool, true, false, cond, not, List, [], ◌∷◌, ◌++◌, length, replicate, Option, Some, None, refl, sym, ap, subst, ◌∙◌, append_assoc, arith, add-zero, zero-add}
use Rattle.std.specs.List.{AllByRecursion}
use Rattle.std.proofs.lemmas.List.{length-append, length-replicate}
use Rattle.cs_codec.specs.Cells.{number, BeginsOne}
use Rattle.cs_codec.specs.CellLaws.{number_begins_one, length-number}
use Rattle.cs_codec.specs.Texts.{differs, kept, runs_text_from, runs_text}
use Rattle.cs_codec.specs.Runs.{Run, expand, BeginsOther, IsProper, written_from}
use Rattle.cs_codec.specs.Cells.{IsTest}
use Rattle.cs_codec.specs.Runs.{RunsHold}

-- ---- the bytes of maximal runs

kept-replicate : {C : Type 0} (eq : C → C → Bool) (t : IsTest eq) (x : C) (n : ℕ) (ys : List C) → kept eq x (replicate n x ++ ys) ≡ n + kept eq x ys
kept-replicate eq t x zero ys = sym (zero-add (kept eq x ys))
kept-replicate eq t x (suc n) ys = rw (t.itself x) (omega (arith, kept-replicate eq t x n ys))

kept-other : {C : Type 0} (eq : C → C → Bool) (x y : C) (n : ℕ) (ys : List C) → 0 < n → eq x y ≡ false → kept eq x (replicate n y ++ ys) ≡ 0
kept-other eq x y zero ys h e = absurd (omega arith)
kept-other eq x y (suc n) ys h e = rw e refl

-- runs that begin with another value do not continue a run of x
none_kept : {C : Type 0} (eq : C → C → Bool) (x : C) (rs : List (Run C)) → BeginsOther eq x rs → IsProper eq rs → kept eq x (expand rs) ≡ 0
none_kept eq x [] b p = refl
none_kept eq x (r ∷ rs) b p = kept-other eq x r.value r.count (expand rs) p.0 b

text-kept : {C : Type 0} (bytes : C → List ℕ) (eq : C → C → Bool) (t : IsTest eq) (x : C) (n p : ℕ) (ys : List C) → runs_text_from bytes eq (Some x) p (replicate n x ++ ys) ≡ runs_text_from bytes eq (Some x) (p + n) ys
text-kept bytes eq t x zero p ys = rw add-zero refl
text-kept bytes eq t x (suc n) p ys =
    let step : suc p + n ≡ p + suc n = omega arith in
    rw (t.itself x) (text-kept bytes eq t x n (suc p) ys ∙ ap (λ (q : ℕ). runs_text_from bytes eq (Some x) q ys) step)

text-run : {C : Type 0} (bytes : C → List ℕ) (eq : C → C → Bool) (t : IsTest eq) (b : Option C) (p : ℕ) (x : C) (n : ℕ) (ys : List C) → 0 < n → differs eq b x ≡ true → kept eq x ys ≡ 0 → runs_text_from bytes eq b p (replicate n x ++ ys) ≡ (bytes x ++ number p ++ number n) ++ runs_text_from bytes eq (Some x) (p + n) ys
text-run bytes eq t b p x zero ys h d k = absurd (omega arith)
text-run bytes eq t b p x (suc n) ys h d k =
    let all : kept eq x (replicate n x ++ ys) ≡ n = kept-replicate eq t x n ys ∙ rw k (add-zero n) in
    let step : suc p + n ≡ p + suc n = omega arith in
    rw (d, all) (ap (λ (w : List ℕ). (bytes x ++ number p ++ number (suc n)) ++ w) (text-kept bytes eq t x n (suc p) ys ∙ ap (λ (q : ℕ). runs_text_from bytes eq (Some x) q ys) step))

-- the value before, if any, differs from that of the first run
abbrev pub Opens : {C : Type 0} → (C → C → Bool) → Option C → List (Run C) → Type 0
Opens eq b [] = Unit {0}
Opens eq b (r ∷ rs) = differs eq b r.value ≡ true

Opens-next : {C : Type 0} (eq : C → C → Bool) (x : C) (rs : List (Run C)) → BeginsOther eq x rs → Opens eq (Some x) rs
Opens-next eq x [] b = tt
Opens-next eq x (r ∷ rs) b = ap not b

pub text_from-expand : {C : Type 0} (bytes : C → List ℕ) (eq : C → C → Bool) (t : IsTest eq) (b : Option C) (p : ℕ) (rs : List (Run C)) → IsProper eq rs → Opens eq b rs → runs_text_from bytes eq b p (expand rs) ≡ written_from bytes p rs
text_from-expand bytes eq t b p [] h o = refl
text_from-expand bytes eq t b p (r ∷ rs) h o =
    text-run bytes eq t b p r.value r.count (expand rs) h.0 o (none_kept eq r.value rs h.1 h.2)
    ∙ ap (λ (w : List ℕ). (bytes r.value ++ number p ++ number r.count) ++ w) (text_from-expand bytes eq t (Some r.value) (p + r.count) rs h.2 (Opens-next eq r.value rs h.1))

Opens-none : {C : Type 0} (eq : C → C → Bool) (rs : List (Run C)) → Opens eq None rs
Opens-none eq [] = tt
Opens-none eq (r ∷ rs) = refl

-- the body of the cells of maximal runs is the bytes of the runs
pub text-expand : {C : Type 0} (bytes : C → List ℕ) (eq : C → C → Bool) (t : IsTest eq) (rs : List (Run C)) → IsProper eq rs → runs_text bytes eq (expand rs) ≡ written_from bytes 1 rs
text-expand bytes eq t rs h = text_from-expand bytes eq t None 1 rs h (Opens-none eq rs)

-- ---- the runs of a list

-- runs with one more cell in front
abbrev pub before_runs : {C : Type 0} → (C → C → Bool) → C → List (Run C) → List (Run C)
before_runs eq x [] = record { value = x; count = 1 } ∷ []
before_runs eq x (r ∷ rs) = cond (eq x r.value) (record { value = x; count = suc r.count } ∷ rs) (record { value = x; count = 1 } ∷ r ∷ rs)

abbrev pub runs_of : {C : Type 0} → (C → C → Bool) → List C → List (Run C)
runs_of eq [] = []
runs_of eq (x ∷ xs) = before_runs eq x (runs_of eq xs)

pub cases_bool : {P : Type 0} (b : Bool) → (b ≡ true → P) → (b ≡ false → P) → P
cases_bool true f g = f refl
cases_bool false f g = g refl

expand-before : {C : Type 0} (eq : C → C → Bool) (t : IsTest eq) (x : C) (rs : List (Run C)) → expand (before_runs eq x rs) ≡ x ∷ expand rs
expand-before eq t x [] = refl
expand-before {C} eq t x (r ∷ rs) =
    cases_bool (eq x r.value)
    (λ e. rw e (ap (λ (y : C). x ∷ (replicate r.count y ++ expand rs)) (t.exact x r.value e)))
    (λ e. rw e refl)

pub expand-runs_of : {C : Type 0} (eq : C → C → Bool) (t : IsTest eq) (xs : List C) → expand (runs_of eq xs) ≡ xs
expand-runs_of eq t [] = refl
expand-runs_of {C} eq t (x ∷ xs) = expand-before eq t x (runs_of eq xs) ∙ ap (λ (ys : List C). x ∷ ys) (expand-runs_of eq t xs)

BeginsOther-of : {C : Type 0} (eq : C → C → Bool) (x y : C) (rs : List (Run C)) → x ≡ y → BeginsOther eq y rs → BeginsOther eq x rs
BeginsOther-of eq x y [] e b = tt
BeginsOther-of eq x y (r ∷ rs) e b = subst (λ z. eq z r.value ≡ false) (sym e) b

IsProper-before : {C : Type 0} (eq : C → C → Bool) (t : IsTest eq) (x : C) (rs : List (Run C)) → IsProper eq rs → IsProper eq (before_runs eq x rs)
IsProper-before eq t x [] h = (omega arith, tt, tt)
IsProper-before eq t x (r ∷ rs) h =
    cases_bool (eq x r.value)
    (λ e. rw e (omega arith, BeginsOther-of eq x r.value rs (t.exact x r.value e) h.1, h.2))
    (λ e. rw e (omega arith, e, h))

pub IsProper-runs_of : {C : Type 0} (eq : C → C → Bool) (t : IsTest eq) (xs : List C) → IsProper eq (runs_of eq xs)
IsProper-runs_of eq t [] = tt
IsProper-runs_of eq t (x ∷ xs) = IsProper-before eq t x (runs_of eq xs) (IsProper-runs_of eq t xs)

RunsHold-before : {C : Type 0} (eq : C → C → Bool) (is_cell : C → Type 0) (x : C) (rs : List (Run C)) → is_cell x → RunsHold is_cell rs → RunsHold is_cell (before_runs eq x rs)
RunsHold-before eq is_cell x [] h hs = (h, tt)
RunsHold-before eq is_cell x (r ∷ rs) h hs = cases_bool (eq x r.value) (λ e. rw e (h, hs.1)) (λ e. rw e (h, hs))

pub RunsHold-runs_of : {C : Type 0} (eq : C → C → Bool) (is_cell : C → Type 0) (xs : List C) → AllByRecursion is_cell xs → RunsHold is_cell (runs_of eq xs)
RunsHold-runs_of eq is_cell [] h = tt
RunsHold-runs_of eq is_cell (x ∷ xs) h = RunsHold-before eq is_cell x (runs_of eq xs) h.0 (RunsHold-runs_of eq is_cell xs h.1)

-- ---- bytes are those of at most one list of runs

same_run : {C : Type 0} (r s : Run C) → r.value ≡ s.value → r.count ≡ s.count → r ≡ s
same_run {C} r s v n = ap (λ (x : C). record { value = x; count = r.count }) v ∙ ap (λ (k : ℕ). record { value = s.value; count = k }) n

-- bytes begin with at most one run, and one remainder follows it
pub run_begins_one : {C : Type 0} (bytes : C → List ℕ) (is_cell : C → Type 0) (one : BeginsOne bytes is_cell) (r s : Run C) (p q : ℕ) (x y : List ℕ) → is_cell r.value → is_cell s.value → p < 2 ^ 32 → q < 2 ^ 32 → r.count < 2 ^ 32 → s.count < 2 ^ 32 → (bytes r.value ++ number p ++ number r.count) ++ x ≡ (bytes s.value ++ number q ++ number s.count) ++ y → (r ≡ s) × (p ≡ q) × (x ≡ y)
run_begins_one {C} bytes is_cell one r s p q x y hr hs lp lq lr ls e =
    let regroup : (z : Run C) (n : ℕ) (w : List ℕ) → (bytes z.value ++ number n ++ number z.count) ++ w ≡ bytes z.value ++ (number n ++ (number z.count ++ w)) = λ z n w. simp append_assoc in
    let values = one r.value s.value (number p ++ (number r.count ++ x)) (number q ++ (number s.count ++ y)) hr hs (sym (regroup r p x) ∙ e ∙ regroup s q y) in
    let positions = number_begins_one p q (number r.count ++ x) (number s.count ++ y) lp lq values.1 in
    let counts = number_begins_one r.count s.count x y lr ls positions.1 in
    (same_run r s values.0 counts.0, positions.0, counts.1)

pub length-expand-cons : {C : Type 0} (r : Run C) (rs : List (Run C)) → length (expand (r ∷ rs)) ≡ r.count + length (expand rs)
length-expand-cons r rs = length-append (replicate r.count r.value) (expand rs) ∙ ap (λ (n : ℕ). n + length (expand rs)) (length-replicate r.count r.value)

pub not_empty : (a b x : List ℕ) (n : ℕ) → [] ≡ (a ++ number n ++ b) ++ x → ⊥
not_empty a b x n e =
    let lens : length {A = ℕ} [] ≡ length ((a ++ number n ++ b) ++ x) = ap length e in
    omega (arith, length-append (a ++ number n ++ b) x, length-append (a ++ number n) b, length-append a (number n), length-number n)

pub same_runs : {C : Type 0} (bytes : C → List ℕ) (is_cell : C → Type 0) (one : BeginsOne bytes is_cell) (p : ℕ) (rs ss : List (Run C)) → RunsHold is_cell rs → RunsHold is_cell ss → p + length (expand rs) < 2 ^ 32 → p + length (expand ss) < 2 ^ 32 → written_from bytes p rs ≡ written_from bytes p ss → rs ≡ ss
same_runs bytes is_cell one p [] [] hr hs lr ls e = refl
same_runs bytes is_cell one p [] (s ∷ ss) hr hs lr ls e = absurd (not_empty (bytes s.value) (number s.count) (written_from bytes (p + s.count) ss) p e)
same_runs bytes is_cell one p (r ∷ rs) [] hr hs lr ls e = absurd (not_empty (bytes r.value) (number r.count) (written_from bytes (p + r.count) rs) p (sym e))
same_runs {C} bytes is_cell one p (r ∷ rs) (s ∷ ss) hr hs lr ls e =
    let kr = length-expand-cons r rs in
    let ks = length-expand-cons s ss in
    let first = run_begins_one bytes is_cell one r s p p (written_from bytes (p + r.count) rs) (written_from bytes (p + s.count) ss) hr.0 hs.0 (omega arith) (omega arith) (omega arith) (omega arith) e in
    let counts : s.count ≡ r.count = ap (λ (z : Run C). z.count) (sym first.0) in
    let rest : written_from bytes (p + r.count) rs ≡ written_from bytes (p + r.count) ss = first.2 ∙ ap (λ (n : ℕ). written_from bytes (p + n) ss) counts in
    let deeper = same_runs bytes is_cell one (p + r.count) rs ss hr.1 hs.1 (omega arith) (omega arith) rest in
    ap (λ (z : Run C). z ∷ rs) first.0 ∙ ap (λ (zs : List (Run C)). s ∷ zs) deeper

-- no two lists of cells have the same body
pub runs_one_list : {C : Type 0} (bytes : C → List ℕ) (is_cell : C → Type 0) (eq : C → C → Bool) (t : IsTest eq) (one : BeginsOne bytes is_cell) (x y : List C) → length x ≤ 1048576 → length y ≤ 1048576 → AllByRecursion is_cell x → AllByRecursion is_cell y → runs_text bytes eq x ≡ runs_text bytes eq y → x ≡ y
runs_one_list {C} bytes is_cell eq t one x y lx ly hx hy e =
    let ex = expand-runs_of eq t x in
    let ey = expand-runs_of eq t y in
    let tx : runs_text bytes eq x ≡ written_from bytes 1 (runs_of eq x) = ap (runs_text bytes eq) (sym ex) ∙ text-expand bytes eq t (runs_of eq x) (IsProper-runs_of eq t x) in
    let ty : runs_text bytes eq y ≡ written_from bytes 1 (runs_of eq y) = ap (runs_text bytes eq) (sym ey) ∙ text-expand bytes eq t (runs_of eq y) (IsProper-runs_of eq t y) in
    let nx : length (expand (runs_of eq x)) ≡ length x = ap length ex in
    let ny : length (expand (runs_of eq y)) ≡ length y = ap length ey in
    let runs = same_runs bytes is_cell one 1 (runs_of eq x) (runs_of eq y) (RunsHold-runs_of eq is_cell x hx) (RunsHold-runs_of eq is_cell y hy) (omega arith) (omega arith) (sym tx ∙ e ∙ ty) in
    sym ex ∙ ap (λ (rs : List (Run C)). expand rs) runs ∙ ey
