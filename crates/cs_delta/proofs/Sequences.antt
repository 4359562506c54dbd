-- Encodings one after the other, each valid in a state that those before it leave.
use Rattle.std.proofs.Common.{◌≡◌, ℕ, ◌<◌, List, [], ◌∷◌, ◌++◌, map, length, refl, sym, ap, subst, ◌∙◌, arith, append_assoc}
use Rattle.std.specs.List.{concat}
use Rattle.std.proofs.lemmas.List.{append-nil}
use Rattle.cs_codec.specs.Cells.{BeginsOne}

abbrev pub AllAlong : {X : Type 0} → (ℕ → X → ℕ) → (ℕ → X → Type 0) → ℕ → List X → Type 0
AllAlong next P n [] = Unit {0}
AllAlong next P n (x ∷ xs) = P n x × AllAlong next P (next n x) xs

abbrev pub along : {X : Type 0} → (ℕ → X → ℕ) → ℕ → List X → ℕ
along next n [] = n
along next n (x ∷ xs) = along next (next n x) xs

pub along-push : {X : Type 0} (next : ℕ → X → ℕ) (n : ℕ) (xs : List X) (x : X) → along next n (xs ++ x ∷ []) ≡ next (along next n xs) x
along-push next n [] x = refl
along-push next n (y ∷ xs) x = along-push next (next n y) xs x

pub all-push : {X : Type 0} (next : ℕ → X → ℕ) (P : ℕ → X → Type 0) (n : ℕ) (xs : List X) (x : X) → AllAlong next P n xs → P (along next n xs) x → AllAlong next P n (xs ++ x ∷ [])
all-push next P n [] x h k = (k, tt)
all-push next P n (y ∷ xs) x h k = (h.0, all-push next P (next n y) xs x h.1 k)

pub texts-push : {X : Type 0} (f : X → List ℕ) (xs : List X) (x : X) → concat (map f (xs ++ x ∷ [])) ≡ concat (map f xs) ++ f x
texts-push f [] x = append-nil (f x)
texts-push f (y ∷ xs) x = ap (λ (a : List ℕ). f y ++ a) (texts-push f xs x) ∙ sym (append_assoc (f y) (concat (map f xs)) (f x))

-- the bytes are the encodings of `done`, each valid in its state, then `rest`
pub record IsReadSoFar {X : Type 0} (f : X → List ℕ) (next : ℕ → X → ℕ) (P : ℕ → X → Type 0) (n : ℕ) (bytes : List ℕ) (done : List X) (rest : List ℕ) : Type 0 where
  pub text : bytes ≡ concat (map f done) ++ rest
  pub all : AllAlong next P n done

pub read_more : {X : Type 0} (f : X → List ℕ) (next : ℕ → X → ℕ) (P : ℕ → X → Type 0) (n : ℕ) (bytes : List ℕ) (done : List X) (rest : List ℕ) (x : X) (behind : List ℕ) → IsReadSoFar f next P n bytes done rest → rest ≡ f x ++ behind → P (along next n done) x → IsReadSoFar f next P n bytes (done ++ x ∷ []) behind
read_more f next P n bytes done rest x behind h e k = record {
  text = h.text ∙ ap (λ (a : List ℕ). concat (map f done) ++ a) e ∙ sym (append_assoc (concat (map f done)) (f x) behind) ∙ ap (λ (a : List ℕ). a ++ behind) (sym (texts-push f done x));
  all = all-push next P n done x h.all k;
}

-- if a longer sequence has the same bytes, its next encoding comes next
pub stands_next : {X : Type 0} (f : X → List ℕ) (next : ℕ → X → ℕ) (P : ℕ → X → Type 0) (one : (n : ℕ) → BeginsOne f (P n)) (n : ℕ) (done : List X) (rest : List ℕ) (others : List X) (end : List ℕ) → AllAlong next P n done → AllAlong next P n others → concat (map f done) ++ rest ≡ concat (map f others) ++ end → length done < length others
    → ((x : X) (behind : List ℕ) → rest ≡ f x ++ behind → P (along next n done) x → ⊥) → ⊥
stands_next f next P one n [] rest [] end hd ho e l none = absurd (omega arith)
stands_next f next P one n [] rest (y ∷ ys) end hd ho e l none = none y (concat (map f ys) ++ end) (e ∙ append_assoc (f y) (concat (map f ys)) end) ho.0
stands_next f next P one n (x ∷ done) rest [] end hd ho e l none = absurd (omega arith)
stands_next {X} f next P one n (x ∷ done) rest (y ∷ ys) end hd ho e l none =
    let both = one n x y (concat (map f done) ++ rest) (concat (map f ys) ++ end) hd.0 ho.0 (sym (append_assoc (f x) (concat (map f done)) rest) ∙ e ∙ append_assoc (f y) (concat (map f ys)) end) in
    let A : X → Type 0 = λ z. AllAlong next P (next n z) ys in
    stands_next f next P one (next n x) done rest ys end hd.1 (subst A (sym both.0) ho.1) both.1 (omega arith) none

-- a sequence of equal length with the same bytes is equal, and the same bytes follow it
pub same_sequence : {X : Type 0} (f : X → List ℕ) (next : ℕ → X → ℕ) (P : ℕ → X → Type 0) (one : (n : ℕ) → BeginsOne f (P n)) (n : ℕ) (done : List X) (rest : List ℕ) (others : List X) (end : List ℕ) → AllAlong next P n done → AllAlong next P n others → concat (map f done) ++ rest ≡ concat (map f others) ++ end → length done ≡ length others → (done ≡ others) × (rest ≡ end)
same_sequence f next P one n [] rest [] end hd ho e l = (refl, e)
same_sequence f next P one n [] rest (y ∷ ys) end hd ho e l = absurd (omega arith)
same_sequence f next P one n (x ∷ done) rest [] end hd ho e l = absurd (omega arith)
same_sequence {X} f next P one n (x ∷ done) rest (y ∷ ys) end hd ho e l =
    let both = one n x y (concat (map f done) ++ rest) (concat (map f ys) ++ end) hd.0 ho.0 (sym (append_assoc (f x) (concat (map f done)) rest) ∙ e ∙ append_assoc (f y) (concat (map f ys)) end) in
    let A : X → Type 0 = λ z. AllAlong next P (next n z) ys in
    let deeper = same_sequence f next P one (next n x) done rest ys end hd.1 (subst A (sym both.0) ho.1) both.1 (omega arith) in
    (ap (λ (z : X). z ∷ done) both.0 ∙ ap (λ (zs : List X). y ∷ zs) deeper.0, deeper.1)
