-- Distances along declared joins: unique, and below the number of projections.
use Rattle.std.proofs.Common.{◌≡◌, ℕ, zero, suc, ◌<◌, ◌≤◌, List, [], ◌∷◌, refl, sym, ap, subst, Bool, true, false, ◌||◌, inl, inr, length, arith, eqb-true, eqb}
use Rattle.std.specs.List.{IsDistinct, list_any}
use Rattle.std.specs.Prelude.{IsTrue}
use Rattle.std.proofs.lemmas.Map.Steps.{length-le_from_distinct_below}
use Rattle.cs_schema.specs.CatalogData.{CatalogData}
use Rattle.cs_schema.specs.Lists.{IsIn}
use Rattle.cs_safety.specs.Paths.{Path, Step, IsDistance}
use Rattle.cs_schema.proofs.Ascending.{false≢true, All-from_in}

pub in_any : (q : ℕ) (xs : List ℕ) → list_any (eqb q) xs ≡ true → IsIn q xs
in_any q [] e = false≢true e
in_any q (x ∷ xs) e = go (eqb q x) refl e (λ k. in_any q xs k)
  where
    go : (b : Bool) → eqb q x ≡ b → (b || list_any (eqb q) xs) ≡ true → (list_any (eqb q) xs ≡ true → IsIn q xs) → IsIn q (x ∷ xs)
    go true k e f = inl (eqb-true q x k)
    go false k e f = inr (f e)

pub differs : (x y : ℕ) → (x ≡ y → ⊥) → (b : Bool) → eqb x y ≡ b → eqb x y ≡ false
differs x y n true e = absurd (n (eqb-true x y e))
differs x y n false e = e

module _ (C : CatalogData) (open_to : ℕ → Bool) (a : ℕ) where
  pub distance_one : (q m n : ℕ) → IsDistance C open_to a q m → IsDistance C open_to a q n → m ≡ n
  distance_one q m n d e =
      let k : m ≤ n = d.least n e.path in
      let l : n ≤ m = e.least m d.path in
      omega arith

  pub path_zero : (q : ℕ) → Path C open_to a q 0 → q ≡ a
  path_zero q Path.start = refl

  -- the last step of a path
  pub last_step : (q n : ℕ) → Path C open_to a q (suc n) → (p : ℕ) × Path C open_to a p n × Step C open_to p q
  last_step q n (Path.join {p = p} h s) = (p, h, s)

  pub path_exists : a < length C.projections → (q n : ℕ) → Path C open_to a q n → q < length C.projections
  path_exists h q zero p = subst (λ w. w < length C.projections) (sym (path_zero q p)) h
  path_exists h q (suc n) p = (last_step q n p).2.exists

  pub path_open : IsTrue (open_to a) → (q n : ℕ) → Path C open_to a q n → IsTrue (open_to q)
  path_open h q zero p = subst (λ w. IsTrue (open_to w)) (sym (path_zero q p)) h
  path_open h q (suc n) p = (last_step q n p).2.may_enter

  before_last : (p q n : ℕ) → Path C open_to a p n → Step C open_to p q → IsDistance C open_to a q (suc n) → IsDistance C open_to a p n
  before_last p q n h s d = record { path = h; least = λ m k. let l : suc n ≤ suc m = d.least (suc m) (Path.join k s) in omega arith }

  -- projections at each distance up to d
  record Chain (d : ℕ) : Type 0 where
    all : List ℕ
    count : length all ≡ suc d
    distinct : IsDistinct eqb all
    near : (v : ℕ) → IsIn v all → (m : ℕ) × (m ≤ d) × IsDistance C open_to a v m

  chain : (d q : ℕ) → IsDistance C open_to a q d → Chain d
  unfolding IsDistinct
  chain zero q h = record { all = q ∷ []; count = refl; distinct = (tt, tt); near = λ v i. only v i }
    where
      only : (v : ℕ) → IsIn v (q ∷ []) → (m : ℕ) × (m ≤ 0) × IsDistance C open_to a v m
      only v (inl e) = (0, omega arith, subst (λ w. IsDistance C open_to a w 0) (sym e) h)
      only v (inr k) = absurd k
  chain (suc d) q h =
      let s = last_step q d h.path in
      let c = chain d s.0 (before_last s.0 q d s.1 s.2 h) in
      record {
        all = q ∷ c.all;
        count = ap suc c.count;
        distinct = (All-from_in (λ v. eqb q v ≡ false) c.all (λ v i. differs q v (λ e. apart v e (c.near v i)) (eqb q v) refl), c.distinct);
        near = λ v i. both v c i;
      }
    where
      apart : (v : ℕ) → q ≡ v → ((m : ℕ) × (m ≤ d) × IsDistance C open_to a v m) → ⊥
      apart v e n =
          let same : n.0 ≡ suc d = distance_one q n.0 (suc d) (subst (λ w. IsDistance C open_to a w n.0) (sym e) n.2) h in
          let l : n.0 ≤ d = n.1 in
          omega arith

      both : (v : ℕ) (c : Chain d) → IsIn v (q ∷ c.all) → (m : ℕ) × (m ≤ suc d) × IsDistance C open_to a v m
      both v c (inl e) = (suc d, omega arith, subst (λ w. IsDistance C open_to a w (suc d)) (sym e) h)
      both v c (inr k) = let n = c.near v k in let l : n.0 ≤ d = n.1 in (n.0, omega arith, n.2)

  -- a distance is below the number of projections
  pub distance_below : a < length C.projections → (q d : ℕ) → IsDistance C open_to a q d → d < length C.projections
  distance_below h q d k =
      let c = chain d q k in
      let l = length-le_from_distinct_below c.all (length C.projections) c.distinct (λ v e. let n = c.near v (in_any v c.all e) in path_exists h v n.0 n.2.path) in
      let e : length c.all ≡ suc d = c.count in
      omega arith
