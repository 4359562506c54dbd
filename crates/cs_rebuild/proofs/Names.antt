-- The names of one segment's files, in order.
use Rattle.std.proofs.Common.{◌≡◌, ℕ, ◌+◌, ◌<◌, List, [], ◌∷◌, ◌++◌, map, length, refl, sym, ap, ◌∙◌, subst, Bool, true, false, inl, inr, arith, append-nil}
use Rattle.std.specs.Prelude.{nat_lt, cond, ◌==◌}
use Rattle.std.specs.List.{filter}
use Rattle.std.specs.Ordering.{ordering_then, nat_cmp}
use Rattle.std.specs.Cmp.{nat_cmp_is}
use Rattle.std.specs.Cmp.Lexicographic.{slice_cmp}
use Rattle.std.specs.declared.cmp.Ordering.TheVariants.{Less, Equal, Greater}
use borrow.Author.Tests.{ltb-true}
use Rattle.cs_schema.proofs.Ascending.{less≢equal, less≢greater, filter_in}
use Rattle.cs_schema.proofs.Lists.{in_map, in_append, range_in}
use Rattle.cs_schema.specs.declared.file_name.FileName.{FileName}
use Rattle.cs_store.specs.declared.fault.Fault.{Fault}
use Rattle.cs_schema.specs.CatalogData.{CatalogData, HasSegment, has_join}
use Rattle.cs_schema.specs.CatalogRules.{IsCatalog}
use Rattle.cs_schema.specs.FileNames.{FileContents, HasName, name_cmp, name_key, projection_of, segment_of}
use Rattle.cs_schema.specs.Lists.{IsIn, numbers_below}
use Rattle.cs_jix.specs.JoinIndex.{Place}
use Rattle.cs_segment.specs.SegmentData.{SegmentData}
use Rattle.cs_recovery.specs.Contents.{IsJoinOf}
use Rattle.cs_recovery.specs.Verdicts.{IsSound}
use Rattle.std.proofs.lemmas.List.{map-append}
use Rattle.std.proofs.lemmas.List.Elements.{filter-append}
use Rattle.std.proofs.lemmas.List.FromFn.{map-range_with_len_more}
use Rattle.cs_rebuild.specs.Reading.{IsRefused, IsNameOf, AreSoundFiles, IsFirstBadOf, IsFirstBadJoin, HoldsBase}

-- the part of a name after its segment
abbrev pub tail_of : FileName → List ℕ
tail_of (FileName.Seg p s) = 0 ∷ []
tail_of (FileName.Del p s) = 1 ∷ []
tail_of (FileName.Jix p s q) = 2 ∷ q ∷ []

same_head : (x y : ℕ) (xs ys : List ℕ) → x ≡ y → slice_cmp nat_cmp (x ∷ xs) (y ∷ ys) ≡ slice_cmp nat_cmp xs ys
same_head x y xs ys e = ap (λ o. ordering_then o (slice_cmp nat_cmp xs ys)) (sym (nat_cmp_is x y Equal e))

pub key_tail : (n : FileName) → name_key n ≡ projection_of n ∷ segment_of n ∷ tail_of n
key_tail (FileName.Seg p s) = refl
key_tail (FileName.Del p s) = refl
key_tail (FileName.Jix p s q) = refl

pub name_tail : (m n : FileName) → projection_of m ≡ projection_of n → segment_of m ≡ segment_of n → name_cmp m n ≡ slice_cmp nat_cmp (tail_of m) (tail_of n)
name_tail m n e f =
    ap (λ k. slice_cmp nat_cmp k (name_key n)) (key_tail m) ∙ ap (λ k. slice_cmp nat_cmp (projection_of m ∷ segment_of m ∷ tail_of m) k) (key_tail n)
    ∙ same_head (projection_of m) (projection_of n) (segment_of m ∷ tail_of m) (segment_of n ∷ tail_of n) e ∙ same_head (segment_of m) (segment_of n) (tail_of m) (tail_of n) f

less_head : (x y : ℕ) → ordering_then (nat_cmp x y) Equal ≡ Less → x < y
less_head x y h = go (nat_lt x y) refl
  where
    go : (b : Bool) → nat_lt x y ≡ b → x < y
    go true e = ltb-true x y e
    go false e = go2 (x == y) refl
      where
        go2 : (t : Bool) → (x == y) ≡ t → x < y
        go2 true k = less≢equal (sym h ∙ ap (λ b. ordering_then (cond b Less (cond (x == y) Equal Greater)) Equal) e ∙ ap (λ b. ordering_then (cond b Equal Greater) Equal) k)
        go2 false k = less≢greater (sym h ∙ ap (λ b. ordering_then (cond b Less (cond (x == y) Equal Greater)) Equal) e ∙ ap (λ b. ordering_then (cond b Equal Greater) Equal) k)

module _ (C : CatalogData) (F : FileContents) (p s : ℕ) (there : HasSegment C p s) where
  earlier : (m n : FileName) → IsNameOf (p, s) m → IsNameOf (p, s) n → name_cmp m n ≡ Less → slice_cmp nat_cmp (tail_of m) (tail_of n) ≡ Less
  earlier m n a b e = sym (name_tail m n (a.0 ∙ sym b.0) (a.1 ∙ sym b.1)) ∙ e

  pub bad_base : (f : Fault) → IsRefused C F (FileName.Seg p s) f → IsFirstBadOf C F (p, s) f
  bad_base f h = record { name = FileName.Seg p s; has = there; of = (refl, refl); refused = h; before = before }
    where
      before : (m : FileName) → HasName C m → IsNameOf (p, s) m → name_cmp m (FileName.Seg p s) ≡ Less → IsSound C F m
      before (FileName.Seg t u) has of e = less≢equal (sym (earlier (FileName.Seg t u) (FileName.Seg p s) of (refl, refl) e))
      before (FileName.Del t u) has of e = less≢greater (sym (earlier (FileName.Del t u) (FileName.Seg p s) of (refl, refl) e))
      before (FileName.Jix t u r) has of e = less≢greater (sym (earlier (FileName.Jix t u r) (FileName.Seg p s) of (refl, refl) e))

  at_segment : (n : ℕ → ℕ → FileName) (t u : ℕ) → t ≡ p → u ≡ s → IsSound C F (n p s) → IsSound C F (n t u)
  at_segment n t u e f h = subst (λ x. IsSound C F (n x u)) (sym e) (subst (λ y. IsSound C F (n p y)) (sym f) h)

  pub base_sound : (b : SegmentData) → HoldsBase C F p s b → IsSound C F (FileName.Seg p s)
  base_sound b h = (h.bytes, b.base, h.there, h.file)

  pub bad_changes : (f : Fault) → IsSound C F (FileName.Seg p s) → IsRefused C F (FileName.Del p s) f → IsFirstBadOf C F (p, s) f
  bad_changes f base h = record { name = FileName.Del p s; has = there; of = (refl, refl); refused = h; before = before }
    where
      before : (m : FileName) → HasName C m → IsNameOf (p, s) m → name_cmp m (FileName.Del p s) ≡ Less → IsSound C F m
      before (FileName.Seg t u) has of e = at_segment FileName.Seg t u of.0 of.1 base
      before (FileName.Del t u) has of e = less≢equal (sym (earlier (FileName.Del t u) (FileName.Del p s) of (refl, refl) e))
      before (FileName.Jix t u r) has of e = less≢greater (sym (earlier (FileName.Jix t u r) (FileName.Del p s) of (refl, refl) e))

  pub bad_join : (f : Fault) → IsSound C F (FileName.Seg p s) → IsSound C F (FileName.Del p s) → IsFirstBadJoin C F p s f → IsFirstBadOf C F (p, s) f
  bad_join f base changes h = record { name = FileName.Jix p s h.target; has = (there, h.declared); of = (refl, refl); refused = h.refused; before = before }
    where
      before : (m : FileName) → HasName C m → IsNameOf (p, s) m → name_cmp m (FileName.Jix p s h.target) ≡ Less → IsSound C F m
      before (FileName.Seg t u) has of e = at_segment FileName.Seg t u of.0 of.1 base
      before (FileName.Del t u) has of e = at_segment FileName.Del t u of.0 of.1 changes
      before (FileName.Jix t u r) has of e =
          at_segment (λ x y. FileName.Jix x y r) t u of.0 of.1 (h.before r (less_head r h.target (earlier (FileName.Jix t u r) (FileName.Jix p s h.target) of (refl, refl) e)) (ap (λ x. has_join C x r) (sym of.0) ∙ has.1))

  module _ (joins : List (ℕ × List Place)) (n : ℕ) (targets : map (λ j. j.0) joins ≡ filter (has_join C p) (numbers_below n)) (each : (j : ℕ × List Place) → IsIn j joins → IsJoinOf F p s j.0 j.1) where
    pub join_sound : (r : ℕ) → r < n → has_join C p r ≡ true → IsSound C F (FileName.Jix p s r)
    join_sound r low declared =
        let i : IsIn r (filter (has_join C p) (numbers_below n)) = filter_in (has_join C p) (numbers_below n) r (range_in 0 n r (omega arith) (omega arith)) declared in
        let k = in_map (λ (j : ℕ × List Place). j.0) joins r (subst (λ l. IsIn r l) (sym targets) i) in
        subst (λ q. IsSound C F (FileName.Jix p s q)) (sym k.2) (k.0.1, each k.0 k.1)

  pub all_sound : IsCatalog C → IsSound C F (FileName.Seg p s) → IsSound C F (FileName.Del p s) → ((r : ℕ) → r < length C.projections → has_join C p r ≡ true → IsSound C F (FileName.Jix p s r)) → AreSoundFiles C F (p, s)
  all_sound cat base changes joins (FileName.Seg t u) has of = at_segment FileName.Seg t u of.0 of.1 base
  all_sound cat base changes joins (FileName.Del t u) has of = at_segment FileName.Del t u of.0 of.1 changes
  all_sound cat base changes joins (FileName.Jix t u r) has of =
      let declared : has_join C p r ≡ true = ap (λ x. has_join C x r) (sym of.0) ∙ has.1 in
      at_segment (λ x y. FileName.Jix x y r) t u of.0 of.1 (joins r ((cat.projections p there.0).joins r declared).0 declared)

-- ---- the targets

map-same : (xs : List ℕ) → map (λ x. x) xs ≡ xs
map-same [] = refl
map-same (x ∷ xs) = ap (λ l. x ∷ l) (map-same xs)

pub below_one_more : (n : ℕ) → numbers_below (n + 1) ≡ numbers_below n ++ n ∷ []
below_one_more n = sym (map-same (numbers_below (n + 1))) ∙ map-range_with_len_more (λ x. x) 0 n n (omega arith) ∙ ap (λ l. l ++ n ∷ []) (map-same (numbers_below n))

pub one_target : (C : CatalogData) (p q : ℕ) (joins : List (ℕ × List Place)) (e : List Place) → has_join C p q ≡ true → map (λ j. j.0) joins ≡ filter (has_join C p) (numbers_below q) → map (λ j. j.0) (joins ++ (q, e) ∷ []) ≡ filter (has_join C p) (numbers_below (q + 1))
one_target C p q joins e declared h =
    map-append (λ (j : ℕ × List Place). j.0) joins ((q, e) ∷ []) ∙ ap (λ l. l ++ q ∷ []) h
    ∙ sym (ap (filter (has_join C p)) (below_one_more q) ∙ filter-append (has_join C p) (numbers_below q) (q ∷ []) ∙ ap (λ b. filter (has_join C p) (numbers_below q) ++ cond b (q ∷ []) []) declared)

pub no_target : (C : CatalogData) (p q : ℕ) (xs : List ℕ) → has_join C p q ≡ false → xs ≡ filter (has_join C p) (numbers_below q) → xs ≡ filter (has_join C p) (numbers_below (q + 1))
no_target C p q xs declared h =
    h ∙ sym (append-nil (filter (has_join C p) (numbers_below q)))
    ∙ sym (ap (filter (has_join C p)) (below_one_more q) ∙ filter-append (has_join C p) (numbers_below q) (q ∷ []) ∙ ap (λ b. filter (has_join C p) (numbers_below q) ++ cond b (q ∷ []) []) declared)

pub in_push : {X : Type 0} (P : X → Type 0) (xs : List X) (x : X) → ((y : X) → IsIn y xs → P y) → P x → (y : X) → IsIn y (xs ++ x ∷ []) → P y
in_push P xs x h k y i = elim (in_append xs (x ∷ []) y i) [ inl a ↦ h y a | inr b ↦ last b ]
  where
    last : IsIn y (x ∷ []) → P y
    last (inl e) = subst P (sym e) k
    last (inr b) = absurd b
