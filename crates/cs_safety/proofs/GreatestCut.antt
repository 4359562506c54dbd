-- The greatest of some values that is not above a value, and the least value of a kind.
use Rattle.std.proofs.Common.{◌≡◌, ℕ, ◌<◌, List, [], ◌∷◌, refl, sym, ap, subst, ◌∙◌, Bool, true, false, cond, ◌&&◌, inl, inr, arith, lit<, ◌==◌, eqb-true, eq-eqb, pos, negsuc, ℤ, Ordering}
use Rattle.std.specs.Prelude.{FitsSigned}
use Rattle.std.specs.Int.{w64}
use Rattle.std.specs.Ordering.{is_le, ordering_reverse, int_cmp}
use Rattle.std.specs.Cmp.{tied_itself, int_cmp_total}
use Rattle.std.specs.declared.cmp.Ordering.TheVariants.{Less, Equal, Greater}
use borrow.Author.Tests.{lt-ltb}
use Rattle.cs_schema.specs.declared.kinds.Kind.{Kind}
use Rattle.cs_schema.specs.declared.cells.Value.{Value}
use Rattle.cs_schema.specs.Lists.{IsIn}
use Rattle.cs_schema.specs.Values.{value_cmp, IsOfKind, IsLeastOfKind}
use Rattle.cs_schema.specs.ValueOrder.{value_cmp_total, value_cmp-IsAntisymmetric}
use Rattle.cs_safety.specs.SafetyCuts.{least_of, greatest_below}
use Rattle.cs_schema.proofs.Ascending.{false≢true}

-- ---- values that are not above others

abbrev pub AtMost : Value → Value → Type 0
AtMost x y = is_le (value_cmp x y) ≡ true

at_most_self : (x : Value) → AtMost x x
at_most_self x = ap is_le (tied_itself value_cmp_total x)

at_most_trans : (x y z : Value) → AtMost x y → AtMost y z → AtMost x z
at_most_trans x y z a b = go (value_cmp x y) refl (value_cmp y z) refl a b
  where
    go : (o : Ordering) → value_cmp x y ≡ o → (p : Ordering) → value_cmp y z ≡ p → is_le o ≡ true → is_le p ≡ true → AtMost x z
    go Less e Less f i j = ap is_le (value_cmp_total.trans x y z e f)
    go Less e Equal f i j = subst (AtMost x) (value_cmp-IsAntisymmetric y z f) (ap is_le e)
    go Equal e p f i j = subst (λ w. AtMost w z) (sym (value_cmp-IsAntisymmetric x y e)) b
    go Greater e p f i j = false≢true i
    go Less e Greater f i j = false≢true j

or_other : (x y : Value) → is_le (value_cmp x y) ≡ false → AtMost y x
or_other x y a = go (value_cmp x y) refl a
  where
    go : (o : Ordering) → value_cmp x y ≡ o → is_le o ≡ false → AtMost y x
    go Greater e i = ap is_le (value_cmp_total.antisymm y x ∙ ap ordering_reverse e)
    go Less e i = false≢true (sym i)
    go Equal e i = false≢true (sym i)

-- ---- the greatest cut that is not above a value

both_true : (b c : Bool) → (b && c) ≡ true → (b ≡ true) × (c ≡ true)
both_true true c e = (refl, e)
both_true false c e = false≢true e

module _ (d v : Value) where
  pub greatest_at_most : AtMost d v → (cs : List Value) → AtMost (greatest_below d v cs) v
  greatest_at_most l [] = l
  greatest_at_most l (c ∷ cs) = go (is_le (value_cmp c v) && is_le (value_cmp (greatest_below d v cs) c)) refl (greatest_at_most l cs)
    where
      go : (b : Bool) → (is_le (value_cmp c v) && is_le (value_cmp (greatest_below d v cs) c)) ≡ b → AtMost (greatest_below d v cs) v → AtMost (cond b c (greatest_below d v cs)) v
      go true e h = (both_true (is_le (value_cmp c v)) (is_le (value_cmp (greatest_below d v cs) c)) e).0
      go false e h = h

  pub greatest_is : (cs : List Value) (c : Value) → IsIn c cs → AtMost c v → AtMost c (greatest_below d v cs)
  greatest_is [] c h l = absurd h
  greatest_is (x ∷ cs) c h l = go (is_le (value_cmp x v)) refl (is_le (value_cmp (greatest_below d v cs) x)) refl h (λ k. greatest_is cs c k l)
    where
      go : (a : Bool) → is_le (value_cmp x v) ≡ a → (b : Bool) → is_le (value_cmp (greatest_below d v cs) x) ≡ b → IsIn c (x ∷ cs) → (IsIn c cs → AtMost c (greatest_below d v cs)) → AtMost c (cond (a && b) x (greatest_below d v cs))
      go true e true f (inl k) r = subst (λ w. AtMost w x) (sym k) (at_most_self x)
      go true e true f (inr k) r = at_most_trans c (greatest_below d v cs) x (r k) f
      go true e false f (inl k) r = subst (λ w. AtMost w (greatest_below d v cs)) (sym k) (or_other (greatest_below d v cs) x f)
      go true e false f (inr k) r = r k
      go false e b f (inl k) r = false≢true (sym e ∙ ap (λ w. is_le (value_cmp w v)) (sym k) ∙ l)
      go false e b f (inr k) r = r k

  pub greatest_from : (P : Value → Type 0) → P d → (cs : List Value) → ((c : Value) → IsIn c cs → P c) → P (greatest_below d v cs)
  greatest_from P h [] f = h
  greatest_from P h (c ∷ cs) f = go (is_le (value_cmp c v) && is_le (value_cmp (greatest_below d v cs) c)) (greatest_from P h cs (λ x i. f x (inr i)))
    where
      go : (b : Bool) → P (greatest_below d v cs) → P (cond b c (greatest_below d v cs))
      go true r = f c (inl refl)
      go false r = r

  -- each cut is not above the value where it is not above the greatest
  pub same_side : AtMost d v → (cs : List Value) (c : Value) → IsIn c cs → is_le (value_cmp c (greatest_below d v cs)) ≡ is_le (value_cmp c v)
  same_side l cs c h = go (is_le (value_cmp c (greatest_below d v cs))) refl (is_le (value_cmp c v)) refl
    where
      go : (a : Bool) → is_le (value_cmp c (greatest_below d v cs)) ≡ a → (b : Bool) → is_le (value_cmp c v) ≡ b → is_le (value_cmp c (greatest_below d v cs)) ≡ is_le (value_cmp c v)
      go true e true f = e ∙ sym f
      go false e false f = e ∙ sym f
      go true e false f = false≢true (sym f ∙ at_most_trans c (greatest_below d v cs) v e (greatest_at_most l cs))
      go false e true f = false≢true (sym e ∙ greatest_is cs c h f)

-- ---- the least value of a kind

least_int : (x : ℤ) → FitsSigned w64 x → is_le (int_cmp (negsuc 9223372036854775807) x) ≡ true
least_int (pos n) f = refl
least_int (negsuc n) f = go (n == 9223372036854775807) refl
  where
    go : (b : Bool) → (n == 9223372036854775807) ≡ b → is_le (int_cmp (negsuc 9223372036854775807) (negsuc n)) ≡ true
    go true e = subst (λ m. is_le (int_cmp (negsuc 9223372036854775807) (negsuc m)) ≡ true) (sym (eqb-true n 9223372036854775807 e)) (ap is_le (tied_itself int_cmp_total (negsuc 9223372036854775807)))
    go false e =
        let ne : n ≡ 9223372036854775807 → ⊥ = λ w. false≢true (sym e ∙ eq-eqb n 9223372036854775807 w) in
        let l = f.sfits in
        let below : n < 9223372036854775807 = omega (arith, l, ne) in
        ap (λ b. is_le (cond b Less (cond (nat_above n) Greater Equal))) (lt-ltb n 9223372036854775807 below)
      where
        nat_above : ℕ → Bool
        nat_above m = Rattle.std.specs.Prelude.nat_lt 9223372036854775807 m

pub least_at_most : (k : Kind) (v : Value) → IsOfKind k v → AtMost (least_of k) v
least_at_most Kind.Int (Value.Int x) h = least_int x h
least_at_most Kind.Text (Value.Text []) h = refl
least_at_most Kind.Text (Value.Text (x ∷ xs)) h = refl
least_at_most Kind.Int (Value.Text b) h = absurd h
least_at_most Kind.Text (Value.Int x) h = absurd h

pub least_kind : (k : Kind) → IsOfKind k (least_of k)
least_kind Kind.Int = record { sfits = lit< tt }
least_kind Kind.Text = (([], (refl, refl)), omega arith)

both_at_most : (x y : Value) → AtMost x y → AtMost y x → x ≡ y
both_at_most x y a b = go (value_cmp x y) refl a
  where
    go : (o : Ordering) → value_cmp x y ≡ o → is_le o ≡ true → x ≡ y
    go Less e i = false≢true (sym (ap is_le (value_cmp_total.antisymm y x ∙ ap ordering_reverse e)) ∙ b)
    go Equal e i = value_cmp-IsAntisymmetric x y e
    go Greater e i = false≢true i

-- a kind has one least value
pub one_least : (k : Kind) (v : Value) → IsLeastOfKind k v → v ≡ least_of k
one_least k v h = both_at_most v (least_of k) (h.at_most (least_of k) (least_kind k)) (least_at_most k v h.of_kind)
