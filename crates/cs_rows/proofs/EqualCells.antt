-- Equal cells, and orderings that compare them as equal.
use Rattle.std.proofs.Common.{◌≡◌, refl, sym, ap, ◌∙◌, subst, true, false, true≢false}
use Rattle.std.specs.declared.cmp.Ordering.{Ordering}
use Rattle.std.specs.declared.cmp.Ordering.TheVariants.{Less, Equal, Greater}
use Rattle.std.specs.Ordering.{ordering_then, ordering_reverse, is_lt, is_eq}
use Rattle.std.specs.Cmp.{tied_itself}
use Rattle.cs_schema.specs.declared.cells.Value.{Value}
use Rattle.cs_schema.specs.Values.{value_cmp, value_eq}
use Rattle.cs_schema.specs.ValueOrder.{value_cmp_total, value_cmp-IsAntisymmetric}

pub is_Equal : (r : Ordering) → is_eq r ≡ true → r ≡ Equal
is_Equal Less h = absurd (true≢false (sym h))
is_Equal Equal h = refl
is_Equal Greater h = absurd (true≢false (sym h))

pub same_from_eq : (v w : Value) → value_eq v w ≡ true → v ≡ w
same_from_eq v w h = value_cmp-IsAntisymmetric v w (is_Equal (value_cmp v w) h)

pub tie : (v w : Value) → v ≡ w → value_cmp v w ≡ Equal
tie v w e = subst (λ (x : Value). value_cmp v x ≡ Equal) e (tied_itself value_cmp_total v)

pub eq_from_same : (v w : Value) → v ≡ w → value_eq v w ≡ true
eq_from_same v w e = ap is_eq (tie v w e)

pub not_less : (r s : Ordering) → is_lt (ordering_then r s) ≡ false → is_lt r ≡ false
not_less Less s h = h
not_less Equal s h = refl
not_less Greater s h = refl

pub both_ways : (x y : Value) → is_lt (value_cmp x y) ≡ false → is_lt (value_cmp y x) ≡ false → value_cmp x y ≡ Equal
both_ways x y h k = go (value_cmp x y) (value_cmp y x) (value_cmp_total.antisymm x y) h k
  where
    go : (r s : Ordering) → r ≡ ordering_reverse s → is_lt r ≡ false → is_lt s ≡ false → r ≡ Equal
    go r Less e f g = absurd (true≢false g)
    go r Equal e f g = e
    go r Greater e f g = absurd (true≢false (sym (ap is_lt e) ∙ f))
