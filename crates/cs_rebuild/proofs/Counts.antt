-- The number of rows of a table.
use Rattle.std.proofs.Common.{◌≡◌, ℕ, suc, List, [], ◌∷◌, length, refl, sym, ap, ◌∙◌, Bool, true, false, ◌||◌, inl, inr, None, Ordering}
use Rattle.std.specs.List.{list_any}
use Rattle.std.specs.Option.{option_or}
use Rattle.cs_store.specs.declared.fault.Fault.{Fault}
use Rattle.cs_schema.specs.CatalogData.{CatalogData}
use Rattle.cs_schema.specs.Rows.{Row, key_cmp, cell}
use Rattle.cs_schema.specs.Lists.{IsIn}
use Rattle.cs_schema.specs.Values.{value_eq}
use Rattle.cs_schema.specs.Order.{placed, ascending, by_order}
use Rattle.cs_order.specs.Tables.{is_twice, table_of}
use Rattle.cs_recovery.specs.Verdicts.{full}
use Rattle.cs_recovery.specs.Tables.{when}
use Rattle.std.specs.Ordering.{is_eq}
use Rattle.std.specs.declared.cmp.Ordering.TheVariants.{Less, Equal, Greater}
use Rattle.std.proofs.lemmas.Bool.{false≢true}
use Rattle.std.proofs.lemmas.Option.{none-some}
use Rattle.cs_rebuild.specs.Steps.{row_fault}

by_order_same : {X : Type 0} (o : Ordering) (f : X → ℕ) (a b c : X) (n : ℕ) → (o ≡ Equal → ⊥) → f a ≡ n → f c ≡ n → f (by_order o a b c) ≡ n
by_order_same Less f a b c n h e g = e
by_order_same Equal f a b c n h e g = absurd (h refl)
by_order_same Greater f a b c n h e g = g

length_placed : {X : Type 0} (cmp : X → X → Ordering) (x : X) (xs : List X) → ((y : X) → IsIn y xs → cmp x y ≡ Equal → ⊥) → length (placed cmp x xs) ≡ suc (length xs)
length_placed cmp x [] h = refl
length_placed cmp x (y ∷ ys) h = by_order_same (cmp x y) length (x ∷ y ∷ ys) (y ∷ ys) (y ∷ placed cmp x ys) (suc (suc (length ys))) (h y (inl refl)) refl (ap (λ n. suc n) (length_placed cmp x ys (λ z i. h z (inr i))))

in_placed : {X : Type 0} (cmp : X → X → Ordering) (x : X) (xs : List X) (z : X) → IsIn z (placed cmp x xs) → IsIn z (x ∷ xs)
in_placed cmp x [] z h = h
in_placed cmp x (y ∷ ys) z h = go (cmp x y) (in_placed cmp x ys z) h
  where
    other : IsIn z (x ∷ ys) → IsIn z (x ∷ y ∷ ys)
    other (inl e) = inl e
    other (inr i) = inr (inr i)

    go : (o : Ordering) → (IsIn z (placed cmp x ys) → IsIn z (x ∷ ys)) → IsIn z (by_order o (x ∷ y ∷ ys) (y ∷ ys) (y ∷ placed cmp x ys)) → IsIn z (x ∷ y ∷ ys)
    go Less f i = i
    go Equal f i = inr i
    go Greater f (inl e) = inr (inl e)
    go Greater f (inr i) = other (f i)

pub in_ascending : {X : Type 0} (cmp : X → X → Ordering) (xs : List X) (z : X) → IsIn z (ascending cmp xs) → IsIn z xs
in_ascending cmp [] z h = h
in_ascending cmp (x ∷ xs) z h = go (in_placed cmp x (ascending cmp xs) z h) (in_ascending cmp xs z)
  where
    go : IsIn z (x ∷ ascending cmp xs) → (IsIn z (ascending cmp xs) → IsIn z xs) → IsIn z (x ∷ xs)
    go (inl e) f = inl e
    go (inr i) f = inr (f i)

any_in : {X : Type 0} (p : X → Bool) (xs : List X) (x : X) → IsIn x xs → p x ≡ true → list_any p xs ≡ true
any_in p [] x h e = absurd h
any_in p (y ∷ ys) x (inl s) e = ap (λ b. b || list_any p ys) (sym (ap p s) ∙ e)
any_in p (y ∷ ys) x (inr h) e = later (p y) (any_in p ys x h e)
  where
    later : (b : Bool) → list_any p ys ≡ true → (b || list_any p ys) ≡ true
    later true k = refl
    later false k = k

left_false : (a b : Bool) → (a || b) ≡ false → a ≡ false
left_false true b e = e
left_false false b e = refl

right_false : (a b : Bool) → (a || b) ≡ false → b ≡ false
right_false true b e = absurd (false≢true (sym e))
right_false false b e = e

-- if no key repeats, the table has as many rows as were walked
pub length_table : (C : CatalogData) (rows : List Row) → is_twice C rows ≡ false → length (table_of C rows) ≡ length rows
length_table C [] h = refl
length_table C (r ∷ rs) h =
    length_placed (key_cmp C) r (table_of C rs) apart ∙ ap (λ n. suc n) (length_table C rs (right_false (list_any (λ x. value_eq (cell r C.key) (cell x C.key)) rs) (is_twice C rs) h))
  where
    apart : (y : Row) → IsIn y (table_of C rs) → key_cmp C r y ≡ Equal → ⊥
    apart y i e =
        false≢true (sym (left_false (list_any (λ x. value_eq (cell r C.key) (cell x C.key)) rs) (is_twice C rs) h)
        ∙ any_in (λ x. value_eq (cell r C.key) (cell x C.key)) rs y (in_ascending (key_cmp C) rs y i) (ap is_eq e))

pub none_twice : (C : CatalogData) (rows : List Row) → row_fault C rows ≡ None → is_twice C rows ≡ false
none_twice C rows h = go (is_twice C rows) refl
  where
    go : (b : Bool) → is_twice C rows ≡ b → is_twice C rows ≡ false
    go true e = absurd (none-some Fault.Twice (sym h ∙ ap (λ b. option_or (when b Fault.Twice) (full C (table_of C rows))) e))
    go false e = e
