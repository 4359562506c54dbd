-- What a place of a column holds.
use Rattle.std.proofs.Common.{◌≡◌, ℕ, ◌<◌, List, [], ◌∷◌, ◌++◌, suc, zero, length, map, get_or, Option, Some, None, IsTrue, ◌↔◌, Equal, ℤ, pos, refl, sym, ap, ◌∙◌, arith, Less, Greater}
use Rattle.std.specs.Prelude.{slice_get}
use Rattle.std.specs.Option.{option_cmp, option_map}
use Rattle.std.proofs.lemmas.Option.{slice_get-map}
use Rattle.std.proofs.lemmas.List.{length-map, map_push, get_or-map}
use Rattle.std.specs.Cmp.Lexicographic.{slice_cmp}
use Rattle.std.specs.Ordering.{is_eq, nat_cmp}
use Rattle.std.specs.Cmp.{Equal-is, tied_itself}
use Rattle.std.specs.declared.cmp.Ordering.{Ordering}
use Rattle.cs_schema.proofs.Ascending.{false≢true}
use Rattle.cs_schema.specs.Values.{value_cmp}
use Rattle.cs_schema.specs.Rows.{cell}
use Rattle.cs_schema.specs.ValueOrder.{value_cmp_total, value_cmp-IsAntisymmetric}
use Rattle.cs_schema.specs.declared.cells.Value.{Value}
use Rattle.cs_schema.specs.declared.cells.Value.TheVariants.{Int, Text}

-- the text that was read is the one that stands there
pub text_read : (ys : List (List ℕ)) (i : ℕ) (w : List ℕ) → slice_get ys i ≡ Some w → slice_get (map Text ys) i ≡ Some (Text w)
text_read ys i w e = slice_get-map Text ys i ∙ ap (option_map Text) e

-- texts of two columns, by their bytes
compared : (v w : Option (List ℕ)) → option_cmp value_cmp (option_map Text v) (option_map Text w) ≡ option_cmp (slice_cmp nat_cmp) v w
compared None None = refl
compared None (Some w) = refl
compared (Some v) None = refl
compared (Some v) (Some w) = refl

pub texts_compared : (ys zs : List (List ℕ)) (i j : ℕ) → option_cmp value_cmp (slice_get (map Text ys) i) (slice_get (map Text zs) j) ≡ option_cmp (slice_cmp nat_cmp) (slice_get ys i) (slice_get zs j)
texts_compared ys zs i j =
    ap (λ v. option_cmp value_cmp v (slice_get (map Text zs) j)) (slice_get-map Text ys i)
    ∙ ap (λ w. option_cmp value_cmp (option_map Text (slice_get ys i)) w) (slice_get-map Text zs j)
    ∙ compared (slice_get ys i) (slice_get zs j)

cell_text : (ys : List (List ℕ)) (i : ℕ) (w : List ℕ) → slice_get ys i ≡ Some w → cell (map Text ys) i ≡ Text w
cell_text [] i w h = absurd (cc)
cell_text (y ∷ ys) zero w h = cc
cell_text (y ∷ ys) (suc i) w h = cell_text ys i w h

-- a text of another column was added
pub text_pushed : (xs ys : List (List ℕ)) (i : ℕ) (w : List ℕ) → slice_get ys i ≡ Some w → map Text (xs ++ w ∷ []) ≡ map Text xs ++ cell (map Text ys) i ∷ []
text_pushed xs ys i w h = map_push Text xs w ∙ ap (λ v. map Text xs ++ v ∷ []) (sym (cell_text ys i w h))

-- an int of another column was added
pub int_pushed : (xs ys : List ℤ) (i : ℕ) (x : ℤ) → i < length (map Int ys) → x ≡ get_or ys i x → map Int (xs ++ x ∷ []) ≡ map Int xs ++ cell (map Int ys) i ∷ []
int_pushed xs ys i x h e =
    let lt : i < length ys = omega (arith, length-map ys Int) in
    map_push Int xs x ∙ ap (λ v. map Int xs ++ v ∷ []) (sym (get_or-map Int ys i x (Int (pos 0)) lt ∙ ap Int (sym e)))

pub int_before_text : (ys : List ℤ) (zs : List (List ℕ)) (i j : ℕ) → i < length (map Int ys) → j < length (map Text zs) → Less ≡ option_cmp value_cmp (slice_get (map Int ys) i) (slice_get (map Text zs) j)
int_before_text [] zs i j h k = absurd (omega arith)
int_before_text (y ∷ ys) [] i j h k = absurd (omega arith)
int_before_text (y ∷ ys) (z ∷ zs) zero zero h k = refl
int_before_text (y ∷ ys) (z ∷ zs) zero (suc j) h k = int_before_text (y ∷ ys) zs zero j h (omega arith)
int_before_text (y ∷ ys) zs (suc i) j h k = int_before_text ys zs i j (omega arith) k

pub text_after_int : (ys : List (List ℕ)) (zs : List ℤ) (i j : ℕ) → i < length (map Text ys) → j < length (map Int zs) → Greater ≡ option_cmp value_cmp (slice_get (map Text ys) i) (slice_get (map Int zs) j)
text_after_int [] zs i j h k = absurd (omega arith)
text_after_int (y ∷ ys) [] i j h k = absurd (omega arith)
text_after_int (y ∷ ys) (z ∷ zs) zero zero h k = refl
text_after_int (y ∷ ys) (z ∷ zs) zero (suc j) h k = text_after_int (y ∷ ys) zs zero j h (omega arith)
text_after_int (y ∷ ys) zs (suc i) j h k = text_after_int ys zs i j (omega arith) k

ties : (v : Value) → value_cmp v v ≡ Equal
ties v = tied_itself value_cmp_total v

-- cells that tie are equal
pub ties_are_equal : (v w : Option Value) → IsTrue (is_eq (option_cmp value_cmp v w)) ↔ (v ≡ w)
ties_are_equal None None = (λ t. refl, λ e. refl)
ties_are_equal None (Some w) = (λ t. false≢true t, λ e. cc)
ties_are_equal (Some v) None = (λ t. false≢true t, λ e. cc)
ties_are_equal (Some v) (Some w) = (
  λ t. ap Some (value_cmp-IsAntisymmetric v w ((Equal-is (value_cmp v w)).0 t)),
  λ e. let same : v ≡ w = cc in (Equal-is (value_cmp v w)).1 (ap (λ u. value_cmp u w) same ∙ ties w),
)

-- cells whose order is known are the same only where it is that of equals
pub told_apart : (a b : Option Value) (order : Ordering) → order ≡ option_cmp value_cmp a b → IsTrue (is_eq order) ↔ (a ≡ b)
told_apart a b order e = rw e (ties_are_equal a b)

text_in : Value → List ℕ
text_in (Int x) = []
text_in (Text w) = w

texts_in : (v : Option (List ℕ)) → option_map text_in (option_map Text v) ≡ v
unfolding text_in
texts_in None = refl
texts_in (Some w) = refl

-- texts of two columns are the same cells where their bytes are the same
pub texts_same : (ys zs : List (List ℕ)) (i j : ℕ) → (slice_get ys i ≡ slice_get zs j) ↔ (slice_get (map Text ys) i ≡ slice_get (map Text zs) j)
texts_same ys zs i j =
    let y = slice_get-map Text ys i in
    let z = slice_get-map Text zs j in
    (λ e. y ∙ ap (option_map Text) e ∙ sym z, λ e. sym (texts_in (slice_get ys i)) ∙ ap (option_map text_in) (sym y ∙ e ∙ z) ∙ texts_in (slice_get zs j))
