-- A part of a column that fits a code fits it as well.
use Rattle.std.proofs.Common.{◌≡◌, ℕ, ℤ, List, [], ◌∷◌, ◌++◌, take, drop, map, refl, sym, subst, arith, inl, inr}
use Rattle.std.proofs.lemmas.List.{length-append, map-append, take-append-drop}
use Rattle.cs_schema.specs.declared.kinds.Code.{Code}
use Rattle.cs_schema.specs.declared.kinds.Kind.{Kind}
use Rattle.cs_schema.specs.declared.cells.Value.{Value}
use Rattle.cs_schema.specs.Lists.{IsIn}
use Rattle.cs_codec.specs.Texts.{NeverFalls, NeverFallsFrom}
use Rattle.cs_codec.specs.ColumnText.{int_of, FitsCode, FitsColumn}
use Rattle.cs_piece.specs.Columns.{CanEncode}

falls_front : (before : ℤ) (x y : List ℤ) → NeverFallsFrom before (x ++ y) → NeverFallsFrom before x
falls_front before [] y h = tt
falls_front before (a ∷ x) y h = (h.0, falls_front a x y h.1)

pub NeverFalls-front : (x y : List ℤ) → NeverFalls (x ++ y) → NeverFalls x
NeverFalls-front [] y h = tt
NeverFalls-front (a ∷ x) y h = falls_front a x y h

falls_any : (before : ℤ) (y : List ℤ) → NeverFallsFrom before y → NeverFalls y
falls_any before [] h = tt
falls_any before (b ∷ y) h = h.1

falls_back : (before : ℤ) (x y : List ℤ) → NeverFallsFrom before (x ++ y) → NeverFalls y
falls_back before [] y h = falls_any before y h
falls_back before (a ∷ x) y h = falls_back a x y h.1

pub NeverFalls-back : (x y : List ℤ) → NeverFalls (x ++ y) → NeverFalls y
NeverFalls-back [] y h = h
NeverFalls-back (a ∷ x) y h = falls_back a x y h

none_front : (x y : List Value) → x ++ y ≡ [] → x ≡ []
none_front [] y e = refl
none_front (a ∷ x) y e = absurd cc

none_back : (x y : List Value) → x ++ y ≡ [] → y ≡ []
none_back [] y e = e
none_back (a ∷ x) y e = absurd cc

order_front : (code : Code) (kind : Kind) (x y : List Value) → FitsCode code kind (x ++ y) → FitsCode code kind x
order_front Code.Differences Kind.Int x y h = NeverFalls-front (map int_of x) (map int_of y) (subst (λ (z : List ℤ). NeverFalls z) (map-append int_of x y) h)
order_front Code.Differences Kind.Text x y h = none_front x y h
order_front Code.Runs kind x y h = tt
order_front Code.Bitmaps kind x y h = tt
order_front Code.Plain kind x y h = tt

order_back : (code : Code) (kind : Kind) (x y : List Value) → FitsCode code kind (x ++ y) → FitsCode code kind y
order_back Code.Differences Kind.Int x y h = NeverFalls-back (map int_of x) (map int_of y) (subst (λ (z : List ℤ). NeverFalls z) (map-append int_of x y) h)
order_back Code.Differences Kind.Text x y h = none_back x y h
order_back Code.Runs kind x y h = tt
order_back Code.Bitmaps kind x y h = tt
order_back Code.Plain kind x y h = tt

is_in_front : (v : Value) (x y : List Value) → IsIn v x → IsIn v (x ++ y)
is_in_front v [] y m = absurd m
is_in_front v (a ∷ x) y (inl e) = inl e
is_in_front v (a ∷ x) y (inr m) = inr (is_in_front v x y m)

is_in_back : (v : Value) (x y : List Value) → IsIn v y → IsIn v (x ++ y)
is_in_back v [] y m = m
is_in_back v (a ∷ x) y m = inr (is_in_back v x y m)

pub CanEncode-front : (code : Code) (kind : Kind) (x y : List Value) → CanEncode code kind (x ++ y) → CanEncode code kind x
CanEncode-front code kind x y h = let count = h.count in record { count = omega (arith, length-append x y); order = order_front code kind x y h.order }

pub CanEncode-back : (code : Code) (kind : Kind) (x y : List Value) → CanEncode code kind (x ++ y) → CanEncode code kind y
CanEncode-back code kind x y h = let count = h.count in record { count = omega (arith, length-append x y); order = order_back code kind x y h.order }

pub FitsColumn-front : (code : Code) (kind : Kind) (x y : List Value) → FitsColumn code kind (x ++ y) → FitsColumn code kind x
FitsColumn-front code kind x y h = let count = h.count in record { count = omega (arith, length-append x y); cells = λ v m. h.cells v (is_in_front v x y m); order = order_front code kind x y h.order }

pub FitsColumn-back : (code : Code) (kind : Kind) (x y : List Value) → FitsColumn code kind (x ++ y) → FitsColumn code kind y
FitsColumn-back code kind x y h = let count = h.count in record { count = omega (arith, length-append x y); cells = λ v m. h.cells v (is_in_back v x y m); order = order_back code kind x y h.order }

-- the first n cells
pub FitsColumn-take : (code : Code) (kind : Kind) (n : ℕ) (v : List Value) → FitsColumn code kind v → FitsColumn code kind (take n v)
FitsColumn-take code kind n v h = FitsColumn-front code kind (take n v) (drop n v) (subst (λ (z : List Value). FitsColumn code kind z) (sym (take-append-drop n v)) h)

-- the cells from position n on
pub FitsColumn-drop : (code : Code) (kind : Kind) (n : ℕ) (v : List Value) → FitsColumn code kind v → FitsColumn code kind (drop n v)
FitsColumn-drop code kind n v h = FitsColumn-back code kind (take n v) (drop n v) (subst (λ (z : List Value). FitsColumn code kind z) (sym (take-append-drop n v)) h)

-- a column that fits can be encoded
pub FitsColumn-CanEncode : (code : Code) (kind : Kind) (v : List Value) → FitsColumn code kind v → CanEncode code kind v
FitsColumn-CanEncode code kind v h = record { count = h.count; order = h.order }
