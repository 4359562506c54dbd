-- The body of a column that fits is short.
use Rattle.std.proofs.Common.{◌≡◌, ℕ, ◌^◌, ◌<◌, true, List, [], ◌∷◌, length, map, refl, ap, arith, inl, inr}
use Rattle.std.specs.Ordering.{is_eq}
use Rattle.std.specs.declared.cmp.Ordering.{Ordering}
use Rattle.std.specs.declared.cmp.Ordering.TheVariants.{Less, Equal, Greater}
use Rattle.std.specs.List.{AllByRecursion}
use Rattle.std.proofs.lemmas.Cmp.{tied_itself}
use Rattle.std.proofs.lemmas.List.{length-map}
use Rattle.cs_schema.specs.declared.kinds.Code.{Code}
use Rattle.cs_schema.specs.declared.kinds.Kind.{Kind}
use Rattle.cs_schema.specs.declared.cells.Value.{Value}
use Rattle.cs_schema.specs.Values.{value_eq, value_cmp, IsOfKind}
use Rattle.cs_schema.specs.ValueOrder.{value_cmp_total, value_cmp-IsAntisymmetric}
use Rattle.cs_schema.specs.Lists.{IsIn}
use Rattle.cs_codec.specs.Cells.{IsTest}
use Rattle.cs_codec.specs.CellLaws.{length-int_cell}
use Rattle.cs_codec.specs.ColumnText.{cell_bytes, int_of, column_text, FitsColumn}
use Rattle.cs_codec.proofs.TextSizes.{IsSmall, plain_size, runs_size, differences_size, bitmaps_size}
use Rattle.cs_piece.specs.Columns.{ColumnTextsAreShort}

small_cell : (kind : Kind) (x : Value) → IsOfKind kind x → IsSmall cell_bytes x
small_cell Kind.Int (Value.Int z) h = omega (arith, length-int_cell z)
small_cell Kind.Text (Value.Text b) h = let short = h.1 in omega arith
small_cell Kind.Int (Value.Text b) h = absurd h
small_cell Kind.Text (Value.Int z) h = absurd h

small_cells : (kind : Kind) (v : List Value) → ((x : Value) → IsIn x v → IsOfKind kind x) → AllByRecursion (IsSmall cell_bytes) v
small_cells kind [] h = tt
small_cells kind (x ∷ v) h = (small_cell kind x (h x (inl refl)), small_cells kind v (λ y m. h y (inr m)))

values_are_tested : IsTest value_eq
values_are_tested = record { itself = λ x. ap is_eq (tied_itself value_cmp_total x); exact = λ x y e. value_cmp-IsAntisymmetric x y (tie (value_cmp x y) e) }
  where
    tie : (o : Ordering) → is_eq o ≡ true → o ≡ Equal
    tie Less e = absurd cc
    tie Equal e = refl
    tie Greater e = absurd cc

pub column_texts_are_short : ColumnTextsAreShort
column_texts_are_short Code.Runs kind v h =
    let count = h.count in
    omega (arith, runs_size cell_bytes value_eq v (small_cells kind v h.cells))
column_texts_are_short Code.Bitmaps kind v h =
    let count = h.count in
    omega (arith, bitmaps_size cell_bytes value_eq values_are_tested value_cmp value_cmp_total (λ x y. refl) v (small_cells kind v h.cells))
column_texts_are_short Code.Differences kind v h =
    let count = h.count in
    omega (arith, differences_size (map int_of v), length-map v int_of)
column_texts_are_short Code.Plain kind v h =
    let count = h.count in
    omega (arith, plain_size cell_bytes v (small_cells kind v h.cells))

-- what is written for a column that fits is short
pub short_text : (code : Code) (kind : Kind) (v : List Value) (out : List ℕ) → FitsColumn code kind v → out ≡ column_text code v → length out < 2 ^ 32
short_text code kind v out h e = omega (arith, column_texts_are_short code kind v h, ap (λ (w : List ℕ). length w) e)
