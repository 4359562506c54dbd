-- Fields of records, and columns of which one gets a cell more.
use Rattle.std.proofs.Common.{◌≡◌, ◌≢◌, ℕ, zero, suc, ◌<◌, List, [], ◌∷◌, ◌++◌, subst, length, map, set, get_or, refl, sym, ap, ◌∙◌, arith, Some, get_or-set_same, get_or-set_other}
use Rattle.std.proofs.lemmas.List.{length-map, get_or-map, map-set}
use Rattle.std.proofs.Math.Seq.{map-set_same}
use Rattle.csv.specs.Records.{field_at}
use Rattle.cs_schema.specs.Values.{values, kind_of}
use Rattle.cs_schema.specs.declared.cells.Value.{Value}
use Rattle.cs_csv.specs.Fields.{kind_at, IsCellOf, cell_of}
use Rattle.cs_csv.specs.Faults.{AddsField, cells_at, kinds_of}
use Rattle.cs_schema.specs.declared.kinds.Kind.{Kind}
use Rattle.cs_schema.specs.declared.cells.Cells.{Cells}

pub field_at-is : (xs : List (List ℕ)) (i : ℕ) → i < length xs → field_at xs i ≡ Some (get_or xs i [])
unfolding field_at
field_at-is [] i h = absurd (omega arith)
field_at-is (x ∷ xs) zero h = refl
field_at-is (x ∷ xs) (suc i) h = field_at-is xs i (omega arith)

pub cells_at-is : (l : List Cells) (i : ℕ) (y : Cells) → i < length l → cells_at l i ≡ values (get_or l i y)
cells_at-is l i y h = get_or-map values l i y [] h

pub kind_at-is : (l : List Cells) (i : ℕ) (y : Cells) → i < length l → kind_at (kinds_of l) i ≡ kind_of (get_or l i y)
kind_at-is l i y h = get_or-map kind_of l i y _ h

pub put-kinds : (l : List Cells) (i : ℕ) (x y : Cells) → kind_of x ≡ kind_of (get_or l i y) → kinds_of (set l i x) ≡ kinds_of l
put-kinds l i x y e = map-set_same kind_of l i x y e

pub put-same : (l : List Cells) (i : ℕ) (x : Cells) → i < length l → cells_at (set l i x) i ≡ values x
put-same l i x h =
    let size : i < length (map values l) = omega (arith, length-map l values) in
    ap (λ (m : List (List Value)). get_or m i []) (map-set values l i x) ∙ get_or-set_same (map values l) i (values x) [] size

pub put-other : (l : List Cells) (i j : ℕ) (x : Cells) → j ≢ i → cells_at (set l i x) j ≡ cells_at l j
put-other l i j x ne = ap (λ (m : List (List Value)). get_or m j []) (map-set values l i x) ∙ get_or-set_other (map values l) i j (values x) [] ne

-- columns of the same kinds are as many
pub same-count : (a b : List Cells) → kinds_of a ≡ kinds_of b → length a ≡ length b
same-count a b e = sym (length-map a kind_of) ∙ ap length e ∙ length-map b kind_of

module _ (before now : List Cells) (text : List ℕ) (i : ℕ) (y x : Cells) (h : i < length now) (read : y ≡ get_or now i y) (kinds : kinds_of now ≡ kinds_of before) where
  -- the kind of the column at this place
  pub kind-here : kind_of y ≡ kind_at (kinds_of before) i
  kind-here = ap kind_of read ∙ sym (kind_at-is now i y h) ∙ ap (λ (k : List Kind). kind_at k i) kinds

  pub kinds-kept : kind_of x ≡ kind_of y → kinds_of (set now i x) ≡ kinds_of before
  kinds-kept e = put-kinds now i x y (e ∙ ap kind_of read) ∙ kinds

  module _ (same : cells_at now i ≡ cells_at before i) (fits : IsCellOf (kind_of y) text) (more : values x ≡ values y ++ cell_of (kind_of y) text ∷ []) where
    pub adds-here : AddsField before (set now i x) text i
    adds-here =
        let P : Kind → Type 0 = λ k. IsCellOf k text in
        let old : values y ≡ cells_at before i = ap values read ∙ sym (cells_at-is now i y h) ∙ same in (
          subst P kind-here fits,
          put-same now i x h ∙ more ∙ ap (λ (l : List Value). l ++ cell_of (kind_of y) text ∷ []) old ∙ ap (λ (k : Kind). cells_at before i ++ cell_of k text ∷ []) kind-here,
        )

-- what was added at another place stays so
pub adds-there : (before now : List Cells) (text : List ℕ) (i j : ℕ) (x : Cells) → j ≢ i → AddsField before now text j → AddsField before (set now i x) text j
adds-there before now text i j x ne a = (a.0, put-other now i j x ne ∙ a.1)
