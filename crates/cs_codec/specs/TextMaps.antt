-- Lists whose cells correspond have the same body, and the body of cells is that of their values under a code.
use Rattle.std.proofs.Common.{◌≡◌, ℕ, ℤ, zero, suc, ◌-◌, Bool, false, not, if◌then◌else◌, List, [], ◌∷◌, ◌++◌, length, map, take, drop, Option, Some, None, refl, sym, ap, ◌∙◌}
use Rattle.std.specs.Prelude.{flat_map, nat_eq}
use Rattle.std.specs.Ordering.{nat_cmp, int_eq, int_cmp}
use Rattle.std.specs.Cmp.Lexicographic.{pointwise, slice_cmp, texts_ties}
use Rattle.std.specs.declared.cmp.Ordering.{Ordering}
use Rattle.std.specs.declared.cmp.Ordering.TheVariants.{Less, Equal, Greater}
use Rattle.cs_schema.specs.declared.kinds.Code.{Code}
use Rattle.cs_schema.specs.declared.cells.Value.{Value}
use Rattle.cs_schema.specs.Values.{value_eq, value_cmp}
use Rattle.cs_codec.specs.Cells.{number, int_cell, text_cell}
use Rattle.cs_codec.specs.Texts.{plain_text, differs, kept, runs_text_from, runs_text, place_value, insert_value, distinct_values, run_lengths, bitmap_lengths, bitmap_text, bitmaps_text, differences_text}
use Rattle.std.proofs.lemmas.List.{drop-map, take-map}
use Rattle.cs_codec.specs.ColumnText.{cell_bytes, int_of, column_text}
use Rattle.cs_codec.specs.RunParts.{front_text, part_text, value_after}

-- f keeps bytes, equality and order
pub record IsSame {C D : Type 0} (f : C → D) (bytes : C → List ℕ) (eq : C → C → Bool) (cmp : C → C → Ordering) (bytes' : D → List ℕ) (eq' : D → D → Bool) (cmp' : D → D → Ordering) : Type 0 where
  pub same_bytes : (x : C) → bytes' (f x) ≡ bytes x
  pub same_eq : (x y : C) → eq' (f x) (f y) ≡ eq x y
  pub same_cmp : (x y : C) → cmp' (f x) (f y) ≡ cmp x y

module _ {C D : Type 0} (f : C → D) (bytes : C → List ℕ) (eq : C → C → Bool) (cmp : C → C → Ordering) (bytes' : D → List ℕ) (eq' : D → D → Bool) (cmp' : D → D → Ordering) (s : IsSame f bytes eq cmp bytes' eq' cmp') where
  pub plain_text-map : (xs : List C) → plain_text bytes' (map f xs) ≡ plain_text bytes xs
  plain_text-map [] = refl
  plain_text-map (x ∷ xs) = ap (λ (w : List ℕ). w ++ plain_text bytes' (map f xs)) (s.same_bytes x) ∙ ap (λ (w : List ℕ). bytes x ++ w) (plain_text-map xs)

  kept-map : (x : C) (xs : List C) → kept eq' (f x) (map f xs) ≡ kept eq x xs
  kept-map x [] = refl
  kept-map x (y ∷ xs) = ap (λ (b : Bool). if b then suc (kept eq' (f y) (map f xs)) else 0) (s.same_eq x y) ∙ ap (λ (n : ℕ). if eq x y then suc n else 0) (kept-map y xs)

  lifted : Option C → Option D
  lifted None = None
  lifted (Some x) = Some (f x)

  differs-map : (before : Option C) (x : C) → differs eq' (lifted before) (f x) ≡ differs eq before x
  unfolding lifted
  differs-map None x = refl
  differs-map (Some y) x = ap not (s.same_eq y x)

  runs-map : (before : Option C) (p : ℕ) (xs : List C) → runs_text_from bytes' eq' (lifted before) p (map f xs) ≡ runs_text_from bytes eq before p xs
  unfolding lifted
  runs-map before p [] = refl
  runs-map before p (x ∷ xs) =
      ap (λ (b : Bool). (if b then bytes' (f x) ++ number p ++ number (suc (kept eq' (f x) (map f xs))) else []) ++ runs_text_from bytes' eq' (Some (f x)) (suc p) (map f xs)) (differs-map before x)
      ∙ ap (λ (w : List ℕ). (if differs eq before x then w ++ number p ++ number (suc (kept eq' (f x) (map f xs))) else []) ++ runs_text_from bytes' eq' (Some (f x)) (suc p) (map f xs)) (s.same_bytes x)
      ∙ ap (λ (n : ℕ). (if differs eq before x then bytes x ++ number p ++ number (suc n) else []) ++ runs_text_from bytes' eq' (Some (f x)) (suc p) (map f xs)) (kept-map x xs)
      ∙ ap (λ (w : List ℕ). (if differs eq before x then bytes x ++ number p ++ number (suc (kept eq x xs)) else []) ++ w) (runs-map (Some x) (suc p) xs)

  after-map : (before : Option C) (xs : List C) → value_after (lifted before) (map f xs) ≡ lifted (value_after before xs)
  unfolding lifted
  after-map before [] = refl
  after-map before (x ∷ xs) = after-map (Some x) xs

  front-map : (before : Option C) (p n : ℕ) (xs : List C) → front_text bytes' eq' (lifted before) p n (map f xs) ≡ front_text bytes eq before p n xs
  unfolding lifted
  front-map before p zero xs = refl
  front-map before p (suc n) [] = refl
  front-map before p (suc n) (x ∷ xs) =
      ap (λ (b : Bool). (if b then bytes' (f x) ++ number p ++ number (suc (kept eq' (f x) (map f xs))) else []) ++ front_text bytes' eq' (Some (f x)) (suc p) n (map f xs)) (differs-map before x)
      ∙ ap (λ (w : List ℕ). (if differs eq before x then w ++ number p ++ number (suc (kept eq' (f x) (map f xs))) else []) ++ front_text bytes' eq' (Some (f x)) (suc p) n (map f xs)) (s.same_bytes x)
      ∙ ap (λ (k : ℕ). (if differs eq before x then bytes x ++ number p ++ number (suc k) else []) ++ front_text bytes' eq' (Some (f x)) (suc p) n (map f xs)) (kept-map x xs)
      ∙ ap (λ (w : List ℕ). (if differs eq before x then bytes x ++ number p ++ number (suc (kept eq x xs)) else []) ++ w) (front-map (Some x) (suc p) n xs)

  pub part-map : (xs : List C) (start stop : ℕ) → part_text bytes' eq' (map f xs) start stop ≡ part_text bytes eq xs start stop
  unfolding lifted
  part-map xs start stop =
      ap (λ (ys : List D). front_text bytes' eq' (value_after None (take start (map f xs))) (suc start) (stop - start) ys) (drop-map f start xs)
      ∙ ap (λ (ys : List D). front_text bytes' eq' (value_after None ys) (suc start) (stop - start) (map f (drop start xs))) (take-map f start xs)
      ∙ ap (λ (before : Option D). front_text bytes' eq' before (suc start) (stop - start) (map f (drop start xs))) (after-map None (take start xs))
      ∙ front-map (value_after None (take start xs)) (suc start) (stop - start) (drop start xs)

  pub runs_text-map : (xs : List C) → runs_text bytes' eq' (map f xs) ≡ runs_text bytes eq xs
  unfolding lifted
  runs_text-map xs = runs-map None 1 xs

  place-map : (o : Ordering) (x y : C) (ys : List C) (deeper : List C) → place_value o (f x) (f y) (map f ys) (map f deeper) ≡ map f (place_value o x y ys deeper)
  place-map Less x y ys deeper = refl
  place-map Equal x y ys deeper = refl
  place-map Greater x y ys deeper = refl

  insert-map : (x : C) (ys : List C) → insert_value cmp' (f x) (map f ys) ≡ map f (insert_value cmp x ys)
  insert-map x [] = refl
  insert-map x (y ∷ ys) =
      ap (λ (o : Ordering). place_value o (f x) (f y) (map f ys) (insert_value cmp' (f x) (map f ys))) (s.same_cmp x y)
      ∙ ap (λ (zs : List D). place_value (cmp x y) (f x) (f y) (map f ys) zs) (insert-map x ys)
      ∙ place-map (cmp x y) x y ys (insert_value cmp x ys)

  distinct-map : (xs : List C) → distinct_values cmp' (map f xs) ≡ map f (distinct_values cmp xs)
  distinct-map [] = refl
  distinct-map (x ∷ xs) = ap (λ (zs : List D). insert_value cmp' (f x) zs) (distinct-map xs) ∙ insert-map x (distinct_values cmp xs)

  bits-map : (x : C) (xs : List C) → map (eq' (f x)) (map f xs) ≡ map (eq x) xs
  bits-map x [] = refl
  bits-map x (y ∷ xs) = ap (λ (b : Bool). b ∷ map (eq' (f x)) (map f xs)) (s.same_eq x y) ∙ ap (λ (bs : List Bool). eq x y ∷ bs) (bits-map x xs)

  bitmap-map : (xs : List C) (x : C) → bitmap_text bytes' eq' (map f xs) (f x) ≡ bitmap_text bytes eq xs x
  bitmap-map xs x =
      ap (λ (bs : List Bool). bytes' (f x) ++ number (length (run_lengths false 0 bs)) ++ flat_map number (run_lengths false 0 bs)) (bits-map x xs)
      ∙ ap (λ (w : List ℕ). w ++ number (length (bitmap_lengths eq x xs)) ++ flat_map number (bitmap_lengths eq x xs)) (s.same_bytes x)

  each-map : (xs ds : List C) → flat_map (bitmap_text bytes' eq' (map f xs)) (map f ds) ≡ flat_map (bitmap_text bytes eq xs) ds
  each-map xs [] = refl
  each-map xs (d ∷ ds) = ap (λ (w : List ℕ). w ++ flat_map (bitmap_text bytes' eq' (map f xs)) (map f ds)) (bitmap-map xs d) ∙ ap (λ (w : List ℕ). bitmap_text bytes eq xs d ++ w) (each-map xs ds)

  pub bitmaps_text-map : (xs : List C) → bitmaps_text bytes' eq' cmp' (map f xs) ≡ bitmaps_text bytes eq cmp xs
  bitmaps_text-map xs = ap (λ (zs : List D). flat_map (bitmap_text bytes' eq' (map f xs)) zs) (distinct-map xs) ∙ each-map xs (distinct_values cmp xs)

-- ---- cells as values

-- the value of a cell has the cell's bytes, equality and order
abbrev pub IsValueOf : {C : Type 0} → (C → Value) → (C → List ℕ) → (C → C → Bool) → (C → C → Ordering) → Type 0
IsValueOf {C} value bytes eq cmp = IsSame value bytes eq cmp cell_bytes value_eq value_cmp

-- the body of a list is that of the column of its values under the code
abbrev pub IsTextOfCode : {C : Type 0} → (C → Value) → Code → (List C → List ℕ) → Type 0
IsTextOfCode {C} value code text = (cells : List C) → text cells ≡ column_text code (map value cells)

module _ {C : Type 0} (value : C → Value) (bytes : C → List ℕ) (eq : C → C → Bool) (cmp : C → C → Ordering) (s : IsValueOf value bytes eq cmp) where
  pub plain_of_code : IsTextOfCode value Code.Plain (plain_text bytes)
  plain_of_code cells = sym (plain_text-map value bytes eq cmp cell_bytes value_eq value_cmp s cells)

  pub runs_of_code : IsTextOfCode value Code.Runs (runs_text bytes eq)
  runs_of_code cells = sym (runs_text-map value bytes eq cmp cell_bytes value_eq value_cmp s cells)

  -- the bytes of some positions are those of their values
  pub part_of_values : (cells : List C) (start stop : ℕ) → part_text bytes eq cells start stop ≡ part_text cell_bytes value_eq (map value cells) start stop
  part_of_values cells start stop = sym (part-map value bytes eq cmp cell_bytes value_eq value_cmp s cells start stop)

  pub bitmaps_of_code : IsTextOfCode value Code.Bitmaps (bitmaps_text bytes eq cmp)
  bitmaps_of_code cells = sym (bitmaps_text-map value bytes eq cmp cell_bytes value_eq value_cmp s cells)

ints_back : (xs : List ℤ) → map int_of (map Value.Int xs) ≡ xs
ints_back [] = refl
ints_back (x ∷ xs) = ap (λ (z : List ℤ). x ∷ z) (ints_back xs)

pub differences_of_code : IsTextOfCode Value.Int Code.Differences differences_text
differences_of_code cells = ap differences_text (sym (ints_back cells))

pub ints_are_values : IsValueOf Value.Int int_cell int_eq int_cmp
ints_are_values = record { same_bytes = λ x. refl; same_eq = λ x y. refl; same_cmp = λ x y. refl }

pub texts_are_values : IsValueOf Value.Text text_cell (pointwise nat_eq) (slice_cmp nat_cmp)
texts_are_values = record { same_bytes = λ x. refl; same_eq = λ x y. sym (texts_ties x y); same_cmp = λ x y. refl }
