-- The columns of a table: owned ones, and borrowed ones that replace them.
use Rattle.std.proofs.Common.{◌≡◌, ℕ, zero, suc, ◌<◌, List, [], ◌∷◌, length, map, take, refl, ap, ◌∙◌, get_or, arith, inl, inr, Option, None, Some}
use Rattle.std.specs.Option.{unwrap_or}
use Rattle.std.proofs.lemmas.List.{take_all}
use Rattle.cs_schema.specs.declared.cells.Cells.{Cells}
use Rattle.cs_schema.specs.Lists.{IsIn}
use Rattle.cs_schema.specs.Values.{values}
use Rattle.cs_rows.specs.TableView.{over}
use Rattle.cs_rows.specs.WalkedView.{count_of, AreColumns}

pub none_borrowed : (owned : List Cells) → over owned [] ≡ owned
unfolding over
none_borrowed [] = refl
none_borrowed (x ∷ xs) = refl

pub count : (owned : List Cells) (borrowed : List (Option Cells)) → length (over owned borrowed) ≡ length owned
unfolding over
count [] borrowed = refl
count (x ∷ xs) [] = refl
count (x ∷ xs) (l ∷ ls) = ap suc (count xs ls)

-- each column is the borrowed one if there is one, else the owned one
pub each : (owned : List Cells) (borrowed : List (Option Cells)) (c : ℕ) (d : Cells) → c < length owned → get_or (over owned borrowed) c d ≡ unwrap_or (get_or borrowed c None) (get_or owned c d)
unfolding over
each [] borrowed c d h = absurd (omega arith)
each (x ∷ xs) [] c d h = refl
each (x ∷ xs) (l ∷ ls) zero d h = refl
each (x ∷ xs) (l ∷ ls) (suc c) d h = each xs ls c d (omega arith)

-- if every column is replaced by a borrowed one, those are the columns
pub all_borrowed : (owned columns : List Cells) → length owned ≡ length columns → over owned (map Some columns) ≡ columns
unfolding over
all_borrowed [] [] e = refl
all_borrowed [] (y ∷ ys) e = absurd (omega arith)
all_borrowed (x ∷ xs) [] e = absurd (omega arith)
all_borrowed (x ∷ xs) (y ∷ ys) e = ap (λ l. y ∷ l) (all_borrowed xs ys (omega arith))

-- if the first n columns were borrowed one by one and there are n, those are the columns
pub borrowed_whole : (owned columns : List Cells) (borrowed : List (Option Cells)) (n : ℕ) → length owned ≡ n → n ≡ length columns → borrowed ≡ map Some (take n columns) → over owned borrowed ≡ columns
borrowed_whole owned columns borrowed n count whole are = ap (over owned) (are ∙ ap (map Some) (take_all n columns (omega arith))) ∙ all_borrowed owned columns (omega arith)

alone : (y : Cells) → AreColumns (y ∷ [])
alone y = record { some = omega arith; lengths = there }
  where
    there : (cells : Cells) → IsIn cells (y ∷ []) → length (values cells) ≡ count_of (y ∷ [])
    there cells (inl e) = ap (λ x. length (values x)) e
    there cells (inr h) = absurd h

-- a table of one column
pub one_column : (x : Cells) (borrowed : List (Option Cells)) → AreColumns (over (x ∷ []) borrowed)
unfolding over
one_column x [] = alone x
one_column x (l ∷ ls) = alone (unwrap_or l x)
