-- Columns that are appended in place.
use Rattle.std.proofs.Common.{◌≡◌, ◌≢◌, ℕ, zero, suc, ◌+◌, ◌<◌, ◌≤◌, List, [], ◌∷◌, ◌++◌, length, map, get_or, set, take, refl, sym, ap, ◌∙◌, subst, arith, ⊎_elim, get_or-set_same, get_or-set_other, length-append}
use Rattle.std.specs.List.{range_with_len}
use Rattle.std.specs.Prelude.{pos}
use Rattle.std.proofs.lemmas.Bool.{cases_lt}
use Rattle.std.proofs.Math.Seq.{get_or-append_seam}
use Rattle.std.proofs.lemmas.List.{take_all, take_at, get_or-map, get_or_append_left}
use Rattle.std.proofs.lemmas.List.{get_or-append-add}
use Rattle.std.proofs.Math.ListN.{get_or-append}
use Rattle.std.proofs.lemmas.Option.{get_or_from_slice_get, slice_get_within, slice_get-get_or}
use Rattle.cs_schema.proofs.Lists.{at_in, in_at}
use Rattle.cs_schema.specs.declared.kinds.Kind.{Kind}
use Rattle.cs_rows.proofs.RangeLemmas.{range_plus, map_append}
use Rattle.cs_schema.specs.declared.cells.Cells.{Cells}
use Rattle.cs_schema.specs.declared.cells.Value.{Value}
use Rattle.cs_schema.specs.Values.{values, kind_of}
use Rattle.cs_schema.specs.Rows.{cell}
use Rattle.cs_rows.specs.WalkedView.{row_of, rows_of, count_of, walked_data, AreColumns}

-- what holds of n columns and of one more holds of n + 1
pub each_more : (P : ℕ → Cells → Type 0) (xs ys : List Cells) (y : Cells) (n : ℕ) → ys ≡ xs ++ y ∷ [] → length xs ≡ n → ((k : ℕ) (d : Cells) → k < n → P k (get_or xs k d)) → P n y → (k : ℕ) (d : Cells) → k < n + 1 → P k (get_or ys k d)
each_more P xs ys y n e long each here k d h =
    ⊎_elim
    (λ (lt : k < n).
    let inside : k < length xs = omega arith in
    subst (P k) (sym (ap (λ (l : List Cells). get_or l k d) e ∙ get_or_append_left xs (y ∷ []) d k inside)) (each k d lt))
    (λ (ge : n ≤ k).
    let last : k ≡ n = omega arith in
    let same : k ≡ length xs = omega arith in
    let found : get_or ys k d ≡ y = ap (λ (l : List Cells). get_or l k d) e ∙ ap (λ (j : ℕ). get_or (xs ++ y ∷ []) j d) same ∙ get_or-append_seam xs y [] d in
    rw (found, last) here)
    (cases_lt k n)

get_or_any : {X : Type 0} (xs : List X) (i : ℕ) (d e : X) → i < length xs → get_or xs i d ≡ get_or xs i e
get_or_any [] i d e h = absurd (omega arith)
get_or_any (x ∷ xs) zero d e h = refl
get_or_any (x ∷ xs) (suc i) d e h = get_or_any xs i d e (omega arith)

pub rolled_back : (old now others : List Cells) (at rows : ℕ) (cells was : Cells)
    → ((c : ℕ) (d : Cells) → c < length old → length (values (get_or old c d)) ≡ rows)
    → length now ≡ length old
    → ((k : ℕ) (d : Cells) → k < at + 1 → get_or now k d ≡ get_or old k d)
    → ((k : ℕ) (d : Cells) → k < length old → at + 1 ≤ k → values (get_or now k d) ≡ values (get_or old k d) ++ values (get_or others k d))
    → values cells ≡ values was → was ≡ get_or now at was → at < length old
    → (k : ℕ) (d : Cells) → k < length old → take rows (values (get_or (set now at cells) k d)) ≡ values (get_or old k d)
rolled_back old now others at rows cells was long len below above e v h k d l =
    let whole : take rows (values (get_or old k d)) ≡ values (get_or old k d) = take_all rows (values (get_or old k d)) (omega (arith, long k d l)) in
    ⊎_elim
    (λ (lt : k < at).
    let ne : k ≢ at = omega arith in
    ap (λ (x : Cells). take rows (values x)) (get_or-set_other now at k cells d ne ∙ below k d (omega arith)) ∙ whole)
    (λ (ge : at ≤ k).
    ⊎_elim
    (λ (gt : at < k).
    let ne : k ≢ at = omega arith in
    ap (λ (x : Cells). take rows (values x)) (get_or-set_other now at k cells d ne)
    ∙ ap (take rows) (above k d l (omega arith))
    ∙ take_at (values (get_or old k d)) (values (get_or others k d)) rows (long k d l))
    (λ (le : k ≤ at).
    let s : k ≡ at = omega arith in
    let b : at < length now = omega arith in
    ap (λ (n : ℕ). take rows (values (get_or (set now at cells) n d))) s
    ∙ ap (λ (x : Cells). take rows (values x)) (get_or-set_same now at cells d b)
    ∙ ap (take rows) (e ∙ ap values (v ∙ below at was (omega arith) ∙ get_or_any old at was d h ∙ ap (λ (n : ℕ). get_or old n d) (sym s)))
    ∙ whole)
    (cases_lt at k))
    (cases_lt k at)

-- ---- rows of columns of the same length

pub map_same : {X Y : Type 0} (f g : X → Y) (xs ys : List X) → length xs ≡ length ys → ((i : ℕ) (d : X) → i < length xs → f (get_or xs i d) ≡ g (get_or ys i d)) → map f xs ≡ map g ys
map_same f g [] [] e h = refl
map_same f g [] (y ∷ ys) e h = absurd (omega (arith, e))
map_same f g (x ∷ xs) [] e h = absurd (omega (arith, e))
map_same f g (x ∷ xs) (y ∷ ys) e h = λ j. h 0 x (omega arith) j ∷ map_same f g xs ys (omega (arith, e)) (λ i d l. h (suc i) d (omega arith)) j

map_range_same : {Y : Type 0} (f g : ℕ → Y) (a b n : ℕ) → ((k : ℕ) → k < n → f (a + k) ≡ g (b + k)) → map f (range_with_len a n) ≡ map g (range_with_len b n)
map_range_same f g a b zero h = refl
map_range_same f g a b (suc n) h =
    let x : a ≡ a + 0 = omega arith in
    let y : b + 0 ≡ b = omega arith in
    let head : f a ≡ g b = ap f x ∙ h 0 (omega arith) ∙ ap g y in
    let rest = map_range_same f g (a + 1) (b + 1) n (λ k l. let p : a + 1 + k ≡ a + suc k = omega arith in let q : b + suc k ≡ b + 1 + k = omega arith in ap f p ∙ h (suc k) (omega arith) ∙ ap g q) in
    λ j. head j ∷ rest j

pub count_is : (columns : List Cells) (n : ℕ) → 0 < length columns → ((c : ℕ) (d : Cells) → c < length columns → length (values (get_or columns c d)) ≡ n) → count_of columns ≡ n
count_is [] n h k = absurd (omega arith)
count_is (x ∷ xs) n h k = k 0 x h

pub columns_are : (columns : List Cells) (n : ℕ) → 0 < length columns → ((c : ℕ) (d : Cells) → c < length columns → length (values (get_or columns c d)) ≡ n) → AreColumns columns
columns_are columns n some long = record {
  some = some;
  lengths = λ cells i.
      let at = at_in columns cells i in
      let b = slice_get_within columns at.0 cells at.1 in
      ap (λ (x : Cells). length (values x)) (sym (get_or_from_slice_get columns at.0 cells cells at.1)) ∙ long at.0 cells b ∙ sym (count_is columns n some long);
}

pub all_long : (columns : List Cells) → AreColumns columns → (c : ℕ) (d : Cells) → c < length columns → length (values (get_or columns c d)) ≡ count_of columns
all_long columns are c d h = are.lengths (get_or columns c d) (in_at columns c (get_or columns c d) (slice_get-get_or columns c d h))

pub kinds_at : (xs ys : List Cells) → map kind_of xs ≡ map kind_of ys → length xs ≡ length ys → (c : ℕ) (d : Cells) → c < length xs → kind_of (get_or xs c d) ≡ kind_of (get_or ys c d)
kinds_at xs ys e l c d h =
    sym (get_or-map kind_of xs c d Kind.Int h) ∙ ap (λ (ks : List Kind). get_or ks c Kind.Int) e ∙ get_or-map kind_of ys c d Kind.Int (omega arith)

pub kinds_same : (xs ys : List Cells) → length xs ≡ length ys → ((c : ℕ) (d : Cells) → c < length ys → kind_of (get_or xs c d) ≡ kind_of (get_or ys c d)) → map kind_of xs ≡ map kind_of ys
kinds_same xs ys e h = map_same kind_of kind_of xs ys e (λ c d l. h c d (omega arith))

module _ (old more new : List Cells) (n m : ℕ) (some : 0 < length old) (length_more : length more ≡ length old) (length_new : length new ≡ length old) (long_old : (c : ℕ) (d : Cells) → c < length old → length (values (get_or old c d)) ≡ n) (long_more : (c : ℕ) (d : Cells) → c < length more → length (values (get_or more c d)) ≡ m) (ok : (c : ℕ) (d : Cells) → c < length old → values (get_or new c d) ≡ values (get_or old c d) ++ values (get_or more c d)) where
  long_new : (c : ℕ) (d : Cells) → c < length new → length (values (get_or new c d)) ≡ n + m
  long_new c d h =
      let l : c < length old = omega arith in
      ap length (ok c d l) ∙ length-append (values (get_or old c d)) (values (get_or more c d)) ∙ (λ i. long_old c d l i + long_more c d (omega arith) i)

  pub appended_columns : AreColumns new
  appended_columns = columns_are new (n + m) (omega arith) long_new

  front_row : (k : ℕ) → k < n → row_of new k ≡ row_of old k
  front_row k h = map_same (λ (x : Cells). cell (values x) k) (λ (x : Cells). cell (values x) k) new old length_new
      (λ c d l.
      let b : c < length old = omega arith in
      ap (λ (v : List Value). cell v k) (ok c d b) ∙ get_or-append (values (get_or old c d)) (values (get_or more c d)) (Value.Int (pos 0)) k (omega (arith, long_old c d b)))

  back_row : (k : ℕ) → row_of new (n + k) ≡ row_of more k
  back_row k = map_same (λ (x : Cells). cell (values x) (n + k)) (λ (x : Cells). cell (values x) k) new more (length_new ∙ sym length_more)
      (λ c d l.
      let b : c < length old = omega arith in
      ap (λ (v : List Value). cell v (n + k)) (ok c d b)
      ∙ ap (λ (x : ℕ). cell (values (get_or old c d) ++ values (get_or more c d)) (x + k)) (sym (long_old c d b))
      ∙ get_or-append-add (values (get_or old c d)) (values (get_or more c d)) k (Value.Int (pos 0)))

  pub appended_rows : rows_of new (count_of new) ≡ rows_of old (count_of old) ++ rows_of more (count_of more)
  appended_rows =
      let z : (k : ℕ) → 0 + k ≡ k = λ k. omega arith in
      ap (rows_of new) (count_is new (n + m) (omega arith) long_new)
      ∙ ap (map (row_of new)) (range_plus 0 n m)
      ∙ map_append (row_of new) (range_with_len 0 n) (range_with_len (0 + n) m)
      ∙ (λ i. map_range_same (row_of new) (row_of old) 0 0 n (λ k h. front_row (0 + k) (omega arith)) i
      ++ map_range_same (row_of new) (row_of more) (0 + n) 0 m (λ k h. (let w : 0 + n + k ≡ n + k = omega arith in ap (row_of new) w) ∙ back_row k ∙ ap (row_of more) (sym (z k))) i)
      ∙ (λ i. rows_of old (sym (count_is old n some long_old) i) ++ rows_of more (sym (count_is more m (omega arith) long_more) i))

module _ (old new : List Cells) (n : ℕ) (some : 0 < length old) (length_new : length new ≡ length old) (long_old : (c : ℕ) (d : Cells) → c < length old → length (values (get_or old c d)) ≡ n) (kinds : (c : ℕ) (d : Cells) → c < length old → kind_of (get_or new c d) ≡ kind_of (get_or old c d)) (same : (c : ℕ) (d : Cells) → c < length old → values (get_or new c d) ≡ values (get_or old c d)) where
  long_same : (c : ℕ) (d : Cells) → c < length new → length (values (get_or new c d)) ≡ n
  long_same c d h = ap length (same c d (omega arith)) ∙ long_old c d (omega arith)

  pub same_columns : AreColumns new
  same_columns = columns_are new n (omega arith) long_same

  pub same_data : walked_data new ≡ walked_data old
  same_data =
      let counts : count_of new ≡ count_of old = count_is new n (omega arith) long_same ∙ sym (count_is old n some long_old) in
      let rows : rows_of new (count_of new) ≡ rows_of old (count_of old) =
      ap (rows_of new) counts ∙ map_range_same (row_of new) (row_of old) 0 0 (count_of old) (λ k h. map_same (λ (x : Cells). cell (values x) (0 + k)) (λ (x : Cells). cell (values x) (0 + k)) new old length_new (λ c d l. ap (λ (v : List Value). cell v (0 + k)) (same c d (omega arith)))) in
      let ks : map kind_of new ≡ map kind_of old = kinds_same new old length_new kinds in
      λ i. record { kinds = ks i; rows = rows i }
