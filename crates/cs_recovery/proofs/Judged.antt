-- If a verdict is a table, its rows fit, and the contents of surviving segments are those of the table.
use Rattle.std.proofs.Common.{◌≡◌, ℕ, List, [], ◌∷◌, map, refl, sym, ap, subst, ◌∙◌, Bool, true, false, not, cond, inl, inr, Option, Some, None, length, arith, Result, Ok, Err}
use Rattle.std.specs.Prelude.{nat_lt}
use Rattle.std.specs.List.{filter, find}
use Rattle.std.specs.Option.{option_map, option_or, option_map_or}
use Rattle.std.proofs.lemmas.Option.{none-some}
use borrow.Author.Tests.{ltb-false}
use lib.Pointwise.{pointwise}
use Rattle.cs_schema.specs.declared.file_name.FileName.{FileName}
use Rattle.cs_store.specs.declared.fault.Fault.{Fault}
use Rattle.cs_schema.specs.CatalogData.{CatalogData, HasSegment, segments, has_join}
use Rattle.cs_schema.specs.declared.kinds.Safety.{Safety}
use Rattle.cs_schema.specs.CatalogRules.{IsCatalog}
use Rattle.cs_schema.specs.Rows.{Row, IsRow, IsTable, project, key_cmp}
use Rattle.cs_schema.specs.Lists.{IsIn}
use Rattle.cs_schema.specs.FileNames.{Survives, FileContents}
use Rattle.cs_schema.specs.Losses.{Sites, lost}
use Rattle.cs_schema.specs.Values.{value_eq}
use Rattle.cs_schema.specs.Order.{rows_of, Fits, row_limit}
use Rattle.cs_schema.specs.Lists.{numbers_below}
use Rattle.cs_delta.specs.Image.{image_rows}
use Rattle.cs_safety.specs.PlanData.{PlanData, IsPlan}
use Rattle.cs_rows.specs.Walk.{Contents, At, Stray, walked, walked_row, is_astray, projection_rows}
use Rattle.cs_rows.specs.WalkByRows.{walked_by_rows}
use Rattle.cs_recovery.specs.Holding.{AreContentsOf, HoldsSurvivors, agrees}
use Rattle.cs_recovery.specs.Contents.{Reads}
use Rattle.cs_recovery.specs.Verdicts.{judged, judged_rows, unless_refused, twice, full, misplaced, misled, surviving_segments, surviving_joins, IsVerdict, IsWalkedBy}
use Rattle.cs_recovery.specs.Tables.{when}
use Rattle.cs_order.specs.Tables.{table_of, is_twice, all_segments}
use Rattle.cs_recovery.specs.Places.{entries_for}
use Rattle.cs_schema.proofs.Ascending.{false≢true, filter_in, ascending_sorted, in_ascending}
use Rattle.cs_schema.proofs.RowOrder.{key_total}
use Rattle.cs_schema.proofs.Lists.{map_in, range_in, in_map}
use Rattle.cs_recovery.proofs.WalkedRows.{flat_map_in}
use Rattle.cs_recovery.proofs.Exact.{rows_decide}

abbrev IsOkVerdict : {A E : Type 0} → Result A E → Type 0
IsOkVerdict (Ok x) = Unit {0}
IsOkVerdict (Err e) = ⊥

abbrev or_else : {A E : Type 0} → A → Result A E → A
or_else d (Ok x) = x
or_else d (Err e) = d

none_in_or : {A : Type 0} (o p : Option A) → option_or o p ≡ None → (o ≡ None) × (p ≡ None)
none_in_or None p e = (refl, e)
none_in_or (Some x) p e = absurd (none-some x (sym e))

pub none_mapped : {A B : Type 0} (f : A → B) (o : Option A) → option_map f o ≡ None → o ≡ None
none_mapped f None e = refl
none_mapped f (Some x) e = absurd (none-some (f x) (sym e))

pub all_fail : {X : Type 0} (p : X → Bool) (xs : List X) → find p xs ≡ None → (x : X) → IsIn x xs → p x ≡ false
all_fail p [] e x h = absurd h
all_fail {X} p (y ∷ ys) e x h = go (p y) refl e h (λ f k. all_fail p ys f x k)
  where
    go : (b : Bool) → p y ≡ b → cond b (Some y) (find p ys) ≡ None → IsIn x (y ∷ ys) → (find p ys ≡ None → IsIn x ys → p x ≡ false) → p x ≡ false
    go true k f m r = absurd (none-some y (sym f))
    go false k f (inl a) r = ap p a ∙ k
    go false k f (inr m) r = r f m

pub not_not : (b : Bool) → not b ≡ false → b ≡ true
not_not true e = refl
not_not false e = false≢true (sym e)

not_lost : (b : Bool) → b ≡ false → not b ≡ true
not_lost b e = ap not e

in_segments_list : (C : CatalogData) (p s : ℕ) → HasSegment C p s → IsIn (p, s) (all_segments C)
in_segments_list C p s h =
    flat_map_in (λ q. map (λ t. (q, t)) (numbers_below (segments C q))) (numbers_below (length C.projections)) p (p, s) (range_in 0 (length C.projections) p (omega arith) (omega (arith, h.0)))
    (map_in (λ t. (p, t)) (numbers_below (segments C p)) s (range_in 0 (segments C p) s (omega arith) (omega (arith, h.1))))

pub in_survivors : (C : CatalogData) (L : Sites) (p s : ℕ) → Survives C L (FileName.Seg p s) → IsIn (p, s) (surviving_segments C L)
in_survivors C L p s v = filter_in (λ (a : ℕ × ℕ). not (lost C L a.0 a.1)) (all_segments C) (p, s) (in_segments_list C p s v.0) (not_lost (lost C L p s) v.1)

pub in_joins : (C : CatalogData) → IsCatalog C → (L : Sites) (p s q : ℕ) → Survives C L (FileName.Jix p s q) → IsIn (p, s, q) (surviving_joins C L)
in_joins C cat L p s q v =
    let hq = ((cat.projections p v.0.0.0).joins q v.0.1).0 in
    flat_map_in (λ (a : ℕ × ℕ). map (λ r. (a.0, a.1, r)) (filter (has_join C a.0) (numbers_below (length C.projections)))) (surviving_segments C L) (p, s) (p, s, q) (in_survivors C L p s (v.0.0, v.1))
    (map_in (λ r. (p, s, r)) (filter (has_join C p) (numbers_below (length C.projections))) q (filter_in (has_join C p) (numbers_below (length C.projections)) q (range_in 0 (length C.projections) q (omega arith) (omega (arith, hq))) v.0.1))

-- a verdict that is a table: no fault applied
pub record IsJudged (C : CatalogData) (L : Sites) (S : Contents) (rows T : List Row) : Type 0 where
  pub is : table_of C rows ≡ T
  pub once : is_twice C rows ≡ false
  pub full : full C T ≡ None
  pub misplaced : misplaced C L S T ≡ None
  pub misled : misled C L S T ≡ None

refused_not : {X : Type 0} (o : Option Fault) (x y : X) → unless_refused o x ≡ Ok y → (o ≡ None) × (x ≡ y)
refused_not None x y e = (refl, ap (or_else x) e)
refused_not (Some f) x y e = absurd (subst IsOkVerdict (sym e) tt)

when_not : {X : Type 0} (b : Bool) (x : X) → when b x ≡ None → b ≡ false
when_not true x e = absurd (none-some x (sym e))
when_not false x e = refl

judged_so : (C : CatalogData) (L : Sites) (S : Contents) (rows T : List Row) → judged_rows C L S rows ≡ Ok T → IsJudged C L S rows T
judged_so C L S rows T e =
    let U : List Row = table_of C rows in
    let a = refused_not (option_or (twice C rows) (option_or (full C U) (option_or (misplaced C L S U) (misled C L S U)))) U T e in
    let b = none_in_or (twice C rows) (option_or (full C U) (option_or (misplaced C L S U) (misled C L S U))) a.0 in
    let c = none_in_or (full C U) (option_or (misplaced C L S U) (misled C L S U)) b.1 in
    let d = none_in_or (misplaced C L S U) (misled C L S U) c.1 in
    record {
      is = a.1;
      once = when_not (is_twice C rows) Fault.Twice b.0;
      full = subst (λ V. full C V ≡ None) a.1 c.0;
      misplaced = subst (λ V. misplaced C L S V ≡ None) a.1 d.0;
      misled = subst (λ V. misled C L S V ≡ None) a.1 d.1;
    }

-- if no range is too large, each fits
pub full_fits : (C : CatalogData) (T : List Row) → full C T ≡ None → Fits C T
full_fits C T e p s h =
    let none = none_mapped (λ (a : ℕ × ℕ). Fault.Full a.0 a.1) (find (λ (a : ℕ × ℕ). nat_lt row_limit (length (rows_of C T a.0 a.1))) (all_segments C)) e in
    ltb-false row_limit (length (rows_of C T p s)) (all_fail (λ (a : ℕ × ℕ). nat_lt row_limit (length (rows_of C T a.0 a.1))) (all_segments C) none (p, s) (in_segments_list C p s h))

pub judged_fits : (C : CatalogData) (L : Sites) (S : Contents) (rows T : List Row) → IsJudged C L S rows T → Fits C T
judged_fits C L S rows T j = full_fits C T j.full

pub judged_contents : (C : CatalogData) → IsCatalog C → (L : Sites) (S : Contents) (rows T : List Row) → IsJudged C L S rows T → AreContentsOf C L S T
judged_contents C cat L S rows T j = record {
  images = λ p s v.
      let test : ℕ × ℕ → Bool = λ a. not (pointwise (pointwise value_eq) (image_rows (S.image a.0 a.1)) (map (project C a.0) (rows_of C T a.0 a.1))) in
      let none = none_mapped (λ (a : ℕ × ℕ). Fault.Misplaced a.0 a.1) (find test (surviving_segments C L)) j.misplaced in
      (rows_decide (image_rows (S.image p s)) (map (project C p) (rows_of C T p s))).0 (not_not (pointwise (pointwise value_eq) (image_rows (S.image p s)) (map (project C p) (rows_of C T p s))) (all_fail test (surviving_segments C L) none (p, s) (in_survivors C L p s v)));
  joins = λ p s q v.
      let test : ℕ × ℕ × ℕ → Bool = λ a. not (pointwise (agrees C L a.2) (S.join a.0 a.1 a.2) (entries_for C L S T a.0 a.1 a.2)) in
      let none = none_mapped (λ (a : ℕ × ℕ × ℕ). Fault.Misled a.0 a.1 a.2) (find test (surviving_joins C L)) j.misled in
      not_not (pointwise (agrees C L q) (S.join p s q) (entries_for C L S T p s q)) (all_fail test (surviving_joins C L) none (p, s, q) (in_joins C cat L p s q v));
}

-- the rows of a walk that was not led astray
pub record IsWalked (C : CatalogData) (S : Contents) (P : PlanData) (rows : List Row) : Type 0 where
  pub is : rows ≡ map (walked_row C S P) (projection_rows C S P.anchor)
  pub straight : (at : At) → IsIn at (projection_rows C S P.anchor) → is_astray C S P at ≡ false

walked_so : (C : CatalogData) (S : Contents) (P : PlanData) (rows : List Row) → walked C S P ≡ Ok rows → IsWalked C S P rows
walked_so C S P rows e = go (find (is_astray C S P) (projection_rows C S P.anchor)) refl e
  where
    all : List Row
    all = map (walked_row C S P) (projection_rows C S P.anchor)

    go : (o : Option At) → find (is_astray C S P) (projection_rows C S P.anchor) ≡ o → ◌≡◌ {A = Result (List Row) Stray} (option_map_or (λ (at : At). Err (P.anchor, at.0, at.1)) o (Ok (map (walked_row C S P) (projection_rows C S P.anchor)))) (Ok rows) → IsWalked C S P rows
    go None x y = record { is = sym (ap (or_else rows) y); straight = all_fail (is_astray C S P) (projection_rows C S P.anchor) x }
    go (Some at) x y = absurd (subst IsOkVerdict (sym y) tt)

-- if each walked row is a row of the catalog, their table is a table
pub table_of_rows : (C : CatalogData) (rows : List Row) → ((r : Row) → IsIn r rows → IsRow C r) → IsTable C (table_of C rows)
table_of_rows C rows f = record { rows = λ r h. f r (in_ascending (key_cmp C) (key_total C) rows r h); keys = ascending_sorted (key_cmp C) (key_total C) rows }

pub judged_table : (C : CatalogData) (L : Sites) (S : Contents) (rows T : List Row) → IsJudged C L S rows T → ((r : Row) → IsIn r rows → IsRow C r) → IsTable C T
judged_table C L S rows T j f =
    subst (IsTable C) j.is (table_of_rows C rows f)

-- what remains to be shown of the rows of a walk: their cells have the columns' kinds
abbrev pub WalkKeepsKinds : CatalogData → FileContents → Sites → Type 0
WalkKeepsKinds C F L = (S : Contents) (P : PlanData) → Reads C F L S → IsPlan C L P → (at : At) → IsIn at (projection_rows C S P.anchor) → is_astray C S P at ≡ false → IsRow C (walked_row C S P at)

abbrev pub RowsKeepKinds : CatalogData → FileContents → Sites → Type 0
RowsKeepKinds C F L = (S : Contents) → Reads C F L S → (rows : List Row) → walked_by_rows C L S ≡ Ok rows → (r : Row) → IsIn r rows → IsRow C r

-- the rows of a walk are rows of the catalog
pub walked_are_rows : (C : CatalogData) (F : FileContents) (L : Sites) → WalkKeepsKinds C F L → RowsKeepKinds C F L → (S : Contents) → Reads C F L S → (rule : Safety) (rows : List Row) → IsWalkedBy rule C L S (Ok rows) → (r : Row) → IsIn r rows → IsRow C r
walked_are_rows C F L kinds row_kinds S reads Safety.Whole rows x r h =
    let k = walked_so C S x.0 rows (sym x.2) in
    let m = in_map (walked_row C S x.0) (projection_rows C S x.0.anchor) r (subst (IsIn r) k.is h) in
    subst (IsRow C) (sym m.2) (kinds S x.0 reads x.1 m.0 m.1 (k.straight m.0 m.1))
walked_are_rows C F L kinds row_kinds S reads Safety.Rows rows x r h = row_kinds S reads rows (sym x) r h

-- If a verdict is a table, the surviving files hold it.
pub verdict_holds : (C : CatalogData) → IsCatalog C → (F : FileContents) (L : Sites) → WalkKeepsKinds C F L → RowsKeepKinds C F L → (T : List Row) → IsVerdict C F L (Ok T) → HoldsSurvivors C F L T
verdict_holds C cat F L kinds row_kinds T (IsVerdict.bad_file n f b e) = absurd (subst IsOkVerdict e tt)
verdict_holds C cat F L kinds row_kinds T (IsVerdict.contents S w reads by e) = go w by e
  where
    go : (x : Result (List Row) Stray) → IsWalkedBy C.safety C L S x → Ok T ≡ judged C L S x → HoldsSurvivors C F L T
    go (Err at) x b = absurd (subst IsOkVerdict b tt)
    go (Ok rows) x b =
        let j = judged_so C L S rows T (sym b) in
        record {
          table = judged_table C L S rows T j (walked_are_rows C F L kinds row_kinds S reads C.safety rows x);
          fits = judged_fits C L S rows T j;
          contents = S;
          reads = reads;
          same = judged_contents C cat L S rows T j;
        }
