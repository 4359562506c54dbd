-- Where columns are read if rows were reached in some projections.
use Rattle.std.proofs.Common.{◌≡◌, ℕ, zero, suc, ◌<◌, List, [], ◌∷◌, length, Option, Some, get_or, refl, sym, ap, ◌∙◌, subst, arith, Bool, true, false, not, ◌&&◌, ◌==◌}
use Rattle.std.specs.Prelude.{All, nat_lt, slice_index}
use Rattle.std.specs.List.{find, list_all, position_or_len}
use Rattle.std.specs.Option.{is_some, option_map_or}
use Rattle.std.proofs.lemmas.List.{length-map, get_or-map, get_or_default, same_lists}
use Rattle.cs_schema.specs.CatalogData.{CatalogData, projection}
use Rattle.cs_schema.specs.Lists.{numbers_below}
use Rattle.cs_rows.specs.declared.column_sources.Source.{Source}
use Rattle.cs_rows.specs.declared.column_sources.ColumnSources.{ColumnSources}
use Rattle.cs_rows.specs.WalkByRows.{Reached, Found, numbers_of}
use Rattle.cs_rows.specs.Superprojections.{has_all, is_found_before, is_given}
use Rattle.cs_rows.specs.RowSteps.{IsSource, AreColumnSources, have_all}
use Rattle.cs_rows.proofs.FirstLemmas.{first_at, found_in}
use Rattle.cs_rows.proofs.FoundRows.{holds, full_by_numbers}

abbrev pub number : Reached → ℕ
number r = r.0

-- the projections of rows, compared one by one
pub same_numbers : (rs : List Reached) (ps : List ℕ) → length rs ≡ length ps → ((k : ℕ) → k < length rs → number (get_or rs k (0, (0, 0))) ≡ get_or ps k 0) → numbers_of rs ≡ ps
same_numbers rs ps e f =
    same_lists (numbers_of rs) ps (length-map rs number ∙ e) (λ k d h.
    let here : k < length rs = omega (arith, length-map rs number) in
    get_or-map number rs k (0, (0, 0)) d here ∙ f k here ∙ get_or_default ps k 0 d (omega arith))

-- a column is read in the first projection that has it
source_is : (C : CatalogData) (ps : List ℕ) (c : ℕ) (s : Source) → IsSource C ps c s → find (holds C c) ps ≡ Some (get_or ps s.reached 0)
source_is C ps c s source =
    let columns : List ℕ = (projection C (slice_index ps s.reached)).columns in
    let first : position_or_len (λ d. d == c) columns < length columns = subst (λ (n : ℕ). n < length columns) source.place source.there in
    first_at (holds C c) ps s.reached 0 source.within source.before (found_in c columns first)

-- a column that is read is in one of the projections
pub has_source : (C : CatalogData) (ps : List ℕ) (c : ℕ) (s : Source) → IsSource C ps c s → is_some (find (holds C c) ps) ≡ true
has_source C ps c s source = ap is_some (source_is C ps c s source)

-- the key is read in a superprojection before the first projection
pub before_by_source : (C : CatalogData) (ps : List ℕ) (s : Source) → IsSource C ps C.key s → (nat_lt (get_or ps s.reached 0) (get_or ps 0 0) && has_all C (get_or ps s.reached 0)) ≡ is_found_before C ps
before_by_source C [] s source = absurd (omega (arith, source.within))
before_by_source C (p ∷ ps) s source = sym (ap (λ (o : Option ℕ). option_map_or (λ q. nat_lt q p && has_all C q) o false) (source_is C (p ∷ ps) C.key s source))

-- what holds of each row's projection holds of each projection
pub all_numbers : (n : ℕ) (rs : List Reached) → All (λ (r : Reached). r.0 < n) rs → All (λ (p : ℕ). p < n) (numbers_of rs)
all_numbers n rs all k d h =
    let here : k < length rs = omega (arith, length-map rs number) in
    subst (λ (p : ℕ). p < n) (sym (get_or-map number rs k (0, (0, 0)) d here)) (all k (0, (0, 0)) here)

and_true : (b : Bool) → (b && true) ≡ b
and_true true = refl
and_true false = refl

-- a reading for the projections that were reached says whether the row is given
pub told_given : (fresh_only : Bool) (C : CatalogData) (F : Found) (sources : ColumnSources) (rs : List Reached) → rs ≡ F.reached → AreColumnSources fresh_only C sources → sources.projections.items ≡ numbers_of rs → sources.given ≡ is_given fresh_only C F
told_given true C F sources rs same so numbers =
    so.given ∙ ap (λ (ps : List ℕ). have_all C ps && not (is_found_before C ps)) (numbers ∙ ap numbers_of same) ∙ ap (λ (b : Bool). b && not (is_found_before C (numbers_of F.reached))) (full_by_numbers C F)
told_given false C F sources rs same so numbers = so.given ∙ and_true (have_all C sources.projections.items) ∙ ap (have_all C) (numbers ∙ ap numbers_of same) ∙ full_by_numbers C F

none_read : (C : CatalogData) (n : ℕ) → 0 < n → list_all (λ c. is_some (find (holds C c) [])) (numbers_below n) ≡ false
none_read C zero h = absurd (omega arith)
none_read C (suc n) h = refl

-- rows are not given if no projection was reached
pub none_given : (fresh_only : Bool) (C : CatalogData) (ps : List ℕ) → ps ≡ [] → 0 < length C.columns → false ≡ (have_all C ps && not (fresh_only && is_found_before C ps))
none_given fresh_only C ps none some =
    sym (ap (λ (qs : List ℕ). have_all C qs && not (fresh_only && is_found_before C qs)) none ∙ ap (λ (b : Bool). b && not (fresh_only && false)) (none_read C (length C.columns) some))
