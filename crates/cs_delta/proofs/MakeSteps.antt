-- One edit of a merge.
use Rattle.std.proofs.lemmas.List.{drop_more}
use Rattle.cs_schema.specs.Lists.{IsIn}
use Rattle.std.proofs.Common.{◌≡◌, ℕ, zero, suc, ◌<◌, ◌≤◌, get_or, inl, inr, ◌+◌, ◌-◌, List, [], ◌∷◌, ◌++◌, length, take, drop, sym, ap, ◌∙◌, arith, Option, Some, None}
use Rattle.std.specs.List.{cons_option}
use Rattle.cs_delta.specs.Edits.{Edit, edited_from, AreEdits}
use Rattle.cs_delta.specs.MergeSteps.{Makes}
use Rattle.cs_delta.proofs.EditLists.{put_step, cut_step, change_step, end_step}

module _ {X : Type 0} (base target out new : List X) (done at : ℕ) where
  pub put_makes : (x : X) (es : List (Edit X)) → Makes base target out done (Edit.put at x ∷ es) → new ≡ (out ++ take (at - done) (drop done base)) ++ x ∷ [] → Makes base target new at es
  put_makes x es m e = record {
    edits = m.edits.2;
    parts = put_step done at x out base target es m.edits m.parts ∙ ap (λ (a : List X). a ++ edited_from es at (drop at base)) (sym e);
  }

  pub cut_makes : (d : X) (es : List (Edit X)) → Makes base target out done (Edit.cut at ∷ es) → new ≡ out ++ take (at - done) (drop done base) → Makes base target new (at + 1) es
  cut_makes d es m e = record {
    edits = m.edits.2;
    parts = cut_step done at out base target es d m.edits m.parts ∙ ap (λ (a : List X). a ++ edited_from es (at + 1) (drop (at + 1) base)) (sym e);
  }

  pub change_makes : (d x : X) (es : List (Edit X)) → Makes base target out done (Edit.change at x ∷ es) → new ≡ (out ++ take (at - done) (drop done base)) ++ x ∷ [] → Makes base target new (at + 1) es
  change_makes d x es m e = record {
    edits = m.edits.2;
    parts = change_step done at x out base target es d m.edits m.parts ∙ ap (λ (a : List X). a ++ edited_from es (at + 1) (drop (at + 1) base)) (sym e);
  }

-- if no edit is left, copying the rest makes the target
pub made_all : {X : Type 0} (base target out : List X) (done : ℕ) (es : List (Edit X)) → done ≤ length base → es ≡ [] → Makes base target out done es → out ++ take (length base - done) (drop done base) ≡ target
made_all {X} base target out done es l e m = sym (end_step done out base target l (m.parts ∙ ap (λ (a : List (Edit X)). out ++ edited_from a done (drop done base)) e))

-- the list from position i on is the element there and the elements after it
pub drop_item : {X : Type 0} (xs : List X) (i : ℕ) (x : X) → i < length xs → x ≡ get_or xs i x → drop i xs ≡ x ∷ drop (i + 1) xs
drop_item {X} xs i x l e = drop_more xs i x l ∙ ap (λ (y : X). y ∷ drop (i + 1) xs) (sym e)

pub stands_in : {X : Type 0} (xs : List X) (i : ℕ) (x : X) → i < length xs → x ≡ get_or xs i x → IsIn x xs
stands_in [] i x l e = absurd (omega arith)
stands_in (y ∷ xs) zero x l e = inl e
stands_in (y ∷ xs) (suc i) x l e = inr (stands_in xs i x (omega arith) e)

-- the first edit of a list, if an item gives one
pub first_edit : {X : Type 0} (n from : ℕ) (e : Option (Edit X)) (es : List (Edit X)) → AreEdits n from (cons_option e es) → AreEdits n from (cons_option e [])
first_edit n from None es h = tt
first_edit n from (Some (Edit.put at x)) es h = (h.0, h.1, tt)
first_edit n from (Some (Edit.cut at)) es h = (h.0, h.1, tt)
first_edit n from (Some (Edit.change at x)) es h = (h.0, h.1, tt)
