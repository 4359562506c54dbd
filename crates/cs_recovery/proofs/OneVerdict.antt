-- The surviving files have at most one verdict.
use Rattle.std.proofs.Common.{◌≡◌, ℕ, zero, suc, ◌<◌, List, [], map, refl, sym, ap, subst, ◌∙◌, Bool, true, false, not, cond, ◌&&◌, ◌⊎◌, inl, inr, Option, Some, None, length, arith, ◌==◌, Result, Ok, Err, Ordering}
use Rattle.std.specs.Prelude.{slice_index, slice_index_or, nat_lt, MatchOption}
use Rattle.std.specs.List.{find}
use Rattle.std.specs.Option.{option_map, option_and_then, option_map_or, option_or, is_none, unwrap_or}
use Rattle.std.specs.Ordering.{ordering_reverse}
use Rattle.std.specs.Cmp.Lexicographic.{nat_list_cmp_total}
use Rattle.std.specs.FinMap.{nat_cmp-IsAntisymmetric, slice_cmp-IsAntisymmetric}
use Rattle.std.specs.declared.cmp.Ordering.TheVariants.{Less, Equal, Greater}
use Rattle.std.proofs.lemmas.Option.{none-some}
use lib.Pointwise.{pointwise}
use borrow.Author.Tests.{ltb-true}
use Rattle.cs_schema.specs.declared.file_name.FileName.{FileName}
use Rattle.cs_store.specs.declared.fault.Fault.{Fault}
use Rattle.cs_schema.specs.CatalogData.{CatalogData, projection, segments}
use Rattle.cs_schema.specs.declared.kinds.Safety.{Safety}
use Rattle.cs_schema.specs.CatalogRules.{IsCatalog}
use Rattle.cs_schema.specs.Rows.{Row, project}
use Rattle.cs_schema.specs.Lists.{IsIn}
use Rattle.cs_schema.specs.FileNames.{Survives, FileContents, name_key, name_cmp}
use Rattle.cs_schema.specs.Losses.{Sites, alive}
use Rattle.cs_schema.specs.Values.{value_eq}
use Rattle.cs_schema.specs.Order.{rows_of}
use Rattle.cs_schema.specs.Lists.{numbers_below}
use Rattle.cs_delta.specs.Image.{ImageData, image_keys, image_rows, position_of_key}
use Rattle.cs_jix.specs.JoinIndex.{Place, entry_at}
use Rattle.cs_safety.specs.PlanData.{PlanData, IsPlan, IsPrev, prev_of}
use Rattle.cs_safety.specs.Paths.{IsReached}
use Rattle.cs_rows.specs.Walk.{Contents, At, Stray, landed, entry_of, follow, stands, stand, image_cell, walked_cell, walked_row, is_astray, segment_rows, projection_rows, walked}
use Rattle.cs_safety.specs.PlanData.{is_planned}
use Rattle.cs_recovery.specs.Contents.{Reads}
use Rattle.cs_recovery.specs.Verdicts.{FileFault, IsFirstBadFile, IsVerdict, IsRebuildVerdict, IsWalkedBy, Verdict, judged, unless_refused, twice, full, misplaced, misled, surviving_segments, surviving_joins}
use Rattle.cs_order.specs.Tables.{table_of}
use Rattle.cs_recovery.specs.Holding.{agrees}
use Rattle.cs_recovery.specs.Places.{entries_for}
use Rattle.cs_schema.proofs.Lists.{in_range}
use Rattle.cs_safety.proofs.Distances.{path_exists, path_open}
use Rattle.cs_safety.proofs.AliveLemmas.{alive_kept}
use Rattle.cs_recovery.proofs.Exact.{Layers, sound, survivors_survive, joins_survive}
use Rattle.cs_safety.proofs.OnePlan.{one_plan}
use Rattle.cs_recovery.proofs.Accepted.{same_entries}
use Rattle.cs_recovery.proofs.Judged.{all_fail}
use Rattle.cs_recovery.proofs.KeptKinds.{IsInside, stands_inside, anchor_inside, stands_there}
use Rattle.cs_recovery.proofs.RowLists.{find_same, map_same, flat_map_same, any_same}
use Rattle.cs_recovery.proofs.RowReadings.{same_row_walk}

-- ---- one walk, and one judgement, of readings that agree in the surviving segments

module _ (C : CatalogData) (cat : IsCatalog C) (layers : Layers C) (F : FileContents) (L : Sites) (S S' : Contents) (r : Reads C F L S) (r' : Reads C F L S') where
  same_image : (p s : ℕ) → Survives C L (FileName.Seg p s) → S.image p s ≡ S'.image p s
  same_image p s h = layers.one_image F p s h.0 (S.image p s) (S'.image p s) (r.images p s h) (r'.images p s h)

  same_join : (p s q : ℕ) → Survives C L (FileName.Jix p s q) → S.join p s q ≡ S'.join p s q
  same_join p s q h = layers.one_join F p s q (S.join p s q) (S'.join p s q) (r.joins p s q h) (r'.joins p s q h)

  module _ (P : PlanData) (plan : IsPlan C L P) where
    same_landed : (q : ℕ) → q < length C.projections → alive C L q ≡ true → (e : Place) → landed C S q e ≡ landed C S' q e
    same_landed q h a e = go (nat_lt e.0 (segments C q)) refl
      where
        f : ImageData → Option At
        f m = option_map (λ i. (e.0, i)) (position_of_key m e.1)

        go : (b : Bool) → nat_lt e.0 (segments C q) ≡ b → landed C S q e ≡ landed C S' q e
        go true x =
            let l : e.0 < segments C q = ltb-true e.0 (segments C q) x in
            ap (λ m. cond (nat_lt e.0 (segments C q)) (option_map (λ i. (e.0, i)) (position_of_key m e.1)) None) (same_image q e.0 ((h, l), alive_kept C cat L q h a e.0 l))
        go false x =
            ap (λ b. cond b (option_map (λ i. (e.0, i)) (position_of_key (S.image q e.0) e.1)) None) x ∙ sym (ap (λ b. cond b (option_map (λ i. (e.0, i)) (position_of_key (S'.image q e.0) e.1)) None) x)

    same_follow : (p q : ℕ) → IsPrev C L P.anchor q p → (from : At) → from.0 < segments C p → follow C S p q from ≡ follow C S' p q from
    same_follow p q i from l =
        let hp = path_exists C (alive C L) P.anchor plan.anchor.exists p i.nearer.nearer.0 i.nearer.nearer.1.0.path in
        let ap' = path_open C (alive C L) P.anchor plan.anchor.may_start p i.nearer.nearer.0 i.nearer.nearer.1.0.path in
        let lp = alive_kept C cat L p hp ap' from.0 l in
        let e : entry_of S p q from ≡ entry_of S' p q from = λ k. entry_at (same_join p from.0 q (((hp, l), i.nearer.step.declared), lp) k) (slice_index (image_keys (same_image p from.0 ((hp, l), lp) k)) from.1) in
        ap (option_and_then (landed C S q)) e ∙ at (entry_of S' p q from)
      where
        at : (o : Option Place) → option_and_then (landed C S q) o ≡ option_and_then (landed C S' q) o
        at None = refl
        at (Some e) = same_landed q i.nearer.step.exists i.nearer.step.may_enter e

    same_stands : (at : At) → IsInside C cat F L S r P plan P.anchor at → (n q : ℕ) → q < length C.projections → stands C S P at n q ≡ stands C S' P at n q
    same_stands at inside zero q h = refl
    same_stands at inside (suc n) q h = ap (cond (q == P.anchor) (Some at)) (by_prev (prev_of P q) (plan.prev q h) (λ p l. same_stands at inside n p l))
      where
        steps : Contents → Option ℕ → Option At
        steps X o = option_and_then (λ p. option_and_then (follow C X p q) (stands C X P at n p)) o

        by_from : (p : ℕ) → IsPrev C L P.anchor q p → (o : Option At) → stands C S P at n p ≡ o → option_and_then (follow C S p q) o ≡ option_and_then (follow C S' p q) o
        by_from p i None e = refl
        by_from p i (Some from) e = same_follow p q i from (stands_inside C cat F L S r P plan at inside n p from e).segment

        by_prev : (o : Option ℕ) → MatchOption o ((q ≡ P.anchor) ⊎ ¬ IsReached C (alive C L) P.anchor q) (λ p. IsPrev C L P.anchor q p) → ((p : ℕ) → p < length C.projections → stands C S P at n p ≡ stands C S' P at n p) → option_and_then (λ p. option_and_then (follow C S p q) (stands C S P at n p)) o ≡ option_and_then (λ p. option_and_then (follow C S' p q) (stands C S' P at n p)) o
        by_prev None m ih = refl
        by_prev (Some p) m ih =
            let hp = path_exists C (alive C L) P.anchor plan.anchor.exists p m.nearer.nearer.0 m.nearer.nearer.1.0.path in
            by_from p m (stands C S P at n p) refl ∙ ap (option_and_then (follow C S' p q)) (ih p hp)

    same_rows : projection_rows C S P.anchor ≡ projection_rows C S' P.anchor
    same_rows = flat_map_same (segment_rows S P.anchor) (segment_rows S' P.anchor) (numbers_below (segments C P.anchor)) (λ s i.
        let l : s < segments C P.anchor = (let k = (in_range 0 (segments C P.anchor) s i).1 in omega arith) in
        ap (λ (m : ImageData). map (λ x. (s, x)) (numbers_below (length m.pairs))) (same_image P.anchor s ((plan.anchor.exists, l), alive_kept C cat L P.anchor plan.anchor.exists plan.anchor.may_start s l)))

    same_astray : (at : At) → IsIn at (projection_rows C S P.anchor) → is_astray C S P at ≡ is_astray C S' P at
    same_astray at h = any_same (λ q. is_planned P q && is_none (stand C S P at q)) (λ q. is_planned P q && is_none (stand C S' P at q)) (numbers_below (length C.projections)) (λ q i.
        let l : q < length C.projections = (let k = (in_range 0 (length C.projections) q i).1 in omega arith) in
        ap (λ o. is_planned P q && is_none o) (same_stands at (anchor_inside C cat F L S r P plan at h) (length C.projections) q l))

    same_cell : (at : At) → IsIn at (projection_rows C S P.anchor) → is_astray C S P at ≡ false → (c : ℕ) → c < length C.columns → walked_cell C S P at c ≡ walked_cell C S' P at c
    same_cell at h straight c l =
        let src = plan.source c l in
        let q : ℕ = slice_index P.source c in
        let hq = path_exists C (alive C L) P.anchor plan.anchor.exists q src.distance src.at_distance.path in
        let aq = path_open C (alive C L) P.anchor plan.anchor.may_start q src.distance src.at_distance.path in
        let there = stands_there C cat F L S r P plan at straight q src.distance src.at_distance in
        let inside = stands_inside C cat F L S r P plan at (anchor_inside C cat F L S r P plan at h) (length C.projections) q there.0 there.1 in
        let e = same_stands at (anchor_inside C cat F L S r P plan at h) (length C.projections) q hq in
        let m = same_image q there.0.0 ((hq, inside.segment), alive_kept C cat L q hq aq there.0.0 inside.segment) in
        let k : image_cell C S q c there.0 ≡ image_cell C S' q c there.0 = ap (λ (w : ImageData). Rattle.cs_schema.specs.Rows.cell (slice_index_or (image_rows w) there.0.1 []) (Rattle.std.specs.List.position_or_len (λ d. d == c) (projection C q).columns)) m in
        ap (λ o. image_cell C S q c (unwrap_or o (0, 0))) there.1 ∙ k ∙ sym (ap (λ o. image_cell C S' q c (unwrap_or o (0, 0))) (sym e ∙ there.1))

    abbrev ended : List At → Contents → Option At → Result (List Row) Stray
    ended ats X o = option_map_or (λ (at : At). Err (P.anchor, at.0, at.1)) o (Ok (map (walked_row C X P) ats))

    same_walk : walked C S P ≡ walked C S' P
    same_walk =
        go (find (is_astray C S P) (projection_rows C S P.anchor)) refl
        ∙ ap (ended (projection_rows C S P.anchor) S') (find_same (is_astray C S P) (is_astray C S' P) (projection_rows C S P.anchor) same_astray)
        ∙ ap (λ ats. ended ats S' (find (is_astray C S' P) ats)) same_rows
      where
        go : (o : Option At) → find (is_astray C S P) (projection_rows C S P.anchor) ≡ o → ended (projection_rows C S P.anchor) S (find (is_astray C S P) (projection_rows C S P.anchor)) ≡ ended (projection_rows C S P.anchor) S' (find (is_astray C S P) (projection_rows C S P.anchor))
        go None e =
            let rows : map (walked_row C S P) (projection_rows C S P.anchor) ≡ map (walked_row C S' P) (projection_rows C S P.anchor) =
            map_same (walked_row C S P) (walked_row C S' P) (projection_rows C S P.anchor) (λ at h. map_same (walked_cell C S P at) (walked_cell C S' P at) (numbers_below (length C.columns)) (λ c i. same_cell at h (all_fail (is_astray C S P) (projection_rows C S P.anchor) e at h) c (let k = (in_range 0 (length C.columns) c i).1 in omega arith))) in
            ap (λ xs. option_map_or (λ (at : At). Err (P.anchor, at.0, at.1)) (find (is_astray C S P) (projection_rows C S P.anchor)) (Ok xs)) rows
        go (Some at) e = ap (ended (projection_rows C S P.anchor) S) e ∙ sym (ap (ended (projection_rows C S P.anchor) S') e)

  same_judged : (w : Result (List Row) Stray) → judged C L S w ≡ judged C L S' w
  same_judged (Err at) = refl
  same_judged (Ok rows) =
      let T : List Row = table_of C rows in
      let p : misplaced C L S T ≡ misplaced C L S' T = ap (option_map (λ (a : ℕ × ℕ). Fault.Misplaced a.0 a.1)) (find_same (λ (a : ℕ × ℕ). not (pointwise (pointwise value_eq) (image_rows (S.image a.0 a.1)) (map (project C a.0) (rows_of C T a.0 a.1)))) (λ (a : ℕ × ℕ). not (pointwise (pointwise value_eq) (image_rows (S'.image a.0 a.1)) (map (project C a.0) (rows_of C T a.0 a.1)))) (surviving_segments C L) (λ a h. ap (λ (m : ImageData). not (pointwise (pointwise value_eq) (image_rows m) (map (project C a.0) (rows_of C T a.0 a.1)))) (same_image a.0 a.1 (survivors_survive C L a h)))) in
      let q : misled C L S T ≡ misled C L S' T = ap (option_map (λ (a : ℕ × ℕ × ℕ). Fault.Misled a.0 a.1 a.2)) (find_same (λ (a : ℕ × ℕ × ℕ). not (pointwise (agrees C L a.2) (S.join a.0 a.1 a.2) (entries_for C L S T a.0 a.1 a.2))) (λ (a : ℕ × ℕ × ℕ). not (pointwise (agrees C L a.2) (S'.join a.0 a.1 a.2) (entries_for C L S' T a.0 a.1 a.2))) (surviving_joins C L) (λ a h.
      let v = joins_survive C L a h in
      let x = same_join a.0 a.1 a.2 v in
      let y = same_entries C cat layers F L S S' r r' T a.0 a.1 a.2 v.0.0 ((cat.projections a.0 v.0.0.0).joins a.2 v.0.1).0 in
      λ i. not (pointwise (agrees C L a.2) (x i) (y i)))) in
      λ i. unless_refused (option_or (twice C rows) (option_or (full C T) (option_or (p i) (q i)))) T

-- ---- one first bad file

abbrev at_or_zero : ℕ → List ℕ → ℕ
at_or_zero n xs = slice_index xs n

same_name : (m n : FileName) → name_key m ≡ name_key n → m ≡ n
same_name (FileName.Seg p s) (FileName.Seg p' s') e = λ i. FileName.Seg (slice_index (e i) 0) (slice_index (e i) 1)
same_name (FileName.Seg p s) (FileName.Del p' s') e = absurd (let z : 0 ≡ 1 = ap (at_or_zero 2) e in omega arith)
same_name (FileName.Seg p s) (FileName.Jix p' s' q') e = absurd (let z : 0 ≡ 2 = ap (at_or_zero 2) e in omega arith)
same_name (FileName.Del p s) (FileName.Seg p' s') e = absurd (let z : 1 ≡ 0 = ap (at_or_zero 2) e in omega arith)
same_name (FileName.Del p s) (FileName.Del p' s') e = λ i. FileName.Del (slice_index (e i) 0) (slice_index (e i) 1)
same_name (FileName.Del p s) (FileName.Jix p' s' q') e = absurd (let z : 1 ≡ 2 = ap (at_or_zero 2) e in omega arith)
same_name (FileName.Jix p s q) (FileName.Seg p' s') e = absurd (let z : 2 ≡ 0 = ap (at_or_zero 2) e in omega arith)
same_name (FileName.Jix p s q) (FileName.Del p' s') e = absurd (let z : 2 ≡ 1 = ap (at_or_zero 2) e in omega arith)
same_name (FileName.Jix p s q) (FileName.Jix p' s' q') e = λ i. FileName.Jix (slice_index (e i) 0) (slice_index (e i) 1) (slice_index (e i) 3)

one_fault : (F : FileContents) (n : FileName) (f g : Fault) → FileFault F n f → FileFault F n g → f ≡ g
one_fault F n f g (inl a) (inl b) = a.1 ∙ sym b.1
one_fault F n f g (inr a) (inr b) = a.1 ∙ sym b.1
one_fault F n f g (inl a) (inr b) = absurd (none-some b.0.0 (sym a.0 ∙ b.0.1))
one_fault F n f g (inr a) (inl b) = absurd (none-some a.0.0 (sym b.0 ∙ a.0.1))

one_bad_file : (C : CatalogData) (F : FileContents) (L : Sites) (n m : FileName) (f g : Fault) → IsFirstBadFile C F L n f → IsFirstBadFile C F L m g → f ≡ g
one_bad_file C F L n m f g a b = go (name_cmp n m) refl
  where
    go : (o : Ordering) → name_cmp n m ≡ o → f ≡ g
    go Less e = absurd (a.bad (b.before n a.survives e))
    go Greater e = absurd (b.bad (a.before m b.survives (nat_list_cmp_total.antisymm (name_key m) (name_key n) ∙ ap ordering_reverse e)))
    go Equal e =
        let same : n ≡ m = same_name n m (slice_cmp-IsAntisymmetric nat_cmp-IsAntisymmetric (name_key n) (name_key m) e) in
        one_fault F n f g a.fault (subst (λ x. FileFault F x g) (sym same) b.fault)

-- ---- one verdict

pub one_verdict : (C : CatalogData) → IsCatalog C → Layers C → (F : FileContents) (L : Sites) (v u : Verdict) → IsVerdict C F L v → IsVerdict C F L u → v ≡ u
one_verdict C cat layers F L v u (IsVerdict.bad_file n f a x) (IsVerdict.bad_file m g b y) = x ∙ ap Err (one_bad_file C F L n m f g a b) ∙ sym y
one_verdict C cat layers F L v u (IsVerdict.bad_file n f a x) (IsVerdict.contents S w r k y) = absurd (a.bad (sound C cat layers F L S r n a.survives))
one_verdict C cat layers F L v u (IsVerdict.contents S w r k x) (IsVerdict.bad_file n f a y) = absurd (a.bad (sound C cat layers F L S r n a.survives))
one_verdict C cat layers F L v u (IsVerdict.contents S w r k x) (IsVerdict.contents S' w' r' k' y) = go C.safety k k'
  where
    go : (rule : Safety) → IsWalkedBy rule C L S w → IsWalkedBy rule C L S' w' → v ≡ u
    go Safety.Rows a b =
        let e : w ≡ w' = a ∙ same_row_walk C cat layers F L S S' r r' ∙ sym b in
        x ∙ same_judged C cat layers F L S S' r r' w ∙ ap (judged C L S') e ∙ sym y
    go Safety.Whole a b =
        let e : w ≡ w' = a.2 ∙ same_walk C cat layers F L S S' r r' a.0 a.1 ∙ ap (walked C S') (one_plan C L a.0 b.0 a.1 b.1) ∙ sym b.2 in
        x ∙ same_judged C cat layers F L S S' r r' w ∙ ap (judged C L S') e ∙ sym y

-- `rebuild` has at most one verdict
pub one_rebuild_verdict : (C : CatalogData) → IsCatalog C → Layers C → (F : FileContents) (L : Sites) (v u : Verdict) → IsRebuildVerdict C F L v → IsRebuildVerdict C F L u → v ≡ u
one_rebuild_verdict C cat layers F L v u (IsRebuildVerdict.site n x) (IsRebuildVerdict.site m y) = x ∙ sym y
one_rebuild_verdict C cat layers F L v u (IsRebuildVerdict.site n x) (IsRebuildVerdict.unsafe m s y) = absurd (n m)
one_rebuild_verdict C cat layers F L v u (IsRebuildVerdict.site n x) (IsRebuildVerdict.safe m s y) = absurd (n m)
one_rebuild_verdict C cat layers F L v u (IsRebuildVerdict.unsafe n s x) (IsRebuildVerdict.site m y) = absurd (m n)
one_rebuild_verdict C cat layers F L v u (IsRebuildVerdict.unsafe n s x) (IsRebuildVerdict.unsafe m t y) = x ∙ sym y
one_rebuild_verdict C cat layers F L v u (IsRebuildVerdict.unsafe n s x) (IsRebuildVerdict.safe m t y) = absurd (s t)
one_rebuild_verdict C cat layers F L v u (IsRebuildVerdict.safe n s x) (IsRebuildVerdict.site m y) = absurd (m n)
one_rebuild_verdict C cat layers F L v u (IsRebuildVerdict.safe n s x) (IsRebuildVerdict.unsafe m t y) = absurd (t s)
one_rebuild_verdict C cat layers F L v u (IsRebuildVerdict.safe n s x) (IsRebuildVerdict.safe m t y) = one_verdict C cat layers F L v u x y
