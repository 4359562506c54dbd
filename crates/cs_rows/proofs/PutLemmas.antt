-- What putting an image or a join index into survivors changes.
use Rattle.std.proofs.Common.{◌≡◌, ◌≢◌, ℕ, zero, suc, ◌+◌, ◌<◌, List, [], ◌∷◌, length, map, replicate, set, get_or, refl, sym, ap, ◌∙◌, subst, arith, ◌⊎◌, ⊎_elim, inl, inr, Option, Some, None, get_or-set_same, get_or-set_other}
use Rattle.std.proofs.lemmas.Bool.{cases_eq}
use Rattle.std.proofs.lemmas.Option.{none-some, same_Some}
use Rattle.std.proofs.lemmas.List.{length-set, length-map, length-replicate, get_or-map, get_or-replicate}
use Rattle.cs_schema.specs.CatalogData.{CatalogData, ProjectionData, HasSegment, projection, segments, no_projection}
use Rattle.cs_delta.specs.KindedImage.{KindedImage}
use Rattle.cs_segment.specs.SegmentData.{kinds_at}
use Rattle.cs_jix.specs.JoinIndex.{Place}
use Rattle.cs_rows.specs.Survivors.{SurvivorsData, HasRoom, HoldsImages, images_of, joins_of, image_at, join_at, no_images, no_joins, no_survivors, with_image, with_join}
use Rattle.cs_rows.specs.PutLaws.{PutsImage, PutsJoin, RoomIsEmpty, ImagesArePut, JoinsArePut}

-- an element of a list after one of its elements was replaced
at_place : {X : Type 0} (xs : List X) (i : ℕ) (x d : X) → i < length xs → (P : X → Type 0) (k : ℕ) → (k ≡ i → P x) → (k ≢ i → P (get_or xs k d)) → P (get_or (set xs i x) k d)
at_place xs i x d h P k here there =
    ⊎_elim
    (λ (e : k ≡ i). subst P (sym (ap (λ (n : ℕ). get_or (set xs i x) n d) e ∙ get_or-set_same xs i x d h)) (here e))
    (λ (ne : k ≢ i). subst P (sym (get_or-set_other xs i k x d ne)) (there ne))
    (cases_eq k i)

module _ (C : CatalogData) (S : SurvivorsData) (room : HasRoom C S) (p s : ℕ) (there : HasSegment C p s) where
  module _ (m : KindedImage) where
    row_there : p < length S.images
    row_there = omega (arith, room.images, there.0)

    column_there : s < length (images_of S p)
    column_there = omega (arith, room.segments_of_images p there.0, there.1)

    put_new : image_at (with_image S p s m) p s ≡ Some m
    put_new = ap (λ (l : List (Option KindedImage)). get_or l s None) (get_or-set_same S.images p (set (images_of S p) s (Some m)) [] row_there) ∙ get_or-set_same (images_of S p) s (Some m) None column_there

    put_others : (q t : ℕ) → (q ≢ p) ⊎ (t ≢ s) → image_at (with_image S p s m) q t ≡ image_at S q t
    put_others q t differ =
        at_place S.images p (set (images_of S p) s (Some m)) [] row_there (λ (l : List (Option KindedImage)). get_or l t None ≡ image_at S q t) q
        (λ e. ⊎_elim (λ (ne : q ≢ p). absurd (ne e)) (λ (ne : t ≢ s). get_or-set_other (images_of S p) s t (Some m) None ne ∙ ap (λ (n : ℕ). image_at S n t) (sym e)) differ)
        (λ ne. refl)

    put_room : HasRoom C (with_image S p s m)
    put_room = record {
      images = length-set S.images p (set (images_of S p) s (Some m)) ∙ room.images;
      segments_of_images = λ q h.
          at_place S.images p (set (images_of S p) s (Some m)) [] row_there (λ (l : List (Option KindedImage)). length l ≡ segments C q) q
          (λ e. length-set (images_of S p) s (Some m) ∙ ap (λ (n : ℕ). length (images_of S n)) (sym e) ∙ room.segments_of_images q h)
          (λ ne. room.segments_of_images q h);
      joins = room.joins;
      segments_of_joins = room.segments_of_joins;
      targets = room.targets;
    }

    put_made : HoldsImages C S → m.kinds ≡ kinds_at C p → HoldsImages C (with_image S p s m)
    put_made made kinds q t n h l e =
        ⊎_elim
        (λ (a : q ≡ p). ⊎_elim
        (λ (b : t ≡ s).
        let is : m ≡ n = same_Some m n (sym put_new ∙ (λ i. image_at (with_image S p s m) (sym a i) (sym b i)) ∙ e) in
        ap (λ (x : KindedImage). x.kinds) (sym is) ∙ kinds ∙ ap (kinds_at C) (sym a))
        (λ (ne : t ≢ s). made q t n h l (sym (put_others q t (inr ne)) ∙ e))
        (cases_eq t s))
        (λ (ne : q ≢ p). made q t n h l (sym (put_others q t (inl ne)) ∙ e))
        (cases_eq q p)

    pub puts_image : PutsImage C S p s m
    puts_image = record { room = put_room; new = put_new; others = put_others; joins = λ q t r. refl; made = put_made }

  module _ (q : ℕ) (entries : List Place) (target : q < length C.projections) where
    abbrev here : List (List (Option (List Place)))
    here = get_or S.joins p []

    projection_there : p < length S.joins
    projection_there = omega (arith, room.joins, there.0)

    segment_there : s < length here
    segment_there = omega (arith, room.segments_of_joins p there.0, there.1)

    target_there : q < length (joins_of S p s)
    target_there = omega (arith, room.targets p s there.0 there.1, target)

    abbrev segment : List (Option (List Place))
    segment = set (joins_of S p s) q (Some entries)

    join_new : join_at (with_join S p s q entries) p s q ≡ Some entries
    join_new =
        ap (λ (l : List (List (Option (List Place)))). get_or (get_or l s []) q None) (get_or-set_same S.joins p (set here s segment) [] projection_there)
        ∙ ap (λ (l : List (Option (List Place))). get_or l q None) (get_or-set_same here s segment [] segment_there)
        ∙ get_or-set_same (joins_of S p s) q (Some entries) None target_there

    join_others : (o t r : ℕ) → (o ≢ p) ⊎ (t ≢ s) ⊎ (r ≢ q) → join_at (with_join S p s q entries) o t r ≡ join_at S o t r
    join_others o t r differ =
        at_place S.joins p (set here s segment) [] projection_there (λ (l : List (List (Option (List Place)))). get_or (get_or l t []) r None ≡ join_at S o t r) o
        (λ a. at_place here s segment [] segment_there (λ (l : List (Option (List Place))). get_or l r None ≡ join_at S o t r) t
        (λ b. same a b differ)
        (λ ne. ap (λ (n : ℕ). join_at S n t r) (sym a)))
        (λ ne. refl)
      where
        last : o ≡ p → t ≡ s → r ≢ q → get_or segment r None ≡ join_at S o t r
        last a b ne = get_or-set_other (joins_of S p s) q r (Some entries) None ne ∙ (λ i. join_at S (sym a i) (sym b i) r)

        same : o ≡ p → t ≡ s → (o ≢ p) ⊎ (t ≢ s) ⊎ (r ≢ q) → get_or segment r None ≡ join_at S o t r
        same a b (inl ne) = absurd (ne a)
        same a b (inr (inl ne)) = absurd (ne b)
        same a b (inr (inr ne)) = last a b ne

    join_room : HasRoom C (with_join S p s q entries)
    join_room = record {
      images = room.images;
      segments_of_images = room.segments_of_images;
      joins = length-set S.joins p (set here s segment) ∙ room.joins;
      segments_of_joins = λ o h.
          at_place S.joins p (set here s segment) [] projection_there (λ (l : List (List (Option (List Place)))). length l ≡ segments C o) o
          (λ e. length-set here s segment ∙ ap (λ (n : ℕ). length (get_or S.joins n [])) (sym e) ∙ room.segments_of_joins o h)
          (λ ne. room.segments_of_joins o h);
      targets = λ o t h l.
          at_place S.joins p (set here s segment) [] projection_there (λ (x : List (List (Option (List Place)))). length (get_or x t []) ≡ length C.projections) o
          (λ a. at_place here s segment [] segment_there (λ (x : List (Option (List Place))). length x ≡ length C.projections) t
          (λ b. length-set (joins_of S p s) q (Some entries) ∙ room.targets p s there.0 there.1)
          (λ ne. ap (λ (n : ℕ). length (joins_of S n t)) (sym a) ∙ room.targets o t h l))
          (λ ne. room.targets o t h l);
    }

    pub puts_join : PutsJoin C S p s q entries
    puts_join = record { room = join_room; new = join_new; others = join_others; images = λ o t. refl; made = λ made. made }

pub images_are_put : ImagesArePut
images_are_put C S p s m room there = puts_image C S room p s there m

pub joins_are_put : JoinsArePut
joins_are_put C S p s q entries room there target = puts_join C S room p s there q entries target

-- ---- empty slots

no_element : {X : Type 0} (n i : ℕ) → ◌≡◌ {A = Option X} (get_or (replicate n None) i None) None
no_element zero i = refl
no_element (suc n) zero = refl
no_element (suc n) (suc i) = no_element n i

nothing_at : {X : Type 0} (n q : ℕ) (k t : ℕ) → ◌≡◌ {A = Option X} (get_or (get_or (replicate n (replicate q None)) k []) t None) None
nothing_at zero q k t = refl
nothing_at (suc n) q zero t = no_element q t
nothing_at (suc n) q (suc k) t = nothing_at n q k t

no_image_at : (ps : List ProjectionData) (p s : ℕ) → get_or (get_or (map no_images ps) p []) s None ≡ None
no_image_at [] p s = refl
no_image_at (x ∷ ps) zero s = no_element (length x.cuts + 1) s
no_image_at (x ∷ ps) (suc p) s = no_image_at ps p s

no_join_at : (n : ℕ) (ps : List ProjectionData) (p s q : ℕ) → get_or (get_or (get_or (map (no_joins n) ps) p []) s []) q None ≡ None
no_join_at n [] p s q = refl
no_join_at n (x ∷ ps) zero s q = nothing_at (length x.cuts + 1) n s q
no_join_at n (x ∷ ps) (suc p) s q = no_join_at n ps p s q

module _ (C : CatalogData) where
  images_made : (p : ℕ) → p < length C.projections → images_of (no_survivors C) p ≡ no_images (projection C p)
  images_made p h = get_or-map no_images C.projections p no_projection [] h

  joins_made : (p : ℕ) → p < length C.projections → get_or (no_survivors C).joins p [] ≡ no_joins (length C.projections) (projection C p)
  joins_made p h = get_or-map (no_joins (length C.projections)) C.projections p no_projection [] h

  room_made : HasRoom C (no_survivors C)
  room_made = record {
    images = length-map C.projections no_images;
    segments_of_images = λ p h. ap length (images_made p h) ∙ length-replicate (segments C p) None;
    joins = length-map C.projections (no_joins (length C.projections));
    segments_of_joins = λ p h. ap length (joins_made p h) ∙ length-replicate (segments C p) (replicate (length C.projections) None);
    targets = λ p s h l.
        ap (λ (x : List (List (Option (List Place)))). length (get_or x s [])) (joins_made p h)
        ∙ ap length (get_or-replicate (segments C p) s (replicate (length C.projections) None) [] l)
        ∙ length-replicate (length C.projections) None;
  }

pub room_is_empty : RoomIsEmpty
room_is_empty C = record {
  room = room_made C;
  images = no_image_at C.projections;
  joins = no_join_at (length C.projections) C.projections;
  made = λ p s m h l e. absurd (none-some m (sym (no_image_at C.projections p s) ∙ e));
}
