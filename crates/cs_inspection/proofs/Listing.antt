-- The bad files among the first names of a list, and with one more name.
use Rattle.std.proofs.Common.{◌≡◌, ◌⊎◌, inl, inr, ℕ, ◌+◌, ◌<◌, suc, List, [], ◌∷◌, ◌++◌, map, length, take, drop, get_or, refl, sym, ap, subst, ◌∙◌}
use Rattle.std.proofs.Math.Seq.{drop-cons}
use Rattle.std.proofs.lemmas.List.{take_more, take-append-drop}
use Rattle.std.specs.List.{AllByRecursion}
use Rattle.std.specs.List.Sorted.{IsStrictlySortedBy}
use Rattle.std.specs.declared.cmp.Ordering.TheVariants.{Less}
use Rattle.cs_schema.specs.declared.file_name.FileName.{FileName}
use Rattle.cs_schema.specs.Lists.{IsIn}
use Rattle.cs_schema.specs.Losses.{Sites}
use Rattle.cs_schema.specs.CatalogData.{CatalogData}
use Rattle.cs_schema.specs.CatalogRules.{IsCatalog}
use Rattle.cs_schema.specs.FileNames.{FileContents, HasName, name_cmp, surviving}
use Rattle.cs_schema.proofs.Ascending.{All-in}
use Rattle.std.proofs.lemmas.Option.{slice_get-get_or}
use Rattle.cs_schema.proofs.Lists.{append_left, append_right, in_append, in_at}
use Rattle.cs_schema.proofs.Surviving.{append_sorted, surviving_names}
use Rattle.cs_inspection.specs.declared.badness.Badness.{Badness}
use Rattle.cs_inspection.specs.BadFiles.{IsBad, IsGood, IsListed, AreBadAmong, AreBadFiles}

-- what holds of all elements of a list holds of one in the middle
in_midst : (P : FileName → Type 0) (xs : List FileName) (n : FileName) (rest : List FileName) → AllByRecursion P (xs ++ n ∷ rest) → P n
in_midst P [] n rest h = h.0
in_midst P (x ∷ xs) n rest h = in_midst P xs n rest h.1

-- in ascending names, those before a name are less
below_before : (xs : List FileName) (n : FileName) (rest : List FileName) → IsStrictlySortedBy name_cmp (xs ++ n ∷ rest) → AllByRecursion (λ m. name_cmp m n ≡ Less) xs
unfolding IsStrictlySortedBy
below_before [] n rest h = tt
below_before (x ∷ xs) n rest h = (in_midst _ xs n rest h.0, below_before xs n rest h.1)

map-push : (bad : List (FileName × Badness)) (b : FileName × Badness) → map (λ x. x.0) (bad ++ b ∷ []) ≡ map (λ x. x.0) bad ++ b.0 ∷ []
map-push [] b = refl
map-push (a ∷ bad) b = ap (λ l. a.0 ∷ l) (map-push bad b)

in_map : (bad : List (FileName × Badness)) (n : FileName) → IsIn n (map (λ b. b.0) bad) → (why : Badness) × IsIn (n, why) bad
in_map [] n h = absurd h
in_map (b ∷ bad) n (inl e) = (b.1, inl (ap (λ m. (m, b.1)) e))
in_map (b ∷ bad) n (inr h) = let r = in_map bad n h in (r.0, inr r.1)

last_in : {X : Type 0} (xs : List X) (x : X) → IsIn x (xs ++ x ∷ [])
last_in xs x = append_right xs (x ∷ []) x (inl refl)

in_one : {X : Type 0} (x y : X) → IsIn x (y ∷ []) → x ≡ y
in_one x y (inl e) = e
in_one x y (inr h) = absurd h

module _ (C : CatalogData) (F : FileContents) (unreadable names : List FileName) (n : FileName) (bad : List (FileName × Badness)) (so_far : AreBadAmong C F unreadable names bad) where
  others_on : (after : List (FileName × Badness)) → ((m : FileName) → IsListed m bad → IsListed m after) → (IsListed n after ⊎ IsGood C F unreadable n) → (m : FileName) → IsIn m (names ++ n ∷ []) → IsListed m after ⊎ IsGood C F unreadable m
  others_on after more here m i = go (in_append names (n ∷ []) m i)
    where
      kept : IsListed m bad ⊎ IsGood C F unreadable m → IsListed m after ⊎ IsGood C F unreadable m
      kept (inl l) = inl (more m l)
      kept (inr g) = inr g

      go : IsIn m names ⊎ IsIn m (n ∷ []) → IsListed m after ⊎ IsGood C F unreadable m
      go (inl i) = kept (so_far.others m i)
      go (inr i) = subst (λ x. IsListed x after ⊎ IsGood C F unreadable x) (sym (in_one m n i)) here

  -- one more good file
  good_more : IsGood C F unreadable n → AreBadAmong C F unreadable (names ++ n ∷ []) bad
  good_more g = record {
    each = λ m why i. let it = so_far.each m why i in (append_left names (n ∷ []) m it.0, it.1);
    others = others_on bad (λ m l. l) (inr g);
    in_order = so_far.in_order;
  }

  -- one more bad file, whose name is above those before it
  module _ (why : Badness) (b : IsBad C F unreadable n why) (below : AllByRecursion (λ m. name_cmp m n ≡ Less) names) where
    IsOf : FileName × Badness → Type 0
    IsOf x = IsIn x.0 (names ++ n ∷ []) × IsBad C F unreadable x.0 x.1

    each_on : (x : FileName × Badness) → IsIn x bad ⊎ IsIn x ((n, why) ∷ []) → IsIn x.0 (names ++ n ∷ []) × IsBad C F unreadable x.0 x.1
    unfolding IsOf
    each_on x (inl i) = let it = so_far.each x.0 x.1 i in (append_left names (n ∷ []) x.0 it.0, it.1)
    each_on x (inr i) =
        let here : IsOf (n, why) = (last_in names n, b) in
        subst IsOf (sym (in_one x (n, why) i)) here

    above : (x y : FileName) → IsIn x (map (λ e. e.0) bad) → IsIn y (n ∷ []) → name_cmp x y ≡ Less
    above x y i j =
        let it = in_map bad x i in
        subst (λ z. name_cmp x z ≡ Less) (sym (in_one y n j)) (All-in (λ m. name_cmp m n ≡ Less) names below x (so_far.each x it.0 it.1).0)

    bad_more : AreBadAmong C F unreadable (names ++ n ∷ []) (bad ++ (n, why) ∷ [])
    unfolding IsStrictlySortedBy
    bad_more = record {
      each = λ m w i. each_on (m, w) (in_append bad ((n, why) ∷ []) (m, w) i);
      others = others_on (bad ++ (n, why) ∷ []) (λ m l. (l.0, append_left bad ((n, why) ∷ []) (m, l.0) l.1)) (inl (why, last_in bad (n, why)));
      in_order = subst (IsStrictlySortedBy name_cmp) (sym (map-push bad (n, why))) (append_sorted name_cmp (map (λ e. e.0) bad) (n ∷ []) so_far.in_order (tt, tt) above);
    }

module _ (C : CatalogData) (F : FileContents) (unreadable names : List FileName) (i : ℕ) (bad : List (FileName × Badness)) (so_far : AreBadAmong C F unreadable (take i names) bad)
    (n : FileName) (within : i < length names) (named : n ≡ get_or names i n) where
  taken : take (i + 1) names ≡ take i names ++ n ∷ []
  taken = take_more names i n within ∙ ap (λ m. take i names ++ m ∷ []) (sym named)

  split_here : names ≡ take i names ++ n ∷ drop (suc i) names
  split_here = sym (take-append-drop i names) ∙ ap (λ l. take i names ++ l) (drop-cons names i n within ∙ ap (λ m. m ∷ drop (suc i) names) (sym named))

  pub next_good : IsGood C F unreadable n → AreBadAmong C F unreadable (take (i + 1) names) bad
  next_good g = subst (λ l. AreBadAmong C F unreadable l bad) (sym taken) (good_more C F unreadable (take i names) n bad so_far g)

  pub next_bad : IsStrictlySortedBy name_cmp names → (why : Badness) → IsBad C F unreadable n why → AreBadAmong C F unreadable (take (i + 1) names) (bad ++ (n, why) ∷ [])
  next_bad ascending why b =
      let below = below_before (take i names) n (drop (suc i) names) (subst (IsStrictlySortedBy name_cmp) split_here ascending) in
      subst (λ l. AreBadAmong C F unreadable l (bad ++ (n, why) ∷ [])) (sym taken) (bad_more C F unreadable (take i names) n bad so_far why b below)

-- among no names
pub none_bad : (C : CatalogData) (F : FileContents) (unreadable : List FileName) (bad : List (FileName × Badness)) → bad ≡ [] → AreBadAmong C F unreadable [] bad
unfolding IsStrictlySortedBy
none_bad C F unreadable bad e = subst (AreBadAmong C F unreadable []) (sym e) none
  where
    none : AreBadAmong C F unreadable [] []
    none = record { each = λ n why h. absurd h; others = λ n h. absurd h; in_order = tt }

pub has_name : (C : CatalogData) → IsCatalog C → (L : Sites) (names : List FileName) → names ≡ surviving C L → (i : ℕ) (d : FileName) → i < length names → HasName C (get_or names i d)
has_name C cat L names e i d within =
    let there : IsIn (get_or names i d) names = in_at names i (get_or names i d) (slice_get-get_or names i d within) in
    ((surviving_names C L cat (get_or names i d)).0 (subst (IsIn (get_or names i d)) e there)).0

-- if nothing is lost, these are the bad files of the store
pub all_bad : (C : CatalogData) → IsCatalog C → (F : FileContents) (unreadable : List FileName) (L : Sites) (bad : List (FileName × Badness)) → L ≡ [] → AreBadAmong C F unreadable (surviving C L) bad → AreBadFiles C F unreadable bad
all_bad C cat F unreadable L bad e among =
    let a : AreBadAmong C F unreadable (surviving C []) bad = subst (λ l. AreBadAmong C F unreadable (surviving C l) bad) e among in
    let named : (n : FileName) → _ = surviving_names C [] cat in
    record {
      each = λ n why i. let it = a.each n why i in (((named n).0 it.0).0, it.1);
      others = λ n h. a.others n ((named n).1 (h, refl));
      in_order = a.in_order;
    }
