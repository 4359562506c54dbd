-- What a block of texts holds.
use Rattle.std.proofs.Common.{◌≡◌, ℕ, zero, suc, ◌+◌, ◌-◌, ◌<◌, ◌≤◌, nat_le, Bool, true, false, ◌&&◌, List, [], ◌∷◌, ◌++◌, length, take, drop, map, get_or, Some, refl, sym, ap, ◌∙◌, subst, arith, append_assoc, length-append, length-take}
use Rattle.std.specs.Prelude.{slice_get, IsUtf8}
use Rattle.std.specs.List.{concat, list_all}
use Rattle.std.specs.Str.{is_utf8}
use Rattle.std.proofs.Math.Seq.{take-add}
use Rattle.std.proofs.lemmas.List.{append-nil, take_at, drop_at, take-append-drop, drop_more, take_more, flat_map_more, map-append, take-map, drop-map}
use Rattle.std.proofs.lemmas.List.Folds.{list_all-append}
use Rattle.std.proofs.lemmas.Option.{slice_get-get_or}
use Rattle.std.proofs.lemmas.Str.{IsUtf8-from_is_utf8, is_utf8-from_IsUtf8}
use Rattle.std.proofs.lemmas.Bool.{false≢true}
use Rattle.std.proofs.lemmas.Bool.Decides.{nat_tests}
use Rattle.cs_schema.specs.Blocks.{is_short_text, ends_from, pieces_from, pieces, start_at, texts_at, IsBlockOf, IsBlock, RangeOf, TextAt}

-- ---- joined texts
pub concat-append : (xs ys : List (List ℕ)) → concat (xs ++ ys) ≡ concat xs ++ concat ys
concat-append [] ys = refl
concat-append (x ∷ xs) ys = ap (λ r. x ++ r) (concat-append xs ys) ∙ sym (append_assoc x (concat xs) (concat ys))

pub joined_parts : (n : ℕ) (ts : List (List ℕ)) → concat ts ≡ concat (take n ts) ++ concat (drop n ts)
joined_parts n ts = ap concat (sym (take-append-drop n ts)) ∙ concat-append (take n ts) (drop n ts)

pub joined_front : (n : ℕ) (ts : List (List ℕ)) → take (length (concat (take n ts))) (concat ts) ≡ concat (take n ts)
joined_front n ts =
    ap (take (length (concat (take n ts)))) (joined_parts n ts)
    ∙ take_at (concat (take n ts)) (concat (drop n ts)) (length (concat (take n ts))) refl

pub joined_rest : (n : ℕ) (ts : List (List ℕ)) → drop (length (concat (take n ts))) (concat ts) ≡ concat (drop n ts)
joined_rest n ts =
    ap (drop (length (concat (take n ts)))) (joined_parts n ts)
    ∙ drop_at (concat (take n ts)) (concat (drop n ts)) (length (concat (take n ts))) refl

-- ---- where texts end
pub length-ends_from : (s : ℕ) (ts : List (List ℕ)) → length (ends_from s ts) ≡ length ts
unfolding ends_from
length-ends_from s [] = refl
length-ends_from s (t ∷ ts) = ap suc (length-ends_from (s + length t) ts)

pub ends_from-append : (s : ℕ) (xs ys : List (List ℕ)) → ends_from s (xs ++ ys) ≡ ends_from s xs ++ ends_from (s + length (concat xs)) ys
unfolding ends_from
ends_from-append s [] ys = ap (λ (n : ℕ). ends_from n ys) (omega arith)
ends_from-append s (x ∷ xs) ys =
    let moved : s + length x + length (concat xs) ≡ s + length (x ++ concat xs) = omega (arith, length-append x (concat xs)) in
    ap (λ r. (s + length x) ∷ r) (ends_from-append (s + length x) xs ys ∙ ap (λ (n : ℕ). ends_from (s + length x) xs ++ ends_from n ys) moved)

pub ends_from-take : (n s : ℕ) (ts : List (List ℕ)) → take n (ends_from s ts) ≡ ends_from s (take n ts)
unfolding ends_from
ends_from-take zero s ts = refl
ends_from-take (suc n) s [] = refl
ends_from-take (suc n) s (t ∷ ts) = ap (λ r. (s + length t) ∷ r) (ends_from-take n (s + length t) ts)

pub ends_from-drop : (n s : ℕ) (ts : List (List ℕ)) → drop n (ends_from s ts) ≡ ends_from (s + length (concat (take n ts))) (drop n ts)
unfolding ends_from
ends_from-drop zero s ts = ap (λ (m : ℕ). ends_from m ts) (omega arith)
ends_from-drop (suc n) s [] = refl
ends_from-drop (suc n) s (t ∷ ts) =
    ends_from-drop n (s + length t) ts
    ∙ ap (λ (m : ℕ). ends_from m (drop n ts)) (omega (arith, length-append t (concat (take n ts))))

-- ends that are counted from another place
pub ends_from-moved : (a b k : ℕ) (ts : List (List ℕ)) → map (λ e. e - a + b) (ends_from (a + k) ts) ≡ ends_from (b + k) ts
unfolding ends_from
ends_from-moved a b k [] = refl
ends_from-moved a b k (t ∷ ts) =
    let one : a + k + length t - a + b ≡ b + k + length t = omega arith in
    let here : a + k + length t ≡ a + (k + length t) = omega arith in
    let there : b + (k + length t) ≡ b + k + length t = omega arith in
    ap (λ (n : ℕ). n ∷ map (λ e. e - a + b) (ends_from (a + k + length t) ts)) one
    ∙ ap (λ r. (b + k + length t) ∷ r)
    (ap (λ (n : ℕ). map (λ e. e - a + b) (ends_from n ts)) here
    ∙ ends_from-moved a b (k + length t) ts
    ∙ ap (λ (n : ℕ). ends_from n ts) there)

pub end_at : (s : ℕ) (ts : List (List ℕ)) (i : ℕ) → i < length ts → get_or (ends_from s ts) i 0 ≡ s + length (concat (take (suc i) ts))
unfolding ends_from
end_at s [] i h = absurd (omega arith)
end_at s (t ∷ ts) zero h = omega (arith, length-append t (concat (take 0 ts)))
end_at s (t ∷ ts) (suc i) h =
    end_at (s + length t) ts i (omega arith) ∙ omega (arith, length-append t (concat (take (suc i) ts)))

pub start_is : (ts : List (List ℕ)) (i : ℕ) → i ≤ length ts → start_at (ends_from 0 ts) i ≡ length (concat (take i ts))
start_is ts zero h = refl
start_is ts (suc i) h = end_at 0 ts i (omega arith) ∙ omega arith

-- ---- the texts of a block
pieces_joined : (s : ℕ) (ts : List (List ℕ)) → pieces_from s (concat ts) (ends_from s ts) ≡ ts
unfolding ends_from pieces_from
pieces_joined s [] = refl
pieces_joined s (t ∷ ts) =
    let n = s + length t - s in
    let same : length t ≡ n = omega arith in
    let front : take n (t ++ concat ts) ≡ t = take_at t (concat ts) n same in
    let rest : drop n (t ++ concat ts) ≡ concat ts = drop_at t (concat ts) n same in
    ap (λ f. f ∷ pieces_from (s + length t) (drop n (t ++ concat ts)) (ends_from (s + length t) ts)) front
    ∙ ap (λ r. t ∷ r) (ap (λ r. pieces_from (s + length t) r (ends_from (s + length t) ts)) rest ∙ pieces_joined (s + length t) ts)

-- the texts that a block is of are its own
pub pieces_of : (ts : List (List ℕ)) (bytes ends : List ℕ) → IsBlockOf ts bytes ends → pieces bytes ends ≡ ts
pieces_of ts bytes ends h =
    ap (λ b. pieces b ends) h.joined ∙ ap (λ e. pieces (concat ts) e) h.ended ∙ pieces_joined 0 ts

pub block_of : (ts : List (List ℕ)) (bytes ends : List ℕ) → IsBlockOf ts bytes ends → IsBlock bytes ends
block_of ts bytes ends h = subst (λ (xs : List (List ℕ)). IsBlockOf xs bytes ends) (sym (pieces_of ts bytes ends h)) h

-- ---- the parts of a block
and_true : (a b : Bool) → (a && b) ≡ true → (a ≡ true) × (b ≡ true)
and_true true b h = (refl, h)
and_true false b h = absurd (false≢true h)

true_and : (a b : Bool) → a ≡ true → b ≡ true → (a && b) ≡ true
true_and a b h k = rw (h, k) refl

pub short_append : (xs ys : List (List ℕ)) → list_all is_short_text xs ≡ true → list_all is_short_text ys ≡ true → list_all is_short_text (xs ++ ys) ≡ true
short_append xs ys h k = list_all-append is_short_text xs ys ∙ true_and _ _ h k

short_parts : (n : ℕ) (ts : List (List ℕ)) → list_all is_short_text ts ≡ true → (list_all is_short_text (take n ts) ≡ true) × (list_all is_short_text (drop n ts) ≡ true)
short_parts n ts h =
    and_true _ _ (sym (list_all-append is_short_text (take n ts) (drop n ts)) ∙ ap (list_all is_short_text) (take-append-drop n ts) ∙ h)

-- the first texts of a block
pub block-take : (ts : List (List ℕ)) (bytes ends : List ℕ) (n : ℕ) → n ≤ length ts → IsBlockOf ts bytes ends → IsBlockOf (take n ts) (take (start_at ends n) bytes) (take n ends)
block-take ts bytes ends n h block =
    let at : start_at ends n ≡ length (concat (take n ts)) = ap (λ (e : List ℕ). start_at e n) block.ended ∙ start_is ts n h in
    record {
      joined = ap (λ (k : ℕ). take k bytes) at ∙ ap (take (length (concat (take n ts)))) block.joined ∙ joined_front n ts;
      ended = ap (take n) block.ended ∙ ends_from-take n 0 ts;
      short = (short_parts n ts block.short).0;
    }

pub block-none : IsBlockOf [] [] []
unfolding ends_from
block-none = record { joined = refl; ended = refl; short = refl }

pub length-pieces : (bytes ends : List ℕ) → IsBlock bytes ends → length (pieces bytes ends) ≡ length ends
length-pieces bytes ends block = sym (length-ends_from 0 (pieces bytes ends)) ∙ ap length (sym block.ended)

-- one block behind another
pub block-append : (xs ys : List (List ℕ)) (b e c : List ℕ) → IsBlockOf xs b e → c ≡ concat ys → list_all is_short_text ys ≡ true → IsBlockOf (xs ++ ys) (b ++ c) (e ++ ends_from (length b) ys)
block-append xs ys b e c block joined short =
    let base : length (concat xs) ≡ length b = ap length (sym block.joined) in
    record {
      joined = ap (λ r. r ++ c) block.joined ∙ ap (λ r. concat xs ++ r) joined ∙ sym (concat-append xs ys);
      ended = ap (λ r. r ++ ends_from (length b) ys) block.ended ∙ ap (λ (n : ℕ). ends_from 0 xs ++ ends_from n ys) (omega arith) ∙ sym (ends_from-append 0 xs ys);
      short = short_append xs ys block.short short;
    }

pub is_short : (t : List ℕ) → IsUtf8 t → length t ≤ 255 → is_short_text t ≡ true
is_short t u l = true_and _ _ (is_utf8-from_IsUtf8 t u) (grind (arith, nat_tests))

pub short_fits : (t : List ℕ) → is_short_text t ≡ true → length t ≤ 255
short_fits t h = let k = (and_true (is_utf8 t) (nat_le (length t) 255) h).1 in grind (arith, nat_tests)

pub short_utf8 : (t : List ℕ) → is_short_text t ≡ true → IsUtf8 t
short_utf8 t h = IsUtf8-from_is_utf8 t (and_true (is_utf8 t) (nat_le (length t) 255) h).0

-- one more text
pub block-push : (xs : List (List ℕ)) (b e t : List ℕ) (end : ℕ) → IsBlockOf xs b e → IsUtf8 t → length t ≤ 255 → end ≡ length b + length t → IsBlockOf (xs ++ t ∷ []) (b ++ t) (e ++ end ∷ [])
unfolding ends_from
block-push xs b e t end block u l at =
    let short : list_all is_short_text (t ∷ []) ≡ true = true_and _ _ (is_short t u l) refl in
    let base = block-append xs (t ∷ []) b e t block (sym (append-nil t)) short in
    subst (λ (n : ℕ). IsBlockOf (xs ++ t ∷ []) (b ++ t) (e ++ n ∷ [])) (sym at) base

-- the part of a block from one place up to another
pub range_of : (ts : List (List ℕ)) (bytes ends : List ℕ) (from to : ℕ) → from ≤ to → to ≤ length ts → IsBlockOf ts bytes ends → RangeOf ts bytes ends from to
range_of ts bytes ends from to o h block =
    let first : start_at ends from ≡ length (concat (take from ts)) = ap (λ (e : List ℕ). start_at e from) block.ended ∙ start_is ts from (omega arith) in
    let last : start_at ends to ≡ length (concat (take to ts)) = ap (λ (e : List ℕ). start_at e to) block.ended ∙ start_is ts to h in
    let sum : from + (to - from) ≡ to = omega arith in
    let split : take to ts ≡ take from ts ++ take (to - from) (drop from ts) = ap (λ (n : ℕ). take n ts) (sym sum) ∙ take-add from (to - from) ts in
    let parts : concat (take to ts) ≡ concat (take from ts) ++ concat (take (to - from) (drop from ts)) = ap concat split ∙ concat-append (take from ts) (take (to - from) (drop from ts)) in
    let lens : length (concat (take to ts)) ≡ length (concat (take from ts)) + length (concat (take (to - from) (drop from ts))) = ap length parts ∙ length-append (concat (take from ts)) (concat (take (to - from) (drop from ts))) in
    let gap : start_at ends to - start_at ends from ≡ length (concat (take (to - from) (drop from ts))) = omega arith in
    let rest : drop (start_at ends from) bytes ≡ concat (drop from ts) = ap (λ (n : ℕ). drop n bytes) first ∙ ap (drop (length (concat (take from ts)))) block.joined ∙ joined_rest from ts in
    let whole : length bytes ≡ length (concat (take to ts)) + length (concat (drop to ts)) = ap length (block.joined ∙ joined_parts to ts) ∙ length-append (concat (take to ts)) (concat (drop to ts)) in
    record {
      order = omega arith;
      within = omega arith;
      joined = ap (λ r. take (start_at ends to - start_at ends from) r) rest ∙ ap (λ (n : ℕ). take n (concat (drop from ts))) gap ∙ joined_front (to - from) (drop from ts);
      ended = ap (λ r. take (to - from) (drop from r)) block.ended
          ∙ ap (take (to - from)) (ends_from-drop from 0 ts)
          ∙ ends_from-take (to - from) (0 + length (concat (take from ts))) (drop from ts)
          ∙ ap (λ (n : ℕ). ends_from n (take (to - from) (drop from ts))) (omega arith);
      short = (short_parts (to - from) (drop from ts) (short_parts from ts block.short).1).0;
    }

-- the text at a place
pub text_at : (ts : List (List ℕ)) (bytes ends : List ℕ) (i : ℕ) → i < length ts → IsBlockOf ts bytes ends → TextAt ts bytes ends i
text_at ts bytes ends i h block =
    let range = range_of ts bytes ends i (suc i) (omega arith) (omega arith) block in
    let one : suc i - i ≡ 1 = omega arith in
    let here : take (suc i - i) (drop i ts) ≡ get_or ts i [] ∷ [] = ap (λ (n : ℕ). take n (drop i ts)) one ∙ ap (take 1) (drop_more ts i [] h) in
    let text : take (start_at ends (suc i) - start_at ends i) (drop (start_at ends i) bytes) ≡ get_or ts i [] = range.joined ∙ ap concat here ∙ append-nil (get_or ts i []) in
    let short : is_short_text (get_or ts i []) ≡ true = (and_true _ _ (ap (list_all is_short_text) (sym here) ∙ range.short)).0 in
    let fits : length (get_or ts i []) ≤ 255 = short_fits _ short in
    record {
      order = range.order;
      within = range.within;
      text = slice_get-get_or ts i [] h ∙ ap Some (sym text);
      fits = let P : List ℕ → Type 0 = λ t. length t ≤ 255 in subst P (sym text) fits;
      utf8 = subst IsUtf8 (sym text) (short_utf8 _ short);
    }

-- a part of another block behind a block
pub block-extend : (xs ys : List (List ℕ)) (b e c f : List ℕ) (from to : ℕ) → from ≤ to → to ≤ length ys → IsBlockOf xs b e → IsBlockOf ys c f → IsBlockOf (xs ++ take (to - from) (drop from ys)) (b ++ take (start_at f to - start_at f from) (drop (start_at f from) c)) (e ++ map (λ z. z - start_at f from + length b) (take (to - from) (drop from f)))
block-extend xs ys b e c f from to o h block other =
    let range = range_of ys c f from to o h other in
    let a = start_at f from in
    let mid = take (to - from) (drop from ys) in
    let a_zero : a ≡ a + 0 = omega arith in
    let moved : map (λ z. z - a + length b) (take (to - from) (drop from f)) ≡ ends_from (length b) mid =
    ap (map (λ z. z - a + length b)) (range.ended ∙ ap (λ (n : ℕ). ends_from n mid) a_zero)
    ∙ ends_from-moved a (length b) 0 mid
    ∙ ap (λ (n : ℕ). ends_from n mid) (omega arith) in
    let made = block-append xs mid b e (take (start_at f to - a) (drop a c)) block range.joined range.short in
    subst (λ (r : List ℕ). IsBlockOf (xs ++ mid) (b ++ take (start_at f to - a) (drop a c)) (e ++ r)) (sym moved) made

-- where the texts of a part end
ends_within : (s : ℕ) (ts : List (List ℕ)) (i : ℕ) → i < length ts → (s ≤ get_or (ends_from s ts) i 0) × (get_or (ends_from s ts) i 0 ≤ s + length (concat ts))
unfolding ends_from
ends_within s [] i h = absurd (omega arith)
ends_within s (t ∷ ts) zero h = (omega arith, omega (arith, length-append t (concat ts)))
ends_within s (t ∷ ts) (suc i) h =
    let deeper = ends_within (s + length t) ts i (omega arith) in
    (omega arith, omega (arith, length-append t (concat ts)))

pub range_ends : (ts : List (List ℕ)) (bytes ends : List ℕ) (from to i : ℕ) → from ≤ to → to ≤ length ts → IsBlockOf ts bytes ends → i < length (take (to - from) (drop from ends)) → (start_at ends from ≤ get_or (take (to - from) (drop from ends)) i 0) × (get_or (take (to - from) (drop from ends)) i 0 ≤ start_at ends to)
range_ends ts bytes ends from to i o h block l =
    let range = range_of ts bytes ends from to o h block in
    let mid = take (to - from) (drop from ts) in
    let count : length (take (to - from) (drop from ends)) ≡ length mid = ap length range.ended ∙ length-ends_from (start_at ends from) mid in
    let lt : i < length mid = omega arith in
    let both = ends_within (start_at ends from) mid i lt in
    let same : get_or (take (to - from) (drop from ends)) i 0 ≡ get_or (ends_from (start_at ends from) mid) i 0 = ap (λ (r : List ℕ). get_or r i 0) range.ended in
    let gap : length (take (start_at ends to - start_at ends from) (drop (start_at ends from) bytes)) ≡ length (concat mid) = ap length range.joined in
    let size : length (take (start_at ends to - start_at ends from) (drop (start_at ends from) bytes)) ≤ start_at ends to - start_at ends from = omega (arith, length-take (start_at ends to - start_at ends from) (drop (start_at ends from) bytes)) in
    (omega arith, omega (arith, range.order))

-- ---- a block behind its view
pub kept : (ts : List (List ℕ)) (bytes ends : List ℕ) → pieces bytes ends ≡ ts → IsBlock bytes ends → IsBlockOf ts bytes ends
kept ts bytes ends v h = subst (λ (xs : List (List ℕ)). IsBlockOf xs bytes ends) v h

pub count_in : (ts : List (List ℕ)) (bytes ends : List ℕ) → pieces bytes ends ≡ ts → IsBlock bytes ends → length ends ≡ length ts
count_in ts bytes ends v h = sym (length-pieces bytes ends h) ∙ ap length v

pub text_in : (ts : List (List ℕ)) (bytes ends : List ℕ) (at : ℕ) → at < length ts → pieces bytes ends ≡ ts → IsBlock bytes ends → TextAt ts bytes ends at
text_in ts bytes ends at l v h = text_at ts bytes ends at l (kept ts bytes ends v h)

pub range_in : (ts : List (List ℕ)) (bytes ends : List ℕ) (from to : ℕ) → from ≤ to → to ≤ length ts → pieces bytes ends ≡ ts → IsBlock bytes ends → RangeOf ts bytes ends from to
range_in ts bytes ends from to o l v h = range_of ts bytes ends from to o l (kept ts bytes ends v h)

-- ---- the texts at some places
one_at : {X : Type 0} (xs : List X) (place : ℕ) (x : X) → slice_get xs place ≡ Some x → take 1 (drop place xs) ≡ x ∷ []
one_at [] place x h = absurd (cc)
one_at (y ∷ ys) zero x h = cc
one_at (y ∷ ys) (suc place) x h = one_at ys place x h

-- one more of them
pub texts_at_more : {X : Type 0} (xs : List X) (places : List ℕ) (i : ℕ) (x : X) → i < length places → slice_get xs (get_or places i 0) ≡ Some x → texts_at xs (take (i + 1) places) ≡ texts_at xs (take i places) ++ x ∷ []
texts_at_more xs places i x h there =
    ap (texts_at xs) (take_more places i 0 h)
    ∙ sym (flat_map_more (λ place. take 1 (drop place xs)) [] (take i places) (get_or places i 0))
    ∙ ap (λ r. texts_at xs (take i places) ++ r) (one_at xs (get_or places i 0) x there)

-- one text more adds its bytes
pub size_at_more : (xs : List (List ℕ)) (places : List ℕ) (i : ℕ) (t : List ℕ) → i < length places → slice_get xs (get_or places i 0) ≡ Some t
    → length (concat (texts_at xs (take (i + 1) places))) ≡ length (concat (texts_at xs (take i places))) + length t
size_at_more xs places i t h there =
    let before = texts_at xs (take i places) in
    ap (λ ts. length (concat ts)) (texts_at_more xs places i t h there)
    ∙ ap length (concat-append before (t ∷ []))
    ∙ length-append (concat before) (concat (t ∷ []))
    ∙ ap (λ s. length (concat before) + length s) (append-nil t)

pub texts_at_mapped : {X Y : Type 0} (f : X → Y) (xs : List X) (places : List ℕ) → map f (texts_at xs places) ≡ texts_at (map f xs) places
texts_at_mapped f xs [] = refl
texts_at_mapped f xs (place ∷ places) =
    map-append f (take 1 (drop place xs)) (texts_at xs places)
    ∙ ap (λ r. r ++ map f (texts_at xs places)) (sym (take-map f 1 (drop place xs)) ∙ ap (take 1) (sym (drop-map f place xs)))
    ∙ ap (λ r. take 1 (drop place (map f xs)) ++ r) (texts_at_mapped f xs places)
