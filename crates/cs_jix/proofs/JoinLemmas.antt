-- The entries of join indexes, and their bytes.
use Rattle.std.proofs.Common.{◌≡◌, ℕ, zero, suc, ◌+◌, ◌*◌, ◌<◌, ◌≤◌, List, [], ◌∷◌, ◌++◌, length, get_or, take, drop, refl, sym, ap, ◌∙◌, arith, Bool, true, false, cond, Some, None, eqb, eq-eqb, eqb-true, append_assoc, inl, inr, true≢false}
use Rattle.std.specs.Prelude.{◌&&◌, nat_le, ◌^◌}
use Rattle.std.specs.List.{zip, list_all, slice_get}
use Rattle.std.specs.Int.{w16, w32, to_be_bytes, from_be_bytes}
use Rattle.std.proofs.lemmas.List.{take-append-drop, take-take, drop-take}
use borrow.Author.Tests.{leb-true, le-leb}
use Rattle.std.proofs.lemmas.Slice.Zip.{length-zip, get_or-zip}
use Rattle.std.proofs.lemmas.Option.{slice_get-get_or, slice_get_past}
use Rattle.std.proofs.lemmas.Nat.{from_be_bytes-to_be_bytes_2, from_be_bytes-to_be_bytes_4}
use Rattle.cs_schema.specs.Lists.{IsIn}
use Rattle.cs_jix.specs.JoinIndex.{Place, entry_at, placed_entry, IsEntry}
use Rattle.cs_jix.specs.JoinIndex.{join_index_body, IsJoinIndexFile}
use Rattle.cs_segment.specs.Bytes.{be32}
use Rattle.cs_segment.specs.SegmentFile.{sealed}
use Rattle.cs_segment.proofs.Sealing.{sealed_once}
use Rattle.cs_jix.specs.Entries.{join_head, entry_text, entries_text, is_allowed, FitEntry}

pub zip_length : (ks vs : List ℕ) → length ks ≡ length vs → length (zip ks vs) ≡ length vs
zip_length ks vs e = length-zip ks vs ∙ omega arith

pub zip_push : (ks vs : List ℕ) (k v : ℕ) → length ks ≡ length vs → zip (ks ++ k ∷ []) (vs ++ v ∷ []) ≡ zip ks vs ++ (k, v) ∷ []
zip_push [] [] k v e = refl
zip_push [] (y ∷ vs) k v e = absurd (omega (arith, e))
zip_push (x ∷ ks) [] k v e = absurd (omega (arith, e))
zip_push (x ∷ ks) (y ∷ vs) k v e = ap (λ (l : List Place). (x, y) ∷ l) (zip_push ks vs k v (omega (arith, e)))

pub zip_at : (ks vs : List ℕ) (i k v : ℕ) → length ks ≡ length vs → i < length vs → k ≡ get_or ks i k → v ≡ get_or vs i v → slice_get (zip ks vs) i ≡ Some (k, v)
zip_at ks vs i k v e h a b =
    let l = zip_length ks vs e in
    slice_get-get_or (zip ks vs) i (k, v) (omega arith) ∙ ap Some (get_or-zip ks vs i (k, v) (omega arith) h) ∙ (λ j. Some (sym a j, sym b j))

pub entry_zero : (es : List Place) (key : ℕ) → key ≡ 0 → None ≡ entry_at es key
entry_zero es key e = ap (entry_at es) (sym e)

pub entry_past : (es : List Place) (key : ℕ) → length es < key → None ≡ entry_at es key
entry_past es zero h = refl
entry_past es (suc i) h = sym (ap placed_entry (slice_get_past es i (omega arith)))

pub entry_here : (es : List Place) (key i : ℕ) (e : Place) → key ≡ i + 1 → slice_get es i ≡ Some e → placed_entry (Some e) ≡ entry_at es key
entry_here es zero i e k h = absurd (omega arith)
entry_here es (suc n) i e k h = let s : n ≡ i = omega arith in sym (ap placed_entry (ap (slice_get es) s ∙ h))

pub dead_entry : (e : Place) → e.1 ≡ 0 → None ≡ placed_entry (Some e)
dead_entry e h = sym (ap (λ (b : Bool). cond b None (Some e)) (eq-eqb e.1 0 h))

not_eqb : (x y : ℕ) → (x ≡ y → ⊥) → (b : Bool) → eqb x y ≡ b → eqb x y ≡ false
not_eqb x y n true e = absurd (n (eqb-true x y e))
not_eqb x y n false e = e

pub live_entry : (e : Place) → (e.1 ≡ 0 → ⊥) → Some e ≡ placed_entry (Some e)
live_entry e h = sym (ap (λ (b : Bool). cond b None (Some e)) (not_eqb e.1 0 h (eqb e.1 0) refl))

-- ---- the bytes of entries

pub concat_push : (xs : List Place) (e : Place) → entries_text (xs ++ e ∷ []) ≡ entries_text xs ++ entry_text e
concat_push [] e = refl
concat_push (x ∷ xs) e = ap (λ l. entry_text x ++ l) (concat_push xs e) ∙ sym (append_assoc (entry_text x) (entries_text xs) (entry_text e))

pub take_plus : (n m : ℕ) (xs : List ℕ) → take (n + m) xs ≡ take n xs ++ take m (drop n xs)
take_plus n m xs =
    sym (take-append-drop n (take (n + m) xs))
    ∙ ap (λ l. l ++ drop n (take (n + m) xs)) (take-take n (n + m) xs (omega arith))
    ∙ ap (λ l. take n xs ++ l) (drop-take n m xs)

pub entries_more : (bytes segments keys : List ℕ) (i a b : ℕ) → length segments ≡ i → length keys ≡ i → take (6 * i) bytes ≡ entries_text (zip segments keys) → take 6 (drop (6 * i) bytes) ≡ entry_text (a, b) → take (6 * (i + 1)) bytes ≡ entries_text (zip (segments ++ a ∷ []) (keys ++ b ∷ []))
entries_more bytes segments keys i a b p q before here =
    let n : 6 * (i + 1) ≡ 6 * i + 6 = omega arith in
    ap (λ k. take k bytes) n
    ∙ take_plus (6 * i) 6 bytes
    ∙ (λ j. before j ++ here j)
    ∙ sym (concat_push (zip segments keys) (a, b))
    ∙ ap entries_text (sym (zip_push segments keys a b (p ∙ sym q)))

entry_once : (e f : Place) → FitEntry e → FitEntry f → (rest others : List ℕ) → entry_text e ++ rest ≡ entry_text f ++ others → (e ≡ f) × (rest ≡ others)
entry_once e f h k rest others same =
    let segments : to_be_bytes w16 e.0 ≡ to_be_bytes w16 f.0 = ap (take 2) same in
    let keys : to_be_bytes w32 e.1 ≡ to_be_bytes w32 f.1 = ap (λ l. take 4 (drop 2 l)) same in
    let s : e.0 ≡ f.0 = sym (from_be_bytes-to_be_bytes_2 e.0 h.segment) ∙ ap (from_be_bytes w16) segments ∙ from_be_bytes-to_be_bytes_2 f.0 k.segment in
    let t : e.1 ≡ f.1 = sym (from_be_bytes-to_be_bytes_4 e.1 h.key) ∙ ap (from_be_bytes w32) keys ∙ from_be_bytes-to_be_bytes_4 f.1 k.key in
    ((λ i. (s i, t i)), ap (drop 6) same)

pub entries_once : (xs ys : List Place) → ((e : Place) → IsIn e xs → FitEntry e) → ((e : Place) → IsIn e ys → FitEntry e) → entries_text xs ≡ entries_text ys → xs ≡ ys
entries_once [] [] h k e = refl
entries_once [] (y ∷ ys) h k e = absurd (omega (arith, ap length e))
entries_once (x ∷ xs) [] h k e = absurd (omega (arith, ap length e))
entries_once (x ∷ xs) (y ∷ ys) h k e =
    let r = entry_once x y (h x (inl refl)) (k y (inl refl)) (entries_text xs) (entries_text ys) e in
    let s = entries_once xs ys (λ f i. h f (inr i)) (λ f i. k f (inr i)) r.1 in
    λ i. r.0 i ∷ s i

-- ---- valid entries

andb_first : (s t : Bool) → (s && t) ≡ true → s ≡ true
andb_first true t h = refl
andb_first false t h = h

andb_second : (s t : Bool) → (s && t) ≡ true → t ≡ true
andb_second true t h = h
andb_second false t h = absurd (true≢false (sym h))

pub is_entry : (e : Place) → is_allowed e ≡ true → IsEntry e
is_entry e h = go (eqb e.1 0) refl
  where
    go : (b : Bool) → eqb e.1 0 ≡ b → IsEntry e
    go true z =
        let first : eqb e.0 0 ≡ true = sym (ap (λ (b : Bool). cond b (eqb e.0 0) (nat_le e.0 15 && nat_le e.1 4194304)) z) ∙ h in
        inl (λ i. (eqb-true e.0 0 first i, eqb-true e.1 0 z i))
    go false z =
        let both : (nat_le e.0 15 && nat_le e.1 4194304) ≡ true = sym (ap (λ (b : Bool). cond b (eqb e.0 0) (nat_le e.0 15 && nat_le e.1 4194304)) z) ∙ h in
        let s : e.0 ≤ 15 = leb-true e.0 15 (andb_first (nat_le e.0 15) (nat_le e.1 4194304) both) in
        let t : e.1 ≤ 4194304 = leb-true e.1 4194304 (andb_second (nat_le e.0 15) (nat_le e.1 4194304) both) in
        let n : e.1 ≡ 0 → ⊥ = λ w. true≢false (sym (eq-eqb e.1 0 w) ∙ z) in
        inr (s, omega arith, t)

pub entry_allowed : (e : Place) → IsEntry e → is_allowed e ≡ true
entry_allowed e (inl z) = ap is_allowed z
entry_allowed e (inr h) =
    let pos : 1 ≤ e.1 = h.1 in
    ap (λ (b : Bool). cond b (eqb e.0 0) (nat_le e.0 15 && nat_le e.1 4194304)) (not_eqb e.1 0 (λ w. omega arith) (eqb e.1 0) refl)
    ∙ (λ i. le-leb e.0 15 h.0 i && le-leb e.1 4194304 h.2 i)

pub all_entries : (xs : List Place) → list_all is_allowed xs ≡ true → (e : Place) → IsIn e xs → IsEntry e
all_entries [] h e i = absurd i
all_entries (x ∷ xs) h e (inl k) = is_entry e (ap is_allowed k ∙ andb_first (is_allowed x) (list_all is_allowed xs) h)
all_entries (x ∷ xs) h e (inr k) = all_entries xs (andb_second (is_allowed x) (list_all is_allowed xs) h) e k

pub entries_allowed : (xs : List Place) → ((e : Place) → IsIn e xs → IsEntry e) → list_all is_allowed xs ≡ true
entries_allowed [] h = refl
entries_allowed (x ∷ xs) h = λ i. entry_allowed x (h x (inl refl)) i && entries_allowed xs (λ e k. h e (inr k)) i

pub fit_entry : (e : Place) → IsEntry e → FitEntry e
fit_entry e (inl z) = let s : e.0 ≡ 0 = ap (λ (f : Place). f.0) z in let t : e.1 ≡ 0 = ap (λ (f : Place). f.1) z in record { segment = omega arith; key = omega arith }
fit_entry e (inr h) = let s : e.0 ≤ 15 = h.0 in let t : e.1 ≤ 4194304 = h.2 in record { segment = omega arith; key = omega arith }

pub zip_fits : (segments keys : List ℕ) → ((i : ℕ) → get_or segments i 0 < 65536) → ((i : ℕ) → get_or keys i 0 < 4294967296) → (e : Place) → IsIn e (zip segments keys) → FitEntry e
zip_fits [] keys h k e i = absurd i
zip_fits (x ∷ xs) [] h k e i = absurd i
zip_fits (x ∷ xs) (y ∷ ys) h k e (inl w) =
    let a : x < 65536 = h 0 in
    let b : y < 4294967296 = k 0 in
    let s : e.0 ≡ x = ap (λ (f : Place). f.0) w in
    let t : e.1 ≡ y = ap (λ (f : Place). f.1) w in
    record { segment = omega arith; key = omega arith }
zip_fits (x ∷ xs) (y ∷ ys) h k e (inr w) = zip_fits xs ys (λ i. h (suc i)) (λ i. k (suc i)) e w

pub entries_length : (xs : List Place) → length (entries_text xs) ≡ 6 * length xs
entries_length [] = refl
entries_length (x ∷ xs) = let l = entries_length xs in omega arith

-- ---- files

module _ (p s q : ℕ) (bytes text : List ℕ) (sealed_is : bytes ≡ sealed text) where
  pub file_text : (es : List Place) → IsJoinIndexFile p s q bytes es → text ≡ join_head p s q ++ (be32 (length es) ++ entries_text es)
  file_text es f = sealed_once text (join_index_body p s q es) (sym sealed_is ∙ f.text)

  pub no_head : ((rest : List ℕ) → text ≡ join_head p s q ++ rest → ⊥) → (es : List Place) → IsJoinIndexFile p s q bytes es → ⊥
  no_head h es f = h (be32 (length es) ++ entries_text es) (file_text es f)

  pub file_rest : (rest : List ℕ) → text ≡ join_head p s q ++ rest → (es : List Place) → IsJoinIndexFile p s q bytes es → rest ≡ be32 (length es) ++ entries_text es
  file_rest rest h es f = ap (drop 14) (sym h ∙ file_text es f)

  pub no_number : (rest : List ℕ) → text ≡ join_head p s q ++ rest → length rest < 4 → (es : List Place) → IsJoinIndexFile p s q bytes es → ⊥
  no_number rest h l es f = omega (arith, ap length (file_rest rest h es f))

  pub file_count : (rest body : List ℕ) (count : ℕ) → text ≡ join_head p s q ++ rest → rest ≡ be32 count ++ body → count < 2 ^ 32 → (es : List Place) → IsJoinIndexFile p s q bytes es → count ≡ length es
  file_count rest body count h r l es f =
      let n : length es ≤ 4194304 = f.count in
      sym (from_be_bytes-to_be_bytes_4 count l) ∙ ap (λ x. from_be_bytes w32 (take 4 x)) (sym r ∙ file_rest rest h es f) ∙ from_be_bytes-to_be_bytes_4 (length es) (omega arith)

  pub file_body : (rest body : List ℕ) (count : ℕ) → text ≡ join_head p s q ++ rest → rest ≡ be32 count ++ body → (es : List Place) → IsJoinIndexFile p s q bytes es → body ≡ entries_text es
  file_body rest body count h r es f = ap (drop 4) (sym r ∙ file_rest rest h es f)

  pub bad_count : (rest body : List ℕ) (count : ℕ) → text ≡ join_head p s q ++ rest → rest ≡ be32 count ++ body → count < 2 ^ 32 → (count ≤ 4194304 → length body ≡ 6 * count → ⊥) → (es : List Place) → IsJoinIndexFile p s q bytes es → ⊥
  bad_count rest body count h r l n es f =
      let c = file_count rest body count h r l es f in
      let b : length body ≡ length (entries_text es) = ap length (file_body rest body count h r es f) in
      let m = entries_length es in
      let k : length es ≤ 4194304 = f.count in
      n (omega arith) (omega arith)

  pub bad_entries : (rest body : List ℕ) (count : ℕ) → text ≡ join_head p s q ++ rest → rest ≡ be32 count ++ body → (xs : List Place) → ((e : Place) → IsIn e xs → FitEntry e) → body ≡ entries_text xs → list_all is_allowed xs ≡ false → (es : List Place) → IsJoinIndexFile p s q bytes es → ⊥
  bad_entries rest body count h r xs fits b n es f =
      let same : xs ≡ es = entries_once xs es fits (λ e i. fit_entry e (f.each e i)) (sym b ∙ file_body rest body count h r es f) in
      true≢false (sym (entries_allowed es f.each) ∙ sym (ap (list_all is_allowed) same) ∙ n)

  pub read_file : (rest body : List ℕ) (count : ℕ) → text ≡ join_head p s q ++ rest → rest ≡ be32 count ++ body → count ≤ 4194304 → (xs : List Place) → length xs ≡ count → body ≡ entries_text xs → list_all is_allowed xs ≡ true → IsJoinIndexFile p s q bytes xs
  read_file rest body count h r l xs n b a = record {
    count = omega arith;
    each = all_entries xs a;
    text = sealed_is ∙ ap sealed (h ∙ ap (λ x. join_head p s q ++ x) (r ∙ (λ i. be32 (sym n i) ++ b i)));
  }

-- bytes are the file of at most one list of entries
pub one_reading : (p s q : ℕ) (bytes : List ℕ) (xs ys : List Place) → IsJoinIndexFile p s q bytes xs → IsJoinIndexFile p s q bytes ys → xs ≡ ys
one_reading p s q bytes xs ys f g =
    entries_once xs ys (λ e i. fit_entry e (f.each e i)) (λ e i. fit_entry e (g.each e i))
    (ap (drop 18) (sealed_once (join_index_body p s q xs) (join_index_body p s q ys) (sym f.text ∙ g.text)))
