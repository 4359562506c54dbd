-- What was written is read back.
use Rattle.std.proofs.Common.{◌≡◌, ◌==◌, ◌||◌, ◌+◌, ◌-◌, ◌<◌, cond, ℕ, Bool, true, false, List, [], ◌∷◌, ◌++◌, length, take, drop, codes, Some, IsSome, Ok, IsOk, refl, subst, sym, ap, ◌∙◌, arith, get_or}
use Rattle.std.specs.List.{All, AllByRecursion, AllPass, cons_option, position_or_len, slice_split}
use Rattle.std.specs.Map.{lookup}
use Rattle.std.specs.Str.{bytes_eq}
use Rattle.std.specs.Str.Lines.{lines, lines_of_parts, strip_carriage_return}
use Rattle.std.proofs.lemmas.Bool.{false≢true, ne_eqb}
use Rattle.std.proofs.lemmas.List.{append_assoc, length-append, get_or_append_left}
use Rattle.std.proofs.lemmas.List.Elements.{All-append, All-cons}
use Rattle.std.proofs.lemmas.List.Splits.{slice_split_at, length-slice_split}
use Rattle.std.proofs.lemmas.List.Sums.{position_or_len_is}
use Rattle.std.proofs.Math.Seq.{take-append_seam, drop-append-add, get_or-append_seam}
use Rattle.hex.specs.Hex.{decode_sized, encode_lower, is_hex_digit}
use Rattle.hex.proofs.HexLemmas.{decode_sized-encode_lower, IsOk-decode_sized}
use Rattle.cs_manifest.specs.Lines.{entry_in, is_space, path_after, path_with_digest}
use Rattle.cs_manifest.specs.Reading.{said}
use Rattle.cs_manifest.specs.RoundTrip.{Entry, IsDigest, IsEntry, LinesReadBack, ManifestsReadBack, written}

or-left : (a b : Bool) → (a || b) ≡ false → a ≡ false
or-left true b h = h
or-left false b h = refl

or-right : (a b : Bool) → (a || b) ≡ false → b ≡ false
or-right true b h = absurd (false≢true (sym h))
or-right false b h = h

-- ---- the digits of a digest

not_digit : (k c : ℕ) → is_hex_digit k ≡ false → is_hex_digit c ≡ true → (c == k) ≡ false
not_digit k c lacks is = ne_eqb c k (λ e. false≢true (sym lacks ∙ ap is_hex_digit (sym e) ∙ is))

ends_no_line : (c : ℕ) → is_hex_digit c ≡ true → (c == 10 || c == 13) ≡ false
ends_no_line c is = ap (λ b. b || (c == 13)) (not_digit 10 c refl is) ∙ not_digit 13 c refl is

decoded : (d : List ℕ) → IsDigest d → decode_sized (encode_lower d) 32 ≡ Ok d
decoded d is = decode_sized-encode_lower d 32 is.0 is.1

digits : (d : List ℕ) → IsDigest d → AllPass is_hex_digit (encode_lower d)
digits d is = ((IsOk-decode_sized (encode_lower d) 32).0 (subst (λ r. IsOk r) (sym (decoded d is)) refl)).1

-- ---- the entry of a line

at_byte : (p : ℕ → Bool) (xs : List ℕ) (y : ℕ) (ys : List ℕ) → All (λ x. p x ≡ false) xs → p y ≡ true → position_or_len p (xs ++ y ∷ ys) ≡ length xs
at_byte p xs y ys none is = position_or_len_is p (xs ++ y ∷ ys) (length xs) 0
    (omega (arith, length-append xs (y ∷ ys)))
    (λ k below. ap p (get_or_append_left xs (y ∷ ys) 0 k below) ∙ none k 0 below)
    (λ there. ap p (get_or-append_seam xs y ys 0) ∙ is)

entry_of : (front path d : List ℕ) → All (λ c. is_space c ≡ false) front → decode_sized front 32 ≡ Ok d → 0 < length path → entry_in (front ++ codes "  " ++ path) ≡ Some (path, d)
entry_of front [] d none dec some = absurd (omega (arith, some))
entry_of front (b ∷ more) d none dec some =
    let rest : List ℕ = 32 ∷ 32 ∷ b ∷ more in
    let place : position_or_len is_space (front ++ rest) ≡ length front = at_byte is_space front 32 (32 ∷ b ∷ more) none refl in
    ap entry_in (append_assoc front (codes "  ") (b ∷ more))
    ∙ ap (λ n. path_with_digest (path_after (drop (n + 1) (front ++ rest))) (decode_sized (take n (front ++ rest)) 32)) place
    ∙ ap (λ v. path_with_digest (path_after v) (decode_sized (take (length front) (front ++ rest)) 32)) (drop-append-add front rest 1)
    ∙ ap (λ v. path_with_digest (Some (b ∷ more)) (decode_sized v 32)) (take-append_seam front rest)
    ∙ ap (path_with_digest (Some (b ∷ more))) dec

-- ---- the first line of a text

parts_cons : (x : List ℕ) (parts : List (List ℕ)) → 0 < length parts → lines_of_parts (x ∷ parts) ≡ strip_carriage_return x ∷ lines_of_parts parts
parts_cons x [] some = absurd (omega (arith, some))
parts_cons x (y ∷ more) some = refl

first_line : (line rest : List ℕ) → 0 < length line → All (λ b. (b == 10 || b == 13) ≡ false) line → lines (line ++ 10 ∷ rest) ≡ line ∷ lines rest
first_line line rest some plain =
    let p : ℕ → Bool = λ b. b == 10 in
    let whole : (get_or line (length line - 1) 0 == 13) ≡ false = or-right (get_or line (length line - 1) 0 == 10) _ (plain (length line - 1) 0 (omega (arith, some))) in
    ap lines_of_parts (slice_split_at p line 10 rest (λ k d below. or-left (get_or line k d == 10) _ (plain k d below)) refl)
    ∙ parts_cons line (slice_split p rest) (omega (arith, length-slice_split p rest))
    ∙ ap (λ b. cond b (take (length line - 1) line) line ∷ lines rest) whole

pub lines_back : LinesReadBack
lines_back entry rest is =
    let front : List ℕ = encode_lower entry.1 in
    let line : List ℕ = front ++ codes "  " ++ entry.0 in
    let P : ℕ → Type 0 = λ b. (b == 10 || b == 13) ≡ false in
    let spaces : All P (codes "  ") = All-cons P 32 (32 ∷ []) refl (All-cons P 32 [] refl (λ k d below. absurd (omega (arith, below)))) in
    let plain : All P line = All-append P (front ++ codes "  ") entry.0 (All-append P front (codes "  ") (λ k d below. ends_no_line (get_or front k d) (digits entry.1 is.1 k d below)) spaces) is.0.1 in (
      line,
      ap lines (append_assoc line (10 ∷ []) rest) ∙ first_line line rest (omega (arith, length-append (front ++ codes "  ") entry.0, is.0.0)) plain,
      entry_of front entry.0 entry.1 (λ k d below. not_digit 32 (get_or front k d) refl (digits entry.1 is.1 k d below)) (decoded entry.1 is.1) is.0.0,
    )

-- ---- all lines of a text

said_back : (es : List Entry) → AllByRecursion IsEntry es → said (lines (written es)) ≡ es
said_back [] all = refl
said_back (e ∷ es) all =
    let back = lines_back e (written es) all.0 in
    ap said back.1 ∙ ap (λ o. cons_option o (said (lines (written es)))) back.2 ∙ ap (λ more. e ∷ more) (said_back es all.1)

each_said : (es : List Entry) → AllByRecursion IsEntry es → AllByRecursion (λ line. IsSome (entry_in line)) (lines (written es))
each_said [] all = tt
each_said (e ∷ es) all =
    let back = lines_back e (written es) all.0 in
    subst (AllByRecursion (λ line. IsSome (entry_in line))) (sym back.1) (subst (λ o. IsSome o) (sym back.2) refl, each_said es all.1)

of_one : {A : Type 0} (P : A → Type 0) (xs : List A) (y : A) (ys : List A) → AllByRecursion P (xs ++ y ∷ ys) → P y
of_one P [] y ys all = all.0
of_one P (x ∷ xs) y ys all = of_one P xs y ys all.1

pub manifests_back : ManifestsReadBack
manifests_back es all = (
  λ m reads path. reads.says path ∙ ap (lookup (bytes_eq path)) (said_back es all),
  λ n stops.
      let P : List ℕ → Type 0 = λ line. IsSome (entry_in line) in
      let some : IsSome (entry_in stops.0) = of_one P stops.1 stops.0 stops.2.later (subst (AllByRecursion P) stops.2.split (each_said es all)) in
      false≢true (subst (λ o. IsSome o) stops.3 some),
)
