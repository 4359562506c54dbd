-- The bytes of a column of runs, in one part for each piece.
use Rattle.std.proofs.Common.{◌≡◌, ℕ, suc, ◌+◌, ◌-◌, ◌*◌, ◌/◌, ◌<◌, ◌≤◌, min, List, [], ◌∷◌, ◌++◌, length, Some, refl, sym, ap, ◌∙◌, arith}
use Rattle.std.specs.Global.{Vec}
use Rattle.std.specs.List.{slice_get}
use Rattle.cs_schema.specs.declared.cells.Value.{Value}
use Rattle.cs_schema.specs.Values.{value_eq}
use Rattle.cs_codec.specs.ColumnText.{cell_bytes}
use Rattle.std.proofs.Math.Nat.{lt-div-mul-add}
use Rattle.cs_codec.specs.RunParts.{part_none, part_text, parts_follow, whole_part}
use Rattle.cs_codec.specs.Texts.{runs_text}
use Rattle.cs_rebuild.specs.Encoding.{pieces_of}
use Rattle.cs_segment.specs.SegmentWriter.{joined}

module _ (v : List Value) (cut n : ℕ) where
  -- the index at which the k-th piece begins
  abbrev pub starts : ℕ → ℕ
  starts k = min (k * cut) n

  abbrev pub AreParts : ℕ → List (Vec ℕ) → Type 0
  AreParts k texts = (i : ℕ) (text : Vec ℕ) → slice_get texts i ≡ Some text → text.items ≡ part_text cell_bytes value_eq v (min ((k + i) * cut) n) (min ((k + i) * cut + cut) n)

  parts_from : (k : ℕ) (texts : List (Vec ℕ)) → AreParts k texts → joined texts ≡ part_text cell_bytes value_eq v (starts k) (starts (k + length texts))
  parts_from k [] h =
      let same : k + 0 ≡ k = omega arith in
      sym (ap (λ m. part_text cell_bytes value_eq v (starts k) (starts m)) same ∙ part_none cell_bytes value_eq v (starts k))
  parts_from k (t ∷ ts) h =
      let here : t.items ≡ part_text cell_bytes value_eq v (min ((k + 0) * cut) n) (min ((k + 0) * cut + cut) n) = h 0 t refl in
      let first : k + 0 ≡ k = omega arith in
      let next : k * cut + cut ≡ (k + 1) * cut = grind arith in
      let count : k + 1 + length ts ≡ k + suc (length ts) = omega arith in
      let rest = parts_from (k + 1) ts (λ i text e. let place : k + suc i ≡ k + 1 + i = omega arith in h (suc i) text e ∙ ap (λ m. part_text cell_bytes value_eq v (min (m * cut) n) (min (m * cut + cut) n)) place) in
      let low : k * cut ≤ (k + 1) * cut = omega (arith, next) in
      let more : (k + 1) * cut ≤ (k + 1 + length ts) * cut = times (k + 1) (length ts) in
      ap (λ w. w ++ joined ts) (here ∙ ap (λ m. part_text cell_bytes value_eq v (min (m * cut) n) (min (m * cut + cut) n)) first ∙ ap (λ m. part_text cell_bytes value_eq v (starts k) (min m n)) next)
      ∙ ap (λ w. part_text cell_bytes value_eq v (starts k) (starts (k + 1)) ++ w) rest
      ∙ parts_follow cell_bytes value_eq v (starts k) (starts (k + 1)) (starts (k + 1 + length ts)) (omega (arith, low)) (omega (arith, more))
      ∙ ap (λ m. part_text cell_bytes value_eq v (starts k) (starts m)) count
    where
      times : (a b : ℕ) → a * cut ≤ (a + b) * cut
      times a b = let x : (a + b) * cut ≡ a * cut + b * cut = grind arith in omega (arith, x)

  -- the concatenated parts of all pieces
  pub parts_joined : (texts : List (Vec ℕ)) → AreParts 0 texts → joined texts ≡ part_text cell_bytes value_eq v (min (0 * cut) n) (min (length texts * cut) n)
  parts_joined texts h = let all : 0 + length texts ≡ length texts = omega arith in parts_from 0 texts h ∙ ap (λ m. part_text cell_bytes value_eq v (starts 0) (starts m)) all

-- the pieces cover the column
pub covered : (cut per n : ℕ) → 1 ≤ cut → per ≡ pieces_of n cut → n ≤ per * cut
covered cut per n some e =
    let q : ℕ = (n + cut - 1) / cut in
    let l : n + cut - 1 < q * cut + cut = lt-div-mul-add (omega (arith, some)) in
    let most : q ≤ per = omega (arith, e) in
    let parts : q * cut + (per - q) * cut ≡ (q + (per - q)) * cut = grind arith in
    let all : q + (per - q) ≡ per = omega (arith, most) in
    let same : (q + (per - q)) * cut ≡ per * cut = ap (λ m. m * cut) all in
    omega (arith, l, parts, same, some)

-- so their parts are the bytes of the whole column
pub parts_whole : (v : List Value) (cut per : ℕ) (texts : List (Vec ℕ)) → 1 ≤ cut → per ≡ pieces_of (length v) cut → length texts ≡ per → AreParts v cut (length v) 0 texts → joined texts ≡ runs_text cell_bytes value_eq v
parts_whole v cut per texts some e count h =
    let front : min (0 * cut) (length v) ≡ 0 = let x : 0 * cut ≡ 0 = grind arith in omega (arith, x) in
    let enough = covered cut per (length v) some e in
    let same : length texts * cut ≡ per * cut = ap (λ m. m * cut) count in
    let back : min (length texts * cut) (length v) ≡ length v = omega (arith, enough, same) in
    parts_joined v cut (length v) texts h
    ∙ ap (λ m. part_text cell_bytes value_eq v m (min (length texts * cut) (length v))) front
    ∙ ap (λ m. part_text cell_bytes value_eq v 0 m) back
    ∙ whole_part cell_bytes value_eq v
