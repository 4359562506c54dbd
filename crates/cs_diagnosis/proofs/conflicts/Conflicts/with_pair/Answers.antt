use Rattle.std.proofs.Common.{◌≡◌, ◌≤◌, ◌-◌, ℕ, length, get_or, sym, subst, arith}
use Rattle.std.proofs.lemmas.Option.{slice_get-get_or}
use Rattle.cs_diagnosis.proofs.Gathered.{HasOne, swapped, pair_more}
use Rattle.cs_diagnosis.proofs.conflicts.Conflicts.with_pair.Goals as goal
use Rattle.cs_diagnosis.proofs.conflicts.Conflicts.with_pair.Goals.{then-first-second, else-first-second}

pub returns : goal.returns
returns c L =
    let sets = c.args.self.now.with in
    let all : length sets ≡ 16 = search arith in
    let x = c.if-first-second.low.0 in
    let y = c.if-first-second.low.1 in
    let range : (1 ≤ x) × (x ≤ 16) = elim c.if-first-second.branch [
      | then-first-second w ↦ subst (λ (p : ℕ × ℕ). (1 ≤ p.0) × (p.0 ≤ 16)) (sym w.low-is) c.requires.first
      | else-first-second w ↦ subst (λ (p : ℕ × ℕ). (1 ≤ p.0) × (p.0 ≤ 16)) (sym w.low-is) c.requires.second
    ] in
    let low = range.0 in
    let high = range.1 in
    let at = slice_get-get_or sets (x - 1) c.index-with-place.result (omega (arith, low, high, all)) in
    let more = pair_more L sets x y (get_or sets (x - 1) c.index-with-place.result) c.with.result low at c.with.ensures.members in
    elim c.if-first-second.branch [
      | then-first-second w ↦
          let same = w.low-is in (
            λ hit. let both = more.0 hit in (both.0, subst (λ (p : ℕ × ℕ). HasOne L p.0 p.1) same both.1),
            λ both. more.1 (both.0, subst (λ (p : ℕ × ℕ). HasOne L p.0 p.1) (sym same) both.1),
          )
      | else-first-second w ↦
          let same = w.low-is in (
            λ hit. let both = more.0 hit in (both.0, swapped L c.args.second c.args.first (subst (λ (p : ℕ × ℕ). HasOne L p.0 p.1) same both.1)),
            λ both. more.1 (both.0, subst (λ (p : ℕ × ℕ). HasOne L p.0 p.1) (sym same) (swapped L c.args.first c.args.second both.1)),
          )
    ]
