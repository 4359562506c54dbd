-- What an event gives that is added to a recorded history, by the rule before it and after it.
use Rattle.std.proofs.Common.{◌≡◌, ℕ, ◌+◌, ◌<◌, ◌≤◌, min, List, [], ◌∷◌, set, Option, Some, None, true, false, nat_lt, if◌then◌else◌, refl, sym, ap, ◌∙◌, arith}
use Rattle.std.proofs.lemmas.Bool.Decides.{nat_tests}
use mathlib.Core.Option.{some}
use lib.ListN.{get_elem?}
use Rattle.cs_board.specs.declared.view.View.{View}
use Rattle.cs_board.specs.Numbers.{times}
use Rattle.cs_board.specs.BoardRule.{BoardRule}
use Rattle.cs_board.specs.Steps.{draws, passes, tells}
use Rattle.cs_board.specs.BoardHistory.{Claimed, Reported, BoardHistory, claims_in, least_in, claim_gives, drawn_in, IsRecordedBy, EventsGiveWhatTheyMust}
use Rattle.cs_board.proofs.Counts.{one_if, below, times-cons}
use Rattle.cs_board.proofs.Events.{steps_are_events}
use Rattle.cs_board.proofs.History.{history_words, gives_some, gives_none}

-- the only number below both m + 1 and the count, but not below both m and the count, is m
next_below : (m n count : ℕ) → one_if n n + below n (min m count) ≡ below n (min (m + 1) count) → (m ≡ n) × (n < count)
next_below m n count e = grind (arith, nat_tests)

claim_answers : (count opened claimed reported claimed' reported' : ℕ) (views : List View) (h : BoardHistory) (seat n : ℕ) (v : View) → get_elem? views seat ≡ some v → BoardRule count opened claimed reported views → IsRecordedBy views h → BoardRule count opened claimed' reported' (set views seat (draws n v)) → Some n ≡ claim_gives count h
claim_answers count opened claimed reported claimed' reported' views h seat n v at rule was next =
    let now = steps_are_events.claim views h seat n v at was in
    let before = history_words count opened claimed reported views rule h was in
    let after = history_words count opened claimed' reported' (set views seat (draws n v)) next (Claimed seat (Some n) ∷ h) now in
    let one : claimed' ≡ claimed + 1 = omega arith in
    let more : one_if n n + below n (min claimed count) ≡ below n (min claimed' count) =
    ap (λ k. one_if n n + k) (sym (was.drawn n ∙ rule.drawn n)) ∙ sym (times-cons n (drawn_in h) n) ∙ now.drawn n ∙ next.drawn n in
    let here = next_below claimed n count (more ∙ ap (λ k. below n (min k count)) one) in
    gives_some n (claims_in h) count (sym before.0 ∙ here.0) here.1

-- a claim that gives `None` leaves the drawn numbers as they are, so m has reached the count
full : (m count : ℕ) (same : (x : ℕ) → below x (min m count) ≡ below x (min (m + 1) count)) → count ≤ m
full m count same = let e = same m in grind (arith, nat_tests)

vain_answers : (count opened claimed reported claimed' reported' : ℕ) (views : List View) (h : BoardHistory) (seat : ℕ) (v : View) → get_elem? views seat ≡ some v → BoardRule count opened claimed reported views → IsRecordedBy views h → BoardRule count opened claimed' reported' (set views seat (passes v)) → None ≡ claim_gives count h
vain_answers count opened claimed reported claimed' reported' views h seat v at rule was next =
    let now = steps_are_events.claim_in_vain views h seat v at was in
    let before = history_words count opened claimed reported views rule h was in
    let after = history_words count opened claimed' reported' (set views seat (passes v)) next (Claimed seat None ∷ h) now in
    let one : claimed' ≡ claimed + 1 = omega arith in
    let all = full claimed count (λ x. sym (was.drawn x ∙ rule.drawn x) ∙ now.drawn x ∙ next.drawn x ∙ ap (λ k. below x (min k count)) one) in
    gives_none (claims_in h) count (omega arith)

pub events_give_what_they_must : EventsGiveWhatTheyMust
events_give_what_they_must = record {
  claim = claim_answers;
  claim_in_vain = vain_answers;
  look = λ count opened claimed reported views h rule was. (history_words count opened claimed reported views rule h was).1;
  report = λ count opened claimed reported claimed' reported' views h seat i v at rule was next. (history_words count opened claimed' reported' (set views seat (tells i v)) next (Reported seat i ∷ h) (steps_are_events.report views h seat i v at was)).1;
}
