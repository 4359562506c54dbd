use Rattle.std.proofs.Common.{◌≡◌, ◌+◌, ◌-◌, ◌<◌, ◌≤◌, [], ◌∷◌, ◌++◌, ℕ, List, length, take, drop, map, get_or, sym, ap, ◌∙◌, arith, append_assoc, length-drop}
use Rattle.std.specs.Prelude.{slice_index}
use Rattle.std.proofs.lemmas.List.{get_or-take, get_or-drop, map_more}
use Rattle.cs_schema.proofs.ends.push_moved.Goals as goal

-- an end of a part stands in the whole, further on
in_part : (es : List ℕ) (from to at : ℕ) → from ≤ at → at < to → slice_index (take (to - from) (drop from es)) (at - from) ≡ slice_index es at
in_part es from to at h k =
    let here : from + (at - from) ≡ at = omega arith in
    get_or-take (to - from) (drop from es) (at - from) 0 (omega arith)
    ∙ get_or-drop from es (at - from) 0
    ∙ ap (λ (n : ℕ). get_or es n 0) here

pub overflow_sub-get : goal.overflow_sub-get
overflow_sub-get c =
    let here = in_part c.args.other.now c.args.from c.args.to c.loop-at.at (omega arith) (omega arith) in
    let low = c.requires.low (c.loop-at.at - c.args.from) (omega arith) in
    omega arith

pub overflow_add-get : goal.overflow_add-get
overflow_add-get c =
    let here = in_part c.args.other.now c.args.from c.args.to c.loop-at.at (omega arith) (omega arith) in
    let low = c.requires.low (c.loop-at.at - c.args.from) (omega arith) in
    let high = c.requires.high (c.loop-at.at - c.args.from) (omega arith) in
    omega arith

-- one more end
step : (initial ends new es : List ℕ) (from at less more e : ℕ) → from ≤ at → at < length es
    → ends ≡ initial ++ map (λ z. z - less + more) (take (at - from) (drop from es)) → e ≡ slice_index es at → new ≡ ends ++ (e - less + more) ∷ []
    → new ≡ initial ++ map (λ z. z - less + more) (take (at + 1 - from) (drop from es))
step initial ends new es from at less more e h k before read added =
    let f : ℕ → ℕ = λ (z : ℕ). z - less + more in
    let next : at - from + 1 ≡ at + 1 - from = omega arith in
    let here : from + (at - from) ≡ at = omega arith in
    let within : at - from < length (drop from es) = omega (arith, length-drop from es) in
    let same : get_or (drop from es) (at - from) 0 ≡ e = get_or-drop from es (at - from) 0 ∙ ap (λ (n : ℕ). get_or es n 0) here ∙ sym read in
    let more : map f (take (at + 1 - from) (drop from es)) ≡ map f (take (at - from) (drop from es)) ++ f e ∷ [] =
    ap (λ (n : ℕ). map f (take n (drop from es))) (sym next)
    ∙ map_more f (drop from es) (at - from) 0 within
    ∙ ap (λ (x : ℕ). map f (take (at - from) (drop from es)) ++ f x ∷ []) same in
    added
    ∙ ap (λ (r : List ℕ). r ++ f e ∷ []) before
    ∙ append_assoc initial (map f (take (at - from) (drop from es))) (f e ∷ [])
    ∙ ap (λ (r : List ℕ). initial ++ r) (sym more)

pub loop-at-preserved : goal.loop-at-preserved
loop-at-preserved c =
    step c.reserve.new.self c.loop-at.ends c.push.new.self c.args.other.now c.args.from c.loop-at.at c.args.shift.less c.args.shift.more c.get.result
    (omega arith) (omega arith) c.loop-at.invariant c.get.ensures c.in_ok-push.ensures.ok
