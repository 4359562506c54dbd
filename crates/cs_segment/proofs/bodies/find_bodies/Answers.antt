use Rattle.std.proofs.Common.{◌≡◌, ℕ, ◌+◌, List, map, length, ap, ◌∙◌, arith, Bor}
use Rattle.std.proofs.lemmas.List.{length-map, map_push, length_push}
use Rattle.cs_segment.proofs.BodyLists.{body_refused, nothing_more, bodies_more, short_more}
use Rattle.cs_segment.proofs.bodies.find_bodies.Goals as goal

pub returns-in_default-clause-refused : goal.returns-in_default-clause-refused
returns-in_default-clause-refused c = λ damaged bodies h.
    let i = c.loop-j.invariant in
    let done = map (λ (body : Bor (List ℕ)). body.now) c.loop-j.bodies.items in
    body_refused c.args.catalog.now c.args.p c.loop-j.j c.args.bytes.now c.loop-j.rest.now done bodies i.text (length-map c.loop-j.bodies.items (λ (body : Bor (List ℕ)). body.now) ∙ i.count) i.short h (omega arith)
    (λ body after b. rw (c.code.ensures, c.column_kind.ensures) at c.in_default.ensures.none body after b)

pub loop-j-preserved : goal.loop-j-preserved
loop-j-preserved c =
    let i = c.loop-j.invariant in
    let done = map (λ (body : Bor (List ℕ)). body.now) c.loop-j.bodies.items in
    let found = rw (c.code.ensures, c.column_kind.ensures) at c.in-Some.ensures.found in
    rw (c.in_ok-push.ensures.items, map_push (λ (body : Bor (List ℕ)). body.now) c.loop-j.bodies.items c.in-Some.body) (record {
      text = bodies_more c.args.catalog.now c.args.p c.loop-j.j c.args.bytes.now c.loop-j.rest.now c.in-Some.after.now done c.in-Some.body.now i.text (length-map c.loop-j.bodies.items (λ (body : Bor (List ℕ)). body.now) ∙ i.count) found;
      count = length_push c.loop-j.bodies.items c.in-Some.body ∙ ap (λ n. n + 1) i.count;
      short = short_more done c.in-Some.body.now i.short found.short;
    })

pub returns-then-not-is_empty-clause-refused : goal.returns-then-not-is_empty-clause-refused
returns-then-not-is_empty-clause-refused c = λ damaged bodies h.
    let i = c.loop-j.invariant in
    let done = map (λ (body : Bor (List ℕ)). body.now) c.loop-j.bodies.items in
    let count = length-map c.loop-j.bodies.items (λ (body : Bor (List ℕ)). body.now) ∙ i.count in
    let ended = nothing_more c.args.catalog.now c.args.p c.args.bytes.now c.loop-j.rest.now done bodies i.text i.short h (omega arith) in
    let none : length c.loop-j.rest.now ≡ 0 = ap length ended in
    grind (arith, c.is_empty.ensures, none)
