use Rattle.std.proofs.Common.{◌≡◌, ◌+◌, ℕ, List, [], map, length, ap, sym, subst, ◌∙◌, arith}
use Rattle.std.specs.List.{concat}
use Rattle.std.proofs.lemmas.List.{length_push, append-nil}
use Rattle.std.proofs.lemmas.Result.{err_from_is_err_and}
use Rattle.cs_delta.specs.Image.{Change}
use Rattle.cs_delta.specs.DeltaFile.{IsLayer, layer_text, rows_after}
use Rattle.cs_delta.specs.Reading.{counted}
use Rattle.cs_delta.proofs.Sequences.{along-push, read_more, stands_next, same_sequence}
use Rattle.cs_delta.proofs.ItemTexts.{one_layer, layers_along}
use Rattle.cs_delta.proofs.reader.DeltaReader.layers.Goals as goal

pub returns-then-below-from-clause-refused : goal.returns-then-below-from-clause-refused
returns-then-below-from-clause-refused c = λ damaged ls h.
    let i = c.loop.invariant in
    let C = c.args.self.now.catalog.now in
    let d = counted c.args.self.now.rows c.args.self.now.top in
    let done = c.loop.layers.items in
    let count = i.count in
    let all = h.count_is in
    let left = i.left in
    stands_next layer_text rows_after (IsLayer C c.args.self.now.p d) (one_layer C c.args.self.now.p c.args.self.now.rows c.args.self.now.top (omega (arith, c.args.self.now.top_in_limits))) c.args.self.now.rows done c.loop.rest.now ls [] i.so_far.all (layers_along C c.args.self.now.p c.args.self.now.rows c.args.self.now.top c.args.self.now.rows ls h.layers)
    (sym i.so_far.text ∙ h.text ∙ sym (append-nil (concat (map layer_text ls))))
    (omega arith)
    (λ x behind e k. let small = k.below in grind arith)

pub returns-in_err-layer-clause-refused : goal.returns-in_err-layer-clause-refused
returns-in_err-layer-clause-refused c = λ damaged ls h.
    let i = c.loop.invariant in
    let C = c.args.self.now.catalog.now in
    let d = counted c.args.self.now.rows c.args.self.now.top in
    let done = c.loop.layers.items in
    let count = i.count in
    let all = h.count_is in
    let q = err_from_is_err_and c.from_residual.result c.from_residual.ensures.1 in
    stands_next layer_text rows_after (IsLayer C c.args.self.now.p d) (one_layer C c.args.self.now.p c.args.self.now.rows c.args.self.now.top (omega (arith, c.args.self.now.top_in_limits))) c.args.self.now.rows done c.loop.rest.now ls [] i.so_far.all (layers_along C c.args.self.now.p c.args.self.now.rows c.args.self.now.top c.args.self.now.rows ls h.layers)
    (sym i.so_far.text ∙ h.text ∙ sym (append-nil (concat (map layer_text ls))))
    (omega arith)
    (λ x behind e k. c.in_err-layer.ensures.refused (let r1 = q.1 in let r2 = q.2 in cc) x behind (record { text = e; layer = (let Q : ℕ → Type 0 = λ n. IsLayer C c.args.self.now.p d n x in subst Q (sym i.left) k) }))

pub loop-preserved : goal.loop-preserved
loop-preserved c =
    let i = c.loop.invariant in
    let C = c.args.self.now.catalog.now in
    let d = counted c.args.self.now.rows c.args.self.now.top in
    let done = c.loop.layers.items in
    let l : List Change = c.in_ok-layer.layer in
    let found = c.in_ok-layer.ensures.found in
    let Q : ℕ → Type 0 = λ n. IsLayer C c.args.self.now.p d n l in
    let left = c.rows_left-below.ensures.value in
    rw c.in_ok-push.ensures.items (record {
      so_far = read_more layer_text rows_after (IsLayer C c.args.self.now.p d) c.args.self.now.rows c.args.bytes.now done c.loop.rest.now l c.in_ok-layer.behind.now i.so_far found.text (subst Q i.left found.layer);
      count = length_push done l ∙ ap (λ n. n + 1) i.count;
      left = left ∙ ap (λ n. rows_after n l) i.left ∙ sym (along-push rows_after c.args.self.now.rows done l);
    })

pub returns-then-not-is_empty-clause-refused : goal.returns-then-not-is_empty-clause-refused
returns-then-not-is_empty-clause-refused c = λ damaged ls h.
    let i = c.loop.invariant in
    let C = c.args.self.now.catalog.now in
    let d = counted c.args.self.now.rows c.args.self.now.top in
    let done = c.loop.layers.items in
    let count = i.count in
    let all = h.count_is in
    let ended = (same_sequence layer_text rows_after (IsLayer C c.args.self.now.p d) (one_layer C c.args.self.now.p c.args.self.now.rows c.args.self.now.top (omega (arith, c.args.self.now.top_in_limits))) c.args.self.now.rows done c.loop.rest.now ls [] i.so_far.all (layers_along C c.args.self.now.p c.args.self.now.rows c.args.self.now.top c.args.self.now.rows ls h.layers)
    (sym i.so_far.text ∙ h.text ∙ sym (append-nil (concat (map layer_text ls))))
    (omega arith)).1 in
    let none : length c.loop.rest.now ≡ 0 = ap length ended in
    grind (arith, c.is_empty.ensures, none)
