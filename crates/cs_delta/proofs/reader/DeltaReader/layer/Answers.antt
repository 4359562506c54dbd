use Rattle.std.proofs.Common.{◌≡◌, ◌+◌, List, map, length, ap, sym, subst, ◌∙◌, arith}
use Rattle.std.specs.Prelude.{IsTrue}
use Rattle.std.specs.List.{AllAdjacentBelow}
use Rattle.std.proofs.lemmas.Bool.{false≢true}
use Rattle.std.proofs.lemmas.List.{length-map, length_push}
use Rattle.std.proofs.lemmas.Result.{err_from_is_err_and}
use Rattle.cs_schema.specs.CatalogData.{projection}
use Rattle.cs_delta.specs.Image.{Change}
use Rattle.cs_delta.specs.DeltaFile.{IsChange, change_bytes, may_follow}
use Rattle.cs_delta.specs.Reading.{counted, BeginsWithLayer}
use Rattle.cs_delta.specs.StoredItems.{stored_change}
use Rattle.cs_delta.proofs.Sequences.{IsReadSoFar, read_more, stands_next}
use Rattle.cs_delta.proofs.ItemTexts.{same_rows, one_item, items_along, items_of, behind_count, layer_found, same_items}
use Rattle.cs_delta.proofs.StoredChanges.{changes_more, among_more}
use Rattle.cs_delta.proofs.reader.DeltaReader.layer.Goals as goal

pub returns-in_err-item-clause-refused : goal.returns-in_err-item-clause-refused
returns-in_err-item-clause-refused c = λ damaged l rest h.
    let i = c.loop.invariant in
    let C = c.args.self.now.catalog.now in
    let p = c.args.self.now.p in
    let n = c.args.below in
    let d = counted c.args.self.now.rows c.args.self.now.top in
    let change = stored_change c.loop.cells (length (projection C p).columns) in
    let done = map change c.loop.items.items in
    let parts = behind_count C p c.args.self.now.rows c.args.self.now.top n c.in-Some.count c.args.bytes.now c.in-Some.counted.now l rest c.in-Some.ensures.found.0 c.in-Some.ensures.found.1 h in
    let whole = parts.0 in
    let count = i.count in
    let q = err_from_is_err_and c.from_residual.result c.from_residual.ensures.1 in
    stands_next change_bytes same_rows (λ k e. IsChange C p d n e) (λ k. one_item C p c.args.self.now.rows c.args.self.now.top n (omega (arith, c.args.self.now.top_in_limits)) c.ranges.below.fits) n done c.loop.rest.now l rest i.so_far.all (items_along (IsChange C p d n) n l h.layer.items) (sym i.so_far.text ∙ parts.1)
    (omega (arith, length-map c.loop.items.items change))
    (λ x behind e k. c.in_err-item.ensures.refused (let r1 = q.1 in let r2 = q.2 in cc) x behind (record { text = e; change = k }))

pub loop-preserved : goal.loop-preserved
loop-preserved c =
    let i = c.loop.invariant in
    let C = c.args.self.now.catalog.now in
    let p = c.args.self.now.p in
    let n = c.args.below in
    let d = counted c.args.self.now.rows c.args.self.now.top in
    let width = length (projection C p).columns in
    let xs = c.loop.items.items in
    let item = c.in_ok-item.item in
    let next = c.push.new.self.items in
    let found = c.in_ok-item.ensures.found in
    let cells = c.loop.cells in
    let new = c.item.new.cells in
    let more = changes_more cells new found.cells width xs next item found.added c.in_ok-push.ensures.items i.among in
    let S : List Change → Type 0 = λ l. IsReadSoFar change_bytes same_rows (λ k e. IsChange C p d n e) n c.in-Some.counted.now l c.in_ok-item.behind.now in
    record {
      so_far = subst S (sym more) (read_more change_bytes same_rows (λ k e. IsChange C p d n e) n c.in-Some.counted.now (map (stored_change cells width) xs) c.loop.rest.now (stored_change new width item) c.in_ok-item.behind.now i.so_far found.begins.text found.begins.change);
      among = among_more cells new found.cells width xs next item found.added c.in_ok-push.ensures.items i.among found.among;
      count = ap length c.in_ok-push.ensures.items ∙ length_push xs item ∙ ap (λ k. k + 1) i.count;
    }

pub returns-then-not-are_in_order-clause-refused : goal.returns-then-not-are_in_order-clause-refused
returns-then-not-are_in_order-clause-refused c = λ damaged l rest h.
    let i = c.loop.invariant in
    let C = c.args.self.now.catalog.now in
    let p = c.args.self.now.p in
    let count = i.count in
    let change = stored_change c.loop.cells (length (projection C p).columns) in
    let done = map change c.loop.items.items in
    let same = same_items C p c.args.self.now.rows c.args.self.now.top c.args.below c.in-Some.count c.args.bytes.now c.in-Some.counted.now done l c.loop.rest.now rest (omega (arith, c.args.self.now.top_in_limits)) c.in-Some.ensures.found.0 c.in-Some.ensures.found.1 i.so_far (omega (arith, length-map c.loop.items.items change)) h in
    let made : c.new-layer.result ≡ done = c.new-layer.ensures ∙ ap (λ w. map (stored_change c.loop.cells w) c.loop.items.items) c.width.ensures.count in
    let Q : List Change → Type 0 = λ x. AllAdjacentBelow (λ a e. IsTrue (may_follow a e)) x (length x) in
    false≢true (sym c.if-not-are_in_order.true ∙ c.are_in_order.ensures.1 (subst Q (sym (made ∙ same)) h.layer.order))

pub returns-clause-found : goal.returns-clause-found
returns-clause-found c =
    let i = c.loop.invariant in
    let C = c.args.self.now.catalog.now in
    let p = c.args.self.now.p in
    let n = c.args.below in
    let d = counted c.args.self.now.rows c.args.self.now.top in
    let change = stored_change c.loop.cells (length (projection C p).columns) in
    let l = map change c.loop.items.items in
    let count = i.count in
    let whole : c.in-Some.count ≡ length l = omega (arith, length-map c.loop.items.items change) in
    let made : c.new-layer.result ≡ l = c.new-layer.ensures ∙ ap (λ w. map (stored_change c.loop.cells w) c.loop.items.items) c.width.ensures.count in
    let order = c.are_in_order.ensures.0 c.if-not-are_in_order.false in
    let small = c.in-Some.ensures.found.1 in
    let B : List Change → Type 0 = λ x. BeginsWithLayer C p c.args.self.now.rows c.args.self.now.top n c.args.bytes.now x c.loop.rest.now in
    let Q : List Change → Type 0 = λ x. AllAdjacentBelow (λ a e. IsTrue (may_follow a e)) x (length x) in
    subst B (sym made) (record {
      text = layer_found c.in-Some.count c.args.bytes.now c.in-Some.counted.now l c.loop.rest.now c.in-Some.ensures.found.0 i.so_far.text whole;
      layer = record {
        number = omega arith;
        below = c.ranges.below.fits;
        items = items_of (IsChange C p d n) n l i.so_far.all;
        order = subst Q made order;
      };
    })
