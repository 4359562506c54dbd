use Rattle.std.proofs.Common.{◌≡◌, ℕ, ◌+◌, sym, ◌∙◌, arith, get_or}
use lib.Pointwise.{pointwise}
use Rattle.cs_jix.specs.JoinIndex.{no_place}
use Rattle.cs_rows.specs.Survivors.{contents_of}
use Rattle.cs_order.specs.Tables.{table_of}
use Rattle.cs_recovery.specs.Holding.{agrees}
use Rattle.cs_recovery.specs.Places.{entry_for, entries_for, image_after}
use Rattle.cs_rebuild.proofs.Entries.{agree, agreed, other_length}
use Rattle.cs_rebuild.proofs.Numbers.{same_test}
use Rattle.cs_rebuild.proofs.StoreFacts.{same_top, same_agreement}
use Rattle.cs_rebuild.proofs.verify_join_indexes.matches_expected.Goals as goal

pub returns-then-top : goal.returns-then-top
returns-then-top g c =
    let store = c.args.store.now in
    let C = store.catalog.now in
    let S = contents_of store.survivors.now in
    let T = table_of C store.walked.rows in
    let top = (image_after C store.loss S T c.args.p c.args.s).top in
    let entries = c.new-entries.result in
    let same = same_top store entries.store.now c.new-entries.ensures.store c.args.p c.args.s c.args.q entries.p entries.s entries.q c.new-entries.ensures.segment.0 c.new-entries.ensures.segment.1 in
    sym (other_length (agrees C store.loss c.args.q) (λ i. entry_for C store.loss S T c.args.p c.args.s c.args.q (i + 1)) c.args.index.now no_place no_place top (λ e. c.if-top.true (c.top.ensures ∙ e ∙ sym (c.top-top.ensures ∙ same))))

pub returns : goal.returns
returns g c =
    let store = c.args.store.now in
    let C = store.catalog.now in
    let S = contents_of store.survivors.now in
    let T = table_of C store.walked.rows in
    let xs = c.args.index.now in
    let top = (image_after C store.loss S T c.args.p c.args.s).top in
    let entries = c.new-entries.result in
    let same = same_top store entries.store.now c.new-entries.ensures.store c.args.p c.args.s c.args.q entries.p entries.s entries.q c.new-entries.ensures.segment.0 c.new-entries.ensures.segment.1 in
    let tops : c.top-top.result ≡ top = c.top-top.ensures ∙ same in
    let one = λ (m : ℕ). same_agreement store entries.store.now c.new-entries.ensures.store c.args.p c.args.s c.args.q entries.p entries.s entries.q c.new-entries.ensures.segment.0 c.new-entries.ensures.segment.1 c.new-entries.ensures.target (get_or xs m no_place) (m + 1) in
    same_test c.matches_first.result (pointwise (agrees C store.loss c.args.q) xs (entries_for C store.loss S T c.args.p c.args.s c.args.q))
    (λ t. agree (agrees C store.loss c.args.q) (λ j. entry_for C store.loss S T c.args.p c.args.s c.args.q (j + 1)) xs no_place no_place top (sym c.top.ensures ∙ c.if-top.false ∙ tops)
    (λ m l. sym (one m) ∙ c.matches_first.ensures.0 t m (omega arith) (omega (arith, l, tops))))
    (λ k. c.matches_first.ensures.1 (λ m z l. one m ∙ agreed (agrees C store.loss c.args.q) (λ j. entry_for C store.loss S T c.args.p c.args.s c.args.q (j + 1)) xs no_place no_place top k m (omega (arith, l, tops))))
