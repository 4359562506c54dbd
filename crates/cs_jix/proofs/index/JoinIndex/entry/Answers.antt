use Rattle.std.proofs.Common.{◌-◌, length, ap, ◌∙◌, arith, List}
use Rattle.std.specs.List.{zip}
use Rattle.cs_jix.specs.JoinIndex.{Place, entry_at}
use Rattle.cs_jix.proofs.JoinLemmas.{zip_length, zip_at, entry_zero, entry_past, entry_here, dead_entry, live_entry}
use Rattle.cs_jix.proofs.index.JoinIndex.entry.Goals as goal
use Rattle.cs_jix.proofs.index.JoinIndex.entry.Goals.{then-key-eq0-via-then-key-eq0, then-key-eq0-via-else-key-eq0+then-key-len}

pub returns-then-key-eq0 : goal.returns-then-key-eq0
returns-then-key-eq0 c =
    elim c.then-key-eq0.branch [
      | then-key-eq0-via-then-key-eq0 w ↦ entry_zero c.args.self.now c.args.key w.if-key-eq0.true
      | then-key-eq0-via-else-key-eq0+then-key-len w ↦
          let l = zip_length c.self.inside.segments.items c.self.inside.keys.items c.self.invariant.0 in
          let m = ap (λ (l : List Place). length l) c.self.view_is in
          entry_past c.args.self.now c.args.key (omega arith)
    ]

pub returns-then-place-eq0 : goal.returns-then-place-eq0
returns-then-place-eq0 c =
    let here = zip_at c.self.inside.segments.items c.self.inside.keys.items (c.args.key - 1) c.index.result.now c.index-2.result.now c.self.invariant.0 (omega arith) c.index.ensures c.index-2.ensures in
    dead_entry (c.index.result.now, c.index-2.result.now) c.if-place-eq0.true
    ∙ entry_here (zip c.self.inside.segments.items c.self.inside.keys.items) c.args.key (c.args.key - 1) (c.index.result.now, c.index-2.result.now) (omega arith) here
    ∙ ap (λ (es : List Place). entry_at es c.args.key) c.self.view_is

pub returns-else-place-eq0 : goal.returns-else-place-eq0
returns-else-place-eq0 c =
    let here = zip_at c.self.inside.segments.items c.self.inside.keys.items (c.args.key - 1) c.index.result.now c.index-2.result.now c.self.invariant.0 (omega arith) c.index.ensures c.index-2.ensures in
    live_entry (c.index.result.now, c.index-2.result.now) c.if-place-eq0.false
    ∙ entry_here (zip c.self.inside.segments.items c.self.inside.keys.items) c.args.key (c.args.key - 1) (c.index.result.now, c.index-2.result.now) (omega arith) here
    ∙ ap (λ (es : List Place). entry_at es c.args.key) c.self.view_is
