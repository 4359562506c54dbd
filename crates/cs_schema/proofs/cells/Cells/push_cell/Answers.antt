use Rattle.std.proofs.Common.{rules}
use Rattle.cs_schema.proofs.CellLemmas.{int_pushed, text_pushed}
use Rattle.cs_schema.proofs.cells.Cells.push_cell.Goals as goal
use Rattle.cs_schema.proofs.cells.Cells.push_cell.Goals.{in-Ints-Ints+in_ok-push-in-Ints-Ints, in-Ints-Texts, in-Texts-Texts+in_ok-push-in-Texts-Texts, in-Texts-Ints}

pub returns-clause-ok : goal.returns-clause-ok
returns-clause-ok c = elim c.match-self.branch [
  | in-Ints-Ints+in_ok-push-in-Ints-Ints w ↦
      let there = rw w.in-Ints-Ints.is-1 at c.requires.there in
      let added = int_pushed w.in-Ints-Ints.ints.items w.in-Ints-Ints.others.items c.args.at w.index.result.now there w.index.ensures in
      rw (w.self-is, w.in-Ints-Ints.is-0, w.in-Ints-Ints.is-1, w.in_ok-push-in-Ints-Ints.ensures.items) (search rules)
  | in-Ints-Texts w ↦ search rules
  | in-Texts-Texts+in_ok-push-in-Texts-Texts w ↦
      rw (w.self-is, w.in-Texts-Texts.is-0, w.in-Texts-Texts.is-1, w.in_ok-push-in-Texts-Texts.ensures.ok)
      (text_pushed w.in-Texts-Texts.texts w.in-Texts-Texts.others c.args.at w.get.result.now w.get.ensures.value)
  | in-Texts-Ints w ↦ search rules
]
