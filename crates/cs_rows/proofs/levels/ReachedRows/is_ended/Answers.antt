use Rattle.std.proofs.Common.{◌≡◌, length, drop, sym, ap, ◌∙◌, arith, eqb-true, eq-eqb, length-drop}
use Rattle.std.proofs.lemmas.List.{drop_all}
use Rattle.cs_rows.specs.WalkByRows.{Found}
use Rattle.cs_rows.proofs.levels.ReachedRows.is_ended.Goals as goal

pub returns : goal.returns
returns c =
    let seen : drop c.self.inside.last c.self.inside.reached.items ≡ c.args.self.now.last = ap (λ (f : Found). f.last) c.self.view_is in (
      λ t. sym seen ∙ drop_all c.self.inside.last c.self.inside.reached.items (omega (arith, eqb-true c.self.inside.last c.len.result t, c.len.ensures)),
      λ e. eq-eqb c.self.inside.last c.len.result (omega (arith, c.len.ensures, ap length (seen ∙ e), length-drop c.self.inside.last c.self.inside.reached.items)),
    )
