use Rattle.std.proofs.Common.{◌≡◌, ◌||◌, ◌==◌, Bool, List, ℕ, sym, ap, ◌∙◌}
use Rattle.std.specs.List.{list_any}
use Rattle.cs_schema.specs.Lists.{member}
use Rattle.cs_rows.specs.WalkByRows.{Found, Reached, numbers_of}
use Rattle.cs_rows.proofs.LevelLemmas.{numbers_any}
use Rattle.cs_rows.proofs.levels.ReachedRows.is_seen.Goals as goal

pub returns-then-is_among : goal.returns-then-is_among
returns-then-is_among c =
    let among : c.is_among.result ≡ member (numbers_of c.args.self.now.reached) c.args.q =
    c.is_among.ensures ∙ ap (list_any (λ (r : Reached). r.0 == c.args.q)) c.as_slice.ensures.value ∙ numbers_any c.self.inside.reached.items c.args.q ∙ ap (λ (f : Found). member (numbers_of f.reached) c.args.q) c.self.view_is in
    c.if-is_among.true ∙ sym (ap (λ (b : Bool). b || member c.args.self.now.marked c.args.q) (sym among ∙ c.if-is_among.true))

pub returns-else-is_among : goal.returns-else-is_among
returns-else-is_among c =
    let among : c.is_among.result ≡ member (numbers_of c.args.self.now.reached) c.args.q =
    c.is_among.ensures ∙ ap (list_any (λ (r : Reached). r.0 == c.args.q)) c.as_slice.ensures.value ∙ numbers_any c.self.inside.reached.items c.args.q ∙ ap (λ (f : Found). member (numbers_of f.reached) c.args.q) c.self.view_is in
    let marked : c.is_marked.result ≡ member c.args.self.now.marked c.args.q =
    c.is_marked.ensures ∙ ap (λ (l : List ℕ). member l c.args.q) c.as_slice-else-is_among.ensures.value ∙ ap (λ (f : Found). member f.marked c.args.q) c.self.view_is in
    marked ∙ sym (ap (λ (b : Bool). b || member c.args.self.now.marked c.args.q) (sym among ∙ c.if-is_among.false))
