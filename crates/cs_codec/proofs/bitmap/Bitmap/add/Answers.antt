use Rattle.std.proofs.Common.{arith, ◌-◌, ◌+◌, ◌≡◌, ap, sym, subst, List, ℕ, [], ◌∷◌, length, ◌≤◌}
use Rattle.std.proofs.lemmas.List.{append-nil}
use Rattle.cs_codec.specs.Bitmaps.{total, glued}
use Rattle.cs_codec.proofs.BitmapLengths.{followed_lengths, followed_is}
use Rattle.cs_codec.proofs.bitmap.Bitmap.add.Goals as goal

pub invariant_of-self-2 : goal.invariant_of-self-2
invariant_of-self-2 c =
    let left = c.self.inside.lengths.items in
    let other : List ℕ = 0 ∷ 1 ∷ [] in
    let new = c.push_run.new.lengths.items in
    let gap : c.args.position - c.self.inside.end ≡ c.args.position - c.self.inside.end + 0 = omega arith in
    let made : new ≡ glued left (c.args.position - total left) other = followed_lengths left other new new c.args.position 0 c.self.inside.end (c.args.position - c.self.inside.end) (omega arith) c.self.invariant.end_is gap c.in_ok-push_run.ensures.ok (sym (append-nil new)) in
    let view = c.self.view_is in
    let below : total left ≤ c.args.position = subst (λ (z : List ℕ). total z ≤ c.args.position) (sym view) c.requires.below in
    let few = c.requires.few in
    let size = ap (λ (z : List ℕ). length z) view in
    let all : length left + length other ≤ 4194304 = omega arith in
    let ends : c.args.position + total other ≡ c.args.position + 1 = omega arith in
    followed_is left other c.args.position (c.args.position + 1) new (omega arith) below ends all made
