use Rattle.std.proofs.Common.{arith, ◌-◌, ◌+◌, ◌≡◌, ◌≤◌, ◌∙◌, ap, sym, subst, get_or, List, ℕ, refl, [], ◌∷◌, ◌++◌, drop, length}
use Rattle.std.proofs.lemmas.List.{append-nil, take_all, length-drop}
use Rattle.cs_codec.specs.Bitmaps.{total, glued}
use Rattle.cs_codec.proofs.BitmapLengths.{followed_lengths, followed_is}
use Rattle.cs_codec.proofs.bitmap.Bitmap.follow.Goals as goal

pub invariant_of-self-in_err-extend_from_slice : goal.invariant_of-self-in_err-extend_from_slice
invariant_of-self-in_err-extend_from_slice c =
    let left = c.self.inside.lengths.items in
    let z : ℕ = get_or c.args.other.now 0 0 in
    let n : ℕ = get_or c.args.other.now 1 0 in
    let other : List ℕ = z ∷ n ∷ [] in
    let mid = c.push_run.new.lengths.items in
    let made : mid ≡ glued left (c.args.offset - total left) other = followed_lengths left other mid mid c.args.offset 0 c.self.inside.end (c.args.offset - c.self.inside.end + z) (omega arith) c.self.invariant.end_is refl c.in_ok-push_run.ensures.ok (sym (append-nil mid)) in
    let below : total left ≤ c.args.offset = subst (λ (w : List ℕ). total w ≤ c.args.offset) (sym c.self.view_is) c.requires.below in
    let some = c.requires.some in
    let few = c.requires.few in
    let size = ap (λ (w : List ℕ). length w) c.self.view_is in
    let all : length left + length other ≤ 4194304 = omega arith in
    let ends : c.args.offset + total other ≡ c.args.offset + z + n = omega arith in
    followed_is left other c.args.offset (c.args.offset + z + n) c.extend_from_slice.new.self.items (omega arith) below ends all (c.in_err-extend_from_slice.ensures.items ∙ made)

pub invariant_of-self-2 : goal.invariant_of-self-2
invariant_of-self-2 c =
    let left = c.self.inside.lengths.items in
    let other = c.args.other.now in
    let mid = c.push_run.new.lengths.items in
    let made : c.extend_from_slice.new.self.items ≡ glued left (c.args.offset - total left) other = followed_lengths left other mid c.extend_from_slice.new.self.items c.args.offset 0 c.self.inside.end (c.args.offset - c.self.inside.end + get_or other 0 0) c.requires.some c.self.invariant.end_is refl c.in_ok-push_run.ensures.ok (c.in_ok-extend_from_slice.ensures.items ∙ ap (λ (w : List ℕ). mid ++ w) (take_all (length other - 2) (drop 2 other) (omega (arith, length-drop 2 other)))) in
    let below : total left ≤ c.args.offset = subst (λ (w : List ℕ). total w ≤ c.args.offset) (sym c.self.view_is) c.requires.below in
    let few = c.requires.few in
    let size = ap (λ (w : List ℕ). length w) c.self.view_is in
    let all : length left + length other ≤ 4194304 = omega arith in
    followed_is left other c.args.offset c.args.end c.extend_from_slice.new.self.items c.requires.some below c.requires.end all made
