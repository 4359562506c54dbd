use Rattle.std.proofs.Common.{◌≡◌, ◌≤◌, ◌<◌, ◌+◌, ◌-◌, ℕ, List, ◌++◌, length, take, drop, map, false, is_err, Result, Ok, Err, ap, sym, ◌∙◌, arith, length-take, length-drop}
use Rattle.std.specs.Prelude.{slice_index, OnOk}
use Rattle.std.proofs.lemmas.Bool.{false≢true}
use Rattle.cs_schema.specs.Blocks.{start_at, IsBlock, IsBlockOf, pieces}
use Rattle.cs_schema.proofs.Blocks.{kept, count_in, range_in, range_ends, block-extend, block_of, pieces_of}
use Rattle.cs_schema.proofs.texts.Texts.extend.Goals as goal

pub start_of-start-requires : goal.start_of-start-requires
start_of-start-requires c =
    let count = count_in c.args.other.now c.other.inside.bytes.items c.other.inside.ends c.other.view_is c.other.invariant in
    omega arith

pub start_of-end-requires : goal.start_of-end-requires
start_of-end-requires c =
    let count = count_in c.args.other.now c.other.inside.bytes.items c.other.inside.ends c.other.view_is c.other.invariant in
    omega arith

pub part-more-requires-clause-order : goal.part-more-requires-clause-order
part-more-requires-clause-order c =
    let range = range_in c.args.other.now c.other.inside.bytes.items c.other.inside.ends c.args.from c.args.to c.requires.order c.requires.within c.other.view_is c.other.invariant in
    omega (arith, range.order)

pub part-more-requires-clause-within : goal.part-more-requires-clause-within
part-more-requires-clause-within c =
    let range = range_in c.args.other.now c.other.inside.bytes.items c.other.inside.ends c.args.from c.args.to c.requires.order c.requires.within c.other.view_is c.other.invariant in
    let same = ap length c.deref.ensures.value in
    omega (arith, range.within)

pub extend_moved-requires-clause-within : goal.extend_moved-requires-clause-within
extend_moved-requires-clause-within c =
    let count = count_in c.args.other.now c.other.inside.bytes.items c.other.inside.ends c.other.view_is c.other.invariant in
    omega arith

-- where the ends of a part lie
ends_of_part : (ts : List (List ℕ)) (b e : List ℕ) (from to k s t : ℕ) → from ≤ to → to ≤ length ts → pieces b e ≡ ts → IsBlock b e → s ≡ start_at e from → t ≡ start_at e to → k < to - from → (s ≤ slice_index (take (to - from) (drop from e)) k) × (slice_index (take (to - from) (drop from e)) k ≤ t)
ends_of_part ts b e from to k s t o h v i hs ht l =
    let count = count_in ts b e v i in
    let within : k < length (take (to - from) (drop from e)) = omega (arith, length-take (to - from) (drop from e), length-drop from e) in
    let both = range_ends ts b e from to k o h (kept ts b e v i) within in
    (omega arith, omega arith)

pub extend_moved-requires-clause-low : goal.extend_moved-requires-clause-low
extend_moved-requires-clause-low c k l =
    (ends_of_part c.args.other.now c.other.inside.bytes.items c.other.inside.ends c.args.from c.args.to k c.start_of-start.result c.start_of-end.result c.requires.order c.requires.within c.other.view_is c.other.invariant c.start_of-start.ensures c.start_of-end.ensures l).0

pub extend_moved-requires-clause-high : goal.extend_moved-requires-clause-high
extend_moved-requires-clause-high c k l =
    let range = range_in c.args.other.now c.other.inside.bytes.items c.other.inside.ends c.args.from c.args.to c.requires.order c.requires.within c.other.view_is c.other.invariant in
    let both = ends_of_part c.args.other.now c.other.inside.bytes.items c.other.inside.ends c.args.from c.args.to k c.start_of-start.result c.start_of-end.result c.requires.order c.requires.within c.other.view_is c.other.invariant c.start_of-start.ensures c.start_of-end.ensures l in
    let bytes = ap length c.deref.ensures.value in
    let more = ap length c.part-more.ensures in
    omega (arith, both.1, range.order, range.within, length-take (c.start_of-end.result - c.start_of-start.result) (drop c.start_of-start.result c.deref.result.now), length-drop c.start_of-start.result c.deref.result.now)

extended : (xs ys : List (List ℕ)) (b e a f p g d h : List ℕ) (from to s t n : ℕ)
    → from ≤ to → to ≤ length ys → pieces b e ≡ xs → IsBlock b e → pieces a f ≡ ys → IsBlock a f
    → s ≡ start_at f from → t ≡ start_at f to → n ≡ length b
    → p ≡ take (t - s) (drop s g) → g ≡ a
    → d ≡ b ++ p → h ≡ e ++ map (λ z. z - s + n) (take (to - from) (drop from f))
    → IsBlockOf (xs ++ take (to - from) (drop from ys)) d h
extended xs ys b e a f p g d h from to s t n o w vx ix vy iy hs ht hn hp hg hd hh =
    rw (hd, hh, hp, hg, hs, ht, hn)
    (block-extend xs ys b e a f from to o w (kept xs b e vx ix) (kept ys a f vy iy))

ok_of : {A E : Type 0} (r : Result A E) (P : Type 0) → is_err r ≡ false → OnOk r P → P
ok_of (Ok x) P h k = k
ok_of (Err e) P h k = absurd (false≢true (sym h))

made : (c : goal.Else-is_err) → IsBlockOf (c.args.self.now ++ take (c.args.to - c.args.from) (drop c.args.from c.args.other.now)) c.extend_from_slice.new.self.items c.extend_moved.new.self
made c =
    let sized = c.self.inside.bytes.ok in
    let ends = ok_of c.extend_moved.result _ (sym c.is_err.ensures.value ∙ c.if-is_err.false) c.extend_moved.ensures.ok in
    extended c.args.self.now c.args.other.now c.self.inside.bytes.items c.self.inside.ends c.other.inside.bytes.items c.other.inside.ends
    c.part-more.result.now c.deref.result.now _ _
    c.args.from c.args.to c.start_of-start.result c.start_of-end.result c.len-count.result
    c.requires.order c.requires.within c.self.view_is c.self.invariant c.other.view_is c.other.invariant
    c.start_of-start.ensures c.start_of-end.ensures (omega (arith, sized.0, c.len-count.ensures))
    c.part-more.ensures c.deref.ensures.value
    c.in_ok-extend_from_slice.ensures.items ends

pub invariant_of-self-else-is_err : goal.invariant_of-self-else-is_err
invariant_of-self-else-is_err c = block_of _ _ _ (made c)

pub returns-clause-ok : goal.returns-clause-ok
returns-clause-ok c = pieces_of _ _ _ (made c)
