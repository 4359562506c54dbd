use Rattle.std.proofs.Common.{◌≡◌, ◌≤◌, ℕ, List, length, take, sym, arith}
use Rattle.std.proofs.lemmas.List.{take_all}
use Rattle.cs_schema.specs.Blocks.{start_at, IsBlock, IsBlockOf, pieces}
use Rattle.cs_schema.proofs.Blocks.{kept, count_in, block-take, block_of, pieces_of}
use Rattle.cs_schema.proofs.texts.Texts.truncate.Goals as goal

taken : (ts : List (List ℕ)) (b e d f : List ℕ) (n s : ℕ) → n ≤ length ts → pieces b e ≡ ts → IsBlock b e → s ≡ start_at e n → d ≡ take s b → f ≡ take n e → IsBlockOf (take n ts) d f
taken ts b e d f n s l v h hs hd hf =
    rw (hd, hf, hs) (block-take ts b e n l (kept ts b e v h))

made : (c : goal.After-truncate-then-count-len) → IsBlockOf (take c.args.count c.args.self.now) c.truncate-then-count-len.new.self.items c.truncate.new.self
made c =
    let count = count_in c.args.self.now c.self.inside.bytes.items c.self.inside.ends c.self.view_is c.self.invariant in
    taken c.args.self.now c.self.inside.bytes.items c.self.inside.ends _ _ c.args.count _ (omega arith) c.self.view_is c.self.invariant c.start_of-end.ensures c.truncate-then-count-len.ensures.items c.truncate.ensures

pub invariant_of-self : goal.invariant_of-self
invariant_of-self c = block_of _ _ _ (made c)

pub returns-then-count-len : goal.returns-then-count-len
returns-then-count-len c = pieces_of _ _ _ (made c)

pub returns-else-count-len : goal.returns-else-count-len
returns-else-count-len c =
    let count = count_in c.args.self.now c.self.inside.bytes.items c.self.inside.ends c.self.view_is c.self.invariant in
    sym (take_all c.args.count c.args.self.now (omega (arith, c.len.ensures, c.if-count-len.false)))
