use Rattle.std.proofs.Common.{ℕ, ◌≡◌, ◌≤◌, ◌++◌, length, take, drop, ap, sym, ◌∙◌, arith}
use Rattle.std.proofs.Math.Seq.{take-length}
use Rattle.std.proofs.lemmas.List.{take-append-le}
use Rattle.cs_order.proofs.places.places.Goals as goal

pub returns-clause-places : goal.returns-clause-places
returns-clause-places c =
    let written = c.write_all.new.places in
    let long : c.resize.new.self.len ≡ length written = sym (c.write_all.auto.places ∙ c.as_mut_slice.ensures.len) in
    let few : c.resize.new.self.len ≤ length written = omega (arith, long) in
    let whole : take c.resize.new.self.len (written ++ drop (length written) c.resize.new.self.items) ≡ written =
    take-append-le c.resize.new.self.len written (drop (length written) c.resize.new.self.items) few ∙ ap (λ (n : ℕ). take n written) long ∙ take-length written in
    rw whole c.write_all.ensures
