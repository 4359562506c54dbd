use Rattle.std.proofs.Common.{◌≡◌, ◌+◌, ◌<◌, ◌++◌, ℕ, List, length, take, get_or, sym, ap, ◌∙◌, append_assoc}
use Rattle.std.specs.Prelude.{flat_map}
use Rattle.std.proofs.lemmas.List.{flat_map_more, take_more}
use Rattle.cs_codec.specs.Cells.{number}
use Rattle.cs_codec.proofs.bitmap.write_bitmap.Goals as goal

-- one more number has been written
step : (before front out new ls : List ℕ) (i : ℕ) → i < length ls → out ≡ before ++ (front ++ flat_map number (take i ls)) → new ≡ out ++ number (get_or ls i 0) → new ≡ before ++ (front ++ flat_map number (take (i + 1) ls))
step before front out new ls i h so_far added =
    added
    ∙ ap (λ (z : List ℕ). z ++ number (get_or ls i 0)) so_far
    ∙ append_assoc before (front ++ flat_map number (take i ls)) (number (get_or ls i 0))
    ∙ ap (λ (z : List ℕ). before ++ z) (flat_map_more number front (take i ls) (get_or ls i 0) ∙ ap (λ (z : List ℕ). front ++ flat_map number z) (sym (take_more ls i 0 h)))

pub loop-length-preserved : goal.loop-length-preserved
loop-length-preserved g c =
    let ls = c.deref-length-items.result.now in
    step c.args.out.now.items (g.C.Cell.bytes c.args.value.now ++ number (length ls)) c.loop-length.out.items c.write_number-in-loop-length.new.out.items ls c.loop-length.length-index c.loop-length-test.true c.loop-length.invariant c.in_ok-write_number-2.ensures.ok
