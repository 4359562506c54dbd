use Rattle.std.proofs.Common.{◌≡◌, ◌+◌, ◌++◌, ◌∷◌, [], sym, subst, arith, ℤ, w64, to_z, of_z, length}
use Rattle.std.proofs.lemmas.List.{length_push}
use Rattle.std.proofs.lemmas.Int.{to_z-of_z}
use Rattle.cs_codec.proofs.DifferenceReading.{ValuesSoFar, one_more_value, no_value_left, one_more_read, values_column}
use Rattle.cs_codec.proofs.differences.DifferencesColumnEncodingI64VecI64.read.Goals as goal

pub returns-in_default-clause-not_a_text : goal.returns-in_default-clause-not_a_text
returns-in_default-clause-not_a_text c = λ _ others h.
    one_more_value c.args.bytes.now c.args.rows c.loop-done.at (to_z w64 c.loop-done.before-bits) c.loop-done.cells.items others (c.loop-done.done + 1) c.loop-done.invariant.values (omega arith) (omega arith) h c.in_default.ensures.none

pub loop-done-preserved : goal.loop-done-preserved
loop-done-preserved c =
    let found = c.in-Some.ensures.found in
    let x = c.in-Some.value in
    let x-is : to_z w64 (of_z w64 c.in-Some.value) ≡ c.in-Some.value = to_z-of_z w64 c.in-Some.value found.fits in
    let place : c.loop-done.done + 1 ≡ 1 + length c.loop-done.cells.items = omega arith in
    let more = one_more_read c.args.bytes.now c.loop-done.at c.in-Some.end (to_z w64 c.loop-done.before-bits) c.loop-done.cells.items c.in-Some.value (c.loop-done.done + 1) c.loop-done.invariant.values place found in
    rw c.in_ok-push.ensures.items (record {
      values = subst (λ (z : ℤ). ValuesSoFar c.args.bytes.now c.in-Some.end z (c.loop-done.cells.items ++ z ∷ [])) (sym x-is) more;
      count = omega (arith, length_push c.loop-done.cells.items (to_z w64 (of_z w64 c.in-Some.value)));
      within = found.within;
    })

pub returns-then-at-bytes-clause-not_a_text : goal.returns-then-at-bytes-clause-not_a_text
returns-then-at-bytes-clause-not_a_text c = λ _ others h.
    let none = no_value_left c.args.bytes.now c.args.rows c.loop-done.at (to_z w64 c.loop-done.before-bits) c.loop-done.cells.items others c.loop-done.invariant.values (omega arith) h in
    absurd (omega (arith, none))

pub returns-clause-found : goal.returns-clause-found
returns-clause-found c =
    values_column c.args.bytes.now c.args.rows c.loop-done.at (to_z w64 c.loop-done.before-bits) c.loop-done.cells.items c.requires c.loop-done.invariant.values (omega arith) (omega arith)
