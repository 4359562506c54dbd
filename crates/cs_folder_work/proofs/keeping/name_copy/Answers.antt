use Rattle.std.proofs.Common.{inr, subst, sym}
use Rattle.std.proofs.lemmas.Result.{on_ok_weaker}
use Rattle.cs_file_system.specs.Calls.{WasCalled}
use Rattle.cs_folder_work.proofs.keeping.name_copy.Goals as goal

pub returns : goal.returns
returns g c = on_ok_weaker c.rename.result (λ added. λ calls made.
    let x = added calls made in
    let y = c.in_ok-make_copy.ensures.more x.0 x.1 in
    (y.0, y.1, λ call was. subst (WasCalled call) (sym x.2) (inr (y.2 call was)))) c.rename.ensures.ok
