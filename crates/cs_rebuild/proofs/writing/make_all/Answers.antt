use Rattle.std.proofs.Common.{◌≡◌, Bool, true, false, Ok, subst, rules}
use Rattle.std.specs.Prelude.{IfOk}
use Rattle.cs_rebuild.specs.FilesToWrite.{AreMade, files_to_write}
use Rattle.cs_rebuild.proofs.FilesToWrite.{append_made}
use Rattle.cs_rebuild.proofs.writing.make_all.Goals as goal

pub returns : goal.returns
returns g c =
    let x = c.args.store.now in
    let names = λ (joins : Bool). files_to_write x.catalog.now x.loss joins in
    let both = c.join_mut-joins.result in
    let joins : IfOk both.0 (λ made. AreMade x (names true) made.items) = search rules in
    let others : IfOk both.1 (λ made. AreMade x (names false) made.items) = search rules in
    let joins_made : both.0 ≡ Ok c.in_ok-joins.joins = first_of (search rules, cc) in
    let others_made : both.1 ≡ Ok c.in_ok-made.made = first_of (search rules, cc) in
    append_made x (names false) (names true) c.in_ok-made.made.items c.in_ok-joins.joins.items c.append.new.self.items c.in_ok-append.ensures.items
    (subst (λ r. IfOk r (λ made. AreMade x (names false) made.items)) others_made others) (subst (λ r. IfOk r (λ made. AreMade x (names true) made.items)) joins_made joins)
