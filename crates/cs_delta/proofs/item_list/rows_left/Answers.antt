use Rattle.std.proofs.Common.{◌≡◌, ℕ, ◌∷◌, [], ap, arith}
use Rattle.std.specs.List.{count_by}
use Rattle.cs_delta.specs.declared.item.Item.{Item}
use Rattle.cs_delta.specs.ItemView.{change_of}
use Rattle.cs_delta.specs.DeltaFile.{is_insert, is_delete}
use Rattle.cs_delta.proofs.KeyLists.{count_more}
use Rattle.cs_delta.proofs.item_list.rows_left.Goals as goal
use Rattle.cs_delta.proofs.item_list.rows_left.Goals.{in-Insert, in-Delete, in-Modify}

pub loop-i-preserved : goal.loop-i-preserved
loop-i-preserved c =
    let i = c.loop-i.invariant in
    let inserts = i.inserts in
    let deletes = i.deletes in
    let few_inserts = i.few_inserts in
    let few_deletes = i.few_deletes in
    let more_inserts = count_more is_insert c.args.layer.now c.loop-i.i (change_of c.item.result) c.item.ensures in
    let more_deletes = count_more is_delete c.args.layer.now c.loop-i.i (change_of c.item.result) c.item.ensures in
    let put : Item → ℕ = λ (x : Item). count_by is_insert (change_of x ∷ []) in
    let cut : Item → ℕ = λ (x : Item). count_by is_delete (change_of x ∷ []) in
    elim c.match-item.branch [
      | in-Insert w ↦
          let one : put c.item.result ≡ 1 = ap put w.in-Insert.is in
          let none : cut c.item.result ≡ 0 = ap cut w.in-Insert.is in
          record { inserts = omega (arith, w.inserts-is); deletes = omega (arith, w.deletes-is); few_inserts = omega (arith, w.inserts-is); few_deletes = omega (arith, w.deletes-is) }
      | in-Delete w ↦
          let none : put c.item.result ≡ 0 = ap put w.in-Delete.is in
          let one : cut c.item.result ≡ 1 = ap cut w.in-Delete.is in
          record { inserts = omega (arith, w.inserts-is); deletes = omega (arith, w.deletes-is); few_inserts = omega (arith, w.inserts-is); few_deletes = omega (arith, w.deletes-is) }
      | in-Modify w ↦
          let none : put c.item.result ≡ 0 = ap put w.in-Modify.is in
          let nor : cut c.item.result ≡ 0 = ap cut w.in-Modify.is in
          record { inserts = omega (arith, w.inserts-is); deletes = omega (arith, w.deletes-is); few_inserts = omega (arith, w.inserts-is); few_deletes = omega (arith, w.deletes-is) }
    ]
