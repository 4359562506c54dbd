use Rattle.std.proofs.Common.{◌≡◌, ◌∙◌, false, Option, Some, None, is_some, refl, sym, string_bytes}
use Rattle.std.proofs.lemmas.Map.Text.{btree_map_updates_text}
use Rattle.std.proofs.lemmas.Result.{IfOk-at_ok}
use Rattle.cs_manifest.proofs.manifest.Manifest.add.Goals as goal

none_from : {A : Type 0} (o : Option A) → is_some o ≡ false → o ≡ None
none_from None h = refl
none_from (Some x) h = absurd cc

pub returns : goal.returns
returns c =
    let key_is_path = IfOk-at_ok (λ s. string_bytes s ≡ c.args.path.now) c.in_ok-path.was c.from_str.ensures.ok in
    let sets = btree_map_updates_text (string_bytes c.in_ok-path.path) c.args.self.now.digests c.insert.new.self _ c.in_ok-insert.ensures.updates in
    (none_from _ (sym c.contains_key.ensures ∙ c.if-contains_key.false), rw key_is_path at sets)
