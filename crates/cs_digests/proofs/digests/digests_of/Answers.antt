use Rattle.std.proofs.Common.{◌≡◌, List, ℕ, Bor, map, sym, ap, ◌∙◌, subst}
use Rattle.std.specs.Prelude.{IfOk}
use Rattle.std.proofs.lemmas.Simd.{map-map}
use Rattle.sha2.specs.Sha256.{sha256}
use Rattle.cs_digests.specs.declared.chain.Chain.{Chain}
use Rattle.cs_digests.proofs.digests.digests_of.Goals as goal

pub returns : goal.returns
returns c =
    let text = λ (x : Chain). x.text.now in
    let chains = c.advance_all.new.chains in
    let texts = c.advance_all.ensures ∙ ap (map text) c.as_mut_slice-all.ensures.value ∙ c.in_ok-chains.ensures in
    let all = sym (map-map sha256 text chains) ∙ ap (map sha256) texts ∙ map-map sha256 (λ (t : Bor (List ℕ)). t.now) c.args.texts.now in
    subst (λ l. IfOk c.finish_each.result (λ digests. digests.items ≡ l)) all c.finish_each.ensures
