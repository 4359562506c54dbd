use Rattle.std.proofs.Common.{◌≡◌, ℕ, subst}
use Rattle.std.specs.Prelude.{IfOk}
use Rattle.cs_rebuild.specs.OnStore.{segment_file_on}
use Rattle.cs_rebuild.specs.declared.ordered_store.OrderedStore.{OrderedStore}
use Rattle.cs_rebuild.proofs.file_bytes.segment_bytes.Goals as goal

-- what holds of the encoder's segment holds of the one that it was made of
moved : (P : OrderedStore → ℕ → ℕ → Type 0) {g h : OrderedStore} {p q s t : ℕ} → h ≡ g → q ≡ p → t ≡ s → P h q t → P g p s
moved P {g} {h} {p} {q} {s} {t} a b d k = subst (λ x. P x p s) a (subst (λ x. P h x s) b (subst (λ x. P h q x) d k))

pub returns : goal.returns
returns g c =
    let made = c.new.ensures in
    moved (λ x p s. IfOk c.encode.result (λ bytes. bytes.items ≡ segment_file_on x p s)) made.store made.projection made.segment c.encode.ensures
