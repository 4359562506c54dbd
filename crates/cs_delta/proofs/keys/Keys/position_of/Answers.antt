use Rattle.std.proofs.Common.{◌≡◌, ◌<◌, ◌≤◌, ◌++◌, ◌⊎◌, ℕ, List, [], get_or, sym, ap, ◌∙◌, ⊎_elim, inl, inr, arith}
use Rattle.std.specs.List.{position}
use Rattle.std.proofs.lemmas.List.{append-nil, get_or_read, get_or_past}
use Rattle.cs_delta.specs.KindedImage.{base_keys}
use Rattle.cs_delta.proofs.KeyPlaces.{is_key, place_none, place_some}
use Rattle.cs_delta.proofs.FirstKeys.{first_position, no_first_position}
use Rattle.cs_delta.proofs.keys.Keys.position_of.Goals as goal
use Rattle.cs_delta.proofs.keys.Keys.position_of.Goals.{then-at-len, else-at-len, then-key-eq0-via-then-key-eq0, then-key-eq0-via-else-key-eq0+then-key-self}

-- if there are first keys, there are no others
only_first : (first : ℕ) (listed keys : List ℕ) → (first ≡ 0) ⊎ (listed ≡ []) → 0 < first → base_keys first ++ listed ≡ keys → base_keys first ≡ keys
only_first first listed keys h some e =
    let none : listed ≡ [] = ⊎_elim (λ z. absurd (omega arith)) (λ n. n) h in
    sym (append-nil (base_keys first)) ∙ ap (λ (l : List ℕ). base_keys first ++ l) (sym none) ∙ e

-- if there are no first keys, there are only listed ones
only_listed : (first : ℕ) (listed keys : List ℕ) → first ≡ 0 → base_keys first ++ listed ≡ keys → listed ≡ keys
only_listed first listed keys z e = ap (λ (n : ℕ). base_keys n ++ listed) (sym z) ∙ e

pub returns-then-key-eq0 : goal.returns-then-key-eq0
returns-then-key-eq0 c =
    let n = c.self.inside.first in
    let all = only_first n c.self.inside.listed.items c.args.self.now c.self.invariant.2 c.if-self-gt0.true c.self.view_is in
    let out : (c.args.key ≤ 0) ⊎ (n < c.args.key) = elim c.then-key-eq0.branch [
      | then-key-eq0-via-then-key-eq0 w ↦ inl (omega (arith, w.if-key-eq0.true))
      | then-key-eq0-via-else-key-eq0+then-key-self w ↦ inr w.if-key-self.true
    ] in
    no_first_position c.args.key n out ∙ ap (position (is_key c.args.key)) all

pub returns-then-self-gt0 : goal.returns-then-self-gt0
returns-then-self-gt0 c =
    let n = c.self.inside.first in
    let all = only_first n c.self.inside.listed.items c.args.self.now c.self.invariant.2 c.if-self-gt0.true c.self.view_is in
    first_position c.args.key n (omega (arith, c.if-key-eq0.false)) (omega (arith, c.if-key-self.false)) ∙ ap (position (is_key c.args.key)) all

pub returns-then-place-eq0 : goal.returns-then-place-eq0
returns-then-place-eq0 c =
    let all = only_listed c.self.inside.first c.self.inside.listed.items c.args.self.now (omega (arith, c.if-self-gt0.false)) c.self.view_is in
    let read : c.if-at-len.place ≡ get_or c.self.inside.places.items c.args.key 0 = elim c.if-at-len.branch [
      | then-at-len w ↦ w.place-is ∙ get_or_read c.self.inside.places.items c.args.key w.index.result.now (omega arith) w.index.ensures 0
      | else-at-len w ↦ w.place-is ∙ sym (get_or_past c.self.inside.places.items c.args.key 0 (omega arith))
    ] in
    place_none c.args.key c.if-at-len.place c.self.inside.listed.items (read ∙ c.self.invariant.1 c.args.key) c.if-place-eq0.true
    ∙ ap (position (is_key c.args.key)) all

pub returns-else-place-eq0 : goal.returns-else-place-eq0
returns-else-place-eq0 c =
    let all = only_listed c.self.inside.first c.self.inside.listed.items c.args.self.now (omega (arith, c.if-self-gt0.false)) c.self.view_is in
    let read : c.if-at-len.place ≡ get_or c.self.inside.places.items c.args.key 0 = elim c.if-at-len.branch [
      | then-at-len w ↦ w.place-is ∙ get_or_read c.self.inside.places.items c.args.key w.index.result.now (omega arith) w.index.ensures 0
      | else-at-len w ↦ w.place-is ∙ sym (get_or_past c.self.inside.places.items c.args.key 0 (omega arith))
    ] in
    place_some c.args.key c.if-at-len.place c.self.inside.listed.items (read ∙ c.self.invariant.1 c.args.key) c.if-place-eq0.false
    ∙ ap (position (is_key c.args.key)) all
