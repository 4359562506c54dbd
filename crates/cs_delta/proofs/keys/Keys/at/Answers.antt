use Rattle.std.proofs.Common.{◌≡◌, ◌+◌, ◌<◌, ◌≤◌, ◌-◌, ℕ, List, get_or, length, sym, ap, ◌∙◌, arith, length-append}
use Rattle.std.proofs.lemmas.List.{get_or_read, get_or_append_left, get_or-append_right}
use Rattle.std.proofs.lemmas.List.FromFn.{get_or-map-range_with_len}
use Rattle.cs_delta.specs.KindedImage.{base_keys}
use Rattle.cs_delta.proofs.Merged.{length-base_keys}
use Rattle.cs_delta.proofs.keys.Keys.at.Goals as goal

pub returns-then-i-self : goal.returns-then-i-self
returns-then-i-self c =
    let n = c.self.inside.first in
    let i = c.args.i in
    let one : get_or (base_keys n) i 0 ≡ i + 1 = get_or-map-range_with_len (λ k. k + 1) 0 n i i 0 c.if-i-self.true (omega arith) in
    let inside : i < length (base_keys n) = omega (arith, length-base_keys n, c.if-i-self.true) in
    sym one ∙ sym (get_or_append_left (base_keys n) c.self.inside.listed.items 0 i inside) ∙ ap (λ (l : List ℕ). get_or l i 0) c.self.view_is

pub index-requires : goal.index-requires
index-requires c =
    omega (arith, c.requires, c.if-i-self.false, ap length c.self.view_is, length-append (base_keys c.self.inside.first) c.self.inside.listed.items, length-base_keys c.self.inside.first)

pub returns : goal.returns
returns c =
    let n = c.self.inside.first in
    let i = c.args.i in
    let inside : i - n < length c.self.inside.listed.items = omega (arith, c.requires, c.if-i-self.false, ap length c.self.view_is, length-append (base_keys n) c.self.inside.listed.items, length-base_keys n) in
    let past : n ≤ i = omega (arith, c.if-i-self.false) in
    get_or_read c.self.inside.listed.items (i - n) c.index.result.now inside c.index.ensures 0
    ∙ sym (get_or-append_right (base_keys n) c.self.inside.listed.items n i 0 (length-base_keys n) past) ∙ ap (λ (l : List ℕ). get_or l i 0) c.self.view_is
