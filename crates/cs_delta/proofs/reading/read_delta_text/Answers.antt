use Rattle.std.proofs.Common.{◌==◌, ℕ, List, map, length, refl, ap, sym, subst, ◌∙◌}
use Rattle.std.specs.List.{concat, filter_map, flat_map, IsDistinct}
use Rattle.std.proofs.lemmas.Bool.{false≢true}
use Rattle.std.proofs.lemmas.Result.{err_from_is_err_and}
use Rattle.cs_segment.specs.SegmentFile.{sealed}
use Rattle.cs_delta.specs.Image.{Change}
use Rattle.cs_delta.specs.DeltaFile.{inserted_key, layer_text}
use Rattle.cs_delta.proofs.HeadTexts.{file_head, file_layers, file_found, read_is, one_layers}
use Rattle.cs_delta.proofs.reading.read_delta_text.Goals as goal

pub returns-in_default-clause-refused : goal.returns-in_default-clause-refused
returns-in_default-clause-refused c = λ damaged d file.
    c.in_default.ensures.none d.version (length d.layers) d.rows d.top (concat (map layer_text d.layers))
    (file_head c.args.catalog.now c.args.p c.args.s (sealed c.args.text.now) c.args.text.now d refl file)

pub returns-in_err-layers-clause-refused : goal.returns-in_err-layers-clause-refused
returns-in_err-layers-clause-refused c = λ damaged d file.
    let q = err_from_is_err_and c.from_residual.result c.from_residual.ensures.1 in
    let head = c.in-Some.head in
    c.in_err-layers.ensures.refused (let r1 = q.1 in let r2 = q.2 in cc) d.layers
    (file_layers c.args.catalog.now c.args.p c.args.s (sealed c.args.text.now) c.args.text.now c.in-Some.parts.now head.version head.layers head.rows head.top d refl c.in-Some.ensures.found file)

pub returns-then-not-are_distinct-clause-refused : goal.returns-then-not-are_distinct-clause-refused
returns-then-not-are_distinct-clause-refused c = λ damaged d file.
    let head = c.in-Some.head in
    let C = c.args.catalog.now in
    let parts = c.in-Some.parts.now in
    let ls = c.in_ok-layers.layers.items in
    let found = c.in-Some.ensures.found in
    let same = one_layers C c.args.p head.rows head.top head.layers parts ls d.layers found.top_limit c.in_ok-layers.ensures.found
    (file_layers C c.args.p c.args.s (sealed c.args.text.now) c.args.text.now parts head.version head.layers head.rows head.top d refl found file) in
    let keys = rw c.deref.ensures.value at c.in_ok-keys.ensures in
    let Q : List ℕ → Type 0 = λ x. IsDistinct ◌==◌ x in
    false≢true (sym c.if-not-are_distinct.true ∙ c.are_distinct.ensures.1 (subst Q (sym (keys ∙ ap (flat_map (filter_map inserted_key)) same)) file.delta.keys))

pub returns-clause-found : goal.returns-clause-found
returns-clause-found c =
    let head = c.in-Some.head in
    let ls : List (List Change) = c.in_ok-layers.layers.items in
    let keys = rw c.deref.ensures.value at c.in_ok-keys.ensures in
    let Q : List ℕ → Type 0 = λ x. IsDistinct ◌==◌ x in
    file_found c.args.catalog.now c.args.p c.args.s (sealed c.args.text.now) c.args.text.now c.in-Some.parts.now
    (record { p = c.args.p; s = c.args.s; version = head.version; rows = head.rows; top = head.top; layers = ls }) head.layers refl refl refl c.in-Some.ensures.found c.in_ok-layers.ensures.found
    (subst Q keys (c.are_distinct.ensures.0 c.if-not-are_distinct.false))

pub returns-clause-only : goal.returns-clause-only
returns-clause-only c = λ d file.
    let head = c.in-Some.head in
    let ls : List (List Change) = c.in_ok-layers.layers.items in
    read_is c.args.catalog.now c.args.p c.args.s (sealed c.args.text.now) c.args.text.now c.in-Some.parts.now
    (record { p = c.args.p; s = c.args.s; version = head.version; rows = head.rows; top = head.top; layers = ls }) d head.layers refl refl refl c.in-Some.ensures.found c.in_ok-layers.ensures.found file
