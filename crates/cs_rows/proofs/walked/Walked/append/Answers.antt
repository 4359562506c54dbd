use Rattle.std.proofs.Common.{◌≡◌, ◌++◌, arith, length, map, sym, ap, ◌∙◌}
use Rattle.std.proofs.lemmas.List.{length-map}
use Rattle.cs_schema.specs.Values.{kind_of}
use Rattle.cs_rows.specs.WalkedView.{WalkedData, count_of}
use Rattle.cs_rows.proofs.AppendLemmas.{all_long, kinds_at, kinds_same, appended_columns, appended_rows, same_columns, same_data}
use Rattle.cs_rows.proofs.WalkedLemmas.{count_first}
use Rattle.cs_rows.proofs.walked.Walked.append.Goals as goal

pub append_columns-requires-clause-same_kinds : goal.append_columns-requires-clause-same_kinds
append_columns-requires-clause-same_kinds c =
    let e : map kind_of c.self.inside.columns.items ≡ map kind_of c.other.inside.columns.items = ap (λ (w : WalkedData). w.kinds) c.self.view_is ∙ c.requires ∙ sym (ap (λ (w : WalkedData). w.kinds) c.other.view_is) in
    kinds_at c.self.inside.columns.items c.other.inside.columns.items e (omega (arith, ap length e, length-map c.self.inside.columns.items kind_of, length-map c.other.inside.columns.items kind_of))

pub append_columns-requires-clause-long : goal.append_columns-requires-clause-long
append_columns-requires-clause-long c k d h =
    all_long c.self.inside.columns.items c.self.invariant k d h ∙ sym (c.len-rows.ensures ∙ count_first c.self.inside.columns.items c.index.result.now c.index.ensures c.self.invariant.some)

pub invariant_of-self : goal.invariant_of-self
invariant_of-self c = same_columns c.self.inside.columns.items c.append_columns.new.columns.items (count_of c.self.inside.columns.items) c.self.invariant.some c.append_columns.ensures.count (all_long c.self.inside.columns.items c.self.invariant) c.append_columns.ensures.kinds c.in-Err.ensures.err

pub returns-in-Err-clause-kinds : goal.returns-in-Err-clause-kinds
returns-in-Err-clause-kinds c = kinds_same c.append_columns.new.columns.items c.self.inside.columns.items c.append_columns.ensures.count c.append_columns.ensures.kinds ∙ ap (λ (w : WalkedData). w.kinds) c.self.view_is

pub returns-in-Err-clause-err : goal.returns-in-Err-clause-err
returns-in-Err-clause-err c = same_data c.self.inside.columns.items c.append_columns.new.columns.items (count_of c.self.inside.columns.items) c.self.invariant.some c.append_columns.ensures.count (all_long c.self.inside.columns.items c.self.invariant) c.append_columns.ensures.kinds c.in-Err.ensures.err ∙ c.self.view_is

pub invariant_of-self-2 : goal.invariant_of-self-2
invariant_of-self-2 c =
    let e : map kind_of c.self.inside.columns.items ≡ map kind_of c.other.inside.columns.items = ap (λ (w : WalkedData). w.kinds) c.self.view_is ∙ c.requires ∙ sym (ap (λ (w : WalkedData). w.kinds) c.other.view_is) in
    appended_columns c.self.inside.columns.items c.other.inside.columns.items c.append_columns.new.columns.items (count_of c.self.inside.columns.items) (count_of c.other.inside.columns.items) c.self.invariant.some
    (omega (arith, ap length e, length-map c.self.inside.columns.items kind_of, length-map c.other.inside.columns.items kind_of)) c.append_columns.ensures.count (all_long c.self.inside.columns.items c.self.invariant) (all_long c.other.inside.columns.items c.other.invariant) c.in-Ok.ensures.ok

pub returns-clause-kinds : goal.returns-clause-kinds
returns-clause-kinds c = kinds_same c.append_columns.new.columns.items c.self.inside.columns.items c.append_columns.ensures.count c.append_columns.ensures.kinds ∙ ap (λ (w : WalkedData). w.kinds) c.self.view_is

pub returns-clause-ok : goal.returns-clause-ok
returns-clause-ok c =
    let e : map kind_of c.self.inside.columns.items ≡ map kind_of c.other.inside.columns.items = ap (λ (w : WalkedData). w.kinds) c.self.view_is ∙ c.requires ∙ sym (ap (λ (w : WalkedData). w.kinds) c.other.view_is) in
    appended_rows c.self.inside.columns.items c.other.inside.columns.items c.append_columns.new.columns.items (count_of c.self.inside.columns.items) (count_of c.other.inside.columns.items) c.self.invariant.some
    (omega (arith, ap length e, length-map c.self.inside.columns.items kind_of, length-map c.other.inside.columns.items kind_of)) c.append_columns.ensures.count (all_long c.self.inside.columns.items c.self.invariant) (all_long c.other.inside.columns.items c.other.invariant) c.in-Ok.ensures.ok
    ∙ (λ i. (c.self.view_is i).rows ++ (c.other.view_is i).rows)
