use Rattle.std.proofs.Common.{◌≡◌, ◌∷◌, [], List, append-nil, ap, map, subst, ◌∙◌, Ok}
use Rattle.std.specs.Prelude.{Result}
use Rattle.std.proofs.lemmas.List.Elements.{All-nil, All-cons}
use Rattle.cs_schema.specs.Rows.{Row}
use Rattle.cs_rows.specs.Walk.{At, Stray, walked_row}
use Rattle.cs_rows.specs.Survivors.{contents_of}
use Rattle.cs_rows.specs.Range.{rows_between}
use Rattle.cs_rows.specs.RowSteps.{AreRows}
use Rattle.cs_rows.specs.PlanWalks.{IsFollowed, followed_rows}
use Rattle.cs_rows.specs.WalkedView.{WalkedData}
use Rattle.cs_rows.proofs.EndLemmas.{all_walked}
use Rattle.cs_rows.proofs.FollowLemmas.{walked_wide}
use Rattle.cs_rows.proofs.FoundRows.{columns_of_rows, rows_in, kinds_fit}
use Rattle.cs_rows.proofs.plan_walk.PlanWalk.range.Goals as goal

pub gather_columns-requires : goal.gather_columns-requires
gather_columns-requires c = All-cons (IsFollowed c.args.self.now) c.in-Ok.followed [] c.in-Ok.ensures.followed (All-nil (IsFollowed c.args.self.now))

pub from_columns-requires : goal.from_columns-requires
from_columns-requires c =
    let columns = c.in_ok-columns.ensures in
    columns_of_rows c.args.self.now.survivors.now.catalog c.in_ok-columns.columns.items (followed_rows c.args.self.now (c.in-Ok.followed ∷ [])) columns.fit columns.rows columns.rules.column_range.0

pub returns-clause-kinds : goal.returns-clause-kinds
returns-clause-kinds c = ap (λ (w : WalkedData). w.kinds) c.from_columns.ensures ∙ kinds_fit c.args.self.now.survivors.now.catalog c.in_ok-columns.columns.items c.in_ok-columns.ensures.fit

pub returns-clause-rows : goal.returns-clause-rows
returns-clause-rows c =
    let C = c.args.self.now.survivors.now.catalog in
    let S = contents_of c.args.self.now.survivors.now in
    let P = c.args.self.now.plan.now in
    let ats : List At = rows_between C S P c.args.from c.args.to in
    let rows : List Row = map (walked_row C S P) ats in
    let columns = c.in_ok-columns.ensures in
    let same : followed_rows c.args.self.now (c.in-Ok.followed ∷ []) ≡ rows = append-nil _ ∙ (λ i. map (walked_row C S P) (rows_between C S P (c.in-Ok.ensures.range.0 i) (c.in-Ok.ensures.range.1 i))) in
    let ok : List Row → Result (List Row) Stray = λ l. Ok l in
    ap ok (ap (λ (w : WalkedData). w.rows) c.from_columns.ensures
    ∙ rows_in C c.in_ok-columns.columns.items rows columns.fit (subst (λ (l : List Row). AreRows C l c.in_ok-columns.columns.items) same columns.rows) (walked_wide C S P ats) columns.rules.column_range.0)
    ∙ all_walked C S P ats c.in-Ok.ensures.sound
