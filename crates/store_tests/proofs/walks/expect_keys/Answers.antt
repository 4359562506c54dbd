use Rattle.std.proofs.Common.{◌≡◌, List, ◌∷◌, ◌++◌, [], Option, sym, ap, subst, ◌∙◌}
use Rattle.std.proofs.lemmas.List.Elements.{All-nil, All-cons}
use Rattle.cs_schema.specs.declared.cells.Cells.{Cells}
use Rattle.cs_rows.specs.PlanWalks.{IsFollowed}
use Rattle.cs_rows.specs.TableView.{over}
use Rattle.cs_rows.specs.WalkedView.{AreColumns}
use Rattle.cs_rows.proofs.TableLemmas.{one_column}
use Rattle.store_tests.proofs.walks.expect_keys.Goals as goal

one_owned : (cells : Cells) (borrowed : List (Option Cells)) (none owned : List Cells) → none ≡ [] → owned ≡ none ++ cells ∷ [] → AreColumns (over owned borrowed)
one_owned cells borrowed none owned none_is owned_is =
    subst (λ l. AreColumns (over l borrowed)) (sym (owned_is ∙ ap (λ l. l ++ cells ∷ []) none_is)) (one_column cells borrowed)

pub of_columns-table-requires : goal.of_columns-table-requires
of_columns-table-requires g c = one_owned c.new-2.result c.push-2.new.self c.new-owned.result.items _ c.new-owned.ensures.items c.in-Ok-push.ensures.items

pub gather-keys-requires-clause-followed : goal.gather-keys-requires-clause-followed
gather-keys-requires-clause-followed g c = All-cons (IsFollowed c.expect-walk.result) c.in-Ok.followed [] c.in-Ok.ensures.followed (All-nil (IsFollowed c.expect-walk.result))
