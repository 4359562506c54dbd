use Rattle.std.proofs.Common.{◌≡◌, ℕ, ◌<◌}
use Rattle.cs_schema.specs.Lists.{IsIn}
use Rattle.cs_diagnosis.specs.Disputed.{AreOfTables}
use Rattle.cs_diagnosis.specs.declared.disputing.TableDisputes.{TableDisputes}
use Rattle.cs_diagnosis.proofs.disputing.disputed_rows.Given as goal

-- the disputes of each two tables below an index
abbrev pub invariant-loop-second : goal.invariant-loop-second
invariant-loop-second l = record {
  each : (d : TableDisputes) → IsIn d l.found.items → AreOfTables l.catalog l.tables l.at_most d;
  every : (m n : ℕ) → m < n → n < l.second → (d : TableDisputes) × IsIn d l.found.items × (d.first ≡ m) × (d.second ≡ n);
}

-- and those of the table at that index with the ones before it
abbrev pub invariant-loop-first : goal.invariant-loop-first
invariant-loop-first l = record {
  each : (d : TableDisputes) → IsIn d l.found.items → AreOfTables l.catalog l.tables l.at_most d;
  every : (m n : ℕ) → m < n → n < l.second → (d : TableDisputes) × IsIn d l.found.items × (d.first ≡ m) × (d.second ≡ n);
  last : (m : ℕ) → m < l.first → (d : TableDisputes) × IsIn d l.found.items × (d.first ≡ m) × (d.second ≡ l.second);
}
