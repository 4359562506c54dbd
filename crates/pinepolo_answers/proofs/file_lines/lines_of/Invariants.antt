use Rattle.std.proofs.Common.{◌≡◌, map, take}
use Rattle.cs_schema.specs.Lists.{IsIn}
use Rattle.cs_store.specs.FileSet.{contents_of}
use Rattle.pinepolo_answers.specs.FileLines.{IsLine}
use Rattle.pinepolo_answers.specs.declared.file_lines.FileLine.{FileLine}
use Rattle.pinepolo_answers.proofs.file_lines.lines_of.Given as goal

-- a line for each of the names so far
abbrev pub invariant-loop-name : goal.invariant-loop-name
invariant-loop-name l = record {
  names : map (λ line. line.name) l.lines.items ≡ take l.name-index l.name-items;
  each : (line : FileLine) → IsIn line l.lines.items → IsLine (contents_of l.files) l.bad line;
}
