use Rattle.std.proofs.Common.{◌∙◌, ◌++◌, ◌∷◌, [], ap, sym, subst, arith, inl, inr, map, take, ℕ, List}
use Rattle.std.proofs.lemmas.List.{take_more, take_all, map-append}
use Rattle.cs_schema.proofs.Lists.{in_append}
use Rattle.cs_schema.specs.FileNames.{surviving}
use Rattle.cs_schema.specs.Lists.{IsIn}
use Rattle.cs_schema.specs.declared.file_name.FileName.{FileName}
use Rattle.cs_store.specs.FileSet.{contents_of}
use Rattle.pinepolo_answers.specs.FileLines.{IsLine}
use Rattle.pinepolo_answers.specs.declared.file_lines.FileLine.{FileLine}
use Rattle.pinepolo_answers.proofs.file_lines.lines_of.Goals as goal

pub loop-name-init : goal.loop-name-init
loop-name-init c = record {
  names = ap (map (λ (l : FileLine). l.name)) c.new-lines.ensures.items;
  each = λ line is. absurd (subst (IsIn line) c.new-lines.ensures.items is);
}

pub loop-name-preserved : goal.loop-name-preserved
loop-name-preserved c =
    let lines = c.loop-name.lines.items in
    let line = c.in_ok-line.line in
    let names = c.deref-name-items.result.now in
    let i = c.loop-name.name-index in
    let invariant = c.loop-name.invariant in
    record {
      names = ap (map (λ (l : FileLine). l.name)) c.in_ok-push.ensures.items
          ∙ map-append (λ (l : FileLine). l.name) lines (line ∷ [])
          ∙ ap (λ ns. ns ++ line.name ∷ []) invariant.names
          ∙ ap (λ n. take i names ++ n ∷ []) c.in_ok-line.ensures.0
          ∙ sym (take_more names i (FileName.Seg 0 0) (omega (arith, c.loop-name-test.true)));
      each = λ each is. elim (in_append lines (line ∷ []) each (subst (IsIn each) c.in_ok-push.ensures.items is)) [
        | inl before ↦ invariant.each each before
        | inr last ↦ elim last [
          | inl same ↦ subst (IsLine (contents_of c.args.files.now) c.args.bad.now) (sym same) c.in_ok-line.ensures.1
          | inr none ↦ absurd none
        ]
      ];
    }

pub returns : goal.returns
returns c =
    let names = c.deref-name-items.result.now in
    let i = c.loop-name.name-index in
    record {
      names = c.loop-name.invariant.names
          ∙ take_all i names (omega (arith, c.loop-name-test.false))
          ∙ c.deref-name-items.ensures.value
          ∙ c.in_ok-names.ensures.names
          ∙ ap (λ (L : List ℕ). surviving c.args.catalog.now L) c.none.ensures;
      each = c.loop-name.invariant.each;
    }
