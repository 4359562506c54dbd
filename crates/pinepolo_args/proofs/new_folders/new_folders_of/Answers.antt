use Rattle.std.proofs.Common.{◌∙◌, suc, map, ap, sym, codes}
use Rattle.clap.specs.Words.{all_of, found_of, rows_of}
use Rattle.clap.proofs.WalkLemmas.{raw_values-rows}
use Rattle.pinepolo_args.specs.NewFolders.{folder_in, texts}
use Rattle.pinepolo_args.proofs.Folders.{of_texts}
use Rattle.pinepolo_args.proofs.Rows.{none_given, some_given}
use Rattle.pinepolo_args.proofs.new_folders.new_folders_of.Goals as goal

pub returns-in-Some : goal.returns-in-Some
returns-in-Some c =
    let found = found_of c.args.found.now in
    let given = some_given (λ s. map (λ v. v.now) s.now) c.get_strs.result (all_of (codes "to") (rows_of found)) c.in-Some.texts (c.get_strs.ensures ∙ raw_values-rows found (codes "to")) c.in-Some.is in
    of_texts c.none.result.folders (texts (rows_of found)) _ c.none.ensures given c.with_texts.result c.with_texts.ensures

pub returns-in-None : goal.returns-in-None
returns-in-None c =
    let found = found_of c.args.found.now in
    let none = none_given (λ s. map (λ v. v.now) s.now) c.get_strs.result (all_of (codes "to") (rows_of found)) (c.get_strs.ensures ∙ raw_values-rows found (codes "to")) c.in-None.is in
    λ place low. c.none-in-None.ensures place low ∙ ap (λ l. folder_in l (suc place)) (sym none)
