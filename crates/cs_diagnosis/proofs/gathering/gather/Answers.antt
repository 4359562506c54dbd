use Rattle.cs_diagnosis.proofs.gathering.gather.Goals as goal

pub returns : goal.returns
returns c L =
    let images = c.with_files.ensures L in
    let all = c.with_files-2.ensures L in (
      λ hit. let both = all.0 hit in ((images.0 both.0).1, both.1),
      λ both. all.1 (images.1 (c.none.ensures L, both.0), both.1),
    )
