-- A read that leaves its source as it is, as a step from one state of the source to the next.
use Rattle.std.specs.Prelude.{◌≡◌}
use Rattle.cs_schema.specs.declared.file_name.FileName.{FileName}

-- the source said this of the name, and stays
abbrev pub standing : {S X : Type 0} → (S → FileName → X → Type 0) → S → FileName → X → S → Type 0
standing says s name x t = says s name x × (t ≡ s)
