-- The names of a store's files: their paths, their order, and which of them survive a loss.
use Rattle.std.specs.Prelude.{◌≡◌, codes, ℕ, ◌∷◌, ◌++◌, false, List, [], Option, decimal, IsTrue, map, length, if◌then◌else◌}
use Rattle.std.specs.Ordering.{nat_cmp}
use Rattle.std.specs.Cmp.Lexicographic.{slice_cmp}
use Rattle.std.specs.List.{flat_map}
use Rattle.cs_schema.specs.Lists.{numbers_below}
use Rattle.std.specs.declared.cmp.Ordering.{Ordering}
use Rattle.cs_schema.specs.declared.file_name.FileName.{FileName}
use Rattle.cs_schema.specs.CatalogData.{CatalogData, projection, segments, HasSegment, has_join}
use Rattle.cs_schema.specs.Losses.{Sites, lost}

-- what stands under each name
abbrev pub FileContents : Type 0
FileContents = FileName → Option (List ℕ)

-- where a file stands: projection, segment
abbrev pub stem : ℕ → ℕ → List ℕ
stem p s = codes "p" ++ decimal p ++ codes ".s" ++ decimal s

abbrev pub file_path : FileName → List ℕ
file_path (FileName.Seg p s) = stem p s ++ codes ".seg"
file_path (FileName.Del p s) = stem p s ++ codes ".del"
file_path (FileName.Jix p s q) = stem p s ++ codes ".q" ++ decimal q ++ codes ".jix"

-- names are compared by projection, segment, kind and target
abbrev pub name_key : FileName → List ℕ
name_key (FileName.Seg p s) = p ∷ s ∷ 0 ∷ []
name_key (FileName.Del p s) = p ∷ s ∷ 1 ∷ []
name_key (FileName.Jix p s q) = p ∷ s ∷ 2 ∷ q ∷ []

abbrev pub name_cmp : FileName → FileName → Ordering
name_cmp m n = slice_cmp nat_cmp (name_key m) (name_key n)

abbrev pub projection_of : FileName → ℕ
projection_of (FileName.Seg p s) = p
projection_of (FileName.Del p s) = p
projection_of (FileName.Jix p s q) = p

abbrev pub segment_of : FileName → ℕ
segment_of (FileName.Seg p s) = s
segment_of (FileName.Del p s) = s
segment_of (FileName.Jix p s q) = s

-- for each segment its file and its delta, and a join index for each declared join of its projection
abbrev pub HasName : CatalogData → FileName → Type 0
HasName C (FileName.Seg p s) = HasSegment C p s
HasName C (FileName.Del p s) = HasSegment C p s
HasName C (FileName.Jix p s q) = HasSegment C p s × IsTrue (has_join C p q)

-- a name of the catalog whose segment is not lost
abbrev pub Survives : CatalogData → Sites → FileName → Type 0
Survives C L n = HasName C n × (lost C L (projection_of n) (segment_of n) ≡ false)

-- ---- the names that survive, as a list

-- the names of one segment
abbrev pub segment_names : CatalogData → ℕ → ℕ → List FileName
segment_names C p s = FileName.Seg p s ∷ FileName.Del p s ∷ map (FileName.Jix p s) (projection C p).joins

abbrev pub surviving_segment : CatalogData → Sites → ℕ → ℕ → List FileName
surviving_segment C L p s = if lost C L p s then [] else segment_names C p s

abbrev pub surviving_projection : CatalogData → Sites → ℕ → List FileName
surviving_projection C L p = flat_map (surviving_segment C L p) (numbers_below (segments C p))

-- the surviving names, ascending
abbrev pub surviving : CatalogData → Sites → List FileName
surviving C L = flat_map (surviving_projection C L) (numbers_below (length C.projections))
