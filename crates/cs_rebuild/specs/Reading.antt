-- What reading one segment's files finds.
use Rattle.std.specs.Prelude.{◌≡◌, ℕ, ◌-◌, ◌<◌, ◌≤◌, true, List, map, Option, Some, None, Vec, Result, IfOk, IfErr, length, slice_get, take}
use Rattle.std.specs.Borrow.{Bor}
use Rattle.std.specs.Option.{option_map}
use Rattle.std.specs.Global.{Global}
use Rattle.std.specs.List.{filter}
use Rattle.std.specs.declared.cmp.Ordering.TheVariants.{Less}
use Rattle.cs_schema.specs.declared.file_name.FileName.{FileName}
use Rattle.cs_store.specs.declared.fault.Fault.{Fault}
use Rattle.cs_store.specs.Fault.{MemoryOr}
use Rattle.cs_schema.specs.CatalogData.{CatalogData, has_join}
use Rattle.cs_schema.specs.FileNames.{FileContents, HasName, name_cmp, projection_of, segment_of, surviving}
use Rattle.cs_schema.specs.Losses.{Sites}
use Rattle.cs_schema.specs.Lists.{IsIn, numbers_below}
use Rattle.cs_segment.specs.declared.fault.FileFault.{FileFault as ReadFault}
use Rattle.cs_segment.specs.SegmentFile.{IsSegmentFile, Base, sealed}
use Rattle.cs_segment.specs.SegmentData.{SegmentData, kinds_at}
use Rattle.cs_delta.specs.DeltaFile.{DeltaData, IsDeltaFile}
use Rattle.cs_delta.specs.KindedImage.{KindedImage}
use Rattle.cs_jix.specs.JoinIndex.{Place}
use Rattle.cs_rows.specs.Survivors.{SurvivorsData, image_at, join_at}
use Rattle.cs_recovery.specs.Contents.{IsImageOf, IsJoinOf}
use Rattle.cs_recovery.specs.Verdicts.{IsSound, FileFault}
use Rattle.cs_rebuild.specs.declared.files_of.SegmentFiles.{SegmentFiles}

-- ---- bodies and digests

-- the body of a file, with the right digest
abbrev pub reseal : List ℕ → List ℕ
reseal bytes = sealed (take (length bytes - 32) bytes)

-- the files with the right digests, whatever their digests are
abbrev pub resealed : FileContents → FileContents
resealed F n = option_map reseal (F n)

-- each file that exists under these names ends in the digest of its body
abbrev pub AreSealedAmong : FileContents → List FileName → Type 0
AreSealedAmong F names = (n : FileName) (bytes : List ℕ) → IsIn n names → F n ≡ Some bytes → bytes ≡ reseal bytes

-- the first of some names whose file ends in another digest
pub record IsFirstUnsealed (F : FileContents) (names : List FileName) (n : FileName) : Type 0 where
  pub named : IsIn n names
  pub bytes : List ℕ
  pub there : F n ≡ Some bytes
  pub unsealed : (body : List ℕ) → bytes ≡ sealed body → ⊥
  pub before : (m : FileName) (b : List ℕ) → IsIn m names → name_cmp m n ≡ Less → F m ≡ Some b → b ≡ reseal b

-- the result of comparing the digests of the files under some names
abbrev pub AreDigestsAmong : FileContents → List FileName → Option FileName → Type 0
AreDigestsAmong F names None = AreSealedAmong F names
AreDigestsAmong F names (Some n) = IsFirstUnsealed F names n

-- the result of comparing the digests of the surviving files
abbrev pub AreDigests : CatalogData → Sites → FileContents → Option FileName → Type 0
AreDigests C L F = AreDigestsAmong F (surviving C L)

-- the list has each file that exists under these names
abbrev pub AreThere : FileContents → List FileName → List (Bor (List ℕ)) → Type 0
AreThere F names there = (n : FileName) (bytes : List ℕ) → IsIn n names → F n ≡ Some bytes → (f : Bor (List ℕ)) × IsIn f there × (f.now ≡ bytes)

-- ---- one segment

-- the fault of a file that could not be read
abbrev pub file_refusal : FileName → ReadFault → Fault
file_refusal n ReadFault.Memory = Fault.Memory
file_refusal n ReadFault.Damaged = Fault.Damaged n

-- the file under the name is bad, and why
abbrev pub IsRefused : CatalogData → FileContents → FileName → Fault → Type 0
IsRefused C F n f = (¬ IsSound C F n) × FileFault F n f

-- the name belongs to this segment
abbrev pub IsNameOf : ℕ × ℕ → FileName → Type 0
IsNameOf a n = (projection_of n ≡ a.0) × (segment_of n ≡ a.1)

-- all files of a segment are sound
abbrev pub AreSoundFiles : CatalogData → FileContents → ℕ × ℕ → Type 0
AreSoundFiles C F a = (n : FileName) → HasName C n → IsNameOf a n → IsSound C F n

-- the first bad file of a segment by name, and why
pub record IsFirstBadOf (C : CatalogData) (F : FileContents) (a : ℕ × ℕ) (f : Fault) : Type 0 where
  pub name : FileName
  pub has : HasName C name
  pub of : IsNameOf a name
  pub refused : IsRefused C F name f
  pub before : (m : FileName) → HasName C m → IsNameOf a m → name_cmp m name ≡ Less → IsSound C F m

-- the fault of a segment's files, if any
abbrev pub IsFilesFault : CatalogData → FileContents → ℕ × ℕ → Option Fault → Type 0
IsFilesFault C F a None = AreSoundFiles C F a
IsFilesFault C F a (Some f) = IsFirstBadOf C F a f

-- the projections to which a projection declares a join index
abbrev pub joins_of : CatalogData → ℕ → List ℕ
joins_of C p = filter (has_join C p) (numbers_below (length C.projections))

-- the image of a segment, with the kinds of its projection's columns
abbrev pub IsKindedImageOf : CatalogData → FileContents → ℕ → ℕ → KindedImage → Type 0
IsKindedImageOf C F p s m = IsImageOf C F p s m.image × (m.kinds ≡ kinds_at C p)

-- what the files of a segment hold
pub record AreFilesOf (C : CatalogData) (F : FileContents) (a : ℕ × ℕ) (out : SegmentFiles) : Type 0 where
  pub image : IsKindedImageOf C F a.0 a.1 out.image
  pub targets : map (λ j. j.0) out.joins.items ≡ joins_of C a.0
  pub joins : (j : ℕ × List Place) → IsIn j out.joins.items → IsJoinOf F a.0 a.1 j.0 j.1

-- the segment's file holds this base, and no other
pub record HoldsBase (C : CatalogData) (F : FileContents) (p s : ℕ) (segment : SegmentData) : Type 0 where
  pub bytes : List ℕ
  pub there : F (FileName.Seg p s) ≡ Some bytes
  pub kinds : segment.kinds ≡ kinds_at C p
  pub file : IsSegmentFile C p s bytes segment.base
  pub only : (b : Base) → IsSegmentFile C p s bytes b → b ≡ segment.base

-- the delta's file holds these changes, and no others
pub record HoldsChanges (C : CatalogData) (F : FileContents) (p s : ℕ) (d : DeltaData) : Type 0 where
  pub bytes : List ℕ
  pub there : F (FileName.Del p s) ≡ Some bytes
  pub file : IsDeltaFile C p s bytes d
  pub only : (c : DeltaData) → IsDeltaFile C p s bytes c → c ≡ d

-- the first target whose join index is bad
pub record IsFirstBadJoin (C : CatalogData) (F : FileContents) (p s : ℕ) (f : Fault) : Type 0 where
  pub target : ℕ
  pub below : target < length C.projections
  pub declared : has_join C p target ≡ true
  pub refused : IsRefused C F (FileName.Jix p s target) f
  pub before : (r : ℕ) → r < target → has_join C p r ≡ true → IsSound C F (FileName.Jix p s r)

-- the result of reading a segment's file
abbrev pub IsBaseRead : CatalogData → FileContents → ℕ → ℕ → Result SegmentData Fault → Type 0
IsBaseRead C F p s r = IfOk r (HoldsBase C F p s) × IfErr r (λ f. MemoryOr f (IsRefused C F (FileName.Seg p s) f))

-- the results of reading a segment's delta and its join indexes, each independent of the other
pub record AreOthersRead (C : CatalogData) (F : FileContents) (p s : ℕ) (r : Result DeltaData Fault × Result (Vec (ℕ × List Place) Global) Fault) : Type 0 where
  pub changes : IfOk r.0 (HoldsChanges C F p s)
  pub refused : IfErr r.0 (λ f. MemoryOr f (IsRefused C F (FileName.Del p s) f))
  pub targets : IfOk r.1 (λ joins. map (λ j. j.0) joins.items ≡ joins_of C p)
  pub joins : IfOk r.1 (λ joins. (j : ℕ × List Place) → IsIn j joins.items → IsJoinOf F p s j.0 j.1)
  pub bad : IfErr r.1 (λ f. MemoryOr f (IsFirstBadJoin C F p s f))

-- the fault of the i-th of some segments, and below, what its files hold
abbrev pub FilesFaultAt : CatalogData → FileContents → List (ℕ × ℕ) → ℕ → Option Fault → Type 0
FilesFaultAt C F segments i fault = (a : ℕ × ℕ) × (slice_get segments i ≡ Some a) × IsFilesFault C F a fault

abbrev pub FilesAnswerAt : CatalogData → FileContents → List (ℕ × ℕ) → ℕ → SegmentFiles → Type 0
FilesAnswerAt C F segments i out = (a : ℕ × ℕ) × (slice_get segments i ≡ Some a) × AreFilesOf C F a out

-- ---- what is stored

-- the image and the join indexes of a segment are stored, as its files hold them
pub record IsKept (C : CatalogData) (F : FileContents) (v : SurvivorsData) (a : ℕ × ℕ) : Type 0 where
  pub image : (m : KindedImage) × (image_at v a.0 a.1 ≡ Some m) × IsImageOf C F a.0 a.1 m.image
  pub joins : (q : ℕ) → IsIn q (joins_of C a.0) → (entries : List Place) × (join_at v a.0 a.1 q ≡ Some entries) × IsJoinOf F a.0 a.1 q entries

-- what is stored of the other segments does not change
pub record AreOthersKept (v : SurvivorsData) (a : ℕ × ℕ) (w : SurvivorsData) : Type 0 where
  pub images : (p s : ℕ) → ((p ≡ a.0) × (s ≡ a.1) → ⊥) → image_at w p s ≡ image_at v p s
  pub joins : (p s q : ℕ) → ((p ≡ a.0) × (s ≡ a.1) → ⊥) → join_at w p s q ≡ join_at v p s q

-- the join indexes of a list, from the n-th on, are stored under their targets, or others of the list with the same
-- targets
abbrev pub AreJoinsKept : SurvivorsData → ℕ → ℕ → List (ℕ × List Place) → ℕ → Type 0
AreJoinsKept v p s joins n = (k : ℕ) (j : ℕ × List Place) → n ≤ k → slice_get joins k ≡ Some j → (entries : List Place) × IsIn (j.0, entries) joins × (join_at v p s j.0 ≡ Some entries)
