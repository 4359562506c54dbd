-- What reading one segment's files finds, stated of a `SegmentSource`.
use Rattle.std.specs.Prelude.{ℕ, List, Result, Vec}
use Rattle.std.specs.Global.{Global}
use Rattle.cs_schema.specs.declared.file_name.FileName.{FileName}
use Rattle.cs_schema.specs.FileNames.{FileContents}
use Rattle.cs_store.specs.FileSet.{contents_of}
use Rattle.cs_store.specs.Fault.{MemoryOr}
use Rattle.cs_store.specs.declared.fault.Fault.{Fault}
use Rattle.cs_segment.specs.SegmentData.{SegmentData}
use Rattle.cs_delta.specs.DeltaFile.{DeltaData}
use Rattle.cs_jix.specs.JoinIndex.{Place}
use Rattle.cs_rebuild.specs.Reading.{HoldsBase, HoldsChanges, IsBaseRead, AreOthersRead, IsRefused, resealed}
use Rattle.cs_rebuild.specs.declared.files_of.SegmentSource.{SegmentSource}

-- the files with the right digests, whatever their digests are
abbrev pub bodies_of : SegmentSource → FileContents
bodies_of source = resealed (contents_of source.files.now)

-- the segment's file holds this base
abbrev pub ReadsBase : SegmentSource → SegmentData → Type 0
ReadsBase source segment = HoldsBase source.catalog.now (bodies_of source) source.p source.s segment

-- the delta's file holds these changes
abbrev pub ReadsChanges : SegmentSource → DeltaData → Type 0
ReadsChanges source changes = HoldsChanges source.catalog.now (bodies_of source) source.p source.s changes

-- out of memory, or the fault of the file under a name, which is bad
abbrev pub IsFileRefusal : SegmentSource → FileName → Fault → Type 0
IsFileRefusal source name fault = MemoryOr fault (IsRefused source.catalog.now (bodies_of source) name fault)

-- the result of reading the segment's file
abbrev pub IsBaseResult : SegmentSource → Result SegmentData Fault → Type 0
IsBaseResult source read = IsBaseRead source.catalog.now (bodies_of source) source.p source.s read

-- the results of reading the delta and the join indexes
abbrev pub AreOtherResults : SegmentSource → Result DeltaData Fault × Result (Vec (ℕ × List Place) Global) Fault → Type 0
AreOtherResults source read = AreOthersRead source.catalog.now (bodies_of source) source.p source.s read
