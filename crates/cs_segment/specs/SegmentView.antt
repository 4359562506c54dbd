-- A segment's fields as plain data.
use Rattle.std.specs.Prelude.{map}
use Rattle.cs_schema.specs.Values.{values, kind_of}
use Rattle.cs_segment.specs.declared.segment.Segment.TheInside.{Inside}
use Rattle.cs_segment.specs.SegmentData.{SegmentData}

abbrev pub segment_data : Inside → SegmentData
segment_data a = record { p = a.p; s = a.s; kinds = map kind_of a.columns.items; base = record { rows = a.rows; columns = map values a.columns.items } }
