-- The fields of a delta as plain data.
use Rattle.cs_delta.specs.declared.delta.Delta.TheInside.{Inside as DeltaInside}
use Rattle.cs_delta.specs.DeltaFile.{DeltaData}

abbrev pub delta_data : DeltaInside → DeltaData
delta_data a = record { p = a.p; s = a.s; version = a.version; rows = a.rows; top = a.top; layers = a.layers.items }
