-- A segment's file while it is written, and the digest of its bytes so far.
use Rattle.std.specs.Prelude.{ℕ, List, ◌++◌, flat_map}
use Rattle.std.specs.Global.{Vec}
use Rattle.cs_digests.specs.Growing.{HasTaken}
use Rattle.cs_segment.specs.declared.hashing_buffer.HashingBuffer.TheInside.{Inside as InsideBuffer}
use Rattle.cs_segment.specs.declared.segment_writer.SegmentWriter.TheInside.{Inside as InsideWriter}

-- the bytes so far
abbrev pub buffer_bytes : InsideBuffer → List ℕ
buffer_bytes a = a.bytes.items

-- the concatenation of the pieces
abbrev pub joined : List (Vec ℕ) → List ℕ
joined pieces = flat_map (λ piece. piece.items) pieces

-- the digest has taken the first of the bytes
abbrev pub IsDigested : InsideBuffer → Type 0
IsDigested a = HasTaken a.digest a.bytes.items

-- the bytes of the file so far: its front, and the queued pieces after it
abbrev pub writer_bytes : InsideWriter → List ℕ
writer_bytes a = a.front ++ joined a.queued.items
