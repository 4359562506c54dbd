-- The parts of a join index's file.
use Rattle.std.specs.Prelude.{ℕ, ◌<◌, ◌^◌, ◌==◌, nat_le, Bool, ◌&&◌, if◌then◌else◌, List, ◌++◌, map, codes}
use Rattle.std.specs.List.{concat}
use Rattle.cs_segment.specs.Bytes.{be16, be32}
use Rattle.cs_jix.specs.JoinIndex.{Place}

-- the header of a join index's file, up to the number of entries
abbrev pub join_head : ℕ → ℕ → ℕ → List ℕ
join_head p s q = codes "CSJIX001" ++ be16 p ++ be16 s ++ be16 q

abbrev pub entry_text : Place → List ℕ
entry_text e = be16 e.0 ++ be32 e.1

abbrev pub entries_text : List Place → List ℕ
entries_text entries = concat (map entry_text entries)

-- the entry of a dead key, (0, 0), or a segment number and a key within their limits
abbrev pub is_allowed : Place → Bool
is_allowed e = if e.1 == 0 then e.0 == 0 else (nat_le e.0 15 && nat_le e.1 4194304)

-- the segment number of an entry fits 2 bytes, its key 4
pub record FitEntry (e : Place) : Type 0 where
  pub segment : e.0 < 2 ^ 16
  pub key : e.1 < 2 ^ 32
