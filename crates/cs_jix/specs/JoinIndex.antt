-- Join indexes (C-Store, VLDB 2005), and their files.
use Rattle.std.specs.Prelude.{◌≡◌, ℕ, zero, suc, ◌≤◌, ◌==◌, if◌then◌else◌, List, ◌++◌, map, length, codes, Option, Some, None, ◌⊎◌}
use Rattle.std.specs.List.{concat, slice_get}
use Rattle.cs_schema.specs.Lists.{IsIn}
use Rattle.cs_segment.specs.Bytes.{be16, be32}
use Rattle.cs_segment.specs.SegmentFile.{sealed}
use Rattle.cs_delta.specs.DeltaFile.{key_limit}

-- a segment of the target projection, and a storage key in it
abbrev pub Place : Type 0
Place = ℕ × ℕ

abbrev pub no_place : Place
no_place = (0, 0)

abbrev pub IsEntry : Place → Type 0
IsEntry e = (e ≡ no_place) ⊎ ((e.0 ≤ 15) × (1 ≤ e.1) × (e.1 ≤ key_limit))

abbrev pub join_index_body : ℕ → ℕ → ℕ → List Place → List ℕ
join_index_body p s q entries = codes "CSJIX001" ++ be16 p ++ be16 s ++ be16 q ++ be32 (length entries) ++ concat (map (λ (e : Place). be16 e.0 ++ be32 e.1) entries)

abbrev pub join_index_text : ℕ → ℕ → ℕ → List Place → List ℕ
join_index_text p s q entries = sealed (join_index_body p s q entries)

pub record IsJoinIndexFile (p s q : ℕ) (bytes : List ℕ) (entries : List Place) : Type 0 where
  pub count : length entries ≤ key_limit
  pub each : (e : Place) → IsIn e entries → IsEntry e
  pub text : bytes ≡ join_index_text p s q entries

-- the entry, unless it is empty
abbrev pub placed_entry : Option Place → Option Place
placed_entry None = None
placed_entry (Some e) = if e.1 == 0 then None else Some e

abbrev pub entry_at : List Place → ℕ → Option Place
entry_at entries zero = None
entry_at entries (suc i) = placed_entry (slice_get entries i)
