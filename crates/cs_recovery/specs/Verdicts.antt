-- What `rebuild` and `check` answer: the first refusal that applies, or the table.
use Rattle.std.specs.Prelude.{◌≡◌, ℕ, ◌<◌, ◌≤◌, nat_lt, not, List, [], map, length, Option, Some, None, Result, Ok, Err, IsTrue, ◌⊎◌}
use Rattle.std.specs.List.{filter, flat_map, find}
use Rattle.std.specs.Option.{option_map, option_or}
use Rattle.std.specs.declared.cmp.Ordering.TheVariants.{Less}
use lib.Pointwise.{pointwise}
use Rattle.cs_schema.specs.declared.file_name.FileName.{FileName}
use Rattle.cs_store.specs.declared.fault.Fault.{Fault}
use Rattle.cs_schema.specs.declared.kinds.Safety.{Safety}
use Rattle.cs_schema.specs.CatalogData.{CatalogData, has_join}
use Rattle.cs_schema.specs.Lists.{member}
use Rattle.cs_schema.specs.Losses.{lost, Sites}
use Rattle.cs_schema.specs.Rows.{Row, project}
use Rattle.cs_schema.specs.Values.{value_eq}
use Rattle.cs_schema.specs.FileNames.{FileContents, Survives, name_cmp}
use Rattle.cs_schema.specs.Order.{rows_of, row_limit}
use Rattle.cs_schema.specs.Lists.{numbers_below}
use Rattle.cs_segment.specs.SegmentFile.{Base, IsSegmentFile}
use Rattle.cs_delta.specs.Image.{ImageData, image_rows}
use Rattle.cs_jix.specs.JoinIndex.{Place}
use Rattle.cs_safety.specs.Safety.{IsSafe, IsKSafe, IsFirstUnsafe}
use Rattle.cs_safety.specs.PlanData.{PlanData, IsPlan}
use Rattle.cs_rows.specs.Walk.{Contents, Stray, walked}
use Rattle.cs_rows.specs.WalkByRows.{walked_by_rows}
use Rattle.cs_recovery.specs.Contents.{IsImageOf, IsJoinOf, Reads}
use Rattle.cs_recovery.specs.Places.{entries_for}
use Rattle.cs_recovery.specs.Holding.{agrees}
use Rattle.cs_recovery.specs.Tables.{when}
use Rattle.cs_order.specs.Tables.{all_segments, table_of, is_twice}

-- each site of the loss is a site of the catalog
abbrev pub NamesItsSites : CatalogData → Sites → Type 0
NamesItsSites C L = (x : ℕ) → IsTrue (member L x) → x ≤ C.sites

-- there is a file under the name, and it is a file of that name; a delta also merges with its segment
abbrev pub IsSound : CatalogData → FileContents → FileName → Type 0
IsSound C F (FileName.Seg p s) = (bytes : List ℕ) × (b : Base) × (F (FileName.Seg p s) ≡ Some bytes) × IsSegmentFile C p s bytes b
IsSound C F (FileName.Del p s) = (m : ImageData) × IsImageOf C F p s m
IsSound C F (FileName.Jix p s q) = (entries : List Place) × IsJoinOf F p s q entries

-- why the file under a name is refused
abbrev pub FileFault : FileContents → FileName → Fault → Type 0
FileFault F n f = ((F n ≡ None) × (f ≡ Fault.Missing n)) ⊎ (((bytes : List ℕ) × (F n ≡ Some bytes)) × (f ≡ Fault.Damaged n))

-- the first surviving name whose file is missing or damaged, and why
pub record IsFirstBadFile (C : CatalogData) (F : FileContents) (L : Sites) (n : FileName) (f : Fault) : Type 0 where
  pub survives : Survives C L n
  pub bad : ¬ IsSound C F n
  pub fault : FileFault F n f
  pub before : (m : FileName) → Survives C L m → name_cmp m n ≡ Less → IsSound C F m

-- the surviving segments, and their join indexes, in the order of their names
abbrev pub surviving_segments : CatalogData → Sites → List (ℕ × ℕ)
surviving_segments C L = filter (λ (a : ℕ × ℕ). not (lost C L a.0 a.1)) (all_segments C)

abbrev pub surviving_joins : CatalogData → Sites → List (ℕ × ℕ × ℕ)
surviving_joins C L = flat_map (λ (a : ℕ × ℕ). map (λ q. (a.0, a.1, q)) (filter (has_join C a.0) (numbers_below (length C.projections)))) (surviving_segments C L)

abbrev pub twice : CatalogData → List Row → Option Fault
twice C rows = when (is_twice C rows) Fault.Twice

-- the first range that is too large
abbrev pub full : CatalogData → List Row → Option Fault
full C T = option_map (λ (a : ℕ × ℕ). Fault.Full a.0 a.1) (find (λ (a : ℕ × ℕ). nat_lt row_limit (length (rows_of C T a.0 a.1))) (all_segments C))

-- the first surviving segment whose image does not have the table's rows
abbrev pub misplaced : CatalogData → Sites → Contents → List Row → Option Fault
misplaced C L S T = option_map (λ (a : ℕ × ℕ). Fault.Misplaced a.0 a.1) (find (λ (a : ℕ × ℕ). not (pointwise (pointwise value_eq) (image_rows (S.image a.0 a.1)) (map (project C a.0) (rows_of C T a.0 a.1)))) (surviving_segments C L))

-- the first surviving join index that does not lead to the places of its rows
abbrev pub misled : CatalogData → Sites → Contents → List Row → Option Fault
misled C L S T = option_map (λ (a : ℕ × ℕ × ℕ). Fault.Misled a.0 a.1 a.2) (find (λ (a : ℕ × ℕ × ℕ). not (pointwise (agrees C L a.2) (S.join a.0 a.1 a.2) (entries_for C L S T a.0 a.1 a.2))) (surviving_joins C L))

-- the verdict on contents of files: a fault, or the table
abbrev pub Verdict : Type 0
Verdict = Result (List Row) Fault

abbrev pub unless_refused : {X : Type 0} → Option Fault → X → Result X Fault
unless_refused None x = Ok x
unless_refused (Some f) x = Err f

-- the first of these faults that applies, or the table of the walked rows
abbrev pub judged_rows : CatalogData → Sites → Contents → List Row → Verdict
judged_rows C L S rows =
    let T : List Row = table_of C rows in
    unless_refused (option_or (twice C rows) (option_or (full C T) (option_or (misplaced C L S T) (misled C L S T)))) T

abbrev pub judged : CatalogData → Sites → Contents → Result (List Row) Stray → Verdict
judged C L S (Err at) = Err (Fault.Astray at.0 at.1 at.2)
judged C L S (Ok rows) = judged_rows C L S rows

-- the walk by the catalog's rule of safety
abbrev pub IsWalkedBy : Safety → CatalogData → Sites → Contents → Result (List Row) Stray → Type 0
IsWalkedBy Safety.Whole C L S w = (P : PlanData) × IsPlan C L P × (w ≡ walked C S P)
IsWalkedBy Safety.Rows C L S w = w ≡ walked_by_rows C L S

-- The verdict on the surviving files of a safe loss: the fault of the first bad file, or the verdict on their contents.
pub data IsVerdict (C : CatalogData) (F : FileContents) (L : Sites) (v : Verdict) : Type 0 where
  bad_file : (n : FileName) (f : Fault) → IsFirstBadFile C F L n f → v ≡ Err f → IsVerdict C F L v
  contents : (S : Contents) (w : Result (List Row) Stray) → Reads C F L S → IsWalkedBy C.safety C L S w → v ≡ judged C L S w → IsVerdict C F L v

-- The verdict of `rebuild`: the first fault that applies, or the table whose files it returns.
pub data IsRebuildVerdict (C : CatalogData) (F : FileContents) (L : Sites) (v : Verdict) : Type 0 where
  site : ¬ NamesItsSites C L → v ≡ Err Fault.Site → IsRebuildVerdict C F L v
  unsafe : NamesItsSites C L → ¬ IsSafe C L → v ≡ Err (Fault.Unsafe L) → IsRebuildVerdict C F L v
  safe : NamesItsSites C L → IsSafe C L → IsVerdict C F L v → IsRebuildVerdict C F L v

-- The verdict of `check`: the first fault that applies, or the table whose rows it counts.
pub data IsCheckVerdict (C : CatalogData) (F : FileContents) (k : ℕ) (v : Verdict) : Type 0 where
  bad_k : 3 < k → v ≡ Err Fault.BadK → IsCheckVerdict C F k v
  unsafe : k ≤ 3 → (L : Sites) → IsFirstUnsafe C k L → v ≡ Err (Fault.Unsafe L) → IsCheckVerdict C F k v
  safe : k ≤ 3 → IsKSafe C k → IsVerdict C F [] v → IsCheckVerdict C F k v
