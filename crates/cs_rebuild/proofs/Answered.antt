-- What is found of a store whose digests are taken for right, once they were compared.
use Rattle.std.proofs.Common.{◌≡◌, ℕ, List, length, refl, sym, ap, subst, ◌⊎◌, inl, inr, Bool, true, false, Result, Ok, Err, Option, Some, None}
use Rattle.std.specs.Prelude.{nat_lt, IfOk, IfErr}
use Rattle.std.specs.List.{find}
use Rattle.std.specs.Option.{option_map, option_or}
use Rattle.std.specs.declared.alloc.AllocError.{AllocError}
use Rattle.std.proofs.lemmas.Option.{none-some, same_Some}
use Rattle.std.proofs.lemmas.Result.{IfErr-at_err}
use Rattle.cs_schema.specs.declared.file_name.FileName.{FileName}
use Rattle.cs_schema.specs.CatalogData.{CatalogData}
use Rattle.cs_schema.specs.CatalogRules.{IsCatalog}
use Rattle.cs_schema.specs.FileNames.{FileContents, Survives}
use Rattle.cs_schema.specs.Losses.{Sites}
use Rattle.cs_schema.specs.Order.{row_limit, rows_of}
use Rattle.cs_schema.specs.Rows.{Row}
use Rattle.cs_store.specs.declared.fault.Fault.{Fault}
use Rattle.cs_store.specs.Fault.{MemoryOr}
use Rattle.cs_rows.specs.Survivors.{SurvivorsData, contents_of as held_by}
use Rattle.cs_rows.specs.Walk.{Contents, Stray}
use Rattle.cs_order.specs.Tables.{all_segments, is_twice, table_of}
use Rattle.cs_recovery.specs.Claims.{SameSurvivors}
use Rattle.cs_recovery.specs.Tables.{when}
use Rattle.cs_recovery.specs.Verdicts.{IsFirstBadFile, IsSound, IsVerdict, full, judged, misled, misplaced, surviving_joins, surviving_segments, twice, unless_refused}
use Rattle.cs_recovery.proofs.Exact.{sound}
use Rattle.cs_recovery.proofs.FewerSurvive.{reads_under}
use Rattle.cs_recovery.proofs.Read.{layers}
use Rattle.cs_recovery.proofs.WalkedTable.{verdict_under}
use Rattle.cs_rebuild.specs.Answers.{Gives, IsAnswer, IsOfFiles}
use Rattle.cs_rebuild.specs.declared.wanted.Answer.{Answer}
use Rattle.cs_rebuild.specs.declared.wanted.Wanted.{Wanted}
use Rattle.cs_recovery.specs.TableAnswers.{Columns}
use Rattle.cs_store.specs.FileSet.{Files}
use Rattle.cs_rebuild.specs.Reading.{AreDigests, resealed}
use Rattle.cs_rebuild.specs.Steps.{AreBodiesSound, AreRead, IsBadFile}
use Rattle.cs_rebuild.specs.Verifying.{is_misled, is_misplaced}
use Rattle.cs_rebuild.proofs.LeastBad.{read_as_sealed}
use Rattle.cs_rebuild.proofs.Verdicts.{bad_file, memory_or}

-- what was read is also read of files with the same survivors
pub read_under : (C : CatalogData) (F G : FileContents) (L : Sites) (v : SurvivorsData) → SameSurvivors C L F G → AreRead C F L v → AreRead C G L v
read_under C F G L v same read = record { reads = reads_under C F G L (held_by v) same read.reads; catalog = read.catalog; images_there = read.images_there; joins_there = read.joins_there }

-- files that were read are sound
pub read_sound : (C : CatalogData) → IsCatalog C → (F : FileContents) (L : Sites) (v : SurvivorsData) → AreRead C F L v → (n : FileName) → Survives C L n → IsSound C F n
read_sound C cat F L v read = sound C cat (layers C cat) F L (held_by v) read.reads

-- what is wanted of a table does not depend on files that do not survive
gives_under : (wanted : Wanted) (C : CatalogData) (F G : FileContents) (L : Sites) (T : List Row) (a : Answer) → SameSurvivors C L F G → Gives wanted C F L T a → Gives wanted C G L T a
gives_under Wanted.Files C F G L T (Answer.Files out) same e = record { contents = e.contents; reads = reads_under C F G L e.contents same e.reads; files = e.files }
gives_under Wanted.Files C F G L T (Answer.Count n) same e = e
gives_under Wanted.Files C F G L T (Answer.Columns columns) same e = e
gives_under Wanted.Count C F G L T (Answer.Files out) same e = e
gives_under Wanted.Count C F G L T (Answer.Count n) same e = e
gives_under Wanted.Count C F G L T (Answer.Columns columns) same e = e
gives_under Wanted.Columns C F G L T (Answer.Files out) same e = e
gives_under Wanted.Columns C F G L T (Answer.Count n) same e = e
gives_under Wanted.Columns C F G L T (Answer.Columns columns) same e = e

-- ---- faults of rows

abbrev IsOfRows : Option Fault → Type 0
IsOfRows o = (f : Fault) → o ≡ Some f → IsOfFiles f → ⊥

either : (a b : Option Fault) → IsOfRows a → IsOfRows b → IsOfRows (option_or a b)
either (Some x) b h k = h
either None b h k = k

if_so : (b : Bool) (x : Fault) → (IsOfFiles x → ⊥) → IsOfRows (when b x)
if_so true x rows f e = subst (λ y. IsOfFiles y → ⊥) (same_Some x f e) rows
if_so false x rows f e = absurd (none-some f e)

first : {X : Type 0} (g : X → Fault) (o : Option X) → ((x : X) → IsOfFiles (g x) → ⊥) → IsOfRows (option_map g o)
first g (Some x) rows f e = subst (λ y. IsOfFiles y → ⊥) (same_Some (g x) f e) (rows x)
first g None rows f e = absurd (none-some f e)

refused : (o : Option Fault) (T : List Row) (f : Fault) → unless_refused o T ≡ Err f → IsOfRows o → IsOfFiles f → ⊥
refused None T f e rows = absurd (IfErr-at_err (λ _. ⊥) e tt)
refused (Some g) T f e rows = rows f (ap Some (sym (IfErr-at_err (λ y. y ≡ g) e refl)))

module _ (C : CatalogData) (L : Sites) (S : Contents) (T : List Row) where
  if_full : IsOfRows (full C T)
  if_full = first (λ (a : ℕ × ℕ). Fault.Full a.0 a.1) (find (λ (a : ℕ × ℕ). nat_lt row_limit (length (rows_of C T a.0 a.1))) (all_segments C)) (λ a i. i)

  if_misplaced : IsOfRows (misplaced C L S T)
  if_misplaced = first (λ (a : ℕ × ℕ). Fault.Misplaced a.0 a.1) (find (is_misplaced C S T) (surviving_segments C L)) (λ a i. i)

  if_misled : IsOfRows (misled C L S T)
  if_misled = first (λ (a : ℕ × ℕ × ℕ). Fault.Misled a.0 a.1 a.2) (find (is_misled C L S T) (surviving_joins C L)) (λ a i. i)

  abbrev then_misled : Option Fault
  then_misled = option_or (misplaced C L S T) (misled C L S T)

  either_full : IsOfRows (option_or (full C T) then_misled)
  either_full = either (full C T) then_misled if_full (either (misplaced C L S T) (misled C L S T) if_misplaced if_misled)

judged_rows_fault : (C : CatalogData) (L : Sites) (S : Contents) (w : Result (List Row) Stray) (f : Fault) → judged C L S w ≡ Err f → IsOfFiles f → ⊥
judged_rows_fault C L S (Err at) f e = subst (λ y. IsOfFiles y → ⊥) (sym (IfErr-at_err (λ y. y ≡ Fault.Astray at.0 at.1 at.2) e refl)) (λ i. i)
judged_rows_fault C L S (Ok rows) f e =
    let T = table_of C rows in
    let later = option_or (full C T) (then_misled C L S T) in
    refused (option_or (twice C rows) later) T f e (either (twice C rows) later (if_so (is_twice C rows) Fault.Twice (λ i. i)) (either_full C L S T))

-- ---- verdicts on a store whose digests are taken for right

module _ (C : CatalogData) (cat : IsCatalog C) (F : FileContents) (L : Sites) where
  -- the fault is that of the first bad body, or the bodies are sound
  pub body_or_rows : (f : Fault) → IsVerdict C (resealed F) L (Err f) → IsBadFile C (resealed F) L f ⊎ (AreBodiesSound C L F × (IsOfFiles f → ⊥))
  body_or_rows f (IsVerdict.bad_file n g bad e) = inl (n, subst (IsFirstBadFile C (resealed F) L n) (sym (IfErr-at_err (λ y. y ≡ g) (sym e) refl)) bad)
  body_or_rows f (IsVerdict.contents S w reads walk e) = inr (sound C cat (layers C cat) (resealed F) L S reads, judged_rows_fault C L S w f (sym e))

  bodies_sound : (T : List Row) → IsVerdict C (resealed F) L (Ok T) → AreBodiesSound C L F
  bodies_sound T (IsVerdict.bad_file n g bad e) = absurd (IfErr-at_err (λ _. ⊥) e tt)
  bodies_sound T (IsVerdict.contents S w reads walk e) = sound C cat (layers C cat) (resealed F) L S reads

  module _ (wanted : Wanted) where
    if_sound : (r : Result Answer Fault) → IsAnswer wanted C (resealed F) L r → IfOk r (λ _. AreBodiesSound C L F)
    if_sound (Ok a) of = bodies_sound of.0 of.1
    if_sound (Err f) of = tt

    if_refused : (r : Result Answer Fault) → IsAnswer wanted C (resealed F) L r → IfErr r (λ f. MemoryOr f (IsVerdict C (resealed F) L (Err f)))
    if_refused (Ok a) of = tt
    if_refused (Err f) of = of

    -- the answer from the bodies, unless a digest is wrong, is the answer about the files
    pub answered : (u : Result (Option FileName) AllocError) (r a : Result Answer Fault) → IfOk u (AreDigests C L F) → IsAnswer wanted C (resealed F) L r → IfOk a (λ made. (r ≡ Ok made) × (u ≡ Ok None))
        → IfErr a (λ fault. ((r ≡ Err fault) × (u ≡ Ok None)) ⊎ ((D : CatalogData) (M : Sites) (G : FileContents) → IsCatalog D → IfOk u (AreDigests D M G) → IfOk r (λ _. AreBodiesSound D M G) → IfErr r (λ f. MemoryOr f (IsVerdict D (resealed G) M (Err f))) → MemoryOr fault (IsBadFile D G M fault)))
        → IsAnswer wanted C F L a
    answered u r a digests of = go a
      where
        same : u ≡ Ok None → SameSurvivors C L (resealed F) F
        same none = read_as_sealed C cat F L (subst (λ (x : Result (Option FileName) AllocError). IfOk x (AreDigests C L F)) none digests)

        go : (a : Result Answer Fault) → IfOk a (λ made. (r ≡ Ok made) × (u ≡ Ok None))
            → IfErr a (λ fault. ((r ≡ Err fault) × (u ≡ Ok None)) ⊎ ((D : CatalogData) (M : Sites) (G : FileContents) → IsCatalog D → IfOk u (AreDigests D M G) → IfOk r (λ _. AreBodiesSound D M G) → IfErr r (λ f. MemoryOr f (IsVerdict D (resealed G) M (Err f))) → MemoryOr fault (IsBadFile D G M fault)))
            → IsAnswer wanted C F L a
        go (Ok made) ok err =
            let is = subst (IsAnswer wanted C (resealed F) L) ok.0 of in
            (is.0, verdict_under C (resealed F) F L (same ok.1) (Ok is.0) is.1, gives_under wanted C (resealed F) F L is.0 made (same ok.1) is.2)
        go (Err f) ok err =
            elim err [
              | inl own ↦ memory_or f (subst (IsAnswer wanted C (resealed F) L) own.0 of) (verdict_under C (resealed F) F L (same own.1) (Err f))
              | inr all ↦ memory_or f (all C L F cat digests (if_sound r of) (if_refused r of)) (bad_file C F L f)
            ]

-- an answer has the variant of what is wanted
pub files_wanted : (C : CatalogData) (F : FileContents) (L : Sites) (T : List Row) (a : Answer) → Gives Wanted.Files C F L T a → ((out : Files) → a ≡ Answer.Files out → ⊥) → ⊥
files_wanted C F L T (Answer.Files out) g other = other out refl
files_wanted C F L T (Answer.Count n) g other = g
files_wanted C F L T (Answer.Columns columns) g other = g

pub count_wanted : (C : CatalogData) (F : FileContents) (L : Sites) (T : List Row) (a : Answer) → Gives Wanted.Count C F L T a → ((n : ℕ) → a ≡ Answer.Count n → ⊥) → ⊥
count_wanted C F L T (Answer.Files out) g other = g
count_wanted C F L T (Answer.Count n) g other = other n refl
count_wanted C F L T (Answer.Columns columns) g other = g

pub columns_wanted : (C : CatalogData) (F : FileContents) (L : Sites) (T : List Row) (a : Answer) → Gives Wanted.Columns C F L T a → ((columns : Columns) → a ≡ Answer.Columns columns → ⊥) → ⊥
columns_wanted C F L T (Answer.Files out) g other = g
columns_wanted C F L T (Answer.Count n) g other = g
columns_wanted C F L T (Answer.Columns columns) g other = other columns refl
