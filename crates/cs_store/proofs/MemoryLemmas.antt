-- What loads from memory and saves to memory come to.
use Rattle.std.proofs.Common.{◌≡◌, ℕ, Bool, true, false, ◌||◌, ◌&&◌, T, List, [], ◌∷◌, ◌++◌, map, length, take, Option, Some, None, cond, if◌then◌else◌, refl, subst, sym, ap, ◌∙◌, append_assoc, append-nil, inl, inr, ◌⊎◌}
use Rattle.std.proofs.Math.Seq.{take-append_seam}
use Rattle.std.specs.FinMap.{empty, entries, find, len, len-entries, is_sorted, get-entries, entries_sorted, entries-insert, same_entries_map}
use Rattle.std.specs.FinMap.Entries.{below_all}
use Rattle.std.specs.List.{AllByRecursion, list_any}
use Rattle.std.specs.Ordering.{is_eq, is_lt, eq_by_cmp}
use Rattle.std.specs.declared.cmp.Ordering.{Ordering}
use Rattle.std.specs.declared.cmp.Ordering.TheVariants.{Less, Equal, Greater}
use Rattle.cs_schema.specs.FileNames.{name_cmp}
use Rattle.cs_schema.specs.NameOrder.{name_cmp_total, name_cmp-IsAntisymmetric}
use Rattle.cs_schema.specs.declared.file_name.FileName.{FileName}
use Rattle.cs_store.specs.Fault.{MemoryOr}
use Rattle.cs_store.specs.FileSet.{Files, contents_of}
use Rattle.cs_store.specs.Load.{Answers, names_of, present, ReadsInTurn, Loads, StopsLoading}
use Rattle.cs_store.specs.Save.{Puts, PutsInTurn, Saves, StopsSaving, next_name, refusal}
use Rattle.cs_store.specs.Plan.{due, planned}
use Rattle.cs_store.specs.Memory.{GivesHeld, RefusesRead, TakesFile, SetsMark, RefusesCall, IsPlannedRead, IsPlannedWrite, held_at, save_calls}
use Rattle.cs_store.specs.declared.memory.failure.Failure.{Failure}
use Rattle.cs_store.specs.declared.memory.source.MemorySource.{MemorySource}
use Rattle.cs_store.specs.declared.memory.sink.MemorySink.{MemorySink}
use Rattle.cs_store.specs.declared.fault.StoreFault.{StoreFault}
use Rattle.cs_store.specs.declared.fault.StoreFault.TheVariants as cause
use Rattle.cs_store.specs.declared.fault.Fault.{Fault}
use Rattle.cs_store.proofs.FileSetLemmas.{entries-empty, put_last}
use Rattle.cs_store.proofs.PlanLemmas.{planned-GoesOn, planned-due}

-- ---- loads

tie : (o : Ordering) → is_eq o ≡ true → o ≡ Equal
tie Less e = absurd (cc)
tie Equal e = refl
tie Greater e = absurd (cc)

-- names that tie hold the same
held_tied : (held : Files) (q m : FileName) → eq_by_cmp name_cmp q m ≡ true → contents_of held q ≡ contents_of held m
held_tied held q m e = ap (contents_of held) (name_cmp-IsAntisymmetric q m (tie _ e))

-- a choice that is none either way
none_either : (b : Bool) (x : Option (List ℕ)) → x ≡ None → (if b then x else None) ≡ None
none_either true x e = e
none_either false x e = refl

-- the answers of reads from memory find at each name what is held, if it was read
found_held : (s : MemorySource) (answers : Answers) (t : MemorySource) → ReadsInTurn GivesHeld s answers t → (q : FileName) → find name_cmp q (present answers) ≡ held_at s.files (names_of answers) q
found_held s [] t run q = refl
found_held s ((m, None) ∷ rest) t run q =
    let here : None ≡ contents_of s.files m = run.1.held in
    let later : find name_cmp q (present rest) ≡ held_at s.files (names_of rest) q = subst (λ fs. find name_cmp q (present rest) ≡ held_at fs (names_of rest) q) run.1.files (found_held run.0 rest t run.2 q) in
    elim (eq_by_cmp name_cmp q m) as (λ b. eq_by_cmp name_cmp q m ≡ b → find name_cmp q (present rest) ≡ (if b || list_any (eq_by_cmp name_cmp q) (names_of rest) then contents_of s.files q else None)) [
      | true ↦ λ e. let none : contents_of s.files q ≡ None = held_tied s.files q m e ∙ sym here in later ∙ none_either _ _ none ∙ sym none
      | false ↦ λ e. later
    ] refl
found_held s ((m, Some bytes) ∷ rest) t run q =
    let here : Some bytes ≡ contents_of s.files m = run.1.held in
    let later : find name_cmp q (present rest) ≡ held_at s.files (names_of rest) q = subst (λ fs. find name_cmp q (present rest) ≡ held_at fs (names_of rest) q) run.1.files (found_held run.0 rest t run.2 q) in
    elim (eq_by_cmp name_cmp q m) as (λ b. eq_by_cmp name_cmp q m ≡ b → cond b (Some bytes) (find name_cmp q (present rest)) ≡ (if b || list_any (eq_by_cmp name_cmp q) (names_of rest) then contents_of s.files q else None)) [
      | true ↦ λ e. here ∙ sym (held_tied s.files q m e)
      | false ↦ λ e. later
    ] refl

-- the files are those that are held under the names, and no others
pub loads_held : (names : List FileName) (s : MemorySource) (files : Files) (t : MemorySource) → Loads GivesHeld names s files t → (q : FileName) → contents_of files q ≡ held_at s.files names q
loads_held names s files t loads q =
    get-entries files q
    ∙ ap (find name_cmp q) loads.just_these
    ∙ found_held s loads.answers t loads.in_turn q
    ∙ ap (λ ns. held_at s.files ns q) loads.in_order

-- reads that answered leave what was planned of those after them
reads_planned : (s : MemorySource) (answers : Answers) (t : MemorySource) → ReadsInTurn GivesHeld s answers t → (others : List FileName) → planned (names_of answers ++ others) s.failure ≡ planned others t.failure
reads_planned s [] t same others = ap (λ v. planned others v.failure) (sym same)
reads_planned s (a ∷ rest) t run others = planned-GoesOn a.0 (names_of rest ++ others) s.failure run.0.failure run.1.plan ∙ reads_planned run.0 rest t run.2 others

none_planned : {A : Type 0} (plan : Option Failure) → planned {A = A} [] plan ≡ None
none_planned None = refl
none_planned (Some failure) = refl

-- a load that answers was not planned to fail
pub loads_unplanned : (names : List FileName) (s : MemorySource) (files : Files) (t : MemorySource) → Loads GivesHeld names s files t → planned names s.failure ≡ None
loads_unplanned names s files t loads =
    ap (λ ns. planned ns s.failure) (sym loads.in_order ∙ sym (append-nil (names_of loads.answers))) ∙ reads_planned s loads.answers t loads.in_turn [] ∙ none_planned t.failure

-- a device's fault was planned at the read that is named
pub stops_planned : (names : List FileName) (s : MemorySource) (answer : Fault) (t : MemorySource) → StopsLoading GivesHeld RefusesRead names s answer t → IsPlannedRead names s.failure answer
stops_planned names s answer t stops =
    let plan = stops.refused.plan.cause in
    let now : planned (stops.name ∷ stops.others) stops.reached.failure ≡ Some (stops.name, cause.Device) = elim plan [
      | inl due ↦ planned-due stops.name stops.others stops.reached.failure cause.Device due
      | inr memory ↦ cc
    ] in
    (stops.name, stops.named, ap (λ ns. planned ns s.failure) stops.in_order ∙ reads_planned s stops.answers stops.reached stops.in_turn (stops.name ∷ stops.others) ∙ now)

-- ---- saves

first : (a b : Bool) → T (a && b) → T a
first true b h = tt
first false b h = h

second : (a b : Bool) → T (a && b) → T b
second true b h = h
second false b h = absurd h

less : (o : Ordering) → T (is_lt o) → o ≡ Less
less Less h = refl
less Equal h = absurd h
less Greater h = absurd h

-- what is below each of a list is below one in its midst
below_midst : (x : FileName) (before : Puts) (f : FileName × List ℕ) (rest : Puts) → T (below_all name_cmp x (before ++ f ∷ rest)) → name_cmp x f.0 ≡ Less
below_midst x [] f rest h = less _ (first _ _ h)
below_midst x (e ∷ before) f rest h = below_midst x before f rest (second _ _ h)

-- in an ascending list, those before a file are below it
before_next : (before : Puts) (f : FileName × List ℕ) (rest : Puts) → T (is_sorted name_cmp (before ++ f ∷ rest)) → AllByRecursion (λ e. name_cmp e.0 f.0 ≡ Less) before
before_next [] f rest h = tt
before_next (e ∷ before) f rest h = (below_midst e.0 before f rest (first _ _ h), before_next before f rest (second _ _ h))

-- ascending files that were put stand behind those that stood there
puts_held : (s : MemorySink) (saved : Puts) (t : MemorySink) → PutsInTurn TakesFile s saved t → (left : Puts) → T (is_sorted name_cmp (entries s.files ++ (saved ++ left))) → entries t.files ≡ entries s.files ++ saved
puts_held s [] t same left h = ap (λ v. entries v.files) same ∙ sym (append-nil (entries s.files))
puts_held s (f ∷ rest) t run left h =
    let taken : entries run.0.files ≡ entries s.files ++ f ∷ [] = ap entries run.1.files ∙ entries-insert name_cmp_total s.files f.0 f.1 ∙ put_last (entries s.files) f.0 f.1 (before_next (entries s.files) f (rest ++ left) h) in
    let sorted : T (is_sorted name_cmp (entries run.0.files ++ (rest ++ left))) = subst (λ es. T (is_sorted name_cmp es)) (sym (ap (λ es. es ++ (rest ++ left)) taken ∙ append_assoc (entries s.files) (f ∷ []) (rest ++ left))) h in
    puts_held run.0 rest t run.2 left sorted ∙ ap (λ es. es ++ rest) taken ∙ append_assoc (entries s.files) (f ∷ []) rest

puts_mark : (s : MemorySink) (saved : Puts) (t : MemorySink) → PutsInTurn TakesFile s saved t → t.mark ≡ s.mark
puts_mark s [] t same = ap (λ v. v.mark) same
puts_mark s (f ∷ rest) t run = puts_mark run.0 rest t run.2 ∙ run.1.mark

-- a sink that was empty holds just what was put
held_from_empty : (files : Files) (s : MemorySink) (saved left : Puts) (t : MemorySink) → s.files ≡ empty → entries files ≡ saved ++ left → PutsInTurn TakesFile s saved t → entries t.files ≡ saved
held_from_empty files s saved left t none in_order run =
    let before : entries s.files ≡ [] = ap entries none ∙ entries-empty in
    let sorted : T (is_sorted name_cmp (entries s.files ++ (saved ++ left))) = subst (λ es. T (is_sorted name_cmp es)) (in_order ∙ sym (ap (λ es. es ++ (saved ++ left)) before)) (entries_sorted files) in
    puts_held s saved t run left sorted ∙ ap (λ es. es ++ saved) before

-- puts that were taken leave what was planned of the calls after them
puts_planned : (s : MemorySink) (saved : Puts) (t : MemorySink) → PutsInTurn TakesFile s saved t → (others : List (Option FileName)) → planned (map (λ f. Some f.0) saved ++ others) s.failure ≡ planned others t.failure
puts_planned s [] t same others = ap (λ v. planned others v.failure) (sym same)
puts_planned s (f ∷ rest) t run others = planned-GoesOn (Some f.0) (map (λ f. Some f.0) rest ++ others) s.failure run.0.failure run.1.plan ∙ puts_planned run.0 rest t run.2 others

-- the call after the puts: of the first file that is left, or of the mark
next_planned : (left : Puts) (plan : Option Failure) → due plan ≡ Some cause.Device → planned (map (λ f. Some f.0) left ++ None ∷ []) plan ≡ Some (next_name left, cause.Device)
next_planned [] plan e = planned-due None [] plan cause.Device e
next_planned (f ∷ rest) plan e = planned-due (Some f.0) (map (λ f. Some f.0) rest ++ None ∷ []) plan cause.Device e

calls-append : (saved left : Puts) → map (λ f. Some f.0) (saved ++ left) ++ None ∷ [] ≡ map (λ f. Some f.0) saved ++ (map (λ f. Some f.0) left ++ None ∷ [])
calls-append [] left = refl
calls-append (f ∷ rest) left = ap (λ cs. Some f.0 ∷ cs) (calls-append rest left)

write_planned : (files : Files) (s : MemorySink) (answer : Fault) (saved left : Puts) (reached : MemorySink) (why : StoreFault) → entries files ≡ saved ++ left → PutsInTurn TakesFile s saved reached → (due reached.failure ≡ Some why) ⊎ (why ≡ cause.Memory) → answer ≡ refusal (next_name left) why → MemoryOr answer (IsPlannedWrite (save_calls files) s.failure answer)
write_planned files s answer saved left reached cause.Memory in_order run why named = inl named
write_planned files s answer saved left reached cause.Device in_order run (inl is_due) named =
    inr (next_name left, named, ap (λ fs. planned (map (λ f. Some f.0) fs ++ None ∷ []) s.failure) in_order ∙ ap (λ cs. planned cs s.failure) (calls-append saved left) ∙ puts_planned s saved reached run _ ∙ next_planned left reached.failure is_due)
write_planned files s answer saved left reached cause.Device in_order run (inr memory) named = absurd cc

module _ (files : Files) (s t : MemorySink) where
  module _ (saves : Saves TakesFile SetsMark (entries files) s t) where
    -- after a save that answered Ok the sink has just these files, and the mark with their number
    pub saves_whole : s.files ≡ empty → t.files ≡ files
    saves_whole none = saves.marked.files ∙ same_entries_map saves.reached.files files (held_from_empty files s (entries files) [] saves.reached none (sym (append-nil (entries files))) saves.in_turn)

    pub saves_marked : t.mark ≡ Some (len files)
    saves_marked = saves.marked.mark ∙ ap Some (sym (len-entries files))

    pub saves_unplanned : planned (save_calls files) s.failure ≡ None
    saves_unplanned = puts_planned s (entries files) saves.reached saves.in_turn (None ∷ []) ∙ planned-GoesOn None [] saves.reached.failure t.failure saves.marked.plan ∙ none_planned t.failure

  module _ (answer : Fault) (stops : StopsSaving TakesFile RefusesCall (entries files) s answer t) where
    -- after a refusal the sink has the first files, and no new mark
    pub stops_prefix : s.files ≡ empty → entries t.files ≡ take (len t.files) (entries files)
    stops_prefix none =
        let held : entries t.files ≡ stops.saved = ap entries stops.refused.files ∙ held_from_empty files s stops.saved stops.left stops.reached none stops.in_order stops.in_turn in
        let count : len t.files ≡ length stops.saved = len-entries t.files ∙ ap length held in
        held ∙ sym (ap (λ n. take n (entries files)) count ∙ ap (take (length stops.saved)) stops.in_order ∙ take-append_seam stops.saved stops.left)

    pub stops_unmarked : t.mark ≡ s.mark
    stops_unmarked = stops.refused.mark ∙ puts_mark s stops.saved stops.reached stops.in_turn

    pub stops_write_planned : MemoryOr answer (IsPlannedWrite (save_calls files) s.failure answer)
    stops_write_planned = write_planned files s answer stops.saved stops.left stops.reached stops.cause stops.in_order stops.in_turn stops.refused.plan.cause stops.named
