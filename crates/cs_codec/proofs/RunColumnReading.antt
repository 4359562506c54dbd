-- Reading runs directly into a column.
use Rattle.std.proofs.Common.{◌≡◌, ℕ, suc, ◌+◌, ◌-◌, replicate, Some, ◌<◌, ◌≤◌, Bool, true, false, List, [], ◌∷◌, ◌++◌, length, get_or, refl, sym, ap, subst, ◌∙◌, append_assoc, arith}
use Rattle.std.specs.Prelude.{slice_get}
use Rattle.std.proofs.lemmas.Option.{slice_get-get_or}
use Rattle.std.proofs.lemmas.List.{append-nil, length-append, drop_all, length_push, length-replicate, get_or_append_left, get_or-append-add, get_or-replicate, get_or_at}
use Rattle.cs_codec.specs.Runs.{Run, expand, IsProper, written_from}
use Rattle.cs_codec.specs.Texts.{runs_text}
use Rattle.cs_codec.specs.Encodings.{IsColumn, IsShort}
use Rattle.cs_codec.specs.RunLaws.{cases_bool, length-expand-cons}
use Rattle.cs_codec.specs.Cells.{BeginsOne, IsTest}
use Rattle.cs_codec.specs.RunTexts.{NoRunStandsAt, ReadsRun, Differs, HasRead}
use Rattle.cs_codec.proofs.RunLemmas.{RunsHold-push, IsProper-push, expand-append}
use Rattle.cs_codec.proofs.RunReading.{IsNext, ReadSoFar, neighbours_differ, next_run, none_stands, stands_next, ended, read_more, runs_of_column, column_of_runs}

-- ---- the last run that was read

-- the last run, whose value is the last cell
pub record LastCell {C : Type 0} (rs : List (Run C)) : Type 0 where
  pub front : List (Run C)
  pub last : Run C
  pub parts : rs ≡ front ++ last ∷ []
  pub read : (w : List C) (d : C) → get_or (expand rs ++ w) (length (expand rs) - 1) d ≡ last.value

last_cell : {C : Type 0} (eq : C → C → Bool) (rs : List (Run C)) → IsProper eq rs → 0 < length (expand rs) → LastCell rs
last_cell eq [] p h = absurd (omega arith)
last_cell {C} eq (r ∷ []) p h =
    let some : 0 < r.count = p.0 in
    let whole : expand (r ∷ []) ≡ replicate r.count r.value = append-nil (replicate r.count r.value) in
    let len : length (expand (r ∷ [])) ≡ r.count = ap length whole ∙ length-replicate r.count r.value in
    let n = length (expand (r ∷ [])) - 1 in
    let here : length (expand (r ∷ [])) - 1 < length (expand (r ∷ [])) = omega arith in
    let small : length (expand (r ∷ [])) - 1 < r.count = omega arith in
    record {
      front = [];
      last = r;
      parts = refl;
      read = λ w d.
          get_or_append_left (expand (r ∷ [])) w d n here
          ∙ ap (λ (xs : List C). get_or xs n d) whole
          ∙ get_or-replicate r.count n r.value d small;
    }
last_cell {C} eq (r ∷ s ∷ rs) p h =
    let some : 0 < s.count = p.2.0 in
    let more : 0 < length (expand (s ∷ rs)) = omega (arith, length-expand-cons s rs) in
    let deeper = last_cell eq (s ∷ rs) p.2 more in
    let front = replicate r.count r.value in
    let place : length (expand (r ∷ s ∷ rs)) - 1 ≡ length (replicate r.count r.value) + (length (expand (s ∷ rs)) - 1) = omega (arith, length-append (replicate r.count r.value) (expand (s ∷ rs))) in
    record {
      front = r ∷ deeper.front;
      last = deeper.last;
      parts = ap (λ (z : List (Run C)). r ∷ z) deeper.parts;
      read = λ w d.
          ap (λ (xs : List C). get_or xs (length (expand (r ∷ s ∷ rs)) - 1) d) (append_assoc front (expand (s ∷ rs)) w)
          ∙ ap (λ (n : ℕ). get_or (front ++ (expand (s ∷ rs) ++ w)) n d) place
          ∙ get_or-append-add front (expand (s ∷ rs) ++ w) (length (expand (s ∷ rs)) - 1) d
          ∙ deeper.read w d;
    }

cell_before : {C : Type 0} (rs : List (Run C)) (v : C) (cells : List C) (at : ℕ) (l : LastCell rs) → cells ≡ expand rs ++ v ∷ [] → at ≡ length (expand rs) → 0 < length (expand rs) → slice_get cells (at - 1) ≡ Some l.last.value
cell_before {C} rs v cells at l ec ea some =
    let len : length cells ≡ length (expand rs) + 1 = ap length ec ∙ length_push (expand rs) v in
    let lt : at - 1 < length cells = omega arith in
    slice_get-get_or cells (at - 1) v lt
    ∙ ap Some (ap (λ (xs : List C). get_or xs (at - 1) v) ec ∙ ap (λ (n : ℕ). get_or (expand rs ++ v ∷ []) (n - 1) v) ea ∙ l.read (v ∷ []) v)

cell_here : {C : Type 0} (rs : List (Run C)) (v : C) (cells : List C) (at : ℕ) → cells ≡ expand rs ++ v ∷ [] → at ≡ length (expand rs) → slice_get cells at ≡ Some v
cell_here {C} rs v cells at ec ea =
    let len : length cells ≡ length (expand rs) + 1 = ap length ec ∙ length_push (expand rs) v in
    let lt : at < length cells = omega arith in
    slice_get-get_or cells at v lt
    ∙ ap Some (ap (λ (xs : List C). get_or xs at v) ec ∙ get_or_at (expand rs) v [] v at (sym ea))

same_some : {C : Type 0} (x y : C) → Some x ≡ Some y → x ≡ y
same_some x y e = cc

not_both : (b : Bool) → b ≡ true → b ≡ false → ⊥
not_both b h k = let clash : true ≡ false = sym h ∙ k in absurd cc

pub differs_from : {C : Type 0} (eq : C → C → Bool) (t : IsTest eq) (rs : List (Run C)) (run : Run C) (rest : List (Run C)) (cells : List C) (at : ℕ) → cells ≡ expand rs ++ run.value ∷ [] → at ≡ length (expand rs) → IsProper eq rs → IsProper eq (rs ++ run ∷ rest) → Differs cells at
differs_from {C} eq t rs run rest cells at ec ea p q lt same =
    let some : 0 < length (expand rs) = omega arith in
    let l = last_cell eq rs p some in
    let apart = neighbours_differ eq l.front l.last run rest (subst (λ (z : List (Run C)). IsProper eq (z ++ run ∷ rest)) l.parts q) in
    let one : l.last.value ≡ run.value = same_some l.last.value run.value (sym (cell_before rs run.value cells at l ec ea some) ∙ same ∙ cell_here rs run.value cells at ec ea) in
    not_both (eq l.last.value run.value) (ap (λ (z : C). eq z run.value) one ∙ t.itself run.value) apart

pub proper_more : {C : Type 0} (eq : C → C → Bool) (t : IsTest eq) (rs : List (Run C)) (run : Run C) (cells : List C) (at : ℕ) → cells ≡ expand rs ++ run.value ∷ [] → at ≡ length (expand rs) → IsProper eq rs → 0 < run.count → Differs cells at → IsProper eq (rs ++ run ∷ [])
proper_more eq t [] run cells at ec ea p h differs = (h, tt, tt)
proper_more {C} eq t (r ∷ rs) run cells at ec ea p h differs =
    let count : 0 < r.count = p.0 in
    let some : 0 < length (expand (r ∷ rs)) = omega (arith, length-expand-cons r rs) in
    let l = last_cell eq (r ∷ rs) p some in
    let lt : 0 < at = omega arith in
    cases_bool (eq l.last.value run.value)
    (λ e. absurd (differs lt (cell_before (r ∷ rs) run.value cells at l ec ea some ∙ ap Some (t.exact l.last.value run.value e) ∙ sym (cell_here (r ∷ rs) run.value cells at ec ea))))
    (λ e. subst (λ (z : List (Run C)). IsProper eq (z ++ run ∷ [])) (sym l.parts) (IsProper-push eq l.front l.last run e h (subst (λ (z : List (Run C)). IsProper eq z) l.parts p)))

so_far_of : {C : Type 0} (bytes : C → List ℕ) (is_cell : C → Type 0) (eq : C → C → Bool) (text : List ℕ) (rows at : ℕ) (cells : List C) → rows ≤ 1048576 → (h : HasRead bytes is_cell eq text rows at cells) → ReadSoFar bytes is_cell text rows at h.runs
so_far_of bytes is_cell eq text rows at cells short h =
    let same : length (expand h.runs) ≡ length cells = ap length h.cells_are in
    let few = h.few in
    record { written = h.written; hold = h.hold; few = omega arith; short = short }

pub none_here : {C : Type 0} (bytes : C → List ℕ) (is_cell : C → Type 0) (eq : C → C → Bool) (t : IsTest eq) (one : BeginsOne bytes is_cell) (text : List ℕ) (rows at : ℕ) (cells others : List C) → rows ≤ 1048576 → HasRead bytes is_cell eq text rows at cells → at < length text → IsColumn (runs_text bytes eq) IsShort is_cell text rows others → NoRunStandsAt bytes is_cell text at → ⊥
none_here bytes is_cell eq t one text rows at cells others short h lt column none =
    let so_far = so_far_of bytes is_cell eq text rows at cells short h in
    let next = next_run bytes is_cell eq one text rows at h.runs _ so_far lt (runs_of_column bytes is_cell eq t text rows others column) in
    none_stands bytes is_cell eq text rows at h.runs so_far next none

pub next_here : {C : Type 0} (bytes : C → List ℕ) (is_cell : C → Type 0) (eq : C → C → Bool) (t : IsTest eq) (one : BeginsOne bytes is_cell) (text : List ℕ) (rows at : ℕ) (cells after others : List C) (position count end : ℕ) → rows ≤ 1048576 → (h : HasRead bytes is_cell eq text rows at cells) → at < length text → IsColumn (runs_text bytes eq) IsShort is_cell text rows others → (r : ReadsRun bytes is_cell text at cells after position count end) → IsNext eq rows h.runs (record { value = r.value; count = count }) position
next_here bytes is_cell eq t one text rows at cells after others position count end short h lt column r =
    let so_far = so_far_of bytes is_cell eq text rows at cells short h in
    let next = next_run bytes is_cell eq one text rows at h.runs _ so_far lt (runs_of_column bytes is_cell eq t text rows others column) in
    stands_next bytes is_cell eq one text rows at h.runs _ position end so_far next r.stands

pub differs_here : {C : Type 0} (bytes : C → List ℕ) (is_cell : C → Type 0) (eq : C → C → Bool) (t : IsTest eq) (one : BeginsOne bytes is_cell) (text : List ℕ) (rows at : ℕ) (cells after others : List C) (position count end n : ℕ) → rows ≤ 1048576 → (h : HasRead bytes is_cell eq text rows at cells) → at < length text → IsColumn (runs_text bytes eq) IsShort is_cell text rows others → (r : ReadsRun bytes is_cell text at cells after position count end) → n ≡ length cells → Differs after n
differs_here {C} bytes is_cell eq t one text rows at cells after others position count end n short h lt column r en =
    let next = next_here bytes is_cell eq t one text rows at cells after others position count end short h lt column r in
    differs_from eq t h.runs (record { value = r.value; count = count }) next.rest after n
    (r.added ∙ ap (λ (z : List C). z ++ r.value ∷ []) (sym h.cells_are)) (en ∙ ap length (sym h.cells_are)) h.proper next.proper

pub grown_by : {C : Type 0} (cells after grown : List C) (v : C) (n count : ℕ) → after ≡ cells ++ v ∷ [] → n ≡ length cells → 0 < count → ((c : C) → slice_get after n ≡ Some c → grown ≡ after ++ replicate (count - 1) c) → grown ≡ cells ++ replicate count v
grown_by {C} cells after grown v n count ea en some g =
    let len : length after ≡ length cells + 1 = ap length ea ∙ length_push cells v in
    let lt : n < length after = omega arith in
    let here : slice_get after n ≡ Some v = slice_get-get_or after n v lt ∙ ap Some (ap (λ (xs : List C). get_or xs n v) ea ∙ get_or_at cells v [] v n (sym en)) in
    let one : suc (count - 1) ≡ count = omega arith in
    g v here
    ∙ ap (λ (z : List C). z ++ replicate (count - 1) v) ea
    ∙ append_assoc cells (v ∷ []) (replicate (count - 1) v)
    ∙ ap (λ (k : ℕ). cells ++ replicate k v) one

pub has_read_more : {C : Type 0} (bytes : C → List ℕ) (is_cell : C → Type 0) (eq : C → C → Bool) (t : IsTest eq) (text : List ℕ) (rows at : ℕ) (cells after grown : List C) (position count end n : ℕ) → HasRead bytes is_cell eq text rows at cells → ReadsRun bytes is_cell text at cells after position count end → n ≡ length cells → position ≡ n + 1 → n + count ≤ rows → 0 < count → Differs after n → ((c : C) → slice_get after n ≡ Some c → grown ≡ after ++ replicate (count - 1) c) → HasRead bytes is_cell eq text rows end grown
has_read_more {C} bytes is_cell eq t text rows at cells after grown position count end n h r en ep few some differs g =
    let run : Run C = record { value = r.value; count = count } in
    let whole = grown_by cells after grown r.value n count r.added en some g in
    let sizes : length (expand h.runs) ≡ length cells = ap length h.cells_are in
    record {
      runs = h.runs ++ run ∷ [];
      cells_are = expand-append h.runs (run ∷ []) ∙ ap (λ (z : List C). expand h.runs ++ z) (append-nil (replicate count r.value)) ∙ ap (λ (z : List C). z ++ replicate count r.value) h.cells_are ∙ sym whole;
      written = read_more bytes is_cell text h.runs run at position end h.written r.stands (omega arith);
      proper = proper_more eq t h.runs run after n (r.added ∙ ap (λ (z : List C). z ++ r.value ∷ []) (sym h.cells_are)) (en ∙ sym sizes) h.proper some differs;
      hold = RunsHold-push is_cell h.runs run h.hold r.stands.holds;
      few = omega (arith, ap length whole, length-append cells (replicate count r.value), length-replicate count r.value);
      within = r.stands.within;
    }

pub none_read : {C : Type 0} (bytes : C → List ℕ) (is_cell : C → Type 0) (eq : C → C → Bool) (text : List ℕ) (rows : ℕ) (cells : List C) → cells ≡ [] → HasRead bytes is_cell eq text rows 0 cells
none_read {C} bytes is_cell eq text rows cells e = record {
  runs = [];
  cells_are = sym e;
  written = refl;
  proper = tt;
  hold = tt;
  few = omega (arith, ap length e);
  within = omega arith;
}

pub all_read : {C : Type 0} (bytes : C → List ℕ) (is_cell : C → Type 0) (eq : C → C → Bool) (t : IsTest eq) (text : List ℕ) (rows at : ℕ) (cells : List C) → rows ≤ 1048576 → (h : HasRead bytes is_cell eq text rows at cells) → length text ≤ at → length cells ≡ rows → IsColumn (runs_text bytes eq) IsShort is_cell text rows cells
all_read bytes is_cell eq t text rows at cells short h le len =
    column_of_runs bytes is_cell eq t text rows h.runs cells short
    (record {
      text_is = h.written ∙ ap (λ (w : List ℕ). written_from bytes 1 h.runs ++ w) (drop_all at text le) ∙ append-nil (written_from bytes 1 h.runs);
      rows_are = ap length h.cells_are ∙ len;
      proper = h.proper;
      hold = h.hold;
    })
    (sym h.cells_are)

pub ended_here : {C : Type 0} (bytes : C → List ℕ) (is_cell : C → Type 0) (eq : C → C → Bool) (t : IsTest eq) (one : BeginsOne bytes is_cell) (text : List ℕ) (rows at : ℕ) (cells others : List C) → rows ≤ 1048576 → (h : HasRead bytes is_cell eq text rows at cells) → length text ≤ at → IsColumn (runs_text bytes eq) IsShort is_cell text rows others → length cells ≡ rows
ended_here bytes is_cell eq t one text rows at cells others short h le column =
    ap length (sym h.cells_are)
    ∙ ended bytes is_cell eq one text rows at h.runs _ (so_far_of bytes is_cell eq text rows at cells short h) le (runs_of_column bytes is_cell eq t text rows others column)
