use Rattle.std.proofs.Common.{arith, rules, ◌≡◌, ◌<◌, ◌∙◌, sym, ap, subst, List, ℕ, [], length, get_or}
use Rattle.std.specs.Prelude.{nat_eq}
use Rattle.std.specs.List.Sorted.{IsStrictlySortedBy}
use Rattle.cs_codec.specs.Texts.{bitmap_lengths}
use Rattle.std.proofs.lemmas.Result.{IfOk-weaker}
use Rattle.cs_codec.specs.Columns.{cells_at}
use Rattle.cs_codec.proofs.BitmapKeys.{sorted_distinct}
use Rattle.cs_codec.proofs.NumberedColumns.{text_is, other_text}
use Rattle.cs_codec.proofs.numbered.has_text.Goals as goal

each_is : (numbers named : List ℕ) (bitmaps found : List (List ℕ)) (count values : ℕ) → named ≡ numbers → found ≡ bitmaps → count ≡ values → ((n : ℕ) → n < count → get_or bitmaps n [] ≡ bitmap_lengths nat_eq n named) → (n : ℕ) → n < values → get_or found n [] ≡ bitmap_lengths nat_eq n numbers
each_is numbers named bitmaps found count values e f size each n lt =
    ap (λ (bs : List (List ℕ)). get_or bs n []) f
    ∙ each n (omega arith)
    ∙ ap (λ (ns : List ℕ). bitmap_lengths nat_eq n ns) e

pub returns-then-not-ascend-clause-no : goal.returns-then-not-ascend-clause-no
returns-then-not-ascend-clause-no g c = λ said distinct text.
    let values = g.L.Column.cells c.args.column.now.values in
    let numbers = c.args.column.now.numbers.items in
    let other : IsStrictlySortedBy g.C.Ord.cmp values → ⊥ = search rules in
    other (subst (λ (z : List g.row.C.Denot). IsStrictlySortedBy g.C.Ord.cmp z) (sym distinct) (sorted_distinct g.C.Ord.cmp g.met.C.Ord.total (cells_at values numbers)))

pub returns-clause-yes : goal.returns-clause-yes
returns-clause-yes g c =
    let values = g.L.Column.cells c.args.column.now.values in
    let numbers = c.args.column.now.numbers.items in
    let sorted : IsStrictlySortedBy g.C.Ord.cmp values = search rules in
    IfOk-weaker c.are_entries.result _ _ (λ same f. λ said.
    let are = f said in
    text_is g.C.PartialEq.eq (record { itself = g.met.C.Eq.laws.refl; exact = g.met.C.Cell.exact }) g.C.Ord.cmp g.met.C.Ord.total g.met.C.Ord.matches_eq values numbers c.requires.below c.deref-2.result.now g.C.Cell.bytes c.args.bytes.now sorted
    (ap (λ (z : List (List ℕ)). length z) c.deref-2.ensures.value ∙ c.in_ok-bitmaps.ensures.count ∙ c.len.ensures)
    (each_is numbers c.deref.result.now c.in_ok-bitmaps.bitmaps.items c.deref-2.result.now c.len.result (length values) c.deref.ensures.value c.deref-2.ensures.value c.len.ensures c.in_ok-bitmaps.ensures.each)
    are.0 are.1) c.are_entries.ensures.yes

pub returns-clause-no : goal.returns-clause-no
returns-clause-no g c =
    let values = g.L.Column.cells c.args.column.now.values in
    let numbers = c.args.column.now.numbers.items in
    let sorted : IsStrictlySortedBy g.C.Ord.cmp values = search rules in
    IfOk-weaker c.are_entries.result _ _ (λ same f. λ said distinct text.
    other_text g.C.PartialEq.eq (record { itself = g.met.C.Eq.laws.refl; exact = g.met.C.Cell.exact }) g.C.Ord.cmp g.met.C.Ord.total g.met.C.Ord.matches_eq values numbers c.requires.below c.deref-2.result.now g.C.Cell.bytes c.args.bytes.now sorted
    (ap (λ (z : List (List ℕ)). length z) c.deref-2.ensures.value ∙ c.in_ok-bitmaps.ensures.count ∙ c.len.ensures)
    (each_is numbers c.deref.result.now c.in_ok-bitmaps.bitmaps.items c.deref-2.result.now c.len.result (length values) c.deref.ensures.value c.deref-2.ensures.value c.len.ensures c.in_ok-bitmaps.ensures.each)
    (f said) distinct text) c.are_entries.ensures.no
