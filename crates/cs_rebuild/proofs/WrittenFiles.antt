-- Files that are written one after the other.
use Rattle.std.proofs.Common.{◌≡◌, ℕ, ◌-◌, List, map, length, refl, sym, ap, subst, ◌∙◌, Bool, true, false, cond, Option, Some, None, arith, Ordering, Result, Ok, Err}
use Rattle.std.specs.Prelude.{IfOk}
use Rattle.std.specs.List.{AllZip, range_with_len}
use Rattle.std.specs.FinMap.{insert, get-insert}
use Rattle.std.specs.Ordering.{is_eq}
use Rattle.std.specs.declared.cmp.Ordering.TheVariants.{Less, Equal, Greater}
use Rattle.std.proofs.lemmas.Slice.Zip.{AllZip-map}
use Rattle.rayon.proofs.ListFacts.{AllZip-weaken}
use Rattle.cs_schema.specs.declared.file_name.FileName.{FileName}
use Rattle.cs_schema.specs.CatalogData.{CatalogData}
use Rattle.cs_schema.specs.FileNames.{FileContents, name_cmp}
use Rattle.cs_schema.specs.Lists.{numbers_below}
use Rattle.cs_schema.specs.Losses.{Sites}
use Rattle.cs_schema.specs.NameOrder.{name_cmp_total, name_cmp-IsAntisymmetric}
use Rattle.cs_schema.specs.Order.{rows_of}
use Rattle.cs_schema.specs.Rows.{Row, project}
use Rattle.cs_schema.proofs.Ascending.{false≢true}
use Rattle.cs_segment.specs.SegmentFile.{segment_text, base_of}
use Rattle.cs_delta.specs.DeltaFile.{delta_text, no_changes}
use Rattle.cs_jix.specs.JoinIndex.{Place, IsJoinIndexFile, join_index_text}
use Rattle.cs_rows.specs.Walk.{Contents}
use Rattle.cs_store.specs.FileSet.{Files, contents_of}
use Rattle.cs_recovery.specs.Expected.{written, is_lost, is_affected}
use Rattle.cs_recovery.specs.Places.{entries_for}
use Rattle.cs_recovery.specs.Tables.{when}
use Rattle.cs_rebuild.specs.Writing.{HasWritten, KeepsWritten}

-- ---- the entries of a join index

-- what was made for each number below one
pub made_of_each : {Y : Type 0} (R : ℕ → Y → Type 0) (f : ℕ → Y) → ((i : ℕ) (y : Y) → R i y → y ≡ f i) → (n m : ℕ) (numbers : List ℕ) (ys : List Y) → n ≡ m → numbers ≡ range_with_len 0 (n - 0) → AllZip R numbers ys → ys ≡ map f (numbers_below m)
made_of_each R f told n m numbers ys same e h =
    let whole : n - 0 ≡ m = omega arith in
    AllZip-map f numbers ys (AllZip-weaken R (λ i y. y ≡ f i) told numbers ys h) ∙ ap (map f) (e ∙ ap (range_with_len 0) whole)

pub text_of : {B E : Type 0} (bytes : B → List ℕ) (p s q : ℕ) (entries all : List Place) (r : Result B E) → entries ≡ all → IfOk r (λ b. IsJoinIndexFile p s q (bytes b) entries) → IfOk r (λ b. bytes b ≡ join_index_text p s q all)
text_of bytes p s q entries all (Ok b) e h = h.text ∙ ap (join_index_text p s q) e
text_of bytes p s q entries all (Err x) e h = tt

-- ---- one more file

tied : (m n : FileName) (o : Ordering) → name_cmp m n ≡ o → is_eq o ≡ true → m ≡ n
tied m n Less e t = absurd (false≢true t)
tied m n Equal e t = name_cmp-IsAntisymmetric m n e
tied m n Greater e t = absurd (false≢true t)

module _ (all : FileContents) where
  module _ (out : Files) (n : FileName) (bytes : List ℕ) (is : all n ≡ Some bytes) where
    abbrev now : FileName → Option (List ℕ)
    now m = cond (is_eq (name_cmp m n)) (Some bytes) (contents_of out m)

    at : (m : FileName) → contents_of (insert out n bytes) m ≡ now m
    at m = get-insert name_cmp_total out n bytes m

    same_name : (m : FileName) → is_eq (name_cmp m n) ≡ true → contents_of (insert out n bytes) m ≡ all m
    same_name m e = at m ∙ ap (λ b. cond b (Some bytes) (contents_of out m)) e ∙ sym is ∙ ap all (sym (tied m n (name_cmp m n) refl e))

    other_name : (m : FileName) → is_eq (name_cmp m n) ≡ false → contents_of (insert out n bytes) m ≡ contents_of out m
    other_name m e = at m ∙ ap (λ b. cond b (Some bytes) (contents_of out m)) e

    pub put_kept : KeepsWritten all out (insert out n bytes)
    put_kept m h = go (is_eq (name_cmp m n)) refl
      where
        go : (b : Bool) → is_eq (name_cmp m n) ≡ b → HasWritten all (insert out n bytes) m
        go true e = same_name m e
        go false e = other_name m e ∙ h

    pub put_there : HasWritten all (insert out n bytes) n
    put_there = go (is_eq (name_cmp n n)) refl
      where
        self : is_eq (name_cmp n n) ≡ true
        self = ap is_eq (Rattle.std.specs.Cmp.tied_itself name_cmp_total n)

        go : (b : Bool) → is_eq (name_cmp n n) ≡ b → HasWritten all (insert out n bytes) n
        go true e = same_name n e
        go false e = absurd (false≢true (sym e ∙ self))

  pub one_put : (out new : Files) (n : FileName) (bytes : List ℕ) → all n ≡ Some bytes → new ≡ insert out n bytes → KeepsWritten all out new × HasWritten all new n
  one_put out new n bytes is e = (subst (KeepsWritten all out) (sym e) (put_kept out n bytes is), subst (λ f. HasWritten all f n) (sym e) (put_there out n bytes is))
