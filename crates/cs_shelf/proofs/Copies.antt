-- How copies are added one by one.
use Rattle.std.proofs.Common.{◌≡◌, ◌⊎◌, inl, inr, ⊎_elim, ℕ, ◌<◌, ◌+◌, List, Bool, true, false, cond, Option, Some, None, IsSome, refl, sym, ap, subst, ◌∙◌, slice_get, arith}
use Rattle.std.proofs.lemmas.Bool.{cases_lt}
use Rattle.std.specs.FinMap.{insert, get-insert}
use Rattle.std.specs.Ordering.{eq_by_cmp}
use Rattle.cs_schema.specs.declared.file_name.FileName.{FileName}
use Rattle.cs_schema.specs.FileNames.{name_cmp}
use Rattle.cs_schema.specs.NameOrder.{name_cmp_total}
use Rattle.cs_store.specs.FileSet.{Files, contents_of}
use Rattle.cs_shelf.specs.Shelf.{AddsCopies, AddsCopiesOf, Follows}
use Rattle.cs_shelf.proofs.Names.{same_name, ties_itself}

pub none_added : (c j k : Files) → k ≡ j → AddsCopiesOf c j k
none_added c j k same n = inl (ap (λ f. contents_of f n) same)

-- under a name, after a file was put: its bytes, or what stood there
put_one : (k : Files) (name : FileName) (bytes : List ℕ) (n : FileName) → (t : Bool) → eq_by_cmp name_cmp n name ≡ t → contents_of (insert k name bytes) n ≡ cond t (Some bytes) (contents_of k n)
put_one k name bytes n t e = get-insert name_cmp_total k name bytes n ∙ ap (λ b. cond b (Some bytes) (contents_of k n)) e

pub put_there : (k k' : Files) (name : FileName) (bytes : List ℕ) → k' ≡ insert k name bytes → contents_of k' name ≡ Some bytes
put_there k k' name bytes put = ap (λ f. contents_of f name) put ∙ put_one k name bytes name true (ties_itself name)

-- the copy of one file was added, where none was kept
pub one_added : (c j k : Files) (name : FileName) (bytes : List ℕ) → contents_of j name ≡ None → contents_of c name ≡ Some bytes → k ≡ insert j name bytes → AddsCopiesOf c j k
one_added c j k name bytes none is put n = go (eq_by_cmp name_cmp n name) refl
  where
    go : (t : Bool) → eq_by_cmp name_cmp n name ≡ t → (contents_of k n ≡ contents_of j n) ⊎ ((contents_of j n ≡ None) × (contents_of k n ≡ contents_of c n))
    go true e =
        let same : n ≡ name = same_name n name e in
        inr (ap (contents_of j) same ∙ none, ap (contents_of k) same ∙ put_there j k name bytes put ∙ sym is ∙ sym (ap (contents_of c) same))
    go false e = inl (ap (λ f. contents_of f n) put ∙ put_one j name bytes n false e)

pub added_then : (c i j k : Files) → AddsCopiesOf c i j → AddsCopiesOf c j k → AddsCopiesOf c i k
added_then c i j k first then n = ⊎_elim (λ same. ⊎_elim (λ was. inl (same ∙ was)) (λ new. inr (new.0, same ∙ new.1)) (first n)) (λ new. ⊎_elim (λ was. inr (sym was ∙ new.0, new.1)) (λ old. inr (old.0, new.1)) (first n)) (then n)

-- a copy stays
pub stays : (c j k : Files) → AddsCopiesOf c j k → (n : FileName) → IsSome (contents_of j n) → IsSome (contents_of k n)
stays c j k added n there = ⊎_elim (λ same. subst IsSome (sym same) there) (λ new. absurd (none_there (subst IsSome new.0 there))) (added n)
  where
    none_there : IsSome (let none : Option (List ℕ) = None in none) → ⊥
    none_there h = cc

-- the first i names that have a file have a copy
pub record CopiedSoFar (names : List FileName) (c j : Files) (i : ℕ) (k : Files) : Type 0 where
  pub added : AddsCopiesOf c j k
  pub each : (m : ℕ) (n : FileName) → m < i → slice_get names m ≡ Some n → IsSome (contents_of c n) → IsSome (contents_of k n)

pub copied_none : (names : List FileName) (c j : Files) → CopiedSoFar names c j 0 j
copied_none names c j = record { added = none_added c j j refl; each = λ m n below at some. absurd (omega arith) }

pub copied_more : (names : List FileName) (c j k k' : Files) (i : ℕ) (name : FileName) → slice_get names i ≡ Some name → CopiedSoFar names c j i k → AddsCopiesOf c k k' → (IsSome (contents_of c name) → IsSome (contents_of k' name)) → CopiedSoFar names c j (i + 1) k'
copied_more names c j k k' i name at so_far added here = record {
  added = added_then c j k k' so_far.added added;
  each = λ m n below there some. elim (cases_lt m i) [
    | inl before ↦ stays c k k' added n (so_far.each m n before there some)
    | inr after ↦
        let same : m ≡ i = omega arith in
        let both : Some n ≡ Some name = sym there ∙ ap (slice_get names) same ∙ at in
        let one : n ≡ name = cc in
        subst (λ x. IsSome (contents_of k' x)) (sym one) (here (subst (λ x. IsSome (contents_of c x)) one some))
  ];
}

-- where what is held and what is kept are known
pub copies_known : (c j k : Files) → AddsCopiesOf c j k → Follows (AddsCopies (λ x. x ≡ c)) (λ x. x ≡ j) (λ x. x ≡ k)
copies_known c j k added x now = (j, refl, λ n. ⊎_elim (λ same. inl (ap (λ f. contents_of f n) now ∙ same)) (λ new. inr (new.0, (c, refl, ap (λ f. contents_of f n) now ∙ new.1))) (added n))
