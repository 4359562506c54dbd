-- Names that were put back in part, and one more.
use Rattle.std.proofs.Common.{◌≡◌, ◌⊎◌, inl, inr, ⊎_elim, ℕ, ◌+◌, ◌<◌, ◌≤◌, Bool, true, false, cond, List, Some, None, length, refl, sym, ap, ◌∙◌, slice_get, arith}
use Rattle.std.proofs.lemmas.Bool.{cases_lt}
use Rattle.std.proofs.lemmas.Option.{slice_get_within}
use Rattle.std.specs.FinMap.{get-insert}
use Rattle.std.specs.Ordering.{eq_by_cmp}
use Rattle.cs_schema.specs.declared.file_name.FileName.{FileName}
use Rattle.cs_schema.specs.FileNames.{name_cmp}
use Rattle.cs_schema.specs.NameOrder.{name_cmp_total}
use Rattle.cs_store.specs.FileSet.{Files, contents_of}
use Rattle.cs_shelf.specs.Shelf.{Has, Lacks, MayHave, MayLack}
use Rattle.cs_shelf.proofs.Names.{same_name, ties_itself}
use Rattle.cs_restore.specs.Undoing.{IsBack, IsOneBack, IsPartBack, MayBeOneBack}

pub part_none : (back : Files) (names : List FileName) (d : Files) → IsPartBack back names d d
part_none back names d n = inl refl

-- the file that stood under the name was put there
pub one_put : (back d c : Files) (name : FileName) (bytes : List ℕ) → contents_of back name ≡ Some bytes → Has name bytes d c → IsOneBack back name d c
one_put back d c name bytes is put = record {
  here = at name true (ties_itself name) ∙ sym is;
  others = λ n. go n (eq_by_cmp name_cmp n name) refl;
}
  where
    at : (n : FileName) (t : Bool) → eq_by_cmp name_cmp n name ≡ t → contents_of c n ≡ cond t (Some bytes) (contents_of d n)
    at n t e = ap (λ f. contents_of f n) put ∙ get-insert name_cmp_total d name bytes n ∙ ap (λ b. cond b (Some bytes) (contents_of d n)) e

    go : (n : FileName) (t : Bool) → eq_by_cmp name_cmp n name ≡ t → (contents_of c n ≡ contents_of d n) ⊎ (n ≡ name)
    go n true e = inr (same_name n name e)
    go n false e = inl (at n false e)

pub may_put : (back d c : Files) (name : FileName) (bytes : List ℕ) → contents_of back name ≡ Some bytes → MayHave name bytes d c → MayBeOneBack back name d c
may_put back d c name bytes is may = ⊎_elim (λ same. inl (λ n. ap (λ f. contents_of f n) same)) (λ put. inr (one_put back d c name bytes is put)) may

-- nothing stood there, and what stands there was taken away
pub one_gone : (back d c : Files) (name : FileName) → contents_of back name ≡ None → Lacks name d c → IsOneBack back name d c
one_gone back d c name none gone = record { here = gone.here ∙ sym none; others = gone.others }

pub may_go : (back d c : Files) (name : FileName) → contents_of back name ≡ None → MayLack name d c → MayBeOneBack back name d c
may_go back d c name none may = ⊎_elim (λ same. inl (λ n. ap (λ f. contents_of f n) same)) (λ gone. inr (one_gone back d c name none gone)) may

-- the first i names have what they had before, and none but these names changed
pub record HasFirst (back : Files) (names : List FileName) (i : ℕ) (d c : Files) : Type 0 where
  pub part : IsPartBack back names d c
  pub first : (j : ℕ) (n : FileName) → j < i → slice_get names j ≡ Some n → contents_of c n ≡ contents_of back n

pub first_none : (back : Files) (names : List FileName) (d : Files) → HasFirst back names 0 d d
first_none back names d = record { part = part_none back names d; first = λ j n below at. absurd (omega arith) }

module _ (back : Files) (names : List FileName) (i : ℕ) (name : FileName) (at : slice_get names i ≡ Some name) (d c e : Files) where
  part_one : IsPartBack back names d c → IsOneBack back name c e → IsPartBack back names d e
  part_one part one n = ⊎_elim
      (λ same. ⊎_elim (λ old. inl (same ∙ old)) (λ new. inr (new.0, same ∙ new.1)) (part n))
      (λ is. inr ((i, at ∙ ap Some (sym is)), ap (contents_of e) is ∙ one.here ∙ sym (ap (contents_of back) is)))
      (one.others n)

  pub part_more : IsPartBack back names d c → MayBeOneBack back name c e → IsPartBack back names d e
  part_more part may = ⊎_elim
      (λ same n. ⊎_elim (λ old. inl (same n ∙ old)) (λ new. inr (new.0, same n ∙ new.1)) (part n))
      (λ one. part_one part one) may

  pub first_more : HasFirst back names i d c → IsOneBack back name c e → HasFirst back names (i + 1) d e
  first_more so_far one = record { part = part_one so_far.part one; first = first }
    where
      named : (n : FileName) → n ≡ name → contents_of e n ≡ contents_of back n
      named n is = ap (contents_of e) is ∙ one.here ∙ sym (ap (contents_of back) is)

      first : (j : ℕ) (n : FileName) → j < i + 1 → slice_get names j ≡ Some n → contents_of e n ≡ contents_of back n
      first j n below here = elim (cases_lt j i) [
        | inl before ↦ ⊎_elim (λ same. same ∙ so_far.first j n before here) (named n) (one.others n)
        | inr after ↦
            let same : j ≡ i = omega arith in
            let both : Some n ≡ Some name = sym here ∙ ap (slice_get names) same ∙ at in
            let one_name : n ≡ name = cc in
            named n one_name
      ]

-- all of them have it
pub first_all : (back : Files) (names : List FileName) (i : ℕ) (d c : Files) → length names ≤ i → HasFirst back names i d c → IsBack back names d c
first_all back names i d c enough so_far = record {
  each = λ n among. so_far.first among.0 n (omega (arith, slice_get_within names among.0 n among.1)) among.1;
  others = λ n. ⊎_elim (λ old. inl old) (λ new. inr new.0) (so_far.part n);
}
