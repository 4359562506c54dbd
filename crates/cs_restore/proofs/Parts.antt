-- Files that were put in place in part, and one more.
use Rattle.std.proofs.Common.{◌≡◌, ◌⊎◌, inl, inr, ⊎_elim, ℕ, ◌+◌, ◌<◌, ◌≤◌, Bool, true, false, cond, List, Option, Some, None, length, refl, sym, ap, ◌∙◌, slice_get, arith}
use Rattle.std.proofs.lemmas.Bool.{cases_lt}
use Rattle.std.proofs.lemmas.Option.{slice_get_within}
use Rattle.std.specs.FinMap.{get-insert}
use Rattle.std.specs.Option.{option_or}
use Rattle.std.specs.Ordering.{eq_by_cmp}
use Rattle.cs_schema.specs.declared.file_name.FileName.{FileName}
use Rattle.cs_schema.specs.FileNames.{name_cmp}
use Rattle.cs_schema.specs.NameOrder.{name_cmp_total}
use Rattle.cs_store.specs.FileSet.{Files, contents_of}
use Rattle.cs_shelf.specs.Shelf.{Has, IsAmong, MayHave}
use Rattle.cs_shelf.proofs.Names.{same_name, ties_itself}
use Rattle.cs_recovery.specs.Claims.{put_over}
use Rattle.cs_restore.specs.Placing.{HasOne, IsPartOf, IsPutOver, IsThere, MayHaveOne, TouchesOnly}

-- putting over twice is putting over once
over_twice : (o f : Option (List ℕ)) → option_or o (option_or o f) ≡ option_or o f
over_twice None f = refl
over_twice (Some b) f = refl

-- a part, put in place again whole, is what the whole at once would be
pub again : (out d c : Files) (n : FileName) → IsPartOf out d c → put_over (contents_of out) (contents_of c) n ≡ put_over (contents_of out) (contents_of d) n
again out d c n part = ⊎_elim
    (λ same. ap (option_or (contents_of out n)) same)
    (λ new. ap (option_or (contents_of out n)) new ∙ over_twice (contents_of out n) (contents_of d n)) (part n)

pub part_none : (out d : Files) → IsPartOf out d d
part_none out d n = inl refl

-- the set's file was put under its name
pub one_put : (out d c : Files) (name : FileName) (bytes : List ℕ) → contents_of out name ≡ Some bytes → Has name bytes d c → HasOne out name d c
one_put out d c name bytes is put = record {
  here = at name true (ties_itself name) ∙ sym (ap (λ o. option_or o (contents_of d name)) is);
  others = λ n. go n (eq_by_cmp name_cmp n name) refl;
}
  where
    at : (n : FileName) (t : Bool) → eq_by_cmp name_cmp n name ≡ t → contents_of c n ≡ cond t (Some bytes) (contents_of d n)
    at n t e = ap (λ f. contents_of f n) put ∙ get-insert name_cmp_total d name bytes n ∙ ap (λ b. cond b (Some bytes) (contents_of d n)) e

    go : (n : FileName) (t : Bool) → eq_by_cmp name_cmp n name ≡ t → (contents_of c n ≡ contents_of d n) ⊎ (n ≡ name)
    go n true e = inr (same_name n name e)
    go n false e = inl (at n false e)

pub may_put : (out d c : Files) (name : FileName) (bytes : List ℕ) → contents_of out name ≡ Some bytes → MayHave name bytes d c → MayHaveOne out name d c
may_put out d c name bytes is may = ⊎_elim (λ same. inl (λ n. ap (λ f. contents_of f n) same)) (λ put. inr (one_put out d c name bytes is put)) may

-- nothing is to be put
pub none_put : (out d : Files) (name : FileName) → contents_of out name ≡ None → HasOne out name d d
none_put out d name none = record { here = sym (ap (λ o. option_or o (contents_of d name)) none); others = λ n. inl refl }

part_one : (out d c e : Files) (name : FileName) → IsPartOf out d c → HasOne out name c e → IsPartOf out d e
part_one out d c e name part one n = ⊎_elim
    (λ same. ⊎_elim (λ old. inl (same ∙ old)) (λ new. inr (same ∙ new)) (part n))
    (λ is. inr (ap (contents_of e) is ∙ one.here ∙ again out d c name part ∙ sym (ap (put_over (contents_of out) (contents_of d)) is)))
    (one.others n)

pub part_more : (out d c e : Files) (name : FileName) → IsPartOf out d c → MayHaveOne out name c e → IsPartOf out d e
part_more out d c e name part may = ⊎_elim
    (λ same n. ⊎_elim (λ old. inl (same n ∙ old)) (λ new. inr (same n ∙ new)) (part n))
    (λ one. part_one out d c e name part one) may

-- the files of the first i names stand in place, and none in part
pub record HasFirst (out : Files) (names : List FileName) (i : ℕ) (d c : Files) : Type 0 where
  pub part : IsPartOf out d c
  pub first : (j : ℕ) (n : FileName) → j < i → slice_get names j ≡ Some n → contents_of c n ≡ put_over (contents_of out) (contents_of d) n
  pub touched : (n : FileName) → (contents_of c n ≡ contents_of d n) ⊎ IsAmong names n

pub first_none : (out : Files) (names : List FileName) (d : Files) → HasFirst out names 0 d d
first_none out names d = record { part = part_none out d; first = λ j n below at. absurd (omega arith); touched = λ n. inl refl }

pub as_touched : (out : Files) (names : List FileName) (i : ℕ) (d c : Files) → HasFirst out names i d c → TouchesOnly out names d c
as_touched out names i d c so_far = record { part = so_far.part; touched = so_far.touched }

module _ (out : Files) (names : List FileName) (i : ℕ) (name : FileName) (at : slice_get names i ≡ Some name) (d c e : Files) (so_far : HasFirst out names i d c) where
  touched_more : HasOne out name c e → (n : FileName) → (contents_of e n ≡ contents_of d n) ⊎ IsAmong names n
  touched_more one n = ⊎_elim
      (λ same. ⊎_elim (λ old. inl (same ∙ old)) (λ among. inr among) (so_far.touched n))
      (λ is. inr (i, at ∙ ap Some (sym is))) (one.others n)

  pub may_touch : MayHaveOne out name c e → TouchesOnly out names d e
  may_touch may = record {
    part = part_more out d c e name so_far.part may;
    touched = λ n. ⊎_elim (λ same. ⊎_elim (λ old. inl (same n ∙ old)) (λ among. inr among) (so_far.touched n)) (λ one. touched_more one n) may;
  }

  pub first_more : HasOne out name c e → HasFirst out names (i + 1) d e
  first_more one = record { part = part_one out d c e name so_far.part one; first = first; touched = touched_more one }
    where
      named : (n : FileName) → n ≡ name → contents_of e n ≡ put_over (contents_of out) (contents_of d) n
      named n is = ap (contents_of e) is ∙ one.here ∙ again out d c name so_far.part ∙ sym (ap (put_over (contents_of out) (contents_of d)) is)

      first : (j : ℕ) (n : FileName) → j < i + 1 → slice_get names j ≡ Some n → contents_of e n ≡ put_over (contents_of out) (contents_of d) n
      first j n below here = elim (cases_lt j i) [
        | inl before ↦ ⊎_elim (λ same. same ∙ so_far.first j n before here) (named n) (one.others n)
        | inr after ↦
            let same : j ≡ i = omega arith in
            let both : Some n ≡ Some name = sym here ∙ ap (slice_get names) same ∙ at in
            let one_name : n ≡ name = cc in
            named n one_name
      ]

-- all of them stand in place
pub first_all : (out : Files) (names : List FileName) (i : ℕ) (d c : Files) → length names ≤ i → ((n : FileName) → IsAmong names n ⊎ IsThere out d n) → HasFirst out names i d c → IsPutOver out d c
first_all out names i d c enough others so_far n = ⊎_elim
    (λ among. so_far.first among.0 n (omega (arith, slice_get_within names among.0 n among.1)) among.1)
    (λ there. ⊎_elim (λ old. old ∙ sym there) (λ new. new) (so_far.part n)) (others n)
