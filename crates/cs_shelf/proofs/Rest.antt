-- What a save of all names but one leaves.
use Rattle.std.proofs.Common.{◌≡◌, ◌⊎◌, inl, inr, ℕ, Bool, true, false, cond, if◌then◌else◌, List, [], ◌∷◌, Option, Some, None, refl, sym, ap, subst, ◌∙◌}
use Rattle.std.specs.FinMap.{empty, entries, find, insert, get-empty, get-insert, get-entries}
use Rattle.std.specs.Option.{option_or}
use Rattle.std.specs.Ordering.{eq_by_cmp}
use Rattle.cs_schema.specs.declared.file_name.FileName.{FileName}
use Rattle.cs_schema.specs.FileNames.{name_cmp}
use Rattle.cs_schema.specs.NameOrder.{name_cmp_total}
use Rattle.cs_store.specs.FileSet.{Files, contents_of}
use Rattle.cs_store.specs.Save.{Puts, PutsInTurn}
use Rattle.cs_shelf.specs.Shelf.{Lacks}
use Rattle.cs_shelf.specs.MemoryRest.{AddsUnlessGone, brought}
use Rattle.cs_shelf.specs.declared.memory.rest.Rest.{Rest}
use Rattle.cs_shelf.proofs.Names.{same_name, ties_itself}

or_none : (o : Option (List ℕ)) → option_or o None ≡ o
or_none None = refl
or_none (Some b) = refl

or_or : (o p q : Option (List ℕ)) → option_or (option_or o p) q ≡ option_or o (option_or p q)
or_or None p q = refl
or_or (Some b) p q = refl

brought_none : (t : Bool) → (if t then None else None) ≡ (let none : Option (List ℕ) = None in none)
brought_none true = refl
brought_none false = refl

-- one file, and then the others
brought_then : (gone here : Bool) (b : List ℕ) (rest : Option (List ℕ)) → option_or (if gone then None else (if here then Some b else None)) (if gone then None else rest) ≡ (if gone then None else cond here (Some b) rest)
brought_then true here b rest = refl
brought_then false true b rest = refl
brought_then false false b rest = refl

put_all : (s : Rest) (puts : Puts) (t : Rest) → PutsInTurn AddsUnlessGone s puts t → (n : FileName) → contents_of t.files n ≡ option_or (contents_of s.files n) (brought s.gone n (find name_cmp n puts))
put_all s [] t same n = ap (λ u. contents_of u.files n) same ∙ sym (ap (option_or (contents_of s.files n)) (brought_none (eq_by_cmp name_cmp n s.gone)) ∙ or_none (contents_of s.files n))
put_all s ((m, b) ∷ rest) t run n =
    let u = run.0 in
    let one = run.1 in
    let later : contents_of t.files n ≡ option_or (contents_of u.files n) (brought u.gone n (find name_cmp n rest)) = put_all u rest t run.2 n in
    later
    ∙ ap (λ g. option_or (contents_of u.files n) (brought g n (find name_cmp n rest))) one.gone
    ∙ ap (λ o. option_or o (brought s.gone n (find name_cmp n rest))) (one.files n)
    ∙ or_or (contents_of s.files n) (brought s.gone n (if eq_by_cmp name_cmp n m then Some b else None)) (brought s.gone n (find name_cmp n rest))
    ∙ ap (option_or (contents_of s.files n)) (brought_then (eq_by_cmp name_cmp n s.gone) (eq_by_cmp name_cmp n m) b (find name_cmp n rest))

-- where all files were put in turn, from none
pub lacks_one : (files : Files) (s t : Rest) (name : FileName) → s.files ≡ empty → s.gone ≡ name → PutsInTurn AddsUnlessGone s (entries files) t → Lacks name files t.files
lacks_one files s t name none is run = record {
  here = at name ∙ ap (λ b. if b then None else contents_of files name) (ties_itself name);
  others = λ n. go n (eq_by_cmp name_cmp n name) refl;
}
  where
    at : (n : FileName) → contents_of t.files n ≡ (if eq_by_cmp name_cmp n name then None else contents_of files n)
    at n =
        put_all s (entries files) t run n
        ∙ ap (λ f. option_or (contents_of f n) (brought s.gone n (find name_cmp n (entries files)))) none
        ∙ ap (λ o. option_or o (brought s.gone n (find name_cmp n (entries files)))) (get-empty name_cmp n)
        ∙ ap (λ g. brought g n (find name_cmp n (entries files))) is
        ∙ ap (λ o. brought name n o) (sym (get-entries files n))

    go : (n : FileName) (b : Bool) → eq_by_cmp name_cmp n name ≡ b → (contents_of t.files n ≡ contents_of files n) ⊎ (n ≡ name)
    go n true e = inr (same_name n name e)
    go n false e = inl (at n ∙ ap (λ b. if b then None else contents_of files n) e)

-- the mark changes no file
pub marked_same : (files : Files) (s t : Rest) (name : FileName) → t.files ≡ s.files → Lacks name files s.files → Lacks name files t.files
marked_same files s t name same lacks = subst (λ f. Lacks name files f) (sym same) lacks

module _ (s t : Rest) (name : FileName) (bytes : List ℕ) where
  abbrev Adds : Files → Type 0
  Adds files = (n : FileName) → contents_of files n ≡ option_or (contents_of s.files n) (brought s.gone n (if eq_by_cmp name_cmp n name then Some bytes else None))

  -- the name is the one that is gone
  pub passed_over : eq_by_cmp name_cmp name s.gone ≡ true → Adds s.files
  passed_over is n = sym (ap (option_or (contents_of s.files n)) (go (eq_by_cmp name_cmp n s.gone) (eq_by_cmp name_cmp n name) refl refl) ∙ or_none (contents_of s.files n))
    where
      go : (g h : Bool) → eq_by_cmp name_cmp n s.gone ≡ g → eq_by_cmp name_cmp n name ≡ h → (if g then None else (if h then Some bytes else None)) ≡ None
      go true h eg eh = refl
      go false false eg eh = refl
      go false true eg eh =
          let same : n ≡ name = same_name n name eh in
          let both : true ≡ false = sym is ∙ sym (ap (λ m. eq_by_cmp name_cmp m s.gone) same) ∙ eg in
          absurd (cc)

  -- the name has a file
  pub had_one : (b : List ℕ) → contents_of s.files name ≡ Some b → Adds s.files
  had_one b has n = go (eq_by_cmp name_cmp n name) refl
    where
      go : (h : Bool) → eq_by_cmp name_cmp n name ≡ h → contents_of s.files n ≡ option_or (contents_of s.files n) (brought s.gone n (if h then Some bytes else None))
      go false eh = sym (ap (option_or (contents_of s.files n)) (brought_none (eq_by_cmp name_cmp n s.gone)) ∙ or_none (contents_of s.files n))
      go true eh =
          let here : contents_of s.files n ≡ Some b = ap (contents_of s.files) (same_name n name eh) ∙ has in
          here ∙ sym (ap (λ o. option_or o (brought s.gone n (Some bytes))) here)

  -- the file was put
  pub put_new : eq_by_cmp name_cmp name s.gone ≡ false → contents_of s.files name ≡ None → t.files ≡ insert s.files name bytes → Adds t.files
  put_new other none put n = ap (λ f. contents_of f n) put ∙ get-insert name_cmp_total s.files name bytes n ∙ go (eq_by_cmp name_cmp n name) refl
    where
      go : (h : Bool) → eq_by_cmp name_cmp n name ≡ h → cond h (Some bytes) (contents_of s.files n) ≡ option_or (contents_of s.files n) (brought s.gone n (if h then Some bytes else None))
      go false eh = sym (ap (option_or (contents_of s.files n)) (brought_none (eq_by_cmp name_cmp n s.gone)) ∙ or_none (contents_of s.files n))
      go true eh =
          let same : n ≡ name = same_name n name eh in
          let none_here : contents_of s.files n ≡ None = ap (contents_of s.files) same ∙ none in
          let kept : eq_by_cmp name_cmp n s.gone ≡ false = ap (λ m. eq_by_cmp name_cmp m s.gone) same ∙ other in
          sym (ap (λ o. option_or o (brought s.gone n (Some bytes))) none_here ∙ ap (λ g. if g then None else Some bytes) kept)
