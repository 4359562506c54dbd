-- What was loaded from a shelf agrees with what is held.
use Rattle.std.proofs.Common.{◌≡◌, ◌⊎◌, inl, inr, ⊎_elim, Bool, true, false, ◌||◌, List, [], ◌∷◌, ℕ, Result, Ok, Err, IfOk, refl, sym, ap, subst, ◌∙◌}
use Rattle.std.specs.Prelude.{IfErr}
use Rattle.std.specs.List.{list_any}
use Rattle.std.specs.Ordering.{eq_by_cmp}
use Rattle.cs_schema.specs.CatalogData.{CatalogData}
use Rattle.cs_schema.specs.CatalogRules.{IsCatalog}
use Rattle.cs_schema.specs.FileNames.{name_cmp, surviving, Survives}
use Rattle.cs_schema.specs.Losses.{Sites}
use Rattle.cs_schema.specs.Lists.{IsIn}
use Rattle.cs_schema.specs.declared.file_name.FileName.{FileName}
use Rattle.cs_schema.proofs.Surviving.{surviving_names}
use Rattle.cs_store.specs.FileSet.{Files, contents_of}
use Rattle.cs_shelf.specs.Shelf.{IsFoundIn, IsReadOf}
use Rattle.cs_schema.proofs.Ascending.{false≢true}
use Rattle.cs_shelf.proofs.Names.{same_name, ties_itself}
use Rattle.cs_recovery.specs.Claims.{SameSurvivors}
use Rattle.cs_store.specs.declared.fault.Fault.{Fault}
use Rattle.cs_recovery.specs.Claims.{IsCheckAnswer}
use Rattle.cs_store.specs.Fault.{MemoryOr}
use Rattle.cs_restore.specs.Refusals.{IsRefusedBack}
use Rattle.cs_restore.specs.Restoring.{AreSurvivorsRead, ReadsBack}

or_true : (b : Bool) → (b || true) ≡ true
or_true true = refl
or_true false = refl

-- a name of a list is found among its names
pub listed : (n : FileName) (names : List FileName) → IsIn n names → list_any (λ y. eq_by_cmp name_cmp y n) names ≡ true
listed n [] is = absurd is
listed n (m ∷ names) is = ⊎_elim
    (λ same. ap (λ b. b || list_any (λ y. eq_by_cmp name_cmp y n) names) (ap (λ x. eq_by_cmp name_cmp x n) (sym same) ∙ ties_itself n))
    (λ later. ap (λ b. eq_by_cmp name_cmp m n || b) (listed n names later) ∙ or_true (eq_by_cmp name_cmp m n)) is

either : (b c : Bool) → (b || c) ≡ true → (b ≡ true) ⊎ (c ≡ true)
either true c e = inl refl
either false c e = inr e

-- and what is found there is one of them
pub found_in : (n : FileName) (names : List FileName) → list_any (λ y. eq_by_cmp name_cmp y n) names ≡ true → IsIn n names
found_in n [] found = absurd (false≢true found)
found_in n (m ∷ names) found =
    ⊎_elim (λ same. inl (sym (same_name m n same))) (λ later. inr (found_in n names later)) (either (eq_by_cmp name_cmp m n) (list_any (λ y. eq_by_cmp name_cmp y n) names) found)

-- nothing is lost where no site is
none_lost : (C : CatalogData) → IsCatalog C → (L : Sites) (n : FileName) → Survives C L n → IsIn n (surviving C [])
none_lost C cat L n survives = (surviving_names C [] cat n).1 (survives.0, refl)

pub same_survivors : (C : CatalogData) → IsCatalog C → (L : Sites) (files : Files) (unreadable : List FileName) (d : Files) → IsReadOf (surviving C []) files unreadable d → AreSurvivorsRead C L unreadable
    → SameSurvivors C L (contents_of files) (contents_of d)
same_survivors C cat L files unreadable d read readable n survives = sym (read.all n (none_lost C cat L n survives) (readable n survives))

-- what was read back with no loss, and checked
pub reads_back : (C : CatalogData) (held : Files → Type 0) (L : Sites) (read : Files) → L ≡ [] → IsFoundIn held (surviving C L) read → (r : Result ℕ Fault) → IsCheckAnswer C (contents_of read) 0 r → IfOk r (ReadsBack C held)
reads_back C held L read none found (Ok rows) answer = record { read = read; found = subst (λ l. IsFoundIn held (surviving C l) read) none found; accepted = answer }
reads_back C held L read none found (Err e) answer = tt

-- what was read back with no loss, and refused
pub refused_back : (C : CatalogData) (held : Files → Type 0) (L : Sites) (read : Files) → L ≡ [] → IsFoundIn held (surviving C L) read → (Failed : Fault → Type 0) (r : Result ℕ Fault) → IsCheckAnswer C (contents_of read) 0 r
    → IfErr r (λ f. MemoryOr f (Failed f ⊎ IsRefusedBack C held f))
refused_back C held L read none found Failed (Ok rows) answer = tt
refused_back C held L read none found Failed (Err e) answer =
    ⊎_elim (λ memory. inl memory) (λ refused. inr (inr (record { read = read; found = subst (λ l. IsFoundIn held (surviving C l) read) none found; refused = refused }))) answer
