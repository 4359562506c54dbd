-- Names that were given stay given as more is called.
use Rattle.std.proofs.Common.{◌≡◌, ◌+◌, [], ◌∷◌, ◌++◌, ℕ, List, Some, length, sym, ap, subst, ◌∙◌, inl, inr, arith, string_bytes}
use Rattle.std.specs.List.{slice_get}
use Rattle.std.proofs.lemmas.Bool.{cases_lt}
use Rattle.std.proofs.lemmas.Option.{same_Some}
use Rattle.cs_schema.specs.declared.file_name.FileName.{FileName}
use Rattle.cs_file_system.specs.Calls.{AddsAll, Always, Call, Calls, Extends, WasCalled, rename, sync_folder}
use Rattle.cs_folders.specs.Naming.{AreNamed, AreSitesNamed, AreWhole, WasNamed, catalog_at, file_named}
use Rattle.cs_folders.specs.Paths.{beside_of, file_at}
use Rattle.cs_folders.specs.declared.new_site.NewSite.{NewSite}

called_before : (later before : Calls) (call : Call) → WasCalled call before → WasCalled call (later ++ before)
called_before [] before call was = was
called_before (last ∷ later) before call was = inr (called_before later before call was)

pub extends_on : (a b c : Calls → Type 0) → Extends a b → Extends b c → Extends a c
extends_on a b c f g = λ calls made. let x = g calls made in let y = f x.0 x.1 in (y.0, y.1, λ call was. x.2 call (y.2 call was))

pub extends_by : (more : Calls) (a b : Calls → Type 0) → AddsAll more a b → Extends a b
extends_by more a b f = λ calls made. let x = f calls made in (x.0, x.1, λ call was. subst (WasCalled call) (sym x.2) (called_before more x.0 call was))

-- what stands at two places that are the same is the same
one_place : {X : Type 0} (xs : List X) (i k : ℕ) (x y : X) → i ≡ k → slice_get xs i ≡ Some x → slice_get xs k ≡ Some y → x ≡ y
one_place xs i k x y same at is = same_Some x y (sym at ∙ ap (slice_get xs) same ∙ is)

-- the names so far stay, and one more is given
pub one_more : (folder : List ℕ) (names : List FileName) (i : ℕ) (name : FileName) (old new : Calls → Type 0) → slice_get names i ≡ Some name → Always old (AreNamed folder names i) → AddsAll (file_named (file_at folder name)) old new → Always new (AreNamed folder names (i + 1))
one_more folder names i name old new at first adds = λ calls made k n less is.
    let x = adds calls made in
    subst (WasNamed (file_at folder n)) (sym x.2) (elim (cases_lt k i) [
      | inl below ↦ inr (inr (inr (inr (first x.0 x.1 k n below is))))
      | inr above ↦
          (let same : i ≡ k = omega (arith, less, above) in
          let path : file_at folder n ≡ file_at folder name = ap (file_at folder) (sym (one_place names i k name n same at is)) in
          inl (ap (λ p. rename (beside_of p) p) path))
    ])

-- the files stay named while the copies of the catalog are
pub files_named : (sites : List NewSite) (count : ℕ) (calls : Calls) → AreWhole sites count calls → AreSitesNamed sites (length sites) calls
files_named sites count calls whole = λ k site less at j name within is.
    subst (WasNamed (file_at (string_bytes site.path) name)) (sym whole.last) (called_before whole.later whole.before _ (whole.files k site less at j name within is))

-- the copies so far stay named, and one more is
pub one_copy_more : (sites : List NewSite) (i : ℕ) (site : NewSite) (old new : Calls → Type 0) → slice_get sites i ≡ Some site → Always old (AreWhole sites i) → AddsAll (sync_folder (string_bytes site.path) ∷ file_named (catalog_at (string_bytes site.path))) old new → Always new (AreWhole sites (i + 1))
one_copy_more sites i site old new at first adds = λ calls made.
    let x = adds calls made in
    let whole = first x.0 x.1 in
    let more = sync_folder (string_bytes site.path) ∷ file_named (catalog_at (string_bytes site.path)) in
    record {
      before = whole.before;
      later = more ++ whole.later;
      last = x.2 ∙ ap (λ calls. more ++ calls) whole.last;
      files = whole.files;
      catalogs = λ k other less is. elim (cases_lt k i) [
        | inl below ↦ inr (inr (inr (inr (inr (whole.catalogs k other below is)))))
        | inr above ↦
            (let same : i ≡ k = omega (arith, less, above) in
            let path : catalog_at (string_bytes other.path) ≡ catalog_at (string_bytes site.path) = ap (λ s. catalog_at (string_bytes s.path)) (sym (one_place sites i k site other same at is)) in
            inr (inl (ap (λ p. rename (beside_of p) p) path)))
      ];
    }
