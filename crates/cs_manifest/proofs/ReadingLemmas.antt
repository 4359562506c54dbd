-- How a manifest goes on from one line to the next.
use Rattle.std.proofs.Common.{◌≡◌, ℕ, ◌+◌, ◌<◌, suc, Bool, true, false, cond, List, [], ◌∷◌, ◌++◌, length, map, take, drop, Option, Some, None, is_some, IsSome, get_or, refl, subst, sym, ap, ◌∙◌, arith, drop-cons}
use Rattle.std.proofs.lemmas.List.{map-append, take-append-drop, length-map, length-take-le}
use Rattle.std.proofs.lemmas.List.Elements.{filter_map-append}
use Rattle.std.proofs.lemmas.Slice.Eq.{bytes_eq-Decides}
use Rattle.std.proofs.lemmas.Bool.{false≢true, false_from_ne_true}
use Rattle.std.specs.List.{AllByRecursion, IsDistinct, cons_option}
use Rattle.std.specs.Map.{lookup}
use Rattle.std.specs.Str.{bytes_eq}
use denote.Ref.{Bor}
use Rattle.cs_manifest.specs.Lines.{entry_in}
use Rattle.cs_manifest.specs.Reading.{digest_in, Adds, said, digest_said, AreLinesOf, StopsAt}
use Rattle.cs_manifest.specs.declared.manifest.Manifest.{Manifest}

abbrev pub Entry : Type 0
Entry = List ℕ × List ℕ

all-push : {A : Type 0} (P : A → Type 0) (xs : List A) (x : A) → AllByRecursion P xs → P x → AllByRecursion P (xs ++ x ∷ [])
all-push P [] x h p = (p, tt)
all-push P (y ∷ ys) x h p = (h.0, all-push P ys x h.1 p)

-- a path that was not found differs from the first, and is not found after it
not_found : (b : Bool) (v : List ℕ) (rest : Option (List ℕ)) → cond b (Some v) rest ≡ None → (b ≡ false) × (rest ≡ None)
not_found true v rest h = absurd cc
not_found false v rest h = (refl, h)

bytes_eq-sym-false : (x y : List ℕ) → bytes_eq x y ≡ false → bytes_eq y x ≡ false
bytes_eq-sym-false x y h = false_from_ne_true (bytes_eq y x) (λ t. false≢true (sym h ∙ (bytes_eq-Decides x y).1 (sym ((bytes_eq-Decides y x).0 t))))

apart_from : (es : List Entry) (path : List ℕ) → lookup (bytes_eq path) es ≡ None → AllByRecursion (λ y. bytes_eq y path ≡ false) (map (λ e. e.0) es)
apart_from [] path h = tt
apart_from (e ∷ es) path h =
    let parts = not_found (bytes_eq path e.0) e.1 (lookup (bytes_eq path) es) h in
    (bytes_eq-sym-false path e.0 parts.0, apart_from es path parts.1)

distinct-push : (ks : List (List ℕ)) (k : List ℕ) → IsDistinct bytes_eq ks → AllByRecursion (λ y. bytes_eq y k ≡ false) ks → IsDistinct bytes_eq (ks ++ k ∷ [])
unfolding IsDistinct
distinct-push [] k d a = (tt, tt)
distinct-push (x ∷ xs) k d a = (all-push (λ y. bytes_eq x y ≡ false) xs k d.0 a.0, distinct-push xs k d.1 a.1)

lookup-push-none : (test : List ℕ → Bool) (es : List Entry) (e : Entry) → lookup test es ≡ None → lookup test (es ++ e ∷ []) ≡ cond (test e.0) (Some e.1) None
lookup-push-none test [] e h = refl
lookup-push-none test (x ∷ es) e h =
    let parts = not_found (test x.0) x.1 (lookup test es) h in
    ap (λ b. cond b (Some x.1) (lookup test (es ++ e ∷ []))) parts.0 ∙ lookup-push-none test es e parts.1

lookup-push-fails : (test : List ℕ → Bool) (es : List Entry) (e : Entry) → test e.0 ≡ false → lookup test (es ++ e ∷ []) ≡ lookup test es
lookup-push-fails test [] e h = ap (λ b. cond b (Some e.1) None) h
lookup-push-fails test (x ∷ es) e h = ap (cond (test x.0) (Some x.1)) (lookup-push-fails test es e h)

-- the digest of any path, after one more entry of a path that had none
lookup-push : (es : List Entry) (e : Entry) (q : List ℕ) → lookup (bytes_eq e.0) es ≡ None → (b : Bool) → bytes_eq e.0 q ≡ b → lookup (bytes_eq q) (es ++ e ∷ []) ≡ cond b (Some e.1) (lookup (bytes_eq q) es)
lookup-push es e q none true is =
    subst (λ p. lookup (bytes_eq p) (es ++ e ∷ []) ≡ Some e.1) ((bytes_eq-Decides e.0 q).0 is)
    (lookup-push-none (bytes_eq e.0) es e none ∙ ap (λ b. cond b (Some e.1) None) ((bytes_eq-Decides e.0 e.0).1 refl))
lookup-push es e q none false is = lookup-push-fails (bytes_eq q) es e (bytes_eq-sym-false e.0 q is)

said-push : (texts : List (List ℕ)) (line : List ℕ) (e : Entry) → entry_in line ≡ Some e → said (texts ++ line ∷ []) ≡ said texts ++ e ∷ []
said-push texts line e is = filter_map-append entry_in texts (line ∷ []) ∙ ap (λ o. said texts ++ cons_option o []) is

module _ (texts : List (List ℕ)) (m : Manifest) (so_far : AreLinesOf texts m) where
  -- one more line
  pub read_more : (line path digest : List ℕ) (n : Manifest) → entry_in line ≡ Some (path, digest) → Adds (digest_in m) path digest true (digest_in n) → AreLinesOf (texts ++ line ∷ []) n
  read_more line path digest n is added =
      let none : digest_said texts path ≡ None = sym (so_far.says path) ∙ added.0 in
      record {
        lines_are = record {
          all = all-push (λ text. IsSome (entry_in text)) texts line so_far.lines_are.all (ap is_some is);
          once = subst (IsDistinct bytes_eq) (sym (map-append (λ (e : Entry). e.0) (said texts) ((path, digest) ∷ [])) ∙ ap (map (λ (e : Entry). e.0)) (sym (said-push texts line (path, digest) is)))
              (distinct-push (map (λ (e : Entry). e.0) (said texts)) path so_far.lines_are.once (apart_from (said texts) path none));
        };
        says = λ q. added.1 q ∙ ap (cond (bytes_eq path q) (Some digest)) (so_far.says q) ∙ sym (lookup-push (said texts) (path, digest) q none (bytes_eq path q) refl) ∙ ap (lookup (bytes_eq q)) (sym (said-push texts line (path, digest) is));
      }

-- no line says nothing
pub no_lines : (m : Manifest) → ((path : List ℕ) → digest_in m path ≡ None) → AreLinesOf [] m
unfolding IsDistinct
no_lines m none = record { lines_are = record { all = tt; once = tt }; says = none }

-- the line at which reading stops
pub stops_at : (xs : List (Bor (List ℕ))) (i : ℕ) (d : Bor (List ℕ)) (m : Manifest) → i < length xs → AreLinesOf (map (λ x. x.now) (take i xs)) m → StopsAt (map (λ x. x.now) xs) (i + 1) (get_or xs i d).now (map (λ x. x.now) (take i xs))
stops_at xs i d m within so_far = record {
  later = map (λ x. x.now) (drop (suc i) xs);
  split = ap (map (λ (x : Bor (List ℕ)). x.now)) (sym (take-append-drop i xs) ∙ ap (λ l. take i xs ++ l) (drop-cons xs i d within)) ∙ map-append (λ (x : Bor (List ℕ)). x.now) (take i xs) (get_or xs i d ∷ drop (suc i) xs);
  number = ap (λ n. n + 1) (sym (length-map (take i xs) (λ (x : Bor (List ℕ)). x.now) ∙ length-take-le i xs (omega (arith, within))));
  lines_are = so_far.lines_are;
}
