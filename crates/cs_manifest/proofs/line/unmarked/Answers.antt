use Rattle.std.proofs.Common.{◌≡◌, ◌≢◌, ℕ, List, [], ◌∷◌, None, refl, ap, arith, lit<}
use Rattle.std.proofs.lemmas.Str.Pattern.{strip_prefix_char}
use Rattle.cs_manifest.specs.Lines.{path_after}
use Rattle.cs_manifest.proofs.line.unmarked.Goals as goal

-- what begins with neither mark has no path
unmarked_none : (rest : List ℕ) → ((path : List ℕ) → rest ≢ 32 ∷ path) → ((path : List ℕ) → rest ≢ 42 ∷ path) → path_after rest ≡ None
unmarked_none [] no_space no_star = refl
unmarked_none (mark ∷ []) no_space no_star = refl
unmarked_none (mark ∷ b ∷ path) no_space no_star =
    let space : mark ≢ 32 = λ e. no_space (b ∷ path) (ap (λ m. m ∷ b ∷ path) e) in
    let star : mark ≢ 42 = λ e. no_star (b ∷ path) (ap (λ m. m ∷ b ∷ path) e) in
    grind (arith, space, star)

pub returns-in-None-strip_prefix : goal.returns-in-None-strip_prefix
returns-in-None-strip_prefix c =
    unmarked_none c.args.rest.now (strip_prefix_char 32 c.args.rest.now None c.in-None.ensures.cases (lit< tt))
    (strip_prefix_char 42 c.args.rest.now None c.in-None-strip_prefix.ensures.cases (lit< tt))
