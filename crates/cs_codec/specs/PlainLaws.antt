-- No two lists have the same body under the plain encoding.
use Rattle.std.proofs.Common.{◌≡◌, ℕ, ◌<◌, ◌≤◌, List, [], ◌∷◌, ◌++◌, length, refl, sym, ap, ◌∙◌, append_assoc, arith}
use Rattle.std.specs.List.{AllByRecursion}
use Rattle.std.proofs.lemmas.List.{append-nil, length-append}
use Rattle.cs_codec.specs.Cells.{BeginsOne}
use Rattle.cs_codec.specs.Texts.{plain_text}

-- the bytes of a cell are not empty
some_text : {C : Type 0} (bytes : C → List ℕ) (some : (x : C) → 0 < length (bytes x)) (c : C) (w : List ℕ) → [] ≡ bytes c ++ w → ⊥
some_text bytes some c w e =
    let lens : length {A = ℕ} [] ≡ length (bytes c ++ w) = ap length e in
    omega (arith, length-append (bytes c) w, some c)

-- `others` begins with the cells that were read, and w is the bytes of its rest
pub record CellsGoOn {C : Type 0} (bytes : C → List ℕ) (cells others : List C) (w : List ℕ) : Type 0 where
  pub rest : List C
  pub parts : others ≡ cells ++ rest
  pub text_is : w ≡ plain_text bytes rest

pub cells_go_on : {C : Type 0} (bytes : C → List ℕ) (is_cell : C → Type 0) (one : BeginsOne bytes is_cell) (some : (x : C) → 0 < length (bytes x)) (cells others : List C) (w : List ℕ) → AllByRecursion is_cell cells → AllByRecursion is_cell others → plain_text bytes others ≡ plain_text bytes cells ++ w → CellsGoOn bytes cells others w
cells_go_on bytes is_cell one some [] others w hc ho e = record { rest = others; parts = refl; text_is = sym e }
cells_go_on bytes is_cell one some (c ∷ cells) [] w hc ho e =
    absurd (some_text bytes some c (plain_text bytes cells ++ w) (e ∙ append_assoc (bytes c) (plain_text bytes cells) w))
cells_go_on {C} bytes is_cell one some (c ∷ cells) (o ∷ others) w hc ho e =
    let first = one o c (plain_text bytes others) (plain_text bytes cells ++ w) ho.0 hc.0 (e ∙ append_assoc (bytes c) (plain_text bytes cells) w) in
    let deeper = cells_go_on bytes is_cell one some cells others w hc.1 ho.1 first.1 in
    record {
      rest = deeper.rest;
      parts = ap (λ (z : C). z ∷ others) first.0 ∙ ap (λ (zs : List C). c ∷ zs) deeper.parts;
      text_is = deeper.text_is;
    }

pub plain_one_list : {C : Type 0} (bytes : C → List ℕ) (is_cell : C → Type 0) (one : BeginsOne bytes is_cell) (some : (x : C) → 0 < length (bytes x)) (x y : List C) → length x ≤ 1048576 → length y ≤ 1048576 → AllByRecursion is_cell x → AllByRecursion is_cell y → plain_text bytes x ≡ plain_text bytes y → x ≡ y
plain_one_list {C} bytes is_cell one some x y lx ly hx hy e =
    let on = cells_go_on bytes is_cell one some x y [] hx hy (sym e ∙ sym (append-nil (plain_text bytes x))) in
    by_rest on.rest on.parts on.text_is
  where
    by_rest : (rest : List C) → y ≡ x ++ rest → [] ≡ plain_text bytes rest → x ≡ y
    by_rest [] p t = sym (p ∙ append-nil x)
    by_rest (r ∷ rest) p t = absurd (some_text bytes some r (plain_text bytes rest) t)
