-- No two lists have the same body under differences.
use Rattle.std.proofs.Common.{◌≡◌, ℕ, zero, suc, ◌+◌, ◌/◌, ◌%◌, ◌^◌, ◌<◌, ◌≤◌, Bool, true, false, cond, eqb, List, [], ◌∷◌, ◌++◌, length, refl, sym, ap, subst, ◌∙◌, append_assoc, arith, rules, add-zero, ℤ, inl, inr}
use Rattle.std.specs.Prelude.{pos, negsuc, ◌≤ℤ◌, ◌-ℤ◌}
use Rattle.std.specs.Int.RustNames.{unsigned_abs}
use Rattle.std.specs.List.{AllByRecursion}
use Rattle.std.proofs.lemmas.Bool.{cases_lt, lt-ltb, le-ltb}
use Rattle.std.proofs.lemmas.Int.{ints}
use Rattle.std.proofs.lemmas.List.{append-nil, length-append}
use Rattle.cs_codec.specs.Cells.{number, int_cell, IsInt}
use Rattle.cs_codec.specs.CellLaws.{same_fronts, length-number, int_begins_one}
use Rattle.cs_codec.specs.Encodings.{HasOneText}
use Rattle.cs_codec.specs.Texts.{groups, short, differences_text, differences_text_from, NeverFalls, NeverFallsFrom}
use Rattle.cs_codec.specs.Differences.{group_limit, item, NeverFallsShort}

-- ---- groups

pub last_group : (more n : ℕ) → n < 128 → groups more n ≡ n ∷ []
last_group zero n h = refl
last_group (suc more) n h = rw (lt-ltb n 128 h) refl

pub more_groups : (more n : ℕ) → 128 ≤ n → groups (suc more) n ≡ (n % 128 + 128) ∷ groups more (n / 128)
more_groups more n h = rw (le-ltb n 128 h) refl

pub groups_begin_one : (more m n : ℕ) (x y : List ℕ) → m < group_limit more → n < group_limit more → groups more m ++ x ≡ groups more n ++ y → (m ≡ n) × (x ≡ y)
groups_begin_one zero m n x y hm hn e = (cc, cc)
groups_begin_one (suc more) m n x y hm hn e =
    elim (cases_lt m 128) [
      | inl lm ↦ elim (cases_lt n 128) [
        | inl ln ↦ let f : m ∷ x ≡ n ∷ y = ap (λ (w : List ℕ). w ++ x) (sym (last_group (suc more) m lm)) ∙ e ∙ ap (λ (w : List ℕ). w ++ y) (last_group (suc more) n ln) in (cc, cc)
        | inr gn ↦ let f : m ∷ x ≡ (n % 128 + 128) ∷ (groups more (n / 128) ++ y) = ap (λ (w : List ℕ). w ++ x) (sym (last_group (suc more) m lm)) ∙ e ∙ ap (λ (w : List ℕ). w ++ y) (more_groups more n gn) in
            let head : m ≡ n % 128 + 128 = cc in absurd (omega arith)
      ]
      | inr gm ↦ elim (cases_lt n 128) [
        | inl ln ↦ let f : (m % 128 + 128) ∷ (groups more (m / 128) ++ x) ≡ n ∷ y = ap (λ (w : List ℕ). w ++ x) (sym (more_groups more m gm)) ∙ e ∙ ap (λ (w : List ℕ). w ++ y) (last_group (suc more) n ln) in
            let head : m % 128 + 128 ≡ n = cc in absurd (omega arith)
        | inr gn ↦ let f : (m % 128 + 128) ∷ (groups more (m / 128) ++ x) ≡ (n % 128 + 128) ∷ (groups more (n / 128) ++ y) = ap (λ (w : List ℕ). w ++ x) (sym (more_groups more m gm)) ∙ e ∙ ap (λ (w : List ℕ). w ++ y) (more_groups more n gn) in
            let head : m % 128 + 128 ≡ n % 128 + 128 = cc in
            let tails : groups more (m / 128) ++ x ≡ groups more (n / 128) ++ y = cc in
            let deeper = groups_begin_one more (m / 128) (n / 128) x y (omega arith) (omega arith) tails in
            let high = deeper.0 in
            (omega arith, deeper.1)
      ]
    ]

pub short_begins_one : (m n : ℕ) (x y : List ℕ) → m < 2 ^ 64 → n < 2 ^ 64 → short m ++ x ≡ short n ++ y → (m ≡ n) × (x ≡ y)
unfolding short
short_begins_one m n x y hm hn e = groups_begin_one 9 m n x y (omega arith) (omega arith) e

-- ---- the bytes of a position

abbrev pub least : ℤ
least = negsuc 9223372036854775807

pub gap_fits : (before x y : ℤ) → IsInt x → IsInt before → unsigned_abs (x -ℤ before) < 2 ^ 64
gap_fits before x y hx hb = omega (arith, ints)

same_gap : (before x y : ℤ) → before ≤ℤ x → before ≤ℤ y → unsigned_abs (x -ℤ before) ≡ unsigned_abs (y -ℤ before) → x ≡ y
same_gap before x y hx hy e = omega (arith, ints)

-- bytes begin with at most one value of position p after `before`
pub items_begin_one : (before : ℤ) (p : ℕ) (x y : ℤ) (v w : List ℕ) → IsInt before → IsInt x → IsInt y → before ≤ℤ x → before ≤ℤ y → item before p x ++ v ≡ item before p y ++ w → (x ≡ y) × (v ≡ w)
items_begin_one before p x y v w hb hx hy rx ry e = by_place (eqb (p % 128) 1) e
  where
    by_place : (b : Bool) → cond b (number p ++ int_cell x) (short (unsigned_abs (x -ℤ before))) ++ v ≡ cond b (number p ++ int_cell y) (short (unsigned_abs (y -ℤ before))) ++ w → (x ≡ y) × (v ≡ w)
    by_place true f =
        let parts = same_fronts (number p) (number p) (int_cell x ++ v) (int_cell y ++ w) refl (sym (append_assoc (number p) (int_cell x) v) ∙ f ∙ append_assoc (number p) (int_cell y) w) in
        int_begins_one x y v w hx hy parts.1
    by_place false f =
        let gaps = short_begins_one (unsigned_abs (x -ℤ before)) (unsigned_abs (y -ℤ before)) v w (gap_fits before x y hx hb) (gap_fits before y x hy hb) f in
        (same_gap before x y rx ry gaps.0, gaps.1)

pub some_groups : (more n : ℕ) → 0 < length (groups more n)
some_groups zero n = omega arith
some_groups (suc more) n = elim (cases_lt n 128) [ inl lt ↦ rw (last_group (suc more) n lt) (omega arith) | inr ge ↦ rw (more_groups more n ge) (omega arith) ]

some_short : (n : ℕ) → 0 < length (short n)
unfolding short
some_short n = some_groups 9 n

some_item : (before : ℤ) (p : ℕ) (x : ℤ) → 0 < length (item before p x)
some_item before p x = by_place (eqb (p % 128) 1)
  where
    by_place : (b : Bool) → 0 < length (cond b (number p ++ int_cell x) (short (unsigned_abs (x -ℤ before))))
    by_place true = omega (arith, length-append (number p) (int_cell x), length-number p)
    by_place false = some_short (unsigned_abs (x -ℤ before))

no_item : (before : ℤ) (p : ℕ) (x : ℤ) (w : List ℕ) → [] ≡ item before p x ++ w → ⊥
no_item before p x w e =
    let lens : length {A = ℕ} [] ≡ length (item before p x ++ w) = ap length e in
    omega (arith, length-append (item before p x) w, some_item before p x)

-- ---- lists that never fall

-- the last value, or `before` if there is none
abbrev pub last_from : ℤ → List ℤ → ℤ
last_from before [] = before
last_from before (x ∷ xs) = last_from x xs

-- `others` begins with the values that were read, and w is the bytes of its rest
pub record ValuesGoOn (before : ℤ) (p : ℕ) (cells others : List ℤ) (w : List ℕ) : Type 0 where
  pub rest : List ℤ
  pub parts : others ≡ cells ++ rest
  pub text_is : w ≡ differences_text_from (last_from before cells) (p + length cells) rest
  pub rises : NeverFallsFrom (last_from before cells) rest
  pub hold : AllByRecursion IsInt rest
  pub last_fits : IsInt (last_from before cells)

pub values_go_on : (before : ℤ) (p : ℕ) (cells others : List ℤ) (w : List ℕ) → IsInt before → AllByRecursion IsInt cells → AllByRecursion IsInt others → NeverFallsFrom before cells → NeverFallsFrom before others → differences_text_from before p others ≡ differences_text_from before p cells ++ w → ValuesGoOn before p cells others w
values_go_on before p [] others w hb hc ho rc ro e = record {
  rest = others;
  parts = refl;
  text_is = sym e ∙ ap (λ (q : ℕ). differences_text_from before q others) (sym (add-zero p));
  rises = ro;
  hold = ho;
  last_fits = hb;
}
values_go_on before p (c ∷ cells) [] w hb hc ho rc ro e =
    absurd (no_item before p c (differences_text_from c (suc p) cells ++ w) (e ∙ append_assoc (item before p c) (differences_text_from c (suc p) cells) w))
values_go_on before p (c ∷ cells) (o ∷ others) w hb hc ho rc ro e =
    let first = items_begin_one before p o c (differences_text_from o (suc p) others) (differences_text_from c (suc p) cells ++ w) hb ho.0 hc.0 ro.0 rc.0 (e ∙ append_assoc (item before p c) (differences_text_from c (suc p) cells) w) in
    let same = first.0 in
    let rest_text : differences_text_from c (suc p) others ≡ differences_text_from c (suc p) cells ++ w = ap (λ (z : ℤ). differences_text_from z (suc p) others) (sym same) ∙ first.1 in
    let deeper = values_go_on c (suc p) cells others w hc.0 hc.1 ho.1 rc.1 (subst (λ (z : ℤ). NeverFallsFrom z others) same ro.1) rest_text in
    let place : suc p + length cells ≡ p + suc (length cells) = omega arith in
    record {
      rest = deeper.rest;
      parts = ap (λ (z : ℤ). z ∷ others) same ∙ ap (λ (zs : List ℤ). c ∷ zs) deeper.parts;
      text_is = deeper.text_is ∙ ap (λ (q : ℕ). differences_text_from (last_from c cells) q deeper.rest) place;
      rises = deeper.rises;
      hold = deeper.hold;
      last_fits = deeper.last_fits;
    }

pub least_fits : IsInt least
least_fits = search (rules, ints)

above_least : (x : ℤ) → IsInt x → least ≤ℤ x
above_least x h = omega (arith, ints)

pub rises_from_least : (xs : List ℤ) → AllByRecursion IsInt xs → NeverFalls xs → NeverFallsFrom least xs
rises_from_least [] h r = tt
rises_from_least (x ∷ xs) h r = (above_least x h.0, r)

pub never_falls : (b : ℤ) (xs : List ℤ) → NeverFallsFrom b xs → NeverFalls xs
never_falls b [] r = tt
never_falls b (x ∷ xs) r = r.1

pub text_from-least : (b c : ℤ) (xs : List ℤ) → differences_text_from b 1 xs ≡ differences_text_from c 1 xs
text_from-least b c [] = refl
text_from-least b c (x ∷ xs) = refl

pub differences_one_list : HasOneText differences_text NeverFallsShort IsInt
differences_one_list x y fx fy hx hy e =
    let f : differences_text_from least 1 y ≡ differences_text_from least 1 x ++ [] = text_from-least least (pos 0) y ∙ sym e ∙ text_from-least (pos 0) least x ∙ sym (append-nil (differences_text_from least 1 x)) in
    let on = values_go_on least 1 x y [] least_fits hx hy (rises_from_least x hx fx.never_falls) (rises_from_least y hy fy.never_falls) f in
    by_rest on.rest on.parts on.text_is
  where
    by_rest : (rest : List ℤ) → y ≡ x ++ rest → [] ≡ differences_text_from (last_from least x) (1 + length x) rest → x ≡ y
    by_rest [] p t = sym (p ∙ append-nil x)
    by_rest (r ∷ rest) p t = absurd (no_item (last_from least x) (1 + length x) r (differences_text_from r (suc (1 + length x)) rest) t)
