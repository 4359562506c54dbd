-- The text of a cell reads as the cell.
use Rattle.std.proofs.Common.{◌≡◌, ◌≢◌, ℕ, ℤ, suc, pos, negsuc, ◌^◌, ◌<◌, List, get_or, refl, sym, ap, ◌∙◌, subst, arith, false}
use Rattle.std.specs.Prelude.{FitsSigned, neg_ℤ}
use Rattle.std.specs.Int.{w64}
use Rattle.std.specs.Fmt.{decimal, signed_decimal}
use Rattle.std.specs.Str.Parse.{IsNumeral, digits_value, signed_digits_value, starts_with_minus, without_leading_sign}
use lib.Signed.{mag}
use Rattle.std.proofs.lemmas.Bool.{ne_eqb}
use Rattle.std.proofs.lemmas.Int.{ints}
use Rattle.std.proofs.lemmas.Fmt.{IsAscii-signed, decimal_is_IsNumeral}
use Rattle.std.proofs.lemmas.Str.{IsUtf8-from_ascii}
use Rattle.std.proofs.lemmas.Str.Parse.{digit_at, without_leading_plus_none}
use Rattle.cs_schema.specs.declared.cells.Value.{Value}
use Rattle.cs_schema.specs.declared.cells.Value.TheVariants.{Int, Text}
use Rattle.cs_csv.specs.Fields.{IsCellOf, cell_of}
use Rattle.cs_csv.specs.Faults.{Refuses}
use Rattle.cs_csv.specs.Writing.{value_text}
use Rattle.cs_schema.specs.Values.{IsOfKind}
use Rattle.cs_schema.specs.declared.kinds.Kind.{Kind}
use Rattle.cs_schema.specs.declared.kinds.Kind.TheVariants as kind
use Rattle.cs_csv.specs.declared.fault.FieldFault.TheVariants as why

-- digits begin with no sign
no-minus : (ds : List ℕ) → IsNumeral 10 ds → starts_with_minus ds ≡ false
no-minus ds h =
    let d = digit_at ds 0 h.1 h.0 in
    let ne : get_or ds 0 0 ≢ 45 = omega arith in
    ne_eqb (get_or ds 0 0) 45 ne

value-of : (bs : List ℕ) → starts_with_minus bs ≡ false → signed_digits_value 10 bs ≡ pos (digits_value 10 (without_leading_sign bs))
value-of bs e = rw e refl

mag-fits : (z : ℤ) → FitsSigned w64 z → mag z < 2 ^ 63
mag-fits (pos n) h = omega (arith, ints)
mag-fits (negsuc n) h = omega (arith, ints)

no-sign : (ds : List ℕ) → IsNumeral 10 ds → without_leading_sign ds ≡ ds
no-sign ds h =
    let d = digit_at ds 0 h.1 h.0 in
    let ne : get_or ds 0 0 ≢ 43 = omega arith in
    rw (no-minus ds h) (without_leading_plus_none ds ne)

pub int-text : (z : ℤ) → FitsSigned w64 z → (IsNumeral 10 (without_leading_sign (signed_decimal z))) × (signed_digits_value 10 (signed_decimal z) ≡ z)
int-text (pos n) h =
    let bound = mag-fits (pos n) h in
    let small : n < 2 ^ 64 = omega arith in
    let d = decimal_is_IsNumeral n small in
    let s = no-sign (decimal n) d.0 in
    (subst (λ (ds : List ℕ). IsNumeral 10 ds) (sym s) d.0, value-of (decimal n) (no-minus (decimal n) d.0) ∙ ap (λ (ds : List ℕ). pos (digits_value 10 ds)) s ∙ ap pos d.1)
int-text (negsuc n) h =
    let bound = mag-fits (negsuc n) h in
    let small : suc n < 2 ^ 64 = omega arith in
    let d = decimal_is_IsNumeral (suc n) small in
    (d.0, ap (λ (m : ℕ). neg_ℤ (pos m)) d.1)

pub value-fits : (k : Kind) (v : Value) → IsOfKind k v → IsCellOf k (value_text v)
value-fits kind.Int (Int z) h = let t = int-text z h in (IsUtf8-from_ascii (signed_decimal z) (IsAscii-signed z (mag-fits z h)), t.0, rw t.1 h)
value-fits kind.Text (Text t) h = h
value-fits kind.Int (Text t) h = elim h [ ]
value-fits kind.Text (Int z) h = elim h [ ]

pub value-back : (k : Kind) (v : Value) → IsOfKind k v → cell_of k (value_text v) ≡ v
value-back kind.Int (Int z) h = ap Int (int-text z h).1
value-back kind.Text (Text t) h = refl
value-back kind.Int (Text t) h = elim h [ ]
value-back kind.Text (Int z) h = elim h [ ]

-- no such text is refused
pub not-int : (cell : List ℕ) (k : Kind) (text : List ℕ) → IsCellOf k text → Refuses k text (why.NotInt cell) → ⊥
not-int cell kind.Int text h r = r.0 h
not-int cell kind.Text text h r = r

pub not-text : (k : Kind) (text : List ℕ) → IsCellOf k text → Refuses k text why.NotText → ⊥
not-text kind.Int text h r = r
not-text kind.Text text h r = r h.0

pub too-long : (bytes : ℕ) (k : Kind) (text : List ℕ) → IsCellOf k text → Refuses k text (why.TooLong bytes) → ⊥
too-long bytes kind.Int text h r = r
too-long bytes kind.Text text h r = omega (arith, h.1, r.1)
