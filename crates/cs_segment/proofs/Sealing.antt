-- Sealed files.
use Rattle.std.proofs.Common.{◌≡◌, ℕ, ◌+◌, ◌-◌, ◌<◌, ◌++◌, true, List, length, map, get_or, take, drop, refl, sym, ap, ◌∙◌, arith, Option, Some, None, Bool, Bor}
use Rattle.std.proofs.lemmas.List.{get_or-map, length-append, take_at, drop_at}
use Rattle.std.proofs.lemmas.Simd.{map-map}
use Rattle.sha2.specs.Sha256.{sha256}
use Rattle.sha2.proofs.Facts256.{length-sha256}
use Rattle.std.specs.Prelude.{IfSome, IfNone}
use Rattle.std.specs.Option.{is_some}
use Rattle.cs_segment.specs.SegmentFile.{sealed}
use Rattle.cs_segment.specs.Bodies.{IsSealed}

pub length-sealed : (x : List ℕ) → length (sealed x) ≡ length x + 32
length-sealed x = length-append x (sha256 x) ∙ ap (λ n. length x + n) (length-sha256 x)

pub body_of_sealed : (bytes x : List ℕ) → bytes ≡ sealed x → x ≡ take (length bytes - 32) bytes
body_of_sealed bytes x e = sym (ap (take (length bytes - 32)) e ∙ take_at x (sha256 x) (length bytes - 32) (omega (arith, ap length e, length-sealed x)))

pub digest_of_sealed : (bytes x : List ℕ) → bytes ≡ sealed x → sha256 x ≡ drop (length bytes - 32) bytes
digest_of_sealed bytes x e = sym (ap (drop (length bytes - 32)) e ∙ drop_at x (sha256 x) (length bytes - 32) (omega (arith, ap length e, length-sealed x)))

-- sealed bytes fix what was sealed
pub sealed_once : (x y : List ℕ) → sealed x ≡ sealed y → x ≡ y
sealed_once x y e = body_of_sealed (sealed y) x (sym e) ∙ sym (body_of_sealed (sealed y) y refl)

-- whether `unseal` finds a body is whether the bytes are sealed
pub sealed_or_not : (bytes : List ℕ) (o : Option (Bor (List ℕ))) → IfSome o (λ body. bytes ≡ sealed body.now) → IfNone o ((body : List ℕ) → bytes ≡ sealed body → ⊥) → (b : Bool) → b ≡ is_some o → IsSealed bytes b
sealed_or_not bytes (Some body) found none b e = record {
  found = λ t. found ∙ ap sealed (body_of_sealed bytes body.now found);
  none = λ f. absurd (let x = e in cc);
}
sealed_or_not bytes None found none b e = record { found = λ t. absurd (let x = e in cc); none = λ f. none }

-- bytes followed by their digest are sealed
pub followed : (text end : List ℕ) → end ≡ sha256 text → IsSealed (text ++ end) true
followed text end e =
    let whole : text ++ end ≡ sealed text = ap (λ (d : List ℕ). text ++ d) e in
    record {
      found = λ t. whole ∙ ap sealed (body_of_sealed (text ++ end) text whole);
      none = λ f. absurd (let x = f in cc);
    }

-- the i-th digest is that of the i-th file without its last 32 bytes
pub digest_at : (files texts : List (Bor (List ℕ))) (digests : List (List ℕ)) (i : ℕ) (f : Bor (List ℕ)) (d : List ℕ) → map (λ t. t.now) texts ≡ map (λ f. take (length f.now - 32) f.now) files
    → digests ≡ map (λ t. sha256 t.now) texts → i < length files → get_or digests i d ≡ sha256 (take (length (get_or files i f).now - 32) (get_or files i f).now)
digest_at files texts digests i f d are made inside =
    let text = λ (b : Bor (List ℕ)). b.now in
    let body = λ (b : Bor (List ℕ)). take (length b.now - 32) b.now in
    let all = made ∙ sym (map-map sha256 text texts) ∙ ap (map sha256) are ∙ map-map sha256 body files in
    ap (λ l. get_or l i d) all ∙ get_or-map (λ (b : Bor (List ℕ)). sha256 (body b)) files i f d inside
