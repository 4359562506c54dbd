-- The parts of a segment's columns.
use Rattle.std.proofs.Common.{◌≡◌, ℕ, zero, suc, ◌+◌, ◌<◌, List, [], ◌∷◌, ◌++◌, map, length, get_or, refl, sym, ap, subst, ◌∙◌, arith, append_assoc, add-zero}
use Rattle.std.specs.List.{concat, range_with_len}
use Rattle.std.proofs.lemmas.List.{length_push, append-nil, get_or_at}
use Rattle.cs_schema.specs.declared.kinds.Kind.{Kind}
use Rattle.cs_schema.specs.declared.kinds.Code.{Code}
use Rattle.cs_schema.specs.declared.cells.Value.{Value}
use Rattle.cs_schema.specs.CatalogData.{CatalogData}
use Rattle.cs_codec.specs.ColumnText.{column_text, FitsColumn}
use Rattle.cs_schema.specs.Lists.{numbers_below}
use Rattle.cs_segment.specs.SegmentFile.{Base, base_column, column_part}
use Rattle.cs_schema.specs.CatalogData.{code_at, kind_at}
use Rattle.cs_piece.proofs.ShortTexts.{column_texts_are_short}
use Rattle.cs_segment.specs.Parts.{part_text, parts_text, AllFrom}
use Rattle.cs_segment.proofs.BodyLists.{one_body}

pub all-push : {X : Type 0} (P : ℕ → X → Type 0) (j : ℕ) (vs : List X) (v : X) → AllFrom P j vs → P (j + length vs) v → AllFrom P j (vs ++ v ∷ [])
all-push P j [] v h k = (let Q : ℕ → Type 0 = λ n. P n v in subst Q (add-zero j) k, tt)
all-push P j (w ∷ vs) v h k =
    let Q : ℕ → Type 0 = λ n. P n v in
    let e : j + length (w ∷ vs) ≡ (j + 1) + length vs = omega arith in
    (h.0, all-push P (j + 1) vs v h.1 (subst Q e k))

pub all-at : {X : Type 0} (P : ℕ → X → Type 0) (j : ℕ) (vs : List X) → AllFrom P j vs → (i : ℕ) (d : X) → i < length vs → P (j + i) (get_or vs i d)
all-at P j [] h i d l = absurd (omega arith)
all-at P j (v ∷ vs) h zero d l = let Q : ℕ → Type 0 = λ n. P n v in subst Q (sym (add-zero j)) h.0
all-at P j (v ∷ vs) h (suc i) d l =
    let Q : ℕ → Type 0 = λ n. P n (get_or vs i d) in
    let e : (j + 1) + i ≡ j + suc i = omega arith in
    subst Q e (all-at P (j + 1) vs h.1 i d (omega arith))

pub all-made : {X : Type 0} (P : ℕ → X → Type 0) (j : ℕ) (vs : List X) (d : X) → ((i : ℕ) → i < length vs → P (j + i) (get_or vs i d)) → AllFrom P j vs
all-made P j [] d h = tt
all-made P j (v ∷ vs) d h =
    let Q : ℕ → Type 0 = λ n. P n v in
    (subst Q (add-zero j) (h 0 (omega arith)), all-made P (j + 1) vs d (λ i l. step i (h (suc i) (omega arith))))
  where
    step : (i : ℕ) → P (j + suc i) (get_or vs i d) → P ((j + 1) + i) (get_or vs i d)
    step i k = let Q : ℕ → Type 0 = λ n. P n (get_or vs i d) in let e : j + suc i ≡ (j + 1) + i = omega arith in subst Q e k

pub parts_text-push : (C : CatalogData) (p j : ℕ) (vs : List (List Value)) (v : List Value) → parts_text C p j (vs ++ v ∷ []) ≡ parts_text C p j vs ++ part_text (code_at C p (j + length vs)) (kind_at C p (j + length vs)) v
parts_text-push C p j [] v = append-nil (part_text (code_at C p j) (kind_at C p j) v) ∙ ap (λ n. part_text (code_at C p n) (kind_at C p n) v) (sym (add-zero j))
parts_text-push C p j (w ∷ vs) v =
    let e : (j + 1) + length vs ≡ j + length (w ∷ vs) = omega arith in
    ap (λ (a : List ℕ). part_text (code_at C p j) (kind_at C p j) w ++ a) (parts_text-push C p (j + 1) vs v ∙ ap (λ n. parts_text C p (j + 1) vs ++ part_text (code_at C p n) (kind_at C p n) v) e)
    ∙ sym (append_assoc (part_text (code_at C p j) (kind_at C p j) w) (parts_text C p (j + 1) vs) (part_text (code_at C p (j + length (w ∷ vs))) (kind_at C p (j + length (w ∷ vs))) v))

-- a code and a kind fix the body of the first part in the bytes, and what follows it
pub one_part : (code : Code) (kind : Kind) (v w : List Value) (x y : List ℕ) → FitsColumn code kind v → FitsColumn code kind w → part_text code kind v ++ x ≡ part_text code kind w ++ y → (column_text code v ≡ column_text code w) × (x ≡ y)
one_part code kind v w x y hv hw e = one_body code kind (column_text code v) (column_text code w) x y (column_texts_are_short code kind v hv) (column_texts_are_short code kind w hw) e

parts_from : (C : CatalogData) (p : ℕ) (b : Base) (front vs : List (List Value)) (j : ℕ) → b.columns ≡ front ++ vs → length front ≡ j → concat (map (column_part C p b) (range_with_len j (length vs))) ≡ parts_text C p j vs
parts_from C p b front [] j e l = refl
parts_from C p b front (v ∷ vs) j e l =
    let here : base_column b j ≡ v = ap (λ (cs : List (List Value)). get_or cs j []) e ∙ get_or_at front v vs [] j l in
    let deeper = parts_from C p b (front ++ v ∷ []) vs (j + 1) (e ∙ sym (append_assoc front (v ∷ []) vs)) (length_push front v ∙ ap (λ n. n + 1) l) in
    ap (λ (x : List Value). part_text (code_at C p j) (kind_at C p j) x ++ concat (map (column_part C p b) (range_with_len (j + 1) (length vs)))) here
    ∙ ap (λ (a : List ℕ). part_text (code_at C p j) (kind_at C p j) v ++ a) deeper

pub parts_of : (C : CatalogData) (p : ℕ) (b : Base) → concat (map (column_part C p b) (numbers_below (length b.columns))) ≡ parts_text C p 0 b.columns
parts_of C p b = parts_from C p b [] b.columns 0 refl refl
