-- The bodies of a segment's columns: bytes have at most one list of them, and each encodes its column.
use Rattle.std.proofs.Common.{◌≡◌, ◌≢◌, ◌⊎◌, inl, inr, eqb, true, false, ℕ, zero, suc, ◌+◌, ◌-◌, ◌^◌, ◌<◌, ◌≤◌, List, [], ◌∷◌, ◌++◌, map, length, get_or, refl, sym, ap, subst, ◌∙◌, arith, append_assoc, add-zero}
use Rattle.std.specs.List.{range_with_len}
use Rattle.std.proofs.lemmas.Bool.Decides.{eqb_tells}
use Rattle.std.proofs.lemmas.List.{append_cancel_left, append-nil, length_push, get_or_push, get_or_append_left}
use Rattle.cs_schema.specs.declared.kinds.Kind.{Kind}
use Rattle.cs_schema.specs.declared.kinds.Code.{Code}
use Rattle.cs_schema.specs.declared.cells.Cells.{Cells}
use Rattle.cs_schema.specs.declared.cells.Value.{Value}
use Rattle.cs_schema.specs.CatalogData.{CatalogData, projection, code_at, kind_at}
use Rattle.cs_schema.specs.Values.{values, kind_of}
use Rattle.cs_codec.specs.ColumnText.{column_text}
use Rattle.cs_piece.specs.Columns.{IsColumnOf}
use Rattle.cs_piece.proofs.ShortTexts.{column_texts_are_short}
use Rattle.cs_segment.specs.Bytes.{be32}
use Rattle.cs_segment.specs.SegmentFile.{code_number, kind_number}
use Rattle.cs_segment.specs.Parts.{parts_text, AllFrom, IsColumnAt, AreParts}
use Rattle.cs_segment.specs.Bodies.{body_part, BeginsWithBody, bodies_text, AreShort, AreBodies, IsColumnIn, AreFirstIn, NoColumnIn}
use Rattle.cs_segment.proofs.Numbers.{same_fronts, be32_begins}

abbrev head : Code → Kind → List ℕ
head code kind = code_number code ∷ kind_number kind ∷ []

-- ---- the first body

-- a code and a kind fix the first body in the bytes, and what follows it
pub one_body : (code : Code) (kind : Kind) (a b x y : List ℕ) → length a < 2 ^ 32 → length b < 2 ^ 32 → body_part code kind a ++ x ≡ body_part code kind b ++ y → (a ≡ b) × (x ≡ y)
one_body code kind a b x y la lb e =
    let behind : be32 (length a) ++ (a ++ x) ≡ be32 (length b) ++ (b ++ y) = append_cancel_left (head code kind) (be32 (length a) ++ (a ++ x)) (be32 (length b) ++ (b ++ y)) e in
    let count = be32_begins (length a) (length b) (a ++ x) (b ++ y) la lb behind in
    same_fronts a b x y count.0 count.1

-- ---- all bodies

-- `rest` is the parts of `count` further columns, the first of which has number j
record BodiesGoOn (C : CatalogData) (p j count : ℕ) (rest : List ℕ) : Type 0 where
  pub tail : List (List ℕ)
  pub text : rest ≡ bodies_text C p j tail
  pub short : AreShort tail
  pub count_is : length tail ≡ count

bodies_go_on : (C : CatalogData) (p j : ℕ) (done others : List (List ℕ)) (rest : List ℕ) → AreShort done → AreShort others → length done ≤ length others → bodies_text C p j done ++ rest ≡ bodies_text C p j others → (n : ℕ) → n ≡ j + length done → (count : ℕ) → length others ≡ length done + count → BodiesGoOn C p n count rest
bodies_go_on C p j [] others rest hd ho l e n en count ec =
    let place : j ≡ n = omega arith in
    record { tail = others; text = e ∙ ap (λ k. bodies_text C p k others) place; short = ho; count_is = omega arith }
bodies_go_on C p j (v ∷ done) [] rest hd ho l e n en count ec = absurd (omega arith)
bodies_go_on C p j (v ∷ done) (w ∷ others) rest hd ho l e n en count ec =
    let first = one_body (code_at C p j) (kind_at C p j) v w (bodies_text C p (j + 1) done ++ rest) (bodies_text C p (j + 1) others) hd.0 ho.0 (sym (append_assoc (body_part (code_at C p j) (kind_at C p j) v) (bodies_text C p (j + 1) done) rest) ∙ e) in
    bodies_go_on C p (j + 1) done others rest hd.1 ho.1 (omega arith) first.1 n (omega arith) count (omega arith)

bodies_text-push : (C : CatalogData) (p j : ℕ) (bs : List (List ℕ)) (b : List ℕ) → bodies_text C p j (bs ++ b ∷ []) ≡ bodies_text C p j bs ++ body_part (code_at C p (j + length bs)) (kind_at C p (j + length bs)) b
bodies_text-push C p j [] b = append-nil (body_part (code_at C p j) (kind_at C p j) b) ∙ ap (λ n. body_part (code_at C p n) (kind_at C p n) b) (sym (add-zero j))
bodies_text-push C p j (w ∷ bs) b =
    let e : (j + 1) + length bs ≡ j + length (w ∷ bs) = omega arith in
    ap (λ (a : List ℕ). body_part (code_at C p j) (kind_at C p j) w ++ a) (bodies_text-push C p (j + 1) bs b ∙ ap (λ n. bodies_text C p (j + 1) bs ++ body_part (code_at C p n) (kind_at C p n) b) e)
    ∙ sym (append_assoc (body_part (code_at C p j) (kind_at C p j) w) (bodies_text C p (j + 1) bs) (body_part (code_at C p (j + length (w ∷ bs))) (kind_at C p (j + length (w ∷ bs))) b))

pub bodies_more : (C : CatalogData) (p j : ℕ) (bytes rest after : List ℕ) (done : List (List ℕ)) (body : List ℕ) → bytes ≡ bodies_text C p 0 done ++ rest → length done ≡ j → BeginsWithBody (code_at C p j) (kind_at C p j) rest body after → bytes ≡ bodies_text C p 0 (done ++ body ∷ []) ++ after
bodies_more C p j bytes rest after done body e l b =
    let here : j ≡ 0 + length done = omega arith in
    e ∙ ap (λ (a : List ℕ). bodies_text C p 0 done ++ a) b.text
    ∙ sym (append_assoc (bodies_text C p 0 done) (body_part (code_at C p j) (kind_at C p j) body) after)
    ∙ ap (λ (a : List ℕ). a ++ after) (ap (λ n. bodies_text C p 0 done ++ body_part (code_at C p n) (kind_at C p n) body) here ∙ sym (bodies_text-push C p 0 done body))

pub short_more : (done : List (List ℕ)) (body : List ℕ) → AreShort done → length body < 2 ^ 32 → AreShort (done ++ body ∷ [])
short_more [] body h l = (l, tt)
short_more (b ∷ done) body h l = (h.0, short_more done body h.1 l)

-- a column that is not the last is followed by the part of the next one
pub body_refused : (C : CatalogData) (p j : ℕ) (bytes rest : List ℕ) (done bodies : List (List ℕ)) → bytes ≡ bodies_text C p 0 done ++ rest → length done ≡ j → AreShort done → AreBodies C p bytes bodies → j < length (projection C p).columns
    → ((body after : List ℕ) → BeginsWithBody (code_at C p j) (kind_at C p j) rest body after → ⊥) → ⊥
body_refused C p j bytes rest done bodies e l hd h lt none =
    let wide = h.width in
    let on = bodies_go_on C p 0 done bodies rest hd h.short (omega arith) (sym e ∙ h.text) j (omega arith) (length bodies - j) (omega arith) in
    go on.tail on.text on.short on.count_is
  where
    go : (tail : List (List ℕ)) → rest ≡ bodies_text C p j tail → AreShort tail → length tail ≡ length bodies - j → ⊥
    go [] t s k = let wide = h.width in absurd (omega arith)
    go (b ∷ tail) t s k = none b (bodies_text C p (j + 1) tail) (record { text = t; short = s.0 })

pub nothing_more : (C : CatalogData) (p : ℕ) (bytes rest : List ℕ) (done bodies : List (List ℕ)) → bytes ≡ bodies_text C p 0 done ++ rest → AreShort done → AreBodies C p bytes bodies → length done ≡ length (projection C p).columns → rest ≡ []
nothing_more C p bytes rest done bodies e hd h l =
    let wide = h.width in
    let on = bodies_go_on C p 0 done bodies rest hd h.short (omega arith) (sym e ∙ h.text) (length done) (omega arith) 0 (omega arith) in
    go on.tail on.text on.count_is
  where
    go : (tail : List (List ℕ)) → rest ≡ bodies_text C p (length done) tail → length tail ≡ 0 → rest ≡ []
    go [] t k = t
    go (b ∷ tail) t k = absurd (omega arith)

one_list : (C : CatalogData) (p j : ℕ) (bs cs : List (List ℕ)) → length bs ≡ length cs → AreShort bs → AreShort cs → bodies_text C p j bs ≡ bodies_text C p j cs → bs ≡ cs
one_list C p j [] [] l hb hc e = refl
one_list C p j [] (c ∷ cs) l hb hc e = absurd (omega arith)
one_list C p j (b ∷ bs) [] l hb hc e = absurd (omega arith)
one_list C p j (b ∷ bs) (c ∷ cs) l hb hc e =
    let first = one_body (code_at C p j) (kind_at C p j) b c (bodies_text C p (j + 1) bs) (bodies_text C p (j + 1) cs) hb.0 hc.0 e in
    ap (λ (x : List ℕ). x ∷ bs) first.0 ∙ ap (λ (xs : List (List ℕ)). c ∷ xs) (one_list C p (j + 1) bs cs (omega arith) hb.1 hc.1 first.1)

-- ---- the columns of bodies

-- the bodies of these columns, the first of which has number j
abbrev texts_of : CatalogData → ℕ → ℕ → List (List Value) → List (List ℕ)
texts_of C p j [] = []
texts_of C p j (v ∷ vs) = column_text (code_at C p j) v ∷ texts_of C p (j + 1) vs

texts_are : (C : CatalogData) (p j : ℕ) (vs : List (List Value)) → bodies_text C p j (texts_of C p j vs) ≡ parts_text C p j vs
texts_are C p j [] = refl
texts_are C p j (v ∷ vs) = ap (λ (a : List ℕ). body_part (code_at C p j) (kind_at C p j) (column_text (code_at C p j) v) ++ a) (texts_are C p (j + 1) vs)

length-texts : (C : CatalogData) (p j : ℕ) (vs : List (List Value)) → length (texts_of C p j vs) ≡ length vs
length-texts C p j [] = refl
length-texts C p j (v ∷ vs) = ap suc (length-texts C p (j + 1) vs)

short_texts : (C : CatalogData) (p rows j : ℕ) (vs : List (List Value)) → AllFrom (IsColumnAt C p rows) j vs → AreShort (texts_of C p j vs)
short_texts C p rows j [] h = tt
short_texts C p rows j (v ∷ vs) h = (column_texts_are_short (code_at C p j) (kind_at C p j) v h.0.fits, short_texts C p rows (j + 1) vs h.1)

-- the parts of columns are the parts of their bodies
pub bodies_of_parts : (C : CatalogData) (p rows : ℕ) (bytes : List ℕ) (vs : List (List Value)) → AreParts C p bytes rows vs → AreBodies C p bytes (texts_of C p 0 vs)
bodies_of_parts C p rows bytes vs h = record {
  text = h.text ∙ sym (texts_are C p 0 vs);
  width = length-texts C p 0 vs ∙ h.width;
  short = short_texts C p rows 0 vs h.columns_are;
}

column_at : (C : CatalogData) (p rows a : ℕ) (vs : List (List Value)) → AllFrom (IsColumnAt C p rows) a vs → (k : ℕ) → k < length vs → IsColumnOf (code_at C p (a + k)) (kind_at C p (a + k)) (get_or (texts_of C p a vs) k []) rows (get_or vs k [])
column_at C p rows a [] h k l = absurd (omega arith)
column_at C p rows a (v ∷ vs) h zero l =
    let Q : ℕ → Type 0 = λ n. IsColumnOf (code_at C p n) (kind_at C p n) (column_text (code_at C p a) v) rows v in
    subst Q (sym (add-zero a)) (record { text_is = refl; rows_are = h.0.rows_are; fits = h.0.fits })
column_at C p rows a (v ∷ vs) h (suc k) l =
    let Q : ℕ → Type 0 = λ n. IsColumnOf (code_at C p n) (kind_at C p n) (get_or (texts_of C p (a + 1) vs) k []) rows (get_or vs k []) in
    let e : (a + 1) + k ≡ a + suc k = omega arith in
    subst Q e (column_at C p rows (a + 1) vs h.1 k (omega arith))

-- no segment's file has a body that is that of no column
pub column_refused : (C : CatalogData) (p rows : ℕ) (bytes : List ℕ) (bodies : List (List ℕ)) (vs : List (List Value)) → AreBodies C p bytes bodies → AreParts C p bytes rows vs → NoColumnIn C p rows bodies → ⊥
column_refused C p rows bytes bodies vs h parts n =
    let there = bodies_of_parts C p rows bytes vs parts in
    let same : bodies ≡ texts_of C p 0 vs = one_list C p 0 bodies (texts_of C p 0 vs) (h.width ∙ sym there.width) h.short there.short (sym h.text ∙ there.text) in
    let few : n.j < length vs = omega (arith, n.within, h.width, parts.width) in
    let Q : ℕ → Type 0 = λ k. IsColumnOf (code_at C p k) (kind_at C p k) (get_or (texts_of C p 0 vs) n.j []) rows (get_or vs n.j []) in
    let place : 0 + n.j ≡ n.j = omega arith in
    let R : List (List ℕ) → Type 0 = λ bs. IsColumnOf (code_at C p n.j) (kind_at C p n.j) (get_or bs n.j []) rows (get_or vs n.j []) in
    n.none (get_or vs n.j []) (subst R (sym same) (subst Q place (column_at C p rows 0 vs parts.columns_are n.j few)))

-- the columns of these bodies, the first of which has number a
record Columns (C : CatalogData) (p rows a : ℕ) (bodies : List (List ℕ)) (columns : List Cells) : Type 0 where
  pub text : bodies_text C p a bodies ≡ parts_text C p a (map values columns)
  pub columns_are : AllFrom (IsColumnAt C p rows) a (map values columns)
  pub kinds : map kind_of columns ≡ map (kind_at C p) (range_with_len a (length bodies))

columns_from : (C : CatalogData) (p rows a : ℕ) (bodies : List (List ℕ)) (columns : List Cells) → length columns ≡ length bodies → ((k : ℕ) (d : Cells) → k < length bodies → IsColumnIn C p rows (a + k) (get_or bodies k []) (get_or columns k d)) → Columns C p rows a bodies columns
columns_from C p rows a [] [] l each = record { text = refl; columns_are = tt; kinds = refl }
columns_from C p rows a [] (c ∷ columns) l each = absurd (omega arith)
columns_from C p rows a (b ∷ bodies) [] l each = absurd (omega arith)
columns_from C p rows a (b ∷ bodies) (c ∷ columns) l each =
    let Q : ℕ → Type 0 = λ n. IsColumnIn C p rows n b c in
    go (subst Q (add-zero a) (each 0 c (omega arith))) (columns_from C p rows (a + 1) bodies columns (omega arith) next)
  where
    next : (k : ℕ) (d : Cells) → k < length bodies → IsColumnIn C p rows ((a + 1) + k) (get_or bodies k []) (get_or columns k d)
    next k d l =
        let Q : ℕ → Type 0 = λ n. IsColumnIn C p rows n (get_or bodies k []) (get_or columns k d) in
        let e : a + suc k ≡ (a + 1) + k = omega arith in
        subst Q e (each (suc k) d (omega arith))

    go : IsColumnIn C p rows a b c → Columns C p rows (a + 1) bodies columns → Columns C p rows a (b ∷ bodies) (c ∷ columns)
    go h rest = record {
      text = ap (λ (x : List ℕ). body_part (code_at C p a) (kind_at C p a) x ++ bodies_text C p (a + 1) bodies) h.column_is.text_is ∙ ap (λ (x : List ℕ). body_part (code_at C p a) (kind_at C p a) (column_text (code_at C p a) (values c)) ++ x) rest.text;
      columns_are = (record { rows_are = h.column_is.rows_are; fits = h.column_is.fits }, rest.columns_are);
      kinds = ap (λ (k : Kind). k ∷ map kind_of columns) h.kind_is ∙ ap (λ (ks : List Kind). kind_at C p a ∷ ks) rest.kinds;
    }

module _ (C : CatalogData) (p rows : ℕ) (bodies : List (List ℕ)) (columns : List Cells) (h : AreFirstIn C p rows bodies (length bodies) columns) where
  all : Columns C p rows 0 bodies columns
  all = columns_from C p rows 0 bodies columns h.count_is (λ k d l. let Q : ℕ → Type 0 = λ n. IsColumnIn C p rows n (get_or bodies k []) (get_or columns k d) in let e : k ≡ 0 + k = omega arith in subst Q e (h.each k d l))

  -- the columns that the bodies encode have the bytes as their parts
  pub parts_of_bodies : (bytes : List ℕ) → AreBodies C p bytes bodies → AreParts C p bytes rows (map values columns)
  parts_of_bodies bytes b = record { text = b.text ∙ all.text; width = length-values ∙ h.count_is ∙ b.width; columns_are = all.columns_are }
    where
      length-values : length (map values columns) ≡ length columns
      length-values = lengths columns
        where
          lengths : (cs : List Cells) → length (map values cs) ≡ length cs
          lengths [] = refl
          lengths (c ∷ cs) = ap suc (lengths cs)

  pub kinds_of_bodies : (bytes : List ℕ) → AreBodies C p bytes bodies → map kind_of columns ≡ map (kind_at C p) (range_with_len 0 (length (projection C p).columns))
  kinds_of_bodies bytes b = all.kinds ∙ ap (λ n. map (kind_at C p) (range_with_len 0 n)) b.width

one_more_column : (C : CatalogData) (p rows : ℕ) (bodies : List (List ℕ)) (columns : List Cells) (cells : Cells) (j : ℕ) → length columns ≡ j → ((k : ℕ) (d : Cells) → k < j → IsColumnIn C p rows k (get_or bodies k []) (get_or columns k d)) → IsColumnIn C p rows j (get_or bodies j []) cells
    → (k : ℕ) (d : Cells) → k < j + 1 → IsColumnIn C p rows k (get_or bodies k []) (get_or (columns ++ cells ∷ []) k d)
one_more_column C p rows bodies columns cells j count each new k d l = go (eqb_tells k j)
  where
    go : ((eqb k j ≡ true) × (k ≡ j)) ⊎ ((eqb k j ≡ false) × (k ≢ j)) → IsColumnIn C p rows k (get_or bodies k []) (get_or (columns ++ cells ∷ []) k d)
    go (inl e) =
        let Q : ℕ → Type 0 = λ n. IsColumnIn C p rows n (get_or bodies n []) cells in
        subst (IsColumnIn C p rows k (get_or bodies k [])) (sym (get_or_push columns cells d k (count ∙ sym e.1))) (subst Q (sym e.1) new)
    go (inr e) =
        let less : k < j = (let other = e.1 in omega arith) in
        subst (IsColumnIn C p rows k (get_or bodies k [])) (sym (get_or_append_left columns (cells ∷ []) d k (omega (arith, count)))) (each k d less)

pub none_read : (C : CatalogData) (p rows : ℕ) (bodies : List (List ℕ)) → AreFirstIn C p rows bodies 0 []
none_read C p rows bodies = record { count_is = refl; each = λ j d l. absurd (omega arith) }

-- one more column has been decoded
pub one_more_read : (C : CatalogData) (p rows : ℕ) (bodies : List (List ℕ)) (columns more : List Cells) (cells : Cells) (j count : ℕ) → AreFirstIn C p rows bodies j columns → IsColumnIn C p rows j (get_or bodies j []) cells → j + 1 ≡ count → more ≡ columns ++ cells ∷ [] → AreFirstIn C p rows bodies count more
one_more_read C p rows bodies columns more cells j count h new e same =
    subst (AreFirstIn C p rows bodies count) (sym same) (subst (λ n. AreFirstIn C p rows bodies n (columns ++ cells ∷ [])) e (record {
      count_is = length_push columns cells ∙ ap (λ n. n + 1) h.count_is;
      each = one_more_column C p rows bodies columns cells j h.count_is h.each new;
    }))
