-- The entries of the tree inside a file set, as the map that contracts see.
use Rattle.std.proofs.lemmas.Option.{slice_get-map, slice_get_cases}
use Rattle.std.proofs.Common.{inl, inr, ◌≡◌, ℕ, suc, ◌<◌, arith, slice_get, IsSome, if◌then◌else◌, Bool, true, false, ◌&&◌, T, List, [], ◌∷◌, ◌++◌, length, Option, Some, None, refl, sym, ap, subst, ◌∙◌}
use Rattle.std.specs.Global.{Vec}
use Rattle.std.specs.BTreeMap.{insert_entry, is_at}
use Rattle.std.specs.Map.{keys_of, lookup}
use Rattle.std.specs.Option.{option_map}
use Rattle.std.specs.Ordering.{is_lt, is_eq, match_ordering, ordering_reverse}
use Rattle.std.specs.declared.cmp.Ordering.TheVariants.{Less, Equal, Greater}
use Rattle.std.specs.List.{AllByRecursion}
use Rattle.std.specs.List.Sorted.{IsStrictlySortedBy}
use Rattle.std.specs.FinMap.{empty, empty_of_len, from_sorted, entries, get, insert, len, find, put, is_sorted, entries-from_sorted, get-from_sorted, entries-insert, same_entries_map, len-entries}
use Rattle.std.specs.FinMap.Entries.{below_all, by_order}
use Rattle.cs_schema.specs.FileNames.{name_cmp}
use Rattle.cs_schema.specs.NameOrder.{name_cmp_total}
use Rattle.cs_schema.specs.declared.file_name.FileName.{FileName}
use Rattle.cs_store.specs.FileSet.{Files, named_bytes}

both : (a b : Bool) → T a → T b → T (a && b)
both true b p q = q
both false b p q = p

-- a key below each key of the entries is below each key of their named_bytes
below_all-named_bytes : (x : FileName) (es : List (FileName × Vec ℕ)) → AllByRecursion (λ y. name_cmp x y ≡ Less) (keys_of es) → T (below_all name_cmp x (named_bytes es))
below_all-named_bytes x [] h = tt
below_all-named_bytes x (e ∷ es) h = both _ _ (subst (λ o. T (is_lt o)) (sym h.0) tt) (below_all-named_bytes x es h.1)

-- the keys rise in the named_bytes as in the entries
pub is_sorted-named_bytes : (es : List (FileName × Vec ℕ)) → IsStrictlySortedBy name_cmp (keys_of es) → T (is_sorted name_cmp (named_bytes es))
unfolding IsStrictlySortedBy
is_sorted-named_bytes [] h = tt
is_sorted-named_bytes (e ∷ es) h = both _ _ (below_all-named_bytes e.0 es h.0) (is_sorted-named_bytes es h.1)

module _ (es : List (FileName × Vec ℕ)) (ordered : IsStrictlySortedBy name_cmp (keys_of es)) where
  pub entries-named_bytes : entries (from_sorted {R = name_cmp} (named_bytes es)) ≡ named_bytes es
  entries-named_bytes = entries-from_sorted name_cmp (named_bytes es) (is_sorted-named_bytes es ordered)

-- a search in the named_bytes finds the bytes that a search in the entries finds
find-named_bytes : (q : FileName) (es : List (FileName × Vec ℕ)) → find name_cmp q (named_bytes es) ≡ option_map (λ v. v.items) (lookup (is_at (name_cmp q)) es)
find-named_bytes q [] = refl
find-named_bytes q (e ∷ es) = elim (is_eq (name_cmp q e.0)) as (λ b. (if b then Some e.1.items else find name_cmp q (named_bytes es)) ≡ option_map (λ v. v.items) (if b then Some e.1 else lookup (is_at (name_cmp q)) es)) [ true ↦ refl | false ↦ find-named_bytes q es ]

-- an entry goes to the same place in the named_bytes
put-named_bytes : (k : FileName) (v : Vec ℕ) (es : List (FileName × Vec ℕ)) → put name_cmp k v.items (named_bytes es) ≡ named_bytes (insert_entry name_cmp es k v)
put-named_bytes k v [] = refl
put-named_bytes k v (e ∷ es) = elim (name_cmp k e.0) as (λ o. by_order o ((k, v.items) ∷ named_bytes (e ∷ es)) ((e.0, v.items) ∷ named_bytes es) ((e.0, e.1.items) ∷ put name_cmp k v.items (named_bytes es)) ≡ named_bytes (match_ordering o ((k, v) ∷ e ∷ es) ((e.0, v) ∷ es) (e ∷ insert_entry name_cmp es k v))) [
  | Less ↦ refl
  | Equal ↦ refl
  | Greater ↦ ap (λ l. (e.0, e.1.items) ∷ l) (put-named_bytes k v es)
]

pub get-named_bytes : (es : List (FileName × Vec ℕ)) (q : FileName) → IsStrictlySortedBy name_cmp (keys_of es) → get (from_sorted {R = name_cmp} (named_bytes es)) q ≡ option_map (λ v. v.items) (lookup (is_at (name_cmp q)) es)
get-named_bytes es q ordered = get-from_sorted name_cmp (named_bytes es) q (is_sorted-named_bytes es ordered) ∙ find-named_bytes q es

pub insert-named_bytes : (es : List (FileName × Vec ℕ)) (k : FileName) (v : Vec ℕ) → IsStrictlySortedBy name_cmp (keys_of es) → IsStrictlySortedBy name_cmp (keys_of (insert_entry name_cmp es k v)) → from_sorted {R = name_cmp} (named_bytes (insert_entry name_cmp es k v)) ≡ insert (from_sorted (named_bytes es)) k v.items
insert-named_bytes es k v ordered after =
    same_entries_map _ _ (entries-named_bytes _ after ∙ sym (put-named_bytes k v es) ∙ ap (put name_cmp k v.items) (sym (entries-named_bytes es ordered)) ∙ sym (entries-insert name_cmp_total _ k v.items))

length-named_bytes : (es : List (FileName × Vec ℕ)) → length (named_bytes es) ≡ length es
length-named_bytes [] = refl
length-named_bytes (e ∷ es) = ap suc (length-named_bytes es)

pub len-named_bytes : (es : List (FileName × Vec ℕ)) → IsStrictlySortedBy name_cmp (keys_of es) → len (from_sorted {R = name_cmp} (named_bytes es)) ≡ length es
len-named_bytes es ordered = len-entries _ ∙ ap length (entries-named_bytes es ordered) ∙ length-named_bytes es

none_ordered : IsStrictlySortedBy name_cmp (keys_of {K = FileName} {X = Vec ℕ} [])
unfolding IsStrictlySortedBy
none_ordered = tt

-- no entries make the empty map
pub from_sorted-none : from_sorted {R = name_cmp} (named_bytes []) ≡ empty
from_sorted-none = empty_of_len _ (len-named_bytes [] none_ordered)

-- a place below the length has an entry
pub is_some-slice_get : {X : Type 0} (es : List X) (i : ℕ) → i < length es → IsSome (slice_get es i)
is_some-slice_get es i h = elim (slice_get_cases es i).1 [
  | inl there ↦ subst IsSome (sym there.2) refl
  | inr past ↦ absurd (omega (arith, past.0))
]

pub is_some-from_map : {A B : Type 0} (f : A → B) (r : Option A) → IsSome (option_map f r) → IsSome r
is_some-from_map f None h = h
is_some-from_map f (Some x) h = h

-- the content at a place is that of the entry there
pub slice_get-entries : (es : List (FileName × Vec ℕ)) (i : ℕ) (k : FileName) (v : Vec ℕ) → IsStrictlySortedBy name_cmp (keys_of es) → slice_get es i ≡ Some (k, v) → slice_get (entries (from_sorted {R = name_cmp} (named_bytes es))) i ≡ Some (k, v.items)
slice_get-entries es i k v ordered at = ap (λ l. slice_get l i) (entries-named_bytes es ordered) ∙ slice_get-map (λ e. (e.0, e.1.items)) es i ∙ ap (option_map (λ e. (e.0, e.1.items))) at

-- the empty map has no entries
pub entries-empty : entries (let none : Files = empty in none) ≡ []
entries-empty = ap entries (sym from_sorted-none) ∙ entries-named_bytes [] none_ordered

-- a file whose name is above all others goes to the end
pub put_last : (files : List (FileName × List ℕ)) (n : FileName) (bytes : List ℕ) → AllByRecursion (λ file. name_cmp file.0 n ≡ Less) files → put name_cmp n bytes files ≡ files ++ (n, bytes) ∷ []
put_last [] n bytes h = refl
put_last (f ∷ rest) n bytes h =
    let above : name_cmp n f.0 ≡ Greater = name_cmp_total.antisymm n f.0 ∙ ap ordering_reverse h.0 in
    ap (λ o. by_order o ((n, bytes) ∷ f ∷ rest) ((f.0, bytes) ∷ rest) (f ∷ put name_cmp n bytes rest)) above ∙ ap (λ l. f ∷ l) (put_last rest n bytes h.1)
