-- How a list of tables is read, one by one.
use Rattle.std.proofs.Common.{◌≡◌, ◌==◌, ◌<◌, ◌+◌, ℕ, zero, suc, false, ◌||◌, List, [], ◌∷◌, ◌++◌, length, map, get_or, Option, None, Some, slice_get, arith, below_more, sym, ap, refl, ◌∙◌}
use Rattle.std.proofs.lemmas.Cmp.{nat_eq_equiv}
use Rattle.std.proofs.lemmas.List.{map-append}
use Rattle.std.proofs.lemmas.Map.Keys.{IsDistinct-push}
use Rattle.std.proofs.lemmas.Option.{none-some, same_Some, slice_get-map, slice_get_read}
use Rattle.std.specs.List.{list_any, IsDistinct}
use Rattle.std.specs.Option.{option_map, option_and_then}
use Rattle.toml.specs.Data.{Data}
use Rattle.toml.specs.View.{view}
use Rattle.toml.specs.declared.value.Value.{Value}
use Rattle.cs_sites.specs.Reading.{SiteText, entry_of, folder_of, number_of, IsBadTable, IsBadList}
use Rattle.cs_sites.specs.Placing.{folder_at}
use Rattle.cs_sites.specs.declared.fault.SitesFault.{SitesFault}
use Rattle.cs_sites.specs.declared.fault.SitesFault.TheVariants.{Memory, TooLong, Toml, NoSites, Number, Folder, Twice, Unknown, Missing}

-- a bad table makes the list bad
pub bad_list : (tables : List Data) (at : ℕ) (d : Data) → slice_get tables at ≡ Some d → (fault : SitesFault) → IsBadTable at d fault → IsBadList tables fault
bad_list tables at d stands Memory bad = tt
bad_list tables at d stands TooLong bad = absurd bad
bad_list tables at d stands Toml bad = absurd bad
bad_list tables at d stands NoSites bad = absurd bad
bad_list tables at d stands (Number k) bad = rw (bad.0, stands) bad.1
bad_list tables at d stands (Folder k) bad = rw (bad.0, stands) bad.1
bad_list tables at d stands (Twice n) bad = absurd bad
bad_list tables at d stands (Unknown n) bad = absurd bad
bad_list tables at d stands (Missing n) bad = absurd bad

-- the table at a place, as data
pub table_at : (values : List Value) (at : ℕ) (v : Value) → at < length values → v ≡ get_or values at v → slice_get (map view values) at ≡ Some (view v)
table_at values at v within is = slice_get-map view values at ∙ ap (option_map view) (slice_get_read values (length values) at v refl within is)

-- the entries that have this number, by their numbers
numbers-any : (es : List SiteText) (n : ℕ) → list_any (λ k. n == k) (map (λ e. e.number) es) ≡ list_any (λ e. e.number == n) es
numbers-any [] n = refl
numbers-any (e ∷ es) n = rw (nat_eq_equiv.symm n e.number) (ap (λ b. (e.number == n) || b) (numbers-any es n))

-- one more number, which none of those before is
pub distinct_more : (es : List SiteText) (e : SiteText) → IsDistinct ◌==◌ (map (λ x. x.number) es) → list_any (λ x. x.number == e.number) es ≡ false
    → IsDistinct ◌==◌ (map (λ x. x.number) (es ++ e ∷ []))
distinct_more es e distinct none =
    rw map-append (IsDistinct-push nat_eq_equiv (map (λ x. x.number) es) e.number distinct (numbers-any es e.number ∙ none))

pub distinct_none : IsDistinct ◌==◌ (map (λ x. x.number) (let none : List SiteText = [] in none))
unfolding IsDistinct
distinct_none = tt

both_read : (n : Option ℕ) (f : Option (List ℕ)) (e : SiteText) → option_and_then (λ number. option_map (λ folder. record { number = number; folder = folder }) f) n ≡ Some e → n ≡ Some e.number
both_read None f e h = absurd (none-some e h)
both_read (Some n) None e h = absurd (none-some e h)
both_read (Some n) (Some f) e h = ap (λ x. Some x.number) (same_Some _ _ h)

-- an entry has the number of its table
pub entry-number : (d : Data) (e : SiteText) → entry_of d ≡ Some e → number_of d ≡ Some e.number
entry-number d e h = both_read (number_of d) (folder_of d) e h

-- what stands in a list that got one more item
pushed_before : {X : Type 0} (xs : List X) (x : X) (k : ℕ) → k < length xs → slice_get (xs ++ x ∷ []) k ≡ slice_get xs k
pushed_before [] x k h = absurd (omega arith)
pushed_before (y ∷ ys) x zero h = refl
pushed_before (y ∷ ys) x (suc k) h = pushed_before ys x k (omega arith)

pushed_last : {X : Type 0} (xs : List X) (x : X) → slice_get (xs ++ x ∷ []) (length xs) ≡ Some x
pushed_last [] x = refl
pushed_last (y ∷ ys) x = pushed_last ys x

-- one more folder, which is that of the next site
pub folders_more : {X : Type 0} (f : X → List ℕ) (es : List SiteText) (xs : List X) (x : X) (n : ℕ) → length xs ≡ n → ((k : ℕ) → k < n → slice_get (map f xs) k ≡ folder_at es (k + 1))
    → Some (f x) ≡ folder_at es (n + 1) → (k : ℕ) → k < n + 1 → slice_get (map f (xs ++ x ∷ [])) k ≡ folder_at es (k + 1)
folders_more f es xs x n count each last =
    let before = λ (k : ℕ) (h : k < n). slice_get-map f (xs ++ x ∷ []) k ∙ ap (option_map f) (pushed_before xs x k (omega arith)) ∙ sym (slice_get-map f xs k) ∙ each k h in
    let at_end = ap (slice_get (map f (xs ++ x ∷ []))) (sym count) ∙ slice_get-map f (xs ++ x ∷ []) (length xs) ∙ ap (option_map f) (pushed_last xs x) ∙ last in
    below_more (λ k. slice_get (map f (xs ++ x ∷ [])) k ≡ folder_at es (k + 1)) n before at_end
