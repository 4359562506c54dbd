-- A map from the cells that were seen to their places, one cell more.
use Rattle.std.proofs.Common.{◌≡◌, ◌≢◌, ℕ, ◌+◌, ◌<◌, false, List, refl, sym, ap, subst, ◌∙◌, inl, inr, arith, below_more, Some, None}
use Rattle.std.proofs.lemmas.Bool.{cases_Bool}
use Rattle.std.proofs.lemmas.Option.{none-some, same_Some}
use Rattle.std.specs.BTreeMap.{BTreeMap, Updates, get}
use Rattle.cs_schema.specs.declared.cells.Value.{Value}
use Rattle.cs_schema.specs.Rows.{cell}
use Rattle.cs_schema.specs.Values.{value_cmp, value_eq}
use Rattle.cs_recovery.proofs.Exact.{value_decides}
use Rattle.cs_tables.specs.Repeats.{AreDistinctBefore}

-- the first n cells, which differ, are in the map with their places, and nothing else is
pub record AreSeen (keys : List Value) (n : ℕ) (m : BTreeMap Value ℕ) : Type 0 where
  pub known : (j : ℕ) → j < n → get value_cmp m (cell keys j) ≡ Some j
  pub placed : (k : Value) (v : ℕ) → get value_cmp m k ≡ Some v → (v < n) × (cell keys v ≡ k)
  pub distinct : AreDistinctBefore keys n

module _ (keys : List Value) (n : ℕ) (m new : BTreeMap Value ℕ) (key : Value) (seen : AreSeen keys n m) (here : key ≡ cell keys n) (absent : get value_cmp m key ≡ None) (updates : Updates value_cmp m new key (Some n)) where
  -- no cell before is this one
  other : (j : ℕ) → j < n → key ≢ cell keys j
  other j l e = none-some j (sym absent ∙ ap (get value_cmp m) e ∙ seen.known j l)

  apart : (j : ℕ) → j < n → value_eq key (cell keys j) ≡ false
  apart j l = elim (cases_Bool (value_eq key (cell keys j))) [
    | inl e ↦ absurd (other j l ((value_decides key (cell keys j)).0 e))
    | inr e ↦ e
  ]

  found : (k : Value) (v : ℕ) → get value_cmp new k ≡ Some v → (v < n + 1) × (cell keys v ≡ k)
  found k v e = elim (cases_Bool (value_eq key k)) [
    | inl same ↦
        let at : get value_cmp new k ≡ Some n = updates.0 k ∙ rw same refl in
        let is : n ≡ v = same_Some n v (sym at ∙ e) in
        (omega arith, subst (λ (i : ℕ). cell keys i ≡ k) is (sym here ∙ (value_decides key k).0 same))
    | inr ne ↦
        let old = seen.placed k v (sym (updates.2 k ne) ∙ e) in
        (omega (arith, old.0), old.1)
  ]

  pub seen-more : AreSeen keys (n + 1) new
  seen-more = record {
    known = below_more (λ j. get value_cmp new (cell keys j) ≡ Some j) n
        (λ j l. updates.2 (cell keys j) (apart j l) ∙ seen.known j l)
        (subst (λ (k : Value). get value_cmp new k ≡ Some n) here updates.1);
    placed = found;
    distinct = λ i j l k. below_more (λ b. (a : ℕ) → a < b → cell keys a ≢ cell keys b) n
        (λ b h a g. seen.distinct a b g h)
        (λ a g e. other a g (here ∙ sym e)) j k i l;
  }
