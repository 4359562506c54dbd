-- A store whose rows are in order, and that no surviving file contradicts.
use Rattle.std.proofs.Common.{◌≡◌, ◌⊎◌, inl, inr, refl, sym, Option, Some, None, Ok, Err}
use Rattle.std.specs.Option.{option_or}
use Rattle.std.proofs.lemmas.Option.{none-some}
use Rattle.cs_schema.specs.declared.file_name.FileName.{FileName}
use Rattle.cs_schema.specs.CatalogData.{CatalogData}
use Rattle.cs_schema.specs.CatalogRules.{IsCatalog}
use Rattle.cs_schema.specs.FileNames.{FileContents}
use Rattle.cs_schema.specs.Losses.{Sites}
use Rattle.cs_store.specs.declared.fault.Fault.{Fault}
use Rattle.cs_store.specs.FileSet.{Files, contents_of}
use Rattle.cs_order.specs.Tables.{table_of}
use Rattle.cs_rows.specs.Survivors.{SurvivorsData, contents_of as held_by}
use Rattle.cs_recovery.specs.Expected.{written}
use Rattle.cs_recovery.specs.Verdicts.{IsVerdict, misplaced, misled}
use Rattle.cs_rebuild.specs.Answers.{IsAnswer}
use Rattle.cs_rebuild.specs.OnStore.{IsSound, IsStoreOf, contradiction_on, written_on}
use Rattle.cs_rebuild.specs.Steps.{AreOrdered, AreRead, AreSound, HoldsTable}
use Rattle.cs_rebuild.specs.declared.ordered_store.OrderedStore.{OrderedStore}
use Rattle.cs_rebuild.specs.declared.wanted.Answer.{Answer}
use Rattle.cs_rebuild.specs.declared.wanted.Wanted.{Wanted}
use Rattle.cs_rebuild.proofs.SoundFacts.{holds_table}
use Rattle.cs_rebuild.proofs.Verdicts.{on_store, misplaced_rows, misled_rows, sound_verdict}

-- if both are none, each is
pub neither_is : {X : Type 0} (a b : Option X) → option_or a b ≡ None → (a ≡ None) × (b ≡ None)
neither_is None b e = (refl, e)
neither_is (Some x) b e = absurd (none-some x (sym e))

-- the first of two that is some
either_is : {X : Type 0} (a b : Option X) (x : X) → option_or a b ≡ Some x → (a ≡ Some x) ⊎ ((a ≡ None) × (b ≡ Some x))
either_is None b x e = inr (refl, e)
either_is (Some y) b x e = inl e

module _ {C : CatalogData} {L : Sites} {v : SurvivorsData} (store : OrderedStore) (of : IsStoreOf C L v store) (ordered : AreOrdered C L v store.walked store.orders) where
  -- its contradiction, stated of the values it was made of
  contradicted : (o : Option Fault) → contradiction_on store ≡ o → option_or (misplaced C L (held_by v) (table_of C store.walked.rows)) (misled C L (held_by v) (table_of C store.walked.rows)) ≡ o
  contradicted o e = on_store (λ D K x w. option_or (misplaced D K (held_by x) (table_of D w.rows)) (misled D K (held_by x) (table_of D w.rows)) ≡ o) {w = store.walked} {t = store.walked} of.catalog of.loss of.survivors refl e

  module _ (none : contradiction_on store ≡ None) where
    pub sound : (F : FileContents) → AreRead C F L v → AreSound C F L v store.walked store.orders
    sound F read =
        let e = neither_is _ _ (contradicted None none) in
        record {
          read = read;
          walked = ordered.walked;
          rows_sound = ordered.rows_sound;
          placed = e.0;
          led = e.1;
          orders = ordered.orders;
        }

    pub is_sound : IsCatalog C → (read : (F : FileContents) × AreRead C F L v) → IsSound store
    is_sound cat read =
        let held = holds_table C cat read.0 L v store.walked store.orders (sound read.0 read.1) in
        (read.0, on_store (λ D K x w. HoldsTable D read.0 K x w) {w = store.walked} {t = store.walked} (sym of.catalog) (sym of.loss) (sym of.survivors) refl held)

  -- a contradiction is the verdict
  pub contradiction_is : (f : Fault) → contradiction_on store ≡ Some f → (F : FileContents) → AreRead C F L v → IsVerdict C F L (Err f)
  contradiction_is f e F read = go (either_is _ _ f (contradicted (Some f) e))
    where
      go : (misplaced C L (held_by v) (table_of C store.walked.rows) ≡ Some f) ⊎ ((misplaced C L (held_by v) (table_of C store.walked.rows) ≡ None) × (misled C L (held_by v) (table_of C store.walked.rows) ≡ Some f)) → IsVerdict C F L (Err f)
      go (inl h) = misplaced_rows C F L (held_by v) read.reads store.walked.rows ordered.walked.walk ordered.rows_sound f h
      go (inr h) = misled_rows C F L (held_by v) read.reads store.walked.rows ordered.walked.walk ordered.rows_sound h.0 f h.1

-- what is written for a sound store is what is wanted
pub recovered : {C : CatalogData} {L : Sites} {v : SurvivorsData} (store : OrderedStore) → IsStoreOf C L v store → (F : FileContents) → AreSound C F L v store.walked store.orders
    → (out : Files) → ((n : FileName) → contents_of out n ≡ written_on store n) → IsAnswer Wanted.Files C F L (Ok (Answer.Files out))
recovered {C} {L} {v} store of F sound out files = (
  table_of C store.walked.rows,
  sound_verdict C F L v store.walked store.orders sound,
  record {
    contents = held_by v;
    reads = sound.read.reads;
    files = on_store (λ D K x w. (n : FileName) → contents_of out n ≡ written D K (held_by x) (table_of D w.rows) n) {w = store.walked} {t = store.walked} of.catalog of.loss of.survivors refl files;
  },
)
