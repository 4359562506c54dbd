use Rattle.std.proofs.Common.{◌≡◌, ◌≤◌, ◌+◌, ℕ, List, [], ◌∷◌, ◌++◌, length, false, is_err, Result, Ok, Err, sym, ◌∙◌, arith}
use Rattle.std.specs.Prelude.{IsUtf8, OnOk}
use Rattle.std.proofs.lemmas.Bool.{false≢true}
use Rattle.cs_schema.specs.Blocks.{IsBlock, IsBlockOf, pieces}
use Rattle.cs_schema.proofs.Blocks.{kept, block-push, block_of, pieces_of}
use Rattle.cs_schema.proofs.texts.Texts.push.Goals as goal

ok_of : {A E : Type 0} (r : Result A E) (P : Type 0) → is_err r ≡ false → OnOk r P → P
ok_of (Ok x) P h k = k
ok_of (Err e) P h k = absurd (false≢true (sym h))

pushed : (ts : List (List ℕ)) (b e d f t u : List ℕ) (end : ℕ) → pieces b e ≡ ts → IsBlock b e → IsUtf8 t → length t ≤ 255 → u ≡ t → d ≡ b ++ u → f ≡ e ++ end ∷ [] → end ≡ length b + length t → IsBlockOf (ts ++ t ∷ []) d f
pushed ts b e d f t u end v h w l ht hd hf at =
    rw (hd, hf, ht) (block-push ts b e t end (kept ts b e v h) w l at)

abbrev made : (c : goal.Else-is_err) → IsBlockOf (c.args.self.now ++ c.args.text.now ∷ []) c.extend_from_slice.new.self.items c.push.new.self
made c =
    let ends = ok_of c.push.result _ (sym c.is_err.ensures.value ∙ c.if-is_err.false) c.push.ensures.ok in
    let sized = c.self.inside.bytes.ok in
    pushed c.args.self.now c.self.inside.bytes.items c.self.inside.ends _ _ c.args.text.now c.as_bytes.result.now _ c.self.view_is c.self.invariant c.utf8.text c.requires c.as_bytes.ensures.value c.in_ok-extend_from_slice.ensures.items ends (omega (arith, sized.0, c.len-count.ensures))

pub invariant_of-self-else-is_err : goal.invariant_of-self-else-is_err
invariant_of-self-else-is_err c = block_of _ _ _ (made c)

pub returns-clause-ok : goal.returns-clause-ok
returns-clause-ok c = pieces_of _ _ _ (made c)
