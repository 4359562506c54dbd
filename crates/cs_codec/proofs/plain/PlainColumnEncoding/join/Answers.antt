use Rattle.std.proofs.Common.{◌++◌, ap, sym, ◌∙◌, arith}
use Rattle.std.proofs.lemmas.List.{length-append}
use Rattle.cs_codec.specs.Texts.{plain_text}
use Rattle.cs_codec.specs.Plain.{kept_bytes}
use Rattle.cs_codec.proofs.PlainLemmas.{plain_text-append}
use Rattle.cs_codec.proofs.plain.PlainColumnEncoding.join.Goals as goal

pub returns : goal.returns
returns g c = λ x y l r. record {
  bytes_are = c.in_ok-write_to.ensures
      ∙ ap (λ w. w ++ kept_bytes c.args.right.lone c.args.right.bytes.items) c.in_ok-bytes.ensures
      ∙ ap (λ w. w ++ kept_bytes c.args.right.lone c.args.right.bytes.items) l.bytes_are
      ∙ ap (λ w. plain_text g.C.Cell.bytes x ++ w) r.bytes_are
      ∙ sym (plain_text-append g.C.Cell.bytes x y);
  count_is = omega (arith, length-append x y, l.count_is, r.count_is);
}
