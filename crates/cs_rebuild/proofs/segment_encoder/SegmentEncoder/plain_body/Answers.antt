use Rattle.std.proofs.Common.{◌≡◌, ◌+◌, ◌*◌, ◌∷◌, [], ◌++◌, length, length-append, take, sym, ap, subst, ◌∙◌, arith}
use Rattle.std.specs.Vec.Iter.{into_iter_items}
use Rattle.cs_schema.specs.declared.kinds.Code.{Code}
use Rattle.cs_codec.specs.ColumnText.{column_text}
use Rattle.cs_piece.specs.Pieces.{IsPieceOf}
use Rattle.cs_board.specs.Pieces.{AnswersInOrder}
use Rattle.cs_segment.specs.SegmentWriter.{joined}
use Rattle.cs_rebuild.specs.Encoding.{cut_at}
use Rattle.cs_rebuild.specs.SegmentEncoder.{IsChunk, code_in, kind_in, values_in}
use Rattle.cs_rebuild.proofs.Encodings.{all_cuts, none_of, one_more}
use Rattle.cs_rebuild.proofs.Rests.{AnswersFrom, all_answers, first_answer, later_answers}
use Rattle.cs_rebuild.proofs.SegmentFiles.{column_whole, plain_begun, plain_grown}
use Rattle.cs_rebuild.proofs.segment_encoder.SegmentEncoder.plain_body.Goals as goal

pub loop-chunk-init : goal.loop-chunk-init
loop-chunk-init c =
    let e = c.args.self.now in
    let j = c.args.j in
    let gives = c.into_iter-chunk-iterator.ensures.into_iter_gives in
    record {
      left = omega (arith, gives.1, c.args.chunks.ok.0, c.requires.chunks.count);
      rest = all_answers (IsChunk e j) (into_iter_items c.into_iter-chunk-iterator.result) (subst (AnswersInOrder (IsChunk e j)) (sym gives.0) c.requires.chunks.each);
      body = plain_begun c.new-body.result.items (values_in e j (take (0 * e.cut) e.numbers.now)) c.new-body.ensures.items (none_of e j e.numbers.now e.cut);
    }

pub loop-chunk-preserved : goal.loop-chunk-preserved
loop-chunk-preserved c =
    let e = c.args.self.now in
    let j = c.args.j in
    let at = c.loop-chunk in
    let k = length at.yielded in
    let chunk = c.in-Some.chunk in
    let later = into_iter_items c.next.new.self in
    let rest = subst (AnswersFrom (IsChunk e j) k) c.in-Some.ensures.steps.0 at.invariant.rest in
    let one : length (at.yielded ++ chunk ∷ []) ≡ k + 1 = omega (arith, length-append at.yielded (chunk ∷ [])) in
    record {
      left = omega (arith, one, at.invariant.left, c.in-Some.ensures.steps.1);
      rest = later_answers (IsChunk e j) k (length (at.yielded ++ chunk ∷ [])) chunk later one rest;
      body =
          let piece = first_answer (IsChunk e j) k chunk later rest in
          let kind = kind_in e j in
          let back = values_in e j (cut_at e.cut e.numbers.now k) in
          plain_grown at.body.items c.push.new.self.items c.in_ok-piece_text.field-0 chunk kind (values_in e j (take (k * e.cut) e.numbers.now)) back
          c.in_ok-push.ensures.items c.in_ok-piece_text.ensures.text (subst (λ code. IsPieceOf chunk code kind back) c.requires.plain piece) at.invariant.body
          ∙ ap (column_text Code.Plain) (one_more e j e.numbers.now e.cut k)
          ∙ ap (λ n. column_text Code.Plain (values_in e j (take (n * e.cut) e.numbers.now))) (sym one);
    }

pub returns : goal.returns
returns c =
    let e = c.args.self.now in
    let j = c.args.j in
    column_whole (code_in e j) Code.Plain (kind_in e j) (values_in e j e.numbers.now) (joined c.loop-chunk.body.items) c.requires.plain
    (c.loop-chunk.invariant.body ∙ ap (column_text Code.Plain) (all_cuts e j e.numbers.now e.cut e.chunks (length c.loop-chunk.yielded) e.cut_range.0 e.chunks_are (omega (arith, c.loop-chunk.invariant.left, c.in-None.ensures.steps.0))))
