use Rattle.std.proofs.Common.{sym, ap, subst, List, map}
use Rattle.cs_schema.specs.declared.kinds.Code.{Code}
use Rattle.cs_schema.specs.declared.kinds.Kind.{Kind}
use Rattle.cs_schema.specs.declared.cells.Value.{Value}
use Rattle.cs_schema.specs.Values.{values, kind_of}
use Rattle.cs_piece.specs.declared.pieces.Piece.{Piece}
use Rattle.cs_piece.specs.Columns.{CanEncode}
use Rattle.cs_piece.specs.Pieces.{IsPieceOf}
use Rattle.cs_piece.proofs.Variants.{int_runs, text_runs, int_bitmaps, text_bitmaps, rising_ints, plain_ints, plain_texts, can_at}
use Rattle.cs_piece.proofs.pieces.encode_piece.Goals as goal
use Rattle.cs_piece.proofs.pieces.encode_piece.Goals.{in-Runs-Ints+in_ok-encode_all-in-Runs-Ints, in-Runs-Texts+in_ok-encode_all-in-Runs-Texts, in-Bitmaps-Ints+in_ok-encode_all-in-Bitmaps-Ints, in-Bitmaps-Texts+in_ok-encode_all-in-Bitmaps-Texts, in-Differences-Ints+in_ok-encode_all-in-Differences-Ints, in-Plain-Ints+in_ok-encode_all-in-Plain-Ints, in-Plain-Texts+in_ok-encode_all-in-Plain-Texts, in-Differences-Texts}

pub encode_all-requires : goal.encode_all-requires
encode_all-requires c =
    int_runs.fits_from _ (can_at c.args.code Code.Runs (kind_of c.args.cells.now) Kind.Int (map Value.Int c.in-Runs-Ints.cells.items) c.in-Runs-Ints.is-0 (ap kind_of c.in-Runs-Ints.is-1) (subst (λ (w : List Value). CanEncode c.args.code (kind_of c.args.cells.now) w) (ap values c.in-Runs-Ints.is-1) c.requires))

pub encode_all-requires-in-Runs-Texts : goal.encode_all-requires-in-Runs-Texts
encode_all-requires-in-Runs-Texts c =
    text_runs.fits_from _ (can_at c.args.code Code.Runs (kind_of c.args.cells.now) Kind.Text (map Value.Text c.in-Runs-Texts.cells) c.in-Runs-Texts.is-0 (ap kind_of c.in-Runs-Texts.is-1) (subst (λ (w : List Value). CanEncode c.args.code (kind_of c.args.cells.now) w) (ap values c.in-Runs-Texts.is-1) c.requires))

pub encode_all-requires-in-Bitmaps-Ints : goal.encode_all-requires-in-Bitmaps-Ints
encode_all-requires-in-Bitmaps-Ints c =
    int_bitmaps.fits_from _ (can_at c.args.code Code.Bitmaps (kind_of c.args.cells.now) Kind.Int (map Value.Int c.in-Bitmaps-Ints.cells.items) c.in-Bitmaps-Ints.is-0 (ap kind_of c.in-Bitmaps-Ints.is-1) (subst (λ (w : List Value). CanEncode c.args.code (kind_of c.args.cells.now) w) (ap values c.in-Bitmaps-Ints.is-1) c.requires))

pub encode_all-requires-in-Bitmaps-Texts : goal.encode_all-requires-in-Bitmaps-Texts
encode_all-requires-in-Bitmaps-Texts c =
    text_bitmaps.fits_from _ (can_at c.args.code Code.Bitmaps (kind_of c.args.cells.now) Kind.Text (map Value.Text c.in-Bitmaps-Texts.cells) c.in-Bitmaps-Texts.is-0 (ap kind_of c.in-Bitmaps-Texts.is-1) (subst (λ (w : List Value). CanEncode c.args.code (kind_of c.args.cells.now) w) (ap values c.in-Bitmaps-Texts.is-1) c.requires))

pub encode_all-requires-in-Differences-Ints : goal.encode_all-requires-in-Differences-Ints
encode_all-requires-in-Differences-Ints c =
    rising_ints.fits_from _ (can_at c.args.code Code.Differences (kind_of c.args.cells.now) Kind.Int (map Value.Int c.in-Differences-Ints.cells.items) c.in-Differences-Ints.is-0 (ap kind_of c.in-Differences-Ints.is-1) (subst (λ (w : List Value). CanEncode c.args.code (kind_of c.args.cells.now) w) (ap values c.in-Differences-Ints.is-1) c.requires))

pub encode_all-requires-in-Plain-Ints : goal.encode_all-requires-in-Plain-Ints
encode_all-requires-in-Plain-Ints c =
    plain_ints.fits_from _ (can_at c.args.code Code.Plain (kind_of c.args.cells.now) Kind.Int (map Value.Int c.in-Plain-Ints.cells.items) c.in-Plain-Ints.is-0 (ap kind_of c.in-Plain-Ints.is-1) (subst (λ (w : List Value). CanEncode c.args.code (kind_of c.args.cells.now) w) (ap values c.in-Plain-Ints.is-1) c.requires))

pub encode_all-requires-in-Plain-Texts : goal.encode_all-requires-in-Plain-Texts
encode_all-requires-in-Plain-Texts c =
    plain_texts.fits_from _ (can_at c.args.code Code.Plain (kind_of c.args.cells.now) Kind.Text (map Value.Text c.in-Plain-Texts.cells) c.in-Plain-Texts.is-0 (ap kind_of c.in-Plain-Texts.is-1) (subst (λ (w : List Value). CanEncode c.args.code (kind_of c.args.cells.now) w) (ap values c.in-Plain-Texts.is-1) c.requires))

pub returns : goal.returns
returns c = elim c.match-code.branch [
  | in-Runs-Ints+in_ok-encode_all-in-Runs-Ints w ↦
      subst (λ (p : Piece). IsPieceOf p c.args.code (kind_of c.args.cells.now) (values c.args.cells.now)) (sym w.result-is) (record {
        code_is = sym w.in-Runs-Ints.is-0;
        kind_is = sym (ap kind_of w.in-Runs-Ints.is-1);
        holds = record { cells = w.in-Runs-Ints.cells.items; values_are = ap values w.in-Runs-Ints.is-1; part_is = w.in_ok-encode_all-in-Runs-Ints.ensures };
      })
  | in-Runs-Texts+in_ok-encode_all-in-Runs-Texts w ↦
      subst (λ (p : Piece). IsPieceOf p c.args.code (kind_of c.args.cells.now) (values c.args.cells.now)) (sym w.result-is) (record {
        code_is = sym w.in-Runs-Texts.is-0;
        kind_is = sym (ap kind_of w.in-Runs-Texts.is-1);
        holds = record { cells = w.in-Runs-Texts.cells; values_are = ap values w.in-Runs-Texts.is-1; part_is = w.in_ok-encode_all-in-Runs-Texts.ensures };
      })
  | in-Bitmaps-Ints+in_ok-encode_all-in-Bitmaps-Ints w ↦
      subst (λ (p : Piece). IsPieceOf p c.args.code (kind_of c.args.cells.now) (values c.args.cells.now)) (sym w.result-is) (record {
        code_is = sym w.in-Bitmaps-Ints.is-0;
        kind_is = sym (ap kind_of w.in-Bitmaps-Ints.is-1);
        holds = record { cells = w.in-Bitmaps-Ints.cells.items; values_are = ap values w.in-Bitmaps-Ints.is-1; part_is = w.in_ok-encode_all-in-Bitmaps-Ints.ensures };
      })
  | in-Bitmaps-Texts+in_ok-encode_all-in-Bitmaps-Texts w ↦
      subst (λ (p : Piece). IsPieceOf p c.args.code (kind_of c.args.cells.now) (values c.args.cells.now)) (sym w.result-is) (record {
        code_is = sym w.in-Bitmaps-Texts.is-0;
        kind_is = sym (ap kind_of w.in-Bitmaps-Texts.is-1);
        holds = record { cells = w.in-Bitmaps-Texts.cells; values_are = ap values w.in-Bitmaps-Texts.is-1; part_is = w.in_ok-encode_all-in-Bitmaps-Texts.ensures };
      })
  | in-Differences-Ints+in_ok-encode_all-in-Differences-Ints w ↦
      subst (λ (p : Piece). IsPieceOf p c.args.code (kind_of c.args.cells.now) (values c.args.cells.now)) (sym w.result-is) (record {
        code_is = sym w.in-Differences-Ints.is-0;
        kind_is = sym (ap kind_of w.in-Differences-Ints.is-1);
        holds = record { cells = w.in-Differences-Ints.cells.items; values_are = ap values w.in-Differences-Ints.is-1; part_is = w.in_ok-encode_all-in-Differences-Ints.ensures };
      })
  | in-Plain-Ints+in_ok-encode_all-in-Plain-Ints w ↦
      subst (λ (p : Piece). IsPieceOf p c.args.code (kind_of c.args.cells.now) (values c.args.cells.now)) (sym w.result-is) (record {
        code_is = sym w.in-Plain-Ints.is-0;
        kind_is = sym (ap kind_of w.in-Plain-Ints.is-1);
        holds = record { cells = w.in-Plain-Ints.cells.items; values_are = ap values w.in-Plain-Ints.is-1; part_is = w.in_ok-encode_all-in-Plain-Ints.ensures };
      })
  | in-Plain-Texts+in_ok-encode_all-in-Plain-Texts w ↦
      subst (λ (p : Piece). IsPieceOf p c.args.code (kind_of c.args.cells.now) (values c.args.cells.now)) (sym w.result-is) (record {
        code_is = sym w.in-Plain-Texts.is-0;
        kind_is = sym (ap kind_of w.in-Plain-Texts.is-1);
        holds = record { cells = w.in-Plain-Texts.cells; values_are = ap values w.in-Plain-Texts.is-1; part_is = w.in_ok-encode_all-in-Plain-Texts.ensures };
      })
  | in-Differences-Texts w ↦
      subst (λ (p : Piece). IsPieceOf p c.args.code (kind_of c.args.cells.now) (values c.args.cells.now)) (sym w.result-is) (record {
        code_is = sym w.in-Differences-Texts.is-0;
        kind_is = sym (ap kind_of w.in-Differences-Texts.is-1);
        holds = (can_at c.args.code Code.Differences (kind_of c.args.cells.now) Kind.Text (values c.args.cells.now) w.in-Differences-Texts.is-0 (ap kind_of w.in-Differences-Texts.is-1) c.requires).order;
      })
]
