-- When pieces fit together.
use Rattle.std.proofs.Common.{Bool, IsTrue, List, ◌++◌}
use Rattle.cs_schema.specs.declared.kinds.Code.{Code}
use Rattle.cs_schema.specs.declared.kinds.Kind.{Kind}
use Rattle.cs_schema.specs.declared.cells.Value.{Value}
use Rattle.cs_piece.specs.declared.pieces.Piece.{Piece}
use Rattle.cs_piece.specs.Columns.{CanEncode}
use Rattle.cs_piece.specs.Pieces.{IsPieceOf, PiecesFit, TellsFit}

-- two pieces of one code and kind fit if their values can be encoded together
pub pieces_fit : (left right : Piece) (code : Code) (kind : Kind) (x y : List Value) → IsPieceOf left code kind x → IsPieceOf right code kind y → CanEncode code kind (x ++ y) → PiecesFit left right
pieces_fit left right code kind x y hx hy fits = record { code = code; kind = kind; front = x; back = y; left_is = hx; right_is = hy; fits = fits }

-- two pieces fit if `can_join` says so
pub told_fit : (left right : Piece) (told : Bool) (code : Code) (kind : Kind) (x y : List Value) → TellsFit left right told → IsTrue told → IsPieceOf left code kind x → IsPieceOf right code kind y → PiecesFit left right
told_fit left right told code kind x y tells said hx hy = pieces_fit left right code kind x y hx hy ((tells code code kind kind x y hx hy).0 said).2
