-- Texts that are made of pieces.
use Rattle.std.specs.Prelude.{List, flat_map, decimal}
use Rattle.hls_text.specs.Lines.{Text}
use Rattle.hls_view_pieces.specs.declared.pieces.Piece.{Piece}
use Rattle.hls_view_pieces.specs.declared.pieces.Piece.TheVariants as pieces

abbrev pub piece_text : Piece → Text
piece_text (pieces.Text text) = text.now
piece_text (pieces.Number n) = decimal n

-- some texts, one behind the other
abbrev pub as_one : List Text → Text
as_one texts = flat_map (λ text. text) texts
