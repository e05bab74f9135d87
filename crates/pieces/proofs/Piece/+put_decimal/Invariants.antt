-- What `put_decimal` makes less where it calls itself: the number, of which a tenth is left.
use Rattle.pieces.proofs.Piece.+put_decimal.Given as goal

abbrev pub decreases-put_decimal : goal.decreases-put_decimal
decreases-put_decimal l = l.number
