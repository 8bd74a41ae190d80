-- A piece of printed text gives its fields back.
use Rattle.std.specs.Prelude.{◌≡◌, List, ℕ, length, take}
use Rattle.std.proofs.Common.{ap, ◌∙◌}
use Rattle.ap_base.specs.declared.piece.Piece.TheInside.{Inside}
use Rattle.ap_base.specs.Pieces.{IsHeld, filled, filled-take, length-held}

abbrev pub piece_of : List ℕ → Inside
piece_of bytes = record { bytes = filled bytes; length = length bytes }

pub piece_of-take : (piece : Inside) → IsHeld piece.length piece.bytes → piece_of (take piece.length piece.bytes) ≡ piece
piece_of-take piece held =
    let make : List ℕ → ℕ → Inside = λ bytes count. record { bytes = bytes; length = count } in
    ap (λ bytes. make bytes (length (take piece.length piece.bytes))) (filled-take piece.length piece.bytes held)
    ∙ ap (make piece.bytes) (length-held piece.length piece.bytes held)
