-- The bytes stand over the front of 24 zeros.
use Rattle.std.proofs.Common.{◌++◌, length, drop, replicate, subst, sym, rules, List, ℕ}
use Rattle.ap_base.specs.Pieces.{IsHeld, held-front}
use Rattle.ap_base.proofs.piece.Piece.new.Goals as goal

pub invariant_of-result : goal.invariant_of-result
invariant_of-result c =
    let bytes = c.args.bytes.now in
    let Held : List ℕ → Type 0 = λ front. IsHeld (length bytes) (front ++ drop (length bytes) (replicate 24 0)) in
    subst Held (sym c.copy_from_slice.ensures.after) (held-front bytes (search rules))
