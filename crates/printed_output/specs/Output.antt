-- Bytes against what acts print, piece by piece.
use Rattle.std.specs.Prelude.{◌≡◌, ◌↔◌, ℕ, nat_eq, Bool, true, false, List, [], ◌∷◌, Option, Some, None, if◌then◌else◌}
use Rattle.run_history.specs.Recorded.{Recorded}
use Rattle.plain_model.specs.Runs.{output_of, printed_by}

-- what stands behind a piece, where the bytes begin with it
abbrev pub behind : (piece bytes : List ℕ) → Option (List ℕ)
behind [] bytes = Some bytes
behind (p ∷ ps) [] = None
behind (p ∷ ps) (b ∷ bs) = if nat_eq p b then behind ps bs else None

abbrev pub is_empty : List ℕ → Bool
is_empty [] = true
is_empty (b ∷ bs) = false

-- whether the bytes begin with each piece in turn, and nothing is left
abbrev pub is_output : List Recorded → List ℕ → Bool
is_output [] bytes = is_empty bytes
is_output (a ∷ acts) bytes = elim (behind (printed_by a.act.op) bytes) [ None ↦ false | Some rest ↦ is_output acts rest ]

abbrev pub OutputsAreTold : Type 0
OutputsAreTold = (acts : List Recorded) (bytes : List ℕ) → (is_output acts bytes ≡ true) ↔ (output_of acts ≡ bytes)
