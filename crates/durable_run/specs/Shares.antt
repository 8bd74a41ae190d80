-- How many bytes each print of a run takes.
use Rattle.std.specs.Prelude.{◌≡◌, ℕ, List, ◌∷◌, ◌++◌, length, Option, Some, None, IfSome}
use Rattle.natives.specs.declared.requests.Request.TheVariants as ask
use Rattle.run_history.specs.declared.act.Op.{Op}
use Rattle.run_history.specs.declared.act.Op.TheVariants as op
use Rattle.run_history.specs.Recorded.{Recorded}
use Rattle.plain_model.specs.Requests.{PlainRequest}
use Rattle.plain_model.specs.Runs.{output_of, request_after}
use Rattle.run_forms.specs.Standing.{Launch, plain_code}
use Rattle.durable_run.specs.Telling.{LeavesShares}

-- the piece that a request prints, if it is a print
abbrev pub piece_of : Option PlainRequest → Option (List ℕ)
piece_of (Some (ask.Print from piece)) = Some piece
piece_of request = None

-- what thread t asks to print after these acts of a plain run of the launch
abbrev pub piece_after : Launch → List Recorded → ℕ → Option (List ℕ)
piece_after launch acts t =
    piece_of (request_after launch.set launch.main launch.opening (plain_code launch) acts t)

-- What an operation prints of the piece that is asked, if one is, is as many bytes as a sink takes of the whole, where it tells that.
abbrev pub IsShareOfPiece : Option (List ℕ) → (ℕ → Option ℕ) → Op → Type 0
IsShareOfPiece (Some piece) takes (op.Print bytes) = IfSome (takes (length piece)) (λ m. length bytes ≡ m)
IsShareOfPiece piece takes operation = Unit {0}

-- Wherever an act stands behind the old ones, it prints the share that the sink takes of its piece behind what was printed since.
abbrev pub EachPrintsItsShare : Launch → (ℕ → ℕ → Option ℕ) → (old new : List Recorded) → Type 0
EachPrintsItsShare launch takes old new = (before : List Recorded) (a : Recorded) (behind : List Recorded)
    → new ≡ old ++ before ++ a ∷ behind
    → IsShareOfPiece (piece_after launch (old ++ before) a.act.thread) (takes (length (output_of before))) a.act.op

-- Each print of the further acts takes its share, and behind them all the sink takes what it would have taken before.
pub record PrintsShares (launch : Launch) (takes takes' : ℕ → ℕ → Option ℕ) (old new : List Recorded) : Type 0 where
  pub each : EachPrintsItsShare launch takes old new
  pub leaves : LeavesShares takes takes' old new
