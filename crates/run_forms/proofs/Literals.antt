-- Frames that push the same literals take the same turns, and whatever the literals are they answer alike.
use Rattle.std.proofs.Common.{◌≡◌, ℕ, zero, suc, Bool, true, false, List, [], ◌∷◌, Option, Some, None, refl, ap, ◌∙◌}
use Rattle.run_types.specs.declared.key.Key.{Key}
use Rattle.natives.specs.declared.requests.Request.{Request}
use Rattle.natives.specs.declared.requests.Reply.{Reply}
use Rattle.frame_cells.specs.declared.cell.Cell.TheVariants.{Reference}
use Rattle.frame_cells.specs.Own.{Own}
use Rattle.frame_cells.specs.Families.{pushes}
use Rattle.frames.specs.declared.op.Op.{Op}
use Rattle.frames.specs.declared.op.Op.TheVariants as op
use Rattle.frames.specs.Settings.{Frame, Running, Native, Initialiser, Main, Doing, Runs, Frames, Setting}
use Rattle.frames.specs.Tables.{placed_at}
use Rattle.frames.specs.Calls.{Stepped, after}
use Rattle.frames.specs.Turns.{does, frame_does, one, turn_of, turn_if, turn, answer}

module _ {M R N V : Type 0} (x : Setting M R N V) (l : ℕ → R) where
  abbrev pub with_literals : Setting M R N V
  with_literals = record x { literal = l }

  abbrev pub IsSameLiteral : Op → Type 0
  IsSameLiteral (op.PushLiteral k) = l k ≡ x.literal k
  IsSameLiteral other = Unit {0}

  does-same : (o : Op) (m at : ℕ) (own : Own R) (held : Option (Key R)) (below : List (Frame R N))
      → IsSameLiteral o → does with_literals o m at own held below ≡ does x o m at own held below
  does-same (op.PushLiteral k) m at own held below e =
      ap (λ r. after x m at held below (pushes (Reference r) own)) e
  does-same o m at own held below e = refl

  module _ (same : (at : ℕ) → IsSameLiteral (placed_at x.program at).op) where
    frame-same : (frames : List (Frame R N)) → frame_does with_literals frames ≡ frame_does x frames
    frame-same [] = refl
    frame-same (Running m at own held ∷ below) =
        does-same (placed_at x.program at).op m at own held below (same at)
    frame-same (Native from state ∷ below) = refl
    frame-same (Initialiser class from ∷ below) = refl
    frame-same (Main m arguments ∷ below) = refl

    one-same : (doing : Doing R) (frames : List (Frame R N)) (paused : Bool)
        → let fs : Frames R N = record { doing = doing; frames = frames; paused = paused } in
        one with_literals fs ≡ one x fs
    one-same Runs frames paused = frame-same frames
    one-same doing frames paused = refl

    abbrev go : (Frames R N → Stepped R N V) → Stepped R N V → Option (Request R V) → Stepped R N V
    go turns s None = turns s.frames
    go turns s (Some request) = s

    go-same : (f g : Frames R N → Stepped R N V) → ((fs : Frames R N) → f fs ≡ g fs) → (s : Stepped R N V)
        → (asks : Option (Request R V)) → go f s asks ≡ go g s asks
    go-same f g e s None = e s.frames
    go-same f g e s (Some request) = refl

    turn_of-same : (fuel : ℕ) (fs : Frames R N) → turn_of with_literals fuel fs ≡ turn_of x fuel fs
    turn_of-same zero fs = refl
    turn_of-same (suc fuel) fs =
        ap (λ (s : Stepped R N V). go (turn_of with_literals fuel) s s.asks)
        (one-same fs.doing fs.frames fs.paused)
        ∙ go-same (turn_of with_literals fuel) (turn_of x fuel) (turn_of-same fuel) (one x fs) (one x fs).asks

    turn_if-same : (paused : Bool) (fs : Frames R N)
        → turn_if with_literals paused fs ≡ turn_if x paused fs
    turn_if-same true fs = refl
    turn_if-same false fs = turn_of-same 1024 fs

    pub turn-same : (fs : Frames R N) → turn with_literals fs ≡ turn x fs
    unfolding turn
    turn-same fs = turn_if-same fs.paused fs

  pub answer-same : (fs : Frames R N) (r : Reply R V) → answer with_literals fs r ≡ answer x fs r
  unfolding answer
  answer-same fs r = refl
