-- Rows of the kept lists that words pick: bit t is thread t's, of its closing region and of its store that isn't fenced alike, and an open
-- region is kept by none.
use Rattle.std.specs.Prelude.{◌≡◌, List, [], ◌∷◌}
use Rattle.run_history.specs.declared.act.Op.{Op}
use Rattle.run_history.specs.declared.act.Op.TheVariants as op
use Rattle.run_history.specs.Knowing.{Closing, Mark, Open, Single, Sure}
use Rattle.audit_verdicts.specs.Picked.{kept_by}

-- a sure act, thread 1's closing region, thread 0's store, and thread 2's open region
abbrev pub four_marks : List Mark
four_marks =
    record { fate = Sure; op = op.Pause }
    ∷ record { fate = Closing 1; op = op.Begin }
    ∷ record { fate = Single 0; op = op.End }
    ∷ record { fate = Open 2; op = op.Joined }
    ∷ []

pub record WordsPickByThreads : Type 0 where
  pub none : kept_by 0 four_marks ≡ op.Pause ∷ []
  pub first : kept_by 1 four_marks ≡ op.Pause ∷ op.End ∷ []
  pub second : kept_by 2 four_marks ≡ op.Pause ∷ op.Begin ∷ []
  pub both : kept_by 3 four_marks ≡ op.Pause ∷ op.Begin ∷ op.End ∷ []
  pub third : kept_by 4 four_marks ≡ op.Pause ∷ []
