-- What exception entries say, as the code says it.
use Rattle.frames.specs.Tables.{Caught, Goes, Fails}
use Rattle.frame_steps.specs.declared.throws.Catching.{Catching}
use Rattle.frame_steps.specs.declared.throws.Catching.TheVariants as catching

-- where no entry says anything, the later ones do
abbrev pub caught_or : Caught → Catching → Caught
caught_or later catching.Passes = later
caught_or later (catching.Goes target) = Goes target
caught_or later (catching.Fails link) = Fails link
