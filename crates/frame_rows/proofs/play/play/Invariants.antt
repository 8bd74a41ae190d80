use Rattle.frame_steps.specs.Sized.{AreOf}
use Rattle.program_host.specs.Hosts.{setting_in}
use Rattle.frame_rows.proofs.play.play.Given as goal

abbrev pub invariant-loop-turn : goal.invariant-loop-turn
invariant-loop-turn l = AreOf (setting_in l.host).program l.frames.frames
