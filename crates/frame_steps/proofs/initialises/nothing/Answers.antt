use Rattle.std.proofs.Common.{◌∙◌, [], None, sym, ap, arith}
use Rattle.frames.specs.Settings.{Ends}
use Rattle.frames.specs.Calls.{goes_on}
use Rattle.frame_thread.specs.Stacked.{list_of}
use Rattle.frame_steps.proofs.Sizes.{room-yes, room-no}
use Rattle.frame_steps.proofs.initialises.nothing.Goals as goal

pub returns-then-left-lt16-clause-step : goal.returns-then-left-lt16-clause-step
returns-then-left-lt16-clause-step g c =
    room-no (g.H.Host.setting c.args.host.now) 16 c.args.thread.now c.full.new.thread c.full.result _
    c.requires.of (omega (arith, c.if-left-lt16.true, c.left.ensures.left)) c.full.ensures.thread
    c.full.ensures.said

pub returns-clause-step : goal.returns-clause-step
returns-clause-step g c =
    rw c.set_doing.ensures (ap (goes_on (Ends None)) c.clear.ensures.frames) ∙
    sym (room-yes (g.H.Host.setting c.args.host.now) 16 (list_of c.args.thread.now) (goes_on (Ends None) [])
    c.requires.of (omega (arith, c.if-left-lt16.false, c.left.ensures.left)))
