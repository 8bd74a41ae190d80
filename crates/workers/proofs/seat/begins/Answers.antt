use Rattle.workers.proofs.Stepping.{pauses-more}
use Rattle.workers.proofs.seat.begins.Goals as goal

pub loop-pauses-preserved : goal.loop-pauses-preserved
loop-pauses-preserved g c =
    let l = c.loop-pauses in
    record {
      on = pauses-more (g.H.Host.setting c.args.host.now) l.pauses c.args.frames.now l.frames c.begin_next-last.new.frames l.invariant.on (
        c.begin_next-last.result,
        c.is_pause.ensures.pause c.if-not-is_pause.false,
        c.begin_next-last.ensures.begins,
        c.begin_next-last.ensures.of,
      );
      of = c.begin_next-last.ensures.of;
    }
