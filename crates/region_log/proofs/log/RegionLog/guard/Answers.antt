use Rattle.region_log.specs.Log.{Log}
use Rattle.region_log.proofs.Guarded.{now-guarding}
use Rattle.region_log.proofs.log.RegionLog.guard.Goals as goal

pub returns-clause-keeps : goal.returns-clause-keeps
returns-clause-keeps c m place keeps =
    let inside = c.self.inside in
    let before : Log = record {
      thread = inside.thread;
      depth = inside.depth;
      entries = inside.entries.items;
      underway = inside.underway;
    } in
    now-guarding before c.args.self.now c.args.spot c.args.old m c.self.view_is c.requires.idle c.requires.room
    c.requires.unlogged place keeps
