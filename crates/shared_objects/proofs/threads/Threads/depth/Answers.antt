use Rattle.std.proofs.Common.{◌<◌, length}
use Rattle.shared_objects.proofs.States.{depth_got}
use Rattle.shared_objects.proofs.threads.Threads.depth.Goals as goal

pub returns : goal.returns
returns c =
    let ss = c.self.inside.states.items in
    let below : c.args.t < length ss = rw c.self.view_is c.requires.there in
    record {
      depth = rw (← c.self.view_is) (depth_got ss c.args.t c.index.result.now below (rw (←
          c.number.ensures.same) c.index.ensures));
    }
