use Rattle.std.proofs.Common.{◌<◌, length}
use Rattle.shared_objects.specs.Threads.{ended}
use Rattle.shared_objects.proofs.States.{state_set}
use Rattle.shared_objects.proofs.threads.Threads.leave.Goals as goal

pub returns : goal.returns
returns c =
    let s = c.index_mut-state.result.now in
    let ss = c.self.inside.states.items in
    let below : c.args.t < length ss = rw c.self.view_is c.requires.there in
    record {
      ended = rw (← c.self.view_is, c.number.ensures.same) (state_set (ended c.args.uncaught) ss c.args.t s
          below (rw (← c.number.ensures.same) c.index_mut-state.ensures.value));
    }
