use Rattle.thread_rows.proofs.opening.launched.Goals as goal

pub returns-in-Ok-launch : goal.returns-in-Ok-launch
returns-in-Ok-launch c =
    let can = c.in_ok-heap.ensures.can in
    let ready = c.in-Ok-launch.ensures.ready can.0 can.1 can.2 in
    record { playing = (_, _, ready.ready) }
