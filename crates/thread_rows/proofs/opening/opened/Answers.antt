use Rattle.thread_rows.proofs.opening.opened.Goals as goal

pub returns-in-Ok-open_heap : goal.returns-in-Ok-open_heap
returns-in-Ok-open_heap c =
    let opened = c.in-Ok-complete.ensures.opened _ _ _ c.in-Ok.ensures.found in
    record { can = (_, _, c.in-Ok-open_heap.ensures.can _ _ opened) }
