use Rattle.std.proofs.Common.{◌∙◌, ℕ, ap, arith, drop, length}
use Rattle.run_history.specs.Recorded.{History}
use Rattle.durable_run.specs.Telling.{with_all}
use Rattle.durable_run.proofs.Telling.{at-most-one, tells-event}
use Rattle.durable_run.proofs.events.told_event.Goals as goal

pub tell-requires : goal.tell-requires
tell-requires g c =
    let most = at-most-one c.event-went.result c.args.t c.args.heap.now.history.acts c.event-went.new.heap.history.acts
    c.event-went.ensures.acts in
    let now = ap (λ (h : History). length h.acts) c.acts-2.ensures in
    let before = ap (λ (h : History). length h.acts) c.acts.ensures in
    record { one = omega (arith, most, now, before, c.len-before.ensures.len) }

pub returns-clause-tells : goal.returns-clause-tells
returns-clause-tells g c =
    tells-event c.args.request.now c.event-went.result c.args.t c.args.heap.now c.event-went.new.heap _ _ _ _ _ _ _ _
    c.event-went.ensures.acts
    (c.tell.ensures.told ∙ ap (with_all (g.W.Watcher.seen c.args.watcher.now))
    (ap (λ (n : ℕ). drop n c.acts-2.result.now.acts)
    (c.len-before.ensures.len ∙ ap (λ (h : History). length h.acts) c.acts.ensures)
    ∙ ap (λ (h : History). drop (length c.args.heap.now.history.acts) h.acts) c.acts-2.ensures))
    c.event-went.ensures.told c.event-went.ensures.share c.event-went.ensures.sink_cause
    c.event-went.ensures.image_cause
