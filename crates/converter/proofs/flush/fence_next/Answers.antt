use Rattle.std.proofs.Common.{sym, subst}
use Rattle.convert_queue.specs.Queues.{Queues}
use Rattle.convert_words.specs.declared.step.ConvertStep.TheVariants as step
use Rattle.convert_words.specs.Converting.{Converts}
use Rattle.convert_words.specs.Scenes.{Scene, scene}
use Rattle.convert_words.proofs.StepKinds.{fence_converts, call_fails}
use Rattle.converter.proofs.Events.{on_err}
use Rattle.converter.proofs.Calling.{known_kept}
use Rattle.converter.proofs.Doing.{waiting}
use Rattle.converter.proofs.flush.fence_next.Goals as goal

pub returns-in_err-fence-clause-failed : goal.returns-in_err-fence-clause-failed
returns-in_err-fence-clause-failed g c = on_err c.from_residual.result _ (λ free keys es a.
    let h = c.args.heap.now in
    let w = c.fence.ensures in
    call_fails (scene h.space h.memory h.marks c.args.queue.now free keys) c.fence.new.self es c.requires.known
    (known_kept h.memory c.fence.new.self w.keeps w.resident.kept c.requires.known) w.keeps w.count a)

pub returns-in_err-fence-clause-known : goal.returns-in_err-fence-clause-known
returns-in_err-fence-clause-known g c = let w = c.fence.ensures in known_kept c.args.heap.now.memory c.fence.new.self w.keeps w.resident.kept c.requires.known

pub returns-clause-known : goal.returns-clause-known
returns-clause-known g c = let w = c.fence.ensures in known_kept c.args.heap.now.memory c.fence.new.self w.keeps w.resident.kept c.requires.known

pub returns-clause-converts : goal.returns-clause-converts
returns-clause-converts g c = λ free keys es a.
    let h = c.args.heap.now in
    let w = c.fence.ensures in
    let s : Scene = scene h.space h.memory h.marks c.args.queue.now free keys in
    let l = waiting c.args.queue.now.marks c.args.t c.requires.all c.requires.waits in
    let done = fence_converts s c.fence.new.self l.0 es c.args.t c.requires.known (known_kept h.memory c.fence.new.self w.keeps w.resident.kept c.requires.known) w.keeps w.count
    c.requires.phase c.requires.all l.1 c.in_ok-fence.ensures.fenced c.in_ok-fence.ensures.durable w.resident a in
    subst (λ (y : Queues). Converts c.args.t step.Fenced s (scene h.space c.fence.new.self h.marks y free keys) es es) (sym c.fenced.ensures.noted) done
