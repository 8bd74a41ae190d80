use Rattle.std.proofs.Common.{◌<◌, refl, sym, subst, arith}
use Rattle.convert_queue.specs.Queues.{IsSettled}
use Rattle.shared_heap.specs.Shared.{Shared}
use Rattle.shared_heap.proofs.Calling.{on_err}
use Rattle.shared_heap.proofs.Converting.{fails_all, fails_to, goes_all, goes_to}
use Rattle.shared_heap.proofs.heap.SharedHeap.go_on.Goals as goal

pub returns-in_err-step-clause-failed : goal.returns-in_err-step-clause-failed
returns-in_err-step-clause-failed g c =
    let below = c.number-number.ensures.below in
    let same = c.number-number.ensures.same in
    let few : c.args.t < 64 = omega (arith, below, same) in
    on_err c.from_residual.result _
    (fails_all c.args.t _ c.args.self.now _ c.self.view_is few
    (λ es u. fails_to c.args.t _ _ es u record {
      event = c.in_err-step.ensures.failed es u.converts.agrees;
      same = refl;
      lines = c.in_err-step.ensures.lines;
      within = c.in_err-step.ensures.within;
      sound = c.in_err-step.ensures.sound;
      known = c.in_err-step.ensures.known;
      history = refl;
      notes = refl;
    })
    c.requires.doing c.requires.begun)

pub returns-clause-converts : goal.returns-clause-converts
returns-clause-converts g c =
    let below = c.number-number.ensures.below in
    let same = c.number-number.ensures.same in
    let few : c.args.t < 64 = omega (arith, below, same) in
    let unsettled = subst (λ (s : Shared). IsSettled s.machine.queue c.args.t → ⊥) (sym c.self.view_is)
    c.requires.unsettled in
    goes_all c.args.t c.came_to.result _ c.args.self.now _ c.self.view_is few
    (λ es u. goes_to c.args.t c.in_ok-step.step c.came_to.result _ _ es c.came_to.ensures unsettled u record {
      event = c.in_ok-step.ensures.converts es u.converts.agrees;
      same = refl;
      lines = c.in_ok-step.ensures.lines;
      within = c.in_ok-step.ensures.within;
      sound = c.in_ok-step.ensures.sound;
      known = c.in_ok-step.ensures.known;
      history = refl;
      notes = refl;
    })
    c.requires.doing c.requires.begun
