use Rattle.std.proofs.Common.{◌<◌, false, inl, refl, sym, ◌∙◌, subst, arith}
use Rattle.std.proofs.lemmas.Bool.{both_ways}
use Rattle.convert_queue.specs.Queues.{AllSettled, IsSettled}
use Rattle.convert_queue.specs.Threads.{IsGroupOf}
use Rattle.convert_words.specs.Converting.{WaitsFor}
use Rattle.store_barrier.specs.Passed.{memory_of, scene_of}
use Rattle.shared_heap.specs.declared.conversions.Conversion.TheVariants as did
use Rattle.shared_heap.specs.Shared.{Shared}
use Rattle.shared_heap.proofs.Converting.{cause_same, goes_all, waits_settled}
use Rattle.shared_heap.proofs.heap.SharedHeap.convert.Goals as goal

pub go_on-requires-clause-unsettled : goal.go_on-requires-clause-unsettled
go_on-requires-clause-unsettled g c settled =
    both_ways false refl (sym c.if-not-is_settled.true ∙ c.is_settled.ensures.settled.1
    (subst (λ (s : Shared). IsSettled s.machine.queue c.args.t) (sym c.self.view_is) settled))

pub join-requires-clause-group : goal.join-requires-clause-group
join-requires-clause-group g c =
    subst (λ (s : Shared). IsGroupOf s.machine.queue.needs c.args.t c.in-Ok.set) c.self.view_is c.in-Ok.ensures.group

pub join-requires-clause-settled : goal.join-requires-clause-settled
join-requires-clause-settled g c =
    subst (λ (s : Shared). AllSettled s.machine.queue c.in-Ok.set) c.self.view_is c.in-Ok.ensures.settled

pub returns-in-Ok-clause-cause : goal.returns-in-Ok-clause-cause
returns-in-Ok-clause-cause g c = cause_same _ _ did.Joined c.join.ensures.faults

pub returns-in-Err-clause-converts : goal.returns-in-Err-clause-converts
returns-in-Err-clause-converts g c =
    let below = c.number-number.ensures.below in
    let same = c.number-number.ensures.same in
    let few : c.args.t < 64 = omega (arith, below, same) in
    let v = c.in-Err.unready.thread in
    let for = subst (λ (s : Shared). WaitsFor (scene_of s.machine) c.args.t v) c.self.view_is (record {
      settled = c.is_settled.ensures.settled.0 c.if-not-is_settled.false;
      unsettled = c.in-Err.ensures.unready;
    }) in
    goes_all c.args.t (did.Waits v) c.args.self.now c.args.self.now c.args.self.now refl few
    (λ es u. waits_settled c.args.t v c.args.self.now es u
    (λ l lt. inl (c.every_line_is_resident.ensures (memory_of c.args.self.now.machine) l lt)) for)
    c.requires.doing c.requires.begun
