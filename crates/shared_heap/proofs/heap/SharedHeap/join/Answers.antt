use Rattle.std.proofs.Common.{◌<◌, ◌≤◌, inl, [], length, refl, sym, ◌∙◌, ap, subst, arith}
use Rattle.line_memory.specs.Memory.{Memory}
use Rattle.run_history.specs.Recorded.{History}
use Rattle.twin_forms.specs.Sights.{Twin}
use Rattle.convert_queue.specs.Queues.{AllSettled, total}
use Rattle.convert_queue.specs.Threads.{IsGroupOf}
use Rattle.converter.specs.Stepping.{keys_of}
use Rattle.store_barrier.specs.Passed.{Machine, memory_of}
use Rattle.shared_heap.specs.Conversions.{with_names}
use Rattle.shared_heap.specs.Shared.{Shared}
use Rattle.shared_heap.proofs.Converting.{joins_from, some_scene}
use Rattle.shared_heap.proofs.Naming.{same_names}
use Rattle.shared_heap.proofs.heap.SharedHeap.join.Goals as goal

pub name_group-requires-clause-agrees : goal.name_group-requires-clause-agrees
name_group-requires-clause-agrees g c = some_scene _ c.args.self.now c.requires.converts.0 c.self.view_is c.requires.converts.1

pub name_group-requires-clause-room : goal.name_group-requires-clause-room
name_group-requires-clause-room g c =
    subst (λ (s : Shared). total s.machine.queue.queues ≤ s.history.room) (sym c.self.view_is) c.requires.room

pub seal-requires-clause-agrees : goal.seal-requires-clause-agrees
seal-requires-clause-agrees g c = some_scene _ c.args.self.now c.requires.converts.0 c.self.view_is c.requires.converts.1

pub seal-requires-clause-group : goal.seal-requires-clause-group
seal-requires-clause-group g c =
    subst (λ (s : Shared). IsGroupOf s.machine.queue.needs c.args.t c.args.set) (sym c.self.view_is) c.requires.group

pub seal-requires-clause-settled : goal.seal-requires-clause-settled
seal-requires-clause-settled g c =
    subst (λ (s : Shared). AllSettled s.machine.queue c.args.set) (sym c.self.view_is) c.requires.settled

pub tell-requires : goal.tell-requires
tell-requires g c = record {
  room = subst (λ (h : History). length h.acts < h.limit) (sym c.name_group.ensures.named)
      (subst (λ (s : Shared). length s.history.acts < s.history.limit) (sym c.self.view_is) c.requires.acts);
}

pub returns-clause-joins : goal.returns-clause-joins
returns-clause-joins g c =
    let below = c.number-number.ensures.below in
    let same = c.number-number.ensures.same in
    let few : c.args.t < 64 = omega (arith, below, same) in
    let i = c.self.inside in
    let h = c.seal.new.heap in
    let twin : Twin = record { space = h.space; memory = h.memory; marks = h.marks } in
    let before : Twin = record { space = i.spaces.heap.space; memory = i.spaces.heap.memory; marks = i.spaces.heap.marks } in
    joins_from c.args.t c.args.set _ c.args.self.now c.tell.new.self twin c.seal.new.queue c.name_group.new.acts
    c.self.view_is few
    (λ es u. record {
      group = subst (λ (s : Shared). IsGroupOf s.machine.queue.needs c.args.t c.args.set) (sym c.self.view_is) c.requires.group;
      event = c.seal.ensures.seals i.lines.free (keys_of i.rest.monitors) es i.rest.monitors u.converts.agrees;
      memory = c.seal.ensures.memory;
      known = λ l lt. inl (c.every_line_is_resident.ensures h.memory l lt);
      acts = refl;
      named = c.name_group.ensures.named
          ∙ ap (with_names i.acts) (same_names before i.queue 0 i.lines.free [] (keys_of i.rest.monitors) c.args.set 64);
      history = c.tell.ensures.told;
      machine = c.tell.ensures.machine;
      lines = c.tell.ensures.lines;
      notes = c.tell.ensures.notes;
    })
    c.requires.doing c.requires.begun

pub returns-clause-faults : goal.returns-clause-faults
returns-clause-faults g c =
    ap (λ (m : Machine). (memory_of m).faults) c.tell.ensures.machine
    ∙ ap (λ (m : Memory). m.faults) c.seal.ensures.memory
    ∙ ap (λ (s : Shared). (memory_of s.machine).faults) c.self.view_is
