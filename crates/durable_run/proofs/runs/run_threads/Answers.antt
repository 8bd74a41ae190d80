use Rattle.std.proofs.Common.{◌+◌, ◌≤◌, ℕ, Option, None, Some, arith, length, refl, subst, sym}
use Rattle.run_types.specs.declared.fault.RunFault.{RunFault}
use Rattle.machine.specs.Passed.{memory_of}
use Rattle.durable_run.specs.Sparing.{SparesSink}
use Rattle.durable_run.specs.Telling.{IsCaused}
use Rattle.durable_run.specs.Turning.{EndsBy}
use Rattle.durable_run.specs.declared.runs.RunEnd.TheVariants as ends
use Rattle.durable_run.proofs.Ending.{size-same, waits-long}
use Rattle.durable_run.proofs.Going.{has-run}
use Rattle.durable_run.proofs.Passing.{limit-same}
use Rattle.durable_run.proofs.Sharing.{shares-both, shares-nothing}
use Rattle.durable_run.proofs.Sparing.{spares-both, spares-nothing}
use Rattle.durable_run.proofs.Telling.{caused-since, told-both, told-nothing}
use Rattle.durable_run.proofs.Turns.{turns-both, turns-stand}
use Rattle.durable_run.proofs.runs.run_threads.Goals as goal

pub acts-init : goal.acts-init
acts-init g c = record {
  ready = λ o first ready. ready;
  told = told-nothing c.args.run.now.heap.history.acts _ _;
  shares = λ o first ready. shares-nothing o.launch (g.S.Sink.takes c.args.run.now.sink)
      c.args.run.now.heap.history.acts;
  spares = λ o first ready. spares-nothing g.S.Sink.taken o.launch c.args.run.now.sink c.args.run.now.heap.history.acts;
  cause = (refl, refl);
  turns = turns-stand c.args.run.now.turns;
}

pub next_act-requires : goal.next_act-requires
next_act-requires g c =
    let r = c.requires.ready in record { ready = (r.0, r.1, c.acts.invariant.ready r.0 r.1 r.2) }

room-so : (limit n : ℕ) → (limit ≤ n → ⊥) → n + 1 ≤ limit
room-so limit n full = omega (arith, full)

pub acts-smaller : goal.acts-smaller
acts-smaller g c =
    let r = c.requires.ready in
    let ready = c.acts.invariant.ready r.0 r.1 r.2 in
    let same = limit-same r.0 r.1 (g.C.Types.facts c.args.set.now) (g.H.Host.setting c.args.host.now) c.acts.run.heap
    c.next_act.new.run.heap c.acts.run.frames.items c.next_act.new.run.frames.items ready
    (c.in-Went.ensures.goes r.0 r.1 ready) in
    let more = c.in-Went.ensures.acts refl in
    let room = room-so c.acts.run.heap.history.limit (length c.acts.run.heap.history.acts)
    (λ full. c.in-Went.ensures.full full refl) in
    omega (arith, same, room, more)

pub acts-preserved : goal.acts-preserved
acts-preserved g c = record {
  ready = λ o first ready. c.in-Went.ensures.goes o first (c.acts.invariant.ready o first ready);
  told = told-both _ _ _ _ _ _ _ _ _ c.acts.invariant.told c.next_act.ensures.told;
  shares = λ o first ready. shares-both o.launch _ _ _ _ _ _ (c.acts.invariant.shares o first ready)
      (c.in-Went.ensures.shares o first (c.acts.invariant.ready o first ready));
  spares = λ o first ready. spares-both g.S.Sink.taken o.launch None c.args.run.now.sink
      c.acts.run.sink c.next_act.new.run.sink c.args.run.now.heap.history.acts c.acts.run.heap.history.acts
      c.next_act.new.run.heap.history.acts (c.acts.invariant.spares o first ready)
      (c.in-Went.ensures.spares o first (c.acts.invariant.ready o first ready));
  cause = caused-since None _ _ _ _ _ _ c.acts.invariant.cause c.in-Went.ensures.cause;
  turns = turns-both _ _ _ c.acts.invariant.turns c.next_act.ensures.turns;
}

pub ended-requires : goal.ended-requires
ended-requires g c =
    let r = c.requires.ready in (c.in-Ended.ensures.goes r.0 r.1 (c.acts.invariant.ready r.0 r.1 r.2)).1

pub returns-in-Ended-clause-ends : goal.returns-in-Ended-clause-ends
returns-in-Ended-clause-ends g c o first ready =
    c.ended.ensures.ends o first (g.C.Types.facts c.args.set.now) (g.H.Host.setting c.args.host.now)
    c.next_act.new.run.frames.items (c.in-Ended.ensures.goes o first (c.acts.invariant.ready o first ready)).0

pub returns-in-Ended-clause-cause : goal.returns-in-Ended-clause-cause
returns-in-Ended-clause-cause g c =
    subst (λ (over : Option RunFault). IsCaused over (g.S.Sink.faults c.args.run.now.sink)
    (g.S.Sink.faults c.next_act.new.run.sink) (memory_of c.args.run.now.heap.machine).faults
    (memory_of c.next_act.new.run.heap.machine).faults) (sym c.ended.ensures.unfaulted)
    (caused-since None _ _ _ _ _ _ c.acts.invariant.cause c.in-Ended.ensures.cause)

pub returns-in-Ended-clause-told : goal.returns-in-Ended-clause-told
returns-in-Ended-clause-told g c =
    told-both _ _ _ _ _ _ _ _ _ c.acts.invariant.told c.next_act.ensures.told

pub returns-in-Ended-clause-turns : goal.returns-in-Ended-clause-turns
returns-in-Ended-clause-turns g c = turns-both _ _ _ c.acts.invariant.turns c.next_act.ensures.turns

pub returns-in-Ended-clause-size : goal.returns-in-Ended-clause-size
returns-in-Ended-clause-size g c =
    let r = c.requires.ready in
    let ended = c.in-Ended.ensures.goes r.0 r.1 (c.acts.invariant.ready r.0 r.1 r.2) in
    size-same r.0 r.1 (g.C.Types.facts c.args.set.now) (g.H.Host.setting c.args.host.now) c.args.run.now.heap
    c.next_act.new.run.heap c.args.run.now.frames.items r.2
    (has-run r.0 r.1 c.next_act.new.run.heap ended.0.table ended.0.threads ended.0.running)

pub fault_of-requires : goal.fault_of-requires
fault_of-requires g c =
    let r = c.requires.ready in
    record {
      stuck = waits-long r.0 r.1 c.in-Over.halt c.next_act.new.run.heap
          (c.in-Over.ensures.goes r.0 r.1 (c.acts.invariant.ready r.0 r.1 r.2));
    }

pub returns-in-Over-clause-ends : goal.returns-in-Over-clause-ends
returns-in-Over-clause-ends g c o first ready =
    subst (λ (f : RunFault). EndsBy o first (ends.Over f) c.next_act.new.run.heap) (sym c.fault_of.ensures)
    (c.in-Over.ensures.goes o first (c.acts.invariant.ready o first ready))

pub returns-in-Over-clause-told : goal.returns-in-Over-clause-told
returns-in-Over-clause-told g c =
    told-both _ _ _ _ _ _ _ _ _ c.acts.invariant.told c.next_act.ensures.told

pub returns-in-Over-clause-turns : goal.returns-in-Over-clause-turns
returns-in-Over-clause-turns g c = turns-both _ _ _ c.acts.invariant.turns c.next_act.ensures.turns

pub returns-in-Over-clause-size : goal.returns-in-Over-clause-size
returns-in-Over-clause-size g c =
    let r = c.requires.ready in
    size-same r.0 r.1 (g.C.Types.facts c.args.set.now) (g.H.Host.setting c.args.host.now) c.args.run.now.heap
    c.next_act.new.run.heap c.args.run.now.frames.items r.2
    (c.in-Over.ensures.goes r.0 r.1 (c.acts.invariant.ready r.0 r.1 r.2)).0

pub returns-in-Ended-clause-shares : goal.returns-in-Ended-clause-shares
returns-in-Ended-clause-shares g c o first ready = shares-both o.launch _ _ _ _ _ _ (c.acts.invariant.shares o first ready)
    (c.in-Ended.ensures.shares o first (c.acts.invariant.ready o first ready))

pub returns-in-Over-clause-shares : goal.returns-in-Over-clause-shares
returns-in-Over-clause-shares g c o first ready =
    shares-both o.launch _ _ _ _ _ _ (c.acts.invariant.shares o first ready)
    (c.in-Over.ensures.shares o first (c.acts.invariant.ready o first ready))

pub returns-in-Ended-clause-spares : goal.returns-in-Ended-clause-spares
returns-in-Ended-clause-spares g c o first ready =
    subst (λ (over : Option RunFault). SparesSink g.S.Sink.taken o.launch over c.args.run.now.sink
    c.next_act.new.run.sink c.args.run.now.heap.history.acts c.next_act.new.run.heap.history.acts)
    (sym c.ended.ensures.unfaulted)
    (spares-both g.S.Sink.taken o.launch None c.args.run.now.sink
    c.acts.run.sink c.next_act.new.run.sink c.args.run.now.heap.history.acts c.acts.run.heap.history.acts
    c.next_act.new.run.heap.history.acts (c.acts.invariant.spares o first ready)
    (c.in-Ended.ensures.spares o first (c.acts.invariant.ready o first ready)))

pub returns-in-Over-clause-spares : goal.returns-in-Over-clause-spares
returns-in-Over-clause-spares g c o first ready =
    subst (λ (f : RunFault). SparesSink g.S.Sink.taken o.launch (Some f) c.args.run.now.sink
    c.next_act.new.run.sink c.args.run.now.heap.history.acts c.next_act.new.run.heap.history.acts) (sym c.fault_of.ensures)
    (spares-both g.S.Sink.taken o.launch _ c.args.run.now.sink
    c.acts.run.sink c.next_act.new.run.sink c.args.run.now.heap.history.acts c.acts.run.heap.history.acts
    c.next_act.new.run.heap.history.acts (c.acts.invariant.spares o first ready)
    (c.in-Over.ensures.spares o first (c.acts.invariant.ready o first ready)))
