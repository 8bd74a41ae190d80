use Rattle.std.proofs.Common.{◌∙◌, None, Option, Some, ap, sym, subst}
use Rattle.run_types.specs.declared.fault.RunFault.{RunFault}
use Rattle.durable_run.specs.Events.{fault_of}
use Rattle.workers.specs.Held.{Knows, held}
use Rattle.workers.proofs.Knowing.{comes-of, no-fault, none-of, noted-waits, ready-now, steps-so}
use Rattle.workers.proofs.Sparing.{sink-on, sink-over}
use Rattle.workers.proofs.alone.Alone.step.Goals as goal

pub step-stepped-requires-clause-ready : goal.step-stepped-requires-clause-ready
step-stepped-requires-clause-ready g c =
    let was = c.self.inside in
    let none = none-of was.over (sym c.is_some.ensures ∙ c.if-is_some.false) in
    let knows = subst (λ (over : Option RunFault). Knows g.J.Naming.entry (held was.run.heap was.run.frames.items
    (g.W.Watcher.seen was.run.watcher) (g.S.Sink.taken was.run.sink) (g.S.Sink.faults was.run.sink) over)
    (g.S.Sink.takes was.run.sink)) none c.self.invariant.0 in
    ready-now (g.C.Types.facts c.args.set.now) (g.H.Host.setting c.args.host.now) g.J.Naming.entry was.run.heap was.run.frames.items
    (g.W.Watcher.seen was.run.watcher) (g.S.Sink.taken was.run.sink) (g.S.Sink.takes was.run.sink)
    (g.S.Sink.faults was.run.sink) knows c.requires.of

pub fault_of-fault-requires : goal.fault_of-fault-requires
fault_of-fault-requires g c =
    let was = c.self.inside in
    let none = none-of was.over (sym c.is_some.ensures ∙ c.if-is_some.false) in
    let knows = subst (λ (over : Option RunFault). Knows g.J.Naming.entry (held was.run.heap was.run.frames.items
    (g.W.Watcher.seen was.run.watcher) (g.S.Sink.taken was.run.sink) (g.S.Sink.faults was.run.sink) over)
    (g.S.Sink.takes was.run.sink)) none c.self.invariant.0 in
    let run = c.step-stepped.new.run in
    let set = g.C.Types.facts c.args.set.now in
    let x = g.H.Host.setting c.args.host.now in
    record {
      stuck = noted-waits (g.C.Types.facts c.args.set.now) (g.H.Host.setting c.args.host.now) c.args.t c.in-Over.halt
          c.step-stepped.result was.run.heap run.heap was.run.frames.items run.frames.items
          (ready-now (g.C.Types.facts c.args.set.now) (g.H.Host.setting c.args.host.now) g.J.Naming.entry was.run.heap
          was.run.frames.items (g.W.Watcher.seen was.run.watcher) (g.S.Sink.taken was.run.sink)
          (g.S.Sink.takes was.run.sink) (g.S.Sink.faults was.run.sink) knows c.requires.of)
          (λ o first ready. comes-of set x o first c.args.t c.step-stepped.result was.run.heap run.heap run.frames.items
          (c.step-stepped.ensures.goes o first ready)) c.in-Over.is;
    }

pub invariant_of-self : goal.invariant_of-self
invariant_of-self g c =
    let was = c.self.inside in
    let run = c.step-stepped.new.run in
    let none = none-of was.over (sym c.is_some.ensures ∙ c.if-is_some.false) in
    let knows = subst (λ (over : Option RunFault). Knows g.J.Naming.entry (held was.run.heap was.run.frames.items
    (g.W.Watcher.seen was.run.watcher) (g.S.Sink.taken was.run.sink) (g.S.Sink.faults was.run.sink) over)
    (g.S.Sink.takes was.run.sink)) none c.self.invariant.0 in
    let set = g.C.Types.facts c.args.set.now in
    let x = g.H.Host.setting c.args.host.now in
    let taken = g.S.Sink.taken in
    let sink = sink-over taken g.J.Naming.entry g.J.Naming.sink was.over None was.run.sink was.run.heap none c.self.invariant.1 in (
      steps-so (g.C.Types.facts c.args.set.now) (g.H.Host.setting c.args.host.now) g.J.Naming.entry c.args.t c.step-stepped.result
          was.run.heap run.heap was.run.frames.items run.frames.items (g.W.Watcher.seen was.run.watcher) (g.W.Watcher.seen run.watcher)
          (g.S.Sink.taken was.run.sink) (g.S.Sink.taken run.sink) (g.S.Sink.takes was.run.sink) (g.S.Sink.takes run.sink) (g.S.Sink.faults was.run.sink) (g.S.Sink.faults run.sink) knows
          c.requires.of (λ o first ready. comes-of set x o first c.args.t c.step-stepped.result was.run.heap run.heap run.frames.items
          (c.step-stepped.ensures.goes o first ready)) c.step-stepped.ensures.told c.step-stepped.ensures.shares c.step-stepped.ensures.cause (Some c.fault_of-fault.result)
          (ap Some c.fault_of-fault.ensures ∙ sym (ap (fault_of run.heap) c.in-Over.is)),
      sink-over taken g.J.Naming.entry g.J.Naming.sink (fault_of run.heap c.step-stepped.result) (Some c.fault_of-fault.result) run.sink run.heap
          (sym (ap Some c.fault_of-fault.ensures ∙ sym (ap (fault_of run.heap) c.in-Over.is)))
          (sink-on taken g.J.Naming.entry g.J.Naming.sink (g.C.Types.facts c.args.set.now) (g.H.Host.setting c.args.host.now)
          was.run.heap was.run.frames.items (g.W.Watcher.seen was.run.watcher) (taken was.run.sink)
          (g.S.Sink.takes was.run.sink) (g.S.Sink.faults was.run.sink) knows c.requires.of was.run.sink run.sink sink
          (fault_of run.heap c.step-stepped.result) run.heap c.step-stepped.ensures.spares),
    )

pub invariant_of-self-in_default : goal.invariant_of-self-in_default
invariant_of-self-in_default g c =
    let was = c.self.inside in
    let run = c.step-stepped.new.run in
    let none = none-of was.over (sym c.is_some.ensures ∙ c.if-is_some.false) in
    let knows = subst (λ (over : Option RunFault). Knows g.J.Naming.entry (held was.run.heap was.run.frames.items
    (g.W.Watcher.seen was.run.watcher) (g.S.Sink.taken was.run.sink) (g.S.Sink.faults was.run.sink) over)
    (g.S.Sink.takes was.run.sink)) none c.self.invariant.0 in
    let set = g.C.Types.facts c.args.set.now in
    let x = g.H.Host.setting c.args.host.now in
    let taken = g.S.Sink.taken in
    let sink = sink-over taken g.J.Naming.entry g.J.Naming.sink was.over None was.run.sink was.run.heap none c.self.invariant.1 in (
      steps-so (g.C.Types.facts c.args.set.now) (g.H.Host.setting c.args.host.now) g.J.Naming.entry c.args.t c.step-stepped.result
          was.run.heap run.heap was.run.frames.items run.frames.items (g.W.Watcher.seen was.run.watcher) (g.W.Watcher.seen run.watcher)
          (g.S.Sink.taken was.run.sink) (g.S.Sink.taken run.sink) (g.S.Sink.takes was.run.sink) (g.S.Sink.takes run.sink) (g.S.Sink.faults was.run.sink) (g.S.Sink.faults run.sink) knows
          c.requires.of (λ o first ready. comes-of set x o first c.args.t c.step-stepped.result was.run.heap run.heap run.frames.items
          (c.step-stepped.ensures.goes o first ready)) c.step-stepped.ensures.told c.step-stepped.ensures.shares c.step-stepped.ensures.cause was.over
          (none ∙ sym (no-fault run.heap c.step-stepped.result c.in_default.not-Over)),
      sink-over taken g.J.Naming.entry g.J.Naming.sink (fault_of run.heap c.step-stepped.result) was.over run.sink run.heap
          (sym (none ∙ sym (no-fault run.heap c.step-stepped.result c.in_default.not-Over)))
          (sink-on taken g.J.Naming.entry g.J.Naming.sink (g.C.Types.facts c.args.set.now) (g.H.Host.setting c.args.host.now)
          was.run.heap was.run.frames.items (g.W.Watcher.seen was.run.watcher) (taken was.run.sink)
          (g.S.Sink.takes was.run.sink) (g.S.Sink.faults was.run.sink) knows c.requires.of was.run.sink run.sink sink
          (fault_of run.heap c.step-stepped.result) run.heap c.step-stepped.ensures.spares),
    )
