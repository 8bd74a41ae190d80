use Rattle.std.proofs.Common.{◌≡◌, true, List, Some, None, ap, refl, subst, sym, ◌∙◌, arith}
use Rattle.std.specs.Prelude.{slice_get, slice_set}
use Rattle.std.proofs.lemmas.Option.{slice_get_within}
use Rattle.shared_objects.specs.declared.threads.ThreadState.{ThreadState}
use Rattle.run_forms.specs.Views.{ThreadFrames}
use Rattle.run_history.specs.declared.act.Act.{Act}
use Rattle.durable_run.specs.Events.{fault_of}
use Rattle.durable_run.specs.Turning.{is_live}
use Rattle.durable_run.proofs.Stretching.{further-behind}
use Rattle.turnstile.specs.Entries.{AddsBy as AddsEntriesBy, SameButOf}
use Rattle.workers.specs.Shared.{Desked, all_frames, entries_from, values_of}
use Rattle.workers.proofs.Frames.{acts-more, entries-by, get-same, others-stay}
use Rattle.workers.proofs.Knowing.{knows-as, no-fault, none-of, noted-waits, ready-now}
use Rattle.workers.proofs.Sparing.{sink-over}
use Rattle.workers.proofs.Stepping.{goes-so, has-left, knows-on, next-now, program-at, sink-so}
use Rattle.workers.proofs.locked.Locked+J+I+S+W.step.Goals as goal
use Rattle.workers.proofs.locked.Locked+J+I+S+W.step.Goals.{else-lives, then-lives}

pub event-stepped-requires : goal.event-stepped-requires
event-stepped-requires g c =
    let s = c.self.inside in
    let noted = values_of s.notes.items in
    let none = none-of s.over (sym c.is_some.ensures ∙ c.if-is_some.false) in
    let knows = knows-as g.J.Naming.entry s.heap (all_frames s.begins noted) (all_frames s.begins noted) (g.W.Watcher.seen s.watcher)
    (g.S.Sink.taken s.sink) (g.S.Sink.takes s.sink) (g.S.Sink.faults s.sink) s.over None c.self.invariant.0 refl none in
    let there = ap (λ (d : Desked). slice_get d.noted c.args.t) c.self.view_is ∙ c.requires.comes.1 in
    let has = c.if-not-is_awaited.ensures in
    record {
      next = next-now (g.C.Types.facts c.args.set.now) (g.H.Host.setting c.args.host.now) g.J.Naming.entry c.args.t c.args.stretch s.heap
          s.begins noted (g.W.Watcher.seen s.watcher) (g.S.Sink.taken s.sink) (g.S.Sink.takes s.sink) (g.S.Sink.faults s.sink)
          c.requires.comes.0 c.args.frames.now knows c.requires.of there (has.begins refl) (has.live refl) (has.asked refl) c.requires.comes.2;
    }

pub note-requires : goal.note-requires
note-requires g c =
    let there = ap (λ (d : Desked). slice_get d.noted c.args.t) c.self.view_is ∙ c.requires.comes.1 in
    slice_get_within (values_of c.self.inside.notes.items) c.args.t c.requires.comes.0 there

pub fault_of-requires : goal.fault_of-requires
fault_of-requires g c =
    let s = c.self.inside in
    let noted = values_of s.notes.items in
    let none = none-of s.over (sym c.is_some.ensures ∙ c.if-is_some.false) in
    let knows = knows-as g.J.Naming.entry s.heap (all_frames s.begins noted) (all_frames s.begins noted) (g.W.Watcher.seen s.watcher)
    (g.S.Sink.taken s.sink) (g.S.Sink.takes s.sink) (g.S.Sink.faults s.sink) s.over None c.self.invariant.0 refl none in
    let there = ap (λ (d : Desked). slice_get d.noted c.args.t) c.self.view_is ∙ c.requires.comes.1 in
    let has = c.if-not-is_awaited.ensures in
    let new = c.event-stepped.new in
    record {
      stuck = noted-waits (g.C.Types.facts c.args.set.now) (g.H.Host.setting c.args.host.now) c.args.t c.in-Over.halt
          c.event-stepped.result s.heap new.heap (all_frames s.begins noted)
          (all_frames c.note_started.new.begins (values_of c.note.new.notes.items))
          (ready-now (g.C.Types.facts c.args.set.now) (g.H.Host.setting c.args.host.now) g.J.Naming.entry s.heap (all_frames s.begins noted)
          (g.W.Watcher.seen s.watcher) (g.S.Sink.taken s.sink) (g.S.Sink.takes s.sink) (g.S.Sink.faults s.sink) knows c.requires.of)
          (goes-so (g.C.Types.facts c.args.set.now) (g.H.Host.setting c.args.host.now) g.J.Naming.entry c.args.t c.args.stretch s.heap
          s.begins noted (g.W.Watcher.seen s.watcher) (g.S.Sink.taken s.sink) (g.S.Sink.takes s.sink) (g.S.Sink.faults s.sink)
          c.requires.comes.0 c.args.frames.now knows c.requires.of there (has.begins refl) (has.live refl) (has.asked refl) c.requires.comes.2
          c.event-stepped.result new.heap new.frames c.note_started.new.begins (values_of c.note.new.notes.items)
          c.of-before.result.started c.event-stepped.ensures.goes c.of-before.ensures c.note_started.ensures c.note.ensures)
          c.in-Over.is;
    }

pub invariant_of-self : goal.invariant_of-self
invariant_of-self g c =
    let s = c.self.inside in
    let noted = values_of s.notes.items in
    let none = none-of s.over (sym c.is_some.ensures ∙ c.if-is_some.false) in
    let knows = knows-as g.J.Naming.entry s.heap (all_frames s.begins noted) (all_frames s.begins noted) (g.W.Watcher.seen s.watcher)
    (g.S.Sink.taken s.sink) (g.S.Sink.takes s.sink) (g.S.Sink.faults s.sink) s.over None c.self.invariant.0 refl none in
    let there = ap (λ (d : Desked). slice_get d.noted c.args.t) c.self.view_is ∙ c.requires.comes.1 in
    let has = c.if-not-is_awaited.ensures in
    let new = c.event-stepped.new in
    let within = c.self.invariant.1 in
    let more = acts-more c.args.t s.heap.history.acts new.heap.history.acts (further-behind _ _ _ _ _ c.event-stepped.ensures.acts) in (
      knows-on (g.C.Types.facts c.args.set.now) (g.H.Host.setting c.args.host.now) g.J.Naming.entry c.args.t c.args.stretch s.heap
          s.begins noted (g.W.Watcher.seen s.watcher) (g.S.Sink.taken s.sink) (g.S.Sink.takes s.sink) (g.S.Sink.faults s.sink)
          c.requires.comes.0 c.args.frames.now knows c.requires.of there (has.begins refl) (has.live refl) (has.asked refl) c.requires.comes.2
          c.event-stepped.result new.heap new.frames c.note_started.new.begins (values_of c.note.new.notes.items)
          c.of-before.result.started c.event-stepped.ensures.goes c.of-before.ensures c.note_started.ensures c.note.ensures
          (g.W.Watcher.seen new.watcher) (g.S.Sink.taken new.sink) (g.S.Sink.takes new.sink) (g.S.Sink.faults new.sink)
          c.event-stepped.ensures.told c.event-stepped.ensures.shares c.event-stepped.ensures.cause
          (Some c.fault_of.result) (ap Some c.fault_of.ensures ∙ sym (ap (fault_of new.heap) c.in-Over.is)),
      omega (arith, within, more),
      sink-so (g.C.Types.facts c.args.set.now) (g.H.Host.setting c.args.host.now) g.J.Naming.entry c.args.t c.args.stretch s.heap
          s.begins noted (g.W.Watcher.seen s.watcher) (g.S.Sink.taken s.sink) (g.S.Sink.takes s.sink) (g.S.Sink.faults s.sink)
          c.requires.comes.0 c.args.frames.now knows c.requires.of there (has.begins refl) (has.live refl) (has.asked refl) c.requires.comes.2
          g.S.Sink.taken g.J.Naming.sink s.sink new.sink
          (sink-over g.S.Sink.taken g.J.Naming.entry g.J.Naming.sink s.over None s.sink s.heap none c.self.invariant.2)
          c.event-stepped.result new.heap c.event-stepped.ensures.spares
          (Some c.fault_of.result) (ap Some c.fault_of.ensures ∙ sym (ap (fault_of new.heap) c.in-Over.is)),
    )

pub invariant_of-self-in_default : goal.invariant_of-self-in_default
invariant_of-self-in_default g c =
    let s = c.self.inside in
    let noted = values_of s.notes.items in
    let none = none-of s.over (sym c.is_some.ensures ∙ c.if-is_some.false) in
    let knows = knows-as g.J.Naming.entry s.heap (all_frames s.begins noted) (all_frames s.begins noted) (g.W.Watcher.seen s.watcher)
    (g.S.Sink.taken s.sink) (g.S.Sink.takes s.sink) (g.S.Sink.faults s.sink) s.over None c.self.invariant.0 refl none in
    let there = ap (λ (d : Desked). slice_get d.noted c.args.t) c.self.view_is ∙ c.requires.comes.1 in
    let has = c.if-not-is_awaited.ensures in
    let new = c.event-stepped.new in
    let within = c.self.invariant.1 in
    let more = acts-more c.args.t s.heap.history.acts new.heap.history.acts (further-behind _ _ _ _ _ c.event-stepped.ensures.acts) in (
      knows-on (g.C.Types.facts c.args.set.now) (g.H.Host.setting c.args.host.now) g.J.Naming.entry c.args.t c.args.stretch s.heap
          s.begins noted (g.W.Watcher.seen s.watcher) (g.S.Sink.taken s.sink) (g.S.Sink.takes s.sink) (g.S.Sink.faults s.sink)
          c.requires.comes.0 c.args.frames.now knows c.requires.of there (has.begins refl) (has.live refl) (has.asked refl) c.requires.comes.2
          c.event-stepped.result new.heap new.frames c.note_started.new.begins (values_of c.note.new.notes.items)
          c.of-before.result.started c.event-stepped.ensures.goes c.of-before.ensures c.note_started.ensures c.note.ensures
          (g.W.Watcher.seen new.watcher) (g.S.Sink.taken new.sink) (g.S.Sink.takes new.sink) (g.S.Sink.faults new.sink)
          c.event-stepped.ensures.told c.event-stepped.ensures.shares c.event-stepped.ensures.cause
          s.over (none ∙ sym (no-fault new.heap c.event-stepped.result c.in_default.not-Over)),
      omega (arith, within, more),
      sink-so (g.C.Types.facts c.args.set.now) (g.H.Host.setting c.args.host.now) g.J.Naming.entry c.args.t c.args.stretch s.heap
          s.begins noted (g.W.Watcher.seen s.watcher) (g.S.Sink.taken s.sink) (g.S.Sink.takes s.sink) (g.S.Sink.faults s.sink)
          c.requires.comes.0 c.args.frames.now knows c.requires.of there (has.begins refl) (has.live refl) (has.asked refl) c.requires.comes.2
          g.S.Sink.taken g.J.Naming.sink s.sink new.sink
          (sink-over g.S.Sink.taken g.J.Naming.entry g.J.Naming.sink s.over None s.sink s.heap none c.self.invariant.2)
          c.event-stepped.result new.heap c.event-stepped.ensures.spares
          s.over (none ∙ sym (no-fault new.heap c.event-stepped.result c.in_default.not-Over)),
    )

pub returns-in-Over-clause-entries : goal.returns-in-Over-clause-entries
returns-in-Over-clause-entries g c =
    let s = c.self.inside in
    let new = c.event-stepped.new in
    subst (λ (es : List Act). AddsEntriesBy (λ (a : Act). a.thread) c.args.t es (entries_from s.from new.heap.history.acts))
    (ap (λ (d : Desked). d.entries) c.self.view_is)
    (entries-by c.args.t s.from s.heap.history.acts new.heap.history.acts (further-behind _ _ _ _ _ c.event-stepped.ensures.acts) c.self.invariant.1)

pub returns-in-Over-clause-others : goal.returns-in-Over-clause-others
returns-in-Over-clause-others g c =
    let noted = ap (λ (d : Desked). d.noted) c.self.view_is in
    subst (λ (ps : List ThreadFrames). SameButOf c.args.t c.args.self.now.noted ps) (sym c.note.ensures)
    (subst (λ (ps : List ThreadFrames). SameButOf c.args.t ps (slice_set (values_of c.self.inside.notes.items) c.args.t c.event-stepped.new.frames)) noted
    (others-stay (values_of c.self.inside.notes.items) c.args.t c.event-stepped.new.frames))

pub returns : goal.returns
returns g c =
    let s = c.self.inside in
    let noted = values_of s.notes.items in
    let none = none-of s.over (sym c.is_some.ensures ∙ c.if-is_some.false) in
    let knows = knows-as g.J.Naming.entry s.heap (all_frames s.begins noted) (all_frames s.begins noted) (g.W.Watcher.seen s.watcher)
    (g.S.Sink.taken s.sink) (g.S.Sink.takes s.sink) (g.S.Sink.faults s.sink) s.over None c.self.invariant.0 refl none in
    let there = ap (λ (d : Desked). slice_get d.noted c.args.t) c.self.view_is ∙ c.requires.comes.1 in
    let has = c.if-not-is_awaited.ensures in
    let new = c.event-stepped.new in
    let noted' = values_of c.note.new.notes.items in
    let within = slice_get_within noted c.args.t c.requires.comes.0 there in
    let at = ap (λ (ps : List ThreadFrames). slice_get ps c.args.t) c.note.ensures ∙ get-same noted c.args.t new.frames within in
    let on = knows-on (g.C.Types.facts c.args.set.now) (g.H.Host.setting c.args.host.now) g.J.Naming.entry c.args.t c.args.stretch s.heap
    s.begins noted (g.W.Watcher.seen s.watcher) (g.S.Sink.taken s.sink) (g.S.Sink.takes s.sink) (g.S.Sink.faults s.sink)
    c.requires.comes.0 c.args.frames.now knows c.requires.of there (has.begins refl) (has.live refl) (has.asked refl) c.requires.comes.2
    c.event-stepped.result new.heap new.frames c.note_started.new.begins (values_of c.note.new.notes.items)
    c.of-before.result.started c.event-stepped.ensures.goes c.of-before.ensures c.note_started.ensures c.note.ensures
    (g.W.Watcher.seen new.watcher) (g.S.Sink.taken new.sink) (g.S.Sink.takes new.sink) (g.S.Sink.faults new.sink)
    c.event-stepped.ensures.told c.event-stepped.ensures.shares c.event-stepped.ensures.cause
    None (sym (no-fault new.heap c.event-stepped.result c.in_default.not-Over)) in
    record {
      entries = subst (λ (es : List Act). AddsEntriesBy (λ (a : Act). a.thread) c.args.t es (entries_from s.from new.heap.history.acts))
          (ap (λ (d : Desked). d.entries) c.self.view_is)
          (entries-by c.args.t s.from s.heap.history.acts new.heap.history.acts (further-behind _ _ _ _ _ c.event-stepped.ensures.acts)
          c.self.invariant.1);
      others = subst (λ (ps : List ThreadFrames). SameButOf c.args.t c.args.self.now.noted ps) (sym c.note.ensures)
          (subst (λ (ps : List ThreadFrames). SameButOf c.args.t ps (slice_set noted c.args.t new.frames))
          (ap (λ (d : Desked). d.noted) c.self.view_is) (others-stay noted c.args.t new.frames));
      noted = λ lives. at;
      program = λ lives. program-at g.J.Naming.entry new.heap (all_frames c.note_started.new.begins noted') (g.W.Watcher.seen new.watcher)
          (g.S.Sink.taken new.sink) (g.S.Sink.takes new.sink) (g.S.Sink.faults new.sink) on c.args.t new.frames
          (subst (λ (ts : List ThreadState). is_live ts c.args.t ≡ true) c.threads.ensures (sym c.is_live-lives.ensures ∙ lives))
          (has-left (g.C.Types.facts c.args.set.now) (g.H.Host.setting c.args.host.now) g.J.Naming.entry c.args.t c.args.stretch s.heap
          s.begins noted (g.W.Watcher.seen s.watcher) (g.S.Sink.taken s.sink) (g.S.Sink.takes s.sink) (g.S.Sink.faults s.sink)
          c.requires.comes.0 c.args.frames.now knows c.requires.of there (has.begins refl) (has.live refl) (has.asked refl) c.requires.comes.2
          c.event-stepped.result new.heap new.frames c.note_started.new.begins (values_of c.note.new.notes.items)
          c.of-before.result.started c.event-stepped.ensures.goes c.of-before.ensures c.note_started.ensures c.note.ensures at);
      lives = λ lives. subst (λ (ts : List ThreadState). is_live ts c.args.t ≡ true) c.threads.ensures (sym c.is_live-lives.ensures ∙ lives);
      may = elim c.if-lives.branch [
        | then-lives w ↦ λ may. w.if-lives.true
        | else-lives w ↦ λ may. absurd (let no = w.may-is in cc)
      ];
      over = λ came. absurd (let w = c.came_of-came.ensures.over came in c.in_default.not-Over w.0 w.1);
    }
