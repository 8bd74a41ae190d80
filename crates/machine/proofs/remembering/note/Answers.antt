use Rattle.std.proofs.Common.{inl, inr, refl, sym, ◌∙◌, subst}
use Rattle.machine.specs.declared.events.Event.TheVariants.{Over}
use Rattle.machine.specs.declared.events.Halt.TheVariants.{Stuck}
use Rattle.machine.specs.Remembering.{IsSomeRunning, NotesEvent}
use Rattle.shared_heap.specs.Notes.{AreOf64, asking, waiting}
use Rattle.machine.proofs.remembering.note.Goals as goal

pub returns-in-Micro-clause-went : goal.returns-in-Micro-clause-went
returns-in-Micro-clause-went g c e =
    subst (λ q. NotesEvent (g.C.Types.facts c.args.set.now) c.args.t q c.args.came.now c.args.came.now c.args.heap.now
    c.ask_for.new.self) c.replace.ensures.value
    (subst (λ e. NotesEvent (g.C.Types.facts c.args.set.now) c.args.t c.replace.result e e c.args.heap.now
    c.ask_for.new.self) (sym c.in-Micro.is) (refl, c.ask_for.ensures.asks, c.ask_for.ensures.threads))

pub note_wait-requires-clause-notable : goal.note_wait-requires-clause-notable
note_wait-requires-clause-notable g c =
    let s = c.args.heap.now in
    subst (λ q. AreOf64 (waiting (asking s.notes c.args.t q) c.args.t c.in-WouldWait.on)
    → IsSomeRunning (g.C.Types.facts c.args.set.now)
    (record s { notes = waiting (asking s.notes c.args.t q) c.args.t c.in-WouldWait.on })) (sym c.replace-in-WouldWait.ensures.value)
    (c.requires.notable c.in-WouldWait.on c.in-WouldWait.is)

pub returns-in-WouldWait-clause-stuck : goal.returns-in-WouldWait-clause-stuck
returns-in-WouldWait-clause-stuck g c full =
    subst (λ q. NotesEvent (g.C.Types.facts c.args.set.now) c.args.t q c.args.came.now (Over Stuck) c.args.heap.now
    c.note_wait.new.heap) c.replace-in-WouldWait.ensures.value
    (subst (λ e. NotesEvent (g.C.Types.facts c.args.set.now) c.args.t c.replace-in-WouldWait.result e (Over Stuck) c.args.heap.now
    c.note_wait.new.heap) (sym c.in-WouldWait.is) (
      c.note_wait.ensures.noted,
      c.note_wait.ensures.threads,
      inl (refl, λ roots. (c.note_wait.ensures.all roots).0 full),
    ))

pub returns-in-WouldWait-clause-went : goal.returns-in-WouldWait-clause-went
returns-in-WouldWait-clause-went g c some =
    subst (λ q. NotesEvent (g.C.Types.facts c.args.set.now) c.args.t q c.args.came.now c.args.came.now c.args.heap.now
    c.note_wait.new.heap) c.replace-in-WouldWait.ensures.value
    (subst (λ e. NotesEvent (g.C.Types.facts c.args.set.now) c.args.t c.replace-in-WouldWait.result e e c.args.heap.now
    c.note_wait.new.heap) (sym c.in-WouldWait.is) (
      c.note_wait.ensures.noted,
      c.note_wait.ensures.threads,
      inr (refl, λ roots all. let not_so = sym some ∙ (c.note_wait.ensures.all roots).1 all in cc),
    ))
