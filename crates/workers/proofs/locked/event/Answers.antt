use Rattle.std.proofs.Common.{◌≡◌, ℕ, ap, arith, refl, subst, sym}
use Rattle.std.specs.Prelude.{slice_set}
use Rattle.durable_run.specs.Apart.{after_event}
use Rattle.durable_run.specs.Events.{AddsBehind, StepsBehind}
use Rattle.durable_run.proofs.Stretching.{counts-all, further-none}
use Rattle.workers.specs.Shared.{pauses_of}
use Rattle.workers.proofs.Stepping.{asked-there, stretched-so}
use Rattle.workers.proofs.locked.event.Goals as goal

pub returns-in-Some-clause-goes : goal.returns-in-Some-clause-goes
returns-in-Some-clause-goes g c = λ o first all before next.
    let set = g.C.Types.facts c.args.set.now in
    let x = g.H.Host.setting c.args.host.now in
    let new = c.step_stretch.new in
    subst (λ (n : ℕ). StepsBehind n o first set x c.args.t c.step_stretch.result c.args.heap.now new.heap
    (after_event c.step_stretch.result c.args.heap.now new.heap (slice_set all c.args.t new.frames)))
    (sym (ap pauses_of c.in-Some.is))
    (c.step_stretch.ensures.goes o first all before (stretched-so o first set x c.args.heap.now all c.args.t c.args.stretch before
    c.args.frames.now next c.in-Some.stretch c.in-Some.is))

pub returns-in-Some-clause-acts : goal.returns-in-Some-clause-acts
returns-in-Some-clause-acts g c =
    subst (λ (n : ℕ). AddsBehind n c.step_stretch.result c.args.t c.args.heap.now.history.acts c.step_stretch.new.heap.history.acts)
    (sym (ap pauses_of c.in-Some.is)) c.step_stretch.ensures.acts

pub returns-in-None-clause-goes : goal.returns-in-None-clause-goes
returns-in-None-clause-goes g c = λ o first all before next. (
  c.args.heap.now,
  λ none. refl,
  c.step_asked.ensures.goes o first all next.ready (asked-there o first (g.C.Types.facts c.args.set.now)
      (g.H.Host.setting c.args.host.now) c.args.heap.now all c.args.t c.args.stretch before c.args.frames.now next c.in-None.is),
)

pub returns-in-None-clause-acts : goal.returns-in-None-clause-acts
returns-in-None-clause-acts g c =
    let none : pauses_of c.args.stretch ≡ 0 = ap pauses_of c.in-None.is in record {
      mid = c.args.heap.now.history.acts;
      paused = further-none c.args.t c.args.heap.now.history.acts;
      count = counts-all c.step_asked.result _ _ (omega (arith, none));
      last = c.step_asked.ensures.acts;
    }

pub returns-in-Some-clause-shares : goal.returns-in-Some-clause-shares
returns-in-Some-clause-shares g c = λ o first all before next.
    c.step_stretch.ensures.shares o first all before (stretched-so o first (g.C.Types.facts c.args.set.now) (g.H.Host.setting c.args.host.now)
    c.args.heap.now all c.args.t c.args.stretch before c.args.frames.now next c.in-Some.stretch c.in-Some.is)

pub returns-in-None-clause-shares : goal.returns-in-None-clause-shares
returns-in-None-clause-shares g c = λ o first all before next.
    c.step_asked.ensures.shares o first all next.ready (asked-there o first (g.C.Types.facts c.args.set.now) (g.H.Host.setting c.args.host.now)
    c.args.heap.now all c.args.t c.args.stretch before c.args.frames.now next c.in-None.is)

pub returns-in-Some-clause-spares : goal.returns-in-Some-clause-spares
returns-in-Some-clause-spares g c = λ o first all before next.
    c.step_stretch.ensures.spares o first all before (stretched-so o first (g.C.Types.facts c.args.set.now) (g.H.Host.setting c.args.host.now)
    c.args.heap.now all c.args.t c.args.stretch before c.args.frames.now next c.in-Some.stretch c.in-Some.is)

pub returns-in-None-clause-spares : goal.returns-in-None-clause-spares
returns-in-None-clause-spares g c = λ o first all before next.
    c.step_asked.ensures.spares o first all next.ready (asked-there o first (g.C.Types.facts c.args.set.now) (g.H.Host.setting c.args.host.now)
    c.args.heap.now all c.args.t c.args.stretch before c.args.frames.now next c.in-None.is)
