use Rattle.std.proofs.Common.{◌∙◌, ℕ, List, ap, arith, length, subst, sym}
use Rattle.std.specs.Prelude.{slice_set}
use Rattle.std.proofs.lemmas.List.{length-set}
use Rattle.shared_objects.specs.declared.threads.ThreadState.{ThreadState}
use Rattle.durable_run.specs.Apart.{after_event}
use Rattle.durable_run.specs.Events.{StepsTo}
use Rattle.durable_run.proofs.Stepping.{elem-at}
use Rattle.durable_run.proofs.steps.continues.Goals as goal

pub step_asked-went-requires : goal.step_asked-went-requires
step_asked-went-requires g c =
    let r = c.requires.ready in
    let many = r.2.many in
    record {
      ready = (
        r.0,
        r.1,
        c.args.run.now.frames.items,
        r.2,
        elem-at c.args.run.now.frames.items c.args.t c.number.result c.index_mut.result.now c.number.ensures.same
            c.index_mut.ensures.value (omega (arith, many)),
      );
      asked = c.requires.asked;
    }

pub begin_after-requires : goal.begin_after-requires
begin_after-requires g c = record {
  many = length-set c.args.run.now.frames.items c.number.result c.step_asked-went.new.frames
      ∙ c.requires.ready.2.many;
}

pub returns-clause-goes : goal.returns-clause-goes
returns-clause-goes g c o first ready =
    let set = g.C.Types.facts c.args.set.now in
    let x = g.H.Host.setting c.args.host.now in
    let s = c.args.run.now.heap in
    let new = c.step_asked-went.new.heap in
    let items = c.args.run.now.frames.items in
    let own = c.step_asked-went.new.frames in
    let went = c.step_asked-went.result in
    let many = ready.many in
    subst (StepsTo o first set x c.args.t went s new)
    (ap (λ (n : ℕ). after_event went s new (slice_set items n own)) (sym c.number.ensures.same)
    ∙ sym (c.begin_after.ensures.begun s
    (c.count-before.ensures.count ∙ ap (λ (states : List ThreadState). length states) c.threads.ensures)))
    (c.step_asked-went.ensures.goes o first items ready
    (elem-at items c.args.t c.number.result c.index_mut.result.now c.number.ensures.same c.index_mut.ensures.value
    (omega (arith, many))))

pub returns-clause-shares : goal.returns-clause-shares
returns-clause-shares g c o first ready =
    let items = c.args.run.now.frames.items in
    let many = ready.many in
    c.step_asked-went.ensures.shares o first items ready
    (elem-at items c.args.t c.number.result c.index_mut.result.now c.number.ensures.same c.index_mut.ensures.value
    (omega (arith, many)))

pub returns-clause-finds : goal.returns-clause-finds
returns-clause-finds g c o first ready =
    let items = c.args.run.now.frames.items in
    let many = ready.many in
    c.step_asked-went.ensures.finds o first items ready
    (elem-at items c.args.t c.number.result c.index_mut.result.now c.number.ensures.same c.index_mut.ensures.value
    (omega (arith, many)))

pub returns-clause-spares : goal.returns-clause-spares
returns-clause-spares g c o first ready =
    let items = c.args.run.now.frames.items in
    let many = ready.many in
    c.step_asked-went.ensures.spares o first items ready
    (elem-at items c.args.t c.number.result c.index_mut.result.now c.number.ensures.same c.index_mut.ensures.value
    (omega (arith, many)))
