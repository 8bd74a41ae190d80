use Rattle.std.proofs.Common.{rules, refl, ◌≡◌, ◌∙◌, true, false, Some, ap, sym}
use Rattle.run_types.specs.declared.known.Known.{Known}
use Rattle.natives.specs.declared.requests.Reply.TheVariants as reply
use Rattle.run_history.specs.declared.act.Op.TheVariants as op
use Rattle.plain_model.specs.Facts.{is_sub}
use Rattle.plain_model.specs.Steps.{joins_thread}
use Rattle.shared_objects.specs.Threads.{started_from}
use Rattle.shared_objects.specs.Worlds.{world_of}
use Rattle.step_forms.proofs.Going.{same_goes, wrong_goes, did_goes}
use Rattle.step_forms.proofs.Becoming.{quiet_becomes}
use Rattle.world_steps.proofs.Running.{found_plain, join_none, join_started}
use Rattle.world_steps.proofs.Resting.{awaited_goes}
use Rattle.world_steps.proofs.Worldly.{join_null, join_wrong, join_right}
use Rattle.world_steps.proofs.threads.join.Goals as goal

pub returns-in_default-clause-step : goal.returns-in_default-clause-step
returns-in_default-clause-step g c t from =
    let facts = g.C.Types.facts c.args.set.now in
    let before = g.O.Objects.shown c.args.objects.now in
    same_goes (λ roots taken. join_null facts (world_of roots before c.args.rest.now) t taken from _ (search
    rules))
    (c.throw.ensures.step t c.args.rest.now c.requires.monitors)

pub returns-then-not-is_sub-clause-step : goal.returns-then-not-is_sub-clause-step
returns-then-not-is_sub-clause-step g c t from =
    let facts = g.C.Types.facts c.args.set.now in
    let before = g.O.Objects.shown c.args.objects.now in
    let test : is_sub facts c.shape_of.result c.known.result.thread ≡ false = search rules in
    wrong_goes (λ roots taken. join_wrong facts (world_of roots before c.args.rest.now) t taken from _
    c.in-Some.object
    c.in-Some.ensures.number c.in-Some.ensures.below c.shape_of.result c.known.result.thread
    (c.shape_of.ensures.shape c.in-Some.object c.in-Some.ensures.number) (ap (λ (k : Known). k.thread)
    c.known.ensures) test) c.requires.monitors

pub returns-in-None-clause-step : goal.returns-in-None-clause-step
returns-in-None-clause-step g c t from =
    let facts = g.C.Types.facts c.args.set.now in
    let before = g.O.Objects.shown c.args.objects.now in
    let rest = c.args.rest.now in
    let n = c.in-Some.object in
    let test : is_sub facts c.shape_of.result c.known.result.thread ≡ true = search rules in
    rw c.waited_for.ensures.is (did_goes (op.Join n) reply.Done (λ roots.
    join_right facts (world_of roots before rest) t 1 from _ n
    c.in-Some.ensures.number c.in-Some.ensures.below c.shape_of.result c.known.result.thread
    (c.shape_of.ensures.shape n c.in-Some.ensures.number) (ap (λ (k : Known). k.thread) c.known.ensures) test
    ∙ ap (joins_thread facts (world_of roots before rest) n) (found_plain 0 n rest.threads)
    ∙ join_none facts (world_of roots before rest) rest.threads n (started_from 0 rest.threads n) (sym
    c.started.ensures.found ∙ c.in-None.is))
    tt refl tt (λ roots. refl) c.requires.monitors)

pub returns-in-Some-started-clause-step : goal.returns-in-Some-started-clause-step
returns-in-Some-started-clause-step g c t from =
    let facts = g.C.Types.facts c.args.set.now in
    let before = g.O.Objects.shown c.args.objects.now in
    let rest = c.args.rest.now in
    let n = c.in-Some.object in
    let u = c.in-Some-started.found.0 in
    let s = c.in-Some-started.found.1 in
    let test : is_sub facts c.shape_of.result c.known.result.thread ≡ true = search rules in
    let found : started_from 0 rest.threads n ≡ Some (u, s) = sym c.started.ensures.found
    ∙ c.in-Some-started.is in
    rw c.await_end.ensures.is (awaited_goes t before rest n u s.ended c.requires.monitors (λ roots taken.
    join_right facts (world_of roots before rest) t taken from _ n
    c.in-Some.ensures.number c.in-Some.ensures.below c.shape_of.result c.known.result.thread
    (c.shape_of.ensures.shape n c.in-Some.ensures.number) (ap (λ (k : Known). k.thread) c.known.ensures) test
    ∙ ap (joins_thread facts (world_of roots before rest) n) (found_plain 0 n rest.threads)
    ∙ join_started facts (world_of roots before rest) rest.threads n (started_from 0 rest.threads n) u s
    found))

pub returns-in-None-clause-heap : goal.returns-in-None-clause-heap
returns-in-None-clause-heap g c = quiet_becomes g.O.Objects.shown g.O.Objects.stores g.O.Objects.makes
    c.args.objects.now c.waited_for.result c.waited_for.ensures.quiet

pub returns-in-Some-started-clause-heap : goal.returns-in-Some-started-clause-heap
returns-in-Some-started-clause-heap g c = quiet_becomes g.O.Objects.shown g.O.Objects.stores g.O.Objects.makes
    c.args.objects.now c.await_end.result c.await_end.ensures.quiet
