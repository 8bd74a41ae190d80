use Rattle.std.proofs.Common.{rules, refl, ◌≡◌, ◌∙◌, true, false, None, ap, is_some}
use Rattle.run_types.specs.declared.known.Known.{Known}
use Rattle.plain_model.specs.Facts.{is_sub}
use Rattle.plain_model.specs.Steps.{starts_thread}
use Rattle.shared_objects.specs.Threads.{started_from}
use Rattle.shared_objects.specs.Worlds.{world_of}
use Rattle.step_forms.proofs.Going.{same_goes, wrong_goes}
use Rattle.world_steps.proofs.Running.{found_plain, started_again}
use Rattle.world_steps.proofs.Resting.{start_goes, start_full, room_left, none_of}
use Rattle.world_steps.proofs.Worldly.{start_none, start_wrong, start_right}
use Rattle.world_steps.proofs.threads.start.Goals as goal

pub returns-in_default-clause-step : goal.returns-in_default-clause-step
returns-in_default-clause-step g c t from =
    let facts = g.C.Types.facts c.args.set.now in
    let before = g.O.Objects.shown c.args.objects.now in
    same_goes (λ roots taken. start_none facts (world_of roots before c.args.rest.now) t taken from _ (search
    rules))
    (c.throw.ensures.step t c.args.rest.now c.requires.monitors)

pub returns-then-not-is_sub-clause-step : goal.returns-then-not-is_sub-clause-step
returns-then-not-is_sub-clause-step g c t from =
    let facts = g.C.Types.facts c.args.set.now in
    let before = g.O.Objects.shown c.args.objects.now in
    let test : is_sub facts c.shape_of.result c.known.result.thread ≡ false = search rules in
    wrong_goes (λ roots taken. start_wrong facts (world_of roots before c.args.rest.now) t taken from _
    c.in-Some.object
    c.in-Some.ensures.number c.in-Some.ensures.below c.shape_of.result c.known.result.thread
    (c.shape_of.ensures.shape c.in-Some.object c.in-Some.ensures.number) (ap (λ (k : Known). k.thread)
    c.known.ensures) test) c.requires.monitors

pub returns-then-is_some-clause-step : goal.returns-then-is_some-clause-step
returns-then-is_some-clause-step g c t from =
    let facts = g.C.Types.facts c.args.set.now in
    let before = g.O.Objects.shown c.args.objects.now in
    let rest = c.args.rest.now in
    let n = c.in-Some.object in
    let test : is_sub facts c.shape_of.result c.known.result.thread ≡ true = search rules in
    let some : is_some (started_from 0 rest.threads n) ≡ true = search rules in
    same_goes (λ roots taken. start_right facts (world_of roots before rest) t taken from _ n
    c.in-Some.ensures.number c.in-Some.ensures.below c.shape_of.result c.known.result.thread
    (c.shape_of.ensures.shape n c.in-Some.ensures.number) (ap (λ (k : Known). k.thread) c.known.ensures) test
    ∙ ap (starts_thread facts (world_of roots before rest) n) (found_plain 0 n rest.threads)
    ∙ started_again facts (world_of roots before rest) rest.threads n (started_from 0 rest.threads n) some)
    (c.throw-then-is_some.ensures.step t rest c.requires.monitors)

pub returns-in-Err-clause-step : goal.returns-in-Err-clause-step
returns-in-Err-clause-step g c t from =
    let facts = g.C.Types.facts c.args.set.now in
    let before = g.O.Objects.shown c.args.objects.now in
    let rest = c.args.rest.now in
    let n = c.in-Some.object in
    let test : is_sub facts c.shape_of.result c.known.result.thread ≡ true = search rules in
    let none : started_from 0 rest.threads n ≡ None = none_of (started_from 0 rest.threads n) (search rules)
    in
    same_goes (λ roots taken. start_right facts (world_of roots before rest) t taken from _ n
    c.in-Some.ensures.number c.in-Some.ensures.below c.shape_of.result c.known.result.thread
    (c.shape_of.ensures.shape n c.in-Some.ensures.number) (ap (λ (k : Known). k.thread) c.known.ensures) test
    ∙ ap (starts_thread facts (world_of roots before rest) n) (found_plain 0 n rest.threads))
    (start_full t before rest c.requires.monitors facts n c.in-Err.full c.start.new.self none
    (c.in-Err.ensures.full.0 refl)
    c.in-Err.ensures.numbers c.in-Err.ensures.same)

pub returns-in-Ok-clause-step : goal.returns-in-Ok-clause-step
returns-in-Ok-clause-step g c t from =
    let facts = g.C.Types.facts c.args.set.now in
    let before = g.O.Objects.shown c.args.objects.now in
    let rest = c.args.rest.now in
    let n = c.in-Some.object in
    let test : is_sub facts c.shape_of.result c.known.result.thread ≡ true = search rules in
    let none : started_from 0 rest.threads n ≡ None = none_of (started_from 0 rest.threads n) (search rules)
    in
    same_goes (λ roots taken. start_right facts (world_of roots before rest) t taken from _ n
    c.in-Some.ensures.number c.in-Some.ensures.below c.shape_of.result c.known.result.thread
    (c.shape_of.ensures.shape n c.in-Some.ensures.number) (ap (λ (k : Known). k.thread) c.known.ensures) test
    ∙ ap (starts_thread facts (world_of roots before rest) n) (found_plain 0 n rest.threads))
    (start_goes t before rest c.requires.monitors facts n c.in-Ok.child c.start.new.self none (room_left _
    c.in-Ok.ensures.full)
    c.in-Ok.ensures.number c.in-Ok.ensures.started)
