use Rattle.std.proofs.Common.{◌∙◌, ℕ, ap, arith}
use Rattle.std.specs.Prelude.{slice_set}
use Rattle.run_forms.specs.Views.{ThreadFrames}
use Rattle.machine.specs.Passed.{started_as}
use Rattle.durable_run.specs.Apart.{begun_as}
use Rattle.durable_run.proofs.FramesApart.{begun-there}
use Rattle.durable_run.proofs.Stepping.{elem-at}
use Rattle.durable_run.proofs.steps.begin_next.Goals as goal

pub returns-in-Some-clause-begun : goal.returns-in-Some-clause-begun
returns-in-Some-clause-begun g c more =
    let items = c.args.frames.now.items in
    let notes = c.args.heap.now.notes in
    let elem = c.index_mut.result.now in
    let many = c.requires.many in
    let same = c.in-Some.ensures.same in
    let at = c.number.ensures.same ∙ same in
    let there = elem-at items c.args.before c.number.result elem at c.index_mut.ensures.value
    (omega (arith, many, at, c.number.ensures.below)) in
    ap (λ (fs : ThreadFrames). slice_set items c.number.result fs) c.begin_started.ensures
    ∙ ap (λ (n : ℕ). slice_set items n (begun_as (started_as notes c.in-Some.child) elem)) at
    ∙ ap (λ (n : ℕ). slice_set items c.args.before (begun_as (started_as notes n) elem)) same
    ∙ begun-there items c.args.before (started_as notes c.args.before) elem there
