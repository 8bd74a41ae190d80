use Rattle.std.proofs.Common.{refl, ◌≡◌, ◌≢◌, ap, ◌∙◌, rules, slice_get}
use Rattle.run_types.specs.declared.wait.On.TheVariants as on
use Rattle.natives.specs.declared.requests.Reply.TheVariants as reply
use Rattle.run_history.specs.declared.act.Op.TheVariants as op
use Rattle.run_history.specs.declared.act.Stage.TheVariants as stage
use Rattle.run_history.specs.declared.plain.Progress.TheVariants.{Untouched, BegunBy, Finished}
use Rattle.shared_objects.specs.Worlds.{world_of}
use Rattle.step_forms.proofs.Going.{did_goes, waits_goes}
use Rattle.step_forms.proofs.Ways.{class_untouched, class_finished, class_own, class_waits, progress_is}
use Rattle.step_forms.proofs.initialising.initialise_first.Goals as goal

pub returns-in-Untouched-clause-first : goal.returns-in-Untouched-clause-first
returns-in-Untouched-clause-first c set shown go known =
    let is = progress_is c.args.rest.now.classes.items c.args.class c.index.result.now Untouched
    c.requires.there c.index.ensures c.in-Untouched.is in
    did_goes (op.Init c.args.class stage.Begun) (reply.Init c.args.class)
    (λ roots. class_untouched set (world_of roots shown c.args.rest.now) c.args.t c.args.class (go roots 1)
    is) tt refl tt (λ roots. refl) known

pub returns-then-number-clause-first : goal.returns-then-number-clause-first
returns-then-number-clause-first c =
    let is = progress_is c.args.rest.now.classes.items c.args.class c.index.result.now (BegunBy
    c.in-BegunBy.u) c.requires.there c.index.ensures c.in-BegunBy.is in
    let own : c.in-BegunBy.u ≡ c.args.t = search rules in (
      λ set world go same. class_own set world c.args.t c.args.class c.in-BegunBy.u go (ap (λ ps. slice_get ps
          c.args.class) same ∙ is) own,
      refl,
    )

pub returns-else-number-clause-first : goal.returns-else-number-clause-first
returns-else-number-clause-first c set shown go known =
    let is = progress_is c.args.rest.now.classes.items c.args.class c.index.result.now (BegunBy
    c.in-BegunBy.u) c.requires.there c.index.ensures c.in-BegunBy.is in
    let other : c.in-BegunBy.u ≢ c.args.t = search rules in
    waits_goes (on.Init c.in-BegunBy.u)
    (λ roots taken. class_waits set (world_of roots shown c.args.rest.now) c.args.t c.args.class
    c.in-BegunBy.u (go roots taken) is other) known

pub returns-in-Finished-clause-first : goal.returns-in-Finished-clause-first
returns-in-Finished-clause-first c =
    let is = progress_is c.args.rest.now.classes.items c.args.class c.index.result.now Finished
    c.requires.there c.index.ensures c.in-Finished.is in (
      λ set world go same. class_finished set world c.args.t c.args.class go (ap (λ ps. slice_get ps
          c.args.class) same ∙ is),
      refl,
    )
