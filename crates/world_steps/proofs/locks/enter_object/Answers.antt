use Rattle.std.proofs.Common.{rules, sym, ap, ◌∙◌}
use Rattle.run_history.specs.declared.act.PlainKey.TheVariants as plain
use Rattle.plain_model.specs.Steps.{enters}
use Rattle.shared_objects.specs.Worlds.{world_of, number_or}
use Rattle.step_forms.specs.Follows.{Goes}
use Rattle.step_forms.proofs.Going.{same_goes}
use Rattle.step_forms.proofs.Kept.{some_of}
use Rattle.world_steps.proofs.Worldly.{enter_none, enter_some}
use Rattle.world_steps.proofs.locks.enter_object.Goals as goal

pub returns-in_default-clause-step : goal.returns-in_default-clause-step
returns-in_default-clause-step g c from =
    let facts = g.C.Types.facts c.args.set.now in
    let before = g.O.Objects.shown c.args.objects.now in
    same_goes (λ roots taken. enter_none facts (world_of roots before c.args.rest.now) c.args.t taken from _
    (search rules))
    (c.throw.ensures.step c.args.t c.args.rest.now c.requires.monitors)

pub enter_key-requires-clause-held : goal.enter_key-requires-clause-held
enter_key-requires-clause-held g c = (
  some_of (c.key_of.ensures.number
      ∙ c.in-Some.ensures.number),
  c.key_of.ensures.key,
)

pub enter_key-requires-clause-plain : goal.enter_key-requires-clause-plain
enter_key-requires-clause-plain g c = ap (λ o. plain.Object (number_or o)) (sym (c.key_of.ensures.number
    ∙ c.in-Some.ensures.number))

pub returns-clause-step : goal.returns-clause-step
returns-clause-step g c from =
    let facts = g.C.Types.facts c.args.set.now in
    let before = g.O.Objects.shown c.args.objects.now in
    let goes : Goes (λ roots taken. enters facts (world_of roots before c.args.rest.now) c.args.t
    (plain.Object c.in-Some.n)) c.args.t before c.args.rest.now
    c.enter_key.result before c.enter_key.new.rest = c.enter_key.ensures.step facts in
    same_goes (λ roots taken. enter_some facts (world_of roots before c.args.rest.now) c.args.t taken from _
    c.in-Some.n c.in-Some.ensures.number c.in-Some.ensures.below) goes
