use Rattle.std.proofs.Common.{refl, ◌≡◌, ap, sym, ◌∙◌, take, length, ◌<◌, ◌≤◌, subst, arith}
use Rattle.std.proofs.lemmas.List.{length-take-le}
use Rattle.natives.specs.declared.requests.Request.TheVariants as ask
use Rattle.natives.specs.declared.requests.Reply.TheVariants as reply
use Rattle.run_history.specs.declared.act.Op.TheVariants as op
use Rattle.run_types.specs.declared.fault.StepFault.TheVariants as fault
use Rattle.plain_model.specs.Steps.{Does, step}
use Rattle.shared_objects.specs.Worlds.{world_of}
use Rattle.step_forms.specs.Follows.{DoesPrint}
use Rattle.step_forms.proofs.Going.{did_goes, limit_goes}
use Rattle.world_steps.proofs.Worldly.{some_printed}
use Rattle.world_steps.proofs.printing.print.Goals as goal

pub returns-in-Err-clause-step : goal.returns-in-Err-clause-step
returns-in-Err-clause-step g c set t rest shown from known =
    let some : 1 ≤ length c.args.piece = rw (← c.as_slice.ensures.same) c.as_slice.ensures.some.0 in
    limit_goes fault.SinkFault
    (λ roots. subst DoesPrint (sym (some_printed set (world_of roots shown rest) t 1 from c.args.piece (omega
    arith) some)) tt)
    refl known

pub returns-in-Some-clause-step : goal.returns-in-Some-clause-step
returns-in-Some-clause-step g c set t rest shown from known =
    let is : c.in-Some.bytes ≡ take c.in-Ok.taken c.args.piece = c.in-Some.ensures.same
    ∙ ap (take c.in-Ok.taken) c.as_slice-in-Ok.ensures.same in
    let some : 0 < c.in-Ok.taken = c.in-Ok.ensures.some.0 in
    let most : c.in-Ok.taken ≤ length c.args.piece = rw (← c.as_slice.ensures.same) c.in-Ok.ensures.some.1 in
    let long : length c.in-Some.bytes ≡ c.in-Ok.taken = ap length is
    ∙ length-take-le c.in-Ok.taken c.args.piece most in
    did_goes (op.Print c.in-Some.bytes) (reply.Printed c.in-Ok.taken)
    (λ roots. ap (λ k. step set (world_of roots shown rest) t k (ask.Print from c.args.piece)) long
    ∙ some_printed set (world_of roots shown rest) t c.in-Ok.taken from c.args.piece some most
    ∙ ap (λ bs. Does (op.Print bs) (reply.Printed c.in-Ok.taken)) (sym is)) tt refl tt (λ roots. refl) known

pub returns-in-Some-clause-share : goal.returns-in-Some-clause-share
returns-in-Some-clause-share g c =
    let is : c.in-Some.bytes ≡ take c.in-Ok.taken c.args.piece = c.in-Some.ensures.same
    ∙ ap (take c.in-Ok.taken) c.as_slice-in-Ok.ensures.same in
    let most : c.in-Ok.taken ≤ length c.args.piece = rw (← c.as_slice.ensures.same) c.in-Ok.ensures.some.1 in
    let long : length c.in-Some.bytes ≡ c.in-Ok.taken = ap length is
    ∙ length-take-le c.in-Ok.taken c.args.piece most in
    rw (long, ← c.as_slice.ensures.same) c.in-Ok.ensures.told
