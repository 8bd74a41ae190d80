use Rattle.std.proofs.Common.{rules, arith, ◌≡◌, ◌∙◌, false, sym, ap}
use Rattle.std.proofs.lemmas.Grind.{common_steps}
use Rattle.private_steps.specs.Replies.{goes_its_way}
use Rattle.private_steps.proofs.Replied.{other-replied, static-replied, return-replied, value-replied}
use Rattle.frames.specs.Turns.{instruction_answered}
use Rattle.private_steps.proofs.replies.goes_on.Goals as goal

pub returns-in_default-clause-step : goal.returns-in_default-clause-step
returns-in_default-clause-step g c =
    let e : false ≡ goes_its_way c.args.op = first_of (search rules, grind (arith, common_steps)) in
    c.replaces.ensures.step ∙ sym (other-replied (g.H.Host.setting c.args.host.now) c.args.standing.method
    c.args.standing.at c.args.thread.now.own c.args.standing.held c.args.thread.now.below c.args.op c.args.reply.now (sym e) c.requires.reply)

pub returns-in-InvokeStatic-clause-step : goal.returns-in-InvokeStatic-clause-step
returns-in-InvokeStatic-clause-step g c =
    let x = g.H.Host.setting c.args.host.now in
    let t = c.args.thread.now in
    let s = c.args.standing in
    c.calls.ensures.step ∙ sym (static-replied x s.method s.at t.own s.held t.below c.in-InvokeStatic.number
    c.args.reply.now c.requires.reply) ∙
    ap (λ o. instruction_answered x o s.method s.at t.own s.held t.below c.args.reply.now)
    (sym c.in-InvokeStatic.is)

pub returns-in-Return-clause-step : goal.returns-in-Return-clause-step
returns-in-Return-clause-step g c =
    let x = g.H.Host.setting c.args.host.now in
    let t = c.args.thread.now in
    let s = c.args.standing in
    c.gives_back.ensures.step ∙ sym (return-replied x s.method s.at t.own s.held t.below
    c.args.reply.now c.requires.reply) ∙
    ap (λ o. instruction_answered x o s.method s.at t.own s.held t.below c.args.reply.now)
    (sym c.in-Return.is)

pub returns-in-ReturnValue-clause-step : goal.returns-in-ReturnValue-clause-step
returns-in-ReturnValue-clause-step g c =
    let x = g.H.Host.setting c.args.host.now in
    let t = c.args.thread.now in
    let s = c.args.standing in
    c.gives_back-in-ReturnValue.ensures.step ∙ sym (value-replied x s.method s.at t.own s.held t.below
    c.in-ReturnValue.sort c.args.reply.now c.requires.reply) ∙
    ap (λ o. instruction_answered x o s.method s.at t.own s.held t.below c.args.reply.now)
    (sym c.in-ReturnValue.is)
