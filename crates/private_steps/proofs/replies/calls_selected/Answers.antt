use Rattle.std.proofs.Common.{rules, arith, ◌≡◌, ◌∙◌, false, sym}
use Rattle.std.proofs.lemmas.Grind.{common_steps}
use Rattle.private_steps.specs.Replies.{is_shape}
use Rattle.private_steps.proofs.Replied.{virtual-replied}
use Rattle.private_steps.proofs.replies.calls_selected.Goals as goal

pub returns-in_default-clause-step : goal.returns-in_default-clause-step
returns-in_default-clause-step g c =
    let e : false ≡ is_shape c.args.reply.now = first_of (search rules, grind (arith, common_steps)) in
    c.replaces.ensures.step ∙ sym (virtual-replied (g.H.Host.setting c.args.host.now) c.args.standing.method
    c.args.standing.at c.args.thread.now.own c.args.standing.held c.args.thread.now.below c.args.number c.args.reply.now c.requires.reply (sym e))
