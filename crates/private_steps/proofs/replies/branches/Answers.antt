use Rattle.std.proofs.Common.{rules, arith, ◌≡◌, ◌∙◌, false, sym}
use Rattle.std.proofs.lemmas.Grind.{common_steps}
use Rattle.private_steps.specs.Replies.{is_item}
use Rattle.private_steps.proofs.Replied.{same-replied}
use Rattle.private_steps.proofs.replies.branches.Goals as goal

pub returns-in_default-clause-step : goal.returns-in_default-clause-step
returns-in_default-clause-step g c =
    let e : false ≡ is_item c.args.reply.now = first_of (search rules, grind (arith, common_steps)) in
    c.replaces.ensures.step ∙ sym (same-replied (g.H.Host.setting c.args.host.now) c.args.standing.method
    c.args.standing.at c.args.thread.now.own c.args.standing.held c.args.thread.now.below c.args.equality c.args.target c.args.reply.now c.requires.reply (sym e))
