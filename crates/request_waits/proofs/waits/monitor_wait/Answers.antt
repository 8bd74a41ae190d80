use Rattle.std.proofs.Common.{rules, ◌≡◌, ◌≢◌, sym, ◌∙◌}
use Rattle.request_waits.proofs.Waited.{owner-none, owner-other, owner-own}
use Rattle.request_waits.proofs.waits.monitor_wait.Goals as goal

pub returns-then-number : goal.returns-then-number
returns-then-number c =
    let own : c.in-Some.owner ≡ c.args.t = search rules in
    record { wait = owner-own c.args.t c.in-Some.owner _ (sym c.holder.ensures.holder ∙ c.in-Some.is) own }

pub returns-else-number : goal.returns-else-number
returns-else-number c =
    let other : c.in-Some.owner ≢ c.args.t = search rules in
    record { wait = owner-other c.args.t c.in-Some.owner _ (sym c.holder.ensures.holder ∙ c.in-Some.is) other }

pub returns-in-None : goal.returns-in-None
returns-in-None c = record { wait = owner-none c.args.t _ (sym c.holder.ensures.holder ∙ c.in-None.is) }
