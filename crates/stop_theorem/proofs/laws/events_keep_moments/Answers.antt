use Rattle.line_memory.specs.Memory.{CanLeaveAll}
use Rattle.stop_theorem.specs.Stops.{IsAllowedImage}
use Rattle.stop_theorem.proofs.Allowed.{allowed_now}
use Rattle.stop_theorem.proofs.Moments.{safe_call, safe_quiet, safe_act}
use Rattle.stop_theorem.proofs.laws.events_keep_moments.Goals as goal

pub returns-clause-calls : goal.returns-clause-calls
returns-clause-calls c first lay Waits begin start acts old new s safe goes counts on =
    safe_call (λ done d. IsAllowedImage first lay.size lay.directory done d) begin start acts old safe new
    (CanLeaveAll old) goes counts on
    (λ d left. allowed_now first acts lay Waits old d s left)

pub returns-clause-stores : goal.returns-clause-stores
returns-clause-stores c first size directory begin start acts old new safe same =
    safe_quiet (λ done d. IsAllowedImage first size directory done d) begin start acts old safe new same

pub returns-clause-acts : goal.returns-clause-acts
returns-clause-acts c first size directory begin start acts m a safe now =
    safe_act (λ done d. IsAllowedImage first size directory done d) begin start acts m safe a now
