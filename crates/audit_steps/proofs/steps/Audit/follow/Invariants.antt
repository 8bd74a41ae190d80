use Rattle.std.proofs.Common.{◌≤◌, ◌-◌, [], length, take}
use Rattle.run_forms.specs.Standing.{Launch}
use Rattle.audit_steps.specs.Audits.{IsAt}
use Rattle.audit_steps.proofs.steps.Audit.follow.Given as goal

abbrev pub invariant-acts : goal.invariant-acts
invariant-acts g l = record {
  there : l.i ≤ length l.acts.acts;
  at : (launch : Launch) → IsAt launch [] (g.C.Types.facts l.set) (g.H.Host.setting l.host) l.fn.self
      → IsAt launch (take l.i l.acts.acts) (g.C.Types.facts l.set) (g.H.Host.setting l.host) l.self;
}

abbrev pub decreases-acts : goal.decreases-acts
decreases-acts g l = length l.acts.acts - l.i
