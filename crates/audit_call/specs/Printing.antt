-- What is printed of a verdict, and the status that it has.
use Rattle.std.specs.Prelude.{◌≡◌, ◌⊎◌, ◌<◌, ℕ, List, ◌++◌, codes, decimal, length, take, Option}
use Rattle.ap_base.specs.Sinks.{with_bytes}
use Rattle.audit_verdicts.specs.declared.verdict.Verdict.{Verdict}
use Rattle.audit_verdicts.specs.declared.verdict.Verdict.TheVariants.{Yes, Act, Output, Image}
use Rattle.statuses.specs.declared.status.Status.{Status}
use Rattle.statuses.specs.declared.status.Status.TheVariants as status

-- `yes`; or `no`, and what is wrong
abbrev pub verdict_line : Verdict → List ℕ
verdict_line Yes = codes "yes\n"
verdict_line (Act n) = codes "no act " ++ decimal n ++ codes "\n"
verdict_line Output = codes "no output\n"
verdict_line Image = codes "no image\n"

-- each verdict but Yes refutes the run
abbrev pub status_of : Verdict → Status
status_of Yes = status.Ok
status_of (Act n) = status.Refuted
status_of Output = status.Refuted
status_of Image = status.Refuted

-- All of the line was put, and the status is the verdict's.
pub record HasPut (verdict : Verdict) (how : Status) (takes takes' : Option (List ℕ)) : Type 0 where
  pub is : how ≡ status_of verdict
  pub put : takes' ≡ with_bytes takes (verdict_line verdict)

-- The sink failed: it took a front of the line, and not all.
pub record HasPutFront (verdict : Verdict) (how : Status) (takes takes' : Option (List ℕ)) : Type 0 where
  pub is : how ≡ status.SinkFault
  pub many : ℕ
  pub less : many < length (verdict_line verdict)
  pub put : takes' ≡ with_bytes takes (take many (verdict_line verdict))

abbrev pub IsPut : Verdict → Status → (takes takes' : Option (List ℕ)) → Type 0
IsPut verdict how takes takes' = HasPut verdict how takes takes' ⊎ HasPutFront verdict how takes takes'
