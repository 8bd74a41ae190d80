-- Verdicts by what was followed and what is left.
use Rattle.std.proofs.Common.{◌≡◌, ◌≢◌, ℕ, List, length, refl, ap, sym, ◌∙◌, subst}
use Rattle.std.specs.Prelude.{Result, Ok, IfOk, Option, Some, None, IfSome}
use Rattle.run_types.specs.declared.limits.Limits.{Limits}
use Rattle.graph_model.specs.declared.types.Graph.{Graph}
use Rattle.run_history.specs.Recorded.{Recorded}
use Rattle.run_history.specs.Knowing.{known_after}
use Rattle.plain_model.specs.First.{first_known}
use Rattle.plain_model.specs.Runs.{IsAllowed}
use Rattle.plain_launch.specs.Launches.{launch_of}
use Rattle.program_launch.specs.declared.mains.Main.{Main}
use Rattle.program_launch.specs.declared.mains.NoMain.{NoMain}
use Rattle.run_forms.specs.Standing.{IsRun}
use Rattle.class_set.specs.Linked.{Linked}
use Rattle.class_set.specs.Facts.{facts_of}
use Rattle.audit_verdicts.specs.declared.verdict.Verdict.{Verdict}
use Rattle.audit_verdicts.specs.declared.verdict.Verdict.TheVariants.{Yes, Act, Output, Image}
use Rattle.audit_verdicts.specs.Picked.{has_bit, kept_by}
use Rattle.audit_steps.specs.Audits.{StopsAt}
use Rattle.audit_runs.specs.Audits.{IsLeft, IsMainOf, IsRight, code_from}

-- a class has one `main`
pub one-main : (set : Linked) (class : ℕ) (a b : Main) → IsMainOf set class a → IsMainOf set class b → a ≡ b
one-main set class a b is also =
    let same : ◌≡◌ {A = Result Main NoMain} (Ok a) (Ok b) = sym is ∙ also in cc

module _ (set : Linked) (main : Main) (opening : Graph) (limits : Limits) (acts : List Recorded) (keep : ℕ)
    (output : List ℕ) (after : Graph) where
  pub right-act : (n : ℕ) → StopsAt (launch_of set main opening limits) acts n
      → IsRight set main opening acts keep output after (Act n)
  right-act n stop = (stop.there, stop.run, stop.no_run)

  pub right-end : (v : Verdict) → IsRun (launch_of set main opening limits) acts
      → IsLeft (first_known (facts_of set) opening) acts keep output after v
      → IsRight set main opening acts keep output after v
  right-end Yes run left = (run, left.0, left.1)
  right-end (Act n) run left = absurd left
  right-end Output run left = (run, left)
  right-end Image run left = (run, left.0, left.1)

  pub right-stop : {E : Type 0} (result : Result (Option ℕ) E) (n : ℕ) → result ≡ Ok (Some n)
      → IfOk result (λ stop. IfSome stop (StopsAt (launch_of set main opening limits) acts))
      → IsRight set main opening acts keep output after (Act n)
  right-stop result n e stops =
      right-act n (subst (λ r. IfOk r (λ stop. IfSome stop (StopsAt (launch_of set main opening limits) acts))) e stops)

-- a stop after these acts may leave the graph
pub allowed : {E : Type 0} (set : Linked) (main : Main) (opening : Graph) (acts : List Recorded) (keep : ℕ) (output : List ℕ)
    (after : Graph) (result : Result Verdict E) → IfOk result (IsRight set main opening acts keep output after) → result ≡ Ok Yes
    → IsAllowed (facts_of set) opening acts after
allowed set main opening acts keep output after result is e =
    let right = subst (λ r. IfOk r (IsRight set main opening acts keep output after)) e is in
    (kept_by keep (known_after (first_known (facts_of set) opening) acts).marks, (has_bit keep, has_bit keep, refl), right.2)
