-- A thread that begins has asked nothing.
use Rattle.std.proofs.Common.{◌≡◌, sym, ◌∙◌, subst}
use Rattle.std.specs.Prelude.{Option, Some, None}
use Rattle.run_history.specs.Knowing.{Pending, pending_of}
use Rattle.machine_ends.specs.Passed.{Doing}
use Rattle.machine_ends.specs.Passed.{Nothing}
use Rattle.machine_ends.specs.Passed.{known_in, layout_in}
use Rattle.machine_ends.specs.Passed.{IsDoing}
use Rattle.machine_threads.specs.Keeping.{BeginnersKeepTheirs, LagsByItsLog, LagsByItsStore}

none-some : {P : Type 0} (p : Pending) (at : Option Pending) → at ≡ None → at ≡ Some p → P
none-some p at none some = absurd (let no : ◌≡◌ {A = Option Pending} None (Some p) = sym none ∙ some in cc)

pub beginners_keep_theirs : BeginnersKeepTheirs
beginners_keep_theirs o t m es fs k fresh =
    let known = known_in o m in
    let idle : IsDoing known (layout_in o es) t Nothing
    = subst (IsDoing known (layout_in o es) t) fresh.doing (k.asked.doing t) in record {
      about = λ p is. none-some p (pending_of known.asked t) idle.0 is;
      holds = λ p is. none-some p (pending_of known.asked t) idle.0 is;
      lags = subst (λ (d : Doing). LagsByItsStore o.launch d fs) (sym fresh.doing) tt;
      logs = subst (λ x. LagsByItsLog o.launch x fs) (sym fresh.log) tt;
    }
