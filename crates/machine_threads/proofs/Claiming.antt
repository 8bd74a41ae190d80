-- What is queued begins with what was asked.
use Rattle.std.proofs.Common.{◌≡◌, ℕ, refl, sym, ◌∙◌}
use Rattle.std.specs.Prelude.{Option, Some, None}
use Rattle.run_history.specs.Knowing.{Knowledge, Pending, pending_of}
use Rattle.machine_ends.specs.Passed.{Doing}
use Rattle.machine_ends.specs.Passed.{Nothing, Converting, Writing, Fencing}
use Rattle.machine_ends.specs.Passed.{known_in, doing_of, layout_in}
use Rattle.machine_ends.specs.Passed.{IsDoing}
use Rattle.stop_theorem.specs.Layouts.{Layout}
use Rattle.machine_threads.specs.Claiming.{ClaimersHaveAsked, ClaimersConvert, OthersHaveNothing}

pub claimers_have_asked : ClaimersHaveAsked
claimers_have_asked o m es t n keeps claimed =
    let i = keeps.heap.agrees.queued.all t n claimed in
    let first = keeps.asked.queued t i.0 n i.1 in
    (first.pending, first.is_pending)

pending-none : (known : Knowledge) (t : ℕ) (p : Pending) → pending_of known.asked t ≡ Some p
    → pending_of known.asked t ≡ None → ⊥
pending-none known t p some none = let no : ◌≡◌ {A = Option Pending} None (Some p) = sym none ∙ some in cc

converts : (known : Knowledge) (lay : Layout) (t : ℕ) (p : Pending) (d : Doing) → pending_of known.asked t ≡ Some p
    → IsDoing known lay t d
    → d ≡ Converting
converts known lay t p Nothing some doing = absurd (pending-none known t p some doing.0)
converts known lay t p Converting some doing = refl
converts known lay t p (Writing line) some doing = absurd (pending-none known t p some doing.0)
converts known lay t p Fencing some doing = absurd (pending-none known t p some doing.0)

pub claimers_convert : ClaimersConvert
claimers_convert o m es t n keeps claimed =
    let asked = claimers_have_asked o m es t n keeps claimed in
    converts (known_in o m) (layout_in o es) t asked.0 (doing_of m t) asked.1 (keeps.asked.doing t)

pub others_have_nothing : OthersHaveNothing
others_have_nothing o m es t keeps other n claimed = other (claimers_convert o m es t n keeps claimed)
