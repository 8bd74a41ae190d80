-- What a print puts into the sink.
use Rattle.std.specs.Prelude.{◌≡◌, ℕ, List, [], length, Option, IfSome}
use Rattle.ap_base.specs.Sinks.{with_bytes}
use Rattle.ap_base.specs.Causes.{next_count}
use Rattle.run_history.specs.declared.act.Op.TheVariants as op
use Rattle.plain_model.specs.Runs.{printed_by}
use Rattle.step_forms.specs.declared.stepped.Stepped.{Stepped}
use Rattle.step_forms.specs.declared.stepped.Stepped.TheVariants as stepped

-- the sink took what the operation prints, and nothing where nothing was done
abbrev pub PrintsTo : Option (List ℕ) → Stepped → Option (List ℕ) → Type 0
PrintsTo before (stepped.Did o r) now = now ≡ with_bytes before (printed_by o)
PrintsTo before other now = now ≡ before

-- what it prints
abbrev pub printed_in : Stepped → List ℕ
printed_in (stepped.Did o r) = printed_by o
printed_in other = []

-- the run is over exactly where the sink failed, once
abbrev pub HasSinkCause : ℕ → ℕ → Stepped → Type 0
HasSinkCause before now (stepped.Over f) = now ≡ next_count before
HasSinkCause before now other = now ≡ before

-- The operation prints as many bytes of the piece as the sink takes of the whole, where the sink tells that.
abbrev pub TakesShare : (ℕ → Option ℕ) → List ℕ → Stepped → Type 0
TakesShare takes piece (stepped.Did (op.Print bytes) r) =
    IfSome (takes (length piece)) (λ m. length bytes ≡ m)
TakesShare takes piece result = Unit {0}
