-- What a request puts into the sink.
use Rattle.std.specs.Prelude.{◌≡◌, ℕ, List, length, Option}
use Rattle.ap_base.specs.Sinks.{TakesBehind}
use Rattle.ap_base.specs.declared.reference.Ref.{Ref}
use Rattle.ap_base.specs.declared.reference.Item.{Item}
use Rattle.natives.specs.declared.requests.Request.{Request}
use Rattle.natives.specs.declared.requests.Request.TheVariants as ask
use Rattle.step_forms.specs.declared.stepped.Stepped.{Stepped}
use Rattle.world_steps.specs.Printing.{PrintsTo, HasSinkCause, TakesShare, printed_in}

-- a request that prints nothing
abbrev pub IsSilent : Request Ref Item → Type 0
IsSilent (ask.Print from piece) = ⊥
IsSilent request = Unit {0}

-- A print puts into the sink what its act says; any other request puts nothing.
abbrev pub OutputGoes : Request Ref Item → Option (List ℕ) → Stepped → Option (List ℕ) → Type 0
OutputGoes (ask.Print from piece) before result now = PrintsTo before result now
OutputGoes request before result now = now ≡ before

-- Behind what a print puts there, the sink takes what it would have taken before; any other request leaves what it takes.
abbrev pub BehindGoes : Request Ref Item → (ℕ → ℕ → Option ℕ) → Stepped → (ℕ → ℕ → Option ℕ) → Type 0
BehindGoes (ask.Print from piece) before result now = TakesBehind before now (length (printed_in result))
BehindGoes request before result now = now ≡ before

-- the sink fails in a print alone
abbrev pub FaultsGo : Request Ref Item → ℕ → Stepped → ℕ → Type 0
FaultsGo (ask.Print from piece) before result now = HasSinkCause before now result
FaultsGo request before result now = now ≡ before

-- a print prints as many bytes of its piece as the sink takes of the whole, where the sink tells that
abbrev pub SharesGo : Request Ref Item → (ℕ → Option ℕ) → Stepped → Type 0
SharesGo (ask.Print from piece) takes result = TakesShare takes piece result
SharesGo request takes result = Unit {0}
