-- What the acts of a run leave of its sink.
use Rattle.std.specs.Prelude.{◌≡◌, ℕ, List, [], ◌∷◌, ◌++◌, Option, Some, None}
use Rattle.ap_base.specs.Sinks.{with_bytes}
use Rattle.run_types.specs.declared.fault.RunFault.{RunFault}
use Rattle.run_history.specs.declared.act.Op.{Op}
use Rattle.run_history.specs.declared.act.Op.TheVariants as op
use Rattle.run_history.specs.Recorded.{Recorded}
use Rattle.run_forms.specs.Standing.{Launch}
use Rattle.durable_run.specs.Shares.{piece_after}

-- A sink that tells what it has taken in each of its states.
module _ {S : Type 0} (taken : S → Option (List ℕ)) where
  -- What an act leaves of the sink, whose thread asks to print this piece, or no print. A print leaves some state that has taken
  -- its bytes. Where no print is asked the sink stays the very one that was there, and so it does at the fence that a thread owes
  -- before its print. At any other act (a plain run may have `Joined` here) it takes nothing.
  abbrev pub Spares : Option (List ℕ) → Op → (sink next : S) → Type 0
  Spares None operation sink next = next ≡ sink
  Spares (Some piece) op.Fenced sink next = next ≡ sink
  Spares (Some piece) (op.Print bytes) sink next = taken next ≡ with_bytes (taken sink) bytes
  Spares (Some piece) operation sink next = taken next ≡ taken sink

  -- Act by act, behind those before: from the one state of the sink to the other.
  abbrev pub SparesAll : Launch → (before acts : List Recorded) → (sink last : S) → Type 0
  SparesAll launch before [] sink last = last ≡ sink
  SparesAll launch before (a ∷ acts) sink last = (next : S)
      × Spares (piece_after launch before a.act.thread) a.act.op sink next
      × SparesAll launch (before ++ a ∷ []) acts next last

  -- From the one list of acts to the other there were further ones, which lead from the one state of the sink to the other, unless
  -- a fault ends the run: then nothing links the last one with what they lead to.
  pub record SparesSink (launch : Launch) (over : Option RunFault) (first last : S) (old new : List Recorded) : Type 0 where
    pub further : List Recorded
    pub acts : new ≡ old ++ further
    pub reached : S
    pub spared : SparesAll launch old further first reached
    pub unfaulted : over ≡ None → last ≡ reached
