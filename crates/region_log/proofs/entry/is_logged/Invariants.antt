-- None of the entries so far is of the word.
use Rattle.std.specs.List.{AllWithin}
use Rattle.region_log.specs.declared.entry.Entry.{Entry}
use Rattle.region_log.specs.Log.{SameWord}
use Rattle.region_log.proofs.entry.is_logged.Given as goal

abbrev pub invariant-loop-entry : goal.invariant-loop-entry
invariant-loop-entry l = AllWithin (λ (e : Entry). SameWord e.spot l.spot → ⊥) l.entries 0 l.entry-index
