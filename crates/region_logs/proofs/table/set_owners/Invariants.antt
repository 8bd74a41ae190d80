-- The words of the entries so far have the owner.
use Rattle.region_logs.specs.Table.{SetsOwners}
use Rattle.region_logs.proofs.table.set_owners.Given as goal

abbrev pub invariant-loop-entry : goal.invariant-loop-entry
invariant-loop-entry l = SetsOwners l.entries l.entry-index l.owner l.fn.table.items l.table.items
