use Rattle.std.proofs.Common.{◌≡◌, ◌++◌, drop}
use Rattle.std.specs.List.{flat_map}
use Rattle.listing.proofs.classes.put_entries.Given as goal

abbrev pub invariant-loop-entry : goal.invariant-loop-entry
invariant-loop-entry l =
    l.out.items ++ flat_map (λ entry. entry) (drop l.entry-index l.entries) ≡ l.initial.out.items ++ flat_map
    (λ entry. entry) l.entries
