use Rattle.std.proofs.Common.{◌≡◌, ◌++◌, map, drop}
use Rattle.first_spaces.specs.Parts.{home_now}
use Rattle.set_spaces.specs.Homes.{lacking_homes}
use Rattle.set_spaces.proofs.fields.add_lacking.Given as goal

abbrev pub invariant-loop-name : goal.invariant-loop-name
invariant-loop-name l =
    map home_now l.fields.items ++ lacking_homes l.own l.slots (drop l.name-index l.name-items)
    ≡ map home_now l.initial.fields.items ++ lacking_homes l.own l.slots l.name-items
