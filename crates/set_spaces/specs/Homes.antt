-- Where static fields lie, by the names of the durable roots.
use Rattle.std.specs.Prelude.{ℕ, List, map, if◌then◌else◌}
use Rattle.plain_model.specs.Facts.{StaticFacts}
use Rattle.first_spaces.specs.Slots.{Home, BesideHeap, InSlot}
use Rattle.set_spaces.specs.Names.{lacking, place_in}

-- beside the heap, or in the slot of its name
abbrev pub home_in : List (List ℕ) → StaticFacts → Home
home_in names s = if s.is_root then InSlot (place_in names s.name) else BesideHeap s.kind s.constant

-- the slots among all of those of these names that aren't a set's own
abbrev pub lacking_homes : (own all names : List (List ℕ)) → List Home
lacking_homes own all names = map (λ name. InSlot (place_in all name)) (lacking own names)
