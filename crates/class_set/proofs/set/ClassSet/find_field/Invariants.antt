use Rattle.std.proofs.Common.{◌≡◌, drop}
use Rattle.class_set.specs.Lookups.{find_field, first_some, own_field}
use Rattle.class_set.proofs.set.ClassSet.find_field.Given as goal

abbrev pub invariant-loop-above : goal.invariant-loop-above
invariant-loop-above l =
    find_field l.self l.class l.name l.descriptor
    ≡ first_some (own_field l.self.files l.name l.descriptor) (drop l.above-index l.above-items)
