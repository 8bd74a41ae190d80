use Rattle.std.proofs.Common.{◌≡◌, ◌++◌, map, drop}
use Rattle.class_set.specs.declared.statics.Static.{Static}
use Rattle.class_set.specs.Tables.{static_now}
use Rattle.first_spaces.specs.Parts.{home_now}
use Rattle.set_spaces.specs.Homes.{home_in}
use Rattle.set_spaces.proofs.fields.set_fields.Given as goal

abbrev pub invariant-loop-field : goal.invariant-loop-field
invariant-loop-field l =
    map home_now l.fields.items
    ++ map (λ (f : Static). home_in l.slots (static_now l.set.files f)) (drop l.field-index l.field-items)
    ≡ map (λ (f : Static). home_in l.slots (static_now l.set.files f)) l.field-items
