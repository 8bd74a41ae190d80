use Rattle.std.proofs.Common.{◌∙◌, List, map, ap}
use Rattle.class_set.specs.declared.statics.Static.{Static}
use Rattle.plain_model.specs.Facts.{StaticFacts}
use Rattle.class_set.specs.Tables.{static_now}
use Rattle.first_spaces.specs.Parts.{home_now}
use Rattle.set_spaces.specs.Homes.{home_in}
use Rattle.set_spaces.proofs.Homes.{all_made, fields_told}
use Rattle.set_spaces.proofs.fields.set_fields.Goals as goal

pub returns : goal.returns
returns c =
    let files = c.args.set.now.files in
    let names = c.args.slots.now in
    let items = c.statics-field-items.result.now in
    all_made (λ (f : Static). home_in names (static_now files f)) home_now items c.loop-field.field-index
    c.loop-field.fields.items c.loop-field-test.false c.loop-field.invariant
    ∙ fields_told names files items
    ∙ ap (λ (ss : List StaticFacts). map (home_in names) ss) c.statics-field-items.ensures
