use Rattle.std.proofs.Common.{◌≡◌, ◌∷◌, map, take}
use Rattle.graph_model.specs.declared.types.Value.TheVariants.{Obj as Object}
use Rattle.class_set.specs.declared.statics.Static.{Static}
use Rattle.class_set.specs.Facts.{facts_of}
use Rattle.class_set.specs.Tables.{static_now}
use Rattle.plain_model.specs.First.{static_value, stream_number}
use Rattle.first_heap.proofs.statics.set_statics.Given as goal

abbrev pub invariant-loop-field : goal.invariant-loop-field
invariant-loop-field l =
    l.statics.items ≡ Object (stream_number (facts_of l.set) l.opening)
    ∷ map (λ (f : Static). static_value (facts_of l.set) l.opening (static_now l.set.files f))
    (take l.field-index l.field-items)
