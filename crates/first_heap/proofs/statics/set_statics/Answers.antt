use Rattle.std.proofs.Common.{◌∙◌, ◌∷◌, ◌++◌, [], List, ap, map, get_or, arith}
use Rattle.std.proofs.lemmas.List.{take_all}
use Rattle.graph_model.specs.declared.types.Value.{Value}
use Rattle.graph_model.specs.declared.types.Value.TheVariants.{Obj as Object}
use Rattle.class_set.specs.declared.statics.Static.{Static}
use Rattle.class_set.specs.Facts.{facts_of}
use Rattle.class_set.specs.Tables.{static_now}
use Rattle.plain_model.specs.Facts.{StaticFacts}
use Rattle.plain_model.specs.First.{static_value, stream_number}
use Rattle.first_heap.proofs.Lists.{at_itself, made_more}
use Rattle.first_heap.proofs.Reaching.{first_counted, in_reach, mapped_twice}
use Rattle.first_heap.proofs.statics.set_statics.Goals as goal

pub stream_number-requires : goal.stream_number-requires
stream_number-requires c =
    let counted = first_counted (facts_of c.args.set.now) c.args.opening.now in
    let few = c.requires.few in
    omega (arith, counted, few)

pub static_value-requires-clause-reach : goal.static_value-requires-clause-reach
static_value-requires-clause-reach c =
    let set = c.args.set.now in
    in_reach (facts_of set) c.args.opening.now set.files c.statics-field-items.result.now _
    c.loop-field.field-index (c.linked_sets_are_consistent.ensures.consistent set c.shapes-linked.ensures.linked)
    c.requires.few c.statics-field-items.ensures c.loop-field-test.true

pub loop-field-init : goal.loop-field-init
loop-field-init c =
    c.in_ok-push.ensures.items
    ∙ ap (λ (vs : List Value). vs ++ Object c.stream_number.result ∷ []) c.new-statics.ensures.items
    ∙ ap (λ n. Object n ∷ []) (c.stream_number.ensures (facts_of c.args.set.now))

pub loop-field-preserved : goal.loop-field-preserved
loop-field-preserved c =
    let set = c.args.set.now in
    let opening = c.args.opening.now in
    let f : Static → Value = λ (s : Static). static_value (facts_of set) opening (static_now set.files s) in
    let items = c.statics-field-items.result.now in
    let index = c.loop-field.field-index in
    made_more f items (get_or items index _) index
    c.in_ok-static_value.field-0 (Object (stream_number (facts_of set) opening) ∷ []) c.loop-field.statics.items
    c.push-in-loop-field.new.self.items
    c.loop-field-test.true (at_itself items index _ c.loop-field-test.true) c.in_ok-static_value.ensures c.in_ok-push-2.ensures.items
    c.loop-field.invariant

pub returns : goal.returns
returns c =
    let set = c.args.set.now in
    let opening = c.args.opening.now in
    let items = c.statics-field-items.result.now in
    let f : Static → Value = λ (s : Static). static_value (facts_of set) opening (static_now set.files s) in
    let out : Value = Object (stream_number (facts_of set) opening) in
    c.loop-field.invariant
    ∙ ap (λ (fs : List Static). out ∷ map f fs) (take_all c.loop-field.field-index items c.loop-field-test.false)
    ∙ ap (λ (vs : List Value). out ∷ vs) (mapped_twice (static_value (facts_of set) opening) (static_now set.files) items)
    ∙ ap (λ (ss : List StaticFacts). out ∷ map (static_value (facts_of set) opening) ss)
    c.statics-field-items.ensures
