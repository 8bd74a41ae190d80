use Rattle.std.proofs.Common.{◌∙◌, ◌∷◌, ◌++◌, List, ap, map, filter}
use Rattle.graph_model.specs.declared.types.NamedValue.{NamedValue}
use Rattle.graph_model.specs.declared.types.Value.{Value}
use Rattle.graph_model.specs.declared.types.Value.TheVariants.{Obj as Object}
use Rattle.class_set.specs.Facts.{facts_of}
use Rattle.plain_model.specs.First.{is_lacking, static_value, stream_number}
use Rattle.first_heap.proofs.Named.{value_in}
use Rattle.first_heap.proofs.statics.first_statics.Goals as goal

pub returns : goal.returns
returns c =
    let set = facts_of c.args.set.now in
    let opening = c.args.opening.now in
    let lacked : List NamedValue → List Value =
    λ (rs : List NamedValue). map value_in (filter (is_lacking set opening) rs) in
    let own : List Value = Object (stream_number set opening) ∷ map (static_value set opening) set.statics in
    c.in_ok-add_lacking.ensures set opening c.in_ok-own.ensures
    ∙ ap (λ (vs : List Value). vs ++ lacked c.as_slice-roots.result.now) c.in_ok-statics.ensures
    ∙ ap (λ (rs : List NamedValue). own ++ lacked rs) c.as_slice-roots.ensures
