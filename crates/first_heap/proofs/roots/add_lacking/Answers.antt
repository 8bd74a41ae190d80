use Rattle.std.proofs.Common.{◌≡◌, ◌∙◌, ◌++◌, ℕ, List, not, ap, sym, map, filter}
use Rattle.std.specs.Global.{Vec}
use Rattle.std.specs.Option.{is_some}
use Rattle.std.proofs.lemmas.List.{take_all}
use Rattle.graph_model.specs.declared.types.NamedValue.{NamedValue}
use Rattle.graph_model.specs.declared.types.Value.{Value}
use Rattle.plain_model.specs.First.{is_lacking}
use Rattle.text_table.specs.Texts.{place_of}
use Rattle.first_heap.proofs.Named.{lacking_added, lacking_passed, value_in}
use Rattle.first_heap.proofs.roots.add_lacking.Goals as goal
use Rattle.first_heap.proofs.roots.add_lacking.Goals.{then-is_none+in_ok-push, else-is_none}

pub loop-root-preserved : goal.loop-root-preserved
loop-root-preserved c set opening are =
    let own = c.args.own.now in
    let roots = c.args.roots.now in
    let root = c.root-item.result in
    let index = c.loop-root.root-index in
    let first = c.args.values.now.items in
    let old = c.loop-root.values.items in
    let so_far = c.loop-root.invariant set opening are in
    let placed : is_some (place_of own root.name) ≡ not c.is_none.result =
    ap (λ (t : List ℕ). is_some (place_of own t)) (sym c.as_slice.ensures.same) ∙ ap is_some (sym c.place.ensures)
    ∙ c.is_none.ensures in
    elim c.if-is_none.branch [
      | then-is_none+in_ok-push w ↦
          ap (λ (v : Vec Value). v.items) w.values-is
          ∙ lacking_added set opening own are roots root index c.loop-root-test.true c.root-item.is first old so_far
          w.push.new.self.items (placed ∙ ap not w.if-is_none.true) w.in_ok-push.ensures.items
      | else-is_none w ↦
          ap (λ (v : Vec Value). v.items) w.values-is
          ∙ lacking_passed set opening own are roots root index c.loop-root-test.true c.root-item.is first old so_far
          (placed ∙ ap not w.if-is_none.false)
    ]

pub returns : goal.returns
returns c set opening are =
    c.loop-root.invariant set opening are
    ∙ ap (λ (rs : List NamedValue). c.args.values.now.items ++ map value_in (filter (is_lacking set opening) rs))
    (take_all c.loop-root.root-index c.args.roots.now c.loop-root-test.false)
