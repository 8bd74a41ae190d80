use Rattle.std.proofs.Common.{◌≡◌, ◌∷◌, map, take}
use Rattle.graph_model.specs.declared.types.Value.TheVariants.{Obj as Object}
use Rattle.shared_objects.specs.Shown.{item_value}
use Rattle.one_space.specs.First.{part_value}
use Rattle.one_space.specs.Layout.{AreKnown, number_in}
use Rattle.one_space.proofs.space.OneSpace.first_items.Given as goal

abbrev pub invariant-loop-field : goal.invariant-loop-field
invariant-loop-field l = record {
  values : map (item_value (number_in l.self.space.words l.self.starts.items)) l.items.items
      ≡ Object 0 ∷ map part_value (take l.field-index l.fields);
  known : AreKnown l.self.space.words l.self.starts.items l.items.items;
}
