use Rattle.std.proofs.Common.{◌≡◌, ℕ, List, ◌++◌, map, take}
use Rattle.graph_model.specs.declared.types.Obj.{Obj}
use Rattle.graph_model.specs.declared.types.Shape.{Shape}
use Rattle.one_space.specs.First.{text_object}
use Rattle.one_space.specs.Making.{HasMade}
use Rattle.one_space.proofs.space.OneSpace.add_texts.Given as goal

abbrev pub invariant-loop-text : goal.invariant-loop-text
invariant-loop-text l = record {
  shapes : l.self.shapes ≡ l.initial.self.shapes;
  made : (words : ℕ) (shapes : List Shape) (objects : List Obj) → HasMade words shapes objects l.initial.self
      → HasMade words shapes (objects ++ map (text_object l.class) (take l.text-index l.texts)) l.self;
}
