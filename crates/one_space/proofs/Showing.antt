-- The first heap of a class set.
use Rattle.std.proofs.Common.{◌≡◌, ℕ, ◌<◌, false, List, [], ◌∷◌, ◌++◌, map, length, Option, Some, None, refl, ap, ◌∙◌, sym}
use Rattle.std.proofs.Common.{subst, arith, if◌then◌else◌}
use Rattle.std.specs.Prelude.{All, sum_by}
use Rattle.std.proofs.lemmas.List.Elements.{All-head, All-tail}
use Rattle.ap_base.specs.declared.kind.Kind.{Kind}
use Rattle.ap_base.specs.declared.reference.Item.{Item}
use Rattle.ap_base.specs.declared.reference.Ref.TheVariants.{Volatile}
use Rattle.graph_model.specs.declared.types.Value.{Value}
use Rattle.graph_model.specs.declared.types.Value.TheVariants.{Obj as Object}
use Rattle.graph_model.specs.declared.types.Obj.{Obj}
use Rattle.graph_model.specs.declared.types.Shape.{Shape}
use Rattle.graph_model.specs.declared.types.Heap.{Heap}
use Rattle.graph_model.specs.Heaps.{default_of}
use Rattle.plain_model.specs.Facts.{SetFacts, StaticFacts, Constant, IntConstant, LongConstant, LiteralConstant, shapes_of}
use Rattle.plain_model.specs.Facts.{stream_class, arguments_class, string_number}
use Rattle.plain_model.specs.Kinds.{narrowed}
use Rattle.plain_model.specs.First.{first_heap, first_objects, first_statics, static_value, constant_value, root_value}
use Rattle.plain_model.specs.Limits.{words_of}
use Rattle.shared_objects.specs.Shown.{item_value}
use Rattle.one_space.specs.declared.space.OneSpace.{OneSpace}
use Rattle.one_space.specs.declared.parts.FirstParts.{FirstParts}
use Rattle.one_space.specs.declared.parts.FirstStatic.{FirstStatic}
use Rattle.one_space.specs.Layout.{full_shown, number_in}
use Rattle.one_space.specs.First.{IsFirstOf, ShowsFirst, first_of_part, first_of_field, first_value, value_of, part_value}
use Rattle.one_space.specs.First.{no_graph, index_in, objects_of, text_object}
use Rattle.one_space.specs.Making.{HasMade}

field_value : (set : SetFacts) (kind : Kind) (o : Option Constant)
    → (elim o as (λ x. Value) [
      | None ↦ default_of kind
      | Some c ↦ narrowed kind
          (constant_value set no_graph c)
    ]) ≡ first_value kind o
field_value set kind None = refl
field_value set kind (Some (IntConstant i)) = refl
field_value set kind (Some (LongConstant i)) = refl
field_value set kind (Some (LiteralConstant k)) = refl

-- a field that is no durable root
plain_field : (set : SetFacts) (s : StaticFacts) → s.is_root ≡ false → static_value set no_graph s
    ≡ value_of (first_of_field s)
plain_field set s plain =
    ap (λ b. if b then root_value [] s.name else (elim s.constant as (λ x. Value) [
      | None ↦ default_of s.kind
      | Some c ↦ narrowed s.kind (constant_value set no_graph c)
    ])) plain ∙ field_value set s.kind s.constant

plain_fields : (set : SetFacts) (ss : List StaticFacts) → All (λ (s : StaticFacts). s.is_root ≡ false) ss
    → map (static_value set no_graph) ss ≡ map value_of (map first_of_field ss)
plain_fields set [] all = refl
plain_fields set (s ∷ ss) all =
    ap (λ v. v ∷ map (static_value set no_graph) ss) (plain_field set s
    (All-head (λ (s : StaticFacts). s.is_root ≡ false) s ss all))
    ∙ ap (λ vs. value_of (first_of_field s) ∷ vs) (plain_fields set ss
    (All-tail (λ (s : StaticFacts). s.is_root ≡ false) s ss all))

part_fields : (ps : List FirstStatic) → map part_value ps ≡ map value_of (map first_of_part ps)
part_fields [] = refl
part_fields (p ∷ ps) = ap (λ vs. part_value p ∷ vs) (part_fields ps)

append_nil : (vs : List Value) → vs ++ [] ≡ vs
append_nil [] = refl
append_nil (v ∷ vs) = ap (λ (xs : List Value). v ∷ xs) (append_nil vs)

statics_are : (set : SetFacts) (parts : FirstParts) → IsFirstOf set parts
    → Object 0 ∷ map part_value parts.statics ≡ first_statics set no_graph
statics_are set parts is =
    ap (λ vs. Object 0 ∷ vs) (part_fields parts.statics ∙ ap (map value_of) is.statics
    ∙ sym (plain_fields set set.statics is.no_roots))
    ∙ sym (append_nil (Object 0 ∷ map (static_value set no_graph) set.statics))

objects_are : (set : SetFacts) (parts : FirstParts) → IsFirstOf set parts → objects_of parts
    ≡ first_objects set no_graph
objects_are set parts is =
    let make : ℕ → ℕ → ℕ → List (List ℕ) → List Obj = λ a b c texts.
    record { shape = a; values = [] } ∷ record { shape = b; values = [] } ∷ map (text_object c) texts in
    ap (λ a. make a parts.arguments parts.string parts.literals) is.stream
    ∙ ap (λ b. make (stream_class set) b parts.string parts.literals) is.arguments
    ∙ ap (λ c. make (stream_class set) (arguments_class set) c parts.literals) is.string
    ∙ ap (make (stream_class set) (arguments_class set) (string_number set)) is.literals

abbrev made_heap : List Shape → List Obj → List Value → Heap
made_heap ss os vs = record { shapes = ss; objects = os; statics = vs; roots = [] }

pub shows_first : (set : SetFacts) (parts : FirstParts) (words : ℕ) (heap : OneSpace) (items : List Item)
    → IsFirstOf set parts
    → HasMade words parts.shapes (objects_of parts) heap
    → map (item_value (number_in heap.space.words heap.starts.items)) items
    ≡ Object 0 ∷ map part_value parts.statics
    → ShowsFirst set words (full_shown heap.shapes heap.space.words heap.starts.items items heap.space.left)
unfolding first_heap
shows_first set parts words heap items is made statics =
    let shown = full_shown heap.shapes heap.space.words heap.starts.items items heap.space.left in
    let objects = made.objects ∙ objects_are set parts is in
    let shapes = made.shapes ∙ is.shapes in
    let values = statics ∙ statics_are set parts is in
    let sum : sum_by words_of (objects_of parts) ≡ sum_by words_of (first_objects set no_graph) = ap
    (sum_by words_of) (objects_are set parts is) in
    record {
      heap = ap (λ ss. made_heap ss shown.objects shown.statics) shapes
          ∙ ap (λ os. made_heap (shapes_of set) os shown.statics) objects
          ∙ ap (made_heap (shapes_of set) (first_objects set no_graph)) values;
      places = λ n below.
          let inside : n < length (objects_of parts) = subst (λ (os : List Obj). n < length os) made.objects
          below in
          ap (λ (os : List Obj). number_in heap.space.words heap.starts.items (Volatile (index_in os n)))
          made.objects ∙ made.places n inside;
      keys = λ r. refl;
      within = let left = made.left in omega (arith, left, sum);
      left = λ limits e. let left = made.left in omega (arith, left, sum, e);
    }
