-- What volatile objects and static fields are made of is there.
use Rattle.std.proofs.Common.{◌≡◌, ℕ, ◌<◌, Bool, true, false, List, map, length, slice_index_or, Option, Some, None, ap, ◌∙◌}
use Rattle.std.proofs.Common.{sym, subst, arith, if◌then◌else◌}
use Rattle.std.specs.Prelude.{All}
use Rattle.std.specs.Option.{option_map}
use Rattle.std.proofs.lemmas.List.{length-map, get_or-map}
use Rattle.std.proofs.lemmas.List.Elements.{All-append, All-map, All-nil, All-weaker}
use Rattle.graph_model.specs.declared.types.Graph.{Graph}
use Rattle.graph_model.specs.declared.types.Shape.{Shape}
use Rattle.graph_model.specs.Heaps.{no_shape}
use Rattle.line_memory.specs.Memory.{Memory}
use Rattle.image_meaning.specs.Directories.{Directory}
use Rattle.plain_model.specs.Classes.{ClassFacts, no_class}
use Rattle.plain_model.specs.Consistent.{IsConstantBelow}
use Rattle.plain_model.specs.Facts.{SetFacts, StaticFacts, arguments_class, class_at, classes_of, shapes_of, stream_class}
use Rattle.plain_model.specs.Facts.{string_number}
use Rattle.plain_model.specs.First.{lacking_roots}
use Rattle.plain_model.proofs.Consistent.{arguments_there, stream_shape, stream_there, string_there, text_elements}
use Rattle.plain_model.proofs.Given.{given_arrays_are_there}
use Rattle.one_space.specs.declared.parts.FirstConstant.{FirstConstant}
use Rattle.one_space.specs.declared.parts.FirstConstant.TheVariants as constant
use Rattle.one_space.specs.declared.parts.FirstStatic.{FirstStatic}
use Rattle.one_space.specs.First.{CanBeFirst, IsPartBelow, constant_now}
use Rattle.first_spaces.specs.declared.parts.FirstField.{FirstField}
use Rattle.first_spaces.specs.declared.parts.FirstField.TheVariants as field
use Rattle.first_spaces.specs.declared.parts.SpacesParts.{SpacesParts}
use Rattle.first_spaces.specs.Filled.{CanBeFilled}
use Rattle.first_spaces.specs.Items.{IsFieldBelow}
use Rattle.first_spaces.specs.Parts.{IsBeginning, first_in, home_now, homes}
use Rattle.first_spaces.specs.Slots.{BesideHeap, InSlot, Home, home_of, slot_named, slot_of}

below_back : (n : ℕ) (o : Option FirstConstant) → IsConstantBelow n (option_map constant_now o) → IsPartBelow
    n o
below_back n None h = tt
below_back n (Some (constant.Int i)) h = tt
below_back n (Some (constant.Long i)) h = tt
below_back n (Some (constant.Literal k)) h = h

abbrev IsHomeBelow : ℕ → Home → Type 0
IsHomeBelow n (BesideHeap kind c) = IsConstantBelow n c
IsHomeBelow n (InSlot slot) = Unit {0}

field_below : (n : ℕ) (f : FirstField) → IsHomeBelow n (home_now f) → IsFieldBelow n f
field_below n (field.Beside first) h = below_back n first.constant h
field_below n (field.Root slot) h = tt

module _ (set : SetFacts) (graph : Graph) (directory : Directory) (parts : SpacesParts) (lines : List ℕ)
    (memory : Memory)
    (is : IsBeginning set graph directory parts lines memory) where
  shapes_counted : length parts.tables.shapes ≡ length (classes_of set)
  shapes_counted = ap (λ (ss : List Shape). length ss) is.are_parts.tables.shapes_are
      ∙ length-map (classes_of set) (λ (c : ClassFacts). c.shape)

  class_there : (n m : ℕ) → n ≡ m → m < length (classes_of set) → n < length parts.tables.shapes
  class_there n m e below = omega (arith, e, below, shapes_counted)

  class_shape : (n m : ℕ) → n ≡ m → m < length (classes_of set)
      → slice_index_or parts.tables.shapes n no_shape ≡ (class_at set m).shape
  class_shape n m e below =
      ap (λ (ss : List Shape). slice_index_or ss n no_shape) is.are_parts.tables.shapes_are
      ∙ ap (λ (k : ℕ). slice_index_or (shapes_of set) k no_shape) e
      ∙ get_or-map (λ (c : ClassFacts). c.shape) (classes_of set) m no_class no_shape below

  first_can : CanBeFirst (first_in parts.tables.shapes parts.objects)
  first_can =
      let objects = is.are_parts.objects in
      let consistent = is.are_parts.consistent in
      let stream = class_shape parts.objects.stream (stream_class set) objects.stream_is (stream_there set) ∙
      stream_shape set in
      let arguments = class_shape parts.objects.arguments (arguments_class set) objects.arguments_is
      (arguments_there set consistent.complete) in
      let string = class_shape parts.objects.string (string_number set) objects.string_is (string_there set)
      in
      record {
        stream = class_there parts.objects.stream (stream_class set) objects.stream_is (stream_there set);
        no_elements = ap (λ (s : Shape). s.element) stream;
        no_fields = ap (λ (s : Shape). s.fields) stream;
        arguments = class_there parts.objects.arguments (arguments_class set) objects.arguments_is
            (arguments_there set consistent.complete);
        references = ap (λ (s : Shape). s.element) arguments
            ∙ ap (λ (c : ClassFacts). c.shape.element) (given_arrays_are_there set
            consistent).arguments.class;
        string = class_there parts.objects.string (string_number set) objects.string_is (string_there set);
        chars = ap (λ (s : Shape). s.element) string ∙ text_elements set;
        short = objects.short;
        constants = All-nil (λ (s : FirstStatic). IsPartBelow (length parts.objects.literals) s.constant);
      }

  abbrev count : ℕ
  count = length set.literals

  own_below : (s : StaticFacts) → IsConstantBelow count s.constant → IsHomeBelow count (home_of graph.roots s)
  own_below s below = by_root s.is_root
    where
      by_root : (r : Bool) → IsHomeBelow count (if r then InSlot (slot_named graph.roots s.name) else
          BesideHeap s.kind s.constant)
      by_root true = tt
      by_root false = below

  all_below : All (IsHomeBelow count) (homes set graph)
  all_below =
      All-append (IsHomeBelow count) (map (home_of graph.roots) set.statics) (map (slot_of graph.roots)
      (lacking_roots set graph))
      (All-map (IsHomeBelow count) (home_of graph.roots) set.statics
      (All-weaker (λ (s : StaticFacts). IsConstantBelow count s.constant)
      (λ (s : StaticFacts). IsHomeBelow count (home_of graph.roots s)) own_below set.statics
      is.are_parts.consistent.complete.constants))
      (All-map (IsHomeBelow count) (slot_of graph.roots) (lacking_roots set graph) (λ k d lt. tt))

  fields_below : All (λ (f : FirstField). IsFieldBelow count f) parts.statics
  fields_below k d lt =
      let long = length-map parts.statics home_now in
      let here : slice_index_or (map home_now parts.statics) k (home_now d) ≡ home_now (slice_index_or
      parts.statics k d) =
      get_or-map home_now parts.statics k d (home_now d) lt in
      let all : All (IsHomeBelow count) (map home_now parts.statics) =
      subst (All (IsHomeBelow count)) (sym is.are_parts.statics) all_below in
      field_below count (slice_index_or parts.statics k d)
      (subst (IsHomeBelow count) here (all k (home_now d) (omega (arith, lt, long))))

  pub can_be_filled : (shapes : List Shape) → shapes ≡ parts.tables.shapes → (fields : List FirstField) →
      fields ≡ parts.statics
      → CanBeFilled shapes parts.objects fields
  can_be_filled shapes same fields given = record {
    first = subst (λ ss. CanBeFirst (first_in ss parts.objects)) (sym same) first_can;
    below = subst (λ fs. All (λ (f : FirstField). IsFieldBelow (length parts.objects.literals) f) fs) (sym
        given)
        (subst (λ (ts : List (List ℕ)). All (λ (f : FirstField). IsFieldBelow (length ts) f) parts.statics)
        (sym is.are_parts.objects.literals_are) fields_below);
  }
