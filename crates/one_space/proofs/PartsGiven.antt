-- The parts of the first heap of a class set.
use Rattle.std.proofs.Common.{◌≡◌, ℕ, ◌<◌, ◌^◌, true, List, [], ◌∷◌, map, length, slice_index_or, Option, Some, None, refl, ap}
use Rattle.std.proofs.Common.{◌∙◌, sym, subst, arith}
use Rattle.std.specs.Prelude.{All}
use Rattle.std.specs.Option.{option_map}
use Rattle.std.proofs.lemmas.List.{length-map, get_or-map}
use Rattle.std.proofs.lemmas.List.Elements.{All-nil, All-cons, All-head, All-tail, All-map}
use Rattle.ap_base.specs.declared.kind.Kind.{Kind}
use Rattle.graph_model.specs.declared.types.Field.{Field}
use Rattle.graph_model.specs.declared.types.Shape.{Shape}
use Rattle.graph_model.specs.Heaps.{no_shape, fresh_values}
use Rattle.run_history.specs.Worlds.{may_have}
use Rattle.plain_model.specs.Classes.{ClassFacts, no_class}
use Rattle.plain_model.specs.Facts.{SetFacts, StaticFacts, Constant, classes_of, class_at, shapes_of, stream_class}
use Rattle.plain_model.specs.Facts.{arguments_class, string_number}
use Rattle.plain_model.specs.Consistent.{IsConsistent, IsConstantBelow}
use Rattle.plain_model.proofs.Consistent.{stream_there, stream_shape, string_there, text_elements, arguments_there}
use Rattle.plain_model.proofs.Given.{given_arrays_are_there}
use Rattle.one_space.specs.declared.parts.FirstParts.{FirstParts}
use Rattle.one_space.specs.declared.parts.FirstStatic.{FirstStatic}
use Rattle.one_space.specs.declared.parts.FirstConstant.{FirstConstant}
use Rattle.one_space.specs.declared.parts.FirstConstant.TheVariants as constant
use Rattle.one_space.specs.First.{CanBeFirst, IsFirstOf, IsPartBelow, constant_now, first_of_part, first_of_field}
use Rattle.one_space.specs.First.{shape_of_part}

-- ---- objects without slots

pub may_none : (shape : Shape) → shape.element ≡ None → shape.fields ≡ [] → may_have shape 0 ≡ true
may_none shape e f = may_at shape.name shape.fields shape.element e f
  where
    may_at : (name : List ℕ) (fields : List Field) (element : Option Kind) → element ≡ None → fields ≡ []
        → may_have (record { name = name; fields = fields; element = element }) 0 ≡ true
    may_at name [] None e f = refl
    may_at name (x ∷ xs) None e f = cc
    may_at name fields (Some k) e f = refl

pub fresh_none : (shape : Shape) → shape.element ≡ None → shape.fields ≡ [] → fresh_values shape 0 ≡ []
fresh_none shape e f = fresh_at shape.name shape.fields shape.element e f
  where
    fresh_at : (name : List ℕ) (fields : List Field) (element : Option Kind) → element ≡ None → fields ≡ []
        → fresh_values (record { name = name; fields = fields; element = element }) 0 ≡ []
    fresh_at name [] None e f = refl
    fresh_at name (x ∷ xs) None e f = cc
    fresh_at name fields (Some k) e f = refl

pub may_some : (shape : Shape) (kind : Kind) (count : ℕ) → shape.element ≡ Some kind → may_have shape count
    ≡ true
may_some shape kind count e = may_at shape.name shape.fields shape.element e
  where
    may_at : (name : List ℕ) (fields : List Field) (element : Option Kind) → element ≡ Some kind
        → may_have (record { name = name; fields = fields; element = element }) count ≡ true
    may_at name fields None e = cc
    may_at name fields (Some k) e = refl

pub fresh_some : (shape : Shape) (kind : Kind) → shape.element ≡ Some kind → fresh_values shape 0 ≡ []
fresh_some shape kind e = fresh_at shape.name shape.fields shape.element e
  where
    fresh_at : (name : List ℕ) (fields : List Field) (element : Option Kind) → element ≡ Some kind
        → fresh_values (record { name = name; fields = fields; element = element }) 0 ≡ []
    fresh_at name fields None e = cc
    fresh_at name fields (Some k) e = refl

-- ---- the parts of a class set

below_back : (n : ℕ) (o : Option FirstConstant) → IsConstantBelow n (option_map constant_now o)
    → IsPartBelow n o
below_back n None h = tt
below_back n (Some (constant.Int i)) h = tt
below_back n (Some (constant.Long i)) h = tt
below_back n (Some (constant.Literal k)) h = h

abbrev IsBelowField : ℕ → Kind × Option Constant → Type 0
IsBelowField n field = IsConstantBelow n field.1

parts_below : (n : ℕ) (ps : List FirstStatic) → All (IsBelowField n) (map first_of_part ps)
    → All (λ (p : FirstStatic). IsPartBelow n p.constant) ps
parts_below n [] all = All-nil (λ (p : FirstStatic). IsPartBelow n p.constant)
parts_below n (p ∷ ps) all =
    All-cons (λ (p : FirstStatic). IsPartBelow n p.constant) p ps
    (below_back n p.constant (All-head (IsBelowField n) (first_of_part p) (map first_of_part ps) all))
    (parts_below n ps (All-tail (IsBelowField n) (first_of_part p) (map first_of_part ps) all))

module _ (set : SetFacts) (parts : FirstParts) (consistent : IsConsistent set) (is : IsFirstOf set parts)
  where
    shapes_counted : length parts.shapes ≡ length (classes_of set)
    shapes_counted = ap (λ (ss : List Shape). length ss) is.shapes
        ∙ length-map (classes_of set) (λ (c : ClassFacts). c.shape)

    part_there : (n m : ℕ) → n ≡ m → m < length (classes_of set) → n < length parts.shapes
    part_there n m e below = omega (arith, e, below, shapes_counted)

    part_shape : (n m : ℕ) → n ≡ m → m < length (classes_of set) → shape_of_part parts n
        ≡ (class_at set m).shape
    part_shape n m e below =
        ap (λ (ss : List Shape). slice_index_or ss n no_shape) is.shapes
        ∙ ap (λ (k : ℕ). slice_index_or (shapes_of set) k no_shape) e
        ∙ get_or-map (λ (c : ClassFacts). c.shape) (classes_of set) m no_class no_shape below

    pub can_be_first : All (λ (text : List ℕ). length text < 2 ^ 31) parts.literals → CanBeFirst parts
    can_be_first short = record {
      stream = part_there parts.stream (stream_class set) is.stream (stream_there set);
      no_elements = ap (λ (s : Shape). s.element) (part_shape parts.stream (stream_class set) is.stream
          (stream_there set) ∙ stream_shape set);
      no_fields = ap (λ (s : Shape). s.fields) (part_shape parts.stream (stream_class set) is.stream
          (stream_there set) ∙ stream_shape set);
      arguments = part_there parts.arguments (arguments_class set) is.arguments
          (arguments_there set consistent.complete);
      references = ap (λ (s : Shape). s.element) (part_shape parts.arguments (arguments_class set) is.arguments
          (arguments_there set consistent.complete))
          ∙ ap (λ (c : ClassFacts). c.shape.element) (given_arrays_are_there set consistent).arguments.class;
      string = part_there parts.string (string_number set) is.string (string_there set);
      chars = ap (λ (s : Shape). s.element) (part_shape parts.string (string_number set) is.string
          (string_there set)) ∙ text_elements set;
      short = short;
      constants = parts_below (length parts.literals) parts.statics
          (subst (All (IsBelowField (length parts.literals))) (sym is.statics)
          (All-map (IsBelowField (length parts.literals)) first_of_field set.statics
          (subst (λ (texts : List (List ℕ)). All (λ (s : StaticFacts). IsConstantBelow (length texts)
          s.constant) set.statics) (sym is.literals) consistent.complete.constants)));
    }
