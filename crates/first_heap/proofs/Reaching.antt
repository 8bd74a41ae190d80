-- Constants that are literals have objects with numbers.
use Rattle.std.proofs.Common.{◌≡◌, ℕ, ◌+◌, ◌<◌, ◌^◌, List, [], ◌∷◌, Option, Some, None, map, length, get_or, false, refl, ap}
use Rattle.std.proofs.Common.{sym, ◌∙◌, subst, arith, if◌then◌else◌}
use Rattle.std.specs.Prelude.{All}
use Rattle.std.specs.Option.{option_map}
use Rattle.std.proofs.lemmas.List.{length-append, length-map}
use Rattle.std.proofs.lemmas.List.Elements.{All-cons, All-head, All-nil, All-tail}
use Rattle.ap_base.specs.declared.kind.Kind.{Kind}
use Rattle.graph_model.specs.declared.types.Graph.{Graph}
use Rattle.graph_model.specs.declared.types.Obj.{Obj}
use Rattle.graph_model.specs.declared.types.Value.{Value}
use Rattle.graph_model.specs.Heaps.{default_of}
use Rattle.class_file.specs.declared.class.ClassFile.{ClassFile}
use Rattle.class_set.specs.declared.statics.Static.{Static}
use Rattle.class_set.specs.declared.statics.Constant.{Constant as KeptConstant}
use Rattle.class_set.specs.declared.statics.Constant.TheVariants as constant
use Rattle.class_set.specs.Tables.{constant_now, static_name, static_now}
use Rattle.plain_model.specs.Consistent.{IsConsistent, IsConstantBelow}
use Rattle.plain_model.specs.Facts.{SetFacts, StaticFacts, arguments_class, stream_class}
use Rattle.plain_model.specs.First.{constant_value, first_objects, literal_object, node_object, root_value, static_value}
use Rattle.plain_model.specs.Kinds.{narrowed}
use Rattle.first_heap.specs.Values.{IsInReach, first_value}

-- how many first objects there are
pub first_counted : (set : SetFacts) (opening : Graph)
    → length (first_objects set opening) ≡ length opening.nodes + 2 + length set.literals
first_counted set opening =
    let nodes = map (node_object set opening) opening.nodes in
    let others : List Obj = record { shape = stream_class set; values = [] }
    ∷ record { shape = arguments_class set; values = [] } ∷ map (literal_object set opening) set.literals in
    omega (
      arith,
      length-append nodes others,
      length-map opening.nodes (node_object set opening),
      length-map set.literals (literal_object set opening),
    )

reach_of : (opening : Graph) (n : ℕ) (o : Option KeptConstant) → IsConstantBelow n (option_map constant_now o)
    → length opening.nodes + 2 + n < 2 ^ 32 → IsInReach opening o
reach_of opening n None below few = tt
reach_of opening n (Some (constant.Int i)) below few = tt
reach_of opening n (Some (constant.Long i)) below few = tt
reach_of opening n (Some (constant.Literal k)) below few = omega (arith, below, few)

abbrev IsBelowIn : ℕ → StaticFacts → Type 0
IsBelowIn n s = IsConstantBelow n s.constant

mapped_back : {A B : Type 0} (P : B → Type 0) (f : A → B) (xs : List A) → All P (map f xs) → All (λ x. P (f x)) xs
mapped_back P f [] all = All-nil (λ x. P (f x))
mapped_back P f (x ∷ xs) all =
    All-cons (λ y. P (f y)) x xs (All-head P (f x) (map f xs) all)
    (mapped_back P f xs (All-tail P (f x) (map f xs) all))

pub in_reach : (set : SetFacts) (opening : Graph) (files : List ClassFile) (fields : List Static) (d : Static)
    (i : ℕ) → IsConsistent set → length (first_objects set opening) < 2 ^ 32
    → map (static_now files) fields ≡ set.statics → i < length fields
    → IsInReach opening (get_or fields i d).constant
in_reach set opening files fields d i consistent few all below =
    let literals = length set.literals in
    let each : All (λ (f : Static). IsBelowIn literals (static_now files f)) fields =
    mapped_back (IsBelowIn literals) (static_now files) fields
    (subst (All (IsBelowIn literals)) (sym all) consistent.complete.constants) in
    reach_of opening literals (get_or fields i d).constant (each i d below)
    (let counted = first_counted set opening in omega (arith, counted, few))

abbrev by_constant : SetFacts → Graph → Kind → Option KeptConstant → Value
by_constant set opening kind o = elim (option_map constant_now o) as (λ _. Value) [
  | None ↦ default_of kind
  | Some c ↦ narrowed kind (constant_value set opening c)
]

constant_told : (set : SetFacts) (opening : Graph) (kind : Kind) (o : Option KeptConstant)
    → first_value set opening kind o ≡ by_constant set opening kind o
constant_told set opening kind None = refl
constant_told set opening kind (Some c) = refl

-- what a static field that is no durable root holds at first
pub value_told : (set : SetFacts) (opening : Graph) (files : List ClassFile) (field : Static) → field.is_root ≡ false
    → first_value set opening field.kind field.constant ≡ static_value set opening (static_now files field)
value_told set opening files field other =
    constant_told set opening field.kind field.constant
    ∙ ap (λ b. if b then root_value opening.roots (static_name files field)
    else by_constant set opening field.kind field.constant) (sym other)

pub mapped_twice : {A B C : Type 0} (f : B → C) (g : A → B) (xs : List A) → map (λ x. f (g x)) xs ≡ map f (map g xs)
mapped_twice f g [] = refl
mapped_twice f g (x ∷ xs) = ap (λ ys. f (g x) ∷ ys) (mapped_twice f g xs)
