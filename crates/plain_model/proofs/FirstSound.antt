-- The first heap of a class set and its opening graph is sound.
use Rattle.std.proofs.Common.{◌≡◌, ℕ, suc, ◌+◌, ◌<◌, ◌≤◌, pos, true, false, List, [], ◌∷◌, refl, length, map, cond}
use Rattle.std.proofs.Common.{if◌then◌else◌, ◌&&◌, arith, length-append, get_or}
use Rattle.std.specs.Prelude.{All, Option, Some, None, filter}
use Rattle.std.proofs.lemmas.List.{length-map}
use Rattle.std.proofs.lemmas.List.Elements.{All-nil, All-cons, All-append, All-map, All-filter, All-weaker}
use Rattle.ap_base.specs.declared.kind.Kind.{Kind}
use Rattle.ap_base.specs.declared.kind.Kind.TheVariants.{Z, B, C, S, I, J, L, Text}
use Rattle.graph_model.specs.declared.types.Value.{Value}
use Rattle.graph_model.specs.declared.types.Value.TheVariants.{Int, Long, Null, Obj as Object}
use Rattle.graph_model.specs.declared.types.Obj.{Obj}
use Rattle.graph_model.specs.declared.types.Root.{Root}
use Rattle.graph_model.specs.declared.types.Node.{Node}
use Rattle.graph_model.specs.declared.types.NamedValue.{NamedValue}
use Rattle.graph_model.specs.declared.types.Graph.{Graph}
use Rattle.graph_model.specs.Heaps.{IsBelow, IsSound, default_of}
use Rattle.plain_model.specs.Classes.{ClassFacts}
use Rattle.plain_model.specs.Facts.{SetFacts, StaticFacts, classes_of, stream_class, arguments_class, Constant, IntConstant}
use Rattle.plain_model.specs.Facts.{LongConstant, LiteralConstant}
use Rattle.plain_model.specs.Kinds.{narrowed}
use Rattle.plain_model.specs.Consistent.{IsConstantBelow, IsComplete}
use Rattle.plain_model.specs.First.{IsOpening, first_heap, first_objects, first_statics, node_object, literal_object}
use Rattle.plain_model.specs.First.{static_value, constant_value, root_static, root_value, roots_from, is_lacking}
use Rattle.plain_model.specs.First.{lacking_roots, name_is, stream_number}
use Rattle.plain_model.proofs.Consistent.{string_there, stream_there, arguments_there}
use Rattle.plain_model.proofs.Closed.{root_value_below}

-- an object of the first so many is one of the first more
pub IsBelow-more : (n m : ℕ) (value : Value) → n ≤ m → IsBelow n value → IsBelow m value
IsBelow-more n m (Int i) more below = tt
IsBelow-more n m (Long i) more below = tt
IsBelow-more n m Null more below = tt
IsBelow-more n m (Object k) more below = omega (arith, more, below)

pub default_below : (n : ℕ) (kind : Kind) → IsBelow n (default_of kind)
default_below n Z = tt
default_below n B = tt
default_below n C = tt
default_below n S = tt
default_below n I = tt
default_below n J = tt
default_below n L = tt
default_below n Text = tt

pub narrowed_below : (n : ℕ) (kind : Kind) (value : Value) → IsBelow n value → IsBelow n (narrowed kind value)
narrowed_below n Z (Int i) below = tt
narrowed_below n B (Int i) below = tt
narrowed_below n C (Int i) below = tt
narrowed_below n S (Int i) below = tt
narrowed_below n kind value below = below

root_static_within : (fields : List StaticFacts) (name : List ℕ) (k : ℕ) → root_static fields name ≡ Some k → k < length fields
root_static_within [] name k found = absurd (let none : None ≡ Some k = found in cc)
root_static_within (s ∷ ss) name k found = elim (s.is_root && name_is s.name name) as (λ b.
    (if b then Some 0 else (elim (root_static ss name) [ None ↦ None | Some j ↦ Some (suc j) ])) ≡ Some k → k < suc (length ss)) [
      | true ↦ λ e. let here : 0 ≡ k = (let it : Some 0 ≡ Some k = e in cc) in omega (arith, here)
      | false ↦ further (root_static_within ss name)
    ] found
  where
    further : ((j : ℕ) → root_static ss name ≡ Some j → j < length ss)
        → (elim (root_static ss name) [ None ↦ None | Some j ↦ Some (suc j) ]) ≡ Some k → k < suc (length ss)
    further within = elim (root_static ss name) as (λ r. root_static ss name ≡ r → (elim r [ None ↦ None | Some j ↦ Some (suc j) ]) ≡ Some k → k < suc (length ss)) [
      | None ↦ λ e g. absurd (let none : None ≡ Some k = g in cc)
      | Some j ↦ λ e g. let next : suc j ≡ k = (let it : Some (suc j) ≡ Some k = g in cc) in omega (arith, next, within j e)
    ] refl

module _ (set : SetFacts) (opening : Graph) (complete : IsComplete set) (is : IsOpening set opening) where
  abbrev count : ℕ
  count = length (first_objects set opening)

  abbrev nodes : List Obj
  nodes = map (node_object set opening) opening.nodes

  abbrev literals : List Obj
  literals = map (literal_object set opening) set.literals

  counted : count ≡ length opening.nodes + (2 + length set.literals)
  counted = omega (
    arith,
    length-append nodes (record { shape = stream_class set; values = [] } ∷ record { shape = arguments_class set; values = [] } ∷ literals),
    length-map opening.nodes (node_object set opening),
    length-map set.literals (literal_object set opening),
  )

  more_nodes : length opening.nodes ≤ count
  more_nodes = omega (arith, counted)

  abbrev HasShape : Obj → Type 0
  HasShape o = o.shape < length (classes_of set)

  object_shapes : All HasShape (first_objects set opening)
  object_shapes = All-append HasShape nodes (record { shape = stream_class set; values = [] } ∷ record { shape = arguments_class set; values = [] } ∷ literals)
      (All-map HasShape (node_object set opening) opening.nodes is.shapes)
      (All-cons HasShape (record { shape = stream_class set; values = [] }) (record { shape = arguments_class set; values = [] } ∷ literals) (stream_there set)
      (All-cons HasShape (record { shape = arguments_class set; values = [] }) literals (arguments_there set complete)
      (All-map HasShape (literal_object set opening) set.literals (λ k d within. string_there set))))

  abbrev HasSlots : Obj → Type 0
  HasSlots o = All (IsBelow count) o.values

  more_below : (value : Value) → IsBelow (length opening.nodes) value → IsBelow count value
  more_below value below = IsBelow-more (length opening.nodes) count value more_nodes below

  object_slots : All HasSlots (first_objects set opening)
  object_slots = All-append HasSlots nodes (record { shape = stream_class set; values = [] } ∷ record { shape = arguments_class set; values = [] } ∷ literals)
      (All-map HasSlots (node_object set opening) opening.nodes
      (All-weaker (λ (n : Node). All (IsBelow (length opening.nodes)) n.values) (λ (n : Node). All (IsBelow count) n.values)
      (λ n. All-weaker (IsBelow (length opening.nodes)) (IsBelow count) more_below n.values) opening.nodes is.in_nodes))
      (All-cons HasSlots (record { shape = stream_class set; values = [] }) (record { shape = arguments_class set; values = [] } ∷ literals) (All-nil (IsBelow count))
      (All-cons HasSlots (record { shape = arguments_class set; values = [] }) literals (All-nil (IsBelow count))
      (All-map HasSlots (literal_object set opening) set.literals
      (λ k d within. All-map (IsBelow count) (λ (c : ℕ). Int (pos c)) (get_or set.literals k d) (λ i e inside. tt)))))

  constant_below : (kind : Kind) (constant : Option Constant) → IsConstantBelow (length set.literals) constant
      → IsBelow count (elim constant [ None ↦ default_of kind | Some c ↦ narrowed kind (constant_value set opening c) ])
  constant_below kind None below = default_below count kind
  constant_below kind (Some (IntConstant i)) below = narrowed_below count kind (Int i) tt
  constant_below kind (Some (LongConstant i)) below = narrowed_below count kind (Long i) tt
  constant_below kind (Some (LiteralConstant k)) below =
      narrowed_below count kind (constant_value set opening (LiteralConstant k)) (omega (arith, below, counted))

  static_below : (s : StaticFacts) → IsConstantBelow (length set.literals) s.constant → IsBelow count (static_value set opening s)
  static_below s below = elim s.is_root as (λ b. IsBelow count (if b then root_value opening.roots s.name else (elim s.constant [
    | None ↦ default_of s.kind
    | Some constant ↦ narrowed s.kind (constant_value set opening constant)
  ]))) [
    | true ↦ more_below (root_value opening.roots s.name) (root_value_below set opening is opening.roots s.name is.in_roots)
    | false ↦ constant_below s.kind s.constant below
  ]

  abbrev fields : List Value
  fields = map (static_value set opening) set.statics

  abbrev lacking : List Value
  lacking = map (λ (r : NamedValue). r.value) (lacking_roots set opening)

  statics_below : All (IsBelow count) (first_statics set opening)
  statics_below = All-append (IsBelow count) (Object (stream_number set opening) ∷ fields) lacking
      (All-cons (IsBelow count) (Object (stream_number set opening)) fields (omega (arith, counted))
      (All-map (IsBelow count) (static_value set opening) set.statics
      (All-weaker (λ (s : StaticFacts). IsConstantBelow (length set.literals) s.constant) (λ (s : StaticFacts). IsBelow count (static_value set opening s))
      static_below set.statics complete.constants)))
      (All-map (IsBelow count) (λ (r : NamedValue). r.value) (lacking_roots set opening)
      (All-filter (is_lacking set opening) (λ (r : NamedValue). IsBelow count r.value) opening.roots
      (All-weaker (λ (r : NamedValue). IsBelow (length opening.nodes) r.value) (λ (r : NamedValue). IsBelow count r.value)
      (λ r. more_below r.value) opening.roots is.in_roots)))

  -- each root's static is there, where so many of the roots before were lacking
  roots_within : (roots : List NamedValue) (before bound : ℕ) → suc (length set.statics) + (before + length (filter (is_lacking set opening) roots)) ≤ bound
      → All (λ (r : Root). r.at < bound) (roots_from set opening before roots)
  roots_within [] before bound enough = All-nil (λ (r : Root). r.at < bound)
  roots_within (r ∷ rs) before bound enough = elim (root_static set.statics r.name) as (λ place. root_static set.statics r.name ≡ place
      → suc (length set.statics) + (before + length (cond (elim place [ None ↦ true | Some k ↦ false ])
      (r ∷ filter (is_lacking set opening) rs) (filter (is_lacking set opening) rs))) ≤ bound
      → All (λ (q : Root). q.at < bound) (elim place [
        | None ↦ record { name = r.name; at = suc (length set.statics) + before } ∷ roots_from set opening (suc before) rs
        | Some k ↦ record { name = r.name; at = suc k } ∷ roots_from set opening before rs
      ])) [
        | None ↦ λ e h. All-cons (λ (q : Root). q.at < bound) (record { name = r.name; at = suc (length set.statics) + before })
            (roots_from set opening (suc before) rs) (omega (arith, h)) (roots_within rs (suc before) bound (omega (arith, h)))
        | Some k ↦ λ e h. All-cons (λ (q : Root). q.at < bound) (record { name = r.name; at = suc k })
            (roots_from set opening before rs) (omega (arith, h, root_static_within set.statics r.name k e)) (roots_within rs before bound h)
      ] refl enough

  pub first_heap_is_sound : IsSound (first_heap set opening)
  unfolding first_heap
  first_heap_is_sound = record {
    few = is.few;
    shapes = rw (length-map (classes_of set) (λ (c : ClassFacts). c.shape)) object_shapes;
    slots = object_slots;
    statics = statics_below;
    roots = roots_within opening.roots 0 (length (first_statics set opening)) (omega (
      arith,
      length-append (Object (stream_number set opening) ∷ fields) lacking,
      length-map set.statics (static_value set opening),
      length-map (lacking_roots set opening) (λ (r : NamedValue). r.value),
    ));
  }
