-- Opening graphs of one node.
use Rattle.std.proofs.Common.{◌≡◌, ℕ, suc, ◌<◌, ◌^◌, Bool, true, false, List, [], ◌∷◌, ◌++◌, Option, Some, ℤ, map, length, ap}
use Rattle.std.proofs.Common.{sym, subst, ◌∙◌, arith, if◌then◌else◌}
use Rattle.std.specs.Prelude.{All, Contains, IfSome, slice_get}
use Rattle.std.specs.List.{AllZip}
use Rattle.std.proofs.lemmas.Bool.{false≢true}
use Rattle.std.proofs.lemmas.List.{length-map, get_or-map}
use Rattle.std.proofs.lemmas.List.Elements.{All-cons, All-head, All-nil, All-tail}
use Rattle.std.proofs.lemmas.Option.{get_or_from_slice_get, slice_get_within}
use Rattle.graph_walks.proofs.Lists.{Contains-head}
use Rattle.ap_base.specs.declared.kind.Kind.{Kind}
use Rattle.ap_base.specs.declared.kind.Kind.TheVariants.{I, L}
use Rattle.graph_model.specs.declared.types.Field.{Field}
use Rattle.graph_model.specs.declared.types.Graph.{Graph}
use Rattle.graph_model.specs.declared.types.NamedValue.{NamedValue}
use Rattle.graph_model.specs.declared.types.Node.{Node}
use Rattle.graph_model.specs.declared.types.Root.{Root}
use Rattle.graph_model.specs.declared.types.Shape.{Shape}
use Rattle.graph_model.specs.declared.types.Value.{Value}
use Rattle.graph_model.specs.declared.types.Value.TheVariants.{Int, Obj as Object}
use Rattle.graph_model.specs.Heaps.{IsBelow, no_shape}
use Rattle.plain_model.specs.Classes.{ClassFacts, no_class}
use Rattle.plain_model.specs.Facts.{SetFacts, StaticFacts, class_at, classes_of, shapes_of}
use Rattle.plain_model.specs.First.{IsOpening, class_named, literal_object}
use Rattle.plain_model.specs.Kinds.{AreOf, HasKind, IsOf}
use Rattle.class_set.specs.Facts.{facts_of, roots_from}
use Rattle.class_set.specs.Linked.{Linked, names_of}
use Rattle.text_table.specs.Texts.{place_of}
use Rattle.plain_launch.proofs.Classes.{class_numbered}
use Rattle.plain_rows.specs.Openings.{HasInts, HasName, IsNodeOf}

-- ---- what is found

pub at_some : {X : Type 0} (found : Option X) (x : X) (P : X → Type 0) → found ≡ Some x → IfSome found P → P x
at_some {X} found x P is holds =
    let some : Option X = Some x in
    let at : IfSome some P = subst (λ (o : Option X). IfSome o P) is holds in at

-- ---- the node

int_of : (kind : Kind) (i : ℤ) → kind ≡ I → IsOf kind (Int i)
int_of kind i e = let P : Kind → Type 0 = λ k. IsOf k (Int i) in subst P (sym e) (record { form = tt; range = tt })

abbrev IsOfField : Field → Value → Type 0
IsOfField f value = IsOf f.kind value

ints_of : (fields : List Field) (values : List ℤ) → length fields ≡ length values
    → All (λ (f : Field). f.kind ≡ I) fields → AllZip IsOfField fields (map (λ i. Int i) values)
ints_of [] [] e all = tt
ints_of [] (v ∷ vs) e all = absurd (omega (arith, e))
ints_of (f ∷ fs) [] e all = absurd (omega (arith, e))
ints_of (f ∷ fs) (v ∷ vs) e all = (
  int_of f.kind v (All-head (λ (f : Field). f.kind ≡ I) f fs all),
  ints_of fs vs (omega (arith, e)) (All-tail (λ (f : Field). f.kind ≡ I) f fs all),
)

are_ints : (shape : Shape) (values : List ℤ) → HasInts shape (length values)
    → AreOf shape.element shape.fields (map (λ i. Int i) values)
are_ints shape values has =
    let P : Option Kind → Type 0 = λ element. AreOf element shape.fields (map (λ i. Int i) values) in
    subst P (sym has.none) (ints_of shape.fields values has.long has.ints)

below_ints : (n : ℕ) (values : List ℤ) → All (IsBelow n) (map (λ i. Int i) values)
below_ints n [] = All-nil (IsBelow n)
below_ints n (v ∷ vs) = All-cons (IsBelow n) (Int v) (map (λ i. Int i) vs) tt (below_ints n vs)

pub node_is : (set : Linked) (number : ℕ) (shape : Shape) (values : List ℤ) (node : Node)
    → place_of (names_of set) shape.name ≡ Some number → Some shape ≡ slice_get (shapes_of (facts_of set)) number
    → HasInts shape (length values) → length values < 2 ^ 31
    → node.shape ≡ shape → node.values ≡ map (λ i. Int i) values → IsNodeOf (facts_of set) node
node_is set number shape values node named at has short same ints =
    let facts = facts_of set in
    let classes = classes_of facts in
    let long = length-map classes (λ (c : ClassFacts). c.shape) in
    let within = slice_get_within (shapes_of facts) number shape (sym at) in
    let below : number < length classes = omega (arith, within, long) in
    let same_class : class_named classes node.shape.name ≡ number =
    ap (λ (s : Shape). class_named classes s.name) same ∙ sym (class_numbered set shape.name number named) in
    let its_shape : (class_at facts number).shape ≡ shape =
    sym (get_or-map (λ (c : ClassFacts). c.shape) classes number no_class no_shape below)
    ∙ get_or_from_slice_get (shapes_of facts) number shape no_shape (sym at) in
    let agrees : (class_at facts (class_named classes node.shape.name)).shape ≡ node.shape =
    ap (λ n. (class_at facts n).shape) same_class ∙ its_shape ∙ sym same in
    let of_node : AreOf node.shape.element node.shape.fields node.values =
    let P : Shape → List Value → Type 0 = λ s vs. AreOf s.element s.fields vs in
    subst (λ (s : Shape). P s node.values) (sym same) (subst (λ (vs : List Value). P shape vs) (sym ints) (are_ints shape values has)) in
    record {
      there = omega (arith, same_class, below);
      agrees = agrees;
      values = let P : Shape → Type 0 = λ s. AreOf s.element s.fields node.values in subst P (sym agrees) of_node;
      below = λ n. subst (All (IsBelow n)) (sym ints) (below_ints n values);
      short = let counted : length node.values ≡ length values = ap (λ (vs : List Value). length vs) ints ∙ length-map values (λ (i : ℤ). Int i) in
          omega (arith, counted, short);
    }

-- ---- the root

abbrev pub IsNamedRoot : List ℕ → StaticFacts → Type 0
IsNamedRoot name s = s.is_root ≡ true → s.name ≡ name

first_named : (name : List ℕ) (b : Bool) (root : Root) (rest : List Root)
    → All (HasName name) ((if b then root ∷ [] else []) ++ rest) → b ≡ true → root.name ≡ name
first_named name true root rest all is = All-head (HasName name) root rest all
first_named name false root rest all is = absurd (false≢true is)

rest_named : (name : List ℕ) (b : Bool) (root : Root) (rest : List Root)
    → All (HasName name) ((if b then root ∷ [] else []) ++ rest) → All (HasName name) rest
rest_named name true root rest all = All-tail (HasName name) root rest all
rest_named name false root rest all = all

pub roots_named : (name : List ℕ) (n : ℕ) (ss : List StaticFacts) → All (HasName name) (roots_from n ss)
    → All (IsNamedRoot name) ss
roots_named name n [] all = All-nil (IsNamedRoot name)
roots_named name n (s ∷ ss) all =
    let root : Root = record { name = s.name; at = n } in
    let rest = roots_from (suc n) ss in
    All-cons (IsNamedRoot name) s ss (first_named name s.is_root root rest all)
    (roots_named name (suc n) ss (rest_named name s.is_root root rest all))

has_root : (name : List ℕ) (ss : List StaticFacts) → All (IsNamedRoot name) ss
    → All (λ (s : StaticFacts). s.is_root ≡ true → Contains (name ∷ []) s.name) ss
has_root name [] all = All-nil (λ (s : StaticFacts). s.is_root ≡ true → Contains (name ∷ []) s.name)
has_root name (s ∷ ss) all =
    All-cons (λ (s : StaticFacts). s.is_root ≡ true → Contains (name ∷ []) s.name) s ss
    (λ is. subst (Contains (name ∷ [])) (sym (All-head (IsNamedRoot name) s ss all is)) (Contains-head name []))
    (has_root name ss (All-tail (IsNamedRoot name) s ss all))

-- ---- the graph

abbrev pub one_root : List ℕ → List NamedValue
one_root name = record { name = name; value = Object 0 } ∷ []

one : (P : Node → Type 0) (n : Node) → P n → All P (n ∷ [])
one P n p = All-cons P n [] p (All-nil P)

module _ (set : SetFacts) where
  abbrev class_of : Node → ClassFacts
  class_of n = class_at set (class_named (classes_of set) n.shape.name)

  abbrev IsThere : Node → Type 0
  IsThere n = class_named (classes_of set) n.shape.name < length (classes_of set)

  abbrev Agrees : Node → Type 0
  Agrees n = (class_of n).shape ≡ n.shape

  abbrev HasValues : Node → Type 0
  HasValues n = AreOf (class_of n).shape.element (class_of n).shape.fields n.values

pub is_opening : (set : SetFacts) (name : List ℕ) (node : Node) → IsNodeOf set node
    → All (IsNamedRoot name) set.statics → length set.literals < 1000
    → IsOpening set (record { roots = one_root name; nodes = node ∷ [] })
is_opening set name node is named few =
    let root : NamedValue = record { name = name; value = Object 0 } in
    let opening : Graph = record { roots = one_root name; nodes = node ∷ [] } in
    let below_one : 0 < 1 = omega arith in
    record {
      shapes = one (IsThere set) node is.there;
      agree = one (Agrees set) node is.agrees;
      values = one (HasValues set) node is.values;
      has_roots = has_root name set.statics named;
      names_differ = λ i j d before below. absurd (omega (arith, before, below));
      references = All-cons (λ (r : NamedValue). HasKind L r.value) root [] tt
          (All-nil (λ (r : NamedValue). HasKind L r.value));
      in_roots = All-cons (λ (r : NamedValue). IsBelow 1 r.value) root [] below_one
          (All-nil (λ (r : NamedValue). IsBelow 1 r.value));
      in_nodes = one (λ (n : Node). All (IsBelow 1) n.values) node (is.below 1);
      few =
          let counted : length (map (literal_object set opening) set.literals) ≡ length set.literals =
          length-map set.literals (literal_object set opening) in
          omega (arith, counted, few);
    }
