-- The first heap is typed.
use Rattle.std.proofs.Common.{◌≡◌, ℕ, zero, suc, ◌-◌, ◌%◌, ◌<◌, ◌^◌, ℤ, pos, negsuc, true, false, List, [], ◌∷◌, ◌++◌, map}
use Rattle.std.proofs.Common.{refl, ap, subst, arith, slice_index_or, if◌then◌else◌}
use Rattle.std.specs.Prelude.{All, Option, Some, None, slice_get}
use Rattle.std.specs.Int.{int_rem_euclid}
use Rattle.std.proofs.lemmas.List.Elements.{All-nil, All-map, All-append, All-cons, All-filter, All-tail, All-head}
use Rattle.ap_base.specs.declared.kind.Kind.{Kind}
use Rattle.ap_base.specs.declared.kind.Kind.TheVariants.{Z, B, C, S, I, J, L, Text}
use Rattle.graph_model.specs.declared.types.Value.{Value}
use Rattle.graph_model.specs.declared.types.Value.TheVariants.{Int, Long, Null, Obj as Object}
use Rattle.graph_model.specs.declared.types.Field.{Field}
use Rattle.graph_model.specs.declared.types.Obj.{Obj}
use Rattle.graph_model.specs.declared.types.NamedValue.{NamedValue}
use Rattle.graph_model.specs.declared.types.Graph.{Graph}
use Rattle.graph_model.specs.Heaps.{default_of}
use Rattle.plain_model.specs.Classes.{ClassFacts}
use Rattle.plain_model.specs.Facts.{StaticFacts, Constant, IntConstant, LongConstant, LiteralConstant, SetFacts, class_at}
use Rattle.plain_model.specs.Facts.{string_number, stream_class, arguments_class}
use Rattle.plain_model.specs.Kinds.{HasKind, IsOf, AreOf, narrowed}
use Rattle.plain_model.specs.Consistent.{IsConsistent, IsConstantOf, IsStaticOfProgram}
use Rattle.plain_model.specs.First.{IsOpening, root_value, node_object, literal_object, constant_value, static_value}
use Rattle.plain_model.specs.First.{is_lacking, lacking_roots, first_heap, first_statics, name_is}
use Rattle.plain_model.specs.Typed.{kind_in, static_kind, IsOfItsClass, IsTyped}
use Rattle.plain_model.proofs.Consistent.{text_elements, argument_elements, arguments_kind, stream_shape}

-- what a remainder leaves, it leaves again
bit_again : (z : ℤ) → int_rem_euclid (int_rem_euclid z (pos 2)) (pos 2) ≡ int_rem_euclid z (pos 2)
bit_again (pos a) = let same : a % 2 % 2 ≡ a % 2 = omega arith in ap pos same
bit_again (negsuc a) = let same : (2 - 1 - a % 2) % 2 ≡ 2 - 1 - a % 2 = omega arith in ap pos same

char_again : (z : ℤ) → int_rem_euclid (int_rem_euclid z (pos (2 ^ 16))) (pos (2 ^ 16)) ≡ int_rem_euclid z (pos (2 ^ 16))
char_again (pos a) = let same : a % (2 ^ 16) % (2 ^ 16) ≡ a % (2 ^ 16) = omega arith in ap pos same
char_again (negsuc a) =
    let same : (2 ^ 16 - 1 - a % (2 ^ 16)) % (2 ^ 16) ≡ 2 ^ 16 - 1 - a % (2 ^ 16) = omega arith in ap pos same

-- what a store keeps is of its place's kind
pub narrowed_is : (kind : Kind) (value : Value) → HasKind kind value → IsOf kind (narrowed kind value)
narrowed_is Z (Int i) form = record { form = tt; range = ap Int (bit_again i) }
narrowed_is B (Int i) form = record { form = tt; range = tt }
narrowed_is C (Int i) form = record { form = tt; range = ap Int (char_again i) }
narrowed_is S (Int i) form = record { form = tt; range = tt }
narrowed_is I (Int i) form = record { form = tt; range = tt }
narrowed_is Text (Int i) form = record { form = tt; range = tt }
narrowed_is J (Long i) form = record { form = tt; range = tt }
narrowed_is L Null form = record { form = tt; range = tt }
narrowed_is L (Object n) form = record { form = tt; range = tt }
narrowed_is kind value form = absurd form

pub default_is : (kind : Kind) → IsOf kind (default_of kind)
default_is Z = record { form = tt; range = refl }
default_is B = record { form = tt; range = tt }
default_is C = record { form = tt; range = refl }
default_is S = record { form = tt; range = tt }
default_is I = record { form = tt; range = tt }
default_is J = record { form = tt; range = tt }
default_is L = record { form = tt; range = tt }
default_is Text = record { form = tt; range = tt }

char_is : (c : ℕ) → c < 2 ^ 16 → IsOf C (Int (pos c))
char_is c below = record {
  form = tt;
  range = (let same : c % (2 ^ 16) ≡ c = omega (arith, below) in ap (λ m. Int (pos m)) same);
}

reference_is : (value : Value) → HasKind L value → IsOf L value
reference_is Null form = record { form = tt; range = tt }
reference_is (Object n) form = record { form = tt; range = tt }
reference_is (Int i) form = absurd form
reference_is (Long i) form = absurd form

-- values of the elements' kind are of an object with elements
with_elements : (element : Option Kind) (fields : List Field) (kind : Kind) (values : List Value)
    → element ≡ Some kind → All (IsOf kind) values → AreOf element fields values
with_elements None fields kind values is all = absurd (let no : ◌≡◌ {A = Option Kind} None (Some kind) = is in cc)
with_elements (Some other) fields kind values is all =
    let same : kind ≡ other = (let it : ◌≡◌ {A = Option Kind} (Some other) (Some kind) = is in cc) in
    subst (λ k. All (IsOf k) values) same all

root_is : (roots : List NamedValue) (name : List ℕ) → All (λ (r : NamedValue). HasKind L r.value) roots
    → IsOf L (root_value roots name)
root_is [] name all = record { form = tt; range = tt }
root_is (r ∷ rs) name all =
    let Reference : NamedValue → Type 0 = λ (r : NamedValue). HasKind L r.value in
    elim (name_is r.name name) as (λ b. IsOf L (if b then r.value else root_value rs name)) [
      | true ↦ reference_is r.value (All-head Reference r rs all)
      | false ↦ root_is rs name (All-tail Reference r rs all)
    ]

module _ (set : SetFacts) (opening : Graph) (consistent : IsConsistent set) (is : IsOpening set opening) where
  constant_is : (kind : Kind) (constant : Option Constant) → IsConstantOf kind constant
      → IsOf kind (elim constant [ None ↦ default_of kind | Some c ↦ narrowed kind (constant_value set opening c) ])
  constant_is kind None it = default_is kind
  constant_is kind (Some (IntConstant i)) it = narrowed_is kind (Int i) it
  constant_is kind (Some (LongConstant i)) it = narrowed_is kind (Long i) it
  constant_is kind (Some (LiteralConstant k)) it =
      rw it (narrowed_is L (constant_value set opening (LiteralConstant k)) tt)

  static_is : (s : StaticFacts) → IsConstantOf s.kind s.constant → (s.is_root ≡ true → s.kind ≡ L)
      → IsOf s.kind (static_value set opening s)
  static_is s constant root = elim s.is_root as (λ b. s.is_root ≡ b → IsOf s.kind (if b then root_value opening.roots s.name
      else (elim s.constant [
        | None ↦ default_of s.kind
        | Some c ↦ narrowed s.kind (constant_value set opening c)
      ]))) [
        | true ↦ λ e. rw (root e) (root_is opening.roots s.name is.references)
        | false ↦ λ e. constant_is s.kind s.constant constant
      ] refl

  -- the statics of the set, and then the lacking roots
  lacking_are : (roots : List NamedValue) → All (λ (r : NamedValue). HasKind L r.value) roots → (k : ℕ)
      → IsOf L (slice_index_or (map (λ (r : NamedValue). r.value) roots) k Null)
  lacking_are [] all k = record { form = tt; range = tt }
  lacking_are (r ∷ rs) all zero =
      reference_is r.value (All-head (λ (r : NamedValue). HasKind L r.value) r rs all)
  lacking_are (r ∷ rs) all (suc k) = lacking_are rs (All-tail (λ (r : NamedValue). HasKind L r.value) r rs all) k

  statics_are : (fields : List StaticFacts) → All (IsStaticOfProgram set) fields → (k : ℕ)
      → IsOf (kind_in (slice_get fields k))
      (slice_index_or (map (static_value set opening) fields
      ++ map (λ (r : NamedValue). r.value) (lacking_roots set opening)) k Null)
  statics_are [] all k =
      lacking_are (lacking_roots set opening)
      (All-filter (is_lacking set opening) (λ (r : NamedValue). HasKind L r.value) opening.roots is.references) k
  statics_are (s ∷ ss) all zero =
      let its = All-head (IsStaticOfProgram set) s ss all in static_is s its.constant its.root
  statics_are (s ∷ ss) all (suc k) = statics_are ss (All-tail (IsStaticOfProgram set) s ss all) k

  static_at : (n : ℕ) → IsOf (static_kind set n) (slice_index_or (first_statics set opening) n Null)
  static_at zero = record { form = tt; range = tt }
  static_at (suc k) = statics_are set.statics consistent.statics k

  abbrev Has : Obj → Type 0
  Has o = IsOfItsClass set o

  objects_are : All Has (first_heap set opening).objects
  unfolding first_heap
  objects_are =
      let complete = consistent.complete in
      let stream : Obj = record { shape = stream_class set; values = [] } in
      let arguments : Obj = record { shape = arguments_class set; values = [] } in
      let literals = map (literal_object set opening) set.literals in
      let class : ℕ → ClassFacts = class_at set in
      All-append Has (map (node_object set opening) opening.nodes) (stream ∷ arguments ∷ literals)
      (All-map Has (node_object set opening) opening.nodes is.values)
      (All-cons Has stream (arguments ∷ literals) (rw (stream_shape set) tt)
      (All-cons Has arguments literals
      (with_elements (class (arguments_class set)).shape.element (class (arguments_class set)).shape.fields (arguments_kind set complete) []
      (argument_elements set complete) (All-nil (IsOf (arguments_kind set complete))))
      (All-map Has (literal_object set opening) set.literals (λ k d within.
      with_elements (class (string_number set)).shape.element (class (string_number set)).shape.fields C
      (map (λ c. Int (pos c)) (slice_index_or set.literals k d)) (text_elements set)
      (All-map (IsOf C) (λ (c : ℕ). Int (pos c)) (slice_index_or set.literals k d)
      (λ i e inside. char_is (slice_index_or (slice_index_or set.literals k d) i e)
      (consistent.chars k d within i e inside)))))))

  pub first_heap_is_typed : IsTyped set (first_heap set opening)
  unfolding first_heap
  first_heap_is_typed = record { objects = objects_are; statics = λ n within. static_at n }
