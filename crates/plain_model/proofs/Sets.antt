-- The class sets of the rows are consistent, and their graphs' nodes have values of their kinds.
use Rattle.std.proofs.Common.{◌≡◌, ℕ, ◌<◌, ◌^◌, List, [], ◌∷◌, refl, sym, ap, lit<, arith}
use Rattle.std.specs.Prelude.{◌≢◌, ◌++◌, true, false, codes, take, length, replicate, slice_index_or, None, Some, All, AllPairs}
use Rattle.std.specs.List.{AllByRecursion as ByRecursion}
use Rattle.std.proofs.lemmas.Bool.{false≢true}
use Rattle.std.proofs.lemmas.List.Elements.{All-nil, All-cons, All-weaker, All-from_recursion}
use Rattle.std.proofs.lemmas.List.Kept.{AllPairs-cons}
use Rattle.graph_model.specs.declared.types.Value.{Value}
use Rattle.graph_model.specs.declared.types.Value.TheVariants.{Null, Obj as Object}
use Rattle.graph_model.specs.declared.types.Field.{Field}
use Rattle.graph_model.specs.declared.types.Node.{Node}
use Rattle.plain_model.specs.Classes.{ClassFacts, ArrayType, Missing}
use Rattle.plain_model.specs.Facts.{SetFacts, StaticFacts, class_count, classes_of, class_at, is_subclass}
use Rattle.plain_model.specs.Kinds.{AreOf}
use Rattle.plain_model.specs.First.{class_named}
use Rattle.plain_model.specs.Consistent.{IsConsistent, IsConstantBelow, IsInterface, IsProgramClass, IsArrayType}
use Rattle.plain_model.specs.Consistent.{IsStaticOfProgram, IsFieldKind, IsInnermost, innermost_descriptor, supers_of}
use Rattle.plain_model.specs.BuiltIn.{chars_array, arguments_array}
use Rattle.plain_model.specs.Rows.{nodes}
use Rattle.plain_model.specs.StepWorld.{boxes, box_fields, int}
use Rattle.plain_model.specs.SubtypeRows.{array_of, drawing, drawing_classes, drawing_arrays}
use Rattle.plain_model.specs.SetRows.{a_static, two_texts}
use Rattle.plain_model.specs.RunRows.{two_boxes}
use Rattle.plain_model.proofs.RunParts.{◌▸◌}
use Rattle.plain_model.proofs.Tested.{is_new, own_names, new_name, no_circle}

-- a class of the program by the parts that compute
linked : {set : SetFacts} {c : ClassFacts} {super : ℕ} → c.superclass ≡ Some super → super < class_count set
    → (class_at set super).is_interface ≡ false → (class_at set super).is_final ≡ false
    → take (length (class_at set super).shape.fields) c.shape.fields ≡ (class_at set super).shape.fields
    → ByRecursion (IsInterface set) c.interfaces → c.shape.element ≡ None
    → ByRecursion (λ (f : Field). IsFieldKind f.kind) c.shape.fields → IsProgramClass set c
linked {set} {c} {super} is there is_class not_final fields interfaces no_elements kinds = record {
  super = (super, is, record { there = there; is_class = is_class; not_final = not_final; fields = fields });
  interfaces = All-from_recursion (IsInterface set) c.interfaces interfaces;
  no_elements = no_elements;
  kinds = All-from_recursion (λ (f : Field). IsFieldKind f.kind) c.shape.fields kinds;
}

array_type : {set : SetFacts} {a : ArrayType} → 0 < a.dimensions → IsInnermost set a.innermost
    → a.descriptor ≡ replicate a.dimensions 91 ++ innermost_descriptor set a.innermost → IsArrayType set a
array_type dimensions innermost descriptor =
    record { dimensions = dimensions; innermost = innermost; descriptor = descriptor }

pub nodes_are_consistent : IsConsistent nodes
nodes_are_consistent = record {
  complete = record {
    chars = (0, lit< tt, refl);
    arguments = (1, lit< tt, refl);
    constants = All-from_recursion (λ (s : StaticFacts). IsConstantBelow 0 s.constant) nodes.statics (tt ▸ tt);
  };
  names_differ = own_names (classes_of nodes) refl;
  classes = All-from_recursion (IsProgramClass nodes) nodes.program (
      linked refl (lit< tt) refl refl refl tt refl tt
      ▸ linked refl (lit< tt) refl refl refl tt refl (tt ▸ tt) ▸ tt
      );
  no_circle = no_circle nodes 30 refl;
  arrays = All-from_recursion (IsArrayType nodes) nodes.arrays (
      array_type (lit< tt) tt refl
      ▸ array_type (lit< tt) (lit< tt) refl ▸ tt
      );
  statics = All-from_recursion (IsStaticOfProgram nodes) nodes.statics
      (record { class = lit< tt; name = (codes "head", refl); kind = tt; constant = tt; root = λ root. refl } ▸ tt);
  chars = All-nil (λ (chars : List ℕ). All (λ c. c < 2 ^ 16) chars);
  literals_differ = λ i j d before within. absurd (let no : j < 0 = within in omega (arith, no));
}

pub boxes_are_consistent : IsConsistent boxes
boxes_are_consistent = record {
  complete = record {
    chars = (1, lit< tt, refl);
    arguments = (5, lit< tt, refl);
    constants = All-from_recursion (λ (s : StaticFacts). IsConstantBelow 0 s.constant) boxes.statics
        (tt ▸ tt ▸ tt ▸ tt ▸ tt);
  };
  names_differ = own_names (classes_of boxes) refl;
  classes = All-from_recursion (IsProgramClass boxes) boxes.program (
      linked refl (lit< tt) refl refl refl tt refl tt
      ▸ linked refl (lit< tt) refl refl refl tt refl (tt ▸ tt ▸ tt ▸ tt)
      ▸ linked refl (lit< tt) refl refl refl tt refl (tt ▸ tt ▸ tt ▸ tt ▸ tt)
      ▸ linked refl (lit< tt) refl refl refl tt refl tt
      ▸ linked refl (lit< tt) refl refl refl tt refl (tt ▸ tt)
      ▸ linked refl (lit< tt) refl refl refl tt refl (tt ▸ tt) ▸ tt
      );
  no_circle = no_circle boxes 34 refl;
  arrays = All-from_recursion (IsArrayType boxes) boxes.arrays (
      array_type (lit< tt) tt refl
      ▸ array_type (lit< tt) tt refl
      ▸ array_type (lit< tt) tt refl
      ▸ array_type (lit< tt) tt refl
      ▸ array_type (lit< tt) (lit< tt) refl
      ▸ array_type (lit< tt) (lit< tt) refl
      ▸ array_type (lit< tt) tt refl
      ▸ array_type (lit< tt) tt refl ▸ tt
      );
  statics = All-from_recursion (IsStaticOfProgram boxes) boxes.statics (
      record { class = lit< tt; name = (codes "count", refl); kind = tt; constant = tt; root = λ root. absurd (false≢true root) }
      ▸ record { class = lit< tt; name = (codes "kept", refl); kind = tt; constant = tt; root = λ root. refl }
      ▸ record { class = lit< tt; name = (codes "count", refl); kind = tt; constant = tt; root = λ root. absurd (false≢true root) }
      ▸ record { class = lit< tt; name = (codes "when", refl); kind = tt; constant = tt; root = λ root. absurd (false≢true root) } ▸ tt
      );
  chars = All-nil (λ (chars : List ℕ). All (λ c. c < 2 ^ 16) chars);
  literals_differ = λ i j d before within. absurd (let no : j < 0 = within in omega (arith, no));
}

-- the classes of the drawings, with array types, static fields and literals of any kind
module _ (arrays : List ArrayType) (statics : List StaticFacts) (literals : List (List ℕ)) where
  abbrev drawn : SetFacts
  drawn = record { program = drawing_classes; arrays = arrays; statics = statics; literals = literals }

  drawn_classes : All (IsProgramClass drawn) drawing_classes
  drawn_classes = All-from_recursion (IsProgramClass drawn) drawing_classes (
      linked refl (lit< tt) refl refl refl tt refl tt
      ▸ linked refl (lit< tt) refl refl refl
      ((lit< tt, refl) ▸ tt) refl tt
      ▸ linked refl (lit< tt) refl refl refl tt refl tt
      ▸ linked refl (lit< tt) refl refl refl
      ((lit< tt, refl) ▸ tt) refl tt
      ▸ linked refl (lit< tt) refl refl refl tt refl tt ▸ tt
      )

  drawn_without_circle : (n : ℕ) → n < 33 → All (λ super. is_subclass drawn super n ≡ false)
      (supers_of (class_at drawn n))
  drawn_without_circle = no_circle drawn 33 refl

  missing : (name : List ℕ) → is_new name (take 33 (classes_of drawn)) ≡ true
      → All (λ (c : ClassFacts). c.shape.name ≢ name) (take 33 (classes_of drawn))
  missing name is =
      All-weaker (λ (c : ClassFacts). name ≢ c.shape.name) (λ (c : ClassFacts). c.shape.name ≢ name)
      (λ c other same. other (sym same)) (take 33 (classes_of drawn))
      (new_name name (take 33 (classes_of drawn)) is)

  given : IsArrayType drawn chars_array × IsArrayType drawn (arguments_array 5)
  given = (
    array_type (lit< tt) tt refl,
    array_type (lit< tt) (lit< tt) refl,
  )

abbrev AreChars : List ℕ → Type 0
AreChars chars = All (λ c. c < 2 ^ 16) chars

no_literals_differ : AllPairs (λ (left right : List ℕ). left ≢ right) []
no_literals_differ = λ i j d before within. absurd (let no : j < 0 = within in omega (arith, no))

pub drawing_is_consistent : IsConsistent drawing
drawing_is_consistent = record {
  complete = record {
    chars = (0, lit< tt, refl);
    arguments = (6, lit< tt, refl);
    constants = All-nil (λ (s : StaticFacts). IsConstantBelow 0 s.constant);
  };
  names_differ = own_names (classes_of drawing) refl;
  classes = drawn_classes drawing_arrays [] [];
  no_circle = drawn_without_circle drawing_arrays [] [];
  arrays = All-from_recursion (IsArrayType drawing) drawing_arrays (
      (given drawing_arrays [] []).0
      ▸ array_type (lit< tt) tt refl
      ▸ array_type (lit< tt) (lit< tt) refl
      ▸ array_type (lit< tt) (lit< tt) refl
      ▸ array_type (lit< tt) (lit< tt) refl
      ▸ array_type (lit< tt) (lit< tt) refl
      ▸ (given drawing_arrays [] []).1
      ▸ array_type (lit< tt) tt refl
      ▸ array_type (lit< tt) (missing drawing_arrays [] [] (codes "Square") refl) refl
      ▸ array_type (lit< tt) (missing drawing_arrays [] [] (codes "Triangle") refl) refl
      ▸ array_type (lit< tt) (missing drawing_arrays [] [] (codes "Square") refl) refl ▸ tt
      );
  statics = All-nil (IsStaticOfProgram drawing);
  chars = All-nil AreChars;
  literals_differ = no_literals_differ;
}

-- with an array type of a class that is missing
abbrev squares : List ArrayType
squares = chars_array ∷ arguments_array 5 ∷ array_of (codes "[[LSquare;") 2 (Missing (codes "Square")) ∷ []

pub squares_are_consistent : IsConsistent (drawn squares [] [])
squares_are_consistent = record {
  complete = record {
    chars = (0, lit< tt, refl);
    arguments = (1, lit< tt, refl);
    constants = All-nil (λ (s : StaticFacts). IsConstantBelow 0 s.constant);
  };
  names_differ = own_names (classes_of (drawn squares [] [])) refl;
  classes = drawn_classes squares [] [];
  no_circle = drawn_without_circle squares [] [];
  arrays = All-from_recursion (IsArrayType (drawn squares [] [])) squares (
      (given squares [] []).0 ▸ (given squares [] []).1
      ▸ array_type (lit< tt) (missing squares [] [] (codes "Square") refl) refl ▸ tt
      );
  statics = All-nil (IsStaticOfProgram (drawn squares [] []));
  chars = All-nil AreChars;
  literals_differ = no_literals_differ;
}

-- with a static field whose constant is the second of two texts
abbrev texts : SetFacts
texts = drawn drawing_arrays (a_static ∷ []) two_texts

one_not_two : codes "one" ≢ codes "two"
one_not_two same =
    let no : ◌≡◌ {A = ℕ} 111 116 = ap (λ (text : List ℕ). slice_index_or text 0 0) same in absurd (omega arith)

pub texts_are_consistent : IsConsistent texts
texts_are_consistent = record {
  complete = record {
    chars = (0, lit< tt, refl);
    arguments = (6, lit< tt, refl);
    constants = All-from_recursion (λ (s : StaticFacts). IsConstantBelow 2 s.constant) (a_static ∷ []) (lit< tt ▸ tt);
  };
  names_differ = own_names (classes_of texts) refl;
  classes = drawn_classes drawing_arrays (a_static ∷ []) two_texts;
  no_circle = drawn_without_circle drawing_arrays (a_static ∷ []) two_texts;
  arrays = All-from_recursion (IsArrayType texts) drawing_arrays (
      (given drawing_arrays (a_static ∷ []) two_texts).0
      ▸ array_type (lit< tt) tt refl
      ▸ array_type (lit< tt) (lit< tt) refl
      ▸ array_type (lit< tt) (lit< tt) refl
      ▸ array_type (lit< tt) (lit< tt) refl
      ▸ array_type (lit< tt) (lit< tt) refl
      ▸ (given drawing_arrays (a_static ∷ []) two_texts).1
      ▸ array_type (lit< tt) tt refl
      ▸ array_type (lit< tt) (missing drawing_arrays (a_static ∷ []) two_texts (codes "Square") refl) refl
      ▸ array_type (lit< tt) (missing drawing_arrays (a_static ∷ []) two_texts (codes "Triangle") refl) refl
      ▸ array_type (lit< tt) (missing drawing_arrays (a_static ∷ []) two_texts (codes "Square") refl) refl ▸ tt
      );
  statics = All-from_recursion (IsStaticOfProgram texts) (a_static ∷ [])
      (record { class = lit< tt; name = (codes "text", refl); kind = tt; constant = refl; root = λ root. absurd (false≢true root) } ▸ tt);
  chars = All-from_recursion AreChars two_texts (
      All-from_recursion (λ c. c < 2 ^ 16) (codes "one") (lit< tt ▸ lit< tt ▸ lit< tt ▸ tt)
      ▸ All-from_recursion (λ c. c < 2 ^ 16) (codes "two") (lit< tt ▸ lit< tt ▸ lit< tt ▸ tt) ▸ tt
      );
  literals_differ = AllPairs-cons (λ (left right : List ℕ). left ≢ right) (codes "one") (codes "two" ∷ [])
      (All-from_recursion (λ (other : List ℕ). codes "one" ≢ other) (codes "two" ∷ []) (one_not_two ▸ tt))
      (AllPairs-cons (λ (left right : List ℕ). left ≢ right) (codes "two") []
      (All-nil (λ (other : List ℕ). codes "two" ≢ other)) no_literals_differ);
}

abbrev IsBox : Node → Type 0
IsBox n = AreOf (class_at boxes (class_named (classes_of boxes) n.shape.name)).shape.element
    (class_at boxes (class_named (classes_of boxes) n.shape.name)).shape.fields n.values

abbrev box : List Value → Node
box values = record { shape = record { name = codes "Box"; fields = box_fields; element = None }; values = values }

first_box : IsBox (box (int 5 ∷ Object 1 ∷ int 0 ∷ []))
first_box =
    record { form = tt; range = tt } ▸ record { form = tt; range = tt } ▸ record { form = tt; range = tt } ▸ tt

second_box : IsBox (box (int 6 ∷ Null ∷ int 0 ∷ []))
second_box =
    record { form = tt; range = tt } ▸ record { form = tt; range = tt } ▸ record { form = tt; range = tt } ▸ tt

pub boxes_are_typed : All IsBox two_boxes.nodes
boxes_are_typed =
    All-cons IsBox (box (int 5 ∷ Object 1 ∷ int 0 ∷ [])) (box (int 6 ∷ Null ∷ int 0 ∷ []) ∷ []) first_box
    (All-cons IsBox (box (int 6 ∷ Null ∷ int 0 ∷ [])) [] second_box (All-nil IsBox))
