-- Rows of the JVMS: the bytes of small class files and the class files that they are, or the first fault.
use Rattle.std.specs.Prelude.{◌≡◌, ℕ, List, [], ◌∷◌, ◌++◌, map, false, codes, Some, None, Result, Ok, Err}
use Rattle.const_pool.specs.declared.entry.Entry.TheVariants as entry
use Rattle.const_pool.specs.Pool.{Slots}
use Rattle.class_file.specs.declared.class.ClassFile.{ClassFile}
use Rattle.class_file.specs.declared.field.Field.{Field}
use Rattle.class_file.specs.declared.method.Method.{Method}
use Rattle.class_file.specs.declared.refusal.ClassRefusal.{ClassRefusal}
use Rattle.class_file.specs.declared.refusal.ClassRefusal.TheVariants.{BadMagic, BadVersion, BadIndex, BadDescriptor}
use Rattle.class_file.specs.declared.refusal.ClassRefusal.TheVariants.{BadAttribute, TrailingBytes}
use Rattle.class_file.specs.Classes.{class_in}

abbrev pub AreAnswers : List (List ℕ × Result ClassFile ClassRefusal) → Type 0
AreAnswers rows = map (λ row. class_in row.0) rows ≡ map (λ row. row.1) rows

-- ---- a class A that extends a class, with nothing in it

-- the magic and a version, given the first byte and the version's two numbers
abbrev pub head : (first minor major : ℕ) → List ℕ
head first minor major = first ∷ 254 ∷ 186 ∷ 190 ∷ 0 ∷ minor ∷ 0 ∷ major ∷ []

-- a pool with a class of this name of one byte at 2, and java/lang/Object at 4
abbrev pub pool_of : ℕ → List ℕ
pool_of name =
    0 ∷ 5 ∷ 1 ∷ 0 ∷ 1 ∷ name ∷ 7 ∷ 0 ∷ 1 ∷ 1 ∷ 0 ∷ 16 ∷ codes "java/lang/Object" ++ 7 ∷ 0 ∷ 3 ∷ []

-- what stands behind it, given the index of the superclass
abbrev pub behind : ℕ → List ℕ
behind super = 0 ∷ 33 ∷ 0 ∷ 2 ∷ 0 ∷ super ∷ 0 ∷ 0 ∷ 0 ∷ 0 ∷ 0 ∷ 0 ∷ 0 ∷ 0 ∷ []

abbrev pub class_a_bytes : List ℕ
class_a_bytes = head 202 0 52 ++ pool_of 65 ++ behind 4

abbrev pub class_a : ClassFile
class_a = record {
  pool =
      None ∷ Some (entry.Utf8 (codes "A")) ∷ Some (entry.Class 1) ∷ Some (entry.Utf8 (codes "java/lang/Object"))
      ∷ Some (entry.Class 3) ∷ [];
  access = 33;
  this_class = 2;
  super_class = 4;
  interfaces = [];
  fields = [];
  methods = [];
  attributes = [];
}

-- ---- a class A that extends itself, with a field or a method

-- 1 is the name of the class at 2, 3 the descriptor of a method, and 4 that of a field
abbrev pub member_slots : Slots
member_slots =
    None ∷ Some (entry.Utf8 (codes "A")) ∷ Some (entry.Class 1) ∷ Some (entry.Utf8 (codes "()V"))
    ∷ Some (entry.Utf8 (codes "I")) ∷ []

-- The counts of the fields and of the methods, one and none or none and one, stand at 35 and 37. A field
-- begins at 37, a method at 39.
abbrev pub with_members : List ℕ → List ℕ
with_members members =
    head 202 0 52
    ++ 0 ∷ 5 ∷ 1 ∷ 0 ∷ 1 ∷ 65 ∷ 7 ∷ 0 ∷ 1 ∷ 1 ∷ 0 ∷ 3 ∷ codes "()V" ++ 1 ∷ 0 ∷ 1 ∷ 73
    ∷ 0 ∷ 33 ∷ 0 ∷ 2 ∷ 0 ∷ 2 ∷ 0 ∷ 0 ∷ members ++ 0 ∷ 0 ∷ []

-- a field, given its access flags and the index of its descriptor
abbrev pub with_field : (access descriptor : ℕ) → List ℕ
with_field access descriptor =
    with_members (0 ∷ 1 ∷ 0 ∷ access ∷ 0 ∷ 1 ∷ 0 ∷ descriptor ∷ 0 ∷ 0 ∷ 0 ∷ 0 ∷ [])

-- a method, given the high byte of its access flags and the index of its descriptor
abbrev pub with_method : (access descriptor : ℕ) → List ℕ
with_method access descriptor =
    with_members (0 ∷ 0 ∷ 0 ∷ 1 ∷ access ∷ 1 ∷ 0 ∷ 1 ∷ 0 ∷ descriptor ∷ 0 ∷ 0 ∷ [])

abbrev pub class_with : List Field → List Method → ClassFile
class_with fields methods = record {
  pool = member_slots;
  access = 33;
  this_class = 2;
  super_class = 2;
  interfaces = [];
  fields = fields;
  methods = methods;
  attributes = [];
}

abbrev pub int_field : Field
int_field = record {
  access = 8;
  name = 1;
  descriptor = 4;
  attributes = [];
  constant = None;
  root = false;
  unrecoverable = false;
}

abbrev pub abstract_method : Method
abstract_method = record { access = 1025; name = 1; descriptor = 3; attributes = [] }

-- ---- the rows

abbrev pub classes : List (List ℕ × Result ClassFile ClassRefusal)
classes =
    (class_a_bytes, Ok class_a)
    ∷ (with_field 8 4, Ok (class_with (int_field ∷ []) []))
    ∷ (with_method 4 3, Ok (class_with [] (abstract_method ∷ [])))
    ∷ []

-- A byte more than a class; another magic, and other versions; a name with a dot; no superclass; a field with
-- the descriptor of a method, a method with that of a field, and one that needs a Code and has none.
abbrev pub no_classes : List (List ℕ × Result ClassFile ClassRefusal)
no_classes =
    (class_a_bytes ++ 0 ∷ [], Err (TrailingBytes 53))
    ∷ (head 203 0 52 ++ pool_of 65 ++ behind 4, Err BadMagic)
    ∷ (head 202 0 53 ++ pool_of 65 ++ behind 4, Err (BadVersion 53 0))
    ∷ (head 202 1 52 ++ pool_of 65 ++ behind 4, Err (BadVersion 52 1))
    ∷ (head 202 0 52 ++ pool_of 46 ++ behind 4, Err (BadIndex 41 2))
    ∷ (head 202 0 52 ++ pool_of 65 ++ behind 0, Err (BadIndex 43 0))
    ∷ (with_field 8 3, Err (BadDescriptor 3))
    ∷ (with_method 4 4, Err (BadDescriptor 4))
    ∷ (with_method 0 3, Err (BadAttribute 39))
    ∷ []
