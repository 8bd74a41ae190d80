-- How members are found (JVMS 5.4.3.2, 5.4.3.3; of methods those of superclasses alone).
use Rattle.std.specs.Prelude.{ℕ, ◌+◌, Bool, ◌&&◌, List, [], ◌∷◌, ◌++◌, length, map, filter, take, slice_get, Option, Some, None}
use Rattle.std.specs.Prelude.{if◌then◌else◌}
use Rattle.std.specs.Str.{bytes_eq}
use Rattle.run_types.specs.declared.resolved.FieldAt.{FieldAt}
use Rattle.run_types.specs.declared.resolved.MethodAt.{MethodAt}
use Rattle.class_file.specs.declared.class.ClassFile.{ClassFile}
use Rattle.graph_walks.specs.Order.{walk}
use Rattle.plain_model.specs.Classes.{ClassFacts}
use Rattle.plain_model.specs.Facts.{superclasses_of}
use Rattle.plain_model.specs.Consistent.{super_list}
use Rattle.class_set.specs.Linked.{Linked}
use Rattle.built_in_table.specs.Members.{MemberFacts}
use Rattle.class_set.specs.Members.{own_fields, own_methods, kind_of, is_of_instance, count_statics, first_static, layout_above}
use Rattle.class_set.specs.Members.{super_number}
use Rattle.class_set.specs.Facts.{facts_of, named_classes}

abbrev pub is_named : List ℕ → List ℕ → MemberFacts → Bool
is_named name descriptor m = bytes_eq m.name name && bytes_eq m.descriptor descriptor

-- the place and the first of these members with this name and descriptor, of which the first stands at place n
abbrev pub member_from : ℕ → List MemberFacts → List ℕ → List ℕ → Option (ℕ × MemberFacts)
member_from n [] name descriptor = None
member_from n (m ∷ ms) name descriptor =
    if is_named name descriptor m then Some (n, m) else member_from (n + 1) ms name descriptor

abbrev pub find_member : List MemberFacts → List ℕ → List ℕ → Option (ℕ × MemberFacts)
find_member members name descriptor = member_from 0 members name descriptor

-- the first answer of these
abbrev pub first_some : {A B : Type 0} → (A → Option B) → List A → Option B
first_some f [] = None
first_some f (x ∷ xs) = elim (f x) [ None ↦ first_some f xs | Some y ↦ Some y ]

-- ---- fields

-- The first slot of the fields that a class declares: those of the classes above it come before. A built-in class that declares a field has
-- none above it.
abbrev pub first_own_slot : List ClassFile → ℕ → ℕ
first_own_slot files n = elim (slice_get files n) [ None ↦ 0 | Some c ↦ length (layout_above files (super_number files c)) ]

-- The number of the first static field of a class. `java/lang/System.out` has number 0.
abbrev pub first_own_static : List ClassFile → ℕ → ℕ
first_own_static files n = elim (slice_get files n) [ None ↦ 0 | Some c ↦ first_static files n ]

-- the slot of an instance field or the number of a static one, of the class that declares it at this place
abbrev pub slot_for : List ClassFile → (class place : ℕ) → (is_static : Bool) → ℕ
slot_for files class place is_static =
    if is_static then first_own_static files class + count_statics (take place (own_fields files class))
    else first_own_slot files class + length (filter is_of_instance (take place (own_fields files class)))

abbrev pub field_at : List ClassFile → ℕ → Option (ℕ × MemberFacts) → Option FieldAt
field_at files class None = None
field_at files class (Some found) = Some (record {
  class = class;
  is_static = found.1.is_static;
  at = slot_for files class found.0 found.1.is_static;
  kind = kind_of found.1.descriptor;
})

abbrev pub own_field : List ClassFile → List ℕ → List ℕ → ℕ → Option FieldAt
own_field files name descriptor class = field_at files class (find_member (own_fields files class) name descriptor)

-- the superinterfaces, in order, and then the superclass
abbrev pub supers_in_order : ClassFacts → List ℕ
supers_in_order c = c.interfaces ++ super_list c.superclass

-- from each class that isn't an array type to these
abbrev pub class_edges : List ClassFile → List (List ℕ)
class_edges files = map supers_in_order (named_classes files)

-- In the class, then in its superinterfaces in order, depth first, then in the superclass likewise. No class above an array type has a field.
abbrev pub find_field : Linked → ℕ → List ℕ → List ℕ → Option FieldAt
find_field set class name descriptor = first_some (own_field set.files name descriptor) (walk (class_edges set.files) class)

-- ---- methods

abbrev pub method_at : ℕ → Option (ℕ × MemberFacts) → Option MethodAt
method_at class None = None
method_at class (Some found) = Some (record { class = class; method = found.0; is_static = found.1.is_static })

abbrev pub own_method : Linked → List ℕ → List ℕ → ℕ → Option MethodAt
own_method set name descriptor class = method_at class (find_member (own_methods set class) name descriptor)

-- in the class, and up its superclasses
abbrev pub find_method : Linked → ℕ → List ℕ → List ℕ → Option MethodAt
find_method set class name descriptor = first_some (own_method set name descriptor) (superclasses_of (facts_of set) class)
