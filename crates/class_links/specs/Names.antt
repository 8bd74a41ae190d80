-- What linking looks at in a class: its name, the names of its superclass and its superinterfaces, and two of its flags (JVMS 4.1).
use Rattle.std.specs.Prelude.{ℕ, ◌+◌, ◌==◌, not, bit_and, Bool, List, [], ◌∷◌, ◌++◌, map, Option, Some, None, if◌then◌else◌}
use Rattle.std.specs.List.{list_any, flat_map}
use Rattle.std.specs.Str.{bytes_eq}
use Rattle.const_pool.specs.Pool.{Slots, class_name_at}
use Rattle.class_file.specs.declared.class.ClassFile.{ClassFile}
use Rattle.plain_model.specs.Classes.{ClassFacts}
use Rattle.plain_model.specs.BuiltIn.{built_in_classes}

-- the name of the class at an index of a pool
abbrev pub class_name : Slots → ℕ → List ℕ
class_name pool index = elim (class_name_at pool index) [ None ↦ [] | Some name ↦ name ]

abbrev pub name_of : ClassFile → List ℕ
name_of c = class_name c.pool c.this_class

abbrev pub super_of : ClassFile → List ℕ
super_of c = class_name c.pool c.super_class

abbrev pub interfaces_of : ClassFile → List (List ℕ)
interfaces_of c = map (class_name c.pool) c.interfaces

-- the superclass, and then the superinterfaces
abbrev pub supers_of : ClassFile → List (List ℕ)
supers_of c = super_of c ∷ interfaces_of c

-- ACC_FINAL and ACC_INTERFACE (JVMS table 4.1-B)
abbrev pub is_final : ClassFile → Bool
is_final c = not (bit_and c.access 0x0010 == 0)

abbrev pub is_interface : ClassFile → Bool
is_interface c = not (bit_and c.access 0x0200 == 0)

-- ---- the classes of a set by name

-- a class that others may name as a super: one of a file, or a built-in one
pub record NamedClass : Type 0 where
  pub name : List ℕ
  pub is_interface : Bool
  pub is_final : Bool

abbrev pub known_of : ClassFile → NamedClass
known_of c = record { name = name_of c; is_interface = is_interface c; is_final = is_final c }

abbrev pub has_name : List (List ℕ) → List ℕ → Bool
has_name names name = list_any (λ n. bytes_eq n name) names

abbrev pub known_built_in : ClassFacts → NamedClass
known_built_in c = record { name = c.shape.name; is_interface = c.is_interface; is_final = c.is_final }

unfoldable pub built_in : List NamedClass
built_in = map known_built_in (built_in_classes 0)

-- the classes of the files, and the built-in ones
abbrev pub known_classes : List ClassFile → List NamedClass
known_classes files = map known_of files ++ built_in

-- the first of these classes with this name
abbrev pub find_known : List NamedClass → List ℕ → Option NamedClass
find_known [] name = None
find_known (k ∷ ks) name = if bytes_eq k.name name then Some k else find_known ks name

-- ---- the files by number

-- the first file that has a class of this name, from file n on
abbrev pub file_from : ℕ → List ClassFile → List ℕ → List ℕ
file_from n [] name = []
file_from n (c ∷ cs) name = if bytes_eq (name_of c) name then n ∷ [] else file_from (n + 1) cs name

-- the superinterfaces in order, and then the superclass: in this order a field is looked for in them (JVMS 5.4.3.2)
abbrev pub looked_through : ClassFile → List (List ℕ)
looked_through c = interfaces_of c ++ super_of c ∷ []

-- the files with the superinterfaces and the superclass of a class, in that order; a built-in class has none
abbrev pub super_files : List ClassFile → ClassFile → List ℕ
super_files files c = flat_map (file_from 0 files) (looked_through c)
