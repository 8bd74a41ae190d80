-- What a class set tells as plain data.
use Rattle.std.specs.Prelude.{ℕ, suc, ◌==◌, Bool, not, bit_and, List, [], ◌∷◌, ◌++◌, map, length, codes, Option, Some, None}
use Rattle.std.specs.Prelude.{if◌then◌else◌}
use Rattle.std.specs.Option.{option_map}
use Rattle.graph_model.specs.declared.types.Root.{Root}
use Rattle.const_pool.specs.declared.entry.Entry.{Entry}
use Rattle.const_pool.specs.declared.entry.Entry.TheVariants as entry
use Rattle.const_pool.specs.Pool.{Slots, entry_at}
use Rattle.class_file.specs.declared.field.Field.{Field as FileField}
use Rattle.class_file.specs.declared.class.ClassFile.{ClassFile}
use Rattle.plain_model.specs.Classes.{ClassFacts}
use Rattle.plain_model.specs.BuiltIn.{built_in_classes}
use Rattle.plain_model.specs.Facts.{Constant, IntConstant, LongConstant, LiteralConstant, StaticFacts, SetFacts}
use Rattle.class_links.specs.Names.{name_of, is_interface, is_final}
use Rattle.class_set.specs.Linked.{Linked}
use Rattle.class_set.specs.Members.{text_at, is_static_member, kind_of, layout_of_file, super_number, interface_numbers}
use Rattle.class_set.specs.ArrayTypes.{array_type}
use Rattle.class_set.specs.Literals.{literals_of, literal_place}

-- ---- classes

-- ACC_ABSTRACT (JVMS table 4.1-B)
abbrev pub is_abstract : ClassFile → Bool
is_abstract c = not (bit_and c.access 0x0400 == 0)

abbrev pub class_facts : List ClassFile → ClassFile → ClassFacts
class_facts files c = record {
  shape = record {
    name = name_of c;
    fields = layout_of_file files c;
    element = None;
  };
  superclass = super_number files c;
  interfaces = interface_numbers files c;
  is_interface = is_interface c;
  is_abstract = is_abstract c;
  is_final = is_final c;
}

-- ---- static fields

abbrev pub constant_in : List ClassFile → Slots → ℕ → Option Entry → Option Constant
constant_in files pool index (Some (entry.Integer i)) = Some (IntConstant i)
constant_in files pool index (Some (entry.Long i)) = Some (LongConstant i)
constant_in files pool index (Some (entry.String text)) =
    option_map (λ place. LiteralConstant place) (literal_place files pool index)
constant_in files pool index other = None

abbrev pub constant_of : List ClassFile → Slots → Option ℕ → Option Constant
constant_of files pool None = None
constant_of files pool (Some index) = constant_in files pool index (entry_at pool index)

abbrev pub static_facts : List ClassFile → ℕ → ClassFile → FileField → StaticFacts
static_facts files n c f = record {
  name = name_of c ++ codes "." ++ text_at c.pool f.name;
  class = n;
  kind = kind_of (text_at c.pool f.descriptor);
  constant = constant_of files c.pool f.constant;
  is_root = f.root;
}

abbrev pub statics_of_fields : List ClassFile → ℕ → ClassFile → List FileField → List StaticFacts
statics_of_fields files n c [] = []
statics_of_fields files n c (f ∷ fs) =
    if is_static_member f.access then static_facts files n c f ∷ statics_of_fields files n c fs
    else statics_of_fields files n c fs

-- those of the classes of these files, of which the first has this number
abbrev pub statics_from : List ClassFile → ℕ → List ClassFile → List StaticFacts
statics_from files n [] = []
statics_from files n (c ∷ cs) = statics_of_fields files n c c.fields ++ statics_from files (suc n) cs

-- ---- the set

-- the classes that aren't array types, by number
abbrev pub named_classes : List ClassFile → List ClassFacts
named_classes files = map (class_facts files) files ++ built_in_classes (length files)

abbrev pub facts_of : Linked → SetFacts
facts_of set = record {
  program = map (class_facts set.files) set.files;
  arrays = map (array_type set.files) set.arrays;
  statics = statics_from set.files 0 set.files;
  literals = literals_of set.files;
}

-- ---- durable roots

-- the static field of this number, where it is a durable root
abbrev pub root_of : ℕ → StaticFacts → List Root
root_of n s = if s.is_root then record { name = s.name; at = n } ∷ [] else []

-- those among these static fields, of which the first has this number, by their numbers
abbrev pub roots_from : ℕ → List StaticFacts → List Root
roots_from n [] = []
roots_from n (s ∷ ss) = root_of n s ++ roots_from (suc n) ss

-- the durable roots of a set, in the order of their numbers
abbrev pub roots_of : SetFacts → List Root
roots_of set = roots_from 1 set.statics
