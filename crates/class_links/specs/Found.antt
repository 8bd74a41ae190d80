-- What is known of classes by their names.
use Rattle.std.specs.Prelude.{◌≡◌, ℕ, List}
use Rattle.std.specs.Borrow.{Bor}
use Rattle.std.specs.Option.{option_to_list}
use Rattle.std.specs.Ordering.{nat_cmp}
use Rattle.std.specs.Cmp.Lexicographic.{slice_cmp}
use Rattle.std.specs.BTreeMap.{BTreeMap, get_by}
use Rattle.class_file.specs.declared.class.ClassFile.{ClassFile}
use Rattle.class_links.specs.declared.names.Flags.{Flags}
use Rattle.class_links.specs.declared.built_in.BuiltIn.{BuiltIn}
use Rattle.class_links.specs.Names.{NamedClass, file_from}

abbrev pub flags_of : NamedClass → Flags
flags_of k = record { is_interface = k.is_interface; is_final = k.is_final }

-- a row of the table of built-in classes
abbrev pub known_row : BuiltIn → NamedClass
known_row row = record { name = row.name.now; is_interface = row.flags.is_interface; is_final = row.flags.is_final }

-- each name of a class of the files has the number of the first file with such a class, and no other name has one
abbrev pub AreNumbers : List ClassFile → BTreeMap (Bor (List ℕ)) ℕ → Type 0
AreNumbers files numbers =
    (name : List ℕ) → option_to_list (get_by (λ k. slice_cmp nat_cmp name k.now) numbers) ≡ file_from 0 files name
