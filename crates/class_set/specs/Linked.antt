-- A class set: the class files that were linked, in the order in which they were read, and its array types by their descriptors
-- (JVMS 4.3.2, 4.4.1). Classes are numbered from 0: those of the files, the built-in ones by their names' bytes, the array types that the
-- files need by their descriptors' bytes, and others behind them.
use Rattle.std.specs.Prelude.{ℕ, ◌+◌, ◌-◌, nat_lt, List, [], ◌∷◌, ◌++◌, map, length, slice_get, Option, Some, None}
use Rattle.std.specs.Prelude.{if◌then◌else◌}
use Rattle.std.specs.Option.{is_some}
use Rattle.class_file.specs.declared.class.ClassFile.{ClassFile}
use Rattle.plain_model.specs.BuiltIn.{built_in_count}
use Rattle.built_in_table.specs.Members.{built_in_names}
use Rattle.class_links.specs.Names.{name_of}
use Rattle.text_table.specs.Texts.{place_of}

pub record Linked : Type 0 where
  pub files : List ClassFile
  pub arrays : List (List ℕ)

-- ---- numbers

-- the names of the classes that aren't array types, by number
abbrev pub class_names : List ClassFile → List (List ℕ)
class_names files = map name_of files ++ built_in_names

-- all names by number; an array type's is its descriptor
abbrev pub names_of : Linked → List (List ℕ)
names_of set = class_names set.files ++ set.arrays

abbrev pub class_named : Linked → List ℕ → Option ℕ
class_named set name = place_of (names_of set) name

-- how many classes there are that aren't array types
abbrev pub class_count : Linked → ℕ
class_count set = length set.files + built_in_count

-- the set with one array type more, where it has no number yet
abbrev pub with_array : Linked → List ℕ → Linked
with_array set text =
    if is_some (class_named set text) then set else record { files = set.files; arrays = set.arrays ++ text ∷ [] }

-- what a class is, by its number: that of a file, a built-in one by its place, an array type by its descriptor, or none
pub data Sort : Type 0 where
  OfFile : ClassFile → Sort
  BuiltIn : ℕ → Sort
  OfArray : List ℕ → Sort
  NoClass : Sort

abbrev pub array_or_none : Option (List ℕ) → Sort
array_or_none None = NoClass
array_or_none (Some descriptor) = OfArray descriptor

abbrev pub behind_files : Linked → ℕ → Sort
behind_files set n =
    if nat_lt n built_in_count then BuiltIn n else array_or_none (slice_get set.arrays (n - built_in_count))

abbrev pub sort_of : Linked → ℕ → Sort
sort_of set n = elim (slice_get set.files n) [ None ↦ behind_files set (n - length set.files) | Some file ↦ OfFile file ]
