-- Images without objects, and images of one array of ints (JVMS 2.3.1, 2.4) that one durable root refers to (Shull, Huang and Torrellas,
-- "AutoPersist", PLDI 2019). Of this project's own format.
use Rattle.std.specs.Prelude.{◌≡◌, ℕ, ◌+◌, ◌*◌, ◌^◌, ◌<◌, ◌≤◌, ℤ, pos, List, [], ◌∷◌, length, map, slice_index_or, Some}
use Rattle.std.specs.Int.{w32, cast_signed}
use Rattle.ap_base.specs.declared.kind.Kind.TheVariants.{I}
use Rattle.graph_model.specs.declared.types.Value.{Value}
use Rattle.graph_model.specs.declared.types.Value.TheVariants.{Int, Null, Obj as Object}
use Rattle.graph_model.specs.declared.types.Shape.{Shape}
use Rattle.graph_model.specs.declared.types.NamedValue.{NamedValue}
use Rattle.graph_model.specs.declared.types.Graph.{Graph}
use Rattle.image_layout.specs.Places.{magic, version, min_lines, max_lines, directory_words, root_slots, first_object_line}
use Rattle.image_layout.specs.Places.{lines_of, head_of}
use Rattle.image_meaning.specs.Checks.{Words}
use Rattle.image_meaning.specs.Entries.{DirectoryEntry, ShapeEntry, RootEntry, AreBytes}
use Rattle.image_meaning.specs.Directories.{no_entries, with_all, AreEntries, Spells}
use Rattle.image_meaning.specs.Logs.{NoneLogged}
use Rattle.image_meaning.specs.Objects.{object_slot}
use Rattle.image_meaning.specs.Meaning.{root_word, StandsFor}

-- The superblock is that of an image in use of so many lines, and no entry of a log counts.
pub record IsInUse (size : ℕ) (words : Words) : Type 0 where
  pub enough : min_lines ≤ size
  pub most : size ≤ max_lines
  pub magic : words 0 0 ≡ magic
  pub version : words 0 1 ≡ version
  pub lines : words 0 2 ≡ size
  pub directory : words 0 3 ≤ directory_words
  pub logs : NoneLogged words

-- ---- no objects

abbrev pub null_root : List ℕ → NamedValue
null_root name = record { name = name; value = Null }

-- roots of these names, all null
abbrev pub null_graph : List (List ℕ) → Graph
null_graph names = record { roots = map null_root names; nodes = [] }

-- Where all root slots are 0, the image stands for its roots, all null.
abbrev pub NullRootsStand : Type 0
NullRootsStand = (size : ℕ) (words : Words) (entries : List DirectoryEntry)
    → IsInUse size words → AreEntries no_entries entries → Spells words entries
    → ((r : ℕ) → r < root_slots → root_word words r ≡ 0)
    → StandsFor size words (null_graph (with_all no_entries entries).roots)

-- ---- one array

-- arrays of ints, whose descriptor is [I
abbrev pub int_array : Shape
int_array = record { name = 91 ∷ 73 ∷ []; fields = []; element = Some I }

abbrev pub array_entries : List ℕ → List DirectoryEntry
array_entries name = ShapeEntry int_array ∷ RootEntry name ∷ []

-- that shape, and a root of any name
pub record ArrayEntriesMayStand : Type 0 where
  pub shape : AreEntries no_entries (ShapeEntry int_array ∷ [])
  pub root : (name : List ℕ) → AreBytes name → AreEntries no_entries (array_entries name)

abbrev pub int_value : ℤ → Value
int_value i = Int i

-- An object of shape 0 with these ints begins at the line, in an image of so many lines.
pub record IsIntArray (size : ℕ) (words : Words) (line : ℕ) (ints : List ℤ) : Type 0 where
  pub low : first_object_line ≤ line
  pub high : line + lines_of (length ints) ≤ size
  pub head : words line 0 ≡ head_of 0 (length ints)
  pub word : (i : ℕ) → i < length ints → object_slot words line i < 2 ^ 32
  pub int : (i : ℕ) → i < length ints → slice_index_or ints i (pos 0) ≡ cast_signed w32 (object_slot words line i)

abbrev pub array_graph : List ℕ → List ℤ → Graph
array_graph name ints = record {
  roots = record { name = name; value = Object 0 } ∷ [];
  nodes = record { shape = int_array; values = map int_value ints } ∷ [];
}

-- Where the root refers to an array of ints, the image stands for the root and the array's elements.
abbrev pub OneArrayStands : Type 0
OneArrayStands = (size : ℕ) (words : Words) (name : List ℕ) (line : ℕ) (ints : List ℤ)
    → IsInUse size words → AreBytes name → Spells words (array_entries name)
    → root_word words 0 ≡ 2 * line → ((r : ℕ) → 0 < r → r < root_slots → root_word words r ≡ 0)
    → IsIntArray size words line ints
    → StandsFor size words (array_graph name ints)
