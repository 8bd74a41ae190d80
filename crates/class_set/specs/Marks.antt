-- Which texts of a pool were taken already: a flag for each index.
use Rattle.std.specs.Prelude.{ℕ, ◌≡◌, slice_index_or, Bool, true, false, List, [], ◌∷◌, Option, Some, None}
use Rattle.std.specs.Option.{is_some}
use Rattle.const_pool.specs.Pool.{Slots, utf8_at}
use Rattle.text_table.specs.Texts.{place_of}
use Rattle.class_set.specs.declared.arrays.Listed.{Listed}
use Rattle.class_set.specs.declared.arrays.Marks.{Marks}
use Rattle.class_set.specs.Members.{text_at}
use Rattle.class_set.specs.ArrayTypes.{array_of, descriptor_of_class, named, with_arrays}

-- ---- the names of classes

-- the text at an index of a pool, where there is one
abbrev pub spelled : Slots → Option ℕ → List ℕ
spelled pool None = []
spelled pool (Some index) = text_at pool index

-- the array of a class
abbrev pub array_of_class : List ℕ → List (List ℕ)
array_of_class name = array_of (descriptor_of_class name) ∷ []

-- what the classes need whose names stand at the marked indices is listed
abbrev pub AreListed : (List ℕ → List (List ℕ)) → Slots → (arrays : List (List ℕ)) → (marks : List Bool) → Type 0
AreListed needs pool arrays marks =
    (index : ℕ) → slice_index_or marks index false ≡ true → arrays ≡ with_arrays arrays (needs (spelled pool (Some index)))

abbrev pub AreMarked : Listed → Slots → (arrays : List (List ℕ)) → Marks → Type 0
AreMarked what pool arrays marks =
    AreListed array_of_class pool arrays marks.elements.items × AreListed (named what) pool arrays marks.classes.items

-- ---- the texts of literals

-- the text at an index, where there is one
abbrev pub text_at_some : Slots → Option ℕ → Option (List ℕ)
text_at_some pool None = None
text_at_some pool (Some index) = utf8_at pool index

-- the texts at the marked indices are among these
abbrev pub AreAdded : Slots → (texts : List (List ℕ)) → (marks : List Bool) → Type 0
AreAdded pool texts marks =
    (index : ℕ) → slice_index_or marks index false ≡ true → (text : List ℕ) → utf8_at pool index ≡ Some text
    → is_some (place_of texts text) ≡ true
