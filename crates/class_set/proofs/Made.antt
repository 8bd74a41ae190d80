-- The names of a class set that was made from files.
use Rattle.std.proofs.Common.{◌≡◌, ℕ, ◌+◌, true, List, ◌++◌, drop, length, ap, sym, ◌∙◌, subst}
use Rattle.std.specs.Prelude.{All}
use Rattle.class_file.specs.declared.class.ClassFile.{ClassFile}
use Rattle.text_table.specs.Texts.{with_texts}
use Rattle.class_set.specs.declared.arrays.Listed.TheVariants.{Needed}
use Rattle.class_set.specs.Linked.{class_names, names_of}
use Rattle.class_set.specs.ArrayTypes.{is_array_type, linked_from, listed_arrays}
use Rattle.class_set.specs.Tables.{IsSmall, linked_of}
use Rattle.class_set.proofs.Above.{arrays_behind}
use Rattle.class_set.proofs.Differ.{arrays_new, listed_are_arrays}
use Rattle.class_set.proofs.Numbers.{with_texts-new}

abbrev pub AreLinked : List ClassFile → List (List ℕ) → Type 0
AreLinked files names = names ≡ class_names files ++ listed_arrays Needed files

pub names_linked : (files : List ClassFile) (names : List (List ℕ)) → All IsSmall files
    → names ≡ with_texts (class_names files) (listed_arrays Needed files) → AreLinked files names
names_linked files names small e = e ∙ with_texts-new (class_names files) (listed_arrays Needed files) (arrays_new files small)

pub names_named : (files : List ClassFile) (names : List (List ℕ)) → AreLinked files names → names ≡ names_of (linked_of files names)
names_named files names e = e ∙ ap (λ ds. class_names files ++ ds) (sym (arrays_behind files names (listed_arrays Needed files) e))

pub linked_same : (files : List ClassFile) (names : List (List ℕ)) → AreLinked files names → linked_of files names ≡ linked_from files
linked_same files names e = ap (λ ds. record { files = files; arrays = ds }) (arrays_behind files names (listed_arrays Needed files) e)

pub types_behind : (files : List ClassFile) (names : List (List ℕ)) (n : ℕ) → AreLinked files names → n ≡ length files + 28
    → All (λ text. is_array_type text ≡ true) (drop n names)
types_behind files names n e count =
    subst (λ ts. All (λ text. is_array_type text ≡ true) ts)
    (sym (ap (λ m. drop m names) count ∙ arrays_behind files names (listed_arrays Needed files) e)) (listed_are_arrays Needed files)
