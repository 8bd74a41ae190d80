-- The class files of a class set. Those that define the runtime's own class or one of its annotations are left aside.
use Rattle.std.specs.Prelude.{ℕ, not, ◌||◌, Bool, List, codes, filter}
use Rattle.std.specs.Str.{bytes_eq}
use Rattle.class_file.specs.declared.class.ClassFile.{ClassFile}
use Rattle.class_links.specs.Names.{name_of}

-- a name that the runtime has for a class or an annotation of its own
abbrev pub is_own : List ℕ → Bool
is_own name =
    bytes_eq name (codes "autopersist/DurableRoot") || (bytes_eq name (codes "autopersist/Region")
    || bytes_eq name (codes "autopersist/Unrecoverable"))

abbrev pub is_kept : ClassFile → Bool
is_kept c = not (is_own (name_of c))

abbrev pub kept_files : List ClassFile → List ClassFile
kept_files files = filter is_kept files
