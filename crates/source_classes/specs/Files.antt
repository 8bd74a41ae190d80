-- The classes of a source's files, or the first file that is refused.
use Rattle.std.specs.Prelude.{ℕ, nat_lt, List, [], ◌∷◌, length, take, Result, Ok, Err, if◌then◌else◌}
use Rattle.ap_base.specs.declared.source.NamedBytes.{NamedBytes}
use Rattle.run_types.specs.declared.fault.Which.TheVariants.{Files, FileBytes}
use Rattle.class_file.specs.declared.class.ClassFile.{ClassFile}
use Rattle.class_file.specs.declared.refusal.ClassRefusal.{ClassRefusal}
use Rattle.class_file.specs.Classes.{class_in}
use Rattle.parsing.specs.Results.{◌>>=◌}
use Rattle.statuses.specs.declared.status.Status.{Status}
use Rattle.statuses.specs.declared.status.Status.TheVariants as status

-- a source has at most so many files, and a file at most so many bytes
abbrev pub most_files : ℕ
most_files = 4096

abbrev pub most_bytes : ℕ
most_bytes = 1048576

abbrev pub or_bad_class : List ℕ → Result ClassFile ClassRefusal → Result ClassFile Status
or_bad_class name (Ok class) = Ok class
or_bad_class name (Err refusal) = Err (status.BadClass name refusal)

-- the class of a file, or why the file is refused
unfoldable pub class_of : NamedBytes → Result ClassFile Status
class_of file =
    if nat_lt most_bytes file.size
    then Err (status.Full (record { which = FileBytes; need = file.size; left = most_bytes }))
    else or_bad_class file.name (class_in file.bytes)

-- the classes of these files, or the refusal of the first one that is refused
abbrev pub classes_in : List NamedBytes → Result (List ClassFile) Status
classes_in [] = Ok []
classes_in (file ∷ files) = do
  class ← class_of file
  classes ← classes_in files
  Ok (class ∷ classes)

-- the classes, unless there are more files than a source may have
abbrev pub unless_more : List NamedBytes → List ClassFile → Result (List ClassFile) Status
unless_more files classes =
    if nat_lt most_files (length files) then Err (status.Full (record { which = Files; need = 1; left = 0 }))
    else Ok classes

-- The classes of all files; or why they are refused: the first that is, of as many as a source may have, or else
-- that there are more.
unfoldable pub classes_among : List NamedBytes → Result (List ClassFile) Status
classes_among files = classes_in (take most_files files) >>= unless_more files
