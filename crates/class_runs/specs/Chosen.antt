-- What is to run of the classes that are given, or of a source's files.
use Rattle.std.specs.Prelude.{◌≡◌, ◌⊎◌, ℕ, List, Result, Ok, Err}
use Rattle.ap_base.specs.declared.source.NamedBytes.{NamedBytes}
use Rattle.class_file.specs.declared.class.ClassFile.{ClassFile}
use Rattle.class_links.specs.declared.refusal.LinkRefusal.{LinkRefusal}
use Rattle.class_links.specs.Kept.{kept_files}
use Rattle.class_links.specs.Links.{Links}
use Rattle.class_set.specs.Linked.{Linked}
use Rattle.class_set.specs.ArrayTypes.{linked_from}
use Rattle.source_classes.specs.Files.{classes_among}
use Rattle.source_classes.specs.Names.{slashed}
use Rattle.source_classes.specs.Reading.{IsRefused}
use Rattle.statuses.specs.declared.status.Status.{Status}
use Rattle.statuses.specs.declared.status.Status.TheVariants as status

-- what is to run: a class set, and the name of its main class
pub record Choice : Type 0 where
  pub set : Linked
  pub main : List ℕ

abbrev pub chosen : List ℕ → Linked → Choice
chosen name set = record { set = set; main = name }

-- What these classes give: what is to run where the main class has this name, where they link; otherwise why they don't.
abbrev pub ClassesGive : List ℕ → List ClassFile → Result Choice Status → Type 0
ClassesGive name classes answer =
    (Links classes × (Ok (chosen (slashed name) (linked_from classes)) ≡ answer))
    ⊎ ((refusal : LinkRefusal) × IsRefused classes refusal × (Err (status.LinkRefused refusal) ≡ answer))

abbrev pub GivenBy : List ℕ → Result (List ClassFile) Status → Result Choice Status → Type 0
GivenBy name (Ok classes) answer = ClassesGive name (kept_files classes) answer
GivenBy name (Err s) answer = Err s ≡ answer

-- What these files give: why they are refused, or what their classes give, but for those that are left aside.
abbrev pub FilesGive : List ℕ → List NamedBytes → Result Choice Status → Type 0
FilesGive name files answer = GivenBy name (classes_among files) answer
