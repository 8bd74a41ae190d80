-- The class set of a source's class files.
use Rattle.std.specs.Prelude.{◌≡◌, List, Option, Result, Ok, Err}
use Rattle.ap_base.specs.declared.source.NamedBytes.{NamedBytes}
use Rattle.class_file.specs.declared.class.ClassFile.{ClassFile}
use Rattle.class_links.specs.declared.refusal.LinkRefusal.{LinkRefusal}
use Rattle.class_links.specs.Kept.{kept_files}
use Rattle.class_links.specs.Links.{Links}
use Rattle.class_set.specs.Linked.{Linked}
use Rattle.class_set.specs.ArrayTypes.{linked_from}
use Rattle.source_classes.specs.Files.{classes_among}
use Rattle.source_classes.specs.Reading.{HadLeft, IsRefused}
use Rattle.statuses.specs.declared.status.Status.{Status}
use Rattle.statuses.specs.declared.status.Status.TheVariants as status

-- These classes link to this class set; or this is the first condition of linking that they break.
abbrev pub LinkTo : List ClassFile → Result Linked Status → Type 0
LinkTo classes (Ok set) = Links classes × (set ≡ linked_from classes)
LinkTo classes (Err s) = (refusal : LinkRefusal) × IsRefused classes refusal × (s ≡ status.LinkRefused refusal)

-- So do the classes that were read, but for those that are left aside; or this is why none were.
abbrev pub ReadLinkTo : Result (List ClassFile) Status → Result Linked Status → Type 0
ReadLinkTo (Ok classes) answer = LinkTo (kept_files classes) answer
ReadLinkTo (Err s) answer = Err s ≡ answer

-- What these files link to: or why they are refused.
abbrev pub FilesLinkTo : List NamedBytes → Result Linked Status → Type 0
FilesLinkTo files answer = ReadLinkTo (classes_among files) answer

-- What the files link to that a source had left.
pub record SourceLinksTo (left : Option (List NamedBytes)) (answer : Result Linked Status) : Type 0 where
  pub files : List NamedBytes
  pub told : HadLeft left files
  pub is : FilesLinkTo files answer
