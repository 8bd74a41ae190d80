-- Images over which a run of a class set could begin, opened for the same set again.
use Rattle.std.specs.Prelude.{◌≡◌, ◌<◌, ◌++◌, ℕ, List, [], length, map}
use Rattle.graph_model.specs.declared.types.Graph.{Graph}
use Rattle.line_image.specs.Told.{Told}
use Rattle.line_memory.specs.Memory.{IsTelling, Memory}
use Rattle.run_types.specs.declared.fault.Full.{Full}
use Rattle.run_types.specs.declared.fault.Which.{Which}
use Rattle.run_types.specs.declared.fault.Which.TheVariants.{DirectoryWords, Roots}
use Rattle.image_layout.specs.Places.{directory_words, root_slots}
use Rattle.image_meaning.specs.Checks.{Words}
use Rattle.image_meaning.specs.Directories.{Directory, spelled_all, with_all}
use Rattle.image_meaning.specs.Entries.{DirectoryEntry, RootEntry, ShapeEntry}
use Rattle.image_meaning.specs.Meaning.{StandsFor}
use Rattle.class_set.specs.Facts.{facts_of}
use Rattle.class_set.specs.Linked.{Linked}
use Rattle.class_set.specs.Sets.{made_of}
use Rattle.directories.specs.ClassSets.{AreEntriesOf}
use Rattle.directories.specs.Kept.{Kept}
use Rattle.directories.specs.Planning.{lacking}
use Rattle.image_recovery.specs.Recovered.{entries_in}
use Rattle.set_opening.specs.declared.unopened.Unopened.{Unopened}
use Rattle.set_opening.specs.declared.unopened.Unopened.TheVariants.{BadImage, ShapeChanged, Full as FullOf, ImageFailed, OutOfMemory}
use Rattle.set_opening.specs.Arrays.{with_arrays_of}
use Rattle.set_opening.specs.Attached.{AreRead}
use Rattle.set_opening.specs.Fitted.{IsFitted, IsOtherShape}
use Rattle.set_opening.specs.Found.{HasDirectory, IsFound}
use Rattle.set_opening.specs.Opened.{IsOpenedFor}
use Rattle.set_opening.specs.Unopened.{IsUnopened}

-- no word of the image, no shape and no want of room is why
abbrev pub IsNoRefusal : Unopened → Type 0
IsNoRefusal (BadImage line reason) = ⊥
IsNoRefusal (ShapeChanged name) = ⊥
IsNoRefusal (FullOf full) = ⊥
IsNoRefusal ImageFailed = Unit {0}
IsNoRefusal OutOfMemory = Unit {0}

-- The image tells what is done to it, and what reads of it give has this directory and stands for this graph.
pub record HoldsGraph (image : Told) (size : ℕ) (directory : Directory) (graph : Graph) : Type 0 where
  pub size_is : image.size ≡ size
  pub telling : IsTelling image.trace
  pub words : Words
  pub read : AreRead image words
  pub has : HasDirectory size words directory
  pub stands : StandsFor size words graph

-- The directory's entries take more words than an image has for them, or its roots more slots.
abbrev pub IsOverfull : Directory → Which → Type 0
IsOverfull directory DirectoryWords =
    directory_words < length (spelled_all (map ShapeEntry directory.shapes ++ map RootEntry directory.roots))
IsOverfull directory Roots = root_slots < length directory.roots
IsOverfull directory other = ⊥

-- It is too large with the entries of the set that it lacks, once its array types have numbers in the set.
pub record LacksRoom (set : Linked) (directory : Directory) (which : Which) : Type 0 where
  pub entries : List DirectoryEntry
  pub are_its : AreEntriesOf (facts_of (with_arrays_of set directory.shapes)) (made_of (with_arrays_of set directory.shapes)) entries
  pub too_large : IsOverfull (with_all directory (lacking directory entries)) which

-- An image was opened for a set. One of as many lines that has the directory of then, and any graph, isn't refused for the set. Where
-- it is opened for it, it has that very directory and that very graph, and each class of the set has the number of then.
pub record OpenedImagesOpenAgain : Type 0 where
  pub unrefused : (start : Told) (set numbered : Linked) (m : Memory) (directory : Kept) (lines : List ℕ) (graph : Graph) (free : ℕ)
      → IsOpenedFor start set numbered m directory lines graph free
      → (again after : Told) (stood : Graph) → HoldsGraph again start.size (entries_in directory) stood
      → (now : Linked) (why : Unopened) → IsUnopened again after set now why → IsNoRefusal why
  pub as_left : (start : Told) (set numbered : Linked) (m : Memory) (directory : Kept) (lines : List ℕ) (graph : Graph) (free : ℕ)
      → IsOpenedFor start set numbered m directory lines graph free
      → (again : Told) (stood : Graph) → HoldsGraph again start.size (entries_in directory) stood
      → (now : Linked) (n : Memory) (found : Kept) (places : List ℕ) (opening : Graph) (behind : ℕ)
      → IsOpenedFor again set now n found places opening behind
      → (entries_in found ≡ entries_in directory) × (opening ≡ stood) × (now ≡ numbered)
  -- Any image that stands for a graph and is refused for a shape has it in its directory: the first that doesn't agree with the set.
  pub refused : (set : Linked) (again after : Told) (size : ℕ) (directory : Directory) (stood : Graph)
      → HoldsGraph again size directory stood → (now : Linked) (name : List ℕ) → IsUnopened again after set now (ShapeChanged name)
      → IsOtherShape (facts_of set) directory.shapes name
  -- Any such that is refused for want of room has a directory that lacks it, of the same.
  pub full : (set : Linked) (again after : Told) (size : ℕ) (directory : Directory) (stood : Graph)
      → HoldsGraph again size directory stood → (now : Linked) (full : Full) → IsUnopened again after set now (FullOf full)
      → LacksRoom set directory full.which

-- The directory of an image lacks no room for a set, once its array types have numbers there, if it lacks none of the set's entries.
abbrev pub StoredDirectoriesLackNoRoom : Type 0
StoredDirectoriesLackNoRoom = (size : ℕ) (words : Words) (directory : Directory) → HasDirectory size words directory
    → (set : Linked) (entries : List DirectoryEntry)
    → AreEntriesOf (facts_of (with_arrays_of set directory.shapes)) (made_of (with_arrays_of set directory.shapes)) entries
    → lacking directory entries ≡ [] → (which : Which) → LacksRoom set directory which → ⊥

-- The directory of an image that was made ready for a set lacked no room for it.
abbrev pub ReadyDirectoriesHadRoom : Type 0
ReadyDirectoriesHadRoom = (start : Told) (before m : Memory) (found directory : Kept) (stood graph : Graph) (lines : List ℕ) (free : ℕ)
    → IsFound start before m found stood lines free → (old set : Linked) → IsFitted old set found directory stood graph
    → (which : Which) → LacksRoom old (entries_in found) which → ⊥
