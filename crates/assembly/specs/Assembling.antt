-- What comes of a listing of which a class is asked for. The listings are of this project's own format; a class file is that of
-- JVMS 4.1.
use Rattle.std.specs.Prelude.{◌≡◌, ◌⊎◌, ◌<◌, ℕ, nat_lt, List, [], ◌∷◌, length, take, Option, Some, None, Result, Ok, Err, if◌then◌else◌}
use Rattle.std.specs.Str.{bytes_eq}
use Rattle.ap_base.specs.Sinks.{with_bytes}
use Rattle.ap_base.specs.Sources.{Gives}
use Rattle.ap_base.specs.declared.source.NamedBytes.{NamedBytes}
use Rattle.class_file.specs.Classes.{class_bytes}
use Rattle.class_file.specs.declared.class.ClassFile.{ClassFile}
use Rattle.class_links.specs.Names.{name_of}
use Rattle.source_classes.specs.Files.{most_bytes}
use Rattle.source_classes.specs.Names.{slashed}
use Rattle.listing.specs.Classes.{assembled}
use Rattle.listing.specs.declared.error.ListingError.{ListingError}
use Rattle.listing.specs.declared.error.ListingError.TheVariants as listing
use Rattle.listing_lines.specs.declared.refusal.ListingFault.TheVariants.{NoClass}
use Rattle.run_types.specs.declared.fault.Which.TheVariants.{FileBytes}
use Rattle.statuses.specs.declared.status.Status.{Status}
use Rattle.statuses.specs.declared.status.Status.TheVariants as status

-- the first of these classes that has this name
abbrev pub named_class : List ℕ → List ClassFile → Option ClassFile
named_class name [] = None
named_class name (class ∷ classes) = if bytes_eq (name_of class) name then Some class else named_class name classes

-- its bytes, or that the listing has no such class
abbrev pub bytes_of : Option ClassFile → Result (List ℕ) Status
bytes_of None = Err (status.BadListing 0 NoClass)
bytes_of (Some class) = Ok (class_bytes class)

-- the status of a text that is no listing
abbrev pub status_of : ListingError → Status
status_of (listing.Fault line kind) = status.BadListing line kind
status_of listing.OutOfMemory = status.OutOfMemory

abbrev pub class_among : List ℕ → Result (List ClassFile) ListingError → Result (List ℕ) Status
class_among name (Ok classes) = bytes_of (named_class (slashed name) classes)
class_among name (Err error) = Err (status_of error)

-- The bytes of the class of this name of a listing, or why there are none. A dot in the name counts as a slash.
unfoldable pub class_in : (name text : List ℕ) → Result (List ℕ) Status
class_in name text = class_among name (assembled text)

-- The text of a file is a listing's, where it isn't too long. No file is an empty listing.
abbrev pub class_of : (name : List ℕ) → Option NamedBytes → Result (List ℕ) Status
class_of name None = class_in name []
class_of name (Some file) =
    if nat_lt most_bytes file.size
    then Err (status.Full (record { which = FileBytes; need = file.size; left = most_bytes }))
    else class_in name file.bytes

-- the answers of a listing of which no class is put
abbrev pub IsOfListing : Status → Type 0
IsOfListing (status.BadListing line kind) = Unit {0}
IsOfListing (status.Full full) = Unit {0}
IsOfListing status.OutOfMemory = Unit {0}
IsOfListing other = ⊥

-- and all that there can be
abbrev pub IsOfAssembly : Status → Type 0
IsOfAssembly how = (how ≡ status.Ok) ⊎ (how ≡ status.SourceFault) ⊎ (how ≡ status.SinkFault) ⊎ IsOfListing how

-- ---- what is put

-- These bytes were put, all of them; or, where the sink failed, the front. Without bytes the answer says why. Memory may run out before
-- any is put.
abbrev pub IsPut : Result (List ℕ) Status → Status → (takes takes' : Option (List ℕ)) → Type 0
IsPut answer status.OutOfMemory takes takes' = takes' ≡ takes
IsPut (Ok bytes) status.Ok takes takes' = takes' ≡ with_bytes takes bytes
IsPut (Ok bytes) status.SinkFault takes takes' = (k : ℕ) × (k < length bytes) × (takes' ≡ with_bytes takes (take k bytes))
IsPut (Ok bytes) other takes takes' = ⊥
IsPut (Err why) how takes takes' = (how ≡ why) × (takes' ≡ takes)

-- The source was asked once, and the class of this name of the listing that it gave was put.
pub record PutsClass (name : List ℕ) (had has : Option (List NamedBytes)) (how : Status) (takes takes' : Option (List ℕ)) : Type 0 where
  pub file : Option NamedBytes
  pub read : Gives had file has
  pub put : IsPut (class_of name file) how takes takes'

-- the answers of a source that gave no file
abbrev pub IsUnread : Status → Type 0
IsUnread status.SourceFault = Unit {0}
IsUnread status.OutOfMemory = Unit {0}
IsUnread other = ⊥

-- The source failed, or memory ran out: it has what it had, and nothing was put.
pub record ReadsNothing (had has : Option (List NamedBytes)) (how : Status) (takes takes' : Option (List ℕ)) : Type 0 where
  pub is : IsUnread how
  pub kept : has ≡ had
  pub nothing : takes' ≡ takes

-- What comes of it.
abbrev pub Assembles : (name : List ℕ) → (had has : Option (List NamedBytes)) → Status → (takes takes' : Option (List ℕ)) → Type 0
Assembles name had has how takes takes' = PutsClass name had has how takes takes' ⊎ ReadsNothing had has how takes takes'
