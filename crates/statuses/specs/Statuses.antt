-- The number and the text of each status.
use Rattle.std.specs.Prelude.{ℕ, List, [], ◌∷◌, ◌++◌, codes, decimal, slice_get, Option, Some, None}
use Rattle.std.specs.List.{flat_map, range_with_len}
use Rattle.ap_base.specs.declared.place.Place.{Place}
use Rattle.ap_base.specs.declared.place.Place.TheVariants as place
use Rattle.run_types.specs.declared.wait.On.{On}
use Rattle.run_types.specs.declared.wait.On.TheVariants as on
use Rattle.run_types.specs.declared.fault.LinkKind.{LinkKind}
use Rattle.run_types.specs.declared.fault.LinkKind.TheVariants as kind
use Rattle.run_types.specs.declared.fault.Which.{Which}
use Rattle.run_types.specs.declared.fault.Which.TheVariants as which
use Rattle.const_pool.specs.declared.refusal.PoolRefusal.{PoolRefusal}
use Rattle.const_pool.specs.declared.refusal.PoolRefusal.TheVariants as pool
use Rattle.code_form.specs.declared.refusal.CodeRefusal.{CodeRefusal}
use Rattle.code_form.specs.declared.refusal.CodeRefusal.TheVariants as code
use Rattle.class_file.specs.declared.refusal.ClassRefusal.{ClassRefusal}
use Rattle.class_file.specs.declared.refusal.ClassRefusal.TheVariants as class
use Rattle.class_links.specs.declared.refusal.LinkRefusal.{LinkRefusal}
use Rattle.class_links.specs.declared.refusal.LinkRefusal.TheVariants as link
use Rattle.image_layout.specs.declared.superblock.BadReason.{BadReason}
use Rattle.image_layout.specs.declared.superblock.BadReason.TheVariants as reason
use Rattle.listing_lines.specs.declared.refusal.ListingFault.{ListingFault}
use Rattle.listing_lines.specs.declared.refusal.ListingFault.TheVariants as listing
use Rattle.plain_model.specs.declared.throws.Throws.{Throws}
use Rattle.plain_model.specs.declared.throws.Throws.TheVariants as thrown
use Rattle.statuses.specs.declared.status.Status.{Status}
use Rattle.statuses.specs.declared.status.Status.TheVariants.{Ok, Uncaught, Usage, BadClass, BadListing, BadImage, LinkRefused}
use Rattle.statuses.specs.declared.status.Status.TheVariants.{ShapeChanged, BadCode, RegionRace, Full as FullOf, SourceFault}
use Rattle.statuses.specs.declared.status.Status.TheVariants.{ImageFault, SinkFault, OutOfMemory, Stuck, LinkFault}
use Rattle.statuses.specs.declared.status.Status.TheVariants.{NewImage, BadHistory, Refuted}
use Rattle.statuses.specs.declared.status.NewReason.{NewReason}
use Rattle.statuses.specs.declared.status.NewReason.TheVariants as fresh

abbrev pub number_of : Status → ℕ
number_of Ok = 0
number_of (Uncaught thread class) = 1
number_of Usage = 2
number_of (BadClass file refusal) = 3
number_of (BadImage line reason) = 4
number_of (LinkRefused refusal) = 5
number_of (ShapeChanged shape) = 6
number_of (BadCode method pc) = 7
number_of (RegionRace thread other place) = 8
number_of (FullOf full) = 9
number_of SourceFault = 10
number_of ImageFault = 11
number_of SinkFault = 12
number_of OutOfMemory = 13
number_of (Stuck waits) = 14
number_of (LinkFault kind name) = 15
number_of (BadListing line kind) = 16
number_of (NewImage reason) = 18
number_of (BadHistory word) = 19
number_of Refuted = 20

-- ---- words with spaces between them

-- a name and numbers
abbrev pub spaced : ℕ → List ℕ
spaced n = 32 ∷ decimal n

abbrev pub with_numbers : List ℕ → List ℕ → List ℕ
with_numbers name numbers = name ++ flat_map spaced numbers

abbrev pub pool_text : PoolRefusal → List ℕ
pool_text (pool.Truncated at) = with_numbers (codes "Truncated") (at ∷ [])
pool_text (pool.BadTag at) = with_numbers (codes "BadTag") (at ∷ [])
pool_text (pool.BadIndex entry index) = with_numbers (codes "BadIndex") (entry ∷ index ∷ [])
pool_text (pool.BadUtf8 at) = with_numbers (codes "BadUtf8") (at ∷ [])
pool_text pool.OutOfMemory = codes "OutOfMemory"

abbrev pub code_text : CodeRefusal → List ℕ
code_text (code.BadOpcode pc) = with_numbers (codes "BadOpcode") (pc ∷ [])
code_text (code.NotInProfile pc opcode) = with_numbers (codes "NotInProfile") (pc ∷ opcode ∷ [])
code_text (code.BadTarget pc) = with_numbers (codes "BadTarget") (pc ∷ [])
code_text (code.Truncated pc) = with_numbers (codes "Truncated") (pc ∷ [])
code_text code.OutOfMemory = codes "OutOfMemory"

-- a pool's and a code's refusal are told behind their own names, a code's behind its method's number
abbrev pub class_text : ClassRefusal → List ℕ
class_text (class.Pool refusal) = codes "Pool " ++ pool_text refusal
class_text (class.Truncated at) = with_numbers (codes "Truncated") (at ∷ [])
class_text class.BadMagic = codes "BadMagic"
class_text (class.BadVersion major minor) = with_numbers (codes "BadVersion") (major ∷ minor ∷ [])
class_text (class.BadIndex offset index) = with_numbers (codes "BadIndex") (offset ∷ index ∷ [])
class_text (class.BadDescriptor index) = with_numbers (codes "BadDescriptor") (index ∷ [])
class_text (class.BadAttribute at) = with_numbers (codes "BadAttribute") (at ∷ [])
class_text (class.Code method refusal) =
    with_numbers (codes "Code") (method ∷ []) ++ codes " " ++ code_text refusal
class_text (class.BadOperand method pc) = with_numbers (codes "BadOperand") (method ∷ pc ∷ [])
class_text (class.RootNotReference field) = with_numbers (codes "RootNotReference") (field ∷ [])
class_text (class.TrailingBytes at) = with_numbers (codes "TrailingBytes") (at ∷ [])
class_text class.OutOfMemory = codes "OutOfMemory"

-- names, each behind a space
abbrev pub with_names : List ℕ → List (List ℕ) → List ℕ
with_names what names = what ++ flat_map (λ (name : List ℕ). 32 ∷ name) names

abbrev pub link_text : LinkRefusal → List ℕ
link_text (link.DuplicateClass class) = with_names (codes "DuplicateClass") (class ∷ [])
link_text (link.MissingSuper class super) = with_names (codes "MissingSuper") (class ∷ super ∷ [])
link_text (link.SuperKind class super) = with_names (codes "SuperKind") (class ∷ super ∷ [])
link_text (link.FinalSuper class super) = with_names (codes "FinalSuper") (class ∷ super ∷ [])
link_text (link.CircularSuper class) = with_names (codes "CircularSuper") (class ∷ [])
link_text (link.InterfaceCode class) = with_names (codes "InterfaceCode") (class ∷ [])
link_text link.OutOfMemory = codes "OutOfMemory"

abbrev pub which_text : Which → List ℕ
which_text which.VolatileWords = codes "VolatileWords"
which_text which.ImageLines = codes "ImageLines"
which_text which.LogEntries = codes "LogEntries"
which_text which.Threads = codes "Threads"
which_text which.FrameSlots = codes "FrameSlots"
which_text which.Acts = codes "Acts"
which_text which.Monitors = codes "Monitors"
which_text which.DirectoryWords = codes "DirectoryWords"
which_text which.Roots = codes "Roots"
which_text which.Files = codes "Files"
which_text which.FileBytes = codes "FileBytes"

abbrev pub reason_text : BadReason → List ℕ
reason_text reason.Size = codes "Size"
reason_text reason.Magic = codes "Magic"
reason_text reason.Version = codes "Version"
reason_text reason.LineCount = codes "LineCount"
reason_text reason.DirectoryUse = codes "DirectoryUse"
reason_text reason.Entry = codes "Entry"
reason_text reason.LogCount = codes "LogCount"
reason_text reason.LogPlace = codes "LogPlace"
reason_text reason.Reference = codes "Reference"
reason_text reason.Shape = codes "Shape"
reason_text reason.Length = codes "Length"
reason_text reason.Overlap = codes "Overlap"
reason_text reason.Value = codes "Value"

abbrev pub new_text : NewReason → List ℕ
new_text fresh.Size = codes "Size"
new_text fresh.NotBlank = codes "NotBlank"

abbrev pub listing_text : ListingFault → List ℕ
listing_text listing.Syntax = codes "Syntax"
listing_text listing.UnknownWord = codes "UnknownWord"
listing_text listing.BadNumber = codes "BadNumber"
listing_text listing.UnknownLabel = codes "UnknownLabel"
listing_text listing.DoubledLabel = codes "DoubledLabel"
listing_text listing.FarJump = codes "FarJump"
listing_text listing.BadDescriptor = codes "BadDescriptor"
listing_text listing.BadText = codes "BadText"
listing_text listing.TooLarge = codes "TooLarge"
listing_text listing.NoClass = codes "NoClass"

-- the classes of the throwables that requests throw, in internal form (JVMS 4.2.1)
abbrev pub class_name : Throws → List ℕ
class_name thrown.NegativeArraySize = codes "java/lang/NegativeArraySizeException"
class_name thrown.NullPointer = codes "java/lang/NullPointerException"
class_name thrown.ArrayIndexOutOfBounds = codes "java/lang/ArrayIndexOutOfBoundsException"
class_name thrown.StringIndexOutOfBounds = codes "java/lang/StringIndexOutOfBoundsException"
class_name thrown.ArrayStore = codes "java/lang/ArrayStoreException"
class_name thrown.ClassCast = codes "java/lang/ClassCastException"
class_name thrown.IllegalMonitorState = codes "java/lang/IllegalMonitorStateException"
class_name thrown.IllegalThreadState = codes "java/lang/IllegalThreadStateException"
class_name thrown.IllegalState = codes "java/lang/IllegalStateException"
class_name thrown.Arithmetic = codes "java/lang/ArithmeticException"

abbrev pub place_text : Place → List ℕ
place_text (place.Static number) = with_numbers (codes "static") (number ∷ [])
place_text (place.Slot object index) = with_numbers (codes "slot") (object ∷ index ∷ [])

abbrev pub on_text : On → List ℕ
on_text (on.Monitor thread) = with_numbers (codes "monitor") (thread ∷ [])
on_text (on.Join thread) = with_numbers (codes "join") (thread ∷ [])
on_text (on.Init thread) = with_numbers (codes "init") (thread ∷ [])
on_text (on.Conversion thread) = with_numbers (codes "conversion") (thread ∷ [])

-- what a thread waits for, if it does, behind its number
abbrev pub wait_text : (thread : ℕ) → Option On → List ℕ
wait_text thread None = []
wait_text thread (Some on) = spaced thread ++ codes " " ++ on_text on

abbrev pub wait_of : List (Option On) → (thread : ℕ) → Option On
wait_of waits thread = elim (slice_get waits thread) [ None ↦ None | Some wait ↦ wait ]

-- that of each of the 64 threads, in order
abbrev pub waits_text : List (Option On) → List ℕ
waits_text waits = flat_map (λ thread. wait_text thread (wait_of waits thread)) (range_with_len 0 64)

abbrev pub kind_text : LinkKind → List ℕ
kind_text kind.MissingClass = codes "MissingClass"
kind_text kind.MissingField = codes "MissingField"
kind_text kind.MissingMethod = codes "MissingMethod"
kind_text kind.StaticMismatch = codes "StaticMismatch"
kind_text kind.NoCode = codes "NoCode"
kind_text kind.InitFailed = codes "InitFailed"

-- what is wrong
abbrev pub what_of : Status → List ℕ
what_of Ok = []
what_of (Uncaught thread class) = codes "uncaught" ++ spaced thread ++ codes " " ++ class
what_of Usage = codes "usage"
what_of (BadClass file refusal) = codes "class " ++ file ++ codes " " ++ class_text refusal
what_of (BadListing line kind) =
    with_numbers (codes "listing") (line ∷ []) ++ codes " " ++ listing_text kind
what_of (BadImage line reason) =
    with_numbers (codes "image") (line ∷ []) ++ codes " " ++ reason_text reason
what_of (LinkRefused refusal) = codes "refused " ++ link_text refusal
what_of (ShapeChanged shape) = codes "shape " ++ shape
what_of (BadCode method pc) = codes "code " ++ with_numbers method (pc ∷ [])
what_of (RegionRace thread other place) =
    with_numbers (codes "race") (thread ∷ other ∷ []) ++ codes " " ++ place_text place
what_of (FullOf full) = codes "full " ++ with_numbers (which_text full.which) (full.need ∷ full.left ∷ [])
what_of SourceFault = codes "source fault"
what_of ImageFault = codes "image fault"
what_of SinkFault = codes "sink fault"
what_of OutOfMemory = codes "no memory"
what_of (Stuck waits) = codes "stuck" ++ waits_text waits
what_of (LinkFault kind name) = with_names (codes "link " ++ kind_text kind) (name ∷ [])
what_of (NewImage reason) = codes "new " ++ new_text reason
what_of (BadHistory word) = with_numbers (codes "history") (word ∷ [])
what_of Refuted = codes "refuted"

-- a status's line: the program's name, what is wrong, and a line feed
abbrev pub status_line : List ℕ → List ℕ
status_line what = codes "autopersist: " ++ what ++ codes "\n"

abbrev pub text_of : Status → List ℕ
text_of Ok = []
text_of s = status_line (what_of s)
