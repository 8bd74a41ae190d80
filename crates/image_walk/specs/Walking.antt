-- Images that are only looked at, and the checks of their words. Of this project's own format.
use Rattle.std.specs.Prelude.{◌≡◌, ◌<◌, ◌≤◌, ◌+◌, ◌/◌, ◌%◌, ◌^◌, ◌&&◌, ℕ, nat_lt, nat_le, Bool, false, ◌==◌, if◌then◌else◌}
use Rattle.std.specs.Prelude.{List, [], ◌∷◌, length, map, slice_index_or, Option, Some, Result, Err}
use Rattle.std.specs.List.{list_any, range_with_len}
use Rattle.ap_base.specs.declared.kind.Kind.TheVariants.{L}
use Rattle.graph_model.specs.declared.types.Value.{Value}
use Rattle.graph_model.specs.declared.types.Value.TheVariants.{Int, Long, Null, Obj as Object}
use Rattle.graph_model.specs.declared.types.Shape.{Shape}
use Rattle.graph_model.specs.declared.types.NamedValue.{NamedValue}
use Rattle.graph_model.specs.Heaps.{no_shape}
use Rattle.line_memory.specs.Memory.{Memory, shown}
use Rattle.line_memory.specs.Moments.{CountsFrom}
use Rattle.image_layout.specs.declared.superblock.BadReason.TheVariants as reasons
use Rattle.image_layout.specs.Places.{first_object_line, lines_of}
use Rattle.image_meaning.specs.Checks as checks
use Rattle.image_meaning.specs.Checks.{Words, fails_unless, then_check}
use Rattle.image_meaning.specs.Directories.{Directory}
use Rattle.image_meaning.specs.Logs.{is_log_line}
use Rattle.image_meaning.specs.Objects.{is_reference, value_of, kind_of, holds_slots, object_slot, is_within}
use Rattle.word_changes.specs.Changes.{AllKnown, Nothing, ChangesTo}
use Rattle.image_walk.specs.declared.fault.RecoverFault.{RecoverFault}
use Rattle.image_walk.specs.declared.fault.RecoverFault.TheVariants.{Bad, ImageFailed, OutOfMemory}

-- The memory shows these words in its lines outside the logs, and what its lines show is known.
pub record Shows (m : Memory) (words : Words) : Type 0 where
  pub known : AllKnown m
  pub same : (l w : ℕ) → l < m.size → is_log_line l ≡ false → shown m l w ≡ words l w

-- Lines were fetched, and nothing was stored or written: what was shown is shown still. No call of the image was made.
pub record Looks (old new : Memory) : Type 0 where
  pub changes : ChangesTo Nothing old new
  pub keeps : (words : Words) → Shows old words → Shows new words
  pub counts : (begin : ℕ) → CountsFrom begin old → CountsFrom begin new
  pub calls : new.calls ≡ old.calls
  pub later : old.faults ≤ new.faults

-- ---- faults

-- the fault, if it is one of the words, is that of the check
abbrev pub IsFault : Option checks.Bad → RecoverFault → Type 0
IsFault check (Bad line reason) = check ≡ Some (line, reason)
IsFault check ImageFailed = Unit {0}
IsFault check OutOfMemory = Unit {0}

-- the fault, if it is one of the words, is the one that they give
abbrev pub IsFaultOf : {A : Type 0} → Result A checks.Bad → RecoverFault → Type 0
IsFaultOf given (Bad line reason) = given ≡ Err (line, reason)
IsFaultOf given ImageFailed = Unit {0}
IsFaultOf given OutOfMemory = Unit {0}

-- ---- checks

-- the value names no object, or one that begins at an object line of an image of so many lines
abbrev pub NamesIn : ℕ → Value → Type 0
NamesIn size (Int i) = Unit {0}
NamesIn size (Long i) = Unit {0}
NamesIn size Null = Unit {0}
NamesIn size (Object line) = (first_object_line ≤ line) × (line < size)

-- the checks of an object's head word: of its shape and of its length
abbrev pub head_fault : List Shape → ℕ → ℕ → ℕ → Option checks.Bad
head_fault shapes size line head =
    let shape = slice_index_or shapes (head % 2 ^ 32) no_shape in
    let n = head / 2 ^ 32 in
    then_check (fails_unless (nat_lt (head % 2 ^ 32) (length shapes)) (line, reasons.Shape))
    (fails_unless (holds_slots shape.element shape.fields n && nat_le (line + lines_of n) size) (line, reasons.Length))

-- the values of the first n slots of an object of this shape that begins at the line
abbrev pub slot_values : Words → Shape → ℕ → ℕ → List Value
slot_values words shape line n = map (λ i. value_of (kind_of shape i) (object_slot words line i)) (range_with_len 0 n)

-- of each line it is told whether it belongs to one of the earlier objects
abbrev pub IsTaken : List Bool → Words → List ℕ → Type 0
IsTaken taken words earlier = (l : ℕ) → l < length taken → slice_index_or taken l false ≡ list_any (is_within words l) earlier

-- ---- roots

-- the check of a root slot's word: a reference if it is in use, and otherwise 0
abbrev pub slot_check : ℕ → Bool → ℕ → ℕ → Option checks.Bad
slot_check size in_use line word = fails_unless (if in_use then is_reference size word else word == 0) (line, reasons.Reference)

-- the value of a root slot, if it is in use
abbrev pub used_value : Bool → ℕ → List Value
used_value in_use word = if in_use then value_of L word ∷ [] else []

abbrev pub directory_with : List Shape → List (List ℕ) → Directory
directory_with shapes roots = record { shapes = shapes; roots = roots }

-- the value at a place, with the name at it
abbrev pub named_root : List (List ℕ) → List Value → ℕ → NamedValue
named_root names values r = record { name = slice_index_or names r []; value = slice_index_or values r Null }
