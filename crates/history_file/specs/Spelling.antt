-- The bytes of a history file, and the acts that have any.
use Rattle.std.specs.Prelude.{ℕ, ◌+◌, ◌-◌, ◌*◌, ◌/◌, ◌%◌, ◌^◌, ◌<◌, ◌≤◌, Bool, true, false, List, [], ◌∷◌, ◌++◌, length}
use Rattle.std.specs.Prelude.{replicate, All, Option, Some, None, IfSome, FitsSigned}
use Rattle.std.specs.List.{flat_map}
use Rattle.std.specs.Int.{w32, w64, to_le_bytes, cast_unsigned}
use Rattle.parsing.specs.Bytes.{IsBytes}
use Rattle.ap_base.specs.Pieces.{IsPiece}
use Rattle.ap_base.specs.declared.place.Place.{Place}
use Rattle.ap_base.specs.declared.place.Place.TheVariants.{Static, Slot}
use Rattle.graph_model.specs.declared.types.Value.{Value}
use Rattle.graph_model.specs.declared.types.Value.TheVariants.{Int, Long, Null, Obj}
use Rattle.run_history.specs.declared.act.PlainKey.{PlainKey}
use Rattle.run_history.specs.declared.act.PlainKey.TheVariants as key
use Rattle.run_history.specs.declared.act.Stage.{Stage}
use Rattle.run_history.specs.declared.act.Stage.TheVariants.{Begun, Ready, Done}
use Rattle.run_history.specs.declared.act.Op.{Op}
use Rattle.run_history.specs.declared.act.Op.TheVariants as op
use Rattle.run_history.specs.Recorded.{Recorded, NamesRightly}
use Rattle.history_file.specs.Kinds.{code_of, kind_of, fewest}

-- a number in eight bytes, the lowest first
unfoldable pub word : ℕ → List ℕ
word n = to_le_bytes w64 n

abbrev pub words : List ℕ → List ℕ
words ns = flat_map word ns

-- ---- fields

abbrev pub place_words : Place → List ℕ
place_words (Static n) = 0 ∷ n ∷ []
place_words (Slot object index) = 1 ∷ object ∷ index ∷ []

abbrev pub value_words : Value → List ℕ
value_words (Int i) = 0 ∷ cast_unsigned w32 i ∷ []
value_words (Long i) = 1 ∷ cast_unsigned w64 i ∷ []
value_words Null = 2 ∷ 0 ∷ []
value_words (Obj n) = 3 ∷ n ∷ []

abbrev pub key_words : PlainKey → List ℕ
key_words (key.Object object) = 0 ∷ object ∷ []
key_words (key.Class class) = 1 ∷ class ∷ []

abbrev pub stage_word : Stage → ℕ
stage_word Begun = 0
stage_word Ready = 1
stage_word Done = 2

abbrev pub bool_word : Bool → ℕ
bool_word false = 0
bool_word true = 1

-- what may be there, as a number more by one, or 0
abbrev pub option_word : Option ℕ → ℕ
option_word None = 0
option_word (Some n) = n + 1

-- how many bytes of zero fill the last word of so many bytes
abbrev pub filling : ℕ → ℕ
filling n = 8 * ((n + 7) / 8) - n

-- The fields of an operation; a Joined act's first field is how many objects it names.
abbrev pub fields : Op → ℕ → List ℕ
fields (op.Alloc object shape slots) named = words (object ∷ shape ∷ slots ∷ [])
fields (op.Read place value) named = words (place_words place) ++ words (value_words value)
fields (op.Stored place value) named = words (place_words place) ++ words (value_words value)
fields (op.Length object slots) named = words (object ∷ slots ∷ [])
fields (op.Class object shape) named = words (option_word object ∷ option_word shape ∷ [])
fields (op.Same same) named = words (bool_word same ∷ [])
fields (op.Enter key) named = words (key_words key)
fields (op.Exit key) named = words (key_words key)
fields (op.Start object child) named = words (object ∷ child ∷ [])
fields (op.Join object) named = words (object ∷ [])
fields (op.Init class is) named = words (class ∷ stage_word is ∷ [])
fields (op.Print bytes) named = word (length bytes) ++ (bytes ++ replicate (filling (length bytes)) 0)
fields (op.Throw object class) named = words (object ∷ class ∷ [])
fields (op.Ended uncaught) named = words (option_word uncaught ∷ [])
fields (op.Asked place value) named = words (place_words place) ++ words (value_words value)
fields op.Joined named = words (named ∷ [])
fields (op.Guarded place) named = words (place_words place)
fields other named = []

-- ---- acts

-- the first word of an act: its code, its thread, and how many words it has, as far as 32 bits tell it
abbrev pub head_word : ℕ → ℕ → ℕ → ℕ
head_word code thread count = code + 256 * thread + 2 ^ 32 * (count % 2 ^ 32)

-- a slot takes a word more than a static field
abbrev pub place_extra : Place → ℕ
place_extra (Static n) = 0
place_extra (Slot object index) = 1

-- how many words an operation takes beyond the fewest of its kind
abbrev pub extra : Op → ℕ
extra (op.Read place value) = place_extra place
extra (op.Stored place value) = place_extra place
extra (op.Asked place value) = place_extra place
extra (op.Guarded place) = place_extra place
extra (op.Print bytes) = (length bytes + 7) / 8 - 1
extra other = 0

-- how many words an act has
abbrev pub count_of : Recorded → ℕ
count_of r = fewest (kind_of r.act.op) + extra r.act.op + length r.named

-- an act: its head, how many image calls were finished by then, its fields, and the objects that it names
abbrev pub act_bytes : Recorded → List ℕ
act_bytes r =
    words (head_word (code_of (kind_of r.act.op)) r.act.thread (count_of r) ∷ r.act.at ∷ [])
    ++ (fields r.act.op (length r.named) ++ words r.named)

-- the bytes APHISTOR
abbrev pub magic : ℕ
magic = 0x524F_5453_4948_5041

-- a file: its four words, and the acts
abbrev pub history_bytes : List Recorded → ℕ → List ℕ
history_bytes acts keep = words (magic ∷ 1 ∷ length acts ∷ keep ∷ []) ++ flat_map act_bytes acts

-- ---- what has a spelling

abbrev pub IsNumber : ℕ → Type 0
IsNumber n = n < 2 ^ 32

abbrev pub FitsPlace : Place → Type 0
FitsPlace (Static n) = IsNumber n
FitsPlace (Slot object index) = IsNumber object × IsNumber index

abbrev pub FitsValue : Value → Type 0
FitsValue (Int i) = FitsSigned w32 i
FitsValue (Long i) = FitsSigned w64 i
FitsValue Null = Unit {0}
FitsValue (Obj n) = IsNumber n

abbrev pub FitsKey : PlainKey → Type 0
FitsKey (key.Object object) = IsNumber object
FitsKey (key.Class class) = IsNumber class

-- a test of an object's class names both an object and a shape, or neither
abbrev pub FitsTest : Option ℕ → Option ℕ → Type 0
FitsTest None None = Unit {0}
FitsTest (Some object) (Some shape) = IsNumber object × IsNumber shape
FitsTest object shape = ⊥

abbrev pub FitsOp : Op → Type 0
FitsOp (op.Alloc object shape slots) = IsNumber object × IsNumber shape × IsNumber slots
FitsOp (op.Read place value) = FitsPlace place × FitsValue value
FitsOp (op.Stored place value) = FitsPlace place × FitsValue value
FitsOp (op.Length object slots) = IsNumber object × IsNumber slots
FitsOp (op.Class object shape) = FitsTest object shape
FitsOp (op.Enter key) = FitsKey key
FitsOp (op.Exit key) = FitsKey key
FitsOp (op.Start object child) = IsNumber object × (child < 64)
FitsOp (op.Join object) = IsNumber object
FitsOp (op.Init class is) = IsNumber class
FitsOp (op.Print bytes) = IsPiece bytes × IsBytes bytes
FitsOp (op.Throw object class) = IsNumber object × IsNumber class
FitsOp (op.Ended uncaught) = IfSome uncaught IsNumber
FitsOp (op.Asked place value) = FitsPlace place × FitsValue value
FitsOp (op.Guarded place) = FitsPlace place
FitsOp other = Unit {0}

-- An act that a file can tell. Its numbers are those of the program's types; a test of a class is whole; and an act names
-- objects only where it is a Joined act, and no more than its count of words can tell.
pub record Fits (r : Recorded) : Type 0 where
  pub thread : r.act.thread < 64
  pub at : r.act.at < 2 ^ 64
  pub op : FitsOp r.act.op
  pub rightly : NamesRightly r.act.op r.named
  pub few : length r.named ≤ 2 ^ 32 - 4
  pub named : All IsNumber r.named

-- acts that a file can tell, with what is kept of each thread
pub record AreTold (acts : List Recorded) (keep : ℕ) : Type 0 where
  pub few : length acts < 2 ^ 32
  pub kept : keep < 2 ^ 64
  pub each : All Fits acts
