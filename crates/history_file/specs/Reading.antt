-- Reading a history file from front to back, up to the first word that has no continuation. A fault is told by how many
-- bytes are left where that word begins.
use Rattle.std.specs.Prelude.{◌≡◌, ℕ, ◌+◌, ◌-◌, ◌*◌, ◌/◌, ◌%◌, ◌^◌, Bool, true, false, ◌&&◌, ◌==◌, nat_lt, List, [], ◌∷◌}
use Rattle.std.specs.Prelude.{◌++◌, length}
use Rattle.std.specs.Prelude.{take, drop, Option, Some, None, Result, Ok, Err, if◌then◌else◌}
use Rattle.std.specs.List.{list_all}
use Rattle.std.specs.Int.{w32, w64, from_le_bytes, cast_signed}
use Rattle.parsing.specs.Results.{◌>>=◌, placed, many_from}
use Rattle.ap_base.specs.declared.place.Place.{Place}
use Rattle.ap_base.specs.declared.place.Place.TheVariants.{Static, Slot}
use Rattle.graph_model.specs.declared.types.Value.{Value}
use Rattle.graph_model.specs.declared.types.Value.TheVariants.{Int, Long, Null, Obj}
use Rattle.run_history.specs.declared.act.PlainKey.{PlainKey}
use Rattle.run_history.specs.declared.act.PlainKey.TheVariants as key
use Rattle.run_history.specs.declared.act.Stage.{Stage}
use Rattle.run_history.specs.declared.act.Stage.TheVariants.{Begun, Ready, Done}
use Rattle.run_history.specs.declared.act.Op.{Op}
use Rattle.run_history.specs.declared.act.Op.TheVariants as op
use Rattle.run_history.specs.Recorded.{Recorded}
use Rattle.history_file.specs.declared.fault.Stop.{Stop}
use Rattle.history_file.specs.declared.fault.Stop.TheVariants.{OutOfMemory, At}
use Rattle.history_file.specs.declared.head.Head.{Head}
use Rattle.history_file.specs.declared.kind.Kind.{Kind}
use Rattle.history_file.specs.declared.kind.Kind.TheVariants as kind
use Rattle.history_file.specs.Kinds.{code_of, kind_with, may_have, named_count}
use Rattle.history_file.specs.Spelling.{head_word, magic}

-- reading gives a value and the bytes behind it, or how many bytes are left at the fault
abbrev pub Read : Type 0 → Type 0
Read A = List ℕ → Result (A × List ℕ) ℕ

-- What a call gave, seen by view, is what reading gives, unless memory ran out.
abbrev pub Stops : {A : Type 0} → Stop → Result A ℕ → Type 0
Stops OutOfMemory read = Unit {0}
Stops (At left) read = read ≡ Err left

abbrev pub Gives : {A B : Type 0} → (A → B) → Result A Stop → Result B ℕ → Type 0
Gives view (Ok x) read = read ≡ Ok (view x)
Gives view (Err e) read = Stops e read

-- What a call gave that adds an act to others is what reading an act gives, unless memory ran out.
abbrev pub Adds : {A : Type 0} → List Recorded → List Recorded → (A → List ℕ) → Result A Stop
    → Result (Recorded × List ℕ) ℕ → Type 0
Adds old new rest (Ok x) read = (r : Recorded) × (read ≡ Ok (r, rest x)) × (new ≡ old ++ r ∷ [])
Adds old new rest (Err e) read = Stops e read

-- ---- words

unfoldable pub word_at : Read ℕ
word_at bytes =
    if nat_lt (length bytes) 8 then Err (length bytes) else Ok (from_le_bytes w64 (take 8 bytes), drop 8 bytes)

-- a word that passes a test
abbrev pub word_where : (ℕ → Bool) → Read ℕ
word_where test bytes = do
  n ← word_at bytes
  if test n.0 then Ok n else Err (length bytes)

abbrev pub below : ℕ → Read ℕ
below limit = word_where (λ n. nat_lt n limit)

-- a number of 32 bits
unfoldable pub number_at : Read ℕ
number_at = below (2 ^ 32)

-- this number
unfoldable pub exactly : ℕ → Read ℕ
exactly number = word_where (λ n. n == number)

-- ---- readings that are put together

-- what was read, made into something else
infixl 10 ◌gives◌
abbrev pub ◌gives◌ : {A B : Type 0} → Result (A × List ℕ) ℕ → (A → B) → Result (B × List ℕ) ℕ
read gives make = read >>= λ x. Ok (make x.0, x.1)

-- a reading, and behind it another one that may depend on what was read
abbrev pub in_turn : {A B : Type 0} → Read A → (A → Read B) → Read (A × B)
in_turn first second bytes = do
  a ← first bytes
  b ← second a.0 a.1
  Ok ((a.0, b.0), b.1)

abbrev pub both : {A B : Type 0} → Read A → Read B → Read (A × B)
both first second = in_turn first (λ a. second)

-- ---- fields

-- a place, which is a slot or a static field as the count of the act's words tells
unfoldable pub place_at : (is_slot : Bool) → Read Place
place_at false bytes = both (exactly 0) number_at bytes gives (λ x. Static x.1)
place_at true bytes = both (exactly 1) (both number_at number_at) bytes gives (λ x. Slot x.1.0 x.1.1)

-- what follows the tag of a value
unfoldable pub tagged_value : ℕ → Read Value
tagged_value tag bytes =
    if tag == 0 then number_at bytes gives (λ n. Int (cast_signed w32 n))
    else (if tag == 1 then word_at bytes gives (λ n. Long (cast_signed w64 n))
    else (if tag == 2 then exactly 0 bytes gives (λ n. Null)
    else number_at bytes gives Obj))

unfoldable pub value_at : Read Value
value_at bytes = in_turn (below 4) tagged_value bytes gives (λ x. x.1)

abbrev pub key_with : ℕ × ℕ → PlainKey
key_with x = if x.0 == 0 then key.Object x.1 else key.Class x.1

unfoldable pub key_at : Read PlainKey
key_at bytes = both (below 2) number_at bytes gives key_with

abbrev pub stage_with : ℕ → Stage
stage_with n = if n == 0 then Begun else (if n == 1 then Ready else Done)

abbrev pub option_with : ℕ → Option ℕ
option_with n = if n == 0 then None else Some (n - 1)

-- a number more by one, or 0
unfoldable pub option_at : Read (Option ℕ)
option_at bytes = below (2 ^ 32 + 1) bytes gives option_with

-- whether a second number stands behind a first one: both are more by one, or both are 0
abbrev pub goes_with : ℕ → ℕ → Bool
goes_with first second = if first == 0 then second == 0 else nat_lt 0 second && nat_lt second (2 ^ 32 + 1)

-- a number more by one and a second one, or twice 0
unfoldable pub test_at : Read (Option ℕ × Option ℕ)
test_at bytes =
    in_turn (below (2 ^ 32 + 1)) (λ first. word_where (goes_with first)) bytes
    gives (λ x. (option_with x.0, option_with x.1))

-- so many whole words
unfoldable pub whole_at : ℕ → Read (List ℕ)
whole_at count bytes =
    if nat_lt (length bytes) (8 * count) then Err (length bytes % 8) else Ok (take (8 * count) bytes, drop (8 * count) bytes)

abbrev pub are_zeros : List ℕ → Bool
are_zeros bytes = list_all (λ b. b == 0) bytes

-- n bytes, and zeros up to the end of so many words
unfoldable pub text_at : ℕ → ℕ → Read (List ℕ)
text_at count n bytes = do
  raw ← whole_at count bytes
  if are_zeros (drop n raw.0) then Ok (take n raw.0, raw.1) else Err (length raw.1 + 8)

-- whether so many bytes take so many words
abbrev pub takes_words : ℕ → ℕ → Bool
takes_words count n = nat_lt n 25 && (n + 7) / 8 == count

-- a piece of so many words
unfoldable pub piece_at : ℕ → Read (List ℕ)
piece_at count bytes = in_turn (word_where (takes_words count)) (text_at count) bytes gives (λ x. x.1)

-- ---- operations

unfoldable pub stored_at : (is_slot : Bool) → Read (Place × Value)
stored_at is_slot = both (place_at is_slot) value_at

unfoldable pub numbers_at : ℕ → Read (ℕ × ℕ)
numbers_at limit = both number_at (below limit)

unfoldable pub three_at : Read (ℕ × (ℕ × ℕ))
three_at = both number_at (numbers_at (2 ^ 32))

-- the operation of a kind without fields
abbrev pub bare : Kind → Op
bare kind.Pause = op.Pause
bare kind.Begin = op.Begin
bare kind.End = op.End
bare kind.Closing = op.Closing
bare other = op.Fenced

-- the operation of a kind with a place and a value
abbrev pub access : Kind → Place × Value → Op
access kind.Read x = op.Read x.0 x.1
access kind.Stored x = op.Stored x.0 x.1
access other x = op.Asked x.0 x.1

-- the operation of a kind with what has a monitor
abbrev pub monitor : Kind → PlainKey → Op
monitor kind.Enter key = op.Enter key
monitor other key = op.Exit key

-- the operation of a kind with an object and a number
abbrev pub of_two : Kind → ℕ × ℕ → Op
of_two kind.Length x = op.Length x.0 x.1
of_two other x = op.Throw x.0 x.1

-- the fields of an act of this kind that has so many words
unfoldable pub op_at : Kind → ℕ → Read Op
op_at kind.Alloc words bytes = three_at bytes gives (λ x. op.Alloc x.0 x.1.0 x.1.1)
op_at kind.Read words bytes = stored_at (words == 7) bytes gives access kind.Read
op_at kind.Stored words bytes = stored_at (words == 7) bytes gives access kind.Stored
op_at kind.Length words bytes = numbers_at (2 ^ 32) bytes gives of_two kind.Length
op_at kind.Class words bytes = test_at bytes gives (λ x. op.Class x.0 x.1)
op_at kind.Same words bytes = below 2 bytes gives (λ n. op.Same (n == 1))
op_at kind.Enter words bytes = key_at bytes gives monitor kind.Enter
op_at kind.Exit words bytes = key_at bytes gives monitor kind.Exit
op_at kind.Start words bytes = numbers_at 64 bytes gives (λ x. op.Start x.0 x.1)
op_at kind.Join words bytes = number_at bytes gives op.Join
op_at kind.Init words bytes = numbers_at 3 bytes gives (λ x. op.Init x.0 (stage_with x.1))
op_at kind.Print words bytes = piece_at (words - 3) bytes gives op.Print
op_at kind.Throw words bytes = numbers_at (2 ^ 32) bytes gives of_two kind.Throw
op_at kind.Ended words bytes = option_at bytes gives op.Ended
op_at kind.Asked words bytes = stored_at (words == 7) bytes gives access kind.Asked
op_at kind.Joined words bytes = exactly (words - 3) bytes gives (λ n. op.Joined)
op_at kind.Guarded words bytes = place_at (words == 5) bytes gives op.Guarded
op_at other words bytes = Ok (bare other, bytes)

-- ---- acts

-- what a word says as the first one of an act of a kind
abbrev pub head_with : Kind → ℕ → Head
head_with kind word = record { kind = kind; thread = word / 256 % 64; words = word / 2 ^ 32 }

-- the head is spelled by the word, and its kind may have so many words
abbrev pub is_head : Head → ℕ → Bool
is_head head word = may_have head.kind head.words && head_word (code_of head.kind) head.thread head.words == word

abbrev pub head_of_kind : ℕ → Option Kind → Option Head
head_of_kind word None = None
head_of_kind word (Some kind) = if is_head (head_with kind word) word then Some (head_with kind word) else None

abbrev pub head_in : ℕ → Option Head
head_in word = head_of_kind word (kind_with (word % 256))

abbrev pub or_left : ℕ → Option Head → Result Head ℕ
or_left left None = Err left
or_left left (Some head) = Ok head

unfoldable pub head_at : Read Head
head_at bytes = do
  word ← word_at bytes
  head ← or_left (length bytes) (head_in word.0)
  Ok (head, word.1)

-- an act: its head, how many image calls were finished by then, its fields, and the objects that it names
unfoldable pub act_at : Read Recorded
act_at bytes = do
  head ← head_at bytes
  at ← word_at head.1
  o ← op_at head.0.kind head.0.words at.1
  named ← many_from number_at (named_count head.0.kind head.0.words) o.1
  Ok (record { act = record { thread = head.0.thread; at = at.0; op = o.0 }; named = named.0 }, named.1)

-- ---- the file

-- the number of acts, and what is kept
unfoldable pub header_at : Read (ℕ × ℕ)
header_at bytes = both (exactly magic) (both (exactly 1) (both number_at word_at)) bytes gives (λ x. x.1.1)

-- the whole file; nothing stands behind its acts
unfoldable pub file_in : List ℕ → Result (List Recorded × ℕ) ℕ
file_in bytes = do
  header ← header_at bytes
  acts ← many_from act_at header.0.0 header.1
  if length acts.1 == 0 then Ok (acts.0, header.0.1) else Err (length acts.1)

-- The acts of a file, and what is kept; or the first word, counted from 0, that has no continuation.
abbrev pub history_in : List ℕ → Result (List Recorded × ℕ) ℕ
history_in bytes = placed (λ left. (length bytes - left) / 8) (file_in bytes)
