-- The objects of an image, and the checks of one. Values are those of JVMS 2.3 and 2.4, their words of this project's own format.
use Rattle.std.specs.Prelude.{ℕ, ◌+◌, ◌/◌, ◌%◌, ◌^◌, ◌==◌, ◌&&◌, ◌||◌, not, nat_le, nat_lt, Bool, true, false, List, length}
use Rattle.std.specs.Prelude.{map, pos, slice_index_or, if◌then◌else◌, Option, Some, None}
use Rattle.std.specs.Int.{w32, w64, cast_signed}
use Rattle.std.specs.List.{list_any, range_with_len}
use Rattle.ap_base.specs.declared.kind.Kind.{Kind}
use Rattle.ap_base.specs.declared.kind.Kind.TheVariants.{Z, B, C, S, I, J, L, Text}
use Rattle.graph_model.specs.declared.types.Value.{Value}
use Rattle.graph_model.specs.declared.types.Value.TheVariants.{Int, Long, Null, Obj as Object}
use Rattle.graph_model.specs.declared.types.Field.{Field}
use Rattle.graph_model.specs.declared.types.Shape.{Shape}
use Rattle.graph_model.specs.Heaps.{no_shape}
use Rattle.image_layout.specs.declared.superblock.BadReason.TheVariants as bad
use Rattle.image_layout.specs.Places.{first_object_line, lines_of, object_line, object_word}
use Rattle.image_meaning.specs.Checks.{Words, Bad, fails_unless, then_check, first_fault}

-- ---- words

-- 0, or twice a line at which an object of an image of so many lines may begin
abbrev pub is_reference : ℕ → ℕ → Bool
is_reference size w =
    w == 0 || (w % 2 == 0 && (nat_le first_object_line (w / 2) && nat_lt (w / 2) size))

-- a boolean is 0 or 1, a char one of 16 bits; of an int's word the upper half is 0
abbrev pub is_number : Kind → ℕ → Bool
is_number Z w = nat_lt w 2
is_number B w = nat_lt w (2 ^ 32)
is_number C w = nat_lt w (2 ^ 16)
is_number S w = nat_lt w (2 ^ 32)
is_number I w = nat_lt w (2 ^ 32)
is_number J w = nat_lt w (2 ^ 64)
is_number Text w = nat_lt w (2 ^ 16)
is_number L w = false

-- the value of a word; the object that begins at a line is called by the line
abbrev pub value_of : Kind → ℕ → Value
value_of Z w = Int (pos w)
value_of B w = Int (cast_signed w32 w)
value_of C w = Int (pos w)
value_of S w = Int (cast_signed w32 w)
value_of I w = Int (cast_signed w32 w)
value_of J w = Long (cast_signed w64 w)
value_of Text w = Int (pos w)
value_of L w = if w == 0 then Null else Object (w / 2)

-- a word of this kind, at a line
abbrev pub word_fault : ℕ → Kind → ℕ → ℕ → Option Bad
word_fault size L line w = fails_unless (is_reference size w) (line, bad.Reference)
word_fault size kind line w = fails_unless (is_number kind w) (line, bad.Value)

-- ---- objects

abbrev pub shape_number : Words → ℕ → ℕ
shape_number words line = words line 0 % 2 ^ 32

abbrev pub length_at : Words → ℕ → ℕ
length_at words line = words line 0 / 2 ^ 32

abbrev pub shape_of : List Shape → Words → ℕ → Shape
shape_of shapes words line = slice_index_or shapes (shape_number words line) no_shape

-- slot i of the object that begins at the line
abbrev pub object_slot : Words → ℕ → ℕ → ℕ
object_slot words line i = words (object_line line i) (object_word i)

-- the kind of slot i: that of the elements, or of field i
abbrev pub kind_among : Option Kind → List Field → ℕ → Kind
kind_among (Some kind) fields i = kind
kind_among None fields i = slice_index_or (map (λ (f : Field). f.kind) fields) i L

abbrev pub kind_of : Shape → ℕ → Kind
kind_of shape i = kind_among shape.element shape.fields i

-- an object of an image that has no elements has a slot for each field
abbrev pub holds_slots : Option Kind → List Field → ℕ → Bool
holds_slots (Some kind) fields n = true
holds_slots None fields n = length fields == n

abbrev pub values_at : List Shape → Words → ℕ → List Value
values_at shapes words line =
    map (λ i. value_of (kind_of (shape_of shapes words line) i) (object_slot words line i))
    (range_with_len 0 (length_at words line))

-- ---- checks

-- the line is one of an object that begins here
abbrev pub is_within : Words → ℕ → ℕ → Bool
is_within words line a = nat_le a line && nat_lt line (a + lines_of (length_at words a))

-- line j of the object belongs to none of the earlier ones
abbrev pub line_fault : Words → List ℕ → ℕ → ℕ → Option Bad
line_fault words earlier line j =
    fails_unless (not (list_any (is_within words (line + j)) earlier)) (line + j, bad.Overlap)

abbrev pub slot_fault : ℕ → Words → Shape → ℕ → ℕ → Option Bad
slot_fault size words shape line i = word_fault size (kind_of shape i) (object_line line i) (object_slot words line i)

-- The object that begins at a line, after those that begin at earlier lines: its shape, its length, its lines, and then slot by slot.
abbrev pub object_fault : List Shape → ℕ → Words → List ℕ → ℕ → Option Bad
object_fault shapes size words earlier line =
    let shape = shape_of shapes words line in
    let n = length_at words line in
    then_check (fails_unless (nat_lt (shape_number words line) (length shapes)) (line, bad.Shape))
    (then_check (fails_unless (holds_slots shape.element shape.fields n && nat_le (line + lines_of n) size) (line, bad.Length))
    (then_check (first_fault (line_fault words earlier line) (lines_of n))
    (first_fault (slot_fault size words shape line) n)))
