-- More methods that are given arguments and replies, with what they then ask, call and give back: those that
-- natives/specs/Rows.antt leaves out.
use Rattle.std.specs.Prelude.{ℕ, ◌+◌, List, [], ◌∷◌, ◌++◌, codes, replicate, pos, negsuc}
use Rattle.std.specs.List.{concat}
use Rattle.ap_base.specs.declared.reference.Ref.TheVariants.{Null, Volatile}
use Rattle.ap_base.specs.declared.reference.Item.{Item}
use Rattle.ap_base.specs.declared.reference.Item.TheVariants as item
use Rattle.ap_base.specs.declared.reference.Ref.{Ref}
use Rattle.natives.specs.declared.methods.Native.TheVariants as native
use Rattle.natives.specs.declared.requests.Request.TheVariants as ask
use Rattle.natives.specs.declared.requests.Reply.{Reply}
use Rattle.natives.specs.declared.requests.Reply.TheVariants as reply
use Rattle.natives.specs.declared.positions.Called.TheVariants.{ToString}
use Rattle.natives.specs.declared.states.NativeStep.TheVariants as step
use Rattle.natives.specs.Rows.{Row, Step, native_at, object, int, got, made, asks, gives, ends, reads, reads_text, puts, enters}
use Rattle.natives.specs.Rows.{leaves, prints, measures, is_text, finds, puts_value, puts_count, makes, chars_read}

abbrev pub dones : ℕ → List (Reply Ref Item)
dones n = replicate n reply.Done

-- chars are put from an index on
abbrev pub puts_chars : (array i : ℕ) → List ℕ → List Step
puts_chars array i [] = []
puts_chars array i (c ∷ cs) = puts array i c ∷ puts_chars array (i + 1) cs

-- a builder of n chars and an array of 16 gets chars
abbrev pub has_room : ℕ → List (Reply Ref Item)
has_room n = int (pos n) ∷ got 20 ∷ int (pos 16) ∷ []

abbrev pub appends : (n total : ℕ) → List ℕ → List Step
appends n total chars =
    finds.0 ∷ finds.1 ∷ finds.2 ∷ puts_chars 20 n chars ++ puts_count total ∷ gives (object 10) ∷ []

-- Longs of more than 32 bits, a char, both booleans, one of them into a builder that grows, and null.
abbrev pub appended : List Row
appended = (
  native.AppendLong,
  object 10 ∷ item.Long (pos 4294967303) ∷ [],
  has_room 0 ++ dones 11,
  appends 0 10 (codes "4294967303"),
) ∷
    (native.AppendChar, object 10 ∷ item.Int (pos 0x20AC) ∷ [], has_room 3 ++ dones 2, appends 3 4 (0x20AC ∷ []))
    ∷ (native.AppendBoolean, object 10 ∷ item.Int (pos 1) ∷ [], has_room 2 ++ dones 5, appends 2 6 (codes "true"))
    ∷ (
      native.AppendBoolean,
      object 10 ∷ item.Int (pos 0) ∷ [],
      int (pos 1) ∷ got 20 ∷ int (pos 1) ∷ made 21 ∷ int (pos 97) ∷ dones 8,
      finds.0 ∷ finds.1 ∷ finds.2 ∷ makes 6 ∷ reads 20 0 ∷ puts 21 0 97 ∷ puts_value 21
          ∷ puts_chars 21 1 (codes "false") ++ puts_count 6 ∷ gives (object 10) ∷ [],
    ) ∷ (
      native.AppendString,
      object 10 ∷ item.Ref Null ∷ [],
      has_room 0 ++ dones 5,
      appends 0 4 (codes "null"),
    ) ∷ []

-- what is asked of an object that isn't a String
abbrev pub asks_text : List Step
asks_text = is_text ∷ asks (ask.ClassOf native_at (Volatile 11) 3) ∷ step.Call ToString 40 (Volatile 11) ∷ []

abbrev pub no_text : List (Reply Ref Item)
no_text = int (pos 0) ∷ reply.Shape 40 ∷ []

abbrev pub null_given : Reply Ref Item
null_given = reply.Item (item.Ref Null)

-- An object is appended by its text: null is `null`, a String is its own, and of another one toString() of
-- its class is called, where null is `null` again.
abbrev pub appended_objects : List Row
appended_objects =
    (native.AppendObject, object 10 ∷ item.Ref Null ∷ [], has_room 1 ++ dones 5, appends 1 5 (codes "null")) ∷ (
      native.AppendObject,
      object 10 ∷ object 11 ∷ [],
      int (pos 1) ∷ has_room 0 ++ int (pos 1) ∷ int (pos 97) ∷ dones 2,
      is_text ∷ finds.0 ∷ finds.1 ∷ finds.2 ∷ measures 11 ∷ reads_text 11 0 ∷ puts 20 0 97 ∷ puts_count 1
          ∷ gives (object 10) ∷ [],
    ) ∷ (
      native.AppendObject,
      object 10 ∷ object 11 ∷ [],
      no_text ++ got 12 ∷ has_room 0 ++ int (pos 1) ∷ int (pos 97) ∷ dones 2,
      asks_text ++ finds.0 ∷ finds.1 ∷ finds.2 ∷ measures 12 ∷ reads_text 12 0 ∷ puts 20 0 97 ∷ puts_count 1
          ∷ gives (object 10) ∷ [],
    ) ∷ (
      native.AppendObject,
      object 10 ∷ object 11 ∷ [],
      no_text ++ null_given ∷ has_room 0 ++ dones 5,
      asks_text ++ appends 0 4 (codes "null"),
    ) ∷ []

-- a text is printed in one piece
abbrev pub printed : ℕ → List (Reply Ref Item)
printed n = reply.Done ∷ reply.Printed n ∷ reply.Done ∷ []

abbrev pub prints_once : List ℕ → List Step
prints_once piece = enters ∷ prints piece ∷ leaves ∷ ends ∷ []

abbrev pub printed_values : List Row
printed_values =
    (native.PrintInt, object 10 ∷ item.Int (negsuc 9) ∷ [], printed 3, prints_once (codes "-10"))
    ∷ (native.PrintChar, object 10 ∷ item.Int (pos 65) ∷ [], printed 1, prints_once (codes "A"))
    ∷ (native.PrintBoolean, object 10 ∷ item.Int (pos 0) ∷ [], printed 5, prints_once (codes "false"))
    ∷ (
      native.PrintLineLong,
      object 10 ∷ item.Long (pos 4294967303) ∷ [],
      printed 11,
      prints_once (codes "4294967303\n"),
    )
    ∷ (native.PrintLineBoolean, object 10 ∷ item.Int (pos 1) ∷ [], printed 5, prints_once (codes "true\n"))
    ∷ (native.PrintString, object 10 ∷ item.Ref Null ∷ [], printed 4, prints_once (codes "null"))
    ∷ []

-- Objects are printed by their texts, as they are appended.
abbrev pub printed_objects : List Row
printed_objects =
    (native.PrintObject, object 10 ∷ item.Ref Null ∷ [], printed 4, prints_once (codes "null")) ∷ (
      native.PrintObject,
      object 10 ∷ object 11 ∷ [],
      int (pos 1) ∷ reply.Done ∷ int (pos 1) ∷ int (pos 97) ∷ reply.Printed 1 ∷ reply.Done ∷ [],
      is_text ∷ enters ∷ measures 11 ∷ reads_text 11 0 ∷ prints (codes "a") ∷ leaves ∷ ends ∷ [],
    ) ∷ (
      native.PrintObject,
      object 10 ∷ object 11 ∷ [],
      no_text ++ got 12 ∷ reply.Done ∷ int (pos 1) ∷ int (pos 97) ∷ reply.Printed 1 ∷ reply.Done ∷ [],
      asks_text ++ enters ∷ measures 12 ∷ reads_text 12 0 ∷ prints (codes "a") ∷ leaves ∷ ends ∷ [],
    ) ∷ (
      native.PrintLineObject,
      object 10 ∷ object 11 ∷ [],
      int (pos 1) ∷ reply.Done ∷ int (pos 1) ∷ int (pos 97) ∷ reply.Printed 2 ∷ reply.Done ∷ [],
      is_text ∷ enters ∷ measures 11 ∷ reads_text 11 0 ∷ prints (codes "a\n") ∷ leaves ∷ ends ∷ [],
    ) ∷ (
      native.PrintLineObject,
      object 10 ∷ object 11 ∷ [],
      no_text ++ null_given ∷ printed 5,
      asks_text ++ prints_once (codes "null\n"),
    ) ∷ []

-- the euro sign and its three bytes
abbrev pub euro : ℕ
euro = 0x20AC

abbrev pub euros : ℕ → List ℕ
euros n = concat (replicate n (0xE2 ∷ 0x82 ∷ 0xAC ∷ []))

abbrev pub reads_nine : List Step
reads_nine =
    reads_text 11 0 ∷ reads_text 11 1 ∷ reads_text 11 2 ∷ reads_text 11 3 ∷ reads_text 11 4
    ∷ reads_text 11 5 ∷ reads_text 11 6 ∷ reads_text 11 7 ∷ reads_text 11 8 ∷ []

-- A piece of 24 bytes is whole. The ninth sign, for which it has no room, begins the next one, and the text
-- is read on.
abbrev pub whole_pieces : List Row
whole_pieces = (
  native.PrintString,
  object 10 ∷ object 11 ∷ [],
  reply.Done ∷ int (pos 9) ∷ chars_read (replicate 9 euro) ++ reply.Printed 24 ∷ reply.Printed 3
      ∷ reply.Done ∷ [],
  enters ∷ measures 11 ∷ reads_nine ++ prints (euros 8) ∷ prints (euros 1) ∷ leaves ∷ ends ∷ [],
) ∷ (
  native.PrintLineString,
  object 10 ∷ object 11 ∷ [],
  reply.Done ∷ int (pos 10) ∷ chars_read (replicate 9 euro) ++ reply.Printed 24 ∷ int (pos 97)
      ∷ reply.Printed 5
      ∷ reply.Done ∷ [],
  enters ∷ measures 11 ∷ reads_nine ++ prints (euros 8) ∷ reads_text 11 9 ∷ prints (euros 1 ++ codes "a\n")
      ∷ leaves ∷ ends ∷ [],
) ∷ []
