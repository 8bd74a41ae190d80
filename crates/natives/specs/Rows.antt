-- Methods that are given arguments and replies, with what they then ask, call and give back.
use Rattle.std.specs.Prelude.{◌≡◌, ℕ, false, List, [], ◌∷◌, map, codes, ℤ, pos, negsuc, Option, Some, None}
use Rattle.ap_base.specs.declared.kind.Kind.TheVariants.{C, I, L, Text}
use Rattle.ap_base.specs.declared.reference.Ref.{Ref}
use Rattle.ap_base.specs.declared.reference.Ref.TheVariants.{Null, Volatile}
use Rattle.ap_base.specs.declared.reference.Item.{Item}
use Rattle.ap_base.specs.declared.reference.Item.TheVariants as item
use Rattle.run_types.specs.declared.key.Key.TheVariants as key
use Rattle.run_types.specs.declared.known.Known.{Known}
use Rattle.run_types.specs.declared.resolved.At.{At}
use Rattle.run_types.specs.declared.resolved.FieldAt.{FieldAt}
use Rattle.natives.specs.declared.methods.Native.{Native}
use Rattle.natives.specs.declared.methods.Native.TheVariants as native
use Rattle.natives.specs.declared.requests.Request.{Request}
use Rattle.natives.specs.declared.requests.Request.TheVariants as ask
use Rattle.natives.specs.declared.requests.Reply.{Reply}
use Rattle.natives.specs.declared.requests.Reply.TheVariants as reply
use Rattle.natives.specs.declared.positions.Called.TheVariants.{Run, ToString}
use Rattle.natives.specs.declared.states.NativeStep.{NativeStep}
use Rattle.natives.specs.declared.states.NativeStep.TheVariants as step
use Rattle.natives.specs.Scripts.{Script, Ask, Call, Return, request_list}
use Rattle.natives.specs.Coded.{items}

-- what a request list comes to, while there are replies
abbrev pub steps : {R V : Type 0} → Script R V → List (Reply R V) → List (NativeStep R V)
steps (Ask q goes_on) [] = step.Ask q ∷ []
steps (Ask q goes_on) (r ∷ rs) = step.Ask q ∷ steps (goes_on r) rs
steps (Call called class receiver goes_on) [] = step.Call called class receiver ∷ []
steps (Call called class receiver goes_on) (r ∷ rs) = step.Call called class receiver ∷ steps (goes_on r) rs
steps (Return value) rs = step.Return value ∷ []

abbrev pub Step : Type 0
Step = NativeStep Ref Item

-- the method, its arguments, the replies and the steps
abbrev pub Row : Type 0
Row = Native × List Item × List (Reply Ref Item) × List Step

abbrev pub classes : Known
classes = record {
  chars = 1;
  string = 2;
  object = 3;
  runnable = 4;
  builder = 5;
  thread = 6;
  throwable = 7;
}

abbrev pub native_at : At
native_at = record { class = 8; method = 3; pc = 0 }

abbrev pub steps_of : Row → List Step
steps_of row = steps (request_list items classes native_at row.1 row.0) row.2

abbrev pub AreSteps : List Row → Type 0
AreSteps rows = map steps_of rows ≡ map (λ row. row.3) rows

-- object n
abbrev pub object : ℕ → Item
object n = item.Ref (Volatile n)

abbrev pub int : ℤ → Reply Ref Item
int i = reply.Item (item.Int i)

abbrev pub got : ℕ → Reply Ref Item
got n = reply.Item (object n)

abbrev pub made : ℕ → Reply Ref Item
made n = reply.Made (Volatile n)

abbrev pub asks : Request Ref Item → Step
asks q = step.Ask q

abbrev pub gives : Item → Step
gives v = step.Return (Some v)

abbrev pub ends : Step
ends = step.Return None

abbrev pub value_field : FieldAt
value_field = record { class = 5; is_static = false; at = 0; kind = L }

abbrev pub count_field : FieldAt
count_field = record { class = 5; is_static = false; at = 1; kind = I }

abbrev pub target_field : FieldAt
target_field = record { class = 6; is_static = false; at = 0; kind = L }

abbrev pub message_field : FieldAt
message_field = record { class = 7; is_static = false; at = 0; kind = L }

abbrev pub reads : (array i : ℕ) → Step
reads array i = asks (ask.GetElement native_at (Volatile array) (pos i) C)

abbrev pub reads_text : (text i : ℕ) → Step
reads_text text i = asks (ask.GetElement native_at (Volatile text) (pos i) Text)

abbrev pub puts : (array i c : ℕ) → Step
puts array i c = asks (ask.PutElement native_at (Volatile array) (pos i) C (item.Int (pos c)))

abbrev pub puts_text : (text i c : ℕ) → Step
puts_text text i c = asks (ask.PutElement native_at (Volatile text) (pos i) Text (item.Int (pos c)))

abbrev pub enters : Step
enters = asks (ask.Enter native_at (key.Object (Volatile 10)))

abbrev pub leaves : Step
leaves = asks (ask.Exit native_at (key.Object (Volatile 10)))

abbrev pub prints : List ℕ → Step
prints piece = asks (ask.Print native_at piece)

abbrev pub measures : ℕ → Step
measures n = asks (ask.Length native_at (Volatile n))

-- Methods of one request.
abbrev pub singles : List Row
singles = (
  native.ObjectEquals,
  object 10 ∷ object 11 ∷ [],
  int (pos 1) ∷ [],
  asks (ask.Same native_at (Volatile 10) (Volatile 11)) ∷ gives (item.Int (pos 1)) ∷ [],
) ∷
    (native.StringLength, object 10 ∷ [], int (pos 5) ∷ [], measures 10 ∷ gives (item.Int (pos 5)) ∷ []) ∷ (
      native.StringCharAt,
      object 10 ∷ item.Int (pos 2) ∷ [],
      int (pos 65) ∷ [],
      reads_text 10 2 ∷ gives (item.Int (pos 65)) ∷ [],
    ) ∷ (
      native.ThreadInit,
      object 10 ∷ object 11 ∷ [],
      reply.Done ∷ [],
      asks (ask.PutField native_at (Volatile 10) target_field (object 11)) ∷ ends ∷ [],
    ) ∷ (
      native.ThreadStart,
      object 10 ∷ [],
      reply.Done ∷ [],
      asks (ask.Start native_at (Volatile 10)) ∷ ends
          ∷ [],
    ) ∷
    (native.ThreadJoin, object 10 ∷ [], reply.Done ∷ [], asks (ask.Join native_at (Volatile 10)) ∷ ends ∷ [])
    ∷ (
      native.ThrowableInit,
      object 10 ∷ object 11 ∷ [],
      reply.Done ∷ [],
      asks (ask.PutField native_at (Volatile 10) message_field (object 11)) ∷ ends ∷ [],
    ) ∷ (
      native.ThrowableGetMessage,
      object 10 ∷ [],
      got 11 ∷ [],
      asks (ask.GetField native_at (Volatile 10) message_field) ∷ gives (object 11) ∷ [],
    ) ∷
    (native.RegionBegin, [], reply.Done ∷ [], asks (ask.Begin native_at) ∷ ends ∷ []) ∷
    (native.RegionEnd, [], reply.Done ∷ [], asks (ask.End native_at) ∷ ends ∷ []) ∷ []

abbrev pub same : Step
same = asks (ask.Same native_at (Volatile 10) (Volatile 11))

abbrev pub is_text : Step
is_text = asks (ask.IsA native_at (Volatile 11) 2)

-- A String equals itself, no null, nothing that isn't a String, none of another length, and none that differs
-- in a char.
abbrev pub equal_texts : List Row
equal_texts =
    (native.StringEquals, object 10 ∷ object 11 ∷ [], int (pos 1) ∷ [], same ∷ gives (item.Int (pos 1)) ∷ [])
    ∷ (
      native.StringEquals,
      object 10 ∷ item.Ref Null ∷ [],
      int (pos 0) ∷ [],
      asks (ask.Same native_at (Volatile 10) Null) ∷ gives (item.Int (pos 0)) ∷ [],
    ) ∷ (
      native.StringEquals,
      object 10 ∷ object 11 ∷ [],
      int (pos 0) ∷ int (pos 0) ∷ [],
      same ∷ is_text ∷ gives (item.Int (pos 0)) ∷ [],
    ) ∷ (
      native.StringEquals,
      object 10 ∷ object 11 ∷ [],
      int (pos 0) ∷ int (pos 1) ∷ int (pos 2) ∷ int (pos 3) ∷ [],
      same ∷ is_text ∷ measures 10 ∷ measures 11 ∷ gives (item.Int (pos 0)) ∷ [],
    ) ∷ (
      native.StringEquals,
      object 10 ∷ object 11 ∷ [],
      int (pos 0) ∷ int (pos 1) ∷ int (pos 2) ∷ int (pos 2) ∷ int (pos 97) ∷ int (pos 97) ∷ int (pos 98)
          ∷ int (pos 98) ∷ [],
      same ∷ is_text ∷ measures 10 ∷ measures 11 ∷ reads_text 10 0 ∷ reads_text 11 0 ∷ reads_text 10 1
          ∷ reads_text 11 1 ∷ gives (item.Int (pos 1)) ∷ [],
    ) ∷ (
      native.StringEquals,
      object 10 ∷ object 11 ∷ [],
      int (pos 0) ∷ int (pos 1) ∷ int (pos 2) ∷ int (pos 2) ∷ int (pos 97) ∷ int (pos 98) ∷ [],
      same ∷ is_text ∷ measures 10 ∷ measures 11 ∷ reads_text 10 0 ∷ reads_text 11 0 ∷ gives (item.Int
          (pos 0)) ∷ [],
    ) ∷ []

abbrev pub finds : Step × Step × Step
finds = (
  asks (ask.GetField native_at (Volatile 10) count_field),
  asks (ask.GetField native_at
      (Volatile 10) value_field),
  measures 20,
)

abbrev pub puts_value : ℕ → Step
puts_value array = asks (ask.PutField native_at (Volatile 10) value_field (object array))

abbrev pub puts_count : ℕ → Step
puts_count n = asks (ask.PutField native_at (Volatile 10) count_field (item.Int (pos n)))

abbrev pub makes : ℕ → Step
makes n = asks (ask.NewArray native_at 1 (pos n))

-- A full builder of two chars gets two more and becomes one of 2 * 2 + 2; one of one char that gets five
-- more, one of 1 + 5. One with room gets the chars of a String. toString() makes a String of the chars.
abbrev pub built : List Row
built = (
  native.AppendInt,
  object 10 ∷ item.Int (negsuc 6) ∷ [],
  int (pos 2) ∷ got 20 ∷ int (pos 2) ∷ made 21 ∷ int (pos 97) ∷ reply.Done ∷ int (pos 98) ∷ reply.Done
      ∷ reply.Done
      ∷ reply.Done ∷ reply.Done ∷ reply.Done ∷ [],
  finds.0 ∷ finds.1 ∷ finds.2 ∷ makes 6 ∷ reads 20 0 ∷ puts 21 0 97 ∷ reads 20 1 ∷ puts 21 1 98
      ∷ puts_value 21
      ∷ puts 21 2 45 ∷ puts 21 3 55 ∷ puts_count 4 ∷ gives (object 10) ∷ [],
) ∷ (
  native.AppendBoolean,
  object 10 ∷ item.Int (pos 0) ∷ [],
  int (pos 1) ∷ got 20 ∷ int (pos 1) ∷ made 21 ∷ [],
  finds.0 ∷ finds.1 ∷ finds.2 ∷ makes 6 ∷ reads 20 0 ∷ [],
) ∷ (
  native.AppendString,
  object 10 ∷ object 11 ∷ [],
  int (pos 2) ∷ got 20 ∷ int (pos 16) ∷ int (pos 2) ∷ int (pos 97) ∷ reply.Done ∷ int (pos 98) ∷ reply.Done
      ∷ reply.Done ∷ [],
  finds.0 ∷ finds.1 ∷ finds.2 ∷ measures 11 ∷ reads_text 11 0 ∷ puts 20 2 97 ∷ reads_text 11 1 ∷ puts 20 3 98
      ∷ puts_count 4 ∷ gives (object 10) ∷ [],
) ∷
    (native.BuilderInit, object 10 ∷ [], made 20 ∷ reply.Done ∷ [], makes 16 ∷ puts_value 20 ∷ ends ∷ []) ∷ (
      native.BuilderInitString,
      object 10 ∷ object 11 ∷ [],
      made 20 ∷ reply.Done ∷ int (pos 0) ∷ got 20 ∷ int (pos 16) ∷ int (pos 0) ∷ reply.Done ∷ [],
      makes 16 ∷ puts_value 20 ∷ finds.0 ∷ finds.1 ∷ finds.2 ∷ measures 11 ∷ puts_count 0 ∷ ends ∷ [],
    ) ∷ (
      native.BuilderToString,
      object 10 ∷ [],
      int (pos 1) ∷ got 20 ∷ made 22 ∷ int (pos 97) ∷ reply.Done ∷ [],
      finds.0 ∷ finds.1 ∷ asks (ask.NewText native_at (pos 1)) ∷ reads 20 0 ∷ puts_text 22 0 97 ∷ gives
          (object 22) ∷ [],
    ) ∷ []

-- Numbers are decimal; a piece of which a part was printed is asked for again, from there on.
abbrev pub printed_numbers : List Row
printed_numbers = (
  native.PrintLineInt,
  object 10 ∷ item.Int (negsuc 2147483647) ∷ [],
  reply.Done ∷ reply.Printed 12 ∷ reply.Done ∷ [],
  enters ∷ prints (codes "-2147483648\n") ∷ leaves ∷ ends ∷ [],
) ∷ (
  native.PrintLong,
  object 10 ∷ item.Long (negsuc 9223372036854775807) ∷ [],
  reply.Done ∷ reply.Printed 3 ∷ reply.Printed 17 ∷ reply.Done ∷ [],
  enters ∷ prints (codes "-9223372036854775808") ∷ prints (codes "23372036854775808") ∷ leaves ∷ ends ∷ [],
) ∷ (
  native.PrintBoolean,
  object 10 ∷ item.Int (pos 1) ∷ [],
  reply.Done ∷ reply.Printed 4 ∷ reply.Done ∷ [],
  enters ∷ prints (codes "true") ∷ leaves ∷ ends ∷ [],
) ∷ (
  native.PrintLineChar,
  object 10 ∷ item.Int (pos 0x20AC) ∷ [],
  reply.Done ∷ reply.Printed 4 ∷ reply.Done ∷ [],
  enters ∷ prints (0xE2 ∷ 0x82 ∷ 0xAC ∷ 10 ∷ []) ∷ leaves ∷ ends ∷ [],
) ∷ (
  native.PrintLine,
  object 10 ∷ [],
  reply.Done ∷ reply.Printed 1 ∷ reply.Done ∷ [],
  enters ∷ prints (10 ∷ []) ∷ leaves ∷ ends ∷ [],
) ∷ []

abbrev pub chars_read : List ℕ → List (Reply Ref Item)
chars_read cs = map (λ c. int (pos c)) cs

-- A pair of surrogates is one character, a lone one is `?`. A text without chars prints nothing. null is
-- `null`.
-- Of an object that isn't a String toString() of its class is called.
abbrev pub printed_texts : List Row
printed_texts = (
  native.PrintLineString,
  object 10 ∷ object 11 ∷ [],
  reply.Done ∷ int (pos 4) ∷ int (pos 0xD83D) ∷ int (pos 0xDE00) ∷ int (pos 65) ∷ int (pos 0xDC00)
      ∷ reply.Printed 7 ∷ reply.Done ∷ [],
  enters ∷ measures 11 ∷ reads_text 11 0 ∷ reads_text 11 1 ∷ reads_text 11 2 ∷ reads_text 11 3
      ∷ prints (0xF0 ∷ 0x9F ∷ 0x98 ∷ 0x80 ∷ 65 ∷ 63 ∷ 10 ∷ []) ∷ leaves ∷ ends ∷ [],
) ∷ (
  native.PrintString,
  object 10 ∷ object 11 ∷ [],
  reply.Done ∷ int (pos 3) ∷ int (pos 0xD800) ∷ int (pos 0xE9) ∷ int (pos 0xD800) ∷ reply.Printed 4
      ∷ reply.Done ∷ [],
  enters ∷ measures 11 ∷ reads_text 11 0 ∷ reads_text 11 1 ∷ reads_text 11 2
      ∷ prints (63 ∷ 0xC3 ∷ 0xA9 ∷ 63 ∷ []) ∷ leaves ∷ ends ∷ [],
) ∷ (
  native.PrintString,
  object 10 ∷ object 11 ∷ [],
  reply.Done ∷ int (pos 0) ∷ reply.Done ∷ [],
  enters ∷ measures 11 ∷ leaves ∷ ends ∷ [],
) ∷ (
  native.PrintLineObject,
  object 10 ∷ item.Ref Null ∷ [],
  reply.Done ∷ reply.Printed 5 ∷ reply.Done ∷ [],
  enters ∷ prints (codes "null\n") ∷ leaves ∷ ends ∷ [],
) ∷ (
  native.PrintLineObject,
  object 10 ∷ object 11 ∷ [],
  int (pos 0) ∷ reply.Shape 40 ∷ got 12 ∷ reply.Done ∷ int (pos 1) ∷ int (pos 97) ∷ reply.Printed 2
      ∷ reply.Done ∷ [],
  is_text ∷ asks (ask.ClassOf native_at (Volatile 11) 3) ∷ step.Call ToString 40 (Volatile 11) ∷ enters
      ∷ measures 12 ∷ reads_text 12 0 ∷ prints (97 ∷ 10 ∷ []) ∷ leaves ∷ ends ∷ [],
) ∷ []

-- 23 bytes and a character of two, with a line feed: a piece holds whole characters.
abbrev pub long_texts : List Row
long_texts = (
  native.PrintLineString,
  object 10 ∷ object 11 ∷ [],
  reply.Done ∷ int (pos 9) ∷ chars_read (0x20AC ∷ 0x20AC ∷ 0x20AC ∷ 0x20AC ∷ 0x20AC ∷ 0x20AC ∷ 0x20AC ∷ 0xE9
      ∷ 0xE9 ∷ []),
  enters ∷ measures 11 ∷ reads_text 11 0 ∷ reads_text 11 1 ∷ reads_text 11 2 ∷ reads_text 11 3
      ∷ reads_text 11 4
      ∷ reads_text 11 5 ∷ reads_text 11 6 ∷ reads_text 11 7 ∷ reads_text 11 8
      ∷ prints (0xE2 ∷ 0x82 ∷ 0xAC ∷ 0xE2 ∷ 0x82 ∷ 0xAC ∷ 0xE2 ∷ 0x82 ∷ 0xAC ∷ 0xE2 ∷ 0x82 ∷ 0xAC
      ∷ 0xE2 ∷ 0x82 ∷ 0xAC ∷ 0xE2 ∷ 0x82 ∷ 0xAC ∷ 0xE2 ∷ 0x82 ∷ 0xAC ∷ 0xC3 ∷ 0xA9 ∷ []) ∷ [],
) ∷ []

-- Thread.run calls run() of a target, if there is one.
abbrev pub threads : List Row
threads = (
  native.ThreadRun,
  object 10 ∷ [],
  reply.Item (item.Ref Null) ∷ [],
  asks (ask.GetField native_at (Volatile 10) target_field) ∷ ends ∷ [],
) ∷ (
  native.ThreadRun,
  object 10 ∷ [],
  got 11 ∷ reply.Shape 40 ∷ reply.Done ∷ [],
  asks (ask.GetField native_at (Volatile 10) target_field) ∷ asks (ask.ClassOf native_at (Volatile 11) 4)
      ∷ step.Call Run 40 (Volatile 11) ∷ ends ∷ [],
) ∷ []
