-- The content of a Code attribute, read from front to back with the first fault that is met, and its bytes
-- (JVMS 4.7.3).
use Rattle.std.specs.Prelude.{ℕ, ◌^◌, ◌<◌, ◌&&◌, ◌||◌, ◌==◌, nat_lt, not, Bool, List, ◌++◌, length, Result, Ok, Err}
use Rattle.std.specs.Prelude.{if◌then◌else◌, All}
use Rattle.std.specs.List.{flat_map}
use Rattle.byteorder.specs.Endian.{big_bytes}
use Rattle.const_pool.specs.declared.entry.Tag.TheVariants.{Class}
use Rattle.const_pool.specs.Pool.{Slots, entry_at, is_tagged}
use Rattle.parsing.specs.declared.cut.Cut.{Cut}
use Rattle.parsing.specs.Results.{◌>>=◌, placed, unless, unless_found, many_from}
use Rattle.parsing.specs.Places.{Place, field_at, number_at}
use Rattle.code_form.specs.declared.refusal.CodeRefusal.{CodeRefusal}
use Rattle.code_form.specs.declared.refusal.CodeRefusal.TheVariants as refusal
use Rattle.code_form.specs.declared.ins.Placed.{Placed}
use Rattle.code_form.specs.Reading.{code_of}
use Rattle.code_form.specs.Spelling.{longest, is_start}
use Rattle.class_items.specs.declared.attribute.Attribute.{Attribute}
use Rattle.class_items.specs.declared.refusal.ItemRefusal.{ItemRefusal}
use Rattle.class_items.specs.declared.refusal.ItemRefusal.TheVariants as item
use Rattle.class_items.specs.Items.{attributes_at, attributes_bytes}
use Rattle.code_attribute.specs.declared.code.Code.{Code}
use Rattle.code_attribute.specs.declared.code.Handler.{Handler}
use Rattle.code_attribute.specs.declared.fault.CodeFault.{CodeFault}
use Rattle.code_attribute.specs.declared.fault.CodeFault.TheVariants as fault
use Rattle.code_attribute.specs.Operands.{first_wrong_operand}

-- within the attribute a field that is cut off is a fault of its form
abbrev pub of_cut : Cut → CodeFault
of_cut cut = fault.BadForm

abbrev pub of_item : ItemRefusal → CodeFault
of_item (item.Truncated at) = fault.BadForm
of_item (item.BadIndex offset index) = fault.BadIndex offset index
of_item item.OutOfMemory = fault.OutOfMemory

abbrev pub of_code : CodeRefusal → CodeFault
of_code refusal.OutOfMemory = fault.OutOfMemory
of_code other = fault.Code other

abbrev pub number : ℕ → Place → Result (ℕ × Place) CodeFault
number n file = placed of_cut (number_at n file)

-- ---- the exception table

-- It covers instructions, from one on up to another or the end, and the handler is an instruction.
abbrev pub is_handled : List Placed → (size start end handler : ℕ) → Bool
is_handled code size start end handler =
    nat_lt start end && (is_start code start && ((is_start code end || end == size) && is_start code handler))

-- the index of a class, or 0 for any throwable
unfoldable pub catch_at : Slots → Place → Result (ℕ × Place) CodeFault
catch_at pool file = do
  index ← number 2 file
  if index.0 == 0 || is_tagged (entry_at pool index.0) Class then Ok index
      else Err (fault.BadIndex file.0 index.0)

unfoldable pub handler_at : Slots → List Placed → (size : ℕ) → Place → Result (Handler × Place) CodeFault
handler_at pool code size file = do
  start ← number 2 file
  end ← number 2 start.1
  handler ← number 2 end.1
  right ← unless (not (is_handled code size start.0 end.0 handler.0)) fault.BadForm
  catch ← catch_at pool handler.1
  Ok (record { start = start.0; end = end.0; handler = handler.0; catch = catch.0 }, catch.1)

unfoldable pub handlers_at : Slots → List Placed → (size : ℕ) → Place
    → Result (List Handler × Place) CodeFault
handlers_at pool code size file = do
  count ← number 2 file
  many_from (handler_at pool code size) count.0 count.1

-- ---- the attribute

-- a code has a byte, and isn't longer than the longest one
abbrev pub is_wrong_size : ℕ → Bool
is_wrong_size size = size == 0 || nat_lt longest size

-- a length, and so many bytes of code
unfoldable pub code_bytes_at : Place → Result (List ℕ × Place) CodeFault
code_bytes_at file = do
  size ← number 4 file
  fits ← unless (is_wrong_size size.0) fault.BadForm
  placed of_cut (field_at size.0 size.1)

-- the content, which stands at a place of the file and is nothing more
unfoldable pub code_attribute_at : Slots → Place → Result Code CodeFault
code_attribute_at pool file = do
  stack ← number 2 file
  locals ← number 2 stack.1
  bytes ← code_bytes_at locals.1
  code ← placed of_code (code_of bytes.0)
  operands ← unless_found (first_wrong_operand pool code) (λ fault. fault)
  handlers ← handlers_at pool code (length bytes.0) bytes.1
  attributes ← placed of_item (attributes_at pool handlers.1)
  ended ← unless (nat_lt 0 (length attributes.1.1)) fault.BadForm
  Ok (record {
    max_stack = stack.0;
    max_locals = locals.0;
    bytes = bytes.0;
    instructions = code;
    handlers = handlers.0;
    attributes = attributes.0;
  })

-- ---- bytes

abbrev pub handler_bytes : Handler → List ℕ
handler_bytes h = big_bytes 2 h.start ++ big_bytes 2 h.end ++ big_bytes 2 h.handler ++ big_bytes 2 h.catch

abbrev pub handlers_bytes : List Handler → List ℕ
handlers_bytes handlers = big_bytes 2 (length handlers) ++ flat_map handler_bytes handlers

abbrev pub code_attribute_bytes : Code → List ℕ
code_attribute_bytes c =
    big_bytes 2 c.max_stack ++ big_bytes 2 c.max_locals ++ big_bytes 4 (length c.bytes) ++ c.bytes
    ++ handlers_bytes c.handlers ++ attributes_bytes c.attributes

-- the counts and lengths have the ranges of their fields
pub record Fits (c : Code) : Type 0 where
  pub bytes : length c.bytes < 2 ^ 32
  pub handlers : length c.handlers < 2 ^ 16
  pub attributes : length c.attributes < 2 ^ 16
  pub contents : All (λ (a : Attribute). length a.content < 2 ^ 32) c.attributes
