-- What each built-in method that asks something asks, one request after the other, and what it gives back:
-- its request list (docs/MODEL.md, "Built-in methods"). The methods do what those of their names do in Java
-- SE 8, but that a StringBuilder is made of a null String as of the text `null`, as `append` takes it.
use Rattle.std.specs.Prelude.{ℕ, zero, suc, ◌+◌, max, Bool, true, false, List, [], ◌∷◌, ◌++◌, length, drop, ℤ, pos, negsuc}
use Rattle.std.specs.Prelude.{int_lt, Option, Some, None, if◌then◌else◌}
use Rattle.std.specs.Int.{w32, int_wrapping_add}
use Rattle.std.specs.Ordering.{int_eq}
use Rattle.ap_base.specs.declared.kind.Kind.{Kind}
use Rattle.ap_base.specs.declared.kind.Kind.TheVariants.{C, I, L, Text as TextKind}
use Rattle.run_types.specs.declared.key.Key.TheVariants as key
use Rattle.run_types.specs.declared.known.Known.{Known}
use Rattle.run_types.specs.declared.resolved.At.{At}
use Rattle.run_types.specs.declared.resolved.FieldAt.{FieldAt}
use Rattle.natives.specs.declared.methods.Native.{Native}
use Rattle.natives.specs.declared.methods.Native.TheVariants as native
use Rattle.natives.specs.declared.requests.Request.{Request}
use Rattle.natives.specs.declared.requests.Request.TheVariants as ask
use Rattle.natives.specs.declared.requests.Reply.{Reply}
use Rattle.natives.specs.declared.positions.Called.{Called}
use Rattle.natives.specs.declared.positions.Called.TheVariants.{Run, ToString}
use Rattle.natives.specs.declared.texts.Spelling.{Spelling}
use Rattle.natives.specs.declared.texts.Text.{Text}
use Rattle.natives.specs.declared.texts.Text.TheVariants.{Spelled, String}
use Rattle.natives.specs.Values.{Values, char_of, int_in, reference_in, is_yes, int_at, long_at, reference_at, item_in}
use Rattle.natives.specs.Values.{class_in, printed_in}
use Rattle.natives.specs.Texts.{chars_of, number_text, boolean_text, char_text, null_text, string_text, characters, held_after}
use Rattle.natives.specs.Texts.{last_characters, line_feed, spelled_bytes, fits}

-- A method asks, and goes on by the reply; calls a method of a class for a receiver, and goes on by what
-- that gives, as if it were a reply; or gives a value back, if it gives one.
pub data Script (R V : Type 0) : Type 0 where
  Ask : Request R V → (Reply R V → Script R V) → Script R V
  Call : Called → (class : ℕ) → (receiver : R) → (Reply R V → Script R V) → Script R V
  Return : Option V → Script R V

-- ints are added as by iadd (JVMS 6.5)
abbrev pub sum : ℤ → ℤ → ℤ
sum a b = int_wrapping_add w32 a b

abbrev pub greater : ℤ → ℤ → ℤ
greater a b = if int_lt a b then b else a

abbrev pub is_empty : List ℕ → Bool
is_empty [] = true
is_empty (b ∷ bytes) = false

-- how many an int counts
abbrev pub count_of : ℤ → ℕ
count_of (pos n) = n
count_of (negsuc n) = 0

-- the capacity of a builder that has c chars and gets more, for so many in all
abbrev pub larger : (c total : ℤ) → ℤ
larger c total = greater (sum (sum c c) (pos 2)) total

-- the fields of built-in classes
abbrev pub field : ℕ → ℕ → Kind → FieldAt
field class at kind = record { class = class; is_static = false; at = at; kind = kind }

module _ (known : Known) where
  abbrev pub value_field : FieldAt
  value_field = field known.builder 0 L

  abbrev pub count_field : FieldAt
  count_field = field known.builder 1 I

  abbrev pub target_field : FieldAt
  target_field = field known.thread 0 L

  abbrev pub message_field : FieldAt
  message_field = field known.throwable 0 L

module _ {R V : Type 0} (x : Values R V) (known : Known) (from : At) where
  -- one request; what the reply holds is given back
  abbrev pub once : Request R V → Script R V
  once q = Ask q (λ r. Return (item_in r))

  abbrev pub gives_int : ℤ → Script R V
  gives_int i = Return (Some (x.of_int i))

  abbrev pub char_at : (text : R) → ℤ → Request R V
  char_at text i = ask.GetElement from text i TextKind

  -- String.equals: the chars of two Strings are asked for until two differ; i were, and n are left
  abbrev pub same_chars : (left right : R) → (i n : ℕ) → Script R V
  same_chars left right i zero = gives_int (pos 1)
  same_chars left right i (suc n) = Ask (char_at left (pos i)) (λ a. Ask (char_at right (pos i)) (λ b.
      if int_eq (int_in x a) (int_in x b) then same_chars left right (i + 1) n else gives_int (pos 0)))

  abbrev pub same_lengths : (left right : R) → Script R V
  same_lengths left right = Ask (ask.Length from left) (λ m. Ask (ask.Length from right) (λ n.
      if int_eq (int_in x m) (int_in x n) then same_chars left right 0 (count_of (int_in x m)) else gives_int
      (pos 0)))

  -- Same, and yes ends it; null isn't equal; IsA String, and no ends it; then the lengths and the chars
  abbrev pub equals : (left right : R) → Script R V
  equals left right = Ask (ask.Same from left right) (λ same.
      if is_yes x same then gives_int (pos 1)
      else (if x.is_null right then gives_int (pos 0)
      else Ask (ask.IsA from right known.string) (λ text.
      if is_yes x text then same_lengths left right else gives_int (pos 0))))

  -- The text of an object that isn't null: a String is its own; another is asked for its class, whose
  -- toString() is called.
  abbrev pub object_text : (object : R) → (Text R → Script R V) → Script R V
  object_text object goes_on = Ask (ask.IsA from object known.string) (λ text.
      if is_yes x text then goes_on (String object)
      else Ask (ask.ClassOf from object known.object) (λ class.
      Call ToString (class_in class) object (λ r. goes_on (string_text x (reference_in x r)))))

  -- null is `null`
  abbrev pub text_of : (object : R) → (Text R → Script R V) → Script R V
  text_of object goes_on = if x.is_null object then goes_on null_text else object_text object goes_on

  -- chars are read from an array or a String and put into another one, from a place on; i were, and n are
  -- left
  abbrev pub copies : (source : R) (read : Kind) (target : R) (put : Kind) (place : ℤ) → (i n : ℕ)
      → Script R V →
      Script R V
  copies source read target put place i zero goes_on = goes_on
  copies source read target put place i (suc n) goes_on = Ask (ask.GetElement from source (pos i) read) (λ r.
      Ask (ask.PutElement from target (sum place (pos i)) put (x.of_int (int_in x r))) (λ _.
      copies source read target put place (i + 1) n goes_on))

  abbrev pub puts : (target : R) (place : ℤ) → (i : ℕ) → (chars : List ℕ) → Script R V → Script R V
  puts target place i [] goes_on = goes_on
  puts target place i (c ∷ cs) goes_on = Ask (ask.PutElement from target (sum place (pos i)) C (x.of_int
      (pos c))) (λ _.
      puts target place (i + 1) cs goes_on)

  -- What appends to a StringBuilder: append gives it back, a constructor gives nothing.
  module _ (builder : R) (is_new : Bool) where
    abbrev pub given_back : Option V
    given_back = if is_new then None else Some (x.of_reference builder)

    abbrev pub counts : (total : ℤ) → Script R V
    counts total = Ask (ask.PutField from builder (count_field known) (x.of_int total))
        (λ _. Return given_back)

    -- n chars of a text go behind those that the array has, and then the count is put
    abbrev pub writes : (array : R) (count : ℤ) → Text R → (n : ℤ) → Script R V
    writes array count (Spelled spelling) n = puts array count 0 (chars_of spelling) (counts (sum count n))
    writes array count (String text) n =
        copies text TextKind array C count 0 (count_of n) (counts (sum count n))

    -- where there is no room, a larger array gets the old chars and becomes the builder's
    abbrev pub grows : (array : R) (c count : ℤ) → Text R → (n : ℤ) → Script R V
    grows array c count text n = Ask (ask.NewArray from known.chars (larger c (sum count n))) (λ made.
        copies array C (reference_in x made) C (pos 0) 0 (count_of count)
        (Ask (ask.PutField from builder (value_field known) (x.of_reference (reference_in x made))) (λ _.
        writes (reference_in x made) count text n)))

    abbrev pub makes_room : (array : R) (c count : ℤ) → Text R → (n : ℤ) → Script R V
    makes_room array c count text n =
        if int_lt c (sum count n) then grows array c count text n else writes array count text n

    -- the length of a String is asked for
    abbrev pub measures : Text R → (ℤ → Script R V) → Script R V
    measures (Spelled spelling) goes_on = goes_on (pos (length (chars_of spelling)))
    measures (String text) goes_on = Ask (ask.Length from text) (λ n. goes_on (int_in x n))

    abbrev pub appends : Text R → Script R V
    appends text = Ask (ask.GetField from builder (count_field known)) (λ count.
        Ask (ask.GetField from builder (value_field known)) (λ array.
        Ask (ask.Length from (reference_in x array)) (λ c.
        measures text (λ n. makes_room (reference_in x array) (int_in x c) (int_in x count) text n))))

  abbrev pub appends_if : (builder : R) → Option (Text R) → Script R V
  appends_if builder None = Return None
  appends_if builder (Some text) = appends builder true text

  -- a StringBuilder's constructors: 16 chars, and then a String is appended
  abbrev pub builds : (builder : R) → Option (Text R) → Script R V
  builds builder text = Ask (ask.NewArray from known.chars (pos 16)) (λ made.
      Ask (ask.PutField from builder (value_field known) (x.of_reference (reference_in x made))) (λ _.
      appends_if builder text))

  -- StringBuilder.toString: a new String gets the chars
  abbrev pub built_text : (builder : R) → Script R V
  built_text builder = Ask (ask.GetField from builder (count_field known)) (λ count.
      Ask (ask.GetField from builder (value_field known)) (λ array.
      Ask (ask.NewText from (int_in x count)) (λ made.
      copies (reference_in x array) C (reference_in x made) TextKind (pos 0) 0 (count_of (int_in x count))
      (Return (Some (x.of_reference (reference_in x made)))))))

  -- A piece is asked for until all of it is printed; a reply tells at least one byte of it.
  abbrev pub prints : (most : ℕ) (piece : List ℕ) → Script R V → Script R V
  prints zero piece goes_on = goes_on
  prints (suc most) piece goes_on = Ask (ask.Print from piece) (λ r.
      let left = drop (max 1 (printed_in r)) piece in
      if is_empty left then goes_on else prints most left goes_on)

  -- no bytes are no piece
  abbrev pub prints_all : List ℕ → Script R V → Script R V
  prints_all bytes goes_on = if is_empty bytes then goes_on else prints (length bytes) bytes goes_on

  -- characters are gathered while they fit; where one doesn't, the piece is printed, and it begins the next
  -- one
  abbrev pub gathers : (piece : List ℕ) → List (List ℕ) → (List ℕ → Script R V) → Script R V
  gathers piece [] goes_on = goes_on piece
  gathers piece (c ∷ cs) goes_on =
      if fits piece c then gathers (piece ++ c) cs goes_on else prints_all piece (gathers c cs goes_on)

  -- print and println: the stream's monitor is held meanwhile
  module _ (stream : R) (is_line : Bool) where
    abbrev pub leaves : Script R V
    leaves = Ask (ask.Exit from (key.Object stream)) (λ _. Return None)

    abbrev pub ends : (held : Option ℕ) (piece : List ℕ) → Script R V
    ends held piece = gathers piece (last_characters held is_line) (λ last. prints_all last leaves)

    -- the chars of a String from i on, of which n are left
    abbrev pub reads : (text : R) → (i n : ℕ) → (held : Option ℕ) (piece : List ℕ) → Script R V
    reads text i zero held piece = ends held piece
    reads text i (suc n) held piece = Ask (char_at text (pos i)) (λ r. let c = char_of (int_in x r) in
        gathers piece (characters held c) (λ more. reads text (i + 1) n (held_after c) more))

    abbrev pub prints_text : Text R → Script R V
    prints_text (Spelled spelling) = ends None (spelled_bytes spelling)
    prints_text (String text) = Ask (ask.Length from text) (λ n. reads text 0 (count_of (int_in x n)) None [])

    abbrev pub prints_held : Text R → Script R V
    prints_held text = Ask (ask.Enter from (key.Object stream)) (λ _. prints_text text)

  -- Thread.run: the target's run() is called, if there is one
  abbrev pub runs : (thread : R) → Script R V
  runs thread = Ask (ask.GetField from thread (target_field known)) (λ target.
      if x.is_null (reference_in x target) then Return None
      else Ask (ask.ClassOf from (reference_in x target) known.runnable) (λ class.
      Call Run (class_in class) (reference_in x target) (λ _. Return None)))

-- The request lists by method, of its arguments, of which the first is the receiver of one that isn't static.
module _ {R V : Type 0} (x : Values R V) (known : Known) (from : At) (values : List V) where
  abbrev pub this : R
  this = reference_at x values 0

  abbrev pub that : R
  that = reference_at x values 1

  abbrev pub int : ℤ
  int = int_at x values 1

  abbrev pub long : ℤ
  long = long_at x values 1

  abbrev pub asks_once : Request R V → Script R V
  asks_once = once x known from

  abbrev pub adds : Text R → Script R V
  adds = appends x known from this false

  abbrev pub shows : (is_line : Bool) → Text R → Script R V
  shows is_line = prints_held x known from this is_line

  abbrev pub request_list : Native → Script R V
  request_list native.ObjectEquals = asks_once (ask.Same from this that)
  request_list native.StringLength = asks_once (ask.Length from this)
  request_list native.StringCharAt = asks_once (char_at x known from this int)
  request_list native.StringEquals = equals x known from this that
  request_list native.BuilderInit = builds x known from this None
  request_list native.BuilderInitString = builds x known from this (Some (string_text x that))
  request_list native.AppendInt = adds (number_text int)
  request_list native.AppendLong = adds (number_text long)
  request_list native.AppendChar = adds (char_text int)
  request_list native.AppendBoolean = adds (boolean_text int)
  request_list native.AppendString = adds (string_text x that)
  request_list native.AppendObject = text_of x known from that adds
  request_list native.BuilderToString = built_text x known from this
  request_list native.PrintInt = shows false (number_text int)
  request_list native.PrintLong = shows false (number_text long)
  request_list native.PrintChar = shows false (char_text int)
  request_list native.PrintBoolean = shows false (boolean_text int)
  request_list native.PrintString = shows false (string_text x that)
  request_list native.PrintObject = text_of x known from that (shows false)
  request_list native.PrintLineInt = shows true (number_text int)
  request_list native.PrintLineLong = shows true (number_text long)
  request_list native.PrintLineChar = shows true (char_text int)
  request_list native.PrintLineBoolean = shows true (boolean_text int)
  request_list native.PrintLineString = shows true (string_text x that)
  request_list native.PrintLineObject = text_of x known from that (shows true)
  request_list native.PrintLine = shows false line_feed
  request_list native.ThreadInit = asks_once (ask.PutField from this (target_field known)
      (x.of_reference that))
  request_list native.ThreadStart = asks_once (ask.Start from this)
  request_list native.ThreadRun = runs x known from this
  request_list native.ThreadJoin = asks_once (ask.Join from this)
  request_list native.ThrowableInit = asks_once (ask.PutField from this (message_field known)
      (x.of_reference that))
  request_list native.ThrowableGetMessage = asks_once (ask.GetField from this (message_field known))
  request_list native.RegionBegin = asks_once (ask.Begin from)
  request_list native.RegionEnd = asks_once (ask.End from)
