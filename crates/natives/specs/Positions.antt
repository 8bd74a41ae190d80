-- The positions of built-in methods: the request for whose reply each waits, and what comes of a reply. That
-- they make the request lists of `Scripts` is a law.
use Rattle.std.specs.Prelude.{ℕ, ◌+◌, max, nat_lt, Bool, true, false, List, [], ◌∷◌, ◌++◌, length, drop, slice_index, ℤ, pos}
use Rattle.std.specs.Prelude.{◌+ℤ◌, int_lt, Option, Some, None, if◌then◌else◌}
use Rattle.std.specs.List.{concat}
use Rattle.std.specs.Ordering.{int_eq}
use Rattle.ap_base.specs.declared.kind.Kind.{Kind}
use Rattle.ap_base.specs.declared.kind.Kind.TheVariants.{C, Text as TextKind}
use Rattle.run_types.specs.declared.key.Key.TheVariants as key
use Rattle.run_types.specs.declared.known.Known.{Known}
use Rattle.run_types.specs.declared.resolved.At.{At}
use Rattle.natives.specs.declared.methods.Native.{Native}
use Rattle.natives.specs.declared.methods.Native.TheVariants as native
use Rattle.natives.specs.declared.requests.Request.{Request}
use Rattle.natives.specs.declared.requests.Request.TheVariants as ask
use Rattle.natives.specs.declared.requests.Reply.{Reply}
use Rattle.natives.specs.declared.texts.Spelling.{Spelling}
use Rattle.natives.specs.declared.texts.Text.{Text}
use Rattle.natives.specs.declared.texts.Text.TheVariants.{Spelled, String}
use Rattle.natives.specs.declared.utf8.Poured.{Poured}
use Rattle.natives.specs.declared.positions.Called.TheVariants.{Run, ToString}
use Rattle.natives.specs.declared.positions.Pair.{Pair}
use Rattle.natives.specs.declared.positions.Single.{Single}
use Rattle.natives.specs.declared.positions.Single.TheVariants as single
use Rattle.natives.specs.declared.positions.Equality.{Equality}
use Rattle.natives.specs.declared.positions.Equality.TheVariants as equality
use Rattle.natives.specs.declared.positions.Builder.{Builder}
use Rattle.natives.specs.declared.positions.Stream.{Stream}
use Rattle.natives.specs.declared.positions.Purpose.{Purpose}
use Rattle.natives.specs.declared.positions.Purpose.TheVariants as purpose
use Rattle.natives.specs.declared.positions.ObjectText.{ObjectText}
use Rattle.natives.specs.declared.positions.ObjectText.TheVariants as object
use Rattle.natives.specs.declared.positions.NewBuilder.{NewBuilder}
use Rattle.natives.specs.declared.positions.NewBuilder.TheVariants as new
use Rattle.natives.specs.declared.positions.Appending.{Appending}
use Rattle.natives.specs.declared.positions.Append.{Append}
use Rattle.natives.specs.declared.positions.Append.TheVariants as append
use Rattle.natives.specs.declared.positions.Copied.{Copied}
use Rattle.natives.specs.declared.positions.Copied.TheVariants as copied
use Rattle.natives.specs.declared.positions.Copying.{Copying}
use Rattle.natives.specs.declared.positions.Copies.{Copies}
use Rattle.natives.specs.declared.positions.Copies.TheVariants as copies
use Rattle.natives.specs.declared.positions.BuiltText.{BuiltText}
use Rattle.natives.specs.declared.positions.BuiltText.TheVariants as built
use Rattle.natives.specs.declared.positions.Reading.{Reading}
use Rattle.natives.specs.declared.positions.Printing.{Printing}
use Rattle.natives.specs.declared.positions.Printing.TheVariants as printing
use Rattle.natives.specs.declared.positions.Running.{Running}
use Rattle.natives.specs.declared.positions.Running.TheVariants as running
use Rattle.natives.specs.declared.positions.Position.{Position}
use Rattle.natives.specs.declared.positions.Position.TheVariants as position
use Rattle.natives.specs.declared.positions.Moved.{Moved}
use Rattle.natives.specs.declared.positions.Moved.TheVariants.{Asks, Calls, Gives}
use Rattle.natives.specs.Values.{Values, char_of, int_in, reference_in, is_yes, int_at, long_at, reference_at, item_in}
use Rattle.natives.specs.Values.{class_in, printed_in}
use Rattle.natives.specs.Texts.{chars_of, number_text, boolean_text, char_text, null_text, line_feed, string_text, characters}
use Rattle.natives.specs.Texts.{held_after, last_characters, spelled_bytes, fits}
use Rattle.natives.specs.Scripts.{sum, larger, is_empty, value_field, count_field, target_field, message_field}

-- which chars are copied, and from where on they are put
abbrev pub read_kind : {R : Type 0} → Copied R → Kind
read_kind (copied.Larger to text count n) = C
read_kind (copied.Appended to count) = TextKind
read_kind copied.Built = C

abbrev pub put_kind : {R : Type 0} → Copied R → Kind
put_kind (copied.Larger to text count n) = C
put_kind (copied.Appended to count) = C
put_kind copied.Built = TextKind

abbrev pub put_from : {R : Type 0} → Copied R → ℤ
put_from (copied.Larger to text count n) = pos 0
put_from (copied.Appended to count) = count
put_from copied.Built = pos 0

module _ {R V : Type 0} (x : Values R V) (known : Known) (from : At) where
  -- The requests.
  abbrev pub single_asks : Single R → Request R V
  single_asks (single.Same pair) = ask.Same from pair.left pair.right
  single_asks (single.Length text) = ask.Length from text
  single_asks (single.CharAt text i) = ask.GetElement from text i TextKind
  single_asks (single.SetTarget thread target) = ask.PutField from thread (target_field known)
      (x.of_reference target)
  single_asks (single.Start thread) = ask.Start from thread
  single_asks (single.Join thread) = ask.Join from thread
  single_asks (single.SetMessage throwable message) =
      ask.PutField from throwable (message_field known) (x.of_reference message)
  single_asks (single.Message throwable) = ask.GetField from throwable (message_field known)
  single_asks single.Begin = ask.Begin from
  single_asks single.End = ask.End from

  abbrev pub equality_asks : Equality R → Request R V
  equality_asks (equality.Same pair) = ask.Same from pair.left pair.right
  equality_asks (equality.IsString pair) = ask.IsA from pair.right known.string
  equality_asks (equality.LeftLength pair) = ask.Length from pair.left
  equality_asks (equality.RightLength pair m) = ask.Length from pair.right
  equality_asks (equality.LeftChar pair n i) = ask.GetElement from pair.left i TextKind
  equality_asks (equality.RightChar pair n i c) = ask.GetElement from pair.right i TextKind

  abbrev pub object_asks : ObjectText R → Request R V
  object_asks (object.IsString purpose r) = ask.IsA from r known.string
  object_asks (object.Class purpose r) = ask.ClassOf from r known.object
  object_asks (object.Result purpose) = ask.Pause

  abbrev pub new_asks : NewBuilder R → Request R V
  new_asks (new.Array builder text) = ask.NewArray from known.chars (pos 16)
  new_asks (new.Value builder text array) =
      ask.PutField from builder (value_field known) (x.of_reference array)

  abbrev pub append_asks : Append R → Request R V
  append_asks (append.Count to text) = ask.GetField from to.builder (count_field known)
  append_asks (append.Array to text count) = ask.GetField from to.builder (value_field known)
  append_asks (append.Capacity a) = ask.Length from a.array
  append_asks (append.Length a text c) = ask.Length from text
  append_asks (append.Larger a n c) = ask.NewArray from known.chars c
  append_asks (append.Value a n) =
      ask.PutField from a.to.builder (value_field known) (x.of_reference a.array)
  append_asks (append.Char to array count spelling i) =
      ask.PutElement from array (sum count (pos i)) C (x.of_int (pos (slice_index (chars_of spelling) i)))
  append_asks (append.Total to total) = ask.PutField from to.builder (count_field known) (x.of_int total)

  abbrev pub copies_asks : Copies R → Request R V
  copies_asks (copies.Read c) = ask.GetElement from c.source c.at (read_kind c.after)
  copies_asks (copies.Put c char) =
      ask.PutElement from c.target (sum (put_from c.after) c.at) (put_kind c.after) (x.of_int char)

  abbrev pub built_asks : BuiltText R → Request R V
  built_asks (built.Count builder) = ask.GetField from builder (count_field known)
  built_asks (built.Array builder count) = ask.GetField from builder (value_field known)
  built_asks (built.Text array count) = ask.NewText from count

  abbrev pub printing_asks : Printing R → Request R V
  printing_asks (printing.Enter to text) = ask.Enter from (key.Object to.stream)
  printing_asks (printing.Length to text) = ask.Length from text
  printing_asks (printing.Char to reading piece) = ask.GetElement from reading.text reading.at TextKind
  printing_asks (printing.Piece to piece rest reading) = ask.Print from piece
  printing_asks (printing.Exit stream) = ask.Exit from (key.Object stream)

  abbrev pub running_asks : Running R → Request R V
  running_asks (running.Target thread) = ask.GetField from thread (target_field known)
  running_asks (running.Class target) = ask.ClassOf from target known.runnable
  running_asks running.Result = ask.Pause

  abbrev pub asks_at : Position R → Request R V
  asks_at (position.Single p) = single_asks p
  asks_at (position.Equality p) = equality_asks p
  asks_at (position.ObjectText p) = object_asks p
  asks_at (position.NewBuilder p) = new_asks p
  asks_at (position.Append p) = append_asks p
  asks_at (position.Copies p) = copies_asks p
  asks_at (position.BuiltText p) = built_asks p
  asks_at (position.Printing p) = printing_asks p
  asks_at (position.Running p) = running_asks p

abbrev pub bytes_in : Option (List ℕ) → List ℕ
bytes_in None = []
bytes_in (Some piece) = piece

-- what a piece and further characters come to
abbrev pub pour : Option (List ℕ) → List (List ℕ) → Poured
pour piece [] = record { full = None; rest = piece }
pour piece (c ∷ cs) =
    if fits (bytes_in piece) c then pour (Some (bytes_in piece ++ c)) cs
    else record { full = piece; rest = Some (concat (c ∷ cs)) }

module _ {R V : Type 0} (x : Values R V) where
  -- What comes of a reply.
  abbrev pub gives_int : ℤ → Moved R V
  gives_int i = Gives (Some (x.of_int i))

  abbrev pub single_next : Single R → Reply R V → Moved R V
  single_next p r = Gives (item_in r)

  abbrev pub chars_from : Pair R → (n i : ℤ) → Moved R V
  chars_from pair n i =
      if int_lt i n then Asks (position.Equality (equality.LeftChar pair n i)) else gives_int (pos 1)

  abbrev pub equality_next : Equality R → Reply R V → Moved R V
  equality_next (equality.Same pair) r =
      if is_yes x r then gives_int (pos 1)
      else (if x.is_null pair.right then gives_int (pos 0)
      else Asks (position.Equality (equality.IsString pair)))
  equality_next (equality.IsString pair) r =
      if is_yes x r then Asks (position.Equality (equality.LeftLength pair)) else gives_int (pos 0)
  equality_next (equality.LeftLength pair) r = Asks (position.Equality (equality.RightLength pair
      (int_in x r)))
  equality_next (equality.RightLength pair m) r =
      if int_eq m (int_in x r) then chars_from pair m (pos 0) else gives_int (pos 0)
  equality_next (equality.LeftChar pair n i) r =
      Asks (position.Equality (equality.RightChar pair n i (int_in x r)))
  equality_next (equality.RightChar pair n i c) r =
      if int_eq c (int_in x r) then chars_from pair n (i +ℤ pos 1) else gives_int (pos 0)

  -- a text is appended or printed
  abbrev pub begins : Purpose R → Text R → Position R
  begins (purpose.Append to) text = position.Append (append.Count to text)
  begins (purpose.Print to) text = position.Printing (printing.Enter to text)

  abbrev pub object_next : ObjectText R → Reply R V → Moved R V
  object_next (object.IsString purpose o) r =
      if is_yes x r then Asks (begins purpose (String o))
      else Asks (position.ObjectText (object.Class purpose o))
  object_next (object.Class purpose o) r =
      Calls (position.ObjectText (object.Result purpose)) ToString (class_in r) o
  object_next (object.Result purpose) r = Asks (begins purpose (string_text x (reference_in x r)))

  abbrev pub appends_if : R → Option (Text R) → Moved R V
  appends_if builder None = Gives None
  appends_if builder (Some text) =
      Asks (position.Append (append.Count (record { builder = builder; is_new = true }) text))

  abbrev pub new_next : NewBuilder R → Reply R V → Moved R V
  new_next (new.Array builder text) r =
      Asks (position.NewBuilder (new.Value builder text (reference_in x r)))
  new_next (new.Value builder text array) r = appends_if builder text

  abbrev pub copied_to : R → (n : ℤ) → Copied R → Moved R V
  copied_to target n (copied.Larger to text count m) =
      Asks (position.Append (append.Value (record { to = to; text = text; count = count; array = target }) m))
  copied_to target n (copied.Appended to count) = Asks (position.Append (append.Total to (sum count n)))
  copied_to target n copied.Built = Gives (Some (x.of_reference target))

  abbrev pub copies_from : Copying R → Moved R V
  copies_from c =
      if int_lt c.at c.end then Asks (position.Copies (copies.Read c)) else copied_to c.target c.end c.after

  abbrev pub copies_next : Copies R → Reply R V → Moved R V
  copies_next (copies.Read c) r = Asks (position.Copies (copies.Put c (int_in x r)))
  copies_next (copies.Put c char) r = copies_from (record c { at = c.at +ℤ pos 1 })

  abbrev pub puts_from : Builder R → R → (count : ℤ) → Spelling → ℕ → Moved R V
  puts_from to array count spelling i =
      if nat_lt i (length (chars_of spelling)) then Asks (position.Append
      (append.Char to array count spelling i))
      else Asks (position.Append (append.Total to (sum count (pos (length (chars_of spelling))))))

  abbrev pub writes : Appending R → Text R → (n : ℤ) → Moved R V
  writes a (Spelled spelling) n = puts_from a.to a.array a.count spelling 0
  writes a (String text) n = copies_from (record {
    source = text;
    target = a.array;
    at = pos 0;
    end = n;
    after = copied.Appended a.to a.count;
  })

  abbrev pub makes_room : Appending R → (n c : ℤ) → Moved R V
  makes_room a n c =
      if int_lt c (sum a.count n) then Asks (position.Append (append.Larger a n (larger c (sum a.count n))))
      else writes a a.text n

  abbrev pub measures : Appending R → Text R → (c : ℤ) → Moved R V
  measures a (Spelled spelling) c = makes_room a (pos (length (chars_of spelling))) c
  measures a (String text) c = Asks (position.Append (append.Length a text c))

  abbrev pub given_back : Builder R → Option V
  given_back to = if to.is_new then None else Some (x.of_reference to.builder)

  abbrev pub append_next : Append R → Reply R V → Moved R V
  append_next (append.Count to text) r = Asks (position.Append (append.Array to text (int_in x r)))
  append_next (append.Array to text count) r = Asks (position.Append (append.Capacity (record {
    to = to;
    text = text;
    count = count;
    array = reference_in x r;
  })))
  append_next (append.Capacity a) r = measures a a.text (int_in x r)
  append_next (append.Length a text c) r = makes_room a (int_in x r) c
  append_next (append.Larger a n c) r = copies_from (record {
    source = a.array;
    target = reference_in x r;
    at = pos 0;
    end = a.count;
    after = copied.Larger a.to a.text a.count n;
  })
  append_next (append.Value a n) r = writes a a.text n
  append_next (append.Char to array count spelling i) r = puts_from to array count spelling (i + 1)
  append_next (append.Total to total) r = Gives (given_back to)

  abbrev pub built_next : BuiltText R → Reply R V → Moved R V
  built_next (built.Count builder) r = Asks (position.BuiltText (built.Array builder (int_in x r)))
  built_next (built.Array builder count) r = Asks (position.BuiltText (built.Text (reference_in x r) count))
  built_next (built.Text array count) r = copies_from (record {
    source = array;
    target = reference_in x r;
    at = pos 0;
    end = count;
    after = copied.Built;
  })

  abbrev pub finishes : Stream R → Option (List ℕ) → Moved R V
  finishes to None = Asks (position.Printing (printing.Exit to.stream))
  finishes to (Some piece) = Asks (position.Printing (printing.Piece to piece None None))

  abbrev pub prints_full : Stream R → Option (Reading R) → (full rest : Option (List ℕ)) →
      (Option (List ℕ) → Moved R V) → Moved R V
  prints_full to reading None rest goes_on = goes_on rest
  prints_full to reading (Some piece) rest goes_on =
      Asks (position.Printing (printing.Piece to piece rest reading))

  abbrev pub prints_poured : Stream R → Option (Reading R) → Poured → (Option (List ℕ) → Moved R V)
      → Moved R V
  prints_poured to reading poured goes_on = prints_full to reading poured.full poured.rest goes_on

  abbrev pub ends : Stream R → Option ℕ → Option (List ℕ) → Moved R V
  ends to held piece = prints_poured to None (pour piece (last_characters held to.is_line)) (finishes to)

  abbrev pub reads : Stream R → Reading R → Option (List ℕ) → Moved R V
  reads to reading piece =
      if int_lt reading.at reading.length then Asks (position.Printing (printing.Char to reading piece))
      else ends to reading.held piece

  -- the chars after the one that was read last
  abbrev pub reads_on : Stream R → Reading R → Option (List ℕ) → Moved R V
  reads_on to reading piece = reads to (record reading { at = reading.at +ℤ pos 1 }) piece

  abbrev pub resumes : Stream R → Option (Reading R) → Option (List ℕ) → Moved R V
  resumes to None piece = finishes to piece
  resumes to (Some reading) piece = reads_on to reading piece

  abbrev pub with_held : Reading R → ℕ → Reading R
  with_held reading c = record reading { held = held_after c }

  -- characters are gathered, and then the text is read on
  abbrev pub gathers : Stream R → Reading R → Option (List ℕ) → List (List ℕ) → Moved R V
  gathers to reading piece characters =
      prints_poured to (Some reading) (pour piece characters) (reads_on to reading)

  abbrev pub prints : Stream R → Option (Reading R) → Option (List ℕ) → (left : List ℕ) → Moved R V
  prints to reading rest [] = resumes to reading rest
  prints to reading rest (b ∷ bytes) = Asks (position.Printing (printing.Piece to (b ∷ bytes) rest reading))

  abbrev pub entered : Stream R → Text R → Moved R V
  entered to (Spelled spelling) = ends to None (Some (spelled_bytes spelling))
  entered to (String text) = Asks (position.Printing (printing.Length to text))

  abbrev pub printing_next : Printing R → Reply R V → Moved R V
  printing_next (printing.Enter to text) r = entered to text
  printing_next (printing.Length to text) r =
      reads to (record { text = text; at = pos 0; length = int_in x r; held = None }) None
  printing_next (printing.Char to reading piece) r =
      gathers to (with_held reading (char_of (int_in x r))) piece (characters reading.held (char_of
      (int_in x r)))
  printing_next (printing.Piece to piece rest reading) r =
      prints to reading rest (drop (max 1 (printed_in r)) piece)
  printing_next (printing.Exit stream) r = Gives None

  abbrev pub runs_target : R → Moved R V
  runs_target target = if x.is_null target then Gives None else Asks (position.Running (running.Class target))

  abbrev pub running_next : Running R → Reply R V → Moved R V
  running_next (running.Target thread) r = runs_target (reference_in x r)
  running_next (running.Class target) r = Calls (position.Running running.Result) Run (class_in r) target
  running_next running.Result r = Gives None

  abbrev pub next_at : Position R → Reply R V → Moved R V
  next_at (position.Single p) r = single_next p r
  next_at (position.Equality p) r = equality_next p r
  next_at (position.ObjectText p) r = object_next p r
  next_at (position.NewBuilder p) r = new_next p r
  next_at (position.Append p) r = append_next p r
  next_at (position.Copies p) r = copies_next p r
  next_at (position.BuiltText p) r = built_next p r
  next_at (position.Printing p) r = printing_next p r
  next_at (position.Running p) r = running_next p r

  -- Where a method stands first, given its arguments.
  module _ (values : List V) where
    abbrev pub this : R
    this = reference_at x values 0

    abbrev pub that : R
    that = reference_at x values 1

    abbrev pub pair : Pair R
    pair = record { left = this; right = that }

    abbrev pub int : ℤ
    int = int_at x values 1

    abbrev pub long : ℤ
    long = long_at x values 1

    abbrev pub adds : Purpose R
    adds = purpose.Append (record { builder = this; is_new = false })

    abbrev pub shows : (is_line : Bool) → Purpose R
    shows is_line = purpose.Print (record { stream = this; is_line = is_line })

    -- null is spelled; another object is asked for its text
    abbrev pub begins_object : Purpose R → Position R
    begins_object to =
        if x.is_null that then begins to null_text else position.ObjectText (object.IsString to that)

    abbrev pub begins_at : Native → Position R
    begins_at native.ObjectEquals = position.Single (single.Same pair)
    begins_at native.StringLength = position.Single (single.Length this)
    begins_at native.StringCharAt = position.Single (single.CharAt this int)
    begins_at native.StringEquals = position.Equality (equality.Same pair)
    begins_at native.BuilderInit = position.NewBuilder (new.Array this None)
    begins_at native.BuilderInitString = position.NewBuilder (new.Array this (Some (string_text x that)))
    begins_at native.AppendInt = begins adds (number_text int)
    begins_at native.AppendLong = begins adds (number_text long)
    begins_at native.AppendChar = begins adds (char_text int)
    begins_at native.AppendBoolean = begins adds (boolean_text int)
    begins_at native.AppendString = begins adds (string_text x that)
    begins_at native.AppendObject = begins_object adds
    begins_at native.BuilderToString = position.BuiltText (built.Count this)
    begins_at native.PrintInt = begins (shows false) (number_text int)
    begins_at native.PrintLong = begins (shows false) (number_text long)
    begins_at native.PrintChar = begins (shows false) (char_text int)
    begins_at native.PrintBoolean = begins (shows false) (boolean_text int)
    begins_at native.PrintString = begins (shows false) (string_text x that)
    begins_at native.PrintObject = begins_object (shows false)
    begins_at native.PrintLineInt = begins (shows true) (number_text int)
    begins_at native.PrintLineLong = begins (shows true) (number_text long)
    begins_at native.PrintLineChar = begins (shows true) (char_text int)
    begins_at native.PrintLineBoolean = begins (shows true) (boolean_text int)
    begins_at native.PrintLineString = begins (shows true) (string_text x that)
    begins_at native.PrintLineObject = begins_object (shows true)
    begins_at native.PrintLine = begins (shows false) line_feed
    begins_at native.ThreadInit = position.Single (single.SetTarget this that)
    begins_at native.ThreadStart = position.Single (single.Start this)
    begins_at native.ThreadRun = position.Running (running.Target this)
    begins_at native.ThreadJoin = position.Single (single.Join this)
    begins_at native.ThrowableInit = position.Single (single.SetMessage this that)
    begins_at native.ThrowableGetMessage = position.Single (single.Message this)
    begins_at native.RegionBegin = position.Single single.Begin
    begins_at native.RegionEnd = position.Single single.End
