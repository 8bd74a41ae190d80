-- Built-in methods with other references in place of theirs go alike.
use Rattle.std.proofs.Common.{◌≡◌, refl, ℕ, ◌+◌, max, Bool, true, false, List, [], ◌∷◌, length, drop, map, ℤ, pos, ◌+ℤ◌, int_lt}
use Rattle.std.proofs.Common.{nat_lt, Option, Some, None, ap, ◌∙◌}
use Rattle.std.specs.Prelude.{slice_get}
use Rattle.std.specs.Option.{option_map}
use Rattle.std.proofs.lemmas.Option.{slice_get-map}
use Rattle.std.specs.Ordering.{int_eq}
use Rattle.run_types.specs.declared.known.Known.{Known}
use Rattle.run_types.specs.declared.resolved.At.{At}
use Rattle.natives.specs.declared.methods.Native.{Native}
use Rattle.natives.specs.declared.methods.Native.TheVariants as native
use Rattle.natives.specs.declared.requests.Reply.{Reply}
use Rattle.natives.specs.declared.requests.Reply.TheVariants as reply
use Rattle.natives.specs.declared.texts.Spelling.{Spelling}
use Rattle.natives.specs.declared.texts.Text.{Text}
use Rattle.natives.specs.declared.texts.Text.TheVariants.{Spelled, String}
use Rattle.natives.specs.declared.positions.Pair.{Pair}
use Rattle.natives.specs.declared.positions.Single.TheVariants as single
use Rattle.natives.specs.declared.positions.Equality.{Equality}
use Rattle.natives.specs.declared.positions.Equality.TheVariants as equality
use Rattle.natives.specs.declared.positions.Builder.{Builder}
use Rattle.natives.specs.declared.positions.Stream.{Stream}
use Rattle.natives.specs.declared.positions.Purpose.{Purpose}
use Rattle.natives.specs.declared.positions.Purpose.TheVariants as purpose
use Rattle.natives.specs.declared.positions.ObjectText.{ObjectText}
use Rattle.natives.specs.declared.positions.ObjectText.TheVariants as object
use Rattle.natives.specs.declared.positions.NewBuilder.{NewBuilder}
use Rattle.natives.specs.declared.positions.NewBuilder.TheVariants as new
use Rattle.natives.specs.declared.positions.Appending.{Appending}
use Rattle.natives.specs.declared.positions.Append.{Append}
use Rattle.natives.specs.declared.positions.Append.TheVariants as append
use Rattle.natives.specs.declared.positions.Copied.{Copied}
use Rattle.natives.specs.declared.positions.Copied.TheVariants as copied
use Rattle.natives.specs.declared.positions.Copying.{Copying}
use Rattle.natives.specs.declared.positions.Copies.{Copies}
use Rattle.natives.specs.declared.positions.Copies.TheVariants as copies
use Rattle.natives.specs.declared.positions.BuiltText.{BuiltText}
use Rattle.natives.specs.declared.positions.BuiltText.TheVariants as built
use Rattle.natives.specs.declared.positions.Reading.{Reading}
use Rattle.natives.specs.declared.positions.Printing.{Printing}
use Rattle.natives.specs.declared.positions.Printing.TheVariants as printing
use Rattle.natives.specs.declared.positions.Running.{Running}
use Rattle.natives.specs.declared.positions.Running.TheVariants as running
use Rattle.natives.specs.declared.positions.Position.{Position}
use Rattle.natives.specs.declared.positions.Position.TheVariants as position
use Rattle.natives.specs.declared.positions.Moved.{Moved}
use Rattle.natives.specs.declared.positions.Moved.TheVariants.{Asks, Calls, Gives}
use Rattle.natives.specs.declared.states.NativeState.{NativeState}
use Rattle.natives.specs.Values.{Values, char_of, int_in, reference_in, is_yes, int_at, long_at, reference_at, item_in}
use Rattle.natives.specs.Values.{class_in, printed_in}
use Rattle.natives.specs.Texts.{chars_of, number_text, boolean_text, char_text, null_text, line_feed, string_text, characters}
use Rattle.natives.specs.Texts.{last_characters, spelled_bytes}
use Rattle.natives.specs.Scripts.{sum}
use Rattle.natives.specs.Positions as move
use Rattle.natives.specs.Positions.{pour, read_kind, put_kind, put_from}
use Rattle.natives.specs.States.{moved_of}
use Rattle.natives.proofs.Wholes.{by_bool}
use Rattle.frames.specs.declared.given.Given.{Given}
use Rattle.frames.specs.Settings.{Gives as Gives'}
use Rattle.frames.specs.Maps.{map_given, map_request, map_reply, map_native}
use Rattle.plain_frames.specs.Methods as method
use Rattle.plain_frames.specs.Moves.{map_text, map_texts, map_pair, map_equality, map_builder, map_stream, map_purpose}
use Rattle.plain_frames.specs.Moves.{map_object, map_new, map_appending, map_append, map_copied, map_copying, map_copies}
use Rattle.plain_frames.specs.Moves.{map_built, map_reading, map_readings, map_printing, map_running, map_position, map_state}
use Rattle.plain_frames.specs.Moves.{map_item, map_moved, AreAlike, MethodsGoAlike}

module _ {R S : Type 0} (f : R → S) where
  pub read_kind-map : (c : Copied R) → read_kind (map_copied f c) ≡ read_kind c
  read_kind-map (copied.Larger to text count n) = refl
  read_kind-map (copied.Appended to count) = refl
  read_kind-map copied.Built = refl

  pub put_kind-map : (c : Copied R) → put_kind (map_copied f c) ≡ put_kind c
  put_kind-map (copied.Larger to text count n) = refl
  put_kind-map (copied.Appended to count) = refl
  put_kind-map copied.Built = refl

  pub put_from-map : (c : Copied R) → put_from (map_copied f c) ≡ put_from c
  put_from-map (copied.Larger to text count n) = refl
  put_from-map (copied.Appended to count) = refl
  put_from-map copied.Built = refl

module _ {R S V W : Type 0} (f : R → S) (h : V → W) (x : Values R V) (y : Values S W) (give : V → Given R)
    (give' : W → Given S) (a : AreAlike f h x y give give') where
  -- What replies hold.
  pub int-map : (r : Reply R V) → int_in y (map_reply f h r) ≡ int_in x r
  int-map reply.Done = refl
  int-map (reply.Item v) = a.int_of v
  int-map (reply.Made r) = refl
  int-map (reply.Shape c) = refl
  int-map (reply.Init c) = refl
  int-map (reply.Printed n) = refl
  int-map (reply.Thrown r class) = refl

  pub reference-map : (r : Reply R V) → reference_in y (map_reply f h r) ≡ f (reference_in x r)
  reference-map reply.Done = a.null
  reference-map (reply.Item v) = a.reference_of v
  reference-map (reply.Made r) = refl
  reference-map (reply.Shape c) = a.null
  reference-map (reply.Init c) = a.null
  reference-map (reply.Printed n) = a.null
  reference-map (reply.Thrown r class) = a.null

  pub item-map : (r : Reply R V) → item_in (map_reply f h r) ≡ map_item f h (item_in r)
  item-map reply.Done = refl
  item-map (reply.Item v) = refl
  item-map (reply.Made r) = refl
  item-map (reply.Shape c) = refl
  item-map (reply.Init c) = refl
  item-map (reply.Printed n) = refl
  item-map (reply.Thrown r class) = refl

  pub class-map : (r : Reply R V) → class_in (map_reply f h r) ≡ class_in r
  class-map reply.Done = refl
  class-map (reply.Item v) = refl
  class-map (reply.Made r) = refl
  class-map (reply.Shape c) = refl
  class-map (reply.Init c) = refl
  class-map (reply.Printed n) = refl
  class-map (reply.Thrown r class) = refl

  pub printed-map : (r : Reply R V) → printed_in (map_reply f h r) ≡ printed_in r
  printed-map reply.Done = refl
  printed-map (reply.Item v) = refl
  printed-map (reply.Made r) = refl
  printed-map (reply.Shape c) = refl
  printed-map (reply.Init c) = refl
  printed-map (reply.Printed n) = refl
  printed-map (reply.Thrown r class) = refl

  -- The requests.
  module _ (known : Known) (from : At) where
    pub asks_at-map : (p : Position R)
        → move.asks_at y known from (map_position f p) ≡ map_request f h (move.asks_at x known from p)
    asks_at-map (position.Single (single.SetTarget r target)) = rw (a.reference target)
    asks_at-map (position.Single (single.SetMessage r message)) = rw (a.reference message)
    asks_at-map (position.Single (single.Same pair)) = refl
    asks_at-map (position.Single (single.Length r)) = refl
    asks_at-map (position.Single (single.CharAt r i)) = refl
    asks_at-map (position.Single (single.Start r)) = refl
    asks_at-map (position.Single (single.Join r)) = refl
    asks_at-map (position.Single (single.Message r)) = refl
    asks_at-map (position.Single single.Begin) = refl
    asks_at-map (position.Single single.End) = refl
    asks_at-map (position.Equality (equality.Same pair)) = refl
    asks_at-map (position.Equality (equality.IsString pair)) = refl
    asks_at-map (position.Equality (equality.LeftLength pair)) = refl
    asks_at-map (position.Equality (equality.RightLength pair m)) = refl
    asks_at-map (position.Equality (equality.LeftChar pair n i)) = refl
    asks_at-map (position.Equality (equality.RightChar pair n i c)) = refl
    asks_at-map (position.ObjectText (object.IsString to r)) = refl
    asks_at-map (position.ObjectText (object.Class to r)) = refl
    asks_at-map (position.ObjectText (object.Result to)) = refl
    asks_at-map (position.NewBuilder (new.Array r text)) = refl
    asks_at-map (position.NewBuilder (new.Value r text array)) = rw (a.reference array)
    asks_at-map (position.Append (append.Count to text)) = refl
    asks_at-map (position.Append (append.Array to text count)) = refl
    asks_at-map (position.Append (append.Capacity b)) = refl
    asks_at-map (position.Append (append.Length b r c)) = refl
    asks_at-map (position.Append (append.Larger b n c)) = refl
    asks_at-map (position.Append (append.Value b n)) = rw (a.reference b.array)
    asks_at-map (position.Append (append.Char to array count spelling i)) = rw a.int
    asks_at-map (position.Append (append.Total to total)) = rw a.int
    asks_at-map (position.Copies (copies.Read c)) = rw (read_kind-map f c.after)
    asks_at-map (position.Copies (copies.Put c char)) = rw
        (put_kind-map f c.after, put_from-map f c.after, a.int)
    asks_at-map (position.BuiltText (built.Count r)) = refl
    asks_at-map (position.BuiltText (built.Array r count)) = refl
    asks_at-map (position.BuiltText (built.Text r count)) = refl
    asks_at-map (position.Printing (printing.Enter to text)) = refl
    asks_at-map (position.Printing (printing.Length to r)) = refl
    asks_at-map (position.Printing (printing.Char to reading piece)) = refl
    asks_at-map (position.Printing (printing.Piece to piece rest reading)) = refl
    asks_at-map (position.Printing (printing.Exit r)) = refl
    asks_at-map (position.Running (running.Target r)) = refl
    asks_at-map (position.Running (running.Class r)) = refl
    asks_at-map (position.Running running.Result) = refl

  -- The moves.
  pub gives_int-map : (i : ℤ) → move.gives_int y i ≡ map_moved f h (move.gives_int x i)
  gives_int-map i = let gives : W → Moved S W = λ v. Gives (Some v) in ap gives (a.int i)

  pub chars_from-map : (pair : Pair R) (n i : ℤ)
      → move.chars_from y (map_pair f pair) n i ≡ map_moved f h (move.chars_from x pair n i)
  chars_from-map pair n i = by_bool (int_lt i n) (λ is. rw is) (λ is. rw is (gives_int-map (pos 1)))

  pub equality-map : (p : Equality R) (r : Reply R V)
      → move.equality_next y (map_equality f p) (map_reply f h r) ≡ map_moved f h (move.equality_next x p r)
  equality-map (equality.Same pair) r = rw (int-map r, a.is_null pair.right) (by_bool (is_yes x r)
      (λ is. rw is (gives_int-map (pos 1)))
      (λ is. rw is (by_bool (x.is_null pair.right) (λ null. rw null (gives_int-map (pos 0)))
      (λ null. rw null))))
  equality-map (equality.IsString pair) r = rw (int-map r)
      (by_bool (is_yes x r) (λ is. rw is) (λ is. rw is (gives_int-map (pos 0))))
  equality-map (equality.LeftLength pair) r = rw (int-map r)
  equality-map (equality.RightLength pair m) r = rw (int-map r) (by_bool (int_eq m (int_in x r))
      (λ is. rw is (chars_from-map pair m (pos 0))) (λ is. rw is (gives_int-map (pos 0))))
  equality-map (equality.LeftChar pair n i) r = rw (int-map r)
  equality-map (equality.RightChar pair n i c) r = rw (int-map r) (by_bool (int_eq c (int_in x r))
      (λ is. rw is (chars_from-map pair n (i +ℤ pos 1))) (λ is. rw is (gives_int-map (pos 0))))

  pub begins-map : (to : Purpose R) (text : Text R)
      → move.begins y (map_purpose f to) (map_text f text) ≡ map_position f (move.begins x to text)
  begins-map (purpose.Append to) text = refl
  begins-map (purpose.Print to) text = refl

  pub string_text-map : (r : R) → string_text y (f r) ≡ map_text f (string_text x r)
  string_text-map r = rw (a.is_null r) (by_bool (x.is_null r) (λ is. rw is) (λ is. rw is))

  pub object-map : (p : ObjectText R) (r : Reply R V)
      → move.object_next y (map_object f p) (map_reply f h r) ≡ map_moved f h (move.object_next x p r)
  object-map (object.IsString to o) r = rw (int-map r)
      (by_bool (is_yes x r) (λ is. rw is (ap Asks (begins-map to (String o)))) (λ is. rw is))
  object-map (object.Class to o) r = rw (class-map r)
  object-map (object.Result to) r = ap (λ text. Asks (move.begins y (map_purpose f to) text))
      (ap (string_text y) (reference-map r) ∙ string_text-map (reference_in x r))
      ∙ ap Asks (begins-map to (string_text x (reference_in x r)))

  pub appends_if-map : (builder : R) (text : Option (Text R))
      → move.appends_if y (f builder) (map_texts f text) ≡ map_moved f h (move.appends_if x builder text)
  appends_if-map builder None = refl
  appends_if-map builder (Some text) = refl

  pub new-map : (p : NewBuilder R) (r : Reply R V)
      → move.new_next y (map_new f p) (map_reply f h r) ≡ map_moved f h (move.new_next x p r)
  new-map (new.Array builder text) r = rw (reference-map r)
  new-map (new.Value builder text array) r = appends_if-map builder text

  pub copied-map : (target : R) (n : ℤ) (c : Copied R)
      → move.copied_to y (f target) n (map_copied f c) ≡ map_moved f h (move.copied_to x target n c)
  copied-map target n (copied.Larger to text count m) = refl
  copied-map target n (copied.Appended to count) = refl
  copied-map target n copied.Built = let gives : W → Moved S W = λ v. Gives (Some v) in ap gives
      (a.reference target)

  pub copies_from-map : (c : Copying R)
      → move.copies_from y (map_copying f c) ≡ map_moved f h (move.copies_from x c)
  copies_from-map c = by_bool (int_lt c.at c.end) (λ is. rw is) (λ is. rw is
      (copied-map c.target c.end c.after))

  pub copies-map : (p : Copies R) (r : Reply R V)
      → move.copies_next y (map_copies f p) (map_reply f h r) ≡ map_moved f h (move.copies_next x p r)
  copies-map (copies.Read c) r = rw (int-map r)
  copies-map (copies.Put c char) r = copies_from-map (record c { at = c.at +ℤ pos 1 })

  pub puts_from-map : (to : Builder R) (array : R) (count : ℤ) (spelling : Spelling) (i : ℕ)
      → move.puts_from y (map_builder f to) (f array) count spelling i
      ≡ map_moved f h (move.puts_from x to array count spelling i)
  puts_from-map to array count spelling i =
      by_bool (nat_lt i (length (chars_of spelling))) (λ is. rw is) (λ is. rw is)

  pub writes-map : (b : Appending R) (text : Text R) (n : ℤ)
      → move.writes y (map_appending f b) (map_text f text) n ≡ map_moved f h (move.writes x b text n)
  writes-map b (Spelled spelling) n = puts_from-map b.to b.array b.count spelling 0
  writes-map b (String text) n = copies_from-map (record {
    source = text;
    target = b.array;
    at = pos 0;
    end = n;
    after = copied.Appended b.to b.count;
  })

  pub makes_room-map : (b : Appending R) (n c : ℤ)
      → move.makes_room y (map_appending f b) n c ≡ map_moved f h (move.makes_room x b n c)
  makes_room-map b n c =
      by_bool (int_lt c (sum b.count n)) (λ is. rw is) (λ is. rw is (writes-map b b.text n))

  pub measures-map : (b : Appending R) (text : Text R) (c : ℤ)
      → move.measures y (map_appending f b) (map_text f text) c ≡ map_moved f h (move.measures x b text c)
  measures-map b (Spelled spelling) c = makes_room-map b (pos (length (chars_of spelling))) c
  measures-map b (String text) c = refl

  pub given_back-map : (to : Builder R)
      → move.given_back y (map_builder f to) ≡ map_item f h (move.given_back x to)
  given_back-map to = by_bool to.is_new (λ is. rw is) (λ is. rw is (ap Some (a.reference to.builder)))

  pub append-map : (p : Append R) (r : Reply R V)
      → move.append_next y (map_append f p) (map_reply f h r) ≡ map_moved f h (move.append_next x p r)
  append-map (append.Count to text) r = rw (int-map r)
  append-map (append.Array to text count) r = rw (reference-map r)
  append-map (append.Capacity b) r = rw (int-map r) (measures-map b b.text (int_in x r))
  append-map (append.Length b text c) r = rw (int-map r) (makes_room-map b (int_in x r) c)
  append-map (append.Larger b n c) r = rw (reference-map r) (copies_from-map (record {
    source = b.array;
    target = reference_in x r;
    at = pos 0;
    end = b.count;
    after = copied.Larger b.to b.text b.count n;
  }))
  append-map (append.Value b n) r = writes-map b b.text n
  append-map (append.Char to array count spelling i) r = puts_from-map to array count spelling (i + 1)
  append-map (append.Total to total) r = ap Gives (given_back-map to)

  pub built-map : (p : BuiltText R) (r : Reply R V)
      → move.built_next y (map_built f p) (map_reply f h r) ≡ map_moved f h (move.built_next x p r)
  built-map (built.Count builder) r = rw (int-map r)
  built-map (built.Array builder count) r = rw (reference-map r)
  built-map (built.Text array count) r = rw (reference-map r) (copies_from-map (record {
    source = array;
    target = reference_in x r;
    at = pos 0;
    end = count;
    after = copied.Built;
  }))

  pub finishes-map : (to : Stream R) (piece : Option (List ℕ))
      → move.finishes y (map_stream f to) piece ≡ map_moved f h (move.finishes x to piece)
  finishes-map to None = refl
  finishes-map to (Some piece) = refl

  pub full-map : (to : Stream R) (reading : Option (Reading R)) (full rest : Option (List ℕ))
      (k : Option (List ℕ) → Moved R V) (k' : Option (List ℕ) → Moved S W)
      → ((piece : Option (List ℕ)) → k' piece ≡ map_moved f h (k piece))
      → move.prints_full y (map_stream f to) (map_readings f reading) full rest k'
      ≡ map_moved f h (move.prints_full x to reading full rest k)
  full-map to reading None rest k k' alike = alike rest
  full-map to reading (Some piece) rest k k' alike = refl

  pub ends-map : (to : Stream R) (held : Option ℕ) (piece : Option (List ℕ))
      → move.ends y (map_stream f to) held piece ≡ map_moved f h (move.ends x to held piece)
  ends-map to held piece = let poured = pour piece (last_characters held to.is_line) in
      full-map to None poured.full poured.rest (move.finishes x to) (move.finishes y (map_stream f to))
      (finishes-map to)

  pub reads-map : (to : Stream R) (reading : Reading R) (piece : Option (List ℕ))
      → move.reads y (map_stream f to) (map_reading f reading) piece ≡ map_moved f h
      (move.reads x to reading piece)
  reads-map to reading piece =
      by_bool (int_lt reading.at reading.length) (λ is. rw is) (λ is. rw is (ends-map to reading.held piece))

  pub reads_on-map : (to : Stream R) (reading : Reading R) (piece : Option (List ℕ))
      → move.reads_on y (map_stream f to) (map_reading f reading) piece
      ≡ map_moved f h (move.reads_on x to reading piece)
  reads_on-map to reading piece = reads-map to (record reading { at = reading.at +ℤ pos 1 }) piece

  pub resumes-map : (to : Stream R) (reading : Option (Reading R)) (piece : Option (List ℕ))
      → move.resumes y (map_stream f to) (map_readings f reading) piece
      ≡ map_moved f h (move.resumes x to reading piece)
  resumes-map to None piece = finishes-map to piece
  resumes-map to (Some reading) piece = reads_on-map to reading piece

  pub gathers-map : (to : Stream R) (reading : Reading R) (piece : Option (List ℕ)) (cs : List (List ℕ))
      → move.gathers y (map_stream f to) (map_reading f reading) piece cs
      ≡ map_moved f h (move.gathers x to reading piece cs)
  gathers-map to reading piece cs = let poured = pour piece cs in
      full-map to (Some reading) poured.full poured.rest (move.reads_on x to reading)
      (move.reads_on y (map_stream f to) (map_reading f reading)) (reads_on-map to reading)

  pub prints-map : (to : Stream R) (reading : Option (Reading R)) (rest : Option (List ℕ)) (left : List ℕ)
      → move.prints y (map_stream f to) (map_readings f reading) rest left
      ≡ map_moved f h (move.prints x to reading rest left)
  prints-map to reading rest [] = resumes-map to reading rest
  prints-map to reading rest (b ∷ bytes) = refl

  pub entered-map : (to : Stream R) (text : Text R)
      → move.entered y (map_stream f to) (map_text f text) ≡ map_moved f h (move.entered x to text)
  entered-map to (Spelled spelling) = ends-map to None (Some (spelled_bytes spelling))
  entered-map to (String text) = refl

  pub printing-map : (p : Printing R) (r : Reply R V)
      → move.printing_next y (map_printing f p) (map_reply f h r) ≡ map_moved f h (move.printing_next x p r)
  printing-map (printing.Enter to text) r = entered-map to text
  printing-map (printing.Length to text) r = rw (int-map r)
      (reads-map to (record { text = text; at = pos 0; length = int_in x r; held = None }) None)
  printing-map (printing.Char to reading piece) r = rw (int-map r)
      (gathers-map to (move.with_held x reading (char_of (int_in x r))) piece
      (characters reading.held (char_of (int_in x r))))
  printing-map (printing.Piece to piece rest reading) r = rw (printed-map r)
      (prints-map to reading rest (drop (max 1 (printed_in r)) piece))
  printing-map (printing.Exit stream) r = refl

  pub runs_target-map : (target : R) → move.runs_target y (f target) ≡ map_moved f h
      (move.runs_target x target)
  runs_target-map target = rw (a.is_null target) (by_bool (x.is_null target) (λ is. rw is) (λ is. rw is))

  pub running-map : (p : Running R) (r : Reply R V)
      → move.running_next y (map_running f p) (map_reply f h r) ≡ map_moved f h (move.running_next x p r)
  running-map (running.Target thread) r =
      ap (move.runs_target y) (reference-map r) ∙ runs_target-map (reference_in x r)
  running-map (running.Class target) r = rw (class-map r)
  running-map running.Result r = refl

  pub next_at-map : (p : Position R) (r : Reply R V)
      → move.next_at y (map_position f p) (map_reply f h r) ≡ map_moved f h (move.next_at x p r)
  next_at-map (position.Single p) r = ap Gives (item-map r)
  next_at-map (position.Equality p) r = equality-map p r
  next_at-map (position.ObjectText p) r = object-map p r
  next_at-map (position.NewBuilder p) r = new-map p r
  next_at-map (position.Append p) r = append-map p r
  next_at-map (position.Copies p) r = copies-map p r
  next_at-map (position.BuiltText p) r = built-map p r
  next_at-map (position.Printing p) r = printing-map p r
  next_at-map (position.Running p) r = running-map p r

  -- The first positions.
  abbrev pub int_if : {T U : Type 0} → Values T U → Option U → ℤ
  int_if z o = elim o as (λ _. ℤ) [ None ↦ pos 0 | Some v ↦ z.int_of v ]

  abbrev pub long_if : {T U : Type 0} → Values T U → Option U → ℤ
  long_if z o = elim o as (λ _. ℤ) [ None ↦ pos 0 | Some v ↦ z.long_of v ]

  abbrev pub reference_if : {T U : Type 0} → Values T U → Option U → T
  reference_if {T} z o = elim o as (λ _. T) [ None ↦ z.null | Some v ↦ z.reference_of v ]

  pub int_if-map : (o : Option V) → int_if y (option_map h o) ≡ int_if x o
  int_if-map None = refl
  int_if-map (Some v) = a.int_of v

  pub int_at-map : (values : List V) (k : ℕ) → int_at y (map h values) k ≡ int_at x values k
  int_at-map values k = ap (int_if y) (slice_get-map h values k) ∙ int_if-map (slice_get values k)

  pub long_if-map : (o : Option V) → long_if y (option_map h o) ≡ long_if x o
  long_if-map None = refl
  long_if-map (Some v) = a.long_of v

  pub long_at-map : (values : List V) (k : ℕ) → long_at y (map h values) k ≡ long_at x values k
  long_at-map values k = ap (long_if y) (slice_get-map h values k) ∙ long_if-map (slice_get values k)

  pub reference_if-map : (o : Option V) → reference_if y (option_map h o) ≡ f (reference_if x o)
  reference_if-map None = a.null
  reference_if-map (Some v) = a.reference_of v

  pub reference_at-map : (values : List V) (k : ℕ) → reference_at y (map h values) k ≡ f
      (reference_at x values k)
  reference_at-map values k = ap (reference_if y) (slice_get-map h values k) ∙ reference_if-map
      (slice_get values k)

  module _ (values : List V) where
    pub this-map : move.this y (map h values) ≡ f (move.this x values)
    this-map = reference_at-map values 0

    pub that-map : move.that y (map h values) ≡ f (move.that x values)
    that-map = reference_at-map values 1

    pub pair-map : move.pair y (map h values) ≡ map_pair f (move.pair x values)
    pair-map = rw (reference_at-map values 0, reference_at-map values 1)

    pub adds-map : move.adds y (map h values) ≡ map_purpose f (move.adds x values)
    adds-map = rw (reference_at-map values 0)

    pub shows-map : (is_line : Bool) → move.shows y (map h values) is_line ≡ map_purpose f
        (move.shows x values is_line)
    shows-map is_line = rw (reference_at-map values 0)

    pub begins_alike : (to' : Purpose S) (to : Purpose R) (text' : Text S) (text : Text R)
        → to' ≡ map_purpose f to → text' ≡ map_text f text
        → move.begins y to' text' ≡ map_position f (move.begins x to text)
    begins_alike to' to text' text e t = ap (λ u. move.begins y u text') e
        ∙ ap (λ u. move.begins y (map_purpose f to) u) t ∙ begins-map to text

    pub begins_object-map : (to' : Purpose S) (to : Purpose R) → to' ≡ map_purpose f to
        → move.begins_object y (map h values) to' ≡ map_position f (move.begins_object x values to)
    begins_object-map to' to e = rw (e, reference_at-map values 1, a.is_null (reference_at x values 1))
        (by_bool (x.is_null (reference_at x values 1)) (λ is. rw is (begins-map to null_text)) (λ is. rw is))

    pub string-map : string_text y (move.that y (map h values)) ≡ map_text f (string_text x
        (move.that x values))
    string-map = ap (string_text y) that-map ∙ string_text-map (move.that x values)

    pub number-map : number_text (move.int y (map h values)) ≡ map_text f (number_text (move.int x values))
    number-map = ap (number_text {R = S}) (int_at-map values 1)

    pub long-map : number_text (move.long y (map h values)) ≡ map_text f (number_text (move.long x values))
    long-map = ap (number_text {R = S}) (long_at-map values 1)

    pub char-map : char_text (move.int y (map h values)) ≡ map_text f (char_text (move.int x values))
    char-map = ap (char_text {R = S}) (int_at-map values 1)

    pub boolean-map : boolean_text (move.int y (map h values)) ≡ map_text f (boolean_text (move.int x values))
    boolean-map = ap (boolean_text {R = S}) (int_at-map values 1)

    pub begins_at-map : (method : Native)
        → move.begins_at y (map h values) method ≡ map_position f (move.begins_at x values method)
    begins_at-map native.ObjectEquals = ap (λ pair. position.Single (single.Same pair)) pair-map
    begins_at-map native.StringLength = ap (λ r. position.Single (single.Length r)) this-map
    begins_at-map native.StringCharAt = ap (λ r. position.Single (single.CharAt r (move.int y
        (map h values)))) this-map
        ∙ ap (λ i. position.Single (single.CharAt (f (move.this x values)) i)) (int_at-map values 1)
    begins_at-map native.StringEquals = ap (λ pair. position.Equality (equality.Same pair)) pair-map
    begins_at-map native.BuilderInit = ap (λ r. position.NewBuilder (new.Array r None)) this-map
    begins_at-map native.BuilderInitString =
        ap (λ r. position.NewBuilder (new.Array r (Some (string_text y (move.that y
        (map h values)))))) this-map
        ∙ ap (λ text. position.NewBuilder (new.Array (f (move.this x values)) (Some text))) string-map
    begins_at-map native.AppendInt = begins_alike _ (move.adds x values) _ (number_text
        (move.int x values)) adds-map number-map
    begins_at-map native.AppendLong = begins_alike _ (move.adds x values) _ (number_text
        (move.long x values)) adds-map long-map
    begins_at-map native.AppendChar = begins_alike _ (move.adds x values) _ (char_text
        (move.int x values)) adds-map char-map
    begins_at-map native.AppendBoolean = begins_alike _ (move.adds x values) _ (boolean_text
        (move.int x values)) adds-map boolean-map
    begins_at-map native.AppendString = begins_alike _ (move.adds x values) _ (string_text x
        (move.that x values)) adds-map string-map
    begins_at-map native.AppendObject = begins_object-map _ (move.adds x values) adds-map
    begins_at-map native.BuilderToString = ap (λ r. position.BuiltText (built.Count r)) this-map
    begins_at-map native.PrintInt = begins_alike _ (move.shows x values false) _ (number_text
        (move.int x values)) (shows-map false) number-map
    begins_at-map native.PrintLong = begins_alike _ (move.shows x values false) _ (number_text
        (move.long x values)) (shows-map false) long-map
    begins_at-map native.PrintChar = begins_alike _ (move.shows x values false) _ (char_text
        (move.int x values)) (shows-map false) char-map
    begins_at-map native.PrintBoolean = begins_alike _ (move.shows x values false) _ (boolean_text
        (move.int x values)) (shows-map false) boolean-map
    begins_at-map native.PrintString = begins_alike _ (move.shows x values false) _ (string_text x
        (move.that x values)) (shows-map false) string-map
    begins_at-map native.PrintObject = begins_object-map _ (move.shows x values false) (shows-map false)
    begins_at-map native.PrintLineInt = begins_alike _ (move.shows x values true) _ (number_text
        (move.int x values)) (shows-map true) number-map
    begins_at-map native.PrintLineLong = begins_alike _ (move.shows x values true) _ (number_text
        (move.long x values)) (shows-map true) long-map
    begins_at-map native.PrintLineChar = begins_alike _ (move.shows x values true) _ (char_text
        (move.int x values)) (shows-map true) char-map
    begins_at-map native.PrintLineBoolean = begins_alike _ (move.shows x values true) _ (boolean_text
        (move.int x values)) (shows-map true) boolean-map
    begins_at-map native.PrintLineString = begins_alike _ (move.shows x values true) _ (string_text x
        (move.that x values)) (shows-map true) string-map
    begins_at-map native.PrintLineObject = begins_object-map _ (move.shows x values true) (shows-map true)
    begins_at-map native.PrintLine = begins_alike _ (move.shows x values false) line_feed line_feed
        (shows-map false) refl
    begins_at-map native.ThreadInit = ap (λ r. position.Single (single.SetTarget r (move.that y
        (map h values)))) this-map
        ∙ ap (λ r. position.Single (single.SetTarget (f (move.this x values)) r)) that-map
    begins_at-map native.ThreadStart = ap (λ r. position.Single (single.Start r)) this-map
    begins_at-map native.ThreadRun = ap (λ r. position.Running (running.Target r)) this-map
    begins_at-map native.ThreadJoin = ap (λ r. position.Single (single.Join r)) this-map
    begins_at-map native.ThrowableInit = ap (λ r. position.Single (single.SetMessage r (move.that y
        (map h values)))) this-map
        ∙ ap (λ r. position.Single (single.SetMessage (f (move.this x values)) r)) that-map
    begins_at-map native.ThrowableGetMessage = ap (λ r. position.Single (single.Message r)) this-map
    begins_at-map native.RegionBegin = refl
    begins_at-map native.RegionEnd = refl

  -- What frames ask of the methods.
  pub given-map : (v : Option V) → method.given_back give' (map_item f h v) ≡ map_given f
      (method.given_back give v)
  given-map None = refl
  given-map (Some v) = a.given v

  pub step-map : (s : NativeState R) (m : Moved R V)
      → method.step y give' (map_state f s) (map_moved f h m) ≡ map_native f (map_state f)
      (method.step x give s m)
  step-map s (Asks p) = refl
  step-map s (Calls p called class receiver) = refl
  step-map s (Gives v) = ap Gives' (given-map v)

  pub moved-map : (s : NativeState R) (r : Reply R V)
      → moved_of y (map_state f s) (map_reply f h r) ≡ map_moved f h (moved_of x s r)
  moved-map s r = by_bool s.is_begun (λ is. rw is (next_at-map s.position r)) (λ is. rw is)

  pub methods_go_alike : MethodsGoAlike f h x y give give'
  methods_go_alike = record {
    start = λ known k from values. ap
        (λ p. record { known = known; from = from; is_begun = true; position = p })
        (begins_at-map values k);
    asks = λ s. asks_at-map s.known s.from s.position;
    next = λ s r. ap (method.step y give' (map_state f s)) (moved-map s r) ∙ step-map s (moved_of x s r);
  }
