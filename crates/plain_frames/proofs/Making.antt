-- Built-in methods in progress make their request lists, as the positions do.
use Rattle.std.proofs.Common.{◌≡◌, refl, ℕ, ◌+◌, Bool, true, false, List, [], ◌∷◌, length, nat_lt, Option, Some, None, ap, sym}
use Rattle.std.specs.Prelude.{ℤ, pos, ◌+ℤ◌, int_lt, drop, max}
use Rattle.std.specs.Ordering.{int_eq}
use Rattle.run_types.specs.declared.known.Known.{Known}
use Rattle.run_types.specs.declared.resolved.At.{At}
use Rattle.natives.specs.declared.requests.Request.TheVariants as ask
use Rattle.natives.specs.declared.requests.Reply.{Reply}
use Rattle.natives.specs.declared.texts.Spelling.{Spelling}
use Rattle.natives.specs.declared.texts.Text.{Text}
use Rattle.natives.specs.declared.texts.Text.TheVariants.{Spelled, String}
use Rattle.natives.specs.declared.positions.Pair.{Pair}
use Rattle.natives.specs.declared.positions.Equality.{Equality}
use Rattle.natives.specs.declared.positions.Equality.TheVariants as equality
use Rattle.natives.specs.declared.positions.Builder.{Builder}
use Rattle.natives.specs.declared.positions.Stream.{Stream}
use Rattle.natives.specs.declared.positions.ObjectText.{ObjectText}
use Rattle.natives.specs.declared.positions.ObjectText.TheVariants as object
use Rattle.natives.specs.declared.positions.NewBuilder.{NewBuilder}
use Rattle.natives.specs.declared.positions.NewBuilder.TheVariants as new
use Rattle.natives.specs.declared.positions.Appending.{Appending}
use Rattle.natives.specs.declared.positions.Append.{Append}
use Rattle.natives.specs.declared.positions.Append.TheVariants as append
use Rattle.natives.specs.declared.positions.Copied.{Copied}
use Rattle.natives.specs.declared.positions.Copied.TheVariants as copied
use Rattle.natives.specs.declared.positions.Copying.{Copying}
use Rattle.natives.specs.declared.positions.Copies.{Copies}
use Rattle.natives.specs.declared.positions.Copies.TheVariants as copies
use Rattle.natives.specs.declared.positions.BuiltText.{BuiltText}
use Rattle.natives.specs.declared.positions.BuiltText.TheVariants as built
use Rattle.natives.specs.declared.positions.Reading.{Reading}
use Rattle.natives.specs.declared.positions.Printing.{Printing}
use Rattle.natives.specs.declared.positions.Printing.TheVariants as printing
use Rattle.natives.specs.declared.positions.Running.{Running}
use Rattle.natives.specs.declared.positions.Running.TheVariants as running
use Rattle.natives.specs.declared.positions.Position.{Position}
use Rattle.natives.specs.declared.positions.Position.TheVariants as position
use Rattle.natives.specs.declared.positions.Moved.{Moved}
use Rattle.natives.specs.declared.positions.Moved.TheVariants.{Asks, Calls, Gives}
use Rattle.natives.specs.declared.states.NativeState.{NativeState}
use Rattle.natives.specs.declared.states.NativeStep.TheVariants as step
use Rattle.natives.specs.Values.{Values, char_of, int_in, reference_in, is_yes, printed_in}
use Rattle.natives.specs.Texts.{chars_of, characters, last_characters, spelled_bytes}
use Rattle.natives.specs.Scripts.{Script, Ask, Call, Return, sum, request_list}
use Rattle.natives.specs.Positions.{pour}
use Rattle.natives.specs.Positions as move
use Rattle.natives.specs.States.{step_of, state_after}
use Rattle.natives.specs.Follows.{Follows, MakeTheirRequestLists}
use Rattle.natives.proofs.Wholes.{by_bool}
use Rattle.frames.specs.declared.given.Given.{Given}
use Rattle.plain_frames.specs.Methods as method
use Rattle.plain_frames.specs.RequestLists.{first_of, Makes, StatesMakeTheirRequestLists, GoesOn, FramesMakeTheirRequestLists}

module _ {R V : Type 0} (x : Values R V) (known : Known) (from : At) where
  -- Where it calls, it waits with Pause.
  abbrev pub Pauses : Moved R V → Type 0
  Pauses (Asks p) = Unit {0}
  Pauses (Calls p called class receiver) = move.asks_at x known from p ≡ ask.Pause
  Pauses (Gives v) = Unit {0}

  chars_from_pauses : (pair : Pair R) (n i : ℤ) → Pauses (move.chars_from x pair n i)
  chars_from_pauses pair n i = by_bool (int_lt i n) (λ is. rw is tt) (λ is. rw is tt)

  equality_pauses : (p : Equality R) (r : Reply R V) → Pauses (move.equality_next x p r)
  equality_pauses (equality.Same pair) r = by_bool (is_yes x r) (λ is. rw is tt)
      (λ is. rw is (by_bool (x.is_null pair.right) (λ null. rw null tt) (λ null. rw null tt)))
  equality_pauses (equality.IsString pair) r = by_bool (is_yes x r) (λ is. rw is tt) (λ is. rw is tt)
  equality_pauses (equality.LeftLength pair) r = tt
  equality_pauses (equality.RightLength pair m) r = by_bool (int_eq m (int_in x r))
      (λ is. rw is (chars_from_pauses pair m (pos 0))) (λ is. rw is tt)
  equality_pauses (equality.LeftChar pair n i) r = tt
  equality_pauses (equality.RightChar pair n i c) r = by_bool (int_eq c (int_in x r))
      (λ is. rw is (chars_from_pauses pair n (i +ℤ pos 1))) (λ is. rw is tt)

  object_pauses : (p : ObjectText R) (r : Reply R V) → Pauses (move.object_next x p r)
  object_pauses (object.IsString to o) r = by_bool (is_yes x r) (λ is. rw is tt) (λ is. rw is tt)
  object_pauses (object.Class to o) r = refl
  object_pauses (object.Result to) r = tt

  new_pauses : (p : NewBuilder R) (r : Reply R V) → Pauses (move.new_next x p r)
  new_pauses (new.Array b text) r = tt
  new_pauses (new.Value b None array) r = tt
  new_pauses (new.Value b (Some text) array) r = tt

  copied_pauses : (target : R) (n : ℤ) (c : Copied R) → Pauses (move.copied_to x target n c)
  copied_pauses target n (copied.Larger to text count m) = tt
  copied_pauses target n (copied.Appended to count) = tt
  copied_pauses target n copied.Built = tt

  copies_from_pauses : (c : Copying R) → Pauses (move.copies_from x c)
  copies_from_pauses c = by_bool (int_lt c.at c.end) (λ is. rw is tt)
      (λ is. rw is (copied_pauses c.target c.end c.after))

  copies_pauses : (p : Copies R) (r : Reply R V) → Pauses (move.copies_next x p r)
  copies_pauses (copies.Read c) r = tt
  copies_pauses (copies.Put c char) r = copies_from_pauses (record c { at = c.at +ℤ pos 1 })

  puts_from_pauses : (to : Builder R) (array : R) (count : ℤ) (spelling : Spelling) (i : ℕ)
      → Pauses (move.puts_from x to array count spelling i)
  puts_from_pauses to array count spelling i = by_bool (nat_lt i (length (chars_of spelling)))
      (λ is. rw is tt) (λ is. rw is tt)

  writes_pauses : (a : Appending R) (text : Text R) (n : ℤ) → Pauses (move.writes x a text n)
  writes_pauses a (Spelled spelling) n = puts_from_pauses a.to a.array a.count spelling 0
  writes_pauses a (String r) n = copies_from_pauses (record {
    source = r;
    target = a.array;
    at = pos 0;
    end = n;
    after = copied.Appended a.to a.count;
  })

  makes_room_pauses : (a : Appending R) (n c : ℤ) → Pauses (move.makes_room x a n c)
  makes_room_pauses a n c = by_bool (int_lt c (sum a.count n)) (λ is. rw is tt)
      (λ is. rw is (writes_pauses a a.text n))

  measures_pauses : (a : Appending R) (text : Text R) (c : ℤ) → Pauses (move.measures x a text c)
  measures_pauses a (Spelled spelling) c = makes_room_pauses a (pos (length (chars_of spelling))) c
  measures_pauses a (String r) c = tt

  append_pauses : (p : Append R) (r : Reply R V) → Pauses (move.append_next x p r)
  append_pauses (append.Count to text) r = tt
  append_pauses (append.Array to text count) r = tt
  append_pauses (append.Capacity a) r = measures_pauses a a.text (int_in x r)
  append_pauses (append.Length a text c) r = makes_room_pauses a (int_in x r) c
  append_pauses (append.Larger a n c) r = copies_from_pauses (record {
    source = a.array;
    target = reference_in x r;
    at = pos 0;
    end = a.count;
    after = copied.Larger a.to a.text a.count n;
  })
  append_pauses (append.Value a n) r = writes_pauses a a.text n
  append_pauses (append.Char to array count spelling i) r =
      puts_from_pauses to array count spelling (i + 1)
  append_pauses (append.Total to total) r = tt

  built_pauses : (p : BuiltText R) (r : Reply R V) → Pauses (move.built_next x p r)
  built_pauses (built.Count b) r = tt
  built_pauses (built.Array b count) r = tt
  built_pauses (built.Text array count) r = copies_from_pauses (record {
    source = array;
    target = reference_in x r;
    at = pos 0;
    end = count;
    after = copied.Built;
  })

  finishes_pauses : (to : Stream R) (piece : Option (List ℕ)) → Pauses (move.finishes x to piece)
  finishes_pauses to None = tt
  finishes_pauses to (Some piece) = tt

  full_pauses : (to : Stream R) (reading : Option (Reading R)) (full rest : Option (List ℕ))
      (goes_on : Option (List ℕ) → Moved R V) → ((piece : Option (List ℕ)) → Pauses (goes_on piece))
      → Pauses (move.prints_full x to reading full rest goes_on)
  full_pauses to reading None rest goes_on pauses = pauses rest
  full_pauses to reading (Some piece) rest goes_on pauses = tt

  ends_pauses : (to : Stream R) (held : Option ℕ) (piece : Option (List ℕ)) → Pauses (move.ends x to held piece)
  ends_pauses to held piece = let poured = pour piece (last_characters held to.is_line) in
      full_pauses to None poured.full poured.rest (move.finishes x to) (finishes_pauses to)

  reads_pauses : (to : Stream R) (reading : Reading R) (piece : Option (List ℕ))
      → Pauses (move.reads x to reading piece)
  reads_pauses to reading piece = by_bool (int_lt reading.at reading.length) (λ is. rw is tt)
      (λ is. rw is (ends_pauses to reading.held piece))

  reads_on_pauses : (to : Stream R) (reading : Reading R) (piece : Option (List ℕ))
      → Pauses (move.reads_on x to reading piece)
  reads_on_pauses to reading piece = reads_pauses to (record reading { at = reading.at +ℤ pos 1 }) piece

  gathers_pauses : (to : Stream R) (reading : Reading R) (piece : Option (List ℕ)) (cs : List (List ℕ))
      → Pauses (move.gathers x to reading piece cs)
  gathers_pauses to reading piece cs = let poured = pour piece cs in
      full_pauses to (Some reading) poured.full poured.rest (move.reads_on x to reading)
      (reads_on_pauses to reading)

  prints_pauses : (to : Stream R) (reading : Option (Reading R)) (rest : Option (List ℕ)) (left : List ℕ)
      → Pauses (move.prints x to reading rest left)
  prints_pauses to None rest [] = finishes_pauses to rest
  prints_pauses to (Some reading) rest [] = reads_on_pauses to reading rest
  prints_pauses to reading rest (b ∷ bytes) = tt

  printing_pauses : (p : Printing R) (r : Reply R V) → Pauses (move.printing_next x p r)
  printing_pauses (printing.Enter to (Spelled spelling)) r =
      ends_pauses to None (Some (spelled_bytes spelling))
  printing_pauses (printing.Enter to (String text)) r = tt
  printing_pauses (printing.Length to text) r =
      reads_pauses to (record { text = text; at = pos 0; length = int_in x r; held = None }) None
  printing_pauses (printing.Char to reading piece) r =
      gathers_pauses to (move.with_held x reading (char_of (int_in x r))) piece
      (characters reading.held (char_of (int_in x r)))
  printing_pauses (printing.Piece to piece rest reading) r =
      prints_pauses to reading rest (drop (max 1 (printed_in r)) piece)
  printing_pauses (printing.Exit stream) r = tt

  running_pauses : (p : Running R) (r : Reply R V) → Pauses (move.running_next x p r)
  running_pauses (running.Target thread) r = by_bool (x.is_null (reference_in x r))
      (λ is. rw is tt) (λ is. rw is tt)
  running_pauses (running.Class target) r = refl
  running_pauses running.Result r = tt

  pub next_pauses : (p : Position R) (r : Reply R V) → Pauses (move.next_at x p r)
  next_pauses (position.Single p) r = tt
  next_pauses (position.Equality p) r = equality_pauses p r
  next_pauses (position.ObjectText p) r = object_pauses p r
  next_pauses (position.NewBuilder p) r = new_pauses p r
  next_pauses (position.Append p) r = append_pauses p r
  next_pauses (position.Copies p) r = copies_pauses p r
  next_pauses (position.BuiltText p) r = built_pauses p r
  next_pauses (position.Printing p) r = printing_pauses p r
  next_pauses (position.Running p) r = running_pauses p r

  pub first_is : (script : Script R V) (p : Position R) → Follows x known from script (Asks p)
      → first_of script ≡ Some (move.asks_at x known from p)
  first_is (Ask q goes_on) p h = ap Some h.0
  first_is (Call called class receiver goes_on) p h = absurd h
  first_is (Return v) p h = absurd h

  -- a state at a position
  abbrev pub state_at : Bool → Position R → NativeState R
  state_at is_begun p = record { known = known; from = from; is_begun = is_begun; position = p }

  pub makes : (script : Script R V) (is_begun : Bool) (p : Position R) (m : Moved R V)
      → Follows x known from script m → Pauses m
      → Makes x script (step_of x (state_at is_begun p) m) (state_after (state_at is_begun p) m)
  makes (Ask q goes_on) b p (Asks n) h pauses = (
    ap step.Ask (sym h.0),
    sym h.0,
    λ r. makes (goes_on r) true n (move.next_at x n r) (h.1 r) (next_pauses n r),
  )
  makes (Ask q goes_on) b p (Calls n called class receiver) h pauses = absurd h
  makes (Ask q goes_on) b p (Gives v) h pauses = absurd h
  makes (Call called class receiver goes_on) b p (Asks n) h pauses = absurd h
  makes (Call called class receiver goes_on) b p (Calls n called' class' receiver') h pauses = (
    rw (h.0, h.1, h.2),
    pauses,
    λ r. makes (goes_on r) true n (move.next_at x n r) (h.3 r) (next_pauses n r),
  )
  makes (Call called class receiver goes_on) b p (Gives v) h pauses = absurd h
  makes (Return v) b p (Asks n) h pauses = absurd h
  makes (Return v) b p (Calls n called class receiver) h pauses = absurd h
  makes (Return v) b p (Gives w) h pauses = ap step.Return (sym h)

  pub goes_on : (give : V → Given R) (script : Script R V) (is_begun : Bool) (p : Position R) (m : Moved R V)
      → Follows x known from script m → Pauses m
      → GoesOn x give script (method.step x give (state_at is_begun p) m)
  goes_on give (Ask q rest) b p (Asks n) h pauses = (
    sym h.0,
    λ r. goes_on give (rest r) true n (move.next_at x n r) (h.1 r) (next_pauses n r),
  )
  goes_on give (Ask q rest) b p (Calls n called class receiver) h pauses = absurd h
  goes_on give (Ask q rest) b p (Gives v) h pauses = absurd h
  goes_on give (Call called class receiver rest) b p (Asks n) h pauses = absurd h
  goes_on give (Call called class receiver rest) b p (Calls n called' class' receiver') h pauses = (
    ap method.method_of (sym h.0),
    sym h.1,
    sym h.2,
    pauses,
    λ r. goes_on give (rest r) true n (move.next_at x n r) (h.3 r) (next_pauses n r),
  )
  goes_on give (Call called class receiver rest) b p (Gives v) h pauses = absurd h
  goes_on give (Return v) b p (Asks n) h pauses = absurd h
  goes_on give (Return v) b p (Calls n called class receiver) h pauses = absurd h
  goes_on give (Return v) b p (Gives w) h pauses = ap (method.given_back give) (sym h)

pub frames_make : {R V : Type 0} (x : Values R V) (give : V → Given R) → MakeTheirRequestLists x
    → FramesMakeTheirRequestLists x give
frames_make x give lists known from method values =
    let p = move.begins_at x values method in
    goes_on x known from give (request_list x known from values method) true p (Asks p)
    (lists known from method values) tt

pub states_make : {R V : Type 0} (x : Values R V) → MakeTheirRequestLists x → StatesMakeTheirRequestLists x
states_make x lists known from method values =
    let list = request_list x known from values method in
    let p = move.begins_at x values method in
    let follows = lists known from method values in
    record {
      first = first_is x known from list p follows;
      all = λ r. makes x known from list false p (Asks p) follows tt;
    }
