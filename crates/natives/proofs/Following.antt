-- Each method makes its request list, position by position.
use Rattle.std.proofs.Common.{◌≡◌, refl, ℕ, zero, suc, ◌+◌, ◌-◌, ◌<◌, ◌≤◌, max, Bool, true, false, List, [], ◌∷◌, ◌++◌, length}
use Rattle.std.proofs.Common.{drop, ℤ, pos, negsuc, ◌+ℤ◌, int_lt, nat_lt, Option, Some, None, if◌then◌else◌, slice_index}
use Rattle.std.proofs.Common.{get_or, ap, sym, ◌∙◌, arith, add-one, append_assoc, All, length-drop, drop-cons}
use Rattle.std.specs.Ordering.{int_eq}
use Rattle.ap_base.specs.declared.kind.Kind.TheVariants.{C}
use Rattle.run_types.specs.declared.known.Known.{Known}
use Rattle.run_types.specs.declared.resolved.At.{At}
use Rattle.natives.specs.declared.methods.Native.{Native}
use Rattle.natives.specs.declared.methods.Native.TheVariants as native
use Rattle.natives.specs.declared.requests.Request.TheVariants as ask
use Rattle.natives.specs.declared.requests.Reply.{Reply}
use Rattle.natives.specs.declared.texts.Spelling.{Spelling}
use Rattle.natives.specs.declared.texts.Text.{Text}
use Rattle.natives.specs.declared.texts.Text.TheVariants.{Spelled, String}
use Rattle.natives.specs.declared.positions.Pair.{Pair}
use Rattle.natives.specs.declared.positions.Equality.TheVariants as equality
use Rattle.natives.specs.declared.positions.Builder.{Builder}
use Rattle.natives.specs.declared.positions.Stream.{Stream}
use Rattle.natives.specs.declared.positions.Purpose.{Purpose}
use Rattle.natives.specs.declared.positions.Purpose.TheVariants as purpose
use Rattle.natives.specs.declared.positions.ObjectText.TheVariants as object
use Rattle.natives.specs.declared.positions.NewBuilder.TheVariants as new
use Rattle.natives.specs.declared.positions.Appending.{Appending}
use Rattle.natives.specs.declared.positions.Append.TheVariants as append
use Rattle.natives.specs.declared.positions.Copied.{Copied}
use Rattle.natives.specs.declared.positions.Copied.TheVariants as copied
use Rattle.natives.specs.declared.positions.Copying.{Copying}
use Rattle.natives.specs.declared.positions.BuiltText.TheVariants as built
use Rattle.natives.specs.declared.positions.Reading.{Reading}
use Rattle.natives.specs.declared.positions.Printing.TheVariants as printing
use Rattle.natives.specs.declared.positions.Running.TheVariants as running
use Rattle.natives.specs.declared.positions.Position.TheVariants as position
use Rattle.natives.specs.declared.positions.Moved.{Moved}
use Rattle.natives.specs.declared.positions.Moved.TheVariants.{Asks, Calls, Gives}
use Rattle.natives.specs.Values.{Values, char_of, int_in, reference_in, is_yes, printed_in}
use Rattle.std.specs.List.{concat}
use Rattle.std.proofs.lemmas.List.{append-nil}
use Rattle.natives.specs.Texts.{chars_of, number_text, boolean_text, char_text, null_text, line_feed, string_text, characters}
use Rattle.natives.specs.Texts.{held_after, last_characters, spelled_bytes, fits}
use Rattle.natives.proofs.Wholes.{by_bool, IsWhole, IsWholeText, AreWhole, shorter, fits_so, together, apart, fewer, longer}
use Rattle.natives.proofs.Wholes.{longer_too, alone_fits, characters_whole, characters_few, last_whole, last_few, whole_text}
use Rattle.natives.proofs.Wholes.{number_piece, boolean_piece, char_piece, string_piece}
use Rattle.natives.specs.Scripts as script
use Rattle.natives.specs.Scripts.{Script, sum, larger, count_of}
use Rattle.natives.specs.Positions as move
use Rattle.natives.specs.Positions.{bytes_in, pour, read_kind, put_kind, put_from}
use Rattle.natives.specs.Follows.{Follows}

-- A text's length is as it was measured.
abbrev pub IsMeasured : {R : Type 0} → Text R → ℤ → Type 0
IsMeasured (Spelled spelling) n = n ≡ pos (length (chars_of spelling))
IsMeasured (String text) n = Unit {0}

-- what an index finds of a list of which this is left from there on
pub none_at : (i : ℕ) (cs : List ℕ) → drop i cs ≡ [] → nat_lt i (length cs) ≡ false
none_at i cs e = let short : length cs - i ≡ 0 = sym (length-drop i cs) ∙ ap length e in grind arith

pub within : (i : ℕ) (cs : List ℕ) (c : ℕ) (rest : List ℕ) → drop i cs ≡ c ∷ rest → i < length cs
within i cs c rest e =
    let long : length cs - i ≡ suc (length rest) = sym (length-drop i cs) ∙ ap length e in omega arith

pub some_at : (i : ℕ) (cs : List ℕ) (c : ℕ) (rest : List ℕ) → drop i cs ≡ c ∷ rest → nat_lt i (length cs)
    ≡ true
some_at i cs c rest e = let inside : i < length cs = within i cs c rest e in grind arith

pub char_is : (i : ℕ) (cs : List ℕ) (c : ℕ) (rest : List ℕ) → drop i cs ≡ c ∷ rest → slice_index cs i ≡ c
char_is i cs c rest e = let both : get_or cs i 0 ∷ drop (suc i) cs ≡ c ∷ rest =
    sym (drop-cons cs i 0 (within i cs c rest e)) ∙ e in cc

pub rest_is : (i : ℕ) (cs : List ℕ) (c : ℕ) (rest : List ℕ) → drop i cs ≡ c ∷ rest → drop (i + 1) cs ≡ rest
rest_is i cs c rest e = let both : get_or cs i 0 ∷ drop (suc i) cs ≡ c ∷ rest =
    sym (drop-cons cs i 0 (within i cs c rest e)) ∙ e in rw add-one (cc)

-- an index is below an end where some are left, and isn't where none are
pub more_are_left : (i n : ℕ) (end : ℤ) → i + suc n ≡ count_of end → int_lt (pos i) end ≡ true
more_are_left i n (pos m) e = grind arith
more_are_left i n (negsuc m) e = absurd (omega arith)

pub none_are_left : (i : ℕ) (end : ℤ) → i + 0 ≡ count_of end → int_lt (pos i) end ≡ false
none_are_left i (pos m) e = grind arith
none_are_left i (negsuc m) e = grind arith

module _ {R V : Type 0} (x : Values R V) (known : Known) (from : At) where
  pub same_chars-follows : (pair : Pair R) (i n : ℕ) (end : ℤ) → i + n ≡ count_of end
      → Follows x known from (script.same_chars x known from pair.left pair.right i n)
      (move.chars_from x pair end (pos i))
  same_chars-follows pair i zero end e = rw (none_are_left i end e) refl
  same_chars-follows pair i (suc n) end e = rw (more_are_left i n end e) (
    refl,
    λ a. (
      refl,
      λ b. by_bool (int_eq (int_in x a) (int_in x b)) (λ is. rw is (same_chars-follows pair (i + 1) n end
          (omega arith))) (λ is. rw is),
    ),
  )

  pub equals-follows : (pair : Pair R) → Follows x known from
      (script.equals x known from pair.left pair.right)
      (Asks (position.Equality (equality.Same pair)))
  equals-follows pair = (
    refl,
    λ same. by_bool (is_yes x same) (λ is. rw is) (λ is. rw is (by_bool (x.is_null pair.right) (λ is. rw is)
        (λ is. rw is (
          refl,
          λ text. by_bool (is_yes x text) (λ is. rw is (
            refl,
            λ m. (
              refl,
              λ n. by_bool (int_eq (int_in x m) (int_in x n)) (λ is. rw is (same_chars-follows pair 0
                  (count_of
                  (int_in x m)) (int_in x m) (omega arith))) (λ is. rw is),
            ),
          )) (λ is. rw is),
        )))),
  )

  pub copies-follows : (after : Copied R) (source target : R) (i n : ℕ) (end : ℤ) (goes_on : Script R V)
      → i + n ≡ count_of end → Follows x known from goes_on (move.copied_to x target end after)
      → Follows x known from
      (script.copies x known from source (read_kind after) target (put_kind after)
      (put_from after) i n goes_on)
      (move.copies_from x (record { source = source; target = target; at = pos i; end = end; after = after }))
  copies-follows after source target i zero end goes_on e f = rw (none_are_left i end e) f
  copies-follows after source target i (suc n) end goes_on e f = rw (more_are_left i n end e) (
    refl,
    λ r.
        (refl, λ s. copies-follows after source target (i + 1) n end goes_on (omega arith) f),
  )

  pub counts-follows : (to : Builder R) (total : ℤ)
      → Follows x known from (script.counts x known from to.builder to.is_new total)
      (Asks (position.Append (append.Total to total)))
  counts-follows to total = (refl, λ r. refl)

  pub puts-follows : (to : Builder R) (array : R) (count : ℤ) (spelling : Spelling) (i : ℕ) (cs : List ℕ)
      → drop i (chars_of spelling) ≡ cs
      → Follows x known from
      (script.puts x known from array count i cs
      (script.counts x known from to.builder to.is_new (sum count (pos (length (chars_of spelling))))))
      (move.puts_from x to array count spelling i)
  puts-follows to array count spelling i [] e = rw (none_at i (chars_of spelling) e) (counts-follows to
      (sum count (pos (length (chars_of spelling)))))
  puts-follows to array count spelling i (c ∷ cs) e = rw (some_at i (chars_of spelling) c cs e) (
    ap (λ d. ask.PutElement from array (sum count (pos i)) C (x.of_int (pos d))) (sym (char_is i
        (chars_of spelling) c cs e)),
    λ r. puts-follows to array count spelling (i + 1) cs (rest_is i (chars_of spelling) c cs e),
  )

  pub writes-follows : (a : Appending R) (text : Text R) (n : ℤ) → IsMeasured text n
      → Follows x known from
      (script.writes x known from a.to.builder a.to.is_new a.array a.count text n)
      (move.writes x a text n)
  writes-follows a (Spelled spelling) n measured = rw measured
      (puts-follows a.to a.array a.count spelling 0 (chars_of spelling) refl)
  writes-follows a (String text) n measured =
      copies-follows (copied.Appended a.to a.count) text a.array 0 (count_of n) n _ (omega arith)
      (counts-follows a.to (sum a.count n))

  pub makes_room-follows : (a : Appending R) (n c : ℤ) → IsMeasured a.text n
      → Follows x known from
      (script.makes_room x known from a.to.builder a.to.is_new a.array c a.count a.text n)
      (move.makes_room x a n c)
  makes_room-follows a n c measured = by_bool (int_lt c (sum a.count n)) (λ is. rw is (
    refl,
    λ made. copies-follows (copied.Larger a.to a.text a.count n) a.array (reference_in x made) 0
        (count_of a.count) a.count _ (omega arith)
        (refl, λ r. writes-follows (record a { array = reference_in x made }) a.text n measured),
  )) (λ is. rw is (writes-follows a a.text n measured))

  pub measures-follows : (to : Builder R) (text : Text R) (count : ℤ) (array : R) (c : ℤ)
      → Follows x known from
      (script.measures x known from to.builder to.is_new text
      (λ n. script.makes_room x known from to.builder to.is_new array c count text n))
      (move.measures x (record { to = to; text = text; count = count; array = array }) text c)
  measures-follows to (Spelled spelling) count array c =
      makes_room-follows (record { to = to; text = Spelled spelling; count = count; array = array })
      (pos (length (chars_of spelling))) c refl
  measures-follows to (String text) count array c = (
    refl,
    λ n.
        makes_room-follows (record { to = to; text = String text; count = count; array = array })
        (int_in x n) c tt,
  )

  pub appends-follows : (to : Builder R) (text : Text R)
      → Follows x known from (script.appends x known from to.builder to.is_new text)
      (Asks (position.Append (append.Count to text)))
  appends-follows to text = (
    refl,
    λ count. (
      refl,
      λ array. (
        refl,
        λ c.
            measures-follows to text (int_in x count) (reference_in x array) (int_in x c),
      ),
    ),
  )

  pub appends_if-follows : (builder : R) (text : Option (Text R))
      → Follows x known from (script.appends_if x known from builder text) (move.appends_if x builder text)
  appends_if-follows builder None = refl
  appends_if-follows builder (Some text) = appends-follows (record { builder = builder; is_new = true }) text

  pub builds-follows : (builder : R) (text : Option (Text R))
      → Follows x known from (script.builds x known from builder text)
      (Asks (position.NewBuilder (new.Array builder text)))
  builds-follows builder text = (refl, λ made. (refl, λ r. appends_if-follows builder text))

  pub built_text-follows : (builder : R) → Follows x known from (script.built_text x known from builder)
      (Asks (position.BuiltText (built.Count builder)))
  built_text-follows builder = (
    refl,
    λ count. (
      refl,
      λ array. (
        refl,
        λ made.
            copies-follows copied.Built (reference_in x array) (reference_in x made) 0 (count_of
            (int_in x count))
            (int_in x count) _ (omega arith) refl,
      ),
    ),
  )

  pub runs-follows : (thread : R) → Follows x known from (script.runs x known from thread)
      (Asks (position.Running (running.Target thread)))
  runs-follows thread = (
    refl,
    λ target. by_bool (x.is_null (reference_in x target)) (λ is. rw is) (λ is. rw is (
      refl,
      λ class.
          (refl, refl, refl, λ r. refl),
    )),
  )

  -- What is left of a piece is asked for until all of it is printed.
  pub left-follows : (to : Stream R) (reading : Option (Reading R)) (rest : Option (List ℕ))
      (goes_on : Script R V)
      → Follows x known from goes_on (move.resumes x to reading rest)
      → (most : ℕ) (later : (piece : List ℕ) → 0 < length piece → length piece ≤ most
      → Follows x known from (script.prints x known from most piece goes_on)
      (Asks (position.Printing (printing.Piece to piece rest reading))))
      → (left : List ℕ) → length left ≤ most
      → Follows x known from
      (if script.is_empty left then goes_on else script.prints x known from most left goes_on)
      (move.prints x to reading rest left)
  left-follows to reading rest goes_on f most later [] short = f
  left-follows to reading rest goes_on f most later (b ∷ bytes) short = later (b ∷ bytes) (omega arith) short

  -- a piece that has bytes
  pub prints-follows : (to : Stream R) (reading : Option (Reading R)) (rest : Option (List ℕ))
      (goes_on : Script R V)
      → Follows x known from goes_on (move.resumes x to reading rest)
      → (most : ℕ) (piece : List ℕ) → 0 < length piece → length piece ≤ most
      → Follows x known from (script.prints x known from most piece goes_on)
      (Asks (position.Printing (printing.Piece to piece rest reading)))
  prints-follows to reading rest goes_on f zero piece some few = absurd (omega arith)
  prints-follows to reading rest goes_on f (suc most) piece some few = (
    refl,
    λ r.
        left-follows to reading rest goes_on f most (prints-follows to reading rest goes_on f most)
        (drop (max 1 (printed_in r)) piece) (shorter (printed_in r) most piece few),
  )

  pub prints_all-follows : (to : Stream R) (reading : Option (Reading R)) (rest : Option (List ℕ))
      (goes_on : Script R V) → Follows x known from goes_on (move.resumes x to reading rest)
      → (piece : List ℕ) → 0 < length piece
      → Follows x known from (script.prints_all x known from piece goes_on)
      (Asks (position.Printing (printing.Piece to piece rest reading)))
  prints_all-follows to reading rest goes_on f [] some = absurd (omega arith)
  prints_all-follows to reading rest goes_on f (b ∷ bytes) some =
      prints-follows to reading rest goes_on f (length (b ∷ bytes)) (b ∷ bytes) some (omega arith)

  -- Characters that fit are gathered.
  pub gathers_all : (goes_on : List ℕ → Script R V) (piece : List ℕ) (cs : List (List ℕ))
      → length piece + length (concat cs) ≤ 24
      → script.gathers x known from piece cs goes_on ≡ goes_on (piece ++ concat cs)
  gathers_all goes_on piece [] few = ap goes_on (sym (append-nil piece))
  gathers_all goes_on piece (c ∷ cs) few = rw (fits_so piece c (concat cs) few)
      (gathers_all goes_on (piece ++ c) cs (together piece c (concat cs) few)
      ∙ ap goes_on (append_assoc piece c (concat cs)))

  -- One doesn't fit, or does.
  pub gathers-if : (to : Stream R) (reading : Option (Reading R)) (goes_on : List ℕ → Script R V)
      → ((piece : Option (List ℕ)) → IsWhole piece
      → Follows x known from (goes_on (bytes_in piece)) (move.resumes x to reading piece))
      → (c : List ℕ) (cs : List (List ℕ)) → 0 < length c → length (concat (c ∷ cs)) ≤ 24
      → (piece : Option (List ℕ)) → IsWhole piece
      → (b : Bool) → fits (bytes_in piece) c ≡ b
      → Follows x known from (script.gathers x known from (bytes_in piece ++ c) cs goes_on)
      (move.prints_poured x to reading (pour (Some (bytes_in piece ++ c)) cs) (move.resumes x to reading))
      → Follows x known from
      (if b then script.gathers x known from (bytes_in piece ++ c) cs goes_on
      else script.prints_all x known from (bytes_in piece) (script.gathers x known from c cs goes_on))
      (move.prints_poured x to reading
      (if b then pour (Some (bytes_in piece ++ c)) cs else record {
        full = piece;
        rest = Some (concat (c
            ∷ cs));
      })
      (move.resumes x to reading))
  gathers-if to reading goes_on f c cs some few piece whole true e later = later
  gathers-if to reading goes_on f c cs some few None whole false e later =
      absurd (alone_fits c (concat cs) few e)
  gathers-if to reading goes_on f c cs some few (Some piece) whole false e later =
      prints_all-follows to reading (Some (concat (c ∷ cs))) (script.gathers x known from c cs goes_on)
      (rw (gathers_all goes_on c cs (apart c (concat cs) few)) (f (Some (c ++ concat cs)) (longer c
      (concat cs) some)))
      piece whole

  pub gathers-follows : (to : Stream R) (reading : Option (Reading R)) (goes_on : List ℕ → Script R V)
      → ((piece : Option (List ℕ)) → IsWhole piece
      → Follows x known from (goes_on (bytes_in piece)) (move.resumes x to reading piece))
      → (cs : List (List ℕ)) → AreWhole cs → length (concat cs) ≤ 24
      → (piece : Option (List ℕ)) → IsWhole piece
      → Follows x known from (script.gathers x known from (bytes_in piece) cs goes_on)
      (move.prints_poured x to reading (pour piece cs) (move.resumes x to reading))
  gathers-follows to reading goes_on f [] each few piece whole = f piece whole
  gathers-follows to reading goes_on f (c ∷ cs) each few piece whole =
      gathers-if to reading goes_on f c cs each.0 few piece whole (fits (bytes_in piece) c) refl
      (gathers-follows to reading goes_on f cs each.1 (fewer c (concat cs) few) (Some (bytes_in piece ++ c))
      (longer_too (bytes_in piece) c each.0))

  pub leaves-follows : (to : Stream R)
      → Follows x known from (script.leaves x known from to.stream to.is_line) (move.finishes x to None)
  leaves-follows to = (refl, λ r. refl)

  pub finishes-follows : (to : Stream R) (piece : Option (List ℕ)) → IsWhole piece
      → Follows x known from
      (script.prints_all x known from (bytes_in piece) (script.leaves x known from to.stream to.is_line))
      (move.finishes x to piece)
  finishes-follows to None whole = leaves-follows to
  finishes-follows to (Some piece) whole =
      prints_all-follows to None None (script.leaves x known from to.stream to.is_line)
      (leaves-follows to) piece whole

  pub ends-follows : (to : Stream R) (held : Option ℕ) (piece : Option (List ℕ)) → IsWhole piece
      → Follows x known from (script.ends x known from to.stream to.is_line held (bytes_in piece))
      (move.ends x to held piece)
  ends-follows to held piece whole =
      gathers-follows to None _ (finishes-follows to) (last_characters held to.is_line)
      (last_whole held to.is_line) (last_few held to.is_line) piece whole

  pub reads-follows : (to : Stream R) (text : R) (i n : ℕ) (end : ℤ) → i + n ≡ count_of end
      → (held : Option ℕ) (piece : Option (List ℕ)) → IsWhole piece
      → Follows x known from (script.reads x known from to.stream to.is_line text i n held (bytes_in piece))
      (move.reads x to (record { text = text; at = pos i; length = end; held = held }) piece)
  reads-follows to text i zero end e held piece whole =
      rw (none_are_left i end e) (ends-follows to held piece whole)
  reads-follows to text i (suc n) end e held piece whole = rw (more_are_left i n end e) (
    refl,
    λ r. gathers-follows to
        (Some (record { text = text; at = pos i; length = end; held = held_after (char_of (int_in x r)) })) _
        (reads-follows to text (i + 1) n end (omega arith) (held_after (char_of (int_in x r))))
        (characters held (char_of (int_in x r))) (characters_whole held (char_of (int_in x r)))
        (characters_few held (char_of (int_in x r))) piece whole,
  )

  pub prints_held-follows : (to : Stream R) (text : Text R) → IsWholeText text
      → Follows x known from (script.prints_held x known from to.stream to.is_line text)
      (Asks (position.Printing (printing.Enter to text)))
  prints_held-follows to (Spelled spelling) whole = (
    refl,
    λ r.
        ends-follows to None (Some (spelled_bytes spelling)) whole,
  )
  prints_held-follows to (String text) whole = (
    refl,
    λ r. (
      refl,
      λ n.
          reads-follows to text 0 (count_of (int_in x n)) (int_in x n) (omega arith) None None tt,
    ),
  )

  -- A text is appended or printed.
  abbrev pub script_for : Purpose R → Text R → Script R V
  script_for (purpose.Append to) text = script.appends x known from to.builder to.is_new text
  script_for (purpose.Print to) text = script.prints_held x known from to.stream to.is_line text

  pub begins-follows : (to : Purpose R) (text : Text R) → IsWholeText text
      → Follows x known from (script_for to text) (Asks (move.begins x to text))
  begins-follows (purpose.Append to) text whole = appends-follows to text
  begins-follows (purpose.Print to) text whole = prints_held-follows to text whole

  pub object_text-follows : (to : Purpose R) (o : R)
      → Follows x known from (script.object_text x known from o (script_for to))
      (Asks (position.ObjectText (object.IsString to o)))
  object_text-follows to o = (
    refl,
    λ text. by_bool (is_yes x text) (λ is. rw is (begins-follows to (String o) tt)) (λ is. rw is (
      refl,
      λ class. (
        refl,
        refl,
        refl,
        λ r.
            begins-follows to (string_text x (reference_in x r)) (whole_text (string_text x
            (reference_in x r)) (string_piece x (reference_in x r))),
      ),
    )),
  )

  pub null_or-follows : (to : Purpose R) (o : R) (b : Bool) → Follows x known from
      (if b then script_for to null_text else script.object_text x known from o (script_for to))
      (Asks (if b then move.begins x to null_text else position.ObjectText (object.IsString to o)))
  null_or-follows to o true = begins-follows to null_text (omega arith)
  null_or-follows to o false = object_text-follows to o

  pub text_of-follows : (values : List V) (to : Purpose R)
      → Follows x known from (script.text_of x known from (move.that x values) (script_for to))
      (Asks (move.begins_object x values to))
  text_of-follows values to = null_or-follows to (move.that x values) (x.is_null (move.that x values))

  pub string-follows : (to : Purpose R) (r : R)
      → Follows x known from (script_for to (string_text x r)) (Asks (move.begins x to (string_text x r)))
  string-follows to r = begins-follows to (string_text x r) (whole_text (string_text x r) (string_piece x r))

  pub number-follows : (to : Purpose R) (i : ℤ)
      → Follows x known from (script_for to (number_text i)) (Asks (move.begins x to (number_text i)))
  number-follows to i = begins-follows to (number_text i) (whole_text (number_text {R = R} i)
      (number_piece R i))

  pub boolean-follows : (to : Purpose R) (i : ℤ)
      → Follows x known from (script_for to (boolean_text i)) (Asks (move.begins x to (boolean_text i)))
  boolean-follows to i = begins-follows to (boolean_text i) (whole_text (boolean_text {R = R} i)
      (boolean_piece R i))

  pub char-follows : (to : Purpose R) (i : ℤ)
      → Follows x known from (script_for to (char_text i)) (Asks (move.begins x to (char_text i)))
  char-follows to i = begins-follows to (char_text i) (whole_text (char_text {R = R} i) (char_piece R i))

  module _ (values : List V) where
    pub request_lists-follow : (method : Native)
        → Follows x known from (script.request_list x known from values method) (Asks
        (move.begins_at x values method))
    request_lists-follow native.ObjectEquals = (refl, λ r. refl)
    request_lists-follow native.StringLength = (refl, λ r. refl)
    request_lists-follow native.StringCharAt = (refl, λ r. refl)
    request_lists-follow native.StringEquals = equals-follows (move.pair x values)
    request_lists-follow native.BuilderInit = builds-follows (move.this x values) None
    request_lists-follow native.BuilderInitString =
        builds-follows (move.this x values) (Some (string_text x (move.that x values)))
    request_lists-follow native.AppendInt = number-follows (move.adds x values) (move.int x values)
    request_lists-follow native.AppendLong = number-follows (move.adds x values) (move.long x values)
    request_lists-follow native.AppendChar = char-follows (move.adds x values) (move.int x values)
    request_lists-follow native.AppendBoolean = boolean-follows (move.adds x values) (move.int x values)
    request_lists-follow native.AppendString = string-follows (move.adds x values) (move.that x values)
    request_lists-follow native.AppendObject = text_of-follows values (move.adds x values)
    request_lists-follow native.BuilderToString = built_text-follows (move.this x values)
    request_lists-follow native.PrintInt = number-follows (move.shows x values false) (move.int x values)
    request_lists-follow native.PrintLong = number-follows (move.shows x values false) (move.long x values)
    request_lists-follow native.PrintChar = char-follows (move.shows x values false) (move.int x values)
    request_lists-follow native.PrintBoolean = boolean-follows (move.shows x values false) (move.int x values)
    request_lists-follow native.PrintString = string-follows (move.shows x values false) (move.that x values)
    request_lists-follow native.PrintObject = text_of-follows values (move.shows x values false)
    request_lists-follow native.PrintLineInt = number-follows (move.shows x values true) (move.int x values)
    request_lists-follow native.PrintLineLong = number-follows (move.shows x values true) (move.long x values)
    request_lists-follow native.PrintLineChar = char-follows (move.shows x values true) (move.int x values)
    request_lists-follow native.PrintLineBoolean = boolean-follows (move.shows x values true)
        (move.int x values)
    request_lists-follow native.PrintLineString = string-follows (move.shows x values true)
        (move.that x values)
    request_lists-follow native.PrintLineObject = text_of-follows values (move.shows x values true)
    request_lists-follow native.PrintLine = begins-follows (move.shows x values false) line_feed (omega arith)
    request_lists-follow native.ThreadInit = (refl, λ r. refl)
    request_lists-follow native.ThreadStart = (refl, λ r. refl)
    request_lists-follow native.ThreadRun = runs-follows (move.this x values)
    request_lists-follow native.ThreadJoin = (refl, λ r. refl)
    request_lists-follow native.ThrowableInit = (refl, λ r. refl)
    request_lists-follow native.ThrowableGetMessage = (refl, λ r. refl)
    request_lists-follow native.RegionBegin = (refl, λ r. refl)
    request_lists-follow native.RegionEnd = (refl, λ r. refl)
