-- Built-in methods with other references in place of theirs.
use Rattle.std.specs.Prelude.{◌≡◌, List, map, ℤ, Option, Some, None}
use Rattle.run_types.specs.declared.known.Known.{Known}
use Rattle.run_types.specs.declared.resolved.At.{At}
use Rattle.natives.specs.declared.methods.Native.{Native}
use Rattle.natives.specs.declared.requests.Reply.{Reply}
use Rattle.natives.specs.declared.texts.Text.{Text}
use Rattle.natives.specs.declared.texts.Text.TheVariants.{Spelled, String}
use Rattle.natives.specs.declared.positions.Pair.{Pair}
use Rattle.natives.specs.declared.positions.Single.{Single}
use Rattle.natives.specs.declared.positions.Single.TheVariants as single
use Rattle.natives.specs.declared.positions.Equality.{Equality}
use Rattle.natives.specs.declared.positions.Equality.TheVariants as equality
use Rattle.natives.specs.declared.positions.Builder.{Builder}
use Rattle.natives.specs.declared.positions.Stream.{Stream}
use Rattle.natives.specs.declared.positions.Purpose.{Purpose}
use Rattle.natives.specs.declared.positions.Purpose.TheVariants as purpose
use Rattle.natives.specs.declared.positions.ObjectText.{ObjectText}
use Rattle.natives.specs.declared.positions.ObjectText.TheVariants as object
use Rattle.natives.specs.declared.positions.NewBuilder.{NewBuilder}
use Rattle.natives.specs.declared.positions.NewBuilder.TheVariants as new
use Rattle.natives.specs.declared.positions.Appending.{Appending}
use Rattle.natives.specs.declared.positions.Append.{Append}
use Rattle.natives.specs.declared.positions.Append.TheVariants as append
use Rattle.natives.specs.declared.positions.Copied.{Copied}
use Rattle.natives.specs.declared.positions.Copied.TheVariants as copied
use Rattle.natives.specs.declared.positions.Copying.{Copying}
use Rattle.natives.specs.declared.positions.Copies.{Copies}
use Rattle.natives.specs.declared.positions.Copies.TheVariants as copies
use Rattle.natives.specs.declared.positions.BuiltText.{BuiltText}
use Rattle.natives.specs.declared.positions.BuiltText.TheVariants as built
use Rattle.natives.specs.declared.positions.Reading.{Reading}
use Rattle.natives.specs.declared.positions.Printing.{Printing}
use Rattle.natives.specs.declared.positions.Printing.TheVariants as printing
use Rattle.natives.specs.declared.positions.Running.{Running}
use Rattle.natives.specs.declared.positions.Running.TheVariants as running
use Rattle.natives.specs.declared.positions.Position.{Position}
use Rattle.natives.specs.declared.positions.Position.TheVariants as position
use Rattle.natives.specs.declared.positions.Moved.{Moved}
use Rattle.natives.specs.declared.positions.Moved.TheVariants.{Asks, Calls, Gives}
use Rattle.natives.specs.declared.states.NativeState.{NativeState}
use Rattle.natives.specs.Values.{Values}
use Rattle.frames.specs.declared.given.Given.{Given}
use Rattle.frames.specs.Maps.{map_given, map_request, map_reply, map_native}
use Rattle.plain_frames.specs.Methods as method

-- f is what stands in place of a reference
module _ {R S : Type 0} (f : R → S) where
  abbrev pub map_text : Text R → Text S
  map_text (Spelled spelling) = Spelled spelling
  map_text (String r) = String (f r)

  abbrev pub map_texts : Option (Text R) → Option (Text S)
  map_texts None = None
  map_texts (Some text) = Some (map_text text)

  abbrev pub map_pair : Pair R → Pair S
  map_pair pair = record { left = f pair.left; right = f pair.right }

  abbrev pub map_single : Single R → Single S
  map_single (single.Same pair) = single.Same (map_pair pair)
  map_single (single.Length r) = single.Length (f r)
  map_single (single.CharAt r i) = single.CharAt (f r) i
  map_single (single.SetTarget r target) = single.SetTarget (f r) (f target)
  map_single (single.Start r) = single.Start (f r)
  map_single (single.Join r) = single.Join (f r)
  map_single (single.SetMessage r message) = single.SetMessage (f r) (f message)
  map_single (single.Message r) = single.Message (f r)
  map_single single.Begin = single.Begin
  map_single single.End = single.End

  abbrev pub map_equality : Equality R → Equality S
  map_equality (equality.Same pair) = equality.Same (map_pair pair)
  map_equality (equality.IsString pair) = equality.IsString (map_pair pair)
  map_equality (equality.LeftLength pair) = equality.LeftLength (map_pair pair)
  map_equality (equality.RightLength pair m) = equality.RightLength (map_pair pair) m
  map_equality (equality.LeftChar pair n i) = equality.LeftChar (map_pair pair) n i
  map_equality (equality.RightChar pair n i c) = equality.RightChar (map_pair pair) n i c

  abbrev pub map_builder : Builder R → Builder S
  map_builder to = record { builder = f to.builder; is_new = to.is_new }

  abbrev pub map_stream : Stream R → Stream S
  map_stream to = record { stream = f to.stream; is_line = to.is_line }

  abbrev pub map_purpose : Purpose R → Purpose S
  map_purpose (purpose.Append to) = purpose.Append (map_builder to)
  map_purpose (purpose.Print to) = purpose.Print (map_stream to)

  abbrev pub map_object : ObjectText R → ObjectText S
  map_object (object.IsString to r) = object.IsString (map_purpose to) (f r)
  map_object (object.Class to r) = object.Class (map_purpose to) (f r)
  map_object (object.Result to) = object.Result (map_purpose to)

  abbrev pub map_new : NewBuilder R → NewBuilder S
  map_new (new.Array r text) = new.Array (f r) (map_texts text)
  map_new (new.Value r text array) = new.Value (f r) (map_texts text) (f array)

  abbrev pub map_appending : Appending R → Appending S
  map_appending a =
      record { to = map_builder a.to; text = map_text a.text; count = a.count; array = f a.array }

  abbrev pub map_append : Append R → Append S
  map_append (append.Count to text) = append.Count (map_builder to) (map_text text)
  map_append (append.Array to text count) = append.Array (map_builder to) (map_text text) count
  map_append (append.Capacity a) = append.Capacity (map_appending a)
  map_append (append.Length a r c) = append.Length (map_appending a) (f r) c
  map_append (append.Larger a n c) = append.Larger (map_appending a) n c
  map_append (append.Value a n) = append.Value (map_appending a) n
  map_append (append.Char to array count spelling i) = append.Char (map_builder to) (f array) count spelling i
  map_append (append.Total to total) = append.Total (map_builder to) total

  abbrev pub map_copied : Copied R → Copied S
  map_copied (copied.Larger to text count n) = copied.Larger (map_builder to) (map_text text) count n
  map_copied (copied.Appended to count) = copied.Appended (map_builder to) count
  map_copied copied.Built = copied.Built

  abbrev pub map_copying : Copying R → Copying S
  map_copying c = record {
    source = f c.source;
    target = f c.target;
    at = c.at;
    end = c.end;
    after = map_copied c.after;
  }

  abbrev pub map_copies : Copies R → Copies S
  map_copies (copies.Read c) = copies.Read (map_copying c)
  map_copies (copies.Put c char) = copies.Put (map_copying c) char

  abbrev pub map_built : BuiltText R → BuiltText S
  map_built (built.Count r) = built.Count (f r)
  map_built (built.Array r count) = built.Array (f r) count
  map_built (built.Text r count) = built.Text (f r) count

  abbrev pub map_reading : Reading R → Reading S
  map_reading r = record { text = f r.text; at = r.at; length = r.length; held = r.held }

  abbrev pub map_readings : Option (Reading R) → Option (Reading S)
  map_readings None = None
  map_readings (Some reading) = Some (map_reading reading)

  abbrev pub map_printing : Printing R → Printing S
  map_printing (printing.Enter to text) = printing.Enter (map_stream to) (map_text text)
  map_printing (printing.Length to r) = printing.Length (map_stream to) (f r)
  map_printing (printing.Char to reading piece) = printing.Char (map_stream to) (map_reading reading) piece
  map_printing (printing.Piece to piece rest reading) =
      printing.Piece (map_stream to) piece rest (map_readings reading)
  map_printing (printing.Exit r) = printing.Exit (f r)

  abbrev pub map_running : Running R → Running S
  map_running (running.Target r) = running.Target (f r)
  map_running (running.Class r) = running.Class (f r)
  map_running running.Result = running.Result

  abbrev pub map_position : Position R → Position S
  map_position (position.Single p) = position.Single (map_single p)
  map_position (position.Equality p) = position.Equality (map_equality p)
  map_position (position.ObjectText p) = position.ObjectText (map_object p)
  map_position (position.NewBuilder p) = position.NewBuilder (map_new p)
  map_position (position.Append p) = position.Append (map_append p)
  map_position (position.Copies p) = position.Copies (map_copies p)
  map_position (position.BuiltText p) = position.BuiltText (map_built p)
  map_position (position.Printing p) = position.Printing (map_printing p)
  map_position (position.Running p) = position.Running (map_running p)

  abbrev pub map_state : NativeState R → NativeState S
  map_state s =
      record { known = s.known; from = s.from; is_begun = s.is_begun; position = map_position s.position }

-- and h in place of a value of a request or a reply
module _ {R S V W : Type 0} (f : R → S) (h : V → W) where
  abbrev pub map_item : Option V → Option W
  map_item None = None
  map_item (Some v) = Some (h v)

  abbrev pub map_moved : Moved R V → Moved S W
  map_moved (Asks p) = Asks (map_position f p)
  map_moved (Calls p called class receiver) = Calls (map_position f p) called class (f receiver)
  map_moved (Gives v) = Gives (map_item v)

  -- Values are made and read alike.
  pub record AreAlike (x : Values R V) (y : Values S W) (give : V → Given R) (give' : W
      → Given S) : Type 0 where
    pub null : y.null ≡ f x.null
    pub is_null : (r : R) → y.is_null (f r) ≡ x.is_null r
    pub int : (i : ℤ) → y.of_int i ≡ h (x.of_int i)
    pub reference : (r : R) → y.of_reference (f r) ≡ h (x.of_reference r)
    pub int_of : (v : V) → y.int_of (h v) ≡ x.int_of v
    pub long_of : (v : V) → y.long_of (h v) ≡ x.long_of v
    pub reference_of : (v : V) → y.reference_of (h v) ≡ f (x.reference_of v)
    pub given : (v : V) → give' (h v) ≡ map_given f (give v)

  -- Built-in methods go alike: what frames ask of them where references are others.
  pub record MethodsGoAlike (x : Values R V) (y : Values S W) (give : V → Given R) (give' : W →
      Given S) : Type 0 where
    pub start : (known : Known) (k : Native) (from : At) (values : List V)
        → method.start y give' known k from (map h values) ≡ map_state f
        (method.start x give known k from values)
    pub asks : (s : NativeState R) → method.asks y give' (map_state f s) ≡ map_request f h
        (method.asks x give s)
    pub next : (s : NativeState R) (r : Reply R V)
        → method.next y give' (map_state f s) (map_reply f h r) ≡ map_native f (map_state f)
        (method.next x give s r)
