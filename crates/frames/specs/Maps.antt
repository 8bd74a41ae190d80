-- Frames with other references in place of theirs, and what a change of references has to keep so that
-- turns and answers go alike.
use Rattle.std.specs.Prelude.{◌≡◌, ℕ, ℤ, List, map, Option, Some, None}
use Rattle.run_types.specs.declared.resolved.At.{At}
use Rattle.run_types.specs.declared.key.Key.{Key}
use Rattle.run_types.specs.declared.key.Key.TheVariants as key
use Rattle.natives.specs.declared.requests.Request.{Request}
use Rattle.natives.specs.declared.requests.Request.TheVariants as ask
use Rattle.natives.specs.declared.requests.Reply.{Reply}
use Rattle.natives.specs.declared.requests.Reply.TheVariants as reply
use Rattle.frame_cells.specs.declared.cell.Cell.{Cell}
use Rattle.frame_cells.specs.declared.cell.Cell.TheVariants.{Empty, Int, Long, Half, Reference}
use Rattle.frame_cells.specs.Own.{Own, After}
use Rattle.frames.specs.declared.given.Given.{Given}
use Rattle.frames.specs.declared.given.Given.TheVariants as given
use Rattle.frames.specs.Settings.{Frame, Running, Native, Initialiser, Main, Doing, Runs, BeginsMain, BeginsThread, Enters}
use Rattle.frames.specs.Settings.{Unwinds, Initialises, Initialised, Breaks, Ends, Frames, NativeStep, Asks, Calls, Gives}
use Rattle.frames.specs.Settings.{Setting}
use Rattle.frames.specs.Calls.{Stepped}
use Rattle.frames.specs.Turns.{turn, answer}

-- f is what stands in place of a reference
module _ {R S : Type 0} (f : R → S) where
  abbrev pub map_cell : Cell R → Cell S
  map_cell Empty = Empty
  map_cell (Int i) = Int i
  map_cell (Long i) = Long i
  map_cell Half = Half
  map_cell (Reference r) = Reference (f r)

  abbrev pub map_own : Own R → Own S
  map_own own = record { locals = map map_cell own.locals; stack = map map_cell own.stack; room = own.room }

  abbrev pub map_after : After R → After S
  map_after a = record { did = a.did; own = map_own a.own }

  abbrev pub map_key : Key R → Key S
  map_key (key.Object r) = key.Object (f r)
  map_key (key.Class c) = key.Class c

  abbrev pub map_held : Option (Key R) → Option (Key S)
  map_held None = None
  map_held (Some k) = Some (map_key k)

  abbrev pub map_given : Given R → Given S
  map_given given.Nothing = given.Nothing
  map_given (given.Int v) = given.Int v
  map_given (given.Long v) = given.Long v
  map_given (given.Reference r) = given.Reference (f r)

  abbrev pub map_doing : Doing R → Doing S
  map_doing Runs = Runs
  map_doing (BeginsMain class) = BeginsMain class
  map_doing (BeginsThread r) = BeginsThread (f r)
  map_doing Enters = Enters
  map_doing (Unwinds r class) = Unwinds (f r) class
  map_doing (Initialises super) = Initialises super
  map_doing Initialised = Initialised
  map_doing (Breaks fault) = Breaks fault
  map_doing (Ends uncaught) = Ends uncaught

-- and g in place of a state of a native method
module _ {R S N O : Type 0} (f : R → S) (g : N → O) where
  abbrev pub map_frame : Frame R N → Frame S O
  map_frame (Running m at own held) = Running m at (map_own f own) (map_held f held)
  map_frame (Native from state) = Native from (g state)
  map_frame (Initialiser class from) = Initialiser class from
  map_frame (Main m arguments) = Main m (f arguments)

  abbrev pub map_frames : Frames R N → Frames S O
  map_frames fs =
      record { doing = map_doing f fs.doing; frames = map map_frame fs.frames; paused = fs.paused }

  abbrev pub map_native : NativeStep R N → NativeStep S O
  map_native (Asks state) = Asks (g state)
  map_native (Calls state called class receiver) = Calls (g state) called class (f receiver)
  map_native (Gives value) = Gives (map_given f value)

-- and h in place of a value of a request or a reply
module _ {R S V W : Type 0} (f : R → S) (h : V → W) where
  abbrev pub map_request : Request R V → Request S W
  map_request ask.Pause = ask.Pause
  map_request (ask.Broken fault) = ask.Broken fault
  map_request (ask.New from class) = ask.New from class
  map_request (ask.NewArray from shape count) = ask.NewArray from shape count
  map_request (ask.NewText from count) = ask.NewText from count
  map_request (ask.GetStatic from field) = ask.GetStatic from field
  map_request (ask.PutStatic from field v) = ask.PutStatic from field (h v)
  map_request (ask.GetField from holder field) = ask.GetField from (f holder) field
  map_request (ask.PutField from holder field v) = ask.PutField from (f holder) field (h v)
  map_request (ask.GetElement from array index kind) = ask.GetElement from (f array) index kind
  map_request (ask.PutElement from array index kind v) = ask.PutElement from (f array) index kind (h v)
  map_request (ask.Length from array) = ask.Length from (f array)
  map_request (ask.ClassOf from object within) = ask.ClassOf from (f object) within
  map_request (ask.Cast from object target) = ask.Cast from (f object) target
  map_request (ask.IsA from object target) = ask.IsA from (f object) target
  map_request (ask.Same from left right) = ask.Same from (f left) (f right)
  map_request (ask.Enter from k) = ask.Enter from (map_key f k)
  map_request (ask.Exit from k) = ask.Exit from (map_key f k)
  map_request (ask.Start from thread) = ask.Start from (f thread)
  map_request (ask.Join from thread) = ask.Join from (f thread)
  map_request (ask.Init from class) = ask.Init from class
  map_request (ask.InitDone from class) = ask.InitDone from class
  map_request (ask.Print from piece) = ask.Print from piece
  map_request (ask.Raise from class) = ask.Raise from class
  map_request (ask.Begin from) = ask.Begin from
  map_request (ask.End from) = ask.End from
  map_request (ask.Leave uncaught) = ask.Leave uncaught

  abbrev pub map_reply : Reply R V → Reply S W
  map_reply reply.Done = reply.Done
  map_reply (reply.Item v) = reply.Item (h v)
  map_reply (reply.Made r) = reply.Made (f r)
  map_reply (reply.Shape c) = reply.Shape c
  map_reply (reply.Init c) = reply.Init c
  map_reply (reply.Printed n) = reply.Printed n
  map_reply (reply.Thrown r class) = reply.Thrown (f r) class

  abbrev pub map_asks : Option (Request R V) → Option (Request S W)
  map_asks None = None
  map_asks (Some request) = Some (map_request request)

module _ {R S N O V W : Type 0} (f : R → S) (g : N → O) (h : V → W) where
  abbrev pub map_stepped : Stepped R N V → Stepped S O W
  map_stepped s = record { frames = map_frames f g s.frames; asks = map_asks f h s.asks }

-- The changes keep what a setting gives: null is null and nothing else becomes null, literals and values
-- correspond, and native methods go alike.
pub record Keeps {M R S N O V W : Type 0} (f : R → S) (g : N → O) (h : V →
    W) (a : Setting M R N V) (b : Setting M S O W) : Type 0 where
  pub program : b.program ≡ a.program
  pub main : b.main ≡ a.main
  pub null : b.null ≡ f a.null
  pub is_null : (r : R) → b.is_null (f r) ≡ a.is_null r
  pub literal : (k : ℕ) → b.literal k ≡ f (a.literal k)
  pub int : (i : ℤ) → b.of_int i ≡ h (a.of_int i)
  pub long : (i : ℤ) → b.of_long i ≡ h (a.of_long i)
  pub reference : (r : R) → b.of_reference (f r) ≡ h (a.of_reference r)
  pub cells : (v : V) → b.cells (h v) ≡ map (map_cell f) (a.cells v)
  pub start : (k : M) (from : At) (values : List V) → b.start k from (map h values) ≡
      g (a.start k from values)
  pub asks : (n : N) → b.asks (g n) ≡ map_request f h (a.asks n)
  pub next : (n : N) (r : Reply R V) → b.next (g n) (map_reply f h r) ≡ map_native f g (a.next n r)

-- Turns and answers go alike: the frames of the code stand for plain ones, whose references are numbers of
-- objects.
pub record GoAlike {M R S N O V W : Type 0} (f : R → S) (g : N → O) (h : V →
    W) (a : Setting M R N V) (b : Setting M S O W) : Type 0 where
  pub turns : (fs : Frames R N) → turn b (map_frames f g fs) ≡ map_stepped f g h (turn a fs)
  pub answers : (fs : Frames R N) (r : Reply R V) →
      answer b (map_frames f g fs) (map_reply f h r) ≡ map_frames f g (answer a fs r)
