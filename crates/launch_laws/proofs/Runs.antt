-- What a thread of a plain run asks for, by the frames that it has there.
use Rattle.std.proofs.Common.{◌≡◌, ℕ, ℤ, Bool, true, false, nat_eq, ◌&&◌, List, [], ◌∷◌, Option, Some, None, refl, ap, sym, ◌∙◌}
use Rattle.std.proofs.Common.{inl, inr, arith, if◌then◌else◌}
use Rattle.std.specs.Prelude.{All, slice_get}
use Rattle.std.proofs.lemmas.Bool.{false≢true}
use Rattle.std.proofs.lemmas.Bool.Decides.{nat_tests}
use Rattle.std.proofs.lemmas.List.Elements.{All-head}
use Rattle.run_types.specs.declared.resolved.At.{At}
use Rattle.graph_model.specs.declared.types.Graph.{Graph}
use Rattle.graph_model.specs.declared.types.Value.{Value}
use Rattle.natives.specs.declared.methods.Native.{Native as NativeMethod}
use Rattle.natives.specs.declared.requests.Request.TheVariants as ask
use Rattle.natives.specs.declared.states.NativeState.{NativeState}
use Rattle.run_history.specs.Recorded.{Recorded}
use Rattle.run_history.specs.Worlds.{World, Thread}
use Rattle.plain_model.specs.Codes.{Code, asks_live}
use Rattle.plain_model.specs.Facts.{SetFacts, known_classes}
use Rattle.plain_model.specs.Requests.{PlainRequest}
use Rattle.plain_model.specs.Runs.{request_after}
use Rattle.frames.specs.Settings.{Frame, Running, Native, Initialiser, Main, Frames, Setting}
use Rattle.frames.specs.Turns.{turn}
use Rattle.plain_frames.specs.Codes.{code_of, plain_setting, request_or_pause}
use Rattle.plain_frames.specs.Sound.{IsFrameIn}
use Rattle.plain_frames.specs.DutyLaws.{TurnsAreFit}
use Rattle.plain_frames.specs.Keeping.{BuiltInMethodsKeepIn}
use Rattle.plain_frames.specs.Machines.{BuiltInWorldsAreOf, BuiltInFramesStayIn}
use Rattle.plain_frames.specs.Methods.{plain_natives, plain_values}
use Rattle.plain_frames.specs.Worlds.{is_in}
use Rattle.run_forms.specs.Laws.{ThreadsAskAlike}
use Rattle.run_forms.specs.Standing.{Launch, IsLaunch, IsRun, plain_code, known_at, frames_at}
use Rattle.launch_laws.specs.Asking.{IsAskedByNative, IsMadeByCode, RunsAskForTheirArrays, ThreadsAskForTheirArrays}
use Rattle.launch_laws.proofs.Chars.{state-chars}
use Rattle.launch_laws.proofs.Turns.{turn-asks}

-- what the laws of plain frames and of built-in methods say
pub record Laws : Type 0 where
  pub fit : TurnsAreFit NativeMethod (NativeState Value)
  pub keep : BuiltInMethodsKeepIn
  pub worlds : BuiltInWorldsAreOf
  pub frames : BuiltInFramesStayIn

-- a thread that asks has frames
module _ (set : SetFacts) (main : ℕ) (opening : Graph) {F : Type 0} (code : Code set main opening F) where
  abbrev HasFrames : Option F → PlainRequest → Type 0
  HasFrames frames request = (fs : F) × (frames ≡ Some fs) × ((code.turn fs).1 ≡ request)

  with-frames : (thread : Option Thread) (frames : Option F) (request : PlainRequest)
      → asks_live set main opening code thread frames ≡ Some request → HasFrames frames request
  with-frames None frames request e = absurd cc
  with-frames (Some thread) None request e = ended thread.ended e
    where
      ended : (b : Bool) → (if b then None else None) ≡ Some request → HasFrames None request
      ended true e = absurd cc
      ended false e = absurd cc
  with-frames (Some thread) (Some fs) request e = ended thread.ended e
    where
      ended : (b : Bool) → (if b then None else Some (code.turn fs).1) ≡ Some request
          → HasFrames (Some fs) request
      ended true e = absurd cc
      ended false e = (fs, refl, cc)

array-asked : (q : Option PlainRequest) (from : At) (shape : ℕ) (count : ℤ)
    → request_or_pause q ≡ ask.NewArray from shape count → q ≡ Some (ask.NewArray from shape count)
array-asked None from shape count e = absurd cc
array-asked (Some request) from shape count e = ap Some e

-- a state in a world of a set knows the set's class of arrays of chars
known-chars : (set : SetFacts) (n : ℕ) (s : NativeState Value) → is_in set n s ≡ true
    → s.known.chars ≡ (known_classes set).chars
known-chars set n s e =
    let same : nat_eq s.known.chars (known_classes set).chars ≡ true = left _ _ (left _ _ e) in
    grind (arith, nat_tests)
  where
    left : (a b : Bool) → (a && b) ≡ true → a ≡ true
    left true b h = refl
    left false b h = absurd (false≢true h)

module _ (laws : Laws) (launch : Launch) (is : IsLaunch launch) (acts : List Recorded)
    (run : IsRun launch acts) (t : ℕ) (from : At) (shape : ℕ) (count : ℤ) where
  abbrev x : Setting NativeMethod Value (NativeState Value) Value
  x = plain_setting launch.set launch.opening launch.program (plain_natives launch.set) launch.method

  abbrev world : World
  world = (known_at launch acts).world

  abbrev array : PlainRequest
  array = ask.NewArray from shape count

  turn-of-code : (fs : Frames Value (NativeState Value))
      → ((plain_code launch).turn fs).1 ≡ request_or_pause (turn x fs).asks
  unfolding code_of
  turn-of-code fs = refl

  -- a native method's state knows the classes of the set
  native-chars : (list : List (Frame Value (NativeState Value)))
      → All (IsFrameIn launch.set (is_in launch.set) world t) list → IsAskedByNative x array list
      → shape ≡ (known_classes launch.set).chars
  native-chars [] all asked = absurd asked
  native-chars (Running m at own held ∷ below) all asked = absurd asked
  native-chars (Native at state ∷ below) all asked =
      state-chars plain_values state from shape count asked
      ∙ known-chars launch.set _ state
      (All-head (IsFrameIn launch.set (is_in launch.set) world t) (Native at state) below all)
  native-chars (Initialiser class at ∷ below) all asked = absurd asked
  native-chars (Main m arguments ∷ below) all asked = absurd asked

  frames-made : (fs : Frames Value (NativeState Value)) → slice_get (frames_at launch acts) t ≡ Some fs
      → (turn x fs).asks ≡ Some array → IsMadeByCode launch shape
  frames-made fs here e =
      let there = laws.frames launch.set launch.opening launch.program launch.method launch.main
      is.consistent is.opening is.names is.main acts run t fs here in
      let literals = (laws.worlds launch.set launch.opening launch.program launch.method launch.main
      is.consistent is.opening is.names is.main acts run).literals in
      let turned = laws.fit launch.set launch.opening launch.program (plain_natives launch.set) launch.method
      (is_in launch.set) world t fs is.names (laws.keep launch.set is.consistent) literals there in
      elim (turn-asks x fs array e) [
        | inl made ↦ inl made
        | inr native ↦ inr (native-chars (turn x fs).frames.frames turned.frames.frames native)
      ]

  pub run-made : request_after launch.set launch.main launch.opening (plain_code launch) acts t ≡ Some array
      → IsMadeByCode launch shape
  run-made e =
      let (fs, here, asks) = with-frames launch.set launch.main launch.opening (plain_code launch)
      (slice_get world.threads t) (slice_get (frames_at launch acts) t) array e in
      frames-made fs here (array-asked (turn x fs).asks from shape count (sym (turn-of-code fs) ∙ asks))

pub runs-made : Laws → RunsAskForTheirArrays
runs-made laws launch acts t from shape count is run e = run-made laws launch is acts run t from shape count e

pub threads-made : Laws → ThreadsAskAlike → ThreadsAskForTheirArrays
threads-made laws alike launch acts shown rest threads is stands t fs from shape count asking =
    runs-made laws launch acts t from shape count is stands.run
    (alike launch acts shown rest threads is stands t fs (ask.NewArray from shape count) asking).plain
