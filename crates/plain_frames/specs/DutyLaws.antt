-- What turns and answers do to frames whose references are there.
use Rattle.std.specs.Prelude.{◌≡◌, ◌≢◌, ℕ, ◌<◌, Bool, List, ◌∷◌, length, slice_get, All, Option, Some, None, ◌≤◌, drop, false}
use Rattle.run_types.specs.declared.resolved.At.{At}
use Rattle.run_types.specs.declared.key.Key.{Key}
use Rattle.graph_model.specs.declared.types.Graph.{Graph}
use Rattle.graph_model.specs.declared.types.Heap.{Heap}
use Rattle.graph_model.specs.declared.types.Obj.{Obj}
use Rattle.graph_model.specs.declared.types.Value.{Value}
use Rattle.graph_model.specs.declared.types.Value.TheVariants as value
use Rattle.graph_model.specs.Heaps.{IsBelow}
use Rattle.natives.specs.declared.requests.Reply.TheVariants as reply
use Rattle.run_history.specs.declared.act.Op.{Op}
use Rattle.run_history.specs.declared.plain.Progress.TheVariants.{BegunBy}
use Rattle.run_history.specs.Recorded.{Recorded}
use Rattle.run_history.specs.Worlds.{World, after}
use Rattle.plain_model.specs.Facts.{SetFacts}
use Rattle.plain_model.specs.Consistent.{IsConsistent}
use Rattle.plain_model.specs.First.{IsOpening, arguments_number, first_world, literal_number}
use Rattle.plain_model.specs.Requests.{PlainRequest, PlainReply}
use Rattle.plain_model.specs.Replies.{NamesBelow, IsReplyTo}
use Rattle.plain_model.specs.Steps.{Does, step}
use Rattle.plain_model.specs.Runs.{IsPlainRun, frames_of, known_of}
use Rattle.plain_model.specs.Duties.{IsClass, IsThrowable, IsReferenceIn, IsFit, KeepsDuties}
use Rattle.plain_model.specs.Typed.{IsTyped}
use Rattle.plain_model.specs.TypeLaws.{IsOfSet}
use Rattle.frame_cells.specs.Own.{Own}
use Rattle.frames.specs.declared.op.Op.TheVariants as op
use Rattle.frames.specs.declared.program.Program.{Program}
use Rattle.frames.specs.Tables.{placed_at}
use Rattle.frames.specs.Settings.{Frame, Running, Native, Runs, Initialised, Frames}
use Rattle.frames.specs.Calls.{Stepped}
use Rattle.frames.specs.Turns.{begun_main, begun_thread, turn, answer}
use Rattle.plain_frames.specs.Codes.{PlainNatives, code_of, plain_setting, request_or_pause}
use Rattle.plain_frames.specs.Tables.{NamesWhatIsThere}
use Rattle.plain_frames.specs.Sound.{AreIn, IsBegun, KeepIn, initialised_by}

-- the objects of the string literals are there
abbrev pub HasLiterals : SetFacts → Graph → World → Type 0
HasLiterals set opening world =
    (k : ℕ) → k < length set.literals → literal_number set opening k < length world.heap.objects

abbrev pub IsFitIfAsked : SetFacts → World → ℕ → Option PlainRequest → Type 0
IsFitIfAsked set world t None = Unit {0}
IsFitIfAsked set world t (Some request) = IsFit set world t request

-- the frames after a turn, and its request
pub record IsTurnIn (set : SetFacts) {N : Type 0} (is_in : ℕ → N →
    Bool) (world : World) (t : ℕ) (s : Stepped Value N Value) : Type 0 where
  pub frames : AreIn set is_in world t s.frames
  pub fit : IsFitIfAsked set world t s.asks

-- A turn of frames that are in a world leaves frames that are in it, and asks what is fit there.
abbrev pub TurnsAreFit : (M N : Type 0) → Type 0
TurnsAreFit M N = (set : SetFacts) (opening : Graph) (p : Program M) (natives : PlainNatives M N)
    (method : ℕ)
    (is_in : ℕ → N → Bool) (world : World) (t : ℕ) (fs : Frames Value N)
    → NamesWhatIsThere set p → KeepIn set natives is_in → HasLiterals set opening world
    → AreIn set is_in world t fs
    → IsTurnIn set is_in world t (turn (plain_setting set opening p natives method) fs)

-- A reply as the frames of thread t may get it: what it names is there, a throwable's class is one, a class
-- that it says to initialise was just begun by this thread, and at a native method and at `athrow`, where
-- the thread runs, it is one that the request may get.
pub record IsAnswerIn (set : SetFacts) {M N : Type 0} (p : Program M) (natives : PlainNatives M N)
    (world : World)
    (t : ℕ) (fs : Frames Value N) (r : PlainReply) : Type 0 where
  pub item : (v : Value) → r ≡ reply.Item v → IsBelow (length world.heap.objects) v
  pub made : (object : Value) → r ≡ reply.Made object → IsReferenceIn world object
  pub thrown : (object : Value) (class : ℕ) → r ≡ reply.Thrown object class
      → IsReferenceIn world object × IsThrowable set class
  pub begins : (class : ℕ) → r ≡ reply.Init class
      → (slice_get world.classes class ≡ Some (BegunBy t)) × All (λ n. class ≢ n) (initialised_by fs.frames)
  pub native : fs.doing ≡ Runs → fs.paused ≡ false → (from : At) (state : N) (below : List (Frame Value N))
      → fs.frames ≡ Native from state ∷ below
      → IsReplyTo set (natives.asks state) r × NamesBelow (length world.heap.objects) r
  pub athrow : fs.doing ≡ Runs → fs.paused ≡ false
      → (m at : ℕ) (own : Own Value) (held : Option (Key Value)) (below : List (Frame Value N))
      → fs.frames ≡ Running m at own held ∷ below → (placed_at p at).op ≡ op.Throw
      → (class : ℕ) → r ≡ reply.Shape class → IsThrowable set class

-- An answer to such a reply leaves frames that are in the world.
abbrev pub AnswersKeepIn : (M N : Type 0) → Type 0
AnswersKeepIn M N = (set : SetFacts) (opening : Graph) (p : Program M) (natives : PlainNatives M N)
    (method : ℕ)
    (is_in : ℕ → N → Bool) (world : World) (t : ℕ) (fs : Frames Value N) (r : PlainReply)
    → NamesWhatIsThere set p → KeepIn set natives is_in → AreIn set is_in world t fs
    → IsAnswerIn set p natives world t fs r
    → AreIn set is_in world t (answer (plain_setting set opening p natives method) fs r)

-- An initialiser that is done goes: what stands below it is in the world, and so are the frames after the
-- answer.
abbrev pub InitialisersLeave : (M N : Type 0) → Type 0
InitialisersLeave M N = (set : SetFacts) (opening : Graph) (p : Program M) (natives : PlainNatives M N)
    (method : ℕ) (is_in : ℕ → N → Bool) (world : World) (t : ℕ) (fs : Frames Value N) (r : PlainReply)
    → NamesWhatIsThere set p → KeepIn set natives is_in → fs.doing ≡ Initialised → fs.paused ≡ false
    → AreIn set is_in world t (record fs { doing = Runs; frames = drop 1 fs.frames })
    → AreIn set is_in world t (answer (plain_setting set opening p natives method) fs r)

-- Frames that are in a world are in a later one that has no fewer objects, and in which the thread has
-- begun the classes of their initialisers.
abbrev pub LaterWorldsKeepIn : (M N : Type 0) → Type 0
LaterWorldsKeepIn M N = (set : SetFacts) (natives : PlainNatives M N) (is_in : ℕ → N → Bool)
    (world later : World) (t : ℕ) (fs : Frames Value N) → KeepIn set natives is_in
    → AreIn set is_in world t fs → length world.heap.objects ≤ length later.heap.objects
    → All (IsBegun set is_in later t) (initialised_by fs.frames)
    → AreIn set is_in later t fs

-- ---- beginnings

-- The first frames of `main` are in the first world.
abbrev pub MainBeginsIn : (N : Type 0) → Type 0
MainBeginsIn N = (set : SetFacts) (opening : Graph) (main method : ℕ) (is_in : ℕ → N → Bool)
    → IsClass set main
    → AreIn set is_in (first_world set opening) 0
    (begun_main main method (value.Obj (arguments_number set opening)))

-- The first frames of the thread of an object are in each world that has the object.
abbrev pub ThreadsBeginIn : (N : Type 0) → Type 0
ThreadsBeginIn N = (set : SetFacts) (is_in : ℕ → N → Bool) (world : World) (t n : ℕ)
    → n < length world.heap.objects → AreIn set is_in world t (begun_thread (value.Obj n))

-- ---- steps

-- Each reference of a heap names an object, and each object's shape is there. There may be any number of
-- objects.
pub record RefersWithin (heap : Heap) : Type 0 where
  pub shapes : All (λ (o : Obj). o.shape < length heap.shapes) heap.objects
  pub slots : All (λ (o : Obj). All (IsBelow (length heap.objects)) o.values) heap.objects
  pub statics : All (IsBelow (length heap.objects)) heap.statics

-- a world as the plain runs of a set have it
pub record IsWorldOf (set : SetFacts) (opening : Graph) (world : World) : Type 0 where
  pub of_set : IsOfSet set world.heap
  pub typed : IsTyped set world.heap
  pub refers : RefersWithin world.heap
  pub literals : HasLiterals set opening world

-- Where the step of the request of a turn does an operation, the frames after the answer to its reply are in
-- the world after it.
abbrev pub StepsKeepIn : (M N : Type 0) → Type 0
StepsKeepIn M N = (set : SetFacts) (opening : Graph) (p : Program M) (natives : PlainNatives M N)
    (method : ℕ)
    (is_in : ℕ → N → Bool) (world : World) (t taken : ℕ) (fs : Frames Value N) (o : Op) (r : PlainReply)
    → IsConsistent set → NamesWhatIsThere set p → KeepIn set natives is_in → IsWorldOf set opening world
    → AreIn set is_in world t fs
    → let x = plain_setting set opening p natives method in
    step set world t taken (request_or_pause (turn x fs).asks) ≡ Does o r
    → AreIn set is_in (after world t o) t (answer x (turn x fs).frames r)

-- That reply is an answer to these frames in the world after it.
abbrev pub StepsAnswerIn : (M N : Type 0) → Type 0
StepsAnswerIn M N = (set : SetFacts) (opening : Graph) (p : Program M) (natives : PlainNatives M N)
    (method : ℕ)
    (is_in : ℕ → N → Bool) (world : World) (t taken : ℕ) (fs : Frames Value N) (o : Op) (r : PlainReply)
    → IsConsistent set → NamesWhatIsThere set p → KeepIn set natives is_in → IsWorldOf set opening world
    → AreIn set is_in world t fs
    → let x = plain_setting set opening p natives method in
    step set world t taken (request_or_pause (turn x fs).asks) ≡ Does o r
    → IsAnswerIn set p natives (after world t o) t (turn x fs).frames r

-- The frames of another thread, which are in the world before the step of a fit request, are in the world
-- after it.
abbrev pub OthersStayIn : (M N : Type 0) → Type 0
OthersStayIn M N = (set : SetFacts) (natives : PlainNatives M N) (is_in : ℕ → N → Bool) (world : World)
    (t u taken : ℕ) (request : PlainRequest) (fs : Frames Value N) (o : Op) (r : PlainReply)
    → KeepIn set natives is_in → IsFit set world t request → step set world t taken request ≡ Does o r
    → u ≢ t → AreIn set is_in world u fs → AreIn set is_in (after world t o) u fs

-- ---- runs

-- The code of a consistent class set whose tables and native methods owe what they should, from an opening
-- graph and with a main class of the set, keeps its duties: each request of each plain run is fit.
abbrev pub ProgramsAskWhatIsFit : (M N : Type 0) → Type 0
ProgramsAskWhatIsFit M N = (set : SetFacts) (opening : Graph) (p : Program M) (natives : PlainNatives M N)
    (method main : ℕ) (is_in : ℕ → N → Bool)
    → IsConsistent set → IsOpening set opening → NamesWhatIsThere set p → KeepIn set natives is_in
    → IsClass set main → KeepsDuties set main opening (code_of set opening p natives method main)

-- The worlds of such runs are those of the set, and each of their references names an object.
abbrev pub WorldsAreOf : (M N : Type 0) → Type 0
WorldsAreOf M N = (set : SetFacts) (opening : Graph) (p : Program M) (natives : PlainNatives M N)
    (method main : ℕ) (is_in : ℕ → N → Bool)
    → IsConsistent set → IsOpening set opening → NamesWhatIsThere set p → KeepIn set natives is_in
    → IsClass set main → let code = code_of set opening p natives method main in
    (acts : List Recorded) → IsPlainRun set main opening code acts
    → IsWorldOf set opening (known_of set main opening code acts).world

-- The frames of each thread are in the world, at every point of every plain run.
abbrev pub FramesStayIn : (M N : Type 0) → Type 0
FramesStayIn M N = (set : SetFacts) (opening : Graph) (p : Program M) (natives : PlainNatives M N)
    (method main : ℕ) (is_in : ℕ → N → Bool)
    → IsConsistent set → IsOpening set opening → NamesWhatIsThere set p → KeepIn set natives is_in
    → IsClass set main → let code = code_of set opening p natives method main in
    (acts : List Recorded) → IsPlainRun set main opening code acts → (t : ℕ) (fs : Frames Value N)
    → slice_get (frames_of set main opening code acts) t ≡ Some fs
    → AreIn set is_in (known_of set main opening code acts).world t fs
