-- What code does: its turns, its answers to replies, and how its threads begin. The code of a class set depends on the set, on
-- the main class and on the opening graph, whose number of nodes fixes the numbers of the literals (JVMS 2.6, 6.5).
use Rattle.std.specs.Prelude.{ℕ, zero, suc, Bool, true, false, List, [], ◌∷◌, ◌++◌, slice_get, Option, Some, None}
use Rattle.std.specs.Prelude.{if◌then◌else◌, length}
use Rattle.graph_model.specs.declared.types.Graph.{Graph}
use Rattle.run_history.specs.declared.act.Op.{Op}
use Rattle.run_history.specs.declared.act.Op.TheVariants as op
use Rattle.run_history.specs.Recorded.{Recorded}
use Rattle.run_history.specs.Worlds.{Thread, World}
use Rattle.run_history.specs.Knowing.{Knowledge, next_known}
use Rattle.plain_model.specs.Facts.{SetFacts}
use Rattle.plain_model.specs.Requests.{PlainRequest, PlainReply}
use Rattle.plain_model.specs.Steps.{step, reply_of}

-- A turn does private instructions up to the next request, at most 1,024 of them; after so many the request is Pause.
pub record Code (set : SetFacts) (main : ℕ) (opening : Graph) (Frames : Type 0) : Type 0 where
  pub turn : Frames → Frames × PlainRequest
  -- the frames after a reply to the request of their turn
  pub answer : Frames → PlainReply → Frames
  -- the frames with which thread 0 begins, and the thread of the Thread object of a number
  pub main_frames : Frames
  pub thread_frames : ℕ → Frames

-- operations of persistence leave the plain world, and the frames, as they are
abbrev pub is_persistent : Op → Bool
is_persistent (op.Asked place value) = true
is_persistent op.Joined = true
is_persistent (op.Guarded place) = true
is_persistent op.Closing = true
is_persistent op.Fenced = true
is_persistent o = false

-- how many bytes a print took
abbrev pub taken_by : Op → ℕ
taken_by (op.Print bytes) = length bytes
taken_by o = 1

module _ (set : SetFacts) (main : ℕ) (opening : Graph) {Frames : Type 0} (code : Code set main opening Frames) where
  abbrev pub asks : Option Frames → Option PlainRequest
  asks None = None
  asks (Some frames) = Some (code.turn frames).1

  abbrev pub asks_live : Option Thread → Option Frames → Option PlainRequest
  asks_live None frames = None
  asks_live (Some thread) frames = if thread.ended then None else asks frames

  -- the request of thread t: none before it was started and after it has ended
  abbrev pub request_of : World → List Frames → ℕ → Option PlainRequest
  request_of world frames t = asks_live (slice_get world.threads t) (slice_get frames t)

  abbrev pub answered_by : Frames → Option PlainReply → Frames
  answered_by frames None = frames
  answered_by frames (Some reply) = code.answer (code.turn frames).0 reply

  -- the frames after a turn of thread t and the reply to its request
  abbrev pub answered : World → ℕ → ℕ → Frames → Frames
  answered world t taken frames = answered_by frames (reply_of (step set world t taken (code.turn frames).1))

  abbrev pub answered_at : World → ℕ → ℕ → List Frames → ℕ → List Frames
  answered_at world t taken [] k = []
  answered_at world t taken (f ∷ fs) zero = answered world t taken f ∷ fs
  answered_at world t taken (f ∷ fs) (suc k) = f ∷ answered_at world t taken fs k

  abbrev pub begun_by : Op → List Frames
  begun_by (op.Start n child) = code.thread_frames n ∷ []
  begun_by o = []

  -- the frames of all threads after an act of thread t
  unfoldable pub frames_after_op : World → List Frames → ℕ → Op → List Frames
  frames_after_op world frames t o = if is_persistent o then frames else answered_at world t (taken_by o) frames t ++ begun_by o

  abbrev pub frames_after : Knowledge → List Frames → List Recorded → List Frames
  frames_after known frames [] = frames
  frames_after known frames (a ∷ acts) = frames_after (next_known known a) (frames_after_op known.world frames a.act.thread a.act.op) acts
