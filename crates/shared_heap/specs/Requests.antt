-- What requests do to a shared heap: a step, a store whose tests are passed, and what is asked before a
-- store.
use Rattle.std.specs.Prelude.{◌≡◌, ℕ, ◌<◌, List, [], length, slice_set, Option, None, Some}
use Rattle.ap_base.specs.declared.reference.Ref.{Ref}
use Rattle.ap_base.specs.declared.reference.Item.{Item}
use Rattle.ap_base.specs.declared.place.Place.{Place}
use Rattle.graph_model.specs.declared.types.Value.{Value}
use Rattle.monitors.specs.Indexed.{AreSound}
use Rattle.line_memory.specs.Memory.{Memory}
use Rattle.natives.specs.declared.requests.Request.{Request}
use Rattle.natives.specs.declared.requests.Request.TheVariants as ask
use Rattle.natives.specs.declared.requests.Reply.TheVariants as reply
use Rattle.run_history.specs.declared.act.Act.{Act}
use Rattle.run_history.specs.declared.act.Op.{Op}
use Rattle.run_history.specs.declared.act.Op.TheVariants as op
use Rattle.run_history.specs.Recorded.{History, with_act}
use Rattle.plain_model.specs.Facts.{SetFacts}
use Rattle.plain_model.specs.Duties.{IsFit}
use Rattle.shared_objects.specs.Plain.{plain_request, KnowsRequest}
use Rattle.shared_objects.specs.Worlds.{world_of}
use Rattle.step_forms.specs.declared.stepped.Stepped.{Stepped}
use Rattle.step_forms.specs.declared.stepped.Stepped.TheVariants as stepped
use Rattle.step_forms.specs.Becomes.{Becomes, AsksStore}
use Rattle.step_forms.specs.Follows.{IsStep}
use Rattle.object_steps.specs.declared.storing.Store.{Store}
use Rattle.object_steps.specs.Stores.{place_of}
use Rattle.twin_forms.specs.Table.{Entry}
use Rattle.two_spaces.specs.Seen.{shown_of}
use Rattle.two_spaces.specs.Whole.{Stands, StoresIn, MakesIn}
use Rattle.store_barrier.specs.Passed.{Doing}
use Rattle.store_barrier.specs.Passed.{Nothing, Writing}
use Rattle.store_barrier.specs.Passed.{Machine, memory_of, shown_in}
use Rattle.store_barrier.specs.Passed.{NotesStore, value_in, with_asked}
use Rattle.store_barrier.specs.Barriers.{IsDurablePlace, IsReady}
use Rattle.shared_heap.specs.Notes.{ThreadNotes, starting}
use Rattle.shared_heap.specs.Shared.{Shared}

-- Thread t was started, the request names what it may, and its references are null or stand for objects.
pub record MayRequest (set : SetFacts) (m : Machine) (t : ℕ) (request : Request Ref Item) : Type 0 where
  pub thread : t < length m.rest.threads
  pub fit : IsFit set (world_of [] (shown_in m) m.rest) t (plain_request (shown_in m).number request)
  pub known : KnowsRequest (shown_in m).number request

-- ---- steps

-- the history after a step: one act more where it did something
abbrev pub told_at : (thread calls : ℕ) → History → Stepped → History
told_at t calls h (stepped.Did o r) = with_act h (record { thread = t; at = calls; op = o })
told_at t calls h other = h

abbrev pub told_by : ℕ → Memory → History → Stepped → History
told_by t memory h result = told_at t memory.calls h result

-- the thread that an operation started, if it did, is noted with this reference
abbrev pub noted_op : Ref → Op → ThreadNotes → ThreadNotes
noted_op thread (op.Start object child) notes = starting notes child thread
noted_op thread operation notes = notes

abbrev pub noted_start : Ref → Stepped → ThreadNotes → ThreadNotes
noted_start thread (stepped.Did operation r) notes = noted_op thread operation notes
noted_start thread result notes = notes

-- A thread that was started is noted with the reference to its Thread object that the request gave.
abbrev pub noted_by : Request Ref Item → Stepped → ThreadNotes → ThreadNotes
noted_by (ask.Start from thread) result notes = noted_start thread result notes
noted_by request result notes = notes

-- the same by the act of the request's step, if there is one
abbrev pub noted_act : Ref → Option Act → ThreadNotes → ThreadNotes
noted_act thread None notes = notes
noted_act thread (Some act) notes = noted_op thread act.op notes

abbrev pub noted_of : Request Ref Item → Option Act → ThreadNotes → ThreadNotes
noted_of (ask.Start from thread) act notes = noted_act thread act notes
noted_of request act notes = notes

-- The request's step comes to this. The heap becomes what the step says, the act is told if it did something,
-- and what stands beside the heap may change; nothing else does.
pub record StepsTo (set : SetFacts) (t : ℕ) (request : Request Ref Item) (result : Stepped) (old new : Shared)
    : Type 0 where
  pub step : IsStep set t request (shown_in old.machine) old.machine.rest result (shown_in new.machine)
      new.machine.rest
  pub heap : Becomes shown_of StoresIn MakesIn old.machine.spaces result new.machine.spaces
  pub sound : AreSound new.machine.rest.monitors
  pub history : new.history ≡ told_by t (memory_of old.machine) old.history result
  pub machine : new.machine ≡ record old.machine {
    acts = new.history.acts;
    spaces = new.machine.spaces;
    rest = new.machine.rest;
  }
  pub lines : new.lines ≡ old.lines
  pub notes : new.notes ≡ noted_by request result old.notes

-- ---- stores

-- The tests of the request are passed: it makes this store, which can be made.
pub record IsPlannedFor (set : SetFacts) (t : ℕ) (request : Request Ref Item) (store : Store) (s : Shared)
    : Type 0 where
  pub asks : AsksStore set (shown_in s.machine) s.machine.rest t request (place_of store.target) store.kept
  pub ready : IsReady s.machine.spaces store

-- what a thread is about after its store: the line that was given is to be written back
abbrev pub doing_stored : Option ℕ → Doing
doing_stored None = Nothing
doing_stored (Some line) = Writing line

abbrev pub value_stored : Shared → Store → Value
value_stored s store = value_in s.machine store.kept

-- The store was made, as the step of each request that asks it, and its act told. The queues were told where
-- it went to a copied line of an object that is being converted.
pub record StoresTo (t : ℕ) (store : Store) (line : Option ℕ) (old new : Shared) : Type 0 where
  pub step : (set : SetFacts) (request : Request Ref Item) → IsPlannedFor set t request store old
      → IsStep set t request (shown_in old.machine) old.machine.rest
      (stepped.Did (op.Stored (place_of store.target) (value_stored old store)) reply.Done)
      (shown_in new.machine) new.machine.rest
  pub heap : StoresIn old.machine.spaces (place_of store.target) store.kept new.machine.spaces
  pub notes : (es : List Entry) → Stands old.machine.spaces es
      → NotesStore es (op.Stored (place_of store.target) (value_stored old store)) old.machine.queue
      new.machine.queue
  pub durable : (es : List Entry) → Stands old.machine.spaces es
      → IsDurablePlace old.machine.spaces es (place_of store.target) → new.machine.queue ≡ old.machine.queue
  pub history : new.history ≡ with_act old.history (record {
    thread = t;
    at = (memory_of old.machine).calls;
    op = op.Stored (place_of store.target) (value_stored old store);
  })
  pub machine : new.machine ≡ record old.machine {
    acts = new.history.acts;
    spaces = new.machine.spaces;
    queue = new.machine.queue;
    doing = slice_set old.machine.doing t (doing_stored line);
  }
  pub lines : new.lines ≡ old.lines
  pub noted : new.notes ≡ old.notes

-- ---- what is asked

-- The thread asks what the store is to make durable.
pub record AsksTo (t : ℕ) (place : Place) (value : Value) (old new : Shared) : Type 0 where
  pub machine : new.machine ≡ with_asked old.machine t place value
  pub history : new.history ≡ with_act old.history (record {
    thread = t;
    at = (memory_of old.machine).calls;
    op = op.Asked place value;
  })
  pub lines : new.lines ≡ old.lines
  pub notes : new.notes ≡ old.notes
