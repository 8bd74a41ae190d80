-- What a request's step leaves of a machine.
use Rattle.std.proofs.Common.{◌≡◌, inl, inr, ℕ, false, List, [], Some, ◌∙◌, ap}
use Rattle.std.specs.Prelude.{slice_index_or}
use Rattle.ap_base.specs.declared.place.Place.{Place}
use Rattle.ap_base.specs.declared.place.Place.TheVariants.{Static, Slot}
use Rattle.ap_base.specs.declared.reference.Ref.{Ref}
use Rattle.ap_base.specs.declared.reference.Item.{Item}
use Rattle.natives.specs.declared.requests.Request.{Request}
use Rattle.natives.specs.declared.requests.Reply.{Reply}
use Rattle.line_memory.specs.Memory.{Memory}
use Rattle.run_history.specs.declared.act.Op.{Op}
use Rattle.run_history.specs.declared.act.Op.TheVariants as op
use Rattle.run_history.specs.Knowing.{owes_fence}
use Rattle.plain_model.specs.Steps.{op_of, step}
use Rattle.plain_model.specs.Codes.{is_persistent, taken_by}
use Rattle.plain_model.specs.Runs.{IsAbout}
use Rattle.shared_objects.specs.Plain.{plain_request, plain_reply}
use Rattle.shared_objects.specs.Worlds.{world_of}
use Rattle.run_forms.proofs.Visible.{step-visible}
use Rattle.step_forms.specs.declared.stepped.Stepped.TheVariants as stepped
use Rattle.step_forms.specs.Becomes.{Becomes}
use Rattle.twin_forms.specs.Table.{Entry, entry, line_of}
use Rattle.twin_heap.specs.Here.{StoresAt}
use Rattle.two_spaces.specs.declared.spaces.Static.{Static as Field}
use Rattle.two_spaces.specs.declared.spaces.Static.TheVariants.{Beside, Root}
use Rattle.two_spaces.specs.Seen.{Spaces, shown_of}
use Rattle.two_spaces.specs.Whole.{Stands, StoresIn, MakesIn, StoredTo, StaticStored, SlotStored, no_static}
use Rattle.two_spaces.proofs.Keeping.{copied_or_not}
use Rattle.convert_words.specs.Agreeing.{Is}
use Rattle.machine_forms.specs.declared.doing.Doing.{Doing}
use Rattle.machine_forms.specs.declared.doing.Doing.TheVariants.{Nothing, Converting, Writing, Fencing}
use Rattle.machine_forms.specs.Machines.{Opening, Machine, known_in, roots_in, memory_of, shown_in, doing_of, layout_in}
use Rattle.machine_forms.specs.Keeping.{IsDoing, KeepsRun}
use Rattle.machine_forms.specs.Events.{DoesRequest, IsFree as IsIdle}
use Rattle.machine_laws.proofs.Coming.{IsFree}
use Rattle.machine_laws.proofs.AskKeeping.{none-queued, claimed-outside}

-- ---- calls of the image

-- a store makes none
stored-at : (line word w : ℕ) (old new : Memory) → StoresAt line word w old new → new.calls ≡ old.calls
stored-at line word w old new at = at.changes.same.calls

slot-calls : (s now : Spaces) (es : List Entry) (n i w : ℕ) → SlotStored s es n i w now
    → now.twin.memory.calls ≡ s.twin.memory.calls
slot-calls s now es n i w st = elim (copied_or_not (entry es n) (line_of i)) [
  | inl copied ↦ (st.line copied).changes.same.calls
  | inr not_copied ↦ ap (λ (m : Memory). m.calls) (st.same not_copied)
]

static-calls : (s now : Spaces) (es : List Entry) (f : ℕ) (field : Field) (item : Item)
    → StaticStored s es f field item now → now.twin.memory.calls ≡ s.twin.memory.calls
static-calls s now es f (Beside old) item st = ap (λ (x : Spaces). x.twin.memory.calls) st.is
static-calls s now es f (Root slot) item st = st.2.line.changes.same.calls

stored-calls : (s now : Spaces) (es : List Entry) (p : Place) (item : Item) → StoredTo s es p item now
    → now.twin.memory.calls ≡ s.twin.memory.calls
stored-calls s now es (Slot n i) item st = slot-calls s now es n i st.0 st.2
stored-calls s now es (Static f) item st =
    static-calls s now es f (slice_index_or s.statics f no_static) item st

pub same-calls : (s now : Spaces) (es : List Entry) (o : Op) (r : Reply Ref Item) → Stands s es
    → Becomes shown_of StoresIn MakesIn s (stepped.Did o r) now → now.twin.memory.calls ≡ s.twin.memory.calls
same-calls s now es (op.Stored place value) r stands becomes =
    stored-calls s now es place becomes.0 (becomes.2 es stands)
same-calls s now es (op.Alloc n shape count) r stands becomes =
    ap (λ (m : Memory). m.calls) (becomes es stands).memory
same-calls s now es (op.Throw n class) r stands becomes =
    ap (λ (m : Memory). m.calls) (becomes es stands).memory
same-calls s now es o r stands becomes = ap (λ (x : Spaces). x.twin.memory.calls) becomes

-- ---- what a thread is about

-- Who has asked nothing, or for what is durable now, owes no fence and has claimed nothing.
module _ (o : Opening) (m : Machine) (es : List Entry) (t : ℕ) (k : KeepsRun o m es) where
  pub idle-owes : (d : Doing) → IsIdle o m es t d → IsDoing (known_in o m) (layout_in o es) t d
      → owes_fence (known_in o m).unfenced t ≡ false
  idle-owes Nothing idle is = is.1
  idle-owes Converting idle is = is.1
  idle-owes (Writing line) idle is = absurd idle
  idle-owes Fencing idle is = absurd idle

  pub idle-empty : (d : Doing) → IsIdle o m es t d → IsDoing (known_in o m) (layout_in o es) t d
      → (i n : ℕ) → Is m.queue es t i n → ⊥
  idle-empty Nothing idle is i n at = none-queued o m es k t i n is.0 at
  idle-empty Converting idle is i n at =
      let first = k.asked.queued t i n at in
      claimed-outside o m es k t first.object first.first.claimed
      (idle first.pending first.object first.is_pending first.value)
  idle-empty (Writing line) idle is i n at = absurd idle
  idle-empty Fencing idle is i n at = absurd idle

-- ---- one step

module _ (o : Opening) (m m' : Machine) (es : List Entry) (t : ℕ) (request : Request Ref Item)
    (operation : Op)
    (r : Reply Ref Item) (k : KeepsRun o m es) (does : DoesRequest o m m' es t request operation r) where
  pub visible : is_persistent operation ≡ false
  visible = step-visible o.launch.set (world_of [] (shown_in m) m.rest) t (taken_by operation)
      (plain_request (shown_in m).number request) operation (plain_reply (shown_in m').number r) does.fit.fit
      (does.step.follows []).0

  pub about : IsAbout o.launch.set (known_in o m) (Some (plain_request (shown_in m).number request)) t
      operation
  about = ap op_of (
      ap (λ w. step o.launch.set w t (taken_by operation) (plain_request (shown_in m).number request))
      k.world.world
      ∙ (does.step.follows (roots_in o m)).0)

  pub owes-nothing : owes_fence (known_in o m).unfenced t ≡ false
  owes-nothing = idle-owes o m es t k (doing_of m t) does.doing (k.asked.doing t)

  pub holds-nothing : (i n : ℕ) → Is m.queue es t i n → ⊥
  holds-nothing i n at = idle-empty o m es t k (doing_of m t) does.doing (k.asked.doing t) i n at

  pub free : IsFree (known_in o m) t (memory_of m).calls
  free = record {
    later = k.asked.timed;
    owes = owes-nothing;
  }

  pub calls-same : (memory_of m').calls ≡ (memory_of m).calls
  calls-same = same-calls m.spaces m'.spaces es operation r k.heap.whole does.heap
