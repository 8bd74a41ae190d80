-- A thread that an act starts is the next one, and begins with the reference that is noted of it.
use Rattle.std.proofs.Common.{◌≡◌, ℕ, ◌<◌, ◌&&◌, if◌then◌else◌, Bool, true, false, [], ◌∷◌, length, nat_lt, unwrap_or}
use Rattle.std.proofs.Common.{Option, Some, None, refl, sym, ◌∙◌, ap, subst, arith}
use Rattle.std.specs.Prelude.{IsSome}
use Rattle.std.proofs.lemmas.Bool.{ltb-true}
use Rattle.std.proofs.lemmas.List.{get_or-set_same, length-map, length-set}
use Rattle.ap_base.specs.declared.reference.Ref.{Ref}
use Rattle.ap_base.specs.declared.reference.Ref.TheVariants as ref
use Rattle.ap_base.specs.declared.reference.Item.{Item}
use Rattle.graph_model.specs.declared.types.Value.{Value}
use Rattle.graph_model.specs.declared.types.Value.TheVariants.{Int, Long, Null, Obj as Object}
use Rattle.natives.specs.declared.requests.Request.{Request}
use Rattle.natives.specs.declared.requests.Request.TheVariants as ask
use Rattle.natives.specs.declared.requests.Reply.{Reply}
use Rattle.run_history.specs.declared.act.Op.{Op}
use Rattle.run_history.specs.declared.act.Op.TheVariants as op
use Rattle.run_history.specs.Worlds.{Thread, World, depth_of}
use Rattle.plain_model.specs.Duties.{IsFit}
use Rattle.plain_model.specs.Facts.{SetFacts}
use Rattle.plain_model.specs.Limits.{most_threads}
use Rattle.plain_model.specs.Requests.{PlainReply}
use Rattle.plain_model.specs.Steps
use Rattle.plain_model.specs.Steps.{Step, Does, Waits, WrongOperand, IsOver, step, thread_of}
use Rattle.plain_frames.specs.Coded.{plain_reference}
use Rattle.plain_frames.specs.Codes.{code_of}
use Rattle.frames.specs.Turns.{begun_thread}
use Rattle.shared_objects.specs.Plain.{plain_request}
use Rattle.shared_objects.specs.Shown.{number_value, ref_value}
use Rattle.shared_objects.specs.Worlds.{plain_thread, world_of}
use Rattle.step_forms.specs.declared.stepped.Stepped.TheVariants as stepped
use Rattle.step_forms.specs.Becomes.{given}
use Rattle.run_forms.specs.Views.{numbered}
use Rattle.two_spaces.specs.Laws.{null_is_no_object}
use Rattle.two_spaces.specs.Seen.{Spaces, shown_of}
use Rattle.twin_forms.specs.Sights.{view_of}
use Rattle.machine_threads.specs.Passed.{Opening, shown_in}
use Rattle.machine_threads.specs.Passed.{Begins}
use Rattle.shared_heap.specs.Notes.{AreOf64, ThreadNotes, started_as, starting}
use Rattle.shared_heap.specs.Requests.{noted_by}
use Rattle.shared_heap.specs.Shared.{Shared}
use Rattle.machine.specs.Ended.{IsOutside}
use Rattle.machine.specs.Events.{NotesStart}
use Rattle.machine.proofs.Steps.{starts-none}

-- ---- the plain step

module _ (set : SetFacts) (world : World) where
  -- which thread is started, if one is, and for which object
  abbrev pub StartsBy : Value → Op → Type 0
  StartsBy value (op.Start n child) = (value ≡ Object n) × (child ≡ length world.threads) × (child < 64)
  StartsBy value o = Unit {0}

  abbrev pub Starts : Value → Step → Type 0
  Starts value (Does o r) = StartsBy value o
  Starts value s = Unit {0}

  starts-if : (value : Value) (b : Bool) (y z : Step) → (b ≡ true → Starts value y) → Starts value z
      → Starts value (if b then y else z)
  starts-if value true y z p q = p refl
  starts-if value false y z p q = q

  starts-thread : (n : ℕ) (found : Option (ℕ × Thread))
      → Starts (Object n) (Steps.starts_thread set world n found)
  starts-thread n None = starts-if (Object n) (nat_lt (length world.threads) most_threads) _ _
      (λ below. (refl, refl, ltb-true (length world.threads) most_threads below)) tt
  starts-thread n (Some started) = tt

  starts-object : (value : Value) → Starts value (Steps.with_object set world value (Steps.is_thread set world)
      (λ n. Steps.starts_thread set world n (thread_of world n)))
  starts-object Null = tt
  starts-object (Object n) = starts-if (Object n)
      (nat_lt n (length world.heap.objects) && Steps.is_thread set world n)
      (Steps.starts_thread set world n (thread_of world n)) WrongOperand (λ is. starts-thread n (thread_of world n)) tt
  starts-object (Int i) = tt
  starts-object (Long i) = tt

-- ---- references

named-so : (o : Option ℕ) (past n : ℕ) → number_value o ≡ Object n → unwrap_or o past ≡ n
named-so None past n is = absurd (let no : Null ≡ Object n = is in cc)
named-so (Some m) past n is = cc

reference-is : (s : Spaces) (thread : Ref) (n : ℕ) → ref_value (shown_of s).number thread ≡ Object n
    → plain_reference (numbered (shown_of s)) thread ≡ Object n
reference-is s ref.Null n is = absurd (let no : Null ≡ Object n
    = sym (ap number_value (null_is_no_object (view_of s.twin))) ∙ is in cc)
reference-is s (ref.Persistent line) n is =
    ap (λ (m : ℕ). Object m) (named-so ((shown_of s).number (ref.Persistent line)) _ n is)
reference-is s (ref.Volatile index) n is =
    ap (λ (m : ℕ). Object m) (named-so ((shown_of s).number (ref.Volatile index)) _ n is)

-- ---- what is noted

-- of a request that starts a thread: 64 threads are noted
abbrev pub HasNotes : Request Ref Item → Shared → Type 0
HasNotes (ask.Start from thread) s = AreOf64 s.notes
HasNotes request s = Unit {0}

pub has-notes : (q : Request Ref Item) (s : Shared) → AreOf64 s.notes → HasNotes q s
has-notes (ask.Start from thread) s threads = threads
has-notes q s threads = tt

-- a request that stores starts none
pub given-notes : (q : Request Ref Item) (s : Shared) → IsSome (given q) → HasNotes q s
given-notes (ask.Start from thread) s gives = absurd (let no = gives in cc)
given-notes q s gives = tt

module _ (o : Opening) (t : ℕ) (s new : Shared) (n child : ℕ) (r : Reply Ref Item) (reply : PlainReply) (taken : ℕ)
    (same : new.machine.spaces ≡ s.machine.spaces) where
  abbrev world : World
  world = world_of [] (shown_in s.machine) s.machine.rest

  begins-so : (thread : Ref) → ref_value (shown_in s.machine).number thread ≡ Object n
      → Begins o new.machine (op.Start n child) (begun_thread thread ∷ [])
  unfolding code_of
  begins-so thread is = ap (λ (v : Value). begun_thread v ∷ []) (reference-is new.machine.spaces thread n
      (subst (λ (x : Spaces). ref_value (shown_of x).number thread ≡ Object n) (sym same) is))

  notes-thread : (thread : Ref) → StartsBy o.launch.set world (ref_value (shown_in s.machine).number thread)
      (op.Start n child) → AreOf64 new.notes → new.notes ≡ starting s.notes child thread
      → NotesStart o (op.Start n child) child s new
  notes-thread thread is threads notes = record {
    next = is.1 ∙ length-map s.machine.rest.threads plain_thread;
    thread = thread;
    noted = ap (λ (x : ThreadNotes). started_as x child) notes
        ∙ get_or-set_same s.notes.started child (Some thread) None
        (let long = threads.started in let now = ap (λ (x : ThreadNotes). length x.started) notes in
        let set = length-set s.notes.started child (Some thread) in let below = is.2 in
        omega (arith, long, now, set, below));
    begins = begins-so thread is.0;
  }

  pub notes-start : (q : Request Ref Item) → IsOutside (depth_of world t) q
      → IsFit o.launch.set world t (plain_request (shown_in s.machine).number q)
      → step o.launch.set world t taken (plain_request (shown_in s.machine).number q) ≡ Does (op.Start n child) reply
      → HasNotes q new → new.notes ≡ noted_by q (stepped.Did (op.Start n child) r) s.notes
      → NotesStart o (op.Start n child) child s new
  unfolding step
  notes-start (ask.Start from thread) outside fit does threads notes = notes-thread thread
      (subst (Starts o.launch.set world (ref_value (shown_in s.machine).number thread)) does
      (starts-object o.launch.set world (ref_value (shown_in s.machine).number thread))) threads notes
  notes-start q outside fit does threads notes = absurd (starts-none o.launch.set world t
      (shown_in s.machine).number taken q (op.Start n child) reply tt outside fit does)
