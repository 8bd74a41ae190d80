-- The thread that a step starts.
use Rattle.std.proofs.Common.{◌≡◌, ℕ, Bool, true, false, ◌&&◌, nat_lt, List, [], ◌∷◌, map, Option, Some, None, refl, ap, sym}
use Rattle.std.proofs.Common.{subst, ◌∙◌, if◌then◌else◌, unwrap_or}
use Rattle.std.specs.Prelude.{length}
use Rattle.ap_base.specs.declared.reference.Ref.{Ref}
use Rattle.ap_base.specs.declared.reference.Ref.TheVariants.{Null as NoRef, Persistent, Volatile}
use Rattle.ap_base.specs.declared.reference.Item.{Item}
use Rattle.run_types.specs.declared.resolved.At.{At}
use Rattle.graph_model.specs.declared.types.Root.{Root}
use Rattle.graph_model.specs.declared.types.Value.{Value}
use Rattle.graph_model.specs.declared.types.Value.TheVariants as value
use Rattle.natives.specs.declared.requests.Request.{Request}
use Rattle.natives.specs.declared.requests.Request.TheVariants as ask
use Rattle.natives.specs.declared.requests.Reply.TheVariants as reply
use Rattle.run_history.specs.declared.act.Op.{Op}
use Rattle.run_history.specs.declared.act.Op.TheVariants as op
use Rattle.run_history.specs.Worlds.{Thread, World}
use Rattle.plain_model.specs.Codes.{begun_by}
use Rattle.plain_model.specs.Duties.{IsFit}
use Rattle.plain_model.specs.Facts.{SetFacts}
use Rattle.plain_model.specs.Steps
use Rattle.plain_model.specs.Steps.{Does, IsOver, Step, WrongOperand, op_of, step}
use Rattle.frames.specs.Turns.{begun_thread}
use Rattle.plain_frames.specs.Codes.{code_of}
use Rattle.plain_frames.specs.Coded.{plain_reference}
use Rattle.shared_objects.specs.declared.rest.Rest.{Rest}
use Rattle.shared_objects.specs.Shown.{Keeps, Numbers, Shown, number_value}
use Rattle.shared_objects.specs.Plain.{plain_request}
use Rattle.shared_objects.specs.Worlds.{world_of}
use Rattle.run_forms.specs.Views.{PlainFrames, ThreadFrames, numbered, plain_frames}
use Rattle.run_forms.specs.Standing.{Launch, plain_code}
use Rattle.plain_machine.specs.declared.lanes.Lane.{Lane}
use Rattle.plain_machine.specs.Starts.{begun_of, has_frames}
use Rattle.plain_machine.specs.Foreseeing.{step_in}
use Rattle.plain_machine.specs.Ops.{is_start}
use Rattle.plain_machine.specs.Standing.{AreAhead, AreOfProgram}
use Rattle.plain_machine.proofs.Possible.{asks_start, could, no-false, no-true, one-of, own-fault, possible, start-asked}

none-some : {X P : Type 0} (v : X) → ◌≡◌ {A = Option X} None (Some v) → P
none-some v e = absurd (let no = e in cc)

abbrev pub frames_of : List Lane → List ThreadFrames
frames_of lanes = map (λ (l : Lane). l.frames) lanes

-- ---- the object whose thread is started

module _ (set : SetFacts) (world : World) (n child : ℕ) where
  started-is : (m : ℕ) (thread : Option (ℕ × Thread))
      → op_of (Steps.starts_thread set world m thread) ≡ Some (op.Start n child) → m ≡ n
  started-is m (Some s) e = absurd (let no = e in cc)
  started-is m None e = by-room (nat_lt (length world.threads) 64) (length world.threads) _ e
    where
      by-room : (b : Bool) (count : ℕ) (f : _)
          → op_of (if b then Does (op.Start m count) reply.Done else IsOver f) ≡ Some (op.Start n child)
          → m ≡ n
      by-room true count f h = cc
      by-room false count f h = none-some (op.Start n child) h

  object-is : (number : Option ℕ) → op_of (Steps.with_object set world (number_value number)
      (Steps.is_thread set world) (λ m. Steps.starts_thread set world m (Steps.thread_of world m)))
      ≡ Some (op.Start n child) → number ≡ Some n
  object-is None e = absurd (let no = e in cc)
  object-is (Some m) e =
      by-test (nat_lt m (length world.heap.objects) && Steps.is_thread set world m) e
    where
      by-test : (b : Bool) → op_of (if b then Steps.starts_thread set world m (Steps.thread_of world m)
          else WrongOperand) ≡ Some (op.Start n child) → Some m ≡ Some n
      by-test true h = ap Some (started-is m (Steps.thread_of world m) h)
      by-test false h = none-some (op.Start n child) h

module _ (set : SetFacts) (shown : Shown) (rest : Rest) (t taken : ℕ) (roots : List Root) where
  thread-is : (from : At) (thread : Ref) (n child : ℕ)
      → op_of (step_in set roots shown rest t taken (ask.Start from thread)) ≡ Some (op.Start n child)
      → shown.number thread ≡ Some n
  unfolding step
  thread-is from thread n child e = object-is set (world_of roots shown rest) n child (shown.number thread) e

asks-start-is : (number : Numbers) (q : Request Ref Item) → asks_start (plain_request number q) ≡ true
    → (from : At) × (thread : Ref) × (q ≡ ask.Start from thread)
asks-start-is number (ask.Start from thread) e = (from, thread, refl)
asks-start-is number q e = no-false e

-- ---- its frames

pub reference-is : (now : Shown) (thread : Ref) (n : ℕ) → now.number NoRef ≡ None → now.number thread ≡ Some n
    → plain_reference (numbered now) thread ≡ value.Obj n
reference-is now NoRef n null e = none-some n (sym null ∙ e)
reference-is now (Persistent line) n null e =
    ap (λ o. value.Obj (unwrap_or o (length now.objects))) e
reference-is now (Volatile index) n null e = ap (λ o. value.Obj (unwrap_or o (length now.objects))) e

module _ (launch : Launch) (now : Shown) (null : now.number NoRef ≡ None) where
  thread-begun : (from : At) (thread : Ref) (f : ThreadFrames) (n child : ℕ) → now.number thread ≡ Some n
      → map (plain_frames now) (frames_of (begun_of (Some f) (ask.Start from thread)))
      ≡ begun_by launch.set launch.main launch.opening (plain_code launch) (op.Start n child)
  unfolding code_of
  thread-begun from thread f n child e =
      let begun : Value → List PlainFrames = λ v. begun_thread v ∷ [] in
      ap begun (reference-is now thread n null e)

  none-begun : (o : Op) → is_start o ≡ false
      → [] ≡ begun_by launch.set launch.main launch.opening (plain_code launch) o
  none-begun (op.Start n child) e = no-true e
  none-begun o e = refl

  module _ (shown : Shown) (rest : Rest) (t : ℕ) (roots : List Root) (keeps : Keeps shown.number now.number)
      (q : Request Ref Item)
      (fit : IsFit launch.set (world_of [] shown rest) t (plain_request shown.number q)) where
    some-begun : (f : ThreadFrames) (n child taken : ℕ)
        → op_of (step_in launch.set roots shown rest t taken q) ≡ Some (op.Start n child)
        → map (plain_frames now) (frames_of (begun_of (Some f) q))
        ≡ begun_by launch.set launch.main launch.opening (plain_code launch) (op.Start n child)
    some-begun f n child taken e =
        let may = one-of launch.set (world_of roots shown rest) t (could (plain_request shown.number q))
        (step_in launch.set roots shown rest t taken q) (op.Start n child)
        (possible launch.set (world_of roots shown rest) t taken (plain_request shown.number q)
        (own-fault launch.set (world_of [] shown rest) t (plain_request shown.number q) fit)) e in
        let (from, thread, is) = asks-start-is shown.number q (start-asked (plain_request shown.number q) n
        child may) in
        let own : op_of (step_in launch.set roots shown rest t taken (ask.Start from thread))
        ≡ Some (op.Start n child) =
        subst (λ (p : Request Ref Item). op_of (step_in launch.set roots shown rest t taken p)
        ≡ Some (op.Start n child)) is e in
        let here = keeps thread n (thread-is launch.set shown rest t taken roots from thread n child own) in
        ap (λ (p : Request Ref Item). map (plain_frames now) (frames_of (begun_of (Some f) p))) is
        ∙ thread-begun from thread f n child here

    -- the frames of the thread that the operation starts, if it starts one
    pub begun-plain : (frames : Option ThreadFrames) (o : Op) (taken : ℕ) → has_frames frames ≡ is_start o
        → op_of (step_in launch.set roots shown rest t taken q) ≡ Some o
        → map (plain_frames now) (frames_of (begun_of frames q))
        ≡ begun_by launch.set launch.main launch.opening (plain_code launch) o
    begun-plain None o taken same e = none-begun o (sym same)
    begun-plain (Some f) (op.Start n child) taken same e = some-begun f n child taken e
    begun-plain (Some f) o taken same e = no-true same

pub begun-ahead : (launch : Launch) (frames : Option ThreadFrames) (q : Request Ref Item)
    → AreAhead launch (frames_of (begun_of frames q)) (begun_of frames q)
begun-ahead launch None q = tt
begun-ahead launch (Some f) (ask.Start from thread) = (refl, tt)
begun-ahead launch (Some f) q = tt

pub begun-program : (launch : Launch) (frames : Option ThreadFrames) (q : Request Ref Item)
    → AreOfProgram launch (begun_of frames q)
begun-program launch None q = tt
begun-program launch (Some f) (ask.Start from thread) = (tt, tt)
begun-program launch (Some f) q = tt
