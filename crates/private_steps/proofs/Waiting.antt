-- What a turn asked waits for its reply.
use Rattle.std.proofs.Common.{◌≡◌, ℕ, zero, suc, ◌+◌, ◌-◌, ◌<◌, ◌≤◌, nat_le, map, ◌++◌, take, drop, Bool, true, false, List, []}
use Rattle.std.proofs.Common.{◌∷◌, length, Option, None, Some, if◌then◌else◌, refl, ap, sym, subst, arith}
use Rattle.std.proofs.lemmas.List.{get_or_past}
use Rattle.std.proofs.lemmas.Bool.{leb-true, leb-false}
use Rattle.run_types.specs.declared.key.Key.{Key}
use Rattle.run_types.specs.declared.resolved.At.{At}
use Rattle.run_types.specs.declared.fault.LinkKind.TheVariants as kind
use Rattle.run_types.specs.declared.fault.StepFault.TheVariants as fault
use Rattle.run_types.specs.declared.fault.Which.TheVariants.{FrameSlots}
use Rattle.natives.specs.declared.requests.Request.{Request}
use Rattle.natives.specs.declared.requests.Request.TheVariants as ask
use Rattle.frame_cells.specs.declared.cell.Cell.{Cell}
use Rattle.frame_cells.specs.declared.cell.Cell.TheVariants.{Reference}
use Rattle.frame_cells.specs.declared.cell.Did.{Did}
use Rattle.frame_cells.specs.declared.cell.Did.TheVariants.{Next, Jump, DividedByZero, Bad}
use Rattle.frame_cells.specs.Own.{Own, After, stays, reference_at}
use Rattle.frames.specs.declared.given.Given.{Given}
use Rattle.frames.specs.declared.given.Given.TheVariants as given
use Rattle.frames.specs.declared.op.Op.{Op}
use Rattle.frames.specs.declared.op.Op.TheVariants as op
use Rattle.frames.specs.declared.program.Body.{Body}
use Rattle.frames.specs.declared.program.Body.TheVariants as body
use Rattle.frames.specs.declared.program.Placed.{Placed}
use Rattle.frames.specs.declared.program.Target.{Target}
use Rattle.frames.specs.declared.program.Target.TheVariants as target
use Rattle.frames.specs.Tables.{method_at, placed_at, no_placed, from_of, start_of, dispatched}
use Rattle.frames.specs.Settings.{Frame, Running, Native, Initialiser, Main, Doing, Runs, Enters}
use Rattle.frames.specs.Settings.{Frames, NativeStep, Asks, Calls, Gives}
use Rattle.frames.specs.Settings.{Setting, slots_left}
use Rattle.frames.specs.Calls.{Stepped, goes_on, asks_so, breaks, after, if_room, first_own, monitor_of, value_of, reply_of}
use Rattle.frames.specs.Calls.{cells_of, cells_taken, arguments_on, signature_of, begins_body, begins_found, native_does}
use Rattle.frames.specs.Calls.{returns_to, calls_with, calls, returns, result_of}
use Rattle.frames.specs.Private.{private_step}
use Rattle.frames.specs.Requests.{request_of}
use Rattle.frames.specs.Turns.{asks_or, calls_special, does, frame_does, asked_by, one_of, one, turn_of}
use Rattle.private_steps.specs.Waits.{WaitsFor, WaitsUnless, Waits, WaitsAfter, StepWaits}

module _ {R N V : Type 0} where
  if-waits : (b : Bool) (s t : Stepped R N V) → StepWaits s → StepWaits t → StepWaits (if b then s else t)
  if-waits true s t h k = h
  if-waits false s t h k = k

  after-request : (request : Request R V) (fs : Frames R N) → Waits fs → WaitsAfter request fs
  after-request (ask.Broken f) fs h = tt
  after-request request fs h = h

  pick : (a : Option (Request R V)) (s t : Stepped R N V) → StepWaits s → StepWaits t →
      StepWaits (elim a as (λ _. Stepped R N V) [ None ↦ t | Some r ↦ s ])
  pick None s t h k = k
  pick (Some r) s t h k = h

unless : {R N : Type 0} → (paused : Bool) (d : Doing R) (fs : List (Frame R N)) → WaitsFor d fs →
    WaitsUnless paused d fs
unless true d fs h = tt
unless false d fs h = h

module _ {M R N V : Type 0} (x : Setting M R N V) where
  after-if : (m at : ℕ) (held : Option (Key R)) (below : List (Frame R N)) (b : Bool) (p q : After R) →
      StepWaits (after x m at held below p) → StepWaits (after x m at held below q) →
      StepWaits (after x m at held below (if b then p else q))
  after-if m at held below true p q h k = h
  after-if m at held below false p q h k = k

  room-waits : (need : ℕ) (fs : List (Frame R N)) (go : Stepped R N V) → StepWaits go →
      StepWaits (if_room x need fs go)
  room-waits need fs go h =
      if-waits (nat_le need (slots_left x.program fs)) go
      (breaks (fault.Full (record { which = FrameSlots; need = need; left = slots_left x.program fs })) fs) h tt

  body-waits : (m : ℕ) (cells : List (Cell R)) (arguments : List (Given R)) (frames below : List (Frame R N))
      (empty : Stepped R N V) (b : Body M) → StepWaits empty →
      StepWaits (begins_body x m cells arguments frames below empty b)
  body-waits m cells arguments frames below empty (body.Code entry) h =
      let method = method_at x.program m in
      let own : Own R = first_own method cells in
      let need : ℕ = 4 + method.max_locals + method.max_stack in
      let go : Stepped R N V = goes_on (if method.is_synchronized then Enters else Runs)
      (Running m entry own (monitor_of method own) ∷ below) in
      if-waits (nat_le (length cells) method.max_locals) (if_room x need frames go)
      (breaks (fault.BadCode (start_of x.program m)) frames) (room-waits need frames go tt) tt
  body-waits m cells arguments frames below empty (body.Native k) h =
      let at = start_of x.program m in
      let go : Stepped R N V = goes_on Runs (Native at (x.start k at (map (value_of x) arguments)) ∷ below) in
      room-waits 16 frames go tt
  body-waits m cells arguments frames below empty body.Empty h = room-waits 16 frames empty h

  found-waits : (t : Target) (class : ℕ) (r : R) (frames below : List (Frame R N)) (empty : Stepped R N V) →
      StepWaits empty → StepWaits (begins_found x t class r frames below empty)
  found-waits (target.Method m) class r frames below empty h =
      body-waits m (Reference r ∷ []) (given.Reference r ∷ []) frames below empty (method_at x.program m).body h
  found-waits (target.Fails why) class r frames below empty h = tt

  native-waits : (step : NativeStep R N) (from : At) (below : List (Frame R N)) (gives : Given R → Stepped R N V) →
      ((v : Given R) → StepWaits (gives v)) → StepWaits (native_does x step from below gives)
  native-waits (Asks state) from below gives h = tt
  native-waits (Calls state called class receiver) from below gives h =
      let fs : List (Frame R N) = Native from state ∷ below in
      found-waits (dispatched x.program class (signature_of x called)) class receiver fs fs
      (breaks (fault.LinkFault kind.NoCode class 0) fs) tt
  native-waits (Gives value) from below gives h = h value

  returns-waits : (value : Given R) (fs : List (Frame R N)) → StepWaits (returns_to x value fs)
  returns-waits value [] = tt
  returns-waits value (Running m at own held ∷ below) =
      let bad : After R = stays Bad own in
      let done : After R = record {
        did = Next;
        own = record own { stack = cells_of value ++ drop 0 own.stack };
      } in
      let room = nat_le (length (cells_of value) + (length own.stack - 0)) own.room in
      after-if m at held below (nat_le 0 (length own.stack)) (if room then done else bad) bad
      (after-if m at held below room done bad tt tt) tt
  returns-waits value (Native from state ∷ below) =
      native-waits (x.next state (reply_of x value)) from below (λ v. returns_to x v below)
      (λ v. returns-waits v below)
  returns-waits value (Initialiser class from ∷ below) = tt
  returns-waits value (Main m arguments ∷ below) = tt

  module _ (m at : ℕ) (own : Own R) (held : Option (Key R)) (below : List (Frame R N)) where
    calls-waits : (a : Option (List (Given R))) (k : ℕ) → StepWaits (calls_with x a k m at own held below)
    calls-waits None k = tt
    calls-waits (Some arguments) k =
        let n = cells_taken (method_at x.program k).parameters in
        let caller : List (Frame R N) = Running m at (record own { stack = drop n own.stack }) held ∷ below in
        body-waits k (take n own.stack) arguments (Running m at own held ∷ below) caller
        (returns_to x given.Nothing caller) (method_at x.program k).body (returns-waits given.Nothing caller)

    module _ (next : at < 18446744073709551615) where
      after-waits : (a : After R) (d : Did) → a.did ≡ d → StepWaits (after x m at held below a)
      after-waits a Next e = rw e tt
      after-waits a (Jump to) e = rw e tt
      after-waits a DividedByZero e = rw e next
      after-waits a Bad e = rw e tt

      or-waits : (a : Option (Request R V)) (go : Stepped R N V) → StepWaits go →
          StepWaits (asks_or x a (Running m at own held ∷ below) go)
      or-waits None go h = h
      or-waits (Some request) go h =
          after-request request (record { doing = Runs; frames = Running m at own held ∷ below; paused = false })
          next

      held-waits : (value : Option (Given R)) (monitor : Option (Key R)) →
          StepWaits (returns x value m at own monitor below)
      held-waits None monitor = tt
      held-waits (Some value) None = returns-waits value below
      held-waits (Some value) (Some monitor) = next

      special-waits : (r : Option R) (k : ℕ) → StepWaits (calls_special x r k m at own held below)
      special-waits None k = tt
      special-waits (Some r) k =
          if-waits (x.is_null r)
          (asks_so (ask.Raise (from_of x.program m at) x.program.null_pointer) (Running m at own held ∷ below))
          (calls x k m at own held below) next
          (calls-waits (arguments_on (method_at x.program k).parameters own.stack []) k)

      does-waits : (o : Op) → StepWaits (does x o m at own held below)
      does-waits op.Return = held-waits (result_of None own) held
      does-waits (op.ReturnValue sort) = held-waits (result_of (Some sort) own) held
      does-waits (op.InvokeSpecial k) =
          special-waits (reference_at (cells_taken (method_at x.program k).parameters - 1) own) k
      does-waits (op.InvokeStatic k) =
          or-waits (request_of x (op.InvokeStatic k) (from_of x.program m at) own) (calls x k m at own held below)
          (calls-waits (arguments_on (method_at x.program k).parameters own.stack []) k)
      does-waits (op.Unlinked link) = tt
      does-waits o =
          or-waits (request_of x o (from_of x.program m at) own) (after x m at held below (private_step x o own))
          (after-waits (private_step x o own) (private_step x o own).did refl)

    module _ (few : length x.program.code ≤ 18446744073709551615) where
      within-waits : (b : Bool) → nat_le (length x.program.code) at ≡ b →
          StepWaits (does x (placed_at x.program at).op m at own held below)
      within-waits true e =
          let P : Op → Type 0 = λ o. StepWaits (does x o m at own held below) in
          let o : op.Bad ≡ (placed_at x.program at).op =
          sym (ap (λ (p : Placed). p.op) (get_or_past x.program.code at no_placed (leb-true _ _ e))) in subst P o tt
      within-waits false e =
          let h : at < length x.program.code = leb-false _ _ e in
          does-waits (omega (arith, h, few)) (placed_at x.program at).op

  module _ (few : length x.program.code ≤ 18446744073709551615) where
    frame-waits : (fs : List (Frame R N)) → StepWaits (frame_does x fs)
    frame-waits [] = tt
    frame-waits (Running m at own held ∷ below) =
        within-waits m at own held below few (nat_le (length x.program.code) at) refl
    frame-waits (Native from state ∷ below) =
        after-request (x.asks state)
        (record { doing = Runs; frames = Native from state ∷ below; paused = false }) tt
    frame-waits (Initialiser class from ∷ below) = tt
    frame-waits (Main m arguments ∷ below) = tt

    asked-waits : (d : Doing R) (fs : List (Frame R N)) (request : Request R V) → asked_by x d fs ≡ Some request →
        WaitsFor d fs
    asked-waits Runs fs request e = absurd cc
    asked-waits d fs request e = tt

    one-waits : (fs : Frames R N) (a : Option (Request R V)) → asked_by x fs.doing fs.frames ≡ a →
        StepWaits (one_of x a fs)
    one-waits fs None e = frame-waits fs.frames
    one-waits fs (Some request) e =
        after-request request fs (unless fs.paused fs.doing fs.frames (asked-waits fs.doing fs.frames request e))

    pub turn-waits : (fuel : ℕ) (fs : Frames R N) → StepWaits (turn_of x fuel fs)
    turn-waits zero fs = tt
    turn-waits (suc fuel) fs =
        pick (one x fs).asks (one x fs) (turn_of x fuel (one x fs).frames)
        (one-waits fs (asked_by x fs.doing fs.frames) refl)
        (turn-waits fuel (one x fs).frames)
