-- What a turn asks comes of its last frame: of an instruction, or of a native method.
use Rattle.std.proofs.Common.{◌≡◌, ℕ, zero, suc, ◌+◌, ◌-◌, nat_le, Bool, true, false, List, [], ◌∷◌, length, take, drop, Option}
use Rattle.std.proofs.Common.{Some, None, refl, sym, subst, inl, inr, if◌then◌else◌}
use Rattle.ap_base.specs.declared.kind.Kind.{Kind}
use Rattle.ap_base.specs.declared.kind.Kind.TheVariants as kinds
use Rattle.run_types.specs.declared.resolved.At.{At}
use Rattle.run_types.specs.declared.key.Key.{Key}
use Rattle.code_form.specs.declared.ins.Access.TheVariants as access
use Rattle.natives.specs.declared.requests.Request.{Request}
use Rattle.natives.specs.declared.requests.Request.TheVariants as ask
use Rattle.frame_cells.specs.declared.cell.Cell.{Cell}
use Rattle.frame_cells.specs.declared.cell.Cell.TheVariants.{Reference}
use Rattle.frame_cells.specs.declared.cell.Did.{Did}
use Rattle.frame_cells.specs.declared.cell.Did.TheVariants.{Next, Jump, DividedByZero, Bad}
use Rattle.frame_cells.specs.Own.{Own, After, int_at, long_at, reference_at, put}
use Rattle.frames.specs.declared.given.Given.{Given}
use Rattle.frames.specs.declared.given.Given.TheVariants as given_back
use Rattle.frames.specs.declared.op.Op.{Op}
use Rattle.frames.specs.declared.op.Op.TheVariants as op
use Rattle.frames.specs.declared.program.Body.{Body}
use Rattle.frames.specs.declared.program.Body.TheVariants as body
use Rattle.frames.specs.declared.program.Program.{Program}
use Rattle.frames.specs.declared.program.Target.{Target}
use Rattle.frames.specs.declared.program.Target.TheVariants as target
use Rattle.frames.specs.Tables.{placed_at, method_at, class_at, selector_at, field_at, from_of, dispatched}
use Rattle.frames.specs.Settings.{Frame, Running, Native, Initialiser, Main, Doing, Runs, BeginsMain, BeginsThread, Enters}
use Rattle.frames.specs.Settings.{Unwinds, Initialises, Initialised, Breaks, Ends, Frames, NativeStep, Asks, Calls, Gives}
use Rattle.frames.specs.Settings.{Setting, slots_left}
use Rattle.frames.specs.Private.{private_step}
use Rattle.frames.specs.Requests.{given, width_of, value_so, request_of}
use Rattle.frames.specs.Calls.{Stepped, cells_taken, cells_of, arguments_on, result_of, reply_of, done_so, after, if_room}
use Rattle.frames.specs.Calls.{begins_body, begins, begins_found, signature_of, native_does, returns_to, calls_with, calls}
use Rattle.frames.specs.Calls.{returns_held, returns}
use Rattle.frames.specs.Turns.{asks_or, calls_special, does, frame_does, asked_by, one_of, one, turn_of, turn_if, turn}
use Rattle.launch_laws.specs.Asking.{IsAskedSo}

module _ {M R N V : Type 0} (x : Setting M R N V) where
  abbrev p : Program M
  p = x.program

  abbrev IsAskedSoIf : Option (Request R V) → List (Frame R N) → Type 0
  IsAskedSoIf None frames = Unit {0}
  IsAskedSoIf (Some request) frames = IsAskedSo x request frames

  abbrev AsksSo : Stepped R N V → Type 0
  AsksSo s = IsAskedSoIf s.asks s.frames.frames

  -- ---- what frames ask by themselves

  -- none of the requests of which the law speaks
  abbrev IsOther : Option (Request R V) → Type 0
  IsOther (Some (ask.NewArray from shape count)) = ⊥
  IsOther (Some (ask.Start from thread)) = ⊥
  IsOther (Some (ask.Begin from)) = ⊥
  IsOther (Some (ask.End from)) = ⊥
  IsOther request = Unit {0}

  abbrev AsksOther : Stepped R N V → Type 0
  AsksOther s = IsOther s.asks

  other-so : (q : Option (Request R V)) (frames : List (Frame R N)) → IsOther q → IsAskedSoIf q frames
  other-so (Some (ask.NewArray from shape count)) frames is = absurd is
  other-so (Some (ask.Start from thread)) frames is = absurd is
  other-so (Some (ask.Begin from)) frames is = absurd is
  other-so (Some (ask.End from)) frames is = absurd is
  other-so q frames is = tt

  if-other : (c : Bool) (y z : Stepped R N V) → AsksOther y → AsksOther z
      → AsksOther (if c then y else z)
  if-other true y z is other = is
  if-other false y z is other = other

  done_so-other : (m at : ℕ) (held : Option (Key R)) (below : List (Frame R N)) (own : Own R) (did : Did)
      → AsksOther (done_so x m at held below own did)
  done_so-other m at held below own Next = tt
  done_so-other m at held below own (Jump to) = tt
  done_so-other m at held below own DividedByZero = tt
  done_so-other m at held below own Bad = tt

  after-other : (m at : ℕ) (held : Option (Key R)) (below : List (Frame R N)) (a : After R)
      → AsksOther (after x m at held below a)
  after-other m at held below a = done_so-other m at held below a.own a.did

  if_room-other : (need : ℕ) (frames : List (Frame R N)) (go : Stepped R N V) → AsksOther go
      → AsksOther (if_room x need frames go)
  if_room-other need frames go is = if-other (nat_le need (slots_left p frames)) go _ is tt

  body-other : (m : ℕ) (cells : List (Cell R)) (arguments : List (Given R)) (frames below : List (Frame R N))
      (empty : Stepped R N V) (b : Body M) → AsksOther empty
      → AsksOther (begins_body x m cells arguments frames below empty b)
  body-other m cells arguments frames below empty (body.Code entry) is =
      if-other (nat_le (length cells) (method_at p m).max_locals) _ _
      (if_room-other (4 + (method_at p m).max_locals + (method_at p m).max_stack) frames _ tt) tt
  body-other m cells arguments frames below empty (body.Native k) is = if_room-other 16 frames _ tt
  body-other m cells arguments frames below empty body.Empty is = if_room-other 16 frames empty is

  begins-other : (m : ℕ) (cells : List (Cell R)) (arguments : List (Given R))
      (frames below : List (Frame R N)) (empty : Stepped R N V) → AsksOther empty
      → AsksOther (begins x m cells arguments frames below empty)
  begins-other m cells arguments frames below empty is =
      body-other m cells arguments frames below empty (method_at p m).body is

  found-other : (found : Target) (class : ℕ) (r : R) (frames below : List (Frame R N))
      (empty : Stepped R N V) → AsksOther empty → AsksOther (begins_found x found class r frames below empty)
  found-other (target.Method m) class r frames below empty is =
      begins-other m (Reference r ∷ []) (given_back.Reference r ∷ []) frames below empty is
  found-other (target.Fails kind) class r frames below empty is = tt

  native_does-other : (step : NativeStep R N) (from : At) (below : List (Frame R N))
      (gives : Given R → Stepped R N V) → ((v : Given R) → AsksOther (gives v))
      → AsksOther (native_does x step from below gives)
  native_does-other (Asks state) from below gives is = tt
  native_does-other (Calls state called class receiver) from below gives is =
      found-other (dispatched p class (signature_of x called)) class receiver _ _ _ tt
  native_does-other (Gives value) from below gives is = is value

  returns_to-other : (value : Given R) (frames : List (Frame R N)) → AsksOther (returns_to x value frames)
  returns_to-other value [] = tt
  returns_to-other value (Running m at own held ∷ below) =
      after-other m at held below (put 0 (cells_of value) Next own)
  returns_to-other value (Native from state ∷ below) =
      native_does-other (x.next state (reply_of x value)) from below _ (λ v. returns_to-other v below)
  returns_to-other value (Initialiser class from ∷ below) = tt
  returns_to-other value (Main m arguments ∷ below) = tt

  calls_with-other : (found : Option (List (Given R))) (k m at : ℕ) (own : Own R) (held : Option (Key R))
      (below : List (Frame R N)) → AsksOther (calls_with x found k m at own held below)
  calls_with-other None k m at own held below = tt
  calls_with-other (Some arguments) k m at own held below =
      let taken = cells_taken (method_at p k).parameters in
      let caller : Frame R N = Running m at (record own { stack = drop taken own.stack }) held in
      begins-other k (take taken own.stack) arguments (Running m at own held ∷ below) (caller ∷ below) _
      (returns_to-other given_back.Nothing (caller ∷ below))

  calls-other : (k m at : ℕ) (own : Own R) (held : Option (Key R)) (below : List (Frame R N))
      → AsksOther (calls x k m at own held below)
  calls-other k m at own held below =
      calls_with-other (arguments_on (method_at p k).parameters own.stack []) k m at own held below

  special-other : (r : Option R) (k m at : ℕ) (own : Own R) (held : Option (Key R)) (below : List (Frame R N))
      → AsksOther (calls_special x r k m at own held below)
  special-other None k m at own held below = tt
  special-other (Some r) k m at own held below =
      if-other (x.is_null r) _ _ tt (calls-other k m at own held below)

  held-other : (held : Option (Key R)) (m at : ℕ) (own : Own R) (value : Given R) (below : List (Frame R N))
      → AsksOther (returns_held x held m at own value below)
  held-other None m at own value below = returns_to-other value below
  held-other (Some monitor) m at own value below = tt

  returns-other : (result : Option (Given R)) (m at : ℕ) (own : Own R) (held : Option (Key R))
      (below : List (Frame R N)) → AsksOther (returns x result m at own held below)
  returns-other None m at own held below = tt
  returns-other (Some value) m at own held below = held-other held m at own value below

  -- ---- what instructions ask

  abbrev IsOfOp : Op → Option (Request R V) → Type 0
  IsOfOp o (Some (ask.NewArray from shape count)) = o ≡ op.NewArray shape
  IsOfOp o q = IsOther q

  given-of : {X : Type 0} (o : Op) (v : Option X) (go : X → Option (Request R V))
      → ((w : X) → IsOfOp o (go w)) → IsOfOp o (given v go)
  given-of o None go is = tt
  given-of o (Some w) go is = is w

  value_so-of : (o : Op) (kind : Kind) (own : Own R) (go : V → Option (Request R V))
      → ((v : V) → IsOfOp o (go v)) → IsOfOp o (value_so x kind own go)
  value_so-of o kinds.J own go is = given-of o (long_at 0 own) _ (λ i. is _)
  value_so-of o kinds.L own go is = given-of o (reference_at 0 own) _ (λ r. is _)
  value_so-of o kinds.Z own go is = given-of o (int_at 0 own) _ (λ i. is _)
  value_so-of o kinds.B own go is = given-of o (int_at 0 own) _ (λ i. is _)
  value_so-of o kinds.C own go is = given-of o (int_at 0 own) _ (λ i. is _)
  value_so-of o kinds.S own go is = given-of o (int_at 0 own) _ (λ i. is _)
  value_so-of o kinds.I own go is = given-of o (int_at 0 own) _ (λ i. is _)
  value_so-of o kinds.Text own go is = given-of o (int_at 0 own) _ (λ i. is _)

  init-of : (o : Op) (class : ℕ) (from : At) (of_program : Bool)
      → IsOfOp o (if of_program then Some (ask.Init from class) else None)
  init-of o class from true = tt
  init-of o class from false = tt

  request_of-of : (o : Op) (from : At) (own : Own R) → IsOfOp o (request_of x o from own)
  request_of-of (op.InvokeStatic m) from own =
      init-of (op.InvokeStatic m) (method_at p m).class from (class_at p (method_at p m).class).of_program
  request_of-of (op.InvokeVirtual s) from own =
      given-of (op.InvokeVirtual s) (reference_at ((selector_at p s).arguments - 1) own) _ (λ r. tt)
  request_of-of (op.Element access.Load kind) from own =
      let o = op.Element access.Load kind in
      given-of o (reference_at 1 own) _ (λ r. given-of o (int_at 0 own) _ (λ i. tt))
  request_of-of (op.Element access.Store kind) from own =
      let o = op.Element access.Store kind in
      given-of o (reference_at (width_of kind + 1) own) _ (λ r.
      given-of o (int_at (width_of kind) own) _ (λ i. value_so-of o kind own _ (λ v. tt)))
  request_of-of (op.IfSame equality to) from own =
      let o = op.IfSame equality to in
      given-of o (reference_at 1 own) _ (λ a. given-of o (reference_at 0 own) _ (λ b. tt))
  request_of-of (op.Static access.Load f) from own = tt
  request_of-of (op.Static access.Store f) from own =
      value_so-of (op.Static access.Store f) (field_at p f).kind own _ (λ v. tt)
  request_of-of (op.Field access.Load f) from own =
      given-of (op.Field access.Load f) (reference_at 0 own) _ (λ r. tt)
  request_of-of (op.Field access.Store f) from own =
      let o = op.Field access.Store f in
      given-of o (reference_at (width_of (field_at p f).kind) own) _ (λ r.
      value_so-of o (field_at p f).kind own _ (λ v. tt))
  request_of-of (op.New class) from own = tt
  request_of-of (op.NewArray shape) from own = given-of (op.NewArray shape) (int_at 0 own) _ (λ i. refl)
  request_of-of op.Length from own = given-of op.Length (reference_at 0 own) _ (λ r. tt)
  request_of-of op.Throw from own = given-of op.Throw (reference_at 0 own) _ (λ r. tt)
  request_of-of (op.Cast class) from own = given-of (op.Cast class) (reference_at 0 own) _ (λ r. tt)
  request_of-of (op.IsA class) from own = given-of (op.IsA class) (reference_at 0 own) _ (λ r. tt)
  request_of-of op.Enter from own = given-of op.Enter (reference_at 0 own) _ (λ r. tt)
  request_of-of op.Exit from own = given-of op.Exit (reference_at 0 own) _ (λ r. tt)
  request_of-of other from own = tt

  of-so : (q : Option (Request R V)) (at : ℕ) (frames : List (Frame R N)) → IsOfOp (placed_at p at).op q
      → IsAskedSoIf q frames
  of-so (Some (ask.NewArray from shape count)) at frames is = inl (at, is)
  of-so (Some (ask.Start from thread)) at frames is = absurd is
  of-so (Some (ask.Begin from)) at frames is = absurd is
  of-so (Some (ask.End from)) at frames is = absurd is
  of-so q at frames is = tt

  asks_or-so : (q : Option (Request R V)) (at : ℕ) (frames : List (Frame R N)) (go : Stepped R N V)
      → IsOfOp (placed_at p at).op q → AsksOther go → AsksSo (asks_or x q frames go)
  asks_or-so None at frames go of is = other-so go.asks go.frames.frames is
  asks_or-so (Some request) at frames go of is = of-so (Some request) at frames of

  -- ---- instructions and turns

  does-so : (o : Op) (m at : ℕ) (own : Own R) (held : Option (Key R)) (below : List (Frame R N))
      → (placed_at p at).op ≡ o → AsksSo (does x o m at own held below)
  does-so op.Return m at own held below e =
      let s = returns x (result_of None own) m at own held below in
      other-so s.asks s.frames.frames (returns-other (result_of None own) m at own held below)
  does-so (op.ReturnValue sort) m at own held below e =
      let s = returns x (result_of (Some sort) own) m at own held below in
      other-so s.asks s.frames.frames (returns-other (result_of (Some sort) own) m at own held below)
  does-so (op.InvokeSpecial k) m at own held below e =
      let r = reference_at (cells_taken (method_at p k).parameters - 1) own in
      let s = calls_special x r k m at own held below in
      other-so s.asks s.frames.frames (special-other r k m at own held below)
  does-so (op.InvokeStatic k) m at own held below e =
      let q = request_of x (op.InvokeStatic k) (from_of p m at) own in
      asks_or-so q at (Running m at own held ∷ below) (calls x k m at own held below)
      (subst (λ o. IsOfOp o q) (sym e) (request_of-of (op.InvokeStatic k) (from_of p m at) own))
      (calls-other k m at own held below)
  does-so (op.Unlinked link) m at own held below e = tt
  does-so other m at own held below e =
      let q = request_of x other (from_of p m at) own in
      asks_or-so q at (Running m at own held ∷ below) (after x m at held below (private_step x other own))
      (subst (λ o. IsOfOp o q) (sym e) (request_of-of other (from_of p m at) own))
      (after-other m at held below (private_step x other own))

  native-so : (q : Request R V) (from : At) (state : N) (below : List (Frame R N)) → x.asks state ≡ q
      → IsAskedSo x q (Native from state ∷ below)
  native-so (ask.NewArray from' shape count) from state below e = inr e
  native-so (ask.Start from' thread) from state below e = e
  native-so (ask.Begin from') from state below e = e
  native-so (ask.End from') from state below e = e
  native-so q from state below e = tt

  frame_does-so : (frames : List (Frame R N)) → AsksSo (frame_does x frames)
  frame_does-so [] = tt
  frame_does-so (Running m at own held ∷ below) = does-so (placed_at p at).op m at own held below refl
  frame_does-so (Native from state ∷ below) = native-so (x.asks state) from state below refl
  frame_does-so (Initialiser class from ∷ below) = tt
  frame_does-so (Main m arguments ∷ below) = tt

  asked_by-other : (doing : Doing R) (frames : List (Frame R N)) → IsOther (asked_by x doing frames)
  asked_by-other Runs frames = tt
  asked_by-other (BeginsMain class) frames = tt
  asked_by-other (BeginsThread thread) frames = tt
  asked_by-other Enters frames = tt
  asked_by-other (Unwinds thrown class) frames = tt
  asked_by-other (Initialises super) frames = tt
  asked_by-other Initialised frames = tt
  asked_by-other (Breaks f) frames = tt
  asked_by-other (Ends uncaught) frames = tt

  one_of-so : (q : Option (Request R V)) (fs : Frames R N) → IsOther q → AsksSo (one_of x q fs)
  one_of-so None fs is = frame_does-so fs.frames
  one_of-so (Some request) fs is = other-so (Some request) fs.frames is

  next-so : (q : Option (Request R V)) (s go : Stepped R N V) → AsksSo s → AsksSo go
      → AsksSo (elim q as (λ _. Stepped R N V) [ None ↦ go | Some request ↦ s ])
  next-so None s go is goes = goes
  next-so (Some request) s go is goes = is

  turn_of-so : (fuel : ℕ) (fs : Frames R N) → AsksSo (turn_of x fuel fs)
  turn_of-so zero fs = tt
  turn_of-so (suc fuel) fs =
      next-so (one x fs).asks (one x fs) (turn_of x fuel (one x fs).frames)
      (one_of-so (asked_by x fs.doing fs.frames) fs (asked_by-other fs.doing fs.frames))
      (turn_of-so fuel (one x fs).frames)

  turn_if-so : (paused : Bool) (fs : Frames R N) → AsksSo (turn_if x paused fs)
  turn_if-so true fs = tt
  turn_if-so false fs = turn_of-so 1024 fs

  turn-so : (fs : Frames R N) → AsksSo (turn x fs)
  unfolding turn
  turn-so fs = turn_if-so fs.paused fs

  pub turn-asks : (fs : Frames R N) (request : Request R V) → (turn x fs).asks ≡ Some request
      → IsAskedSo x request (turn x fs).frames.frames
  turn-asks fs request e = subst (λ q. IsAskedSoIf q (turn x fs).frames.frames) e (turn-so fs)
