-- A turn ends with a request that its frames wait for: that of their last frame, or that of what the thread
-- does in place of an instruction.
use Rattle.std.proofs.Common.{◌≡◌, ℕ, zero, suc, ◌+◌, ◌-◌, nat_le, Bool, true, false, List, [], ◌∷◌, length, take, drop, Option}
use Rattle.std.proofs.Common.{Some, None, refl, sym, subst, ◌⊎◌, inl, inr, if◌then◌else◌}
use Rattle.ap_base.specs.declared.kind.Kind.{Kind}
use Rattle.ap_base.specs.declared.kind.Kind.TheVariants as kinds
use Rattle.run_types.specs.declared.resolved.At.{At}
use Rattle.run_types.specs.declared.key.Key.{Key}
use Rattle.run_types.specs.declared.fault.StepFault.{StepFault}
use Rattle.code_form.specs.declared.ins.Access.TheVariants as access
use Rattle.graph_model.specs.declared.types.Graph.{Graph}
use Rattle.graph_model.specs.declared.types.Value.{Value}
use Rattle.natives.specs.declared.requests.Request.TheVariants as ask
use Rattle.plain_model.specs.Facts.{SetFacts}
use Rattle.plain_model.specs.Requests.{PlainRequest}
use Rattle.frame_cells.specs.declared.cell.Cell.{Cell}
use Rattle.frame_cells.specs.declared.cell.Cell.TheVariants.{Reference}
use Rattle.frame_cells.specs.declared.cell.Did.{Did}
use Rattle.frame_cells.specs.declared.cell.Did.TheVariants.{Next, Jump, DividedByZero, Bad}
use Rattle.frame_cells.specs.Own.{Own, After, int_at, long_at, reference_at, put}
use Rattle.frames.specs.declared.given.Given.{Given}
use Rattle.frames.specs.declared.given.Given.TheVariants as given_back
use Rattle.frames.specs.declared.op.Op.{Op}
use Rattle.frames.specs.declared.op.Op.TheVariants as op
use Rattle.frames.specs.declared.program.Body.{Body}
use Rattle.frames.specs.declared.program.Body.TheVariants as body
use Rattle.frames.specs.declared.program.Program.{Program}
use Rattle.frames.specs.declared.program.Target.{Target}
use Rattle.frames.specs.declared.program.Target.TheVariants as target
use Rattle.frames.specs.Tables.{placed_at, method_at, class_at, selector_at, field_at, from_of, dispatched}
use Rattle.frames.specs.Settings.{Frame, Running, Native, Initialiser, Main, Doing, Runs, Frames, NativeStep, Asks, Calls}
use Rattle.frames.specs.Settings.{Gives, Setting, slots_left}
use Rattle.frames.specs.Private.{private_step}
use Rattle.frames.specs.Requests.{given, width_of, value_so, request_of}
use Rattle.frames.specs.Calls.{Stepped, goes_on, asks_so, breaks, cells_taken, cells_of, arguments_on, result_of, reply_of}
use Rattle.frames.specs.Calls.{done_so, after, if_room, begins_body, begins, begins_found, signature_of, native_does}
use Rattle.frames.specs.Calls.{returns_to, calls_with, calls, returns_held, returns}
use Rattle.frames.specs.Turns.{asks_or, calls_special, does, frame_does, asked_by, one_of, one, turn_of, turn_if, turn}
use Rattle.plain_frames.specs.Codes.{PlainNatives, is_null, plain_setting}

module _ (set : SetFacts) (opening : Graph) {M N : Type 0} (p : Program M) (natives : PlainNatives M N)
    (method : ℕ) where
  abbrev pub x : Setting M Value N Value
  x = plain_setting set opening p natives method

  -- `athrow` asks for the class of a throwable, or divides nothing
  abbrev pub IsOfThrow : PlainRequest → Type 0
  IsOfThrow (ask.ClassOf from object within) = within ≡ p.throwable
  IsOfThrow (ask.Raise from class) = Unit {0}
  IsOfThrow request = ⊥

  -- it doesn't say that an initialiser is done
  abbrev pub IsNoEnd : PlainRequest → Type 0
  IsNoEnd (ask.InitDone from class) = ⊥
  IsNoEnd request = Unit {0}

  abbrev pub IsOfOp : Op → PlainRequest → Type 0
  IsOfOp op.Throw request = IsOfThrow request
  IsOfOp o request = IsNoEnd request

  abbrev pub IsOfLast : List (Frame Value N) → PlainRequest → Type 0
  IsOfLast (Running m at own held ∷ below) request = IsOfOp (placed_at p at).op request
  IsOfLast (Native from state ∷ below) request = request ≡ natives.asks state
  IsOfLast frames request = IsNoEnd request

  -- faults come of anything
  abbrev pub IsOfFrames : PlainRequest → List (Frame Value N) → Type 0
  IsOfFrames (ask.Broken f) frames = Unit {0}
  IsOfFrames request frames = IsOfLast frames request

  abbrev pub IsWaited : PlainRequest → Frames Value N → Type 0
  IsWaited request fs =
      (asked_by x fs.doing fs.frames ≡ Some request) ⊎ ((fs.doing ≡ Runs) × IsOfFrames request fs.frames)

  abbrev IsWaitedIf : Option PlainRequest → Frames Value N → Type 0
  IsWaitedIf None fs = Unit {0}
  IsWaitedIf (Some request) fs = IsWaited request fs

  record Waits (s : Stepped Value N Value) : Type 0 where
    goes : s.frames.paused ≡ false
    waited : IsWaitedIf s.asks s.frames

  goes_on-waits : (doing : Doing Value) (frames : List (Frame Value N)) → Waits (goes_on doing frames)
  goes_on-waits doing frames = record { goes = refl; waited = tt }

  asks_so-waits : (request : PlainRequest) (frames : List (Frame Value N)) → IsOfFrames request frames
      → Waits (asks_so request frames)
  asks_so-waits request frames is = record { goes = refl; waited = inr (refl, is) }

  breaks-waits : (f : StepFault) (frames : List (Frame Value N)) → Waits (breaks f frames)
  breaks-waits f frames = asks_so-waits (ask.Broken f) frames tt

  if-waits : (c : Bool) (y z : Stepped Value N Value) → Waits y → Waits z → Waits (if c then y else z)
  if-waits true y z is other = is
  if-waits false y z is other = other

  -- ---- what instructions ask

  of_running : (request : PlainRequest) (m at : ℕ) (own : Own Value) (held : Option (Key Value))
      (below : List (Frame Value N)) → IsOfOp (placed_at p at).op request
      → IsOfFrames request (Running m at own held ∷ below)
  of_running (ask.Broken f) m at own held below is = tt
  of_running request m at own held below is = is

  of_native : (request : PlainRequest) (from : At) (state : N) (below : List (Frame Value N))
      → request ≡ natives.asks state → IsOfFrames request (Native from state ∷ below)
  of_native (ask.Broken f) from state below is = tt
  of_native request from state below is = is

  raises : (o : Op) (from : At) (class : ℕ) → IsOfOp o (ask.Raise from class)
  raises op.Throw from class = tt
  raises o from class = tt

  running-waits : (request : PlainRequest) (m at : ℕ) (own : Own Value) (held : Option (Key Value))
      (below : List (Frame Value N)) → IsOfOp (placed_at p at).op request
      → Waits (asks_so request (Running m at own held ∷ below))
  running-waits request m at own held below is =
      asks_so-waits request (Running m at own held ∷ below) (of_running request m at own held below is)

  abbrev IsOfOpIf : Op → Option PlainRequest → Type 0
  IsOfOpIf o None = Unit {0}
  IsOfOpIf o (Some request) = IsOfOp o request

  given-of : {X : Type 0} (o : Op) (v : Option X) (go : X → Option PlainRequest)
      → ((w : X) → IsOfOpIf o (go w)) → IsOfOpIf o (given v go)
  given-of o None go is = tt
  given-of o (Some w) go is = is w

  value_so-of : (o : Op) (kind : Kind) (own : Own Value) (go : Value → Option PlainRequest)
      → ((v : Value) → IsOfOpIf o (go v)) → IsOfOpIf o (value_so x kind own go)
  value_so-of o kinds.J own go is = given-of o (long_at 0 own) _ (λ i. is _)
  value_so-of o kinds.L own go is = given-of o (reference_at 0 own) _ (λ r. is r)
  value_so-of o kinds.Z own go is = given-of o (int_at 0 own) _ (λ i. is _)
  value_so-of o kinds.B own go is = given-of o (int_at 0 own) _ (λ i. is _)
  value_so-of o kinds.C own go is = given-of o (int_at 0 own) _ (λ i. is _)
  value_so-of o kinds.S own go is = given-of o (int_at 0 own) _ (λ i. is _)
  value_so-of o kinds.I own go is = given-of o (int_at 0 own) _ (λ i. is _)
  value_so-of o kinds.Text own go is = given-of o (int_at 0 own) _ (λ i. is _)

  init-of : (m class : ℕ) (from : At) (of_program : Bool)
      → IsOfOpIf (op.InvokeStatic m) (if of_program then Some (ask.Init from class) else None)
  init-of m class from true = tt
  init-of m class from false = tt

  request_of-of : (o : Op) (from : At) (own : Own Value) → IsOfOpIf o (request_of x o from own)
  request_of-of (op.InvokeStatic m) from own =
      init-of m (method_at p m).class from (class_at p (method_at p m).class).of_program
  request_of-of (op.InvokeVirtual s) from own =
      given-of (op.InvokeVirtual s) (reference_at ((selector_at p s).arguments - 1) own) _ (λ r. tt)
  request_of-of (op.Element access.Load kind) from own =
      let o = op.Element access.Load kind in
      given-of o (reference_at 1 own) _ (λ r. given-of o (int_at 0 own) _ (λ i. tt))
  request_of-of (op.Element access.Store kind) from own =
      let o = op.Element access.Store kind in
      given-of o (reference_at (width_of kind + 1) own) _ (λ r.
      given-of o (int_at (width_of kind) own) _ (λ i. value_so-of o kind own _ (λ v. tt)))
  request_of-of (op.IfSame equality to) from own =
      let o = op.IfSame equality to in
      given-of o (reference_at 1 own) _ (λ a. given-of o (reference_at 0 own) _ (λ b. tt))
  request_of-of (op.Static access.Load f) from own = tt
  request_of-of (op.Static access.Store f) from own =
      value_so-of (op.Static access.Store f) (field_at p f).kind own _ (λ v. tt)
  request_of-of (op.Field access.Load f) from own =
      given-of (op.Field access.Load f) (reference_at 0 own) _ (λ r. tt)
  request_of-of (op.Field access.Store f) from own =
      let o = op.Field access.Store f in
      given-of o (reference_at (width_of (field_at p f).kind) own) _ (λ r.
      value_so-of o (field_at p f).kind own _ (λ v. tt))
  request_of-of (op.New class) from own = tt
  request_of-of (op.NewArray shape) from own = given-of (op.NewArray shape) (int_at 0 own) _ (λ i. tt)
  request_of-of op.Length from own = given-of op.Length (reference_at 0 own) _ (λ r. tt)
  request_of-of op.Throw from own = given-of op.Throw (reference_at 0 own) _ (λ r. refl)
  request_of-of (op.Cast class) from own = given-of (op.Cast class) (reference_at 0 own) _ (λ r. tt)
  request_of-of (op.IsA class) from own = given-of (op.IsA class) (reference_at 0 own) _ (λ r. tt)
  request_of-of op.Enter from own = given-of op.Enter (reference_at 0 own) _ (λ r. tt)
  request_of-of op.Exit from own = given-of op.Exit (reference_at 0 own) _ (λ r. tt)
  request_of-of other from own = tt

  asks_or-waits : (q : Option PlainRequest) (m at : ℕ) (own : Own Value) (held : Option (Key Value))
      (below : List (Frame Value N)) (go : Stepped Value N Value) → IsOfOpIf (placed_at p at).op q
      → Waits go → Waits (asks_or x q (Running m at own held ∷ below) go)
  asks_or-waits None m at own held below go of is = is
  asks_or-waits (Some request) m at own held below go of is = running-waits request m at own held below of

  -- ---- instructions

  done_so-waits : (m at : ℕ) (held : Option (Key Value)) (below : List (Frame Value N)) (own : Own Value)
      (did : Did) → Waits (done_so x m at held below own did)
  done_so-waits m at held below own Next = goes_on-waits Runs (Running m (at + 1) own held ∷ below)
  done_so-waits m at held below own (Jump to) = goes_on-waits Runs (Running m to own held ∷ below)
  done_so-waits m at held below own DividedByZero =
      running-waits (ask.Raise (from_of p m at) p.arithmetic) m at own held below
      (raises (placed_at p at).op (from_of p m at) p.arithmetic)
  done_so-waits m at held below own Bad = breaks-waits _ (Running m at own held ∷ below)

  after-waits : (m at : ℕ) (held : Option (Key Value)) (below : List (Frame Value N)) (a : After Value)
      → Waits (after x m at held below a)
  after-waits m at held below a = done_so-waits m at held below a.own a.did

  if_room-waits : (need : ℕ) (frames : List (Frame Value N)) (go : Stepped Value N Value) → Waits go
      → Waits (if_room x need frames go)
  if_room-waits need frames go is =
      if-waits (nat_le need (slots_left p frames)) go _ is (breaks-waits _ frames)

  body-waits : (m : ℕ) (cells : List (Cell Value)) (arguments : List (Given Value))
      (frames below : List (Frame Value N)) (empty : Stepped Value N Value) (b : Body M) → Waits empty
      → Waits (begins_body x m cells arguments frames below empty b)
  body-waits m cells arguments frames below empty (body.Code entry) is =
      if-waits (nat_le (length cells) (method_at p m).max_locals) _ _
      (if_room-waits (4 + (method_at p m).max_locals + (method_at p m).max_stack) frames _
      (goes_on-waits _ _))
      (breaks-waits _ frames)
  body-waits m cells arguments frames below empty (body.Native k) is =
      if_room-waits 16 frames _ (goes_on-waits Runs _)
  body-waits m cells arguments frames below empty body.Empty is = if_room-waits 16 frames empty is

  begins-waits : (m : ℕ) (cells : List (Cell Value)) (arguments : List (Given Value))
      (frames below : List (Frame Value N)) (empty : Stepped Value N Value) → Waits empty
      → Waits (begins x m cells arguments frames below empty)
  begins-waits m cells arguments frames below empty is =
      body-waits m cells arguments frames below empty (method_at p m).body is

  begins_found-waits : (found : Target) (class : ℕ) (r : Value) (frames below : List (Frame Value N))
      (empty : Stepped Value N Value) → Waits empty
      → Waits (begins_found x found class r frames below empty)
  begins_found-waits (target.Method m) class r frames below empty is =
      begins-waits m (Reference r ∷ []) (given_back.Reference r ∷ []) frames below empty is
  begins_found-waits (target.Fails kind) class r frames below empty is = breaks-waits _ frames

  native_does-waits : (step : NativeStep Value N) (from : At) (below : List (Frame Value N))
      (gives : Given Value → Stepped Value N Value) → ((v : Given Value) → Waits (gives v))
      → Waits (native_does x step from below gives)
  native_does-waits (Asks state) from below gives is = goes_on-waits Runs (Native from state ∷ below)
  native_does-waits (Calls state called class receiver) from below gives is =
      begins_found-waits (dispatched p class (signature_of x called)) class receiver _ _ _
      (breaks-waits _ (Native from state ∷ below))
  native_does-waits (Gives value) from below gives is = is value

  returns_to-waits : (value : Given Value) (frames : List (Frame Value N)) → Waits (returns_to x value frames)
  returns_to-waits value [] = goes_on-waits _ []
  returns_to-waits value (Running m at own held ∷ below) =
      after-waits m at held below (put 0 (cells_of value) Next own)
  returns_to-waits value (Native from state ∷ below) =
      native_does-waits (natives.next state (reply_of x value)) from below _
      (λ v. returns_to-waits v below)
  returns_to-waits value (Initialiser class from ∷ below) = goes_on-waits _ (Initialiser class from ∷ below)
  returns_to-waits value (Main m arguments ∷ below) = goes_on-waits _ []

  calls_with-waits : (found : Option (List (Given Value))) (n m at : ℕ) (own : Own Value)
      (held : Option (Key Value)) (below : List (Frame Value N))
      → Waits (calls_with x found n m at own held below)
  calls_with-waits None n m at own held below = breaks-waits _ (Running m at own held ∷ below)
  calls_with-waits (Some arguments) n m at own held below =
      let taken = cells_taken (method_at p n).parameters in
      let caller : Frame Value N = Running m at (record own { stack = drop taken own.stack }) held in
      begins-waits n (take taken own.stack) arguments (Running m at own held ∷ below) (caller ∷ below) _
      (returns_to-waits given_back.Nothing (caller ∷ below))

  calls-waits : (n m at : ℕ) (own : Own Value) (held : Option (Key Value)) (below : List (Frame Value N))
      → Waits (calls x n m at own held below)
  calls-waits n m at own held below =
      calls_with-waits (arguments_on (method_at p n).parameters own.stack []) n m at own held below

  special-waits : (r : Option Value) (n m at : ℕ) (own : Own Value) (held : Option (Key Value))
      (below : List (Frame Value N)) → Waits (calls_special x r n m at own held below)
  special-waits None n m at own held below = breaks-waits _ (Running m at own held ∷ below)
  special-waits (Some r) n m at own held below =
      if-waits (is_null r) _ _
      (running-waits (ask.Raise (from_of p m at) p.null_pointer) m at own held below
      (raises (placed_at p at).op (from_of p m at) p.null_pointer))
      (calls-waits n m at own held below)

  -- a return asks for nothing but the exit from its monitor
  abbrev MayExit : ℕ → Type 0
  MayExit at = (from : At) (k : Key Value) → IsOfOp (placed_at p at).op (ask.Exit from k)

  held-waits : (held : Option (Key Value)) (m at : ℕ) (own : Own Value) (value : Given Value)
      (below : List (Frame Value N)) → MayExit at → Waits (returns_held x held m at own value below)
  held-waits None m at own value below may = returns_to-waits value below
  held-waits (Some monitor) m at own value below may =
      running-waits (ask.Exit (from_of p m at) monitor) m at own (Some monitor) below
      (may (from_of p m at) monitor)

  returns-waits : (result : Option (Given Value)) (m at : ℕ) (own : Own Value) (held : Option (Key Value))
      (below : List (Frame Value N)) → MayExit at → Waits (returns x result m at own held below)
  returns-waits None m at own held below may = breaks-waits _ (Running m at own held ∷ below)
  returns-waits (Some value) m at own held below may = held-waits held m at own value below may

  does-waits : (o : Op) (m at : ℕ) (own : Own Value) (held : Option (Key Value))
      (below : List (Frame Value N)) → (placed_at p at).op ≡ o → Waits (does x o m at own held below)
  does-waits op.Return m at own held below e =
      returns-waits (result_of None own) m at own held below
      (λ from k. subst (λ o. IsOfOp o (ask.Exit from k)) (sym e) tt)
  does-waits (op.ReturnValue sort) m at own held below e =
      returns-waits (result_of (Some sort) own) m at own held below
      (λ from k. subst (λ o. IsOfOp o (ask.Exit from k)) (sym e) tt)
  does-waits (op.InvokeSpecial n) m at own held below e =
      special-waits (reference_at (cells_taken (method_at p n).parameters - 1) own) n m at own held below
  does-waits (op.InvokeStatic n) m at own held below e =
      let q = request_of x (op.InvokeStatic n) (from_of p m at) own in
      asks_or-waits q m at own held below _
      (subst (λ o. IsOfOpIf o q) (sym e) (request_of-of (op.InvokeStatic n) (from_of p m at) own))
      (calls-waits n m at own held below)
  does-waits (op.Unlinked link) m at own held below e = breaks-waits _ (Running m at own held ∷ below)
  does-waits other m at own held below e =
      let q = request_of x other (from_of p m at) own in
      asks_or-waits q m at own held below _
      (subst (λ o. IsOfOpIf o q) (sym e) (request_of-of other (from_of p m at) own))
      (after-waits m at held below (private_step x other own))

  frame_does-waits : (frames : List (Frame Value N)) → Waits (frame_does x frames)
  frame_does-waits [] = asks_so-waits (ask.Leave None) [] tt
  frame_does-waits (Running m at own held ∷ below) =
      does-waits (placed_at p at).op m at own held below refl
  frame_does-waits (Native from state ∷ below) =
      asks_so-waits (natives.asks state) (Native from state ∷ below)
      (of_native (natives.asks state) from state below refl)
  frame_does-waits (Initialiser class from ∷ below) =
      asks_so-waits (ask.Leave None) (Initialiser class from ∷ below) tt
  frame_does-waits (Main m arguments ∷ below) = asks_so-waits (ask.Leave None) (Main m arguments ∷ below) tt

  -- ---- turns

  one_of-waits : (q : Option PlainRequest) (fs : Frames Value N) → fs.paused ≡ false
      → asked_by x fs.doing fs.frames ≡ q → Waits (one_of x q fs)
  one_of-waits None fs goes e = frame_does-waits fs.frames
  one_of-waits (Some request) fs goes e = record { goes = goes; waited = inl e }

  -- The request with which a turn ends: Pause where the thread has used its instructions up, or what its
  -- frames wait for.
  pub record IsEnd (s : Stepped Value N Value) : Type 0 where
    pub request : PlainRequest
    pub asks : s.asks ≡ Some request
    pub how : ((s.frames.paused ≡ true) × (request ≡ ask.Pause))
        ⊎ ((s.frames.paused ≡ false) × IsWaited request s.frames)

  next-end : (q : Option PlainRequest) (s go : Stepped Value N Value) → s.asks ≡ q → Waits s → IsEnd go
      → IsEnd (elim q as (λ _. Stepped Value N Value) [ None ↦ go | Some request ↦ s ])
  next-end None s go e waits ends = ends
  next-end (Some request) s go e waits ends = record {
    request = request;
    asks = e;
    how = inr (waits.goes, subst (λ q. IsWaitedIf q s.frames) e waits.waited);
  }

  turn_of-end : (fuel : ℕ) (fs : Frames Value N) → fs.paused ≡ false → IsEnd (turn_of x fuel fs)
  turn_of-end zero fs goes = record { request = ask.Pause; asks = refl; how = inl (refl, refl) }
  turn_of-end (suc fuel) fs goes =
      let waits = one_of-waits (asked_by x fs.doing fs.frames) fs goes refl in
      next-end (one x fs).asks (one x fs) (turn_of x fuel (one x fs).frames) refl waits
      (turn_of-end fuel (one x fs).frames waits.goes)

  turn_if-end : (paused : Bool) (fs : Frames Value N) → fs.paused ≡ paused → IsEnd (turn_if x paused fs)
  turn_if-end true fs e = record { request = ask.Pause; asks = refl; how = inl (e, refl) }
  turn_if-end false fs e = turn_of-end 1024 fs e

  pub turn-end : (fs : Frames Value N) → IsEnd (turn x fs)
  unfolding turn
  turn-end fs = turn_if-end fs.paused fs refl
