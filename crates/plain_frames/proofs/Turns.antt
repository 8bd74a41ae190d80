-- A turn of frames that are in a world leaves frames that are in it, and its request is fit.
use Rattle.std.proofs.Common.{◌≡◌, ℕ, zero, suc, ℤ, ◌-◌, Bool, true, false, List, [], ◌∷◌, slice_index_or, Option, Some, None}
use Rattle.std.proofs.Common.{refl, sym, subst, if◌then◌else◌, lit<}
use Rattle.std.proofs.lemmas.List.Elements.{All-head}
use Rattle.ap_base.specs.declared.kind.Kind.{Kind}
use Rattle.ap_base.specs.declared.kind.Kind.TheVariants as kinds
use Rattle.run_types.specs.declared.resolved.At.{At}
use Rattle.run_types.specs.declared.key.Key.{Key}
use Rattle.run_types.specs.declared.key.Key.TheVariants as key
use Rattle.code_form.specs.declared.ins.Access.TheVariants as access
use Rattle.graph_model.specs.declared.types.Graph.{Graph}
use Rattle.graph_model.specs.declared.types.Value.{Value}
use Rattle.graph_model.specs.declared.types.Value.TheVariants as value
use Rattle.natives.specs.declared.requests.Request.TheVariants as ask
use Rattle.run_history.specs.Worlds.{World}
use Rattle.plain_model.specs.declared.throws.Throws.TheVariants.{NullPointer}
use Rattle.plain_model.specs.BuiltIn.{throwable_place, thread_place}
use Rattle.plain_model.specs.Facts.{SetFacts}
use Rattle.plain_model.specs.Requests.{PlainRequest}
use Rattle.plain_model.specs.Duties.{IsClass, IsThrowable, IsReferenceIn, IsOfKind, IsFit}
use Rattle.plain_model.proofs.Consistent.{place_there}
use Rattle.plain_model.proofs.Throwables.{thrown_is_throwable}
use Rattle.frame_cells.specs.declared.cell.Cell.TheVariants.{Int, Long, Half, Reference}
use Rattle.frame_cells.specs.declared.cell.Did.TheVariants.{Next}
use Rattle.frame_cells.specs.Own.{Own, After, int_at, long_at, reference_at}
use Rattle.frames.specs.declared.given.Given.{Given}
use Rattle.frames.specs.declared.op.Op.{Op}
use Rattle.frames.specs.declared.op.Op.TheVariants as op
use Rattle.frames.specs.declared.program.Lookup.{Lookup}
use Rattle.frames.specs.declared.program.Placed.{Placed}
use Rattle.frames.specs.declared.program.Program.{Program}
use Rattle.frames.specs.declared.program.Selector.{Selector}
use Rattle.frames.specs.declared.program.Table.{Table}
use Rattle.frames.specs.Tables.{no_placed, no_selector, no_table, no_lookup, placed_at, method_at, class_at, selector_at}
use Rattle.frames.specs.Tables.{field_at, from_of}
use Rattle.frames.specs.Settings.{Frame, Running, Native, Initialiser, Main, Doing, Runs, BeginsMain, BeginsThread, Enters}
use Rattle.frames.specs.Settings.{Unwinds, Initialises, Initialised, Breaks, Ends, Frames, Setting}
use Rattle.frames.specs.Private.{by_table, by_lookup, private_step}
use Rattle.frames.specs.Requests.{given, value_so, request_of}
use Rattle.frames.specs.Calls.{Stepped, asks_so, after, calls, cells_taken, result_of, returns_held, returns}
use Rattle.frames.specs.Turns.{asks_or, calls_special, does, at_of, key_of, class_of, frame_does, asked_by, one_of, one}
use Rattle.frames.specs.Turns.{turn_of, turn_if, turn}
use Rattle.plain_frames.specs.Codes.{PlainNatives, is_null, plain_setting}
use Rattle.plain_frames.specs.Tables.{IsOpOf, NamesWhatIsThere}
use Rattle.plain_frames.specs.Sound.{IsOwnIn, IsGivenIn, IsHeldIn, IsFrameIn, IsInitialiser, IsDoingIn, AreIn, KeepIn}
use Rattle.plain_frames.specs.DutyLaws.{HasLiterals, IsFitIfAsked, IsTurnIn}
use Rattle.plain_frames.proofs.Cells as cells
use Rattle.plain_frames.proofs.Cells.{reference-in, put-in, one-in, long-in}
use Rattle.plain_frames.proofs.Frames as frames
use Rattle.plain_frames.proofs.Frames.{entry-in, IsResultIn, result-in}

module _ (set : SetFacts) (opening : Graph) {M N : Type 0} (p : Program M) (natives : PlainNatives M N)
    (method : ℕ) (is_in : ℕ → N → Bool)
    (tables : NamesWhatIsThere set p) (keeps : KeepIn set natives is_in) (world : World) (t : ℕ)
    (literals : HasLiterals set opening world) where
  abbrev x : Setting M Value N Value
  x = plain_setting set opening p natives method

  abbrev Fit : Option PlainRequest → Type 0
  Fit = IsFitIfAsked set world t

  abbrev InTurn : Stepped Value N Value → Type 0
  InTurn = IsTurnIn set is_in world t

  abbrev FramesIn : List (Frame Value N) → Type 0
  FramesIn = frames.FramesIn set opening p natives method is_in tables keeps world t

  private_step-in : (o : Op) (own : Own Value) → IsOpOf set p o → IsOwnIn world own →
      IsOwnIn world (private_step x o own).own
  private_step-in op.Nop own is_op is = is
  private_step-in op.PushNull own is_op is =
      put-in world 0 (Reference value.Null ∷ []) Next own (one-in world (Reference value.Null) tt) is
  private_step-in (op.PushInt n) own is_op is =
      put-in world 0 (Int n ∷ []) Next own (one-in world (Int n) tt) is
  private_step-in (op.PushLong k) own is_op is =
      put-in world 0 (Half ∷ Long _ ∷ []) Next own (long-in world _) is
  private_step-in (op.PushLiteral k) own is_op is =
      put-in world 0 (Reference _ ∷ []) Next own (one-in world (Reference _) (literals k is_op)) is
  private_step-in (op.Load sort local) own is_op is = cells.loads-in world own is sort local
  private_step-in (op.Store sort local) own is_op is = cells.stores-in world own is sort local
  private_step-in (op.Stack form) own is_op is = cells.rearranges-in world own is form
  private_step-in (op.Binary number operator) own is_op is = cells.combines-in world own is number operator
  private_step-in (op.Negate number) own is_op is = cells.negates-in world own is number
  private_step-in (op.Shift number direction) own is_op is = cells.shifts-in world own is number direction
  private_step-in (op.Convert conversion) own is_op is = cells.converts-in world own is conversion
  private_step-in op.CompareLongs own is_op is = cells.compares-in world own is
  private_step-in (op.Increment local by) own is_op is = cells.increments-in world own is local by
  private_step-in (op.If condition target) own is_op is = cells.branches-in world own is condition target
  private_step-in (op.IfInts condition target) own is_op is =
      cells.branches_on_two-in world own is condition target
  private_step-in (op.IfNull equality target) own is_op is =
      cells.branches_on_null-in world own is is_null equality target
  private_step-in (op.Goto target) own is_op is = is
  private_step-in (op.TableSwitch k) own is_op is = table-in (slice_index_or p.tables k no_table) own is
    where
      table-in : (table : Table) (own : Own Value) → IsOwnIn world own →
          IsOwnIn world (by_table table own).own
      table-in table own is = cells.switches-in world own is table.default table.low table.targets
  private_step-in (op.LookupSwitch k) own is_op is = lookup-in (slice_index_or p.lookups k no_lookup) own is
    where
      lookup-in : (lookup : Lookup) (own : Own Value) → IsOwnIn world own →
          IsOwnIn world (by_lookup lookup own).own
      lookup-in lookup own is = cells.looks_up-in world own is lookup.default lookup.cases
  private_step-in other own is_op is = is

  given-fit : {X : Type 0} (v : Option X) (go : X → Option PlainRequest) →
      ((w : X) → v ≡ Some w → Fit (go w)) → Fit (given v go)
  given-fit None go fit = tt
  given-fit (Some w) go fit = fit w refl

  module _ (own : Own Value) (is : IsOwnIn world own) where
    int-fit : (n : ℕ) (go : ℤ → Option PlainRequest) → ((i : ℤ) → Fit (go i)) →
        Fit (given (int_at n own) go)
    int-fit n go fit = given-fit (int_at n own) go (λ i e. fit i)

    reference-fit : (n : ℕ) (go : Value → Option PlainRequest) →
        ((r : Value) → IsReferenceIn world r → Fit (go r)) → Fit (given (reference_at n own) go)
    reference-fit n go fit = given-fit (reference_at n own) go
        (λ r e. fit r (reference-in world own.stack n r is.stack e))

    value_so-fit : (kind : Kind) (go : Value → Option PlainRequest) →
        ((v : Value) → IsOfKind world kind v → Fit (go v)) → Fit (value_so x kind own go)
    value_so-fit kinds.J go fit = given-fit (long_at 0 own) _ (λ i e. fit (value.Long i) tt)
    value_so-fit kinds.L go fit = reference-fit 0 _ (λ r r_in. fit r r_in)
    value_so-fit kinds.Z go fit = int-fit 0 _ (λ i. fit (value.Int i) tt)
    value_so-fit kinds.B go fit = int-fit 0 _ (λ i. fit (value.Int i) tt)
    value_so-fit kinds.C go fit = int-fit 0 _ (λ i. fit (value.Int i) tt)
    value_so-fit kinds.S go fit = int-fit 0 _ (λ i. fit (value.Int i) tt)
    value_so-fit kinds.I go fit = int-fit 0 _ (λ i. fit (value.Int i) tt)
    value_so-fit kinds.Text go fit = int-fit 0 _ (λ i. fit (value.Int i) tt)

    init-fit : (of_program : Bool) (class : ℕ) (from : At) → IsClass set class →
        Fit (if of_program then Some (ask.Init from class) else None)
    init-fit true class from is_class = is_class
    init-fit false class from is_class = tt

    within : (s : ℕ) → IsClass set (selector_at p s).within
    within s = entry-in (λ (k : Selector). IsClass set k.within) p.selectors s no_selector tables.selectors
        (frames.class_zero set opening p natives method is_in tables keeps world t)

    request_of-fit : (o : Op) (from : At) → IsOpOf set p o → Fit (request_of x o from own)
    request_of-fit (op.InvokeStatic m) from is_op =
        init-fit (class_at p (method_at p m).class).of_program (method_at p m).class from
        (frames.class_of_method set opening p natives method is_in tables keeps world t m)
    request_of-fit (op.InvokeVirtual s) from is_op = reference-fit _ _ (λ r r_in. (within s, r_in))
    request_of-fit (op.Element access.Load kind) from is_op =
        reference-fit 1 _ (λ r r_in. int-fit 0 _ (λ i. r_in))
    request_of-fit (op.Element access.Store kind) from is_op =
        reference-fit _ _ (λ r r_in. int-fit _ _ (λ i. value_so-fit kind _ (λ v v_is. (r_in, v_is))))
    request_of-fit (op.IfSame equality target) from is_op =
        reference-fit 1 _ (λ a a_in. reference-fit 0 _ (λ b b_in. (a_in, b_in)))
    request_of-fit (op.Static access.Load f) from is_op = is_op
    request_of-fit (op.Static access.Store f) from is_op =
        value_so-fit (field_at p f).kind _ (λ v v_is. (is_op, v_is))
    request_of-fit (op.Field access.Load f) from is_op = reference-fit 0 _ (λ r r_in. (is_op, r_in))
    request_of-fit (op.Field access.Store f) from is_op =
        reference-fit _ _ (λ r r_in. value_so-fit (field_at p f).kind _ (λ v v_is. (is_op, r_in, v_is)))
    request_of-fit (op.New class) from is_op = is_op
    request_of-fit (op.NewArray shape) from is_op = int-fit 0 _ (λ i. is_op)
    request_of-fit op.Length from is_op = reference-fit 0 _ (λ r r_in. r_in)
    request_of-fit op.Throw from is_op =
        reference-fit 0 _ (λ r r_in. (
          subst (IsClass set) (sym tables.throwable)
              (place_there set throwable_place (lit< tt)),
          r_in,
        ))
    request_of-fit (op.Cast class) from is_op = reference-fit 0 _ (λ r r_in. (is_op, r_in))
    request_of-fit (op.IsA class) from is_op = reference-fit 0 _ (λ r r_in. (is_op, r_in))
    request_of-fit op.Enter from is_op = reference-fit 0 _ (λ r r_in. r_in)
    request_of-fit op.Exit from is_op = reference-fit 0 _ (λ r r_in. r_in)
    request_of-fit other from is_op = tt

  asks_or-in : (q : Option PlainRequest) (fs : List (Frame Value N)) (go : Stepped Value N Value) → Fit q →
      FramesIn fs → InTurn go → InTurn (asks_or x q fs go)
  asks_or-in None fs go fit in_frames is = is
  asks_or-in (Some request) fs go fit in_frames is =
      frames.asks_so-in set opening p natives method is_in tables keeps world t request fs fit in_frames

  exit-fit : (monitor : Key Value) (from : At) → IsHeldIn set is_in world (Some monitor) →
      IsFit set world t (ask.Exit from monitor)
  exit-fit (key.Object r) from is = is
  exit-fit (key.Class c) from is = is

  enter-fit : (monitor : Key Value) (from : At) → IsHeldIn set is_in world (Some monitor) →
      IsFit set world t (ask.Enter from monitor)
  enter-fit (key.Object r) from is = is
  enter-fit (key.Class c) from is = is

  -- what Frames says, of this world
  running-in : (m at : ℕ) (own : Own Value) (held : Option (Key Value)) (below : List (Frame Value N)) →
      IsOwnIn world own → IsHeldIn set is_in world held → FramesIn below →
      FramesIn (Running m at own held ∷ below)
  running-in = frames.running-in set opening p natives method is_in tables keeps world t

  after-in : (m at : ℕ) (held : Option (Key Value)) (below : List (Frame Value N)) (a : After Value) →
      IsOwnIn world a.own → IsHeldIn set is_in world held → FramesIn below →
      InTurn (after x m at held below a)
  after-in = frames.after-in set opening p natives method is_in tables keeps world t

  calls-in : (n m at : ℕ) (own : Own Value) (held : Option (Key Value)) (below : List (Frame Value N)) →
      IsOwnIn world own → IsHeldIn set is_in world held → FramesIn below →
      InTurn (calls x n m at own held below)
  calls-in = frames.calls-in set opening p natives method is_in tables keeps world t

  asks_so-in : (request : PlainRequest) (fs : List (Frame Value N)) → IsFit set world t request →
      FramesIn fs → InTurn (asks_so request fs)
  asks_so-in = frames.asks_so-in set opening p natives method is_in tables keeps world t

  special-in : (r : Option Value) (n m at : ℕ) (own : Own Value) (held : Option (Key Value))
      (below : List (Frame Value N)) → IsOwnIn world own → IsHeldIn set is_in world held → FramesIn below →
      InTurn (calls_special x r n m at own held below)
  special-in None n m at own held below own_in held_in in_frames =
      asks_so-in _ _ tt (running-in m at own held below own_in held_in in_frames)
  special-in (Some r) n m at own held below own_in held_in in_frames =
      null-or (is_null r)
      (asks_so-in (ask.Raise (from_of p m at) p.null_pointer) (Running m at own held ∷ below)
      (subst (IsThrowable set) (sym tables.null_pointer) (thrown_is_throwable set NullPointer))
      (running-in m at own held below own_in held_in in_frames))
      (calls-in n m at own held below own_in held_in in_frames)
    where
      null-or : {y z : Stepped Value N Value} (c : Bool) → InTurn y → InTurn z → InTurn (if c then y else z)
      null-or true is other = is
      null-or false is other = other

  held-returns : (held : Option (Key Value)) (m at : ℕ) (own : Own Value) (value : Given Value)
      (below : List (Frame Value N)) → IsOwnIn world own → IsHeldIn set is_in world held →
      IsGivenIn world value → FramesIn below →
      InTurn (returns_held x held m at own value below)
  held-returns None m at own value below own_in held_in is in_frames =
      frames.returns_to-in set opening p natives method is_in tables keeps world t value below is in_frames
  held-returns (Some monitor) m at own value below own_in held_in is in_frames =
      asks_so-in _ _ (exit-fit monitor (from_of p m at) held_in)
      (running-in m at own (Some monitor) below own_in held_in in_frames)

  returns-in : (result : Option (Given Value)) (m at : ℕ) (own : Own Value) (held : Option (Key Value))
      (below : List (Frame Value N)) → IsResultIn world result → IsOwnIn world own →
      IsHeldIn set is_in world held → FramesIn below →
      InTurn (returns x result m at own held below)
  returns-in None m at own held below is own_in held_in in_frames =
      asks_so-in _ _ tt (running-in m at own held below own_in held_in in_frames)
  returns-in (Some value) m at own held below is own_in held_in in_frames =
      held-returns held m at own value below own_in held_in is in_frames

  steps-in : (o : Op) (m at : ℕ) (own : Own Value) (held : Option (Key Value))
      (below : List (Frame Value N))
      → IsOpOf set p o → IsOwnIn world own → IsHeldIn set is_in world held → FramesIn below →
      InTurn (asks_or x (request_of x o (from_of p m at) own) (Running m at own held ∷
      below) (after x m at held below (private_step x o own)))
  steps-in o m at own held below is_op own_in held_in in_frames =
      asks_or-in (request_of x o (from_of p m at) own) _ _
      (request_of-fit own own_in o (from_of p m at) is_op)
      (running-in m at own held below own_in held_in in_frames)
      (after-in m at held below (private_step x o own) (private_step-in o own is_op own_in) held_in
      in_frames)

  does-in : (o : Op) (m at : ℕ) (own : Own Value) (held : Option (Key Value)) (below : List (Frame Value N))
      →
      IsOpOf set p o → IsOwnIn world own → IsHeldIn set is_in world held → FramesIn below →
      InTurn (does x o m at own held below)
  does-in op.Return m at own held below is_op own_in held_in in_frames =
      returns-in (result_of None own) m at own held below (result-in world None own own_in) own_in held_in
      in_frames
  does-in (op.ReturnValue sort) m at own held below is_op own_in held_in in_frames =
      returns-in (result_of (Some sort) own) m at own held below (result-in world (Some sort) own own_in)
      own_in
      held_in in_frames
  does-in (op.InvokeSpecial n) m at own held below is_op own_in held_in in_frames =
      special-in (reference_at (cells_taken (method_at p n).parameters - 1) own) n m at own held below
      own_in
      held_in in_frames
  does-in (op.InvokeStatic n) m at own held below is_op own_in held_in in_frames =
      asks_or-in (request_of x (op.InvokeStatic n) (from_of p m at) own) _ _
      (request_of-fit own own_in (op.InvokeStatic n) (from_of p m at) is_op)
      (running-in m at own held below own_in held_in in_frames)
      (calls-in n m at own held below own_in held_in in_frames)
  does-in (op.Unlinked link) m at own held below is_op own_in held_in in_frames =
      asks_so-in _ _ tt (running-in m at own held below own_in held_in in_frames)
  does-in other m at own held below is_op own_in held_in in_frames =
      steps-in other m at own held below is_op own_in held_in in_frames

  op_at : (at : ℕ) → IsOpOf set p (placed_at p at).op
  op_at at = entry-in (λ (k : Placed). IsOpOf set p k.op) p.code at no_placed tables.code tt

  frame_does-in : (fs : List (Frame Value N)) → FramesIn fs → InTurn (frame_does x fs)
  frame_does-in [] in_frames = asks_so-in _ _ tt in_frames
  frame_does-in (Running m at own held ∷ below) in_frames =
      let head = All-head (IsFrameIn set is_in world t) (Running m at own held) below in_frames.all in
      does-in (placed_at p at).op m at own held below (op_at at) head.0 head.1
      (frames.tail-in set opening p natives method is_in tables keeps world t (Running m at own held) below
      in_frames)
  frame_does-in (Native from state ∷ below) in_frames =
      asks_so-in _ _ (keeps.asks world t state
      (All-head (IsFrameIn set is_in world t) (Native from state) below in_frames.all)) in_frames
  frame_does-in (Initialiser class from ∷ below) in_frames = asks_so-in _ _ tt in_frames
  frame_does-in (Main m arguments ∷ below) in_frames = asks_so-in _ _ tt in_frames

  key_of-in : (fs : List (Frame Value N)) → FramesIn fs → IsHeldIn set is_in world (Some (key_of x fs))
  key_of-in [] in_frames = frames.class_zero set opening p natives method is_in tables keeps world t
  key_of-in (Running m at own None ∷ below) in_frames =
      frames.class_zero set opening p natives method is_in tables keeps world t
  key_of-in (Running m at own (Some monitor) ∷ below) in_frames =
      (All-head (IsFrameIn set is_in world t) (Running m at own (Some monitor)) below in_frames.all).1
  key_of-in (Native from state ∷ below) in_frames =
      frames.class_zero set opening p natives method is_in tables keeps world t
  key_of-in (Initialiser class from ∷ below) in_frames =
      frames.class_zero set opening p natives method is_in tables keeps world t
  key_of-in (Main m arguments ∷ below) in_frames =
      frames.class_zero set opening p natives method is_in tables keeps world t

  done-fit : (fs : List (Frame Value N)) → IsInitialiser set is_in world t fs → FramesIn fs →
      Fit (Some (ask.InitDone (at_of x fs) (class_of x fs)))
  done-fit [] is in_frames = absurd is
  done-fit (Running m at own held ∷ below) is in_frames = absurd is
  done-fit (Native from state ∷ below) is in_frames = absurd is
  done-fit (Initialiser class from ∷ below) is in_frames =
      All-head (IsFrameIn set is_in world t) (Initialiser class from) below in_frames.all
  done-fit (Main m arguments ∷ below) is in_frames = absurd is

  asked_by-fit : (doing : Doing Value) (fs : List (Frame Value N)) → IsDoingIn set is_in world t doing fs →
      FramesIn fs → Fit (asked_by x doing fs)
  asked_by-fit Runs fs is in_frames = tt
  asked_by-fit (BeginsMain class) fs is in_frames = is
  asked_by-fit (BeginsThread thread) fs is in_frames =
      (subst (IsClass set) (sym tables.thread) (place_there set thread_place (lit< tt)), is)
  asked_by-fit Enters fs is in_frames = enter-fit (key_of x fs) (at_of x fs) (key_of-in fs in_frames)
  asked_by-fit (Unwinds r class) fs is in_frames =
      exit-fit (key_of x fs) (at_of x fs) (key_of-in fs in_frames)
  asked_by-fit (Initialises super) fs is in_frames = is.0
  asked_by-fit Initialised fs is in_frames = done-fit fs is in_frames
  asked_by-fit (Breaks f) fs is in_frames = is
  asked_by-fit (Ends None) fs is in_frames = tt
  asked_by-fit (Ends (Some class)) fs is in_frames = is

  frames_of : (fs : Frames Value N) → AreIn set is_in world t fs → FramesIn fs.frames
  frames_of fs is = record { all = is.frames; once = is.once }

  one_of-in : (q : Option PlainRequest) (fs : Frames Value N) → Fit q → AreIn set is_in world t fs →
      InTurn (one_of x q fs)
  one_of-in None fs fit is = frame_does-in fs.frames (frames_of fs is)
  one_of-in (Some request) fs fit is = record { frames = is; fit = fit }

  one-in_turn : (fs : Frames Value N) → AreIn set is_in world t fs → InTurn (one x fs)
  one-in_turn fs is = one_of-in (asked_by x fs.doing fs.frames) fs
      (asked_by-fit fs.doing fs.frames is.doing (frames_of fs is)) is

  next-in : (q : Option PlainRequest) (s : Stepped Value N Value) (go : Stepped Value N Value) → InTurn s →
      InTurn go →
      InTurn (elim q as (λ _. Stepped Value N Value) [ None ↦ go | Some request ↦ s ])
  next-in None s go is go_is = go_is
  next-in (Some request) s go is go_is = is

  turn_of-in : (fuel : ℕ) (fs : Frames Value N) → AreIn set is_in world t fs → InTurn (turn_of x fuel fs)
  turn_of-in zero fs is = record {
    frames =
        record { doing = is.doing; frames = is.frames; once = is.once };
    fit = tt;
  }
  turn_of-in (suc fuel) fs is =
      let s_in = one-in_turn fs is in
      next-in (one x fs).asks (one x fs) (turn_of x fuel (one x fs).frames) s_in
      (turn_of-in fuel (one x fs).frames s_in.frames)

  turn_if-in : (paused : Bool) (fs : Frames Value N) → AreIn set is_in world t fs →
      InTurn (turn_if x paused fs)
  turn_if-in true fs is = record { frames = is; fit = tt }
  turn_if-in false fs is = turn_of-in 1024 fs is

  pub turn-in : (fs : Frames Value N) → AreIn set is_in world t fs → InTurn (turn x fs)
  unfolding turn
  turn-in fs is = turn_if-in fs.paused fs is
