-- Each link fault of frames names what is wrong.
use Rattle.std.proofs.Common.{◌≡◌, ◌⊎◌, ℕ, zero, suc, ◌+◌, ◌-◌, nat_le, Bool, true, false, List, [], ◌∷◌, length, take, drop}
use Rattle.std.proofs.Common.{Option, Some, None, refl, inl, inr, if◌then◌else◌}
use Rattle.ap_base.specs.declared.kind.Kind.{Kind}
use Rattle.ap_base.specs.declared.kind.Kind.TheVariants as kinds
use Rattle.run_types.specs.declared.resolved.At.{At}
use Rattle.run_types.specs.declared.key.Key.{Key}
use Rattle.run_types.specs.declared.fault.StepFault.{StepFault}
use Rattle.code_form.specs.declared.ins.Access.TheVariants as access
use Rattle.natives.specs.declared.requests.Request.{Request}
use Rattle.natives.specs.declared.requests.Request.TheVariants as ask
use Rattle.natives.specs.declared.requests.Reply.{Reply}
use Rattle.natives.specs.declared.requests.Reply.TheVariants as reply
use Rattle.frame_cells.specs.declared.cell.Cell.{Cell}
use Rattle.frame_cells.specs.declared.cell.Cell.TheVariants.{Reference}
use Rattle.frame_cells.specs.declared.cell.Did.{Did}
use Rattle.frame_cells.specs.declared.cell.Did.TheVariants.{Next, Jump, DividedByZero, Bad}
use Rattle.frame_cells.specs.Own.{Own, After, int_at, long_at, reference_at, put}
use Rattle.frame_cells.specs.Families.{to}
use Rattle.frames.specs.declared.given.Given.{Given}
use Rattle.frames.specs.declared.given.Given.TheVariants as given_back
use Rattle.frames.specs.declared.op.Op.{Op}
use Rattle.frames.specs.declared.op.Op.TheVariants as op
use Rattle.frames.specs.declared.program.Body.{Body}
use Rattle.frames.specs.declared.program.Body.TheVariants as body
use Rattle.frames.specs.declared.program.Program.{Program}
use Rattle.frames.specs.declared.program.Target.{Target}
use Rattle.frames.specs.declared.program.Target.TheVariants as target
use Rattle.frames.specs.Tables.{Caught, Passed, Goes, Fails, placed_at, method_at, class_at, selector_at, field_at, from_of}
use Rattle.frames.specs.Tables.{dispatched, first_initialised, caught_by}
use Rattle.frames.specs.Settings.{Frame, Running, Native, Initialiser, Main, Doing, Runs, BeginsMain, BeginsThread, Enters}
use Rattle.frames.specs.Settings.{Unwinds, Initialises, Initialised, Breaks, Ends, Frames, Called, Run, ToString, NativeStep}
use Rattle.frames.specs.Settings.{Asks, Calls, Gives, Setting, slots_left}
use Rattle.frames.specs.Private.{private_step}
use Rattle.frames.specs.Requests.{given, width_of, value_so, request_of, taken_by}
use Rattle.frames.specs.Calls.{Stepped, goes_on, asks_so, breaks, cells_taken, cells_of, arguments_on, result_of, reply_of}
use Rattle.frames.specs.Calls.{done_so, after, if_room, begins_body, begins, begins_found, signature_of, native_does}
use Rattle.frames.specs.Calls.{returns_to, calls_with, calls, runs_method, initialises_first, initialises, resumes}
use Rattle.frames.specs.Calls.{returns_held, returns, leaves_method, caught, throws}
use Rattle.frames.specs.Turns.{is_so, is_yes, asks_or, calls_special, does, at_of, class_of, frame_does, asked_by, one_of, one}
use Rattle.frames.specs.Turns.{turn_of, turn_if, turn, gives_back, throws_top, calls_selected, instruction_answered}
use Rattle.frames.specs.Turns.{native_answered, frame_answered, answered, settled, answer_if, answer}
use Rattle.link_faults.specs.LinkFaults.{IsEmpty, IsNamedFault, AsksNamed, BreaksNamed, LinkFaultsAreNamed}

module _ {M R N V : Type 0} (x : Setting M R N V) (quiet : (from : At) (state : N) (below : List (Frame R N))
    → AsksNamed x (Native from state ∷ below) (Some (x.asks state))) where
  abbrev p : Program M
  p = x.program

  record Names (s : Stepped R N V) : Type 0 where
    asked : AsksNamed x s.frames.frames s.asks
    breaks : BreaksNamed x s.frames.doing s.frames.frames

  goes_on-names : (doing : Doing R) (frames : List (Frame R N)) → BreaksNamed x doing frames → Names (goes_on doing frames)
  goes_on-names doing frames is = record { asked = tt; breaks = is }

  asks_so-names : (request : Request R V) (frames : List (Frame R N)) → AsksNamed x frames (Some request)
      → Names (asks_so request frames)
  asks_so-names request frames is = record { asked = is; breaks = tt }

  breaks-names : (f : StepFault) (frames : List (Frame R N)) → IsNamedFault p frames f → Names (breaks f frames)
  breaks-names f frames is = asks_so-names (ask.Broken f) frames is

  if-names : (c : Bool) (y z : Stepped R N V) → Names y → Names z → Names (if c then y else z)
  if-names true y z is other = is
  if-names false y z is other = other

  -- ---- what instructions ask

  module _ (frames : List (Frame R N)) where
    given-named : {X : Type 0} (v : Option X) (go : X → Option (Request R V)) → ((w : X) → AsksNamed x frames (go w))
        → AsksNamed x frames (given v go)
    given-named None go is = tt
    given-named (Some w) go is = is w

    value_so-named : (kind : Kind) (own : Own R) (go : V → Option (Request R V)) → ((v : V) → AsksNamed x frames (go v))
        → AsksNamed x frames (value_so x kind own go)
    value_so-named kinds.J own go is = given-named (long_at 0 own) _ (λ i. is _)
    value_so-named kinds.L own go is = given-named (reference_at 0 own) _ (λ r. is _)
    value_so-named kinds.Z own go is = given-named (int_at 0 own) _ (λ i. is _)
    value_so-named kinds.B own go is = given-named (int_at 0 own) _ (λ i. is _)
    value_so-named kinds.C own go is = given-named (int_at 0 own) _ (λ i. is _)
    value_so-named kinds.S own go is = given-named (int_at 0 own) _ (λ i. is _)
    value_so-named kinds.I own go is = given-named (int_at 0 own) _ (λ i. is _)
    value_so-named kinds.Text own go is = given-named (int_at 0 own) _ (λ i. is _)

    init-named : (class : ℕ) (from : At) (of_program : Bool)
        → AsksNamed x frames (if of_program then Some (ask.Init from class) else None)
    init-named class from true = tt
    init-named class from false = tt

    request_of-named : (o : Op) (from : At) (own : Own R) → AsksNamed x frames (request_of x o from own)
    request_of-named (op.InvokeStatic m) from own =
        init-named (method_at p m).class from (class_at p (method_at p m).class).of_program
    request_of-named (op.InvokeVirtual s) from own =
        given-named (reference_at ((selector_at p s).arguments - 1) own) _ (λ r. tt)
    request_of-named (op.Element access.Load kind) from own =
        given-named (reference_at 1 own) _ (λ r. given-named (int_at 0 own) _ (λ i. tt))
    request_of-named (op.Element access.Store kind) from own =
        given-named (reference_at (width_of kind + 1) own) _ (λ r.
        given-named (int_at (width_of kind) own) _ (λ i. value_so-named kind own _ (λ v. tt)))
    request_of-named (op.IfSame equality to) from own =
        given-named (reference_at 1 own) _ (λ a. given-named (reference_at 0 own) _ (λ b. tt))
    request_of-named (op.Static access.Load f) from own = tt
    request_of-named (op.Static access.Store f) from own = value_so-named (field_at p f).kind own _ (λ v. tt)
    request_of-named (op.Field access.Load f) from own = given-named (reference_at 0 own) _ (λ r. tt)
    request_of-named (op.Field access.Store f) from own =
        given-named (reference_at (width_of (field_at p f).kind) own) _ (λ r.
        value_so-named (field_at p f).kind own _ (λ v. tt))
    request_of-named (op.New class) from own = tt
    request_of-named (op.NewArray shape) from own = given-named (int_at 0 own) _ (λ i. tt)
    request_of-named op.Length from own = given-named (reference_at 0 own) _ (λ r. tt)
    request_of-named op.Throw from own = given-named (reference_at 0 own) _ (λ r. tt)
    request_of-named (op.Cast class) from own = given-named (reference_at 0 own) _ (λ r. tt)
    request_of-named (op.IsA class) from own = given-named (reference_at 0 own) _ (λ r. tt)
    request_of-named op.Enter from own = given-named (reference_at 0 own) _ (λ r. tt)
    request_of-named op.Exit from own = given-named (reference_at 0 own) _ (λ r. tt)
    request_of-named other from own = tt

  asks_or-names : (q : Option (Request R V)) (frames : List (Frame R N)) (go : Stepped R N V) → AsksNamed x frames q
      → Names go → Names (asks_or x q frames go)
  asks_or-names None frames go asked is = is
  asks_or-names (Some request) frames go asked is = asks_so-names request frames asked

  -- ---- instructions and calls

  done_so-names : (m at : ℕ) (held : Option (Key R)) (below : List (Frame R N)) (own : Own R) (did : Did)
      → Names (done_so x m at held below own did)
  done_so-names m at held below own Next = goes_on-names Runs _ tt
  done_so-names m at held below own (Jump to) = goes_on-names Runs _ tt
  done_so-names m at held below own DividedByZero = asks_so-names _ _ tt
  done_so-names m at held below own Bad = breaks-names _ _ tt

  after-names : (m at : ℕ) (held : Option (Key R)) (below : List (Frame R N)) (a : After R)
      → Names (after x m at held below a)
  after-names m at held below a = done_so-names m at held below a.own a.did

  if_room-names : (need : ℕ) (frames : List (Frame R N)) (go : Stepped R N V) → Names go
      → Names (if_room x need frames go)
  if_room-names need frames go is =
      if-names (nat_le need (slots_left p frames)) go _ is (breaks-names _ frames tt)

  no-fault : (b : Bool) (frames : List (Frame R N)) → BreaksNamed x (if b then Enters else Runs) frames
  no-fault true frames = tt
  no-fault false frames = tt

  -- that of a method which does nothing counts where there is one
  body-names : (m : ℕ) (cells : List (Cell R)) (arguments : List (Given R)) (frames below : List (Frame R N))
      (empty : Stepped R N V) (b : Body M) → (b ≡ body.Empty → Names empty)
      → Names (begins_body x m cells arguments frames below empty b)
  body-names m cells arguments frames below empty (body.Code entry) is =
      if-names (nat_le (length cells) (method_at p m).max_locals) _ _
      (if_room-names (4 + (method_at p m).max_locals + (method_at p m).max_stack) frames _
      (goes_on-names _ _ (no-fault (method_at p m).is_synchronized _)))
      (breaks-names _ frames tt)
  body-names m cells arguments frames below empty (body.Native k) is =
      if_room-names 16 frames _ (goes_on-names Runs _ tt)
  body-names m cells arguments frames below empty body.Empty is = if_room-names 16 frames empty (is refl)

  begins-names : (m : ℕ) (cells : List (Cell R)) (arguments : List (Given R)) (frames below : List (Frame R N))
      (empty : Stepped R N V) → ((method_at p m).body ≡ body.Empty → Names empty)
      → Names (begins x m cells arguments frames below empty)
  begins-names m cells arguments frames below empty is =
      body-names m cells arguments frames below empty (method_at p m).body is

  -- a method that frames call by its signature alone
  called-names : (found : Target) (signature class : ℕ) (r : R) (frames below : List (Frame R N))
      (empty : Stepped R N V) → (signature ≡ p.run) ⊎ (signature ≡ p.to_string)
      → dispatched p class signature ≡ found → (IsEmpty p found → Names empty)
      → Names (begins_found x found class r frames below empty)
  called-names (target.Method m) signature class r frames below empty called e is =
      begins-names m (Reference r ∷ []) (given_back.Reference r ∷ []) frames below empty is
  called-names (target.Fails kind) signature class r frames below empty called e is =
      breaks-names _ frames (inr (inr (inl (record {
        signature = signature;
        is_called = called;
        lacks = inl e;
        no_index = refl;
      }))))

  is_called : (called : Called) → (signature_of x called ≡ p.run) ⊎ (signature_of x called ≡ p.to_string)
  is_called Run = inl refl
  is_called ToString = inr refl

  native_does-names : (step : NativeStep R N) (from : At) (below : List (Frame R N))
      (gives : Given R → Stepped R N V) → ((v : Given R) → Names (gives v))
      → Names (native_does x step from below gives)
  native_does-names (Asks state) from below gives is = goes_on-names Runs _ tt
  native_does-names (Calls state called class receiver) from below gives is =
      let signature = signature_of x called in
      called-names (dispatched p class signature) signature class receiver _ _ _ (is_called called) refl
      (λ empty. breaks-names _ _ (inr (inr (inl (record {
        signature = signature;
        is_called = is_called called;
        lacks = inr (refl, empty);
        no_index = refl;
      })))))
  native_does-names (Gives value) from below gives is = is value

  returns_to-names : (value : Given R) (frames : List (Frame R N)) → Names (returns_to x value frames)
  returns_to-names value [] = goes_on-names (Ends None) [] tt
  returns_to-names value (Running m at own held ∷ below) =
      after-names m at held below (put 0 (cells_of value) Next own)
  returns_to-names value (Native from state ∷ below) =
      native_does-names (x.next state (reply_of x value)) from below _ (λ v. returns_to-names v below)
  returns_to-names value (Initialiser class from ∷ below) = goes_on-names Initialised _ tt
  returns_to-names value (Main m arguments ∷ below) = goes_on-names (Ends None) [] tt

  calls_with-names : (found : Option (List (Given R))) (k m at : ℕ) (own : Own R) (held : Option (Key R))
      (below : List (Frame R N)) → Names (calls_with x found k m at own held below)
  calls_with-names None k m at own held below = breaks-names _ _ tt
  calls_with-names (Some arguments) k m at own held below =
      let taken = cells_taken (method_at p k).parameters in
      let caller : Frame R N = Running m at (record own { stack = drop taken own.stack }) held in
      begins-names k (take taken own.stack) arguments (Running m at own held ∷ below) (caller ∷ below) _
      (λ empty. returns_to-names given_back.Nothing (caller ∷ below))

  calls-names : (k m at : ℕ) (own : Own R) (held : Option (Key R)) (below : List (Frame R N))
      → Names (calls x k m at own held below)
  calls-names k m at own held below =
      calls_with-names (arguments_on (method_at p k).parameters own.stack []) k m at own held below

  special-names : (r : Option R) (k m at : ℕ) (own : Own R) (held : Option (Key R)) (below : List (Frame R N))
      → Names (calls_special x r k m at own held below)
  special-names None k m at own held below = breaks-names _ _ tt
  special-names (Some r) k m at own held below =
      if-names (x.is_null r) _ _ (asks_so-names _ _ tt) (calls-names k m at own held below)

  -- ---- returns and throwables

  held-names : (held : Option (Key R)) (m at : ℕ) (own : Own R) (value : Given R) (below : List (Frame R N))
      → Names (returns_held x held m at own value below)
  held-names None m at own value below = returns_to-names value below
  held-names (Some monitor) m at own value below = asks_so-names _ _ tt

  returns-names : (result : Option (Given R)) (m at : ℕ) (own : Own R) (held : Option (Key R))
      (below : List (Frame R N)) → Names (returns x result m at own held below)
  returns-names None m at own held below = breaks-names _ _ tt
  returns-names (Some value) m at own held below = held-names held m at own value below

  leaves-names : (held : Option (Key R)) (r : R) (class m at : ℕ) (own : Own R) (below : List (Frame R N))
      (further : Stepped R N V) → Names further → Names (leaves_method x held r class m at own below further)
  leaves-names None r class m at own below further is = is
  leaves-names (Some monitor) r class m at own below further is = goes_on-names (Unwinds r class) _ tt

  caught-names : (found : Caught) (r : R) (class m at : ℕ) (own : Own R) (held : Option (Key R))
      (below : List (Frame R N)) (further : Stepped R N V)
      → caught_by p (method_at p m).handlers at class ≡ found → Names further
      → Names (caught x found r class m at own held below further)
  caught-names Passed r class m at own held below further e is = leaves-names held r class m at own below further is
  caught-names (Goes target) r class m at own held below further e is = after-names m at held below _
  caught-names (Fails link) r class m at own held below further e is = breaks-names _ _ (inl (record {
    method = m;
    link = link;
    of_method = (refl, inr (class, e));
    kind_is = refl;
    class_is = refl;
    index_is = refl;
  }))

  throws-names : (r : R) (class : ℕ) (frames : List (Frame R N)) → Names (throws x r class frames)
  throws-names r class [] = goes_on-names (Ends (Some class)) [] tt
  throws-names r class (Running m at own held ∷ below) =
      caught-names (caught_by p (method_at p m).handlers at class) r class m at own held below _ refl
      (throws-names r class below)
  throws-names r class (Native from state ∷ below) = throws-names r class below
  throws-names r class (Initialiser c from ∷ below) = breaks-names _ _ (inr (inr (inr (refl, refl, refl))))
  throws-names r class (Main m arguments ∷ below) = goes_on-names (Ends (Some class)) [] tt

  -- ---- initialisers

  runs_method-names : (m : Option ℕ) (frames : List (Frame R N)) → Names (runs_method x m frames)
  runs_method-names None frames = goes_on-names Initialised frames tt
  runs_method-names (Some m) frames =
      begins-names m [] [] frames frames _ (λ empty. returns_to-names given_back.Nothing frames)

  first-names : (super : Option ℕ) (class : ℕ) (frames : List (Frame R N))
      → Names (initialises_first x super class frames)
  first-names None class frames = runs_method-names (class_at p class).initialiser frames
  first-names (Some super) class frames = goes_on-names (Initialises super) frames tt

  initialises-names : (class : ℕ) (from : At) (frames : List (Frame R N)) → Names (initialises x class from frames)
  initialises-names class from frames =
      if_room-names 16 frames _ (first-names (first_initialised p class) class (Initialiser class from ∷ frames))

  resumes-names : (frames : List (Frame R N)) → Names (resumes x frames)
  resumes-names (Main m arguments ∷ below) =
      begins-names m (Reference arguments ∷ []) (given_back.Reference arguments ∷ []) (Main m arguments ∷ below) [] _
      (λ empty. returns_to-names given_back.Nothing [])
  resumes-names (Initialiser class from ∷ below) =
      first-names (first_initialised p class) class (Initialiser class from ∷ below)
  resumes-names [] = goes_on-names Runs [] tt
  resumes-names (Running m at own held ∷ below) = goes_on-names Runs _ tt
  resumes-names (Native from state ∷ below) = goes_on-names Runs _ tt

  -- ---- turns

  does-names : (o : Op) (m at : ℕ) (own : Own R) (held : Option (Key R)) (below : List (Frame R N))
      → (placed_at p at).op ≡ o → Names (does x o m at own held below)
  does-names op.Return m at own held below e = returns-names (result_of None own) m at own held below
  does-names (op.ReturnValue sort) m at own held below e = returns-names (result_of (Some sort) own) m at own held below
  does-names (op.InvokeSpecial k) m at own held below e =
      special-names (reference_at (cells_taken (method_at p k).parameters - 1) own) k m at own held below
  does-names (op.InvokeStatic k) m at own held below e =
      asks_or-names (request_of x (op.InvokeStatic k) (from_of p m at) own) (Running m at own held ∷ below) _
      (request_of-named (Running m at own held ∷ below) (op.InvokeStatic k) (from_of p m at) own)
      (calls-names k m at own held below)
  does-names (op.Unlinked link) m at own held below e = breaks-names _ _ (inl (record {
    method = m;
    link = link;
    of_method = (refl, inl e);
    kind_is = refl;
    class_is = refl;
    index_is = refl;
  }))
  does-names other m at own held below e =
      asks_or-names (request_of x other (from_of p m at) own) (Running m at own held ∷ below) _
      (request_of-named (Running m at own held ∷ below) other (from_of p m at) own)
      (after-names m at held below (private_step x other own))

  frame_does-names : (frames : List (Frame R N)) → Names (frame_does x frames)
  frame_does-names [] = asks_so-names (ask.Leave None) [] tt
  frame_does-names (Running m at own held ∷ below) = does-names (placed_at p at).op m at own held below refl
  frame_does-names (Native from state ∷ below) = asks_so-names (x.asks state) _ (quiet from state below)
  frame_does-names (Initialiser class from ∷ below) = asks_so-names (ask.Leave None) _ tt
  frame_does-names (Main m arguments ∷ below) = asks_so-names (ask.Leave None) _ tt

  asked-named : (doing : Doing R) (frames : List (Frame R N)) → BreaksNamed x doing frames
      → AsksNamed x frames (asked_by x doing frames)
  asked-named Runs frames is = tt
  asked-named (BeginsMain class) frames is = tt
  asked-named (BeginsThread thread) frames is = tt
  asked-named Enters frames is = tt
  asked-named (Unwinds r class) frames is = tt
  asked-named (Initialises super) frames is = tt
  asked-named Initialised frames is = tt
  asked-named (Breaks f) frames is = is
  asked-named (Ends uncaught) frames is = tt

  one_of-names : (q : Option (Request R V)) (fs : Frames R N) → AsksNamed x fs.frames q → BreaksNamed x fs.doing fs.frames
      → Names (one_of x q fs)
  one_of-names None fs asked is = frame_does-names fs.frames
  one_of-names (Some request) fs asked is = record { asked = asked; breaks = is }

  one-names : (fs : Frames R N) → BreaksNamed x fs.doing fs.frames → Names (one x fs)
  one-names fs is = one_of-names (asked_by x fs.doing fs.frames) fs (asked-named fs.doing fs.frames is) is

  next-names : (q : Option (Request R V)) (s go : Stepped R N V) → Names s → Names go
      → Names (elim q as (λ _. Stepped R N V) [ None ↦ go | Some request ↦ s ])
  next-names None s go is next = next
  next-names (Some request) s go is next = is

  turn_of-names : (fuel : ℕ) (fs : Frames R N) → BreaksNamed x fs.doing fs.frames → Names (turn_of x fuel fs)
  turn_of-names zero fs is = record { asked = tt; breaks = is }
  turn_of-names (suc fuel) fs is =
      let done = one-names fs is in
      next-names (one x fs).asks (one x fs) (turn_of x fuel (one x fs).frames) done
      (turn_of-names fuel (one x fs).frames done.breaks)

  turn_if-names : (paused : Bool) (fs : Frames R N) → BreaksNamed x fs.doing fs.frames → Names (turn_if x paused fs)
  turn_if-names true fs is = record { asked = tt; breaks = is }
  turn_if-names false fs is = turn_of-names 1024 fs is

  turn-names : (fs : Frames R N) → BreaksNamed x fs.doing fs.frames → Names (turn x fs)
  unfolding turn
  turn-names fs is = turn_if-names fs.paused fs is

  -- ---- answers

  gives_back-names : (result : Option (Given R)) (m at : ℕ) (own : Own R) (held : Option (Key R))
      (below : List (Frame R N)) → Names (gives_back x result m at own held below)
  gives_back-names None m at own held below = breaks-names _ _ tt
  gives_back-names (Some value) m at own held below = returns_to-names value below

  throws_top-names : (r : Option R) (class m at : ℕ) (own : Own R) (held : Option (Key R))
      (below : List (Frame R N)) → Names (throws_top x r class m at own held below)
  throws_top-names None class m at own held below = breaks-names _ _ tt
  throws_top-names (Some r) class m at own held below = throws-names r class (Running m at own held ∷ below)

  selected-names : (found : Target) (s receiver m at : ℕ) (own : Own R) (held : Option (Key R))
      (below : List (Frame R N)) → (placed_at p at).op ≡ op.InvokeVirtual s
      → dispatched p receiver (selector_at p s).signature ≡ found
      → Names (calls_selected x found (selector_at p s) m at own held below)
  selected-names (target.Method k) s receiver m at own held below call e = calls-names k m at own held below
  selected-names (target.Fails kind) s receiver m at own held below call e = breaks-names _ _ (inr (inl (record {
    selector = s;
    receiver = receiver;
    of_call = call;
    fails = e;
    class_is = refl;
    index_is = refl;
  })))

  instruction-names : (o : Op) (m at : ℕ) (own : Own R) (held : Option (Key R)) (below : List (Frame R N))
      (r : Reply R V) → (placed_at p at).op ≡ o → Names (instruction_answered x o m at own held below r)
  instruction-names o m at own held below (reply.Thrown r class) is = throws-names r class (Running m at own held ∷ below)
  instruction-names o m at own held below (reply.Init class) is =
      initialises-names class (from_of p m at) (Running m at own held ∷ below)
  instruction-names (op.InvokeStatic k) m at own held below r is = calls-names k m at own held below
  instruction-names (op.InvokeVirtual s) m at own held below (reply.Shape class) is =
      selected-names (dispatched p class (selector_at p s).signature) s class m at own held below is refl
  instruction-names op.Throw m at own held below (reply.Shape class) is =
      throws_top-names (reference_at 0 own) class m at own held below
  instruction-names op.Return m at own held below r is = gives_back-names (result_of None own) m at own held below
  instruction-names (op.ReturnValue sort) m at own held below r is =
      gives_back-names (result_of (Some sort) own) m at own held below
  instruction-names (op.IfSame equality target) m at own held below (reply.Item v) is =
      after-names m at held below (put 2 [] (to (is_so equality (is_yes (x.cells v))) target) own)
  instruction-names o m at own held below (reply.Item v) is =
      after-names m at held below (put (taken_by x o) (x.cells v) Next own)
  instruction-names o m at own held below (reply.Made r) is =
      after-names m at held below (put (taken_by x o) (Reference r ∷ []) Next own)
  instruction-names o m at own held below r is = after-names m at held below (put (taken_by x o) [] Next own)

  native-names : (from : At) (state : N) (below : List (Frame R N)) (r : Reply R V)
      → Names (native_answered x from state below r)
  native-names from state below (reply.Thrown r class) = throws-names r class below
  native-names from state below r =
      native_does-names (x.next state r) from below _ (λ v. returns_to-names v below)

  frame_answered-names : (frames : List (Frame R N)) (r : Reply R V) → Names (frame_answered x frames r)
  frame_answered-names (Running m at own held ∷ below) r = instruction-names (placed_at p at).op m at own held below r refl
  frame_answered-names (Native from state ∷ below) r = native-names from state below r
  frame_answered-names [] r = goes_on-names Runs [] tt
  frame_answered-names (Initialiser class from ∷ below) r = goes_on-names Runs _ tt
  frame_answered-names (Main m arguments ∷ below) r = goes_on-names Runs _ tt

  answered-names : (doing : Doing R) (frames : List (Frame R N)) (r : Reply R V) → BreaksNamed x doing frames
      → Names (answered x doing frames r)
  answered-names Runs frames r is = frame_answered-names frames r
  answered-names (BeginsMain class) frames (reply.Init c) is = initialises-names c x.main frames
  answered-names (BeginsMain class) frames r is = resumes-names frames
  answered-names (BeginsThread thread) frames (reply.Shape class) is =
      called-names (dispatched p class p.run) p.run class thread frames [] _ (inl refl) refl
      (λ empty. goes_on-names (Ends None) [] tt)
  answered-names (BeginsThread thread) frames (reply.Thrown r class) is = goes_on-names (Ends (Some class)) [] tt
  answered-names Enters frames (reply.Thrown r class) is = throws-names r class (drop 1 frames)
  answered-names Enters frames r is = goes_on-names Runs frames tt
  answered-names (Unwinds r class) frames (reply.Thrown s other) is = throws-names s other (drop 1 frames)
  answered-names (Unwinds r class) frames reply is = throws-names r class (drop 1 frames)
  answered-names (Initialises super) frames (reply.Init c) is = initialises-names c (at_of x frames) frames
  answered-names (Initialises super) frames r is = runs_method-names (class_at p (class_of x frames)).initialiser frames
  answered-names Initialised frames r is = resumes-names (drop 1 frames)
  answered-names doing frames r is = goes_on-names doing frames is

  settled-names : (q : Option (Request R V)) (fs : Frames R N) → AsksNamed x fs.frames q → BreaksNamed x fs.doing fs.frames
      → BreaksNamed x (settled x q fs).doing (settled x q fs).frames
  settled-names None fs asked is = is
  settled-names (Some (ask.Broken f)) fs asked is = asked
  settled-names (Some request) fs asked is = is

  answer_if-names : (paused : Bool) (fs : Frames R N) (r : Reply R V) → BreaksNamed x fs.doing fs.frames
      → BreaksNamed x (answer_if x paused fs r).doing (answer_if x paused fs r).frames
  answer_if-names true fs r is = is
  answer_if-names false fs r is =
      let s = answered x fs.doing fs.frames r in
      let names = answered-names fs.doing fs.frames r is in
      settled-names s.asks s.frames names.asked names.breaks

  answer-names : (fs : Frames R N) (r : Reply R V) → BreaksNamed x fs.doing fs.frames
      → BreaksNamed x (answer x fs r).doing (answer x fs r).frames
  unfolding answer
  answer-names fs r is = answer_if-names fs.paused fs r is

pub link_faults_named : {M R N V : Type 0} → LinkFaultsAreNamed M R N V
link_faults_named x quiet fs is =
    let names = turn-names x quiet fs is in
    (names.asked, names.breaks, λ r. answer-names x quiet fs r is)
