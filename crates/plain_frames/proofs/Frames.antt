-- Turns of frames that are in a world: they stay in it, and what they ask is fit.
use Rattle.std.proofs.Common.{◌≡◌, ℕ, zero, suc, ℤ, ◌+◌, ◌-◌, nat_le, Bool, true, false, List, [], ◌∷◌, length, take, drop}
use Rattle.std.proofs.Common.{reverse, replicate, map, slice_get, slice_index_or, Option, Some, None, refl, sym, subst}
use Rattle.std.proofs.Common.{if◌then◌else◌, arith, lit<}
use Rattle.std.specs.Prelude.{All, AllPairs, ◌≢◌}
use Rattle.std.proofs.lemmas.Bool.{leb-false}
use Rattle.std.proofs.lemmas.List.Elements.{All-nil, All-cons, All-head, All-tail, All-append, All-drop, All-take}
use Rattle.std.proofs.lemmas.List.Elements.{All-replicate}
use Rattle.std.proofs.lemmas.Grind.{reverse_onto}
use Rattle.run_types.specs.declared.resolved.At.{At}
use Rattle.run_types.specs.declared.fault.StepFault.TheVariants as fault
use Rattle.run_types.specs.declared.fault.Which.TheVariants.{FrameSlots}
use Rattle.run_types.specs.declared.key.Key.{Key}
use Rattle.run_types.specs.declared.key.Key.TheVariants as key
use Rattle.code_form.specs.declared.ins.Sort.{Sort}
use Rattle.code_form.specs.declared.ins.Sort.TheVariants as sort
use Rattle.graph_model.specs.declared.types.Graph.{Graph}
use Rattle.graph_model.specs.declared.types.Value.{Value}
use Rattle.graph_model.specs.declared.types.Value.TheVariants as value
use Rattle.graph_model.specs.Heaps.{IsBelow}
use Rattle.run_history.specs.Worlds.{World}
use Rattle.plain_model.specs.declared.throws.Throws.TheVariants.{Arithmetic}
use Rattle.plain_model.specs.Facts.{SetFacts}
use Rattle.plain_model.specs.Requests.{PlainRequest}
use Rattle.plain_model.specs.Replies.{NamesBelow}
use Rattle.plain_model.specs.Duties.{IsClass, IsThrowable, IsReferenceIn, IsFit}
use Rattle.plain_model.proofs.Consistent.{place_there}
use Rattle.plain_model.proofs.Throwables.{thrown_is_throwable}
use Rattle.frame_cells.specs.declared.cell.Cell.{Cell}
use Rattle.frame_cells.specs.declared.cell.Cell.TheVariants.{Empty, Int, Long, Half, Reference}
use Rattle.frame_cells.specs.declared.cell.Did.{Did}
use Rattle.frame_cells.specs.declared.cell.Did.TheVariants.{Next, Jump, DividedByZero, Bad}
use Rattle.frame_cells.specs.Own.{Own, After, int_at, long_at, reference_at}
use Rattle.frames.specs.declared.given.Given.{Given}
use Rattle.frames.specs.declared.given.Given.TheVariants as given
use Rattle.frames.specs.declared.program.Body.{Body}
use Rattle.frames.specs.declared.program.Body.TheVariants as body
use Rattle.frames.specs.declared.program.Method.{Method}
use Rattle.frames.specs.declared.program.Program.{Program}
use Rattle.frames.specs.declared.program.Target.{Target}
use Rattle.frames.specs.declared.program.Target.TheVariants as target
use Rattle.frames.specs.Tables.{no_method, method_at, start_of, dispatched}
use Rattle.frames.specs.Settings.{Frame, Running, Native, Initialiser, Main, Doing, Runs, Enters, Initialised, Ends, NativeStep}
use Rattle.frames.specs.Settings.{Asks, Calls, Gives, Setting, slots_left}
use Rattle.frames.specs.Calls.{Stepped, goes_on, asks_so, arguments_on, cells_taken, cells_of, given_of, result_of, object_in}
use Rattle.frames.specs.Calls.{monitor_of, first_own, value_of, reply_of, done_so, after, if_room, breaks, begins_body, begins}
use Rattle.frames.specs.Calls.{begins_with, begins_found, signature_of, native_does, returns_to, calls_with, calls}
use Rattle.plain_frames.specs.Codes.{PlainNatives, plain_setting}
use Rattle.plain_frames.specs.Tables.{NamesWhatIsThere}
use Rattle.plain_frames.specs.Sound.{IsCellIn, IsOwnIn, IsGivenIn, IsNativeIn, IsHeldIn, IsFrameIn, IsDoingIn, IsStepIn}
use Rattle.plain_frames.specs.Sound.{IsResult, KeepIn, initialised_by}
use Rattle.plain_frames.specs.DutyLaws.{IsTurnIn}
use Rattle.plain_frames.proofs.Cells.{All-slice_get, reference-in, put-in, one-in, long-in}

pub entry-in : {X : Type 0} (P : X → Type 0) (xs : List X) (n : ℕ) (d : X) → All P xs → P d →
    P (slice_index_or xs n d)
entry-in P [] n d all is = is
entry-in P (x ∷ xs) zero d all is = All-head P x xs all
entry-in P (x ∷ xs) (suc n) d all is = entry-in P xs n d (All-tail P x xs all) is

All-reverse : {X : Type 0} (P : X → Type 0) (xs : List X) → All P xs → All P (reverse xs)
All-reverse P [] all = all
All-reverse P (x ∷ xs) all = subst (All P) (sym (reverse_onto xs x []))
    (All-append P (reverse xs) (x ∷
    []) (All-reverse P xs (All-tail P x xs all)) (All-cons P x [] (All-head P x xs all) (All-nil P)))

pairs-tail : {X : Type 0} (P : X → X → Type 0) (x : X) (xs : List X) → AllPairs P (x ∷ xs) → AllPairs P xs
pairs-tail P x xs pairs i j d lt within = pairs (suc i) (suc j) d (omega arith) (omega arith)

no-pairs : {X : Type 0} (P : X → X → Type 0) → AllPairs P []
no-pairs P i j d lt within = absurd (omega arith)

module _ (world : World) where
  pub below-in : (r : Value) → IsReferenceIn world r → IsBelow (length world.heap.objects) r
  below-in value.Null is = tt
  below-in (value.Obj n) is = is
  below-in (value.Int i) is = absurd is
  below-in (value.Long i) is = absurd is

  abbrev pub AreGiven : Option (List (Given Value)) → Type 0
  AreGiven None = Unit {0}
  AreGiven (Some values) = All (IsGivenIn world) values

  arguments-in : (sorts : List Sort) (cells : List (Cell Value)) (later : List (Given Value)) →
      All (IsCellIn world) cells → All (IsGivenIn world) later →
      AreGiven (arguments_on sorts cells later)
  arguments-in [] cells later all laters = laters
  arguments-in (sort.Int ∷ sorts) (Int v ∷ cells) later all laters =
      arguments-in sorts cells (given.Int v ∷
      later) (All-tail (IsCellIn world) (Int v) cells all)
      (All-cons (IsGivenIn world) (given.Int v) later tt laters)
  arguments-in (sort.Long ∷ sorts) (Half ∷ Long v ∷ cells) later all laters =
      arguments-in sorts cells (given.Long v ∷
      later) (All-tail (IsCellIn world) (Long v) cells (All-tail (IsCellIn world) Half (Long v ∷
      cells) all)) (All-cons (IsGivenIn world) (given.Long v) later tt laters)
  arguments-in (sort.Reference ∷ sorts) (Reference r ∷ cells) later all laters =
      arguments-in sorts cells (given.Reference r ∷
      later) (All-tail (IsCellIn world) (Reference r) cells all)
      (All-cons (IsGivenIn world) (given.Reference r) later
      (All-head (IsCellIn world) (Reference r) cells all) laters)
  arguments-in sorts cells later all laters = tt

  cells_of-in : (value : Given Value) → IsGivenIn world value → All (IsCellIn world) (cells_of value)
  cells_of-in given.Nothing is = All-nil (IsCellIn world)
  cells_of-in (given.Int v) is = one-in world (Int v) tt
  cells_of-in (given.Long v) is = long-in world v
  cells_of-in (given.Reference r) is = one-in world (Reference r) is

  abbrev pub IsResultIn : Option (Given Value) → Type 0
  IsResultIn None = Unit {0}
  IsResultIn (Some value) = IsGivenIn world value

  number-in : (x : Option ℤ) (make : ℤ → Given Value) → ((v : ℤ) → IsGivenIn world (make v)) →
      IsResultIn (given_of x make)
  number-in None make is = tt
  number-in (Some v) make is = is v

  result-reference : (x : Option Value) → ((r : Value) → x ≡ Some r → IsReferenceIn world r) →
      IsResultIn (given_of x given.Reference)
  result-reference None is = tt
  result-reference (Some r) is = is r refl

  pub result-in : (s : Option Sort) (own : Own Value) → IsOwnIn world own → IsResultIn (result_of s own)
  result-in None own is = tt
  result-in (Some sort.Int) own is = number-in (int_at 0 own) given.Int (λ v. tt)
  result-in (Some sort.Long) own is = number-in (long_at 0 own) given.Long (λ v. tt)
  result-in (Some sort.Reference) own is =
      result-reference (reference_at 0 own) (λ r e. reference-in world own.stack 0 r is.stack e)

module _ (set : SetFacts) (opening : Graph) {M N : Type 0} (p : Program M) (natives : PlainNatives M N)
    (method : ℕ) (is_in : ℕ → N → Bool)
    (tables : NamesWhatIsThere set p) (keeps : KeepIn set natives is_in) (world : World) (t : ℕ) where
  abbrev pub x : Setting M Value N Value
  x = plain_setting set opening p natives method

  abbrev pub InFrame : Frame Value N → Type 0
  InFrame = IsFrameIn set is_in world t

  pub record FramesIn (frames : List (Frame Value N)) : Type 0 where
    pub all : All InFrame frames
    pub once : AllPairs (λ m n. m ≢ n) (initialised_by frames)

  abbrev pub InTurn : Stepped Value N Value → Type 0
  InTurn = IsTurnIn set is_in world t

  pub goes_on-in : (doing : Doing Value) (frames : List (Frame Value N)) →
      IsDoingIn set is_in world t doing frames → FramesIn frames → InTurn (goes_on doing frames)
  goes_on-in doing frames is in_frames =
      record { frames = record { doing = is; frames = in_frames.all; once = in_frames.once }; fit = tt }

  pub asks_so-in : (request : PlainRequest) (frames : List (Frame Value N)) → IsFit set world t request →
      FramesIn frames → InTurn (asks_so request frames)
  asks_so-in request frames fit in_frames =
      record { frames = record { doing = tt; frames = in_frames.all; once = in_frames.once }; fit = fit }

  pub running-in : (m at : ℕ) (own : Own Value) (held : Option (Key Value)) (below : List (Frame Value N)) →
      IsOwnIn world own → IsHeldIn set is_in world held → FramesIn below →
      FramesIn (Running m at own held ∷ below)
  running-in m at own held below own_in held_in in_frames =
      record {
        all = All-cons InFrame (Running m at own held) below (own_in, held_in) in_frames.all;
        once =
            in_frames.once;
      }

  native-in : (from : At) (state : N) (below : List (Frame Value N)) → IsNativeIn set is_in world state →
      FramesIn below → FramesIn (Native from state ∷ below)
  native-in from state below is in_frames =
      record { all = All-cons InFrame (Native from state) below is in_frames.all; once = in_frames.once }

  pub class_zero : IsClass set 0
  class_zero = let there = place_there set 0 (lit< tt) in omega (arith, there)

  pub class_of_method : (m : ℕ) → IsClass set (method_at p m).class
  class_of_method m = entry-in (λ (k : Method M). IsClass set k.class) p.methods m no_method tables.methods
      class_zero

  pub done_so-in : (m at : ℕ) (held : Option (Key Value)) (below : List (Frame Value N)) (own : Own Value)
      (did : Did) → IsOwnIn world own → IsHeldIn set is_in world held → FramesIn below →
      InTurn (done_so x m at held below own did)
  done_so-in m at held below own Next own_in held_in in_frames =
      goes_on-in Runs _ tt (running-in m (at + 1) own held below own_in held_in in_frames)
  done_so-in m at held below own (Jump to) own_in held_in in_frames =
      goes_on-in Runs _ tt (running-in m to own held below own_in held_in in_frames)
  done_so-in m at held below own DividedByZero own_in held_in in_frames =
      asks_so-in _ _ (subst (IsThrowable set) (sym tables.arithmetic) (thrown_is_throwable set Arithmetic))
      (running-in m at own held below own_in held_in in_frames)
  done_so-in m at held below own Bad own_in held_in in_frames =
      asks_so-in _ _ tt (running-in m at own held below own_in held_in in_frames)

  pub after-in : (m at : ℕ) (held : Option (Key Value)) (below : List (Frame Value N)) (a : After Value) →
      IsOwnIn world a.own → IsHeldIn set is_in world held → FramesIn below →
      InTurn (after x m at held below a)
  after-in m at held below a own_in held_in in_frames =
      done_so-in m at held below a.own a.did own_in held_in in_frames

  if-in : (c : Bool) (y z : Stepped Value N Value) → InTurn y → InTurn z → InTurn (if c then y else z)
  if-in true y z p q = p
  if-in false y z p q = q

  pub if_room-in : (need : ℕ) (frames : List (Frame Value N)) (go : Stepped Value N Value) →
      FramesIn frames →
      InTurn go → InTurn (if_room x need frames go)
  if_room-in need frames go in_frames is = by_room (nat_le need (slots_left p frames)) refl where
    by_room : (room : Bool) → nat_le need (slots_left p frames) ≡ room →
        InTurn (if room then go else breaks (fault.Full (record
        { which = FrameSlots; need = need; left = slots_left p frames })) frames)
    by_room true e = is
    by_room false e =
        asks_so-in _ frames (tt, leb-false need (slots_left p frames) e, omega arith) in_frames

  object-in : (c : Option (Cell Value)) → ((d : Cell Value) → c ≡ Some d → IsCellIn world d) →
      IsHeldIn set is_in world (object_in c)
  object-in None is = tt
  object-in (Some Empty) is = tt
  object-in (Some (Int i)) is = tt
  object-in (Some (Long i)) is = tt
  object-in (Some Half) is = tt
  object-in (Some (Reference r)) is = is (Reference r) refl

  monitor-cases : (synchronized static : Bool) (class : ℕ) (object : Option (Key Value)) →
      IsClass set class →
      IsHeldIn set is_in world object →
      IsHeldIn set is_in world (if synchronized then (if static then Some (key.Class class) else object)
      else
      None)
  monitor-cases true true class object is object_is = is
  monitor-cases true false class object is object_is = object_is
  monitor-cases false static class object is object_is = tt

  monitor-in : (m : ℕ) (own : Own Value) → IsOwnIn world own →
      IsHeldIn set is_in world (monitor_of (method_at p m) own)
  monitor-in m own is = monitor-cases (method_at p m).is_synchronized (method_at p m).is_static
      (method_at p m).class _ (class_of_method m)
      (object-in (slice_get own.locals 0)
      (λ d e. All-slice_get (IsCellIn world) own.locals 0 d is.locals e))

  first_own-in : (m : ℕ) (cells : List (Cell Value)) → All (IsCellIn world) cells →
      IsOwnIn world (first_own (method_at p m) cells)
  first_own-in m cells all = record {
    locals = All-append (IsCellIn world) (reverse cells)
        (replicate ((method_at p m).max_locals - length cells) Empty)
        (All-reverse (IsCellIn world) cells all)
        (All-replicate (IsCellIn world) ((method_at p m).max_locals - length cells) Empty tt);
    stack = All-nil (IsCellIn world);
  }

  doing-in : (c : Bool) (frames : List (Frame Value N)) →
      IsDoingIn set is_in world t (if c then Enters else Runs) frames
  doing-in true frames = tt
  doing-in false frames = tt

  value_of-in : (value : Given Value) → IsGivenIn world value →
      IsBelow (length world.heap.objects) (value_of x value)
  value_of-in given.Nothing is = tt
  value_of-in (given.Int v) is = tt
  value_of-in (given.Long v) is = tt
  value_of-in (given.Reference r) is = below-in world r is

  values-in : (values : List (Given Value)) → All (IsGivenIn world) values →
      All (IsBelow (length world.heap.objects)) (map (value_of x) values)
  values-in [] all = All-nil (IsBelow (length world.heap.objects))
  values-in (v ∷ values) all = All-cons (IsBelow (length world.heap.objects)) (value_of x v)
      (map (value_of x) values)
      (value_of-in v (All-head (IsGivenIn world) v values all))
      (values-in values (All-tail (IsGivenIn world) v values all))

  body-in : (m : ℕ) (cells : List (Cell Value)) (arguments : List (Given Value))
      (frames below : List (Frame Value N)) (empty : Stepped Value N Value) (bd : Body M) →
      All (IsCellIn world) cells → All (IsGivenIn world) arguments → FramesIn frames → FramesIn below →
      InTurn empty → InTurn (begins_body x m cells arguments frames below empty bd)
  body-in m cells arguments frames below empty (body.Code entry) all givens in_frames in_below is =
      let own_in = first_own-in m cells all in
      if-in (nat_le (length cells) (method_at p m).max_locals) _ _
      (if_room-in (4 + (method_at p m).max_locals + (method_at p m).max_stack) frames _ in_frames
      (goes_on-in _ _ (doing-in (method_at p m).is_synchronized _)
      (running-in m entry (first_own (method_at p m) cells)
      (monitor_of (method_at p m) (first_own (method_at p m) cells)) below own_in
      (monitor-in m (first_own (method_at p m) cells) own_in) in_below)))
      (asks_so-in _ frames tt in_frames)
  body-in m cells arguments frames below empty (body.Native k) all givens in_frames in_below is =
      if_room-in 16 frames _ in_frames (goes_on-in Runs _ tt
      (native-in (start_of p m) _ below
      (keeps.start world k (start_of p m) (map (value_of x) arguments) (values-in arguments givens))
      in_below))
  body-in m cells arguments frames below empty body.Empty all givens in_frames in_below is =
      if_room-in 16 frames empty in_frames is

  pub begins-in : (m : ℕ) (cells : List (Cell Value)) (arguments : List (Given Value))
      (frames below : List (Frame Value N)) (empty : Stepped Value N Value) →
      All (IsCellIn world) cells → All (IsGivenIn world) arguments → FramesIn frames → FramesIn below →
      InTurn empty → InTurn (begins x m cells arguments frames below empty)
  begins-in m cells arguments frames below empty all givens in_frames in_below is =
      body-in m cells arguments frames below empty (method_at p m).body all givens in_frames in_below is

  pub begins_with-in : (m : ℕ) (r : Value) (frames below : List (Frame Value N))
      (empty : Stepped Value N Value) → IsReferenceIn world r → FramesIn frames → FramesIn below →
      InTurn empty →
      InTurn (begins_with x m r frames below empty)
  begins_with-in m r frames below empty r_in in_frames in_below is =
      begins-in m (Reference r ∷ []) (given.Reference r ∷
      []) frames below empty (one-in world (Reference r) r_in)
      (All-cons (IsGivenIn world) (given.Reference r) [] r_in (All-nil (IsGivenIn world))) in_frames
      in_below
      is

  pub begins_found-in : (found : Target) (class : ℕ) (r : Value) (frames below : List (Frame Value N))
      (empty : Stepped Value N Value) → IsReferenceIn world r → FramesIn frames → FramesIn below →
      InTurn empty →
      InTurn (begins_found x found class r frames below empty)
  begins_found-in (target.Method m) class r frames below empty r_in in_frames in_below is =
      begins_with-in m r frames below empty r_in in_frames in_below is
  begins_found-in (target.Fails kind) class r frames below empty r_in in_frames in_below is =
      asks_so-in _ frames tt in_frames

  pub native_does-in : (step : NativeStep Value N) (from : At) (below : List (Frame Value N))
      (gives : Given Value → Stepped Value N Value) → IsStepIn set is_in world step → FramesIn below →
      ((v : Given Value) → IsGivenIn world v → InTurn (gives v)) →
      InTurn (native_does x step from below gives)
  native_does-in (Asks state) from below gives is in_frames then_in =
      goes_on-in Runs _ tt (native-in from state below is in_frames)
  native_does-in (Calls state called class receiver) from below gives is in_frames then_in =
      let in_native = native-in from state below is.0 in_frames in
      begins_found-in (dispatched p class (signature_of x called)) class receiver _ _ _ is.1 in_native
      in_native
      (asks_so-in _ _ tt in_native)
  native_does-in (Gives value) from below gives is in_frames then_in = then_in value is

  result-is : (value : Given Value) → IsResult (reply_of x value)
  result-is given.Nothing = tt
  result-is (given.Int v) = tt
  result-is (given.Long v) = tt
  result-is (given.Reference r) = tt

  result-below : (value : Given Value) → IsGivenIn world value →
      NamesBelow (length world.heap.objects) (reply_of x value)
  result-below given.Nothing is = tt
  result-below (given.Int v) is = tt
  result-below (given.Long v) is = tt
  result-below (given.Reference r) is = below-in world r is

  pub tail-in : (frame : Frame Value N) (below : List (Frame Value N)) → FramesIn (frame ∷ below) →
      FramesIn below
  tail-in (Running m at own held) below is =
      record { all = All-tail InFrame (Running m at own held) below is.all; once = is.once }
  tail-in (Native from state) below is =
      record { all = All-tail InFrame (Native from state) below is.all; once = is.once }
  tail-in (Main m arguments) below is =
      record { all = All-tail InFrame (Main m arguments) below is.all; once = is.once }
  tail-in (Initialiser class from) below is =
      record {
        all = All-tail InFrame (Initialiser class from) below is.all;
        once =
            pairs-tail (λ m n. m ≢ n) class (initialised_by below) is.once;
      }

  pub none-in : FramesIn []
  none-in = record { all = All-nil InFrame; once = no-pairs (λ m n. m ≢ n) }

  pub returns_to-in : (value : Given Value) (frames : List (Frame Value N)) → IsGivenIn world value →
      FramesIn frames → InTurn (returns_to x value frames)
  returns_to-in value [] is in_frames = goes_on-in (Ends None) [] tt none-in
  returns_to-in value (Running m at own held ∷ below) is in_frames =
      let head = All-head InFrame (Running m at own held) below in_frames.all in
      after-in m at held below _ (put-in world 0 (cells_of value) Next own (cells_of-in world value is)
      head.0)
      head.1 (tail-in (Running m at own held) below in_frames)
  returns_to-in value (Native from state ∷ below) is in_frames =
      let head = All-head InFrame (Native from state) below in_frames.all in
      let rest = tail-in (Native from state) below in_frames in
      native_does-in (natives.next state (reply_of x value)) from below _
      (keeps.returned world state (reply_of x value) head (result-is value) (result-below value is)) rest
      (λ v v_in. returns_to-in v below v_in rest)
  returns_to-in value (Initialiser class from ∷ below) is in_frames = goes_on-in Initialised _ tt in_frames
  returns_to-in value (Main m arguments ∷ below) is in_frames = goes_on-in (Ends None) [] tt none-in

  calls_with-in : (found : Option (List (Given Value))) (n m at : ℕ) (own : Own Value)
      (held : Option (Key Value)) (below : List (Frame Value N)) → AreGiven world found →
      IsOwnIn world own → IsHeldIn set is_in world held → FramesIn below →
      InTurn (calls_with x found n m at own held below)
  calls_with-in None n m at own held below givens own_in held_in in_frames =
      asks_so-in _ _ tt (running-in m at own held below own_in held_in in_frames)
  calls_with-in (Some arguments) n m at own held below givens own_in held_in in_frames =
      let taken = cells_taken (method_at p n).parameters in
      let caller_in = running-in m at (record own { stack = drop taken own.stack }) held below
      (record {
        locals = own_in.locals;
        stack =
            All-drop (IsCellIn world) taken own.stack own_in.stack;
      }) held_in in_frames in
      begins-in n (take taken own.stack) arguments _ _ _
      (All-take (IsCellIn world) taken own.stack own_in.stack) givens
      (running-in m at own held below own_in held_in in_frames) caller_in
      (returns_to-in given.Nothing _ tt caller_in)

  pub calls-in : (n m at : ℕ) (own : Own Value) (held : Option (Key Value)) (below : List (Frame Value N)) →
      IsOwnIn world own → IsHeldIn set is_in world held → FramesIn below →
      InTurn (calls x n m at own held below)
  calls-in n m at own held below own_in held_in in_frames =
      calls_with-in (arguments_on (method_at p n).parameters own.stack []) n m at own held below
      (arguments-in world (method_at p n).parameters own.stack [] own_in.stack (All-nil (IsGivenIn world)))
      own_in held_in in_frames
