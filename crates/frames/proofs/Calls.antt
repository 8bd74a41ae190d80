-- A change of references commutes with calls, returns, initialisers and throwables.
use Rattle.std.proofs.Common.{◌≡◌, ℕ, zero, suc, ℤ, ◌+◌, ◌-◌, nat_le, Bool, true, false, List, [], ◌∷◌, ◌++◌, length, take}
use Rattle.std.proofs.Common.{drop, reverse, replicate, map, sum, slice_get, pos, Option, Some, None, refl, ap, sym, ◌∙◌}
use Rattle.std.proofs.Common.{if◌then◌else◌}
use Rattle.std.proofs.lemmas.List.{take-map, drop-map, map-append, length-map}
use Rattle.std.proofs.lemmas.Option.{slice_get-map}
use Rattle.std.proofs.lemmas.Grind.{reverse_onto}
use Rattle.std.specs.Option.{option_map}
use Rattle.run_types.specs.declared.resolved.At.{At}
use Rattle.run_types.specs.declared.key.Key.{Key}
use Rattle.run_types.specs.declared.key.Key.TheVariants as key
use Rattle.run_types.specs.declared.fault.StepFault.TheVariants as fault
use Rattle.run_types.specs.declared.fault.Which.TheVariants.{FrameSlots}
use Rattle.natives.specs.declared.requests.Reply.TheVariants as reply
use Rattle.code_form.specs.declared.ins.Sort.{Sort}
use Rattle.code_form.specs.declared.ins.Sort.TheVariants as sort
use Rattle.frame_cells.specs.declared.cell.Cell.{Cell}
use Rattle.frame_cells.specs.declared.cell.Cell.TheVariants.{Empty, Int, Long, Half, Reference}
use Rattle.frame_cells.specs.declared.cell.Did.{Did}
use Rattle.frame_cells.specs.declared.cell.Did.TheVariants.{Next, Jump, DividedByZero, Bad}
use Rattle.frame_cells.specs.Own.{Own, After, int_at, long_at, reference_at, put}
use Rattle.frames.specs.declared.given.Given.{Given}
use Rattle.frames.specs.declared.given.Given.TheVariants as given
use Rattle.frames.specs.declared.program.Body.{Body}
use Rattle.frames.specs.declared.program.Body.TheVariants as body
use Rattle.frames.specs.declared.program.Method.{Method}
use Rattle.frames.specs.declared.program.Program.{Program}
use Rattle.frames.specs.declared.program.Target.{Target}
use Rattle.frames.specs.declared.program.Target.TheVariants as target
use Rattle.frames.specs.Tables.{Caught, Passed, Goes, Fails, method_at, class_at, start_of, dispatched, first_initialised}
use Rattle.frames.specs.Tables.{caught_by}
use Rattle.frames.specs.Settings.{Frame, Running, Native, Initialiser, Main, Runs, Enters, NativeStep, Asks, Calls, Gives}
use Rattle.frames.specs.Settings.{Setting, slots_of, slots_left}
use Rattle.frames.specs.Calls.{Stepped, arguments_on, cells_taken, cells_of, given_of, result_of, object_in, monitor_of}
use Rattle.frames.specs.Calls.{first_own, value_of, reply_of, done_so, after, if_room, begins_code, begins_body, begins}
use Rattle.frames.specs.Calls.{begins_with, begins_found, signature_of, native_does, returns_to, calls_with, calls, runs_method}
use Rattle.frames.specs.Calls.{runs_initialiser, initialises_first, begins_initialiser, initialises, resumes, returns_held}
use Rattle.frames.specs.Calls.{returns, leaves_method, caught, throws, breaks, goes_on}
use Rattle.frames.specs.Maps.{map_cell, map_own, map_after, map_held, map_given, map_doing, map_frame, map_native, map_reply}
use Rattle.frames.specs.Maps.{map_stepped, Keeps}
use Rattle.frames.proofs.Cells.{int-map, reference-map, long-map, put-map}
use Rattle.frames.proofs.Moved.{moved}

map-reverse : {X Y : Type 0} (f : X → Y) → (xs : List X) → map f (reverse xs) ≡ reverse (map f xs)
map-reverse f [] = refl
map-reverse f (x ∷ xs) = ap (map f) (reverse_onto xs x []) ∙ map-append f (reverse xs) (x ∷ []) ∙
    ap (λ ys. ys ++ (f x ∷ [])) (map-reverse f xs) ∙ sym (reverse_onto (map f xs) (f x) [])

map-replicate : {X Y : Type 0} (f : X → Y) → (n : ℕ) (x : X) → map f (replicate n x) ≡ replicate n (f x)
map-replicate f zero x = refl
map-replicate f (suc n) x = ap (λ ys. f x ∷ ys) (map-replicate f n x)

-- the cells of arguments and results
module _ {R S : Type 0} (f : R → S) where
  pub arguments-map : (sorts : List Sort) (cells : List (Cell R)) (later : List (Given R)) →
      arguments_on sorts (map (map_cell f) cells) (map (map_given f) later)
      ≡ option_map (map (map_given f)) (arguments_on sorts cells later)
  arguments-map [] cells later = refl
  arguments-map (sort.Int ∷ sorts) (Int v ∷ cells) later = arguments-map sorts cells (given.Int v ∷ later)
  arguments-map (sort.Long ∷ sorts) (Half ∷ Long v ∷ cells) later =
      arguments-map sorts cells (given.Long v ∷ later)
  arguments-map (sort.Reference ∷ sorts) (Reference r ∷ cells) later =
      arguments-map sorts cells (given.Reference r ∷ later)
  arguments-map sorts cells later = refl

  cells_of-map : (value : Given R) → cells_of (map_given f value) ≡ map (map_cell f) (cells_of value)
  cells_of-map given.Nothing = refl
  cells_of-map (given.Int v) = refl
  cells_of-map (given.Long v) = refl
  cells_of-map (given.Reference r) = refl

  given_of-number : (x : Option ℤ) (make : ℤ → Given R) (make' : ℤ → Given S) →
      ((v : ℤ) → make' v ≡ map_given f (make v)) → given_of x make' ≡
      option_map (map_given f) (given_of x make)
  given_of-number None make make' e = refl
  given_of-number (Some v) make make' e = ap (λ x. Some x) (e v)

  given_of-reference : (x : Option R) →
      given_of (option_map f x) given.Reference ≡ option_map (map_given f) (given_of x given.Reference)
  given_of-reference None = refl
  given_of-reference (Some r) = refl

  pub result_of-map : (s : Option Sort) (own : Own R) →
      result_of s (map_own f own) ≡ option_map (map_given f) (result_of s own)
  result_of-map None own = refl
  result_of-map (Some sort.Int) own =
      rw (int-map f own.stack 0) (given_of-number (int_at 0 own) _ _ (λ v. refl))
  result_of-map (Some sort.Long) own =
      rw (long-map f own.stack 1 0) (given_of-number (long_at 0 own) _ _ (λ v. refl))
  result_of-map (Some sort.Reference) own =
      rw (reference-map f own.stack 0) (given_of-reference (reference_at 0 own))

  object-map : (c : Option (Cell R)) → object_in (option_map (map_cell f) c) ≡ map_held f (object_in c)
  object-map None = refl
  object-map (Some Empty) = refl
  object-map (Some (Int i)) = refl
  object-map (Some (Long i)) = refl
  object-map (Some Half) = refl
  object-map (Some (Reference r)) = refl

  monitor-cases : (synchronized static : Bool) (class : ℕ) (x : Option (Key R)) (y : Option (Key S)) → y ≡
      map_held f x →
      (if synchronized then (if static then Some (key.Class class) else y) else None)
      ≡ map_held f (if synchronized then (if static then Some (key.Class class) else x) else None)
  monitor-cases true true class x y e = refl
  monitor-cases true false class x y e = e
  monitor-cases false static class x y e = refl

  monitor-map : {M : Type 0} → (method : Method M) (own : Own R) →
      monitor_of method (map_own f own) ≡ map_held f (monitor_of method own)
  monitor-map method own =
      monitor-cases method.is_synchronized method.is_static method.class
      (object_in (slice_get own.locals 0))
      _
      (ap object_in (slice_get-map (map_cell f) own.locals 0) ∙ object-map (slice_get own.locals 0))

  first_own-map : {M : Type 0} → (method : Method M) (cells : List (Cell R)) →
      first_own method (map (map_cell f) cells) ≡ map_own f (first_own method cells)
  first_own-map method cells = simp (length-map, map-append, map-reverse, map-replicate)

-- frames and what they come to
module _ {R S N O V W : Type 0} (f : R → S) (g : N → O) (h : V → W) where
  pub if-map : (c : Bool) (x y : Stepped R N V) (x' y' : Stepped S O W) → x' ≡ map_stepped f g h x → y' ≡
      map_stepped f g h y →
      (if c then x' else y') ≡ map_stepped f g h (if c then x else y)
  if-map true x y x' y' e e' = e
  if-map false x y x' y' e e' = e'

  doing-if : (c : Bool) → (if c then Enters else Runs) ≡ map_doing f (if c then Enters else Runs)
  doing-if true = refl
  doing-if false = refl

module _ {M R S N O V W : Type 0} (f : R → S) (g : N → O) (h : V → W) where
  slots-map : (p : Program M) (frame : Frame R N) → slots_of p (map_frame f g frame) ≡ slots_of p frame
  slots-map p (Running m at own held) = refl
  slots-map p (Native from state) = refl
  slots-map p (Initialiser class from) = refl
  slots-map p (Main m arguments) = refl

  all_slots-map : (p : Program M) (frames : List (Frame R N)) →
      map (slots_of p) (map (map_frame f g) frames) ≡ map (slots_of p) frames
  all_slots-map p [] = refl
  all_slots-map p (frame ∷ frames) = λ i. slots-map p frame i ∷ all_slots-map p frames i

  module _ (a : Setting M R N V) (b : Setting M S O W) where
    pub done_so-map : (m at : ℕ) (held : Option (Key R)) (below : List (Frame R N)) (own : Own R)
        (did : Did)
        →
        done_so (moved a b) m at (map_held f held) (map (map_frame f g) below) (map_own f own) did
        ≡ map_stepped f g h (done_so a m at held below own did)
    done_so-map m at held below own Next = refl
    done_so-map m at held below own (Jump to) = refl
    done_so-map m at held below own DividedByZero = refl
    done_so-map m at held below own Bad = refl

    pub after-map : (m at : ℕ) (held : Option (Key R)) (below : List (Frame R N)) (x : After R)
        (y : After S)
        → y ≡ map_after f x →
        after (moved a b) m at (map_held f held) (map (map_frame f g) below) y ≡
        map_stepped f g h (after a m at held below x)
    after-map m at held below x y e =
        ap (after (moved a b) m at (map_held f held) (map (map_frame f g) below)) e ∙
        done_so-map m at held below x.own x.did

    pub put-after : (n : ℕ) (cells : List (Cell R)) (did : Did) (m at : ℕ) (own : Own R)
        (held : Option (Key R)) (below : List (Frame R N)) →
        after (moved a b) m at (map_held f held) (map (map_frame f g) below)
        (put n (map (map_cell f) cells) did (map_own f own))
        ≡ map_stepped f g h (after a m at held below (put n cells did own))
    put-after n cells did m at own held below =
        after-map m at held below (put n cells did own) _ (put-map f n cells did own)

    room-cases : (need : ℕ) (frames : List (Frame R N)) (left : ℕ) → left ≡ slots_left a.program frames →
        (x : Stepped R N V) (y : Stepped S O W) → y ≡ map_stepped f g h x →
        (if nat_le need left then y else breaks
        (fault.Full (record { which = FrameSlots; need = need; left = left }))
        (map (map_frame f g) frames))
        ≡ map_stepped f g h (if_room a need frames x)
    room-cases need frames left e x y q =
        rw e (if-map f g h (nat_le need (slots_left a.program frames)) _ _ _ _ q refl)

    pub if_room-map : (need : ℕ) (frames : List (Frame R N)) (x : Stepped R N V) (y : Stepped S O W) → y ≡
        map_stepped f g h x →
        if_room (moved a b) need (map (map_frame f g) frames) y ≡
        map_stepped f g h (if_room a need frames x)
    if_room-map need frames x y q =
        room-cases need frames (slots_left a.program (map (map_frame f g) frames))
        (ap (λ slots. 65536 - sum slots) (all_slots-map a.program frames)) x y q

    module _ (k : Keeps f g h a b) where
      value_of-map : (value : Given R) → value_of (moved a b) (map_given f value) ≡ h (value_of a value)
      value_of-map given.Nothing = k.int (pos 0)
      value_of-map (given.Int v) = k.int v
      value_of-map (given.Long v) = k.long v
      value_of-map (given.Reference r) = k.reference r

      values-map : (values : List (Given R)) →
          map (value_of (moved a b)) (map (map_given f) values) ≡ map h (map (value_of a) values)
      values-map [] = refl
      values-map (v ∷ values) = ap (λ w. w ∷
          map (value_of (moved a b)) (map (map_given f) values)) (value_of-map v) ∙
          ap (λ ws. h (value_of a v) ∷ ws) (values-map values)

      reply_of-map : (value : Given R) → reply_of (moved a b) (map_given f value) ≡
          map_reply f h (reply_of a value)
      reply_of-map given.Nothing = refl
      reply_of-map (given.Int v) = ap (λ w. reply.Item w) (k.int v)
      reply_of-map (given.Long v) = ap (λ w. reply.Item w) (k.long v)
      reply_of-map (given.Reference r) = ap (λ w. reply.Item w) (k.reference r)

      module _ (m : ℕ) (cells : List (Cell R)) (arguments : List (Given R))
          (frames below : List (Frame R N))
          (empty : Stepped R N V) (empty' : Stepped S O W) (e : empty' ≡ map_stepped f g h empty) where
        code-cases : (entry : ℕ) (method : Method M) (own : Own R) (own' : Own S) → own' ≡ map_own f own →
            begins_code (moved a b) m (map (map_cell f) cells) (map (map_given f) arguments)
            (map (map_frame f g) frames) (map (map_frame f g) below) empty' entry method own'
            ≡ map_stepped f g h (begins_code a m cells arguments frames below empty entry method own)
        code-cases entry method own own' q =
            rw q (rw (length-map cells (map_cell f)) (rw (monitor-map f method own)
            (if-map f g h (nat_le (length cells) method.max_locals) _ _ _ _
            (if_room-map (4 + method.max_locals + method.max_stack) frames _ _
            (ap (λ d. goes_on d (Running m entry (map_own f own) (map_held f (monitor_of method own)) ∷
            map (map_frame f g) below)) (doing-if f g h method.is_synchronized)))
            refl)))

        body-map : (bd : Body M) →
            begins_body (moved a b) m (map (map_cell f) cells) (map (map_given f) arguments)
            (map (map_frame f g) frames) (map (map_frame f g) below) empty' bd
            ≡ map_stepped f g h (begins_body a m cells arguments frames below empty bd)
        body-map (body.Code entry) = code-cases entry (method_at a.program m)
            (first_own (method_at a.program m) cells) _ (first_own-map f (method_at a.program m) cells)
        body-map (body.Native n) = if_room-map 16 frames _ _
            (ap (λ state. goes_on Runs (Native (start_of a.program m) state ∷ map (map_frame f g) below))
            (ap (b.start n (start_of a.program m)) (values-map arguments) ∙
            k.start n (start_of a.program m) (map (value_of a) arguments)))
        body-map body.Empty = if_room-map 16 frames _ _ e

        pub begins-map :
            begins (moved a b) m (map (map_cell f) cells) (map (map_given f) arguments)
            (map (map_frame f g) frames) (map (map_frame f g) below) empty'
            ≡ map_stepped f g h (begins a m cells arguments frames below empty)
        begins-map = body-map (method_at a.program m).body

      pub begins_with-map : (m : ℕ) (r : R) (frames below : List (Frame R N)) (empty : Stepped R N V)
          (empty' : Stepped S O W) → empty' ≡ map_stepped f g h empty →
          begins_with (moved a b) m (f r) (map (map_frame f g) frames) (map (map_frame f g) below) empty'
          ≡ map_stepped f g h (begins_with a m r frames below empty)
      begins_with-map m r frames below empty empty' e =
          begins-map m (Reference r ∷ []) (given.Reference r ∷ []) frames below empty empty' e

      pub begins_found-map : (t : Target) (class : ℕ) (r : R) (frames below : List (Frame R N))
          (empty : Stepped R N V) (empty' : Stepped S O W) → empty' ≡ map_stepped f g h empty →
          begins_found (moved a b) t class (f r) (map (map_frame f g) frames) (map (map_frame f g) below)
          empty'
          ≡ map_stepped f g h (begins_found a t class r frames below empty)
      begins_found-map (target.Method m) class r frames below empty empty' e =
          begins_with-map m r frames below empty empty' e
      begins_found-map (target.Fails kind) class r frames below empty empty' e = refl

      pub native_does-map : (step : NativeStep R N) (from : At) (below : List (Frame R N))
          (gives : Given R →
          Stepped R N V) (gives' : Given S → Stepped S O W) →
          ((v : Given R) → gives' (map_given f v) ≡ map_stepped f g h (gives v)) →
          native_does (moved a b) (map_native f g step) from (map (map_frame f g) below) gives'
          ≡ map_stepped f g h (native_does a step from below gives)
      native_does-map (Asks state) from below gives gives' e = refl
      native_does-map (Calls state called class receiver) from below gives gives' e =
          begins_found-map (dispatched a.program class (signature_of a called)) class receiver
          (Native from state ∷ below) (Native from state ∷ below) _ _ refl
      native_does-map (Gives value) from below gives gives' e = e value

      pub returns_to-map : (value : Given R) (frames : List (Frame R N)) →
          returns_to (moved a b) (map_given f value) (map (map_frame f g) frames) ≡
          map_stepped f g h (returns_to a value frames)
      returns_to-map value [] = refl
      returns_to-map value (Running m at own held ∷ below) =
          ap (λ cells. after (moved a b) m at (map_held f held) (map (map_frame f g) below)
          (put 0 cells Next (map_own f own))) (cells_of-map f value) ∙
          put-after 0 (cells_of value) Next m at own held below
      returns_to-map value (Native from state ∷ below) =
          ap (λ step. native_does (moved a b) step from (map (map_frame f g) below)
          (λ v. returns_to (moved a b) v (map (map_frame f g) below)))
          (ap (b.next (g state)) (reply_of-map value) ∙ k.next state (reply_of a value)) ∙
          native_does-map (a.next state (reply_of a value)) from below _ _ (λ v. returns_to-map v below)
      returns_to-map value (Initialiser class from ∷ below) = refl
      returns_to-map value (Main m arguments ∷ below) = refl

      calls_with-map : (x : Option (List (Given R))) (n m at : ℕ) (own : Own R) (held : Option (Key R))
          (below : List (Frame R N)) →
          calls_with (moved a b) (option_map (map (map_given f)) x) n m at (map_own f own) (map_held f held)
          (map (map_frame f g) below)
          ≡ map_stepped f g h (calls_with a x n m at own held below)
      calls_with-map None n m at own held below = refl
      calls_with-map (Some arguments) n m at own held below =
          let taken = cells_taken (method_at a.program n).parameters in
          let caller : Frame R N = Running m at (record own { stack = drop taken own.stack }) held in
          simp (take-map, drop-map) (begins-map n (take taken own.stack) arguments (Running m at own held ∷
          below) (caller ∷ below)
          (returns_to a given.Nothing (caller ∷ below)) _ (returns_to-map given.Nothing (caller ∷ below)))

      pub calls-map : (n m at : ℕ) (own : Own R) (held : Option (Key R)) (below : List (Frame R N)) →
          calls (moved a b) n m at (map_own f own) (map_held f held) (map (map_frame f g) below)
          ≡ map_stepped f g h (calls a n m at own held below)
      calls-map n m at own held below = rw (arguments-map f (method_at a.program n).parameters own.stack [])
          (calls_with-map (arguments_on (method_at a.program n).parameters own.stack []) n m at own held
          below)

      runs_method-map : (x : Option ℕ) (frames : List (Frame R N)) →
          runs_method (moved a b) x (map (map_frame f g) frames) ≡
          map_stepped f g h (runs_method a x frames)
      runs_method-map None frames = refl
      runs_method-map (Some m) frames =
          begins-map m [] [] frames frames _ _ (returns_to-map given.Nothing frames)

      pub runs_initialiser-map : (class : ℕ) (frames : List (Frame R N)) →
          runs_initialiser (moved a b) class (map (map_frame f g) frames) ≡
          map_stepped f g h (runs_initialiser a class frames)
      runs_initialiser-map class frames = runs_method-map (class_at a.program class).initialiser frames

      first-map : (x : Option ℕ) (class : ℕ) (frames : List (Frame R N)) →
          initialises_first (moved a b) x class (map (map_frame f g) frames) ≡
          map_stepped f g h (initialises_first a x class frames)
      first-map None class frames = runs_initialiser-map class frames
      first-map (Some super) class frames = refl

      begins_initialiser-map : (class : ℕ) (frames : List (Frame R N)) →
          begins_initialiser (moved a b) class (map (map_frame f g) frames) ≡
          map_stepped f g h (begins_initialiser a class frames)
      begins_initialiser-map class frames = first-map (first_initialised a.program class) class frames

      pub initialises-map : (class : ℕ) (from : At) (frames : List (Frame R N)) →
          initialises (moved a b) class from (map (map_frame f g) frames) ≡
          map_stepped f g h (initialises a class from frames)
      initialises-map class from frames =
          if_room-map 16 frames _ _ (begins_initialiser-map class (Initialiser class from ∷ frames))

      pub resumes-map : (frames : List (Frame R N)) → resumes (moved a b) (map (map_frame f g) frames) ≡
          map_stepped f g h (resumes a frames)
      resumes-map [] = refl
      resumes-map (Running m at own held ∷ below) = refl
      resumes-map (Native from state ∷ below) = refl
      resumes-map (Initialiser class from ∷ below) =
          begins_initialiser-map class (Initialiser class from ∷ below)
      resumes-map (Main m arguments ∷ below) =
          begins_with-map m arguments (Main m arguments ∷ below) [] _ _ refl

      held-map : (held : Option (Key R)) (m at : ℕ) (own : Own R) (value : Given R)
          (below : List (Frame R N))
          →
          returns_held (moved a b) (map_held f held) m at (map_own f own) (map_given f value)
          (map (map_frame f g) below)
          ≡ map_stepped f g h (returns_held a held m at own value below)
      held-map None m at own value below = returns_to-map value below
      held-map (Some monitor) m at own value below = refl

      pub returns-map : (x : Option (Given R)) (m at : ℕ) (own : Own R) (held : Option (Key R))
          (below : List (Frame R N)) →
          returns (moved a b) (option_map (map_given f) x) m at (map_own f own) (map_held f held)
          (map (map_frame f g) below)
          ≡ map_stepped f g h (returns a x m at own held below)
      returns-map None m at own held below = refl
      returns-map (Some value) m at own held below = held-map held m at own value below

      leaves-map : (held : Option (Key R)) (r : R) (class m at : ℕ) (own : Own R) (below : List (Frame R N))
          (x : Stepped R N V) (y : Stepped S O W) → y ≡ map_stepped f g h x →
          leaves_method (moved a b) (map_held f held) (f r) class m at (map_own f own)
          (map (map_frame f g) below) y
          ≡ map_stepped f g h (leaves_method a held r class m at own below x)
      leaves-map None r class m at own below x y e = e
      leaves-map (Some monitor) r class m at own below x y e = refl

      caught-map : (c : Caught) (r : R) (class m at : ℕ) (own : Own R) (held : Option (Key R))
          (below : List (Frame R N)) (x : Stepped R N V) (y : Stepped S O W) → y ≡ map_stepped f g h x →
          caught (moved a b) c (f r) class m at (map_own f own) (map_held f held)
          (map (map_frame f g) below)
          y
          ≡ map_stepped f g h (caught a c r class m at own held below x)
      caught-map Passed r class m at own held below x y e = leaves-map held r class m at own below x y e
      caught-map (Goes to) r class m at own held below x y e =
          ap (λ n. after (moved a b) m at (map_held f held) (map (map_frame f g) below)
          (put n (Reference (f r) ∷ []) (Jump to) (map_own f own))) (length-map own.stack (map_cell f)) ∙
          put-after (length own.stack) (Reference r ∷ []) (Jump to) m at own held below
      caught-map (Fails link) r class m at own held below x y e = refl

      pub throws-map : (r : R) (class : ℕ) (frames : List (Frame R N)) →
          throws (moved a b) (f r) class (map (map_frame f g) frames) ≡
          map_stepped f g h (throws a r class frames)
      throws-map r class [] = refl
      throws-map r class (Running m at own held ∷ below) =
          caught-map (caught_by a.program (method_at a.program m).handlers at class) r class m at own held
          below _ _ (throws-map r class below)
      throws-map r class (Native from state ∷ below) = throws-map r class below
      throws-map r class (Initialiser c from ∷ below) = refl
      throws-map r class (Main m arguments ∷ below) = refl
