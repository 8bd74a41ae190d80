-- What the steps of requests do that aren't stores, and neither begin nor end a region: they start no thread,
-- and make objects of listed classes alone.
use Rattle.std.proofs.Common.{◌≡◌, inl, inr, ℕ, ◌+◌, ◌-◌, ◌<◌, pos, negsuc, ◌&&◌, ◌||◌, Bool, true, false, not, List, length}
use Rattle.std.proofs.Common.{◌⊎◌, ℤ, if◌then◌else◌}
use Rattle.std.proofs.Common.{take, nat_eq, nat_lt, nat_le, Option, Some, None, refl, sym, ◌∙◌, ap, subst, arith}
use Rattle.std.proofs.Common.{lit<}
use Rattle.std.specs.Prelude.{slice_get, slice_index_or, IsSome}
use Rattle.std.proofs.lemmas.Bool.{cases_lt}
use Rattle.ap_base.specs.declared.kind.Kind.{Kind}
use Rattle.ap_base.specs.declared.place.Place.{Place}
use Rattle.ap_base.specs.declared.place.Place.TheVariants.{Slot}
use Rattle.ap_base.specs.declared.reference.Ref.{Ref}
use Rattle.ap_base.specs.declared.reference.Item.{Item}
use Rattle.run_types.specs.declared.key.Key.TheVariants as key
use Rattle.run_types.specs.declared.fault.StepFault.{StepFault}
use Rattle.run_types.specs.declared.fault.StepFault.TheVariants as fault
use Rattle.run_types.specs.declared.fault.Which.{Which}
use Rattle.run_types.specs.declared.fault.Which.TheVariants as which
use Rattle.run_types.specs.declared.fault.Full.{Full}
use Rattle.graph_model.specs.declared.types.Value.{Value}
use Rattle.graph_model.specs.declared.types.Value.TheVariants.{Int, Long, Null, Obj as Object}
use Rattle.graph_model.specs.declared.types.Root.{Root}
use Rattle.natives.specs.declared.requests.Request.{Request}
use Rattle.natives.specs.declared.requests.Request.TheVariants as ask
use Rattle.natives.specs.declared.requests.Reply.TheVariants as reply
use Rattle.run_history.specs.declared.act.Op.{Op}
use Rattle.run_history.specs.declared.act.Op.TheVariants as op
use Rattle.run_history.specs.declared.act.PlainKey.{PlainKey}
use Rattle.run_history.specs.declared.plain.Monitor.{Monitor}
use Rattle.run_history.specs.declared.plain.Progress.{Progress}
use Rattle.run_history.specs.declared.plain.Progress.TheVariants.{Untouched, BegunBy, Finished}
use Rattle.run_history.specs.Worlds.{Thread, World, depth_of}
use Rattle.plain_model.specs.declared.throws.Throws.{Throws}
use Rattle.plain_model.specs.declared.throws.Throws.TheVariants.{NegativeArraySize, NullPointer, ArrayIndexOutOfBounds}
use Rattle.plain_model.specs.declared.throws.Throws.TheVariants.{StringIndexOutOfBounds, ArrayStore, ClassCast}
use Rattle.plain_model.specs.declared.throws.Throws.TheVariants.{IllegalMonitorState, IllegalThreadState, IllegalState}
use Rattle.plain_model.specs.declared.throws.Throws.TheVariants.{Arithmetic}
use Rattle.plain_model.specs.BuiltIn.{built_in_classes, chars_array}
use Rattle.plain_model.specs.Classes.{ClassFacts, is_made, no_class}
use Rattle.plain_model.specs.Facts.{SetFacts, built_in_number, class_at, class_count, string_number, thrown_class}
use Rattle.plain_model.specs.Steps
use Rattle.plain_model.specs.Steps.{Step, Does, Waits, WrongOperand, IsOver, step}
use Rattle.plain_model.specs.Requests.{PlainReply, PlainRequest}
use Rattle.plain_model.specs.Duties.{IsClass, IsFit}
use Rattle.plain_model.specs.Codes.{taken_by}
use Rattle.plain_model.proofs.Consistent.{array_of_place, class_of_place, counted}
use Rattle.shared_objects.specs.declared.rest.Rest.{Rest}
use Rattle.shared_objects.specs.Shown.{Numbers, Shown, ref_value}
use Rattle.shared_objects.specs.Plain.{plain_request, plain_reply}
use Rattle.shared_objects.specs.Worlds.{world_of}
use Rattle.step_forms.specs.declared.stepped.Stepped.{Stepped}
use Rattle.step_forms.specs.declared.stepped.Stepped.TheVariants as stepped
use Rattle.step_forms.specs.Becomes.{IsNoStore, given}
use Rattle.step_forms.specs.Follows.{IsFullOf, IsLimit, IsStep, stored_as}
use Rattle.machine.specs.Ended.{IsOutside}
use Rattle.machine.specs.Running.{asked_class}
use Rattle.machine.specs.Events.{IsBroken, StartsNone}
use Rattle.machine.proofs.Basics.{no-some}
use Rattle.plain_model.specs.Limits.{most_threads}

-- ---- classes of which objects are made

-- Objects may be made of what requests throw, of Strings, and of what `new` makes.
pub record MayMake (set : SetFacts) (Made : ℕ → Type 0) : Type 0 where
  pub thrown : (w : Throws) → Made (thrown_class set w)
  pub text : Made (string_number set)
  pub new : (class : ℕ) → IsClass set class → is_made (class_at set class) ≡ true → Made class

module _ (set : SetFacts) where
  -- a class, and no interface
  abbrev IsPlain : ℕ → Type 0
  IsPlain n = (n < class_count set) × ((class_at set n).is_interface ≡ false)

  place-plain : (k : ℕ) → k < 28
      → (slice_index_or (built_in_classes (length set.program)) k no_class).is_interface ≡ false
      → IsPlain (built_in_number set k)
  place-plain k below is =
      (omega (arith, below), ap (λ (c : ClassFacts). c.is_interface) (class_of_place set k below) ∙ is)

  thrown-plain : (w : Throws) → IsPlain (thrown_class set w)
  thrown-plain NegativeArraySize = place-plain 16 (lit< tt) refl
  thrown-plain NullPointer = place-plain 17 (lit< tt) refl
  thrown-plain ArrayIndexOutOfBounds = place-plain 4 (lit< tt) refl
  thrown-plain StringIndexOutOfBounds = place-plain 23 (lit< tt) refl
  thrown-plain ArrayStore = place-plain 5 (lit< tt) refl
  thrown-plain ClassCast = place-plain 6 (lit< tt) refl
  thrown-plain IllegalMonitorState = place-plain 11 (lit< tt) refl
  thrown-plain IllegalThreadState = place-plain 13 (lit< tt) refl
  thrown-plain IllegalState = place-plain 12 (lit< tt) refl
  thrown-plain Arithmetic = place-plain 3 (lit< tt) refl

  no-interface : (c : ClassFacts) → is_made c ≡ true → c.is_interface ≡ false
  no-interface c is = by c.is_interface c.is_abstract is
    where
      by : (i a : Bool) → not (i || a) ≡ true → i ≡ false
      by true a e = absurd (let no = e in cc)
      by false a e = refl

  no-array : (j : ℕ) → j < length set.arrays → is_made (class_at set (class_count set + j)) ≡ true → ⊥
  no-array j below is =
      let own : is_made (class_at set (class_count set + j)) ≡ false
      = ap is_made (array_of_place set j chars_array below) in
      let no : true ≡ false = sym is ∙ own in cc

  new-plain : (class : ℕ) → IsClass set class → is_made (class_at set class) ≡ true → IsPlain class
  new-plain class there is = (
    elim (cases_lt class (class_count set)) [
      | inl below ↦ below
      | inr past ↦ (let all = counted set in
          let at : class_count set + (class - class_count set) ≡ class = omega (arith, past) in
          absurd (no-array (class - class_count set) (omega (arith, past, there, all))
          (subst (λ n. is_made (class_at set n) ≡ true) (sym at) is)))
    ],
    no-interface (class_at set class) is,
  )

  -- of all classes that are no interfaces
  pub may-make : (Made : ℕ → Type 0)
      → ((n : ℕ) → n < class_count set → (class_at set n).is_interface ≡ false → Made n) → MayMake set Made
  may-make Made all = record {
    thrown = λ w. (let p = thrown-plain w in all (thrown_class set w) p.0 p.1);
    text = (let p = place-plain 21 (lit< tt) refl in all (string_number set) p.0 p.1);
    new = λ class there is. (let p = new-plain class there is in all class p.0 p.1);
  }

-- ---- what a step does

-- A thread may be started where `Begun` is so.
module _ (set : SetFacts) (Made : ℕ → Type 0) (Begun : Type 0) (may : MayMake set Made) where
  abbrev pub DoesFine : Op → Type 0
  DoesFine (op.Alloc n class count) = Made class
  DoesFine (op.Throw n class) = Made class
  DoesFine (op.Start n child) = Begun
  DoesFine op.Begin = ⊥
  DoesFine op.End = ⊥
  DoesFine o = Unit {0}

  abbrev pub IsFine : Step → Type 0
  IsFine (Does o r) = DoesFine o
  IsFine s = Unit {0}

  module _ (world : World) (t : ℕ) where
    fine-if : (b : Bool) (y z : Step) → IsFine y → IsFine z → IsFine (if b then y else z)
    fine-if true y z p q = p
    fine-if false y z p q = q

    fine-object : (value : Value) (test : ℕ → Bool) (go : ℕ → Step) → ((n : ℕ) → IsFine (go n))
        → IsFine (Steps.with_object set world value test go)
    fine-object Null test go is = may.thrown NullPointer
    fine-object (Object n) test go is =
        fine-if (nat_lt n (length world.heap.objects) && test n) (go n) WrongOperand (is n) tt
    fine-object (Int i) test go is = tt
    fine-object (Long i) test go is = tt

    fine-reference : (value : Value) (null : Step) (go : ℕ → Step) → IsFine null
        → ((n : ℕ) → IsFine (go n)) → IsFine (Steps.with_reference set world value null go)
    fine-reference Null null go p is = p
    fine-reference (Object n) null go p is =
        fine-if (nat_lt n (length world.heap.objects)) (go n) WrongOperand (is n) tt
    fine-reference (Int i) null go p is = tt
    fine-reference (Long i) null go p is = tt

    fine-index : (n : ℕ) (index : ℤ) (past : Throws) (go : ℕ → Step) → ((i : ℕ) → IsFine (go i))
        → IsFine (Steps.with_index set world n index past go)
    fine-index n (pos i) past go is = fine-if _ (go i) (Steps.throws set world past) (is i) (may.thrown past)
    fine-index n (negsuc i) past go is = may.thrown past

    fine-progress : (class : ℕ) (progress : Option Progress) (go : Step) → IsFine go
        → IsFine (Steps.with_progress set world t class progress go)
    fine-progress class None go is = tt
    fine-progress class (Some Untouched) go is = tt
    fine-progress class (Some (BegunBy u)) go is = fine-if (nat_eq u t) go _ is tt
    fine-progress class (Some Finished) go is = is

    fine-class : (class : ℕ) (go : Step) → IsFine go → IsFine (Steps.with_class set world t class go)
    fine-class class go is = fine-progress class (slice_get world.classes class) go is

    fine-array : (shape : ℕ) (count : ℤ) → Made shape → IsFine (Steps.new_array set world shape count)
    fine-array shape (pos count) is = is
    fine-array shape (negsuc n) is = may.thrown NegativeArraySize

    fine-compares : (same : Option Bool) → IsFine (Steps.compares set world same)
    fine-compares None = tt
    fine-compares (Some same) = tt

    fine-enters : (k : PlainKey) (m : Option Monitor) → IsFine (Steps.enters_held set world t k m)
    fine-enters k None = tt
    fine-enters k (Some m) = fine-if (nat_eq m.owner t) _ _ tt tt

    fine-exits : (k : PlainKey) (m : Option Monitor) → IsFine (Steps.exits_held set world t k m)
    fine-exits k None = may.thrown IllegalMonitorState
    fine-exits k (Some m) = fine-if (nat_eq m.owner t) _ _ tt (may.thrown IllegalMonitorState)

    fine-starts : Begun → (n : ℕ) (thread : Option (ℕ × Thread)) → IsFine (Steps.starts_thread set world n thread)
    fine-starts begun n None = fine-if (nat_lt (length world.threads) most_threads) _ _ begun tt
    fine-starts begun n (Some started) = may.thrown IllegalThreadState

    fine-joins : (n : ℕ) (thread : Option (ℕ × Thread)) → IsFine (Steps.joins_thread set world n thread)
    fine-joins n None = tt
    fine-joins n (Some started) = fine-if started.1.ended _ _ tt tt

    fine-puts : (n : ℕ) (kind : Kind) (i : ℕ) (value : Value) → IsFine (Steps.puts_element set world n kind
        i value)
    fine-puts n kind i value =
        fine-if (Steps.may_store set world kind n value)
        (Steps.stores set world (Steps.own_kind set world kind n) (Slot n i) value)
        (Steps.throws set world ArrayStore) tt (may.thrown ArrayStore)

    fine-casts : (target n : ℕ) → IsFine (Steps.casts set world target n)
    fine-casts target n =
        fine-if (Steps.is_of set world target n) (Does (Steps.class_act set world n) reply.Done)
        (Steps.throws set world ClassCast) tt (may.thrown ClassCast)

    fine-prints : (taken : ℕ) (piece : List ℕ) → IsFine (Steps.prints set world taken piece)
    fine-prints taken piece = fine-if (nat_lt 0 taken && nat_le taken (length piece))
        (Does (op.Print (take taken piece)) (reply.Printed taken)) WrongOperand tt tt

    fine : (number : Numbers) (taken : ℕ) (q : Request Ref Item) → StartsNone q ⊎ Begun → IsOutside (depth_of world t) q
        → IsFit set world t (plain_request number q)
        → ((class : ℕ) → asked_class q ≡ Some class → Made class)
        → IsFine (step set world t taken (plain_request number q))
    unfolding step
    fine number taken ask.Pause begins outside fit asked = tt
    fine number taken (ask.Broken f) begins outside fit asked = tt
    fine number taken (ask.New from class) begins outside fit asked =
        fine-class class _ (may.new class fit.0 fit.1)
    fine number taken (ask.NewArray from shape count) begins outside fit asked =
        fine-array shape count (asked shape refl)
    fine number taken (ask.NewText from count) begins outside fit asked = fine-array _ count may.text
    fine number taken (ask.GetStatic from field) begins outside fit asked = fine-class field.class _ tt
    fine number taken (ask.PutStatic from field value) begins outside fit asked = fine-class field.class _ tt
    fine number taken (ask.GetField from holder field) begins outside fit asked = fine-object _ _ _ (λ n. tt)
    fine number taken (ask.PutField from holder field value) begins outside fit asked = fine-object _ _ _ (λ n. tt)
    fine number taken (ask.GetElement from array index kind) begins outside fit asked =
        fine-object _ _ _ (λ n. fine-index n index _ _ (λ i. tt))
    fine number taken (ask.PutElement from array index kind value) begins outside fit asked =
        fine-object _ _ _ (λ n. fine-index n index _ _ (λ i. fine-puts n kind i _))
    fine number taken (ask.Length from array) begins outside fit asked = fine-object _ _ _ (λ n. tt)
    fine number taken (ask.ClassOf from object within) begins outside fit asked = fine-object _ _ _ (λ n. tt)
    fine number taken (ask.Cast from object target) begins outside fit asked =
        fine-reference (ref_value number object) (Does (Steps.null_class set world) reply.Done)
        (Steps.casts set world target) tt (fine-casts target)
    fine number taken (ask.IsA from object target) begins outside fit asked =
        fine-reference (ref_value number object)
        (Does (Steps.null_class set world) (reply.Item (Steps.bool_value false)))
        (Steps.tests set world target) tt (λ n. tt)
    fine number taken (ask.Same from left right) begins outside fit asked = fine-compares _
    fine number taken (ask.Enter from (key.Object object)) begins outside fit asked =
        fine-object _ _ _ (λ n. fine-enters _ _)
    fine number taken (ask.Enter from (key.Class class)) begins outside fit asked = fine-enters _ _
    fine number taken (ask.Exit from (key.Object object)) begins outside fit asked =
        fine-object _ _ _ (λ n. fine-exits _ _)
    fine number taken (ask.Exit from (key.Class class)) begins outside fit asked = fine-exits _ _
    fine number taken (ask.Start from thread) begins outside fit asked =
        fine-object _ _ _ (λ n. fine-starts (elim begins [ inl none ↦ absurd none | inr begun ↦ begun ]) n _)
    fine number taken (ask.Join from thread) begins outside fit asked = fine-object _ _ _ (λ n. fine-joins n _)
    fine number taken (ask.Init from class) begins outside fit asked = fine-class class _ tt
    fine number taken (ask.InitDone from class) begins outside fit asked = tt
    fine number taken (ask.Print from piece) begins outside fit asked = fine-prints taken piece
    fine number taken (ask.Raise from class) begins outside fit asked = asked class refl
    fine number taken (ask.Begin from) begins outside fit asked = absurd outside
    fine number taken (ask.End from) begins outside fit asked =
        subst (λ depth. IsFine (Steps.ends_region set world depth)) (sym outside) (may.thrown IllegalState)
    fine number taken (ask.Leave uncaught) begins outside fit asked = tt

    -- What the step of such a request does is fine.
    pub did-fine : (number : Numbers) (taken : ℕ) (q : Request Ref Item) (o : Op) (r : PlainReply)
        → StartsNone q ⊎ Begun → IsOutside (depth_of world t) q → IsFit set world t (plain_request number q)
        → ((class : ℕ) → asked_class q ≡ Some class → Made class)
        → step set world t taken (plain_request number q) ≡ Does o r → DoesFine o
    did-fine number taken q o r begins outside fit asked does =
        subst IsFine does (fine number taken q begins outside fit asked)

-- no thread is started
abbrev pub StartsNoneBy : Op → Type 0
StartsNoneBy (op.Start n child) = ⊥
StartsNoneBy o = Unit {0}

-- a request that isn't to start a thread starts none
pub starts-none : (set : SetFacts) (world : World) (t : ℕ) (number : Numbers) (taken : ℕ) (q : Request Ref Item) (o : Op)
    (r : PlainReply) → StartsNone q → IsOutside (depth_of world t) q → IsFit set world t (plain_request number q)
    → step set world t taken (plain_request number q) ≡ Does o r → StartsNoneBy o
starts-none set world t number taken q o r none outside fit does = by o
    (did-fine set (λ n. Unit {0}) ⊥ (may-make set (λ n. Unit {0}) (λ n below is. tt)) world t number taken q o r
    (inl none) outside fit (λ class is. tt) does)
  where
    by : (p : Op) → DoesFine set (λ n. Unit {0}) ⊥ (may-make set (λ n. Unit {0}) (λ n below is. tt)) p → StartsNoneBy p
    by (op.Start n child) fine = fine
    by p fine = tt

-- ---- a request that stores does nothing else

no-full : (world : World) (left : ℕ) (place : Place) (value : Value) (full : Full) (w : Which)
    → IsFullOf world left (stored_as place value) full w → ⊥
no-full world left place value full which.VolatileWords is = no-some full.need is.need
no-full world left place value full which.Monitors is = let no = is.takes.1 in cc
no-full world left place value full w is = is

no-limit : (world : World) (left : ℕ) (place : Place) (value : Value) (f : StepFault)
    → IsLimit world left (stored_as place value) f → ⊥
no-limit world left place value (fault.Full full) is = no-full world left place value full full.which is
no-limit world left place value f is = is

-- a step that stores does so whatever a print would take
no-print : (bytes : List ℕ) (taken : ℕ) (b : Bool) (place : Place) (value : Value)
    → (if b then Does (op.Print bytes) (reply.Printed taken) else WrongOperand) ≡ stored_as place value → ⊥
no-print bytes taken true place value e = let no = e in cc
no-print bytes taken false place value e = let no = e in cc

stores-whatever : (set : SetFacts) (world : World) (t taken : ℕ) (q : PlainRequest) (place : Place) (value
    : Value)
    → step set world t 1 q ≡ stored_as place value → step set world t taken q ≡ stored_as place value
unfolding step
stores-whatever set world t taken (ask.Print from piece) place value e =
    absurd (no-print (take 1 piece) 1 (nat_lt 0 1 && nat_le 1 (length piece)) place value e)
stores-whatever set world t taken (ask.Enter from (key.Object object)) place value e = e
stores-whatever set world t taken (ask.Enter from (key.Class class)) place value e = e
stores-whatever set world t taken (ask.Exit from (key.Object object)) place value e = e
stores-whatever set world t taken (ask.Exit from (key.Class class)) place value e = e
stores-whatever set world t taken q place value e = e

module _ (set : SetFacts) (t : ℕ) (request : Request Ref Item) (before : Shown) (rest : Rest) (now : Shown)
    (rest_now : Rest) (place : Place) (value : Value) (roots : List Root)
    (stores : step set (world_of roots before rest) t 1 (plain_request before.number request)
    ≡ stored_as place value) where
  always : (taken : ℕ) → step set (world_of roots before rest) t taken (plain_request before.number request)
      ≡ stored_as place value
  always taken = stores-whatever set (world_of roots before rest) t taken
      (plain_request before.number request) place value stores

  pub stores-alone : (result : Stepped) → IsStep set t request before rest result now rest_now
      → IsNoStore result → ⊥
  stores-alone (stepped.Did o r) s none =
      let does : stored_as place value ≡ Does o (plain_reply now.number r)
      = sym (always (taken_by o)) ∙ (s.follows roots).0 in
      let same : op.Stored place value ≡ o = cc in
      subst (λ (x : Op). IsNoStore (stepped.Did x r)) (sym same) none
  stores-alone (stepped.Waits on) s none =
      let no : stored_as place value ≡ Waits on = sym (always 0) ∙ (s.follows roots).0 0 in cc
  stores-alone stepped.Wrong s none =
      let no : stored_as place value ≡ WrongOperand = sym (always 0) ∙ (s.follows roots).0 0 in cc
  stores-alone (stepped.Over f) s none = elim (s.follows roots).0 [
    | inl limit ↦ no-limit (world_of roots before rest) before.left place value f
        (subst (λ (x : Step). IsLimit (world_of roots before rest) before.left x f) (always 1) limit)
    | inr over ↦ (let no : stored_as place value ≡ IsOver f = sym (always 0) ∙ over 0 in cc)
  ]

-- ---- turns that broke

-- a turn that broke gives nothing to a place
pub given-whole : (q : Request Ref Item) → IsSome (given q) → IsBroken q → ⊥
given-whole (ask.Broken f) gives broken = let no = gives in cc
given-whole q gives broken = broken

-- and does nothing
pub broken-over : (set : SetFacts) (world : World) (t taken : ℕ) (number : Numbers) (q : Request Ref Item)
    (o : Op) (r : PlainReply) → step set world t taken (plain_request number q) ≡ Does o r → IsBroken q → ⊥
unfolding step
broken-over set world t taken number (ask.Broken f) o r does broken =
    let no : ◌≡◌ {A = Step} (IsOver f) (Does o r) = does in cc
broken-over set world t taken number q o r does broken = broken
