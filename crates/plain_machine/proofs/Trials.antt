-- What tries come to.
use Rattle.std.proofs.Common.{◌≡◌, ◌⊎◌, ℕ, true, false, List, [], Option, Some, None, refl, ap, sym, subst, ◌∙◌, inl, inr}
use Rattle.ap_base.specs.declared.reference.Ref.{Ref}
use Rattle.ap_base.specs.declared.reference.Item.{Item}
use Rattle.ap_base.specs.declared.kind.Kind.{Kind}
use Rattle.ap_base.specs.declared.kind.Kind.TheVariants.{J, L}
use Rattle.ap_base.specs.declared.place.Place.{Place}
use Rattle.run_types.specs.declared.key.Key.TheVariants as key
use Rattle.graph_model.specs.declared.types.Root.{Root}
use Rattle.graph_model.specs.declared.types.Value.{Value}
use Rattle.graph_model.specs.declared.types.Value.TheVariants as value
use Rattle.graph_model.specs.declared.types.Heap.{Heap}
use Rattle.run_types.specs.declared.fault.Full.{Full}
use Rattle.run_types.specs.declared.fault.StepFault.{StepFault}
use Rattle.run_types.specs.declared.fault.StepFault.TheVariants as fault
use Rattle.run_types.specs.declared.fault.Which.{Which}
use Rattle.run_types.specs.declared.fault.Which.TheVariants as which
use Rattle.natives.specs.declared.requests.Request.{Request}
use Rattle.natives.specs.declared.requests.Request.TheVariants as ask
use Rattle.run_history.specs.declared.act.Op.{Op}
use Rattle.run_history.specs.declared.act.Op.TheVariants as op
use Rattle.run_history.specs.Worlds.{World}
use Rattle.plain_model.specs.Duties.{IsFit, IsOfKind, IsReferenceIn}
use Rattle.plain_model.specs.Facts.{SetFacts}
use Rattle.plain_model.specs.Requests.{PlainRequest}
use Rattle.plain_model.specs.Steps.{Step, Does, Waits, WrongOperand, IsOver, op_of}
use Rattle.shared_objects.specs.declared.rest.Rest.{Rest}
use Rattle.shared_objects.specs.Shown.{Numbers, Shown}
use Rattle.shared_objects.specs.Plain.{plain_request}
use Rattle.shared_objects.specs.Worlds.{world_of}
use Rattle.step_forms.specs.declared.stepped.Stepped.{Stepped}
use Rattle.step_forms.specs.declared.stepped.Stepped.TheVariants as stepped
use Rattle.step_forms.specs.Becomes.{Becomes}
use Rattle.step_forms.specs.Follows.{DoesPrint, IsFullOf, IsLimit, IsOutOfMonitors, IsStep, words_of_step}
use Rattle.run_forms.proofs.Visible.{prints, step-silent}
use Rattle.plain_heap.specs.declared.heap.PlainHeap.{PlainHeap}
use Rattle.plain_heap.specs.Heaps.{shown_back, shown_of}
use Rattle.plain_machine.specs.declared.trying.Did.{Did}
use Rattle.plain_machine.specs.declared.trying.Tried.{Tried}
use Rattle.plain_machine.specs.declared.trying.Tried.TheVariants as tried
use Rattle.plain_machine.specs.Foreseeing.{step_in}
use Rattle.plain_machine.specs.Ops.{asks_print}
use Rattle.plain_machine.specs.Tries.{IsBackOf, is_short, lacking, lacking_of, tried_of}
use Rattle.plain_machine.specs.Trying.{IsBack, IsKept, IsNoStep, IsShort, MakesObject, with_left}
use Rattle.plain_machine.proofs.Possible.{IsOneOf, could, is_lack, is_lacking, no-false, no-true, own-fault, possible}

none-some : {X P : Type 0} (v : X) → ◌≡◌ {A = Option X} None (Some v) → P
none-some v e = absurd (let no = e in cc)

-- ---- the heap before a step

pub became : (before now : PlainHeap) (result : Stepped)
    → Becomes shown_of (λ (h : PlainHeap) (place : Place) (item : Item) (n : PlainHeap). shown_back n
    ≡ shown_of h)
    (λ (h n : PlainHeap). shown_back n ≡ shown_of h) before result now
    → IsBackOf result (shown_of before) (shown_of now) (shown_back now)
became before now (stepped.Did (op.Stored place value) r) h = h.2
became before now (stepped.Did (op.Alloc n shape count) r) h = h
became before now (stepped.Did (op.Throw n class) r) h = h
became before now (stepped.Did o r) h = ap shown_of h
became before now (stepped.Waits on) h = ap shown_of h
became before now stepped.Wrong h = ap shown_of h
became before now (stepped.Over f) h = ap shown_of h

-- ---- what a try tells of the step

not-made : (f : StepFault) (did : Did) → lacking f ≡ tried.Made did → ⊥
not-made (fault.Full full) did e = by-which full.which e
  where
    by-which : (w : Which) → lacking_of full w ≡ tried.Made did → ⊥
    by-which which.VolatileWords h = absurd (let no = h in cc)
    by-which which.Monitors h = absurd (let no = h in cc)
    by-which w h = absurd (let no = h in cc)
not-made f did e = absurd (let no = e in cc)

abbrev pub some_or_idle : Tried → Option Did
some_or_idle (tried.Made did) = Some did
some_or_idle other = None

module _ (set : SetFacts) (t : ℕ) (q : Request Ref Item) (before : Shown) (rest : Rest) (now back : Shown)
    (rest_now : Rest) where
  pub made-did : (did : Did) (s : Stepped) → tried.Made did ≡ tried_of s
      → IsStep set t q before rest s now rest_now
      → IsBackOf s before now back
      → IsStep set t q before rest (stepped.Did did.op did.reply) now rest_now × IsBack did.op before now back
  made-did did (stepped.Did o r) e is b =
      let same : did ≡ record { op = o; reply = r } = cc in (
        subst (λ (d : Did). IsStep set t q before rest (stepped.Did d.op d.reply) now rest_now) (sym same) is,
        subst (λ (d : Did). IsBack d.op before now back) (sym same) b,
      )
  made-did did (stepped.Waits on) e is b = absurd (let no = e in cc)
  made-did did stepped.Wrong e is b = absurd (let no = e in cc)
  made-did did (stepped.Over f) e is b = absurd (not-made f did (sym e))

  -- no step was made: all is as before
  pub unmade-kept : (s : Stepped) → some_or_idle (tried_of s) ≡ None
      → IsStep set t q before rest s now rest_now
      → IsBackOf s before now back → IsKept before rest now rest_now
  unmade-kept (stepped.Did o r) e is b = absurd (let no = e in cc)
  unmade-kept (stepped.Waits on) e is b = record {
    shown = ap (λ (s : Shown). with_left s now.left) b;
    world = λ roots. (is.follows roots).1;
    monitors = is.monitors;
  }
  unmade-kept stepped.Wrong e is b = record {
    shown = ap (λ (s : Shown). with_left s now.left) b;
    world = λ roots. (is.follows roots).1;
    monitors = is.monitors;
  }
  unmade-kept (stepped.Over f) e is b = record {
    shown = ap (λ (s : Shown). with_left s now.left) b;
    world = λ roots. (is.follows roots).1;
    monitors = is.monitors;
  }

-- ---- limits

abbrev pub IsShortStep : World → Step → Type 0
IsShortStep world plain = ((o : Op) × (op_of plain ≡ Some o) × MakesObject o)
    ⊎ ((full : Full) × IsOutOfMonitors world plain full)

words-object : (heap : Heap) (plain : Step) (n : ℕ) → words_of_step heap plain ≡ Some n
    → (o : Op) × (op_of plain ≡ Some o) × MakesObject o
words-object heap (Does (op.Alloc n shape count) r) m e = (op.Alloc n shape count, refl, tt)
words-object heap (Does (op.Throw n class) r) m e = (op.Throw n class, refl, tt)
words-object heap (Does o r) m e = none-some m e
words-object heap (Waits on) m e = none-some m e
words-object heap WrongOperand m e = none-some m e
words-object heap (IsOver f) m e = none-some m e

limit-short : (world : World) (left : ℕ) (plain : Step) (f : StepFault) → is_short (lacking f) ≡ true
    → IsLimit world left plain f → IsShortStep world plain
limit-short world left plain (fault.Full full) e h = by-which full.which e h
  where
    by-which : (w : Which) → is_short (lacking_of full w) ≡ true → IsFullOf world left plain full w
        → IsShortStep world plain
    by-which which.VolatileWords e h = inl (words-object world.heap plain full.need h.need)
    by-which which.Monitors e h = inr (full, h)
    by-which w e h = no-false e
limit-short world left plain f e h = no-false e

lacking-is : (f : StepFault) → is_short (lacking f) ≡ true → is_lacking f ≡ true
lacking-is (fault.Full full) e = by-which full.which e
  where
    by-which : (w : Which) → is_short (lacking_of full w) ≡ true → is_lack w ≡ true
    by-which which.VolatileWords e = refl
    by-which which.Monitors e = refl
    by-which w e = no-false e
lacking-is f e = no-false e

module _ (world : World) (left : ℕ) (plain : Step) where
  no-lack : (full : Full) (w : Which) → lacking_of full w ≡ tried.Idle → IsFullOf world left plain full w → ⊥
  no-lack full which.VolatileWords e h = absurd (let no = e in cc)
  no-lack full which.Monitors e h = absurd (let no = e in cc)
  no-lack full w e h = h

  no-limit : (f : StepFault) → lacking f ≡ tried.Idle → (DoesPrint plain → ⊥) → IsLimit world left plain f → ⊥
  no-limit (fault.Full full) e silent h = no-lack full full.which e h
  no-limit fault.SinkFault e silent h = silent h
  no-limit f e silent h = h

pub plain-prints : (number : Numbers) (q : Request Ref Item) → asks_print q ≡ false
    → prints (plain_request number q) ≡ false
plain-prints number (ask.Print from piece) e = no-true e
plain-prints number q e = refl

-- ---- fitness at any roots

module _ (set : SetFacts) (before : Shown) (rest : Rest) (t : ℕ) (roots : List Root) where
  reference-roots : (v : Value) → IsReferenceIn (world_of [] before rest) v
      → IsReferenceIn (world_of roots before rest) v
  reference-roots value.Null h = h
  reference-roots (value.Obj n) h = h
  reference-roots (value.Int i) h = h
  reference-roots (value.Long i) h = h

  kind-roots : (kind : Kind) (v : Value) → IsOfKind (world_of [] before rest) kind v
      → IsOfKind (world_of roots before rest) kind v
  kind-roots L v h = reference-roots v h
  kind-roots J (value.Int i) h = h
  kind-roots J (value.Long i) h = h
  kind-roots J value.Null h = h
  kind-roots J (value.Obj n) h = h
  kind-roots kind (value.Int i) h = h
  kind-roots kind (value.Long i) h = h
  kind-roots kind value.Null h = h
  kind-roots kind (value.Obj n) h = h

  fit-roots : (p : PlainRequest) → IsFit set (world_of [] before rest) t p
      → IsFit set (world_of roots before rest) t p
  fit-roots (ask.Enter from (key.Object r)) h = reference-roots r h
  fit-roots (ask.Enter from (key.Class c)) h = h
  fit-roots (ask.Exit from (key.Object r)) h = reference-roots r h
  fit-roots (ask.Exit from (key.Class c)) h = h
  fit-roots (ask.Leave None) h = h
  fit-roots (ask.Leave (Some class)) h = h
  fit-roots (ask.PutStatic from field value) h = (h.0, kind-roots field.kind value h.1)
  fit-roots (ask.GetField from holder field) h = (h.0, reference-roots holder h.1)
  fit-roots (ask.PutField from holder field value) h =
      (h.0, reference-roots holder h.1, kind-roots field.kind value h.2)
  fit-roots (ask.GetElement from array index kind) h = reference-roots array h
  fit-roots (ask.PutElement from array index kind value) h = (
    reference-roots array h.0,
    kind-roots kind
        value h.1,
  )
  fit-roots (ask.Length from array) h = reference-roots array h
  fit-roots (ask.ClassOf from object within) h = (h.0, reference-roots object h.1)
  fit-roots (ask.Cast from object target) h = (h.0, reference-roots object h.1)
  fit-roots (ask.IsA from object target) h = (h.0, reference-roots object h.1)
  fit-roots (ask.Same from left right) h = (reference-roots left h.0, reference-roots right h.1)
  fit-roots (ask.Start from thread) h = reference-roots thread h
  fit-roots (ask.Join from thread) h = reference-roots thread h
  fit-roots p h = h

-- ---- what the step is

module _ (set : SetFacts) (t : ℕ) (q : Request Ref Item) (before : Shown) (rest : Rest)
    (fit : IsFit set (world_of [] before rest) t (plain_request before.number q)) where
  abbrev asked : PlainRequest
  asked = plain_request before.number q

  oneof : (roots : List Root) (taken : ℕ) → IsOneOf (could asked) (step_in set roots before rest t taken q)
  oneof roots taken = possible set (world_of roots before rest) t taken asked
      (own-fault set (world_of [] before rest) t asked fit)

  no-print : asks_print q ≡ false → (roots : List Root) → DoesPrint (step_in set roots before rest t 1 q) → ⊥
  no-print silent roots h = by-step (step_in set roots before rest t 1 q) refl h
    where
      by-step : (s : Step) → step_in set roots before rest t 1 q ≡ s → DoesPrint s → ⊥
      by-step (Does (op.Print bytes) r) e h = no-true (step-silent set (world_of roots before rest) t 1 asked
          (op.Print bytes) r (fit-roots set before rest t roots asked fit)
          (plain-prints before.number q silent) e).1
      by-step s e h = absurd h

  module _ (now : Shown) (rest_now : Rest) where
    -- an idle try: there is no step
    pub idle-none : asks_print q ≡ false → (s : Stepped) → tried.Idle ≡ tried_of s
        → IsStep set t q before rest s now rest_now → IsNoStep set t q before rest
    idle-none silent (stepped.Did o r) e is roots taken = absurd (let no = e in cc)
    idle-none silent (stepped.Waits on) e is roots taken = ap op_of ((is.follows roots).0 taken)
    idle-none silent stepped.Wrong e is roots taken = ap op_of ((is.follows roots).0 taken)
    idle-none silent (stepped.Over f) e is roots taken = elim (is.follows roots).0 [
      | inl limit ↦ absurd (no-limit (world_of roots before rest) before.left (step_in set roots before
          rest t 1 q)
          f (sym e) (no-print silent roots) limit)
      | inr over ↦ ap op_of (over taken)
    ]

    -- a try that lacks something: so does the step
    pub lacks-short : (s : Stepped) → is_short (tried_of s) ≡ true → IsStep set t q before rest s now rest_now
        → IsShort set t q before rest
    lacks-short (stepped.Did o r) e is roots = no-false e
    lacks-short (stepped.Waits on) e is roots = no-false e
    lacks-short stepped.Wrong e is roots = no-false e
    lacks-short (stepped.Over f) e is roots = elim (is.follows roots).0 [
      | inl limit ↦ limit-short (world_of roots before rest) before.left (step_in set roots before rest t 1 q)
          f e limit
      | inr over ↦ no-true (sym (lacking-is f e)
          ∙ subst (IsOneOf (could asked)) (over 1) (oneof roots 1))
    ]
