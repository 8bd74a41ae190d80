-- What a step puts into the sink.
use Rattle.std.proofs.Common.{◌≡◌, inl, inr, ℕ, ◌+◌, Bool, true, false, List, [], ◌∷◌, ◌++◌, Option, Some, None, refl, sym, ◌∙◌}
use Rattle.std.proofs.Common.{ap, length, subst, arith, if◌then◌else◌}
use Rattle.std.specs.Prelude.{IsSome}
use Rattle.std.proofs.lemmas.List.{append-nil}
use Rattle.ap_base.specs.Causes.{next_count}
use Rattle.ap_base.specs.Sinks.{TakesBehind, with_bytes}
use Rattle.ap_base.specs.declared.reference.Ref.{Ref}
use Rattle.ap_base.specs.declared.reference.Item.{Item}
use Rattle.run_types.specs.declared.resolved.At.{At}
use Rattle.run_types.specs.declared.fault.StepFault.{StepFault}
use Rattle.run_types.specs.declared.fault.StepFault.TheVariants as fault
use Rattle.run_types.specs.declared.fault.Which.{Which}
use Rattle.run_types.specs.declared.fault.Which.TheVariants as which
use Rattle.run_types.specs.declared.fault.Full.{Full}
use Rattle.natives.specs.declared.requests.Request.{Request}
use Rattle.natives.specs.declared.requests.Request.TheVariants as ask
use Rattle.natives.specs.declared.requests.Reply.{Reply}
use Rattle.natives.specs.declared.requests.Reply.TheVariants as reply
use Rattle.run_history.specs.declared.act.Op.{Op}
use Rattle.run_history.specs.declared.act.Op.TheVariants as op
use Rattle.run_history.specs.Recorded.{Recorded}
use Rattle.run_history.specs.Worlds.{World}
use Rattle.plain_model.specs.Facts.{SetFacts}
use Rattle.plain_model.specs.Ends.{Prints}
use Rattle.plain_model.specs.Requests.{PlainRequest}
use Rattle.plain_model.specs.Runs.{printed_by}
use Rattle.plain_model.specs.Steps.{Does, WrongOperand, IsOver, step}
use Rattle.shared_objects.specs.declared.rest.Rest.{Rest}
use Rattle.shared_objects.specs.Shown.{Shown}
use Rattle.shared_objects.specs.Plain.{plain_request}
use Rattle.shared_objects.specs.Worlds.{world_of}
use Rattle.step_forms.specs.declared.stepped.Stepped.{Stepped}
use Rattle.step_forms.specs.declared.stepped.Stepped.TheVariants as stepped
use Rattle.step_forms.specs.Becomes.{given}
use Rattle.step_forms.specs.Follows.{IsFullOf, IsLimit, IsStep}
use Rattle.shared_heap.specs.Passed.{BehindGoes, FaultsGo, OutputGoes, SharesGo}
use Rattle.run_forms.proofs.Visible.{is_print, prints}
use Rattle.machine.specs.declared.events.Event.{Event}
use Rattle.machine.specs.declared.events.Event.TheVariants.{Did, Micro, WouldWait, Over}
use Rattle.machine.specs.declared.events.Halt.TheVariants.{Met}
use Rattle.machine.specs.Events.{HasSinkCause, IsNoPrint, IsNoSinkFault, IsShare, SparesSink, TakesOutput}
use Rattle.machine.proofs.Basics.{no-some, not-longer}

-- ---- where the sink has no part

pub bytes-none : (takes : Option (List ℕ)) → takes ≡ with_bytes takes []
bytes-none None = refl
bytes-none (Some taken) = ap Some (sym (append-nil taken))

silent : (o : Op) → IsNoPrint o → printed_by o ≡ []
silent (op.Print bytes) none = absurd none
silent o none = refl

-- a sink that is as it was takes what it took
pub behind-none : (before now : ℕ → ℕ → Option ℕ) → now ≡ before → TakesBehind before now 0
behind-none before now same = λ further count. let zero : further ≡ 0 + further = omega arith in
    ap (λ (takes : ℕ → ℕ → Option ℕ). takes further count) same ∙ ap (λ (n : ℕ). before n count) zero

pub spares-output : (result : Event) (old new : List Recorded) (taken : Option (List ℕ)) (takes : ℕ → ℕ → Option ℕ)
    → SparesSink result old new → TakesOutput old new taken taken takes takes
spares-output result old new taken takes spares = elim spares.acts [
  | inl same ↦ record {
    further = [];
    acts = same ∙ sym (append-nil old);
    output = bytes-none taken;
    behind = behind-none takes takes refl;
  }
  | inr one ↦
      let nothing = sym (append-nil (printed_by one.0.act.op) ∙ silent one.0.act.op one.2) in record {
        further = one.0 ∷ [];
        acts = one.1;
        output = bytes-none taken ∙ ap (with_bytes taken) nothing;
        behind = subst (λ (bytes : List ℕ). TakesBehind takes takes (length bytes)) nothing
            (behind-none takes takes refl);
      }
]

share-none : (q : Request Ref Item) (takes : ℕ → Option ℕ) (o : Op) → IsNoPrint o → IsShare q takes o
share-none (ask.Print from piece) takes (op.Print bytes) none = absurd none
share-none (ask.Print from piece) takes o none = tt
share-none q takes o none = tt

-- two lists with one element more are one where they end alike
pub last-same : {X : Type 0} (xs : List X) (a b : X) → xs ++ a ∷ [] ≡ xs ++ b ∷ [] → a ≡ b
last-same [] a b e = cc
last-same (x ∷ xs) a b e = last-same xs a b (let tails : xs ++ a ∷ [] ≡ xs ++ b ∷ [] = cc in tails)

pub spares-share : (result : Event) (old new : List Recorded) (q : Request Ref Item) (takes : ℕ → Option ℕ)
    → SparesSink result old new → (act : Recorded) → new ≡ old ++ act ∷ [] → IsShare q takes act.act.op
spares-share result old new q takes spares act is = elim spares.acts [
  | inl same ↦ not-longer old act (sym is ∙ same)
  | inr one ↦ share-none q takes act.act.op (subst (λ (a : Recorded). IsNoPrint a.act.op)
      (last-same old one.0 act (sym one.1 ∙ is)) one.2)
]

pub spares-cause : (result : Event) (before : ℕ) → IsNoSinkFault result → HasSinkCause result before before
spares-cause (Did r) before none = refl
spares-cause Micro before none = refl
spares-cause (WouldWait on) before none = refl
spares-cause (Over (Met fault.SinkFault)) before none = absurd none
spares-cause (Over halt) before none = refl

-- ---- a step

-- a request that gives something prints nothing
pub given-output : (q : Request Ref Item) (takes : Option (List ℕ)) (result : Stepped) → IsSome (given q)
    → OutputGoes q takes result takes
given-output (ask.Print from piece) takes result gives = absurd (let no = gives in cc)
given-output q takes result gives = refl

pub given-behind : (q : Request Ref Item) (takes : ℕ → ℕ → Option ℕ) (result : Stepped) → IsSome (given q)
    → BehindGoes q takes result takes
given-behind (ask.Print from piece) takes result gives = absurd (let no = gives in cc)
given-behind q takes result gives = refl

pub given-shares : (q : Request Ref Item) (takes : ℕ → Option ℕ) (result : Stepped) → IsSome (given q)
    → SharesGo q takes result
given-shares (ask.Print from piece) takes result gives = absurd (let no = gives in cc)
given-shares q takes result gives = tt

pub given-faults : (q : Request Ref Item) (before : ℕ) (result : Stepped) → IsSome (given q)
    → FaultsGo q before result before
given-faults (ask.Print from piece) before result gives = absurd (let no = gives in cc)
given-faults q before result gives = refl

printed-none : (o : Op) → is_print o ≡ false → printed_by o ≡ []
printed-none (op.Print bytes) e = absurd (let no : true ≡ false = e in cc)
printed-none o e = refl

pub printed-so : (number : Ref → Option ℕ) (q : Request Ref Item) (o : Op) (r : Reply Ref Item)
    (before now : Option (List ℕ)) → (prints (plain_request number q) ≡ false → is_print o ≡ false)
    → OutputGoes q before (stepped.Did o r) now → now ≡ with_bytes before (printed_by o)
printed-so number (ask.Print from piece) o r before now quiet e = e
printed-so number q o r before now quiet e =
    e ∙ bytes-none before ∙ ap (with_bytes before) (sym (printed-none o (quiet refl)))

pub behind-so : (number : Ref → Option ℕ) (q : Request Ref Item) (o : Op) (r : Reply Ref Item) (before now : ℕ → ℕ → Option ℕ)
    → (prints (plain_request number q) ≡ false → is_print o ≡ false)
    → BehindGoes q before (stepped.Did o r) now → TakesBehind before now (length (printed_by o))
behind-so number (ask.Print from piece) o r before now quiet e = e
behind-so number q o r before now quiet e =
    subst (λ (bytes : List ℕ). TakesBehind before now (length bytes)) (sym (printed-none o (quiet refl)))
    (behind-none before now e)

-- nothing is told where nothing was done
abbrev pub IsNotDone : Stepped → Type 0
IsNotDone (stepped.Did o r) = ⊥
IsNotDone result = Unit {0}

pub printed-not : (q : Request Ref Item) (result : Stepped) (before now : Option (List ℕ)) → IsNotDone result
    → OutputGoes q before result now → now ≡ before
printed-not (ask.Print from piece) (stepped.Did o r) before now is e = absurd is
printed-not (ask.Print from piece) result before now is e = e
printed-not q result before now is e = e

pub behind-not : (q : Request Ref Item) (result : Stepped) (before now : ℕ → ℕ → Option ℕ) → IsNotDone result
    → BehindGoes q before result now → TakesBehind before now 0
behind-not (ask.Print from piece) (stepped.Did o r) before now is e = absurd is
behind-not (ask.Print from piece) result before now is e = e
behind-not q result before now is e = behind-none before now e

pub share-so : (q : Request Ref Item) (takes : ℕ → Option ℕ) (o : Op) (r : Reply Ref Item)
    → SharesGo q takes (stepped.Did o r) → IsShare q takes o
share-so (ask.Print from piece) takes o r is = by o is
  where
    by : (p : Op) → SharesGo (ask.Print from piece) takes (stepped.Did p r)
        → IsShare (ask.Print from piece) takes p
    by (op.Print bytes) is = is
    by p is = tt
share-so q takes o r is = tt

-- ---- faults of the sink

abbrev pub IsNoOver : Stepped → Type 0
IsNoOver (stepped.Over f) = ⊥
IsNoOver result = Unit {0}

print-no-full : (world : World) (left : ℕ) (bytes : List ℕ) (taken : ℕ) (b : Bool) (full : Full) (w : Which)
    → IsFullOf world left (if b then Does (op.Print bytes) (reply.Printed taken) else WrongOperand) full w → ⊥
print-no-full world left bytes taken true full which.VolatileWords is = no-some full.need is.need
print-no-full world left bytes taken false full which.VolatileWords is = no-some full.need is.need
print-no-full world left bytes taken true full which.Monitors is = let no = is.takes.1 in cc
print-no-full world left bytes taken false full which.Monitors is = let no = is.takes.1 in cc
print-no-full world left bytes taken b full w is = is

-- a print is over by the sink alone
print-over : (world : World) (left : ℕ) (bytes : List ℕ) (taken : ℕ) (b : Bool) (f : StepFault)
    → IsLimit world left (if b then Does (op.Print bytes) (reply.Printed taken) else WrongOperand) f
    → f ≡ fault.SinkFault
print-over world left bytes taken b (fault.Full full) is =
    absurd (print-no-full world left bytes taken b full full.which is)
print-over world left bytes taken b fault.SinkFault is = refl
print-over world left bytes taken b f is = absurd is

no-over : (bytes : List ℕ) (taken : ℕ) (b : Bool) (f : StepFault)
    → (if b then Does (op.Print bytes) (reply.Printed taken) else WrongOperand) ≡ IsOver f → ⊥
no-over bytes taken true f e = let no = e in cc
no-over bytes taken false f e = let no = e in cc

print-step : (set : SetFacts) (t : ℕ) (from : At) (piece : List ℕ) (before : Shown) (rest : Rest) (f :
    StepFault)
    (now : Shown) (rest_now : Rest)
    → IsStep set t (ask.Print from piece) before rest (stepped.Over f) now rest_now → f ≡ fault.SinkFault
unfolding step
print-step set t from piece before rest f now rest_now is = elim (is.follows []).0 [
  | inl limit ↦ print-over (world_of [] before rest) before.left _ _ _ f limit
  | inr over ↦ absurd (no-over _ _ _ f (over 1))
]

-- the sink failed once where a print says so
sink-failed : (number : Ref → Option ℕ) (q : Request Ref Item) (before now : ℕ)
    → prints (plain_request number q) ≡ true → FaultsGo q before (stepped.Over fault.SinkFault) now
    → now ≡ next_count before
sink-failed number (ask.Print from piece) before now e h = h
sink-failed number q before now e h = absurd (let no : false ≡ true = e in cc)

prints-it : (q : PlainRequest) → Prints (Some q) → prints q ≡ true
prints-it q (from, piece, e) = let same : q ≡ ask.Print from piece = cc in ap prints same

unmoved : (set : SetFacts) (t : ℕ) (q : Request Ref Item) (shown : Shown) (rest : Rest) (f : StepFault)
    (now : Shown) (rest_now : Rest) → IsStep set t q shown rest (stepped.Over f) now rest_now
    → (f ≡ fault.SinkFault → ⊥) → (before after : ℕ) → FaultsGo q before (stepped.Over f) after
    → after ≡ before
unmoved set t (ask.Print from piece) shown rest f now rest_now is other before after go =
    absurd (other (print-step set t from piece shown rest f now rest_now is))
unmoved set t q shown rest f now rest_now is other before after go = go

-- A step that is over by the sink was a print's, and the sink failed once.
pub over-cause : (set : SetFacts) (t : ℕ) (q : Request Ref Item) (shown : Shown) (rest : Rest) (f : StepFault)
    (now : Shown) (rest_now : Rest) → IsStep set t q shown rest (stepped.Over f) now rest_now
    → (f ≡ fault.SinkFault → Prints (Some (plain_request shown.number q))) → (before after : ℕ)
    → FaultsGo q before (stepped.Over f) after → HasSinkCause (Over (Met f)) before after
over-cause set t q shown rest fault.SinkFault now rest_now is prints before after go =
    sink-failed shown.number q before after (prints-it (plain_request shown.number q) (prints refl)) go
over-cause set t q shown rest f now rest_now is prints before after go =
    unmoved set t q shown rest f now rest_now is (λ e. let no = e in cc) before after go

-- otherwise it didn't fail
pub other-cause : (q : Request Ref Item) (result : Stepped) (before after : ℕ) → IsNoOver result
    → FaultsGo q before result after → after ≡ before
other-cause (ask.Print from piece) (stepped.Over f) before after none go = absurd none
other-cause (ask.Print from piece) result before after none go = go
other-cause q result before after none go = go
