-- The plan of a request, and its step.
use Rattle.std.proofs.Common.{◌≡◌, ℕ, ◌<◌, ◌^◌, List, length, Option, Some, None, refl, sym, subst}
use Rattle.std.specs.Prelude.{IfSome, IsSome}
use Rattle.ap_base.specs.declared.reference.Ref.{Ref}
use Rattle.ap_base.specs.declared.reference.Item.{Item}
use Rattle.natives.specs.declared.requests.Request.{Request}
use Rattle.plain_model.specs.Facts.{SetFacts}
use Rattle.step_forms.specs.declared.stepped.Stepped.{Stepped}
use Rattle.step_forms.specs.Becomes.{IsNoStore, given}
use Rattle.step_forms.specs.Follows.{Agrees}
use Rattle.shared_heap.specs.Passed.{BehindGoes, FaultsGo, OutputGoes, SharesGo}
use Rattle.run_forms.specs.Views.{ThreadFrames}
use Rattle.twin_forms.specs.Table.{Entry}
use Rattle.region_log.specs.declared.entry.Underway.TheVariants.{Nothing as Idle}
use Rattle.machine_threads.specs.Passed.{Opening, doing_of, log_of, shown_in}
use Rattle.machine_threads.specs.Passed.{IsReady}
use Rattle.object_steps.specs.declared.storing.Store.{Store}
use Rattle.shared_heap.specs.Shared.{Shared}
use Rattle.shared_heap.specs.Requests.{IsPlannedFor, MayRequest, StepsTo}
use Rattle.machine.specs.declared.events.Event.{Event}
use Rattle.machine.specs.Ended.{ComesTo, HasPlanned, HasSomePlanned, IsOutside, Serves, StoreComesTo, event_of}
use Rattle.machine.specs.Events.{Comes, HasSinkCause, SparesSink}
use Rattle.machine.specs.Laws.{Laws}
use Rattle.machine.specs.Running.{IsDue}
use Rattle.machine.proofs.Given.{agrees-now, may-ask}
use Rattle.machine.proofs.Starting.{HasNotes}
use Rattle.machine.proofs.Printing.{spares-cause, spares-output, spares-share}
use Rattle.machine.proofs.Stepping.{stepped-cause, stepped-comes, stepped-share, stepped-told}

-- of an answer, where there is one
pub map-some : {A : Type 0} {P Q : A → Type 0} → (r : Option A) → ((a : A) → P a → Q a) → IfSome r P → IfSome r Q
map-some None f p = p
map-some (Some a) f p = f a p

-- an event is due of some run of this set, for this request
abbrev pub IsDueFor : SetFacts → Shared → ℕ → Request Ref Item → Type 0
IsDueFor set s t request = (o : Opening) × (first : ℕ) × (es : List Entry) × (threads : List ThreadFrames)
    × (fs : ThreadFrames) × IsDue o first set s es threads t fs request

pub some-of : {X : Type 0} (o : Option X) → (o ≡ None → ⊥) → IsSome o
some-of None none = absurd (none refl)
some-of (Some x) none = refl

module _ (laws : Laws) (set : SetFacts) (s : Shared) (t : ℕ) (request : Request Ref Item)
    (ready : IsReady (doing_of s.machine t)) where
  -- ---- what is given

  pub agrees-at : (now : Shared) → now ≡ s → IsDueFor set s t request → (count : ℕ) → count < 4294967296
      → count ≡ length s.history.acts → Agrees set (shown_in now.machine) now.machine.rest
  agrees-at now same (o, first, es, threads, fs, due) count few is =
      subst (λ (x : Shared). Agrees set (shown_in x.machine) x.machine.rest) (sym same)
      (agrees-now laws o first set s es threads t fs request due (subst (λ n. n < 2 ^ 32) is few))

  pub may-at : (now : Shared) → now ≡ s → IsDueFor set s t request → MayRequest set now.machine t request
  may-at now same (o, first, es, threads, fs, due) =
      subst (λ (x : Shared). MayRequest set x.machine t request) (sym same)
      (may-ask laws o first set s es threads t fs request due ready)

  -- ---- a store

  module _ (now : Shared) (store : Store) (same : now ≡ s)
      (idle : (log_of s.machine t).underway ≡ Idle) (planned : IsPlannedFor set t request store s)
      (gives : given request ≡ None → ⊥) where
    has-planned : (o : Opening) (first : ℕ) (es : List Entry) (threads : List ThreadFrames) (fs : ThreadFrames)
        → IsDue o first set s es threads t fs request → HasPlanned o first set now es threads t fs request store
    has-planned o first es threads fs due =
        subst (λ (x : Shared). HasPlanned o first set x es threads t fs request store) (sym same) (record {
          due = due;
          ready = ready;
          idle = idle;
          planned = planned;
          gives = some-of (given request) gives;
        })

    pub some-planned : IsDueFor set s t request → HasSomePlanned now t store
    some-planned (o, first, es, threads, fs, due) =
        (o, first, set, es, threads, fs, request, has-planned o first es threads fs due)

    module _ (new : Shared) (result : Event) (x : StoreComesTo t store result now new) where
      from-start : StoreComesTo t store result s new
      from-start = subst (λ (y : Shared). StoreComesTo t store result y new) same x

      store-comes : (o : Opening) (first : ℕ) (es : List Entry) (threads : List ThreadFrames) (fs : ThreadFrames)
          → IsDue o first set s es threads t fs request → Comes o first es threads t fs request result s new
      store-comes o first es threads fs due = from-start.comes o first set es threads fs request
          (subst (λ (y : Shared). HasPlanned o first set y es threads t fs request store) same
          (has-planned o first es threads fs due))

      pub store-serves : (takes : ℕ → ℕ → Option ℕ) (taken : Option (List ℕ)) (faults : ℕ)
          → Serves set t request result s new takes takes taken taken faults faults
      store-serves takes taken faults = record {
        comes = store-comes;
        told = spares-output result s.history.acts new.history.acts taken takes from-start.sink;
        share = spares-share result s.history.acts new.history.acts request (takes 0) from-start.sink;
        cause = spares-cause result faults from-start.sink.fault;
      }

  -- ---- a step

  module _ (room : length s.history.acts < s.history.limit) (now new : Shared) (result : Stepped)
      (same : now ≡ s) (x : StepsTo set t request result now new) (none : IsNoStore result)
      (idle : (log_of s.machine t).underway ≡ Idle) (outside : IsOutside (log_of s.machine t).depth request)
      (event : Event) (is_event : event ≡ event_of request result) (notes : HasNotes request new) where
    steps : StepsTo set t request result s new
    steps = subst (λ (y : Shared). StepsTo set t request result y new) same x

    step-comes : (o : Opening) (first : ℕ) (es : List Entry) (threads : List ThreadFrames) (fs : ThreadFrames)
        → IsDue o first set s es threads t fs request → Comes o first es threads t fs request event s new
    step-comes o first es threads fs due = subst (λ e. Comes o first es threads t fs request e s new) (sym is_event)
        (stepped-comes laws o first set s es threads t fs request due room ready new idle outside notes result steps none)

    pub step-serves : IsDueFor set s t request → (takes takes' : ℕ → ℕ → Option ℕ) (taken taken' : Option (List ℕ))
        (faults faults' : ℕ) → OutputGoes request taken result taken' → BehindGoes request takes result takes'
        → SharesGo request (takes 0) result → FaultsGo request faults result faults'
        → Serves set t request event s new takes takes' taken taken' faults faults'
    step-serves (o, first, es, threads, fs, due) takes takes' taken taken' faults faults' put left share go = record {
      comes = step-comes;
      told = stepped-told laws o first set s es threads t fs request due room ready new result steps none taken taken'
          takes takes' put left;
      share = stepped-share laws o first set s es threads t fs request due room ready new result steps none (takes 0)
          share;
      cause = subst (λ e. HasSinkCause e faults faults') (sym is_event)
          (stepped-cause laws o first set s es threads t fs request due room ready new result steps none faults faults'
          go);
    }

-- ---- an event that has no part in the sink

pub spared-serves : (set : SetFacts) (s new : Shared) (t : ℕ) (request : Request Ref Item) (result : Event)
    → ((o : Opening) (first : ℕ) (es : List Entry) (threads : List ThreadFrames) (fs : ThreadFrames)
    → IsDue o first set s es threads t fs request
    → Comes o first es threads t fs request result s new)
    → SparesSink result s.history.acts new.history.acts
    → (takes : ℕ → ℕ → Option ℕ) (taken : Option (List ℕ)) (faults : ℕ)
    → Serves set t request result s new takes takes taken taken faults faults
spared-serves set s new t request result comes spares takes taken faults = record {
  comes = comes;
  told = spares-output result s.history.acts new.history.acts taken takes spares;
  share = spares-share result s.history.acts new.history.acts request (takes 0) spares;
  cause = spares-cause result faults spares.fault;
}

pub comes-serves : (set : SetFacts) (s new : Shared) (t : ℕ) (request : Request Ref Item) (result : Event)
    → ComesTo t result s new → (takes : ℕ → ℕ → Option ℕ) (taken : Option (List ℕ)) (faults : ℕ)
    → Serves set t request result s new takes takes taken taken faults faults
comes-serves set s new t request result x = spared-serves set s new t request result
    (λ o first es threads fs due. x.comes o first set es threads fs request due) x.sink

-- the sink was left alone
pub serves-as : (set : SetFacts) (s new : Shared) (t : ℕ) (request : Request Ref Item) (result event : Event)
    (takes takes' : ℕ → ℕ → Option ℕ) (taken taken' : Option (List ℕ)) (faults faults' : ℕ)
    → Serves set t request result s new takes takes taken taken faults faults → event ≡ result → takes' ≡ takes
    → taken' ≡ taken → faults' ≡ faults → Serves set t request event s new takes takes' taken taken' faults faults'
serves-as set s new t request result event takes takes' taken taken' faults faults' x is same_takes same_taken
    same_faults =
    subst (λ e. Serves set t request e s new takes takes' taken taken' faults faults') (sym is)
    (subst (λ (left : ℕ → ℕ → Option ℕ). Serves set t request result s new takes left taken taken' faults faults') (sym same_takes)
    (subst (λ put. Serves set t request result s new takes takes taken put faults faults') (sym same_taken)
    (subst (λ n. Serves set t request result s new takes takes taken taken faults n) (sym same_faults) x)))
