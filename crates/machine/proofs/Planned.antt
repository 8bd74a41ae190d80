-- A store whose tests are passed: it is what the thread has asked, if it has asked something.
use Rattle.std.proofs.Common.{◌≡◌, inl, inr, ℕ, Bool, true, false, not, List, None, Some, refl, sym, ◌∙◌, ap, subst}
use Rattle.ap_base.specs.declared.place.Place.{Place}
use Rattle.ap_base.specs.declared.place.Place.TheVariants as place
use Rattle.ap_base.specs.declared.reference.Ref.{Ref}
use Rattle.ap_base.specs.declared.reference.Item.{Item}
use Rattle.graph_model.specs.declared.types.Value.{Value}
use Rattle.graph_model.specs.declared.types.Value.TheVariants.{Obj as Object}
use Rattle.natives.specs.declared.requests.Request.{Request}
use Rattle.run_history.specs.Knowing.{Pending, pending_of, durable_at}
use Rattle.plain_model.specs.Facts.{SetFacts}
use Rattle.plain_model.specs.Requests.{PlainRequest}
use Rattle.plain_model.specs.Runs.{is_volatile, request_after}
use Rattle.plain_model.specs.Steps.{step}
use Rattle.plain_model.specs.Ends.{wait_of}
use Rattle.shared_objects.specs.Plain.{plain_request}
use Rattle.step_forms.specs.Becomes.{AsksStore}
use Rattle.step_forms.specs.Follows.{stored_as}
use Rattle.run_forms.specs.Views.{ThreadFrames}
use Rattle.run_forms.specs.Standing.{plain_code}
use Rattle.twin_forms.specs.Table.{Entry}
use Rattle.machine_threads.specs.Passed.{Doing}
use Rattle.machine_threads.specs.Passed.{Nothing, Converting, Writing, Fencing}
use Rattle.machine_threads.specs.Passed.{Opening, doing_of, known_in, roots_in, shown_in, Machine}
use Rattle.machine_threads.specs.Passed.{IsFree, IsStoreOf, value_in}
use Rattle.machine_threads.specs.Passed.{IsReady}
use Rattle.machine_threads.specs.Stuck.{plain_waits}
use Rattle.machine_threads.proofs.Passed.{stores-anyhow}
use Rattle.object_steps.specs.declared.storing.Store.{Store}
use Rattle.object_steps.specs.Stores.{place_of}
use Rattle.shared_heap.specs.Passed.{HoldsDurable, IsDurablePlace, MayFollow}
use Rattle.shared_heap.specs.Shared.{Shared}
use Rattle.machine.specs.Ended.{HasPlanned}
use Rattle.machine.specs.Laws.{Laws}
use Rattle.machine.proofs.Leaving.{asked, fits}
use Rattle.machine.proofs.Basics.{some-same}
use Rattle.machine_threads.specs.Passed.{KeepsRun}
use Rattle.machine_threads.specs.Keeping.{IsToHoldDurable, KeepsThread}

-- an object that isn't volatile is durable
durable-from : (b : Bool) → not b ≡ false → b ≡ true
durable-from true e = refl
durable-from false e = absurd (let no = e in cc)

-- a durable place holds what is durable alone
place-holds : (m : Machine) (es : List Entry) (place : Place) → IsDurablePlace m.spaces es place
    → HoldsDurable m.spaces es place
place-holds m es (place.Static f) durable = durable
place-holds m es (place.Slot n i) durable = inl durable

-- ---- places that are to hold what is durable, by the acts and by the heap

module _ (laws : Laws) (o : Opening) (m : Machine) (es : List Entry) (k : KeepsRun o m es) where
  pub holds-durable : (place : Place) → IsToHoldDurable (known_in o m) es place → HoldsDurable m.spaces es place
  holds-durable (place.Static f) is = (laws.barriers.places o m es k (place.Static f)).0 is
  holds-durable (place.Slot n i) (inl is) = inl ((k.asked.durable n).0 is)
  holds-durable (place.Slot n i) (inr copied) = inr copied

  pub to-hold : (place : Place) → HoldsDurable m.spaces es place → IsToHoldDurable (known_in o m) es place
  to-hold (place.Static f) is = (laws.barriers.places o m es k (place.Static f)).1 is
  to-hold (place.Slot n i) (inl is) = inl ((k.asked.durable n).1 is)
  to-hold (place.Slot n i) (inr copied) = inr copied

module _ (laws : Laws) (o : Opening) (first : ℕ) (set : SetFacts) (s : Shared) (es : List Entry)
    (threads : List ThreadFrames) (t : ℕ) (fs : ThreadFrames) (request : Request Ref Item) (store : Store)
    (h : HasPlanned o first set s es threads t fs request store) where
  abbrev pub goal : Place
  goal = place_of store.target

  abbrev pub value : Value
  value = value_in s.machine store.kept

  abbrev plain : PlainRequest
  plain = plain_request (shown_in s.machine).number request

  pub asks-store : AsksStore o.launch.set (shown_in s.machine) s.machine.rest t request goal store.kept
  asks-store = subst (λ (x : SetFacts). AsksStore x (shown_in s.machine) s.machine.rest t request goal
      store.kept)
      h.due.facts h.planned.asks

  pub is-store : IsStoreOf o s.machine t request goal store.kept
  is-store = record { fit = fits laws o first set s es threads t fs request h.due h.ready; asks = asks-store }

  -- the plain machine asks this
  pub plain-asks : request_after o.launch.set o.launch.main o.launch.opening (plain_code o.launch)
      s.machine.acts t
      ≡ Some plain
  plain-asks = (asked laws o first set s es threads t fs request h.due h.ready).plain

  -- and stores so
  pub plain-stores : step o.launch.set (known_in o s.machine).world t 1 plain ≡ stored_as goal value
  plain-stores = ap (λ w. step o.launch.set w t 1 plain) h.due.running.keeps.world.world
      ∙ stores-anyhow o.launch.set (shown_in s.machine) s.machine.rest t (roots_in o s.machine) 1 plain
      goal value
      asks-store

  -- so it waits for nothing in the plain world
  pub waits-none : plain_waits o s.machine t ≡ None
  waits-none = laws.threads.wait o s.machine es threads h.due.running.keeps h.due.running.plain t fs request h.ready
      h.due.asks ∙ ap wait_of plain-stores

  -- ---- what is pending

  own : KeepsThread o s.machine es t fs
  own = h.due.running.all.each t fs h.due.asks.frames

  module _ (p : Pending) (is : pending_of (known_in o s.machine).asked t ≡ Some p) where
    same-step : stored_as p.place p.value ≡ stored_as goal value
    same-step =
        let asks = own.about p is in
        let same : asks.0 ≡ plain = some-same asks.0 plain (sym asks.2 ∙ plain-asks) in
        ap (λ (v : Value). stored_as p.place v) asks.3
        ∙ sym (subst (λ (q : PlainRequest). step o.launch.set (known_in o s.machine).world t 1 q
        ≡ stored_as p.place (Object asks.1)) same asks.4.does) ∙ plain-stores

    pub same-place : p.place ≡ goal
    same-place = let e = same-step in cc

    pub same-value : p.value ≡ value
    same-value = let e = same-step in cc

    pub holds-goal : HoldsDurable s.machine.spaces es goal
    holds-goal = holds-durable laws o s.machine es h.due.running.keeps goal
        (subst (IsToHoldDurable (known_in o s.machine) es) same-place (own.holds p is))

  -- ---- where nothing is to be converted first

  module _ (follows : MayFollow s.machine.spaces store) where
    kept-holds : HoldsDurable s.machine.spaces es goal → is_volatile (known_in o s.machine).durable value ≡ false
    kept-holds = laws.barriers.durable o s.machine es h.due.running.keeps store follows

    pub kept-durable : durable_at (known_in o s.machine) goal ≡ true
        → is_volatile (known_in o s.machine).durable value ≡ false
    kept-durable durable = kept-holds
        (place-holds s.machine es goal ((laws.barriers.places o s.machine es h.due.running.keeps goal).0 durable))

    -- so what was asked is durable
    free-in : (d : Doing) → IsReady d → IsFree o s.machine es t d
    free-in Nothing ready = tt
    free-in Converting ready = λ p n is named.
        let value-is : value ≡ Object n = sym (same-value p is) ∙ named in
        let kept : is_volatile (known_in o s.machine).durable (Object n) ≡ false =
        subst (λ (v : Value). is_volatile (known_in o s.machine).durable v ≡ false) value-is
        (kept-holds (holds-goal p is)) in
        (h.due.running.keeps.asked.durable n).0 (durable-from _ kept)
    free-in (Writing line) (inl e) = absurd (let no = e in cc)
    free-in (Writing line) (inr e) = absurd (let no = e in cc)
    free-in Fencing (inl e) = absurd (let no = e in cc)
    free-in Fencing (inr e) = absurd (let no = e in cc)

    pub is-free : IsFree o s.machine es t (doing_of s.machine t)
    is-free = free-in (doing_of s.machine t) h.ready
