-- A fence, and what a thread asks: the act may come next, and what was asked is kept.
use Rattle.std.proofs.Common.{◌≡◌, ◌≢◌, ◌⊎◌, inl, inr, ℕ, Bool, true, List, [], length, Some, refl, sym, ◌∙◌, ap, subst, arith}
use Rattle.std.proofs.Common.{Option}
use Rattle.std.proofs.lemmas.List.{length-set}
use Rattle.ap_base.specs.declared.place.Place.{Place}
use Rattle.ap_base.specs.declared.reference.Ref.{Ref}
use Rattle.ap_base.specs.declared.reference.Item.{Item}
use Rattle.natives.specs.declared.requests.Request.{Request}
use Rattle.graph_model.specs.declared.types.Value.{Value}
use Rattle.graph_model.specs.Heaps.{has_number}
use Rattle.run_history.specs.declared.act.Op.TheVariants as op
use Rattle.run_history.specs.Recorded.{Recorded}
use Rattle.run_history.specs.Knowing.{Knowledge, pending_of, owes_fence, unfenced_at, next_known}
use Rattle.run_history.specs.Wanted.{IsClosed}
use Rattle.plain_model.specs.Steps.{op_of, step}
use Rattle.plain_model.specs.Runs.{IsAbout, IsKeptSlotOfWanted, MayAct}
use Rattle.shared_objects.specs.Plain.{plain_request}
use Rattle.twin_forms.specs.Table.{Entry, InP}
use Rattle.twin_forms.specs.Sights.{Twin, view_of}
use Rattle.two_spaces.proofs.Shifting.{objects_long}
use Rattle.convert_words.specs.Agreeing.{Is}
use Rattle.machine_forms.specs.declared.doing.Doing.{Doing}
use Rattle.machine_forms.specs.declared.doing.Doing.TheVariants.{Nothing, Converting, Fencing}
use Rattle.machine_forms.specs.Machines.{Opening, Machine, known_in, wants_in, roots_in, memory_of, shown_in, doing_of}
use Rattle.machine_forms.specs.Machines.{layout_in}
use Rattle.machine_forms.specs.Keeping.{IsDoing, KeepsRun, KeepsAsked}
use Rattle.machine_forms.specs.Events.{MakesFence, with_twin, with_fence, act_in, AsksFor, IsStoreOf, IsSlotOfClaimed}
use Rattle.machine_forms.specs.Events.{with_asked, value_in}
use Rattle.machine_laws.specs.AskLaws.{MayCome}
use Rattle.machine_laws.proofs.Acts.{asked-next, unfenced-next, unfenced-without_own, owes_none, owes_some, pending-own}
use Rattle.machine_laws.proofs.Asking.{stores-anyhow}
use Rattle.machine_laws.proofs.Coming.{AreThere, LeavesClosed, closed-next, durable-same}
use Rattle.machine_laws.proofs.Lists.{set-within}
use Rattle.machine_laws.proofs.Changes.{whole-same, whole-call}
use Rattle.machine_laws.proofs.AskKeeping.{few-calls, is-queues, none-queued, not-durable, durable-in}
use Rattle.machine_laws.proofs.AskActing.{Acted, acted-keeps, outside-regions, doing-after, holder-asks, claimer-asks}
use Rattle.plain_model.specs.Requests.{PlainRequest}

-- ---- one machine

module _ (o : Opening) (m : Machine) (es : List Entry) (k : KeepsRun o m es) where
  abbrev known : Knowledge
  known = known_in o m

  -- durable objects are there
  pub are-there : AreThere known
  are-there n is =
      let below = (durable-in o m es k n is).0 in
      let all : length known.world.heap.objects ≡ length es
      = ap (λ w. length w.heap.objects) k.world.world
      ∙ objects_long m.spaces.classes (view_of m.spaces.twin) es k.heap.whole.lies in
      omega (arith, below, all)

  -- an act that changes no object and no list of durable objects
  pub same-closed : (a : Recorded) → LeavesClosed known a.act.op → IsClosed (next_known known a)
  same-closed a leaves = closed-next known a leaves are-there k.asked.closed

  pub same-durable : (a : Recorded) → LeavesClosed known a.act.op → (n : ℕ)
      → (has_number (next_known known a).durable n ≡ true → InP es n)
      × (InP es n → has_number (next_known known a).durable n ≡ true)
  same-durable a leaves n =
      let same = ap (λ ns. has_number ns n) (durable-same known a leaves) in
      (λ is. (k.asked.durable n).0 (sym same ∙ is), λ p. same ∙ (k.asked.durable n).1 p)

-- ---- fences

fencing : (d : Doing) → d ≡ Fencing → d ≢ Nothing
fencing d is nothing = let no : Fencing ≡ Nothing = sym is ∙ nothing in cc

module _ (o : Opening) (m : Machine) (es : List Entry) (k : KeepsRun o m es) (twin : Twin) (t : ℕ)
    (f : MakesFence m twin t) where
  abbrev fence : Recorded
  fence = act_in (with_twin m twin) t op.Fenced []

  is-fencing : IsDoing (known_in o m) (layout_in o es) t Fencing
  is-fencing = subst (IsDoing (known_in o m) (layout_in o es) t) f.doing (k.asked.doing t)

  fence-acted : Acted o m (with_fence m twin t) es es fence
  fence-acted = record {
    acts = refl;
    regions = outside-regions o m (with_fence m twin t) es es k fence refl tt refl (λ n p. refl)
        (λ u lt. whole-call o m es k twin.memory u lt f.calls.call.keeps f.calls.call.known_after);
    closed = same-closed o m es k fence tt;
    timed = omega arith;
    few = few-calls (memory_of m) twin.memory f.calls.count k.asked.few;
    durable = same-durable o m es k fence tt;
    doing = doing-after o m (with_fence m twin t) es es k fence Nothing
        (set-within m.doing t Nothing (fencing (doing_of m t) f.doing)) (λ n p. refl) (
          ap (λ ps. pending_of ps t) (asked-next (known_in o m) fence) ∙ is-fencing.0,
          owes_none (next_known (known_in o m) fence).unfenced t
              (ap (λ us. unfenced_at us t) (unfenced-next (known_in o m) fence)
              ∙ unfenced-without_own (known_in o m).unfenced t),
        );
    threads = length-set m.doing t Nothing ∙ k.asked.threads;
    queued = λ u i n is. (
      is-queues (with_fence m twin t).queue m.queue es u i n refl is,
      ap (λ ps. pending_of ps u) (asked-next (known_in o m) fence),
      λ x h. is-queues m.queue (with_fence m twin t).queue es u 0 x refl h,
    );
    claimed = λ u n c. (c, ap (λ ps. pending_of ps u) (asked-next (known_in o m) fence));
  }

pub fences-come : (o : Opening) (m : Machine) (es : List Entry) (k : KeepsRun o m es) (twin : Twin)
    (t : ℕ) (asks : Option PlainRequest) → MakesFence m twin t
    → MayCome o m asks (act_in (with_twin m twin) t op.Fenced [])
fences-come o m es k twin t asks f = record {
  later = (let before = k.asked.timed in let later = f.calls.later in omega (arith, before, later));
  rule = tt;
  named = refl;
  fence = sym (owes_some (known_in o m).unfenced t (is-fencing o m es k twin t f).1.0
      (is-fencing o m es k twin t f).1.1);
  is_closed = same-closed o m es k (fence o m es k twin t f) tt;
}

pub fences-keep : (o : Opening) (m : Machine) (es : List Entry) (k : KeepsRun o m es) (twin : Twin)
    (t : ℕ) → MakesFence m twin t → KeepsAsked o (with_fence m twin t) es
fences-keep o m es k twin t f =
    acted-keeps o m (with_fence m twin t) es es k (fence o m es k twin t f) (fence-acted o m es k twin t f)

-- ---- what is asked

-- the plain step of a store that a request asks
pub about-store : (o : Opening) (m : Machine) (es : List Entry) (k : KeepsRun o m es) (t : ℕ)
    (request : Request Ref Item) (place : Place) (item : Item) → IsStoreOf o m t request place item
    → IsAbout o.launch.set (known_in o m) (Some (plain_request (shown_in m).number request)) t
    (op.Stored place (value_in m item))
about-store o m es k t request place item stores = ap op_of (
    ap (λ w. step o.launch.set w t 1 (plain_request (shown_in m).number request)) k.world.world
    ∙ stores-anyhow o.launch.set (shown_in m) m.rest t (roots_in o m) 1
    (plain_request (shown_in m).number request) place (value_in m item) stores.asks)

module _ (o : Opening) (m : Machine) (es : List Entry) (k : KeepsRun o m es) (t : ℕ)
    (request : Request Ref Item)
    (place : Place) (item : Item) (asks : AsksFor o m es t request place item) where
  abbrev value : Value
  value = value_in m item

  abbrev asked : Recorded
  asked = act_in m t (op.Asked place value) []

  is-idle : IsDoing (known_in o m) (layout_in o es) t Nothing
  is-idle = subst (IsDoing (known_in o m) (layout_in o es) t) asks.doing (k.asked.doing t)

  holder : (d : Bool) → d ≡ true ⊎ IsSlotOfClaimed es place
      → (d ≡ true) ⊎ IsKeptSlotOfWanted (known_in o m) (wants_in o m) place
  holder d (inl durable) = inl durable
  holder d (inr slot) = inr (record {
    thread = slot.thread;
    object = slot.object;
    slot = slot.slot;
    is_slot = slot.is;
    is_kept = refl;
    wanted = k.asked.wanted slot.thread slot.object slot.claimed;
  })

  pub ask-comes : MayAct o.launch.set (known_in o m) (wants_in o m)
      (Some (plain_request (shown_in m).number request)) asked
  ask-comes = record {
    later = k.asked.timed;
    rule = record {
      none_pending = is-idle.0;
      is_about = about-store o m es k t request place item asks.stores;
      volatile = (asks.object, asks.value, not-durable o m es k asks.object asks.volatile);
      holder = holder _ asks.holder;
    };
    named = refl;
    fence = sym is-idle.1;
    is_closed = same-closed o m es k asked tt;
  }

  ask-acted : Acted o m (with_asked m t place value) es es asked
  ask-acted = record {
    acts = refl;
    regions = outside-regions o m (with_asked m t place value) es es k asked refl tt refl (λ n p. refl)
        (λ u lt. whole-same o m es k (memory_of m) u lt refl);
    closed = same-closed o m es k asked tt;
    timed = omega arith;
    few = k.asked.few;
    durable = same-durable o m es k asked tt;
    doing = doing-after o m (with_asked m t place value) es es k asked Converting
        (let all = k.asked.threads in let lt = asks.thread in omega (arith, all, lt)) (λ n p. refl) (
          (
            record { thread = t; place = place; value = value },
            ap (λ ps. pending_of ps t) (asked-next (known_in o m) asked)
                ∙ pending-own (known_in o m).asked (record { thread = t; place = place; value = value }) t
                refl
                is-idle.0,
          ),
          ap (λ us. owes_fence us t) (unfenced-next (known_in o m) asked) ∙ is-idle.1,
        );
    threads = length-set m.doing t Converting ∙ k.asked.threads;
    queued = λ u i n is.
        (is, holder-asks o m (with_asked m t place value) es es k asked none u i n is, λ x h. h);
    claimed = λ u n c. (c, claimer-asks o m (with_asked m t place value) es es k asked none u n c);
  }
    where
      none : (i n : ℕ) → Is m.queue es t i n → ⊥
      none i n is = none-queued o m es k t i n is-idle.0 is

pub asks-keep : (o : Opening) (m : Machine) (es : List Entry) (k : KeepsRun o m es) (t : ℕ)
    (request : Request Ref Item) (place : Place) (item : Item) → AsksFor o m es t request place item
    → KeepsAsked o (with_asked m t place (value_in m item)) es
asks-keep o m es k t request place item asks =
    acted-keeps o m (with_asked m t place (value_in m item)) es es k
    (asked o m es k t request place item asks)
    (ask-acted o m es k t request place item asks)
