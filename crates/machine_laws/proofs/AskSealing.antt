-- A seal and its act: what is sealed was wanted and refers to what is sealed, and what was asked is kept.
use Rattle.std.proofs.Common.{◌≡◌, ◌⊎◌, inl, inr, ℕ, ◌+◌, ◌*◌, ◌/◌, ◌%◌, ◌<◌, Bool, true, false, List, [], ◌∷◌, ◌++◌, length}
use Rattle.std.proofs.Common.{refl, sym, ◌∙◌, ap, subst, arith, Option}
use Rattle.std.specs.Prelude.{slice_index_or}
use Rattle.graph_model.specs.declared.types.Heap.{Heap}
use Rattle.graph_model.specs.Heaps.{has_number}
use Rattle.graph_model.specs.Reach.{Refers}
use Rattle.line_memory.specs.Memory.{Memory, shown}
use Rattle.run_history.specs.declared.act.Op.TheVariants as op
use Rattle.run_history.specs.Recorded.{Recorded}
use Rattle.run_history.specs.Knowing.{pending_of, unfenced_at, next_known}
use Rattle.run_history.specs.Wanted.{IsClosed}
use Rattle.plain_model.specs.Runs.{MayJoin}
use Rattle.twin_forms.specs.declared.kinds.ShapeKinds.{ShapeKinds}
use Rattle.twin_forms.specs.Table.{Entry, entry, View, Names, IsClaimed, InP, refers, word_of, number_of, is_reference}
use Rattle.twin_forms.specs.Sights.{Twin, view_of, slot_kind}
use Rattle.twin_forms.proofs.Led.{number_is, word_moved}
use Rattle.convert_queue.specs.Queues.{Queued, queue_of}
use Rattle.convert_queue.specs.Threads.{has}
use Rattle.convert_words.specs.declared.step.ConvertStep.TheVariants as step
use Rattle.convert_words.specs.Agreeing.{Is}
use Rattle.convert_words.specs.Scenes.{Scene}
use Rattle.convert_words.specs.Sealing.{SealedBy, OfSet, Refers as RefersWord}
use Rattle.convert_words.specs.Converting.{SealsGroup}
use Rattle.machine_forms.specs.declared.doing.Doing.{Doing}
use Rattle.machine_forms.specs.declared.doing.Doing.TheVariants.{Nothing, Converting}
use Rattle.machine_forms.specs.Machines.{Opening, Machine, known_in, wants_in, roots_in, memory_of, scene_of, doing_of}
use Rattle.machine_forms.specs.Machines.{layout_in}
use Rattle.machine_forms.specs.Keeping.{IsDoing, KeepsRun, KeepsAsked}
use Rattle.machine_forms.specs.Events.{ConvertsOn, Seals, with_joined, act_in}
use Rattle.machine_laws.specs.AskLaws.{MayCome}
use Rattle.machine_laws.proofs.Acts.{asked-next, unfenced-next, durable-next, roots-next}
use Rattle.machine_laws.proofs.Closed.{of_known, is_closed_by, joined, has_number-append_right}
use Rattle.plain_model.proofs.Durable.{has_number-append_left, has_number-append_cases}
use Rattle.machine_laws.proofs.Coming.{heap-next}
use Rattle.machine_laws.proofs.Lists.{all-numbers}
use Rattle.machine_laws.proofs.Steps.{step-whole}
use Rattle.machine_laws.proofs.AskTables.{durable-line, is-kept, is-back, same-item}
use Rattle.machine_laws.proofs.Words.{LeadsTo, refers-slot}
use Rattle.machine_laws.proofs.AskKeeping.{few-calls, later-calls, doing-kept, line-in, is-queues, are-durable, durable-in}
use Rattle.machine_laws.proofs.AskKeeping.{in-durable, not-durable, claimed-outside}
use Rattle.machine_laws.proofs.AskActing.{Acted, acted-keeps, outside-regions}
use Rattle.machine_laws.proofs.Converted.{memory-at, counted, lies-at, lies-after, heap-is}
use Rattle.plain_model.specs.Requests.{PlainRequest}

module _ (o : Opening) (m : Machine) (es : List Entry) (k : KeepsRun o m es) (m' : Machine) (t set : ℕ)
    (named : List ℕ) (s : Seals t set named m m' es) where
  abbrev c : ConvertsOn t (step.Sealed set) m m' es
  c = s.converts

  abbrev at : Scene
  at = c.event.at

  abbrev after : List Entry
  after = c.event.after

  abbrev v : View
  v = view_of m.spaces.twin

  abbrev v' : View
  v' = view_of m'.spaces.twin

  abbrev act : Recorded
  act = act_in m' t op.Joined named

  says : SealsGroup at (scene_of m') es after t set
  says = c.event.converts.says

  -- ---- what is sealed refers to what is sealed

  same-kinds : m'.spaces.twin.marks.kinds ≡ m.spaces.twin.marks.kinds
  same-kinds = c.event.converts.kinds ∙ ap (λ (x : Twin). x.marks.kinds) c.event.goes_on.heap

  same-memory : memory_of m' ≡ memory_of m
  same-memory = says.memory ∙ memory-at o m es k m' t (step.Sealed set) c

  refers-same : (e : Entry) (j : ℕ) → refers v' e j ≡ refers v e j
  refers-same e j = ap (λ (ks : List ShapeKinds). is_reference (slot_kind ks e.shape j)) same-kinds

  shown-same : (p : ℕ) → v'.shown p ≡ v.shown p
  shown-same p = ap (λ (x : Memory). shown x (p / 8) (p % 8)) same-memory

  -- the object of a sealed number is forwarded
  stands : (y : ℕ) → SealedBy es set y → (y < length es) × (1 < (entry es y).stage)
  stands y (inl p) = (p.0, p.1)
  stands y (inr those) = (
    those.2.0,
    (let two = says.fenced.forwarded those.0 y those.1 those.2 in omega (arith, two)),
  )

  -- a kept word of a sealed object leads to a sealed one
  word-leads : (x j n w : ℕ) → w ≡ word_of v (entry es x) j → LeadsTo v (entry es x) j n
      → RefersWord es (SealedBy es set) w → SealedBy es set n
  word-leads x j n w is leads (inl none) = absurd (let some = leads.some in omega (arith, is, none, some))
  word-leads x j n w is leads (inr to) =
      let y = to.0 in
      let here = stands y to.1 in
      let names : Names (entry es y) w = inr (here.1, to.2, to.3) in
      let same : y ≡ n = sym (number_is v es y w k.heap.whole.lies here.0 names) ∙ ap (number_of v) is
      ∙ leads.number in
      subst (SealedBy es set) same to.1

  slot-leads : (u x j n : ℕ) → has set u ≡ true → IsClaimed es u x → j < (entry es x).slots
      → LeadsTo v (entry es x) j n → SealedBy es set n
  slot-leads u x j n in_set claimed slot leads =
      let two = says.fenced.forwarded u x in_set claimed in
      let p = 8 * (entry es x).line + 1 + j in
      let word : v'.shown p ≡ word_of v (entry es x) j
      = shown-same p ∙ sym (word_moved v (entry es x) j (omega (arith, two))) in
      word-leads x j n (v'.shown p) word leads
      (says.fenced.refers u x j (v'.shown p) in_set claimed (refers-same (entry es x) j ∙ leads.reference)
      refl slot
      (inl refl))

  object-leads : (x n : ℕ) → OfSet es set x → Refers (known_in o m).world.heap x n → SealedBy es set n
  object-leads x n those refers_to =
      let at_slot = refers-slot m.spaces (roots_in o m) es k.heap.whole.lies x n those.2.0
      (subst (λ (h : Heap). Refers h x n) (heap-is o m es k) refers_to) in
      slot-leads those.0 x at_slot.0 n those.1 those.2 at_slot.1 at_slot.2

  sealed-has : (n : ℕ) → SealedBy es set n
      → (has_number (known_in o m).durable n ≡ true) ⊎ (has_number named n ≡ true)
  sealed-has n (inl p) = inl (in-durable o m es k n p)
  sealed-has n (inr those) = inr ((s.names.those n).1 those)

  durable-now : (next_known (known_in o m) act).durable ≡ (known_in o m).durable ++ named
  durable-now = durable-next (known_in o m) act

  closed-now : IsClosed (next_known (known_in o m) act)
  closed-now = is_closed_by (next_known (known_in o m) act) (known_in o m).world.heap
      ((known_in o m).durable ++ named) (heap-next (known_in o m) act) durable-now
      (joined (known_in o m).world.heap (known_in o m).durable (of_known (known_in o m) k.asked.closed) named
      (λ x n in_named refers_to. sealed-has n (object-leads x n ((s.names.those x).0 in_named) refers_to)))

  -- ---- the act may come

  is-converting : IsDoing (known_in o m) (layout_in o es) t Converting
  is-converting = subst (IsDoing (known_in o m) (layout_in o es) t) c.doing (k.asked.doing t)

  may-join : MayJoin (known_in o m) (wants_in o m) named
  may-join = record {
    some = s.names.some;
    once = s.names.once;
    volatile = all-numbers (λ n. has_number (known_in o m).durable n ≡ false) named (λ n in_named.
        (let those = (s.names.those n).0 in_named in
        not-durable o m es k n (claimed-outside o m es k those.0 n those.2)));
    wanted = all-numbers (λ n. (u : ℕ) × wants_in o m u n) named (λ n in_named.
        (let those = (s.names.those n).0 in_named in (those.0, k.asked.wanted those.0 n those.2)));
  }

  -- ---- what is kept

  still-there : (n : ℕ) → InP es n → InP after n
  still-there n p = (says.durable n).1 (inl p)

  lines-now : (n : ℕ) → InP es n → (layout_in o after).line_of n ≡ (layout_in o es).line_of n
  lines-now n p =
      line-in o after n (still-there n p)
      ∙ durable-line (view_of at.heap) v' es after (lies-at o m es k m' t (step.Sealed set) c)
      (lies-after o m es k m' t (step.Sealed set) c) c.event.converts.shows n p
      ∙ sym (line-in o es n p)

  about-now : (u : ℕ) → IsDoing (next_known (known_in o m) act) (layout_in o after) u (doing_of m' u)
  about-now u = subst (λ (ds : List Doing). IsDoing (next_known (known_in o m) act) (layout_in o after) u
      (slice_index_or ds u Nothing)) (sym (ap (λ (x : Machine). x.doing) c.same))
      (doing-kept (known_in o m) (next_known (known_in o m) act) (layout_in o es) (layout_in o after) u
      (doing_of m u)
      (record {
        durable = are-durable o m es k;
        roots = roots-next (known_in o m) act;
        lines = λ n is. lines-now n (durable-in o m es k n is);
        size = refl;
        pending = ap (λ ps. pending_of ps u) (asked-next (known_in o m) act);
        unfenced = ap (λ us. unfenced_at us u) (unfenced-next (known_in o m) act);
      }) (k.asked.doing u))

  -- who has something queued is no thread of the set, and has what it had
  queue-same : (u i n : ℕ) → Is m'.queue after u i n → queue_of m'.queue u ≡ queue_of at.queue u
  queue-same u i n is = by_set (has set u) refl
    where
      by_set : (b : Bool) → has set u ≡ b → queue_of m'.queue u ≡ queue_of at.queue u
      by_set true e = absurd (let none = ap length (says.released.empty u e) in let lt = is.within in omega
          (arith, none, lt))
      by_set false e = says.released.kept u e

  was-queued : (u i n : ℕ) → Is m'.queue after u i n → Is m.queue es u i n
  was-queued u i n is = is-queues at.queue m.queue es u i n (sym c.event.goes_on.queues)
      (is-back (view_of at.heap) v' es after (lies-at o m es k m' t (step.Sealed set) c)
      (lies-after o m es k m' t (step.Sealed set) c) c.event.converts.shows at.queue m'.queue
      c.event.goes_on.agrees.queued u i n (same-item at.queue m'.queue u i (queue-same u i n is) is.within)
      is)

  first-still : (u i n : ℕ) → Is m'.queue after u i n → (x : ℕ) → Is m.queue es u 0 x
      → Is m'.queue after u 0 x
  first-still u i n is x first =
      let own = is-queues m.queue at.queue es u 0 x c.event.goes_on.queues first in
      let same = queue-same u i n is in
      is-kept (view_of at.heap) v' es after (lies-at o m es k m' t (step.Sealed set) c)
      (lies-after o m es k m' t (step.Sealed set) c) c.event.converts.shows at.queue m'.queue
      c.event.converts.agrees.queued u 0 x
      (same-item at.queue m'.queue u 0 same
      (subst (λ (xs : List Queued). 0 < length xs) (sym same) own.within)) own

  sealed-acted : Acted o m (with_joined m' t named) es after act
  sealed-acted = record {
    acts = ap (λ (x : Machine). x.acts ++ act ∷ []) c.same;
    regions = outside-regions o m (with_joined m' t named) es after k act
        (ap (λ (x : Machine). x.acts ++ act ∷ []) c.same) tt (ap (λ (x : Machine). x.logs) c.same) lines-now
        (λ u lt. step-whole o m es k m' t (step.Sealed set) c u lt);
    closed = closed-now;
    timed = omega arith;
    few = few-calls (memory_of m) (memory_of m') (counted o m es k m' t (step.Sealed set) c) k.asked.few;
    durable = λ n. (
      λ is. (says.durable n).1 (either n (has_number-append_cases (known_in o m).durable named n
          (sym (ap (λ ns. has_number ns n) durable-now) ∙ is))),
      λ p. ap (λ ns. has_number ns n) durable-now ∙ both n (sealed-has n ((says.durable n).0 p)),
    );
    doing = about-now;
    threads = ap (λ (x : Machine). length x.doing) c.same ∙ k.asked.threads;
    queued = λ u i n is. (
      was-queued u i n is,
      ap (λ ps. pending_of ps u) (asked-next (known_in o m) act),
      first-still u i n
          is,
    );
    claimed = λ u n claimed. (let there = c.event.converts.agrees.queued.all u n claimed in (
      (was-queued u there.0 n there.1).claimed,
      ap (λ ps. pending_of ps u) (asked-next (known_in o m) act),
    ));
  }
    where
      either : (n : ℕ) → (has_number (known_in o m).durable n ≡ true) ⊎ (has_number named n ≡ true)
          → SealedBy es set n
      either n (inl is) = inl (durable-in o m es k n is)
      either n (inr is) = inr ((s.names.those n).0 is)

      both : (n : ℕ) → (has_number (known_in o m).durable n ≡ true) ⊎ (has_number named n ≡ true)
          → has_number ((known_in o m).durable ++ named) n ≡ true
      both n (inl is) = has_number-append_left (known_in o m).durable named n is
      both n (inr is) = has_number-append_right (known_in o m).durable named n is

pub seals-come : (o : Opening) (m : Machine) (es : List Entry) (k : KeepsRun o m es)
    (m' : Machine) (t set : ℕ) (named : List ℕ) (asks : Option PlainRequest) → Seals t set named m m' es
    → MayCome o m asks (act_in m' t op.Joined named)
seals-come o m es k m' t set named asks s = record {
  later = (let before = k.asked.timed in
      let later = later-calls (memory_of m) (memory_of m')
      (counted o m es k m' t (step.Sealed set) s.converts) k.asked.few in
      omega (arith, before, later));
  rule = may-join o m es k m' t set named s;
  named = tt;
  fence = sym (is-converting o m es k m' t set named s).1;
  is_closed = closed-now o m es k m' t set named s;
}

pub seals-keep : (o : Opening) (m : Machine) (es : List Entry) (k : KeepsRun o m es)
    (m' : Machine) (t set : ℕ) (named : List ℕ) (s : Seals t set named m m' es)
    → KeepsAsked o (with_joined m' t named) s.converts.event.after
seals-keep o m es k m' t set named s =
    acted-keeps o m (with_joined m' t named) es s.converts.event.after k (act_in m' t op.Joined named)
    (sealed-acted o m es k m' t set named s)
