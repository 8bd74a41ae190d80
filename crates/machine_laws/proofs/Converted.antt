-- Steps of conversions that seal nothing leave what was asked, and what is claimed is wanted.
use Rattle.std.proofs.Common.{◌≡◌, ◌≢◌, ◌⊎◌, inl, inr, ◌↔◌, ℕ, ◌+◌, ◌<◌, true, List, [], ◌∷◌, ◌++◌, length, refl, sym, ◌∙◌, ap}
use Rattle.std.proofs.Common.{subst, arith}
use Rattle.std.specs.Prelude.{slice_set, slice_index_or}
use Rattle.std.proofs.lemmas.List.{length_push, get_or-set_same, get_or-set_other, get_or_append_left}
use Rattle.graph_model.specs.declared.types.Heap.{Heap}
use Rattle.graph_model.specs.Reach.{Refers}
use Rattle.line_memory.specs.Memory.{Memory, SameImage, OneCall}
use Rattle.line_memory.specs.Moments.{KeepsShown}
use Rattle.run_history.specs.Wanted.{NoWish}
use Rattle.shared_objects.specs.Worlds.{heap_of}
use Rattle.twin_forms.specs.Table.{Entry, entry, View, Names, Lies, IsClaimed, InP, refers, word_of}
use Rattle.twin_forms.specs.Moves.{SameHeap}
use Rattle.twin_forms.specs.Sights.{Twin, view_of}
use Rattle.twin_forms.proofs.Led.{same_or_not}
use Rattle.convert_queue.specs.Queues.{Queues, Queued, queue_in, queue_of}
use Rattle.convert_words.specs.declared.step.ConvertStep.{ConvertStep}
use Rattle.convert_words.specs.declared.step.ConvertStep.TheVariants as step
use Rattle.convert_words.specs.Agreeing.{Is, Queueing}
use Rattle.convert_words.specs.Steps.{OneBecomes, claimed_at}
use Rattle.convert_words.specs.Scenes.{Scene}
use Rattle.convert_words.specs.Converting.{Says, Calls, TakesIn}
use Rattle.machine_forms.specs.Machines.{Opening, Machine, first_of, known_in, wants_in, roots_in, memory_of, shown_in}
use Rattle.machine_forms.specs.Machines.{scene_of}
use Rattle.machine_forms.specs.Keeping.{QueuesFirst, KeepsAsked, KeepsRun}
use Rattle.machine_forms.specs.Events.{ConvertsOn, IsNoSeal, FailsOn}
use Rattle.machine_laws.proofs.Wishes.{wants-closed}
use Rattle.machine_laws.proofs.AskTables.{HasItem, durable-line, is-kept, is-back, same-durable, same-item}
use Rattle.machine_laws.proofs.Words.{slot-refers, leads-named}
use Rattle.machine_laws.proofs.AskKeeping.{few-calls, later-calls, is-queues, first-kept}
use Rattle.machine_laws.proofs.Quiet.{Quiet, quiet-keeps, quiet-regions}
use Rattle.machine_laws.proofs.Changes.{whole-call}
use Rattle.machine_laws.proofs.Steps.{step-whole}

-- ---- a claim

-- One object is claimed, and stands behind the thread's queue.
pub record Claims (q q' : Queues) (es es' : List Entry) (t m line : ℕ) : Type 0 where
  pub thread : t < length q.queues
  pub becomes : OneBecomes m (claimed_at t line (entry es m)) es es'
  pub queues : q'.queues ≡ slice_set q.queues t (queue_of q t ++ ((entry es m).at, line) ∷ [])

module _ (q q' : Queues) (es es' : List Entry) (t m line : ℕ) (claims : Claims q q' es es' t m line) where
  own-queue : queue_of q' t ≡ queue_of q t ++ ((entry es m).at, line) ∷ []
  own-queue = ap (λ (qs : List (List Queued)). queue_in qs t) claims.queues
      ∙ get_or-set_same q.queues t (queue_of q t ++ ((entry es m).at, line) ∷ []) [] claims.thread

  other-queue : (u : ℕ) → u ≢ t → queue_of q' u ≡ queue_of q u
  other-queue u other = ap (λ (qs : List (List Queued)). queue_in qs u) claims.queues
      ∙ get_or-set_other q.queues t u (queue_of q t ++ ((entry es m).at, line) ∷ []) [] other

  pub other-item : (u i : ℕ) → u ≢ t → i < length (queue_of q' u) → HasItem q q' u i
  other-item u i other still = same-item q q' u i (other-queue u other) still

  own-item : (i : ℕ) → i < length (queue_of q t) → HasItem q q' t i
  own-item i within = record {
    within = within;
    still = (let long = ap length own-queue in let more = length_push (queue_of q t) ((entry es m).at, line)
        in
        omega (arith, within, long, more));
    item = ap (λ (xs : List Queued). slice_index_or xs i (0, 0)) own-queue
        ∙ get_or_append_left (queue_of q t) (((entry es m).at, line) ∷ []) (0, 0) i within;
  }

  pub kept-item : (u i : ℕ) → i < length (queue_of q u) → HasItem q q' u i
  kept-item u i within = elim (same_or_not u t) [
    | inl same ↦ subst (λ x. HasItem q q' x i) (sym same)
        (own-item i (subst (λ x. i < length (queue_of q x)) same within))
    | inr other ↦ other-item u i other
        (subst (λ (xs : List Queued). i < length xs) (sym (other-queue u other)) within)
  ]

  pub claimed-by : (u n : ℕ) → IsClaimed es' u n → IsClaimed es u n ⊎ ((n ≡ m) × (u ≡ t))
  claimed-by u n c = elim (same_or_not n m) [
    | inl same ↦ (
        let own : (entry es' n).owner ≡ t + 1
        = ap (λ x. (entry es' x).owner) same ∙ ap (λ (e : Entry). e.owner) claims.becomes.here in
        let is = c.1 in inr (same, omega (arith, own, is)))
    | inr other ↦ inl (
      (let lt = c.0 in omega (arith, lt, claims.becomes.long)),
      ap (λ (e : Entry). e.owner) (sym (claims.becomes.others n other)) ∙ c.1,
    )
  ]

-- ---- steps over one heap

module _ (o : Opening) (m m' : Machine) (es es' : List Entry) (k : KeepsRun o m es) (v v' : View) (q : Queues)
    (lies : Lies v es) (lies' : Lies v' es') (same : SameHeap v es v' es') (queued : Queueing q es)
    (queued' : Queueing m'.queue es') (before : q.queues ≡ m.queue.queues) where
  -- where the thread's queue has all that it had, it begins with what was asked
  pub begins-still : (u : ℕ) → ((x : ℕ) → Is q es u 0 x → HasItem q m'.queue u 0) → (i n : ℕ) → Is q es u i n
      → QueuesFirst (known_in o m) m' es' u
  begins-still u has i n is = first-kept (known_in o m) (known_in o m) m m' es es' u refl
      (λ x first. (let own = is-queues m.queue q es u 0 x before first in
      is-kept v v' es es' lies lies' same q m'.queue queued' u 0 x (has x own) own))
      (k.asked.queued u i n (is-queues q m.queue es u i n (sym before) is))

  module _ (queues : m'.queue.queues ≡ q.queues) where
    items : (u i : ℕ) → i < length (queue_of m'.queue u) → HasItem q m'.queue u i
    items u i still = same-item q m'.queue u i (ap (λ (qs : List (List Queued)). queue_in qs u) queues) still

    was-queued : (u i n : ℕ) → Is m'.queue es' u i n → Is q es u i n
    was-queued u i n is = is-back v v' es es' lies lies' same q m'.queue queued u i n (items u i is.within) is

    pub queued-same : (u i n : ℕ) → Is m'.queue es' u i n → QueuesFirst (known_in o m) m' es' u
    queued-same u i n is = begins-still u (λ x first. items u 0
        (subst (λ (qs : List (List Queued)). 0 < length (queue_in qs u)) (sym queues) first.within))
        i n (was-queued u i n is)

    pub wanted-same : (u n : ℕ) → IsClaimed es' u n → wants_in o m u n
    wanted-same u n c =
        let there = queued'.all u n c in
        k.asked.wanted u n (was-queued u there.0 n there.1).claimed

  module _ (t object line : ℕ) (claims : Claims q m'.queue es es' t object line) where
    pub queued-claim : ((i n : ℕ) → Is m'.queue es' t i n → QueuesFirst (known_in o m) m' es' t)
        → (u i n : ℕ) → Is m'.queue es' u i n → QueuesFirst (known_in o m) m' es' u
    queued-claim own u i n is = elim (same_or_not u t) [
      | inl eq ↦ subst (QueuesFirst (known_in o m) m' es') (sym eq)
          (own i n (subst (λ x. Is m'.queue es' x i n) eq is))
      | inr other ↦ begins-still u
          (λ x first. kept-item q m'.queue es es' t object line claims u 0 first.within) i n
          (is-back v v' es es' lies lies' same q m'.queue queued u i n
          (other-item q m'.queue es es' t object line claims u i other is.within) is)
    ]

    pub wanted-claim : wants_in o m t object → (u n : ℕ) → IsClaimed es' u n → wants_in o m u n
    wanted-claim wants u n c = elim (claimed-by q m'.queue es es' t object line claims u n c) [
      | inl was ↦ k.asked.wanted u n was
      | inr new ↦ subst (λ x. wants_in o m x n) (sym new.1) (subst (wants_in o m t) (sym new.0) wants)
    ]

-- ---- what a step takes in is wanted

module _ (o : Opening) (m : Machine) (es : List Entry) (k : KeepsRun o m es) where
  pub heap-is : (known_in o m).world.heap ≡ heap_of (roots_in o m) (shown_in m)
  heap-is = ap (λ w. w.heap) k.world.world

  pub wants-referred : (u n j object : ℕ) → IsClaimed es u n → j < (entry es n).slots
      → refers (view_of m.spaces.twin) (entry es n) j ≡ true → object < length es
      → Names (entry es object) (word_of (view_of m.spaces.twin) (entry es n) j) → wants_in o m u object
  wants-referred u n j object c slot reference there names =
      wants-closed (first_of o) NoWish m.acts (λ a b d nothing refers. nothing) u n object
      (k.asked.wanted u n c)
      (subst (λ (h : Heap). Refers h n object) (sym heap-is)
      (slot-refers m.spaces (roots_in o m) es k.heap.whole.lies n j object c.0 slot
      (leads-named (view_of m.spaces.twin) es (entry es n) j object k.heap.whole.lies there reference names)))

-- ---- a step

-- a step that neither claims nor seals
abbrev IsPlain : ConvertStep → Type 0
IsPlain step.Claimed = ⊥
IsPlain (step.Sealed set) = ⊥
IsPlain answer = Unit {0}

plain-queues : (answer : ConvertStep) (t : ℕ) (s s' : Scene) (es es' : List Entry) → IsPlain answer
    → Says answer t s s' es es' → s'.queue.queues ≡ s.queue.queues
plain-queues step.Claimed t s s' es es' plain says = absurd plain
plain-queues (step.Sealed set) t s s' es es' plain says = absurd plain
plain-queues (step.Wait u) t s s' es es' plain says = ap (λ (x : Scene). x.queue.queues) says.1
plain-queues (step.Full need left) t s s' es es' plain says = ap (λ (x : Scene). x.queue.queues) says.1
plain-queues step.Touched t s s' es es' plain says = ap (λ (q : Queues). q.queues) says.0.queue
plain-queues step.WroteBack t s s' es es' plain says = ap (λ (q : Queues). q.queues) says.0.queue
plain-queues step.Fenced t s s' es es' plain says = ap (λ (q : Queues). q.queues) says.0.queue
plain-queues step.CopiedLine t s s' es es' plain says = ap (λ (q : Queues). q.queues) says.0.queue
plain-queues step.Forwarded t s s' es es' plain says = says.0.goes.queues
plain-queues step.Repaired t s s' es es' plain says = says.0.goes.queues

-- two tables of one scene
one-scene : (s s' : Scene) (es es' : List Entry) → Lies (view_of s.heap) es → Lies (view_of s'.heap) es' → s'
    ≡ s
    → (n : ℕ) → InP es' n ↔ InP es n
one-scene s s' es es' lies lies' same n =
    let own : Lies (view_of s.heap) es' = subst (λ (x : Scene). Lies (view_of x.heap) es') same lies' in
    (same-durable (view_of s.heap) es' es own lies n, same-durable (view_of s.heap) es es' lies own n)

says-durable : (answer : ConvertStep) (t : ℕ) (s s' : Scene) (es es' : List Entry) → IsNoSeal answer
    → Lies (view_of s.heap) es → Lies (view_of s'.heap) es' → Says answer t s s' es es'
    → (n : ℕ) → InP es' n ↔ InP es n
says-durable (step.Sealed set) t s s' es es' no_seal lies lies' says n = absurd no_seal
says-durable (step.Wait u) t s s' es es' no_seal lies lies' says n = one-scene s s' es es' lies lies' says.1 n
says-durable (step.Full need left) t s s' es es' no_seal lies lies' says n =
    one-scene s s' es es' lies lies' says.1 n
says-durable step.Claimed t s s' es es' no_seal lies lies' says n = says.1 n
says-durable step.Touched t s s' es es' no_seal lies lies' says n = says.1.0 n
says-durable step.WroteBack t s s' es es' no_seal lies lies' says n = says.1.0 n
says-durable step.Fenced t s s' es es' no_seal lies lies' says n = says.1.0 n
says-durable step.CopiedLine t s s' es es' no_seal lies lies' says n = says.1.0 n
says-durable step.Forwarded t s s' es es' no_seal lies lies' says n = says.1.0 n
says-durable step.Repaired t s s' es es' no_seal lies lies' says n = says.1.0 n

pub calls-count : (answer : ConvertStep) (old new : Memory) → Calls answer old new → SameImage old new
    ⊎ OneCall old new
calls-count step.Touched old new c = inr c
calls-count step.WroteBack old new c = inr c
calls-count step.Fenced old new c = inr c
calls-count step.Claimed old new c = inl c
calls-count step.CopiedLine old new c = inl c
calls-count step.Forwarded old new c = inl c
calls-count step.Repaired old new c = inl c
calls-count (step.Sealed set) old new c = inl c
calls-count (step.Wait u) old new c = inl c
calls-count (step.Full need left) old new c = inl c

module _ (o : Opening) (m : Machine) (es : List Entry) (k : KeepsRun o m es) (m' : Machine) (t : ℕ)
    (answer : ConvertStep) (c : ConvertsOn t answer m m' es) where
  abbrev at : Scene
  at = c.event.at

  abbrev after : List Entry
  after = c.event.after

  pub memory-at : at.heap.memory ≡ memory_of m
  memory-at = ap (λ (x : Twin). x.memory) c.event.goes_on.heap

  pub counted : SameImage (memory_of m) (memory_of m') ⊎ OneCall (memory_of m) (memory_of m')
  counted = subst (λ (x : Memory). SameImage x (memory_of m') ⊎ OneCall x (memory_of m')) memory-at
      (calls-count answer at.heap.memory (memory_of m') c.event.converts.calls)

  pub lies-at : Lies (view_of at.heap) es
  lies-at = c.event.goes_on.agrees.lies

  pub lies-after : Lies (view_of m'.spaces.twin) after
  lies-after = c.event.converts.agrees.lies

  quiet-by : ((n : ℕ) → InP after n ↔ InP es n)
      → ((u i n : ℕ) → Is m'.queue after u i n → QueuesFirst (known_in o m) m' after u)
      → ((u n : ℕ) → IsClaimed after u n → wants_in o m u n) → Quiet o m m' es after
  quiet-by durable queued wanted = record {
    acts = ap (λ (x : Machine). x.acts) c.same;
    about = ap (λ (x : Machine). x.doing) c.same;
    durable = durable;
    lines = durable-line (view_of at.heap) (view_of m'.spaces.twin) es after lies-at lies-after
        c.event.converts.shows;
    queued = queued;
    wanted = wanted;
    later = later-calls (memory_of m) (memory_of m') counted k.asked.few;
    few = few-calls (memory_of m) (memory_of m') counted k.asked.few;
    regions = quiet-regions o m m' es after k (ap (λ (x : Machine). x.acts) c.same)
        (ap (λ (x : Machine). x.logs) c.same) (λ n p. (durable n).1 p)
        (durable-line (view_of at.heap) (view_of m'.spaces.twin) es after lies-at lies-after
        c.event.converts.shows) (λ u lt. step-whole o m es k m' t answer c u lt);
  }

  plain-keeps : IsPlain answer → IsNoSeal answer → KeepsAsked o m' after
  plain-keeps plain no_seal =
      let queues = plain-queues answer t at (scene_of m') es after plain c.event.converts.says in
      quiet-keeps o m m' es after k (quiet-by
      (says-durable answer t at (scene_of m') es after no_seal lies-at lies-after c.event.converts.says)
      (queued-same o m m' es after k (view_of at.heap) (view_of m'.spaces.twin) at.queue lies-at lies-after
      c.event.converts.shows c.event.goes_on.agrees.queued c.event.converts.agrees.queued
      c.event.goes_on.queues queues)
      (wanted-same o m m' es after k (view_of at.heap) (view_of m'.spaces.twin) at.queue lies-at lies-after
      c.event.converts.shows c.event.goes_on.agrees.queued c.event.converts.agrees.queued
      c.event.goes_on.queues queues))

  claim-keeps : TakesIn at (scene_of m') es after t → ((n : ℕ) → InP after n ↔ InP es n)
      → KeepsAsked o m' after
  claim-keeps takes durable =
      let claims : Claims at.queue m'.queue es after t takes.m at.free = record {
        thread = (let all = c.event.goes_on.agrees.sizes.queues in let lt = c.thread in omega
            (arith, all, lt));
        becomes = takes.becomes;
        queues = ap (λ (q : Queues). q.queues) takes.queue;
      } in
      let to = takes.asked.refers_to in
      let wants : wants_in o m t takes.m = wants-referred o m es k t takes.asked.n takes.asked.k takes.m
      to.claimed
      to.slot (subst (λ (x : Twin). refers (view_of x) (entry es takes.asked.n) takes.asked.k ≡ true)
      c.event.goes_on.heap to.reference) to.there
      (subst (λ (x : Twin). Names (entry es takes.m)
      (word_of (view_of x) (entry es takes.asked.n) takes.asked.k))
      c.event.goes_on.heap to.leads) in
      quiet-keeps o m m' es after k (quiet-by durable
      (queued-claim o m m' es after k (view_of at.heap) (view_of m'.spaces.twin) at.queue lies-at lies-after
      c.event.converts.shows c.event.goes_on.agrees.queued c.event.converts.agrees.queued
      c.event.goes_on.queues t takes.m at.free claims
      (λ i n is. begins-still o m m' es after k (view_of at.heap) (view_of m'.spaces.twin) at.queue lies-at
      lies-after
      c.event.converts.shows c.event.goes_on.agrees.queued c.event.converts.agrees.queued
      c.event.goes_on.queues t
      (λ x first. kept-item at.queue m'.queue es after t takes.m at.free claims t 0 first.within) _ _
      takes.asked.is))
      (wanted-claim o m m' es after k (view_of at.heap) (view_of m'.spaces.twin) at.queue lies-at lies-after
      c.event.converts.shows c.event.goes_on.agrees.queued c.event.converts.agrees.queued
      c.event.goes_on.queues t takes.m at.free claims wants))

pub by-answer : (o : Opening) (m : Machine) (es : List Entry) (k : KeepsRun o m es) (m' : Machine) (t : ℕ)
    (answer : ConvertStep) (c : ConvertsOn t answer m m' es) → IsNoSeal answer → KeepsAsked o m' c.event.after
by-answer o m es k m' t step.Claimed c no_seal =
    claim-keeps o m es k m' t step.Claimed c c.event.converts.says.0 c.event.converts.says.1
by-answer o m es k m' t (step.Sealed set) c no_seal = absurd no_seal
by-answer o m es k m' t step.Touched c no_seal = plain-keeps o m es k m' t step.Touched c tt tt
by-answer o m es k m' t step.WroteBack c no_seal = plain-keeps o m es k m' t step.WroteBack c tt tt
by-answer o m es k m' t step.Fenced c no_seal = plain-keeps o m es k m' t step.Fenced c tt tt
by-answer o m es k m' t step.CopiedLine c no_seal = plain-keeps o m es k m' t step.CopiedLine c tt tt
by-answer o m es k m' t step.Forwarded c no_seal = plain-keeps o m es k m' t step.Forwarded c tt tt
by-answer o m es k m' t step.Repaired c no_seal = plain-keeps o m es k m' t step.Repaired c tt tt
by-answer o m es k m' t (step.Wait u) c no_seal = plain-keeps o m es k m' t (step.Wait u) c tt tt
by-answer o m es k m' t (step.Full need left) c no_seal =
    plain-keeps o m es k m' t (step.Full need left) c tt tt

-- ---- a failed step

pub failures-keep : (o : Opening) (m : Machine) (es : List Entry) (k : KeepsRun o m es)
    (m' : Machine) (t : ℕ) → FailsOn t m m' es → KeepsAsked o m' es
failures-keep o m es k m' t f =
    let queues : m'.queue.queues ≡ m.queue.queues
    = ap (λ (q : Queues). q.queues) f.event.fails.queue ∙ f.event.goes_on.queues in
    let count : SameImage (memory_of m) (memory_of m') ⊎ OneCall (memory_of m) (memory_of m')
    = inr (subst (λ (x : Memory). OneCall x (memory_of m')) (ap (λ (x : Twin). x.memory) f.event.goes_on.heap)
    f.event.fails.call) in
    quiet-keeps o m m' es es k (record {
      acts = ap (λ (x : Machine). x.acts) f.same;
      about = ap (λ (x : Machine). x.doing) f.same;
      durable = λ n. (λ p. p, λ p. p);
      lines = λ n p. refl;
      queued = λ u i n is. first-kept (known_in o m) (known_in o m) m m' es es u refl
          (λ x first. is-queues m.queue m'.queue es u 0 x queues first)
          (k.asked.queued u i n (is-queues m'.queue m.queue es u i n (sym queues) is));
      wanted = k.asked.wanted;
      later = later-calls (memory_of m) (memory_of m') count k.asked.few;
      few = few-calls (memory_of m) (memory_of m') count k.asked.few;
      regions = quiet-regions o m m' es es k (ap (λ (x : Machine). x.acts) f.same)
          (ap (λ (x : Machine). x.logs) f.same) (λ n p. p) (λ n p. refl)
          (λ u lt. whole-call o m es k (memory_of m') u lt
          (subst (λ (x : Memory). KeepsShown x (memory_of m'))
          (ap (λ (x : Twin). x.memory) f.event.goes_on.heap) f.event.fails.keeps) f.sound.known);
    })
