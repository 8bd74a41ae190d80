-- What a machine keeps of what was asked once it has made one more act.
use Rattle.std.proofs.Common.{◌≡◌, inl, inr, ◌↔◌, ℕ, ◌<◌, ◌≤◌, ◌^◌, true, List, [], ◌∷◌, ◌++◌, length, refl, sym, ◌∙◌, subst}
use Rattle.std.specs.Prelude.{slice_set, slice_index_or}
use Rattle.graph_model.specs.Heaps.{has_number}
use Rattle.run_history.specs.Recorded.{Recorded}
use Rattle.run_history.specs.Knowing.{Knowledge, pending_of, next_known}
use Rattle.run_history.specs.Wanted.{NoWish, WantsAfter, IsClosed}
use Rattle.twin_forms.specs.Table.{Entry, IsClaimed, InP}
use Rattle.twin_forms.proofs.Led.{same_or_not}
use Rattle.convert_words.specs.Agreeing.{Is}
use Rattle.machine_forms.specs.declared.doing.Doing.{Doing}
use Rattle.machine_forms.specs.declared.doing.Doing.TheVariants.{Nothing}
use Rattle.machine_forms.specs.Machines.{Opening, Machine, first_of, known_in, wants_in, memory_of, doing_of, log_of, layout_in}
use Rattle.machine_forms.specs.Keeping.{IsDoing, QueuesFirst, GuardApart, KeepsRegions, KeepsAsked, KeepsRun}
use Rattle.machine_laws.proofs.Acts.{roots-next, pending-kept, unfenced-kept}
use Rattle.machine_laws.proofs.Wishes.{wants-kept}
use Rattle.machine_laws.proofs.AskOutside.{IsOutside}
use Rattle.machine_laws.proofs.Memories.{KeepsWhole}
use Rattle.machine_laws.proofs.Logs.{regions-left}
use Rattle.machine_laws.proofs.AskRegions.{outside-spares, outside-guards-next}
use Rattle.machine_laws.proofs.Lists.{each-set}
use Rattle.machine_laws.proofs.AskKeeping.{doing-kept, first-kept, known-with, are-durable, durable-in, claimed-pending}

-- What a machine keeps of what was asked, where this is known.
pub record KeepsBy (known : Knowledge) (o : Opening) (m : Machine) (es : List Entry) : Type 0 where
  pub durable : (n : ℕ) → (has_number known.durable n ≡ true) ↔ InP es n
  pub doing : (t : ℕ) → IsDoing known (layout_in o es) t (doing_of m t)
  pub threads : length m.doing ≡ 64
  pub queued : (t i n : ℕ) → Is m.queue es t i n → QueuesFirst known m es t
  pub wanted : (t n : ℕ) → IsClaimed es t n → wants_in o m t n
  pub closed : IsClosed known
  pub timed : known.at ≤ (memory_of m).calls
  pub few : (memory_of m).calls < 2 ^ 64
  pub regions : KeepsRegions o m es

pub keeps-by : (known : Knowledge) (o : Opening) (m : Machine) (es : List Entry) → known_in o m ≡ known
    → KeepsBy known o m es → KeepsAsked o m es
keeps-by known o m es is by =
    let own : KeepsBy (known_in o m) o m es = subst (λ (kn : Knowledge). KeepsBy kn o m es) (sym is) by in
    record {
      durable = own.durable;
      doing = own.doing;
      threads = own.threads;
      queued = own.queued;
      wanted = own.wanted;
      closed = own.closed;
      timed = own.timed;
      few = own.few;
      regions = own.regions;
    }

-- What the act leaves. Whoever has something queued or claimed had it, and has asked what it had asked.
pub record Acted (o : Opening) (m m' : Machine) (es es' : List Entry) (a : Recorded) : Type 0 where
  pub acts : m'.acts ≡ m.acts ++ a ∷ []
  pub regions : KeepsRegions o m' es'
  pub closed : IsClosed (next_known (known_in o m) a)
  pub timed : a.act.at ≤ (memory_of m').calls
  pub few : (memory_of m').calls < 2 ^ 64
  pub durable : (n : ℕ) → (has_number (next_known (known_in o m) a).durable n ≡ true) ↔ InP es' n
  pub doing : (u : ℕ) → IsDoing (next_known (known_in o m) a) (layout_in o es') u (doing_of m' u)
  pub threads : length m'.doing ≡ 64
  pub queued : (u i n : ℕ) → Is m'.queue es' u i n → Is m.queue es u i n
      × (pending_of (next_known (known_in o m) a).asked u ≡ pending_of (known_in o m).asked u)
      × ((x : ℕ) → Is m.queue es u 0 x → Is m'.queue es' u 0 x)
  pub claimed : (u n : ℕ) → IsClaimed es' u n → IsClaimed es u n
      × (pending_of (next_known (known_in o m) a).asked u ≡ pending_of (known_in o m).asked u)

module _ (o : Opening) (m m' : Machine) (es es' : List Entry) (k : KeepsRun o m es) (a : Recorded) where
  -- an act that is none of a region leaves all regions
  pub outside-regions : m'.acts ≡ m.acts ++ a ∷ [] → IsOutside a.act.op → m'.logs ≡ m.logs
      → ((n : ℕ) → InP es n → (layout_in o es').line_of n ≡ (layout_in o es).line_of n)
      → ((u : ℕ) → u < 64 → KeepsWhole (log_of m u) (memory_of m')) → KeepsRegions o m' es'
  outside-regions acts outside logs lines whole =
      regions-left o m es k es' m' (next_known (known_in o m) a) (known-with o m es k m' a acts) logs
      (λ u. outside-spares (known_in o m) a (layout_in o es) (layout_in o es')
      (λ n is. lines n (durable-in o m es k n is)) outside u)
      (subst GuardApart (sym (outside-guards-next (known_in o m) a outside)) k.asked.regions.apart) whole

  pub acted-keeps : Acted o m m' es es' a → KeepsAsked o m' es'
  acted-keeps acted = keeps-by (next_known (known_in o m) a) o m' es' (known-with o m es k m' a acted.acts)
      (record {
        durable = acted.durable;
        doing = acted.doing;
        threads = acted.threads;
        queued = λ u i n is. (let before = acted.queued u i n is in
            first-kept (known_in o m) (next_known (known_in o m) a) m m' es es' u before.1 before.2
            (k.asked.queued u i n before.0));
        wanted = λ u n c. (let before = acted.claimed u n c in
            let pending = claimed-pending o m es k u n before.0 in
            subst (λ (acts : List Recorded). WantsAfter (first_of o) NoWish acts u n) (sym acted.acts)
            (wants-kept (first_of o) NoWish m.acts a u n pending.0 (before.1 ∙ pending.1)
            (k.asked.wanted u n before.0)));
        closed = acted.closed;
        timed = acted.timed;
        few = acted.few;
        regions = acted.regions;
      })

  -- what the threads are about after an act of one of them
  pub doing-after : (d : Doing) → a.act.thread < length m.doing
      → ((n : ℕ) → InP es n → (layout_in o es').line_of n ≡ (layout_in o es).line_of n)
      → IsDoing (next_known (known_in o m) a) (layout_in o es') a.act.thread d
      → (u : ℕ) → IsDoing (next_known (known_in o m) a) (layout_in o es') u
      (slice_index_or (slice_set m.doing a.act.thread d) u Nothing)
  doing-after d within lines own = each-set (IsDoing (next_known (known_in o m) a) (layout_in o es')) m.doing
      a.act.thread d Nothing within own (λ u other.
      doing-kept (known_in o m) (next_known (known_in o m) a) (layout_in o es) (layout_in o es') u
      (doing_of m u)
      (record {
        durable = are-durable o m es k;
        roots = roots-next (known_in o m) a;
        lines = λ n is. lines n (durable-in o m es k n is);
        size = refl;
        pending = pending-kept (known_in o m) a u other;
        unfenced = unfenced-kept (known_in o m) a u other;
      }) (k.asked.doing u))

  -- where the act's thread has queued and claimed nothing, whoever has asks what it asked
  pub holder-asks : ((i n : ℕ) → Is m.queue es a.act.thread i n → ⊥) → (u i n : ℕ) → Is m.queue es u i n
      → pending_of (next_known (known_in o m) a).asked u ≡ pending_of (known_in o m).asked u
  holder-asks empty u i n is = elim (same_or_not u a.act.thread) [
    | inl same ↦ absurd (empty i n (subst (λ x. Is m.queue es x i n) same is))
    | inr other ↦ pending-kept (known_in o m) a u other
  ]

  pub claimer-asks : ((i n : ℕ) → Is m.queue es a.act.thread i n → ⊥) → (u n : ℕ) → IsClaimed es u n
      → pending_of (next_known (known_in o m) a).asked u ≡ pending_of (known_in o m).asked u
  claimer-asks empty u n c =
      let there = k.heap.agrees.queued.all u n c in holder-asks empty u there.0 n there.1
