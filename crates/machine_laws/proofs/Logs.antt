-- The logs of a machine's threads after an event: where regions are left alone, and where one goes on.
use Rattle.std.proofs.Common.{◌≡◌, ◌≢◌, inl, inr, ℕ, ◌<◌, ◌≤◌, List, length, sym, ◌∙◌, ap, subst, arith}
use Rattle.std.specs.Prelude.{slice_set, slice_index_or}
use Rattle.std.proofs.lemmas.List.{get_or-set_same, get_or-set_other, length-set}
use Rattle.line_memory.specs.Memory.{Memory}
use Rattle.run_history.specs.Knowing.{Knowledge}
use Rattle.stop_theorem.specs.Layouts.{Layout}
use Rattle.region_log.specs.Log.{Log}
use Rattle.region_events.specs.Guards.{KeepsGuards}
use Rattle.twin_forms.specs.Table.{Entry}
use Rattle.twin_forms.proofs.Led.{same_or_not}
use Rattle.machine_forms.specs.Machines.{Opening, Machine, known_in, memory_of, log_of, empty_log, layout_in}
use Rattle.machine_forms.specs.Keeping.{GuardApart, HasNoRegion, KeepsLogOf, KeepsRegions, KeepsRun}
use Rattle.machine_laws.proofs.Memories.{KeepsWhole}
use Rattle.machine_laws.proofs.AskRegions.{SparesRegion, spared-keeps, spared-none}

-- A log is what the acts say of the region of thread t, and the memory keeps it.
pub record StandsLog (known : Knowledge) (lay : Layout) (memory : Memory) (log : Log) (t : ℕ) : Type 0 where
  pub thread : log.thread ≡ t
  pub guards : KeepsGuards known lay log
  pub whole : KeepsWhole log memory

pub regions-each : (o : Opening) (m : Machine) (es : List Entry) (known : Knowledge) → known_in o m ≡ known
    → length m.logs ≡ 64
    → ((t : ℕ) → t < 64 → StandsLog known (layout_in o es) (memory_of m) (log_of m t) t)
    → ((t : ℕ) → 64 ≤ t → HasNoRegion known t) → GuardApart known.guards → KeepsRegions o m es
regions-each o m es known is many each others apart = record {
  many = many;
  each = λ t lt. (let s = subst
      (λ (kn : Knowledge). StandsLog kn (layout_in o es) (memory_of m) (log_of m t) t) (sym is)
      (each t lt) in record {
        thread = s.thread;
        guards = s.guards;
        keeps = s.whole.keeps;
        region = s.whole.region;
        old = s.whole.old;
      });
  others = λ t past. subst (λ (kn : Knowledge). HasNoRegion kn t) (sym is) (others t past);
  apart = subst (λ (kn : Knowledge). GuardApart kn.guards) (sym is) apart;
}

module _ (o : Opening) (m : Machine) (es : List Entry) (k : KeepsRun o m es) where
  abbrev regions : KeepsRegions o m es
  regions = k.asked.regions

  pub whole-now : (t : ℕ) → t < 64 → KeepsWhole (log_of m t) (memory_of m)
  whole-now t lt =
      let log : KeepsLogOf o m es t = regions.each t lt in
      record { keeps = log.keeps; region = log.region; old = log.old }

  module _ (es' : List Entry) (m' : Machine) (next : Knowledge) (is : known_in o m' ≡ next) where
    abbrev Spares : ℕ → Type 0
    Spares t = SparesRegion (known_in o m) next (layout_in o es) (layout_in o es') t

    stands-spared : (t : ℕ) → t < 64 → Spares t → KeepsWhole (log_of m t) (memory_of m')
        → StandsLog next (layout_in o es') (memory_of m') (log_of m t) t
    stands-spared t lt spares whole =
        let log : KeepsLogOf o m es t = regions.each t lt in record {
          thread = log.thread;
          guards = spared-keeps (known_in o m) next (layout_in o es) (layout_in o es') (log_of m t)
              (subst Spares (sym log.thread) spares) log.guards;
          whole = whole;
        }

    -- all regions are left alone
    pub regions-left : m'.logs ≡ m.logs → ((t : ℕ) → Spares t) → GuardApart next.guards
        → ((t : ℕ) → t < 64 → KeepsWhole (log_of m t) (memory_of m')) → KeepsRegions o m' es'
    regions-left logs spares apart whole =
        regions-each o m' es' next is (ap length logs ∙ regions.many)
        (λ t lt. subst (λ (ls : List Log). StandsLog next (layout_in o es') (memory_of m')
        (slice_index_or ls t (empty_log t)) t) (sym logs) (stands-spared t lt (spares t) (whole t lt)))
        (λ t past. spared-none (known_in o m) next (layout_in o es) (layout_in o es') t (spares t)
        (regions.others t past)) apart

    -- the region of thread t goes on, and its log is this one
    module _ (t : ℕ) (log' : Log) (lt : t < 64) (logs : m'.logs ≡ slice_set m.logs t log') where
      within : t < length m.logs
      within = let all = regions.many in omega (arith, all, lt)

      pub regions-own : ((u : ℕ) → u ≢ t → Spares u) → GuardApart next.guards
          → ((u : ℕ) → u < 64 → u ≢ t → KeepsWhole (log_of m u) (memory_of m'))
          → StandsLog next (layout_in o es') (memory_of m') log' t → KeepsRegions o m' es'
      regions-own spares apart whole own =
          regions-each o m' es' next is (ap length logs ∙ length-set m.logs t log' ∙ regions.many) each
          (λ u past. spared-none (known_in o m) next (layout_in o es) (layout_in o es') u
          (spares u (λ e. absurd (omega (arith, e, past, lt)))) (regions.others u past)) apart
        where
          each : (u : ℕ) → u < 64 → StandsLog next (layout_in o es') (memory_of m') (log_of m' u) u
          each u below = elim (same_or_not u t) [
            | inl same ↦ subst (λ x. StandsLog next (layout_in o es') (memory_of m') (log_of m' x) x)
                (sym same)
                (subst (λ (log : Log). StandsLog next (layout_in o es') (memory_of m') log t)
                (sym (ap (λ (ls : List Log). slice_index_or ls t (empty_log t)) logs
                ∙ get_or-set_same m.logs t log' (empty_log t) within)) own)
            | inr other ↦ subst (λ (log : Log). StandsLog next (layout_in o es') (memory_of m') log u)
                (sym (ap (λ (ls : List Log). slice_index_or ls u (empty_log u)) logs
                ∙ get_or-set_other m.logs t u log' (empty_log u) other))
                (stands-spared u below (spares u other) (whole u below other))
          ]
