-- Events that make no act: what was asked is kept, where what is queued and claimed is still that.
use Rattle.std.proofs.Common.{◌≡◌, ◌↔◌, ℕ, ◌<◌, ◌≤◌, ◌^◌, List, length, refl, sym, ◌∙◌, ap, subst, arith}
use Rattle.std.specs.Prelude.{slice_index_or}
use Rattle.run_history.specs.Recorded.{Recorded}
use Rattle.run_history.specs.Knowing.{known_after}
use Rattle.run_history.specs.Wanted.{NoWish, WantsAfter}
use Rattle.twin_forms.specs.Table.{Entry, entry, IsClaimed, InP}
use Rattle.convert_words.specs.Agreeing.{Is}
use Rattle.machine_forms.specs.declared.doing.Doing.{Doing}
use Rattle.machine_forms.specs.declared.doing.Doing.TheVariants.{Nothing}
use Rattle.machine_forms.specs.Machines.{Opening, Machine, first_of, known_in, wants_in, memory_of, doing_of, log_of, layout_in}
use Rattle.machine_forms.specs.Keeping.{IsDoing, QueuesFirst, KeepsRegions, KeepsAsked, KeepsRun}
use Rattle.machine_laws.proofs.AskKeeping.{doing-kept, line-in, are-durable, durable-in}
use Rattle.machine_laws.proofs.AskActing.{keeps-by}
use Rattle.machine_laws.proofs.Memories.{KeepsWhole}
use Rattle.machine_laws.proofs.Logs.{regions-left}
use Rattle.machine_laws.proofs.AskRegions.{quiet-spares}

-- all regions are left then
pub quiet-regions : (o : Opening) (m m' : Machine) (es es' : List Entry) (k : KeepsRun o m es)
    → m'.acts ≡ m.acts → m'.logs ≡ m.logs → ((n : ℕ) → InP es n → InP es' n)
    → ((n : ℕ) → InP es n → (entry es' n).line ≡ (entry es n).line)
    → ((u : ℕ) → u < 64 → KeepsWhole (log_of m u) (memory_of m')) → KeepsRegions o m' es'
quiet-regions o m m' es es' k acts logs durable lines whole =
    regions-left o m es k es' m' (known_in o m)
    (ap (λ (done : List Recorded). known_after (first_of o) done) acts) logs
    (λ u. quiet-spares (known_in o m) (layout_in o es) (layout_in o es') u (λ n is.
    (let p = durable-in o m es k n is in
    line-in o es' n (durable n p) ∙ lines n p ∙ sym (line-in o es n p)))) k.asked.regions.apart whole

-- What is left by an event that makes no act.
pub record Quiet (o : Opening) (m m' : Machine) (es es' : List Entry) : Type 0 where
  pub acts : m'.acts ≡ m.acts
  pub about : m'.doing ≡ m.doing
  pub durable : (n : ℕ) → InP es' n ↔ InP es n
  pub lines : (n : ℕ) → InP es n → (entry es' n).line ≡ (entry es n).line
  pub queued : (u i n : ℕ) → Is m'.queue es' u i n → QueuesFirst (known_in o m) m' es' u
  pub wanted : (u n : ℕ) → IsClaimed es' u n → wants_in o m u n
  pub later : (memory_of m).calls ≤ (memory_of m').calls
  pub few : (memory_of m').calls < 2 ^ 64
  pub regions : KeepsRegions o m' es'

module _ (o : Opening) (m m' : Machine) (es es' : List Entry) (k : KeepsRun o m es)
    (quiet : Quiet o m m' es es') where
  known-same : known_in o m' ≡ known_in o m
  known-same = ap (λ (acts : List Recorded). known_after (first_of o) acts) quiet.acts

  about-same : (u : ℕ) → IsDoing (known_in o m) (layout_in o es') u (doing_of m' u)
  about-same u = subst (λ (ds : List Doing).
      IsDoing (known_in o m) (layout_in o es') u (slice_index_or ds u Nothing))
      (sym quiet.about)
      (doing-kept (known_in o m) (known_in o m) (layout_in o es) (layout_in o es') u (doing_of m u) (record {
        durable = are-durable o m es k;
        roots = refl;
        lines = λ n is. (let p = durable-in o m es k n is in
            line-in o es' n ((quiet.durable n).1 p) ∙ quiet.lines n p ∙ sym (line-in o es n p));
        size = refl;
        pending = refl;
        unfenced = refl;
      }) (k.asked.doing u))

  pub quiet-keeps : KeepsAsked o m' es'
  quiet-keeps = keeps-by (known_in o m) o m' es' known-same (record {
    durable = λ n. (
      λ is. (quiet.durable n).1 ((k.asked.durable n).0 is),
      λ p.
          (k.asked.durable n).1 ((quiet.durable n).0 p),
    );
    doing = about-same;
    threads = ap length quiet.about ∙ k.asked.threads;
    queued = quiet.queued;
    wanted = λ u n c. subst (λ (acts : List Recorded). WantsAfter (first_of o) NoWish acts u n)
        (sym quiet.acts)
        (quiet.wanted u n c);
    closed = k.asked.closed;
    timed = (let before = k.asked.timed in let later = quiet.later in omega (arith, before, later));
    few = quiet.few;
    regions = quiet.regions;
  })
