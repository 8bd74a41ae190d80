-- What a machine keeps of what was asked before its first act.
use Rattle.std.proofs.Common.{◌≡◌, ℕ, zero, suc, List, length, refl, sym, ◌∙◌, ap, subst, arith}
use Rattle.std.specs.Prelude.{replicate, slice_index_or}
use Rattle.std.proofs.lemmas.Bool.{false≢true}
use Rattle.std.proofs.lemmas.List.{length-replicate}
use Rattle.graph_model.specs.declared.types.Graph.{Graph}
use Rattle.run_history.specs.Recorded.{Recorded}
use Rattle.run_history.specs.Worlds.{depth_of}
use Rattle.run_history.specs.Knowing.{known_after}
use Rattle.plain_model.specs.Facts.{SetFacts}
use Rattle.plain_model.specs.First.{first_world, first_known}
use Rattle.plain_model.proofs.Closed.{closed_at_first}
use Rattle.plain_model.proofs.Durable.{below_from_has_number, has_number_from_below}
use Rattle.machine_forms.specs.declared.doing.Doing.{Doing}
use Rattle.machine_forms.specs.declared.doing.Doing.TheVariants.{Nothing}
use Rattle.machine_forms.specs.Machines.{first_of, memory_of, layout_in}
use Rattle.machine_forms.specs.Keeping.{IsDoing}
use Rattle.machine_laws.specs.AskLaws.{StartsKeepAsked}
use Rattle.region_log.specs.Log.{Log}
use Rattle.region_events.specs.Guards.{KeepsGuards}
use Rattle.region_events.proofs.Starting.{empty_keeps, no_region}
use Rattle.machine_laws.proofs.AskActing.{keeps-by}
use Rattle.machine_laws.proofs.Logs.{regions-each}
use Rattle.machine_laws.proofs.Memories.{KeepsWhole}

-- no region is open at first
no-depth : (set : SetFacts) (opening : Graph) (t : ℕ) → depth_of (first_known set opening).world t ≡ 0
unfolding first_world
no-depth set opening zero = refl
no-depth set opening (suc t) = refl

all-nothing : (count t : ℕ) → slice_index_or (replicate count Nothing) t Nothing ≡ Nothing
all-nothing zero t = refl
all-nothing (suc count) zero = refl
all-nothing (suc count) (suc t) = all-nothing count t

pub starts : StartsKeepAsked
starts o m es b = keeps-by (first_of o) o m es
    (ap (λ (acts : List Recorded). known_after (first_of o) acts) b.acts) (record {
      durable = λ n. (
        λ is. (b.durable n).1 (below_from_has_number (length o.launch.opening.nodes) n is),
        λ p. has_number_from_below (length o.launch.opening.nodes) n ((b.durable n).0 p),
      );
      doing = λ t. subst (IsDoing (first_of o) (layout_in o es) t)
          (sym (ap (λ (ds : List Doing). slice_index_or ds t Nothing) b.doing ∙ all-nothing 64 t))
          (refl, refl);
      threads = ap length b.doing ∙ length-replicate 64 Nothing;
      queued = λ t i n is. absurd (let none = ap length (b.queue t) in let lt = is.within in omega
          (arith, none, lt));
      wanted = λ t n c. absurd (b.claimed t n c);
      closed = closed_at_first o.launch.set o.launch.opening b.opening;
      timed = omega arith;
      few = b.few;
      regions = regions-each o m es (first_of o)
          (ap (λ (acts : List Recorded). known_after (first_of o) acts) b.acts) b.logs (λ t lt. record {
            thread = ap (λ (log : Log). log.thread) (b.empty t lt);
            guards = subst (KeepsGuards (first_of o) (layout_in o es)) (sym (b.empty t lt))
                (no_region (first_of o) (layout_in o es) t (record {
                  outside = no-depth o.launch.set o.launch.opening t;
                  no_guards = refl;
                  not_closing = refl;
                }));
            whole = subst (λ (log : Log). KeepsWhole log (memory_of m)) (sym (b.empty t lt)) (record {
              keeps = empty_keeps t (memory_of m) lt b.long (b.counts t lt);
              region = tt;
              old = tt;
            });
          })
          (λ t past. record {
            guards = refl;
            closing = refl;
            depth = no-depth o.launch.set o.launch.opening t;
          }) (λ p t u a none. absurd (false≢true a));
    })
