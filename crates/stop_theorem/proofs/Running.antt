-- Each event keeps the invariant, and so each list of events.
use Rattle.std.proofs.Common.{◌≡◌, ◌⊎◌, inr, ⊎_elim, ℕ, ◌≤◌, List, [], ◌∷◌, ◌++◌, refl, sym, ◌∙◌, subst, arith}
use Rattle.line_image.specs.Trace.{Outcome}
use Rattle.line_image.specs.Told.{Told}
use Rattle.line_memory.specs.Memory.{Memory, CanLeaveAll, IsTelling, SameImage, OneCall}
use Rattle.line_memory.specs.Moments.{Goes, KeepsShown, CountsFrom}
use Rattle.line_memory.proofs.Chain.{counts_on, counts_same}
use Rattle.image_meaning.specs.Directories.{Directory}
use Rattle.run_history.specs.declared.act.Op.{Op}
use Rattle.run_history.specs.declared.act.Op.TheVariants as op
use Rattle.run_history.specs.Recorded.{Recorded}
use Rattle.run_history.specs.Knowing.{Knowledge, known_after, next_known}
use Rattle.run_history.proofs.Grown.{known_after-append}
use Rattle.stop_theorem.specs.Choices.{Threads, without_thread}
use Rattle.stop_theorem.proofs.Runs.{orderly_first}
use Rattle.stop_theorem.proofs.Ordered.{orderly_next}
use Rattle.stop_theorem.specs.Layouts.{Layout}
use Rattle.stop_theorem.specs.Stops.{Stands, IsAllowedImage}
use Rattle.stop_theorem.specs.InvariantEvents.{Calls}
use Rattle.stop_theorem.specs.Starts.{Starts}
use Rattle.stop_theorem.specs.Laws.{IsSafeRun}
use Rattle.stop_theorem.proofs.Allowed.{allowed_now}
use Rattle.stop_theorem.proofs.Calls.{stands_call}
use Rattle.stop_theorem.proofs.Moments.{safe_first, safe_call, safe_quiet, safe_act}
use Rattle.stop_theorem.proofs.Starting.{stands_first}
use Rattle.stop_theorem.proofs.Visible.{stands_sure, guards_keep}
use Rattle.stop_theorem.proofs.Showing.{free_keeps}
use Rattle.stop_theorem.proofs.Waiting.{stands_waits}
use Rattle.stop_theorem.proofs.Single.{single_keeps}
use Rattle.stop_theorem.proofs.Fencing.{fences_keep}
use Rattle.stop_theorem.proofs.Joined.{joins_keep}
use Rattle.stop_theorem.proofs.Kept.{log_words_keep, raised_keeps, lowered_keeps, region_keeps, closing_keeps, ends_keep}
use Rattle.stop_theorem.specs.Running.{State, known_at, act_now, with_act, with_memory, Event, Events, none, more, Runs}
use Rattle.stop_theorem.specs.Running.{at_start, StopsAreAllowed, Called, FreeStored, Acted, SingleStored, Written, Fenced}
use Rattle.stop_theorem.specs.Running.{Joined, Guarded, LogWordStored, CountRaised, RegionStored, Closing, CountLowered, Ended}

-- no call
telling_same : (old new : Memory) → SameImage old new → IsTelling old.image.trace → IsTelling new.image.trace
telling_same old new same tells = subst (λ (t : Told). IsTelling t.trace) (sym same.image) tells

-- what a call of the memory says, where the image tells what is done to it
pub told_calls : (old new : Memory) → KeepsShown old new → IsTelling old.image.trace → Calls old new
told_calls old new kept tells = record {
  size = kept.size;
  shows = λ l w below. kept.shows l w (inr tells) (inr (kept.telling tells));
  leaves = kept.leaves;
  reads = λ l w v below. kept.reads l w v;
}

module _ (first : Knowledge) (size : ℕ) (directory : Directory) (begin : ℕ) (start : Memory) where
  abbrev Allows : List Recorded → Outcome → Type 0
  Allows done c = IsAllowedImage first size directory done c

  -- what is known once the act is added
  by_act : (acts : List Recorded) (a : Recorded) (lay : Layout) (Waits : Threads) (m : Memory)
      → Stands first.world.heap (next_known (known_after first acts) a) lay Waits m
      → Stands first.world.heap (known_after first (acts ++ a ∷ [])) lay Waits m
  by_act acts a lay Waits m s = subst (λ k. Stands first.world.heap k lay Waits m)
      (sym (known_after-append first acts a)) s

  -- a store, with no act
  quietly : (s : State) (new : Memory) → SameImage s.memory new → Runs first size directory begin start s
      → Stands first.world.heap (known_at first s) s.layout s.waits new
      → Runs first size directory begin start (with_memory s new)
  quietly s new same runs stands = record {
    size = runs.size;
    directory_is = runs.directory_is;
    tells = telling_same s.memory new same runs.tells;
    stands = stands;
    safe = safe_quiet Allows begin start s.acts s.memory runs.safe new same;
  }

  -- an act
  acting : (s : State) (t : ℕ) (o : Op) (named : List ℕ) (lay : Layout) (Waits : Threads) → lay.size ≡ size
      → lay.directory ≡ directory → Runs first size directory begin start s
      → Stands first.world.heap (next_known (known_at first s) (act_now s t o named)) lay Waits s.memory
      → Runs first size directory begin start (record (with_act s t o named) { layout = lay; waits = Waits })
  acting s t o named lay Waits same alike runs stands = record {
    size = same;
    directory_is = alike;
    tells = runs.tells;
    stands = by_act s.acts (act_now s t o named) lay Waits s.memory stands;
    safe = safe_act Allows begin start s.acts s.memory runs.safe (act_now s t o named) refl;
  }

  -- a store and its act, which comes with the same number of calls
  storing : (s : State) (new : Memory) (t : ℕ) (o : Op) → SameImage s.memory new
      → Runs first size directory begin start s
      → Stands first.world.heap (next_known (known_at first s)
      (act_now (with_memory s new) t o [])) s.layout s.waits new
      → Runs first size directory begin start (with_act (with_memory s new) t o [])
  storing s new t o same runs stands =
      record {
        size = runs.size;
        directory_is = runs.directory_is;
        tells = telling_same s.memory new same runs.tells;
        stands = by_act s.acts (act_now (with_memory s new) t o []) s.layout s.waits new stands;
        safe = safe_act Allows begin start s.acts new
            (safe_quiet Allows begin start s.acts s.memory runs.safe new same)
            (act_now (with_memory s new) t o []) refl;
      }

  -- what a stop may leave now
  allowed_at : (s : State) → Runs first size directory begin start s → (c : Outcome) → CanLeaveAll s.memory c
      → Allows s.acts c
  allowed_at s runs c left =
      subst (λ d. IsAllowedImage first size d s.acts c) runs.directory_is
      (subst (λ k. IsAllowedImage first k s.layout.directory s.acts c) runs.size
      (allowed_now first s.acts s.layout s.waits s.memory c runs.stands left))

  calling : (s : State) (new : Memory) → SameImage s.memory new ⊎ OneCall s.memory new
      → s.memory.calls ≤ new.calls → Goes s.memory.image new.image (CanLeaveAll s.memory)
      → Runs first size directory begin start s → IsSafeRun first size directory begin start s.acts new
  calling s new count on goes runs =
      let counts : CountsFrom begin new = ⊎_elim
      (λ (same : SameImage s.memory new). counts_same begin s.memory new runs.safe.counts same)
      (λ (one : OneCall s.memory new). counts_on begin s.memory new runs.safe.counts one) count in
      safe_call Allows begin start s.acts s.memory runs.safe new (CanLeaveAll s.memory) goes counts on
      (allowed_at s runs)

  pub keeps : (old new : State) → 33 ≤ size → Event first old new → Runs first size directory begin start old
      → Runs first size directory begin start new
  keeps old new enough (Called s m kept count on) runs = record {
    size = runs.size;
    directory_is = runs.directory_is;
    tells = kept.telling runs.tells;
    stands = stands_call first.world.heap (known_at first s) s.layout s.waits s.memory m runs.stands
        (told_calls s.memory m kept runs.tells)
        (let e = runs.size in omega (arith, e, enough));
    safe = calling s m count on kept.any_moment runs;
  }
  keeps old new enough (FreeStored s m line word x puts inside free) runs =
      quietly s m puts.same runs (free_keeps first.world.heap
      (known_at first s) s.layout s.waits s.memory m line word x puts inside free runs.stands)
  keeps old new enough (Acted s t o named sure) runs =
      acting s t o named s.layout s.waits runs.size runs.directory_is runs
      (stands_sure first.world.heap (known_at first s)
      (next_known (known_at first s)
      (act_now s t o named)) s.layout s.waits s.memory o sure.places sure.marks sure.guards sure.elsewhere
      runs.stands
      (orderly_next first.world.heap (known_at first s)
      (act_now s t o named) runs.stands.orderly sure.rule) sure.shows)
  keeps old new enough (SingleStored s m t p v x stores outside) runs =
      storing s m t (op.Stored p v) stores.puts.same runs
      (single_keeps first.world.heap
      (known_at first s) s.layout s.waits s.memory m t m.calls p v x runs.stands stores.puts stores.inside
      stores.is_kept outside.unguarded outside.single.fate outside.single.owes_none outside.waits_not
      stores.holds)
  keeps old new enough (Written s t p back) runs = record {
    size = runs.size;
    directory_is = runs.directory_is;
    tells = runs.tells;
    stands = stands_waits first.world.heap
        (known_at first s) s.layout s.waits s.memory t p back.owes back.inside back.written runs.stands;
    safe = runs.safe;
  }
  keeps old new enough (Fenced s t waits made) runs =
      acting s t op.Fenced [] s.layout (without_thread t s.waits) runs.size runs.directory_is runs
      (fences_keep first.world.heap
      (known_at first s) s.layout s.waits s.memory t s.memory.calls runs.stands waits made)
  keeps old new enough (Joined s lay t named joins) runs =
      acting s t op.Joined named lay s.waits (joins.size ∙ runs.size)
      (joins.directory ∙ runs.directory_is) runs
      (joins_keep first.world.heap
      (known_at first s) s.layout lay s.waits s.memory t s.memory.calls named runs.stands joins)
  keeps old new enough (Guarded s t p) runs =
      acting s t (op.Guarded p) [] s.layout s.waits runs.size runs.directory_is runs
      (guards_keep first.world.heap
      (known_at first s) s.layout s.waits s.memory t s.memory.calls p runs.stands)
  keeps old new enough (LogWordStored s m line word x stores) runs =
      quietly s m stores.puts.same runs
      (log_words_keep first.world.heap
      (known_at first s) s.layout s.waits s.memory m line word x stores.puts stores.inside stores.log
      stores.uncounted runs.stands)
  keeps old new enough (CountRaised s m t n p raises) runs =
      quietly s m raises.puts.same runs
      (raised_keeps first.world.heap
      (known_at first s) s.layout s.waits s.memory m t n p raises.log raises.room raises.puts raises.inside
      raises.is_kept raises.guard
      raises.not_closing raises.in_image raises.counts raises.unnamed raises.whole runs.stands)
  keeps old new enough (RegionStored s m t p v x stores region) runs =
      storing s m t (op.Stored p v) stores.puts.same runs
      (region_keeps first.world.heap
      (known_at first s) s.layout s.waits s.memory m t m.calls p v x runs.stands stores.puts stores.inside
      stores.is_kept region.fate region.log region.named region.guard region.owes_none stores.holds)
  keeps old new enough (Closing s t counts) runs =
      acting s t op.Closing [] s.layout s.waits runs.size runs.directory_is runs
      (closing_keeps first.world.heap
      (known_at first s) s.layout s.waits s.memory t s.memory.calls runs.stands counts)
  keeps old new enough (CountLowered s m t lowers) runs =
      quietly s m lowers.puts.same runs
      (lowered_keeps first.world.heap
      (known_at first s) s.layout s.waits s.memory m t lowers.log lowers.puts lowers.inside lowers.closing
      lowers.durable lowers.counts runs.stands)
  keeps old new enough (Ended s t ends) runs =
      acting s t op.End [] s.layout s.waits runs.size runs.directory_is runs
      (ends_keep first.world.heap
      (known_at first s) s.layout s.waits s.memory t s.memory.calls runs.stands ends.outermost ends.is_closing
      ends.empty)

  pub all_keep : (old new : State) → 33 ≤ size → Events first old new → Runs first size directory begin start old
      → Runs first size directory begin start new
  all_keep old new enough (none s) runs = runs
  all_keep old new enough (more s middle last before one) runs = keeps middle last enough one
      (all_keep s middle enough before runs)

  pub allowed_stops : (s : State) → Runs first size directory begin start s → StopsAreAllowed first size directory begin start s
  allowed_stops s runs = record {
    within = runs.safe.within;
    now = allowed_at s runs;
  }

pub every_stop : (first : Knowledge) (size : ℕ) (directory : Directory) (begin : ℕ) (start : Memory) (old new : State)
    → 33 ≤ size
    → Runs first size directory begin start old → Events first old new
    → StopsAreAllowed first size directory begin start new
every_stop first size directory begin start old new enough runs events =
    allowed_stops first size directory begin start new
    (all_keep first size directory begin start old new enough events runs)

pub run_starts : (first : Knowledge) (lay : Layout) (begin : ℕ) (m : Memory) → Starts first lay m
    → IsTelling m.image.trace → CountsFrom begin m → Runs first lay.size lay.directory begin m (at_start lay m)
run_starts first lay begin m starts tells counts = record {
  size = refl;
  directory_is = refl;
  tells = tells;
  stands = stands_first first lay m starts (orderly_first first starts.no_marks);
  safe = safe_first (λ done c. IsAllowedImage first lay.size lay.directory done c) begin m counts;
}
