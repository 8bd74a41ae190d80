-- What stands over an image that tells what is done to it stands after each event.
use Rattle.std.proofs.Common.{◌≡◌, ℕ, ◌≤◌, List, [], refl, sym, subst, arith}
use Rattle.line_image.specs.Told.{Told}
use Rattle.line_memory.specs.Memory.{Memory, IsTelling, SameImage}
use Rattle.run_history.specs.declared.act.Op.{Op}
use Rattle.run_history.specs.declared.act.Op.TheVariants as op
use Rattle.run_history.specs.Knowing.{Knowledge}
use Rattle.run_history.proofs.Grown.{known_after-append}
use Rattle.stop_theorem.specs.Choices.{Threads, without_thread}
use Rattle.stop_theorem.proofs.Ordered.{orderly_next}
use Rattle.stop_theorem.specs.Layouts.{Layout}
use Rattle.stop_theorem.specs.Stops.{Stands}
use Rattle.stop_theorem.proofs.Calls.{stands_call}
use Rattle.stop_theorem.proofs.Visible.{stands_sure, guards_keep}
use Rattle.stop_theorem.proofs.Showing.{free_keeps}
use Rattle.stop_theorem.proofs.Waiting.{stands_waits}
use Rattle.stop_theorem.proofs.Single.{single_keeps}
use Rattle.stop_theorem.proofs.Fencing.{fences_keep}
use Rattle.stop_theorem.proofs.Joined.{joins_keep}
use Rattle.stop_theorem.proofs.Kept.{log_words_keep, raised_keeps, lowered_keeps, region_keeps, closing_keeps, ends_keep}
use Rattle.stop_theorem.specs.Running.{State, known_at, act_now, with_act, known_next, with_memory, Event, Events, none, more}
use Rattle.stop_theorem.specs.Running.{Called, FreeStored, Acted, SingleStored, Written, Fenced, Joined, Guarded, LogWordStored}
use Rattle.stop_theorem.specs.Running.{CountRaised, RegionStored, Closing, CountLowered, Ended}
use Rattle.stop_theorem.proofs.Running.{told_calls}

pub record IsStanding (first : Knowledge) (s : State) : Type 0 where
  pub stands : Stands first.world.heap (known_at first s) s.layout s.waits s.memory
  pub telling : IsTelling s.memory.image.trace
  pub enough : 33 ≤ s.layout.size

-- what is known once an act is added
pub by_act : (first : Knowledge) (s : State) (t : ℕ) (o : Op) (named : List ℕ) (P : Knowledge → Type 0)
    → P (known_next first s t o named) → P (known_at first (with_act s t o named))
by_act first s t o named P holds =
    subst P (sym (known_after-append first s.acts (act_now s t o named))) holds

module _ (first : Knowledge) where
  -- a store, with no act
  stored : (s : State) (new : Memory) → SameImage s.memory new → IsStanding first s
      → Stands first.world.heap (known_at first s) s.layout s.waits new
      → IsStanding first (with_memory s new)
  stored s new same is stands = record {
    stands = stands;
    telling = subst (λ (told : Told). IsTelling told.trace) (sym same.image) is.telling;
    enough = is.enough;
  }

  acted : (s : State) (t : ℕ) (o : Op) (named : List ℕ) (lay : Layout) (Waits : Threads)
      → lay.size ≡ s.layout.size → IsStanding first s
      → Stands first.world.heap (known_next first s t o named) lay Waits s.memory
      → IsStanding first (record (with_act s t o named) { layout = lay; waits = Waits })
  acted s t o named lay Waits same is stands = record {
    stands = by_act first s t o named (λ k. Stands first.world.heap k lay Waits s.memory) stands;
    telling = is.telling;
    enough = (let enough = is.enough in omega (arith, same, enough));
  }

  store_acted : (s : State) (new : Memory) (t : ℕ) (o : Op) → SameImage s.memory new → IsStanding first s
      → Stands first.world.heap (known_next first (with_memory s new) t o []) s.layout s.waits new
      → IsStanding first (with_act (with_memory s new) t o [])
  store_acted s new t o same is stands = record {
    stands = by_act first (with_memory s new) t o [] (λ k. Stands first.world.heap k s.layout s.waits new)
        stands;
    telling = subst (λ (told : Told). IsTelling told.trace) (sym same.image) is.telling;
    enough = is.enough;
  }

  event_stands : (old new : State) → Event first old new → IsStanding first old → IsStanding first new
  event_stands old new (Called s m kept count on) is = record {
    stands = stands_call first.world.heap (known_at first s) s.layout s.waits s.memory m is.stands
        (told_calls s.memory m kept is.telling) is.enough;
    telling = kept.telling is.telling;
    enough = is.enough;
  }
  event_stands old new (FreeStored s m line word x puts inside free) is =
      stored s m puts.same is
      (free_keeps first.world.heap (known_at first s) s.layout s.waits s.memory m line word x puts inside free
      is.stands)
  event_stands old new (Acted s t o named sure) is =
      acted s t o named s.layout s.waits refl is
      (stands_sure first.world.heap (known_at first s) (known_next first s t o named) s.layout s.waits
      s.memory o sure.places sure.marks sure.guards sure.elsewhere is.stands
      (orderly_next first.world.heap (known_at first s) (act_now s t o named) is.stands.orderly sure.rule)
      sure.shows)
  event_stands old new (SingleStored s m t p v x stores outside) is =
      store_acted s m t (op.Stored p v) stores.puts.same is
      (single_keeps first.world.heap (known_at first s) s.layout s.waits s.memory m t m.calls p v x is.stands
      stores.puts stores.inside stores.is_kept outside.unguarded outside.single.fate
      outside.single.owes_none outside.waits_not stores.holds)
  event_stands old new (Written s t p back) is = record {
    stands = stands_waits first.world.heap (known_at first s) s.layout s.waits s.memory t p back.owes
        back.inside back.written is.stands;
    telling = is.telling;
    enough = is.enough;
  }
  event_stands old new (Fenced s t waits made) is =
      acted s t op.Fenced [] s.layout (without_thread t s.waits) refl is
      (fences_keep first.world.heap (known_at first s) s.layout s.waits s.memory t s.memory.calls is.stands
      waits made)
  event_stands old new (Joined s lay t named joins) is =
      acted s t op.Joined named lay s.waits joins.size is
      (joins_keep first.world.heap (known_at first s) s.layout lay s.waits s.memory t s.memory.calls named
      is.stands joins)
  event_stands old new (Guarded s t p) is =
      acted s t (op.Guarded p) [] s.layout s.waits refl is
      (guards_keep first.world.heap (known_at first s) s.layout s.waits s.memory t s.memory.calls p is.stands)
  event_stands old new (LogWordStored s m line word x stores) is =
      stored s m stores.puts.same is
      (log_words_keep first.world.heap (known_at first s) s.layout s.waits s.memory m line word x stores.puts
      stores.inside stores.log stores.uncounted is.stands)
  event_stands old new (CountRaised s m t n p raises) is =
      stored s m raises.puts.same is
      (raised_keeps first.world.heap (known_at first s) s.layout s.waits s.memory m t n p raises.log
      raises.room raises.puts raises.inside raises.is_kept raises.guard raises.not_closing raises.in_image
      raises.counts raises.unnamed raises.whole is.stands)
  event_stands old new (RegionStored s m t p v x stores region) is =
      store_acted s m t (op.Stored p v) stores.puts.same is
      (region_keeps first.world.heap (known_at first s) s.layout s.waits s.memory m t m.calls p v x is.stands
      stores.puts stores.inside stores.is_kept region.fate region.log region.named region.guard
      region.owes_none stores.holds)
  event_stands old new (Closing s t counts) is =
      acted s t op.Closing [] s.layout s.waits refl is
      (closing_keeps first.world.heap (known_at first s) s.layout s.waits s.memory t s.memory.calls is.stands
      counts)
  event_stands old new (CountLowered s m t lowers) is =
      stored s m lowers.puts.same is
      (lowered_keeps first.world.heap (known_at first s) s.layout s.waits s.memory m t lowers.log lowers.puts
      lowers.inside lowers.closing lowers.durable lowers.counts is.stands)
  event_stands old new (Ended s t ends) is =
      acted s t op.End [] s.layout s.waits refl is
      (ends_keep first.world.heap (known_at first s) s.layout s.waits s.memory t s.memory.calls is.stands
      ends.outermost ends.is_closing ends.empty)

  pub events_stand : (old new : State) → Events first old new → IsStanding first old → IsStanding first new
  events_stand old new (none s) is = is
  events_stand old new (more s middle last before one) is =
      event_stands middle last one (events_stand s middle before is)
