-- Empty logs stand where a run starts, and in some run a place is guarded.
use Rattle.std.proofs.Common.{◌≡◌, ⊎_elim, ℕ, ◌<◌, ◌≤◌, List, [], length, refl, sym, ◌∙◌, ap, arith}
use Rattle.ap_base.specs.declared.place.Place.TheVariants.{Static}
use Rattle.ap_base.specs.declared.place.Spot.{Spot}
use Rattle.graph_model.specs.declared.types.Value.TheVariants.{Null, Obj as Object}
use Rattle.line_memory.specs.Memory.{Memory, line_shown, shown, IsTelling, IsDurable}
use Rattle.image_layout.specs.Places.{logs, min_lines, log_head_line}
use Rattle.run_history.specs.declared.act.Op.TheVariants as op
use Rattle.run_history.specs.Knowing.{Knowledge, Guard, known_after_op}
use Rattle.stop_theorem.proofs.Runs.{orderly_first}
use Rattle.stop_theorem.specs.Layouts.{Layout}
use Rattle.stop_theorem.specs.WrongOrders.{nodes_known}
use Rattle.stop_theorem.specs.Running.{State, at_start, known_at, with_act}
use Rattle.stop_theorem.proofs.Begun.{memory, begun, logs_same, size_is}
use Rattle.stop_theorem.proofs.Images.{unlogged}
use Rattle.stop_theorem.proofs.Starting.{stands_first}
use Rattle.region_log.specs.declared.entry.Entry.{Entry}
use Rattle.region_log.specs.Kept.{Counts, KeepsLog}
use Rattle.region_log.specs.Log.{entry_of}
use Rattle.region_events.specs.Guards.{KeepsGuards, StandsWith}
use Rattle.region_events.specs.Laws.{GoesWith, one_deeper, with_entry, MayBeGuarded}
use Rattle.region_events.specs.Starting.{empty_log, HasNoRegion, EmptyLogsStand, OneEntryIsUnderWay}
use Rattle.region_events.proofs.Acts.{none_of_none}
use Rattle.region_events.proofs.Lists.{guards_none, no_place}
use Rattle.region_events.proofs.Regions.{begins_are_events, guards_are_events}

-- a log that counts nothing
pub empty_keeps : (t : ℕ) (m : Memory) → t < logs → min_lines ≤ m.size → (IsTelling m.image.trace → Counts m t 0)
    → KeepsLog (empty_log t) m
empty_keeps t m below lines count = record {
  thread = below;
  size = lines;
  room = omega arith;
  places = λ k d within. absurd (omega (arith, within));
  once = λ i j d less within. absurd (omega (arith, within));
  fits = tt;
  words = λ tells. record { count = count tells; each = tt };
}

pub no_region : (known : Knowledge) (lay : Layout) (t : ℕ) → HasNoRegion known t
    → KeepsGuards known lay (empty_log t)
no_region known lay t none = record {
  depth = sym none.outside;
  closing = sym none.not_closing;
  some = sym none.no_guards;
  count = ap (λ (gs : List Guard). length gs) (guards_none known.guards t none.no_guards);
  outside = λ zero. (refl, refl);
  guarded = λ p guard. absurd (no_place known.guards t p none.no_guards guard);
  places = λ spot is. absurd (none_of_none spot is);
}

pub empty_logs_stand : EmptyLogsStand
empty_logs_stand first lay m t starts tells below none = record {
  stands = stands_first first lay m starts (orderly_first first starts.no_marks);
  telling = tells;
  guards = no_region first lay t none;
  keeps = (let lines = starts.big in empty_keeps t m below (omega (arith, lines))
      (λ told v left. starts.counts t below v left ∙ starts.unlogged t below));
  region = tt;
  old = tt;
}

-- ---- one run

-- log 0 counts nothing, and that is durable
head_durable : IsDurable memory (log_head_line 0) 0
unfolding line_shown memory
head_durable v can = ⊎_elim (λ (is : v ≡ shown memory (log_head_line 0) 0). is)
    (λ left. ⊎_elim (λ (is : v ≡ shown memory (log_head_line 0) 0). is) (λ no. absurd no) left) can

counts_nothing : Counts memory 0 0
counts_nothing v left = head_durable v left ∙ logs_same.counts 0 (omega arith)
    ∙ unlogged (Object 0) 5 6 7 Null (Object 2) Null refl (refl, refl) (refl, refl) (refl, refl) refl refl
    refl 0 (omega arith)

abbrev first_state : State
first_state = at_start begun.0 memory

first_stands : StandsWith nodes_known (empty_log 0) first_state
first_stands = record {
  stands = begun.1.stands;
  telling = begun.1.tells;
  guards = no_region nodes_known begun.0 0 (record { outside = refl; no_guards = refl; not_closing = refl });
  keeps = (let size = size_is in
      empty_keeps 0 memory (omega arith) (omega (arith, size)) (λ tells. counts_nothing));
  region = tt;
  old = tt;
}

abbrev second_state : State
second_state = with_act first_state 0 op.Begin []

region_begun : GoesWith nodes_known (one_deeper (empty_log 0)) first_state second_state
region_begun = begins_are_events nodes_known (empty_log 0) first_state first_stands
    (record { idle = refl; room = omega arith; there = omega arith })

abbrev root_spot : Spot
root_spot = record { line = 1; word = 0; in_line = omega arith }

abbrev root_entry : Entry
root_entry = entry_of root_spot (shown memory 1 0)

root_may : MayBeGuarded (known_at nodes_known second_state) begun.0 memory (one_deeper (empty_log 0))
    root_entry (Static 0)
unfolding known_after_op
root_may = record {
  is_open = omega arith;
  idle = refl;
  room = omega arith;
  is_kept = refl;
  unguarded = refl;
  word = record { line = refl; word = refl };
  old = refl;
}

pub one_entry : OneEntryIsUnderWay
one_entry = record {
  state = with_act second_state 0 (op.Guarded (Static 0)) [];
  log = with_entry (one_deeper (empty_log 0)) root_entry;
  entry = root_entry;
  underway = refl;
  word = record { line = refl; word = refl };
  stands = (guards_are_events nodes_known (one_deeper (empty_log 0)) second_state region_begun.stands
      root_entry
      (Static 0) root_may).stands;
}
