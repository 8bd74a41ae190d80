-- Events lead to a state with which a log stands.
use Rattle.std.proofs.Common.{inr, sym, ◌∙◌, arith}
use Rattle.line_memory.specs.Memory.{Memory, IsTelling}
use Rattle.line_memory.specs.Moments.{KeepsShown}
use Rattle.run_history.specs.Knowing.{Knowledge}
use Rattle.stop_theorem.specs.Running.{State, Events, none, more, Called, known_at, with_memory}
use Rattle.region_log.specs.Kept.{KeepsLog, KeepsRegion}
use Rattle.region_log.specs.declared.entry.Underway.{Underway}
use Rattle.region_log.specs.declared.entry.Underway.TheVariants.{Nothing, Adding, Ending}
use Rattle.region_log.specs.Log.{Log}
use Rattle.region_log.proofs.Frames.{undisturbed-call, keeps-on}
use Rattle.region_log.proofs.Regions.{region-call}
use Rattle.region_events.specs.Guards.{KeepsGuards, HasOld, StandsWith}
use Rattle.region_events.specs.Laws.{GoesWith, CallsLeaveLogs}
use Rattle.region_events.proofs.Standing.{IsStanding, events_stand}

pub standing_of : (first : Knowledge) (log : Log) (s : State) → StandsWith first log s → IsStanding first s
standing_of first log s w = record {
  stands = w.stands;
  telling = w.telling;
  enough = (let size = w.stands.size in let lines = w.keeps.size in omega (arith, size, lines));
}

pub goes : (first : Knowledge) (log : Log) (s s' : State) → IsStanding first s → Events first s s'
    → KeepsGuards (known_at first s') s'.layout log → KeepsLog log s'.memory → KeepsRegion log s'.memory
    → HasOld log.underway s'.memory → GoesWith first log s s'
goes first log s s' is events guards keeps region old =
    let there = events_stand first s s' events is in
    record {
      events = events;
      stands = record {
        stands = there.stands;
        telling = there.telling;
        guards = guards;
        keeps = keeps;
        region = region;
        old = old;
      };
    }

-- the word of an entry that is being added shows as before
old_left : (underway : Underway) (old new : Memory) → IsTelling old.image.trace → KeepsShown old new
    → HasOld underway old → HasOld underway new
old_left Nothing old new tells keeps has = tt
old_left (Adding e stage) old new tells keeps has =
    has ∙ sym (keeps.shows e.spot.line e.spot.word (inr tells) (inr (keeps.telling tells)))
old_left (Ending stage) old new tells keeps has = tt

pub calls_leave : CallsLeaveLogs
calls_leave first log s w new keeps count later =
    goes first log s (with_memory s new) (standing_of first log s w)
    (more s s (with_memory s new) (none s) (Called s new keeps count later)) w.guards
    (keeps-on log s.memory new (undisturbed-call log.thread s.memory new keeps) w.keeps)
    (region-call s.memory new keeps log.entries log.underway w.region)
    (old_left log.underway s.memory new w.telling keeps w.old)
