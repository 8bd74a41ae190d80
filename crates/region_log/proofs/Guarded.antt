-- A word is guarded: the memory keeps the log.
use Rattle.std.proofs.Common.{◌≡◌, ◌<◌, ℕ, true, length, sym, subst}
use Rattle.ap_base.specs.declared.place.Spot.{Spot}
use Rattle.image_layout.specs.Places.{log_entries}
use Rattle.image_meaning.specs.Logs.{may_be_logged}
use Rattle.line_memory.specs.Memory.{Memory}
use Rattle.region_log.specs.declared.entry.EntryStage.TheVariants.{Begun}
use Rattle.region_log.specs.declared.entry.Underway.{Underway}
use Rattle.region_log.specs.declared.entry.Underway.TheVariants.{Nothing, Adding}
use Rattle.region_log.specs.Kept.{HoldsUnderway, KeepsLog}
use Rattle.region_log.specs.Log.{Log, IsLogged, entry_of}

keeps-guarding : (log : Log) (spot : Spot) (old : ℕ) (m : Memory) → log.underway ≡ Nothing
    → length log.entries < log_entries → (IsLogged log.entries spot → ⊥) → may_be_logged m.size spot.line ≡ true
    → KeepsLog log m
    → KeepsLog (record log { underway = Adding (entry_of spot old) Begun }) m
keeps-guarding log spot old m idle room unlogged place keeps = record {
  thread = keeps.thread;
  size = keeps.size;
  room = keeps.room;
  places = keeps.places;
  once = keeps.once;
  fits = (record { place = place; unlogged = unlogged }, room);
  words = λ tells.
      subst (λ (u : Underway). HoldsUnderway m log.thread log.entries u) idle (keeps.words tells);
}

pub now-guarding : (before log : Log) (spot : Spot) (old : ℕ) (m : Memory) → before ≡ log → log.underway ≡ Nothing
    → length log.entries < log_entries → (IsLogged log.entries spot → ⊥) → may_be_logged m.size spot.line ≡ true
    → KeepsLog log m
    → KeepsLog (record before { underway = Adding (entry_of spot old) Begun }) m
now-guarding before log spot old m is idle room unlogged place keeps = subst
    (λ (l : Log). KeepsLog (record l { underway = Adding (entry_of spot old) Begun }) m) (sym is)
    (keeps-guarding log spot old m idle room unlogged place keeps)
