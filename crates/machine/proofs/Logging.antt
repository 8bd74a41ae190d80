-- The word that a region has guarded last is logged, a part with each call.
use Rattle.std.proofs.Common.{◌≡◌, ◌⊎◌, inl, inr, ℕ, ◌-◌, ◌<◌, true, false, List, [], length, refl, sym, ◌∙◌, ap}
use Rattle.std.proofs.Common.{subst, arith}
use Rattle.std.proofs.lemmas.Bool.{cases_lt}
use Rattle.std.proofs.lemmas.List.{get_or-set_same}
use Rattle.ap_base.specs.Causes.{next_count}
use Rattle.ap_base.specs.declared.reference.Ref.{Ref}
use Rattle.ap_base.specs.declared.reference.Item.{Item}
use Rattle.run_types.specs.declared.fault.StepFault.TheVariants as met
use Rattle.natives.specs.declared.requests.Request.{Request}
use Rattle.run_history.specs.Recorded.{History}
use Rattle.plain_model.specs.Facts.{SetFacts}
use Rattle.run_forms.specs.Views.{ThreadFrames}
use Rattle.region_log.specs.Guarding.{is_adding}
use Rattle.region_log.specs.declared.log.LogStep.{LogStep}
use Rattle.region_log.specs.declared.log.LogStep.TheVariants as logging
use Rattle.region_log.specs.Kept.{KeepsLog}
use Rattle.region_log.specs.Log.{Log}
use Rattle.region_log.specs.Steps.{AddsEntry, AddsOn, TouchesFor}
use Rattle.twin_forms.specs.Sights.{Twin}
use Rattle.twin_forms.specs.Table.{Entry}
use Rattle.machine_threads.specs.Passed.{Opening, Machine, empty_log, log_of, memory_of}
use Rattle.machine_threads.specs.Passed.{LogsWord, RegionStep, with_logged}
use Rattle.machine_threads.specs.RegionEvents as region
use Rattle.shared_heap.specs.Shared.{Shared}
use Rattle.shared_heap.specs.Regions.{IsLeft, LoggingFailsTo, LogsTo}
use Rattle.machine.specs.declared.events.Event.TheVariants.{Micro, Over}
use Rattle.machine.specs.declared.events.Halt.TheVariants.{Met}
use Rattle.machine.specs.Ended.{ComesTo, IsSomeDue}
use Rattle.machine.specs.Events.{Comes}
use Rattle.machine.specs.Laws.{Laws}
use Rattle.machine.specs.Running.{IsDue}
use Rattle.machine.proofs.Basics.{shared-is}
use Rattle.machine.proofs.Bound.{quiet-measured}
use Rattle.machine.proofs.Leaving.{few, lives, happened, as-they-were, stays-on, AsksStill}
use Rattle.machine_threads.specs.Happening as event
use Rattle.machine_threads.specs.Keeping.{AsksSomeStore, KeepsThread, LagsByItsLog}

-- the log of the thread is what it became
pub log-now : (m : Machine) (twin : Twin) (t : ℕ) (log : Log) → t < 64 → length m.logs ≡ 64
    → log_of (with_logged m twin t log) t ≡ log
log-now m twin t log below many = get_or-set_same m.logs t log (empty_log t) (omega (arith, below, many))

module _ (laws : Laws) (o : Opening) (first : ℕ) (set : SetFacts) (s : Shared) (es : List Entry)
    (threads : List ThreadFrames) (t : ℕ) (fs : ThreadFrames) (request : Request Ref Item) (due : IsDue o first set s es threads t fs request) (new : Shared)
  where
    own : KeepsThread o s.machine es t fs
    own = due.running.all.each t fs due.asks.frames

    -- a thread for which a word is being logged asks a store
    asks-store : (twin : Twin) (log : Log) → LogsWord s.machine twin t log → AsksSomeStore o.launch fs
    asks-store twin log l = subst (λ u. LagsByItsLog o.launch u fs) l.logs.adding.1 own.logs

    -- ---- a part

    -- a part that was made, whichever
    record Part : Type 0 where
      twin : Twin
      log : Log
      logs : LogsWord s.machine twin t log
      made : TouchesFor logs.entry (log_of s.machine t) log (memory_of s.machine) twin.memory
          ⊎ (AddsOn logs.entry (log_of s.machine t) log (memory_of s.machine) twin.memory
          ⊎ AddsEntry logs.entry (log_of s.machine t) log (memory_of s.machine) twin.memory)
      left : IsLeft twin t log s new

    module _ (l : Part) where
      abbrev logged_now : Shared
      logged_now = record {
        machine = with_logged s.machine l.twin t l.log;
        history = s.history;
        lines = s.lines;
        notes = s.notes;
      }

      logged-is : new ≡ logged_now
      logged-is = shared-is new _ _ _ _ l.left.machine l.left.history l.left.lines l.left.notes

      abbrev region-step : RegionStep o t s.machine es logged_now.machine
      region-step = region.logged l.twin l.log l.logs

      lags : LagsByItsLog o.launch l.log.underway fs
      lags = elim l.made [
        | inl touches ↦ subst (λ (log : Log). LagsByItsLog o.launch log.underway fs) (sym touches.log)
            (asks-store l.twin l.log l.logs)
        | inr rest ↦ (elim rest [
          | inl adds ↦ subst (λ (log : Log). LagsByItsLog o.launch log.underway fs) (sym adds.log)
              (asks-store l.twin l.log l.logs)
          | inr counts ↦ subst (λ (log : Log). LagsByItsLog o.launch log.underway fs) (sym counts.log) tt
        ])
      ]

      logged-comes : l.twin.memory.faults ≡ (memory_of s.machine).faults
          → Comes o first es threads t fs request Micro s logged_now
      logged-comes cause =
          let still : AsksStill o logged_now.machine t fs = record {
            lags = own.lags;
            logs = subst (λ (log : Log). LagsByItsLog o.launch log.underway fs)
                (sym (log-now s.machine l.twin t l.log due.thread due.running.keeps.asked.regions.many)) lags;
          } in
          let now = happened laws o first set s es threads t fs request due (event.region _ region-step) []
          due.asks.frames tt tt (as-they-were laws o first set s es threads t fs request due logged_now.machine still) in
          record {
            goes = stays-on laws o first set s es threads t fs request due logged_now es now refl refl refl
                due.running.acts refl due.running.unnamed refl refl refl due.running.unfaulted;
            acts = inl refl;
            calls = inr l.logs.logs.call;
            cause = cause;
            answers = tt;
            finds = λ idle. absurd (let no : true ≡ false = sym (ap is_adding l.logs.logs.adding.1) ∙ idle in cc);
            awaits = λ u w. absurd (let no : true ≡ false = sym (ap is_adding l.logs.logs.adding.1) ∙ w.unlogged in cc);
            numbers = refl;
            quiet = λ micro same. elim l.made [
              | inl touches ↦ absurd (laws.logging.untouched o s.machine es due.running.keeps
                  due.running.unwritten l.twin t l.log l.logs touches)
              | inr made ↦ (let less = laws.logging.made o s.machine es due.running.keeps
                  due.running.unwritten l.twin t l.log l.logs made in omega (arith, less))
            ];
            waits = λ on no. absurd (let e = no in cc);
            work = elim l.made [
              | inl touches ↦ absurd (laws.logging.untouched o s.machine es due.running.keeps
                  due.running.unwritten l.twin t l.log l.logs touches)
              | inr made ↦ quiet-measured s logged_now l.logs.logs.steps.size refl (laws.logging.made o s.machine es
                  due.running.keeps due.running.unwritten l.twin t l.log l.logs made)
            ];
            asks = refl;
            noted = refl;
          }

      part-comes : (memory_of new.machine).faults ≡ (memory_of s.machine).faults
          → Comes o first es threads t fs request Micro s new
      part-comes cause = subst (Comes o first es threads t fs request Micro s) (sym logged-is)
          (logged-comes (subst (λ (x : Shared). (memory_of x.machine).faults ≡ (memory_of s.machine).faults)
          logged-is cause))

    pub logged : (step : LogStep) → LogsTo step t s new
        → (memory_of new.machine).faults ≡ (memory_of s.machine).faults → Comes o first es threads t fs request Micro s new
    logged logging.More l = part-comes (record {
      twin = l.twin;
      log = l.log;
      logs = l.logs;
      made = elim l.made [ inl touches ↦ inl touches | inr adds ↦ inr (inl adds) ];
      left = l.left;
    })
    logged logging.Logged l = part-comes (record {
      twin = l.twin;
      log = l.log;
      logs = l.logs;
      made = inr (inr l.counts);
      left = l.left;
    })
    logged logging.Full l = absurd l

    -- ---- the image failed

    module _ (f : LoggingFailsTo t s new) (room : length s.history.acts < s.history.limit) where
      abbrev failed_now : Shared
      failed_now = record {
        machine = with_logged s.machine f.twin t f.log;
        history = s.history;
        lines = s.lines;
        notes = s.notes;
      }

      failed-is : new ≡ failed_now
      failed-is = shared-is new _ _ _ _ f.left.machine f.left.history f.left.lines f.left.notes

      failed-comes : f.twin.memory.faults ≡ next_count (memory_of s.machine).faults
          → Comes o first es threads t fs request (Over (Met met.ImageFault)) s failed_now
      failed-comes cause =
          let now = happened laws o first set s es threads t fs request due
          (event.region _ (region.logged f.twin f.log f.logs)) [] due.asks.frames tt tt
          (as-they-were laws o first set s es threads t fs request due failed_now.machine (record {
            lags = own.lags;
            logs = subst (λ (log : Log). LagsByItsLog o.launch log.underway fs)
                (sym (log-now s.machine f.twin t f.log due.thread due.running.keeps.asked.regions.many))
                (subst (λ (log : Log). LagsByItsLog o.launch log.underway fs) (sym f.fails.log)
                (asks-store f.twin f.log f.logs));
          })) in record {
            goes = record {
              after = es;
              keeps = now.keeps;
              plain = now.plain;
              history = refl;
              acts = refl;
              ends = laws.ends.image o s.machine es threads due.running.keeps due.running.plain
                  (f.twin.memory.size - first) t fs (lives laws o first set s es threads t fs request due)
                  (few laws o first set s es threads t fs request due room);
            };
            acts = refl;
            calls = inr f.logs.logs.call;
            cause = cause;
            answers = tt;
            finds = tt;
            awaits = λ u w. tt;
            numbers = refl;
            quiet = λ micro same. absurd (let no = micro in cc);
            waits = λ on no. absurd (let e = no in cc);
            work = tt;
            asks = refl;
            noted = refl;
          }

      pub logging-failed : (memory_of new.machine).faults ≡ next_count (memory_of s.machine).faults
          → Comes o first es threads t fs request (Over (Met met.ImageFault)) s new
      logging-failed cause = subst (Comes o first es threads t fs request (Over (Met met.ImageFault)) s) (sym failed-is)
          (failed-comes (subst (λ (x : Shared). (memory_of x.machine).faults ≡ next_count (memory_of s.machine).faults)
          failed-is cause))

-- ---- of each run

history-stays : (s new : Shared) (t : ℕ) (step : LogStep) → LogsTo step t s new → new.history.acts ≡ s.history.acts
history-stays s new t logging.More l = ap (λ (h : History). h.acts) l.left.history
history-stays s new t logging.Logged l = ap (λ (h : History). h.acts) l.left.history
history-stays s new t logging.Full l = absurd l

pub logged-comes-to : Laws → (s new : Shared) (t : ℕ) (step : LogStep) → LogsTo step t s new
    → (memory_of new.machine).faults ≡ (memory_of s.machine).faults → ComesTo t Micro s new
logged-comes-to laws s new t step l cause = record {
  comes = λ o first set es threads fs request due.
      logged laws o first set s es threads t fs request due new step l cause;
  sink = record { acts = inl (history-stays s new t step l); fault = tt };
}

pub logging-failed-comes-to : Laws → (s new : Shared) (t : ℕ) → LoggingFailsTo t s new
    → length s.history.acts < s.history.limit → (memory_of new.machine).faults ≡ next_count (memory_of s.machine).faults
    → ComesTo t (Over (Met met.ImageFault)) s new
logging-failed-comes-to laws s new t f room cause = record {
  comes = λ o first set es threads fs request due.
      logging-failed laws o first set s es threads t fs request due new f room cause;
  sink = record { acts = inl (ap (λ (h : History). h.acts) f.left.history); fault = tt };
}

-- ---- what a log's calls are given

pub due-keeps-log : (s : Shared) (t : ℕ) → IsSomeDue s t → KeepsLog (log_of s.machine t) (memory_of s.machine)
due-keeps-log s t (o, first, set, es, threads, fs, request, due) =
    (due.running.keeps.asked.regions.each t due.thread).keeps

-- outside regions nothing is under way
pub due-is-open : (s : Shared) (t : ℕ) → IsSomeDue s t → ((log_of s.machine t).depth ≡ 0 → ⊥)
    → 0 < (log_of s.machine t).depth
due-is-open s t due not = by (log_of s.machine t).depth not
  where
    by : (n : ℕ) → (n ≡ 0 → ⊥) → 0 < n
    by n other = elim (cases_lt 0 n) [ inl below ↦ below | inr past ↦ absurd (other (omega (arith, past))) ]

pub outside-idle : (s : Shared) (t : ℕ) → IsSomeDue s t → (log_of s.machine t).depth ≡ 0
    → is_adding (log_of s.machine t).underway ≡ false
outside-idle s t (o, first, set, es, threads, fs, request, due) closed =
    ap is_adding ((due.running.keeps.asked.regions.each t due.thread).guards.outside closed).1

pub adding-is-open : (s : Shared) (t : ℕ) → IsSomeDue s t → is_adding (log_of s.machine t).underway ≡ true
    → 0 < (log_of s.machine t).depth
adding-is-open s t due adding = due-is-open s t due
    (λ closed. let no : true ≡ false = sym adding ∙ outside-idle s t due closed in cc)
