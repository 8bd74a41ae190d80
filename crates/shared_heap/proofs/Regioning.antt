-- What the calls of a thread's log make of a shared heap.
use Rattle.std.proofs.Common.{◌≡◌, ◌⊎◌, inl, inr, ℕ, ◌<◌, ◌≤◌, ◌^◌, true, List, [], ◌++◌, ◌∷◌, Some, refl, sym, ◌∙◌, ap, subst}
use Rattle.std.proofs.Common.{arith, ◌&&◌, Bool, false, length, if◌then◌else◌}
use Rattle.std.specs.Prelude.{◌≢◌, Result, Ok, Err, OnErr, IfOk, slice_set, is_ok}
use Rattle.std.proofs.lemmas.Grind.{common_steps}
use Rattle.line_image.specs.declared.image.ImageFailed.{ImageFailed}
use Rattle.line_memory.specs.Memory.{Memory, OneCall}
use Rattle.run_history.specs.Recorded.{History, Recorded, with_act}
use Rattle.run_history.specs.declared.act.Op.TheVariants as op
use Rattle.region_log.specs.declared.entry.Entry.{Entry}
use Rattle.region_log.specs.declared.entry.Underway.{Underway}
use Rattle.region_log.specs.declared.entry.Underway.TheVariants.{Nothing, Adding, Ending}
use Rattle.region_log.specs.declared.entry.EndStage.TheVariants.{Writing, AllFenced, Clearing, Cleared}
use Rattle.region_log.specs.declared.log.LogStep.{LogStep}
use Rattle.region_log.specs.declared.log.LogStep.TheVariants as logging
use Rattle.region_log.specs.declared.log.EndStep.{EndStep}
use Rattle.region_log.specs.declared.log.EndStep.TheVariants as ending
use Rattle.region_log.specs.Fencing.{fences_next, is_fence_next, makes_fence}
use Rattle.region_log.specs.Guarding.{is_adding}
use Rattle.region_log.specs.Kept.{FitsUnderway, KeepsLog}
use Rattle.region_log.specs.Log.{Log}
use Rattle.region_log.specs.Readers.{added_entry}
use Rattle.region_log.specs.Stages.{CanAdd, CanEnd, EndsAtOnce}
use Rattle.region_log.specs.Steps.{AddsEntry, AddsOn, FailsToAdd, TouchesFor}
use Rattle.region_log.proofs.Fencing.{ending-sees, idle-fences-none, logging-sees}
use Rattle.region_logs.specs.Calls.{EndsPart, LogsPart}
use Rattle.region_logs.proofs.Guards.{adding-is}
use Rattle.convert_queue.specs.Marks.{with_fence}
use Rattle.convert_queue.specs.Queues.{Queues}
use Rattle.store_barrier.specs.Passed.{Machine, log_of, memory_of}
use Rattle.store_barrier.specs.Passed.{LogsWord, told_of_log, with_logged}
use Rattle.shared_heap.specs.Shared.{Shared}
use Rattle.shared_heap.specs.Regions.{ClosesTo, EndingFailsTo, EndsOnTo, EndsTo, FencesTo, IsEndCall, IsLeft, LeavesTo}
use Rattle.shared_heap.specs.Regions.{LoggingFailsTo, LogsTo, PartTo}
use Rattle.shared_heap.proofs.Calling.{AreResident, Told, later_count, over}

-- ---- calls

-- A call of a thread's log, made or not: what the memory and the logs are after it, and of what the queues are told.
pub record LogCalled (old : Shared) (t : ℕ) (log : Log) (after : Memory) (logs : List Log) (q : Queues) (done : Bool)
    : Type 0 where
  pub thread : t < 64
  pub resident : AreResident
  pub few : (memory_of old.machine).calls < 2 ^ 64
  pub logs_are : logs ≡ slice_set old.machine.logs t log
  -- a fence was next, and the call was made
  pub fences : Bool
  pub made : Bool
  pub is_next : fences ≡ fences_next (log_of old.machine t)
  pub is_done : made ≡ done
  pub told : q ≡ record old.machine.queue {
    marks = if fences && made then with_fence old.machine.queue.marks else old.machine.queue.marks;
  }

-- its log makes the fence that was next, if it was made
abbrev pub Sees : Shared → ℕ → Log → Bool → Type 0
Sees old t log done = makes_fence (log_of old.machine t) log ≡ (fences_next (log_of old.machine t) && done)

-- the shared heap with this memory, these logs and these queues
abbrev pub called_in : Shared → Memory → List Log → Queues → Shared
called_in old after logs q = record old {
  machine = record old.machine {
    spaces = record old.machine.spaces { twin = record old.machine.spaces.twin { memory = after } };
    logs = logs;
    queue = q;
  };
}

later_calls : (old after : Memory) → old.calls < 2 ^ 64 → OneCall old after → old.calls ≤ after.calls
later_calls old after few one =
    let counts = one.calls in let more = later_count old.calls few in omega (arith, counts, more)

queue_told : (old : Shared) (t : ℕ) (log : Log) (after : Memory) (logs : List Log) (q : Queues) (done : Bool)
    → LogCalled old t log after logs q done → Sees old t log done
    → q ≡ told_of_log old.machine.queue (log_of old.machine t) log
queue_told old t log after logs q done c seen =
    let same : (c.fences && c.made) ≡ makes_fence (log_of old.machine t) log
    = ap (λ b. b && c.made) c.is_next ∙ ap (λ b. fences_next (log_of old.machine t) && b) c.is_done ∙ sym seen in
    c.told ∙ ap (λ b. record old.machine.queue {
      marks = if b then with_fence old.machine.queue.marks else old.machine.queue.marks;
    }) same

machine_called : (old : Shared) (t : ℕ) (log : Log) (after : Memory) (logs : List Log) (q : Queues) (done : Bool)
    → LogCalled old t log after logs q done → Sees old t log done
    → (called_in old after logs q).machine ≡ with_logged old.machine (over old.machine after) t log
machine_called old t log after logs q done c seen =
    ap (λ (l : List Log). (called_in old after l q).machine) c.logs_are
    ∙ ap (λ (x : Queues). (called_in old after (slice_set old.machine.logs t log) x).machine)
    (queue_told old t log after logs q done c seen)

-- ---- fences

and_true : (b : Bool) → b ≡ (b && true)
and_true true = refl
and_true false = refl

and_false : (b : Bool) → false ≡ (b && false)
and_false true = refl
and_false false = refl

both : (a b : Bool) → a ≡ false → b ≡ false → a ≡ b
both a b x y = x ∙ sym y

both_true : (a b : Bool) → a ≡ true → b ≡ true → a ≡ b
both_true a b x y = x ∙ sym y

logs_see : (e : Entry) (before after : Log) (old new : Memory) (result : Result LogStep ImageFailed)
    → CanAdd before.underway e → LogsPart e before after old new result
    → makes_fence before after ≡ (fences_next before && is_ok result)
logs_see e before after old new (Ok logging.More) can part = (elim (part.more refl) [
  | inl touches ↦ (let seen = logging-sees.touched e before after old new can touches in
      both (makes_fence before after) (fences_next before) seen.0 seen.1)
  | inr adds ↦ (logging-sees.added e before after old new can adds).0
]) ∙ and_true (fences_next before)
logs_see e before after old new (Ok logging.Logged) can part =
    let seen = logging-sees.counted e before after old new can (part.logged refl) in
    both_true (makes_fence before after) (fences_next before) seen.0 seen.1 ∙ and_true (fences_next before)
logs_see e before after old new (Ok logging.Full) can part = absurd (part.room refl)
logs_see e before after old new (Err failed) can part =
    logging-sees.failed e before after old new part.failed ∙ and_false (fences_next before)

-- the entry that is under way can be added
pub logging_seen : (before after : Log) (old new : Memory) (result : Result LogStep ImageFailed)
    → is_adding before.underway ≡ true
    → ((e : Entry) → added_entry before.underway ≡ Some e → LogsPart e before after old new result)
    → makes_fence before after ≡ (fences_next before && is_ok result)
logging_seen before after old new result adding part =
    let at = adding-is before.underway adding in
    logs_see at.0 before after old new result
    (subst (λ (u : Underway). CanAdd u at.0) (sym at.2) refl) (part at.0 (ap added_entry at.2))

-- ---- a word is logged

went_for : (e : Entry) (log log' : Log) (old after : Memory) (result : Result LogStep ImageFailed)
    → LogsPart e log log' old after result
    → TouchesFor e log log' old after ⊎ (AddsOn e log log' old after
    ⊎ (AddsEntry e log log' old after ⊎ FailsToAdd e log log' old after))
went_for e log log' old after (Ok logging.More) part = elim (part.more refl) [
  | inl touches ↦ inl touches
  | inr adds ↦ inr (inl adds)
]
went_for e log log' old after (Ok logging.Logged) part = inr (inr (inl (part.logged refl)))
went_for e log log' old after (Ok logging.Full) part = absurd (part.room refl)
went_for e log log' old after (Err failed) part = inr (inr (inr part.failed))

is_left : (old : Shared) (t : ℕ) (log : Log) (after : Memory) (logs : List Log) (q : Queues) (done : Bool)
    → LogCalled old t log after logs q done → Sees old t log done
    → IsLeft (over old.machine after) t log old (called_in old after logs q)
is_left old t log after logs q done c seen = record {
  machine = machine_called old t log after logs q done c seen;
  history = refl;
  lines = refl;
  notes = refl;
}

-- what the call does to the word, and what it says of the entry that is under way
words_called : (old : Shared) (t : ℕ) (log : Log) (after : Memory) (logs : List Log) (q : Queues)
    (result : Result LogStep ImageFailed) → LogCalled old t log after logs q (is_ok result)
    → is_adding (log_of old.machine t).underway ≡ true
    → ((e : Entry) → added_entry (log_of old.machine t).underway ≡ Some e
    → LogsPart e (log_of old.machine t) log (memory_of old.machine) after result)
    → (w : LogsWord old.machine (over old.machine after) t log)
    × LogsPart w.entry (log_of old.machine t) log (memory_of old.machine) after result
words_called old t log after logs q result c adding part =
    let at = adding-is (log_of old.machine t).underway adding in
    let own = part at.0 (ap added_entry at.2) in (
      record {
        thread = c.thread;
        entry = at.0;
        logs = record {
          adding = (at.1, at.2);
          went = went_for at.0 (log_of old.machine t) log (memory_of old.machine) after result own;
          steps = own.steps;
          call = own.one_call;
          later = later_calls (memory_of old.machine) after c.few own.one_call;
        };
        only = refl;
        known = λ l lt. inl (c.resident after l lt);
      },
      own,
    )

pub logs_called : (old : Shared) (t : ℕ) (log : Log) (after : Memory) (logs : List Log) (q : Queues)
    (result : Result LogStep ImageFailed) → LogCalled old t log after logs q (is_ok result)
    → is_adding (log_of old.machine t).underway ≡ true
    → ((e : Entry) → added_entry (log_of old.machine t).underway ≡ Some e
    → LogsPart e (log_of old.machine t) log (memory_of old.machine) after result)
    → IfOk result (λ step. LogsTo step t old (called_in old after logs q))
logs_called old t log after logs q (Ok logging.More) c adding part =
    let x = words_called old t log after logs q (Ok logging.More) c adding part in
    record {
      twin = over old.machine after;
      log = log;
      logs = x.0;
      made = x.1.more refl;
      left = is_left old t log after logs q true c
          (logging_seen (log_of old.machine t) log (memory_of old.machine) after (Ok logging.More) adding part);
    }
logs_called old t log after logs q (Ok logging.Logged) c adding part =
    let x = words_called old t log after logs q (Ok logging.Logged) c adding part in
    record {
      twin = over old.machine after;
      log = log;
      logs = x.0;
      counts = x.1.logged refl;
      left = is_left old t log after logs q true c
          (logging_seen (log_of old.machine t) log (memory_of old.machine) after (Ok logging.Logged) adding part);
    }
logs_called old t log after logs q (Ok logging.Full) c adding part =
    (words_called old t log after logs q (Ok logging.Full) c adding part).1.room refl
logs_called old t log after logs q (Err failed) c adding part = tt

pub logging_failed : (old : Shared) (t : ℕ) (log : Log) (after : Memory) (logs : List Log) (q : Queues)
    (result : Result LogStep ImageFailed) → LogCalled old t log after logs q (is_ok result)
    → is_adding (log_of old.machine t).underway ≡ true
    → ((e : Entry) → added_entry (log_of old.machine t).underway ≡ Some e
    → LogsPart e (log_of old.machine t) log (memory_of old.machine) after result)
    → OnErr result (LoggingFailsTo t old (called_in old after logs q))
logging_failed old t log after logs q (Ok step) c adding part = tt
logging_failed old t log after logs q (Err failed) c adding part =
    let x = words_called old t log after logs q (Err failed) c adding part in
    record {
      twin = over old.machine after;
      log = log;
      logs = x.0;
      fails = x.1.failed;
      left = is_left old t log after logs q false c
          (logging_seen (log_of old.machine t) log (memory_of old.machine) after (Err failed) adding part);
    }

-- ---- a region ends

at_once_or_not : (log : Log) → EndsAtOnce log ⊎ (EndsAtOnce log → ⊥)
at_once_or_not log = elim (deeper log.depth) [
  | inl deep ↦ inl (inl deep)
  | inr flat ↦ (elim log.entries as (λ es. log.entries ≡ es → EndsAtOnce log ⊎ (EndsAtOnce log → ⊥)) [
    | [] ↦ λ none. inl (inr none)
    | e ∷ es ↦ λ some. inr (λ at_once. elim at_once [
      | inl deep ↦ flat deep
      | inr none ↦ (let wrong : e ∷ es ≡ [] = sym some ∙ none in cc)
    ])
  ] refl)
]
  where
    deeper : (depth : ℕ) → (1 < depth) ⊎ (1 < depth → ⊥)
    deeper depth = grind (arith, common_steps)

idle_at_once : (size depth : ℕ) (entries : List Entry) (u : Underway) → CanEnd u → FitsUnderway size depth entries u
    → (1 < depth) ⊎ (entries ≡ []) → u ≡ Nothing
idle_at_once size depth entries Nothing can fits at_once = refl
idle_at_once size depth entries (Adding e stage) can fits at_once = absurd can
idle_at_once size depth entries (Ending (Writing lines)) can fits at_once = absurd (elim at_once [
  | inl deep ↦ (let one = fits.0 in omega (arith, deep, one))
  | inr none ↦ fits.1 none
])
idle_at_once size depth entries (Ending AllFenced) can fits at_once = absurd (elim at_once [
  | inl deep ↦ (let one = fits.0 in omega (arith, deep, one))
  | inr none ↦ fits.1 none
])
idle_at_once size depth entries (Ending Clearing) can fits at_once = absurd (elim at_once [
  | inl deep ↦ (let one = fits.0 in omega (arith, deep, one))
  | inr none ↦ fits.1 none
])
idle_at_once size depth entries (Ending Cleared) can fits at_once = absurd (elim at_once [
  | inl deep ↦ (let one = fits.0 in omega (arith, deep, one))
  | inr none ↦ fits.1 none
])

-- An end makes the fence that was next, and no other: one that has no call makes none.
once_none : (before after : Log) → before.underway ≡ Nothing
    → (makes_fence before after ≡ false) × (fences_next before ≡ false)
once_none before after idle =
    (idle-fences-none before after idle, ap (is_fence_next (length before.entries)) idle)

pub ending_seen : (before after : Log) (old new : Memory) (result : Result EndStep ImageFailed)
    → CanEnd before.underway → KeepsLog before old → EndsPart before after old new result
    → makes_fence before after ≡ (fences_next before && is_ok result)
ending_seen before after old new (Ok ending.More) can keeps part =
    (let seen : (makes_fence before after ≡ false) × (fences_next before ≡ false) = elim (part.more refl) [
      | inl touches ↦ ending-sees.touched before after old new can touches
      | inr ends ↦ ending-sees.ended before after old new can keeps ends
    ] in both (makes_fence before after) (fences_next before) seen.0 seen.1) ∙ and_true (fences_next before)
ending_seen before after old new (Ok ending.AllFenced) can keeps part =
    let seen = ending-sees.fenced before after old new can part.steps.keeps (part.fenced refl) in
    both_true (makes_fence before after) (fences_next before) seen.0 seen.1 ∙ and_true (fences_next before)
ending_seen before after old new (Ok ending.Ended) can keeps part = (elim (at_once_or_not before) [
  | inl at_once ↦
      (let idle = idle_at_once old.size before.depth before.entries before.underway can keeps.fits at_once in
      let seen = once_none before after idle in
      both (makes_fence before after) (fences_next before) seen.0 seen.1)
  | inr later ↦
      (let seen = ending-sees.emptied before after old new (part.ended refl later) in
      both_true (makes_fence before after) (fences_next before) seen.0 seen.1)
]) ∙ and_true (fences_next before)
ending_seen before after old new (Err failed) can keeps part =
    ending-sees.failed before after old new part.failed ∙ and_false (fences_next before)

-- what the contract of a part of an end tells
pub record EndCalled (old : Shared) (t : ℕ) (log : Log) (after : Memory) (logs : List Log) (q : Queues)
    (result : Result EndStep ImageFailed) : Type 0 where
  pub called : LogCalled old t log after logs q (is_ok result)
  pub can : CanEnd (log_of old.machine t).underway
  pub keeps : KeepsLog (log_of old.machine t) (memory_of old.machine)
  pub part : EndsPart (log_of old.machine t) log (memory_of old.machine) after result

module _ (old : Shared) (t : ℕ) (log : Log) (after : Memory) (logs : List Log) (q : Queues) where
  abbrev new : Shared
  new = called_in old after logs q

  seen_by : (result : Result EndStep ImageFailed) → EndCalled old t log after logs q result
      → Sees old t log (is_ok result)
  seen_by result x =
      ending_seen (log_of old.machine t) log (memory_of old.machine) after result x.can x.keeps x.part

  end_call : (result : Result EndStep ImageFailed) → EndCalled old t log after logs q result
      → (EndsAtOnce (log_of old.machine t) → ⊥) → IsEndCall old.machine (over old.machine after) t log
  end_call result x later = record {
    call = record {
      can = x.can;
      steps = x.part.steps;
      region = x.part.region;
      call = x.part.one_call later;
      later = later_calls (memory_of old.machine) after x.called.few (x.part.one_call later);
    };
    only = refl;
    known = λ l lt. inl (x.called.resident after l lt);
  }

  not_ended : (result other : Result EndStep ImageFailed) → result ≡ other → other ≢ Ok ending.Ended
      → EndCalled old t log after logs q result → EndsAtOnce (log_of old.machine t) → ⊥
  not_ended result other is differs x at_once = differs (sym is ∙ (x.part.at_once at_once).0)

  more_to : EndCalled old t log after logs q (Ok ending.More) → EndsOnTo t old new
  more_to x = record {
    twin = over old.machine after;
    log = log;
    call = end_call (Ok ending.More) x (not_ended (Ok ending.More) (Ok ending.More) refl (λ e. cc) x);
    made = x.part.more refl;
    left = is_left old t log after logs q true x.called (seen_by (Ok ending.More) x);
  }

  fences_to : EndCalled old t log after logs q (Ok ending.AllFenced) → FencesTo t old new
  fences_to x = record {
    twin = over old.machine after;
    log = log;
    call = end_call (Ok ending.AllFenced) x (not_ended (Ok ending.AllFenced) (Ok ending.AllFenced) refl (λ e. cc) x);
    fences = x.part.fenced refl;
    left = is_left old t log after logs q true x.called (seen_by (Ok ending.AllFenced) x);
  }

  leaves_to : EndCalled old t log after logs q (Ok ending.Ended) → LeavesTo t old new
  leaves_to x = record {
    twin = over old.machine after;
    log = log;
    leaves = elim (at_once_or_not (log_of old.machine t)) [
      | inl at_once ↦ (let own = x.part.at_once at_once in inr (record {
        at_once = at_once;
        idle = idle_at_once (memory_of old.machine).size (log_of old.machine t).depth (log_of old.machine t).entries
            (log_of old.machine t).underway x.can x.keeps.fits at_once;
        same = ap (over old.machine) own.2;
        is = own.1;
      }))
      | inr later ↦ inl (record {
        call = end_call (Ok ending.Ended) x later;
        empties = x.part.ended refl later;
      })
    ];
    left = is_left old t log after logs q true x.called (seen_by (Ok ending.Ended) x);
  }

  pub part_called : (step : EndStep) → EndCalled old t log after logs q (Ok step) → PartTo step t old new
  part_called ending.More x = more_to x
  part_called ending.AllFenced x = fences_to x
  part_called ending.Ended x = leaves_to x

  pub end_failed : (failed : ImageFailed) → EndCalled old t log after logs q (Err failed) → EndingFailsTo t old new
  end_failed failed x = record {
    twin = over old.machine after;
    log = log;
    call = end_call (Err failed) x (not_ended (Err failed) (Err failed) refl (λ e. cc) x);
    fails = x.part.failed;
    left = is_left old t log after logs q false x.called (seen_by (Err failed) x);
  }

pub ends_called : (old : Shared) (t : ℕ) (log : Log) (after : Memory) (logs : List Log) (q : Queues)
    (result : Result EndStep ImageFailed) → EndCalled old t log after logs q result
    → IfOk result (λ step. PartTo step t old (called_in old after logs q))
ends_called old t log after logs q (Ok step) x = part_called old t log after logs q step x
ends_called old t log after logs q (Err failed) x = tt

pub ends_failed : (old : Shared) (t : ℕ) (log : Log) (after : Memory) (logs : List Log) (q : Queues)
    (result : Result EndStep ImageFailed) → EndCalled old t log after logs q result
    → OnErr result (EndingFailsTo t old (called_in old after logs q))
ends_failed old t log after logs q (Ok step) x = tt
ends_failed old t log after logs q (Err failed) x = end_failed old t log after logs q failed x

-- ---- acts

-- With its act the fence behind all that was logged closes the region.
pub closes_to : (t : ℕ) (old between new : Shared) → old.machine.acts ≡ old.history.acts → FencesTo t old between
    → Told between new (record { thread = t; at = (memory_of between.machine).calls; op = op.Closing })
    → ClosesTo t old new
closes_to t old between new acts f told =
    let at : (memory_of between.machine).calls ≡ f.twin.memory.calls
    = ap (λ (m : Machine). (memory_of m).calls) f.left.machine in
    let history : new.history
    ≡ with_act old.history (record { thread = t; at = f.twin.memory.calls; op = op.Closing }) =
    told.told ∙ ap (λ (h : History). with_act h (record { thread = t; at = (memory_of between.machine).calls; op = op.Closing })) f.left.history
    ∙ ap (λ n. with_act old.history (record { thread = t; at = n; op = op.Closing })) at in
    record {
      twin = f.twin;
      log = f.log;
      call = f.call;
      fences = f.fences;
      machine = told.machine
          ∙ ap (λ (m : Machine). record m { acts = new.history.acts }) f.left.machine
          ∙ ap (λ (h : History). record (with_logged old.machine f.twin t f.log) { acts = h.acts }) history
          ∙ ap (λ (a : List Recorded). record (with_logged old.machine f.twin t f.log) {
            acts = a ++ record {
              act = record { thread = t; at = f.twin.memory.calls; op = op.Closing };
              named = [];
            } ∷ [];
          }) (sym acts);
      history = history;
      lines = told.lines ∙ f.left.lines;
      notes = told.notes ∙ f.left.notes;
    }

-- any other part
pub part_ends : (step : EndStep) (t : ℕ) (old left : Shared) → (step ≡ ending.AllFenced → ⊥) → PartTo step t old left
    → EndsTo step t old left
part_ends ending.More t old left other part = part
part_ends ending.AllFenced t old left other part = absurd (other refl)
part_ends ending.Ended t old left other part = part

-- ---- from the value that a call began with

pub logs_from : (t : ℕ) (old now new : Shared) (result : Result LogStep ImageFailed) → old ≡ now
    → IfOk result (λ step. LogsTo step t old new) → IfOk result (λ step. LogsTo step t now new)
logs_from t old now new result e x = subst (λ (s : Shared). IfOk result (λ step. LogsTo step t s new)) e x

pub failed_logging_from : (t : ℕ) (old now new : Shared) (result : Result LogStep ImageFailed) → old ≡ now
    → OnErr result (LoggingFailsTo t old new) → OnErr result (LoggingFailsTo t now new)
failed_logging_from t old now new result e x = subst (λ (s : Shared). OnErr result (LoggingFailsTo t s new)) e x

pub part_from : (t : ℕ) (old now left : Shared) (result : Result EndStep ImageFailed) → old ≡ now
    → IfOk result (λ step. PartTo step t old left) → IfOk result (λ step. PartTo step t now left)
part_from t old now left result e x = subst (λ (s : Shared). IfOk result (λ step. PartTo step t s left)) e x

pub failed_part_from : (t : ℕ) (old now left : Shared) (result : Result EndStep ImageFailed) → old ≡ now
    → OnErr result (EndingFailsTo t old left) → OnErr result (EndingFailsTo t now left)
failed_part_from t old now left result e x = subst (λ (s : Shared). OnErr result (EndingFailsTo t s left)) e x
