-- The events of regions take no lines, write none back, and lower the measure by their calls.
use Rattle.std.proofs.Common.{◌≡◌, inl, inr, ℕ, ◌+◌, ◌-◌, ◌*◌, ◌<◌, ◌≤◌, Bool, true, false, List, length, sym, ◌∙◌, ap, subst}
use Rattle.std.proofs.Common.{arith, if◌then◌else◌}
use Rattle.std.proofs.lemmas.Bool.{cases_Bool}
use Rattle.std.specs.Prelude.{slice_set}
use Rattle.ap_base.specs.declared.reference.Ref.{Ref}
use Rattle.ap_base.specs.declared.reference.Item.{Item}
use Rattle.natives.specs.declared.requests.Request.{Request}
use Rattle.twin_forms.specs.Table.{Entry}
use Rattle.twin_forms.specs.Sights.{Twin}
use Rattle.convert_queue.specs.Marks.{Mark, with_fence}
use Rattle.convert_queue.specs.Queues.{Queues}
use Rattle.convert_queue.specs.Work.{line_work}
use Rattle.convert_queue.proofs.WorkLaws.{work_fence}
use Rattle.converter.specs.Laws.{AreUnwritten}
use Rattle.region_log.specs.Fencing.{makes_fence}
use Rattle.region_log.specs.Kept.{KeepsLog}
use Rattle.region_log.specs.Log.{Log}
use Rattle.region_log.proofs.Fencing.{ending-sees, logging-sees}
use Rattle.region_events.specs.Laws.{one_deeper, with_entry}
use Rattle.machine_laws.specs.Passed.{Nothing}
use Rattle.machine_laws.specs.Passed.{Opening, Machine, memory_of, log_of}
use Rattle.machine_laws.specs.Passed.{KeepsRun}
use Rattle.machine_laws.specs.Passed.{OnlyImage, with_logged, LeavesLog, emptied, at_once, begun, guarded, logged, stored}
use Rattle.machine_laws.specs.Passed.{ending, closing, ended, RegionStep, told_of_log}
use Rattle.machine_ends.specs.Regions.{LoggingLowersTheMeasure, EndingLowersTheMeasure, GuardsAddEightToTheMeasure}
use Rattle.machine_ends.specs.Unwritten.{HasUnwritten}
use Rattle.machine_ends.specs.Work.{log_work, work_left, measure}
use Rattle.machine_ends.proofs.LogWork.{logs_left, log-set, added-less, logged-less, unlogged-same, untouched, guarded-more}
use Rattle.machine_ends.proofs.LogWork.{ended-less, closed-less, unended-same, emptied-less, untouched-end}
use Rattle.machine_ends.proofs.Working.{stores_left, doing-set, parts-same, same-conversions, fewer-conversions}
use Rattle.machine_ends.specs.Lines.{TakesLines}
use Rattle.machine_ends.proofs.Unwritten.{logs-unwritten}

-- ---- lines

pub regions-keep-lines : (o : Opening) (t : ℕ) (m m' : Machine) (es : List Entry) (first : ℕ)
    → TakesLines o first m es → RegionStep o t m es m' → TakesLines o first m' es
regions-keep-lines o t m _ es first taken (begun m' request r e) = e.does.free ∙ taken
regions-keep-lines o t m _ es first taken (guarded request place item entry e) = taken
regions-keep-lines o t m _ es first taken (logged twin log' e) = taken
regions-keep-lines o t m _ es first taken (stored m' request place item e) = e.does.free ∙ taken
regions-keep-lines o t m _ es first taken (ending twin request log' e) = taken
regions-keep-lines o t m _ es first taken (closing twin request log' e) = taken
regions-keep-lines o t m _ es first taken (ended m' request r e) = e.does.free ∙ taken

pub same-unwritten : (m m' : Machine) (es : List Entry) → m'.queue ≡ m.queue → HasUnwritten m es
    → HasUnwritten m' es
same-unwritten m m' es same old = subst (λ (q : Queues). AreUnwritten q es) (sym same) old

pub regions-unwritten : (o : Opening) (t : ℕ) (m m' : Machine) (es : List Entry) → HasUnwritten m es
    → RegionStep o t m es m' → HasUnwritten m' es
regions-unwritten o t m _ es old (begun m' request r e) = same-unwritten m m' es e.queue old
regions-unwritten o t m _ es old (guarded request place item entry e) = old
regions-unwritten o t m _ es old (logged twin log' e) = logs-unwritten m.queue (log_of m t) log' es old
regions-unwritten o t m _ es old (stored m' request place item e) = same-unwritten m m' es e.queue old
regions-unwritten o t m _ es old (ending twin request log' e) = logs-unwritten m.queue (log_of m t) log' es old
regions-unwritten o t m _ es old (closing twin request log' e) = logs-unwritten m.queue (log_of m t) log' es old
regions-unwritten o t m _ es old (ended m' request r e) =
    subst (λ (q : Queues). AreUnwritten q es) (sym e.queue) (logs-unwritten m.queue (log_of m t) e.log es old)

-- ---- fences of which conversions are told

-- a fence leaves no more of the lines' work, and no fence as much
module _ (q : Queues) (before after : Log) where
  abbrev Marks : Bool → List Mark
  Marks b = if b then with_fence q.marks else q.marks

  pub told-less : line_work (told_of_log q before after).marks ≤ line_work q.marks
  told-less = elim (cases_Bool (makes_fence before after)) [
    | inl made ↦ subst (λ b. line_work (Marks b) ≤ line_work q.marks) (sym made) (work_fence q.marks)
    | inr none ↦ subst (λ b. line_work (Marks b) ≤ line_work q.marks) (sym none) (omega arith)
  ]

  pub untold-same : makes_fence before after ≡ false
      → line_work (told_of_log q before after).marks ≡ line_work q.marks
  untold-same none = ap (λ b. line_work (Marks b)) none

-- ---- one log

module _ (o : Opening) (m : Machine) (es : List Entry) (k : KeepsRun o m es) (t : ℕ) (thread : t < 64) where
  within : t < length m.logs
  within = let all = k.asked.regions.many in omega (arith, all, thread)

  keeps-log : KeepsLog (log_of m t) (memory_of m)
  keeps-log = (k.asked.regions.each t thread).keeps

  -- thread t has another log then
  logs-after : (log' : Log) → logs_left (slice_set m.logs t log') + log_work (log_of m t)
      ≡ logs_left m.logs + log_work log'
  logs-after log' = log-set m.logs t log' within

  -- a call of the image changes nothing of conversions, but that they are told of its fence
  module _ (twin : Twin) (log' : Log) (only : OnlyImage m twin) (size : twin.memory.size ≡ (memory_of m).size)
    where
      work-after : work_left (with_logged m twin t log') + log_work (log_of m t) + line_work m.queue.marks
          ≡ work_left m + log_work log' + line_work (told_of_log m.queue (log_of m t) log').marks
      work-after =
          let parts = parts-same m.spaces.twin twin (told_of_log m.queue (log_of m t) log')
          (ap (λ (x : Twin). x.space) only) (ap (λ (x : Twin). x.marks) only) in
          let logs = logs-after log' in
          omega (arith, parts, logs)

      measure-after : measure (with_logged m twin t log') + log_work (log_of m t) + line_work m.queue.marks
          ≡ measure m + log_work log' + line_work (told_of_log m.queue (log_of m t) log').marks
      measure-after =
          let work = work-after in
          let lines = ap (λ x. 16 * (x - m.free)) size in
          omega (arith, work, lines)

      pub less-left : log_work log' + 1 ≤ log_work (log_of m t)
          → measure (with_logged m twin t log') + 1 ≤ measure m
      less-left less =
          let after = measure-after in
          let told = told-less m.queue (log_of m t) log' in
          omega (arith, less, after, told)

      pub same-left : makes_fence (log_of m t) log' ≡ false → log_work log' ≡ log_work (log_of m t)
          → measure (with_logged m twin t log') ≡ measure m
      same-left none same =
          let after = measure-after in
          let told = untold-same m.queue (log_of m t) log' none in
          omega (arith, same, after, told)

-- ---- calls of the image

pub logging-lowers : LoggingLowersTheMeasure
logging-lowers = record {
  made = λ o m es k old twin t log' l some. less-left o m es k t l.thread twin log' l.only l.logs.steps.size
      (elim some [
        | inl more ↦ added-less (log_of m t) log' l.entry (memory_of m) twin.memory l.logs more
        | inr last ↦ logged-less (log_of m t) log' l.entry (memory_of m) twin.memory l.logs last
      ]);
  failed = λ o m es k old twin t log' l fails.
      same-left o m es k t l.thread twin log' l.only l.logs.steps.size
      (logging-sees.failed l.entry (log_of m t) log' (memory_of m) twin.memory fails)
      (unlogged-same (log_of m t) log' l.entry (memory_of m) twin.memory l.logs fails);
  untouched = λ o m es k old twin t log' l touch.
      untouched (log_of m t) log' l.entry (memory_of m) twin.memory l.logs (keeps-log o m es k t l.thread)
      touch;
}

pub ending-lowers : EndingLowersTheMeasure
ending-lowers = record {
  made = λ o m es k old twin t request log' e on.
      less-left o m es k t e.calls.thread twin log' e.calls.only e.calls.call.steps.size
      (ended-less (log_of m t) log' (memory_of m) twin.memory e.calls.call on);
  closed = λ o m es k old twin t request log' e.
      less-left o m es k t e.calls.thread twin log' e.calls.only e.calls.call.steps.size
      (closed-less (log_of m t) log' (memory_of m) twin.memory e.calls.call e.fences);
  failed = λ o m es k old twin t request log' e fails.
      same-left o m es k t e.calls.thread twin log' e.calls.only e.calls.call.steps.size
      (ending-sees.failed (log_of m t) log' (memory_of m) twin.memory fails)
      (unended-same (log_of m t) log' (memory_of m) twin.memory e.calls.call fails);
  untouched = λ o m es k old twin t request log' e touch.
      untouched-end (log_of m t) log' (memory_of m) twin.memory e.calls.call
      (keeps-log o m es k t e.calls.thread) touch;
}

-- ---- acts

-- the lines that are left are as many
same-lines : (o : Opening) (m m' : Machine) (es : List Entry) → KeepsRun o m es → KeepsRun o m' es
    → m'.free ≡ m.free → 16 * ((memory_of m').size - m'.free) ≡ 16 * ((memory_of m).size - m.free)
same-lines o m m' es k k' free =
    let size : (memory_of m').size ≡ (memory_of m).size = k'.heap.size ∙ sym k.heap.size in
    ap (λ x. 16 * (x - m'.free)) size ∙ ap (λ x. 16 * ((memory_of m).size - x)) free

-- how an end leaves the log
leaves-less : (o : Opening) (m : Machine) (twin : Twin) (t : ℕ) (request : Request Ref Item) (log : Log)
    → LeavesLog o m twin t request log → log_work log ≤ log_work (log_of m t)
leaves-less o m twin t request _ (emptied log' e) =
    let less = emptied-less (log_of m t) log' (memory_of m) twin.memory e.calls.call e.empties in
    omega (arith, less)
leaves-less o m twin t request _ (at_once same asks idle ends) = omega arith

pub guards-add : GuardsAddEightToTheMeasure
guards-add = record {
  guarded = λ o m es k old t request place item e g.
      (let logs = logs-after o m es k t g.thread (with_entry (log_of m t) e) in
      let more = guarded-more (log_of m t) e g.may.idle in
      omega (arith, logs, more));
  begun = λ o m es k old m' t request r b k'.
      (let alike = same-conversions o m m' es k k' b.queue in
      let stores : stores_left m'.doing ≡ stores_left m.doing = ap stores_left b.doing in
      let after = logs-after o m es k t b.does.thread (one_deeper (log_of m t)) in
      let logs = ap logs_left b.logs in
      let lines = same-lines o m m' es k k' b.does.free in
      omega (arith, alike, stores, after, logs, lines));
  stored = λ o m es k old m' t request place item e k'.
      (let alike = same-conversions o m m' es k k' e.queue in
      let all = k.asked.threads in
      let lt = e.does.thread in
      let about = doing-set m.doing t Nothing (omega (arith, all, lt)) in
      let stores = ap stores_left e.doing in
      let logs : logs_left m'.logs ≡ logs_left m.logs = ap logs_left e.logs in
      let lines = same-lines o m m' es k k' e.does.free in
      omega (arith, alike, about, stores, logs, lines));
  ended = λ o m es k old m' t request r e k'.
      (let told = told-less m.queue (log_of m t) e.log in
      let marks : line_work m'.queue.marks ≡ line_work (told_of_log m.queue (log_of m t) e.log).marks
      = ap (λ (q : Queues). line_work q.marks) e.queue in
      let alike = fewer-conversions o m m' es k k' (record {
        queues = ap (λ (q : Queues). q.queues) e.queue;
        places = ap (λ (q : Queues). q.places) e.queue;
        phases = ap (λ (q : Queues). q.phases) e.queue;
      }) (omega (arith, told, marks)) in
      let stores : stores_left m'.doing ≡ stores_left m.doing = ap stores_left e.doing in
      let after = logs-after o m es k t e.does.thread e.log in
      let less = leaves-less o m e.twin t request e.log e.leaves in
      let logs = ap logs_left e.logs in
      let lines = same-lines o m m' es k k' e.does.free in
      omega (arith, alike, stores, after, less, logs, lines));
}
