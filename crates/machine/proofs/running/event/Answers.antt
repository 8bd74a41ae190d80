use Rattle.std.proofs.Common.{◌≡◌, ◌⊎◌, inr, refl, ◌<◌, ◌≤◌, length, sym, ◌∙◌, ap, subst}
use Rattle.line_memory.specs.Memory.{OneCall, SameImage}
use Rattle.run_history.specs.Recorded.{History}
use Rattle.machine_threads.specs.Passed.{Machine, memory_of}
use Rattle.machine_threads.specs.Passed.{measure}
use Rattle.machine_threads.specs.Stuck.{plain_waits}
use Rattle.machine.specs.Events.{TakesOutput, logs_word}
use Rattle.machine.proofs.Leaving.{few}
use Rattle.machine.proofs.Recalling.{came-micro, came-unanswered, came-waiting, counted-then, event-leads, full-over, full-remembers}
use Rattle.machine.proofs.Recalling.{notable, noted-acts, noted-answers, noted-awaits, noted-finds, noted-history, noted-image, noted-machine}
use Rattle.machine.proofs.Recalling.{noted-others, noted-sink, noted-work, others-left}
use Rattle.machine.proofs.Recalling.{room-of}
use Rattle.machine.proofs.running.event.Goals as goal

pub returns-then-is_full-clause-leads : goal.returns-then-is_full-clause-leads
returns-then-is_full-clause-leads g c o first es threads fs next =
    full-over c.laws.ensures o first (g.C.Types.facts c.args.set.now) c.args.heap.now es threads c.args.t fs
    c.args.request.now next.due (c.is_full.ensures.full.0 c.if-is_full.true)

pub returns-then-is_full-clause-remembers : goal.returns-then-is_full-clause-remembers
returns-then-is_full-clause-remembers g c = full-remembers c.args.heap.now c.args.t c.args.request.now

pub returns-then-is_full-clause-awaits : goal.returns-then-is_full-clause-awaits
returns-then-is_full-clause-awaits g c o first es threads fs next u w = tt

pub returns-then-is_full-clause-either : goal.returns-then-is_full-clause-either
returns-then-is_full-clause-either g c = inr refl

pub attempt-came-requires-clause-due : goal.attempt-came-requires-clause-due
attempt-came-requires-clause-due g c =
    let (o, first, es, threads, fs, next) = c.requires.next in (o, first, es, threads, fs, next.due)

pub remember-requires-clause-notable : goal.remember-requires-clause-notable
remember-requires-clause-notable g c w is sixty_four =
    let (o, first, es, threads, fs, next) = c.requires.next in
    notable c.laws.ensures o first (g.C.Types.facts c.args.set.now) c.args.heap.now c.attempt-came.new.heap es threads
    c.args.t fs c.args.request.now c.attempt-came.result next (c.attempt-came.ensures.serves.comes o first es threads fs next.due) w is
    sixty_four

pub remember-requires-clause-counted : goal.remember-requires-clause-counted
remember-requires-clause-counted g c =
    let (o, first, es, threads, fs, next) = c.requires.next in
    counted-then c.attempt-came.result c.args.t c.args.heap.now.history.limit 4294967296 c.args.heap.now.history.acts
    c.attempt-came.new.heap.history.acts (c.attempt-came.ensures.serves.comes o first es threads fs next.due).acts
    (room-of c.is_full.result c.args.heap.now.history.limit (length c.args.heap.now.history.acts)
    c.is_full.ensures.full.1 c.if-is_full.false)
    c.is_full.ensures.counted

pub returns : goal.returns
returns g c =
    let set = g.C.Types.facts c.args.set.now in
    let s = c.args.heap.now in
    let mid = c.attempt-came.new.heap in
    let new = c.remember.new.heap in
    let t = c.args.t in
    let request = c.args.request.now in
    let came = c.attempt-came.result in
    let result = c.remember.result in
    let serves = c.attempt-came.ensures.serves in
    let notes = c.remember.ensures in
    let (o, first, es, threads, fs, next) = c.requires.next in
    let comes = serves.comes o first es threads fs next.due in
    let room = room-of c.is_full.result s.history.limit (length s.history.acts) c.is_full.ensures.full.1
    c.if-is_full.false in
    let machine = noted-machine set t request came result mid new notes in
    let history = noted-history set t request came result mid new notes in
    let acts = ap (λ (h : History). h.acts) history in record {
      leads = λ o first es threads fs next. (event-leads c.laws.ensures o first set s mid new es threads t fs request came
          result next (few c.laws.ensures o first set s es threads t fs request next.due room)
          (serves.comes o first es threads fs next.due) notes).0;
      remembers = (event-leads c.laws.ensures o first set s mid new es threads t fs request came result next
          (few c.laws.ensures o first set s es threads t fs request next.due room) comes notes).1;
      finds = λ o first es threads fs next. noted-finds set t request came result mid new notes (logs_word s.machine t)
          (plain_waits o s.machine t) (serves.comes o first es threads fs next.due).finds;
      awaits = λ o first es threads fs next. noted-awaits set t request came result mid new notes o s.machine
          (serves.comes o first es threads fs next.due).awaits;
      others = noted-others set t request came result mid new notes s.machine
          (others-left o first s mid es threads t fs request came comes);
      acts = noted-acts set t request came result mid new notes s.history.acts comes.acts;
      told = subst (λ (h : History). TakesOutput s.history.acts h.acts (g.S.Sink.taken c.args.sink.now)
          (g.S.Sink.taken c.attempt-came.new.sink) (g.S.Sink.takes c.args.sink.now)
          (g.S.Sink.takes c.attempt-came.new.sink)) (sym history) serves.told;
      share = λ act is. serves.share act (sym acts ∙ is);
      sink = λ un. c.attempt-came.ensures.sink (came-unanswered set t request came result mid new notes un);
      silent = c.attempt-came.ensures.silent;
      either = subst (λ (m : Machine). SameImage (memory_of s.machine) (memory_of m)
          ⊎ (c.attempt-came.new.sink ≡ c.args.sink.now)) (sym machine) c.attempt-came.ensures.either;
      sink_cause = noted-sink set t request came result mid new notes (g.S.Sink.faults c.args.sink.now)
          (g.S.Sink.faults c.attempt-came.new.sink) serves.cause;
      image_cause = noted-image set t request came result mid new notes (memory_of s.machine).faults comes.cause;
      calls = subst (λ (m : Machine). SameImage (memory_of s.machine) (memory_of m)
          ⊎ OneCall (memory_of s.machine) (memory_of m)) (sym machine) comes.calls;
      full = λ enough. absurd (let no = sym c.if-is_full.false ∙ c.is_full.ensures.full.1 enough in cc);
      answers = noted-answers set t request came result mid new notes comes.answers;
      numbers = ap (λ (m : Machine). m.spaces.numbers) machine ∙ comes.numbers;
      quiet = λ micro same. subst (λ (m : Machine). measure m < measure s.machine) (sym machine)
          (comes.quiet (came-micro set t request came result mid new notes micro) (sym acts ∙ same));
      waits = λ w is. subst (λ (m : Machine). measure m ≤ measure s.machine) (sym machine)
          (comes.waits w (came-waiting set t request came result mid new notes w is));
      work = noted-work set t request came result mid new notes s comes.work;
    }
