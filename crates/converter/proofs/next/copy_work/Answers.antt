use Rattle.std.proofs.Common.{ℕ, refl, sym, ◌∙◌, ap, subst}
use Rattle.convert_queue.specs.Queues.{Queues}
use Rattle.convert_words.specs.Scenes.{Scene, scene}
use Rattle.converter.specs.Working.{IsAtObject, IsToClaim}
use Rattle.converter.proofs.Goings.{stays}
use Rattle.converter.proofs.Placed.{copying_here, looking_of, filling_of, next_of, at_after}
use Rattle.converter.proofs.next.copy_work.Goals as goal

pub lines_copied-copied-requires : goal.lines_copied-copied-requires
lines_copied-copied-requires g c =
    let q = c.requires.agrees in
    let s : Scene = scene c.args.heap.now.space c.args.heap.now.memory c.args.heap.now.marks c.args.queue.now q.0 q.1 in
    record { object = (q.2, q.3, q.4.lies, q.5.is.claimed.0, (q.5.at, (copying_here s q.2 c.args.t q.3 q.4 q.5.is q.5.phase).0)) }

pub line_or_forward-requires : goal.line_or_forward-requires
line_or_forward-requires g c =
    let q = c.requires.agrees in
    let s : Scene = scene c.args.heap.now.space c.args.heap.now.memory c.args.heap.now.marks c.args.queue.now q.0 q.1 in
    let is = c.lines_copied-copied.ensures.copied q.2 q.3 q.4.lies q.5.is.claimed.0 (q.5.at, (copying_here s q.2 c.args.t q.3 q.4 q.5.is q.5.phase).0) in
    record { object = (q.2, q.3, filling_of s q.2 c.args.t c.args.object c.args.first q.3 c.lines_copied-copied.result q.4 q.5 is) }

pub returns-then-copied-line-clause-goes_on : goal.returns-then-copied-line-clause-goes_on
returns-then-copied-line-clause-goes_on g c = λ free keys es n a x. stays (scene c.args.heap.now.space c.args.heap.now.memory c.args.heap.now.marks c.args.queue.now free keys) es c.args.t a

pub returns-then-copied-line-clause-work : goal.returns-then-copied-line-clause-work
returns-then-copied-line-clause-work g c = λ free keys es n a x.
    let s : Scene = scene c.args.heap.now.space c.args.heap.now.memory c.args.heap.now.marks c.args.queue.now free keys in
    let is = c.lines_copied-copied.ensures.copied es n a.lies x.is.claimed.0 (x.at, (copying_here s es c.args.t n a x.is x.phase).0) in
    let at = c.if-copied-line.true ∙ ap (λ (y : ℕ × ℕ). y.1) c.place-line.ensures.place in
    next_of c.line_or_forward.result s es c.args.t c.args.object c.args.first n c.lines_copied-copied.result a x is at
    (c.line_or_forward.ensures.work es n (filling_of s es c.args.t c.args.object c.args.first n c.lines_copied-copied.result a x is))

pub pass_line-requires : goal.pass_line-requires
pass_line-requires g c =
    let q = c.requires.agrees in
    let s : Scene = scene c.args.heap.now.space c.args.heap.now.memory c.args.heap.now.marks c.args.queue.now q.0 q.1 in
    let is = c.lines_copied-copied.ensures.copied q.2 q.3 q.4.lies q.5.is.claimed.0 (q.5.at, (copying_here s q.2 c.args.t q.3 q.4 q.5.is q.5.phase).0) in
    record {
      agrees = (
        q.0,
        q.1,
        q.2,
        q.3,
        q.4,
        looking_of s q.2 c.args.t c.args.object c.args.first q.3 c.lines_copied-copied.result q.4 q.5 is
            (λ e. c.if-copied-line.false (e ∙ sym (ap (λ (y : ℕ × ℕ). y.1) c.place-line.ensures.place))),
      );
    }

pub returns-in-Some-clause-goes_on : goal.returns-in-Some-clause-goes_on
returns-in-Some-clause-goes_on g c = λ free keys es n a x.
    let s : Scene = scene c.args.heap.now.space c.args.heap.now.memory c.args.heap.now.marks c.args.queue.now free keys in
    let is = c.lines_copied-copied.ensures.copied es n a.lies x.is.claimed.0 (x.at, (copying_here s es c.args.t n a x.is x.phase).0) in
    c.pass_line.ensures.goes_on free keys es n a (looking_of s es c.args.t c.args.object c.args.first n c.lines_copied-copied.result a x is
    (λ e. c.if-copied-line.false (e ∙ sym (ap (λ (y : ℕ × ℕ). y.1) c.place-line.ensures.place))))

pub returns-in-Some-clause-work : goal.returns-in-Some-clause-work
returns-in-Some-clause-work g c = λ free keys es n a x.
    let s : Scene = scene c.args.heap.now.space c.args.heap.now.memory c.args.heap.now.marks c.args.queue.now free keys in
    let is = c.lines_copied-copied.ensures.copied es n a.lies x.is.claimed.0 (x.at, (copying_here s es c.args.t n a x.is x.phase).0) in
    subst (λ (q : Queues). IsToClaim (scene c.args.heap.now.space c.args.heap.now.memory c.args.heap.now.marks q free keys) es c.args.t c.in-Some.at) (sym (c.in-Some.ensures.same refl))
    (c.in-Some.ensures.claim free keys es n a (looking_of s es c.args.t c.args.object c.args.first n c.lines_copied-copied.result a x is
    (λ e. c.if-copied-line.false (e ∙ sym (ap (λ (y : ℕ × ℕ). y.1) c.place-line.ensures.place)))))

pub returns-in-Some-clause-claim : goal.returns-in-Some-clause-claim
returns-in-Some-clause-claim g c = λ at e. c.in-Some.ensures.same refl

pub line_or_forward-requires-in-None : goal.line_or_forward-requires-in-None
line_or_forward-requires-in-None g c =
    let q = c.requires.agrees in
    let s : Scene = scene c.args.heap.now.space c.args.heap.now.memory c.args.heap.now.marks c.args.queue.now q.0 q.1 in
    let is = c.lines_copied-copied.ensures.copied q.2 q.3 q.4.lies q.5.is.claimed.0 (q.5.at, (copying_here s q.2 c.args.t q.3 q.4 q.5.is q.5.phase).0) in
    record { object = (q.2, q.3, filling_of s q.2 c.args.t c.args.object c.args.first q.3 c.lines_copied-copied.result q.4 q.5 is) }

pub returns-in-None-clause-goes_on : goal.returns-in-None-clause-goes_on
returns-in-None-clause-goes_on g c = λ free keys es n a x.
    let s : Scene = scene c.args.heap.now.space c.args.heap.now.memory c.args.heap.now.marks c.args.queue.now free keys in
    let is = c.lines_copied-copied.ensures.copied es n a.lies x.is.claimed.0 (x.at, (copying_here s es c.args.t n a x.is x.phase).0) in
    c.pass_line.ensures.goes_on free keys es n a (looking_of s es c.args.t c.args.object c.args.first n c.lines_copied-copied.result a x is
    (λ e. c.if-copied-line.false (e ∙ sym (ap (λ (y : ℕ × ℕ). y.1) c.place-line.ensures.place))))

pub returns-in-None-clause-work : goal.returns-in-None-clause-work
returns-in-None-clause-work g c = λ free keys es n a x.
    let s : Scene = scene c.args.heap.now.space c.args.heap.now.memory c.args.heap.now.marks c.args.queue.now free keys in
    let is = c.lines_copied-copied.ensures.copied es n a.lies x.is.claimed.0 (x.at, (copying_here s es c.args.t n a x.is x.phase).0) in
    let look = looking_of s es c.args.t c.args.object c.args.first n c.lines_copied-copied.result a x is
    (λ e. c.if-copied-line.false (e ∙ sym (ap (λ (y : ℕ × ℕ). y.1) c.place-line.ensures.place))) in
    let on = c.pass_line.ensures.goes_on free keys es n a look in
    let q2 = c.pass_line.new.queue in
    let s2 : Scene = scene c.args.heap.now.space c.args.heap.now.memory c.args.heap.now.marks q2 free keys in
    let place = c.in-None.ensures.place refl in
    let x2 : IsAtObject s2 es c.args.t c.args.object c.args.first n = at_after s q2 es c.args.t c.args.object c.args.first n x c.pass_line.ensures.queues c.pass_line.ensures.phase place.0 in
    next_of c.line_or_forward-in-None.result s2 es c.args.t c.args.object c.args.first n c.lines_copied-copied.result on.agrees x2 is (sym place.1)
    (c.line_or_forward-in-None.ensures.work es n (filling_of s2 es c.args.t c.args.object c.args.first n c.lines_copied-copied.result on.agrees x2 is))
