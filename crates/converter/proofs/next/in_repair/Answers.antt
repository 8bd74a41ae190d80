use Rattle.convert_words.specs.Scenes.{scene}
use Rattle.converter.proofs.Goings.{goes_on_on}
use Rattle.converter.proofs.next.in_repair.Goals as goal

pub returns-clause-goes_on : goal.returns-clause-goes_on
returns-clause-goes_on g c = λ free keys es a.
    let h = c.args.heap.now in
    let x = c.pass_object.ensures.goes_on free keys es a in
    goes_on_on (scene h.space h.memory h.marks c.args.queue.now free keys)
    (scene h.space h.memory h.marks c.pass_object.new.queue free keys)
    (scene h.space h.memory h.marks c.repair_or_flush.new.queue free keys) es c.args.t
    x (c.repair_or_flush.ensures.goes_on free keys es x.agrees)

pub returns-clause-work : goal.returns-clause-work
returns-clause-work g c = λ free keys es a.
    let x = c.pass_object.ensures.goes_on free keys es a in
    c.repair_or_flush.ensures.work free keys es x.agrees (λ n is. c.pass_object.ensures.within free keys es n a is)
