use Rattle.convert_words.specs.declared.step.ConvertStep.TheVariants as step
use Rattle.convert_words.specs.Scenes.{Scene, scene}
use Rattle.converter.proofs.Sealed.{seals_event}
use Rattle.converter.proofs.seals.seal.Goals as goal

pub returns-clause-seals : goal.returns-clause-seals
returns-clause-seals g c = λ free keys es ms a.
    let h = c.args.heap.now in
    let n = c.seal_group.new in
    let s : Scene = scene h.space h.memory h.marks c.args.queue.now free keys in
    let done : Scene = scene n.heap.space n.heap.memory n.heap.marks n.queue free keys in
    let x = c.seal_group.ensures.converts free keys es a in
    seals_event c.args.t c.args.set s done es x.0 ms a x.1
