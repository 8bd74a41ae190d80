use Rattle.convert_words.specs.Scenes.{scene}
use Rattle.converter.proofs.Goings.{stays}
use Rattle.converter.proofs.next.next_work.Goals as goal

pub returns-in-Flush-clause-goes_on : goal.returns-in-Flush-clause-goes_on
returns-in-Flush-clause-goes_on g c = λ free keys es a. stays (scene c.args.heap.now.space c.args.heap.now.memory c.args.heap.now.marks c.args.queue.now free keys) es c.args.t a
