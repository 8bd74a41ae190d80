use Rattle.std.proofs.Common.{◌∙◌, refl}
use Rattle.std.proofs.lemmas.Result.{on_ok_weaker}
use Rattle.dense_image.specs.Written.{root_words}
use Rattle.image_compact.proofs.LineWords.{changes_as, wrote_as}
use Rattle.image_compact.proofs.writing.write_slots.Goals as goal

pub returns-clause-wrote : goal.returns-clause-wrote
returns-clause-wrote g c =
    on_ok_weaker c.write_words.result
    (λ wrote. wrote_as c.as_slice-words.result.now (root_words c.args.graph.now) 1 1 32 32 c.args.memory.now c.write_words.new.memory
    (c.as_slice-words.ensures.value ∙ c.requires.plan.slots) refl refl wrote)
    c.write_words.ensures.wrote

pub returns-clause-changes : goal.returns-clause-changes
returns-clause-changes g c =
    changes_as c.as_slice-words.result.now (root_words c.args.graph.now) 1 1 32 32 c.args.memory.now c.write_words.new.memory
    (c.as_slice-words.ensures.value ∙ c.requires.plan.slots) refl refl c.write_words.ensures.changes
