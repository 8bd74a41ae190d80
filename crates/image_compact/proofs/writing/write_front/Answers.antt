use Rattle.std.proofs.lemmas.Result.{on_ok_weaker}
use Rattle.word_changes.proofs.Going.{goes_more}
use Rattle.image_compact.proofs.ImageWords.{slots_of_front, words_of_front, front_change, front_wrote}
use Rattle.image_compact.proofs.writing.write_front.Goals as goal

pub returns-in_err-write_slots-clause-changes : goal.returns-in_err-write_slots-clause-changes
returns-in_err-write_slots-clause-changes g c =
    slots_of_front c.args.graph.now c.args.memory.now c.write_slots.new.memory c.write_slots.ensures.changes

pub returns-in_err-write_directory-clause-changes : goal.returns-in_err-write_directory-clause-changes
returns-in_err-write_directory-clause-changes g c =
    words_of_front c.args.graph.now c.args.memory.now c.write_slots.new.memory c.write_directory.new.memory
    c.write_slots.ensures.changes c.write_directory.ensures.changes

pub returns-in_err-write_directory-clause-goes_on : goal.returns-in_err-write_directory-clause-goes_on
returns-in_err-write_directory-clause-goes_on g c =
    goes_more c.args.memory.now c.write_slots.new.memory c.write_directory.new.memory c.write_slots.ensures.goes_on c.write_directory.ensures.goes_on

pub returns-clause-wrote : goal.returns-clause-wrote
returns-clause-wrote g c =
    on_ok_weaker c.clear_heads.result
    (λ wrote. front_wrote c.args.graph.now c.args.memory.now c.write_slots.new.memory c.write_directory.new.memory
    c.write_slots.ensures.changes c.write_directory.ensures.changes c.clear_heads.new.memory c.clear_heads.ensures.changes
    c.requires.enough c.requires.plan.room c.in_ok-write_slots.ensures.wrote c.in_ok-write_directory.ensures.wrote wrote)
    c.clear_heads.ensures.wrote

pub returns-clause-changes : goal.returns-clause-changes
returns-clause-changes g c =
    front_change c.args.graph.now c.args.memory.now c.write_slots.new.memory c.write_directory.new.memory
    c.write_slots.ensures.changes c.write_directory.ensures.changes c.clear_heads.new.memory c.clear_heads.ensures.changes

pub returns-clause-goes_on : goal.returns-clause-goes_on
returns-clause-goes_on g c =
    goes_more c.args.memory.now c.write_directory.new.memory c.clear_heads.new.memory
    (goes_more c.args.memory.now c.write_slots.new.memory c.write_directory.new.memory c.write_slots.ensures.goes_on c.write_directory.ensures.goes_on)
    c.clear_heads.ensures.goes_on
