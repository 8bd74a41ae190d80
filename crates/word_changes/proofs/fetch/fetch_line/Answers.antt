use Rattle.word_changes.specs.Changes.{Nothing}
use Rattle.word_changes.proofs.Changing.{touch_changes, changes_more}
use Rattle.word_changes.proofs.fetch.fetch_line.Goals as goal

pub returns-in_err-touch-clause-changes : goal.returns-in_err-touch-clause-changes
returns-in_err-touch-clause-changes g c =
    let call = c.touch.ensures in
    touch_changes c.args.memory.now c.touch.new.self c.args.line c.requires call.keeps call.resident

pub returns-in-Ready-clause-changes : goal.returns-in-Ready-clause-changes
returns-in-Ready-clause-changes g c =
    let call = c.touch.ensures in
    touch_changes c.args.memory.now c.touch.new.self c.args.line c.requires call.keeps call.resident

pub returns-in-Again-clause-changes : goal.returns-in-Again-clause-changes
returns-in-Again-clause-changes g c =
    let call = c.touch.ensures in
    changes_more Nothing c.args.memory.now c.touch.new.self c.touch_again.new.memory
    (touch_changes c.args.memory.now c.touch.new.self c.args.line c.requires call.keeps call.resident)
    c.touch_again.ensures.changes
