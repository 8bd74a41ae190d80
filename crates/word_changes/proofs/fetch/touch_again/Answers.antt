use Rattle.word_changes.proofs.Changing.{touch_changes}
use Rattle.word_changes.proofs.fetch.touch_again.Goals as goal

pub returns-in_err-touch-clause-changes : goal.returns-in_err-touch-clause-changes
returns-in_err-touch-clause-changes g c =
    let call = c.touch.ensures in
    touch_changes c.args.memory.now c.touch.new.self c.args.line c.requires.in_range call.keeps call.resident

pub returns-clause-changes : goal.returns-clause-changes
returns-clause-changes g c =
    let call = c.touch.ensures in
    touch_changes c.args.memory.now c.touch.new.self c.args.line c.requires.in_range call.keeps call.resident
