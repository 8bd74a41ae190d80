use Rattle.word_changes.proofs.Changing.{call_changes}
use Rattle.word_changes.proofs.put.write_line.Goals as goal

pub returns-clause-changes : goal.returns-clause-changes
returns-clause-changes g c =
    let call = c.write_back.ensures in
    call_changes c.args.memory.now c.write_back.new.self call.keeps call.resident
