use Rattle.word_changes.proofs.Changing.{call_changes}
use Rattle.word_changes.proofs.put.make_fence.Goals as goal

pub returns-clause-changes : goal.returns-clause-changes
returns-clause-changes g c =
    let call = c.fence.ensures in
    call_changes c.args.memory.now c.fence.new.self call.keeps call.resident
