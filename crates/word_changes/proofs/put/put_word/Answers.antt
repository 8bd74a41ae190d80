use Rattle.word_changes.proofs.Changing.{store_changes}
use Rattle.word_changes.proofs.put.put_word.Goals as goal

pub returns-clause-changes : goal.returns-clause-changes
returns-clause-changes g c =
    let call = c.store.ensures in
    store_changes c.args.memory.now c.store.new.self c.args.spot.line c.args.spot.word c.args.word call.size call.resident call.same
    call.others call.leaves
