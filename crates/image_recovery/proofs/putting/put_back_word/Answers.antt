use Rattle.line_memory.proofs.Residence.{every_line_is_resident}
use Rattle.std.proofs.Common.{◌<◌, ◌/◌, arith}
use Rattle.std.proofs.lemmas.Result.{on_ok_weaker}
use Rattle.line_memory.specs.Memory.{Memory}
use Rattle.image_recovery.proofs.PutSteps.{nothing_put, put_changes, put_one_more}
use Rattle.image_recovery.proofs.putting.put_back_word.Goals as goal

pub returns-in_err-fetch_line-clause-changes : goal.returns-in_err-fetch_line-clause-changes
returns-in_err-fetch_line-clause-changes g c words first done below outside says so_far =
    (nothing_put words done first c.args.memory.now c.fetch_line.new.memory c.fetch_line.ensures.changes so_far).changes

pub returns-clause-puts : goal.returns-clause-puts
returns-clause-puts g c words first done below outside says so_far =
    let a : Memory = c.fetch_line.new.memory in
    let b : Memory = c.put_word.new.memory in
    let d : Memory = c.write_line.new.memory in
    let under : c.args.place / 8 < a.size = omega (arith, below, c.fetch_line.ensures.changes.size) in
    on_ok_weaker c.write_line.result
    (λ written. put_one_more words done first a b d c.args.place c.args.old under outside says
    (nothing_put words done first c.args.memory.now a c.fetch_line.ensures.changes so_far) c.put_word.ensures.changes c.write_line.ensures.changes
    c.put_word.ensures.here c.put_word.ensures.others written)
    c.write_line.ensures.written

pub returns-clause-changes : goal.returns-clause-changes
returns-clause-changes g c words first done below outside says so_far =
    let a : Memory = c.fetch_line.new.memory in
    let under : c.args.place / 8 < a.size = omega (arith, below, c.fetch_line.ensures.changes.size) in
    put_changes words done first a c.put_word.new.memory c.write_line.new.memory c.args.place c.args.old under outside says
    (nothing_put words done first c.args.memory.now a c.fetch_line.ensures.changes so_far) c.put_word.ensures.changes c.write_line.ensures.changes

pub returns-in_err-fetch_line-clause-calls : goal.returns-in_err-fetch_line-clause-calls
returns-in_err-fetch_line-clause-calls g c =
    let same = (c.fetch_line.ensures.at_once (every_line_is_resident c.args.memory.now (c.args.place / 8) (omega arith))).1 in
    omega (arith, same.calls)

pub returns-clause-calls : goal.returns-clause-calls
returns-clause-calls g c =
    let same = (c.fetch_line.ensures.at_once (every_line_is_resident c.args.memory.now (c.args.place / 8) (omega arith))).1 in
    omega (arith, same.calls, c.put_word.ensures.same.calls, c.write_line.ensures.count.calls)
