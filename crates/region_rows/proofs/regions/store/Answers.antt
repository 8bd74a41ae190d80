use Rattle.std.proofs.Common.{arith}
use Rattle.region_log.specs.Made.{Puts, IsOfLog}
use Rattle.region_rows.proofs.regions.store.Goals as goal

pub returns-then-is_ready-clause-keeps : goal.returns-then-is_ready-clause-keeps
returns-then-is_ready-clause-keeps g c =
    let store = c.store.ensures in
    let elsewhere : IsOfLog c.args.log.now.thread c.args.spot.line → ⊥ = λ of_log.
    omega (arith, of_log.below, c.requires.keeps.thread, c.requires.outside) in
    let put : Puts (record { line = c.args.spot.line; word = c.args.spot.word; value = c.args.word }) c.args.memory.now c.store.new.self =
    record { size = store.size; same = store.same; here = store.here; others = store.others } in
    c.others_keep_a_log.ensures.stores c.args.log.now (record { line = c.args.spot.line; word = c.args.spot.word; value = c.args.word })
    c.args.memory.now c.store.new.self put elsewhere c.requires.keeps
