use Rattle.line_memory.proofs.Residence.{every_line_is_resident}
use Rattle.image_walk.proofs.Looking.{looks_by}
use Rattle.image_recovery.proofs.superblock.read_first_line.Goals as goal

pub returns-in_err-fetch_line-clause-looks : goal.returns-in_err-fetch_line-clause-looks
returns-in_err-fetch_line-clause-looks g c =
    let e = c.fetch_line.ensures in
    let same = e.at_once (every_line_is_resident c.args.memory.now 0 c.requires) in
    looks_by c.args.memory.now c.fetch_line.new.memory e.changes e.counts same.1.calls e.cause.later

pub returns-clause-looks : goal.returns-clause-looks
returns-clause-looks g c =
    let e = c.fetch_line.ensures in
    let same = e.at_once (every_line_is_resident c.args.memory.now 0 c.requires) in
    looks_by c.args.memory.now c.fetch_line.new.memory e.changes e.counts same.1.calls e.cause.later
