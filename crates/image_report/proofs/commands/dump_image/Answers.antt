use Rattle.image_report.proofs.Reporting.{left_open, still_kept}
use Rattle.image_report.proofs.commands.dump_image.Goals as goal

pub returns-in-Err-dump_text-clause-stops : goal.returns-in-Err-dump_text-clause-stops
returns-in-Err-dump_text-clause-stops g c =
    still_kept (g.I.Image.told c.args.image) _ c.in-Ok.found.memory.image c.give_back-graph.ensures.told
    c.in-Ok.ensures.stops

pub returns-in-Ok-put_all-clause-stops : goal.returns-in-Ok-put_all-clause-stops
returns-in-Ok-put_all-clause-stops g c =
    still_kept (g.I.Image.told c.args.image) _ c.in-Ok.found.memory.image c.give_back-graph.ensures.told
    c.in-Ok.ensures.stops

pub returns-clause-stops : goal.returns-clause-stops
returns-clause-stops g c =
    still_kept (g.I.Image.told c.args.image) _ c.in-Ok.found.memory.image c.give_back-graph.ensures.told
    c.in-Ok.ensures.stops

pub returns-in-Ok-put_all-clause-left : goal.returns-in-Ok-put_all-clause-left
returns-in-Ok-put_all-clause-left g c = λ put.
    let r = c.in-Ok.found in
    left_open (g.I.Image.told c.args.image) _ c.in-Ok.ensures.opened.0 r.memory r.version r.directory r.graph r.lines r.free r.undone
    c.in-Ok.ensures.opened.1 c.give_back-graph.ensures.told

pub returns-clause-left : goal.returns-clause-left
returns-clause-left g c = λ put.
    let r = c.in-Ok.found in
    left_open (g.I.Image.told c.args.image) _ c.in-Ok.ensures.opened.0 r.memory r.version r.directory r.graph r.lines r.free r.undone
    c.in-Ok.ensures.opened.1 c.give_back-graph.ensures.told
