use Rattle.std.proofs.Common.{ℕ, ◌≤◌, subst, sym, arith}
use Rattle.std.proofs.lemmas.Result.{on_ok_weaker}
use Rattle.word_changes.proofs.Going.{goes_more}
use Rattle.image_compact.proofs.ImageWords.{body_of_image, body_stops, image_change, image_wrote, image_fixed, image_stops}
use Rattle.image_compact.proofs.writing.write_planned.Goals as goal

pub returns-in_err-write_body-clause-changes : goal.returns-in_err-write_body-clause-changes
returns-in_err-write_body-clause-changes g c =
    body_of_image c.args.graph.now c.args.memory.now c.write_body.new.memory c.write_body.ensures.changes

pub returns-in_err-write_body-clause-stops : goal.returns-in_err-write_body-clause-stops
returns-in_err-write_body-clause-stops g c tells blank =
    body_stops c.args.graph.now c.args.memory.now c.write_body.new.memory c.requires.enough c.requires.most c.requires.graph
    c.requires.plan.room c.write_body.ensures.changes blank

pub returns-clause-wrote : goal.returns-clause-wrote
returns-clause-wrote g c =
    on_ok_weaker c.write_mark.result
    (λ wrote. image_wrote c.args.graph.now c.args.memory.now c.write_body.new.memory c.requires.enough c.requires.most c.requires.graph
    c.requires.plan.room c.write_body.ensures.changes
    c.write_mark.new.memory c.write_mark.ensures.changes c.in_ok-write_body.ensures.wrote wrote)
    c.write_mark.ensures.wrote

pub returns-clause-fixed : goal.returns-clause-fixed
returns-clause-fixed g c tells =
    on_ok_weaker c.write_mark.result
    (λ fixed. image_fixed c.args.graph.now c.args.memory.now c.write_body.new.memory c.requires.enough c.requires.most c.requires.graph
    c.requires.plan.room c.write_body.ensures.changes
    c.write_mark.new.memory c.write_mark.ensures.changes (c.in_ok-write_body.ensures.fixed tells) fixed)
    (c.write_mark.ensures.fixed (c.write_body.ensures.changes.telling tells))

pub returns-clause-stops : goal.returns-clause-stops
returns-clause-stops g c tells blank =
    image_stops c.args.graph.now c.args.memory.now c.write_body.new.memory c.requires.enough c.requires.most c.requires.graph
    c.requires.plan.room c.write_body.ensures.changes
    c.write_mark.new.memory c.write_mark.ensures.changes blank (c.in_ok-write_body.ensures.fixed tells)

pub returns-clause-changes : goal.returns-clause-changes
returns-clause-changes g c =
    image_change c.args.graph.now c.args.memory.now c.write_body.new.memory c.requires.enough c.requires.most c.requires.graph
    c.requires.plan.room c.write_body.ensures.changes
    c.write_mark.new.memory c.write_mark.ensures.changes

pub returns-clause-goes_on : goal.returns-clause-goes_on
returns-clause-goes_on g c =
    goes_more c.args.memory.now c.write_body.new.memory c.write_mark.new.memory c.write_body.ensures.goes_on c.write_mark.ensures.goes_on
