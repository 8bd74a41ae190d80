use Rattle.std.proofs.Common.{◌≡◌, ◌+◌, map, List, refl, sym, ◌∙◌, ap}
use Rattle.graph_model.specs.declared.types.Shape.{Shape}
use Rattle.graph_model.specs.declared.types.Value.{Value}
use Rattle.graph_model.specs.Canon.{with_new, renumbered}
use Rattle.image_meaning.specs.Objects.{object_fault}
use Rattle.image_meaning.proofs.Logs.{not_log_after}
use Rattle.image_walk.specs.Walking.{IsFault}
use Rattle.image_walk.proofs.Looking.{looks_more}
use Rattle.image_walk.proofs.Reading.{err_is}
use Rattle.image_walk.proofs.Visits.{IsHead, head_read, slots_fail, visit_of}
use Rattle.image_walk.proofs.visiting.visit.Goals as goal

pub returns-in_err-values-clause-looks : goal.returns-in_err-values-clause-looks
returns-in_err-values-clause-looks g c =
    looks_more c.args.memory.now c.read_word.new.memory c.read_values.new.memory c.read_word.ensures.looks c.read_values.ensures.looks

pub returns-in_err-add_each-clause-looks : goal.returns-in_err-add_each-clause-looks
returns-in_err-add_each-clause-looks g c =
    looks_more c.args.memory.now c.read_word.new.memory c.read_values.new.memory c.read_word.ensures.looks c.read_values.ensures.looks

pub returns-in_err-values-2-clause-looks : goal.returns-in_err-values-2-clause-looks
returns-in_err-values-2-clause-looks g c =
    looks_more c.args.memory.now c.read_word.new.memory c.read_values.new.memory c.read_word.ensures.looks c.read_values.ensures.looks

pub returns-in_err-share-clause-looks : goal.returns-in_err-share-clause-looks
returns-in_err-share-clause-looks g c =
    looks_more c.args.memory.now c.read_word.new.memory c.read_values.new.memory c.read_word.ensures.looks c.read_values.ensures.looks

pub returns-clause-looks : goal.returns-clause-looks
returns-clause-looks g c =
    looks_more c.args.memory.now c.read_word.new.memory c.read_values.new.memory c.read_word.ensures.looks c.read_values.ensures.looks

pub returns-in_err-values-clause-bad : goal.returns-in_err-values-clause-bad
returns-in_err-values-clause-bad g c words earlier so is =
    let size = c.args.memory.now.size in
    let later : c.read_word.new.memory.size ≡ size = c.read_word.ensures.looks.changes.size in
    let line = c.args.line in
    let shape : Shape = c.index-shapes-head.result in
    let head = head_read c.args.shapes.now size c.lines.result words earlier line c.in_ok-word.word c.in_ok-head.head.shape c.in_ok-head.head.length
    c.lines_of-count.result shape (c.lines.ensures ∙ later) (c.in_ok-word.ensures.word words so (not_log_after line c.requires.low))
    c.in_ok-head.ensures.passes c.in_ok-head.ensures.shape c.in_ok-head.ensures.slots c.in_ok-head.ensures.known c.index-shapes-head.is
    c.lines_of-count.ensures.lines (c.in_ok-take_lines.ensures.passes words earlier is) in
    err_is c.from_residual-in_err-values.result c.in_err-values.field-0.0
    (IsFault (object_fault c.args.shapes.now size words earlier line)) c.from_residual-in_err-values.ensures.1
    (slots_fail c.args.shapes.now size words earlier line shape c.in_ok-head.head.length c.lines_of-count.result head c.in_err-values.field-0.0
    (rw (later, c.get.ensures.same) at (c.in_err-values.ensures.bad words (c.read_word.ensures.looks.keeps words so))))

pub returns-clause-visited : goal.returns-clause-visited
returns-clause-visited g c words earlier so is =
    let size = c.args.memory.now.size in
    let later : c.read_word.new.memory.size ≡ size = c.read_word.ensures.looks.changes.size in
    let line = c.args.line in
    let shape : Shape = c.index-shapes-head.result in
    let count = c.in_ok-head.head.length in
    let lines = c.lines_of-count.result in
    let head : IsHead c.args.shapes.now size words earlier line shape count lines =
    head_read c.args.shapes.now size c.lines.result words earlier line c.in_ok-word.word c.in_ok-head.head.shape count
    lines shape (c.lines.ensures ∙ later) (c.in_ok-word.ensures.word words so (not_log_after line c.requires.low))
    c.in_ok-head.ensures.passes c.in_ok-head.ensures.shape c.in_ok-head.ensures.slots c.in_ok-head.ensures.known c.index-shapes-head.is
    c.lines_of-count.ensures.lines (c.in_ok-take_lines.ensures.passes words earlier is) in
    let now = c.read_word.ensures.looks.keeps words so in
    let more = c.add_each.new.self.numbers in
    let values : List Value = c.in_ok-values.values.items in
    visit_of c.args.shapes.now size words earlier line shape count lines head c.args.found.now.numbers more values c.take_lines.new.taken
    (record { node = c.new.result; end = line + lines })
    (rw (later, c.get.ensures.same) at (c.in_ok-values.ensures.passes words now))
    (rw c.get.ensures.same at (c.in_ok-values.ensures.values words now))
    (c.in_ok-add_each.ensures.added ∙ ap (with_new c.args.found.now.numbers) c.as_slice.ensures.value)
    (c.in_ok-take_lines.ensures.taken words earlier is (sym head.lines_are))
    (c.new.ensures.shape ∙ c.in_ok-share.ensures.same)
    (c.new.ensures.values ∙ c.in_ok-values-2.ensures ∙ ap (λ (vs : List Value). map (renumbered more) vs) c.as_slice-2.ensures.value)
    refl
