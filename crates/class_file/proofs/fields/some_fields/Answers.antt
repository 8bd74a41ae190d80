use Rattle.std.proofs.Common.{[]}
use Rattle.std.proofs.lemmas.Result.{err_from_is_err_and}
use Rattle.class_file.specs.Members.{with_root, fields_from}
use Rattle.class_file.proofs.FieldLists.{goes_on_noted, ends_alone, ends_noted, is_done}
use Rattle.class_file.proofs.fields.some_fields.Goals as goal

pub returns-in_err-field : goal.returns-in_err-field
returns-in_err-field c =
    let p = err_from_is_err_and c.from_residual.result c.from_residual.ensures.1 in
    let l = c.loop-number.invariant in
    rw (p.1, p.2) (ends_alone c.args.pool.now l.0 c.loop-number.fields.items c.args.count c.loop-number.number
    c.loop-number.file (fields_from c.args.pool.now [] 0 c.args.count c.args.file.now) c.in_err-field.field-0.0
    c.loop-number-test.true c.in_err-field.ensures l.2)

pub returns-in_err-note_root : goal.returns-in_err-note_root
returns-in_err-note_root c =
    let p = err_from_is_err_and c.from_residual-in_err-note_root.result c.from_residual-in_err-note_root.ensures.1 in
    let l = c.loop-number.invariant in
    rw (p.1, p.2) (ends_noted c.args.pool.now l.0 c.loop-number.fields.items c.args.count c.loop-number.number
    c.loop-number.file (fields_from c.args.pool.now [] 0 c.args.count c.args.file.now) c.in_ok-field.field
    c.field.new.file c.in_err-note_root.field-0.0 c.loop-number-test.true c.in_ok-field.ensures
    (c.in_err-note_root.ensures.own l.0 l.1) l.2)

pub loop-number-preserved : goal.loop-number-preserved
loop-number-preserved c =
    let l = c.loop-number.invariant in (
      with_root l.0 c.in_ok-field.field,
      c.in_ok-note_root.ensures.noted l.0 l.1,
      rw c.in_ok-push.ensures.items
          (goes_on_noted c.args.pool.now l.0 c.loop-number.fields.items c.args.count c.loop-number.number
          c.loop-number.file (fields_from c.args.pool.now [] 0 c.args.count c.args.file.now) c.in_ok-field.field
          c.field.new.file c.loop-number-test.true c.in_ok-field.ensures (c.in_ok-note_root.ensures.own l.0 l.1) l.2),
    )

pub returns : goal.returns
returns c =
    let l = c.loop-number.invariant in
    is_done c.args.pool.now l.0 c.loop-number.fields.items c.args.count c.loop-number.number c.loop-number.file
    (fields_from c.args.pool.now [] 0 c.args.count c.args.file.now) c.loop-number-test.false l.2
