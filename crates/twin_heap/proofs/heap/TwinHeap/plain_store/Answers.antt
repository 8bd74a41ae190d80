use Rattle.std.proofs.Common.{◌+◌, refl, sym, subst}
use Rattle.std.specs.Prelude.{IsNone}
use Rattle.ap_base.specs.References.{reference_word}
use Rattle.twin_forms.specs.Table.{entry, line_of}
use Rattle.twin_heap.proofs.Storing.{tells, store_is}
use Rattle.twin_heap.proofs.heap.TwinHeap.plain_store.Goals as goal

pub returns-clause-stored : goal.returns-clause-stored
returns-clause-stored g c = λ es n may.
    let s = c.args.self.now.space in let m = c.args.self.now.memory in let k = c.args.self.now.marks in
    store_is s c.store_old.new.space m c.store_copy.new.memory k es n (reference_word c.args.r) c.args.index c.args.word c.resolved-place.result c.copied_line-line.result may
    (c.resolved-place.ensures.current es n may.lies may.there may.names)
    (tells (entry es n) c.args.index c.copied_line-line.result
    (c.copied_line-line.ensures.copied es n may.lies may.there may.names may.slot)
    (c.copied_line-line.ensures.none es n may.lies may.there may.names))
    c.store_old.ensures.words c.store_old.ensures.left c.store_copy.ensures.stored (λ e. c.store_copy.ensures.same (subst IsNone (sym e) refl))

pub returns-clause-line : goal.returns-clause-line
returns-clause-line g c = λ es n may has.
    let t = tells (entry es n) c.args.index c.copied_line-line.result
    (c.copied_line-line.ensures.copied es n may.lies may.there may.names may.slot)
    (c.copied_line-line.ensures.none es n may.lies may.there may.names) in
    c.store_copy.ensures.stored ((entry es n).line + line_of c.args.index) (t.there has)

pub returns-clause-same : goal.returns-clause-same
returns-clause-same g c = λ es n may not.
    let t = tells (entry es n) c.args.index c.copied_line-line.result
    (c.copied_line-line.ensures.copied es n may.lies may.there may.names may.slot)
    (c.copied_line-line.ensures.none es n may.lies may.there may.names) in
    c.store_copy.ensures.same (subst IsNone (sym (t.none not)) refl)
