use Rattle.std.proofs.Common.{◌∙◌, length, slice_index_or, sym, arith}
use Rattle.audit_keeping.proofs.Marking.{wanted-there}
use Rattle.audit_keeping.proofs.keeping.mark_each.Goals as goal

pub bounds-marks-n : goal.bounds-marks-n
bounds-marks-n c =
    let there = wanted-there (length c.args.marks.now) c.args.asked.now (slice_index_or c.named.rest.now 0 0) c.requires.short
    (sym c.is_wanted.ensures ∙ c.if-not-is_wanted.false) in
    let same = c.named.invariant.2 in
    omega (arith, there, same)
