use Rattle.std.proofs.Common.{◌<◌, ◌+◌, length, arith}
use Rattle.image_layout.specs.declared.superblock.BadReason.TheVariants as reasons
use Rattle.image_meaning.specs.Objects.{line_fault}
use Rattle.image_meaning.proofs.Faults.{first_fault-none}
use Rattle.image_walk.proofs.Checking.{fails_at}
use Rattle.image_walk.proofs.Taking.{free_passes, taken_fails}
use Rattle.image_walk.proofs.taken.take_lines.Goals as goal

pub returns-then-taken-at-clause-bad : goal.returns-then-taken-at-clause-bad
returns-then-taken-at-clause-bad c words earlier is =
    let line = c.args.line in
    let i = c.loop-i.i in
    let inv = c.loop-i.invariant in
    let below : line + i < length c.args.taken.now = omega (arith, c.requires.fits, c.loop-i-test.true) in
    fails_at (line_fault words earlier line) i c.args.count (line + i, reasons.Overlap)
    (first_fault-none (line_fault words earlier line) i
    (λ k under. free_passes c.args.taken.now words earlier line k is (omega (arith, under, below)) (inv.were k under)))
    (taken_fails c.args.taken.now c.loop-i.taken words earlier line i is below (inv.are (line + i)) c.if-taken-at.true)
    c.loop-i-test.true

pub returns-clause-passes : goal.returns-clause-passes
returns-clause-passes c words earlier is =
    let line = c.args.line in
    let inv = c.loop-i.invariant in
    first_fault-none (line_fault words earlier line) c.args.count
    (λ k under. free_passes c.args.taken.now words earlier line k is (omega (arith, under, c.requires.fits)) (inv.were k (omega (arith, under, c.loop-i-test.false))))
