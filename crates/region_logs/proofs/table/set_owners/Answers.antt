use Rattle.std.proofs.Common.{◌≡◌, ◌≤◌, ◌<◌, ℕ, List, length, sym, subst, rules, arith}
use Rattle.region_log.specs.declared.entry.Entry.{Entry}
use Rattle.region_logs.specs.Table.{SetsOwners}
use Rattle.region_logs.proofs.Tables.{sets-here, sets-past}
use Rattle.region_logs.proofs.table.set_owners.Goals as goal
use Rattle.region_logs.proofs.table.set_owners.Goals.{then-word-len, else-word-len}

pub loop-entry-preserved : goal.loop-entry-preserved
loop-entry-preserved c =
    let i : ℕ = c.loop-entry.entry-index in
    let e : Entry = c.entry-item.result in
    let old : List ℕ = c.args.table.now.items in
    let between : List ℕ = c.loop-entry.table.items in
    elim c.if-word-len.branch [
      | then-word-len w ↦
          (let room : c.number-word.result < length between = omega arith in
          rw w.table-is (sets-here c.args.entries.now i c.args.owner c.number-word.result old between e c.loop-entry-test.true
          c.entry-item.is c.number-word.ensures room c.loop-entry.invariant))
      | else-word-len w ↦
          (let past : length between ≤ c.number-word.result = omega arith in
          rw w.table-is (sets-past c.args.entries.now i c.args.owner c.number-word.result old between e c.loop-entry-test.true
          c.entry-item.is c.number-word.ensures past c.loop-entry.invariant))
    ]
