use Rattle.std.proofs.Common.{rules, ◌+◌, ◌++◌, ◌∙◌, List, map, drop, ap}
use Rattle.directories.specs.declared.entries.Entry.{Entry}
use Rattle.directories.specs.Read.{entry_of}
use Rattle.directories.proofs.Plans.{copied_more}
use Rattle.directories.proofs.directory.Directory.left_entries.Goals as goal

pub loop-i-preserved : goal.loop-i-preserved
loop-i-preserved c =
    let planned = c.self.inside.planned.items in
    let left = drop c.self.inside.appended (map entry_of planned) in
    let copy = c.in_ok-copy.field-0 in
    ap (λ (items : List Entry). map entry_of items ++ drop (c.loop-i.i + 1) (map entry_of planned)) c.in_ok-push.ensures.items
    ∙ copied_more c.loop-i.entries.items planned copy c.loop-i.i left (search rules) (search rules) c.loop-i.invariant
