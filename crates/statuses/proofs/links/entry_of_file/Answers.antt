use Rattle.std.proofs.Common.{◌≤◌, length, arith, ap, sym, ◌∙◌}
use Rattle.statuses.specs.Names.{shortened}
use Rattle.statuses.proofs.Entries.{none_named}
use Rattle.statuses.proofs.links.entry_of_file.Goals as goal

pub returns-else-index-from : goal.returns-else-index-from
returns-else-index-from c =
    let pool = c.args.file.now.pool in
    let past : length pool ≤ c.args.index = omega (arith, c.if-index-from.false, c.from.ensures, c.len.ensures.len) in
    c.tell.ensures ∙ ap shortened (sym (none_named c.args.kind pool c.args.index past))
