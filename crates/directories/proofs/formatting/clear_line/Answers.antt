use Rattle.line_memory.proofs.Residence.{every_line_is_resident}
use Rattle.std.proofs.Common.{◌+◌, arith}
use Rattle.std.proofs.lemmas.Result.{on_ok_weaker}
use Rattle.word_changes.specs.Changes.{Nothing}
use Rattle.word_changes.proofs.Changing.{changes_nowhere}
use Rattle.word_changes.proofs.Going.{goes_by_fetch}
use Rattle.word_changes.proofs.Writing.{line_changes, line_wrote, line_goes}
use Rattle.directories.specs.Formatting.{OfLines}
use Rattle.directories.proofs.Formats.{line_shown}
use Rattle.directories.proofs.formatting.clear_line.Goals as goal

pub returns-in_err-fetch_line-clause-changes : goal.returns-in_err-fetch_line-clause-changes
returns-in_err-fetch_line-clause-changes g c =
    changes_nowhere (OfLines c.args.line (c.args.line + 1)) c.args.memory.now c.fetch_line.new.memory c.fetch_line.ensures.changes

pub returns-in_err-fetch_line-clause-goes_on : goal.returns-in_err-fetch_line-clause-goes_on
returns-in_err-fetch_line-clause-goes_on g c =
    goes_by_fetch Nothing c.args.memory.now c.fetch_line.new.memory c.fetch_line.ensures.changes c.fetch_line.ensures.counts c.fetch_line.ensures.calls

pub returns-clause-wrote : goal.returns-clause-wrote
returns-clause-wrote g c =
    on_ok_weaker c.write_line.result
    (λ written. line_wrote (OfLines c.args.line (c.args.line + 1)) c.args.line
    c.args.memory.now c.fetch_line.new.memory c.clear_words.new.memory c.write_line.new.memory
    c.fetch_line.ensures.changes c.clear_words.ensures.changes c.write_line.ensures.changes c.requires
    (λ l w v given. omega (arith, given.0, given.1))
    (line_shown c.args.line c.clear_words.new.memory c.clear_words.ensures.shows)
    written)
    c.write_line.ensures.written

pub returns-clause-changes : goal.returns-clause-changes
returns-clause-changes g c =
    line_changes (OfLines c.args.line (c.args.line + 1)) c.args.line
    c.args.memory.now c.fetch_line.new.memory c.clear_words.new.memory c.write_line.new.memory
    c.fetch_line.ensures.changes c.clear_words.ensures.changes c.write_line.ensures.changes

pub returns-clause-goes_on : goal.returns-clause-goes_on
returns-clause-goes_on g c =
    line_goes (OfLines c.args.line (c.args.line + 1)) c.args.line
    c.args.memory.now c.fetch_line.new.memory c.clear_words.new.memory c.write_line.new.memory
    c.fetch_line.ensures.changes c.clear_words.ensures.changes c.write_line.ensures.changes
    c.fetch_line.ensures.counts c.fetch_line.ensures.calls c.clear_words.ensures.same c.write_line.ensures.count

pub returns-in_err-fetch_line-clause-calls : goal.returns-in_err-fetch_line-clause-calls
returns-in_err-fetch_line-clause-calls g c =
    let same = (c.fetch_line.ensures.at_once (every_line_is_resident c.args.memory.now c.args.line c.requires)).1 in
    omega (arith, same.calls)

pub returns-clause-calls : goal.returns-clause-calls
returns-clause-calls g c =
    let same = (c.fetch_line.ensures.at_once (every_line_is_resident c.args.memory.now c.args.line c.requires)).1 in
    omega (arith, same.calls, c.clear_words.ensures.same.calls, c.write_line.ensures.count.calls)
