use Rattle.std.proofs.Common.{◌+◌, arith}
use Rattle.std.proofs.lemmas.Result.{on_ok_weaker}
use Rattle.word_changes.specs.Changes.{Nothing}
use Rattle.word_changes.proofs.Changing.{changes_nowhere}
use Rattle.word_changes.proofs.Going.{goes_by_fetch}
use Rattle.word_changes.proofs.Writing.{line_changes, line_wrote, line_goes}
use Rattle.image_compact.specs.Writing.{OfWords}
use Rattle.image_compact.proofs.LineWords.{line_shown}
use Rattle.image_compact.proofs.words.write_eight.Goals as goal

pub returns-in_err-fetch_line-clause-changes : goal.returns-in_err-fetch_line-clause-changes
returns-in_err-fetch_line-clause-changes g c =
    changes_nowhere (OfWords c.args.words.now c.args.line 1) c.args.memory.now c.fetch_line.new.memory c.fetch_line.ensures.changes

pub returns-in_err-fetch_line-clause-goes_on : goal.returns-in_err-fetch_line-clause-goes_on
returns-in_err-fetch_line-clause-goes_on g c =
    goes_by_fetch Nothing c.args.memory.now c.fetch_line.new.memory c.fetch_line.ensures.changes c.fetch_line.ensures.counts c.fetch_line.ensures.calls

pub returns-clause-wrote : goal.returns-clause-wrote
returns-clause-wrote g c =
    on_ok_weaker c.write_line.result
    (λ written. line_wrote (OfWords c.args.words.now c.args.line 1) c.args.line
    c.args.memory.now c.fetch_line.new.memory c.put_eight.new.memory c.write_line.new.memory
    c.fetch_line.ensures.changes c.put_eight.ensures.changes c.write_line.ensures.changes c.requires
    (λ l w v given. omega (arith, given.0, given.1))
    (line_shown c.args.words.now c.args.line c.put_eight.new.memory c.put_eight.ensures.shows)
    written)
    c.write_line.ensures.written

pub returns-clause-changes : goal.returns-clause-changes
returns-clause-changes g c =
    line_changes (OfWords c.args.words.now c.args.line 1) c.args.line
    c.args.memory.now c.fetch_line.new.memory c.put_eight.new.memory c.write_line.new.memory
    c.fetch_line.ensures.changes c.put_eight.ensures.changes c.write_line.ensures.changes

pub returns-clause-goes_on : goal.returns-clause-goes_on
returns-clause-goes_on g c =
    line_goes (OfWords c.args.words.now c.args.line 1) c.args.line
    c.args.memory.now c.fetch_line.new.memory c.put_eight.new.memory c.write_line.new.memory
    c.fetch_line.ensures.changes c.put_eight.ensures.changes c.write_line.ensures.changes
    c.fetch_line.ensures.counts c.fetch_line.ensures.calls c.put_eight.ensures.same c.write_line.ensures.count
