use Rattle.word_changes.specs.Changes.{Nothing}
use Rattle.word_changes.proofs.Going.{goes_by_fetch}
use Rattle.image_compact.proofs.writing.is_blank.Goals as goal

pub returns-in_err-fetch_line-clause-goes_on : goal.returns-in_err-fetch_line-clause-goes_on
returns-in_err-fetch_line-clause-goes_on g c =
    goes_by_fetch Nothing c.args.memory.now c.fetch_line.new.memory c.fetch_line.ensures.changes c.fetch_line.ensures.counts c.fetch_line.ensures.calls

pub returns-clause-goes_on : goal.returns-clause-goes_on
returns-clause-goes_on g c =
    goes_by_fetch Nothing c.args.memory.now c.fetch_line.new.memory c.fetch_line.ensures.changes c.fetch_line.ensures.counts c.fetch_line.ensures.calls
