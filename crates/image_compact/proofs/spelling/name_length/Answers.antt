use Rattle.std.proofs.Common.{sym, ◌∙◌}
use Rattle.image_compact.proofs.Spellings.{name_count}
use Rattle.image_compact.proofs.spelling.name_length.Goals as goal

pub returns : goal.returns
returns c = c.words_for.ensures ∙ sym (name_count c.args.name.now)
