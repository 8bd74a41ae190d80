use Rattle.one_space.proofs.Making.{text_added}
use Rattle.one_space.proofs.space.OneSpace.add_text.Goals as goal

pub returns-clause-added : goal.returns-clause-added
returns-clause-added c =
    text_added c.args.class c.in_ok-at.at c.args.chars.now c.args.self.now c.place.new.self
    c.put_chars.new.self c.requires.chars
    c.in_ok-at.ensures.made c.in_ok-at.ensures.index c.in_ok-at.ensures.takes c.in_ok-at.ensures.within
    c.put_chars.ensures
