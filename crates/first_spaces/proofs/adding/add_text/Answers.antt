use Rattle.first_spaces.specs.Spaces.{spaces_of}
use Rattle.first_spaces.proofs.Chars.{text_added}
use Rattle.first_spaces.proofs.adding.add_text.Goals as goal

pub returns-clause-grown : goal.returns-clause-grown
returns-clause-grown g c =
    text_added c.args.class c.args.chars.now c.in_ok-object.object (spaces_of c.args.spaces.now) (spaces_of
    c.add.new.spaces)
    (spaces_of c.put_chars.new.spaces) c.requires.chars c.in_ok-object.ensures.grown
    c.in_ok-object.ensures.number
    c.put_chars.ensures
