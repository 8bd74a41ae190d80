use Rattle.first_spaces.specs.Spaces.{spaces_of}
use Rattle.first_spaces.proofs.Growing.{grows_on_ok, young_on_ok, lacks_on_err}
use Rattle.first_spaces.proofs.adding.add.Goals as goal

pub returns-clause-grown : goal.returns-clause-grown
returns-clause-grown g c =
    grows_on_ok c.args.class c.args.slots (spaces_of c.args.spaces.now) (spaces_of c.alloc.new.self)
    c.requires.whole
    c.requires.slots c.alloc.result c.alloc.ensures.made c.alloc.ensures.heap c.alloc.ensures.full

pub returns-clause-young : goal.returns-clause-young
returns-clause-young g c =
    young_on_ok c.args.class c.args.slots (spaces_of c.args.spaces.now) (spaces_of c.alloc.new.self)
    c.requires.whole
    c.requires.slots c.alloc.result c.alloc.ensures.made c.alloc.ensures.heap

pub returns-clause-full : goal.returns-clause-full
returns-clause-full g c =
    lacks_on_err c.args.class c.args.slots (spaces_of c.args.spaces.now) (spaces_of c.alloc.new.self)
    c.requires.whole
    c.requires.slots c.alloc.result c.alloc.ensures.full c.alloc.ensures.numbers
