use Rattle.std.proofs.Common.{sym, ◌∙◌}
use Rattle.first_heap.proofs.Named.{root_found, root_lacked, root_there}
use Rattle.first_heap.proofs.roots.root_value.Goals as goal

pub bounds-roots-at : goal.bounds-roots-at
bounds-roots-at c =
    root_there c.args.roots.now c.args.names.now c.args.name.now c.in-Some.at c.requires.names
    (sym c.place.ensures ∙ c.in-Some.is)

pub bounds-roots-at-in-Some : goal.bounds-roots-at-in-Some
bounds-roots-at-in-Some c =
    root_there c.args.roots.now c.args.names.now c.args.name.now c.in-Some.at c.requires.names
    (sym c.place.ensures ∙ c.in-Some.is)

pub returns-in-Some : goal.returns-in-Some
returns-in-Some c =
    root_found c.args.roots.now c.args.names.now c.args.name.now c.in-Some.at c.requires.names
    (sym c.place.ensures ∙ c.in-Some.is) c.index-roots-at.result

pub returns-in-None : goal.returns-in-None
returns-in-None c =
    sym (root_lacked c.args.roots.now c.args.names.now c.args.name.now c.requires.names
    (sym c.place.ensures ∙ c.in-None.is))
