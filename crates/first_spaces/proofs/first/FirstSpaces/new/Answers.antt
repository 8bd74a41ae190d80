use Rattle.std.proofs.Common.{subst}
use Rattle.first_spaces.specs.Filled.{IsFilled}
use Rattle.first_spaces.specs.Spaces.{spaces_of}
use Rattle.first_spaces.proofs.Filling.{roots_lie, shows, stand_for, whole}
use Rattle.first_spaces.proofs.Given.{can_be_filled}
use Rattle.first_spaces.proofs.Nodes.{can_be_empty}
use Rattle.first_spaces.proofs.first.FirstSpaces.new.Goals as goal

pub empty_spaces-requires : goal.empty_spaces-requires
empty_spaces-requires g c =
    let r = c.requires in
    record {
      can = can_be_empty r.0 r.1 r.2 c.args.parts c.args.lines.now c.args.memory r.3 c.args.words
          c.ranges.words.fits;
    }

pub fill-requires-clause-can : goal.fill-requires-clause-can
fill-requires-clause-can g c =
    let r = c.requires in
    can_be_filled r.0 r.1 r.2 c.args.parts c.args.lines.now c.args.memory r.3 c.in-Ok.spaces.shapes
    c.in-Ok.ensures.empty.tables_are.shapes c.as_slice.result.now c.as_slice.ensures

pub returns-in-Ok-fill-clause-shows : goal.returns-in-Ok-fill-clause-shows
returns-in-Ok-fill-clause-shows g c set graph directory is =
    shows set graph directory c.args.parts c.args.lines.now c.args.memory is c.args.words (spaces_of
    c.in-Ok.spaces)
    (spaces_of c.fill.new.spaces) c.in-Ok-fill.arguments c.in-Ok-fill.literals.items c.in-Ok.ensures.empty
    (subst (λ fs. IsFilled c.args.parts.objects fs (spaces_of c.in-Ok.spaces) (spaces_of c.fill.new.spaces)
    c.in-Ok-fill.arguments c.in-Ok-fill.literals.items) c.as_slice.ensures c.in-Ok-fill.ensures.filled)

pub returns-in-Ok-fill-clause-references : goal.returns-in-Ok-fill-clause-references
returns-in-Ok-fill-clause-references g c set graph directory is =
    stand_for set graph directory c.args.parts c.args.lines.now c.args.memory is c.args.words (spaces_of
    c.in-Ok.spaces)
    (spaces_of c.fill.new.spaces) c.in-Ok-fill.arguments c.in-Ok-fill.literals.items c.in-Ok.ensures.empty
    (subst (λ fs. IsFilled c.args.parts.objects fs (spaces_of c.in-Ok.spaces) (spaces_of c.fill.new.spaces)
    c.in-Ok-fill.arguments c.in-Ok-fill.literals.items) c.as_slice.ensures c.in-Ok-fill.ensures.filled)

pub returns-in-Ok-fill-clause-whole : goal.returns-in-Ok-fill-clause-whole
returns-in-Ok-fill-clause-whole g c set graph directory is =
    whole set graph directory c.args.parts c.args.lines.now c.args.memory is c.args.words (spaces_of
    c.in-Ok.spaces)
    (spaces_of c.fill.new.spaces) c.in-Ok-fill.arguments c.in-Ok-fill.literals.items c.in-Ok.ensures.empty
    (subst (λ fs. IsFilled c.args.parts.objects fs (spaces_of c.in-Ok.spaces) (spaces_of c.fill.new.spaces)
    c.in-Ok-fill.arguments c.in-Ok-fill.literals.items) c.as_slice.ensures c.in-Ok-fill.ensures.filled)

pub returns-in-Ok-fill-clause-roots : goal.returns-in-Ok-fill-clause-roots
returns-in-Ok-fill-clause-roots g c set graph directory is =
    roots_lie set graph directory c.args.parts c.args.lines.now c.args.memory is c.args.words (spaces_of
    c.in-Ok.spaces)
    (spaces_of c.fill.new.spaces) c.in-Ok-fill.arguments c.in-Ok-fill.literals.items c.in-Ok.ensures.empty
    (subst (λ fs. IsFilled c.args.parts.objects fs (spaces_of c.in-Ok.spaces) (spaces_of c.fill.new.spaces)
    c.in-Ok-fill.arguments c.in-Ok-fill.literals.items) c.as_slice.ensures c.in-Ok-fill.ensures.filled)
