use Rattle.std.proofs.Common.{subst}
use Rattle.std.proofs.lemmas.Result.{err_from_is_err_and}
use Rattle.one_space.specs.First.{LacksWords, text_object}
use Rattle.std.specs.Prelude.{map}
use Rattle.two_spaces.specs.Seen.{shown_of}
use Rattle.first_spaces.specs.Items.{AreNumbered}
use Rattle.first_spaces.specs.Parts.{volatile_objects}
use Rattle.first_spaces.specs.Spaces.{spaces_of}
use Rattle.first_spaces.proofs.Objects.{all_grown, arguments_kept, arguments_lack, both_long, if_full, literals_lack}
use Rattle.first_spaces.proofs.Objects.{stream_kept}
use Rattle.first_spaces.proofs.adding.add_objects.Goals as goal

pub returns-in_err-arguments-clause-full : goal.returns-in_err-arguments-clause-full
returns-in_err-arguments-clause-full g c =
    let p = err_from_is_err_and c.from_residual-in_err-arguments.result
    c.from_residual-in_err-arguments.ensures.1 in
    rw (p.1, p.2) (arguments_lack c.args.objects.now (spaces_of c.args.spaces.now) (spaces_of
    c.add.new.spaces)
    c.requires.first c.in_ok-stream.ensures.grown c.in_err-arguments.field-0.0
    c.in_err-arguments.ensures.full)

pub returns-in_err-literals-clause-full : goal.returns-in_err-literals-clause-full
returns-in_err-literals-clause-full g c =
    let p = err_from_is_err_and c.from_residual-in_err-literals.result
    c.from_residual-in_err-literals.ensures.1 in
    rw (p.1, p.2) (if_full c.in_err-literals.field-0.0
    (LacksWords c.add-2.new.spaces.heap.space.left (map (text_object c.args.objects.now.string)
    c.as_slice-texts.result.now))
    (LacksWords c.args.spaces.now.heap.space.left (volatile_objects c.args.objects.now))
    (λ f. literals_lack c.args.objects.now (spaces_of c.args.spaces.now) (spaces_of c.add.new.spaces)
    c.requires.first
    c.in_ok-stream.ensures.grown (spaces_of c.add-2.new.spaces) c.in_ok-arguments.ensures.grown
    c.as_slice-texts.result.now
    c.as_slice-texts.ensures f) c.in_err-literals.ensures.full)

pub returns-clause-grown : goal.returns-clause-grown
returns-clause-grown g c =
    all_grown c.args.objects.now (spaces_of c.args.spaces.now) (spaces_of c.add.new.spaces) c.requires.first
    c.in_ok-stream.ensures.grown (spaces_of c.add-2.new.spaces) c.in_ok-arguments.ensures.grown
    c.as_slice-texts.result.now
    c.as_slice-texts.ensures (spaces_of c.add_texts.new.spaces) c.in_ok-literals.ensures.grown

pub returns-clause-stream : goal.returns-clause-stream
returns-clause-stream g c =
    stream_kept c.args.objects.now (spaces_of c.args.spaces.now) (spaces_of c.add.new.spaces) c.requires.first
    c.in_ok-stream.ensures.grown (spaces_of c.add-2.new.spaces) c.in_ok-arguments.ensures.grown
    c.in_ok-stream.stream
    c.as_slice-texts.result.now (spaces_of c.add_texts.new.spaces) c.in_ok-literals.ensures.grown
    c.in_ok-stream.ensures.number

pub returns-clause-arguments : goal.returns-clause-arguments
returns-clause-arguments g c =
    arguments_kept c.args.objects.now (spaces_of c.args.spaces.now) (spaces_of c.add.new.spaces)
    c.requires.first
    c.in_ok-stream.ensures.grown (spaces_of c.add-2.new.spaces) c.in_ok-arguments.ensures.grown
    c.in_ok-arguments.arguments
    c.as_slice-texts.result.now (spaces_of c.add_texts.new.spaces) c.in_ok-literals.ensures.grown
    c.in_ok-arguments.ensures.number

pub returns-clause-literals : goal.returns-clause-literals
returns-clause-literals g c =
    subst (λ n. AreNumbered (shown_of (spaces_of c.add_texts.new.spaces)).number n
    c.in_ok-literals.literals.items)
    (both_long c.args.objects.now (spaces_of c.args.spaces.now) (spaces_of c.add.new.spaces) c.requires.first
    c.in_ok-stream.ensures.grown (spaces_of c.add-2.new.spaces) c.in_ok-arguments.ensures.grown)
    c.in_ok-literals.ensures.numbers
