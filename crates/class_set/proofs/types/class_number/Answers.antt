use Rattle.std.proofs.Common.{rules, ◌≡◌, Some, None, sym, ◌∙◌, arith}
use Rattle.text_table.specs.Texts.{place_of}
use Rattle.class_set.proofs.Copied.{nothing_over, only_over}
use Rattle.class_set.proofs.Places.{class_placed, class_unplaced}
use Rattle.class_set.proofs.types.class_number.Goals as goal

pub returns-in_err-number : goal.returns-in_err-number
returns-in_err-number c = λ files are.
    let none : c.from_residual.result ≡ None = search rules in
    let gone : place_of c.args.names.now c.args.name.now ≡ None = search rules in
    none ∙ sym (class_unplaced files c.args.names.now c.args.classes c.args.name.now are
    (nothing_over (place_of c.args.names.now c.args.name.now) c.args.classes gone))

pub returns-then-number-classes : goal.returns-then-number-classes
returns-then-number-classes c = λ files are.
    let found : place_of c.args.names.now c.args.name.now ≡ Some c.in_ok-number.number = search rules in
    sym (class_placed files c.args.names.now c.args.classes c.args.name.now c.in_ok-number.number are found (omega arith))

pub returns : goal.returns
returns c = λ files are.
    let found : place_of c.args.names.now c.args.name.now ≡ Some c.in_ok-number.number = search rules in
    sym (class_unplaced files c.args.names.now c.args.classes c.args.name.now are
    (only_over (place_of c.args.names.now c.args.name.now) c.args.classes c.in_ok-number.number found (omega arith)))
