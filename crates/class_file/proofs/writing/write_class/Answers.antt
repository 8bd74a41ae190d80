use Rattle.std.proofs.Common.{◌≡◌, List, ℕ, Ok, sym, subst, ◌∙◌, rules}
use Rattle.class_file.specs.Classes.{class_in, class_bytes}
use Rattle.class_file.proofs.Spelled.{class_spelled}
use Rattle.class_file.proofs.writing.write_class.Goals as goal

pub put_class-requires : goal.put_class-requires
put_class-requires c = (class_spelled c.requires.bytes c.args.class.now c.requires.are_bytes c.requires.read).1

pub returns-clause-same : goal.returns-clause-same
returns-clause-same c = λ bytes fits read.
    let text : c.put_class.new.out.items ≡ class_bytes c.args.class.now = search rules in
    text ∙ sym (class_spelled bytes c.args.class.now fits read).0

pub returns-clause-again : goal.returns-clause-again
returns-clause-again c =
    let bytes = c.requires.bytes in
    let text : c.put_class.new.out.items ≡ class_bytes c.args.class.now = search rules in
    let same : c.put_class.new.out.items ≡ bytes = text ∙ sym (class_spelled bytes c.args.class.now c.requires.are_bytes c.requires.read).0 in
    subst (λ (text : List ℕ). class_in text ≡ Ok c.args.class.now) (sym same) c.requires.read
