use Rattle.std.proofs.Common.{ap, sym, ◌∙◌}
use Rattle.class_set.specs.Linked.{Linked}
use Rattle.class_code.specs.Declarations.{declared_at, target_at}
use Rattle.class_code.proofs.Declaring.{same_declared}
use Rattle.class_code.proofs.declared.Numbered.declared_at.Goals as goal

pub returns : goal.returns
returns c =
    let set = c.self.inside.set.now in
    let m = c.args.method in
    same_declared set c.self.inside.signatures.now m (record { name = c.args.name.now; descriptor = c.args.descriptor.now }) _ _
    c.self.invariant.1 c.in_ok-place_in.ensures (c.target_at.ensures ∙ ap (λ (s : Linked). target_at s m) (sym c.self.view_is))
    ∙ ap (λ (s : Linked). declared_at s m.class m.method (record { name = c.args.name.now; descriptor = c.args.descriptor.now; is_static = m.is_static })) c.self.view_is
