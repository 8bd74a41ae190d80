use Rattle.std.proofs.Common.{rules, ◌≡◌, ap, ◌∙◌, length, ◌+◌}
use Rattle.class_set.specs.Linked.{Linked}
use Rattle.class_set.proofs.Above.{supers_counted}
use Rattle.class_set.proofs.set.ClassSet.named_count.Goals as goal

pub returns : goal.returns
returns c =
    let size : c.len.result ≡ length c.self.inside.supers.items = search rules in
    size ∙ ap length c.self.invariant.0.above ∙ supers_counted c.self.inside.files.items ∙ ap (λ (s : Linked). length s.files + 28) c.self.view_is
