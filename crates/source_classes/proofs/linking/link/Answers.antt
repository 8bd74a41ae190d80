use Rattle.std.proofs.Common.{subst, sym}
use Rattle.std.specs.Prelude.{All}
use Rattle.std.proofs.lemmas.List.Elements.{All-filter}
use Rattle.class_file.specs.Classes.{HasAtMost}
use Rattle.class_links.specs.Kept.{is_kept}
use Rattle.class_set.specs.Linked.{Linked}
use Rattle.source_classes.proofs.linking.link.Goals as goal

pub invariant_of-result : goal.invariant_of-result
invariant_of-result c = record {
  small = subst (λ (set : Linked). All (HasAtMost 1048576) set.files) (sym c.in-Ok.ensures.set)
      (All-filter is_kept (HasAtMost 1048576) c.into_vec.result.items c.into_vec.ensures.small);
}
