use Rattle.std.proofs.Common.{◌≡◌, ◌<◌, ◌∙◌, ℕ, List, Option, Some, length, slice_index_or, sym, subst, ap, arith}
use Rattle.directories.specs.ClassSets.{class_named, innermost_class, class_between, HasInnermost}
use Rattle.directories.proofs.Agreements.{innermost, some_class}
use Rattle.directories.proofs.agreeing.has_innermost.Goals as goal

pub returns : goal.returns
returns g c =
    let facts = g.S.Classes.facts c.args.set.now in
    let rest = c.behind_brackets-rest.result.now in
    let last = c.without_last.result.now in
    let some : 0 < length rest = omega arith in
    let is : slice_index_or rest 0 0 ≡ 76 = omega arith in
    let inner : innermost_class c.args.name.now ≡ Some last =
    ap class_between (sym c.behind_brackets-rest.ensures) ∙ innermost rest last some is c.without_last.ensures in
    let class = some_class c.class_shape.result (class_named facts last) c.class_shape.ensures.named in (
      λ e. subst (λ (o : Option (List ℕ)). HasInnermost facts o) (sym inner) (class.0 (sym c.is_some.ensures ∙ e)),
      λ has. c.is_some.ensures ∙ class.1 (subst (λ (o : Option (List ℕ)). HasInnermost facts o) inner has),
    )
