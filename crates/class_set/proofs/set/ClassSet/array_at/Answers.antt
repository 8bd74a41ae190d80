use Rattle.std.proofs.Common.{rules, ◌≡◌, ◌+◌, ◌-◌, map, length, ap, sym, ◌∙◌, arith}
use Rattle.std.specs.Prelude.{slice_get}
use Rattle.std.specs.Option.{option_copied, option_map}
use Rattle.std.proofs.lemmas.Option.{slice_get-map}
use Rattle.graph_walks.specs.Order.{visits}
use Rattle.plain_model.specs.Facts.{array_at}
use Rattle.class_set.specs.Linked.{Linked}
use Rattle.class_set.specs.ArrayTypes.{array_type}
use Rattle.class_set.specs.Facts.{facts_of}
use Rattle.class_set.specs.Lookups.{class_edges}
use Rattle.class_set.specs.Tables.{array_now, linked_of}
use Rattle.class_set.proofs.ElementTypes.{array_below, array_behind}
use Rattle.class_set.proofs.Walks.{mapped_counted}
use Rattle.class_set.proofs.Copied.{copied_get}
use Rattle.class_set.proofs.set.ClassSet.array_at.Goals as goal

pub returns-then-n-classes : goal.returns-then-n-classes
returns-then-n-classes c =
    let files = c.self.inside.files.items in
    let set = linked_of files c.self.inside.names in
    let size : c.len-classes.result ≡ length c.self.inside.orders.items = search rules in
    let count = ap length c.self.invariant.2.orders_listed ∙ mapped_counted (visits (class_edges files)) (length files + 28) in
    sym (array_below set c.args.n (omega (arith, size, count, c.if-n-classes.true)))
    ∙ ap (λ (s : Linked). array_at (facts_of s) c.args.n) c.self.view_is

pub returns : goal.returns
returns c =
    let files = c.self.inside.files.items in
    let set = linked_of files c.self.inside.names in
    let size : c.len-classes.result ≡ length c.self.inside.orders.items = search rules in
    let count = ap length c.self.invariant.2.orders_listed ∙ mapped_counted (visits (class_edges files)) (length files + 28) in
    let classes : c.len-classes.result ≡ length files + 28 = size ∙ count in
    let k = c.args.n - c.len-classes.result in
    let read : option_copied c.get.result ≡ slice_get c.self.inside.arrays.items k =
    copied_get c.deref.result.now k c.get.result c.get.ensures.lookup.0 c.get.ensures.lookup.1 ∙ ap (λ xs. slice_get xs k) c.deref.ensures.value in
    ap (option_map array_now) read
    ∙ sym (slice_get-map array_now c.self.inside.arrays.items k)
    ∙ ap (λ xs. slice_get xs k) c.self.invariant.1.arrays_listed
    ∙ ap (λ m. slice_get (map (array_type files) set.arrays) (c.args.n - m)) classes
    ∙ sym (array_behind set c.args.n (omega (arith, classes, c.if-n-classes.false)))
    ∙ ap (λ (s : Linked). array_at (facts_of s) c.args.n) c.self.view_is
