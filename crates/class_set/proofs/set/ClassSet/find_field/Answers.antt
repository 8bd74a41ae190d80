use Rattle.std.proofs.Common.{rules, ◌≡◌, ◌+◌, ◌<◌, ◌≤◌, None, length, slice_index_or, ap, sym, ◌∙◌, arith}
use Rattle.std.specs.Prelude.{nat_lt, true, false}
use Rattle.std.proofs.lemmas.Bool.Decides.{nat_tests}
use Rattle.graph_walks.specs.Order.{visits}
use Rattle.class_set.specs.Linked.{Linked}
use Rattle.class_set.specs.Lookups.{class_edges, find_field, first_some, own_field}
use Rattle.class_set.specs.Tables.{linked_of}
use Rattle.class_set.proofs.Walked.{no_field_past}
use Rattle.class_set.proofs.Walks.{first_some-visits, mapped_counted, mapped_read}
use Rattle.class_set.proofs.set.ClassSet.find_field.Goals as goal

pub returns-in_err-get : goal.returns-in_err-get
returns-in_err-get c =
    let files = c.self.inside.files.items in
    let set = linked_of files c.self.inside.names in
    let class = c.args.class in
    let none : c.from_residual.result ≡ None = search rules in
    let count = ap length (c.deref.ensures.value ∙ c.self.invariant.2.orders_listed) ∙ mapped_counted (visits (class_edges files)) (length files + 28) in
    let test : nat_lt class (length c.deref.result.now) ≡ false = sym c.in_err-get.ensures.lookup.0 in
    let past : length c.deref.result.now ≤ class = grind (arith, nat_tests) in
    none ∙ sym (no_field_past set class c.args.name.now c.args.descriptor.now (omega (arith, past, count)))
    ∙ ap (λ (s : Linked). find_field s class c.args.name.now c.args.descriptor.now) c.self.view_is

pub loop-above-init : goal.loop-above-init
loop-above-init c =
    let files = c.self.inside.files.items in
    let set = linked_of files c.self.inside.names in
    let class = c.args.class in
    let name = c.args.name.now in
    let descriptor = c.args.descriptor.now in
    let order = c.in_ok-get.field-0.now in
    let count = ap length (c.deref.ensures.value ∙ c.self.invariant.2.orders_listed) ∙ mapped_counted (visits (class_edges files)) (length files + 28) in
    let test : nat_lt class (length c.deref.result.now) ≡ true = sym c.in_ok-get.ensures.lookup.0 in
    let l : class < length c.deref.result.now = grind (arith, nat_tests) in
    let is : order ≡ visits (class_edges files) class =
    c.in_ok-get.ensures.lookup.1
    ∙ ap (λ os. slice_index_or os class order) (c.deref.ensures.value ∙ c.self.invariant.2.orders_listed)
    ∙ mapped_read (visits (class_edges files)) (length files + 28) class order (omega (arith, l, count)) in
    ap (λ (s : Linked). find_field s class name descriptor) (sym c.self.view_is)
    ∙ sym (first_some-visits (own_field files name descriptor) (class_edges files) class)
    ∙ ap (first_some (own_field files name descriptor)) (sym (c.as_slice-above-items.ensures ∙ is))
    ∙ ap (λ (s : Linked). first_some (own_field s.files name descriptor) c.as_slice-above-items.result.now) c.self.view_is
