use Rattle.std.proofs.Common.{◌≡◌, ◌<◌, ℕ, Option, Some, None, refl, length, slice_index_or, arith, ap, sym, ◌∙◌}
use Rattle.std.proofs.lemmas.Option.{slice_get_read}
use Rattle.class_links.specs.Names.{name_of}
use Rattle.class_links.specs.Links.{super_edges}
use Rattle.graph_walks.specs.Circles.{IsFirstOnCircle}
use Rattle.class_links.proofs.Edges.{same_edges_below, same_edges_count}
use Rattle.graph_walks.proofs.Paths.{Leads-within, HasNoCircle-same, IsFirstOnCircle-same}
use Rattle.class_links.proofs.linking.check_circles.Goals as goal

pub first_on_circle-requires-clause-there : goal.first_on_circle-requires-clause-there
first_on_circle-requires-clause-there c =
    rw c.as_slice.ensures.value (same_edges_below c.args.classes.now c.in_ok-edges.edges.items c.in_ok-edges.ensures)

none_left : (o : Option ℕ) → ((v : ℕ) → o ≡ Some v → ⊥) → o ≡ None
none_left None h = refl
none_left (Some v) h = absurd (h v refl)

pub returns-in-Some-clause-broken : goal.returns-in-Some-clause-broken
returns-in-Some-clause-broken c =
    let files = c.args.classes.now in
    let edges = c.in_ok-edges.edges.items in
    let first : IsFirstOnCircle edges c.in-Some.number = rw (c.as_slice.ensures.value, c.in-Some.is) at c.in_ok-number.ensures.found in
    let there : c.in-Some.number < length files = omega (arith, Leads-within edges c.in-Some.number c.in-Some.number first.circle, same_edges_count files edges c.in_ok-edges.ensures) in
    let named : c.name_of-name.result.now ≡ name_of c.index-files-number.result = c.name_of-name.ensures in (
      c.requires.right,
      record {
        at = c.in-Some.number;
        file = c.index-files-number.result;
        there = slice_get_read files (length files) c.in-Some.number c.index-files-number.result refl there
            (c.index-files-number.is ∙ ap (λ xs. slice_index_or xs c.in-Some.number c.index-files-number.result) c.files.ensures);
        named = sym named ∙ sym c.in_ok-copy.ensures.same;
        first = IsFirstOnCircle-same edges (super_edges files) c.in-Some.number c.in_ok-edges.ensures first;
      },
    )

pub returns-clause-none : goal.returns-clause-none
returns-clause-none c =
    let edges = c.in_ok-edges.edges.items in
    HasNoCircle-same edges (super_edges c.args.classes.now) c.in_ok-edges.ensures
    (rw c.as_slice.ensures.value at (c.in_ok-number.ensures.free (none_left c.in_ok-number.field-0 c.in_default.not-Some)))
