use Rattle.std.proofs.Common.{rules, ◌≡◌, ◌+◌, nat_eq, false, None, slice_index_or, length, ap, sym, ◌∙◌, arith}
use Rattle.graph_walks.specs.Reached.{Vertices, has_vertex}
use Rattle.plain_model.specs.Facts.{array_at, is_subclass}
use Rattle.class_set.specs.Linked.{Linked}
use Rattle.class_set.specs.Members.{interface_edges, supers_of}
use Rattle.class_set.specs.Facts.{facts_of}
use Rattle.class_set.specs.Tables.{linked_of, reached_above}
use Rattle.class_set.proofs.Edges.{interfaces_counted}
use Rattle.class_set.proofs.Outside.{has_itself, none_above, past_all}
use Rattle.class_set.proofs.Supertypes.{above_has}
use Rattle.class_set.proofs.Walks.{mapped_counted, mapped_read}
use Rattle.class_set.proofs.set.ClassSet.is_subclass.Goals as goal
use Rattle.class_set.proofs.set.ClassSet.is_subclass.Goals.{then-n-classes-via-then-n-classes}
use Rattle.class_set.proofs.set.ClassSet.is_subclass.Goals.{then-n-classes-via-else-n-classes+then-target-classes}

pub returns-then-n-target : goal.returns-then-n-target
returns-then-n-target c =
    let same : c.args.n ≡ c.args.target = search rules in
    sym (ap (λ t. is_subclass (facts_of c.args.self.now) c.args.n t) (sym same) ∙ has_itself c.args.self.now c.args.n)

pub returns-then-n-classes : goal.returns-then-n-classes
returns-then-n-classes c =
    let files = c.self.inside.files.items in
    let set = linked_of files c.self.inside.names in
    let view = c.self.view_is in
    let differs : nat_eq c.args.n c.args.target ≡ false = search rules in
    let size : c.len-classes.result ≡ length c.self.inside.above.items = search rules in
    let count : c.len-classes.result ≡ length files + 28 =
    size ∙ ap length c.self.invariant.2.above_listed ∙ mapped_counted (reached_above (interface_edges files) (supers_of files)) (length files + 28) in
    let none : array_at (facts_of set) c.args.n ≡ None = ap (λ (s : Linked). array_at (facts_of s) c.args.n) view ∙ c.requires.class in
    elim c.then-n-classes.branch [
      | then-n-classes-via-then-n-classes w ↦
          sym (ap (λ (s : Linked). is_subclass (facts_of s) c.args.n c.args.target) (sym view)
          ∙ past_all set c.args.n c.args.target (omega (arith, count, w.if-n-classes.true)) none differs)
      | then-n-classes-via-else-n-classes+then-target-classes w ↦
          sym (ap (λ (s : Linked). is_subclass (facts_of s) c.args.n c.args.target) (sym view)
          ∙ none_above set c.args.n c.args.target (omega (arith, count, w.if-n-classes.false)) (omega (arith, count, w.if-target-classes.true)))
    ]

pub has-requires : goal.has-requires
has-requires c =
    let files = c.self.inside.files.items in
    let size : c.len-classes.result ≡ length c.self.inside.above.items = search rules in
    let count : c.len-classes.result ≡ length files + 28 =
    size ∙ ap length c.self.invariant.2.above_listed ∙ mapped_counted (reached_above (interface_edges files) (supers_of files)) (length files + 28) in
    let read : c.index.result.now ≡ reached_above (interface_edges files) (supers_of files) c.args.n =
    c.index.ensures
    ∙ ap (λ vs. slice_index_or vs c.args.n c.index.result.now) c.self.invariant.2.above_listed
    ∙ mapped_read (reached_above (interface_edges files) (supers_of files)) (length files + 28) c.args.n c.index.result.now (omega (arith, count, c.if-n-classes.false)) in
    omega (arith, count, c.if-target-classes.false, ap (λ (v : Vertices). v.count) read, interfaces_counted files)

pub returns : goal.returns
returns c =
    let files = c.self.inside.files.items in
    let set = linked_of files c.self.inside.names in
    let size : c.len-classes.result ≡ length c.self.inside.above.items = search rules in
    let count : c.len-classes.result ≡ length files + 28 =
    size ∙ ap length c.self.invariant.2.above_listed ∙ mapped_counted (reached_above (interface_edges files) (supers_of files)) (length files + 28) in
    let read : c.index.result.now ≡ reached_above (interface_edges files) (supers_of files) c.args.n =
    c.index.ensures
    ∙ ap (λ vs. slice_index_or vs c.args.n c.index.result.now) c.self.invariant.2.above_listed
    ∙ mapped_read (reached_above (interface_edges files) (supers_of files)) (length files + 28) c.args.n c.index.result.now (omega (arith, count, c.if-n-classes.false)) in
    c.has.ensures
    ∙ ap (λ (v : Vertices). has_vertex v.reached c.args.target) read
    ∙ above_has set c.args.n c.args.target (omega (arith, count, c.if-n-classes.false, interfaces_counted files))
    ∙ ap (λ (s : Linked). is_subclass (facts_of s) c.args.n c.args.target) c.self.view_is
