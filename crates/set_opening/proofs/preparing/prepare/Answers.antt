use Rattle.std.proofs.Common.{ℕ, List, drop, length, sym, ap, ◌∙◌, arith}
use Rattle.std.proofs.lemmas.List.{length-map}
use Rattle.graph_model.specs.declared.types.NamedValue.{NamedValue}
use Rattle.image_meaning.specs.Directories.{Directory}
use Rattle.directories.specs.Planning.{directory_of_kept, lacking}
use Rattle.set_opening.specs.Fitted.{with_null_roots}
use Rattle.set_opening.proofs.Names.{roots_more}
use Rattle.set_opening.proofs.preparing.prepare.Goals as goal

pub behind-requires : goal.behind-requires
behind-requires c =
    let planned = c.in_ok-plan_missing.ensures.planned in
    let added = lacking (directory_of_kept c.args.directory.now) planned.entries in
    let more = roots_more (directory_of_kept c.args.directory.now) added in
    let now = ap (λ (d : Directory). length d.roots) planned.planned.directory in
    let had = sym (length-map c.args.graph.now.roots (λ (root : NamedValue). root.name))
    ∙ ap (λ (names : List (List ℕ)). length names) c.requires.roots in
    let many = ap (λ (roots : List NamedValue). length roots) c.roots-had.ensures.same in
    let long = ap (λ (names : List (List ℕ)). length names) c.roots.ensures in
    omega (arith, more, now, had, many, long)

pub returns-clause-fitted : goal.returns-clause-fitted
returns-clause-fitted c = record {
  agree = c.in_ok-check_shapes.ensures.agree;
  set_is = c.in_ok-number_arrays.ensures.numbered;
  linked = c.what_sets_keep.ensures.linked;
  few = c.what_sets_keep.ensures.few;
  planned = c.in_ok-plan_missing.ensures.planned;
  graph_is = c.in_ok-add_null_roots.ensures ∙ ap (with_null_roots c.args.graph.now)
      (c.behind.ensures
      ∙ ap (λ (n : ℕ). drop n c.roots.result.now) (ap (λ (roots : List NamedValue). length roots) c.roots-had.ensures.same)
      ∙ ap (λ (names : List (List ℕ)). drop (length c.args.graph.now.roots) names) c.roots.ensures);
}
