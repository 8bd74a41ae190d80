use Rattle.std.proofs.Common.{◌≡◌, ℕ, List, [], Ok, map, length, sym, ◌∙◌, ap}
use Rattle.graph_model.specs.declared.types.Value.{Value}
use Rattle.graph_model.specs.Canon.{with_new, renumbered}
use Rattle.std.specs.List.{range_with_len}
use Rattle.image_meaning.specs.Meaning.{root_values_of, graph_from}
use Rattle.image_walk.specs.Walking.{IsFaultOf, directory_with, named_root}
use Rattle.image_meaning.specs.Opening.{free_line}
use Rattle.image_walk.proofs.Looking.{looks_more}
use Rattle.image_walk.proofs.Reading.{err_is}
use Rattle.image_walk.proofs.Names.{graph_is, fails_at_roots, fails_at_walk}
use Rattle.image_walk.proofs.finding.find_graph.Goals as goal

pub returns-clause-found : goal.returns-clause-found
returns-clause-found g c words so =
    let size = c.args.memory.now.size in
    let shapes = c.args.shapes.now in
    let names = c.args.roots.now in
    let bytes : c.read_roots.new.memory.size ≡ size = c.in_ok-values.ensures.looks.changes.size in
    let now = c.in_ok-values.ensures.looks.keeps words so in
    let values : c.in_ok-values.values.items ≡ root_values_of words (length names) = c.in_ok-values.ensures.values words so c.requires.roots in
    let begins : c.add_each.new.self.numbers ≡ with_new [] (root_values_of words (length names)) =
    c.in_ok-add_each.ensures.added ∙ ap (λ (ls : List ℕ). with_new ls c.as_slice.result.now) c.in_ok-found.ensures.none
    ∙ ap (with_new []) (c.as_slice.ensures.value ∙ values) in
    let same : c.as_slice-2.result.now ≡ shapes = c.as_slice-2.ensures.value ∙ c.in_ok-shared.ensures.same in
    let walked = rw same at (c.in_ok-walked.ensures.walked words (root_values_of words (length names)) now begins) in
    let found = c.in_ok-walked.walked.found.numbers in
    let lines : c.into_lines.result ≡ found = c.into_lines.ensures in
    record {
      roots = c.in_ok-values.ensures.passes words so;
      walks = (rw bytes at walked.walks) ∙ ap (λ (ls : List ℕ). Ok ls) (sym lines);
      graph = graph_is shapes names words found c.into_lines.result c.in_ok-values.values.items c.in_ok-places.places
          c.new-2.result lines values
          (c.in_ok-places.ensures ∙ ap (λ (vs : List Value). map (renumbered found) vs) c.as_slice-3.ensures.value)
          (c.new-2.ensures.roots ∙ c.in_ok-name_values.ensures
          ∙ ap (λ (vs : List Value). map (named_root names vs) (range_with_len 0 (length names))) c.as_slice-4.ensures)
          (c.new-2.ensures.nodes ∙ c.from_vec.ensures ∙ walked.nodes);
      free = walked.free ∙ ap (λ (ls : List ℕ). free_line words ls) (sym lines);
    }

pub returns-in_err-values-clause-bad : goal.returns-in_err-values-clause-bad
returns-in_err-values-clause-bad g c words so =
    let size = c.args.memory.now.size in
    let directory = directory_with c.args.shapes.now c.args.roots.now in
    err_is c.from_residual.result c.in_err-values.field-0.0 (IsFaultOf (graph_from size directory words)) c.from_residual.ensures.1
    (fails_at_roots size directory words c.in_err-values.field-0.0 (c.in_err-values.ensures.bad words so))

pub returns-in_err-walked-clause-bad : goal.returns-in_err-walked-clause-bad
returns-in_err-walked-clause-bad g c words so =
    let size = c.args.memory.now.size in
    let shapes = c.args.shapes.now in
    let names = c.args.roots.now in
    let directory = directory_with shapes names in
    let bytes : c.read_roots.new.memory.size ≡ size = c.in_ok-values.ensures.looks.changes.size in
    let now = c.in_ok-values.ensures.looks.keeps words so in
    let values : c.in_ok-values.values.items ≡ root_values_of words (length names) = c.in_ok-values.ensures.values words so c.requires.roots in
    let begins : c.add_each.new.self.numbers ≡ with_new [] (root_values_of words (length names)) =
    c.in_ok-add_each.ensures.added ∙ ap (λ (ls : List ℕ). with_new ls c.as_slice.result.now) c.in_ok-found.ensures.none
    ∙ ap (with_new []) (c.as_slice.ensures.value ∙ values) in
    let same : c.as_slice-2.result.now ≡ shapes = c.as_slice-2.ensures.value ∙ c.in_ok-shared.ensures.same in
    let seen = rw same at (c.in_err-walked.ensures.bad words (root_values_of words (length names)) now begins) in
    err_is c.from_residual-in_err-walked.result c.in_err-walked.field-0.0 (IsFaultOf (graph_from size directory words))
    c.from_residual-in_err-walked.ensures.1
    (fails_at_walk size directory words c.in_err-walked.field-0.0 (c.in_ok-values.ensures.passes words so) (rw bytes at seen))

pub returns-in_err-walked-clause-looks : goal.returns-in_err-walked-clause-looks
returns-in_err-walked-clause-looks g c =
    looks_more c.args.memory.now c.read_roots.new.memory c.walk_objects.new.memory c.read_roots.ensures.looks c.walk_objects.ensures.looks

pub returns-in_err-places-clause-looks : goal.returns-in_err-places-clause-looks
returns-in_err-places-clause-looks g c =
    looks_more c.args.memory.now c.read_roots.new.memory c.walk_objects.new.memory c.read_roots.ensures.looks c.walk_objects.ensures.looks

pub returns-in_err-name_values-clause-looks : goal.returns-in_err-name_values-clause-looks
returns-in_err-name_values-clause-looks g c =
    looks_more c.args.memory.now c.read_roots.new.memory c.walk_objects.new.memory c.read_roots.ensures.looks c.walk_objects.ensures.looks

pub returns-clause-looks : goal.returns-clause-looks
returns-clause-looks g c =
    looks_more c.args.memory.now c.read_roots.new.memory c.walk_objects.new.memory c.read_roots.ensures.looks c.walk_objects.ensures.looks
