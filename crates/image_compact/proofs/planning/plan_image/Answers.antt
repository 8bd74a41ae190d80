use Rattle.std.proofs.Common.{◌≡◌, ◌∙◌, ◌++◌, ℕ, List, None, length, map, ap, sym, subst, arith}
use Rattle.std.specs.Prelude.{All}
use Rattle.graph_model.specs.declared.types.Node.{Node}
use Rattle.graph_model.specs.declared.types.NamedValue.{NamedValue}
use Rattle.graph_model.specs.Heaps.{IsBelow}
use Rattle.image_meaning.specs.Entries.{ShapeEntry}
use Rattle.image_meaning.specs.Directories.{spelled_all}
use Rattle.dense_image.specs.Graphs.{root_entry}
use Rattle.dense_image.specs.Written.{shapes_of, entries_of, lines_taken, wanting}
use Rattle.image_compact.specs.Planning.{Spell, ArePlaces, AreNumbers, root_word_by}
use Rattle.image_compact.proofs.Plans.{room_of, roots_below, slots_are, spell_of, none_of}
use Rattle.image_compact.proofs.planning.plan_image.Goals as goal

pub place_nodes-requires : goal.place_nodes-requires
place_nodes-requires c =
    let nodes : c.nodes-nodes.result.now ≡ c.args.graph.now.nodes = c.nodes-nodes.ensures.same in
    let spell = c.in_ok-add_roots.ensures (map ShapeEntry (shapes_of c.nodes-nodes.result.now)) c.in_ok-numbered.ensures.words in
    let none = c.in_ok-check_room.ensures.fits (length (spelled_all (map ShapeEntry (shapes_of c.nodes-nodes.result.now) ++ map root_entry c.roots-roots.result.now)))
    (lines_taken c.nodes-nodes.result.now) spell.need c.count_lines.ensures in
    omega (arith, (room_of c.args.size _ (lines_taken c.nodes-nodes.result.now) c.requires.enough none).1, c.requires.most)

pub slot_words-requires : goal.slot_words-requires
slot_words-requires c =
    let lines = c.in_ok-lines.lines.items in
    let places : ArePlaces c.args.graph.now.nodes lines =
    subst (λ (ns : List Node). ArePlaces ns lines) c.nodes-nodes.ensures.same c.in_ok-lines.ensures in
    subst (λ (rs : List NamedValue). All (λ (root : NamedValue). IsBelow (length c.as_slice.result.now) root.value) rs)
    (sym c.roots-roots.ensures.same)
    (subst (λ (ls : List ℕ). All (λ (root : NamedValue). IsBelow (length ls) root.value) c.args.graph.now.roots)
    (sym c.as_slice.ensures.value) (roots_below c.args.graph.now lines places c.requires.graph))

pub returns-clause-plan : goal.returns-clause-plan
returns-clause-plan c =
    let graph = c.args.graph.now in
    let ns = c.nodes-nodes.result.now in
    let rs = c.roots-roots.result.now in
    let nodes : ns ≡ graph.nodes = c.nodes-nodes.ensures.same in
    let roots : rs ≡ graph.roots = c.roots-roots.ensures.same in
    let lines = c.in_ok-lines.lines.items in
    let spell_first = c.in_ok-add_roots.ensures (map ShapeEntry (shapes_of ns)) c.in_ok-numbered.ensures.words in
    let none_first = c.in_ok-check_room.ensures.fits (length (spelled_all (map ShapeEntry (shapes_of ns) ++ map root_entry rs)))
    (lines_taken ns) spell_first.need c.count_lines.ensures in
    let spell : Spell (entries_of graph) c.add_roots.new.words = spell_of graph ns rs nodes roots c.add_roots.new.words spell_first in
    let none = none_of graph ns rs nodes roots c.args.size none_first in
    let room = room_of c.args.size (length (spelled_all (entries_of graph))) (lines_taken graph.nodes) c.requires.enough none in
    let places : ArePlaces graph.nodes lines = subst (λ (all : List Node). ArePlaces all lines) nodes c.in_ok-lines.ensures in
    let words : c.add_roots.new.words.words.items ≡ spelled_all (entries_of graph) =
    spell.words (omega (arith, spell.need, room.0)) in
    record {
      room = record { directory = room.0; objects = room.1 };
      slots = c.in_ok-slots.ensures
          ∙ ap (λ (all : List NamedValue). map (root_word_by c.as_slice.result.now) all) roots
          ∙ ap (λ (ls : List ℕ). map (root_word_by ls) graph.roots) c.as_slice.ensures.value
          ∙ slots_are graph lines places c.requires.graph;
      words = rw c.into_words.ensures words;
      numbers = subst (λ (all : List Node). AreNumbers all c.in_ok-numbered.numbered.numbers.items) nodes c.in_ok-numbered.ensures.numbers;
      lines = places;
    }
