-- Images that stand for a graph: what is found in them, and with one more entry.
use Rattle.std.proofs.Common.{◌≡◌, ◌≢◌, inl, inr, ℕ, ◌+◌, ◌<◌, ◌≤◌, ◌&&◌, true, false, nat_le, List, [], ◌∷◌, length, map, None}
use Rattle.std.proofs.Common.{Result, Ok, refl, sym, ◌∙◌, ap, subst, arith, slice_index_or}
use Rattle.std.specs.List.{range_with_len}
use Rattle.std.proofs.lemmas.Bool.{cases_eq, ne_eqb, le-leb}
use Rattle.std.proofs.lemmas.List.{get_or-map, get_or_past, length-map}
use Rattle.std.proofs.lemmas.List.FromFn.{length-map-range_with_len, get_or-map-range_with_len}
use Rattle.graph_model.specs.declared.types.Value.TheVariants.{Null}
use Rattle.graph_model.specs.declared.types.Obj.{Obj}
use Rattle.graph_model.specs.declared.types.Root.{Root}
use Rattle.graph_model.specs.declared.types.NamedValue.{NamedValue}
use Rattle.graph_model.specs.declared.types.Node.{Node}
use Rattle.graph_model.specs.declared.types.Heap.{Heap}
use Rattle.graph_model.specs.declared.types.Graph.{Graph}
use Rattle.graph_model.specs.Heaps.{no_shape, no_object}
use Rattle.graph_model.specs.Canon.{found_from, canon_of}
use Rattle.graph_model.proofs.FoundAfter.{found_after-past}
use Rattle.image_layout.specs.Places.{min_lines, max_lines, directory_words, log_entries, slot_line, slot_word, directory_line}
use Rattle.image_layout.specs.Places.{directory_word, log_head_line, log_entry_line, log_entry_word, object_line, object_word}
use Rattle.image_meaning.specs.Checks.{Words, Bad, ◌>>=◌}
use Rattle.image_meaning.specs.Entries.{DirectoryEntry, ShapeEntry, RootEntry, IsEntry}
use Rattle.image_meaning.specs.Directories.{Directory, directory_of, is_refused, with_entry}
use Rattle.image_meaning.specs.Logs.{log_count, put_back, SameLogs}
use Rattle.image_meaning.specs.Meaning.{roots_fault, root_values_of, walk, graph_found, graph_from, empty_graph, meaning}
use Rattle.image_meaning.specs.Meaning.{StandsFor}
use Rattle.image_meaning.specs.Corresponds.{Corresponds, SameWords}
use Rattle.image_meaning.specs.Laws.{Opens, SameFront}
use Rattle.image_meaning.specs.Opening.{no_node, graph_node, HoldsGraph, found_at, Finds, FoundImage}
use Rattle.image_meaning.specs.Appending.{AddsEntry, with_root, with_null_root, SameBehind, with_entry_too}
use Rattle.image_meaning.proofs.Ranges.{get_or_any, mapped_alike}
use Rattle.image_meaning.proofs.Changes.{corresponds-same}
use Rattle.image_meaning.proofs.Opened.{stands, stands-same, put_back-agrees}
use Rattle.image_meaning.proofs.Standing.{after_ok, bind_ok, opens-standing, standing-sized, use-within}
use Rattle.image_meaning.proofs.Order.{blank-stands}
use Rattle.image_meaning.proofs.Places.{log_passes}
use Rattle.image_meaning.proofs.Stopped.{logs_pass}
use Rattle.image_meaning.proofs.FoundImage.{directory-few, corresponds-found}
use Rattle.image_meaning.proofs.Appending.{opens-more, corresponds-more_shapes, corresponds-more_roots, canon-more_roots}

-- ---- what is found

found_from_graph : (size : ℕ) (words : Words) (directory : Directory) (graph : Graph) → graph_from size directory words ≡ Ok graph
    → (roots_fault size words (length directory.roots) ≡ None) × (lines : List ℕ)
    × (walk directory.shapes size words (root_values_of words (length directory.roots)) size ≡ Ok lines)
    × (graph_found directory words lines ≡ graph)
unfolding graph_from
found_from_graph size words directory graph h =
    let walked = walk directory.shapes size words (root_values_of words (length directory.roots)) size in
    let a = after_ok (roots_fault size words (length directory.roots)) (walked >>= λ found. Ok (graph_found directory words found)) graph h in
    let b = bind_ok walked (λ found. Ok (graph_found directory words found)) graph a.1 in
    let e : graph_found directory words b.0 ≡ graph = (let f = b.2 in cc) in
    (a.0, b.0, b.1, e)

pub standing-found : (size : ℕ) (words : Words) (graph : Graph) → words 0 0 ≢ 0 → StandsFor size words graph → FoundImage size words graph
standing-found size words graph used stand =
    let o = opens-standing size words graph used stand in
    let f = found_from_graph size (put_back words) o.0 graph o.2 in
    record {
      directory = o.0;
      lines = f.1;
      finds = record { opens = o.1; roots = f.0; walk = f.2 };
      gives = f.3;
      corresponds = λ heap holds.
          corresponds-found size (put_back words) o.0 f.1 (directory-few words o.0 o.1.entries) f.0 f.2 heap
          (subst (λ g. HoldsGraph heap g) (sym f.3) holds);
    }

pub found-stands : (size : ℕ) (words : Words) (directory : Directory) (lines : List ℕ) → Finds size words directory lines
    → StandsFor size words (graph_found directory (put_back words) lines)
unfolding meaning graph_from
found-stands size words directory lines finds =
    let opens = finds.opens in
    rw (opens.super, ne_eqb (words 0 0) 0 opens.used, opens.entries, opens.logs, finds.roots, finds.walk) refl

ok_same : {A : Type 0} (r : Result A Bad) (x y : A) → r ≡ Ok x → r ≡ Ok y → x ≡ y
ok_same {A} r x y a b = let left : Result A Bad = Ok x in let e : left ≡ Ok y = sym a ∙ b in cc

-- ---- the graph is canonical

nothing_found : (heap : Heap) → found_from heap [] ≡ []
unfolding found_from
nothing_found heap = found_after-past heap [] 0 (omega arith) (length heap.objects) (omega arith)

no_roots : (roots : List Root) → map (λ (root : Root). root.name) roots ≡ [] → roots ≡ []
no_roots [] h = refl
no_roots (root ∷ roots) h = absurd (cc)

canon-empty : (heap : Heap) → HoldsGraph heap empty_graph → canon_of heap ≡ empty_graph
unfolding canon_of
canon-empty heap holds = rw (holds.values, nothing_found heap, no_roots heap.roots holds.names) refl

-- the graph for which an image stands is that of each heap that holds it
pub canon-standing : (size : ℕ) (words : Words) (graph : Graph) (heap : Heap) → StandsFor size words graph → HoldsGraph heap graph
    → canon_of heap ≡ graph
canon-standing size words graph heap stand holds = elim (cases_eq (words 0 0) 0) [
  | inl zero ↦ (
      let empty : empty_graph ≡ graph = ok_same (meaning size words) empty_graph graph (blank-stands size words (standing-sized size words graph stand, zero)) stand in
      subst (λ g. canon_of heap ≡ g) empty (canon-empty heap (subst (λ g. HoldsGraph heap g) (sym empty) holds)))
  | inr used ↦ (
      let f = standing-found size words graph used stand in
      ok_same (meaning size words) (canon_of heap) graph
      (stands (found_at f.lines) size words f.directory heap f.finds.opens (f.corresponds heap holds)) stand)
]

-- ---- a heap that holds a graph

no_root : NamedValue
no_root = record { name = []; value = Null }

root_of_graph : Graph → ℕ → Root
root_of_graph graph r = record { name = (slice_index_or graph.roots r no_root).name; at = r }

object_of_graph : Graph → ℕ → Obj
object_of_graph graph n = record { shape = n; values = (graph_node graph n).values }

heap_of : Graph → Heap
heap_of graph = record {
  shapes = map (λ (node : Node). node.shape) graph.nodes;
  objects = map (object_of_graph graph) (range_with_len 0 (length graph.nodes));
  statics = map (λ (root : NamedValue). root.value) graph.roots;
  roots = map (root_of_graph graph) (range_with_len 0 (length graph.roots));
}

map_twice : {A B C : Type 0} (f : B → C) (g : A → B) (xs : List A) → map f (map g xs) ≡ map (λ x. f (g x)) xs
map_twice f g [] = refl
map_twice f g (x ∷ xs) = ap (λ rest. f (g x) ∷ rest) (map_twice f g xs)

heap_holds : (graph : Graph) → HoldsGraph (heap_of graph) graph
unfolding heap_of object_of_graph root_of_graph
heap_holds graph =
    let count : length (map (object_of_graph graph) (range_with_len 0 (length graph.nodes))) ≡ length graph.nodes =
    length-map-range_with_len (object_of_graph graph) 0 (length graph.nodes) in
    let object : (n : ℕ) → n < length graph.nodes
    → slice_index_or (map (object_of_graph graph) (range_with_len 0 (length graph.nodes))) n no_object ≡ object_of_graph graph n =
    λ n h. get_or-map-range_with_len (object_of_graph graph) 0 (length graph.nodes) n n no_object h (omega arith) in
    record {
      names =
          map_twice (λ (root : Root). root.name) (root_of_graph graph) (range_with_len 0 (length graph.roots))
          ∙ mapped_alike (λ r. (root_of_graph graph r).name) (λ (root : NamedValue). root.name) 0 graph.roots
          (λ j d h. let e : 0 + j ≡ j = omega arith in
          rw e (ap (λ (root : NamedValue). root.name) (get_or_any graph.roots j no_root d h)));
      values =
          map_twice (λ (root : Root). slice_index_or (heap_of graph).statics root.at Null) (root_of_graph graph) (range_with_len 0 (length graph.roots))
          ∙ mapped_alike (λ r. slice_index_or (map (λ (root : NamedValue). root.value) graph.roots) r Null) (λ (root : NamedValue). root.value) 0 graph.roots
          (λ j d h. let e : 0 + j ≡ j = omega arith in
          rw e (get_or-map (λ (root : NamedValue). root.value) graph.roots j d Null h));
      many = omega (arith, count);
      shapes = λ n h.
          ap (λ (o : Obj). slice_index_or (map (λ (node : Node). node.shape) graph.nodes) o.shape no_shape) (object n h)
          ∙ get_or-map (λ (node : Node). node.shape) graph.nodes n no_node no_shape h;
      slots = λ n h. ap (λ (o : Obj). o.values) (object n h);
    }

no_static : (graph : Graph) → slice_index_or (heap_of graph).statics (length graph.roots) Null ≡ Null
unfolding heap_of
no_static graph =
    let count = length-map graph.roots (λ (root : NamedValue). root.value) in
    get_or_past (map (λ (root : NamedValue). root.value) graph.roots) (length graph.roots) Null (omega (arith, count))

-- ---- one more entry

-- an image corresponds to a heap of its graph
heap_found : (size : ℕ) (c : Words) (directory : Directory) (graph : Graph) → Opens size c directory → StandsFor size c graph
    → (lines : List ℕ) × Corresponds (found_at lines) directory size (put_back c) (heap_of graph) × (canon_of (heap_of graph) ≡ graph)
heap_found size c directory graph opens stand =
    let f = standing-found size c graph opens.used stand in
    let here : f.directory ≡ directory = ok_same (directory_of c) f.directory directory f.finds.opens.entries opens.entries in
    let k = f.corresponds (heap_of graph) (heap_holds graph) in
    let there : Corresponds (found_at f.lines) directory size (put_back c) (heap_of graph) =
    subst (λ d. Corresponds (found_at f.lines) d size (put_back c) (heap_of graph)) here k in
    (f.lines, there, canon-standing size c graph (heap_of graph) stand (heap_holds graph))

-- the same of words that agree behind the directory
heap_kept : (size : ℕ) (c d : Words) (directory : Directory) (graph : Graph) (lines : List ℕ)
    → Corresponds (found_at lines) directory size (put_back c) (heap_of graph) → SameLogs c d → SameBehind c d
    → Corresponds (found_at lines) directory size (put_back d) (heap_of graph)
heap_kept size c d directory graph lines k logs same =
    let heap = heap_of graph in
    let words : SameWords (found_at lines) heap c d = record {
      heads = λ line n r. same.objects line 0 (k.objects line n r).low;
      slots = λ line n r i h kept. let low = (k.objects line n r).low in same.objects (object_line line i) (object_word i) (omega (arith, low));
      at_roots = same.roots;
    } in
    corresponds-same (found_at lines) directory size (put_back c) (put_back d) heap k
    (put_back-agrees (found_at lines) directory size c d heap logs k words)

pub added-stands : (size : ℕ) (c d : Words) (directory : Directory) (entry : DirectoryEntry) (graph : Graph) → Opens size c directory
    → StandsFor size c graph → IsEntry entry → is_refused directory entry ≡ false → AddsEntry c d entry → SameLogs c d → SameBehind c d
    → StandsFor size d (with_entry_too graph entry)
added-stands size c d directory (ShapeEntry shape) graph opens stand is accepted adds logs same =
    let found = heap_found size c directory graph opens stand in
    let kept = heap_kept size c d directory graph found.0 found.1 logs same in
    let more = corresponds-more_shapes (found_at found.0) directory size (put_back d) (heap_of graph) shape kept in
    let opened = opens-more size c d directory (ShapeEntry shape) opens is accepted adds logs in
    subst (λ g. StandsFor size d g) found.2
    (stands (found_at found.0) size d (with_entry directory (ShapeEntry shape)) (heap_of graph) opened more)
added-stands size c d directory (RootEntry name) graph opens stand is accepted adds logs same =
    let found = heap_found size c directory graph opens stand in
    let kept = heap_kept size c d directory graph found.0 found.1 logs same in
    let static = length graph.roots in
    let more = corresponds-more_roots (found_at found.0) directory size (put_back d) (heap_of graph) name static kept accepted (no_static graph) in
    let opened = opens-more size c d directory (RootEntry name) opens is accepted adds logs in
    subst (λ g. StandsFor size d g) (canon-more_roots (heap_of graph) name static (no_static graph) ∙ ap (λ g. with_null_root g name) found.2)
    (stands (found_at found.0) size d (with_entry directory (RootEntry name)) (with_root (heap_of graph) name static) opened more)

-- ---- the lines of an image

-- what an image stands for, the words of its lines tell
pub stands-within : (size : ℕ) (c d : Words) (graph : Graph) → min_lines ≤ size → size ≤ max_lines → StandsFor size c graph
    → ((line word : ℕ) → line < size → d line word ≡ c line word) → StandsFor size d graph
stands-within size c d graph enough most stand same = elim (cases_eq (c 0 0) 0) [
  | inl zero ↦ (
      let range : (nat_le min_lines size && nat_le size max_lines) ≡ true = rw (le-leb min_lines size enough, le-leb size max_lines most) refl in
      let first : d 0 0 ≡ 0 = same 0 0 (omega (arith, enough)) ∙ zero in
      subst (λ g. StandsFor size d g) (ok_same (meaning size c) empty_graph graph (blank-stands size c (range, zero)) stand)
      (blank-stands size d (range, first)))
  | inr used ↦ (
      let o = opens-standing size c graph used stand in
      let opens = o.1 in
      let found = heap_found size c o.0 graph opens stand in
      let k = found.1 in
      let most_words : c 0 3 ≤ directory_words = use-within size (c 0) used opens.super in
      let front : SameFront c d = record {
        super = λ word h. same 0 word (omega (arith, enough));
        directory = λ i h. same (directory_line i) (directory_word i) (omega (arith, enough, h, most_words));
      } in
      let logs_same : SameLogs c d = record {
        counts = λ t h. same (log_head_line t) 0 (omega (arith, enough, h));
        entries = λ t n h below.
            let few : log_count c t ≤ log_entries = (log_passes size c t (logs_pass size c opens.logs t h)).0 in
            let inside : log_entry_line t n < size = omega (arith, enough, h, below, few) in
            rw (same (log_entry_line t n) (log_entry_word n) inside, same (log_entry_line t n) (log_entry_word n + 1) inside) refl;
      } in
      let words : SameWords (found_at found.0) (heap_of graph) c d = record {
        heads = λ line n r. let high = (k.objects line n r).high in same line 0 (omega (arith, high));
        slots = λ line n r i h kept. let high = (k.objects line n r).high in same (object_line line i) (object_word i) (omega (arith, high, h));
        at_roots = λ r h. same (slot_line r) (slot_word r) (omega (arith, enough, h));
      } in
      subst (λ g. StandsFor size d g) found.2
      (stands-same (found_at found.0) size c d o.0 (heap_of graph) opens k front logs_same words))
]
