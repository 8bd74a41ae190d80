-- A run that begins over an image.
use Rattle.std.proofs.Common.{◌+◌, ◌*◌, ◌≤◌, ◌^◌, ne_eqb, ◌≡◌, ◌≢◌, ⊎_elim, ℕ, zero, suc, ◌<◌, true, List, [], Some, length}
use Rattle.std.proofs.Common.{map, refl, sym, ◌∙◌, ap, subst, arith, get_or, slice_index}
use Rattle.std.specs.List.{range_with_len, All}
use Rattle.std.proofs.lemmas.List.FromFn.{get_or-map-range_with_len, length-map-range_with_len}
use Rattle.std.proofs.lemmas.List.Elements.{All-nil, All-from_get_or}
use Rattle.std.proofs.lemmas.Bool.{cases_lt}
use Rattle.std.proofs.Math.ListN.{get_or-eq_default}
use Rattle.line_image.specs.Told.{IsCounted}
use Rattle.ap_base.specs.declared.place.Place.TheVariants.{Static}
use Rattle.stop_theorem.specs.Layouts.{Layout}
use Rattle.stop_theorem.specs.Conditions.{StoresAt}
use Rattle.stop_theorem.proofs.Fenced.{lines_may_be_fenced}
use Rattle.stop_theorem.proofs.Given.{fenced_stores}
use Rattle.graph_model.specs.declared.types.Value.TheVariants.{Null, Obj as Object}
use Rattle.graph_model.specs.declared.types.Graph.{Graph}
use Rattle.graph_model.specs.Canon.{canon_of, found_from}
use Rattle.graph_model.specs.Heaps.{shape_at, object_at, values_of}
use Rattle.line_memory.specs.Memory.{Memory, line_shown, shown, IsDurable, IsTelling}
use Rattle.line_memory.specs.Moments.{CountsFrom}
use Rattle.image_layout.specs.Places.{magic, log_head_line, slot_line, slot_word, directory_line, directory_word, object_line}
use Rattle.image_layout.specs.Places.{object_word}
use Rattle.image_meaning.specs.Checks.{Words}
use Rattle.image_meaning.specs.Logs.{NoneLogged, SameLogs}
use Rattle.image_meaning.specs.Corresponds.{SameWords, root_static}
use Rattle.image_meaning.specs.Laws.{SameFront}
use Rattle.image_meaning.specs.Meaning.{StandsFor}
use Rattle.image_meaning.specs.Opening.{HoldsGraph, graph_node}
use Rattle.image_meaning.proofs.Opened.{stands-same}
use Rattle.stop_theorem.specs.Layouts.{HasRootSlots, root_number}
use Rattle.run_history.specs.Knowing.{is_root}
use Rattle.plain_model.specs.First.{numbers_to}
use Rattle.stop_theorem.specs.Running.{at_start, Runs}
use Rattle.stop_theorem.specs.WrongOrders.{nodes_known}
use Rattle.stop_theorem.specs.Given.{RunBegins, OneStoreIsFenced}
use Rattle.stop_theorem.proofs.Found.{starts_found}
use Rattle.stop_theorem.proofs.Running.{run_starts}
use Rattle.stop_theorem.proofs.Images.{R, words, where_lies, front_directory, opens, corresponds_back, unlogged}

-- the words of an image of 32,768 lines as lines
unfoldable pub all_lines : Words → List (List ℕ)
all_lines c = map (λ l. map (c l) (range_with_len 0 8)) (range_with_len 0 32768)

abbrev pub node_words : Words
node_words = words (Object 0) 5 6 7 Null (Object 2) Null refl (refl, refl) (refl, refl)
    (refl, refl) refl refl refl

unfoldable pub memory : Memory
memory = record {
  lines = all_lines node_words;
  size = 32768;
  calls = 0;
  faults = 0;
  image = record {
    size = 32768;
    calls = 0;
    trace = Some
        (record { first = all_lines node_words; done = [] });
  };
}

shows_words : (l w : ℕ) → l < 32768 → w < 8 → shown memory l w ≡ node_words l w
unfolding line_shown all_lines memory
shows_words l w below small =
    ap (λ line. slice_index line w)
    (get_or-map-range_with_len (λ k. map (node_words k) (range_with_len 0 8)) 0 32768 l l [] below
    (omega arith))
    ∙ get_or-map-range_with_len (node_words l) 0 8 w w 0 small (omega arith)

durable : (l w : ℕ) → IsDurable memory l w
unfolding line_shown memory
durable l w v can = ⊎_elim (λ (is : v ≡ shown memory l w). is)
    (λ left. ⊎_elim (λ (is : v ≡ slice_index (get_or (all_lines node_words) l []) w). is)
    (λ no. absurd no) left) can

graph : Graph
graph = canon_of nodes_known.world.heap

one_node : length graph.nodes ≡ 1
unfolding graph canon_of found_from
one_node = refl

holds_graph : HoldsGraph nodes_known.world.heap graph
unfolding graph canon_of found_from
holds_graph = record { names = refl; values = refl; many = omega arith; shapes = shapes_at; slots = slots_in }
  where
    shapes_at : (n : ℕ) → n < 1 → shape_at nodes_known.world.heap
        (object_at nodes_known.world.heap n).shape ≡ (graph_node graph n).shape
    shapes_at zero below = refl
    shapes_at (suc n) below = absurd (omega (arith, below))

    slots_in : (n : ℕ) → n < 1 → values_of nodes_known.world.heap n ≡ (graph_node graph n).values
    slots_in zero below = refl
    slots_in (suc n) below = absurd (omega (arith, below))

root_slots_there : HasRootSlots nodes_known.world.heap
root_slots_there = record { numbers = numbers; statics = statics; roots = roots }
  where
    numbers : (r : ℕ) → r < 1 → root_number nodes_known.world.heap.roots
        (root_static nodes_known.world.heap r) ≡ r
    numbers zero below = refl
    numbers (suc r) below = absurd (omega (arith, below))

    statics : (r : ℕ) → r < 1 → root_static nodes_known.world.heap r < 1
    statics zero below = omega arith
    statics (suc r) below = absurd (omega (arith, below))

    roots : (r : ℕ) → r < 1 → is_root nodes_known.world.heap.roots
        (root_static nodes_known.world.heap r) ≡ true
    roots zero below = refl
    roots (suc r) below = absurd (omega (arith, below))

none_logged : NoneLogged (shown memory)
none_logged t below =
    shows_words (log_head_line t) 0 (omega (arith, below)) (omega arith)
    ∙ unlogged (Object 0) 5 6 7 Null (Object 2) Null refl (refl, refl) (refl, refl)
    (refl, refl) refl refl refl t below

unlogged_words : NoneLogged node_words
unlogged_words = unlogged (Object 0) 5 6 7 Null (Object 2) Null refl (refl, refl) (refl, refl)
    (refl, refl) refl refl refl

pub logs_same : SameLogs node_words (shown memory)
logs_same = record {
  counts = λ t below. none_logged t below ∙ sym (unlogged_words t below);
  entries = λ t n below before. (let none = unlogged_words t below in absurd (omega (arith, before, none)));
}

pub front_same : SameFront node_words (shown memory)
front_same = record {
  super = λ w small. shows_words 0 w (omega arith) (omega (arith, small));
  directory = λ i before. (let ten : i < 10 = before in
      shows_words (directory_line i) (directory_word i) (omega (arith, ten)) (omega arith));
}

pub words_same : SameWords R nodes_known.world.heap node_words (shown memory)
words_same = record {
  heads = λ line n x. (let at = where_lies line n x in
      shows_words line 0 (omega (arith, at.0, at.1)) (omega arith));
  slots = λ line n x i below kept. (let at = where_lies line n x in
      let two = slots_two n at.0 in
      shows_words (object_line line i) (object_word i) (omega (arith, at.0, at.1, below, two)) (omega arith));
  at_roots = λ r below. shows_words (slot_line r) (slot_word r) (omega (arith, below)) (omega arith);
}
  where
    slots_two : (n : ℕ) → n < 3 → length (values_of nodes_known.world.heap n) ≡ 2
    slots_two zero below = refl
    slots_two (suc zero) below = refl
    slots_two (suc (suc zero)) below = refl
    slots_two (suc (suc (suc n))) below = absurd (omega (arith, below))

stands_now : StandsFor 32768 (shown memory) graph
unfolding graph
stands_now = stands-same R 32768 node_words (shown memory) front_directory nodes_known.world.heap
    (opens (Object 0) 5 6 7 Null (Object 2) Null refl (refl, refl) (refl, refl) (refl, refl) refl refl refl)
    (corresponds_back (Object 0) 5 6 7 Null (Object 2) Null refl (refl, refl) (refl, refl)
    (refl, refl) refl refl refl)
    front_same logs_same words_same

used : shown memory 0 0 ≢ 0
used e = (let no : magic ≡ 0 = sym (shows_words 0 0 (omega arith) (omega arith)) ∙ e in
    absurd (omega (arith, no)))

pub size_is : memory.size ≡ 32768
unfolding memory
size_is = refl

tells : IsTelling memory.image.trace
unfolding memory
tells = tt

counts : CountsFrom 0 memory
unfolding memory
counts = refl

durables : nodes_known.durable ≡ numbers_to (length graph.nodes)
durables = ap numbers_to (sym one_node)

pub begun : (lay : Layout) × Runs nodes_known 32768 lay.directory 0 memory (at_start lay memory)
begun =
    let found = starts_found nodes_known memory graph refl durables holds_graph root_slots_there
    (omega (arith, size_is)) used
    (subst (λ k. StandsFor k (shown memory) graph) (sym size_is) stands_now) none_logged
    (λ l w below outside. durable l w) (λ t below. durable (log_head_line t) 0) in (
      found.0,
      subst (λ k. Runs nodes_known k found.0.directory 0 memory (at_start found.0 memory)) (found.1 ∙ size_is)
          (run_starts nodes_known found.0 0 memory found.2 tells counts),
    )

pub run_begins : RunBegins
run_begins = record { layout = begun.0; memory = memory; runs = begun.1 }

-- ---- one store

abbrev null_words : Words
null_words = words Null 5 6 7 Null (Object 2) Null refl (refl, refl) (refl, refl) (refl, refl) refl refl refl

-- the memory where the root is null
stored : Memory
stored = record memory { lines = all_lines null_words }

one_word : (l w : ℕ) → w < 8 → (l ≡ 1 → w ≢ 0) → null_words l w ≡ node_words l w
one_word l w small isnt = rw (ne_eqb (8 * l + w) 8
    (λ e. isnt (omega (arith, e, small)) (omega (arith, e, small)))) refl

one_row : (l w : ℕ) → (l ≡ 1 → w ≢ 0)
    → slice_index (map (null_words l) (range_with_len 0 8)) w ≡ slice_index
    (map (node_words l) (range_with_len 0 8)) w
one_row l w isnt = ⊎_elim
    (λ (small : w < 8).
    get_or-map-range_with_len (null_words l) 0 8 w w 0 small (omega arith)
    ∙ one_word l w small isnt
    ∙ sym (get_or-map-range_with_len (node_words l) 0 8 w w 0 small (omega arith)))
    (λ (past : 8 ≤ w). past_row null_words past ∙ sym (past_row node_words past))
    (cases_lt w 8)
  where
    past_row : (c : Words) → 8 ≤ w → slice_index (map (c l) (range_with_len 0 8)) w ≡ 0
    past_row c past = get_or-eq_default (map (c l) (range_with_len 0 8)) 0
        (subst (λ n. n ≤ w) (sym (length-map-range_with_len (c l) 0 8)) past)

other_words : (l w : ℕ) → (l ≡ 1 → w ≢ 0) → shown stored l w ≡ shown memory l w
unfolding line_shown all_lines memory stored
other_words l w isnt = ⊎_elim
    (λ (below : l < 32768).
    ap (λ line. slice_index line w) (row null_words below) ∙ one_row l w isnt
    ∙ sym (ap (λ line. slice_index line w) (row node_words below)))
    (λ (past : 32768 ≤ l).
    ap (λ line. slice_index line w) (past_line null_words past)
    ∙ sym (ap (λ line. slice_index line w) (past_line node_words past)))
    (cases_lt l 32768)
  where
    row : (c : Words) → l < 32768
        → get_or (map (λ k. map (c k) (range_with_len 0 8)) (range_with_len 0 32768)) l [] ≡ map (c l)
        (range_with_len 0 8)
    row c below = get_or-map-range_with_len (λ k. map (c k) (range_with_len 0 8)) 0 32768 l l [] below
        (omega arith)

    past_line : (c : Words) → 32768 ≤ l
        → get_or (map (λ k. map (c k) (range_with_len 0 8)) (range_with_len 0 32768)) l [] ≡ []
    past_line c past = get_or-eq_default (map (λ k. map (c k) (range_with_len 0 8))
        (range_with_len 0 32768)) []
        (subst (λ n. n ≤ l) (sym (length-map-range_with_len
        (λ k. map (c k) (range_with_len 0 8)) 0 32768)) past)

null_there : shown stored 1 0 ≡ 0
unfolding line_shown all_lines memory stored
null_there = ap (λ line. slice_index line 0)
    (get_or-map-range_with_len (λ k. map (null_words k) (range_with_len 0 8)) 0 32768 1 1 [] (omega arith)
    (omega arith))
    ∙ get_or-map-range_with_len (null_words 1) 0 8 0 0 0 (omega arith) (omega arith)

root_stored : (lay : Layout) → StoresAt nodes_known lay memory stored (Static 0) Null 0
unfolding memory stored
root_stored lay = record {
  puts = record {
    size = refl;
    same = record { calls = refl; image = refl; faults = refl };
    here = null_there;
    others = other_words;
  };
  inside = omega arith;
  is_kept = refl;
  holds = refl;
}

all_eights : (c : Words) → All (λ (line : List ℕ). length line ≡ 8) (all_lines c)
unfolding all_lines
all_eights c = All-from_get_or (λ (line : List ℕ). length line ≡ 8)
    (map (λ k. map (c k) (range_with_len 0 8)) (range_with_len 0 32768)) []
    (λ i below.
    let inside : i < 32768 = subst (λ n. i < n)
    (length-map-range_with_len (λ k. map (c k) (range_with_len 0 8)) 0 32768) below in
    ap (λ (line : List ℕ). length line) (get_or-map-range_with_len
    (λ k. map (c k) (range_with_len 0 8)) 0 32768 i i [] inside (omega arith))
    ∙ length-map-range_with_len (c i) 0 8)

pub counted : IsCounted memory.image
unfolding memory all_lines
counted = record {
  fits = omega arith;
  order = record {
    lines = length-map-range_with_len (λ k. map (node_words k) (range_with_len 0 8)) 0 32768;
    eights = all_eights node_words;
    so_far = All-nil (λ e. e.at ≤ 0);
  };
}

pub small : memory.calls < 2 ^ 64
unfolding memory
small = omega arith

stored_counted : IsCounted stored.image
unfolding stored
stored_counted = counted

stored_small : stored.calls < 2 ^ 64
unfolding stored
stored_small = small

pub one_store : OneStoreIsFenced
unfolding run_begins
one_store =
    let start = at_start run_begins.layout run_begins.memory in
    let fences = lines_may_be_fenced stored 1 stored_counted stored_small in
    record {
      state = start;
      stored = stored;
      fenced = fences.0;
      nothing_yet = refl;
      runs = run_begins.runs;
      other_word = λ e. (let no : 0 ≡ 41154 = sym null_there ∙ e
          ∙ shows_words 1 0 (omega arith) (omega arith) in absurd (omega (arith, no)));
      events = fenced_stores nodes_known start stored fences.0 0 (Static 0) Null 0
          (root_stored run_begins.layout)
          (record {
            single = record { owes_none = refl; fate = refl };
            unguarded = refl;
            waits_not =
                refl;
          }) fences.1;
    }
