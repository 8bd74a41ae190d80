-- What is planned of a graph.
use Rattle.std.proofs.Common.{◌≡◌, ◌⊎◌, inl, inr, ℕ, zero, suc, ◌+◌, ◌-◌, ◌*◌, ◌^◌, ◌<◌, ◌≤◌, Bool, true, false, List, [], ◌∷◌, ◌++◌}
use Rattle.std.proofs.Common.{length, map, take, min, refl, sym, ◌∙◌, ap, subst, arith, slice_index_or, Option, Some, None, append_assoc}
use Rattle.std.proofs.Common.{if◌then◌else◌, add-one, Ok, Err}
use Rattle.std.specs.Prelude.{Result, OnOk, IfOk}
use Rattle.std.specs.Prelude.{All, is_some, slice_set, ◌≢◌}
use Rattle.std.proofs.lemmas.Bool.{cases_lt, false≢true, lt-ltb, le-ltb}
use Rattle.std.proofs.lemmas.List.{append-nil, length-append, length-take, length-map, get_or-map, get_or-take, get_or_append_left}
use Rattle.std.proofs.lemmas.List.{get_or-append_right, take_all, get_or_past, get_or-set_same, get_or-set_other}
use Rattle.std.proofs.Math.Seq.{take-suc}
use Rattle.ap_base.specs.declared.kind.Kind.{Kind}
use Rattle.ap_base.specs.declared.kind.Kind.TheVariants.{Z, B, C, S, I, J, L, Text}
use Rattle.graph_model.specs.declared.types.Value.{Value}
use Rattle.graph_model.specs.declared.types.Value.TheVariants.{Int, Long, Null, Obj as Object}
use Rattle.graph_model.specs.declared.types.Shape.{Shape}
use Rattle.graph_model.specs.declared.types.Node.{Node}
use Rattle.graph_model.specs.declared.types.NamedValue.{NamedValue}
use Rattle.graph_model.specs.declared.types.Graph.{Graph}
use Rattle.graph_model.specs.Heaps.{IsBelow}
use Rattle.text_table.specs.Texts.{place_of, with_text}
use Rattle.text_table.proofs.Places.{place_from-kept}
use Rattle.run_types.specs.declared.fault.Full.{Full}
use Rattle.run_types.specs.declared.fault.Which.{Which}
use Rattle.run_types.specs.declared.fault.Which.TheVariants.{DirectoryWords, ImageLines}
use Rattle.image_layout.specs.Places.{min_lines, directory_words, first_object_line, lines_of, head_of}
use Rattle.image_meaning.specs.Entries.{DirectoryEntry, ShapeEntry, spelled}
use Rattle.image_meaning.specs.Directories.{has_name, spelled_all}
use Rattle.image_meaning.specs.Opening.{no_node, graph_node}
use Rattle.image_meaning.proofs.Ranges.{get_or_any}
use Rattle.dense_image.specs.Graphs.{IsReference, CanHold, IsNode, root_entry, root_value_of, CanBeStoodFor}
use Rattle.dense_image.specs.Written.{names_of, with_shape, with_shapes, shapes_of, shape_number_of, lines_taken, line_of_node, word_in}
use Rattle.dense_image.specs.Written.{root_words, unless_room, wanting, entries_of, no_room}
use Rattle.dense_image.proofs.Lines.{taken_next, taken_fewer, taken_all}
use Rattle.dense_image.proofs.Shapes.{is_placed, names_append}
use Rattle.image_meaning.specs.Logs.{or_else}
use Rattle.image_compact.specs.declared.entry_words.EntryWords.{EntryWords}
use Rattle.image_compact.specs.declared.shapes.Shapes.{Shapes}
use Rattle.image_compact.specs.Planning.{Spell, Lists, NumberIn, AreNumbersIn, AreNumbers, ArePlaces, word_by, root_word_by}

-- ---- the words of entries

pub spelled_more : (entries : List DirectoryEntry) (entry : DirectoryEntry)
    → spelled_all (entries ++ entry ∷ []) ≡ spelled_all entries ++ spelled entry
spelled_more [] entry = append-nil (spelled entry)
spelled_more (first ∷ entries) entry =
    ap (λ (words : List ℕ). spelled first ++ words) (spelled_more entries entry)
    ∙ sym (append_assoc (spelled first) (spelled_all entries) (spelled entry))

pub spell_more : (entries : List DirectoryEntry) (entry : DirectoryEntry) (old new : EntryWords) (n : ℕ) → Spell entries old
    → n ≡ min (length (spelled entry)) (2 ^ 64 - 1) → new.need ≡ min (old.need + n) (2 ^ 64 - 1)
    → (new.need ≤ directory_words → new.words.items ≡ old.words.items ++ spelled entry) → Spell (entries ++ entry ∷ []) new
spell_more entries entry old new n spell count need words =
    let longer : length (spelled_all (entries ++ entry ∷ [])) ≡ length (spelled_all entries) + length (spelled entry) =
    ap length (spelled_more entries entry) ∙ length-append (spelled_all entries) (spelled entry) in
    record {
      need = omega (arith, spell.need, count, need, longer);
      words = λ few.
          words few
          ∙ ap (λ (all : List ℕ). all ++ spelled entry) (spell.words (omega (arith, few, need)))
          ∙ sym (spelled_more entries entry);
    }

-- ---- shapes

next_one : (shapes : List Shape) (nodes : List Node) (i : ℕ) (node : Node) → i < length nodes → node ≡ slice_index_or nodes i node
    → with_shapes shapes (take (suc i) nodes) ≡ with_shape (with_shapes shapes (take i nodes)) node.shape
next_one shapes [] i node h is = absurd (omega (arith, h))
next_one shapes (first ∷ nodes) zero node h is = ap (λ (n : Node). with_shape shapes n.shape) (sym is)
next_one shapes (first ∷ nodes) (suc i) node h is = next_one (with_shape shapes first.shape) nodes i node (omega (arith, h)) is

pub next_shapes : (shapes : List Shape) (nodes : List Node) (i : ℕ) (node : Node) → i < length nodes → node ≡ slice_index_or nodes i node
    → with_shapes shapes (take (i + 1) nodes) ≡ with_shape (with_shapes shapes (take i nodes)) node.shape
next_shapes shapes nodes i node h is = ap (λ n. with_shapes shapes (take n nodes)) (add-one i) ∙ next_one shapes nodes i node h is

map_more : (a b : List Shape) → map ShapeEntry (a ++ b) ≡ map ShapeEntry a ++ map ShapeEntry b
map_more [] b = refl
map_more (s ∷ a) b = ap (λ rest. ShapeEntry s ∷ rest) (map_more a b)

number_stays : (shapes : List Shape) (shape : Shape) (name : List ℕ) (k : ℕ) → NumberIn shapes name k → NumberIn (with_shape shapes shape) name k
number_stays shapes shape name k is =
    elim (has_name (names_of shapes) shape.name) as (λ b. place_of (names_of (if b then shapes else shapes ++ shape ∷ [])) name ≡ Some k) [
      | true ↦ is
      | false ↦ ap (λ (names : List (List ℕ)). place_of names name) (names_append shapes (shape ∷ []))
          ∙ place_from-kept 0 (names_of shapes) shape.name name (ap (λ (o : Option ℕ). is_some o) is) ∙ is
    ]

-- a shape that is there
pub shape_there : (shapes : List Shape) (kept : Shapes) (shape : Shape) (k : ℕ) → Lists shapes kept → place_of kept.names shape.name ≡ Some k
    → with_shape shapes shape ≡ shapes
shape_there shapes kept shape k lists is =
    let has : has_name (names_of shapes) shape.name ≡ true =
    sym (is_placed (names_of shapes) shape.name) ∙ ap (λ (names : List (List ℕ)). is_some (place_of names shape.name)) (sym lists.names)
    ∙ ap (λ (o : Option ℕ). is_some o) is in
    ap (λ b. if b then shapes else shapes ++ shape ∷ []) has

-- and one that isn't
pub shape_new : (shapes : List Shape) (kept : Shapes) (shape : Shape) → Lists shapes kept → place_of kept.names shape.name ≡ None
    → with_shape shapes shape ≡ shapes ++ shape ∷ []
shape_new shapes kept shape lists is =
    let hasnt : has_name (names_of shapes) shape.name ≡ false =
    sym (is_placed (names_of shapes) shape.name) ∙ ap (λ (names : List (List ℕ)). is_some (place_of names shape.name)) (sym lists.names)
    ∙ ap (λ (o : Option ℕ). is_some o) is in
    ap (λ b. if b then shapes else shapes ++ shape ∷ []) hasnt

pub lists_more : (shapes : List Shape) (old new : Shapes) (shape : Shape) → Lists shapes old → place_of old.names shape.name ≡ None
    → new.names ≡ with_text old.names shape.name → Spell (map ShapeEntry shapes ++ ShapeEntry shape ∷ []) new.words
    → Lists (with_shape shapes shape) new
lists_more shapes old new shape lists none names words =
    let more = shape_new shapes old shape lists none in
    let added : with_text old.names shape.name ≡ old.names ++ shape.name ∷ [] =
    ap (λ b. if b then old.names else old.names ++ shape.name ∷ []) (ap (λ (o : Option ℕ). is_some o) none) in
    rw more record {
      names = names ∙ added ∙ ap (λ (l : List (List ℕ)). l ++ shape.name ∷ []) lists.names ∙ sym (names_append shapes (shape ∷ []));
      words = rw (map_more shapes (shape ∷ [])) words;
    }

pub none_unless : (o : Option ℕ) → ((k : ℕ) → o ≡ Some k → ⊥) → o ≡ None
none_unless None never = refl
none_unless (Some k) never = absurd (never k refl)

-- the number of a shape that is there, and of one that is added
pub number_there : (shapes : List Shape) (kept : Shapes) (shape : Shape) (k : ℕ) → Lists shapes kept → place_of kept.names shape.name ≡ Some k
    → NumberIn (with_shape shapes shape) shape.name k
number_there shapes kept shape k lists is =
    subst (λ (all : List Shape). NumberIn all shape.name k) (sym (shape_there shapes kept shape k lists is))
    (ap (λ (names : List (List ℕ)). place_of names shape.name) (sym lists.names) ∙ is)

pub number_added : {E : Type 0} (shapes : List Shape) (kept : Shapes) (shape : Shape) (names : List (List ℕ)) (name : List ℕ) (given : Result ℕ E)
    → Lists shapes kept → place_of kept.names shape.name ≡ None → name ≡ shape.name → OnOk given (names ≡ with_text kept.names name)
    → IfOk given (λ (k : ℕ). place_of names name ≡ Some k) → IfOk given (NumberIn (with_shape shapes shape) shape.name)
number_added shapes kept shape names name (Err e) lists none same added placed = tt
number_added shapes kept shape names name (Ok k) lists none same added placed =
    let more = shape_new shapes kept shape lists none in
    let there : with_text kept.names name ≡ names_of (with_shape shapes shape) =
    ap (with_text kept.names) same ∙ ap (λ b. if b then kept.names else kept.names ++ shape.name ∷ []) (ap (λ (o : Option ℕ). is_some o) none)
    ∙ ap (λ (l : List (List ℕ)). l ++ shape.name ∷ []) lists.names ∙ sym (names_append shapes (shape ∷ []))
    ∙ ap names_of (sym more) in
    ap (λ (l : List (List ℕ)). place_of l shape.name) (sym (added ∙ there)) ∙ ap (place_of names) (sym same) ∙ placed

-- the number of one node more
pub numbers_more : (shapes : List Shape) (nodes : List Node) (numbers : List ℕ) (i : ℕ) (node : Node) (number : ℕ) → i < length nodes
    → node ≡ slice_index_or nodes i node → AreNumbersIn shapes (take i nodes) numbers
    → NumberIn (with_shape shapes node.shape) node.shape.name number
    → AreNumbersIn (with_shape shapes node.shape) (take (i + 1) nodes) (numbers ++ number ∷ [])
numbers_more shapes nodes numbers i node number h is so_far last =
    let taken : length (take i nodes) ≡ i = omega (arith, length-take i nodes, h) in
    let more : length (take (i + 1) nodes) ≡ i + 1 = omega (arith, length-take (i + 1) nodes, h) in
    let had : length numbers ≡ i = omega (arith, so_far.count, taken) in
    record {
      count = omega (arith, had, more, length-append numbers (number ∷ []));
      each = λ n below. elim (cases_lt n i) [
        | inl low ↦ (
            let under : n < length (take i nodes) = omega (arith, low, taken) in
            let node_same : slice_index_or (take (i + 1) nodes) n no_node ≡ slice_index_or (take i nodes) n no_node =
            get_or-take (i + 1) nodes n no_node (omega (arith, low)) ∙ sym (get_or-take i nodes n no_node low) in
            let number_same : slice_index_or (numbers ++ number ∷ []) n 0 ≡ slice_index_or numbers n 0 =
            get_or_append_left numbers (number ∷ []) 0 n (omega (arith, low, had)) in
            rw (node_same, number_same)
            (number_stays shapes node.shape (slice_index_or (take i nodes) n no_node).shape.name (slice_index_or numbers n 0) (so_far.each n under)))
        | inr high ↦ (
            let at : n ≡ i = omega (arith, high, below, more) in
            let node_same : slice_index_or (take (i + 1) nodes) i no_node ≡ node =
            get_or-take (i + 1) nodes i no_node (omega arith) ∙ get_or_any nodes i no_node node h ∙ sym is in
            let number_same : slice_index_or (numbers ++ number ∷ []) i 0 ≡ number =
            get_or-append_right numbers (number ∷ []) i i 0 had (omega arith)
            ∙ ap (λ k. slice_index_or (number ∷ []) k 0) (let z : i - i ≡ 0 = omega arith in z) in
            rw (at, node_same, number_same) last)
      ];
    }

pub no_numbers : (nodes : List Node) → AreNumbersIn [] (take 0 nodes) []
no_numbers nodes = record { count = refl; each = λ n h. absurd (omega (arith, h)) }

-- ---- roots

one_root : (roots : List NamedValue) (i : ℕ) (root : NamedValue) → i < length roots → root ≡ slice_index_or roots i root
    → map root_entry (take (suc i) roots) ≡ map root_entry (take i roots) ++ root_entry root ∷ []
one_root [] i root h is = absurd (omega (arith, h))
one_root (first ∷ roots) zero root h is = ap (λ (r : NamedValue). root_entry r ∷ []) (sym is)
one_root (first ∷ roots) (suc i) root h is = ap (λ rest. root_entry first ∷ rest) (one_root roots i root (omega (arith, h)) is)

roots_more : (roots : List NamedValue) (i : ℕ) (root : NamedValue) → i < length roots → root ≡ slice_index_or roots i root
    → map root_entry (take (i + 1) roots) ≡ map root_entry (take i roots) ++ root_entry root ∷ []
roots_more roots i root h is = ap (λ n. map root_entry (take n roots)) (add-one i) ∙ one_root roots i root h is

pub spell_roots : (entries : List DirectoryEntry) (roots : List NamedValue) (i : ℕ) (root : NamedValue) (words : EntryWords) → i < length roots
    → root ≡ slice_index_or roots i root → Spell ((entries ++ map root_entry (take i roots)) ++ root_entry root ∷ []) words
    → Spell (entries ++ map root_entry (take (i + 1) roots)) words
spell_roots entries roots i root words h is spell =
    subst (λ (all : List DirectoryEntry). Spell all words)
    (append_assoc entries (map root_entry (take i roots)) (root_entry root ∷ [])
    ∙ ap (λ (rest : List DirectoryEntry). entries ++ rest) (sym (roots_more roots i root h is))) spell

-- ---- lines

pub lines_next : (nodes : List Node) (i : ℕ) (node : Node) → i < length nodes → node ≡ slice_index_or nodes i node
    → lines_taken (take (i + 1) nodes) ≡ lines_taken (take i nodes) + lines_of (length node.values)
lines_next nodes i node h is =
    ap (λ n. lines_taken (take n nodes)) (add-one i) ∙ taken_next nodes i h
    ∙ ap (λ (n : Node). lines_taken (take i nodes) + lines_of (length n.values)) (get_or_any nodes i no_node node h ∙ sym is)

-- those of the nodes so far are no more than all
pub lines_within : (nodes : List Node) (i : ℕ) → lines_taken (take i nodes) ≤ lines_taken nodes
lines_within nodes i = elim (cases_lt i (length nodes)) [
  | inl below ↦ omega (arith, taken_fewer nodes i (length nodes) (omega (arith, below)), taken_all nodes (length nodes) (omega arith))
  | inr past ↦ omega (arith, taken_all nodes i past)
]

pub places_more : (nodes : List Node) (lines : List ℕ) (i line : ℕ) → length lines ≡ i
    → ((n : ℕ) → n < i → slice_index_or lines n 0 ≡ first_object_line + lines_taken (take n nodes))
    → line ≡ first_object_line + lines_taken (take i nodes)
    → (n : ℕ) → n < i + 1 → slice_index_or (lines ++ line ∷ []) n 0 ≡ first_object_line + lines_taken (take n nodes)
places_more nodes lines i line had each is n below = elim (cases_lt n i) [
  | inl low ↦ get_or_append_left lines (line ∷ []) 0 n (omega (arith, low, had)) ∙ each n low
  | inr high ↦ (
      let at : n ≡ i = omega (arith, high, below) in
      let last : slice_index_or (lines ++ line ∷ []) i 0 ≡ line =
      get_or-append_right lines (line ∷ []) i i 0 had (omega arith)
      ∙ ap (λ k. slice_index_or (line ∷ []) k 0) (let z : i - i ≡ 0 = omega arith in z) in
      rw at (last ∙ is))
]

-- ---- values

reference_below : (n : ℕ) (value : Value) → IsReference n value → IsBelow n value
reference_below n (Int i) is = tt
reference_below n (Long i) is = tt
reference_below n Null is = tt
reference_below n (Object m) is = is

held_below : (n : ℕ) (kind : Kind) (value : Value) → CanHold n kind value → IsBelow n value
held_below n kind (Int i) is = tt
held_below n kind (Long i) is = tt
held_below n kind Null is = tt
held_below n L (Object m) is = is
held_below n Z (Object m) is = absurd is
held_below n B (Object m) is = absurd is
held_below n C (Object m) is = absurd is
held_below n S (Object m) is = absurd is
held_below n I (Object m) is = absurd is
held_below n J (Object m) is = absurd is
held_below n Text (Object m) is = absurd is

module _ (graph : Graph) (lines : List ℕ) (places : ArePlaces graph.nodes lines) where
  pub roots_below : CanBeStoodFor graph → All (λ (root : NamedValue). IsBelow (length lines) root.value) graph.roots
  roots_below can r d h =
      let value : root_value_of graph r ≡ (slice_index_or graph.roots r d).value =
      get_or-map (λ (root : NamedValue). root.value) graph.roots r d Null h in
      rw places.count (subst (λ (v : Value). IsBelow (length graph.nodes) v) value
      (reference_below (length graph.nodes) (root_value_of graph r) (can.roots r h)))

  pub values_below : (node : Node) → IsNode (length graph.nodes) node → All (IsBelow (length lines)) node.values
  values_below node is i d h =
      rw places.count (subst (λ (v : Value). IsBelow (length graph.nodes) v) (get_or_any node.values i Null d h)
      (held_below (length graph.nodes) _ (slice_index_or node.values i Null) (is.slots i h)))

  word_is : (value : Value) → IsBelow (length lines) value → word_by lines value ≡ word_in graph value
  word_is (Int i) below = refl
  word_is (Long i) below = refl
  word_is Null below = refl
  word_is (Object n) below = ap (λ k. 2 * k) (places.each n (rw places.count at below))

  pub words_are : (values : List Value) → All (IsBelow (length lines)) values → map (word_by lines) values ≡ map (word_in graph) values
  words_are [] below = refl
  words_are (value ∷ values) below =
      rw (word_is value (below 0 value (omega arith)), words_are values (λ i d h. below (suc i) d (omega (arith, h)))) refl

  root_words_are : (roots : List NamedValue) → All (λ (root : NamedValue). IsBelow (length lines) root.value) roots
      → map (root_word_by lines) roots ≡ map (λ (root : NamedValue). word_in graph root.value) roots
  root_words_are [] below = refl
  root_words_are (root ∷ roots) below =
      rw (word_is root.value (below 0 root (omega arith)), root_words_are roots (λ i d h. below (suc i) d (omega (arith, h)))) refl

  pub slots_are : CanBeStoodFor graph → map (root_word_by lines) graph.roots ≡ root_words graph
  slots_are can = root_words_are graph.roots (roots_below can)

-- the number of a node's shape
pub number_is : (graph : Graph) (numbers : List ℕ) → AreNumbers graph.nodes numbers → (n : ℕ) → n < length graph.nodes
    → slice_index_or numbers n 0 ≡ shape_number_of graph n
number_is graph numbers are n h = sym (ap (λ (o : Option ℕ). or_else o 0) (are.each n h))

-- the words of an object by their places
pub first_word_of : (head : ℕ) (words : List ℕ) (place : ℕ) → place ≡ 0 → head ≡ slice_index_or (head ∷ words) place 0
first_word_of head words place is = rw is refl

pub word_behind : (head : ℕ) (words : List ℕ) (place : ℕ) → 0 < place
    → slice_index_or (head ∷ words) place 0 ≡ slice_index_or words (place - 1) 0
word_behind head words zero some = absurd (omega (arith, some))
word_behind head words (suc place) some =
    let at : suc place - 1 ≡ place = omega arith in ap (λ k. slice_index_or words k 0) (sym at)

pub slot_word_of : (head : ℕ) (lines : List ℕ) (values : List Value) (place : ℕ) (d : Value) → 0 < place → place ≤ length values
    → slice_index_or (head ∷ map (word_by lines) values) place 0 ≡ word_by lines (slice_index_or values (place - 1) d)
slot_word_of head lines values place d some within =
    word_behind head (map (word_by lines) values) place some
    ∙ get_or-map (word_by lines) values (place - 1) d 0 (omega (arith, some, within))

pub no_word_of : (head : ℕ) (lines : List ℕ) (values : List Value) (place : ℕ) → length values < place
    → slice_index_or (head ∷ map (word_by lines) values) place 0 ≡ 0
no_word_of head lines values place past =
    word_behind head (map (word_by lines) values) place (omega (arith, past))
    ∙ get_or_past (map (word_by lines) values) (place - 1) 0 (omega (arith, past, length-map values (word_by lines)))

-- the words of a line, one more
pub next_of_eight : (words all : List ℕ) (from w v : ℕ) → w < length words
    → ((k : ℕ) → k < w → slice_index_or words k 0 ≡ slice_index_or all (from + k) 0) → v ≡ slice_index_or all (from + w) 0
    → (k : ℕ) → k < w + 1 → slice_index_or (slice_set words w v) k 0 ≡ slice_index_or all (from + k) 0
next_of_eight words all from w v here each is k below = elim (cases_lt k w) [
  | inl low ↦ (
      let other : k ≢ w = λ same. absurd (omega (arith, low, same)) in
      get_or-set_other words w k v 0 other ∙ each k low)
  | inr high ↦ (
      let at : k ≡ w = omega (arith, high, below) in
      rw at (get_or-set_same words w v 0 here ∙ is))
]

-- ---- room

unless_none : (which : Which) (left need : ℕ) (later : Option Full) → unless_room which left need later ≡ None
    → (need ≤ left) × (later ≡ None)
unless_none which left need later h = elim (cases_lt left need) [
  | inl less ↦ absurd (let told = rw (lt-ltb left need less) at h in cc)
  | inr enough ↦ (enough, rw (le-ltb left need enough) at h)
]

pub room_of : (size words lines : ℕ) → min_lines ≤ size → wanting size words lines ≡ None
    → (words ≤ directory_words) × (first_object_line + lines ≤ size)
room_of size words lines enough none =
    let a = unless_none DirectoryWords directory_words words (unless_room ImageLines (size - first_object_line) lines None) none in
    let b = unless_none ImageLines (size - first_object_line) lines None a.1 in
    (a.0, omega (arith, b.0, enough))

pub words_wanting : (size all lines words : ℕ) → words ≡ min all (2 ^ 64 - 1) → directory_words < words
    → wanting size all lines ≡ Some (record { which = DirectoryWords; need = words; left = directory_words })
words_wanting size all lines words is more =
    let less : directory_words < all = omega (arith, is, more) in
    rw (lt-ltb directory_words all less, is) refl

pub lines_wanting : (size all taken words lines : ℕ) → min_lines ≤ size → size < 2 ^ 64 → words ≡ min all (2 ^ 64 - 1)
    → lines ≡ min taken (2 ^ 64 - 1) → words ≤ directory_words → size - first_object_line < lines
    → wanting size all taken ≡ Some (record { which = ImageLines; need = lines; left = size - first_object_line })
lines_wanting size all taken words lines enough fits is lines_are few more =
    let room : all ≤ directory_words = omega (arith, is, few) in
    let less : size - first_object_line < taken = omega (arith, lines_are, more) in
    rw (le-ltb directory_words all room, lt-ltb (size - first_object_line) taken less, lines_are) refl

pub none_wanting : (size all taken words lines : ℕ) → min_lines ≤ size → size < 2 ^ 64 → words ≡ min all (2 ^ 64 - 1)
    → lines ≡ min taken (2 ^ 64 - 1) → words ≤ directory_words → lines ≤ size - first_object_line → wanting size all taken ≡ None
none_wanting size all taken words lines enough fits is lines_are few less =
    let room : all ≤ directory_words = omega (arith, is, few) in
    let there : taken ≤ size - first_object_line = omega (arith, lines_are, less, fits, enough) in
    rw (le-ltb directory_words all room, le-ltb (size - first_object_line) taken there) refl

-- ---- the same of the graph's own lists

module _ (graph : Graph) (nodes : List Node) (roots : List NamedValue) (n : nodes ≡ graph.nodes) (r : roots ≡ graph.roots) where
  same_entries : map ShapeEntry (shapes_of nodes) ++ map root_entry roots ≡ entries_of graph
  same_entries =
      ap (λ (ns : List Node). map ShapeEntry (shapes_of ns) ++ map root_entry roots) n
      ∙ ap (λ (rs : List NamedValue). map ShapeEntry (shapes_of graph.nodes) ++ map root_entry rs) r

  pub spell_of : (kept : EntryWords) → Spell (map ShapeEntry (shapes_of nodes) ++ map root_entry roots) kept → Spell (entries_of graph) kept
  spell_of kept spell = subst (λ (entries : List DirectoryEntry). Spell entries kept) same_entries spell

  pub none_of : (size : ℕ)
      → wanting size (length (spelled_all (map ShapeEntry (shapes_of nodes) ++ map root_entry roots))) (lines_taken nodes) ≡ None
      → no_room size graph ≡ None
  none_of size none =
      subst (λ (ns : List Node). wanting size (length (spelled_all (entries_of graph))) (lines_taken ns) ≡ None) n
      (subst (λ (entries : List DirectoryEntry). wanting size (length (spelled_all entries)) (lines_taken nodes) ≡ None) same_entries none)
