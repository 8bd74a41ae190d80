-- The words of an image that is written, in their order.
use Rattle.std.proofs.Common.{◌≡◌, ◌⊎◌, inl, inr, ⊎_elim, ◌<◌, ◌≤◌, ◌+◌, ◌-◌, ◌*◌, ◌/◌, ◌%◌, ℕ, zero, suc, List, [], ◌∷◌, length, map, refl, true}
use Rattle.std.proofs.Common.{sym, ◌∙◌, ap, subst, arith, slice_index_or}
use Rattle.std.proofs.lemmas.Bool.{cases_lt, le-leb}
use Rattle.std.proofs.lemmas.List.{get_or-map}
use Rattle.graph_model.specs.declared.types.Value.TheVariants.{Null}
use Rattle.graph_model.specs.declared.types.Graph.{Graph}
use Rattle.line_image.specs.Trace.{Outcome}
use Rattle.line_memory.specs.Memory.{Memory, shown, CanLeaveAll, IsWritten as IsWrittenBack, IsDurable}
use Rattle.image_layout.specs.Places.{has_size, magic, version, min_lines, max_lines, root_slots, logs, slot_line, slot_word, directory_line}
use Rattle.image_layout.specs.Places.{directory_word, log_head_line, first_object_line, lines_of, object_line, object_word, head_of}
use Rattle.image_meaning.specs.Checks.{Words}
use Rattle.image_meaning.specs.Directories.{spelled_all}
use Rattle.image_meaning.specs.Opening.{graph_node}
use Rattle.word_changes.specs.Changes.{Tells, AllKnown, IsFixed, Nothing, IsGiven, IsLeft, OldOrGiven, ChangesTo, WritesAll, AllFixed}
use Rattle.word_changes.specs.Changes.{StopsLeave}
use Rattle.word_changes.proofs.Changing.{changes_nothing, changes_weaker, changes_nowhere, changes_more, stays_fixed, left_fixed}
use Rattle.word_changes.proofs.Changing.{changes_stops, stops_then}
use Rattle.word_changes.proofs.Writing.{AreWithin, AreApart, left_as_fixed, fence_wrote}
use Rattle.dense_image.specs.Graphs.{CanBeStoodFor}
use Rattle.dense_image.specs.Written.{shape_number_of, entries_of, line_of_node, end_line, word_in, root_words, IsWritten, HasRoom}
use Rattle.dense_image.specs.Written.{IsWhole}
use Rattle.dense_image.proofs.Lines.{ends_before, ends_within}
use Rattle.dense_image.proofs.Dense.{whole}
use Rattle.image_compact.specs.Writing.{OfWords, OfSlots, OfDirectory, OfHeads, object_words, OfObject, OfObjects, OfSuperblock, OfFront}
use Rattle.image_compact.specs.Writing.{OfBody, OfImage, lines_for}
use Rattle.image_compact.specs.Outcomes.{IsBlankOrWhole}
use Rattle.image_compact.proofs.LineWords.{both_change, both_wrote, fenced_wrote, words_within}

-- ---- heads of logs, one after another

pub no_heads : (m : Memory) → WritesAll (OfHeads 0) m m × ChangesTo (OfHeads 0) m m
no_heads m = (
  record {
    shows = λ known l w v given. absurd (omega (arith, given.1));
    written = λ tells l w v given. absurd (omega (arith, given.1));
  },
  changes_nothing (OfHeads 0) m,
)

pub fewer_heads : (s t : ℕ) → s ≤ t → (l w v : ℕ) → OfHeads s l w v → OfHeads t l w v
fewer_heads s t few l w v given = (given.0, omega (arith, given.1, few), given.2)

pub next_head : (t : ℕ) → (l w v : ℕ) → OfWords [] (log_head_line t) 1 l w v → OfHeads (t + 1) l w v
next_head t l w v given = (t, omega arith, given)

pub of_head : (t : ℕ) → (l w v : ℕ) → OfHeads (t + 1) l w v → OfHeads t l w v ⊎ OfWords [] (log_head_line t) 1 l w v
of_head t l w v given = elim (cases_lt given.0 t) [
  | inl low ↦ inl (given.0, low, given.2)
  | inr high ↦ inr (let at : given.0 ≡ t = omega (arith, high, given.1) in subst (λ k. OfWords [] (log_head_line k) 1 l w v) at given.2)
]

pub heads_apart : (t : ℕ) → AreApart (OfHeads t) (OfWords [] (log_head_line t) 1)
heads_apart t l w v x low high = omega (arith, low.1, low.2.1, high.0)

pub heads_within : (t size : ℕ) → t ≤ logs → min_lines ≤ size → AreWithin (OfHeads t) size
heads_within t size few enough l w v given = omega (arith, given.1, given.2.1, few, enough)

-- ---- objects, one after another

pub no_objects : (graph : Graph) (m : Memory) → WritesAll (OfObjects graph 0) m m × ChangesTo (OfObjects graph 0) m m
no_objects graph m = (
  record {
    shows = λ known l w v given. absurd (omega (arith, given.1));
    written = λ tells l w v given. absurd (omega (arith, given.1));
  },
  changes_nothing (OfObjects graph 0) m,
)

pub fewer_objects : (graph : Graph) (m n : ℕ) → m ≤ n → (l w v : ℕ) → OfObjects graph m l w v → OfObjects graph n l w v
fewer_objects graph m n few l w v given = (given.0, omega (arith, given.1, few), given.2)

pub next_object : (graph : Graph) (n : ℕ) → (l w v : ℕ) → OfObject graph n l w v → OfObjects graph (n + 1) l w v
next_object graph n l w v given = (n, omega arith, given)

pub of_object : (graph : Graph) (n : ℕ) → (l w v : ℕ) → OfObjects graph (n + 1) l w v → OfObjects graph n l w v ⊎ OfObject graph n l w v
of_object graph n l w v given = elim (cases_lt given.0 n) [
  | inl low ↦ inl (given.0, low, given.2)
  | inr high ↦ inr (let at : given.0 ≡ n = omega (arith, high, given.1) in subst (λ k. OfObject graph k l w v) at given.2)
]

pub objects_apart : (graph : Graph) (n : ℕ) → n < length graph.nodes → AreApart (OfObjects graph n) (OfObject graph n)
objects_apart graph n h l w v x low high =
    omega (arith, low.2.1, high.0, ends_before graph low.0 n low.1 h)

pub objects_within : (graph : Graph) (n size : ℕ) → n ≤ length graph.nodes → end_line graph ≤ size → AreWithin (OfObjects graph n) size
objects_within graph n size few room l w v given =
    omega (arith, given.2.1, room, ends_within graph given.0 (omega (arith, given.1, few)))

-- ---- the front

abbrev OfFirst : Graph → ℕ → ℕ → ℕ → Type 0
OfFirst graph l w v = OfSlots graph l w v ⊎ OfDirectory graph l w v

abbrev OfAll : Graph → ℕ → ℕ → ℕ → Type 0
OfAll graph l w v = OfFront graph l w v ⊎ OfObjects graph (length graph.nodes) l w v

-- how many words of the directory are in use
abbrev pub used_of : Graph → ℕ
used_of graph = length (spelled_all (entries_of graph))

-- where the words lie
module _ (size : ℕ) (graph : Graph) (enough : min_lines ≤ size) (room : HasRoom size graph) where
  slots_within : (n : ℕ) → n ≡ size → AreWithin (OfSlots graph) n
  slots_within n is l w v given = omega (arith, given.1, is, enough)

  directory_within : (n : ℕ) → n ≡ size → AreWithin (OfDirectory graph) n
  directory_within n is l w v given = omega (arith, given.1, is, enough, room.directory)

  first_within : (n : ℕ) → n ≡ size → AreWithin (OfFirst graph) n
  first_within n is l w v given =
      ⊎_elim (λ slot. slots_within n is l w v slot) (λ word. directory_within n is l w v word) given

  slots_apart : AreApart (OfSlots graph) (OfDirectory graph)
  slots_apart l w v x slot word = omega (arith, slot.1, word.0)

  first_apart : AreApart (OfFirst graph) (OfHeads logs)
  first_apart l w v x given head = ⊎_elim
      (λ slot. omega (arith, slot.1, head.2.0))
      (λ word. omega (arith, word.1, room.directory, head.2.0))
      given

  front_low : (l w v : ℕ) → OfFront graph l w v → (0 < l) × (l < first_object_line)
  front_low l w v given = ⊎_elim
      (λ slot. (omega (arith, slot.0), omega (arith, slot.1)))
      (λ rest. ⊎_elim
      (λ word. (omega (arith, word.0), omega (arith, word.1, room.directory)))
      (λ head. (omega (arith, head.2.0), omega (arith, head.1, head.2.1)))
      rest)
      given

  all_low : (l w v : ℕ) → OfAll graph l w v → 0 < l
  all_low l w v given = ⊎_elim (λ front. (front_low l w v front).0) (λ object. omega (arith, object.2.0)) given

  front_apart : AreApart (OfFront graph) (OfObjects graph (length graph.nodes))
  front_apart l w v x front object = omega (arith, (front_low l w v front).1, object.2.0)

  all_apart : (s used : ℕ) → AreApart (OfAll graph) (OfSuperblock s used)
  all_apart s used l w v x given super = omega (arith, all_low l w v given, super.0)

  front_within : (n : ℕ) → n ≡ size → AreWithin (OfFront graph) n
  front_within n is l w v given = omega (arith, (front_low l w v given).1, is, enough)

  all_within : (n : ℕ) → n ≡ size → AreWithin (OfAll graph) n
  all_within n is l w v given = ⊎_elim
      (λ front. front_within n is l w v front)
      (λ object. omega (arith, objects_within graph (length graph.nodes) size (omega arith) room.objects l w v object, is))
      given

  pub body_within : (s n : ℕ) → n ≡ size → AreWithin (OfBody s graph) n
  body_within s n is l w v given = ⊎_elim
      (λ front. front_within n is l w v front)
      (λ rest. ⊎_elim
      (λ object. all_within n is l w v (inr object))
      (λ super. omega (arith, super.0, is, enough))
      rest)
      given

  -- the magic word is none of these
  pub body_behind : (s : ℕ) → AreApart (OfBody s graph) (IsGiven 0 0 magic)
  body_behind s l w v x given first = ⊎_elim
      (λ front. omega (arith, (front_low l w v front).0, first.0))
      (λ rest. ⊎_elim
      (λ object. omega (arith, object.2.0, first.0))
      (λ super. ⊎_elim
      (λ one. omega (arith, one.0, first.1))
      (λ other. ⊎_elim (λ two. omega (arith, two.0, first.1)) (λ three. omega (arith, three.0, first.1)) other)
      super.1)
      rest)
      given

pub slots_of_front : (graph : Graph) (a b : Memory) → ChangesTo (OfSlots graph) a b → ChangesTo (OfFront graph) a b
slots_of_front graph a b slots = changes_weaker (OfSlots graph) (OfFront graph) a b (λ l w v given. inl given) slots

module _ (graph : Graph) (a b d : Memory) (slots : ChangesTo (OfSlots graph) a b) (words : ChangesTo (OfDirectory graph) b d) where
  first_change : ChangesTo (OfFirst graph) a d
  first_change = both_change (OfSlots graph) (OfDirectory graph) (OfFirst graph) a b d slots words (λ l w v given. inl given) (λ l w v given. inr given)

  pub words_of_front : ChangesTo (OfFront graph) a d
  words_of_front =
      both_change (OfSlots graph) (OfDirectory graph) (OfFront graph) a b d slots words (λ l w v given. inl given) (λ l w v given. inr (inl given))

  module _ (e : Memory) (heads : ChangesTo (OfHeads logs) d e) where
    pub front_change : ChangesTo (OfFront graph) a e
    front_change =
        changes_more (OfFront graph) a d e words_of_front
        (changes_weaker (OfHeads logs) (OfFront graph) d e (λ l w v given. inr (inr given)) heads)

    pub front_wrote : min_lines ≤ a.size → HasRoom a.size graph
        → WritesAll (OfSlots graph) a b → WritesAll (OfDirectory graph) b d → WritesAll (OfHeads logs) d e → WritesAll (OfFront graph) a e
    front_wrote enough room one two three =
        both_wrote (OfFirst graph) (OfHeads logs) (OfFront graph) a d e first_change heads
        (λ l w v given. ⊎_elim
        (λ slot. inl (inl slot))
        (λ rest. ⊎_elim (λ word. inl (inr word)) (λ head. inr head) rest)
        given)
        (first_apart a.size graph enough room)
        (first_within a.size graph enough room d.size (words.size ∙ slots.size))
        (both_wrote (OfSlots graph) (OfDirectory graph) (OfFirst graph) a b d slots words (λ l w v given. given)
        (slots_apart a.size graph enough room) (slots_within a.size graph enough room b.size slots.size) one two)
        three

-- ---- the body

pub front_of_body : (graph : Graph) (a b : Memory) → ChangesTo (OfFront graph) a b → ChangesTo (OfBody a.size graph) a b
front_of_body graph a b front = changes_weaker (OfFront graph) (OfBody a.size graph) a b (λ l w v given. inl given) front

module _ (graph : Graph) (a b d : Memory) (front : ChangesTo (OfFront graph) a b)
    (objects : ChangesTo (OfObjects graph (length graph.nodes)) b d) where
  pub objects_of_body : ChangesTo (OfBody a.size graph) a d
  objects_of_body =
      both_change (OfFront graph) (OfObjects graph (length graph.nodes)) (OfBody a.size graph) a b d front objects
      (λ l w v given. inl given) (λ l w v given. inr (inl given))

  all_change : ChangesTo (OfAll graph) a d
  all_change =
      both_change (OfFront graph) (OfObjects graph (length graph.nodes)) (OfAll graph) a b d front objects
      (λ l w v given. inl given) (λ l w v given. inr given)

  module _ (e : Memory) (super : ChangesTo (OfSuperblock a.size (used_of graph)) d e) where
    pub body_change : ChangesTo (OfBody a.size graph) a e
    body_change =
        changes_more (OfBody a.size graph) a d e objects_of_body
        (changes_weaker (OfSuperblock a.size (used_of graph)) (OfBody a.size graph) d e (λ l w v given. inr (inr given)) super)

    -- and after the fence
    pub body_fenced : (f : Memory) → ChangesTo Nothing e f → ChangesTo (OfBody a.size graph) a f
    body_fenced f fence = changes_more (OfBody a.size graph) a e f body_change (changes_nowhere (OfBody a.size graph) e f fence)

    module _ (enough : min_lines ≤ a.size) (room : HasRoom a.size graph) (one : WritesAll (OfFront graph) a b)
        (two : WritesAll (OfObjects graph (length graph.nodes)) b d) (three : WritesAll (OfSuperblock a.size (used_of graph)) d e) where
      body_wrote : WritesAll (OfBody a.size graph) a e
      body_wrote =
          both_wrote (OfAll graph) (OfSuperblock a.size (used_of graph)) (OfBody a.size graph) a d e all_change super
          (λ l w v given. ⊎_elim
          (λ first. inl (inl first))
          (λ rest. ⊎_elim (λ object. inl (inr object)) (λ last. inr last) rest)
          given)
          (all_apart a.size graph enough room a.size (used_of graph))
          (all_within a.size graph enough room d.size (objects.size ∙ front.size))
          (both_wrote (OfFront graph) (OfObjects graph (length graph.nodes)) (OfAll graph) a b d front objects (λ l w v given. given)
          (front_apart a.size graph enough room) (front_within a.size graph enough room b.size front.size) one two)
          three

      e_sized : e.size ≡ a.size
      e_sized = super.size ∙ objects.size ∙ front.size

      pub body_done : (f : Memory) → ChangesTo Nothing e f → WritesAll (OfBody a.size graph) a f
      body_done f fence =
          fenced_wrote (OfBody a.size graph) a e f body_change (body_within a.size graph enough room a.size e.size e_sized) body_wrote fence

      pub body_fixed : (f : Memory) → ChangesTo Nothing e f → ((l w : ℕ) → IsWrittenBack e l w → IsDurable f l w) → Tells a
          → AllFixed (OfBody a.size graph) f
      body_fixed f fence durable tells =
          fence_wrote (OfBody a.size graph) (OfBody a.size graph) a e f body_change
          (body_within a.size graph enough room a.size e.size e_sized) body_wrote fence durable tells

-- what the words say once all of them have their values
pub written_by : (size : ℕ) (graph : Graph) (words : Words) → words 0 0 ≡ magic → ((l w v : ℕ) → OfBody size graph l w v → words l w ≡ v)
    → IsWritten size words graph
written_by size graph words first body =
    let all = spelled_all (entries_of graph) in
    record {
      begins = first;
      layout = body 0 1 version (inr (inr (refl, inl (refl, refl))));
      lines = body 0 2 size (inr (inr (refl, inr (inl (refl, refl)))));
      spells = record {
        used = body 0 3 (length all) (inr (inr (refl, inr (inr (refl, refl)))));
        spelled = λ i below.
            let place : 8 * (directory_line i - directory_line 0) + directory_word i ≡ i = omega arith in
            body (directory_line i) (directory_word i) (slice_index_or all i 0)
            (inl (inr (inl (omega arith, omega (arith, below), omega arith, ap (λ k. slice_index_or all k 0) (sym place)))));
      };
      roots = λ r below.
          let place : 8 * (slot_line r - 1) + slot_word r ≡ r = omega arith in
          body (slot_line r) (slot_word r) (slice_index_or (root_words graph) r 0)
          (inl (inl (omega arith, omega (arith, below), omega arith, ap (λ k. slice_index_or (root_words graph) k 0) (sym place))));
      logs = λ t below. body (log_head_line t) 0 0 (inl (inr (inr (t, below, (omega arith, omega arith, omega arith, refl)))));
      heads = λ n h.
          let line = line_of_node graph n in
          let place : 8 * (line - line) + 0 ≡ 0 = omega arith in
          body line 0 (head_of (shape_number_of graph n) (length (graph_node graph n).values))
          (inr (inl (n, h, (omega arith, omega arith, omega arith, ap (λ k. slice_index_or (object_words graph n) k 0) (sym place)))));
      slots = λ n i h below.
          let line = line_of_node graph n in
          let values = (graph_node graph n).values in
          let place : 8 * (object_line line i - line) + object_word i ≡ suc i = omega arith in
          body (object_line line i) (object_word i) (word_in graph (slice_index_or values i Null))
          (inr (inl (
            n,
            h,
            (
              omega arith,
              omega (arith, below),
              omega arith,
              sym (get_or-map (word_in graph) values i Null 0 below) ∙ ap (λ k. slice_index_or (object_words graph n) k 0) (sym place),
            ),
          )));
    }

module _ (size : ℕ) (graph : Graph) (enough : min_lines ≤ size) (most : size ≤ max_lines) (can : CanBeStoodFor graph)
    (room : HasRoom size graph) where
  pub whole_by : (words : Words) → words 0 0 ≡ magic → ((l w v : ℕ) → OfBody size graph l w v → words l w ≡ v) → IsWhole size words graph
  whole_by words first body = whole size words graph enough most can room (written_by size graph words first body)

  -- where all of the words are given
  pub whole_given : (words : Words) → ((l w v : ℕ) → OfImage size graph l w v → words l w ≡ v) → IsWhole size words graph
  whole_given words given = whole_by words (given 0 0 magic (inr (refl, refl, refl))) (λ l w v body. given l w v (inl body))

  first_left : IsLeft (OfBody size graph) 0 0
  first_left v given = body_behind size graph enough room size 0 0 v magic given (refl, refl, refl)

-- ---- blank images

pub sized : (size : ℕ) → min_lines ≤ size → size ≤ max_lines → has_size size ≡ true
sized size enough most = rw (le-leb min_lines size enough, le-leb size max_lines most) refl

-- ---- the magic word

pub body_of_image : (graph : Graph) (a b : Memory) → ChangesTo (OfBody a.size graph) a b → ChangesTo (OfImage a.size graph) a b
body_of_image graph a b body = changes_weaker (OfBody a.size graph) (OfImage a.size graph) a b (λ l w v given. inl given) body

module _ (graph : Graph) (a b : Memory) (enough : min_lines ≤ a.size) (most : a.size ≤ max_lines) (can : CanBeStoodFor graph)
    (room : HasRoom a.size graph) (body : ChangesTo (OfBody a.size graph) a b) where
  pub body_stops : IsFixed a 0 0 0 → StopsLeave a b (IsBlankOrWhole a.size graph)
  body_stops blank =
      changes_stops (OfBody a.size graph) a b (IsBlankOrWhole a.size graph) body
      (λ k all. inl (
        sized a.size enough most,
        left_fixed (OfBody a.size graph) a k 0 0 0 all (first_left a.size graph enough most can room) blank,
      ))

  module _ (c : Memory) (mark : ChangesTo (IsGiven 0 0 magic) b c) where
    pub image_change : ChangesTo (OfImage a.size graph) a c
    image_change =
        changes_more (OfImage a.size graph) a b c (body_of_image graph a b body)
        (changes_weaker (IsGiven 0 0 magic) (OfImage a.size graph) b c (λ l w v given. inr given) mark)

    pub image_wrote : WritesAll (OfBody a.size graph) a b → WritesAll (IsGiven 0 0 magic) b c → WritesAll (OfImage a.size graph) a c
    image_wrote one two =
        both_wrote (OfBody a.size graph) (IsGiven 0 0 magic) (OfImage a.size graph) a b c body mark (λ l w v given. given)
        (body_behind a.size graph enough room a.size)
        (body_within a.size graph enough room a.size b.size body.size) one two

    -- what is fixed stays so
    pub image_fixed : AllFixed (OfBody a.size graph) b → AllFixed (IsGiven 0 0 magic) c → AllFixed (OfImage a.size graph) c
    image_fixed one two l w v given = ⊎_elim
        (λ first. stays_fixed (IsGiven 0 0 magic) b c l w v mark
        (λ x put. body_behind a.size graph enough room a.size l w v magic first (put.0, put.1, refl)) (one l w v first))
        (λ last. two l w v last)
        given

    pub image_stops : IsFixed a 0 0 0 → AllFixed (OfBody a.size graph) b → StopsLeave a c (IsBlankOrWhole a.size graph)
    image_stops blank fixed =
        let still : IsFixed b 0 0 0 =
        stays_fixed (OfBody a.size graph) a b 0 0 0 body (first_left a.size graph enough most can room) blank in
        stops_then a b c (IsBlankOrWhole a.size graph) (body_stops blank)
        (changes_stops (IsGiven 0 0 magic) b c (IsBlankOrWhole a.size graph) mark
        (λ k all. ⊎_elim
        (λ was. inl (sized a.size enough most, still (k 0 0) was))
        (λ given. inr (whole_by a.size graph enough most can room k given.2
        (left_as_fixed (OfBody a.size graph) (IsGiven 0 0 magic) a b c (body_behind a.size graph enough room a.size) mark k all fixed)))
        (all 0 0)))

-- nothing is stored before
pub look_stops : (a b : Memory) (size : ℕ) (graph : Graph) → min_lines ≤ size → size ≤ max_lines → ChangesTo Nothing a b → IsFixed a 0 0 0
    → StopsLeave a b (IsBlankOrWhole size graph)
look_stops a b size graph enough most look blank =
    changes_stops Nothing a b (IsBlankOrWhole size graph) look
    (λ k all. inl (sized size enough most, left_fixed Nothing a k 0 0 0 all (λ v none. none) blank))

pub still_blank : (a b : Memory) → ChangesTo Nothing a b → IsFixed a 0 0 0 → IsFixed b 0 0 0
still_blank a b look blank = stays_fixed Nothing a b 0 0 0 look (λ v none. none) blank
