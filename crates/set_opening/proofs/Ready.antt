-- An image to whose directory all that is planned was appended.
use Rattle.std.proofs.Common.{◌≡◌, ◌≢◌, ℕ, ◌+◌, ◌<◌, ◌≤◌, List, [], ◌∷◌, ◌++◌, None, Ok, length, take, slice_index_or, refl}
use Rattle.std.proofs.Common.{sym, ap, ◌∙◌, subst, arith, inl, inr, ⊎_elim}
use Rattle.std.specs.Prelude.{All}
use Rattle.std.proofs.lemmas.Bool.{cases_lt}
use Rattle.std.proofs.lemmas.List.{append-nil, length-append}
use Rattle.std.proofs.lemmas.List.Elements.{All-nil}
use Rattle.run_types.specs.declared.fault.Which.TheVariants.{DirectoryWords, Roots}
use Rattle.graph_model.specs.declared.types.Graph.{Graph}
use Rattle.graph_model.specs.declared.types.Heap.{Heap}
use Rattle.graph_model.specs.declared.types.Shape.{Shape}
use Rattle.line_image.specs.Told.{Told}
use Rattle.line_memory.specs.Memory.{Memory, IsDurable, shown}
use Rattle.image_layout.specs.Places.{min_lines, max_lines, root_slots, directory_words, directory_line, directory_word}
use Rattle.image_layout.specs.Places.{first_object_line, object_line, object_word, slot_line, slot_word, log_head_line}
use Rattle.image_meaning.specs.Appending.{with_all_too}
use Rattle.image_meaning.specs.Corresponds.{Corresponds}
use Rattle.image_meaning.specs.Directories.{AreEntries, Directory, directory_of, directory_words_of, no_entries, spelled_all}
use Rattle.image_meaning.specs.Directories.{with_all, with_entries, with_entry}
use Rattle.image_meaning.specs.Entries.{DirectoryEntry, IsShape}
use Rattle.image_meaning.specs.Laws.{Opens}
use Rattle.image_meaning.specs.Meaning.{StandsFor}
use Rattle.image_meaning.specs.Opening.{found_at}
use Rattle.image_meaning.proofs.Changes.{corresponds-same}
use Rattle.image_meaning.proofs.Standing.{use-within}
use Rattle.word_changes.specs.Changes.{AllKnown, GoesOn, IsFixed, IsLeft, StopsLeave}
use Rattle.word_changes.proofs.Changing.{stops_weaker}
use Rattle.directories.specs.Growing.{HasAppended, HasDurable, LeavesGraph, OfDirectory, StandsWith, StandsWithSome}
use Rattle.directories.specs.Kept.{Continues, Kept, NextStands, SameEntries}
use Rattle.directories.specs.Planning.{HasRead, IsPlanned, no_room, root_count, roots_left, unless_room, words_left}
use Rattle.directories.specs.declared.stepping.Progress.TheVariants as stage
use Rattle.directories.proofs.Continuing.{read_continue}
use Rattle.directories.proofs.GraphHeaps.{heap_holds, heap_of}
use Rattle.directories.proofs.Grows.{spelled_both}
use Rattle.directories.proofs.Growths.{durable_leaves, growing_stops, whole_stands}
use Rattle.directories.proofs.Plans.{none_of_room}
use Rattle.image_recovery.specs.Putting.{AllDurable}
use Rattle.image_recovery.specs.Recovered.{entries_in}
use Rattle.set_opening.specs.Found.{IsFound}
use Rattle.set_opening.specs.Opened.{IsReadyImage, StandsWithFirst, shape_names}
use Rattle.first_spaces.specs.Opened.{IsOpened}
use Rattle.set_opening.specs.Opened.{IsDurableImage}
use Rattle.image_opening.proofs.Finding.{same_free}
use Rattle.set_opening.proofs.Names.{Differ, are_shapes, roots_differ, shapes_differ, shapes_with}

-- ---- entries behind others

pub are_later : (directory : Directory) (entries later : List DirectoryEntry)
    → AreEntries directory (entries ++ later)
    → AreEntries (with_all directory entries) later
are_later directory [] later are = are
are_later directory (e ∷ entries) later are = are_later (with_entry directory e) entries later are.2

pub with_both : (directory : Directory) (xs ys : List DirectoryEntry)
    → with_all directory (xs ++ ys) ≡ with_all (with_all directory xs) ys
with_both directory [] ys = refl
with_both directory (x ∷ xs) ys = with_both (with_entry directory x) xs ys

-- ---- what was read of the directory

module _ (m : Memory) (directory : Kept) (opens : Opens m.size (shown m) (entries_in directory))
    (unplanned : directory.left ≡ [])
    (begins : directory.progress ≡ stage.Words 0) (used : directory.used ≡ shown m 0 3) where
  as_read : directory_of (shown m) ≡ Ok (entries_in directory)
      → with_entries (shown m 0 3) 0 no_entries (directory_words_of (shown m)
      (shown m 0 3)) ≡ Ok (entries_in directory)
  unfolding directory_of
  as_read is = is

  pub was_read : HasRead (shown m) directory
  was_read = read_continue (shown m) (shown m 0 3) directory refl (record {
    entries = as_read opens.entries;
    left = unplanned;
    used = used;
    progress = begins;
  })

  pub had_whole : with_all no_entries was_read.had ≡ entries_in directory
  had_whole =
      ap (λ (l : List DirectoryEntry). with_all no_entries l)
      (sym (ap (λ (l : List DirectoryEntry). was_read.had ++ l) unplanned ∙ append-nil was_read.had))
      ∙ was_read.continues.whole

  pub had_are : AreEntries no_entries was_read.had
  had_are =
      subst (λ (l : List DirectoryEntry). AreEntries no_entries l)
      (ap (λ (l : List DirectoryEntry). was_read.had ++ l) unplanned
      ∙ append-nil was_read.had) was_read.continues.are

  -- it has shapes that a directory can have, and no two of its names are the same
  pub shapes_are : All IsShape directory.shapes
  shapes_are =
      subst (λ (d : Directory). All IsShape d.shapes) had_whole
      (shapes_with IsShape no_entries was_read.had (All-nil IsShape)
      (are_shapes no_entries was_read.had had_are))

  no_pairs : Differ []
  no_pairs i j d lt below = absurd (omega (arith, below))

  pub shapes_apart : Differ (shape_names (entries_in directory))
  shapes_apart =
      subst (λ (d : Directory). Differ (shape_names d)) had_whole (shapes_differ no_entries was_read.had
      had_are no_pairs)

  pub roots_apart : Differ directory.roots
  roots_apart =
      subst (λ (d : Directory). Differ d.roots) had_whole (roots_differ no_entries was_read.had had_are
      no_pairs)

-- words of logs, root slots and objects are none of the directory's
outside : (l w : ℕ) → ((l ≡ 0) → w ≢ 3) → ((directory_line 0 ≤ l) → directory_line directory_words ≤ l)
    → IsLeft OfDirectory l w
outside l w front behind v (inl given) = front given.0 given.1
outside l w front behind v (inr given) = let past = behind given.0 in omega (arith, past, given.1)

module _ (start : Told) (before m n : Memory) (found directory now : Kept) (stood : Graph) (lines : List ℕ)
    (free : ℕ)
    (entries : List DirectoryEntry) (is : IsFound start before m found stood lines free)
    (planned : IsPlanned entries found directory) (room : no_room found entries ≡ None)
    (continues : (had : List DirectoryEntry) → Continues had found → Continues had directory)
    (same : SameEntries directory now) (goes : GoesOn m n)
    (appended : (had : List DirectoryEntry) → HasDurable had directory m
    → length (spelled_all (had ++ directory.left)) ≤ directory_words → HasAppended had directory now m n)
  where
    abbrev pub read : HasRead (shown m) found
    read = was_read m found is.opens is.unplanned is.begins is.used

    abbrev pub had : List DirectoryEntry
    had = read.had

    size : m.size ≡ before.size
    size = is.goes_on.size

    enough : min_lines ≤ m.size
    enough = let e = is.attached.enough in omega (arith, e, size)

    most : m.size ≤ max_lines
    most = let e = is.attached.most in omega (arith, e, size)

    left_is : directory.left ≡ entries
    left_is = planned.left ∙ ap (λ (l : List DirectoryEntry). l ++ entries) is.unplanned

    used_room : found.used ≤ directory_words
    used_room =
        let w = use-within m.size (shown m 0) is.opens.used is.opens.super in
        let u = is.used in omega (arith, w, u)

    pub fits : length (spelled_all (had ++ directory.left)) ≤ directory_words
    fits =
        let need = none_of_room DirectoryWords (words_left found) (length (spelled_all entries))
        (unless_room Roots (roots_left found) (root_count entries) None) room in
        let none : length (spelled_all found.left) ≡ 0 =
        ap (λ (l : List DirectoryEntry). length (spelled_all l)) is.unplanned in
        let both = ap (λ (l : List DirectoryEntry). length (spelled_all (had ++ l))) left_is
        ∙ ap length (spelled_both had entries)
        ∙ length-append (spelled_all had) (spelled_all entries) in
        let many = read.used in
        omega (arith, need, none, both, many, used_room)

    -- there is room for what is left
    pub room_left : directory.used + length (spelled_all directory.left) ≤ directory_words
    room_left =
        let both = ap length (spelled_both had directory.left)
        ∙ length-append (spelled_all had) (spelled_all directory.left) in
        let many = read.used in let same_used = planned.used in omega (arith, fits, both, many, same_used)

    pub continues_now : Continues had directory
    continues_now = continues had read.continues

    found_is : with_all no_entries had ≡ entries_in found
    found_is = had_whole m found is.opens is.unplanned is.begins is.used

    pub are_added : AreEntries (entries_in found) entries
    are_added =
        subst (λ (d : Directory). AreEntries d entries) found_is
        (are_later no_entries had entries (subst (λ (l : List DirectoryEntry). AreEntries no_entries (had ++
        l)) left_is continues_now.are))

    the_entries : List Shape → List (List ℕ) → Directory
    the_entries shapes roots = record { shapes = shapes; roots = roots }

    pub entries_same : entries_in now ≡ entries_in directory
    unfolding the_entries
    entries_same = ap (λ ss. the_entries ss now.roots) same.shapes
        ∙ ap (the_entries directory.shapes) same.roots

    pub directory_is : entries_in now ≡ with_all (entries_in found) entries
    directory_is = entries_same ∙ planned.directory

    module _ (durable : AllDurable m) where
      abbrev OfFound : Graph → Directory → Type 0
      OfFound graph d = IsOpened m d lines graph

      begun : HasDurable had directory m
      begun = record {
        known = is.known;
        spells = read.spells;
        used = planned.used ∙ read.used;
        begins = planned.progress ∙ is.begins;
        count = durable 0 3 (omega (arith, enough));
        words = λ i below.
            let u = planned.used in
            durable (directory_line i) (directory_word i) (omega (arith, below, u, used_room, enough));
      }

      pub has_appended : HasAppended had directory now m n
      has_appended = appended had begun fits

      leaves : LeavesGraph stood m
      leaves = durable_leaves stood m enough most durable is.opens.used is.stands_now

      -- ---- stops

      -- the directory that was found, with the first of what is planned
      with_first : (k : ℕ)
          → with_all no_entries (had ++ take k directory.left) ≡ with_all (entries_in found) (take k directory.left)
      with_first k =
          with_both no_entries had (take k directory.left)
          ∙ ap (λ (d : Directory). with_all d (take k directory.left)) found_is

      pub stops_behind : StopsLeave m n (StandsWithFirst before.size (entries_in found) stood entries)
      stops_behind =
          stops_weaker m n (StandsWithSome m.size stood had directory.left)
          (StandsWithFirst before.size (entries_in found) stood entries)
          (growing_stops had directory now stood m n has_appended continues_now leaves)
          (λ c some.
          let long : length directory.left ≡ length entries = ap length left_is in record {
            count = some.0;
            few = (let le = some.1 in omega (arith, le, long));
            stands =
                subst (λ (l : List DirectoryEntry). StandsFor before.size c (with_all_too stood (take some.0 l)))
                left_is
                (subst (λ k. StandsFor k c (with_all_too stood (take some.0 directory.left))) size
                some.2.stands);
            has =
                inr (subst (λ k. Opens k c (with_all (entries_in found) (take some.0 entries))) size
                (subst (λ (l : List DirectoryEntry). Opens m.size c (with_all (entries_in found) (take some.0 l))) left_is
                (subst (λ (d : Directory). Opens m.size c d) (with_first some.0) some.2.opens)));
          })

      -- ---- what is shown

      same_shown : (l w : ℕ) → l < m.size → IsLeft OfDirectory l w → shown n l w ≡ shown m l w
      same_shown l w below left = has_appended.changes.shows is.known l w below left

      object_same : (l w : ℕ) → first_object_line ≤ l → l < m.size → shown n l w ≡ shown m l w
      object_same l w low below =
          same_shown l w below (outside l w (λ zero. absurd (omega (arith, zero, low)))
          (λ from. omega (arith, low)))

      root_same : (r : ℕ) → r < root_slots → shown n (slot_line r) (slot_word r) ≡ shown m (slot_line r)
          (slot_word r)
      root_same r there =
          same_shown (slot_line r) (slot_word r) (omega (arith, there, enough))
          (outside (slot_line r) (slot_word r) (λ zero. absurd (omega (arith, zero)))
          (λ from. absurd (omega (arith, from, there))))

      -- words that show the same in roots and objects correspond to the same
      pub opened_on : (d : Directory) (graph : Graph) → IsOpened m d lines graph → IsOpened n d lines graph
      opened_on d graph opened = record {
        most = let grown = goes.size in omega (arith, most, grown);
        few = let grown = goes.size in let few = opened.few in omega (arith, few, grown);
        nodes = opened.nodes;
        corresponds = λ heap holds.
            let k : Corresponds (found_at lines) d m.size (shown m) heap = opened.corresponds heap holds in
            subst (λ s. Corresponds (found_at lines) d s (shown n) heap) (sym goes.size)
            (corresponds-same (found_at lines) d m.size (shown m) (shown n) heap k (record {
              heads = λ line i r. (let o = k.objects line i r in let high = o.high in
                  object_same line 0 o.low (omega (arith, high)));
              slots = λ line i r j below kept. (let o = k.objects line i r in let low = o.low in let high =
                  o.high in
                  object_same (object_line line j) (object_word j) (omega (arith, low))
                  (omega (arith, high, below)));
              at_roots = root_same;
            }));
      }

      -- ---- what is durable

      stays_durable : (l w : ℕ) → l < m.size → IsLeft OfDirectory l w → IsDurable n l w
      stays_durable l w below left v can =
          ⊎_elim (λ was. durable l w below v was) (λ given. absurd (left v given))
          (has_appended.changes.leaves l w v can)
          ∙ sym (same_shown l w below left)

      fixed_durable : (l w v : ℕ) → IsFixed n l w v → IsDurable n l w
      fixed_durable l w v fixed x can = fixed x can ∙ sym (fixed (shown n l w) (inl refl))

      module _ (nothing_left : now.left ≡ []) where
        count_fixed : IsFixed n 0 3 now.used
        count_fixed =
            (subst (λ (l : List DirectoryEntry). NextStands l now.progress now.used n) nothing_left
            has_appended.on.stands.next).1

        whole : StandsWith m.size stood had directory.left (shown n)
        whole = whole_stands had directory now stood m n has_appended continues_now leaves nothing_left
            (shown n) (λ l w. inl refl)

        used_durable : (i : ℕ) → i < shown n 0 3 → IsDurable n (directory_line i) (directory_word i)
        used_durable i below =
            let stands = has_appended.on.stands in
            let counted : shown n 0 3 ≡ now.used = count_fixed (shown n 0 3) (inl refl) in
            let many = stands.used in
            fixed_durable (directory_line i) (directory_word i)
            (slice_index_or (spelled_all (had ++ has_appended.on.added)) i 0)
            (stands.words i (omega (arith, below, counted, many)))

        durable_image : IsDurableImage n
        durable_image = record {
          super = λ w few. ⊎_elim
              (λ (low : w < 3). stays_durable 0 w (omega (arith, enough))
              (outside 0 w (λ zero is. omega (arith, low, is)) (λ from. absurd (omega (arith, from)))))
              (λ (three : 3 ≤ w). let at : 3 ≡ w = omega (arith, three, few) in
              subst (λ x. IsDurable n 0 x) at (fixed_durable 0 3 now.used count_fixed))
              (cases_lt w 3);
          entries = used_durable;
          slots = λ r there. stays_durable (slot_line r) (slot_word r) (omega (arith, there, enough))
              (outside (slot_line r) (slot_word r) (λ zero. absurd (omega (arith, zero)))
              (λ from. absurd (omega (arith, from, there))));
          objects = λ l w low below. (let grown = goes.size in
              stays_durable l w (omega (arith, below, grown))
              (outside l w (λ zero. absurd (omega (arith, zero, low))) (λ from. omega (arith, low))));
          counts = λ t there. stays_durable (log_head_line t) 0 (omega (arith, there, enough))
              (outside (log_head_line t) 0 (λ zero. absurd (omega (arith, zero))) (λ from. omega arith));
        }

        pub ready : (graph : Graph) → IsOpened m (entries_in now) lines graph → AllKnown n
            → IsReadyImage start n (entries_in now) lines graph free
        ready graph opened known = record {
          same_size = goes.size ∙ size ∙ is.attached.size;
          opens = subst (λ s. Opens s (shown n) (entries_in now)) (sym goes.size)
              (subst (Opens m.size (shown n)) (continues_now.whole ∙ sym entries_same) whole.opens);
          unlogged = λ t there.
              same_shown (log_head_line t) 0 (omega (arith, there, enough))
              (outside (log_head_line t) 0 (λ zero. absurd (omega (arith, zero))) (λ from. omega arith))
              ∙ is.unlogged t there;
          opened = opened_on (entries_in now) graph opened;
          durable = λ tells. durable_image;
          size = let grown = goes.size in omega (arith, enough, grown);
          known = known;
          counts = goes.counts start.calls (is.goes_on.counts start.calls is.attached.counts);
          few =
              let first = is.attached.calls in let sized = is.attached.size in let large = is.attached.most in
              (goes.calls (is.goes_on.calls (omega (arith, first, sized, large))).1).1;
          free_is =
              let heap : Heap = heap_of graph in
              let k : Corresponds (found_at lines) (entries_in now) m.size (shown m) heap =
              opened.corresponds heap (heap_holds graph) in
              is.free_is ∙ sym (same_free (shown m) (shown n) lines (λ i below.
              (let o = k.objects (slice_index_or lines i 0) i (below, refl) in let high = o.high in
              object_same (slice_index_or lines i 0) 0 o.low (omega (arith, high)))));
        }
