-- All of it together: an image that was opened, and one that couldn't be.
use Rattle.std.proofs.Common.{◌≡◌, ℕ, ◌≤◌, true, List, [], ◌++◌, Ok, Result, map, drop, length, slice_index_or, refl, sym, ap}
use Rattle.std.proofs.Common.{◌∙◌, subst, arith}
use Rattle.std.specs.Prelude.{All, Contains}
use Rattle.std.proofs.lemmas.List.{length-map}
use Rattle.graph_model.specs.declared.types.Graph.{Graph}
use Rattle.graph_model.specs.declared.types.NamedValue.{NamedValue}
use Rattle.graph_model.specs.declared.types.Shape.{Shape}
use Rattle.graph_model.specs.Heaps.{no_shape}
use Rattle.line_image.specs.Told.{Told}
use Rattle.line_memory.specs.Memory.{IsTelling, Memory, shown}
use Rattle.image_layout.specs.Places.{directory_words}
use Rattle.image_meaning.specs.Appending.{with_all_too}
use Rattle.image_meaning.specs.Checks as checks
use Rattle.image_meaning.specs.Directories.{AreEntries, Directory, spelled_all, with_all}
use Rattle.image_meaning.specs.Entries.{DirectoryEntry, IsShape, is_array_name}
use Rattle.image_meaning.specs.Meaning.{StandsFor, meaning}
use Rattle.word_changes.specs.Changes.{AllKnown, GoesOn, StopsLeave}
use Rattle.word_changes.proofs.Changing.{stops_then}
use Rattle.word_changes.proofs.Going.{goes_more}
use Rattle.class_set.specs.Linked.{Linked, names_of}
use Rattle.class_set.specs.Facts.{facts_of}
use Rattle.class_set.specs.Sets.{made_of}
use Rattle.directories.specs.ClassSets.{IsPlannedFor}
use Rattle.directories.specs.Growing.{HasAppended, HasDurable}
use Rattle.directories.specs.Kept.{Continues, Kept, SameEntries}
use Rattle.directories.specs.Planning.{lacking}
use Rattle.image_recovery.specs.Recovered.{entries_in}
use Rattle.set_opening.specs.Arrays.{with_arrays_of}
use Rattle.set_opening.specs.Fitted.{AllAgree, IsFitted, with_null_roots}
use Rattle.set_opening.specs.Found.{HasDirectory, IsDirectoryIn, IsFound}
use Rattle.set_opening.specs.Opened.{IsOpenedFor, StandsWithFirst, SuitsSet}
use Rattle.first_spaces.specs.Laws.{AppendedImagesAreOpened}
use Rattle.first_spaces.specs.Opened.{IsOpened}
use Rattle.set_opening.specs.Unopened.{IsLeft, IsLeftAsFound}
use Rattle.set_opening.proofs.Arrays.{arrays_files, arrays_named}
use Rattle.set_opening.proofs.Names.{roots_added}
use Rattle.set_opening.proofs.Openings.{opened_names}
use Rattle.set_opening.proofs.Recovered.{one_directory, stops_with_none}
use Rattle.set_opening.proofs.Ready.{are_added, directory_is, ready, roots_apart, shapes_apart, shapes_are, stops_behind}
use Rattle.set_opening.proofs.Suits.{agrees_on, all_agree, suits}

same_graph : {A : Type 0} (given : Result A checks.Bad) (x y : A) → given ≡ Ok x → given ≡ Ok y → x ≡ y
same_graph {A} given x y a b = let left : Result A checks.Bad = Ok x in let e : left ≡ Ok y = sym a ∙ b in cc

-- array types that have numbers have no part in which shapes agree
pub agree_before : (old : Linked) (numbered shapes : List Shape) → AllAgree (facts_of (with_arrays_of old numbered)) shapes
    → AllAgree (facts_of old) shapes
agree_before old numbered shapes agree k below =
    agrees_on (with_arrays_of old numbered) old (slice_index_or shapes k no_shape) (sym (arrays_files old numbered)) (agree k below)

-- ---- what was found

module _ (start : Told) (before m : Memory) (directory : Kept) (graph : Graph) (lines : List ℕ) (free : ℕ)
    (is : IsFound start before m directory graph lines free) where
  pub found_shapes : All IsShape directory.shapes
  found_shapes = shapes_are m directory is.opens is.unplanned is.begins is.used

  pub found_roots : map (λ (root : NamedValue). root.name) graph.roots ≡ directory.roots
  found_roots = opened_names m (entries_in directory) lines graph is.opened

  -- each stop leaves an image that has the same directory, and stands for the same graph
  pub found_stops : IsTelling start.trace → (entries : List DirectoryEntry) (other : Graph) (spelled : Directory)
      → StandsFor before.size (shown before) other → IsDirectoryIn (shown before) spelled
      → StopsLeave before m (StandsWithFirst before.size spelled other entries)
  found_stops tells entries other spelled stands spells =
      let same : graph ≡ other = same_graph (meaning before.size (shown before)) graph other is.stands stands in
      let one : entries_in directory ≡ spelled =
      one_directory (shown before) (entries_in directory) spelled is.found_is spells in
      stops_with_none before m spelled other entries
      (subst (λ (g : Graph). StopsLeave before m (λ c. StandsFor before.size c g)) same (is.stops tells))
      (subst (λ (d : Directory). StopsLeave before m (λ c. HasDirectory before.size c d)) one (is.directory_stays tells))

  pub found_left : (after : Told) → after.size ≡ m.size → after ≡ m.image → IsLeftAsFound start after directory graph
  found_left after sized told = record {
    before = before;
    memory = m;
    lines = lines;
    free = free;
    found = is;
    left = record {
      attached = is.attached;
      size = sized ∙ is.goes_on.size ∙ is.attached.size;
      told = told;
      goes_on = is.goes_on;
      stops = λ tells other spelled stands spells. found_stops tells [] other spelled stands spells;
    };
  }

-- ---- what was made ready, and appended

module _ (start : Told) (before m n : Memory) (found directory now : Kept) (stood graph : Graph)
    (lines : List ℕ) (free : ℕ)
    (old set : Linked) (is : IsFound start before m found stood lines free)
    (fitted : IsFitted old set found directory stood graph)
    (continues : (had : List DirectoryEntry) → Continues had found → Continues had directory)
    (same : SameEntries directory now) (goes : GoesOn m n)
    (appended : (had : List DirectoryEntry) → HasDurable had directory m
    → length (spelled_all (had ++ directory.left)) ≤ directory_words → HasAppended had directory now m n)
  where
    abbrev plan : IsPlannedFor (facts_of set) (made_of set) found directory
    plan = fitted.planned

    abbrev added : List DirectoryEntry
    added = lacking (entries_in found) plan.entries

    abbrev whole : Directory
    whole = with_all (entries_in found) added

    are : AreEntries (entries_in found) added
    are = are_added start before m n found directory now stood lines free added is plan.planned plan.room
        continues same goes appended

    is_whole : entries_in now ≡ whole
    is_whole = directory_is start before m n found directory now stood lines free added is plan.planned
        plan.room continues same goes appended

    many_roots : length stood.roots ≡ length found.roots
    many_roots =
        sym (length-map stood.roots (λ (root : NamedValue). root.name))
        ∙ ap (λ (names : List (List ℕ)). length names) (found_roots start before m found stood lines free is)

    graph_grown : graph ≡ with_all_too stood added
    graph_grown =
        fitted.graph_is
        ∙ ap (λ (names : List (List ℕ)). with_null_roots stood (drop (length stood.roots) names))
        (ap (λ (d : Directory). d.roots) plan.planned.directory)
        ∙ roots_added stood (entries_in found) added many_roots

    -- each stop leaves some of the new entries, in order
    pub all_stops : IsTelling start.trace → (other : Graph) (spelled : Directory) → StandsFor before.size (shown before) other
        → IsDirectoryIn (shown before) spelled → StopsLeave before n (StandsWithFirst before.size spelled other added)
    all_stops tells other spelled stands spells =
        let alike : stood ≡ other = same_graph (meaning before.size (shown before)) stood other is.stands
        stands in
        let one : entries_in found ≡ spelled =
        one_directory (shown before) (entries_in found) spelled is.found_is spells in
        stops_then before m n (StandsWithFirst before.size spelled other added)
        (found_stops start before m found stood lines free is tells added other spelled stands spells)
        (subst (λ (d : Directory). StopsLeave m n (StandsWithFirst before.size d other added)) one
        (subst (λ (g : Graph). StopsLeave m n (StandsWithFirst before.size (entries_in found) g added)) alike
        (stops_behind start before m n found directory now stood lines free added is plan.planned plan.room
        continues same goes appended is.durable)))

    pub unappended : (after : Told) → after.size ≡ n.size → after ≡ n.image
        → IsLeft start after before n added
    unappended after sized told = record {
      size = sized ∙ goes.size ∙ is.goes_on.size ∙ is.attached.size;
      attached = is.attached;
      told = told;
      goes_on = goes_more before m n is.goes_on goes;
      stops = all_stops;
    }

    agree : AllAgree (facts_of set) found.shapes
    agree k below =
        agrees_on old set (slice_index_or found.shapes k no_shape)
        (ap (λ (s : Linked). s.files) fitted.set_is ∙ arrays_files old found.shapes) (fitted.agree k below)

    numbered : (shape : Shape) → Contains found.shapes shape → is_array_name shape.name ≡ true
        → Contains (names_of set) shape.name
    numbered shape there array =
        subst (λ (s : Linked). Contains (names_of s) shape.name) (sym fitted.set_is)
        (arrays_named old found.shapes shape there array)

    -- each shape of the whole directory agrees with the set
    pub agree_whole : AllAgree (facts_of set) whole.shapes
    agree_whole n below =
        all_agree set fitted.linked (entries_in found) plan.entries
        (found_shapes start before m found stood lines free is) agree numbered plan.are_its n no_shape below

    module _ (law : AppendedImagesAreOpened) where
      opens : IsOpened m whole lines (with_all_too stood added)
      opens = law m m (entries_in found) added lines stood is.opened refl (record {
        roots =
            λ r there. refl;
        objects = λ l w low. refl;
      }) are

      opened : IsOpened m whole lines graph
      opened = subst (λ (g : Graph). IsOpened m whole lines g) (sym graph_grown) opens

      suited : SuitsSet set whole graph
      suited =
          suits set fitted.linked (entries_in found) plan.entries
          (found_shapes start before m found stood lines free is) agree numbered plan.are_its m lines graph
          fitted.few
          (let most = is.opened.most in omega (arith, most)) opened are
          (shapes_apart m found is.opens is.unplanned is.begins is.used)
          (roots_apart m found is.opens is.unplanned is.begins is.used)

      all_agree_now : AllAgree (facts_of set) now.shapes
      all_agree_now = subst (λ (d : Directory). AllAgree (facts_of set) d.shapes) (sym is_whole) agree_whole

      pub is_opened_for : now.left ≡ [] → AllKnown n → IsOpenedFor start old set n now lines graph free
      is_opened_for nothing_left known = record {
        before = before;
        attached = is.attached;
        stood = stood;
        stands = is.stands;
        found = entries_in found;
        found_is = is.found_is;
        set_is = fitted.set_is;
        entries = plan.entries;
        are_its = plan.are_its;
        directory_is = is_whole;
        nothing_left = nothing_left;
        graph_is = graph_grown;
        stops = λ tells. all_stops tells stood (entries_in found) is.stands is.found_is;
        ready =
            ready start before m n found directory now stood lines free added is plan.planned plan.room
            continues same goes appended
            is.durable nothing_left graph (subst (λ (d : Directory). IsOpened m d lines graph)
            (sym is_whole) opened) known;
        suits = subst (λ (d : Directory). SuitsSet set d graph) (sym is_whole) suited;
        agree = all_agree_now;
        goes_on = goes_more before m n is.goes_on goes;
      }
