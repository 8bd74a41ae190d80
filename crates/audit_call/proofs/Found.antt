-- An image that was found for a class set, and is given back: a run of the set can begin with its graph.
use Rattle.std.proofs.Common.{◌≡◌, ℕ, true, List, ◌++◌, slice_index_or, refl, sym, ap, ◌∙◌, subst, arith}
use Rattle.std.proofs.Common.{length, drop}
use Rattle.std.specs.Prelude.{All, Contains}
use Rattle.std.proofs.lemmas.List.{length-map}
use Rattle.graph_model.specs.declared.types.Graph.{Graph}
use Rattle.graph_model.specs.declared.types.NamedValue.{NamedValue}
use Rattle.graph_model.specs.declared.types.Shape.{Shape}
use Rattle.graph_model.specs.Heaps.{no_shape}
use Rattle.line_image.specs.Told.{Told}
use Rattle.line_memory.specs.Memory.{Memory, shown}
use Rattle.image_meaning.specs.Appending.{with_all_too}
use Rattle.image_meaning.specs.Directories.{AreEntries, Directory, no_entries, with_all}
use Rattle.image_meaning.specs.Entries.{DirectoryEntry, is_array_name}
use Rattle.plain_model.specs.First.{IsOpening}
use Rattle.class_file.specs.declared.class.ClassFile.{ClassFile}
use Rattle.class_file.specs.Classes.{HasAtMost}
use Rattle.class_set.specs.Facts.{facts_of}
use Rattle.class_set.specs.Linked.{Linked, names_of}
use Rattle.class_set.specs.Sets.{made_of}
use Rattle.directories.specs.ClassSets.{IsPlannedFor}
use Rattle.directories.specs.Kept.{Kept}
use Rattle.directories.specs.Planning.{HasRead, lacking}
use Rattle.image_recovery.specs.Recovered.{entries_in}
use Rattle.set_opening.specs.Passed.{AppendedImagesAreOpened}
use Rattle.set_opening.specs.Passed.{IsOpened}
use Rattle.set_opening.specs.Fitted.{AllAgree, IsFitted, with_null_roots}
use Rattle.set_opening.specs.Found.{IsFound}
use Rattle.set_opening.specs.Opened.{IsFoundFor, SuitsSet}
use Rattle.set_opening.specs.Unopened.{IsUnbegun}
use Rattle.set_opening.proofs.Arrays.{arrays_files, arrays_named}
use Rattle.set_opening.proofs.Names.{roots_added}
use Rattle.set_opening.proofs.Opened.{found_left, found_roots, found_shapes}
use Rattle.set_opening.proofs.Ready.{are_later, had_whole, roots_apart, shapes_apart, was_read}
use Rattle.set_opening.proofs.Suits.{agrees_on, suits}
use Rattle.audit_call.proofs.MoreArrays.{opens_still}

-- the graph that was made ready has a null root for each root of the set that the directory lacked
pub graph_grown : (start : Told) (old set : Linked) (before m : Memory) (found directory : Kept) (stood graph : Graph) (lines : List ℕ)
    (free : ℕ) → IsFound start before m found stood lines free → (fitted : IsFitted old set found directory stood graph)
    → graph ≡ with_all_too stood (lacking (entries_in found) fitted.planned.entries)
graph_grown start old set before m found directory stood graph lines free is fitted =
    let added = lacking (entries_in found) fitted.planned.entries in
    let many : length stood.roots ≡ length found.roots =
    sym (length-map stood.roots (λ (root : NamedValue). root.name))
    ∙ ap (λ (names : List (List ℕ)). length names) (found_roots start before m found stood lines free is) in
    fitted.graph_is
    ∙ ap (λ (names : List (List ℕ)). with_null_roots stood (drop (length stood.roots) names))
    (ap (λ (d : Directory). d.roots) fitted.planned.planned.directory)
    ∙ roots_added stood (entries_in found) added many

module _ (start : Told) (old set : Linked) (m : Memory) (directory : Kept) (lines : List ℕ) (graph : Graph) (free : ℕ)
    (is : IsFoundFor start old set m directory lines graph free) where
  abbrev plan : IsPlannedFor (facts_of set) (made_of set) is.found directory
  plan = is.fitted.planned

  abbrev added : List DirectoryEntry
  added = lacking (entries_in is.found) plan.entries

  abbrev whole : Directory
  whole = with_all (entries_in is.found) added

  abbrev read : HasRead (shown m) is.found
  read = was_read m is.found is.found_is.opens is.found_is.unplanned is.found_is.begins is.found_is.used

  left_is : directory.left ≡ added
  left_is = plan.planned.left ∙ ap (λ (l : List DirectoryEntry). l ++ added) is.found_is.unplanned

  -- the planned entries may stand in the directory, one behind the other
  are_added : AreEntries (entries_in is.found) added
  are_added =
      subst (λ (d : Directory). AreEntries d added)
      (had_whole m is.found is.found_is.opens is.found_is.unplanned is.found_is.begins is.found_is.used)
      (are_later no_entries read.had added
      (subst (λ (l : List DirectoryEntry). AreEntries no_entries (read.had ++ l)) left_is (is.continues read.had read.continues).are))

  grown : graph ≡ with_all_too is.stood added
  grown = graph_grown start old set is.before m is.found directory is.stood graph lines free is.found_is is.fitted

  -- with them, a run over it could begin
  opened : AppendedImagesAreOpened → IsOpened m whole lines graph
  opened law =
      subst (λ (g : Graph). IsOpened m whole lines g) (sym grown)
      (law m m (entries_in is.found) added lines is.stood is.found_is.opened refl
      (record { roots = λ r there. refl; objects = λ l w low. refl }) are_added)

  agree : AllAgree (facts_of set) is.found.shapes
  agree k below =
      agrees_on old set (slice_index_or is.found.shapes k no_shape)
      (ap (λ (s : Linked). s.files) is.fitted.set_is ∙ arrays_files old is.found.shapes) (is.fitted.agree k below)

  numbered : (shape : Shape) → Contains is.found.shapes shape → is_array_name shape.name ≡ true
      → Contains (names_of set) shape.name
  numbered shape there array =
      subst (λ (s : Linked). Contains (names_of s) shape.name) (sym is.fitted.set_is)
      (arrays_named old is.found.shapes shape there array)

  suited : AppendedImagesAreOpened → SuitsSet set whole graph
  suited law =
      suits set is.fitted.linked (entries_in is.found) plan.entries
      (found_shapes start is.before m is.found is.stood lines free is.found_is) agree numbered plan.are_its m lines graph
      is.fitted.few
      (let most = is.found_is.opened.most in omega (arith, most)) (opened law) are_added
      (shapes_apart m is.found is.found_is.opens is.found_is.unplanned is.found_is.begins is.found_is.used)
      (roots_apart m is.found is.found_is.opens is.found_is.unplanned is.found_is.begins is.found_is.used)

  -- so one can begin with its graph
  pub found_opens : AppendedImagesAreOpened → IsOpening (facts_of set) graph
  found_opens law = (suited law).opening

  -- and with one with which a run of the set could begin before
  pub still_opens : (opening : Graph) → IsOpening (facts_of old) opening → IsOpening (facts_of set) opening
  still_opens opening opens =
      subst (λ (s : Linked). IsOpening (facts_of s) opening) (sym is.fitted.set_is)
      (opens_still old is.found.shapes opening opens)

  -- the files are the same
  pub still_small : All (HasAtMost 1048576) old.files → All (HasAtMost 1048576) set.files
  still_small small =
      subst (λ (files : List ClassFile). All (HasAtMost 1048576) files)
      (sym (ap (λ (s : Linked). s.files) is.fitted.set_is ∙ arrays_files old is.found.shapes)) small

  -- it is given back as its recovery left it
  abbrev pub unbegun : (after : Told) → after.size ≡ m.size → after ≡ m.image → IsUnbegun start after old set
  unbegun after size told = record {
    found = is.found;
    directory = directory;
    stood = is.stood;
    graph = graph;
    left = found_left start is.before m is.found is.stood lines free is.found_is after size told;
    fitted = is.fitted;
  }
