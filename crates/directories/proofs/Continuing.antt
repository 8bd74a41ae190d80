-- Entries that are read and planned go on as those of a directory.
use Rattle.std.proofs.Common.{◌+◌, ◌≡◌, ◌≢◌, inl, inr, ◌⊎◌, ⊎_elim, ◌<◌, ◌≤◌, ◌-◌, ℕ, suc, Bool, true, false, Option, None, Ok}
use Rattle.std.proofs.Common.{List, [], ◌∷◌, ◌++◌, length, map, refl, sym, ◌∙◌, ap, subst, append_assoc, arith, slice_index_or}
use Rattle.std.specs.List.{list_any, AllByRecursion}
use Rattle.std.specs.Str.{bytes_eq}
use Rattle.std.proofs.lemmas.Bool.{lt-leb, le-ltb}
use Rattle.std.proofs.lemmas.List.{append-nil, length-append, map-append}
use Rattle.std.proofs.lemmas.List.FromFn.{length-map-range_with_len, get_or-map-range_with_len}
use Rattle.std.proofs.lemmas.Slice.Eq.{bytes_eq-Decides}
use Rattle.graph_model.specs.declared.types.Shape.{Shape}
use Rattle.run_types.specs.declared.fault.Full.{Full}
use Rattle.run_types.specs.declared.fault.Which.{Which}
use Rattle.run_types.specs.declared.fault.Which.TheVariants.{DirectoryWords, Roots}
use Rattle.image_layout.specs.Places.{root_slots, directory_words, directory_line, directory_word}
use Rattle.image_meaning.specs.Checks.{Words}
use Rattle.image_meaning.specs.Entries.{DirectoryEntry, ShapeEntry, RootEntry}
use Rattle.image_meaning.specs.Directories.{Directory, no_entries, has_name, is_refused, with_entry, with_all, with_entries}
use Rattle.image_meaning.specs.Directories.{directory_words_of, spelled_all, AreEntries}
use Rattle.image_meaning.proofs.Directories.{entries-taken}
use Rattle.directories.specs.Kept.{Kept, Continues}
use Rattle.directories.specs.Read.{IsDirectory, the_directory}
use Rattle.directories.proofs.Grows.{spelled_both}
use Rattle.directories.specs.Planning.{has_entry, lacking, directory_of_kept, root_count, unless_room, no_room, words_left}
use Rattle.directories.specs.Planning.{roots_left, IsPlanned, AreOthers, CanBePlanned, HasRead}
use Rattle.directories.proofs.Plans.{none_of_room, entries_few}

-- ---- names

bool_or : (b : Bool) → (b ≡ true) ⊎ (b ≡ false)
bool_or true = inl refl
bool_or false = inr refl

any_more : (p : List ℕ → Bool) (xs : List (List ℕ)) (x : List ℕ) → p x ≡ false → list_any p (xs ++ x ∷ []) ≡ list_any p xs
any_more p [] x not_it = rw not_it refl
any_more p (y ∷ xs) x not_it = rw (any_more p xs x not_it) refl

other_name : (names : List (List ℕ)) (a name : List ℕ) → a ≢ name → has_name (names ++ a ∷ []) name ≡ has_name names name
other_name names a name other = any_more (bytes_eq name) names a
    (⊎_elim
    (λ (same : bytes_eq name a ≡ true). absurd (other (sym ((bytes_eq-Decides name a).0 same))))
    (λ (differs : bytes_eq name a ≡ false). differs)
    (bool_or (bytes_eq name a)))

-- another entry doesn't come in by one that is taken
other_entry : (directory : Directory) (entry x : DirectoryEntry) → AreOthers entry x → has_entry (with_entry directory entry) x ≡ has_entry directory x
other_entry directory (ShapeEntry a) (ShapeEntry b) other =
    ap (λ (names : List (List ℕ)). has_name names b.name) (map-append (λ (s : Shape). s.name) directory.shapes (a ∷ []))
    ∙ other_name (map (λ (s : Shape). s.name) directory.shapes) a.name b.name other
other_entry directory (ShapeEntry a) (RootEntry b) other = refl
other_entry directory (RootEntry a) (ShapeEntry b) other = refl
other_entry directory (RootEntry a) (RootEntry b) other = other_name directory.roots a b other

same_lacking : (directory : Directory) (entry : DirectoryEntry) (xs : List DirectoryEntry) → AllByRecursion (AreOthers entry) xs
    → lacking (with_entry directory entry) xs ≡ lacking directory xs
same_lacking directory entry [] others = refl
same_lacking directory entry (x ∷ xs) others =
    rw (other_entry directory entry x others.0, same_lacking directory entry xs others.1) refl

-- ---- what is lacking may stand there

are_lacking : (directory : Directory) (xs : List DirectoryEntry) → CanBePlanned xs
    → root_count (lacking directory xs) ≤ root_slots - length directory.roots → AreEntries directory (lacking directory xs)
are_lacking directory [] can room = tt
are_lacking directory (ShapeEntry shape ∷ xs) can room = ⊎_elim
    (λ (old : has_entry directory (ShapeEntry shape) ≡ true). rw old (are_lacking directory xs can.2 (rw old at room)))
    (λ (new : has_entry directory (ShapeEntry shape) ≡ false).
    let same = same_lacking directory (ShapeEntry shape) xs can.1 in
    let fits : root_count (lacking directory xs) ≤ root_slots - length directory.roots = rw new at room in
    let more = are_lacking (with_entry directory (ShapeEntry shape)) xs can.2 (rw same fits) in
    rw new (can.0, new, rw same at more))
    (bool_or (has_entry directory (ShapeEntry shape)))
are_lacking directory (RootEntry name ∷ xs) can room = ⊎_elim
    (λ (old : has_entry directory (RootEntry name) ≡ true). rw old (are_lacking directory xs can.2 (rw old at room)))
    (λ (new : has_entry directory (RootEntry name) ≡ false).
    let same = same_lacking directory (RootEntry name) xs can.1 in
    let fits : suc (root_count (lacking directory xs)) ≤ root_slots - length directory.roots = rw new at room in
    let free : length directory.roots < root_slots = omega (arith, fits) in
    let less : root_count (lacking directory xs) ≤ root_slots - length (directory.roots ++ name ∷ []) =
    omega (arith, fits, length-append directory.roots (name ∷ [])) in
    let more = are_lacking (with_entry directory (RootEntry name)) xs can.2 (rw same less) in
    let accepted : is_refused directory (RootEntry name) ≡ false = rw (new, lt-leb root_slots (length directory.roots) free) refl in
    rw new (can.0, accepted, rw same at more))
    (bool_or (has_entry directory (RootEntry name)))

-- ---- what is planned

later_of_room : (which : Which) (left need : ℕ) (later : Option Full) → unless_room which left need later ≡ None → later ≡ None
later_of_room which left need later none =
    let fits = none_of_room which left need later none in
    rw (le-ltb left need fits) at none

are_both : (directory : Directory) (xs ys : List DirectoryEntry) → AreEntries directory xs → AreEntries (with_all directory xs) ys
    → AreEntries directory (xs ++ ys)
are_both directory [] ys first second = second
are_both directory (x ∷ xs) ys first second = (first.0, first.1, are_both (with_entry directory x) xs ys first.2 second)

with_both : (directory : Directory) (xs ys : List DirectoryEntry) → with_all directory (xs ++ ys) ≡ with_all (with_all directory xs) ys
with_both directory [] ys = refl
with_both directory (x ∷ xs) ys = with_both (with_entry directory x) xs ys

pub planned_continue : (had entries : List DirectoryEntry) (old new : Kept) → Continues had old → CanBePlanned entries
    → IsPlanned (lacking (directory_of_kept old) entries) old new → no_room old (lacking (directory_of_kept old) entries) ≡ None
    → Continues had new
planned_continue had entries old new before can plan room =
    let lack = lacking (directory_of_kept old) entries in
    let some : root_count lack ≤ root_slots - length old.roots =
    none_of_room Roots (roots_left old) (root_count lack) None
    (later_of_room DirectoryWords (words_left old) (length (spelled_all lack)) (unless_room Roots (roots_left old) (root_count lack) None) room) in
    let are = are_lacking (directory_of_kept old) entries can some in
    let on : had ++ new.left ≡ (had ++ old.left) ++ lack =
    ap (λ (l : List DirectoryEntry). had ++ l) plan.left ∙ sym (append_assoc had old.left lack) in
    record {
      are = subst (λ (l : List DirectoryEntry). AreEntries no_entries l) (sym on)
          (are_both no_entries (had ++ old.left) lack before.are (subst (λ (d : Directory). AreEntries d lack) (sym before.whole) are));
      whole = ap (λ (l : List DirectoryEntry). with_all no_entries l) on ∙ with_both no_entries (had ++ old.left) lack
          ∙ ap (λ (d : Directory). with_all d lack) before.whole ∙ sym plan.directory;
    }

-- ---- what is read

pub read_continue : (words : Words) (used : ℕ) (kept : Kept) → words 0 3 ≡ used
    → IsDirectory used (with_entries used 0 no_entries (directory_words_of words used)) kept → HasRead words kept
read_continue words used kept counts is =
    let taken = entries-taken used 0 no_entries (directory_of_kept kept) (directory_words_of words used) is.entries in
    let had = taken.0 in
    let many : length (spelled_all had) ≡ used =
    ap (λ (l : List ℕ). length l) (sym taken.1) ∙ length-map-range_with_len (λ i. words (directory_line i) (directory_word i)) 0 used in
    let all : had ++ kept.left ≡ had = ap (λ (l : List DirectoryEntry). had ++ l) is.left ∙ append-nil had in
    record {
      had = had;
      spells = record {
        used = counts ∙ sym many;
        spelled = λ i below.
            sym (get_or-map-range_with_len (λ i. words (directory_line i) (directory_word i)) 0 used i i 0 (omega (arith, below, many)) (omega arith))
            ∙ ap (λ (l : List ℕ). slice_index_or l i 0) taken.1;
      };
      used = is.used ∙ sym many;
      continues = record {
        are = subst (λ (l : List DirectoryEntry). AreEntries no_entries l) (sym all) taken.2;
        whole = ap (λ (l : List DirectoryEntry). with_all no_entries l) all ∙ sym taken.3;
      };
    }

-- ---- how many shapes there are

shapes_few : (directory : Directory) (entries : List DirectoryEntry)
    → length (with_all directory entries).shapes ≤ length directory.shapes + length entries
shapes_few directory [] = omega arith
shapes_few directory (ShapeEntry shape ∷ entries) =
    omega (arith, shapes_few (with_entry directory (ShapeEntry shape)) entries, length-append directory.shapes (shape ∷ []))
shapes_few directory (RootEntry name ∷ entries) = omega (arith, shapes_few (with_entry directory (RootEntry name)) entries)

-- the shapes of entries are no more than their words
pub spelled_few : (entries : List DirectoryEntry) → length (with_all no_entries entries).shapes ≤ length (spelled_all entries)
spelled_few entries = omega (arith, entries_few entries, shapes_few no_entries entries)

pub planned_few : (left lack all : List DirectoryEntry) (shapes : List Shape) (roots : List (List ℕ)) → all ≡ left ++ lack
    → the_directory shapes roots ≡ with_all no_entries lack
    → length (spelled_all left) + length shapes ≤ length (spelled_all all)
planned_few left lack all shapes roots is names =
    omega (
      arith,
      spelled_few lack,
      ap (λ (d : Directory). length d.shapes) names,
      ap (λ (xs : List DirectoryEntry). length (spelled_all xs)) is,
      ap length (spelled_both left lack),
      length-append (spelled_all left) (spelled_all lack),
    )

-- what is read has no more shapes than words
pub read_few : (n : ℕ) (directory : Directory) (words : List ℕ) → with_entries n 0 no_entries words ≡ Ok directory
    → length directory.shapes ≤ length words
read_few n directory words is =
    let taken = entries-taken n 0 no_entries directory words is in
    omega (arith, spelled_few taken.0, ap (λ (l : List ℕ). length l) taken.1, ap (λ (d : Directory). length d.shapes) taken.3)
