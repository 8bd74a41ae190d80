-- A run can begin over an image that was opened; and one that couldn't be opened.
use Rattle.std.proofs.Common.{◌≡◌, ◌≢◌, ⊎_elim, inl, inr, ℕ, List, [], Result, Ok, sym, refl, ◌∙◌, subst, arith}
use Rattle.std.proofs.lemmas.Bool.{cases_eq}
use Rattle.graph_model.specs.declared.types.Graph.{Graph}
use Rattle.line_image.specs.Told.{Told}
use Rattle.line_memory.specs.Memory.{Memory, shown}
use Rattle.image_layout.specs.declared.superblock.BadReason.TheVariants.{Size}
use Rattle.image_meaning.specs.Checks.{Bad, Words}
use Rattle.image_meaning.specs.Directories.{Directory, directory_of, no_entries}
use Rattle.image_meaning.specs.Entries.{DirectoryEntry}
use Rattle.image_meaning.specs.Laws.{Opens}
use Rattle.image_meaning.specs.Meaning.{StandsFor, empty_graph}
use Rattle.image_meaning.proofs.Standing.{opens-standing}
use Rattle.line_image.specs.Trace.{Outcome}
use Rattle.word_changes.specs.Changes.{StopsLeave}
use Rattle.word_changes.proofs.Changing.{stops_weaker}
use Rattle.directories.specs.Kept.{Kept}
use Rattle.image_recovery.specs.Recovered.{entries_in}
use Rattle.image_opening.specs.declared.not_opened.NotOpened.{NotOpened}
use Rattle.image_opening.specs.declared.not_opened.NotOpened.TheVariants as opening
use Rattle.image_opening.specs.Opened.{IsOpenImage}
use Rattle.image_opening.specs.Unopened as of_opening
use Rattle.first_spaces.specs.Opened.{IsOpened}
use Rattle.first_spaces.specs.Laws.{EmptyImagesAreOpened, FoundImagesAreOpened}
use Rattle.set_opening.specs.declared.unopened.Unopened.{Unopened}
use Rattle.set_opening.specs.declared.unopened.Unopened.TheVariants.{BadImage}
use Rattle.set_opening.specs.Found.{HasDirectory, IsDirectoryIn, IsFound}
use Rattle.set_opening.specs.Opened.{StandsWithFirst}
use Rattle.set_opening.specs.Unopened.{IsAttachFault, IsOfOpening, IsRecoveryFault, IsUnattached, IsUnfound}
use Rattle.set_opening.specs.Unopened.{IsUnrecovered}

-- ---- the directory that words spell

same_value : {A : Type 0} (given : Result A Bad) (x y : A) → given ≡ Ok x → given ≡ Ok y → x ≡ y
same_value {A} given x y a b = let left : Result A Bad = Ok x in let e : left ≡ Ok y = sym a ∙ b in cc

-- they spell one
pub one_directory : (words : Words) (a b : Directory) → IsDirectoryIn words a → IsDirectoryIn words b → a ≡ b
one_directory words a b one other = ⊎_elim
    (λ (zero : words 0 0 ≡ 0). one.0 zero ∙ sym (other.0 zero))
    (λ (used : words 0 0 ≢ 0). same_value (directory_of words) a b (one.1 used) (other.1 used))
    (cases_eq (words 0 0) 0)

-- those of an image that stands for a graph spell some
pub standing_spells : (size : ℕ) (words : Words) (graph : Graph) → StandsFor size words graph
    → (directory : Directory) × IsDirectoryIn words directory
standing_spells size words graph stands = ⊎_elim
    (λ (zero : words 0 0 ≡ 0). (no_entries, (λ blank. refl, λ used. absurd (used zero))))
    (λ (used : words 0 0 ≢ 0).
    let o = opens-standing size words graph used stands in (o.0, (λ blank. absurd (used blank), λ not_blank. o.1.entries)))
    (cases_eq (words 0 0) 0)

-- and it has that
pub standing_has : (size : ℕ) (words : Words) (graph : Graph) (directory : Directory) → StandsFor size words graph
    → IsDirectoryIn words directory → HasDirectory size words directory
standing_has size words graph directory stands spells = ⊎_elim
    (λ (zero : words 0 0 ≡ 0). inl (zero, spells.0 zero))
    (λ (used : words 0 0 ≢ 0).
    let o = opens-standing size words graph used stands in
    inr (subst (λ (d : Directory). Opens size words d)
    (same_value (directory_of words) o.0 directory o.1.entries (spells.1 used)) o.1))
    (cases_eq (words 0 0) 0)

-- what it has, the words spell
pub has_spells : (size : ℕ) (words : Words) (directory : Directory) → HasDirectory size words directory → IsDirectoryIn words directory
has_spells size words directory (inl (zero, none)) = (λ blank. none, λ used. absurd (used zero))
has_spells size words directory (inr opens) = (λ blank. absurd (opens.used blank), λ used. opens.entries)

-- ---- stops

pub stops_both : (a b : Memory) (P Q : Outcome → Type 0) → StopsLeave a b P → StopsLeave a b Q → StopsLeave a b (λ c. P c × Q c)
stops_both a b P Q first second = record {
  within = record {
    later = first.within.later;
    before = first.within.before;
    during = λ n gt le lt c was. (first.within.during n gt le lt c was, second.within.during n gt le lt c was);
  };
  after = λ c all. (first.after c all, second.after c all);
}

-- where each leaves the graph and the directory, it leaves them with none of these entries
module _ (before m : Memory) (found : Directory) (graph : Graph) (entries : List DirectoryEntry) where
  none_first : (c : Outcome) → StandsFor before.size c graph × HasDirectory before.size c found
      → StandsWithFirst before.size found graph entries c
  none_first c so = record { count = 0; few = omega arith; stands = so.0; has = so.1 }

  pub stops_with_none : StopsLeave before m (λ c. StandsFor before.size c graph)
      → StopsLeave before m (λ c. HasDirectory before.size c found)
      → StopsLeave before m (StandsWithFirst before.size found graph entries)
  stops_with_none stands has =
      stops_weaker before m (λ c. StandsFor before.size c graph × HasDirectory before.size c found)
      (StandsWithFirst before.size found graph entries)
      (stops_both before m (λ c. StandsFor before.size c graph) (λ c. HasDirectory before.size c found) stands has) none_first

-- ---- what was found

module _ (start : Told) (before m : Memory) (version : ℕ) (directory : Kept) (graph : Graph) (lines : List ℕ)
    (free undone : ℕ) (is : IsOpenImage start before m version directory graph lines free undone)
    (found : FoundImagesAreOpened) (empty : EmptyImagesAreOpened) where
  opened_used : shown before 0 0 ≢ 0 → IsOpened m (entries_in directory) lines graph
  opened_used not_zero =
      let image = is.found.used not_zero in
      found before m (entries_in directory) lines graph (record {
        enough = is.attached.enough;
        most = is.attached.most;
        size = is.goes_on.size;
        finds = image.finds;
        graph_is = image.graph_is;
        words = (is.recovered.used not_zero).words;
      })

  opened_blank : shown before 0 0 ≡ 0 → IsOpened m (entries_in directory) lines graph
  opened_blank zero =
      let nothing = is.found.blank zero in
      let size = is.goes_on.size in
      let most = is.attached.most in
      subst (λ (g : Graph). IsOpened m (entries_in directory) lines g) (sym nothing.graph_is)
      (subst (λ (ls : List ℕ). IsOpened m (entries_in directory) ls empty_graph) (sym nothing.lines_are)
      (subst (λ (d : Directory). IsOpened m d [] empty_graph) (sym (is.found.directory_is.0 zero))
      (empty m (omega (arith, size, most)) (is.recovered.blank zero).slots)))

  pub is_found : IsFound start before m directory graph lines free
  is_found = record {
    attached = is.attached;
    stands = is.stands;
    goes_on = is.goes_on;
    stops = is.stops;
    directory_stays = is.directory_stays;
    found_is = is.found.directory_is;
    stores = is.stores;
    recovered = is.recovered;
    known = is.known;
    stands_now = is.stands_now;
    well_formed = is.well_formed;
    opens = is.opens;
    unlogged = is.unlogged;
    unplanned = is.found.unplanned;
    begins = is.found.begins;
    used = is.found.in_use;
    opened = ⊎_elim opened_blank opened_used (cases_eq (shown before 0 0) 0);
    free_is = is.found.free_is;
    durable = is.durable;
  }

-- ---- an image that couldn't be opened

attach_fault : (start : Told) (why : NotOpened) (fault : Unopened) → IsOfOpening why fault
    → of_opening.IsAttachFault start why → IsAttachFault start fault
attach_fault start (opening.BadImage line reason) fault of cause = subst (IsAttachFault start) (sym of) cause
attach_fault start opening.ImageFailed fault of cause = subst (IsAttachFault start) (sym of) tt
attach_fault start opening.OutOfMemory fault of cause = subst (IsAttachFault start) (sym of) tt

sized_so : (why : NotOpened) (fault : Unopened) → IsOfOpening why fault → why ≡ opening.BadImage 0 Size
    → fault ≡ BadImage 0 Size
sized_so why fault of is = subst (λ (w : NotOpened). IsOfOpening w fault) is of

recovery_fault : (before m : Memory) (why : NotOpened) (fault : Unopened) → IsOfOpening why fault
    → of_opening.IsRecoveryFault before m why → IsRecoveryFault before m fault
recovery_fault before m (opening.BadImage line reason) fault of cause =
    subst (IsRecoveryFault before m) (sym of) cause
recovery_fault before m opening.ImageFailed fault of cause = subst (IsRecoveryFault before m) (sym of) tt
recovery_fault before m opening.OutOfMemory fault of cause = subst (IsRecoveryFault before m) (sym of) tt

unattached : (start after : Told) (why : NotOpened) (fault : Unopened) → IsOfOpening why fault
    → of_opening.IsUnattached start after why → IsUnattached start after fault
unattached start after why fault of is = record {
  size = is.size;
  trace = is.trace;
  moments = is.moments;
  cause = attach_fault start why fault of is.cause;
  sized = λ wrong. sized_so why fault of (is.sized wrong);
}

unrecovered : (start after : Told) (why : NotOpened) (fault : Unopened) → IsOfOpening why fault
    → of_opening.IsUnrecovered start after why → IsUnrecovered start after fault
unrecovered start after why fault of is = record {
  before = is.before;
  memory = is.memory;
  left = record {
    attached = is.attached;
    size = is.size;
    told = is.told;
    goes_on = is.goes_on;
    stops = λ tells graph found stands spells.
        stops_with_none is.before is.memory found graph [] (is.stops tells graph stands)
        (is.directory_stays tells found (standing_has is.before.size (shown is.before) graph found stands spells));
  };
  stores = is.stores;
  recovering = is.recovering;
  cause = recovery_fault is.before is.memory why fault of is.cause;
}

pub unfound : (start after : Told) (why : NotOpened) (fault : Unopened) → IsOfOpening why fault
    → of_opening.IsUnopened start after why → IsUnfound start after fault
unfound start after why fault of (inl is) = inl (unattached start after why fault of is)
unfound start after why fault of (inr is) = inr (unrecovered start after why fault of is)
