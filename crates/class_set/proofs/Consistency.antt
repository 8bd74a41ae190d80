-- The set of files that can be read and link is consistent, and so is each one with more array types.
use Rattle.std.proofs.Common.{◌≡◌, ◌≢◌, ℕ, ◌<◌, true, false, List, [], ◌∷◌, ◌++◌, Option, Some, None, arith, map, subst, sym}
use Rattle.std.proofs.Common.{refl, append_assoc, if◌then◌else◌}
use Rattle.std.specs.Prelude.{All, AllPairs, Contains, codes, is_some}
use Rattle.std.proofs.lemmas.List.Elements.{All-contains, All-contains_itself, All-push, All-weaker, Contains-append_left}
use Rattle.std.proofs.lemmas.List.Quantifiers.{all_pairs_push}
use Rattle.class_file.specs.declared.class.ClassFile.{ClassFile}
use Rattle.class_file.specs.Classes.{CanBeRead}
use Rattle.class_links.specs.Kept.{kept_files}
use Rattle.class_links.specs.Links.{Links}
use Rattle.plain_model.specs.BuiltIn.{arguments_array}
use Rattle.plain_model.specs.Facts.{class_at, class_count, is_subclass}
use Rattle.plain_model.specs.Consistent.{IsComplete, IsConsistent, supers_of}
use Rattle.class_set.specs.declared.arrays.Listed.TheVariants.{Needed}
use Rattle.class_set.specs.Linked.{Linked, class_named, class_names, names_of, with_array}
use Rattle.class_set.specs.ArrayTypes.{array_type, is_array_type, linked_from, listed_arrays}
use Rattle.class_set.specs.Facts.{facts_of}
use Rattle.class_set.specs.Sets.{IsLinked}
use Rattle.class_set.proofs.Circles.{no_class_above_itself}
use Rattle.class_set.proofs.Constants.{constants_below}
use Rattle.class_set.proofs.GivenArrays.{chars_listed, chars_there, strings_listed, strings_there}
use Rattle.class_set.proofs.Described.{described_types, unplaced}
use Rattle.class_set.proofs.Differ.{classes_differ, linked_apart, listed_are_arrays}
use Rattle.class_set.proofs.Kept.{all_small, kept_readable}
use Rattle.class_set.proofs.LiteralsDiffer.{literals_apart, literals_small}
use Rattle.class_set.proofs.Program.{program_classes}
use Rattle.class_set.proofs.StaticsOf.{statics_of_program}
use Rattle.class_set.proofs.Supertypes.{program_counted}
use Rattle.class_set.proofs.Uncircled.{no_class_below}

-- ---- sets that link

pub linked_is : (files : List ClassFile) → All CanBeRead files → Links files → IsLinked (linked_from files)
linked_is files readable links = record {
  readable = readable;
  links = links;
  arrays = listed_are_arrays Needed files;
  needed = All-contains_itself (listed_arrays Needed files);
  names_differ = linked_apart files (all_small files readable) links.supers.0.0;
}

with_more : (set : Linked) (text : List ℕ) (o : Option ℕ) → class_named set text ≡ o → IsLinked set → is_array_type text ≡ true
    → IsLinked (if is_some o then set else record { files = set.files; arrays = set.arrays ++ text ∷ [] })
with_more set text (Some n) e h a = h
with_more set text None e h a = record {
  readable = h.readable;
  links = h.links;
  arrays = All-push (λ t. is_array_type t ≡ true) set.arrays text h.arrays a;
  needed = All-weaker (λ t. Contains set.arrays t) (λ t. Contains (set.arrays ++ text ∷ []) t)
      (λ t c. Contains-append_left set.arrays (text ∷ []) t c) (listed_arrays Needed set.files) h.needed;
  names_differ = subst (AllPairs (λ (left right : List ℕ). left ≢ right)) (append_assoc (class_names set.files) set.arrays (text ∷ []))
      (all_pairs_push (λ (left right : List ℕ). left ≢ right) (names_of set) text h.names_differ (unplaced 0 (names_of set) text e));
}

pub array_linked : (set : Linked) (text : List ℕ) → IsLinked set → is_array_type text ≡ true → IsLinked (with_array set text)
array_linked set text h a = with_more set text (class_named set text) refl h a

-- ---- they are consistent

pub no_circle_in : (set : Linked) → Links set.files → (n : ℕ) → n < class_count (facts_of set)
    → All (λ above. is_subclass (facts_of set) above n ≡ false) (supers_of (class_at (facts_of set) n))
no_circle_in set links n l =
    no_class_below set (no_class_above_itself set.files links.no_circle) n (omega (arith, l, program_counted set.files set.files))

pub complete_set : (set : Linked) → Links set.files → Contains set.arrays (codes "[C") → Contains set.arrays (codes "[Ljava/lang/String;")
    → IsComplete (facts_of set)
complete_set set links chars strings = record {
  chars = chars_there set.files set.arrays chars;
  arguments = subst (λ n. Contains (map (array_type set.files) set.arrays) (arguments_array n)) (sym (program_counted set.files set.files))
      (strings_there set.files set.arrays links.supers.0.0 strings);
  constants = constants_below set.files;
}

pub complete_from : (files : List ClassFile) → Links files → IsComplete (facts_of (linked_from files))
complete_from files links = complete_set (linked_from files) links (chars_listed Needed files) (strings_listed Needed files)

pub has_needed : (set : Linked) (text : List ℕ) → IsLinked set → Contains (listed_arrays Needed set.files) text → Contains set.arrays text
has_needed set text h c = All-contains (λ t. Contains set.arrays t) (listed_arrays Needed set.files) text h.needed c

pub set_consistent : (set : Linked) → IsLinked set → IsConsistent (facts_of set)
set_consistent set h = record {
  complete = complete_set set h.links (has_needed set (codes "[C") h (chars_listed Needed set.files))
      (has_needed set (codes "[Ljava/lang/String;") h (strings_listed Needed set.files));
  names_differ = classes_differ set h.names_differ;
  classes = program_classes set h.links;
  no_circle = no_circle_in set h.links;
  arrays = described_types set set.arrays h.arrays;
  statics = statics_of_program set h.readable;
  chars = literals_small set.files h.readable;
  literals_differ = literals_apart set.files h.readable;
}

-- ---- the set of the files that are kept

pub kept_linked : (classes : List ClassFile) (set : Linked) → All CanBeRead classes → Links (kept_files classes)
    → set ≡ linked_from (kept_files classes) → IsLinked set
kept_linked classes set readable links same =
    subst IsLinked (sym same) (linked_is (kept_files classes) (kept_readable classes readable) links)

pub kept_consistent : (classes : List ClassFile) (set : Linked) → All CanBeRead classes → Links (kept_files classes)
    → set ≡ linked_from (kept_files classes) → IsConsistent (facts_of set)
kept_consistent classes set readable links same = set_consistent set (kept_linked classes set readable links same)
