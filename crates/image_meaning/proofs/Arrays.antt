-- Images without objects, and with one array of ints.
use Rattle.std.proofs.Common.{◌≡◌, ℕ, zero, suc, ◌*◌, ◌^◌, ◌<◌, ◌≤◌, true, ℤ, pos, List, [], ◌∷◌, length, map, refl, ap, sym}
use Rattle.std.proofs.Common.{◌∙◌, subst, arith, slice_index_or}
use Rattle.std.proofs.lemmas.Bool.{lt-ltb}
use Rattle.std.proofs.lemmas.List.{get_or-map, length-map}
use Rattle.graph_model.specs.declared.types.Value.TheVariants.{Null, Obj as Object}
use Rattle.graph_model.specs.declared.types.Root.{Root}
use Rattle.graph_model.specs.declared.types.Obj.{Obj}
use Rattle.graph_model.specs.declared.types.Heap.{Heap}
use Rattle.graph_model.specs.Heaps.{root_values, values_of}
use Rattle.graph_model.specs.Canon.{with_new, renumbered, root_of, found_from, canon_of}
use Rattle.const_pool.specs.Utf8.{bad_place, char_len}
use Rattle.const_pool.specs.Parsing.{descriptor_at, only_field, field_at, element_at, base_at, brackets, after_front}
use Rattle.image_layout.specs.Places.{root_slots}
use Rattle.image_meaning.specs.Checks.{Words}
use Rattle.image_meaning.specs.Entries.{DirectoryEntry, ShapeEntry, AreBytes, IsShape, is_shape}
use Rattle.image_meaning.specs.Directories.{Directory, no_entries, with_all, AreEntries, Spells}
use Rattle.image_meaning.specs.Objects.{shape_number, length_at, object_slot}
use Rattle.image_meaning.specs.Meaning.{root_word, StandsFor}
use Rattle.image_meaning.specs.Corresponds.{LiesAt, Corresponds, IsObject}
use Rattle.image_meaning.specs.Arrays.{IsInUse, null_root, null_graph, int_array, array_entries, int_value, IsIntArray}
use Rattle.image_meaning.specs.Arrays.{array_graph}
use Rattle.image_meaning.proofs.Directories.{roots-few}
use Rattle.image_meaning.proofs.Opened.{stands, put_back-same_words, opens-in_use}

-- ---- no objects

-- no object lies anywhere
nowhere : LiesAt
nowhere line n = ⊥

named_root : List ℕ → Root
named_root name = record { name = name; at = 0 }

null_heap : List (List ℕ) → Heap
null_heap names = record { shapes = []; objects = []; statics = []; roots = map named_root names }

null_names : (names : List (List ℕ)) → map (λ (root : Root). root.name) (map named_root names) ≡ names
unfolding named_root
null_names [] = refl
null_names (name ∷ names) = ap (λ rest. name ∷ rest) (null_names names)

null_values : (names : List (List ℕ)) (r : ℕ) → slice_index_or (root_values (null_heap names)) r Null ≡ Null
unfolding null_heap named_root
null_values [] r = refl
null_values (name ∷ names) zero = refl
null_values (name ∷ names) (suc r) = null_values names r

null_found : (names : List (List ℕ)) → with_new [] (root_values (null_heap names)) ≡ []
unfolding null_heap named_root
null_found [] = refl
null_found (name ∷ names) = null_found names

null_roots : (names all : List (List ℕ)) → map (root_of (null_heap all) []) (map named_root names) ≡ map null_root names
unfolding null_heap named_root
null_roots [] all = refl
null_roots (name ∷ names) all = ap (λ rest. null_root name ∷ rest) (null_roots names all)

null_canon : (names : List (List ℕ)) → canon_of (null_heap names) ≡ null_graph names
unfolding canon_of found_from null_heap
null_canon names = rw (null_found names, null_roots names names) refl

null_count : (names : List (List ℕ)) → length (null_heap names).roots ≡ length names
unfolding null_heap
null_count names = length-map names named_root

null_heap_names : (names : List (List ℕ)) → map (λ (root : Root). root.name) (null_heap names).roots ≡ names
unfolding null_heap
null_heap_names names = null_names names

null_corresponds : (size : ℕ) (words : Words) (directory : Directory) → length directory.roots ≤ root_slots
    → ((r : ℕ) → r < root_slots → root_word words r ≡ 0)
    → Corresponds nowhere directory size words (null_heap directory.roots)
unfolding nowhere
null_corresponds size words directory few zeros = record {
  one_object = λ line m n x y. absurd x;
  one_line = λ a b n x y. absurd x;
  objects = λ line n x. absurd x;
  apart = λ a b m n x y ne. absurd x;
  few = rw (null_count directory.roots) few;
  names = null_heap_names directory.roots;
  at_roots = λ r h. rw (null_values directory.roots r) (zeros r (omega (arith, h, few, null_count directory.roots)));
  unused = λ r low high. zeros r high;
}

-- where all root slots are 0, all roots are null
pub null_roots-stand : (size : ℕ) (words : Words) (entries : List DirectoryEntry) → IsInUse size words → AreEntries no_entries entries
    → Spells words entries → ((r : ℕ) → r < root_slots → root_word words r ≡ 0)
    → StandsFor size words (null_graph (with_all no_entries entries).roots)
null_roots-stand size words entries is are spells zeros =
    let directory = with_all no_entries entries in
    let heap = null_heap directory.roots in
    let same = null_corresponds size words directory (roots-few no_entries entries are (omega arith)) zeros in
    subst (λ graph. StandsFor size words graph) (null_canon directory.roots)
    (stands nowhere size words directory heap (opens-in_use size words entries is are spells)
    (put_back-same_words nowhere directory size words heap is.logs same))

-- ---- one array

int_array-form : is_shape int_array.name int_array.fields ≡ true
unfolding is_shape bad_place char_len descriptor_at only_field field_at element_at base_at brackets after_front
int_array-form = refl

pub int_array-is : IsShape int_array
int_array-is = record {
  name = (omega arith, (omega arith, tt));
  short = omega arith;
  fields = tt;
  element = refl;
  form = int_array-form;
}

pub shape-may_stand : AreEntries no_entries (ShapeEntry int_array ∷ [])
shape-may_stand = (int_array-is, refl, tt)

pub root-may_stand : (name : List ℕ) → AreBytes name → AreEntries no_entries (array_entries name)
root-may_stand name are = (int_array-is, refl, (are, refl, tt))

int_object : List ℤ → Obj
int_object ints = record { shape = 0; values = map int_value ints }

array_heap : List ℕ → List ℤ → Heap
array_heap name ints = record {
  shapes = int_array ∷ [];
  objects = int_object ints ∷ [];
  statics = Object 0 ∷ [];
  roots = record { name = name; at = 0 } ∷ [];
}

ints_found : (found : List ℕ) (ints : List ℤ) → with_new found (map int_value ints) ≡ found
ints_found found [] = refl
ints_found found (i ∷ ints) = ints_found found ints

ints_renumbered : (found : List ℕ) (ints : List ℤ) → map (renumbered found) (map int_value ints) ≡ map int_value ints
ints_renumbered found [] = refl
ints_renumbered found (i ∷ ints) = ap (λ rest. int_value i ∷ rest) (ints_renumbered found ints)

array_canon : (name : List ℕ) (ints : List ℤ) → canon_of (array_heap name ints) ≡ array_graph name ints
unfolding canon_of found_from array_heap int_object
array_canon name ints = rw (ints_found (0 ∷ []) ints, ints_renumbered (0 ∷ []) ints) refl

-- object 0 lies at one line
only_at : ℕ → LiesAt
only_at at line n = (line ≡ at) × (n ≡ 0)

array_count : (name : List ℕ) (ints : List ℤ) → length (values_of (array_heap name ints) 0) ≡ length ints
unfolding array_heap int_object
array_count name ints = length-map ints int_value

array_value : (name : List ℕ) (ints : List ℤ) (i : ℕ) → i < length ints
    → slice_index_or (values_of (array_heap name ints) 0) i Null ≡ int_value (slice_index_or ints i (pos 0))
unfolding array_heap int_object
array_value name ints i h = get_or-map int_value ints i (pos 0) Null h

array_object : (R : LiesAt) (size : ℕ) (words : Words) (name : List ℕ) (line : ℕ) (ints : List ℤ) → IsIntArray size words line ints
    → IsObject R (int_array ∷ []) size words (array_heap name ints) line 0
unfolding array_heap int_object
array_object R size words name line ints is =
    let number : shape_number words line ≡ 0 = rw is.head (omega arith) in
    let count : length_at words line ≡ length ints = rw is.head (omega arith) in
    record {
      there = omega arith;
      known = rw number (omega arith);
      shape = rw number refl;
      count = count ∙ sym (array_count name ints);
      full = rw number refl;
      low = is.low;
      high = rw (array_count name ints) is.high;
      slots = λ i h kept.
          let within : i < length ints = rw (array_count name ints) at h in
          rw number (
            lt-ltb (object_slot words line i) (2 ^ 32) (is.word i within),
            array_value name ints i within ∙ ap int_value (is.int i within),
          );
    }

array_corresponds : (size : ℕ) (words : Words) (name : List ℕ) (line : ℕ) (ints : List ℤ)
    → root_word words 0 ≡ 2 * line → ((r : ℕ) → 0 < r → r < root_slots → root_word words r ≡ 0)
    → IsIntArray size words line ints
    → Corresponds (only_at line) (with_all no_entries (array_entries name)) size words (array_heap name ints)
unfolding only_at array_heap
array_corresponds size words name line ints root zeros is = record {
  one_object = λ a m n x y. x.1 ∙ sym y.1;
  one_line = λ a b n x y. x.0 ∙ sym y.0;
  objects = λ a n x. rw (x.0, x.1) (array_object (only_at line) size words name line ints is);
  apart = λ a b m n x y ne. absurd (ne (x.0 ∙ sym y.0));
  few = omega arith;
  names = refl;
  at_roots = λ r h. let e : r ≡ 0 = omega (arith, h) in rw e (line, root, (refl, refl));
  unused = λ r low high. zeros r (omega (arith, low)) high;
}

-- where the root refers to an array of ints, it and the elements are the graph
pub one_array-stands : (size : ℕ) (words : Words) (name : List ℕ) (line : ℕ) (ints : List ℤ)
    → IsInUse size words → AreBytes name → Spells words (array_entries name)
    → root_word words 0 ≡ 2 * line → ((r : ℕ) → 0 < r → r < root_slots → root_word words r ≡ 0)
    → IsIntArray size words line ints
    → StandsFor size words (array_graph name ints)
one_array-stands size words name line ints is are spells root zeros array =
    let entries = array_entries name in
    let directory = with_all no_entries entries in
    let heap = array_heap name ints in
    let same = array_corresponds size words name line ints root zeros array in
    subst (λ graph. StandsFor size words graph) (array_canon name ints)
    (stands (only_at line) size words directory heap (opens-in_use size words entries is (root-may_stand name are) spells)
    (put_back-same_words (only_at line) directory size words heap is.logs same))
