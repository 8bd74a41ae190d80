-- A directory with one more entry.
use Rattle.std.proofs.Common.{◌≡◌, inl, inr, ℕ, zero, suc, ◌+◌, ◌-◌, ◌<◌, ◌||◌, Bool, true, false, List, [], ◌∷◌, ◌++◌, length}
use Rattle.std.proofs.Common.{map, nat_le, Ok, refl, sym, ◌∙◌, ap, arith, slice_index_or, length-append, append_assoc}
use Rattle.std.proofs.lemmas.Bool.{cases_lt, leb-false}
use Rattle.std.proofs.lemmas.List.{append-nil, get_or_append_left, get_or_at, length-map, map-append}
use Rattle.std.proofs.lemmas.List.FromFn.{length-map-range_with_len, get_or-map-range_with_len}
use Rattle.graph_model.specs.declared.types.Value.{Value}
use Rattle.graph_model.specs.declared.types.Value.TheVariants.{Null}
use Rattle.graph_model.specs.declared.types.Root.{Root}
use Rattle.graph_model.specs.declared.types.Shape.{Shape}
use Rattle.graph_model.specs.declared.types.Heap.{Heap}
use Rattle.graph_model.specs.Heaps.{no_shape, root_values}
use Rattle.graph_model.specs.Canon.{with_new, found_after, found_from, root_of, canon_of}
use Rattle.graph_model.proofs.Numbers.{with_new-append}
use Rattle.image_layout.specs.Places.{root_slots, directory_line, directory_word}
use Rattle.image_meaning.specs.Checks.{Words}
use Rattle.image_meaning.specs.Entries.{DirectoryEntry, ShapeEntry, RootEntry, spelled, IsEntry}
use Rattle.image_meaning.specs.Directories.{Directory, no_entries, has_name, is_refused, with_entry, directory_words_of}
use Rattle.image_meaning.specs.Directories.{directory_of, spelled_all, with_all, AreEntries, Spells}
use Rattle.image_meaning.specs.Logs.{SameLogs}
use Rattle.image_meaning.specs.Objects.{shape_number, shape_of}
use Rattle.image_meaning.specs.Corresponds.{LiesAt, IsObject, Corresponds, root_value_at}
use Rattle.image_meaning.specs.Arrays.{null_root}
use Rattle.image_meaning.specs.Laws.{Opens}
use Rattle.image_meaning.specs.Appending.{AddsEntry, with_root, with_null_root}
use Rattle.image_meaning.proofs.Directories.{directory-again, entries-taken}
use Rattle.image_meaning.proofs.Logs.{logs_fault-same}
use Rattle.image_meaning.proofs.Standing.{used-still}

-- ---- the directory

with_all-more : (directory : Directory) (entries : List DirectoryEntry) (entry : DirectoryEntry)
    → with_all directory (entries ++ entry ∷ []) ≡ with_entry (with_all directory entries) entry
with_all-more directory [] entry = refl
with_all-more directory (e ∷ entries) entry = with_all-more (with_entry directory e) entries entry

entries_more : (directory : Directory) (entries : List DirectoryEntry) (entry : DirectoryEntry) → AreEntries directory entries → IsEntry entry
    → is_refused (with_all directory entries) entry ≡ false → AreEntries directory (entries ++ entry ∷ [])
entries_more directory [] entry are is accepted = (is, accepted, tt)
entries_more directory (e ∷ entries) entry are is accepted =
    (are.0, are.1, entries_more (with_entry directory e) entries entry are.2 is accepted)

spelled_more : (entries : List DirectoryEntry) (entry : DirectoryEntry) → spelled_all (entries ++ entry ∷ []) ≡ spelled_all entries ++ spelled entry
spelled_more [] entry = append-nil (spelled entry)
spelled_more (e ∷ entries) entry =
    ap (λ (l : List ℕ). spelled e ++ l) (spelled_more entries entry) ∙ sym (append_assoc (spelled e) (spelled_all entries) (spelled entry))

-- a place of two lists, one after the other
get_or-behind : (xs ys : List ℕ) (i : ℕ) → slice_index_or (xs ++ ys) (length xs + i) 0 ≡ slice_index_or ys i 0
get_or-behind [] ys i = let e : 0 + i ≡ i = omega arith in rw e refl
get_or-behind (x ∷ xs) ys i = let e : suc (length xs) + i ≡ suc (length xs + i) = omega arith in rw e (get_or-behind xs ys i)

directory_more : (c d : Words) (directory : Directory) (entry : DirectoryEntry) → directory_of c ≡ Ok directory → IsEntry entry
    → is_refused directory entry ≡ false → AddsEntry c d entry → directory_of d ≡ Ok (with_entry directory entry)
unfolding directory_of
directory_more c d directory entry opens is accepted adds =
    let taken = entries-taken (c 0 3) 0 no_entries directory (directory_words_of c (c 0 3)) opens in
    let entries = taken.0 in
    let count : length (spelled_all entries) ≡ c 0 3 =
    ap (λ (l : List ℕ). length l) (sym taken.1) ∙ length-map-range_with_len (λ i. c (directory_line i) (directory_word i)) 0 (c 0 3) in
    let all : spelled_all (entries ++ entry ∷ []) ≡ spelled_all entries ++ spelled entry = spelled_more entries entry in
    let more : length (spelled_all (entries ++ entry ∷ [])) ≡ c 0 3 + length (spelled entry) =
    ap (λ (l : List ℕ). length l) all ∙ length-append (spelled_all entries) (spelled entry) ∙ ap (λ n. n + length (spelled entry)) count in
    let spells : Spells d (entries ++ entry ∷ []) = record {
      used = adds.used ∙ sym more;
      spelled = λ i h. rw all (elim (cases_lt i (c 0 3)) [
        | inl low ↦
            adds.before i low
            ∙ sym (get_or-map-range_with_len (λ i. c (directory_line i) (directory_word i)) 0 (c 0 3) i i 0 low (omega arith))
            ∙ ap (λ (l : List ℕ). slice_index_or l i 0) taken.1
            ∙ sym (get_or_append_left (spelled_all entries) (spelled entry) 0 i (omega (arith, low, count)))
        | inr high ↦ (
            let j = i - c 0 3 in
            let e : i ≡ c 0 3 + j = omega (arith, high) in
            let f : length (spelled_all entries) + j ≡ i = omega (arith, high, count) in
            let within : j < length (spelled entry) = omega (arith, h, more, high) in
            ap (λ k. d (directory_line k) (directory_word k)) e ∙ adds.added j within
            ∙ sym (get_or-behind (spelled_all entries) (spelled entry) j)
            ∙ ap (λ k. slice_index_or (spelled_all entries ++ spelled entry) k 0) f)
      ]);
    } in
    let free : is_refused (with_all no_entries entries) entry ≡ false = rw (← taken.3) accepted in
    let are = entries_more no_entries entries entry taken.2 is free in
    directory-again d (entries ++ entry ∷ []) are spells
    ∙ ap (λ (x : Directory). Ok x) (with_all-more no_entries entries entry ∙ ap (λ (x : Directory). with_entry x entry) (sym taken.3))

-- the image opens with the entry too
pub opens-more : (size : ℕ) (c d : Words) (directory : Directory) (entry : DirectoryEntry) → Opens size c directory → IsEntry entry
    → is_refused directory entry ≡ false → AddsEntry c d entry → SameLogs c d → Opens size d (with_entry directory entry)
opens-more size c d directory entry opens is accepted adds logs = record {
  super = used-still size (c 0) (d 0) opens.used opens.super (adds.super 0 (omega arith)) (adds.super 1 (omega arith)) (adds.super 2 (omega arith)) adds.room;
  used = rw (adds.super 0 (omega arith)) opens.used;
  entries = directory_more c d directory entry opens.entries is accepted adds;
  logs = logs_fault-same c d logs size ∙ opens.logs;
}

-- ---- one shape more

old_shape : (shapes : List Shape) (shape : Shape) (words : Words) (line : ℕ) → shape_number words line < length shapes
    → shape_of (shapes ++ shape ∷ []) words line ≡ shape_of shapes words line
old_shape shapes shape words line h = get_or_append_left shapes (shape ∷ []) no_shape (shape_number words line) h

object-more_shapes : (R : LiesAt) (shapes : List Shape) (shape : Shape) (size : ℕ) (words : Words) (heap : Heap) (line n : ℕ)
    → IsObject R shapes size words heap line n → IsObject R (shapes ++ shape ∷ []) size words heap line n
object-more_shapes R shapes shape size words heap line n o =
    let e = old_shape shapes shape words line o.known in
    record {
      there = o.there;
      known = omega (arith, o.known, length-append shapes (shape ∷ []));
      shape = e ∙ o.shape;
      count = o.count;
      full = rw e o.full;
      low = o.low;
      high = o.high;
      slots = λ i h kept. rw e (o.slots i h kept);
    }

pub corresponds-more_shapes : (R : LiesAt) (directory : Directory) (size : ℕ) (words : Words) (heap : Heap) (shape : Shape)
    → Corresponds R directory size words heap → Corresponds R (with_entry directory (ShapeEntry shape)) size words heap
corresponds-more_shapes R directory size words heap shape k = record {
  one_object = k.one_object;
  one_line = k.one_line;
  objects = λ line n r. object-more_shapes R directory.shapes shape size words heap line n (k.objects line n r);
  apart = k.apart;
  few = k.few;
  names = k.names;
  at_roots = k.at_roots;
  unused = k.unused;
}

-- ---- one root more

root_values-more : (heap : Heap) (name : List ℕ) (static : ℕ)
    → root_values (with_root heap name static) ≡ root_values heap ++ slice_index_or heap.statics static Null ∷ []
root_values-more heap name static =
    map-append (λ (r : Root). slice_index_or heap.statics r.at Null) heap.roots (record { name = name; at = static } ∷ [])

or_parts : (a b : Bool) → (a || b) ≡ false → (a ≡ false) × (b ≡ false)
or_parts false b h = (refl, h)
or_parts true b h = absurd (let e : true ≡ false = h in cc)

pub corresponds-more_roots : (R : LiesAt) (directory : Directory) (size : ℕ) (words : Words) (heap : Heap) (name : List ℕ) (static : ℕ)
    → Corresponds R directory size words heap → is_refused directory (RootEntry name) ≡ false
    → slice_index_or heap.statics static Null ≡ Null
    → Corresponds R (with_entry directory (RootEntry name)) size words (with_root heap name static)
corresponds-more_roots R directory size words heap name static k accepted null =
    let count : length directory.roots ≡ length heap.roots =
    ap (λ names. length names) (sym k.names) ∙ length-map heap.roots (λ (root : Root). root.name) in
    let room = leb-false root_slots (length directory.roots)
    (or_parts (has_name directory.roots name) (nat_le root_slots (length directory.roots)) accepted).1 in
    let one : Root = record { name = name; at = static } in
    let more : length (heap.roots ++ one ∷ []) ≡ length heap.roots + 1 = length-append heap.roots (one ∷ []) in
    let values = root_values-more heap name static in
    let old_count : length (root_values heap) ≡ length heap.roots =
    length-map heap.roots (λ (root : Root). slice_index_or heap.statics root.at Null) in
    record {
      one_object = k.one_object;
      one_line = k.one_line;
      objects = λ line n r. let o = k.objects line n r in record {
        there = o.there;
        known = o.known;
        shape = o.shape;
        count = o.count;
        full = o.full;
        low = o.low;
        high = o.high;
        slots = o.slots;
      };
      apart = k.apart;
      few = omega (arith, more, room, count);
      names = map-append (λ (root : Root). root.name) heap.roots (one ∷ []) ∙ ap (λ names. names ++ name ∷ []) k.names;
      at_roots = λ r h. elim (cases_lt r (length heap.roots)) [
        | inl low ↦ (
            let held : root_value_at (with_root heap name static) r ≡ root_value_at heap r =
            ap (λ (vs : List Value). slice_index_or vs r Null) values
            ∙ get_or_append_left (root_values heap) (slice_index_or heap.statics static Null ∷ []) Null r (omega (arith, low, old_count)) in
            rw held (k.at_roots r low))
        | inr high ↦ (
            let e : r ≡ length (root_values heap) = omega (arith, h, high, more, old_count) in
            let held : root_value_at (with_root heap name static) r ≡ Null =
            ap (λ (vs : List Value). slice_index_or vs r Null) values
            ∙ get_or_at (root_values heap) (slice_index_or heap.statics static Null) [] Null r (sym e) ∙ null in
            rw held (k.unused r high (omega (arith, e, old_count, room, count))))
      ];
      unused = λ r low high. k.unused r (omega (arith, low, more)) high;
    }

found_same : (heap : Heap) (name : List ℕ) (static : ℕ) → slice_index_or heap.statics static Null ≡ Null → (k : ℕ)
    → found_after (with_root heap name static) (root_values (with_root heap name static)) k ≡ found_after heap (root_values heap) k
found_same heap name static null zero =
    ap (λ (vs : List Value). with_new [] vs) (root_values-more heap name static ∙ ap (λ (v : Value). root_values heap ++ v ∷ []) null)
    ∙ with_new-append [] (root_values heap) (Null ∷ [])
found_same heap name static null (suc k) = rw (found_same heap name static null k) refl

-- the graph has one more root, which is null
pub canon-more_roots : (heap : Heap) (name : List ℕ) (static : ℕ) → slice_index_or heap.statics static Null ≡ Null
    → canon_of (with_root heap name static) ≡ with_null_root (canon_of heap) name
unfolding canon_of found_from
canon-more_roots heap name static null =
    let found = found_after heap (root_values heap) (length heap.objects) in
    let roots : map (root_of (with_root heap name static) found) (heap.roots ++ record { name = name; at = static } ∷ [])
    ≡ map (root_of heap found) heap.roots ++ null_root name ∷ [] =
    map-append (root_of heap found) heap.roots (record { name = name; at = static } ∷ [])
    ∙ rw null refl in
    rw (found_same heap name static null (length heap.objects), roots) refl
