-- An image whose directory grows stands for the same graph, new null roots aside.
use Rattle.std.proofs.Common.{◌≡◌, ◌≢◌, inl, ⊎_elim, ◌<◌, ◌≤◌, ◌+◌, ◌-◌, ◌==◌, ◌&&◌, ℕ, false, List, [], ◌∷◌, ◌++◌, length}
use Rattle.std.proofs.Common.{Result, Ok, refl, sym, ◌∙◌, ap, subst, append_assoc, arith, slice_index_or, if◌then◌else◌}
use Rattle.std.proofs.lemmas.Bool.{cases_lt, ne_eqb}
use Rattle.std.proofs.lemmas.List.{append-nil, length-append, get_or_append_left, get_or-append-add}
use Rattle.graph_model.specs.declared.types.Graph.{Graph}
use Rattle.image_layout.specs.Places.{directory_words, directory_line, directory_word, log_head_line, log_entry_line}
use Rattle.image_layout.specs.Places.{log_entry_word, object_line, object_word, slot_line, slot_word}
use Rattle.image_meaning.specs.Checks.{Words, Bad}
use Rattle.image_meaning.specs.Entries.{DirectoryEntry, spelled, IsEntry}
use Rattle.image_meaning.specs.Directories.{Directory, no_entries, is_refused, with_entry, with_all, directory_of, spelled_all}
use Rattle.image_meaning.specs.Directories.{AreEntries, Spells}
use Rattle.image_meaning.specs.Logs.{SameLogs}
use Rattle.image_meaning.specs.Meaning.{StandsFor}
use Rattle.image_meaning.specs.Corresponds.{SameWords}
use Rattle.image_meaning.specs.Laws.{Opens, SameFront}
use Rattle.image_meaning.specs.Opening.{found_at}
use Rattle.image_meaning.specs.Appending.{AddsEntry, SameBehind, with_entry_too, with_all_too}
use Rattle.image_meaning.proofs.Directories.{directory-again}
use Rattle.image_meaning.proofs.Opened.{opens-same, stands-same}
use Rattle.image_meaning.proofs.Standing.{opens-standing}
use Rattle.image_meaning.proofs.Standings.{standing-found, canon-standing, added-stands}
use Rattle.directories.specs.Growing.{OfDirectory}
use Rattle.directories.proofs.Appends.{spelled_more}
use Rattle.directories.proofs.GraphHeaps.{heap_of, heap_holds}

-- d has the words of c everywhere but in the directory and in the number of its words in use
abbrev pub SameBesides : Words → Words → Type 0
SameBesides c d = (l w : ℕ) → (OfDirectory l w 0 → ⊥) → d l w ≡ c l w

ok_same : {A : Type 0} (r : Result A Bad) (x y : A) → r ≡ Ok x → r ≡ Ok y → x ≡ y
ok_same {A} r x y a b = let left : Result A Bad = Ok x in let e : left ≡ Ok y = sym a ∙ b in cc

-- ---- entries

with_all_more : (directory : Directory) (entries : List DirectoryEntry) (entry : DirectoryEntry)
    → with_all directory (entries ++ entry ∷ []) ≡ with_entry (with_all directory entries) entry
with_all_more directory [] entry = refl
with_all_more directory (e ∷ entries) entry = with_all_more (with_entry directory e) entries entry

-- what holds of an entry behind others
record May (directory : Directory) (had : List DirectoryEntry) (entry : DirectoryEntry) : Type 0 where
  before : AreEntries directory had
  is : IsEntry entry
  accepted : is_refused (with_all directory had) entry ≡ false

may_stand : (directory : Directory) (had : List DirectoryEntry) (entry : DirectoryEntry) (later : List DirectoryEntry)
    → AreEntries directory (had ++ entry ∷ later) → May directory had entry
may_stand directory [] entry later are = record { before = tt; is = are.0; accepted = are.1 }
may_stand directory (e ∷ had) entry later are =
    let may = may_stand (with_entry directory e) had entry later are.2 in
    record { before = (are.0, are.1, may.before); is = may.is; accepted = may.accepted }

pub spelled_both : (had added : List DirectoryEntry) → spelled_all (had ++ added) ≡ spelled_all had ++ spelled_all added
spelled_both [] added = refl
spelled_both (e ∷ had) added =
    ap (λ (words : List ℕ). spelled e ++ words) (spelled_both had added)
    ∙ sym (append_assoc (spelled e) (spelled_all had) (spelled_all added))

-- ---- words besides the directory

module _ (c d : Words) (same : SameBesides c d) where
  same_logs : SameLogs c d
  same_logs = record {
    counts = λ t below. same (log_head_line t) 0 (λ of. ⊎_elim (λ first. omega (arith, first.0)) (λ dir. omega (arith, dir.1)) of);
    entries = λ t n below counted.
        let outside : (w : ℕ) → OfDirectory (log_entry_line t n) w 0 → ⊥ =
        λ w of. ⊎_elim (λ first. omega (arith, first.0)) (λ dir. omega (arith, dir.1)) of in
        rw (
          same (log_entry_line t n) (log_entry_word n) (outside (log_entry_word n)),
          same (log_entry_line t n) (log_entry_word n + 1) (outside (log_entry_word n + 1)),
        ) refl;
  }

  same_behind : SameBehind c d
  same_behind = record {
    roots = λ r below. same (slot_line r) (slot_word r)
        (λ of. ⊎_elim (λ first. omega (arith, first.0)) (λ dir. omega (arith, dir.0, below)) of);
    objects = λ line word high. same line word
        (λ of. ⊎_elim (λ first. omega (arith, first.0, high)) (λ dir. omega (arith, dir.1, high)) of);
  }

  same_super : (word : ℕ) → word < 3 → d 0 word ≡ c 0 word
  same_super word below = same 0 word (λ of. ⊎_elim (λ first. omega (arith, first.1, below)) (λ dir. omega (arith, dir.0)) of)

-- ---- no entry more

-- an image whose directory is read as these entries opens with them
opens_with : (size : ℕ) (c : Words) (graph : Graph) (had : List DirectoryEntry) → c 0 0 ≢ 0 → StandsFor size c graph
    → AreEntries no_entries had → Spells c had → Opens size c (with_all no_entries had)
opens_with size c graph had used stands are spells =
    let o = opens-standing size c graph used stands in
    subst (λ (dir : Directory). Opens size c dir)
    (ok_same (directory_of c) o.0 (with_all no_entries had) o.1.entries (directory-again c had are spells)) o.1

module _ (size : ℕ) (c d : Words) (graph : Graph) (had : List DirectoryEntry) (used : c 0 0 ≢ 0) (stands : StandsFor size c graph)
    (are : AreEntries no_entries had) (spells : Spells c had) (same : SameBesides c d) (again : Spells d had) where
  same_front : SameFront c d
  same_front = record {
    super = λ word below. ⊎_elim
        (λ (low : word < 3). same_super c d same word low)
        (λ (high : 3 ≤ word). let three : word ≡ 3 = omega (arith, below, high) in rw three (again.used ∙ sym spells.used))
        (cases_lt word 3);
    directory = λ i below. again.spelled i (omega (arith, below, spells.used)) ∙ sym (spells.spelled i (omega (arith, below, spells.used)));
  }

  opened_again : Opens size d (with_all no_entries had)
  opened_again = opens-same size c d (with_all no_entries had) (opens_with size c graph had used stands are spells) same_front (same_logs c d same)

  stands_again : StandsFor size d graph
  stands_again =
      let f = standing-found size c graph used stands in
      let heap = heap_of graph in
      let k = f.corresponds heap (heap_holds graph) in
      let behind = same_behind c d same in
      let words : SameWords (found_at f.lines) heap c d = record {
        heads = λ line n r. behind.objects line 0 (k.objects line n r).low;
        slots = λ line n r i h kept. let low = (k.objects line n r).low in behind.objects (object_line line i) (object_word i) (omega (arith, low));
        at_roots = behind.roots;
      } in
      let front : SameFront c d = same_front in
      subst (λ g. StandsFor size d g) (canon-standing size c graph heap stands (heap_holds graph))
      (stands-same (found_at f.lines) size c d f.directory heap f.finds.opens k front (same_logs c d same) words)

-- ---- one entry more

-- the words with this number of directory words in use
with_used : ℕ → Words → Words
with_used n d l w = if l == 0 && w == 3 then n else d l w

with_used-at : (n : ℕ) (d : Words) → with_used n d 0 3 ≡ n
unfolding with_used
with_used-at n d = refl

with_used-word : (n : ℕ) (d : Words) (w : ℕ) → w ≢ 3 → with_used n d 0 w ≡ d 0 w
unfolding with_used
with_used-word n d w other = rw (ne_eqb w 3 other) refl

with_used-line : (n : ℕ) (d : Words) (l w : ℕ) → l ≢ 0 → with_used n d l w ≡ d l w
unfolding with_used
with_used-line n d l w other = rw (ne_eqb l 0 other) refl

module _ (c d : Words) (had : List DirectoryEntry) (entry : DirectoryEntry) (later : List DirectoryEntry) (spells : Spells c had)
    (same : SameBesides c d) (all : Spells d (had ++ entry ∷ later)) (room : length (spelled_all (had ++ entry ∷ later)) ≤ directory_words) where
  count : ℕ
  count = length (spelled_all (had ++ entry ∷ []))

  count_is : count ≡ length (spelled_all had) + length (spelled entry)
  unfolding count
  count_is = ap length (spelled_more had entry) ∙ length-append (spelled_all had) (spelled entry)

  total : length (spelled_all (had ++ entry ∷ later)) ≡ length (spelled_all had) + (length (spelled entry) + length (spelled_all later))
  total = ap length (spelled_both had (entry ∷ later)) ∙ length-append (spelled_all had) (spelled entry ++ spelled_all later)
      ∙ ap (λ n. length (spelled_all had) + n) (length-append (spelled entry) (spelled_all later))

  next : Words
  next = with_used count d

  -- a word of the directory
  next_word : (i : ℕ) → next (directory_line i) (directory_word i) ≡ d (directory_line i) (directory_word i)
  unfolding next
  next_word i = with_used-line count d (directory_line i) (directory_word i) (λ zero. omega (arith, zero))

  old_word : (i : ℕ) → i < length (spelled_all had)
      → slice_index_or (spelled_all (had ++ entry ∷ later)) i 0 ≡ slice_index_or (spelled_all had) i 0
  old_word i below = ap (λ (words : List ℕ). slice_index_or words i 0) (spelled_both had (entry ∷ later))
      ∙ get_or_append_left (spelled_all had) (spelled entry ++ spelled_all later) 0 i below

  new_word : (i : ℕ) → i < length (spelled entry)
      → slice_index_or (spelled_all (had ++ entry ∷ later)) (length (spelled_all had) + i) 0 ≡ slice_index_or (spelled entry) i 0
  new_word i below = ap (λ (words : List ℕ). slice_index_or words (length (spelled_all had) + i) 0) (spelled_both had (entry ∷ later))
      ∙ get_or-append-add (spelled_all had) (spelled entry ++ spelled_all later) i 0
      ∙ get_or_append_left (spelled entry) (spelled_all later) 0 i below

  next_same : SameBesides c next
  unfolding next
  next_same l w outside = ⊎_elim
      (λ (low : l < 1).
      let zero : l ≡ 0 = omega (arith, low) in
      rw zero (with_used-word count d w (λ three. outside (inl (zero, three))) ∙ rw zero at (same l w outside)))
      (λ (high : 1 ≤ l). with_used-line count d l w (λ zero. omega (arith, zero, high)) ∙ same l w outside)
      (cases_lt l 1)

  next_besides : SameBesides next d
  unfolding next
  next_besides l w outside = ⊎_elim
      (λ (low : l < 1).
      let zero : l ≡ 0 = omega (arith, low) in
      rw zero (sym (with_used-word count d w (λ three. outside (inl (zero, three))))))
      (λ (high : 1 ≤ l). sym (with_used-line count d l w (λ zero. omega (arith, zero, high))))
      (cases_lt l 1)

  next_spells : Spells next (had ++ entry ∷ [])
  unfolding next count
  next_spells = record {
    used = with_used-at count d;
    spelled = λ i below. next_word i ∙ all.spelled i (omega (arith, below, count_is, total)) ∙ ⊎_elim
        (λ (low : i < length (spelled_all had)). old_word i low
        ∙ sym (ap (λ (words : List ℕ). slice_index_or words i 0) (spelled_more had entry) ∙ get_or_append_left (spelled_all had) (spelled entry) 0 i low))
        (λ (high : length (spelled_all had) ≤ i).
        let j = i - length (spelled_all had) in
        let at : length (spelled_all had) + j ≡ i = omega (arith, high) in
        let within : j < length (spelled entry) = omega (arith, high, below, count_is) in
        ap (λ k. slice_index_or (spelled_all (had ++ entry ∷ later)) k 0) (sym at) ∙ new_word j within
        ∙ sym (ap (λ k. slice_index_or (spelled_all (had ++ entry ∷ [])) k 0) (sym at)
        ∙ ap (λ (words : List ℕ). slice_index_or words (length (spelled_all had) + j) 0) (spelled_more had entry)
        ∙ get_or-append-add (spelled_all had) (spelled entry) j 0))
        (cases_lt i (length (spelled_all had)));
  }

  next_adds : AddsEntry c next entry
  unfolding next count
  next_adds = record {
    super = λ word below. with_used-word count d word (λ three. omega (arith, three, below)) ∙ same_super c d same word below;
    used = with_used-at count d ∙ count_is ∙ ap (λ n. n + length (spelled entry)) (sym spells.used);
    room = omega (arith, with_used-at count d, count_is, total, room);
    before = λ i below.
        let low : i < length (spelled_all had) = omega (arith, below, spells.used) in
        next_word i ∙ all.spelled i (omega (arith, low, total)) ∙ old_word i low ∙ sym (spells.spelled i low);
    added = λ i below.
        ap (λ n. next (directory_line (n + i)) (directory_word (n + i))) spells.used
        ∙ next_word (length (spelled_all had) + i) ∙ all.spelled (length (spelled_all had) + i) (omega (arith, below, total))
        ∙ new_word i below;
  }

-- ---- any number of entries more

-- what d then is
pub record Grown (size : ℕ) (d : Words) (graph : Graph) (had added : List DirectoryEntry) : Type 0 where
  pub opens : Opens size d (with_all no_entries (had ++ added))
  pub stands : StandsFor size d (with_all_too graph added)

pub grown : (size : ℕ) (c d : Words) (graph : Graph) (had added : List DirectoryEntry) → c 0 0 ≢ 0 → StandsFor size c graph
    → AreEntries no_entries (had ++ added) → Spells c had → SameBesides c d → Spells d (had ++ added)
    → length (spelled_all (had ++ added)) ≤ directory_words → Grown size d graph had added
grown size c d graph had [] used stands are spells same all room =
    let back = append-nil had in
    let were : AreEntries no_entries had = subst (λ (l : List DirectoryEntry). AreEntries no_entries l) back are in
    let again : Spells d had = subst (λ (l : List DirectoryEntry). Spells d l) back all in
    record {
      opens = subst (λ (l : List DirectoryEntry). Opens size d (with_all no_entries l)) (sym back)
          (opened_again size c d graph had used stands were spells same again);
      stands = stands_again size c d graph had used stands were spells same again;
    }
grown size c d graph had (entry ∷ added) used stands are spells same all room =
    let may = may_stand no_entries had entry added are in
    let mid = next c d had entry added spells same all room in
    let adds = next_adds c d had entry added spells same all room in
    let there = next_same c d had entry added spells same all room in
    let on : had ++ entry ∷ added ≡ (had ++ entry ∷ []) ++ added = sym (append_assoc had (entry ∷ []) added) in
    let opens = opens_with size c graph had used stands may.before spells in
    let further = added-stands size c mid (with_all no_entries had) entry graph opens stands may.is may.accepted adds
    (same_logs c mid there) (same_behind c mid there) in
    let rest = grown size mid d (with_entry_too graph entry) (had ++ entry ∷ []) added
    (λ zero. used (sym (adds.super 0 (omega arith)) ∙ zero)) further
    (subst (λ (l : List DirectoryEntry). AreEntries no_entries l) on are)
    (next_spells c d had entry added spells same all room) (next_besides c d had entry added spells same all room)
    (subst (λ (l : List DirectoryEntry). Spells d l) on all)
    (subst (λ (l : List DirectoryEntry). length (spelled_all l) ≤ directory_words) on room) in
    record {
      opens = subst (λ (l : List DirectoryEntry). Opens size d (with_all no_entries l)) (sym on) rest.opens;
      stands = rest.stands;
    }
