-- A directory is read exactly where its words spell entries that may stand there.
use Rattle.std.proofs.Common.{◌≡◌, ◌⊎◌, inl, inr, ℕ, zero, suc, ◌+◌, ◌<◌, ◌≤◌, Bool, true, false, List, [], ◌∷◌, ◌++◌, length}
use Rattle.std.proofs.Common.{refl, sym, ◌∙◌, ap, subst, arith, ◌||◌, nat_le, Option, Some, None, Result, Ok, Err, append_assoc}
use Rattle.std.proofs.Common.{length-append}
use Rattle.std.proofs.lemmas.Bool.{leb-false}
use Rattle.std.proofs.lemmas.List.FromFn.{length-map-range_with_len}
use Rattle.image_layout.specs.Places.{root_slots, directory_line, directory_word}
use Rattle.image_meaning.specs.Checks.{Words, Bad}
use Rattle.image_meaning.specs.Entries.{DirectoryEntry, ShapeEntry, RootEntry, entry_body, spelled, read_entry}
use Rattle.image_meaning.specs.Directories.{Directory, no_entries, has_name, is_refused, with_entry, bad_entry, with_entries}
use Rattle.image_meaning.specs.Directories.{directory_words_of, directory_of, spelled_all, with_all, AreEntries, NoEntryBegins}
use Rattle.image_meaning.specs.Directories.{BreaksOff, Spells}
use Rattle.image_meaning.specs.Laws.{BadDirectoriesAreTold}
use Rattle.image_meaning.proofs.Entries.{entry-again, entry-taken}
use Rattle.image_meaning.proofs.Ranges.{mapped_list, mapped_same}

-- a spelled entry has a first word
spelled_first : (entry : DirectoryEntry) (rest : List ℕ) → (w : ℕ) × (ws : List ℕ) × (spelled entry ++ rest ≡ w ∷ ws)
spelled_first entry rest = (_, entry_body entry ++ rest, refl)

one_taken : (most at : ℕ) (directory : Directory) (words : List ℕ) (entry : DirectoryEntry) (rest : List ℕ)
    → (w : ℕ) → (ws : List ℕ) → words ≡ w ∷ ws → read_entry words ≡ Some (entry, rest) → is_refused directory entry ≡ false
    → with_entries (suc most) at directory words ≡ with_entries most (at + length (spelled entry)) (with_entry directory entry) rest
unfolding with_entries
one_taken most at directory words entry rest w ws is read accepted =
    let here : read_entry (w ∷ ws) ≡ Some (entry, rest) = rw is at read in
    rw (is, here, accepted) refl

-- entries that may stand there are read
pub entries-again : (entries : List DirectoryEntry) (most at : ℕ) (directory : Directory) → AreEntries directory entries
    → length entries ≤ most → with_entries most at directory (spelled_all entries) ≡ Ok (with_all directory entries)
unfolding with_entries
entries-again [] zero at directory are h = refl
entries-again [] (suc most) at directory are h = refl
entries-again (entry ∷ entries) zero at directory are h = absurd (omega (arith, h))
entries-again (entry ∷ entries) (suc most) at directory are h =
    let first = spelled_first entry (spelled_all entries) in
    one_taken most at directory (spelled entry ++ spelled_all entries) entry (spelled_all entries) first.0 first.1 first.2
    (entry-again entry (spelled_all entries) are.0) are.1
    ∙ entries-again entries most (at + length (spelled entry)) (with_entry directory entry) are.2 (omega (arith, h))

-- there are no more entries than words
entries_few : (entries : List DirectoryEntry) → length entries ≤ length (spelled_all entries)
entries_few [] = omega arith
entries_few (entry ∷ entries) =
    omega (arith, entries_few entries, length-append (spelled entry) (spelled_all entries))

-- the entries that the image's directory spells are its entries
pub directory-again : (words : Words) (entries : List DirectoryEntry) → AreEntries no_entries entries → Spells words entries
    → directory_of words ≡ Ok (with_all no_entries entries)
unfolding directory_of
directory-again words entries are has =
    let list : directory_words_of words (length (spelled_all entries)) ≡ spelled_all entries =
    mapped_list (λ i. words (directory_line i) (directory_word i)) (spelled_all entries) has.spelled in
    rw (has.used, list) (entries-again entries (length (spelled_all entries)) 0 no_entries are (entries_few entries))

some_or : {X : Type 0} (o : Option X) → (o ≡ None) ⊎ ((x : X) × (o ≡ Some x))
some_or None = inl refl
some_or (Some x) = inr (x, refl)

true_or : (b : Bool) → (b ≡ true) ⊎ (b ≡ false)
true_or true = inl refl
true_or false = inr refl

-- what is read are entries that may stand there, and the words spell them
pub entries-taken : (most at : ℕ) (directory given : Directory) (words : List ℕ)
    → with_entries most at directory words ≡ Ok given
    → (entries : List DirectoryEntry) × (words ≡ spelled_all entries) × AreEntries directory entries × (given ≡ with_all directory entries)
unfolding with_entries
entries-taken most at directory given [] h = ([], refl, tt, let e : Ok directory ≡ Ok given = h in cc)
entries-taken zero at directory given (w ∷ words) h =
    absurd (let wrong : Result Directory Bad = Err (bad_entry at) in let e : wrong ≡ Ok given = h in cc)
entries-taken (suc most) at directory given (w ∷ words) h = elim (some_or (read_entry (w ∷ words))) [
  | inl none ↦ absurd (let wrong : Result Directory Bad = Err (bad_entry at) in let e : wrong ≡ Ok given = rw none at h in cc)
  | inr some ↦ (
      let entry = some.0.0 in
      let rest = some.0.1 in
      let taken = entry-taken (w ∷ words) entry rest some.1 in
      let next = rw some.1 at h in
      elim (true_or (is_refused directory entry)) [
        | inl refused ↦ absurd (let wrong : Result Directory Bad = Err (bad_entry at) in let e : wrong ≡ Ok given = rw refused at next in cc)
        | inr accepted ↦ (
            let more = entries-taken most (at + length (spelled entry)) (with_entry directory entry) given rest (rw accepted at next) in (
              entry ∷ more.0,
              taken.0 ∙ ap (λ (l : List ℕ). spelled entry ++ l) more.1,
              (taken.1, accepted, more.2),
              more.3,
            ))
      ])
]

-- ---- directories that are bad

-- what no entry begins isn't taken
not_taken : (most at : ℕ) (directory : Directory) (words : List ℕ) → 0 < length words → NoEntryBegins directory words
    → with_entries most at directory words ≡ Err (bad_entry at)
unfolding with_entries
not_taken most at directory [] more none = absurd (omega (arith, more))
not_taken zero at directory (w ∷ words) more none = refl
not_taken (suc most) at directory (w ∷ words) more none = elim (some_or (read_entry (w ∷ words))) [
  | inl nothing ↦ rw nothing refl
  | inr some ↦ (
      let taken = entry-taken (w ∷ words) some.0.0 some.0.1 some.1 in
      rw (some.1, none some.0.0 some.0.1 taken.1 taken.0) refl)
]

entries_refused : (entries : List DirectoryEntry) (most at : ℕ) (directory : Directory) (rest : List ℕ) → AreEntries directory entries
    → length entries ≤ most → 0 < length rest → NoEntryBegins (with_all directory entries) rest
    → with_entries most at directory (spelled_all entries ++ rest) ≡ Err (bad_entry (at + length (spelled_all entries)))
entries_refused [] most at directory rest are h more none =
    let e : at + 0 ≡ at = omega arith in rw e (not_taken most at directory rest more none)
entries_refused (entry ∷ entries) zero at directory rest are h more none = absurd (omega (arith, h))
entries_refused (entry ∷ entries) (suc most) at directory rest are h more none =
    let behind = spelled_all entries ++ rest in
    let first = spelled_first entry behind in
    let far : (at + length (spelled entry)) + length (spelled_all entries) ≡ at + length (spelled entry ++ spelled_all entries) =
    omega (arith, length-append (spelled entry) (spelled_all entries)) in
    ap (with_entries (suc most) at directory) (append_assoc (spelled entry) (spelled_all entries) rest)
    ∙ one_taken most at directory (spelled entry ++ behind) entry behind first.0 first.1 first.2 (entry-again entry behind are.0) are.1
    ∙ entries_refused entries most (at + length (spelled entry)) (with_entry directory entry) rest are.2 (omega (arith, h)) more none
    ∙ ap (λ k. Err (bad_entry k)) far

err_same : (bad other : Bad) → (let left : Result Directory Bad = Err bad in left ≡ Err other) → other ≡ bad
err_same bad other h = let left : Result Directory Bad = Err bad in let e : left ≡ Err other = h in cc

-- words that are refused break off somewhere
entries_broken : (most at : ℕ) (directory : Directory) (words : List ℕ) (bad : Bad) → length words ≤ most
    → with_entries most at directory words ≡ Err bad
    → (entries : List DirectoryEntry) × (rest : List ℕ) × BreaksOff directory words entries rest
    × (bad ≡ bad_entry (at + length (spelled_all entries)))
unfolding with_entries
entries_broken most at directory [] bad enough h =
    absurd (let right : Result Directory Bad = Ok directory in let e : right ≡ Err bad = h in cc)
entries_broken zero at directory (w ∷ words) bad enough h = absurd (omega (arith, enough))
entries_broken (suc most) at directory (w ∷ words) bad enough h = elim (some_or (read_entry (w ∷ words))) [
  | inl nothing ↦ broken_here at directory (w ∷ words) bad (omega arith)
      (λ entry rest is e. absurd (let some = entry-again entry rest is in let wrong : Some (entry, rest) ≡ None = sym some ∙ sym (ap read_entry e) ∙ nothing in cc))
      (rw nothing at h)
  | inr some ↦ (
      let entry = some.0.0 in
      let rest = some.0.1 in
      let taken = entry-taken (w ∷ words) entry rest some.1 in
      let next = rw some.1 at h in
      elim (true_or (is_refused directory entry)) [
        | inl refused ↦ broken_here at directory (w ∷ words) bad (omega arith)
            (λ other behind is e.
            let same = one_entry (w ∷ words) entry other rest behind some.1 (ap read_entry e ∙ entry-again other behind is) in
            subst (λ x. is_refused directory x ≡ true) same refused)
            (rw refused at next)
        | inr accepted ↦ (
            let fewer : length rest ≤ most = omega (arith, enough, ap length taken.0, length-append (spelled entry) rest) in
            let more = entries_broken most (at + length (spelled entry)) (with_entry directory entry) rest bad fewer (rw accepted at next) in
            let far : (at + length (spelled entry)) + length (spelled_all more.0) ≡ at + length (spelled entry ++ spelled_all more.0) =
            omega (arith, length-append (spelled entry) (spelled_all more.0)) in (
              entry ∷ more.0,
              more.1,
              record {
                spelled =
                    taken.0 ∙ ap (λ (l : List ℕ). spelled entry ++ l) more.2.spelled
                    ∙ sym (append_assoc (spelled entry) (spelled_all more.0) more.1);
                before = (taken.1, accepted, more.2.before);
                more = more.2.more;
                none = more.2.none;
              },
              more.3 ∙ ap bad_entry far,
            ))
      ])
]
  where
    one_entry : (words : List ℕ) (entry other : DirectoryEntry) (rest behind : List ℕ) → read_entry words ≡ Some (entry, rest)
        → read_entry words ≡ Some (other, behind) → entry ≡ other
    one_entry words entry other rest behind a b =
        let e : Some (entry, rest) ≡ Some (other, behind) = sym a ∙ b in
        let both : (entry, rest) ≡ (other, behind) = cc in
        ap (λ (x : DirectoryEntry × List ℕ). x.0) both

    broken_here : (at : ℕ) (directory : Directory) (words : List ℕ) (bad : Bad) → 0 < length words → NoEntryBegins directory words
        → (let left : Result Directory Bad = Err (bad_entry at) in left ≡ Err bad)
        → (entries : List DirectoryEntry) × (rest : List ℕ) × BreaksOff directory words entries rest
        × (bad ≡ bad_entry (at + length (spelled_all entries)))
    broken_here at directory words bad more none h =
        let zero_on : at + 0 ≡ at = omega arith in (
          [],
          words,
          record { spelled = refl; before = tt; more = more; none = none },
          err_same (bad_entry at) bad h ∙ ap bad_entry (sym zero_on),
        )

pub bad_directories : BadDirectoriesAreTold
unfolding directory_of
bad_directories = record {
  told = λ words entries rest breaks.
      let few : length entries ≤ words 0 3 =
      omega (arith, entries_few entries, ap length breaks.spelled, length-append (spelled_all entries) rest, in_use words) in
      ap (with_entries (words 0 3) 0 no_entries) breaks.spelled
      ∙ rw (from_zero entries) at (entries_refused entries (words 0 3) 0 no_entries rest breaks.before few breaks.more breaks.none);
  only = λ words bad h.
      let broken = entries_broken (words 0 3) 0 no_entries (directory_words_of words (words 0 3)) bad (omega (arith, in_use words)) h in
      (broken.0, broken.1, broken.2, broken.3 ∙ ap bad_entry (from_zero broken.0));
}
  where
    from_zero : (entries : List DirectoryEntry) → 0 + length (spelled_all entries) ≡ length (spelled_all entries)
    from_zero entries = omega arith

    in_use : (words : Words) → length (directory_words_of words (words 0 3)) ≡ words 0 3
    in_use words = length-map-range_with_len (λ i. words (directory_line i) (directory_word i)) 0 (words 0 3)

-- the same words in use give the same directory
pub directory-same : (c d : Words) → d 0 3 ≡ c 0 3
    → ((i : ℕ) → i < c 0 3 → d (directory_line i) (directory_word i) ≡ c (directory_line i) (directory_word i))
    → directory_of d ≡ directory_of c
unfolding directory_of
directory-same c d used same =
    let list : directory_words_of d (c 0 3) ≡ directory_words_of c (c 0 3) =
    mapped_same (λ i. d (directory_line i) (directory_word i)) (λ i. c (directory_line i) (directory_word i)) 0 (c 0 3)
    (λ j low high. let e : 0 + c 0 3 ≡ c 0 3 = omega arith in same j (rw e at high)) in
    rw (used, list) refl

-- no more roots than slots
pub roots-few : (directory : Directory) (entries : List DirectoryEntry) → AreEntries directory entries → length directory.roots ≤ root_slots
    → length (with_all directory entries).roots ≤ root_slots
roots-few directory [] are few = few
roots-few directory (ShapeEntry shape ∷ entries) are few = roots-few (with_entry directory (ShapeEntry shape)) entries are.2 few
roots-few directory (RootEntry name ∷ entries) are few =
    let room = leb-false root_slots (length directory.roots) (or_right_false (has_name directory.roots name) (nat_le root_slots (length directory.roots)) are.1) in
    roots-few (with_entry directory (RootEntry name)) entries are.2 (omega (arith, room, length-append directory.roots (name ∷ [])))
  where
    or_right_false : (a b : Bool) → (a || b) ≡ false → b ≡ false
    or_right_false true b h = absurd (let e : true ≡ false = h in cc)
    or_right_false false b h = h
