-- How many image calls are left of those that planned entries need.
use Rattle.std.proofs.Common.{◌≡◌, ◌≢◌, ℕ, ◌+◌, ◌<◌, ◌≤◌, List, [], ◌∷◌, length, refl, sym, ap, ◌∙◌, subst, arith, ◌⊎◌, inl}
use Rattle.std.proofs.Common.{inr}
use Rattle.std.proofs.lemmas.List.{length-append}
use Rattle.line_memory.specs.Memory.{Memory, IsResident, OneCall, SameImage}
use Rattle.image_layout.specs.Places.{min_lines, directory_words}
use Rattle.image_meaning.specs.Directories.{spelled_all}
use Rattle.image_meaning.specs.Entries.{DirectoryEntry, spelled}
use Rattle.word_changes.specs.Changes.{ChangesTo, GoesOn as Keeps}
use Rattle.word_changes.proofs.Going.{goes_by_call, goes_by_store}
use Rattle.directories.specs.declared.stepping.Progress.{Progress}
use Rattle.directories.specs.declared.stepping.Progress.TheVariants.{Words, Fenced, Raised}
use Rattle.directories.specs.Appending.{IsNeeded, calls_left}
use Rattle.directories.specs.Kept.{Kept, Steps, Waits, next_words}

-- ---- the calls that entries need, one after another

calls_of : ℕ → List DirectoryEntry → ℕ
calls_of used [] = 0
calls_of used (e ∷ es) = calls_left (Words 0) used (spelled e) + calls_of (used + length (spelled e)) es

work_left : List DirectoryEntry → Progress → ℕ → ℕ
work_left [] progress used = 0
work_left (e ∷ es) progress used =
    calls_left progress used (spelled e) + calls_of (used + length (spelled e)) es

pub work : Kept → ℕ
work kept = work_left kept.left kept.progress kept.used

begins : (left : List DirectoryEntry) (used : ℕ) → work_left left (Words 0) used ≡ calls_of used left
unfolding work_left calls_of
begins [] used = refl
begins (e ∷ es) used = refl

-- there is room for what is left
abbrev pub HasRoom : Kept → Type 0
HasRoom kept = kept.used + length (spelled_all kept.left) ≤ directory_words

-- ---- no line is waited for

needed_within : (progress : Progress) (used : ℕ) (words : List ℕ) (l size : ℕ)
    → used + length words ≤ directory_words
    → min_lines ≤ size → IsNeeded progress used words l → l < size
needed_within (Words n) used words l size room enough need = omega (arith, room, enough, need.0, need.1)
needed_within Fenced used words l size room enough need = omega (arith, enough, need)
needed_within Raised used words l size room enough need = absurd need

next_room : (left : List DirectoryEntry) → length (next_words left) ≤ length (spelled_all left)
next_room [] = omega arith
next_room (e ∷ es) = omega (arith, length-append (spelled e) (spelled_all es))

never_waits : (old new : Kept) (before after : Memory) → ((l : ℕ) → l < before.size → IsResident before l)
    → min_lines ≤ before.size
    → HasRoom old → ¬ Waits old new before after
never_waits old new before after resident enough room waits =
    let fetched = waits.1 in
    fetched.2 (resident fetched.0 (needed_within old.progress old.used (next_words old.left) fetched.0
    before.size
    (omega (arith, room, next_room old.left)) enough fetched.1))

-- ---- each step leaves fewer

on_less : (left more : List DirectoryEntry) (p q : Progress) (used now : ℕ) → left ≢ [] → more ≡ left
    → now ≡ used
    → calls_left q now (next_words more) + 1 ≡ calls_left p used (next_words left)
    → work_left more q now < work_left left p used
unfolding work_left
on_less [] more p q used now some same count calls = absurd (some refl)
on_less (e ∷ es) more p q used now some same count calls =
    let fewer : calls_left q used (spelled e) + 1 ≡ calls_left p used (spelled e) =
    subst (λ n. calls_left q n (spelled e) + 1 ≡ calls_left p used (spelled e)) count
    (subst (λ (l : List DirectoryEntry). calls_left q now (next_words l) + 1 ≡ calls_left p used (spelled e))
    same calls) in
    let there : work_left more q now ≡ calls_left q used (spelled e) + calls_of (used + length (spelled e))
    es =
    ap (λ (l : List DirectoryEntry). work_left l q now) same ∙ ap (work_left (e ∷ es) q) count in
    omega (arith, fewer, there)

in_less : (left : List DirectoryEntry) (entry : DirectoryEntry) (later : List DirectoryEntry)
    (p q : Progress) (used now : ℕ)
    → left ≡ entry ∷ later → now ≡ used + length (spelled entry) → q ≡ Words 0
    → calls_left p used (next_words left) ≡ 1
    → work_left later q now < work_left left p used
unfolding work_left
in_less left entry later p q used now is count begun calls =
    let one : calls_left p used (spelled entry) ≡ 1 =
    subst (λ (l : List DirectoryEntry). calls_left p used (next_words l) ≡ 1) is calls in
    let old : work_left left p used ≡ calls_left p used (spelled entry) + calls_of (used + length (spelled
    entry)) later =
    ap (λ (l : List DirectoryEntry). work_left l p used) is in
    let new : work_left later q now ≡ calls_of (used + length (spelled entry)) later =
    ap (λ s. work_left later s now) begun ∙ begins later now ∙ ap (λ n. calls_of n later) count in
    omega (arith, one, old, new)

pub steps_less : (old new : Kept) (before after : Memory) → ((l : ℕ) → l < before.size → IsResident before l)
    → min_lines ≤ before.size → HasRoom old → old.left ≢ [] → Steps old new before after → work new < work old
unfolding work
steps_less old new before after resident enough room some (same, inl waits) =
    absurd (never_waits old new before after resident enough room waits)
steps_less old new before after resident enough room some (same, inr (inl (on, one))) =
    on_less old.left new.left old.progress new.progress old.used new.used some on.left on.used on.calls
steps_less old new before after resident enough room some (same, inr (inr (goes, one))) =
    in_less old.left goes.entry new.left old.progress new.progress old.used new.used goes.left goes.used
    goes.progress goes.calls

-- and there is room still
pub steps_room : (old new : Kept) (before after : Memory) → HasRoom old → Steps old new before after
    → HasRoom new
steps_room old new before after room (same, inl waits) = subst HasRoom (sym waits.0) room
steps_room old new before after room (same, inr (inl (on, one))) =
    let used = on.used in let left = ap (λ (l : List DirectoryEntry). length (spelled_all l)) on.left in
    omega (arith, room, used, left)
steps_room old new before after room (same, inr (inr (goes, one))) =
    let used = goes.used in
    let left : length (spelled_all old.left) ≡ length (spelled goes.entry) + length (spelled_all new.left) =
    ap (λ (l : List DirectoryEntry). length (spelled_all l)) goes.left
    ∙ length-append (spelled goes.entry) (spelled_all new.left) in
    omega (arith, room, used, left)

-- ---- what one call keeps

pub call_goes : (Gives : ℕ → ℕ → ℕ → Type 0) (before after : Memory) → ChangesTo Gives before after
    → SameImage before after ⊎ OneCall before after → Keeps before after
call_goes Gives before after changes (inl same) = goes_by_store Gives before after changes same
call_goes Gives before after changes (inr one) = goes_by_call Gives before after changes one
