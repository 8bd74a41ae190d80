-- What is found in an image that is recovered, and what stops meanwhile leave.
use Rattle.std.proofs.Common.{◌≡◌, inl, inr, ⊎_elim, ◌<◌, ◌≤◌, ℕ, nat_le, List, Option, None, Result, Ok, Err, IfOk, IfErr}
use Rattle.std.proofs.Common.{OnOk, refl, sym, ◌∙◌, ap, subst, arith}
use Rattle.std.specs.Prelude.{is_some, is_err, IsSome, IsErr}
use Rattle.std.proofs.lemmas.Bool.{and_parts, cases_eq, cases_lt, eq-eqb, leb-true, ne_eqb, true≢false}
use Rattle.ap_base.specs.Causes.{IsCauseOf}
use Rattle.graph_model.specs.declared.types.Shape.{Shape}
use Rattle.graph_model.specs.declared.types.Graph.{Graph}
use Rattle.line_image.specs.Trace.{Outcome}
use Rattle.line_memory.specs.Memory.{Memory, shown}
use Rattle.image_layout.specs.Places.{min_lines, max_lines, super_check, super_of, slot_line, slot_word, directory_words}
use Rattle.image_layout.specs.Places.{directory_line, directory_word, logs, log_head_line}
use Rattle.image_layout.specs.declared.superblock.Super.{Super}
use Rattle.image_layout.specs.declared.superblock.Super.TheVariants as supers
use Rattle.image_meaning.specs.Checks as checks
use Rattle.image_meaning.specs.Checks.{Words}
use Rattle.image_meaning.specs.Directories.{Directory, no_entries, directory_of, directory_words_of, with_entries}
use Rattle.image_meaning.specs.Laws.{Opens}
use Rattle.image_meaning.specs.Logs.{logs_fault, is_log_line, put_back}
use Rattle.image_meaning.specs.Meaning.{at_super, empty_graph, graph_from, meaning, StandsFor, IsWellFormed}
use Rattle.image_meaning.proofs.Ranges.{mapped_same}
use Rattle.image_meaning.proofs.Recovering.{while_emptying}
use Rattle.image_meaning.proofs.Standing.{opens-standing, standing-sized, version-within}
use Rattle.image_meaning.proofs.Stopped.{logs_pass, opens-still, stopped-stands}
use Rattle.image_meaning.proofs.Standings.{found-stands, stands-within}
use Rattle.word_changes.specs.Changes.{Nothing, Tells, AllKnown, IsFixed, ChangesTo, StopsLeave, GoesOn}
use Rattle.word_changes.proofs.Changing.{changes_more, changes_nowhere, changes_stops, stops_then, stops_weaker, telling_knows}
use Rattle.word_changes.proofs.Going.{goes_by_fetch, goes_more}
use Rattle.directories.specs.Formatting.{IsFormatted, IsBlankOrFormatted, OfLayout}
use Rattle.directories.specs.Kept.{Kept}
use Rattle.directories.specs.Read as read
use Rattle.directories.specs.declared.reading.DirectoryFault.{DirectoryFault}
use Rattle.directories.specs.declared.reading.DirectoryFault.TheVariants as from
use Rattle.directories.proofs.Formatted.{either_stands, formatted_well}
use Rattle.image_walk.specs.Walking.{Shows, Looks, IsFault, IsFaultOf, directory_with}
use Rattle.image_walk.specs.declared.fault.RecoverFault.{RecoverFault}
use Rattle.image_walk.specs.declared.fault.RecoverFault.TheVariants as faults
use Rattle.image_recovery.specs.Putting.{IsPutBack, IsCleared, IsRestored, AllDurable, AllWritten, PutsBack, IsRecovered}
use Rattle.image_recovery.specs.Putting.{within, IsRecoveringIn}
use Rattle.image_recovery.specs.Recovered.{IsUsed, FailsFirst, FindsImage, FindsNothing, IsSameFault, IsBadFault, entries_in}
use Rattle.image_recovery.specs.Recoveries.{FailsToRecover, Recovers, StopsKeepTheDirectory, StopsKeepTheGraph, StoresItsOwn}
use Rattle.image_recovery.proofs.Causes.{cause_as, cause_on}
use Rattle.image_recovery.proofs.Directories.{formatting_keeps, looking_keeps, recovering_keeps}
use Rattle.image_recovery.proofs.PutSteps.{head_in}
use Rattle.image_recovery.proofs.Stops.{inside, behind, putting_stop, emptying_stop}

-- ---- memories that are only looked at

pub durable_on : (a b : Memory) → AllKnown a → Looks a b → AllDurable a → AllDurable b
durable_on a b known looks durable l w below v left =
    let under : l < a.size = omega (arith, below, looks.changes.size) in
    ⊎_elim (λ was. durable l w under v was ∙ sym (looks.changes.shows known l w under (λ v none. none)))
    (λ none. absurd none) (looks.changes.leaves l w v left)

pub puts_on : (first a b : Memory) → AllKnown a → Looks a b → PutsBack first a → PutsBack first b
puts_on first a b known looks back = record {
  size = looks.changes.size ∙ back.size;
  words = λ l w below outside.
      let under : l < a.size = omega (arith, below, back.size) in
      looks.changes.shows known l w under (λ v none. none) ∙ back.words l w below outside;
  logs = λ l w below inside.
      let under : l < a.size = omega (arith, below, back.size) in
      looks.changes.shows known l w under (λ v none. none) ∙ back.logs l w below inside;
}

pub back_shows : (first a : Memory) → AllKnown a → PutsBack first a → Shows a (put_back (shown first))
back_shows first a known back = record {
  known = known;
  same = λ l w below outside. back.words l w (omega (arith, below, back.size)) outside;
}

pub goes_by_looks : (a b : Memory) → Looks a b → GoesOn a b
goes_by_looks a b looks =
    goes_by_fetch Nothing a b looks.changes looks.counts (λ fits. (omega (arith, looks.calls), omega (arith, fits, looks.calls)))

-- the directory's words are those that were shown at first
pub directory_read : (first m : Memory) (used : ℕ) → min_lines ≤ m.size → used ≤ directory_words → AllKnown first → Looks first m
    → used ≡ shown first 0 3 → with_entries used 0 no_entries (directory_words_of (shown m) used) ≡ directory_of (shown first)
unfolding directory_of
directory_read first m used enough most known looks is =
    let size = looks.changes.size in
    ap (λ (words : List ℕ). with_entries used 0 no_entries words)
    (mapped_same (λ i. shown m (directory_line i) (directory_word i)) (λ i. shown first (directory_line i) (directory_word i)) 0 used
    (λ j low high. looks.changes.shows known (directory_line j) (directory_word j) (omega (arith, high, most, enough, size)) (λ v none. none)))
    ∙ ap (λ (n : ℕ). with_entries n 0 no_entries (directory_words_of (shown first) n)) is

-- ---- faults

pub fault_same : (given : Result Directory checks.Bad) (a : DirectoryFault) (b : RecoverFault) → IsSameFault a b → read.IsFault given a
    → IsFaultOf given b
fault_same given (from.Bad line) b same is = subst (IsFaultOf given) (sym same) is
fault_same given from.ImageFailed b same is = subst (IsFaultOf given) (sym same) tt
fault_same given from.OutOfMemory b same is = subst (IsFaultOf given) (sym same) tt

-- the image failed as the directory was read, and so it isn't recovered, and the other way round
failed_same : (a : DirectoryFault) (b : RecoverFault) → IsSameFault a b → b ≡ faults.ImageFailed → a ≡ from.ImageFailed
failed_same (from.Bad line) b same is = absurd (cc)
failed_same from.ImageFailed b same is = refl
failed_same from.OutOfMemory b same is = absurd (cc)

failed_alike : (a : DirectoryFault) (b : RecoverFault) → IsSameFault a b → a ≡ from.ImageFailed → b ≡ faults.ImageFailed
failed_alike (from.Bad line) b same is = absurd (cc)
failed_alike from.ImageFailed b same is = same
failed_alike from.OutOfMemory b same is = absurd (cc)

-- faults that are the same have one cause
pub cause_same : (a : DirectoryFault) (b : RecoverFault) (before now : ℕ) → IsSameFault a b → IsCauseOf from.ImageFailed a before now
    → IsCauseOf faults.ImageFailed b before now
cause_same a b before now same cause =
    cause_as from.ImageFailed a faults.ImageFailed b before now (failed_alike a b same) (failed_same a b same) cause

pub fails_at_directory : (size : ℕ) (words : Words) (used : ℕ) (fault : RecoverFault) → IsUsed size words used
    → IsFaultOf (directory_of words) fault → IsFaultOf (meaning size words) fault
unfolding meaning
fails_at_directory size words used (faults.Bad line reason) is fails = rw (is.passes, ne_eqb (words 0 0) 0 is.begins, fails) refl
fails_at_directory size words used faults.ImageFailed is fails = tt
fails_at_directory size words used faults.OutOfMemory is fails = tt

pub fails_at_logs : (size : ℕ) (words : Words) (used : ℕ) (directory : Directory) (fault : RecoverFault) → IsUsed size words used
    → directory_of words ≡ Ok directory → IsFault (logs_fault size words) fault → IsFaultOf (meaning size words) fault
unfolding meaning
fails_at_logs size words used directory (faults.Bad line reason) is entries fails =
    rw (is.passes, ne_eqb (words 0 0) 0 is.begins, entries, fails) refl
fails_at_logs size words used directory faults.ImageFailed is entries fails = tt
fails_at_logs size words used directory faults.OutOfMemory is entries fails = tt

pub fails_behind : (size : ℕ) (words : Words) (used : ℕ) (directory : Directory) (fault : RecoverFault) → IsUsed size words used
    → directory_of words ≡ Ok directory → logs_fault size words ≡ None → IsFaultOf (graph_from size directory (put_back words)) fault
    → IsFaultOf (meaning size words) fault
unfolding meaning
fails_behind size words used directory (faults.Bad line reason) is entries passes fails =
    rw (is.passes, ne_eqb (words 0 0) 0 is.begins, entries, passes, fails) refl
fails_behind size words used directory faults.ImageFailed is entries passes fails = tt
fails_behind size words used directory faults.OutOfMemory is entries passes fails = tt

pub some_none : {A : Type 0} (o : Option A) → o ≡ None → IsSome o → ⊥
some_none {A} o none some = true≢false (sym some ∙ ap (λ (q : Option A). is_some q) none)

err_ok : {A B : Type 0} (r : Result A B) (x : A) → r ≡ Ok x → IsErr r → ⊥
err_ok {A} {B} r x ok err = true≢false (sym err ∙ ap (λ (q : Result A B). is_err q) ok)

-- none of the first checks fails
pub never_first : (size : ℕ) (words : Words) (used : ℕ) (directory : Directory) → IsUsed size words used
    → directory_of words ≡ Ok directory → logs_fault size words ≡ None → FailsFirst size words → ⊥
never_first size words used directory is entries passes fails = ⊎_elim
    (λ super. some_none (super_check (words 0) size) is.passes super)
    (λ other. ⊎_elim (λ bad. err_ok (directory_of words) directory entries bad)
    (λ log. some_none (logs_fault size words) passes log) other.1)
    fails

pub same_directory : (directory : Kept) (shapes : List Shape) (roots : List (List ℕ)) → shapes ≡ directory.shapes → roots ≡ directory.roots
    → directory_with shapes roots ≡ entries_in directory
same_directory directory shapes roots s r = rw (s, r) refl

-- ---- what is there at the end, and what stops leave

pub recovered_by : (first a b : Memory) → AllKnown a → PutsBack first a → ChangesTo IsCleared a b
    → ((t : ℕ) → t < logs → shown b (log_head_line t) 0 ≡ 0) → IsRecovered first b
recovered_by first a b known back changes empty = record {
  words = λ l w below outside.
      let under : l < a.size = omega (arith, below, back.size) in
      changes.shows known l w under
      (λ v given. true≢false (sym (head_in given.0 given.1) ∙ ap is_log_line (sym given.2.0) ∙ outside))
      ∙ back.words l w below outside;
  empty = empty;
}

module _ (first : Memory) (enough : min_lines ≤ first.size) (pass : logs_fault first.size (shown first) ≡ None) (durable : AllDurable first) where
  pub stops_putting : (a : Memory) → ChangesTo (IsPutBack (shown first)) first a
      → StopsLeave first a (IsRecoveringIn first.size (shown first))
  stops_putting a changes =
      changes_stops (IsPutBack (shown first)) first a (IsRecoveringIn first.size (shown first)) changes
      (putting_stop first enough pass durable)

-- and while the logs are emptied, of a memory that was only looked at since they were put back
pub stops_emptying : (first mid a b : Memory) → min_lines ≤ mid.size → logs_fault first.size (shown first) ≡ None → AllKnown mid → AllDurable mid
    → PutsBack first mid → Looks mid a → ChangesTo IsCleared a b → StopsLeave a b (IsRecoveringIn first.size (shown first))
stops_emptying first mid a b enough pass known durable back looks cleared =
    let size = back.size in
    let now = puts_on first mid a known looks back in
    changes_stops IsCleared a b (IsRecoveringIn first.size (shown first)) cleared
    (emptying_stop first (omega (arith, enough, size)) pass a now (durable_on mid a known looks durable))

-- what such a stop leaves stands for the same graph
pub recovering_stands : (size : ℕ) (c d : Words) (graph : Graph) → min_lines ≤ size → size ≤ max_lines → (c 0 0 ≡ 0 → ⊥) → StandsFor size c graph
    → IsRecoveringIn size c d → StandsFor size d graph
recovering_stands size c d graph enough most used stands r =
    stands-within size (within size d (put_back c)) d graph enough most
    (stopped-stands size c (within size d (put_back c)) graph used stands r)
    (λ l w below. sym (inside size d (put_back c) l w below))

module _ (first b : Memory) (graph : Graph) (enough : min_lines ≤ first.size) (most : first.size ≤ max_lines) (used : shown first 0 0 ≡ 0 → ⊥)
    (stands : StandsFor first.size (shown first) graph) (done : IsRecovered first b) where
  recovered_is : IsRecoveringIn first.size (shown first) (shown b)
  recovered_is =
      let c = shown first in
      let size = first.size in
      while_emptying size c (logs_pass size c (opens-standing size c graph used stands).1.logs) (within size (shown b) (put_back c))
      (λ l w outside. ⊎_elim
      (λ (below : l < size). inside size (shown b) (put_back c) l w below ∙ done.words l w below outside)
      (λ (past : size ≤ l). behind size (shown b) (put_back c) l w past)
      (cases_lt l size))
      (λ t there. inr (inside size (shown b) (put_back c) (log_head_line t) 0 (omega (arith, enough, there)) ∙ done.empty t there))

  pub recovered_stands : StandsFor first.size (shown b) graph
  recovered_stands = recovering_stands first.size (shown first) (shown b) graph enough most used stands recovered_is

  -- the version stays
  pub recovered_version : shown b 0 1 ≡ shown first 0 1
  recovered_version =
      let c = shown first in
      let size = first.size in
      let o = opens-standing size c graph used stands in
      let still = opens-still size c (within size (shown b) (put_back c)) o.0 o.1 recovered_is in
      sym (inside size (shown b) (put_back c) 0 1 (omega (arith, enough)))
      ∙ version-within size (within size (shown b) (put_back c) 0) still.used still.super
      ∙ sym (version-within size (c 0) used o.1.super)

  pub recovered_well : IsWellFormed first.size (shown b)
  recovered_well =
      let c = shown first in
      let size = first.size in
      let o = opens-standing size c graph used stands in
      let still = opens-still size c (within size (shown b) (put_back c)) o.0 o.1 recovered_is in
      (λ zero. still.used (inside size (shown b) (put_back c) 0 0 (omega (arith, enough)) ∙ zero), graph, recovered_stands)

-- ---- the whole

pub fails_at_super : (size : ℕ) (words : Words) (fault : RecoverFault) → IsFault (at_super (super_check (words 0) size)) fault
    → IsFaultOf (meaning size words) fault
unfolding meaning
fails_at_super size words (faults.Bad line reason) fails = rw fails refl
fails_at_super size words faults.ImageFailed fails = tt
fails_at_super size words faults.OutOfMemory fails = tt

pub untied : {A : Type 0} (given : Result A checks.Bad) (fault : RecoverFault) → (IsBadFault fault → ⊥) → IsFaultOf given fault
untied given (faults.Bad line reason) never = absurd (never tt)
untied given faults.ImageFailed never = tt
untied given faults.OutOfMemory never = tt

pub never_bad : {A : Type 0} (given : Result A checks.Bad) (x : A) (fault : RecoverFault) → given ≡ Ok x → IsFaultOf given fault
    → IsBadFault fault → ⊥
never_bad {A} given x (faults.Bad line reason) ok fails bad = let right : Result A checks.Bad = Ok x in let e : given ≡ right = ok in cc
never_bad given x faults.ImageFailed ok fails bad = bad
never_bad given x faults.OutOfMemory ok fails bad = bad

-- what a stop leaves of a memory that is only looked at
pub looking_stops : (first a : Memory) (graph : Graph) → min_lines ≤ first.size → first.size ≤ max_lines → AllDurable first
    → StandsFor first.size (shown first) graph → Looks first a → StopsLeave first a (λ c. StandsFor first.size c graph)
looking_stops first a graph enough most durable stands looks =
    changes_stops Nothing first a (λ c. StandsFor first.size c graph) looks.changes
    (λ c all. stands-within first.size (shown first) c graph enough most stands
    (λ l w below. ⊎_elim (λ was. durable l w below (c l w) was) (λ none. absurd none) (all l w)))

same_graph : {A : Type 0} (given : Result A checks.Bad) (x y : A) → given ≡ Ok x → given ≡ Ok y → x ≡ y
same_graph {A} given x y a b = let left : Result A checks.Bad = Ok x in let e : left ≡ Ok y = sym a ∙ b in cc

-- and while it is formatted
pub formatting_stops : (first a b : Memory) (graph : Graph) → min_lines ≤ first.size → first.size ≤ max_lines → AllDurable first
    → StandsFor first.size (shown first) graph → Looks first a → shown first 0 0 ≡ 0 → StopsLeave a b (IsBlankOrFormatted first.size)
    → StopsLeave first b (λ c. StandsFor first.size c graph)
formatting_stops first a b graph enough most durable stands looks blank formats =
    let size = first.size in
    let same : empty_graph ≡ graph = same_graph (meaning size (shown first)) empty_graph graph
    (either_stands size (shown first) enough most (inl blank)) stands in
    stops_then first a b (λ c. StandsFor size c graph) (looking_stops first a graph enough most durable stands looks)
    (stops_weaker a b (IsBlankOrFormatted size) (λ c. StandsFor size c graph) formats
    (λ c either. subst (λ g. StandsFor size c g) same (either_stands size c enough most either)))

-- the first word of a blank image is durable
pub blank_fixed : (first a : Memory) → min_lines ≤ first.size → AllKnown first → AllDurable first → Looks first a → shown first 0 0 ≡ 0
    → IsFixed a 0 0 0
blank_fixed first a enough known durable looks blank x left =
    let size = looks.changes.size in
    durable_on first a known looks durable 0 0 (omega (arith, enough, size)) x left
    ∙ looks.changes.shows known 0 0 (omega (arith, enough)) (λ v none. none) ∙ blank

-- ---- a blank image

pub formatted_on : (size : ℕ) (a b : Memory) → min_lines ≤ a.size → AllKnown a → Looks a b → IsFormatted size (shown a)
    → IsFormatted size (shown b)
formatted_on size a b enough known looks formatted =
    let same : (l w : ℕ) → l < a.size → shown b l w ≡ shown a l w = λ l w below. looks.changes.shows known l w below (λ v none. none) in
    record {
      begins = same 0 0 (omega (arith, enough)) ∙ formatted.begins;
      layout = same 0 1 (omega (arith, enough)) ∙ formatted.layout;
      lines = same 0 2 (omega (arith, enough)) ∙ formatted.lines;
      used = same 0 3 (omega (arith, enough)) ∙ formatted.used;
      slots = λ r there. same (slot_line r) (slot_word r) (omega (arith, enough, there)) ∙ formatted.slots r there;
      logs = λ t there. same (log_head_line t) 0 (omega (arith, enough, there)) ∙ formatted.logs t there;
    }

pub stops_look : (a b c : Memory) (P : Outcome → Type 0) → StopsLeave a b P → Looks b c → StopsLeave a c P
stops_look a b c P stops looks =
    stops_then a b c P stops (changes_stops Nothing b c P looks.changes
    (λ k all. stops.after k (λ l w. ⊎_elim (λ was. was) (λ none. absurd none) (all l w))))

-- its directory is empty
pub empty_directory : (given : Result Directory checks.Bad) (kept : Kept) → given ≡ Ok (entries_in kept) → given ≡ Ok no_entries
    → entries_in kept ≡ no_entries
empty_directory given kept read empty = same_graph given (entries_in kept) no_entries read empty

-- ---- what the superblock says

pub says_blank : (line : ℕ → ℕ) (says : Super) → says ≡ super_of line → says ≡ supers.Blank → line 0 ≡ 0
says_blank line says is blank = ⊎_elim (λ e. e)
    (λ ne. absurd (let f : supers.Blank ≡ super_of line = sym blank ∙ is in let h : supers.Blank ≡ supers.Used (line 1) (line 3) = (rw (ne_eqb (line 0) 0 ne) at f) in cc))
    (cases_eq (line 0) 0)

-- a layout in use has the version and the count of words that its superblock has
pub record SaysUsed (line : ℕ → ℕ) (version n : ℕ) : Type 0 where
  pub begins : line 0 ≡ 0 → ⊥
  pub version_is : version ≡ line 1
  pub count_is : n ≡ line 3

pub says_used : (line : ℕ → ℕ) (says : Super) (version n : ℕ) → says ≡ super_of line → says ≡ supers.Used version n
    → SaysUsed line version n
says_used line says version n is used =
    let f : supers.Used version n ≡ super_of line = sym used ∙ is in
    ⊎_elim
    (λ e. absurd (let h : supers.Used version n ≡ supers.Blank = (rw (eq-eqb (line 0) 0 e) at f) in cc))
    (λ ne. (let h : supers.Used version n ≡ supers.Used (line 1) (line 3) = (rw (ne_eqb (line 0) 0 ne) at f) in
    record { begins = ne; version_is = cc; count_is = cc }))
    (cases_eq (line 0) 0)

pub used_super : (size : ℕ) (words : Words) (says : Super) (version n : ℕ) → super_check (words 0) size ≡ None
    → says ≡ super_of (words 0) → says ≡ supers.Used version n → IsUsed size words n
used_super size words says version n passes is used =
    let so = says_used (words 0) says version n is used in
    record { passes = passes; begins = so.begins; says = so.count_is }

-- ---- what is found

pub finds_stand : (size : ℕ) (words : Words) (directory : Kept) (graph : Graph) (lines : List ℕ) (free undone : ℕ)
    → FindsImage size words directory graph lines free undone → StandsFor size words graph
finds_stand size words directory graph lines free undone f =
    subst (λ (g : Graph). StandsFor size words g) (sym f.graph_is) (found-stands size words (entries_in directory) lines f.finds)

-- an image that stands for a graph has so many lines as it may
pub sized : (size : ℕ) (words : Words) (graph : Graph) → StandsFor size words graph → (min_lines ≤ size) × (size ≤ max_lines)
sized size words graph stands =
    let parts = and_parts (nat_le min_lines size) (nat_le size max_lines) (standing-sized size words graph stands) in
    (leb-true min_lines size parts.0, leb-true size max_lines parts.1)

-- ---- results

-- what each answer keeps, and each refusal
pub when_ok : {T E : Type 0} (r : Result T E) (P : T → Type 0) → ((x : T) → r ≡ Ok x → P x) → IfOk r P
when_ok (Ok x) P f = f x refl
when_ok (Err e) P f = tt

pub when_err : {T E : Type 0} (r : Result T E) (P : E → Type 0) → ((e : E) → r ≡ Err e → P e) → IfErr r P
when_err (Ok x) P f = tt
when_err (Err e) P f = f e refl

pub ok_at : {T E : Type 0} (r : Result T E) (P : T → Type 0) (x : T) → r ≡ Ok x → IfOk r P → P x
ok_at {T} {E} r P x is holds = let ok : Result T E = Ok x in let at : IfOk ok P = subst (λ (s : Result T E). IfOk s P) is holds in at

pub on_ok_at : {T E : Type 0} (r : Result T E) (A : Type 0) (x : T) → r ≡ Ok x → OnOk r A → A
on_ok_at {T} {E} r A x is holds = let ok : Result T E = Ok x in let at : OnOk ok A = subst (λ (s : Result T E). OnOk s A) is holds in at

pub err_at : {T E : Type 0} (r : Result T E) (P : E → Type 0) (e : E) → r ≡ Err e → IfErr r P → P e
err_at {T} {E} r P e is holds = let err : Result T E = Err e in let at : IfErr err P = subst (λ (s : Result T E). IfErr s P) is holds in at

-- ---- the superblock isn't read, or fails

pub unread_fails : (first seen : Memory) (fault : RecoverFault) → Looks first seen
    → (AllKnown first → IsFault (at_super (super_check (shown first 0) first.size)) fault)
    → IsCauseOf faults.ImageFailed fault first.faults seen.faults → FailsToRecover first seen fault
unread_fails first seen fault looks fails cause = record {
  bad = λ known. fails_at_super first.size (shown first) fault (fails known);
  cause = cause;
  put_back = λ known bad. changes_nowhere (IsPutBack (shown first)) first seen looks.changes;
  stores = record {
    blank = λ known zero. changes_nowhere (OfLayout first.size) first seen looks.changes;
    used = λ known used. changes_nowhere (IsRestored (shown first)) first seen looks.changes;
    refused = λ known fails. looks.changes;
  };
  stops = λ tells durable all graph stands.
      let range = sized first.size (shown first) graph stands in
      looking_stops first seen graph range.0 range.1 durable stands looks;
  directory_stays = λ tells durable all enough most directory has. looking_keeps first seen enough durable looks directory has;
  recovering = λ tells durable all enough used pass.
      stops_putting first enough pass durable seen (changes_nowhere (IsPutBack (shown first)) first seen looks.changes);
  goes_on = goes_by_looks first seen looks;
}

-- ---- a blank image was formatted, or not

module _ (first seen new : Memory) (enough : min_lines ≤ first.size) (most : first.size ≤ max_lines) (looks : Looks first seen)
    (zero : AllKnown first → shown first 0 0 ≡ 0) (passes : AllKnown first → super_check (shown first 0) first.size ≡ None)
    (formats : Tells seen → IsFixed seen 0 0 0 → StopsLeave seen new (IsBlankOrFormatted seen.size))
    (lays : ChangesTo (OfLayout seen.size) seen new) (goes : GoesOn seen new) (stood : seen.faults ≡ first.faults) where
  -- the layout alone is written
  blank_stores : StoresItsOwn first new
  blank_stores = record {
    blank = λ known blank. changes_more (OfLayout first.size) first seen new
        (changes_nowhere (OfLayout first.size) first seen looks.changes)
        (subst (λ (n : ℕ). ChangesTo (OfLayout n) seen new) looks.changes.size lays);
    used = λ known used. absurd (used (zero known));
    refused = λ known fails. absurd (⊎_elim
        (λ super. some_none (super_check (shown first 0) first.size) (passes known) super)
        (λ other. other.0 (zero known)) fails);
  }

  blank_stops : StopsKeepTheGraph first new
  blank_stops tells durable all graph stands =
      let known = telling_knows first tells in
      formatting_stops first seen new graph enough most durable stands looks (zero known)
      (subst (λ (n : ℕ). StopsLeave seen new (IsBlankOrFormatted n)) looks.changes.size
      (formats (looks.changes.telling tells) (blank_fixed first seen enough known durable looks (zero known))))

  blank_keeps : StopsKeepTheDirectory first new
  blank_keeps tells durable all enough_lines most_lines directory has =
      let known = telling_knows first tells in
      let none : directory ≡ no_entries = ⊎_elim
      (λ (blank : (shown first 0 0 ≡ 0) × (directory ≡ no_entries)). blank.1)
      (λ (opens : Opens first.size (shown first) directory). absurd (opens.used (zero known)))
      has in
      formatting_keeps first seen enough durable looks directory has new most none
      (subst (λ (n : ℕ). StopsLeave seen new (IsBlankOrFormatted n)) looks.changes.size
      (formats (looks.changes.telling tells) (blank_fixed first seen enough known durable looks (zero known))))

  blank_goes : GoesOn first new
  blank_goes = goes_more first seen new (goes_by_looks first seen looks) goes

  pub blank_recovers : (directory : Kept) (graph : Graph) (lines : List ℕ) (free undone : ℕ)
      → (AllKnown seen → FindsNothing directory graph lines free undone)
      → (AllKnown seen → IsFormatted seen.size (shown new))
      → (Tells seen → AllDurable seen → AllDurable new)
      → new.faults ≡ seen.faults
      → Recovers first new directory graph lines free undone
  blank_recovers directory graph lines free undone finds formatted durable spared =
      let known_seen : AllKnown first → AllKnown seen = looks.changes.known in
      let same : new.size ≡ seen.size = goes.size in
      let size : seen.size ≡ first.size = looks.changes.size in
      record {
        stands = λ known. subst (λ (g : Graph). StandsFor first.size (shown first) g) (sym (finds (known_seen known)).graph_is)
            (either_stands first.size (shown first) enough most (inl (zero known)));
        stands_now = λ known. subst (λ (n : ℕ). StandsFor n (shown new) graph) (sym same)
            (subst (λ (g : Graph). StandsFor seen.size (shown new) g) (sym (finds (known_seen known)).graph_is)
            (either_stands seen.size (shown new) (omega (arith, enough, size)) (omega (arith, most, size))
            (inr (formatted (known_seen known)))));
        blank = λ known blank. finds (known_seen known);
        used = λ known used. absurd (used (zero known));
        formatted = λ known blank. subst (λ (n : ℕ). IsFormatted n (shown new)) size (formatted (known_seen known));
        recovered = λ known used. absurd (used (zero known));
        well_formed = λ known. subst (λ (n : ℕ). IsWellFormed n (shown new)) (sym same)
            (formatted_well seen.size (shown new) (omega (arith, enough, size)) (omega (arith, most, size))
            (formatted (known_seen known)));
        empty = λ known. (formatted (known_seen known)).logs;
        durable = λ tells written before. durable (looks.changes.telling tells)
            (durable_on first seen (telling_knows first tells) looks before);
        stores = blank_stores;
        stops = blank_stops;
        directory_stays = blank_keeps;
        recovering = λ tells before all used. absurd (used (zero (telling_knows first tells)));
        goes_on = blank_goes;
        spared = spared ∙ stood;
      }

  pub blank_fails : (fault : RecoverFault) → (AllKnown seen → IsBadFault fault → ⊥)
      → IsCauseOf faults.ImageFailed fault seen.faults new.faults → FailsToRecover first new fault
  blank_fails fault never cause = record {
    bad = λ known. untied (meaning first.size (shown first)) fault (never (looks.changes.known known));
    cause = cause_on faults.ImageFailed fault first.faults seen.faults new.faults stood cause;
    put_back = λ known bad. absurd (never (looks.changes.known known) bad);
    stores = blank_stores;
    stops = blank_stops;
    directory_stays = blank_keeps;
    recovering = λ tells before all enough used pass. absurd (used (zero (telling_knows first tells)));
    goes_on = blank_goes;
  }

-- ---- any other was recovered, or not

module _ (first seen new : Memory) (words : ℕ) (enough : min_lines ≤ first.size) (most : first.size ≤ max_lines) (looks : Looks first seen)
    (is : AllKnown first → IsUsed first.size (shown first) words)
    (leaves : Tells first → AllDurable first → AllWritten first → logs_fault first.size (shown first) ≡ None
    → StopsLeave first new (IsRecoveringIn first.size (shown first)))
    (restores : AllKnown first → ChangesTo (IsRestored (shown first)) first new)
    (refused : AllKnown first → FailsFirst first.size (shown first) → ChangesTo Nothing first new)
    (goes : GoesOn seen new) (stood : seen.faults ≡ first.faults) where
  -- words are put back and counts cleared, alone
  used_stores : StoresItsOwn first new
  used_stores = record {
    blank = λ known zero. absurd ((is known).begins zero);
    used = λ known used. restores known;
    refused = refused;
  }

  used_stops : StopsKeepTheGraph first new
  used_stops tells durable all graph stands =
      let used = (is (telling_knows first tells)).begins in
      let pass = (opens-standing first.size (shown first) graph used stands).1.logs in
      stops_weaker first new (IsRecoveringIn first.size (shown first)) (λ d. StandsFor first.size d graph) (leaves tells durable all pass)
      (λ d so. recovering_stands first.size (shown first) d graph enough most used stands so)

  used_keeps : StopsKeepTheDirectory first new
  used_keeps tells durable all enough_lines most_lines directory has =
      let begins = (is (telling_knows first tells)).begins in
      let opens : Opens first.size (shown first) directory = ⊎_elim
      (λ (blank : (shown first 0 0 ≡ 0) × (directory ≡ no_entries)). absurd (begins blank.0))
      (λ (there : Opens first.size (shown first) directory). there)
      has in
      recovering_keeps first new enough directory opens (leaves tells durable all opens.logs)

  used_goes : GoesOn first new
  used_goes = goes_more first seen new (goes_by_looks first seen looks) goes

  pub used_recovers : (directory : Kept) (graph : Graph) (lines : List ℕ) (free undone : ℕ)
      → (AllKnown first → FindsImage first.size (shown first) directory graph lines free undone)
      → (AllKnown first → IsRecovered first new)
      → (Tells first → AllWritten first → AllDurable new)
      → new.faults ≡ seen.faults
      → Recovers first new directory graph lines free undone
  used_recovers directory graph lines free undone finds done durable spared =
      let size : new.size ≡ first.size = goes.size ∙ looks.changes.size in
      let stands : AllKnown first → StandsFor first.size (shown first) graph
      = λ known. finds_stand first.size (shown first) directory graph lines free undone (finds known) in
      record {
        stands = stands;
        stands_now = λ known. subst (λ (n : ℕ). StandsFor n (shown new) graph) (sym size)
            (recovered_stands first new graph enough most (is known).begins (stands known) (done known));
        blank = λ known zero. absurd ((is known).begins zero);
        used = λ known used. finds known;
        formatted = λ known zero. absurd ((is known).begins zero);
        recovered = λ known used. done known;
        well_formed = λ known. subst (λ (n : ℕ). IsWellFormed n (shown new)) (sym size)
            (recovered_well first new graph enough most (is known).begins (stands known) (done known));
        empty = λ known. (done known).empty;
        durable = λ tells written before. durable tells written;
        stores = used_stores;
        stops = used_stops;
        directory_stays = used_keeps;
        recovering = λ tells before all used. leaves tells before all (finds (telling_knows first tells)).finds.opens.logs;
        goes_on = used_goes;
        spared = spared ∙ stood;
      }

  -- it is of the version that its superblock has
  pub used_version : (graph : Graph) (version : ℕ) → (AllKnown first → version ≡ shown first 0 1)
      → (AllKnown first → StandsFor first.size (shown first) graph) → (AllKnown first → IsRecovered first new)
      → AllKnown first → version ≡ shown new 0 1
  used_version graph version same stands done known =
      same known
      ∙ sym (recovered_version first new graph enough most (is known).begins (stands known) (done known))

  pub used_fails : (fault : RecoverFault) → (AllKnown first → IsFaultOf (meaning first.size (shown first)) fault)
      → (AllKnown first → IsBadFault fault → ChangesTo (IsPutBack (shown first)) first new)
      → IsCauseOf faults.ImageFailed fault seen.faults new.faults → FailsToRecover first new fault
  used_fails fault bad put_back cause = record {
    bad = bad;
    cause = cause_on faults.ImageFailed fault first.faults seen.faults new.faults stood cause;
    put_back = put_back;
    stores = used_stores;
    stops = used_stops;
    directory_stays = used_keeps;
    recovering = λ tells before all enough used pass. leaves tells before all pass;
    goes_on = used_goes;
  }
