-- The words that a region has guarded, through the parts of a logging and of the region's end.
use Rattle.std.proofs.Common.{◌≡◌, ◌≢◌, ◌⊎◌, inl, inr, ⊎_elim, ◌<◌, ◌≤◌, ◌+◌, ◌-◌, ℕ, Bool, true, false, List, [], ◌∷◌, ◌++◌}
use Rattle.std.proofs.Common.{length, Result, Ok, Err, Some, slice_index_or, refl, sym, ◌∙◌, ap, subst, arith}
use Rattle.std.specs.Prelude.{◌↔◌}
use Rattle.std.proofs.lemmas.Bool.{cases_eq, cases_lt}
use Rattle.std.proofs.lemmas.List.{length-append, get_or_append_left}
use Rattle.std.proofs.lemmas.List.Quantifiers.{Any-push}
use Rattle.std.proofs.Math.Seq.{get_or-append_seam}
use Rattle.ap_base.specs.declared.place.Spot.{Spot}
use Rattle.line_image.specs.declared.image.ImageFailed.{ImageFailed}
use Rattle.line_memory.specs.Memory.{Memory}
use Rattle.region_log.specs.declared.entry.Entry.{Entry}
use Rattle.region_log.specs.declared.entry.EntryStage.{EntryStage}
use Rattle.region_log.specs.declared.entry.EndStage.{EndStage}
use Rattle.region_log.specs.declared.entry.EndStage.TheVariants.{Writing, AllFenced as StageFenced, Clearing, Cleared}
use Rattle.region_log.specs.declared.entry.Underway.{Underway}
use Rattle.region_log.specs.declared.entry.Underway.TheVariants.{Nothing, Adding, Ending}
use Rattle.region_log.specs.declared.log.LogStep.{LogStep}
use Rattle.region_log.specs.declared.log.LogStep.TheVariants.{More, Logged, Full}
use Rattle.region_log.specs.declared.log.EndStep.{EndStep}
use Rattle.region_log.specs.declared.log.EndStep.TheVariants.{More as EndMore, AllFenced, Ended}
use Rattle.region_log.specs.Guarding.{IsGuarded, IsAdded, is_adding}
use Rattle.region_log.specs.Kept.{FitsUnderway, KeepsLog}
use Rattle.region_log.specs.Log.{Log, SameWord, IsLogged}
use Rattle.region_log.specs.Readers.{added_entry, is_cleared}
use Rattle.region_log.specs.Stages.{CanEnd, EndsAtOnce, entry_stage, next_stage, failed_stage, end_stage, next_end, failed_end}
use Rattle.region_log.specs.Stages.{TouchesLineToEnd}
use Rattle.region_log.specs.Steps.{TouchesFor, AddsOn, AddsEntry, FailsToAdd, TouchesToEnd, EndsOn, FencesRegion, EndsLog}
use Rattle.region_logs.specs.Calls.{LogsPart, EndsPart}
use Rattle.region_logs.specs.Table.{GuardsStay}
use Rattle.region_logs.proofs.Tables.{Stays, same-guards}

-- ---- an entry is added

pub adding-is : (u : Underway) → is_adding u ≡ true → (e : Entry) × (stage : EntryStage) × (u ≡ Adding e stage)
adding-is Nothing is = cc
adding-is (Adding e stage) is = (e, stage, refl)
adding-is (Ending stage) is = cc

pub added-is : (u : Underway) (e : Entry) → added_entry u ≡ Some e → (stage : EntryStage) × (u ≡ Adding e stage)
added-is Nothing e is = cc
added-is (Adding x stage) e is = let same : x ≡ e = cc in (stage, ap (λ (y : Entry). Adding y stage) same)
added-is (Ending stage) e is = cc

fits-added : (size depth : ℕ) (entries : List Entry) (u : Underway) (e : Entry) → added_entry u ≡ Some e
    → FitsUnderway size depth entries u → IsLogged entries e.spot → ⊥
fits-added size depth entries Nothing e is fits = cc
fits-added size depth entries (Adding x stage) e is fits =
    let same : x ≡ e = cc in
    subst (λ (y : Entry). IsLogged entries y.spot → ⊥) same fits.0.unlogged
fits-added size depth entries (Ending stage) e is fits = cc

pub added-unlogged : (log : Log) (m : Memory) (e : Entry) → KeepsLog log m → added_entry log.underway ≡ Some e
    → IsLogged log.entries e.spot → ⊥
added-unlogged log m e keeps is = fits-added m.size log.depth log.entries log.underway e is keeps.fits

-- a log that names an entry isn't idle
pub busy : (u : Underway) → is_adding u ≡ true → u ≡ Nothing → ⊥
busy u adding idle =
    let no : is_adding u ≡ false = ap (λ (v : Underway). is_adding v) idle in
    let wrong : true ≡ false = sym adding ∙ no in
    cc

-- the entry is added still
still-adding : (before after : Log) (e : Entry) (a b : EntryStage) → before.underway ≡ Adding e a
    → after ≡ record before { underway = Adding e b } → Stays before after
still-adding before after e a b was is =
    let added : after.underway ≡ Adding e b = ap (λ (l : Log). l.underway) is in
    let same : after.entries ≡ before.entries = ap (λ (l : Log). l.entries) is in
    record {
      thread = ap (λ (l : Log). l.thread) is;
      guards = λ spot. (
        λ guarded. ⊎_elim
            (λ (logged : IsLogged after.entries spot). inl (subst (λ (es : List Entry). IsLogged es spot) same logged))
            (λ (it : IsAdded after.underway spot). inr (subst (λ (u : Underway). IsAdded u spot) (sym was)
            (subst (λ (u : Underway). IsAdded u spot) added it)))
            guarded,
        λ guarded. ⊎_elim
            (λ (logged : IsLogged before.entries spot). inl (subst (λ (es : List Entry). IsLogged es spot) (sym same) logged))
            (λ (it : IsAdded before.underway spot). inr (subst (λ (u : Underway). IsAdded u spot) (sym added)
            (subst (λ (u : Underway). IsAdded u spot) was it)))
            guarded,
      );
    }

logged-push : (entries : List Entry) (e : Entry) (spot : Spot) → IsLogged (entries ++ e ∷ []) spot
    → IsLogged entries spot ⊎ SameWord e.spot spot
logged-push entries e spot (k, x, below, at, same) =
    let count : length (entries ++ e ∷ []) ≡ length entries + 1 = length-append entries (e ∷ []) in
    ⊎_elim
    (λ (early : k < length entries). inl (k, x, early, sym (get_or_append_left entries (e ∷ []) x k early) ∙ at, same))
    (λ (late : length entries ≤ k).
    let here : k ≡ length entries = omega (arith, late, below, count) in
    let is : e ≡ x = sym (get_or-append_seam entries e [] x)
    ∙ ap (λ (i : ℕ). slice_index_or (entries ++ e ∷ []) i x) (sym here) ∙ at in
    inr (subst (λ (y : Entry). SameWord y.spot spot) (sym is) same))
    (cases_lt k (length entries))

logged-before : (entries : List Entry) (e : Entry) (spot : Spot) → IsLogged entries spot
    → IsLogged (entries ++ e ∷ []) spot
logged-before entries e spot (k, x, below, at, same) =
    let count : length (entries ++ e ∷ []) ≡ length entries + 1 = length-append entries (e ∷ []) in
    (k, x, omega (arith, below, count), get_or_append_left entries (e ∷ []) x k below ∙ at, same)

-- the entry counts
now-logged : (before after : Log) (e : Entry) (a : EntryStage) → before.underway ≡ Adding e a
    → after ≡ record before { entries = before.entries ++ e ∷ []; underway = Nothing } → Stays before after
now-logged before after e a was is =
    let idle : after.underway ≡ Nothing = ap (λ (l : Log). l.underway) is in
    let more : after.entries ≡ before.entries ++ e ∷ [] = ap (λ (l : Log). l.entries) is in
    record {
      thread = ap (λ (l : Log). l.thread) is;
      guards = λ spot. (
        λ guarded. ⊎_elim
            (λ (logged : IsLogged after.entries spot). ⊎_elim
            (λ (early : IsLogged before.entries spot). inl early)
            (λ (same : SameWord e.spot spot). inr (subst (λ (u : Underway). IsAdded u spot) (sym was) same))
            (logged-push before.entries e spot (subst (λ (es : List Entry). IsLogged es spot) more logged)))
            (λ (it : IsAdded after.underway spot). absurd (subst (λ (u : Underway). IsAdded u spot) idle it))
            guarded,
        λ guarded. inl (subst (λ (es : List Entry). IsLogged es spot) (sym more) (⊎_elim
            (λ (logged : IsLogged before.entries spot). logged-before before.entries e spot logged)
            (λ (it : IsAdded before.underway spot). let same : SameWord e.spot spot = subst (λ (u : Underway). IsAdded u spot) was it in
            Any-push (λ (x : Entry). SameWord x.spot spot) before.entries e same)
            guarded)),
      );
    }

pub log-stays : (e : Entry) (stage : EntryStage) (before after : Log) (old new : Memory)
    (result : Result LogStep ImageFailed) → before.underway ≡ Adding e stage
    → LogsPart e before after old new result → Stays before after
log-stays e stage before after old new (Ok More) was part = ⊎_elim
    (λ (touched : TouchesFor e before after old new). still-adding before after e stage (entry_stage before.underway) was touched.log)
    (λ (added : AddsOn e before after old new). still-adding before after e stage (next_stage (entry_stage before.underway)) was added.log)
    (part.more refl)
log-stays e stage before after old new (Ok Logged) was part = now-logged before after e stage was (part.logged refl).log
log-stays e stage before after old new (Ok Full) was part = absurd (part.room refl)
log-stays e stage before after old new (Err fault) was part =
    still-adding before after e stage (failed_stage (entry_stage before.underway)) was part.failed.log

-- ---- a region is ended

-- no entry is under way
none-added : (u : Underway) (spot : Spot) → CanEnd u → IsAdded u spot → ⊥
none-added Nothing spot can added = added
none-added (Adding e stage) spot can added = can
none-added (Ending stage) spot can added = added

-- the end goes on
still-ending : (before after : Log) (stage : EndStage) → CanEnd before.underway
    → after ≡ record before { underway = Ending stage } → Stays before after
still-ending before after stage can is =
    let ends : after.underway ≡ Ending stage = ap (λ (l : Log). l.underway) is in
    let same : after.entries ≡ before.entries = ap (λ (l : Log). l.entries) is in
    record {
      thread = ap (λ (l : Log). l.thread) is;
      guards = λ spot. (
        λ guarded. ⊎_elim
            (λ (logged : IsLogged after.entries spot). inl (subst (λ (es : List Entry). IsLogged es spot) same logged))
            (λ (it : IsAdded after.underway spot). absurd (subst (λ (u : Underway). IsAdded u spot) ends it))
            guarded,
        λ guarded. ⊎_elim
            (λ (logged : IsLogged before.entries spot). inl (subst (λ (es : List Entry). IsLogged es spot) (sym same) logged))
            (λ (it : IsAdded before.underway spot). absurd (none-added before.underway spot can it))
            guarded,
      );
    }

-- whether it ends at once
at-once : (depth : ℕ) (entries : List Entry) → ((1 < depth) ⊎ (entries ≡ [])) ⊎ ((1 < depth) ⊎ (entries ≡ []) → ⊥)
at-once depth [] = inl (inr refl)
at-once depth (e ∷ entries) = ⊎_elim
    (λ (more : 1 < depth). inl (inl more))
    (λ (few : depth ≤ 1). inr (λ once. ⊎_elim
    (λ (more : 1 < depth). omega (arith, few, more))
    (λ (none : e ∷ entries ≡ []). let no : ⊥ = cc in no)
    once))
    (cases_lt 1 depth)

is-cleared : (u : Underway) → u ≡ Ending Cleared → is_cleared u ≡ true
is-cleared u is = ap (λ (v : Underway). is_cleared v) is

pub cleared-is : (u : Underway) → is_cleared u ≡ true → u ≡ Ending Cleared
cleared-is Nothing is = cc
cleared-is (Adding e stage) is = cc
cleared-is (Ending (Writing lines)) is = cc
cleared-is (Ending StageFenced) is = cc
cleared-is (Ending Clearing) is = cc
cleared-is (Ending Cleared) is = refl

-- before the last fence no guard is given up
pub end-stays : (before after : Log) (old new : Memory) (result : Result EndStep ImageFailed)
    → CanEnd before.underway → is_cleared before.underway ≡ false
    → EndsPart before after old new result → Stays before after
end-stays before after old new (Ok EndMore) can left part = ⊎_elim
    (λ (touched : TouchesToEnd before after old new). still-ending before after (end_stage before.underway) can touched.log)
    (λ (on : EndsOn before after old new).
    still-ending before after (next_end (length before.entries) (end_stage before.underway)) can on.log)
    (part.more refl)
end-stays before after old new (Ok AllFenced) can left part = still-ending before after StageFenced can (part.fenced refl).log
end-stays before after old new (Ok Ended) can left part = ⊎_elim
    (λ (once : EndsAtOnce before).
    let is : after ≡ record before { depth = before.depth - 1 } = (part.at_once once).1 in
    same-guards before after (ap (λ (l : Log). l.thread) is) (ap (λ (l : Log). l.entries) is) (ap (λ (l : Log). l.underway) is))
    (λ (parts : EndsAtOnce before → ⊥).
    let last : is_cleared before.underway ≡ true = is-cleared before.underway (part.ended refl parts).last in
    absurd (let no : true ≡ false = sym last ∙ left in let wrong : ⊥ = cc in wrong))
    (at-once before.depth before.entries)
end-stays before after old new (Err fault) can left part =
    still-ending before after (failed_end (end_stage before.underway)) can part.failed.log

not-at-once : (depth : ℕ) (entries : List Entry) → (depth ≡ 1) × (entries ≢ []) → (1 < depth) ⊎ (entries ≡ []) → ⊥
not-at-once depth entries is (inl more) = omega (arith, is.0, more)
not-at-once depth entries is (inr none) = is.1 none

cleared-fits : (before : Log) (m : Memory) → before.underway ≡ Ending Cleared → KeepsLog before m → EndsAtOnce before → ⊥
cleared-fits before m is keeps =
    let fits : FitsUnderway m.size before.depth before.entries (Ending Cleared) =
    subst (λ (u : Underway). FitsUnderway m.size before.depth before.entries u) is keeps.fits in
    not-at-once before.depth before.entries fits

-- after the last fence the region has ended
pub record HasEmptied (before after : Log) : Type 0 where
  pub thread : after.thread ≡ before.thread
  pub entries : after.entries ≡ []
  pub underway : after.underway ≡ Nothing

touches-none : (t : ℕ) (entries : List Entry) (stage : EndStage) (old new : Memory) → stage ≡ Cleared
    → TouchesLineToEnd t entries stage old new → ⊥
touches-none t entries stage old new is touches =
    subst (λ (s : EndStage). TouchesLineToEnd t entries s old new) is touches

pub end-empties : (before after : Log) (old new : Memory) (step : EndStep)
    → before.underway ≡ Ending Cleared → KeepsLog before old
    → EndsPart before after old new (Ok step) → HasEmptied before after
end-empties before after old new EndMore is keeps part = absurd (⊎_elim
    (λ (touched : TouchesToEnd before after old new).
    let stage : end_stage before.underway ≡ Cleared = ap (λ (u : Underway). end_stage u) is in
    touches-none before.thread before.entries (end_stage before.underway) old new stage touched.touches)
    (λ (on : EndsOn before after old new). on.not_last is)
    (part.more refl))
end-empties before after old new AllFenced is keeps part =
    let next : end_stage before.underway ≡ Writing (length before.entries) = (part.fenced refl).next in
    let stage : end_stage before.underway ≡ Cleared = ap (λ (u : Underway). end_stage u) is in
    absurd (let wrong : ⊥ = cc in wrong)
end-empties before after old new Ended is keeps part =
    let ended : EndsLog before after old new = part.ended refl (cleared-fits before old is keeps) in record {
      thread = ap (λ (l : Log). l.thread) ended.log;
      entries = ap (λ (l : Log). l.entries) ended.log;
      underway = ap (λ (l : Log). l.underway) ended.log;
    }

-- where that fence fails no guard is given up
pub fail-stays : (before after : Log)
    → after ≡ record before { underway = Ending (failed_end (end_stage before.underway)) } → CanEnd before.underway
    → Stays before after
fail-stays before after is can = still-ending before after (failed_end (end_stage before.underway)) can is
