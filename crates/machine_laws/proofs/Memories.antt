-- What a change of the memory keeps of a thread's log: a call of the image, and a store to no line of the log
-- and to no word that its region has guarded.
use Rattle.std.proofs.Common.{◌≡◌, inl, inr, ℕ, ◌<◌, ◌≤◌, true, List, length, refl, sym, ◌∙◌, subst, arith, slice_index_or}
use Rattle.std.proofs.lemmas.Bool.Decides.{nat_tests}
use Rattle.ap_base.specs.declared.place.Spot.{Spot}
use Rattle.image_meaning.specs.Logs.{may_be_logged}
use Rattle.line_image.specs.Trace.{MayLeave}
use Rattle.line_image.specs.Told.{Told}
use Rattle.line_memory.specs.Memory.{Memory, shown, IsResident, IsTelling, ReadsWord, CanLeave, IsWritten, IsDurable}
use Rattle.line_memory.specs.Moments.{KeepsShown}
use Rattle.region_log.specs.declared.entry.Entry.{Entry}
use Rattle.region_log.specs.declared.entry.EndStage.TheVariants.{Writing, AllFenced, Clearing, Cleared}
use Rattle.region_log.specs.declared.entry.Underway.{Underway}
use Rattle.region_log.specs.declared.entry.Underway.TheVariants.{Nothing, Adding, Ending}
use Rattle.region_log.specs.Guarding.{IsAdded, IsGuarded}
use Rattle.region_log.specs.Kept.{FitsUnderway, HoldsRegion, KeepsLog, KeepsRegion}
use Rattle.region_log.specs.Log.{Log}
use Rattle.region_log.specs.Made.{IsOfLog}
use Rattle.region_log.proofs.Frames.{Undisturbed, undisturbed-call, keeps-on}
use Rattle.region_log.proofs.Regions.{region-call}
use Rattle.region_events.specs.Guards.{HasOld}
use Rattle.twin_forms.specs.Sights.{AllKnown}
use Rattle.machine_laws.proofs.Words.{read-same}

-- The memory keeps the log, the words of its region, and the word of the entry that is added.
pub record KeepsWhole (log : Log) (m : Memory) : Type 0 where
  pub keeps : KeepsLog log m
  pub region : KeepsRegion log m
  pub old : HasOld log.underway m

-- each line is resident
pub all-known : (m : Memory) → AllKnown m
unfolding IsResident
all-known m l lt = inl lt

-- ---- calls

pub logged-inside : (size line : ℕ) → may_be_logged size line ≡ true → 33 ≤ size → line < size
logged-inside size line may long = grind (arith, nat_tests)

old-call : (size depth : ℕ) (entries : List Entry) (underway : Underway) (old new : Memory)
    → KeepsShown old new → AllKnown old → AllKnown new → old.size ≡ size → 33 ≤ size
    → FitsUnderway size depth entries underway → HasOld underway old → HasOld underway new
old-call size depth entries Nothing old new keeps known after is long fits has = tt
old-call size depth entries (Adding e stage) old new keeps known after is long fits has =
    let inside = logged-inside size e.spot.line fits.0.place long in
    let same = keeps.size in
    has ∙ sym (keeps.shows e.spot.line e.spot.word (known e.spot.line (omega (arith, inside, is)))
    (after e.spot.line (omega (arith, inside, is, same))))
old-call size depth entries (Ending stage) old new keeps known after is long fits has = tt

-- Whoever calls the image, and whatever comes of it.
pub call-keeps : (log : Log) (old new : Memory) → KeepsShown old new → AllKnown old → AllKnown new
    → KeepsWhole log old → KeepsWhole log new
call-keeps log old new keeps known after is = record {
  keeps = keeps-on log old new (undisturbed-call log.thread old new keeps) is.keeps;
  region = region-call old new keeps log.entries log.underway is.region;
  old = (let long = is.keeps.size in
      old-call old.size log.depth log.entries log.underway old new keeps known after refl
      (omega (arith, long)) is.keeps.fits is.old);
}

-- ---- stores

-- No words but these show other values, and there is no call.
pub record Stores (At : ℕ → ℕ → Type 0) (old new : Memory) : Type 0 where
  pub size : new.size ≡ old.size
  pub image : new.image ≡ old.image
  pub others : (l w : ℕ) → (At l w → ⊥) → shown new l w ≡ shown old l w

module _ (At : ℕ → ℕ → Type 0) (old new : Memory) (stores : Stores At old new) where
  leaves-off : (l w v : ℕ) → (At l w → ⊥) → CanLeave new l w v → CanLeave old l w v
  leaves-off l w v off (inl is) = inl (is ∙ stores.others l w off)
  leaves-off l w v off (inr left) =
      inr (subst (λ (told : Told). MayLeave told.trace l w v) stores.image left)

  written-off : (l w : ℕ) → (At l w → ⊥) → IsWritten old l w → IsWritten new l w
  written-off l w off is = subst (λ v. ReadsWord new.image.trace l w v) (sym (stores.others l w off))
      (subst (λ (told : Told). ReadsWord told.trace l w (shown old l w)) (sym stores.image) is)

  durable-off : (l w : ℕ) → (At l w → ⊥) → IsDurable old l w → IsDurable new l w
  durable-off l w off is v left = is v (leaves-off l w v off left) ∙ sym (stores.others l w off)

  undisturbed-off : (t : ℕ) → ((l w : ℕ) → IsOfLog t l → At l w → ⊥) → Undisturbed t old new
  undisturbed-off t off = record {
    size = stores.size;
    silent = subst (λ (told : Told). IsTelling told.trace) stores.image;
    shows = λ tells l w of_log. stores.others l w (off l w of_log);
    leaves = λ l w v of_log left. leaves-off l w v (off l w of_log) left;
    written = λ l w of_log is. written-off l w (off l w of_log) is;
  }

  region-off : (size depth : ℕ) (entries : List Entry) (underway : Underway)
      → ((i : ℕ) (d : Entry) → i < length entries
      → At (slice_index_or entries i d).spot.line (slice_index_or entries i d).spot.word → ⊥)
      → FitsUnderway size depth entries underway → HoldsRegion old entries underway
      → HoldsRegion new entries underway
  region-off size depth entries Nothing off fits holds = tt
  region-off size depth entries (Adding e stage) off fits holds = tt
  region-off size depth entries (Ending (Writing lines)) off fits holds = λ i d low below.
      written-off (slice_index_or entries i d).spot.line (slice_index_or entries i d).spot.word
      (off i d (omega (arith, below, fits.2))) (holds i d low below)
  region-off size depth entries (Ending AllFenced) off fits holds = λ i d below.
      durable-off (slice_index_or entries i d).spot.line (slice_index_or entries i d).spot.word
      (off i d below) (holds i d below)
  region-off size depth entries (Ending Clearing) off fits holds = λ i d below.
      durable-off (slice_index_or entries i d).spot.line (slice_index_or entries i d).spot.word
      (off i d below) (holds i d below)
  region-off size depth entries (Ending Cleared) off fits holds = λ i d below.
      durable-off (slice_index_or entries i d).spot.line (slice_index_or entries i d).spot.word
      (off i d below) (holds i d below)

  old-off : (underway : Underway) → ((spot : Spot) → IsAdded underway spot → At spot.line spot.word → ⊥)
      → HasOld underway old → HasOld underway new
  old-off Nothing off has = tt
  old-off (Adding e stage) off has =
      has ∙ sym (stores.others e.spot.line e.spot.word (off e.spot (refl, refl)))
  old-off (Ending stage) off has = tt

  pub log-off : (log : Log) → ((l w : ℕ) → IsOfLog log.thread l → At l w → ⊥) → KeepsLog log old
      → KeepsLog log new
  log-off log off is = keeps-on log old new (undisturbed-off log.thread off) is

  -- what is stored to no line of the log, and to no word that is guarded
  pub store-keeps : (log : Log) → ((l w : ℕ) → IsOfLog log.thread l → At l w → ⊥)
      → ((spot : Spot) → IsGuarded log spot → At spot.line spot.word → ⊥) → KeepsWhole log old
      → KeepsWhole log new
  store-keeps log off apart is = record {
    keeps = log-off log off is.keeps;
    region = region-off old.size log.depth log.entries log.underway
        (λ i d below. apart (slice_index_or log.entries i d).spot (inl (
          i,
          slice_index_or log.entries i d,
          below,
          read-same log.entries i (slice_index_or log.entries i d) d below,
          (refl, refl),
        ))) is.keeps.fits is.region;
    old = old-off log.underway (λ spot added. apart spot (inr added)) is.old;
  }

-- where nothing is under way, also at words of its own region
pub idle-keeps : (log : Log) (new : Memory) → log.underway ≡ Nothing → KeepsLog log new → KeepsWhole log new
idle-keeps log new idle is = record {
  keeps = is;
  region = subst (λ (u : Underway). HoldsRegion new log.entries u) (sym idle) tt;
  old = subst (λ (u : Underway). HasOld u new) (sym idle) tt;
}
