-- What the steps of one thread's log keep of another's.
use Rattle.std.proofs.Common.{◌≡◌, ◌≢◌, ◌<◌, ℕ, true, List, [], ◌∷◌, length, slice_index_or, sym, subst, arith}
use Rattle.std.proofs.lemmas.Bool.Decides.{nat_tests}
use Rattle.image_layout.specs.Places.{logs}
use Rattle.image_meaning.specs.Logs.{may_be_logged}
use Rattle.line_memory.specs.Memory.{Memory}
use Rattle.region_log.specs.declared.entry.Entry.{Entry}
use Rattle.region_log.specs.declared.entry.EndStage.TheVariants.{Writing, AllFenced, Clearing, Cleared}
use Rattle.region_log.specs.declared.entry.Underway.{Underway}
use Rattle.region_log.specs.declared.entry.Underway.TheVariants.{Nothing, Adding, Ending}
use Rattle.region_log.specs.Kept.{HoldsRegion, FitsUnderway, KeepsLog, KeepsRegion}
use Rattle.region_log.specs.Log.{Log}
use Rattle.region_log.specs.Made.{Word, Puts, PutsAll, PutsThenCalls, IsOfLog, AreOfLog}
use Rattle.region_log.proofs.Frames.{undisturbed-call, undisturbed-put, keeps-on, put-written, put-durable}
use Rattle.region_log.proofs.Regions.{region-call}

-- no line is of two logs
one_log : (t u line : ℕ) → IsOfLog t line → IsOfLog u line → t ≡ u
one_log t u line a b = omega (arith, a.from, a.below, b.from, b.below)

puts-keep : (log : Log) (t : ℕ) (words : List Word) (old placed : Memory) → log.thread ≢ t
    → AreOfLog t words → PutsAll words old placed
    → KeepsLog log old → KeepsLog log placed
puts-keep log t [] old placed other of_log is keeps = subst (KeepsLog log) (sym is) keeps
puts-keep log t (word ∷ words) old placed other of_log puts keeps =
    puts-keep log t words puts.0 placed other of_log.1 puts.2
    (keeps-on log old puts.0 (undisturbed-put log.thread word old puts.0 puts.1
    (λ own. other (one_log log.thread t word.line own of_log.0))) keeps)

pub steps-keep : (log : Log) (t : ℕ) (words : List Word) (old new : Memory) → log.thread ≢ t
    → AreOfLog t words → PutsThenCalls words old new
    → KeepsLog log old → KeepsLog log new
steps-keep log t words old new other of_log made keeps =
    keeps-on log made.placed new (undisturbed-call log.thread made.placed new made.calls)
    (puts-keep log t words old made.placed other of_log made.puts keeps)

-- no logged word lies in a log
pub not_of_log : (size line t : ℕ) → may_be_logged size line ≡ true → t < logs → IsOfLog t line → ⊥
not_of_log size line t may below of_log =
    let from = of_log.from in let under = of_log.below in grind (arith, nat_tests)

region-put : (bound depth : ℕ) (entries : List Entry) (underway : Underway) (word : Word) (old new : Memory)
    → Puts word old new
    → ((k : ℕ) (d : Entry) → k < length entries → (slice_index_or entries k d).spot.line ≢ word.line)
    → FitsUnderway bound depth entries underway → HoldsRegion old entries underway
    → HoldsRegion new entries underway
region-put bound depth entries Nothing word old new put apart fits holds = tt
region-put bound depth entries (Adding e stage) word old new put apart fits holds = tt
region-put bound depth entries (Ending (Writing lines)) word old new put apart fits holds = λ k d low below.
    put-written word old new put (slice_index_or entries k d).spot.line (slice_index_or entries k d).spot.word
    (λ same. absurd (apart k d (omega (arith, below, fits.2)) same)) (holds k d low below)
region-put bound depth entries (Ending AllFenced) word old new put apart fits holds = λ k d below.
    put-durable word old new put (slice_index_or entries k d).spot.line
    (slice_index_or entries k d).spot.word (λ same. absurd (apart k d below same)) (holds k d below)
region-put bound depth entries (Ending Clearing) word old new put apart fits holds = λ k d below.
    put-durable word old new put (slice_index_or entries k d).spot.line
    (slice_index_or entries k d).spot.word (λ same. absurd (apart k d below same)) (holds k d below)
region-put bound depth entries (Ending Cleared) word old new put apart fits holds = λ k d below.
    put-durable word old new put (slice_index_or entries k d).spot.line
    (slice_index_or entries k d).spot.word (λ same. absurd (apart k d below same)) (holds k d below)

region-puts : (bound depth t : ℕ) (entries : List Entry) (underway : Underway) (words : List Word)
    (old placed : Memory) → AreOfLog t words
    → ((k : ℕ) (d : Entry) → k < length entries → IsOfLog t (slice_index_or entries k d).spot.line → ⊥)
    → FitsUnderway bound depth entries underway → PutsAll words old placed
    → HoldsRegion old entries underway → HoldsRegion placed entries underway
region-puts bound depth t entries underway [] old placed of_log apart fits is holds = subst
    (λ (m : Memory). HoldsRegion m entries underway) (sym is) holds
region-puts bound depth t entries underway (word ∷ words) old placed of_log apart fits puts holds =
    region-puts bound depth t entries underway words puts.0 placed of_log.1 apart fits puts.2
    (region-put bound depth entries underway word old puts.0 puts.1
    (λ k d below same. apart k d below (subst (IsOfLog t) (sym same) of_log.0)) fits holds)

pub steps-region : (log : Log) (t : ℕ) (words : List Word) (old new : Memory) → t < logs → AreOfLog t words
    → PutsThenCalls words old new
    → KeepsLog log old → KeepsRegion log old → KeepsRegion log new
steps-region log t words old new below of_log made keeps region =
    region-call made.placed new made.calls log.entries log.underway
    (region-puts old.size log.depth t log.entries log.underway words old made.placed of_log
    (λ k d under. not_of_log old.size (slice_index_or log.entries k d).spot.line t (keeps.places k d under)
    below)
    keeps.fits made.puts region)
