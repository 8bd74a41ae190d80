-- What a stop within a recovery leaves: some words put back, and some logs emptied after all of theirs were. Of this project's own format.
use Rattle.std.specs.Prelude.{◌≡◌, ◌≢◌, ◌⊎◌, ℕ, ◌<◌, false, Some}
use Rattle.graph_model.specs.declared.types.Graph.{Graph}
use Rattle.image_layout.specs.Places.{logs}
use Rattle.image_meaning.specs.Checks.{Words}
use Rattle.image_meaning.specs.Logs.{log_count, logged_at, log_of, old_word, is_log_line, put_back}
use Rattle.image_meaning.specs.Meaning.{StandsFor}

-- log t is as it was
pub record IsUnchanged (c d : Words) (t : ℕ) : Type 0 where
  pub count : log_count d t ≡ log_count c t
  pub entries : (n : ℕ) → n < log_count c t → logged_at d t n ≡ logged_at c t n

-- log t was emptied, and each of its places has its old word
pub record IsEmptied (c d : Words) (t : ℕ) : Type 0 where
  pub empty : log_count d t ≡ 0
  pub done : (line word old : ℕ) → old_word (log_of c t) line word ≡ Some old → d line word ≡ old

-- Outside the logs each word is as before or put back, and each log is as before or emptied.
pub record IsRecovering (c d : Words) : Type 0 where
  pub words : (line word : ℕ) → is_log_line line ≡ false → (d line word ≡ c line word) ⊎ (d line word ≡ put_back c line word)
  pub each : (t : ℕ) → t < logs → IsUnchanged c d t ⊎ IsEmptied c d t

-- What a stop within a recovery leaves stands for the graph that the image stood for before.
abbrev pub StoppedRecoveryStands : Type 0
StoppedRecoveryStands = (size : ℕ) (c d : Words) (graph : Graph) → c 0 0 ≢ 0 → StandsFor size c graph → IsRecovering c d
    → StandsFor size d graph

-- Any number of recoveries that stop, one after another, leave what one may.
abbrev pub StoppedRecoveriesAreOne : Type 0
StoppedRecoveriesAreOne = (size : ℕ) (c d e : Words) (graph : Graph) → c 0 0 ≢ 0 → StandsFor size c graph
    → IsRecovering c d → IsRecovering d e → IsRecovering c e
