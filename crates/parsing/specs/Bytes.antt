-- Lists of bytes.
use Rattle.std.specs.Prelude.{◌≡◌, ℕ, ◌<◌, List, length, slice_index}

abbrev pub IsBytes : List ℕ → Type 0
IsBytes bytes = (i : ℕ) → slice_index bytes i < 256

abbrev pub HasBytes : ℕ → List ℕ → Type 0
HasBytes n bytes = (length bytes ≡ n) × IsBytes bytes
