-- What a sink took.
use Rattle.std.specs.Prelude.{◌≡◌, ℕ, ◌+◌, ◌-◌, List, ◌++◌, Option, Some, None, min}

-- what a sink that tells it has taken, after these bytes too
abbrev pub with_bytes : Option (List ℕ) → List ℕ → Option (List ℕ)
with_bytes None bytes = None
with_bytes (Some before) bytes = Some (before ++ bytes)

-- A sink in memory: the bytes that it took, how many it has room for yet, how many of a piece it takes at most,
-- the numbers of the calls that fail, from 1, and its counts.
pub record SinkState : Type 0 where
  pub taken : List ℕ
  pub room : ℕ
  pub most : ℕ
  pub fails : List ℕ
  pub calls : ℕ
  pub faults : ℕ

-- how many bytes of a piece of this length it takes, once it took so many more
abbrev pub share_of : SinkState → (further length : ℕ) → ℕ
share_of sink further length = min length (min sink.most (sink.room - further))

-- Once it took so many bytes, a sink takes of a piece what it would have taken before, behind these bytes.
abbrev pub TakesBehind : (takes takes' : (further length : ℕ) → Option ℕ) → (count : ℕ) → Type 0
TakesBehind takes takes' count = (further length : ℕ) → takes' further length ≡ takes (count + further) length
