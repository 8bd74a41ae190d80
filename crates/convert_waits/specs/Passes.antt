-- A pass over the threads in their order, in which each live one has an event: where all of them wait, they fill a row.
use Rattle.std.specs.Prelude.{◌≡◌, ℕ, ◌+◌, ◌<◌, Bool, true, false, List, Option, Some}
use Rattle.twin_forms.specs.Table.{Entry, IsClaimed}
use Rattle.convert_waits.specs.Rows.{Why, with_wait}
use Rattle.convert_waits.specs.Stuck.{IsFull}

-- Each live thread below n has waited in the row.
abbrev pub HaveWaited : (ℕ → Bool) → (ℕ → Option Why) → ℕ → Type 0
HaveWaited lives waited n = (u : ℕ) → u < n → lives u ≡ true → (why : Why) × (waited u ≡ Some why)

abbrev pub PassesBegin : Type 0
PassesBegin = (lives : ℕ → Bool) (waited : ℕ → Option Why) → HaveWaited lives waited 0

-- thread n waits, or doesn't live
abbrev pub PassesGoOn : Type 0
PassesGoOn = (lives : ℕ → Bool) (waited : ℕ → Option Why) (n : ℕ) (why : Why) → HaveWaited lives waited n
    → HaveWaited lives (with_wait waited n why) (n + 1)

abbrev pub PassesSkip : Type 0
PassesSkip = (lives : ℕ → Bool) (waited : ℕ → Option Why) (n : ℕ) → HaveWaited lives waited n → lives n ≡ false
    → HaveWaited lives waited (n + 1)

-- A pass in which all wait is a full row.
abbrev pub PassesFill : Type 0
PassesFill = (lives : ℕ → Bool) (es : List Entry) (waited : ℕ → Option Why) (n : ℕ) → ((t : ℕ) → lives t ≡ true → t < n)
    → ((t m : ℕ) → IsClaimed es t m → lives t ≡ true) → HaveWaited lives waited n → IsFull lives es waited
