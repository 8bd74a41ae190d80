-- What a call of a mirror does.
use Rattle.std.specs.Prelude.{◌≡◌, ◌⊎◌, ◌-◌, ℕ, Option}
use Rattle.ap_base.specs.Causes.{next_count}
use Rattle.line_image.specs.Trace.{Trace, did}
use Rattle.line_image.specs.Told.{Told}
use Rattle.line_image.specs.declared.effect.Done.{Done}
use Rattle.mirror_image.specs.declared.halves.Left.{Left}
use Rattle.mirror_image.specs.Joint.{told_by}
use Rattle.mirror_image.specs.Stops.{StopsShow}

-- From what is told before a call of this number to what is told after it: nothing was done;
abbrev pub IsSame : ℕ → Option Trace → Option Trace → Type 0
IsSame n o p = p ≡ o

-- this was done;
abbrev pub Did : Done → ℕ → Option Trace → Option Trace → Type 0
Did d n o p = p ≡ did d n o

-- this was done, or nothing
abbrev pub MayHave : Done → ℕ → Option Trace → Option Trace → Type 0
MayHave d n o p = (p ≡ did d n o) ⊎ (p ≡ o)

-- A call of a mirror that told this before and tells this now: it did what P says, and whenever it stops, pairing the two halves
-- shows what such a stop may leave of the mirror. The halves told o and p before, and tell o' and p' now.
pub record IsCall (P : ℕ → Option Trace → Option Trace → Type 0) (z : ℕ) (o p o' p' : Option Trace) (told told' : Told) : Type 0 where
  pub size : told'.size ≡ told.size
  pub counted : told'.calls ≡ next_count told.calls
  pub tells : P told'.calls told.trace told'.trace
  pub stops : StopsShow z o p o' p' told told'

-- the same of a mirror over halves that told a and b before, and tell a' and b' now
abbrev pub Called : (ℕ → Option Trace → Option Trace → Type 0) → Told → Told → Left → ℕ → ℕ → Told → Told → Left → ℕ → ℕ → Type 0
Called P a b left less extra a' b' left' less' extra' =
    IsCall P (a.size - 1) a.trace b.trace a'.trace b'.trace (told_by a b left less extra) (told_by a' b' left' less' extra')
