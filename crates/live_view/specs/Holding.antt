-- What a look tells a thread that knows a beginning.
use Rattle.std.specs.Prelude.{◌≡◌, Option, Some, None}
use Rattle.act_book.specs.Known.{Known}
use Rattle.live_heap.specs.Seen.{Seen, seen_from}
use Rattle.live_view.specs.declared.shown.Shown.{Shown}

-- This holds of what is seen, from the beginning that a thread knows, after these acts of that history.
abbrev pub HoldsAfter : Option Shown → Known → (Seen → Type 0) → Type 0
HoldsAfter None known P = Unit {0}
HoldsAfter (Some b) known P = (known.of ≡ b.front.of) × P (seen_from b.live known.acts)
