-- What a look tells a thread that knows a beginning.
use Rattle.std.proofs.Common.{◌≡◌, Option, Some, None, ◌∙◌, subst}
use Rattle.logbook.specs.Pages.{Book}
use Rattle.act_book.specs.Known.{Known}
use Rattle.live_heap.specs.Seen.{Seen, seen_from}
use Rattle.live_view.specs.declared.shown.Shown.{Shown}
use Rattle.live_view.specs.Holding.{HoldsAfter}
use Rattle.live_view.specs.Ties.{Stands, StandsBy}
use Rattle.live_view.specs.Watching.{IsBegun, first_in}

pub holds_after : (v : Option Shown) (s : Shown) (P : Seen → Type 0) → StandsBy v s → P s.live → HoldsAfter v s.front P
holds_after None s P stands holds = tt
holds_after (Some b) s P stands holds = (stands.same, subst P stands.live holds)

pub begun_after : (v : Option Shown) (known : Known) (P : Seen → Type 0) (of : Book) → HoldsAfter v known P → IsBegun v of
    → (known.of ≡ of) × P (seen_from (first_in v) known.acts)
begun_after None known P of holds begun = absurd begun
begun_after (Some b) known P of holds begun = (holds.0 ∙ begun, holds.1)

pub begun_stands : (v : Option Shown) (s : Shown) (of : Book) → StandsBy v s → IsBegun v of → Stands (first_in v) of s
begun_stands None s of stands begun = absurd begun
begun_stands (Some b) s of stands begun = subst (λ o. Stands b.live o s) begun stands
