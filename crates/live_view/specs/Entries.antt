-- What is published after further acts.
use Rattle.std.specs.Prelude.{◌≡◌, List, [], ◌∷◌, ◌++◌}
use Rattle.act_book.specs.Known.{Known}
use Rattle.live_heap.specs.Seen.{seen_after}
use Rattle.live_view.specs.declared.shown.Shown.{Shown}
use Rattle.live_view.specs.declared.shown.Entry.{Entry}

abbrev pub with_entry : Shown → Entry → Shown
with_entry s e = record { live = seen_after s.live e.heard; front = e.front }

-- each of these acts was added to the history behind the one before it, the first behind this beginning
abbrev pub AreBehind : Known → List Entry → Type 0
AreBehind known [] = Unit {0}
AreBehind known (e ∷ es) = (e.front ≡ record known { acts = known.acts ++ e.heard ∷ [] }) × AreBehind e.front es

-- the history with all of these acts
abbrev pub last_front : Known → List Entry → Known
last_front known [] = known
last_front known (e ∷ es) = last_front e.front es
