-- What the writer has, and what a reader knows.
use Rattle.std.specs.Prelude.{◌≡◌, ◌⊎◌, Bool, false, true, List, [], ◌∷◌, ◌++◌, Option, Some, None, if◌then◌else◌}
use Rattle.logbook.specs.Pages.{Book}
use Rattle.run_history.specs.Recorded.{Recorded}
use Rattle.act_book.specs.Known.{Known}
use Rattle.live_heap.specs.Seen.{Seen}
use Rattle.live_view.specs.declared.shown.Shown.{Shown}
use Rattle.live_view.specs.declared.shown.Entry.{Entry}
use Rattle.live_view.specs.Entries.{AreBehind, last_front}
use Rattle.live_view.specs.Publishing.{is_published}
use Rattle.live_view.specs.Ties.{Stands}

-- What was seen first, which history the acts are of, the acts that are published, all that were appended, and whether an
-- append or a publish was refused.
pub record Watching : Type 0 where
  pub first : Seen
  pub of : Book
  pub published : List Recorded
  pub appended : List Recorded
  pub frozen : Bool

-- before the first act
abbrev pub started : Seen → Book → Watching
started first of = record { first = first; of = of; published = []; appended = []; frozen = false }

-- with a further act, published with all before it after acts that change what a stop may leave
abbrev pub with_act : Watching → Recorded → Watching
with_act w a = record w {
  appended = w.appended ++ a ∷ [];
  published = (if is_published a.act.op then w.appended ++ a ∷ [] else w.published);
}

-- the act was appended or not, and nothing else has changed
abbrev pub IsAppendedOrNot : Watching → Recorded → Watching → Type 0
IsAppendedOrNot w a x = (x ≡ w) ⊎ (x ≡ record w { appended = w.appended ++ a ∷ [] })

-- an append or a publish was refused at this act, or before it: what is published stays, and the act was appended or not
abbrev pub IsRefused : Watching → Recorded → Watching → Type 0
IsRefused w a x = IsAppendedOrNot (record w { frozen = true }) a x

-- What was seen first, which history the acts are of, and those with which each later answer's begin.
pub record Learned : Type 0 where
  pub first : Seen
  pub of : Book
  pub acts : List Recorded

abbrev pub nothing_seen : Seen
nothing_seen = record {
  heap = record { shapes = []; objects = []; statics = []; roots = [] };
  durable = [];
  acts = 0;
  stores = 0;
}

abbrev pub first_in : Option Shown → Seen
first_in None = nothing_seen
first_in (Some b) = b.live

-- the thread knows a beginning, of this history
abbrev pub IsBegun : Option Shown → Book → Type 0
IsBegun None of = ⊥
IsBegun (Some b) of = b.front.of ≡ of

-- What is published stands for its acts, the pending acts are behind these, and with them the history is this one.
pub record IsWatched (v : Option Shown) (s : Shown) (pending : List Entry) (all : Known) : Type 0 where
  pub begun : IsBegun v all.of
  pub stands : Stands (first_in v) all.of s
  pub behind : AreBehind s.front pending
  pub last : last_front s.front pending ≡ all
