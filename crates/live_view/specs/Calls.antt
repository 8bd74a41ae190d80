-- What a writer has after its calls, as their clauses tell it, whatever was refused.
use Rattle.std.specs.Prelude.{◌≡◌, Bool, true, false, List, [], ◌∷◌, ◌++◌}
use mathlib.Core.List.{IsPrefix}
use Rattle.logbook.specs.Pages.{Book}
use Rattle.run_history.specs.Recorded.{Recorded}
use Rattle.live_heap.specs.Seen.{Seen}
use Rattle.live_view.specs.Publishing.{is_published}
use Rattle.live_view.specs.Watching.{IsRefused, Watching, started, with_act}

pub data Call : Type 0 where
  Saw : Recorded → Call
  Told : Call

-- the clauses of `saw`
pub record AfterSaw (w : Watching) (a : Recorded) (x : Watching) : Type 0 where
  pub frozen : w.frozen ≡ true → x ≡ w
  pub taken : x.frozen ≡ false → x ≡ with_act w a
  pub refused : x.frozen ≡ true → IsRefused w a x

-- the clauses of `tell`
pub record AfterTell (w x : Watching) : Type 0 where
  pub frozen : w.frozen ≡ true → x ≡ w
  pub published : x.frozen ≡ false → x ≡ record w { published = w.appended }
  pub refused : x.frozen ≡ true → x ≡ record w { frozen = true }

abbrev pub AfterCall : Watching → Call → Watching → Type 0
AfterCall w (Saw a) x = AfterSaw w a x
AfterCall w Told x = AfterTell w x

abbrev pub AfterCalls : Watching → List Call → Watching → Type 0
AfterCalls w [] x = x ≡ w
AfterCalls w (c ∷ cs) x = (y : Watching) × AfterCall w c y × AfterCalls y cs x

-- the acts that were seen, in order
abbrev pub acts_seen : List Call → List Recorded
acts_seen [] = []
acts_seen (Saw a ∷ cs) = a ∷ acts_seen cs
acts_seen (Told ∷ cs) = acts_seen cs

-- all that was appended is published at this call, unless something is refused
abbrev pub publishes : Call → Bool
publishes (Saw a) = is_published a.act.op
publishes Told = true

-- What is published begins what was appended, and this the acts that were seen. Unless something was refused all of them were appended.
pub record ShowsWhatItSaw (w : Watching) (acts : List Recorded) : Type 0 where
  pub published : IsPrefix w.published w.appended
  pub appended : IsPrefix w.appended acts
  pub all : w.frozen ≡ false → w.appended ≡ acts

abbrev pub WritersShowWhatTheySaw : Type 0
WritersShowWhatTheySaw = (first : Seen) (of : Book) (calls : List Call) (w : Watching)
    → AfterCalls (started first of) calls w → ShowsWhatItSaw w (acts_seen calls)

-- After a call that publishes, all acts that were seen are published, unless something was refused.
abbrev pub PublishingShowsAll : Type 0
PublishingShowsAll = (first : Seen) (of : Book) (calls : List Call) (c : Call) (w : Watching)
    → publishes c ≡ true → AfterCalls (started first of) (calls ++ c ∷ []) w → w.frozen ≡ false
    → w.published ≡ acts_seen (calls ++ c ∷ [])
