-- What is known of a history: its first acts.
use Rattle.std.specs.Prelude.{List}
use Rattle.logbook.specs.Pages.{Book}
use Rattle.run_history.specs.Recorded.{Recorded}

-- a beginning of a history, and which history it is of
pub record Known : Type 0 where
  pub acts : List Recorded
  pub of : Book
