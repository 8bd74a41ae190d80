use Rattle.std.proofs.Common.{◌≡◌, All, length}
use Rattle.live_view.specs.Watching.{Learned}
use Rattle.live_view.proofs.writer.LiveWriter.readers.Given as goal

abbrev pub invariant-loop-number : goal.invariant-loop-number
invariant-loop-number g l = record {
  same : l.self ≡ l.fn.self;
  count : length l.readers.items ≡ l._number;
  readers : All (λ (r : Learned). r ≡ record { first = l.self.first; of = l.self.of; acts = l.self.published }) l.readers.items;
}
