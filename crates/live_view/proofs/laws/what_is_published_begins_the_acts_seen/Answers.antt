use Rattle.std.proofs.Common.{[]}
use Rattle.live_view.specs.Watching.{started}
use Rattle.live_view.proofs.Calls.{all_shown, calls_show, starts}
use Rattle.live_view.proofs.laws.what_is_published_begins_the_acts_seen.Goals as goal

pub returns : goal.returns
returns c = record {
  begins = λ first of calls w after. calls_show (started first of) [] calls w (starts first of) after;
  all = λ first of calls c w shown after going. all_shown first of calls c w shown after going;
}
