use Rattle.directories.proofs.Growths.{durable_leaves, durable_stands, begun_appended, further_appended, growing_stops}
use Rattle.directories.proofs.Growths.{whole_stands}
use Rattle.directories.proofs.laws.appended_entries_stand.Goals as goal

pub returns : goal.returns
returns c = record {
  begins = durable_stands;
  leaves = durable_leaves;
  begun = begun_appended;
  further = further_appended;
  stops = growing_stops;
  whole = whole_stands;
}
