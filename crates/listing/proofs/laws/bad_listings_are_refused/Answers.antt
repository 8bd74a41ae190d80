use Rattle.listing.proofs.Rows.{are_bad}
use Rattle.listing.proofs.laws.bad_listings_are_refused.Goals as goal

pub returns : goal.returns
returns c = are_bad
