use Rattle.convert_waits.proofs.Rows.{plain_waits_keep, lacking_waits_keep, member_waits_keep, needing_waits_keep, converting_waits_keep, beginnings_need, settled_waits_keep, needs_wait_settled}
use Rattle.convert_waits.proofs.laws.waits_keep_rows.Goals as goal

pub returns-clause-plain : goal.returns-clause-plain
returns-clause-plain c = plain_waits_keep

pub returns-clause-lacking : goal.returns-clause-lacking
returns-clause-lacking c = lacking_waits_keep

pub returns-clause-member : goal.returns-clause-member
returns-clause-member c = member_waits_keep

pub returns-clause-needing : goal.returns-clause-needing
returns-clause-needing c = needing_waits_keep

pub returns-clause-converting : goal.returns-clause-converting
returns-clause-converting c = converting_waits_keep

pub returns-clause-begun : goal.returns-clause-begun
returns-clause-begun c = beginnings_need

pub returns-clause-settled : goal.returns-clause-settled
returns-clause-settled c = settled_waits_keep

pub returns-clause-needs : goal.returns-clause-needs
returns-clause-needs c = needs_wait_settled
