use Rattle.audit_keeping.proofs.Next.{asked-is-known, kept-is-known}
use Rattle.audit_keeping.proofs.laws.what_is_kept_is_known.Goals as goal

pub returns : goal.returns
returns c = record { known = kept-is-known; asked = asked-is-known }
