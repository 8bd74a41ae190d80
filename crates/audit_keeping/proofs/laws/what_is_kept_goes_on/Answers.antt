use Rattle.audit_keeping.proofs.Standing.{goes-on, joins-on}
use Rattle.audit_keeping.proofs.laws.what_is_kept_goes_on.Goals as goal

pub returns : goal.returns
returns c = record {
  acts = λ set first acts request k t at o s may taken fit sound. goes-on set first acts request k t at s o may taken fit sound;
  joined = λ set first acts request k now t at named s may test e. joins-on set first acts request k t at s named now may test e;
}
