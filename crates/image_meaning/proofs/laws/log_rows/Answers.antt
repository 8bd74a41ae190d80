use Rattle.std.proofs.Common.{refl}
use Rattle.std.proofs.lemmas.Bool.{le-leb, lt-leb}
use Rattle.image_meaning.specs.Checks.{first_fault}
use Rattle.image_meaning.specs.Logs.{log_count, logs_below}
use Rattle.image_meaning.proofs.laws.log_rows.Goals as goal

pub returns-clause-counts : goal.returns-clause-counts
returns-clause-counts c = record {
  above = λ size words t h. rw (lt-leb (log_count words t) 1024 h) refl;
  within = λ size words t h. rw (le-leb (log_count words t) 1024 h) refl;
}

pub returns-clause-places : goal.returns-clause-places
unfolding first_fault logs_below
returns-clause-places c = record {
  a_slot = refl;
  the_superblock = refl;
  the_directory = refl;
  the_logs = refl;
  past_the_image = refl;
  a_place_twice = refl;
  twice_in_two_logs = refl;
  old = refl;
}

pub returns-clause-put_back : goal.returns-clause-put_back
returns-clause-put_back c = refl
