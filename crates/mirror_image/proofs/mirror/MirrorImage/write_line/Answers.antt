use Rattle.mirror_image.proofs.Exits.{ok_map, err_map, either_way}
use Rattle.mirror_image.proofs.Using.{not_closed}
use Rattle.mirror_image.proofs.mirror.MirrorImage.write_line.Goals as goal

pub returns-in-Paired-clause-size : goal.returns-in-Paired-clause-size
returns-in-Paired-clause-size g c = rw c.in-Paired.is (either_way c.write_line.result c.write_line.ensures.wrote c.write_line.ensures.failed (λ e. e.size) (λ e. e.size))

pub returns-in-Paired-clause-counted : goal.returns-in-Paired-clause-counted
returns-in-Paired-clause-counted g c = rw c.in-Paired.is (either_way c.write_line.result c.write_line.ensures.wrote c.write_line.ensures.failed (λ e. e.counted) (λ e. e.counted))

pub returns-in-Paired-clause-written : goal.returns-in-Paired-clause-written
returns-in-Paired-clause-written g c = rw c.in-Paired.is (ok_map c.write_line.result (λ e. e.tells) c.write_line.ensures.wrote)

pub returns-in-Paired-clause-failed : goal.returns-in-Paired-clause-failed
returns-in-Paired-clause-failed g c = rw c.in-Paired.is (err_map c.write_line.result (λ e. e.tells) c.write_line.ensures.failed)

pub returns-in-Paired-clause-stops : goal.returns-in-Paired-clause-stops
returns-in-Paired-clause-stops g c = rw c.in-Paired.is (either_way c.write_line.result c.write_line.ensures.wrote c.write_line.ensures.failed (λ e. e.stops) (λ e. e.stops))

pub returns-in-Paired-clause-closed : goal.returns-in-Paired-clause-closed
returns-in-Paired-clause-closed g c = not_closed _ c.in-Paired.is

pub returns-in-Paired-clause-uses : goal.returns-in-Paired-clause-uses
returns-in-Paired-clause-uses g c = rw c.in-Paired.is c.write_line.ensures.uses

pub returns-in-Paired-clause-both : goal.returns-in-Paired-clause-both
returns-in-Paired-clause-both g c = rw c.in-Paired.is c.write_line.ensures.both
