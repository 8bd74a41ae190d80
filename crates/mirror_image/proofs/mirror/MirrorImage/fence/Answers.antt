use Rattle.mirror_image.proofs.Exits.{ok_map, err_map, either_way}
use Rattle.mirror_image.proofs.Using.{not_closed}
use Rattle.mirror_image.proofs.mirror.MirrorImage.fence.Goals as goal

pub returns-in-Paired-clause-size : goal.returns-in-Paired-clause-size
returns-in-Paired-clause-size g c = rw c.in-Paired.is (either_way c.fence.result c.fence.ensures.fenced c.fence.ensures.failed (λ e. e.size) (λ e. e.size))

pub returns-in-Paired-clause-counted : goal.returns-in-Paired-clause-counted
returns-in-Paired-clause-counted g c = rw c.in-Paired.is (either_way c.fence.result c.fence.ensures.fenced c.fence.ensures.failed (λ e. e.counted) (λ e. e.counted))

pub returns-in-Paired-clause-fenced : goal.returns-in-Paired-clause-fenced
returns-in-Paired-clause-fenced g c = rw c.in-Paired.is (ok_map c.fence.result (λ e. e.tells) c.fence.ensures.fenced)

pub returns-in-Paired-clause-failed : goal.returns-in-Paired-clause-failed
returns-in-Paired-clause-failed g c = rw c.in-Paired.is (err_map c.fence.result (λ e. e.tells) c.fence.ensures.failed)

pub returns-in-Paired-clause-stops : goal.returns-in-Paired-clause-stops
returns-in-Paired-clause-stops g c = rw c.in-Paired.is (either_way c.fence.result c.fence.ensures.fenced c.fence.ensures.failed (λ e. e.stops) (λ e. e.stops))

pub returns-in-Paired-clause-closed : goal.returns-in-Paired-clause-closed
returns-in-Paired-clause-closed g c = not_closed _ c.in-Paired.is

pub returns-in-Paired-clause-uses : goal.returns-in-Paired-clause-uses
returns-in-Paired-clause-uses g c = rw c.in-Paired.is c.fence.ensures.uses

pub returns-in-Paired-clause-both : goal.returns-in-Paired-clause-both
returns-in-Paired-clause-both g c = rw c.in-Paired.is c.fence.ensures.both
