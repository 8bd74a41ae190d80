use Rattle.image_meaning.specs.Laws.{told_by}
use Rattle.image_meaning.proofs.Appending.{opens-more, corresponds-more_shapes, corresponds-more_roots, canon-more_roots}
use Rattle.image_meaning.proofs.Adding.{each-added}
use Rattle.image_meaning.proofs.Standings.{added-stands}
use Rattle.image_meaning.proofs.laws.added_entries_correspond.Goals as goal

pub returns-clause-opens : goal.returns-clause-opens
returns-clause-opens _ size c d directory entry opens is accepted adds logs = opens-more size c d directory entry opens is accepted adds logs

pub returns-clause-shape : goal.returns-clause-shape
returns-clause-shape _ lies size words directory heap shape k = corresponds-more_shapes (told_by lies) directory size words heap shape k

pub returns-clause-root : goal.returns-clause-root
returns-clause-root _ lies size words directory heap name static k accepted null =
    corresponds-more_roots (told_by lies) directory size words heap name static k accepted null

pub returns-clause-graph : goal.returns-clause-graph
returns-clause-graph _ heap name static null = canon-more_roots heap name static null

pub returns-clause-stands : goal.returns-clause-stands
returns-clause-stands _ size c d directory entry graph opens stand is accepted adds logs same =
    added-stands size c d directory entry graph opens stand is accepted adds logs same

pub returns-clause-each : goal.returns-clause-each
returns-clause-each _ size c d directory entries graph opens stand adds = each-added size c d directory entries graph opens stand adds
