use Rattle.image_meaning.proofs.Logging.{free-logged, logged_stores, emptied-log-commits}
use Rattle.image_meaning.proofs.laws.logs_undo_stores.Goals as goal

pub returns-clause-logged : goal.returns-clause-logged
returns-clause-logged _ size c d t entry pass there room free adds = free-logged size c d t entry pass there room free adds

pub returns-clause-undone : goal.returns-clause-undone
returns-clause-undone _ c d same = logged_stores c d same

pub returns-clause-emptied : goal.returns-clause-emptied
returns-clause-emptied _ size c d t pass there e = emptied-log-commits size c d t pass there e
