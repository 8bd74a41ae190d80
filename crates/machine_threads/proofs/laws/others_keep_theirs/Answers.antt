use Rattle.machine_threads.proofs.All.{events_keep_all}
use Rattle.machine_threads.proofs.Asking.{others_ask_on}
use Rattle.machine_threads.proofs.Beginning.{beginners_keep_theirs}
use Rattle.machine_threads.proofs.Numbers.{references_stand_still}
use Rattle.machine_threads.proofs.Others.{others_keep_theirs, others_stay_forwarded, others_stay_unbegun}
use Rattle.machine_threads.proofs.Own.{owners_keep_theirs}
use Rattle.machine_threads.proofs.laws.others_keep_theirs.Goals as goal

pub returns-clause-keep : goal.returns-clause-keep
returns-clause-keep c = others_keep_theirs

pub returns-clause-unbegun : goal.returns-clause-unbegun
returns-clause-unbegun c = others_stay_unbegun

pub returns-clause-forwarded : goal.returns-clause-forwarded
returns-clause-forwarded c = others_stay_forwarded

pub returns-clause-ask : goal.returns-clause-ask
returns-clause-ask c = others_ask_on

pub returns-clause-begin : goal.returns-clause-begin
returns-clause-begin c = beginners_keep_theirs

pub returns-clause-all : goal.returns-clause-all
returns-clause-all c = events_keep_all

pub returns-clause-references : goal.returns-clause-references
returns-clause-references c = references_stand_still

pub returns-clause-own : goal.returns-clause-own
returns-clause-own c = owners_keep_theirs
