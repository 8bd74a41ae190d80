use Rattle.machine_laws.proofs.RunEvents.{events-go-on}
use Rattle.machine_laws.proofs.run_laws.events_go_on_as_plain_runs.Goals as goal

pub returns : goal.returns
returns c =
    events-go-on c.each_act_may_come.ensures c.machines_go_on_as_plain_runs.ensures.acts
    c.moved_heaps_stand_for_the_same_run.ensures.stands c.machines_go_on_as_plain_runs.ensures.asks
