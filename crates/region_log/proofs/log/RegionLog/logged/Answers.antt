use Rattle.region_log.proofs.log.RegionLog.logged.Goals as goal

pub returns : goal.returns
returns c = rw (← c.self.view_is, ← c.deref.ensures.value) c.is_logged.ensures
