-- Each event, by its kind.
use Rattle.run_forms.specs.Laws.{ActsGoOn, MovesStandForTheRun, ThreadsAskAlike}
use Rattle.machine_forms.specs.Happening.{called, written, fenced, converted, failed, begun, sealed, asked, acted, stored}
use Rattle.machine_forms.specs.Happening.{region}
use Rattle.machine_laws.specs.AskLaws.{ActsMayCome}
use Rattle.machine_laws.specs.Frames.{EventsGoOnAsPlain}
use Rattle.machine_laws.proofs.RunActing.{acts-answer, stores-leave}
use Rattle.machine_laws.proofs.Going.{beginnings-leave, calls-leave, conversions-leave, failures-leave, writes-leave}
use Rattle.machine_laws.proofs.Persisting.{asked-leaves, fences-answer, seals-leave}
use Rattle.machine_laws.proofs.RunRegions.{regions-go-on}

module _ (may : ActsMayCome) (law : ActsGoOn) (same : MovesStandForTheRun) (alike : ThreadsAskAlike) where
  pub events-go-on : EventsGoOnAsPlain
  events-go-on o t m _ es _ threads k p (called twin e) fs now asks begins =
      calls-leave same o m es threads k p twin e
  events-go-on o t m _ es _ threads k p (written twin e) fs now asks begins =
      writes-leave same o m es threads k p twin t e
  events-go-on o t m _ es _ threads k p (fenced twin e) fs now asks begins =
      fences-answer may same o m es threads k p twin t fs asks e
  events-go-on o t m _ es _ threads k p (converted m' answer e no_seal) fs now asks begins =
      conversions-leave same o m es threads k p m' t answer e no_seal
  events-go-on o t m _ es _ threads k p (failed m' e) fs now asks begins =
      failures-leave same o m es threads k p m' t e
  events-go-on o t m _ es _ threads k p (begun m' es' n word answer e) fs now asks begins =
      beginnings-leave same o m es threads k p m' es' t n word answer e
  events-go-on o t m _ es _ threads k p (sealed m' set named e) fs now asks begins =
      seals-leave may same o m es threads k p m' t set named e
  events-go-on o t m _ es _ threads k p (asked request place item e) fs now asks begins =
      asked-leaves may alike o m es threads k p t fs request place item asks e
  events-go-on o t m _ es _ threads k p (acted m' request operation r e) fs now asks begins =
      acts-answer may law o m es threads k p m' t fs request operation r now asks e begins
  events-go-on o t m _ es _ threads k p (stored m' request place item e) fs now asks begins =
      stores-leave may law o m es threads k p m' t fs request place item asks e
  events-go-on o t m _ es _ threads k p (region m' e) fs now asks begins =
      regions-go-on may law same alike o t m m' es threads k p e fs asks
