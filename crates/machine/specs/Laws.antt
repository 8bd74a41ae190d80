-- The laws of machines by which events go on.
use Rattle.std.specs.Prelude.{ℕ, ◌<◌}
use Rattle.line_memory.specs.Memory.{Memory, IsResident}
use Rattle.machine_threads.specs.Passed.{EventsKeepRuns}
use Rattle.plain_model.specs.LimitLaws.{RunsStayWithin}
use Rattle.run_forms.specs.Views.{PlainFrames}
use Rattle.machine_threads.specs.Passed.{ActsArePlainRuns, EventsGoOnAsPlain, ReadyThreadsAskAlike}
use Rattle.machine_threads.specs.Passed.{EventsKeepLines, RefusalsEndTheRun, RefusedBeginningsFillTheImage}
use Rattle.machine_threads.specs.Passed.{RefusedStepsFillTheImage}
use Rattle.machine_threads.specs.Passed.{ActsAddTwo, AskedAddsNone, BeginningsAddLines, ConversionsTakeWork}
use Rattle.machine_threads.specs.Passed.{DurableStoresAddTwo, FencesTakeOne, SealsAddNone, WritesTakeOne}
use Rattle.machine_threads.specs.Passed.{EndingLowersTheMeasure, GuardsAddEightToTheMeasure, LoggingLowersTheMeasure}
use Rattle.machine_threads.specs.Passed.{EventsLeaveUnwritten}
use Rattle.machine_threads.specs.Passed.{QuietEventsLowerTheMeasure}
use Rattle.machine_threads.specs.Passed.{EndsMeetNoFault, FencesMeetNoFault, FullHistoriesEnd, FullLogsEnd, ImageFaultsEnd, RacesEnd}
use Rattle.machine_threads.specs.Passed.{StepsEnd, StepsMeetNoFault, StoresMeetNoFault}
use Rattle.machine_threads.specs.Keeping.{EventsKeepAll, OthersAskOn, OthersStayForwarded, OwnersKeepTheirs}
use Rattle.machine_threads.specs.Claiming.{OthersHaveNothing}
use Rattle.machine_threads.specs.Plain.{PlainWaitsAreNoConversions}
use Rattle.machine_threads.specs.Stuck.{FencesDontWait, ReadyThreadsWaitAlike}
use Rattle.machine_threads.specs.Testing.{LiveThreadsAsk, TestedWaitsAreStuck, TestedWaitsEnd}
use Rattle.shared_heap.specs.Passed.{ConversionsAreAsked, DurableLinesAgree, DurablePlacesAgree, DurableWordsAgree, GuardsAgree}
use Rattle.shared_heap.specs.Passed.{PlacesMayBeGuarded, StoredPlacesAreKept, StoresAreLogged, StoresAreOutside}
use Rattle.shared_heap.specs.Passed.{StoresKeepDurable}

-- how runs end, and that acts met no fault
pub record RunsEnd : Type 0 where
  pub full : FullHistoriesEnd
  pub steps : StepsEnd
  pub image : ImageFaultsEnd
  pub logs : FullLogsEnd
  pub races : RacesEnd
  pub steps_meet : StepsMeetNoFault
  pub fences_meet : FencesMeetNoFault
  pub stores_meet : StoresMeetNoFault
  pub ends_meet : EndsMeetNoFault
  pub refused_steps : RefusedStepsFillTheImage
  pub refused_begins : RefusedBeginningsFillTheImage
  pub refusals : RefusalsEndTheRun

-- what the answers of barriers say
pub record BarriersServe : Type 0 where
  pub places : DurablePlacesAgree
  pub lines : DurableLinesAgree
  pub words : DurableWordsAgree
  pub kept : StoredPlacesAreKept
  pub guards : GuardsAgree
  pub asked : ConversionsAreAsked
  pub durable : StoresKeepDurable
  pub outside : StoresAreOutside
  pub logged : StoresAreLogged
  pub may : PlacesMayBeGuarded

-- what events leave of threads, and how a run ends of which all threads wait
pub record ThreadsGoOn : Type 0 where
  pub own : OwnersKeepTheirs
  pub all : EventsKeepAll
  pub ask : OthersAskOn
  pub forwarded : OthersStayForwarded
  pub nothing : OthersHaveNothing
  pub plain : PlainWaitsAreNoConversions
  pub wait : ReadyThreadsWaitAlike
  pub fences : FencesDontWait
  pub live : LiveThreadsAsk
  pub tested : TestedWaitsAreStuck
  pub end : TestedWaitsEnd

-- what events leave of the work; of regions' acts by the measure
pub record WorkIsLeft : Type 0 where
  pub writes : WritesTakeOne
  pub fences : FencesTakeOne
  pub steps : ConversionsTakeWork
  pub begins : BeginningsAddLines
  pub seals : SealsAddNone
  pub asked : AskedAddsNone
  pub beside : ActsAddTwo
  pub durable : DurableStoresAddTwo
  pub guards : GuardsAddEightToTheMeasure

abbrev pub AreResident : Type 0
AreResident = (m : Memory) (l : ℕ) → l < m.size → IsResident m l

pub record Laws : Type 0 where
  pub keep : EventsKeepRuns
  pub frames : EventsGoOnAsPlain
  pub alike : ReadyThreadsAskAlike
  pub runs : ActsArePlainRuns
  pub within : RunsStayWithin PlainFrames
  pub threads : ThreadsGoOn
  pub lines : EventsKeepLines
  pub unwritten : EventsLeaveUnwritten
  pub ends : RunsEnd
  pub barriers : BarriersServe
  pub work : WorkIsLeft
  pub measure : QuietEventsLowerTheMeasure
  pub logging : LoggingLowersTheMeasure
  pub ending : EndingLowersTheMeasure
  pub resident : AreResident
