-- The run of a class set over an image, which told `start` at the call's begin and tells `after` at its end; at the begin `takes` was what the
-- sink takes.
use Rattle.std.specs.Prelude.{◌≡◌, ◌≢◌, ◌⊎◌, ℕ, Option, ◌+◌, ◌-◌, ◌^◌, ◌<◌, ◌≤◌, List, [], Ok, Err}
use Rattle.ap_base.specs.declared.reference.Ref.{Ref}
use Rattle.graph_model.specs.declared.types.Graph.{Graph}
use Rattle.line_image.specs.Told.{Told}
use Rattle.line_image.specs.Trace.{IsAllFenced, Outcome, LeavesNow, LeftWithin}
use Rattle.line_memory.specs.Memory.{IsTelling, Memory}
use Rattle.image_meaning.specs.Checks.{Words}
use Rattle.image_meaning.specs.Directories.{Directory}
use Rattle.image_meaning.specs.Laws.{Opens}
use Rattle.image_meaning.specs.Meaning.{StandsFor, empty_graph}
use Rattle.image_recovery.specs.Recovered.{entries_in}
use Rattle.run_types.specs.declared.fault.Full.{Full}
use Rattle.run_types.specs.declared.fault.LinkKind.{LinkKind}
use Rattle.run_types.specs.declared.fault.LinkKind.TheVariants.{MissingClass, MissingMethod}
use Rattle.run_types.specs.declared.limits.Limits.{Limits}
use Rattle.run_history.specs.Kept.{acts_before}
use Rattle.run_history.specs.Recorded.{Recorded}
use Rattle.plain_model.specs.Ends.{Ending, EndsAs, Fault, Uncaught, Finished}
use Rattle.plain_model.specs.First.{first_heap, first_known, first_objects}
use Rattle.plain_model.specs.Limits.{words_taken}
use Rattle.class_set.specs.Linked.{Linked}
use Rattle.class_set.specs.Facts.{facts_of}
use Rattle.directories.specs.Kept.{Kept}
use Rattle.one_space.specs.First.{LacksWords}
use Rattle.run_forms.specs.Standing.{Launch, IsRun, plain_code}
use Rattle.stop_theorem.specs.Stops.{IsAllowedImage}
use Rattle.durable_launch.specs.Passed.{EachPrintsItsShare, HadNoFault}
use Rattle.durable_launch.specs.Launching.{launch_over}
use Rattle.durable_launch.specs.Passed.{Main}
use Rattle.durable_launch.specs.Passed.{NoMain}
use Rattle.durable_launch.specs.NoMains.{Class, Method}
use Rattle.durable_launch.specs.Passed.{main_of}
use Rattle.durable_launch.specs.Passed.{Unopened}
use Rattle.durable_launch.specs.Unopenings as unopened
use Rattle.durable_launch.specs.Passed.{AreRead}
use Rattle.durable_launch.specs.Passed.{IsOpenedFor, StandsWithNew}
use Rattle.durable_launch.specs.Passed.{HasDirectory, IsDirectoryIn}
use Rattle.durable_launch.specs.Passed.{IsUnappended, IsUnbegun, IsUnopened}
use Rattle.statuses.specs.Names.{fault_status, main_text, shortened, uncaught_in}
use Rattle.statuses.specs.declared.status.Status.{Status}
use Rattle.statuses.specs.declared.status.Status.TheVariants as status

-- ---- the image is opened

-- The image was opened for the set, whose array types got the numbers that the image's directory asks for: it stood
-- for a graph that is this one, but for new null roots.
pub record IsOpenedSo (set : Linked) (start : Told) (graph : Graph) : Type 0 where
  pub numbered : Linked
  pub memory : Memory
  pub directory : Kept
  pub lines : List ℕ
  -- the first line behind all objects
  pub free : ℕ
  pub opened : IsOpenedFor start set numbered memory directory lines graph free

abbrev pub status_of_unopened : Unopened → Status
status_of_unopened (unopened.BadImage line reason) = status.BadImage line reason
status_of_unopened (unopened.ShapeChanged name) = status.ShapeChanged name
status_of_unopened (unopened.Full full) = status.Full full
status_of_unopened unopened.ImageFailed = status.ImageFault
status_of_unopened unopened.OutOfMemory = status.OutOfMemory

-- Nothing was appended to the image. A stop within any call, or after the last one, leaves only images that stand for the
-- very graph for which it stood, and have the directory that it had, a blank one none; at the end it opens with that. Within the reads and
-- the first fence that is so where nothing was unfenced at the start.
pub record HasItsDirectory (start after : Told) : Type 0 where
  pub words : Words
  pub read : AreRead start words
  pub directory : Directory
  pub had : IsDirectoryIn words directory
  pub graph : Graph
  pub stood : StandsFor start.size words graph
  pub within : (n : ℕ) → 0 < n → start.calls + n ≤ after.calls → start.calls + n < 2 ^ 64 - 1
      → (n ≤ start.size + 1 → IsAllFenced start.trace)
      → (c : Outcome) → LeftWithin after.trace (start.calls + n) c
      → StandsFor start.size c graph × HasDirectory start.size c directory
  pub now : (c : Outcome) → LeavesNow after.trace c → StandsFor start.size c graph
  pub opens : (c : Outcome) → LeavesNow after.trace c → Opens start.size c directory

-- the causes for which an image that was found isn't made ready for the set
abbrev pub IsOfSet : Unopened → Type 0
IsOfSet (unopened.BadImage line reason) = ⊥
IsOfSet (unopened.ShapeChanged name) = Unit {0}
IsOfSet (unopened.Full full) = Unit {0}
IsOfSet unopened.ImageFailed = ⊥
IsOfSet unopened.OutOfMemory = ⊥

-- It couldn't be opened.
pub record CannotOpen (set : Linked) (start after : Told) (how : Status) : Type 0 where
  pub numbered : Linked
  pub why : Unopened
  pub unopened : IsUnopened start after set numbered why
  pub is : how ≡ status_of_unopened why
  pub unappended : IsOfSet why → IsTelling start.trace → HasItsDirectory start after

-- ---- the run doesn't begin

-- the first objects of the set take more words than the limits allow, and the status tells it of the first that finds
-- too few
pub record LacksFirstWords (set : Linked) (limits : Limits) (how : Status) : Type 0 where
  pub full : Full
  pub is : how ≡ status.Full full
  pub lacks : LacksWords limits.heap_words (first_objects (facts_of set) empty_graph) full

abbrev pub kind_of : NoMain → LinkKind
kind_of Class = MissingClass
kind_of Method = MissingMethod

-- The first objects find room, and the set has no class of this name, or it finds no static `main` from it on.
pub record HasNoMain (set : Linked) (name : List ℕ) (limits : Limits) (how : Status) : Type 0 where
  pub fits : (graph : Graph) → words_taken graph (first_heap (facts_of set) graph) ≤ limits.heap_words
  pub none : NoMain
  pub missing : main_of set name ≡ Err none
  pub is : how ≡ status.LinkFault (kind_of none) (shortened (main_text (kind_of none) name))

-- Once the image was found and made ready, the first words were looked for, and then `main`; memory may run out before.
-- Nothing was appended to the image.
pub record CannotBegin (set : Linked) (name : List ℕ) (limits : Limits) (start after : Told) (how : Status) : Type 0 where
  pub numbered : Linked
  pub left : IsUnbegun start after set numbered
  pub cause : LacksFirstWords numbered limits how ⊎ HasNoMain numbered name limits how ⊎ (how ≡ status.OutOfMemory)
  pub unappended : IsTelling start.trace → HasItsDirectory start after

-- Then the image failed, while what it lacked of the set's entries was appended.
pub record CannotAppend (set : Linked) (start after : Told) (how : Status) : Type 0 where
  pub numbered : Linked
  pub unappended : IsUnappended start after set numbered
  pub is : how ≡ status.ImageFault

-- Once it was opened, memory ran out before the first turn.
pub record LacksMemory (set : Linked) (start : Told) (how : Status) : Type 0 where
  pub graph : Graph
  pub of : IsOpenedSo set start graph
  pub is : how ≡ status.OutOfMemory

-- No turn came of it.
abbrev pub IsUnrun : Linked → (name : List ℕ) → Limits → Told → Told → Status → Type 0
IsUnrun set name limits start after how = CannotOpen set start after how ⊎ CannotBegin set name limits start after how
    ⊎ CannotAppend set start after how ⊎ LacksMemory set start how

-- ---- how the run ends

-- the status of a run that ended so
abbrev pub status_of_ending : Linked → Ending → Status
status_of_ending set (Fault fault) = fault_status set fault
status_of_ending set (Uncaught t class) = uncaught_in set t class
status_of_ending set Finished = status.Ok

-- The run of these acts has ended, and the status says how, where the image has so many lines for objects.
pub record Ends (set : Linked) (launch : Launch) (lines : ℕ) (acts : List Recorded) (how : Status) : Type 0 where
  pub ending : Ending
  pub ended : EndsAs launch.set launch.main launch.opening (plain_code launch) launch.limits lines acts ending
  pub is : how ≡ status_of_ending set ending

-- The image was opened, `main` of the class of this name is there, and the acts are a plain run of the set from
-- there, with the code of its files, which kept these limits and ended as the status says.
pub record HasEndedSo (set : Linked) (name : List ℕ) (limits : Limits) (start : Told) (takes : ℕ → ℕ → Option ℕ) (opening : Graph)
    (acts : List Recorded) (how : Status) : Type 0 where
  pub graph : Graph
  pub of : IsOpenedSo set start graph
  pub main : Main
  pub found : main_of of.numbered name ≡ Ok main
  pub literals : List Ref
  pub run : IsRun (launch_over of.numbered main limits graph literals) acts
  pub within : HadNoFault (launch_over of.numbered main limits graph literals) acts
  -- each print took as many bytes of its piece as the sink takes of it then, where the sink tells that
  pub shares : EachPrintsItsShare (launch_over of.numbered main limits graph literals) takes [] acts
  pub ends : Ends of.numbered (launch_over of.numbered main limits graph literals) (start.size - of.free) acts how
  -- the opening graph, where there is an act
  pub from : acts ≢ [] → opening ≡ graph

-- What the call came to.
abbrev pub SetEnds : Linked → (name : List ℕ) → Limits → Told → (ℕ → ℕ → Option ℕ) → Graph → List Recorded → Told → Status → Type 0
SetEnds set name limits start takes opening acts after how =
    ((acts ≡ []) × IsUnrun set name limits start after how)
    ⊎ HasEndedSo set name limits start takes opening acts how

-- ---- stops

-- The words stand for this graph, and have the directory that those before spelled.
pub record StandsStill (size : ℕ) (before : Words) (graph : Graph) (words : Outcome) : Type 0 where
  pub found : Directory
  pub found_is : IsDirectoryIn before found
  pub stands : StandsFor size words graph
  pub has : HasDirectory size words found

-- The words stand for the graph for which those before stood, and have their directory; or for it with the first of the set's entries that
-- the directory lacked, in their order, and the roots among these are null: then they have the directory with these.
abbrev pub StandsAsBefore : Linked → (size : ℕ) → (before : Words) → Outcome → Type 0
StandsAsBefore set size before words = (graph : Graph) → StandsFor size before graph
    → StandsStill size before graph words ⊎ StandsWithNew set size before graph words

-- They open with the directory with which the image was opened, and stand for a graph that these acts of all allow from
-- the graph with which it was.
pub record StandsAllowed (set : Linked) (start : Told) (opening : Graph) (all acts : List Recorded) (words : Outcome)
    : Type 0 where
  pub graph : Graph
  pub of : IsOpenedSo set start graph
  pub from : all ≢ [] → opening ≡ graph
  -- the image has the directory of the opening
  pub opens : Opens start.size words (entries_in of.directory)
  pub allowed : IsAllowedImage (first_known (facts_of of.numbered) graph) start.size (entries_in of.directory) acts words

-- So they do; or, where there are no acts yet, they stand as before.
abbrev pub StandsRightly : Linked → Told → Graph → (all acts : List Recorded) → (before : Words) → Outcome → Type 0
StandsRightly set start opening all acts before words = StandsAllowed set start opening all acts words
    ⊎ ((acts ≡ []) × StandsAsBefore set start.size before words)

-- There are no acts, and nothing was written or fenced.
abbrev pub IsUnchanged : (start after : Told) → List Recorded → Type 0
IsUnchanged start after acts = (acts ≡ []) × (after.trace ≡ start.trace)

-- Nothing was unfenced at the start, where a stop within call n may leave it still: up to the fence behind the opening's reads; and where
-- that fence wasn't made.
abbrev pub IsFencedFor : (start after : Told) → List Recorded → ℕ → Type 0
IsFencedFor start after acts n = (n ≤ start.size + 1) ⊎ IsUnchanged start after acts → IsAllFenced start.trace

-- A stop within call n of the top call leaves only images that stand rightly for the acts before that call,
-- and a stop after the last call those that do for all acts.
pub record StandsAtStops (set : Linked) (start : Told) (opening : Graph) (acts : List Recorded) (after : Told)
    : Type 0 where
  pub words : Words
  pub read : AreRead start words
  pub within : (n : ℕ) → 0 < n → start.calls + n ≤ after.calls → start.calls + n < 2 ^ 64 - 1
      → IsFencedFor start after acts n → (c : Outcome) → LeftWithin after.trace (start.calls + n) c
      → StandsRightly set start opening acts (acts_before n acts) words c
  pub now : (IsUnchanged start after acts → IsAllFenced start.trace) → (c : Outcome) → LeavesNow after.trace c
      → StandsRightly set start opening acts acts words c

-- ---- the whole

-- What a run of the set over an image comes to, whose main class has this name, within these limits.
pub record SetRunsOver (set : Linked) (name : List ℕ) (limits : Limits) (start : Told) (takes : ℕ → ℕ → Option ℕ) (opening : Graph)
    (acts : List Recorded) (after : Told) (how : Status) : Type 0 where
  -- the image keeps its size
  pub size : after.size ≡ start.size
  -- how it ended, and why
  pub ends : SetEnds set name limits start takes opening acts after how
  -- where there are no acts, the opening graph has no roots and nodes
  pub unbegun : acts ≡ [] → opening ≡ empty_graph
  -- The persistence theorem: a stop within any image call, or after the last one, leaves only images that
  -- stand for a graph which the acts before that call allow; before the first act, for the graph that the
  -- image stood for, with the first of the set's new entries, and have its directory with these. The image tells what is done to it, keeps what was fenced and tears no
  -- word. Nothing was unfenced at the start, where that matters (`IsFencedFor`).
  pub stops : IsTelling start.trace → StandsAtStops set start opening acts after
