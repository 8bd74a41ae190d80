-- What may be recovered of what a stop of a run left.
use Rattle.std.specs.Prelude.{◌≡◌, ◌≢◌, ◌⊎◌, ◌<◌, ◌≤◌, ◌+◌, ◌-◌, ◌^◌, ℕ, List, [], length, take, Option, Some, None, Result, IfOk}
use Rattle.std.specs.Prelude.{IfErr, IsErrOf}
use Rattle.ap_base.specs.Causes.{HasCauseOf}
use Rattle.ap_base.specs.Sinks.{SinkState, share_of}
use Rattle.ap_base.specs.Sources.{SourceState}
use Rattle.ap_base.specs.declared.source.NamedBytes.{NamedBytes}
use Rattle.graph_model.specs.declared.types.Graph.{Graph}
use Rattle.line_image.specs.Crash.{first_word, word_left}
use Rattle.line_image.specs.Memory.{calls_of, fails_of, faults_of, room_of, size_of, told_of, trace_of}
use Rattle.line_image.specs.Told.{Told}
use Rattle.line_image.specs.Trace.{IsAllFenced, LeavesNow, LeftWithin}
use Rattle.line_image.specs.declared.memory.MemoryImage.{MemoryImage}
use Rattle.image_meaning.specs.Appending.{with_all_too}
use Rattle.image_meaning.specs.Checks.{Words}
use Rattle.image_meaning.specs.Directories.{Directory}
use Rattle.image_meaning.specs.Entries.{DirectoryEntry}
use Rattle.image_meaning.specs.Meaning.{StandsFor}
use Rattle.image_opening.specs.Unopened.{IsBadThere}
use Rattle.image_opening.specs.declared.not_opened.NotOpened.{NotOpened}
use Rattle.image_opening.specs.declared.not_opened.NotOpened.TheVariants.{BadImage, ImageFailed, OutOfMemory}
use Rattle.run_history.specs.Kept.{IsAllowedFrom, acts_before}
use Rattle.run_history.specs.Recorded.{Recorded}
use Rattle.plain_model.specs.First.{first_known}
use Rattle.command_words.specs.Commands.{command_of}
use Rattle.command_words.specs.declared.command.Command.TheVariants.{Run}
use Rattle.command_words.specs.declared.command.Run.{Run as RunWords}
use Rattle.autopersist.specs.Meets.{Meets}
use Rattle.autopersist.specs.Outside.{Outside, outside}
use Rattle.autopersist.specs.Passed.{AreEntriesOf, AreRead, Choice, FilesGive, IsDirectoryIn, IsOpenedSo, Linked, OfChoice}
use Rattle.autopersist.specs.Passed.{ShapeChanged, Status, facts_of, lacking, made_of, with_arrays_of}
use Rattle.reopened_runs.specs.declared.stopping.Stop.{Stop}

-- how many bytes of a piece a sink in memory takes, once it took so many more
abbrev pub takes_of : SinkState → (ℕ → ℕ → Option ℕ)
takes_of sink further length = Some (share_of sink further length)

-- the words ask for this run
abbrev pub AsksRun : List (List ℕ) → RunWords → Type 0
AsksRun words run = command_of words ≡ Some (Run run)

-- what forms in memory tell, beside a watcher that tells nothing
abbrev pub in_memory : SourceState → MemoryImage → SinkState → Outside
in_memory source image sink = outside (Some source.left) source.faults (told_of image) (faults_of image) (Some sink.taken)
    (takes_of sink) sink.faults None

-- A run over forms in memory is one of the top call.
abbrev pub MeetsOver : (words : List (List ℕ)) → (source source' : SourceState) → (image image' : MemoryImage)
    → (sink sink' : SinkState) → Status → Graph → List Recorded → Type 0
MeetsOver words source source' image image' sink sink' how opening acts =
    Meets words (in_memory source image sink) (in_memory source' image' sink') (source' ≡ source) (image' ≡ image) how opening acts

-- what these files give, where the words name the main class
abbrev pub AreAsked : RunWords → List NamedBytes → Result Choice Status → Type 0
AreAsked run files = FilesGive run.main files

-- reads of the image give words that stand for this graph
abbrev pub IsSomeLeft : Told → Graph → Type 0
IsSomeLeft image graph = (words : Words) × AreRead image words × StandsFor image.size words graph

-- an image wasn't refused for its words
abbrev pub IsNoBadImage : NotOpened → Type 0
IsNoBadImage (BadImage line reason) = ⊥
IsNoBadImage ImageFailed = Unit {0}
IsNoBadImage OutOfMemory = Unit {0}

-- The run of the set began with some graph, that which it gives back where there are acts; and these acts of all allow this graph from it.
pub record IsAllowedOf (set : Linked) (start : Told) (opening : Graph) (all acts : List Recorded) (graph : Graph) : Type 0 where
  pub first : Graph
  pub of : IsOpenedSo set start first
  pub from : all ≢ [] → opening ≡ first
  pub allowed : IsAllowedFrom (first_known (facts_of of.numbered) first) acts graph

abbrev pub RecoversAllowed : (gives : Result Choice Status → Type 0) → Told → Graph → (all acts : List Recorded) → Graph → Type 0
RecoversAllowed gives start opening all acts graph =
    OfChoice gives (λ choice. IsAllowedOf choice.set start opening all acts graph)

-- The graph, with the first of the entries that the directory lacked of the set once its array types had numbers: the roots among these
-- are null. The image's words spelled the directory.
pub record HasFirstNew (set : Linked) (start : Told) (before graph : Graph) : Type 0 where
  pub words : Words
  pub read : AreRead start words
  pub found : Directory
  pub found_is : IsDirectoryIn words found
  pub entries : List DirectoryEntry
  pub are_its : AreEntriesOf (facts_of (with_arrays_of set found.shapes)) (made_of (with_arrays_of set found.shapes)) entries
  pub count : ℕ
  pub few : count ≤ length (lacking found entries)
  pub is : graph ≡ with_all_too before (take count (lacking found entries))

abbrev pub RecoversAsBefore : (gives : Result Choice Status → Type 0) → Told → (before graph : Graph) → Type 0
RecoversAsBefore gives start before graph =
    (graph ≡ before) ⊎ OfChoice gives (λ choice. HasFirstNew choice.set start before graph)

-- ---- what is found

-- nothing was written to it, and no fence made, since it was made of its words
abbrev pub IsUntouched : MemoryImage → Type 0
IsUntouched image = (trace_of image).done ≡ []

-- This was found of an image that a stop left: the graph for which its words stand. Where there is one, it isn't a bad image; where it is
-- told to be bad it is so, by that line and reason; and it failed exactly where that is told, once.
pub record IsFoundIn (left back : MemoryImage) (found : Result Graph NotOpened) : Type 0 where
  pub opened : IfOk found (λ it. StandsFor (size_of left) (first_word (trace_of left)) it)
  pub stood : (graph : Graph) → StandsFor (size_of left) (first_word (trace_of left)) graph → IfOk found (λ it. it ≡ graph)
  pub refused : (graph : Graph) → StandsFor (size_of left) (first_word (trace_of left)) graph → IfErr found IsNoBadImage
  pub bad : IfErr found (IsBadThere (told_of left))
  pub cause : HasCauseOf ImageFailed (faults_of left) (faults_of back) found

-- The image was given back, and this was found of it.
abbrev pub FindsIn : (left : MemoryImage) → Option MemoryImage → (found : Result Graph NotOpened) → Type 0
FindsIn left None found = ⊥
FindsIn left (Some back) found = IsFoundIn left back found

-- This stop behind the last call of an image left it: of what the trace allows, what the stop picks. Its calls fail as the stop says; none was
-- made yet, and it counts no fault.
pub record IsStopBehind (after : MemoryImage) (stop : Stop) (left : MemoryImage) : Type 0 where
  pub untouched : IsUntouched left
  pub faultless : faults_of left ≡ 0
  pub size : size_of left ≡ size_of after
  pub words : LeavesNow (Some (trace_of after)) (first_word (trace_of left))
  pub picked : (l w : ℕ) → l < size_of after → w < 8 → first_word (trace_of left) l w ≡ word_left stop.pick (trace_of after) l w
  pub uncalled : calls_of left ≡ 0
  pub fails : fails_of left ≡ stop.fails
  pub room : room_of left ≡ stop.fails.room

-- What was found of an image that such a stop left, and how it was given back; or there was no memory for it.
abbrev pub FindsBehind : (after : MemoryImage) → Stop → Option MemoryImage → (found : Result Graph NotOpened) → Type 0
FindsBehind after stop None found = IsErrOf found OutOfMemory
FindsBehind after stop (Some back) found = (left : MemoryImage) × IsStopBehind after stop left × IsFoundIn left back found

-- This was found of what a stop behind these acts of all left, where the words ask for a run, and the files were there for it, over an image
-- that told `start`. It isn't a bad image, but that where there are no acts the image has to have stood for a graph.
pub record Recovers (words : List (List ℕ)) (files : List NamedBytes) (start : Told) (opening : Graph) (all acts : List Recorded)
    (found : Result Graph NotOpened) : Type 0 where
  -- Where there are acts, a graph that they allow.
  pub allowed : (run : RunWords) → AsksRun words run → acts ≢ []
      → IfOk found (RecoversAllowed (AreAsked run files) start opening all acts)
  -- Where there are none, the graph for which the image stood, with the first of the set's new entries or with all of them.
  pub as_before : (run : RunWords) → AsksRun words run → acts ≡ [] → (before : Graph) → IsSomeLeft start before
      → IfOk found (λ graph. RecoversAsBefore (AreAsked run files) start before graph
      ⊎ RecoversAllowed (AreAsked run files) start opening all [] graph)
  pub opens : (run : RunWords) → AsksRun words run → (acts ≡ [] → (before : Graph) × IsSomeLeft start before)
      → IfErr found IsNoBadImage

-- The words that the image was made of are some that a stop leaves within call n of one that told `start` first, and tells `after` behind it.
pub record IsStopWithin (start after : Told) (n : ℕ) (left : MemoryImage) : Type 0 where
  pub some : 0 < n
  pub made : start.calls + n ≤ after.calls
  pub counted : start.calls + n < 2 ^ 64 - 1
  pub size : size_of left ≡ start.size
  pub words : LeftWithin after.trace (start.calls + n) (first_word (trace_of left))

-- Whatever call a stop that left the image was within; where nothing was unfenced at the start, if that call is one of the opening's reads or
-- the fence behind them, or there are no acts and nothing was written or fenced.
abbrev pub RecoversWithin : (words : List (List ℕ)) (files : List NamedBytes) (start after : Told) (opening : Graph) (all : List Recorded)
    (left : MemoryImage) (found : Result Graph NotOpened) → Type 0
RecoversWithin words files start after opening all left found =
    (n : ℕ) → IsStopWithin start after n left
    → ((n ≤ start.size + 1) ⊎ ((all ≡ []) × (after.trace ≡ start.trace)) → IsAllFenced start.trace)
    → Recovers words files start opening all (acts_before n all) found

-- Where a shape of the image isn't the set's nothing is appended: what is recovered is the very graph for which the image stood.
abbrev pub KeepsRefused : (words : List (List ℕ)) → Told → Status → (found : Result Graph NotOpened) → Type 0
KeepsRefused words start how found = (run : RunWords) → AsksRun words run → (shape : List ℕ) → how ≡ ShapeChanged shape
    → (before : Graph) → IsSomeLeft start before → IfOk found (λ graph. graph ≡ before)
