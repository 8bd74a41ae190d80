-- What a machine has left to do before its conversions, durable stores and regions are done, as a number.
use Rattle.std.specs.Prelude.{◌≡◌, ℕ, ◌+◌, ◌-◌, ◌*◌, ◌/◌, ◌≤◌, ◌^◌, List, [], ◌∷◌, length, slice_index, sum_by}
use Rattle.ap_base.specs.declared.reference.Ref.{Ref}
use Rattle.ap_base.specs.declared.reference.Item.{Item}
use Rattle.ap_base.specs.declared.place.Place.{Place}
use Rattle.natives.specs.declared.requests.Request.{Request}
use Rattle.natives.specs.declared.requests.Reply.{Reply}
use Rattle.run_history.specs.declared.act.Op.{Op}
use Rattle.volatile_space.specs.Spaces.{Space}
use Rattle.twin_forms.specs.Table.{Entry}
use Rattle.twin_forms.specs.Sights.{Twin}
use Rattle.convert_words.specs.declared.step.ConvertStep.{ConvertStep}
use Rattle.converter.specs.declared.begin.Begun.{Begun}
use Rattle.converter.specs.Laws.{work_of, quiet, quiet_begun}
use Rattle.machine_laws.specs.Passed.{Doing}
use Rattle.machine_laws.specs.Passed.{Nothing, Converting, Writing, Fencing}
use Rattle.region_log.specs.declared.entry.Entry.{Entry as LogEntry}
use Rattle.region_log.specs.declared.entry.EntryStage.{EntryStage}
use Rattle.region_log.specs.declared.entry.EntryStage.TheVariants.{Begun as EntryBegun, Written, Fenced, Counting, Counted}
use Rattle.region_log.specs.declared.entry.EndStage.{EndStage}
use Rattle.region_log.specs.declared.entry.EndStage.TheVariants.{Writing as WritingLines, AllFenced, Clearing, Cleared}
use Rattle.region_log.specs.declared.entry.Underway.{Underway}
use Rattle.region_log.specs.declared.entry.Underway.TheVariants.{Nothing as Idle, Adding, Ending}
use Rattle.region_log.specs.Log.{Log}
use Rattle.machine_laws.specs.Passed.{Machine, memory_of, scene_of}
use Rattle.machine_laws.specs.Passed.{KeepsRun}
use Rattle.machine_laws.specs.Passed.{CallsImage, with_twin, WritesBack, with_write, MakesFence, with_fence, ConvertsOn}
use Rattle.machine_laws.specs.Passed.{BeginsOn, Seals, with_joined, AsksFor, with_asked, value_in, ActsBeside, TableAfter}
use Rattle.machine_laws.specs.Passed.{StoresDurably}
use Rattle.machine_ends.specs.Unwritten.{OfUnwritten}

-- ---- the work

-- How many lines the object at an index of the space has. Its second word is its head, whose upper half tells
-- how many slots it has.
abbrev pub lines_at : Space → ℕ → ℕ
lines_at space at = slice_index space.words (at + 1) / 2 ^ 32 / 8 + 1

-- of a durable store: one until its line is written back, and one until that is fenced
abbrev pub store_work : Doing → ℕ
store_work Nothing = 0
store_work Converting = 0
store_work (Writing line) = 2
store_work Fencing = 1

-- of an entry that is added to a log: one until it is written, one until that is fenced, one until it counts,
-- and one until that is fenced
abbrev pub adding_work : EntryStage → ℕ
adding_work EntryBegun = 4
adding_work Written = 3
adding_work Fenced = 2
adding_work Counting = 2
adding_work Counted = 1

-- of a region that ends, with so many words logged: one for the line of each that isn't written back, one
-- until those are fenced, one until none counts, and one until that is fenced
abbrev pub ending_work : ℕ → EndStage → ℕ
ending_work logged (WritingLines lines) = (logged - lines) + 3
ending_work logged AllFenced = 2
ending_work logged Clearing = 2
ending_work logged Cleared = 1

-- of a region that has logged these words, until it has ended; one that logged nothing ends at once
abbrev pub logged_work : List LogEntry → ℕ
logged_work [] = 0
logged_work (e ∷ entries) = length (e ∷ entries) + 3

abbrev pub underway_work : List LogEntry → Underway → ℕ
underway_work entries Idle = logged_work entries
underway_work entries (Adding e stage) = (length entries + 1) + 3 + adding_work stage
underway_work entries (Ending stage) = ending_work (length entries) stage

-- of a thread's log: until the entry that is being added counts, and the region has ended
abbrev pub log_work : Log → ℕ
log_work log = underway_work log.entries log.underway

-- The work of conversions, as `converter` counts it, that of durable stores, and that of regions.
abbrev pub work_left : Machine → ℕ
work_left m = work_of (lines_at m.spaces.twin.space) (scene_of m) + sum_by store_work m.doing
    + sum_by log_work m.logs

-- A line that is left makes work of 16 at most, once it is taken.
abbrev pub measure : Machine → ℕ
measure m = work_left m + 16 * ((memory_of m).size - m.free)

-- ---- what events leave of it

abbrev pub CallsLeaveWork : Type 0
CallsLeaveWork = OfUnwritten (λ o m es. (twin : Twin) → CallsImage m twin
    → work_left (with_twin m twin) ≡ work_left m)

abbrev pub WritesTakeOne : Type 0
WritesTakeOne = OfUnwritten (λ o m es. (twin : Twin) (t : ℕ) → WritesBack m twin t
    → work_left (with_write m twin t) + 1 ≡ work_left m)

abbrev pub FencesTakeOne : Type 0
FencesTakeOne = OfUnwritten (λ o m es. (twin : Twin) (t : ℕ) → MakesFence m twin t
    → work_left (with_fence m twin t) + 1 ≤ work_left m)

-- A quiet step takes one at least. A claim is one, and adds 16 at most for each line that it takes.
abbrev pub ConversionsTakeWork : Type 0
ConversionsTakeWork = OfUnwritten (λ o m es. (m' : Machine) (t : ℕ) (answer : ConvertStep)
    → ConvertsOn t answer m m' es → work_left m' + quiet answer ≤ work_left m + 16 * (m'.free - m.free))

abbrev pub BeginningsAddLines : Type 0
BeginningsAddLines = OfUnwritten (λ o m es. (m' : Machine) (es' : List Entry) (t n word : ℕ) (answer : Begun)
    → BeginsOn t n word answer o m m' es es'
    → work_left m' + quiet_begun answer ≤ work_left m + 16 * (m'.free - m.free))

abbrev pub SealsAddNone : Type 0
SealsAddNone = OfUnwritten (λ o m es. (m' : Machine) (t set : ℕ) (named : List ℕ)
    → Seals t set named m m' es → work_left (with_joined m' t named) ≤ work_left m)

abbrev pub AskedAddsNone : Type 0
AskedAddsNone = OfUnwritten (λ o m es. (t : ℕ) (request : Request Ref Item) (place : Place) (item : Item)
    → AsksFor o m es t request place item → work_left (with_asked m t place (value_in m item)) ≡ work_left m)

-- A store to a copied line of an object that is being made durable adds its write and a fence.
abbrev pub ActsAddTwo : Type 0
ActsAddTwo = OfUnwritten (λ o m es. (m' : Machine) (es' : List Entry) (t : ℕ) (request : Request Ref Item)
    (operation : Op) (r : Reply Ref Item) → ActsBeside o m m' es t request operation r
    → TableAfter m operation es es' → KeepsRun o m' es' → work_left m' ≤ work_left m + 2)

abbrev pub DurableStoresAddTwo : Type 0
DurableStoresAddTwo = OfUnwritten (λ o m es. (m' : Machine) (t : ℕ) (request : Request Ref Item)
    (place : Place) (item : Item) → StoresDurably o m m' es t request place item → KeepsRun o m' es
    → work_left m' ≤ work_left m + 2)

-- ---- the measure

-- Each quiet event lowers the measure, and no step of a conversion and no call of the image raises it. So a loop
-- over such events ends.
pub record QuietEventsLowerTheMeasure : Type 0 where
  pub steps : OfUnwritten (λ o m es. (m' : Machine) (t : ℕ) (answer : ConvertStep)
      → ConvertsOn t answer m m' es → measure m' + quiet answer ≤ measure m)
  pub begins : OfUnwritten (λ o m es. (m' : Machine) (es' : List Entry) (t n word : ℕ) (answer : Begun)
      → BeginsOn t n word answer o m m' es es' → measure m' + quiet_begun answer ≤ measure m)
  pub calls : OfUnwritten (λ o m es. (twin : Twin) → CallsImage m twin
      → measure (with_twin m twin) ≡ measure m)
  pub writes : OfUnwritten (λ o m es. (twin : Twin) (t : ℕ) → WritesBack m twin t
      → measure (with_write m twin t) + 1 ≤ measure m)
  pub fences : OfUnwritten (λ o m es. (twin : Twin) (t : ℕ) → MakesFence m twin t
      → measure (with_fence m twin t) + 1 ≤ measure m)

-- A seal and what is asked leave it, and an act of a request adds two at most.
pub record ActsAddTwoToTheMeasure : Type 0 where
  pub seals : OfUnwritten (λ o m es. (m' : Machine) (t set : ℕ) (named : List ℕ)
      → Seals t set named m m' es → measure (with_joined m' t named) ≤ measure m)
  pub asked : OfUnwritten (λ o m es. (t : ℕ) (request : Request Ref Item) (place : Place) (item : Item)
      → AsksFor o m es t request place item → measure (with_asked m t place (value_in m item)) ≡ measure m)
  pub beside : OfUnwritten (λ o m es. (m' : Machine) (es' : List Entry) (t : ℕ) (request : Request Ref Item)
      (operation : Op) (r : Reply Ref Item) → ActsBeside o m m' es t request operation r
      → TableAfter m operation es es' → KeepsRun o m' es' → measure m' ≤ measure m + 2)
  pub durable : OfUnwritten (λ o m es. (m' : Machine) (t : ℕ) (request : Request Ref Item) (place : Place)
      (item : Item) → StoresDurably o m m' es t request place item → KeepsRun o m' es
      → measure m' ≤ measure m + 2)
