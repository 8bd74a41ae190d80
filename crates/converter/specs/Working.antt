-- What a thread's next step has to do, once its place has gone on.
use Rattle.std.specs.Prelude.{◌≡◌, ℕ, ◌+◌, ◌*◌, ◌<◌, ◌≤◌, List, length}
use Rattle.volatile_space.specs.Spaces.{Space}
use Rattle.line_memory.specs.Memory.{Memory}
use Rattle.twin_forms.specs.Table.{Entry, entry, View, Lies, lines_of}
use Rattle.twin_forms.specs.Sights.{Marks}
use Rattle.convert_queue.specs.declared.phase.Phase.TheVariants.{Copy, Repair, Flush}
use Rattle.convert_queue.specs.Queues.{Queues, place_of, phase_of}
use Rattle.convert_words.specs.Agreeing.{Is}
use Rattle.convert_words.specs.Scenes.{Scene, scene, AgreesAt}
use Rattle.convert_words.specs.Converting.{GoesOn, ToTakeIn}
use Rattle.converter.specs.declared.work.Work.{Work}
use Rattle.converter.specs.declared.work.Work.TheVariants as work

-- An ordinary object at this index is to be claimed.
pub record IsToClaim (s : Scene) (es : List Entry) (t object : ℕ) : Type 0 where
  pub m : ℕ
  pub there : m < length es
  pub at : (entry es m).at ≡ object
  pub asked : ToTakeIn s es t m

-- The object at the thread's place lies at this index, and its copy begins at this line. So many lines are copied.
pub record IsCopying (s : Scene) (es : List Entry) (t object line n : ℕ) : Type 0 where
  pub is : Is s.queue es t (place_of s.queue t).0 n
  pub phase : phase_of s.queue t ≡ Copy
  pub at : (entry es n).at ≡ object
  pub first : (entry es n).line ≡ line
  pub young : (entry es n).stage ≡ 1
  pub copied : (entry es n).copied ≡ (place_of s.queue t).1

-- One more line is to be copied; to this line of the image.
pub record IsToCopy (s : Scene) (es : List Entry) (t object line : ℕ) : Type 0 where
  pub n : ℕ
  pub first : ℕ
  pub copying : IsCopying s es t object first n
  pub left : 8 * (entry es n).copied ≤ (entry es n).slots
  pub here : line ≡ first + (entry es n).copied

-- All lines are copied.
pub record IsToForward (s : Scene) (es : List Entry) (t object line : ℕ) : Type 0 where
  pub n : ℕ
  pub copying : IsCopying s es t object line n
  pub full : (entry es n).slots < 8 * (entry es n).copied

-- Line c of the object at the thread's place is to be repaired.
pub record IsToRepair (s : Scene) (es : List Entry) (t object first c : ℕ) : Type 0 where
  pub n : ℕ
  pub is : Is s.queue es t (place_of s.queue t).0 n
  pub phase : phase_of s.queue t ≡ Repair
  pub at : (entry es n).at ≡ object
  pub line : (entry es n).line ≡ first
  pub here : (place_of s.queue t).1 ≡ c
  pub within : c < lines_of (entry es n)

abbrev pub IsWork : Work → ℕ → Scene → List Entry → Type 0
IsWork (work.Claim object) t s es = IsToClaim s es t object
IsWork (work.Copy object line) t s es = IsToCopy s es t object line
IsWork (work.Forward object line) t s es = IsToForward s es t object line
IsWork (work.Repair object first c) t s es = IsToRepair s es t object first c
IsWork work.Flush t s es = phase_of s.queue t ≡ Flush

-- ---- over a heap that stays as it is

-- Some table tells that these agree, and no more lines are taken than there are.
abbrev pub SomeScene : Space → Memory → Marks → Queues → Type 0
SomeScene space memory marks q = (free : ℕ) × (keys : List ℕ) × (es : List Entry) × (free ≤ memory.size) × AgreesAt (scene space memory marks q free keys) es

-- Whatever the table, the lines that are left and the monitors: the thread's place goes on.
abbrev pub Going : ℕ → Space → Memory → Marks → Queues → Queues → Type 0
Going t space memory marks q q' = (free : ℕ) (keys : List ℕ) (es : List Entry) → AgreesAt (scene space memory marks q free keys) es
    → GoesOn t (scene space memory marks q free keys) (scene space memory marks q' free keys) es

-- And there it has this to do.
abbrev pub Working : Work → ℕ → Space → Memory → Marks → Queues → Queues → Type 0
Working w t space memory marks q q' = (free : ℕ) (keys : List ℕ) (es : List Entry) → AgreesAt (scene space memory marks q free keys) es
    → IsWork w t (scene space memory marks q' free keys) es

-- ---- at the place, in phase Copy

-- Object n stands at the place: it lies at this index, and its copy begins at this line.
pub record IsAtObject (s : Scene) (es : List Entry) (t object first n : ℕ) : Type 0 where
  pub is : Is s.queue es t (place_of s.queue t).0 n
  pub phase : phase_of s.queue t ≡ Copy
  pub at : (entry es n).at ≡ object
  pub line : (entry es n).line ≡ first

-- The line at the place is copied, the last of so many, and its references are still to be looked at.
pub record IsLooking (s : Scene) (es : List Entry) (t object copied n : ℕ) : Type 0 where
  pub is : Is s.queue es t (place_of s.queue t).0 n
  pub phase : phase_of s.queue t ≡ Copy
  pub at : (entry es n).at ≡ object
  pub count : (entry es n).copied ≡ copied
  pub last : copied ≡ (place_of s.queue t).1 + 1

-- An object that is being copied, and of which so many lines are.
pub record IsFilling (v : View) (object first copied : ℕ) (es : List Entry) (n : ℕ) : Type 0 where
  pub lies : Lies v es
  pub there : n < length es
  pub at : (entry es n).at ≡ object
  pub young : (entry es n).stage ≡ 1
  pub line : (entry es n).line ≡ first
  pub count : (entry es n).copied ≡ copied

-- its next line, or its forward where it has no more
abbrev pub IsNextOf : Work → ℕ → ℕ → ℕ → ℕ → Type 0
IsNextOf (work.Claim at) object first copied slots = ⊥
IsNextOf (work.Copy at line) object first copied slots = (at ≡ object) × (line ≡ first + copied) × (8 * copied ≤ slots)
IsNextOf (work.Forward at line) object first copied slots = (at ≡ object) × (line ≡ first) × (slots < 8 * copied)
IsNextOf (work.Repair at line c) object first copied slots = ⊥
IsNextOf work.Flush object first copied slots = ⊥

-- ---- claims

-- An ordinary object lies at this index, and the lines that are left are enough for it.
pub record IsTakable (s : Scene) (es : List Entry) (object m : ℕ) : Type 0 where
  pub agrees : AgreesAt s es
  pub there : m < length es
  pub at : (entry es m).at ≡ object
  pub ordinary : (entry es m).stage ≡ 0
  pub nobody : (entry es m).owner ≡ 0
  pub room : s.free + lines_of (entry es m) ≤ s.heap.memory.size
