-- What holds of a world over a heap of two spaces from row to row.
use Rattle.std.specs.Prelude.{◌≡◌, ◌⊎◌, Some, ℕ, ◌+◌, ◌<◌, ◌≤◌, List, [], length, All}
use Rattle.ap_base.specs.declared.reference.Ref.{Ref}
use Rattle.ap_base.specs.declared.reference.Item.{Item}
use Rattle.ap_base.specs.declared.reference.Item.TheVariants.{Ref as RefItem}
use Rattle.natives.specs.declared.requests.Request.{Request}
use Rattle.plain_model.specs.Duties.{IsFit}
use Rattle.plain_model.specs.Facts.{SetFacts}
use Rattle.run_history.specs.declared.act.Op.TheVariants as op
use Rattle.shared_objects.specs.declared.rest.Rest.{Rest}
use Rattle.shared_objects.specs.Plain.{KnowsReply, KnowsRequest, plain_request}
use Rattle.shared_objects.specs.Shown.{IsKnown, Numbers}
use Rattle.shared_objects.specs.Worlds.{world_of}
use Rattle.step_forms.specs.declared.stepped.Stepped.{Stepped}
use Rattle.step_forms.specs.declared.stepped.Stepped.TheVariants as stepped
use Rattle.step_forms.specs.Becomes.{MayBeStored}
use Rattle.step_forms.specs.Follows.{Agrees}
use Rattle.shared_steps.specs.Lasting.{AtMost}
use Rattle.twin_forms.specs.Table.{Entry, HasCopied, entry, line_of, lines_of}
use Rattle.two_spaces.specs.declared.spaces.TwoSpaces.{TwoSpaces}
use Rattle.two_spaces.specs.Seen.{Spaces, shown_of}
use Rattle.two_spaces.specs.Whole.{HasLine, MayStoreIn, Stands}

abbrev pub spaces_of : {I : Type 0} → TwoSpaces I → Spaces
spaces_of spaces = record {
  twin = record { space = spaces.heap.space; memory = spaces.heap.memory; marks = spaces.heap.marks };
  shapes = spaces.shapes;
  classes = spaces.classes.items;
  numbers = spaces.numbers.items;
  statics = spaces.statics.items;
}

-- No object has lines from this one on.
abbrev pub LieBelow : ℕ → List Entry → Type 0
LieBelow next es = (n : ℕ) → n < length es → 0 < (entry es n).stage
    → (entry es n).line + lines_of (entry es n) ≤ next

-- The heap is whole by this table, and the image has room for root slots.
pub record HasTable (s : Spaces) (next : ℕ) (es : List Entry) : Type 0 where
  pub stands : Stands s es
  pub below : LieBelow next es
  pub long : 33 ≤ s.twin.memory.size
  pub behind : 33 ≤ next

-- It agrees with what lies beside it, as each step asks, and no more steps and entries were made than are counted.
pub record HoldsOf (set : SetFacts) (s : Spaces) (rest : Rest) (refs : List Ref) (next acts entered : ℕ) : Type 0 where
  pub table : List Entry
  pub whole : HasTable s next table
  pub agrees : Agrees set (shown_of s) rest
  pub counted : AtMost acts rest
  pub few : length rest.monitors ≤ entered
  pub known : All (IsKnown (shown_of s).number) refs

abbrev pub Holds : {I : Type 0} → SetFacts → TwoSpaces I → Rest → List Ref → (next acts entered : ℕ) → Type 0
Holds set spaces rest refs next acts entered = HoldsOf set (spaces_of spaces) rest refs next acts entered

-- Thread t may ask this: it names what it may, and what it would store may be stored.
pub record MayBeAsked (set : SetFacts) (s : Spaces) (rest : Rest) (t : ℕ) (request : Request Ref Item) : Type 0 where
  pub fit : IsFit set (world_of [] (shown_of s) rest) t (plain_request (shown_of s).number request)
  pub known : KnowsRequest (shown_of s).number request
  pub may : MayBeStored (MayStoreIn s) set (shown_of s) rest t request

-- 1 where the step entered a monitor
abbrev pub entries_of : Stepped → ℕ
entries_of (stepped.Did (op.Enter key) r) = 1
entries_of other = 0

abbrev pub KnowsStepped : Numbers → Stepped → Type 0
KnowsStepped number (stepped.Did o r) = KnowsReply number r
KnowsStepped number other = Unit {0}

-- The object of a reference lies in lines, or the slot of the holder isn't in a copied line.
abbrev pub MayRefer : Spaces → List Entry → (holder : Ref) → ℕ → Ref → Type 0
MayRefer s es holder i r = HasLine es (RefItem r)
    ⊎ ((n : ℕ) → (shown_of s).number holder ≡ Some n → HasCopied (entry es n) (line_of i) → ⊥)
