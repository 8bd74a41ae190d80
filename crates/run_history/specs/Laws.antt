-- The laws of histories: what an act changes in the graphs that a stop may leave, and which acts come before an image
-- call. Each is said of any past: any acts, from any world, with any objects durable there.
use Rattle.std.specs.Prelude.{◌≡◌, ◌≢◌, ◌⊎◌, ◌↔◌, ℕ, ◌<◌, ◌≤◌, Bool, true, false, nat_eq, nat_lt, not, List, [], ◌∷◌, ◌++◌}
use Rattle.std.specs.Prelude.{filter, All, AllPairs, if◌then◌else◌}
use Rattle.ap_base.specs.declared.place.Place.{Place}
use Rattle.graph_model.specs.declared.types.Value.{Value}
use Rattle.graph_model.specs.declared.types.Heap.{Heap}
use Rattle.graph_model.specs.declared.types.Graph.{Graph}
use Rattle.graph_model.specs.Heaps.{has_number, IsSound}
use Rattle.graph_model.specs.Canon.{canon_of}
use Rattle.run_history.specs.declared.act.Op.{Op}
use Rattle.run_history.specs.declared.act.Op.TheVariants as op
use Rattle.run_history.specs.Recorded.{Recorded}
use Rattle.run_history.specs.Worlds.{World, heap_after, heap_after_op_checked}
use Rattle.run_history.specs.Knowing.{Fate, Sure, Open, Closing, Single, Mark, Knowledge, known_at_first, known_after}
use Rattle.run_history.specs.Knowing.{owes_fence, fate_of, each_fate, is_outermost}
use Rattle.run_history.specs.Kept.{kept, MayRemain, MayRemainWith, IsAllowedFrom, acts_before}

-- A past: a first world, the objects that are durable there, and the acts since then.
pub record Past : Type 0 where
  pub world : World
  pub durable : List ℕ
  pub acts : List Recorded

-- the past and one more act, which is thread t's and names no objects
abbrev pub further : Past → ℕ → ℕ → Op → Past
further past t at o =
    record past { acts = past.acts ++ record { act = record { thread = t; at = at; op = o }; named = [] } ∷ [] }

abbrev pub known_in : Past → Knowledge
known_in past = known_after (known_at_first past.world past.durable) past.acts

abbrev pub marks_in : Past → List Mark
marks_in past = (known_in past).marks

-- a graph that the acts of the past allow
abbrev pub Allows : Past → Graph → Type 0
Allows past g = IsAllowedFrom (known_at_first past.world past.durable) past.acts g

-- a graph that they allow with one more operation done last
abbrev pub AllowsWith : Past → Op → Graph → Type 0
AllowsWith past o g = MayRemainWith past.world.heap (marks_in past) o g

-- the graph that is left where these closing regions and these threads' single stores are kept
abbrev pub graph_left : Heap → List Mark → (ℕ → Bool) → (ℕ → Bool) → Graph
graph_left first marks regions singles = canon_of (heap_after first (kept regions singles marks))

-- A single store: thread t owes no fence, and its store at this place is a durable one outside regions.
pub record IsSingleStore (known : Knowledge) (t : ℕ) (place : Place) : Type 0 where
  pub owes_none : owes_fence known.unfenced t ≡ false
  pub fate : fate_of known t place ≡ Single t

-- A single store adds to the graphs that may be left those with the store, and takes none away.
abbrev pub SingleStoreIsOpen : Type 0
SingleStoreIsOpen = (past : Past) (t at : ℕ) (place : Place) (value : Value) (g : Graph)
    → IsSingleStore (known_in past) t place
    → Allows (further past t at (op.Stored place value)) g
    ↔ (Allows past g ⊎ AllowsWith past (op.Stored place value) g)

-- Its fence leaves those with the store alone.
abbrev pub FencedStoreIsThere : Type 0
FencedStoreIsThere = (past : Past) (t at later : ℕ) (place : Place) (value : Value) (g : Graph)
    → IsSingleStore (known_in past) t place
    → Allows (further (further past t at (op.Stored place value)) t later op.Fenced) g
    ↔ AllowsWith past (op.Stored place value) g

-- A graph that is left where the single stores of thread t are kept.
abbrev pub LeftWithSingle : Past → ℕ → Graph → Type 0
LeftWithSingle past t g =
    (regions singles : ℕ → Bool) × (singles t ≡ true) × (g ≡ graph_left past.world.heap (marks_in past) regions singles)

-- Whatever came before it, a fence of thread t leaves the graphs in which t's single store is kept.
abbrev pub FenceKeepsTheStore : Type 0
FenceKeepsTheStore = (past : Past) (t at : ℕ) (g : Graph)
    → Allows (further past t at op.Fenced) g ↔ LeftWithSingle past t g

-- And then no store of t is a single one.
abbrev pub FenceLeavesNoSingle : Type 0
FenceLeavesNoSingle = (past : Past) (t at : ℕ)
    → All (λ (m : Mark). m.fate ≢ Single t) (marks_in (further past t at op.Fenced))

abbrev pub is_open : Fate → Bool
is_open (Open t) = true
is_open _ = false

-- the marks without the stores of open regions
abbrev pub without_open : List Mark → List Mark
without_open marks = filter (λ (m : Mark). not (is_open m.fate)) marks

-- Nothing of an open region is left.
abbrev pub OpenRegionIsNeverThere : Type 0
OpenRegionIsNeverThere = (past : Past) (g : Graph)
    → Allows past g ↔ MayRemain past.world.heap (without_open (marks_in past)) g

abbrev pub is_closing_of : ℕ → Fate → Bool
is_closing_of t (Closing u) = nat_eq u t
is_closing_of t _ = false

-- the marks where the stores of thread t's closing region are sure
abbrev pub with_region : ℕ → List Mark → List Mark
with_region t marks = each_fate (λ fate. if is_closing_of t fate then Sure else fate) marks

-- the marks without the stores of thread t's closing region
abbrev pub without_region : ℕ → List Mark → List Mark
without_region t marks = filter (λ (m : Mark). not (is_closing_of t m.fate)) marks

-- A closing region is left whole, or not at all.
abbrev pub ClosingRegionIsWhole : Type 0
ClosingRegionIsWhole = (past : Past) (t : ℕ) (g : Graph)
    → Allows past g
    ↔ (MayRemain past.world.heap (with_region t (marks_in past)) g
    ⊎ MayRemain past.world.heap (without_region t (marks_in past)) g)

-- While a thread's region is closing, none of its stores is one of an open region.
abbrev pub ClosingRegionIsNotOpen : Type 0
ClosingRegionIsNotOpen = (past : Past) (t : ℕ)
    → has_number (known_in past).closing t ≡ true
    → All (λ (m : Mark). m.fate ≢ Open t) (marks_in past)

-- Thread t's region is closing, and its next End matches the outermost Begin.
pub record IsAtItsEnd (known : Knowledge) (t : ℕ) : Type 0 where
  pub outermost : is_outermost known t ≡ true
  pub closing : has_number known.closing t ≡ true

-- The End of a closing region leaves it whole.
abbrev pub EndedRegionIsThere : Type 0
EndedRegionIsThere = (past : Past) (t at : ℕ) (g : Graph)
    → IsAtItsEnd (known_in past) t
    → Allows (further past t at op.End) g ↔ MayRemain past.world.heap (with_region t (marks_in past)) g

-- And then no store of t is one of a region.
abbrev pub EndLeavesNoRegion : Type 0
EndLeavesNoRegion = (past : Past) (t at : ℕ)
    → IsAtItsEnd (known_in past) t
    → All (λ (m : Mark). (m.fate ≢ Open t) × (m.fate ≢ Closing t)) (marks_in (further past t at op.End))

-- A further act is before call m exactly where fewer than m calls were finished by then.
abbrev pub FurtherActBefore : Type 0
FurtherActBefore = (m : ℕ) (acts : List Recorded) (a : Recorded)
    → acts_before m (acts ++ a ∷ [])
    ≡ (if nat_lt a.act.at m then acts_before m acts ++ a ∷ [] else acts_before m acts)

-- Where the number of finished calls never falls along the acts, those before call m are their front.
abbrev pub ActsBeforeAreAFront : Type 0
ActsBeforeAreAFront = (m : ℕ) (acts : List Recorded)
    → AllPairs (λ (a b : Recorded). a.act.at ≤ b.act.at) acts
    → (rest : List Recorded) × (acts ≡ acts_before m acts ++ rest) × All (λ (a : Recorded). m ≤ a.act.at) rest

-- Where fewer than m calls were finished at each act, all are before call m.
abbrev pub AllActsBefore : Type 0
AllActsBefore = (m : ℕ) (acts : List Recorded)
    → All (λ (a : Recorded). a.act.at < m) acts → acts_before m acts ≡ acts

-- An operation that is checked keeps a sound heap sound, whatever it is.
abbrev pub CheckedHeapIsSound : Type 0
CheckedHeapIsSound = (heap : Heap) (o : Op) → IsSound heap → IsSound (heap_after_op_checked heap o)
