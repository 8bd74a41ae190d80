-- When an act may come next, outside regions.
use Rattle.std.proofs.Common.{◌≡◌, inl, ℕ, ◌<◌, ◌≤◌, Bool, true, false, List, [], ◌++◌, length, Option, None, refl, sym, ◌∙◌}
use Rattle.std.proofs.Common.{ap}
use Rattle.std.proofs.lemmas.Bool.{true≢false}
use Rattle.std.proofs.lemmas.List.{append-nil}
use Rattle.ap_base.specs.declared.place.Place.TheVariants.{Static, Slot}
use Rattle.graph_model.specs.Heaps.{has_number}
use Rattle.run_history.specs.declared.act.Op.{Op}
use Rattle.run_history.specs.declared.act.Op.TheVariants as op
use Rattle.run_history.specs.Recorded.{Recorded, NamesRightly}
use Rattle.run_history.specs.Worlds.{heap_after_op, depth_of}
use Rattle.run_history.specs.Knowing.{Knowledge, durable_at, owes_fence, guard_of, is_outermost, after_end, known_after_op}
use Rattle.run_history.specs.Knowing.{next_known}
use Rattle.run_history.specs.Wanted.{Wishes, IsClosed}
use Rattle.plain_model.specs.Facts.{SetFacts}
use Rattle.plain_model.specs.Requests.{PlainRequest}
use Rattle.plain_model.specs.Codes.{is_persistent}
use Rattle.plain_model.specs.Runs.{IsAbout, MayAct, Rule, is_fenced, is_volatile}
use Rattle.plain_model.proofs.Durable.{made_durable}
use Rattle.machine_laws.proofs.Acts.{durable-next}
use Rattle.machine_laws.proofs.Closed.{AreClosed, of_known, is_closed_by, slot-stored, static-stored, made}
use Rattle.machine_laws.proofs.AskOutside.{IsOutside}

-- ---- the heap after an act

heap-end : (known : Knowledge) (t : ℕ) (outermost : Bool) → (after_end known t outermost).world.heap
    ≡ known.world.heap
heap-end known t true = refl
heap-end known t false = refl

heap-op : (known : Knowledge) (t : ℕ) (named : List ℕ) (o : Op)
    → (known_after_op known t named o).world.heap ≡ heap_after_op known.world.heap o
unfolding known_after_op
heap-op known t named op.End = heap-end known t (is_outermost known t)
heap-op known t named o = refl

pub heap-next : (known : Knowledge) (a : Recorded)
    → (next_known known a).world.heap ≡ heap_after_op known.world.heap a.act.op
heap-next known a = heap-op known a.act.thread a.named a.act.op

-- ---- what durable places refer to

-- durable objects are there
abbrev pub AreThere : Knowledge → Type 0
AreThere known = (n : ℕ) → has_number known.durable n ≡ true → n < length known.world.heap.objects

-- it stores no volatile object at a durable place, and makes nothing durable
abbrev pub LeavesClosed : Knowledge → Op → Type 0
LeavesClosed known (op.Stored place value) = durable_at known place ≡ true → is_volatile known.durable value
    ≡ false
LeavesClosed known op.Joined = ⊥
LeavesClosed known o = Unit {0}

closed-op : (known : Knowledge) (o : Op) → LeavesClosed known o → AreThere known
    → AreClosed known.world.heap known.durable → AreClosed (heap_after_op known.world.heap o) known.durable
closed-op known (op.Stored (Static f) value) leaves there c =
    static-stored known.world.heap known.durable c f value leaves
closed-op known (op.Stored (Slot n i) value) leaves there c =
    slot-stored known.world.heap known.durable c n i value leaves
closed-op known (op.Alloc n shape count) leaves there c =
    made known.world.heap known.durable c shape count there
closed-op known (op.Throw n class) leaves there c = made known.world.heap known.durable c class 0 there
closed-op known o leaves there c = c

none-made : (known : Knowledge) (o : Op) (named : List ℕ) → LeavesClosed known o → made_durable o named ≡ []
none-made known op.Joined named leaves = absurd leaves
none-made known o named leaves = refl

pub durable-same : (known : Knowledge) (a : Recorded) → LeavesClosed known a.act.op
    → (next_known known a).durable ≡ known.durable
durable-same known a leaves =
    durable-next known a ∙ ap (λ ns. known.durable ++ ns) (none-made known a.act.op a.named leaves)
    ∙ append-nil known.durable

pub closed-next : (known : Knowledge) (a : Recorded) → LeavesClosed known a.act.op → AreThere known
    → IsClosed known → IsClosed (next_known known a)
closed-next known a leaves there c =
    is_closed_by (next_known known a) (heap_after_op known.world.heap a.act.op) known.durable
    (heap-next known a)
    (durable-same known a leaves) (closed-op known a.act.op leaves there (of_known known c))

-- ---- acts

-- What visible acts need.
pub record IsFree (known : Knowledge) (t calls : ℕ) : Type 0 where
  pub later : known.at ≤ calls
  pub owes : owes_fence known.unfenced t ≡ false

-- a durable store is outside regions, at a place that no region has guarded
abbrev pub StoresOutside : Knowledge → ℕ → Op → Type 0
StoresOutside known t (op.Stored place value) = durable_at known place ≡ true
    → (guard_of known.guards place ≡ None) × (depth_of known.world t ≡ 0)
StoresOutside known t o = Unit {0}

pub names-of : (o : Op) → NamesRightly o []
names-of op.Joined = tt
names-of o = refl

pub not-fenced : (o : Op) → is_persistent o ≡ false → is_fenced o ≡ false
not-fenced op.Fenced e = absurd (true≢false e)
not-fenced o e = refl

abbrev pub act_at : ℕ → ℕ → Op → Recorded
act_at t calls o = record { act = record { thread = t; at = calls; op = o }; named = [] }

module _ (set : SetFacts) (known : Knowledge) (Now : Wishes) (q : Option PlainRequest) (t calls : ℕ)
    (free : IsFree known t calls) where
  rule-of : (o : Op) → IsOutside o → is_persistent o ≡ false → IsAbout set known q t o
      → StoresOutside known t o → Rule set known Now q t [] o
  rule-of (op.Asked place value) is e about stores = absurd (true≢false e)
  rule-of op.Joined is e about stores = absurd (true≢false e)
  rule-of (op.Guarded place) is e about stores = absurd is
  rule-of op.Closing is e about stores = absurd is
  rule-of op.Fenced is e about stores = absurd (true≢false e)
  rule-of (op.Stored place value) is e about stores = record {
    is_about = about;
    no_race = λ durable. inl (stores durable).0;
    guarded = λ durable inside. absurd (inside (stores durable).1);
  }
  rule-of op.Begin is e about stores = absurd is
  rule-of op.End is e about stores = absurd is
  rule-of o is e about stores = about

  -- what a step does may come next
  pub step-comes : (o : Op) → IsOutside o → is_persistent o ≡ false → IsAbout set known q t o
      → StoresOutside known t o → IsClosed (next_known known (act_at t calls o))
      → MayAct set known Now q (act_at t calls o)
  step-comes o is e about stores closed = record {
    later = free.later;
    rule = rule-of o is e about stores;
    named = names-of o;
    fence = not-fenced o e ∙ sym free.owes;
    is_closed = closed;
  }
