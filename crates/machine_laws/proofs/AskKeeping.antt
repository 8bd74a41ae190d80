-- What a machine keeps of what was asked, where other things change.
use Rattle.std.proofs.Common.{◌≡◌, ◌⊎◌, inl, inr, ℕ, ◌<◌, ◌≤◌, ◌^◌, Bool, true, false, List, [], ◌∷◌, ◌++◌, length, Some, None}
use Rattle.std.proofs.Common.{refl, sym, ◌∙◌, ap, subst, arith, if◌then◌else◌}
use Rattle.std.proofs.lemmas.Bool.{false≢true}
use Rattle.std.proofs.lemmas.Grind.{common_steps}
use Rattle.ap_base.specs.Causes.{next_count}
use Rattle.ap_base.specs.declared.place.Place.{Place}
use Rattle.ap_base.specs.declared.place.Place.TheVariants.{Static, Slot}
use Rattle.graph_model.specs.declared.types.Root.{Root}
use Rattle.graph_model.specs.Heaps.{has_number}
use Rattle.image_layout.specs.Places.{slot_line, object_line}
use Rattle.line_memory.specs.Memory.{Memory, SameImage, OneCall}
use Rattle.run_history.specs.Recorded.{Recorded}
use Rattle.run_history.specs.Knowing.{Knowledge, Pending, pending_of, unfenced_at, durable_at, next_known, known_after}
use Rattle.plain_model.proofs.Appended.{known_after-append}
use Rattle.stop_theorem.specs.Layouts.{Layout, root_number}
use Rattle.stop_theorem.specs.InvariantEvents.{line_at}
use Rattle.twin_forms.specs.Table.{Entry, entry, IsClaimed, InP}
use Rattle.convert_queue.specs.Queues.{Queues, Queued, queue_in}
use Rattle.convert_words.specs.Agreeing.{Is, item_in}
use Rattle.machine_forms.specs.declared.doing.Doing.{Doing}
use Rattle.machine_forms.specs.declared.doing.Doing.TheVariants.{Nothing, Converting, Writing, Fencing}
use Rattle.machine_forms.specs.Machines.{Opening, Machine, first_of, known_in, layout_in, is_durable}
use Rattle.machine_forms.specs.Keeping.{IsDoing, QueuesFirst, KeepsRun}
use Rattle.machine_forms.proofs.Layouts.{layouts}
use Rattle.machine_laws.proofs.Acts.{AreDurable, owes_same, unfenced-durable}
use Rattle.machine_laws.proofs.Lists.{not-true}

-- ---- counts

pub few-calls : (old new : Memory) → SameImage old new ⊎ OneCall old new → old.calls < 2 ^ 64
    → new.calls < 2 ^ 64
few-calls old new (inl same) few = let e = same.calls in omega (arith, e, few)
few-calls old new (inr one) few =
    subst (λ n. n < 2 ^ 64) (sym one.calls) (below old.calls)
  where
    below : (n : ℕ) → next_count n < 2 ^ 64
    below n = grind (arith, common_steps)

pub later-calls : (old new : Memory) → SameImage old new ⊎ OneCall old new → old.calls < 2 ^ 64
    → old.calls ≤ new.calls
later-calls old new (inl same) few = let e = same.calls in omega (arith, e)
later-calls old new (inr one) few =
    subst (λ n. old.calls ≤ n) (sym one.calls) (above old.calls few)
  where
    above : (n : ℕ) → n < 2 ^ 64 → n ≤ next_count n
    above n lt = grind (arith, common_steps)

-- ---- what threads are about

-- the line of a durable place
pub line-same : (known next : Knowledge) (lay lay' : Layout) (p : Place) → durable_at known p ≡ true
    → next.world.heap.roots ≡ known.world.heap.roots
    → ((n : ℕ) → has_number known.durable n ≡ true → lay'.line_of n ≡ lay.line_of n)
    → line_at lay' next p ≡ line_at lay known p
line-same known next lay lay' (Static f) is roots lines = ap
    (λ (rs : List Root). slot_line (root_number rs f)) roots
line-same known next lay lay' (Slot n i) is roots lines = ap (λ line. object_line line i) (lines n is)

-- Whatever is done elsewhere, the thread is about what it was about.
pub record LeavesThread (known next : Knowledge) (lay lay' : Layout) (u : ℕ) : Type 0 where
  pub durable : AreDurable known
  pub roots : next.world.heap.roots ≡ known.world.heap.roots
  pub lines : (n : ℕ) → has_number known.durable n ≡ true → lay'.line_of n ≡ lay.line_of n
  pub size : lay'.size ≡ lay.size
  pub pending : pending_of next.asked u ≡ pending_of known.asked u
  pub unfenced : unfenced_at next.unfenced u ≡ unfenced_at known.unfenced u

pub doing-kept : (known next : Knowledge) (lay lay' : Layout) (u : ℕ) (d : Doing)
    → LeavesThread known next lay lay' u → IsDoing known lay u d → IsDoing next lay' u d
doing-kept known next lay lay' u Nothing leaves is =
    (leaves.pending ∙ is.0, owes_same next.unfenced known.unfenced u leaves.unfenced ∙ is.1)
doing-kept known next lay lay' u Converting leaves is =
    ((is.0.0, leaves.pending ∙ is.0.1), owes_same next.unfenced known.unfenced u leaves.unfenced ∙ is.1)
doing-kept known next lay lay' u (Writing line) leaves is = (
  leaves.pending ∙ is.0,
  (
    is.1.0,
    leaves.unfenced ∙ is.1.1,
    is.1.2 ∙ sym (line-same known next lay lay' is.1.0 (leaves.durable u is.1.0 is.1.1) leaves.roots
        leaves.lines),
  ),
  subst (λ size. line < size) (sym leaves.size) is.2,
)
doing-kept known next lay lay' u Fencing leaves is =
    (leaves.pending ∙ is.0, (is.1.0, leaves.unfenced ∙ is.1.1))

choose : (b : Bool) (x y : ℕ) → b ≡ true → (if b then x else y) ≡ x
choose true x y e = refl
choose false x y e = absurd (false≢true e)

-- a durable object's line in the layout of a table
pub line-in : (o : Opening) (es : List Entry) (n : ℕ) → InP es n → (layout_in o es).line_of n
    ≡ (entry es n).line
line-in o es n p = choose (is_durable (entry es n)) (entry es n).line 0 ((layouts.durable es n).1 p)

-- ---- queues

pub is-queues : (q q' : Queues) (es : List Entry) (u i n : ℕ) → q'.queues ≡ q.queues → Is q es u i n
    → Is q' es u i n
is-queues q q' es u i n same is = record {
  within = subst (λ (qs : List (List Queued)). i < length (queue_in qs u)) (sym same) is.within;
  claimed = is.claimed;
  placed = is.placed;
  object = ap (λ (qs : List (List Queued)). (item_in qs u i).0) same ∙ is.object;
  line = ap (λ (qs : List (List Queued)). (item_in qs u i).1) same ∙ is.line;
}

pub first-kept : (known next : Knowledge) (m m' : Machine) (es es' : List Entry) (u : ℕ)
    → pending_of next.asked u ≡ pending_of known.asked u
    → ((n : ℕ) → Is m.queue es u 0 n → Is m'.queue es' u 0 n) → QueuesFirst known m es u
    → QueuesFirst next m' es' u
first-kept known next m m' es es' u pending is first = record {
  pending = first.pending;
  is_pending = pending ∙ first.is_pending;
  object = first.object;
  value = first.value;
  first = is first.object first.first;
}

-- ---- one machine

module _ (o : Opening) (m : Machine) (es : List Entry) (k : KeepsRun o m es) where
  -- what isn't fenced is durable
  pub are-durable : AreDurable (known_in o m)
  are-durable = unfenced-durable (first_of o) m.acts (λ u p is. absurd (let no = is in cc))

  pub known-with : (m' : Machine) (a : Recorded) → m'.acts ≡ m.acts ++ a ∷ []
      → known_in o m' ≡ next_known (known_in o m) a
  known-with m' a acts = ap (known_after (first_of o)) acts ∙ known_after-append (first_of o) m.acts (a ∷ [])

  pub durable-in : (n : ℕ) → has_number (known_in o m).durable n ≡ true → InP es n
  durable-in n is = (k.asked.durable n).0 is

  pub in-durable : (n : ℕ) → InP es n → has_number (known_in o m).durable n ≡ true
  in-durable n p = (k.asked.durable n).1 p

  pub not-durable : (n : ℕ) → (InP es n → ⊥) → has_number (known_in o m).durable n ≡ false
  not-durable n outside = not-true (has_number (known_in o m).durable n) (λ is. outside (durable-in n is))

  -- a claimed object isn't durable
  pub claimed-outside : (u n : ℕ) → IsClaimed es u n → InP es n → ⊥
  claimed-outside u n c p = let a = c.1 in let b = p.2 in omega (arith, a, b)

  -- a thread that has asked nothing has queued and claimed nothing
  pub none-queued : (u i n : ℕ) → pending_of (known_in o m).asked u ≡ None → Is m.queue es u i n → ⊥
  none-queued u i n none is =
      let first = k.asked.queued u i n is in
      let no : None ≡ Some first.pending = sym none ∙ first.is_pending in cc

  pub none-claimed : (u : ℕ) → ((i n : ℕ) → Is m.queue es u i n → ⊥) → (n : ℕ) → IsClaimed es u n → ⊥
  none-claimed u empty n c = let there = k.heap.agrees.queued.all u n c in empty there.0 n there.1

  -- a thread that has claimed an object has asked
  pub claimed-pending : (u n : ℕ) → IsClaimed es u n
      → (p : Pending) × (pending_of (known_in o m).asked u ≡ Some p)
  claimed-pending u n c =
      let there = k.heap.agrees.queued.all u n c in
      let first = k.asked.queued u there.0 n there.1 in (first.pending, first.is_pending)
