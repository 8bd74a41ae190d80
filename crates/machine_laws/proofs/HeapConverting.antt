-- The steps of conversions, made or failed, their beginnings and seals.
use Rattle.std.proofs.Common.{◌≡◌, ◌≢◌, ◌⊎◌, inl, inr, ℕ, ◌+◌, ◌*◌, ◌<◌, ◌≤◌, true, false, List, [], ◌∷◌, ◌++◌, length, None}
use Rattle.std.proofs.Common.{refl, sym, ◌∙◌, ap, subst, arith, if◌then◌else◌}
use Rattle.std.specs.Prelude.{All, slice_set}
use Rattle.std.proofs.lemmas.Bool.{cases_Bool, eqb-true, false≢true}
use Rattle.std.proofs.lemmas.List.Elements.{All-cons, All-head, All-tail}
use Rattle.ap_base.specs.References.{reference_word}
use Rattle.ap_base.specs.declared.reference.Ref.TheVariants.{Null as NoRef, Persistent, Volatile}
use Rattle.run_types.specs.declared.key.Key.TheVariants.{Object, Class}
use Rattle.image_layout.specs.Places.{first_object_line}
use Rattle.line_memory.specs.Memory.{Memory, shown, IsTelling, SameImage}
use Rattle.monitors.specs.declared.monitor.Monitor.{Monitor}
use Rattle.monitors.specs.Held.{monitor_of, rekeyed}
use Rattle.monitors.specs.Keys.{RefKey, is_key}
use Rattle.twin_forms.specs.Table.{Entry, entry, Lies, Names}
use Rattle.twin_forms.specs.Moves.{SameHeap, forwarded}
use Rattle.twin_forms.specs.Sights.{Twin, view_of}
use Rattle.two_spaces.specs.Seen.{Spaces, shown_of}
use Rattle.two_spaces.specs.Whole.{Stands}
use Rattle.two_spaces.specs.Moving.{IsMove, ShowsSame, ShowsRekeyed, MovesKey, rekeyed_to}
use Rattle.two_spaces.proofs.Moved.{lines_behind, moves_key, shows}
use Rattle.two_spaces.proofs.Numbering.{named_number}
use Rattle.two_spaces.proofs.Rekeyed.{rekeyed_world}
use Rattle.convert_words.specs.declared.step.ConvertStep.{ConvertStep}
use Rattle.convert_words.specs.declared.step.ConvertStep.TheVariants as step
use Rattle.convert_words.specs.Converting.{Says, Calls, IsLineOf, ForwardsObject}
use Rattle.convert_words.specs.Scenes.{Scene, IsKey}
use Rattle.converter.specs.Stepping.{keys_of, key_words, Rekeys}
use Rattle.converter.proofs.Calling.{key_first, key_more}
use Rattle.machine_forms.specs.Machines.{Opening, Machine, scene_of}
use Rattle.machine_forms.specs.Keeping.{KeepsRun, KeepsHeap, KeepsWorld}
use Rattle.machine_forms.specs.Events.{ConvertsOn}
use Rattle.machine_laws.specs.HeapLaws.{KeepsShared}
use Rattle.machine_laws.proofs.HeapMoving.{moved_to, Arrives, heap_arrives, world_arrives}
use Rattle.machine_laws.proofs.HeapTables.{AreLow, is_set, step_current, step_free, step_low}
use Rattle.machine_laws.proofs.Worlds.{LeavesWorld, world_stays}

-- ---- a step is a move

-- what a move of the heap is told
pub record Steps (s : Spaces) (at : Twin) (twin : Twin) (es es' : List Entry) : Type 0 where
  pub from : at ≡ s.twin
  pub shows : SameHeap (view_of at) es (view_of twin) es'
  pub lies : Lies (view_of twin) es'
  pub kinds : twin.marks.kinds ≡ at.marks.kinds
  pub left : twin.space.left ≡ at.space.left
  pub spares : (l w : ℕ) → l < 33 → shown twin.memory l w ≡ shown at.memory l w
  pub low : AreLow es'

pub moves : (s : Spaces) (at twin : Twin) (es es' : List Entry) → Stands s es → Steps s at twin es es'
    → IsMove s twin es es'
moves s at twin es es' h m = record {
  stands = h;
  moved = record {
    lies = m.lies;
    same = subst (λ (x : Twin). SameHeap (view_of x) es (view_of twin) es') m.from m.shows;
  };
  kinds = m.kinds ∙ ap (λ (x : Twin). x.marks.kinds) m.from;
  left = m.left ∙ ap (λ (x : Twin). x.space.left) m.from;
  spares = lines_behind s.twin twin
      (λ l w lt. m.spares l w lt ∙ ap (λ (x : Twin). shown x.memory l w) m.from);
  behind = λ n ln placed. let low = m.low n ln placed in omega (arith, low);
}

-- ---- counts and keys once a monitor has another

few_rekeyed : (n : ℕ) (ms : List Monitor) (from to : RefKey) → All (λ (m : Monitor). m.count ≤ n) ms
    → All (λ (m : Monitor). m.count ≤ n) (rekeyed ms from to)
few_rekeyed n [] from to few = few
few_rekeyed n (m ∷ ms) from to few =
    let Few : Monitor → Type 0 = λ (x : Monitor). x.count ≤ n in
    let own = All-head Few m ms few in
    let rest = All-tail Few m ms few in
    elim (is_key m.key from) as
    (λ b. All Few (if b then record m { key = to } ∷ ms else m ∷ rekeyed ms from to)) [
      | true ↦ All-cons Few (record m { key = to }) ms own rest
      | false ↦ All-cons Few m (rekeyed ms from to) own (few_rekeyed n ms from to rest)
    ]

key_later : (k : RefKey) (ks : List ℕ) (w : ℕ) → IsKey ks w → IsKey (key_words k ++ ks) w
key_later (Object r) ks w x = key_more (reference_word r) ks w x
key_later (Class n) ks w x = x

key_own : (k : RefKey) (ks : List ℕ) (at : ℕ) → k ≡ Object (Volatile at)
    → IsKey (key_words k ++ ks) (2 * at + 1)
key_own k ks at is =
    subst (λ (x : RefKey). IsKey (key_words x ++ ks) (2 * at + 1)) (sym is) (key_first (2 * at + 1) ks)

same_key : (k : RefKey) (at : ℕ) → is_key k (Object (Volatile at)) ≡ true → k ≡ Object (Volatile at)
same_key (Object NoRef) at e = absurd (false≢true e)
same_key (Object (Persistent n)) at e = absurd (false≢true e)
same_key (Object (Volatile n)) at e = ap (λ x. Object (Volatile x)) (eqb-true n at e)
same_key (Class n) at e = absurd (false≢true e)

-- an object whose word is no key has no monitor
unheld : (ms : List Monitor) (at : ℕ) → ((w : ℕ) → IsKey (keys_of ms) w → w ≢ 2 * at + 1)
    → monitor_of ms (Object (Volatile at)) ≡ None
unheld [] at none = refl
unheld (m ∷ ms) at none = elim (cases_Bool (is_key m.key (Object (Volatile at)))) [
  | inl e ↦ absurd (none (2 * at + 1)
      (key_own m.key (keys_of ms) at (same_key m.key at e)) refl)
  | inr e ↦ rw e (unheld ms at (λ w k. none w (key_later m.key (keys_of ms) w k)))
]

-- ---- monitors stay

rekeys_none : (answer : ConvertStep) (t : ℕ) (s : Scene) (es : List Entry) (ms ms' : List Monitor)
    → (answer ≡ step.Forwarded → ⊥) → Rekeys answer t s es ms ms' → ms' ≡ ms
rekeys_none step.Claimed t s es ms ms' other is = is
rekeys_none step.CopiedLine t s es ms ms' other is = is
rekeys_none step.Forwarded t s es ms ms' other is = absurd (other refl)
rekeys_none step.Repaired t s es ms ms' other is = is
rekeys_none step.WroteBack t s es ms ms' other is = is
rekeys_none step.Fenced t s es ms ms' other is = is
rekeys_none step.Touched t s es ms ms' other is = is
rekeys_none (step.Sealed set) t s es ms ms' other is = is
rekeys_none (step.Wait u) t s es ms ms' other is = is
rekeys_none (step.Full need left) t s es ms ms' other is = is

-- ---- the image tells still

same_telling : (old new : Memory) → SameImage old new → IsTelling old.image.trace → IsTelling new.image.trace
same_telling old new same told = subst (λ image. IsTelling image.trace) (sym same.image) told

step_tells : (answer : ConvertStep) (t : ℕ) (s s' : Scene) (es es' : List Entry)
    → Calls answer s.heap.memory s'.heap.memory → Says answer t s s' es es'
    → IsTelling s.heap.memory.image.trace → IsTelling s'.heap.memory.image.trace
step_tells step.Touched t s s' es es' calls says told = says.0.keeps.telling told
step_tells step.WroteBack t s s' es es' calls says told = says.0.keeps.telling told
step_tells step.Fenced t s s' es es' calls says told = says.0.keeps.telling told
step_tells step.Claimed t s s' es es' calls says told = same_telling s.heap.memory s'.heap.memory calls told
step_tells step.CopiedLine t s s' es es' calls says told = same_telling s.heap.memory s'.heap.memory calls
    told
step_tells step.Forwarded t s s' es es' calls says told = same_telling s.heap.memory s'.heap.memory calls told
step_tells step.Repaired t s s' es es' calls says told = same_telling s.heap.memory s'.heap.memory calls told
step_tells (step.Sealed set) t s s' es es' calls says told =
    same_telling s.heap.memory s'.heap.memory calls told
step_tells (step.Wait u) t s s' es es' calls says told = same_telling s.heap.memory s'.heap.memory calls told
step_tells (step.Full need left) t s s' es es' calls says told =
    same_telling s.heap.memory s'.heap.memory calls told

-- a step is a forward, or no step that changes keys
is_forward : (answer : ConvertStep) → (answer ≡ step.Forwarded) ⊎ (answer ≡ step.Forwarded → ⊥)
is_forward step.Forwarded = inl refl
is_forward step.Claimed = inr (λ e. cc)
is_forward step.CopiedLine = inr (λ e. cc)
is_forward step.Repaired = inr (λ e. cc)
is_forward step.WroteBack = inr (λ e. cc)
is_forward step.Fenced = inr (λ e. cc)
is_forward step.Touched = inr (λ e. cc)
is_forward (step.Sealed set) = inr (λ e. cc)
is_forward (step.Wait u) = inr (λ e. cc)
is_forward (step.Full need left) = inr (λ e. cc)

-- ---- a step

module _ (o : Opening) (m m' : Machine) (es : List Entry) (run : KeepsRun o m es) (t : ℕ)
    (answer : ConvertStep)
    (c : ConvertsOn t answer m m' es) where
  abbrev at : Scene
  at = c.event.at

  abbrev after : List Entry
  after = c.event.after

  abbrev twin : Twin
  twin = m'.spaces.twin

  abbrev gone : Machine
  gone = moved_to m twin m'.queue m'.free m'.rest.monitors

  from : at.heap ≡ m.spaces.twin
  from = c.event.goes_on.heap

  lies_at : Lies (view_of at.heap) es
  lies_at = c.event.goes_on.agrees.lies

  lies_now : Lies (view_of twin) after
  lies_now = c.event.converts.agrees.lies

  left_at : first_object_line ≤ at.free
  left_at = subst (λ f. first_object_line ≤ f) (sym c.event.goes_on.free) run.heap.behind

  low_now : AreLow after
  low_now = step_low t at (scene_of m') es after lies_at lies_now answer c.event.converts.says left_at
      run.heap.low

  -- no line of a copy is one of superblock or root slots
  beneath : (l : ℕ) → l < 33 → IsLineOf es t l → ⊥
  beneath l lt x =
      let low = run.heap.low x.n x.claimed.0 x.placed in let at_least = x.from in omega
      (arith, lt, low, at_least)

  inside : (l : ℕ) → l < 33 → l < at.heap.memory.size
  inside l lt =
      let same : at.heap.memory.size ≡ m.spaces.twin.memory.size = ap (λ (x : Twin). x.memory.size) from in
      let size = run.heap.size in
      let long = run.heap.long in
      omega (arith, lt, same, size, long)

  pub move : IsMove m.spaces twin es after
  move = moves m.spaces at.heap twin es after run.heap.whole (record {
    from = from;
    shows = c.event.converts.shows;
    lies = lies_now;
    kinds = c.event.converts.kinds;
    left = c.event.converts.left;
    spares = λ l w lt. c.event.converts.others l w (inside l lt) (beneath l lt);
    low = low_now;
  })

  tells_at : IsTelling m.spaces.twin.memory.image.trace → IsTelling at.heap.memory.image.trace
  tells_at told = subst (λ (x : Twin). IsTelling x.memory.image.trace) (sym from) told

  arrives : Arrives o gone after
  arrives = record {
    agrees = c.event.converts.agrees;
    sound = c.sound.sound;
    low = low_now;
    behind = step_free t at (scene_of m') es after lies_at lies_now answer c.event.converts.says left_at;
    within = c.sound.within;
    size = c.event.converts.size ∙ ap (λ (x : Twin). x.memory.size) from ∙ run.heap.size;
    known = c.sound.known;
    telling = λ told. step_tells answer t at
        (scene_of m') es after c.event.converts.calls c.event.converts.says
        (tells_at (run.heap.telling told));
  }

  heap_now : KeepsHeap o gone after
  heap_now = heap_arrives o m es after twin m'.queue m'.free m'.rest.monitors run.heap move arrives

  -- where no key changes
  world_other : (answer ≡ step.Forwarded → ⊥) → KeepsWorld o gone
  world_other other =
      subst (λ ms. KeepsWorld o (moved_to m twin m'.queue m'.free ms))
      (sym (rekeys_none answer t at es m.rest.monitors m'.rest.monitors other c.event.monitors))
      (world_arrives o m es after twin m'.queue m'.free run.world move
      (step_current t at (scene_of m') es after lies_at lies_now answer other c.event.converts.says))

  abbrev before : Spaces
  before = m.spaces

  abbrev spaces : Spaces
  spaces = record m.spaces { twin = twin }

  -- a forward
  module _ (f : ForwardsObject at (scene_of m') es after t)
      (rekeys : Rekeys step.Forwarded t at es m.rest.monitors m'.rest.monitors) where
    abbrev e : Entry
    e = entry es f.n

    table : after ≡ slice_set es f.n (forwarded e)
    table = is_set es after f.n (forwarded e) f.becomes f.is.claimed.0

    key_moves : MovesKey (shown_of before) (shown_of spaces) f.n e.at e.line
    key_moves =
        moves_key before twin es f.n f.is.claimed.0 f.young
        (subst (λ (x : List Entry). IsMove before twin es x) table move)

    same_shown : ShowsSame (shown_of before) (shown_of spaces)
    same_shown = shows before twin es after move

    names_old : Names e (2 * e.at + 1)
    names_old = let young = f.young in inl (omega (arith, young), refl)

    monitors_are : m'.rest.monitors ≡ (rekeyed_to m.rest e.at e.line).monitors
    monitors_are = rekeys f.n f.is

    no_old_key : (w : ℕ) → IsKey (keys_of m'.rest.monitors) w → w ≢ 2 * e.at + 1
    no_old_key w key = elim (f.keys w key) [
      | inl old ↦ old.1
      | inr new ↦ λ same. absurd (omega (arith, new, same))
    ]

    rekeyed_now : ShowsRekeyed (shown_of before) (shown_of spaces) m.rest (rekeyed_to m.rest e.at e.line)
    rekeyed_now =
        rekeyed_world (shown_of before) (shown_of spaces) m.rest f.n e.at e.line same_shown key_moves
        (named_number (view_of m.spaces.twin) es f.n
        (Volatile e.at) run.heap.whole.lies f.is.claimed.0 names_old)
        run.world.monitors
        (subst (λ ms. monitor_of ms (Object (Volatile e.at)) ≡ None) monitors_are
        (unheld m'.rest.monitors e.at no_old_key))

    abbrev forward : Machine
    forward = moved_to m twin m'.queue m'.free (rekeyed_to m.rest e.at e.line).monitors

    leaves : LeavesWorld o m forward
    leaves = record {
      same = same_shown;
      known = refl;
      world = rekeyed_now.world;
      monitors = rekeyed_now.monitors;
      classes = refl;
      counts = record {
        monitors = few_rekeyed (length m.acts) m.rest.monitors (Object (Volatile e.at))
            (Object (Persistent e.line))
            run.world.counts.monitors;
        threads = run.world.counts.threads;
      };
      statics = refl;
    }

    world_forward : KeepsWorld o gone
    world_forward =
        subst (λ ms. KeepsWorld o (moved_to m twin m'.queue m'.free ms)) (sym monitors_are)
        (world_stays o m forward run.world leaves)

  world_now : KeepsWorld o gone
  world_now = elim (is_forward answer) [
    | inl is ↦ world_forward
        (subst (λ a. Says a t at (scene_of m') es after) is c.event.converts.says).0
        (subst (λ a. Rekeys a t at es m.rest.monitors m'.rest.monitors) is c.event.monitors)
    | inr other ↦ world_other other
  ]

  pub shared_step : KeepsShared o m' after
  shared_step = subst (λ (x : Machine). KeepsShared o x after) (sym c.same) (heap_now, world_now)
