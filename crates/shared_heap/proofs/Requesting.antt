-- What steps of requests, stores and what is asked before them make of a shared heap.
use Rattle.std.proofs.Common.{◌≡◌, ℕ, ◌≤◌, List, [], ◌∷◌, ◌++◌, length, map, Option, None, Some, refl, sym, ◌∙◌, ap, subst}
use Rattle.std.specs.Prelude.{slice_get, slice_set}
use Rattle.ap_base.specs.declared.reference.Ref.{Ref}
use Rattle.ap_base.specs.declared.reference.Item.{Item}
use Rattle.monitors.specs.Indexed.{AreSound}
use Rattle.line_memory.specs.Memory.{Memory}
use Rattle.natives.specs.declared.requests.Request.{Request}
use Rattle.natives.specs.declared.requests.Request.TheVariants as ask
use Rattle.natives.specs.declared.requests.Reply.{Reply}
use Rattle.run_history.specs.declared.act.Op.{Op}
use Rattle.run_history.specs.declared.act.Act.{Act}
use Rattle.run_history.specs.declared.act.Op.TheVariants as op
use Rattle.run_history.specs.Recorded.{History, Recorded, acts_of, names_for}
use Rattle.plain_model.specs.Facts.{SetFacts}
use Rattle.shared_objects.specs.declared.rest.Rest.{Rest}
use Rattle.shared_objects.specs.Shown.{item_value}
use Rattle.shared_objects.specs.Worlds.{KnowsMonitors}
use Rattle.step_forms.specs.declared.stepped.Stepped.{Stepped}
use Rattle.step_forms.specs.declared.stepped.Stepped.TheVariants as stepped
use Rattle.step_forms.specs.Becomes.{Becomes, given}
use Rattle.step_forms.specs.Follows.{Agrees, HeapGoes, IsStep, stored_as}
use Rattle.step_forms.specs.Needs.{IsAskable, ItemIsHere}
use Rattle.step_forms.proofs.Going.{same_goes}
use Rattle.object_steps.specs.declared.storing.Store.{Store}
use Rattle.object_steps.specs.Stores.{place_of, stored_by}
use Rattle.twin_forms.specs.Sights.{view_of}
use Rattle.twin_forms.specs.Table.{Entry}
use Rattle.two_spaces.specs.declared.spaces.TwoSpaces.{TwoSpaces}
use Rattle.two_spaces.specs.Laws.{one_key_each}
use Rattle.two_spaces.specs.Seen.{Spaces, shown_of}
use Rattle.two_spaces.specs.Whole.{IsHereIn, IsStaticHereIn, IsWhole, MakesIn, Stands, StoresIn}
use Rattle.convert_queue.specs.Queues.{Queues}
use Rattle.store_barrier.specs.Passed.{Doing}
use Rattle.store_barrier.specs.Passed.{Machine, memory_of, shown_in}
use Rattle.store_barrier.specs.Passed.{NotesStore, act_in}
use Rattle.store_barrier.specs.Barriers.{IsDurablePlace, spaces_of}
use Rattle.shared_heap.specs.Notes.{ThreadNotes}
use Rattle.shared_heap.specs.Shared.{Shared}
use Rattle.shared_heap.specs.Requests.{IsPlannedFor, MayRequest, StepsTo, StoresTo, doing_stored, noted_act, noted_by, noted_of, noted_start, told_at, told_by}
use Rattle.shared_heap.specs.Requests.{value_stored}
use Rattle.shared_heap.proofs.Here.{is_askable, value_here}
use Rattle.shared_heap.proofs.Sounding.{stays_sound}
use Rattle.shared_heap.proofs.Storing.{names_nothing, stores_so}

-- ---- heaps

-- what becomes of a heap in code, of the heap as clauses see it
pub becomes_of : {I : Type 0} (before now : TwoSpaces I) (result : Stepped)
    → Becomes (λ (s : TwoSpaces I). shown_of (spaces_of s))
    (λ s p item s'. StoresIn (spaces_of s) p item (spaces_of s')) (λ s s'. MakesIn (spaces_of s)
    (spaces_of s'))
    before result now
    → Becomes shown_of StoresIn MakesIn (spaces_of before) result (spaces_of now)
becomes_of before now (stepped.Did (op.Stored place value) r) b = b
becomes_of before now (stepped.Did (op.Alloc n shape count) r) b = b
becomes_of before now (stepped.Did (op.Throw n class) r) b = b
becomes_of before now result b = ap spaces_of b

pub same_spaces : {I : Type 0} (before now : TwoSpaces I) → now ≡ before → spaces_of now ≡ spaces_of before
same_spaces before now same = ap spaces_of same

-- ---- from the value that a call began with

pub asks_from : (set : SetFacts) (old now : Shared) (t : ℕ) (request : Request Ref Item) → old ≡ now
    → IsWhole now.machine.spaces → 33 ≤ (memory_of now.machine).size
    → Agrees set (shown_in now.machine) now.machine.rest → MayRequest set now.machine t request
    → IsAskable set (IsHereIn old.machine.spaces) (IsStaticHereIn old.machine.spaces) (shown_in old.machine)
    old.machine.rest t request
asks_from set old now t request e whole long agrees may = subst (λ (s : Shared). IsAskable set
    (IsHereIn s.machine.spaces) (IsStaticHereIn s.machine.spaces)
    (shown_in s.machine) s.machine.rest t request)
    (sym e) (is_askable set now.machine t request whole long agrees may)

-- ---- steps

-- What a step leaves, before what it did is seen as a machine's.
pub record Stepping (set : SetFacts) (t : ℕ) (request : Request Ref Item) (result : Stepped) (old : Shared)
    (spaces : Spaces) (rest : Rest) (h : History) (notes : ThreadNotes) : Type 0 where
  pub agrees : Agrees set (shown_in old.machine) old.machine.rest
  pub sound : AreSound old.machine.rest.monitors
  pub step : IsStep set t request (shown_in old.machine) old.machine.rest result (shown_of spaces) rest
  pub heap : Becomes shown_of StoresIn MakesIn old.machine.spaces result spaces
  pub told : h ≡ told_by t (memory_of old.machine) old.history result
  pub noted : notes ≡ noted_by request result old.notes

abbrev pub stepped_in : Shared → Spaces → Rest → History → ThreadNotes → Shared
stepped_in old spaces rest h notes = record old {
  machine = record old.machine { acts = h.acts; spaces = spaces; rest = rest };
  history = h;
  notes = notes;
}

pub steps_to : (set : SetFacts) (t : ℕ) (request : Request Ref Item) (result : Stepped) (old now : Shared)
    (spaces : Spaces) (rest : Rest) (h : History) (notes : ThreadNotes) → old ≡ now
    → Stepping set t request result old spaces rest h notes
    → StepsTo set t request result now (stepped_in old spaces rest h notes)
steps_to set t request result old now spaces rest h notes e x =
    subst (λ (s : Shared). StepsTo set t request result s (stepped_in old spaces rest h notes)) e record {
      step = x.step;
      heap = x.heap;
      sound = stays_sound set t request (shown_in old.machine) old.machine.rest result (shown_of spaces) rest
          (let s = old.machine.spaces in one_key_each s.shapes s.classes s.statics (view_of s.twin))
          x.agrees.monitors x.sound x.step;
      history = x.told;
      machine = refl;
      lines = refl;
      notes = x.noted;
    }

-- A request that stores starts no thread, so that nothing is noted.
pub stores_note_nothing : (request : Request Ref Item) (result : Stepped) (notes : ThreadNotes)
    → (given request ≡ None → ⊥) → notes ≡ noted_by request result notes
stores_note_nothing (ask.Start from thread) result notes stores = absurd (stores refl)
stores_note_nothing request result notes stores = refl

-- The act of a step stands behind all others, and names nothing.
pub acts_added : (set : SetFacts) (t : ℕ) (request : Request Ref Item) (old new : Shared) (o : Op)
    (r : Reply Ref Item) → old.machine.acts ≡ old.history.acts
    → StepsTo set t request (stepped.Did o r) old new
    → new.machine.acts ≡ old.machine.acts ++ act_in old.machine t o [] ∷ []
acts_added set t request old new o r acts x =
    ap (λ (m : Machine). m.acts) x.machine ∙ ap (λ (h : History). h.acts) x.history
    ∙ ap (λ (named : List ℕ). old.history.acts ++ record { act = act; named = named } ∷ [])
    (names_nothing set t request (shown_in old.machine) old.machine.rest o r (shown_in new.machine)
    new.machine.rest x.step old.history.named)
    ∙ ap (λ (a : List Recorded). a ++ record { act = act; named = [] } ∷ []) (sym acts)
  where
    act : Act
    act = record { thread = t; at = (memory_of old.machine).calls; op = o }

-- how a step is told after so many calls
pub told_after : (t calls : ℕ) (memory : Memory) (before h : History) (result : Stepped)
    → calls ≡ memory.calls
    → h ≡ told_at t calls before result → h ≡ told_by t memory before result
told_after t calls memory before h result is told = told ∙ ap (λ n. told_at t n before result) is

-- ---- what is noted

-- the act behind all others
act-behind : (acts : List Recorded) (a : Recorded)
    → slice_get (map (λ (r : Recorded). r.act) (acts ++ a ∷ [])) (length acts) ≡ Some a.act
act-behind [] a = refl
act-behind (first ∷ acts) a = act-behind acts a

none-behind : (acts : List Recorded) → slice_get (map (λ (r : Recorded). r.act) acts) (length acts) ≡ None
none-behind [] = refl
none-behind (first ∷ acts) = none-behind acts

-- Of a step that did something the act behind those before is its own; of any other there is none.
start-by-act : (thread : Ref) (result : Stepped) (t calls : ℕ) (h : History) (notes : ThreadNotes)
    → noted_act thread (slice_get (acts_of (told_at t calls h result)) (length h.acts)) notes ≡ noted_start thread result notes
start-by-act thread (stepped.Did o r) t calls h notes = ap (λ (a : Option Act). noted_act thread a notes)
    (act-behind h.acts record {
      act = record { thread = t; at = calls; op = o };
      named = names_for o h.named;
    })
start-by-act thread (stepped.Waits on) t calls h notes =
    ap (λ (a : Option Act). noted_act thread a notes) (none-behind h.acts)
start-by-act thread stepped.Wrong t calls h notes =
    ap (λ (a : Option Act). noted_act thread a notes) (none-behind h.acts)
start-by-act thread (stepped.Over f) t calls h notes =
    ap (λ (a : Option Act). noted_act thread a notes) (none-behind h.acts)

pub noted-by-act : (request : Request Ref Item) (result : Stepped) (t calls before : ℕ) (h now : History)
    (notes after : ThreadNotes) → now ≡ told_at t calls h result → before ≡ length h.acts
    → after ≡ noted_of request (slice_get (acts_of now) before) notes → after ≡ noted_by request result notes
noted-by-act (ask.Start from thread) result t calls before h now notes after told counted noted =
    noted ∙ ap (λ (n : ℕ). noted_act thread (slice_get (acts_of now) n) notes) counted
    ∙ ap (λ (y : History). noted_act thread (slice_get (acts_of y) (length h.acts)) notes) told
    ∙ start-by-act thread result t calls h notes
noted-by-act request result t calls before h now notes after told counted noted = noted

pub same_request : (a b : Request Ref Item) → ◌≡◌ {A = Option (Request Ref Item)} (Some a) (Some b) → a ≡ b
same_request a b is = cc

-- ---- plans

-- nothing has changed
pub unchanged : (old now : Shared) (spaces : Spaces) (rest : Rest) → old ≡ now → spaces ≡ old.machine.spaces
    → rest ≡ old.machine.rest
    → record old { machine = record old.machine { spaces = spaces; rest = rest } } ≡ now
unchanged old now spaces rest e same_spaces same_rest =
    ap (λ (s : Spaces). record old { machine = record old.machine { spaces = s; rest = rest } }) same_spaces
    ∙ ap (λ (r : Rest). record old { machine = record old.machine { rest = r } }) same_rest ∙ e

pub planned_for : (set : SetFacts) (t : ℕ) (request : Request Ref Item) (store : Store) (old now : Shared)
    → old ≡ now → IsPlannedFor set t request store old → IsPlannedFor set t request store now
planned_for set t request store old now e x = subst (λ (s : Shared). IsPlannedFor set t request store s) e x

-- ---- what is asked

pub item_here : (old now : Shared) (item : Item) → old ≡ now → IsWhole now.machine.spaces
    → ItemIsHere (IsHereIn old.machine.spaces) (shown_in old.machine) item
item_here old now item e whole =
    subst (λ (s : Shared). ItemIsHere (IsHereIn s.machine.spaces) (shown_in s.machine) item) (sym e)
    (λ n is. value_here now.machine.spaces whole.0 whole.1 (item_value
    (shown_in now.machine).number item) n is)

-- ---- stores

abbrev pub stored_in : Shared → ℕ → Doing → Spaces → Queues → History → Shared
stored_in old n doing spaces queue h = record old {
  machine = record old.machine {
    acts = h.acts;
    spaces = spaces;
    queue = queue;
    doing = slice_set old.machine.doing n doing;
  };
  history = h;
}

-- What a store leaves, as the barrier tells it.
pub record Storing (t n k : ℕ) (store : Store) (line : Option ℕ) (result : Stepped) (old : Shared) (d : Doing)
    (spaces : Spaces) (q : Queues) (h : History) : Type 0 where
  pub monitors : KnowsMonitors (shown_in old.machine) old.machine.rest
  pub number : n ≡ t
  pub calls : k ≡ (memory_of old.machine).calls
  pub doing : d ≡ doing_stored line
  pub step : HeapGoes (λ world. stored_as (place_of store.target) (value_stored old store))
      (shown_in old.machine)
      result (shown_of spaces)
  pub did : result ≡ stored_by (place_of store.target) (value_stored old store)
  pub heap : StoresIn old.machine.spaces (place_of store.target) store.kept spaces
  pub notes : (es : List Entry) → Stands old.machine.spaces es
      → NotesStore es (op.Stored (place_of store.target) (value_stored old store)) old.machine.queue q
  pub durable : (es : List Entry) → Stands old.machine.spaces es
      → IsDurablePlace old.machine.spaces es (place_of store.target) → q ≡ old.machine.queue
  pub told : h ≡ told_at t k old.history result

-- the step of each request that asks it
store_step : (set : SetFacts) (t : ℕ) (request : Request Ref Item) (store : Store) (old : Shared)
    (result : Stepped)
    (spaces : Spaces) → KnowsMonitors (shown_in old.machine) old.machine.rest
    → HeapGoes (λ world. stored_as (place_of store.target) (value_stored old store)) (shown_in old.machine)
    result (shown_of spaces)
    → result ≡ stored_by (place_of store.target) (value_stored old store)
    → IsPlannedFor set t request store old
    → IsStep set t request (shown_in old.machine) old.machine.rest
    (stored_by (place_of store.target) (value_stored old store)) (shown_of spaces) old.machine.rest
store_step set t request store old result spaces known goes did planned =
    subst (λ (r : Stepped). IsStep set t request (shown_in old.machine) old.machine.rest r (shown_of spaces)
    old.machine.rest) did
    (same_goes (λ roots taken. stores_so set (shown_in old.machine) old.machine.rest t request
    (place_of store.target) store.kept planned.asks roots taken)
    (goes t old.machine.rest known))

pub stores_to : (t n calls : ℕ) (store : Store) (line : Option ℕ) (result : Stepped) (old now : Shared)
    (doing : Doing) (spaces : Spaces) (queue : Queues) (h : History) → old ≡ now
    → Storing t n calls store line result old doing spaces queue h
    → StoresTo t store line now (stored_in old n doing spaces queue h)
stores_to t n calls store line result old now doing spaces queue h e x =
    subst (λ (s : Shared). StoresTo t store line s (stored_in old n doing spaces queue h)) e record {
      step = λ set request planned. store_step set t request store old result spaces x.monitors x.step
          x.did planned;
      heap = x.heap;
      notes = x.notes;
      durable = x.durable;
      history = x.told ∙ ap (λ k. told_at t k old.history result) x.calls
          ∙ ap (λ (r : Stepped). told_by t (memory_of old.machine) old.history r) x.did;
      machine =
          ap (λ k. (stored_in old k doing spaces queue h).machine) x.number
          ∙ ap (λ (d : Doing). (stored_in old t d spaces queue h).machine) x.doing;
      lines = refl;
      noted = refl;
    }
