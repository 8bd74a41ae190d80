-- What an event leads to once it is noted, and what is remembered of it.
use Rattle.std.proofs.Common.{◌≡◌, ◌≢◌, ◌⊎◌, inl, inr, ℕ, ◌-◌, ◌<◌, ◌≤◌, Bool, true, false, List, [], ◌∷◌, length, Option, Some, None, refl, sym, ◌∙◌, ap, subst, arith}
use Rattle.std.specs.Prelude.{IsSome, slice_index_or, slice_set}
use Rattle.std.proofs.lemmas.Bool.Decides.{eqb_tells}
use Rattle.std.proofs.lemmas.List.{get_or-set_other, get_or-set_same, length-append, length-set, set-set}
use Rattle.ap_base.specs.declared.reference.Ref.{Ref}
use Rattle.ap_base.specs.declared.reference.Item.{Item}
use Rattle.run_types.specs.declared.fault.Which.TheVariants as which
use Rattle.run_types.specs.declared.wait.On.{On}
use Rattle.run_types.specs.declared.wait.On.TheVariants as on
use Rattle.natives.specs.declared.requests.Request.{Request}
use Rattle.natives.specs.declared.requests.Reply.{Reply}
use Rattle.graph_model.specs.declared.types.Root.{Root}
use Rattle.run_history.specs.declared.act.Op.{Op}
use Rattle.run_history.specs.declared.act.Op.TheVariants as op
use Rattle.run_history.specs.Recorded.{History, Recorded}
use Rattle.plain_model.specs.Facts.{SetFacts}
use Rattle.frames.specs.Turns.{begun_thread}
use Rattle.run_forms.specs.Laws.{answered_threads}
use Rattle.run_forms.specs.Views.{ThreadFrames}
use Rattle.twin_forms.specs.Table.{Entry}
use Rattle.twin_forms.proofs.Led.{below_or_not}
use Rattle.machine_threads.specs.Passed.{Opening, Machine, memory_of, roots_in}
use Rattle.machine_threads.specs.Passed.{Asks, Begins, work_left}
use Rattle.machine_threads.specs.Testing.{IsLive}
use Rattle.convert_waits.specs.Stuck.{IsPlain}
use Rattle.shared_heap.specs.Notes.{AreOf64, ThreadNotes, answered, asked_by, asking, waiting, waits_on}
use Rattle.shared_heap.specs.Shared.{Shared}
use Rattle.machine.specs.declared.events.Event.{Event}
use Rattle.machine.specs.declared.events.Event.TheVariants.{Did, Micro, WouldWait, Over}
use Rattle.machine.specs.declared.events.Halt.TheVariants.{Met, Stuck}
use Rattle.machine.specs.Events.{AddsActs, Comes, FindsConversion, FindsWait, HasImageCause, HasSinkCause, IsAnswerTo, IsUnanswered, LeavesOthers, NotesStart}
use Rattle.machine.specs.Events.{IsBelow, IsOver, KeepsBound, SparesOthers}
use Rattle.machine.specs.Halts.{fault_of_halt, lacks}
use Rattle.machine.specs.Laws.{Laws}
use Rattle.machine.specs.Remembering.{AllWait, Answers, GoesOnAsking, GoesOnWaiting, IsNext, IsStuckIn, IsStuckNow, LeadsTo}
use Rattle.machine.specs.Remembering.{IsSomeRunning, NotesEvent, Remembers}
use Rattle.machine.specs.Running.{IsDue, IsRunning, RemembersAsked}
use Rattle.machine.proofs.Basics.{some-same}
use Rattle.machine.proofs.Bound.{bound-alike}
use Rattle.machine.proofs.Leaving.{lives}
use Rattle.machine.proofs.Noted.{no-some, remembers, runs-noted, set-none, set-some}

-- ---- what a thread asks still

asks-all : (o : Opening) (s mid : Shared) (es after : List Entry) (threads : List ThreadFrames) (t u : ℕ)
    → ((gs : ThreadFrames) (request : Request Ref Item) → Asks o s.machine threads t gs request
    → Asks o mid.machine threads t gs request)
    → SparesOthers o t s.machine mid.machine es after threads threads → (gs : ThreadFrames) (request : Request Ref Item)
    → Asks o s.machine threads u gs request → Asks o mid.machine threads u gs request
asks-all o s mid es after threads t u own others gs request asks = elim (eqb_tells u t) [
  | inl same ↦ subst (λ v. Asks o mid.machine threads v gs request) (sym same.1)
      (own gs request (subst (λ v. Asks o s.machine threads v gs request) same.1 asks))
  | inr other ↦ others.ask u gs request other.1 asks
]

module _ (laws : Laws) (o : Opening) (first : ℕ) (set : SetFacts) (s mid : Shared) (es : List Entry)
    (threads : List ThreadFrames) (t : ℕ) (fs : ThreadFrames) (request : Request Ref Item)
    (next : IsNext o first set s es threads t fs request) where
  -- ---- an answer

  module _ (r : Reply Ref Item) (c : Comes o first es threads t fs request (Did r) s mid) where
    abbrev done : Shared
    done = record mid { notes = answered mid.notes t }

    answer-leads : Answers o first r s done threads t fs request
    answer-leads = record {
      after = c.goes.after;
      act = c.goes.act;
      acts = c.goes.acts;
      running = λ begun begins. record {
        runs = runs-noted o first mid (answered mid.notes t) c.goes.after
            (answered_threads o.launch threads t fs r begun) (c.goes.runs begun begins);
        asked = remembers o s mid es c.goes.after threads (answered_threads o.launch threads t fs r begun) t next.asked
            (c.goes.others begun begins) c.asks c.noted None None
            (λ q is. no-some (slice_index_or (slice_set mid.notes.asks t None) t None) q (set-none mid.notes.asks t) is)
            (λ on is. no-some (slice_index_or (slice_set mid.notes.waits t None) t None) on (set-none mid.notes.waits t) is)
            (λ on is. no-some (slice_index_or (slice_set mid.notes.waits t None) t None) on (set-none mid.notes.waits t) is)
            (λ on is. no-some (slice_index_or (slice_set mid.notes.waits t None) t None) on (set-none mid.notes.waits t) is)
            (λ u is. no-some (slice_index_or (slice_set mid.notes.waits t None) t None) (on.Conversion u)
            (set-none mid.notes.waits t) is)
            mid.notes.started;
      };
      starts = c.goes.starts;
      started = λ n child is. (let began = c.goes.started n child is in record {
        next = began.next;
        thread = began.thread;
        noted = began.noted;
        begins = began.begins;
      });
      idle = c.goes.idle;
    }

    answer-remembers : Remembers (Did r) t request s done
    answer-remembers = record {
      own = (set-none mid.notes.asks t, set-none mid.notes.waits t);
      asked = λ u other. get_or-set_other mid.notes.asks t u None None other
          ∙ ap (λ (xs : List (Option (Request Ref Item))). slice_index_or xs u None) c.asks;
      waits = λ u other. get_or-set_other mid.notes.waits t u None None other
          ∙ ap (λ (xs : List (Option On)). slice_index_or xs u None) c.noted;
    }

  -- ---- a step of persistence

  own-asks : (after : List Entry)
      → ((gs : ThreadFrames) (q : Request Ref Item) → Asks o s.machine threads t gs q → Asks o mid.machine threads t gs q)
      → (q : Request Ref Item) → slice_index_or (slice_set mid.notes.asks t (Some request)) t None ≡ Some q
      → (gs : ThreadFrames) × Asks o mid.machine threads t gs q
  own-asks after own q is = subst (λ p. (gs : ThreadFrames) × Asks o mid.machine threads t gs p)
      (set-some mid.notes.asks t request q is) (fs, own fs request next.due.asks)

  module _ (c : Comes o first es threads t fs request Micro s mid) (sixty_four : AreOf64 (asking mid.notes t request)) where
    abbrev stepped : Shared
    stepped = record mid { notes = asking mid.notes t request }

    micro-leads : GoesOnAsking o first s stepped threads
    micro-leads = record {
      after = c.goes.after;
      running = record {
        runs = runs-noted o first mid (asking mid.notes t request) c.goes.after threads c.goes.runs;
        asked = remembers o s mid es c.goes.after threads threads t next.asked c.goes.others c.asks c.noted (Some request)
            None
            (own-asks c.goes.after c.goes.own)
            (λ on is. no-some (slice_index_or (slice_set mid.notes.waits t None) t None) on (set-none mid.notes.waits t) is)
            (λ on is. no-some (slice_index_or (slice_set mid.notes.waits t None) t None) on (set-none mid.notes.waits t) is)
            (λ on is. no-some (slice_index_or (slice_set mid.notes.waits t None) t None) on (set-none mid.notes.waits t) is)
            (λ u is. no-some (slice_index_or (slice_set mid.notes.waits t None) t None) (on.Conversion u)
            (set-none mid.notes.waits t) is)
            mid.notes.started;
      };
      asks = λ u gs q asks. asks-all o s mid es c.goes.after threads t u c.goes.own c.goes.others gs q asks;
    }

    micro-remembers : Remembers Micro t request s stepped
    micro-remembers = record {
      own = (
        get_or-set_same mid.notes.asks t (Some request) None
            (let long = sym (length-set mid.notes.asks t (Some request)) ∙ sixty_four.asks in
            let below = next.due.thread in omega (arith, long, below)),
        set-none mid.notes.waits t,
      );
      asked = λ u other. get_or-set_other mid.notes.asks t u (Some request) None other
          ∙ ap (λ (xs : List (Option (Request Ref Item))). slice_index_or xs u None) c.asks;
      waits = λ u other. get_or-set_other mid.notes.waits t u None None other
          ∙ ap (λ (xs : List (Option On)). slice_index_or xs u None) c.noted;
    }

  -- ---- a wait

  module _ (w : On) (c : Comes o first es threads t fs request (WouldWait w) s mid)
      (sixty_four : AreOf64 (waiting (asking mid.notes t request) t w)) where
    abbrev waited : Shared
    waited = record mid { notes = waiting (asking mid.notes t request) t w }

    -- set once
    abbrev once : ThreadNotes
    once = record {
      asks = slice_set mid.notes.asks t (Some request);
      waits = slice_set mid.notes.waits t (Some w);
      started = mid.notes.started;
    }

    once-is : waiting (asking mid.notes t request) t w ≡ once
    once-is = ap (λ (xs : List (Option On)). record {
      asks = slice_set mid.notes.asks t (Some request);
      waits = xs;
      started = mid.notes.started;
    }) (set-set mid.notes.waits t None (Some w))

    inside-asks : t < length mid.notes.asks
    inside-asks =
        let long = sym (length-set mid.notes.asks t (Some request)) ∙ sixty_four.asks in
        let below = next.due.thread in omega (arith, long, below)

    inside-waits : t < length mid.notes.waits
    inside-waits =
        let twice = length-set (slice_set mid.notes.waits t None) t (Some w) in
        let one = length-set mid.notes.waits t None in
        let long = sixty_four.waits in
        let below = next.due.thread in omega (arith, long, below, twice, one)

    asks-set : slice_index_or (slice_set mid.notes.asks t (Some request)) t None ≡ Some request
    asks-set = get_or-set_same mid.notes.asks t (Some request) None inside-asks

    waits-set : slice_index_or (slice_set mid.notes.waits t (Some w)) t None ≡ Some w
    waits-set = get_or-set_same mid.notes.waits t (Some w) None inside-waits

    once-asked : RemembersAsked o (record mid { notes = once }) c.goes.asks.after threads
    once-asked = remembers o s mid es c.goes.asks.after threads threads t next.asked c.goes.asks.others c.asks c.noted
        (Some request) (Some w)
        (own-asks c.goes.asks.after c.goes.asks.own)
        (λ on is. subst IsSome (sym asks-set) refl)
        (λ on is. c.goes.ready)
        (λ on is. c.goes.forwarded)
        (λ u is. subst IsBelow (set-some mid.notes.waits t w (on.Conversion u) is) c.goes.below)
        mid.notes.started

    pub wait-running : IsRunning o first waited c.goes.asks.after threads
    wait-running = record {
      runs = runs-noted o first mid (waiting (asking mid.notes t request) t w) c.goes.asks.after threads c.goes.asks.runs;
      asked = subst (λ notes. RemembersAsked o (record mid { notes = notes }) c.goes.asks.after threads) (sym once-is)
          once-asked;
    }

    wait-asks : GoesOnAsking o first s waited threads
    wait-asks = record {
      after = c.goes.asks.after;
      running = wait-running;
      asks = λ u gs q asks. asks-all o s mid es c.goes.asks.after threads t u c.goes.asks.own c.goes.asks.others gs q asks;
    }

    own-waits : waits_on waited.notes t ≡ Some w
    own-waits = ap (λ (n : ThreadNotes). waits_on n t) once-is ∙ waits-set

    other-asked : (u : ℕ) → u ≢ t → asked_by waited.notes u ≡ asked_by s.notes u
    other-asked u other = get_or-set_other mid.notes.asks t u (Some request) None other
        ∙ ap (λ (xs : List (Option (Request Ref Item))). slice_index_or xs u None) c.asks

    other-waits : (u : ℕ) → u ≢ t → waits_on waited.notes u ≡ waits_on s.notes u
    other-waits u other = ap (λ (n : ThreadNotes). waits_on n u) once-is
        ∙ get_or-set_other mid.notes.waits t u (Some w) None other
        ∙ ap (λ (xs : List (Option On)). slice_index_or xs u None) c.noted

    wait-remembers : Remembers (WouldWait w) t request s waited
    wait-remembers = record { own = (asks-set, own-waits); asked = other-asked; waits = other-waits }

    stuck-remembers : Remembers (Over Stuck) t request s waited
    stuck-remembers = record {
      own = (asks-set, subst IsSome (sym own-waits) refl);
      asked = other-asked;
      waits = other-waits;
    }

    -- the run is stuck exactly where all threads wait
    tested : ((roots : List Root) → AllWait set roots waited) → IsStuckNow o waited c.goes.asks.after
    tested all = (laws.threads.tested o mid.machine c.goes.asks.after threads c.goes.asks.runs.keeps c.goes.asks.runs.plain
        (asked_by waited.notes) (waits_on waited.notes) c.goes.asks.runs.many c.goes.asks.runs.all wait-running.asked).0
        (subst (λ x. AllWait x (roots_in o mid.machine) waited) next.due.facts (all (roots_in o mid.machine)))

    untested : ((roots : List Root) → AllWait set roots waited → ⊥) → IsStuckNow o waited c.goes.asks.after → ⊥
    untested tests stuck = tests (roots_in o mid.machine) (subst (λ x. AllWait x (roots_in o mid.machine) waited)
        (sym next.due.facts)
        ((laws.threads.tested o mid.machine c.goes.asks.after threads c.goes.asks.runs.keeps c.goes.asks.runs.plain
        (asked_by waited.notes) (waits_on waited.notes) c.goes.asks.runs.many c.goes.asks.runs.all wait-running.asked).1
        stuck))

    wait-leads : ((roots : List Root) → AllWait set roots waited → ⊥) → GoesOnWaiting o first w s waited threads t
    unfolding wait-asks
    wait-leads tests = record {
      asks = wait-asks;
      table = c.goes.table;
      agrees = c.goes.agrees;
      holds = c.goes.holds;
      unstuck = untested tests;
      rows = c.goes.rows;
    }

    same-acts : mid.machine.acts ≡ s.machine.acts
    same-acts = sym c.goes.asks.runs.acts ∙ c.acts ∙ next.due.running.acts

    -- the thread of the event lives
    lives-now : IsLive mid.machine t
    lives-now = let its = c.goes.asks.own fs request next.due.asks in (its.state, its.thread, its.lives)

    stuck-leads : length s.machine.acts < o.launch.limits.acts → ((roots : List Root) → AllWait set roots waited)
        → IsStuckIn o first s waited threads t
    stuck-leads room all = record {
      over = record {
        after = c.goes.asks.after;
        keeps = c.goes.asks.runs.keeps;
        plain = c.goes.asks.runs.plain;
        history = c.goes.history own-plain;
        acts = same-acts;
        ends = laws.threads.end o mid.machine c.goes.asks.after threads c.goes.asks.runs.keeps c.goes.asks.runs.plain
            (asked_by waited.notes) waited.notes.waits ((memory_of mid.machine).size - first) t c.goes.asks.runs.many
            sixty_four.waits c.goes.asks.runs.all wait-running.asked
            (subst (λ x. AllWait x (roots_in o mid.machine) waited) next.due.facts (all (roots_in o mid.machine)))
            lives-now (subst (λ (xs : List Recorded). length xs < o.launch.limits.acts) (sym same-acts) room);
      };
      stuck = tested all;
    }
      where
        own-still : (u : On) → waits_on waited.notes t ≡ Some u → IsPlain u → IsPlain w
        own-still u noted plain = subst IsPlain (some-same u w (sym noted ∙ own-waits)) plain

        own-plain : IsPlain w
        own-plain = let still = all [] t lives-now in own-still still.on still.noted still.plain

-- ---- any event

pub event-leads : (laws : Laws) (o : Opening) (first : ℕ) (set : SetFacts) (s mid new : Shared) (es : List Entry)
    (threads : List ThreadFrames) (t : ℕ) (fs : ThreadFrames) (request : Request Ref Item) (came result : Event)
    → (next : IsNext o first set s es threads t fs request) → length s.machine.acts < o.launch.limits.acts
    → Comes o first es threads t fs request came s mid → NotesEvent set t request came result mid new
    → LeadsTo o first result s new threads t fs request × Remembers result t request s new
event-leads laws o first set s mid new es threads t fs request (Did r) result next room c (is, now) =
    subst (λ e. LeadsTo o first e s new threads t fs request × Remembers e t request s new) (sym is)
    (subst (λ x. LeadsTo o first (Did r) s x threads t fs request × Remembers (Did r) t request s x) (sym now) (
      answer-leads laws o first set s mid es threads t fs request next r c,
      answer-remembers laws o first set s mid es threads t fs request next r c,
    ))
event-leads laws o first set s mid new es threads t fs request Micro result next room c (is, now, sixty_four) =
    let all = subst (λ (x : Shared). AreOf64 x.notes) now sixty_four in
    subst (λ e. LeadsTo o first e s new threads t fs request × Remembers e t request s new) (sym is)
    (subst (λ x. LeadsTo o first Micro s x threads t fs request × Remembers Micro t request s x) (sym now) (
      micro-leads laws o first set s mid es threads t fs request next c all,
      micro-remembers laws o first set s mid es threads t fs request next c all,
    ))
event-leads laws o first set s mid new es threads t fs request (WouldWait w) result next room c (now, sixty_four, inl stuck) =
    let all = subst (λ (x : Shared). AreOf64 x.notes) now sixty_four in
    let tests = subst (λ (x : Shared). (roots : List Root) → AllWait set roots x) now stuck.1 in
    subst (λ e. LeadsTo o first e s new threads t fs request × Remembers e t request s new) (sym stuck.0)
    (subst (λ x. LeadsTo o first (Over Stuck) s x threads t fs request × Remembers (Over Stuck) t request s x) (sym now) (
      stuck-leads laws o first set s mid es threads t fs request next w c all room tests,
      stuck-remembers laws o first set s mid es threads t fs request next w c all,
    ))
event-leads laws o first set s mid new es threads t fs request (WouldWait w) result next room c (now, sixty_four, inr waits) =
    let all = subst (λ (x : Shared). AreOf64 x.notes) now sixty_four in
    let tests = subst (λ (x : Shared). (roots : List Root) → AllWait set roots x → ⊥) now waits.1 in
    subst (λ e. LeadsTo o first e s new threads t fs request × Remembers e t request s new) (sym waits.0)
    (subst (λ x. LeadsTo o first (WouldWait w) s x threads t fs request × Remembers (WouldWait w) t request s x) (sym now) (
      wait-leads laws o first set s mid es threads t fs request next w c all tests,
      wait-remembers laws o first set s mid es threads t fs request next w c all,
    ))
event-leads laws o first set s mid new es threads t fs request (Over (Met f)) result next room c (is, now) =
    subst (λ e. LeadsTo o first e s new threads t fs request × Remembers e t request s new) (sym is)
    (subst (λ x. LeadsTo o first (Over (Met f)) s x threads t fs request × Remembers (Over (Met f)) t request s x) (sym now) (
      c.goes,
      record {
        own = tt;
        asked = λ u other. ap (λ (xs : List (Option (Request Ref Item))). slice_index_or xs u None) c.asks;
        waits = λ u other. ap (λ (xs : List (Option On)). slice_index_or xs u None) c.noted;
      },
    ))
event-leads laws o first set s mid new es threads t fs request (Over Stuck) result next room c notes = absurd c.goes

-- ---- what other threads are about

-- A thread that an act starts has frames with which it begins.
some-begun : (o : Opening) (operation : Op) (s mid : Shared)
    → ((n child : ℕ) → operation ≡ op.Start n child → NotesStart o operation child s mid)
    → (begun : List ThreadFrames) × Begins o mid.machine operation begun
some-begun o (op.Start n child) s mid starts = let began = starts n child refl in (begun_thread began.thread ∷ [], began.begins)
some-begun o operation s mid starts = ([], refl)

pub others-left : (o : Opening) (first : ℕ) (s mid : Shared) (es : List Entry) (threads : List ThreadFrames) (t : ℕ)
    (fs : ThreadFrames) (request : Request Ref Item) (came : Event) → Comes o first es threads t fs request came s mid
    → LeavesOthers came t s.machine mid.machine
others-left o first s mid es threads t fs request (Did r) c = λ u other.
    (let begun = some-begun o c.goes.act.act.op s mid c.goes.started in
    (c.goes.others begun.0 begun.1).doing u other)
others-left o first s mid es threads t fs request Micro c = c.goes.others.doing
others-left o first s mid es threads t fs request (WouldWait w) c = c.goes.asks.others.doing
others-left o first s mid es threads t fs request (Over halt) c = tt

-- ---- what is as the attempt left it

-- What is noted makes no other event of it, but of a wait: the run may be stuck.
abbrev BecomesNoted : Event → Event → Type 0
BecomesNoted came result = (result ≡ came) ⊎ ((w : On) × (came ≡ WouldWait w) × (result ≡ Over Stuck))

becomes-noted : (set : SetFacts) (t : ℕ) (request : Request Ref Item) (came result : Event) (mid new : Shared)
    → NotesEvent set t request came result mid new → BecomesNoted came result
becomes-noted set t request (Did r) result mid new n = inl n.0
becomes-noted set t request Micro result mid new n = inl n.0
becomes-noted set t request (WouldWait w) result mid new (now, sixty_four, inl stuck) = inr (w, refl, stuck.0)
becomes-noted set t request (WouldWait w) result mid new (now, sixty_four, inr waits) = inl waits.0
becomes-noted set t request (Over halt) result mid new n = inl n.0

-- what is so of a wait is so where the run is stuck
becomes : (P : Event → Type 0) → ((w : On) → P (WouldWait w) → P (Over Stuck)) → (came result : Event)
    → BecomesNoted came result → P came → P result
becomes P stuck came result (inl same) p = subst P (sym same) p
becomes P stuck came result (inr (w, waits, is)) p = subst P (sym is) (stuck w (subst P waits p))

pub noted-machine : (set : SetFacts) (t : ℕ) (request : Request Ref Item) (came result : Event) (mid new : Shared)
    → NotesEvent set t request came result mid new → new.machine ≡ mid.machine
noted-machine set t request (Did r) result mid new n = ap (λ (x : Shared). x.machine) n.1
noted-machine set t request Micro result mid new n = ap (λ (x : Shared). x.machine) n.1
noted-machine set t request (WouldWait w) result mid new n = ap (λ (x : Shared). x.machine) n.0
noted-machine set t request (Over halt) result mid new n = ap (λ (x : Shared). x.machine) n.1

pub noted-history : (set : SetFacts) (t : ℕ) (request : Request Ref Item) (came result : Event) (mid new : Shared)
    → NotesEvent set t request came result mid new → new.history ≡ mid.history
noted-history set t request (Did r) result mid new n = ap (λ (x : Shared). x.history) n.1
noted-history set t request Micro result mid new n = ap (λ (x : Shared). x.history) n.1
noted-history set t request (WouldWait w) result mid new n = ap (λ (x : Shared). x.history) n.0
noted-history set t request (Over halt) result mid new n = ap (λ (x : Shared). x.history) n.1

module _ (set : SetFacts) (t : ℕ) (request : Request Ref Item) (came result : Event) (mid new : Shared)
    (n : NotesEvent set t request came result mid new) where
  same-result : BecomesNoted came result
  same-result = becomes-noted set t request came result mid new n

  pub came-micro : result ≡ Micro → came ≡ Micro
  came-micro micro = elim same-result [
    | inl same ↦ sym same ∙ micro
    | inr stuck ↦ absurd (let no : Over Stuck ≡ Micro = sym stuck.2 ∙ micro in cc)
  ]

  pub came-unanswered : IsUnanswered result → IsUnanswered came
  came-unanswered un = elim same-result [
    | inl same ↦ subst IsUnanswered same un
    | inr stuck ↦ absurd (subst IsUnanswered stuck.2 un)
  ]

  pub came-waiting : (w : On) → result ≡ WouldWait w → came ≡ WouldWait w
  came-waiting w waits = elim same-result [
    | inl same ↦ sym same ∙ waits
    | inr stuck ↦ absurd (let no : Over Stuck ≡ WouldWait w = sym stuck.2 ∙ waits in cc)
  ]

  pub noted-acts : (old : List Recorded) → AddsActs came t old mid.history.acts
      → AddsActs result t old new.history.acts
  noted-acts old acts = subst (λ (h : History). AddsActs result t old h.acts)
      (sym (noted-history set t request came result mid new n))
      (becomes (λ e. AddsActs e t old mid.history.acts) (λ w same. same) came result same-result acts)

  pub noted-answers : IsAnswerTo came request → IsAnswerTo result request
  noted-answers = becomes (λ e. IsAnswerTo e request) (λ w none. none) came result same-result

  pub noted-finds : (logging : Bool) (waits : Option On) → FindsWait logging came waits → FindsWait logging result waits
  noted-finds logging waits = becomes (λ e. FindsWait logging e waits) (λ w found. tt) came result same-result

  pub noted-awaits : (o : Opening) (m : Machine) → FindsConversion o m t came → FindsConversion o m t result
  noted-awaits o m = becomes (FindsConversion o m t) (λ v found u w. tt) came result same-result

  pub noted-work : (s : Shared) → KeepsBound came s mid → KeepsBound result s new
  noted-work s bound =
      let machine = noted-machine set t request came result mid new n in
      let history = noted-history set t request came result mid new n in
      let work = ap work_left machine in
      bound-alike result s mid s new (ap (λ (h : History). length h.acts - length s.history.acts) history)
      (ap (λ (m : Machine). m.free - s.machine.free) machine) (omega arith) (omega (arith, work))
      (becomes (λ e. KeepsBound e s mid) (λ w bound. tt) came result same-result bound)

  pub noted-others : (old : Machine) → LeavesOthers came t old mid.machine → LeavesOthers result t old new.machine
  noted-others old left = subst (λ (m : Machine). LeavesOthers result t old m)
      (sym (noted-machine set t request came result mid new n))
      (becomes (λ e. LeavesOthers e t old mid.machine) (λ w same. tt) came result same-result left)

  pub noted-sink : (before now : ℕ) → HasSinkCause came before now → HasSinkCause result before now
  noted-sink before now = becomes (λ e. HasSinkCause e before now) (λ w most. most) came result same-result

  pub noted-image : (before : ℕ) → HasImageCause came before (memory_of mid.machine).faults
      → HasImageCause result before (memory_of new.machine).faults
  noted-image before cause = subst (λ (m : Machine). HasImageCause result before (memory_of m).faults)
      (sym (noted-machine set t request came result mid new n))
      (becomes (λ e. HasImageCause e before (memory_of mid.machine).faults) (λ w most. most) came result same-result
      cause)

-- ---- what noting is given

-- a history that isn't full has room
pub room-of : (is_full : Bool) (limit count : ℕ) → (limit ≤ count → is_full ≡ true) → is_full ≡ false → count < limit
room-of is_full limit count full not = elim (below_or_not count limit) [
  | inl below ↦ below
  | inr above ↦ absurd (let no = sym not ∙ full (let a = above in grind arith) in cc)
]

-- an event adds one act at most
pub counted-then : (came : Event) (t limit most : ℕ) (old new : List Recorded) → AddsActs came t old new
    → length old < limit → limit < most → length new < most
counted-then (Did r) t limit most old new one room few =
    let long = ap length one.acts ∙ length-append old (one.act ∷ []) in omega (arith, long, room, few)
counted-then Micro t limit most old new (inl same) room few = let long = ap length same in omega (arith, long, room, few)
counted-then Micro t limit most old new (inr one) room few =
    let long = ap length one.acts ∙ length-append old (one.act ∷ []) in omega (arith, long, room, few)
counted-then (WouldWait w) t limit most old new same room few = let long = ap length same in omega (arith, long, room, few)
counted-then (Over halt) t limit most old new same room few = let long = ap length same in omega (arith, long, room, few)

-- where the thread waits the run goes on, with that wait noted
pub notable : (laws : Laws) (o : Opening) (first : ℕ) (set : SetFacts) (s mid : Shared) (es : List Entry)
    (threads : List ThreadFrames) (t : ℕ) (fs : ThreadFrames) (request : Request Ref Item) (came : Event)
    → IsNext o first set s es threads t fs request → Comes o first es threads t fs request came s mid → (w : On)
    → came ≡ WouldWait w → AreOf64 (waiting (asking mid.notes t request) t w)
    → IsSomeRunning set (record mid { notes = waiting (asking mid.notes t request) t w })
notable laws o first set s mid es threads t fs request came next comes w is sixty_four =
    let c = subst (λ e. Comes o first es threads t fs request e s mid) is comes in (
      o,
      first,
      c.goes.asks.after,
      threads,
      wait-running laws o first set s mid es threads t fs request next w c sixty_four,
      next.due.facts,
    )

-- ---- a full history

module _ (laws : Laws) (o : Opening) (first : ℕ) (set : SetFacts) (s : Shared) (es : List Entry)
    (threads : List ThreadFrames) (t : ℕ) (fs : ThreadFrames) (request : Request Ref Item)
    (due : IsDue o first set s es threads t fs request) where
  pub full-over : s.history.limit ≤ length s.history.acts
      → IsOver o first (fault_of_halt s (Met (lacks which.Acts 1 0))) s s threads t
  full-over enough = record {
    after = es;
    keeps = due.running.keeps;
    plain = due.running.plain;
    history = refl;
    acts = refl;
    ends = laws.ends.full o s.machine es threads due.running.keeps due.running.plain
        ((memory_of s.machine).size - first) t fs (lives laws o first set s es threads t fs request due)
        (let same = ap length due.running.acts in let limit = due.running.limit in omega (arith, enough, same, limit));
  }

pub full-remembers : (s : Shared) (t : ℕ) (request : Request Ref Item)
    → Remembers (Over (Met (lacks which.Acts 1 0))) t request s s
full-remembers s t request = record { own = tt; asked = λ u other. refl; waits = λ u other. refl }
