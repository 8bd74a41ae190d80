-- What the events of a thread's conversion are.
use Rattle.std.proofs.Common.{◌≡◌, ◌≢◌, inl, inr, ℕ, ◌+◌, ◌<◌, ◌≤◌, true, false, List, [], ◌∷◌, ◌++◌, length, refl, sym}
use Rattle.std.proofs.Common.{◌∙◌, ap, subst, arith, ◌^◌, Bool}
use Rattle.std.specs.Prelude.{◌↔◌, Ok, Option, Some, None, slice_get}
use Rattle.std.proofs.lemmas.Bool.{false≢true}
use Rattle.ap_base.specs.Causes.{HasCause}
use Rattle.line_memory.specs.Memory.{Memory}
use Rattle.monitors.specs.declared.monitor.Monitor.{Monitor}
use Rattle.monitors.specs.Indexed.{AreSound}
use Rattle.shared_objects.specs.declared.rest.Rest.{Rest}
use Rattle.run_history.specs.declared.act.Act.{Act}
use Rattle.run_history.specs.declared.act.Op.TheVariants as op
use Rattle.run_history.specs.Recorded.{Recorded, History, with_act}
use Rattle.twin_forms.specs.Table.{Entry, entry, IsClaimed}
use Rattle.twin_forms.specs.Sights.{Twin, AllKnown}
use Rattle.twin_forms.proofs.Led.{below_or_not, same_or_not}
use Rattle.convert_queue.specs.declared.phase.Phase.{Phase}
use Rattle.convert_queue.specs.declared.phase.Phase.TheVariants.{Flush}
use Rattle.convert_queue.specs.Marks.{Mark, IsClean}
use Rattle.convert_queue.specs.Queues.{Queued, Queues, IsSettled, phase_of, place_of, queue_of, total}
use Rattle.convert_queue.specs.Threads.{InGroup, IsGroupOf, has, itself, needed, needs_of}
use Rattle.convert_queue.proofs.Sets.{above_none}
use Rattle.convert_words.specs.declared.step.ConvertStep.{ConvertStep}
use Rattle.convert_words.specs.declared.step.ConvertStep.TheVariants as step
use Rattle.convert_words.specs.Agreeing.{Far}
use Rattle.convert_words.specs.Converting.{SealsGroup, WaitsFor}
use Rattle.convert_words.specs.Scenes.{Scene, AgreesAt}
use Rattle.convert_words.proofs.StepKinds.{wait_converts}
use Rattle.converter.specs.declared.begin.Begun.{Begun}
use Rattle.converter.specs.Beginning.{Begins, IsAsked}
use Rattle.converter.specs.Laws.{AreUnwritten}
use Rattle.converter.specs.Stepping.{Event, FailedEvent, keys_of}
use Rattle.converter.specs.Working.{SomeScene}
use Rattle.converter.proofs.Events.{event_of}
use Rattle.converter.proofs.Goings.{stays}
use Rattle.converter.proofs.Unwritten.{beginnings_stay_unwritten, events_stay_unwritten, going_unwritten}
use Rattle.store_barrier.specs.Passed.{Converting}
use Rattle.store_barrier.specs.Passed.{Machine, memory_of, scene_of, doing_of}
use Rattle.store_barrier.specs.Passed.{Converted, ConvertsOn, IsNoSeal, StaysSound, with_joined}
use Rattle.store_barrier.specs.Passed.{HasToSeal, group_names}
use Rattle.store_barrier.proofs.Passed.{groups_name_theirs}
use Rattle.store_barrier.proofs.Passed.{seals_take_queues}
use Rattle.shared_heap.specs.Shared.{Shared}
use Rattle.shared_heap.specs.Conversions.{BeginsOnce, Converts, FailsTo, GoesOnce, GoesTo, HasBegun, JoinsOnce}
use Rattle.shared_heap.specs.Conversions.{came_to, with_names}
use Rattle.shared_heap.specs.declared.conversions.Conversion.{Conversion}
use Rattle.shared_heap.specs.declared.conversions.Conversion.TheVariants.{Joined}

-- ---- a step

-- A step, as the converter tells it, before its answer is taken up.
pub record Stepped (t : ℕ) (answer : ConvertStep) (old now : Shared) (es : List Entry) : Type 0 where
  pub event : Event t answer (scene_of old.machine)
      (scene_of now.machine) es old.machine.rest.monitors now.machine.rest.monitors
  pub same : Converted old.machine now.machine
  pub lines : now.lines ≡ (memory_of now.machine).size
  pub within : now.machine.free ≤ now.lines
  pub sound : AreSound now.machine.rest.monitors
  pub known : AllKnown (memory_of now.machine)
  pub history : now.history ≡ old.history
  pub notes : now.notes ≡ old.notes

-- The shared heap once its words and queues are these.
abbrev pub sealed_of : Shared → Twin → Queues → Shared
sealed_of s twin q = record s {
  machine = record s.machine { spaces = record s.machine.spaces { twin = twin }; queue = q };
}

-- the thread converts, and its conversion has begun
pub record IsUnderWay (t : ℕ) (old : Shared) (es : List Entry) : Type 0 where
  pub thread : t < 64
  pub doing : doing_of old.machine t ≡ Converting
  pub begun : HasBegun (scene_of old.machine) t
  pub converts : Converts old es

pub stays_sound : (t : ℕ) (answer : ConvertStep) (old now : Shared) (es : List Entry)
    → Stepped t answer old now es → StaysSound now.machine
stays_sound t answer old now es s = record {
  within = let lines = s.lines in let within = s.within in omega (arith, lines, within);
  sound = s.sound;
  known = s.known;
}

pub converts_on : (t : ℕ) (answer : ConvertStep) (old now : Shared) (es : List Entry) → IsUnderWay t old es
    → Stepped t answer old now es
    → ConvertsOn t answer old.machine now.machine es
converts_on t answer old now es u s = record {
  thread = u.thread;
  doing = u.doing;
  event = s.event;
  same = s.same;
  sound = stays_sound t answer old now es s;
}

pub stepped_as : (t : ℕ) (answer other : ConvertStep) (old now : Shared) (es : List Entry) → answer ≡ other
    → Stepped t answer old now es
    → Stepped t other old now es
stepped_as t answer other old now es is s = subst (λ a. Stepped t a old now es) is s

goes_once : (t : ℕ) (answer : ConvertStep) (old now : Shared) (es : List Entry) → IsNoSeal answer
    → IsUnderWay t old es
    → Stepped t answer old now es → GoesOnce t answer old now es
unfolding converts_on
goes_once t answer old now es other u s = record {
  on = converts_on t answer old now es u s;
  other = other;
  history = s.history;
  notes = s.notes;
  converts = record {
    agrees = s.event.converts.agrees;
    unwritten = events_stay_unwritten t answer (scene_of old.machine) (scene_of now.machine) es
        old.machine.rest.monitors now.machine.rest.monitors u.converts.agrees s.event u.converts.unwritten;
    unnamed = ap (λ (h : History). h.named) s.history ∙ u.converts.unnamed;
    lines = s.lines;
    within = s.within;
    sound = s.sound;
  };
}

-- ---- no seal before all is settled

some_there : (q : List Queued) → q ≢ [] → 0 < length q
some_there [] some = absurd (some refl)
some_there (x ∷ q) some = omega arith

module _ (t set : ℕ) (s s' : Scene) (es : List Entry) (ms ms' : List Monitor) (few : t < 64) (agrees : AgreesAt s es)
    (unwritten : AreUnwritten s.queue es) (unsettled : IsSettled s.queue t → ⊥)
    (e : Event t (step.Sealed set) s s' es ms ms') where
  settled : IsSettled e.at.queue t
  settled = let says : SealsGroup e.at s' es e.after t set = e.converts.says in says.settled t few says.group.member

  clean : IsClean s.queue.marks t
  clean = subst (λ (marks : List Mark). IsClean marks t) e.goes_on.marks settled.clean

  not_flushing : phase_of s.queue t ≢ Flush
  not_flushing is = unsettled (record { phase = is; clean = clean })

  -- all that it has claimed is forwarded when it is settled
  done : (n : ℕ) → IsClaimed es t n → (entry es n).stage ≡ 2
  done n claimed =
      let i = e.goes_on.agrees.queued.all t n claimed in
      let far = (e.goes_on.agrees.on_way t i.0 n i.1).reaches.far in
      subst (λ (p : Phase). Far p (place_of e.at.queue t).0 (place_of e.at.queue t).1 i.0 (entry es n)) settled.phase far

  -- but then its first line was stored to, and not written
  none_claimed : (n : ℕ) → IsClaimed es t n → ⊥
  none_claimed n claimed =
      let forwarded = done n claimed in
      clean.written ((entry es n).line + 0)
      (unwritten t n 0 claimed not_flushing (omega arith) (inl (omega (arith, forwarded))))

  -- A thread that isn't settled makes no seal, once its conversion has begun.
  pub seals_settled : HasBegun s t → ⊥
  seals_settled (inl some) =
      let first = agrees.queued.there t 0 (some_there (queue_of s.queue t) some) in
      none_claimed first.0 first.1.claimed
  seals_settled (inr flush) = not_flushing flush.0

never_seals : (t set : ℕ) (answer : ConvertStep) (old now : Shared) (es : List Entry)
    → (IsSettled old.machine.queue t → ⊥) → IsUnderWay t old es → Stepped t answer old now es
    → answer ≡ step.Sealed set → ⊥
never_seals t set answer old now es unsettled u s0 is =
    let s : Stepped t (step.Sealed set) old now es = stepped_as t answer (step.Sealed set) old now es is s0 in
    seals_settled t set (scene_of old.machine) (scene_of now.machine) es old.machine.rest.monitors
    now.machine.rest.monitors u.thread u.converts.agrees u.converts.unwritten unsettled s.event u.begun

-- What a step comes to that was made for a thread that isn't settled.
goes_so : (t : ℕ) (answer : ConvertStep) (old now : Shared) (es : List Entry)
    → (IsSettled old.machine.queue t → ⊥) → IsUnderWay t old es → Stepped t answer old now es
    → GoesTo t (came_to answer) old now es
goes_so t (step.Sealed set) old now es unsettled u s =
    absurd (never_seals t set (step.Sealed set) old now es unsettled u s refl)
goes_so t (step.Wait v) old now es unsettled u s = goes_once t (step.Wait v) old now es tt u s
goes_so t (step.Full need left) old now es unsettled u s = goes_once t (step.Full need left) old now es tt u s
goes_so t answer old now es unsettled u s = (answer, tt, goes_once t answer old now es tt u s)

pub goes_to : (t : ℕ) (answer : ConvertStep) (came : Conversion) (old now : Shared) (es : List Entry)
    → came ≡ came_to answer → (IsSettled old.machine.queue t → ⊥) → IsUnderWay t old es
    → Stepped t answer old now es → GoesTo t came old now es
goes_to t answer came old now es is unsettled u s =
    subst (λ (c : Conversion). GoesTo t c old now es) (sym is) (goes_so t answer old now es unsettled u s)

-- ---- a wait of a settled thread

-- It makes no step, and nothing changes.
pub waits_settled : (t u : ℕ) (old : Shared) (es : List Entry) → IsUnderWay t old es → AllKnown (memory_of old.machine)
    → WaitsFor (scene_of old.machine) t u → GoesOnce t (step.Wait u) old old es
waits_settled t u old es way known for =
    let s = scene_of old.machine in
    let ms = old.machine.rest.monitors in
    goes_once t (step.Wait u) old old es tt way record {
      event = event_of t (step.Wait u) s s s es es ms ms (stays s es t way.converts.agrees)
          (wait_converts s es t u (inl for) way.converts.agrees) tt refl;
      same = refl;
      lines = way.converts.lines;
      within = way.converts.within;
      sound = way.converts.sound;
      known = known;
      history = refl;
      notes = refl;
    }

-- ---- a seal

-- the act that makes objects durable
abbrev pub join_act : ℕ → Machine → Act
join_act t m = record { thread = t; at = (memory_of m).calls; op = op.Joined }

-- what its group has queued can be named
to_seal : (s : Scene) (t : ℕ) → HasBegun s t → HasToSeal s t
to_seal s t (inl some) = inl some
to_seal s t (inr (flush, u, few, other, needs)) = inr (u, few, needs)

-- A seal that was made, and its act told behind the names.
record Joining (t set : ℕ) (old now told : Shared) (es : List Entry) : Type 0 where
  pub group : IsGroupOf old.machine.queue.needs t set
  pub stepped : Stepped t (step.Sealed set) old now es
  pub acts : old.machine.acts ≡ old.history.acts
  pub history : told.history
      ≡ with_act (with_names old.history (group_names (scene_of old.machine) set)) (join_act t now.machine)
  pub machine : told.machine ≡ record now.machine { acts = told.history.acts }
  pub lines : told.lines ≡ now.lines
  pub notes : told.notes ≡ now.notes

joins_once : (t set : ℕ) (old now told : Shared) (es : List Entry) → IsUnderWay t old es
    → Joining t set old now told es → JoinsOnce t old told es
unfolding converts_on
joins_once t set old now told es u x =
    let s = x.stepped in
    let e = s.event in
    let before = u.converts in
    let names = group_names (scene_of old.machine) set in
    let says : SealsGroup e.at (scene_of now.machine) es e.after t set = e.converts.says in
    let recorded : List Recorded = record { act = join_act t now.machine; named = names } ∷ [] in
    -- nothing else was named
    let named : with_act (with_names old.history names) (join_act t now.machine)
    ≡ record old.history { acts = old.history.acts ++ recorded; named = []; room = (with_names old.history names).room } =
    ap (λ (ns : List ℕ). record old.history {
      acts = old.history.acts ++ record { act = join_act t now.machine; named = ns ++ names } ∷ [];
      named = [];
      room = (with_names old.history names).room;
    }) before.unnamed in
    let history = x.history ∙ named in
    let now_acts : now.machine.acts ≡ old.machine.acts = ap (λ (m : Machine). m.acts) s.same in
    let more : told.history.acts ≡ now.machine.acts ++ recorded =
    ap (λ (h : History). h.acts) history ∙ ap (λ (a : List Recorded). a ++ recorded) (sym x.acts)
    ∙ ap (λ (a : List Recorded). a ++ recorded) (sym now_acts) in
    let machine : told.machine ≡ with_joined now.machine t names =
    x.machine ∙ ap (λ (a : List Recorded). record now.machine { acts = a }) more in
    let queue : told.machine.queue ≡ now.machine.queue = ap (λ (m : Machine). m.queue) machine in
    record {
      set = set;
      between = now.machine;
      seals = record {
        converts = converts_on t (step.Sealed set) old now es u s;
        names = groups_name_theirs (scene_of old.machine) es t set u.thread before.agrees x.group
            (to_seal (scene_of old.machine) t u.begun);
      };
      machine = machine;
      history = x.history;
      left = ap (λ (q : Queues). total q.queues + length names) queue
          ∙ seals_take_queues t set (scene_of old.machine) (scene_of now.machine) es old.machine.rest.monitors
          now.machine.rest.monitors before.agrees e;
      notes = x.notes ∙ s.notes;
      converts = record {
        agrees = subst (λ (m : Machine). AgreesAt (scene_of m) e.after) (sym machine) e.converts.agrees;
        unwritten = subst (λ (q : Queues). AreUnwritten q e.after) (sym queue)
            (events_stay_unwritten t (step.Sealed set) (scene_of old.machine) (scene_of now.machine) es
            old.machine.rest.monitors now.machine.rest.monitors before.agrees e before.unwritten);
        unnamed = ap (λ (h : History). h.named) history;
        lines = x.lines ∙ s.lines ∙ ap (λ (m : Machine). (memory_of m).size) (sym machine);
        within = subst (λ (m : Machine). m.free ≤ told.lines) (sym machine)
            (subst (λ k. now.machine.free ≤ k) (sym x.lines) s.within);
        sound = subst (λ (m : Machine). AreSound m.rest.monitors) (sym machine) s.sound;
      };
    }

-- ---- a step whose call of the image failed

pub record SteppedNot (t : ℕ) (old now : Shared) (es : List Entry) : Type 0 where
  pub event : FailedEvent t (scene_of old.machine)
      (scene_of now.machine) es old.machine.rest.monitors now.machine.rest.monitors
  pub same : Converted old.machine now.machine
  pub lines : now.lines ≡ (memory_of now.machine).size
  pub within : now.machine.free ≤ now.lines
  pub sound : AreSound now.machine.rest.monitors
  pub known : AllKnown (memory_of now.machine)
  pub history : now.history ≡ old.history
  pub notes : now.notes ≡ old.notes

pub fails_to : (t : ℕ) (old now : Shared) (es : List Entry) → IsUnderWay t old es → SteppedNot t old now es
    → FailsTo t old now es
fails_to t old now es u s =
    let e = s.event in
    record {
      fails = record {
        thread = u.thread;
        doing = u.doing;
        event = e;
        same = s.same;
        sound = record {
          within = let lines = s.lines in let within = s.within in omega (arith, lines, within);
          sound = s.sound;
          known = s.known;
        };
      };
      history = s.history;
      notes = s.notes;
      converts = record {
        agrees = e.fails.agrees;
        unwritten = subst (λ (q : Queues). AreUnwritten q es) (sym e.fails.queue)
            (going_unwritten (scene_of old.machine) e.at es t e.goes_on u.converts.unwritten);
        unnamed = ap (λ (h : History). h.named) s.history ∙ u.converts.unnamed;
        lines = s.lines;
        within = s.within;
        sound = s.sound;
      };
    }

-- ---- the beginning

-- How it began, as the converter tells it.
pub record Started (t n : ℕ) (answer : Begun) (old now : Shared) (es : List Entry) : Type 0 where
  pub after : List Entry
  pub begins : Begins t n answer (scene_of old.machine) (scene_of now.machine) es after
  pub same : Converted old.machine now.machine
  pub rest : now.machine.rest ≡ old.machine.rest
  pub lines : now.lines ≡ old.lines
  pub within : now.machine.free ≤ now.lines
  pub known : AllKnown (memory_of now.machine)
  pub history : now.history ≡ old.history
  pub notes : now.notes ≡ old.notes

pub begins_once : (t n : ℕ) (answer : Begun) (old now : Shared) (es : List Entry) → Converts old es
    → queue_of old.machine.queue t ≡ [] → Started t n answer old now es → BeginsOnce t n answer old now es
begins_once t n answer old now es before empty s =
    let lines : now.lines ≡ (memory_of now.machine).size =
    s.lines ∙ before.lines ∙ sym (ap (λ (m : Memory). m.size) s.begins.memory) in
    let sound : AreSound now.machine.rest.monitors =
    subst (λ (r : Rest). AreSound r.monitors) (sym s.rest) before.sound in
    record {
      after = s.after;
      begins = s.begins;
      same = s.same;
      monitors = s.rest;
      sound = record {
        within = let within = s.within in omega (arith, lines, within);
        sound = sound;
        known = s.known;
      };
      history = s.history;
      notes = s.notes;
      converts = record {
        agrees = s.begins.agrees;
        unwritten = beginnings_stay_unwritten t n answer (scene_of old.machine) (scene_of now.machine) es s.after
            before.agrees empty s.begins before.unwritten;
        unnamed = ap (λ (h : History). h.named) s.history ∙ before.unnamed;
        lines = lines;
        within = s.within;
        sound = sound;
      };
    }

-- ---- whether a conversion has begun

-- a thread in whose group there is another needs one
needs_first : (needs : ℕ → ℕ → Bool) (t u : ℕ) → InGroup needs t u → u ≢ t → (w : ℕ) × (w ≢ t) × (needs t w ≡ true)
needs_first needs t u itself other = absurd (other refl)
needs_first needs t u (needed w v group is) other = elim (same_or_not w t) [
  | inl same ↦ (v, other, subst (λ k. needs k v ≡ true) same is)
  | inr apart ↦ needs_first needs t w group apart
]

below_64 : (set u : ℕ) → set < 2 ^ 64 → has set u ≡ true → u < 64
below_64 set u small member = elim (below_or_not u 64) [
  | inl few ↦ few
  | inr past ↦ absurd (false≢true (sym (above_none set u small past) ∙ member))
]

-- another member, and a need of another
pub other_needed : (s : Scene) (t set : ℕ) → IsGroupOf s.queue.needs t set → set < 2 ^ 64
    → (u : ℕ) × (u < 64) × (u ≢ t) × (has set u ≡ true)
    → (u : ℕ) × (u < 64) × (u ≢ t) × (needs_of s.queue.needs t u ≡ true)
other_needed s t set group small (u, few, other, member) =
    let first = needs_first (needs_of s.queue.needs) t u (group.least u member) other in
    (first.0, below_64 set first.0 small (group.closed t first.0 group.member first.2), first.1, first.2)

pub needed_other : (s : Scene) (t set : ℕ) → IsGroupOf s.queue.needs t set
    → (u : ℕ) × (u < 64) × (u ≢ t) × (needs_of s.queue.needs t u ≡ true)
    → (u : ℕ) × (u < 64) × (u ≢ t) × (has set u ≡ true)
needed_other s t set group (u, few, other, needs) = (u, few, other, group.closed t u group.member needs)

pub queued_some : (q : List Queued) (x : Queued) → slice_get q 0 ≡ Some x → q ≢ []
queued_some [] x is = absurd (let no : ◌≡◌ {A = Option Queued} None (Some x) = is in cc)
queued_some (y ∷ q) x is = λ no. let e : y ∷ q ≡ [] = no in cc

pub queued_none : (q : List Queued) → slice_get q 0 ≡ None → q ≡ []
queued_none [] is = refl
queued_none (y ∷ q) is = absurd (let no : ◌≡◌ {A = Option Queued} (Some y) None = is in cc)

-- with an object queued, the conversion has begun
pub begun_queued : (s : Scene) (t : ℕ) (x : Queued) → slice_get (queue_of s.queue t) 0 ≡ Some x → HasBegun s t
begun_queued s t x is = inl (queued_some (queue_of s.queue t) x is)

-- with none, exactly in the flush and with another member
pub begun_by_group : (s : Scene) (t set : ℕ) → slice_get (queue_of s.queue t) 0 ≡ None
    → IsGroupOf s.queue.needs t set → set < 2 ^ 64 → phase_of s.queue t ≡ Flush
    → HasBegun s t ↔ ((u : ℕ) × (u < 64) × (u ≢ t) × (has set u ≡ true))
begun_by_group s t set none group small flush = (there, back)
  where
    there : HasBegun s t → (u : ℕ) × (u < 64) × (u ≢ t) × (has set u ≡ true)
    there (inl some) = absurd (some (queued_none (queue_of s.queue t) none))
    there (inr (is, u, few, other, needs)) = needed_other s t set group (u, few, other, needs)

    back : (u : ℕ) × (u < 64) × (u ≢ t) × (has set u ≡ true) → HasBegun s t
    back member = let (u, few, apart, needs) = other_needed s t set group small member in inr (flush, u, few, apart, needs)

not_begun : (s : Scene) (t : ℕ) → slice_get (queue_of s.queue t) 0 ≡ None → phase_of s.queue t ≢ Flush
    → HasBegun s t → ⊥
not_begun s t none other (inl some) = some (queued_none (queue_of s.queue t) none)
not_begun s t none other (inr flush) = other flush.0

-- as a reader tells it that read the value with which it began
pub begun_now : (old now : Shared) (t set : ℕ) (b : Bool) → old ≡ now
    → slice_get (queue_of old.machine.queue t) 0 ≡ None → IsGroupOf old.machine.queue.needs t set → set < 2 ^ 64
    → phase_of old.machine.queue t ≡ Flush
    → (b ≡ true) ↔ ((u : ℕ) × (u < 64) × (u ≢ t) × (has set u ≡ true))
    → (b ≡ true) ↔ HasBegun (scene_of now.machine) t
begun_now old now t set b e none group small flush tells =
    let begun = begun_by_group (scene_of old.machine) t set none group small flush in
    subst (λ (s : Shared). (b ≡ true) ↔ HasBegun (scene_of s.machine) t) e
    (λ is. begun.1 (tells.0 is), λ has_begun. tells.1 (begun.0 has_begun))

pub not_begun_now : (old now : Shared) (t : ℕ) (b : Bool) → old ≡ now
    → slice_get (queue_of old.machine.queue t) 0 ≡ None → phase_of old.machine.queue t ≢ Flush → b ≡ false
    → (b ≡ true) ↔ HasBegun (scene_of now.machine) t
not_begun_now old now t b e none other is =
    subst (λ (s : Shared). (b ≡ true) ↔ HasBegun (scene_of s.machine) t) e (
      (λ yes. absurd (false≢true (sym is ∙ yes))),
      λ begun. absurd (not_begun (scene_of old.machine) t none other begun),
    )

pub begun_first : (old now : Shared) (t : ℕ) (x : Queued) → old ≡ now
    → slice_get (queue_of old.machine.queue t) 0 ≡ Some x → HasBegun (scene_of now.machine) t
begun_first old now t x e is =
    subst (λ (s : Shared). HasBegun (scene_of s.machine) t) e (begun_queued (scene_of old.machine) t x is)

-- ---- from the value that a call began with

pub begins_all : (t : ℕ) (answer : Begun) (w : ℕ) (old now new : Shared) → old ≡ now
    → ((es : List Entry) (n : ℕ) → Converts old es → queue_of old.machine.queue t ≡ [] → IsAsked es w n
    → BeginsOnce t n answer old new es)
    → queue_of now.machine.queue t ≡ [] → (es : List Entry) (n : ℕ) → Converts now es → IsAsked es w n
    → BeginsOnce t n answer now new es
begins_all t answer w old now new e each = subst
    (λ (s : Shared). queue_of s.machine.queue t ≡ [] → (es : List Entry) (n : ℕ) → Converts s es
    → IsAsked es w n
    → BeginsOnce t n answer s new es) e (λ empty es n before asked. each es n before empty asked)

pub goes_all : (t : ℕ) (went : Conversion) (old now new : Shared) → old ≡ now → t < 64
    → ((es : List Entry) → IsUnderWay t old es → GoesTo t went old new es)
    → doing_of now.machine t ≡ Converting → HasBegun (scene_of now.machine) t → (es : List Entry) → Converts now es
    → GoesTo t went now new es
goes_all t went old now new e few each = subst
    (λ (s : Shared). doing_of s.machine t ≡ Converting → HasBegun (scene_of s.machine) t → (es : List Entry)
    → Converts s es
    → GoesTo t went s new es) e
    (λ doing begun es before. each es (record { thread = few; doing = doing; begun = begun; converts = before }))

joins_all : (t : ℕ) (old now new : Shared) → old ≡ now → t < 64
    → ((es : List Entry) → IsUnderWay t old es → JoinsOnce t old new es)
    → doing_of now.machine t ≡ Converting → HasBegun (scene_of now.machine) t → (es : List Entry) → Converts now es
    → JoinsOnce t now new es
joins_all t old now new e few each = goes_all t Joined old now new e few each

-- What was sealed over the value that a call began with, and its act told behind the names.
pub record Joins (t set : ℕ) (old : Shared) (twin : Twin) (q : Queues) (naming : History) (told : Shared)
    (es : List Entry) : Type 0 where
  pub group : IsGroupOf old.machine.queue.needs t set
  pub event : Event t (step.Sealed set) (scene_of old.machine) (scene_of (sealed_of old twin q).machine) es
      old.machine.rest.monitors old.machine.rest.monitors
  pub memory : twin.memory ≡ memory_of old.machine
  pub known : AllKnown twin.memory
  pub acts : old.machine.acts ≡ old.history.acts
  pub named : naming ≡ with_names old.history (group_names (scene_of old.machine) set)
  pub history : told.history ≡ with_act naming (join_act t (sealed_of old twin q).machine)
  pub machine : told.machine ≡ record (sealed_of old twin q).machine { acts = told.history.acts }
  pub lines : told.lines ≡ old.lines
  pub notes : told.notes ≡ old.notes

joining : (t set : ℕ) (old : Shared) (twin : Twin) (q : Queues) (naming : History) (told : Shared) (es : List Entry)
    → IsUnderWay t old es → Joins t set old twin q naming told es
    → Joining t set old (sealed_of old twin q) told es
joining t set old twin q naming told es u x = record {
  group = x.group;
  stepped = record {
    event = x.event;
    same = refl;
    lines = u.converts.lines ∙ sym (ap (λ (m : Memory). m.size) x.memory);
    within = u.converts.within;
    sound = u.converts.sound;
    known = x.known;
    history = refl;
    notes = refl;
  };
  acts = x.acts;
  history = x.history
      ∙ ap (λ (h : History). with_act h (join_act t (sealed_of old twin q).machine)) x.named;
  machine = x.machine;
  lines = x.lines;
  notes = x.notes;
}

pub joins_from : (t set : ℕ) (old now told : Shared) (twin : Twin) (q : Queues) (naming : History) → old ≡ now → t < 64
    → ((es : List Entry) → IsUnderWay t old es → Joins t set old twin q naming told es)
    → doing_of now.machine t ≡ Converting → HasBegun (scene_of now.machine) t → (es : List Entry) → Converts now es
    → JoinsOnce t now told es
joins_from t set old now told twin q naming e few each = joins_all t old now told e few
    (λ es u. joins_once t set old (sealed_of old twin q) told es u
    (joining t set old twin q naming told es u (each es u)))

pub fails_all : (t : ℕ) (old now new : Shared) → old ≡ now → t < 64
    → ((es : List Entry) → IsUnderWay t old es → FailsTo t old new es)
    → doing_of now.machine t ≡ Converting → HasBegun (scene_of now.machine) t → (es : List Entry) → Converts now es
    → FailsTo t now new es
fails_all t old now new e few each = subst
    (λ (s : Shared). doing_of s.machine t ≡ Converting → HasBegun (scene_of s.machine) t → (es : List Entry)
    → Converts s es
    → FailsTo t s new es) e
    (λ doing begun es before. each es (record { thread = few; doing = doing; begun = begun; converts = before }))

pub under_way : (t : ℕ) (old now : Shared) (es : List Entry) → old ≡ now → t < 64
    → doing_of now.machine t ≡ Converting
    → HasBegun (scene_of now.machine) t → Converts now es
    → IsUnderWay t old es
under_way t old now es e few doing begun before = subst (λ (s : Shared). IsUnderWay t s es) (sym e)
    (record { thread = few; doing = doing; begun = begun; converts = before })

-- its parts agree, whatever the table
pub some_scene : (old now : Shared) (es : List Entry) → old ≡ now → Converts now es
    → let k = old.machine in let t = k.spaces.twin in SomeScene t.space t.memory t.marks k.queue
some_scene old now es e before =
    let b = subst (λ (s : Shared). Converts s es) (sym e) before in
    let within = b.within in
    let lines = b.lines in
    (old.machine.free, keys_of old.machine.rest.monitors, es, omega (arith, within, lines), b.agrees)

-- a call that succeeds needs no cause
pub cause_same : {T E : Type 0} (before now : ℕ) (x : T) → now ≡ before → HasCause {T = T} {E = E} before now (Ok x)
cause_same before now x same = record { later = omega (arith, same); spared = same; failed = tt }
