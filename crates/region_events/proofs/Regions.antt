-- A region begins, guards a place, stores there, and ends at once.
use Rattle.std.proofs.Common.{◌≡◌, ◌≢◌, inl, inr, ⊎_elim, ℕ, zero, suc, ◌<◌, ◌-◌, Bool, true, false, List, [], length, Some}
use Rattle.std.proofs.Common.{None, refl, sym, ◌∙◌, ap, subst, arith, eq-eqb, ne_eqb}
use Rattle.std.proofs.lemmas.Bool.{true≢false, and_parts, cases_lt}
use Rattle.ap_base.specs.declared.place.Place.{Place}
use Rattle.ap_base.specs.declared.place.Spot.{Spot}
use Rattle.graph_model.specs.Heaps.{has_number}
use Rattle.graph_model.specs.declared.types.Value.{Value}
use Rattle.line_memory.specs.Memory.{Memory}
use Rattle.image_meaning.specs.Logs.{may_be_logged, log_of, old_word}
use Rattle.run_history.specs.declared.act.Op.TheVariants as op
use Rattle.run_history.specs.Worlds.{has_place, depth_of}
use Rattle.run_history.specs.Knowing.{Knowledge, Open, durable_at, guard_of, store_fate, is_outermost}
use Rattle.stop_theorem.specs.InvariantEvents.{line_at, word_at}
use Rattle.stop_theorem.specs.Conditions.{IsInRegion}
use Rattle.stop_theorem.specs.Running.{State, known_at, with_act, with_memory, Guarded, RegionStored, Ended}
use Rattle.stop_theorem.proofs.Given.{begin_is}
use Rattle.stop_theorem.proofs.Quiet.{quiet_acts}
use Rattle.region_log.specs.declared.entry.Entry.{Entry}
use Rattle.region_log.specs.declared.entry.EntryStage.TheVariants.{Begun}
use Rattle.region_log.specs.declared.entry.Underway.{Underway}
use Rattle.region_log.specs.declared.entry.Underway.TheVariants.{Nothing, Adding}
use Rattle.region_log.specs.Kept.{IsWhole, FitsUnderway, KeepsLog}
use Rattle.region_log.specs.Log.{Log, IsLogged}
use Rattle.region_log.specs.Made.{Word}
use Rattle.region_log.proofs.Frames.{undisturbed-put, keeps-on}
use Rattle.region_log.proofs.Left.{underway_left}
use Rattle.region_log.proofs.Said.{left_entries_say}
use Rattle.region_events.specs.Guards.{IsWordOf, KeepsGuards, StandsWith}
use Rattle.region_events.specs.Laws.{GoesWith, one_deeper, MayBeGuarded, with_entry, StoresInRegion, BeginsAreEvents}
use Rattle.region_events.specs.Laws.{GuardsAreEvents, StoresAreEvents, EndsAtOnceAreEvents}
use Rattle.region_events.proofs.Calls.{one_event}
use Rattle.region_events.proofs.Going.{standing_of, goes}
use Rattle.region_events.proofs.Acts.{begun_keeps, inner_end_keeps, end_keeps, guarded_keeps, stored_keeps}
use Rattle.region_events.proofs.Kept.{log_with}
use Rattle.region_events.proofs.Places.{not_of_log, place_may}
use Rattle.region_events.proofs.Standing.{by_act}
use Rattle.region_events.proofs.Words.{counts_none}

-- a log with nothing under way is kept at any depth
pub idle_kept : (log : Log) (m : Memory) (d : ℕ) → log.underway ≡ Nothing → KeepsLog log m
    → KeepsLog (record log { depth = d }) m
idle_kept log m d idle keeps = record {
  thread = keeps.thread;
  size = keeps.size;
  room = keeps.room;
  places = keeps.places;
  once = keeps.once;
  fits = subst (λ (u : Underway). FitsUnderway m.size d log.entries u) (sym idle) tt;
  words = keeps.words;
}

pub begins_are_events : BeginsAreEvents
begins_are_events first log s w may =
    goes first (one_deeper log) s (with_act s log.thread op.Begin []) (standing_of first log s w)
    (one_event first s (with_act s log.thread op.Begin []) (begin_is first s log.thread w.stands.shows))
    (by_act first s log.thread op.Begin [] (λ k. KeepsGuards k s.layout (one_deeper log))
    (begun_keeps (known_at first s) s.layout log s.memory.calls may.room may.there w.guards))
    (idle_kept log s.memory (one_deeper log).depth may.idle w.keeps) w.region w.old

-- ---- a place is guarded

module _ (first : Knowledge) (s : State) (t depth : ℕ) (entries : List Entry)
    (w : StandsWith first (log_with t depth entries Nothing) s) (e : Entry) (p : Place)
    (may : MayBeGuarded (known_at first s) s.layout s.memory (log_with t depth entries Nothing) e p) where
  -- no word has two places
  unlogged : IsLogged entries e.spot → ⊥
  unlogged logged =
      let at = w.guards.places e.spot (inl logged) in
      let same : p ≡ at.0 = w.stands.apart p at.0 may.is_kept at.2.is_kept (sym may.word.line ∙ at.1.line)
      (sym may.word.word ∙ at.1.word) in
      let wrong : None ≡ Some t = sym may.unguarded ∙ ap (guard_of (known_at first s).guards) same
      ∙ at.2.guard in cc

  may_be : may_be_logged s.memory.size e.spot.line ≡ true
  may_be =
      let enough = (standing_of first (log_with t depth entries Nothing) s w).enough in
      subst (λ l. may_be_logged s.memory.size l ≡ true) (sym may.word.line)
      (subst (λ n. may_be_logged n (line_at s.layout (known_at first s) p) ≡ true) (sym w.stands.size)
      (place_may first.world.heap (known_at first s) s.layout s.waits s.memory w.stands enough p may.is_kept))

  guards_one : GoesWith first (log_with t depth entries (Adding e Begun)) s
      (with_act s t (op.Guarded p) [])
  guards_one =
      goes first (log_with t depth entries (Adding e Begun)) s (with_act s t (op.Guarded p) [])
      (standing_of first (log_with t depth entries Nothing) s w)
      (one_event first s (with_act s t (op.Guarded p) []) (Guarded s t p))
      (by_act first s t (op.Guarded p) []
      (λ k. KeepsGuards k s.layout (log_with t depth entries (Adding e Begun)))
      (guarded_keeps (known_at first s) s.layout t depth s.memory.calls entries e p may.is_open may.is_kept
      may.unguarded may.word w.guards))
      (record {
        thread = w.keeps.thread;
        size = w.keeps.size;
        room = w.keeps.room;
        places = w.keeps.places;
        once = w.keeps.once;
        fits = (record { place = may_be; unlogged = unlogged }, may.room);
        words = w.keeps.words;
      }) tt may.old

pub guards_are_events : GuardsAreEvents
guards_are_events first log s w e p may =
    let At : Underway → Type 0 = λ (u : Underway). StandsWith first (record log { underway = u }) s
    → MayBeGuarded (known_at first s) s.layout s.memory (record log { underway = u }) e p
    → GoesWith first (with_entry log e) s (with_act s log.thread (op.Guarded p) []) in
    let there : At Nothing = λ stands can.
    guards_one first s log.thread log.depth log.entries stands e p can in
    subst At (sym may.idle) there w may

-- ---- a store

pub open_fate : (t : ℕ) (durable : Bool) (depth : ℕ) (closing : Bool) → durable ≡ true → depth ≢ 0
    → closing ≡ false → store_fate t durable depth closing ≡ Open t
open_fate t false depth closing is deep unclosed = absurd (true≢false (sym is))
open_fate t true zero closing is deep unclosed = absurd (deep refl)
open_fate t true (suc depth) true is deep unclosed = absurd (true≢false unclosed)
open_fate t true (suc depth) false is deep unclosed = refl

pub none_logged : (entries : List Entry) (spot : Spot) → entries ≡ [] → IsLogged entries spot → ⊥
none_logged entries spot none (k, x, below, at, same) =
    let zero : length entries ≡ 0 = ap (λ (es : List Entry). length es) none in omega (arith, below, zero)

module _ (first : Knowledge) (s : State) (t depth : ℕ) (entries : List Entry)
    (w : StandsWith first (log_with t depth entries Nothing) s) (new : Memory) (p : Place) (v : Value) (x : ℕ)
    (can : StoresInRegion (known_at first s) s.layout (log_with t depth entries Nothing) s.memory new p v x)
  where
    logged_at_place : (spot : Spot) × IsWordOf (known_at first s) s.layout spot p × IsLogged entries spot
    logged_at_place = let at = w.guards.guarded p can.guard in
        (at.1, at.2, ⊎_elim (λ (logged : IsLogged entries at.1). logged) (λ (never : ⊥). absurd never) at.3)

    deep : depth_of (known_at first s).world t ≢ 0
    deep outside =
        none_logged entries logged_at_place.0 (w.guards.outside (w.guards.depth ∙ outside)).0
        logged_at_place.2

    in_region : IsInRegion (known_at first s) s.layout s.memory t p
    in_region = record {
      fate = open_fate t (durable_at (known_at first s) p) (depth_of (known_at first s).world t)
          (has_number (known_at first s).closing t)
          (and_parts (durable_at (known_at first s) p) (has_place (known_at first s).world.heap p)
          can.stores.is_kept).0 deep (sym w.guards.closing);
      guard = can.guard;
      owes_none = can.owes_none;
      log = w.keeps.thread;
      named = λ c left.
          let at = logged_at_place in
          let said = left_entries_say.named t entries at.0 c
          (underway_left s.memory c left t entries Nothing (w.keeps.words w.telling)) at.2 in (
            said.0,
            ap (λ l. old_word (log_of c t) l (word_at (known_at first s) p)) (sym at.1.line)
                ∙ ap (λ k. old_word (log_of c t) at.0.line k) (sym at.1.word) ∙ said.1,
          );
    }

    log_kept : KeepsLog (log_with t depth entries Nothing) new
    log_kept =
        let word : Word = record {
          line = line_at s.layout (known_at first s) p;
          word = word_at (known_at first s) p;
          value = x;
        } in
        let puts = can.stores.puts in
        keeps-on (log_with t depth entries Nothing) s.memory new
        (undisturbed-put t word s.memory new
        (record { size = puts.size; same = puts.same; here = puts.here; others = puts.others })
        (not_of_log first.world.heap (known_at first s) s.layout s.waits s.memory w.stands p
        can.stores.is_kept t w.keeps.thread)) w.keeps

    stores_one : GoesWith first (log_with t depth entries Nothing) s
        (with_act (with_memory s new) t (op.Stored p v) [])
    stores_one =
        goes first (log_with t depth entries Nothing) s (with_act (with_memory s new) t (op.Stored p v) [])
        (standing_of first (log_with t depth entries Nothing) s w)
        (one_event first s (with_act (with_memory s new) t (op.Stored p v) [])
        (RegionStored s new t p v x can.stores in_region))
        (by_act first (with_memory s new) t (op.Stored p v) []
        (λ k. KeepsGuards k s.layout (log_with t depth entries Nothing))
        (stored_keeps (known_at first s) s.layout (log_with t depth entries Nothing) new.calls p v w.guards))
        log_kept tt tt

pub stores_are_events : StoresAreEvents
stores_are_events first log s w new p v x can =
    let At : Underway → Type 0 = λ (u : Underway). StandsWith first (record log { underway = u }) s
    → StoresInRegion (known_at first s) s.layout (record log { underway = u }) s.memory new p v x
    → GoesWith first (record log { underway = u }) s
    (with_act (with_memory s new) log.thread (op.Stored p v) []) in
    let there : At Nothing = λ stands stores.
    stores_one first s log.thread log.depth log.entries stands new p v x stores in
    subst At (sym can.idle) there w can

-- ---- a region ends at once

-- one that guarded nothing
ends_empty : (first : Knowledge) (s : State) (t : ℕ) → StandsWith first (log_with t 1 [] Nothing) s
    → GoesWith first (log_with t 0 [] Nothing) s (with_act s t op.End [])
ends_empty first s t w =
    let one : depth_of (known_at first s).world t ≡ 1 = sym w.guards.depth in
    let whole : IsWhole s.memory t [] = w.keeps.words w.telling in
    goes first (log_with t 0 [] Nothing) s (with_act s t op.End [])
    (standing_of first (log_with t 1 [] Nothing) s w)
    (one_event first s (with_act s t op.End []) (Ended s t (record {
      outermost = eq-eqb (depth_of (known_at first s).world t) 1 one;
      is_closing = λ some. absurd (true≢false (sym some ∙ sym w.guards.some));
      empty = counts_none t w.keeps.thread s.memory whole.count;
    })))
    (by_act first s t op.End [] (λ k. KeepsGuards k s.layout (log_with t 0 [] Nothing))
    (end_keeps (known_at first s) s.layout t s.memory.calls one))
    (idle_kept (log_with t 1 [] Nothing) s.memory 0 refl w.keeps) tt tt

-- one within another
ends_within : (first : Knowledge) (log : Log) (s : State) → StandsWith first log s → log.underway ≡ Nothing
    → 1 < log.depth
    → GoesWith first (record log { depth = log.depth - 1 }) s (with_act s log.thread op.End [])
ends_within first log s w idle within =
    let depth = w.guards.depth in
    let inner : is_outermost (known_at first s) log.thread ≡ false =
    ne_eqb (depth_of (known_at first s).world log.thread) 1
    (λ one. absurd (omega (arith, one, depth, within)))
    in
    goes first (record log { depth = log.depth - 1 }) s (with_act s log.thread op.End [])
    (standing_of first log s w)
    (one_event first s (with_act s log.thread op.End [])
    (quiet_acts first s log.thread op.End inner w.stands.shows))
    (by_act first s log.thread op.End [] (λ k. KeepsGuards k s.layout (record log { depth = log.depth - 1 }))
    (inner_end_keeps (known_at first s) s.layout log s.memory.calls within inner w.guards))
    (idle_kept log s.memory (log.depth - 1) idle w.keeps) w.region w.old

pub ends_at_once : EndsAtOnceAreEvents
ends_at_once first log s w idle deep (inl within) = ends_within first log s w idle within
ends_at_once first log s w idle deep (inr none) = elim (cases_lt 1 log.depth) [
  | inl within ↦ ends_within first log s w idle within
  | inr shallow ↦
      (let one : log.depth ≡ 1 = omega (arith, deep, shallow) in
      let At : ℕ → List Entry → Underway → Type 0 = λ (d : ℕ) (es : List Entry) (u : Underway).
      StandsWith first (log_with log.thread d es u) s
      → GoesWith first (log_with log.thread (d - 1) es u) s (with_act s log.thread op.End []) in
      let there : At 1 [] Nothing = ends_empty first s log.thread in
      let idle_there : At 1 [] log.underway = subst (λ (u : Underway). At 1 [] u) (sym idle) there in
      let none_there : At 1 log.entries log.underway =
      subst (λ (es : List Entry). At 1 es log.underway) (sym none) idle_there in
      subst (λ (d : ℕ). At d log.entries log.underway) (sym one) none_there w)
]
