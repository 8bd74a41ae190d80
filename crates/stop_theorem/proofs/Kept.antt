-- Each event of a region keeps the invariant.
use Rattle.std.proofs.Common.{◌≡◌, ℕ, suc, ◌<◌, true, [], refl, sym, ◌∙◌, ap, arith, inl, inr, Option, Some, None}
use Rattle.std.proofs.lemmas.Bool.{true≢false, eq-eqb, le-leb, lt-ltb}
use Rattle.ap_base.specs.declared.place.Place.{Place}
use Rattle.graph_model.specs.declared.types.Heap.{Heap}
use Rattle.line_image.specs.Trace.{Outcome}
use Rattle.line_memory.specs.Memory.{Memory, CanLeaveAll}
use Rattle.image_layout.specs.Places.{logs, log_head_line, first_object_line}
use Rattle.image_meaning.specs.Logs.{is_log_line, log_of, old_word}
use Rattle.image_meaning.proofs.Recovering.{some_or}
use Rattle.image_meaning.proofs.Naming.{below_some, below_has}
use Rattle.run_history.specs.declared.act.Op.TheVariants as op
use Rattle.run_history.specs.Knowing.{Knowledge, known_after_op, guard_of}
use Rattle.stop_theorem.specs.Choices.{Threads}
use Rattle.stop_theorem.proofs.Own.{none_open_at_end}
use Rattle.stop_theorem.specs.Layouts.{is_kept_place, Layout, place_line, place_word}
use Rattle.stop_theorem.specs.Stops.{Stands, named_in}
use Rattle.stop_theorem.specs.InvariantEvents.{Puts, ShowsKnown, line_at, word_at}
use Rattle.stop_theorem.proofs.Stored.{is_log, place_lies, not_log}
use Rattle.stop_theorem.proofs.Showing.{shows_elsewhere, shows_stored}
use Rattle.stop_theorem.proofs.Acting.{order_by}
use Rattle.stop_theorem.specs.RegionLaws.{LogWordsKeep, RaisedCountsKeep, RegionStoresKeep, LoweredCountsKeep, ClosingKeeps}
use Rattle.stop_theorem.specs.RegionLaws.{EndsKeep}
use Rattle.stop_theorem.proofs.Regions.{stands_log_word, stands_region_store}
use Rattle.stop_theorem.proofs.Raised.{stands_raised}
use Rattle.stop_theorem.proofs.Counts.{stands_lowered}
use Rattle.stop_theorem.proofs.Ending.{stands_closing, stands_end}

-- a word of a log
shows_log : (first : Heap) (known : Knowledge) (lay : Layout) (Waits : Threads) (old new : Memory)
    → Stands first known lay Waits old → (line word x : ℕ) → Puts line word x old new
    → is_log_line line ≡ true
    → ShowsKnown lay known new
shows_log first known lay Waits old new s line word x puts log =
    let bounds = is_log line log in
    shows_elsewhere first known lay Waits old new s line word x puts
    (λ n durable e. absurd (let low = (s.shows.objects (lay.line_of n) n
    (rw (durable, eq-eqb (lay.line_of n) (lay.line_of n) refl) refl)).low in omega (arith, low, e, bounds.1)))
    (λ p kept e. absurd (true≢false (sym log ∙ ap is_log_line e
    ∙ not_log (place_line lay known.world.heap p) (place_word known.world.heap p)
    (place_lies first known lay Waits old s p kept))))
    (λ r below e. absurd (omega (arith, below, e, bounds.0)))

pub log_words_keep : LogWordsKeep
log_words_keep first known lay Waits old new line word x puts inside log uncounted s =
    stands_log_word first known lay Waits old new line word x puts inside log uncounted
    (shows_log first known lay Waits old new s line word x puts log) s

head_log : (t : ℕ) → t < logs → is_log_line (log_head_line t) ≡ true
head_log t there = rw (
  le-leb (log_head_line 0) (log_head_line t) (omega arith),
  lt-ltb
      (log_head_line t) first_object_line (omega (arith, there)),
) refl

-- a place that thread t has guarded is named by no log but t's
own_log : (first : Heap) (known : Knowledge) (lay : Layout) (Waits : Threads) (m : Memory) (t : ℕ) (p : Place)
    → Stands first known lay Waits m → is_kept_place known p ≡ true
    → guard_of known.guards p ≡ Some t → (c : Outcome) → CanLeaveAll m c → old_word (log_of c t)
    (line_at lay known p) (word_at known p) ≡ None
    → named_in c (line_at lay known p) (word_at known p) ≡ None
own_log first known lay Waits m t p s kept guard c left none =
    let line = line_at lay known p in
    let word = word_at known p in
    elim (some_or (named_in c line word)) [
      | inl is ↦ is
      | inr some ↦ (
          let found = below_some c line word some.0 logs some.1 in
          let g = (s.leaves c left).named found.0 line word some.0 found.1 found.2 in
          let same : p ≡ g.place = s.apart p g.place kept g.is_kept g.line_is g.word_is in
          let threads : Some t ≡ Some found.0 = sym guard ∙ ap (guard_of known.guards) same ∙ g.guard in
          let is_t : found.0 ≡ t = ap (λ (o : Option ℕ). elim o [ None ↦ t | Some k ↦ k ]) (sym threads) in
          let wrong : None ≡ Some some.0 = sym none ∙ ap (λ k. old_word (log_of c k) line word) (sym is_t)
          ∙ found.2 in cc)
    ]

pub raised_keeps : RaisedCountsKeep
raised_keeps first known lay Waits old new t n p there room puts inside kept guard not_closing in_image counts
    unnamed entries s =
    stands_raised first known lay Waits old new t n p there room puts inside kept guard
    (s.orderly.opened t not_closing) in_image counts
    (λ c left. own_log first known lay Waits old t p s kept guard c left (unnamed c left)) entries
    (shows_log first known lay Waits old new s (log_head_line t) 0 (suc n) puts (head_log t there)) s

pub lowered_keeps : LoweredCountsKeep
lowered_keeps first known lay Waits old new t there puts inside closing durable undone s =
    stands_lowered first known lay Waits old new t there puts inside
    (s.orderly.closing t closing) durable undone
    (shows_log first known lay Waits old new s (log_head_line t) 0 0 puts (head_log t there)) s

pub region_keeps : RegionStoresKeep
unfolding known_after_op
region_keeps first known lay Waits old new t at p v x s puts inside kept fate there logged guard owes holds =
    stands_region_store first known lay Waits old new t at p v s x puts inside kept fate
    (λ c left. let l = logged c left in below_has c t (line_at lay known p)
    (word_at known p) l.0 logs there l.1)
    (order_by first known t at [] (op.Stored p v) s.orderly (owes, λ durable some. guard))
    (shows_stored first known lay Waits old new s p v x puts kept holds)

pub closing_keeps : ClosingKeeps
closing_keeps first known lay Waits m t at s counts = stands_closing first known lay m Waits t at s
    (order_by first known t at [] op.Closing s.orderly tt) counts

pub ends_keep : EndsKeep
ends_keep first known lay Waits m t at s outermost rule counts =
    stands_end first known lay m Waits t at s (order_by first known t at [] op.End s.orderly tt) outermost
    (none_open_at_end first known t s.orderly rule) counts
