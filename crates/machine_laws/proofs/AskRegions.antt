-- What an act that is none of a region leaves of all regions.
use Rattle.std.proofs.Common.{◌≡◌, ◌≢◌, ℕ, zero, suc, Bool, true, false, List, [], ◌∷◌, ◌++◌, length, Option, Some, refl, sym}
use Rattle.std.proofs.Common.{◌∙◌, ap, if◌then◌else◌}
use Rattle.std.specs.Prelude.{slice_get}
use Rattle.std.proofs.lemmas.Bool.{and_parts, and_from}
use Rattle.ap_base.specs.declared.place.Place.{Place}
use Rattle.graph_model.specs.declared.types.Heap.{Heap}
use Rattle.graph_model.specs.Heaps.{has_number, stored}
use Rattle.run_history.specs.declared.act.Op.{Op}
use Rattle.run_history.specs.declared.act.Op.TheVariants as op
use Rattle.run_history.specs.Recorded.{Recorded}
use Rattle.run_history.specs.Worlds.{Thread, after, at_thread, depth_in, depth_of, has_place, heap_after_op, new_thread}
use Rattle.run_history.specs.Worlds.{threads_after_op}
use Rattle.run_history.specs.Knowing.{Guard, Knowledge, durable_at, guard_of, has_guards, is_outermost, after_end}
use Rattle.run_history.specs.Knowing.{without_number, known_after_op, next_known}
use Rattle.run_history.proofs.Sizes.{has_fresh, same_has, stored-sizes}
use Rattle.plain_model.specs.Codes.{is_persistent}
use Rattle.plain_model.specs.Limits.{guards_of}
use Rattle.plain_model.proofs.Durable.{world-known_after_op}
use Rattle.stop_theorem.specs.Layouts.{Layout, is_kept_place}
use Rattle.stop_theorem.specs.InvariantEvents.{line_at, word_at}
use Rattle.stop_theorem.proofs.Places.{word_same}
use Rattle.region_log.specs.Log.{Log}
use Rattle.region_events.specs.Guards.{KeepsGuards}
use Rattle.region_events.proofs.Kept.{word_as}
use Rattle.machine_forms.specs.Keeping.{HasNoRegion}
use Rattle.machine_laws.proofs.Acts.{durable-kept, roots-next}
use Rattle.machine_laws.proofs.Coming.{heap-next}
use Rattle.machine_laws.proofs.Guards.{without_guards, with_guard}
use Rattle.machine_laws.proofs.AskKeeping.{line-same}
use Rattle.machine_laws.proofs.AskOutside.{IsOutside}

-- ---- guards, and who is closing

abbrev pub guards_ended : List Guard → ℕ → Bool → List Guard
guards_ended gs t true = without_guards gs t
guards_ended gs t false = gs

abbrev pub guards_after : Knowledge → ℕ → Op → List Guard
guards_after known t (op.Guarded p) = with_guard known.guards t p
guards_after known t op.End = guards_ended known.guards t (is_outermost known t)
guards_after known t o = known.guards

abbrev pub closing_ended : List ℕ → ℕ → Bool → List ℕ
closing_ended ns t true = without_number ns t
closing_ended ns t false = ns

abbrev pub closing_after : Knowledge → ℕ → Op → List ℕ
closing_after known t op.Closing = known.closing ++ t ∷ []
closing_after known t op.End = closing_ended known.closing t (is_outermost known t)
closing_after known t o = known.closing

ended-guards : (known : Knowledge) (t : ℕ) (outermost : Bool)
    → (after_end known t outermost).guards ≡ guards_ended known.guards t outermost
ended-guards known t true = refl
ended-guards known t false = refl

ended-closing : (known : Knowledge) (t : ℕ) (outermost : Bool)
    → (after_end known t outermost).closing ≡ closing_ended known.closing t outermost
ended-closing known t true = refl
ended-closing known t false = refl

guards-op : (known : Knowledge) (t : ℕ) (named : List ℕ) (o : Op)
    → (known_after_op known t named o).guards ≡ guards_after known t o
unfolding known_after_op
guards-op known t named op.End = ended-guards known t (is_outermost known t)
guards-op known t named o = refl

closing-op : (known : Knowledge) (t : ℕ) (named : List ℕ) (o : Op)
    → (known_after_op known t named o).closing ≡ closing_after known t o
unfolding known_after_op
closing-op known t named op.End = ended-closing known t (is_outermost known t)
closing-op known t named o = refl

outside-guards : (known : Knowledge) (t : ℕ) (o : Op) → IsOutside o → guards_after known t o ≡ known.guards
outside-guards known t op.End is = absurd is
outside-guards known t (op.Guarded p) is = absurd is
outside-guards known t o is = refl

outside-closing : (known : Knowledge) (t : ℕ) (o : Op) → IsOutside o → closing_after known t o ≡ known.closing
outside-closing known t op.End is = absurd is
outside-closing known t op.Closing is = absurd is
outside-closing known t o is = refl

-- ---- depths

depth-push : (ths : List Thread) (object : Option ℕ) (u : ℕ)
    → depth_in (slice_get (ths ++ new_thread object ∷ []) u) ≡ depth_in (slice_get ths u)
depth-push [] object zero = refl
depth-push [] object (suc u) = refl
depth-push (th ∷ ths) object zero = refl
depth-push (th ∷ ths) object (suc u) = depth-push ths object u

depth-ended : (ths : List Thread) (t u : ℕ) (uncaught : Option ℕ)
    → depth_in (slice_get (at_thread (λ thread. record thread { ended = true; uncaught = uncaught }) ths t) u)
    ≡ depth_in (slice_get ths u)
depth-ended [] t u uncaught = refl
depth-ended (th ∷ ths) zero zero uncaught = refl
depth-ended (th ∷ ths) zero (suc u) uncaught = refl
depth-ended (th ∷ ths) (suc t) zero uncaught = refl
depth-ended (th ∷ ths) (suc t) (suc u) uncaught = depth-ended ths t u uncaught

depth-other : (f : Thread → Thread) (ths : List Thread) (t u : ℕ) → u ≢ t
    → depth_in (slice_get (at_thread f ths t) u) ≡ depth_in (slice_get ths u)
depth-other f [] t u other = refl
depth-other f (th ∷ ths) zero zero other = absurd (other refl)
depth-other f (th ∷ ths) zero (suc u) other = refl
depth-other f (th ∷ ths) (suc t) zero other = refl
depth-other f (th ∷ ths) (suc t) (suc u) other = depth-other f ths t u (λ e. other (ap (λ k. suc k) e))

outside-depth : (ths : List Thread) (t u : ℕ) (o : Op) → IsOutside o
    → depth_in (slice_get (threads_after_op ths t o) u) ≡ depth_in (slice_get ths u)
outside-depth ths t u op.Begin is = absurd is
outside-depth ths t u op.End is = absurd is
outside-depth ths t u (op.Start n child) is = depth-push ths (Some n) u
outside-depth ths t u (op.Ended uncaught) is = depth-ended ths t u uncaught
outside-depth ths t u o is = refl

pub other-depth : (ths : List Thread) (t u : ℕ) (o : Op) → u ≢ t
    → depth_in (slice_get (threads_after_op ths t o) u) ≡ depth_in (slice_get ths u)
other-depth ths t u op.Begin other = depth-other _ ths t u other
other-depth ths t u op.End other = depth-other _ ths t u other
other-depth ths t u (op.Start n child) other = depth-push ths (Some n) u
other-depth ths t u (op.Ended uncaught) other = depth-ended ths t u uncaught
other-depth ths t u o other = refl

by-persistent : (known : Knowledge) (t u : ℕ) (o : Op) (b : Bool)
    → depth_in (slice_get (threads_after_op known.world.threads t o) u)
    ≡ depth_in (slice_get known.world.threads u)
    → depth_of (if b then known.world else after known.world t o) u ≡ depth_of known.world u
by-persistent known t u o true same = refl
by-persistent known t u o false same = same

depth-next : (known : Knowledge) (a : Recorded) (u : ℕ)
    → depth_in (slice_get (threads_after_op known.world.threads a.act.thread a.act.op) u)
    ≡ depth_in (slice_get known.world.threads u)
    → depth_of (next_known known a).world u ≡ depth_of known.world u
depth-next known a u same =
    ap (λ w. depth_of w u) (world-known_after_op known a.act.thread a.named a.act.op)
    ∙ by-persistent known a.act.thread u a.act.op (is_persistent a.act.op) same

-- ---- places

has-op : (heap : Heap) (p : Place) (o : Op) → has_place heap p ≡ true
    → has_place (heap_after_op heap o) p ≡ true
has-op heap p (op.Alloc n shape count) is = has_fresh p heap shape count is
has-op heap p (op.Throw n class) is = has_fresh p heap class 0 is
has-op heap p (op.Stored q x) is = same_has heap (stored heap q x) p (stored-sizes heap q x) ∙ is
has-op heap p o is = is

-- a kept place stays one
kept-next : (known : Knowledge) (a : Recorded) (p : Place) → is_kept_place known p ≡ true
    → is_kept_place (next_known known a) p ≡ true
kept-next known a p is =
    let both = and_parts (durable_at known p) (has_place known.world.heap p) is in
    and_from (durable_at (next_known known a) p) (has_place (next_known known a).world.heap p)
    (durable-kept known a p both.0)
    (ap (λ (h : Heap). has_place h p) (heap-next known a) ∙ has-op known.world.heap p a.act.op both.1)

-- ---- what is left of a thread's region

-- Thread t has guarded what it had, and its region is as it was; the places lie where they lay.
pub record SparesRegion (known next : Knowledge) (lay lay' : Layout) (t : ℕ) : Type 0 where
  pub on : (p : Place) → guard_of known.guards p ≡ Some t → guard_of next.guards p ≡ Some t
  pub back : (p : Place) → guard_of next.guards p ≡ Some t → guard_of known.guards p ≡ Some t
  pub some : has_guards next.guards t ≡ has_guards known.guards t
  pub count : length (guards_of next.guards t) ≡ length (guards_of known.guards t)
  pub depth : depth_of next.world t ≡ depth_of known.world t
  pub closing : has_number next.closing t ≡ has_number known.closing t
  pub kept : (p : Place) → is_kept_place known p ≡ true → is_kept_place next p ≡ true
  pub lines : (p : Place) → is_kept_place known p ≡ true → line_at lay' next p ≡ line_at lay known p
  pub words : (p : Place) → is_kept_place known p ≡ true → word_at next p ≡ word_at known p

pub spared-keeps : (known next : Knowledge) (lay lay' : Layout) (log : Log)
    → SparesRegion known next lay lay' log.thread → KeepsGuards known lay log → KeepsGuards next lay' log
spared-keeps known next lay lay' log spares g = record {
  depth = g.depth ∙ sym spares.depth;
  closing = g.closing ∙ sym spares.closing;
  some = g.some ∙ sym spares.some;
  count = spares.count ∙ g.count;
  outside = g.outside;
  guarded = λ p guard.
      let at = g.guarded p (spares.back p guard) in (
        spares.kept p at.0,
        at.1,
        word_as known next lay lay' at.1 p (spares.lines p at.0) (spares.words p at.0) at.2,
        at.3,
      );
  places = λ spot is.
      let at = g.places spot is in (
        at.0,
        word_as known next lay lay' spot at.0 (spares.lines at.0 at.2.is_kept)
            (spares.words at.0 at.2.is_kept) at.1,
        record { is_kept = spares.kept at.0 at.2.is_kept; guard = spares.on at.0 at.2.guard },
      );
}

pub spared-none : (known next : Knowledge) (lay lay' : Layout) (t : ℕ) → SparesRegion known next lay lay' t
    → HasNoRegion known t → HasNoRegion next t
spared-none known next lay lay' t spares none = record {
  guards = spares.some ∙ none.guards;
  closing = spares.closing ∙ none.closing;
  depth = spares.depth ∙ none.depth;
}

-- ---- by an event

abbrev pub SameLines : Knowledge → Layout → Layout → Type 0
SameLines known lay lay' = (n : ℕ) → has_number known.durable n ≡ true → lay'.line_of n ≡ lay.line_of n

lines-kept : (known next : Knowledge) (lay lay' : Layout) (p : Place) → SameLines known lay lay'
    → next.world.heap.roots ≡ known.world.heap.roots → is_kept_place known p ≡ true
    → line_at lay' next p ≡ line_at lay known p
lines-kept known next lay lay' p lines roots is =
    line-same known next lay lay' p (and_parts (durable_at known p) (has_place known.world.heap p) is).0 roots
    lines

-- no act
pub quiet-spares : (known : Knowledge) (lay lay' : Layout) (t : ℕ) → SameLines known lay lay'
    → SparesRegion known known lay lay' t
quiet-spares known lay lay' t lines = record {
  on = λ p is. is;
  back = λ p is. is;
  some = refl;
  count = refl;
  depth = refl;
  closing = refl;
  kept = λ p is. is;
  lines = λ p is. lines-kept known known lay lay' p lines refl is;
  words = λ p is. refl;
}

pub guards-next : (known : Knowledge) (a : Recorded)
    → (next_known known a).guards ≡ guards_after known a.act.thread a.act.op
guards-next known a = guards-op known a.act.thread a.named a.act.op

closing-next : (known : Knowledge) (a : Recorded)
    → (next_known known a).closing ≡ closing_after known a.act.thread a.act.op
closing-next known a = closing-op known a.act.thread a.named a.act.op

pub outside-guards-next : (known : Knowledge) (a : Recorded) → IsOutside a.act.op
    → (next_known known a).guards ≡ known.guards
outside-guards-next known a is = guards-next known a ∙ outside-guards known a.act.thread a.act.op is

module _ (known : Knowledge) (a : Recorded) (lay lay' : Layout) (lines : SameLines known lay lay') where
  pub spares-by : (t : ℕ)
      → ((p : Place) → guard_of known.guards p ≡ Some t
      → guard_of (guards_after known a.act.thread a.act.op) p ≡ Some t)
      → ((p : Place) → guard_of (guards_after known a.act.thread a.act.op) p ≡ Some t
      → guard_of known.guards p ≡ Some t)
      → has_guards (guards_after known a.act.thread a.act.op) t ≡ has_guards known.guards t
      → length (guards_of (guards_after known a.act.thread a.act.op) t) ≡ length (guards_of known.guards t)
      → depth_in (slice_get (threads_after_op known.world.threads a.act.thread a.act.op) t)
      ≡ depth_in (slice_get known.world.threads t)
      → has_number (closing_after known a.act.thread a.act.op) t ≡ has_number known.closing t
      → SparesRegion known (next_known known a) lay lay' t
  spares-by t on back some count depth closing = record {
    on = λ p is. ap (λ gs. guard_of gs p) (guards-next known a) ∙ on p is;
    back = λ p is. back p (sym (ap (λ gs. guard_of gs p) (guards-next known a)) ∙ is);
    some = ap (λ gs. has_guards gs t) (guards-next known a) ∙ some;
    count = ap (λ gs. length (guards_of gs t)) (guards-next known a) ∙ count;
    depth = depth-next known a t depth;
    closing = ap (λ ns. has_number ns t) (closing-next known a) ∙ closing;
    kept = kept-next known a;
    lines = λ p is. lines-kept known (next_known known a) lay lay' p lines (roots-next known a) is;
    words = λ p is. word_same known.world.heap (next_known known a).world.heap (roots-next known a) p;
  }

  -- an act that is none of a region
  pub outside-spares : IsOutside a.act.op → (t : ℕ) → SparesRegion known (next_known known a) lay lay' t
  outside-spares is t =
      let same = outside-guards known a.act.thread a.act.op is in
      spares-by t (λ p guard. ap (λ gs. guard_of gs p) same ∙ guard)
      (λ p guard. sym (ap (λ gs. guard_of gs p) same) ∙ guard) (ap (λ gs. has_guards gs t) same)
      (ap (λ gs. length (guards_of gs t)) same)
      (outside-depth known.world.threads a.act.thread t a.act.op is)
      (ap (λ ns. has_number ns t) (outside-closing known a.act.thread a.act.op is))
