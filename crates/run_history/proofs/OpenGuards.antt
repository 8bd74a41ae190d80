-- The acts of a history tell whose open region has guarded a place.
use Rattle.std.proofs.Common.{◌≡◌, inl, inr, ℕ, zero, suc, pred, ◌+◌, ◌-◌, ◌<◌, ◌≤◌, ◌^◌, min, Bool, true, false, List, [], ◌∷◌}
use Rattle.std.proofs.Common.{◌++◌, map, filter, length, refl, ap, sym, ◌∙◌, subst, arith, not, nat_eq, ◌&&◌, ◌||◌}
use Rattle.std.proofs.Common.{if◌then◌else◌, length-append, get_or-set_same, get_or-set_other}
use Rattle.std.specs.Prelude.{◌≢◌, All, Option, Some, None, nat_lt, nat_le, replicate, slice_get, slice_index_or}
use Rattle.std.proofs.lemmas.Bool.{eqb-false, eq-eqb, ne_eqb, ltb-true, ltb-false, le-leb, lt-leb, true≢false, or_parts}
use Rattle.std.proofs.lemmas.Bool.{or_cases, cases_Bool, cases_eq}
use Rattle.std.proofs.lemmas.List.{get_or-replicate, length-set, length-replicate}
use Rattle.std.proofs.lemmas.List.Elements.{All-head, All-tail}
use Rattle.ap_base.specs.declared.place.Place.{Place}
use Rattle.graph_model.specs.Heaps.{place_is}
use Rattle.run_history.specs.declared.act.Op.{Op}
use Rattle.run_history.specs.declared.act.Op.TheVariants as op
use Rattle.run_history.specs.declared.acts.Held.{Held}
use Rattle.run_history.specs.declared.open_guard.Region.{Region}
use Rattle.run_history.specs.Recorded.{Recorded}
use Rattle.run_history.specs.HeldActs.{recorded}
use Rattle.run_history.specs.Worlds.{Thread, new_thread, after, at_thread, depth_in, depth_of}
use Rattle.run_history.specs.Knowing.{Knowledge, Guard, known_after, known_after_op, next_known, after_end, is_outermost}
use Rattle.run_history.specs.Knowing.{guard_of}
use Rattle.run_history.specs.OpenGuards.{IsOutsideRegions, IsNumbered, first_guard, guards_place, no_region, region_after}
use Rattle.run_history.specs.OpenGuards.{regions_from, regions_with, threads_with}

-- ---- guards that the acts that follow leave

-- whether an operation of thread t ends the region of thread u
ends_region : Knowledge → ℕ → Op → ℕ → Bool
ends_region known t op.End u = is_outermost known t && nat_eq u t
ends_region known t o u = false

ended_in : ℕ → Knowledge → List Recorded → Bool
ended_in u known [] = false
ended_in u known (a ∷ acts) = ends_region known a.act.thread a.act.op u || ended_in u (next_known known a) acts

-- the first act that guards the place, and whose region doesn't end after it
open_guard : Place → Knowledge → List Recorded → Option ℕ
open_guard place known [] = None
open_guard place known (a ∷ acts) =
    if guards_place a.act.op place && not (ended_in a.act.thread (next_known known a) acts) then Some a.act.thread
    else open_guard place (next_known known a) acts

first_of : Option ℕ → Option ℕ → Option ℕ
first_of None other = other
first_of (Some t) other = Some t

still : (ℕ → Bool) → List Guard → List Guard
still ended guards = filter (λ (g : Guard). not (ended g.thread)) guards

still_all : (guards : List Guard) → still (λ u. false) guards ≡ guards
unfolding still
still_all [] = refl
still_all (g ∷ gs) = ap (λ xs. g ∷ xs) (still_all gs)

first_alone : (found : Option ℕ) → first_of found None ≡ found
unfolding first_of
first_alone None = refl
first_alone (Some t) = refl

module _ (place : Place) (ended : ℕ → Bool) (later : Option ℕ) where
  abbrev Told : List Guard → List Guard → Option ℕ → Type 0
  Told new old next = first_of (guard_of (still ended new) place) later ≡ first_of (guard_of (still ended old) place) next

  guard_kept : (gs new : List Guard) (g : Guard) (next : Option ℕ) → Told new gs next → Told (g ∷ new) (g ∷ gs) next
  unfolding still first_of
  guard_kept gs new g next told = elim (ended g.thread) as (λ b.
      first_of (guard_of (if not b then g ∷ still ended new else still ended new) place) later
      ≡ first_of (guard_of (if not b then g ∷ still ended gs else still ended gs) place) next) [
        | true ↦ told
        | false ↦ elim (place_is g.place place) as (λ b.
            first_of (if b then Some g.thread else guard_of (still ended new) place) later
            ≡ first_of (if b then Some g.thread else guard_of (still ended gs) place) next) [
              | true ↦ refl
              | false ↦ told
            ]
      ]

  guard_added : (gs : List Guard) (t : ℕ) (p : Place)
      → Told (gs ++ record { thread = t; place = p } ∷ []) gs (if place_is p place && not (ended t) then Some t else later)
  unfolding still first_of
  guard_added [] t p = elim (ended t) as (λ b.
      first_of (guard_of (if not b then record { thread = t; place = p } ∷ [] else []) place) later
      ≡ (if place_is p place && not b then Some t else later)) [
        | true ↦ elim (place_is p place) as (λ b. later ≡ (if b && false then Some t else later)) [ true ↦ refl | false ↦ refl ]
        | false ↦ elim (place_is p place) as (λ b. first_of (if b then Some t else None) later
            ≡ (if b && true then Some t else later)) [ true ↦ refl | false ↦ refl ]
      ]
  guard_added (g ∷ gs) t p = guard_kept gs (gs ++ record { thread = t; place = p } ∷ []) g
      (if place_is p place && not (ended t) then Some t else later) (guard_added gs t p)

still_others : (ended : ℕ → Bool) (t : ℕ) (gs : List Guard)
    → still ended (filter (λ (g : Guard). not (nat_eq g.thread t)) gs) ≡ still (λ u. nat_eq u t || ended u) gs
unfolding still
still_others ended t [] = refl
still_others ended t (g ∷ gs) = elim (nat_eq g.thread t) as (λ b.
    still ended (if not b then g ∷ filter (λ (h : Guard). not (nat_eq h.thread t)) gs
    else filter (λ (h : Guard). not (nat_eq h.thread t)) gs)
    ≡ (if not (b || ended g.thread) then g ∷ still (λ u. nat_eq u t || ended u) gs else still (λ u. nat_eq u t || ended u) gs)) [
      | true ↦ still_others ended t gs
      | false ↦ ap (λ xs. if not (ended g.thread) then g ∷ xs else xs) (still_others ended t gs)
    ]

told_end : (place : Place) (known : Knowledge) (t : ℕ) (ended : ℕ → Bool) (later : Option ℕ) (outermost : Bool)
    → first_of (guard_of (still ended (after_end known t outermost).guards) place) later
    ≡ first_of (guard_of (still (λ u. (outermost && nat_eq u t) || ended u) known.guards) place) later
told_end place known t ended later true =
    ap (λ gs. first_of (guard_of gs place) later) (still_others ended t known.guards)
told_end place known t ended later false = refl

told_op : (place : Place) (known : Knowledge) (t : ℕ) (named : List ℕ) (ended : ℕ → Bool) (later : Option ℕ) (o : Op)
    → first_of (guard_of (still ended (known_after_op known t named o).guards) place) later
    ≡ first_of (guard_of (still (λ u. ends_region known t o u || ended u) known.guards) place)
    (if guards_place o place && not (ended t) then Some t else later)
unfolding known_after_op ends_region
told_op place known t named ended later (op.Guarded p) = guard_added place ended later known.guards t p
told_op place known t named ended later op.End = told_end place known t ended later (is_outermost known t)
told_op place known t named ended later o = refl

-- the guard after these acts is one that stands before them and that they leave, or else one of theirs
told : (place : Place) (acts : List Recorded) (known : Knowledge)
    → guard_of (known_after known acts).guards place
    ≡ first_of (guard_of (still (λ u. ended_in u known acts) known.guards) place) (open_guard place known acts)
unfolding ended_in open_guard
told place [] known =
    sym (ap (λ gs. first_of (guard_of gs place) None) (still_all known.guards) ∙ first_alone (guard_of known.guards place))
told place (a ∷ acts) known =
    told place acts (next_known known a)
    ∙ told_op place known a.act.thread a.named (λ u. ended_in u (next_known known a) acts)
    (open_guard place (next_known known a) acts) a.act.op

-- ---- depths

at_other : (f : Thread → Thread) (threads : List Thread) (u t : ℕ) → nat_eq u t ≡ false
    → slice_get (at_thread f threads u) t ≡ slice_get threads t
at_other f [] u t other = refl
at_other f (thread ∷ threads) zero zero other = absurd (let no : true ≡ false = other in cc)
at_other f (thread ∷ threads) zero (suc t) other = refl
at_other f (thread ∷ threads) (suc u) zero other = refl
at_other f (thread ∷ threads) (suc u) (suc t) other =
    at_other f threads u t (ne_eqb u t (λ e. eqb-false (suc u) (suc t) other (ap suc e)))

at_past : (f : Thread → Thread) (threads : List Thread) (t : ℕ) → length threads ≤ t → at_thread f threads t ≡ threads
at_past f [] t past = refl
at_past f (thread ∷ threads) zero past = absurd (omega (arith, past))
at_past f (thread ∷ threads) (suc t) past = ap (λ xs. thread ∷ xs) (at_past f threads t (omega (arith, past)))

-- a change that keeps each thread's depth
at_depth : (f : Thread → Thread) → ((thread : Thread) → (f thread).depth ≡ thread.depth) → (threads : List Thread)
    (u t : ℕ) → depth_in (slice_get (at_thread f threads u) t) ≡ depth_in (slice_get threads t)
at_depth f same [] u t = refl
at_depth f same (thread ∷ threads) zero zero = same thread
at_depth f same (thread ∷ threads) zero (suc t) = refl
at_depth f same (thread ∷ threads) (suc u) zero = refl
at_depth f same (thread ∷ threads) (suc u) (suc t) = at_depth f same threads u t

length-at_thread : (f : Thread → Thread) (threads : List Thread) (t : ℕ)
    → length (at_thread f threads t) ≡ length threads
length-at_thread f [] t = refl
length-at_thread f (thread ∷ threads) zero = refl
length-at_thread f (thread ∷ threads) (suc t) = ap suc (length-at_thread f threads t)

-- a thread that was just started is outside regions
pushed_depth : (threads : List Thread) (object : Option ℕ) (t : ℕ)
    → depth_in (slice_get (threads ++ new_thread object ∷ []) t) ≡ depth_in (slice_get threads t)
pushed_depth [] object zero = refl
pushed_depth [] object (suc t) = refl
pushed_depth (thread ∷ threads) object zero = refl
pushed_depth (thread ∷ threads) object (suc t) = pushed_depth threads object t

abbrev deeper : Thread → Thread
deeper thread = record thread { depth = suc thread.depth }

abbrev less_deep : Thread → Thread
less_deep thread = record thread { depth = pred thread.depth }

begun : (threads : List Thread) (t : ℕ) → t < length threads
    → depth_in (slice_get (at_thread deeper threads t) t) ≡ suc (depth_in (slice_get threads t))
begun [] t there = absurd (omega (arith, there))
begun (thread ∷ threads) zero there = refl
begun (thread ∷ threads) (suc t) there = begun threads t (omega (arith, there))

left : (threads : List Thread) (t : ℕ)
    → depth_in (slice_get (at_thread less_deep threads t) t) ≡ pred (depth_in (slice_get threads t))
left [] t = refl
left (thread ∷ threads) zero = refl
left (thread ∷ threads) (suc t) = left threads t

one_less : (d : ℕ) → pred d ≡ d - 1
one_less zero = refl
one_less (suc d) = omega arith

end_threads : (known : Knowledge) (t : ℕ) (outermost : Bool)
    → (after_end known t outermost).world.threads ≡ at_thread less_deep known.world.threads t
end_threads known t true = refl
end_threads known t false = refl

other_depth : (known : Knowledge) (t : ℕ) (named : List ℕ) (o : Op) (u : ℕ) → nat_eq t u ≡ false
    → depth_of (known_after_op known t named o).world u ≡ depth_of known.world u
unfolding known_after_op
other_depth known t named (op.Start object child) u other = pushed_depth known.world.threads (Some object) u
other_depth known t named op.Begin u other = ap depth_in (at_other deeper known.world.threads t u other)
other_depth known t named op.End u other =
    ap (λ threads. depth_in (slice_get threads u)) (end_threads known t (is_outermost known t))
    ∙ ap depth_in (at_other less_deep known.world.threads t u other)
other_depth known t named (op.Ended uncaught) u other =
    ap depth_in (at_other (λ thread. record thread { ended = true; uncaught = uncaught }) known.world.threads t u other)
other_depth known t named o u other = refl

own_begun : (threads : List Thread) (t : ℕ) (region : Region) (count : ℕ) (there : Bool)
    → nat_lt t (length threads) ≡ there → region.depth ≡ depth_in (slice_get threads t)
    → region.depth + 1 < 2 ^ 32
    → (region_after region op.Begin count there).depth ≡ depth_in (slice_get (at_thread deeper threads t) t)
own_begun threads t region count true there same few =
    let within = begun threads t (ltb-true t (length threads) there) in
    let least : min (region.depth + 1) (2 ^ 32 - 1) ≡ region.depth + 1 = omega (arith, few) in
    omega (arith, within, least, same)
own_begun threads t region count false there same few =
    same ∙ ap (λ ts. depth_in (slice_get ts t)) (sym (at_past deeper threads t (ltb-false t (length threads) there)))

own_depth : (known : Knowledge) (t : ℕ) (named : List ℕ) (o : Op) (region : Region) (count : ℕ)
    → region.depth ≡ depth_of known.world t → region.depth + 1 < 2 ^ 32
    → (region_after region o count (nat_lt t (length known.world.threads))).depth
    ≡ depth_of (known_after_op known t named o).world t
unfolding known_after_op
own_depth known t named (op.Start object child) region count same few =
    same ∙ sym (pushed_depth known.world.threads (Some object) t)
own_depth known t named op.Begin region count same few =
    own_begun known.world.threads t region count (nat_lt t (length known.world.threads)) refl same few
own_depth known t named op.End region count same few =
    ap (λ d. d - 1) same ∙ sym (one_less (depth_of known.world t)) ∙ sym (left known.world.threads t)
    ∙ sym (ap (λ threads. depth_in (slice_get threads t)) (end_threads known t (is_outermost known t)))
own_depth known t named (op.Ended uncaught) region count same few =
    same ∙ sym (at_depth (λ thread. record thread { ended = true; uncaught = uncaught }) (λ thread. refl)
    known.world.threads t t)
own_depth known t named o region count same few = same

threads_after : (known : Knowledge) (t : ℕ) (named : List ℕ) (o : Op)
    → length (known_after_op known t named o).world.threads ≡ threads_with (length known.world.threads) o
unfolding known_after_op
threads_after known t named (op.Start object child) =
    let more = length-append known.world.threads (new_thread (Some object) ∷ []) in omega (arith, more)
threads_after known t named op.Begin = length-at_thread deeper known.world.threads t
threads_after known t named op.End =
    ap length (end_threads known t (is_outermost known t)) ∙ length-at_thread less_deep known.world.threads t
threads_after known t named (op.Ended uncaught) =
    length-at_thread (λ thread. record thread { ended = true; uncaught = uncaught }) known.world.threads t
threads_after known t named o = refl

-- ---- regions that were read

region_depth : (region : Region) (o : Op) (count : ℕ) (there : Bool)
    → (region_after region o count there).depth ≤ suc region.depth
region_depth region op.Begin count true = omega arith
region_depth region op.Begin count false = omega arith
region_depth region op.End count there = omega arith
region_depth region o count there = omega arith

-- whether an operation of its thread ends the region
is_last : Region → Op → Bool
is_last region op.End = nat_eq region.depth 1
is_last region o = false

region_ended : (region : Region) (o : Op) (count : ℕ) (there : Bool)
    → (region_after region o count there).ended ≡ (if is_last region o then count else region.ended)
unfolding is_last
region_ended region op.Begin count true = refl
region_ended region op.Begin count false = refl
region_ended region op.End count there = refl
region_ended region o count there = refl

ends_last : (known : Knowledge) (t : ℕ) (o : Op) (u : ℕ) (region : Region) → region.depth ≡ depth_of known.world t
    → ends_region known t o u ≡ (is_last region o && nat_eq u t)
unfolding ends_region is_last
ends_last known t op.End u region same = ap (λ d. nat_eq d 1 && nat_eq u t) (sym same)
ends_last known t o u region same = refl

guard_goes_on : (region : Region) (o : Op) (place : Place) → guards_place o place ≡ true → is_last region o ≡ false
unfolding is_last
guard_goes_on region op.End place is = absurd (true≢false (sym is))
guard_goes_on region o place is = refl

abbrev region_at : List Region → ℕ → Region
region_at regions t = slice_index_or regions t no_region

record IsRead (known : Knowledge) (count threads : ℕ) (regions : List Region) : Type 0 where
  many : length regions ≡ 64
  there : length known.world.threads ≡ threads
  depths : (t : ℕ) → t < 64 → (region_at regions t).depth ≡ depth_of known.world t
  deep : (t : ℕ) → t < 64 → (region_at regions t).depth ≤ count
  before : (t : ℕ) → t < 64 → (region_at regions t).ended ≤ count

if_both : (b : Bool) (x y most : ℕ) → x ≤ most → y ≤ most → (if b then x else y) ≤ most
if_both true x y most left right = left
if_both false x y most left right = right

module _ (objects : List ℕ) where
  abbrev acts : List Held → List Recorded
  acts held = map (recorded objects) held

  module _ (known : Knowledge) (count threads : ℕ) (regions : List Region) (h : Held)
      (is : IsRead known count threads regions) (numbered : h.act.thread < 64) where
    abbrev actor : ℕ
    actor = h.act.thread

    abbrev old : Region
    old = region_at regions actor

    abbrev new : Region
    new = region_after old h.act.op (suc count) (nat_lt actor threads)

    abbrev then_regions : List Region
    then_regions = regions_with regions h.act (suc count) threads

    abbrev then_known : Knowledge
    then_known = next_known known (recorded objects h)

    own_region : region_at then_regions actor ≡ new
    own_region =
        let within : actor < length regions = omega (arith, is.many, numbered) in
        get_or-set_same regions actor new no_region within

    other_region : (t : ℕ) → t ≢ actor → region_at then_regions t ≡ region_at regions t
    other_region t other = get_or-set_other regions actor t new no_region other

    region_by : (P : ℕ → Region → Type 0) → P actor new → ((t : ℕ) → t ≢ actor → t < 64 → P t (region_at regions t))
        → (t : ℕ) → t < 64 → P t (region_at then_regions t)
    region_by P own others t below = elim (cases_eq t actor) [
      | inl same ↦ subst (λ n. P n (region_at then_regions n)) (sym same) (subst (P actor) (sym own_region) own)
      | inr other ↦ subst (P t) (sym (other_region t other)) (others t other below)
    ]

    -- reading one more act
    read_on : suc count < 2 ^ 32
        → IsRead then_known (suc count) (threads_with threads h.act.op) then_regions
    read_on few =
        let deep : old.depth ≤ count = is.deep actor numbered in
        record {
          many = length-set regions actor new ∙ is.many;
          there = threads_after known actor (recorded objects h).named h.act.op ∙ ap (λ n. threads_with n h.act.op) is.there;
          depths = region_by (λ t region. region.depth ≡ depth_of then_known.world t)
              (subst (λ n. (region_after old h.act.op (suc count) (nat_lt actor n)).depth ≡ depth_of then_known.world actor) is.there
              (own_depth known actor (recorded objects h).named h.act.op old (suc count) (is.depths actor numbered)
              (omega (arith, deep, few))))
              (λ t other below. is.depths t below
              ∙ sym (other_depth known actor (recorded objects h).named h.act.op t (ne_eqb actor t (λ e. other (sym e)))));
          deep = region_by (λ t region. region.depth ≤ suc count)
              (let most = region_depth old h.act.op (suc count) (nat_lt actor threads) in omega (arith, most, deep))
              (λ t other below. let most = is.deep t below in omega (arith, most));
          before = region_by (λ t region. region.ended ≤ suc count)
              (let last = is.before actor numbered in
              subst (λ n. n ≤ suc count) (sym (region_ended old h.act.op (suc count) (nat_lt actor threads)))
              (if_both (is_last old h.act.op) (suc count) old.ended (suc count) (omega arith) (omega (arith, last))))
              (λ t other below. let most = is.before t below in omega (arith, most));
        }

    -- when the region of a thread has ended last
    abbrev EndsHere : ℕ → Region → Type 0
    EndsHere t region = (ends_region known actor h.act.op t ≡ true → region.ended ≡ suc count)
        × (ends_region known actor h.act.op t ≡ false → region.ended ≡ (region_at regions t).ended)

    own_ends : (b : Bool) → is_last old h.act.op ≡ b → EndsHere actor new
    own_ends b last =
        let same : ends_region known actor h.act.op actor ≡ b =
        ends_last known actor h.act.op actor old (is.depths actor numbered)
        ∙ ap (λ c. c && nat_eq actor actor) last
        ∙ (rw (eq-eqb actor actor refl) (and_true b)) in
        let is_then : new.ended ≡ (if b then suc count else old.ended) =
        region_ended old h.act.op (suc count) (nat_lt actor threads) ∙ ap (λ c. if c then suc count else old.ended) last in (
          λ e. is_then ∙ ap (λ c. if c then suc count else old.ended) (sym same ∙ e),
          λ e. is_then ∙ ap (λ c. if c then suc count else old.ended) (sym same ∙ e),
        )
      where
        and_true : (c : Bool) → (c && true) ≡ c
        and_true true = refl
        and_true false = refl

    other_ends : (t : ℕ) → t ≢ actor → t < 64 → EndsHere t (region_at regions t)
    other_ends t other below =
        let none : ends_region known actor h.act.op t ≡ false =
        ends_last known actor h.act.op t old (is.depths actor numbered)
        ∙ ap (λ c. is_last old h.act.op && c) (ne_eqb t actor other)
        ∙ and_false (is_last old h.act.op) in
        (λ e. absurd (true≢false (sym e ∙ none)), λ e. refl)
      where
        and_false : (c : Bool) → (c && false) ≡ false
        and_false true = refl
        and_false false = refl

    ends_here : (t : ℕ) → t < 64 → EndsHere t (region_at then_regions t)
    ends_here = region_by EndsHere (own_ends (is_last old h.act.op) refl) other_ends

  -- the end of the region that is read last is later than now, if one follows, and else it is the last until now
  last_ends : (held : List Held) (known : Knowledge) (count threads : ℕ) (regions : List Region)
      → IsRead known count threads regions → All IsNumbered held → count + length held < 2 ^ 32 → (t : ℕ) → t < 64
      → (ended_in t known (acts held) ≡ true → count < (region_at (regions_from count threads regions held) t).ended)
      × (ended_in t known (acts held) ≡ false
      → (region_at (regions_from count threads regions held) t).ended ≡ (region_at regions t).ended)
  unfolding ended_in
  last_ends [] known count threads regions is numbered few t below = (λ e. absurd (true≢false (sym e)), λ e. refl)
  last_ends (h ∷ hs) known count threads regions is numbered few t below =
      let first = All-head IsNumbered h hs numbered in
      let next : suc count < 2 ^ 32 = omega (arith, few) in
      let here = ends_here known count threads regions h is first t below in
      let rest = last_ends hs (next_known known (recorded objects h)) (suc count) (threads_with threads h.act.op)
      (regions_with regions h.act (suc count) threads) (read_on known count threads regions h is first next)
      (All-tail IsNumbered h hs numbered) (omega (arith, few)) t below in
      let ends = ends_region known h.act.thread h.act.op t in
      let later = ended_in t (next_known known (recorded objects h)) (acts hs) in (
        λ e. elim (cases_Bool later) [
          | inl ends_later ↦ let past = rest.0 ends_later in omega (arith, past)
          | inr stays ↦ elim (or_cases ends later e) [
            | inl now ↦ let last = rest.1 stays in let this = here.0 now in omega (arith, last, this)
            | inr ends_later ↦ absurd (true≢false (sym ends_later ∙ stays))
          ]
        ],
        λ e. let parts = or_parts ends later e in rest.1 parts.1 ∙ here.1 parts.0,
      )

  -- the second reading finds what the acts tell
  module _ (place : Place) (h : Held) (hs : List Held) (known : Knowledge) (count threads : ℕ) (regions : List Region)
      (is : IsRead known count threads regions) (numbered : All IsNumbered (h ∷ hs))
      (few : count + suc (length hs) < 2 ^ 32) where
    abbrev known_then : Knowledge
    known_then = next_known known (recorded objects h)

    abbrev threads_then : ℕ
    threads_then = threads_with threads h.act.op

    abbrev read_then : List Region
    read_then = regions_with regions h.act (suc count) threads

    abbrev last : List Region
    last = regions_from (suc count) threads_then read_then hs

    abbrev later : Bool
    later = ended_in h.act.thread known_then (acts hs)

    first : h.act.thread < 64
    first = All-head IsNumbered h hs numbered

    on : IsRead known_then (suc count) threads_then read_then
    on = read_on known count threads regions h is first (omega (arith, few))

    ends : (later ≡ true → suc count < (region_at last h.act.thread).ended)
        × (later ≡ false → (region_at last h.act.thread).ended ≡ (region_at read_then h.act.thread).ended)
    ends = last_ends hs known_then (suc count) threads_then read_then on (All-tail IsNumbered h hs numbered)
        (omega (arith, few)) h.act.thread first

    open_now : guards_place h.act.op place ≡ true → (region_at read_then h.act.thread).ended ≤ count
    open_now guards =
        let before = region_at regions h.act.thread in
        let same : (region_at read_then h.act.thread).ended ≡ before.ended =
        ap (λ (r : Region). r.ended) (own_region known count threads regions h is first)
        ∙ region_ended before h.act.op (suc count) (nat_lt h.act.thread threads)
        ∙ ap (λ b. if b then suc count else before.ended) (guard_goes_on before h.act.op place guards) in
        let most = is.before h.act.thread first in
        omega (arith, same, most)

    same_test : (guards : Bool) → guards_place h.act.op place ≡ guards
        → (guards && nat_le (region_at last h.act.thread).ended count) ≡ (guards && not later)
    same_test false none = refl
    same_test true guards = elim (cases_Bool later) [
      | inl ends_later ↦
          let past = ends.0 ends_later in
          lt-leb (region_at last h.act.thread).ended count (omega (arith, past)) ∙ sym (ap not ends_later)
      | inr stays ↦
          let same = ends.1 stays in
          let most = open_now guards in
          le-leb (region_at last h.act.thread).ended count (omega (arith, same, most)) ∙ sym (ap not stays)
    ]

    found_on : first_guard last place (suc count) hs ≡ open_guard place known_then (acts hs)
        → first_guard (regions_from count threads regions (h ∷ hs)) place count (h ∷ hs)
        ≡ open_guard place known (acts (h ∷ hs))
    unfolding open_guard
    found_on rest =
        ap (λ b. if b then Some h.act.thread else first_guard last place (suc count) hs)
        (same_test (guards_place h.act.op place) refl)
        ∙ ap (λ (r : Option ℕ). if guards_place h.act.op place && not later then Some h.act.thread else r) rest

  found : (place : Place) (held : List Held) (known : Knowledge) (count threads : ℕ) (regions : List Region)
      → IsRead known count threads regions → All IsNumbered held → count + length held < 2 ^ 32
      → first_guard (regions_from count threads regions held) place count held ≡ open_guard place known (acts held)
  unfolding open_guard
  found place [] known count threads regions is numbered few = refl
  found place (h ∷ hs) known count threads regions is numbered few =
      found_on place h hs known count threads regions is numbered few
      (found place hs (next_known known (recorded objects h)) (suc count) (threads_with threads h.act.op)
      (regions_with regions h.act (suc count) threads)
      (read_on known count threads regions h is (All-head IsNumbered h hs numbered) (omega (arith, few)))
      (All-tail IsNumbered h hs numbered) (omega (arith, few)))

  -- before the first act
  first_read : (first : Knowledge) → IsOutsideRegions first → IsRead first 0 1 (replicate 64 no_region)
  first_read first outside = record {
    many = length-replicate 64 no_region;
    there = outside.one_thread;
    depths = λ t below. ap (λ (r : Region). r.depth) (none t below) ∙ sym (outside.outside t);
    deep = λ t below. let is = ap (λ (r : Region). r.depth) (none t below) in omega (arith, is);
    before = λ t below. let is = ap (λ (r : Region). r.ended) (none t below) in omega (arith, is);
  }
    where
      none : (t : ℕ) → t < 64 → region_at (replicate 64 no_region) t ≡ no_region
      none t below = get_or-replicate 64 t no_region no_region below

  pub guarded_by : (held : List Held) (place : Place) (first : Knowledge) → IsOutsideRegions first → All IsNumbered held
      → length held < 2 ^ 32
      → first_guard (regions_from 0 1 (replicate 64 no_region) held) place 0 held
      ≡ guard_of (known_after first (acts held)).guards place
  unfolding still first_of
  guarded_by held place first outside numbered few =
      found place held first 0 1 (replicate 64 no_region) (first_read first outside) numbered (omega (arith, few))
      ∙ sym (told place (acts held) first
      ∙ ap (λ gs. first_of (guard_of (still (λ u. ended_in u first (acts held)) gs) place) (open_guard place first (acts held)))
      outside.unguarded)
