-- Acts keep the marks in order.
use Rattle.std.proofs.Common.{◌≡◌, inl, inr, ℕ, zero, suc, Bool, true, false, ◌||◌, not, List, [], ◌∷◌, ◌++◌, Option, Some}
use Rattle.std.proofs.Common.{None, refl, sym, ◌∙◌, ap, subst, arith, nat_eq, if◌then◌else◌, cond}
use Rattle.std.specs.Prelude.{filter}
use Rattle.std.specs.List.{AllByRecursion}
use Rattle.std.proofs.lemmas.Bool.{cases_Bool, true≢false, eqb-true, or_parts, and_right}
use Rattle.ap_base.specs.declared.place.Place.{Place}
use Rattle.ap_base.specs.declared.place.Place.TheVariants.{Static, Slot}
use Rattle.graph_model.specs.declared.types.Value.{Value}
use Rattle.graph_model.specs.declared.types.Root.{Root}
use Rattle.graph_model.specs.declared.types.Heap.{Heap}
use Rattle.graph_model.specs.Heaps.{has_number, is_kept_slot, stored, place_is}
use Rattle.run_history.specs.declared.act.Op.{Op}
use Rattle.run_history.specs.declared.act.Op.TheVariants as op
use Rattle.run_history.specs.Recorded.{Recorded}
use Rattle.run_history.specs.Worlds.{heap_after_op, heap_after, depth_of}
use Rattle.run_history.specs.Knowing.{Fate, Sure, Open, Closing, Single, Mark, Knowledge, Guard, guard_of, fenced, closed}
use Rattle.run_history.specs.Knowing.{ended, each_fate, with_sure, store_fate, durable_at, is_root, is_outermost}
use Rattle.run_history.specs.Knowing.{without_number, Unfenced, owes_fence, unfenced_at, without_fenced, known_after_op}
use Rattle.run_history.specs.Knowing.{next_known, after_stored, after_end}
use Rattle.run_history.specs.Laws.{is_closing_of}
use Rattle.run_history.proofs.Grown.{owes_fence-without, owes_fence-neither}
use Rattle.run_history.proofs.KeptLists.{heap_after-append}
use Rattle.stop_theorem.specs.Choices.{stores_at}
use Rattle.stop_theorem.specs.Orderly.{ops_of_marks, is_single_of, is_region_of, SinglesAreAt, NoSingleOf, HasSingles}
use Rattle.stop_theorem.specs.Orderly.{LosesStores, IsGuardedStore, is_among_durable, IsSureElsewhere, is_open_of, NoneOpen}
use Rattle.stop_theorem.specs.Orderly.{NoneClosing, IsOrderly, KeepsRule}
use Rattle.stop_theorem.proofs.Joint.{same_place, is_same_place}
use Rattle.stop_theorem.proofs.Marks.{ops_each, still_guarded_by, guard_added}
use Rattle.run_history.proofs.Sizes.{stored-sizes}

-- ---- lists

all_push : (P : Mark → Type 0) (ms : List Mark) (m : Mark) → AllByRecursion P ms → P m
    → AllByRecursion P (ms ++ m ∷ [])
all_push P [] m all this = (this, tt)
all_push P (x ∷ ms) m all this = (all.0, all_push P ms m all.1 this)

all_map : (P Q : Mark → Type 0) (f : Fate → Fate)
    → ((m : Mark) → P m → Q (record { fate = f m.fate; op = m.op })) → (ms : List Mark) → AllByRecursion P ms
    → AllByRecursion Q (each_fate f ms)
all_map P Q f g [] all = tt
all_map P Q f g (m ∷ ms) all = (g m all.0, all_map P Q f g ms all.1)

all_weaker : (P Q : Mark → Type 0) → ((m : Mark) → P m → Q m) → (ms : List Mark) → AllByRecursion P ms
    → AllByRecursion Q ms
all_weaker P Q g [] all = tt
all_weaker P Q g (m ∷ ms) all = (g m all.0, all_weaker P Q g ms all.1)

ops_push : (ms : List Mark) (m : Mark) → ops_of_marks (ms ++ m ∷ []) ≡ ops_of_marks ms ++ m.op ∷ []
ops_push [] m = refl
ops_push (x ∷ ms) m = ap (λ xs. x.op ∷ xs) (ops_push ms m)

-- ---- fates that a change doesn't make single, lost or a region's

either : (P : Fate → Type 0) (b : Bool) (x y : Fate) → P x → P y → P (if b then x else y)
either P true x y a c = a
either P false x y a c = c

-- a change of fates
pub record Changes (f : Fate → Fate) : Type 0 where
  pub sure : f Sure ≡ Sure
  pub single : (t : ℕ) (fate : Fate) → is_single_of t fate ≡ false → is_single_of t (f fate) ≡ false
  pub region : (t : ℕ) (fate : Fate) → is_region_of t fate ≡ false → is_region_of t (f fate) ≡ false
  pub opens : (t : ℕ) (fate : Fate) → is_open_of t fate ≡ false → is_open_of t (f fate) ≡ false

pub fenced_changes : (u : ℕ) → Changes (fenced u)
fenced_changes u = record { sure = refl; single = single; region = region; opens = opens }
  where
    single : (t : ℕ) (fate : Fate) → is_single_of t fate ≡ false → is_single_of t (fenced u fate) ≡ false
    single t Sure h = refl
    single t (Open v) h = refl
    single t (Closing v) h = refl
    single t (Single v) h = either (λ k. is_single_of t k ≡ false) (nat_eq v u) Sure (Single v) refl h

    region : (t : ℕ) (fate : Fate) → is_region_of t fate ≡ false → is_region_of t (fenced u fate) ≡ false
    region t Sure h = refl
    region t (Open v) h = h
    region t (Closing v) h = h
    region t (Single v) h = either (λ k. is_region_of t k ≡ false) (nat_eq v u) Sure (Single v) refl refl

    opens : (t : ℕ) (fate : Fate) → is_open_of t fate ≡ false → is_open_of t (fenced u fate) ≡ false
    opens t Sure h = refl
    opens t (Open v) h = h
    opens t (Closing v) h = refl
    opens t (Single v) h = either (λ k. is_open_of t k ≡ false) (nat_eq v u) Sure (Single v) refl refl

pub closed_changes : (u : ℕ) → Changes (closed u)
closed_changes u = record { sure = refl; single = single; region = region; opens = opens }
  where
    single : (t : ℕ) (fate : Fate) → is_single_of t fate ≡ false → is_single_of t (closed u fate) ≡ false
    single t Sure h = refl
    single t (Open v) h = either (λ k. is_single_of t k ≡ false) (nat_eq v u) (Closing v) (Open v) refl refl
    single t (Closing v) h = refl
    single t (Single v) h = h

    region : (t : ℕ) (fate : Fate) → is_region_of t fate ≡ false → is_region_of t (closed u fate) ≡ false
    region t Sure h = refl
    region t (Open v) h = either (λ k. is_region_of t k ≡ false) (nat_eq v u) (Closing v) (Open v) h h
    region t (Closing v) h = h
    region t (Single v) h = refl

    opens : (t : ℕ) (fate : Fate) → is_open_of t fate ≡ false → is_open_of t (closed u fate) ≡ false
    opens t Sure h = refl
    opens t (Open v) h = either (λ k. is_open_of t k ≡ false) (nat_eq v u) (Closing v) (Open v) refl h
    opens t (Closing v) h = refl
    opens t (Single v) h = refl

pub ended_changes : (u : ℕ) → Changes (ended u)
ended_changes u = record { sure = refl; single = single; region = region; opens = opens }
  where
    single : (t : ℕ) (fate : Fate) → is_single_of t fate ≡ false → is_single_of t (ended u fate) ≡ false
    single t Sure h = refl
    single t (Open v) h = either (λ k. is_single_of t k ≡ false) (nat_eq v u) Sure (Open v) refl refl
    single t (Closing v) h = either (λ k. is_single_of t k ≡ false) (nat_eq v u) Sure (Closing v) refl refl
    single t (Single v) h = h

    region : (t : ℕ) (fate : Fate) → is_region_of t fate ≡ false → is_region_of t (ended u fate) ≡ false
    region t Sure h = refl
    region t (Open v) h = either (λ k. is_region_of t k ≡ false) (nat_eq v u) Sure (Open v) refl h
    region t (Closing v) h = either (λ k. is_region_of t k ≡ false) (nat_eq v u) Sure (Closing v) refl h
    region t (Single v) h = refl

    opens : (t : ℕ) (fate : Fate) → is_open_of t fate ≡ false → is_open_of t (ended u fate) ≡ false
    opens t Sure h = refl
    opens t (Open v) h = either (λ k. is_open_of t k ≡ false) (nat_eq v u) Sure (Open v) refl h
    opens t (Closing v) h = either (λ k. is_open_of t k ≡ false) (nat_eq v u) Sure (Closing v) refl refl
    opens t (Single v) h = refl

not_then : (b c : Bool) → (b ≡ false → c ≡ false) → c ≡ true → b ≡ true
not_then true c f is = refl
not_then false c f is = absurd (true≢false (sym is ∙ f refl))

singles_map : (f : Fate → Fate) → Changes f → (ms : List Mark) → HasSingles ms → HasSingles (each_fate f ms)
singles_map f ch [] all = tt
singles_map f ch (m ∷ ms) all = (
  λ t is. all_map (λ (n : Mark). is_single_of t n.fate ≡ false)
      (λ (n : Mark). is_single_of t n.fate ≡ false) f (λ n h. ch.single t n.fate h) ms
      (all.0 t (not_then (is_single_of t m.fate) (is_single_of t (f m.fate)) (ch.single t m.fate) is)),
  singles_map f ch ms all.1,
)

singles_push : (ms : List Mark) (m : Mark) → ((t : ℕ) → is_single_of t m.fate ≡ true → NoSingleOf t ms)
    → HasSingles ms → HasSingles (ms ++ m ∷ [])
singles_push [] m none all = (λ t is. tt, tt)
singles_push (x ∷ ms) m none all = (
  λ t is. all_push (λ (n : Mark). is_single_of t n.fate ≡ false) ms m (all.0 t is)
      (elim (cases_Bool (is_single_of t m.fate)) [
        | inl mine ↦ absurd (true≢false (sym is ∙ (none t mine).0))
        | inr isnt ↦ isnt
      ]),
  singles_push ms m (λ t is. (none t is).1) all.1,
)

-- ---- what every change keeps

abbrev IsAt : Place → ℕ → Mark → Type 0
IsAt p t m = is_single_of t m.fate ≡ true → stores_at p m.op ≡ true

none_placed : (p : Place) (t : ℕ) (ms : List Mark) → NoSingleOf t ms → SinglesAreAt p t ms
none_placed p t ms none =
    all_weaker (λ (m : Mark). is_single_of t m.fate ≡ false) (IsAt p t)
    (λ m isnt is. absurd (true≢false (sym is ∙ isnt))) ms none

-- fates changed, then a sure act
abbrev among : Knowledge → Place → Bool
among known p = is_among_durable known.world.heap known.durable p

module _ (first : Heap) (known : Knowledge) (o : Op) (f : Fate → Fate) (ch : Changes f)
    (s : IsOrderly first known) where
  abbrev changed : List Mark
  changed = with_sure (each_fate f known.marks) o

  lost_changed : AllByRecursion LosesStores changed
  lost_changed = all_push LosesStores (each_fate f known.marks) (record { fate = Sure; op = o })
      (all_map LosesStores LosesStores f (λ m h isnt. ap f (h isnt) ∙ ch.sure) known.marks s.lost)
      (λ isnt. refl)

  singles_changed : HasSingles changed
  singles_changed = singles_push (each_fate f known.marks) (record { fate = Sure; op = o })
      (λ t is. absurd (true≢false (sym is))) (singles_map f ch known.marks s.singles)

  heap_changed : (h : Heap) → h ≡ heap_after_op known.world.heap o
      → h ≡ heap_after first (ops_of_marks changed)
  heap_changed h is = is ∙ ap (λ (k : Heap). heap_after_op k o) s.heap
      ∙ sym (heap_after-append first (ops_of_marks known.marks) (o ∷ []))
      ∙ ap (heap_after first) (ap (λ xs. xs ++ o ∷ []) (sym (ops_each f known.marks))
      ∙ sym (ops_push (each_fate f known.marks) (record { fate = Sure; op = o })))

  guarded_changed : (next : Knowledge)
      → ((t : ℕ) (p : Place) → guard_of known.guards p ≡ Some t → (fate : Fate)
      → is_region_of t (f fate) ≡ true → guard_of next.guards p ≡ Some t)
      → AllByRecursion (IsGuardedStore next) changed
  guarded_changed next keeps = all_push (IsGuardedStore next) (each_fate f known.marks)
      (record { fate = Sure; op = o })
      (all_map (IsGuardedStore known) (IsGuardedStore next) f
      (λ m h t p region stores. keeps t p
      (h t p (not_then (is_region_of t m.fate) (is_region_of t (f m.fate))
      (ch.region t m.fate) region) stores) m.fate region) known.marks s.guarded)
      (λ t p region stores. absurd (true≢false (sym region)))

  elsewhere_changed : (next : Knowledge)
      → ((p : Place) → among next p ≡ false → among known p ≡ false)
      → AllByRecursion (IsSureElsewhere next) changed
  elsewhere_changed next less = all_push (IsSureElsewhere next) (each_fate f known.marks)
      (record { fate = Sure; op = o })
      (all_map (IsSureElsewhere known) (IsSureElsewhere next) f
      (λ m h p stores isnt. ap f (h p stores (less p isnt)) ∙ ch.sure) known.marks s.elsewhere)
      (λ p stores isnt. refl)

  owed_changed : (t : ℕ) → NoSingleOf t known.marks → NoSingleOf t changed
  owed_changed t none = all_push (λ (m : Mark). is_single_of t m.fate ≡ false) (each_fate f known.marks)
      (record { fate = Sure; op = o })
      (all_map (λ (m : Mark). is_single_of t m.fate ≡ false) (λ (m : Mark). is_single_of t m.fate ≡ false) f
      (λ m h. ch.single t m.fate h) known.marks none) refl

  placed_changed : (t : ℕ) (p : Place) → SinglesAreAt p t known.marks → SinglesAreAt p t changed
  placed_changed t p all = all_push (IsAt p t) (each_fate f known.marks) (record { fate = Sure; op = o })
      (all_map (IsAt p t) (IsAt p t) f (λ m h is. h
      (not_then (is_single_of t m.fate) (is_single_of t (f m.fate)) (ch.single t m.fate) is)) known.marks all)
      (λ is. absurd (true≢false (sym is)))

  open_changed : (t : ℕ) → NoneOpen t known.marks → NoneOpen t changed
  open_changed t none = all_push (λ (m : Mark). is_open_of t m.fate ≡ false) (each_fate f known.marks)
      (record { fate = Sure; op = o })
      (all_map (λ (m : Mark). is_open_of t m.fate ≡ false) (λ (m : Mark). is_open_of t m.fate ≡ false) f
      (λ m h. ch.opens t m.fate h) known.marks none) refl

  closing_changed : (t : ℕ)
      → ((fate : Fate) → is_closing_of t fate ≡ false → is_closing_of t (f fate) ≡ false)
      → NoneClosing t known.marks → NoneClosing t changed
  closing_changed t keeps none = all_push (λ (m : Mark). is_closing_of t m.fate ≡ false)
      (each_fate f known.marks) (record { fate = Sure; op = o })
      (all_map (λ (m : Mark). is_closing_of t m.fate ≡ false) (λ (m : Mark). is_closing_of t m.fate ≡ false) f
      (λ m h. keeps m.fate h) known.marks none) refl

each_id : (ms : List Mark) → each_fate (λ fate. fate) ms ≡ ms
each_id [] = refl
each_id (m ∷ ms) = ap (λ xs. m ∷ xs) (each_id ms)

id_changes : Changes (λ fate. fate)
id_changes = record { sure = refl; single = λ t fate h. h; region = λ t fate h. h; opens = λ t fate h. h }

-- by a change of fates and a sure act
make : (first : Heap) (known next : Knowledge) (o : Op) (f : Fate → Fate) → Changes f → IsOrderly first known
    → next.marks ≡ with_sure (each_fate f known.marks) o
    → next.world.heap ≡ heap_after_op known.world.heap o
    → ((t : ℕ) (p : Place) → guard_of known.guards p ≡ Some t → (fate : Fate) → is_region_of t (f fate) ≡ true
    → guard_of next.guards p ≡ Some t)
    → ((p : Place) → among next p ≡ false → among known p ≡ false)
    → ((t : ℕ) → owes_fence next.unfenced t ≡ false → NoSingleOf t (with_sure (each_fate f known.marks) o))
    → ((t : ℕ) (p : Place) → unfenced_at next.unfenced t ≡ Some p
    → SinglesAreAt p t (with_sure (each_fate f known.marks) o))
    → ((t : ℕ) → has_number next.closing t ≡ true → NoneOpen t (with_sure (each_fate f known.marks) o))
    → ((t : ℕ) → has_number next.closing t ≡ false → NoneClosing t (with_sure (each_fate f known.marks) o))
    → IsOrderly first next
make first known next o f ch s marks heap guards durable owed placed closing opened = record {
  heap = heap_changed first known o f ch s next.world.heap heap
      ∙ ap (λ ms. heap_after first (ops_of_marks ms)) (sym marks);
  lost = rw marks (lost_changed first known o f ch s);
  singles = rw marks (singles_changed first known o f ch s);
  owed = λ t h. subst (λ ms. NoSingleOf t ms) (sym marks) (owed t h);
  placed = λ t p h. subst (λ ms. SinglesAreAt p t ms) (sym marks) (placed t p h);
  guarded = subst (λ ms. AllByRecursion (IsGuardedStore next) ms) (sym marks)
      (guarded_changed first known o f ch s next guards);
  elsewhere = subst (λ ms. AllByRecursion (IsSureElsewhere next) ms) (sym marks)
      (elsewhere_changed first known o f ch s next durable);
  closing = λ t h. subst (λ ms. NoneOpen t ms) (sym marks) (closing t h);
  opened = λ t h. subst (λ ms. NoneClosing t ms) (sym marks) (opened t h);
}

-- ---- stores that aren't fenced

-- the place, or else another
or_place : Place → Option Place → Place
or_place x None = x
or_place x (Some y) = y

some_place : (x y : Place) → Some x ≡ Some y → x ≡ y
unfolding or_place
some_place x y e = ap (or_place x) e

unfenced-other : (us : List Unfenced) (new : Unfenced) (t : ℕ) → nat_eq new.thread t ≡ false
    → unfenced_at (us ++ new ∷ []) t ≡ unfenced_at us t
unfenced-other [] new t other = rw other refl
unfenced-other (u ∷ us) new t other =
    ap (λ (o : Option Place). if nat_eq u.thread t then Some u.place else o) (unfenced-other us new t other)

unfenced-own : (us : List Unfenced) (new : Unfenced) (t : ℕ) → owes_fence us t ≡ false
    → nat_eq new.thread t ≡ true
    → unfenced_at (us ++ new ∷ []) t ≡ Some new.place
unfenced-own [] new t owes mine = rw mine refl
unfenced-own (u ∷ us) new t owes mine =
    let parts = or_parts (nat_eq u.thread t) (owes_fence us t) owes in
    rw parts.0 (unfenced-own us new t parts.1 mine)

unfenced-without : (us : List Unfenced) (t u : ℕ) → nat_eq u t ≡ false
    → unfenced_at (without_fenced us t) u ≡ unfenced_at us u
unfenced-without [] t u other = refl
unfenced-without (n ∷ us) t u other =
    let Same : Bool → Type 0 = λ b.
    unfenced_at (cond (not b) (n ∷ without_fenced us t)
    (without_fenced us t)) u ≡ (if nat_eq n.thread u then Some n.place else unfenced_at us u) in
    elim (nat_eq n.thread t) as (λ b. nat_eq n.thread t ≡ b → Same b) [
      | true ↦ λ e.
          let same : n.thread ≡ t = eqb-true n.thread t e in
          let isnt : nat_eq n.thread u ≡ false = grind (arith, same, other) in
          rw isnt (unfenced-without us t u other)
      | false ↦ λ e. ap (λ (o : Option Place). if nat_eq n.thread u then Some n.place else o)
          (unfenced-without us t u other)
    ] refl

-- ---- lists of threads

without_false : (ns : List ℕ) (t u : ℕ) → nat_eq u t ≡ false → has_number (without_number ns t) u ≡ false
    → has_number ns u ≡ false
without_false [] t u other h = refl
without_false (n ∷ ns) t u other h =
    elim (nat_eq n t) as (λ b. nat_eq n t ≡ b
    → has_number (cond (not b) (n ∷ without_number ns t) (without_number ns t)) u ≡ false
    → (nat_eq n u || has_number ns u) ≡ false) [
      | true ↦ λ e rest.
          let same : n ≡ t = eqb-true n t e in
          let isnt : nat_eq n u ≡ false = grind (arith, same, other) in
          rw isnt (without_false ns t u other rest)
      | false ↦ λ e both. let parts = or_parts (nat_eq n u) (has_number (without_number ns t) u) both in
          rw parts.0 (without_false ns t u other parts.1)
    ] refl h

neither : (ns : List ℕ) (t u : ℕ) → has_number (ns ++ t ∷ []) u ≡ false → (has_number ns u ≡ false)
    × (nat_eq t u ≡ false)
neither [] t u h = (refl, (or_parts (nat_eq t u) false h).0)
neither (n ∷ ns) t u h =
    let parts = or_parts (nat_eq n u) (has_number (ns ++ t ∷ []) u) h in
    let rest = neither ns t u parts.1 in
    (rw parts.0 rest.0, rest.1)

fewer_false : (ns ms : List ℕ) (n : ℕ) → has_number (ns ++ ms) n ≡ false → has_number ns n ≡ false
fewer_false [] ms n h = refl
fewer_false (k ∷ ns) ms n h = let parts = or_parts (nat_eq k n) (has_number (ns ++ ms) n) h in
    rw parts.0 (fewer_false ns ms n parts.1)

-- ---- durable places

roots_op : (h : Heap) (o : Op) → (heap_after_op h o).roots ≡ h.roots
roots_op h (op.Stored q x) = (stored-sizes h q x).roots
roots_op h (op.Alloc n shape count) = refl
roots_op h (op.Throw n class) = refl
roots_op h o = refl

among_op : (h : Heap) (ds : List ℕ) (o : Op) (p : Place)
    → is_among_durable (heap_after_op h o) ds p ≡ is_among_durable h ds p
among_op h ds o (Static n) = ap (λ (rs : List Root). is_root rs n) (roots_op h o)
among_op h ds o (Slot n i) = refl

among_joined : (h : Heap) (ds ns : List ℕ) (p : Place) → is_among_durable h (ds ++ ns) p ≡ false
    → is_among_durable h ds p ≡ false
among_joined h ds ns (Static n) isnt = isnt
among_joined h ds ns (Slot n i) isnt = fewer_false ds ns n isnt

-- what is no durable object's place isn't durable
not_durable : (known : Knowledge) (p : Place) → among known p ≡ false → durable_at known p ≡ false
not_durable known (Static n) isnt = isnt
not_durable known (Slot n i) isnt =
    and_right (is_kept_slot known.world.heap n i) (has_number known.durable n) isnt

-- ---- each act

fenced_none : (t : ℕ) (ms : List Mark) → NoSingleOf t (each_fate (fenced t) ms)
fenced_none t [] = tt
fenced_none t (m ∷ ms) = (own m.fate, fenced_none t ms)
  where
    own : (fate : Fate) → is_single_of t (fenced t fate) ≡ false
    own Sure = refl
    own (Open u) = refl
    own (Closing u) = refl
    own (Single u) = elim (nat_eq u t) as (λ b. nat_eq u t ≡ b
        → is_single_of t (if b then Sure else Single u) ≡ false) [ true ↦ λ e. refl | false ↦ λ e. e ] refl

-- guards of others stay at an end
still_guarded : (guards : List Guard) (t u : ℕ) (p : Place) → nat_eq u t ≡ false → guard_of guards p ≡ Some u
    → guard_of (filter (λ g. not (nat_eq g.thread t)) guards) p ≡ Some u
still_guarded guards t u p other is = still_guarded_by guards t u p other is

-- a store of the thread's region that has ended
ended_region : (t u : ℕ) (fate : Fate) → is_region_of u (ended t fate) ≡ true → nat_eq u t ≡ false
ended_region t u Sure is = absurd (true≢false (sym is))
ended_region t u (Single v) is = absurd (true≢false (sym is))
ended_region t u (Open v) is = elim (nat_eq v t) as (λ b. nat_eq v t ≡ b
    → is_region_of u (if b then Sure else Open v) ≡ true → nat_eq u t ≡ false) [
      | true ↦ λ e h. absurd (true≢false (sym h))
      | false ↦ λ e h. ap (λ k. nat_eq k t) (sym (eqb-true v u h)) ∙ e
    ] refl is
ended_region t u (Closing v) is = elim (nat_eq v t) as (λ b. nat_eq v t ≡ b
    → is_region_of u (if b then Sure else Closing v) ≡ true → nat_eq u t ≡ false) [
      | true ↦ λ e h. absurd (true≢false (sym h))
      | false ↦ λ e h. ap (λ k. nat_eq k t) (sym (eqb-true v u h)) ∙ e
    ] refl is

without_true : (ns : List ℕ) (t u : ℕ) → has_number (without_number ns t) u ≡ true → has_number ns u ≡ true
without_true [] t u h = h
without_true (n ∷ ns) t u h =
    elim (nat_eq n t) as (λ b. has_number
    (cond (not b) (n ∷ without_number ns t) (without_number ns t)) u ≡ true
    → (nat_eq n u || has_number ns u) ≡ true) [
      | true ↦ λ rest. or_right (nat_eq n u) (has_number ns u) (without_true ns t u rest)
      | false ↦ λ both. elim (nat_eq n u) as (λ b. (b || has_number (without_number ns t) u) ≡ true
          → (b || has_number ns u) ≡ true) [
            | true ↦ λ _. refl
            | false ↦ λ rest. without_true ns t u rest
          ] both
    ] h
  where
    or_right : (a b : Bool) → b ≡ true → (a || b) ≡ true
    or_right true b h = refl
    or_right false b h = h

other_has : (ns : List ℕ) (t u : ℕ) → nat_eq u t ≡ false → has_number (ns ++ t ∷ []) u ≡ has_number ns u
other_has [] t u other = let isnt : nat_eq t u ≡ false = grind (arith, other) in rw isnt refl
other_has (n ∷ ns) t u other = ap (λ b. nat_eq n u || b) (other_has ns t u other)

-- ---- regions that close and end

fenced_keeps : (t u : ℕ) (fate : Fate) → is_closing_of u fate ≡ false
    → is_closing_of u (fenced t fate) ≡ false
fenced_keeps t u Sure h = refl
fenced_keeps t u (Open v) h = refl
fenced_keeps t u (Closing v) h = h
fenced_keeps t u (Single v) h = either (λ k. is_closing_of u k ≡ false) (nat_eq v t) Sure (Single v) refl refl

ended_keeps : (t u : ℕ) (fate : Fate) → is_closing_of u fate ≡ false → is_closing_of u (ended t fate) ≡ false
ended_keeps t u Sure h = refl
ended_keeps t u (Open v) h = either (λ k. is_closing_of u k ≡ false) (nat_eq v t) Sure (Open v) refl refl
ended_keeps t u (Closing v) h = either (λ k. is_closing_of u k ≡ false) (nat_eq v t) Sure (Closing v) refl h
ended_keeps t u (Single v) h = refl

closed_keeps : (t u : ℕ) → nat_eq t u ≡ false → (fate : Fate) → is_closing_of u fate ≡ false
    → is_closing_of u (closed t fate) ≡ false
closed_keeps t u other Sure h = refl
closed_keeps t u other (Open v) h =
    elim (nat_eq v t) as (λ b. nat_eq v t ≡ b → is_closing_of u (if b then Closing v else Open v) ≡ false) [
      | true ↦ λ e. ap (λ k. nat_eq k u) (eqb-true v t e) ∙ other
      | false ↦ λ e. refl
    ] refl
closed_keeps t u other (Closing v) h = h
closed_keeps t u other (Single v) h = refl

ended_none : (t : ℕ) (ms : List Mark) → NoneClosing t (each_fate (ended t) ms)
ended_none t [] = tt
ended_none t (m ∷ ms) = (own m.fate, ended_none t ms)
  where
    own : (fate : Fate) → is_closing_of t (ended t fate) ≡ false
    own Sure = refl
    own (Open u) = either (λ k. is_closing_of t k ≡ false) (nat_eq u t) Sure (Open u) refl refl
    own (Closing u) = elim (nat_eq u t) as (λ b. nat_eq u t ≡ b
        → is_closing_of t (if b then Sure else Closing u) ≡ false) [ true ↦ λ e. refl | false ↦ λ e. e ] refl
    own (Single u) = refl

closed_none : (t : ℕ) (ms : List Mark) → NoneOpen t (each_fate (closed t) ms)
closed_none t [] = tt
closed_none t (m ∷ ms) = (own m.fate, closed_none t ms)
  where
    own : (fate : Fate) → is_open_of t (closed t fate) ≡ false
    own Sure = refl
    own (Open u) = elim (nat_eq u t) as (λ b. nat_eq u t ≡ b
        → is_open_of t (if b then Closing u else Open u) ≡ false) [ true ↦ λ e. refl | false ↦ λ e. e ] refl
    own (Closing u) = refl
    own (Single u) = refl

module _ (first : Heap) (known : Knowledge) (t : ℕ) (named : List ℕ) (s : IsOrderly first known) where
  -- a sure act that leaves guards and durable objects, or adds to them
  sure_act : (next : Knowledge) (o : Op) → next.marks ≡ with_sure known.marks o
      → next.world.heap ≡ heap_after_op known.world.heap o
      → ((u : ℕ) (p : Place) → guard_of known.guards p ≡ Some u → guard_of next.guards p ≡ Some u)
      → ((p : Place) → among next p ≡ false → among known p ≡ false)
      → next.unfenced ≡ known.unfenced → next.closing ≡ known.closing → IsOrderly first next
  sure_act next o marks heap guards durable unfenced closing =
      make first known next o (λ fate. fate) id_changes s
      (marks ∙ ap (λ ms. with_sure ms o) (sym (each_id known.marks))) heap
      (λ u p g fate _. guards u p g) durable
      (λ u h. owed_changed first known o (λ fate. fate) id_changes s u
      (s.owed u (ap (λ us. owes_fence us u) (sym unfenced) ∙ h)))
      (λ u p h. placed_changed first known o (λ fate. fate) id_changes s u p
      (s.placed u p (ap (λ us. unfenced_at us u) (sym unfenced) ∙ h)))
      (λ u h. open_changed first known o (λ fate. fate) id_changes s u
      (s.closing u (ap (λ ns. has_number ns u) (sym closing) ∙ h)))
      (λ u h. closing_changed first known o (λ fate. fate) id_changes s u (λ fate k. k)
      (s.opened u (ap (λ ns. has_number ns u) (sym closing) ∙ h)))

  -- a store of this fate
  stored_act : (next : Knowledge) (p : Place) (v : Value) (fate : Fate)
      → next.marks ≡ known.marks ++ record { fate = fate; op = op.Stored p v } ∷ []
      → next.world.heap ≡ stored known.world.heap p v → next.guards ≡ known.guards
      → next.durable ≡ known.durable
      → ((u : ℕ) → is_single_of u fate ≡ true → NoSingleOf u known.marks)
      → ((u : ℕ) → is_region_of u fate ≡ true → guard_of known.guards p ≡ Some u)
      → (durable_at known p ≡ false → fate ≡ Sure)
      → ((u : ℕ) → owes_fence next.unfenced u ≡ false
      → (owes_fence known.unfenced u ≡ false) × (is_single_of u fate ≡ false))
      → ((u : ℕ) (q : Place) → unfenced_at next.unfenced u ≡ Some q
      → SinglesAreAt q u known.marks × (is_single_of u fate ≡ true → place_is p q ≡ true))
      → next.closing ≡ known.closing
      → ((u : ℕ) → has_number known.closing u ≡ true → is_open_of u fate ≡ false)
      → ((u : ℕ) → has_number known.closing u ≡ false → is_closing_of u fate ≡ false)
      → IsOrderly first next
  stored_act next p v fate marks heap guards durables single region sure owed placed closing not_open
      not_closing =
      let m : Mark = record { fate = fate; op = op.Stored p v } in
      let durable : (q : Place) → among next q ≡ among known q = λ q.
      ap (λ (h : Heap). is_among_durable h next.durable q) heap
      ∙ ap (λ ds. is_among_durable (stored known.world.heap p v) ds q) durables
      ∙ among_op known.world.heap known.durable (op.Stored p v) q in
      record {
        heap = heap ∙ ap (λ (h : Heap). stored h p v) s.heap
            ∙ sym (heap_after-append first (ops_of_marks known.marks) (op.Stored p v ∷ []))
            ∙ ap (heap_after first) (sym (ops_push known.marks m))
            ∙ ap (λ ms. heap_after first (ops_of_marks ms)) (sym marks);
        lost = rw marks (all_push LosesStores known.marks m s.lost (λ isnt. absurd (true≢false isnt)));
        singles = rw marks (singles_push known.marks m single s.singles);
        owed = λ u h. subst (λ ms. NoSingleOf u ms) (sym marks)
            (let o = owed u h in all_push (λ (n : Mark). is_single_of u n.fate ≡ false) known.marks m
            (s.owed u o.0) o.1);
        placed = λ u q h. subst (λ ms. SinglesAreAt q u ms) (sym marks)
            (let o = placed u q h in all_push (IsAt q u) known.marks m o.0 o.1);
        guarded = subst (λ ms. AllByRecursion (IsGuardedStore next) ms) (sym marks)
            (all_push (IsGuardedStore next) known.marks m
            (all_weaker (IsGuardedStore known) (IsGuardedStore next)
            (λ n h u q r x. ap (λ g. guard_of g q) guards ∙ h u q r x) known.marks s.guarded)
            (λ u q r x. ap (λ g. guard_of g q) guards ∙ ap (guard_of known.guards) (sym (same_place p q x))
            ∙ region u r));
        elsewhere = subst (λ ms. AllByRecursion (IsSureElsewhere next) ms) (sym marks)
            (all_push (IsSureElsewhere next) known.marks m
            (all_weaker (IsSureElsewhere known) (IsSureElsewhere next)
            (λ n h q x isnt. h q x (sym (durable q) ∙ isnt)) known.marks s.elsewhere)
            (λ q x isnt. sure (not_durable known p
            (ap (λ y. among known y) (same_place p q x) ∙ sym (durable q) ∙ isnt))));
        closing = λ u h. subst (λ ms. NoneOpen u ms) (sym marks)
            (let k : has_number known.closing u ≡ true = ap (λ ns. has_number ns u) (sym closing) ∙ h in
            all_push (λ (n : Mark). is_open_of u n.fate ≡ false) known.marks m (s.closing u k)
            (not_open u k));
        opened = λ u h. subst (λ ms. NoneClosing u ms) (sym marks)
            (let k : has_number known.closing u ≡ false = ap (λ ns. has_number ns u) (sym closing) ∙ h in
            all_push (λ (n : Mark). is_closing_of u n.fate ≡ false) known.marks m (s.opened u k)
            (not_closing u k));
      }

  -- a thread whose region is closing isn't one whose isn't
  apart_closing : (b : Bool) → has_number known.closing t ≡ b → (u : ℕ) → has_number known.closing u ≡ not b
      → nat_eq t u ≡ false
  apart_closing b is u other = elim (cases_Bool (nat_eq t u)) [
    | inr isnt ↦ isnt
    | inl same ↦ absurd (differ b (sym is ∙ ap (λ k. has_number known.closing k) (eqb-true t u same) ∙ other))
  ]
    where
      differ : (b : Bool) → b ≡ not b → ⊥
      differ true e = true≢false e
      differ false e = true≢false (sym e)

  -- a single store is where its fence is owed
  single_placed : (us : List Unfenced) (u : ℕ) (p : Place) (w : ℕ) (q : Place) → owes_fence us u ≡ false
      → NoSingleOf u known.marks
      → (unfenced_at us w ≡ Some q → SinglesAreAt q w known.marks)
      → unfenced_at (us ++ record { thread = u; place = p } ∷ []) w ≡ Some q
      → SinglesAreAt q w known.marks × (is_single_of w (Single u) ≡ true → place_is p q ≡ true)
  single_placed us u p w q owes none placed h = elim (cases_Bool (nat_eq u w)) [
    | inl mine ↦ (
        let same : u ≡ w = eqb-true u w mine in
        let here = unfenced-own us (record { thread = u; place = p }) w
        (subst (λ k. owes_fence us k ≡ false) same owes) mine in
        let at : p ≡ q = some_place p q (sym here ∙ h) in (
          none_placed q w known.marks (subst (λ k. NoSingleOf k known.marks) same none),
          λ is.
              subst (λ (x : Place). place_is p x ≡ true) at (is_same_place p),
        ))
    | inr other ↦ (
      placed (sym (unfenced-other us (record { thread = u; place = p }) w other) ∙ h),
      λ is. absurd (true≢false (sym is ∙ other)),
    )
  ]

  by_fate : (p : Place) (v : Value) → KeepsRule known t (op.Stored p v) → (d : Bool) (depth : ℕ)
      (closing : Bool) → durable_at known p ≡ d → depth_of known.world t ≡ depth
      → has_number known.closing t ≡ closing
      → IsOrderly first (after_stored known t p v (store_fate t d depth closing))
  by_fate p v rule false depth closing is at_depth c =
      stored_act (after_stored known t p v Sure) p v Sure refl refl refl refl
      (λ u h. absurd (true≢false (sym h))) (λ u h. absurd (true≢false (sym h))) (λ h. refl)
      (λ u h. (h, refl)) (λ u q h. (s.placed u q h, λ is. absurd (true≢false (sym is)))) refl
      (λ u h. refl) (λ u h. refl)
  by_fate p v rule true zero closing is at_depth c =
      stored_act (after_stored known t p v (Single t)) p v (Single t) refl refl refl refl
      (λ u h. subst (λ k. NoSingleOf k known.marks) (eqb-true t u h) (s.owed t rule.0))
      (λ u h. absurd (true≢false (sym h))) (λ h. absurd (true≢false (sym is ∙ h)))
      (λ u h. owes_fence-neither known.unfenced (record { thread = t; place = p }) u h)
      (λ u q h. single_placed known.unfenced t p u q rule.0 (s.owed t rule.0) (s.placed u q) h) refl
      (λ u h. refl) (λ u h. refl)
  by_fate p v rule true (suc depth) true is at_depth c =
      stored_act (after_stored known t p v (Closing t)) p v (Closing t) refl refl refl refl
      (λ u h. absurd (true≢false (sym h)))
      (λ u h. rule.1 is (λ z. absurd (omega (arith, z, at_depth))) ∙ ap (λ k. Some k) (eqb-true t u h))
      (λ h. absurd (true≢false (sym is ∙ h))) (λ u h. (h, refl))
      (λ u q h. (s.placed u q h, λ single. absurd (true≢false (sym single)))) refl
      (λ u h. refl) (λ u h. apart_closing true c u h)
  by_fate p v rule true (suc depth) false is at_depth c =
      stored_act (after_stored known t p v (Open t)) p v (Open t) refl refl refl refl
      (λ u h. absurd (true≢false (sym h)))
      (λ u h. rule.1 is (λ z. absurd (omega (arith, z, at_depth))) ∙ ap (λ k. Some k) (eqb-true t u h))
      (λ h. absurd (true≢false (sym is ∙ h))) (λ u h. (h, refl))
      (λ u q h. (s.placed u q h, λ single. absurd (true≢false (sym single)))) refl
      (λ u h. apart_closing false c u h) (λ u h. refl)

  end_act : (b : Bool) → IsOrderly first (after_end known t b)
  end_act true = make first known (after_end known t true) op.End (ended t) (ended_changes t) s refl refl
      (λ u p g fate region. still_guarded known.guards t u p (ended_region t u fate region) g) (λ p h. h)
      (λ u h. owed_changed first known op.End (ended t) (ended_changes t) s u (s.owed u h))
      (λ u q h. placed_changed first known op.End (ended t) (ended_changes t) s u q (s.placed u q h))
      (λ u h. open_changed first known op.End (ended t) (ended_changes t) s u
      (s.closing u (without_true known.closing t u h)))
      (λ u h. elim (cases_Bool (nat_eq u t)) [
        | inl mine ↦ subst (λ k. NoneClosing k (with_sure (each_fate (ended t) known.marks) op.End))
            (sym (eqb-true u t mine))
            (all_push (λ (m : Mark). is_closing_of t m.fate ≡ false) (each_fate (ended t) known.marks)
            (record { fate = Sure; op = op.End }) (ended_none t known.marks) refl)
        | inr other ↦ closing_changed first known op.End (ended t) (ended_changes t) s u (ended_keeps t u)
            (s.opened u (without_false known.closing t u other h))
      ])
  end_act false = sure_act (after_end known t false) op.End refl refl (λ u p g. g) (λ p h. h) refl refl

  pub orderly_op : (o : Op) → KeepsRule known t o → IsOrderly first (known_after_op known t named o)
  unfolding known_after_op
  orderly_op (op.Stored p v) rule = by_fate p v rule (durable_at known p) (depth_of known.world t)
      (has_number known.closing t) refl refl refl
  orderly_op op.End rule = end_act (is_outermost known t)
  orderly_op op.Fenced rule =
      make first known (known_after_op known t named op.Fenced) op.Fenced (fenced t)
      (fenced_changes t) s refl refl (λ u p g fate _. g) (λ p h. h)
      (λ u h. elim (cases_Bool (nat_eq u t)) [
        | inl mine ↦ subst (λ k. NoSingleOf k (with_sure (each_fate (fenced t) known.marks) op.Fenced))
            (sym (eqb-true u t mine))
            (all_push (λ (m : Mark). is_single_of t m.fate ≡ false) (each_fate (fenced t) known.marks)
            (record { fate = Sure; op = op.Fenced }) (fenced_none t known.marks) refl)
        | inr other ↦ owed_changed first known op.Fenced (fenced t) (fenced_changes t) s u
            (s.owed u (sym (owes_fence-without known.unfenced t u other) ∙ h))
      ])
      (λ u q h. elim (cases_Bool (nat_eq u t)) [
        | inl mine ↦ none_placed q u (with_sure (each_fate (fenced t) known.marks) op.Fenced)
            (subst (λ k. NoSingleOf k (with_sure (each_fate (fenced t) known.marks) op.Fenced))
            (sym (eqb-true u t mine))
            (all_push (λ (m : Mark). is_single_of t m.fate ≡ false) (each_fate (fenced t) known.marks)
            (record { fate = Sure; op = op.Fenced }) (fenced_none t known.marks) refl))
        | inr other ↦ placed_changed first known op.Fenced (fenced t) (fenced_changes t) s u q
            (s.placed u q (sym (unfenced-without known.unfenced t u other) ∙ h))
      ])
      (λ u h. open_changed first known op.Fenced (fenced t) (fenced_changes t) s u (s.closing u h))
      (λ u h. closing_changed first known op.Fenced (fenced t) (fenced_changes t) s u (fenced_keeps t u)
      (s.opened u h))
  orderly_op op.Closing rule =
      make first known (known_after_op known t named op.Closing) op.Closing (closed t)
      (closed_changes t) s refl refl (λ u p g fate _. g) (λ p h. h)
      (λ u h. owed_changed first known op.Closing (closed t) (closed_changes t) s u (s.owed u h))
      (λ u q h. placed_changed first known op.Closing (closed t) (closed_changes t) s u q (s.placed u q h))
      (λ u h. elim (cases_Bool (nat_eq u t)) [
        | inl mine ↦ subst (λ k. NoneOpen k (with_sure (each_fate (closed t) known.marks) op.Closing))
            (sym (eqb-true u t mine))
            (all_push (λ (m : Mark). is_open_of t m.fate ≡ false) (each_fate (closed t) known.marks)
            (record { fate = Sure; op = op.Closing }) (closed_none t known.marks) refl)
        | inr other ↦ open_changed first known op.Closing (closed t) (closed_changes t) s u
            (s.closing u (sym (other_has known.closing t u other) ∙ h))
      ])
      (λ u h. let n = neither known.closing t u h in
      closing_changed first known op.Closing (closed t) (closed_changes t) s u (closed_keeps t u n.1)
      (s.opened u n.0))
  orderly_op op.Joined rule = sure_act (known_after_op known t named op.Joined) op.Joined refl refl
      (λ u p g. g) (λ p h. among_joined known.world.heap known.durable named p h) refl refl
  orderly_op (op.Guarded p) rule = sure_act (known_after_op known t named (op.Guarded p))
      (op.Guarded p) refl refl (λ u q g. guard_added known.guards (record { thread = t; place = p }) q u g)
      (λ q h. h) refl refl
  orderly_op (op.Asked p v) rule = sure_act (known_after_op known t named (op.Asked p v))
      (op.Asked p v) refl refl (λ u q g. g) (λ q h. h) refl refl
  orderly_op o rule = sure_act (known_after_op known t named o) o refl refl (λ u q g. g)
      (λ q h. sym (among_op known.world.heap known.durable o q) ∙ h) refl refl

pub orderly_next : (first : Heap) (known : Knowledge) (a : Recorded) → IsOrderly first known
    → KeepsRule known a.act.thread a.act.op → IsOrderly first (next_known known a)
orderly_next first known a s rule =
    let o = orderly_op first known a.act.thread a.named s a.act.op rule in
    record {
      heap = o.heap;
      lost = o.lost;
      singles = o.singles;
      owed = o.owed;
      placed = o.placed;
      guarded =
          o.guarded;
      elsewhere = o.elsewhere;
      closing = o.closing;
      opened = o.opened;
    }
