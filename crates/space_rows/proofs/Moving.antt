-- What a move of an object leaves of a world.
use Rattle.std.proofs.Common.{◌≡◌, ◌≢◌, ◌⊎◌, inl, inr, ℕ, ◌+◌, ◌*◌, ◌-◌, ◌^◌, ◌<◌, ◌≤◌, Bool, true, false, List, [], ◌∷◌}
use Rattle.std.proofs.Common.{length, length-set, Option, Some, None, IsSome, refl, sym, ◌∙◌, ap, subst, rules, arith}
use Rattle.std.proofs.Common.{if◌then◌else◌}
use Rattle.std.specs.Prelude.{All, slice_set}
use Rattle.std.specs.List.{AllByRecursion}
use Rattle.std.proofs.lemmas.Bool.{false≢true}
use Rattle.std.proofs.lemmas.List.Elements.{All-cons, All-head, All-tail}
use Rattle.ap_base.specs.declared.reference.Ref.{Ref}
use Rattle.ap_base.specs.declared.reference.Ref.TheVariants.{Null as NoRef, Persistent, Volatile}
use Rattle.ap_base.specs.References.{reference_word}
use Rattle.run_types.specs.declared.key.Key.{Key}
use Rattle.run_types.specs.declared.key.Key.TheVariants as key
use Rattle.forwarding.specs.Forwards.{HasState, claim_answer}
use Rattle.forwarding.specs.declared.forward.Claimed.{Claimed as Answer}
use Rattle.forwarding.specs.declared.forward.Claimed.TheVariants.{Now, By, Already}
use Rattle.object_header.specs.declared.state.State.TheVariants.{Ordinary, Claimed, Copying, Converted, Durable}
use Rattle.object_header.specs.declared.state.State.{State}
use Rattle.monitors.specs.declared.monitor.Monitor.{Monitor}
use Rattle.monitors.specs.Held.{monitor_of, rekeyed}
use Rattle.monitors.specs.Keys.{is_key}
use Rattle.one_space.proofs.Laid.{some_is}
use Rattle.plain_model.specs.Facts.{SetFacts}
use Rattle.plain_model.specs.TypeLaws.{IsOfSet}
use Rattle.plain_model.specs.Typed.{IsTyped}
use Rattle.shared_objects.specs.declared.rest.Rest.{Rest}
use Rattle.shared_objects.specs.Shown.{IsKnown, Shown}
use Rattle.shared_objects.specs.Worlds.{IsHeldKey, heap_of}
use Rattle.step_forms.specs.Follows.{IsHeapOf}
use Rattle.step_forms.proofs.Making.{heap_is}
use Rattle.twin_forms.specs.Sights.{Twin, view_of}
use Rattle.twin_forms.specs.Table.{Entry, entry, Leads, Names, lines_of, state_in}
use Rattle.twin_forms.specs.Moves.{LiesAt, Moved, forwarded}
use Rattle.twin_forms.proofs.Led.{even_moved, odd_old, same_or_not}
use Rattle.twin_forms.proofs.Elsewhere.{entry_here, entry_other}
use Rattle.twin_heap.proofs.Reading.{there}
use Rattle.two_spaces.specs.Seen.{Spaces, current_word, number_in, shown_of}
use Rattle.two_spaces.specs.Whole.{Stands}
use Rattle.two_spaces.specs.Moving.{ChangesOneBehind, IsMove, MovesKey, SameCurrent, ShowsSame}
use Rattle.two_spaces.proofs.Numbering.{is_some, number_named}
use Rattle.two_spaces.proofs.Moved.{keys, monitors_stay, moves_key, one_line, shows, whole}
use Rattle.space_rows.specs.Worlds.{HoldsOf, LieBelow}
use Rattle.space_rows.proofs.Stepping.{all_kept}

-- ---- objects of the space

pub record ObjectAt (es : List Entry) (at : ℕ) : Type 0 where
  pub n : ℕ
  pub below : n < length es
  pub lies : LiesAt at (entry es n)
  pub names : Names (entry es n) (2 * at + 1)

module _ (s : Spaces) (es : List Entry) (h : Stands s es) where
  pub object_at : (r : Ref) (at : ℕ) → IsKnown (number_in (view_of s.twin)) r → r ≡ Volatile at → ObjectAt es at
  object_at r at known is =
      let some : IsSome (number_in (view_of s.twin) (Volatile at)) = subst (IsKnown (number_in (view_of s.twin))) is known in
      let x = some_is (number_in (view_of s.twin) (Volatile at)) some in
      let named = number_named (view_of s.twin) es x.0 (Volatile at) h.lies x.1 in
      record { n = x.0; below = named.0; lies = odd_old (entry es x.0) at named.1; names = named.1 }

  pub leads_at : (at : ℕ) → ObjectAt es at → Leads (view_of s.twin) (2 * at + 1)
  leads_at at o = (es, o.n, h.lies, o.below, o.names)

  -- its state is that of its entry
  pub state_is : (at : ℕ) (o : ObjectAt es at) (st : State)
      → ((x : State) → HasState s.twin.space.words at x → st ≡ x) → st ≡ state_in (entry es o.n)
  state_is at o st again =
      again (state_in (entry es o.n))
      (there s.twin.space s.twin.memory s.twin.marks es o.n at h.lies o.below o.names).state

-- the object of a reference that isn't null
pub record RefersTo (s : Spaces) (es : List Entry) (r : Ref) : Type 0 where
  pub n : ℕ
  pub number : number_in (view_of s.twin) r ≡ Some n
  pub below : n < length es
  pub names : Names (entry es n) (reference_word r)

module _ (s : Spaces) (es : List Entry) (h : Stands s es) where
  by_number : (r : Ref) → IsSome (number_in (view_of s.twin) r) → RefersTo s es r
  by_number r some =
      let x = some_is (number_in (view_of s.twin) r) some in
      let named = number_named (view_of s.twin) es x.0 r h.lies x.1 in
      record { n = x.0; number = x.1; below = named.0; names = named.1 }

  pub refers_to : (r : Ref) → IsKnown (number_in (view_of s.twin)) r → (r ≢ NoRef) → RefersTo s es r
  refers_to NoRef known other = absurd (other refl)
  refers_to (Persistent line) known other = by_number (Persistent line) known
  refers_to (Volatile at) known other = by_number (Volatile at) known

-- ---- tables

pub below_set : (next : ℕ) (es : List Entry) (n : ℕ) (e : Entry) → LieBelow next es → n < length es
    → (0 < e.stage → e.line + lines_of e ≤ next) → LieBelow next (slice_set es n e)
below_set next es n e below ln here m lm placed = elim (same_or_not m n) [
  | inl same ↦
      (let is : entry (slice_set es n e) m ≡ e = ap (λ k. entry (slice_set es n e) k) same ∙ entry_here es n e ln in
      subst (λ x. x.line + lines_of x ≤ next) (sym is) (here (subst (λ x. 0 < x.stage) is placed)))
  | inr other ↦
      (let is : entry (slice_set es n e) m ≡ entry es m = entry_other es n m e other in
      let long = length-set es n e in
      subst (λ x. x.line + lines_of x ≤ next) (sym is)
      (below m (omega (arith, lm, long)) (subst (λ x. 0 < x.stage) is placed)))
]

pub behind_set : (es : List Entry) (n : ℕ) (e : Entry) → n < length es
    → ((m : ℕ) → m < length es → 0 < (entry es m).stage → 33 ≤ (entry es m).line) → (0 < e.stage → 33 ≤ e.line)
    → (m : ℕ) → m < length (slice_set es n e) → 0 < (entry (slice_set es n e) m).stage
    → 33 ≤ (entry (slice_set es n e) m).line
behind_set es n e ln behind here m lm placed = elim (same_or_not m n) [
  | inl same ↦
      (let is : entry (slice_set es n e) m ≡ e = ap (λ k. entry (slice_set es n e) k) same ∙ entry_here es n e ln in
      subst (λ x. 33 ≤ x.line) (sym is) (here (subst (λ x. 0 < x.stage) is placed)))
  | inr other ↦
      (let is : entry (slice_set es n e) m ≡ entry es m = entry_other es n m e other in
      let long = length-set es n e in
      subst (λ x. 33 ≤ x.line) (sym is) (behind m (omega (arith, lm, long)) (subst (λ x. 0 < x.stage) is placed)))
]

pub current_set : (es : List Entry) (n : ℕ) (e : Entry) → n < length es → current_word e ≡ current_word (entry es n)
    → SameCurrent es (slice_set es n e)
current_set es n e ln same m lm = elim (same_or_not m n) [
  | inl is ↦ (ap (λ k. current_word (entry (slice_set es n e) k)) is ∙ ap current_word (entry_here es n e ln) ∙ same
      ∙ ap (λ k. current_word (entry es k)) (sym is))
  | inr other ↦ ap current_word (entry_other es n m e other)
]

pub a_move : (s : Spaces) (t' : Twin) (es : List Entry) (n : ℕ) (e : Entry) → Stands s es → n < length es
    → Moved (view_of s.twin) es (view_of t') (slice_set es n e) → t'.marks.kinds ≡ s.twin.marks.kinds
    → t'.space.left ≡ s.twin.space.left → ChangesOneBehind s.twin t' → (0 < e.stage → 33 ≤ e.line)
    → IsMove s t' es (slice_set es n e)
a_move s t' es n e h ln moved kinds left changes behind = record {
  stands = h;
  moved = moved;
  kinds = kinds;
  left = left;
  spares = one_line s.twin t' changes;
  behind = behind_set es n e ln h.behind behind;
}

-- ---- worlds

module _ (set : SetFacts) (s : Spaces) (t' : Twin) (es' : List Entry) (rest : Rest) (refs : List Ref)
    (next next_now acts entered : ℕ) (h : HoldsOf set s rest refs next acts entered)
    (m : IsMove s t' h.table es') where
  same : ShowsSame (shown_of s) (shown_of (record s { twin = t' }))
  same = shows s t' h.table es' m

  heap_same : heap_of [] (shown_of (record s { twin = t' })) ≡ heap_of [] (shown_of s)
  heap_same = heap_is [] (shown_of (record s { twin = t' })) (shown_of s).shapes (shown_of s).objects (shown_of s).statics same.shapes
      same.objects same.statics

  heap_on : IsHeapOf set (shown_of (record s { twin = t' }))
  heap_on = record {
    consistent = h.agrees.heap.consistent;
    of_set = subst (IsOfSet set) (sym heap_same) h.agrees.heap.of_set;
    typed = subst (IsTyped set) (sym heap_same) h.agrees.heap.typed;
  }

  module _ (below : LieBelow next_now es') (more : 33 ≤ next_now) (size : t'.memory.size ≡ s.twin.memory.size) where
    -- by a move that changes no key
    pub after_move : SameCurrent h.table es' → HoldsOf set (record s { twin = t' }) rest refs next_now acts entered
    after_move current = record {
      table = es';
      whole = record {
        stands = whole s t' h.table es' m;
        below = below;
        long = subst (λ n. 33 ≤ n) (sym size) h.whole.long;
        behind = more;
      };
      agrees = record {
        heap = heap_on;
        classes = h.agrees.classes;
        monitors = monitors_stay (shown_of s) (shown_of (record s { twin = t' })) rest same.keeps (keys s t' h.table es' m current)
            h.agrees.monitors;
        counts = h.agrees.counts;
      };
      counted = h.counted;
      few = h.few;
      known = all_kept (shown_of s).number (shown_of (record s { twin = t' })).number refs same.keeps h.known;
    }

-- One entry of the table has changed, and no key.
pub set_holds : (set : SetFacts) (s : Spaces) (t' : Twin) (rest : Rest) (refs : List Ref)
    (next next_now acts entered : ℕ) (h : HoldsOf set s rest refs next acts entered) (n : ℕ) (e : Entry)
    → n < length h.table → Moved (view_of s.twin) h.table (view_of t') (slice_set h.table n e)
    → t'.marks.kinds ≡ s.twin.marks.kinds → t'.space.left ≡ s.twin.space.left → ChangesOneBehind s.twin t'
    → (0 < e.stage → (33 ≤ e.line) × (e.line + lines_of e ≤ next_now)) → next ≤ next_now
    → t'.memory.size ≡ s.twin.memory.size → current_word e ≡ current_word (entry h.table n)
    → HoldsOf set (record s { twin = t' }) rest refs next_now acts entered
set_holds set s t' rest refs next next_now acts entered h n e ln moved kinds left changes placed le size current =
    let m = a_move s t' h.table n e h.whole.stands ln moved kinds left changes (λ p. (placed p).0) in
    let more = h.whole.behind in
    let below : LieBelow next_now (slice_set h.table n e) =
    below_set next_now h.table n e (λ k lk p. let b = h.whole.below k lk p in omega (arith, b, le)) ln (λ p. (placed p).1) in
    after_move set s t' (slice_set h.table n e) rest refs next next_now acts entered h m below (omega (arith, more, le))
    size (current_set h.table n e ln current)

-- of an entry that lies where it lay
pub as_it_lay : (set : SetFacts) (s : Spaces) (rest : Rest) (refs : List Ref) (next acts entered : ℕ)
    (h : HoldsOf set s rest refs next acts entered) (n : ℕ) → n < length h.table → 0 < (entry h.table n).stage
    → (33 ≤ (entry h.table n).line) × ((entry h.table n).line + lines_of (entry h.table n) ≤ next)
as_it_lay set s rest refs next acts entered h n ln placed =
    (h.whole.stands.behind n ln placed, h.whole.below n ln placed)

pub same_twin : (t t' : Twin) → t'.space ≡ t.space → t'.memory ≡ t.memory → t'.marks ≡ t.marks → t' ≡ t
same_twin t t' a b c =
    ap (λ x. record { space = x; memory = t'.memory; marks = t'.marks }) a
    ∙ ap (λ x. record { space = t.space; memory = x; marks = t'.marks }) b
    ∙ ap (λ x. record { space = t.space; memory = t.memory; marks = x }) c

-- ---- claims

pub now_or : (a : Answer) → (a ≡ Now) ⊎ (a ≢ Now)
now_or Now = inl refl
now_or (By u) = inr (λ e. cc)
now_or Already = inr (λ e. cc)

pub ordinary : (st : State) → claim_answer st ≡ Now → st ≡ Ordinary
ordinary Ordinary e = refl
ordinary (Claimed u) e = cc
ordinary (Copying u line) e = cc
ordinary (Converted u line) e = cc
ordinary (Durable line) e = cc

-- ---- monitors after a forward

module _ (P : ℕ → Type 0) where
  pub all_rekeyed : (ms : List Monitor) (from to : Key Ref) → All (λ (m : Monitor). P m.count) ms
      → All (λ (m : Monitor). P m.count) (rekeyed ms from to)
  all_rekeyed [] from to all = all
  all_rekeyed (m ∷ ms) from to all =
      let first : P m.count = All-head (λ (x : Monitor). P x.count) m ms all in
      let rest = All-tail (λ (x : Monitor). P x.count) m ms all in
      elim (is_key m.key from) as (λ b. All (λ (x : Monitor). P x.count) (if b then record m { key = to } ∷ ms else m ∷ rekeyed ms from to)) [
        | true ↦ All-cons (λ (x : Monitor). P x.count) (record m { key = to }) ms first rest
        | false ↦ All-cons (λ (x : Monitor). P x.count) m (rekeyed ms from to) first (all_rekeyed ms from to rest)
      ]

pub rekeyed_long : (ms : List Monitor) (from to : Key Ref) → length (rekeyed ms from to) ≡ length ms
rekeyed_long [] from to = refl
rekeyed_long (m ∷ ms) from to =
    let r = rekeyed_long ms from to in
    elim (is_key m.key from) as (λ b. length (if b then record m { key = to } ∷ ms else m ∷ rekeyed ms from to) ≡ length (m ∷ ms)) [
      | true ↦ refl
      | false ↦ omega (arith, r)
    ]

same_key : (r : Ref) → is_key (key.Object r) (key.Object r) ≡ true
same_key NoRef = search rules
same_key (Persistent line) = search rules
same_key (Volatile at) = search rules

is_line : (k : Key Ref) (line : ℕ) → is_key k (key.Object (Persistent line)) ≡ true → k ≡ key.Object (Persistent line)
is_line (key.Class c) line e = cc
is_line (key.Object NoRef) line e = cc
is_line (key.Object (Volatile at)) line e = cc
is_line (key.Object (Persistent l)) line e =
    let same : l ≡ line = search (rules, e) in ap (λ (x : ℕ). key.Object (Persistent x)) same

module _ (before now : Shown) (n at line : ℕ) (same : ShowsSame before now) (moves : MovesKey before now n at line) where
  stays : (k : Key Ref) → is_key k (key.Object (Volatile at)) ≡ false → IsHeldKey before k → IsHeldKey now k
  stays (key.Class c) other held = tt
  stays (key.Object r) other held =
      let some = some_is (before.number r) held.0 in (
        is_some (now.number r) some.0 (same.keeps r some.0 some.1),
        moves.others r (λ e. false≢true (sym other
            ∙ subst (λ (x : Ref). is_key (key.Object x) (key.Object (Volatile at)) ≡ true) (sym e)
            (same_key (Volatile at)))) held.1,
      )

  moved_key : IsHeldKey now (key.Object (Persistent line))
  moved_key = (is_some (now.number (Persistent line)) n moves.number, moves.is)

  one_by : (m : Monitor) (b : Bool) → is_key m.key (key.Object (Volatile at)) ≡ b → IsHeldKey before m.key
      → AllByRecursion (λ (x : Monitor). IsHeldKey now x.key)
      (if b then record m { key = key.Object (Persistent line) } ∷ [] else m ∷ [])
  one_by m true is held = (moved_key, tt)
  one_by m false is held = (stays m.key is held, tt)

  -- where at most one is held
  pub one_rekeyed : (ms : List Monitor) → length ms ≤ 1
      → AllByRecursion (λ (m : Monitor). IsHeldKey before m.key) ms
      → AllByRecursion (λ (m : Monitor). IsHeldKey now m.key)
      (rekeyed ms (key.Object (Volatile at)) (key.Object (Persistent line)))
  one_rekeyed [] le all = tt
  one_rekeyed (m ∷ []) le all = one_by m (is_key m.key (key.Object (Volatile at))) refl all.0
  one_rekeyed (m ∷ m' ∷ ms) le all = absurd (omega (arith, le))

-- Nobody holds a monitor under the reference to a copy that isn't current.
module _ (s : Spaces) (es : List Entry) (h : Stands s es) (n : ℕ) (ln : n < length es) (stage : (entry es n).stage ≡ 1) where
  no_number : (k : ℕ) → number_in (view_of s.twin) (Persistent (entry es n).line) ≡ Some k → ⊥
  no_number k is =
      let named = number_named (view_of s.twin) es k (Persistent (entry es n).line) h.lies is in
      let moved = even_moved (entry es k) (entry es n).line named.1 in
      elim (same_or_not k n) [
        | inl same ↦
            (let two : 2 ≤ (entry es n).stage = subst (λ x. 2 ≤ (entry es x).stage) same moved.0 in
            omega (arith, two, stage))
        | inr other ↦ elim (h.lies.table.copy_apart k n named.0 ln other (omega (arith, moved)) (omega (arith, stage))) [
          | inl a ↦ omega (arith, a, moved)
          | inr b ↦ omega (arith, b, moved)
        ]
      ]

  not_held : (k : Key Ref) → IsHeldKey (shown_of s) k
      → is_key k (key.Object (Persistent (entry es n).line)) ≡ true → ⊥
  not_held k held is =
      let here = subst (IsHeldKey (shown_of s)) (is_line k (entry es n).line is) held in
      let some = some_is (number_in (view_of s.twin) (Persistent (entry es n).line)) here.0 in
      no_number some.0 some.1

  free_by : (m : Monitor) (o : Option Monitor) (b : Bool) → IsHeldKey (shown_of s) m.key
      → is_key m.key (key.Object (Persistent (entry es n).line)) ≡ b → o ≡ None → (if b then Some m else o) ≡ None
  free_by m o true held is none = absurd (not_held m.key held is)
  free_by m o false held is none = none

  pub is_free : (ms : List Monitor) → AllByRecursion (λ (m : Monitor). IsHeldKey (shown_of s) m.key) ms
      → monitor_of ms (key.Object (Persistent (entry es n).line)) ≡ None
  is_free [] all = refl
  is_free (m ∷ ms) all =
      free_by m (monitor_of ms (key.Object (Persistent (entry es n).line)))
      (is_key m.key (key.Object (Persistent (entry es n).line))) all.0 refl (is_free ms all.1)

abbrev pub rest_at : Rest → (at line : ℕ) → Rest
rest_at rest at line = record rest {
  monitors = rekeyed rest.monitors (key.Object (Volatile at)) (key.Object (Persistent line));
}

-- A forward, with the object's monitor under its new key.
pub forward_holds : (set : SetFacts) (s : Spaces) (t' : Twin) (rest : Rest) (refs : List Ref)
    (next acts entered : ℕ) (h : HoldsOf set s rest refs next acts entered) (n : ℕ) → n < length h.table
    → (entry h.table n).stage ≡ 1 → entered ≤ 1
    → Moved (view_of s.twin) h.table (view_of t') (slice_set h.table n (forwarded (entry h.table n)))
    → t'.marks.kinds ≡ s.twin.marks.kinds → t'.space.left ≡ s.twin.space.left → t'.memory ≡ s.twin.memory
    → HoldsOf set (record s { twin = t' }) (rest_at rest (entry h.table n).at (entry h.table n).line) refs next acts entered
forward_holds set s t' rest refs next acts entered h n ln stage one moved kinds left memory =
    let e = entry h.table n in
    let m = a_move s t' h.table n (forwarded e) h.whole.stands ln moved kinds left (inl memory)
    (λ p. h.whole.stands.behind n ln (omega (arith, stage))) in
    let same = shows s t' h.table (slice_set h.table n (forwarded e)) m in
    let moves = moves_key s t' h.table n ln stage m in
    let few = h.few in
    let held = one_rekeyed (shown_of s) (shown_of (record s { twin = t' })) n e.at e.line same moves rest.monitors
    (omega (arith, few, one)) h.agrees.monitors in
    let long = rekeyed_long rest.monitors (key.Object (Volatile e.at)) (key.Object (Persistent e.line)) in
    record {
      table = slice_set h.table n (forwarded e);
      whole = record {
        stands = whole s t' h.table (slice_set h.table n (forwarded e)) m;
        below = below_set next h.table n (forwarded e) h.whole.below ln
            (λ p. h.whole.below n ln (omega (arith, stage)));
        long = subst (λ x. 33 ≤ x) (sym (ap (λ x. x.size) memory)) h.whole.long;
        behind = h.whole.behind;
      };
      agrees = record {
        heap = heap_on set s t' (slice_set h.table n (forwarded e)) rest refs next next acts entered h m;
        classes = h.agrees.classes;
        monitors = held;
        counts = record {
          monitors = all_rekeyed (λ k. k < 2 ^ 64 - 1) rest.monitors (key.Object (Volatile e.at)) (key.Object (Persistent e.line))
              h.agrees.counts.monitors;
          threads = h.agrees.counts.threads;
        };
      };
      counted = record {
        monitors = all_rekeyed (λ k. k ≤ acts) rest.monitors (key.Object (Volatile e.at)) (key.Object (Persistent e.line))
            h.counted.monitors;
        threads = h.counted.threads;
      };
      few = omega (arith, few, long);
      known = all_kept (shown_of s).number (shown_of (record s { twin = t' })).number refs same.keeps h.known;
    }
