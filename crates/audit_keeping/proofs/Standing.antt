-- What is kept stands for the acts with one more.
use Rattle.std.proofs.Common.{◌≡◌, ◌⊎◌, inl, inr, ℕ, ◌<◌, ◌≤◌, Bool, true, false, ◌&&◌, ◌||◌, nat_eq, List, [], ◌∷◌, ◌++◌, map, filter, length, length-append, get_or, Option, Some, None, refl, sym, ◌∙◌, ap, subst, arith}
use Rattle.std.specs.Prelude.{All, Contains, nat_lt}
use Rattle.std.proofs.Math.ListN.{get_or-eq_default}
use Rattle.std.proofs.lemmas.Bool.{false≢true, true≢false, cases_lt}
use Rattle.std.proofs.lemmas.List.{append-nil, get_or_append_left, length-set}
use Rattle.std.proofs.lemmas.List.Elements.{All-nil, All-filter, All-get_or, All-contains, All-push, All-weaker}
use Rattle.ap_base.specs.declared.place.Place.{Place}
use Rattle.ap_base.specs.declared.place.Place.TheVariants.{Static, Slot}
use Rattle.graph_model.specs.declared.types.Value.{Value}
use Rattle.graph_model.specs.declared.types.Value.TheVariants.{Int, Long, Null, Obj as Object}
use Rattle.graph_model.specs.declared.types.Obj.{Obj}
use Rattle.graph_model.specs.declared.types.Heap.{Heap}
use Rattle.graph_model.specs.Heaps.{fresh_values, has_number, no_object, object_at, shape_at, values_of, with_slot, stored, IsBelow, IsSound}
use Rattle.graph_model.specs.Reach.{Refers, Reaches}
use Rattle.run_history.specs.declared.act.Op.{Op}
use Rattle.run_history.specs.declared.act.Op.TheVariants as op
use Rattle.run_history.specs.Recorded.{Recorded, NamesRightly}
use Rattle.run_history.specs.Worlds.{depth_of, fits, has_place, heap_after_op}
use Rattle.run_history.specs.Knowing.{Knowledge, known_after, known_after_op, next_known, pending_of}
use Rattle.run_history.specs.Wanted.{NoWish, Wishes, WantsAfter, WantsNow, IsClosed}
use Rattle.plain_model.specs.Facts.{SetFacts}
use Rattle.plain_model.specs.Requests.{PlainRequest}
use Rattle.plain_model.specs.Runs.{MayAct, Rule}
use Rattle.plain_model.proofs.Appended.{known_after-append, wants_after-push}
use Rattle.plain_model.proofs.Durable.{has_number-append_left, made_durable}
use Rattle.audit_rules.specs.Closing.{AreThere}
use Rattle.audit_rules.proofs.Closing.{heap-next, durable-next}
use Rattle.audit_rules.proofs.Tests.{both}
use Rattle.audit_rules.proofs.There.{as-many, durable-there}
use Rattle.audit_keeping.specs.declared.keeping.Asked.{Asked}
use Rattle.audit_keeping.specs.declared.keeping.Keeping.{Keeping}
use Rattle.audit_rules.specs.Rules.{is_some}
use Rattle.audit_keeping.specs.Keeping.{IsMarkable, IsNoAsk, IsOther, Keeps, Lists, is_marked, is_other_asked, join_test_in, lists_after_end, lists_of, mark_test, marked_with, next_lists, pending_in, refer_durably_in, with_asked}
use Rattle.audit_keeping.specs.Steps.{IsStanding}
use Rattle.audit_keeping.specs.Walking.{AreClosedMarks, HaveGrown}
use Rattle.audit_keeping.specs.Wishing.{IsSpread, IsWish, AreWishes, AreSpread, MaySpread}
use Rattle.audit_keeping.specs.Goes.{GoesOnBy, MayGo, act_at, fits_then}
use Rattle.audit_keeping.proofs.Next.{asked-is-known, kept-is-known, long-after}
use Rattle.audit_keeping.proofs.Reached.{refers-stored}
use Rattle.audit_keeping.proofs.Spreading.{both-is}
use Rattle.audit_keeping.proofs.Wanting.{found-filter, found-push, found-spread, pending-spread, wants-there, wish-asked, wish-same, wish-stored, wishes-by, wishes-iff}

keeps-at : (known : Knowledge) (n : ℕ) (l : Lists) → Keeps known l → Keeps (record known { at = n }) l
keeps-at known n l k = record { short = k.short; roots = k.roots; durable = k.durable; asked = k.asked; guards = k.guards; closing = k.closing; unfenced = k.unfenced }

named-of : (set : SetFacts) (known : Knowledge) (Now : Wishes) (request : Option PlainRequest) (t : ℕ) (named : List ℕ) (o : Op)
    → ((u n : ℕ) → Now u n → n < length known.world.heap.objects) → Rule set known Now request t named o → NamesRightly o named
    → All (λ n. n < length known.world.heap.objects) named
named-of set known Now request t named op.Joined there rule rightly =
    All-weaker (λ n. (u : ℕ) × Now u n) (λ n. n < length known.world.heap.objects) (λ n w. there w.0 n w.1) named rule.wanted
named-of set known Now request t named o there rule rightly =
    subst (λ ns. All (λ n. n < length known.world.heap.objects) ns) (sym rightly) (All-nil (λ n. n < length known.world.heap.objects))

-- references of what was there are old
abbrev KeepsReferences : Heap → Op → Type 0
KeepsReferences heap o = (m n : ℕ) → m < length heap.objects → Refers (heap_after_op heap o) m n → Refers heap m n

abbrev no-object : (value : Value) → Type 0
no-object (Object n) = ⊥
no-object value = Unit {0}

module _ (set : SetFacts) (first : Knowledge) (acts : List Recorded) (request : Option PlainRequest) (k : Keeping) (a : Recorded) (s : IsStanding first acts k)
    (may : MayAct set (known_after first acts) (WantsAfter first NoWish acts) request a) where
  abbrev known : Knowledge
  known = known_after first acts

  abbrev next : Knowledge
  next = next_known known a

  abbrev Now : Wishes
  Now = WantsAfter first NoWish acts

  abbrev asked : List Asked
  asked = k.asked.items

  named-there : All (λ n. n < length known.world.heap.objects) a.named
  named-there = named-of set known Now request a.act.thread a.named a.act.op (wants-there known Now asked s.wishes) may.rule may.named

  abbrev pub Wish : Asked → Type 0
  Wish p = IsWish next.world.heap next.durable p (λ n. Reaches next.world.heap (λ m. (p.value ≡ Object m) ⊎ Now p.thread m) n)

  pub ends : (now : Keeping) → Keeps (known_after_op known a.act.thread a.named a.act.op) (lists_of now)
      → All (λ (p : Asked). pending_of (map pending_in now.asked.items) p.thread ≡ Some (pending_in p)) now.asked.items
      → All Wish now.asked.items → length now.durable.items ≡ length next.world.heap.objects → IsStanding first (acts ++ a ∷ []) now
  ends now keeps found each long =
      let e = known_after-append first acts (a ∷ []) in
      let kept = keeps-at (known_after_op known a.act.thread a.named a.act.op) a.act.at (lists_of now) keeps in
      record {
        keeps = subst (λ x. Keeps x (lists_of now)) (sym e) kept;
        wishes = subst (λ x. AreWishes x (WantsAfter first NoWish (acts ++ a ∷ [])) now.asked.items) (sym e)
            (wishes-iff next (WantsNow next Now) (WantsAfter first NoWish (acts ++ a ∷ [])) now.asked.items
            (λ u n. let w = wants_after-push first NoWish acts a u n in (w.1, w.0))
            (wishes-by next Now now.asked.items kept.asked found each));
        closed = subst IsClosed (sym e) may.is_closed;
        there = subst AreThere (sym e) (durable-there known a s.there named-there);
        long = long ∙ ap (λ (x : Knowledge). length x.world.heap.objects) (sym e);
      }

  still-volatile : (n : ℕ) → has_number next.durable n ≡ false → has_number known.durable n ≡ false
  still-volatile n v = elim (has_number known.durable n) as (λ b. has_number known.durable n ≡ b → b ≡ false) [
    | true ↦ λ e. absurd (true≢false (sym (ap (λ ns. has_number ns n) (durable-next known a) ∙ has_number-append_left known.durable (made_durable a.act.op a.named) n e) ∙ v))
    | false ↦ λ e. refl
  ] refl

  pub each-kept : (some : List Asked) → KeepsReferences known.world.heap a.act.op
      → All (λ (p : Asked). IsWish known.world.heap known.durable p (Now p.thread)) some → All Wish some
  each-kept some same each i d lt =
      let p = get_or some i d in
      wish-same known.world.heap next.world.heap known.durable next.durable p (Now p.thread) (each i d lt) still-volatile
      (λ m n now refers. same m n ((each i d lt).there m now) (subst (λ h. Refers h m n) (heap-next known a) refers))
      (let more = as-many known.world.heap a.act.op in let is = ap (λ (h : Heap). length h.objects) (heap-next known a) in omega (arith, more, is))

  -- where pending values are as they were
  pub same-asked : KeepsReferences known.world.heap a.act.op → (now : Keeping) → Keeps (known_after_op known a.act.thread a.named a.act.op) (lists_of now)
      → now.asked.items ≡ asked → length now.durable.items ≡ length next.world.heap.objects → IsStanding first (acts ++ a ∷ []) now
  same-asked same now keeps is long = ends now keeps
      (subst (λ (ps : List Asked). All (λ (p : Asked). pending_of (map pending_in ps) p.thread ≡ Some (pending_in p)) ps) (sym is) s.wishes.found)
      (subst (All Wish) (sym is) (each-kept asked same s.wishes.each)) long

  abbrev others : List Asked
  others = filter (is_other_asked a.act.thread) asked

  others-found : All (λ (p : Asked). pending_of (map pending_in others) p.thread ≡ Some (pending_in p)) others
  others-found = found-filter asked a.act.thread s.wishes.found

  others-each : All (λ (p : Asked). IsWish known.world.heap known.durable p (Now p.thread)) others
  others-each = All-filter (is_other_asked a.act.thread) (λ (p : Asked). IsWish known.world.heap known.durable p (Now p.thread)) asked s.wishes.each

  -- where the thread's own is gone
  pub other-asked : KeepsReferences known.world.heap a.act.op → (now : Keeping) → Keeps (known_after_op known a.act.thread a.named a.act.op) (lists_of now)
      → now.asked.items ≡ others → length now.durable.items ≡ length next.world.heap.objects → IsStanding first (acts ++ a ∷ []) now
  other-asked same now keeps is long = ends now keeps
      (subst (λ (ps : List Asked). All (λ (p : Asked). pending_of (map pending_in ps) p.thread ≡ Some (pending_in p)) ps) (sym is) others-found)
      (subst (All Wish) (sym is) (each-kept others same others-each)) long

-- ---- heaps after operations

stored-refs : (heap : Heap) (place : Place) (value : Value) → no-object value → KeepsReferences heap (op.Stored place value)
stored-refs heap (Static f) value none m n lt r = r
stored-refs heap (Slot o i) value none m n lt r = elim (refers-stored heap o i value m n r) [
  | inl before ↦ before
  | inr new ↦ absurd (subst no-object new.1 none)
]

static-refs : (heap : Heap) (f : ℕ) (value : Value) → KeepsReferences heap (op.Stored (Static f) value)
static-refs heap f value m n lt r = r

fresh-refs : (heap : Heap) (o : Obj) (m n : ℕ) → m < length heap.objects → Contains (get_or (heap.objects ++ o ∷ []) m no_object).values (Object n) → Refers heap m n
fresh-refs heap o m n lt r = subst (λ (x : Obj). Contains x.values (Object n)) (get_or_append_left heap.objects (o ∷ []) no_object m lt) r

lt-of : (m n : ℕ) → nat_lt m n ≡ true → m < n
lt-of m n is = grind (arith, is)

sound-there : (heap : Heap) → IsSound heap → (m n : ℕ) → Refers heap m n → n < length heap.objects
sound-there heap sound m n r =
    All-contains (IsBelow (length heap.objects)) (values_of heap m) (Object n) (slots m r) r
  where
    slots : (m : ℕ) → Refers heap m n → All (IsBelow (length heap.objects)) (values_of heap m)
    slots m r = elim (cases_lt m (length heap.objects)) [
      | inl lt ↦ All-get_or (λ (o : Obj). All (IsBelow (length heap.objects)) o.values) heap.objects m no_object lt sound.slots
      | inr past ↦ subst (λ (o : Obj). All (IsBelow (length heap.objects)) o.values) (sym (get_or-eq_default heap.objects no_object (omega (arith, past)))) (All-nil (IsBelow (length heap.objects)))
    ]

-- ---- the laws

module _ (set : SetFacts) (first : Knowledge) (acts : List Recorded) (request : Option PlainRequest) (k : Keeping) (t at : ℕ) (s : IsStanding first acts k) where
  abbrev so_far : Knowledge
  so_far = known_after first acts

  abbrev May : Op → Type 0
  May o = MayAct set so_far (WantsAfter first NoWish acts) request (act_at t at o)

  abbrev depth : ℕ
  depth = depth_of so_far.world t

  abbrev By : Op → Type 0
  By o = GoesOnBy first acts k (act_at t at o)

  abbrev after : Op → Heap
  after o = (next_known so_far (act_at t at o)).world.heap

  as-lists : (now : Keeping) (l : Lists) → lists_of now ≡ l → now.asked.items ≡ l.asked
  as-lists now l e = ap (λ (x : Lists). x.asked) e

  as-long : (now : Keeping) (l : Lists) (o : Op) → lists_of now ≡ l → length l.durable ≡ length (heap_after_op so_far.world.heap o).objects
      → length now.durable.items ≡ length (after o).objects
  as-long now l o e long = ap (λ (x : Lists). length x.durable) e ∙ long ∙ ap (λ (h : Heap). length h.objects) (sym (heap-next so_far (act_at t at o)))

  keeps-by : (o : Op) (now : Keeping) → IsOther o → lists_of now ≡ next_lists (lists_of k) t depth [] o
      → Keeps (known_after_op so_far t [] o) (next_lists (lists_of k) t depth [] o) → Keeps (known_after_op so_far t [] o) (lists_of now)
  keeps-by o now other e keeps = subst (Keeps (known_after_op so_far t [] o)) (sym e) keeps

  stored-long : (place : Place) (value : Value) → length (lists_of k).durable ≡ length (heap_after_op so_far.world.heap (op.Stored place value)).objects
  stored-long (Static f) value = s.long
  stored-long (Slot n i) value = s.long ∙ sym (length-set so_far.world.heap.objects n (with_slot (object_at so_far.world.heap n) i value))

  pushed-long : (o : Obj) → length ((lists_of k).durable ++ false ∷ []) ≡ length (so_far.world.heap.objects ++ o ∷ [])
  pushed-long o = let a = length-append (lists_of k).durable (false ∷ []) in let b = length-append so_far.world.heap.objects (o ∷ []) in let long = s.long in omega (arith, a, b, long)

  -- a store that adds nothing to what others want
  plain-store : (place : Place) (value : Value) → May (op.Stored place value) → KeepsReferences so_far.world.heap (op.Stored place value)
      → (now : Keeping) → lists_of now ≡ next_lists (lists_of k) t depth [] (op.Stored place value) → IsStanding first (acts ++ act_at t at (op.Stored place value) ∷ []) now
  plain-store place value may same now e =
      let o = op.Stored place value in
      let l = next_lists (lists_of k) t depth [] o in
      other-asked set first acts request k (act_at t at o) s may same now
      (subst (Keeps (known_after_op so_far t [] o)) (sym e) (kept-is-known so_far (lists_of k) t [] o s.keeps tt tt)) (as-lists now l e)
      (as-long now l o e (stored-long place value))

  closed-marks : AreClosedMarks so_far.world.heap k.durable.items
  closed-marks m n is refers = sym (s.keeps.durable n) ∙ s.closed.objects m n (s.keeps.durable m ∙ is) refers

  module _ (holder index object : ℕ) where
    abbrev storing : Op
    storing = op.Stored (Slot holder index) (Object object)

    abbrev then_heap : Heap
    then_heap = stored so_far.world.heap (Slot holder index) (Object object)

    may-spread : (p : Asked) → IsWish so_far.world.heap so_far.durable p (WantsAfter first NoWish acts p.thread) → length p.marks ≤ length k.durable.items
        → MaySpread then_heap k.durable.items holder object p
    may-spread p w few owns m n is refers = elim (refers-stored so_far.world.heap holder index (Object object) m n refers) [
      | inl before ↦ inl (both-is k.durable.items p.marks n few ∙ marked m n before (sym (both-is k.durable.items p.marks m few) ∙ is))
      | inr new ↦ inr (let it : Object object ≡ Object n = new.1 in cc)
    ]
      where
        left : (a b : Bool) → a ≡ true → (a || b) ≡ true
        left true b e = refl
        left false b e = absurd (false≢true e)

        or-right : (a b : Bool) → b ≡ true → (a || b) ≡ true
        or-right true b e = refl
        or-right false b e = e

        only-right : (a b : Bool) → a ≡ false → (a || b) ≡ true → b ≡ true
        only-right true b e h = absurd (true≢false e)
        only-right false b e h = h

        marked : (m n : ℕ) → Refers so_far.world.heap m n → (is_marked k.durable.items m || is_marked p.marks m) ≡ true
            → (is_marked k.durable.items n || is_marked p.marks n) ≡ true
        marked m n r is = elim (has_number so_far.durable m) as (λ b. has_number so_far.durable m ≡ b → (is_marked k.durable.items n || is_marked p.marks n) ≡ true) [
          | true ↦ λ e. left (is_marked k.durable.items n) (is_marked p.marks n) (sym (s.keeps.durable n) ∙ s.closed.objects m n e r)
          | false ↦ λ e.
              let own = only-right (is_marked k.durable.items m) (is_marked p.marks m) (sym (s.keeps.durable m) ∙ e) is in
              let wants = w.closed m n ((w.exact m e).0 own) r in
              elim (has_number so_far.durable n) as (λ b. has_number so_far.durable n ≡ b → (is_marked k.durable.items n || is_marked p.marks n) ≡ true) [
                | true ↦ λ f. left (is_marked k.durable.items n) (is_marked p.marks n) (sym (s.keeps.durable n) ∙ f)
                | false ↦ λ f. or-right (is_marked k.durable.items n) (is_marked p.marks n) ((w.exact n f).1 wants)
              ] refl
        ] refl

    all-may : All (MaySpread then_heap k.durable.items holder object) (filter (is_other_asked t) k.asked.items)
    all-may i d lt =
        let ps = filter (is_other_asked t) k.asked.items in
        may-spread (get_or ps i d)
        (All-filter (is_other_asked t) (λ (p : Asked). IsWish so_far.world.heap so_far.durable p (WantsAfter first NoWish acts p.thread)) k.asked.items s.wishes.each i d lt)
        (All-filter (is_other_asked t) (λ (p : Asked). length p.marks ≤ length k.durable.items) k.asked.items s.keeps.short i d lt)

    module _ (may : May storing) (fit : fits so_far.world.heap storing ≡ true) (sound : IsSound (after storing)) where
      abbrev heap-is : after storing ≡ then_heap
      heap-is = heap-next so_far (act_at t at storing)

      placed : (holder < length so_far.world.heap.objects) × (index < length (values_of so_far.world.heap holder)) × (object < length so_far.world.heap.objects)
      placed =
          let (place, below) = both (nat_lt holder (length so_far.world.heap.objects) && nat_lt index (length (values_of so_far.world.heap holder)))
          (nat_lt object (length so_far.world.heap.objects)) fit in
          let (n, i) = both (nat_lt holder (length so_far.world.heap.objects)) (nat_lt index (length (values_of so_far.world.heap holder))) place in
          (lt-of holder (length so_far.world.heap.objects) n, lt-of index (length (values_of so_far.world.heap holder)) i, lt-of object (length so_far.world.heap.objects) below)

      then-long : length k.durable.items ≡ length (after storing).objects
      then-long = stored-long (Slot holder index) (Object object) ∙ ap (λ (h : Heap). length h.objects) (sym heap-is)

      may-store : MayGo (after storing) k t storing
      may-store = (
        record {
          sound = sound;
          long = then-long;
          there = let lt = placed.2 in let long = s.long in let same = then-long in omega (arith, lt, long, same);
        },
        subst (λ h. All (MaySpread h k.durable.items holder object) (filter (is_other_asked t) k.asked.items)) (sym heap-is) all-may,
      )

      durable-is : (next_known so_far (act_at t at storing)).durable ≡ so_far.durable
      durable-is = durable-next so_far (act_at t at storing) ∙ append-nil so_far.durable

      still-closed : (m n : ℕ) → has_number so_far.durable m ≡ true → Refers then_heap m n → has_number so_far.durable n ≡ true
      still-closed m n is r = ap (λ ns. has_number ns n) (sym durable-is)
          ∙ may.is_closed.objects m n (ap (λ ns. has_number ns m) durable-is ∙ is) (subst (λ h. Refers h m n) (sym heap-is) r)

      then-sound : IsSound then_heap
      then-sound = subst IsSound heap-is sound

      short-spread : (p q : Asked) → IsSpread then_heap k.durable.items holder object p q → length p.marks ≤ length k.durable.items → length q.marks ≤ length k.durable.items
      short-spread p q w few = elim w.marks [
        | inl same ↦ let long = ap length same.1 in omega (arith, long, few)
        | inr grown ↦ let long = grown.1.long in let stored = stored-long (Slot holder index) (Object object) in omega (arith, long, stored)
      ]

      spread-stands : (now : Keeping)
          → lists_of now ≡ record (next_lists (lists_of k) t depth [] storing) { asked = now.asked.items }
          → AreSpread (after storing) k.durable.items holder object (filter (is_other_asked t) k.asked.items) now.asked.items
          → IsStanding first (acts ++ act_at t at storing ∷ []) now
      spread-stands now e spread0 =
          let ps = filter (is_other_asked t) k.asked.items in
          let spread = subst (λ h. AreSpread h k.durable.items holder object ps now.asked.items) heap-is spread0 in
          let long = spread.long in
          let told = kept-is-known so_far (lists_of k) t [] storing s.keeps tt tt in
          let wish = λ (i : ℕ) (d : Asked) (lt : i < length ps).
          wish-stored so_far.world.heap so_far.durable k.durable.items holder index object s.keeps.durable placed.0 placed.1 still-closed
          (sound-there then_heap then-sound) (get_or ps i d) (get_or now.asked.items i d) (WantsAfter first NoWish acts (get_or ps i d).thread)
          (All-filter (is_other_asked t) (λ (p : Asked). IsWish so_far.world.heap so_far.durable p (WantsAfter first NoWish acts p.thread)) k.asked.items s.wishes.each i d lt)
          (spread.each i d lt)
          (All-filter (is_other_asked t) (λ (p : Asked). length p.marks ≤ length k.durable.items) k.asked.items s.keeps.short i d lt) in
          ends set first acts request k (act_at t at storing) s may now
          (subst (Keeps (known_after_op so_far t [] storing)) (sym e) (record {
            short = λ i d lt. short-spread (get_or ps i d) (get_or now.asked.items i d) (spread.each i d (omega (arith, lt, long)))
                (All-filter (is_other_asked t) (λ (p : Asked). length p.marks ≤ length k.durable.items) k.asked.items s.keeps.short i d (omega (arith, lt, long)));
            roots = told.roots;
            durable = told.durable;
            asked = told.asked ∙ sym (pending-spread then_heap k.durable.items holder object ps now.asked.items spread);
            guards = told.guards;
            closing = told.closing;
            unfenced = told.unfenced;
          }))
          (found-spread then_heap k.durable.items holder object ps now.asked.items spread (found-filter k.asked.items t s.wishes.found))
          (λ i d lt.
          let inside : i < length ps = omega (arith, lt, long) in
          let q = get_or now.asked.items i d in
          subst (λ h. IsWish h (next_known so_far (act_at t at storing)).durable q (λ n. Reaches h (λ m. (q.value ≡ Object m) ⊎ WantsAfter first NoWish acts q.thread m) n)) (sym heap-is)
          (subst (λ ns. IsWish then_heap ns q (λ n. Reaches then_heap (λ m. (q.value ≡ Object m) ⊎ WantsAfter first NoWish acts q.thread m) n)) (sym durable-is)
          (subst (λ u. IsWish then_heap so_far.durable q (λ n. Reaches then_heap (λ m. (q.value ≡ Object m) ⊎ WantsAfter first NoWish acts u m) n)) (sym (spread.each i d inside).thread)
          (wish i d inside))))
          (ap (λ (x : Lists). length x.durable) e ∙ then-long)

      pub spread-goes : By storing
      spread-goes = record { may = may-store; stands = λ now g. spread-stands now g.0 g.1 }

  module _ (place : Place) (object : ℕ) where
    abbrev asking : Op
    asking = op.Asked place (Object object)

    module _ (may : May asking) (fit : fits so_far.world.heap (op.Stored place (Object object)) ≡ true) (sound : IsSound (after asking)) where
      same-heap : after asking ≡ so_far.world.heap
      same-heap = heap-next so_far (act_at t at asking)

      asked-long : length k.durable.items ≡ length (after asking).objects
      asked-long = s.long ∙ ap (λ (h : Heap). length h.objects) (sym same-heap)

      nothing-pending : pending_of (map pending_in k.asked.items) t ≡ None
      nothing-pending = ap (λ ps. pending_of ps t) (sym s.keeps.asked) ∙ may.rule.none_pending

      asked-stands : (now : Keeping) (marks : List Bool) → HaveGrown (after asking) k.durable.items object marks
          → lists_of now ≡ with_asked (lists_of k) (record { thread = t; place = place; value = Object object; marks = marks })
          → IsStanding first (acts ++ act_at t at asking ∷ []) now
      asked-stands now marks grown e =
          let p : Asked = record { thread = t; place = place; value = Object object; marks = marks } in
          let long = grown.long in
          let same = asked-long in
          let few : length marks ≤ length k.durable.items = omega (arith, long, same) in
          let kept = asked-is-known so_far (lists_of k) p [] s.keeps few in
          let is : now.asked.items ≡ k.asked.items ++ p ∷ [] = ap (λ (x : Lists). x.asked) e in
          ends set first acts request k (act_at t at asking) s may now
          (subst (Keeps (known_after_op so_far t [] asking)) (sym e) kept)
          (subst (λ (ps : List Asked). All (λ (q : Asked). pending_of (map pending_in ps) q.thread ≡ Some (pending_in q)) ps) (sym is)
          (found-push k.asked.items p nothing-pending s.wishes.found))
          (subst (All (Wish set first acts request k (act_at t at asking) s may)) (sym is)
          (All-push (Wish set first acts request k (act_at t at asking) s may) k.asked.items p
          (each-kept set first acts request k (act_at t at asking) s may k.asked.items (λ m n lt r. r) s.wishes.each)
          (wish-asked (after asking) (next_known so_far (act_at t at asking)).durable k.durable.items p (WantsAfter first NoWish acts t) object
          (λ n. kept.durable n) (λ n wants. s.wishes.none t n wants nothing-pending) refl grown)))
          (ap (λ (x : Lists). length x.durable) e ∙ asked-long)

      asked-there : object < length (after asking).objects
      asked-there =
          let below = lt-of object (length so_far.world.heap.objects) ((both (has_place so_far.world.heap place) (nat_lt object (length so_far.world.heap.objects)) fit).1) in
          let same = ap (λ (h : Heap). length h.objects) same-heap in
          omega (arith, below, same)

      pub ask-goes : By asking
      ask-goes = record {
        may = (
          record { sound = sound; long = asked-long; there = asked-there },
          subst (λ h. AreClosedMarks h k.durable.items) (sym same-heap) closed-marks,
        );
        stands = λ now g. asked-stands now g.0 g.1 g.2;
      }

  no-asked : (place : Place) (value : Value) → no-object value → May (op.Asked place value) → ⊥
  no-asked place value none may = subst no-object may.rule.volatile.1 none

  told : (o : Op) → May o → IsOther o → KeepsReferences so_far.world.heap o → (now : Keeping)
      → Keeps (known_after_op so_far t [] o) (lists_of now) → now.asked.items ≡ k.asked.items
      → length now.durable.items ≡ length (heap_after_op so_far.world.heap o).objects → IsStanding first (acts ++ act_at t at o ∷ []) now
  told o may other same now keeps is long = same-asked set first acts request k (act_at t at o) s may same now keeps is
      (long ∙ ap (λ (h : Heap). length h.objects) (sym (heap-next so_far (act_at t at o))))

  end-asked : (l : Lists) (outermost : Bool) → ((lists_after_end l t outermost).asked ≡ l.asked) × ((lists_after_end l t outermost).durable ≡ l.durable)
  end-asked l true = (refl, refl)
  end-asked l false = (refl, refl)

  -- what is kept of an operation that is told
  kept : (o : Op) → IsOther o → IsNoAsk o → IsMarkable (lists_of k) [] o → (now : Keeping) → lists_of now ≡ next_lists (lists_of k) t depth [] o
      → Keeps (known_after_op so_far t [] o) (lists_of now)
  kept o other no_ask markable now e = subst (Keeps (known_after_op so_far t [] o)) (sym e) (kept-is-known so_far (lists_of k) t [] o s.keeps no_ask markable)

  pub goes-on : (o : Op) → May o → IsOther o → fits_then so_far.world.heap o ≡ true → IsSound (after o) → By o
  goes-on op.Joined may other fit sound = absurd other
  goes-on (op.Asked place (Object n)) may other fit sound = ask-goes place n may fit sound
  goes-on (op.Asked place (Int i)) may other fit sound = absurd (no-asked place (Int i) tt may)
  goes-on (op.Asked place (Long i)) may other fit sound = absurd (no-asked place (Long i) tt may)
  goes-on (op.Asked place Null) may other fit sound = absurd (no-asked place Null tt may)
  goes-on (op.Stored (Slot holder index) (Object n)) may other fit sound = spread-goes holder index n may fit sound
  goes-on (op.Stored (Slot holder index) (Int i)) may other fit sound =
      record { may = tt; stands = λ now g. plain-store (Slot holder index) (Int i) may (stored-refs so_far.world.heap (Slot holder index) (Int i) tt) now g }
  goes-on (op.Stored (Slot holder index) (Long i)) may other fit sound =
      record { may = tt; stands = λ now g. plain-store (Slot holder index) (Long i) may (stored-refs so_far.world.heap (Slot holder index) (Long i) tt) now g }
  goes-on (op.Stored (Slot holder index) Null) may other fit sound =
      record { may = tt; stands = λ now g. plain-store (Slot holder index) Null may (stored-refs so_far.world.heap (Slot holder index) Null tt) now g }
  goes-on (op.Stored (Static f) value) may other fit sound =
      record { may = tt; stands = λ now g. plain-store (Static f) value may (static-refs so_far.world.heap f value) now g }
  goes-on (op.Alloc n shape count) may other fit sound =
      let o = op.Alloc n shape count in
      record {
        may = tt;
        stands = λ now g. told o may other (fresh-refs so_far.world.heap (record { shape = shape; values = fresh_values (shape_at so_far.world.heap shape) count })) now
            (kept o other tt tt now g) (ap (λ (x : Lists). x.asked) g)
            (ap (λ (x : Lists). length x.durable) g ∙ pushed-long (record { shape = shape; values = fresh_values (shape_at so_far.world.heap shape) count }));
      }
  goes-on (op.Throw n class) may other fit sound =
      let o = op.Throw n class in
      record {
        may = tt;
        stands = λ now g. told o may other (fresh-refs so_far.world.heap (record { shape = class; values = fresh_values (shape_at so_far.world.heap class) 0 })) now
            (kept o other tt tt now g) (ap (λ (x : Lists). x.asked) g)
            (ap (λ (x : Lists). length x.durable) g ∙ pushed-long (record { shape = class; values = fresh_values (shape_at so_far.world.heap class) 0 }));
      }
  goes-on op.End may other fit sound =
      let same = end-asked (lists_of k) (nat_eq depth 1) in
      record {
        may = tt;
        stands = λ now g. told op.End may other (λ m n lt r. r) now
            (kept op.End other tt tt now g) (ap (λ (x : Lists). x.asked) g ∙ same.0) (ap (λ (x : Lists). length x.durable) g ∙ ap length same.1 ∙ s.long);
      }
  goes-on (op.Guarded place) may other fit sound =
      record {
        may = tt;
        stands = λ now g. told (op.Guarded place) may other (λ m n lt r. r) now
            (kept (op.Guarded place) other tt tt now g) (ap (λ (x : Lists). x.asked) g) (ap (λ (x : Lists). length x.durable) g ∙ s.long);
      }
  goes-on op.Closing may other fit sound =
      record {
        may = tt;
        stands = λ now g. told op.Closing may other (λ m n lt r. r) now
            (kept op.Closing other tt tt now g) (ap (λ (x : Lists). x.asked) g) (ap (λ (x : Lists). length x.durable) g ∙ s.long);
      }
  goes-on op.Fenced may other fit sound =
      record {
        may = tt;
        stands = λ now g. told op.Fenced may other (λ m n lt r. r) now
            (kept op.Fenced other tt tt now g) (ap (λ (x : Lists). x.asked) g) (ap (λ (x : Lists). length x.durable) g ∙ s.long);
      }
  goes-on o may other fit sound =
      record {
        may = tt;
        stands = λ now g. told o may other (λ m n lt r. r) now
            (kept o other tt tt now g) (ap (λ (x : Lists). x.asked) g) (ap (λ (x : Lists). length x.durable) g ∙ s.long);
      }

  -- a Joined act
  pub joins-on : (named : List ℕ) (now : Keeping) → let a : Recorded = record { act = record { thread = t; at = at; op = op.Joined }; named = named } in
      MayAct set so_far (WantsAfter first NoWish acts) request a → join_test_in so_far.world.heap k named ≡ true
      → lists_of now ≡ next_lists (lists_of k) 0 0 named op.Joined → IsStanding first (acts ++ a ∷ []) now
  joins-on named now may test e =
      let a : Recorded = record { act = record { thread = t; at = at; op = op.Joined }; named = named } in
      let marked = (both (mark_test k.durable.items k.asked.items named) (refer_durably_in so_far.world.heap (marked_with k.durable.items named) named)
      ((both (is_some named) (mark_test k.durable.items k.asked.items named && refer_durably_in so_far.world.heap (marked_with k.durable.items named) named) test).1)).0 in
      same-asked set first acts request k a s may (λ m n lt r. r) now
      (subst (Keeps (known_after_op so_far t named op.Joined)) (sym e) (kept-is-known so_far (lists_of k) t named op.Joined s.keeps tt marked))
      (ap (λ (x : Lists). x.asked) e)
      (ap (λ (x : Lists). length x.durable) e ∙ long-after k.durable.items named ∙ s.long ∙ ap (λ (h : Heap). length h.objects) (sym (heap-next so_far a)))
