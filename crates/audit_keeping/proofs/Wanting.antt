-- What threads want is what their marks tell, after one more act.
use Rattle.std.proofs.Common.{◌≡◌, ◌≢◌, ◌↔◌, ◌⊎◌, inl, inr, ℕ, zero, suc, ◌<◌, ◌≤◌, Bool, true, false, not, ◌||◌, nat_eq, List, [], ◌∷◌, ◌++◌, map, filter, length, get_or, Some, None, refl, sym, ◌∙◌, ap, subst, arith, eqb-true, eq-eqb, if◌then◌else◌}
use Rattle.std.specs.Prelude.{All, Contains}
use Rattle.std.proofs.lemmas.Bool.{false≢true, true≢false}
use Rattle.std.proofs.lemmas.List.{get_or-set_same, length-set}
use Rattle.std.proofs.lemmas.List.Elements.{All-nil, All-cons, All-filter, All-push, All-weaker}
use Rattle.ap_base.specs.declared.place.Place.TheVariants.{Slot}
use Rattle.graph_model.specs.declared.types.Value.TheVariants.{Obj as Object}
use Rattle.graph_model.specs.declared.types.Obj.{Obj}
use Rattle.graph_model.specs.declared.types.Heap.{Heap}
use Rattle.graph_model.specs.Heaps.{has_number, no_object, object_at, values_of, with_slot, stored}
use Rattle.graph_model.specs.Reach.{Refers, Reaches, here, along}
use Rattle.run_history.specs.Recorded.{Recorded}
use Rattle.run_history.specs.Knowing.{Knowledge, Pending, pending_of, known_after}
use Rattle.run_history.specs.Wanted.{Wishes, NoWish, WantsFor, WantsNow, WantsAfter}
use Rattle.audit_rules.specs.Rules.{AreWanted}
use Rattle.audit_keeping.specs.declared.keeping.Asked.{Asked}
use Rattle.audit_keeping.specs.declared.keeping.Keeping.{Keeping}
use Rattle.audit_keeping.specs.Keeping.{is_marked, is_other_asked, pending_in, wanted_in}
use Rattle.audit_keeping.specs.Steps.{IsStanding}
use Rattle.audit_keeping.specs.Walking.{HaveGrown}
use Rattle.audit_keeping.specs.Wishing.{IsWish, AreWishes, IsSpread, AreSpread, both_marks}
use Rattle.audit_keeping.proofs.Marking.{marked-there}
use Rattle.audit_keeping.proofs.Reached.{refers-stored, reaches-within, reaches-more}
use Rattle.audit_keeping.proofs.Spreading.{both-is}

-- ---- one thread

module _ (heap later : Heap) (durable durable' : List ℕ) (p : Asked) (Now : ℕ → Type 0) (w : IsWish heap durable p Now) where
  -- where no reference of what is wanted is new, and what is durable stays so
  pub wish-same : ((n : ℕ) → has_number durable' n ≡ false → has_number durable n ≡ false)
      → ((m n : ℕ) → Now m → Refers later m n → Refers heap m n) → length heap.objects ≤ length later.objects
      → IsWish later durable' p (λ n. Reaches later (λ m. (p.value ≡ Object m) ⊎ Now m) n)
  wish-same volatile same more = record {
    exact = λ n v. ((λ marked. here n (inr ((w.exact n (volatile n v)).0 marked))), λ next. (w.exact n (volatile n v)).1 (back n next));
    own = λ n is. here n (inl is);
    closed = λ m n r refers. along m n r refers;
    there = λ n next. let lt = w.there n (back n next) in omega (arith, lt, more);
  }
    where
      back : (n : ℕ) → Reaches later (λ m. (p.value ≡ Object m) ⊎ Now m) n → Now n
      back n next = reaches-within later (λ m. (p.value ≡ Object m) ⊎ Now m) Now
          (λ m is. elim is [ inl own ↦ w.own m own | inr now ↦ now ]) (λ m k now refers. w.closed m k now (same m k now refers)) n next

-- a new pending value, of a thread that wanted nothing
pub wish-asked : (heap : Heap) (durable : List ℕ) (marks : List Bool) (p : Asked) (Before : ℕ → Type 0) (object : ℕ)
    → ((n : ℕ) → has_number durable n ≡ is_marked marks n) → ((n : ℕ) → Before n → ⊥) → p.value ≡ Object object
    → HaveGrown heap marks object p.marks → IsWish heap durable p (λ n. Reaches heap (λ m. (p.value ≡ Object m) ⊎ Before m) n)
wish-asked heap durable marks p Before object are none value grown = record {
  exact = λ n v. (
    (λ marked. elim ((grown.exact n).0 marked) [
      | inl old ↦ absurd (true≢false (sym (are n ∙ old) ∙ v))
      | inr r ↦ reaches-more heap (λ m. m ≡ object) (λ m. (p.value ≡ Object m) ⊎ Before m) (λ m same. inl (value ∙ ap Object (sym same))) n r
    ]),
    λ next. reached n next,
  );
  own = λ n is. here n (inl is);
  closed = λ m n r refers. along m n r refers;
  there = λ n next. let lt = marked-there p.marks n (reached n next) in let long = grown.long in omega (arith, lt, long);
}
  where
    reached : (n : ℕ) → Reaches heap (λ m. (p.value ≡ Object m) ⊎ Before m) n → is_marked p.marks n ≡ true
    reached n next = (grown.exact n).1 (inr (reaches-more heap (λ m. (p.value ≡ Object m) ⊎ Before m) (λ m. m ≡ object)
        (λ m is. elim is [
          | inl own ↦ (let it : Object object ≡ Object m = sym value ∙ own in cc)
          | inr before ↦ absurd (none m before)
        ]) n next))

module _ (heap : Heap) (durable : List ℕ) (marks : List Bool) (holder index object : ℕ) (are : (n : ℕ) → has_number durable n ≡ is_marked marks n)
    (inside : holder < length heap.objects) (within : index < length (values_of heap holder)) where
  abbrev later : Heap
  later = stored heap (Slot holder index) (Object object)

  pub holds : Refers later holder object
  holds =
      subst (λ (o : Obj). Contains o.values (Object object))
      (sym (get_or-set_same heap.objects holder (with_slot (object_at heap holder) index (Object object)) no_object inside))
      (let long = length-set (values_of heap holder) index (Object object) in
      (index, omega (arith, within, long), get_or-set_same (values_of heap holder) index (Object object) (Object object) within))

  module _ (closed : (m n : ℕ) → has_number durable m ≡ true → Refers later m n → has_number durable n ≡ true)
      (there : (m n : ℕ) → Refers later m n → n < length later.objects)
      (p q : Asked) (Now : ℕ → Type 0) (w : IsWish heap durable p Now) (spread : IsSpread later marks holder object p q)
      (few : length p.marks ≤ length marks) where
    abbrev Next : ℕ → Type 0
    Next n = Reaches later (λ m. (q.value ≡ Object m) ⊎ Now m) n

    abbrev From : ℕ → Type 0
    From n = Reaches later (λ m. m ≡ object) n

    from-durable : has_number durable object ≡ true → (n : ℕ) → From n → has_number durable n ≡ true
    from-durable is n r = reaches-within later (λ m. m ≡ object) (λ m. has_number durable m ≡ true)
        (λ m same. subst (λ x. has_number durable x ≡ true) (sym same) is) closed n r

    abbrev In : ℕ → Type 0
    In n = Now n ⊎ (Now holder × From n)

    value : q.value ≡ p.value
    value = ap (λ (x : Pending). x.value) spread.pending

    grow-on : (m k : ℕ) → In m → Refers later m k → In k
    grow-on m k (inl now) refers = elim (refers-stored heap holder index (Object object) m k refers) [
      | inl before ↦ inl (w.closed m k now before)
      | inr new ↦ inr (subst Now new.0 now, here k (let it : Object object ≡ Object k = new.1 in cc))
    ]
    grow-on m k (inr both) refers = inr (both.0, along m k both.1 refers)

    parts : (n : ℕ) → Next n → In n
    parts n next = reaches-within later (λ m. (q.value ≡ Object m) ⊎ Now m) In
        (λ m is. elim is [ inl own ↦ inl (w.own m (sym value ∙ own)) | inr now ↦ inl now ]) grow-on n next

    from-holder : Now holder → (n : ℕ) → From n → Next n
    from-holder now n r = reaches-within later (λ m. m ≡ object) Next
        (λ m same. along holder m (here holder (inr now)) (subst (λ x. Refers later holder x) (sym same) holds))
        (λ m k reached refers. along m k reached refers) n r

    -- a holder that is durable holds what is
    holder-durable : has_number durable holder ≡ true → has_number durable object ≡ true
    holder-durable is = closed holder object is holds

    no-one : (n : ℕ) → has_number durable n ≡ false → has_number durable object ≡ true → From n → ⊥
    no-one n v is r = true≢false (sym (from-durable is n r) ∙ v)

    same-exact : (is_marked marks object ≡ true) ⊎ (is_marked p.marks holder ≡ false) → q.marks ≡ p.marks
        → (n : ℕ) → has_number durable n ≡ false → (is_marked q.marks n ≡ true) ↔ Next n
    same-exact why same n v = (
      (λ marked. here n (inr ((w.exact n v).0 (sym (ap (λ ms. is_marked ms n) same) ∙ marked)))),
      λ next. ap (λ ms. is_marked ms n) same ∙ elim (parts n next) [
        | inl now ↦ (w.exact n v).1 now
        | inr both ↦ elim why [
          | inl is ↦ absurd (no-one n v (are object ∙ is) both.1)
          | inr off ↦ elim (has_number durable holder) as (λ b. has_number durable holder ≡ b → is_marked p.marks n ≡ true) [
            | true ↦ λ e. absurd (no-one n v (holder-durable e) both.1)
            | false ↦ λ e. absurd (true≢false (sym ((w.exact holder e).1 both.0) ∙ off))
          ] refl
        ]
      ],
    )

    both-true : (n : ℕ) → is_marked p.marks n ≡ true → is_marked (both_marks marks p.marks) n ≡ true
    both-true n is = both-is marks p.marks n few ∙ right (is_marked marks n) (is_marked p.marks n) is
      where
        right : (a b : Bool) → b ≡ true → (a || b) ≡ true
        right true b e = refl
        right false b e = e

    of-both : (n : ℕ) → has_number durable n ≡ false → is_marked (both_marks marks p.marks) n ≡ true → is_marked p.marks n ≡ true
    of-both n v is = left (is_marked marks n) (is_marked p.marks n) (sym (are n) ∙ v) (sym (both-is marks p.marks n few) ∙ is)
      where
        left : (a b : Bool) → a ≡ false → (a || b) ≡ true → b ≡ true
        left true b e h = absurd (true≢false e)
        left false b e h = h

    grown-exact : is_marked p.marks holder ≡ true → HaveGrown later (both_marks marks p.marks) object q.marks
        → (n : ℕ) → has_number durable n ≡ false → (is_marked q.marks n ≡ true) ↔ Next n
    grown-exact owned grown n v = (
      (λ marked. elim ((grown.exact n).0 marked) [
        | inl old ↦ here n (inr ((w.exact n v).0 (of-both n v old)))
        | inr r ↦ elim (has_number durable holder) as (λ b. has_number durable holder ≡ b → Next n) [
          | true ↦ λ e. absurd (no-one n v (holder-durable e) r)
          | false ↦ λ e. from-holder ((w.exact holder e).0 owned) n r
        ] refl
      ]),
      λ next. elim (parts n next) [
        | inl now ↦ (grown.exact n).1 (inl (both-true n ((w.exact n v).1 now)))
        | inr both ↦ (grown.exact n).1 (inr both.1)
      ],
    )

    reached-there : object < length later.objects → (n : ℕ) → From n → n < length later.objects
    reached-there is n r = reaches-within later (λ m. m ≡ object) (λ m. m < length later.objects)
        (λ m same. subst (λ x. x < length later.objects) (sym same) is) (λ m k lt refers. there m k refers) n r

    pub wish-stored : IsWish later durable q Next
    wish-stored = record {
      exact = elim spread.marks [
        | inl same ↦ same-exact same.0 same.1
        | inr grown ↦ grown-exact grown.0 grown.1
      ];
      own = λ n is. here n (inl is);
      closed = λ m n r refers. along m n r refers;
      there = λ n next. elim (parts n next) [
        | inl now ↦ let lt = w.there n now in let long = length-set heap.objects holder (with_slot (object_at heap holder) index (Object object)) in omega (arith, lt, long)
        | inr both ↦ reached-there (there holder object holds) n both.1
      ];
    }

wish-iff : (heap : Heap) (durable : List ℕ) (p : Asked) (A B : ℕ → Type 0) → ((n : ℕ) → A n ↔ B n) → IsWish heap durable p A → IsWish heap durable p B
wish-iff heap durable p A B same w = record {
  exact = λ n v. ((λ marked. (same n).0 ((w.exact n v).0 marked)), λ b. (w.exact n v).1 ((same n).1 b));
  own = λ n is. (same n).0 (w.own n is);
  closed = λ m n b refers. (same n).0 (w.closed m n ((same m).1 b) refers);
  there = λ n b. w.there n ((same n).1 b);
}

-- ---- all threads

pub wishes-by : (known : Knowledge) (Before : Wishes) (asked : List Asked) → known.asked ≡ map pending_in asked
    → All (λ (p : Asked). pending_of (map pending_in asked) p.thread ≡ Some (pending_in p)) asked
    → All (λ (p : Asked). IsWish known.world.heap known.durable p (λ n. Reaches known.world.heap (λ m. (p.value ≡ Object m) ⊎ Before p.thread m) n)) asked
    → AreWishes known (WantsNow known Before) asked
wishes-by known Before asked keeps found each = record {
  found = found;
  each = λ k d lt.
      let p = get_or asked k d in
      let is : pending_of known.asked p.thread ≡ Some (pending_in p) = ap (λ ps. pending_of ps p.thread) keeps ∙ found k d lt in
      wish-iff known.world.heap known.durable p (λ n. Reaches known.world.heap (λ m. (p.value ≡ Object m) ⊎ Before p.thread m) n) (WantsNow known Before p.thread)
      (λ n. (subst (λ o. WantsFor known Before p.thread o n) (sym is), subst (λ o. WantsFor known Before p.thread o n) is)) (each k d lt);
  none = λ u n wants no. subst (λ o. WantsFor known Before u o n) (ap (λ ps. pending_of ps u) keeps ∙ no) wants;
}

pub wishes-iff : (known : Knowledge) (A B : Wishes) (asked : List Asked) → ((u n : ℕ) → A u n ↔ B u n) → AreWishes known A asked → AreWishes known B asked
wishes-iff known A B asked same w = record {
  found = w.found;
  each = λ k d lt. let p = get_or asked k d in wish-iff known.world.heap known.durable p (A p.thread) (B p.thread) (same p.thread) (w.each k d lt);
  none = λ u n b. w.none u n ((same u n).1 b);
}

-- a pending value of the thread stands in the list
entry : (asked : List Asked) (u : ℕ) → pending_of (map pending_in asked) u ≢ None
    → (k : ℕ) × (k < length asked) × ((d : Asked) → (get_or asked k d).thread ≡ u)
entry [] u some = absurd (some refl)
entry (p ∷ ps) u some = elim (nat_eq p.thread u) as (λ b. nat_eq p.thread u ≡ b → (if b then Some (pending_in p) else pending_of (map pending_in ps) u) ≢ None
    → (k : ℕ) × (k < length (p ∷ ps)) × ((d : Asked) → (get_or (p ∷ ps) k d).thread ≡ u)) [
      | true ↦ λ e h. (0, omega arith, λ d. eqb-true p.thread u e)
      | false ↦ λ e h. let behind = entry ps u h in let lt = behind.1 in (suc behind.0, omega (arith, lt), λ d. behind.2 d)
    ] refl some

wanted-by : (asked : List Asked) (n k : ℕ) (d : Asked) → k < length asked → is_marked (get_or asked k d).marks n ≡ true → wanted_in asked n ≡ true
wanted-by [] n k d lt is = absurd (omega (arith, lt))
wanted-by (p ∷ ps) n zero d lt is = rw is refl
wanted-by (p ∷ ps) n (suc k) d lt is = right (is_marked p.marks n) (wanted_in ps n) (wanted-by ps n k d (omega (arith, lt)) is)
  where
    right : (a b : Bool) → b ≡ true → (a || b) ≡ true
    right true b e = refl
    right false b e = e

by-wanted : (asked : List Asked) (n : ℕ) → wanted_in asked n ≡ true → (k : ℕ) × (k < length asked) × ((d : Asked) → is_marked (get_or asked k d).marks n ≡ true)
by-wanted [] n is = absurd (false≢true is)
by-wanted (p ∷ ps) n is = elim (is_marked p.marks n) as (λ b. is_marked p.marks n ≡ b → (b || wanted_in ps n) ≡ true
    → (k : ℕ) × (k < length (p ∷ ps)) × ((d : Asked) → is_marked (get_or (p ∷ ps) k d).marks n ≡ true)) [
      | true ↦ λ e h. (0, omega arith, λ d. e)
      | false ↦ λ e h. let behind = by-wanted ps n h in let lt = behind.1 in (suc behind.0, omega (arith, lt), λ d. behind.2 d)
    ] refl is

-- some value, for where a list isn't empty
a-first : (asked : List Asked) (k : ℕ) → k < length asked → Asked
a-first [] k lt = absurd (omega (arith, lt))
a-first (p ∷ ps) k lt = p

pub wishes-wanted : (known : Knowledge) (Now : Wishes) (asked : List Asked) → AreWishes known Now asked → AreWanted known.durable (wanted_in asked) Now
wishes-wanted known Now asked w n v = (
  (λ is.
      let by = by-wanted asked n is in
      let d = a-first asked by.0 by.1 in
      ((get_or asked by.0 d).thread, ((w.each by.0 d by.1).exact n v).0 (by.2 d))),
  λ wants.
      let at = entry asked wants.0 (w.none wants.0 n wants.1) in
      let d = a-first asked at.0 at.1 in
      wanted-by asked n at.0 d at.1 (((w.each at.0 d at.1).exact n v).1 (subst (λ u. Now u n) (sym (at.2 d)) wants.1)),
)

-- what is wanted is there
pub wants-there : (known : Knowledge) (Now : Wishes) (asked : List Asked) → AreWishes known Now asked → (u n : ℕ) → Now u n → n < length known.world.heap.objects
wants-there known Now asked w u n wants =
    let at = entry asked u (w.none u n wants) in
    let d = a-first asked at.0 at.1 in
    (w.each at.0 d at.1).there n (subst (λ x. Now x n) (sym (at.2 d)) wants)

pub are-wanted : (first : Knowledge) (acts : List Recorded) (k : Keeping) → IsStanding first acts k
    → AreWanted (known_after first acts).durable (wanted_in k.asked.items) (WantsAfter first NoWish acts)
are-wanted first acts k s = wishes-wanted (known_after first acts) (WantsAfter first NoWish acts) k.asked.items s.wishes

-- ---- the list of pending values

pending-filter : (asked : List Asked) (t u : ℕ) → nat_eq u t ≡ false
    → pending_of (map pending_in (filter (is_other_asked t) asked)) u ≡ pending_of (map pending_in asked) u
pending-filter [] t u other = refl
pending-filter (p ∷ ps) t u other = elim (nat_eq p.thread t) as (λ b. nat_eq p.thread t ≡ b
    → pending_of (map pending_in (if not b then p ∷ filter (is_other_asked t) ps else filter (is_other_asked t) ps)) u ≡ pending_of (map pending_in (p ∷ ps)) u) [
      | true ↦ λ e. pending-filter ps t u other ∙ sym (ap (λ b. if b then Some (pending_in p) else pending_of (map pending_in ps) u) (not-it e))
      | false ↦ λ e. ap (λ o. if nat_eq p.thread u then Some (pending_in p) else o) (pending-filter ps t u other)
    ] refl
  where
    not-it : nat_eq p.thread t ≡ true → nat_eq p.thread u ≡ false
    not-it e = let same : p.thread ≡ t = eqb-true p.thread t e in grind (arith, same, other)

passes : (asked : List Asked) (t : ℕ) → All (λ (p : Asked). nat_eq p.thread t ≡ false) (filter (is_other_asked t) asked)
passes [] t = All-nil (λ (p : Asked). nat_eq p.thread t ≡ false)
passes (p ∷ ps) t = elim (nat_eq p.thread t) as (λ b. nat_eq p.thread t ≡ b
    → All (λ (q : Asked). nat_eq q.thread t ≡ false) (if not b then p ∷ filter (is_other_asked t) ps else filter (is_other_asked t) ps)) [
      | true ↦ λ e. passes ps t
      | false ↦ λ e. All-cons (λ (q : Asked). nat_eq q.thread t ≡ false) p (filter (is_other_asked t) ps) e (passes ps t)
    ] refl

pub found-filter : (asked : List Asked) (t : ℕ) → All (λ (p : Asked). pending_of (map pending_in asked) p.thread ≡ Some (pending_in p)) asked
    → All (λ (p : Asked). pending_of (map pending_in (filter (is_other_asked t) asked)) p.thread ≡ Some (pending_in p)) (filter (is_other_asked t) asked)
found-filter asked t found k d lt =
    let left = filter (is_other_asked t) asked in
    let p = get_or left k d in
    pending-filter asked t p.thread (passes asked t k d lt)
    ∙ All-filter (is_other_asked t) (λ (q : Asked). pending_of (map pending_in asked) q.thread ≡ Some (pending_in q)) asked found k d lt

pending-more : (asked : List Asked) (e : Asked) (u : ℕ) (q : Pending) → pending_of (map pending_in asked) u ≡ Some q
    → pending_of (map pending_in (asked ++ e ∷ [])) u ≡ Some q
pending-more [] e u q is = absurd (let none : None ≡ Some q = is in cc)
pending-more (p ∷ ps) e u q is = elim (nat_eq p.thread u) as (λ b. (if b then Some (pending_in p) else pending_of (map pending_in ps) u) ≡ Some q
    → (if b then Some (pending_in p) else pending_of (map pending_in (ps ++ e ∷ [])) u) ≡ Some q) [
      | true ↦ λ h. h
      | false ↦ λ h. pending-more ps e u q h
    ] is

pending-last : (asked : List Asked) (e : Asked) → pending_of (map pending_in asked) e.thread ≡ None
    → pending_of (map pending_in (asked ++ e ∷ [])) e.thread ≡ Some (pending_in e)
pending-last [] e none = rw (eq-eqb e.thread e.thread refl) refl
pending-last (p ∷ ps) e none = elim (nat_eq p.thread e.thread) as (λ b. (if b then Some (pending_in p) else pending_of (map pending_in ps) e.thread) ≡ None
    → (if b then Some (pending_in p) else pending_of (map pending_in (ps ++ e ∷ [])) e.thread) ≡ Some (pending_in e)) [
      | true ↦ λ h. absurd (let no : Some (pending_in p) ≡ None = h in cc)
      | false ↦ λ h. pending-last ps e h
    ] none

pub found-push : (asked : List Asked) (e : Asked) → pending_of (map pending_in asked) e.thread ≡ None
    → All (λ (p : Asked). pending_of (map pending_in asked) p.thread ≡ Some (pending_in p)) asked
    → All (λ (p : Asked). pending_of (map pending_in (asked ++ e ∷ [])) p.thread ≡ Some (pending_in p)) (asked ++ e ∷ [])
found-push asked e none found =
    All-push (λ (p : Asked). pending_of (map pending_in (asked ++ e ∷ [])) p.thread ≡ Some (pending_in p)) asked e
    (All-weaker (λ (p : Asked). pending_of (map pending_in asked) p.thread ≡ Some (pending_in p))
    (λ (p : Asked). pending_of (map pending_in (asked ++ e ∷ [])) p.thread ≡ Some (pending_in p))
    (λ p is. pending-more asked e p.thread (pending_in p) is) asked found)
    (pending-last asked e none)

pub map-same : (asked now : List Asked) → length now ≡ length asked
    → ((k : ℕ) (d : Asked) → k < length asked → pending_in (get_or now k d) ≡ pending_in (get_or asked k d)) → map pending_in now ≡ map pending_in asked
map-same [] [] long each = refl
map-same [] (q ∷ qs) long each = absurd (omega (arith, long))
map-same (p ∷ ps) [] long each = absurd (omega (arith, long))
map-same (p ∷ ps) (q ∷ qs) long each =
    ap (λ x. x ∷ map pending_in qs) (each 0 p (omega arith))
    ∙ ap (λ xs. pending_in p ∷ xs) (map-same ps qs (omega (arith, long)) (λ k d lt. each (suc k) d (omega (arith, lt))))

pub pending-spread : (heap : Heap) (durable : List Bool) (holder object : ℕ) (asked now : List Asked) → AreSpread heap durable holder object asked now
    → map pending_in now ≡ map pending_in asked
pending-spread heap durable holder object asked now s = map-same asked now s.long (λ k d lt. (s.each k d lt).pending)

pub found-spread : (heap : Heap) (durable : List Bool) (holder object : ℕ) (asked now : List Asked) → AreSpread heap durable holder object asked now
    → All (λ (p : Asked). pending_of (map pending_in asked) p.thread ≡ Some (pending_in p)) asked
    → All (λ (p : Asked). pending_of (map pending_in now) p.thread ≡ Some (pending_in p)) now
found-spread heap durable holder object asked now s found k d lt =
    let long = s.long in
    let one = s.each k d (omega (arith, lt, long)) in
    ap (λ ps. pending_of ps (get_or now k d).thread) (pending-spread heap durable holder object asked now s)
    ∙ ap (pending_of (map pending_in asked)) one.thread
    ∙ found k d (omega (arith, lt, long))
    ∙ ap Some (sym one.pending)
