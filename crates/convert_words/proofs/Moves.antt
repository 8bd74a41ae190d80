-- Steps that leave the queues as they are and change at most one queued object.
use Rattle.std.proofs.Common.{◌≡◌, ◌≢◌, inl, inr, ℕ, ◌+◌, ◌%◌, ◌<◌, ◌≤◌, Bool, true, List, length, refl, sym, ◌∙◌, ap, subst}
use Rattle.std.proofs.Common.{arith, slice_set, length-set}
use Rattle.twin_forms.specs.Table.{Entry, entry, View, word_of, refers, Lies, lines_of, line_of, HasCopied, IsClaimed}
use Rattle.twin_forms.specs.Moves.{Moved}
use Rattle.twin_forms.proofs.Led.{same_or_not}
use Rattle.twin_forms.proofs.Elsewhere.{entry_here, entry_other}
use Rattle.convert_queue.specs.declared.phase.Phase.{Phase}
use Rattle.convert_queue.specs.declared.phase.Phase.TheVariants.{Copy, Repair, Flush}
use Rattle.convert_queue.specs.Marks.{mark_at}
use Rattle.convert_queue.specs.Queues.{Queues, queue_in, place_of, phase_of, total}
use Rattle.convert_queue.specs.Threads.{needs_of}
use Rattle.convert_words.specs.Agreeing.{item_in, Is, Queueing, Far, IsMended, Met, Reaches, Keeps, IsTied, AreTied, IsCopied}
use Rattle.convert_words.specs.Agreeing.{current_word, IsResolved, OnItsWay, Agrees}
use Rattle.convert_words.specs.Steps.{Changes}
use Rattle.convert_words.proofs.Basics.{room_of, by_object, line_other, LeadsBack, leads_moved, refers_moved, kept_back}
use Rattle.convert_words.proofs.Basics.{keeps_back, word_kept}
use Rattle.convert_words.proofs.Tied.{IsNoted, tied_kept}

-- ---- entries at the same place

pub record InPlace (e e' : Entry) : Type 0 where
  pub slots : e'.slots ≡ e.slots
  pub at : e'.at ≡ e.at
  pub line : e'.line ≡ e.line
  pub owner : e'.owner ≡ e.owner
  pub some : 0 < e.stage → 0 < e'.stage
  pub back : 0 < e'.stage → 0 < e.stage
  pub moved : 1 < e.stage → 1 < e'.stage
  pub more : (c : ℕ) → HasCopied e c → HasCopied e' c

pub still : (e : Entry) → InPlace e e
still e = record { slots = refl; at = refl; line = refl; owner = refl; some = λ x. x; back = λ x. x; moved = λ x. x; more = λ c x. x }

abbrev pub AllInPlace : List Entry → List Entry → Type 0
AllInPlace es es' = (length es' ≡ length es) × ((n : ℕ) → n < length es → InPlace (entry es n) (entry es' n))

pub all_still : (es : List Entry) → AllInPlace es es
all_still es = (refl, λ n ln. still (entry es n))

pub in_place_set : (es : List Entry) (n0 : ℕ) (e' : Entry) → n0 < length es → InPlace (entry es n0) e' → AllInPlace es (slice_set es n0 e')
in_place_set es n0 e' lt p = (
  length-set es n0 e',
  λ n ln. elim (same_or_not n n0) [
    | inl eq ↦ subst (λ x. InPlace (entry es x) (entry (slice_set es n0 e') x)) (sym eq) (subst (InPlace (entry es n0)) (sym (entry_here es n0 e' lt)) p)
    | inr ne ↦ subst (InPlace (entry es n)) (sym (entry_other es n0 n e' ne)) (still (entry es n))
  ],
)

pub claimed_on : (es es' : List Entry) (t n : ℕ) → AllInPlace es es' → IsClaimed es t n → IsClaimed es' t n
claimed_on es es' t n p c = (omega (arith, p.0, c.0), (p.1 n c.0).owner ∙ c.1)

pub claimed_back : (es es' : List Entry) (t n : ℕ) → AllInPlace es es' → IsClaimed es' t n → IsClaimed es t n
claimed_back es es' t n p c = let ln : n < length es = omega (arith, p.0, c.0) in (ln, sym (p.1 n ln).owner ∙ c.1)

pub met_on : (es es' : List Entry) (need : ℕ → ℕ → Bool) (t m : ℕ) → AllInPlace es es' → m < length es → Met es need t m → Met es' need t m
met_on es es' need t m p lm (inl x) = inl (omega (arith, p.0, lm), (p.1 m lm).moved x.1, (p.1 m lm).owner ∙ x.2)
met_on es es' need t m p lm (inr (inl c)) = inr (inl (claimed_on es es' t m p c))
met_on es es' need t m p lm (inr (inr x)) = inr (inr (x.0, x.1, claimed_on es es' x.0 m p x.2))

pub copied_on : (es es' : List Entry) (t l : ℕ) → AllInPlace es es' → IsCopied es t l → IsCopied es' t l
copied_on es es' t l p x =
    let at = p.1 x.n x.claimed.0 in
    let within = x.within in
    record {
      n = x.n;
      c = x.c;
      claimed = claimed_on es es' t x.n p x.claimed;
      within = omega (arith, within, at.slots);
      copied = at.more x.c x.copied;
      here = x.here ∙ ap (λ y. y + x.c) (sym at.line);
    }

-- ---- the queues as they were

pub record SameQueues (q q' : Queues) : Type 0 where
  pub queues : q'.queues ≡ q.queues
  pub needs : q'.needs ≡ q.needs
  pub places : length q'.places ≡ length q.places
  pub phases : length q'.phases ≡ length q.phases
  pub marks : length q'.marks ≡ length q.marks

pub same_queues : (q : Queues) → SameQueues q q
same_queues q = record { queues = refl; needs = refl; places = refl; phases = refl; marks = refl }

pub is_on : (q q' : Queues) (es es' : List Entry) (t i n : ℕ) → q'.queues ≡ q.queues → AllInPlace es es' → Is q es t i n → Is q' es' t i n
is_on q q' es es' t i n same p is =
    let at = p.1 n is.claimed.0 in record {
      within = subst (λ x. i < length (queue_in x t)) (sym same) is.within;
      claimed = claimed_on es es' t n p is.claimed;
      placed = at.some is.placed;
      object = subst (λ x. (item_in x t i).0 ≡ (entry es' n).at) (sym same) (is.object ∙ sym at.at);
      line = subst (λ x. (item_in x t i).1 ≡ (entry es' n).line) (sym same) (is.line ∙ sym at.line);
    }

pub is_back : (q q' : Queues) (es es' : List Entry) (t i n : ℕ) → q'.queues ≡ q.queues → AllInPlace es es' → Is q' es' t i n → Is q es t i n
is_back q q' es es' t i n same p is =
    let c = claimed_back es es' t n p is.claimed in
    let at = p.1 n c.0 in record {
      within = subst (λ x. i < length (queue_in x t)) same is.within;
      claimed = c;
      placed = at.back is.placed;
      object = subst (λ x. (item_in x t i).0 ≡ (entry es n).at) same (is.object ∙ at.at);
      line = subst (λ x. (item_in x t i).1 ≡ (entry es n).line) same (is.line ∙ at.line);
    }

pub queueing_on : (q q' : Queues) (es es' : List Entry) → q'.queues ≡ q.queues → AllInPlace es es' → Queueing q es → Queueing q' es'
queueing_on q q' es es' same p a = record {
  there = λ t i lt. let x = a.there t i (subst (λ y. i < length (queue_in y t)) same lt) in (x.0, is_on q q' es es' t i x.0 same p x.1);
  all = λ t n c. let x = a.all t n (claimed_back es es' t n p c) in (x.0, is_on q q' es es' t x.0 n same p x.1);
  once = λ t i j n x y. a.once t i j n (is_back q q' es es' t i n same p x) (is_back q q' es es' t j n same p y);
}

-- What holds of each queued object after the step makes the agreement after it.
pub agrees_over : (v v' : View) (held held' : ℕ → ℕ → Type 0) (back back' : ℕ → Type 0) (q q' : Queues) (free : ℕ) (keys keys' : ℕ → Type 0) (es es' : List Entry) →
    Lies v' es' → v'.lines ≡ v.lines → AllInPlace es es' → SameQueues q q' →
    ((t i n : ℕ) → Is q es t i n → OnItsWay v' es' held' back' q' t i (entry es' n)) →
    ((t l : ℕ) → IsNoted q'.marks t l → IsCopied es' t l) → ((w : ℕ) → keys' w → IsResolved es' w) →
    Agrees v held back q free keys es → Agrees v' held' back' q' free keys' es'
agrees_over v v' held held' back back' q q' free keys keys' es es' lies lines place same ways noted resolved a = record {
  lies = lies;
  sizes = record {
    queues = ap length same.queues ∙ a.sizes.queues;
    places = same.places ∙ a.sizes.places;
    phases = same.phases ∙ a.sizes.phases;
    needs = ap length same.needs ∙ a.sizes.needs;
    marks = same.marks ∙ a.sizes.marks ∙ sym lines;
  };
  queued = queueing_on q q' es es' same.queues place a.queued;
  on_way = λ t i n is. ways t i n (is_back q q' es es' t i n same.queues place is);
  noted = noted;
  real = λ t u lt lu need. let x = a.real t u lt lu (subst (λ y. needs_of y t u ≡ true) same.needs need) in (x.0, claimed_on es es' u x.0 place x.1);
  below = λ n ln some. let l1 : n < length es = omega (arith, ln, place.0) in let p = place.1 n l1 in let b = a.below n l1 (p.back some) in omega (arith, b, p.line, p.slots);
  few = subst (λ x. total x < free) (sym same.queues) a.few;
  resolved = resolved;
}

-- ---- one object over a step

-- An object whose entry stays the same reaches as far, where references lead back and repaired words are kept.
pub reaches_kept : (v v' : View) (es es' : List Entry) (need need' : ℕ → ℕ → Bool) (p : Phase) (at l t i : ℕ) (e : Entry) → length es' ≡ length es → v'.kept ≡ v.kept →
    ((m : ℕ) → m < length es → Met es need t m → Met es' need' t m) →
    ((k : ℕ) → k < e.slots → LeadsBack v v' es es' e e k) →
    ((k : ℕ) → refers v' e k ≡ true → k < e.slots → IsMended p at l i (line_of k) → (refers v e k ≡ true) × (word_of v' e k ≡ word_of v e k)) →
    Reaches v es need p at l t i e → Reaches v' es' need' p at l t i e
reaches_kept v v' es es' need need' p at l t i e long marks on leads same r = record {
  far = r.far;
  met = λ k m one kept lk hc no lm na.
      let lm1 : m < length es = omega (arith, lm, long) in
      let b = leads k lk one m lm1 na in
      on m lm1 (r.met k m b.0 (kept_back v v' e k marks kept) lk hc no lm1 b.1);
  mended = λ k one kept lk is. let s = same k one lk is in ap (λ x. x % 2) s.1 ∙ r.mended k s.0 (kept_back v v' e k marks kept) lk is;
}

-- what a repaired line says of its object
pub mended_two : (p : Phase) (at l i c : ℕ) (e : Entry) → Far p at l i e → IsMended p at l i c → 1 < e.stage
mended_two Copy at l i c e far is = absurd is
mended_two Repair at l i c e far is = omega (arith, far)
mended_two Flush at l i c e far is = omega (arith, far)

-- What is said of an object's references and kinds after a step, where its entry stays the same.
pub record Follows (v v' : View) (es es' : List Entry) (e : Entry) : Type 0 where
  pub leads : (k : ℕ) → k < e.slots → LeadsBack v v' es es' e e k
  pub kinds : (k : ℕ) → k < e.slots → refers v' e k ≡ refers v e k

pub follows_moved : (v v' : View) (es es' : List Entry) (n : ℕ) → Lies v es → Moved v es v' es' → n < length es → entry es' n ≡ entry es n → Follows v v' es es' (entry es n)
follows_moved v v' es es' n h moved ln same = record {
  leads = λ k lk. subst (λ x. LeadsBack v v' es es' (entry es n) x k) same (leads_moved v v' es es' n k h moved ln lk);
  kinds = λ k lk. subst (λ x. refers v' x k ≡ refers v (entry es n) k) same (refers_moved v v' es es' n k moved ln lk);
}

-- An object whose entry and lines stay the same stands as far as its thread has come.
pub way_kept : (Line : ℕ → Type 0) (v v' : View) (held held' : ℕ → ℕ → Type 0) (back back' : ℕ → Type 0) (q q' : Queues) (es es' : List Entry) (t i n : ℕ) →
    Changes Line v v' held held' back back' → Lies v es → length es' ≡ length es → ((m : ℕ) → m < length es → Met es (needs_of q.needs) t m → Met es' (needs_of q'.needs) t m) →
    Is q es t i n → entry es' n ≡ entry es n → Follows v v' es es' (entry es n) →
    ((c : ℕ) → c < lines_of (entry es n) → HasCopied (entry es n) c → (Line ((entry es n).line + c) → ⊥) × (mark_at q'.marks ((entry es n).line + c) ≡ mark_at q.marks ((entry es n).line + c))) →
    Reaches v es (needs_of q.needs) (phase_of q' t) (place_of q' t).0 (place_of q' t).1 t i (entry es n) → AreTied v held back q.marks t (entry es n) →
    OnItsWay v' es' held' back' q' t i (entry es' n)
way_kept Line v v' held held' back back' q q' es es' t i n changes h long on is same follows apart now tied =
    let e = entry es n in
    let room = room_of v es n h is.claimed.0 is.placed in
    let p = phase_of q' t in
    let at = (place_of q' t).0 in
    let l = (place_of q' t).1 in
    subst (OnItsWay v' es' held' back' q' t i) (sym same) (record {
      reaches = reaches_kept v v' es es' (needs_of q.needs) (needs_of q'.needs) p at l t i e long changes.kept on follows.leads
          (λ k one lk mended.
          let two = mended_two p at l i (line_of k) e now.far mended in (
            sym (follows.kinds k lk) ∙ one,
            word_kept Line v v' held held' back back' e k changes two lk room (apart (line_of k) (omega (arith, lk)) (inl two)).0,
          ))
          now;
      tied = λ c lc hc. let x = apart c lc hc in
          subst (IsTied v' held' back' (Keeps v' e) t (e.line + c)) (sym x.1)
          (tied_kept Line v v' held held' back back' (Keeps v e) (Keeps v' e) t (e.line + c) (mark_at q.marks (e.line + c))
          changes (omega (arith, room, lc)) x.0 (λ w kp. keeps_back v v' e w changes.kept kp) (tied c lc hc));
    })

-- Any change of one queued object: its lines alone may change, and the others lie as they did.
pub agrees_changed : (Line : ℕ → Type 0) (v v' : View) (held held' : ℕ → ℕ → Type 0) (back back' : ℕ → Type 0)
    (q q' : Queues) (free : ℕ) (keys keys' : ℕ → Type 0) (es es' : List Entry) (t0 i0 n0 : ℕ) →
    Changes Line v v' held held' back back' → Lies v' es' → AllInPlace es es' → SameQueues q q' → Is q es t0 i0 n0 →
    ((l : ℕ) → Line l → ((entry es n0).line ≤ l) × (l < (entry es n0).line + lines_of (entry es n0))) →
    ((l : ℕ) → (Line l → ⊥) → mark_at q'.marks l ≡ mark_at q.marks l) →
    ((n : ℕ) → n < length es → n ≢ n0 → (entry es' n ≡ entry es n) × Follows v v' es es' (entry es n)) →
    OnItsWay v' es' held' back' q' t0 i0 (entry es' n0) →
    ((t i n : ℕ) → Is q es t i n → n ≢ n0 → Reaches v es (needs_of q.needs) (phase_of q' t) (place_of q' t).0 (place_of q' t).1 t i (entry es n)) →
    ((t l : ℕ) → IsNoted q'.marks t l → IsCopied es' t l) → ((w : ℕ) → keys' w → IsResolved es' w) →
    Agrees v held back q free keys es → Agrees v' held' back' q' free keys' es'
agrees_changed Line v v' held held' back back' q q' free keys keys' es es' t0 i0 n0 changes lies place same is0 mine marks others here now noted resolved a =
    agrees_over v v' held held' back back' q q' free keys keys' es es' lies changes.lines place same
    (by_object q es t0 i0 n0 (λ t i n. OnItsWay v' es' held' back' q' t i (entry es' n)) a.queued is0 here
    (λ t i n is ne.
    let o = others n is.claimed.0 ne in
    way_kept Line v v' held held' back back' q q' es es' t i n changes a.lies place.0
    (λ m lm x. subst (λ y. Met es' (needs_of y) t m) (sym same.needs)
    (met_on es es' (needs_of q.needs) t m place lm x)) is o.0 o.1
    (λ c lc hc.
    let apart : Line ((entry es n).line + c) → ⊥ = λ x. let b = mine ((entry es n).line + c) x in line_other v es n0 n
    ((entry es n).line + c) c a.lies is0.claimed.0 is.claimed.0 ne is0.placed is.placed b.0 b.1 lc refl in
    (apart, marks ((entry es n).line + c) apart))
    (now t i n is ne) (a.on_way t i n is).tied))
    noted resolved a

-- the keys over a step that leaves the current references as they are
pub resolved_on : (es es' : List Entry) (w : ℕ) → length es' ≡ length es → ((n : ℕ) → n < length es → current_word (entry es' n) ≡ current_word (entry es n)) → IsResolved es w → IsResolved es' w
resolved_on es es' w long same x = (x.0, (let lt = x.1 in omega (arith, lt, long)), x.2 ∙ sym (same x.0 x.1))

pub resolved_set : (es : List Entry) (n : ℕ) (e' : Entry) (w : ℕ) → n < length es → current_word e' ≡ current_word (entry es n) → IsResolved es w → IsResolved (slice_set es n e') w
resolved_set es n e' w ln same x = resolved_on es (slice_set es n e') w (length-set es n e')
    (λ m lm. elim (same_or_not m n) [
      | inl eq ↦ ap (λ y. current_word (entry (slice_set es n e') y)) eq ∙ ap current_word (entry_here es n e' ln) ∙ same ∙ ap (λ y. current_word (entry es y)) (sym eq)
      | inr ne ↦ ap current_word (entry_other es n m e' ne)
    ])
    x

-- a thread at the same place reaches as far
pub reaches_at : (v : View) (es : List Entry) (need : ℕ → ℕ → Bool) (p p' : Phase) (at at' l l' t i : ℕ) (e : Entry) → p' ≡
    p → at' ≡ at → l' ≡ l → Reaches v es need p at l t i e → Reaches v es need p' at' l' t i e
reaches_at v es need p p' at at' l l' t i e ep ea el r =
    subst (λ x. Reaches v es need x at' l' t i e) (sym ep) (subst (λ x. Reaches v es need p x l' t i e) (sym ea) (subst (λ x. Reaches v es need p at x t i e) (sym el) r))

-- two moves, one after another
pub moved_on : (v1 v2 v3 : View) (es1 es2 es3 : List Entry) → Moved v1 es1 v2 es2 → Moved v2 es2 v3 es3 → Moved v1 es1 v3 es3
moved_on v1 v2 v3 es1 es2 es3 x y =
    let long = x.same.long in
    record {
      lies = y.lies;
      same = record {
        long = y.same.long ∙ x.same.long;
        shapes = λ n ln. y.same.shapes n (omega (arith, ln, long)) ∙ x.same.shapes n ln;
        slots = λ n ln. y.same.slots n (omega (arith, ln, long)) ∙ x.same.slots n ln;
        led = λ n w ln na. y.same.led n w (omega (arith, ln, long)) (x.same.led n w ln na);
        same = λ n k ln lk. (let sl = x.same.slots n ln in y.same.same n k (omega (arith, ln, long)) (omega (arith, lk, sl))) ∙ x.same.same n k ln lk;
        kept = y.same.kept ∙ x.same.kept;
      };
    }
