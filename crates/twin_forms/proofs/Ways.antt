-- A claim, the copy of a line, a forwarding and the repair of a line change nothing that the heap shows.
use Rattle.std.proofs.Common.{◌≡◌, ◌≢◌, ◌⊎◌, inl, inr, ℕ, ◌+◌, ◌-◌, ◌*◌, ◌/◌, ◌%◌, ◌<◌, ◌≤◌, Bool, true, false, List, length}
use Rattle.std.proofs.Common.{refl, sym, ◌∙◌, ap, subst, arith}
use Rattle.std.specs.Prelude.{slice_set}
use Rattle.std.proofs.lemmas.Grind.{common_steps}
use Rattle.std.proofs.lemmas.List.{set-get_or}
use Rattle.object_header.specs.States.{header_word}
use Rattle.object_header.specs.declared.state.State.TheVariants.{Claimed, Copying, Converted, Durable}
use Rattle.twin_forms.specs.Table.{Entry, no_entry, entry, View, state_word, head_word, word_of, Names, IsRef, refers, Apart}
use Rattle.twin_forms.specs.Table.{Lies}
use Rattle.twin_forms.specs.Moves.{Moved, owned, placed, one_more, forwarded, sealed, ToClaim, ToPlace, ToCopy, ToForward}
use Rattle.twin_forms.specs.Moves.{ToSeal, copy_word, repaired, Filled}
use Rattle.twin_forms.proofs.Led.{same_or_not, below_or_not, word_young, word_moved}
use Rattle.twin_forms.proofs.States.{when_claimed, when_copying, when_converted, when_durable}
use Rattle.twin_forms.proofs.Frames.{Put, SameSizes, old_elsewhere}
use Rattle.twin_forms.proofs.Elsewhere.{still, Means, as_was, led, moved}

-- the first lines of two objects differ
lines_differ : (a m b n : ℕ) → Apart a (m / 8 + 1) b (n / 8 + 1) → b ≢ a
lines_differ a m b n x = elim x [ inl y ↦ λ e. omega (arith, y, e) | inr y ↦ λ e. omega (arith, y, e) ]

claimed_by : (t : ℕ) → t ≡ t + 1 - 1
claimed_by t = omega arith

-- the thread's claim, with no lines yet
pub claim_step : (v v' : View) (es : List Entry) (n at t : ℕ) → Lies v es → n < length es → ToClaim at v es n → t < 64 →
    Put v.old v'.old at (header_word (Claimed t)) → ((q : ℕ) → v'.shown q ≡ v.shown q) →
    ((l : ℕ) → v'.number l ≡ v.number l) → ((l : ℕ) → v'.copied l ≡ v.copied l) → ((l : ℕ) → v'.owner l ≡ v.owner l) →
    SameSizes v v' → Moved v es v' (slice_set es n (owned t (entry es n)))
claim_step v v' es n at t h ln may few old shown number copied owner sizes =
    let e = entry es n in
    let s = h.sits n ln in
    let young = may.1 in
    let a : (entry es n).at ≡ at = may.0.1 in
    let y : (entry es n).stage < 3 = may.0.0 in
    moved v v' es n (owned t e) h ln
    (record { slots = refl; shape = refl; at = refl; old = λ b. b; copy = λ b. absurd (omega (arith, b, young)) })
    (record {
      stage = omega (arith, y);
      owner = omega (arith, few);
      copying = λ b. absurd (omega (arith, b, young));
      born = λ b. absurd (omega (arith, b, young));
      old = λ b. b;
      copy_in = λ b. absurd (omega (arith, b, young));
      apart = λ m _ lm sm b. absurd (omega (arith, b, young));
    })
    sizes
    (λ m lm ne. record {
      old = λ sm j lj. old.same ((entry es m).at + j) (λ eq. old_elsewhere h.table m n lm ln ne sm y 0 j (omega arith) lj (omega (arith, eq, a)));
      shown = λ _ j _. shown (8 * (entry es m).line + j);
      number = λ _. number (entry es m).line;
      copied = λ _. copied (entry es m).line;
      owner = λ _. owner (entry es m).line;
    })
    (record {
      state = λ _. ap v'.old a ∙ old.here ∙ ap header_word (ap Claimed (claimed_by t) ∙ sym (when_claimed (owned t e) young (omega arith)));
      head = λ _. old.same (e.at + 1) (λ eq. omega (arith, eq, a)) ∙ s.head y;
      number = λ _. old.same (e.at + 2) (λ eq. omega (arith, eq, a)) ∙ s.number y;
      copy_number = λ b. absurd (omega (arith, b, young));
      copy_owner = λ b. absurd (omega (arith, b, young));
      copy_head = λ b. absurd (omega (arith, b, young));
      count = λ b. absurd (omega (arith, b, young));
      mirrored_head = λ b _. absurd (omega (arith, b, young));
      mirrored = λ k b _ _. absurd (omega (arith, b, young));
    })
    (λ k lk. as_was (word_young v' (owned t e) k (omega (arith, young)) ∙ old.same (e.at + 3 + k) (λ eq. omega (arith, eq, a)) ∙ sym (word_young v e k (omega (arith, young)))))

-- a claimed object's copy gets its first line
pub place_step : (v v' : View) (es : List Entry) (n at line x : ℕ) → Lies v es → n < length es → ToPlace at line v es n →
    Put v.old v'.old at (header_word (Copying ((entry es n).owner - 1) line)) → ((q : ℕ) → v'.shown q ≡ v.shown q) → Put
    v.number v'.number line x → x ≡ v.old (at + 2) → Put v.copied v'.copied line 0 →
    Put v.owner v'.owner line (entry es n).owner → SameSizes v v' → Moved v es v' (slice_set es n (placed line (entry es n)))
place_step v v' es n at line x h ln may old shown number is copied owner sizes =
    let e = entry es n in
    let s = h.sits n ln in
    let c = may in
    let a : (entry es n).at ≡ at = may.object in
    let y : (entry es n).stage < 3 = omega (arith, c.young) in
    moved v v' es n (placed line e) h ln
    (record { slots = refl; shape = refl; at = refl; old = λ _. omega arith; copy = λ b. absurd (omega (arith, b, c.young)) })
    (record {
      stage = omega arith;
      owner = h.table.owners n ln;
      copying = λ _. c.claimed;
      born = λ b. absurd
          (omega (arith, b));
      old = λ _. y;
      copy_in = λ _. (c.some, c.within);
      apart = λ m _ lm sm _. c.free m lm sm;
    })
    sizes
    (λ m lm ne. record {
      old = λ sm j lj. old.same ((entry es m).at + j) (λ eq. old_elsewhere h.table m n lm ln ne sm y 0 j (omega arith) lj (omega (arith, eq, a)));
      shown = λ _ j _. shown (8 * (entry es m).line + j);
      number = λ sm. number.same (entry es m).line (lines_differ line (entry es n).slots (entry es m).line (entry es m).slots (c.free m lm sm));
      copied = λ sm. copied.same (entry es m).line (lines_differ line (entry es n).slots (entry es m).line (entry es m).slots (c.free m lm sm));
      owner = λ sm. owner.same (entry es m).line (lines_differ line (entry es n).slots (entry es m).line (entry es m).slots (c.free m lm sm));
    })
    (record {
      state = λ _. ap v'.old a ∙ old.here ∙ ap header_word (sym (when_copying (placed line e) refl));
      head = λ _. old.same (e.at + 1) (λ eq. omega (arith, eq, a)) ∙ s.head y;
      number = λ _. old.same (e.at + 2) (λ eq. omega (arith, eq, a)) ∙ s.number y;
      copy_number = λ _. number.here ∙ is ∙ ap (λ a. v.old (a + 2)) (sym a) ∙ s.number y;
      copy_owner = λ _. owner.here;
      copy_head = λ b. absurd (omega (arith, b));
      count = λ _. copied.here;
      mirrored_head = λ _ b. absurd (omega (arith, b));
      mirrored = λ k _ _ b. absurd (omega (arith, b));
    })
    (λ k lk. as_was (word_young v' (placed line e) k (omega arith) ∙ old.same (e.at + 3 + k) (λ eq. omega (arith, eq, a)) ∙ sym (word_young v e k (omega (arith, c.young)))))

copied_head : (f : ℕ → ℕ) (h b s j : ℕ) → j ≡ 0 → copy_word f h b s j ≡ h
copied_head f h b s j e = rw e refl

copied_slot : (f : ℕ → ℕ) (h b s j : ℕ) → 0 < j → j ≤ s → copy_word f h b s j ≡ f (b + j)
copied_slot f h b s j p l = grind (arith, common_steps)

pub copy_step : (v v' : View) (es : List Entry) (n at line done head slots : ℕ) → Lies v es → n < length es → ToCopy at v es n →
    line ≡ (entry es n).line → done ≡ (entry es n).copied → head ≡ head_word (entry es n) → slots ≡ (entry es n).slots →
    ((q : ℕ) → v'.old q ≡ v.old q) → Filled (8 * line + 8 * done) (8 * line + (8 * done + 8)) (λ q. copy_word v.old head (at + 2) slots (q - 8 * line)) v.shown v'.shown →
    ((l : ℕ) → v'.number l ≡ v.number l) → ((l : ℕ) → v'.owner l ≡ v.owner l) → Put v.copied v'.copied line (done + 1) →
    SameSizes v v' → Moved v es v' (slice_set es n (one_more (entry es n)))
copy_step v v' es n at line done head slots h ln may le de he se old fill number owner copied sizes =
    let e = entry es n in
    let s = h.sits n ln in
    let y : (entry es n).stage ≡ 1 = may.1 in
    let left : 8 * done ≤ (entry es n).slots = omega (arith, may.2, de) in
    let apart : (m : ℕ) → m ≢ n → m < length es → 0 < (entry es m).stage → Apart (entry es n).line ((entry es n).slots / 8 + 1) (entry es m).line ((entry es m).slots / 8 + 1) =
    λ m ne lm sm. h.table.copy_apart n m ln lm (λ eq. ne (sym eq)) (omega (arith, y)) sm in
    moved v v' es n (one_more e) h ln
    (record { slots = refl; shape = refl; at = refl; old = λ b. b; copy = λ b. absurd (omega (arith, b, y)) })
    (record {
      stage = h.table.stages n ln;
      owner = h.table.owners n ln;
      copying = h.table.copying n ln;
      born = h.table.born
          n ln;
      old = λ b. b;
      copy_in = λ b. h.table.copy_in n ln b;
      apart = λ m ne lm sm _. apart m ne lm sm;
    })
    sizes
    (λ m lm ne. record {
      old = λ sm j lj. old ((entry es m).at + j);
      shown = λ sm j lj. fill.outside (8 * (entry es m).line + j) (elim (apart m ne lm sm) [ inl x ↦ inr (omega (arith, x, le, left)) | inr x ↦ inl (omega (arith, x, le, lj)) ]);
      number = λ sm. number (entry es m).line;
      owner = λ sm. owner (entry es m).line;
      copied = λ sm. copied.same (entry es m).line (λ eq. lines_differ (entry es n).line (entry es n).slots (entry es m).line (entry es m).slots (apart m ne lm sm) (eq ∙ le));
    })
    (record {
      state = λ b. old e.at ∙ s.state b;
      head = λ b. old (e.at + 1) ∙ s.head b;
      number = λ b. old (e.at + 2) ∙ s.number b;
      copy_number = λ b. number e.line ∙ s.copy_number b;
      copy_owner = λ b. owner e.line ∙ s.copy_owner b;
      copy_head = λ b. absurd (omega (arith, b, y));
      count = λ _. ap v'.copied (sym le) ∙ copied.here ∙ ap (λ x. x + 1) de;
      mirrored_head = λ _ _. elim (same_or_not done 0) [
        | inl z ↦ fill.inside (8 * e.line) (omega (arith, z, le)) (omega (arith, z, le)) ∙ copied_head v.old head (at + 2) slots (8 * e.line - 8 * line) (omega (arith, le)) ∙ he
        | inr nz ↦ fill.outside (8 * e.line) (inl (omega (arith, nz, le))) ∙ s.mirrored_head y (omega (arith, nz, de))
      ];
      mirrored = λ k _ lk b. elim (below_or_not (1 + k) (8 * done)) [
        | inl z ↦ fill.outside (8 * e.line + 1 + k) (inl (omega (arith, z, le))) ∙ s.mirrored k y lk (omega (arith, z, de)) ∙ sym (old (e.at + 3 + k))
        | inr z ↦ fill.inside (8 * e.line + 1 + k) (omega (arith, z, le)) (omega (arith, b, le, de)) ∙ copied_slot v.old
            head (at + 2) slots (8 * e.line + 1 + k - 8 * line) (omega (arith, le)) (omega (arith, le, se, lk))
            ∙ ap v.old (omega (arith, le, may.0)) ∙ sym (old (e.at + 3 + k))
      ];
    })
    (λ k lk. as_was (word_young v' (one_more e) k (omega (arith, y)) ∙ old (e.at + 3 + k) ∙ sym (word_young v e k (omega (arith, y)))))

-- only the word of its state and its owner change
pub forward_step : (v v' : View) (es : List Entry) (n at : ℕ) → Lies v es → n < length es → ToForward at v es n →
    Put v.old v'.old at (header_word (Converted ((entry es n).owner - 1) (entry es n).line)) →
    ((q : ℕ) → v'.shown q ≡ v.shown q) → ((l : ℕ) → v'.number l ≡ v.number l) → ((l : ℕ) → v'.copied l ≡ v.copied l) →
    ((l : ℕ) → v'.owner l ≡ v.owner l) →
    SameSizes v v' → Moved v es v' (slice_set es n (forwarded (entry es n)))
forward_step v v' es n at h ln may old shown number copied owner sizes =
    let e = entry es n in
    let s = h.sits n ln in
    let y : (entry es n).stage ≡ 1 = may.1 in
    let y3 : (entry es n).stage < 3 = omega (arith, y) in
    let some = h.table.copying n ln y in
    moved v v' es n (forwarded e) h ln
    (record { slots = refl; shape = refl; at = refl; old = λ _. omega arith; copy = λ b. absurd (omega (arith, b, y)) })
    (record {
      stage = omega arith;
      owner = h.table.owners n ln;
      copying = λ _. some;
      born = λ b. absurd (omega (arith, b));
      old = λ _. y3;
      copy_in = λ _. h.table.copy_in n ln (omega (arith, y));
      apart = λ m ne lm sm _. h.table.copy_apart n
          m ln lm (λ eq. ne (sym eq)) (omega (arith, y)) sm;
    })
    sizes
    (λ m lm ne. record {
      old = λ sm j lj. old.same ((entry es m).at + j) (λ eq. old_elsewhere h.table m n lm ln ne sm y3 0 j (omega arith) lj (omega (arith, eq, may.0)));
      shown = λ _ j _. shown (8 * (entry es m).line + j);
      number = λ sm. number (entry es m).line;
      copied = λ sm. copied (entry es m).line;
      owner = λ sm. owner (entry es m).line;
    })
    (record {
      state = λ _. ap v'.old may.0 ∙ old.here ∙ ap header_word (sym (when_converted (forwarded e) refl some));
      head = λ _. old.same (e.at + 1) (λ eq. omega (arith, eq, may.0)) ∙ s.head y3;
      number = λ _. old.same (e.at + 2) (λ eq. omega (arith, eq, may.0)) ∙ s.number y3;
      copy_number = λ _. number e.line ∙ s.copy_number (omega (arith, y));
      copy_owner = λ _. owner e.line ∙ s.copy_owner (omega (arith, y));
      copy_head = λ _. shown (8 * e.line) ∙ s.mirrored_head y (omega (arith, may.2));
      count = λ b. absurd (omega (arith, b));
      mirrored_head = λ b _. absurd (omega (arith, b));
      mirrored = λ k b _ _. absurd (omega (arith, b));
    })
    (λ k lk. as_was (word_moved v' (forwarded e) k (omega arith) ∙ shown (8 * e.line + 1 + k) ∙ s.mirrored k y lk (omega (arith, may.2, lk)) ∙ sym (word_young v e k (omega (arith, y)))))

pub seal_step : (v v' : View) (es : List Entry) (n at : ℕ) → Lies v es → n < length es → ToSeal at v es n →
    Put v.old v'.old at (header_word (Durable (entry es n).line)) → ((q : ℕ) → v'.shown q ≡ v.shown q) →
    ((l : ℕ) → v'.number l ≡ v.number l) → ((l : ℕ) → v'.copied l ≡ v.copied l) → Put v.owner v'.owner
    (entry es n).line 0 →
    SameSizes v v' → Moved v es v' (slice_set es n (sealed (entry es n)))
seal_step v v' es n at h ln may old shown number copied owner sizes =
    let e = entry es n in
    let s = h.sits n ln in
    let y : (entry es n).stage ≡ 2 = may.1 in
    let y3 : (entry es n).stage < 3 = omega (arith, y) in
    let apart : (m : ℕ) → m ≢ n → m < length es → 0 < (entry es m).stage → Apart (entry es n).line ((entry es n).slots / 8 + 1) (entry es m).line ((entry es m).slots / 8 + 1) =
    λ m ne lm sm. h.table.copy_apart n m ln lm (λ eq. ne (sym eq)) (omega (arith, y)) sm in
    moved v v' es n (sealed e) h ln
    (record { slots = refl; shape = refl; at = refl; old = λ b. b; copy = λ b. (b, refl) })
    (record {
      stage = h.table.stages n ln;
      owner = omega arith;
      copying = λ b. absurd (omega (arith, b, y));
      born = λ _.
          refl;
      old = λ b. b;
      copy_in = λ b. h.table.copy_in n ln b;
      apart = λ m ne lm sm _. apart m ne lm sm;
    })
    sizes
    (λ m lm ne. record {
      old = λ sm j lj. old.same ((entry es m).at + j) (λ eq. old_elsewhere h.table m n lm ln ne sm y3 0 j (omega arith) lj (omega (arith, eq, may.0)));
      shown = λ _ j _. shown (8 * (entry es m).line + j);
      number = λ sm. number (entry es m).line;
      copied = λ sm. copied (entry es m).line;
      owner = λ sm. owner.same (entry es m).line (lines_differ (entry es n).line (entry es n).slots (entry es m).line (entry es m).slots (apart m ne lm sm));
    })
    (record {
      state = λ _. ap v'.old may.0 ∙ old.here ∙ ap header_word (sym (when_durable (sealed e) y refl));
      head = λ _. old.same (e.at + 1) (λ eq. omega (arith, eq, may.0)) ∙ s.head y3;
      number = λ _. old.same (e.at + 2) (λ eq. omega (arith, eq, may.0)) ∙ s.number y3;
      copy_number = λ b. number e.line ∙ s.copy_number b;
      copy_owner = λ _. owner.here;
      copy_head = λ b. shown (8 * e.line) ∙ s.copy_head b;
      count = λ b. absurd (omega (arith, b, y));
      mirrored_head = λ b _. absurd (omega (arith, b, y));
      mirrored = λ k b _ _. absurd (omega (arith, b, y));
    })
    (λ k lk. as_was (word_moved v' (sealed e) k (omega (arith, y)) ∙ shown (8 * e.line + 1 + k) ∙ sym (word_moved v e k (omega (arith, y)))))

repaired_even : (f : ℕ → ℕ) (b : Bool) (w : ℕ) → w % 2 ≡ 0 → repaired f b w ≡ w
repaired_even f true w e = rw e refl
repaired_even f false w e = refl

repaired_odd : (f : ℕ → ℕ) (b : Bool) (w a : ℕ) → b ≡ true → w ≡ 2 * a + 1 → repaired f b w ≡ 2 * (f a / 4294967296)
repaired_odd f b w a is e = let p : w % 2 ≡ 1 = omega arith in let q : w / 2 ≡ a = omega arith in rw (is, p, q) refl

repaired_not : (f : ℕ → ℕ) (b : Bool) (w : ℕ) → b ≡ false → repaired f b w ≡ w
repaired_not f b w is = rw is refl

either : (b : Bool) → (b ≡ false) ⊎ (b ≡ true)
either false = inl refl
either true = inr refl

-- what the state's word of a forwarded object says of its line
pub line_in_state : (e : Entry) → e.stage ≡ 2 → e.owner ≤ 64 → state_word e / 4294967296 ≡ e.line
line_in_state e s most = elim (same_or_not e.owner 0) [
  | inl o ↦ (let w : state_word e ≡ 4 + 4294967296 * e.line = ap header_word (when_durable e s o) in omega (arith, w))
  | inr some ↦ (let w : state_word e ≡ 3 + 8 * (e.owner - 1) + 4294967296 * e.line = ap header_word (when_converted e s (omega (arith, some))) in omega (arith, w, most))
]

pub entry_same : (es : List Entry) (n : ℕ) → slice_set es n (entry es n) ≡ es
entry_same es n = set-get_or es n no_entry

-- the words from low to before high are slots of the object
pub repair_step : (v v' : View) (es : List Entry) (n low high : ℕ) → Lies v es → n < length es → 1 < (entry es n).stage →
    8 * (entry es n).line + 1 ≤ low → high ≤ 8 * (entry es n).line + 1 + (entry es n).slots →
    ((k m : ℕ) → k < (entry es n).slots → low ≤ 8 * (entry es n).line + 1 + k → 8 * (entry es n).line + 1 + k < high →
    refers v (entry es n) k ≡ true → m < length es → word_of v (entry es n) k ≡ 2 * (entry es m).at + 1 →
    (entry es m).stage < 3 → (entry es m).stage ≡ 2) →
    ((q : ℕ) → v'.old q ≡ v.old q) → Filled low high (λ q. repaired v.old (refers v (entry es n) (q - (8 * (entry es n).line + 1))) (v.shown q)) v.shown v'.shown →
    ((l : ℕ) → v'.number l ≡ v.number l) → ((l : ℕ) → v'.copied l ≡ v.copied l) → ((l : ℕ) → v'.owner l ≡ v.owner l) → SameSizes v v' → Moved v es v' (slice_set es n (entry es n))
repair_step v v' es n low high h ln y lo hi ready old fill number copied owner sizes =
    let e = entry es n in
    let s = h.sits n ln in
    let apart : (m : ℕ) → m ≢ n → m < length es → 0 < (entry es m).stage → Apart (entry es n).line ((entry es n).slots / 8 + 1) (entry es m).line ((entry es m).slots / 8 + 1) =
    λ m ne lm sm. h.table.copy_apart n m ln lm (λ eq. ne (sym eq)) (omega (arith, y)) sm in
    moved v v' es n e h ln (still e)
    (record {
      stage = h.table.stages n ln;
      owner = h.table.owners n ln;
      copying = h.table.copying n ln;
      born = h.table.born
          n ln;
      old = λ b. b;
      copy_in = λ b. h.table.copy_in n ln b;
      apart = λ m ne lm sm _. apart m ne lm sm;
    })
    sizes
    (λ m lm ne. record {
      old = λ sm j lj. old ((entry es m).at + j);
      shown = λ sm j lj. fill.outside (8 * (entry es m).line + j) (elim (apart m ne lm sm) [ inl x ↦ inr (omega (arith, x, hi)) | inr x ↦ inl (omega (arith, x, lo, lj)) ]);
      number = λ sm. number (entry es m).line;
      owner = λ sm. owner (entry es m).line;
      copied = λ sm. copied (entry es m).line;
    })
    (record {
      state = λ b. old e.at ∙ s.state b;
      head = λ b. old (e.at + 1) ∙ s.head b;
      number = λ b. old (e.at + 2) ∙ s.number b;
      copy_number = λ b. number e.line ∙ s.copy_number b;
      copy_owner = λ b. owner e.line ∙ s.copy_owner b;
      copy_head = λ b. fill.outside (8 * e.line) (inl (omega (arith, lo))) ∙ s.copy_head b;
      count = λ b. absurd (omega (arith, b, y));
      mirrored_head = λ b _. absurd (omega (arith, b, y));
      mirrored = λ k b _ _. absurd (omega (arith, b, y));
    })
    (λ k lk.
    let q = 8 * e.line + 1 + k in
    let w = word_of v e k in
    let b = refers v e k in
    let at_k : q - (8 * e.line + 1) ≡ k = omega arith in
    let is : w ≡ v.shown q = word_moved v e k (omega (arith, y)) in
    let is' : word_of v' e k ≡ v'.shown q = word_moved v' e k (omega (arith, y)) in
    let apart_from : (q < low) ⊎ (high ≤ q) → Means es (slice_set es n e) b w (word_of v' e k) = λ o. as_was (is' ∙ fill.outside q o ∙ sym is) in
    elim (below_or_not q low) [
      | inl a ↦ apart_from (inl a)
      | inr a ↦ (elim (below_or_not q high) [
        | inr o ↦ apart_from (inr o)
        | inl o ↦ (let now : word_of v' e k ≡ repaired v.old b w = is' ∙ fill.inside q a o ∙ ap (λ x. repaired v.old (refers v e x) (v.shown q)) at_k ∙ ap (repaired v.old b) (sym is) in
            elim (either b) [
              | inl plain ↦ as_was (now ∙ repaired_not v.old b w plain)
              | inr one ↦ (elim (h.refs n k ln one lk) [
                | inl z ↦ as_was (now ∙ repaired_even v.old b w (omega (arith, z)))
                | inr x ↦ (elim x.2 [
                  | inr r ↦ as_was (now ∙ repaired_even v.old b w (omega (arith, r.1)))
                  | inl r ↦ (let two : (entry es x.0).stage ≡ 2 = ready k x.0 lk a o one x.1 r.1 r.0 in
                      let st : v.old (entry es x.0).at ≡ state_word (entry es x.0) = (h.sits x.0 x.1).state r.0 in
                      let div : v.old (entry es x.0).at / 4294967296 ≡ (entry es x.0).line = ap (λ z. z / 4294967296) st ∙ line_in_state (entry es x.0) two (h.table.owners x.0 x.1) in
                      let pos = (h.table.copy_in x.0 x.1 (omega (arith, two))).0 in
                      let val : word_of v' e k ≡ 2 * (entry es x.0).line = now ∙ repaired_odd v.old b w (entry es x.0).at one r.1 ∙ ap (λ z. 2 * z) div in
                      led one x.0 x.1 (inl r) (subst (λ l. Names (entry l x.0) (word_of v' e k)) (sym (entry_same es n)) (inr (omega (arith, two), val, omega (arith, val, pos)))))
                ])
              ])
            ])
      ])
    ])

-- a reference to the space in a copy is within the space
pub odd_within : (v : View) (es : List Entry) (n q : ℕ) → Lies v es → n < length es → 1 < (entry es n).stage → refers v (entry es n) (q - (8 * (entry es n).line + 1)) ≡ true →
    8 * (entry es n).line + 1 ≤ q → q < 8 * (entry es n).line + 1 + (entry es n).slots → v.shown q % 2 ≡ 1 → v.shown q / 2 < v.words
odd_within v es n q h ln y one lo hi odd =
    let k = q - (8 * (entry es n).line + 1) in
    let at : 8 * (entry es n).line + 1 + k ≡ q = omega arith in
    let is : word_of v (entry es n) k ≡ v.shown q = word_moved v (entry es n) k (omega (arith, y)) ∙ ap v.shown at in
    elim (subst (IsRef es) is (h.refs n k ln one (omega (arith, at, hi)))) [
      | inl z ↦ absurd (omega (arith, z, odd))
      | inr x ↦ (elim x.2 [
        | inr r ↦ absurd (omega (arith, r.1, odd))
        | inl r ↦ (let w = h.table.old_in x.0 x.1 r.0 in omega (arith, r.1, w))
      ])
    ]
