-- Claims, copies, forwards, repairs and seals of a heap's words.
use Rattle.std.proofs.Common.{◌≡◌, ◌⊎◌, inl, inr, ℕ, ◌+◌, ◌-◌, ◌*◌, ◌/◌, ◌%◌, ◌<◌, ◌≤◌, ◌^◌, Bool, true, List, length, refl}
use Rattle.std.proofs.Common.{sym, ◌∙◌, ap, subst, arith, length-set}
use Rattle.std.specs.Prelude.{slice_index, slice_set, min}
use Rattle.object_header.specs.States.{header_word}
use Rattle.object_header.specs.declared.state.State.{State}
use Rattle.object_header.specs.declared.state.State.TheVariants.{Ordinary, Claimed, Copying, Converted, Durable}
use Rattle.forwarding.specs.Forwards.{HasState}
use Rattle.forwarding.specs.declared.forward.Claimed.{Claimed as Answer}
use Rattle.forwarding.specs.declared.forward.Claimed.TheVariants.{Now, By, Already}
use Rattle.image_layout.specs.Places.{head_of}
use Rattle.volatile_space.specs.Spaces.{Space}
use Rattle.line_memory.specs.Memory.{Memory, shown}
use Rattle.twin_forms.specs.Table.{Entry, entry, Lies, state_in, head_word, word_of, is_reference, refers}
use Rattle.twin_forms.specs.Moves.{Moved, owned, placed, one_more, forwarded, sealed, LiesAt, ToClaim, ToPlace, ToCopy}
use Rattle.twin_forms.specs.Moves.{ToForward, ToRepair, ToSeal, IsRepaired, copy_word, repaired, Filled}
use Rattle.twin_forms.specs.Sights.{Marks, sight, slot_kind}
use Rattle.twin_forms.proofs.Led.{same_or_not, below_or_not, word_moved}
use Rattle.twin_forms.proofs.States.{when_ordinary, when_copying, when_converted, when_durable}
use Rattle.twin_forms.proofs.Frames.{Put, SameSizes}
use Rattle.twin_forms.proofs.Ways.{claim_step, place_step, copy_step, forward_step, seal_step, repair_step, odd_within}
use Rattle.twin_heap.specs.Here.{IsFilled, copied_in, kind_in_line, line_in, repaired_in}
use Rattle.twin_heap.proofs.Reading.{There, there, spot_is}
use Rattle.twin_heap.proofs.Storing.{put, put_to}
use Rattle.twin_heap.proofs.Filling.{fills}

-- the object at an index
pub at_object : (s : Space) (m : Memory) (k : Marks) (es : List Entry) (n at : ℕ) → Lies (sight s m k) es → n < length es → LiesAt at (entry es n) → There s.words at (entry es n)
at_object s m k es n at h ln x = there s m k es n at h ln (inl (x.0, omega (arith, x.1)))

sizes_of : (s s' : Space) (m m' : Memory) (k k' : Marks) → length s'.words ≡ length s.words → s'.left ≡ s.left → m'.size ≡
    m.size → length k'.numbers ≡ length k.numbers → k'.births ≡ k.births → k'.kinds ≡ k.kinds → k'.room ≡ k.room →
    SameSizes (sight s m k) (sight s' m' k')
sizes_of s s' m m' k k' words left size numbers births kinds room = record {
  words = words;
  left = left;
  lines = size;
  marks = numbers;
  birth = λ n. ap (λ l. slice_index l n) births;
  count = ap length births;
  shapes = ap length kinds;
  room = room;
  kinds = ap slot_kind kinds;
  kept = refl;
}

pub claim_is : (s s' : Space) (m : Memory) (k : Marks) (es : List Entry) (n at t : ℕ) → Lies (sight s m k) es → n < length es → ToClaim at (sight s m k) es n → t < 64 →
    s'.words ≡ slice_set s.words at (header_word (Claimed t)) → s'.left ≡ s.left → Moved (sight s m k) es (sight s' m k) (slice_set es n (owned t (entry es n)))
claim_is s s' m k es n at t h ln may few words left =
    let x = at_object s m k es n at h ln may.0 in
    claim_step (sight s m k) (sight s' m k) es n at t h ln may few (put_to s.words s'.words at (header_word (Claimed t)) words x.state.taken) (λ _. refl) (λ _. refl) (λ _. refl) (λ _. refl)
    (sizes_of s s' m m k k (ap length words ∙ length-set s.words at (header_word (Claimed t))) left refl refl refl refl refl)

pub claims_now : (s : Space) (m : Memory) (k : Marks) (es : List Entry) (n at : ℕ) → Lies (sight s m k) es → n < length es
    → ToClaim at (sight s m k) es n → HasState s.words at (state_in (entry es n)) × (state_in (entry es n) ≡ Ordinary)
claims_now s m k es n at h ln may = ((at_object s m k es n at h ln may.0).state, when_ordinary (entry es n) may.1 may.2)

abbrev is_now : Answer → ℕ
is_now Now = 1
is_now (By u) = 0
is_now Already = 0

-- a claim takes no word
pub claim_long : (r : Answer) (words words' : List ℕ) (at w : ℕ) → (r ≡ Now → words' ≡ slice_set words at w) → ((r ≡ Now → ⊥) → words' ≡ words) → length words' ≡ length words
claim_long Now words words' at w now not = ap length (now refl) ∙ length-set words at w
claim_long (By u) words words' at w now not = ap length (not (λ e. let x : 0 ≡ 1 = ap is_now e in absurd (omega (arith, x))))
claim_long Already words words' at w now not = ap length (not (λ e. let x : 0 ≡ 1 = ap is_now e in absurd (omega (arith, x))))

pub place_is : (s s' : Space) (m : Memory) (k k' : Marks) (es : List Entry) (n at line x o w : ℕ) → Lies (sight s m k) es → n < length es → ToPlace at line (sight s m k) es n →
    w ≡ header_word (Copying (o - 1) line) → o ≡ (entry es n).owner → s'.words ≡ slice_set s.words at w → s'.left ≡ s.left → x ≡ slice_index s.words (at + 2) →
    length k.copies ≡ length k.numbers → length k.owners ≡ length k.numbers →
    k' ≡ record k { numbers = slice_set k.numbers line x; copies = slice_set k.copies line 0; owners = slice_set k.owners line o } →
    Moved (sight s m k) es (sight s' m k') (slice_set es n (placed line (entry es n)))
place_is s s' m k k' es n at line x o w h ln may is owner words left number copies owners eq =
    let k1 : Marks = record k { numbers = slice_set k.numbers line x; copies = slice_set k.copies line 0; owners = slice_set k.owners line o } in
    let t = at_object s m k es n at h ln (omega (arith, may.young), may.object) in
    let marked = h.marked in
    let within = may.within in
    let lt : line < length k.numbers = omega (arith, marked, within) in
    let word : w ≡ header_word (Copying ((entry es n).owner - 1) line) = is ∙ ap (λ o. header_word (Copying (o - 1) line)) owner in
    let po = put k.owners line o (omega (arith, lt, owners)) in
    subst (λ (x : Marks). Moved (sight s m k) es (sight s' m x) (slice_set es n (placed line (entry es n)))) (sym eq)
    (place_step (sight s m k) (sight s' m k1) es n at line x h ln may
    (put_to s.words s'.words at (header_word (Copying ((entry es n).owner - 1) line)) (words ∙ ap (slice_set s.words at) word) t.state.taken) (λ _. refl)
    (put k.numbers line x lt) number (put k.copies line 0 (omega (arith, lt, copies)))
    (record { here = po.here ∙ owner; same = po.same })
    (sizes_of s s' m m k k1 (ap length words ∙ length-set s.words at w) left refl (length-set k.numbers line x) refl refl refl))

pub forward_is : (s s' : Space) (m : Memory) (k : Marks) (es : List Entry) (n at line u : ℕ) → Lies (sight s m k) es → n < length es → ToForward at (sight s m k) es n →
    line ≡ (entry es n).line → u ≡ (entry es n).owner - 1 → s'.words ≡ slice_set s.words at
    (header_word (Converted u line)) → s'.left ≡ s.left → Moved (sight s m k) es (sight s' m k)
    (slice_set es n (forwarded (entry es n)))
forward_is s s' m k es n at line u h ln may first thread words left =
    let t = at_object s m k es n at h ln (omega (arith, may.1), may.0) in
    let w = header_word (Converted ((entry es n).owner - 1) (entry es n).line) in
    let now : s'.words ≡ slice_set s.words at w = words ∙ ap (slice_set s.words at)
    (ap (λ x. header_word (Converted x line)) thread ∙ ap (λ x. header_word (Converted ((entry es n).owner - 1) x))
    first) in
    forward_step (sight s m k) (sight s' m k) es n at h ln may (put_to s.words s'.words at w now t.state.taken) (λ _. refl) (λ _. refl) (λ _. refl) (λ _. refl)
    (sizes_of s s' m m k k (ap length now ∙ length-set s.words at w) left refl refl refl refl refl)

-- while it is copied, the state tells thread and line
pub copying_at : (s : Space) (m : Memory) (k : Marks) (es : List Entry) (n at line : ℕ) → Lies (sight s m k) es → n <
    length es → (entry es n).at ≡ at → (entry es n).stage ≡ 1 → line ≡ (entry es n).line → HasState s.words at
    (Copying ((entry es n).owner - 1) line)
copying_at s m k es n at line h ln a one eq =
    subst (HasState s.words at) (when_copying (entry es n) one ∙ ap (Copying ((entry es n).owner - 1)) (sym eq)) (at_object s m k es n at h ln (omega (arith, one), a)).state

-- the line that the state tells
pub line_is : (s : Space) (m : Memory) (k : Marks) (es : List Entry) (n at line : ℕ) → Lies (sight s m k) es → n < length es → (entry es n).at ≡ at → 0 < (entry es n).stage → (entry es n).stage < 3 →
    ((st : State) → HasState s.words at st → line ≡ line_in st) → line ≡ (entry es n).line
line_is s m k es n at line h ln a some lt is =
    let e = entry es n in
    let t = at_object s m k es n at h ln (lt, a) in
    elim (same_or_not e.stage 1) [
      | inl one ↦ is (state_in e) t.state ∙ ap line_in (when_copying e one)
      | inr ne ↦ (elim (same_or_not e.owner 0) [
        | inl z ↦ is (state_in e) t.state ∙ ap line_in (when_durable e (omega (arith, ne, some, lt)) z)
        | inr nz ↦ is (state_in e) t.state ∙ ap line_in (when_converted e (omega (arith, ne, some, lt)) (omega (arith, nz)))
      ])
    ]

pub seal_is : (s s' : Space) (m : Memory) (k k' : Marks) (es : List Entry) (n at line w : ℕ) → Lies (sight s m k) es → n < length es → ToSeal at (sight s m k) es n →
    line ≡ (entry es n).line → w ≡ header_word (Durable line) → s'.words ≡ slice_set s.words at w → s'.left ≡ s.left → length k.owners ≡ length k.numbers →
    k' ≡ record k { owners = slice_set k.owners line 0 } → Moved (sight s m k) es (sight s' m k') (slice_set es n (sealed (entry es n)))
seal_is s s' m k k' es n at line w h ln may first is words left owners eq =
    let k1 : Marks = record k { owners = slice_set k.owners line 0 } in
    let t = at_object s m k es n at h ln (omega (arith, may.1), may.0) in
    let b = h.table.copy_in n ln (omega (arith, may.1)) in
    let marked = h.marked in
    let lt : line < length k.owners = omega (arith, marked, b, owners, first) in
    let word : w ≡ header_word (Durable (entry es n).line) = is ∙ ap (λ l. header_word (Durable l)) first in
    subst (λ (x : Marks). Moved (sight s m k) es (sight s' m x) (slice_set es n (sealed (entry es n)))) (sym eq)
    (seal_step (sight s m k) (sight s' m k1) es n at h ln may
    (put_to s.words s'.words at (header_word (Durable (entry es n).line)) (words ∙ ap (slice_set s.words at) word) t.state.taken) (λ _. refl) (λ _. refl) (λ _. refl)
    (subst (λ l. Put (λ q. slice_index k.owners q) (λ q. slice_index k1.owners q) l 0) first (put k.owners line 0 lt))
    (sizes_of s s' m m k k1 (ap length words ∙ length-set s.words at w) left refl refl refl refl refl))

-- a head's slots
pub slots_of : (head : ℕ) (e : Entry) → e.shape < 2 ^ 32 → head ≡ head_word e → head / 4294967296 ≡ e.slots
slots_of head e few eq = omega (arith, few, eq)

pub copy_is : (s : Space) (m m' : Memory) (k k' : Marks) (es : List Entry) (n at line done head : ℕ) → Lies (sight s m k) es → n < length es → ToCopy at (sight s m k) es n →
    line ≡ (entry es n).line → done ≡ slice_index k.copies line → head ≡ slice_index s.words (at + 1) →
    IsFilled (line + done) 0 8 (λ w. copy_word (slice_index s.words) head (at + 2) (head / 4294967296) (8 * done + w)) m m' →
    length k.copies ≡ length k.numbers → k' ≡ record k { copies = slice_set k.copies line (done + 1) } → Moved (sight s m k) es (sight s m' k') (slice_set es n (one_more (entry es n)))
copy_is s m m' k k' es n at line done head h ln may first dones heads fill copies eq =
    let e = entry es n in
    let k1 : Marks = record k { copies = slice_set k.copies line (done + 1) } in
    let t = at_object s m k es n at h ln (omega (arith, may.1), may.0) in
    let b = h.table.copy_in n ln (omega (arith, may.1)) in
    let marked = h.marked in
    let lt : line < length k.copies = omega (arith, marked, b, copies, first) in
    let f = h.table.shape_in n ln in
    let few = h.table.few_shapes in
    let head_is : head ≡ head_word e = heads ∙ ap (λ a. slice_index s.words (a + 1)) (sym may.0) ∙ (h.sits n ln).head t.young in
    let slots : head / 4294967296 ≡ e.slots = slots_of head e (omega (arith, f, few)) head_is in
    let count : done ≡ e.copied = dones ∙ ap (λ l. slice_index k.copies l) first ∙ (h.sits n ln).count may.1 in
    subst (λ (x : Marks). Moved (sight s m k) es (sight s m' x) (slice_set es n (one_more (entry es n)))) (sym eq)
    (copy_step (sight s m k) (sight s m' k1) es n at line done head (head / 4294967296) h ln may first count head_is slots (λ _. refl)
    (fills m m' (line + done) 0 8 (8 * line + 8 * done) (8 * line + (8 * done + 8))
    (λ w. copy_word (slice_index s.words) head (at + 2) (head / 4294967296) (8 * done + w))
    (λ q. copy_word (slice_index s.words) head (at + 2) (head / 4294967296) (q - 8 * line)) fill (omega arith)
    (omega arith) (omega arith)
    (λ w _ _. ap (copy_word (slice_index s.words) head (at + 2) (head / 4294967296)) (omega arith)))
    (λ _. refl) (λ _. refl) (put k.copies line (done + 1) lt)
    (sizes_of s s m m' k k1 refl refl fill.changes.size refl refl refl refl))

-- the words of a copied line
pub copy_filled : (s : Space) (m m' : Memory) (k : Marks) (es : List Entry) (n at line done head : ℕ) → Lies (sight s m k) es → n < length es → ToCopy at (sight s m k) es n →
    line ≡ (entry es n).line → done ≡ slice_index k.copies line → head ≡ slice_index s.words (at + 1) →
    IsFilled (line + done) 0 8 (λ w. copy_word (slice_index s.words) head (at + 2) (head / 4294967296) (8 * done + w)) m m' →
    IsFilled (line + done) 0 8 (copied_in s.words (entry es n) (entry es n).copied) m m'
copy_filled s m m' k es n at line done head h ln may first dones heads fill =
    let e = entry es n in
    let t = at_object s m k es n at h ln (omega (arith, may.1), may.0) in
    let f = h.table.shape_in n ln in
    let few = h.table.few_shapes in
    let head_is : head ≡ head_word e = heads ∙ ap (λ a. slice_index s.words (a + 1)) (sym may.0) ∙ (h.sits n ln).head t.young in
    let slots : head / 4294967296 ≡ e.slots = slots_of head e (omega (arith, f, few)) head_is in
    let count : done ≡ e.copied = dones ∙ ap (λ l. slice_index k.copies l) first ∙ (h.sits n ln).count may.1 in
    record {
      inside = λ w lo hi. fill.inside w lo hi
          ∙ ap (λ x. copy_word (slice_index s.words) x (at + 2) (head / 4294967296) (8 * done + w)) head_is
          ∙ ap (λ x. copy_word (slice_index s.words) (head_word e) (x + 2) (head / 4294967296) (8 * done + w)) (sym may.0)
          ∙ ap (λ x. copy_word (slice_index s.words) (head_word e) (e.at + 2) x (8 * done + w)) slots
          ∙ ap (λ x. copy_word (slice_index s.words) (head_word e) (e.at + 2) e.slots (8 * x + w)) count;
      outside = fill.outside;
      changes = fill.changes;
    }

-- the words of a repaired line
pub repair_filled : (s : Space) (m m' : Memory) (k : Marks) (e : Entry) (line shape c from to : ℕ) → shape ≡ e.shape → from ≡ 1 - c → to ≡ min (e.slots + 1 - 8 * c) 8 →
    IsFilled line from to (λ w. repaired (slice_index s.words) (is_reference (kind_in_line k.kinds shape c w)) (shown m line w)) m m' →
    IsFilled line (1 - c) (min (e.slots + 1 - 8 * c) 8) (repaired_in s.words k.kinds e c (shown m line)) m m'
repair_filled s m m' k e line shape c from to is first last fill = record {
  inside = λ w lo hi. fill.inside w (subst (λ x. x ≤ w) (sym first) lo) (subst (λ x. w < x) (sym last) hi)
      ∙ ap (λ x. repaired (slice_index s.words) (is_reference (kind_in_line k.kinds x c w)) (shown m line w)) is;
  outside = λ w o. fill.outside w (elim o [ inl y ↦ inl (subst (λ x. w < x) (sym first) y) | inr y ↦ inr (subst (λ x. x ≤ w) (sym last) y) ]);
  changes = fill.changes;
}

repaired_is_even : (f : ℕ → ℕ) (b : Bool) (w : ℕ) → b ≡ true → repaired f b w % 2 ≡ 0
repaired_is_even f b w is = elim (same_or_not (w % 2) 0) [
  | inl z ↦ (let x : repaired f b w ≡ w = rw (is, z) refl in omega (arith, x, z))
  | inr nz ↦ (let one : w % 2 ≡ 1 = omega (arith, nz) in let x : repaired f b w ≡ 2 * (f (w / 2) / 4294967296) = rw (is, one) refl in omega (arith, x))
]

-- which words of the line are slots
pub record Bounds (c slots from to : ℕ) : Type 0 where
  pub first : from ≡ 1 - c
  pub last : (to ≤ 8) × (8 * c + to ≤ 1 + slots)
  pub all : (1 + slots ≤ 8 * c + to) ⊎ (8 ≤ to)

pub repair_fill : (s : Space) (m m' : Memory) (k : Marks) (es : List Entry) (n line shape c from to : ℕ) → Lies (sight s m k) es → n < length es →
    line ≡ (entry es n).line + c → shape ≡ (entry es n).shape → Bounds c (entry es n).slots from to →
    IsFilled line from to (λ w. repaired (slice_index s.words) (is_reference (kind_in_line k.kinds shape c w)) (shown m line w)) m m' →
    Filled (8 * line + from) (8 * line + to)
    (λ q. repaired (slice_index s.words) (refers (sight s m k) (entry es n) (q - (8 * (entry es n).line + 1)))
    (shown m (q / 8) (q % 8))) (λ q. shown m (q / 8) (q % 8)) (λ q. shown m' (q / 8) (q % 8))
repair_fill s m m' k es n line shape c from to h ln first is b fill =
    fills m m' line from to (8 * line + from) (8 * line + to) (λ w. repaired (slice_index s.words) (is_reference (kind_in_line k.kinds shape c w)) (shown m line w))
    (λ q. repaired (slice_index s.words) (refers (sight s m k) (entry es n) (q - (8 * (entry es n).line + 1))) (shown m (q / 8) (q % 8)))
    fill b.last.0 refl refl
    (λ w lo hi.
    let at : 8 * c + w - 1 ≡ 8 * line + w - (8 * (entry es n).line + 1) = omega (arith, first) in
    ap (λ x. repaired (slice_index s.words) (is_reference (slot_kind k.kinds x (8 * c + w - 1))) (shown m line w)) is
    ∙ ap (λ x. repaired (slice_index s.words) (is_reference (slot_kind k.kinds (entry es n).shape x)) (shown m line w)) at
    ∙ ap (repaired (slice_index s.words) (refers (sight s m k) (entry es n) (8 * line + w - (8 * (entry es n).line + 1)))) (sym (spot_is m (8 * line + w) line w refl (omega (arith, hi, b.last)))))

pub repair_is : (s : Space) (m m' : Memory) (k : Marks) (es : List Entry) (n at line shape c from to : ℕ) → Lies (sight s m k) es → n < length es → ToRepair at c (sight s m k) es n →
    line ≡ (entry es n).line + c → shape ≡ (entry es n).shape → Bounds c (entry es n).slots from to →
    IsFilled line from to (λ w. repaired (slice_index s.words) (is_reference (kind_in_line k.kinds shape c w)) (shown m line w)) m m' →
    Moved (sight s m k) es (sight s m' k) (slice_set es n (entry es n))
repair_is s m m' k es n at line shape c from to h ln may first is b fill =
    let f0 = b.first in
    let l0 = b.last in
    repair_step (sight s m k) (sight s m' k) es n (8 * line + from) (8 * line + to) h ln (omega (arith, may.1)) (omega (arith, first, f0)) (omega (arith, first, l0))
    (λ i x lk lo hi one lx eq st. may.3 i x lk (omega (arith, first, lo, hi, l0)) one refl lx eq st) (λ _. refl)
    (repair_fill s m m' k es n line shape c from to h ln first is b fill) (λ _. refl) (λ _. refl) (λ _. refl)
    (sizes_of s s m m' k k refl refl fill.changes.size refl refl refl refl)

pub clean_is : (s : Space) (m m' : Memory) (k : Marks) (es : List Entry) (n at line shape c from to : ℕ) → Lies (sight s m k) es → n < length es → ToRepair at c (sight s m k) es n →
    line ≡ (entry es n).line + c → shape ≡ (entry es n).shape → Bounds c (entry es n).slots from to →
    IsFilled line from to (λ w. repaired (slice_index s.words) (is_reference (kind_in_line k.kinds shape c w)) (shown m line w)) m m' →
    IsRepaired c (sight s m' k) es n
clean_is s m m' k es n at line shape c from to h ln may first is b fill = λ i li here one kept.
    let e = entry es n in
    let q = 8 * e.line + 1 + i in
    let f0 = b.first in
    let l0 = b.last in
    let f = repair_fill s m m' k es n line shape c from to h ln first is b fill in
    let lo : 8 * line + from ≤ q = omega (arith, first, f0, here) in
    let hi : q < 8 * line + to = (elim b.all [ inl x ↦ omega (arith, first, x, li) | inr x ↦ omega (arith, first, x, here) ]) in
    let at_i : q - (8 * e.line + 1) ≡ i = omega arith in
    let now : word_of (sight s m' k) e i ≡ repaired (slice_index s.words) (refers (sight s m k) e i) (shown m (q / 8) (q % 8)) =
    word_moved (sight s m' k) e i (omega (arith, may.1)) ∙ f.inside q lo hi ∙ ap (λ x. repaired (slice_index s.words) (refers (sight s m k) e x) (shown m (q / 8) (q % 8))) at_i in
    let even = repaired_is_even (slice_index s.words) (refers (sight s m k) e i) (shown m (q / 8) (q % 8)) one in
    ap (λ x. x % 2) now ∙ even

pub bounds_of : (c slots from to : ℕ) → from ≡ 1 - c → 8 * c ≤ slots → to ≡ min (slots + 1 - 8 * c) 8 → Bounds c slots from to
bounds_of c slots from to first left last = elim (below_or_not (slots + 1 - 8 * c) 8) [
  | inl lt ↦ (let x : to ≡ slots + 1 - 8 * c = omega (arith, last, lt) in record { first = first; last = (omega (arith, x, lt), omega (arith, x, left)); all = inl (omega (arith, x, left)) })
  | inr ge ↦ (let x : to ≡ 8 = omega (arith, last, ge) in record { first = first; last = (omega (arith, x), omega (arith, x, ge, left)); all = inr (omega (arith, x)) })
]

-- the head of an object in the space
pub head_at : (s : Space) (m : Memory) (k : Marks) (es : List Entry) (n at head : ℕ) → Lies (sight s m k) es → n < length
    es → (entry es n).at ≡ at → (entry es n).stage < 3 → head ≡ slice_index s.words (at + 1) →
    ((entry es n).shape < 2 ^ 32) × (head_of (entry es n).shape (entry es n).slots ≡ head)
head_at s m k es n at head h ln a lt is =
    let f = h.table.shape_in n ln in
    let few = h.table.few_shapes in
    (omega (arith, f, few), sym (is ∙ ap (λ a. slice_index s.words (a + 1)) (sym a) ∙ (h.sits n ln).head lt))

pub odd_in : (s : Space) (m : Memory) (k : Marks) (es : List Entry) (n line shape c from to w : ℕ) → Lies (sight s m k) es → n < length es → 1 < (entry es n).stage →
    line ≡ (entry es n).line + c → shape ≡ (entry es n).shape → Bounds c (entry es n).slots from to → from ≤ w → w < to →
    is_reference (kind_in_line k.kinds shape c w) ≡ true → shown m line w % 2 ≡ 1 → shown m line w / 2 < length s.words
odd_in s m k es n line shape c from to w h ln y first is b lo hi one odd =
    let f0 = b.first in
    let l0 = b.last in
    let q = 8 * line + w in
    let same : shown m (q / 8) (q % 8) ≡ shown m line w = spot_is m q line w refl (omega (arith, hi, l0)) in
    let at : 8 * c + w - 1 ≡ q - (8 * (entry es n).line + 1) = omega (arith, first) in
    let refs : refers (sight s m k) (entry es n) (q - (8 * (entry es n).line + 1)) ≡ true =
    ap (λ x. is_reference (slot_kind k.kinds (entry es n).shape x)) (sym at) ∙ ap (λ x. is_reference (slot_kind k.kinds x (8 * c + w - 1))) (sym is) ∙ one in
    let x = odd_within (sight s m k) es n q h ln y refs (omega (arith, first, f0, lo)) (omega (arith, first, l0, hi)) (ap (λ x. x % 2) same ∙ odd) in
    subst (λ x. x / 2 < length s.words) same x
