-- Each thing that is done, as a step of a conversion.
use Rattle.std.proofs.Common.{◌≡◌, ◌≢◌, ◌⊎◌, inl, inr, ℕ, zero, suc, ◌+◌, ◌-◌, ◌*◌, ◌<◌, ◌≤◌, List, [], ◌∷◌, length, refl, sym}
use Rattle.std.proofs.Common.{◌∙◌, ap, subst, arith, slice_set}
use Rattle.twin_forms.specs.Table.{Entry, entry, View, Lies, lines_of}
use Rattle.twin_forms.specs.Moves.{Moved, Becomes, ChangesLine, ToCopy, ToForward, ToRepair, IsRepaired, one_more, forwarded}
use Rattle.twin_forms.specs.Sights.{Twin, view_of, held_of, written_of}
use Rattle.twin_forms.proofs.Led.{number_is, same_or_not}
use Rattle.twin_forms.proofs.Tables.{alike}
use Rattle.twin_forms.proofs.Ways.{entry_same}
use Rattle.convert_queue.specs.declared.phase.Phase.TheVariants.{Copy, Repair}
use Rattle.convert_queue.specs.Marks.{Mark, clean, stored, written, mark_at, with_store, MayNote, IsStored, IsWritten, IsClean}
use Rattle.convert_queue.specs.Queues.{Queues, phase_of, place_of}
use Rattle.convert_words.specs.declared.step.ConvertStep.TheVariants as step
use Rattle.convert_words.specs.Agreeing.{Is}
use Rattle.convert_words.specs.Steps.{GoesTo, OneBecomes, claimed_at, with_object, told}
use Rattle.convert_words.specs.Scenes.{Scene, IsKey, AgreesAt}
use Rattle.convert_words.specs.Converting.{Converts, IsLineOf, NeedsLine}
use Rattle.convert_words.proofs.Basics.{room_of}
use Rattle.convert_words.proofs.Meeting.{may_repair}
use Rattle.convert_words.proofs.Noting.{may_note_line, own_forwarded}
use Rattle.convert_words.proofs.StepKinds.{claim_converts, copy_converts, forward_converts, repair_converts, full_converts}
use Rattle.converter.specs.Looking.{LacksNone}
use Rattle.converter.specs.Working.{IsTakable, IsToClaim, IsToCopy, IsToForward, IsToRepair}

-- ---- another table

-- what another table says of a copied object of the space
pub same_object : (v : View) (es es' : List Entry) (n n' object : ℕ) → Lies v es → Lies v es' → n < length es → n' < length es' → (entry es n).at ≡ object → (entry es' n').at ≡ object →
    (entry es n).stage < 3 → (entry es' n').stage < 3 → n' ≡ n
same_object v es es' n n' object h k ln ln' at at' young young' =
    sym (number_is v es' n' (2 * object + 1) k ln' (inl (young', omega (arith, at')))) ∙ number_is v es n (2 * object + 1) h ln (inl (young, omega (arith, at)))

pub same_line : (v : View) (es es' : List Entry) (n n' object : ℕ) → Lies v es → Lies v es' → n < length es → n' < length es' → (entry es n).at ≡ object → (entry es' n').at ≡ object →
    0 < (entry es n).stage → (entry es n).stage < 3 → (entry es' n').stage < 3 → (entry es' n').line ≡ (entry es n).line
same_line v es es' n n' object h k ln ln' at at' some young young' =
    ap (λ x. (entry es' x).line) (same_object v es es' n n' object h k ln ln' at at' young young') ∙ (alike v es es' n h k ln).line some

pub same_copied : (v : View) (es es' : List Entry) (n n' object : ℕ) → Lies v es → Lies v es' → n < length es → n' < length es' → (entry es n).at ≡ object → (entry es' n').at ≡ object →
    (entry es n).stage ≡ 1 → (entry es' n').stage ≡ 1 → (entry es' n').copied ≡ (entry es n).copied
same_copied v es es' n n' object h k ln ln' at at' one one' =
    let line = same_line v es es' n n' object h k ln ln' at at' (omega (arith, one)) (omega (arith, one)) (omega (arith, one')) in
    sym ((k.sits n' ln').count one') ∙ ap v.copied line ∙ (h.sits n ln).count one

-- ---- stores

pub may_store : (s : Scene) (es : List Entry) (t i n c : ℕ) → AgreesAt s es → Is s.queue es t i n → c < lines_of (entry es n) →
    ((entry es n).line + c < length s.queue.marks) × MayNote t (mark_at s.queue.marks ((entry es n).line + c))
may_store s es t i n c a is lc =
    let room = room_of (view_of s.heap) es n a.lies is.claimed.0 is.placed in
    let long = a.sizes.marks in (
      omega (arith, room, long, lc),
      may_note_line (view_of s.heap) (held_of s.heap.memory) (written_of s.heap.memory) s.queue s.free (IsKey s.keys) es t i n c a is lc,
    )

pub to_copy : (s : Scene) (es : List Entry) (t object line : ℕ) → (w : IsToCopy s es t object line) → ToCopy object (view_of s.heap) es w.n
to_copy s es t object line w = (w.copying.at, w.copying.young, w.left)

-- the line that is copied, by any table
pub copies_here : (s : Scene) (es : List Entry) (t object line : ℕ) → AgreesAt s es → (w : IsToCopy s es t object line) → (es' : List Entry) (n' : ℕ) → Lies (view_of s.heap) es' → n' < length es' →
    ToCopy object (view_of s.heap) es' n' → (entry es' n').line + (entry es' n').copied ≡ line
copies_here s es t object line a w es' n' k ln' may =
    let v = view_of s.heap in
    let n = w.n in
    let ln = w.copying.is.claimed.0 in
    let one = w.copying.young in
    let young = may.1 in
    let l = same_line v es es' n n' object a.lies k ln ln' w.copying.at may.0 (omega (arith, one)) (omega (arith, one)) (omega (arith, young)) in
    let c = same_copied v es es' n n' object a.lies k ln ln' w.copying.at may.0 one young in
    let first = w.copying.first in
    let here = w.here in
    omega (arith, l, c, first, here)

pub copy_is : (s : Scene) (heap : Twin) (q : Queues) (es : List Entry) (t object line result : ℕ) → AgreesAt s es → IsToCopy s es t object line →
    Becomes one_more (ToCopy object) (view_of s.heap) (view_of heap) → result ≡ line → ChangesLine result s.heap.memory
    heap.memory → heap.space ≡ s.heap.space → heap.marks.kinds ≡ s.heap.marks.kinds →
    q ≡ record s.queue { marks = with_store s.queue.marks t result } →
    (es' : List Entry) × Converts t step.CopiedLine s (record s { heap = heap; queue = q }) es es'
copy_is s heap q es t object line result a w becomes at changes space kinds told_of =
    let n = w.n in
    let e = entry es n in
    let x = w.copying in
    let first = x.first in
    let here = w.here in
    let is_line : result ≡ e.line + e.copied = omega (arith, at, first, here) in
    let moved = becomes es n a.lies x.is.claimed.0 (to_copy s es t object line w) in
    let done = copy_converts s heap es t (place_of s.queue t).0 n x.is x.phase refl x.young x.copied w.left moved
    (subst (λ l. ChangesLine l s.heap.memory heap.memory) is_line changes) space kinds a in (
      slice_set es n (one_more e),
      subst (λ (y : Queues). Converts t step.CopiedLine s (record s { heap = heap; queue = y }) es (slice_set es n (one_more e)))
          (ap (told s.queue t) (sym is_line) ∙ sym told_of) done,
    )

pub to_forward : (s : Scene) (es : List Entry) (t object line : ℕ) → (w : IsToForward s es t object line) → ToForward object (view_of s.heap) es w.n
to_forward s es t object line w = (w.copying.at, w.copying.young, w.full)

pub forward_is : (s : Scene) (heap : Twin) (q : Queues) (keys : List ℕ) (es : List Entry) (t object line place : ℕ) → AgreesAt s es → IsToForward s es t object line →
    Becomes forwarded (ToForward object) (view_of s.heap) (view_of heap) → heap.memory ≡ s.heap.memory → heap.marks ≡
    s.heap.marks → heap.space.left ≡ s.heap.space.left → place ≡ (place_of s.queue t).0 → GoesTo t Copy (place + 1) 0
    s.queue q →
    ((w : ℕ) → IsKey keys w → (IsKey s.keys w × (w ≢ 2 * object + 1)) ⊎ (w ≡ 2 * line)) →
    (es' : List Entry) × Converts t step.Forwarded s (record { heap = heap; queue = q; free = s.free; keys = keys }) es es'
forward_is s heap q keys es t object line place a w becomes same marks left at goes rekeyed =
    let n = w.n in
    let e = entry es n in
    let x = w.copying in (
      slice_set es n (forwarded e),
      forward_converts s heap q keys es t (place_of s.queue t).0 n x.is x.phase refl x.young x.copied w.full
          (becomes es n a.lies x.is.claimed.0 (to_forward s es t object line w)) same marks left (subst (λ y. GoesTo t Copy (y + 1) 0 s.queue q) at goes)
          (λ y key. elim (rekeyed y key) [
            | inl z ↦ inl (z.0, subst (λ o. y ≢ 2 * o + 1) (sym x.at) z.1)
            | inr z ↦ inr (z ∙ ap (λ l. 2 * l) (sym x.first))
          ]) a,
    )

-- ---- repairs

pub to_repair : (s : Scene) (es : List Entry) (t object first c : ℕ) → AgreesAt s es →
    (w : IsToRepair s es t object first c) → LacksNone (view_of s.heap) object c es → ToRepair object c (view_of s.heap) es
    w.n
to_repair s es t object first c a w lacks =
    let n = w.n in
    let two : (entry es n).stage ≡ 2 = repaired_far s es t n a w.is w.phase in
    subst (λ x. ToRepair x c (view_of s.heap) es n) w.at
    (may_repair (view_of s.heap) (held_of s.heap.memory) (written_of s.heap.memory) s.queue s.free (IsKey s.keys) es t (place_of s.queue t).0 n c a w.is w.phase w.within
    (λ k m lk here ref kept lm names. lacks n k m w.is.claimed.0 w.at two lk here (record { reference = ref; there = lm; names = names })))
  where
    repaired_far : (s : Scene) (es : List Entry) (t n : ℕ) → AgreesAt s es → Is s.queue es t (place_of s.queue t).0 n → phase_of s.queue t ≡ Repair → (entry es n).stage ≡ 2
    repaired_far s es t n a is repairing = own_forwarded (view_of s.heap) (held_of s.heap.memory) (written_of s.heap.memory) s.queue s.free (IsKey s.keys) es t n a repairing is.claimed

pub repairs_here : (s : Scene) (es : List Entry) (t object first c : ℕ) → AgreesAt s es →
    (w : IsToRepair s es t object first c) → (es' : List Entry) (n' : ℕ) → Lies (view_of s.heap) es' → n' < length es' →
    (entry es' n').at ≡ object → (entry es' n').stage ≡ 2 → (entry es' n').line + c ≡ first + c
repairs_here s es t object first c a w es' n' k ln' at two =
    let v = view_of s.heap in
    let mine = own_forwarded v (held_of s.heap.memory) (written_of s.heap.memory) s.queue s.free (IsKey s.keys) es t w.n a w.phase w.is.claimed in
    let l = same_line v es es' w.n n' object a.lies k w.is.claimed.0 ln' w.at at (omega (arith, mine)) (omega (arith, mine)) (omega (arith, two)) in
    let first_is = w.line in
    omega (arith, l, first_is)

pub repair_is : (s : Scene) (heap : Twin) (q1 q2 : Queues) (es : List Entry) (t object first c result place : ℕ) → AgreesAt
    s es → IsToRepair s es t object first c → LacksNone (view_of s.heap) object c es →
    Becomes (λ e. e) (ToRepair object c) (view_of s.heap) (view_of heap) →
    ((es' : List Entry) (n : ℕ) → Lies (view_of s.heap) es' → n < length es' → ToRepair object c (view_of s.heap) es' n → IsRepaired c (view_of heap) es' n) →
    result ≡ first + c → ChangesLine result s.heap.memory heap.memory → heap ≡ record s.heap { memory = heap.memory } →
    q1 ≡ record s.queue { marks = with_store s.queue.marks t result } → place ≡ (place_of s.queue t).0 → GoesTo t Repair place (c + 1) q1 q2 →
    Converts t step.Repaired s (record s { heap = heap; queue = q2 }) es es
repair_is s heap q1 q2 es t object first c result place a w lacks becomes clean_line at changes same told_of at_place goes =
    let n = w.n in
    let e = entry es n in
    let may = to_repair s es t object first c a w lacks in
    let first_is = w.line in
    let is_line : result ≡ e.line + c = omega (arith, at, first_is) in
    let moved = subst (λ x. Moved (view_of s.heap) es (view_of heap) x) (entry_same es n) (becomes es n a.lies w.is.claimed.0 may) in
    let goes1 : GoesTo t Repair (place_of s.queue t).0 (c + 1) (told s.queue t (e.line + c)) q2 =
    subst (λ (y : Queues). GoesTo t Repair (place_of s.queue t).0 (c + 1) y q2) (told_of ∙ ap (told s.queue t) is_line) (subst (λ y. GoesTo t Repair y (c + 1) q1 q2) at_place goes) in
    repair_converts s heap q2 es t (place_of s.queue t).0 n c w.is w.phase refl w.here w.within moved (clean_line es n a.lies w.is.claimed.0 may)
    (subst (λ l. ChangesLine l s.heap.memory heap.memory) is_line changes) same goes1 a

-- ---- marks

abbrev mark_kind : Mark → ℕ
mark_kind clean = 0
mark_kind (stored u) = 0
mark_kind (written u) = 1

abbrev mark_thread : Mark → ℕ
mark_thread clean = 0
mark_thread (stored u) = 0
mark_thread (written u) = u

waits_at : (t : ℕ) (m : Mark) → (m ≡ written t) ⊎ (m ≡ written t → ⊥)
waits_at t clean = inr (λ e. let x : 0 ≡ 1 = ap mark_kind e in omega (arith, x))
waits_at t (stored u) = inr (λ e. let x : 0 ≡ 1 = ap mark_kind e in omega (arith, x))
waits_at t (written u) = elim (same_or_not u t) [ inl eq ↦ inl (ap written eq) | inr ne ↦ inr (λ e. ne (ap mark_thread e)) ]

waits_or : (marks : List Mark) (t : ℕ) → ((l : ℕ) × IsWritten marks t l) ⊎ ((l : ℕ) → IsWritten marks t l → ⊥)
waits_or [] t = inr (λ l e. let x : 0 ≡ 1 = ap mark_kind e in omega (arith, x))
waits_or (m ∷ ms) t = elim (waits_at t m) [
  | inl eq ↦ inl (0, eq)
  | inr not ↦ elim (waits_or ms t) [
    | inl x ↦ inl (suc x.0, x.1)
    | inr never ↦ inr (later m ms t not never)
  ]
]
  where
    later : (m : Mark) (ms : List Mark) (t : ℕ) → (m ≡ written t → ⊥) → ((l : ℕ) → IsWritten ms t l → ⊥) → (l : ℕ) → IsWritten (m ∷ ms) t l → ⊥
    later m ms t not never zero e = not e
    later m ms t not never (suc l) e = never l e

-- a line that waits for a fence, where all lines are written and not all are clean
pub waiting : (marks : List Mark) (t : ℕ) → ((l : ℕ) → IsStored marks t l → ⊥) → (IsClean marks t → ⊥) → (l : ℕ) × IsWritten marks t l
waiting marks t never not_clean = elim (waits_or marks t) [
  | inl x ↦ x
  | inr not ↦ absurd (not_clean (record { written = never; fenced = not }))
]

-- a line that the thread has stored to is one of its copies
pub stored_own : (s : Scene) (es : List Entry) (t l : ℕ) → AgreesAt s es → IsStored s.queue.marks t l → IsLineOf es t l
stored_own s es t l a st =
    let x = a.noted t l (inl st) in
    let i = a.queued.all t x.n x.claimed in
    let here = x.here in
    let within = x.within in
    record { n = x.n; claimed = x.claimed; placed = i.1.placed; from = omega (arith, here); to = omega (arith, here, within) }

-- ---- claims

pub claim_is : (s : Scene) (heap : Twin) (q : Queues) (free : ℕ) (es : List Entry) (t object line count : ℕ) → AgreesAt s
    es → (w : IsToClaim s es t object) → t < 64 → line ≡ s.free → count ≡ lines_of (entry es w.m) →
    count ≤ s.heap.memory.size - s.free →
    (es' : List Entry) × OneBecomes w.m (claimed_at t line (entry es w.m)) es es' × Moved (view_of s.heap) es (view_of heap) es' →
    heap.memory ≡ s.heap.memory → heap.marks.kinds ≡ s.heap.marks.kinds → heap.space.left ≡ s.heap.space.left → q ≡ with_object s.queue t object line → free ≡ s.free + count →
    (es' : List Entry) × Converts t step.Claimed s (record { heap = heap; queue = q; free = free; keys = s.keys }) es es'
claim_is s heap q free es t object line count a w few at counts fits x same kinds left told_of free_is =
    let m = w.m in
    let one : OneBecomes m (claimed_at t s.free (entry es m)) es x.0 = subst (λ l. OneBecomes m (claimed_at t l (entry es m)) es x.0) at x.1 in
    let done = claim_converts s heap es x.0 t m w.asked w.there few w.asked.phase (inl w.asked.is.within) (omega (arith, counts, fits)) x.2 one same kinds left a in
    let queue_is : q ≡ with_object s.queue t (entry es m).at s.free = told_of ∙ ap (with_object s.queue t object) at ∙ ap (λ o. with_object s.queue t o s.free) (sym w.at) in
    let free_eq : free ≡ s.free + lines_of (entry es m) = free_is ∙ ap (λ c. s.free + c) counts in (
      x.0,
      subst (λ (y : Queues). Converts t step.Claimed s (record { heap = heap; queue = y; free = free; keys = s.keys }) es x.0) (sym queue_is)
          (subst (λ f. Converts t step.Claimed s (record { heap = heap; queue = with_object s.queue t (entry es m).at s.free; free = f; keys = s.keys }) es x.0) (sym free_eq) done),
    )

pub takable : (s : Scene) (es : List Entry) (t object line count : ℕ) → AgreesAt s es → (w : IsToClaim s es t object) →
    line ≡ s.free → count ≡ lines_of (entry es w.m) → count ≤ s.heap.memory.size - s.free →
    s.free ≤ s.heap.memory.size → IsTakable (record s { free = line }) es object w.m
takable s es t object line count a w at counts fits le = record {
  agrees = subst (λ f. AgreesAt (record s { free = f }) es) (sym at) a;
  there = w.there;
  at = w.at;
  ordinary = w.asked.ordinary;
  nobody = w.asked.nobody;
  room = omega (arith, at, counts, fits, le);
}

pub full_is : (s : Scene) (es : List Entry) (t object need left : ℕ) → AgreesAt s es → (w : IsToClaim s es t object) → need
    ≡ lines_of (entry es w.m) → left ≡ s.heap.memory.size - s.free → left < need →
    (es' : List Entry) × Converts t (step.Full need left) s s es es'
full_is s es t object need left a w need_is left_is more = (es, full_converts s es t need left (record { m = w.m; asked = w.asked; need_is = need_is; left_is = left_is; more = more }) a)

-- the line that is to be copied, or repaired, is the thread's own, and its step needs it
pub copied_needs : (s : Scene) (es : List Entry) (t object line : ℕ) → IsToCopy s es t object line → (own : IsLineOf es t line) × NeedsLine s es t own.n line
copied_needs s es t object line w =
    let x = w.copying in let first = x.first in let here = w.here in let left = w.left in let at = x.copied in (
      record { n = w.n; claimed = x.is.claimed; placed = x.is.placed; from = omega (arith, first, here); to = omega (arith, first, here, left) },
      inl (x.phase, at, record { is = x.is; within = omega (arith, at, left); here = omega (arith, first, here, at) }),
    )

pub repaired_needs : (s : Scene) (es : List Entry) (t object first c : ℕ) → IsToRepair s es t object first c → (own : IsLineOf es t (first + c)) × NeedsLine s es t own.n (first + c)
repaired_needs s es t object first c w =
    let line = w.line in let within = w.within in let here = w.here in (
      record { n = w.n; claimed = w.is.claimed; placed = w.is.placed; from = omega (arith, line); to = omega (arith, line, within) },
      inr (inl (w.phase, record { is = w.is; within = omega (arith, within, here); here = omega (arith, line, here) })),
    )

pub own_within : (s : Scene) (es : List Entry) (t line : ℕ) → AgreesAt s es → IsLineOf es t line → line < s.heap.memory.size
own_within s es t line a own = let room = room_of (view_of s.heap) es own.n a.lies own.claimed.0 own.placed in let to = own.to in omega (arith, room, to)
