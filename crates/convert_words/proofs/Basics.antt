-- What the parts of an agreement say of one object.
use Rattle.std.proofs.Common.{◌≡◌, ◌≢◌, inl, inr, ℕ, ◌+◌, ◌*◌, ◌%◌, ◌<◌, ◌≤◌, Bool, true, false, List, length, refl, sym, ◌∙◌}
use Rattle.std.proofs.Common.{ap, subst, arith}
use Rattle.twin_forms.specs.Table.{Entry, entry, View, word_of, Names, refers, kept_at, Value, Plain, Null, Obj, value_of}
use Rattle.twin_forms.specs.Table.{shows, Lies, lines_of, line_of, IsClaimed}
use Rattle.twin_forms.specs.Moves.{Moved}
use Rattle.twin_forms.proofs.Led.{same_or_not, number_is, word_moved}
use Rattle.twin_forms.proofs.Elsewhere.{positive, value_obj, value_null}
use Rattle.convert_queue.specs.Queues.{Queues}
use Rattle.convert_words.specs.Agreeing.{Is, Queueing, Keeps}
use Rattle.convert_words.specs.Steps.{Changes}

-- ---- where an object lies

pub young : (v : View) (es : List Entry) (t n : ℕ) → Lies v es → IsClaimed es t n → (entry es n).stage < 3
young v es t n h c = elim (same_or_not (entry es n).stage 3) [
  | inl three ↦ absurd (let z = h.table.born n c.0 three in let o = c.1 in omega (arith, z, o))
  | inr ne ↦ (let s = h.table.stages n c.0 in omega (arith, s, ne))
]

pub room_of : (v : View) (es : List Entry) (n : ℕ) → Lies v es → n < length es → 0 < (entry es n).stage → (entry es n).line + lines_of (entry es n) ≤ v.lines
room_of v es n h ln s = let c = (h.table.copy_in n ln s).1 in omega (arith, c)

pub claimed_once : (es : List Entry) (t u n : ℕ) → IsClaimed es t n → IsClaimed es u n → t ≡ u
claimed_once es t u n c d = let e : t + 1 ≡ u + 1 = sym c.1 ∙ d.1 in omega (arith, e)

-- the claimer is one of 64 threads
pub few_threads : (v : View) (es : List Entry) (t n : ℕ) → Lies v es → IsClaimed es t n → t < 64
few_threads v es t n h c = let o = h.table.owners n c.0 in let e = c.1 in omega (arith, o, e)

-- two objects at one place of a queue are one
pub is_one : (v : View) (q : Queues) (es : List Entry) (t i m n : ℕ) → Lies v es → Is q es t i m → Is q es t i n → m ≡ n
is_one v q es t i m n h x y = elim (same_or_not m n) [
  | inl eq ↦ eq
  | inr ne ↦ absurd (let at : (entry es m).at ≡ (entry es n).at = sym x.object ∙ y.object in
      elim (h.table.old_apart m n x.claimed.0 y.claimed.0 ne (young v es t m h x.claimed) (young v es t n h y.claimed)) [ inl z ↦ omega (arith, z, at) | inr z ↦ omega (arith, z, at) ])
]

-- What holds of one queued object, and of each other one, holds of all.
pub by_object : (q : Queues) (es : List Entry) (t0 i0 n0 : ℕ) (P : ℕ → ℕ → ℕ → Type 0) → Queueing q es → Is q es t0 i0 n0 → P t0 i0 n0 →
    ((t i n : ℕ) → Is q es t i n → n ≢ n0 → P t i n) → (t i n : ℕ) → Is q es t i n → P t i n
by_object q es t0 i0 n0 P queued is0 here others t i n is = elim (same_or_not n n0) [
  | inr ne ↦ others t i n is ne
  | inl eq ↦ (
      let at : Is q es t i n0 = subst (Is q es t i) eq is in
      let tt0 : t ≡ t0 = claimed_once es t t0 n0 at.claimed is0.claimed in
      let ii0 : i ≡ i0 = queued.once t0 i i0 n0 (subst (λ x. Is q es x i n0) tt0 at) is0 in
      subst (λ x. P x i n) (sym tt0) (subst (λ x. P t0 x n) (sym ii0) (subst (P t0 i0) (sym eq) here)))
]

-- the line of another object is another line
pub line_other : (v : View) (es : List Entry) (n0 n l c : ℕ) → Lies v es → n0 < length es → n < length es → n ≢ n0 → 0 < (entry es n0).stage → 0 < (entry es n).stage →
    (entry es n0).line ≤ l → l < (entry es n0).line + lines_of (entry es n0) → c < lines_of (entry es n) → (entry es n).line + c ≢ l
line_other v es n0 n l c h ln0 ln ne s0 s low high lc e = elim (h.table.copy_apart n n0 ln ln0 ne s s0) [ inl x ↦ omega (arith, x, e, lc, low) | inr x ↦ omega (arith, x, e, lc, high) ]

-- ---- kinds and references over a move

abbrev tag : Value → ℕ
tag (Plain x) = 0
tag Null = 1
tag (Obj n) = 1

abbrev code : Bool → ℕ
code true = 1
code false = 0

tag_of : (v : View) (b : Bool) (w : ℕ) → tag (value_of v b w) ≡ code b
tag_of v false w = refl
tag_of v true w = elim (same_or_not w 0) [
  | inl z ↦ ap tag (value_null v true w refl z)
  | inr nz ↦ ap tag (value_obj v true w refl (omega (arith, nz)))
]

same_code : (a b : Bool) → code a ≡ code b → a ≡ b
same_code true true e = refl
same_code false false e = refl
same_code true false e = absurd (omega (arith, e))
same_code false true e = absurd (omega (arith, e))

-- where two slots show the same, both hold references or none does
pub same_kind : (v v' : View) (b b' : Bool) (w w' : ℕ) → value_of v b w ≡ value_of v' b' w' → b ≡ b'
same_kind v v' b b' w w' eq = same_code b b' (sym (tag_of v b w) ∙ ap tag eq ∙ tag_of v' b' w')

-- a slot that shows what it showed is of the same kind
pub refers_moved : (v v' : View) (es es' : List Entry) (n k : ℕ) → Moved v es v' es' → n < length es → k < (entry es n).slots → refers v' (entry es' n) k ≡ refers v (entry es n) k
refers_moved v v' es es' n k moved ln lk =
    same_code (refers v' (entry es' n) k) (refers v (entry es n) k)
    (sym (tag_of v' (refers v' (entry es' n) k) (word_of v' (entry es' n) k)) ∙ ap tag (moved.same.same n k ln lk) ∙ tag_of v (refers v (entry es n) k) (word_of v (entry es n) k))

abbrev pub number_plus : Value → ℕ
number_plus (Plain x) = 0
number_plus Null = 0
number_plus (Obj n) = n + 1

-- A reference of a slot leads after the step where it led before.
abbrev pub LeadsBack : View → View → List Entry → List Entry → Entry → Entry → ℕ → Type 0
LeadsBack v v' es es' e e' k = refers v' e' k ≡ true → (m : ℕ) → m < length es → Names (entry es' m) (word_of v' e' k)
    → (refers v e k ≡ true) × Names (entry es m) (word_of v e k)

-- So it is after a move, also where the word was repaired.
pub leads_moved : (v v' : View) (es es' : List Entry) (n k : ℕ) → Lies v es → Moved v es v' es' → n < length es → k < (entry es n).slots → LeadsBack v v' es es' (entry es n) (entry es' n) k
leads_moved v v' es es' n k h moved ln lk one' m lm na =
    let w = word_of v (entry es n) k in
    let w' = word_of v' (entry es' n) k in
    let one : refers v (entry es n) k ≡ true = sym (refers_moved v v' es es' n k moved ln lk) ∙ one' in
    let after : number_plus (shows v' es' n k) ≡ m + 1 = ap number_plus
    (value_obj v' (refers v' (entry es' n) k) w' one' (positive (entry es' m) w' na)) ∙ ap (λ x. x + 1)
    (number_is v' es' m w' moved.lies (omega (arith, moved.same.long, lm)) na) in
    let before : number_plus (shows v es n k) ≡ m + 1 = ap number_plus (sym (moved.same.same n k ln lk)) ∙ after in (
      one,
      elim (h.refs n k ln one lk) [
        | inl z ↦ absurd (let x : number_plus (shows v es n k) ≡ 0 = ap number_plus (value_null v (refers v (entry es n) k) w one z) in omega (arith, x, before))
        | inr x ↦ (let o : number_plus (shows v es n k) ≡ x.0 + 1 = ap number_plus
            (value_obj v (refers v (entry es n) k) w one (positive (entry es x.0) w x.2)) ∙ ap (λ y. y + 1)
            (number_is v es x.0 w h x.1 x.2) in
            let eq : x.0 ≡ m = omega (arith, o, before) in subst (λ y. Names (entry es y) w) eq x.2)
      ],
    )

-- ---- slots that are kept

-- where the same slots are kept, a slot that is kept after a step was kept before it
pub kept_back : (v v' : View) (e : Entry) (k : ℕ) → v'.kept ≡ v.kept → kept_at v' e k ≡ true → kept_at v e k ≡ true
kept_back v v' e k same kept = ap (λ (f : ℕ → ℕ → Bool). f e.shape k) (sym same) ∙ kept

pub keeps_back : (v v' : View) (e : Entry) (p : ℕ) → v'.kept ≡ v.kept → Keeps v' e p → Keeps v e p
keeps_back v v' e p same keeps = λ k eq lk. kept_back v v' e k same (keeps k eq lk)

-- ---- words of lines that don't change

pub word_kept : (Line : ℕ → Type 0) (v v' : View) (held held' : ℕ → ℕ → Type 0) (back back' : ℕ → Type 0) (e : Entry) (k : ℕ) → Changes Line v v' held held' back back' →
    1 < e.stage → k < e.slots → e.line + lines_of e ≤ v.lines → (Line (e.line + line_of k) → ⊥) → word_of v' e k ≡ word_of v e k
word_kept Line v v' held held' back back' e k changes two lk room outside =
    let at : 8 * e.line + 1 + k ≡ 8 * (e.line + line_of k) + (1 + k) % 8 = omega arith in
    word_moved v' e k (omega (arith, two)) ∙ ap v'.shown at
    ∙ changes.shown (e.line + line_of k) ((1 + k) % 8) (omega (arith, room, lk)) (omega arith) outside
    ∙ ap v.shown (sym at) ∙ sym (word_moved v e k (omega (arith, two)))
