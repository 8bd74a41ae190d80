-- References of copied lines, and what they ask.
use Rattle.std.proofs.Common.{◌≡◌, ◌≢◌, ◌⊎◌, inl, inr, ℕ, zero, suc, ◌+◌, ◌<◌, Bool, true, List, length, refl, sym, ◌∙◌, ap}
use Rattle.std.proofs.Common.{subst, arith}
use Rattle.std.specs.Prelude.{Option, Some, None}
use Rattle.ap_base.specs.References.{IsReference, reference_word}
use Rattle.ap_base.specs.declared.reference.Ref.{Ref}
use Rattle.ap_base.specs.declared.reference.Ref.TheVariants.{Null, Persistent, Volatile}
use Rattle.twin_forms.specs.Table.{Entry, entry, View, Lies, Names, word_of, IsClaimed, InP}
use Rattle.twin_forms.proofs.Led.{same_or_not, below_or_not, word_young}
use Rattle.convert_queue.specs.Threads.{needs_of}
use Rattle.convert_words.specs.Agreeing.{Met}
use Rattle.converter.specs.declared.looks.Asked.{Asked}
use Rattle.converter.specs.declared.looks.Asked.TheVariants.{Nothing, ToClaim, ToNeed}
use Rattle.converter.specs.Looking.{Asks, IsOld, IsTaken}

-- the reference of a word that leads to an object
pub word_ref : (v : View) (es : List Entry) (m w : ℕ) → Lies v es → m < length es → Names (entry es m) w → (r : Ref) × IsReference r × (reference_word r ≡ w)
word_ref v es m w h lm (inl x) =
    let b = h.table.old_in m lm x.0 in let f = h.table.few_words in
    (Volatile (entry es m).at, omega (arith, b, f), sym x.1)
word_ref v es m w h lm (inr x) =
    let y = x.0 in let b = h.table.copy_in m lm (omega (arith, y)) in let f = h.table.few_lines in
    (Persistent (entry es m).line, (b.0, (let z = b.1 in omega (arith, z, f))), sym x.1)

abbrev filled : {A : Type 0} → Option A → ℕ
filled None = 0
filled (Some x) = 1

pub none_some : {A : Type 0} (x : A) → None ≡ Some x → ⊥
none_some x eq = let e : 0 ≡ 1 = ap filled eq in omega (arith, e)

pub no_name : (e : Entry) → Names e 0 → ⊥
no_name e (inl x) = let y = x.1 in omega (arith, y)
no_name e (inr x) = let y = x.2 in omega (arith, y)

-- of an object that thread u has claimed
pub asks_claimed : (es : List Entry) (m t u : ℕ) (a : Asked) → IsClaimed es u m → (u ≡ t → a ≡ Nothing) → (u ≢ t → a ≡ ToNeed u) → Asks a t es m
asks_claimed es m t u a c own other = elim (same_or_not u t) [
  | inl eq ↦ subst (λ x. Asks x t es m) (sym (own eq)) (inr (subst (λ x. IsClaimed es x m) eq c))
  | inr ne ↦ subst (λ x. Asks x t es m) (sym (other ne)) (ne, c)
]

zero_or : (x : ℕ) → (x ≡ 0) ⊎ ((t : ℕ) × (x ≡ t + 1))
zero_or zero = inl refl
zero_or (suc t) = inr (t, omega arith)

abbrev kind : Ref → ℕ
kind Null = 0
kind (Persistent line) = 1
kind (Volatile at) = 2

-- the index of an ordinary object, by its reference
volatile : (r : Ref) (e : Entry) → e.stage ≡ 0 → Names e (reference_word r) → r ≡ Volatile e.at
volatile r e young (inr x) = absurd (let y = x.0 in omega (arith, y, young))
volatile Null e young (inl x) = absurd (let y = x.1 in omega (arith, y))
volatile (Persistent line) e young (inl x) = absurd (let y = x.1 in omega (arith, y))
volatile (Volatile at) e young (inl x) = ap Volatile (let y = x.1 in omega (arith, y))

-- of an object that nobody has claimed
pub asks_free : (v : View) (es : List Entry) (m t : ℕ) (r : Ref) (a : Asked) (b : Bool) → Lies v es → m < length es → Names (entry es m) (reference_word r) →
    ((u : ℕ) → IsClaimed es u m → ⊥) → (b ≡ true → InP es m) → (InP es m → b ≡ true) → (b ≡ true → a ≡ Nothing) → ((at : ℕ) → b ≢ true → r ≡ Volatile at → a ≡ ToClaim at) → Asks a t es m
asks_free v es m t r a b h lm names none on back durable young =
    let e = entry es m in
    elim (zero_or e.owner) [
      | inr x ↦ absurd (none x.0 (lm, x.1))
      | inl z ↦ elim (below_or_not 1 e.stage) [
        | inl high ↦ (let p : InP es m = (lm, high, z) in subst (λ x. Asks x t es m) (sym (durable (back p))) (inl p))
        | inr low ↦ (
            let one : e.stage ≢ 1 = λ eq. (let o = h.table.copying m lm eq in omega (arith, o, z)) in
            let zero_stage : e.stage ≡ 0 = omega (arith, low, one) in
            let not_durable : b ≢ true = λ eq. (let p = (on eq).1 in omega (arith, p, low)) in
            subst (λ x. Asks x t es m) (sym (young e.at not_durable (volatile r e zero_stage names))) (zero_stage, z, refl))
      ]
    ]

-- what asks for no claim is taken
pub taken_by : (a : Asked) (t : ℕ) (es : List Entry) (m : ℕ) → ((at : ℕ) → a ≡ ToClaim at → ⊥) → Asks a t es m → IsTaken es m
taken_by Nothing t es m not (inl p) = inl p
taken_by Nothing t es m not (inr c) = inr (t, c)
taken_by (ToClaim at) t es m not x = absurd (not at refl)
taken_by (ToNeed u) t es m not x = inr (u, x.1)

-- the word of a slot of an object that isn't forwarded
pub old_word : (v : View) (object slots k : ℕ) (es : List Entry) (n : ℕ) → IsOld v object slots es n → word_of v (entry es n) k ≡ v.old (object + 3 + k)
old_word v object slots k es n old = word_young v (entry es n) k old.young ∙ ap (λ x. v.old (x + 3 + k)) old.at

pub old_less : (v : View) (object to k : ℕ) (es : List Entry) (n : ℕ) → k < to → IsOld v object to es n → IsOld v object (k + 1) es n
old_less v object to k es n lt old = record { lies = old.lies; there = old.there; at = old.at; young = old.young; long = let l = old.long in omega (arith, l, lt) }

abbrev question : Asked → ℕ
question Nothing = 0
question (ToClaim at) = 1
question (ToNeed u) = 2

pub claim_asks : (at : ℕ) → ToClaim at ≡ Nothing → ⊥
claim_asks at e = let x : 1 ≡ 0 = ap question e in omega (arith, x)

pub need_asks : (u : ℕ) → ToNeed u ≡ Nothing → ⊥
need_asks u e = let x : 2 ≡ 0 = ap question e in omega (arith, x)

pub met_more : (needs needs' : List ℕ) (t : ℕ) (es : List Entry) (m : ℕ) →
    ((a b : ℕ) → needs_of needs a b ≡ true → needs_of needs' a b ≡ true) → Met es (needs_of needs) t m → Met es
    (needs_of needs') t m
met_more needs needs' t es m on met = elim met [
  | inl p ↦ inl p
  | inr x ↦ elim x [
    | inl own ↦ inr (inl own)
    | inr y ↦ inr (inr (y.0, on t y.0 y.1, y.2))
  ]
]

-- what is taken is met, once the need that it asks is noted
pub asked_met : (a : Asked) (needs : List ℕ) (t : ℕ) (es : List Entry) (m : ℕ) → ((u : ℕ) → a ≡ ToNeed u → needs_of needs t u ≡ true) → IsTaken es m → Asks a t es m → Met es (needs_of needs) t m
asked_met Nothing needs t es m here taken (inl p) = inl p
asked_met Nothing needs t es m here taken (inr c) = inr (inl c)
asked_met (ToClaim at) needs t es m here taken x = absurd (elim taken [
  | inl p ↦ (let high = p.1 in let low = x.0 in omega (arith, high, low))
  | inr c ↦ (let o = c.1.1 in let z = x.1 in omega (arith, o, z))
])
asked_met (ToNeed u) needs t es m here taken x = inr (inr (u, here u refl, x.1))

pub met_below : (k : ℕ) (P : ℕ → Type 0) → ((j : ℕ) → j < k → P j) → P k → (j : ℕ) → j < k + 1 → P j
met_below k P below here j lt = elim (same_or_not j k) [ inl eq ↦ subst P (sym eq) here | inr ne ↦ below j (omega (arith, lt, ne)) ]

-- an object that isn't durable and that nobody has claimed is ordinary: its reference is its index
pub index_free : {v : View} (es : List Entry) (m : ℕ) (r : Ref) → Lies v es → m < length es → Names (entry es m) (reference_word r) → (InP es m → ⊥) → ((u : ℕ) → IsClaimed es u m → ⊥) →
    ((entry es m).stage ≡ 0) × ((entry es m).owner ≡ 0) × (r ≡ Volatile (entry es m).at)
index_free {v} es m r h lm names outside free =
    let e = entry es m in
    elim (zero_or e.owner) [
      | inr x ↦ absurd (free x.0 (lm, x.1))
      | inl z ↦ elim (below_or_not 1 e.stage) [
        | inl high ↦ absurd (outside (lm, high, z))
        | inr low ↦ (
            let one : e.stage ≢ 1 = λ eq. (let o = h.table.copying m lm eq in omega (arith, o, z)) in
            let young : e.stage ≡ 0 = omega (arith, low, one) in
            (young, z, volatile r e young names))
      ]
    ]
