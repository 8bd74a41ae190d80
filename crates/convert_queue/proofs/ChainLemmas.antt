-- Entries that stand n steps behind one, and what a change of their next ones leaves.
use Rattle.std.proofs.Common.{◌≡◌, ◌≢◌, ◌⊎◌, inl, inr, ℕ, zero, suc, ◌+◌, ◌-◌, ◌<◌, ◌≤◌, refl, sym, ◌∙◌, ap, subst, arith, Bool}
use Rattle.std.specs.Prelude.{if◌then◌else◌}
use Rattle.std.proofs.lemmas.Bool.{eq-eqb, ne_eqb, cases_eq, cases_lt}
use Rattle.convert_queue.specs.declared.queue_lists.Chain.{Chain}
use Rattle.convert_queue.specs.Chains.{nth_from, entry_of, longer, AreChains}
use Rattle.convert_queue.proofs.Rechained.{Link, kept, added, left, Freed, stays, freed, moved, Origin, rechained, links_apart}
use Rattle.convert_queue.proofs.Rechained.{freed_apart}

pub nth_same : (next next' : ℕ → ℕ) (n i : ℕ) → ((k : ℕ) → k < n → next' (nth_from next k i) ≡ next (nth_from next k i)) → nth_from next' n i ≡ nth_from next n i
nth_same next next' zero i h = refl
nth_same next next' (suc n) i h = ap (nth_from next' n) (h 0 (omega arith)) ∙ nth_same next next' n (next i) (λ k lt. h (suc k) (omega (arith, lt)))

pub nth_last : (next : ℕ → ℕ) (n i : ℕ) → nth_from next (suc n) i ≡ next (nth_from next n i)
nth_last next zero i = refl
nth_last next (suc n) i = nth_last next n (next i)

pub nth_more : (next : ℕ → ℕ) (n i : ℕ) → nth_from next (n + 1) i ≡ next (nth_from next n i)
nth_more next n i = let e : n + 1 ≡ suc n = omega arith in ap (λ (k : ℕ). nth_from next k i) e ∙ nth_last next n i

pub nth_add : (next : ℕ → ℕ) (m n i : ℕ) → nth_from next (m + n) i ≡ nth_from next n (nth_from next m i)
nth_add next zero n i = let e : 0 + n ≡ n = omega arith in ap (λ (k : ℕ). nth_from next k i) e
nth_add next (suc m) n i = let e : suc m + n ≡ suc (m + n) = omega arith in ap (λ (k : ℕ). nth_from next k i) e ∙ nth_add next m n (next i)

-- The entry e, which was the first free one, is put behind the chain of t.
pub record Puts (next next' : ℕ → ℕ) (chain chain' : ℕ → Chain) (t e : ℕ) : Type 0 where
  pub thread : t < 64
  pub is_first : (chain 64).first ≡ e
  pub some : 0 < (chain 64).count
  pub others : (k : ℕ) → k ≢ e → (0 < (chain t).count → k ≢ (chain t).last) → next' k ≡ next k
  pub link : 0 < (chain t).count → next' (chain t).last ≡ e
  pub mine : chain' t ≡ longer (chain t) e
  pub first : (chain' 64).first ≡ next e
  pub count : (chain' 64).count ≡ (chain 64).count - 1
  pub rest : (c : ℕ) → c < 64 → c ≢ t → chain' c ≡ chain c

pub last_is : (next : ℕ → ℕ) (chain : ℕ → Chain) (size t : ℕ) → AreChains next chain size → t < 64 → 0 < (chain t).count
    → (chain t).last ≡ entry_of next chain t ((chain t).count - 1)
last_is next chain size t a lt some = a.ends t ((chain t).count - 1) lt (omega (arith, some))

-- no entry of a chain is the first free one, or the last one of another chain
pub not_first : (next next' : ℕ → ℕ) (chain chain' : ℕ → Chain) (size t e : ℕ) → AreChains next chain size → Puts next next' chain chain' t e
    → (c k : ℕ) → c ≤ 64 → k < (chain c).count → (c ≡ 64 → k ≢ 0) → entry_of next chain c k ≢ e
not_first next next' chain chain' size t e a p c k low lt ne is =
    let both = a.apart c 64 k 0 low (omega arith) lt p.some (is ∙ sym p.is_first) in
    ne both.0 both.1

pub not_last : (next : ℕ → ℕ) (chain : ℕ → Chain) (size t : ℕ) → AreChains next chain size → t < 64
    → (c k : ℕ) → c ≤ 64 → k < (chain c).count → (c ≡ t → suc k < (chain t).count) → 0 < (chain t).count → entry_of next chain c k ≢ (chain t).last
not_last next chain size t a lt c k low below ne some is =
    let both = a.apart c t k ((chain t).count - 1) low (omega (arith, lt)) below (omega (arith, some)) (is ∙ last_is next chain size t a lt some) in
    let short = ne both.0 in
    omega (arith, short, both.1)

pub put_same : (next next' : ℕ → ℕ) (chain chain' : ℕ → Chain) (size t e : ℕ) → AreChains next chain size → Puts next next' chain chain' t e
    → (c n : ℕ) → c < 64 → c ≢ t → n < (chain c).count → entry_of next' chain' c n ≡ entry_of next chain c n
put_same next next' chain chain' size t e a p c n low ne lt =
    ap (λ (x : Chain). nth_from next' n x.first) (p.rest c low ne)
    ∙ nth_same next next' n (chain c).first (λ k less. p.others (entry_of next chain c k)
    (not_first next next' chain chain' size t e a p c k (omega (arith, low)) (omega (arith, less, lt)) (λ h. absurd (omega (arith, h, low))))
    (not_last next chain size t a p.thread c k (omega (arith, low)) (omega (arith, less, lt)) (λ h. absurd (ne h))))

pub put_front : (next next' : ℕ → ℕ) (chain chain' : ℕ → Chain) (size t e : ℕ) → AreChains next chain size → Puts next next' chain chain' t e
    → (n : ℕ) → n < (chain t).count → entry_of next' chain' t n ≡ entry_of next chain t n
put_front next next' chain chain' size t e a p n lt =
    let low = p.thread in
    let first : (longer (chain t) e).first ≡ (chain t).first = ap (λ (b : Bool). if b then e else (chain t).first) (ne_eqb (chain t).count 0 (λ h. omega (arith, h, lt))) in
    ap (λ (x : Chain). nth_from next' n x.first) p.mine ∙ ap (nth_from next' n) first
    ∙ nth_same next next' n (chain t).first (λ k less. p.others (entry_of next chain t k)
    (not_first next next' chain chain' size t e a p t k (omega (arith, low)) (omega (arith, less, lt)) (λ h. absurd (omega (arith, h, low))))
    (not_last next chain size t a p.thread t k (omega (arith, low)) (omega (arith, less, lt)) (λ _. omega (arith, less, lt))))

pub put_new : (next next' : ℕ → ℕ) (chain chain' : ℕ → Chain) (size t e : ℕ) → AreChains next chain size → Puts next next' chain chain' t e
    → entry_of next' chain' t (chain t).count ≡ e
put_new next next' chain chain' size t e a p = elim (none_or (chain t).count) [
  | inl none ↦
      let first : (longer (chain t) e).first ≡ e = ap (λ (b : Bool). if b then e else (chain t).first) (eq-eqb (chain t).count 0 none) in
      ap (λ (k : ℕ). entry_of next' chain' t k) none ∙ ap (λ (x : Chain). x.first) p.mine ∙ first
  | inr some ↦
      let before : (chain t).count ≡ suc ((chain t).count - 1) = omega (arith, some) in
      ap (λ (k : ℕ). entry_of next' chain' t k) before ∙ nth_last next' ((chain t).count - 1) (chain' t).first
      ∙ ap next' (put_front next next' chain chain' size t e a p ((chain t).count - 1) (omega (arith, some)))
      ∙ ap next' (sym (last_is next chain size t a p.thread some)) ∙ p.link some
]
  where
    none_or : (n : ℕ) → (n ≡ 0) ⊎ (0 < n)
    none_or n = grind arith

pub put_free : (next next' : ℕ → ℕ) (chain chain' : ℕ → Chain) (size t e : ℕ) → AreChains next chain size → Puts next next' chain chain' t e
    → (n : ℕ) → suc n < (chain 64).count → entry_of next' chain' 64 n ≡ entry_of next chain 64 (suc n)
put_free next next' chain chain' size t e a p n lt =
    let low = p.thread in
    let second : nth_from next n (next e) ≡ entry_of next chain 64 (suc n) = ap (λ (k : ℕ). nth_from next n (next k)) (sym p.is_first) in
    let at : (k : ℕ) → nth_from next k (next e) ≡ entry_of next chain 64 (suc k) = λ k. ap (λ (j : ℕ). nth_from next k (next j)) (sym p.is_first) in
    ap (nth_from next' n) p.first
    ∙ nth_same next next' n (next e) (λ k less. p.others (nth_from next k (next e))
    (λ h. not_first next next' chain chain' size t e a p 64 (suc k) (omega arith) (omega (arith, less, lt)) (λ _ z. omega (arith, z)) (sym (at k) ∙ h))
    (λ some h. not_last next chain size t a p.thread 64 (suc k) (omega arith) (omega (arith, less, lt)) (λ z. absurd (omega (arith, z, low))) some (sym (at k) ∙ h)))
    ∙ second

pub put_chains : (next next' : ℕ → ℕ) (chain chain' : ℕ → Chain) (size t e : ℕ) → AreChains next chain size → Puts next next' chain chain' t e
    → AreChains next' chain' size
put_chains next next' chain chain' size t e a p =
    rechained next next' chain chain' size (Link t (chain t).count) a origin (links_apart t (chain t).count p.thread) ends stands
  where
    mine_count : (chain' t).count ≡ (chain t).count + 1
    mine_count = ap (λ (x : Chain). x.count) p.mine

    origin : (c n : ℕ) → c ≤ 64 → n < (chain' c).count → Origin next next' chain chain' (Link t (chain t).count) c n
    origin c n low lt = elim (cases_eq c 64) [
      | inl free ↦
          let few : n < (chain' 64).count = subst (λ (k : ℕ). n < (chain' k).count) free lt in
          let less : suc n < (chain 64).count = omega (arith, few, p.count, p.some) in
          record {
            d = 64;
            m = suc n;
            low = omega arith;
            below = less;
            is = ap (λ (k : ℕ). entry_of next' chain' k n) free ∙ put_free next next' chain chain' size t e a p n less;
            link = left free refl (omega arith);
          }
      | inr used ↦ elim (cases_eq c t) [
        | inl me ↦
            let some : n < (chain t).count + 1 = subst (λ (k : ℕ). n < k) (ap (λ (k : ℕ). (chain' k).count) me ∙ mine_count) lt in
            elim (cases_lt n (chain t).count) [
              | inl front ↦ record {
                d = t;
                m = n;
                low = omega (arith, p.thread);
                below = front;
                is = ap (λ (k : ℕ). entry_of next' chain' k n) me ∙ put_front next next' chain chain' size t e a p n front;
                link = kept me refl used (λ _. front);
              }
              | inr past ↦
                  let last : n ≡ (chain t).count = omega (arith, past, some) in
                  record {
                    d = 64;
                    m = 0;
                    low = omega arith;
                    below = p.some;
                    is = ap (λ (k : ℕ). entry_of next' chain' k n) me ∙ ap (entry_of next' chain' t) last ∙ put_new next next' chain chain' size t e a p ∙ sym p.is_first;
                    link = added me last refl refl;
                  }
            ]
        | inr other ↦
            let same : n < (chain c).count = subst (λ (x : Chain). n < x.count) (p.rest c (omega (arith, low, used)) other) lt in
            record {
              d = c;
              m = n;
              low = low;
              below = same;
              is = put_same next next' chain chain' size t e a p c n (omega (arith, low, used)) other same;
              link = kept refl refl used (λ h. absurd (other h));
            }
      ]
    ]

    ends : (c n : ℕ) → c < 64 → (chain' c).count ≡ suc n → (chain' c).last ≡ entry_of next' chain' c n
    ends c n low is = elim (cases_eq c t) [
      | inl me ↦
          let last : n ≡ (chain t).count = omega (arith, subst (λ (k : ℕ). (chain' k).count ≡ suc n) me is, mine_count) in
          ap (λ (k : ℕ). (chain' k).last) me ∙ ap (λ (x : Chain). x.last) p.mine
          ∙ sym (ap (λ (k : ℕ). entry_of next' chain' k n) me ∙ ap (entry_of next' chain' t) last ∙ put_new next next' chain chain' size t e a p)
      | inr other ↦
          let same = p.rest c low other in
          let before : (chain c).count ≡ suc n = sym (ap (λ (x : Chain). x.count) same) ∙ is in
          ap (λ (x : Chain). x.last) same ∙ a.ends c n low before
          ∙ sym (put_same next next' chain chain' size t e a p c n low other (omega (arith, before)))
    ]

    stands : (c : ℕ) → c < 64 → (chain' c).at < (chain' c).count → (chain' c).cursor ≡ entry_of next' chain' c (chain' c).at
    stands c low lt = elim (cases_eq c t) [
      | inl me ↦ subst (λ (k : ℕ). (chain' k).cursor ≡ entry_of next' chain' k (chain' k).at) (sym me)
          (mine (subst (λ (k : ℕ). (chain' k).at < (chain' k).count) me lt))
      | inr other ↦
          let same = p.rest c low other in
          let at_same : (chain' c).at ≡ (chain c).at = ap (λ (x : Chain). x.at) same in
          let before : (chain c).at < (chain c).count = subst (λ (x : Chain). x.at < x.count) same lt in
          ap (λ (x : Chain). x.cursor) same ∙ a.stands c low before
          ∙ sym (ap (entry_of next' chain' c) at_same ∙ put_same next next' chain chain' size t e a p c (chain c).at low other before)
    ]
      where
        at_is : (chain' t).at ≡ (chain t).at
        at_is = ap (λ (x : Chain). x.at) p.mine

        mine : (chain' t).at < (chain' t).count → (chain' t).cursor ≡ entry_of next' chain' t (chain' t).at
        mine less = elim (cases_eq (chain t).at (chain t).count) [
          | inl here ↦
              ap (λ (x : Chain). x.cursor) p.mine ∙ ap (λ (b : Bool). if b then e else (chain t).cursor) (eq-eqb (chain t).at (chain t).count here)
              ∙ sym (ap (entry_of next' chain' t) (at_is ∙ here) ∙ put_new next next' chain chain' size t e a p)
          | inr past ↦
              let before : (chain t).at < (chain t).count = omega (arith, less, at_is, mine_count, past) in
              ap (λ (x : Chain). x.cursor) p.mine ∙ ap (λ (b : Bool). if b then e else (chain t).cursor) (ne_eqb (chain t).at (chain t).count past)
              ∙ a.stands t p.thread before
              ∙ sym (ap (entry_of next' chain' t) at_is ∙ put_front next next' chain chain' size t e a p (chain t).at before)
        ]

-- The whole chain of t is put before the free entries.
pub record Releases (next next' : ℕ → ℕ) (chain chain' : ℕ → Chain) (t : ℕ) : Type 0 where
  pub thread : t < 64
  pub some : 0 < (chain t).count
  pub others : (k : ℕ) → k ≢ (chain t).last → next' k ≡ next k
  pub link : next' (chain t).last ≡ (chain 64).first
  pub none : (chain' t).count ≡ 0
  pub first : (chain' 64).first ≡ (chain t).first
  pub count : (chain' 64).count ≡ (chain 64).count + (chain t).count
  pub rest : (c : ℕ) → c < 64 → c ≢ t → chain' c ≡ chain c

pub release_same : (next next' : ℕ → ℕ) (chain chain' : ℕ → Chain) (size t : ℕ) → AreChains next chain size → Releases next next' chain chain' t
    → (c n : ℕ) → c < 64 → c ≢ t → n < (chain c).count → entry_of next' chain' c n ≡ entry_of next chain c n
release_same next next' chain chain' size t a p c n low ne lt =
    ap (λ (x : Chain). nth_from next' n x.first) (p.rest c low ne)
    ∙ nth_same next next' n (chain c).first (λ k less. p.others (entry_of next chain c k)
    (not_last next chain size t a p.thread c k (omega (arith, low)) (omega (arith, less, lt)) (λ h. absurd (ne h)) p.some))

pub release_front : (next next' : ℕ → ℕ) (chain chain' : ℕ → Chain) (size t : ℕ) → AreChains next chain size → Releases next next' chain chain' t
    → (n : ℕ) → n < (chain t).count → entry_of next' chain' 64 n ≡ entry_of next chain t n
release_front next next' chain chain' size t a p n lt =
    let low = p.thread in
    ap (nth_from next' n) p.first
    ∙ nth_same next next' n (chain t).first (λ k less. p.others (entry_of next chain t k)
    (not_last next chain size t a p.thread t k (omega (arith, low)) (omega (arith, less, lt)) (λ _. omega (arith, less, lt)) p.some))

pub release_behind : (next next' : ℕ → ℕ) (chain chain' : ℕ → Chain) (size t : ℕ) → AreChains next chain size → Releases next next' chain chain' t
    → (n : ℕ) → n < (chain 64).count → entry_of next' chain' 64 ((chain t).count + n) ≡ entry_of next chain 64 n
release_behind next next' chain chain' size t a p n lt =
    let low = p.thread in
    let some = p.some in
    let before : (chain t).count ≡ suc ((chain t).count - 1) = omega (arith, some) in
    let first : nth_from next' (chain t).count (chain' 64).first ≡ (chain 64).first =
    ap (λ (k : ℕ). nth_from next' k (chain' 64).first) before ∙ nth_last next' ((chain t).count - 1) (chain' 64).first
    ∙ ap next' (release_front next next' chain chain' size t a p ((chain t).count - 1) (omega (arith, some)))
    ∙ ap next' (sym (last_is next chain size t a p.thread p.some)) ∙ p.link in
    nth_add next' (chain t).count n (chain' 64).first ∙ ap (nth_from next' n) first
    ∙ nth_same next next' n (chain 64).first (λ k less. p.others (entry_of next chain 64 k)
    (not_last next chain size t a p.thread 64 k (omega arith) (omega (arith, less, lt)) (λ h. absurd (omega (arith, h, low))) p.some))

pub release_chains : (next next' : ℕ → ℕ) (chain chain' : ℕ → Chain) (size t : ℕ) → AreChains next chain size → Releases next next' chain chain' t
    → AreChains next' chain' size
release_chains next next' chain chain' size t a p =
    rechained next next' chain chain' size (Freed t (chain t).count) a origin (freed_apart t (chain t).count p.thread) ends stands
  where
    origin : (c n : ℕ) → c ≤ 64 → n < (chain' c).count → Origin next next' chain chain' (Freed t (chain t).count) c n
    origin c n low lt = elim (cases_eq c 64) [
      | inl free ↦
          let few : n < (chain 64).count + (chain t).count = omega (arith, subst (λ (k : ℕ). n < (chain' k).count) free lt, p.count) in
          elim (cases_lt n (chain t).count) [
            | inl front ↦ record {
              d = t;
              m = n;
              low = omega (arith, p.thread);
              below = front;
              is = ap (λ (k : ℕ). entry_of next' chain' k n) free ∙ release_front next next' chain chain' size t a p n front;
              link = freed free refl front refl;
            }
            | inr past ↦
                let e : n ≡ (chain t).count + (n - (chain t).count) = omega (arith, past) in
                let less : n - (chain t).count < (chain 64).count = omega (arith, past, few) in
                record {
                  d = 64;
                  m = n - (chain t).count;
                  low = omega arith;
                  below = less;
                  is = ap (λ (k : ℕ). entry_of next' chain' k n) free ∙ ap (entry_of next' chain' 64) e
                      ∙ release_behind next next' chain chain' size t a p (n - (chain t).count) less;
                  link = moved free refl e;
                }
          ]
      | inr used ↦ elim (cases_eq c t) [
        | inl me ↦ absurd (omega (arith, subst (λ (k : ℕ). n < (chain' k).count) me lt, p.none))
        | inr other ↦
            let same : n < (chain c).count = subst (λ (x : Chain). n < x.count) (p.rest c (omega (arith, low, used)) other) lt in
            record {
              d = c;
              m = n;
              low = low;
              below = same;
              is = release_same next next' chain chain' size t a p c n (omega (arith, low, used)) other same;
              link = stays refl refl used other;
            }
      ]
    ]

    ends : (c n : ℕ) → c < 64 → (chain' c).count ≡ suc n → (chain' c).last ≡ entry_of next' chain' c n
    ends c n low is = elim (cases_eq c t) [
      | inl me ↦ absurd (omega (arith, subst (λ (k : ℕ). (chain' k).count ≡ suc n) me is, p.none))
      | inr other ↦
          let same = p.rest c low other in
          let before : (chain c).count ≡ suc n = sym (ap (λ (x : Chain). x.count) same) ∙ is in
          ap (λ (x : Chain). x.last) same ∙ a.ends c n low before
          ∙ sym (release_same next next' chain chain' size t a p c n low other (omega (arith, before)))
    ]

    stands : (c : ℕ) → c < 64 → (chain' c).at < (chain' c).count → (chain' c).cursor ≡ entry_of next' chain' c (chain' c).at
    stands c low lt = elim (cases_eq c t) [
      | inl me ↦ absurd (omega (arith, subst (λ (k : ℕ). (chain' k).at < (chain' k).count) me lt, p.none))
      | inr other ↦
          let same = p.rest c low other in
          let at_same : (chain' c).at ≡ (chain c).at = ap (λ (x : Chain). x.at) same in
          let before : (chain c).at < (chain c).count = subst (λ (x : Chain). x.at < x.count) same lt in
          ap (λ (x : Chain). x.cursor) same ∙ a.stands c low before
          ∙ sym (ap (entry_of next' chain' c) at_same ∙ release_same next next' chain chain' size t a p c (chain c).at low other before)
    ]
