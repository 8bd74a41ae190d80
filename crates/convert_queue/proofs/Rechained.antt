-- Chains stay apart where each entry of a new chain was one of an old chain, and no two were the same.
use Rattle.std.proofs.Common.{◌≡◌, ◌≢◌, ℕ, suc, ◌+◌, ◌<◌, ◌≤◌, sym, ◌∙◌, subst, arith}
use Rattle.convert_queue.specs.declared.queue_lists.Chain.{Chain}
use Rattle.convert_queue.specs.Chains.{entry_of, AreChains}

-- Where entry n of chain c stood before: number m of chain d. The chain of t had k entries.
pub data Link (t k c n d m : ℕ) : Type 0 where
  kept : c ≡ d → n ≡ m → c ≢ 64 → (c ≡ t → n < k) → Link t k c n d m
  added : c ≡ t → n ≡ k → d ≡ 64 → m ≡ 0 → Link t k c n d m
  left : c ≡ 64 → d ≡ 64 → m ≡ n + 1 → Link t k c n d m

pub record Origin (next next' : ℕ → ℕ) (chain chain' : ℕ → Chain) (L : ℕ → ℕ → ℕ → ℕ → Type 0) (c n : ℕ) : Type 0 where
  pub d : ℕ
  pub m : ℕ
  pub low : d ≤ 64
  pub below : m < (chain d).count
  pub is : entry_of next' chain' c n ≡ entry_of next chain d m
  pub link : L c n d m

pub links_apart : (t k : ℕ) → t < 64 → (c n c' n' d m : ℕ) → Link t k c n d m → Link t k c' n' d m → (c ≡ c') × (n ≡ n')
links_apart t k low c n c' n' d m (kept a b x y) (kept a' b' x' y') = (omega (arith, a, a'), omega (arith, b, b'))
links_apart t k low c n c' n' d m (kept a b x y) (added a' b' x' y') = absurd (x (a ∙ x'))
links_apart t k low c n c' n' d m (kept a b x y) (left a' b' x') = absurd (x (a ∙ b'))
links_apart t k low c n c' n' d m (added a b x y) (kept a' b' x' y') = absurd (x' (a' ∙ x))
links_apart t k low c n c' n' d m (added a b x y) (added a' b' x' y') = (omega (arith, a, a'), omega (arith, b, b'))
links_apart t k low c n c' n' d m (added a b x y) (left a' b' x') = absurd (omega (arith, y, x'))
links_apart t k low c n c' n' d m (left a b x) (kept a' b' x' y') = absurd (x' (a' ∙ b))
links_apart t k low c n c' n' d m (left a b x) (added a' b' x' y') = absurd (omega (arith, x, y'))
links_apart t k low c n c' n' d m (left a b x) (left a' b' x') = (omega (arith, a, a'), omega (arith, x, x'))

-- the same once the chain of t, of k entries, was put before the free ones
pub data Freed (t k c n d m : ℕ) : Type 0 where
  stays : c ≡ d → n ≡ m → c ≢ 64 → c ≢ t → Freed t k c n d m
  freed : c ≡ 64 → n ≡ m → n < k → d ≡ t → Freed t k c n d m
  moved : c ≡ 64 → d ≡ 64 → n ≡ k + m → Freed t k c n d m

pub freed_apart : (t k : ℕ) → t < 64 → (c n c' n' d m : ℕ) → Freed t k c n d m → Freed t k c' n' d m → (c ≡ c') × (n ≡ n')
freed_apart t k low c n c' n' d m (stays a b x y) (stays a' b' x' y') = (omega (arith, a, a'), omega (arith, b, b'))
freed_apart t k low c n c' n' d m (stays a b x y) (freed a' b' x' y') = absurd (y (a ∙ y'))
freed_apart t k low c n c' n' d m (stays a b x y) (moved a' b' x') = absurd (x (a ∙ b'))
freed_apart t k low c n c' n' d m (freed a b x y) (stays a' b' x' y') = absurd (y' (a' ∙ y))
freed_apart t k low c n c' n' d m (freed a b x y) (freed a' b' x' y') = (omega (arith, a, a'), omega (arith, b, b'))
freed_apart t k low c n c' n' d m (freed a b x y) (moved a' b' x') = absurd (omega (arith, low, y, b'))
freed_apart t k low c n c' n' d m (moved a b x) (stays a' b' x' y') = absurd (x' (a' ∙ b))
freed_apart t k low c n c' n' d m (moved a b x) (freed a' b' x' y') = absurd (omega (arith, low, b, y'))
freed_apart t k low c n c' n' d m (moved a b x) (moved a' b' x') = (omega (arith, a, a'), omega (arith, x, x'))

pub rechained : (next next' : ℕ → ℕ) (chain chain' : ℕ → Chain) (size : ℕ) (L : ℕ → ℕ → ℕ → ℕ → Type 0) → AreChains next chain size
    → ((c n : ℕ) → c ≤ 64 → n < (chain' c).count → Origin next next' chain chain' L c n)
    → ((c n c' n' d m : ℕ) → L c n d m → L c' n' d m → (c ≡ c') × (n ≡ n'))
    → ((c n : ℕ) → c < 64 → (chain' c).count ≡ suc n → (chain' c).last ≡ entry_of next' chain' c n)
    → ((c : ℕ) → c < 64 → (chain' c).at < (chain' c).count → (chain' c).cursor ≡ entry_of next' chain' c (chain' c).at)
    → AreChains next' chain' size
rechained next next' chain chain' size L a origin apart ends stands = record {
  within = λ c n low lt. let o = origin c n low lt in subst (λ (x : ℕ). x < size) (sym o.is) (a.within o.d o.m o.low o.below);
  apart = λ c c' n n' low low' lt lt' e.
      let o = origin c n low lt in
      let o' = origin c' n' low' lt' in
      let both = a.apart o.d o'.d o.m o'.m o.low o'.low o.below o'.below (sym o.is ∙ e ∙ o'.is) in
      apart c n c' n' o.d o.m o.link (subst (λ (x : ℕ). L c' n' x o.m) (sym both.0) (subst (λ (x : ℕ). L c' n' o'.d x) (sym both.1) o'.link));
  ends = ends;
  stands = stands;
}
