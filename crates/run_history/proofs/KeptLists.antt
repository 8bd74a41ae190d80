-- Kept lists: what is kept of longer lists, of marks whose fates have changed, and by other choices.
use Rattle.std.proofs.Common.{◌≡◌, ℕ, Bool, true, false, List, [], ◌∷◌, ◌++◌, refl, ap, sym, ◌∙◌, cond, nat_eq, ◌&&◌}
use Rattle.std.proofs.Common.{if◌then◌else◌, eq-eqb}
use Rattle.std.proofs.Math.Path.{fun_ext}
use Rattle.std.specs.Prelude.{◌≢◌}
use Rattle.std.proofs.lemmas.Bool.{eqb-true, true≢false}
use Rattle.std.specs.List.{AllByRecursion, filter}
use Rattle.graph_model.specs.declared.types.Heap.{Heap}
use Rattle.graph_model.specs.declared.types.Graph.{Graph}
use Rattle.graph_model.specs.Canon.{canon_of}
use Rattle.run_history.specs.declared.act.Op.{Op}
use Rattle.run_history.specs.Worlds.{heap_after_op, heap_after}
use Rattle.run_history.specs.Knowing.{Fate, Sure, Mark, each_fate, with_sure}
use Rattle.run_history.specs.Kept.{survives, kept, MayRemain, MayRemainWith}
use Rattle.run_history.specs.Laws.{graph_left}

-- A fact about the fate of each mark.
abbrev pub OfEach : (Fate → Type 0) → List Mark → Type 0
OfEach P ms = AllByRecursion (λ (m : Mark). P m.fate) ms

abbrev pub Any : Fate → Type 0
Any fate = Unit {0}

pub OfEach-any : (ms : List Mark) → OfEach Any ms
OfEach-any [] = tt
OfEach-any (m ∷ ms) = (tt, OfEach-any ms)

pub OfEach-more : (P : Fate → Type 0) (ms : List Mark) (fate : Fate) (o : Op)
    → OfEach P ms → P fate → OfEach P (ms ++ record { fate = fate; op = o } ∷ [])
OfEach-more P [] fate o all this = (this, tt)
OfEach-more P (m ∷ ms) fate o all this = (all.0, OfEach-more P ms fate o all.1 this)

pub OfEach-each_fate : (P Q : Fate → Type 0) (f : Fate → Fate) → ((fate : Fate) → P fate → Q (f fate))
    → (ms : List Mark) → OfEach P ms → OfEach Q (each_fate f ms)
OfEach-each_fate P Q f keeps [] all = tt
OfEach-each_fate P Q f keeps (m ∷ ms) all = (keeps m.fate all.0, OfEach-each_fate P Q f keeps ms all.1)

pub OfEach-weaker : (P Q : Fate → Type 0) → ((fate : Fate) → P fate → Q fate) → (ms : List Mark) → OfEach P ms → OfEach Q ms
OfEach-weaker P Q weaker [] all = tt
OfEach-weaker P Q weaker (m ∷ ms) all = (weaker m.fate all.0, OfEach-weaker P Q weaker ms all.1)

-- a fate is not the one that a test tells from it
pub no_fate : (test : Fate → Bool) (this : Fate) → test this ≡ true → (fate : Fate) → test fate ≡ false → fate ≢ this
no_fate test this passes fate fails is = true≢false (sym passes ∙ sym (ap test is) ∙ fails)

-- Choices: those with that of thread t replaced.
abbrev pub but : ℕ → Bool → (ℕ → Bool) → ℕ → Bool
but t b choices u = if nat_eq u t then b else choices u

pub but-own : (t : ℕ) (b : Bool) (choices : ℕ → Bool) → but t b choices t ≡ b
but-own t b choices = rw (eq-eqb t t refl) refl

but-same_at : (t : ℕ) (b : Bool) (choices : ℕ → Bool) → choices t ≡ b → (u : ℕ) → but t b choices u ≡ choices u
but-same_at t b choices same u =
    elim (nat_eq u t) as (λ c. nat_eq u t ≡ c → (if c then b else choices u) ≡ choices u) [
      | true ↦ λ e. sym same ∙ ap choices (sym (eqb-true u t e))
      | false ↦ λ e. refl
    ] refl

-- a choice that is replaced by itself
pub but-same : (t : ℕ) (b : Bool) (choices : ℕ → Bool) → choices t ≡ b → but t b choices ≡ choices
but-same t b choices same = fun_ext (but-same_at t b choices same)

-- Lists that grow, and marks that change.
pub heap_after-append : (first : Heap) (xs ys : List Op) → heap_after first (xs ++ ys) ≡ heap_after (heap_after first xs) ys
heap_after-append first [] ys = refl
heap_after-append first (x ∷ xs) ys = heap_after-append (heap_after_op first x) xs ys

-- two changes that agree about each mark
pub each_fate-agree : (f f' : Fate → Fate) (P : Fate → Type 0) → ((fate : Fate) → P fate → f fate ≡ f' fate)
    → (ms : List Mark) → OfEach P ms → each_fate f ms ≡ each_fate f' ms
each_fate-agree f f' P same [] all = refl
each_fate-agree f f' P same (m ∷ ms) all =
    ap (λ fate. record { fate = fate; op = m.op } ∷ each_fate f ms) (same m.fate all.0)
    ∙ ap (λ xs. record { fate = f' m.fate; op = m.op } ∷ xs) (each_fate-agree f f' P same ms all.1)

module _ (regions singles : ℕ → Bool) where
  -- what is kept of a mark and of those after it
  abbrev and_kept : Bool → Mark → List Op → List Op
  and_kept b m ops = if b then m.op ∷ ops else ops

  pub kept-append : (ms ns : List Mark) → kept regions singles (ms ++ ns) ≡ kept regions singles ms ++ kept regions singles ns
  kept-append [] ns = refl
  kept-append (m ∷ ms) ns =
      let both = kept regions singles (ms ++ ns) in
      let Split : Bool → Type 0 = λ b. and_kept b m both ≡ and_kept b m (kept regions singles ms) ++ kept regions singles ns in
      elim (survives regions singles m.fate) as (λ b. Split b) [
        | true ↦ ap (λ xs. m.op ∷ xs) (kept-append ms ns)
        | false ↦ kept-append ms ns
      ]

  -- an operation that is sure is done last
  pub kept-with_sure : (first : Heap) (ms : List Mark) (o : Op)
      → heap_after first (kept regions singles (with_sure ms o)) ≡ heap_after_op (heap_after first (kept regions singles ms)) o
  kept-with_sure first ms o =
      ap (heap_after first) (kept-append ms (record { fate = Sure; op = o } ∷ []))
      ∙ heap_after-append first (kept regions singles ms) (o ∷ [])

  -- choices that agree about each mark keep the same
  pub kept-agree : (regions' singles' : ℕ → Bool) (P : Fate → Type 0)
      → ((fate : Fate) → P fate → survives regions singles fate ≡ survives regions' singles' fate)
      → (ms : List Mark) → OfEach P ms → kept regions singles ms ≡ kept regions' singles' ms
  kept-agree regions' singles' P same [] all = refl
  kept-agree regions' singles' P same (m ∷ ms) all =
      rw (same m.fate all.0, kept-agree regions' singles' P same ms all.1) refl

  -- fates that were changed are kept by these choices as the old ones are by others
  pub kept-each_fate : (f : Fate → Fate) (regions' singles' : ℕ → Bool)
      → ((fate : Fate) → survives regions singles (f fate) ≡ survives regions' singles' fate)
      → (ms : List Mark) → kept regions singles (each_fate f ms) ≡ kept regions' singles' ms
  kept-each_fate f regions' singles' same [] = refl
  kept-each_fate f regions' singles' same (m ∷ ms) = rw (same m.fate, kept-each_fate f regions' singles' same ms) refl

  -- what passes a test is kept by these choices as all are by others, which drop the rest
  pub kept-filter : (test : Fate → Bool) (regions' singles' : ℕ → Bool)
      → ((fate : Fate) → survives regions' singles' fate ≡ (test fate && survives regions singles fate))
      → (ms : List Mark) → kept regions singles (filter (λ (m : Mark). test m.fate) ms) ≡ kept regions' singles' ms
  kept-filter test regions' singles' same [] = refl
  kept-filter test regions' singles' same (m ∷ ms) =
      let passed = filter (λ (n : Mark). test n.fate) ms in
      let Same : Bool → Type 0 = λ b.
      kept regions singles (cond b (m ∷ passed) passed)
      ≡ and_kept (b && survives regions singles m.fate) m (kept regions' singles' ms) in
      rw (same m.fate) (
      elim (test m.fate) as (λ b. Same b) [
        | true ↦ rw (kept-filter test regions' singles' same ms) refl
        | false ↦ kept-filter test regions' singles' same ms
      ]
      )

-- What may remain: a graph that is left by some choices.
pub remains : (first : Heap) (ms : List Mark) (g : Graph) (regions singles : ℕ → Bool)
    → g ≡ graph_left first ms regions singles → MayRemain first ms g
remains first ms g regions singles e = (kept regions singles ms, (regions, singles, refl), e)

pub left_by : (first : Heap) (ms : List Mark) (g : Graph)
    → MayRemain first ms g → (regions singles : ℕ → Bool) × (g ≡ graph_left first ms regions singles)
left_by first ms g (ops, (regions, singles, are), e) =
    (regions, singles, e ∙ ap (λ xs. canon_of (heap_after first xs)) are)

-- likewise with one more operation
pub remains_with : (first : Heap) (ms : List Mark) (o : Op) (g : Graph) (regions singles : ℕ → Bool)
    → g ≡ canon_of (heap_after_op (heap_after first (kept regions singles ms)) o) → MayRemainWith first ms o g
remains_with first ms o g regions singles e = (kept regions singles ms, (regions, singles, refl), e)

pub left_with : (first : Heap) (ms : List Mark) (o : Op) (g : Graph) → MayRemainWith first ms o g
    → (regions singles : ℕ → Bool) × (g ≡ canon_of (heap_after_op (heap_after first (kept regions singles ms)) o))
left_with first ms o g (ops, (regions, singles, are), e) =
    (regions, singles, e ∙ ap (λ xs. canon_of (heap_after_op (heap_after first xs) o)) are)
