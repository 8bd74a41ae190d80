-- Marks of lines, and what they say of the words.
use Rattle.std.proofs.Common.{◌≡◌, ◌≢◌, ◌⊎◌, inl, inr, ℕ, zero, suc, ◌+◌, ◌*◌, ◌<◌, List, [], ◌∷◌, length, refl, sym, ◌∙◌, ap}
use Rattle.std.proofs.Common.{subst, arith}
use Rattle.std.proofs.lemmas.List.{get_or-set_same, get_or-set_other}
use Rattle.twin_forms.specs.Table.{View}
use Rattle.twin_forms.proofs.Led.{same_or_not}
use Rattle.convert_queue.specs.Marks.{Mark, clean, stored, written, mark_at, after_write, after_fence, with_store, with_write}
use Rattle.convert_queue.specs.Marks.{with_fence, IsStored, IsWritten}
use Rattle.convert_words.specs.Agreeing.{IsTied}
use Rattle.convert_words.specs.Steps.{Changes}

-- ---- the marks after a step

pub stored_here : (marks : List Mark) (t l : ℕ) → l < length marks → mark_at (with_store marks t l) l ≡ stored t
stored_here marks t l lt = get_or-set_same marks l (stored t) clean lt

pub stored_other : (marks : List Mark) (t l k : ℕ) → k ≢ l → mark_at (with_store marks t l) k ≡ mark_at marks k
stored_other marks t l k ne = get_or-set_other marks l k (stored t) clean ne

pub written_here : (marks : List Mark) (l : ℕ) → l < length marks → mark_at (with_write marks l) l ≡ after_write (mark_at marks l)
written_here marks l lt = get_or-set_same marks l (after_write (mark_at marks l)) clean lt

pub written_other : (marks : List Mark) (l k : ℕ) → k ≢ l → mark_at (with_write marks l) k ≡ mark_at marks k
written_other marks l k ne = get_or-set_other marks l k (after_write (mark_at marks l)) clean ne

pub fenced_at : (marks : List Mark) (l : ℕ) → mark_at (with_fence marks) l ≡ after_fence (mark_at marks l)
fenced_at [] l = refl
fenced_at (m ∷ marks) zero = refl
fenced_at (m ∷ marks) (suc l) = fenced_at marks l

-- ---- which marks are of which thread

abbrev kind : Mark → ℕ
kind clean = 0
kind (stored t) = 1
kind (written t) = 2

abbrev thread : Mark → ℕ
thread clean = 0
thread (stored t) = t
thread (written t) = t

-- a line that a thread has to write, or to fence
abbrev pub IsNoted : List Mark → ℕ → ℕ → Type 0
IsNoted marks t l = IsStored marks t l ⊎ IsWritten marks t l

pub noted_stored : (marks : List Mark) (t l : ℕ) (P : ℕ → ℕ → Type 0) → l < length marks → P t l → ((u k : ℕ) → IsNoted marks u k → P u k) →
    (u k : ℕ) → IsNoted (with_store marks t l) u k → P u k
noted_stored marks t l P lt here old u k noted = elim (same_or_not k l) [
  | inr ne ↦ old u k (elim noted [ inl s ↦ inl (sym (stored_other marks t l k ne) ∙ s) | inr w ↦ inr (sym (stored_other marks t l k ne) ∙ w) ])
  | inl eq ↦ (
      let is : mark_at (with_store marks t l) k ≡ stored t = ap (mark_at (with_store marks t l)) eq ∙ stored_here marks t l lt in
      elim noted [
        | inl s ↦ (let same : t ≡ u = ap thread (sym is ∙ s) in subst (λ x. P x k) same (subst (P t) (sym eq) here))
        | inr w ↦ absurd (let never : 1 ≡ 2 = ap kind (sym is ∙ w) in omega (arith, never))
      ])
]

was_noted : (m : Mark) (u : ℕ) → (after_write m ≡ stored u) ⊎ (after_write m ≡ written u) → (m ≡ stored u) ⊎ (m ≡ written u)
was_noted clean u (inl e) = inl e
was_noted clean u (inr e) = inr e
was_noted (stored t) u (inl e) = absurd (let never : 2 ≡ 1 = ap kind e in omega (arith, never))
was_noted (stored t) u (inr e) = inl (ap stored (let same : t ≡ u = ap thread e in same))
was_noted (written t) u (inl e) = inl e
was_noted (written t) u (inr e) = inr e

pub noted_written : (marks : List Mark) (l : ℕ) → l < length marks → (u k : ℕ) → IsNoted (with_write marks l) u k → IsNoted marks u k
noted_written marks l lt u k noted = elim (same_or_not k l) [
  | inr ne ↦ elim noted [ inl s ↦ inl (sym (written_other marks l k ne) ∙ s) | inr w ↦ inr (sym (written_other marks l k ne) ∙ w) ]
  | inl eq ↦ (
      let is : mark_at (with_write marks l) k ≡ after_write (mark_at marks k) = ap (mark_at (with_write marks l)) eq ∙ written_here marks l lt ∙ ap (λ x. after_write (mark_at marks x)) (sym eq) in
      was_noted (mark_at marks k) u (elim noted [ inl s ↦ inl (sym is ∙ s) | inr w ↦ inr (sym is ∙ w) ]))
]

was_before : (m : Mark) (u : ℕ) → (after_fence m ≡ stored u) ⊎ (after_fence m ≡ written u) → (m ≡ stored u) ⊎ (m ≡ written u)
was_before clean u x = x
was_before (stored t) u x = x
was_before (written t) u (inl e) = absurd (let never : 0 ≡ 1 = ap kind e in omega (arith, never))
was_before (written t) u (inr e) = absurd (let never : 0 ≡ 2 = ap kind e in omega (arith, never))

pub noted_fenced : (marks : List Mark) (u k : ℕ) → IsNoted (with_fence marks) u k → IsNoted marks u k
noted_fenced marks u k noted = was_before (mark_at marks k) u (elim noted [ inl s ↦ inl (sym (fenced_at marks k) ∙ s) | inr w ↦ inr (sym (fenced_at marks k) ∙ w) ])

-- ---- what marks say of words

-- A step that leaves the words of a line alone keeps what its mark says.
pub tied_kept : (Line : ℕ → Type 0) (v v' : View) (held held' : ℕ → ℕ → Type 0) (back back' : ℕ → Type 0) (kept kept' : ℕ → Type 0) (t l : ℕ) (m : Mark) →
    Changes Line v v' held held' back back' → l < v.lines → (Line l → ⊥) → ((p : ℕ) → kept' p → kept p) → IsTied v held back kept t l m → IsTied v' held' back' kept' t l m
tied_kept Line v v' held held' back back' kept kept' t l clean c lt apart keep tied = λ w x lw kp left. tied w x lw
    (keep (8 * l + w) kp) (c.leaves l w x lt lw apart left) ∙ sym (c.shown l w lt lw apart)
tied_kept Line v v' held held' back back' kept kept' t l (stored u) c lt apart keep tied = tied
tied_kept Line v v' held held' back back' kept kept' t l (written u) c lt apart keep tied = (tied.0, λ w lw kp. c.keeps l w lt lw apart (tied.1 w lw (keep (8 * l + w) kp)))

-- the line was stored to by its thread
pub tied_stored : (v : View) (held : ℕ → ℕ → Type 0) (back : ℕ → Type 0) (kept : ℕ → Type 0) (t l : ℕ) (m : Mark) → m ≡ stored t → IsTied v held back kept t l m
tied_stored v held back kept t l m eq = subst (IsTied v held back kept t l) (sym eq) refl

-- a write by the thread: the image reads what the line shows
pub tied_written : (v : View) (held : ℕ → ℕ → Type 0) (back : ℕ → Type 0) (kept : ℕ → Type 0) (t l : ℕ) (m : Mark) →
    ((w : ℕ) → w < 8 → back (8 * l + w)) → IsTied v held back kept t l m → IsTied v held back kept t l (after_write m)
tied_written v held back kept t l clean reads tied = tied
tied_written v held back kept t l (stored u) reads tied = (tied, λ w lw _. reads w lw)
tied_written v held back kept t l (written u) reads tied = tied

-- a fence: a stop leaves what the image reads
pub tied_fenced : (v : View) (held : ℕ → ℕ → Type 0) (back : ℕ → Type 0) (kept : ℕ → Type 0) (t l : ℕ) (m : Mark) →
    ((p x : ℕ) → back p → held p x → x ≡ v.shown p) → IsTied v held back kept t l m → IsTied v held back kept t l
    (after_fence m)
tied_fenced v held back kept t l clean fence tied = tied
tied_fenced v held back kept t l (stored u) fence tied = tied
tied_fenced v held back kept t l (written u) fence tied = λ w x lw kp left. fence (8 * l + w) x (tied.1 w lw kp) left

-- the thread of a mark
pub tied_thread : (v : View) (held : ℕ → ℕ → Type 0) (back : ℕ → Type 0) (kept : ℕ → Type 0) (t u l : ℕ) (m : Mark) → (m ≡ stored u) ⊎ (m ≡ written u) → IsTied v held back kept t l m → u ≡ t
tied_thread v held back kept t u l m (inl e) tied = let x : IsTied v held back kept t l (stored u) = subst (IsTied v held back kept t l) e tied in x
tied_thread v held back kept t u l m (inr e) tied = let x : IsTied v held back kept t l (written u) = subst (IsTied v held back kept t l) e tied in x.0
