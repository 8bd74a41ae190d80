-- How the lines of copies stand to their image: what a store, a write-back and a fence make of that.
use Rattle.std.specs.Prelude.{◌≡◌, ℕ, List, map, slice_index_or, slice_set}

-- clean: nothing was stored to the line since a write of it that a fence followed.
-- stored t: thread t has stored to it since it was last written. written t: t has written it since, and no fence followed.
pub data Mark : Type 0 where
  clean : Mark
  stored : ℕ → Mark
  written : ℕ → Mark

abbrev pub mark_at : List Mark → ℕ → Mark
mark_at marks l = slice_index_or marks l clean

-- no other thread has stored to it without having written and fenced it
abbrev pub MayNote : ℕ → Mark → Type 0
MayNote t clean = Unit {0}
MayNote t (stored u) = u ≡ t
MayNote t (written u) = u ≡ t

abbrev pub after_write : Mark → Mark
after_write clean = clean
after_write (stored t) = written t
after_write (written t) = written t

abbrev pub after_fence : Mark → Mark
after_fence clean = clean
after_fence (stored t) = stored t
after_fence (written t) = clean

-- the marks once a thread has stored to a line, once a line was written, and after a fence
abbrev pub with_store : List Mark → ℕ → ℕ → List Mark
with_store marks t l = slice_set marks l (stored t)

abbrev pub with_write : List Mark → ℕ → List Mark
with_write marks l = slice_set marks l (after_write (mark_at marks l))

abbrev pub with_fence : List Mark → List Mark
with_fence marks = map after_fence marks

-- the line was stored to by the thread since its last write
abbrev pub IsStored : List Mark → ℕ → ℕ → Type 0
IsStored marks t l = mark_at marks l ≡ stored t

abbrev pub IsWritten : List Mark → ℕ → ℕ → Type 0
IsWritten marks t l = mark_at marks l ≡ written t

-- each line that the thread has stored to was written after its last store, and then fenced
pub record IsClean (marks : List Mark) (t : ℕ) : Type 0 where
  pub written : (l : ℕ) → IsStored marks t l → ⊥
  pub fenced : (l : ℕ) → IsWritten marks t l → ⊥
