-- Calls of the image and stores beside the heap move no object.
use Rattle.std.proofs.Common.{◌≡◌, inl, inr, ℕ, ◌+◌, ◌*◌, ◌/◌, ◌%◌, ◌<◌, List, length, refl, ap, arith}
use Rattle.std.specs.Prelude.{slice_index}
use Rattle.line_memory.specs.Memory.{shown}
use Rattle.twin_forms.specs.Sights.{Twin, Marks, view_of}
use Rattle.twin_forms.specs.Table.{Entry, entry}
use Rattle.twin_forms.proofs.Frames.{Agree, SameSizes}
use Rattle.twin_forms.proofs.Quiet.{same_heap}
use Rattle.two_spaces.specs.Seen.{Spaces, shown_of}
use Rattle.two_spaces.specs.Moving.{IsMove}
use Rattle.two_spaces.specs.Quiet.{IsQuiet, IsImageCall, QuietMovesNone, QuietLeavesWhole, QuietShowsTheSame, QuietKeepsKeys}
use Rattle.two_spaces.specs.Quiet.{QuietShowsSameWorld, QuietKeepsMonitors, ImageCallsAreQuiet, StoresBesideAreQuiet}
use Rattle.two_spaces.proofs.Moved.{keys, monitors_stay, same_world, shows, whole}
use Rattle.two_spaces.proofs.Keeping.{kinds_same}

module _ (s : Spaces) (t' : Twin) (es : List Entry) (q : IsQuiet s t' es) where
  sizes : SameSizes (view_of s.twin) (view_of t')
  sizes = record {
    words = ap (λ space. length space.words) q.space;
    left = ap (λ space. space.left) q.space;
    lines = q.size;
    marks = ap (λ (m : Marks). length m.numbers) q.marks;
    birth = λ n. ap (λ (m : Marks). slice_index m.births n) q.marks;
    count = ap (λ (m : Marks). length m.births) q.marks;
    shapes = ap (λ (m : Marks). length m.kinds) q.marks;
    room = ap (λ (m : Marks). m.room) q.marks;
    kinds = kinds_same s.twin t' (ap (λ (m : Marks). m.kinds) q.marks);
    kept = refl;
  }

  agrees : (n : ℕ) → n < length es → Agree (view_of s.twin) (view_of t') (entry es n)
  agrees n ln = record {
    old = λ _ j _. ap (λ space. slice_index space.words ((entry es n).at + j)) q.space;
    shown = λ placed j lj.
        q.lines n ((8 * (entry es n).line + j) / 8) ((8 * (entry es n).line + j) % 8) ln placed (omega arith)
        (omega (arith, lj));
    number = λ _. ap (λ (m : Marks). slice_index m.numbers (entry es n).line) q.marks;
    copied = λ _. ap (λ (m : Marks). slice_index m.copies (entry es n).line) q.marks;
    owner = λ _. ap (λ (m : Marks). slice_index m.owners (entry es n).line) q.marks;
  }

  moves_none : IsMove s t' es es
  moves_none = record {
    stands = q.stands;
    moved = same_heap (view_of s.twin) (view_of t') es q.stands.lies sizes agrees;
    kinds = ap (λ (m : Marks). m.kinds) q.marks;
    left = ap (λ space. space.left) q.space;
    spares = q.roots;
    behind = q.stands.behind;
  }

pub quiet_moves : QuietMovesNone
quiet_moves s t' es q = moves_none s t' es q

pub quiet_whole : QuietLeavesWhole
quiet_whole s t' es q = whole s t' es es (moves_none s t' es q)

pub quiet_shows : QuietShowsTheSame
quiet_shows s t' es q = shows s t' es es (moves_none s t' es q)

pub quiet_keys : QuietKeepsKeys
quiet_keys s t' es q = keys s t' es es (moves_none s t' es q) (λ _ _. refl)

pub quiet_world : QuietShowsSameWorld
quiet_world s t' es q rest roots known =
    same_world (shown_of s) (shown_of (record s { twin = t' })) rest roots (quiet_shows s t' es q) known

pub quiet_monitors : QuietKeepsMonitors
quiet_monitors s t' es q rest known =
    monitors_stay (shown_of s) (shown_of (record s { twin = t' })) rest (quiet_shows s t' es q).keeps
    (quiet_keys s t' es q) known

-- ---- what is quiet

-- a line of the memory shows what it showed
still : (s : Spaces) (t' : Twin) → IsImageCall s t' → (l w : ℕ) → l < s.twin.memory.size
    → shown t'.memory l w ≡ shown s.twin.memory l w
still s t' c l w lt =
    let size = c.keeps.size in c.keeps.shows l w (c.known l lt) (c.known_after l (omega (arith, lt, size)))

pub calls_quiet : ImageCallsAreQuiet
calls_quiet s t' es h c = record {
  stands = h;
  space = c.space;
  marks = c.marks;
  size = c.keeps.size;
  roots = λ slot lt.
      let long = c.long in still s t' c ((8 + slot) / 8) ((8 + slot) % 8) (omega (arith, lt, long));
  lines = λ n l w ln placed from below.
      let within = (h.lies.table.copy_in n ln placed).1 in still s t' c l w (omega (arith, below, within));
}

pub stores_quiet : StoresBesideAreQuiet
stores_quiet s t' es line h b = record {
  stands = h;
  space = b.space;
  marks = b.marks;
  size = b.changes.size;
  roots = λ slot lt.
      let far = b.behind in
      b.changes.others ((8 + slot) / 8) ((8 + slot) % 8) (λ eq. absurd (omega (arith, eq, far, lt)));
  lines = λ n l w ln placed from below. b.changes.others l w (λ eq. elim (b.apart n ln placed) [
    | inl under ↦ absurd (omega (arith, eq, from, under))
    | inr over ↦ absurd (omega (arith, eq, below, over))
  ]);
}
