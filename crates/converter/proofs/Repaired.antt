-- References of lines that are repaired.
use Rattle.std.proofs.Common.{◌≡◌, ◌≢◌, inl, inr, ℕ, ◌+◌, ◌*◌, ◌%◌, ◌<◌, ◌≤◌, List, length, refl, sym, ◌∙◌, subst, arith}
use Rattle.std.specs.Prelude.{Option, Some, None, IfSome, IsNone}
use Rattle.std.proofs.lemmas.Bool.{false≢true}
use Rattle.volatile_space.specs.Spaces.{Space}
use Rattle.line_memory.specs.Memory.{Memory, shown}
use Rattle.twin_forms.specs.Table.{Entry, entry, Names, word_of, IsClaimed}
use Rattle.twin_forms.specs.Sights.{Marks, sight, view_of, held_of, written_of}
use Rattle.twin_forms.proofs.Led.{word_moved}
use Rattle.twin_heap.proofs.Reading.{spot_is}
use Rattle.convert_words.specs.Scenes.{Scene, IsKey, AgreesAt}
use Rattle.convert_words.specs.Converting.{Lacks}
use Rattle.convert_words.proofs.Noting.{own_forwarded}
use Rattle.converter.specs.Looking.{Refers, IsMoved, LacksNone}
use Rattle.converter.specs.Working.{IsToRepair}
use Rattle.converter.proofs.Placed.{Holds}
use Rattle.converter.proofs.Doing.{repairs_here}

pub even_not_behind : (e : Entry) (w : ℕ) → w % 2 ≡ 0 → Names e w → e.stage ≢ 1
even_not_behind e w even (inl x) one = let y = x.1 in omega (arith, y, even)
even_not_behind e w even (inr x) one = let y = x.0 in omega (arith, y, one)

pub some_by : {A : Type 0} (o : Option A) (P : A → Type 0) → ((u : A) → o ≡ Some u → P u) → IfSome o P
some_by None P f = tt
some_by (Some u) P f = f u refl

pub some_on : {A : Type 0} (o : Option A) (P Q : A → Type 0) → IfSome o P → ((u : A) → P u → Q u) → IfSome o Q
some_on None P Q p f = tt
some_on (Some u) P Q p f = f u p

pub none_not : {A : Type 0} (o : Option A) (u : A) → IsNone o → o ≡ Some u → ⊥
none_not o u none eq = false≢true (sym (subst IsNone eq none))

-- the word of a slot in the copy
pub moved_word : (s : Space) (m : Memory) (marks : Marks) (object line k : ℕ) (es : List Entry) (n : ℕ) → IsMoved
    (sight s m marks) object line k es n → word_of (sight s m marks) (entry es n) k ≡ shown m line ((k + 1) % 8)
moved_word s m marks object line k es n x =
    let two = x.moved in
    let here = x.here in
    word_moved (sight s m marks) (entry es n) k (omega (arith, two)) ∙ spot_is m (8 * (entry es n).line + 1 + k) line ((k + 1) % 8) (omega (arith, here)) (omega arith)

-- the slots of the line that is repaired
pub moved_here : (s : Scene) (es : List Entry) (t object first c from to : ℕ) → AgreesAt s es →
    (w : IsToRepair s es t object first c) → Holds c (entry es w.n).slots from to → (k : ℕ) → from ≤ k → k < to →
    IsMoved (view_of s.heap) object (first + c) k es w.n
moved_here s es t object first c from to a w holds k lo hi =
    let h = holds.here k lo hi in
    let line = w.line in
    let at = h.1 in
    record {
      lies = a.lies;
      there = w.is.claimed.0;
      at = w.at;
      moved = own_forwarded (view_of s.heap) (held_of s.heap.memory) (written_of s.heap.memory) s.queue s.free (IsKey s.keys) es t w.n a w.phase w.is.claimed;
      slot = h.0;
      here = omega (arith, line, at);
    }

pub lacks_here : (s : Scene) (es : List Entry) (t object first c from to u k m : ℕ) → AgreesAt s es →
    (w : IsToRepair s es t object first c) → Holds c (entry es w.n).slots from to → from ≤ k → k < to →
    Refers (view_of s.heap) es w.n k m → IsClaimed es u m → (entry es m).stage < 2 → Lacks s es t u
lacks_here s es t object first c from to u k m a w holds lo hi r claimed low =
    let h = holds.here k lo hi in
    let two = own_forwarded (view_of s.heap) (held_of s.heap.memory) (written_of s.heap.memory) s.queue s.free (IsKey s.keys) es t w.n a w.phase w.is.claimed in
    let placed = (a.queued.all u m claimed).1.placed in
    record {
      phase = w.phase;
      n = w.n;
      k = k;
      m = m;
      is = w.is;
      refers_to = record { claimed = w.is.claimed; slot = h.0; reference = r.reference; kept = refl; copied = inl (omega (arith, two)); there = r.there; leads = r.names };
      here = h.1 ∙ sym w.here;
      claimed = claimed;
      behind = omega (arith, placed, low);
    }

pub lacks_none : (s : Scene) (es : List Entry) (t object first c from to : ℕ) → AgreesAt s es → (w : IsToRepair s es t object first c) → Holds c (entry es w.n).slots from to →
    ((k : ℕ) → from ≤ k → k < to → (n m : ℕ) → IsMoved (view_of s.heap) object (first + c) k es n → Refers (view_of s.heap) es n k m → (entry es m).stage ≢ 1) →
    ((n : ℕ) → n < length es → (entry es n).at ≡ object → (entry es n).stage ≡ 2 → n ≡ w.n) → LacksNone (view_of s.heap) object c es
lacks_none s es t object first c from to a w holds not_behind one = λ n k m ln at two lk here r.
    let same = one n ln at two in
    let b = holds.back k (subst (λ x. k < (entry es x).slots) same lk) here in
    let line = repairs_here s es t object first c a w es n a.lies ln at two in
    not_behind k b.0 b.1 n m (record { lies = a.lies; there = ln; at = at; moved = two; slot = lk; here = omega (arith, line, here) }) r
