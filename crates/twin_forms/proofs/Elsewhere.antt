-- One object lies otherwise than before, and the heap shows the same.
use Rattle.std.proofs.Common.{◌≡◌, ◌≢◌, ◌⊎◌, inl, inr, ℕ, ◌+◌, ◌*◌, ◌/◌, ◌<◌, ◌≤◌, ◌==◌, Bool, true, false, List, length, refl}
use Rattle.std.proofs.Common.{sym, ◌∙◌, ap, subst, arith, length-set}
use Rattle.std.specs.Prelude.{slice_set}
use Rattle.std.proofs.lemmas.Grind.{common_steps}
use Rattle.std.proofs.lemmas.List.{get_or-set_same, get_or-set_other}
use Rattle.std.specs.Prelude.{◌^◌}
use Rattle.twin_forms.specs.Table.{Entry, no_entry, entry, View, word_of, Names, IsRef, refers, number_of, Plain, Null, Obj}
use Rattle.twin_forms.specs.Table.{value_of, shows, Apart, Table, Sits, Lies}
use Rattle.twin_forms.specs.Moves.{Moved}
use Rattle.twin_forms.proofs.Led.{same_or_not, number_is}
use Rattle.twin_forms.proofs.Frames.{Agree, SameSizes, refers_same, table_same, word_agree, sits_agree}

-- the object is still led to by what led to it
pub record Later (e e' : Entry) : Type 0 where
  pub slots : e'.slots ≡ e.slots
  pub shape : e'.shape ≡ e.shape
  pub at : e'.at ≡ e.at
  pub old : e.stage < 3 → e'.stage < 3
  pub copy : 1 < e.stage → (1 < e'.stage) × (e'.line ≡ e.line)

pub still : (e : Entry) → Later e e
still e = record { slots = refl; shape = refl; at = refl; old = λ s. s; copy = λ s. (s, refl) }

born_there : {e e' : Entry} → e.stage ≤ 3 → Later e e' → e'.stage ≡ 3 → e.stage ≡ 3
born_there {e} {e'} le l s = elim (same_or_not e.stage 3) [ inl x ↦ x | inr ne ↦ (let y = l.old (omega (arith, le, ne)) in absurd (omega (arith, y, s))) ]

names_later : (e e' : Entry) (w : ℕ) → Later e e' → Names e w → Names e' w
names_later e e' w l (inl s) = inl (l.old s.0, omega (arith, s.1, l.at))
names_later e e' w l (inr s) = let c = l.copy s.0 in inr (c.0, omega (arith, s.1, c.1), s.2)

pub entry_here : (es : List Entry) (n : ℕ) (e : Entry) → n < length es → entry (slice_set es n e) n ≡ e
entry_here es n e lt = get_or-set_same es n e no_entry lt

pub entry_other : (es : List Entry) (n m : ℕ) (e : Entry) → m ≢ n → entry (slice_set es n e) m ≡ entry es m
entry_other es n m e ne = get_or-set_other es n m e no_entry ne

by_entry : (P : ℕ → Entry → Type 0) (es : List Entry) (n : ℕ) (e : Entry) → n < length es → P n e →
    ((m : ℕ) → m ≢ n → m < length es → P m (entry es m)) → (m : ℕ) → m < length (slice_set es n e) → P m
    (entry (slice_set es n e) m)
by_entry P es n e lt here other m lm = elim (same_or_not m n) [
  | inl eq ↦ subst (λ x. P x (entry (slice_set es n e) x)) (sym eq) (subst (P n) (sym (entry_here es n e lt)) here)
  | inr ne ↦ subst (P m) (sym (entry_other es n m e ne)) (other m ne (subst (λ x. m < x) (length-set es n e) lm))
]

flip : (a m b n : ℕ) → Apart a m b n → Apart b n a m
flip a m b n (inl x) = inr x
flip a m b n (inr x) = inl x

-- what is asked of where the object lies now
pub record Fits (words lines : ℕ) (es : List Entry) (n : ℕ) (e' : Entry) : Type 0 where
  pub stage : e'.stage ≤ 3
  pub owner : e'.owner ≤ 64
  pub copying : e'.stage ≡ 1 → 0 < e'.owner
  pub born : e'.stage ≡ 3 → e'.owner ≡ 0
  pub old : e'.stage < 3 → (entry es n).stage < 3
  pub copy_in : 0 < e'.stage → (0 < e'.line) × (e'.line + e'.slots / 8 + 1 ≤ lines)
  pub apart : (m : ℕ) → m ≢ n → m < length es → 0 < (entry es m).stage → 0 < e'.stage → Apart e'.line (e'.slots / 8 + 1) (entry es m).line ((entry es m).slots / 8 + 1)

pub table_set : (words lines shapes : ℕ) (es : List Entry) (n : ℕ) (e' : Entry) → n < length es → Later (entry es n) e' →
    Fits words lines es n e' → Table words lines shapes es → Table words lines shapes (slice_set es n e')
table_set words lines shapes es n e' lt l f t = record {
  few_words = t.few_words;
  few_lines = t.few_lines;
  few_shapes = t.few_shapes;
  stages = by_entry (λ m e. e.stage ≤ 3) es n e' lt f.stage (λ m _ lm. t.stages m lm);
  owners = by_entry (λ m e. e.owner ≤ 64) es n e' lt f.owner (λ m _ lm. t.owners m lm);
  copying = by_entry (λ m e. e.stage ≡ 1 → 0 < e.owner) es n e' lt f.copying (λ m _ lm. t.copying m lm);
  born = by_entry (λ m e. e.stage ≡ 3 → e.owner ≡ 0) es n e' lt f.born (λ m _ lm. t.born m lm);
  shape_in = by_entry (λ m e. e.shape < shapes) es n e' lt (subst (λ x. x < shapes) (sym l.shape) (t.shape_in n lt)) (λ m _ lm. t.shape_in m lm);
  few_slots = by_entry (λ m e. e.slots < 2 ^ 31) es n e' lt (subst (λ x. x < 2 ^ 31) (sym l.slots) (t.few_slots n lt)) (λ m _ lm. t.few_slots m lm);
  old_in = by_entry (λ m e. e.stage < 3 → e.at + 3 + e.slots ≤ words) es n e' lt (λ s. let o = t.old_in n lt (f.old s) in omega (arith, o, l.at, l.slots)) (λ m _ lm. t.old_in m lm);
  copy_in = by_entry (λ m e. 0 < e.stage → (0 < e.line) × (e.line + e.slots / 8 + 1 ≤ lines)) es n e' lt f.copy_in (λ m _ lm. t.copy_in m lm);
  old_apart = λ a b la lb. by_entry
      (λ a x. a ≢ b → x.stage < 3 → (entry (slice_set es n e') b).stage < 3 → Apart x.at (x.slots + 3)
      (entry (slice_set es n e') b).at ((entry (slice_set es n e') b).slots + 3)) es n e' lt
      (by_entry (λ b y. n ≢ b → e'.stage < 3 → y.stage < 3 → Apart e'.at (e'.slots + 3) y.at (y.slots + 3)) es n e' lt
      (λ bad. absurd (bad refl))
      (λ b ne lb d s r. let o = t.old_apart n b lt lb d (f.old s) r in subst
      (λ x. Apart x (e'.slots + 3) (entry es b).at ((entry es b).slots + 3)) (sym l.at)
      (subst (λ x. Apart (entry es n).at (x + 3) (entry es b).at ((entry es b).slots + 3)) (sym l.slots) o)) b lb)
      (λ a na la. by_entry (λ b y. a ≢ b → (entry es a).stage < 3 → y.stage < 3 → Apart (entry es a).at ((entry es a).slots + 3) y.at (y.slots + 3)) es n e' lt
      (λ d s r. let o = t.old_apart a n la lt d s (f.old r) in subst
      (λ x. Apart (entry es a).at ((entry es a).slots + 3) x (e'.slots + 3)) (sym l.at)
      (subst (λ x. Apart (entry es a).at ((entry es a).slots + 3) (entry es n).at (x + 3)) (sym l.slots) o))
      (λ b nb lb. t.old_apart a b la lb) b lb)
      a la;
  copy_apart = λ a b la lb. by_entry
      (λ a x. a ≢ b → 0 < x.stage → 0 < (entry (slice_set es n e') b).stage → Apart x.line (x.slots / 8 + 1)
      (entry (slice_set es n e') b).line ((entry (slice_set es n e') b).slots / 8 + 1)) es n e' lt
      (by_entry (λ b y. n ≢ b → 0 < e'.stage → 0 < y.stage → Apart e'.line (e'.slots / 8 + 1) y.line (y.slots / 8 + 1)) es n e' lt
      (λ bad. absurd (bad refl))
      (λ b ne lb d s r. f.apart b ne lb r s) b lb)
      (λ a na la. by_entry (λ b y. a ≢ b → 0 < (entry es a).stage → 0 < y.stage → Apart (entry es a).line ((entry es a).slots / 8 + 1) y.line (y.slots / 8 + 1)) es n e' lt
      (λ d s r. flip e'.line (e'.slots / 8 + 1) (entry es a).line ((entry es a).slots / 8 + 1) (f.apart a na la s r))
      (λ b nb lb. t.copy_apart a b la lb) b lb)
      a la;
}

-- the two words lead to one object, or are the same
pub data Means (es es' : List Entry) (refs : Bool) (w w' : ℕ) : Type 0 where
  as_was : w' ≡ w → Means es es' refs w w'
  led : refs ≡ true → (m : ℕ) → m < length es → Names (entry es m) w → Names (entry es' m) w' → Means es es' refs w w'

AllLater : List Entry → List Entry → Type 0
AllLater es es' = (m : ℕ) → m < length es → Later (entry es m) (entry es' m)

pub positive : (e : Entry) (w : ℕ) → Names e w → 0 < w
positive e w (inl s) = omega (arith, s.1)
positive e w (inr s) = s.2

pub value_obj : (v : View) (r : Bool) (w : ℕ) → r ≡ true → 0 < w → value_of v r w ≡ Obj (number_of v w)
value_obj v r w e p = let q : (w == 0) ≡ false = grind (arith, common_steps) in rw (e, q) refl

pub value_null : (v : View) (r : Bool) (w : ℕ) → r ≡ true → w ≡ 0 → value_of v r w ≡ Null
value_null v r w e p = rw (e, p) refl

pub value_plain : (v : View) (r : Bool) (w : ℕ) → r ≡ false → value_of v r w ≡ Plain w
value_plain v r w e = rw e refl

either : (b : Bool) → (b ≡ false) ⊎ (b ≡ true)
either false = inl refl
either true = inr refl

pub value_same : (v v' : View) (es es' : List Entry) (r : Bool) (w w' : ℕ) → Lies v es → Lies v' es' → length es ≤ length
    es' → ((m x : ℕ) → m < length es → Names (entry es m) x → Names (entry es' m) x) → (r ≡ true → IsRef es w) → Means es
    es' r w w' → value_of v' r w' ≡ value_of v r w
value_same v v' es es' r w w' h h' long mono ref (led one m lm a b) =
    value_obj v' r w' one (positive (entry es' m) w' b) ∙ ap Obj
    (number_is v' es' m w' h' (omega (arith, long)) b ∙ sym (number_is v es m w h lm a)) ∙ sym
    (value_obj v r w one (positive (entry es m) w a))
value_same v v' es es' r w w' h h' long mono ref (as_was e) = elim (either r) [
  | inl z ↦ value_plain v' r w' z ∙ ap Plain e ∙ sym (value_plain v r w z)
  | inr one ↦ (elim (ref one) [
    | inl n ↦ value_null v' r w' one (e ∙ n) ∙ sym (value_null v r w one n)
    | inr x ↦ ap (value_of v' r) e ∙ value_obj v' r w one (positive (entry es x.0) w x.2) ∙ ap Obj
        (number_is v' es' x.0 w h' (omega (arith, long, x.1)) (mono x.0 w x.1 x.2) ∙ sym (number_is v es x.0 w h x.1 x.2))
        ∙ sym (value_obj v r w one (positive (entry es x.0) w x.2))
  ])
]

pub moved : (v v' : View) (es : List Entry) (n : ℕ) (e' : Entry) → Lies v es → n < length es → Later (entry es n) e' → Fits v.words v.lines es n e' → SameSizes v v' →
    ((m : ℕ) → m < length es → m ≢ n → Agree v v' (entry es m)) → Sits v' n e' →
    ((k : ℕ) → k < (entry es n).slots → Means es (slice_set es n e') (refers v (entry es n) k) (word_of v (entry es n) k) (word_of v' e' k)) → Moved v es v' (slice_set es n e')
moved v v' es n e' h lt later fits sizes others mine means =
    let es' = slice_set es n e' in
    let long : length es' ≡ length es = length-set es n e' in
    let kind_later : (k : ℕ) → refers v' e' k ≡ refers v (entry es n) k = λ k. refers_same v v' e' k sizes ∙ ap (λ s. refers v (record e' { shape = s }) k) later.shape in
    let mono : (m x : ℕ) → m < length es → Names (entry es m) x → Names (entry es' m) x =
    λ m x lm a. elim (same_or_not m n) [
      | inl eq ↦ subst (λ y. Names (entry es' y) x) (sym eq) (subst (λ y. Names y x) (sym (entry_here es n e' lt)) (names_later (entry es n) e' x later (subst (λ y. Names (entry es y) x) eq a)))
      | inr ne ↦ subst (λ y. Names y x) (sym (entry_other es n m e' ne)) a
    ] in
    let ref_on : (w : ℕ) → IsRef es w → IsRef es' w =
    λ w r. elim r [ inl z ↦ inl z | inr x ↦ inr (x.0, omega (arith, long, x.1), mono x.0 w x.1 x.2) ] in
    let ref_means : (r : Bool) (w w' : ℕ) → IsRef es w → Means es es' r w w' → IsRef es' w' =
    λ r w w' i m. elim m [ as_was e ↦ subst (IsRef es') (sym e) (ref_on w i) | led _ m lm a b ↦ inr (m, omega (arith, long), b) ] in
    let lies : Lies v' es' = record {
      long = long ∙ h.long ∙ sym sizes.count;
      marked = sizes.marks ∙ h.marked ∙ sym sizes.lines;
      few = subst (λ x. x + v'.room < 2 ^ 32) (sym sizes.count) (subst (λ x. v.count + x < 2 ^ 32) (sym sizes.room) h.few);
      roomy = subst (λ x. x < 3 * v'.room + 3) (sym sizes.left) (subst (λ x. v.left < 3 * x + 3) (sym sizes.room) h.roomy);
      births = record {
        old = λ m lm. by_entry (λ m e. e.stage < 3 → v'.birth m ≡ 2 * e.at + 1) es n e' lt
            (λ s. let b = h.births.old n lt (fits.old s) in sizes.birth n ∙ b ∙ ap (λ a. 2 * a + 1) (sym later.at))
            (λ m _ lm s. sizes.birth m ∙ h.births.old m lm s) m lm;
        copy = λ m lm. by_entry (λ m e. e.stage ≡ 3 → v'.birth m ≡ 2 * e.line) es n e' lt
            (λ s. let three : (entry es n).stage ≡ 3 = born_there (h.table.stages n lt) later s in sizes.birth n ∙
            h.births.copy n lt three ∙ ap (λ l. 2 * l) (sym (later.copy (omega (arith, three))).1))
            (λ m _ lm s. sizes.birth m ∙ h.births.copy m lm s) m lm;
      };
      table = table_same v v' es' sizes (table_set v.words v.lines v.shapes es n e' lt later fits h.table);
      sits = by_entry (λ m e. Sits v' m e) es n e' lt mine (λ m ne lm. sits_agree v v' m (entry es m) (others m lm ne) (h.sits m lm));
      refs = λ m k lm. by_entry (λ m e. refers v' e k ≡ true → k < e.slots → IsRef es' (word_of v' e k)) es n e' lt
          (λ r lk. let r1 : refers v (entry es n) k ≡ true = sym (kind_later k) ∙ r in let lk1 : k < (entry es n).slots = omega (arith, lk, later.slots) in
          ref_means (refers v (entry es n) k) (word_of v (entry es n) k) (word_of v' e' k) (h.refs n k lt r1 lk1) (means k lk1))
          (λ m ne lm r lk. subst (IsRef es') (sym (word_agree v v' (entry es m) k (others m lm ne) lk))
          (ref_on (word_of v (entry es m) k) (h.refs m k lm (sym (refers_same v v' (entry es m) k sizes) ∙ r) lk))) m
          lm;
    } in
    record {
      lies = lies;
      same = record {
        long = long;
        led = λ m x lm a. mono m x lm a;
        kept = sizes.kept;
        shapes = λ m lm. elim (same_or_not m n) [
          | inl eq ↦ subst (λ y. (entry es' y).shape ≡ (entry es y).shape) (sym eq) (ap (λ e. e.shape) (entry_here es n e' lt) ∙ later.shape)
          | inr ne ↦ ap (λ e. e.shape) (entry_other es n m e' ne)
        ];
        slots = λ m lm. elim (same_or_not m n) [
          | inl eq ↦ subst (λ y. (entry es' y).slots ≡ (entry es y).slots) (sym eq) (ap (λ e. e.slots) (entry_here es n e' lt) ∙ later.slots)
          | inr ne ↦ ap (λ e. e.slots) (entry_other es n m e' ne)
        ];
        same = λ m k lm lk. elim (same_or_not m n) [
          | inl eq ↦ subst (λ y. k < (entry es y).slots → shows v' es' y k ≡ shows v es y k) (sym eq)
              (λ lk1. subst (λ e. value_of v' (refers v' e k) (word_of v' e k) ≡ shows v es n k) (sym (entry_here es n e' lt))
              (ap (λ r. value_of v' r (word_of v' e' k)) (kind_later k) ∙
              value_same v v' es es' (refers v (entry es n) k) (word_of v (entry es n) k) (word_of v' e' k) h lies (omega (arith, long)) mono (λ r. h.refs n k lt r lk1) (means k lk1))) lk
          | inr ne ↦ subst (λ e. value_of v' (refers v' e k) (word_of v' e k) ≡ shows v es m k) (sym (entry_other es n m e' ne))
              (ap (λ r. value_of v' r (word_of v' (entry es m) k)) (refers_same v v' (entry es m) k sizes) ∙
              value_same v v' es es' (refers v (entry es m) k) (word_of v (entry es m) k) (word_of v' (entry es m) k) h
              lies (omega (arith, long)) mono (λ r. h.refs m k lm r lk)
              (as_was (word_agree v v' (entry es m) k (others m lm ne) lk)))
        ];
      };
    }
