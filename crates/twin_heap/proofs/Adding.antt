-- A new object lies behind the words that were taken.
use Rattle.std.proofs.Common.{◌≡◌, ◌≢◌, inl, inr, ℕ, ◌+◌, ◌-◌, ◌*◌, ◌/◌, ◌<◌, ◌≤◌, ◌^◌, Bool, true, List, [], ◌∷◌, ◌++◌, length}
use Rattle.std.proofs.Common.{refl, sym, ◌∙◌, ap, subst, arith, length-set, length-append}
use Rattle.std.specs.Prelude.{slice_index, slice_set, replicate, Option, Some, IsNone, if◌then◌else◌}
use Rattle.std.proofs.Math.ListN.{get_or-append}
use Rattle.std.proofs.Math.Seq.{get_or-append_seam}
use Rattle.std.proofs.lemmas.List.{get_or-append_right, get_or-replicate, get_or_past, length-replicate}
use Rattle.image_layout.specs.Places.{head_of}
use Rattle.volatile_space.specs.Spaces.{Space}
use Rattle.line_memory.specs.Memory.{Memory}
use Rattle.twin_forms.specs.Table.{Entry, no_entry, entry, Lies, Sits, Apart, Names, IsRef, refers, word_of, value_of, shows}
use Rattle.twin_forms.specs.Moves.{Added, fresh}
use Rattle.twin_forms.specs.Sights.{Marks, sight}
use Rattle.twin_forms.proofs.Led.{below_or_not, word_young}
use Rattle.twin_forms.proofs.Frames.{Agree, sits_agree, word_agree}
use Rattle.twin_forms.proofs.Elsewhere.{value_same, as_was}
use Rattle.twin_heap.proofs.Storing.{put}

pub zero_at : (n i : ℕ) → slice_index (replicate n 0) i ≡ 0
zero_at n i = elim (below_or_not i n) [ inl lt ↦ get_or-replicate n i 0 0 lt | inr ge ↦ get_or_past (replicate n 0) i 0 (subst (λ x. x ≤ i) (sym (length-replicate n 0)) ge) ]

-- zeros behind a list add nothing that is read
pub zeros_behind : (l : List ℕ) (n q : ℕ) → slice_index (l ++ replicate n 0) q ≡ slice_index l q
zeros_behind l n q = elim (below_or_not q (length l)) [
  | inl lt ↦ get_or-append l (replicate n 0) 0 q lt
  | inr ge ↦ get_or-append_right l (replicate n 0) (length l) q 0 refl ge ∙ zero_at n (q - length l) ∙ sym (get_or_past l q 0 ge)
]

pub by_new : (P : ℕ → Entry → Type 0) (es : List Entry) (e : Entry) → P (length es) e →
    ((m : ℕ) → m < length es → P m (entry es m)) → (m : ℕ) → m < length (es ++ e ∷ []) → P m (entry (es ++ e ∷ []) m)
by_new P es e new old m lm = elim (below_or_not m (length es)) [
  | inl lt ↦ subst (P m) (sym (get_or-append es (e ∷ []) no_entry m lt)) (old m lt)
  | inr ge ↦ (let long : length (es ++ e ∷ []) ≡ length es + 1 = length-append es (e ∷ []) in
      let eq : m ≡ length es = omega (arith, ge, lm, long) in
      subst (λ x. P x (entry (es ++ e ∷ []) x)) (sym eq) (subst (P (length es)) (sym (get_or-append_seam es e [] no_entry)) new))
]

pub adds_is : (s s' : Space) (m : Memory) (k : Marks) (es : List Entry) (shape slots head number : ℕ) → Lies (sight s m k)
    es → shape < length k.kinds → slots < 2 ^ 31 → length s.words + (3 + slots) < 2 ^ 32 →
    s'.words ≡ slice_set (slice_set (s.words ++ replicate (3 + slots) 0) (length s.words + 1) head) (length s.words + 2) number → s'.left ≡ s.left - (3 + slots) → 3 + slots ≤ s.left →
    head ≡ head_of shape slots → number ≡ length k.births →
    Added shape slots (sight s m k) es (sight s' m (record k { births = k.births ++ (2 * length s.words + 1) ∷ []; room = k.room - 1 }))
adds_is s s' m k es shape slots head number h in_shapes few_slots few words left fits heads numbers =
    let at = length s.words in
    let k' : Marks = record k { births = k.births ++ (2 * length s.words + 1) ∷ []; room = k.room - 1 } in
    let v = sight s m k in
    let v' = sight s' m k' in
    let e = fresh shape slots (length s.words) in
    let es' = es ++ e ∷ [] in
    let l1 = s.words ++ replicate (3 + slots) 0 in
    let l2 = slice_set l1 (length s.words + 1) head in
    let long1 : length l1 ≡ length s.words + (3 + slots) = length-append s.words (replicate (3 + slots) 0) ∙ ap (λ x. length s.words + x) (length-replicate (3 + slots) 0) in
    let long2 : length l2 ≡ length s.words + (3 + slots) = length-set l1 (length s.words + 1) head ∙ long1 in
    let all : length s'.words ≡ length s.words + (3 + slots) = ap length words ∙ length-set l2 (length s.words + 2) number ∙ long2 in
    let p1 = put l1 (length s.words + 1) head (omega (arith, long1)) in
    let p2 = put l2 (length s.words + 2) number (omega (arith, long2)) in
    let to : (q : ℕ) → slice_index s'.words q ≡ slice_index (slice_set l2 (length s.words + 2) number) q = λ q. ap (λ (l : List ℕ). slice_index l q) words in
    let same : (q : ℕ) → q ≢ length s.words + 1 → q ≢ length s.words + 2 → slice_index s'.words q ≡ slice_index s.words q =
    λ q a b. to q ∙ p2.same q b ∙ p1.same q a ∙ zeros_behind s.words (3 + slots) q in
    let head_there : slice_index s'.words (length s.words + 1) ≡ head = to (length s.words + 1) ∙ p2.same (length s.words + 1) (λ x. omega (arith, x)) ∙ p1.here in
    let number_there : slice_index s'.words (length s.words + 2) ≡ number = to (length s.words + 2) ∙ p2.here in
    let zero_there : (q : ℕ) → length s.words ≤ q → q ≢ length s.words + 1 → q ≢ length s.words + 2 → slice_index s'.words q ≡ 0 = λ q ge a b. same q a b ∙ get_or_past s.words q 0 ge in
    let longer : length es' ≡ length es + 1 = length-append es (e ∷ []) in
    let births : length k'.births ≡ length k.births + 1 = length-append k.births ((2 * length s.words + 1) ∷ []) in
    let was_long = h.long in
    let was_few = h.few in
    let was_roomy = h.roomy in
    let some : 0 < k.room = omega (arith, was_roomy, fits) in
    let agree : (n : ℕ) → n < length es → Agree v v' (entry es n) = λ n ln. record {
      old = λ st j lj. let b = h.table.old_in n ln st in same ((entry es n).at + j) (λ x. omega (arith, x, b, lj)) (λ x. omega (arith, x, b, lj));
      shown = λ _ _ _. refl;
      number = λ _. refl;
      copied = λ _. refl;
      owner = λ _. refl;
    } in
    let mono : (n x : ℕ) → n < length es → Names (entry es n) x → Names (entry es' n) x = λ n x ln a. subst (λ y. Names y x) (sym (get_or-append es (e ∷ []) no_entry n ln)) a in
    let ref_on : (w : ℕ) → IsRef es w → IsRef es' w = λ w r. elim r [ inl z ↦ inl z | inr x ↦ inr (x.0, omega (arith, longer, x.1), mono x.0 w x.1 x.2) ] in
    let t = h.table in
    let lies : Lies v' es' = record {
      long = longer ∙ ap (λ x. x + 1) was_long ∙ sym births;
      marked = h.marked;
      few = omega (arith, was_few, births, some);
      roomy = omega (arith, was_roomy, left, fits, some);
      births = record {
        old = by_new (λ n e. e.stage < 3 → v'.birth n ≡ 2 * e.at + 1) es e (λ _. ap (slice_index k'.births) was_long ∙ get_or-append_seam k.births (2 * length s.words + 1) [] 0)
            (λ n ln st. get_or-append k.births ((2 * length s.words + 1) ∷ []) 0 n (omega (arith, ln, was_long)) ∙ h.births.old n ln st);
        copy = by_new (λ n e. e.stage ≡ 3 → v'.birth n ≡ 2 * e.line) es e (λ st. absurd (omega (arith, st)))
            (λ n ln st. get_or-append k.births ((2 * length s.words + 1) ∷ []) 0 n (omega (arith, ln, was_long)) ∙ h.births.copy n ln st);
      };
      table = record {
        few_words = omega (arith, all, few);
        few_lines = t.few_lines;
        few_shapes = t.few_shapes;
        stages = by_new (λ n e. e.stage ≤ 3) es e (omega arith) t.stages;
        owners = by_new (λ n e. e.owner ≤ 64) es e (omega arith) t.owners;
        copying = by_new (λ n e. e.stage ≡ 1 → 0 < e.owner) es e (λ st. absurd (omega (arith, st))) t.copying;
        born = by_new (λ n e. e.stage ≡ 3 → e.owner ≡ 0) es e (λ _. refl) t.born;
        shape_in = by_new (λ n e. e.shape < length k.kinds) es e in_shapes t.shape_in;
        few_slots = by_new (λ n e. e.slots < 2 ^ 31) es e few_slots t.few_slots;
        old_in = by_new (λ n e. e.stage < 3 → e.at + 3 + e.slots ≤ length s'.words) es e (λ _. omega (arith, all)) (λ n ln st. let b = t.old_in n ln st in omega (arith, b, all));
        copy_in = by_new (λ n e. 0 < e.stage → (0 < e.line) × (e.line + e.slots / 8 + 1 ≤ m.size)) es e (λ st. absurd (omega (arith, st))) t.copy_in;
        old_apart = λ a b la lb. by_new (λ a x. a ≢ b → x.stage < 3 → (entry es' b).stage < 3 → Apart x.at (x.slots + 3) (entry es' b).at ((entry es' b).slots + 3)) es e
            (by_new (λ b y. length es ≢ b → 0 < 3 → y.stage < 3 → Apart (length s.words) (slots + 3) y.at (y.slots + 3)) es e (λ ne. absurd (ne refl))
            (λ b lb ne _ st. let o = t.old_in b lb st in inr (omega (arith, o))) b lb)
            (λ a la. by_new (λ b y. a ≢ b → (entry es a).stage < 3 → y.stage < 3 → Apart (entry es a).at ((entry es a).slots + 3) y.at (y.slots + 3)) es e
            (λ ne st _. let o = t.old_in a la st in inl (omega (arith, o)))
            (λ b lb. t.old_apart a b la lb) b lb) a la;
        copy_apart = λ a b la lb. by_new (λ a x. a ≢ b → 0 < x.stage → 0 < (entry es' b).stage → Apart x.line (x.slots / 8 + 1) (entry es' b).line ((entry es' b).slots / 8 + 1)) es e
            (λ ne st _. absurd (omega (arith, st)))
            (λ a la. by_new (λ b y. a ≢ b → 0 < (entry es a).stage → 0 < y.stage → Apart (entry es a).line ((entry es a).slots / 8 + 1) y.line (y.slots / 8 + 1)) es e
            (λ ne _ st. absurd (omega (arith, st)))
            (λ b lb. t.copy_apart a b la lb) b lb) a la;
      };
      sits = by_new (λ n e. Sits v' n e) es e
          (record {
            state = λ _. zero_there (length s.words) (omega arith) (λ x. omega (arith, x)) (λ x. omega (arith, x));
            head = λ _. head_there ∙ heads;
            number = λ _. number_there ∙ numbers ∙ sym was_long;
            copy_number = λ st. absurd (omega (arith, st));
            copy_owner = λ st. absurd (omega (arith, st));
            copy_head = λ st. absurd (omega (arith, st));
            count = λ st. absurd (omega (arith, st));
            mirrored_head = λ st _. absurd (omega (arith, st));
            mirrored = λ i st _ _. absurd (omega (arith, st));
          })
          (λ n ln. sits_agree v v' n (entry es n) (agree n ln) (h.sits n ln));
      refs = λ n i ln. by_new (λ n e. refers v' e i ≡ true → i < e.slots → IsRef es' (word_of v' e i)) es e
          (λ _ li. inl (word_young v' e i (omega arith) ∙ zero_there (length s.words + 3 + i) (omega arith) (λ x. omega (arith, x)) (λ x. omega (arith, x))))
          (λ n ln r li. subst (IsRef es') (sym (word_agree v v' (entry es n) i (agree n ln) li)) (ref_on (word_of v (entry es n) i) (h.refs n i ln r li))) n ln;
    } in
    record {
      lies = lies;
      kept = refl;
      zeros = λ i li. zero_there (length s.words + 3 + i) (omega arith) (λ x. omega (arith, x)) (λ x. omega (arith, x));
      same = λ n i ln li. subst (λ e. value_of v' (refers v' e i) (word_of v' e i) ≡ shows v es n i) (sym (get_or-append es (e ∷ []) no_entry n ln))
          (value_same v v' es es' (refers v (entry es n) i) (word_of v (entry es n) i) (word_of v' (entry es n) i) h lies
          (omega (arith, longer)) mono (λ r. h.refs n i ln r li)
          (as_was (word_agree v v' (entry es n) i (agree n ln) li)));
    }

pub not_none : (o : Option ℕ) (x : ℕ) → o ≡ Some x → IsNone o → ⊥
not_none o x eq none = let z = subst IsNone eq none in let one : ℕ = 1 in let y : one ≡ 0 = ap (λ (b : Bool). if b then 1 else 0) z in absurd (omega (arith, y))

pub enough : (o : Option ℕ) (x left need : ℕ) → o ≡ Some x → (left < need → IsNone o) → need ≤ left
enough o x left need eq none = elim (below_or_not left need) [ inl lt ↦ absurd (not_none o x eq (none lt)) | inr ge ↦ ge ]
