-- What a table says of the objects of a machine, and so of its layout.
use Rattle.std.proofs.Common.{◌≡◌, ◌≢◌, ◌⊎◌, inl, inr, ◌↔◌, ℕ, zero, suc, ◌+◌, ◌*◌, ◌/◌, ◌<◌, ◌≤◌, Bool, true, false, List, []}
use Rattle.std.proofs.Common.{◌∷◌, ◌++◌, length, refl, sym, ◌∙◌, ap, subst, arith, if◌then◌else◌}
use Rattle.std.proofs.lemmas.Bool.{cases_Bool, cases_lt, true≢false}
use Rattle.std.proofs.lemmas.List.{get_or_past}
use Rattle.graph_model.specs.declared.types.Heap.{Heap}
use Rattle.graph_model.specs.declared.types.Obj.{Obj as ObjectOf}
use Rattle.graph_model.specs.Heaps.{has_number, object_at, values_of}
use Rattle.run_history.specs.Knowing.{Knowledge}
use Rattle.run_history.specs.Worlds.{World}
use Rattle.shared_objects.specs.Worlds.{heap_of}
use Rattle.stop_theorem.specs.GivenCopies.{IsFreeLine}
use Rattle.twin_forms.specs.Table.{Entry, entry, no_entry, View, Lies, InP, IsClaimed, lines_of, head_word}
use Rattle.twin_forms.specs.Moves.{SameHeap, fresh}
use Rattle.twin_forms.specs.Sights.{view_of}
use Rattle.twin_forms.proofs.Led.{even_moved}
use Rattle.two_spaces.specs.Seen.{object_of}
use Rattle.two_spaces.proofs.Telling.{told_is}
use Rattle.two_spaces.proofs.Shifting.{object_is, objects_long, values_long}
use Rattle.machine_forms.specs.Machines.{Opening, Machine, known_in, roots_in, shown_in, layout_in, is_durable, SameDurable}
use Rattle.machine_forms.specs.Keeping.{KeepsRun}
use Rattle.machine_forms.proofs.Layouts.{layouts}

-- ---- durable objects

pub durable_in : (es : List Entry) (n : ℕ) → is_durable (entry es n) ≡ true → InP es n
durable_in es n is = (layouts.durable es n).0 is

pub in_durable : (es : List Entry) (n : ℕ) → InP es n → is_durable (entry es n) ≡ true
in_durable es n in_p = (layouts.durable es n).1 in_p

not_durable : (es : List Entry) (n : ℕ) → (InP es n → ⊥) → is_durable (entry es n) ≡ false
not_durable es n out = elim (cases_Bool (is_durable (entry es n))) [
  | inl is ↦ absurd (out (durable_in es n is))
  | inr isnt ↦ isnt
]

-- where an object lies that isn't behind the table's end
pub placed_there : (es : List Entry) (n : ℕ) → 0 < (entry es n).stage → n < length es
placed_there es n placed = elim (cases_lt n (length es)) [
  | inl lt ↦ lt
  | inr past ↦ absurd (
      let none : (entry es n).stage ≡ 0 = ap (λ (e : Entry). e.stage) (get_or_past es n no_entry past) in
      omega (arith, placed, none))
]

chosen : (b : Bool) (x y : ℕ) → b ≡ true → (if b then x else y) ≡ x
chosen true x y is = refl
chosen false x y is = absurd (true≢false (sym is))

pub line_in : (o : Opening) (es : List Entry) (n : ℕ) → InP es n
    → (layout_in o es).line_of n ≡ (entry es n).line
line_in o es n in_p = chosen (is_durable (entry es n)) (entry es n).line 0 (in_durable es n in_p)

pub head_in : (o : Opening) (es : List Entry) (n : ℕ) → InP es n
    → (layout_in o es).head n ≡ head_word (entry es n)
head_in o es n in_p = chosen (is_durable (entry es n)) (head_word (entry es n)) 0 (in_durable es n in_p)

-- ---- tables of the same heap

same_test : (es es' : List Entry) (n : ℕ) → InP es' n ↔ InP es n
    → is_durable (entry es' n) ≡ is_durable (entry es n)
same_test es es' n same = elim (cases_Bool (is_durable (entry es n))) [
  | inl is ↦ in_durable es' n (same.1 (durable_in es n is)) ∙ sym is
  | inr isnt ↦ not_durable es' n (λ p. true≢false (sym (in_durable es n (same.0 p)) ∙ isnt)) ∙ sym isnt
]

-- Where the same objects are durable after a move, they lie at the same lines, with the same heads.
pub moved_durable : (v v' : View) (es es' : List Entry) → Lies v es → SameHeap v es v' es'
    → ((n : ℕ) → InP es' n ↔ InP es n) → SameDurable es es'
moved_durable v v' es es' lies moves same = record {
  kept = λ n. same_test es es' n (same n);
  lines = λ n is. line_same n (durable_in es n is);
  heads = λ n is. head_same n (durable_in es n is);
}
  where
    line_same : (n : ℕ) → InP es n → (entry es' n).line ≡ (entry es n).line
    line_same n p =
        let at = lies.table.copy_in n p.0 (let high = p.1 in omega (arith, high)) in
        let some = at.0 in
        (even_moved (entry es' n) (entry es n).line
        (moves.led n (2 * (entry es n).line) p.0 (inr (p.1, refl, omega (arith, some))))).1

    head_same : (n : ℕ) → InP es n → head_word (entry es' n) ≡ head_word (entry es n)
    head_same n p = rw (moves.shapes n p.0, moves.slots n p.0) refl

pub same_layout : (o : Opening) (es es' : List Entry) → SameDurable es es' → layout_in o es' ≡ layout_in o es
same_layout o es es' same = layouts.same o es es' same

-- The words of a heap tell which objects are durable.
pub told_durable : (v : View) (es es' : List Entry) → Lies v es → Lies v es' → (n : ℕ) → InP es n → InP es' n
told_durable v es es' h h' n p =
    let lt : n < length es' = (let a = h.long in let b = h'.long in let c = p.0 in omega (arith, a, b, c)) in
    let one = told_is v es n h p.0 in
    let two = told_is v es' n h' lt in
    let high = p.1 in
    let far : 2 ≤ (entry es n).stage = omega (arith, high) in
    let moved = one.moved far in
    let high' : 2 ≤ (entry es' n).stage = elim (cases_lt (entry es' n).stage 2) [
      | inl young ↦ absurd (let small = two.young young in omega (arith, small, moved))
      | inr le ↦ le
    ] in
    let line : (entry es' n).line ≡ (entry es n).line = sym (two.line high') ∙ one.line far in
    let owner : (entry es' n).owner ≡ (entry es n).owner =
    sym ((h'.sits n lt).copy_owner (omega (arith, high'))) ∙ ap v.owner line
    ∙ (h.sits n p.0).copy_owner (omega (arith, far)) in
    (lt, omega (arith, high'), owner ∙ p.2)

-- ---- a new object

entry_front : (es : List Entry) (e : Entry) (n : ℕ) → n < length es → entry (es ++ e ∷ []) n ≡ entry es n
entry_front [] e n lt = absurd (omega (arith, lt))
entry_front (x ∷ es) e zero lt = refl
entry_front (x ∷ es) e (suc n) lt = entry_front es e n (omega (arith, lt))

entry_last : (es : List Entry) (e : Entry) (n : ℕ) → length es ≤ n
    → (entry (es ++ e ∷ []) n ≡ e) ⊎ (entry (es ++ e ∷ []) n ≡ no_entry)
entry_last [] e zero past = inl refl
entry_last [] e (suc n) past = inr refl
entry_last (x ∷ es) e zero past = absurd (omega (arith, past))
entry_last (x ∷ es) e (suc n) past = entry_last es e n (omega (arith, past))

-- A new object isn't durable.
pub fresh_durable : (es : List Entry) (shape slots at : ℕ) → SameDurable es (es ++ fresh shape slots at ∷ [])
fresh_durable es shape slots at = record {
  kept = λ n. elim (cases_lt n (length es)) [
    | inl lt ↦ ap is_durable (entry_front es (fresh shape slots at) n lt)
    | inr past ↦ behind n past ∙ sym (ap is_durable (get_or_past es n no_entry past))
  ];
  lines = λ n is. ap (λ (e : Entry). e.line) (entry_front es (fresh shape slots at) n (durable_in es n is).0);
  heads = λ n is. ap head_word (entry_front es (fresh shape slots at) n (durable_in es n is).0);
}
  where
    behind : (n : ℕ) → length es ≤ n → is_durable (entry (es ++ fresh shape slots at ∷ []) n) ≡ false
    behind n past = elim (entry_last es (fresh shape slots at) n past) [
      | inl e ↦ ap is_durable e
      | inr e ↦ ap is_durable e
    ]

-- ---- the objects of a machine

module _ (o : Opening) (m : Machine) (es : List Entry) (r : KeepsRun o m es) where
  abbrev pub known : Knowledge
  known = known_in o m

  abbrev pub view : View
  view = view_of m.spaces.twin

  pub lies : Lies view es
  lies = r.heap.whole.lies

  pub heap_is : known.world.heap ≡ heap_of (roots_in o m) (shown_in m)
  heap_is = ap (λ (w : World). w.heap) r.world.world

  pub object_known : (n : ℕ) → n < length es
      → object_at known.world.heap n ≡ object_of m.spaces.classes view (entry es n)
  object_known n lt = ap (λ (h : Heap). object_at h n) heap_is ∙ object_is m.spaces.classes view es n lies lt

  pub objects_many : length known.world.heap.objects ≡ length es
  objects_many = ap (λ (h : Heap). length h.objects) heap_is ∙ objects_long m.spaces.classes view es lies

  pub values_many : (n : ℕ) → n < length es → length (values_of known.world.heap n) ≡ (entry es n).slots
  values_many n lt = ap (λ (x : ObjectOf). length x.values) (object_known n lt)
      ∙ values_long m.spaces.classes view (entry es n)

  pub durable_there : (n : ℕ) → has_number known.durable n ≡ true → InP es n
  durable_there n is = (r.asked.durable n).0 is

  pub there_durable : (n : ℕ) → InP es n → has_number known.durable n ≡ true
  there_durable n p = (r.asked.durable n).1 p

  pub none_durable : (n : ℕ) → (InP es n → ⊥) → has_number known.durable n ≡ false
  none_durable n out = elim (cases_Bool (has_number known.durable n)) [
    | inl is ↦ absurd (out (durable_there n is))
    | inr isnt ↦ isnt
  ]

  -- a line of an object that isn't durable
  pub free_line : (n c : ℕ) → 0 < (entry es n).stage → (InP es n → ⊥) → c < lines_of (entry es n)
      → IsFreeLine known (layout_in o es) ((entry es n).line + c)
  free_line n c placed out inside =
      let lt = placed_there es n placed in
      let low = r.heap.low n lt placed in
      record { low = omega (arith, low); apart = λ k is. other k (durable_there k is) }
    where
      other : (k : ℕ) → InP es k → ((entry es n).line + c < (layout_in o es).line_of k)
          ⊎ ((layout_in o es).line_of k + (1 + length (values_of known.world.heap k) + 7) / 8
          ≤ (entry es n).line + c)
      other k p =
          let line = line_in o es k p in
          let many = values_many k p.0 in
          let high = p.1 in
          let differs : n ≢ k = λ e. out (subst (InP es) (sym e) p) in
          elim (lies.table.copy_apart n k (placed_there es n placed) p.0 differs placed
          (omega (arith, high))) [
            | inl before ↦ inl (omega (arith, before, inside, line))
            | inr behind ↦ inr (omega (arith, behind, line, many))
          ]

  pub claimed_out : (t n : ℕ) → IsClaimed es t n → InP es n → ⊥
  claimed_out t n claimed p = let a = claimed.1 in let b = p.2 in omega (arith, a, b)
