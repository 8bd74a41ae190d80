-- Objects that are added to a heap one after another.
use Rattle.std.proofs.Common.{◌≡◌, ◌⊎◌, inl, inr, ℕ, zero, suc, ◌+◌, ◌-◌, ◌<◌, ◌≤◌, true, List, [], ◌∷◌, ◌++◌, take, length}
use Rattle.std.proofs.Common.{slice_index_or, Option, Some, None, Result, Ok, Err, refl, ap, ◌∙◌, sym, subst, arith, rules}
use Rattle.std.proofs.Common.{length-append, append_assoc}
use Rattle.std.specs.Prelude.{◌↔◌, sum_by, IfOk, IfErr, IsErr, OnOk, OnErr}
use Rattle.std.proofs.lemmas.Bool.{cases_lt}
use Rattle.std.proofs.lemmas.List.{length-map, length-replicate}
use Rattle.std.proofs.lemmas.List.Sums.{sum_by-append}
use Rattle.std.proofs.Math.ListN.{get_or-append}
use Rattle.std.proofs.Math.Seq.{get_or-append_seam}
use Rattle.ap_base.specs.declared.kind.Kind.{Kind}
use Rattle.ap_base.specs.declared.reference.Ref.{Ref}
use Rattle.run_types.specs.declared.fault.Full.{Full}
use Rattle.run_types.specs.declared.fault.Which.TheVariants.{VolatileWords}
use Rattle.graph_model.specs.declared.types.Field.{Field}
use Rattle.graph_model.specs.declared.types.Obj.{Obj}
use Rattle.graph_model.specs.declared.types.Shape.{Shape}
use Rattle.graph_model.specs.Heaps.{default_of, fresh_values, no_object, no_shape}
use Rattle.plain_model.specs.Limits.{words_of}
use Rattle.run_history.specs.Worlds.{may_have}
use Rattle.shared_objects.specs.Changes.{Allocates}
use Rattle.one_space.specs.First.{LacksWords, index_in}
use Rattle.one_space.proofs.Making.{goes_further, if_number_back}
use Rattle.twin_forms.specs.Sights.{view_of}
use Rattle.twin_forms.specs.Table.{Entry, entry, no_entry}
use Rattle.twin_forms.specs.Moves.{fresh}
use Rattle.two_spaces.specs.Seen.{Spaces, shown_of}
use Rattle.two_spaces.specs.Whole.{IsWhole, Made, MakesIn, SameClasses}
use Rattle.two_spaces.proofs.Shifting.{objects_long}
use Rattle.first_spaces.specs.Growing.{Grows, IsNew, IsYoung, Lengthens, Spares, fresh_object}
use Rattle.first_spaces.proofs.Numbers.{numbers_added}

-- ---- what is spared

pub spares_none : (s : Spaces) → Spares s s
spares_none s = record {
  goes_on = record { shapes = refl; keeps = λ r n e. e; keys = λ r e. e };
  memory = refl;
  classes = record { shapes = refl; classes = refl; numbers = refl; kinds = refl };
  statics = refl;
}

pub same_further : (a b c : Spaces) → SameClasses a b → SameClasses b c → SameClasses a c
same_further a b c first then = record {
  shapes = then.shapes ∙ first.shapes;
  classes = then.classes ∙ first.classes;
  numbers = then.numbers ∙ first.numbers;
  kinds = then.kinds ∙ first.kinds;
}

pub spares_further : (a b c : Spaces) → Spares a b → Spares b c → Spares a c
spares_further a b c first then = record {
  goes_on = goes_further (shown_of a) (shown_of b) (shown_of c) first.goes_on then.goes_on;
  memory = then.memory ∙ first.memory;
  classes = same_further a b c first.classes then.classes;
  statics = then.statics ∙ first.statics;
}

-- ---- objects after objects

append_nil : {A : Type 0} (xs : List A) → xs ++ [] ≡ xs
append_nil [] = refl
append_nil (x ∷ xs) = ap (λ ys. x ∷ ys) (append_nil xs)

pub grows_none : (s : Spaces) → Grows [] s s
grows_none s = record {
  spares = spares_none s;
  objects = sym (append_nil (shown_of s).objects);
  left = omega arith;
  table = λ es h. (
    es,
    h,
    record {
      long = omega arith;
      old = λ n lt. refl;
      new = λ n from lt. absurd (omega (arith, from, lt));
      numbers = λ from h. h;
    },
  );
}

new_as : (a b : Spaces) (e : Entry) → SameClasses a b → IsNew b.classes b.numbers e → IsNew a.classes
    a.numbers e
new_as a b e same is =
    subst (λ cs. IsNew cs a.numbers e) same.classes (subst (λ ns. IsNew b.classes ns e) same.numbers is)

lengthens_further : (a b c : Spaces) (es es1 es2 : List Entry) → SameClasses a b → Lengthens a es b es1
    → Lengthens b es1 c es2 → Lengthens a es c es2
lengthens_further a b c es es1 es2 same first then =
    let long1 = first.long in
    let long2 = then.long in
    record {
      long = omega (arith, long1, long2);
      old = λ n lt. then.old n (omega (arith, lt, long1)) ∙ first.old n lt;
      new = λ n from lt. elim (cases_lt n (length es1)) [
        | inl below ↦ subst (IsNew a.classes a.numbers) (sym (then.old n below)) (first.new n from below)
        | inr past ↦ new_as a b (entry es2 n) same (then.new n past lt)
      ];
      numbers = λ from h. then.numbers from (first.numbers from h);
    }

pub grows_further : (xs ys : List Obj) (a b c : Spaces) → Grows xs a b → Grows ys b c → Grows (xs ++ ys) a c
grows_further xs ys a b c first then = record {
  spares = spares_further a b c first.spares then.spares;
  objects = then.objects ∙ ap (λ (os : List Obj). os ++ ys) first.objects
      ∙ append_assoc (shown_of a).objects xs ys;
  left = let one = first.left in let two = then.left in omega (arith, one, two, sum_by-append words_of xs ys);
  table = λ es h.
      let one = first.table es h in
      let two = then.table one.0 one.1 in
      (two.0, two.1, lengthens_further a b c es one.0 two.0 first.spares.classes one.2 two.2);
}

pub whole_grown : (xs : List Obj) (a b : Spaces) → IsWhole a → Grows xs a b → IsWhole b
whole_grown xs a b w grown = let t = grown.table w.0 w.1 in (t.0, t.1)

-- ---- want of words

pub lacks_first : (left : ℕ) (o : Obj) (rest : List Obj) (answer : Full)
    → answer ≡ record { which = VolatileWords; need = words_of o; left = left } → left < words_of o
    → LacksWords left (o ∷ rest) answer
lacks_first left o rest answer is short = record {
  n = 0;
  there = omega arith;
  within = omega arith;
  full = is ∙ ap (λ l. record { which = VolatileWords; need = words_of o; left = l }) (let e : left ≡ left - 0
      = omega arith in e);
  short = omega (arith, short);
}

take_front : (xs ys : List Obj) (n : ℕ) → n < length xs → take n (xs ++ ys) ≡ take n xs
take_front [] ys n lt = absurd (omega (arith, lt))
take_front (x ∷ xs) ys zero lt = refl
take_front (x ∷ xs) ys (suc n) lt = ap (λ zs. x ∷ zs) (take_front xs ys n (omega (arith, lt)))

take_behind : (xs ys : List Obj) (n : ℕ) → take (length xs + n) (xs ++ ys) ≡ xs ++ take n ys
take_behind [] ys n = let e : 0 + n ≡ n = omega arith in ap (λ k. take k ys) e
take_behind (x ∷ xs) ys n =
    let e : suc (length xs) + n ≡ suc (length xs + n) = omega arith in
    ap (λ k. take k (x ∷ xs ++ ys)) e ∙ ap (λ zs. x ∷ zs) (take_behind xs ys n)

at_behind : (xs ys : List Obj) (n : ℕ) → slice_index_or (xs ++ ys) (length xs + n) no_object ≡ slice_index_or
    ys n no_object
at_behind [] ys n = let e : 0 + n ≡ n = omega arith in ap (λ k. slice_index_or ys k no_object) e
at_behind (x ∷ xs) ys n =
    let e : suc (length xs) + n ≡ suc (length xs + n) = omega arith in
    ap (λ k. slice_index_or (x ∷ xs ++ ys) k no_object) e ∙ at_behind xs ys n

-- one of the first objects finds too few words
pub lacks_front : (left : ℕ) (xs ys : List Obj) (answer : Full) → LacksWords left xs answer → LacksWords left
    (xs ++ ys) answer
lacks_front left xs ys answer lacks =
    let lt = lacks.there in
    let front : index_in (xs ++ ys) lacks.n ≡ index_in xs lacks.n = ap (sum_by words_of) (take_front xs ys
    lacks.n lt) in
    let same : slice_index_or (xs ++ ys) lacks.n no_object ≡ slice_index_or xs lacks.n no_object =
    get_or-append xs ys no_object lacks.n lt in
    record {
      n = lacks.n;
      there = let long = length-append xs ys in omega (arith, lt, long);
      within = let h = lacks.within in omega (arith, h, front);
      full = rw (front, same) lacks.full;
      short = rw (front, same) lacks.short;
    }

-- one of those behind finds too few of the words that the first ones leave
pub lacks_behind : (left rest : ℕ) (xs ys : List Obj) (answer : Full) → left ≡ rest + sum_by words_of xs
    → LacksWords rest ys answer → LacksWords left (xs ++ ys) answer
lacks_behind left rest xs ys answer sum lacks =
    let lt = lacks.there in
    let n = lacks.n in
    let behind : index_in (xs ++ ys) (length xs + n) ≡ sum_by words_of xs + index_in ys n =
    ap (sum_by words_of) (take_behind xs ys n) ∙ sum_by-append words_of xs (take n ys) in
    let same = at_behind xs ys n in
    let less : left - index_in (xs ++ ys) (length xs + n) ≡ rest - index_in ys n = omega (arith, sum, behind)
    in
    record {
      n = length xs + n;
      there = let long = length-append xs ys in omega (arith, lt, long);
      within = let h = lacks.within in omega (arith, h, behind, sum);
      full = rw (less, same) lacks.full;
      short = rw (less, same) lacks.short;
    }

-- ---- one new object

pub fresh_long : (shape : Shape) (count : ℕ) → may_have shape count ≡ true → length (fresh_values shape count)
    ≡ count
fresh_long shape count may = at_parts shape.name shape.fields shape.element may
  where
    at_parts : (name : List ℕ) (fields : List Field) (element : Option Kind)
        → may_have (record { name = name; fields = fields; element = element }) count ≡ true
        → length (fresh_values (record { name = name; fields = fields; element = element }) count) ≡ count
    at_parts name fields None is =
        let same : count ≡ length fields = search (rules, is) in
        length-map fields (λ (f : Field). default_of f.kind) ∙ sym same
    at_parts name fields (Some kind) is = length-replicate count (default_of kind)

module _ (class slots : ℕ) (before now : Spaces) (whole : IsWhole before)
    (may : may_have (slice_index_or before.shapes class no_shape) slots ≡ true) where
  abbrev object : Obj
  object = fresh_object before.shapes class slots

  words : words_of object ≡ 3 + slots
  words = ap (λ n. 3 + n) (fresh_long (slice_index_or before.shapes class no_shape) slots may)

  module _ (r : Ref) (made : Allocates class slots r (shown_of before) (shown_of now)) (makes : MakesIn before
      now) where
    made_there : Made before whole.0 now
    made_there = makes whole.0 whole.1

    abbrev with_new : List Entry → ℕ → ℕ → List Entry
    with_new es shape count = es ++ fresh shape count (length before.twin.space.words) ∷ []

    seam : (es : List Entry) (shape count : ℕ) → entry (with_new es shape count) (length es)
        ≡ fresh shape count (length before.twin.space.words)
    seam es shape count = get_or-append_seam es (fresh shape count (length before.twin.space.words)) []
        no_entry

    longer : (es : List Entry) (shape count : ℕ) → length (with_new es shape count) ≡ length es + 1
    longer es shape count = length-append es (fresh shape count (length before.twin.space.words) ∷ [])

    lengthens : (es : List Entry) (m : Made before es now)
        → Lengthens before es now (with_new es m.shape m.slots)
    lengthens es m =
        let long = longer es m.shape m.slots in
        record {
          long = omega (arith, long);
          old = λ n lt. get_or-append es (fresh m.shape m.slots (length before.twin.space.words) ∷ [])
              no_entry n lt;
          new = λ n from lt.
              let same : length es ≡ n = omega (arith, from, lt, long) in
              subst (λ k. IsNew before.classes before.numbers (entry (with_new es m.shape m.slots) k)) same
              (subst (IsNew before.classes before.numbers) (sym (seam es m.shape m.slots))
              (record { stage = refl; owner = refl; shape = m.of_class }));
          numbers = λ from h.
              numbers_added from before now es m.shape m.slots m.classes.kinds m.added h;
        }

    pub one_grows : 3 + slots ≤ before.twin.space.left → Grows (object ∷ []) before now
    one_grows within = record {
      spares = record {
        goes_on = made.goes_on;
        memory = made_there.memory;
        classes = made_there.classes;
        statics = made_there.statics;
      };
      objects = made.objects;
      left = let l = made.left in omega (arith, l, words, within);
      table = λ es h. let m = makes es h in (with_new es m.shape m.slots, m.stands, lengthens es m);
    }

    pub one_young : IsYoung now r
    one_young =
        let m = made_there in
        let es = whole.0 in
        let count : length (shown_of before).objects ≡ length es =
        objects_long before.classes (view_of before.twin) es whole.1.lies in
        record {
          es = with_new es m.shape m.slots;
          stands = m.stands;
          young = if_number_back ((shown_of now).number r) (λ n. (entry (with_new es m.shape m.slots) n).stage
              ≡ 0)
              (length es) (made.number ∙ ap Some count)
              (ap (λ (e : Entry). e.stage) (seam es m.shape m.slots));
        }

  -- whichever the answer is
  pub grows_on_ok : (result : Result Ref Full)
      → IfOk result (λ r. Allocates class slots r (shown_of before) (shown_of now))
      → OnOk result (MakesIn before now) → IsErr result ↔ (before.twin.space.left < 3 + slots)
      → OnOk result (Grows (object ∷ []) before now)
  grows_on_ok (Ok r) made makes full = one_grows r made makes (within (cases_lt before.twin.space.left (3 +
      slots)))
    where
      within : (before.twin.space.left < 3 + slots) ⊎ (3 + slots ≤ before.twin.space.left) → 3 + slots ≤
          before.twin.space.left
      within (inl short) = absurd (let bad : IsErr {T = Ref} {E = Full} (Ok r) = full.1 short in cc)
      within (inr enough) = enough
  grows_on_ok (Err e) made makes full = tt

  pub young_on_ok : (result : Result Ref Full)
      → IfOk result (λ r. Allocates class slots r (shown_of before) (shown_of now))
      → OnOk result (MakesIn before now) → IfOk result (IsYoung now)
  young_on_ok (Ok r) made makes = one_young r made makes
  young_on_ok (Err e) made makes = tt

  pub memory_same : (result : Result Ref Full) → OnOk result (MakesIn before now) → OnErr result
      (now.twin.memory ≡ before.twin.memory)
      → now.twin.memory ≡ before.twin.memory
  memory_same (Ok r) makes same = (makes whole.0 whole.1).memory
  memory_same (Err e) makes same = same

  pub lacks_on_err : (result : Result Ref Full) → IsErr result ↔ (before.twin.space.left < 3 + slots)
      → IfErr result (λ full. full ≡ record {
        which = VolatileWords;
        need = 3 + slots;
        left =
            before.twin.space.left;
      })
      → IfErr result (LacksWords before.twin.space.left (object ∷ []))
  lacks_on_err (Ok r) full is = tt
  lacks_on_err (Err e) full is =
      lacks_first before.twin.space.left object [] e
      (is ∙ ap (λ n. record { which = VolatileWords; need = n; left = before.twin.space.left }) (sym words))
      (let short = full.0 refl in omega (arith, short, words))
