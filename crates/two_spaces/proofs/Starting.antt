-- A heap as it begins is whole.
use Rattle.std.proofs.Common.{◌≡◌, inl, inr, ℕ, ◌%◌, ◌<◌, ◌≤◌, List, [], length, map, sym, ◌∙◌, ap, subst, arith}
use Rattle.std.specs.Prelude.{slice_index, slice_index_or}
use Rattle.std.proofs.lemmas.List.{length-map}
use Rattle.ap_base.specs.declared.reference.Item.{Item}
use Rattle.ap_base.specs.declared.reference.Item.TheVariants.{Int as IntItem, Long as LongItem, Ref as RefItem}
use Rattle.graph_model.specs.declared.types.Shape.{Shape}
use Rattle.graph_model.specs.Heaps.{no_shape}
use Rattle.one_space.proofs.Laid.{get_or-map}
use Rattle.twin_forms.specs.Sights.{no_kinds, view_of}
use Rattle.twin_forms.specs.Table.{Entry, entry, IsRef, Names}
use Rattle.twin_heap.specs.Here.{kinds_of, opened, opening}
use Rattle.twin_heap.proofs.Opens.{opening_at, opening_long}
use Rattle.two_spaces.specs.declared.spaces.Static.{Static}
use Rattle.two_spaces.specs.declared.spaces.Static.TheVariants.{Beside, Root}
use Rattle.two_spaces.specs.Seen.{Spaces, root_word}
use Rattle.two_spaces.specs.Whole.{AreClasses, IsItem, IsStatic, Stands, no_static}
use Rattle.two_spaces.specs.Starts.{Begins, HoldsNone, IsFirstStatic, IsFirstWord, BeginningsStand, OwnShapesAreClasses}
use Rattle.two_spaces.specs.Starts.{OwnShapesStand}

none_held : (es : List Entry) (item : Item) → HoldsNone item → IsItem es item
none_held es (IntItem i) none = tt
none_held es (LongItem i) none = tt
none_held es (RefItem r) none = subst (λ x. IsItem es (RefItem x)) (sym none) tt

module _ (s : Spaces) (shapes : List Shape) (lines : List ℕ) (b : Begins s shapes lines) where
  abbrev es : List Entry
  es = opening s.twin.memory lines

  -- the object of a number
  line_there : (n : ℕ) → n < length es → n < length lines
  line_there n ln = subst (λ x. n < x) (opening_long s.twin.memory lines) ln

  there : (n : ℕ) → n < length lines → n < length es
  there n ln = subst (λ x. n < x) (sym (opening_long s.twin.memory lines)) ln

  is_opened : (P : Entry → Type 0) (n : ℕ) → n < length es
      → (n < length lines → P (opened s.twin.memory (slice_index lines n))) → P (entry es n)
  is_opened P n ln p =
      let lt = line_there n ln in subst P (sym (opening_at s.twin.memory lines n lt)) (p lt)

  -- a word of a root slot
  first_even : (w : ℕ) → IsFirstWord lines w → w % 2 ≡ 0
  first_even w (inl none) = omega (arith, none)
  first_even w (inr x) = let is = x.2 in omega (arith, is)

  first_ref : (w : ℕ) → IsFirstWord lines w → IsRef es w
  first_ref w (inl none) = inl none
  first_ref w (inr x) =
      let far = b.behind x.0 x.1 in
      let is = x.2 in
      inr (
        x.0,
        there x.0 x.1,
        is_opened (λ e. Names e w) x.0 (there x.0 x.1)
            (λ _. inr (omega arith, is, omega (arith, is, far))),
      )

  first_static : (st : Static) → IsFirstStatic s.twin lines st → IsStatic s es st
  first_static (Beside item) none = none_held es item none
  first_static (Root slot) first =
      (first.0, first_even (root_word (view_of s.twin) slot) first.1, first_ref (root_word (view_of s.twin) slot) first.1)

  stands_first : Stands s es
  stands_first = record {
    lies = b.valid;
    behind = λ n ln. is_opened (λ e. 0 < e.stage → 33 ≤ e.line) n ln (λ lt _. b.behind n lt);
    classes = subst (λ kinds. AreClasses s.shapes kinds s.classes s.numbers) (sym b.kinds) b.classes;
    classed = λ n ln. is_opened (λ e. slice_index s.classes e.shape < length s.shapes) n ln (λ lt. b.classed n lt);
    statics = λ f lf. first_static (slice_index_or s.statics f no_static) (b.statics f lf);
    alone = b.alone;
  }

pub beginnings_stand : BeginningsStand
beginnings_stand s shapes lines b = stands_first s shapes lines b

pub own_classes : OwnShapesAreClasses
own_classes shapes classes numbers cs ns =
    let long : length (map kinds_of shapes) ≡ length shapes = length-map shapes kinds_of in record {
      long = cs.long ∙ sym long;
      kinds_are = λ k lk _.
          (let lt : k < length shapes = subst (λ n. k < n) cs.long lk in
          get_or-map kinds_of shapes k no_shape no_kinds lt
          ∙ ap (λ c. kinds_of (slice_index_or shapes c no_shape)) (sym (cs.same k lt)));
      all = ns.long;
      within = λ c lc.
          (let lt : c < length shapes = subst (λ n. c < n) ns.long lc in
          let same = ns.same c lt in omega (arith, lt, same, long));
      back = λ c lc.
          (let lt : c < length shapes = subst (λ n. c < n) ns.long lc in
          ap (slice_index classes) (ns.same c lt) ∙ cs.same c lt);
    }

pub own_shapes_stand : OwnShapesStand
own_shapes_stand t shapes classes numbers lines valid kinds behind cs ns =
    let s : Spaces = record { twin = t; shapes = shapes; classes = classes; numbers = numbers; statics = [] } in
    let many : length t.marks.kinds ≡ length shapes = ap length kinds ∙ length-map shapes kinds_of in
    beginnings_stand s shapes lines (record {
      valid = valid;
      kinds = kinds;
      behind = behind;
      classed = λ n ln.
          (let lt : n < length (opening t.memory lines) = subst (λ x. n < x) (sym (opening_long t.memory lines)) ln in
          let shape : (opened t.memory (slice_index lines n)).shape < length t.marks.kinds =
          subst (λ (e : Entry). e.shape < length t.marks.kinds) (opening_at t.memory lines n ln) (valid.table.shape_in n lt) in
          let own : (opened t.memory (slice_index lines n)).shape < length shapes = omega (arith, shape, many) in
          subst (λ c. c < length shapes) (sym (cs.same (opened t.memory (slice_index lines n)).shape own)) own);
      classes = own_classes shapes classes numbers cs ns;
      statics = λ f lf. absurd (omega (arith, lf));
      alone = λ f lf. absurd (omega (arith, lf));
    })
