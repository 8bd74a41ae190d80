-- What changes of words and of heaps keep a correspondence. Where objects stay at their lines, it follows from
-- what agrees place by place.
use Rattle.std.proofs.Common.{◌≡◌, ◌≢◌, inl, inr, ℕ, ◌<◌, true, false, length, refl, sym, ◌∙◌, ap, subst, arith, slice_index_or}
use Rattle.std.proofs.Common.{nat_eq, List, map}
use Rattle.std.proofs.lemmas.Bool.{cases_eq, eq-eqb, ne_eqb}
use Rattle.std.proofs.lemmas.List.{get_or-set_same, get_or-set_other, length-set}
use Rattle.ap_base.specs.declared.kind.Kind.{Kind}
use Rattle.ap_base.specs.declared.kind.Kind.TheVariants.{Z, B, C, S, I, J, L, Text}
use Rattle.ap_base.specs.declared.place.Place.{Place}
use Rattle.ap_base.specs.declared.place.Place.TheVariants.{Static, Slot}
use Rattle.graph_model.specs.declared.types.Value.{Value}
use Rattle.graph_model.specs.declared.types.Value.TheVariants.{Int, Long, Null, Obj as Object}
use Rattle.graph_model.specs.declared.types.Obj.{Obj}
use Rattle.graph_model.specs.declared.types.Shape.{Shape}
use Rattle.graph_model.specs.declared.types.Root.{Root}
use Rattle.graph_model.specs.declared.types.Heap.{Heap}
use Rattle.graph_model.specs.Heaps.{no_object, object_at, shape_at, values_of, value_at, with_slot, stored, is_kept_slot}
use Rattle.graph_model.proofs.Stores.{value_at-stored}
use Rattle.image_meaning.specs.Checks.{Words}
use Rattle.image_meaning.specs.Directories.{Directory}
use Rattle.image_meaning.specs.Objects.{shape_of, object_slot, kind_of}
use Rattle.image_meaning.specs.Meaning.{root_word}
use Rattle.image_meaning.specs.Corresponds.{LiesAt, HoldsReference, Holds, Corresponds, root_value_at, SameWords, SameButSlot}
use Rattle.image_meaning.specs.Corresponds.{SameButRoot, root_static, SameObjects, SameObjectSizes, Either, CanJoin}
use Rattle.image_meaning.proofs.Agreeing.{corresponds-agree, root_value_is, slot_holds, root_holds, own_sizes}

-- ---- words that say the same

pub corresponds-same : (R : LiesAt) (directory : Directory) (size : ℕ) (c d : Words) (heap : Heap)
    → Corresponds R directory size c heap → SameWords R heap c d → Corresponds R directory size d heap
corresponds-same R directory size c d heap k s =
    corresponds-agree R directory size c d heap heap k (own_sizes R directory size c heap k) record {
      heads = s.heads;
      slots = λ line n i y below kept. rw (s.slots line n y i below kept)
          (slot_holds R directory size c heap k line n i y below kept);
      at_roots = λ r h. rw (s.at_roots r (omega (arith, h, k.few)))
          (root_holds R directory size c heap k r h);
      unused = λ r low high. s.at_roots r high ∙ k.unused r low high;
    }

-- ---- a store

pub stored_shape : (heap : Heap) (n i m : ℕ) (v : Value) → n < length heap.objects
    → (object_at (stored heap (Slot n i) v) m).shape ≡ (object_at heap m).shape
stored_shape heap n i m v h = elim (cases_eq m n) [
  | inl e ↦ rw e (ap (λ (o : Obj). o.shape)
      (get_or-set_same heap.objects n (with_slot (object_at heap n) i v) no_object h))
  | inr d ↦ ap (λ (o : Obj). o.shape)
      (get_or-set_other heap.objects n m (with_slot (object_at heap n) i v) no_object d)
]

pub stored_length : (heap : Heap) (n i m : ℕ) (v : Value) → n < length heap.objects
    → length (values_of (stored heap (Slot n i) v) m) ≡ length (values_of heap m)
stored_length heap n i m v h = elim (cases_eq m n) [
  | inl e ↦ rw e (
      ap (λ (o : Obj). length o.values) (get_or-set_same heap.objects n
      (with_slot (object_at heap n) i v) no_object h)
      ∙ length-set (values_of heap n) i v)
  | inr d ↦ ap (λ (o : Obj). length o.values)
      (get_or-set_other heap.objects n m (with_slot (object_at heap n) i v) no_object d)
]

-- a store into an object leaves the sizes as they were
pub stored_sizes : (R : LiesAt) (heap : Heap) (n i : ℕ) (v : Value) → n < length heap.objects
    → ((line m : ℕ) → R line m → m < length heap.objects) → SameObjectSizes R heap (stored heap (Slot n i) v)
stored_sizes R heap n i v h there = record {
  roots = refl;
  there = λ line m y. rw (length-set heap.objects n (with_slot (object_at heap n) i v)) (there line m y);
  shapes = λ line m y. ap (λ j. shape_at heap j) (stored_shape heap n i m v h);
  counts = λ line m y. stored_length heap n i m v h;
}

-- a store into one slot
pub corresponds-put : (R : LiesAt) (directory : Directory) (size : ℕ) (c d : Words) (heap : Heap) (at n i : ℕ)
    (v : Value)
    → Corresponds R directory size c heap → R at n → i < length (values_of heap n)
    → SameButSlot R heap c d at i
    → Holds R (kind_of (shape_of directory.shapes d at) i) (object_slot d at i) v
    → Corresponds R directory size d (stored heap (Slot n i) v)
corresponds-put R directory size c d heap at n i v k r li s new =
    corresponds-agree R directory size c d heap (stored heap (Slot n i) v) k
    (stored_sizes R heap n i v there (λ line m y. (k.objects line m y).there)) record {
      heads = s.heads;
      slots = slot;
      at_roots = λ j h. rw (s.at_roots j (omega (arith, h, k.few)))
          (root_holds R directory size c heap k j h);
      unused = λ j low high. s.at_roots j high ∙ k.unused j low high;
    }
  where
    there : n < length heap.objects
    there = (k.objects at n r).there

    slot : (line m j : ℕ) → R line m → j < length (values_of heap m) → is_kept_slot heap m j ≡ true
        → Holds R (kind_of (shape_at heap (object_at heap m).shape) j) (object_slot d line j)
        (value_at (stored heap (Slot n i) v) (Slot m j))
    slot line m j q h kept =
        let value = value_at-stored heap (Slot n i) (Slot m j) v (there, li) in
        let was = slot_holds R directory size c heap k line m j q h kept in
        elim (cases_eq m n) [
          | inr ne ↦ (
              let f : nat_eq n m ≡ false = ne_eqb n m (λ g. ne (sym g)) in
              let held : value_at (stored heap (Slot n i) v) (Slot m j) ≡ value_at heap (Slot m j) =
              rw f at value in
              rw (
                held,
                s.slots line m q j h kept
                    (λ g _. ne (k.one_object at m n (subst (λ y. R y m) g q) r)),
              ) was)
          | inl e ↦ (
              let here : line ≡ at = k.one_line line at n (subst (R line) e q) r in
              let f : nat_eq n m ≡ true = eq-eqb n m (sym e) in
              elim (cases_eq j i) [
                | inl same ↦ (
                    let g : nat_eq i j ≡ true = eq-eqb i j (sym same) in
                    let held : value_at (stored heap (Slot n i) v) (Slot m j) ≡ v = rw (f, g) at value in
                    let shape : shape_of directory.shapes d at ≡ shape_at heap (object_at heap n).shape =
                    rw (s.heads at n r) (k.objects at n r).shape in
                    rw (held, here, same, e)
                    (subst (λ (one : Shape). Holds R (kind_of one i) (object_slot d at i) v) shape new))
                | inr apart ↦ (
                    let g : nat_eq i j ≡ false = ne_eqb i j (λ z. apart (sym z)) in
                    let held : value_at (stored heap (Slot n i) v) (Slot m j) ≡ value_at heap (Slot m j) =
                    rw (f, g) at value in
                    rw (held, s.slots line m q j h kept (λ _. apart)) was)
              ])
        ]

-- a store into the static of one root, which no other root has
pub corresponds-put_root : (R : LiesAt) (directory : Directory) (size : ℕ) (c d : Words) (heap : Heap)
    (at : ℕ) (v : Value)
    → Corresponds R directory size c heap → at < length heap.roots → root_static heap at < length heap.statics
    → ((r : ℕ) → r < length heap.roots → r ≢ at → root_static heap r ≢ root_static heap at)
    → SameButRoot R heap c d at → HoldsReference R (root_word d at) v
    → Corresponds R directory size d (stored heap (Static (root_static heap at)) v)
corresponds-put_root R directory size c d heap at v k there static own s new =
    corresponds-agree R directory size c d heap (stored heap place v) k
    (record {
      roots = refl;
      there = λ line n y. (k.objects line n y).there;
      shapes = λ line n y. refl;
      counts = λ line n y. refl;
    }) record {
      heads = s.heads;
      slots = λ line n i y below kept. rw (s.slots line n y i below kept)
          (slot_holds R directory size c heap k line n i y below kept);
      at_roots = root;
      unused = λ r low high. s.at_roots r high (λ e. absurd (omega (arith, e, low, there)))
          ∙ k.unused r low high;
    }
  where
    place : Place
    place = Static (root_static heap at)

    root : (r : ℕ) → r < length heap.roots
        → HoldsReference R (root_word d r) (value_at (stored heap (Static (root_static heap at)) v)
        (Static (root_static heap r)))
    root r h =
        let value = value_at-stored heap (Static (root_static heap at))
        (Static (root_static heap r)) v static in
        elim (cases_eq r at) [
          | inl e ↦ (
              let f : nat_eq (root_static heap at) (root_static heap r) ≡ true =
              eq-eqb (root_static heap at) (root_static heap r) (ap (λ x. root_static heap x) (sym e)) in
              let held : value_at (stored heap (Static (root_static heap at)) v)
              (Static (root_static heap r)) ≡ v = rw f at value in
              rw (held, e) new)
          | inr ne ↦ (
              let f : nat_eq (root_static heap at) (root_static heap r) ≡ false =
              ne_eqb (root_static heap at) (root_static heap r) (λ g. own r h ne (sym g)) in
              let held : value_at (stored heap (Static (root_static heap at)) v) (Static (root_static heap r))
              ≡ value_at heap (Static (root_static heap r)) = rw f at value in
              rw (held, s.at_roots r (omega (arith, h, k.few)) ne) (root_holds R directory size c heap k r h))
        ]

-- ---- other heaps, and more objects

-- a heap that is the same in the kept slots of the objects that lie somewhere
pub corresponds-other : (R : LiesAt) (directory : Directory) (size : ℕ) (words : Words) (heap other : Heap)
    → Corresponds R directory size words heap → SameObjects R heap other
    → Corresponds R directory size words other
corresponds-other R directory size words heap other k s =
    corresponds-agree R directory size words words heap other k
    (record { roots = s.roots; there = s.there; shapes = s.shapes; counts = s.counts }) record {
      heads = λ line n y. refl;
      slots = λ line n i y below kept. rw (s.slots line n i y below kept)
          (slot_holds R directory size words heap k line n i y below kept);
      at_roots = λ r h.
          let same : root_value_at other r ≡ root_value_at heap r =
          ap (λ (vs : List Value). slice_index_or vs r Null) s.values in
          let below : r < length other.roots = rw s.roots h in
          let value : value_at other (Static (root_static heap r)) ≡ root_value_at heap r =
          ap (λ (rs : List Root). value_at other
          (Static (slice_index_or (map (λ (root : Root). root.at) rs) r 0))) (sym s.roots)
          ∙ sym (root_value_is other r below) ∙ same in
          rw value (k.at_roots r h);
      unused = k.unused;
    }

-- ---- a relation that tells more

pub holds_more : (R Q : LiesAt) → ((line n : ℕ) → R line n → Q line n) → (w : ℕ) (v : Value)
    → HoldsReference R w v → HoldsReference Q w v
holds_more R Q f w Null hold = hold
holds_more R Q f w (Object n) hold = (hold.0, hold.1, f hold.0 n hold.2)
holds_more R Q f w (Int i) hold = absurd hold
holds_more R Q f w (Long i) hold = absurd hold

pub holds_too : (R Q : LiesAt) → ((line n : ℕ) → R line n → Q line n) → (kind : Kind) (w : ℕ) (v : Value)
    → Holds R kind w v → Holds Q kind w v
holds_too R Q f Z w v hold = hold
holds_too R Q f B w v hold = hold
holds_too R Q f C w v hold = hold
holds_too R Q f S w v hold = hold
holds_too R Q f I w v hold = hold
holds_too R Q f J w v hold = hold
holds_too R Q f Text w v hold = hold
holds_too R Q f L w v hold = holds_more R Q f w v hold

-- a relation that tells the same
pub corresponds-along : (R Q : LiesAt) (directory : Directory) (size : ℕ) (words : Words) (heap : Heap)
    → ((line n : ℕ) → R line n → Q line n) → ((line n : ℕ) → Q line n → R line n)
    → Corresponds R directory size words heap → Corresponds Q directory size words heap
corresponds-along R Q directory size words heap to back k = record {
  one_object = λ line m n x y. k.one_object line m n (back line m x) (back line n y);
  one_line = λ a b n x y. k.one_line a b n (back a n x) (back b n y);
  objects = λ line n y. let o = k.objects line n (back line n y) in record {
    there = o.there;
    known = o.known;
    shape = o.shape;
    count = o.count;
    full = o.full;
    low = o.low;
    high = o.high;
    slots = λ i h kept. holds_too R Q to (kind_of (shape_of directory.shapes words line) i)
        (object_slot words line i) (slice_index_or (values_of heap n) i Null) (o.slots i h kept);
  };
  apart = λ a b m n x y ne. k.apart a b m n (back a m x) (back b n y) ne;
  few = k.few;
  names = k.names;
  at_roots = λ r h. holds_more R Q to (root_word words r) (root_value_at heap r) (k.at_roots r h);
  unused = k.unused;
}

-- more objects, which lie elsewhere
pub corresponds-grow : (R N : LiesAt) (directory : Directory) (size : ℕ) (words : Words) (heap : Heap)
    → Corresponds R directory size words heap → CanJoin R N directory size words heap
    → Corresponds (Either R N) directory size words heap
corresponds-grow R N directory size words heap k j = record {
  one_object = λ line m n x y. elim y [
    | inr new ↦ j.one_object line m n x new
    | inl old ↦ elim x [
      | inl before ↦ k.one_object line m n before old
      | inr new ↦ sym (j.one_object line n m (inl old) new)
    ]
  ];
  one_line = λ a b n x y. elim y [
    | inr new ↦ j.one_line a b n x new
    | inl old ↦ elim x [
      | inl before ↦ k.one_line a b n before old
      | inr new ↦ sym (j.one_line b a n (inl old) new)
    ]
  ];
  objects = λ line n x. elim x [
    | inr new ↦ j.objects line n new
    | inl old ↦ (let o = k.objects line n old in record {
      there = o.there;
      known = o.known;
      shape = o.shape;
      count = o.count;
      full = o.full;
      low = o.low;
      high = o.high;
      slots = λ i h kept. holds_too R (Either R N) (λ b m r. inl r)
          (kind_of (shape_of directory.shapes words line) i)
          (object_slot words line i) (slice_index_or (values_of heap n) i Null) (o.slots i h kept);
    })
  ];
  apart = λ a b m n x y ne. elim y [
    | inr new ↦ j.apart a b m n x new ne
    | inl old ↦ elim x [
      | inl before ↦ k.apart a b m n before old ne
      | inr new ↦ (let f : b ≢ a = λ e. ne (sym e) in
          elim (j.apart b a n m (inl old) new f) [ inl z ↦ inr z | inr z ↦ inl z ])
    ]
  ];
  few = k.few;
  names = k.names;
  at_roots = λ r h. holds_more R (Either R N) (λ b m y. inl y) (root_word words r) (root_value_at heap r)
      (k.at_roots r h);
  unused = k.unused;
}
