-- Words of an image for small heaps of three nodes.
use Rattle.std.proofs.Common.{◌≡◌, ◌≢◌, inl, inr, ⊎_elim, ℕ, zero, suc, pos, ◌+◌, ◌-◌, ◌/◌, ◌%◌, ◌*◌, ◌^◌, ◌<◌, ◌≤◌, Bool, true}
use Rattle.std.proofs.Common.{false, ◌&&◌, nat_eq, nat_lt, List, [], ◌∷◌, length, refl, sym, ◌∙◌, ap, subst, arith}
use Rattle.std.proofs.Common.{if◌then◌else◌, eq-eqb, ne_eqb, lt-ltb, le-ltb, eqb-true, ltb-true, slice_index_or}
use Rattle.std.specs.Prelude.{Ok}
use Rattle.std.proofs.lemmas.Bool.{cases_lt, and_parts, true≢false}
use Rattle.ap_base.specs.declared.kind.Kind.TheVariants.{I}
use Rattle.graph_model.specs.declared.types.Value.{Value}
use Rattle.graph_model.specs.declared.types.Value.TheVariants.{Int, Long, Null, Obj as Object}
use Rattle.graph_model.specs.declared.types.Heap.{Heap}
use Rattle.image_layout.specs.Places.{magic, log_head_line, first_object_line, object_line, object_word, slot_line, slot_word}
use Rattle.image_layout.specs.Places.{root_slots}
use Rattle.image_meaning.specs.Checks.{Words}
use Rattle.image_meaning.specs.Directories.{Directory, directory_of, with_entries}
use Rattle.image_meaning.specs.Entries.{ShapeEntry, RootEntry, read_entry, is_shape}
use Rattle.image_meaning.specs.Directories.{spelled_all}
use Rattle.image_meaning.specs.Objects.{kind_of, object_slot, length_at}
use Rattle.image_meaning.specs.Logs.{put_back, NoneLogged}
use Rattle.image_meaning.specs.Corresponds.{LiesAt, Holds, HoldsReference, HoldsNumber, IsObject, AreApart, Corresponds}
use Rattle.image_meaning.specs.Corresponds.{SameWords}
use Rattle.image_meaning.specs.Laws.{Opens, told_by}
use Rattle.image_meaning.proofs.Logs.{logs_fault-none, put_back-none, not_log_before, not_log_after}
use Rattle.image_meaning.proofs.Changes.{corresponds-same}
use Rattle.run_history.specs.Ring.{node}
use Rattle.stop_theorem.specs.WrongOrders.{three_nodes, IsOfAnImage}

-- object n lies at the n-th line of objects
pub lies : ℕ → ℕ → Bool
lies line n = nat_lt n 3 && nat_eq line (first_object_line + n)

abbrev pub R : LiesAt
R = told_by lies

abbrev pub front_directory : Directory
front_directory = record { shapes = node ∷ []; roots = (104 ∷ []) ∷ [] }

abbrev directory_list : List ℕ
directory_list = spelled_all (ShapeEntry node ∷ RootEntry (104 ∷ []) ∷ [])

-- the word of a reference
abbrev word_of : Value → ℕ
word_of (Object n) = 2 * (first_object_line + n)
word_of v = 0

abbrev refers : Value → Bool
refers Null = true
refers (Object n) = nat_lt n 3
refers (Int i) = false
refers (Long i) = false

-- a node's words: the head, and its two slots
abbrev node_word : ℕ → Value → ℕ → ℕ
node_word i r w = slice_index_or (2 ^ 33 ∷ i ∷ word_of r ∷ []) w 0

abbrev low_word : ℕ → ℕ → ℕ → ℕ
low_word root line w =
    if nat_eq line 0 then slice_index_or (magic ∷ 1 ∷ 32768 ∷ length directory_list ∷ []) w 0
    else (if nat_lt line 33 then (if nat_eq (8 * line + w) 8 then root else 0)
    else slice_index_or directory_list (8 * (line - 33) + w) 0)

abbrev high_word : ℕ → ℕ → ℕ → Value → Value → Value → ℕ → ℕ → ℕ
high_word i0 i1 i2 r0 r1 r2 line w =
    if nat_eq line 20577 then node_word i0 r0 w
    else (if nat_eq line 20578 then node_word i1 r1 w
    else (if nat_eq line 20579 then node_word i2 r2 w else 0))

ref_holds : (v : Value) → refers v ≡ true → HoldsReference R (word_of v) v
unfolding lies
ref_holds Null h = refl
ref_holds (Object n) h = (
  first_object_line + n,
  refl,
  (let both : (nat_lt n 3 && nat_eq (first_object_line + n) (first_object_line + n)) ≡ true =
      rw (h, eq-eqb (first_object_line + n) (first_object_line + n) refl) refl in both),
)
ref_holds (Int i) h = absurd (true≢false (sym h))
ref_holds (Long i) h = absurd (true≢false (sym h))

pub where_lies : (line n : ℕ) → R line n → (n < 3) × (line ≡ first_object_line + n)
unfolding lies
where_lies line n h =
    let parts = and_parts (nat_lt n 3) (nat_eq line (first_object_line + n)) h in
    (ltb-true n 3 parts.0, eqb-true line (first_object_line + n) parts.1)

pub lies_so : (line n : ℕ) → n < 3 → line ≡ first_object_line + n → R line n
unfolding lies
lies_so line n below at = rw (lt-ltb n 3 below, eq-eqb line (first_object_line + n) at) refl

module _ (root : Value) (i0 i1 i2 : ℕ) (r0 r1 r2 : Value) (at : refers root ≡ true)
    (n0 : HoldsNumber I i0 (Int (pos i0))) (n1 : HoldsNumber I i1 (Int (pos i1)))
    (n2 : HoldsNumber I i2 (Int (pos i2))) (h0 : refers r0 ≡ true) (h1 : refers r1 ≡ true)
    (h2 : refers r2 ≡ true) where
  abbrev pub words : Words
  words line w =
      if nat_lt line 4129 then low_word (word_of root) line w
      else (if nat_lt line 20577 then 0 else high_word i0 i1 i2 r0 r1 r2 line w)

  abbrev heap : Heap
  heap = three_nodes root (Int (pos i0) ∷ r0 ∷ []) (Int (pos i1) ∷ r1 ∷ []) (Int (pos i2) ∷ r2 ∷ [])

  pub unlogged : NoneLogged words
  unlogged t below =
      rw (
        le-ltb (log_head_line t) 4129 (omega arith),
        lt-ltb (log_head_line t) 20577
            (omega (arith, below)),
      ) refl

  reads : directory_of words ≡ Ok front_directory
  unfolding directory_of with_entries read_entry is_shape
  reads = refl

  pub opens : Opens 32768 words front_directory
  opens = record {
    super = refl;
    used = λ e. (let no : magic ≡ 0 = e in absurd (omega (arith, no)));
    entries = reads;
    logs = logs_fault-none 32768 words unlogged;
  }

  slots_at : (v : ℕ) (r : Value) → HoldsNumber I v (Int (pos v)) → refers r ≡ true → (i : ℕ) → i < 2
      → Holds R (kind_of node i) (slice_index_or (v ∷ word_of r ∷ []) i 0)
      (slice_index_or (Int (pos v) ∷ r ∷ []) i Null)
  slots_at v r number refer zero below = number
  slots_at v r number refer (suc zero) below = ref_holds r refer
  slots_at v r number refer (suc (suc i)) below = absurd (omega (arith, below))

  slot_word_is : (line v : ℕ) (r : Value) → ((w : ℕ) → words line w ≡ node_word v r w) → (i : ℕ) → i < 2
      → object_slot words line i ≡ slice_index_or (v ∷ word_of r ∷ []) i 0
  slot_word_is line v r is zero below = (let e : line + (0 + 1) / 8 ≡ line = omega arith in rw e (is 1))
  slot_word_is line v r is (suc zero) below = (let e : line + (1 + 1) / 8 ≡ line = omega arith in rw e (is 2))
  slot_word_is line v r is (suc (suc i)) below = absurd (omega (arith, below))

  object : (n : ℕ) → n < 3 → IsObject R (node ∷ []) 32768 words heap (first_object_line + n) n
  object zero below = record {
    there = omega arith;
    known = omega arith;
    shape = refl;
    count = refl;
    full = refl;
    low = omega arith;
    high = omega arith;
    slots = λ i small kept. subst (λ w. Holds R (kind_of node i) w
        (slice_index_or (Int (pos i0) ∷ r0 ∷ []) i Null)) (sym (slot_word_is 20577 i0 r0 (λ w. refl) i small))
        (slots_at i0 r0 n0 h0 i small);
  }
  object (suc zero) below = record {
    there = omega arith;
    known = omega arith;
    shape = refl;
    count = refl;
    full = refl;
    low = omega arith;
    high = omega arith;
    slots = λ i small kept. subst (λ w. Holds R (kind_of node i) w
        (slice_index_or (Int (pos i1) ∷ r1 ∷ []) i Null)) (sym (slot_word_is 20578 i1 r1 (λ w. refl) i small))
        (slots_at i1 r1 n1 h1 i small);
  }
  object (suc (suc zero)) below = record {
    there = omega arith;
    known = omega arith;
    shape = refl;
    count = refl;
    full = refl;
    low = omega arith;
    high = omega arith;
    slots = λ i small kept. subst (λ w. Holds R (kind_of node i) w
        (slice_index_or (Int (pos i2) ∷ r2 ∷ []) i Null)) (sym (slot_word_is 20579 i2 r2 (λ w. refl) i small))
        (slots_at i2 r2 n2 h2 i small);
  }
  object (suc (suc (suc n))) below = absurd (omega (arith, below))

  length_is : (n : ℕ) → n < 3 → length_at words (first_object_line + n) ≡ 2
  length_is zero below = refl
  length_is (suc zero) below = refl
  length_is (suc (suc zero)) below = refl
  length_is (suc (suc (suc n))) below = absurd (omega (arith, below))

  length_there : (line n : ℕ) → R line n → length_at words line ≡ 2
  length_there line n is =
      let at = where_lies line n is in ap (λ l. length_at words l) at.1 ∙ length_is n at.0

  apart : (a b m n : ℕ) → R a m → R b n → a ≢ b → AreApart words a b
  apart a b m n x y differ =
      let one = length_there a m x in
      let two = length_there b n y in
      ⊎_elim
      (λ (less : a < b). inl (rw one (omega (arith, less))))
      (λ (more : b ≤ a). inr (rw two (omega (arith, more, (let ne : a ≢ b = differ in ne)))))
      (cases_lt a b)

  unused : (r : ℕ) → 1 ≤ r → r < root_slots → words (slot_line r) (slot_word r) ≡ 0
  unused r some few =
      rw (
        lt-ltb (1 + r / 8) 4129 (omega (arith, few)),
        ne_eqb (1 + r / 8) 0 (λ e. omega (arith, e)),
        lt-ltb
            (1 + r / 8) 33 (omega (arith, few)),
        ne_eqb (8 * (1 + r / 8) + r % 8) 8
            (λ e. omega (arith, e, some)),
      ) refl

  at_root : (r : ℕ) → r < 1 → HoldsReference R (words (slot_line r) (slot_word r))
      (slice_index_or (root ∷ []) r Null)
  at_root zero below = ref_holds root at
  at_root (suc r) below = absurd (omega (arith, below))

  pub corresponds : Corresponds R front_directory 32768 words heap
  corresponds = record {
    one_object = λ line m n x y. (let a = (where_lies line m x).1 in let b = (where_lies line n y).1 in
        omega (arith, a, b));
    one_line = λ a b n x y. (where_lies a n x).1 ∙ sym (where_lies b n y).1;
    objects = λ line n x. (let at = where_lies line n x in
        subst (λ l. IsObject R (node ∷ []) 32768 words heap l n) (sym at.1) (object n at.0));
    apart = apart;
    few = omega arith;
    names = refl;
    at_roots = at_root;
    unused = unused;
  }

  same : SameWords R heap words (put_back words)
  same = record {
    heads = λ line n x. (let at = where_lies line n x in
        put_back-none words unlogged line 0 (not_log_after line (omega (arith, at.1))));
    slots = λ line n x i below kept. (let at = where_lies line n x in
        put_back-none words unlogged (object_line line i) (object_word i)
        (not_log_after (object_line line i) (omega (arith, at.1))));
    at_roots = λ r below. put_back-none words unlogged (slot_line r) (slot_word r)
        (not_log_before (slot_line r) (omega (arith, below)));
  }

  pub corresponds_back : Corresponds R front_directory 32768 (put_back words) heap
  corresponds_back = corresponds-same R front_directory 32768 words (put_back words) heap corresponds same

  pub of_an_image : IsOfAnImage heap
  of_an_image = record {
    lies = lies;
    size = 32768;
    words = words;
    directory = front_directory;
    opens = opens;
    corresponds = corresponds_back;
  }
