-- In a run that begins, a group of two objects is sealed.
use Rattle.std.proofs.Common.{◌≡◌, inl, inr, ℕ, ◌+◌, ◌/◌, ◌%◌, ◌<◌, ◌==◌, true, false, List, [], ◌∷◌, Result, Ok, refl, sym}
use Rattle.std.proofs.Common.{◌∙◌, ap, subst, arith, nat_eq, eq-eqb, ne_eqb, slice_index_or}
use Rattle.std.proofs.lemmas.Bool.{cases_Bool, cases_eq, true≢false, and_parts, eqb-true}
use Rattle.graph_model.specs.declared.types.Value.TheVariants.{Null, Obj as Object}
use Rattle.graph_model.specs.declared.types.Heap.{Heap}
use Rattle.graph_model.specs.Heaps.{has_number, values_of}
use Rattle.line_image.specs.declared.effect.Done.TheVariants.{Fenced}
use Rattle.line_memory.specs.Memory.{line_shown, shown, IsWritten}
use Rattle.image_layout.specs.Places.{first_object_line}
use Rattle.image_meaning.specs.Directories.{Directory, directory_of}
use Rattle.image_meaning.specs.Checks.{Bad}
use Rattle.image_meaning.specs.Objects.{shape_of, kind_of, object_slot}
use Rattle.image_meaning.specs.Corresponds.{LiesAt, IsObject, Corresponds, Either, CanJoin}
use Rattle.image_meaning.specs.Laws.{Opens}
use Rattle.image_meaning.proofs.Changes.{corresponds-same, holds_too}
use Rattle.image_meaning.proofs.Opened.{opens-same}
use Rattle.stop_theorem.specs.Choices.{NoThread}
use Rattle.stop_theorem.specs.Layouts.{Layout, Lies}
use Rattle.stop_theorem.specs.Stops.{Stands}
use Rattle.stop_theorem.proofs.Allowed.{lies_parts}
use Rattle.stop_theorem.specs.Running.{at_start}
use Rattle.stop_theorem.specs.WrongOrders.{nodes_known}
use Rattle.stop_theorem.specs.GivenCopies.{LieAt, IsWrittenGroup, OneGroupIsSealed}
use Rattle.stop_theorem.proofs.Images.{R, where_lies, lies_so, front_directory, opens, corresponds}
use Rattle.stop_theorem.proofs.Begun.{node_words, memory, logs_same, front_same, words_same, size_is, counted, small, begun}
use Rattle.stop_theorem.proofs.Fenced.{after_call, fenced_all}
use Rattle.stop_theorem.proofs.Groups.{fenced_groups}

abbrev heap : Heap
heap = nodes_known.world.heap

abbrev group : List ℕ
group = 1 ∷ 2 ∷ []

abbrev at : ℕ → ℕ
at n = first_object_line + n

abbrev New : LiesAt
New = LieAt group at

-- each object corresponds, as R tells where it lies
all : Corresponds R front_directory 32768 (shown memory) heap
all = corresponds-same R front_directory 32768 node_words (shown memory) heap
    (corresponds (Object 0) 5 6 7 Null (Object 2) Null refl (refl, refl) (refl, refl)
    (refl, refl) refl refl refl)
    words_same

front_opens : Opens 32768 (shown memory) front_directory
front_opens = opens-same 32768 node_words (shown memory) front_directory
    (opens (Object 0) 5 6 7 Null (Object 2) Null refl (refl, refl) (refl, refl) (refl, refl) refl refl refl)
    front_same logs_same

same_ok : (a b : Directory) (read : Result Directory Bad) → read ≡ Ok a → read ≡ Ok b → a ≡ b
same_ok a b read x y = let both : Ok a ≡ Ok b = sym x ∙ y in cc

-- which objects these are
in_group : (n : ℕ) → has_number group n ≡ true → (0 < n) × (n < 3)
in_group n is = elim (cases_Bool (nat_eq 1 n)) [
  | inl one ↦ (let e = eqb-true 1 n one in (omega (arith, e), omega (arith, e)))
  | inr not_one ↦ elim (cases_Bool (nat_eq 2 n)) [
    | inl two ↦ (let e = eqb-true 2 n two in (omega (arith, e), omega (arith, e)))
    | inr not_two ↦ absurd (true≢false (sym is
        ∙ (let neither : has_number group n ≡ false = rw (not_one, not_two) refl in neither)))
  ]
]

of_group : (n : ℕ) → 0 < n → n < 3 → has_number group n ≡ true
of_group n low high = elim (cases_eq n 1) [
  | inl one ↦ rw one refl
  | inr not_one ↦ (let two : n ≡ 2 = omega (arith, low, high, not_one) in rw two refl)
]

only_zero : (n : ℕ) → has_number nodes_known.durable n ≡ true → n ≡ 0
only_zero n is = elim (cases_Bool (nat_eq 0 n)) [
  | inl zero_is ↦ sym (eqb-true 0 n zero_is)
  | inr other ↦ absurd (true≢false (sym is
      ∙ (let neither : has_number nodes_known.durable n ≡ false = rw other refl in neither)))
]

-- all words are written
written : (l w : ℕ) → IsWritten memory l w
unfolding line_shown memory
written l w = refl

module _ (lay : Layout) (s : Stands heap nodes_known lay NoThread memory) where
  size : lay.size ≡ 32768
  size = sym s.size ∙ size_is

  directory_is : lay.directory ≡ front_directory
  directory_is =
      same_ok lay.directory front_directory (directory_of (shown memory))
      (s.leaves (shown memory) (λ l w. inl refl)).opens.entries front_opens.entries

  -- object 0 lies where R tells, as the root refers to it
  line_zero : lay.line_of 0 ≡ first_object_line
  line_zero =
      let mine = s.shows.at_roots 0 (omega arith) in
      let told = all.at_roots 0 (omega arith) in
      let line = (lies_parts lay nodes_known mine.0 0 mine.2).1 in
      let where_told = (where_lies told.0 0 told.2).1 in
      let one = mine.1 in
      let two = told.1 in
      omega (arith, line, where_told, one, two)

  from_new : (line n : ℕ) → New line n → R line n
  from_new line n is =
      let parts = and_parts (has_number group n) (at n == line) is in
      lies_so line n (in_group n parts.0).1 (sym (eqb-true (at n) line parts.1))

  from_either : (line n : ℕ) → Either (Lies lay nodes_known) New line n → R line n
  from_either line n (inl old) =
      let parts = lies_parts lay nodes_known line n old in
      let zero_is = only_zero n parts.0 in
      lies_so line n (omega (arith, zero_is))
      (sym parts.1 ∙ ap lay.line_of zero_is ∙ line_zero
      ∙ (let e : first_object_line ≡ at n = omega (arith, zero_is) in e))
  from_either line n (inr new) = from_new line n new

  to_either : (line n : ℕ) → R line n → Either (Lies lay nodes_known) New line n
  to_either line n r =
      let told = where_lies line n r in
      elim (cases_eq n 0) [
        | inl zero_is ↦ inl (
            let here : lay.line_of n ≡ line =
            ap lay.line_of zero_is ∙ line_zero ∙ (let e : first_object_line ≡ line =
            omega (arith, told.1, zero_is) in e) in
            let durable : has_number nodes_known.durable n ≡ true = rw zero_is refl in
            rw (durable, eq-eqb (lay.line_of n) line here) refl)
        | inr more ↦ inr (
            rw (of_group n (omega (arith, more)) told.0, eq-eqb (at n) line (sym told.1)) refl)
      ]

  object_there : (line n : ℕ) → New line n
      → IsObject (Either (Lies lay nodes_known) New) front_directory.shapes 32768 (shown memory) heap line n
  object_there line n is =
      let o = all.objects line n (from_new line n is) in
      record {
        there = o.there;
        known = o.known;
        shape = o.shape;
        count = o.count;
        full = o.full;
        low = o.low;
        high = o.high;
        slots = λ i h kept. holds_too R (Either (Lies lay nodes_known) New) to_either
            (kind_of (shape_of front_directory.shapes (shown memory) line) i)
            (object_slot (shown memory) line i) (slice_index_or (values_of heap n) i Null) (o.slots i h kept);
      }

  closed : CanJoin (Lies lay nodes_known) New lay.directory lay.size (shown memory) heap
  closed = record {
    objects = λ line n is.
        subst (λ (d : Directory). IsObject (Either (Lies lay nodes_known) New) d.shapes lay.size
        (shown memory)
        heap line n) (sym directory_is)
        (subst (λ k. IsObject (Either (Lies lay nodes_known) New) front_directory.shapes k (shown memory)
        heap line n) (sym size) (object_there line n is));
    one_object = λ line m n x y. all.one_object line m n (from_either line m x) (from_new line n y);
    one_line = λ a b n x y. all.one_line a b n (from_either a n x) (from_new b n y);
    apart = λ a b m n x y ne. all.apart a b m n (from_either a m x) (from_new b n y) ne;
  }

  is_group : IsWrittenGroup nodes_known lay memory group at
  is_group = record {
    fresh = λ n is. (let low = (in_group n is).0 in rw (ne_eqb 0 n (λ e. omega (arith, e, low))) refl);
    closed = closed;
    heads = λ n is. written (at n) 0;
    slots = λ n i is below kept. written ((at n) + (i + 1) / 8) ((i + 1) % 8);
  }

pub one_group : OneGroupIsSealed
one_group =
    let start = at_start begun.0 memory in
    let stands = begun.1.stands in
    record {
      state = start;
      fenced = after_call Fenced memory;
      at = at;
      nothing_yet = refl;
      runs = begun.1;
      events = fenced_groups nodes_known start (after_call Fenced memory) 0 group at stands
          (let e = size begun.0 stands in omega (arith, e)) (is_group begun.0 stands)
          (fenced_all memory counted small);
    }
