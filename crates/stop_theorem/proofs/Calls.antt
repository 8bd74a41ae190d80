-- Calls of the image, and stores of one word: what a stop may leave then, and what it might leave before.
use Rattle.std.proofs.Common.{◌≡◌, ◌≢◌, ◌⊎◌, inl, inr, ⊎_elim, ℕ, ◌+◌, ◌<◌, ◌≤◌, ◌==◌, true, ◌&&◌, List, length, refl, sym, ◌∙◌}
use Rattle.std.proofs.Common.{subst, arith, if◌then◌else◌}
use Rattle.std.proofs.lemmas.Bool.{cases_eq, true≢false, eq-eqb, ne_eqb}
use Rattle.graph_model.specs.declared.types.Heap.{Heap}
use Rattle.graph_model.specs.Heaps.{has_number, values_of}
use Rattle.line_image.specs.Trace.{Outcome, MayLeave}
use Rattle.line_image.specs.Told.{Told}
use Rattle.line_memory.specs.Memory.{Memory, shown, ReadsWord, CanLeave, CanLeaveAll}
use Rattle.image_layout.specs.Places.{slot_line, slot_word, object_line, object_word, lines_of}
use Rattle.image_meaning.specs.Corresponds.{Corresponds}
use Rattle.image_meaning.proofs.Changes.{corresponds-same}
use Rattle.run_history.specs.Knowing.{Knowledge}
use Rattle.stop_theorem.specs.Choices.{Threads, NoThread}
use Rattle.stop_theorem.specs.Orderly.{IsOrderly}
use Rattle.stop_theorem.specs.Layouts.{Layout, Lies, KeepsPlaces}
use Rattle.stop_theorem.specs.Stops.{IsCovered, IsAfterFence, Stands}
use Rattle.stop_theorem.specs.InvariantEvents.{Calls, Puts}
use Rattle.stop_theorem.proofs.Places.{roots_still, apart_still, no_heads_still}

-- ---- calls of the image

-- the head of an object of an image is one of its lines
in_range : (size line n : ℕ) → line + lines_of n ≤ size → line < size
in_range size line n high = omega (arith, high)

slot_in_range : (size line n i : ℕ) → line + lines_of n ≤ size → i < n → object_line line i < size
slot_in_range size line n i high below = omega (arith, high, below)

module _ (first : Heap) (known : Knowledge) (lay : Layout) (Waits : Threads) (old new : Memory)
    (s : Stands first known lay Waits old) (calls : Calls old new) where
  can_leave_before : (c : Outcome) → CanLeaveAll new c → CanLeaveAll old c
  can_leave_before c left l w = calls.leaves l w (c l w) (left l w)

  after_fence_before : (c : Outcome) → IsAfterFence new c → IsAfterFence old c
  after_fence_before c after l w below =
      let inside : l < new.size = omega (arith, below, calls.size) in
      ⊎_elim
      (λ (is : c l w ≡ shown new l w). inl (is ∙ calls.shows l w below))
      (λ (is : ReadsWord new.image.trace l w (c l w)). ⊎_elim
      (λ (r : ReadsWord old.image.trace l w (c l w)). inr r)
      (λ (e : c l w ≡ shown old l w). inl e)
      (calls.reads l w (c l w) below is))
      (after l w inside)

  -- A call of the image keeps it all.
  pub stands_call : 33 ≤ lay.size → Stands first known lay Waits new
  stands_call enough = record {
    orderly = s.orderly;
    size = calls.size ∙ s.size;
    roots = s.roots;
    shows = corresponds-same (Lies lay known) lay.directory lay.size (shown old)
        (shown new) known.world.heap s.shows (record {
          heads = λ line n y. let o = s.shows.objects line n y in let e = s.size in
              calls.shows line 0
              (rw e (in_range lay.size line (length (values_of known.world.heap n)) o.high));
          slots = λ line n y i below mark. let o = s.shows.objects line n y in let e = s.size in
              calls.shows (object_line line i) (object_word i)
              (rw e (slot_in_range lay.size line (length (values_of known.world.heap n)) i o.high below));
          at_roots = λ r below. let e = s.size in
              calls.shows (slot_line r) (slot_word r) (omega (arith, below, enough, e));
        });
    heads = λ n is.
        let o = s.shows.objects (lay.line_of n) n
        (rw (is, eq-eqb (lay.line_of n) (lay.line_of n) refl) refl) in
        let e = s.size in
        calls.shows (lay.line_of n) 0 (rw e
        (in_range lay.size (lay.line_of n) (length (values_of known.world.heap n)) o.high))
        ∙ s.heads n is;
    apart = s.apart;
    no_heads = s.no_heads;
    leaves = λ c left. s.leaves c (can_leave_before c left);
    fenced = λ c left after. s.fenced c (can_leave_before c left) (after_fence_before c after);
  }

-- ---- stores of one word

pub put_word : Outcome → ℕ → ℕ → ℕ → Outcome
put_word c line word x l w = if l == line && w == word then x else c l w

pub put_here : (c : Outcome) (line word x : ℕ) → put_word c line word x line word ≡ x
unfolding put_word
put_here c line word x = rw (eq-eqb line line refl, eq-eqb word word refl) refl

pub put_there : (c : Outcome) (line word x l w : ℕ) → (l ≡ line → w ≢ word)
    → put_word c line word x l w ≡ c l w
unfolding put_word
put_there c line word x l w other = elim (cases_eq l line) [
  | inr ne ↦ rw (ne_eqb l line ne) refl
  | inl e ↦ rw (eq-eqb l line e, ne_eqb w word (other e)) refl
]

module _ (old new : Memory) (line word x : ℕ) (puts : Puts line word x old new) where
  -- the words with the old one
  pub before : Outcome → Outcome
  before d = put_word d line word (shown old line word)

  pub same_before : (d : Outcome) (l w : ℕ) → (l ≡ line → w ≢ word) → d l w ≡ before d l w
  unfolding before
  same_before d l w other = sym (put_there d line word (shown old line word) l w other)

  told_same : (l w v : ℕ) → MayLeave new.image.trace l w v → MayLeave old.image.trace l w v
  told_same l w v may = subst (λ (t : Told). MayLeave t.trace l w v) puts.same.image may

  reads_same : (l w v : ℕ) → ReadsWord new.image.trace l w v → ReadsWord old.image.trace l w v
  reads_same l w v may = subst (λ (t : Told). ReadsWord t.trace l w v) puts.same.image may

  elsewhere : (d : Outcome) → CanLeaveAll new d → (l w : ℕ) → (l ≡ line → w ≢ word) → CanLeave old l w (d l w)
  elsewhere d left l w other = ⊎_elim (λ (is : d l w ≡ shown new l w). inl (is ∙ puts.others l w other))
      (λ (may : MayLeave new.image.trace l w (d l w)). inr (told_same l w (d l w) may)) (left l w)

  pub could_before : (d : Outcome) → CanLeaveAll new d → CanLeaveAll old (before d)
  unfolding before
  could_before d left l w = elim (cases_eq l line) [
    | inr ne ↦ subst (λ v. CanLeave old l w v)
        (sym (put_there d line word (shown old line word) l w (λ e. absurd (ne e))))
        (elsewhere d left l w (λ e. absurd (ne e)))
    | inl e ↦ elim (cases_eq w word) [
      | inr ne ↦ subst (λ v. CanLeave old l w v)
          (sym (put_there d line word (shown old line word) l w (λ _. ne))) (elsewhere d left l w (λ _. ne))
      | inl f ↦ rw (e, f) (inl (put_here d line word (shown old line word)))
    ]
  ]

  elsewhere_after : (d : Outcome) → IsAfterFence new d → (l w : ℕ) → l < old.size → (l ≡ line → w ≢ word)
      → (d l w ≡ shown old l w) ⊎ ReadsWord old.image.trace l w (d l w)
  elsewhere_after d after l w below other =
      ⊎_elim (λ (is : d l w ≡ shown new l w). inl (is ∙ puts.others l w other))
      (λ (may : ReadsWord new.image.trace l w (d l w)). inr (reads_same l w (d l w) may))
      (after l w (omega (arith, below, puts.size)))

  pub after_before : (d : Outcome) → IsAfterFence new d → IsAfterFence old (before d)
  unfolding before
  after_before d after l w below = elim (cases_eq l line) [
    | inr ne ↦ subst (λ v. (v ≡ shown old l w) ⊎ ReadsWord old.image.trace l w v)
        (sym (put_there d line word (shown old line word) l w (λ e. absurd (ne e))))
        (elsewhere_after d after l w below (λ e. absurd (ne e)))
    | inl e ↦ elim (cases_eq w word) [
      | inr ne ↦ subst (λ v. (v ≡ shown old l w) ⊎ ReadsWord old.image.trace l w v)
          (sym (put_there d line word (shown old line word) l w (λ _. ne)))
          (elsewhere_after d after l w below (λ _. ne))
      | inl f ↦ rw (e, f) (inl (put_here d line word (shown old line word)))
    ]
  ]

  -- the new value is left there, or what could be left before
  pub new_or_old : (d : Outcome) → CanLeaveAll new d → (d line word ≡ x) ⊎ CanLeaveAll old d
  new_or_old d left = ⊎_elim
      (λ (is : d line word ≡ shown new line word). inl (is ∙ puts.here))
      (λ (may : MayLeave new.image.trace line word (d line word)). inr (λ l w. elim (cases_eq l line) [
        | inr ne ↦ elsewhere d left l w (λ e. absurd (ne e))
        | inl e ↦ elim (cases_eq w word) [
          | inr ne ↦ elsewhere d left l w (λ _. ne)
          | inl f ↦ rw (e, f) (inr (told_same line word (d line word) may))
        ]
      ]))
      (left line word)

  pub new_or_old_after : (d : Outcome) → line < old.size → CanLeaveAll new d → IsAfterFence new d
      → (d line word ≡ x) ⊎ (CanLeaveAll old d × IsAfterFence old d)
  new_or_old_after d inside left after = ⊎_elim
      (λ (is : d line word ≡ x). inl is)
      (λ (old_left : CanLeaveAll old d). ⊎_elim
      (λ (is : d line word ≡ shown new line word). inl (is ∙ puts.here))
      (λ (may : ReadsWord new.image.trace line word (d line word)). inr (
        old_left,
        λ l w below. elim (cases_eq l line) [
          | inr ne ↦ elsewhere_after d after l w below (λ e. absurd (ne e))
          | inl e ↦ elim (cases_eq w word) [
            | inr ne ↦ elsewhere_after d after l w below (λ _. ne)
            | inl f ↦ rw (e, f) (inr (reads_same line word (d line word) may))
          ]
        ],
      ))
      (after line word (omega (arith, inside, puts.size))))
      (new_or_old d left)

-- A store of one word, with the act that goes with it. Where the old word is left, it is as if the store were
-- lost; where the new one is, one word has changed.
pub stands_store_by : (first : Heap) (known next : Knowledge) (lay : Layout) (Waits : Threads)
    (old new : Memory) (line word x : ℕ) → Puts line word x old new → line < old.size
    → KeepsPlaces known next → IsOrderly first next
    → Corresponds (Lies lay next) lay.directory lay.size (shown new) next.world.heap
    → ((n : ℕ) → has_number known.durable n ≡ true → line ≡ lay.line_of n → word ≢ 0)
    → ((K : Threads) (c : Outcome) → ((u : ℕ) → K u ≡ true → Waits u ≡ true) → CanLeaveAll old c
    → IsCovered first known lay K c → IsCovered first next lay K c)
    → ((K : Threads) (c d : Outcome) → ((u : ℕ) → K u ≡ true → Waits u ≡ true)
    → ((e : Outcome) → CanLeaveAll old e → (IsAfterFence old c → IsAfterFence old e)
    → IsCovered first known lay K e)
    → CanLeaveAll old c → CanLeaveAll new d → ((l w : ℕ) → (l ≡ line → w ≢ word) → d l w ≡ c l w)
    → d line word ≡ x → IsCovered first next lay K d)
    → Stands first known lay Waits old → Stands first next lay Waits new
stands_store_by first known next lay Waits old new line word x puts inside places orderly shows no_head lost
    made s =
    let none : (u : ℕ) → NoThread u ≡ true → Waits u ≡ true = λ u is. absurd (true≢false (sym is)) in
    let of_durable : (n : ℕ) → has_number next.durable n ≡ true → has_number known.durable n ≡ true =
    λ n is. subst (λ (ns : List ℕ). has_number ns n ≡ true) places.durable is in
    let roots = places.roots in
    record {
      orderly = orderly;
      size = puts.size ∙ s.size;
      roots = roots_still first known next lay Waits Waits old places s.roots;
      shows = shows;
      heads = λ n is. puts.others (lay.line_of n) 0 (λ e f. no_head n (of_durable n is) (sym e) (sym f))
          ∙ s.heads n (of_durable n is);
      apart = apart_still first known next lay Waits Waits old places s.apart;
      no_heads = no_heads_still first known next lay Waits Waits old places s.no_heads;
      leaves = λ d left. ⊎_elim
          (λ (is : d line word ≡ x). made NoThread (before old new line word x puts d) d none
          (λ e could_leave _. s.leaves e could_leave) (could_before old new line word x puts d left) left
          (same_before old new line word x puts d) is)
          (λ (left_before : CanLeaveAll old d). lost NoThread d none left_before (s.leaves d left_before))
          (new_or_old old new line word x puts d left);
      fenced = λ d left after. ⊎_elim
          (λ (is : d line word ≡ x). made Waits (before old new line word x puts d) d (λ u is. is)
          (λ e could_leave goes. s.fenced e could_leave
          (goes (after_before old new line word x puts d after)))
          (could_before old new line word x puts d left) left (same_before old new line word x puts d) is)
          (λ (both : CanLeaveAll old d × IsAfterFence old d). lost Waits d (λ u e. e) both.0
          (s.fenced d both.0 both.1))
          (new_or_old_after old new line word x puts d inside left after);
    }

-- So it is where an outcome with the new word is covered as the one before was.
pub stands_store : (first : Heap) (known next : Knowledge) (lay : Layout) (Waits : Threads) (old new : Memory)
    (line word x : ℕ) → Puts line word x old new → line < old.size
    → KeepsPlaces known next → IsOrderly first next
    → Corresponds (Lies lay next) lay.directory lay.size (shown new) next.world.heap
    → ((n : ℕ) → has_number known.durable n ≡ true → line ≡ lay.line_of n → word ≢ 0)
    → ((K : Threads) (c : Outcome) → ((u : ℕ) → K u ≡ true → Waits u ≡ true) → CanLeaveAll old c
    → IsCovered first known lay K c → IsCovered first next lay K c)
    → ((K : Threads) (c d : Outcome) → ((u : ℕ) → K u ≡ true → Waits u ≡ true) → CanLeaveAll old c
    → CanLeaveAll new d
    → ((l w : ℕ) → (l ≡ line → w ≢ word) → d l w ≡ c l w) → d line word ≡ x → IsCovered first known lay K c
    → IsCovered first next lay K d)
    → Stands first known lay Waits old → Stands first next lay Waits new
stands_store first known next lay Waits old new line word x puts inside places orderly shows no_head lost made
    s =
    stands_store_by first known next lay Waits old new line word x puts inside places orderly shows no_head
    lost
    (λ K c d fewer covered_of left left_new others is. made K c d fewer left left_new others is
    (covered_of c left (λ after. after))) s
