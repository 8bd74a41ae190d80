-- The count of a log is lowered to nothing.
use Rattle.std.proofs.Common.{◌≡◌, ◌≢◌, ◌⊎◌, inl, inr, ℕ, ◌+◌, ◌<◌, ◌≤◌, Bool, true, false, List, [], ◌∷◌, Option, Some, None}
use Rattle.std.proofs.Common.{refl, sym, ◌∙◌, ap, subst, arith, nat_eq}
use Rattle.std.specs.List.{AllByRecursion}
use Rattle.std.proofs.lemmas.Bool.{cases_Bool, cases_eq, cases_lt, true≢false, eqb-true, eq-eqb, lt-ltb, le-leb, le-ltb}
use Rattle.ap_base.specs.declared.place.Place.{Place}
use Rattle.graph_model.specs.declared.types.Value.{Value}
use Rattle.graph_model.specs.declared.types.Heap.{Heap}
use Rattle.graph_model.specs.Heaps.{value_at}
use Rattle.line_image.specs.Trace.{Outcome}
use Rattle.line_memory.specs.Memory.{Memory, shown, CanLeaveAll, IsDurable}
use Rattle.image_layout.specs.Places.{logs, slot_line, slot_word, first_object_line, log_head_line, log_entry_line}
use Rattle.image_layout.specs.Places.{log_entry_word}
use Rattle.image_meaning.specs.Checks.{Words}
use Rattle.image_meaning.specs.Directories.{Directory}
use Rattle.image_meaning.specs.Logs.{Logged, log_of, logs_fault, old_word, is_log_line, put_back}
use Rattle.image_meaning.specs.Logging.{Empties, EmptyingCommits}
use Rattle.image_meaning.specs.Recovering.{IsUnchanged}
use Rattle.image_meaning.specs.Laws.{Opens, SameFront}
use Rattle.image_meaning.specs.Corresponds.{Holds, Corresponds}
use Rattle.image_meaning.proofs.Directories.{directory-same}
use Rattle.image_meaning.proofs.Logging.{emptied-log-commits}
use Rattle.image_meaning.proofs.Places.{log_passes}
use Rattle.image_meaning.proofs.Recovering.{some_or, unchanged_log, emptied_log}
use Rattle.image_meaning.proofs.Stopped.{logs_pass}
use Rattle.image_meaning.proofs.Naming.{below_some, below_has}
use Rattle.run_history.specs.Knowing.{Fate, Sure, Open, Closing, Single, Mark, Knowledge, guard_of}
use Rattle.run_history.specs.Kept.{survives}
use Rattle.run_history.proofs.KeptLists.{OfEach}
use Rattle.stop_theorem.specs.Choices.{Threads, MayHave, AllKept, stores_at}
use Rattle.stop_theorem.specs.Orderly.{is_region_of, IsGuardedStore, LosesStores, is_open_of, NotOpen}
use Rattle.run_history.proofs.Sizes.{sizes_refl}
use Rattle.stop_theorem.proofs.Agree.{ChoicesAgree, left_same}
use Rattle.stop_theorem.proofs.Having.{having_whole}
use Rattle.stop_theorem.specs.Layouts.{Layout, Lies, place_line, place_word, place_kind, is_kept_place}
use Rattle.stop_theorem.specs.Stops.{regions_of, named_in, keeps_of, IsCovered, Stands}
use Rattle.stop_theorem.specs.InvariantEvents.{Puts}
use Rattle.stop_theorem.proofs.Places.{keeps_same}
use Rattle.stop_theorem.proofs.Calls.{stands_store}
use Rattle.stop_theorem.proofs.Stored.{place_lies, not_log, front_outside, root_used}
use Rattle.stop_theorem.proofs.Held.{shown_holds}

-- an image opens that has the front of one that does, where its logs pass
pub opens_front : (size : ℕ) (c d : Words) (directory : Directory) → Opens size c directory → SameFront c d
    → logs_fault size d ≡ None → Opens size d directory
opens_front size c d directory opens front logs_pass_d = record {
  super = rw (
    front.super 0 (omega arith),
    front.super 1 (omega arith),
    front.super 2
        (omega arith),
    front.super 3 (omega arith),
  ) opens.super;
  used = rw (front.super 0 (omega arith)) opens.used;
  entries = directory-same c d (front.super 3 (omega arith)) front.directory ∙ opens.entries;
  logs = logs_pass_d;
}

-- ---- other regions kept

-- the choices of regions agree but for thread t, of whose region that hasn't ended there is no store at the
-- place
abbrev pub NoRegionAt : ℕ → Place → List Mark → Type 0
NoRegionAt t p ms = AllByRecursion (λ (m : Mark). stores_at p m.op ≡ true → is_region_of t m.fate ≡ false) ms

same_but : (t : ℕ) (r r' s : ℕ → Bool) → ((u : ℕ) → nat_eq u t ≡ false → r' u ≡ r u) → (fate : Fate)
    → is_region_of t fate ≡ false → survives r s fate ≡ survives r' s fate
same_but t r r' s same Sure none = refl
same_but t r r' s same (Open u) none = refl
same_but t r r' s same (Closing u) none = sym (same u none)
same_but t r r' s same (Single u) none = refl

agree_but : (p : Place) (t : ℕ) (r r' s : ℕ → Bool) → ((u : ℕ) → nat_eq u t ≡ false → r' u ≡ r u)
    → (ms : List Mark) → NoRegionAt t p ms → AllByRecursion (ChoicesAgree p r s r' s) ms
agree_but p t r r' s same [] none = tt
agree_but p t r r' s same (m ∷ ms) none =
    (λ is. same_but t r r' s same m.fate (none.0 is), agree_but p t r r' s same ms none.1)

pub having_regions : (first : Heap) (ms : List Mark) (r r' : ℕ → Bool) (K : Threads) (p : Place) (v : Value)
    (t : ℕ) → AllByRecursion LosesStores ms
    → ((u : ℕ) → nat_eq u t ≡ false → r' u ≡ r u) → NoRegionAt t p ms → MayHave first ms r K p v
    → MayHave first ms r' K p v
having_regions first ms r r' K p v t lost same none h = record {
  singles = h.singles;
  keeps = h.keeps;
  is = h.is ∙ sym (left_same p r h.singles r' h.singles ms lost
      (agree_but p t r r' h.singles same ms none) first).value;
}

pub kept_regions : (ms : List Mark) (r r' : ℕ → Bool) (p : Place) (t : ℕ)
    → ((u : ℕ) → nat_eq u t ≡ false → r' u ≡ r u) → NoRegionAt t p ms → AllKept r p ms → AllKept r' p ms
kept_regions [] r r' p t same none all = tt
kept_regions (m ∷ ms) r r' p t same none all = (
  λ is. sym (same_but t r r' (λ u. true) same m.fate (none.0 is))
      ∙ all.0 is,
  kept_regions ms r r' p t same none.1 all.1,
)

-- where another thread's region has guarded the place, or nobody's, it has no store of thread t's
none_by_guard : (known : Knowledge) (t : ℕ) (p : Place) (ms : List Mark)
    → AllByRecursion (IsGuardedStore known) ms → (guard_of known.guards p ≡ Some t → ⊥) → NoRegionAt t p ms
none_by_guard known t p [] all other = tt
none_by_guard known t p (m ∷ ms) all other = (
  λ is. elim (cases_Bool (is_region_of t m.fate)) [
    | inl region ↦ absurd
        (other (all.0 t p region is))
    | inr isnt ↦ isnt
  ],
  none_by_guard known t p ms all.1 other,
)

-- where all stores may be kept though the region is to be undone, there is none of it
none_by_kept : (t : ℕ) (r : ℕ → Bool) (p : Place) (ms : List Mark) → r t ≡ false → AllKept r p ms
    → NoRegionAt t p ms
none_by_kept t r p [] undone all = tt
none_by_kept t r p (m ∷ ms) undone all = (λ is. one m.fate (all.0 is), none_by_kept t r p ms undone all.1)
  where
    one : (fate : Fate) → survives r (λ u. true) fate ≡ true → is_region_of t fate ≡ false
    one Sure is = refl
    one (Single u) is = refl
    one (Open u) is = absurd (true≢false (sym is))
    one (Closing u) is = elim (cases_Bool (nat_eq u t)) [
      | inl same ↦ absurd (true≢false (sym is ∙ ap r (eqb-true u t same) ∙ undone))
      | inr isnt ↦ isnt
    ]

-- once its log counts nothing, a closing region's stores at a place that it has guarded are all kept
kept_committed : (known : Knowledge) (t : ℕ) (r : ℕ → Bool) (p : Place) (ms : List Mark)
    → AllByRecursion (IsGuardedStore known) ms → guard_of known.guards p ≡ Some t → r t ≡ true
    → OfEach (NotOpen t) ms
    → AllKept r p ms
kept_committed known t r p [] all guard kept not_open = tt
kept_committed known t r p (m ∷ ms) all guard kept not_open = (
  λ is. one m.fate (λ u region.
      all.0 u p region is) not_open.0,
  kept_committed known t r p ms all.1 guard kept not_open.1,
)
  where
    some_is : (a b : ℕ) → Some a ≡ Some b → a ≡ b
    some_is a b e = ap (λ (o : Option ℕ). elim o [ None ↦ a | Some k ↦ k ]) e

    one : (fate : Fate) → ((u : ℕ) → is_region_of u fate ≡ true → guard_of known.guards p ≡ Some u)
        → is_open_of t fate ≡ false → survives r (λ u. true) fate ≡ true
    one Sure guarded isnt = refl
    one (Single u) guarded isnt = refl
    one (Open u) guarded isnt =
        let same : t ≡ u = some_is t u (sym guard ∙ guarded u (eq-eqb u u refl)) in
        absurd (true≢false (sym (eq-eqb u t (sym same)) ∙ isnt))
    one (Closing u) guarded isnt =
        let same : t ≡ u = some_is t u (sym guard ∙ guarded u (eq-eqb u u refl)) in
        ap r (sym same) ∙ kept

-- ---- lowered to nothing

heads_apart : (s t n : ℕ) → s ≢ t → n < 1024 → log_entry_line s n ≢ log_head_line t
heads_apart s t n ne below e = absurd (omega (arith, ne, below, e))

module _ (first : Heap) (known : Knowledge) (lay : Layout) (Waits : Threads) (old : Memory) (t : ℕ)
    (there : t < logs) (s : Stands first known lay Waits old)
    (not_open : OfEach (NotOpen t) known.marks)
    (durable : (p : Place) → is_kept_place known p ≡ true → guard_of known.guards p ≡ Some t
    → IsDurable old (place_line lay known.world.heap p) (place_word known.world.heap p))
    (K : Threads) (c d : Outcome) (left : CanLeaveAll old c) (covered : IsCovered first known lay K c)
    (undone : regions_of c t ≡ false)
    (others : (l w : ℕ) → (l ≡ log_head_line t → w ≢ 0) → d l w ≡ c l w)
    (is_zero : d (log_head_line t) 0 ≡ 0) where
  head_is_log : is_log_line (log_head_line t) ≡ true
  head_is_log = rw (
    le-leb (log_head_line 0) (log_head_line t) (omega arith),
    lt-ltb
        (log_head_line t) first_object_line (omega (arith, there)),
  ) refl

  outside : (l w : ℕ) → is_log_line l ≡ false → d l w ≡ c l w
  outside l w is = others l w (λ e. absurd (true≢false (sym head_is_log ∙ ap is_log_line (sym e) ∙ is)))

  other_log : (u : ℕ) → u < logs → u ≢ t → IsUnchanged c d u
  other_log u below ne = record {
    count = others (log_head_line u) 0 (λ e. absurd (omega (arith, e, ne)));
    entries = λ n few.
        let most = (log_passes lay.size c u (logs_pass lay.size c covered.opens.logs u below)).0 in
        let apart : log_entry_line u n ≢ log_head_line t = heads_apart u t n ne (omega (arith, few, most)) in
        rw (
          others (log_entry_line u n) (log_entry_word n) (λ e. absurd (apart e)),
          others
              (log_entry_line u n) (log_entry_word n + 1) (λ e. absurd (apart e)),
        ) refl;
  }

  empties : Empties c d t
  empties = record { others = other_log; empty = is_zero; words = λ l w is. outside l w is }

  commits : EmptyingCommits lay.size c d t
  commits = emptied-log-commits lay.size c d t covered.opens.logs there empties

  front : SameFront c d
  front = front_outside lay.size c d lay.directory covered.opens
      (λ l w f. others l w (λ e. absurd (not_front l f e)))
    where
      not_front : (l : ℕ) → (l ≡ 0) ⊎ ((33 ≤ l) × (l < 4129)) → l ≡ log_head_line t → ⊥
      not_front l (inl z) e = absurd (omega (arith, z, e))
      not_front l (inr z) e = absurd (omega (arith, z.1, e))

  regions_but : (u : ℕ) → nat_eq u t ≡ false → regions_of d u ≡ regions_of c u
  regions_but u ne = elim (cases_lt u logs) [
    | inl below ↦ (
        let other : u ≢ t = λ e. absurd (true≢false (sym (eq-eqb u t e) ∙ ne)) in
        rw ((other_log u below other).count) refl)
    | inr past ↦ rw (le-ltb u logs past) refl
  ]

  committed : regions_of d t ≡ true
  committed = rw (is_zero, lt-ltb t logs there) refl

  log_gone : log_of d t ≡ []
  log_gone = emptied_log d t is_zero

  -- which words are named
  not_by_t : (line word : ℕ) → old_word (log_of c t) line word ≡ None
      → (named_in c line word ≡ None → named_in d line word ≡ None)
      × (named_in d line word ≡ None → named_in c line word ≡ None)
  not_by_t line word none = (
    λ none_c. elim (some_or (named_in d line word)) [
      | inl is ↦ is
      | inr some ↦ (
          let found = below_some d line word some.0 logs some.1 in
          elim (cases_eq found.0 t) [
            | inl e ↦ absurd (let wrong : None ≡ Some some.0 = ap
                (λ (xs : List Logged). old_word xs line word) (sym log_gone)
                ∙ ap (λ k. old_word (log_of d k) line word) (sym e) ∙ found.2 in cc)
            | inr ne ↦ (
                let log : log_of d found.0 ≡ log_of c found.0 = unchanged_log c d found.0
                (other_log found.0 found.1 ne) in
                let more = below_has c found.0 line word some.0 logs found.1
                (ap (λ (xs : List Logged). old_word xs line word) (sym log) ∙ found.2) in
                absurd (let wrong : None ≡ Some more.0 = sym none_c ∙ more.1 in cc))
          ])
    ],
    λ none_d. elim (some_or (named_in c line word)) [
      | inl is ↦ is
      | inr some ↦ (
          let found = below_some c line word some.0 logs some.1 in
          elim (cases_eq found.0 t) [
            | inl e ↦ absurd (let wrong : None ≡ Some some.0 = sym none
                ∙ ap (λ k. old_word (log_of c k) line word) (sym e) ∙ found.2 in cc)
            | inr ne ↦ (
                let log : log_of d found.0 ≡ log_of c found.0 = unchanged_log c d found.0
                (other_log found.0 found.1 ne) in
                let more = below_has d found.0 line word some.0 logs found.1
                (ap (λ (xs : List Logged). old_word xs line word) log ∙ found.2) in
                absurd (let wrong : None ≡ Some more.0 = sym none_d ∙ more.1 in cc))
          ])
    ],
  )

  -- a place that log t doesn't name has no store of t's region
  none_there : (p : Place) → is_kept_place known p ≡ true → old_word (log_of c t)
      (place_line lay known.world.heap p) (place_word known.world.heap p) ≡ None → NoRegionAt t p known.marks
  none_there p kept none =
      let line = place_line lay known.world.heap p in
      let word = place_word known.world.heap p in
      elim (some_or (named_in c line word)) [
        | inl unnamed ↦ none_by_kept t (regions_of c) p known.marks undone (covered.free p kept unnamed)
        | inr some ↦ (
            let found = below_some c line word some.0 logs some.1 in
            let g = covered.named found.0 line word some.0 found.1 found.2 in
            let same : p ≡ g.place = s.apart p g.place kept g.is_kept g.line_is g.word_is in
            none_by_guard known t p known.marks s.orderly.guarded (λ guard.
            let e : Some t ≡ Some found.0 = sym guard ∙ ap (guard_of known.guards) same ∙ g.guard in
            let f : found.0 ≡ t = ap (λ (o : Option ℕ). elim o [ None ↦ t | Some k ↦ k ]) (sym e) in
            let wrong : None ≡ Some some.0 = sym none ∙ ap (λ k. old_word (log_of c k) line word) (sym f)
            ∙ found.2 in cc))
      ]

  guarded_there : (p : Place) (o : ℕ) → is_kept_place known p ≡ true → old_word (log_of c t)
      (place_line lay known.world.heap p) (place_word known.world.heap p) ≡ Some o
      → guard_of known.guards p ≡ Some t
  guarded_there p o kept is =
      let g = covered.named t (place_line lay known.world.heap p)
      (place_word known.world.heap p) o there is in
      ap (guard_of known.guards) (s.apart p g.place kept g.is_kept g.line_is g.word_is) ∙ g.guard

  kept_there : (p : Place) (o : ℕ) → is_kept_place known p ≡ true → old_word (log_of c t)
      (place_line lay known.world.heap p) (place_word known.world.heap p) ≡ Some o
      → AllKept (regions_of d) p known.marks
  kept_there p o kept is = kept_committed known t (regions_of d) p known.marks s.orderly.guarded
      (guarded_there p o kept is) committed not_open

  -- The words with an emptied log fit.
  pub covered_emptied : IsCovered first known lay K d
  covered_emptied = record {
    opens = opens_front lay.size c d lay.directory covered.opens front commits.logs;
    heads = λ n is. commits.others (lay.line_of n) 0
        (elim (some_or (old_word (log_of c t) (lay.line_of n) 0)) [
          | inl none ↦ none
          | inr some ↦ (let g = covered.named t (lay.line_of n) 0 some.0 there some.1 in
              absurd (s.no_heads g.place n g.is_kept is (sym g.line_is) (sym g.word_is)))
        ]) ∙ covered.heads n is;
    unused = λ r low high. commits.others (slot_line r) (slot_word r)
        (elim (some_or (old_word (log_of c t) (slot_line r) (slot_word r))) [
          | inl none ↦ none
          | inr some ↦ (
              let g = covered.named t (slot_line r) (slot_word r) some.0 there some.1 in
              let less = root_used first known lay Waits old s g.place g.is_kept r (sym g.line_is)
              (sym g.word_is) high in
              absurd (omega (arith, less, low)))
        ]) ∙ covered.unused r low high;
    named = λ u line word o below is. elim (cases_eq u t) [
      | inl e ↦ absurd (let wrong : None ≡ Some o = ap (λ (xs : List Logged). old_word xs line word)
          (sym log_gone) ∙ ap (λ k. old_word (log_of d k) line word) (sym e) ∙ is in cc)
      | inr ne ↦ covered.named u line word o below
          (ap (λ (xs : List Logged). old_word xs line word) (sym (unchanged_log c d u (other_log u below ne)))
          ∙ is)
    ];
    free = λ p kept none. elim (some_or (old_word (log_of c t) (place_line lay known.world.heap p)
        (place_word known.world.heap p))) [
          | inr some ↦ kept_there p some.0 kept some.1
          | inl unnamed ↦ kept_regions known.marks (regions_of c) (regions_of d) p t regions_but
              (none_there p kept unnamed)
              (covered.free p kept ((not_by_t (place_line lay known.world.heap p)
              (place_word known.world.heap p) unnamed).1 none))
        ];
    places = λ p kept.
        let line = place_line lay known.world.heap p in
        let word = place_word known.world.heap p in
        let at = covered.places p kept in
        elim (some_or (old_word (log_of c t) line word)) [
          | inr some ↦ (
              let plain : put_back d line word ≡ shown old line word =
              commits.named line word some.0 some.1 ∙ outside line word
              (not_log line word (place_lies first known lay Waits old s p kept))
              ∙ durable p kept (guarded_there p some.0 kept some.1) (c line word) (left line word) in
              record {
                value = value_at known.world.heap p;
                holds = subst (λ x. Holds (Lies lay known) (place_kind known.world.heap p) x
                    (value_at known.world.heap p)) (sym plain)
                    (shown_holds first known lay Waits old s p kept);
                has = subst (λ (h : Heap). MayHave first known.marks (regions_of d)
                    (keeps_of K (named_in d line word)) p (value_at h p)) (sym s.orderly.heap)
                    (having_whole first known.marks (regions_of d)
                    (keeps_of K (named_in d line word)) p s.orderly.lost (kept_there p some.0 kept some.1));
              })
          | inl none ↦ record {
            value = at.value;
            holds = subst (λ x. Holds (Lies lay known) (place_kind known.world.heap p) x at.value)
                (sym (commits.others line word none)) at.holds;
            has = keeps_same_named (named_in c line word) (named_in d line word) (not_by_t line word none)
                (regions_of d) p at.value
                (having_regions first known.marks (regions_of c) (regions_of d)
                (keeps_of K (named_in c line word)) p at.value t s.orderly.lost regions_but
                (none_there p kept none) at.has);
          }
        ];
  }
    where
      keeps_same_named : (n o : Option ℕ) → (n ≡ None → o ≡ None) × (o ≡ None → n ≡ None) → (r : ℕ → Bool)
          (p : Place) (v : Value) → MayHave first known.marks r (keeps_of K n) p v
          → MayHave first known.marks r (keeps_of K o) p v
      keeps_same_named None None both r p v has = has
      keeps_same_named (Some a) (Some b) both r p v has = has
      keeps_same_named None (Some b) both r p v has = absurd (let wrong : Some b ≡ None = both.0 refl in cc)
      keeps_same_named (Some a) None both r p v has = absurd (let wrong : Some a ≡ None = both.1 refl in cc)

-- The count of a closing region's log is lowered to nothing, once its places are durable.
pub stands_lowered : (first : Heap) (known : Knowledge) (lay : Layout) (Waits : Threads) (old new : Memory)
    (t : ℕ) → t < logs → Puts (log_head_line t) 0 0 old new → log_head_line t < old.size
    → OfEach (NotOpen t) known.marks
    → ((p : Place) → is_kept_place known p ≡ true → guard_of known.guards p ≡ Some t
    → IsDurable old (place_line lay known.world.heap p) (place_word known.world.heap p))
    → ((c : Outcome) → CanLeaveAll old c → regions_of c t ≡ false)
    → Corresponds (Lies lay known) lay.directory lay.size (shown new) known.world.heap
    → Stands first known lay Waits old → Stands first known lay Waits new
stands_lowered first known lay Waits old new t there puts inside not_open durable undone shows s =
    stands_store first known known lay Waits old new (log_head_line t) 0 0 puts inside
    (keeps_same lay known known (record { durable = refl; sizes = sizes_refl known.world.heap }))
    s.orderly shows
    (λ n durable_n e. absurd (let low = (s.shows.objects (lay.line_of n) n
    (rw (durable_n, eq-eqb (lay.line_of n) (lay.line_of n) refl) refl)).low in omega (arith, low, e, there)))
    (λ K c fewer left covered. covered)
    (λ K c d fewer left left_new others is covered.
    covered_emptied first known lay Waits old t there s not_open durable K c d left covered
    (undone c left) others is)
    s
