-- The count of a log is raised over a whole entry. The place may have an unfenced store of another thread's:
-- what is put
-- back is then the word that was shown, which keeps that store.
use Rattle.std.proofs.Common.{◌≡◌, ◌≢◌, ◌⊎◌, inl, inr, ℕ, suc, ◌+◌, ◌/◌, ◌%◌, ◌<◌, ◌≤◌, ◌==◌, Bool, true, false, ◌&&◌, ◌||◌}
use Rattle.std.proofs.Common.{List, [], ◌∷◌, ◌++◌, Option, Some, None, if◌then◌else◌, refl, sym, ◌∙◌, ap, subst, arith, nat_eq}
use Rattle.std.proofs.Common.{nat_lt, nat_le}
use Rattle.std.specs.List.{AllByRecursion}
use Rattle.std.proofs.lemmas.Bool.{cases_Bool, cases_eq, cases_lt, true≢false, and_parts, eqb-true, eq-eqb, ne_eqb, lt-ltb}
use Rattle.std.proofs.lemmas.Bool.{le-leb, le-ltb}
use Rattle.ap_base.specs.declared.place.Place.{Place}
use Rattle.ap_base.specs.declared.place.Place.TheVariants.{Static, Slot}
use Rattle.graph_model.specs.declared.types.Value.{Value}
use Rattle.graph_model.specs.declared.types.Heap.{Heap}
use Rattle.graph_model.specs.Heaps.{value_at, place_is}
use Rattle.line_image.specs.Trace.{Outcome}
use Rattle.line_memory.specs.Memory.{Memory, shown, ReadsWord, CanLeave, CanLeaveAll}
use Rattle.image_layout.specs.Places.{logs, log_entries, root_slots, slot_line, slot_word, first_object_line, log_head_line}
use Rattle.image_layout.specs.Places.{log_entry_line, log_entry_word}
use Rattle.image_meaning.specs.Checks.{Words}
use Rattle.image_meaning.specs.Logs.{Logged, log_count, logged_at, first_logged, log_of, logs_below, old_word, has_place}
use Rattle.image_meaning.specs.Logs.{may_be_logged, is_log_line, is_place, put_back, put_one}
use Rattle.image_meaning.specs.Logging.{AddsLogged, IsFree, LoggingKeeps}
use Rattle.image_meaning.specs.Recovering.{IsUnchanged}
use Rattle.image_meaning.specs.Laws.{SameFront}
use Rattle.image_meaning.specs.Corresponds.{Holds, Corresponds}
use Rattle.image_meaning.proofs.Logging.{free-logged}
use Rattle.image_meaning.proofs.Places.{log_passes, first_more}
use Rattle.image_meaning.proofs.Ranges.{mapped_same}
use Rattle.image_meaning.proofs.Recovering.{or_old, old_append, some_or, unchanged_log}
use Rattle.image_meaning.proofs.Stopped.{logs_pass}
use Rattle.image_meaning.proofs.Naming.{below_some, below_has}
use Rattle.run_history.specs.Knowing.{Fate, Sure, Open, Closing, Single, Mark, Knowledge, guard_of}
use Rattle.run_history.specs.Kept.{survives}
use Rattle.run_history.specs.Laws.{is_closing_of}
use Rattle.stop_theorem.specs.Choices.{Threads, MayHave, AllKept}
use Rattle.stop_theorem.specs.Orderly.{LosesStores, NoneClosing}
use Rattle.run_history.proofs.Sizes.{sizes_refl}
use Rattle.stop_theorem.proofs.Agree.{ChoicesAgree, left_same}
use Rattle.stop_theorem.proofs.Having.{having_whole}
use Rattle.stop_theorem.proofs.Joint.{same_place, is_same_place}
use Rattle.stop_theorem.specs.Layouts.{Layout, Lies, place_line, place_word, place_kind, is_kept_place}
use Rattle.stop_theorem.specs.Stops.{regions_of, named_in, keeps_of, PlaceIsCovered, IsGuardedWord, IsCovered, IsAfterFence}
use Rattle.stop_theorem.specs.Stops.{Stands}
use Rattle.stop_theorem.specs.InvariantEvents.{Puts}
use Rattle.stop_theorem.proofs.Calls.{put_word, put_here, put_there, stands_store_by}
use Rattle.stop_theorem.proofs.Places.{keeps_same}
use Rattle.stop_theorem.proofs.Stored.{PlaceLies, AtRoot, InObject, place_lies, not_log, front_outside, put_back_plain}
use Rattle.stop_theorem.proofs.Held.{shown_holds}
use Rattle.stop_theorem.specs.RegionLaws.{number_of}
use Rattle.stop_theorem.proofs.Counts.{opens_front}

-- ---- no store of a closing region of thread t

same_but : (t : ℕ) (r r' s : ℕ → Bool) → ((u : ℕ) → nat_eq u t ≡ false → r' u ≡ r u) → (fate : Fate)
    → is_closing_of t fate ≡ false → survives r s fate ≡ survives r' s fate
same_but t r r' s same Sure none = refl
same_but t r r' s same (Open u) none = refl
same_but t r r' s same (Closing u) none = sym (same u none)
same_but t r r' s same (Single u) none = refl

agree_but : (p : Place) (t : ℕ) (r r' s : ℕ → Bool) → ((u : ℕ) → nat_eq u t ≡ false → r' u ≡ r u)
    → (ms : List Mark) → NoneClosing t ms → AllByRecursion (ChoicesAgree p r s r' s) ms
agree_but p t r r' s same [] none = tt
agree_but p t r r' s same (m ∷ ms) none =
    (λ is. same_but t r r' s same m.fate none.0, agree_but p t r r' s same ms none.1)

having_but : (first : Heap) (ms : List Mark) (r r' : ℕ → Bool) (K : Threads) (p : Place) (v : Value) (t : ℕ)
    → AllByRecursion LosesStores ms
    → ((u : ℕ) → nat_eq u t ≡ false → r' u ≡ r u) → NoneClosing t ms → MayHave first ms r K p v
    → MayHave first ms r' K p v
having_but first ms r r' K p v t lost same none h = record {
  singles = h.singles;
  keeps = h.keeps;
  is = h.is ∙ sym (left_same p r h.singles r' h.singles ms lost
      (agree_but p t r r' h.singles same ms none) first).value;
}

kept_but : (ms : List Mark) (r r' : ℕ → Bool) (p : Place) (t : ℕ)
    → ((u : ℕ) → nat_eq u t ≡ false → r' u ≡ r u) → NoneClosing t ms → AllKept r p ms → AllKept r' p ms
kept_but [] r r' p t same none all = tt
kept_but (m ∷ ms) r r' p t same none all = (
  λ is. sym (same_but t r r' (λ u. true) same m.fate none.0)
      ∙ all.0 is,
  kept_but ms r r' p t same none.1 all.1,
)

-- ---- places and their numbers

pub word_small : (h : Heap) (p : Place) → place_word h p < 8
word_small h (Static n) = omega arith
word_small h (Slot n i) = omega arith

number_line : (line word : ℕ) → word < 8 → number_of line word / 8 ≡ line
number_line line word small = omega (arith, small)

number_word : (line word : ℕ) → word < 8 → number_of line word % 8 ≡ word
number_word line word small = omega (arith, small)

-- no entry has a place that has no old word
not_had : (entries : List Logged) (line word : ℕ) → word < 8 → old_word entries line word ≡ None
    → has_place entries (number_of line word) ≡ false
not_had [] line word small none = refl
not_had (e ∷ entries) line word small none = elim (cases_eq e.place (number_of line word)) [
  | inl same ↦ absurd (
      let here : is_place e.place line word ≡ true =
      rw (
        same,
        number_line line word small,
        number_word line word small,
        eq-eqb line line refl,
        eq-eqb
            word word refl,
      ) refl in
      let some : old_word (e ∷ entries) line word ≡ Some e.old = rw here refl in
      let wrong : None ≡ Some e.old = sym none ∙ some in cc)
  | inr ne ↦ elim (cases_Bool (is_place e.place line word)) [
    | inl here ↦ absurd (let some : old_word (e ∷ entries) line word ≡ Some e.old = rw here refl in
        let wrong : None ≡ Some e.old = sym none ∙ some in cc)
    | inr isnt ↦ (
        let rest : old_word entries line word ≡ None = rw isnt at none in
        rw (ne_eqb e.place (number_of line word) ne) (not_had entries line word small rest))
  ]
]

module _ (first : Heap) (known : Knowledge) (lay : Layout) (Waits : Threads) (old : Memory) (t : ℕ)
    (there : t < logs) (s : Stands first known lay Waits old)
    (p : Place) (kept : is_kept_place known p ≡ true) (guard : guard_of known.guards p ≡ Some t)
    (no_closing : NoneClosing t known.marks)
    (in_image : place_line lay known.world.heap p < lay.size)
    (n : ℕ) (room : n < log_entries) (K : Threads) (c d : Outcome) (covered : IsCovered first known lay K c)
    (count : log_count c t ≡ n) (unnamed : named_in c (place_line lay known.world.heap p)
    (place_word known.world.heap p) ≡ None)
    (stays : c (place_line lay known.world.heap p) (place_word known.world.heap p) ≡ shown old
    (place_line lay known.world.heap p) (place_word known.world.heap p))
    (others : (l w : ℕ) → (l ≡ log_head_line t → w ≢ 0)
    → (l ≡ place_line lay known.world.heap p → w ≢ place_word known.world.heap p) → d l w ≡ c l w)
    (raised : log_count d t ≡ suc n)
    (entry : logged_at d t n ≡ record {
      place = number_of (place_line lay known.world.heap p)
          (place_word known.world.heap p);
      old = shown old (place_line lay known.world.heap p)
          (place_word known.world.heap p);
    }) where
  abbrev line : ℕ
  line = place_line lay known.world.heap p

  abbrev word : ℕ
  word = place_word known.world.heap p

  abbrev o : ℕ
  o = shown old line word

  abbrev new_entry : Logged
  new_entry = record { place = number_of line word; old = o }

  small : word < 8
  small = word_small known.world.heap p

  lies : PlaceLies line word
  lies = place_lies first known lay Waits old s p kept

  plain_line : is_log_line line ≡ false
  plain_line = not_log line word lies

  log_not_here : (l w : ℕ) → is_log_line l ≡ true → l ≡ line → w ≢ word
  log_not_here l w log same = absurd (true≢false (sym log ∙ ap is_log_line same ∙ plain_line))

  in_logs : (l : ℕ) → log_head_line 0 ≤ l → l < first_object_line → is_log_line l ≡ true
  in_logs l low high = rw (le-leb (log_head_line 0) l low, lt-ltb l first_object_line high) refl

  -- a word of a log other than the count
  d_log : (l w : ℕ) → is_log_line l ≡ true → (l ≡ log_head_line t → w ≢ 0) → d l w ≡ c l w
  d_log l w log other = others l w other (log_not_here l w log)

  most : (u : ℕ) → u < logs → log_count c u ≤ log_entries
  most u below = (log_passes lay.size c u (logs_pass lay.size c covered.opens.logs u below)).0

  entry_log : (u k : ℕ) → u < logs → k < log_entries → is_log_line (log_entry_line u k) ≡ true
  entry_log u k below few = in_logs (log_entry_line u k) (omega (arith, below)) (omega (arith, below, few))

  head_log : (u : ℕ) → u < logs → is_log_line (log_head_line u) ≡ true
  head_log u below = in_logs (log_head_line u) (omega (arith, below)) (omega (arith, below))

  not_head : (u k : ℕ) → k < log_entries → log_entry_line u k ≡ log_head_line t → ⊥
  not_head u k few same = absurd (omega (arith, few, same))

  entries_same : (u k : ℕ) → u < logs → k < log_entries → logged_at d u k ≡ logged_at c u k
  entries_same u k below few =
      rw (
        d_log (log_entry_line u k) (log_entry_word k) (entry_log u k below few)
            (λ z. absurd (not_head u k few z)),
        d_log (log_entry_line u k) (log_entry_word k + 1) (entry_log u k below few)
            (λ z. absurd (not_head u k few z)),
      ) refl

  log_still : (u : ℕ) → u < logs → u ≢ t → IsUnchanged c d u
  log_still u below ne = record {
    count = d_log (log_head_line u) 0 (head_log u below) (λ z. absurd (omega (arith, z, ne)));
    entries = λ k few. let m = most u below in entries_same u k below (omega (arith, few, m));
  }

  -- the number is that of the place's word
  own : is_place (number_of line word) line word ≡ true
  own = rw (
    number_line line word small,
    number_word line word small,
    eq-eqb line line refl,
    eq-eqb word word
        refl,
  ) refl

  elsewhere : (l w : ℕ) → is_log_line l ≡ false → is_place (number_of line word) l w ≡ false → d l w ≡ c l w
  elsewhere l w outside isnt = others l w
      (λ z. absurd (true≢false (sym (head_log t there) ∙ ap is_log_line (sym z) ∙ outside)))
      (λ same_line same_word. true≢false (sym own
      ∙ ap (λ x. is_place (number_of line word) x word) (sym same_line)
      ∙ ap (λ y. is_place (number_of line word) l y) (sym same_word) ∙ isnt))

  adds : AddsLogged c d t new_entry
  adds = record {
    others = log_still;
    count = raised ∙ ap (λ k. suc k) (sym count);
    entries = λ k few. let m = most t there in entries_same t k there (omega (arith, few, m));
    added = ap (λ k. logged_at d t k) count ∙ entry;
    words = elsewhere;
  }

  may : may_be_logged lay.size line ≡ true
  may = by_lies lies
    where
      by_lies : PlaceLies line word → may_be_logged lay.size line ≡ true
      by_lies (AtRoot r below at _) = rw (
        le-leb (slot_line 0) line (omega (arith, at)),
        lt-ltb line
            (slot_line root_slots) (omega (arith, at, below)),
      ) refl
      by_lies (InObject low) = rw (le-leb first_object_line line low, lt-ltb line lay.size in_image)
          (or_true (nat_le (slot_line 0) line && nat_lt line (slot_line root_slots)))
        where
          or_true : (b : Bool) → (b || true) ≡ true
          or_true true = refl
          or_true false = refl

  free_place : IsFree lay.size c (number_of line word)
  free_place = record {
    may = ap (λ l. may_be_logged lay.size l) (number_line line word small) ∙ may;
    unnamed = not_had (logs_below c logs) line word small unnamed;
  }

  keeps : LoggingKeeps lay.size c d new_entry
  keeps = free-logged lay.size c d t new_entry covered.opens.logs there
      (omega (arith, count, room)) free_place adds

  -- the place has the entry's word already
  put_one_same : put_one new_entry c ≡ c
  put_one_same = λ i l w. each l w i
    where
      each : (l w : ℕ) → put_one new_entry c l w ≡ c l w
      each l w = elim (is_place (number_of line word) l w) as (λ b. is_place (number_of line word) l w ≡ b
          → (if b then o else c l w) ≡ c l w) [
            | true ↦ λ is.
                let parts = and_parts (number_of line word / 8 == l) (number_of line word % 8 == w) is in
                let same_line : l ≡ line = sym (eqb-true (number_of line word / 8) l parts.0)
                ∙ number_line line word small in
                let same_word : w ≡ word = sym (eqb-true (number_of line word % 8) w parts.1)
                ∙ number_word line word small in
                rw (same_line, same_word) (sym stays)
            | false ↦ λ isnt. refl
          ] refl

  put_same : put_back d ≡ put_back c
  put_same = keeps.words ∙ ap put_back put_one_same

  log_t : log_of d t ≡ log_of c t ++ new_entry ∷ []
  log_t =
      let more : suc n ≡ n + 1 = omega arith in
      let front : first_logged d t n ≡ first_logged c t n = mapped_same (logged_at d t) (logged_at c t) 0 n
      (λ j low high. entries_same t j there (omega (arith, high, room))) in
      ap (λ k. first_logged d t k) (raised ∙ more) ∙ first_more d t n
      ∙ ap (λ xs. xs ++ logged_at d t n ∷ []) (front ∙ ap (λ k. first_logged c t k) (sym count))
      ∙ ap (λ x. log_of c t ++ x ∷ []) entry

  not_front : (l : ℕ) → (l ≡ 0) ⊎ ((33 ≤ l) × (l < 4129)) → l ≡ log_head_line t → ⊥
  not_front l (inl z) h = absurd (omega (arith, z, h))
  not_front l (inr z) h = absurd (omega (arith, z.1, h))

  place_not_front : (l : ℕ) → (l ≡ 0) ⊎ ((33 ≤ l) × (l < 4129)) → l ≡ line → PlaceLies line word → ⊥
  place_not_front l (inl z) h (AtRoot r below at _) = absurd (omega (arith, z, h, at))
  place_not_front l (inr z) h (AtRoot r below at _) = absurd (omega (arith, z.0, h, at, below))
  place_not_front l (inl z) h (InObject low) = absurd (omega (arith, z, h, low))
  place_not_front l (inr z) h (InObject low) = absurd (omega (arith, z.1, h, low))

  front : SameFront c d
  front = front_outside lay.size c d lay.directory covered.opens
      (λ l w f. others l w (λ z. absurd (not_front l f z)) (λ z. absurd (place_not_front l f z lies)))

  -- the logs
  log_d : (u : ℕ) → u < logs → u ≢ t → log_of d u ≡ log_of c u
  log_d u below ne = unchanged_log c d u (log_still u below ne)

  some_of : {a b : ℕ} → Some a ≡ Some b → a ≡ b
  some_of {a} {b} h = ap (λ (x : Option ℕ). elim x [ None ↦ a | Some k ↦ k ]) h

  by_parts : (l w x : ℕ) → or_old (old_word (log_of c t) l w) (old_word (new_entry ∷ []) l w) ≡ Some x
      → ((y : ℕ) × (old_word (log_of c t) l w ≡ Some y)) ⊎ ((l ≡ line) × (w ≡ word))
  unfolding or_old
  by_parts l w x is = elim (some_or (old_word (log_of c t) l w)) [
    | inr some ↦ inl some
    | inl none ↦ elim (cases_Bool (is_place (number_of line word) l w)) [
      | inl here ↦ (
          let parts = and_parts (number_of line word / 8 == l) (number_of line word % 8 == w) here in
          inr (
            sym (eqb-true (number_of line word / 8) l parts.0)
                ∙ number_line line word small,
            sym (eqb-true (number_of line word % 8) w parts.1)
                ∙ number_word line word small,
          ))
      | inr isnt ↦ absurd (let wrong : None ≡ Some x = rw (none, isnt) at is in cc)
    ]
  ]

  in_log_t : (l w x : ℕ) → old_word (log_of d t) l w ≡ Some x
      → ((y : ℕ) × (old_word (log_of c t) l w ≡ Some y)) ⊎ ((l ≡ line) × (w ≡ word))
  in_log_t l w x is = by_parts l w x (sym (old_append (log_of c t) (new_entry ∷ []) l w)
      ∙ ap (λ (xs : List Logged). old_word xs l w) (sym log_t) ∙ is)

  still_in_log_t : (l w x : ℕ) → old_word (log_of c t) l w ≡ Some x → old_word (log_of d t) l w ≡ Some x
  unfolding or_old
  still_in_log_t l w x is = ap (λ (xs : List Logged). old_word xs l w) log_t
      ∙ old_append (log_of c t) (new_entry ∷ []) l w ∙ rw is refl

  named_too : (l w x : ℕ) → named_in c l w ≡ Some x → (y : ℕ) × (named_in d l w ≡ Some y)
  named_too l w x is =
      let found = below_some c l w x logs is in
      elim (cases_eq found.0 t) [
        | inl h ↦ below_has d t l w x logs there
            (still_in_log_t l w x (ap (λ k. old_word (log_of c k) l w) (sym h) ∙ found.2))
        | inr ne ↦ below_has d found.0 l w x logs found.1
            (ap (λ (xs : List Logged). old_word xs l w) (log_d found.0 found.1 ne) ∙ found.2)
      ]

  named_or_here : (l w x : ℕ) → named_in d l w ≡ Some x
      → ((y : ℕ) × (named_in c l w ≡ Some y)) ⊎ ((l ≡ line) × (w ≡ word))
  named_or_here l w x is =
      let found = below_some d l w x logs is in
      elim (cases_eq found.0 t) [
        | inl h ↦ elim (in_log_t l w x (ap (λ k. old_word (log_of d k) l w) (sym h) ∙ found.2)) [
          | inl some ↦ inl (below_has c t l w some.0 logs there some.1)
          | inr here ↦ inr here
        ]
        | inr ne ↦ inl (below_has c found.0 l w x logs found.1
            (ap (λ (xs : List Logged). old_word xs l w) (sym (log_d found.0 found.1 ne)) ∙ found.2))
      ]

  regions_but : (u : ℕ) → nat_eq u t ≡ false → regions_of d u ≡ regions_of c u
  regions_but u ne = elim (cases_lt u logs) [
    | inl below ↦ (
        let other : u ≢ t = λ z. absurd (true≢false (sym (eq-eqb u t z) ∙ ne)) in
        rw ((log_still u below other).count) refl)
    | inr past ↦ rw (le-ltb u logs past) refl
  ]

  keeps_same_named : (a b : Option ℕ) → ((x : ℕ) → a ≡ Some x → (y : ℕ) × (b ≡ Some y))
      → ((x : ℕ) → b ≡ Some x → (y : ℕ) × (a ≡ Some y)) → (r : ℕ → Bool) (q : Place) (v : Value)
      → MayHave first known.marks r (keeps_of K a) q v → MayHave first known.marks r (keeps_of K b) q v
  keeps_same_named None None f g r q v has = has
  keeps_same_named (Some x) (Some y) f g r q v has = has
  keeps_same_named None (Some y) f g r q v has = absurd
      (let back = g y refl in let wrong : None ≡ Some back.0 = back.1 in cc)
  keeps_same_named (Some x) None f g r q v has = absurd
      (let on = f x refl in let wrong : None ≡ Some on.0 = on.1 in cc)

  -- The words with the raised count fit.
  pub covered_raised : IsCovered first known lay K d
  covered_raised = record {
    opens = opens_front lay.size c d lay.directory covered.opens front keeps.logs;
    heads = λ k is. ap (λ (words : Words). words (lay.line_of k) 0) put_same ∙ covered.heads k is;
    unused = λ r low high. ap (λ (words : Words). words (slot_line r) (slot_word r)) put_same
        ∙ covered.unused r low high;
    named = λ u l w x below is. elim (cases_eq u t) [
      | inr ne ↦ covered.named u l w x below (ap (λ (xs : List Logged). old_word xs l w)
          (sym (log_d u below ne)) ∙ is)
      | inl same ↦ elim (in_log_t l w x (ap (λ k. old_word (log_of d k) l w) (sym same) ∙ is)) [
        | inl some ↦ subst (λ k. IsGuardedWord known lay k l w) (sym same)
            (covered.named t l w some.0 there some.1)
        | inr here ↦ record {
          place = p;
          is_kept = kept;
          line_is = here.0;
          word_is = here.1;
          guard = guard
              ∙ ap (λ k. Some k) (sym same);
        }
      ]
    ];
    free = λ q is none. kept_but known.marks (regions_of c) (regions_of d) q t regions_but no_closing
        (covered.free q is (elim (some_or (named_in c (place_line lay known.world.heap q)
        (place_word known.world.heap q))) [
          | inl plain ↦ plain
          | inr some ↦ (let on = named_too (place_line lay known.world.heap q)
              (place_word known.world.heap q) some.0 some.1 in let wrong : None ≡ Some on.0 = sym none
              ∙ on.1 in cc)
        ]));
    places = λ q is.
        let at = covered.places q is in
        let l = place_line lay known.world.heap q in
        let w = place_word known.world.heap q in
        elim (cases_Bool (place_is p q)) [
          | inl same ↦ (
              let h : p ≡ q = same_place p q same in
              subst (λ (x : Place). PlaceIsCovered first known lay K d x) h (record {
                value = value_at known.world.heap p;
                holds = subst (λ x. Holds (Lies lay known) (place_kind known.world.heap p) x
                    (value_at known.world.heap p))
                    (sym (ap (λ (words : Words). words line word) put_same
                    ∙ put_back_plain c line word plain_line unnamed ∙ stays))
                    (shown_holds first known lay Waits old s p kept);
                has = subst (λ (heap : Heap). MayHave first known.marks (regions_of d)
                    (keeps_of K (named_in d line word)) p (value_at heap p)) (sym s.orderly.heap)
                    (having_whole first known.marks (regions_of d)
                    (keeps_of K (named_in d line word)) p s.orderly.lost
                    (kept_but known.marks (regions_of c) (regions_of d) p t regions_but no_closing
                    (covered.free p kept unnamed)));
              }))
          | inr other ↦ record {
            value = at.value;
            holds = subst (λ x. Holds (Lies lay known) (place_kind known.world.heap q) x at.value)
                (sym (ap (λ (words : Words). words l w) put_same)) at.holds;
            has = keeps_same_named (named_in c l w) (named_in d l w) (named_too l w)
                (λ x some. elim (named_or_here l w x some) [
                  | inl found ↦ found
                  | inr here ↦ absurd (let same : q ≡ p = s.apart q p is kept here.0 here.1 in
                      true≢false (sym (is_same_place p) ∙ ap (λ (y : Place). place_is p y) (sym same)
                      ∙ other))
                ])
                (regions_of d) q at.value
                (having_but first known.marks (regions_of c) (regions_of d)
                (keeps_of K (named_in c l w)) q at.value t s.orderly.lost regions_but no_closing at.has);
          }
        ];
  }

-- with the word of a place as it is shown
shown_there : (old : Memory) (line word : ℕ) (c : Outcome) → CanLeaveAll old c
    → CanLeaveAll old (put_word c line word (shown old line word))
shown_there old line word c left l w = elim (cases_eq l line) [
  | inr ne ↦ subst (λ v. CanLeave old l w v)
      (sym (put_there c line word (shown old line word) l w (λ z. absurd (ne z)))) (left l w)
  | inl e ↦ elim (cases_eq w word) [
    | inr ne ↦ subst (λ v. CanLeave old l w v)
        (sym (put_there c line word (shown old line word) l w (λ _. ne))) (left l w)
    | inl f ↦ rw (e, f) (inl (put_here c line word (shown old line word)))
  ]
]

after_there : (old : Memory) (line word : ℕ) (c : Outcome) → IsAfterFence old c
    → IsAfterFence old (put_word c line word (shown old line word))
after_there old line word c after l w below = elim (cases_eq l line) [
  | inr ne ↦ subst (λ v. (v ≡ shown old l w) ⊎ ReadsWord old.image.trace l w v)
      (sym (put_there c line word (shown old line word) l w (λ z. absurd (ne z)))) (after l w below)
  | inl e ↦ elim (cases_eq w word) [
    | inr ne ↦ subst (λ v. (v ≡ shown old l w) ⊎ ReadsWord old.image.trace l w v)
        (sym (put_there c line word (shown old line word) l w (λ _. ne))) (after l w below)
    | inl f ↦ rw (e, f) (inl (put_here c line word (shown old line word)))
  ]
]

-- Thread t's log has n entries, and one more behind them, which is whole and durable: of place p, which its
-- region has guarded, with the word that is
-- shown. The count is raised over it.
pub stands_raised : (first : Heap) (known : Knowledge) (lay : Layout) (Waits : Threads) (old new : Memory)
    (t n : ℕ) (p : Place) → t < logs → n < log_entries
    → Puts (log_head_line t) 0 (suc n) old new → log_head_line t < old.size
    → is_kept_place known p ≡ true → guard_of known.guards p ≡ Some t → NoneClosing t known.marks
    → place_line lay known.world.heap p < lay.size
    → ((c : Outcome) → CanLeaveAll old c → log_count c t ≡ n)
    → ((c : Outcome) → CanLeaveAll old c → named_in c (place_line lay known.world.heap p)
    (place_word known.world.heap p) ≡ None)
    → ((c : Outcome) → CanLeaveAll old c → logged_at c t n ≡ record {
      place = number_of
          (place_line lay known.world.heap p) (place_word known.world.heap p);
      old = shown old
          (place_line lay known.world.heap p) (place_word known.world.heap p);
    })
    → Corresponds (Lies lay known) lay.directory lay.size (shown new) known.world.heap
    → Stands first known lay Waits old → Stands first known lay Waits new
stands_raised first known lay Waits old new t n p there room puts inside kept guard no_closing in_image counts
    unnamed entries shows s =
    let line = place_line lay known.world.heap p in
    let word = place_word known.world.heap p in
    let plain = not_log line word (place_lies first known lay Waits old s p kept) in
    let log_line : (l : ℕ) → log_head_line 0 ≤ l → l < first_object_line → l ≡ line → ⊥ = λ l low high e.
    let log : is_log_line l ≡ true = rw (
      le-leb
          (log_head_line 0) l low,
      lt-ltb l first_object_line high,
    ) refl in
    true≢false (sym log ∙ ap is_log_line e ∙ plain) in
    stands_store_by first known known lay Waits old new (log_head_line t) 0 (suc n) puts inside
    (keeps_same lay known known (record { durable = refl; sizes = sizes_refl known.world.heap }))
    s.orderly shows
    (λ k durable e. absurd (let low = (s.shows.objects (lay.line_of k) k
    (rw (durable, eq-eqb (lay.line_of k) (lay.line_of k) refl) refl)).low in omega (arith, low, e, there)))
    (λ K c fewer left covered. covered)
    (λ K c d fewer covered_of left left_new others is.
    let x = put_word c line word (shown old line word) in
    let left_x = shown_there old line word c left in
    let log_c : (l w : ℕ) → log_head_line 0 ≤ l → l < first_object_line
    → x l w ≡ c l w = λ l w low high. put_there c line word (shown old line word) l w
    (λ e. absurd (log_line l low high e)) in
    covered_raised first known lay Waits old t there s p kept guard no_closing in_image n room K x d
    (covered_of x left_x (after_there old line word c)) (counts x left_x) (unnamed x left_x)
    (put_here c line word (shown old line word))
    (λ l w not_head not_place. others l w not_head
    ∙ sym (put_there c line word (shown old line word) l w not_place))
    is
    (let at_entry = entries c left in
    let same : logged_at d t n ≡ logged_at c t n =
    rw (
      others (log_entry_line t n) (log_entry_word n) (λ e. absurd (omega (arith, e))),
      others
          (log_entry_line t n) (log_entry_word n + 1) (λ e. absurd (omega (arith, e))),
    ) refl in
    same ∙ at_entry))
    s
