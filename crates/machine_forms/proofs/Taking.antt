-- A seal empties the queues of its threads, and leaves all others.
use Rattle.std.proofs.Common.{◌≡◌, inl, inr, ℕ, zero, suc, ◌+◌, ◌<◌, ◌≤◌, Bool, true, false, List, [], ◌∷◌, length}
use Rattle.std.proofs.Common.{refl, sym, ◌∙◌, ap, subst, arith, if◌then◌else◌}
use Rattle.std.proofs.lemmas.List.{length-append, length-map}
use Rattle.std.proofs.lemmas.List.Sums.{sum_by-cons}
use Rattle.twin_forms.proofs.Led.{below_or_not}
use Rattle.convert_queue.specs.Queues.{Queued, Queues, queue_in, queue_of, total}
use Rattle.convert_queue.specs.Threads.{has}
use Rattle.convert_words.specs.Converting.{SealsGroup}
use Rattle.convert_words.specs.Scenes.{Scene}
use Rattle.converter.specs.Laws.{number_at}
use Rattle.machine_forms.specs.Naming.{SealsTakeQueues, group_names, member_names, names_below, queue_names}

-- how many objects the first n threads have queued
count_below : List (List Queued) → ℕ → ℕ
count_below queues zero = 0
count_below queues (suc n) = count_below queues n + length (queue_in queues n)

count_behind : (q : List Queued) (queues : List (List Queued)) (n : ℕ)
    → count_below (q ∷ queues) (suc n) ≡ length q + count_below queues n
unfolding count_below
count_behind q queues zero = omega arith
count_behind q queues (suc n) = let before = count_behind q queues n in omega (arith, before)

total_below : (queues : List (List Queued)) → total queues ≡ count_below queues (length queues)
unfolding count_below
total_below [] = refl
total_below (q ∷ queues) =
    let first : total (q ∷ queues) ≡ length q + total queues =
    sum_by-cons (λ (x : List Queued). length x) q queues in
    let rest = total_below queues in
    let behind = count_behind q queues (length queues) in
    omega (arith, first, rest, behind)

module _ (s : Scene) (q : Queues) (set : ℕ) (empty : (t : ℕ) → has set t ≡ true → queue_of q t ≡ [])
    (kept : (t : ℕ) → has set t ≡ false → queue_of q t ≡ queue_of s.queue t) where
  member_taken : (t : ℕ) (b : Bool) → has set t ≡ b
      → length (queue_of q t) + length (if b then queue_names s t else []) ≡ length (queue_of s.queue t)
  member_taken t true in_set =
      let none = ap (λ (x : List Queued). length x) (empty t in_set) in
      let all = length-map (queue_of s.queue t) (λ (x : Queued). number_at s x.0) in
      omega (arith, none, all)
  member_taken t false out = let same = ap (λ (x : List Queued). length x) (kept t out) in omega (arith, same)

  below_taken : (n : ℕ) → count_below q.queues n + length (names_below s set n) ≡ count_below s.queue.queues n
  unfolding count_below
  below_taken zero = refl
  below_taken (suc n) =
      let before = below_taken n in
      let here = member_taken n (has set n) refl in
      let long = length-append (names_below s set n) (member_names s set n) in
      omega (arith, before, here, long)

  all_taken : length s.queue.queues ≡ 64 → length q.queues ≡ 64
      → total q.queues + length (group_names s set) ≡ total s.queue.queues
  all_taken many still =
      let before = total_below s.queue.queues ∙ ap (count_below s.queue.queues) many in
      let after = total_below q.queues ∙ ap (count_below q.queues) still in
      let taken = below_taken 64 in
      omega (arith, before, after, taken)

pub seals_take_queues : SealsTakeQueues
seals_take_queues t set s s' es ms ms' agrees e =
    let says : SealsGroup e.at s' es e.after t set = e.converts.says in
    all_taken s s'.queue set (λ w in_set. says.released.empty w in_set)
    (λ w out. says.released.kept w out ∙ ap (λ (qs : List (List Queued)). queue_in qs w) e.goes_on.queues)
    agrees.sizes.queues e.converts.agrees.sizes.queues

-- ---- room for names

count_up : (queues : List (List Queued)) (n m : ℕ) → n ≤ m → count_below queues n ≤ count_below queues m
unfolding count_below
count_up queues n zero le = let none : n ≡ 0 = omega (arith, le) in
    subst (λ k. count_below queues k ≤ 0) (sym none) (omega arith)
count_up queues n (suc m) le = elim (below_or_not n (suc m)) [
  | inl lt ↦ (let before = count_up queues n m (omega (arith, lt)) in omega (arith, before))
  | inr past ↦ (let same : n ≡ suc m = omega (arith, le, past) in
      subst (λ k. count_below queues k ≤ count_below queues (suc m)) (sym same) (omega arith))
]

module _ (s : Scene) (set : ℕ) where
  member_fits : (t : ℕ) (b : Bool) → length (if b then queue_names s t else []) ≤ length (queue_of s.queue t)
  member_fits t true = let all = length-map (queue_of s.queue t) (λ (x : Queued). number_at s x.0) in omega (arith, all)
  member_fits t false = omega arith

  below_fits : (n : ℕ) → length (names_below s set n) ≤ count_below s.queue.queues n
  unfolding count_below
  below_fits zero = omega arith
  below_fits (suc n) =
      let before = below_fits n in
      let here = member_fits n (has set n) in
      let long = length-append (names_below s set n) (member_names s set n) in
      omega (arith, before, here, long)

  -- What a thread has queued can be named behind what those before it have.
  pub names_fit : (n : ℕ) → n < 64 → length s.queue.queues ≡ 64
      → length (names_below s set n) + length (queue_of s.queue n) ≤ total s.queue.queues
  unfolding count_below
  names_fit n few many =
      let before = below_fits n in
      let up : count_below s.queue.queues (suc n) ≤ count_below s.queue.queues 64 =
      count_up s.queue.queues (suc n) 64 (omega (arith, few)) in
      let all = total_below s.queue.queues ∙ ap (count_below s.queue.queues) many in
      omega (arith, before, up, all)
