-- Names, one after the other.
use Rattle.std.proofs.Common.{◌≡◌, inl, ℕ, zero, suc, ◌+◌, ◌*◌, ◌-◌, ◌<◌, ◌≤◌, List, [], ◌∷◌, ◌++◌, length, map}
use Rattle.std.proofs.Common.{refl, sym, ◌∙◌, ap, arith, append_assoc, append-nil, slice_index_or, slice_get}
use Rattle.std.specs.Prelude.{Some}
use Rattle.std.proofs.lemmas.List.{length-append}
use Rattle.ap_base.specs.References.{reference_word}
use Rattle.ap_base.specs.declared.reference.Ref.TheVariants.{Volatile}
use Rattle.run_history.specs.Recorded.{History}
use Rattle.twin_forms.specs.Table.{Entry, Leads}
use Rattle.twin_forms.specs.Sights.{Twin, view_of}
use Rattle.twin_heap.specs.Here.{Says as SaysOf}
use Rattle.convert_queue.specs.Queues.{Queued, Queues, queue_of, total}
use Rattle.convert_words.specs.Scenes.{Scene, AgreesAt}
use Rattle.convert_words.proofs.Basics.{young}
use Rattle.converter.proofs.Goings.{found}
use Rattle.converter.proofs.Named.{number_is}
use Rattle.converter.specs.Laws.{number_at}
use Rattle.store_barrier.specs.Passed.{member_names, names_below}
use Rattle.store_barrier.proofs.Passed.{names_fit}
use Rattle.shared_heap.specs.Conversions.{with_names}

pub with_none : (h : History) → with_names h [] ≡ h
with_none h =
    let left : h.room - 0 ≡ h.room = omega arith in
    ap (λ (ns : List ℕ). record h { named = ns; room = h.room - 0 }) (append-nil h.named)
    ∙ ap (λ k. record h { room = k }) left

pub with_more : (h : History) (xs ys : List ℕ) → with_names (with_names h xs) ys ≡ with_names h (xs ++ ys)
with_more h xs ys =
    let long = length-append xs ys in
    let left : (h.room - length xs) - length ys ≡ h.room - length (xs ++ ys) = omega (arith, long) in
    ap (λ (ns : List ℕ). record h { named = ns; room = (h.room - length xs) - length ys })
    (append_assoc h.named xs ys)
    ∙ ap (λ k. record h { named = h.named ++ (xs ++ ys); room = k }) left

-- ---- of one queue

-- the names of the first so many objects of a queue
pub names_to : (Queued → ℕ) → List Queued → ℕ → List ℕ
names_to f q zero = []
names_to f q (suc i) = names_to f q i ++ f (slice_index_or q i (0, 0)) ∷ []

pub names_next : (f : Queued → ℕ) (q : List Queued) (i : ℕ)
    → names_to f q (i + 1) ≡ names_to f q i ++ f (slice_index_or q i (0, 0)) ∷ []
unfolding names_to
names_next f q i = let next : i + 1 ≡ suc i = omega arith in ap (names_to f q) next

pub count_named : (f : Queued → ℕ) (q : List Queued) (i : ℕ) → length (names_to f q i) ≡ i
unfolding names_to
count_named f q zero = refl
count_named f q (suc i) =
    let before = count_named f q i in
    let long = length-append (names_to f q i) (f (slice_index_or q i (0, 0)) ∷ []) in
    omega (arith, before, long)

names_behind : (f : Queued → ℕ) (x : Queued) (q : List Queued) (i : ℕ)
    → names_to f (x ∷ q) (suc i) ≡ f x ∷ names_to f q i
unfolding names_to
names_behind f x q zero = refl
names_behind f x q (suc i) = ap (λ (ns : List ℕ). ns ++ f (slice_index_or q i (0, 0)) ∷ []) (names_behind f x q i)

names_all : (f : Queued → ℕ) (q : List Queued) → names_to f q (length q) ≡ map f q
unfolding names_to
names_all f [] = refl
names_all f (x ∷ q) = names_behind f x q (length q) ∙ ap (λ (ns : List ℕ). f x ∷ ns) (names_all f q)

pub names_end : (f : Queued → ℕ) (q : List Queued) (i : ℕ) → i ≤ length q → length q ≤ i → names_to f q i ≡ map f q
names_end f q i before behind =
    let same : i ≡ length q = omega (arith, before, behind) in
    ap (names_to f q) same ∙ names_all f q

pub none_named : (f : Queued → ℕ) (q : List Queued) (h : History) → h ≡ with_names h (names_to f q 0)
unfolding names_to
none_named f q h = sym (with_none h)

-- The next object is named.
pub next_named : (f : Queued → ℕ) (q : List Queued) (first h h' : History) (i number : ℕ)
    → h ≡ with_names first (names_to f q i) → h' ≡ with_names h (number ∷ []) → number ≡ f (slice_index_or q i (0, 0))
    → h' ≡ with_names first (names_to f q (i + 1))
next_named f q first h h' i number before named is =
    named ∙ ap (λ n. with_names h (n ∷ [])) is
    ∙ ap (λ (k : History). with_names k (f (slice_index_or q i (0, 0)) ∷ [])) before
    ∙ with_more first (names_to f q i) (f (slice_index_or q i (0, 0)) ∷ [])
    ∙ ap (with_names first) (sym (names_next f q i))

-- ---- numbers

-- a queued object, as its word leads to it
pub leads_to : (s : Scene) (es : List Entry) (u i : ℕ) (x : Queued) → AgreesAt s es
    → Some x ≡ slice_get (queue_of s.queue u) i → Leads (view_of s.heap) (reference_word (Volatile x.0))
leads_to s es u i x a is =
    let f = found s es u i x a is in
    let claimed = f.1.claimed in (
      es,
      f.0,
      a.lies,
      claimed.0,
      inl (young (view_of s.heap) es u f.0 a.lies claimed, ap (λ k. 2 * k + 1) (sym f.2)),
    )

-- and its number
pub number_of_queued : (s : Scene) (es : List Entry) (u i number : ℕ) (x : Queued) → AgreesAt s es
    → Some x ≡ slice_get (queue_of s.queue u) i
    → SaysOf (view_of s.heap) (reference_word (Volatile x.0)) (λ _ n. number ≡ n)
    → number ≡ number_at s (slice_index_or (queue_of s.queue u) i (0, 0)).0
number_of_queued s es u i number x a is says =
    let f = found s es u i x a is in
    let claimed = f.1.claimed in
    says es f.0 a.lies claimed.0
    (inl (young (view_of s.heap) es u f.0 a.lies claimed, ap (λ k. 2 * k + 1) (sym f.2)))
    ∙ sym (number_is s es u i f.0 a f.1)

-- ---- room

-- There is room for the next name of a queue.
pub name_left : (f : Queued → ℕ) (q : List Queued) (first h : History) (i : ℕ) → h ≡ with_names first (names_to f q i)
    → i < length q → length q ≤ first.room → 0 < h.room
name_left f q first h i named within room =
    let left = ap (λ (k : History). k.room) named in
    let count = count_named f q i in
    omega (arith, left, count, within, room)

-- There is room for the names of the next queue of a group.
pub group_left : (s : Scene) (set : ℕ) (first h : History) (u : ℕ) → u < 64 → length s.queue.queues ≡ 64
    → h ≡ with_names first (names_below s set u) → total s.queue.queues ≤ first.room
    → length (queue_of s.queue u) ≤ h.room
group_left s set first h u below many named room =
    let left = ap (λ (k : History). k.room) named in
    let fit = names_fit s set u below many in
    omega (arith, left, fit, room)

-- The next thread's queue is named, if it is of the group.
pub group_next : (s : Scene) (set : ℕ) (first h h' : History) (u : ℕ) → h ≡ with_names first (names_below s set u)
    → h' ≡ with_names h (member_names s set u) → h' ≡ with_names first (names_below s set (u + 1))
group_next s set first h h' u before named =
    let next : suc u ≡ u + 1 = omega arith in
    named ∙ ap (λ (k : History). with_names k (member_names s set u)) before
    ∙ with_more first (names_below s set u) (member_names s set u)
    ∙ ap (λ n. with_names first (names_below s set n)) next

-- ---- names say nothing of lines and monitors

pub same_names : (heap : Twin) (q : Queues) (free free' : ℕ) (keys keys' : List ℕ) (set n : ℕ)
    → names_below (record { heap = heap; queue = q; free = free; keys = keys }) set n
    ≡ names_below (record { heap = heap; queue = q; free = free'; keys = keys' }) set n
same_names heap q free free' keys keys' set zero = refl
same_names heap q free free' keys keys' set (suc n) =
    ap (λ (ns : List ℕ). ns ++ member_names (record { heap = heap; queue = q; free = free; keys = keys }) set n)
    (same_names heap q free free' keys keys' set n)
