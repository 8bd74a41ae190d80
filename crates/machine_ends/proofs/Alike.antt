-- The same queues over the same objects have the same work left, but for that of their lines.
use Rattle.std.proofs.Common.{◌≡◌, ℕ, zero, suc, ◌+◌, ◌/◌, ◌<◌, ◌≤◌, List, [], ◌∷◌, length, take, drop, refl, sym, ◌∙◌, ap}
use Rattle.std.proofs.Common.{subst, arith}
use Rattle.std.specs.Prelude.{All, Option, Some, None, min, slice_get, slice_index, slice_index_or, sum_by}
use Rattle.std.proofs.lemmas.List.Sums.{sum_by-cons}
use Rattle.std.proofs.lemmas.List.Elements.{All-head, All-tail, All-take, All-drop, All-weaker, All-from_get_or}
use Rattle.std.proofs.lemmas.Option.{slice_get_within, get_or_from_slice_get}
use Rattle.twin_forms.specs.Table.{Entry, entry, Lies}
use Rattle.twin_forms.specs.Sights.{view_of}
use Rattle.convert_queue.specs.declared.phase.Phase.{Phase}
use Rattle.convert_queue.specs.declared.phase.Phase.TheVariants.{Copy, Repair, Flush}
use Rattle.convert_queue.specs.Queues.{Queued, Queues, queue_in, queue_of, place_of, phase_of}
use Rattle.convert_queue.specs.Work.{line_work, whole_work, lines_in, uncopied_in, thread_work, sum_below}
use Rattle.convert_words.specs.Agreeing.{Is, Far, item_in}
use Rattle.convert_words.specs.Scenes.{Scene, AgreesAt}
use Rattle.converter.specs.Laws.{Tells, done_of, done_at, work_of}

-- ---- sums

below-same : (f g : ℕ → ℕ) (n : ℕ) → ((u : ℕ) → f u ≡ g u) → sum_below f n ≡ sum_below g n
unfolding sum_below
below-same f g zero same = refl
below-same f g (suc n) same =
    let rest = below-same f g n same in
    let here = same n in
    omega (arith, rest, here)

sum-alike : (f g : Queued → ℕ) (xs : List Queued) → All (λ x. f x ≡ g x) xs → sum_by f xs ≡ sum_by g xs
sum-alike f g [] all = refl
sum-alike f g (x ∷ xs) all =
    let head = All-head (λ y. f y ≡ g y) x xs all in
    let rest = sum-alike f g xs (All-tail (λ y. f y ≡ g y) x xs all) in
    let a = sum_by-cons f x xs in
    let b = sum_by-cons g x xs in
    omega (arith, head, rest, a, b)

-- ---- one thread

module _ (f g : ℕ → ℕ) where
  -- the two tell the same of this queued object
  abbrev TellsAlike : Queued → Type 0
  TellsAlike x = f x.0 ≡ g x.0

  lines-alike : (xs : List Queued) → All TellsAlike xs → lines_in f xs ≡ lines_in g xs
  lines-alike xs all = sum-alike (λ x. f x.0) (λ x. g x.0) xs all

  uncopied-alike : (xs : List Queued) → All TellsAlike xs → uncopied_in f xs ≡ uncopied_in g xs
  uncopied-alike xs all = sum-alike (λ x. whole_work (f x.0)) (λ x. whole_work (g x.0)) xs
      (All-weaker TellsAlike (λ x. whole_work (f x.0) ≡ whole_work (g x.0)) (λ x e. ap whole_work e) xs all)

  thread-alike : (queue : List Queued) (p : Phase) (n d d' : ℕ) → All TellsAlike queue → d ≡ d'
      → thread_work f queue p n d ≡ thread_work g queue p n d'
  thread-alike queue Copy n d d' all same =
      let front = lines-alike (take n queue) (All-take TellsAlike n queue all) in
      let back = uncopied-alike (drop n queue) (All-drop TellsAlike n queue all) in
      omega (arith, front, back, same)
  thread-alike queue Repair n d d' all same =
      let back = lines-alike (drop n queue) (All-drop TellsAlike n queue all) in
      omega (arith, back, same)
  thread-alike queue Flush n d d' all same = refl

  -- How far a thread is with the object at its place, where the heap says the same of its copied lines.
  done-alike : (copies copies' : List ℕ) (p : Phase) (l : ℕ) (at : Option Queued)
      → ((x : Queued) → at ≡ Some x → TellsAlike x × (p ≡ Copy
      → slice_index copies' x.1 ≡ slice_index copies x.1))
      → done_of f copies p l at ≡ done_of g copies' p l at
  done-alike copies copies' p l None same = refl
  done-alike copies copies' Copy l (Some x) same =
      let y = same x refl in
      ap (λ k. min (slice_index copies x.1) k) y.0 ∙ ap (λ k. min k (g x.0)) (sym (y.1 refl))
  done-alike copies copies' Repair l (Some x) same = ap (λ k. min l k) (same x refl).0
  done-alike copies copies' Flush l (Some x) same = refl

-- ---- all threads

-- by the parts of the queues on which a thread's work stands
abbrev thread_by : (ℕ → ℕ) → List ℕ → List (List Queued) → List (ℕ × ℕ) → List Phase → ℕ → ℕ
thread_by lines copies queues places phases u =
    thread_work lines (queue_in queues u) (slice_index_or phases u Copy) (slice_index_or places u (0, 0)).0
    (done_of lines copies (slice_index_or phases u Copy) (slice_index_or places u (0, 0)).1
    (slice_get (queue_in queues u) (slice_index_or places u (0, 0)).0))

-- the queues are the same, but for the marks of lines and for needs
pub record SameQueues (q q' : Queues) : Type 0 where
  pub queues : q'.queues ≡ q.queues
  pub places : q'.places ≡ q.places
  pub phases : q'.phases ≡ q.phases

pub queues-same : (q q' : Queues) → q' ≡ q → SameQueues q q'
queues-same q q' same = record {
  queues = ap (λ (x : Queues). x.queues) same;
  places = ap (λ (x : Queues). x.places) same;
  phases = ap (λ (x : Queues). x.phases) same;
}

-- From one scene to another with the same queues, whose objects lie where they lay.
module _ (s s' : Scene) (es es' : List Entry) (f g : ℕ → ℕ) (a : AgreesAt s es)
    (h' : Lies (view_of s'.heap) es') (long : length es ≤ length es')
    (same : (n : ℕ) → n < length es → entry es' n ≡ entry es n) (queues : SameQueues s.queue s'.queue)
    (tf : Tells f es) (tg : Tells g es') where
  abbrev copies : List ℕ
  copies = s.heap.marks.copies

  abbrev copies' : List ℕ
  copies' = s'.heap.marks.copies

  tells-alike : (u i n : ℕ) → Is s.queue es u i n → TellsAlike f g (item_in s.queue.queues u i)
  tells-alike u i n is =
      let c = is.claimed in
      let e = same n c.0 in
      let there : n < length es' = (let lt = c.0 in omega (arith, lt, long)) in
      ap f is.object ∙ tf u n c
      ∙ sym (subst (λ (x : Entry). g x.at ≡ x.slots / 8 + 1) e
      (tg u n (there, ap (λ (x : Entry). x.owner) e ∙ c.1)))
      ∙ sym (ap g is.object)

  all-alike : (u : ℕ) → All (TellsAlike f g) (queue_of s.queue u)
  all-alike u = All-from_get_or (TellsAlike f g) (queue_of s.queue u) (0, 0) (λ i lt.
      (let there = a.queued.there u i lt in tells-alike u i there.0 there.1))

  -- the object at the place of a thread that copies has so many copied lines
  copies-alike : (u i n : ℕ) → i ≡ (place_of s.queue u).0 → Is s.queue es u i n → phase_of s.queue u ≡ Copy
      → slice_index copies' (item_in s.queue.queues u i).1 ≡ slice_index copies (item_in s.queue.queues u i).1
  copies-alike u i n here is copying =
      let far = subst (λ p. Far p (place_of s.queue u).0 (place_of s.queue u).1 i (entry es n)) copying
      (a.on_way u i n is).reaches.far in
      let one = (far.1 here).0 in
      let lt = is.claimed.0 in
      let e = same n lt in
      let there : n < length es' = omega (arith, lt, long) in
      let one' : (entry es' n).stage ≡ 1 = ap (λ (x : Entry). x.stage) e ∙ one in
      let before : slice_index copies (entry es n).line ≡ (entry es n).copied
      = (a.lies.sits n lt).count one in
      let after : slice_index copies' (entry es' n).line ≡ (entry es' n).copied
      = (h'.sits n there).count one' in
      ap (slice_index copies') is.line ∙ sym (ap (λ (x : Entry). slice_index copies' x.line) e) ∙ after
      ∙ ap (λ (x : Entry). x.copied) e ∙ sym before ∙ sym (ap (slice_index copies) is.line)

  thread-same : (u : ℕ) → thread_by f copies s.queue.queues s.queue.places s.queue.phases u
      ≡ thread_by g copies' s.queue.queues s.queue.places s.queue.phases u
  thread-same u =
      let i = (place_of s.queue u).0 in
      let queue = queue_of s.queue u in
      thread-alike f g queue (phase_of s.queue u) i (done_at f copies s.queue u) (done_at g copies' s.queue u)
      (all-alike u) (done-alike f g copies copies' (phase_of s.queue u) (place_of s.queue u).1
      (slice_get queue i) (λ x is.
      (let lt = slice_get_within queue i x is in
      let there = a.queued.there u i lt in
      let item : slice_index_or queue i (0, 0) ≡ x = get_or_from_slice_get queue i x (0, 0) is in (
        subst (TellsAlike f g) item (tells-alike u i there.0 there.1),
        λ copying. subst (λ (y : Queued). slice_index copies' y.1 ≡ slice_index copies y.1) item
            (copies-alike u i there.0 refl there.1 copying),
      ))))

  thread-now : (u : ℕ) → thread_by g copies' s.queue.queues s.queue.places s.queue.phases u
      ≡ thread_by g copies' s'.queue.queues s'.queue.places s'.queue.phases u
  thread-now u =
      ap (λ x. thread_by g copies' x s.queue.places s.queue.phases u) (sym queues.queues)
      ∙ ap (λ x. thread_by g copies' s'.queue.queues x s.queue.phases u) (sym queues.places)
      ∙ ap (λ x. thread_by g copies' s'.queue.queues s'.queue.places x u) (sym queues.phases)

  pub work-alike : work_of g s' + line_work s.queue.marks ≡ work_of f s + line_work s'.queue.marks
  work-alike =
      let threads = below-same (thread_by f copies s.queue.queues s.queue.places s.queue.phases)
      (thread_by g copies' s'.queue.queues s'.queue.places s'.queue.phases) 64
      (λ u. thread-same u ∙ thread-now u) in
      omega (arith, threads)
