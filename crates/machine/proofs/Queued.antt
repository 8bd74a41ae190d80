-- How many objects are queued, once a thread has claimed one more.
use Rattle.std.proofs.Common.{◌≡◌, ℕ, zero, suc, ◌+◌, ◌<◌, List, [], ◌∷◌, ◌++◌, length, ◌∙◌, ap, arith}
use Rattle.std.specs.Prelude.{slice_index_or, slice_set}
use Rattle.std.proofs.lemmas.List.Sums.{sum_by-cons}
use Rattle.std.proofs.lemmas.List.{length-append}
use Rattle.twin_forms.specs.Table.{Entry}
use Rattle.convert_queue.specs.Queues.{Queued, Queues, total}
use Rattle.convert_words.specs.Scenes.{Scene}
use Rattle.convert_words.specs.Converting.{TakesIn}
use Rattle.converter.specs.Beginning.{BeginsByClaim}

one-more : (qs : List (List Queued)) (t : ℕ) (x : Queued) → t < length qs
    → total (slice_set qs t (slice_index_or qs t [] ++ x ∷ [])) ≡ total qs + 1
one-more [] t x below = absurd (omega (arith, below))
one-more (q ∷ qs) zero x below =
    let more = length-append q (x ∷ []) in
    let now = sum_by-cons (λ (queue : List Queued). length queue) (q ++ x ∷ []) qs in
    let old = sum_by-cons (λ (queue : List Queued). length queue) q qs in
    let sum : total ((q ++ x ∷ []) ∷ qs) ≡ total (q ∷ qs) + 1 = omega (arith, more, now, old) in sum
one-more (q ∷ qs) (suc t) x below =
    let rest = one-more qs t x (omega (arith, below)) in
    let now = sum_by-cons (λ (queue : List Queued). length queue) q
    (slice_set qs t (slice_index_or qs t [] ++ x ∷ [])) in
    let old = sum_by-cons (λ (queue : List Queued). length queue) q qs in
    let sum : total (q ∷ slice_set qs t (slice_index_or qs t [] ++ x ∷ [])) ≡ total (q ∷ qs) + 1
    = omega (arith, rest, now, old) in sum

pub claimed-queued : (s s' : Scene) (es es' : List Entry) (t : ℕ) → t < 64 → length s.queue.queues ≡ 64
    → TakesIn s s' es es' t → total s'.queue.queues ≡ total s.queue.queues + 1
claimed-queued s s' es es' t below long takes =
    ap (λ (q : Queues). total q.queues) takes.queue
    ∙ one-more s.queue.queues t _ (omega (arith, below, long))

pub begun-queued : (s s' : Scene) (es es' : List Entry) (t m : ℕ) → t < 64 → length s.queue.queues ≡ 64
    → BeginsByClaim s s' es es' t m → total s'.queue.queues ≡ total s.queue.queues + 1
begun-queued s s' es es' t m below long claims =
    ap (λ (q : Queues). total q.queues) claims.queue
    ∙ one-more s.queue.queues t _ (omega (arith, below, long))
