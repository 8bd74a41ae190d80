-- By how much each step lowers or raises the work that is left.
use Rattle.std.proofs.Common.{◌≡◌, ◌≢◌, inl, inr, ℕ, zero, suc, ◌+◌, ◌*◌, ◌<◌, ◌≤◌, List, [], ◌∷◌, ◌++◌, length, get_or, take}
use Rattle.std.proofs.Common.{drop, refl, sym, ◌∙◌, ap, arith}
use Rattle.std.proofs.lemmas.Bool.{cases_eq}
use Rattle.std.proofs.lemmas.List.{take-append-le, drop-append-le, take_more, drop_more, take_all, drop_all}
use Rattle.std.proofs.lemmas.List.Sums.{sum_by-set, sum_by-cons, sum_by-append}
use Rattle.convert_queue.specs.declared.phase.Phase.TheVariants.{Copy, Repair}
use Rattle.convert_queue.specs.Marks.{Mark, clean, stored, written, mark_at, with_store, with_write, with_fence, after_write}
use Rattle.convert_queue.specs.Marks.{after_fence, IsStored, IsWritten}
use Rattle.convert_queue.specs.Queues.{Queued}
use Rattle.convert_queue.specs.Work.{weight, line_work, whole_work, lines_in, uncopied_in, thread_work, sum_below}

-- A store to a line: two are left of it.
pub work_stored : (marks : List Mark) (t l : ℕ) → l < length marks → line_work (with_store marks t l) + weight (mark_at marks l) ≡ line_work marks + 2
work_stored marks t l lt = sum_by-set weight marks l (stored t) clean lt

-- A write of a line that was stored to takes one.
pub work_written : (marks : List Mark) (t l : ℕ) → l < length marks → IsStored marks t l → line_work (with_write marks l) + 1 ≡ line_work marks
work_written marks t l lt is =
    let e = sum_by-set weight marks l (after_write (mark_at marks l)) clean lt in
    let old : weight (mark_at marks l) ≡ 2 = ap weight is in
    let new : weight (after_write (mark_at marks l)) ≡ 1 = ap (λ (m : Mark). weight (after_write m)) is in
    omega (arith, e, old, new)

fence_one : (m : Mark) → weight (after_fence m) ≤ weight m
fence_one clean = omega arith
fence_one (stored t) = omega arith
fence_one (written t) = omega arith

one_more : (m : Mark) (marks : List Mark) → line_work (m ∷ marks) ≡ weight m + line_work marks
one_more m marks = sum_by-cons weight m marks

-- A fence adds nothing, and takes one at least where a line waits for it.
pub work_fence : (marks : List Mark) → line_work (with_fence marks) ≤ line_work marks
work_fence [] = omega arith
work_fence (m ∷ marks) =
    let a = fence_one m in
    let b = work_fence marks in
    omega (arith, a, b, one_more m marks, one_more (after_fence m) (with_fence marks))

pub work_fenced : (marks : List Mark) (t l : ℕ) → l < length marks → IsWritten marks t l → line_work (with_fence marks) < line_work marks
work_fenced [] t l lt is = absurd (omega (arith, lt))
work_fenced (m ∷ marks) t zero lt is =
    let a = work_fence marks in
    let w : weight m ≡ 1 = ap weight is in
    let x : weight (after_fence m) ≡ 0 = ap (λ (y : Mark). weight (after_fence y)) is in
    omega (arith, a, w, x, one_more m marks, one_more (after_fence m) (with_fence marks))
work_fenced (m ∷ marks) t (suc l) lt is =
    let a = fence_one m in
    let b = work_fenced marks t l (omega (arith, lt)) is in
    omega (arith, a, b, one_more m marks, one_more (after_fence m) (with_fence marks))

sum_same : (f g : ℕ → ℕ) (n : ℕ) → ((u : ℕ) → u < n → f u ≡ g u) → sum_below f n ≡ sum_below g n
unfolding sum_below
sum_same f g zero same = refl
sum_same f g (suc n) same =
    let a = sum_same f g n (λ u lt. same u (omega (arith, lt))) in
    let b = same n (omega arith) in
    omega (arith, a, b)

-- Where one thread's work alone changes, the sum changes by that.
pub sum_changed : (f g : ℕ → ℕ) (n t : ℕ) → t < n → ((u : ℕ) → u ≢ t → f u ≡ g u) → sum_below f n + g t ≡ sum_below g n + f t
unfolding sum_below
sum_changed f g zero t lt same = absurd (omega (arith, lt))
sum_changed f g (suc n) t lt same = elim (cases_eq t n) [
  | inl e ↦
      let all = sum_same f g n (λ u below. same u (λ h. omega (arith, h, e, below))) in
      let x : f t ≡ f n = ap f e in
      let y : g t ≡ g n = ap g e in
      omega (arith, all, x, y)
  | inr ne ↦
      let less : t < n = omega (arith, lt, ne) in
      let all = sum_changed f g n t less same in
      let x : f n ≡ g n = same n (λ h. ne (sym h)) in
      omega (arith, all, x)
]

-- A claimed object is put behind a queue: its whole work is added.
pub work_put : (lines : ℕ → ℕ) (queue : List Queued) (x : Queued) (n done : ℕ) → n ≤ length queue → 3 * done ≤ uncopied_in lines (drop n queue)
    → thread_work lines (queue ++ x ∷ []) Copy n done ≡ thread_work lines queue Copy n done + whole_work (lines x.0)
work_put lines queue x n done le fit =
    let front : take n (queue ++ x ∷ []) ≡ take n queue = take-append-le n queue (x ∷ []) le in
    let back : drop n (queue ++ x ∷ []) ≡ drop n queue ++ x ∷ [] = drop-append-le n queue (x ∷ []) le in
    let a = ap (lines_in lines) front in
    let b = ap (uncopied_in lines) back in
    let c = sum_by-append (λ (y : Queued). whole_work (lines y.0)) (drop n queue) (x ∷ []) in
    let d = sum_by-cons (λ (y : Queued). whole_work (lines y.0)) x [] in
    omega (arith, a, b, c, d, fit)

-- the object at the place
head_copy : (lines : ℕ → ℕ) (queue : List Queued) (n : ℕ) (d : Queued) → n < length queue
    → uncopied_in lines (drop n queue) ≡ whole_work (lines (get_or queue n d).0) + uncopied_in lines (drop (n + 1) queue)
head_copy lines queue n d lt =
    ap (uncopied_in lines) (drop_more queue n d lt) ∙ sum_by-cons (λ (y : Queued). whole_work (lines y.0)) (get_or queue n d) (drop (n + 1) queue)

head_repair : (lines : ℕ → ℕ) (queue : List Queued) (n : ℕ) (d : Queued) → n < length queue
    → lines_in lines (drop n queue) ≡ lines (get_or queue n d).0 + lines_in lines (drop (n + 1) queue)
head_repair lines queue n d lt =
    ap (lines_in lines) (drop_more queue n d lt) ∙ sum_by-cons (λ (y : Queued). lines y.0) (get_or queue n d) (drop (n + 1) queue)

-- One more line is copied: with the store to it, which adds two where the line was clean, it takes one.
pub work_copied : (lines : ℕ → ℕ) (queue : List Queued) (n done : ℕ) (d : Queued) → n < length queue → done < lines (get_or queue n d).0
    → thread_work lines queue Copy n (done + 1) + 3 ≡ thread_work lines queue Copy n done
work_copied lines queue n done d lt less =
    let h = head_copy lines queue n d lt in
    omega (arith, h, less)

-- An object is forwarded, and the place goes on: that takes one.
pub work_forwarded : (lines : ℕ → ℕ) (queue : List Queued) (n : ℕ) (d : Queued) → n < length queue
    → thread_work lines queue Copy (n + 1) 0 + 1 ≡ thread_work lines queue Copy n (lines (get_or queue n d).0)
work_forwarded lines queue n d lt =
    let h = head_copy lines queue n d lt in
    let front = ap (lines_in lines) (take_more queue n d lt) in
    let a = sum_by-append (λ (y : Queued). lines y.0) (take n queue) (get_or queue n d ∷ []) in
    let b = sum_by-cons (λ (y : Queued). lines y.0) (get_or queue n d) [] in
    omega (arith, h, front, a, b)

-- When all is copied, repair begins with the same work.
pub work_to_repair : (lines : ℕ → ℕ) (queue : List Queued) → thread_work lines queue Copy (length queue) 0 ≡ thread_work lines queue Repair 0 0
work_to_repair lines queue =
    let front = ap (lines_in lines) (take_all (length queue) queue (omega arith)) in
    let back = ap (uncopied_in lines) (drop_all (length queue) queue (omega arith)) in
    omega (arith, front, back)

-- A line is repaired: that takes one. The place goes on to the next object with the same work.
pub work_repaired : (lines : ℕ → ℕ) (queue : List Queued) (n done : ℕ) (d : Queued) → n < length queue → done < lines (get_or queue n d).0
    → thread_work lines queue Repair n (done + 1) + 1 ≡ thread_work lines queue Repair n done
work_repaired lines queue n done d lt less =
    let h = head_repair lines queue n d lt in
    omega (arith, h, less)

pub work_next : (lines : ℕ → ℕ) (queue : List Queued) (n : ℕ) (d : Queued) → n < length queue
    → thread_work lines queue Repair (n + 1) 0 ≡ thread_work lines queue Repair n (lines (get_or queue n d).0)
work_next lines queue n d lt =
    let h = head_repair lines queue n d lt in
    omega (arith, h)

-- When all is repaired, the lines alone are left.
pub work_to_flush : (lines : ℕ → ℕ) (queue : List Queued) (done : ℕ) → thread_work lines queue Repair (length queue) done ≡ 0
work_to_flush lines queue done =
    let back = ap (lines_in lines) (drop_all (length queue) queue (omega arith)) in
    omega (arith, back)

-- A thread that begins with no object has no work.
pub work_begun : (lines : ℕ → ℕ) → thread_work lines [] Copy 0 0 ≡ 0
work_begun lines = refl
