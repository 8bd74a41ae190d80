-- What conversions have left to do, as a number: each quiet step of a conversion takes one.
use Rattle.std.specs.Prelude.{ℕ, zero, suc, ◌+◌, ◌*◌, ◌-◌, List, sum_by, take, drop}
use Rattle.convert_queue.specs.declared.phase.Phase.{Phase}
use Rattle.convert_queue.specs.declared.phase.Phase.TheVariants.{Copy, Repair, Flush}
use Rattle.convert_queue.specs.Marks.{Mark, clean, stored, written}
use Rattle.convert_queue.specs.Queues.{Queued, Queues, queue_of, place_of, phase_of}

-- a line that was stored to: one until it is written, and one until a fence has followed
abbrev pub weight : Mark → ℕ
weight clean = 0
weight (stored t) = 2
weight (written t) = 1

abbrev pub line_work : List Mark → ℕ
line_work marks = sum_by weight marks

-- An object that isn't copied, of so many lines: one until it is forwarded, and for each line one until it is copied,
-- one until it is repaired, one until it is written, and one until that is fenced.
abbrev pub whole_work : ℕ → ℕ
whole_work lines = 1 + 4 * lines

-- of all objects, by a function that tells how many lines an object has
abbrev pub lines_in : (ℕ → ℕ) → List Queued → ℕ
lines_in lines queue = sum_by (λ (x : Queued). lines x.0) queue

abbrev pub uncopied_in : (ℕ → ℕ) → List Queued → ℕ
uncopied_in lines queue = sum_by (λ (x : Queued). whole_work (lines x.0)) queue

-- Of a thread at its n-th object, of which `done` lines are copied or repaired. A line that was copied is marked as
-- stored to, and what is left of its write is counted there.
abbrev pub thread_work : (ℕ → ℕ) → List Queued → Phase → ℕ → ℕ → ℕ
thread_work lines queue Copy n done = lines_in lines (take n queue) + (uncopied_in lines (drop n queue) - 3 * done)
thread_work lines queue Repair n done = lines_in lines (drop n queue) - done
thread_work lines queue Flush n done = 0

-- f 0 + .. + f (n - 1)
unfoldable pub sum_below : (ℕ → ℕ) → ℕ → ℕ
sum_below f zero = 0
sum_below f (suc n) = f n + sum_below f n

-- of all threads and lines
abbrev pub work_left : (ℕ → ℕ) → (ℕ → ℕ) → Queues → ℕ
work_left lines done q =
    line_work q.marks + sum_below (λ t. thread_work lines (queue_of q t) (phase_of q t) (place_of q t).0 (done t)) 64
