-- By how much the steps of an event lower the work that is left.
use Rattle.std.proofs.Common.{◌≡◌, ◌⊎◌, inl, inr, ℕ, ◌+◌, ◌<◌, List, length, get_or, refl, sym, ◌∙◌, ap, subst, arith}
use Rattle.twin_forms.specs.Table.{Entry, entry, lines_of}
use Rattle.twin_forms.specs.Sights.{view_of, held_of, written_of}
use Rattle.convert_queue.specs.declared.phase.Phase.{Phase}
use Rattle.convert_queue.specs.declared.phase.Phase.TheVariants.{Copy, Repair}
use Rattle.convert_queue.specs.Marks.{mark_at, with_store, IsStored, IsWritten}
use Rattle.convert_queue.specs.Queues.{Queued, Queues, queue_in, queue_of, place_of, phase_of}
use Rattle.convert_queue.specs.Work.{weight, line_work, thread_work, sum_below, work_left}
use Rattle.convert_queue.proofs.WorkLaws.{work_stored, work_written, work_fenced, work_copied, work_forwarded, work_repaired}
use Rattle.convert_queue.proofs.WorkLaws.{sum_changed}
use Rattle.convert_words.specs.Scenes.{Scene, IsKey, AgreesAt}
use Rattle.convert_words.proofs.Basics.{room_of}
use Rattle.convert_words.proofs.Noting.{uncopied_clean}
use Rattle.converter.specs.Laws.{CopiesTakeWork, ForwardsTakeWork, RepairsTakeWork, WritesTakeWork, FencesTakeWork}

-- a marked line is one of the image's
marked_within : (s : Scene) (es : List Entry) (t l : ℕ) → AgreesAt s es → IsStored s.queue.marks t l ⊎ IsWritten s.queue.marks t l → l < length s.queue.marks
marked_within s es t l a marked =
    let x = a.noted t l marked in
    let i = a.queued.all t x.n x.claimed in
    let room = room_of (view_of s.heap) es x.n a.lies x.claimed.0 i.1.placed in
    let long = a.sizes.marks in
    let here = x.here in
    let within = x.within in
    omega (arith, room, long, here, within)

pub writes_take_work : WritesTakeWork
writes_take_work lines done t s s' es es' a c =
    let w = c.says.0 in
    let less = work_written s.queue.marks t w.line (marked_within s es t w.line a (inl w.stored)) w.stored in
    subst (λ (q : Queues). work_left lines done q + 1 ≡ work_left lines done s.queue) (sym w.queue) (omega (arith, less))

pub fences_take_work : FencesTakeWork
fences_take_work lines done t s s' es es' a c =
    let w = c.says.0 in
    let less = work_fenced s.queue.marks t w.line (marked_within s es t w.line a (inr w.waits)) w.waits in
    subst (λ (q : Queues). work_left lines done q < work_left lines done s.queue) (sym w.queue) (omega (arith, less))

pub copies_take_work : CopiesTakeWork
copies_take_work lines done done' t s s' es es' few a tells at more others c =
    let w = c.says.0 in
    let n = w.n in
    let e = entry es n in
    let left = w.left in
    let young = w.young in
    let next = w.next in
    let l = e.line + e.copied in
    let room = room_of (view_of s.heap) es n a.lies w.is.claimed.0 w.is.placed in
    let long = a.sizes.marks in
    let fresh = uncopied_clean (view_of s.heap) (held_of s.heap.memory) (written_of s.heap.memory) s.queue s.free (IsKey s.keys) es t (place_of s.queue t).0 n e.copied a w.is (omega (arith, left))
    (λ has. elim has [ inl x ↦ omega (arith, x, young) | inr x ↦ (let y = x.1 in omega (arith, y)) ]) in
    let stored = work_stored s.queue.marks t l (omega (arith, room, long, left)) in
    let none : weight (mark_at s.queue.marks l) ≡ 0 = ap weight fresh in
    let f : ℕ → ℕ = λ u. thread_work lines (queue_of s.queue u) (phase_of s.queue u) (place_of s.queue u).0 (done' u) in
    let g : ℕ → ℕ = λ u. thread_work lines (queue_of s.queue u) (phase_of s.queue u) (place_of s.queue u).0 (done u) in
    let sums = sum_changed f g 64 t few (λ u ne. ap (λ x. thread_work lines (queue_of s.queue u) (phase_of s.queue u) (place_of s.queue u).0 x) (others u ne)) in
    let item : (get_or (queue_of s.queue t) (place_of s.queue t).0 (0, 0)).0 ≡ e.at = w.is.object in
    let told : lines (get_or (queue_of s.queue t) (place_of s.queue t).0 (0, 0)).0 ≡ lines_of e = ap lines item ∙ tells t n w.is.claimed in
    let three : f t + 3 ≡ g t = subst (λ x. thread_work lines (queue_of s.queue t) (phase_of s.queue t) (place_of s.queue t).0 x + 3 ≡ g t) (sym more)
    (subst (λ (p : Phase). thread_work lines (queue_of s.queue t) p (place_of s.queue t).0 (done t + 1) + 3 ≡ thread_work lines (queue_of s.queue t) p (place_of s.queue t).0 (done t)) (sym w.phase)
    (work_copied lines (queue_of s.queue t) (place_of s.queue t).0 (done t) (0, 0) w.is.within (omega (arith, told, at, next, left)))) in
    subst (λ (q : Queues). work_left lines done' q + 1 ≡ work_left lines done s.queue) (sym w.queue)
    (let x : line_work (with_store s.queue.marks t l) + sum_below f 64 + 1 ≡ line_work s.queue.marks + sum_below g 64 = omega (arith, stored, none, sums, three) in x)

-- the work of a thread whose queue and place are as they were
same_thread : (lines : ℕ → ℕ) (q q' : Queues) (u x y : ℕ) → q'.queues ≡ q.queues → phase_of q' u ≡ phase_of q u → place_of q' u ≡ place_of q u → x ≡ y →
    thread_work lines (queue_of q' u) (phase_of q' u) (place_of q' u).0 x ≡ thread_work lines (queue_of q u) (phase_of q u) (place_of q u).0 y
same_thread lines q q' u x y queues phase place eq =
    ap (λ (z : List (List Queued)). thread_work lines (queue_in z u) (phase_of q' u) (place_of q' u).0 x) queues
    ∙ ap (λ (z : Phase). thread_work lines (queue_of q u) z (place_of q' u).0 x) phase
    ∙ ap (λ (z : ℕ × ℕ). thread_work lines (queue_of q u) (phase_of q u) z.0 x) place
    ∙ ap (λ z. thread_work lines (queue_of q u) (phase_of q u) (place_of q u).0 z) eq

-- the work of a thread at such a place
thread_at : (lines : ℕ → ℕ) (q q' : Queues) (t n x y : ℕ) (p : Phase) → q'.queues ≡ q.queues → phase_of q' t ≡ p → (place_of q' t).0 ≡ n → x ≡ y →
    thread_work lines (queue_of q' t) (phase_of q' t) (place_of q' t).0 x ≡ thread_work lines (queue_of q t) p n y
thread_at lines q q' t n x y p queues phase place eq =
    ap (λ (z : List (List Queued)). thread_work lines (queue_in z t) (phase_of q' t) (place_of q' t).0 x) queues
    ∙ ap (λ (z : Phase). thread_work lines (queue_of q t) z (place_of q' t).0 x) phase
    ∙ ap (λ z. thread_work lines (queue_of q t) p z x) place
    ∙ ap (λ z. thread_work lines (queue_of q t) p n z) eq

pub forwards_take_work : ForwardsTakeWork
forwards_take_work lines done done' t s s' es es' few whole begun others c =
    let w = c.says.0 in
    let q = s.queue in
    let q' = s'.queue in
    let i = (place_of q t).0 in
    let goes = w.goes in
    let f : ℕ → ℕ = λ u. thread_work lines (queue_of q' u) (phase_of q' u) (place_of q' u).0 (done' u) in
    let g : ℕ → ℕ = λ u. thread_work lines (queue_of q u) (phase_of q u) (place_of q u).0 (done u) in
    let sums = sum_changed f g 64 t few (λ u ne. same_thread lines q q' u (done' u) (done u) goes.queues (goes.other_phases u ne) (goes.other_places u ne) (others u ne)) in
    let item : (get_or (queue_of q t) i (0, 0)).0 ≡ (entry es w.n).at = w.is.object in
    let after : f t ≡ thread_work lines (queue_of q t) Copy (i + 1) 0 = thread_at lines q q' t (i + 1) (done' t) 0 Copy goes.queues goes.phase goes.at begun in
    let before : g t ≡ thread_work lines (queue_of q t) Copy i (lines (get_or (queue_of q t) i (0, 0)).0) =
    thread_at lines q q t i (done t) (lines (get_or (queue_of q t) i (0, 0)).0) Copy refl w.phase refl (whole w.n w.is ∙ ap lines (sym item)) in
    let one = work_forwarded lines (queue_of q t) i (0, 0) w.is.within in
    let same : line_work q'.marks ≡ line_work q.marks = ap line_work goes.marks in
    let x : line_work q'.marks + sum_below f 64 + 1 ≡ line_work q.marks + sum_below g 64 = omega (arith, sums, after, before, one, same) in x

pub repairs_take_work : RepairsTakeWork
repairs_take_work lines done done' t s s' es es' few a tells stored_to at more others c =
    let w = c.says.0 in
    let q = s.queue in
    let q' = s'.queue in
    let n = w.n in
    let e = entry es n in
    let i = (place_of q t).0 in
    let l = e.line + (place_of q t).1 in
    let goes = w.goes in
    let within = w.within in
    let f : ℕ → ℕ = λ u. thread_work lines (queue_of q' u) (phase_of q' u) (place_of q' u).0 (done' u) in
    let g : ℕ → ℕ = λ u. thread_work lines (queue_of q u) (phase_of q u) (place_of q u).0 (done u) in
    let sums = sum_changed f g 64 t few (λ u ne. same_thread lines q q' u (done' u) (done u) goes.queues (goes.other_phases u ne) (goes.other_places u ne) (others u ne)) in
    let item : (get_or (queue_of q t) i (0, 0)).0 ≡ e.at = w.is.object in
    let told : lines (get_or (queue_of q t) i (0, 0)).0 ≡ lines_of e = ap lines item ∙ tells t n w.is.claimed in
    let after : f t ≡ thread_work lines (queue_of q t) Repair i (done t + 1) = thread_at lines q q' t i (done' t) (done t + 1) Repair goes.queues goes.phase goes.at more in
    let before : g t ≡ thread_work lines (queue_of q t) Repair i (done t) = thread_at lines q q t i (done t) (done t) Repair refl w.phase refl refl in
    let one = work_repaired lines (queue_of q t) i (done t) (0, 0) w.is.within (omega (arith, told, at, within)) in
    let st = stored_to n w.is in
    let two : weight (mark_at q.marks l) ≡ 2 = ap weight st in
    let marks = work_stored q.marks t l (marked_within s es t l a (inl st)) in
    let same : line_work q'.marks ≡ line_work (with_store q.marks t l) = ap line_work goes.marks in
    let x : line_work q'.marks + sum_below f 64 + 1 ≡ line_work q.marks + sum_below g 64 = omega (arith, sums, after, before, one, same, two, marks) in x
