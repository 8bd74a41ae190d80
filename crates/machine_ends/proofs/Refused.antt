-- A claim that is refused for want of lines fills the image, by the acts.
use Rattle.std.proofs.Common.{◌≡◌, ◌⊎◌, inl, inr, ℕ, ◌+◌, ◌-◌, ◌<◌, true, ltb, List, length, refl, sym, ◌∙◌, ap, subst, arith}
use Rattle.std.specs.Prelude.{All, Contains, IsSome, sum_by, nat_le, Option}
use Rattle.std.proofs.lemmas.Bool.{ltb-true, leb-true, cases_eq}
use Rattle.std.proofs.lemmas.List.Elements.{All-push, All-weaker, All-filter, filter_passes}
use Rattle.graph_model.specs.declared.types.Heap.{Heap}
use Rattle.graph_model.specs.Heaps.{has_number}
use Rattle.run_history.specs.Knowing.{Pending, pending_of}
use Rattle.run_history.specs.Wanted.{NoWish}
use Rattle.plain_model.specs.Limits.{object_lines, lines_left, joined_of}
use Rattle.plain_model.specs.Ends.{IsTaken}
use Rattle.twin_forms.specs.Table.{Entry, entry, Names, refers, word_of, lines_of}
use Rattle.twin_forms.specs.Sights.{Twin, view_of}
use Rattle.machine_laws.specs.Passed.{Converting}
use Rattle.machine_laws.specs.Passed.{Opening, Machine, first_of, known_in, wants_in, memory_of, doing_of, layout_in}
use Rattle.machine_laws.specs.Passed.{IsDoing, KeepsRun}
use Rattle.machine_laws.proofs.Lists.{all-numbers}
use Rattle.machine_laws.proofs.AskKeeping.{durable-in, in-durable}
use Rattle.machine_laws.proofs.Wishes.{wants-asked}
use Rattle.machine_laws.proofs.Converted.{wants-referred}
use Rattle.machine_ends.specs.Lines.{has_lines, nodes_of, taken_by, lines_taken, TakesLines, lines_from, lines_fault}
use Rattle.machine_ends.specs.Lines.{IsRefused}
use Rattle.machine_ends.specs.LineLaws.{RefusedStepsFillTheImage, RefusedBeginningsFillTheImage, RefusalsEndTheRun}
use Rattle.machine_ends.proofs.Lists.{Passes, passing-pass, passing-has, passing-once, sum-same}
use Rattle.machine_ends.proofs.Taken.{young-later}
use Rattle.machine_ends.proofs.Events.{lines-of-objects}

module _ (o : Opening) (m : Machine) (es : List Entry) (first : ℕ) (k : KeepsRun o m es)
    (taken : TakesLines o first m es) where
  abbrev heap : Heap
  heap = (known_in o m).world.heap

  abbrev Passing : ℕ → Type 0
  Passing n = Passes (λ n. has_lines (entry es n)) (nodes_of o) (length es - nodes_of o) n

  abbrev Taken : ℕ → Type 0
  Taken n = IsTaken o.launch.opening (known_in o m) (wants_in o m) n

  -- an object with lines is durable, or a thread has claimed it
  durable-or-claimed : (n : ℕ) → n < length es → 0 < (entry es n).stage
      → (has_number (known_in o m).durable n ≡ true) ⊎ ((u : ℕ) × wants_in o m u n)
  durable-or-claimed n there some = elim (cases_eq (entry es n).owner 0) [
    | inr owned ↦ (let own : (entry es n).owner ≡ ((entry es n).owner - 1) + 1 = omega (arith, owned) in
        inr ((entry es n).owner - 1, k.asked.wanted ((entry es n).owner - 1) n (there, own)))
    | inl free ↦ elim (cases_eq (entry es n).stage 1) [
      | inl one ↦ absurd (let own = k.heap.whole.lies.table.copying n there one in omega (arith, own, free))
      | inr other ↦ inl (in-durable o m es k n (there, omega (arith, some, other), free))
    ]
  ]

  passing-taken : (n : ℕ) → Passing n → Taken n
  passing-taken n is =
      let from = is.from in
      let below = is.below in (
        omega (arith, from),
        durable-or-claimed n (omega (arith, from, below)) (ltb-true 0 (entry es n).stage is.passes),
      )

  -- what became durable in the run has lines
  joined-passes : (n : ℕ) → nat_le (nodes_of o) n ≡ true → has_number (known_in o m).durable n ≡ true
      → Contains (taken_by o es) n
  joined-passes n made durable =
      let p = durable-in o m es k n durable in
      let from = leb-true (nodes_of o) n made in
      let there = p.0 in
      let moved = p.1 in
      passing-has (λ n. has_lines (entry es n)) (nodes_of o) (length es - nodes_of o) n (record {
        from = from;
        below = omega (arith, from, there);
        passes = has (entry es n) moved;
      })
    where
      has : (e : Entry) → 1 < e.stage → has_lines e ≡ true
      has e moved = grind (arith, moved)

  all-joined : All (λ n. Contains (taken_by o es) n) (joined_of o.launch.opening (known_in o m))
  all-joined i d within = joined-passes _
      (filter_passes (λ n. nat_le (nodes_of o) n) (known_in o m).durable i d within)
      (All-filter (λ n. nat_le (nodes_of o) n) (λ n. has_number (known_in o m).durable n ≡ true)
      (known_in o m).durable (all-numbers (λ n. has_number (known_in o m).durable n ≡ true)
      (known_in o m).durable (λ n is. is)) i d within)

  -- the plain heap's objects take as many lines
  sums : sum_by (object_lines heap) (taken_by o es) ≡ lines_taken o es
  sums = sum-same (λ n. has_lines (entry es n)) (λ n. has_lines (entry es n)) (λ n. lines_of (entry es n))
      (object_lines heap) (nodes_of o) (length es - nodes_of o) (λ n from below.
      (refl, sym (lines-of-objects o m es k n (omega (arith, from, below)))))

  -- Object n is refused: an ordinary one that thread t wants, which has more lines than are left.
  pub record IsWantedAndFull (t n need left : ℕ) : Type 0 where
    pub pending : IsSome (pending_of (known_in o m).asked t)
    pub there : n < length es
    pub ordinary : (entry es n).stage ≡ 0
    pub wanted : wants_in o m t n
    pub need_is : need ≡ lines_of (entry es n)
    pub left_is : left ≡ (memory_of m).size - m.free
    pub more : left < need

  pub refused : (t n need left : ℕ) → IsWantedAndFull t n need left → IsRefused o m first t need left
  refused t n need left w =
      let later = young-later o m es k n w.ordinary in
      let need_as : need ≡ object_lines heap n = w.need_is ∙ lines-of-objects o m es k n w.there in
      let left_as : left ≡ lines_left (lines_from m first) heap (taken_by o es)
      = (let is = w.left_is in omega (arith, is, taken, sums)) in
      record {
        converts = w.pending;
        claimed = taken_by o es;
        refused = n;
        wanted = w.wanted;
        once = passing-once (λ n. has_lines (entry es n)) (nodes_of o) (length es - nodes_of o) n
            (ap (ltb 0) w.ordinary);
        taken = All-push Taken (taken_by o es) n
            (All-weaker Passing Taken passing-taken (taken_by o es)
            (passing-pass (λ n. has_lines (entry es n)) (nodes_of o) (length es - nodes_of o)))
            (omega (arith, later), inr (t, w.wanted));
        joined = all-joined;
        more = (let more = w.more in omega (arith, more, need_as, left_as));
        names = ap (λ x. lines_fault x left) need_as ∙ ap (lines_fault (object_lines heap n)) left_as;
      }

  converting-pending : (t : ℕ) → doing_of m t ≡ Converting → IsSome (pending_of (known_in o m).asked t)
  converting-pending t about =
      let is : IsDoing (known_in o m) (layout_in o es) t Converting
      = subst (IsDoing (known_in o m) (layout_in o es) t) about (k.asked.doing t) in
      subst (λ (p : Option Pending). IsSome p) (sym is.0.1) refl

-- ---- by a step, and as a conversion begins

pub steps-fill : RefusedStepsFillTheImage
steps-fill o m es first k taken m' t need left c =
    let x = c.event.converts.says.0 in
    let to = x.asked.refers_to in
    let heap_at = c.event.goes_on.heap in
    let free_at = c.event.goes_on.free in
    refused o m es first k taken t x.m need left (record {
      pending = converting-pending o m es first k taken t c.doing;
      there = to.there;
      ordinary = x.asked.ordinary;
      wanted = wants-referred o m es k t x.asked.n x.asked.k x.m to.claimed to.slot
          (subst (λ (h : Twin). refers (view_of h) (entry es x.asked.n) x.asked.k ≡ true) heap_at
          to.reference)
          to.there
          (subst (λ (h : Twin). Names (entry es x.m) (word_of (view_of h) (entry es x.asked.n) x.asked.k))
          heap_at to.leads);
      need_is = x.need_is;
      left_is = x.left_is ∙ ap (λ (h : Twin). h.memory.size - c.event.at.free) heap_at
          ∙ ap (λ f. (memory_of m).size - f) free_at;
      more = x.more;
    })

pub beginnings-fill : RefusedBeginningsFillTheImage
beginnings-fill o m es first k taken m' es' t n word need left b =
    let x = b.begins.says in
    refused o m es first k taken t n need left (record {
      pending = converting-pending o m es first k taken t b.doing;
      there = b.asked.there;
      ordinary = x.ordinary;
      wanted = wants-asked (first_of o) NoWish m.acts (λ u x p is value. let none = is in cc) t n b.pending.0
          b.pending.1 b.pending.2;
      need_is = x.need_is;
      left_is = x.left_is;
      more = x.more;
    })

pub refusals-end : RefusalsEndTheRun
refusals-end o m first t need left fills none = inr (none, fills)
