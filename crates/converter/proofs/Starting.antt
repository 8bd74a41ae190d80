-- How a conversion begins.
use Rattle.std.proofs.Common.{◌≡◌, ◌≢◌, inr, ℕ, ◌+◌, ◌-◌, ◌<◌, ◌≤◌, true, List, [], length, refl, sym, ◌∙◌, ap, subst, arith}
use Rattle.twin_forms.specs.Table.{Entry, entry, lines_of, IsClaimed}
use Rattle.twin_forms.specs.Moves.{Moved}
use Rattle.twin_forms.specs.Sights.{Twin, view_of}
use Rattle.convert_queue.specs.declared.phase.Phase.{Phase}
use Rattle.convert_queue.specs.declared.phase.Phase.TheVariants.{Copy, Flush}
use Rattle.convert_queue.specs.Queues.{Queued, Queues, queue_of}
use Rattle.convert_queue.specs.Threads.{needs_of}
use Rattle.convert_words.specs.Steps.{GoesTo, OneBecomes, claimed_at, with_object}
use Rattle.convert_words.specs.Scenes.{Scene, AgreesAt}
use Rattle.convert_words.proofs.Bridges.{moved_same}
use Rattle.convert_words.proofs.Converted.{durable_claimed}
use Rattle.convert_words.proofs.Noting.{need_on, need_real}
use Rattle.convert_words.proofs.StepLaws.{claims_keep, needs_keep, places_keep}
use Rattle.converter.specs.Beginning.{begun_at, settled_at, Begins}
use Rattle.converter.specs.declared.begin.Begun.TheVariants as begun
use Rattle.converter.specs.Working.{IsTakable}

-- a thread without objects is at the beginning
-- a thread with nothing queued may be in any phase
pub begins_in : (p : Phase) (s : Scene) (q : Queues) (es : List Entry) (t : ℕ) → AgreesAt s es
    → queue_of s.queue t ≡ [] → GoesTo t p 0 0 s.queue q → AgreesAt (record s { queue = q }) es
begins_in p s q es t a empty goes = places_keep s q t p 0 0 es goes
    (λ i m is. absurd (let lt = is.within in let e : length (queue_of s.queue t) ≡ 0 = ap length empty in omega (arith, lt, e))) a

pub begins_at : (s : Scene) (q : Queues) (es : List Entry) (t : ℕ) → AgreesAt s es → queue_of s.queue t ≡ []
    → GoesTo t Copy 0 0 s.queue q → AgreesAt (record s { queue = q }) es
begins_at s q es t a empty goes = begins_in Copy s q es t a empty goes

pub begin_takable : (s : Scene) (q : Queues) (es : List Entry) (t object line count m : ℕ) → AgreesAt s es → queue_of
    s.queue t ≡ [] → GoesTo t Copy 0 0 s.queue q → line ≡ s.free → m < length es → (entry es m).at ≡ object →
    (entry es m).stage ≡ 0 → (entry es m).owner ≡ 0 → count ≡ lines_of (entry es m) → count ≤ s.heap.memory.size - s.free →
    s.free ≤ s.heap.memory.size → IsTakable (record s { queue = q; free = line }) es object m
begin_takable s q es t object line count m a empty goes at lm index young nobody counts fits le = record {
  agrees = subst (λ f. AgreesAt (record s { queue = q; free = f }) es) (sym at) (begins_at s q es t a empty goes);
  there = lm;
  at = index;
  ordinary = young;
  nobody = nobody;
  room = omega (arith, at, counts, fits, le);
}

pub begin_claims : (s : Scene) (heap : Twin) (q q2 : Queues) (free : ℕ) (es : List Entry) (t object line count m : ℕ) →
    AgreesAt s es → queue_of s.queue t ≡ [] → GoesTo t Copy 0 0 s.queue q → q ≡ begun_at s.queue t → t < 64 →
    line ≡ s.free → m < length es → (entry es m).at ≡ object → (entry es m).stage ≡ 0 → (entry es m).owner ≡ 0 → count ≡ lines_of (entry es m) → count ≤ s.heap.memory.size - s.free →
    (es' : List Entry) × OneBecomes m (claimed_at t line (entry es m)) es es' × Moved (view_of s.heap) es (view_of heap) es' →
    heap.memory ≡ s.heap.memory → heap.marks.kinds ≡ s.heap.marks.kinds → heap.space.left ≡ s.heap.space.left → q2 ≡ with_object q t object line → free ≡ s.free + count →
    (es' : List Entry) × Begins t m begun.Claimed s (record { heap = heap; queue = q2; free = free; keys = s.keys }) es es'
begin_claims s heap q q2 free es t object line count m a empty goes whole few at lm index young nobody counts fits x same kinds left told_of free_is =
    let s1 : Scene = record s { queue = q } in
    let a1 : AgreesAt s1 es = begins_at s q es t a empty goes in
    let one : OneBecomes m (claimed_at t s.free (entry es m)) es x.0 = subst (λ l. OneBecomes m (claimed_at t l (entry es m)) es x.0) at x.1 in
    let none : length (queue_of q t) ≡ 0 = ap (λ (y : List (List Queued)). length (queue_of (record q { queues = y }) t)) goes.queues ∙ ap length empty in
    let done = claims_keep s1 heap es x.0 t m lm young nobody few goes.phase (inr (goes.at ∙ sym none, goes.line)) x.2 one same a1 in
    let queue_is : q2 ≡ with_object q t (entry es m).at s.free = told_of ∙ ap (with_object q t object) at ∙ ap (λ o. with_object q t o s.free) (sym index) in
    let free_eq : free ≡ s.free + lines_of (entry es m) = free_is ∙ ap (λ c. s.free + c) counts in (
      x.0,
      record {
        shows = x.2.same;
        agrees = subst (λ (y : Queues). AgreesAt (record { heap = heap; queue = y; free = free; keys = s.keys }) x.0) (sym queue_is)
            (subst (λ f. AgreesAt (record { heap = heap; queue = with_object q t (entry es m).at s.free; free = f; keys = s.keys }) x.0) (sym free_eq) done);
        memory = same;
        kinds = kinds;
        left = left;
        durable = λ n. durable_claimed es x.0 t s.free m lm young one n;
        keys = refl;
        says = record {
          ordinary = young;
          nobody = nobody;
          fits = omega (arith, counts, fits);
          becomes = one;
          free = free_eq;
          queue = queue_is ∙ ap (λ (y : Queues). with_object y t (entry es m).at s.free) whole;
        };
      },
    )

pub begin_full : (s : Scene) (es : List Entry) (t need left m : ℕ) → AgreesAt s es → (entry es m).stage ≡ 0 →
    (entry es m).owner ≡ 0 → need ≡ lines_of (entry es m) → left ≡ s.heap.memory.size - s.free → left < need →
    (es' : List Entry) × Begins t m (begun.Full need left) s s es es'
begin_full s es t need left m a young nobody need_is left_is more = (
  es,
  record {
    shows = (moved_same (view_of s.heap) es a.lies).same;
    agrees = a;
    memory = refl;
    kinds = refl;
    left = refl;
    durable = λ n. (λ p. p, λ p. p);
    keys = refl;
    says = record { ordinary = young; nobody = nobody; need_is = need_is; left_is = left_is; more = more; same = refl; table = refl };
  },
)

pub begin_needs : (s : Scene) (q q2 : Queues) (es : List Entry) (t u m : ℕ) → AgreesAt s es → queue_of s.queue t ≡ []
    → GoesTo t Flush 0 0 s.queue q → q ≡ settled_at s.queue t → IsClaimed es u m →
    needs_of q2.needs t u ≡ true → ((a b : ℕ) → (a ≡ t → b ≢ u) → needs_of q2.needs a b ≡ needs_of q.needs a b) → length q2.needs ≡ length q.needs → q2 ≡ record q { needs = q2.needs } →
    (es' : List Entry) × Begins t m (begun.Needs u) s (record s { queue = q2 }) es es'
begin_needs s q q2 es t u m a empty goes whole claimed here others long same =
    let s1 : Scene = record s { queue = q } in
    let a1 : AgreesAt s1 es = begins_in Flush s q es t a empty goes in
    let kept = needs_keep s1 q2.needs es long (λ x y n. need_on q.needs q2.needs t u here others x y n)
    (λ x y lx ly n. need_real es q.needs q2.needs t u m claimed others a1.real x y lx ly n) a1 in (
      es,
      record {
        shows = (moved_same (view_of s.heap) es a.lies).same;
        agrees = subst (λ (y : Queues). AgreesAt (record s { queue = y }) es) (sym same) kept;
        memory = refl;
        kinds = refl;
        left = refl;
        durable = λ n. (λ p. p, λ p. p);
        keys = refl;
        says = record {
          claimed = claimed;
          other = λ eq. (let i = a.queued.all t m (subst (λ x. IsClaimed es x m) eq claimed) in let lt = i.1.within in let
              e : length (queue_of s.queue t) ≡ 0 = ap length empty in omega (arith, lt, e));
          here = here;
          others = λ x y ne. others x y ne ∙ ap (λ (z : List ℕ). needs_of z x y) goes.needs;
          queue = same ∙ ap (λ (y : Queues). record y { needs = q2.needs }) whole;
          heap = refl;
          free = refl;
          table = refl;
        };
      },
    )
