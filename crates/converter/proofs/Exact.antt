-- An event's clauses leave one answer where a group is settled, and where a thread lacks another.
use Rattle.std.proofs.Common.{◌≡◌, ◌≢◌, inl, inr, ℕ, ◌≤◌, Bool, true, List, refl, sym, ◌∙◌, ap, subst, arith}
use Rattle.twin_forms.specs.Table.{Entry, line_of}
use Rattle.twin_forms.proofs.Led.{same_or_not}
use Rattle.convert_queue.specs.declared.phase.Phase.{Phase}
use Rattle.convert_queue.specs.declared.phase.Phase.TheVariants.{Copy, Repair, Flush}
use Rattle.convert_queue.specs.Marks.{Mark, IsClean}
use Rattle.convert_queue.specs.Queues.{IsLeastUnsettled, phase_of, place_of}
use Rattle.convert_queue.specs.Threads.{has, needs_of, InGroup, itself, needed, IsClosed, IsGroupOf}
use Rattle.convert_words.specs.declared.step.ConvertStep.{ConvertStep}
use Rattle.convert_words.specs.declared.step.ConvertStep.TheVariants as step
use Rattle.convert_words.specs.Agreeing.{IsOpen}
use Rattle.convert_words.specs.Scenes.{Scene, AgreesAt}
use Rattle.convert_words.specs.Converting.{IsOn, rank, GoesOn, Says}
use Rattle.convert_words.proofs.Basics.{claimed_once}
use Rattle.converter.specs.Laws.{SettledGroupsAreSealed}

rank_most : (p : Phase) → rank p ≤ 2
rank_most Copy = omega arith
rank_most Repair = omega arith
rank_most Flush = omega arith

-- a flush goes on as one
pub flush_stays : (p p' : Phase) (at at' : ℕ × ℕ) → p ≡ Flush → IsOn p at p' at' → p' ≡ Flush
flush_stays p p' at at' flush (inl x) = absurd (let e : rank p ≡ 2 = ap rank flush in let m = rank_most p' in omega (arith, x, e, m))
flush_stays p p' at at' flush (inr x) = x.0 ∙ flush

pub clash : (p : Phase) (a b : Phase) → p ≡ a → p ≡ b → rank a ≢ rank b → ⊥
clash p a b x y ne = ne (ap rank (sym x ∙ y))

only_sealed : (answer : ConvertStep) (t : ℕ) (s s' : Scene) (es es' : List Entry) → phase_of s.queue t ≡ Flush → IsClean s.queue.marks t → ((u : ℕ) → IsLeastUnsettled s.queue t u → ⊥) →
    Says answer t s s' es es' → (x : ℕ) × (answer ≡ step.Sealed x) × IsGroupOf s.queue.needs t x
only_sealed step.Claimed t s s' es es' flush clean all says = absurd (clash (phase_of s.queue t) Copy Flush says.0.asked.phase flush (λ e. omega (arith, e)))
only_sealed (step.Full need left) t s s' es es' flush clean all says = absurd (clash (phase_of s.queue t) Copy Flush says.0.asked.phase flush (λ e. omega (arith, e)))
only_sealed step.CopiedLine t s s' es es' flush clean all says = absurd (clash (phase_of s.queue t) Copy Flush says.0.phase flush (λ e. omega (arith, e)))
only_sealed step.Forwarded t s s' es es' flush clean all says = absurd (clash (phase_of s.queue t) Copy Flush says.0.phase flush (λ e. omega (arith, e)))
only_sealed step.Repaired t s s' es es' flush clean all says = absurd (clash (phase_of s.queue t) Repair Flush says.0.phase flush (λ e. omega (arith, e)))
only_sealed step.WroteBack t s s' es es' flush clean all says = absurd (clean.written says.0.line says.0.stored)
only_sealed step.Fenced t s s' es es' flush clean all says = absurd (clean.fenced says.0.line says.0.waits)
only_sealed step.Touched t s s' es es' flush clean all says = absurd (elim says.0.needed [
  | inl x ↦ clash (phase_of s.queue t) Copy Flush x.0 flush (λ e. omega (arith, e))
  | inr y ↦ elim y [
    | inl x ↦ clash (phase_of s.queue t) Repair Flush x.0 flush (λ e. omega (arith, e))
    | inr x ↦ clean.written says.0.line x.1
  ]
])
only_sealed (step.Wait u) t s s' es es' flush clean all says = absurd (elim says.0.why [
  | inl w ↦ all u w.unsettled
  | inr l ↦ clash (phase_of s.queue t) Repair Flush l.phase flush (λ e. omega (arith, e))
])
only_sealed (step.Sealed x) t s s' es es' flush clean all says = (x, refl, says.group)

-- a group's members are in each closed set that has its thread
pub in_closed : (needs needs' : ℕ → ℕ → Bool) (t : ℕ) (set : ℕ → Bool) → ((a b : ℕ) → needs a b ≡ true → needs' a b ≡ true)
    → IsClosed needs' set → set t ≡ true → (u : ℕ) → InGroup needs t u → set u ≡ true
in_closed needs needs' t set on closed first _ itself = first
in_closed needs needs' t set on closed first _ (needed u w p e) = closed u w (in_closed needs needs' t set on closed first u p) (on u w e)

-- A group by needs that were there before is one by the earlier needs.
pub in_group_back : (needs needs' : ℕ → ℕ → Bool) (t : ℕ) → ((a b : ℕ) → needs' a b ≡ true → needs a b ≡ true) → (u : ℕ) → InGroup needs' t u → InGroup needs t u
in_group_back needs needs' t on _ itself = itself
in_group_back needs needs' t on _ (needed u w p e) = needed u w (in_group_back needs needs' t on u p) (on u w e)

-- In phase Flush a thread meets nobody new.
pub needs_back : (s at : Scene) (es : List Entry) (t : ℕ) → AgreesAt s es → phase_of s.queue t ≡ Flush → GoesOn t s at es →
    (a b : ℕ) → needs_of at.queue.needs a b ≡ true → needs_of s.queue.needs a b ≡ true
needs_back s at es t a flush goes x y need = elim (goes.met x y need) [
  | inl old ↦ old
  | inr z ↦ (
      let w = z.2 in
      let r = w.refers_to in
      let i = a.queued.all t w.n r.claimed in
      let way = (a.on_way t i.0 w.n i.1).reaches in
      let met = way.met w.k w.m r.reference r.kept r.slot r.copied (λ o. subst (λ p. IsOpen p (place_of s.queue t).0 (place_of s.queue t).1 i.0 (line_of w.k)) flush o) r.there r.leads in
      elim met [
        | inl p ↦ absurd (let o = w.claimed.1 in let n = p.2 in omega (arith, o, n))
        | inr q ↦ elim q [
          | inl own ↦ absurd (z.1 (claimed_once es y t w.m w.claimed own))
          | inr v ↦ (let same = claimed_once es v.0 y w.m v.2 w.claimed in
              subst (λ n. needs_of s.queue.needs n y ≡ true) (sym z.0) (subst (λ n. needs_of s.queue.needs t n ≡ true) same v.1))
        ]
      ])
]

pub settled_groups_are_sealed : SettledGroupsAreSealed
settled_groups_are_sealed t set answer s s' es ms ms' a group settled e =
    let own = settled t group.member in
    let goes = e.goes_on in
    let at = e.at in
    let flush = flush_stays (phase_of s.queue t) (phase_of at.queue t) (place_of s.queue t) (place_of at.queue t) own.phase goes.on in
    let clean : IsClean at.queue.marks t = subst (λ (m : List Mark). IsClean m t) (sym goes.marks) own.clean in
    let back = needs_back s at es t a own.phase goes in
    let x = only_sealed answer t at s' es e.after flush clean (λ u least.
    let member = in_closed (needs_of at.queue.needs) (needs_of s.queue.needs) t (has set) back group.closed group.member u (least.group.least u least.member) in
    let before = settled u member in
    least.unsettled (record {
      phase = elim (same_or_not u t) [ inl eq ↦ subst (λ y. phase_of at.queue y ≡ Flush) (sym eq) flush | inr ne ↦ goes.other_phases u ne ∙ before.phase ];
      clean = subst (λ (m : List Mark). IsClean m u) (sym goes.marks) before.clean;
    })) e.converts.says in
    let g = x.2 in (
      x.0,
      x.1,
      record {
        member = g.member;
        least = λ u member. in_group_back (needs_of s.queue.needs) (needs_of at.queue.needs) t back u (g.least u member);
        closed = λ u w member need. g.closed u w member (goes.kept u w need);
      },
    )
