-- Which objects are durable after a step, and a seal as a step of a conversion.
use Rattle.std.proofs.Common.{◌≡◌, ◌≢◌, inl, inr, ℕ, ◌+◌, ◌*◌, ◌/◌, ◌%◌, ◌<◌, ◌^◌, true, List, length, refl, sym, ◌∙◌, ap}
use Rattle.std.proofs.Common.{subst, arith, slice_set, length-set}
use Rattle.std.specs.Prelude.{◌↔◌}
use Rattle.std.proofs.lemmas.Bool.{false≢true}
use Rattle.line_memory.specs.Memory.{Memory, shown, CanLeave}
use Rattle.twin_forms.specs.Table.{Entry, entry, refers, IsClaimed, InP}
use Rattle.twin_forms.specs.Moves.{Moved}
use Rattle.twin_forms.specs.Sights.{Twin, view_of, held_of}
use Rattle.twin_forms.proofs.Led.{same_or_not, below_or_not}
use Rattle.twin_forms.proofs.Elsewhere.{entry_here, entry_other}
use Rattle.convert_queue.proofs.Sets.{above_none}
use Rattle.convert_queue.specs.Queues.{Queues, AllSettled, IsSettled}
use Rattle.convert_queue.specs.Threads.{has, IsGroupOf}
use Rattle.convert_words.specs.declared.step.ConvertStep.TheVariants as step
use Rattle.convert_words.specs.Sealing.{AreSealed, OfSet, Released}
use Rattle.convert_words.specs.Steps.{OneBecomes, claimed_at}
use Rattle.convert_words.specs.Scenes.{Scene, AgreesAt}
use Rattle.convert_words.specs.Converting.{Converts}
use Rattle.convert_words.proofs.Basics.{refers_moved, kept_back, keeps_back}
use Rattle.convert_words.proofs.StepLaws.{settled_sets_are_closed, seals_keep, seals_make_durable}

-- An object that its thread's step changes isn't durable before or after it.
pub durable_set : (es : List Entry) (n0 : ℕ) (e' : Entry) → n0 < length es → (entry es n0).owner ≢ 0 → e'.owner ≡ (entry es n0).owner → (n : ℕ) → InP (slice_set es n0 e') n ↔ InP es n
durable_set es n0 e' ln owned same n =
    let es' = slice_set es n0 e' in
    let long : length es' ≡ length es = length-set es n0 e' in
    let now : (entry es' n0).owner ≡ (entry es n0).owner = ap (λ e. e.owner) (entry_here es n0 e' ln) ∙ same in (
      λ p. elim (same_or_not n n0) [
        | inl eq ↦ absurd (owned (sym now ∙ ap (λ x. (entry es' x).owner) (sym eq) ∙ p.2))
        | inr ne ↦ (let lt = p.0 in let at = entry_other es n0 n e' ne in (omega (arith, lt, long), subst (λ e. 1 < e.stage) at p.1, ap (λ e. e.owner) (sym at) ∙ p.2))
      ],
      λ p. elim (same_or_not n n0) [
        | inl eq ↦ absurd (owned (ap (λ x. (entry es x).owner) (sym eq) ∙ p.2))
        | inr ne ↦ (let lt = p.0 in let at = entry_other es n0 n e' ne in (omega (arith, lt, long), subst (λ e. 1 < e.stage) (sym at) p.1, ap (λ e. e.owner) at ∙ p.2))
      ],
    )

-- A claim makes no object durable.
pub durable_claimed : (es es' : List Entry) (t line n0 : ℕ) → n0 < length es → (entry es n0).stage ≡ 0 → OneBecomes n0 (claimed_at t line (entry es n0)) es es' → (n : ℕ) → InP es' n ↔ InP es n
durable_claimed es es' t line n0 ln young one n =
    let long = one.long in (
      λ p. elim (same_or_not n n0) [
        | inl eq ↦ absurd (let o : t + 1 ≡ 0 = ap (λ e. e.owner) (sym one.here) ∙ ap (λ x. (entry es' x).owner) (sym eq) ∙ p.2 in omega (arith, o))
        | inr ne ↦ (let lt = p.0 in let at = one.others n ne in (omega (arith, lt, long), subst (λ e. 1 < e.stage) at p.1, ap (λ e. e.owner) (sym at) ∙ p.2))
      ],
      λ p. elim (same_or_not n n0) [
        | inl eq ↦ absurd (let z : (entry es n).stage ≡ 0 = ap (λ x. (entry es x).stage) eq ∙ young in let high = p.1 in omega (arith, z, high))
        | inr ne ↦ (let lt = p.0 in let at = one.others n ne in (omega (arith, lt, long), subst (λ e. 1 < e.stage) (sym at) p.1, ap (λ e. e.owner) at ∙ p.2))
      ],
    )

-- one entry of a table
pub one_set : (es : List Entry) (n : ℕ) (e' : Entry) → n < length es → OneBecomes n e' es (slice_set es n e')
one_set es n e' ln = record { long = length-set es n e'; here = entry_here es n e' ln; others = λ m ne. entry_other es n m e' ne }

-- all members of a set of 64 threads
all_settled : (q : Queues) (set : ℕ) → set < 2 ^ 64 → AllSettled q set → (t : ℕ) → has set t ≡ true → IsSettled q t
all_settled q set small settled t h = elim (below_or_not t 64) [ inl lt ↦ settled t lt h | inr le ↦ absurd (false≢true (sym (above_none set t small le) ∙ h)) ]

-- The seal of the thread's group, all of whose members are settled, is a step of a conversion.
pub sealed_converts : (s : Scene) (heap : Twin) (q : Queues) (es es' : List Entry) (t set : ℕ) → set < 2 ^ 64 → IsGroupOf s.queue.needs t set → AllSettled s.queue set →
    Moved (view_of s.heap) es (view_of heap) es' → AreSealed (OfSet es set) es es' → heap.memory ≡ s.heap.memory →
    heap.marks.kinds ≡ s.heap.marks.kinds → heap.space.left ≡ s.heap.space.left → Released set s.queue q →
    AgreesAt s es → Converts t (step.Sealed set) s (record s { heap = heap; queue = q }) es es'
sealed_converts s heap q es es' t set small group settled moved those same kinds left released a =
    let all = all_settled s.queue set small settled in
    let closed = settled_sets_are_closed s es set a group.closed all in
    record {
      shows = moved.same;
      agrees = seals_keep s heap q es es' set all moved those same released a;
      size = ap (λ (m : Memory). m.size) same;
      kinds = kinds;
      left = left;
      others = λ l w _ _. ap (λ (m : Memory). shown m l w) same;
      leaves = λ l w x _ may. subst (λ (m : Memory). CanLeave m l w x) same may;
      calls = record { calls = ap (λ (m : Memory). m.calls) same; image = ap (λ (m : Memory). m.image) same; faults = ap (λ (m : Memory). m.faults) same };
      says = record {
        group = group;
        settled = settled;
        fenced = record {
          forwarded = closed.forwarded;
          shown = λ u n j x member c lt kept left. closed.shown u n j x member c lt
              (keeps_back (view_of s.heap) (view_of heap) (entry es n) (8 * (entry es n).line + j) moved.same.kept kept) (subst (λ (m : Memory). held_of m (8 * (entry es n).line + j) x) same left)
              ∙ ap (λ (m : Memory). shown m ((8 * (entry es n).line + j) / 8) ((8 * (entry es n).line + j) % 8)) (sym same);
          refers = λ u n k x member c ref kept lk left. closed.refers u n k x member c (sym (kind_of u n k member c lk) ∙ ref)
              (kept_back (view_of s.heap) (view_of heap) (entry es n) k moved.same.kept kept) lk (subst (λ (m : Memory). held_of m (8 * (entry es n).line + 1 + k) x) same left);
        };
        sealed = those;
        durable = λ n. seals_make_durable s es es' set a all those n;
        released = released;
        memory = same;
        free = refl;
      };
    }
  where
    kind_of : (u n k : ℕ) → has set u ≡ true → IsClaimed es u n → k < (entry es n).slots → refers (view_of heap) (entry es n) k ≡ refers (view_of s.heap) (entry es n) k
    kind_of u n k member c lk = sym (ap (λ e. refers (view_of heap) e k) (those.here n c.0 (u, member, c))) ∙ refers_moved (view_of s.heap) (view_of heap) es es' n k moved c.0 lk
