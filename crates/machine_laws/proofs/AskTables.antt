-- Queues and claims over a step after which the heap shows what it showed.
use Rattle.std.proofs.Common.{◌≡◌, inl, inr, ℕ, ◌+◌, ◌*◌, ◌<◌, List, length, refl, sym, ◌∙◌, ap, subst, arith}
use Rattle.std.specs.Prelude.{slice_index_or}
use Rattle.twin_forms.specs.Table.{Entry, entry, View, Names, Lies, IsClaimed, InP}
use Rattle.twin_forms.specs.Moves.{SameHeap}
use Rattle.twin_forms.proofs.Led.{same_or_not, odd_old, even_moved}
use Rattle.twin_forms.proofs.Tables.{alike}
use Rattle.convert_queue.specs.Queues.{Queues, queue_of}
use Rattle.convert_words.specs.Agreeing.{Is, Queueing, item_in}
use Rattle.convert_words.proofs.Basics.{young}

-- The thread's queue has the object that it had at this place.
pub record HasItem (q q' : Queues) (u i : ℕ) : Type 0 where
  pub within : i < length (queue_of q u)
  pub still : i < length (queue_of q' u)
  pub item : item_in q'.queues u i ≡ item_in q.queues u i

module _ (v v' : View) (es es' : List Entry) (lies : Lies v es) (lies' : Lies v' es')
    (same : SameHeap v es v' es') where
  -- a durable object lies where it lay
  pub durable-line : (n : ℕ) → InP es n → (entry es' n).line ≡ (entry es n).line
  durable-line n p =
      let there = (lies.table.copy_in n p.0 (omega (arith, p.1))).0 in
      let w = 2 * (entry es n).line in
      let names : Names (entry es n) w = inr (p.1, refl, omega (arith, there)) in
      (even_moved (entry es' n) (entry es n).line (same.led n w p.0 names)).1

  -- a claimed object has its index still
  index-kept : (t n : ℕ) → IsClaimed es t n → ((entry es' n).stage < 3) × ((entry es' n).at ≡ (entry es n).at)
  index-kept t n c =
      odd_old (entry es' n) (entry es n).at
      (same.led n (2 * (entry es n).at + 1) c.0 (inl (young v es t n lies c, refl)))

  module _ (q q' : Queues) where
    -- What stands at a place of both queues is one object.
    pub one-object : (u i n n' : ℕ) → HasItem q q' u i → Is q es u i n → Is q' es' u i n' → n ≡ n'
    one-object u i n n' has is is' = elim (same_or_not n n') [
      | inl e ↦ e
      | inr ne ↦ absurd (
          let k = index-kept u n is.claimed in
          let at : (entry es' n).at ≡ (entry es' n').at
          = k.1 ∙ sym is.object ∙ ap (λ x. x.0) (sym has.item) ∙ is'.object in
          let there : n < length es' = (let lt = is.claimed.0 in omega (arith, lt, same.long)) in
          elim (lies'.table.old_apart n n' there is'.claimed.0 ne k.0 (young v' es' u n' lies' is'.claimed))
          [ inl z ↦ omega (arith, z, at) | inr z ↦ omega (arith, z, at) ])
    ]

    pub is-kept : Queueing q' es' → (u i n : ℕ) → HasItem q q' u i → Is q es u i n → Is q' es' u i n
    is-kept queued u i n has is =
        let there = queued.there u i has.still in
        subst (Is q' es' u i) (sym (one-object u i n there.0 has is there.1)) there.1

    pub is-back : Queueing q es → (u i n : ℕ) → HasItem q q' u i → Is q' es' u i n → Is q es u i n
    is-back queued u i n has is =
        let there = queued.there u i has.within in
        subst (Is q es u i) (one-object u i there.0 n has there.1 is) there.1

-- Two tables of one heap have the same durable objects.
pub same-durable : (v : View) (es es' : List Entry) → Lies v es → Lies v es' → (n : ℕ) → InP es n → InP es' n
same-durable v es es' lies lies' n p =
    let a = alike v es es' n lies lies' p.0 in (
      let lt = p.0 in omega (arith, lt, lies.long, lies'.long),
      (let st = p.1 in omega (arith, st, a.stage)),
      a.owner ∙ p.2,
    )

-- where a queue is as it was, it has what it had
pub same-item : (q q' : Queues) (u i : ℕ) → queue_of q' u ≡ queue_of q u → i < length (queue_of q' u)
    → HasItem q q' u i
same-item q q' u i same still = record {
  within = subst (λ (xs : List (ℕ × ℕ)). i < length xs) same still;
  still = still;
  item = ap (λ (xs : List (ℕ × ℕ)). slice_index_or xs i (0, 0)) same;
}
