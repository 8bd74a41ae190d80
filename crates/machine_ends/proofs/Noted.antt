-- What an act of a request leaves of the table, and what the queue is told of it.
use Rattle.std.proofs.Common.{◌≡◌, ◌⊎◌, inl, inr, ℕ, ◌+◌, ◌-◌, ◌<◌, List, [], ◌∷◌, ◌++◌, length, refl, sym, ◌∙◌, ap, subst}
use Rattle.std.proofs.Common.{arith}
use Rattle.std.proofs.lemmas.Bool.{false≢true}
use Rattle.std.proofs.lemmas.List.{length_push, get_or_push, get_or_append_left}
use Rattle.ap_base.specs.declared.place.Place.TheVariants.{Static, Slot}
use Rattle.ap_base.specs.declared.reference.Ref.{Ref}
use Rattle.ap_base.specs.declared.reference.Item.{Item}
use Rattle.natives.specs.declared.requests.Request.{Request}
use Rattle.natives.specs.declared.requests.Reply.{Reply}
use Rattle.run_history.specs.declared.act.Op.{Op}
use Rattle.run_history.specs.declared.act.Op.TheVariants as op
use Rattle.twin_forms.specs.Table.{Entry, entry, no_entry, HasCopied, line_of, IsClaimed, InP}
use Rattle.twin_forms.specs.Moves.{fresh}
use Rattle.twin_forms.proofs.Led.{same_or_not}
use Rattle.machine_laws.proofs.Passed.{copied_or_not}
use Rattle.convert_queue.specs.Queues.{Queues}
use Rattle.convert_words.specs.Converting.{IsLineOf}
use Rattle.convert_words.specs.Steps.{told}
use Rattle.machine_laws.specs.Passed.{Opening, Machine}
use Rattle.machine_laws.specs.Passed.{KeepsRun}
use Rattle.machine_laws.specs.Passed.{ActsBeside, TableAfter, IsWithFresh}
use Rattle.machine_laws.proofs.Beside.{OnlyAdds}
use Rattle.machine_laws.proofs.AskKeeping.{in-durable}
use Rattle.machine_laws.proofs.HeapStoring.{object_there, slot_there}

-- ---- the table

adds-one : (es : List Entry) (shape slots at : ℕ) → OnlyAdds es (es ++ fresh shape slots at ∷ [])
adds-one es shape slots at =
    let long = length_push es (fresh shape slots at) in record {
      long = omega (arith, long);
      same = λ n lt. get_or_append_left es (fresh shape slots at ∷ []) no_entry n lt;
      new = λ n lt past. (let e = get_or_push es (fresh shape slots at) no_entry n
          (omega (arith, lt, past, long)) in
          (ap (λ (x : Entry). x.stage) e, ap (λ (x : Entry). x.owner) e));
    }

adds-none : (es es' : List Entry) → es' ≡ es → OnlyAdds es es'
adds-none es es' same = subst (OnlyAdds es) (sym same) (record {
  long = omega arith;
  same = λ n lt. refl;
  new = λ n lt past. absurd (omega (arith, lt, past));
})

with-fresh : (m : Machine) (es es' : List Entry) → IsWithFresh m es es' → OnlyAdds es es'
with-fresh m es es' w =
    subst (OnlyAdds es) (sym w.2) (adds-one es w.0 w.1 (length m.spaces.twin.space.words))

pub table-adds : (m : Machine) (o : Op) (es es' : List Entry) → TableAfter m o es es' → OnlyAdds es es'
table-adds m (op.Alloc n class count) es es' w = with-fresh m es es' w
table-adds m (op.Throw n class) es es' w = with-fresh m es es' w
table-adds m o es es' same = adds-none es es' same

-- ---- the queue

-- it is told of a store to a line of an object that a thread has claimed
pub record IsTold (es : List Entry) (q q' : Queues) : Type 0 where
  pub thread : ℕ
  pub line : ℕ
  pub own : IsLineOf es thread line
  pub told_is : q' ≡ told q thread line

some-stage : (e : Entry) (c : ℕ) → HasCopied e c → 0 < e.stage
some-stage e c (inl two) = omega (arith, two)
some-stage e c (inr one) = let st = one.0 in omega (arith, st)

module _ (o : Opening) (m : Machine) (es : List Entry) (k : KeepsRun o m es) where
  -- a line that is copied is one of a durable object, or of a claimed one
  copied-there : (n c : ℕ) → n < length es → HasCopied (entry es n) c
      → InP es n ⊎ ((u : ℕ) × IsClaimed es u n)
  copied-there n c lt copied = elim (same_or_not (entry es n).owner 0) [
    | inr some ↦ (let own : (entry es n).owner ≡ ((entry es n).owner - 1) + 1 = omega (arith, some) in
        inr ((entry es n).owner - 1, (lt, own)))
    | inl none ↦ inl (lt, moved none copied, none)
  ]
    where
      moved : (entry es n).owner ≡ 0 → HasCopied (entry es n) c → 1 < (entry es n).stage
      moved none (inl two) = two
      moved none (inr one) = absurd
          (let some = k.heap.whole.lies.table.copying n lt one.0 in omega (arith, none, some))

  -- the line of a slot
  slot-line : (u n i : ℕ) → IsClaimed es u n → HasCopied (entry es n) (line_of i) → i < (entry es n).slots
      → IsLineOf es u ((entry es n).line + line_of i)
  slot-line u n i c copied slot = record {
    n = n;
    claimed = c;
    placed = some-stage (entry es n) (line_of i) copied;
    from = omega arith;
    to = omega (arith, slot);
  }

  pub notes : (m' : Machine) (t : ℕ) (request : Request Ref Item) (operation : Op) (r : Reply Ref Item)
      → ActsBeside o m m' es t request operation r → (m'.queue ≡ m.queue) ⊎ IsTold es m.queue m'.queue
  notes m' t request (op.Stored (Slot n i) value) r acts =
      elim (copied_or_not (entry es n) (line_of i)) [
        | inr not_copied ↦ inl (acts.notes.1 not_copied)
        | inl copied ↦ inr (
            let slot = slot_there o m m' es k t request n i value r acts.does in
            let there : n < length es = object_there o m m' es k t request n i value r acts.does in
            elim (copied-there n (line_of i) there copied) [
              | inl p ↦ absurd (false≢true (sym acts.beside.0 ∙ in-durable o m es k n p))
              | inr c ↦ record {
                thread = c.0;
                line = (entry es n).line + line_of i;
                own = slot-line c.0 n i c.1 copied slot;
                told_is = acts.notes.0 c.0 c.1 copied;
              }
            ])
      ]
  notes m' t request (op.Stored (Static f) value) r acts = inl acts.notes
  notes m' t request operation r acts = inl acts.notes
