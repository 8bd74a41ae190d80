-- Queues as walks along chains.
use Rattle.std.proofs.Common.{◌≡◌, ◌≢◌, inl, inr, ℕ, zero, suc, ◌+◌, ◌<◌, List, [], ◌∷◌, ◌++◌, length, refl, sym, ◌∙◌, ap}
use Rattle.std.proofs.Common.{arith, slice_set, get_or}
use Rattle.std.proofs.lemmas.Bool.{cases_lt, cases_eq}
use Rattle.std.proofs.lemmas.List.{ext_get_or, length_push, get_or_push, get_or_append_left, get_or-set_same, get_or-set_other}
use Rattle.std.proofs.lemmas.List.{set_past}
use Rattle.convert_queue.specs.declared.queue_lists.Entry.{Entry}
use Rattle.convert_queue.specs.Chains.{no_entry, next_in, queued_in, nth_from, walk}

pub length-walk : (entries : List Entry) (n i : ℕ) → length (walk entries n i) ≡ n
length-walk entries zero i = refl
length-walk entries (suc n) i = ap suc (length-walk entries n (next_in entries i))

pub walk_at : (entries : List Entry) (n i k : ℕ) (d : ℕ × ℕ) → k < n → get_or (walk entries n i) k d ≡ queued_in entries (nth_from (next_in entries) k i)
walk_at entries zero i k d lt = absurd (omega (arith, lt))
walk_at entries (suc n) i zero d lt = refl
walk_at entries (suc n) i (suc k) d lt = walk_at entries n (next_in entries i) k d (omega (arith, lt))

none : ℕ × ℕ
none = (0, 0)

pub walk_same : (entries entries' : List Entry) (n i i' : ℕ)
    → ((k : ℕ) → k < n → nth_from (next_in entries') k i' ≡ nth_from (next_in entries) k i)
    → ((k : ℕ) → k < n → queued_in entries' (nth_from (next_in entries) k i) ≡ queued_in entries (nth_from (next_in entries) k i))
    → walk entries' n i' ≡ walk entries n i
walk_same entries entries' n i i' at item =
    ext_get_or none (walk entries' n i') (walk entries n i) (length-walk entries' n i' ∙ sym (length-walk entries n i)) (λ k lt.
    let less : k < n = omega (arith, lt, length-walk entries' n i') in
    walk_at entries' n i' k none less ∙ ap (queued_in entries') (at k less) ∙ item k less ∙ sym (walk_at entries n i k none less))

pub walk_more : (entries entries' : List Entry) (n i i' : ℕ) (x : ℕ × ℕ)
    → ((k : ℕ) → k < n → nth_from (next_in entries') k i' ≡ nth_from (next_in entries) k i)
    → ((k : ℕ) → k < n → queued_in entries' (nth_from (next_in entries) k i) ≡ queued_in entries (nth_from (next_in entries) k i))
    → queued_in entries' (nth_from (next_in entries') n i') ≡ x
    → walk entries' (n + 1) i' ≡ walk entries n i ++ x ∷ []
walk_more entries entries' n i i' x at item last =
    ext_get_or none (walk entries' (n + 1) i') (walk entries n i ++ x ∷ [])
    (length-walk entries' (n + 1) i' ∙ sym (length_push (walk entries n i) x ∙ ap (λ (m : ℕ). m + 1) (length-walk entries n i))) (λ k lt.
    let less : k < n + 1 = omega (arith, lt, length-walk entries' (n + 1) i') in
    walk_at entries' (n + 1) i' k none less ∙ elim (cases_lt k n) [
      | inl front ↦ ap (queued_in entries') (at k front) ∙ item k front ∙ sym (walk_at entries n i k none front)
          ∙ sym (get_or_append_left (walk entries n i) (x ∷ []) none k (omega (arith, front, length-walk entries n i)))
      | inr past ↦
          let e : k ≡ n = omega (arith, past, less) in
          ap (λ (m : ℕ). queued_in entries' (nth_from (next_in entries') m i')) e ∙ last
          ∙ sym (get_or_push (walk entries n i) x none k (length-walk entries n i ∙ sym e))
    ])

-- one entry is replaced
pub next_here : (entries : List Entry) (i : ℕ) (x : Entry) → i < length entries → next_in (slice_set entries i x) i ≡ x.next
next_here entries i x lt = ap (λ (y : Entry). y.next) (get_or-set_same entries i x no_entry lt)

pub next_other : (entries : List Entry) (i k : ℕ) (x : Entry) → k ≢ i → next_in (slice_set entries i x) k ≡ next_in entries k
next_other entries i k x ne = ap (λ (y : Entry). y.next) (get_or-set_other entries i k x no_entry ne)

pub queued_here : (entries : List Entry) (i : ℕ) (x : Entry) → i < length entries → queued_in (slice_set entries i x) i ≡ (x.object, x.line)
queued_here entries i x lt = ap (λ (y : Entry). (y.object, y.line)) (get_or-set_same entries i x no_entry lt)

pub queued_other : (entries : List Entry) (i k : ℕ) (x : Entry) → k ≢ i → queued_in (slice_set entries i x) k ≡ queued_in entries k
queued_other entries i k x ne = ap (λ (y : Entry). (y.object, y.line)) (get_or-set_other entries i k x no_entry ne)

-- another next entry leaves what the entries hold
pub queued_same : (entries : List Entry) (i n k : ℕ) → queued_in (slice_set entries i (record (get_or entries i no_entry) { next = n })) k ≡ queued_in entries k
queued_same entries i n k = elim (cases_eq k i) [
  | inr ne ↦ queued_other entries i k (record (get_or entries i no_entry) { next = n }) ne
  | inl e ↦ elim (cases_lt i (length entries)) [
    | inl lt ↦ ap (queued_in (slice_set entries i (record (get_or entries i no_entry) { next = n }))) e
        ∙ queued_here entries i (record (get_or entries i no_entry) { next = n }) lt ∙ sym (ap (queued_in entries) e)
    | inr le ↦ ap (λ (es : List Entry). queued_in es k) (set_past entries i (record (get_or entries i no_entry) { next = n }) le)
  ]
]
