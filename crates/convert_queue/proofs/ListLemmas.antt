-- What a put and a release leave of the queues.
use Rattle.std.proofs.Common.{◌≡◌, ◌≢◌, inl, inr, ℕ, zero, suc, ◌+◌, ◌-◌, ◌<◌, ◌≤◌, ◌^◌, List, [], ◌∷◌, ◌++◌, length, map, refl}
use Rattle.std.proofs.Common.{sym, ◌∙◌, ap, subst, arith, slice_set, get_or, sum_by, Bool, replicate}
use Rattle.std.specs.Prelude.{if◌then◌else◌, slice_get, Some, None}
use Rattle.std.proofs.Math.Seq.{map-set_same}
use Rattle.std.proofs.lemmas.Bool.{eq-eqb, ne_eqb, cases_eq}
use Rattle.std.proofs.lemmas.List.{ext_get_or, get_or_default, get_or-map, set-get_or, length-set, length-map, get_or-set_same}
use Rattle.std.proofs.lemmas.List.{get_or-set_other, get_or_past, get_or-replicate, length-replicate}
use Rattle.std.proofs.lemmas.List.Sums.{sum_by-set, sum_by-cons}
use Rattle.convert_queue.specs.declared.queue_lists.Entry.{Entry}
use Rattle.convert_queue.specs.declared.queue_lists.Chain.{Chain}
use Rattle.convert_queue.specs.Chains.{no_entry, next_in, queued_in, nth_from, entry_of, walk, queue_from, linked, longer}
use Rattle.convert_queue.specs.Chains.{chain_at, AreChains, AreLists, Lists}
use Rattle.convert_queue.specs.Queues.{total}
use Rattle.convert_queue.proofs.ChainLemmas.{nth_last, Puts, put_same, put_front, put_new, put_chains, not_first, last_is}
use Rattle.convert_queue.proofs.ChainLemmas.{Releases, release_same, release_chains}
use Rattle.convert_queue.proofs.WalkLemmas.{length-walk, walk_same, walk_more, next_here, next_other, queued_here, queued_other}
use Rattle.convert_queue.proofs.WalkLemmas.{queued_same}

pub linked_none : (entries : List Entry) (chain : Chain) (n : ℕ) → chain.count ≡ 0 → linked entries chain n ≡ entries
linked_none entries chain n e =
    ap (λ (b : Bool). if b then entries else slice_set entries chain.last (record (get_or entries chain.last no_entry) { next = n })) (eq-eqb chain.count 0 e)

pub linked_some : (entries : List Entry) (chain : Chain) (n : ℕ) → chain.count ≢ 0
    → linked entries chain n ≡ slice_set entries chain.last (record (get_or entries chain.last no_entry) { next = n })
linked_some entries chain n ne =
    ap (λ (b : Bool). if b then entries else slice_set entries chain.last (record (get_or entries chain.last no_entry) { next = n })) (ne_eqb chain.count 0 ne)

linked_other : (entries : List Entry) (chain : Chain) (n k : ℕ) → (0 < chain.count → k ≢ chain.last) → next_in (linked entries chain n) k ≡ next_in entries k
linked_other entries chain n k ne = elim (cases_eq chain.count 0) [
  | inl none ↦ ap (λ (es : List Entry). next_in es k) (linked_none entries chain n none)
  | inr some ↦ ap (λ (es : List Entry). next_in es k) (linked_some entries chain n some)
      ∙ next_other entries chain.last k (record (get_or entries chain.last no_entry) { next = n }) (ne (positive chain.count some))
]
  where
    positive : (m : ℕ) → m ≢ 0 → 0 < m
    positive m ne = omega (arith, ne)

linked_last : (entries : List Entry) (chain : Chain) (n : ℕ) → 0 < chain.count → chain.last < length entries → next_in (linked entries chain n) chain.last ≡ n
linked_last entries chain n some lt =
    ap (λ (es : List Entry). next_in es chain.last) (linked_some entries chain n (λ e. omega (arith, e, some)))
    ∙ next_here entries chain.last (record (get_or entries chain.last no_entry) { next = n }) lt

linked_queued : (entries : List Entry) (chain : Chain) (n k : ℕ) → queued_in (linked entries chain n) k ≡ queued_in entries k
linked_queued entries chain n k = elim (cases_eq chain.count 0) [
  | inl none ↦ ap (λ (es : List Entry). queued_in es k) (linked_none entries chain n none)
  | inr some ↦ ap (λ (es : List Entry). queued_in es k) (linked_some entries chain n some) ∙ queued_same entries chain.last n k
]

linked_length : (entries : List Entry) (chain : Chain) (n : ℕ) → length (linked entries chain n) ≡ length entries
linked_length entries chain n = elim (cases_eq chain.count 0) [
  | inl none ↦ ap (λ (es : List Entry). length es) (linked_none entries chain n none)
  | inr some ↦ ap (λ (es : List Entry). length es) (linked_some entries chain n some)
      ∙ length-set entries chain.last (record (get_or entries chain.last no_entry) { next = n })
]

-- one chain among those of the threads
pub count_below : (chains : List Chain) (t : ℕ) (d : Chain) → t < length chains → (get_or chains t d).count ≤ sum_by (λ (chain : Chain). chain.count) chains
count_below chains t d lt =
    let e = sum_by-set (λ (chain : Chain). chain.count) chains t (record d { count = 0 }) d lt in
    omega (arith, e)

pub total_is : (entries : List Entry) (chains : List Chain)
    → sum_by (λ (queue : List (ℕ × ℕ)). length queue) (map (queue_from entries) chains) ≡ sum_by (λ (chain : Chain). chain.count) chains
total_is entries [] = refl
total_is entries (c ∷ cs) =
    sum_by-cons (λ (queue : List (ℕ × ℕ)). length queue) (queue_from entries c) (map (queue_from entries) cs)
    ∙ ap (λ (n : ℕ). n + sum_by (λ (queue : List (ℕ × ℕ)). length queue) (map (queue_from entries) cs)) (length-walk entries c.count c.first)
    ∙ ap (λ (n : ℕ). c.count + n) (total_is entries cs) ∙ sym (sum_by-cons (λ (chain : Chain). chain.count) c cs)

pub first_free : (entries : List Entry) (chains : List Chain) (free : Chain) → AreLists entries chains free → 0 < free.count → free.first < length entries
first_free entries chains free a some =
    let past = get_or_past chains 64 free (omega (arith, a.threads)) in
    subst (λ (c : Chain). c.first < length entries) past
    (a.apart.within 64 0 (omega arith) (subst (λ (c : Chain). 0 < c.count) (sym past) some))

pub last_within : (entries : List Entry) (chains : List Chain) (free : Chain) (t : ℕ) → AreLists entries chains free → t < 64 → 0 < (chain_at chains free t).count
    → (chain_at chains free t).last < length entries
last_within entries chains free t a lt some =
    subst (λ (k : ℕ). k < length entries) (sym (last_is (next_in entries) (chain_at chains free) (length entries) t a.apart lt some))
    (a.apart.within t ((chain_at chains free t).count - 1) (omega (arith, lt)) (omega (arith, some)))

-- the entries, the chains and the free chain after a put
abbrev pub filled : List Entry → ℕ → ℕ → ℕ → List Entry
filled entries e object line = slice_set entries e (record { object = object; line = line; next = e })

abbrev pub put_entries : List Entry → Chain → ℕ → ℕ → ℕ → List Entry
put_entries entries chain e object line = linked (slice_set entries e (record { object = object; line = line; next = e })) chain e

puts : (entries : List Entry) (chains : List Chain) (free : Chain) (t object line : ℕ) → AreLists entries chains free → t < 64 → 0 < free.count
    → Puts (next_in entries) (next_in (put_entries entries (chain_at chains free t) free.first object line))
    (chain_at chains free)
    (chain_at (slice_set chains t (longer (chain_at chains free t) free.first)) (record free { first = next_in entries free.first; count = free.count - 1 }))
    t free.first
puts entries chains free t object line a lt some =
    let e = free.first in
    let chain = chain_at chains free t in
    let x : Entry = record { object = object; line = line; next = e } in
    let es = filled entries e object line in
    let long : length es ≡ length entries = length-set entries e x in
    let past : chain_at chains free 64 ≡ free = get_or_past chains 64 free (omega (arith, a.threads)) in
    let free' : Chain = record free { first = next_in entries e; count = free.count - 1 } in
    let past' : chain_at (slice_set chains t (longer chain e)) free' 64 ≡ free' =
    get_or_past (slice_set chains t (longer chain e)) 64 free' (omega (arith, a.threads, length-set chains t (longer chain e))) in
    record {
      thread = lt;
      is_first = ap (λ (c : Chain). c.first) past;
      some = subst (λ (c : Chain). 0 < c.count) (sym past) some;
      others = λ k ne other. linked_other es chain e k other ∙ next_other entries e k x ne;
      link = λ filled. linked_last es chain e filled (omega (arith, long, last_within entries chains free t a lt filled));
      mine = get_or-set_same chains t (longer chain e) free' (omega (arith, lt, a.threads));
      first = ap (λ (c : Chain). c.first) past';
      count = ap (λ (c : Chain). c.count) past' ∙ ap (λ (c : Chain). c.count - 1) (sym past);
      rest = λ c low ne. get_or-set_other chains t c (longer chain e) free' ne ∙ get_or_default chains c free' free (omega (arith, low, a.threads));
    }

pub put_lists : (entries : List Entry) (chains : List Chain) (free : Chain) (t object line : ℕ) → AreLists entries chains free → t < 64 → 0 < free.count
    → AreLists (put_entries entries (chain_at chains free t) free.first object line) (slice_set chains t (longer (chain_at chains free t) free.first))
    (record free { first = next_in entries free.first; count = free.count - 1 })
put_lists entries chains free t object line a lt some =
    let e = free.first in
    let chain = chain_at chains free t in
    let x : Entry = record { object = object; line = line; next = e } in
    let long : length (put_entries entries chain e object line) ≡ length entries = linked_length (filled entries e object line) chain e ∙ length-set entries e x in
    let sum = sum_by-set (λ (c : Chain). c.count) chains t (longer chain e) free (omega (arith, lt, a.threads)) in
    record {
      threads = length-set chains t (longer chain e) ∙ a.threads;
      few = omega (arith, a.few, long);
      total = omega (arith, a.total, long, sum, some);
      apart = subst (λ (n : ℕ). AreChains (next_in (put_entries entries chain e object line))
          (chain_at (slice_set chains t (longer chain e)) (record free { first = next_in entries e; count = free.count - 1 })) n) (sym long)
          (put_chains _ _ _ _ (length entries) t e a.apart (puts entries chains free t object line a lt some));
    }

pub put_view : (entries : List Entry) (chains : List Chain) (free : Chain) (t object line : ℕ) → AreLists entries chains free → t < 64 → 0 < free.count
    → map (queue_from (put_entries entries (chain_at chains free t) free.first object line)) (slice_set chains t (longer (chain_at chains free t) free.first))
    ≡ slice_set (map (queue_from entries) chains) t (get_or (map (queue_from entries) chains) t [] ++ (object, line) ∷ [])
put_view entries chains free t object line a lt some =
    let e = free.first in
    let chain = chain_at chains free t in
    let x : ℕ × ℕ = (object, line) in
    let new : Entry = record { object = object; line = line; next = e } in
    let es = filled entries e object line in
    let entries' = put_entries entries chain e object line in
    let chains' = slice_set chains t (longer chain e) in
    let free' : Chain = record free { first = next_in entries e; count = free.count - 1 } in
    let old = map (queue_from entries) chains in
    let y = get_or old t [] ++ x ∷ [] in
    let p = puts entries chains free t object line a lt some in
    let next = next_in entries in
    let next' = next_in entries' in
    let at' = chain_at chains' free' in
    let size = length entries in
    let long' : length chains' ≡ 64 = length-set chains t (longer chain e) ∙ a.threads in
    let long : length old ≡ 64 = length-map chains (queue_from entries) ∙ a.threads in
    let item = λ (i : ℕ) (ne : i ≢ e). linked_queued es chain e i ∙ queued_other entries e i new ne in
    ext_get_or [] (map (queue_from entries') chains') (slice_set old t y)
    (length-map chains' (queue_from entries') ∙ long' ∙ sym (length-set old t y ∙ long))
    (λ u below.
    let low : u < 64 = omega (arith, below, length-map chains' (queue_from entries'), long') in
    get_or-map (queue_from entries') chains' u free' [] (omega (arith, low, long')) ∙ elim (cases_eq u t) [
      | inl me ↦
          ap (λ (k : ℕ). queue_from entries' (chain_at chains' free' k)) me
          ∙ ap (λ (n : ℕ). walk entries' n (chain_at chains' free' t).first) (ap (λ (c : Chain). c.count) p.mine)
          ∙ walk_more entries entries' chain.count chain.first (chain_at chains' free' t).first x
          (λ k less. put_front next next' (chain_at chains free) at' size t e a.apart p k less)
          (λ k less. item (entry_of next (chain_at chains free) t k)
          (not_first next next' (chain_at chains free) at' size t e a.apart p t k (omega (arith, lt)) less (λ h. absurd (omega (arith, h, lt)))))
          (ap (queued_in entries') (put_new next next' (chain_at chains free) at' size t e a.apart p)
          ∙ linked_queued es chain e e ∙ queued_here entries e new (first_free entries chains free a some))
          ∙ sym (ap (λ (k : ℕ). get_or (slice_set old t y) k []) me ∙ get_or-set_same old t y [] (omega (arith, lt, long))
          ∙ ap (λ (q : List (ℕ × ℕ)). q ++ x ∷ []) (get_or-map (queue_from entries) chains t free [] (omega (arith, lt, a.threads))))
      | inr other ↦
          ap (λ (n : ℕ). walk entries' n (chain_at chains' free' u).first) (ap (λ (c : Chain). c.count) (p.rest u low other))
          ∙ walk_same entries entries' (chain_at chains free u).count (chain_at chains free u).first (chain_at chains' free' u).first
          (λ k less. put_same next next' (chain_at chains free) at' size t e a.apart p u k low other less)
          (λ k less. item (entry_of next (chain_at chains free) u k)
          (not_first next next' (chain_at chains free) at' size t e a.apart p u k (omega (arith, low)) less (λ h. absurd (omega (arith, h, low)))))
          ∙ sym (get_or-set_other old t u y [] other ∙ get_or-map (queue_from entries) chains u free [] (omega (arith, low, a.threads)))
    ])

-- the entries, the chains and the free chain once a queue was released
abbrev pub release_entries : List Entry → Chain → ℕ → List Entry
release_entries entries chain n = slice_set entries chain.last (record (get_or entries chain.last no_entry) { next = n })

releases : (entries : List Entry) (chains : List Chain) (free : Chain) (t : ℕ) → AreLists entries chains free → t < 64 → 0 < (chain_at chains free t).count
    → Releases (next_in entries) (next_in (release_entries entries (chain_at chains free t) free.first)) (chain_at chains free)
    (chain_at (slice_set chains t (record (chain_at chains free t) { count = 0 }))
    (record free { first = (chain_at chains free t).first; count = free.count + (chain_at chains free t).count })) t
releases entries chains free t a lt some =
    let chain = chain_at chains free t in
    let mine : Chain = record chain { count = 0 } in
    let free' : Chain = record free { first = chain.first; count = free.count + chain.count } in
    let x : Entry = record (get_or entries chain.last no_entry) { next = free.first } in
    let past : chain_at chains free 64 ≡ free = get_or_past chains 64 free (omega (arith, a.threads)) in
    let past' : chain_at (slice_set chains t mine) free' 64 ≡ free' = get_or_past (slice_set chains t mine) 64 free' (omega (arith, a.threads, length-set chains t mine)) in
    record {
      thread = lt;
      some = some;
      others = λ k ne. next_other entries chain.last k x ne;
      link = next_here entries chain.last x (last_within entries chains free t a lt some) ∙ ap (λ (c : Chain). c.first) (sym past);
      none = ap (λ (c : Chain). c.count) (get_or-set_same chains t mine free' (omega (arith, lt, a.threads)));
      first = ap (λ (c : Chain). c.first) past';
      count = ap (λ (c : Chain). c.count) past' ∙ ap (λ (c : Chain). c.count + chain.count) (sym past);
      rest = λ c low ne. get_or-set_other chains t c mine free' ne ∙ get_or_default chains c free' free (omega (arith, low, a.threads));
    }

pub release_lists : (entries : List Entry) (chains : List Chain) (free : Chain) (t : ℕ) → AreLists entries chains free → t < 64 → 0 < (chain_at chains free t).count
    → AreLists (release_entries entries (chain_at chains free t) free.first) (slice_set chains t (record (chain_at chains free t) { count = 0 }))
    (record free { first = (chain_at chains free t).first; count = free.count + (chain_at chains free t).count })
release_lists entries chains free t a lt some =
    let chain = chain_at chains free t in
    let mine : Chain = record chain { count = 0 } in
    let free' : Chain = record free { first = chain.first; count = free.count + chain.count } in
    let entries' = release_entries entries chain free.first in
    let long : length entries' ≡ length entries = length-set entries chain.last (record (get_or entries chain.last no_entry) { next = free.first }) in
    let sum = sum_by-set (λ (c : Chain). c.count) chains t mine free (omega (arith, lt, a.threads)) in
    record {
      threads = length-set chains t mine ∙ a.threads;
      few = omega (arith, a.few, long);
      total = omega (arith, a.total, long, sum);
      apart = subst (λ (n : ℕ). AreChains (next_in entries') (chain_at (slice_set chains t mine) free') n) (sym long)
          (release_chains (next_in entries) (next_in entries') (chain_at chains free) (chain_at (slice_set chains t mine) free') (length entries) t a.apart
          (releases entries chains free t a lt some));
    }

pub release_view : (entries : List Entry) (chains : List Chain) (free : Chain) (t : ℕ) → AreLists entries chains free → t < 64 → 0 < (chain_at chains free t).count
    → map (queue_from (release_entries entries (chain_at chains free t) free.first)) (slice_set chains t (record (chain_at chains free t) { count = 0 }))
    ≡ slice_set (map (queue_from entries) chains) t []
release_view entries chains free t a lt some =
    let chain = chain_at chains free t in
    let mine : Chain = record chain { count = 0 } in
    let free' : Chain = record free { first = chain.first; count = free.count + chain.count } in
    let entries' = release_entries entries chain free.first in
    let chains' = slice_set chains t mine in
    let old = map (queue_from entries) chains in
    let p = releases entries chains free t a lt some in
    let next = next_in entries in
    let next' = next_in entries' in
    let at' = chain_at chains' free' in
    let size = length entries in
    let long' : length chains' ≡ 64 = length-set chains t mine ∙ a.threads in
    let long : length old ≡ 64 = length-map chains (queue_from entries) ∙ a.threads in
    ext_get_or [] (map (queue_from entries') chains') (slice_set old t [])
    (length-map chains' (queue_from entries') ∙ long' ∙ sym (length-set old t [] ∙ long))
    (λ u below.
    let low : u < 64 = omega (arith, below, length-map chains' (queue_from entries'), long') in
    get_or-map (queue_from entries') chains' u free' [] (omega (arith, low, long')) ∙ elim (cases_eq u t) [
      | inl me ↦
          ap (λ (k : ℕ). queue_from entries' (chain_at chains' free' k)) me
          ∙ ap (λ (n : ℕ). walk entries' n (chain_at chains' free' t).first) p.none
          ∙ sym (ap (λ (k : ℕ). get_or (slice_set old t []) k []) me ∙ get_or-set_same old t [] [] (omega (arith, lt, long)))
      | inr other ↦
          ap (λ (n : ℕ). walk entries' n (chain_at chains' free' u).first) (ap (λ (c : Chain). c.count) (p.rest u low other))
          ∙ walk_same entries entries' (chain_at chains free u).count (chain_at chains free u).first (chain_at chains' free' u).first
          (λ k less. release_same next next' (chain_at chains free) at' size t a.apart p u k low other less)
          (λ k less. queued_same entries chain.last free.first (entry_of next (chain_at chains free) u k))
          ∙ sym (get_or-set_other old t u [] [] other ∙ get_or-map (queue_from entries) chains u free [] (omega (arith, low, a.threads)))
    ])

-- a queue that is empty anyway
pub empty_view : (entries : List Entry) (chains : List Chain) (free : Chain) (t : ℕ) → t < length chains → (get_or chains t free).count ≡ 0
    → map (queue_from entries) chains ≡ slice_set (map (queue_from entries) chains) t []
empty_view entries chains free t lt none =
    let old = map (queue_from entries) chains in
    let e : get_or old t [] ≡ [] = get_or-map (queue_from entries) chains t free [] lt ∙ ap (λ (n : ℕ). walk entries n (get_or chains t free).first) none in
    sym (ap (λ (q : List (ℕ × ℕ)). slice_set old t q) (sym e) ∙ set-get_or old t [])

-- chains that differ in their places alone
pub record Like (chain chain' : Chain) : Type 0 where
  pub first : chain'.first ≡ chain.first
  pub last : chain'.last ≡ chain.last
  pub count : chain'.count ≡ chain.count

like : (chains : List Chain) (t : ℕ) (free : Chain) (n cursor c : ℕ) → t < length chains
    → Like (get_or chains c free) (get_or (slice_set chains t (record (get_or chains t free) { at = n; cursor = cursor })) c free)
like chains t free n cursor c lt = elim (cases_eq c t) [
  | inl me ↦
      let new : Chain = record (get_or chains t free) { at = n; cursor = cursor } in
      subst (λ (k : ℕ). Like (get_or chains k free) (get_or (slice_set chains t new) k free)) (sym me)
      (subst (λ (x : Chain). Like (get_or chains t free) x) (sym (get_or-set_same chains t new free lt)) (record { first = refl; last = refl; count = refl }))
  | inr ne ↦
      let new : Chain = record (get_or chains t free) { at = n; cursor = cursor } in
      subst (λ (x : Chain). Like (get_or chains c free) x) (sym (get_or-set_other chains t c new free ne)) (record { first = refl; last = refl; count = refl })
]

same_chains : (next : ℕ → ℕ) (chain chain' : ℕ → Chain) (size : ℕ) → AreChains next chain size → ((c : ℕ) → Like (chain c) (chain' c))
    → ((c : ℕ) → c < 64 → (chain' c).at < (chain' c).count → (chain' c).cursor ≡ entry_of next chain' c (chain' c).at) → AreChains next chain' size
same_chains next chain chain' size a like stands = record {
  within = λ c n low lt. subst (λ (x : ℕ). x < size) (sym (at c n)) (a.within c n low (less c n lt));
  apart = λ c d n m low low' lt lt' e. a.apart c d n m low low' (less c n lt) (less d m lt') (sym (at c n) ∙ e ∙ at d m);
  ends = λ c n low is. (like c).last ∙ a.ends c n low (sym (like c).count ∙ is) ∙ sym (at c n);
  stands = stands;
}
  where
    at : (c n : ℕ) → entry_of next chain' c n ≡ entry_of next chain c n
    at c n = ap (nth_from next n) (like c).first

    less : (c n : ℕ) → n < (chain' c).count → n < (chain c).count
    less c n lt = subst (λ (k : ℕ). n < k) (like c).count lt

-- A place moves.
pub moved_lists : (entries : List Entry) (chains : List Chain) (free : Chain) (t n cursor : ℕ) → AreLists entries chains free → t < 64
    → (n < (chain_at chains free t).count → cursor ≡ nth_from (next_in entries) n (chain_at chains free t).first)
    → AreLists entries (slice_set chains t (record (chain_at chains free t) { at = n; cursor = cursor })) free
moved_lists entries chains free t n cursor a lt is =
    let chain = chain_at chains free t in
    let new : Chain = record chain { at = n; cursor = cursor } in
    let chains' = slice_set chains t new in
    let sum = sum_by-set (λ (c : Chain). c.count) chains t new free (omega (arith, lt, a.threads)) in
    let mine : chain_at chains' free t ≡ new = get_or-set_same chains t new free (omega (arith, lt, a.threads)) in
    let rest = λ (c : ℕ) (ne : c ≢ t). get_or-set_other chains t c new free ne in
    let same = λ (c : ℕ). like chains t free n cursor c (omega (arith, lt, a.threads)) in
    record {
      threads = length-set chains t new ∙ a.threads;
      few = a.few;
      total = omega (arith, a.total, sum);
      apart = same_chains (next_in entries) (chain_at chains free) (chain_at chains' free) (length entries) a.apart same
          (λ c low less. elim (cases_eq c t) [
            | inl me ↦ ap (λ (k : ℕ). (chain_at chains' free k).cursor) me ∙ ap (λ (x : Chain). x.cursor) mine
                ∙ is (subst (λ (x : Chain). x.at < x.count) mine (subst (λ (k : ℕ). (chain_at chains' free k).at < (chain_at chains' free k).count) me less))
                ∙ sym (ap (λ (k : ℕ). nth_from (next_in entries) (chain_at chains' free k).at (chain_at chains' free k).first) me
                ∙ ap (λ (x : Chain). nth_from (next_in entries) x.at x.first) mine)
            | inr other ↦ ap (λ (x : Chain). x.cursor) (rest c other)
                ∙ a.apart.stands c low (subst (λ (x : Chain). x.at < x.count) (rest c other) less)
                ∙ sym (ap (λ (x : Chain). nth_from (next_in entries) x.at x.first) (rest c other))
          ]);
    }

-- at the beginning
pub begins : (next : ℕ → ℕ) (chain : ℕ → Chain) (size : ℕ) → ((i : ℕ) → i < size → next i ≡ i + 1) → ((c : ℕ) → c < 64 → (chain c).count ≡ 0)
    → (chain 64).first ≡ 0 → (chain 64).count ≡ size → AreChains next chain size
begins next chain size is none first all = record {
  within = λ c n low lt. elim (cases_eq c 64) [
    | inl free ↦
        let less : n < size = omega (arith, subst (λ (k : ℕ). n < (chain k).count) free lt, all) in
        subst (λ (x : ℕ). x < size) (sym (ap (λ (k : ℕ). entry_of next chain k n) free ∙ at n less)) less
    | inr used ↦ absurd (omega (arith, lt, none c (omega (arith, low, used))))
  ];
  apart = λ c d n m low low' lt lt' e. elim (cases_eq c 64) [
    | inl free ↦ elim (cases_eq d 64) [
      | inl free' ↦
          let less : n < size = omega (arith, subst (λ (k : ℕ). n < (chain k).count) free lt, all) in
          let less' : m < size = omega (arith, subst (λ (k : ℕ). m < (chain k).count) free' lt', all) in (
            free ∙ sym free',
            sym (ap (λ (k : ℕ). entry_of next chain k n) free ∙ at n less) ∙ e ∙ ap (λ (k : ℕ). entry_of next chain k m) free' ∙ at m less',
          )
      | inr used ↦ absurd (omega (arith, lt', none d (omega (arith, low', used))))
    ]
    | inr used ↦ absurd (omega (arith, lt, none c (omega (arith, low, used))))
  ];
  ends = λ c n low e. absurd (omega (arith, e, none c low));
  stands = λ c low lt. absurd (omega (arith, lt, none c low));
}
  where
    up : (n : ℕ) → n < size + 1 → nth_from next n 0 ≡ n
    up zero lt = refl
    up (suc n) lt = nth_last next n 0 ∙ ap next (up n (omega (arith, lt))) ∙ is n (omega (arith, lt)) ∙ omega arith

    at : (n : ℕ) → n < size → entry_of next chain 64 n ≡ n
    at n lt = ap (nth_from next n) first ∙ up n (omega (arith, lt))

-- the value that the parts of the queues are seen as
abbrev pub lists_of : List (List (ℕ × ℕ)) → ℕ → Lists
lists_of queues size = record { queues = queues; size = size }

pub some_free : (entries : List Entry) (chains : List Chain) (free : Chain) (now : Lists) → lists_of (map (queue_from entries) chains) (length entries) ≡ now
    → AreLists entries chains free → total now.queues < now.size → 0 < free.count
some_free entries chains free now is a room =
    let room' : total (map (queue_from entries) chains) < length entries = subst (λ (l : Lists). total l.queues < l.size) (sym is) room in
    omega (arith, room', total_is entries chains, a.total)

pub put_done : (entries es' : List Entry) (chains : List Chain) (free chain : Chain) (t object line n : ℕ) → AreLists entries chains free → t < 64 → 0 < free.count
    → chain ≡ chain_at chains free t → n ≡ next_in entries free.first → es' ≡ put_entries entries chain free.first object line
    → AreLists es' (slice_set chains t (longer chain free.first)) (record free { first = n; count = free.count - 1 })
    × (lists_of (map (queue_from es') (slice_set chains t (longer chain free.first))) (length es')
    ≡ lists_of (slice_set (map (queue_from entries) chains) t (get_or (map (queue_from entries) chains) t [] ++ (object, line) ∷ [])) (length entries))
put_done entries es' chains free chain t object line n a lt some is at es_is =
    let mine = chain_at chains free t in
    let es = put_entries entries mine free.first object line in
    let e : es' ≡ es = es_is ∙ ap (λ (c : Chain). put_entries entries c free.first object line) is in
    let long : length es ≡ length entries =
    linked_length (filled entries free.first object line) mine free.first ∙ length-set entries free.first (record { object = object; line = line; next = free.first }) in (
      subst (λ (xs : List Entry). AreLists xs (slice_set chains t (longer chain free.first)) (record free { first = n; count = free.count - 1 })) (sym e)
          (subst (λ (c : Chain). AreLists es (slice_set chains t (longer c free.first)) (record free { first = n; count = free.count - 1 })) (sym is)
          (subst (λ (k : ℕ). AreLists es (slice_set chains t (longer mine free.first)) (record free { first = k; count = free.count - 1 })) (sym at)
          (put_lists entries chains free t object line a lt some))),
      ap (λ (xs : List Entry). lists_of (map (queue_from xs) (slice_set chains t (longer chain free.first))) (length xs)) e
          ∙ ap (λ (c : Chain). lists_of (map (queue_from es) (slice_set chains t (longer c free.first))) (length es)) is
          ∙ ap (λ (q : List (List (ℕ × ℕ))). lists_of q (length es)) (put_view entries chains free t object line a lt some)
          ∙ ap (lists_of (slice_set (map (queue_from entries) chains) t (get_or (map (queue_from entries) chains) t [] ++ (object, line) ∷ []))) long,
    )

pub release_done : (entries es' : List Entry) (chains : List Chain) (free chain : Chain) (t : ℕ) → AreLists entries chains free → t < 64
    → chain ≡ chain_at chains free t → 0 < chain.count → es' ≡ release_entries entries chain free.first
    → AreLists es' (slice_set chains t (record chain { count = 0 })) (record free { first = chain.first; count = free.count + chain.count })
    × (lists_of (map (queue_from es') (slice_set chains t (record chain { count = 0 }))) (length es')
    ≡ lists_of (slice_set (map (queue_from entries) chains) t []) (length entries))
release_done entries es' chains free chain t a lt is some es_is =
    let mine = chain_at chains free t in
    let es = release_entries entries mine free.first in
    let e : es' ≡ es = es_is ∙ ap (λ (c : Chain). release_entries entries c free.first) is in
    let some' : 0 < mine.count = subst (λ (c : Chain). 0 < c.count) is some in
    let long : length es ≡ length entries = length-set entries mine.last (record (get_or entries mine.last no_entry) { next = free.first }) in (
      subst (λ (xs : List Entry). AreLists xs (slice_set chains t (record chain { count = 0 })) (record free { first = chain.first; count = free.count + chain.count })) (sym e)
          (subst (λ (c : Chain). AreLists es (slice_set chains t (record c { count = 0 })) (record free { first = c.first; count = free.count + c.count })) (sym is)
          (release_lists entries chains free t a lt some')),
      ap (λ (xs : List Entry). lists_of (map (queue_from xs) (slice_set chains t (record chain { count = 0 }))) (length xs)) e
          ∙ ap (λ (c : Chain). lists_of (map (queue_from es) (slice_set chains t (record c { count = 0 }))) (length es)) is
          ∙ ap (λ (q : List (List (ℕ × ℕ))). lists_of q (length es)) (release_view entries chains free t a lt some')
          ∙ ap (lists_of (slice_set (map (queue_from entries) chains) t [])) long,
    )

-- a chain as it is read
pub chain_read : (chains : List Chain) (free chain : Chain) (t : ℕ) → length chains ≡ 64 → t < 64 → chain ≡ get_or chains t chain → chain ≡ chain_at chains free t
chain_read chains free chain t long lt e = e ∙ get_or_default chains t chain free (omega (arith, long, lt))

-- the queue of a thread, as its chain has it
pub queue_read : (entries : List Entry) (chains : List Chain) (free : Chain) (t : ℕ) (now : Lists) → lists_of (map (queue_from entries) chains) (length entries) ≡ now
    → length chains ≡ 64 → t < 64 → get_or now.queues t [] ≡ queue_from entries (chain_at chains free t)
queue_read entries chains free t now is long lt =
    ap (λ (l : Lists). get_or l.queues t []) (sym is) ∙ get_or-map (queue_from entries) chains t free [] (omega (arith, long, lt))

pub walk_none : (entries : List Entry) (n i k : ℕ) → n ≤ k → slice_get (walk entries n i) k ≡ None
walk_none entries zero i k le = refl
walk_none entries (suc n) i zero le = absurd (omega (arith, le))
walk_none entries (suc n) i (suc k) le = walk_none entries n (next_in entries i) k (omega (arith, le))

pub walk_some : (entries : List Entry) (n i k : ℕ) → k < n → slice_get (walk entries n i) k ≡ Some (queued_in entries (nth_from (next_in entries) k i))
walk_some entries zero i k lt = absurd (omega (arith, lt))
walk_some entries (suc n) i zero lt = refl
walk_some entries (suc n) i (suc k) lt = walk_some entries n (next_in entries i) k (omega (arith, lt))

pub chain_within : (entries : List Entry) (chains : List Chain) (free : Chain) (t : ℕ) → AreLists entries chains free → t < 64
    → (k : ℕ) → k < (chain_at chains free t).count → nth_from (next_in entries) k (chain_at chains free t).first < length entries
chain_within entries chains free t a lt k less = a.apart.within t k (omega (arith, lt)) less

pub chain_stands : (entries : List Entry) (chains : List Chain) (free : Chain) (t : ℕ) → AreLists entries chains free → t < 64
    → (chain_at chains free t).at < (chain_at chains free t).count
    → (chain_at chains free t).cursor ≡ nth_from (next_in entries) (chain_at chains free t).at (chain_at chains free t).first
chain_stands entries chains free t a lt less = a.apart.stands t lt less

pub moved_done : (entries : List Entry) (chains : List Chain) (free chain chain' : Chain) (t n : ℕ) → AreLists entries chains free → t < 64
    → chain ≡ chain_at chains free t → chain' ≡ record chain { at = n; cursor = chain'.cursor }
    → (n < chain.count → chain'.cursor ≡ nth_from (next_in entries) n chain.first)
    → AreLists entries (slice_set chains t chain') free
    × (lists_of (map (queue_from entries) (slice_set chains t chain')) (length entries) ≡ lists_of (map (queue_from entries) chains) (length entries))
moved_done entries chains free chain chain' t n a lt is is' cursor =
    let mine = chain_at chains free t in
    let new : chain' ≡ record mine { at = n; cursor = chain'.cursor } = is' ∙ ap (λ (c : Chain). record c { at = n; cursor = chain'.cursor }) is in (
      subst (λ (c : Chain). AreLists entries (slice_set chains t c) free) (sym new)
          (moved_lists entries chains free t n chain'.cursor a lt (subst (λ (c : Chain). n < c.count → chain'.cursor ≡ nth_from (next_in entries) n c.first) is cursor)),
      ap (λ (q : List (List (ℕ × ℕ))). lists_of q (length entries)) (map-set_same (queue_from entries) chains t chain' free (ap (queue_from entries) new)),
    )

pub get_some : (entries : List Entry) (chains : List Chain) (free chain : Chain) (t n i : ℕ) (x : Entry) (now : Lists)
    → lists_of (map (queue_from entries) chains) (length entries) ≡ now → AreLists entries chains free → t < 64 → chain ≡ chain_at chains free t → n < chain.count
    → i ≡ nth_from (next_in entries) n chain.first → x ≡ get_or entries i x → Some (x.object, x.line) ≡ slice_get (get_or now.queues t []) n
get_some entries chains free chain t n i x now view a lt is less at read =
    let mine = chain_at chains free t in
    let less' : n < mine.count = subst (λ (c : Chain). n < c.count) is less in
    let at' : i ≡ nth_from (next_in entries) n mine.first = at ∙ ap (λ (c : Chain). nth_from (next_in entries) n c.first) is in
    let below : i < length entries = subst (λ (k : ℕ). k < length entries) (sym at') (chain_within entries chains free t a lt n less') in
    ap (λ (e : Entry). Some (e.object, e.line)) (read ∙ get_or_default entries i x no_entry below)
    ∙ ap (λ (k : ℕ). Some (queued_in entries k)) at'
    ∙ sym (walk_some entries mine.count mine.first n less')
    ∙ sym (ap (λ (q : List (ℕ × ℕ)). slice_get q n) (queue_read entries chains free t now view a.threads lt))

pub get_none : (entries : List Entry) (chains : List Chain) (free chain : Chain) (t n : ℕ) (now : Lists)
    → lists_of (map (queue_from entries) chains) (length entries) ≡ now → AreLists entries chains free → t < 64 → chain ≡ chain_at chains free t → chain.count ≤ n
    → None ≡ slice_get (get_or now.queues t []) n
get_none entries chains free chain t n now view a lt is le =
    let mine = chain_at chains free t in
    sym (ap (λ (q : List (ℕ × ℕ)). slice_get q n) (queue_read entries chains free t now view a.threads lt)
    ∙ walk_none entries mine.count mine.first n (subst (λ (c : Chain). c.count ≤ n) is le))

sum_none : (n : ℕ) (x : Chain) → x.count ≡ 0 → sum_by (λ (c : Chain). c.count) (replicate n x) ≡ 0
sum_none zero x e = refl
sum_none (suc n) x e =
    let a = sum_by-cons (λ (c : Chain). c.count) x (replicate n x) in
    let b = sum_none n x e in
    omega (arith, a, b, e)

pub lists_begin : (entries : List Entry) (chains : List Chain) (none free : Chain) (size : ℕ) → chains ≡ replicate 64 none → none.count ≡ 0 → free.first ≡ 0 → free.count ≡ size
    → length entries ≡ size → size < 2 ^ 32 → ((i : ℕ) → i < size → next_in entries i ≡ i + 1) → AreLists entries chains free
lists_begin entries chains none free size is empty first all long few next =
    let count : length chains ≡ 64 = ap (λ (cs : List Chain). length cs) is ∙ length-replicate {A = Chain} 64 none in
    let sum : sum_by (λ (c : Chain). c.count) chains ≡ 0 = ap (λ (cs : List Chain). sum_by (λ (c : Chain). c.count) cs) is ∙ sum_none 64 none empty in
    let past : chain_at chains free 64 ≡ free = get_or_past chains 64 free (omega (arith, count)) in
    record {
      threads = count;
      few = omega (arith, long, few);
      total = omega (arith, sum, all, long);
      apart = subst (λ (n : ℕ). AreChains (next_in entries) (chain_at chains free) n) (sym long) (begins (next_in entries) (chain_at chains free) size next
          (λ c lt. ap (λ (cs : List Chain). (get_or cs c free).count) is ∙ ap (λ (x : Chain). x.count) (get_or-replicate {A = Chain} 64 c none free lt) ∙ empty)
          (ap (λ (c : Chain). c.first) past ∙ first) (ap (λ (c : Chain). c.count) past ∙ all));
    }
