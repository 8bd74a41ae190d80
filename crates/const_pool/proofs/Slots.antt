-- The slots of a pool: read one entry after the other, as they are spelled, and with what they name.
use Rattle.std.proofs.Common.{◌≡◌, ◌≢◌, ℕ, zero, suc, ◌+◌, ◌-◌, ◌≤◌, ◌<◌, Bool, true, false, List, [], ◌∷◌, ◌++◌, length}
use Rattle.std.proofs.Common.{get_or, drop, Option, Some, None, Result, Ok, Err, refl, sym, ap, subst, ◌∙◌, ◌⊎◌, append_assoc}
use Rattle.std.proofs.Common.{inl, inr, arith}
use Rattle.std.specs.List.{flat_map, AllByRecursion}
use Rattle.std.proofs.lemmas.Bool.{cases_Bool}
use Rattle.std.proofs.lemmas.List.{append-nil, length-append, at_drop_more, at_drop_all}
use Rattle.std.proofs.lemmas.List.Concat.{flat_map-cons}
use Rattle.parsing.specs.Results.{◌>>=◌}
use Rattle.parsing.specs.Places.{Place}
use Rattle.parsing.specs.Bytes.{IsBytes}
use Rattle.parsing.proofs.Steps.{done, bind_ok, ok_is, refused_with}
use Rattle.parsing.proofs.Loops.{with_front, regroup}
use Rattle.parsing.proofs.Fields.{Takes, Takes-then, same_place}
use Rattle.const_pool.specs.declared.refusal.PoolRefusal.{PoolRefusal}
use Rattle.const_pool.specs.declared.refusal.PoolRefusal.TheVariants.{OutOfMemory}
use Rattle.const_pool.specs.declared.entry.Tag.{Tag}
use Rattle.const_pool.specs.declared.entry.Entry.{Entry}
use Rattle.const_pool.specs.Entry.{is_wide, tag_of, entry_bytes}
use Rattle.const_pool.specs.Pool.{Slots, slots_of, AreSlots, entry_at, is_tagged, Names, references_in, Refers, slot_bytes}
use Rattle.const_pool.specs.Reading.{entry_from, slots_from, counted_slots, first_wrong, or_else, with_index, wrong_from}
use Rattle.const_pool.proofs.Entries.{HasRoom, entry_room, entry_takes, entry_again}

-- ---- the loop over entries

nothing_before : (read : Result (Slots × Place) PoolRefusal) → with_front [] read ≡ read
nothing_before (Ok x) = refl
nothing_before (Err f) = refl

taken_slot : (left count : ℕ) (file : Place)
    → slots_from true (suc left) count file ≡ (slots_from false left count file >>= λ x. Ok (None ∷ x.0, x.1))
unfolding slots_from
taken_slot left count file = refl

free_slot : (left count : ℕ) (file : Place)
    → slots_from false (suc left) count file ≡
    (entry_from (count - suc left) count file >>= λ first. slots_from (is_wide (tag_of first.0)) left count first.1 >>=
    λ others. Ok (Some first.0 ∷ others.0, others.1))
unfolding slots_from
free_slot left count file = refl

no_slots : (taken : Bool) (count : ℕ) (file : Place) → slots_from taken 0 count file ≡ Ok ([], file)
unfolding slots_from
no_slots taken count file = refl

-- after an entry that takes one slot or two
after_entry : (wide : Bool) (front : Slots) (e : Entry) (count i left : ℕ) (after : Place)
    → is_wide (tag_of e) ≡ wide → left + i + 1 ≡ count → (wide ≡ true → left ≢ 0)
    → with_front (front ++ Some e ∷ []) (slots_from wide left count after) ≡ with_front (front ++ slots_of e) (slots_from false (count - (i + length (slots_of e))) count after)
after_entry false front e count i left after narrow k room =
    let slots : slots_of e ≡ Some e ∷ [] = rw narrow refl in
    let rest : left ≡ count - (i + 1) = omega arith in
    rw (slots, rest) refl
after_entry true front e count i zero after wide k room = absurd (room refl refl)
after_entry true front e count i (suc left) after wide k room =
    let slots : slots_of e ≡ Some e ∷ None ∷ [] = rw wide refl in
    let rest : left ≡ count - (i + 2) = omega arith in
    let unfolds : slots_from true (suc left) count after ≡ (slots_from false left count after >>= λ x. Ok (None ∷ x.0, x.1)) = taken_slot left count after in
    let joined : (front ++ Some e ∷ []) ++ None ∷ [] ≡ front ++ Some e ∷ None ∷ [] = append_assoc front (Some e ∷ []) (None ∷ []) in
    ap (with_front (front ++ Some e ∷ [])) unfolds ∙ regroup (front ++ Some e ∷ []) None (slots_from false left count after)
    ∙ ap (λ (f : Slots). with_front f (slots_from false left count after)) joined
    ∙ ap (λ (k : ℕ). with_front (front ++ Some e ∷ None ∷ []) (slots_from false k count after)) rest
    ∙ ap (λ (s : Slots). with_front (front ++ s) (slots_from false (count - (i + length s)) count after)) (sym slots)

-- the next entry
pub goes_on : (front : Slots) (count i : ℕ) (file : Place) (e : Entry) (after : Place) (total : Result (Slots × Place) PoolRefusal) → i < count → entry_from i count file ≡ Ok (e, after)
    → with_front front (slots_from false (count - i) count file) ≡ total
    → with_front (front ++ slots_of e) (slots_from false (count - (i + length (slots_of e))) count after) ≡ total
goes_on front count i file e after total lt read so_far =
    let left = count - (i + 1) in
    let k : count - i ≡ suc left = omega arith in
    let index : count - suc left ≡ i = omega arith in
    let first : with_front front (slots_from false (count - i) count file) ≡ with_front front (slots_from (is_wide (tag_of e)) left count after >>= λ others. Ok (Some e ∷ others.0, others.1)) =
    rw k (ap (with_front front) (free_slot left count file ∙ rw (index, read) refl)) in
    let second = regroup front (Some e) (slots_from (is_wide (tag_of e)) left count after) in
    let third = after_entry (is_wide (tag_of e)) front e count i left after refl (omega arith) (λ wide none. entry_room i count file (e, after) read wide (omega arith)) in
    sym (first ∙ second ∙ third) ∙ so_far

pub ends : (e : PoolRefusal) (front : Slots) (count i : ℕ) (file : Place) (total : Result (Slots × Place) PoolRefusal) → i < count
    → (e ≡ OutOfMemory) ⊎ (entry_from i count file ≡ Err e)
    → with_front front (slots_from false (count - i) count file) ≡ total
    → (e ≡ OutOfMemory) ⊎ (total ≡ Err e)
ends e front count i file total lt refused so_far = refused_with OutOfMemory e (entry_from i count file) total refused (λ h.
    let left = count - (i + 1) in
    let k : count - i ≡ suc left = omega arith in
    let index : count - suc left ≡ i = omega arith in
    let failed : slots_from false (suc left) count file ≡ Err e = free_slot left count file ∙ rw (index, h) refl in
    let one : with_front front (slots_from false (count - i) count file) ≡ Err e = rw (k, failed) refl in
    sym so_far ∙ one)

pub is_done : (front : Slots) (count i : ℕ) (file : Place) (total : Result (Slots × Place) PoolRefusal)
    → count ≤ i → with_front front (slots_from false (count - i) count file) ≡ total
    → total ≡ Ok (front, file)
is_done front count i file total le so_far =
    let k : count - i ≡ 0 = omega arith in
    let one : with_front front (slots_from false (count - i) count file) ≡ Ok (front, file) =
    rw k (ap (with_front front) (no_slots false count file) ∙ ap (λ (slots : Slots). done {A = Slots × Place} PoolRefusal (slots, file)) (append-nil front)) in
    sym so_far ∙ one

pub begins : (count : ℕ) (file : Place) → 0 < count
    → with_front (None ∷ []) (slots_from false (count - 1) count file) ≡ counted_slots count file
unfolding counted_slots
begins zero file lt = absurd (omega arith)
begins (suc left) file lt =
    let k : suc left - 1 ≡ left = omega arith in
    rw k (sym (regroup [] None (slots_from false left (suc left) file)) ∙ ap (with_front []) (sym (taken_slot left (suc left) file)) ∙ nothing_before (slots_from true (suc left) (suc left) file))

-- what an entry leaves room for
pub length-slots_of : (count i : ℕ) (file : Place) (e : Entry) (after : Place) → i < count
    → entry_from i count file ≡ Ok (e, after) → (0 < length (slots_of e)) × (i + length (slots_of e) ≤ count)
length-slots_of count i file e after lt read =
    elim (cases_Bool (is_wide (tag_of e))) [
      | inl wide ↦
          let slots : slots_of e ≡ Some e ∷ None ∷ [] = rw wide refl in
          let two : length (slots_of e) ≡ 2 = ap length slots in
          let room : i + 1 ≢ count = entry_room i count file (e, after) read wide in
          (omega arith, omega arith)
      | inr narrow ↦
          let slots : slots_of e ≡ Some e ∷ [] = rw narrow refl in
          let one : length (slots_of e) ≡ 1 = ap length slots in
          (omega arith, omega arith)
    ]

-- ---- both ways

-- slots that were read from the front
pub record IsRead (taken : Bool) (left : ℕ) (file : Place) (x : Slots × Place) : Type 0 where
  pub takes : Takes file (flat_map slot_bytes x.0) x.1
  pub count : length x.0 ≡ left
  pub slots : AreSlots taken x.0

pub slots_take : (taken : Bool) (left count : ℕ) (file : Place) (x : Slots × Place) → IsBytes file.1
    → left ≤ count → (taken ≡ true → left ≢ 0) → slots_from taken left count file ≡ Ok x
    → IsRead taken left file x
slots_take true zero count file x fits le room e = absurd (room refl refl)
slots_take false zero count file x fits le room e =
    subst (λ (y : Slots × Place). IsRead false 0 file y) (ok_is PoolRefusal ([], file) x (sym (no_slots false count file) ∙ e))
    (record { takes = record { parts = refl; moved = omega arith; rest_fits = fits }; count = refl; slots = tt })
slots_take true (suc left) count file x fits le room e =
    let a = bind_ok (slots_from false left count file) (λ others. Ok (None ∷ others.0, others.1)) x (sym (taken_slot left count file) ∙ e) in
    let r = slots_take false left count file a.0 fits (omega arith) (λ no. absurd cc) a.1 in
    let made : Slots × Place = (None ∷ a.0.0, a.0.1) in
    subst (λ (y : Slots × Place). IsRead true (suc left) file y) (ok_is PoolRefusal made x a.2) (record { takes = r.takes; count = ap suc r.count; slots = r.slots })
slots_take false (suc left) count file x fits le room e =
    let a = bind_ok (entry_from (count - suc left) count file)
    (λ first. slots_from (is_wide (tag_of first.0)) left count first.1 >>= λ others. Ok
    (Some first.0 ∷ others.0, others.1)) x (sym (free_slot left count file) ∙ e) in
    let b = bind_ok (slots_from (is_wide (tag_of a.0.0)) left count a.0.1) (λ others. Ok (Some a.0.0 ∷ others.0, others.1)) x a.2 in
    let first = entry_takes (count - suc left) count file a.0 fits a.1 in
    let r = slots_take (is_wide (tag_of a.0.0)) left count a.0.1 b.0 first.takes.rest_fits (omega arith) (λ wide none. entry_room (count - suc left) count file a.0 a.1 wide (omega arith)) b.1 in
    let made : Slots × Place = (Some a.0.0 ∷ b.0.0, b.0.1) in
    let both = Takes-then file (entry_bytes a.0.0) a.0.1 (flat_map slot_bytes b.0.0) b.0.1 first.takes r.takes in
    subst (λ (y : Slots × Place). IsRead false (suc left) file y) (ok_is PoolRefusal made x b.2)
    (record { takes = rw (flat_map-cons slot_bytes (Some a.0.0) b.0.0) both; count = ap suc r.count; slots = (first.fits, r.slots) })

not_empty : (slots : Slots) → AreSlots true slots → length slots ≢ 0
not_empty [] are none = are
not_empty (slot ∷ slots) are none = absurd (omega arith)

pub slots_again : (slots : Slots) (taken : Bool) (count at : ℕ) (rest : List ℕ) → AreSlots taken slots
    → length slots ≤ count
    → slots_from taken (length slots) count (at, flat_map slot_bytes slots ++ rest) ≡ Ok (slots, (at + length (flat_map slot_bytes slots), rest))
slots_again [] true count at rest are le = absurd are
slots_again [] false count at rest are le = no_slots false count (at, rest) ∙ same_place {A = Slots} PoolRefusal [] _ _ rest (omega arith)
slots_again (None ∷ slots) false count at rest are le = absurd are
slots_again (Some e ∷ slots) true count at rest are le = absurd are
slots_again (None ∷ slots) true count at rest are le =
    let again = slots_again slots false count at rest are (omega arith) in
    taken_slot (length slots) count (at, flat_map slot_bytes slots ++ rest) ∙ rw again refl
slots_again (Some e ∷ slots) false count at rest are le =
    let left = length slots in
    let index : ℕ = count - suc left in
    let room : HasRoom index count (tag_of e) = λ wide last.
    let none : left ≡ 0 = omega arith in
    absurd (not_empty slots (subst (λ (b : Bool). AreSlots b slots) wide are.1) none) in
    let text : flat_map slot_bytes (Some e ∷ slots) ++ rest ≡ entry_bytes e ++ (flat_map slot_bytes slots ++ rest) =
    ap (λ (t : List ℕ). t ++ rest) (flat_map-cons slot_bytes (Some e) slots) ∙ append_assoc (entry_bytes e) (flat_map slot_bytes slots) rest in
    let first = entry_again index count at e (flat_map slot_bytes slots ++ rest) are.0 room in
    let others = slots_again slots (is_wide (tag_of e)) count (at + length (entry_bytes e)) rest are.1 (omega arith) in
    let len : length (flat_map slot_bytes (Some e ∷ slots)) ≡ length (entry_bytes e) + length (flat_map slot_bytes slots) =
    ap length (flat_map-cons slot_bytes (Some e) slots) ∙ length-append (entry_bytes e) (flat_map slot_bytes slots) in
    let moved : at + length (entry_bytes e) + length (flat_map slot_bytes slots) ≡ at + length (flat_map slot_bytes (Some e ∷ slots)) = omega arith in
    ap (λ (t : List ℕ). slots_from false (suc left) count (at, t)) text
    ∙ free_slot left count (at, entry_bytes e ++ (flat_map slot_bytes slots ++ rest))
    ∙ rw (first, others) (same_place {A = Slots} PoolRefusal (Some e ∷ slots) _ _ rest moved)

-- ---- references

wrong_or : {A : Type 0} (first second : Option A) → or_else first second ≡ None
    → (first ≡ None) × (second ≡ None)
wrong_or None second e = (refl, e)
wrong_or (Some x) second e = absurd cc

with_none : (index : ℕ) (o : Option ℕ) → with_index index o ≡ None → o ≡ None
with_none index None e = refl
with_none index (Some x) e = absurd cc

names_all : (slots : Slots) (rs : List (ℕ × Tag)) → first_wrong slots rs ≡ None
    → AllByRecursion (Names slots) rs
names_all slots [] e = tt
names_all slots (r ∷ rs) e =
    elim (cases_Bool (is_tagged (entry_at slots r.0) r.1)) [
      | inl named ↦ (named, names_all slots rs (rw named at e))
      | inr wrong ↦ let h = rw wrong at e in absurd cc
    ]

names_none : (slots : Slots) (rs : List (ℕ × Tag)) → AllByRecursion (Names slots) rs
    → first_wrong slots rs ≡ None
names_none slots [] all = refl
names_none slots (r ∷ rs) all = rw all.0 (names_none slots rs all.1)

pub refers_all : (all : Slots) (index : ℕ) (slots : Slots) → wrong_from all index slots ≡ None
    → AllByRecursion (Refers all) slots
unfolding wrong_from
refers_all all index [] e = tt
refers_all all index (slot ∷ slots) e =
    let parts = wrong_or (with_index index (first_wrong all (references_in slot))) (wrong_from all (index + 1) slots) e in
    (names_all all (references_in slot) (with_none index (first_wrong all (references_in slot)) parts.0), refers_all all (index + 1) slots parts.1)

pub refers_none : (all : Slots) (index : ℕ) (slots : Slots) → AllByRecursion (Refers all) slots
    → wrong_from all index slots ≡ None
unfolding wrong_from
refers_none all index [] named = refl
refers_none all index (slot ∷ slots) named = rw (names_none all (references_in slot) named.0, refers_none all (index + 1) slots named.1) refl

-- one slot of the walk over references
wrong_here : (slots : Slots) (i : ℕ) (slot : Option Entry) → i < length slots → slot ≡ get_or slots i slot
    → wrong_from slots i (drop i slots) ≡ or_else (with_index i (first_wrong slots (references_in slot))) (wrong_from slots (i + 1) (drop (i + 1) slots))
unfolding wrong_from
wrong_here slots i slot lt is =
    at_drop_more (wrong_from slots i) slots i slot lt
    ∙ ap (λ (s : Option Entry). or_else (with_index i (first_wrong slots (references_in s))) (wrong_from slots (i + 1) (drop (i + 1) slots))) (sym is)

pub wrong_passes : (slots : Slots) (i : ℕ) (slot : Option Entry) → i < length slots
    → slot ≡ get_or slots i slot → None ≡ first_wrong slots (references_in slot)
    → wrong_from slots i (drop i slots) ≡ wrong_from slots (i + 1) (drop (i + 1) slots)
wrong_passes slots i slot lt is none = wrong_here slots i slot lt is ∙ rw (← none) refl

pub wrong_stops : (slots : Slots) (i : ℕ) (slot : Option Entry) (wrong : ℕ) → i < length slots
    → slot ≡ get_or slots i slot → Some wrong ≡ first_wrong slots (references_in slot)
    → wrong_from slots i (drop i slots) ≡ Some (i, wrong)
wrong_stops slots i slot wrong lt is some = wrong_here slots i slot lt is ∙ rw (← some) refl

pub wrong_ends : (slots : Slots) (i : ℕ) → length slots ≤ i → wrong_from slots i (drop i slots) ≡ None
unfolding wrong_from
wrong_ends slots i le = at_drop_all (wrong_from slots i) slots i le
