-- A pool that is read is spelled so, and a pool that is spelled is read again.
use Rattle.std.proofs.Common.{◌≡◌, ℕ, zero, suc, ◌+◌, true, List, [], ◌∷◌, ◌++◌, length, drop, Result, Ok, Err, refl, sym, ap}
use Rattle.std.proofs.Common.{subst, ◌∙◌, append_assoc, arith}
use Rattle.std.specs.Prelude.{IfOk}
use Rattle.std.specs.List.{flat_map}
use Rattle.std.proofs.lemmas.List.{drop-drop, drop_at}
use Rattle.byteorder.specs.Endian.{big_bytes}
use Rattle.parsing.specs.Results.{◌>>=◌, unless_found}
use Rattle.parsing.specs.Places.{Place}
use Rattle.parsing.specs.Bytes.{IsBytes}
use Rattle.parsing.proofs.Steps.{done, bind_ok, ok_is, none_found}
use Rattle.parsing.proofs.Numbers.{IsBytes-drop}
use Rattle.parsing.proofs.Fields.{Takes, Takes-then}
use Rattle.const_pool.specs.declared.refusal.PoolRefusal.{PoolRefusal}
use Rattle.const_pool.specs.declared.refusal.PoolRefusal.TheVariants.{BadIndex}
use Rattle.const_pool.specs.Pool.{Slots, AreSlots, IsPool, slot_bytes, spelling}
use Rattle.const_pool.specs.Reading.{Gives, number_from, counted_slots, wrong_from, pool_in}
use Rattle.const_pool.proofs.Fields.{number_takes, number_from-again}
use Rattle.const_pool.proofs.Slots.{IsRead, slots_take, slots_again, refers_all, refers_none}

-- a pool stands at byte 8 of a file, up to an offset
pub record StandsIn (bytes : List ℕ) (x : Slots × ℕ) : Type 0 where
  pub pool : IsPool x.0
  pub parts : drop 8 bytes ≡ spelling x.0 ++ drop x.1 bytes
  pub ends : x.1 ≡ 8 + length (spelling x.0)

counted_take : (count : ℕ) (file : Place) (x : Slots × Place) → IsBytes file.1
    → counted_slots count file ≡ Ok x → IsRead true count file x
unfolding counted_slots
counted_take zero file x fits e = absurd cc
counted_take (suc left) file x fits e = slots_take true (suc left) (suc left) file x fits (omega arith) (λ taken none. absurd (omega arith)) e

pub pool_stands : (bytes : List ℕ) (x : Slots × ℕ) → IsBytes bytes → pool_in bytes ≡ Ok x → StandsIn bytes x
unfolding pool_in
pool_stands bytes x fits e =
    let start : Place = (8, drop 8 bytes) in
    let a = bind_ok (number_from 2 start)
    (λ count. counted_slots count.0 count.1 >>= λ slots. unless_found (wrong_from slots.0 0 slots.0)
    (λ w. BadIndex w.0 w.1) >>= λ good. Ok (slots.0, slots.1.0)) x e in
    let b = bind_ok (counted_slots a.0.0 a.0.1) (λ slots. unless_found (wrong_from slots.0 0 slots.0) (λ w. BadIndex w.0 w.1) >>= λ good. Ok (slots.0, slots.1.0)) x a.2 in
    let c = bind_ok (unless_found (wrong_from b.0.0 0 b.0.0) (λ w. BadIndex w.0 w.1)) (λ good. Ok (b.0.0, b.0.1.0)) x b.2 in
    let t = number_takes 2 start a.0 (IsBytes-drop 8 bytes fits) a.1 in
    let r = counted_take a.0.0 a.0.1 b.0 t.0.rest_fits b.1 in
    let named = refers_all b.0.0 0 b.0.0 (none_found (wrong_from b.0.0 0 b.0.0) (λ w. BadIndex w.0 w.1) c.0 c.1) in
    let both = Takes-then start (big_bytes 2 a.0.0) a.0.1 (flat_map slot_bytes b.0.0) b.0.1 t.0 r.takes in
    let whole : Takes start (spelling b.0.0) b.0.1 = subst (λ (k : ℕ). Takes start (big_bytes 2 k ++ flat_map slot_bytes b.0.0) b.0.1) (sym r.count) both in
    let after : drop b.0.1.0 bytes ≡ b.0.1.1 =
    ap (λ (k : ℕ). drop k bytes) whole.moved
    ∙ sym (drop-drop (length (spelling b.0.0)) 8 bytes)
    ∙ ap (drop (length (spelling b.0.0))) whole.parts
    ∙ drop_at (spelling b.0.0) b.0.1.1 (length (spelling b.0.0)) refl in
    let stands : StandsIn bytes (b.0.0, b.0.1.0) = record {
      pool = record { count = omega (arith, t.1, r.count); slots = r.slots; named = named };
      parts = whole.parts ∙ ap (λ (rest : List ℕ). spelling b.0.0 ++ rest) (sym after);
      ends = whole.moved;
    } in
    subst (λ (y : Slots × ℕ). StandsIn bytes y) (ok_is PoolRefusal (b.0.0, b.0.1.0) x c.2) stands

counted_again : (pool : Slots) (at : ℕ) (rest : List ℕ) → AreSlots true pool
    → counted_slots (length pool) (at, flat_map slot_bytes pool ++ rest) ≡ Ok (pool, (at + length (flat_map slot_bytes pool), rest))
unfolding counted_slots
counted_again [] at rest are = absurd are
counted_again (slot ∷ slots) at rest are = slots_again (slot ∷ slots) true (suc (length slots)) at rest are (omega arith)

pub pool_again : (bytes rest : List ℕ) (pool : Slots) → IsPool pool → drop 8 bytes ≡ spelling pool ++ rest
    → pool_in bytes ≡ Ok (pool, 8 + length (spelling pool))
unfolding pool_in
pool_again bytes rest pool is e =
    let text : drop 8 bytes ≡ big_bytes 2 (length pool) ++ (flat_map slot_bytes pool ++ rest) = e ∙ append_assoc (big_bytes 2 (length pool)) (flat_map slot_bytes pool) rest in
    let first : number_from 2 (8, drop 8 bytes) ≡ Ok (length pool, (10, flat_map slot_bytes pool ++ rest)) =
    ap (λ (t : List ℕ). number_from 2 (8, t)) text ∙ number_from-again 2 8 (length pool) (flat_map slot_bytes pool ++ rest) is.count in
    let second = counted_again pool 10 rest is.slots in
    let ends : 10 + length (flat_map slot_bytes pool) ≡ 8 + length (spelling pool) = omega arith in
    rw (first, second, refers_none pool 0 pool is.named) (ap (λ (k : ℕ). done {A = Slots × ℕ} PoolRefusal (pool, k)) ends)

pub read_stands : (bytes : List ℕ) (r : Result (Slots × ℕ) PoolRefusal) → IsBytes bytes
    → Gives (λ x. x) r (pool_in bytes) → IfOk r (λ x. StandsIn bytes x)
read_stands bytes (Ok x) fits given = pool_stands bytes x fits given
read_stands bytes (Err e) fits given = tt
