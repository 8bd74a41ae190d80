-- Found objects, and their places among others that are found later.
use Rattle.std.proofs.Common.{◌≡◌, ℕ, suc, ◌<◌, ◌≤◌, ◌^◌, Bool, true, false, List, [], ◌∷◌, ◌++◌, Option, Some, None, refl, ap}
use Rattle.std.proofs.Common.{sym, length, map, slice_set, replicate, if◌then◌else◌, nat_eq, ◌||◌, arith, true≢false}
use Rattle.std.specs.Prelude.{Contains}
use Rattle.std.specs.Option.{unwrap_or}
use Rattle.std.proofs.lemmas.List.Elements.{All-nil, All-push}
use Rattle.graph_model.specs.declared.types.Value.{Value}
use Rattle.graph_model.specs.declared.types.Value.TheVariants.{Int, Long, Null, Obj as Object}
use Rattle.graph_model.specs.Heaps.{has_number}
use Rattle.graph_model.specs.Canon.{place_in, with_new, renumbered}
use Rattle.graph_model.specs.Found.{place_of, IsNumbered}
use Rattle.graph_model.proofs.Numbers.{with_new-has}
use Rattle.graph_model.proofs.Placed.{IsPlaced-none, IsPlaced-push, few_found, found_place}
use Rattle.image_layout.specs.Places.{first_object_line}
use Rattle.image_walk.specs.Placed.{IsPlacedLow}

pub placed_none : (n : ℕ) → n < 2 ^ 32 → IsPlacedLow [] (replicate n None)
placed_none n h = record { placed = IsPlaced-none n h; low = All-nil (λ line. first_object_line ≤ line) }

pub placed_push : (found : List ℕ) (places : List (Option ℕ)) (line : ℕ) → IsPlacedLow found places → line < length places
    → first_object_line ≤ line → has_number found line ≡ false
    → IsPlacedLow (found ++ line ∷ []) (slice_set places line (Some (length found)))
placed_push found places line so below low new = record {
  placed = IsPlaced-push found places line so.placed below new;
  low = All-push (λ l. first_object_line ≤ l) found line so.low low;
}

-- what isn't found has the place behind all
pub place_of_other : (found : List ℕ) (n : ℕ) → has_number found n ≡ false → place_in found n ≡ length found
place_of_other [] n none = refl
place_of_other (m ∷ ms) n none =
    elim (nat_eq m n) as (λ b. (b || has_number ms n) ≡ false → (if b then 0 else suc (place_in ms n)) ≡ suc (length ms)) [
      | true ↦ λ e. absurd (true≢false e)
      | false ↦ λ e. ap (λ k. suc k) (place_of_other ms n e)
    ] none

-- a place stays as it is when more is found
place_stays : (found more : List ℕ) (n : ℕ) → has_number found n ≡ true → place_in (found ++ more) n ≡ place_in found n
place_stays [] more n has = absurd (true≢false (sym has))
place_stays (m ∷ ms) more n has =
    elim (nat_eq m n) as (λ b. (b || has_number ms n) ≡ true
    → (if b then 0 else suc (place_in (ms ++ more) n)) ≡ (if b then 0 else suc (place_in ms n))) [
      | true ↦ λ e. refl
      | false ↦ λ e. ap (λ k. suc k) (place_stays ms more n e)
    ] has

number_stays : (found more : List ℕ) (value : Value) → IsNumbered found value → renumbered (found ++ more) value ≡ renumbered found value
number_stays found more (Int i) has = refl
number_stays found more (Long i) has = refl
number_stays found more Null has = refl
number_stays found more (Object n) has = ap (λ k. Object k) (place_stays found more n has)

numbers_stay : (found more : List ℕ) (values : List Value) → ((m : ℕ) → Contains values (Object m) → has_number found m ≡ true)
    → map (renumbered (found ++ more)) values ≡ map (renumbered found) values
numbers_stay found more [] has = refl
numbers_stay found more (value ∷ values) has =
    rw (number_stays found more value (first value refl), numbers_stay found more values (λ m c. has m (suc c.0, omega (arith, c.1), c.2))) refl
  where
    first : (v : Value) → v ≡ value → IsNumbered found v
    first (Int i) e = tt
    first (Long i) e = tt
    first Null e = tt
    first (Object n) e = has n (0, omega arith, sym e)

-- the values to which all that they name is found keep their numbers
pub found_numbers_stay : (found more : List ℕ) (values : List Value)
    → map (renumbered (with_new found values ++ more)) values ≡ map (renumbered (with_new found values)) values
found_numbers_stay found more values = numbers_stay (with_new found values) more values (λ m c. with_new-has found values m c)

-- a found object's place is below the number of lines
pub some_few : (found : List ℕ) (places : List (Option ℕ)) (place : ℕ) → IsPlacedLow found places → place < length found
    → place < length places
some_few found places place so within =
    let few = few_found found places so.placed in
    omega (arith, within, few)

-- what isn't among the lines isn't found
pub past_all : (found : List ℕ) (places : List (Option ℕ)) (line : ℕ) → IsPlacedLow found places → length places ≤ line
    → place_in found line ≡ length found
past_all found places line so past = place_of_other found line (none_past (has_number found line) refl)
  where
    none_past : (b : Bool) → has_number found line ≡ b → b ≡ false
    none_past false e = refl
    none_past true e = absurd (let p = found_place found places line so.placed e in omega (arith, p.0, past))

-- the place of a line, or the end where it has none
pub place_or_end : (found : List ℕ) (line : ℕ) (o : Option ℕ) → o ≡ place_of found line → unwrap_or o (length found) ≡ place_in found line
place_or_end found line o is = rw is (chosen (has_number found line) refl)
  where
    chosen : (b : Bool) → has_number found line ≡ b → unwrap_or (if b then Some (place_in found line) else None) (length found) ≡ place_in found line
    chosen true e = refl
    chosen false e = sym (place_of_other found line e)
