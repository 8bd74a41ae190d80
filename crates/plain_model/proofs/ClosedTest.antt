-- A test of whether all that durable places refer to is durable.
use Rattle.std.proofs.Common.{◌≡◌, ℕ, zero, suc, ◌<◌, Bool, true, false, List, [], ◌∷◌, nat_eq, ◌||◌, ◌&&◌, refl, length, arith}
use Rattle.std.proofs.Common.{subst}
use Rattle.std.specs.Prelude.{Option, Some, None, slice_get, slice_index_or}
use Rattle.std.proofs.lemmas.Bool.{eqb-true}
use Rattle.graph_model.specs.declared.types.Value.{Value}
use Rattle.graph_model.specs.declared.types.Value.TheVariants.{Obj as Object}
use Rattle.graph_model.specs.declared.types.Root.{Root}
use Rattle.graph_model.specs.declared.types.Heap.{Heap}
use Rattle.graph_model.specs.Heaps.{has_number, values_of}
use Rattle.run_history.specs.Knowing.{Knowledge, is_root}
use Rattle.run_history.specs.Wanted.{IsClosed}

-- whether the value is no object, or a durable one
abbrev is_kept : List ℕ → Value → Bool
is_kept durable (Object n) = has_number durable n
is_kept durable value = true

abbrev are_kept : List ℕ → List Value → Bool
are_kept durable [] = true
are_kept durable (value ∷ values) = is_kept durable value && are_kept durable values

abbrev slots_are_kept : Heap → List ℕ → List ℕ → Bool
slots_are_kept heap durable [] = true
slots_are_kept heap durable (m ∷ ms) = are_kept durable (values_of heap m) && slots_are_kept heap durable ms

abbrev static_is_kept : List ℕ → Option Value → Bool
static_is_kept durable None = true
static_is_kept durable (Some value) = is_kept durable value

abbrev roots_are_kept : List Value → List ℕ → List Root → Bool
roots_are_kept statics durable [] = true
roots_are_kept statics durable (r ∷ rs) = static_is_kept durable (slice_get statics r.at) && roots_are_kept statics durable rs

abbrev pub is_closed : Knowledge → Bool
is_closed known =
    slots_are_kept known.world.heap known.durable known.durable
    && roots_are_kept known.world.heap.statics known.durable known.world.heap.roots

both : (a b : Bool) → (a && b) ≡ true → (a ≡ true) × (b ≡ true)
both true b is = (refl, is)
both false b is = absurd (let no : false ≡ true = is in cc)

kept_value : (durable : List ℕ) (value : Value) (n : ℕ) → is_kept durable value ≡ true → value ≡ Object n → has_number durable n ≡ true
kept_value durable value n kept is = let P : Value → Type 0 = λ v. is_kept durable v ≡ true in subst P is kept

kept_at : (durable : List ℕ) (values : List Value) (k n : ℕ) → are_kept durable values ≡ true → k < length values
    → slice_index_or values k (Object n) ≡ Object n → has_number durable n ≡ true
kept_at durable [] k n kept within is = absurd (omega (arith, within))
kept_at durable (v ∷ vs) zero n kept within is = kept_value durable v n (both (is_kept durable v) (are_kept durable vs) kept).0 is
kept_at durable (v ∷ vs) (suc k) n kept within is =
    kept_at durable vs k n (both (is_kept durable v) (are_kept durable vs) kept).1 (omega (arith, within)) is

kept_slots : (heap : Heap) (durable ms : List ℕ) (m : ℕ) → slots_are_kept heap durable ms ≡ true → has_number ms m ≡ true
    → are_kept durable (values_of heap m) ≡ true
kept_slots heap durable [] m kept has = absurd (let no : false ≡ true = has in cc)
kept_slots heap durable (x ∷ ms) m kept has =
    let (here, rest) = both (are_kept durable (values_of heap x)) (slots_are_kept heap durable ms) kept in
    elim (nat_eq x m) as (λ b. nat_eq x m ≡ b → (b || has_number ms m) ≡ true → are_kept durable (values_of heap m) ≡ true) [
      | true ↦ λ same h. rw (← eqb-true x m same) here
      | false ↦ λ other h. kept_slots heap durable ms m rest h
    ] refl has

kept_roots : (statics : List Value) (durable : List ℕ) (roots : List Root) (k n : ℕ) → roots_are_kept statics durable roots ≡ true
    → is_root roots k ≡ true → slice_get statics k ≡ Some (Object n) → has_number durable n ≡ true
kept_roots statics durable [] k n kept root at = absurd (let no : false ≡ true = root in cc)
kept_roots statics durable (r ∷ rs) k n kept root at =
    let (here, rest) = both (static_is_kept durable (slice_get statics r.at)) (roots_are_kept statics durable rs) kept in
    elim (nat_eq r.at k) as (λ b. nat_eq r.at k ≡ b → (b || is_root rs k) ≡ true → has_number durable n ≡ true) [
      | true ↦ λ same h. let there : slice_get statics r.at ≡ Some (Object n) = rw (eqb-true r.at k same) at in rw there at here
      | false ↦ λ other h. kept_roots statics durable rs k n rest h at
    ] refl root

-- what passes the test is closed
pub closed_by_test : (known : Knowledge) → is_closed known ≡ true → IsClosed known
closed_by_test known closed =
    let heap = known.world.heap in
    let (slots, roots) = both (slots_are_kept heap known.durable known.durable) (roots_are_kept heap.statics known.durable heap.roots) closed in
    record {
      objects = λ m n durable refers. kept_at known.durable (values_of heap m) refers.0 n (kept_slots heap known.durable known.durable m slots durable) refers.1 refers.2;
      roots = λ k n root at. kept_roots heap.statics known.durable heap.roots k n roots root at;
    }
