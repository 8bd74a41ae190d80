-- Laws of what a heap shows.
use Rattle.std.proofs.Common.{◌≡◌, ℕ, Bool, true, false, nat_lt, List, length, Option, Some, None, refl, ap, sym, ◌∙◌}
use Rattle.std.proofs.Common.{if◌then◌else◌}
use Rattle.ap_base.specs.declared.reference.Ref.TheVariants.{Null, Persistent, Volatile}
use Rattle.graph_model.specs.declared.types.Value.{Value}
use Rattle.graph_model.specs.declared.types.Obj.{Obj}
use Rattle.graph_model.specs.declared.types.Shape.{Shape}
use Rattle.shared_objects.specs.Shown.{HasOneKey}
use Rattle.plain_heap.specs.Shows.{number_in, shown_with}

pub none_is_not : {n : ℕ} {A : Type 0} → None ≡ Some n → A
none_is_not e = cc

some_or : ℕ → Option ℕ → ℕ
some_or d None = d
some_or d (Some n) = n

pub some_same : {m n : ℕ} → Some m ≡ Some n → m ≡ n
unfolding some_or
some_same e = ap (some_or 0) e

tested : (n m : ℕ) (b : Bool) → (if b then Some n else None) ≡ Some m → (n ≡ m) × (b ≡ true)
tested n m true e = (some_same e, refl)
tested n m false e = none_is_not e

-- what has a number has its own
pub number_is : (count n m : ℕ) → number_in count (Volatile n) ≡ Some m → (n ≡ m) × (nat_lt n count ≡ true)
number_is count n m e = tested n m (nat_lt n count) e

pub one_key_in : (shapes : List Shape) (objects : List Obj) (statics : List Value) (left : ℕ)
    → HasOneKey (shown_with shapes objects statics left)
one_key_in shapes objects statics left Null b n ka kb ea eb = none_is_not ea
one_key_in shapes objects statics left (Persistent line) b n ka kb ea eb = none_is_not ea
one_key_in shapes objects statics left (Volatile i) Null n ka kb ea eb = none_is_not eb
one_key_in shapes objects statics left (Volatile i) (Persistent line) n ka kb ea eb = none_is_not eb
one_key_in shapes objects statics left (Volatile i) (Volatile j) n ka kb ea eb =
    ap Volatile ((number_is (length objects) i n ea).0 ∙ sym (number_is (length objects) j n eb).0)
