-- Laws of what the words show.
use Rattle.std.proofs.Common.{◌≡◌, ℕ, ◌+◌, true, false, Bool, nat_eq, List, Option, Some, None, slice_get, refl, ap, ◌∙◌, sym}
use Rattle.std.proofs.Common.{rules, if◌then◌else◌}
use Rattle.ap_base.specs.declared.reference.Ref.TheVariants.{Null as NoRef, Persistent, Volatile}
use Rattle.graph_model.specs.declared.types.Shape.{Shape}
use Rattle.shared_objects.specs.Shown.{HasOneKey}
use Rattle.ap_base.specs.declared.reference.Item.{Item}
use Rattle.one_space.specs.Layout.{full_shown, shown_by, number_in, number_if, word_at}

pub none_is_not : {n : ℕ} {A : Type 0} → None ≡ Some n → A
none_is_not e = cc

some_or : ℕ → Option ℕ → ℕ
some_or d None = d
some_or d (Some n) = n

pub some_same : {m n : ℕ} → Some m ≡ Some n → m ≡ n
unfolding some_or
some_same e = ap (some_or 0) e

begins_at : (index m n start : ℕ) (b : Bool) → nat_eq start index ≡ b → (if b then Some m else None) ≡ Some n
    → (m ≡ n) × (Some start ≡ Some index)
begins_at index m n start true is e =
    let s : start ≡ index = search (rules, is) in
    (some_same e, ap Some s)
begins_at index m n start false is e = none_is_not e

begins_if : (index m n : ℕ) (o : Option ℕ) → number_if index m o ≡ Some n → (m ≡ n) × (o ≡ Some index)
begins_if index m n None e = none_is_not e
begins_if index m n (Some start) e = begins_at index m n start (nat_eq start index) refl e

-- where a reference has a number, an object with that number begins there
pub begins : (words starts : List ℕ) (index n : ℕ) → number_in words starts (Volatile index) ≡ Some n
    → (word_at words (index + 2) ≡ n) × (slice_get starts n ≡ Some index)
begins words starts index n e =
    let both = begins_if index (word_at words (index + 2)) n (slice_get starts (word_at words (index + 2))) e
    in
    (both.0, sym (ap (slice_get starts) both.0) ∙ both.1)

pub one_key_each : (shapes : List Shape) (words starts : List ℕ) → HasOneKey (shown_by shapes words starts)
one_key_each shapes words starts NoRef b n ka kb ea eb = none_is_not ea
one_key_each shapes words starts (Persistent line) b n ka kb ea eb = none_is_not ea
one_key_each shapes words starts (Volatile index) NoRef n ka kb ea eb = none_is_not eb
one_key_each shapes words starts (Volatile index) (Persistent line) n ka kb ea eb = none_is_not eb
one_key_each shapes words starts (Volatile index) (Volatile other) n ka kb ea eb =
    ap Volatile (some_same (sym (begins words starts index n ea).1 ∙ (begins words starts other n eb).1))

pub one_key_shown : (shapes : List Shape) (words starts : List ℕ) (statics : List Item) (left : ℕ)
    → HasOneKey (full_shown shapes words starts statics left)
one_key_shown shapes words starts statics left = one_key_each shapes words starts
