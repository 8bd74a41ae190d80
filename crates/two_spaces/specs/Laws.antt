-- What holds of the words of every heap over two spaces.
use Rattle.std.proofs.Common.{◌≡◌, ℕ, true, List, Option, Some, None, refl, ap, ◌∙◌, sym, arith, rules}
use Rattle.ap_base.specs.declared.reference.Ref.{Ref}
use Rattle.ap_base.specs.declared.reference.Ref.TheVariants.{Null as NoRef, Persistent, Volatile}
use Rattle.ap_base.specs.References.{reference_word}
use Rattle.graph_model.specs.declared.types.Shape.{Shape}
use Rattle.one_space.specs.Laws.{none_is_not, some_same}
use Rattle.shared_objects.specs.Shown.{HasOneKey}
use Rattle.twin_forms.specs.Table.{View}
use Rattle.two_spaces.specs.declared.spaces.Static.{Static}
use Rattle.two_spaces.specs.Seen.{told, current_word, number_in, is_key_of, is_key_in, shown_by}

pub null_is_no_object : (v : View) → number_in v NoRef ≡ None
unfolding number_in
null_is_no_object v = refl

key_word : (v : View) (w n : ℕ) (o : Option ℕ) → is_key_of v w o ≡ true → o ≡ Some n
    → current_word (told v n) ≡ w
key_word v w n None key is = none_is_not is
key_word v w n (Some m) key is =
    let same : current_word (told v m) ≡ w = search (rules, key) in
    ap (λ k. current_word (told v k)) (sym (some_same is)) ∙ same

pub key_is_current : (v : View) (r : Ref) (n : ℕ) → is_key_in v r ≡ true → number_in v r ≡ Some n
    → current_word (told v n) ≡ reference_word r
unfolding is_key_in
key_is_current v r n key is = key_word v (reference_word r) n (number_in v r) key is

-- two references of objects with one word are the same
same_reference : (v : View) (a b : Ref) (n : ℕ) → number_in v a ≡ Some n → number_in v b ≡ Some n
    → reference_word a ≡ reference_word b → a ≡ b
same_reference v NoRef b n ea eb same = none_is_not (sym (null_is_no_object v) ∙ ea)
same_reference v (Persistent l) NoRef n ea eb same = none_is_not (sym (null_is_no_object v) ∙ eb)
same_reference v (Persistent l) (Persistent m) n ea eb same =
    let e : l ≡ m = omega (arith, same) in ap Persistent e
same_reference v (Persistent l) (Volatile m) n ea eb same = absurd (omega (arith, same))
same_reference v (Volatile l) NoRef n ea eb same = none_is_not (sym (null_is_no_object v) ∙ eb)
same_reference v (Volatile l) (Persistent m) n ea eb same = absurd (omega (arith, same))
same_reference v (Volatile l) (Volatile m) n ea eb same =
    let e : l ≡ m = omega (arith, same) in ap Volatile e

pub one_key_each : (shapes : List Shape) (classes : List ℕ) (statics : List Static) (v : View)
    → HasOneKey (shown_by shapes classes statics v)
one_key_each shapes classes statics v a b n ka kb ea eb =
    same_reference v a b n ea eb (sym (key_is_current v a n ka ea) ∙ key_is_current v b n kb eb)
