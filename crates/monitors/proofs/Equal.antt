-- Keys that are the same.
use Rattle.std.proofs.Common.{◌≡◌, true, false, refl, ap, ◌∙◌, sym, eq-eqb, subst}
use Rattle.std.proofs.lemmas.Bool.{eqb-true, false≢true, false_from_ne_true}
use Rattle.ap_base.specs.declared.reference.Ref.{Ref}
use Rattle.ap_base.specs.declared.reference.Ref.TheVariants.{Null, Persistent, Volatile}
use Rattle.run_types.specs.declared.key.Key.TheVariants.{Object, Class}
use Rattle.monitors.specs.Keys.{RefKey, is_ref, is_key}

ref_same : (a b : Ref) → is_ref a b ≡ true → a ≡ b
ref_same Null Null e = refl
ref_same Null (Persistent n) e = absurd (false≢true e)
ref_same Null (Volatile n) e = absurd (false≢true e)
ref_same (Persistent m) Null e = absurd (false≢true e)
ref_same (Persistent m) (Persistent n) e = ap Persistent (eqb-true m n e)
ref_same (Persistent m) (Volatile n) e = absurd (false≢true e)
ref_same (Volatile m) Null e = absurd (false≢true e)
ref_same (Volatile m) (Persistent n) e = absurd (false≢true e)
ref_same (Volatile m) (Volatile n) e = ap Volatile (eqb-true m n e)

pub key_same : (a b : RefKey) → is_key a b ≡ true → a ≡ b
key_same (Object r) (Object s) e = ap Object (ref_same r s e)
key_same (Object r) (Class n) e = absurd (false≢true e)
key_same (Class m) (Object s) e = absurd (false≢true e)
key_same (Class m) (Class n) e = ap Class (eqb-true m n e)

ref_is : (a : Ref) → is_ref a a ≡ true
ref_is Null = refl
ref_is (Persistent n) = eq-eqb n n refl
ref_is (Volatile n) = eq-eqb n n refl

pub key_is : (a : RefKey) → is_key a a ≡ true
key_is (Object r) = ref_is r
key_is (Class n) = eq-eqb n n refl

pub other_way : (a b : RefKey) → is_key a b ≡ false → is_key b a ≡ false
other_way a b d = false_from_ne_true (is_key b a) (λ e. false≢true (sym d ∙ subst (λ (k : RefKey). is_key a k ≡ true) (sym (key_same b a e)) (key_is a)))
