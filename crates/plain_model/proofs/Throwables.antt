-- What requests throw is throwable.
use Rattle.std.proofs.Common.{◌≡◌, ℕ, zero, suc, ◌+◌, ◌<◌, true, refl, ap, sym, subst, length, nat_eq, slice_index_or, arith}
use Rattle.std.proofs.Common.{lit<}
use Rattle.std.specs.Prelude.{Option, Some, None}
use Rattle.std.specs.List.{flat_map}
use Rattle.std.proofs.lemmas.Bool.{eq-eqb, lt-ltb, or_left, or_right}
use Rattle.graph_model.specs.Heaps.{has_number}
use Rattle.plain_model.specs.declared.throws.Throws.{Throws}
use Rattle.plain_model.specs.declared.throws.Throws.TheVariants.{NegativeArraySize, NullPointer, ArrayIndexOutOfBounds}
use Rattle.plain_model.specs.declared.throws.Throws.TheVariants.{StringIndexOutOfBounds, ArrayStore, ClassCast}
use Rattle.plain_model.specs.declared.throws.Throws.TheVariants.{IllegalMonitorState, IllegalThreadState, IllegalState}
use Rattle.plain_model.specs.declared.throws.Throws.TheVariants.{Arithmetic}
use Rattle.plain_model.specs.Classes.{ClassFacts, ArrayType, Objects, no_class}
use Rattle.plain_model.specs.BuiltIn.{built_in_classes, throwable_place}
use Rattle.plain_model.specs.Facts.{SetFacts, built_in_number, class_count, classes_of, class_at, array_at, superclasses_from}
use Rattle.plain_model.specs.Facts.{superclasses_of, interfaces_of, is_subclass, is_sub, is_subtype, dimensions_of}
use Rattle.plain_model.specs.Facts.{innermost_of, thrown_class}
use Rattle.plain_model.specs.Duties.{IsThrowable}
use Rattle.plain_model.proofs.Consistent.{class_of_place, throwables_there}
use Rattle.plain_model.proofs.Durable.{has_number-append_left}

module _ (set : SetFacts) where
  abbrev at : ℕ → ℕ
  at k = built_in_number set k

  -- whether the class is Throwable, or so many superclasses below it
  abbrev IsUnder : ℕ → ℕ → Type 0
  IsUnder more n = has_number (superclasses_from (classes_of set) more n) (at throwable_place) ≡ true

  itself : (more : ℕ) → IsUnder more (at throwable_place)
  itself zero = or_left (nat_eq (at 26) (at 26)) _ (eq-eqb (at 26) (at 26) refl)
  itself (suc more) = or_left (nat_eq (at 26) (at 26)) _ (eq-eqb (at 26) (at 26) refl)

  climbs : (more n super : ℕ) → (class_at set n).superclass ≡ Some super → IsUnder more super
      → IsUnder (suc more) n
  climbs more n super is above =
      rw is (or_right (nat_eq n (at 26))
      (has_number (superclasses_from (classes_of set) more super) (at 26)) above)

  super_is : (k : ℕ) → k < 28
      → (class_at set (at k)).superclass
      ≡ (slice_index_or (built_in_classes (length set.program)) k no_class).superclass
  super_is k below = ap (λ (c : ClassFacts). c.superclass) (class_of_place set k below)

  exception : (more : ℕ) → IsUnder (suc more) (at 9)
  exception more = climbs more (at 9) (at 26) (super_is 9 (lit< tt)) (itself more)

  runtime : (more : ℕ) → IsUnder (suc (suc more)) (at 20)
  runtime more = climbs (suc more) (at 20) (at 9) (super_is 20 (lit< tt)) (exception more)

  abbrev four_more : ℕ → ℕ
  four_more more = suc (suc (suc (suc more)))

  under_runtime : (more k : ℕ) → (class_at set (at k)).superclass ≡ Some (at 20)
      → IsUnder (four_more more) (at k)
  under_runtime more k is = climbs (suc (suc (suc more))) (at k) (at 20) is (runtime (suc more))

  out_of_bounds : (more k : ℕ) → (class_at set (at k)).superclass ≡ Some (at 14)
      → IsUnder (four_more more) (at k)
  out_of_bounds more k is =
      climbs (suc (suc (suc more))) (at k) (at 14) is
      (climbs (suc (suc more)) (at 14) (at 20) (super_is 14 (lit< tt)) (runtime more))

  bad_argument : (more k : ℕ) → (class_at set (at k)).superclass ≡ Some (at 10)
      → IsUnder (four_more more) (at k)
  bad_argument more k is =
      climbs (suc (suc (suc more))) (at k) (at 10) is
      (climbs (suc (suc more)) (at 10) (at 20) (super_is 10 (lit< tt)) (runtime more))

  thrown_under : (more : ℕ) (which : Throws) → IsUnder (four_more more) (thrown_class set which)
  thrown_under more NegativeArraySize = under_runtime more 16 (super_is 16 (lit< tt))
  thrown_under more NullPointer = under_runtime more 17 (super_is 17 (lit< tt))
  thrown_under more ArrayIndexOutOfBounds = out_of_bounds more 4 (super_is 4 (lit< tt))
  thrown_under more StringIndexOutOfBounds = out_of_bounds more 23 (super_is 23 (lit< tt))
  thrown_under more ArrayStore = under_runtime more 5 (super_is 5 (lit< tt))
  thrown_under more ClassCast = under_runtime more 6 (super_is 6 (lit< tt))
  thrown_under more IllegalMonitorState = under_runtime more 11 (super_is 11 (lit< tt))
  thrown_under more IllegalThreadState = bad_argument more 13 (super_is 13 (lit< tt))
  thrown_under more IllegalState = under_runtime more 12 (super_is 12 (lit< tt))
  thrown_under more Arithmetic = under_runtime more 3 (super_is 3 (lit< tt))

  thrown_subclass : (which : Throws) → is_subclass set (thrown_class set which) (at 26) ≡ true
  thrown_subclass which =
      let n = thrown_class set which in
      let enough : class_count set ≡ four_more (length set.program + 24) = omega arith in
      has_number-append_left (superclasses_of set n) (flat_map (interfaces_of set) (superclasses_of set n))
      (at 26)
      (subst (λ more. IsUnder more n) (sym enough) (thrown_under (length set.program + 24) which))

  -- a class beside the array types
  no_array : (n : ℕ) → n < class_count set → array_at set n ≡ None
  no_array n below = rw (lt-ltb n (class_count set) below) refl

  classes_sub : (m n : ℕ) → array_at set m ≡ None → array_at set n ≡ None → is_subclass set m n ≡ true
      → is_sub set m n ≡ true
  classes_sub m n none_m none_n is =
      subst (λ (a : Option ArrayType). is_subtype set (elim a [ None ↦ 0 | Some b ↦ b.dimensions ])
      (elim a [ None ↦ Objects m | Some b ↦ b.innermost ]) (dimensions_of set n) (innermost_of set n) ≡ true)
      (sym none_m)
      (subst (λ (a : Option ArrayType). is_subtype set 0 (Objects m)
      (elim a [ None ↦ 0 | Some b ↦ b.dimensions ])
      (elim a [ None ↦ Objects n | Some b ↦ b.innermost ]) ≡ true) (sym none_n) is)

  thrown_there : (which : Throws) → thrown_class set which < class_count set
  thrown_there NegativeArraySize = omega arith
  thrown_there NullPointer = omega arith
  thrown_there ArrayIndexOutOfBounds = omega arith
  thrown_there StringIndexOutOfBounds = omega arith
  thrown_there ArrayStore = omega arith
  thrown_there ClassCast = omega arith
  thrown_there IllegalMonitorState = omega arith
  thrown_there IllegalThreadState = omega arith
  thrown_there IllegalState = omega arith
  thrown_there Arithmetic = omega arith

  pub thrown_is_throwable : (which : Throws) → IsThrowable set (thrown_class set which)
  thrown_is_throwable which =
      let n = thrown_class set which in (
        throwables_there set which,
        classes_sub n (at 26) (no_array n (thrown_there which)) (no_array (at 26) (omega arith))
            (thrown_subclass which),
      )
