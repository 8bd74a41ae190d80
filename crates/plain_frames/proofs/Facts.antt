-- The classes that built-in methods name have what they ask of them.
use Rattle.std.proofs.Common.{◌≡◌, ℕ, ◌+◌, ◌<◌, ◌≢◌, ◌&&◌, Bool, true, false, refl, ap, ◌∙◌, arith, lit<, length, codes, Some}
use Rattle.std.proofs.Common.{nat_eq}
use Rattle.std.specs.Prelude.{IsSome, slice_get}
use Rattle.std.proofs.lemmas.Bool.Decides.{nat_tests}
use Rattle.ap_base.specs.declared.kind.Kind.{Kind}
use Rattle.ap_base.specs.declared.kind.Kind.TheVariants.{C, I, L}
use Rattle.run_types.specs.declared.known.Known.{Known}
use Rattle.graph_model.specs.declared.types.Field.{Field}
use Rattle.natives.specs.Scripts.{value_field, count_field, target_field, message_field}
use Rattle.plain_model.specs.Classes.{ClassFacts}
use Rattle.plain_model.specs.Facts.{SetFacts, known_classes, class_at, element_of, string_number, array_named}
use Rattle.plain_model.specs.Duties.{IsClass, IsInstanceField}
use Rattle.plain_model.specs.Consistent.{IsConsistent}
use Rattle.plain_model.proofs.Consistent.{place_there, class_of_place}
use Rattle.plain_model.proofs.Given.{given_arrays_are_there}
use Rattle.plain_frames.specs.Worlds.{is_known}

pub record KnownFits (set : SetFacts) (known : Known) : Type 0 where
  pub chars : IsClass set known.chars × IsSome (element_of set known.chars) ×
      (known.chars ≢ string_number set)
  pub string : IsClass set known.string
  pub object : IsClass set known.object
  pub runnable : IsClass set known.runnable
  pub value : IsInstanceField set (value_field known)
  pub count : IsInstanceField set (count_field known)
  pub target : IsInstanceField set (target_field known)
  pub message : IsInstanceField set (message_field known)

pub and_parts : (a b : Bool) → (a && b) ≡ true → (a ≡ true) × (b ≡ true)
and_parts true true e = (refl, refl)
and_parts true false e = (refl, e)
and_parts false b e = (e, absurd (let no : false ≡ true = e in cc))

pub and_both : (a b : Bool) → a ≡ true → b ≡ true → (a && b) ≡ true
and_both a b p q = rw (p, q)

pub equal : (a b : ℕ) → nat_eq a b ≡ true → a ≡ b
equal a b e = grind (arith, nat_tests)

abbrev pub known_of : (a b c d e f g : ℕ) → Known
known_of a b c d e f g = record {
  chars = a;
  string = b;
  object = c;
  runnable = d;
  builder = e;
  thread = f;
  throwable = g;
}

pub known_is : (a b : Known) → is_known a b ≡ true → a ≡ b
known_is a b e =
    let p0 = and_parts _ _ e in
    let p1 = and_parts _ _ p0.1 in
    let p2 = and_parts _ _ p1.1 in
    let p3 = and_parts _ _ p2.1 in
    let p4 = and_parts _ _ p3.1 in
    let p5 = and_parts _ _ p4.1 in
    ap (λ n. known_of n a.string a.object a.runnable a.builder a.thread a.throwable)
    (equal a.chars b.chars p0.0)
    ∙ ap (λ n. known_of b.chars n a.object a.runnable a.builder a.thread a.throwable)
    (equal a.string b.string p1.0)
    ∙ ap (λ n. known_of b.chars b.string n a.runnable a.builder a.thread a.throwable)
    (equal a.object b.object p2.0)
    ∙ ap (λ n. known_of b.chars b.string b.object n a.builder a.thread a.throwable)
    (equal a.runnable b.runnable p3.0)
    ∙ ap (λ n. known_of b.chars b.string b.object b.runnable n a.thread a.throwable)
    (equal a.builder b.builder p4.0)
    ∙ ap (λ n. known_of b.chars b.string b.object b.runnable b.builder n a.throwable)
    (equal a.thread b.thread p5.0)
    ∙ ap (λ n. known_of b.chars b.string b.object b.runnable b.builder b.thread n)
    (equal a.throwable b.throwable p5.1)

pub known_itself : (a : Known) → is_known a a ≡ true
known_itself a = grind (arith, nat_tests)

pub field_there : (set : SetFacts) (k : ℕ) (below : k < 28) (at : ℕ) (kind : Kind) (f : Field)
    (c : ClassFacts)
    → class_at set (length set.program + k) ≡ c → c.is_interface ≡ false → slice_get c.shape.fields at
    ≡ Some f
    → f.kind ≡ kind
    → IsInstanceField set (record { class = length set.program + k; is_static = false; at = at; kind = kind })
field_there set k below at kind f c is not_interface found of_kind = (
  place_there set k below,
  refl,
  ap (λ (d : ClassFacts). d.is_interface) is ∙ not_interface,
  (f, ap (λ (d : ClassFacts). slice_get d.shape.fields at) is ∙ found, of_kind),
)

pub chars_fit : (set : SetFacts) (n : ℕ) (c : ClassFacts) → class_at set n ≡ c
    → c.shape.element ≡ Some C → IsSome (element_of set n)
chars_fit set n c is element = let e : element_of set n ≡ Some C = ap
    (λ (d : ClassFacts). d.shape.element) is ∙ element in
    rw e

pub known_fits : (set : SetFacts) → IsConsistent set → KnownFits set (known_classes set)
known_fits set consistent = let arrays = given_arrays_are_there set consistent in record {
  chars = (
    arrays.chars.there,
    chars_fit set (array_named set (codes "[C")) _ arrays.chars.class refl,
    λ same. omega (arith, same),
  );
  string = place_there set 21 (lit< tt);
  object = place_there set 18 (lit< tt);
  runnable = place_there set 19 (lit< tt);
  value = field_there set 22 (lit< tt) 0 L _ _ (class_of_place set 22 (lit< tt)) refl refl refl;
  count = field_there set 22 (lit< tt) 1 I _ _ (class_of_place set 22 (lit< tt)) refl refl refl;
  target = field_there set 25 (lit< tt) 0 L _ _ (class_of_place set 25 (lit< tt)) refl refl refl;
  message = field_there set 26 (lit< tt) 0 L _ _ (class_of_place set 26 (lit< tt)) refl refl refl;
}
