-- Class sets that aren't consistent, each by one fault.
use Rattle.std.proofs.Common.{◌≡◌, ℕ, zero, suc, ◌<◌, List, [], ◌∷◌, refl, sym, ◌∙◌, ap, subst, arith, lit<, length}
use Rattle.std.proofs.Common.{slice_index_or}
use Rattle.std.specs.Prelude.{Option, Some, None, Contains, codes}
use Rattle.std.proofs.lemmas.Bool.{false≢true}
use Rattle.ap_base.specs.declared.kind.Kind.{Kind}
use Rattle.ap_base.specs.declared.kind.Kind.TheVariants.{I, L, Text}
use Rattle.graph_model.specs.declared.types.Field.{Field}
use Rattle.plain_model.specs.Classes.{ClassFacts, ArrayType, no_class}
use Rattle.plain_model.specs.BuiltIn.{field, chars_array, arguments_array}
use Rattle.plain_model.specs.Facts.{SetFacts}
use Rattle.plain_model.specs.Consistent.{IsExtendedBy, IsProgramClass}
use Rattle.plain_model.specs.SetRows.{ClassesAreRefused, ArraysAreRefused, StaticsAreRefused, KnownAreThere, a_static}
use Rattle.plain_model.proofs.Sets.{drawing_is_consistent, squares_are_consistent, texts_are_consistent}

extends : {set : SetFacts} {c : ClassFacts} (super : ℕ) → c.superclass ≡ Some super → IsProgramClass set c
    → IsExtendedBy set c super
extends {set} {c} super is its =
    let (other, found, extended) = its.super in
    let same : Some other ≡ Some super = sym found ∙ is in
    let one : other ≡ super = cc in
    subst (IsExtendedBy set c) one extended

pub classes_are_refused : ClassesAreRefused
classes_are_refused = record {
  own = drawing_is_consistent;
  as_given = refl;
  named_twice = λ is. is.names_differ 3 4 no_class (lit< tt) (lit< tt) refl;
  named_as_built_in = λ is. is.names_differ 4 30 no_class (lit< tt) (lit< tt) refl;
  without_super = λ is.
      let (super, some, extended) = (is.classes 3 no_class (lit< tt)).super in
      let no : ◌≡◌ {A = Option ℕ} None (Some super) = some in cc;
  under_interface = λ is. false≢true (sym (extends 2 refl (is.classes 4 no_class (lit< tt))).is_class);
  under_final = λ is. false≢true (sym (extends 26 refl (is.classes 4 no_class (lit< tt))).not_final);
  under_array = λ is.
      let no : 33 < 33 = (extends 33 refl (is.classes 4 no_class (lit< tt))).there in absurd (omega arith);
  class_as_interface = λ is. false≢true ((is.classes 4 no_class (lit< tt)).interfaces 0 0 (lit< tt)).1;
  circle = λ is. false≢true (sym (is.no_circle 3 (lit< tt) 0 0 (lit< tt)));
  elements = λ is. let no : ◌≡◌ {A = Option Kind} (Some I) None =
      (is.classes 4 no_class (lit< tt)).no_elements in cc;
  field_of_text = λ is. (is.classes 4 no_class (lit< tt)).kinds 0 (field (codes "text") Text) (lit< tt);
  fields_lost = λ is.
      let no : 0 ≡ 1 = ap (λ (fields : List Field). length fields)
      (extends 3 refl (is.classes 4 no_class (lit< tt))).fields in
      absurd (omega arith);
}

-- a list of one array type has no other
only : (a b : ArrayType) → Contains (a ∷ []) b → a ≡ b
only a b (k, below, is) = at k below is
  where
    at : (k : ℕ) → k < 1 → slice_index_or (a ∷ []) k b ≡ b → a ≡ b
    at zero within here = here
    at (suc j) within here = absurd (omega (arith, within))

pub arrays_are_refused : ArraysAreRefused
arrays_are_refused = record {
  missing = squares_are_consistent;
  there = λ is. (is.arrays 2 chars_array (lit< tt)).innermost 4 no_class (lit< tt) refl;
  another_descriptor = λ is.
      let no : 74 ≡ 73 = ap (λ (name : List ℕ). slice_index_or name 1 0)
      (is.arrays 2 chars_array (lit< tt)).descriptor in
      absurd (omega arith);
  too_deep = λ is.
      let no : 3 ≡ 2 = ap (λ (name : List ℕ). length name) (is.arrays 2 chars_array (lit< tt)).descriptor in
      absurd (omega arith);
  no_array = λ is. let no : 0 < 0 = (is.arrays 2 chars_array (lit< tt)).dimensions in absurd (omega arith);
  references = λ is. (is.arrays 2 chars_array (lit< tt)).innermost;
  no_chars = λ is.
      let no : 19 ≡ 2 = ap (λ (a : ArrayType). length a.descriptor)
      (only (arguments_array 5) chars_array is.chars) in
      absurd (omega arith);
  no_arguments = λ is.
      let no : 2 ≡ 19 = ap (λ (a : ArrayType). length a.descriptor)
      (only chars_array (arguments_array 5) is.arguments) in
      absurd (omega arith);
}

pub statics_are_refused : StaticsAreRefused
statics_are_refused = record {
  own = texts_are_consistent;
  named_otherwise = λ is.
      let (name, named) = (is.statics 0 a_static (lit< tt)).name in
      let no : 67 ≡ 68 = ap (λ (text : List ℕ). slice_index_or text 0 0) named in absurd (omega arith);
  without_dot = λ is.
      let (name, named) = (is.statics 0 a_static (lit< tt)).name in
      let no : 4 ≡ suc (suc (suc (suc (suc (length name))))) = ap (λ (text : List ℕ). length text) named in absurd (omega (arith, no));
  of_text = λ is. (is.statics 0 a_static (lit< tt)).kind;
  of_built_in = λ is. let no : 26 < 5 = (is.statics 0 a_static (lit< tt)).class in absurd (omega arith);
  no_reference = λ is. let no : I ≡ L = (is.statics 0 a_static (lit< tt)).constant in cc;
  no_literal = λ is. let no : 1 < 1 = is.constants 0 a_static (lit< tt) in absurd (omega arith);
  no_long = λ is. (is.statics 0 a_static (lit< tt)).constant;
  root_of_ints = λ is. let no : I ≡ L = (is.statics 0 a_static (lit< tt)).root refl in cc;
  literal_twice = λ is. is.literals_differ 0 1 [] (lit< tt) (lit< tt) refl;
  no_char = λ is. let no : 65536 < 65536 = is.chars 1 [] (lit< tt) 0 0 (lit< tt) in absurd (omega arith);
}

pub known_are_there : KnownAreThere
known_are_there = record { known = refl; stream = refl; arguments = refl; thrown = refl }
