-- A field may be read as if no durable root stood before, and its name be judged last.
use Rattle.std.proofs.Common.{◌≡◌, ℕ, Bool, true, false, cond, not, ◌&&◌, ◌||◌, List, [], Option, None, Some, Result, Ok, Err}
use Rattle.std.proofs.Common.{refl, sym, ◌∙◌}
use Rattle.const_pool.specs.declared.entry.Tag.TheVariants.{Utf8}
use Rattle.const_pool.specs.Pool.{Slots, utf8_at}
use Rattle.parsing.specs.Places.{Place}
use Rattle.class_items.specs.declared.attribute.Attribute.{Attribute}
use Rattle.class_items.specs.Kinds.{kind_at}
use Rattle.parsing.specs.Results.{◌>>=◌, unless}
use Rattle.class_file.specs.declared.field.Field.{Field}
use Rattle.class_file.specs.declared.refusal.ClassRefusal.{ClassRefusal}
use Rattle.class_file.specs.declared.refusal.ClassRefusal.TheVariants as refusal
use Rattle.class_file.specs.Members.{Facts, number, index, has_byte, is_barred, is_static, is_reference, is_field, is_among}
use Rattle.class_file.specs.Members.{constant_of, no_facts, field_attributes_from, judged, field_at}
use Rattle.class_file.proofs.FieldHeads.{assoc_by}

none_found : (found : Option (List ℕ)) → elim found [ None ↦ false | Some text ↦ false ] ≡ false
none_found None = refl
none_found (Some text) = refl

pub none_among : (pool : Slots) (name : ℕ) → is_among pool [] name ≡ false
none_among pool name = none_found (utf8_at pool name)

-- the field, unless a durable root before has its name
abbrev pub noted : Slots → (roots : List ℕ) → (field : ℕ) → Field × Place
    → Result (Field × Place) ClassRefusal
noted pool roots field x = unless (x.0.root && is_among pool roots x.0.name) (refusal.RootNotReference field) >>= λ own. Ok x

module _ (pool : Slots) (roots : List ℕ) (field access name descriptor : ℕ) (attributes : List Attribute)
    (unrecoverable : Bool) (after : Place) where
  abbrev made : Bool → Option ℕ → Result (Field × Place) ClassRefusal
  made root constant = Ok (record { access = access; name = name; descriptor = descriptor; attributes = attributes; constant = constant; root = root; unrecoverable = unrecoverable }, after)

  abbrev judged_by : (root static reference among : Bool) → Result (Option ℕ) ClassRefusal
      → Result (Option ℕ) ClassRefusal
  judged_by root static reference among plain =
      cond root (cond (not static || (not reference || among)) (Err (refusal.RootNotReference field)) (Ok None)) plain

  last : (root static reference among : Bool) (plain : Result (Option ℕ) ClassRefusal)
      → is_among pool roots name ≡ among
      → ((judged_by root static reference false plain >>= made root) >>= noted pool roots field) ≡ (judged_by root static reference among plain >>= made root)
  last false static reference among (Ok constant) is = refl
  last false static reference among (Err e) is = refl
  last true false reference among plain is = refl
  last true true false among plain is = refl
  last true true true true plain is = rw is refl
  last true true true false plain is = rw is refl

judged_last : (pool : Slots) (roots : List ℕ) (field access name descriptor : ℕ) (attributes : List Attribute) (facts : Facts) (after : Place)
    → ((judged pool [] field access name descriptor facts >>= made pool roots field access name descriptor attributes facts.unrecoverable after facts.root) >>= noted pool roots field)
    ≡ (judged pool roots field access name descriptor facts >>= made pool roots field access name descriptor attributes facts.unrecoverable after facts.root)
judged_last pool roots field access name descriptor attributes facts after =
    rw (none_among pool name)
    (last pool roots field access name descriptor attributes facts.unrecoverable after facts.root (is_static access)
    (is_reference (kind_at pool descriptor)) (is_among pool roots name)
    (constant_of pool access descriptor facts.constant) refl)

name_last : (pool : Slots) (roots : List ℕ) (field : ℕ) (file : Place)
    → (field_at pool [] field file >>= noted pool roots field) ≡ field_at pool roots field file
unfolding field_at
name_last pool roots field file =
    assoc_by (number 2 file) _ _ _ λ access.
    assoc_by (index pool Utf8 access.1) _ _ _ λ name.
    assoc_by (unless (has_byte is_barred pool name.0) (refusal.BadIndex access.1.0 name.0)) _ _ _ λ spelled.
    assoc_by (index pool Utf8 name.1) _ _ _ λ descriptor.
    assoc_by (unless (not (is_field (kind_at pool descriptor.0))) (refusal.BadDescriptor descriptor.0)) _ _ _ λ typed.
    assoc_by (number 2 descriptor.1) _ _ _ λ count.
    assoc_by (field_attributes_from pool count.0 no_facts count.1) _ _ _ λ attributes.
    judged_last pool roots field access.0 name.0 descriptor.0 attributes.0.0 attributes.0.1 attributes.1

module _ (pool : Slots) (roots : List ℕ) (field : ℕ) (file : Place) where
  pub kept : (f : Field) (after : Place) → field_at pool [] field file ≡ Ok (f, after)
      → unless (f.root && is_among pool roots f.name) (refusal.RootNotReference field) ≡ Ok tt
      → field_at pool roots field file ≡ Ok (f, after)
  kept f after h own =
      let step : (field_at pool [] field file >>= noted pool roots field) ≡ Ok (f, after) = rw (h, own) refl in
      sym (name_last pool roots field file) ∙ step

  pub refused_alone : (e : ClassRefusal) → field_at pool [] field file ≡ Err e
      → field_at pool roots field file ≡ Err e
  refused_alone e h =
      let step : (field_at pool [] field file >>= noted pool roots field) ≡ Err e = rw h refl in
      sym (name_last pool roots field file) ∙ step

  pub refused_named : (f : Field) (after : Place) (e : ClassRefusal)
      → field_at pool [] field file ≡ Ok (f, after)
      → unless (f.root && is_among pool roots f.name) (refusal.RootNotReference field) ≡ Err e
      → field_at pool roots field file ≡ Err e
  refused_named f after e h named =
      let step : (field_at pool [] field file >>= noted pool roots field) ≡ Err e = rw (h, named) refl in
      sym (name_last pool roots field file) ∙ step
