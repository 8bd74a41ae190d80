-- A field is read as its head and what follows.
use Rattle.std.proofs.Common.{◌≡◌, ℕ, List, Result, Ok, Err, refl, sym, ◌∙◌, not}
use Rattle.const_pool.specs.declared.entry.Tag.TheVariants.{Utf8}
use Rattle.const_pool.specs.Pool.{Slots}
use Rattle.parsing.specs.Places.{Place}
use Rattle.class_items.specs.Kinds.{kind_at}
use Rattle.parsing.specs.Results.{◌>>=◌, unless}
use Rattle.class_file.specs.declared.field.Field.{Field}
use Rattle.class_file.specs.declared.fields.Head.{Head}
use Rattle.class_file.specs.declared.refusal.ClassRefusal.{ClassRefusal}
use Rattle.class_file.specs.declared.refusal.ClassRefusal.TheVariants as refusal
use Rattle.class_file.specs.Members.{number, index, has_byte, is_barred, is_field, field_at}
use Rattle.class_file.specs.FieldParts.{field_head_at, field_behind_at}

-- a step after two others, told from either side
pub assoc_by : {A B C E : Type 0} (r : Result A E) (f : A → Result B E) (g : B → Result C E) (h : A → Result C E)
    → ((x : A) → (f x >>= g) ≡ h x) → ((r >>= f) >>= g) ≡ (r >>= h)
assoc_by (Ok x) f g h e = e x
assoc_by (Err d) f g h e = refl

abbrev after_head : Slots → (roots : List ℕ) → (field : ℕ) → Head × Place
    → Result (Field × Place) ClassRefusal
after_head pool roots field head = field_behind_at pool roots field head.0 head.1

head_first : (pool : Slots) (roots : List ℕ) (field : ℕ) (file : Place)
    → (field_head_at pool file >>= after_head pool roots field) ≡ field_at pool roots field file
unfolding field_at field_head_at field_behind_at
head_first pool roots field file =
    assoc_by (number 2 file) _ _ _ λ access.
    assoc_by (index pool Utf8 access.1) _ _ _ λ name.
    assoc_by (unless (has_byte is_barred pool name.0) (refusal.BadIndex access.1.0 name.0)) _ _ _ λ spelled.
    assoc_by (index pool Utf8 name.1) _ _ _ λ descriptor.
    assoc_by (unless (not (is_field (kind_at pool descriptor.0))) (refusal.BadDescriptor descriptor.0)) _ _ _ λ typed.
    refl

module _ (pool : Slots) (roots : List ℕ) (field : ℕ) (file : Place) where
  pub head_ok : (head : Head) (after : Place) → field_head_at pool file ≡ Ok (head, after)
      → field_at pool roots field file ≡ field_behind_at pool roots field head after
  head_ok head after h =
      let step : (field_head_at pool file >>= after_head pool roots field) ≡ field_behind_at pool roots field head after = rw h refl in
      sym (head_first pool roots field file) ∙ step

  pub head_err : (e : ClassRefusal) → field_head_at pool file ≡ Err e → field_at pool roots field file ≡ Err e
  head_err e h =
      let step : (field_head_at pool file >>= after_head pool roots field) ≡ Err e = rw h refl in
      sym (head_first pool roots field file) ∙ step
