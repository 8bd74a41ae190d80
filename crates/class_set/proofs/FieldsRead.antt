-- What a class file that was read keeps of its pool and its fields: a durable root is a reference, and a constant has the tag that
-- the field's descriptor wants.
use Rattle.std.proofs.Common.{◌≡◌, ℕ, zero, suc, ◌+◌, Bool, true, false, List, [], ◌∷◌, Option, Some, None, Ok, Err, refl, sym}
use Rattle.std.proofs.Common.{subst, not, length, drop, ltb, ◌||◌, if◌then◌else◌}
use Rattle.std.specs.Prelude.{All}
use Rattle.std.proofs.lemmas.Bool.{false≢true}
use Rattle.std.proofs.lemmas.List.Elements.{All-cons, All-nil}
use Rattle.const_pool.specs.declared.entry.Tag.TheVariants.{Class, Utf8}
use Rattle.const_pool.specs.Pool.{Slots}
use Rattle.const_pool.specs.Reading.{pool_in}
use Rattle.const_pool.proofs.Pools.{pool_stands}
use Rattle.parsing.specs.Places.{Place}
use Rattle.parsing.specs.Results.{placed, unless}
use Rattle.parsing.proofs.Steps.{placed_ok}
use Rattle.class_items.specs.Items.{attributes_at}
use Rattle.class_items.specs.Kinds.{kind_at}
use Rattle.class_file.specs.declared.class.ClassFile.{ClassFile}
use Rattle.class_file.specs.declared.field.Field.{Field}
use Rattle.class_file.specs.declared.refusal.ClassRefusal.TheVariants as refusal
use Rattle.class_file.specs.Refusals.{of_item, of_pool}
use Rattle.class_file.specs.Members.{number, index, has_byte, is_barred, is_field, is_static, is_reference, is_among}
use Rattle.class_file.specs.Members.{is_no_root, is_constant, constant_tag, constant_of, judged, no_facts}
use Rattle.class_file.specs.Members.{field_attributes_from, field_at, fields_from, fields_at, with_root, methods_at}
use Rattle.class_file.specs.Classes.{CanBeRead, class_in, behind_at, head_at, interfaces_at, this_at}
use Rattle.class_file.proofs.SpelledFields.{bind_then, ok_then}
use Rattle.class_set.proofs.PoolTexts.{AreShort, HasTexts, are_short, has_texts}

abbrev HasTag : Slots → (descriptor index : ℕ) → Type 0
HasTag pool descriptor index = is_constant pool (constant_tag pool descriptor (kind_at pool descriptor)) index ≡ true

pub record IsJudged (pool : Slots) (f : Field) : Type 0 where
  pub root : f.root ≡ true → is_reference (kind_at pool f.descriptor) ≡ true
  pub constant : (i : ℕ) → f.constant ≡ Some i → HasTag pool f.descriptor i

-- ---- one field

given : (pool : Slots) (descriptor : ℕ) (found : ℕ × ℕ) (o : Option ℕ) (i : ℕ) (static good : Bool)
    → is_constant pool (constant_tag pool descriptor (kind_at pool descriptor)) found.1 ≡ good
    → (if static then (if good then Ok (Some found.1) else Err (refusal.BadIndex found.0 found.1)) else Ok None) ≡ Ok o
    → o ≡ Some i → HasTag pool descriptor i
given pool descriptor found o i true true k e s = (let same : found.1 ≡ i = cc in subst (HasTag pool descriptor) same k)
given pool descriptor found o i true false k e s = absurd (cc)
given pool descriptor found o i false good k e s = absurd (cc)

constant_given : (pool : Slots) (access descriptor : ℕ) (found : Option (ℕ × ℕ)) (o : Option ℕ) (i : ℕ)
    → constant_of pool access descriptor found ≡ Ok o → o ≡ Some i → HasTag pool descriptor i
constant_given pool access descriptor None o i e s = absurd (cc)
constant_given pool access descriptor (Some found) o i e s =
    given pool descriptor found o i (is_static access) (is_constant pool (constant_tag pool descriptor (kind_at pool descriptor)) found.1) refl e s

referred : (static reference among : Bool) → (not static || (not reference || among)) ≡ false → reference ≡ true
referred true true among e = refl
referred true false among e = absurd (false≢true (sym e))
referred false reference among e = absurd (false≢true (sym e))

by_root : (pool : Slots) (roots : List ℕ) (field access name descriptor : ℕ) (found : Option (ℕ × ℕ)) (root wrong : Bool) (o : Option ℕ)
    → is_no_root pool roots access name descriptor ≡ wrong
    → (if root then (if wrong then Err (refusal.RootNotReference field) else Ok None) else constant_of pool access descriptor found) ≡ Ok o
    → (root ≡ true → is_reference (kind_at pool descriptor) ≡ true) × ((i : ℕ) → o ≡ Some i → HasTag pool descriptor i)
by_root pool roots field access name descriptor found true true o k e = absurd (cc)
by_root pool roots field access name descriptor found true false o k e = (
  λ r. referred (is_static access) (is_reference (kind_at pool descriptor)) (is_among pool roots name) k,
  λ i s. absurd (cc),
)
by_root pool roots field access name descriptor found false wrong o k e =
    (λ r. absurd (false≢true r), λ i s. constant_given pool access descriptor found o i e s)

field_judged : (pool : Slots) (roots : List ℕ) (field : ℕ) (file : Place) (x : Field × Place) → field_at pool roots field file ≡ Ok x
    → IsJudged pool x.0
unfolding field_at
field_judged pool roots field file x e =
    bind_then (number 2 file) _ x e (λ access is_access then_access.
    bind_then (index pool Utf8 access.1) _ x then_access (λ name is_name then_name.
    bind_then (unless (has_byte is_barred pool name.0) (refusal.BadIndex access.1.0 name.0)) _ x then_name (λ spelled is_spelled then_spelled.
    bind_then (index pool Utf8 name.1) _ x then_spelled (λ descriptor is_descriptor then_descriptor.
    bind_then (unless (not (is_field (kind_at pool descriptor.0))) (refusal.BadDescriptor descriptor.0)) _ x then_descriptor (λ typed is_typed then_typed.
    bind_then (number 2 descriptor.1) _ x then_typed (λ count is_count then_count.
    bind_then (field_attributes_from pool count.0 no_facts count.1) _ x then_count (λ attributes is_attributes then_attributes.
    bind_then (judged pool roots field access.0 name.0 descriptor.0 attributes.0.1) _ x then_attributes (λ constant is_judged ends.
    let both = by_root pool roots field access.0 name.0 descriptor.0 attributes.0.1.constant attributes.0.1.root
    (is_no_root pool roots access.0 name.0 descriptor.0) constant refl is_judged in
    ok_then (λ (y : Field × Place). IsJudged pool y.0) _ x ends (record { root = both.0; constant = both.1 })))))))))

fields_judged : (pool : Slots) (count : ℕ) (roots : List ℕ) (field : ℕ) (file : Place) (x : List Field × Place)
    → fields_from pool roots field count file ≡ Ok x → All (IsJudged pool) x.0
unfolding fields_from
fields_judged pool zero roots field file x e =
    ok_then (λ (y : List Field × Place). All (IsJudged pool) y.0) ([], file) x e (All-nil (IsJudged pool))
fields_judged pool (suc count) roots field file x e =
    bind_then (field_at pool roots field file) _ x e (λ first is_first then_first.
    bind_then (fields_from pool (with_root roots first.0) (field + 1) count first.1) _ x then_first (λ others are_others ends.
    ok_then (λ (y : List Field × Place). All (IsJudged pool) y.0) (first.0 ∷ others.0, others.1) x ends
    (All-cons (IsJudged pool) first.0 others.0 (field_judged pool roots field file first is_first)
    (fields_judged pool count (with_root roots first.0) (field + 1) first.1 others are_others))))

all_fields_judged : (pool : Slots) (file : Place) (x : List Field × Place) → fields_at pool file ≡ Ok x → All (IsJudged pool) x.0
unfolding fields_at
all_fields_judged pool file x e =
    bind_then (number 2 file) _ x e (λ count is_count ends. fields_judged pool count.0 [] 0 count.1 x ends)

-- ---- the file

record IsBehind (pool : Slots) (c : ClassFile) : Type 0 where
  same_pool : c.pool ≡ pool
  fields : All (IsJudged pool) c.fields

behind_judged : (pool : Slots) (file : Place) (c : ClassFile) → behind_at pool file ≡ Ok c → IsBehind pool c
unfolding behind_at
behind_judged pool file c e =
    bind_then (number 2 file) _ c e (λ access is_access then_access.
    bind_then (this_at pool access.1) _ c then_access (λ this is_this then_this.
    bind_then (index pool Class this.1) _ c then_this (λ super is_super then_super.
    bind_then (interfaces_at pool super.1) _ c then_super (λ interfaces are_interfaces then_interfaces.
    bind_then (fields_at pool interfaces.1) _ c then_interfaces (λ fields are_fields then_fields.
    bind_then (methods_at pool fields.1) _ c then_fields (λ methods are_methods then_methods.
    bind_then (placed of_item (attributes_at pool methods.1)) _ c then_methods (λ attributes are_attributes then_attributes.
    bind_then (unless (ltb 0 (length attributes.1.1)) (refusal.TrailingBytes attributes.1.0)) _ c then_attributes (λ ended is_ended ends.
    ok_then (IsBehind pool) _ c ends (record {
      same_pool = refl;
      fields = all_fields_judged pool interfaces.1 fields are_fields;
    })))))))))

pub record IsSound (c : ClassFile) : Type 0 where
  pub texts : HasTexts c.pool
  pub short : AreShort c.pool
  pub fields : All (IsJudged c.pool) c.fields

file_sound : (c : ClassFile) (h : CanBeRead c) → class_in h.bytes ≡ Ok c → IsSound c
unfolding class_in
file_sound c h e =
    bind_then (head_at (0, h.bytes)) _ c e (λ head is_head then_head.
    bind_then (placed of_pool (pool_in h.bytes)) _ c then_head (λ pool is_pool ends.
    let stands = pool_stands h.bytes pool h.are_bytes (placed_ok of_pool (pool_in h.bytes) pool is_pool) in
    let behind = behind_judged pool.0 (pool.1, drop pool.1 h.bytes) c ends in
    record {
      texts = subst HasTexts (sym behind.same_pool) (has_texts pool.0 stands.pool.slots);
      short = subst AreShort (sym behind.same_pool) (are_short pool.0 stands.pool.slots);
      fields = subst (λ p. All (IsJudged p) c.fields) (sym behind.same_pool) behind.fields;
    }))

pub class_sound : (c : ClassFile) → CanBeRead c → IsSound c
class_sound c h = file_sound c h h.read
