-- What a class file that was read keeps of its names: that of its class has no dot, and no durable root has the name of one before.
use Rattle.std.proofs.Common.{◌≡◌, ℕ, zero, suc, ◌+◌, Bool, true, false, cond, not, List, [], ◌∷◌, Option, Some, None, Ok, Err}
use Rattle.std.proofs.Common.{refl, sym, subst, length, drop, ltb, ◌==◌, ◌||◌, if◌then◌else◌}
use Rattle.std.specs.List.{list_any}
use Rattle.std.proofs.lemmas.Bool.{false≢true}
use Rattle.const_pool.specs.declared.entry.Entry.{Entry}
use Rattle.const_pool.specs.declared.entry.Entry.TheVariants as entry
use Rattle.const_pool.specs.declared.entry.Tag.{Tag}
use Rattle.const_pool.specs.declared.entry.Tag.TheVariants.{Class, Utf8}
use Rattle.const_pool.specs.Pool.{Slots, class_name_at, entry_at, is_tagged, text_of, utf8_at}
use Rattle.const_pool.specs.Reading.{pool_in}
use Rattle.parsing.specs.Places.{Place}
use Rattle.parsing.specs.Results.{placed, unless}
use Rattle.parsing.proofs.Steps.{bind_ok, placed_ok, where_ok}
use Rattle.class_items.specs.declared.refusal.ItemRefusal.TheVariants.{BadIndex}
use Rattle.class_items.specs.Items.{attributes_at, index_at, number_at}
use Rattle.class_items.specs.Kinds.{kind_at}
use Rattle.class_file.specs.declared.class.ClassFile.{ClassFile}
use Rattle.class_file.specs.declared.field.Field.{Field}
use Rattle.class_file.specs.declared.refusal.ClassRefusal.TheVariants as refusal
use Rattle.class_file.specs.Refusals.{of_item, of_pool}
use Rattle.class_file.specs.Members.{number, index, has_byte, is_barred, is_field, is_static, is_reference, is_among}
use Rattle.class_file.specs.Members.{is_no_root, constant_of, judged, no_facts, field_attributes_from, field_at, fields_from}
use Rattle.class_file.specs.Members.{fields_at, with_root, methods_at}
use Rattle.class_file.specs.Classes as classes
use Rattle.class_file.specs.Classes.{CanBeRead, class_in, behind_at, head_at, interfaces_at, is_misnamed, this_at}
use Rattle.class_file.proofs.SpelledFields.{bind_then, ok_then}
use Rattle.class_links.specs.Names.{name_of}
use Rattle.class_set.proofs.Read.{class_plain}

-- ---- the name of the class

abbrev pub HasNoDot : List ℕ → Type 0
HasNoDot [] = Unit {0}
HasNoDot (b ∷ bs) = ((b == 46) ≡ false) × HasNoDot bs

both_false : (a b : Bool) → (a || b) ≡ false → (a ≡ false) × (b ≡ false)
both_false true b h = absurd (false≢true (sym h))
both_false false b h = (refl, h)

spelled : (name : List ℕ) → list_any classes.is_barred name ≡ false → HasNoDot name
spelled [] h = tt
spelled (b ∷ bs) h =
    let both = both_false (classes.is_barred b) (list_any classes.is_barred bs) h in
    ((both_false (b == 46) ((b == 59) || (b == 91)) both.0).0, spelled bs both.1)

undotted : (name : Option (List ℕ)) → is_misnamed name ≡ false → HasNoDot (elim name [ None ↦ [] | Some n ↦ n ])
undotted None h = tt
undotted (Some name) h = spelled name h

-- ---- an index of a text

abbrev pub IsText : Slots → ℕ → Type 0
IsText pool i = (t : List ℕ) × (utf8_at pool i ≡ Some t)

text_there : (slot : Option Entry) → is_tagged slot Utf8 ≡ true → (t : List ℕ) × (text_of slot ≡ Some t)
text_there (Some (entry.Utf8 name)) e = (name, refl)
text_there None e = absurd cc
text_there (Some other) e = absurd cc

item_tagged : (pool : Slots) (tag : Tag) (file : Place) (x : ℕ × Place) → index_at pool tag file ≡ Ok x → is_tagged (entry_at pool x.0) tag ≡ true
unfolding index_at
item_tagged pool tag file x e =
    let a = bind_ok (number_at 2 file) (λ index. cond (is_tagged (entry_at pool index.0) tag) (Ok index) (Err (BadIndex file.0 index.0))) x e in
    let g = where_ok (is_tagged (entry_at pool a.0.0) tag) (BadIndex file.0 a.0.0) a.0 x a.2 in
    subst (λ (y : ℕ × Place). is_tagged (entry_at pool y.0) tag ≡ true) g.1 g.0

text_read : (pool : Slots) (file : Place) (x : ℕ × Place) → index pool Utf8 file ≡ Ok x → IsText pool x.0
text_read pool file x e = text_there (entry_at pool x.0) (item_tagged pool Utf8 file x (placed_ok of_item (index_at pool Utf8 file) x e))

-- ---- the durable roots

-- a durable root has a name that none of these has
abbrev pub StandsApart : Slots → (roots : List ℕ) → Field → Type 0
StandsApart pool roots f = f.root ≡ true → (is_among pool roots f.name ≡ false) × IsText pool f.name

-- Each durable root has a name that none of these has, nor one before it.
abbrev pub AreApart : Slots → (roots : List ℕ) → List Field → Type 0
AreApart pool roots [] = Unit {0}
AreApart pool roots (f ∷ fs) = StandsApart pool roots f × AreApart pool (with_root roots f) fs

new_name : (static reference among : Bool) → (not static || (not reference || among)) ≡ false → among ≡ false
new_name true true among e = e
new_name true false among e = absurd (false≢true (sym e))
new_name false reference among e = absurd (false≢true (sym e))

by_root : (pool : Slots) (roots : List ℕ) (field access name descriptor : ℕ) (found : Option (ℕ × ℕ)) (root wrong : Bool) (o : Option ℕ)
    → is_no_root pool roots access name descriptor ≡ wrong
    → (if root then (if wrong then Err (refusal.RootNotReference field) else Ok None) else constant_of pool access descriptor found) ≡ Ok o
    → root ≡ true → is_among pool roots name ≡ false
by_root pool roots field access name descriptor found true true o k e is = absurd (cc)
by_root pool roots field access name descriptor found true false o k e is =
    new_name (is_static access) (is_reference (kind_at pool descriptor)) (is_among pool roots name) k
by_root pool roots field access name descriptor found false wrong o k e is = absurd (false≢true is)

field_apart : (pool : Slots) (roots : List ℕ) (field : ℕ) (file : Place) (x : Field × Place) → field_at pool roots field file ≡ Ok x
    → StandsApart pool roots x.0
unfolding field_at
field_apart pool roots field file x e =
    bind_then (number 2 file) _ x e (λ access is_access then_access.
    bind_then (index pool Utf8 access.1) _ x then_access (λ name is_name then_name.
    bind_then (unless (has_byte is_barred pool name.0) (refusal.BadIndex access.1.0 name.0)) _ x then_name (λ spelled is_spelled then_spelled.
    bind_then (index pool Utf8 name.1) _ x then_spelled (λ descriptor is_descriptor then_descriptor.
    bind_then (unless (not (is_field (kind_at pool descriptor.0))) (refusal.BadDescriptor descriptor.0)) _ x then_descriptor (λ typed is_typed then_typed.
    bind_then (number 2 descriptor.1) _ x then_typed (λ count is_count then_count.
    bind_then (field_attributes_from pool count.0 no_facts count.1) _ x then_count (λ attributes is_attributes then_attributes.
    bind_then (judged pool roots field access.0 name.0 descriptor.0 attributes.0.1) _ x then_attributes (λ constant is_judged ends.
    ok_then (λ (y : Field × Place). StandsApart pool roots y.0) _ x ends (λ root. (
      by_root pool roots field access.0 name.0 descriptor.0 attributes.0.1.constant attributes.0.1.root
          (is_no_root pool roots access.0 name.0 descriptor.0) constant refl is_judged root,
      text_read pool access.1 name is_name,
    ))))))))))

fields_apart : (pool : Slots) (count : ℕ) (roots : List ℕ) (field : ℕ) (file : Place) (x : List Field × Place)
    → fields_from pool roots field count file ≡ Ok x → AreApart pool roots x.0
unfolding fields_from
fields_apart pool zero roots field file x e =
    ok_then (λ (y : List Field × Place). AreApart pool roots y.0) ([], file) x e tt
fields_apart pool (suc count) roots field file x e =
    bind_then (field_at pool roots field file) _ x e (λ first is_first then_first.
    bind_then (fields_from pool (with_root roots first.0) (field + 1) count first.1) _ x then_first (λ others are_others ends.
    ok_then (λ (y : List Field × Place). AreApart pool roots y.0) (first.0 ∷ others.0, others.1) x ends (
      field_apart pool roots field file first is_first,
      fields_apart pool count (with_root roots first.0) (field + 1) first.1 others are_others,
    )))

all_fields_apart : (pool : Slots) (file : Place) (x : List Field × Place) → fields_at pool file ≡ Ok x → AreApart pool [] x.0
unfolding fields_at
all_fields_apart pool file x e =
    bind_then (number 2 file) _ x e (λ count is_count ends. fields_apart pool count.0 [] 0 count.1 x ends)

-- ---- the file

behind_apart : (pool : Slots) (file : Place) (c : ClassFile) → behind_at pool file ≡ Ok c → AreApart c.pool [] c.fields
unfolding behind_at
behind_apart pool file c e =
    bind_then (number 2 file) _ c e (λ access is_access then_access.
    bind_then (this_at pool access.1) _ c then_access (λ this is_this then_this.
    bind_then (index pool Class this.1) _ c then_this (λ super is_super then_super.
    bind_then (interfaces_at pool super.1) _ c then_super (λ interfaces are_interfaces then_interfaces.
    bind_then (fields_at pool interfaces.1) _ c then_interfaces (λ fields are_fields then_fields.
    bind_then (methods_at pool fields.1) _ c then_fields (λ methods are_methods then_methods.
    bind_then (placed of_item (attributes_at pool methods.1)) _ c then_methods (λ attributes are_attributes then_attributes.
    bind_then (unless (ltb 0 (length attributes.1.1)) (refusal.TrailingBytes attributes.1.0)) _ c then_attributes (λ ended is_ended ends.
    ok_then (λ (d : ClassFile). AreApart d.pool [] d.fields) _ c ends (all_fields_apart pool interfaces.1 fields are_fields)))))))))

class_apart : (bytes : List ℕ) (c : ClassFile) → class_in bytes ≡ Ok c → AreApart c.pool [] c.fields
unfolding class_in
class_apart bytes c e =
    bind_then (head_at (0, bytes)) _ c e (λ head is_head then_head.
    bind_then (placed of_pool (pool_in bytes)) _ c then_head (λ pool is_pool ends.
    behind_apart pool.0 (pool.1, drop pool.1 bytes) c ends))

pub record TellsRoots (c : ClassFile) : Type 0 where
  pub named : HasNoDot (name_of c)
  pub roots : AreApart c.pool [] c.fields

pub tells_roots : (c : ClassFile) → CanBeRead c → TellsRoots c
tells_roots c h = record {
  named = undotted (class_name_at c.pool c.this_class) (class_plain h.bytes c h.read);
  roots = class_apart h.bytes c h.read;
}
