-- The name of a class that can be read is no descriptor of an array type.
use Rattle.std.proofs.Common.{◌≡◌, ℕ, Bool, true, false, List, [], ◌∷◌, Option, Some, None, Ok, refl, sym, ◌∙◌, drop, length}
use Rattle.std.proofs.Common.{ltb, ◌==◌, ◌||◌}
use Rattle.std.specs.List.{list_any}
use Rattle.std.proofs.lemmas.Bool.{false≢true}
use Rattle.const_pool.specs.declared.entry.Tag.TheVariants.{Class}
use Rattle.const_pool.specs.Pool.{Slots, class_name_at}
use Rattle.const_pool.specs.Reading.{pool_in}
use Rattle.parsing.specs.Places.{Place}
use Rattle.parsing.specs.Results.{placed, unless}
use Rattle.parsing.proofs.Steps.{unless_ok}
use Rattle.class_items.specs.Items.{attributes_at}
use Rattle.class_file.specs.declared.class.ClassFile.{ClassFile}
use Rattle.class_file.specs.declared.refusal.ClassRefusal.TheVariants as refusal
use Rattle.class_file.specs.Refusals.{of_item, of_pool}
use Rattle.class_file.specs.Members.{number, index, fields_at, methods_at}
use Rattle.class_file.specs.Classes.{CanBeRead, class_in, behind_at, head_at, interfaces_at, this_at, is_misnamed, is_barred}
use Rattle.class_file.proofs.SpelledFields.{bind_then, ok_then}
use Rattle.class_links.specs.Names.{name_of}
use Rattle.class_set.specs.ArrayTypes.{begins_with_bracket}

this_plain : (pool : Slots) (file : Place) (x : ℕ × Place) → this_at pool file ≡ Ok x → is_misnamed (class_name_at pool x.0) ≡ false
unfolding this_at
this_plain pool file x e =
    bind_then (index pool Class file) _ x e (λ this is_this then_this.
    bind_then (unless (is_misnamed (class_name_at pool this.0)) (refusal.BadIndex file.0 this.0)) _ x then_this (λ spelled is_spelled ends.
    ok_then (λ (y : ℕ × Place). is_misnamed (class_name_at pool y.0) ≡ false) this x ends
    (unless_ok (is_misnamed (class_name_at pool this.0)) (refusal.BadIndex file.0 this.0) tt spelled is_spelled).0))

behind_plain : (pool : Slots) (file : Place) (c : ClassFile) → behind_at pool file ≡ Ok c → is_misnamed (class_name_at c.pool c.this_class) ≡ false
unfolding behind_at
behind_plain pool file c e =
    bind_then (number 2 file) _ c e (λ access is_access then_access.
    bind_then (this_at pool access.1) _ c then_access (λ this is_this then_this.
    bind_then (index pool Class this.1) _ c then_this (λ super is_super then_super.
    bind_then (interfaces_at pool super.1) _ c then_super (λ interfaces are_interfaces then_interfaces.
    bind_then (fields_at pool interfaces.1) _ c then_interfaces (λ fields are_fields then_fields.
    bind_then (methods_at pool fields.1) _ c then_fields (λ methods are_methods then_methods.
    bind_then (placed of_item (attributes_at pool methods.1)) _ c then_methods (λ attributes are_attributes then_attributes.
    bind_then (unless (ltb 0 (length attributes.1.1)) (refusal.TrailingBytes attributes.1.0)) _ c then_attributes (λ ended is_ended ends.
    ok_then (λ (d : ClassFile). is_misnamed (class_name_at d.pool d.this_class) ≡ false) _ c ends (this_plain pool access.1 this is_this)))))))))

pub class_plain : (bytes : List ℕ) (c : ClassFile) → class_in bytes ≡ Ok c → is_misnamed (class_name_at c.pool c.this_class) ≡ false
unfolding class_in
class_plain bytes c e =
    bind_then (head_at (0, bytes)) _ c e (λ head is_head then_head.
    bind_then (placed of_pool (pool_in bytes)) _ c then_head (λ pool is_pool then_pool.
    behind_plain pool.0 (pool.1, drop pool.1 bytes) c then_pool))

or_false : (a b : Bool) → (a || b) ≡ false → a ≡ false
or_false true b h = h
or_false false b h = refl

barred : (b : ℕ) → is_barred b ≡ false → (b == 91) ≡ false
barred b h = right ((b == 59) || (b == 91)) (right2 (b == 46) ((b == 59) || (b == 91)) h) (b == 59) refl
  where
    right2 : (a b : Bool) → (a || b) ≡ false → b ≡ false
    right2 true b h = absurd (false≢true (sym h))
    right2 false b h = h

    right : (o : Bool) → o ≡ false → (a : Bool) → (a || (b == 91)) ≡ o → (b == 91) ≡ false
    right o h a e = right2 a (b == 91) (e ∙ h)

no_bracket_in : (name : Option (List ℕ)) → is_misnamed name ≡ false → begins_with_bracket (elim name [ None ↦ [] | Some n ↦ n ]) ≡ false
no_bracket_in None h = refl
no_bracket_in (Some []) h = refl
no_bracket_in (Some (b ∷ bs)) h = barred b (or_false (is_barred b) (list_any is_barred bs) h)

pub name_plain : (c : ClassFile) → CanBeRead c → begins_with_bracket (name_of c) ≡ false
name_plain c h = no_bracket_in (class_name_at c.pool c.this_class) (class_plain h.bytes c h.read)
