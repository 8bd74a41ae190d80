-- A method that is read is the method that stands there.
use Rattle.std.proofs.Common.{◌≡◌, ℕ, zero, suc, ◌+◌, not, Bool, true, false, cond, ◌||◌, List, [], ◌∷◌, ◌++◌, length, Ok, refl}
use Rattle.std.proofs.Common.{ap, subst, arith}
use Rattle.std.specs.Prelude.{codes}
use Rattle.std.specs.List.{flat_map, list_any}
use Rattle.byteorder.specs.Endian.{big_bytes}
use Rattle.const_pool.specs.declared.entry.Tag.TheVariants.{Utf8}
use Rattle.parsing.specs.Bytes.{IsBytes}
use Rattle.const_pool.specs.Pool.{Slots}
use Rattle.parsing.specs.Places.{Place}
use Rattle.parsing.proofs.Fields.{Takes}
use Rattle.class_items.specs.declared.attribute.Attribute.{Attribute}
use Rattle.class_items.specs.declared.refusal.ItemRefusal.{ItemRefusal}
use Rattle.class_items.specs.Kinds.{kind_at}
use Rattle.parsing.specs.Results.{placed, unless}
use Rattle.class_items.specs.Items.{field_at, number_at, index_at, attribute_at, attribute_bytes}
use Rattle.parsing.proofs.Steps.{ok_is}
use Rattle.parsing.proofs.Steps.{placed_ok}
use Rattle.parsing.proofs.Many.{AreTaken}
use Rattle.class_items.proofs.Taken.{number_taken, index_taken, field_taken}
use Rattle.code_attribute.specs.Code.{code_attribute_at}
use Rattle.code_attribute.proofs.Spelled.{spelled}
use Rattle.class_file.specs.declared.method.Method.{Method}
use Rattle.class_file.specs.declared.method.MethodAttribute.{MethodAttribute}
use Rattle.class_file.specs.declared.method.MethodAttribute.TheVariants as attribute
use Rattle.class_file.specs.declared.refusal.ClassRefusal.TheVariants as refusal
use Rattle.class_file.specs.Refusals.{of_item, of_code}
use Rattle.class_file.specs.Members.{number, index, is_text, is_method, has_no_code, is_code, code_at, looked_into}
use Rattle.class_file.specs.Members.{method_attribute_at, method_attributes_from, method_at, methods_from, methods_at}
use Rattle.class_file.specs.Members.{method_attribute_bytes, method_bytes}
use Rattle.class_file.specs.Fits.{IsShort, MethodAttributeFits, MethodFits}
use Rattle.class_file.proofs.SpelledFields.{bind_then, ok_then, number_spelled, index_spelled, attribute_spelled, none_spelled}
use Rattle.class_file.proofs.SpelledFields.{one_more, Counted, counted, member_head}

-- ---- the content of an attribute is bytes

content_are_bytes : (pool : Slots) (file : Place) (x : Attribute × Place) → IsBytes file.1
    → attribute_at pool file ≡ Ok x → IsBytes x.0.content
unfolding attribute_at
content_are_bytes pool file x fits e =
    bind_then (index_at pool Utf8 file) _ x e (λ name is_name then_name.
    bind_then (number_at 4 name.1) _ x then_name (λ size is_size then_size.
    bind_then (field_at size.0 size.1) _ x then_size (λ content is_content ends.
    let p = index_taken pool Utf8 file name fits is_name in
    let q = number_taken 4 name.1 size p.0.rest_fits is_size in
    let r = field_taken size.0 size.1 content q.0.rest_fits is_content in
    subst (λ (y : Attribute × Place). IsBytes y.0.content) (ok_is ItemRefusal (record { name = name.0; content = content.0 }, content.1) x ends) r.1.1)))

-- ---- attributes

-- an attribute that was looked into has the bytes that it had
abbrev IsAttribute : Attribute → MethodAttribute → Type 0
IsAttribute a known = (attribute_bytes a ≡ method_attribute_bytes known) × MethodAttributeFits known

code_is : (pool : Slots) (method at : ℕ) (done : Bool) (a : Attribute) (known : MethodAttribute)
    → IsBytes a.content → IsShort a
    → code_at pool method at done a ≡ Ok known → IsAttribute a known
unfolding code_at
code_is pool method at done a known fits short e =
    bind_then (unless done (refusal.BadAttribute at)) _ known e (λ once is_once then_once.
    bind_then (placed (of_code method at) (code_attribute_at pool (at + 6, a.content))) _ known then_once (λ code is_read ends.
    let s = spelled pool (at + 6) a.content code fits (placed_ok (of_code method at) (code_attribute_at pool (at + 6, a.content)) code is_read) in
    let same : attribute_bytes a ≡ method_attribute_bytes (attribute.Code a.name code) = ap (λ (content : List ℕ). attribute_bytes (record { name = a.name; content = content })) s.bytes in
    ok_then (IsAttribute a) (attribute.Code a.name code) known ends (same, (s.fits, omega (arith, ap length s.bytes)))))

looked : (pool : Slots) (method at : ℕ) (done found : Bool) (a : Attribute) (known : MethodAttribute)
    → IsBytes a.content → IsShort a
    → cond found (code_at pool method at done a) (Ok (attribute.Other a)) ≡ Ok known → IsAttribute a known
looked pool method at done true a known fits short e = code_is pool method at done a known fits short e
looked pool method at done false a known fits short e = ok_then (IsAttribute a) (attribute.Other a) known e (refl, short)

abbrev AttributeTaken : Place → MethodAttribute × Place → Type 0
AttributeTaken file x = Takes file (method_attribute_bytes x.0) x.1 × MethodAttributeFits x.0

method_attribute_spelled : (pool : Slots) (method : ℕ) (done : Bool) (file : Place) (x : MethodAttribute × Place) → IsBytes file.1
    → method_attribute_at pool method done file ≡ Ok x → AttributeTaken file x
unfolding method_attribute_at
method_attribute_spelled pool method done file x fits e =
    bind_then (placed of_item (attribute_at pool file)) _ x e (λ a is_a then_a.
    bind_then (looked_into pool method file.0 done a.0) _ x then_a (λ known is_known ends.
    let p = attribute_spelled pool file a fits is_a in
    let are_bytes = content_are_bytes pool file a fits (placed_ok of_item (attribute_at pool file) a is_a) in
    let q = looked pool method file.0 done (is_text pool a.0.name (codes "Code")) a.0 known are_bytes p.1 is_known in
    ok_then (AttributeTaken file) (known, a.1) x ends (subst (λ (text : List ℕ). Takes file text a.1) q.0 p.0, q.1)))

method_attributes_spelled : (pool : Slots) (method : ℕ) (count : ℕ) (done : Bool) (file : Place) (x : List MethodAttribute × Place) → IsBytes file.1
    → method_attributes_from pool method done count file ≡ Ok x
    → AreTaken MethodAttributeFits method_attribute_bytes count file x
unfolding method_attributes_from
method_attributes_spelled pool method zero done file x fits e =
    ok_then (AreTaken MethodAttributeFits method_attribute_bytes 0 file) ([], file) x e (none_spelled MethodAttributeFits method_attribute_bytes file fits)
method_attributes_spelled pool method (suc count) done file x fits e =
    bind_then (method_attribute_at pool method done file) _ x e (λ first is_first then_first.
    bind_then (method_attributes_from pool method (done || is_code first.0) count first.1) _ x then_first (λ others is_others ends.
    let p = method_attribute_spelled pool method done file first fits is_first in
    let q = method_attributes_spelled pool method count (done || is_code first.0) first.1 others p.0.rest_fits is_others in
    ok_then (AreTaken MethodAttributeFits method_attribute_bytes (suc count) file) (first.0 ∷ others.0, others.1) x ends
    (one_more MethodAttributeFits method_attribute_bytes count file first others p q)))

-- ---- methods

abbrev MethodTaken : Place → Method × Place → Type 0
MethodTaken file x = Takes file (method_bytes x.0) x.1 × MethodFits x.0

method_spelled : (pool : Slots) (method : ℕ) (file : Place) (x : Method × Place) → IsBytes file.1
    → method_at pool method file ≡ Ok x → MethodTaken file x
unfolding method_at
method_spelled pool method file x fits e =
    bind_then (number 2 file) _ x e (λ access is_access then_access.
    bind_then (index pool Utf8 access.1) _ x then_access (λ name is_name then_name.
    bind_then (index pool Utf8 name.1) _ x then_name (λ descriptor is_descriptor then_descriptor.
    bind_then (unless (not (is_method (kind_at pool descriptor.0))) (refusal.BadDescriptor descriptor.0)) _ x then_descriptor (λ typed is_typed then_typed.
    bind_then (number 2 descriptor.1) _ x then_typed (λ count is_count then_count.
    bind_then (method_attributes_from pool method (has_no_code access.0) count.0 count.1) _ x then_count (λ attributes is_attributes then_attributes.
    bind_then (unless (not (has_no_code access.0 || list_any is_code attributes.0)) (refusal.BadAttribute file.0)) _ x then_attributes (λ coded is_coded ends.
    let p = number_spelled 2 file access fits is_access in
    let q = index_spelled pool Utf8 access.1 name p.0.rest_fits is_name in
    let r = index_spelled pool Utf8 name.1 descriptor q.rest_fits is_descriptor in
    let s = number_spelled 2 descriptor.1 count r.rest_fits is_count in
    let t = method_attributes_spelled pool method count.0 (has_no_code access.0) count.1 attributes s.0.rest_fits is_attributes in
    let u = counted MethodAttributeFits method_attribute_bytes descriptor.1 count attributes s t in
    let v = member_head file access.1 name.1 descriptor.1 attributes.1 access.0 name.0 descriptor.0
    (big_bytes 2 (length attributes.0) ++ flat_map method_attribute_bytes attributes.0) p.0 q r u.takes in
    ok_then (MethodTaken file) _ x ends (v, record { count = u.count; contents = u.each }))))))))

methods_spelled : (pool : Slots) (count : ℕ) (method : ℕ) (file : Place) (x : List Method × Place)
    → IsBytes file.1
    → methods_from pool method count file ≡ Ok x → AreTaken MethodFits method_bytes count file x
unfolding methods_from
methods_spelled pool zero method file x fits e = ok_then (AreTaken MethodFits method_bytes 0 file) ([], file) x e (none_spelled MethodFits method_bytes file fits)
methods_spelled pool (suc count) method file x fits e =
    bind_then (method_at pool method file) _ x e (λ first is_first then_first.
    bind_then (methods_from pool (method + 1) count first.1) _ x then_first (λ others is_others ends.
    let p = method_spelled pool method file first fits is_first in
    let q = methods_spelled pool count (method + 1) first.1 others p.0.rest_fits is_others in
    ok_then (AreTaken MethodFits method_bytes (suc count) file) (first.0 ∷ others.0, others.1) x ends (one_more MethodFits method_bytes count file first others p q)))

pub all_methods_spelled : (pool : Slots) (file : Place) (x : List Method × Place) → IsBytes file.1
    → methods_at pool file ≡ Ok x → Counted MethodFits method_bytes file x
unfolding methods_at
all_methods_spelled pool file x fits e =
    bind_then (number 2 file) _ x e (λ count is_count ends.
    let p = number_spelled 2 file count fits is_count in
    counted MethodFits method_bytes file count x p (methods_spelled pool count.0 0 count.1 x p.0.rest_fits ends))
