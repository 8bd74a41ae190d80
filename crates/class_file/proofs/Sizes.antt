-- The counts of a class file that can be read are within their ranges, and each instruction has a byte of it.
use Rattle.std.proofs.Common.{◌≡◌, ℕ, zero, suc, ◌+◌, ◌^◌, ◌<◌, ◌≤◌, not, ltb, Bool, true, false, cond, ◌||◌, List, [], ◌∷◌, ◌++◌}
use Rattle.std.proofs.Common.{length, take, drop, Option, Some, None, Result, Ok, Err, refl, sym, subst, arith}
use Rattle.std.specs.Prelude.{All, codes, sum_by}
use Rattle.std.specs.List.{flat_map, list_any}
use Rattle.std.proofs.lemmas.List.{length-append, length-take}
use Rattle.std.proofs.lemmas.List.Concat.{flat_map-cons}
use Rattle.std.proofs.lemmas.List.Elements.{All-nil, All-cons, All-head, All-tail}
use Rattle.std.proofs.lemmas.List.Sums.{sum_by-cons}
use Rattle.byteorder.specs.Endian.{big_bytes}
use Rattle.const_pool.specs.declared.entry.Tag.TheVariants.{Utf8, Class}
use Rattle.const_pool.specs.Pool.{Slots, slot_bytes}
use Rattle.const_pool.specs.Reading.{pool_in}
use Rattle.const_pool.proofs.Pools.{pool_stands}
use Rattle.parsing.specs.Places.{Place}
use Rattle.parsing.specs.Results.{placed, unless, unless_found}
use Rattle.parsing.proofs.Numbers.{length-big}
use Rattle.parsing.proofs.Steps.{bind_ok, ok_is, placed_ok}
use Rattle.code_form.specs.declared.ins.Placed.{Placed}
use Rattle.code_form.specs.declared.refusal.CodeRefusal.{CodeRefusal}
use Rattle.code_form.specs.Reading.{code_of, first_astray, front_of, ins_at, placed_at, unless_astray}
use Rattle.code_form.specs.Spelling.{longest}
use Rattle.code_attribute.specs.declared.code.Code.{Code}
use Rattle.code_attribute.specs.declared.fault.CodeFault.{CodeFault}
use Rattle.code_attribute.specs.Code as attributes
use Rattle.code_attribute.specs.Code.{code_attribute_at, code_attribute_bytes}
use Rattle.code_attribute.specs.Operands.{first_wrong_operand}
use Rattle.code_attribute.specs.declared.fault.CodeFault.TheVariants as fault
use Rattle.class_items.specs.declared.attribute.Attribute.{Attribute}
use Rattle.class_items.specs.Items.{attribute_at, attributes_at, attributes_bytes}
use Rattle.class_items.specs.Kinds.{kind_at}
use Rattle.class_file.specs.declared.class.ClassFile.{ClassFile}
use Rattle.class_file.specs.declared.method.Method.{Method}
use Rattle.class_file.specs.declared.method.MethodAttribute.{MethodAttribute}
use Rattle.class_file.specs.declared.method.MethodAttribute.TheVariants as attribute
use Rattle.class_file.specs.declared.refusal.ClassRefusal.TheVariants as refusal
use Rattle.class_file.specs.Refusals.{of_item, of_code, of_pool}
use Rattle.class_file.specs.Members.{number, index, is_text, is_method, has_no_code, is_code, code_at, code_in, counted_ops, looked_into}
use Rattle.class_file.specs.Members.{method_attribute_at, method_attributes_from, method_at, methods_from, methods_at, fields_at}
use Rattle.class_file.specs.Members.{field_bytes, method_attribute_bytes, method_bytes, op_count}
use Rattle.class_file.specs.Classes.{CanBeRead, head_at, this_at, interfaces_at, behind_at, class_in, head_bytes, class_bytes}
use Rattle.class_file.specs.Fits.{Fits, MethodAttributeFits, MethodFits}
use Rattle.class_file.proofs.SpelledFields.{bind_then, ok_then}
use Rattle.class_file.proofs.Spelled.{class_spelled}

-- ---- no instruction is empty

placed_few : (limit total : ℕ) (bytes : List ℕ) (code : List Placed) → placed_at limit total bytes ≡ Ok code → length code ≤ limit
unfolding placed_at
placed_few limit total [] code e = subst (λ (ps : List Placed). length ps ≤ limit) (ok_is CodeRefusal [] code e) (omega arith)
placed_few zero total (b ∷ bytes) code e = subst (λ (ps : List Placed). length ps ≤ 0) (ok_is CodeRefusal [] code e) (omega arith)
placed_few (suc limit) total (b ∷ bytes) code e =
    let first = bind_ok (ins_at _ (b ∷ bytes)) _ code e in
    let others = bind_ok (placed_at limit total first.0.1) _ code first.2 in
    let few = placed_few limit total first.0.1 others.0 others.1 in
    subst (λ (ps : List Placed). length ps ≤ suc limit) (ok_is CodeRefusal _ code others.2) (omega (arith, few))

not_refused : (wrong : Bool) (d : CodeRefusal) (code whole : List Placed) → cond wrong (Err d) (Ok code) ≡ Ok whole → code ≡ whole
not_refused true d code whole e = absurd cc
not_refused false d code whole e = cc

not_astray : (code whole : List Placed) (o : Option Placed) → unless_astray code o ≡ Ok whole → code ≡ whole
not_astray code whole None e = cc
not_astray code whole (Some p) e = absurd cc

instructions_few : (bytes : List ℕ) (code : List Placed) → code_of bytes ≡ Ok code → length code ≤ length bytes
unfolding code_of front_of
instructions_few bytes code e =
    let front = take longest bytes in
    let read = bind_ok (placed_at (length front) (length front) front) _ code e in
    let whole = bind_ok (cond (ltb longest (length bytes)) (Err _) (Ok read.0)) _ code read.2 in
    let few = placed_few (length front) (length front) front read.0 read.1 in
    let same = not_refused (ltb longest (length bytes)) _ read.0 whole.0 whole.1 in
    let is = not_astray whole.0 code (first_astray whole.0) whole.2 in
    let size = length-take longest bytes in
    subst (λ (ps : List Placed). length ps ≤ length bytes) is
    (subst (λ (ps : List Placed). length ps ≤ length bytes) same (omega (arith, few, size)))

code_counted : (pool : Slots) (file : Place) (c : Code) → code_attribute_at pool file ≡ Ok c → length c.instructions ≤ length c.bytes
unfolding code_attribute_at
code_counted pool file c e =
    let stack = bind_ok (attributes.number 2 file) _ c e in
    let locals = bind_ok (attributes.number 2 stack.0.1) _ c stack.2 in
    let bytes = bind_ok (attributes.code_bytes_at locals.0.1) _ c locals.2 in
    let code = bind_ok (placed attributes.of_code (code_of bytes.0.0)) _ c bytes.2 in
    let operands = bind_ok (unless_found (first_wrong_operand pool code.0) (λ fault. fault)) _ c code.2 in
    let handlers = bind_ok (attributes.handlers_at pool code.0 (length bytes.0.0) bytes.0.1) _ c operands.2 in
    let others = bind_ok (placed attributes.of_item (attributes_at pool handlers.0.1)) _ c handlers.2 in
    let ended = bind_ok (unless (ltb 0 (length others.0.1.1)) fault.BadForm) _ c others.2 in
    subst (λ (d : Code). length d.instructions ≤ length d.bytes) (ok_is CodeFault _ c ended.2)
    (instructions_few bytes.0.0 code.0 (placed_ok attributes.of_code (code_of bytes.0.0) code.0 code.1))

-- ---- the methods of a file

abbrev IsCounted : MethodAttribute → Type 0
IsCounted (attribute.Code name code) = length code.instructions ≤ length code.bytes
IsCounted (attribute.Other a) = Unit {0}

code_is : (pool : Slots) (method at : ℕ) (done : Bool) (a : Attribute) (known : MethodAttribute)
    → code_at pool method at done a ≡ Ok known → IsCounted known
unfolding code_at
code_is pool method at done a known e =
    bind_then (unless done (refusal.BadAttribute at)) _ known e (λ once is_once then_once.
    bind_then (placed (of_code method at) (code_attribute_at pool (at + 6, a.content))) _ known then_once (λ code is_read ends.
    ok_then IsCounted (attribute.Code a.name code) known ends (code_counted pool (at + 6, a.content) code
    (placed_ok (of_code method at) (code_attribute_at pool (at + 6, a.content)) code is_read))))

looked : (pool : Slots) (method at : ℕ) (done found : Bool) (a : Attribute) (known : MethodAttribute)
    → cond found (code_at pool method at done a) (Ok (attribute.Other a)) ≡ Ok known → IsCounted known
looked pool method at done true a known e = code_is pool method at done a known e
looked pool method at done false a known e = ok_then IsCounted (attribute.Other a) known e tt

attribute_counted : (pool : Slots) (method : ℕ) (done : Bool) (file : Place) (x : MethodAttribute × Place)
    → method_attribute_at pool method done file ≡ Ok x → IsCounted x.0
unfolding method_attribute_at
attribute_counted pool method done file x e =
    bind_then (placed of_item (attribute_at pool file)) _ x e (λ a is_a then_a.
    bind_then (looked_into pool method file.0 done a.0) _ x then_a (λ known is_known ends.
    ok_then (λ (y : MethodAttribute × Place). IsCounted y.0) (known, a.1) x ends
    (looked pool method file.0 done (is_text pool a.0.name (codes "Code")) a.0 known is_known)))

attributes_counted : (pool : Slots) (method count : ℕ) (done : Bool) (file : Place) (x : List MethodAttribute × Place)
    → method_attributes_from pool method done count file ≡ Ok x → All IsCounted x.0
unfolding method_attributes_from
attributes_counted pool method zero done file x e =
    ok_then (λ (y : List MethodAttribute × Place). All IsCounted y.0) ([], file) x e (All-nil IsCounted)
attributes_counted pool method (suc count) done file x e =
    bind_then (method_attribute_at pool method done file) _ x e (λ first is_first then_first.
    bind_then (method_attributes_from pool method (done || is_code first.0) count first.1) _ x then_first (λ others is_others ends.
    ok_then (λ (y : List MethodAttribute × Place). All IsCounted y.0) (first.0 ∷ others.0, others.1) x ends
    (All-cons IsCounted first.0 others.0 (attribute_counted pool method done file first is_first)
    (attributes_counted pool method count (done || is_code first.0) first.1 others is_others))))

abbrev AreCounted : Method → Type 0
AreCounted m = All IsCounted m.attributes

method_counted : (pool : Slots) (method : ℕ) (file : Place) (x : Method × Place) → method_at pool method file ≡ Ok x → AreCounted x.0
unfolding method_at
method_counted pool method file x e =
    bind_then (number 2 file) _ x e (λ access is_access then_access.
    bind_then (index pool Utf8 access.1) _ x then_access (λ name is_name then_name.
    bind_then (index pool Utf8 name.1) _ x then_name (λ descriptor is_descriptor then_descriptor.
    bind_then (unless (not (is_method (kind_at pool descriptor.0))) (refusal.BadDescriptor descriptor.0)) _ x then_descriptor (λ typed is_typed then_typed.
    bind_then (number 2 descriptor.1) _ x then_typed (λ count is_count then_count.
    bind_then (method_attributes_from pool method (has_no_code access.0) count.0 count.1) _ x then_count (λ attributes is_attributes then_attributes.
    bind_then (unless (not (has_no_code access.0 || list_any is_code attributes.0)) (refusal.BadAttribute file.0)) _ x then_attributes (λ coded is_coded ends.
    ok_then (λ (y : Method × Place). AreCounted y.0) _ x ends
    (attributes_counted pool method count.0 (has_no_code access.0) count.1 attributes is_attributes))))))))

methods_counted : (pool : Slots) (count method : ℕ) (file : Place) (x : List Method × Place)
    → methods_from pool method count file ≡ Ok x → All AreCounted x.0
unfolding methods_from
methods_counted pool zero method file x e =
    ok_then (λ (y : List Method × Place). All AreCounted y.0) ([], file) x e (All-nil AreCounted)
methods_counted pool (suc count) method file x e =
    bind_then (method_at pool method file) _ x e (λ first is_first then_first.
    bind_then (methods_from pool (method + 1) count first.1) _ x then_first (λ others is_others ends.
    ok_then (λ (y : List Method × Place). All AreCounted y.0) (first.0 ∷ others.0, others.1) x ends
    (All-cons AreCounted first.0 others.0 (method_counted pool method file first is_first)
    (methods_counted pool count (method + 1) first.1 others is_others))))

all_methods_counted : (pool : Slots) (file : Place) (x : List Method × Place) → methods_at pool file ≡ Ok x → All AreCounted x.0
unfolding methods_at
all_methods_counted pool file x e = bind_then (number 2 file) _ x e (λ count is_count ends. methods_counted pool count.0 0 count.1 x ends)

record IsBehind (pool : Slots) (c : ClassFile) : Type 0 where
  same_pool : c.pool ≡ pool
  methods : All AreCounted c.methods

behind_counted : (pool : Slots) (file : Place) (c : ClassFile) → behind_at pool file ≡ Ok c → IsBehind pool c
unfolding behind_at
behind_counted pool file c e =
    bind_then (number 2 file) _ c e (λ access is_access then_access.
    bind_then (this_at pool access.1) _ c then_access (λ this is_this then_this.
    bind_then (index pool Class this.1) _ c then_this (λ super is_super then_super.
    bind_then (interfaces_at pool super.1) _ c then_super (λ interfaces are_interfaces then_interfaces.
    bind_then (fields_at pool interfaces.1) _ c then_interfaces (λ fields are_fields then_fields.
    bind_then (methods_at pool fields.1) _ c then_fields (λ methods are_methods then_methods.
    bind_then (placed of_item (attributes_at pool methods.1)) _ c then_methods (λ attributes are_attributes then_attributes.
    bind_then (unless (ltb 0 (length attributes.1.1)) (refusal.TrailingBytes attributes.1.0)) _ c then_attributes (λ ended is_ended ends.
    ok_then (IsBehind pool) _ c ends (record {
      same_pool = refl;
      methods = all_methods_counted pool fields.1 methods are_methods;
    })))))))))

record IsSized (c : ClassFile) : Type 0 where
  pool : length c.pool < 2 ^ 16
  methods : All AreCounted c.methods

file_sized : (c : ClassFile) (h : CanBeRead c) → class_in h.bytes ≡ Ok c → IsSized c
unfolding class_in
file_sized c h e =
    bind_then (head_at (0, h.bytes)) _ c e (λ head is_head then_head.
    bind_then (placed of_pool (pool_in h.bytes)) _ c then_head (λ pool is_pool ends.
    let stands = pool_stands h.bytes pool h.are_bytes (placed_ok of_pool (pool_in h.bytes) pool is_pool) in
    let behind = behind_counted pool.0 (pool.1, drop pool.1 h.bytes) c ends in
    record {
      pool = subst (λ (slots : Slots). length slots < 2 ^ 16) (sym behind.same_pool) stands.pool.count;
      methods = behind.methods;
    }))

-- a pool has fewer entries than its count has numbers
pub pool_short : (c : ClassFile) → CanBeRead c → length c.pool < 2 ^ 16
pool_short c h = (file_sized c h h.read).pool

-- ---- the bytes of codes

code_fits : (xs : List MethodAttribute) (code : Code) → All MethodAttributeFits xs → code_in xs ≡ Some code → length code.bytes < 2 ^ 32
code_fits [] code h e = absurd cc
code_fits (attribute.Code name own ∷ xs) code h e =
    let same : own ≡ code = cc in
    let fits = (All-head MethodAttributeFits (attribute.Code name own) xs h).0 in
    subst (λ (d : Code). length d.bytes < 2 ^ 32) same fits.bytes
code_fits (attribute.Other a ∷ xs) code h e = code_fits xs code (All-tail MethodAttributeFits (attribute.Other a) xs h) e

-- a code has fewer bytes than its length has numbers
pub codes_short : (c : ClassFile) → CanBeRead c → All (λ (m : Method). (code : Code) → code_in m.attributes ≡ Some code → length code.bytes < 2 ^ 32) c.methods
codes_short c h k d l = λ code e.
    let fits : Fits c = (class_spelled h.bytes c h.are_bytes h.read).1 in
    code_fits _ code (fits.methods k d l).contents e

-- ---- sums

code_room : (xs : List MethodAttribute) → All IsCounted xs → counted_ops (code_in xs) ≤ 1 + length (flat_map method_attribute_bytes xs)
code_room [] h = omega arith
code_room (attribute.Code name code ∷ xs) h =
    let few : length code.instructions ≤ length code.bytes = All-head IsCounted (attribute.Code name code) xs h in
    let own = code.bytes ++ attributes.handlers_bytes code.handlers in
    omega (
      arith,
      few,
      length-append (own ++ attributes_bytes code.attributes) (flat_map method_attribute_bytes xs),
      length-append own (attributes_bytes code.attributes),
      length-append code.bytes (attributes.handlers_bytes code.handlers),
    )
code_room (attribute.Other a ∷ xs) h =
    omega (arith, code_room xs (All-tail IsCounted (attribute.Other a) xs h), length-append a.content (flat_map method_attribute_bytes xs))

method_room : (m : Method) → AreCounted m → op_count m ≤ length (method_bytes m)
method_room m h = omega (arith, code_room m.attributes h)

methods_room : (ms : List Method) → All AreCounted ms → sum_by op_count ms ≤ length (flat_map method_bytes ms)
methods_room [] h = omega arith
methods_room (m ∷ ms) h =
    let own = method_room m (All-head AreCounted m ms h) in
    let others = methods_room ms (All-tail AreCounted m ms h) in
    let sum = sum_by-cons op_count m ms in
    let all = length-append (method_bytes m) (flat_map method_bytes ms) in
    omega (arith, own, others, sum, all)

-- a file has more bytes than its methods have instructions, with an end for each
pub ops_within : (c : ClassFile) → CanBeRead c → sum_by op_count c.methods < length (class_bytes c)
ops_within c h =
    let before =
    flat_map slot_bytes c.pool ++ big_bytes 2 c.access ++ big_bytes 2 c.this_class ++ big_bytes 2 c.super_class
    ++ big_bytes 2 (length c.interfaces) ++ flat_map (big_bytes 2) c.interfaces ++ big_bytes 2 (length c.fields)
    ++ flat_map field_bytes c.fields ++ big_bytes 2 (length c.methods) in
    omega (
      arith,
      methods_room c.methods (file_sized c h h.read).methods,
      length-append before (flat_map method_bytes c.methods),
      length-append (before ++ flat_map method_bytes c.methods) (attributes_bytes c.attributes),
    )
