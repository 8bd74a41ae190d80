-- A Code attribute that is read is spelled so, each byte of it.
use Rattle.std.proofs.Common.{◌≡◌, ℕ, ◌^◌, ◌<◌, ◌≤◌, not, ltb, List, [], ◌++◌, length, Result, Ok, Err, sym, ap, subst, ◌∙◌}
use Rattle.std.proofs.Common.{arith}
use Rattle.std.specs.Prelude.{IfOk, Some}
use Rattle.std.specs.List.{flat_map}
use Rattle.std.proofs.lemmas.Bool.{ltb-false}
use Rattle.std.proofs.lemmas.List.{append-nil, nil_from_length}
use Rattle.byteorder.specs.Endian.{big_bytes}
use Rattle.parsing.specs.Bytes.{IsBytes}
use Rattle.parsing.specs.Results.{Gives, placed, unless, unless_found}
use Rattle.parsing.specs.Places.{Place, field_at, number_at}
use Rattle.parsing.proofs.Steps.{bind_ok, unless_ok, where_ok, ok_is, placed_ok}
use Rattle.parsing.proofs.Fields.{Takes, Takes-then, field_takes, number_takes}
use Rattle.parsing.proofs.Many.{many_taken}
use Rattle.const_pool.specs.Pool.{Slots}
use Rattle.code_form.specs.declared.ins.Placed.{Placed}
use Rattle.code_form.specs.Reading.{code_of}
use Rattle.class_items.specs.Items.{attributes_at, attributes_bytes}
use Rattle.class_items.proofs.Taken.{attributes_taken}
use Rattle.code_attribute.specs.declared.code.Code.{Code}
use Rattle.code_attribute.specs.declared.code.Handler.{Handler}
use Rattle.code_attribute.specs.declared.fault.CodeFault.{CodeFault}
use Rattle.code_attribute.specs.declared.fault.CodeFault.TheVariants as fault
use Rattle.code_attribute.specs.Operands.{first_wrong_operand}
use Rattle.code_attribute.specs.Code.{Fits, of_cut, of_item, of_code, number, is_wrong_size, is_handled, catch_at, handler_at}
use Rattle.code_attribute.specs.Code.{handlers_at, code_bytes_at, code_attribute_at, handler_bytes, handlers_bytes}
use Rattle.code_attribute.specs.Code.{code_attribute_bytes}

number_read : (n : ℕ) (file : Place) (x : ℕ × Place) → IsBytes file.1 → number n file ≡ Ok x
    → Takes file (big_bytes n x.0) x.1 × (x.0 < 256 ^ n)
number_read n file x fits e = number_takes n file x fits (placed_ok of_cut (number_at n file) x e)

-- ---- the exception table

catch_taken : (pool : Slots) (file : Place) (x : ℕ × Place) → IsBytes file.1 → catch_at pool file ≡ Ok x
    → Takes file (big_bytes 2 x.0) x.1
unfolding catch_at
catch_taken pool file x fits e =
    let a = bind_ok (number 2 file) _ x e in
    let g = where_ok _ _ a.0 x a.2 in
    let t = number_read 2 file a.0 fits a.1 in
    subst (λ (y : ℕ × Place). Takes file (big_bytes 2 y.0) y.1) g.1 t.0

handler_taken : (pool : Slots) (code : List Placed) (size : ℕ) (file : Place) (x : Handler × Place)
    → IsBytes file.1 → handler_at pool code size file ≡ Ok x
    → Takes file (handler_bytes x.0) x.1 × Unit {0}
unfolding handler_at
handler_taken pool code size file x fits e =
    let a = bind_ok (number 2 file) _ x e in
    let b = bind_ok (number 2 a.0.1) _ x a.2 in
    let c = bind_ok (number 2 b.0.1) _ x b.2 in
    let d = bind_ok (unless (not (is_handled code size a.0.0 b.0.0 c.0.0)) fault.BadForm) _ x c.2 in
    let k = bind_ok (catch_at pool c.0.1) _ x d.2 in
    let p = number_read 2 file a.0 fits a.1 in
    let q = number_read 2 a.0.1 b.0 p.0.rest_fits b.1 in
    let r = number_read 2 b.0.1 c.0 q.0.rest_fits c.1 in
    let s = catch_taken pool c.0.1 k.0 r.0.rest_fits k.1 in
    let from_handler = Takes-then b.0.1 (big_bytes 2 c.0.0) c.0.1 (big_bytes 2 k.0.0) k.0.1 r.0 s in
    let from_end = Takes-then a.0.1 (big_bytes 2 b.0.0) b.0.1
    (big_bytes 2 c.0.0 ++ big_bytes 2 k.0.0) k.0.1 q.0 from_handler in
    let whole = Takes-then file (big_bytes 2 a.0.0) a.0.1
    (big_bytes 2 b.0.0 ++ big_bytes 2 c.0.0 ++ big_bytes 2 k.0.0) k.0.1 p.0 from_end in
    let made : Handler × Place =
    (record { start = a.0.0; end = b.0.0; handler = c.0.0; catch = k.0.0 }, k.0.1) in
    subst (λ (y : Handler × Place). Takes file (handler_bytes y.0) y.1 × Unit {0})
    (ok_is CodeFault made x k.2) (whole, tt)

handlers_taken : (pool : Slots) (code : List Placed) (size : ℕ) (file : Place) (x : List Handler × Place)
    → IsBytes file.1 → handlers_at pool code size file ≡ Ok x
    → Takes file (handlers_bytes x.0) x.1 × (length x.0 < 2 ^ 16)
unfolding handlers_at
handlers_taken pool code size file x fits e =
    let a = bind_ok (number 2 file) _ x e in
    let p = number_read 2 file a.0 fits a.1 in
    let q = many_taken (λ h. Unit {0}) handler_bytes (handler_at pool code size)
    (handler_taken pool code size) a.0.0 a.0.1 x p.0.rest_fits a.2 in
    let count : Takes file (big_bytes 2 (length x.0)) a.0.1 =
    subst (λ (n : ℕ). Takes file (big_bytes 2 n) a.0.1) (sym q.count) p.0 in (
      Takes-then file (big_bytes 2 (length x.0)) a.0.1 (flat_map handler_bytes x.0) x.1 count q.takes,
      omega (arith, p.1, q.count),
    )

-- ---- the code

-- a length, and the bytes behind it
record CodeTaken (file : Place) (x : List ℕ × Place) : Type 0 where
  middle : Place
  size : Takes file (big_bytes 4 (length x.0)) middle
  bytes : Takes middle x.0 x.1
  short : length x.0 < 2 ^ 32

code_taken : (file : Place) (x : List ℕ × Place) → IsBytes file.1 → code_bytes_at file ≡ Ok x
    → CodeTaken file x
unfolding code_bytes_at
code_taken file x fits e =
    let a = bind_ok (number 4 file) _ x e in
    let b = bind_ok (unless (is_wrong_size a.0.0) fault.BadForm) _ x a.2 in
    let p = number_read 4 file a.0 fits a.1 in
    let r = field_takes a.0.0 a.0.1 x p.0.rest_fits (placed_ok of_cut (field_at a.0.0 a.0.1) x b.2) in
    record {
      middle = a.0.1;
      size = subst (λ (n : ℕ). Takes file (big_bytes 4 n) a.0.1) (sym r.1.0) p.0;
      bytes = r.0;
      short = omega (arith, p.1, r.1.0);
    }

-- ---- the attribute

-- what a Code attribute that was read is
pub record IsSpelled (content : List ℕ) (c : Code) : Type 0 where
  pub bytes : content ≡ code_attribute_bytes c
  pub fits : Fits c
  pub instructions : code_of c.bytes ≡ Ok c.instructions

-- all of the content was taken
all_taken : (file : Place) (text : List ℕ) (after : Place) → Takes file text after → length after.1 ≤ 0
    → file.1 ≡ text
all_taken file text after t ended =
    let none : after.1 ≡ [] = nil_from_length after.1 (omega arith) in
    t.parts ∙ ap (λ (rest : List ℕ). text ++ rest) none ∙ append-nil text

-- the parts of the content, one after the other
parts_taken : (c : Code) (file stack locals bytes handlers after : Place)
    → Takes file (big_bytes 2 c.max_stack) stack → Takes stack (big_bytes 2 c.max_locals) locals
    → CodeTaken locals (c.bytes, bytes) → Takes bytes (handlers_bytes c.handlers) handlers
    → Takes handlers (attributes_bytes c.attributes) after
    → Takes file (code_attribute_bytes c) after
parts_taken c file stack locals bytes handlers after p q r s t =
    let to_locals = Takes-then file (big_bytes 2 c.max_stack) stack (big_bytes 2 c.max_locals) locals p q in
    let to_size = Takes-then file (big_bytes 2 c.max_stack ++ big_bytes 2 c.max_locals) locals
    (big_bytes 4 (length c.bytes)) r.middle to_locals r.size in
    let to_bytes = Takes-then file
    (big_bytes 2 c.max_stack ++ big_bytes 2 c.max_locals ++ big_bytes 4 (length c.bytes)) r.middle c.bytes
    bytes to_size r.bytes in
    let to_handlers = Takes-then file
    (big_bytes 2 c.max_stack ++ big_bytes 2 c.max_locals ++ big_bytes 4 (length c.bytes) ++ c.bytes) bytes
    (handlers_bytes c.handlers) handlers to_bytes s in
    Takes-then file (big_bytes 2 c.max_stack ++ big_bytes 2 c.max_locals ++ big_bytes 4
    (length c.bytes) ++ c.bytes ++ handlers_bytes c.handlers) handlers
    (attributes_bytes c.attributes) after to_handlers t

pub spelled : (pool : Slots) (at : ℕ) (content : List ℕ) (c : Code) → IsBytes content
    → code_attribute_at pool (at, content) ≡ Ok c → IsSpelled content c
unfolding code_attribute_at
spelled pool at content c fits e =
    let file : Place = (at, content) in
    let stack = bind_ok (number 2 file) _ c e in
    let locals = bind_ok (number 2 stack.0.1) _ c stack.2 in
    let bytes = bind_ok (code_bytes_at locals.0.1) _ c locals.2 in
    let code = bind_ok (placed of_code (code_of bytes.0.0)) _ c bytes.2 in
    let operands = bind_ok (unless_found (first_wrong_operand pool code.0) (λ fault. fault)) _ c code.2 in
    let handlers = bind_ok (handlers_at pool code.0 (length bytes.0.0) bytes.0.1) _ c operands.2 in
    let attributes = bind_ok (placed of_item (attributes_at pool handlers.0.1)) _ c handlers.2 in
    let ended = bind_ok (unless (ltb 0 (length attributes.0.1.1)) fault.BadForm) _ c attributes.2 in
    let p = number_read 2 file stack.0 fits stack.1 in
    let q = number_read 2 stack.0.1 locals.0 p.0.rest_fits locals.1 in
    let r = code_taken locals.0.1 bytes.0 q.0.rest_fits bytes.1 in
    let s = handlers_taken pool code.0 (length bytes.0.0) bytes.0.1 handlers.0 r.bytes.rest_fits handlers.1 in
    let t = attributes_taken pool handlers.0.1 attributes.0 s.0.rest_fits
    (placed_ok of_item (attributes_at pool handlers.0.1) attributes.0 attributes.1) in
    let after = attributes.0.1 in
    let made : Code = record {
      max_stack = stack.0.0;
      max_locals = locals.0.0;
      bytes =
          bytes.0.0;
      instructions = code.0;
      handlers = handlers.0.0;
      attributes = attributes.0.0;
    } in
    let whole = parts_taken made file stack.0.1 locals.0.1 bytes.0.1 handlers.0.1 after p.0 q.0 r s.0
    t.takes in
    let done = unless_ok (ltb 0 (length after.1)) fault.BadForm tt ended.0 ended.1 in
    let left : length after.1 ≤ 0 = ltb-false 0 (length after.1) done.0 in
    subst (λ (y : Code). IsSpelled content y) (ok_is CodeFault made c ended.2) record {
      bytes = all_taken file (code_attribute_bytes made) after whole left;
      fits = record { bytes = r.short; handlers = s.1; attributes = t.count; contents = t.sizes };
      instructions = placed_ok of_code (code_of bytes.0.0) code.0 code.1;
    }

-- ---- what a call answered

pub is_spelled : (pool : Slots) (at : ℕ) (content : List ℕ) (file : Place) (r : Result Code CodeFault)
    → IsBytes content → file ≡ (at, content)
    → Gives (Some fault.OutOfMemory) (λ c. c) r (code_attribute_at pool file) → IfOk r (IsSpelled content)
is_spelled pool at content file (Ok c) fits begins given =
    spelled pool at content c fits (ap (code_attribute_at pool) (sym begins) ∙ given)
is_spelled pool at content file (Err e) fits begins given = tt
