-- Reading goes forward: what is left is no longer than what was there.
use Rattle.std.proofs.Common.{◌≡◌, ℕ, zero, suc, ◌+◌, ◌^◌, ◌≤◌, ◌<◌, Bool, true, false, cond, ltb, List, [], ◌∷◌, length}
use Rattle.std.proofs.Common.{Option, Some, Result, Ok, Err, subst, arith, length-drop}
use Rattle.std.specs.Prelude.{IfOk, int_lt, unsigned_abs, ◌-ℤ◌}
use Rattle.std.specs.Int.{Width, w8, w16, w32, byte_len}
use Rattle.parsing.specs.Results.{◌>>=◌, many_from}
use Rattle.code_form.specs.declared.refusal.CodeRefusal.{CodeRefusal}
use Rattle.code_form.specs.declared.table.Form.{Form}
use Rattle.code_form.specs.declared.table.Form.TheVariants as forms
use Rattle.code_form.specs.declared.ins.Ins.{Ins}
use Rattle.code_form.specs.Spelling.{padding}
use Rattle.code_form.proofs.Numbers.{byte_again}
use Rattle.code_form.specs.Reading.{bytes_at, unsigned_at, signed_at, target_at, known_form, known_primitive, form_of}
use Rattle.code_form.specs.Reading.{primitive_of, interface_at, new_array_at, increment_at, widened_at, wide_at, case_at}
use Rattle.code_form.specs.Reading.{table_at, lookup_at, operands_at, ins_at}

-- where a step succeeds, at most so many bytes are left
abbrev pub Leaves : {X : Type 0} → Result (X × List ℕ) CodeRefusal → ℕ → Type 0
Leaves r n = IfOk r (λ x. length x.1 ≤ n)

then_leaves : {X Y : Type 0} (r : Result (X × List ℕ) CodeRefusal)
    (f : X × List ℕ → Result (Y × List ℕ) CodeRefusal) (n : ℕ)
    → Leaves r n → ((x : X × List ℕ) → length x.1 ≤ n → Leaves (f x) n) → Leaves (r >>= f) n
then_leaves (Ok x) f n h step = step x h
then_leaves (Err e) f n h step = tt

-- a step that reads nothing
known_leaves : {X Y : Type 0} (r : Result X CodeRefusal) (f : X → Result (Y × List ℕ) CodeRefusal) (n : ℕ)
    → ((x : X) → Leaves (f x) n) → Leaves (r >>= f) n
known_leaves (Ok x) f n step = step x
known_leaves (Err e) f n step = tt

either_leaves : {X : Type 0} (b : Bool) (r s : Result (X × List ℕ) CodeRefusal) (n : ℕ) → Leaves r n
    → Leaves s n → Leaves (cond b r s) n
either_leaves true r s n h k = h
either_leaves false r s n h k = k

bytes_leave : (pc m : ℕ) (bytes : List ℕ) (n : ℕ) → length bytes ≤ n → Leaves (bytes_at pc m bytes) n
bytes_leave pc m bytes n h =
    either_leaves (ltb (length bytes) m) _ _ n tt (omega (arith, length-drop m bytes))

unsigned_leaves : (pc m : ℕ) (bytes : List ℕ) (n : ℕ) → length bytes ≤ n → Leaves (unsigned_at pc m bytes) n
unfolding unsigned_at
unsigned_leaves pc m bytes n h = then_leaves (bytes_at pc m bytes) _ n (bytes_leave pc m bytes n h) (λ x k. k)

signed_leaves : (pc : ℕ) (w : Width) (bytes : List ℕ) (n : ℕ) → length bytes ≤ n
    → Leaves (signed_at pc w bytes) n
unfolding signed_at
signed_leaves pc w bytes n h =
    then_leaves (unsigned_at pc (byte_len w) bytes) _ n (unsigned_leaves pc (byte_len w) bytes n h) (λ x k. k)

target_leaves : (pc : ℕ) (w : Width) (bytes : List ℕ) (n : ℕ) → length bytes ≤ n
    → Leaves (target_at pc w bytes) n
unfolding target_at
target_leaves pc w bytes n h =
    then_leaves (signed_at pc w bytes) _ n (signed_leaves pc w bytes n h) (λ x k. k)

case_leaves : (pc : ℕ) (bytes : List ℕ) (n : ℕ) → length bytes ≤ n → Leaves (case_at pc bytes) n
unfolding case_at
case_leaves pc bytes n h =
    then_leaves (signed_at pc w32 bytes) _ n (signed_leaves pc w32 bytes n h)
    (λ key k. then_leaves (target_at pc w32 key.1) _ n (target_leaves pc w32 key.1 n k) (λ x l. l))

many_leave : {X : Type 0} (read : List ℕ → Result (X × List ℕ) CodeRefusal) (n : ℕ)
    → ((bytes : List ℕ) → length bytes ≤ n → Leaves (read bytes) n)
    → (count : ℕ) (bytes : List ℕ) → length bytes ≤ n → Leaves (many_from read count bytes) n
unfolding many_from
many_leave read n each zero bytes h = h
many_leave read n each (suc count) bytes h =
    then_leaves (read bytes) _ n (each bytes h)
    (λ first k. then_leaves (many_from read count first.1) _ n (many_leave read n each count first.1 k)
    (λ x l. l))

table_leaves : (pc : ℕ) (bytes : List ℕ) (n : ℕ) → length bytes ≤ n → Leaves (table_at pc bytes) n
unfolding table_at
table_leaves pc bytes n h =
    then_leaves (bytes_at pc (padding pc) bytes) _ n (bytes_leave pc (padding pc) bytes n h)
    (λ pad h0. then_leaves (target_at pc w32 pad.1) _ n (target_leaves pc w32 pad.1 n h0)
    (λ default h1. then_leaves (signed_at pc w32 default.1) _ n (signed_leaves pc w32 default.1 n h1)
    (λ low h2. then_leaves (signed_at pc w32 low.1) _ n (signed_leaves pc w32 low.1 n h2)
    (λ high h3. then_leaves (cond (int_lt high.0 low.0) _ _) _ n
    (either_leaves (int_lt high.0 low.0) _ _ n tt
    (many_leave (target_at pc w32) n (λ b k. target_leaves pc w32 b n k)
    (unsigned_abs (high.0 -ℤ low.0) + 1) high.1 h3))
    (λ x l. l)))))

lookup_leaves : (pc : ℕ) (bytes : List ℕ) (n : ℕ) → length bytes ≤ n → Leaves (lookup_at pc bytes) n
unfolding lookup_at
lookup_leaves pc bytes n h =
    then_leaves (bytes_at pc (padding pc) bytes) _ n (bytes_leave pc (padding pc) bytes n h)
    (λ pad h0. then_leaves (target_at pc w32 pad.1) _ n (target_leaves pc w32 pad.1 n h0)
    (λ default h1. then_leaves (unsigned_at pc 4 default.1) _ n (unsigned_leaves pc 4 default.1 n h1)
    (λ count h2. then_leaves (cond (ltb count.0 (2 ^ 31)) _ _) _ n
    (either_leaves (ltb count.0 (2 ^ 31)) _ _ n
    (many_leave (case_at pc) n (λ b k. case_leaves pc b n k) count.0 count.1 h2) tt)
    (λ x l. l))))

interface_leaves : (pc : ℕ) (bytes : List ℕ) (n : ℕ) → length bytes ≤ n → Leaves (interface_at pc bytes) n
unfolding interface_at
interface_leaves pc bytes n h =
    then_leaves (unsigned_at pc 2 bytes) _ n (unsigned_leaves pc 2 bytes n h)
    (λ index h0. then_leaves (unsigned_at pc 1 index.1) _ n (unsigned_leaves pc 1 index.1 n h0)
    (λ count h1. then_leaves (bytes_at pc 1 count.1) _ n (bytes_leave pc 1 count.1 n h1) (λ x l. l)))

new_array_leaves : (pc : ℕ) (bytes : List ℕ) (n : ℕ) → length bytes ≤ n → Leaves (new_array_at pc bytes) n
unfolding new_array_at
new_array_leaves pc bytes n h =
    then_leaves (unsigned_at pc 1 bytes) _ n (unsigned_leaves pc 1 bytes n h)
    (λ code h0. known_leaves (known_primitive pc code.0 (primitive_of code.0)) _ n (λ p. h0))

increment_leaves : (pc : ℕ) (bytes : List ℕ) (n : ℕ) → length bytes ≤ n → Leaves (increment_at pc bytes) n
unfolding increment_at
increment_leaves pc bytes n h =
    then_leaves (unsigned_at pc 1 bytes) _ n (unsigned_leaves pc 1 bytes n h)
    (λ local h0. then_leaves (signed_at pc w8 local.1) _ n (signed_leaves pc w8 local.1 n h0) (λ x l. l))

widened_leaves : (pc : ℕ) (form : Option Form) (bytes : List ℕ) (n : ℕ) → length bytes ≤ n
    → Leaves (widened_at pc form bytes) n
unfolding widened_at
widened_leaves pc (Some (forms.Variable access sort)) bytes n h =
    then_leaves (unsigned_at pc 2 bytes) _ n (unsigned_leaves pc 2 bytes n h) (λ x l. l)
widened_leaves pc (Some forms.Increment) bytes n h =
    then_leaves (unsigned_at pc 2 bytes) _ n (unsigned_leaves pc 2 bytes n h)
    (λ local h0. then_leaves (signed_at pc w16 local.1) _ n (signed_leaves pc w16 local.1 n h0) (λ x l. l))
widened_leaves pc _ bytes n h = tt

wide_leaves : (pc : ℕ) (bytes : List ℕ) (n : ℕ) → length bytes ≤ n → Leaves (wide_at pc bytes) n
unfolding wide_at
wide_leaves pc bytes n h =
    then_leaves (unsigned_at pc 1 bytes) _ n (unsigned_leaves pc 1 bytes n h)
    (λ opcode h0. widened_leaves pc (form_of opcode.0) opcode.1 n h0)

operands_leave : (form : Form) (pc : ℕ) (bytes : List ℕ) (n : ℕ) → length bytes ≤ n
    → Leaves (operands_at form pc bytes) n
unfolding operands_at
operands_leave (forms.Plain p) pc bytes n h = h
operands_leave (forms.ShortVariable access sort slot) pc bytes n h = h
operands_leave (forms.Variable access sort) pc bytes n h =
    then_leaves (unsigned_at pc 1 bytes) _ n (unsigned_leaves pc 1 bytes n h) (λ x l. l)
operands_leave forms.PushByte pc bytes n h =
    then_leaves (signed_at pc w8 bytes) _ n (signed_leaves pc w8 bytes n h) (λ x l. l)
operands_leave forms.PushShort pc bytes n h =
    then_leaves (signed_at pc w16 bytes) _ n (signed_leaves pc w16 bytes n h) (λ x l. l)
operands_leave forms.LoadConstant pc bytes n h =
    then_leaves (unsigned_at pc 1 bytes) _ n (unsigned_leaves pc 1 bytes n h) (λ x l. l)
operands_leave (forms.Pool usage) pc bytes n h =
    then_leaves (unsigned_at pc 2 bytes) _ n (unsigned_leaves pc 2 bytes n h) (λ x l. l)
operands_leave forms.InvokeInterface pc bytes n h = interface_leaves pc bytes n h
operands_leave forms.NewArray pc bytes n h = new_array_leaves pc bytes n h
operands_leave forms.Increment pc bytes n h = increment_leaves pc bytes n h
operands_leave (forms.Branch b) pc bytes n h =
    then_leaves (target_at pc w16 bytes) _ n (target_leaves pc w16 bytes n h) (λ x l. l)
operands_leave forms.GotoWide pc bytes n h =
    then_leaves (target_at pc w32 bytes) _ n (target_leaves pc w32 bytes n h) (λ x l. l)
operands_leave forms.TableSwitch pc bytes n h = table_leaves pc bytes n h
operands_leave forms.LookupSwitch pc bytes n h = lookup_leaves pc bytes n h
operands_leave forms.Wide pc bytes n h = wide_leaves pc bytes n h

-- an instruction takes its opcode at least
ins_leaves : (pc b : ℕ) (bytes : List ℕ) → Leaves (ins_at pc (b ∷ bytes)) (length bytes)
unfolding ins_at
ins_leaves pc b bytes =
    rw (byte_again pc b bytes)
    (known_leaves (known_form pc b (form_of b)) (λ form. operands_at form pc bytes) (length bytes)
    (λ form. operands_leave form pc bytes (length bytes) (omega arith)))

pub ins_shorter : (pc : ℕ) (bytes : List ℕ) (x : Ins × List ℕ) → 0 < length bytes → ins_at pc bytes ≡ Ok x
    → length x.1 < length bytes
ins_shorter pc [] x more e = absurd (omega arith)
ins_shorter pc (b ∷ bytes) x more e =
    let left : Leaves (Ok x) (length bytes) =
    subst (λ (r : Result (Ins × List ℕ) CodeRefusal). Leaves r (length bytes)) e (ins_leaves pc b bytes) in
    omega (arith, left)
