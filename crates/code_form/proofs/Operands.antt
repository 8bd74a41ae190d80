-- An instruction that is read is spelled by what was read, and what is spelled is read again.
use Rattle.std.proofs.Common.{◌≡◌, ℕ, zero, suc, ◌+◌, ◌^◌, ◌<◌, ◌≤◌, Bool, true, false, cond, eqb, ltb, List, [], ◌∷◌, ◌++◌}
use Rattle.std.proofs.Common.{length, map, Option, Some, None, Result, Ok, Err, refl, sym, ap, subst, ◌∙◌, append_assoc, arith}
use Rattle.std.proofs.Common.{ℤ, pos, negsuc, ◌<ℤ◌, ◌+ℤ◌, ◌-ℤ◌, ◌≤ℤ◌}
use Rattle.std.specs.Prelude.{FitsSigned, int_lt, unsigned_abs, ⊤, ◌||◌}
use Rattle.std.specs.List.{flat_map, AllByRecursion}
use Rattle.std.specs.Int.{Width, w8, w16, w32}
use Rattle.std.proofs.lemmas.Int.{ints}
use Rattle.std.proofs.lemmas.Bool.{false_from_ne_true, ltb-true, lt-ltb}
use Rattle.std.specs.Int.Signed.{lt_z_no, lt_z_yes}
use Rattle.byteorder.specs.Endian.{big_bytes}
use Rattle.parsing.specs.Bytes.{IsBytes}
use Rattle.parsing.specs.Results.{◌>>=◌, many_from}
use Rattle.parsing.proofs.Steps.{bind_ok, ok_is}
use Rattle.code_form.specs.declared.refusal.CodeRefusal.{CodeRefusal}
use Rattle.code_form.specs.declared.refusal.CodeRefusal.TheVariants.{BadTarget}
use Rattle.code_form.specs.declared.table.Form.{Form}
use Rattle.code_form.specs.declared.table.Form.TheVariants as forms
use Rattle.code_form.specs.declared.ins.Case.{Case}
use Rattle.code_form.specs.declared.ins.Local.TheVariants as locals
use Rattle.code_form.specs.declared.ins.Primitive.{Primitive}
use Rattle.code_form.specs.declared.ins.Ins.{Ins}
use Rattle.code_form.specs.declared.ins.Ins.TheVariants as ins
use Rattle.code_form.specs.Opcodes.{variable_opcode, pool_opcode, branch_opcode, primitive_code}
use Rattle.code_form.specs.Spelling.{signed, offset, padding, case_bytes, bytes_of, idle_count, Fits, Reached}
use Rattle.code_form.specs.Reading.{opcode_of, form_of, primitive_of, bytes_at, unsigned_at, signed_at, target_at, known_form}
use Rattle.code_form.specs.Reading.{known_primitive, interface_at, new_array_at, increment_at, widened_at, wide_at, case_at}
use Rattle.code_form.specs.Reading.{table_at, lookup_at, operands_at, ins_at}
use Rattle.code_form.proofs.Forms.{form_opcode, form_again, primitive_is, primitive_again}
use Rattle.code_form.proofs.Numbers.{Takes, Takes-then, bytes_take, bytes_again, unsigned_takes, unsigned_again, byte_again}
use Rattle.code_form.proofs.Numbers.{one_byte, byte_takes, guard_ok, IsWhole, whole8, whole16, whole32, signed_takes}
use Rattle.code_form.proofs.Numbers.{signed_again, offset_fits, target_takes, target_again}

-- the bytes begin with the instruction's
pub record Spelled (bytes : List ℕ) (pc : ℕ) (i : Ins) (rest : List ℕ) : Type 0 where
  pub idle : List ℕ
  pub count : length idle ≡ idle_count pc i
  pub taken : Takes bytes (bytes_of idle pc i) rest
  pub fits : Fits pc i

Takes-cons : (b : ℕ) (bytes text rest : List ℕ) → Takes bytes text rest → Takes (b ∷ bytes) (b ∷ text) rest
Takes-cons b bytes text rest t =
    record { parts = ap (λ (x : List ℕ). b ∷ x) t.parts; rest_fits = t.rest_fits }

abbrev Found : ℕ → List ℕ → Ins × List ℕ → Type 0
Found pc bytes x = Reached x.0 → Spelled bytes pc x.0 x.1

-- ---- many values

many_take : {X : Type 0} (read : List ℕ → Result (X × List ℕ) CodeRefusal) (spell : X → List ℕ)
    (Q P : X → Type 0)
    → ((bytes : List ℕ) (x : X × List ℕ) → IsBytes bytes → read bytes ≡ Ok x → Q x.0
    → Takes bytes (spell x.0) x.1 × P x.0)
    → (count : ℕ) (bytes : List ℕ) (x : List X × List ℕ) → IsBytes bytes → many_from read count bytes ≡ Ok x
    → AllByRecursion Q x.0
    → Takes bytes (flat_map spell x.0) x.1 × (length x.0 ≡ count) × AllByRecursion P x.0
unfolding many_from
many_take {X} read spell Q P each zero bytes x fits e known =
    subst (λ (y : List X × List ℕ). Takes bytes (flat_map spell y.0) y.1 × (length y.0 ≡ 0)
    × AllByRecursion P y.0) (ok_is CodeRefusal ([], bytes) x e)
    (record { parts = refl; rest_fits = fits }, refl, tt)
many_take {X} read spell Q P each (suc count) bytes x fits e known =
    let a = bind_ok (read bytes)
    (λ first. many_from read count first.1 >>= λ others. Ok (first.0 ∷ others.0, others.1)) x e in
    let b = bind_ok (many_from read count a.0.1) (λ others. Ok (a.0.0 ∷ others.0, others.1)) x a.2 in
    let made : List X × List ℕ = (a.0.0 ∷ b.0.0, b.0.1) in
    subst (λ (y : List X × List ℕ). AllByRecursion Q y.0
    → Takes bytes (flat_map spell y.0) y.1 × (length y.0 ≡ suc count) × AllByRecursion P y.0)
    (ok_is CodeRefusal made x b.2)
    (λ all.
    let first = each bytes a.0 fits a.1 all.0 in
    let others = many_take read spell Q P each count a.0.1 b.0 first.0.rest_fits b.1 all.1 in (
      Takes-then bytes (spell a.0.0) a.0.1 (flat_map spell b.0.0) b.0.1 first.0 others.0,
      ap suc others.1,
      (first.1, others.2),
    ))
    known

many_again : {X : Type 0} (read : List ℕ → Result (X × List ℕ) CodeRefusal) (spell : X → List ℕ)
    (Q : X → Type 0)
    → ((x : X) (rest : List ℕ) → Q x → read (spell x ++ rest) ≡ Ok (x, rest))
    → (xs : List X) (rest : List ℕ) → AllByRecursion Q xs
    → many_from read (length xs) (flat_map spell xs ++ rest) ≡ Ok (xs, rest)
unfolding many_from
many_again read spell Q each [] rest known = refl
many_again read spell Q each (x ∷ xs) rest known =
    let regrouped : flat_map spell (x ∷ xs) ++ rest ≡ spell x ++ (flat_map spell xs ++ rest) =
    append_assoc (spell x) (flat_map spell xs) rest in
    ap (many_from read (suc (length xs))) regrouped
    ∙ rw (each x (flat_map spell xs ++ rest) known.0, many_again read spell Q each xs rest known.1) refl

-- ---- reading

-- one number behind the opcode
found_unsigned : (pc n b : ℕ) (make : ℕ → Ins) (bytes : List ℕ) (x : Ins × List ℕ) → IsBytes bytes
    → (unsigned_at pc n bytes >>= λ v. Ok (make v.0, v.1)) ≡ Ok x
    → ((v : ℕ) (rest : List ℕ) → Takes (b ∷ bytes) (b ∷ big_bytes n v) rest → v < 256 ^ n
    → Spelled (b ∷ bytes) pc (make v) rest) → Found pc (b ∷ bytes) x
found_unsigned pc n b make bytes x fits e spell =
    let a = bind_ok (unsigned_at pc n bytes) _ x e in
    let t = unsigned_takes pc n bytes a.0 fits a.1 in
    subst (Found pc (b ∷ bytes)) (ok_is CodeRefusal (make a.0.0, a.0.1) x a.2)
    (λ _. spell a.0.0 a.0.1 (Takes-cons b bytes _ a.0.1 t.0) t.1)

-- one signed number behind the opcode
found_signed : (pc : ℕ) (w : Width) (whole : IsWhole w) (b : ℕ) (make : ℤ → Ins) (bytes : List ℕ)
    (x : Ins × List ℕ) → IsBytes bytes → (signed_at pc w bytes >>= λ v. Ok (make v.0, v.1)) ≡ Ok x
    → ((z : ℤ) (rest : List ℕ) → Takes (b ∷ bytes) (b ∷ signed w z) rest → FitsSigned w z
    → Spelled (b ∷ bytes) pc (make z) rest) → Found pc (b ∷ bytes) x
found_signed pc w whole b make bytes x fits e spell =
    let a = bind_ok (signed_at pc w bytes) _ x e in
    let t = signed_takes w whole pc bytes a.0 fits a.1 in
    subst (Found pc (b ∷ bytes)) (ok_is CodeRefusal (make a.0.0, a.0.1) x a.2)
    (λ _. spell a.0.0 a.0.1 (Takes-cons b bytes _ a.0.1 t.0) t.1)

interface_found : (pc : ℕ) (bytes : List ℕ) (x : Ins × List ℕ) → IsBytes bytes → interface_at pc bytes ≡ Ok x
    → Found pc (185 ∷ bytes) x
unfolding interface_at
interface_found pc bytes x fits e =
    let a = bind_ok (unsigned_at pc 2 bytes) _ x e in
    let b = bind_ok (unsigned_at pc 1 a.0.1) _ x a.2 in
    let c = bind_ok (bytes_at pc 1 b.0.1) _ x b.2 in
    let t0 = unsigned_takes pc 2 bytes a.0 fits a.1 in
    let t1 = unsigned_takes pc 1 a.0.1 b.0 t0.0.rest_fits b.1 in
    let t2 = bytes_take pc 1 b.0.1 c.0 t1.0.rest_fits c.1 in
    let t01 = Takes-then bytes (big_bytes 2 a.0.0) a.0.1 (big_bytes 1 b.0.0) b.0.1 t0.0 t1.0 in
    let t012 = Takes-then bytes _ b.0.1 c.0.0 c.0.1 t01 t2.0 in
    subst (Found pc (185 ∷ bytes)) (ok_is CodeRefusal (ins.InvokeInterface a.0.0 b.0.0, c.0.1) x c.2)
    (λ _. record {
      idle = c.0.0;
      count = t2.1;
      taken =
          Takes-cons 185 bytes _ c.0.1 t012;
      fits = (t0.1, t1.1);
    })

-- which primitive was read
neither : {A : Type 0} (b : Bool) (d f : CodeRefusal) (x : A) → cond b (Err d) (Err f) ≡ Ok x → ⊥
neither true d f x e = cc
neither false d f x e = cc

primitive_known : (pc code : ℕ) (o : Option Primitive) (p : Primitive) → known_primitive pc code o ≡ Ok p
    → o ≡ Some p
primitive_known pc code (Some q) p e = ap (λ (r : Primitive). Some r) (ok_is CodeRefusal q p e)
primitive_known pc code None p e = absurd (neither (eqb code 6 || eqb code 7) _ _ p e)

new_array_found : (pc : ℕ) (bytes : List ℕ) (x : Ins × List ℕ) → IsBytes bytes → new_array_at pc bytes ≡ Ok x
    → Found pc (188 ∷ bytes) x
unfolding new_array_at
new_array_found pc bytes x fits e =
    let a = bind_ok (unsigned_at pc 1 bytes) _ x e in
    let b = bind_ok (known_primitive pc a.0.0 (primitive_of a.0.0)) _ x a.2 in
    let t = unsigned_takes pc 1 bytes a.0 fits a.1 in
    let code : primitive_code b.0 ≡ a.0.0 =
    primitive_is a.0.0 b.0 (primitive_known pc a.0.0 (primitive_of a.0.0) b.0 b.1) in
    let byte : big_bytes 1 a.0.0 ≡ primitive_code b.0 ∷ [] = one_byte a.0.0 (primitive_code b.0) t.1 code in
    subst (Found pc (188 ∷ bytes)) (ok_is CodeRefusal (ins.NewArray b.0, a.0.1) x b.2)
    (λ _. record {
      idle = [];
      count = refl;
      taken =
          Takes-cons 188 bytes _ a.0.1 (subst (λ (l : List ℕ). Takes bytes l a.0.1) byte t.0);
      fits = tt;
    })

increment_found : (pc : ℕ) (bytes : List ℕ) (x : Ins × List ℕ) → IsBytes bytes → increment_at pc bytes ≡ Ok x
    → Found pc (132 ∷ bytes) x
unfolding increment_at
increment_found pc bytes x fits e =
    let a = bind_ok (unsigned_at pc 1 bytes) _ x e in
    let b = bind_ok (signed_at pc w8 a.0.1) _ x a.2 in
    let t0 = unsigned_takes pc 1 bytes a.0 fits a.1 in
    let t1 = signed_takes w8 whole8 pc a.0.1 b.0 t0.0.rest_fits b.1 in
    subst (Found pc (132 ∷ bytes)) (ok_is CodeRefusal (ins.Increment a.0.0 b.0.0, b.0.1) x b.2)
    (λ _. record {
      idle = [];
      count = refl;
      taken =
          Takes-cons 132 bytes _ b.0.1 (Takes-then bytes _ a.0.1 _ b.0.1 t0.0 t1.0);
      fits = (t0.1, t1.1);
    })

-- behind wide and an opcode
widened_found : (pc opcode : ℕ) (o : Option Form) (bytes : List ℕ) (x : Ins × List ℕ) → IsBytes bytes
    → ((form : Form) → o ≡ Some form → opcode_of form ≡ opcode) → widened_at pc o bytes ≡ Ok x
    → Found pc (196 ∷ opcode ∷ bytes) x
unfolding widened_at
widened_found pc opcode (Some (forms.Variable access sort)) bytes x fits form e =
    let a = bind_ok (unsigned_at pc 2 bytes) _ x e in
    let t = unsigned_takes pc 2 bytes a.0 fits a.1 in
    let code = variable_opcode access sort in
    let found : Found pc (196 ∷ code ∷ bytes) x =
    subst (Found pc (196 ∷ code ∷ bytes))
    (ok_is CodeRefusal (ins.Variable access sort (locals.Wide a.0.0), a.0.1) x a.2)
    (λ _. record {
      idle = [];
      count = refl;
      taken =
          Takes-cons 196 _ _ a.0.1 (Takes-cons code bytes _ a.0.1 t.0);
      fits = t.1;
    }) in
    subst (λ (n : ℕ). Found pc (196 ∷ n ∷ bytes) x) (form (forms.Variable access sort) refl) found
widened_found pc opcode (Some forms.Increment) bytes x fits form e =
    let a = bind_ok (unsigned_at pc 2 bytes) _ x e in
    let b = bind_ok (signed_at pc w16 a.0.1) _ x a.2 in
    let t0 = unsigned_takes pc 2 bytes a.0 fits a.1 in
    let t1 = signed_takes w16 whole16 pc a.0.1 b.0 t0.0.rest_fits b.1 in
    let found : Found pc (196 ∷ 132 ∷ bytes) x =
    subst (Found pc (196 ∷ 132 ∷ bytes)) (ok_is CodeRefusal (ins.IncrementWide a.0.0 b.0.0, b.0.1) x b.2)
    (λ _. record {
      idle = [];
      count = refl;
      taken = Takes-cons 196 _ _ b.0.1
          (Takes-cons 132 bytes _ b.0.1 (Takes-then bytes _ a.0.1 _ b.0.1 t0.0 t1.0));
      fits = (t0.1, t1.1);
    }) in
    subst (λ (n : ℕ). Found pc (196 ∷ n ∷ bytes) x) (form forms.Increment refl) found
widened_found pc opcode _ bytes x fits form e = absurd cc

wide_found : (pc : ℕ) (bytes : List ℕ) (x : Ins × List ℕ) → IsBytes bytes → wide_at pc bytes ≡ Ok x
    → Found pc (196 ∷ bytes) x
unfolding wide_at
wide_found pc bytes x fits e =
    let a = bind_ok (unsigned_at pc 1 bytes) _ x e in
    let t = byte_takes pc bytes a.0 fits a.1 in
    subst (λ (l : List ℕ). Found pc (196 ∷ l) x) (sym t.parts)
    (widened_found pc a.0.0 (form_of a.0.0) a.0.1 x t.rest_fits
    (λ form found. form_opcode a.0.0 form found) a.2)

-- ---- switches

abs_is : (d : ℤ) → pos 0 ≤ℤ d → pos (unsigned_abs d) ≡ d
abs_is (pos n) h = refl
abs_is (negsuc n) h = absurd (omega (arith, ints))

span : (low high : ℤ) → int_lt high low ≡ false
    → (low ≤ℤ high) × (pos (unsigned_abs (high -ℤ low) + 1) ≡ (high -ℤ low) +ℤ pos 1)
span low high e =
    let above : low ≤ℤ high = lt_z_no (rw e tt) in
    let whole : pos (unsigned_abs (high -ℤ low)) ≡ high -ℤ low = abs_is (high -ℤ low) (omega (arith, ints)) in
    (above, omega (arith, ints, whole))

span_again : (low high : ℤ) (n : ℕ) → low ≤ℤ high → pos n ≡ (high -ℤ low) +ℤ pos 1
    → (int_lt high low ≡ false) × (unsigned_abs (high -ℤ low) + 1 ≡ n)
span_again low high n above count =
    let whole : pos (unsigned_abs (high -ℤ low)) ≡ high -ℤ low =
    abs_is (high -ℤ low) (omega (arith, ints)) in (
      false_from_ne_true (int_lt high low)
          (λ e. let below : high <ℤ low = lt_z_yes (rw e tt) in omega (arith, ints)),
      omega (arith, ints, whole, count),
    )

far_takes : (pc : ℕ) (bytes : List ℕ) (x : ℕ × List ℕ) → IsBytes bytes → pc ≤ 65535
    → target_at pc w32 bytes ≡ Ok x → x.0 ≤ 65535 → Takes bytes (signed w32 (offset pc x.0)) x.1
far_takes pc bytes x fits near e reached = (target_takes w32 whole32 tt pc bytes x fits near e reached).0

table_found : (pc : ℕ) (bytes : List ℕ) (x : Ins × List ℕ) → IsBytes bytes → pc ≤ 65535
    → table_at pc bytes ≡ Ok x → Found pc (170 ∷ bytes) x
unfolding table_at
table_found pc bytes x fits near e =
    let a = bind_ok (bytes_at pc (padding pc) bytes) _ x e in
    let b = bind_ok (target_at pc w32 a.0.1) _ x a.2 in
    let c = bind_ok (signed_at pc w32 b.0.1) _ x b.2 in
    let d = bind_ok (signed_at pc w32 c.0.1) _ x c.2 in
    let low = c.0.0 in
    let high = d.0.0 in
    let f = bind_ok (cond (int_lt high low) (Err (BadTarget pc))
    (many_from (target_at pc w32) (unsigned_abs (high -ℤ low) + 1) d.0.1)) _ x d.2 in
    let g = guard_ok (int_lt high low) (BadTarget pc)
    (many_from (target_at pc w32) (unsigned_abs (high -ℤ low) + 1) d.0.1) f.0 f.1 in
    let s = span low high g.0 in
    subst (Found pc (170 ∷ bytes)) (ok_is CodeRefusal (ins.TableSwitch b.0.0 low high f.0.0, f.0.1) x f.2)
    (λ reached.
    let t0 = bytes_take pc (padding pc) bytes a.0 fits a.1 in
    let t1 = far_takes pc a.0.1 b.0 t0.0.rest_fits near b.1 reached.0 in
    let t2 = signed_takes w32 whole32 pc b.0.1 c.0 t1.rest_fits c.1 in
    let t3 = signed_takes w32 whole32 pc c.0.1 d.0 t2.0.rest_fits d.1 in
    let t4 = many_take (target_at pc w32) (λ t. signed w32 (offset pc t)) (λ t. t ≤ 65535) (λ _. ⊤)
    (λ l y ok r q. (far_takes pc l y ok near r q, tt))
    (unsigned_abs (high -ℤ low) + 1) d.0.1 f.0 t3.0.rest_fits g.1 reached.1 in
    let t01 = Takes-then bytes a.0.0 a.0.1 _ b.0.1 t0.0 t1 in
    let t02 = Takes-then bytes _ b.0.1 _ c.0.1 t01 t2.0 in
    let t03 = Takes-then bytes _ c.0.1 _ d.0.1 t02 t3.0 in
    let t04 = Takes-then bytes _ d.0.1 _ f.0.1 t03 t4.0 in
    record {
      idle = a.0.0;
      count = t0.1;
      taken = Takes-cons 170 bytes _ f.0.1 t04;
      fits = (t2.1, t3.1, s.0, ap (λ (n : ℕ). pos n) t4.1 ∙ s.1);
    })

case_takes : (pc : ℕ) (bytes : List ℕ) (x : Case × List ℕ) → IsBytes bytes → pc ≤ 65535
    → case_at pc bytes ≡ Ok x → x.0.target ≤ 65535
    → Takes bytes (case_bytes pc x.0) x.1 × FitsSigned w32 x.0.key
unfolding case_at
case_takes pc bytes x fits near e =
    let a = bind_ok (signed_at pc w32 bytes) _ x e in
    let b = bind_ok (target_at pc w32 a.0.1) _ x a.2 in
    let made : Case × List ℕ = (record { key = a.0.0; target = b.0.0 }, b.0.1) in
    subst (λ (y : Case × List ℕ). y.0.target ≤ 65535
    → Takes bytes (case_bytes pc y.0) y.1 × FitsSigned w32 y.0.key) (ok_is CodeRefusal made x b.2)
    (λ reached.
    let t0 = signed_takes w32 whole32 pc bytes a.0 fits a.1 in
    let t1 = far_takes pc a.0.1 b.0 t0.0.rest_fits near b.1 reached in
    (Takes-then bytes _ a.0.1 _ b.0.1 t0.0 t1, t0.1))

pub cases_reached : (cases : List Case) → AllByRecursion (λ t. t ≤ 65535) (map (λ c. c.target) cases)
    → AllByRecursion (λ c. c.target ≤ 65535) cases
cases_reached [] h = tt
cases_reached (c ∷ cases) h = (h.0, cases_reached cases h.1)

-- a test that must hold for the step to go on
when_ok : {A : Type 0} (b : Bool) (d : CodeRefusal) (r : Result A CodeRefusal) (y : A)
    → cond b r (Err d) ≡ Ok y → (b ≡ true) × (r ≡ Ok y)
when_ok true d r y e = (refl, e)
when_ok false d r y e = absurd cc

lookup_found : (pc : ℕ) (bytes : List ℕ) (x : Ins × List ℕ) → IsBytes bytes → pc ≤ 65535
    → lookup_at pc bytes ≡ Ok x → Found pc (171 ∷ bytes) x
unfolding lookup_at
lookup_found pc bytes x fits near e =
    let a = bind_ok (bytes_at pc (padding pc) bytes) _ x e in
    let b = bind_ok (target_at pc w32 a.0.1) _ x a.2 in
    let c = bind_ok (unsigned_at pc 4 b.0.1) _ x b.2 in
    let n = c.0.0 in
    let f = bind_ok (cond (ltb n (2 ^ 31)) (many_from (case_at pc) n c.0.1) (Err (BadTarget pc))) _ x c.2 in
    let g = when_ok (ltb n (2 ^ 31)) (BadTarget pc) (many_from (case_at pc) n c.0.1) f.0 f.1 in
    let below : n < 2 ^ 31 = ltb-true n (2 ^ 31) g.0 in
    subst (Found pc (171 ∷ bytes)) (ok_is CodeRefusal (ins.LookupSwitch b.0.0 f.0.0, f.0.1) x f.2)
    (λ reached.
    let t0 = bytes_take pc (padding pc) bytes a.0 fits a.1 in
    let t1 = far_takes pc a.0.1 b.0 t0.0.rest_fits near b.1 reached.0 in
    let t2 = unsigned_takes pc 4 b.0.1 c.0 t1.rest_fits c.1 in
    let t3 = many_take (case_at pc) (case_bytes pc) (λ v. v.target ≤ 65535) (λ v. FitsSigned w32 v.key)
    (λ l y ok r q. case_takes pc l y ok near r q) n c.0.1 f.0 t2.0.rest_fits g.1
    (cases_reached f.0.0 reached.1) in
    let t01 = Takes-then bytes a.0.0 a.0.1 _ b.0.1 t0.0 t1 in
    let t02 = Takes-then bytes _ b.0.1 _ c.0.1 t01 t2.0 in
    let t03 = Takes-then bytes _ c.0.1 (flat_map (case_bytes pc) f.0.0) f.0.1 t02 t3.0 in
    record {
      idle = a.0.0;
      count = t0.1;
      taken = Takes-cons 171 bytes _ f.0.1
          (subst (λ (k : ℕ). Takes bytes
          (a.0.0 ++ signed w32 (offset pc b.0.0) ++ big_bytes 4 k ++ flat_map (case_bytes pc) f.0.0) f.0.1)
          (sym t3.1) t03);
      fits = (subst (λ (k : ℕ). k < 2 ^ 31) (sym t3.1) below, t3.2);
    })

-- ---- any instruction

operands_found : (form : Form) (pc : ℕ) (bytes : List ℕ) (x : Ins × List ℕ) → IsBytes bytes → pc ≤ 65535
    → operands_at form pc bytes ≡ Ok x → Found pc (opcode_of form ∷ bytes) x
unfolding operands_at
operands_found (forms.Plain p) pc bytes x fits near e =
    subst (Found pc (opcode_of (forms.Plain p) ∷ bytes)) (ok_is CodeRefusal (ins.Plain p, bytes) x e)
    (λ _. record { idle = []; count = refl; taken = record { parts = refl; rest_fits = fits }; fits = tt })
operands_found (forms.ShortVariable access sort slot) pc bytes x fits near e =
    subst (Found pc (opcode_of (forms.ShortVariable access sort slot) ∷ bytes))
    (ok_is CodeRefusal (ins.Variable access sort (locals.Short slot), bytes) x e)
    (λ _. record { idle = []; count = refl; taken = record { parts = refl; rest_fits = fits }; fits = tt })
operands_found (forms.Variable access sort) pc bytes x fits near e =
    found_unsigned pc 1 (variable_opcode access sort) (λ n. ins.Variable access sort (locals.Byte n)) bytes x
    fits e (λ n rest t below. record { idle = []; count = refl; taken = t; fits = below })
operands_found forms.PushByte pc bytes x fits near e =
    found_signed pc w8 whole8 16 (λ z. ins.PushByte z) bytes x fits e
    (λ z rest t inside. record { idle = []; count = refl; taken = t; fits = inside })
operands_found forms.PushShort pc bytes x fits near e =
    found_signed pc w16 whole16 17 (λ z. ins.PushShort z) bytes x fits e
    (λ z rest t inside. record { idle = []; count = refl; taken = t; fits = inside })
operands_found forms.LoadConstant pc bytes x fits near e =
    found_unsigned pc 1 18 (λ n. ins.LoadConstant n) bytes x fits e
    (λ n rest t below. record { idle = []; count = refl; taken = t; fits = below })
operands_found (forms.Pool usage) pc bytes x fits near e =
    found_unsigned pc 2 (pool_opcode usage) (λ n. ins.Pool usage n) bytes x fits e
    (λ n rest t below. record { idle = []; count = refl; taken = t; fits = below })
operands_found forms.InvokeInterface pc bytes x fits near e = interface_found pc bytes x fits e
operands_found forms.NewArray pc bytes x fits near e = new_array_found pc bytes x fits e
operands_found forms.Increment pc bytes x fits near e = increment_found pc bytes x fits e
operands_found (forms.Branch b) pc bytes x fits near e =
    let a = bind_ok (target_at pc w16 bytes) _ x e in
    subst (Found pc (branch_opcode b ∷ bytes)) (ok_is CodeRefusal (ins.Branch b a.0.0, a.0.1) x a.2)
    (λ reached.
    let t = target_takes w16 whole16 tt pc bytes a.0 fits near a.1 reached.0 in
    record { idle = []; count = refl; taken = Takes-cons (branch_opcode b) bytes _ a.0.1 t.0; fits = t.1 })
operands_found forms.GotoWide pc bytes x fits near e =
    let a = bind_ok (target_at pc w32 bytes) _ x e in
    subst (Found pc (200 ∷ bytes)) (ok_is CodeRefusal (ins.GotoWide a.0.0, a.0.1) x a.2)
    (λ reached. record {
      idle = [];
      count = refl;
      taken =
          Takes-cons 200 bytes _ a.0.1 (far_takes pc bytes a.0 fits near a.1 reached.0);
      fits = tt;
    })
operands_found forms.TableSwitch pc bytes x fits near e = table_found pc bytes x fits near e
operands_found forms.LookupSwitch pc bytes x fits near e = lookup_found pc bytes x fits near e
operands_found forms.Wide pc bytes x fits near e = wide_found pc bytes x fits e

form_known : (pc opcode : ℕ) (o : Option Form) (form : Form) → known_form pc opcode o ≡ Ok form
    → o ≡ Some form
form_known pc opcode (Some f) form e = ap (λ (r : Form). Some r) (ok_is CodeRefusal f form e)
form_known pc opcode None form e = absurd (neither (ltb opcode 202) _ _ form e)

-- what is read is spelled so
pub ins_found : (pc : ℕ) (bytes : List ℕ) (x : Ins × List ℕ) → IsBytes bytes → pc ≤ 65535
    → ins_at pc bytes ≡ Ok x → Reached x.0 → Spelled bytes pc x.0 x.1
unfolding ins_at
ins_found pc bytes x fits near e reached =
    let a = bind_ok (unsigned_at pc 1 bytes) _ x e in
    let b = bind_ok (known_form pc a.0.0 (form_of a.0.0)) _ x a.2 in
    let t = byte_takes pc bytes a.0 fits a.1 in
    let code : opcode_of b.0 ≡ a.0.0 = form_opcode a.0.0 b.0 (form_known pc a.0.0 (form_of a.0.0) b.0 b.1) in
    let found : Spelled (opcode_of b.0 ∷ a.0.1) pc x.0 x.1 =
    operands_found b.0 pc a.0.1 x t.rest_fits near b.2 reached in
    subst (λ (l : List ℕ). Spelled l pc x.0 x.1) (ap (λ (n : ℕ). n ∷ a.0.1) code ∙ sym t.parts) found

-- ---- reading again what was spelled

step : {A B : Type 0} (r : Result A CodeRefusal) (x : A) (f : A → Result B CodeRefusal)
    (y : Result B CodeRefusal) → r ≡ Ok x → f x ≡ y → (r >>= f) ≡ y
step r x f y e g = ap (λ (q : Result _ CodeRefusal). q >>= f) e ∙ g

ins_from : (form : Form) (pc : ℕ) (bytes : List ℕ)
    → ins_at pc (opcode_of form ∷ bytes) ≡ operands_at form pc bytes
unfolding ins_at
ins_from form pc bytes = rw (byte_again pc (opcode_of form) bytes, form_again form) refl

wide_from : (form : Form) (pc : ℕ) (bytes : List ℕ)
    → ins_at pc (196 ∷ opcode_of form ∷ bytes) ≡ widened_at pc (Some form) bytes
unfolding operands_at wide_at
wide_from form pc bytes =
    ins_from forms.Wide pc (opcode_of form ∷ bytes)
    ∙ rw (byte_again pc (opcode_of form) bytes, form_again form) refl

far_again : (pc t : ℕ) (rest : List ℕ) → pc ≤ 65535 → t ≤ 65535
    → target_at pc w32 (signed w32 (offset pc t) ++ rest) ≡ Ok (t, rest)
far_again pc t rest near reached =
    target_again w32 whole32 pc t rest (offset_fits pc t near reached) near reached

-- five parts and what is behind them
regroup : (a b c d e rest : List ℕ)
    → ((((a ++ b) ++ c) ++ d) ++ e) ++ rest ≡ a ++ (b ++ (c ++ (d ++ (e ++ rest))))
regroup a b c d e rest = simp append_assoc

table_again : (pc default : ℕ) (low high : ℤ) (targets idle rest : List ℕ) → pc ≤ 65535
    → Fits pc (ins.TableSwitch default low high targets) → Reached (ins.TableSwitch default low high targets)
    → length idle ≡ padding pc
    → table_at pc (idle ++
    (signed w32 (offset pc default) ++
    (signed w32 low ++ (signed w32 high ++ (flat_map (λ t. signed w32 (offset pc t)) targets ++ rest))))) ≡ Ok
    (ins.TableSwitch default low high targets, rest)
unfolding table_at
table_again pc default low high targets idle rest near fits reached count =
    let r4 = flat_map (λ t. signed w32 (offset pc t)) targets ++ rest in
    let r3 = signed w32 high ++ r4 in
    let r2 = signed w32 low ++ r3 in
    let r1 = signed w32 (offset pc default) ++ r2 in
    let s = span_again low high (length targets) fits.2 fits.3 in
    let many : many_from (target_at pc w32) (length targets) r4 ≡ Ok (targets, rest) =
    many_again (target_at pc w32) (λ t. signed w32 (offset pc t)) (λ t. t ≤ 65535)
    (λ t r q. far_again pc t r near q) targets rest reached.1 in
    let counted : cond (int_lt high low) (Err (BadTarget pc))
    (many_from (target_at pc w32) (unsigned_abs (high -ℤ low) + 1) r4) ≡ Ok (targets, rest) =
    rw (s.0, s.1) many in
    step (bytes_at pc (padding pc) (idle ++ r1)) (idle, r1) _ _ (bytes_again pc (padding pc) idle r1 count)
    (step (target_at pc w32 r1) (default, r2) _ _ (far_again pc default r2 near reached.0)
    (step (signed_at pc w32 r2) (low, r3) _ _ (signed_again w32 whole32 pc low r3 fits.0)
    (step (signed_at pc w32 r3) (high, r4) _ _ (signed_again w32 whole32 pc high r4 fits.1)
    (step (cond (int_lt high low) (Err (BadTarget pc))
    (many_from (target_at pc w32) (unsigned_abs (high -ℤ low) + 1) r4)) (targets, rest) _ _ counted refl))))

case_again : (pc : ℕ) (c : Case) (rest : List ℕ) → pc ≤ 65535 → FitsSigned w32 c.key → c.target ≤ 65535
    → case_at pc (case_bytes pc c ++ rest) ≡ Ok (c, rest)
unfolding case_at
case_again pc c rest near fits reached =
    let r1 = signed w32 (offset pc c.target) ++ rest in
    step (signed_at pc w32 (signed w32 c.key ++ r1)) (c.key, r1) _ _
    (signed_again w32 whole32 pc c.key r1 fits)
    (step (target_at pc w32 r1) (c.target, rest) _ _ (far_again pc c.target rest near reached) refl)

cases_again : (cases : List Case) → AllByRecursion (λ c. FitsSigned w32 c.key) cases
    → AllByRecursion (λ t. t ≤ 65535) (map (λ c. c.target) cases)
    → AllByRecursion (λ c. FitsSigned w32 c.key × (c.target ≤ 65535)) cases
cases_again [] h k = tt
cases_again (c ∷ cases) h k = ((h.0, k.0), cases_again cases h.1 k.1)

lookup_again : (pc default : ℕ) (cases : List Case) (idle rest : List ℕ) → pc ≤ 65535
    → Fits pc (ins.LookupSwitch default cases) → Reached (ins.LookupSwitch default cases)
    → length idle ≡ padding pc
    → lookup_at pc (idle ++
    (signed w32 (offset pc default) ++
    (big_bytes 4 (length cases) ++ (flat_map (case_bytes pc) cases ++ rest)))) ≡ Ok
    (ins.LookupSwitch default cases, rest)
unfolding lookup_at
lookup_again pc default cases idle rest near fits reached count =
    let n = length cases in
    let r3 = flat_map (case_bytes pc) cases ++ rest in
    let r2 = big_bytes 4 n ++ r3 in
    let r1 = signed w32 (offset pc default) ++ r2 in
    let few : ltb n (2 ^ 31) ≡ true = lt-ltb n (2 ^ 31) fits.0 in
    let many : many_from (case_at pc) n r3 ≡ Ok (cases, rest) =
    many_again (case_at pc) (case_bytes pc) (λ c. FitsSigned w32 c.key × (c.target ≤ 65535))
    (λ c r q. case_again pc c r near q.0 q.1) cases rest (cases_again cases fits.1 reached.1) in
    let counted : cond (ltb n (2 ^ 31)) (many_from (case_at pc) n r3) (Err (BadTarget pc)) ≡ Ok
    (cases, rest) = rw few many in
    step (bytes_at pc (padding pc) (idle ++ r1)) (idle, r1) _ _ (bytes_again pc (padding pc) idle r1 count)
    (step (target_at pc w32 r1) (default, r2) _ _ (far_again pc default r2 near reached.0)
    (step (unsigned_at pc 4 r2) (n, r3) _ _ (unsigned_again pc 4 n r3 (omega (arith, fits.0)))
    (step (cond (ltb n (2 ^ 31)) (many_from (case_at pc) n r3) (Err (BadTarget pc)))
    (cases, rest) _ _ counted refl)))

regroup4 : (a b c d rest : List ℕ) → (((a ++ b) ++ c) ++ d) ++ rest ≡ a ++ (b ++ (c ++ (d ++ rest)))
regroup4 a b c d rest = simp append_assoc

-- what is spelled is read
pub ins_again : (pc : ℕ) (i : Ins) (idle rest : List ℕ) → pc ≤ 65535 → Fits pc i → Reached i
    → length idle ≡ idle_count pc i → ins_at pc (bytes_of idle pc i ++ rest) ≡ Ok (i, rest)
unfolding operands_at widened_at interface_at new_array_at increment_at
ins_again pc (ins.Plain p) idle rest near fits reached count = ins_from (forms.Plain p) pc rest
ins_again pc (ins.Variable access sort (locals.Short slot)) idle rest near fits reached count =
    ins_from (forms.ShortVariable access sort slot) pc rest
ins_again pc (ins.Variable access sort (locals.Byte n)) idle rest near fits reached count =
    ins_from (forms.Variable access sort) pc (big_bytes 1 n ++ rest)
    ∙ step (unsigned_at pc 1 (big_bytes 1 n ++ rest)) (n, rest) _ _ (unsigned_again pc 1 n rest fits) refl
ins_again pc (ins.Variable access sort (locals.Wide n)) idle rest near fits reached count =
    wide_from (forms.Variable access sort) pc (big_bytes 2 n ++ rest)
    ∙ step (unsigned_at pc 2 (big_bytes 2 n ++ rest)) (n, rest) _ _ (unsigned_again pc 2 n rest fits) refl
ins_again pc (ins.PushByte z) idle rest near fits reached count =
    ins_from forms.PushByte pc (signed w8 z ++ rest)
    ∙ step (signed_at pc w8 (signed w8 z ++ rest)) (z, rest) _ _ (signed_again w8 whole8 pc z rest fits) refl
ins_again pc (ins.PushShort z) idle rest near fits reached count =
    ins_from forms.PushShort pc (signed w16 z ++ rest)
    ∙ step (signed_at pc w16 (signed w16 z ++ rest)) (z, rest) _ _
    (signed_again w16 whole16 pc z rest fits) refl
ins_again pc (ins.LoadConstant n) idle rest near fits reached count =
    ins_from forms.LoadConstant pc (big_bytes 1 n ++ rest)
    ∙ step (unsigned_at pc 1 (big_bytes 1 n ++ rest)) (n, rest) _ _ (unsigned_again pc 1 n rest fits) refl
ins_again pc (ins.Pool usage n) idle rest near fits reached count =
    ins_from (forms.Pool usage) pc (big_bytes 2 n ++ rest)
    ∙ step (unsigned_at pc 2 (big_bytes 2 n ++ rest)) (n, rest) _ _ (unsigned_again pc 2 n rest fits) refl
ins_again pc (ins.InvokeInterface n k) idle rest near fits reached count =
    let r2 = idle ++ rest in
    let r1 = big_bytes 1 k ++ r2 in
    ins_from forms.InvokeInterface pc (big_bytes 2 n ++ r1)
    ∙ step (unsigned_at pc 2 (big_bytes 2 n ++ r1)) (n, r1) _ _ (unsigned_again pc 2 n r1 fits.0)
    (step (unsigned_at pc 1 r1) (k, r2) _ _ (unsigned_again pc 1 k r2 fits.1)
    (step (bytes_at pc 1 r2) (idle, rest) _ _ (bytes_again pc 1 idle rest count) refl))
ins_again pc (ins.NewArray p) idle rest near fits reached count =
    ins_from forms.NewArray pc (primitive_code p ∷ rest)
    ∙ step (unsigned_at pc 1 (primitive_code p ∷ rest)) (primitive_code p, rest) _ _
    (byte_again pc (primitive_code p) rest)
    (rw (primitive_again p) refl)
ins_again pc (ins.Increment n z) idle rest near fits reached count =
    let r1 = signed w8 z ++ rest in
    ins_from forms.Increment pc (big_bytes 1 n ++ r1)
    ∙ step (unsigned_at pc 1 (big_bytes 1 n ++ r1)) (n, r1) _ _ (unsigned_again pc 1 n r1 fits.0)
    (step (signed_at pc w8 r1) (z, rest) _ _ (signed_again w8 whole8 pc z rest fits.1) refl)
ins_again pc (ins.IncrementWide n z) idle rest near fits reached count =
    let r1 = signed w16 z ++ rest in
    wide_from forms.Increment pc (big_bytes 2 n ++ r1)
    ∙ step (unsigned_at pc 2 (big_bytes 2 n ++ r1)) (n, r1) _ _ (unsigned_again pc 2 n r1 fits.0)
    (step (signed_at pc w16 r1) (z, rest) _ _ (signed_again w16 whole16 pc z rest fits.1) refl)
ins_again pc (ins.Branch b t) idle rest near fits reached count =
    ins_from (forms.Branch b) pc (signed w16 (offset pc t) ++ rest)
    ∙ step (target_at pc w16 (signed w16 (offset pc t) ++ rest)) (t, rest) _ _
    (target_again w16 whole16 pc t rest fits near reached.0) refl
ins_again pc (ins.GotoWide t) idle rest near fits reached count =
    ins_from forms.GotoWide pc (signed w32 (offset pc t) ++ rest)
    ∙ step (target_at pc w32 (signed w32 (offset pc t) ++ rest)) (t, rest) _ _
    (far_again pc t rest near reached.0) refl
ins_again pc (ins.TableSwitch default low high targets) idle rest near fits reached count =
    ap (λ (l : List ℕ). ins_at pc (170 ∷ l))
    (regroup idle (signed w32 (offset pc default)) (signed w32 low) (signed w32 high)
    (flat_map (λ t. signed w32 (offset pc t)) targets) rest)
    ∙ ins_from forms.TableSwitch pc _
    ∙ table_again pc default low high targets idle rest near fits reached count
ins_again pc (ins.LookupSwitch default cases) idle rest near fits reached count =
    ap (λ (l : List ℕ). ins_at pc (171 ∷ l))
    (regroup4 idle (signed w32 (offset pc default)) (big_bytes 4 (length cases))
    (flat_map (case_bytes pc) cases) rest)
    ∙ ins_from forms.LookupSwitch pc _ ∙ lookup_again pc default cases idle rest near fits reached count
