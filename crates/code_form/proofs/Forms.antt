-- The table of forms in order of the opcodes is the table of opcodes by families, both ways.
use Rattle.std.proofs.Common.{◌≡◌, ℕ, ◌<◌, ◌≤◌, Bool, true, false, cond, eqb, ltb, List, [], ◌∷◌, get_or, map, Option, Some}
use Rattle.std.proofs.Common.{None, refl, sym, ap, ◌∙◌, zero-add, ◌⊎◌, inl, inr, arith}
use Rattle.std.specs.List.{find, list_all, range_with_len}
use Rattle.std.proofs.lemmas.Bool.{and_parts, ltb-true, eqb-true, ne_eqb}
use Rattle.std.proofs.lemmas.List.{get_or-map}
use Rattle.std.proofs.lemmas.List.FromFn.{get_or-range_with_len}
use Rattle.code_form.specs.declared.table.Form.{Form}
use Rattle.code_form.specs.declared.table.Form.TheVariants as forms
use Rattle.code_form.specs.declared.table.TheConstants.{FORMS}
use Rattle.code_form.specs.declared.ins.Number.TheVariants as numbers
use Rattle.code_form.specs.declared.ins.Sort.TheVariants as sorts
use Rattle.code_form.specs.declared.ins.Element.TheVariants as elements
use Rattle.code_form.specs.declared.ins.Access.TheVariants.{Load, Store}
use Rattle.code_form.specs.declared.ins.Slot.TheVariants as slots
use Rattle.code_form.specs.declared.ins.IntConstant.TheVariants as ints
use Rattle.code_form.specs.declared.ins.LongConstant.TheVariants as longs
use Rattle.code_form.specs.declared.ins.Constant.TheVariants as constants
use Rattle.code_form.specs.declared.ins.Stack.TheVariants.{Pop}
use Rattle.code_form.specs.declared.ins.Binary.TheVariants.{Add}
use Rattle.code_form.specs.declared.ins.Shift.TheVariants.{Left}
use Rattle.code_form.specs.declared.ins.Conversion.TheVariants.{IntToLong}
use Rattle.code_form.specs.declared.ins.Plain.{Plain}
use Rattle.code_form.specs.declared.ins.Plain.TheVariants as plain
use Rattle.code_form.specs.declared.ins.Condition.TheVariants as conditions
use Rattle.code_form.specs.declared.ins.Equality.TheVariants as equalities
use Rattle.code_form.specs.declared.ins.Branch.TheVariants as branches
use Rattle.code_form.specs.declared.ins.PoolUse.TheVariants as uses
use Rattle.code_form.specs.declared.ins.Primitive.{Primitive}
use Rattle.code_form.specs.declared.ins.Primitive.TheVariants as primitives
use Rattle.code_form.specs.Opcodes.{plain_opcode, primitive_code}
use Rattle.code_form.specs.Reading.{all_forms, all_primitives, opcode_of, form_of, primitive_of}

-- the table as data
pub table_is : FORMS ≡ map form_of (range_with_len 0 202)
unfolding form_of
table_is = refl

pub form_within : (opcode : ℕ) → opcode < 202 → get_or FORMS opcode None ≡ form_of opcode
form_within opcode within =
    ap (λ (fs : List (Option Form)). get_or fs opcode None) table_is
    ∙ get_or-map form_of (range_with_len 0 202) opcode 0 None within
    ∙ ap form_of (get_or-range_with_len 0 202 opcode 0 within ∙ zero-add opcode)

-- the first of a list, or what is found behind it
first_or : {X : Type 0} (b : Bool) (y : X) (o : Option X) (x : X) → cond b (Some y) o ≡ Some x
    → ((b ≡ true) × (y ≡ x)) ⊎ (o ≡ Some x)
first_or true y o x e = inl (refl, cc)
first_or false y o x e = inr e

-- what is found passes the test
find_passes : {X : Type 0} (test : X → Bool) (xs : List X) (x : X) → find test xs ≡ Some x → test x ≡ true
find_passes test [] x e = absurd cc
find_passes test (y ∷ ys) x e =
    elim (first_or (test y) y (find test ys) x e)
    [ inl p ↦ ap test (sym p.1) ∙ p.0 | inr later ↦ find_passes test ys x later ]

-- no opcode is 202 or above
none_passes : (n opcode : ℕ) → n ≤ opcode → (fs : List Form) → list_all (λ f. ltb (opcode_of f) n) fs ≡ true
    → find (λ f. eqb (opcode_of f) opcode) fs ≡ None
none_passes n opcode above [] e = refl
none_passes n opcode above (f ∷ fs) e =
    let p = and_parts (ltb (opcode_of f) n) (list_all (λ g. ltb (opcode_of g) n) fs) e in
    let below : opcode_of f < n = ltb-true (opcode_of f) n p.0 in
    let other : eqb (opcode_of f) opcode ≡ false = ne_eqb (opcode_of f) opcode (λ same. omega arith) in
    rw other (none_passes n opcode above fs p.1)

pub form_past : (opcode : ℕ) → 202 ≤ opcode → form_of opcode ≡ None
unfolding form_of
form_past opcode past = none_passes 202 opcode past all_forms refl

-- ---- a form that is found has the opcode, and each form is found

pub form_opcode : (opcode : ℕ) (form : Form) → form_of opcode ≡ Some form → opcode_of form ≡ opcode
unfolding form_of
form_opcode opcode form e =
    eqb-true (opcode_of form) opcode (find_passes (λ f. eqb (opcode_of f) opcode) all_forms form e)

pub primitive_is : (code : ℕ) (p : Primitive) → primitive_of code ≡ Some p → primitive_code p ≡ code
unfolding primitive_of
primitive_is code p e =
    eqb-true (primitive_code p) code (find_passes (λ q. eqb (primitive_code q) code) all_primitives p e)

pub primitive_again : (p : Primitive) → primitive_of (primitive_code p) ≡ Some p
unfolding primitive_of
primitive_again primitives.Boolean = refl
primitive_again _ = refl

plain_again : (p : Plain) → form_of (plain_opcode p) ≡ Some (forms.Plain p)
unfolding form_of
plain_again plain.Nop = refl
plain_again (plain.Constant constants.Null) = refl
plain_again (plain.Constant (constants.Int ints.Zero)) = refl
plain_again (plain.Constant (constants.Int _)) = refl
plain_again (plain.Constant (constants.Long longs.Zero)) = refl
plain_again (plain.Constant (constants.Long _)) = refl
plain_again (plain.Element Load elements.Int) = refl
plain_again (plain.Element Load _) = refl
plain_again (plain.Element Store elements.Int) = refl
plain_again (plain.Element Store _) = refl
plain_again (plain.Stack Pop) = refl
plain_again (plain.Stack _) = refl
plain_again (plain.Binary numbers.Int Add) = refl
plain_again (plain.Binary numbers.Int _) = refl
plain_again (plain.Binary numbers.Long Add) = refl
plain_again (plain.Binary numbers.Long _) = refl
plain_again (plain.Negate numbers.Int) = refl
plain_again (plain.Negate _) = refl
plain_again (plain.Shift numbers.Int Left) = refl
plain_again (plain.Shift numbers.Int _) = refl
plain_again (plain.Shift numbers.Long Left) = refl
plain_again (plain.Shift numbers.Long _) = refl
plain_again (plain.Convert IntToLong) = refl
plain_again (plain.Convert _) = refl
plain_again (plain.ReturnValue sorts.Int) = refl
plain_again (plain.ReturnValue _) = refl
plain_again _ = refl

pub form_again : (form : Form) → form_of (opcode_of form) ≡ Some form
unfolding form_of
form_again (forms.Plain p) = plain_again p
form_again (forms.ShortVariable Load sorts.Int slots.Zero) = refl
form_again (forms.ShortVariable Load sorts.Int _) = refl
form_again (forms.ShortVariable Load sorts.Long slots.Zero) = refl
form_again (forms.ShortVariable Load sorts.Long _) = refl
form_again (forms.ShortVariable Load sorts.Reference slots.Zero) = refl
form_again (forms.ShortVariable Load sorts.Reference _) = refl
form_again (forms.ShortVariable Store sorts.Int slots.Zero) = refl
form_again (forms.ShortVariable Store sorts.Int _) = refl
form_again (forms.ShortVariable Store sorts.Long slots.Zero) = refl
form_again (forms.ShortVariable Store sorts.Long _) = refl
form_again (forms.ShortVariable Store sorts.Reference slots.Zero) = refl
form_again (forms.ShortVariable Store sorts.Reference _) = refl
form_again (forms.Variable Load sorts.Int) = refl
form_again (forms.Variable Load _) = refl
form_again (forms.Variable Store sorts.Int) = refl
form_again (forms.Variable Store _) = refl
form_again (forms.Pool uses.New) = refl
form_again (forms.Pool _) = refl
form_again (forms.Branch (branches.If conditions.Equal)) = refl
form_again (forms.Branch (branches.If _)) = refl
form_again (forms.Branch (branches.IfInts conditions.Equal)) = refl
form_again (forms.Branch (branches.IfInts _)) = refl
form_again (forms.Branch (branches.IfReferences equalities.Equal)) = refl
form_again (forms.Branch (branches.IfReferences _)) = refl
form_again (forms.Branch branches.Goto) = refl
form_again (forms.Branch _) = refl
form_again _ = refl
