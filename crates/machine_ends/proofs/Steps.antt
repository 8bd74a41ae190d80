-- What plain steps of single requests come to.
use Rattle.std.proofs.Common.{◌≡◌, ℕ, zero, suc, ◌&&◌, true, false, [], ◌∷◌, length, take, nat_le}
use Rattle.std.proofs.Common.{nat_lt, is_some, Option, Some, None, refl, sym, subst, ◌∙◌, arith, if◌then◌else◌}
use Rattle.std.proofs.lemmas.Bool.Decides.{nat_tests}
use Rattle.ap_base.specs.declared.reference.Ref.{Ref}
use Rattle.ap_base.specs.declared.reference.Item.{Item}
use Rattle.run_types.specs.declared.resolved.At.{At}
use Rattle.graph_model.specs.declared.types.Value.{Value}
use Rattle.natives.specs.declared.requests.Request.{Request}
use Rattle.natives.specs.declared.requests.Request.TheVariants as ask
use Rattle.natives.specs.declared.requests.Reply.TheVariants as reply
use Rattle.run_history.specs.declared.act.Op.{Op}
use Rattle.run_history.specs.declared.act.Op.TheVariants as op
use Rattle.run_history.specs.Worlds.{World}
use Rattle.plain_model.specs.Facts.{SetFacts}
use Rattle.plain_model.specs.Requests.{PlainReply, PlainRequest, from_of}
use Rattle.plain_model.specs.Steps.{Does, WrongOperand, step}
use Rattle.plain_model.specs.Codes.{taken_by}
use Rattle.plain_model.specs.Ends.{Prints}
use Rattle.frames.specs.Maps.{map_request}
use Rattle.step_forms.specs.Follows.{DoesPrint}
use Rattle.run_forms.specs.Ends.{from_in}
use Rattle.run_forms.proofs.Visible.{is_print, prints}

pub no-false : {P : Type 0} → true ≡ false → P
no-false e = absurd (let no : true ≡ false = e in cc)

pub none-some : {X : Type 0} (v : X) {P : Type 0} → ◌≡◌ {A = Option X} None (Some v) → P
none-some v e = absurd (let no = e in cc)

-- ---- where a request comes from

from-same : (f : Ref → Value) (h : Item → Value) (q : Request Ref Item)
    → from_of (map_request f h q) ≡ from_in q
from-same f h ask.Pause = refl
from-same f h q = refl

-- one that finds a wrong operand comes from an instruction
wrong-from : (set : SetFacts) (world : World) (t : ℕ) (q : PlainRequest) → step set world t 1 q ≡ WrongOperand
    → is_some (from_of q) ≡ true
unfolding step
wrong-from set world t ask.Pause e = absurd (let no = e in cc)
wrong-from set world t (ask.Broken b) e = absurd (let no = e in cc)
wrong-from set world t (ask.Leave uncaught) e = absurd (let no = e in cc)
wrong-from set world t q e = refl

there : (from : Option At) → is_some from ≡ true → (at : At) × (from ≡ Some at)
there None e = no-false (sym e)
there (Some at) e = (at, refl)

pub wrong-asks : (set : SetFacts) (world : World) (t : ℕ) (f : Ref → Value) (h : Item → Value)
    (q : Request Ref Item) → step set world t 1 (map_request f h q) ≡ WrongOperand
    → (from : At) × (from_in q ≡ Some from) × (from_of (map_request f h q) ≡ Some from)
wrong-asks set world t f h q e =
    let (from, is) = there (from_of (map_request f h q)) (wrong-from set world t (map_request f h q) e) in
    (from, sym (from-same f h q) ∙ is, is)

-- ---- prints

pub printing : (q : PlainRequest) → prints q ≡ true → Prints (Some q)
printing (ask.Print from piece) e = (from, piece, refl)
printing q e = absurd (let no : false ≡ true = e in cc)

-- where a print does anything, one of a single byte does
pub print-does : (set : SetFacts) (world : World) (t taken : ℕ) (q : PlainRequest) (o : Op) (r : PlainReply)
    → prints q ≡ true → step set world t taken q ≡ Does o r → DoesPrint (step set world t 1 q)
unfolding step
print-does set world t zero (ask.Print from []) o r is e = absurd (let no = e in cc)
print-does set world t (suc taken) (ask.Print from []) o r is e =
    let below : nat_lt 0 (suc taken) ≡ true = grind (arith, nat_tests) in
    let none : nat_le (suc taken) 0 ≡ false = grind (arith, nat_tests) in
    absurd (let no : WrongOperand ≡ Does o r =
    sym (λ i. if below i && none i then Does (op.Print (take (suc taken) [])) (reply.Printed (suc taken))
    else WrongOperand) ∙ e in cc)
print-does set world t taken (ask.Print from (byte ∷ bytes)) o r is e =
    let one : nat_le 1 (suc (length bytes)) ≡ true = grind (arith, nat_tests) in
    subst (λ b. DoesPrint (if b then Does (op.Print (byte ∷ [])) (reply.Printed 1) else WrongOperand))
    (sym one) tt
print-does set world t taken q o r is e = absurd (let no : false ≡ true = is in cc)

pub taken-one : (o : Op) → is_print o ≡ false → taken_by o ≡ 1
taken-one (op.Print bytes) e = no-false e
taken-one o e = refl
