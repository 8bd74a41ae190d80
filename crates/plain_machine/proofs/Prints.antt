-- What a print does, and which operations aren't one of its piece.
use Rattle.std.proofs.Common.{◌≡◌, ℕ, ◌<◌, ◌≤◌, Bool, true, false, nat_lt, nat_le, ◌&&◌, List, length, take, Option, Some, None}
use Rattle.std.proofs.Common.{refl, ap, sym, ◌∙◌, rules, if◌then◌else◌}
use Rattle.ap_base.specs.declared.reference.Ref.{Ref}
use Rattle.ap_base.specs.declared.reference.Item.{Item}
use Rattle.run_types.specs.declared.resolved.At.{At}
use Rattle.graph_model.specs.declared.types.Root.{Root}
use Rattle.natives.specs.declared.requests.Request.{Request}
use Rattle.natives.specs.declared.requests.Request.TheVariants as ask
use Rattle.natives.specs.declared.requests.Reply.TheVariants as reply
use Rattle.run_history.specs.declared.act.Op.{Op}
use Rattle.run_history.specs.declared.act.Op.TheVariants as op
use Rattle.run_history.specs.Worlds.{World}
use Rattle.plain_model.specs.Codes.{taken_by}
use Rattle.plain_model.specs.Facts.{SetFacts}
use Rattle.plain_model.specs.Steps.{Does, WrongOperand, op_of, step}
use Rattle.shared_objects.specs.declared.rest.Rest.{Rest}
use Rattle.shared_objects.specs.Shown.{Shown}
use Rattle.shared_objects.specs.Plain.{plain_request}
use Rattle.shared_objects.specs.Worlds.{KnowsMonitors, world_of}
use Rattle.step_forms.specs.declared.stepped.Stepped.TheVariants as stepped
use Rattle.step_forms.specs.Follows.{IsStep}
use Rattle.step_forms.proofs.Going.{did_goes}
use Rattle.plain_machine.specs.Foreseeing.{step_in}
use Rattle.plain_machine.specs.Ops.{IsPrinting, asks_print, is_print}
use Rattle.plain_machine.proofs.Possible.{no-false, no-true}

no-none : {X P : Type 0} (v : X) → ◌≡◌ {A = Option X} None (Some v) → P
no-none v e = absurd (let no = e in cc)

-- ---- the step doesn't depend on how much is printed, but for prints

pub step-of : (set : SetFacts) (world : World) (t taken other : ℕ) (number : Ref → Option ℕ)
    (q : Request Ref Item)
    → asks_print q ≡ false
    → step set world t taken (plain_request number q) ≡ step set world t other (plain_request number q)
unfolding step
step-of set world t taken other number (ask.Print from piece) e = no-true e
step-of set world t taken other number q e = refl

-- ---- prints

printed-step : (set : SetFacts) (world : World) (t n : ℕ) (number : Ref → Option ℕ) (from : At)
    (piece : List ℕ)
    → 0 < n → n ≤ length piece
    → step set world t n (plain_request number (ask.Print from piece)) ≡ Does (op.Print (take n piece))
    (reply.Printed n)
unfolding step
printed-step set world t n number from piece some within =
    let above : nat_lt 0 n ≡ true = search (rules, some) in
    let below : nat_le n (length piece) ≡ true = search (rules, within) in
    ap (λ b. if b && nat_le n (length piece) then Does (op.Print (take n piece))
    (reply.Printed n) else WrongOperand)
    above
    ∙ ap (λ b. if b then Does (op.Print (take n piece)) (reply.Printed n) else WrongOperand) below

pub print-is : (set : SetFacts) (t : ℕ) (shown : Shown) (rest : Rest) (q : Request Ref Item) (o : Op) (n : ℕ)
    → IsPrinting q o (Some n) → KnowsMonitors shown rest
    → IsStep set t q shown rest (stepped.Did o (reply.Printed n)) shown rest
print-is set t shown rest (ask.Print from piece) (op.Print bytes) n is known = did_goes (op.Print bytes)
    (reply.Printed n)
    (λ roots. ap (λ m. step set (world_of roots shown rest) t m (plain_request shown.number
    (ask.Print from piece)))
    (sym is.0)
    ∙ printed-step set (world_of roots shown rest) t n shown.number from piece is.1 is.2
    ∙ ap (λ bs. Does (op.Print bs) (reply.Printed n)) is.3)
    tt refl tt (λ roots. refl) known
print-is set t shown rest q o n is known = absurd is

-- a print that isn't taken is none of the piece
option-print : Option Op → Bool
option-print None = false
option-print (Some o) = is_print o

print-not : (x : List ℕ) (o : Op) → is_print o ≡ false → ◌≡◌ {A = Option Op} (Some (op.Print x)) (Some o) → ⊥
unfolding option-print
print-not x o silent h = no-true (ap option-print h ∙ silent)

silent-print : (set : SetFacts) (world : World) (t taken : ℕ) (number : Ref → Option ℕ) (from : At)
    (piece : List ℕ) (o : Op) → is_print o ≡ false
    → op_of (step set world t taken (plain_request number (ask.Print from piece))) ≡ Some o → ⊥
unfolding step
silent-print set world t taken number from piece o silent e =
    by-test (nat_lt 0 taken && nat_le taken (length piece)) e
  where
    by-test : (b : Bool)
        → op_of (if b then Does (op.Print (take taken piece)) (reply.Printed taken) else WrongOperand)
        ≡ Some o → ⊥
    by-test true h = print-not (take taken piece) o silent h
    by-test false h = no-none o h

same-bytes : (x y : List ℕ) → ◌≡◌ {A = Option Op} (Some (op.Print x)) (Some (op.Print y)) → x ≡ y
same-bytes x y h = cc

pub not-printed : (set : SetFacts) (world : World) (t : ℕ) (number : Ref → Option ℕ) (from : At)
    (piece : List ℕ)
    (o : Op) → IsPrinting (ask.Print from piece) o None
    → op_of (step set world t (taken_by o) (plain_request number (ask.Print from piece))) ≡ Some o → ⊥
unfolding step
not-printed set world t number from piece (op.Print bytes) other e =
    by-test (nat_lt 0 (length bytes)) (nat_le (length bytes) (length piece)) refl e
  where
    by-test : (b d : Bool) → nat_le (length bytes) (length piece) ≡ d
        → op_of (if b && d then Does (op.Print (take (length bytes) piece)) (reply.Printed
        (length bytes)) else WrongOperand)
        ≡ Some (op.Print bytes) → ⊥
    by-test true true within h = other (search (rules, within)) (same-bytes _ _ h)
    by-test true false within h = no-none (op.Print bytes) h
    by-test false d within h = no-none (op.Print bytes) h
not-printed set world t number from piece o other e = silent-print set world t
    (taken_by o) number from piece o refl e

-- no other operation is what a print's step does
pub print-refuses : (set : SetFacts) (t : ℕ) (shown : Shown) (rest : Rest) (q : Request Ref Item) (o : Op)
    → asks_print q ≡ true → IsPrinting q o None → (roots : List Root)
    → op_of (step_in set roots shown rest t (taken_by o) q) ≡ Some o → ⊥
print-refuses set t shown rest (ask.Print from piece) o is isnt roots e =
    not-printed set (world_of roots shown rest) t shown.number from piece o isnt e
print-refuses set t shown rest q o is isnt roots e = no-false is
