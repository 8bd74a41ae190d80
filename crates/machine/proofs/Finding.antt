-- What a thread waits for in the plain world, by its event.
use Rattle.std.proofs.Common.{◌≡◌, ℕ, Bool, true, false, length, nat_le, take, Option, Some, None, refl, ap, sym, ◌∙◌, if◌then◌else◌}
use Rattle.run_types.specs.declared.wait.On.{On}
use Rattle.run_types.specs.declared.wait.On.TheVariants as on
use Rattle.ap_base.specs.declared.reference.Ref.{Ref}
use Rattle.ap_base.specs.declared.reference.Item.{Item}
use Rattle.natives.specs.declared.requests.Request.{Request}
use Rattle.natives.specs.declared.requests.Request.TheVariants as ask
use Rattle.natives.specs.declared.requests.Reply.TheVariants as reply
use Rattle.run_history.specs.declared.act.Op.{Op}
use Rattle.run_history.specs.declared.act.Op.TheVariants as op
use Rattle.run_history.specs.Worlds.{World}
use Rattle.plain_model.specs.Facts.{SetFacts}
use Rattle.plain_model.specs.Requests.{PlainReply, PlainRequest}
use Rattle.plain_model.specs.Steps.{Step, Does, Waits, WrongOperand, step}
use Rattle.plain_model.specs.Ends.{wait_of}
use Rattle.shared_objects.specs.Shown.{Numbers}
use Rattle.shared_objects.specs.Plain.{plain_request}
use Rattle.shared_heap.specs.Passed.{IsSilent}
use Rattle.convert_waits.specs.Stuck.{IsPlain}
use Rattle.machine.specs.declared.events.Event.TheVariants.{WouldWait}
use Rattle.machine.specs.Events.{FindsWait}

-- a wait of the plain world is found
pub finds-plain : (logging : Bool) (p : On) (waits : Option On) → IsPlain p → waits ≡ Some p
    → FindsWait logging (WouldWait p) waits
finds-plain logging (on.Conversion u) waits plain is = absurd plain
finds-plain logging (on.Monitor u) waits plain is = is
finds-plain logging (on.Join u) waits plain is = is
finds-plain logging (on.Init u) waits plain is = is

either-none : (b : Bool) (x y : Step) → wait_of x ≡ None → wait_of y ≡ None → wait_of (if b then x else y) ≡ None
either-none true x y e f = e
either-none false x y e f = f

no-wait : (b : Bool) (x y : Step) (p : On) → wait_of x ≡ None → wait_of y ≡ None → (if b then x else y) ≡ Waits p → ⊥
no-wait b x y p e f is = let no = sym (either-none b x y e f) ∙ ap wait_of is in cc

-- who waits doesn't print
pub waits-silent : (set : SetFacts) (world : World) (t : ℕ) (number : Numbers) (request : Request Ref Item) (p : On)
    → step set world t 1 (plain_request number request) ≡ Waits p → IsSilent request
unfolding step
waits-silent set world t number (ask.Print from piece) p is =
    no-wait (nat_le 1 (length piece)) (Does (op.Print (take 1 piece)) (reply.Printed 1)) WrongOperand p refl refl is
waits-silent set world t number request p is = tt

-- A step that does something, however much is taken, doesn't wait.
pub does-waits-none : (set : SetFacts) (world : World) (t n : ℕ) (q : PlainRequest) (o : Op) (r : PlainReply)
    → step set world t n q ≡ Does o r → wait_of (step set world t 1 q) ≡ None
unfolding step
does-waits-none set world t n (ask.Print from bytes) o r e =
    either-none (nat_le 1 (length bytes)) (Does (op.Print (take 1 bytes)) (reply.Printed 1)) WrongOperand refl refl
does-waits-none set world t n ask.Pause o r e = ap wait_of e
does-waits-none set world t n (ask.Broken b) o r e = ap wait_of e
does-waits-none set world t n (ask.Leave uncaught) o r e = ap wait_of e
does-waits-none set world t n (ask.New from class) o r e = ap wait_of e
does-waits-none set world t n (ask.NewArray from shape count) o r e = ap wait_of e
does-waits-none set world t n (ask.NewText from count) o r e = ap wait_of e
does-waits-none set world t n (ask.GetStatic from field) o r e = ap wait_of e
does-waits-none set world t n (ask.PutStatic from field v) o r e = ap wait_of e
does-waits-none set world t n (ask.GetField from ref field) o r e = ap wait_of e
does-waits-none set world t n (ask.PutField from ref field v) o r e = ap wait_of e
does-waits-none set world t n (ask.GetElement from ref index k) o r e = ap wait_of e
does-waits-none set world t n (ask.PutElement from ref index k v) o r e = ap wait_of e
does-waits-none set world t n (ask.Length from ref) o r e = ap wait_of e
does-waits-none set world t n (ask.ClassOf from ref within) o r e = ap wait_of e
does-waits-none set world t n (ask.Cast from ref target) o r e = ap wait_of e
does-waits-none set world t n (ask.IsA from ref target) o r e = ap wait_of e
does-waits-none set world t n (ask.Same from left right) o r e = ap wait_of e
does-waits-none set world t n (ask.Enter from k) o r e = ap wait_of e
does-waits-none set world t n (ask.Exit from k) o r e = ap wait_of e
does-waits-none set world t n (ask.Start from ref) o r e = ap wait_of e
does-waits-none set world t n (ask.Join from ref) o r e = ap wait_of e
does-waits-none set world t n (ask.Init from class) o r e = ap wait_of e
does-waits-none set world t n (ask.InitDone from class) o r e = ap wait_of e
does-waits-none set world t n (ask.Raise from class) o r e = ap wait_of e
does-waits-none set world t n (ask.Begin from) o r e = ap wait_of e
does-waits-none set world t n (ask.End from) o r e = ap wait_of e
