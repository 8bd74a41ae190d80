use Rattle.std.proofs.Common.{refl, ◌∙◌, arith}
use Rattle.twin_forms.specs.Sights.{sight}
use Rattle.convert_queue.specs.Queues.{queue_of}
use Rattle.converter.proofs.Goings.{past}
use Rattle.converter.proofs.Sealed.{queued_in, to_seal, sealed_one, sealed_thread}
use Rattle.converter.proofs.seals.seal_objects.Goals as goal

pub loop-i-init : goal.loop-i-init
loop-i-init g c = record { sealed = λ v0 es0 es s. (es, s); memory = refl; kinds = refl; left = refl }

pub returns-in_default-clause-sealed : goal.returns-in_default-clause-sealed
returns-in_default-clause-sealed g c = λ v0 es0 es s.
    let q = c.args.queue.now in
    let x = c.loop-i.invariant.sealed v0 es0 es s in
    let h = c.loop-i.heap in
    (x.0, sealed_thread q v0 es0 c.args.set c.args.u c.loop-i.i (sight h.space h.memory h.marks) x.0 x.1 c.requires.member (past (queue_of q c.args.u) c.loop-i.i c.in_default.ensures.queued))

pub returns-in_default-clause-memory : goal.returns-in_default-clause-memory
returns-in_default-clause-memory g c = c.loop-i.invariant.memory

pub returns-in_default-clause-kinds : goal.returns-in_default-clause-kinds
returns-in_default-clause-kinds g c = c.loop-i.invariant.kinds

pub returns-in_default-clause-left : goal.returns-in_default-clause-left
returns-in_default-clause-left g c = c.loop-i.invariant.left

pub seal-requires : goal.seal-requires
seal-requires g c =
    let q = c.args.queue.now in
    let p = c.requires.partly in
    let x = c.loop-i.invariant.sealed p.0 p.1 p.2 p.3 in
    let h = c.loop-i.heap in
    let is = queued_in q p.0 p.1 c.args.set c.args.u c.loop-i.i (sight h.space h.memory h.marks) x.0 c.in-Some.item x.1 c.in-Some.ensures.queued in
    let may = to_seal q p.0 p.1 c.args.set c.args.u c.loop-i.i is.0 c.in-Some.item.0 (sight h.space h.memory h.marks) x.0 x.1 c.requires.member is.1 is.2 in
    record { seal = (x.0, is.0, x.1.moved.lies, may.0, may.1) }

pub loop-i-preserved : goal.loop-i-preserved
loop-i-preserved g c =
    let q = c.args.queue.now in
    let h = c.loop-i.heap in
    let n = c.seal.new.self in
    record {
      sealed = λ v0 es0 es s.
          let x = c.loop-i.invariant.sealed v0 es0 es s in
          let is = queued_in q v0 es0 c.args.set c.args.u c.loop-i.i (sight h.space h.memory h.marks) x.0 c.in-Some.item x.1 c.in-Some.ensures.queued in
          let may = to_seal q v0 es0 c.args.set c.args.u c.loop-i.i is.0 c.in-Some.item.0 (sight h.space h.memory h.marks) x.0 x.1 c.requires.member is.1 is.2 in
          let moved = c.seal.ensures.sealed x.0 is.0 x.1.moved.lies may.0 may.1 in
          (_, sealed_one q v0 es0 c.args.set c.args.u c.loop-i.i is.0 (sight h.space h.memory h.marks) (sight n.space n.memory n.marks) x.0 x.1 c.requires.member is.1 moved);
      memory = c.seal.ensures.memory ∙ c.loop-i.invariant.memory;
      kinds = c.seal.ensures.kinds ∙ c.loop-i.invariant.kinds;
      left = c.seal.ensures.left ∙ c.loop-i.invariant.left;
    }

pub returns-clause-sealed : goal.returns-clause-sealed
returns-clause-sealed g c = λ v0 es0 es s.
    let q = c.args.queue.now in
    let x = c.loop-i.invariant.sealed v0 es0 es s in
    let h = c.loop-i.heap in
    let few = s.few c.args.u in
    (x.0, sealed_thread q v0 es0 c.args.set c.args.u c.loop-i.i (sight h.space h.memory h.marks) x.0 x.1 c.requires.member (omega (arith, few)))

pub returns-clause-memory : goal.returns-clause-memory
returns-clause-memory g c = c.loop-i.invariant.memory

pub returns-clause-kinds : goal.returns-clause-kinds
returns-clause-kinds g c = c.loop-i.invariant.kinds

pub returns-clause-left : goal.returns-clause-left
returns-clause-left g c = c.loop-i.invariant.left
