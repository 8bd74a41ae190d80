use Rattle.std.proofs.Common.{◌<◌, ⊎_elim, ℕ, List, Vec, Global, Result, Err, ap, arith}
use Rattle.line_memory.specs.Memory.{line_shown}
use Rattle.line_memory.specs.declared.attach.AttachFault.{AttachFault}
use Rattle.line_memory.proofs.Chain.{goes_quietly}
use Rattle.line_memory.proofs.Keeps.{attaches}
use Rattle.line_memory.proofs.memory.LineMemory.attach.Goals as goal

pub returns-in-Ok-clause-attached : goal.returns-in-Ok-clause-attached
unfolding line_shown
returns-in-Ok-clause-attached g c =
    let read = c.in-Ok.ensures in
    let count = c.lines-count.ensures.size in
    attaches (g.I.Image.told c.args.image) (g.I.Image.faults c.args.image) _
    (g.met.I.Image.in_order c.args.image) read.size (omega (arith, read.size, count), omega (arith, read.size, count))
    read.same read.calls_later count read.calls
    (λ l below. read.reads l (omega (arith, read.size, count, below))) read.cause

abbrev failed : AttachFault → Result (Vec (List ℕ) Global) AttachFault
failed fault = Err fault

pub returns-in-Err-clause-given_back : goal.returns-in-Err-clause-given_back
returns-in-Err-clause-given_back g c =
    let read = c.in-Err.ensures in
    let count = c.lines-count.ensures.size in
    let start = g.I.Image.told c.args.image in
    record {
      size_fault = (
        λ is. absurd (read.never (ap failed is)),
        λ wrong. absurd (⊎_elim
            (λ (few : start.size < 32768). omega (arith, count, few))
            (λ (many : 4194304 < start.size). omega (arith, count, many))
            wrong),
      );
      cause = read.cause;
      same_size = read.size;
      same_trace = read.same;
      any_moment = goes_quietly start _ (g.met.I.Image.in_order c.args.image) read.calls_later read.same;
    }
