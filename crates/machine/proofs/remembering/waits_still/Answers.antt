use Rattle.std.proofs.Common.{◌∙◌, sym}
use Rattle.machine.proofs.StillWaiting.{agrees, answers-so, long, may, none-noted, noted-is, on-itself, on-same, plainly, still, whole}
use Rattle.machine.proofs.remembering.waits_still.Goals as goal

pub plain_wait-requires : goal.plain_wait-requires
plain_wait-requires g c =
    let set = g.C.Types.facts c.args.set.now in
    let s = c.args.heap.now in record {
      whole = whole set s c.requires.running;
      long = long set s c.requires.running;
      agrees = agrees set s c.requires.running c.requires.counted;
      may = may set s c.requires.running c.laws.ensures c.args.u c.in-Some.on
          (noted-is s.notes.waits c.args.u _ c.in-Some.ensures);
    }

pub returns-then-is_plain : goal.returns-then-is_plain
returns-then-is_plain g c roots =
    let set = g.C.Types.facts c.args.set.now in
    let s = c.args.heap.now in
    let noted = noted-is s.notes.waits c.args.u _ c.in-Some.ensures in (
      λ same. still set s c.requires.running roots c.args.u c.in-Some.on c.plain_wait.result noted
          (c.is_plain.ensures.0 c.if-is_plain.true) c.plain_wait.ensures.waits
          (on-same c.plain_wait.result c.in-Some.on (sym c.eq.ensures ∙ same)),
      λ x. c.eq.ensures ∙ on-itself c.plain_wait.result c.in-Some.on
          (answers-so set s c.requires.running roots c.args.u c.in-Some.on c.plain_wait.result noted
          c.plain_wait.ensures.waits x),
    )

pub returns-else-is_plain : goal.returns-else-is_plain
returns-else-is_plain g c roots =
    let s = c.args.heap.now in (
      λ no. absurd (let e = no in cc),
      λ x. absurd (let yes = c.is_plain.ensures.1
          (plainly (g.C.Types.facts c.args.set.now) s c.requires.running roots c.args.u c.in-Some.on
          (noted-is s.notes.waits c.args.u _ c.in-Some.ensures) x) in
          let no = c.if-is_plain.false in cc),
    )

pub returns-in-None : goal.returns-in-None
returns-in-None g c roots =
    let s = c.args.heap.now in (
      λ no. absurd (let e = no in cc),
      λ x. absurd (none-noted (g.C.Types.facts c.args.set.now) s c.requires.running roots c.args.u
          (noted-is s.notes.waits c.args.u _ c.in-None.ensures) x),
    )
