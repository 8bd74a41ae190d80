use Rattle.std.proofs.Common.{◌≡◌, length, map, ap, arith}
use Rattle.std.proofs.lemmas.List.{length-append}
use Rattle.image_meaning.specs.Directories.{spelled_all}
use Rattle.directories.specs.Kept.{Kept}
use Rattle.directories.specs.Read.{entry_of}
use Rattle.directories.proofs.Plans.{entries_few}
use Rattle.directories.proofs.directory.Directory.add_plan.Goals as goal

pub invariant_of-self-2 : goal.invariant_of-self-2
invariant_of-self-2 c =
    let used : c.self.inside.used ≡ c.args.self.now.used = ap (λ (k : Kept). k.used) c.self.view_is in
    record {
      within = omega arith;
      few = omega (arith, entries_few (map entry_of c.args.entries.items), c.requires.room);
      spelled = c.requires.spelled;
      room = omega (arith, used, c.requires.room);
      counted = omega (
        arith,
        c.self.invariant.counted,
        c.requires.few,
        used,
        ap (λ (k : Kept). length (spelled_all k.left)) c.self.view_is,
        ap length c.in_ok-append-2.ensures.items,
        length-append c.reserve.new.self.items c.args.shapes.items,
        ap length c.in_ok-reserve.ensures.items,
      );
    }
