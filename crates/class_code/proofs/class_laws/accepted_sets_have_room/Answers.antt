use Rattle.std.proofs.Common.{◌≤◌, length, arith}
use Rattle.std.proofs.lemmas.List.Elements.{All-filter}
use Rattle.class_file.specs.Classes.{CanBeRead, HasAtMost}
use Rattle.class_links.specs.Kept.{is_kept, kept_files}
use Rattle.class_set.specs.ArrayTypes.{linked_from}
use Rattle.class_set.proofs.Kept.{kept_fewer}
use Rattle.class_code.proofs.Sizes.{has_room}
use Rattle.class_code.proofs.class_laws.accepted_sets_have_room.Goals as goal

pub returns-clause-files : goal.returns-clause-files
returns-clause-files c = λ set few readable small large. omega (arith, has_room set few readable small, large)

pub returns-clause-linked : goal.returns-clause-linked
returns-clause-linked c = λ classes few readable small large.
    let fewer : length (kept_files classes) ≤ 4096 = omega (arith, few, kept_fewer classes) in
    omega (
      arith,
      large,
      has_room (linked_from (kept_files classes)) fewer (All-filter is_kept CanBeRead classes readable)
          (All-filter is_kept (HasAtMost 1048576) classes small),
    )
