use Rattle.std.proofs.Common.{◌≤◌, ℕ, sym, subst, ◌∙◌}
use Rattle.class_set.specs.Facts.{facts_of}
use Rattle.program_launch.proofs.Rooms.{parts_of, taken_by}
use Rattle.program_launch.proofs.room.find_room.Goals as goal

pub returns-in-Ok-clause-room : goal.returns-in-Ok-clause-room
returns-in-Ok-clause-room c = λ opening.
    let set = facts_of c.args.set.now in
    subst (λ (n : ℕ). n ≤ c.args.words) (sym (taken_by set opening))
    (c.in-Ok.ensures.room (parts_of set) (sym (c.as_slice.ensures ∙ c.in_ok-literals.ensures)))

pub returns-clause-full : goal.returns-clause-full
returns-clause-full c =
    let set = facts_of c.args.set.now in
    c.in-Err.ensures.full (parts_of set) (sym (c.as_slice.ensures ∙ c.in_ok-literals.ensures))
