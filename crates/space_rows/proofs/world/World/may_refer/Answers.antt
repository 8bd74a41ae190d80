use Rattle.std.proofs.Common.{inr, sym, ◌∙◌, ap}
use Rattle.twin_forms.specs.Sights.{view_of}
use Rattle.two_spaces.specs.Laws.{null_is_no_object}
use Rattle.two_spaces.specs.Seen.{number_in}
use Rattle.one_space.specs.Laws.{none_is_not}
use Rattle.space_rows.specs.Worlds.{spaces_of}
use Rattle.space_rows.proofs.world.World.may_refer.Goals as goal

pub is_old-requires : goal.is_old-requires
is_old-requires c = record { holds = c.requires.holds; known = c.requires.known; some = c.in_default.not-Null }

pub returns-in-Null : goal.returns-in-Null
returns-in-Null c = record {
  may = λ is es stands.
      (let v = view_of (spaces_of c.args.self.now.spaces).twin in
      inr (λ n number copied. none_is_not (sym (null_is_no_object v) ∙ ap (number_in v) (sym c.in-Null.is) ∙ number)));
}
