use Rattle.std.proofs.Common.{◌∙◌, ◌++◌, ◌∷◌, [], List, None, ap, refl}
use Rattle.plain_machine.specs.declared.lanes.Lane.{Lane}
use Rattle.plain_machine.proofs.Begun.{sound-first, stands-first}
use Rattle.plain_machine.proofs.plain.Plain.begin.Goals as goal

pub new-requires-2 : goal.new-requires-2
new-requires-2 c = record {
  sound = sound-first c.requires.begins.0 c.args.beginning c.requires.begins.1
      (c.the_first_heap_is_sound.ensures c.requires.begins.0.set c.requires.begins.0.opening
      c.requires.begins.1.launched.consistent.complete c.requires.begins.1.launched.opening) c.requires.short;
}

pub returns : goal.returns
returns c launch with =
    let lane : Lane = record { frames = c.begin_main.new.self; asked = None } in
    stands-first launch c.args.beginning with c.machines_begin.ensures _ _ _ c.begin_main.new.self
    c.new-2.ensures.shown c.in_ok-reserve.ensures.none refl c.in_ok-reserve-2.ensures.one c.begin_main.ensures
    (c.in_ok-push.ensures.items ∙ ap (λ (lanes : List Lane). lanes ++ lane ∷ []) c.new-lanes.ensures.items)
