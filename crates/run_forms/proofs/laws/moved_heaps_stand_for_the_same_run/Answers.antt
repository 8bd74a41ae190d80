use Rattle.run_forms.proofs.Asked.{BuiltIns}
use Rattle.run_forms.proofs.Shifted.{shifted}
use Rattle.run_forms.proofs.laws.moved_heaps_stand_for_the_same_run.Goals as goal

pub returns : goal.returns
returns c =
    let laws : BuiltIns = record {
      keep = c.built_in_methods_keep_in.ensures;
      duties = c.programs_with_built_in_methods_ask_what_is_fit.ensures.duties;
      worlds = c.programs_with_built_in_methods_ask_what_is_fit.ensures.worlds;
      frames = c.programs_with_built_in_methods_ask_what_is_fit.ensures.frames;
      alike = λ number. c.machines_with_built_in_methods_go_alike.ensures.alike _ _;
      items = c.items_are_alike.ensures;
    } in
    record {
      stands = λ launch acts shown rest threads is here now rest_now same.
          shifted laws launch acts shown rest threads is here now rest_now same;
    }
