use Rattle.run_forms.proofs.Asked.{BuiltIns}
use Rattle.run_forms.proofs.Ending.{full-history, meets-none, step-ends}
use Rattle.run_forms.proofs.laws.volatile_runs_end_by_their_faults.Goals as goal

pub returns : goal.returns
returns c =
    let laws : BuiltIns = record {
      keep = c.built_in_methods_keep_in.ensures;
      duties = c.programs_with_built_in_methods_ask_what_is_fit.ensures.duties;
      worlds = c.programs_with_built_in_methods_ask_what_is_fit.ensures.worlds;
      frames = c.programs_with_built_in_methods_ask_what_is_fit.ensures.frames;
      alike = λ number. c.machines_with_built_in_methods_go_alike.ensures.alike _ _;
      items = c.items_are_alike.ensures;
    } in
    record {
      full = λ launch calls acts shown rest threads is here lines t fs q asking enough.
          full-history laws launch calls acts shown rest threads is here lines t fs q asking enough;
      steps = λ launch calls acts shown rest threads is here lines t fs q result now rest_now asking steps room.
          step-ends laws launch calls acts shown rest threads is here lines t fs q asking room result now
          rest_now steps;
      acts = λ launch calls acts shown rest threads is here lines t fs q o r now rest_now asking steps room.
          meets-none laws launch calls acts shown rest threads is here lines t fs q asking room o r now rest_now
          steps;
    }
