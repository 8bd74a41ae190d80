use Rattle.run_forms.proofs.Asked.{BuiltIns}
use Rattle.run_forms.proofs.Volatile.{agree, volatile-run, volatile-acted}
use Rattle.run_forms.proofs.laws.volatile_machines_go_on.Goals as goal

pub returns : goal.returns
returns c =
    let laws : BuiltIns = record {
      keep = c.built_in_methods_keep_in.ensures;
      duties = c.programs_with_built_in_methods_ask_what_is_fit.ensures.duties;
      worlds = c.programs_with_built_in_methods_ask_what_is_fit.ensures.worlds;
      frames = c.programs_with_built_in_methods_ask_what_is_fit.ensures.frames;
      alike = λ number. c.machines_with_built_in_methods_go_alike.ensures.alike _ _;
      items = c.items_are_alike.ensures;
    } in
    record {
      agree = λ launch calls acts shown rest threads is here few.
          agree laws launch calls acts shown rest threads is here few;
      runs = λ launch calls acts shown rest threads is here t fs q o r now rest_now asking steps.
          volatile-run laws launch calls acts shown rest threads is here t fs q o r now rest_now asking steps;
      acts = λ launch calls acts shown rest threads is here t fs q o r now rest_now begun asking steps null
          begins.
          volatile-acted laws launch calls acts shown rest threads is here t fs q o r now rest_now asking steps
          null begun begins;
    }
