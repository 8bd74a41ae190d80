use Rattle.run_forms.proofs.Asked.{BuiltIns, heap-is, asked}
use Rattle.run_forms.proofs.Acted.{acted}
use Rattle.run_forms.proofs.laws.machines_go_on_as_plain_runs.Goals as goal

pub returns : goal.returns
returns c =
    let laws : BuiltIns = record {
      keep = c.built_in_methods_keep_in.ensures;
      duties = c.programs_with_built_in_methods_ask_what_is_fit.ensures.duties;
      worlds = c.programs_with_built_in_methods_ask_what_is_fit.ensures.worlds;
      frames = c.programs_with_built_in_methods_ask_what_is_fit.ensures.frames;
      alike = λ number. c.machines_with_built_in_methods_go_alike.ensures.alike _ _;
      items = c.items_are_alike.ensures;
    } in
    record {
      heaps = λ launch acts shown rest threads is stands. heap-is laws launch acts shown rest threads is stands;
      asks = λ launch acts shown rest threads is stands t fs q asking.
          asked laws launch acts shown rest threads is stands t fs q asking;
      acts = λ launch acts shown rest threads is stands a fs q r now rest_now begun asking act begins.
          acted laws launch acts shown rest threads is stands a fs q r now rest_now begun asking act begins;
    }
