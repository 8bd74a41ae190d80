use Rattle.std.proofs.Common.{◌≡◌, ◌∙◌, [], Some, sym, ap}
use Rattle.frames.specs.declared.given.Given.TheVariants as given
use Rattle.frames.specs.declared.program.Body.TheVariants as body
use Rattle.frames.specs.Tables.{method_at, class_at}
use Rattle.frames.specs.Calls.{begins_body, runs_method, returns_to}
use Rattle.frame_thread.specs.declared.tables.Outline.{Outline}
use Rattle.frame_thread.specs.Stacked.{list_of}
use Rattle.frame_steps.proofs.initialises.runs_initialiser.Goals as goal

pub returns-in-Code-clause-step : goal.returns-in-Code-clause-step
returns-in-Code-clause-step g c =
    let x = g.H.Host.setting c.args.host.now in
    let fs = list_of c.args.thread.now in
    let e = returns_to x given.Nothing fs in
    let b : (method_at x.program c.in-Some.number).body ≡ body.Code c.in-Code.entry =
    ap (λ p. (method_at p c.in-Some.number).body) (sym c.program-2.ensures) ∙
    ap (λ (o : Outline _). o.body) (sym c.outline_at.ensures) ∙ c.in-Code.is in
    let n : (class_at x.program c.args.class).initialiser ≡ Some c.in-Some.number =
    ap (λ p. (class_at p c.args.class).initialiser) (sym c.program.ensures) ∙ sym c.in-Some.ensures in
    c.code.ensures.step e ∙
    ap (λ below. begins_body x c.in-Some.number [] [] fs below e (body.Code c.in-Code.entry))
    c.base-base.ensures.below ∙ ap (begins_body x c.in-Some.number [] [] fs fs e) (sym b) ∙
    ap (λ m. runs_method x m fs) (sym n)

pub returns-in-Native-clause-step : goal.returns-in-Native-clause-step
returns-in-Native-clause-step g c =
    let x = g.H.Host.setting c.args.host.now in
    let fs = list_of c.args.thread.now in
    let e = returns_to x given.Nothing fs in
    let b : (method_at x.program c.in-Some.number).body ≡ body.Native c.in-Native.method =
    ap (λ p. (method_at p c.in-Some.number).body) (sym c.program-2.ensures) ∙
    ap (λ (o : Outline _). o.body) (sym c.outline_at.ensures) ∙ c.in-Native.is in
    let n : (class_at x.program c.args.class).initialiser ≡ Some c.in-Some.number =
    ap (λ p. (class_at p c.args.class).initialiser) (sym c.program.ensures) ∙ sym c.in-Some.ensures in
    c.native.ensures.step e ∙
    ap (λ below. begins_body x c.in-Some.number [] [] fs below e (body.Native c.in-Native.method))
    c.base-base.ensures.below ∙ ap (begins_body x c.in-Some.number [] [] fs fs e) (sym b) ∙
    ap (λ m. runs_method x m fs) (sym n)
