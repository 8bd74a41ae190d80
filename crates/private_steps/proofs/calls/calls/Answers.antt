use Rattle.std.proofs.Common.{◌≡◌, ◌∙◌, List, take, sym, ap, subst}
use Rattle.code_form.specs.declared.ins.Sort.{Sort}
use Rattle.frame_cells.specs.declared.cell.Cell.{Cell}
use Rattle.frame_cells.specs.Own.{Own}
use Rattle.frames.specs.declared.given.Given.TheVariants as given
use Rattle.frames.specs.declared.program.Body.TheVariants as body
use Rattle.frames.specs.Tables.{method_at}
use Rattle.frames.specs.Calls.{returns_to}
use Rattle.frame_thread.specs.declared.tables.Outline.{Outline}
use Rattle.frame_thread.specs.Stacked.{frames_with, without}
use Rattle.private_steps.specs.Arguments.{IsTaken}
use Rattle.private_steps.proofs.Called.{calls-so}
use Rattle.private_steps.proofs.calls.calls.Goals as goal

pub returns-in-Code-clause-step : goal.returns-in-Code-clause-step
returns-in-Code-clause-step g c =
    let x = g.H.Host.setting c.args.host.now in
    let t = c.args.thread.now in
    let pe : c.parameters.result.now ≡ (method_at x.program c.args.number).parameters =
    c.parameters.ensures ∙ ap (λ p. (method_at p c.args.number).parameters) c.program.ensures in
    let P : List Sort → Type 0 = λ ps. IsTaken ps c.cells.result.now.own.stack c.in-Some.count in
    let Q : List (Cell _) → Type 0 = λ s. IsTaken (method_at x.program c.args.number).parameters s c.in-Some.count in
    let it : IsTaken (method_at x.program c.args.number).parameters t.own.stack c.in-Some.count =
    subst Q (ap (λ (o : Own _). o.stack) c.cells.ensures) (subst P pe c.in-Some.ensures) in
    let b : (method_at x.program c.args.number).body ≡ body.Code c.in-Code.entry =
    ap (λ p. (method_at p c.args.number).body) (sym c.program-2.ensures) ∙
    ap (λ (o : Outline _). o.body) (sym c.outline_at.ensures) ∙ c.in-Code.is in
    calls-so x c.args.number t c.args.standing c.requires.form c.in-Some.count _ _ it b
    (c.code.ensures.step it.arguments
    (returns_to x given.Nothing (frames_with t.form (without c.in-Some.count t.own) t.below)))

pub returns-in-Native-clause-step : goal.returns-in-Native-clause-step
returns-in-Native-clause-step g c =
    let x = g.H.Host.setting c.args.host.now in
    let t = c.args.thread.now in
    let pe : c.parameters.result.now ≡ (method_at x.program c.args.number).parameters =
    c.parameters.ensures ∙ ap (λ p. (method_at p c.args.number).parameters) c.program.ensures in
    let P : List Sort → Type 0 = λ ps. IsTaken ps c.cells.result.now.own.stack c.in-Some.count in
    let Q : List (Cell _) → Type 0 = λ s. IsTaken (method_at x.program c.args.number).parameters s c.in-Some.count in
    let it : IsTaken (method_at x.program c.args.number).parameters t.own.stack c.in-Some.count =
    subst Q (ap (λ (o : Own _). o.stack) c.cells.ensures) (subst P pe c.in-Some.ensures) in
    let b : (method_at x.program c.args.number).body ≡ body.Native c.in-Native.method =
    ap (λ p. (method_at p c.args.number).body) (sym c.program-2.ensures) ∙
    ap (λ (o : Outline _). o.body) (sym c.outline_at.ensures) ∙ c.in-Native.is in
    calls-so x c.args.number t c.args.standing c.requires.form c.in-Some.count _ _ it b
    (c.native.ensures.step it.arguments
    (returns_to x given.Nothing (frames_with t.form (without c.in-Some.count t.own) t.below)) it.are)

pub returns-in-Empty-clause-step : goal.returns-in-Empty-clause-step
returns-in-Empty-clause-step g c =
    let x = g.H.Host.setting c.args.host.now in
    let t = c.args.thread.now in
    let pe : c.parameters.result.now ≡ (method_at x.program c.args.number).parameters =
    c.parameters.ensures ∙ ap (λ p. (method_at p c.args.number).parameters) c.program.ensures in
    let P : List Sort → Type 0 = λ ps. IsTaken ps c.cells.result.now.own.stack c.in-Some.count in
    let Q : List (Cell _) → Type 0 = λ s. IsTaken (method_at x.program c.args.number).parameters s c.in-Some.count in
    let it : IsTaken (method_at x.program c.args.number).parameters t.own.stack c.in-Some.count =
    subst Q (ap (λ (o : Own _). o.stack) c.cells.ensures) (subst P pe c.in-Some.ensures) in
    let b : (method_at x.program c.args.number).body ≡ body.Empty =
    ap (λ p. (method_at p c.args.number).body) (sym c.program-2.ensures) ∙
    ap (λ (o : Outline _). o.body) (sym c.outline_at.ensures) ∙ c.in-Empty.is in
    calls-so x c.args.number t c.args.standing c.requires.form c.in-Some.count _ _ it b
    (c.empty.ensures.step c.args.number (take c.in-Some.count t.own.stack) it.arguments)
