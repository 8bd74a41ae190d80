use Rattle.std.proofs.Common.{rules, ◌≡◌, ◌+◌, Some, None, length, ap, ◌∙◌, arith}
use Rattle.std.specs.Prelude.{slice_get}
use Rattle.std.specs.Option.{option_copied}
use Rattle.plain_model.specs.Facts.{shapes_of}
use Rattle.class_set.specs.Linked.{Linked, class_named}
use Rattle.class_set.specs.Facts.{facts_of}
use Rattle.class_set.proofs.Copied.{copied_get, nothing_over, only_over}
use Rattle.class_set.proofs.Named.{shape_found, shape_not_found}
use Rattle.class_set.proofs.set.ClassSet.class_shape.Goals as goal

pub returns-in_err-class : goal.returns-in_err-class
returns-in_err-class c =
    let set = c.args.self.now in
    let t = c.args.name.now in
    let none : c.from_residual.result ≡ None = search rules in
    let lacking : class_named set t ≡ None = search rules in
    ap option_copied none ∙ shape_not_found set t (nothing_over (class_named set t) (length set.files + 28) lacking)

pub returns-then-class-named_count : goal.returns-then-class-named_count
returns-then-class-named_count c =
    let set = c.args.self.now in
    let t = c.args.name.now in
    let found : class_named set t ≡ Some c.in_ok-class.class = search rules in
    shape_not_found set t
    (only_over (class_named set t) (length set.files + 28) c.in_ok-class.class found
    (omega (arith, c.if-class-named_count.true, c.named_count.ensures)))

pub returns : goal.returns
returns c =
    let set = c.args.self.now in
    let t = c.args.name.now in
    let class = c.in_ok-class.class in
    let found : class_named set t ≡ Some class = search rules in
    copied_get c.deref.result.now class c.get.result c.get.ensures.lookup.0 c.get.ensures.lookup.1
    ∙ ap (λ ss. slice_get ss class) c.deref.ensures.value
    ∙ ap (λ ss. slice_get ss class) c.self.invariant.1.shapes_listed
    ∙ ap (λ (s : Linked). slice_get (shapes_of (facts_of s)) class) c.self.view_is
    ∙ shape_found set t class found (omega (arith, c.if-class-named_count.false, c.named_count.ensures))
