use Rattle.std.proofs.Common.{◌≡◌, ◌<◌, ◌^◌, Some, length, ap, sym, subst, ◌∙◌, arith}
use Rattle.std.specs.Prelude.{slice_get}
use Rattle.std.specs.Option.{option_copied}
use Rattle.graph_model.specs.declared.types.Shape.{Shape}
use Rattle.plain_model.specs.Facts.{class_at, classes_of, shapes_of}
use Rattle.class_set.specs.Linked.{Linked}
use Rattle.class_set.specs.Facts.{facts_of}
use Rattle.class_set.specs.Tables.{linked_of}
use Rattle.class_set.proofs.Copied.{copied_get}
use Rattle.class_set.proofs.FieldCounts.{few_fields, shape_got}
use Rattle.class_set.proofs.set.ClassSet.field_count.Goals as goal

pub overflow_cast-result : goal.overflow_cast-result
overflow_cast-result c =
    let files = c.self.inside.files.items in
    let set = linked_of files c.self.inside.names in
    let shape = c.in-Some.shape.now in
    let found : Some shape ≡ slice_get (shapes_of (facts_of c.args.self.now)) c.args.class =
    sym (ap option_copied c.in-Some.is)
    ∙ copied_get c.deref.result.now c.args.class c.get.result c.get.ensures.lookup.0 c.get.ensures.lookup.1
    ∙ ap (λ ss. slice_get ss c.args.class) c.deref.ensures.value
    ∙ ap (λ ss. slice_get ss c.args.class) c.self.invariant.1.shapes_listed
    ∙ ap (λ (s : Linked). slice_get (shapes_of (facts_of s)) c.args.class) c.self.view_is in
    let count : c.len.result ≡ length (class_at (facts_of c.args.self.now) c.args.class).shape.fields =
    c.len.ensures ∙ ap (λ (s : Shape). length s.fields) (shape_got (classes_of (facts_of c.args.self.now)) c.args.class shape (sym found)) in
    let few : length (class_at (facts_of c.args.self.now) c.args.class).shape.fields < 2 ^ 31 =
    subst (λ (s : Linked). length (class_at (facts_of s) c.args.class).shape.fields < 2 ^ 31) c.self.view_is
    (few_fields set c.args.class c.self.invariant.0.small c.self.invariant.0.few) in
    omega (arith, count, few)

pub returns-in-Some-clause-count : goal.returns-in-Some-clause-count
returns-in-Some-clause-count c =
    let files = c.self.inside.files.items in
    let set = linked_of files c.self.inside.names in
    let shape = c.in-Some.shape.now in
    let found : Some shape ≡ slice_get (shapes_of (facts_of c.args.self.now)) c.args.class =
    sym (ap option_copied c.in-Some.is)
    ∙ copied_get c.deref.result.now c.args.class c.get.result c.get.ensures.lookup.0 c.get.ensures.lookup.1
    ∙ ap (λ ss. slice_get ss c.args.class) c.deref.ensures.value
    ∙ ap (λ ss. slice_get ss c.args.class) c.self.invariant.1.shapes_listed
    ∙ ap (λ (s : Linked). slice_get (shapes_of (facts_of s)) c.args.class) c.self.view_is in
    let count : c.len.result ≡ length (class_at (facts_of c.args.self.now) c.args.class).shape.fields =
    c.len.ensures ∙ ap (λ (s : Shape). length s.fields) (shape_got (classes_of (facts_of c.args.self.now)) c.args.class shape (sym found)) in
    count

pub returns-in-Some-clause-few : goal.returns-in-Some-clause-few
returns-in-Some-clause-few c =
    let files = c.self.inside.files.items in
    let set = linked_of files c.self.inside.names in
    let shape = c.in-Some.shape.now in
    let found : Some shape ≡ slice_get (shapes_of (facts_of c.args.self.now)) c.args.class =
    sym (ap option_copied c.in-Some.is)
    ∙ copied_get c.deref.result.now c.args.class c.get.result c.get.ensures.lookup.0 c.get.ensures.lookup.1
    ∙ ap (λ ss. slice_get ss c.args.class) c.deref.ensures.value
    ∙ ap (λ ss. slice_get ss c.args.class) c.self.invariant.1.shapes_listed
    ∙ ap (λ (s : Linked). slice_get (shapes_of (facts_of s)) c.args.class) c.self.view_is in
    let count : c.len.result ≡ length (class_at (facts_of c.args.self.now) c.args.class).shape.fields =
    c.len.ensures ∙ ap (λ (s : Shape). length s.fields) (shape_got (classes_of (facts_of c.args.self.now)) c.args.class shape (sym found)) in
    let few : length (class_at (facts_of c.args.self.now) c.args.class).shape.fields < 2 ^ 31 =
    subst (λ (s : Linked). length (class_at (facts_of s) c.args.class).shape.fields < 2 ^ 31) c.self.view_is
    (few_fields set c.args.class c.self.invariant.0.small c.self.invariant.0.few) in
    omega (arith, count, few)
