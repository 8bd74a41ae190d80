use Rattle.std.proofs.Common.{◌≡◌, ◌<◌, ◌-◌, Some, filter, length, slice_index_or, refl, ap, sym, ◌∙◌, arith}
use Rattle.std.specs.Prelude.{slice_get}
use Rattle.std.proofs.lemmas.Option.{slice_get_read}
use Rattle.graph_model.specs.declared.types.Shape.{Shape}
use Rattle.class_file.specs.declared.field.Field.{Field as FileField}
use Rattle.class_set.specs.Linked.{Linked}
use Rattle.class_set.specs.Members.{is_static_member, layout_of_file}
use Rattle.class_set.specs.Facts.{class_facts}
use Rattle.class_set.specs.Lookups.{first_own_slot}
use Rattle.class_set.specs.Tables.{linked_of}
use Rattle.class_set.proofs.FieldPlaces.{first_is, first_short}
use Rattle.class_set.proofs.Shaped.{shape_of_file}
use Rattle.class_set.proofs.set.ClassSet.first_slot.Goals as goal

pub overflow_sub-result : goal.overflow_sub-result
overflow_sub-result c =
    let files = c.self.inside.files.items in
    let set = linked_of files c.self.inside.names in
    let same = ap (λ (s : Linked). s.files) c.self.view_is in
    let file = c.index.result.now in
    let l : c.args.class < length files = omega (arith, c.requires, ap length same) in
    let get : slice_get files c.args.class ≡ Some file = slice_get_read files (length files) c.args.class file refl l c.index.ensures in
    let shape : c.index-2.result.now ≡ (class_facts files file).shape =
    c.index-2.ensures
    ∙ ap (λ ss. slice_index_or ss c.args.class c.index-2.result.now) c.self.invariant.1.shapes_listed
    ∙ shape_of_file set c.args.class c.index-2.result.now file l
    ∙ ap (λ f. (class_facts files f).shape) (sym c.index.ensures) in
    let size : c.len.result ≡ length (layout_of_file files file) = c.len.ensures ∙ ap (λ (s : Shape). length s.fields) shape in
    let fields : length c.as_slice-fields.result.now ≡ length file.fields = ap length c.as_slice-fields.ensures in
    let statics : c.count_statics.result ≡ length (filter (λ (f : FileField). is_static_member f.access) file.fields) =
    c.count_statics.ensures.count ∙ ap (λ fs. length (filter (λ (f : FileField). is_static_member f.access) fs)) c.as_slice-fields.ensures in
    let is = first_is files c.args.class c.len.result c.count_statics.result file get size statics in
    let small = first_short files c.args.class c.self.invariant.0.small c.self.invariant.0.few in
    omega (arith, is, fields)

pub overflow_cast-result : goal.overflow_cast-result
overflow_cast-result c =
    let files = c.self.inside.files.items in
    let set = linked_of files c.self.inside.names in
    let same = ap (λ (s : Linked). s.files) c.self.view_is in
    let file = c.index.result.now in
    let l : c.args.class < length files = omega (arith, c.requires, ap length same) in
    let get : slice_get files c.args.class ≡ Some file = slice_get_read files (length files) c.args.class file refl l c.index.ensures in
    let shape : c.index-2.result.now ≡ (class_facts files file).shape =
    c.index-2.ensures
    ∙ ap (λ ss. slice_index_or ss c.args.class c.index-2.result.now) c.self.invariant.1.shapes_listed
    ∙ shape_of_file set c.args.class c.index-2.result.now file l
    ∙ ap (λ f. (class_facts files f).shape) (sym c.index.ensures) in
    let size : c.len.result ≡ length (layout_of_file files file) = c.len.ensures ∙ ap (λ (s : Shape). length s.fields) shape in
    let fields : length c.as_slice-fields.result.now ≡ length file.fields = ap length c.as_slice-fields.ensures in
    let statics : c.count_statics.result ≡ length (filter (λ (f : FileField). is_static_member f.access) file.fields) =
    c.count_statics.ensures.count ∙ ap (λ fs. length (filter (λ (f : FileField). is_static_member f.access) fs)) c.as_slice-fields.ensures in
    let is = first_is files c.args.class c.len.result c.count_statics.result file get size statics in
    let small = first_short files c.args.class c.self.invariant.0.small c.self.invariant.0.few in
    omega (arith, is, fields, small)

pub returns-clause-slot : goal.returns-clause-slot
returns-clause-slot c =
    let files = c.self.inside.files.items in
    let set = linked_of files c.self.inside.names in
    let same = ap (λ (s : Linked). s.files) c.self.view_is in
    let file = c.index.result.now in
    let l : c.args.class < length files = omega (arith, c.requires, ap length same) in
    let get : slice_get files c.args.class ≡ Some file = slice_get_read files (length files) c.args.class file refl l c.index.ensures in
    let shape : c.index-2.result.now ≡ (class_facts files file).shape =
    c.index-2.ensures
    ∙ ap (λ ss. slice_index_or ss c.args.class c.index-2.result.now) c.self.invariant.1.shapes_listed
    ∙ shape_of_file set c.args.class c.index-2.result.now file l
    ∙ ap (λ f. (class_facts files f).shape) (sym c.index.ensures) in
    let size : c.len.result ≡ length (layout_of_file files file) = c.len.ensures ∙ ap (λ (s : Shape). length s.fields) shape in
    let fields : length c.as_slice-fields.result.now ≡ length file.fields = ap length c.as_slice-fields.ensures in
    let statics : c.count_statics.result ≡ length (filter (λ (f : FileField). is_static_member f.access) file.fields) =
    c.count_statics.ensures.count ∙ ap (λ fs. length (filter (λ (f : FileField). is_static_member f.access) fs)) c.as_slice-fields.ensures in
    let is = first_is files c.args.class c.len.result c.count_statics.result file get size statics in
    let small = first_short files c.args.class c.self.invariant.0.small c.self.invariant.0.few in
    let here : c.len.result - (length c.as_slice-fields.result.now - c.count_statics.result) ≡ first_own_slot files c.args.class = omega (arith, is, fields) in
    here ∙ ap (λ fs. first_own_slot fs c.args.class) same

pub returns-clause-small : goal.returns-clause-small
returns-clause-small c =
    let files = c.self.inside.files.items in
    let set = linked_of files c.self.inside.names in
    let same = ap (λ (s : Linked). s.files) c.self.view_is in
    let file = c.index.result.now in
    let l : c.args.class < length files = omega (arith, c.requires, ap length same) in
    let get : slice_get files c.args.class ≡ Some file = slice_get_read files (length files) c.args.class file refl l c.index.ensures in
    let shape : c.index-2.result.now ≡ (class_facts files file).shape =
    c.index-2.ensures
    ∙ ap (λ ss. slice_index_or ss c.args.class c.index-2.result.now) c.self.invariant.1.shapes_listed
    ∙ shape_of_file set c.args.class c.index-2.result.now file l
    ∙ ap (λ f. (class_facts files f).shape) (sym c.index.ensures) in
    let size : c.len.result ≡ length (layout_of_file files file) = c.len.ensures ∙ ap (λ (s : Shape). length s.fields) shape in
    let fields : length c.as_slice-fields.result.now ≡ length file.fields = ap length c.as_slice-fields.ensures in
    let statics : c.count_statics.result ≡ length (filter (λ (f : FileField). is_static_member f.access) file.fields) =
    c.count_statics.ensures.count ∙ ap (λ fs. length (filter (λ (f : FileField). is_static_member f.access) fs)) c.as_slice-fields.ensures in
    let is = first_is files c.args.class c.len.result c.count_statics.result file get size statics in
    let small = first_short files c.args.class c.self.invariant.0.small c.self.invariant.0.few in
    omega (arith, is, fields, small)
