use Rattle.std.proofs.Common.{rules, ◌≡◌, ◌<◌, ◌+◌, Some, true, false, filter, take, length, slice_index_or, refl, ap, sym, ◌∙◌}
use Rattle.std.proofs.Common.{arith}
use Rattle.std.specs.Prelude.{slice_get}
use Rattle.std.proofs.lemmas.List.{length-map}
use Rattle.std.proofs.lemmas.Option.{slice_get_read}
use Rattle.class_file.specs.declared.field.Field.{Field as FileField}
use Rattle.class_set.specs.Linked.{Linked}
use Rattle.class_set.specs.Members.{field_facts, first_static, is_static_member, own_fields}
use Rattle.class_set.specs.Lookups.{first_own_slot, slot_for}
use Rattle.class_set.specs.Tables.{linked_of}
use Rattle.class_set.proofs.FieldPlaces.{first_static_short, instance_slot, own_of_file, own_short, static_slot, taken_short}
use Rattle.class_set.proofs.Walks.{mapped_counted, mapped_read}
use Rattle.class_set.proofs.set.ClassSet.slot_of.Goals as goal

pub index-requires-then-found : goal.index-requires-then-found
index-requires-then-found c =
    let files = c.self.inside.files.items in
    let set = linked_of files c.self.inside.names in
    let same = ap (λ (s : Linked). s.files) c.self.view_is in
    let file = c.index.result.now in
    let l : c.args.class < length files = omega (arith, c.requires.there, ap length same) in
    let get : slice_get files c.args.class ≡ Some file = slice_get_read files (length files) c.args.class file refl l c.index.ensures in
    let fields : length c.as_slice-fields.result.now ≡ length file.fields = ap length c.as_slice-fields.ensures in
    let statics : c.count_statics-statics.result ≡ length (filter (λ (f : FileField). is_static_member f.access) (take c.args.found.place file.fields)) =
    c.count_statics-statics.ensures.count ∙ ap (λ fs. length (filter (λ (f : FileField). is_static_member f.access) (take c.args.found.place fs))) c.as_slice-fields.ensures in
    let own : length (own_fields files c.args.class) ≡ length file.fields =
    ap length (own_of_file files c.args.class file get) ∙ length-map file.fields (field_facts file.pool) in
    let within : c.args.found.place < length file.fields = omega (arith, c.requires.within, own, ap (λ fs. length (own_fields fs c.args.class)) same) in
    let short = own_short files c.args.class c.self.invariant.0.small in
    let size : length c.self.inside.firsts.items ≡ length files =
    ap length c.self.invariant.2.firsts_listed ∙ mapped_counted (first_static files) (length files) in
    omega (arith, size, l, c.self.inside.firsts.ok.0)

pub overflow_add-result : goal.overflow_add-result
overflow_add-result c =
    let files = c.self.inside.files.items in
    let set = linked_of files c.self.inside.names in
    let same = ap (λ (s : Linked). s.files) c.self.view_is in
    let file = c.index.result.now in
    let l : c.args.class < length files = omega (arith, c.requires.there, ap length same) in
    let get : slice_get files c.args.class ≡ Some file = slice_get_read files (length files) c.args.class file refl l c.index.ensures in
    let fields : length c.as_slice-fields.result.now ≡ length file.fields = ap length c.as_slice-fields.ensures in
    let statics : c.count_statics-statics.result ≡ length (filter (λ (f : FileField). is_static_member f.access) (take c.args.found.place file.fields)) =
    c.count_statics-statics.ensures.count ∙ ap (λ fs. length (filter (λ (f : FileField). is_static_member f.access) (take c.args.found.place fs))) c.as_slice-fields.ensures in
    let own : length (own_fields files c.args.class) ≡ length file.fields =
    ap length (own_of_file files c.args.class file get) ∙ length-map file.fields (field_facts file.pool) in
    let within : c.args.found.place < length file.fields = omega (arith, c.requires.within, own, ap (λ fs. length (own_fields fs c.args.class)) same) in
    let short = own_short files c.args.class c.self.invariant.0.small in
    let read : c.index-then-found.result.now ≡ first_static files c.args.class =
    c.index-then-found.ensures
    ∙ ap (λ ns. slice_index_or ns c.args.class c.index-then-found.result.now) c.self.invariant.2.firsts_listed
    ∙ mapped_read (first_static files) (length files) c.args.class c.index-then-found.result.now l in
    omega (
      arith,
      read,
      l,
      within,
      short,
      own,
      c.self.invariant.0.few,
      first_static_short files c.args.class
          c.self.invariant.0.small,
      c.count_statics-statics.ensures.bound,
      taken_short c.as_slice-fields.result.now
          c.args.found.place,
    )

pub returns-then-found : goal.returns-then-found
returns-then-found c =
    let files = c.self.inside.files.items in
    let set = linked_of files c.self.inside.names in
    let same = ap (λ (s : Linked). s.files) c.self.view_is in
    let file = c.index.result.now in
    let l : c.args.class < length files = omega (arith, c.requires.there, ap length same) in
    let get : slice_get files c.args.class ≡ Some file = slice_get_read files (length files) c.args.class file refl l c.index.ensures in
    let fields : length c.as_slice-fields.result.now ≡ length file.fields = ap length c.as_slice-fields.ensures in
    let statics : c.count_statics-statics.result ≡ length (filter (λ (f : FileField). is_static_member f.access) (take c.args.found.place file.fields)) =
    c.count_statics-statics.ensures.count ∙ ap (λ fs. length (filter (λ (f : FileField). is_static_member f.access) (take c.args.found.place fs))) c.as_slice-fields.ensures in
    let own : length (own_fields files c.args.class) ≡ length file.fields =
    ap length (own_of_file files c.args.class file get) ∙ length-map file.fields (field_facts file.pool) in
    let within : c.args.found.place < length file.fields = omega (arith, c.requires.within, own, ap (λ fs. length (own_fields fs c.args.class)) same) in
    let short = own_short files c.args.class c.self.invariant.0.small in
    let read : c.index-then-found.result.now ≡ first_static files c.args.class =
    c.index-then-found.ensures
    ∙ ap (λ ns. slice_index_or ns c.args.class c.index-then-found.result.now) c.self.invariant.2.firsts_listed
    ∙ mapped_read (first_static files) (length files) c.args.class c.index-then-found.result.now l in
    let yes : c.args.found.is_static ≡ true = search rules in
    ap (λ n. n + c.count_statics-statics.result) read
    ∙ ap (λ n. first_static files c.args.class + n) statics
    ∙ static_slot files c.args.class c.args.found.place file get
    ∙ ap (slot_for files c.args.class c.args.found.place) (sym yes)
    ∙ ap (λ fs. slot_for fs c.args.class c.args.found.place c.args.found.is_static) same

pub overflow_cast-result-2 : goal.overflow_cast-result-2
overflow_cast-result-2 c =
    let files = c.self.inside.files.items in
    let set = linked_of files c.self.inside.names in
    let same = ap (λ (s : Linked). s.files) c.self.view_is in
    let file = c.index.result.now in
    let l : c.args.class < length files = omega (arith, c.requires.there, ap length same) in
    let get : slice_get files c.args.class ≡ Some file = slice_get_read files (length files) c.args.class file refl l c.index.ensures in
    let fields : length c.as_slice-fields.result.now ≡ length file.fields = ap length c.as_slice-fields.ensures in
    let statics : c.count_statics-statics.result ≡ length (filter (λ (f : FileField). is_static_member f.access) (take c.args.found.place file.fields)) =
    c.count_statics-statics.ensures.count ∙ ap (λ fs. length (filter (λ (f : FileField). is_static_member f.access) (take c.args.found.place fs))) c.as_slice-fields.ensures in
    let own : length (own_fields files c.args.class) ≡ length file.fields =
    ap length (own_of_file files c.args.class file get) ∙ length-map file.fields (field_facts file.pool) in
    let within : c.args.found.place < length file.fields = omega (arith, c.requires.within, own, ap (λ fs. length (own_fields fs c.args.class)) same) in
    let short = own_short files c.args.class c.self.invariant.0.small in
    omega (arith, within, short, own)

pub overflow_add-result-2 : goal.overflow_add-result-2
overflow_add-result-2 c =
    let files = c.self.inside.files.items in
    let set = linked_of files c.self.inside.names in
    let same = ap (λ (s : Linked). s.files) c.self.view_is in
    let file = c.index.result.now in
    let l : c.args.class < length files = omega (arith, c.requires.there, ap length same) in
    let get : slice_get files c.args.class ≡ Some file = slice_get_read files (length files) c.args.class file refl l c.index.ensures in
    let fields : length c.as_slice-fields.result.now ≡ length file.fields = ap length c.as_slice-fields.ensures in
    let statics : c.count_statics-statics.result ≡ length (filter (λ (f : FileField). is_static_member f.access) (take c.args.found.place file.fields)) =
    c.count_statics-statics.ensures.count ∙ ap (λ fs. length (filter (λ (f : FileField). is_static_member f.access) (take c.args.found.place fs))) c.as_slice-fields.ensures in
    let own : length (own_fields files c.args.class) ≡ length file.fields =
    ap length (own_of_file files c.args.class file get) ∙ length-map file.fields (field_facts file.pool) in
    let within : c.args.found.place < length file.fields = omega (arith, c.requires.within, own, ap (λ fs. length (own_fields fs c.args.class)) same) in
    let short = own_short files c.args.class c.self.invariant.0.small in
    omega (arith, within, short, own, c.first_slot.ensures.small)

pub returns : goal.returns
returns c =
    let files = c.self.inside.files.items in
    let set = linked_of files c.self.inside.names in
    let same = ap (λ (s : Linked). s.files) c.self.view_is in
    let file = c.index.result.now in
    let l : c.args.class < length files = omega (arith, c.requires.there, ap length same) in
    let get : slice_get files c.args.class ≡ Some file = slice_get_read files (length files) c.args.class file refl l c.index.ensures in
    let fields : length c.as_slice-fields.result.now ≡ length file.fields = ap length c.as_slice-fields.ensures in
    let statics : c.count_statics-statics.result ≡ length (filter (λ (f : FileField). is_static_member f.access) (take c.args.found.place file.fields)) =
    c.count_statics-statics.ensures.count ∙ ap (λ fs. length (filter (λ (f : FileField). is_static_member f.access) (take c.args.found.place fs))) c.as_slice-fields.ensures in
    let own : length (own_fields files c.args.class) ≡ length file.fields =
    ap length (own_of_file files c.args.class file get) ∙ length-map file.fields (field_facts file.pool) in
    let within : c.args.found.place < length file.fields = omega (arith, c.requires.within, own, ap (λ fs. length (own_fields fs c.args.class)) same) in
    let short = own_short files c.args.class c.self.invariant.0.small in
    let no : c.args.found.is_static ≡ false = search rules in
    instance_slot files c.args.class c.args.found.place c.first_slot.result c.count_statics-statics.result file get (omega (arith, within))
    (c.first_slot.ensures.slot ∙ ap (λ fs. first_own_slot fs c.args.class) (sym same)) statics
    ∙ ap (slot_for files c.args.class c.args.found.place) (sym no)
    ∙ ap (λ fs. slot_for fs c.args.class c.args.found.place c.args.found.is_static) same
