use Rattle.std.proofs.Common.{rules, ◌≡◌, ◌<◌, ◌≤◌, ◌+◌, Some, None, length, slice_index_or, ap, sym, ◌∙◌, arith}
use Rattle.std.proofs.lemmas.List.{get_or_default}
use Rattle.plain_model.specs.Facts.{class_at}
use Rattle.class_set.specs.Linked.{Linked}
use Rattle.class_set.specs.Facts.{facts_of}
use Rattle.class_set.specs.Members.{supers_of}
use Rattle.class_set.specs.Tables.{linked_of}
use Rattle.class_set.proofs.Above.{super_below, super_of_array, super_past, supers_counted, names_counted}
use Rattle.class_set.proofs.set.ClassSet.superclass.Goals as goal

pub returns-then-class-len : goal.returns-then-class-len
returns-then-class-len c =
    let files = c.self.inside.files.items in
    let set = linked_of files c.self.inside.names in
    let size : c.len.result ≡ length c.self.inside.supers.items = search rules in
    let same = c.self.invariant.0.above in
    let l : c.args.class < length c.self.inside.supers.items = omega (arith, size, c.if-class-len.true) in
    let m : c.args.class < length (supers_of files) = omega (arith, l, ap length same) in
    c.index.ensures
    ∙ get_or_default c.self.inside.supers.items c.args.class c.index.result.now None l
    ∙ ap (λ ns. slice_index_or ns c.args.class None) same
    ∙ sym (super_below set c.args.class m)
    ∙ ap (λ (s : Linked). (class_at (facts_of s) c.args.class).superclass) c.self.view_is

pub returns-then-class-len-2 : goal.returns-then-class-len-2
returns-then-class-len-2 c =
    let files = c.self.inside.files.items in
    let set = linked_of files c.self.inside.names in
    let size : c.len.result ≡ length c.self.inside.supers.items = search rules in
    let counted : c.len-2.result ≡ length c.self.inside.names = c.len-2.ensures in
    let few : c.len-then-class-len-2.result ≡ length files = search rules in
    let all = names_counted files c.self.inside.names c.self.invariant.0.named in
    let past : length files + 28 ≤ c.args.class = omega (arith, size, c.if-class-len.false, ap length c.self.invariant.0.above, supers_counted files) in
    let below : c.args.class < length files + 28 + length set.arrays = omega (arith, counted, all, c.if-class-len-2.true) in
    ap (λ n. Some (n + 18)) few
    ∙ sym (super_of_array set c.args.class past below)
    ∙ ap (λ (s : Linked). (class_at (facts_of s) c.args.class).superclass) c.self.view_is

pub returns : goal.returns
returns c =
    let files = c.self.inside.files.items in
    let set = linked_of files c.self.inside.names in
    let counted : c.len-2.result ≡ length c.self.inside.names = c.len-2.ensures in
    let all = names_counted files c.self.inside.names c.self.invariant.0.named in
    sym (super_past set c.args.class (omega (arith, counted, all, c.if-class-len-2.false)))
    ∙ ap (λ (s : Linked). (class_at (facts_of s) c.args.class).superclass) c.self.view_is
