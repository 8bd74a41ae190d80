use Rattle.std.proofs.Common.{rules, ◌≡◌, ◌<◌, ◌+◌, ◌++◌, [], ◌∷◌, Some, drop, map, length, refl, ap, sym, ◌∙◌, arith}
use Rattle.std.proofs.Common.{append_assoc}
use Rattle.std.specs.Prelude.{slice_get}
use Rattle.std.proofs.lemmas.List.{length-append, length-map}
use Rattle.std.proofs.lemmas.Option.{slice_get_read}
use Rattle.plain_model.specs.First.{numbers_to}
use Rattle.class_set.specs.Members.{first_static}
use Rattle.class_set.specs.Facts.{statics_from, statics_of_fields}
use Rattle.class_set.specs.Tables.{static_now}
use Rattle.class_set.proofs.StaticFields.{fields_counted, first_next, from_next}
use Rattle.class_set.proofs.Walks.{map-numbers_more}
use Rattle.class_set.proofs.statics.file_statics.Goals as goal

pub loop-class-preserved : goal.loop-class-preserved
loop-class-preserved c =
    let files = c.args.files.now in
    let n = c.loop-class.class in
    let file = c.index-files-class.result in
    let at = c.index-files-class.is in
    let l : n < length files = c.loop-class-test.true in
    let get : slice_get files n ≡ Some file = slice_get_read files (length files) n file refl l at in
    let added = c.in_ok-add_statics.ensures.added files c.requires.literals get in
    let old = map (static_now files) c.loop-class.statics.items in
    let own = statics_of_fields files n file file.fields in
    let rest = statics_from files (n + 1) (drop (n + 1) files) in
    let size : length c.add_statics.new.statics.items ≡ length c.loop-class.statics.items + length own =
    sym (length-map c.add_statics.new.statics.items (static_now files)) ∙ ap length added ∙ length-append old own
    ∙ ap (λ k. k + length own) (length-map c.loop-class.statics.items (static_now files)) in
    let first : c.len-in-loop-class.result ≡ length c.loop-class.statics.items = search rules in
    let begins : c.len-in-loop-class.result + 1 ≡ first_static files n = omega (arith, first, c.loop-class.invariant.count) in
    record {
      statics = ap (λ xs. xs ++ rest) added ∙ append_assoc old own rest
          ∙ ap (λ xs. old ++ xs) (sym (from_next files n file l at)) ∙ c.loop-class.invariant.statics;
      count = omega (arith, size, c.loop-class.invariant.count, fields_counted files n file file.fields, first_next files n file l at);
      firsts = c.in_ok-push.ensures.items
          ∙ ap (λ xs. xs ++ (c.len-in-loop-class.result + 1) ∷ []) c.loop-class.invariant.firsts
          ∙ ap (λ k. map (first_static files) (numbers_to n) ++ k ∷ []) begins
          ∙ sym (map-numbers_more (first_static files) n);
    }
