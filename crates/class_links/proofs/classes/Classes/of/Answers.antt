use Rattle.std.proofs.Common.{◌≡◌, ◌<◌, ◌+◌, [], ◌∷◌, ◌++◌, true, false, Some, map, take, length, arith, ap, sym, ◌∙◌}
use Rattle.std.specs.Prelude.{is_some}
use Rattle.std.specs.Option.{option_to_list}
use Rattle.std.proofs.lemmas.List.{take_more, length-take}
use Rattle.class_links.specs.Names.{NamedClass, built_in, name_of, has_name, file_from}
use Rattle.class_links.proofs.Known.{AreNumbers-push}
use Rattle.class_links.proofs.Doubled.{names_after, has_name-kept, has_name-flags, has_name-none, has_name-numbered}
use Rattle.class_links.proofs.Doubled.{numbered-none, doubled_after-here, doubled_after-next}
use Rattle.class_links.proofs.classes.Classes.of.Goals as goal
use Rattle.class_links.proofs.classes.Classes.of.Goals.{then-is_some-via-then-is_some}
use Rattle.class_links.proofs.classes.Classes.of.Goals.{then-is_some-via-else-is_some+in_ok-insert+then-is_some-2}

pub returns-then-is_some-clause-broken : goal.returns-then-is_some-clause-broken
returns-then-is_some-clause-broken c =
    let files = c.args.files.now in
    let i = c.loop-number.number in
    let file = c.index-files-number.result in
    let there : i < length files = omega arith in
    let name : c.name_of-name.result.now ≡ name_of file = c.name_of-name.ensures in
    let before = map (λ (k : NamedClass). k.name) built_in in
    let names = names_after before (take i files) in
    let built_in_too : has_name before (name_of file) ≡ is_some c.built_in.result =
    has_name-flags built_in (name_of file) c.built_in.result (rw name at c.built_in.ensures) in
    let here : has_name names (name_of file) ≡ true = elim c.then-is_some.branch [
      | then-is_some-via-then-is_some w ↦
          has_name-kept before (take i files) (name_of file) (built_in_too ∙ sym c.is_some.ensures ∙ w.if-is_some.true)
      | then-is_some-via-else-is_some+in_ok-insert+then-is_some-2 w ↦
          has_name-numbered before (take i files) (name_of file) w.in_ok-insert.field-0
          (sym w.is_some-else-is_some.ensures ∙ w.if-is_some-2.true)
          (ap option_to_list w.in_ok-insert.ensures.old ∙ c.loop-number.invariant.numbers c.name_of-name.result.now ∙ ap (file_from 0 (take i files)) name)
    ] in
    c.loop-number.invariant.single ∙ doubled_after-here names files i file there c.index-files-number.is here
    ∙ ap (λ n. Some n) (sym name ∙ sym c.in_ok-copy.ensures.same)

pub loop-number-preserved : goal.loop-number-preserved
loop-number-preserved c =
    let files = c.args.files.now in
    let i = c.loop-number.number in
    let file = c.index-files-number.result in
    let there : i < length files = omega arith in
    let name : c.name_of-name.result.now ≡ name_of file = c.name_of-name.ensures in
    let before = map (λ (k : NamedClass). k.name) built_in in
    let built_in_too : has_name before (name_of file) ≡ is_some c.built_in.result =
    has_name-flags built_in (name_of file) c.built_in.result (rw name at c.built_in.ensures) in
    let new : has_name before (name_of file) ≡ false = built_in_too ∙ sym c.is_some.ensures ∙ c.if-is_some.false in
    let first : [] ≡ file_from 0 (take i files) (name_of file) =
    numbered-none (take i files) (name_of file) c.in_ok-insert.field-0 (sym c.is_some-else-is_some.ensures ∙ c.if-is_some-2.false)
    (ap option_to_list c.in_ok-insert.ensures.old ∙ c.loop-number.invariant.numbers c.name_of-name.result.now ∙ ap (file_from 0 (take i files)) name) in
    let more : take (i + 1) files ≡ take i files ++ file ∷ [] = take_more files i file there ∙ ap (λ f. take i files ++ f ∷ []) (sym c.index-files-number.is) in
    record {
      numbers = rw more (AreNumbers-push (take i files) file c.name_of-name.result i c.loop-number.numbers c.insert.new.self
          c.loop-number.invariant.numbers name (omega (arith, length-take i files)) (sym first) c.in_ok-insert.ensures.updates);
      single = c.loop-number.invariant.single
          ∙ doubled_after-next before files i file there c.index-files-number.is (has_name-none before (take i files) (name_of file) 0 new first);
    }
