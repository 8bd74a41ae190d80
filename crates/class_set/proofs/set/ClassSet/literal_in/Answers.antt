use Rattle.std.proofs.Common.{◌≡◌, ◌<◌, ◌+◌, Some, length, ap, sym, ◌∙◌, arith}
use Rattle.std.specs.Option.{option_map}
use Rattle.ap_base.specs.declared.reference.Ref.TheVariants.{Volatile}
use Rattle.text_table.specs.Texts.{place_of}
use Rattle.class_set.specs.Linked.{Linked}
use Rattle.class_set.specs.Literals.{index_or_none, words_before, texts_of, literal_place, reference_to}
use Rattle.class_set.proofs.Indices.{index_read, indices_counted, literal_found, place_below}
use Rattle.class_set.proofs.set.ClassSet.literal_in.Goals as goal

pub index-requires : goal.index-requires
index-requires c =
    let texts = c.self.inside.literals in
    let below : c.in_ok-place.place < 0 + length texts = place_below 0 texts c.as_slice.result.now c.in_ok-place.place (sym c.in_ok-place.ensures) in
    let size : length c.self.inside.indices.items ≡ length texts = ap length c.self.invariant.0.starts ∙ indices_counted 6 texts in
    omega (arith, below, size, c.self.inside.indices.ok.0)

pub returns-in-Some : goal.returns-in-Some
returns-in-Some c =
    let files = c.self.inside.files.items in
    let texts = c.self.inside.literals in
    let place = c.in_ok-place.place in
    let below : place < 0 + length texts = place_below 0 texts c.as_slice.result.now place (sym c.in_ok-place.ensures) in
    let read : c.index.result.now ≡ index_or_none (words_before texts place) =
    index_read c.self.inside.indices.items texts place c.index.result.now c.self.invariant.0.starts (omega (arith, below)) c.index.ensures in
    let there : Some place ≡ place_of (texts_of files) c.in_ok-text.text.now =
    c.in_ok-place.ensures ∙ ap (place_of texts) c.as_slice.ensures.value ∙ ap (λ ts. place_of ts c.in_ok-text.text.now) c.self.invariant.0.texts in
    ap (option_map (λ n. Volatile n)) (sym c.in-Some.is)
    ∙ literal_found files c.args.file.now.pool c.args.index c.in_ok-text.text.now place c.index.result.now c.in_ok-text.ensures there
    (read ∙ ap (λ ts. index_or_none (words_before ts place)) c.self.invariant.0.texts)
    ∙ ap (λ (s : Linked). reference_to (texts_of s.files) (literal_place s.files c.args.file.now.pool c.args.index)) c.self.view_is

pub returns-in-None : goal.returns-in-None
returns-in-None c =
    let files = c.self.inside.files.items in
    let texts = c.self.inside.literals in
    let place = c.in_ok-place.place in
    let below : place < 0 + length texts = place_below 0 texts c.as_slice.result.now place (sym c.in_ok-place.ensures) in
    let read : c.index.result.now ≡ index_or_none (words_before texts place) =
    index_read c.self.inside.indices.items texts place c.index.result.now c.self.invariant.0.starts (omega (arith, below)) c.index.ensures in
    let there : Some place ≡ place_of (texts_of files) c.in_ok-text.text.now =
    c.in_ok-place.ensures ∙ ap (place_of texts) c.as_slice.ensures.value ∙ ap (λ ts. place_of ts c.in_ok-text.text.now) c.self.invariant.0.texts in
    ap (option_map (λ n. Volatile n)) (sym c.in-None.is)
    ∙ literal_found files c.args.file.now.pool c.args.index c.in_ok-text.text.now place c.index.result.now c.in_ok-text.ensures there
    (read ∙ ap (λ ts. index_or_none (words_before ts place)) c.self.invariant.0.texts)
    ∙ ap (λ (s : Linked). reference_to (texts_of s.files) (literal_place s.files c.args.file.now.pool c.args.index)) c.self.view_is
