use Rattle.std.proofs.Common.{rules, ◌≡◌, ℕ, ◌<◌, ◌^◌, [], ◌∷◌, ◌++◌, List, Option, Some, None, length, refl, ap, sym, ◌∙◌}
use Rattle.std.proofs.Common.{arith, ◌+◌}
use Rattle.std.proofs.lemmas.List.{length_push}
use Rattle.std.specs.Cmp.Lexicographic.{nat_list_eq_equiv}
use Rattle.text_table.specs.Texts.{place_of}
use Rattle.text_table.proofs.Places.{ArePlaces-insert, place_from-behind}
use Rattle.text_table.proofs.texts.Texts.add.Goals as goal

none_left : (o : Option ℕ) → ((v : ℕ) → o ≡ Some v → ⊥) → o ≡ None
none_left None h = refl
none_left (Some v) h = absurd (h v refl)

at_end : (texts : List (List ℕ)) (text : List ℕ) → place_of texts text ≡ None → place_of (texts ++ text ∷ []) text ≡ Some (length texts)
at_end texts text new =
    place_from-behind 0 texts text text new ∙ rw (nat_list_eq_equiv.refl text) (ap (λ n. Some n) (omega arith))

ap_room : {xs ys : List (List ℕ)} → xs ≡ ys → length ys + 1 < 2 ^ 32 → length xs + 1 < 2 ^ 32
ap_room e h = rw e h

pub invariant_of-self-2 : goal.invariant_of-self-2
invariant_of-self-2 c =
    let texts = c.self.inside.items.items in
    let text = c.args.text.now in
    let new : place_of texts text ≡ None = ap (λ ts. place_of ts text) c.self.view_is ∙ sym c.place.ensures ∙ none_left c.place.result c.in_default.not-Some in
    let items : c.push.new.self.items ≡ texts ++ text ∷ [] =
    c.in_ok-push.ensures.items ∙ ap (λ xs. xs ++ c.in_ok-copy.copy ∷ []) c.reserve.ensures.items ∙ ap (λ t. texts ++ t ∷ []) c.in_ok-copy.ensures.same in
    let room : length texts + 1 < 2 ^ 32 = ap_room c.self.view_is c.requires.room in
    rw items (record {
      few = omega (arith, length_push texts text, room);
      at = ArePlaces-insert texts text c.len-place.result c.in_ok-key.key c.self.inside.places c.insert.new.self c.self.invariant.at
          (search rules) (search rules) new c.in_ok-insert.ensures.updates;
    })

pub returns-clause-place : goal.returns-clause-place
returns-clause-place c =
    let texts = c.self.inside.items.items in
    let text = c.args.text.now in
    let new : place_of texts text ≡ None = ap (λ ts. place_of ts text) c.self.view_is ∙ sym c.place.ensures ∙ none_left c.place.result c.in_default.not-Some in
    let items : c.push.new.self.items ≡ texts ++ text ∷ [] =
    c.in_ok-push.ensures.items ∙ ap (λ xs. xs ++ c.in_ok-copy.copy ∷ []) c.reserve.ensures.items ∙ ap (λ t. texts ++ t ∷ []) c.in_ok-copy.ensures.same in
    rw items (at_end texts text new ∙ ap (λ n. Some n) (search rules))
