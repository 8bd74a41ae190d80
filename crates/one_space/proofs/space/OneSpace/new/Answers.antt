use Rattle.std.proofs.Common.{◌≡◌, ◌-◌, ◌++◌, ◌∷◌, [], ℕ, List, map, length, ap, ◌∙◌, sym, subst, arith}
use Rattle.std.specs.Prelude.{All}
use Rattle.std.proofs.lemmas.Result.{err_from_is_err_and}
use Rattle.graph_model.specs.declared.types.Obj.{Obj}
use Rattle.one_space.specs.declared.parts.FirstStatic.{FirstStatic}
use Rattle.one_space.specs.First.{LacksWords, IsPartBelow, part_value, objects_of, text_object}
use Rattle.one_space.specs.Making.{HasMade}
use Rattle.one_space.proofs.Making.{lacks, made_more}
use Rattle.graph_model.specs.declared.types.Value.TheVariants.{Obj as Object}
use Rattle.one_space.proofs.Begun.{first_counted, objects_in}
use Rattle.one_space.proofs.Showing.{shows_first}
use Rattle.one_space.proofs.space.OneSpace.new.Goals as goal

pub returns-in_err-add_empty-2-clause-full : goal.returns-in_err-add_empty-2-clause-full
returns-in_err-add_empty-2-clause-full c =
    let p = err_from_is_err_and c.from_residual-in_err-add_empty-2.result
    c.from_residual-in_err-add_empty-2.ensures.1 in
    let s : Obj = record { shape = c.args.parts.stream; values = [] } in
    let a : Obj = record { shape = c.args.parts.arguments; values = [] } in
    rw (p.1, p.2) (lacks c.args.words c.args.parts.shapes (s ∷ [])
    (map (text_object c.args.parts.string) c.args.parts.literals) a c.add_empty.new.self
    c.in_err-add_empty-2.field-0.0
    (made_more c.args.words c.args.parts.shapes [] s c.in_ok-heap.heap c.add_empty.new.self
    c.in_ok-heap.ensures c.in_ok-add_empty.ensures.added)
    c.in_err-add_empty-2.ensures.full)

pub returns-in_err-add_texts-clause-full : goal.returns-in_err-add_texts-clause-full
returns-in_err-add_texts-clause-full c =
    let p = err_from_is_err_and c.from_residual-in_err-add_texts.result
    c.from_residual-in_err-add_texts.ensures.1 in
    let s : Obj = record { shape = c.args.parts.stream; values = [] } in
    let a : Obj = record { shape = c.args.parts.arguments; values = [] } in
    let two = made_more c.args.words c.args.parts.shapes (s ∷ []) a c.add_empty.new.self
    c.add_empty-2.new.self
    (made_more c.args.words c.args.parts.shapes [] s c.in_ok-heap.heap c.add_empty.new.self
    c.in_ok-heap.ensures c.in_ok-add_empty.ensures.added)
    c.in_ok-add_empty-2.ensures.added in
    rw (p.1, p.2) (subst (λ (texts : List (List ℕ)). LacksWords c.args.words
    ((s ∷ a ∷ []) ++ map (text_object c.args.parts.string) texts) c.in_err-add_texts.field-0.0)
    c.as_slice-texts.ensures
    (c.in_err-add_texts.ensures.full c.args.words c.args.parts.shapes (s ∷ a ∷ []) two))

pub first_items-requires-clause-out : goal.first_items-requires-clause-out
first_items-requires-clause-out c =
    let s : Obj = record { shape = c.args.parts.stream; values = [] } in
    let a : Obj = record { shape = c.args.parts.arguments; values = [] } in
    let two = made_more c.args.words c.args.parts.shapes (s ∷ []) a c.add_empty.new.self
    c.add_empty-2.new.self
    (made_more c.args.words c.args.parts.shapes [] s c.in_ok-heap.heap c.add_empty.new.self
    c.in_ok-heap.ensures c.in_ok-add_empty.ensures.added)
    c.in_ok-add_empty-2.ensures.added in
    let all = c.in_ok-add_texts.ensures.made c.args.words c.args.parts.shapes (s ∷ a ∷ []) two in
    let count = first_counted (s ∷ a ∷ []) (text_object c.args.parts.string) c.as_slice-texts.result.now
    c.add_texts.new.self c.args.words c.args.parts.shapes all in
    omega (arith, count)

pub first_items-requires-clause-below : goal.first_items-requires-clause-below
first_items-requires-clause-below c =
    let s : Obj = record { shape = c.args.parts.stream; values = [] } in
    let a : Obj = record { shape = c.args.parts.arguments; values = [] } in
    let two = made_more c.args.words c.args.parts.shapes (s ∷ []) a c.add_empty.new.self
    c.add_empty-2.new.self
    (made_more c.args.words c.args.parts.shapes [] s c.in_ok-heap.heap c.add_empty.new.self
    c.in_ok-heap.ensures c.in_ok-add_empty.ensures.added)
    c.in_ok-add_empty-2.ensures.added in
    let all = c.in_ok-add_texts.ensures.made c.args.words c.args.parts.shapes (s ∷ a ∷ []) two in
    let count = first_counted (s ∷ a ∷ []) (text_object c.args.parts.string) c.as_slice-texts.result.now
    c.add_texts.new.self c.args.words c.args.parts.shapes all in
    let texts = ap (λ (ts : List (List ℕ)). length ts) c.as_slice-texts.ensures in
    let n : length c.args.parts.literals ≡ length (objects_in c.add_texts.new.self) - 2 = omega
    (arith, count, texts) in
    subst (λ (fields : List FirstStatic). All (λ (f : FirstStatic). IsPartBelow
    (length (objects_in c.add_texts.new.self) - 2) f.constant) fields) (sym c.as_slice-fields.ensures)
    (subst (λ (m : ℕ). All (λ (f : FirstStatic). IsPartBelow m f.constant) c.args.parts.statics) n
    c.requires.constants)

pub returns-clause-first : goal.returns-clause-first
returns-clause-first c set is =
    let s : Obj = record { shape = c.args.parts.stream; values = [] } in
    let a : Obj = record { shape = c.args.parts.arguments; values = [] } in
    let two = made_more c.args.words c.args.parts.shapes (s ∷ []) a c.add_empty.new.self
    c.add_empty-2.new.self
    (made_more c.args.words c.args.parts.shapes [] s c.in_ok-heap.heap c.add_empty.new.self
    c.in_ok-heap.ensures c.in_ok-add_empty.ensures.added)
    c.in_ok-add_empty-2.ensures.added in
    let all = c.in_ok-add_texts.ensures.made c.args.words c.args.parts.shapes (s ∷ a ∷ []) two in
    let made : HasMade c.args.words c.args.parts.shapes (objects_of c.args.parts) c.add_texts.new.self =
    subst (λ (texts : List (List ℕ)). HasMade c.args.words c.args.parts.shapes
    ((s ∷ a ∷ []) ++ map (text_object c.args.parts.string) texts) c.add_texts.new.self)
    c.as_slice-texts.ensures all in
    shows_first set c.args.parts c.args.words c.add_texts.new.self c.in_ok-items.items.items is made
    (c.in_ok-items.ensures.values ∙ ap (λ (fields : List FirstStatic). Object 0 ∷ map part_value fields)
    c.as_slice-fields.ensures)
