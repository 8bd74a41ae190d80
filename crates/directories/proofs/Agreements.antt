-- Fields and array types that are compared.
use Rattle.std.proofs.Common.{◌≡◌, ◌<◌, ◌-◌, ℕ, List, [], ◌∷◌, Option, Some, None, Bor, true, false, length, map, take, drop}
use Rattle.std.proofs.Common.{get_or, slice_index_or, refl, sym, ◌∙◌, ap, arith}
use Rattle.std.proofs.lemmas.List.{get_or-map, take_all, length-drop}
use Rattle.std.specs.Option.{option_copied, is_some}
use Rattle.ap_base.specs.declared.kind.Kind.{Kind}
use Rattle.graph_model.specs.declared.types.Field.{Field}
use Rattle.graph_model.specs.declared.types.Shape.{Shape}
use Rattle.directories.specs.ClassSets.{field_of, class_between}

-- equal lists have equal fields at a place
pub same_at : (fields others : List Field) (x y : Field) (i : ℕ) → map field_of fields ≡ map field_of others → i < length fields → i < length others
    → x ≡ get_or fields i x → y ≡ get_or others i y → field_of x ≡ field_of y
same_at fields others x y i same low high is_x is_y =
    ap field_of is_x
    ∙ sym (get_or-map field_of fields i x (field_of x) low)
    ∙ ap (λ (fs : List (List ℕ × Kind)). get_or fs i (field_of x)) same
    ∙ get_or-map field_of others i y (field_of x) high
    ∙ ap field_of (sym is_y)

pub between : (rest : List ℕ) → 0 < length rest → slice_index_or rest 0 0 ≡ 76
    → class_between rest ≡ Some (take (length (drop 1 rest) - 1) (drop 1 rest))
between [] some is = absurd (omega (arith, some))
between (b ∷ bytes) some is = rw is refl

-- the same, where what stands behind the first is a slice
pub innermost : (rest last : List ℕ) → 0 < length rest → slice_index_or rest 0 0 ≡ 76
    → last ≡ take (length (take (length rest - 1) (drop 1 rest)) - 1) (take (length rest - 1) (drop 1 rest))
    → class_between rest ≡ Some last
innermost rest last some is cut =
    let whole : take (length rest - 1) (drop 1 rest) ≡ drop 1 rest =
    take_all (length rest - 1) (drop 1 rest) (omega (arith, length-drop 1 rest)) in
    between rest some is ∙ ap (λ (xs : List ℕ). Some (take (length xs - 1) xs)) (sym whole) ∙ ap (λ (xs : List ℕ). Some xs) (sym cut)

-- a class is there where its shape is given
pub some_class : (given : Option (Bor Shape)) (named : Option Shape) → option_copied given ≡ named
    → (is_some given ≡ true → (class : Shape) × (named ≡ Some class)) × ((class : Shape) × (named ≡ Some class) → is_some given ≡ true)
some_class None named is = (
  λ e. absurd (let f : false ≡ true = e in cc),
  λ has. absurd (let none : Option Shape = None in let e : none ≡ Some has.0 = is ∙ has.1 in cc),
)
some_class (Some x) named is = (λ e. (x.now, sym is), λ has. refl)
