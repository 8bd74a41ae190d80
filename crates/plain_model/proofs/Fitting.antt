-- Which fields requests of code may name.
use Rattle.std.proofs.Common.{◌≡◌, ◌⊎◌, ℕ, suc, ◌<◌, ◌≤◌, true, false, [], ◌∷◌, refl, ap, ◌∙◌, subst, inl, inr, arith, lit<}
use Rattle.std.specs.Prelude.{Option, Some, None, slice_get, codes}
use Rattle.ap_base.specs.declared.kind.Kind.TheVariants.{I, L}
use Rattle.run_types.specs.declared.resolved.FieldAt.{FieldAt}
use Rattle.graph_model.specs.declared.types.Field.{Field}
use Rattle.plain_model.specs.Facts.{StaticFacts}
use Rattle.plain_model.specs.BuiltIn.{field}
use Rattle.plain_model.specs.Duties.{IsStream, IsStaticOf}
use Rattle.plain_model.specs.StepWorld.{boxes, box_statics, static_of, static_field, main_class, early_class}
use Rattle.plain_model.specs.FitRows.{FieldsAreOfTheirKind, MadeClassesAreMade, PiecesArePrinted, TurnsBreakBy}

abbrev amount_field : Field
amount_field = field (codes "amount") I

abbrev kept_static : StaticFacts
kept_static = static_of (codes "Main.kept") main_class L true

another_kind : (f : Field) → Some amount_field ≡ Some f → f.kind ≡ L → ⊥
another_kind f at kind =
    let is : Some amount_field ≡ Some f = at in
    let same : amount_field ≡ f = cc in
    let no : I ≡ L = ap (λ (g : Field). g.kind) same ∙ kind in cc

abbrev IsStatic : FieldAt → Type 0
IsStatic f = IsStream boxes f ⊎ IsStaticOf boxes f

-- static 2 is the root
the_kept : (k : ℕ) (s : StaticFacts) → 2 ≡ suc k → slice_get box_statics k ≡ Some s → kept_static ≡ s
the_kept k s is at =
    let one : k ≡ 1 = omega (arith, is) in
    let found : Some kept_static ≡ Some s = subst (λ n. slice_get box_statics n ≡ Some s) one at in
    cc

-- of kind L
root_kind : IsStatic (static_field 0 2 I) → ⊥
root_kind (inl stream) = absurd (omega (arith, stream.0))
root_kind (inr (k, s, is, at, kind, class)) =
    let no : L ≡ I = ap (λ (x : StaticFacts). x.kind) (the_kept k s is at) ∙ kind in cc

-- and of Main
root_class : IsStatic (static_field early_class 2 L) → ⊥
root_class (inl stream) = absurd (omega (arith, stream.0))
root_class (inr (k, s, is, at, kind, class)) =
    let no : ◌≡◌ {A = ℕ} 0 4 = ap (λ (x : StaticFacts). x.class) (the_kept k s is at) ∙ class in absurd (omega arith)

no_static_5 : IsStatic (static_field 0 5 L) → ⊥
no_static_5 (inl stream) = absurd (omega (arith, stream.0))
no_static_5 (inr (k, s, is, at, kind, class)) =
    let four : k ≡ 4 = omega (arith, is) in
    let no : ◌≡◌ {A = Option StaticFacts} None (Some s) =
    subst (λ n. slice_get box_statics n ≡ Some s) four at in cc

stream_of_main : IsStatic (static_field 0 0 L) → ⊥
stream_of_main (inl stream) = let no : ◌≡◌ {A = ℕ} 0 30 = stream.2 in absurd (omega arith)
stream_of_main (inr (k, s, is, at, kind, class)) = absurd (omega (arith, is))

pub fields_are_of_their_kind : FieldsAreOfTheirKind
fields_are_of_their_kind = record {
  field = ((lit< tt, refl, refl, (amount_field, refl, refl)), tt);
  another_kind = λ fit. let (f, at, kind) = fit.0.3 in another_kind f at kind;
  of_class = ((lit< tt, refl, refl, (field (codes "mark") I, refl, refl)), tt);
  of_interface = λ fit. let no : true ≡ false = fit.0.2 in cc;
  past = λ fit. let (f, at, kind) = fit.0.3 in let no : ◌≡◌ {A = Option Field} None (Some f) = at in cc;
  static = ((lit< tt, refl, inr (1, kept_static, refl, refl, refl, refl)), lit< tt);
  static_kind = λ fit. root_kind fit.2;
  static_past = λ fit. no_static_5 fit.2;
  stream = (lit< tt, refl, inl (refl, refl, refl));
  stream_class = λ fit. stream_of_main fit.2;
  static_class = λ fit. root_class fit.2;
  value = λ fit. fit.1;
  missing = λ fit. let no : 16 < 16 = fit.1 in absurd (omega arith);
}

pub made_classes_are_made : MadeClassesAreMade
made_classes_are_made = record {
  class = (lit< tt, refl);
  interface = λ fit. let no : false ≡ true = fit.1 in cc;
  abstract = λ fit. let no : false ≡ true = fit.1 in cc;
  array = λ fit. let no : false ≡ true = fit.1 in cc;
  array_of = (lit< tt, refl, λ same. let no : ◌≡◌ {A = ℕ} 36 27 = same in absurd (omega arith));
  no_array = λ fit. let no : false ≡ true = fit.1 in cc;
  text = λ fit. fit.2 refl;
}

pub turns_break_by : TurnsBreakBy
turns_break_by = record {
  bad_code = tt;
  link = tt;
  frames = (tt, lit< tt, omega arith);
  enough_frames = λ fit. let no : 2 < 2 = fit.1 in absurd (omega (arith, no));
  first_frame = (tt, lit< tt, omega arith);
  too_many_frames = λ fit. let no : 65537 ≤ 65536 = fit.2 in absurd (omega (arith, no));
  words = λ fit. fit.0;
  race = λ fit. fit;
  sink = λ fit. fit;
}

pub pieces_are_printed : PiecesArePrinted
pieces_are_printed = record {
  some = (omega arith, omega arith);
  none = λ fit. let no : 0 < 0 = fit.0 in absurd (omega (arith, no));
  most = (omega arith, omega arith);
  too_many = λ fit. let no : 25 ≤ 24 = fit.1 in absurd (omega (arith, no));
}
