-- How static fields begin.
use Rattle.std.proofs.Common.{◌≡◌, inl, inr, ℕ, suc, ◌+◌, ◌<◌, List, [], ◌∷◌, ◌++◌, take, length, slice_index_or, refl, ap, ◌∙◌}
use Rattle.std.proofs.Common.{sym, subst, arith, length-append}
use Rattle.std.proofs.lemmas.Bool.{cases_lt}
use Rattle.std.proofs.lemmas.List.{get_or-take, length-take-le}
use Rattle.std.proofs.Math.ListN.{get_or-append}
use Rattle.std.proofs.Math.Seq.{get_or-append_seam}
use Rattle.ap_base.specs.declared.reference.Ref.{Ref}
use Rattle.ap_base.specs.declared.reference.Item.TheVariants.{Ref as RefItem}
use Rattle.two_spaces.specs.declared.spaces.Static.{Static}
use Rattle.two_spaces.specs.declared.spaces.Static.TheVariants as static
use Rattle.two_spaces.specs.Whole.{no_static}
use Rattle.first_spaces.specs.declared.parts.FirstField.{FirstField}
use Rattle.first_spaces.specs.Items.{BeginAll, BeginsWith, no_field}

pub begin_none : (stream : Ref) (literals : List Ref) (fields : List FirstField) (statics : List Static)
    → statics ≡ static.Beside (RefItem stream) ∷ [] → BeginAll stream literals (take 0 fields) statics
begin_none stream literals fields statics is = subst (BeginAll stream literals (take 0 fields)) (sym is)
    (record {
      long = refl;
      stream_is = refl;
      each = λ k lt. absurd (omega (arith, lt));
    })

pub begin_more : (stream : Ref) (literals : List Ref) (fields : List FirstField) (i : ℕ) (statics now : List
    Static)
    (s : Static) → i < length fields → BeginAll stream literals (take i fields) statics
    → BeginsWith literals (slice_index_or fields i no_field) s → now ≡ statics ++ s ∷ []
    → BeginAll stream literals (take (i + 1) fields) now
begin_more stream literals fields i statics now s below begun one is =
    let taken : length (take i fields) ≡ i = length-take-le i fields (omega (arith, below)) in
    let more : length (take (i + 1) fields) ≡ i + 1 = length-take-le (i + 1) fields (omega (arith, below)) in
    let before = begun.long in
    let all = length-append statics (s ∷ []) in
    let many : length statics ≡ suc i = omega (arith, before, taken) in
    subst (BeginAll stream literals (take (i + 1) fields)) (sym is) (record {
      long = omega (arith, all, many, more);
      stream_is = get_or-append statics (s ∷ []) no_static 0 (omega (arith, many)) ∙ begun.stream_is;
      each = λ k lt.
          let few : k < i + 1 = omega (arith, lt, more) in
          let field : slice_index_or (take (i + 1) fields) k no_field ≡ slice_index_or fields k no_field =
          get_or-take (i + 1) fields k no_field few in
          elim (cases_lt k i) [
            | inl less ↦
                (let old : slice_index_or (take i fields) k no_field ≡ slice_index_or fields k no_field =
                get_or-take i fields k no_field less in
                subst (λ f. BeginsWith literals f (slice_index_or (statics ++ s ∷ []) (suc k) no_static)) (old
                ∙ sym field)
                (subst (BeginsWith literals (slice_index_or (take i fields) k no_field))
                (sym (get_or-append statics (s ∷ []) no_static (suc k) (omega (arith, less, many))))
                (begun.each k (omega (arith, less, taken)))))
            | inr past ↦
                (let same : i ≡ k = omega (arith, past, few) in
                let at : slice_index_or (statics ++ s ∷ []) (suc k) no_static ≡ s =
                ap (λ n. slice_index_or (statics ++ s ∷ []) n no_static) (let e : suc k ≡ length statics =
                omega (arith, same, many) in e)
                ∙ get_or-append_seam statics s [] no_static in
                subst (λ f. BeginsWith literals f (slice_index_or (statics ++ s ∷ []) (suc k) no_static))
                (ap (λ n. slice_index_or fields n no_field) same ∙ sym field)
                (subst (BeginsWith literals (slice_index_or fields i no_field)) (sym at) one))
          ];
    })
