-- How the forms of a thread's frames lie.
use Rattle.std.proofs.Common.{◌≡◌, ℕ, suc, ◌+◌, ◌-◌, ◌≤◌, Bool, true, false, List, [], ◌∷◌, length, take, drop, reverse, Option}
use Rattle.std.proofs.Common.{Some, IsSome, refl, ap, ◌∙◌, arith}
use Rattle.frame_cells.specs.declared.cells.Places.{Places}
use Rattle.frame_cells.proofs.Windows.{drop-reverse}
use Rattle.frame_thread.specs.declared.form.Form.{Form}
use Rattle.frame_thread.specs.declared.form.Form.TheVariants as form
use Rattle.frame_thread.specs.declared.form.Standing.{Standing}
use Rattle.frame_thread.specs.declared.forms.Kept.{Kept}
use Rattle.frame_thread.specs.declared.forms.Other.{Other}
use Rattle.frame_thread.specs.declared.forms.Other.TheVariants as other
use Rattle.frame_thread.specs.Stacked.{Saved, apart_of, apart_in}
use Rattle.frame_thread.specs.Forms.{Piled, form_of, standing_in, last_form, others_below, form_at, saved_of, all_apart}
use Rattle.frame_thread.specs.Forms.{apart_by, kept_apart}

module _ {R N : Type 0} where
  abbrev pub piled : Option (Form R N) → List (Saved R N) → Piled R N
  piled f ss = record { form = f; saved = ss }

  pub form-kept : (b : Bool) (s : Standing R) (os : List (Other R N)) (f : Form R N) →
      last_form b s os ≡ Some f → form_at b s os ≡ f
  form-kept true s os f e = cc
  form-kept false s [] f e = absurd (cc)
  form-kept false s (o ∷ os) f e = cc

  pub form-back : (b : Bool) (s : Standing R) (os : List (Other R N)) → apart_by b ≤ length os →
      last_form b s os ≡ Some (form_at b s os)
  form-back true s os h = refl
  form-back false s [] h = absurd (omega (arith, h))
  form-back false s (o ∷ os) h = refl

  -- the method of the last frame stands somewhere else
  pub stood : (b : Bool) (s t : Standing R) (os : List (Other R N)) → IsSome (standing_in (last_form b s os)) →
      last_form b t os ≡ Some (form.Running t)
  stood true s t os h = refl
  stood false s t [] h = absurd (cc)
  stood false s t (other.Native from state ∷ os) h = absurd (cc)
  stood false s t (other.Initialiser class from ∷ os) h = absurd (cc)
  stood false s t (other.Main method arguments ∷ os) h = absurd (cc)

  pub others-length : (b : Bool) (os : List (Other R N)) →
      length (others_below b os) ≡ length os - apart_by b
  others-length true os = omega arith
  others-length false [] = refl
  others-length false (o ∷ os) = omega arith

  is-apart : (o : Other R N) → apart_of (form_of o) ≡ 1
  is-apart (other.Native from state) = refl
  is-apart (other.Initialiser class from) = refl
  is-apart (other.Main method arguments) = refl

  apart-at : (b : Bool) (s : Standing R) (os : List (Other R N)) → apart_by b ≤ length os →
      apart_of (form_at b s os) ≡ apart_by b
  apart-at true s os h = refl
  apart-at false s [] h = absurd (omega (arith, h))
  apart-at false s (o ∷ os) h = is-apart o

  pub count-saved : (ks : List (Kept R)) (os : List (Other R N)) → length os ≡ kept_apart ks →
      apart_in (saved_of ks os) ≡ kept_apart ks
  count-saved [] os h = refl
  count-saved (k ∷ ks) os h =
      let n = others-length k.is_method os in
      let ih = count-saved ks (others_below k.is_method os) (omega (arith, n, h)) in
      let a = apart-at k.is_method k.standing os (omega (arith, h)) in
      omega (arith, ih, a)

  -- so many forms lie apart as there are frames that are no methods'
  pub count-piled : (b : Bool) (s : Standing R) (ks : List (Kept R)) (os : List (Other R N)) →
      length (others_below b os) ≡ kept_apart ks → IsSome (last_form b s os) →
      length os ≡ all_apart (piled (last_form b s os) (saved_of ks (others_below b os)))
  count-piled true s ks os h e = omega (arith, count-saved ks os h, h)
  count-piled false s ks [] h e = absurd (cc)
  count-piled false s ks (o ∷ os) h e = omega (arith, count-saved ks os h, is-apart o, h)

  pub others-there : (b : Bool) (s : Standing R) (os : List (Other R N)) → IsSome (last_form b s os) →
      length os ≡ apart_by b + length (others_below b os)
  others-there true s os h = omega arith
  others-there false s [] h = absurd (cc)
  others-there false s (o ∷ os) h = omega arith

  pub length-saved : (ks : List (Kept R)) (os : List (Other R N)) → length (saved_of ks os) ≡ length ks
  length-saved [] os = refl
  length-saved (k ∷ ks) os = ap suc (length-saved ks (others_below k.is_method os))

  below-drop : (os : List (Other R N)) → others_below false os ≡ drop 1 os
  below-drop [] = refl
  below-drop (o ∷ os) = refl

  -- the others but for the last one
  pub last-popped : (os : List (Other R N)) →
      others_below false (reverse os) ≡ reverse (take (length os - 1) os)
  last-popped [] = refl
  last-popped (o ∷ os) = below-drop (reverse (o ∷ os)) ∙ drop-reverse (o ∷ os) 1 (omega arith)

  -- the last frame is kept below another one
  pub saved-kept : (b : Bool) (s : Standing R) (ks : List (Kept R)) (os : List (Other R N)) (p : Piled R N) (f : Form R N)
      (places : Places) (left : ℕ) (g : Form R N) (new : List (Kept R)) →
      piled (last_form b s os) (saved_of ks (others_below b os)) ≡ p → p.form ≡ Some f →
      new ≡ record { standing = s; is_method = b; places = places; left = left } ∷ ks →
      piled (Some g) (saved_of new os) ≡
      piled (Some g) (record { form = f; places = places; left = left } ∷ p.saved)
  saved-kept b s ks os p f places left g new v e n =
      let l : last_form b s os ≡ Some f = ap (λ (p : Piled R N). p.form) v ∙ e in
      let below : List (Saved R N) = saved_of ks (others_below b os) in
      let a : saved_of new os ≡ record { form = form_at b s os; places = places; left = left } ∷ below =
      ap (λ ks. saved_of ks os) n in
      let c : record { form = form_at b s os; places = places; left = left } ∷ below ≡
      record { form = f; places = places; left = left } ∷ below =
      ap (λ f. record { form = f; places = places; left = left } ∷ below) (form-kept b s os f l) in
      let d : record { form = f; places = places; left = left } ∷ below ≡
      record { form = f; places = places; left = left } ∷ p.saved =
      ap (λ (q : Piled R N). record { form = f; places = places; left = left } ∷ q.saved) v in
      ap (piled (Some g)) (a ∙ c ∙ d)
