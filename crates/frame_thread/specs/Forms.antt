-- How the forms of a thread's frames lie: where methods stand is in the list of the frames, and what the others
-- are in a list of its own.
use Rattle.std.specs.Prelude.{◌≡◌, ℕ, ◌+◌, Bool, true, false, List, [], ◌∷◌, Option, Some, None}
use Rattle.frame_thread.specs.declared.form.Form.{Form}
use Rattle.frame_thread.specs.declared.form.Form.TheVariants as form
use Rattle.frame_thread.specs.declared.form.Standing.{Standing}
use Rattle.frame_thread.specs.declared.forms.Kept.{Kept}
use Rattle.frame_thread.specs.declared.forms.Other.{Other}
use Rattle.frame_thread.specs.declared.forms.Other.TheVariants as other
use Rattle.frame_thread.specs.Stacked.{Saved, apart_of, apart_in}

-- what frames are, the last one apart from those below it
pub record Piled (R N : Type 0) : Type 0 where
  -- none where there are no frames
  pub form : Option (Form R N)
  pub saved : List (Saved R N)

module _ {R N : Type 0} where
  abbrev pub form_of : Other R N → Form R N
  form_of (other.Native from state) = form.Native from state
  form_of (other.Initialiser class from) = form.Initialiser class from
  form_of (other.Main method arguments) = form.Main method arguments

  -- where the method of a frame stands, if it is a method's
  abbrev pub standing_in : Option (Form R N) → Option (Standing R)
  standing_in (Some (form.Running s)) = Some s
  standing_in other = None

  -- the last frame is a method's that stands there, or the first of the others
  abbrev pub last_form : (is_method : Bool) → Standing R → List (Other R N) → Option (Form R N)
  last_form true s others = Some (form.Running s)
  last_form false s [] = None
  last_form false s (o ∷ others) = Some (form_of o)

  -- the others that are below it
  abbrev pub others_below : (is_method : Bool) → List (Other R N) → List (Other R N)
  others_below true others = others
  others_below false [] = []
  others_below false (o ∷ others) = others

  -- the same of a frame that is there
  abbrev pub form_at : (is_method : Bool) → Standing R → List (Other R N) → Form R N
  form_at true s others = form.Running s
  form_at false s [] = form.Running s
  form_at false s (o ∷ others) = form_of o

  -- the frames below, the last one first, with the forms of those that are no methods'
  abbrev pub saved_of : List (Kept R) → List (Other R N) → List (Saved R N)
  saved_of [] others = []
  saved_of (k ∷ ks) others =
      record { form = form_at k.is_method k.standing others; places = k.places; left = k.left } ∷
      saved_of ks (others_below k.is_method others)

  -- how many frames are no methods'
  abbrev pub all_apart : Piled R N → ℕ
  all_apart p = elim p.form as (λ _. ℕ) [ None ↦ apart_in p.saved | Some f ↦ apart_of f + apart_in p.saved ]

  -- the last frame went, and the one below it, whose cells lie there, is the last
  pub record ComesBack (old new : Piled R N) (k : Kept R) : Type 0 where
    pub last : Form R N
    pub form : new.form ≡ Some last
    pub saved : old.saved ≡ record { form = last; places = k.places; left = k.left } ∷ new.saved

abbrev pub apart_by : (is_method : Bool) → ℕ
apart_by true = 0
apart_by false = 1

abbrev pub kept_apart : {R : Type 0} → List (Kept R) → ℕ
kept_apart [] = 0
kept_apart (k ∷ ks) = apart_by k.is_method + kept_apart ks
