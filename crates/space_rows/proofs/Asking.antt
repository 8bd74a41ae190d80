-- What a request needs, by what it is.
use Rattle.std.proofs.Common.{◌≡◌, ◌≢◌, inl, inr, ℕ, ℤ, ◌<◌, Bool, true, false, nat_lt, ◌&&◌, List, [], length, Option, Some}
use Rattle.std.proofs.Common.{None, IsSome, refl, sym, ◌∙◌, ap, subst, arith, if◌then◌else◌}
use Rattle.ap_base.specs.declared.kind.Kind.{Kind}
use Rattle.ap_base.specs.declared.kind.Kind.TheVariants.{Z, B, C, S, I, J, L, Text}
use Rattle.ap_base.specs.declared.place.Place.{Place}
use Rattle.ap_base.specs.declared.place.Place.TheVariants.{Slot}
use Rattle.ap_base.specs.declared.reference.Ref.{Ref}
use Rattle.ap_base.specs.declared.reference.Item.{Item}
use Rattle.ap_base.specs.declared.reference.Item.TheVariants.{Int as IntItem, Long as LongItem, Ref as RefItem}
use Rattle.run_types.specs.declared.key.Key.TheVariants as key
use Rattle.run_types.specs.declared.resolved.At.{At}
use Rattle.run_types.specs.declared.resolved.FieldAt.{FieldAt}
use Rattle.graph_model.specs.declared.types.Value.{Value}
use Rattle.graph_model.specs.declared.types.Value.TheVariants.{Int, Long, Null, Obj as Object}
use Rattle.natives.specs.declared.requests.Request.{Request}
use Rattle.natives.specs.declared.requests.Request.TheVariants as ask
use Rattle.object_steps.proofs.Places.{kept_object}
use Rattle.plain_model.specs.Classes.{is_made}
use Rattle.plain_model.specs.Duties.{IsClass, IsInstanceField, IsOfKind, IsReferenceIn, IsStaticField}
use Rattle.plain_model.specs.Facts.{SetFacts, class_at, element_of, string_number}
use Rattle.plain_model.specs.Kinds.{narrowed}
use Rattle.plain_model.specs.Steps.{WrongOperand, is_of, next_number, step}
use Rattle.run_history.specs.Worlds.{World as PlainWorld}
use Rattle.shared_objects.specs.declared.rest.Rest.{Rest}
use Rattle.shared_objects.specs.Shown.{IsKnown, item_value, number_value, ref_value}
use Rattle.shared_objects.specs.Worlds.{world_of}
use Rattle.step_forms.specs.Becomes.{IsNarrowed, MayBeStored, given}
use Rattle.step_forms.specs.Follows.{stored_as}
use Rattle.twin_forms.specs.Sights.{view_of}
use Rattle.twin_forms.specs.Table.{Entry}
use Rattle.two_spaces.specs.Seen.{Spaces, number_in, shown_of}
use Rattle.two_spaces.specs.Whole.{HasLine, MayStoreIn, NeedsLine, Stands}
use Rattle.two_spaces.proofs.Numbering.{named_number, number_named}
use Rattle.two_spaces.proofs.Shifting.{objects_long}
use Rattle.space_rows.specs.Worlds.{MayBeAsked, MayRefer}

-- ---- what places keep of items

no_int : (kind : Kind) (i : ℤ) → Null ≡ narrowed kind (Int i) → ⊥
no_int Z i e = cc
no_int B i e = cc
no_int C i e = cc
no_int S i e = cc
no_int I i e = cc
no_int J i e = cc
no_int L i e = cc
no_int Text i e = cc

no_long : (kind : Kind) (i : ℤ) → Null ≡ narrowed kind (Long i) → ⊥
no_long Z i e = cc
no_long B i e = cc
no_long C i e = cc
no_long S i e = cc
no_long I i e = cc
no_long J i e = cc
no_long L i e = cc
no_long Text i e = cc

-- of a number no reference
int_line : (es : List Entry) (kind : Kind) (i : ℤ) (kept : Item) → IsNarrowed kind (IntItem i) kept → HasLine es kept
int_line es kind i (IntItem j) is = tt
int_line es kind i (LongItem j) is = tt
int_line es kind i (RefItem r) is = absurd (no_int kind i (is (λ _. None)))

long_line : (es : List Entry) (kind : Kind) (i : ℤ) (kept : Item) → IsNarrowed kind (LongItem i) kept → HasLine es kept
long_line es kind i (IntItem j) is = tt
long_line es kind i (LongItem j) is = tt
long_line es kind i (RefItem r) is = absurd (no_long kind i (is (λ _. None)))

number_of_value : (o : Option ℕ) (m : ℕ) → number_value o ≡ Object m → o ≡ Some m
number_of_value None m e = cc
number_of_value (Some n) m e = cc

-- of a reference one to its object
ref_line : (s : Spaces) (es : List Entry) → Stands s es → (kind : Kind) (r : Ref) (kept : Item)
    → IsNarrowed kind (RefItem r) kept → HasLine es (RefItem r) → HasLine es kept
ref_line s es h kind r (IntItem j) is line = tt
ref_line s es h kind r (LongItem j) is line = tt
ref_line s es h kind r (RefItem q) is line = λ m lm names.
    let number = number_in (view_of s.twin) in
    let num : number q ≡ Some m = named_number (view_of s.twin) es m q h.lies lm names in
    let kept : narrowed kind (ref_value number r) ≡ Object m = sym (is number) ∙ ap number_value num in
    let its : number r ≡ Some m = number_of_value (number r) m (kept_object kind (ref_value number r) m kept) in
    line m lm (number_named (view_of s.twin) es m r h.lies its).1

-- ---- where a field is stored

stored_there : (p q : Place) (v kept : Value) → stored_as q v ≡ stored_as p kept → p ≡ q
stored_there p q v kept e = cc

wrong_or : (b : Bool) (p q : Place) (v kept : Value)
    → (if b then stored_as q v else WrongOperand) ≡ stored_as p kept → p ≡ q
wrong_or true p q v kept e = stored_there p q v kept e
wrong_or false p q v kept e = cc

module _ (set : SetFacts) (world : PlainWorld) (t : ℕ) where
  field_place : (holder : Value) (from : At) (field : FieldAt) (value : Value) (p : Place) (kept : Value)
      → step set world t 0 (ask.PutField from holder field value) ≡ stored_as p kept
      → (n : ℕ) × (holder ≡ Object n) × (p ≡ Slot n field.at)
  unfolding step
  field_place Null from field value p kept e = cc
  field_place (Int i) from field value p kept e = cc
  field_place (Long i) from field value p kept e = cc
  field_place (Object n) from field value p kept e = (
    n,
    refl,
    wrong_or (nat_lt n (next_number set world) && is_of set world field.class n) p (Slot n field.at)
        (narrowed field.kind value) kept e,
  )

-- ---- requests

nothing : (item : Item) → None ≡ Some item → ⊥
nothing item e = cc

same_item : (x y : Item) → Some x ≡ Some y → x ≡ y
same_item x y e = cc

-- a request that gives no place anything
pub stores_none : (set : SetFacts) (s : Spaces) (rest : Rest) (t : ℕ) (request : Request Ref Item) → given request ≡ None
    → MayBeStored (MayStoreIn s) set (shown_of s) rest t request
stores_none set s rest t request none item is = absurd (nothing item (sym none ∙ is))

module _ (set : SetFacts) (s : Spaces) (es : List Entry) (h : Stands s es) (rest : Rest) (t : ℕ) (from : At) where
  is_there : (r : Ref) (n : ℕ) → number_in (view_of s.twin) r ≡ Some n → n < length (shown_of s).objects
  is_there r n is =
      let named = number_named (view_of s.twin) es n r h.lies is in
      let long = objects_long s.classes (view_of s.twin) es h.lies in
      omega (arith, named.0, long)

  by_number : (r : Ref) (o : Option ℕ) → ((n : ℕ) → o ≡ Some n → n < length (shown_of s).objects)
      → IsReferenceIn (world_of [] (shown_of s) rest) (number_value o)
  by_number r None there = tt
  by_number r (Some n) there = there n refl

  pub reference : (r : Ref) → IsReferenceIn (world_of [] (shown_of s) rest) (ref_value (shown_of s).number r)
  reference r = by_number r (number_in (view_of s.twin) r) (is_there r)

  int_of : (kind : Kind) (i : ℤ) → kind ≡ I → IsOfKind (world_of [] (shown_of s) rest) kind (Int i)
  int_of kind i is = subst (λ k. IsOfKind (world_of [] (shown_of s) rest) k (Int i)) (sym is) tt

  long_of : (kind : Kind) (i : ℤ) → kind ≡ J → IsOfKind (world_of [] (shown_of s) rest) kind (Long i)
  long_of kind i is = subst (λ k. IsOfKind (world_of [] (shown_of s) rest) k (Long i)) (sym is) tt

  ref_of : (kind : Kind) (r : Ref) → kind ≡ L
      → IsOfKind (world_of [] (shown_of s) rest) kind (ref_value (shown_of s).number r)
  ref_of kind r is =
      subst (λ k. IsOfKind (world_of [] (shown_of s) rest) k (ref_value (shown_of s).number r)) (sym is) (reference r)

  -- an item whose object lies in lines may be stored anywhere
  pub stores_lines : (request : Request Ref Item) (item : Item)
      → ((x : Item) → given request ≡ Some x → x ≡ item)
      → ((es : List Entry) → Stands s es → (kind : Kind) (kept : Item) → IsNarrowed kind item kept → HasLine es kept)
      → MayBeStored (MayStoreIn s) set (shown_of s) rest t request
  stores_lines request item is lines x gives place kind kept narrow asks es' h' needs =
      lines es' h' kind kept (subst (λ y. IsNarrowed kind y kept) (is x gives) narrow)

  -- ---- by kind

  pub ask_new : (class : ℕ) → IsClass set class → is_made (class_at set class) ≡ true
      → MayBeAsked set s rest t (ask.New from class)
  ask_new class there made = record {
    fit = (there, made);
    known = tt;
    may = stores_none set s rest t (ask.New from class) refl;
  }

  pub ask_array : (shape : ℕ) (count : ℤ) → IsClass set shape → IsSome (element_of set shape)
      → shape ≢ string_number set → MayBeAsked set s rest t (ask.NewArray from shape count)
  ask_array shape count there some other = record {
    fit = (there, some, other);
    known = tt;
    may = stores_none set s rest t (ask.NewArray from shape count) refl;
  }

  module _ (holder : Ref) (known : IsKnown (shown_of s).number holder) where
    pub ask_get : (field : FieldAt) → IsInstanceField set field → MayBeAsked set s rest t (ask.GetField from holder field)
    ask_get field is = record {
      fit = (is, reference holder);
      known = known;
      may = stores_none set s rest t (ask.GetField from holder field) refl;
    }

    pub ask_put_int : (field : FieldAt) (i : ℤ) → IsInstanceField set field → field.kind ≡ I
        → MayBeAsked set s rest t (ask.PutField from holder field (IntItem i))
    ask_put_int field i is kind = record {
      fit = (is, reference holder, int_of field.kind i kind);
      known = (known, tt);
      may = stores_lines (ask.PutField from holder field (IntItem i)) (IntItem i) (λ x e. sym (same_item _ x e))
          (λ es' h' k kept narrow. int_line es' k i kept narrow);
    }

    pub ask_put_long : (field : FieldAt) (i : ℤ) → IsInstanceField set field → field.kind ≡ J
        → MayBeAsked set s rest t (ask.PutField from holder field (LongItem i))
    ask_put_long field i is kind = record {
      fit = (is, reference holder, long_of field.kind i kind);
      known = (known, tt);
      may = stores_lines (ask.PutField from holder field (LongItem i)) (LongItem i) (λ x e. sym (same_item _ x e))
          (λ es' h' k kept narrow. long_line es' k i kept narrow);
    }

    -- A reference may be stored to a field that has no copied line, or its object lies in lines.
    pub ask_put_ref : (field : FieldAt) (r : Ref) → IsInstanceField set field → field.kind ≡ L
        → IsKnown (shown_of s).number r
        → ((es : List Entry) → Stands s es → MayRefer s es holder field.at r)
        → MayBeAsked set s rest t (ask.PutField from holder field (RefItem r))
    ask_put_ref field r is kind known_r may = record {
      fit = (is, reference holder, ref_of field.kind r kind);
      known = (known, known_r);
      may = λ x gives place k kept narrow asks es' h' needs.
          (let same : x ≡ RefItem r = sym (same_item (RefItem r) x gives) in
          let at = field_place set (world_of [] (shown_of s) rest) t (ref_value (shown_of s).number holder) from field
          (ref_value (shown_of s).number r) place (item_value (shown_of s).number kept) asks in
          let num = number_of_value ((shown_of s).number holder) at.0 at.1 in
          elim (may es' h') [
            | inl line ↦ ref_line s es' h' k r kept (subst (λ y. IsNarrowed k y kept) same narrow) line
            | inr none ↦ absurd (none at.0 num (subst (λ p. NeedsLine s es' p) at.2 needs).1)
          ]);
    }

    pub ask_element : (index : ℤ) (kind : Kind) → MayBeAsked set s rest t (ask.GetElement from holder index kind)
    ask_element index kind = record {
      fit = reference holder;
      known = known;
      may = stores_none set s rest t (ask.GetElement from holder index kind) refl;
    }

    pub ask_put_element : (index : ℤ) (i : ℤ) → MayBeAsked set s rest t (ask.PutElement from holder index I (IntItem i))
    ask_put_element index i = record {
      fit = (reference holder, tt);
      known = (known, tt);
      may = stores_lines (ask.PutElement from holder index I (IntItem i)) (IntItem i) (λ x e. sym (same_item _ x e))
          (λ es' h' k kept narrow. int_line es' k i kept narrow);
    }

    pub ask_refer_element : (index : ℤ) (r : Ref) → IsKnown (shown_of s).number r
        → ((es : List Entry) → Stands s es → HasLine es (RefItem r))
        → MayBeAsked set s rest t (ask.PutElement from holder index L (RefItem r))
    ask_refer_element index r known_r lines = record {
      fit = (reference holder, reference r);
      known = (known, known_r);
      may = stores_lines (ask.PutElement from holder index L (RefItem r)) (RefItem r) (λ x e. sym (same_item _ x e))
          (λ es' h' k kept narrow. ref_line s es' h' k r kept narrow (lines es' h'));
    }

    pub ask_length : MayBeAsked set s rest t (ask.Length from holder)
    ask_length = record {
      fit = reference holder;
      known = known;
      may = stores_none set s rest t (ask.Length from holder) refl;
    }

    pub ask_class : (within : ℕ) → IsClass set within → MayBeAsked set s rest t (ask.ClassOf from holder within)
    ask_class within there = record {
      fit = (there, reference holder);
      known = known;
      may = stores_none set s rest t (ask.ClassOf from holder within) refl;
    }

    pub ask_same : (r : Ref) → IsKnown (shown_of s).number r → MayBeAsked set s rest t (ask.Same from holder r)
    ask_same r known_r = record {
      fit = (reference holder, reference r);
      known = (known, known_r);
      may = stores_none set s rest t (ask.Same from holder r) refl;
    }

    pub ask_enter : MayBeAsked set s rest t (ask.Enter from (key.Object holder))
    ask_enter = record {
      fit = reference holder;
      known = known;
      may = stores_none set s rest t (ask.Enter from (key.Object holder)) refl;
    }

    pub ask_exit : MayBeAsked set s rest t (ask.Exit from (key.Object holder))
    ask_exit = record {
      fit = reference holder;
      known = known;
      may = stores_none set s rest t (ask.Exit from (key.Object holder)) refl;
    }

  pub ask_static : (field : FieldAt) → IsStaticField set field → MayBeAsked set s rest t (ask.GetStatic from field)
  ask_static field is = record {
    fit = is;
    known = tt;
    may = stores_none set s rest t (ask.GetStatic from field) refl;
  }

  pub ask_put_static : (field : FieldAt) (i : ℤ) → IsStaticField set field → field.kind ≡ I
      → MayBeAsked set s rest t (ask.PutStatic from field (IntItem i))
  ask_put_static field i is kind = record {
    fit = (is, int_of field.kind i kind);
    known = tt;
    may = stores_lines (ask.PutStatic from field (IntItem i)) (IntItem i) (λ x e. sym (same_item _ x e))
        (λ es' h' k kept narrow. int_line es' k i kept narrow);
  }

  pub ask_refer_static : (field : FieldAt) (r : Ref) → IsStaticField set field → field.kind ≡ L
      → IsKnown (shown_of s).number r → ((es : List Entry) → Stands s es → HasLine es (RefItem r))
      → MayBeAsked set s rest t (ask.PutStatic from field (RefItem r))
  ask_refer_static field r is kind known_r lines = record {
    fit = (is, ref_of field.kind r kind);
    known = known_r;
    may = stores_lines (ask.PutStatic from field (RefItem r)) (RefItem r) (λ x e. sym (same_item _ x e))
        (λ es' h' k kept narrow. ref_line s es' h' k r kept narrow (lines es' h'));
  }
