-- The objects that a run begins with in volatile memory.
use Rattle.std.proofs.Common.{◌≡◌, inl, inr, ℕ, ◌+◌, ◌<◌, List, [], ◌∷◌, ◌++◌, map, take, drop, length, slice_index_or, Option}
use Rattle.std.proofs.Common.{Some, None, refl, ap, ◌∙◌, sym, subst, arith, length-append}
use Rattle.std.proofs.lemmas.Bool.{cases_lt}
use Rattle.std.proofs.lemmas.List.{length-map, length-take-le}
use Rattle.std.proofs.Math.ListN.{get_or-append}
use Rattle.std.proofs.Math.Seq.{get_or-append_seam}
use Rattle.ap_base.specs.declared.kind.Kind.{Kind}
use Rattle.ap_base.specs.declared.kind.Kind.TheVariants.{L}
use Rattle.ap_base.specs.declared.reference.Ref.{Ref}
use Rattle.ap_base.specs.declared.reference.Ref.TheVariants.{Null as NoRef}
use Rattle.run_types.specs.declared.fault.Full.{Full}
use Rattle.graph_model.specs.declared.types.Field.{Field}
use Rattle.graph_model.specs.declared.types.Obj.{Obj}
use Rattle.graph_model.specs.declared.types.Shape.{Shape}
use Rattle.graph_model.specs.Heaps.{fresh_values, no_shape}
use Rattle.shared_objects.specs.Shown.{Keeps, Numbers}
use Rattle.one_space.specs.declared.failing.NoFirstHeap.{NoFirstHeap}
use Rattle.one_space.specs.declared.failing.NoFirstHeap.TheVariants as failing
use Rattle.one_space.specs.First.{CanBeFirst, IfFull, LacksWords, text_object}
use Rattle.one_space.proofs.Making.{more_at, split_at}
use Rattle.two_spaces.specs.Seen.{Spaces, shown_of}
use Rattle.first_spaces.specs.declared.parts.FirstObjects.{FirstObjects}
use Rattle.first_spaces.specs.Growing.{Grows, fresh_object}
use Rattle.first_spaces.specs.Items.{AreNumbered}
use Rattle.first_spaces.specs.Parts.{first_in, volatile_objects}
use Rattle.first_spaces.proofs.Growing.{grows_further, lacks_behind, lacks_front}

-- ---- references

pub numbered_more : (before now : Numbers) (from : ℕ) (refs all : List Ref) (r : Ref) (n : ℕ) → Keeps before
    now
    → AreNumbered before from refs → now r ≡ Some n → n ≡ from + length refs → all ≡ refs ++ r ∷ []
    → AreNumbered now from all
numbered_more before now from refs all r n keeps numbered new at is = subst (AreNumbered now from) (sym is) (λ
    k lt.
    let long = length-append refs (r ∷ []) in
    elim (cases_lt k (length refs)) [
      | inl below ↦ ap now (get_or-append refs (r ∷ []) NoRef k below)
          ∙ keeps (slice_index_or refs k NoRef) (from + k) (numbered k below)
      | inr past ↦ (let same : k ≡ length refs = omega (arith, past, lt, long) in
          ap (λ i. now (slice_index_or (refs ++ r ∷ []) i NoRef)) same ∙ ap now (get_or-append_seam refs r []
          NoRef)
          ∙ new ∙ ap Some (let e : n ≡ from + k = omega (arith, at, same) in e))
    ])

pub grown_long : (made : List Obj) (a b : Spaces) → Grows made a b
    → length (shown_of b).objects ≡ length (shown_of a).objects + length made
grown_long made a b grown =
    ap (λ (os : List Obj). length os) grown.objects ∙ length-append (shown_of a).objects made

pub if_full : (e : NoFirstHeap) (P Q : Full → Type 0) → ((f : Full) → P f → Q f) → IfFull e P → IfFull e Q
if_full (failing.Full f) P Q to h = to f h
if_full failing.OutOfMemory P Q to h = tt

-- ---- texts

module _ (class : ℕ) (texts : List (List ℕ)) (i : ℕ) (text : List ℕ) (below : i < length texts)
    (is : text ≡ slice_index_or texts i text) (a b : Spaces)
    (grown : Grows (map (text_object class) (take i texts)) a b) where
  pub texts_more : (c : Spaces) → Grows (text_object class text ∷ []) b c
      → Grows (map (text_object class) (take (i + 1) texts)) a c
  texts_more c more =
      subst (λ os. Grows os a c) (more_at (text_object class) texts i text below is)
      (grows_further (map (text_object class) (take i texts)) (text_object class text ∷ []) a b c grown more)

  pub texts_lack : (answer : Full) → LacksWords b.twin.space.left (text_object class text ∷ []) answer
      → LacksWords a.twin.space.left (map (text_object class) texts) answer
  texts_lack answer lacks =
      subst (λ os. LacksWords a.twin.space.left os answer) (split_at (text_object class) texts i text below
      is)
      (lacks_behind a.twin.space.left b.twin.space.left (map (text_object class) (take i texts))
      (text_object class text ∷ map (text_object class) (drop (i + 1) texts)) answer grown.left
      (lacks_front b.twin.space.left (text_object class text ∷ []) (map (text_object class) (drop (i + 1)
      texts)) answer lacks))

  pub texts_long : length (shown_of b).objects ≡ length (shown_of a).objects + i
  texts_long =
      let long = grown_long (map (text_object class) (take i texts)) a b grown in
      let count = length-map (take i texts) (text_object class) in
      let taken : length (take i texts) ≡ i = length-take-le i texts (omega (arith, below)) in
      omega (arith, long, count, taken)

-- ---- all of them

fresh_none : (shape : Shape) → shape.element ≡ None → shape.fields ≡ [] → fresh_values shape 0 ≡ []
fresh_none shape e f = at_parts shape.name shape.fields shape.element e f
  where
    at_parts : (name : List ℕ) (fields : List Field) (element : Option Kind) → element ≡ None → fields ≡ []
        → fresh_values (record { name = name; fields = fields; element = element }) 0 ≡ []
    at_parts name [] None none nil = refl
    at_parts name (x ∷ xs) None none nil = cc
    at_parts name fields (Some k) none nil = refl

fresh_some : (shape : Shape) (kind : Kind) → shape.element ≡ Some kind → fresh_values shape 0 ≡ []
fresh_some shape kind e = at_parts shape.name shape.fields shape.element e
  where
    at_parts : (name : List ℕ) (fields : List Field) (element : Option Kind) → element ≡ Some kind
        → fresh_values (record { name = name; fields = fields; element = element }) 0 ≡ []
    at_parts name fields None some = cc
    at_parts name fields (Some k) some = refl

module _ (objects : FirstObjects) (a b : Spaces) (first : CanBeFirst (first_in a.shapes objects))
    (one : Grows (fresh_object a.shapes objects.stream 0 ∷ []) a b) where
  abbrev stream_object : Obj
  stream_object = record { shape = objects.stream; values = [] }

  abbrev arguments_object : Obj
  arguments_object = record { shape = objects.arguments; values = [] }

  abbrev texts : List Obj
  texts = map (text_object objects.string) objects.literals

  one_is : Grows (stream_object ∷ []) a b
  one_is =
      subst (λ vs. Grows (record { shape = objects.stream; values = vs } ∷ []) a b)
      (fresh_none (slice_index_or a.shapes objects.stream no_shape) first.no_elements first.no_fields) one

  arguments_fresh : fresh_values (slice_index_or b.shapes objects.arguments no_shape) 0 ≡ []
  arguments_fresh =
      fresh_some (slice_index_or b.shapes objects.arguments no_shape) L
      (ap (λ (ss : List Shape). (slice_index_or ss objects.arguments no_shape).element)
      one.spares.classes.shapes
      ∙ first.references)

  pub arguments_lack : (answer : Full) → LacksWords b.twin.space.left (fresh_object b.shapes objects.arguments
      0 ∷ []) answer
      → LacksWords a.twin.space.left (volatile_objects objects) answer
  arguments_lack answer lacks =
      lacks_behind a.twin.space.left b.twin.space.left (stream_object ∷ []) (arguments_object ∷ texts) answer
      one_is.left
      (lacks_front b.twin.space.left (arguments_object ∷ []) texts answer
      (subst (λ vs. LacksWords b.twin.space.left (record { shape = objects.arguments; values = vs } ∷ [])
      answer)
      arguments_fresh lacks))

  module _ (c : Spaces) (two : Grows (fresh_object b.shapes objects.arguments 0 ∷ []) b c) where
    two_is : Grows (arguments_object ∷ []) b c
    two_is = subst (λ vs. Grows (record { shape = objects.arguments; values = vs } ∷ []) b c) arguments_fresh
        two

    both : Grows (stream_object ∷ arguments_object ∷ []) a c
    both = grows_further (stream_object ∷ []) (arguments_object ∷ []) a b c one_is two_is

    pub both_long : length (shown_of c).objects ≡ 2 + length (shown_of a).objects
    both_long = let long = grown_long (stream_object ∷ arguments_object ∷ []) a c both in omega (arith, long)

    pub literals_lack : (given : List (List ℕ)) → given ≡ objects.literals → (answer : Full)
        → LacksWords c.twin.space.left (map (text_object objects.string) given) answer
        → LacksWords a.twin.space.left (volatile_objects objects) answer
    literals_lack given is answer lacks =
        lacks_behind a.twin.space.left c.twin.space.left (stream_object ∷ arguments_object ∷ []) texts answer
        both.left
        (subst (λ ts. LacksWords c.twin.space.left (map (text_object objects.string) ts) answer) is lacks)

    pub all_grown : (given : List (List ℕ)) → given ≡ objects.literals → (d : Spaces)
        → Grows (map (text_object objects.string) given) c d → Grows (volatile_objects objects) a d
    all_grown given is d three =
        grows_further (stream_object ∷ arguments_object ∷ []) texts a c d both
        (subst (λ ts. Grows (map (text_object objects.string) ts) c d) is three)

    pub stream_kept : (r : Ref) (given : List (List ℕ)) (d : Spaces) → Grows (map (text_object objects.string)
        given) c d
        → (shown_of b).number r ≡ Some (length (shown_of a).objects)
        → (shown_of d).number r ≡ Some (length (shown_of a).objects)
    stream_kept r given d three is =
        three.spares.goes_on.keeps r (length (shown_of a).objects)
        (two.spares.goes_on.keeps r (length (shown_of a).objects) is)

    pub arguments_kept : (r : Ref) (given : List (List ℕ)) (d : Spaces) → Grows (map (text_object
        objects.string) given) c d
        → (shown_of c).number r ≡ Some (length (shown_of b).objects)
        → (shown_of d).number r ≡ Some (1 + length (shown_of a).objects)
    arguments_kept r given d three is =
        let long : length (shown_of b).objects ≡ 1 + length (shown_of a).objects =
        (let l = grown_long (stream_object ∷ []) a b one_is in omega (arith, l)) in
        three.spares.goes_on.keeps r (1 + length (shown_of a).objects) (is ∙ ap Some long)
