-- The words of the first objects, one after another.
use Rattle.std.proofs.Common.{◌≡◌, ℕ, zero, suc, ◌+◌, ◌-◌, ◌<◌, ◌≤◌, pos, List, [], ◌∷◌, ◌++◌, map, take, drop, length, get_or, slice_index_or}
use Rattle.std.proofs.Common.{refl, ap, sym, subst, ◌∙◌, arith, length-append}
use Rattle.std.specs.Prelude.{sum_by}
use Rattle.std.proofs.lemmas.List.{drop_more, get_or_at, length-map, map-append, take-append-drop, take_at, take_more}
use Rattle.std.proofs.lemmas.List.Sums.{sum_by-cons, sum_by_push}
use Rattle.run_types.specs.declared.fault.Full.{Full}
use Rattle.run_types.specs.declared.fault.Which.TheVariants.{VolatileWords}
use Rattle.graph_model.specs.declared.types.Graph.{Graph}
use Rattle.graph_model.specs.declared.types.Obj.{Obj}
use Rattle.graph_model.specs.declared.types.Value.TheVariants.{Int}
use Rattle.graph_model.specs.Heaps.{no_object}
use Rattle.plain_model.specs.Facts.{SetFacts, arguments_class, shapes_of, stream_class, string_number}
use Rattle.plain_model.specs.First.{first_heap, node_object}
use Rattle.plain_model.specs.Limits.{words_of, words_taken}
use Rattle.one_space.specs.declared.parts.FirstParts.{FirstParts}
use Rattle.one_space.specs.First.{LacksWords, index_in, objects_of, text_object}

-- the words of a text
abbrev pub text_words : List ℕ → ℕ
text_words text = 3 + length text

pub object_words : (class : ℕ) (text : List ℕ) → words_of (text_object class text) ≡ text_words text
object_words class text = ap (λ n. 3 + n) (length-map text (λ c. Int (pos c)))

texts_summed : (class : ℕ) (texts : List (List ℕ)) → sum_by words_of (map (text_object class) texts) ≡ sum_by text_words texts
texts_summed class [] = refl
texts_summed class (t ∷ ts) =
    let objects = map (text_object class) ts in
    sum_by-cons words_of (text_object class t) objects
    ∙ ap (λ n. n + sum_by words_of objects) (object_words class t)
    ∙ ap (λ n. text_words t + n) (texts_summed class ts)
    ∙ sym (sum_by-cons text_words t ts)

-- the parts with these literals alone
abbrev with_texts : FirstParts → List (List ℕ) → FirstParts
with_texts parts texts = record parts { literals = texts }

-- the stream and the arguments take three words each
pub words_summed : (parts : FirstParts) (texts : List (List ℕ))
    → sum_by words_of (objects_of (with_texts parts texts)) ≡ 6 + sum_by text_words texts
words_summed parts texts =
    let stream : Obj = record { shape = parts.stream; values = [] } in
    let arguments : Obj = record { shape = parts.arguments; values = [] } in
    let objects = map (text_object parts.string) texts in
    let one = sum_by-cons words_of stream (arguments ∷ objects) in
    let other = sum_by-cons words_of arguments objects in
    let all = texts_summed parts.string texts in
    omega (arith, one, other, all)

-- where all are taken, their words are no more than there were
pub all_fit : (words left : ℕ) (parts : FirstParts) (texts : List (List ℕ)) → parts.literals ≡ texts
    → words ≡ left + (6 + sum_by text_words texts) → sum_by words_of (objects_of parts) ≤ words
all_fit words left parts texts are sum =
    let summed = words_summed parts parts.literals in
    let same = ap (sum_by text_words) are in
    omega (arith, sum, summed, same)

pub take_whole : (n : ℕ) (texts : List (List ℕ)) → length texts ≤ n → take n texts ≡ texts
take_whole zero [] past = refl
take_whole zero (t ∷ ts) past = absurd (omega (arith, past))
take_whole (suc n) [] past = refl
take_whole (suc n) (t ∷ ts) past = ap (λ (rest : List (List ℕ)). t ∷ rest) (take_whole n ts (omega (arith, past)))

pub texts_more : (texts : List (List ℕ)) (i : ℕ) (text : List ℕ) → i < length texts → text ≡ get_or texts i text
    → sum_by text_words (take (i + 1) texts) ≡ sum_by text_words (take i texts) + text_words text
texts_more texts i text below is =
    ap (sum_by text_words) (take_more texts i text below ∙ ap (λ t. take i texts ++ t ∷ []) (sym is))
    ∙ sum_by_push text_words (take i texts) text

-- ---- one that finds too few

abbrev full_with : ℕ → ℕ → Full
full_with need left = record { which = VolatileWords; need = need; left = left }

pub lacks_at : (words left : ℕ) (front rest : List Obj) (o : Obj) (full : Full) → words ≡ left + sum_by words_of front
    → left < words_of o → full ≡ full_with (words_of o) left → LacksWords words (front ++ o ∷ rest) full
lacks_at words left front rest o full sum short is =
    let index : index_in (front ++ o ∷ rest) (length front) ≡ sum_by words_of front =
    ap (λ (os : List Obj). sum_by words_of os) (take_at front (o ∷ rest) (length front) refl) in
    let here : slice_index_or (front ++ o ∷ rest) (length front) no_object ≡ o =
    get_or_at front o rest no_object (length front) refl in
    let remains : words - index_in (front ++ o ∷ rest) (length front) ≡ left = omega (arith, index, sum) in
    let same : words_of (slice_index_or (front ++ o ∷ rest) (length front) no_object) ≡ words_of o = ap words_of here in
    record {
      n = length front;
      there = omega (arith, length-append front (o ∷ rest));
      within = omega (arith, index, sum);
      full = is ∙ ap (λ (n : ℕ). full_with n left) (sym same)
          ∙ ap (λ (l : ℕ). full_with (words_of (slice_index_or (front ++ o ∷ rest) (length front) no_object)) l) (sym remains);
      short = omega (arith, short, same, remains);
    }

split_at : {A B : Type 0} (f : A → B) (ts : List A) (i : ℕ) (t : A) → i < length ts → t ≡ get_or ts i t
    → map f (take i ts) ++ f t ∷ map f (drop (i + 1) ts) ≡ map f ts
split_at f ts i t below is =
    sym (ap (λ xs. map f xs) (sym (take-append-drop i ts)) ∙ map-append f (take i ts) (drop i ts)
    ∙ ap (λ xs. map f (take i ts) ++ map f xs) (drop_more ts i t below)
    ∙ ap (λ x. map f (take i ts) ++ f x ∷ map f (drop (i + 1) ts)) (sym is))

module _ (words left : ℕ) (parts : FirstParts) (full : Full) where
  pub lacks_stream : words ≡ left → left < 3 → full ≡ full_with 3 left → LacksWords words (objects_of parts) full
  lacks_stream sum short is =
      let stream : Obj = record { shape = parts.stream; values = [] } in
      let arguments : Obj = record { shape = parts.arguments; values = [] } in
      lacks_at words left [] (arguments ∷ map (text_object parts.string) parts.literals) stream full (omega (arith, sum)) short is

  pub lacks_arguments : words ≡ left + 3 → left < 3 → full ≡ full_with 3 left → LacksWords words (objects_of parts) full
  lacks_arguments sum short is =
      let stream : Obj = record { shape = parts.stream; values = [] } in
      let arguments : Obj = record { shape = parts.arguments; values = [] } in
      lacks_at words left (stream ∷ []) (map (text_object parts.string) parts.literals) arguments full (omega (arith, sum)) short is

  pub lacks_text : (texts : List (List ℕ)) (i : ℕ) (text : List ℕ) → parts.literals ≡ texts → i < length texts
      → text ≡ get_or texts i text → words ≡ left + (6 + sum_by text_words (take i texts)) → left < text_words text
      → full ≡ full_with (text_words text) left → LacksWords words (objects_of parts) full
  lacks_text texts i text are below at sum short is =
      let object = text_object parts.string in
      let front : List Obj = objects_of (with_texts parts (take i texts)) in
      let taken = words_summed parts (take i texts) in
      let of = object_words parts.string text in
      let found : LacksWords words (front ++ object text ∷ map object (drop (i + 1) texts)) full =
      lacks_at words left front (map object (drop (i + 1) texts)) (object text) full (omega (arith, sum, taken))
      (omega (arith, short, of)) (is ∙ ap (λ (n : ℕ). full_with n left) (sym of)) in
      let stream : Obj = record { shape = parts.stream; values = [] } in
      let arguments : Obj = record { shape = parts.arguments; values = [] } in
      subst (λ (os : List Obj). LacksWords words os full)
      (ap (λ (os : List Obj). stream ∷ arguments ∷ os)
      (split_at object texts i text below at ∙ ap (map object) (sym are))) found

-- ---- those of a set

past_front : {X Y : Type 0} (f : X → Y) (xs : List X) (ys : List Y) → drop (length xs) (map f xs ++ ys) ≡ ys
past_front f [] ys = refl
past_front f (x ∷ xs) ys = past_front f xs ys

-- what the first objects of a set are made of
abbrev pub parts_of : SetFacts → FirstParts
parts_of set = record {
  shapes = shapes_of set;
  stream = stream_class set;
  arguments = arguments_class set;
  string = string_number set;
  literals = set.literals;
  statics = [];
}

pub taken_by : (set : SetFacts) (opening : Graph)
    → words_taken opening (first_heap set opening) ≡ sum_by words_of (objects_of (parts_of set))
unfolding first_heap
taken_by set opening =
    ap (λ (os : List Obj). sum_by words_of os) (past_front (node_object set opening) opening.nodes (objects_of (parts_of set)))
