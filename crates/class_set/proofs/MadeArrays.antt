-- The array types that code makes: the set has each, their descriptors are short, and they are found by their descriptors.
use Rattle.std.proofs.Common.{◌≡◌, ℕ, ◌<◌, ◌^◌, Bool, true, false, ◌||◌, List, [], ◌∷◌, ◌++◌, Option, Some, None, map, filter}
use Rattle.std.proofs.Common.{length, slice_index_or, refl, ap, sym, ◌∙◌, arith, subst, if◌then◌else◌, inl, inr}
use Rattle.std.specs.Prelude.{All, Contains, codes, ◌↔◌}
use Rattle.std.specs.List.{flat_map}
use Rattle.std.specs.Str.{bytes_eq}
use Rattle.std.proofs.lemmas.Bool.{false≢true}
use Rattle.std.proofs.lemmas.List.{length-append, length-map}
use Rattle.std.proofs.lemmas.List.Elements.{All-append, All-cons, All-contains, All-contains_itself, All-filter, All-head}
use Rattle.std.proofs.lemmas.List.Elements.{All-nil, All-tail, All-weaker, Contains-append_left, Contains-append_right}
use Rattle.std.proofs.lemmas.List.Elements.{filter_passes}
use Rattle.std.proofs.lemmas.Option.{slice_get-get_or}
use Rattle.std.proofs.lemmas.Slice.Eq.{bytes_eq-Decides}
use Rattle.const_pool.specs.Pool.{Slots}
use Rattle.code_form.specs.declared.ins.PoolUse.TheVariants as usage
use Rattle.code_form.specs.declared.ins.Ins.{Ins}
use Rattle.code_form.specs.declared.ins.Ins.TheVariants as ins
use Rattle.code_form.specs.declared.ins.Placed.{Placed}
use Rattle.code_attribute.specs.declared.code.Handler.{Handler}
use Rattle.code_attribute.specs.declared.code.Code.{Code}
use Rattle.class_file.specs.declared.method.Method.{Method}
use Rattle.class_file.specs.declared.class.ClassFile.{ClassFile}
use Rattle.class_file.specs.Classes.{CanBeRead}
use Rattle.class_file.specs.Members.{code_in}
use Rattle.graph_walks.proofs.Lists.{Contains-cons_cases, Contains-head, Contains-tail}
use Rattle.plain_model.specs.Classes.{ArrayType, no_class}
use Rattle.plain_model.specs.Facts.{class_at, classes_of}
use Rattle.text_table.specs.Sorted.{has_text, insert_text, insert_texts}
use Rattle.class_links.specs.Names.{class_name}
use Rattle.class_set.specs.declared.arrays.Listed.TheVariants.{Made, Needed}
use Rattle.class_set.specs.Linked.{Linked, names_of}
use Rattle.class_set.specs.ArrayTypes.{all_listed, array_of, array_type, begins_with_bracket, class_at as class_named_at}
use Rattle.class_set.specs.ArrayTypes.{descriptor_of_class, is_array_type, listed_arrays, listed_by, listed_by_class}
use Rattle.class_set.specs.ArrayTypes.{listed_by_code, makes, named, primitive_letter}
use Rattle.class_set.specs.Facts.{facts_of}
use Rattle.class_set.specs.Sets.{IsLinked, made_of}
use Rattle.class_set.proofs.Above.{get_or-map_all}
use Rattle.class_set.proofs.Consistency.{has_needed}
use Rattle.class_set.proofs.Differ.{name, names_listed, type_named}
use Rattle.class_set.proofs.FieldsRead.{class_sound}
use Rattle.class_set.proofs.GivenArrays.{contains_map, insert_has, inserts_keep}
use Rattle.class_set.proofs.Ordered.{All-inserted}
use Rattle.class_set.proofs.PoolTexts.{AreShort}
use Rattle.class_set.proofs.TextBytes.{class_at_has}

-- ---- many lists one after another

flat_all : {X : Type 0} (P : List ℕ → Type 0) (f : X → List (List ℕ)) (xs : List X) → All (λ x. All P (f x)) xs → All P (flat_map f xs)
flat_all P f [] h = All-nil P
flat_all P f (x ∷ xs) h =
    All-append P (f x) (flat_map f xs) (All-head (λ y. All P (f y)) x xs h) (flat_all P f xs (All-tail (λ y. All P (f y)) x xs h))

-- each of the texts is among the others
abbrev AreAmong : (texts others : List (List ℕ)) → Type 0
AreAmong texts others = All (λ t. Contains others t) texts

among_left : (texts xs ys : List (List ℕ)) → AreAmong texts xs → AreAmong texts (xs ++ ys)
among_left texts xs ys h = All-weaker (λ t. Contains xs t) (λ t. Contains (xs ++ ys) t) (λ t c. Contains-append_left xs ys t c) texts h

among_right : (texts xs ys : List (List ℕ)) → AreAmong texts ys → AreAmong texts (xs ++ ys)
among_right texts xs ys h = All-weaker (λ t. Contains ys t) (λ t. Contains (xs ++ ys) t) (λ t c. Contains-append_right xs ys t c) texts h

both_among : (one two xs ys : List (List ℕ)) → AreAmong one xs → AreAmong two ys → AreAmong (one ++ two) (xs ++ ys)
both_among one two xs ys h k = All-append (λ t. Contains (xs ++ ys) t) one two (among_left one xs ys h) (among_right two xs ys k)

flat_among : {X : Type 0} (f g : X → List (List ℕ)) (xs : List X) → ((x : X) → AreAmong (f x) (g x)) → AreAmong (flat_map f xs) (flat_map g xs)
flat_among f g [] h = All-nil (λ t. Contains [] t)
flat_among f g (x ∷ xs) h = both_among (f x) (flat_map f xs) (g x) (flat_map g xs) (h x) (flat_among f g xs h)

none_among : (texts : List (List ℕ)) → AreAmong [] texts
none_among texts = All-nil (λ t. Contains texts t)

-- ---- what is made is needed

by_instruction : (pool : Slots) (i : Ins) → AreAmong (listed_by Made pool i) (listed_by Needed pool i)
by_instruction pool (ins.NewArray p) = All-contains_itself (listed_by Made pool (ins.NewArray p))
by_instruction pool (ins.Pool usage.NewReferenceArray index) =
    let text = array_of (descriptor_of_class (class_named_at pool index)) in
    All-cons (λ t. Contains (text ∷ class_named_at pool index ∷ []) t) text [] (Contains-head text (class_named_at pool index ∷ []))
    (none_among (text ∷ class_named_at pool index ∷ []))
by_instruction pool (ins.Pool other index) = none_among (listed_by Needed pool (ins.Pool other index))
by_instruction pool (ins.InvokeInterface index count) = none_among (listed_by Needed pool (ins.InvokeInterface index count))
by_instruction pool other = none_among (listed_by Needed pool other)

by_code : (pool : Slots) (o : Option Code) → AreAmong (listed_by_code Made pool o) (listed_by_code Needed pool o)
by_code pool None = none_among []
by_code pool (Some code) =
    both_among (flat_map (λ (p : Placed). listed_by Made pool p.ins) code.instructions)
    (flat_map (λ (h : Handler). named Made (class_name pool h.catch)) code.handlers)
    (flat_map (λ (p : Placed). listed_by Needed pool p.ins) code.instructions)
    (flat_map (λ (h : Handler). named Needed (class_name pool h.catch)) code.handlers)
    (flat_among (λ (p : Placed). listed_by Made pool p.ins) (λ (p : Placed). listed_by Needed pool p.ins) code.instructions
    (λ p. by_instruction pool p.ins))
    (flat_among (λ (h : Handler). named Made (class_name pool h.catch)) (λ (h : Handler). named Needed (class_name pool h.catch)) code.handlers
    (λ h. none_among (named Needed (class_name pool h.catch))))

by_class : (c : ClassFile) → AreAmong (listed_by_class Made c) (listed_by_class Needed c)
by_class c =
    flat_among (λ (m : Method). listed_by_code Made c.pool (code_in m.attributes)) (λ (m : Method). listed_by_code Needed c.pool (code_in m.attributes))
    c.methods (λ m. by_code c.pool (code_in m.attributes))

all_among : (files : List ClassFile) → AreAmong (all_listed Made files) (all_listed Needed files)
all_among files =
    both_among (codes "[C" ∷ codes "[Ljava/lang/String;" ∷ []) (flat_map (listed_by_class Made) files)
    (codes "[C" ∷ codes "[Ljava/lang/String;" ∷ []) (flat_map (listed_by_class Needed) files)
    (All-contains_itself (codes "[C" ∷ codes "[Ljava/lang/String;" ∷ []))
    (flat_among (listed_by_class Made) (listed_by_class Needed) files by_class)

filter_has : (p : List ℕ → Bool) (xs : List (List ℕ)) (x : List ℕ) → p x ≡ true → Contains xs x → Contains (filter p xs) x
filter_has p [] x e c = absurd (omega (arith, c.1))
filter_has p (y ∷ ys) x e c = elim (Contains-cons_cases y ys x c) [
  | inl same ↦ subst (λ b. Contains (if b then y ∷ filter p ys else filter p ys) x) (sym (ap p same ∙ e))
      (subst (λ z. Contains (z ∷ filter p ys) x) (sym same) (Contains-head x (filter p ys)))
  | inr d ↦ elim (p y) as (λ b. Contains (if b then y ∷ filter p ys else filter p ys) x) [
    | true ↦ Contains-tail y (filter p ys) x (filter_has p ys x e d)
    | false ↦ filter_has p ys x e d
  ]
]

inserts_have : (texts others : List (List ℕ)) (t : List ℕ) → Contains others t → Contains (insert_texts texts others) t
inserts_have texts [] t c = absurd (omega (arith, c.1))
inserts_have texts (u ∷ us) t c = elim (Contains-cons_cases u us t c) [
  | inl same ↦ inserts_keep (insert_text texts u) us t (subst (λ v. Contains (insert_text texts u) v) same (insert_has texts u))
  | inr d ↦ inserts_have (insert_text texts u) us t d
]

passing_all : (p : List ℕ → Bool) (P : List ℕ → Type 0) (xs : List (List ℕ)) → All (λ x. p x ≡ true → P x) xs → All P (filter p xs)
passing_all p P xs h k d l = All-filter p (λ x. p x ≡ true → P x) xs h k d l (filter_passes p xs k d l)

pub made_needed : (files : List ClassFile) → AreAmong (listed_arrays Made files) (listed_arrays Needed files)
made_needed files =
    let needed = filter is_array_type (all_listed Needed files) in
    All-inserted (λ t. Contains (listed_arrays Needed files) t) [] (filter is_array_type (all_listed Made files))
    (none_among (listed_arrays Needed files))
    (passing_all is_array_type (λ t. Contains (listed_arrays Needed files) t) (all_listed Made files)
    (All-weaker (λ t. Contains (all_listed Needed files) t) (λ t. is_array_type t ≡ true → Contains (listed_arrays Needed files) t)
    (λ t c e. inserts_have [] needed t (filter_has is_array_type (all_listed Needed files) t e c)) (all_listed Made files) (all_among files)))

-- the set has each
pub made_known : (set : Linked) (text : List ℕ) → IsLinked set → Contains (made_of set) text
    → (a : ArrayType) × Contains (facts_of set).arrays a × (a.descriptor ≡ text)
made_known set text h c =
    let needed : Contains (listed_arrays Needed set.files) text =
    All-contains (λ t. Contains (listed_arrays Needed set.files) t) (made_of set) text (made_needed set.files) c in (
      array_type set.files text,
      contains_map (array_type set.files) set.arrays text (has_needed set text h needed),
      type_named set.files text,
    )

-- ---- their descriptors are short

abbrev pub IsShort : List ℕ → Type 0
IsShort t = length t < 2 ^ 17

named_short : (name : List ℕ) → length name < 2 ^ 16 → IsShort (array_of (descriptor_of_class name))
named_short name l =
    elim (begins_with_bracket name) as (λ b. length (array_of (if b then name else 76 ∷ name ++ 59 ∷ [])) < 2 ^ 17) [
      | true ↦ omega (arith, l)
      | false ↦ omega (arith, l, length-append name (59 ∷ []))
    ]

instruction_short : (pool : Slots) → AreShort pool → (i : Ins) → All IsShort (listed_by Made pool i)
instruction_short pool h (ins.NewArray p) = All-cons IsShort (array_of (primitive_letter p ∷ [])) [] (omega arith) (All-nil IsShort)
instruction_short pool h (ins.Pool usage.NewReferenceArray index) =
    let name = class_named_at pool index in
    let short : length name < 2 ^ 16 = class_at_has (λ t. length t < 2 ^ 16) pool (omega arith) h index in
    All-cons IsShort (array_of (descriptor_of_class name)) [] (named_short name short) (All-nil IsShort)
instruction_short pool h (ins.Pool other index) = All-nil IsShort
instruction_short pool h (ins.InvokeInterface index count) = All-nil IsShort
instruction_short pool h other = All-nil IsShort

code_short : (pool : Slots) → AreShort pool → (o : Option Code) → All IsShort (listed_by_code Made pool o)
code_short pool h None = All-nil IsShort
code_short pool h (Some code) =
    All-append IsShort (flat_map (λ (p : Placed). listed_by Made pool p.ins) code.instructions)
    (flat_map (λ (x : Handler). named Made (class_name pool x.catch)) code.handlers)
    (flat_all IsShort (λ (p : Placed). listed_by Made pool p.ins) code.instructions
    (λ k d l. instruction_short pool h (slice_index_or code.instructions k d).ins))
    (flat_all IsShort (λ (x : Handler). named Made (class_name pool x.catch)) code.handlers (λ k d l. All-nil IsShort))

class_short : (c : ClassFile) → CanBeRead c → All IsShort (listed_by_class Made c)
class_short c h =
    flat_all IsShort (λ (m : Method). listed_by_code Made c.pool (code_in m.attributes)) c.methods
    (λ k d l. code_short c.pool (class_sound c h).short (code_in (slice_index_or c.methods k d).attributes))

pub made_short : (files : List ClassFile) → All CanBeRead files → All IsShort (listed_arrays Made files)
made_short files h =
    All-inserted IsShort [] (filter is_array_type (all_listed Made files)) (All-nil IsShort)
    (All-filter is_array_type IsShort (all_listed Made files)
    (All-cons IsShort (codes "[C") (codes "[Ljava/lang/String;" ∷ flat_map (listed_by_class Made) files) (omega arith)
    (All-cons IsShort (codes "[Ljava/lang/String;") (flat_map (listed_by_class Made) files) (omega arith)
    (flat_all IsShort (listed_by_class Made) files (λ k d l. class_short (slice_index_or files k d) (h k d l))))))

-- ---- whether a type is made

found_text : (texts : List (List ℕ)) (t : List ℕ) → has_text texts t ≡ true → Contains texts t
found_text [] t e = absurd (false≢true e)
found_text (u ∷ us) t e =
    elim (bytes_eq u t) as (λ b. bytes_eq u t ≡ b → (b || has_text us t) ≡ true → Contains (u ∷ us) t) [
      | true ↦ λ s f. subst (λ v. Contains (u ∷ us) v) ((bytes_eq-Decides u t).0 s) (Contains-head u us)
      | false ↦ λ s f. Contains-tail u us t (found_text us t f)
    ] refl e

text_found : (texts : List (List ℕ)) (t : List ℕ) → Contains texts t → has_text texts t ≡ true
text_found [] t c = absurd (omega (arith, c.1))
text_found (u ∷ us) t c = elim (Contains-cons_cases u us t c) [
  | inl same ↦ ap (λ b. b || has_text us t) ((bytes_eq-Decides u t).1 same)
  | inr d ↦ ap (λ b. bytes_eq u t || b) (text_found us t d) ∙ or_true (bytes_eq u t)
]
  where
    or_true : (b : Bool) → (b || true) ≡ true
    or_true true = refl
    or_true false = refl

makes_named : (set : Linked) (n : ℕ) → n < length (classes_of (facts_of set))
    → makes set n ≡ has_text (made_of set) (class_at (facts_of set) n).shape.name
makes_named set n l =
    let classes = classes_of (facts_of set) in
    let names = names_of set in
    let same : map name classes ≡ names = names_listed set in
    let size : length classes ≡ length names = sym (length-map classes name) ∙ ap length same in
    let called : slice_index_or names n (name no_class) ≡ (class_at (facts_of set) n).shape.name =
    ap (λ ns. slice_index_or ns n (name no_class)) (sym same) ∙ get_or-map_all name no_class classes n in
    ap (λ (o : Option (List ℕ)). elim o as (λ x. Bool) [ None ↦ false | Some t ↦ has_text (made_of set) t ])
    (slice_get-get_or names n (name no_class) (omega (arith, l, size)) ∙ ap (λ t. Some t) called)

pub makes_by_name : (set : Linked) (n : ℕ) → n < length (classes_of (facts_of set))
    → (makes set n ≡ true) ↔ Contains (made_of set) (class_at (facts_of set) n).shape.name
makes_by_name set n l =
    let text = (class_at (facts_of set) n).shape.name in (
      λ e. found_text (made_of set) text (sym (makes_named set n l) ∙ e),
      λ c. makes_named set n l ∙ text_found (made_of set) text c,
    )
