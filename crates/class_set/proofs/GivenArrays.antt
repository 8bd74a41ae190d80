-- The array types that every class set has.
use Rattle.std.proofs.Common.{◌≡◌, ℕ, ◌+◌, true, List, [], ◌∷◌, Option, Some, None, map, length, filter, refl, ap, sym, ◌∙◌}
use Rattle.std.proofs.Common.{arith, subst, Less, Equal, Greater, inl, inr}
use Rattle.std.specs.Prelude.{Contains, codes}
use Rattle.std.specs.List.{flat_map}
use Rattle.std.specs.Ordering.{is_eq, match_ordering, nat_cmp}
use Rattle.std.specs.Cmp.Lexicographic.{slice_cmp}
use Rattle.std.proofs.lemmas.List.{length-map}
use Rattle.std.proofs.lemmas.Map.Text.{is_eq-slice_cmp}
use Rattle.std.proofs.lemmas.Slice.Eq.{bytes_eq-Decides}
use Rattle.const_pool.specs.Parsing.{descriptor_at, method_at, result_at, only_field, parameters_at, field_at, brackets}
use Rattle.const_pool.specs.Parsing.{element_at, base_at, class_at, after_front, name_len}
use Rattle.const_pool.specs.Utf8.{bad_place, char_len}
use Rattle.class_file.specs.declared.class.ClassFile.{ClassFile}
use Rattle.graph_walks.proofs.Lists.{Contains-cons_cases, Contains-head, Contains-tail}
use Rattle.plain_model.specs.Classes.{ArrayType, Innermost, Objects, Missing}
use Rattle.plain_model.specs.BuiltIn.{arguments_array, chars_array}
use Rattle.built_in_table.specs.Members.{built_in_names}
use Rattle.text_table.specs.Sorted.{insert_text, insert_texts}
use Rattle.text_table.specs.Texts.{place_from, place_of}
use Rattle.class_links.specs.Names.{has_name, name_of}
use Rattle.class_links.specs.Links.{doubled}
use Rattle.class_set.specs.declared.arrays.Listed.{Listed}
use Rattle.class_set.specs.Linked.{class_names}
use Rattle.class_set.specs.ArrayTypes.{array_type, is_array_type, listed_arrays, listed_by_class}
use Rattle.class_set.proofs.Above.{get_or-map_all}
use Rattle.class_set.proofs.Numbers.{files_apart}
use Rattle.class_set.proofs.Places.{right_place}

-- ---- what was inserted is there

pub insert_has : (texts : List (List ℕ)) (text : List ℕ) → Contains (insert_text texts text) text
insert_has [] text = Contains-head text []
insert_has (t ∷ ts) text =
    elim (slice_cmp nat_cmp text t) as (λ o. slice_cmp nat_cmp text t ≡ o
    → Contains (match_ordering o (text ∷ t ∷ ts) (t ∷ ts) (t ∷ insert_text ts text)) text) [
      | Less ↦ λ e. Contains-head text (t ∷ ts)
      | Equal ↦ λ e. (let same : text ≡ t = (bytes_eq-Decides text t).0 (sym (is_eq-slice_cmp text t) ∙ ap is_eq e) in
          subst (λ u. Contains (u ∷ ts) text) same (Contains-head text ts))
      | Greater ↦ λ e. Contains-tail t (insert_text ts text) text (insert_has ts text)
    ] refl

parts_of : (x : List ℕ) (xs : List (List ℕ)) (y : List ℕ) (P : Type 0) → Contains (x ∷ xs) y → (x ≡ y → P) → (Contains xs y → P) → P
parts_of x xs y P c f g = elim (Contains-cons_cases x xs y c) [ inl e ↦ f e | inr d ↦ g d ]

insert_keeps : (texts : List (List ℕ)) (text other : List ℕ) → Contains texts other → Contains (insert_text texts text) other
insert_keeps [] text other c = Contains-tail text [] other c
insert_keeps (t ∷ ts) text other c =
    elim (slice_cmp nat_cmp text t) as (λ o. Contains (match_ordering o (text ∷ t ∷ ts) (t ∷ ts) (t ∷ insert_text ts text)) other) [
      | Less ↦ Contains-tail text (t ∷ ts) other c
      | Equal ↦ c
      | Greater ↦ parts_of t ts other (Contains (t ∷ insert_text ts text) other) c
          (λ e. subst (λ u. Contains (t ∷ insert_text ts text) u) e (Contains-head t (insert_text ts text)))
          (λ d. Contains-tail t (insert_text ts text) other (insert_keeps ts text other d))
    ]

pub inserts_keep : (texts others : List (List ℕ)) (text : List ℕ) → Contains texts text → Contains (insert_texts texts others) text
inserts_keep texts [] text c = c
inserts_keep texts (t ∷ ts) text c = inserts_keep (insert_text texts t) ts text (insert_keeps texts t text c)

-- ---- the array of chars

pub contains_map : {A B : Type 0} (f : A → B) (xs : List A) (x : A) → Contains xs x → Contains (map f xs) (f x)
contains_map f xs x c = (c.0, omega (arith, c.1, length-map xs f), get_or-map_all f x xs c.0 ∙ ap f c.2)

pub chars_listed : (what : Listed) (files : List ClassFile) → Contains (listed_arrays what files) (codes "[C")
unfolding descriptor_at method_at result_at only_field parameters_at field_at brackets element_at base_at class_at after_front name_len bad_place char_len
chars_listed what files =
    inserts_keep (insert_text (codes "[C" ∷ []) (codes "[Ljava/lang/String;")) (filter is_array_type (flat_map (listed_by_class what) files)) (codes "[C")
    (insert_keeps (codes "[C" ∷ []) (codes "[Ljava/lang/String;") (codes "[C") (Contains-head (codes "[C") []))

chars_typed : (files : List ClassFile) → array_type files (codes "[C") ≡ chars_array
unfolding descriptor_at method_at result_at only_field parameters_at field_at brackets element_at base_at class_at after_front name_len bad_place char_len
chars_typed files = refl

pub chars_there : (files : List ClassFile) (arrays : List (List ℕ)) → Contains arrays (codes "[C") → Contains (map (array_type files) arrays) chars_array
chars_there files arrays h =
    subst (Contains (map (array_type files) arrays)) (chars_typed files) (contains_map (array_type files) arrays (codes "[C") h)

-- ---- the array of Strings

string_placed : (n : ℕ) → place_from n built_in_names (codes "java/lang/String") ≡ Some (n + 21)
unfolding built_in_names
string_placed n = ap (λ k. Some k) (omega arith)

string_known : has_name built_in_names (codes "java/lang/String") ≡ true
unfolding built_in_names
string_known = refl

string_at : (files : List ClassFile) → doubled files ≡ None → place_of (class_names files) (codes "java/lang/String") ≡ Some (length files + 21)
string_at files single =
    right_place 0 (map name_of files) built_in_names (codes "java/lang/String") (files_apart files (codes "java/lang/String") single string_known)
    ∙ string_placed (0 + length (map name_of files))
    ∙ ap (λ k. Some k) (omega (arith, length-map files name_of))

pub strings_listed : (what : Listed) (files : List ClassFile) → Contains (listed_arrays what files) (codes "[Ljava/lang/String;")
unfolding descriptor_at method_at result_at only_field parameters_at field_at brackets element_at base_at class_at after_front name_len bad_place char_len
strings_listed what files =
    inserts_keep (insert_text (codes "[C" ∷ []) (codes "[Ljava/lang/String;")) (filter is_array_type (flat_map (listed_by_class what) files))
    (codes "[Ljava/lang/String;") (insert_has (codes "[C" ∷ []) (codes "[Ljava/lang/String;"))

abbrev strings_with : Option ℕ → ArrayType
strings_with o = record { descriptor = codes "[Ljava/lang/String;"; dimensions = 1; innermost = elim o as (λ x. Innermost) [ None ↦ Missing (codes "java/lang/String") | Some n ↦ Objects n ] }

strings_typed : (files : List ClassFile) → array_type files (codes "[Ljava/lang/String;") ≡ strings_with (place_of (class_names files) (codes "java/lang/String"))
unfolding descriptor_at method_at result_at only_field parameters_at field_at brackets element_at base_at class_at after_front name_len bad_place char_len
strings_typed files = refl

pub strings_there : (files : List ClassFile) (arrays : List (List ℕ)) → doubled files ≡ None → Contains arrays (codes "[Ljava/lang/String;")
    → Contains (map (array_type files) arrays) (arguments_array (length files))
strings_there files arrays single h =
    subst (Contains (map (array_type files) arrays)) (strings_typed files ∙ ap strings_with (string_at files single))
    (contains_map (array_type files) arrays (codes "[Ljava/lang/String;") h)
