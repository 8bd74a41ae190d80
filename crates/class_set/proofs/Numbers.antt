-- The names of linked classes differ, so that each has a number.
use Rattle.std.proofs.Common.{◌≡◌, ℕ, ◌+◌, ◌≤◌, Bool, true, false, List, [], ◌∷◌, ◌++◌, Option, Some, None, map, length, refl}
use Rattle.std.proofs.Common.{ap, sym, ◌∙◌, arith, append_assoc, append-nil, subst, if◌then◌else◌, ◌||◌, ◌&&◌, not}
use Rattle.std.specs.Prelude.{is_some}
use Rattle.std.specs.Str.{bytes_eq}
use Rattle.std.specs.Cmp.Lexicographic.{nat_list_eq_equiv}
use Rattle.std.proofs.lemmas.Bool.{false≢true, or_right}
use Rattle.std.proofs.lemmas.Slice.Eq.{bytes_eq-Decides}
use Rattle.std.proofs.lemmas.List.{length_push}
use Rattle.class_file.specs.declared.class.ClassFile.{ClassFile}
use Rattle.built_in_table.specs.Members.{built_in_names}
use Rattle.class_links.specs.Names.{NamedClass, name_of, has_name, built_in}
use Rattle.class_links.specs.Links.{doubled, doubled_after}
use Rattle.text_table.specs.Texts.{place_from, place_of, with_text, with_texts}

pub length-with_text : (texts : List (List ℕ)) (text : List ℕ) → length (with_text texts text) ≤ length texts + 1
length-with_text texts text =
    elim (is_some (place_of texts text)) as (λ b. length (if b then texts else texts ++ text ∷ []) ≤ length texts + 1)
    [ true ↦ omega arith | false ↦ omega (arith, length_push texts text) ]

pub with_texts-append : (texts one other : List (List ℕ)) → with_texts (with_texts texts one) other ≡ with_texts texts (one ++ other)
with_texts-append texts [] other = refl
with_texts-append texts (t ∷ ts) other = with_texts-append (with_text texts t) ts other

-- none of the texts is among those before it
abbrev pub AreNew : (before texts : List (List ℕ)) → Type 0
AreNew before [] = Unit {0}
AreNew before (t ∷ ts) = (place_of before t ≡ None) × AreNew (before ++ t ∷ []) ts

pub with_texts-new : (before texts : List (List ℕ)) → AreNew before texts → with_texts before texts ≡ before ++ texts
with_texts-new before [] h = sym (append-nil before)
with_texts-new before (t ∷ ts) h = rw h.0 (with_texts-new (before ++ t ∷ []) ts h.1 ∙ append_assoc before (t ∷ []) ts)

-- ---- names that are there

pub place-has : (n : ℕ) (texts : List (List ℕ)) (text : List ℕ) → is_some (place_from n texts text) ≡ has_name texts text
place-has n [] text = refl
place-has n (t ∷ ts) text =
    elim (bytes_eq t text) as (λ b. is_some (if b then Some n else place_from (n + 1) ts text) ≡ (b || has_name ts text))
    [ true ↦ refl | false ↦ place-has (n + 1) ts text ]

none_of : (o : Option ℕ) → is_some o ≡ false → o ≡ None
none_of None h = refl
none_of (Some n) h = absurd (false≢true (sym h))

pub not_placed : (texts : List (List ℕ)) (text : List ℕ) → has_name texts text ≡ false → place_of texts text ≡ None
not_placed texts text h = none_of (place_of texts text) (place-has 0 texts text ∙ h)

pub has_name-append : (one other : List (List ℕ)) (text : List ℕ) → has_name (one ++ other) text ≡ (has_name one text || has_name other text)
has_name-append [] other text = refl
has_name-append (t ∷ ts) other text =
    elim (bytes_eq t text) as (λ b. (b || has_name (ts ++ other) text) ≡ ((b || has_name ts text) || has_name other text))
    [ true ↦ refl | false ↦ has_name-append ts other text ]

same_name : (xs ys : List ℕ) → bytes_eq xs ys ≡ true → xs ≡ ys
same_name xs ys e = (bytes_eq-Decides xs ys).0 e

has_itself : (text : List ℕ) (texts : List (List ℕ)) → has_name (text ∷ texts) text ≡ true
has_itself text texts = rw (nat_list_eq_equiv.refl text) refl

-- texts that are new behind some are new behind others too that have none of them
new-behind : (others before texts : List (List ℕ)) → ((t : List ℕ) → has_name texts t ≡ true → has_name others t ≡ false)
    → AreNew before texts → AreNew (others ++ before) texts
new-behind others before [] apart h = tt
new-behind others before (t ∷ ts) apart h = (
  not_placed (others ++ before) t
      (has_name-append others before t ∙ rw (apart t (has_itself t ts)) (sym (place-has 0 before t) ∙ ap (λ o. is_some o) h.0)),
  rw (append_assoc others before (t ∷ []))
      (new-behind others (before ++ t ∷ []) ts (λ q e. apart q (or_right (bytes_eq t q) (has_name ts q) e)) h.1),
)

pub new-append : (before one other : List (List ℕ)) → AreNew before one → AreNew (before ++ one) other → AreNew before (one ++ other)
new-append before [] other h k = subst (λ b. AreNew b other) (append-nil before) k
new-append before (t ∷ ts) other h k =
    (h.0, new-append (before ++ t ∷ []) ts other h.1 (subst (λ b. AreNew b other) (sym (append_assoc before (t ∷ []) ts)) k))

or_false_left : (a b : Bool) → (a || b) ≡ false → a ≡ false
or_false_left true b h = h
or_false_left false b h = refl

or_false_right : (a b : Bool) → (a || b) ≡ false → b ≡ false
or_false_right true b h = absurd (false≢true (sym h))
or_false_right false b h = h

-- ---- files whose classes have names of their own

-- where no file has a name that is known, each name is new
files-new : (known before : List (List ℕ)) (files : List ClassFile) → ((t : List ℕ) → has_name known t ≡ false → has_name before t ≡ false)
    → doubled_after known files ≡ None → AreNew before (map name_of files)
files-new known before [] fewer h = tt
files-new known before (c ∷ cs) fewer h =
    elim (has_name known (name_of c)) as (λ b. has_name known (name_of c) ≡ b
    → (if b then Some (name_of c) else doubled_after (name_of c ∷ known) cs) ≡ None → AreNew before (map name_of (c ∷ cs))) [
      | true ↦ λ e f. absurd (cc)
      | false ↦ λ e f. (not_placed before (name_of c) (fewer (name_of c) e), files-new (name_of c ∷ known) (before ++ name_of c ∷ []) cs (still c) f)
    ] refl h
  where
    still : (c : ClassFile) (t : List ℕ) → has_name (name_of c ∷ known) t ≡ false → has_name (before ++ name_of c ∷ []) t ≡ false
    still c t e =
        has_name-append before (name_of c ∷ []) t
        ∙ rw (fewer t (or_false_right (bytes_eq (name_of c) t) (has_name known t) e), or_false_left (bytes_eq (name_of c) t) (has_name known t) e) refl

-- no file has a name that is known
files-apart : (known : List (List ℕ)) (files : List ClassFile) (t : List ℕ) → doubled_after known files ≡ None → has_name known t ≡ true
    → has_name (map name_of files) t ≡ false
files-apart known [] t h k = refl
files-apart known (c ∷ cs) t h k =
    elim (has_name known (name_of c)) as (λ b. has_name known (name_of c) ≡ b
    → (if b then Some (name_of c) else doubled_after (name_of c ∷ known) cs) ≡ None → has_name (map name_of (c ∷ cs)) t ≡ false) [
      | true ↦ λ e f. absurd (cc)
      | false ↦ λ e f. elim (bytes_eq (name_of c) t) as (λ b. bytes_eq (name_of c) t ≡ b → (b || has_name (map name_of cs) t) ≡ false) [
        | true ↦ λ s. absurd (false≢true (sym e ∙ ap (has_name known) (same_name (name_of c) t s) ∙ k))
        | false ↦ λ s. files-apart (name_of c ∷ known) cs t f (or_right (bytes_eq (name_of c) t) (has_name known t) k)
      ] refl
    ] refl h

-- ---- the built-in classes

are_new : (before texts : List (List ℕ)) → Bool
are_new before [] = true
are_new before (t ∷ ts) = not (has_name before t) && are_new (before ++ t ∷ []) ts

not_true : (b : Bool) → not b ≡ true → b ≡ false
not_true true h = absurd (false≢true h)
not_true false h = refl

both_true : (a b : Bool) → (a && b) ≡ true → (a ≡ true) × (b ≡ true)
both_true true b h = (refl, h)
both_true false b h = absurd (false≢true h)

AreNew-test : (before texts : List (List ℕ)) → are_new before texts ≡ true → AreNew before texts
unfolding are_new
AreNew-test before [] h = tt
AreNew-test before (t ∷ ts) h =
    let e = both_true (not (has_name before t)) (are_new (before ++ t ∷ []) ts) h in
    (not_placed before t (not_true (has_name before t) e.0), AreNew-test (before ++ t ∷ []) ts e.1)

built_ins-new : AreNew [] built_in_names
unfolding built_in_names are_new
built_ins-new = AreNew-test [] built_in_names refl

known_names : map (λ (k : NamedClass). k.name) built_in ≡ built_in_names
unfolding built_in built_in_names
known_names = refl

pub names-new : (files : List ClassFile) → doubled files ≡ None → AreNew [] (map name_of files ++ built_in_names)
names-new files h =
    let single : doubled_after built_in_names files ≡ None = ap (λ known. doubled_after known files) (sym known_names) ∙ h in
    new-append [] (map name_of files) built_in_names (files-new built_in_names [] files (λ t e. refl) single)
    (subst (λ b. AreNew b built_in_names) (append-nil (map name_of files))
    (new-behind (map name_of files) [] built_in_names (λ t e. files-apart built_in_names files t single e) built_ins-new))

pub built_in_size : length built_in_names ≡ 28
unfolding built_in_names
built_in_size = refl

-- no file has the name of a built-in class
pub files_apart : (files : List ClassFile) (t : List ℕ) → doubled files ≡ None → has_name built_in_names t ≡ true → has_name (map name_of files) t ≡ false
files_apart files t h k = files-apart built_in_names files t (ap (λ known. doubled_after known files) (sym known_names) ∙ h) k
