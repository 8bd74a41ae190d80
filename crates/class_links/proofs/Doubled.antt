-- Names that are there already.
use Rattle.std.proofs.Common.{◌≡◌, ℕ, ◌+◌, ◌<◌, true, false, List, [], ◌∷◌, ◌++◌, Option, Some, None, map, take, drop, length}
use Rattle.std.proofs.Common.{slice_index_or, refl, ap, sym, ◌∙◌, ◌||◌, if◌then◌else◌}
use Rattle.std.specs.Prelude.{is_some}
use Rattle.std.specs.Option.{option_map, option_to_list}
use Rattle.std.specs.Str.{bytes_eq}
use Rattle.std.proofs.lemmas.Bool.{or_left, or_right, false≢true}
use Rattle.std.proofs.lemmas.List.{drop_more, take_more}
use Rattle.class_file.specs.declared.class.ClassFile.{ClassFile}
use Rattle.class_links.specs.declared.names.Flags.{Flags}
use Rattle.class_links.specs.Names.{NamedClass, name_of, has_name, find_known, file_from}
use Rattle.class_links.specs.Links.{doubled_after}
use Rattle.class_links.specs.Found.{flags_of}

-- the names of the files' classes, the last first, and then those before
abbrev pub names_after : List (List ℕ) → List ClassFile → List (List ℕ)
names_after names [] = names
names_after names (c ∷ cs) = names_after (name_of c ∷ names) cs

pub names_after-push : (names : List (List ℕ)) (files : List ClassFile) (c : ClassFile)
    → names_after names (files ++ c ∷ []) ≡ name_of c ∷ names_after names files
names_after-push names [] c = refl
names_after-push names (b ∷ bs) c = names_after-push (name_of b ∷ names) bs c

pub has_name-kept : (names : List (List ℕ)) (files : List ClassFile) (name : List ℕ) → has_name names name ≡ true
    → has_name (names_after names files) name ≡ true
has_name-kept names [] name h = h
has_name-kept names (c ∷ cs) name h =
    has_name-kept (name_of c ∷ names) cs name (or_right (bytes_eq (name_of c) name) (has_name names name) h)

pub has_name-file : (names : List (List ℕ)) (files : List ClassFile) (name : List ℕ) (m n : ℕ) → n ∷ [] ≡ file_from m files name
    → has_name (names_after names files) name ≡ true
has_name-file names [] name m n h = absurd (cc)
has_name-file names (c ∷ cs) name m n h =
    elim (bytes_eq (name_of c) name) as (λ b. bytes_eq (name_of c) name ≡ b → n ∷ [] ≡ (if b then m ∷ [] else file_from (m + 1) cs name)
    → has_name (names_after (name_of c ∷ names) cs) name ≡ true) [
      | true ↦ λ e f. has_name-kept (name_of c ∷ names) cs name (or_left (bytes_eq (name_of c) name) (has_name names name) e)
      | false ↦ λ e f. has_name-file (name_of c ∷ names) cs name (m + 1) n f
    ] refl h

pub has_name-none : (names : List (List ℕ)) (files : List ClassFile) (name : List ℕ) (m : ℕ) → has_name names name ≡ false
    → [] ≡ file_from m files name → has_name (names_after names files) name ≡ false
has_name-none names [] name m h f = h
has_name-none names (c ∷ cs) name m h f =
    elim (bytes_eq (name_of c) name) as (λ b. bytes_eq (name_of c) name ≡ b → [] ≡ (if b then m ∷ [] else file_from (m + 1) cs name)
    → has_name (names_after (name_of c ∷ names) cs) name ≡ false) [
      | true ↦ λ e g. absurd (cc)
      | false ↦ λ e g. has_name-none (name_of c ∷ names) cs name (m + 1) (rw (e, h) refl) g
    ] refl f

has_name-known : (ks : List NamedClass) (name : List ℕ) → has_name (map (λ (k : NamedClass). k.name) ks) name ≡ is_some (find_known ks name)
has_name-known [] name = refl
has_name-known (k ∷ ks) name =
    elim (bytes_eq k.name name) as (λ b. (b || has_name (map (λ (j : NamedClass). j.name) ks) name) ≡ is_some (if b then Some k else find_known ks name))
    [ true ↦ refl | false ↦ has_name-known ks name ]

is_some-flags : (o : Option NamedClass) → is_some (option_map flags_of o) ≡ is_some o
is_some-flags None = refl
is_some-flags (Some k) = refl

-- a name is among those of known classes exactly where flags are known by it
pub has_name-flags : (ks : List NamedClass) (name : List ℕ) (o : Option Flags) → o ≡ option_map flags_of (find_known ks name)
    → has_name (map (λ (k : NamedClass). k.name) ks) name ≡ is_some o
has_name-flags ks name o e = has_name-known ks name ∙ sym (is_some-flags (find_known ks name)) ∙ ap (λ p. is_some p) (sym e)

-- a name that has a number is there
pub has_name-numbered : (names : List (List ℕ)) (files : List ClassFile) (name : List ℕ) (o : Option ℕ) → is_some o ≡ true
    → option_to_list o ≡ file_from 0 files name → has_name (names_after names files) name ≡ true
has_name-numbered names files name None h e = absurd (false≢true h)
has_name-numbered names files name (Some n) h e = has_name-file names files name 0 n e

pub numbered-none : (files : List ClassFile) (name : List ℕ) (o : Option ℕ) → is_some o ≡ false
    → option_to_list o ≡ file_from 0 files name → [] ≡ file_from 0 files name
numbered-none files name None h e = e
numbered-none files name (Some n) h e = absurd (false≢true (sym h))

-- ---- the first file whose class has a name that is there already
pub doubled_after-here : (names : List (List ℕ)) (files : List ClassFile) (i : ℕ) (c : ClassFile) → i < length files
    → c ≡ slice_index_or files i c → has_name names (name_of c) ≡ true → doubled_after names (drop i files) ≡ Some (name_of c)
doubled_after-here names files i c l at h = rw (drop_more files i c l, ← at, h) refl

pub doubled_after-next : (names : List (List ℕ)) (files : List ClassFile) (i : ℕ) (c : ClassFile) → i < length files
    → c ≡ slice_index_or files i c → has_name (names_after names (take i files)) (name_of c) ≡ false
    → doubled_after (names_after names (take i files)) (drop i files)
    ≡ doubled_after (names_after names (take (i + 1) files)) (drop (i + 1) files)
doubled_after-next names files i c l at h =
    rw (drop_more files i c l, take_more files i c l, ← at, names_after-push names (take i files) c, h) refl
