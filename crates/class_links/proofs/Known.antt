-- What is known of classes by their names.
use Rattle.std.proofs.Common.{◌≡◌, ℕ, suc, ◌+◌, ◌<◌, rules, Bool, true, false, List, [], ◌∷◌, ◌++◌, Some, map, length}
use Rattle.std.proofs.Common.{slice_index_or, arith, refl, ap, sym, ◌∙◌, cond, if◌then◌else◌}
use Rattle.std.specs.Borrow.{Bor}
use Rattle.std.specs.Option.{option_map, option_to_list}
use Rattle.std.specs.Ordering.{nat_cmp}
use Rattle.std.specs.Cmp.Lexicographic.{slice_cmp}
use Rattle.std.specs.Str.{bytes_eq}
use Rattle.std.specs.BTreeMap.{BTreeMap, get_by, Updates}
use Rattle.std.proofs.lemmas.Map.Text.{is_eq-slice_cmp}
use Rattle.std.proofs.lemmas.Slice.Eq.{bytes_eq-Decides}
use Rattle.class_file.specs.declared.class.ClassFile.{ClassFile}
use Rattle.class_links.specs.Names.{NamedClass, name_of, is_interface, is_final, known_of, built_in, known_classes, find_known}
use Rattle.class_links.specs.Names.{file_from}
use Rattle.class_links.specs.Found.{flags_of, AreNumbers}

-- where a first file has a class of the name, that class is known by it
pub find_known-first : (ks : List NamedClass) (name : List ℕ) (files : List ClassFile) (m n : ℕ) → file_from m files name ≡ n ∷ []
    → (k : ℕ) × (n ≡ m + k) × (k < length files)
    × ((d : ClassFile) → find_known (map known_of files ++ ks) name ≡ Some (known_of (slice_index_or files k d)))
find_known-first ks name [] m n h = absurd (cc)
find_known-first ks name (c ∷ cs) m n h =
    elim (bytes_eq (name_of c) name) as (λ b. (if b then m ∷ [] else file_from (m + 1) cs name) ≡ n ∷ []
    → (k : ℕ) × (n ≡ m + k) × (k < length (c ∷ cs))
    × ((d : ClassFile) → (if b then Some (known_of c) else find_known (map known_of cs ++ ks) name)
    ≡ Some (known_of (slice_index_or (c ∷ cs) k d)))) [
      | true ↦ λ e. (0, (let f : m ≡ n = cc in omega (arith, f)), omega arith, λ d. refl)
      | false ↦ λ e. let p = find_known-first ks name cs (m + 1) n e in (suc p.0, omega (arith, p.1), omega (arith, p.2), λ d. p.3 d)
    ] h

-- where none has, a class before the files is known by the name, if any
pub find_known-none : (ks : List NamedClass) (name : List ℕ) (files : List ClassFile) (m : ℕ) → file_from m files name ≡ []
    → find_known (map known_of files ++ ks) name ≡ find_known ks name
find_known-none ks name [] m h = refl
find_known-none ks name (c ∷ cs) m h =
    elim (bytes_eq (name_of c) name) as (λ b. (if b then m ∷ [] else file_from (m + 1) cs name) ≡ []
    → (if b then Some (known_of c) else find_known (map known_of cs ++ ks) name) ≡ find_known ks name)
    [ true ↦ λ e. absurd (cc) | false ↦ λ e. find_known-none ks name cs (m + 1) e ] h

pub flags_at : (files : List ClassFile) (name : List ℕ) (n : ℕ) (file : ClassFile) (interface final : Bool)
    → n ∷ [] ≡ file_from 0 files name → file ≡ slice_index_or files n file → interface ≡ is_interface file → final ≡ is_final file
    → Some (record { is_interface = interface; is_final = final }) ≡ option_map flags_of (find_known (known_classes files) name)
flags_at files name n file interface final h at i f =
    let p = find_known-first built_in name files 0 n (sym h) in
    let e : p.0 ≡ n = omega (arith, p.1) in
    let same : slice_index_or files p.0 file ≡ file = ap (λ k. slice_index_or files k file) e ∙ sym at in
    rw (p.3 file, same, i, f) refl

-- ---- one file more
file_from-new : (files : List ClassFile) (m : ℕ) (c : ClassFile) (name : List ℕ) → file_from m files name ≡ []
    → bytes_eq (name_of c) name ≡ true → file_from m (files ++ c ∷ []) name ≡ (m + length files) ∷ []
file_from-new [] m c name h e = rw e (ap (λ n. n ∷ []) (omega arith))
file_from-new (b ∷ bs) m c name h e =
    elim (bytes_eq (name_of b) name) as (λ t. (if t then m ∷ [] else file_from (m + 1) bs name) ≡ []
    → (if t then m ∷ [] else file_from (m + 1) (bs ++ c ∷ []) name) ≡ (m + length (b ∷ bs)) ∷ []) [
      | true ↦ λ f. absurd (cc)
      | false ↦ λ f. file_from-new bs (m + 1) c name f e ∙ ap (λ n. n ∷ []) (omega arith)
    ] h

file_from-other : (files : List ClassFile) (m : ℕ) (c : ClassFile) (name : List ℕ) → bytes_eq (name_of c) name ≡ false
    → file_from m (files ++ c ∷ []) name ≡ file_from m files name
file_from-other [] m c name e = rw e refl
file_from-other (b ∷ bs) m c name e =
    ap (λ ns. if bytes_eq (name_of b) name then m ∷ [] else ns) (file_from-other bs (m + 1) c name e)

same_text : (xs ys : List ℕ) → bytes_eq xs ys ≡ true → xs ≡ ys
same_text xs ys e = search (rules, bytes_eq-Decides)

pub AreNumbers-push : (files : List ClassFile) (c : ClassFile) (key : Bor (List ℕ)) (n : ℕ) (before after : BTreeMap (Bor (List ℕ)) ℕ)
    → AreNumbers files before → key.now ≡ name_of c → n ≡ length files → file_from 0 files (name_of c) ≡ []
    → Updates (λ x y. slice_cmp nat_cmp x.now y.now) before after key (Some n) → AreNumbers (files ++ c ∷ []) after
AreNumbers-push files c key n before after are is size new updates name =
    let q : Bor (List ℕ) = record { ref_ptr = key.ref_ptr; now = name } in
    let at = get_by (λ k. slice_cmp nat_cmp name k.now) before in
    let found : get_by (λ k. slice_cmp nat_cmp name k.now) after ≡ cond (bytes_eq (name_of c) name) (Some n) at =
    updates.0 q ∙ ap (λ b. cond b (Some n) at) (is_eq-slice_cmp key.now name ∙ ap (λ xs. bytes_eq xs name) is) in
    ap option_to_list found
    ∙ elim (bytes_eq (name_of c) name) as (λ b. bytes_eq (name_of c) name ≡ b
    → option_to_list (cond b (Some n) at) ≡ file_from 0 (files ++ c ∷ []) name) [
      | true ↦ λ e. let none : file_from 0 files name ≡ [] = ap (file_from 0 files) (sym (same_text (name_of c) name e)) ∙ new in
          ap (λ k. k ∷ []) (omega (arith, size)) ∙ sym (file_from-new files 0 c name none e)
      | false ↦ λ e. are name ∙ sym (file_from-other files 0 c name e)
    ] refl
