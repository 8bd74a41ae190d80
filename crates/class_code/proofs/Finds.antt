-- What calls find by the numbers of signatures is what their look-up by name finds.
use Rattle.std.proofs.Common.{true, false, ◌≡◌, ℕ, suc, ◌+◌, ◌<◌, ◌≤◌, List, [], ◌∷◌, ◌++◌, Option, Some, None, map, length}
use Rattle.std.proofs.Common.{get_or, refl, ap, sym, ◌∙◌, if◌then◌else◌, eq-eqb, subst, arith}
use Rattle.std.specs.Prelude.{Bool, nat_eq, nat_lt, is_some}
use Rattle.std.specs.Option.{option_map}
use Rattle.std.specs.Str.{bytes_eq}
use Rattle.std.specs.Cmp.Lexicographic.{nat_list_eq_equiv}
use Rattle.std.proofs.lemmas.Bool.{false≢true}
use Rattle.std.proofs.lemmas.Bool.Decides.{nat_tests}
use Rattle.std.proofs.lemmas.List.{get_or-map, get_or_append_left, length-map, length_push}
use Rattle.std.proofs.lemmas.Slice.Eq.{bytes_eq-Decides}
use Rattle.class_file.specs.declared.class.ClassFile.{ClassFile}
use Rattle.run_types.specs.declared.resolved.MethodAt.{MethodAt}
use Rattle.built_in_table.specs.Members.{MemberFacts}
use Rattle.plain_model.specs.Facts.{superclasses_of}
use Rattle.text_table.specs.Texts.{with_text, with_texts, place_of}
use Rattle.text_table.specs.Texts.{place_from as text_from}
use Rattle.text_table.proofs.Places.{place_from-behind, place_from-kept}
use Rattle.class_set.specs.Linked.{Linked}
use Rattle.class_set.specs.Facts.{facts_of}
use Rattle.class_set.specs.Members.{own_methods}
use Rattle.class_set.specs.Lookups.{find_method, first_some, member_from, method_at, own_method}
use Rattle.frames.specs.declared.program.Dispatch.{Dispatch}
use Rattle.frames.specs.declared.program.Target.{Target}
use Rattle.class_code.specs.Classes.{dispatch_from, dispatch_to}
use Rattle.class_code.specs.Declarations.{declared_from, dispatch_in, found_along, found_among, has_signature, target_at}
use Rattle.class_code.specs.Entries.{Signature, is_same, place_from, rows_of, run_signature, signature_rows, signatures_of}
use Rattle.class_code.specs.Entries.{to_string_signature}
use Rattle.class_code.specs.Signatures.{signature_texts, text_of}
use Rattle.class_code.proofs.Signed.{placed, same_text, texts_with}

-- ---- each text has its own place

abbrev IsApart : List (List ℕ) → Type 0
IsApart texts = (k : ℕ) → k < length texts → text_from 0 texts (get_or texts k []) ≡ Some k

last_of : (texts : List (List ℕ)) (text : List ℕ) → get_or (texts ++ text ∷ []) (length texts) [] ≡ text
last_of [] text = refl
last_of (t ∷ ts) text = last_of ts text

push_apart : (texts : List (List ℕ)) (text : List ℕ) → place_of texts text ≡ None → IsApart texts → IsApart (texts ++ text ∷ [])
push_apart texts text new apart k l = one (nat_lt k (length texts)) refl
  where
    one : (b : Bool) → nat_lt k (length texts) ≡ b → text_from 0 (texts ++ text ∷ []) (get_or (texts ++ text ∷ []) k []) ≡ Some k
    one true e =
        let h : k < length texts = grind (arith, nat_tests) in
        ap (text_from 0 (texts ++ text ∷ [])) (get_or_append_left texts (text ∷ []) [] k h)
        ∙ place_from-kept 0 texts text (get_or texts k []) (ap is_some (apart k h)) ∙ apart k h
    one false e =
        let h : length texts ≤ k = grind (arith, nat_tests) in
        let same : k ≡ length texts = omega (arith, h, l, length_push texts text) in
        ap (λ n. text_from 0 (texts ++ text ∷ []) (get_or (texts ++ text ∷ []) n [])) same
        ∙ ap (text_from 0 (texts ++ text ∷ [])) (last_of texts text)
        ∙ place_from-behind 0 texts text text new
        ∙ ap (λ b. if b then Some (0 + length texts) else None) (nat_list_eq_equiv.refl text)
        ∙ ap Some (omega (arith, same))

none_of : (o : Option ℕ) → is_some o ≡ false → o ≡ None
none_of None h = refl
none_of (Some n) h = absurd (false≢true (sym h))

with_apart : (texts others : List (List ℕ)) → IsApart texts → IsApart (with_texts texts others)
with_apart texts [] apart = apart
with_apart texts (t ∷ ts) apart = with_apart (with_text texts t) ts (one (is_some (place_of texts t)) refl)
  where
    one : (b : Bool) → is_some (place_of texts t) ≡ b → IsApart (if b then texts else texts ++ t ∷ [])
    one true e = apart
    one false e = push_apart texts t (none_of (place_of texts t) e) apart

texts_apart : (files : List ClassFile) → IsApart (signature_texts files)
texts_apart files =
    let two = map text_of (run_signature ∷ to_string_signature ∷ []) in
    subst IsApart (sym (texts_with (run_signature ∷ to_string_signature ∷ []) (rows_of signature_rows files)))
    (with_apart two (map text_of (rows_of signature_rows files)) (with_apart [] two (λ k l. absurd (omega (arith, l)))))

pub own_place : (files : List ClassFile) (k : ℕ) (d : Signature) → k < length (signatures_of files)
    → place_from 0 (signatures_of files) (get_or (signatures_of files) k d) ≡ Some k
own_place files k d l =
    let known = signatures_of files in
    let size = length-map known text_of in
    sym (placed 0 known (get_or known k d))
    ∙ ap (text_from 0 (signature_texts files)) (sym (get_or-map text_of known k d [] l))
    ∙ texts_apart files k (omega (arith, l, size))

-- ---- a place tells its text

place_low : (n k : ℕ) (texts : List (List ℕ)) (text : List ℕ) → text_from n texts text ≡ Some k → n ≤ k
place_low n k [] text e = let no : ⊥ = cc in absurd no
place_low n k (t ∷ ts) text e = one (λ h. place_low (n + 1) k ts text h) (bytes_eq t text) e
  where
    one : (text_from (n + 1) ts text ≡ Some k → n + 1 ≤ k) → (b : Bool) → (if b then Some n else text_from (n + 1) ts text) ≡ Some k → n ≤ k
    one next true e = let same : n ≡ k = cc in omega (arith, same)
    one next false e = let low = next e in omega (arith, low)

same_bytes : (a b : List ℕ) → bytes_eq a b ≡ true → a ≡ b
same_bytes a b e = (bytes_eq-Decides a b).0 e

same_place : (n k : ℕ) (texts : List (List ℕ)) (a b : List ℕ) → text_from n texts a ≡ Some k → text_from n texts b ≡ Some k → a ≡ b
same_place n k [] a b e f = let no : ⊥ = cc in absurd no
same_place n k (t ∷ ts) a b e f = one (λ x y. same_place (n + 1) k ts a b x y) (bytes_eq t a) refl (bytes_eq t b) refl e f
  where
    one : (text_from (n + 1) ts a ≡ Some k → text_from (n + 1) ts b ≡ Some k → a ≡ b) → (p : Bool) → bytes_eq t a ≡ p →
        (q : Bool) → bytes_eq t b ≡ q → (if p then Some n else text_from (n + 1) ts a) ≡ Some k
        → (if q then Some n else text_from (n + 1) ts b) ≡ Some k → a ≡ b
    one next true x true y e f = sym (same_bytes t a x) ∙ same_bytes t b y
    one next true x false y e f =
        let same : n ≡ k = cc in let low = place_low (n + 1) k ts b f in absurd (omega (arith, same, low))
    one next false x true y e f =
        let same : n ≡ k = cc in let low = place_low (n + 1) k ts a e in absurd (omega (arith, same, low))
    one next false x false y e f = next e f

numbered_so : (known : List Signature) (t s : Signature) (k : ℕ) → place_from 0 known s ≡ Some k
    → has_signature k (place_from 0 known t) ≡ is_same t s
numbered_so known t s k e = one (is_same t s) refl
  where
    other : (j : ℕ) → place_from 0 known t ≡ Some j → is_same t s ≡ false → (b : Bool) → nat_eq j k ≡ b → nat_eq j k ≡ false
    other j f h true g =
        let same : j ≡ k = grind (arith, nat_tests) in
        let equal = same_place 0 k (map text_of known) (text_of t) (text_of s) (placed 0 known t ∙ f ∙ ap Some same) (placed 0 known s ∙ e) in
        absurd (false≢true (sym h ∙ sym (same_text t s) ∙ ap (λ x. bytes_eq x (text_of s)) equal ∙ nat_list_eq_equiv.refl (text_of s)))
    other j f h false g = g

    two : (o : Option ℕ) → place_from 0 known t ≡ o → is_same t s ≡ false → has_signature k o ≡ false
    two None f h = refl
    two (Some j) f h = other j f h (nat_eq j k) refl

    one : (b : Bool) → is_same t s ≡ b → has_signature k (place_from 0 known t) ≡ is_same t s
    one true h =
        let equal = same_bytes (text_of t) (text_of s) (same_text t s ∙ h) in
        let at = sym (placed 0 known t) ∙ ap (text_from 0 (map text_of known)) equal ∙ placed 0 known s ∙ e in
        ap (has_signature k) at ∙ eq-eqb k k refl ∙ sym h
    one false h = two (place_from 0 known t) refl h ∙ sym h

-- ---- one class, and the classes above it

found_own : (set : Linked) (k : ℕ) (s : Signature) → place_from 0 (signatures_of set.files) s ≡ Some k → (class n : ℕ) (ms : List MemberFacts)
    → found_among k (declared_from set class n ms) ≡ option_map (target_at set) (method_at class (member_from n ms s.name s.descriptor))
found_own set k s e class n [] = refl
found_own set k s e class n (m ∷ ms) =
    let t : Signature = record { name = m.name; descriptor = m.descriptor } in
    let here : Option Target = Some (target_at set (record { class = class; method = n; is_static = m.is_static })) in
    ap (λ b. if b then here else found_among k (declared_from set class (n + 1) ms)) (numbered_so (signatures_of set.files) t s k e)
    ∙ one (found_own set k s e class (n + 1) ms) (is_same t s)
  where
    one : found_among k (declared_from set class (n + 1) ms) ≡ option_map (target_at set) (method_at class (member_from (n + 1) ms s.name s.descriptor))
        → (b : Bool) → (if b then Some (target_at set (record { class = class; method = n; is_static = m.is_static }))
        else found_among k (declared_from set class (n + 1) ms))
        ≡ option_map (target_at set) (method_at class (if b then Some (n, m) else member_from (n + 1) ms s.name s.descriptor))
    one next true = refl
    one next false = next

some_or : {A B : Type 0} (f : A → B) (o : Option A) (rest : Option A) (other : Option B) → other ≡ option_map f rest
    → (elim (option_map f o) [ None ↦ other | Some y ↦ Some y ]) ≡ option_map f (elim o [ None ↦ rest | Some y ↦ Some y ])
some_or f None rest other e = e
some_or f (Some x) rest other e = refl

found_up : (set : Linked) (k : ℕ) (s : Signature) → place_from 0 (signatures_of set.files) s ≡ Some k → (ns : List ℕ)
    → found_along set k ns ≡ option_map (target_at set) (first_some (own_method set s.name s.descriptor) ns)
found_up set k s e [] = refl
found_up set k s e (n ∷ ns) =
    ap (λ (o : Option Target). elim o [ None ↦ found_along set k ns | Some y ↦ Some y ]) (found_own set k s e n 0 (own_methods set n))
    ∙ some_or (target_at set) (own_method set s.name s.descriptor n) (first_some (own_method set s.name s.descriptor) ns) (found_along set k ns)
    (found_up set k s e ns)

-- ---- the rows of a class

row_in : ℕ → Option Target → List Dispatch
row_in n None = []
row_in n (Some t) = record { signature = n; target = t } ∷ []

one_row : (n : ℕ) (t : Option Target) (ts : List (Option Target)) → dispatch_in n (t ∷ ts) ≡ row_in n t ++ dispatch_in (suc n) ts
unfolding row_in
one_row n None ts = refl
one_row n (Some t) ts = refl

row_to : (set : Linked) (n : ℕ) (o : Option MethodAt) → row_in n (option_map (target_at set) o) ≡ dispatch_to set n o
unfolding row_in
row_to set n None = refl
row_to set n (Some m) = refl

abbrev AreFound : Linked → ℕ → List (Option Target) → List Signature → Type 0
AreFound set class ts ss = (k : ℕ) (d : Signature) → k < length ss
    → get_or ts k None ≡ option_map (target_at set) (find_method set class (get_or ss k d).name (get_or ss k d).descriptor)

rows : (set : Linked) (class n : ℕ) (ts : List (Option Target)) (ss : List Signature) → length ts ≡ length ss → AreFound set class ts ss
    → dispatch_in n ts ≡ dispatch_from set class n ss
rows set class n [] [] e h = refl
rows set class n [] (s ∷ ss) e h = absurd (omega (arith, e))
rows set class n (t ∷ ts) [] e h = absurd (omega (arith, e))
rows set class n (t ∷ ts) (s ∷ ss) e h =
    one_row n t ts
    ∙ ap (λ o. row_in n o ++ dispatch_in (suc n) ts) (h 0 s (omega arith))
    ∙ ap (λ r. r ++ dispatch_in (suc n) ts) (row_to set n (find_method set class s.name s.descriptor))
    ∙ ap (λ r. dispatch_to set n (find_method set class s.name s.descriptor) ++ r)
    (rows set class (suc n) ts ss (omega (arith, e)) (λ k d l. h (suc k) d (omega (arith, l))))

-- what calls find from a class on makes its rows
pub dispatch_is : (set : Linked) (class count : ℕ) (ts : List (Option Target)) → count ≡ length (signature_texts set.files) → length ts ≡ count
    → ((n : ℕ) → n < count → get_or ts n None ≡ found_along set n (superclasses_of (facts_of set) class))
    → dispatch_in 0 ts ≡ dispatch_from set class 0 (signatures_of set.files)
dispatch_is set class count ts counted size h =
    let known = signatures_of set.files in
    let all = length-map known text_of in
    rows set class 0 ts known (omega (arith, size, counted, all)) (λ k d l.
    h k (omega (arith, l, counted, all))
    ∙ found_up set k (get_or known k d) (own_place set.files k d l) (superclasses_of (facts_of set) class))
