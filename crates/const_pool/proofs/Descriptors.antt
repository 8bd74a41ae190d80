-- Reading a descriptor from its front: the loops.
use Rattle.std.proofs.Common.{◌≡◌, ◌≢◌, ℕ, zero, suc, ◌+◌, ◌-◌, ◌≤◌, ◌<◌, Bool, true, false, cond, eqb, List, [], ◌∷◌, ◌++◌}
use Rattle.std.proofs.Common.{length, get_or, drop, Option, Some, None, Result, Ok, Err, refl, sym, ap, subst, ◌∙◌, ◌⊎◌, inl}
use Rattle.std.proofs.Common.{inr, arith}
use Rattle.std.specs.Prelude.{IfOk}
use Rattle.std.specs.Option.{option_map}
use Rattle.std.proofs.lemmas.Bool.{cond-false, eq-eqb, ne_eqb}
use Rattle.std.proofs.lemmas.List.{append-nil, length-append, drop_more, drop_all}
use Rattle.parsing.specs.Options.{◌>>=◌}
use Rattle.parsing.proofs.Options.{some, with_front, regroup}
use Rattle.const_pool.specs.declared.descriptor.FieldType.{FieldType}
use Rattle.const_pool.specs.declared.descriptor.DescriptorRefusal.{DescriptorRefusal}
use Rattle.const_pool.specs.declared.descriptor.DescriptorRefusal.TheVariants as refusal
use Rattle.const_pool.specs.Utf8.{IsModifiedUtf8}
use Rattle.const_pool.specs.declared.descriptor.Descriptor.{Descriptor}
use Rattle.const_pool.specs.Descriptor.{field_bytes, descriptor_bytes, IsDescriptor}
use Rattle.const_pool.specs.Parsing.{Gives, descriptor_at, after_byte, name_len, after_front, brackets, field_at, parameters_at}
use Rattle.const_pool.proofs.Grammar.{front_some, parameter_more, field_takes, field_long, Describes, descriptor_takes}
use Rattle.const_pool.proofs.Grammar.{descriptor_found}

-- ---- the length of a class name

-- a length that is counted from further on
abbrev pub further : ℕ → Option ℕ → Option ℕ
further n None = None
further n (Some len) = Some (n + len)

further-suc : (n : ℕ) (o : Option ℕ) → further n (option_map suc o) ≡ further (n + 1) o
further-suc n None = refl
further-suc n (Some len) = let same : n + suc len ≡ n + 1 + len = omega arith in ap (λ (k : ℕ). Some k) same

-- the next byte goes on with the name
name_more : (fresh next : Bool) (b : ℕ) (rest : List ℕ) (n : ℕ) → b ≢ 59 → after_byte fresh b ≡ Some next
    → further n (name_len fresh (b ∷ rest)) ≡ further (n + 1) (name_len next rest)
unfolding name_len
name_more fresh next b rest n p e =
    let e1 = cond-false (eqb b 59) (cond fresh None (Some 0)) (after_byte fresh b >>= λ next. option_map suc (name_len next rest)) (ne_eqb b 59 p) in
    let e2 : (after_byte fresh b >>= λ next. option_map suc (name_len next rest)) ≡ option_map suc (name_len next rest) =
    ap (λ (o : Option Bool). o >>= λ next. option_map suc (name_len next rest)) e in
    ap (further n) (e1 ∙ e2) ∙ further-suc n (name_len next rest)

name_barred : (fresh : Bool) (b : ℕ) (rest : List ℕ) (n : ℕ) → b ≢ 59 → after_byte fresh b ≡ None
    → further n (name_len fresh (b ∷ rest)) ≡ None
unfolding name_len
name_barred fresh b rest n p e =
    let e1 = cond-false (eqb b 59) (cond fresh None (Some 0)) (after_byte fresh b >>= λ next. option_map suc (name_len next rest)) (ne_eqb b 59 p) in
    ap (further n) (e1 ∙ ap (λ (o : Option Bool). o >>= λ next. option_map suc (name_len next rest)) e)

name_ends : (rest : List ℕ) (n : ℕ) → further n (name_len false (59 ∷ rest)) ≡ Some n
unfolding name_len
name_ends rest n = let same : n + 0 ≡ n = omega arith in ap (λ (k : ℕ). some k) same

name_empty : (rest : List ℕ) (n : ℕ) → further n (name_len true (59 ∷ rest)) ≡ None
unfolding name_len
name_empty rest n = refl

name_nil : (fresh : Bool) (n : ℕ) → further n (name_len fresh []) ≡ None
unfolding name_len
name_nil fresh n = refl

-- the same at a place of the bytes
at_place : (fresh : Bool) (bytes : List ℕ) (i : ℕ) → i < length bytes
    → further i (name_len fresh (drop i bytes)) ≡ further i (name_len fresh (get_or bytes i 0 ∷ drop (i + 1) bytes))
at_place fresh bytes i lt = ap (λ (t : List ℕ). further i (name_len fresh t)) (drop_more bytes i 0 lt)

pub goes_on : (fresh next : Bool) (bytes : List ℕ) (i b : ℕ) → i < length bytes → b ≡ get_or bytes i 0
    → b ≢ 59 → Some next ≡ after_byte fresh b
    → further (i + 1) (name_len next (drop (i + 1) bytes)) ≡ further i (name_len fresh (drop i bytes))
goes_on fresh next bytes i b lt is p e =
    sym (at_place fresh bytes i lt ∙ ap (λ (x : ℕ). further i (name_len fresh (x ∷ drop (i + 1) bytes))) (sym is) ∙ name_more fresh next b (drop (i + 1) bytes) i p (sym e))

pub is_barred : (fresh : Bool) (bytes : List ℕ) (i b : ℕ) → i < length bytes → b ≡ get_or bytes i 0 → b ≢ 59
    → None ≡ after_byte fresh b → None ≡ further i (name_len fresh (drop i bytes))
is_barred fresh bytes i b lt is p e =
    sym (at_place fresh bytes i lt ∙ ap (λ (x : ℕ). further i (name_len fresh (x ∷ drop (i + 1) bytes))) (sym is) ∙ name_barred fresh b (drop (i + 1) bytes) i p (sym e))

pub is_end : (fresh : Bool) (bytes : List ℕ) (i : ℕ) → i < length bytes → 59 ≡ get_or bytes i 0
    → fresh ≡ false → Some i ≡ further i (name_len fresh (drop i bytes))
is_end true bytes i lt is e = absurd cc
is_end false bytes i lt is e =
    sym (at_place false bytes i lt ∙ ap (λ (x : ℕ). further i (name_len false (x ∷ drop (i + 1) bytes))) (sym is) ∙ name_ends (drop (i + 1) bytes) i)

pub is_empty_part : (fresh : Bool) (bytes : List ℕ) (i : ℕ) → i < length bytes → 59 ≡ get_or bytes i 0
    → fresh ≡ true → None ≡ further i (name_len fresh (drop i bytes))
is_empty_part false bytes i lt is e = absurd cc
is_empty_part true bytes i lt is e =
    sym (at_place true bytes i lt ∙ ap (λ (x : ℕ). further i (name_len true (x ∷ drop (i + 1) bytes))) (sym is) ∙ name_empty (drop (i + 1) bytes) i)

pub is_past : (fresh : Bool) (bytes : List ℕ) (i : ℕ) → length bytes ≤ i
    → None ≡ further i (name_len fresh (drop i bytes))
is_past fresh bytes i le = sym (ap (λ (t : List ℕ). further i (name_len fresh t)) (drop_all i bytes le) ∙ name_nil fresh i)

pub further-none : (o : Option ℕ) → further 0 o ≡ o
further-none None = refl
further-none (Some len) = let same : 0 + len ≡ len = omega arith in ap (λ (k : ℕ). some k) same

-- ---- brackets

bracket_more : (b : ℕ) (rest : List ℕ) → b ≡ 91 → brackets (b ∷ rest) ≡ brackets rest + 1
unfolding brackets
bracket_more b rest e = rw (eq-eqb b 91 e) refl

bracket_stops : (b : ℕ) (rest : List ℕ) → b ≢ 91 → brackets (b ∷ rest) ≡ 0
unfolding brackets
bracket_stops b rest e = rw (ne_eqb b 91 e) refl

bracket_end : brackets [] ≡ 0
unfolding brackets
bracket_end = refl

pub counts_on : (bytes : List ℕ) (i : ℕ) → i < length bytes → get_or bytes i 0 ≡ 91
    → brackets (drop i bytes) ≡ brackets (drop (i + 1) bytes) + 1
counts_on bytes i lt is = ap brackets (drop_more bytes i 0 lt) ∙ bracket_more (get_or bytes i 0) (drop (i + 1) bytes) is

pub counts_no_more : (bytes : List ℕ) (i : ℕ) → i < length bytes → get_or bytes i 0 ≢ 91
    → brackets (drop i bytes) ≡ 0
counts_no_more bytes i lt is = ap brackets (drop_more bytes i 0 lt) ∙ bracket_stops (get_or bytes i 0) (drop (i + 1) bytes) is

pub counts_to_end : (bytes : List ℕ) (i : ℕ) → length bytes ≤ i → brackets (drop i bytes) ≡ 0
counts_to_end bytes i le = ap brackets (drop_all i bytes le) ∙ bracket_end

-- ---- parameters

closed : (steps : ℕ) (rest after : List ℕ) → after_front 41 rest ≡ Some after
    → parameters_at (suc steps) rest ≡ Some ([], after)
unfolding parameters_at
closed steps rest after e = rw e refl

nothing_steps : (steps : ℕ) (rest : List ℕ) → after_front 41 rest ≡ None → field_at rest ≡ None
    → parameters_at steps rest ≡ None
unfolding parameters_at
nothing_steps zero rest none e = refl
nothing_steps (suc steps) rest none e = rw (none, e) refl

pub closes : (front : List FieldType) (steps : ℕ) (rest after : List ℕ) (total : Option (List FieldType × List ℕ)) → length rest ≤ steps → after_front 41 rest ≡ Some after
    → with_front front (parameters_at steps rest) ≡ total → total ≡ Some (front, after)
closes front zero rest after total le e so_far = let long = ap length (front_some 41 rest after e) in absurd (omega arith)
closes front (suc steps) rest after total le e so_far =
    let one : with_front front (parameters_at (suc steps) rest) ≡ Some (front, after) =
    ap (with_front front) (closed steps rest after e) ∙ ap (λ (ts : List FieldType). some {A = List FieldType × List ℕ} (ts, after)) (append-nil front) in
    sym so_far ∙ one

pub fails : (e : DescriptorRefusal) (front : List FieldType) (steps : ℕ) (rest : List ℕ) (total : Option (List FieldType × List ℕ)) → after_front 41 rest ≡ None
    → (e ≡ refusal.OutOfMemory) ⊎ (field_at rest ≡ None) → with_front front (parameters_at steps rest) ≡ total
    → (e ≡ refusal.OutOfMemory) ⊎ (total ≡ None)
fails e front steps rest total none (inl free) so_far = inl free
fails e front steps rest total none (inr f) so_far = inr (sym so_far ∙ ap (with_front front) (nothing_steps steps rest none f))

pub parameter_goes_on : (front : List FieldType) (steps : ℕ) (rest : List ℕ) (t : FieldType) (after : List ℕ)
    (total : Option (List FieldType × List ℕ)) → length rest ≤ steps → length after < length rest
    → after_front 41 rest ≡ None → field_at rest ≡ Some (t, after)
    → with_front front (parameters_at steps rest) ≡ total
    → with_front (front ++ t ∷ []) (parameters_at (steps - 1) after) ≡ total
parameter_goes_on front zero rest t after total le shorter none e so_far = absurd (omega arith)
parameter_goes_on front (suc steps) rest t after total le shorter none e so_far =
    let less : suc steps - 1 ≡ steps = omega arith in
    let first : parameters_at (suc steps) rest ≡ (parameters_at steps after >>= λ others. Some (t ∷ others.0, others.1)) =
    parameter_more steps rest none ∙ rw e refl in
    rw less (sym (ap (with_front front) first ∙ regroup front t (parameters_at steps after)) ∙ so_far)

-- what is left is shorter
pub field_shorter : (bytes : List ℕ) (x : FieldType × List ℕ) → IsModifiedUtf8 bytes
    → field_at bytes ≡ Some x → IsModifiedUtf8 x.1 × (length x.1 < length bytes)
field_shorter bytes x good e =
    let f = field_takes bytes x good e in
    (f.good, omega (arith, ap length f.parts, length-append (field_bytes x.0) x.1, field_long x.0))

-- ---- the whole descriptor

pub read_describes : (bytes : List ℕ) (r : Result Descriptor DescriptorRefusal) → IsModifiedUtf8 bytes
    → Gives (λ x. x) r (descriptor_at bytes) → IfOk r (λ d. Describes bytes d)
read_describes bytes (Ok d) good given = descriptor_takes bytes d good given
read_describes bytes (Err e) good given = tt

pub read_found : (bytes : List ℕ) (r : Result Descriptor DescriptorRefusal) (d : Descriptor)
    → Gives (λ x. x) r (descriptor_at bytes) → IsDescriptor d → bytes ≡ descriptor_bytes d
    → Gives (λ x. x) r (Some d)
read_found bytes r d given is e = subst (λ f. Gives (λ x. x) r f) (ap descriptor_at e ∙ descriptor_found d is) given

pub bad_is_none : (r : Result Descriptor DescriptorRefusal) (d : Descriptor) → Gives (λ x. x) r (Some d)
    → r ≡ Err refusal.Bad → ⊥
bad_is_none (Ok x) d given e = absurd cc
bad_is_none (Err r) d (inl free) e = absurd cc
bad_is_none (Err r) d (inr none) e = absurd cc
