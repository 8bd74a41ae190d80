-- A descriptor that is read is spelled so, and a descriptor that is spelled is read.
use Rattle.std.proofs.Common.{◌≡◌, ◌≢◌, ℕ, zero, suc, ◌+◌, ◌-◌, ◌≤◌, ◌<◌, Bool, true, false, cond, eqb, ltb, ◌||◌, List, []}
use Rattle.std.proofs.Common.{◌∷◌, ◌++◌, length, get_or, replicate, take, drop, Option, Some, None, refl, sym, ap, subst, ◌∙◌}
use Rattle.std.proofs.Common.{append_assoc, inl, inr, arith}
use Rattle.std.specs.Prelude.{IfSome}
use Rattle.std.specs.Option.{option_map, option_map_or}
use Rattle.std.specs.List.{flat_map, join_with_byte, AllByRecursion}
use Rattle.std.proofs.lemmas.Bool.{cases_Bool, cond-false, eq-eqb, ne_eqb, eqb-true, eqb-false, ltb-false, le-ltb, or_parts}
use Rattle.std.proofs.lemmas.List.{append-nil, length-append, length-replicate, nil_from_length, take_at, drop_at, take_all}
use Rattle.std.proofs.lemmas.List.Concat.{flat_map-cons}
use Rattle.std.proofs.lemmas.Option.{cond_some}
use Rattle.parsing.specs.Options.{◌>>=◌}
use Rattle.parsing.proofs.Options.{some, some_is}
use Rattle.parsing.proofs.Options.{bind_some}
use Rattle.const_pool.specs.declared.descriptor.BaseType.{BaseType}
use Rattle.const_pool.specs.declared.descriptor.BaseType.TheVariants as base
use Rattle.const_pool.specs.declared.descriptor.ElementType.{ElementType}
use Rattle.const_pool.specs.declared.descriptor.ElementType.TheVariants as element
use Rattle.const_pool.specs.declared.descriptor.FieldType.{FieldType}
use Rattle.const_pool.specs.declared.descriptor.Descriptor.{Descriptor}
use Rattle.const_pool.specs.declared.descriptor.Descriptor.TheVariants as descriptor
use Rattle.const_pool.specs.Utf8.{IsModifiedUtf8}
use Rattle.const_pool.specs.Descriptor.{IsNameByte, IsUnqualified, IsClassName, base_byte, element_bytes, field_bytes}
use Rattle.const_pool.specs.Descriptor.{result_bytes, descriptor_bytes, IsElement, IsFieldType, IsDescriptor}
use Rattle.const_pool.specs.Parsing.{after_byte, name_len, base_of, class_at, after_front, base_at, element_at, brackets}
use Rattle.const_pool.specs.Parsing.{field_at, parameters_at, only_field, is_void, result_at, method_at, descriptor_at}
use Rattle.const_pool.proofs.Plain.{splits_well, after_replicate}

-- ---- steps

map_some : {A B : Type 0} (f : A → B) (o : Option A) (y : B) → option_map f o ≡ Some y
    → (x : A) × (o ≡ Some x) × (f x ≡ y)
map_some f None y e = absurd cc
map_some f (Some x) y e = let same : f x ≡ y = cc in (x, refl, same)

guard_some : {A : Type 0} (b : Bool) (x y : A) → cond b None (Some x) ≡ Some y → (b ≡ false) × (x ≡ y)
guard_some true x y e = absurd cc
guard_some false x y e = (refl, cc)

-- ---- class names

-- what a byte that goes on with a name is
abbrev GoesOn : Bool → ℕ → Bool → Type 0
GoesOn fresh b true = (b ≡ 47) × (fresh ≡ false)
GoesOn fresh b false = IsNameByte b

slash_goes : (fresh : Bool) (b : ℕ) (next : Bool) → b ≡ 47 → cond fresh None (Some true) ≡ Some next
    → GoesOn fresh b next
slash_goes true b next is e = absurd cc
slash_goes false b true is e = (is, refl)
slash_goes false b false is e = absurd cc

byte_goes : (fresh : Bool) (b : ℕ) (next : Bool) → b ≢ 59 → b ≢ 47 → (barred : Bool)
    → (eqb b 46 || (eqb b 59 || eqb b 91)) ≡ barred → cond barred None (Some false) ≡ Some next
    → GoesOn fresh b next
byte_goes fresh b next p q true is e = absurd cc
byte_goes fresh b true p q false is e = absurd cc
byte_goes fresh b false p q false is e =
    let dot = or_parts (eqb b 46) (eqb b 59 || eqb b 91) is in
    let others = or_parts (eqb b 59) (eqb b 91) dot.1 in
    (eqb-false b 46 dot.0, p, eqb-false b 91 others.1, q)

goes_on : (fresh : Bool) (b : ℕ) (next : Bool) → b ≢ 59 → after_byte fresh b ≡ Some next → GoesOn fresh b next
goes_on fresh b next p e =
    elim (cases_Bool (eqb b 47)) [
      | inl slash ↦ slash_goes fresh b next (eqb-true b 47 slash) (rw slash at e)
      | inr other ↦ byte_goes fresh b next p (eqb-false b 47 other) (eqb b 46 || (eqb b 59 || eqb b 91)) refl (rw other at e)
    ]

-- the part of a name before a byte
abbrev IsBegun : Bool → List ℕ → Type 0
IsBegun true part = part ≡ []
IsBegun false part = IsUnqualified part

AllByRecursion-push : {X : Type 0} (P : X → Type 0) (xs : List X) (x : X) → AllByRecursion P xs → P x
    → AllByRecursion P (xs ++ x ∷ [])
AllByRecursion-push P [] x all p = (p, tt)
AllByRecursion-push P (y ∷ ys) x all p = (all.0, AllByRecursion-push P ys x all.1 p)

begun_more : (fresh : Bool) (part : List ℕ) (b : ℕ) → IsBegun fresh part → IsNameByte b
    → IsUnqualified (part ++ b ∷ [])
begun_more true part b begun is = subst (λ (p : List ℕ). IsUnqualified (p ++ b ∷ [])) (sym begun) (omega arith, (is, tt))
begun_more false part b begun is = (omega (arith, length-append part (b ∷ [])), AllByRecursion-push IsNameByte part b begun.1 is)

one_part : (part : List ℕ) → IsUnqualified part → IsClassName part
one_part part is = (part ∷ [], omega arith, (is, tt), refl)

more_parts : (part name : List ℕ) → IsUnqualified part → IsClassName name → IsClassName (part ++ 47 ∷ name)
more_parts part name is rest = joined rest.0 rest.1 rest.2 rest.3
  where
    joined : (parts : List (List ℕ)) → 0 < length parts → AllByRecursion IsUnqualified parts
        → name ≡ join_with_byte 47 parts → IsClassName (part ++ 47 ∷ name)
    joined [] some all e = absurd (omega arith)
    joined (p ∷ ps) some all e = (part ∷ p ∷ ps, omega arith, (is, all), ap (λ (t : List ℕ). part ++ 47 ∷ t) e)

-- what a length tells of a name and what follows
record IsNameLen (part bytes : List ℕ) (n : ℕ) : Type 0 where
  name : IsClassName (part ++ take n bytes)
  parts : bytes ≡ take n bytes ++ 59 ∷ drop (suc n) bytes

len_end : (part bytes : List ℕ) (n : ℕ) → IsUnqualified part → 0 ≡ n → IsNameLen part (59 ∷ bytes) n
len_end part bytes n is zero' =
    let whole : IsNameLen part (59 ∷ bytes) 0 = record { name = subst IsClassName (sym (append-nil part)) (one_part part is); parts = refl } in
    subst (λ (k : ℕ). IsNameLen part (59 ∷ bytes) k) zero' whole

-- the first ; ends a name
len_semicolon : (fresh : Bool) (part rest : List ℕ) (n : ℕ) → IsBegun fresh part
    → cond fresh None (Some 0) ≡ Some n → IsNameLen part (59 ∷ rest) n
len_semicolon true part rest n begun e = absurd cc
len_semicolon false part rest n begun e = let zero' : 0 ≡ n = cc in len_end part rest n begun zero'

-- a byte goes on with a name
len_byte : (fresh next : Bool) (part : List ℕ) (b : ℕ) (rest : List ℕ) (m : ℕ) → IsBegun fresh part
    → GoesOn fresh b next
    → ((from : List ℕ) → IsBegun next from → IsNameLen from rest m) → IsNameLen part (b ∷ rest) (suc m)
len_byte fresh false part b rest m begun is later =
    let r = later (part ++ b ∷ []) (begun_more fresh part b begun is) in
    record {
      name = subst IsClassName (append_assoc part (b ∷ []) (take m rest)) r.name;
      parts = ap (λ (t : List ℕ). b ∷ t) r.parts;
    }
len_byte true true part b rest m begun is later = absurd cc
len_byte false true part b rest m begun is later =
    let r = later [] refl in
    record {
      name = subst (λ (x : ℕ). IsClassName (part ++ x ∷ take m rest)) (sym is.0) (more_parts part (take m rest) begun r.name);
      parts = ap (λ (t : List ℕ). b ∷ t) r.parts;
    }

len_step : (fresh : Bool) (part : List ℕ) (b : ℕ) (rest : List ℕ) (n : ℕ) → IsBegun fresh part
    → ((next : Bool) (from : List ℕ) (m : ℕ) → IsBegun next from → name_len next rest ≡ Some m → IsNameLen from rest m) → name_len fresh (b ∷ rest) ≡ Some n → IsNameLen part (b ∷ rest) n
unfolding name_len
len_step fresh part b rest n begun later e =
    elim (cases_Bool (eqb b 59)) [
      | inl semicolon ↦
          let is : b ≡ 59 = eqb-true b 59 semicolon in
          subst (λ (x : ℕ). IsNameLen part (x ∷ rest) n) (sym is) (len_semicolon fresh part rest n begun (rw semicolon at e))
      | inr other ↦
          let h : (after_byte fresh b >>= λ next. option_map suc (name_len next rest)) ≡ Some n =
          sym (cond-false (eqb b 59) (cond fresh None (Some 0)) (after_byte fresh b >>= λ next. option_map suc (name_len next rest)) other) ∙ e in
          let a = bind_some (after_byte fresh b) (λ next. option_map suc (name_len next rest)) n h in
          let m = map_some suc (name_len a.0 rest) n a.2 in
          let goes = goes_on fresh b a.0 (eqb-false b 59 other) a.1 in
          subst (λ (k : ℕ). IsNameLen part (b ∷ rest) k) m.2 (len_byte fresh a.0 part b rest m.0 begun goes (λ from is. later a.0 from m.0 is m.1))
    ]

len_nil : (fresh : Bool) → name_len fresh [] ≡ None
unfolding name_len
len_nil fresh = refl

len_takes : (bytes : List ℕ) (fresh : Bool) (part : List ℕ) (n : ℕ) → IsBegun fresh part
    → name_len fresh bytes ≡ Some n → IsNameLen part bytes n
len_takes [] fresh part n begun e = let none = len_nil fresh in absurd cc
len_takes (b ∷ rest) fresh part n begun e = len_step fresh part b rest n begun (λ next from m is h. len_takes rest next from m is h) e

-- the class name of good bytes is good
pub name_good : (bytes : List ℕ) (len : ℕ) → IsModifiedUtf8 bytes → name_len true bytes ≡ Some len
    → IsModifiedUtf8 (take len bytes)
name_good bytes len good e = (splits_well bytes (take len bytes) 59 (drop (suc len) bytes) good (omega arith) (len_takes bytes true [] len refl e).parts).before

-- ---- a class name is found again

-- a length that is counted from further on
abbrev further : ℕ → Option ℕ → Option ℕ
further n None = None
further n (Some len) = Some (n + len)

further-zero : (o : Option ℕ) → further 0 o ≡ o
further-zero None = refl
further-zero (Some len) = let same : 0 + len ≡ len = omega arith in ap (λ (k : ℕ). some k) same

suc-further : (n : ℕ) (o : Option ℕ) → option_map suc (further n o) ≡ further (suc n) o
suc-further n None = refl
suc-further n (Some len) = let same : suc (n + len) ≡ suc n + len = omega arith in ap (λ (k : ℕ). some k) same

byte_found : (fresh : Bool) (b : ℕ) (rest : List ℕ) → IsNameByte b
    → name_len fresh (b ∷ rest) ≡ option_map suc (name_len false rest)
unfolding name_len
byte_found fresh b rest is =
    rw (ne_eqb b 59 is.1, ne_eqb b 47 is.3, ne_eqb b 46 is.0, ne_eqb b 91 is.2) refl

part_found : (part more : List ℕ) → AllByRecursion IsNameByte part
    → name_len false (part ++ more) ≡ further (length part) (name_len false more)
part_found [] more all = sym (further-zero (name_len false more))
part_found (b ∷ part) more all =
    byte_found false b (part ++ more) all.0 ∙ ap (option_map suc) (part_found part more all.1) ∙ suc-further (length part) (name_len false more)

whole_part_found : (part more : List ℕ) → IsUnqualified part
    → name_len true (part ++ more) ≡ further (length part) (name_len false more)
whole_part_found [] more is = absurd (omega (arith, is.0))
whole_part_found (b ∷ part) more is =
    byte_found true b (part ++ more) is.1.0 ∙ ap (option_map suc) (part_found part more is.1.1) ∙ suc-further (length part) (name_len false more)

semicolon_found : (rest : List ℕ) → name_len false (59 ∷ rest) ≡ Some 0
unfolding name_len
semicolon_found rest = refl

slash_found : (rest : List ℕ) → name_len false (47 ∷ rest) ≡ option_map suc (name_len true rest)
unfolding name_len
slash_found rest = refl

parts_found : (parts : List (List ℕ)) (rest : List ℕ) → 0 < length parts → AllByRecursion IsUnqualified parts
    → name_len true (join_with_byte 47 parts ++ 59 ∷ rest) ≡ Some (length (join_with_byte 47 parts))
parts_found [] rest more all = absurd (omega arith)
parts_found (part ∷ []) rest more all =
    let same : length part + 0 ≡ length part = omega arith in
    whole_part_found part (59 ∷ rest) all.0 ∙ ap (further (length part)) (semicolon_found rest) ∙ ap (λ (k : ℕ). some k) same
parts_found (part ∷ next ∷ parts) rest more all =
    let name = join_with_byte 47 (next ∷ parts) in
    let regrouped : (part ++ 47 ∷ name) ++ 59 ∷ rest ≡ part ++ 47 ∷ (name ++ 59 ∷ rest) = append_assoc part (47 ∷ name) (59 ∷ rest) in
    let others = parts_found (next ∷ parts) rest (omega arith) all.1 in
    let same : length part + suc (length name) ≡ length (part ++ 47 ∷ name) = omega (arith, length-append part (47 ∷ name)) in
    ap (name_len true) regrouped ∙ whole_part_found part (47 ∷ (name ++ 59 ∷ rest)) all.0
    ∙ ap (further (length part)) (slash_found (name ++ 59 ∷ rest) ∙ ap (option_map suc) others) ∙ ap (λ (k : ℕ). some k) same

name_found : (name rest : List ℕ) → IsClassName name → name_len true (name ++ 59 ∷ rest) ≡ Some (length name)
name_found name rest is =
    subst (λ (t : List ℕ). name_len true (t ++ 59 ∷ rest) ≡ Some (length t)) (sym is.3) (parts_found is.0 rest is.1 is.2)

-- ---- elements

-- what was read from the front of good bytes
record IsTaken (bytes : List ℕ) (x : ElementType × List ℕ) : Type 0 where
  parts : bytes ≡ element_bytes x.0 ++ x.1
  is : IsElement x.0
  good : IsModifiedUtf8 x.1

class_takes : (bytes : List ℕ) (x : ElementType × List ℕ) → IsModifiedUtf8 (76 ∷ bytes)
    → class_at bytes ≡ Some x → IsTaken (76 ∷ bytes) x
unfolding class_at
class_takes bytes x good e =
    let a = bind_some (name_len true bytes) (λ len. Some (element.Class (take len bytes), drop (len + 1) bytes)) x e in
    let len = a.0 in
    let named = len_takes bytes true [] len refl a.1 in
    let next : len + 1 ≡ suc len = omega arith in
    let split : bytes ≡ take len bytes ++ 59 ∷ drop (len + 1) bytes = rw next named.parts in
    let after = (splits_well (76 ∷ bytes) [] 76 bytes good (omega arith) refl).after in
    let around = splits_well bytes (take len bytes) 59 (drop (len + 1) bytes) after (omega arith) split in
    let made : ElementType × List ℕ = (element.Class (take len bytes), drop (len + 1) bytes) in
    let taken : IsTaken (76 ∷ bytes) made = record {
      parts = ap (λ (t : List ℕ). 76 ∷ t) (split ∙ sym (append_assoc (take len bytes) (59 ∷ []) (drop (len + 1) bytes)));
      is = (named.name, around.before);
      good = around.after;
    } in
    subst (λ (y : ElementType × List ℕ). IsTaken (76 ∷ bytes) y) (some_is made x a.2) taken

pick : (b n : ℕ) (first t : BaseType) (others : Option BaseType) → base_byte first ≡ n
    → (others ≡ Some t → b ≡ base_byte t) → cond (eqb b n) (Some first) others ≡ Some t → b ≡ base_byte t
pick b n first t others is_n later e =
    elim (cases_Bool (eqb b n)) [
      | inl equal ↦ eqb-true b n equal ∙ sym is_n ∙ ap base_byte (some_is first t (rw equal at e))
      | inr other ↦ later (rw other at e)
    ]

base_known : (b : ℕ) (t : BaseType) → base_of b ≡ Some t → b ≡ base_byte t
base_known b t =
    pick b 66 base.Byte t _ refl
    (pick b 67 base.Char t _ refl
    (pick b 73 base.Int t _ refl (pick b 74 base.Long t _ refl
    (pick b 83 base.Short t _ refl (pick b 90 base.Boolean t _ refl (λ e. absurd cc))))))

base_low : (t : BaseType) → base_byte t < 128
base_low base.Byte = omega arith
base_low base.Char = omega arith
base_low base.Int = omega arith
base_low base.Long = omega arith
base_low base.Short = omega arith
base_low base.Boolean = omega arith

pub front_some : (byte : ℕ) (bytes rest : List ℕ) → after_front byte bytes ≡ Some rest → bytes ≡ byte ∷ rest
unfolding after_front
front_some byte [] rest e = absurd cc
front_some byte (b ∷ bytes) rest e =
    let c = cond_some (eqb b byte) bytes rest e in
    let is : b ≡ byte = eqb-true b byte c.0 in
    rw (is, c.1) refl

pub front_found : (byte : ℕ) (rest : List ℕ) → after_front byte (byte ∷ rest) ≡ Some rest
unfolding after_front
front_found byte rest = rw (eq-eqb byte byte refl) refl

pub front_other : (byte b : ℕ) (rest : List ℕ) → b ≢ byte → after_front byte (b ∷ rest) ≡ None
unfolding after_front
front_other byte b rest p = rw (ne_eqb b byte p) refl

-- what stands after a low byte is good
pub front_good : (byte : ℕ) (bytes rest : List ℕ) → byte < 128 → after_front byte bytes ≡ Some rest
    → IsModifiedUtf8 bytes → IsModifiedUtf8 rest
front_good byte bytes rest small e good = (splits_well bytes [] byte rest good small (front_some byte bytes rest e)).after

base_takes : (bytes : List ℕ) (x : ElementType × List ℕ) → IsModifiedUtf8 bytes → base_at bytes ≡ Some x
    → IsTaken bytes x
unfolding base_at
base_takes [] x good e = absurd cc
base_takes (b ∷ rest) x good e =
    let m = map_some (λ t. (element.Base t, rest)) (base_of b) x e in
    let is = base_known b m.0 m.1 in
    let small : b < 128 = omega (arith, base_low m.0) in
    subst (λ (y : ElementType × List ℕ). IsTaken (b ∷ rest) y) m.2
    (record { parts = ap (λ (y : ℕ). y ∷ rest) is; is = tt; good = (splits_well (b ∷ rest) [] b rest good small refl).after })

element_by_front : (bytes : List ℕ) (x : ElementType × List ℕ) (front : Option (List ℕ))
    → IsModifiedUtf8 bytes → after_front 76 bytes ≡ front
    → option_map_or class_at front (base_at bytes) ≡ Some x → IsTaken bytes x
element_by_front bytes x None good is e = base_takes bytes x good e
element_by_front bytes x (Some rest) good is e =
    let text = front_some 76 bytes rest is in
    subst (λ (t : List ℕ). IsTaken t x) (sym text) (class_takes rest x (subst IsModifiedUtf8 text good) e)

element_takes : (bytes : List ℕ) (x : ElementType × List ℕ) → IsModifiedUtf8 bytes
    → element_at bytes ≡ Some x → IsTaken bytes x
unfolding element_at
element_takes bytes x good e = element_by_front bytes x (after_front 76 bytes) good refl e

element_found : (t : ElementType) (rest : List ℕ) → IsElement t
    → element_at (element_bytes t ++ rest) ≡ Some (t, rest)
unfolding element_at class_at after_front base_at
element_found (element.Base base.Byte) rest is = refl
element_found (element.Base base.Char) rest is = refl
element_found (element.Base base.Int) rest is = refl
element_found (element.Base base.Long) rest is = refl
element_found (element.Base base.Short) rest is = refl
element_found (element.Base base.Boolean) rest is = refl
element_found (element.Class name) rest is =
    let regrouped : (name ++ 59 ∷ []) ++ rest ≡ name ++ 59 ∷ rest = append_assoc name (59 ∷ []) rest in
    let front : take (length name) (name ++ 59 ∷ rest) ≡ name = take_at name (59 ∷ rest) (length name) refl in
    let long : length (name ++ 59 ∷ []) ≡ length name + 1 = length-append name (59 ∷ []) in
    let back : drop (length name + 1) (name ++ 59 ∷ rest) ≡ rest = ap (drop (length name + 1)) (sym regrouped) ∙ drop_at (name ++ 59 ∷ []) rest (length name + 1) long in
    ap class_at regrouped ∙ rw (name_found name rest is.0, front, back) refl

pub head_good : (byte : ℕ) (bytes : List ℕ) → IsModifiedUtf8 bytes → byte < 128 → 0 < length bytes
    → get_or bytes 0 0 ≡ byte → IsModifiedUtf8 (take (length bytes - 1) (drop 1 bytes))
head_good byte [] good small some' is = absurd (omega arith)
head_good byte (b ∷ rest) good small some' is =
    let after = (splits_well (b ∷ rest) [] b rest good (omega arith) refl).after in
    let whole : take (suc (length rest) - 1) rest ≡ rest = take_all (suc (length rest) - 1) rest (omega arith) in
    subst IsModifiedUtf8 (sym whole) after

-- ---- field types

bracket_first : (rest : List ℕ) → brackets (91 ∷ rest) ≡ brackets rest + 1
unfolding brackets
bracket_first rest = refl

no_bracket : (b : ℕ) (rest : List ℕ) → b ≢ 91 → brackets (b ∷ rest) ≡ 0
unfolding brackets
no_bracket b rest p = rw (ne_eqb b 91 p) refl

-- the brackets that are counted stand at the front
brackets_front : (bytes : List ℕ) → bytes ≡ replicate (brackets bytes) 91 ++ drop (brackets bytes) bytes
unfolding brackets
brackets_front [] = refl
brackets_front (b ∷ rest) =
    elim (cases_Bool (eqb b 91)) [
      | inl bracket ↦
          let is : b ≡ 91 = eqb-true b 91 bracket in
          let count : brackets rest + 1 ≡ suc (brackets rest) = omega arith in
          let front : 91 ∷ rest ≡ replicate (suc (brackets rest)) 91 ++ drop (suc (brackets rest)) (91 ∷ rest) = ap (λ (t : List ℕ). 91 ∷ t) (brackets_front rest) in
          rw bracket (rw (count, is) front)
      | inr other ↦ rw other refl
    ]

element_no_bracket : (t : ElementType) (rest : List ℕ) → brackets (element_bytes t ++ rest) ≡ 0
unfolding brackets
element_no_bracket (element.Base base.Byte) rest = refl
element_no_bracket (element.Base base.Char) rest = refl
element_no_bracket (element.Base base.Int) rest = refl
element_no_bracket (element.Base base.Long) rest = refl
element_no_bracket (element.Base base.Short) rest = refl
element_no_bracket (element.Base base.Boolean) rest = refl
element_no_bracket (element.Class name) rest = refl

brackets_found : (n : ℕ) (more : List ℕ) → brackets more ≡ 0 → brackets (replicate n 91 ++ more) ≡ n
brackets_found zero more none = none
brackets_found (suc n) more none = bracket_first (replicate n 91 ++ more) ∙ let h = brackets_found n more none in omega arith

element_long : (t : ElementType) → 0 < length (element_bytes t)
element_long (element.Base b) = omega arith
element_long (element.Class name) = omega arith

pub field_long : (t : FieldType) → 0 < length (field_bytes t)
field_long t = omega (arith, length-append (replicate t.dimensions 91) (element_bytes t.element), element_long t.element)

-- what was read from the front of good bytes
pub record IsField (bytes : List ℕ) (x : FieldType × List ℕ) : Type 0 where
  pub parts : bytes ≡ field_bytes x.0 ++ x.1
  pub is : IsFieldType x.0
  pub good : IsModifiedUtf8 x.1

pub after_brackets : (bytes : List ℕ) → IsModifiedUtf8 bytes → IsModifiedUtf8 (drop (brackets bytes) bytes)
after_brackets bytes good = after_replicate (brackets bytes) 91 bytes (drop (brackets bytes) bytes) good (omega arith) (brackets_front bytes)

guard_bind : {A B : Type 0} (b : Bool) (o : Option A) (f : A → Option B) (y : B)
    → (cond b None o >>= f) ≡ Some y → (b ≡ false) × ((o >>= f) ≡ Some y)
guard_bind true o f y e = absurd cc
guard_bind false o f y e = (refl, e)

pub field_takes : (bytes : List ℕ) (x : FieldType × List ℕ) → IsModifiedUtf8 bytes → field_at bytes ≡ Some x
    → IsField bytes x
unfolding field_at
field_takes bytes x good e =
    let n = brackets bytes in
    let g = guard_bind (ltb 255 n) (element_at (drop n bytes)) (λ t. Some (record { dimensions = n; element = t.0 }, t.1)) x e in
    let a = bind_some (element_at (drop n bytes)) (λ t. Some (record { dimensions = n; element = t.0 }, t.1)) x g.1 in
    let taken = element_takes (drop n bytes) a.0 (after_brackets bytes good) a.1 in
    let made : FieldType × List ℕ = (record { dimensions = n; element = a.0.0 }, a.0.1) in
    let whole : IsField bytes made = record {
      parts = brackets_front bytes ∙ ap (λ (t : List ℕ). replicate n 91 ++ t) taken.parts ∙ sym (append_assoc (replicate n 91) (element_bytes a.0.0) a.0.1);
      is = (ltb-false 255 n g.0, taken.is);
      good = taken.good;
    } in
    subst (λ (y : FieldType × List ℕ). IsField bytes y) (some_is made x a.2) whole

pub field_found : (t : FieldType) (rest : List ℕ) → IsFieldType t
    → field_at (field_bytes t ++ rest) ≡ Some (t, rest)
unfolding field_at
field_found t rest is =
    let front = replicate t.dimensions 91 in
    let more = element_bytes t.element ++ rest in
    let regrouped : field_bytes t ++ rest ≡ front ++ more = append_assoc front (element_bytes t.element) rest in
    let count = brackets_found t.dimensions more (element_no_bracket t.element rest) in
    let few = le-ltb 255 t.dimensions is.0 in
    let after : drop t.dimensions (front ++ more) ≡ more = drop_at front more t.dimensions (length-replicate t.dimensions 91) in
    ap field_at regrouped ∙ rw (count, few, after, element_found t.element rest is.1) refl

-- no field type begins with a parenthesis
pub field_first : (t : FieldType)
    → (b : ℕ) × (rest : List ℕ) × (field_bytes t ≡ b ∷ rest) × (b ≢ 41) × (b ≢ 40) × (b ≢ 86)
field_first t = first t.dimensions t.element
  where
    first : (n : ℕ) (e : ElementType)
        → (b : ℕ) × (rest : List ℕ) × (replicate n 91 ++ element_bytes e ≡ b ∷ rest) × (b ≢ 41) × (b ≢ 40) × (b ≢ 86)
    first (suc n) e = (91, replicate n 91 ++ element_bytes e, refl, λ h. omega arith, λ h. omega arith, λ h. omega arith)
    first zero (element.Class name) = (76, name ++ 59 ∷ [], refl, λ h. omega arith, λ h. omega arith, λ h. omega arith)
    first zero (element.Base base.Byte) = (66, [], refl, λ h. omega arith, λ h. omega arith, λ h. omega arith)
    first zero (element.Base base.Char) = (67, [], refl, λ h. omega arith, λ h. omega arith, λ h. omega arith)
    first zero (element.Base base.Int) = (73, [], refl, λ h. omega arith, λ h. omega arith, λ h. omega arith)
    first zero (element.Base base.Long) = (74, [], refl, λ h. omega arith, λ h. omega arith, λ h. omega arith)
    first zero (element.Base base.Short) = (83, [], refl, λ h. omega arith, λ h. omega arith, λ h. omega arith)
    first zero (element.Base base.Boolean) = (90, [], refl, λ h. omega arith, λ h. omega arith, λ h. omega arith)

-- ---- parameters

pub record AreParameters (bytes : List ℕ) (x : List FieldType × List ℕ) : Type 0 where
  pub parts : bytes ≡ flat_map field_bytes x.0 ++ 41 ∷ x.1
  pub are : AllByRecursion IsFieldType x.0
  pub good : IsModifiedUtf8 x.1

closing_found : (steps : ℕ) (rest : List ℕ) → parameters_at (suc steps) (41 ∷ rest) ≡ Some ([], rest)
unfolding parameters_at
closing_found steps rest = rw (front_found 41 rest) refl

pub parameter_more : (steps : ℕ) (bytes : List ℕ) → after_front 41 bytes ≡ None
    → parameters_at (suc steps) bytes ≡ (field_at bytes >>= λ first. parameters_at steps first.1 >>= λ others. Some (first.0 ∷ others.0, others.1))
unfolding parameters_at
parameter_more steps bytes none = rw none refl

closing_takes : (bytes rest : List ℕ) (x : List FieldType × List ℕ) → IsModifiedUtf8 bytes → after_front 41 bytes ≡ Some
    rest → some {A = List FieldType × List ℕ} ([], rest) ≡ Some x → AreParameters bytes x
closing_takes bytes rest x good is e =
    subst (λ (y : List FieldType × List ℕ). AreParameters bytes y) (some_is ([], rest) x e)
    (record { parts = front_some 41 bytes rest is; are = tt; good = front_good 41 bytes rest (omega arith) is good })

more_take : (bytes : List ℕ) (x : List FieldType × List ℕ) (read : List ℕ → Option (List FieldType × List ℕ))
    → IsModifiedUtf8 bytes
    → ((after : List ℕ) (y : List FieldType × List ℕ) → IsModifiedUtf8 after → read after ≡ Some y → AreParameters after y)
    → (field_at bytes >>= λ first. read first.1 >>= λ others. Some (first.0 ∷ others.0, others.1)) ≡ Some x
    → AreParameters bytes x
more_take bytes x read good later e =
    let a = bind_some (field_at bytes) (λ first. read first.1 >>= λ others. Some (first.0 ∷ others.0, others.1)) x e in
    let c = bind_some (read a.0.1) (λ others. Some (a.0.0 ∷ others.0, others.1)) x a.2 in
    let first = field_takes bytes a.0 good a.1 in
    let others = later a.0.1 c.0 first.good c.1 in
    let made : List FieldType × List ℕ = (a.0.0 ∷ c.0.0, c.0.1) in
    let cons : flat_map field_bytes (a.0.0 ∷ c.0.0) ≡ field_bytes a.0.0 ++ flat_map field_bytes c.0.0 = flat_map-cons field_bytes a.0.0 c.0.0 in
    let parts : bytes ≡ flat_map field_bytes (a.0.0 ∷ c.0.0) ++ 41 ∷ c.0.1 =
    first.parts ∙ ap (λ (t : List ℕ). field_bytes a.0.0 ++ t) others.parts ∙ sym (append_assoc (field_bytes a.0.0) (flat_map field_bytes c.0.0) (41 ∷ c.0.1))
    ∙ ap (λ (t : List ℕ). t ++ 41 ∷ c.0.1) (sym cons) in
    subst (λ (y : List FieldType × List ℕ). AreParameters bytes y) (some_is made x c.2) (record { parts = parts; are = (first.is, others.are); good = others.good })

parameters_by_front : (bytes : List ℕ) (x : List FieldType × List ℕ) (read : List ℕ → Option (List FieldType × List ℕ)) (front : Option (List ℕ)) → IsModifiedUtf8 bytes
    → ((after : List ℕ) (y : List FieldType × List ℕ) → IsModifiedUtf8 after → read after ≡ Some y → AreParameters after y) → after_front 41 bytes ≡ front
    → option_map_or (λ rest. some {A = List FieldType × List ℕ} ([], rest)) front
    (field_at bytes >>= λ first. read first.1 >>= λ others. Some (first.0 ∷ others.0, others.1)) ≡ Some x →
    AreParameters bytes x
parameters_by_front bytes x read None good later is e = more_take bytes x read good later e
parameters_by_front bytes x read (Some rest) good later is e = closing_takes bytes rest x good is e

pub parameters_take : (steps : ℕ) (bytes : List ℕ) (x : List FieldType × List ℕ) → IsModifiedUtf8 bytes
    → parameters_at steps bytes ≡ Some x → AreParameters bytes x
unfolding parameters_at
parameters_take zero bytes x good e = absurd cc
parameters_take (suc steps) bytes x good e =
    parameters_by_front bytes x (parameters_at steps) (after_front 41 bytes) good (λ after y is h. parameters_take steps after y is h) refl e

pub parameters_found : (ts : List FieldType) (steps : ℕ) (rest : List ℕ) → AllByRecursion IsFieldType ts
    → length ts < steps → parameters_at steps (flat_map field_bytes ts ++ 41 ∷ rest) ≡ Some (ts, rest)
parameters_found ts zero rest are lt = absurd (omega arith)
parameters_found [] (suc steps) rest are lt = closing_found steps rest
parameters_found (t ∷ ts) (suc steps) rest are lt =
    let more = flat_map field_bytes ts ++ 41 ∷ rest in
    let regrouped : flat_map field_bytes (t ∷ ts) ++ 41 ∷ rest ≡ field_bytes t ++ more =
    ap (λ (x : List ℕ). x ++ 41 ∷ rest) (flat_map-cons field_bytes t ts) ∙ append_assoc (field_bytes t) (flat_map field_bytes ts) (41 ∷ rest) in
    let f = field_first t in
    let text : field_bytes t ++ more ≡ f.0 ∷ (f.1 ++ more) = ap (λ (x : List ℕ). x ++ more) f.2 in
    let found : field_at (f.0 ∷ (f.1 ++ more)) ≡ Some (t, more) = ap field_at (sym text) ∙ field_found t more are.0 in
    let others = parameters_found ts steps rest are.1 (omega arith) in
    ap (parameters_at (suc steps)) (regrouped ∙ text) ∙ parameter_more steps (f.0 ∷ (f.1 ++ more)) (front_other 41 f.0 (f.1 ++ more) f.3) ∙ rw (found, others) refl

-- ---- descriptors

pub length-parameters : (ts : List FieldType) → length ts ≤ length (flat_map field_bytes ts)
length-parameters [] = omega arith
length-parameters (t ∷ ts) = omega (arith, ap length (flat_map-cons field_bytes t ts), length-append (field_bytes t) (flat_map field_bytes ts), field_long t, length-parameters ts)

only_takes : (bytes : List ℕ) (t : FieldType) → IsModifiedUtf8 bytes → only_field bytes ≡ Some t
    → (bytes ≡ field_bytes t) × IsFieldType t
unfolding only_field
only_takes bytes t good e =
    let a = bind_some (field_at bytes) (λ x. cond (eqb (length x.1) 0) (Some x.0) None) t e in
    let c = cond_some (eqb (length a.0.1) 0) a.0.0 t a.2 in
    let f = field_takes bytes a.0 good a.1 in
    let nothing : a.0.1 ≡ [] = nil_from_length a.0.1 (eqb-true (length a.0.1) 0 c.0) in
    let parts : bytes ≡ field_bytes a.0.0 = f.parts ∙ ap (λ (r : List ℕ). field_bytes a.0.0 ++ r) nothing ∙ append-nil (field_bytes a.0.0) in
    subst (λ (u : FieldType). (bytes ≡ field_bytes u) × IsFieldType u) c.1 (parts, f.is)

only_found : (t : FieldType) → IsFieldType t → only_field (field_bytes t) ≡ Some t
unfolding only_field
only_found t is =
    let found : field_at (field_bytes t) ≡ Some (t, []) = ap field_at (sym (append-nil (field_bytes t))) ∙ field_found t [] is in
    rw found refl

void_is : (bytes : List ℕ) → is_void bytes ≡ true → bytes ≡ 86 ∷ []
void_is [] e = absurd cc
void_is (b ∷ []) e = ap (λ (x : ℕ). x ∷ []) (eqb-true b 86 e)
void_is (b ∷ c ∷ rest) e = absurd cc

not_void : (b : ℕ) (rest : List ℕ) → b ≢ 86 → is_void (b ∷ rest) ≡ false
not_void b [] p = ne_eqb b 86 p
not_void b (c ∷ rest) p = refl

result_by_void : (bytes : List ℕ) (r : Option FieldType) (void : Bool) → IsModifiedUtf8 bytes
    → is_void bytes ≡ void
    → cond void (some {A = Option FieldType} None) (option_map (λ t. some {A = FieldType} t) (only_field bytes)) ≡ Some r → (bytes ≡ result_bytes r) × IfSome r IsFieldType
result_by_void bytes r true good is e =
    subst (λ (s : Option FieldType). (bytes ≡ result_bytes s) × IfSome s IsFieldType) (some_is None r e) (void_is bytes is, tt)
result_by_void bytes r false good is e =
    let m = map_some (λ t. some {A = FieldType} t) (only_field bytes) r e in
    subst (λ (s : Option FieldType). (bytes ≡ result_bytes s) × IfSome s IsFieldType) m.2 (only_takes bytes m.0 good m.1)

result_takes : (bytes : List ℕ) (r : Option FieldType) → IsModifiedUtf8 bytes → result_at bytes ≡ Some r
    → (bytes ≡ result_bytes r) × IfSome r IsFieldType
unfolding result_at
result_takes bytes r good e = result_by_void bytes r (is_void bytes) good refl e

result_of_field : (b : ℕ) (rest : List ℕ) → b ≢ 86
    → result_at (b ∷ rest) ≡ option_map (λ t. Some t) (only_field (b ∷ rest))
unfolding result_at
result_of_field b rest p = rw (not_void b rest p) refl

void_found : result_at (86 ∷ []) ≡ Some None
unfolding result_at
void_found = refl

result_found : (r : Option FieldType) → IfSome r IsFieldType → result_at (result_bytes r) ≡ Some r
result_found None is = void_found
result_found (Some t) is =
    let f = field_first t in
    ap result_at f.2 ∙ result_of_field f.0 f.1 f.5 ∙ ap (option_map (λ (u : FieldType). some u)) (ap only_field (sym f.2) ∙ only_found t is)

-- a descriptor that is all of the bytes
pub record Describes (bytes : List ℕ) (d : Descriptor) : Type 0 where
  pub parts : bytes ≡ descriptor_bytes d
  pub is : IsDescriptor d

method_takes : (bytes : List ℕ) (d : Descriptor) → IsModifiedUtf8 bytes → method_at bytes ≡ Some d
    → Describes (40 ∷ bytes) d
unfolding method_at
method_takes bytes d good e =
    let a = bind_some (parameters_at (length bytes) bytes) (λ parameters. result_at parameters.1 >>= λ result. Some (descriptor.Method parameters.0 result)) d e in
    let c = bind_some (result_at a.0.1) (λ result. Some (descriptor.Method a.0.0 result)) d a.2 in
    let p = parameters_take (length bytes) bytes a.0 good a.1 in
    let r = result_takes a.0.1 c.0 p.good c.1 in
    let made : Descriptor = descriptor.Method a.0.0 c.0 in
    let parts : 40 ∷ bytes ≡ descriptor_bytes made = ap (λ (t : List ℕ). 40 ∷ t) (p.parts ∙ ap (λ (t : List ℕ). flat_map field_bytes a.0.0 ++ 41 ∷ t) r.0) in
    subst (λ (y : Descriptor). Describes (40 ∷ bytes) y) (some_is made d c.2) (record { parts = parts; is = (p.are, r.1) })

descriptor_by_front : (bytes : List ℕ) (d : Descriptor) (front : Option (List ℕ)) → IsModifiedUtf8 bytes
    → after_front 40 bytes ≡ front
    → option_map_or method_at front (option_map (λ t. descriptor.Field t) (only_field bytes)) ≡ Some d
    → Describes bytes d
descriptor_by_front bytes d None good is e =
    let m = map_some (λ t. descriptor.Field t) (only_field bytes) d e in
    let t = only_takes bytes m.0 good m.1 in
    subst (λ (y : Descriptor). Describes bytes y) m.2 (record { parts = t.0; is = t.1 })
descriptor_by_front bytes d (Some rest) good is e =
    subst (λ (t : List ℕ). Describes t d) (sym (front_some 40 bytes rest is)) (method_takes rest d (front_good 40 bytes rest (omega arith) is good) e)

pub descriptor_takes : (bytes : List ℕ) (d : Descriptor) → IsModifiedUtf8 bytes
    → descriptor_at bytes ≡ Some d → Describes bytes d
unfolding descriptor_at
descriptor_takes bytes d good e = descriptor_by_front bytes d (after_front 40 bytes) good refl e

field_descriptor : (b : ℕ) (rest : List ℕ) → b ≢ 40
    → descriptor_at (b ∷ rest) ≡ option_map (λ t. descriptor.Field t) (only_field (b ∷ rest))
unfolding descriptor_at
field_descriptor b rest p = rw (front_other 40 b rest p) refl

method_descriptor : (rest : List ℕ) → descriptor_at (40 ∷ rest) ≡ method_at rest
unfolding descriptor_at
method_descriptor rest = rw (front_found 40 rest) refl

method_found : (ts : List FieldType) (r : Option FieldType) → AllByRecursion IsFieldType ts
    → IfSome r IsFieldType
    → method_at (flat_map field_bytes ts ++ 41 ∷ result_bytes r) ≡ Some (descriptor.Method ts r)
unfolding method_at
method_found ts r are is =
    let bytes = flat_map field_bytes ts ++ 41 ∷ result_bytes r in
    let steps : length ts < length bytes = omega (arith, length-append (flat_map field_bytes ts) (41 ∷ result_bytes r), length-parameters ts) in
    rw (parameters_found ts (length bytes) (result_bytes r) are steps, result_found r is) refl

pub descriptor_found : (d : Descriptor) → IsDescriptor d → descriptor_at (descriptor_bytes d) ≡ Some d
descriptor_found (descriptor.Field t) is =
    let f = field_first t in
    ap descriptor_at f.2 ∙ field_descriptor f.0 f.1 f.4 ∙ ap (option_map (λ (u : FieldType). descriptor.Field u)) (ap only_field (sym f.2) ∙ only_found t is)
descriptor_found (descriptor.Method ts r) is = method_descriptor (flat_map field_bytes ts ++ 41 ∷ result_bytes r) ∙ method_found ts r is.0 is.1
