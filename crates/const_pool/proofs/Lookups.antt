-- What a pool's entries name is there, also after a push.
use Rattle.std.proofs.Common.{◌≡◌, ℕ, zero, suc, ◌+◌, ◌^◌, ◌<◌, Bool, true, false, cond, List, [], ◌∷◌, ◌++◌, length, get_or}
use Rattle.std.proofs.Common.{All, Option, Some, None, ◌↔◌, IsTrue, IsSome, refl, sym, ap, subst, inl, inr, arith}
use Rattle.std.specs.List.{AllByRecursion}
use Rattle.std.proofs.lemmas.Bool.{cases_lt}
use Rattle.std.proofs.lemmas.List.Elements.{All-from_recursion}
use Rattle.std.proofs.lemmas.List.{get_or_past, get_or_append_left, length-append}
use Rattle.const_pool.specs.declared.entry.Tag.{Tag}
use Rattle.const_pool.specs.declared.entry.Tag.TheVariants as tag
use Rattle.const_pool.specs.declared.entry.Entry.{Entry}
use Rattle.const_pool.specs.declared.entry.Entry.TheVariants as entry
use Rattle.const_pool.specs.Entry.{Fits, is_wide, tag_of}
use Rattle.const_pool.specs.Pool.{Slots, slots_of, AreSlots, entry_at, is_tagged, Names, references_in, Refers, IsPool}
use Rattle.const_pool.specs.Pool.{FitsSlot, text_of, utf8_at, class_name_of, class_name_at, string_of, string_at, both}
use Rattle.const_pool.specs.Pool.{name_and_type_of, name_and_type_at}

-- ---- what is named is there

refers_at : (all slots : Slots) (i : ℕ) → AllByRecursion (Refers all) slots → Refers all (get_or slots i None)
refers_at all [] i named = tt
refers_at all (slot ∷ slots) zero named = named.0
refers_at all (slot ∷ slots) (suc i) named = refers_at all slots i named.1

text_there : (slot : Option Entry) → IsTrue (is_tagged slot tag.Utf8) → IsSome (text_of slot)
text_there (Some (entry.Utf8 name)) named = refl
text_there None named = absurd cc
text_there (Some e) named = absurd cc

class_there : (slots : Slots) (slot : Option Entry) → Refers slots slot
    → IsSome (class_name_of slots slot) ↔ IsTrue (is_tagged slot tag.Class)
class_there slots (Some (entry.Class name)) named = (λ some. refl, λ tagged. text_there (entry_at slots name) named.0)
class_there slots None named = (λ some. absurd cc, λ tagged. absurd cc)
class_there slots (Some e) named = (λ some. absurd cc, λ tagged. absurd cc)

pub class_found : (slots : Slots) (index : ℕ) → IsPool slots
    → IsSome (class_name_at slots index) ↔ IsTrue (is_tagged (entry_at slots index) tag.Class)
class_found slots index pool = class_there slots (entry_at slots index) (refers_at slots slots index pool.named)

string_there : (slots : Slots) (slot : Option Entry) → Refers slots slot
    → IsSome (string_of slots slot) ↔ IsTrue (is_tagged slot tag.String)
string_there slots (Some (entry.String text)) named = (λ some. refl, λ tagged. text_there (entry_at slots text) named.0)
string_there slots None named = (λ some. absurd cc, λ tagged. absurd cc)
string_there slots (Some e) named = (λ some. absurd cc, λ tagged. absurd cc)

pub string_found : (slots : Slots) (index : ℕ) → IsPool slots
    → IsSome (string_at slots index) ↔ IsTrue (is_tagged (entry_at slots index) tag.String)
string_found slots index pool = string_there slots (entry_at slots index) (refers_at slots slots index pool.named)

both_there : {A B : Type 0} (x : Option A) (y : Option B) → IsSome x → IsSome y → IsSome (both x y)
both_there None y p q = absurd cc
both_there (Some a) None p q = absurd cc
both_there (Some a) (Some b) p q = refl

name_and_type_there : (slots : Slots) (slot : Option Entry) → Refers slots slot
    → IsSome (name_and_type_of slots slot) ↔ IsTrue (is_tagged slot tag.NameAndType)
name_and_type_there slots (Some (entry.NameAndType name descriptor)) named =
    (λ some. refl, λ tagged. both_there (utf8_at slots name) (utf8_at slots descriptor) (text_there (entry_at slots name) named.0) (text_there (entry_at slots descriptor) named.1.0))
name_and_type_there slots None named = (λ some. absurd cc, λ tagged. absurd cc)
name_and_type_there slots (Some e) named = (λ some. absurd cc, λ tagged. absurd cc)

pub name_and_type_found : (slots : Slots) (index : ℕ) → IsPool slots
    → IsSome (name_and_type_at slots index) ↔ IsTrue (is_tagged (entry_at slots index) tag.NameAndType)
name_and_type_found slots index pool = name_and_type_there slots (entry_at slots index) (refers_at slots slots index pool.named)

-- ---- a push

AllByRecursion-weaker : {X : Type 0} (P Q : X → Type 0) (xs : List X) → ((x : X) → P x → Q x)
    → AllByRecursion P xs → AllByRecursion Q xs
AllByRecursion-weaker P Q [] f all = tt
AllByRecursion-weaker P Q (x ∷ xs) f all = (f x all.0, AllByRecursion-weaker P Q xs f all.1)

AllByRecursion-append : {X : Type 0} (P : X → Type 0) (xs ys : List X) → AllByRecursion P xs
    → AllByRecursion P ys → AllByRecursion P (xs ++ ys)
AllByRecursion-append P [] ys p q = q
AllByRecursion-append P (x ∷ xs) ys p q = (p.0, AllByRecursion-append P xs ys p.1 q)

tagged_within : (slots : Slots) (i : ℕ) (t : Tag) → IsTrue (is_tagged (entry_at slots i) t) → i < length slots
tagged_within slots i t tagged =
    elim (cases_lt i (length slots)) [
      | inl lt ↦ lt
      | inr past ↦
          let none : is_tagged (entry_at slots i) t ≡ false = ap (λ (slot : Option Entry). is_tagged slot t) (get_or_past slots i None past) in
          absurd cc
    ]

pub Names-append : (slots more : Slots) (r : ℕ × Tag) → Names slots r → Names (slots ++ more) r
Names-append slots more r named =
    let same : entry_at (slots ++ more) r.0 ≡ entry_at slots r.0 = get_or_append_left slots more None r.0 (tagged_within slots r.0 r.1 named) in
    subst (λ (slot : Option Entry). IsTrue (is_tagged slot r.1)) (sym same) named

Refers-append : (slots more : Slots) (slot : Option Entry) → Refers slots slot → Refers (slots ++ more) slot
Refers-append slots more slot refers =
    AllByRecursion-weaker (Names slots) (Names (slots ++ more)) (references_in slot) (λ r named. Names-append slots more r named) refers

AreSlots-append : (taken : Bool) (slots more : Slots) → AreSlots taken slots → AreSlots false more
    → AreSlots taken (slots ++ more)
AreSlots-append true [] more p q = absurd p
AreSlots-append false [] more p q = q
AreSlots-append true (None ∷ slots) more p q = AreSlots-append false slots more p q
AreSlots-append true (Some e ∷ slots) more p q = absurd p
AreSlots-append false (None ∷ slots) more p q = absurd p
AreSlots-append false (Some e ∷ slots) more p q = (p.0, AreSlots-append (is_wide (tag_of e)) slots more p.1 q)

-- the slots of an entry are slots, and refer to what it refers to
record EntrySlots (all : Slots) (slots : Slots) : Type 0 where
  are : AreSlots false slots
  named : AllByRecursion (Refers all) slots

entry_slots : (all : Slots) (e : Entry) (wide : Bool) → is_wide (tag_of e) ≡ wide → Fits e
    → Refers all (Some e) → EntrySlots all (cond wide (Some e ∷ None ∷ []) (Some e ∷ []))
entry_slots all e true is fits refers = record { are = (fits, subst (λ (w : Bool). AreSlots w (None ∷ [])) (sym is) tt); named = (refers, (tt, tt)) }
entry_slots all e false is fits refers = record { are = (fits, subst (λ (w : Bool). AreSlots w []) (sym is) tt); named = (refers, tt) }

pub IsPool-push : (slots : Slots) (e : Entry) → IsPool slots → Fits e → Refers slots (Some e)
    → length slots + length (slots_of e) < 2 ^ 16 → IsPool (slots ++ slots_of e)
IsPool-push slots e pool fits refers room =
    let more = slots_of e in
    let new : EntrySlots (slots ++ more) more = entry_slots (slots ++ more) e (is_wide (tag_of e)) refl fits (Refers-append slots more (Some e) refers) in
    let old = AllByRecursion-weaker (Refers slots) (Refers (slots ++ more)) slots (λ slot r. Refers-append slots more slot r) pool.named in
    record {
      count = omega (arith, length-append slots more);
      slots = AreSlots-append true slots more pool.slots new.are;
      named = AllByRecursion-append (Refers (slots ++ more)) slots more old new.named;
    }

-- ---- what is written

fits_by_recursion : (taken : Bool) (slots : Slots) → AreSlots taken slots → AllByRecursion FitsSlot slots
fits_by_recursion true [] are = absurd are
fits_by_recursion false [] are = tt
fits_by_recursion true (None ∷ slots) are = (tt, fits_by_recursion false slots are)
fits_by_recursion true (Some e ∷ slots) are = absurd are
fits_by_recursion false (None ∷ slots) are = absurd are
fits_by_recursion false (Some e ∷ slots) are = (are.0, fits_by_recursion (is_wide (tag_of e)) slots are.1)

pub slots_fit : (slots : Slots) → IsPool slots → All FitsSlot slots
slots_fit slots pool = All-from_recursion FitsSlot slots (fits_by_recursion true slots pool.slots)
