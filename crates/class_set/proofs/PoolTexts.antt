-- The texts of a pool that was read are modified UTF-8, and short.
use Rattle.std.proofs.Common.{◌≡◌, ℕ, zero, suc, ◌<◌, ◌^◌, Bool, true, false, List, [], ◌∷◌, Option, Some, None, length}
use Rattle.std.proofs.Common.{slice_index_or, refl, subst}
use Rattle.std.specs.Prelude.{All}
use Rattle.std.specs.List.{flat_map}
use Rattle.std.specs.Option.{option_to_list}
use Rattle.std.proofs.lemmas.List.Elements.{All-append, All-cons, All-nil}
use Rattle.const_pool.specs.declared.entry.Entry.{Entry}
use Rattle.const_pool.specs.declared.entry.Entry.TheVariants as entry
use Rattle.const_pool.specs.Entry.{Fits, is_wide, tag_of}
use Rattle.const_pool.specs.Pool.{Slots, AreSlots, string_of, text_of, utf8_at}
use Rattle.const_pool.specs.Utf8.{IsModifiedUtf8}
use Rattle.class_set.specs.Literals.{strings_of}

-- every text of the pool
abbrev pub HasTexts : Slots → Type 0
HasTexts pool = (i : ℕ) (t : List ℕ) → utf8_at pool i ≡ Some t → IsModifiedUtf8 t

abbrev pub AreShort : Slots → Type 0
AreShort pool = (i : ℕ) (t : List ℕ) → utf8_at pool i ≡ Some t → length t < 2 ^ 16

abbrev IsShortText : List ℕ → Type 0
IsShortText t = (length t < 2 ^ 16) × IsModifiedUtf8 t

entry_text : (e : Entry) (t : List ℕ) → Fits e → text_of (Some e) ≡ Some t → IsShortText t
entry_text (entry.Utf8 name) t h same = (let equal : name ≡ t = cc in subst IsShortText equal h)
entry_text other t h same = absurd (cc)

slot_text : (slots : Slots) (taken : Bool) (i : ℕ) (t : List ℕ) → AreSlots taken slots → text_of (slice_index_or slots i None) ≡ Some t
    → IsShortText t
slot_text [] taken i t h e = absurd (cc)
slot_text (None ∷ slots) true zero t h e = absurd (cc)
slot_text (None ∷ slots) true (suc i) t h e = slot_text slots false i t h e
slot_text (None ∷ slots) false i t h e = absurd h
slot_text (Some x ∷ slots) true i t h e = absurd h
slot_text (Some x ∷ slots) false zero t h e = entry_text x t h.0 e
slot_text (Some x ∷ slots) false (suc i) t h e = slot_text slots (is_wide (tag_of x)) i t h.1 e

pub has_texts : (pool : Slots) → AreSlots true pool → HasTexts pool
has_texts pool h i t e = (slot_text pool true i t h e).1

pub are_short : (pool : Slots) → AreSlots true pool → AreShort pool
are_short pool h i t e = (slot_text pool true i t h e).0

-- ---- string literals

found_text : (pool : Slots) (o : Option (List ℕ)) → ((t : List ℕ) → o ≡ Some t → IsModifiedUtf8 t) → All IsModifiedUtf8 (option_to_list o)
found_text pool None h = All-nil IsModifiedUtf8
found_text pool (Some t) h = All-cons IsModifiedUtf8 t [] (h t refl) (All-nil IsModifiedUtf8)

slot_string : (pool : Slots) (o : Option Entry) → HasTexts pool → All IsModifiedUtf8 (option_to_list (string_of pool o))
slot_string pool (Some (entry.String i)) h = found_text pool (utf8_at pool i) (h i)
slot_string pool other h = All-nil IsModifiedUtf8

strings_in_slots : (pool slots : Slots) → HasTexts pool → All IsModifiedUtf8 (flat_map (λ slot. option_to_list (string_of pool slot)) slots)
strings_in_slots pool [] h = All-nil IsModifiedUtf8
strings_in_slots pool (o ∷ slots) h =
    All-append IsModifiedUtf8 (option_to_list (string_of pool o)) (flat_map (λ slot. option_to_list (string_of pool slot)) slots)
    (slot_string pool o h) (strings_in_slots pool slots h)

pub strings_good : (pool : Slots) → HasTexts pool → All IsModifiedUtf8 (strings_of pool)
strings_good pool h = strings_in_slots pool pool h
