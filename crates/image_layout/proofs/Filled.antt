-- Each word of the lines before the objects is a part's: by the row of its line.
use Rattle.std.proofs.Common.{◌≡◌, ℕ, ◌+◌, ◌-◌, ◌*◌, ◌/◌, ◌%◌, ◌<◌, ◌≤◌, arith, inl, inr, ap, ◌∙◌, refl}
use Rattle.std.proofs.lemmas.Bool.{cases_lt}
use Rattle.image_layout.specs.Places.{first_object_line}
use Rattle.image_layout.specs.Parts.{Part, Superblock, RootSlot, DirectoryWord, LogHead, LogEntry, IsPart, spot_of}

abbrev pub IsAPart : ℕ → ℕ → Type 0
IsAPart line word = (part : Part) × (IsPart part × (spot_of part ≡ (line, word)))

abbrev pair : ℕ → ℕ → ℕ × ℕ
pair line word = (line, word)

same_spot : (spot : ℕ × ℕ) (line word : ℕ) → spot.0 ≡ line → spot.1 ≡ word → spot ≡ pair line word
same_spot spot line word e f = ap (λ l. pair l spot.1) e ∙ ap (λ w. pair line w) f

is_part : (part : Part) (line word : ℕ) → IsPart part → (spot_of part).0 ≡ line → (spot_of part).1 ≡ word → IsAPart line word
is_part part line word h e f = (part, (h, same_spot (spot_of part) line word e f))

of_slots : (line word : ℕ) → 1 ≤ line → line < 33 → word < 8 → IsAPart line word
of_slots line word low high h =
    is_part (RootSlot (8 * (line - 1) + word)) line word (omega arith) (omega arith) (omega arith)

of_directory : (line word : ℕ) → 33 ≤ line → line < 4129 → word < 8 → IsAPart line word
of_directory line word low high h =
    is_part (DirectoryWord (8 * (line - 33) + word)) line word (omega arith) (omega arith) (omega arith)

-- word of line `inner` of log `thread`, whose line 0 is the head
of_log : (thread inner line word : ℕ) → thread < 64 → inner < 257 → word < 8 → 4129 + 257 * thread + inner ≡ line
    → IsAPart line word
of_log thread inner line word h k w e =
    elim (cases_lt inner 1) [
      | inl first ↦ is_part (LogHead thread word) line word (omega arith, omega arith) (omega arith) (omega arith)
      | inr later ↦
          is_part (LogEntry thread (4 * (inner - 1) + word / 2) (word % 2)) line word
          (omega arith, omega arith, omega arith) (omega arith) (omega arith)
    ]

of_logs : (line word : ℕ) → 4129 ≤ line → line < first_object_line → word < 8 → IsAPart line word
of_logs line word low high h =
    of_log ((line - 4129) / 257) ((line - 4129) % 257) line word (omega arith) (omega arith) h (omega arith)

pub filled : (line word : ℕ) → line < first_object_line → word < 8 → IsAPart line word
filled line word high h =
    elim (cases_lt line 33) [
      | inl slots ↦
          elim (cases_lt line 1) [
            | inl first ↦ is_part (Superblock word) line word h (omega arith) refl
            | inr later ↦ of_slots line word later slots h
          ]
      | inr behind ↦
          elim (cases_lt line 4129) [
            | inl directory ↦ of_directory line word behind directory h
            | inr logs ↦ of_logs line word logs high h
          ]
    ]
