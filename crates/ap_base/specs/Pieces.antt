-- Pieces of printed text.
use Rattle.std.specs.Prelude.{◌≡◌, refl, ℕ, ◌<◌, ◌≤◌, ◌-◌, List, ◌++◌, length, take, drop, replicate}
use Rattle.std.proofs.Common.{ap, sym, ◌∙◌, arith}
use Rattle.std.proofs.Common.{length-append}
use Rattle.std.proofs.Math.Seq.{drop-append_seam}
use Rattle.std.proofs.lemmas.List.{take-append-drop, length-take-le, drop-replicate, length-replicate}

-- One print asks for 1 to 24 bytes.
abbrev pub IsPiece : List ℕ → Type 0
IsPiece bytes = (0 < length bytes) × (length bytes ≤ 24)

-- the 24 bytes that hold these: zeros follow them
abbrev pub filled : List ℕ → List ℕ
filled bytes = bytes ++ replicate (24 - length bytes) 0

-- 24 bytes hold a piece of this length
pub record IsHeld (count : ℕ) (bytes : List ℕ) : Type 0 where
  pub size : length bytes ≡ 24
  pub some : 0 < count
  pub few : count ≤ 24
  pub zeros : drop count bytes ≡ replicate (24 - count) 0

pub length-held : (count : ℕ) (bytes : List ℕ) → IsHeld count bytes → length (take count bytes) ≡ count
length-held count bytes held = length-take-le count bytes (omega (arith, held.few, held.size))

-- what is held is held so in one way alone
pub filled-take : (count : ℕ) (bytes : List ℕ) → IsHeld count bytes → filled (take count bytes) ≡ bytes
filled-take count bytes held =
    ap (λ n. take count bytes ++ replicate (24 - n) 0) (length-held count bytes held)
    ∙ ap (λ zeros. take count bytes ++ zeros) (sym held.zeros)
    ∙ take-append-drop count bytes

-- Bytes that were written over the front of 24 zeros are held.
pub held-front : (bytes : List ℕ) → IsPiece bytes → IsHeld (length bytes) (bytes ++ drop (length bytes) (replicate 24 0))
held-front bytes piece = record {
  size = length-append bytes (drop (length bytes) (replicate 24 0)) ∙ simp (drop-replicate, length-replicate) (omega (arith, piece.1));
  some = piece.0;
  few = piece.1;
  zeros = drop-append_seam bytes (drop (length bytes) (replicate 24 0)) ∙ drop-replicate (length bytes) 24 0;
}
