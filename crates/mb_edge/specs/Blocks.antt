-- The blocks of a device: what a read gives, what a write changes, and the image that a list of bytes is.
use Rattle.std.specs.Prelude.{ℕ, ◌+◌, ◌-◌, ◌*◌, ◌/◌, ◌<◌, ◌≤◌, ◌≡◌, ◌≢◌, ◌++◌, ⊤, List, length, take, drop, max, nat_lt, replicate, if◌then◌else◌, All, Option, None, Some, Result, MatchResult, IfSome}
use Rattle.std.proofs.Common.{cond, subst, sym, ap, ◌∙◌, suc, arith, inl, inr}
use Rattle.std.proofs.lemmas.Bool.{le-ltb}
use Rattle.std.proofs.lemmas.Bool.Decides.{leb_tells}
use Rattle.std.proofs.lemmas.List.{length-take-le, length-drop, length-replicate}
use Rattle.mb_kinds.specs.Image.{Image, put, zeros}

-- 512 bytes
pub record IsBlock (bytes : List ℕ) : Type 0 where
  pub size : length bytes ≡ 512
  pub small : All (λ byte. byte < 256) bytes

-- the number of blocks, where it is told
abbrev pub CountsBlocks : Option Image → ℕ → Type 0
CountsBlocks told count = IfSome told (λ image. count ≡ image.count)

-- the bytes of a block, where they are told
abbrev pub GivesBlock : Option Image → ℕ → List ℕ → Type 0
GivesBlock told block bytes = IfSome told (λ image. bytes ≡ image.at block)

-- what a write that failed leaves: any bytes in its block, every other block as it was, and a number of
-- blocks between the old one and what the write would have made it
pub record Spoils (old new : Image) (block : ℕ) : Type 0 where
  pub others : (other : ℕ) → other ≢ block → new.at other ≡ old.at other
  pub not_fewer : old.count ≤ new.count
  pub not_more : new.count ≤ max old.count (block + 1)

-- a write puts the block, or spoils it where it fails; a device that told nothing goes on telling nothing
abbrev pub WritesBlock : {E : Type 0} → Option Image → Option Image → Result Unit E → ℕ → List ℕ → Type 0
WritesBlock None None result block bytes = ⊤
WritesBlock None (Some new) result block bytes = ⊥
WritesBlock (Some old) None result block bytes = ⊥
WritesBlock (Some old) (Some new) result block bytes = MatchResult result (λ _. new ≡ put old block bytes) (λ _. Spoils old new block)

-- a block of a flat list of bytes
unfoldable pub block_at : List ℕ → ℕ → List ℕ
block_at bytes block = take 512 (drop (512 * block) bytes)

-- a flat list of bytes as a device: bytes after the last whole block belong to no block
abbrev pub image_of : List ℕ → Image
image_of bytes = record { count = length bytes / 512; at = λ block. if nat_lt block (length bytes / 512) then block_at bytes block else zeros }

-- a block replaced inside a list of bytes
abbrev pub replaced : List ℕ → ℕ → List ℕ → List ℕ
replaced bytes block from = take (512 * block) bytes ++ (from ++ drop (512 * block + 512) bytes)

-- a block put behind the whole blocks of a list of bytes, with zeros in between
abbrev pub extended : List ℕ → ℕ → List ℕ → List ℕ
extended bytes block from = take (512 * (length bytes / 512)) bytes ++ (replicate (512 * block - 512 * (length bytes / 512)) 0 ++ from)

-- the bytes after a write of one block
abbrev pub written : List ℕ → ℕ → List ℕ → List ℕ
written bytes block from = if nat_lt block (length bytes / 512) then replaced bytes block from else extended bytes block from

-- past its whole blocks a flat list of bytes shows zeros
pub image_of-past : (bytes : List ℕ) (image : Image) (block : ℕ) → Some (image_of bytes) ≡ Some image → image.count ≤ block → image.at block ≡ zeros
image_of-past bytes image block same past =
    let shown : image_of bytes ≡ image = cc in
    let beyond : length bytes / 512 ≤ block = subst (λ (i : Image). i.count ≤ block) (sym shown) past in
    ap (λ (i : Image). i.at block) (sym shown) ∙ ap (λ b. cond b (block_at bytes block) zeros) (le-ltb block (length bytes / 512) beyond)

length-zeros : length zeros ≡ 512
unfolding zeros
length-zeros = length-replicate {A = ℕ} 512 0

length-block_at : (bytes : List ℕ) (block : ℕ) → block < length bytes / 512 → length (block_at bytes block) ≡ 512
unfolding block_at
length-block_at bytes block inside = length-take-le 512 (drop (512 * block) bytes) (rw length-drop (omega arith))

length-shown : (bytes : List ℕ) (block : ℕ) → length ((image_of bytes).at block) ≡ 512
length-shown bytes block =
    elim (leb_tells (suc block) (length bytes / 512)) [
      | inl inside ↦ ap (λ b. length (cond b (block_at bytes block) zeros)) inside.0 ∙ length-block_at bytes block (omega arith)
      | inr past ↦ ap (λ b. length (cond b (block_at bytes block) zeros)) past.0 ∙ length-zeros
    ]

-- each block that a flat list of bytes shows has 512 bytes
pub image_of-sized : (bytes : List ℕ) (image : Image) (block : ℕ) → Some (image_of bytes) ≡ Some image → length (image.at block) ≡ 512
image_of-sized bytes image block same =
    let shown : image_of bytes ≡ image = cc in
    subst (λ (i : Image). length (i.at block) ≡ 512) shown (length-shown bytes block)
