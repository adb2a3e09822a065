-- The image of a list of bytes before and after the write of one block.
use Rattle.std.proofs.Common.{ℕ, ◌+◌, ◌-◌, ◌*◌, ◌/◌, ◌<◌, ◌≤◌, ◌≡◌, ◌≢◌, List, ◌++◌, length, take, drop, replicate, ap, ◌∙◌, arith, cond, max, nat_lt, nat_eq, ◌⊎◌, inl, inr}
use Rattle.std.proofs.lemmas.List.{length-append, length-take-le, length-drop, length-replicate}
use Rattle.std.proofs.lemmas.Bool.{lt-ltb, le-ltb}
use Rattle.std.proofs.lemmas.Bool.Decides.{nat_tests}
use Rattle.mb_kinds.specs.Image.{Image, put, zeros}
use Rattle.mb_edge.specs.Blocks.{block_at, image_of, replaced, extended, written}
use Rattle.mb_edge.proofs.BlockParts.{block_at-front, block_at-back, block_at-take, block_at-drop, block_at-whole, block_at-zeros}

same_image : (m n : ℕ) (f g : ℕ → List ℕ) → m ≡ n → ((q : ℕ) → f q ≡ g q) → (let x : Image = record { count = m; at = f } in x) ≡ record { count = n; at = g }
same_image m n f g e h = λ i. record { count = e i; at = λ q. h q i }

-- a block of the new image is the one written, an old one or zeros
at_cases : (q block c d : ℕ) (x y from z : List ℕ) → d ≡ max c (block + 1) → (q ≡ block → x ≡ from) → (q ≢ block → q < c → x ≡ y) → (c ≤ q → q < block → x ≡ z)
    → cond (nat_lt q d) x z ≡ cond (nat_eq block q) from (cond (nat_lt q c) y z)
at_cases q block c d x y from z e here old between = grind (arith, nat_tests)

either_side : (m n : ℕ) → m ≢ n → (m < n) ⊎ (n < m)
either_side m n other = grind arith

either_way : (m n : ℕ) → (m < n) ⊎ (n ≤ m)
either_way m n = grind arith

replaced_length : (bytes : List ℕ) (block : ℕ) (from : List ℕ) → length from ≡ 512 → block < length bytes / 512 → length (replaced bytes block from) ≡ length bytes
replaced_length bytes block from size inside =
    let front : length (take (512 * block) bytes) ≡ 512 * block = length-take-le (512 * block) bytes (omega arith) in
    let back : length (drop (512 * block + 512) bytes) ≡ length bytes - (512 * block + 512) = length-drop (512 * block + 512) bytes in
    rw (length-append, length-append) (omega arith)

replaced_here : (bytes : List ℕ) (block : ℕ) (from : List ℕ) → length from ≡ 512 → block < length bytes / 512 → block_at (replaced bytes block from) block ≡ from
replaced_here bytes block from size inside =
    let front : length (take (512 * block) bytes) ≡ 512 * block = length-take-le (512 * block) bytes (omega arith) in
    let rest : List ℕ = drop (512 * block + 512) bytes in
    block_at-back (take (512 * block) bytes) (from ++ rest) block block 0 front (omega arith) ∙ block_at-front from rest 0 (omega arith) ∙ block_at-whole from size

replaced_below : (bytes : List ℕ) (block : ℕ) (from : List ℕ) (q : ℕ) → block < length bytes / 512 → q < block → block_at (replaced bytes block from) q ≡ block_at bytes q
replaced_below bytes block from q inside below =
    let front : length (take (512 * block) bytes) ≡ 512 * block = length-take-le (512 * block) bytes (omega arith) in
    block_at-front (take (512 * block) bytes) (from ++ drop (512 * block + 512) bytes) q (omega arith) ∙ block_at-take bytes (512 * block) q (omega arith)

replaced_above : (bytes : List ℕ) (block : ℕ) (from : List ℕ) (q : ℕ) → length from ≡ 512 → block < length bytes / 512 → block < q → block_at (replaced bytes block from) q ≡ block_at bytes q
replaced_above bytes block from q size inside above =
    let front : length (take (512 * block) bytes) ≡ 512 * block = length-take-le (512 * block) bytes (omega arith) in
    let rest : List ℕ = drop (512 * block + 512) bytes in
    block_at-back (take (512 * block) bytes) (from ++ rest) block q (q - block) front (omega arith)
    ∙ block_at-back from rest 1 (q - block) (q - block - 1) (omega arith) (omega arith)
    ∙ block_at-drop bytes (512 * block + 512) (block + 1) q (q - block - 1) (omega arith) (omega arith)

replaced_old : (bytes : List ℕ) (block : ℕ) (from : List ℕ) (q : ℕ) → length from ≡ 512 → block < length bytes / 512 → q ≢ block → block_at (replaced bytes block from) q ≡ block_at bytes q
replaced_old bytes block from q size inside other =
    elim (either_side q block other) [ inl below ↦ replaced_below bytes block from q inside below | inr above ↦ replaced_above bytes block from q size inside above ]

-- a block behind the first `whole` blocks of a list, with zeros in between
abbrev behind : List ℕ → ℕ → ℕ → List ℕ → List ℕ
behind bytes whole block from = take (512 * whole) bytes ++ (replicate (512 * block - 512 * whole) 0 ++ from)

length-gap : (n : ℕ) → length {A = ℕ} (replicate n 0) ≡ n
length-gap n = length-replicate {A = ℕ} n 0

length-behind : (bytes : List ℕ) (whole block : ℕ) (from : List ℕ) → length from ≡ 512 → 512 * whole ≤ length bytes → whole ≤ block → length (behind bytes whole block from) ≡ 512 * block + 512
length-behind bytes whole block from size within past =
    rw (length-append, length-append) (omega (arith, length-take-le (512 * whole) bytes within, length-gap (512 * block - 512 * whole)))

behind_below : (bytes : List ℕ) (whole block : ℕ) (from : List ℕ) (q : ℕ) → 512 * whole ≤ length bytes → q < whole → block_at (behind bytes whole block from) q ≡ block_at bytes q
behind_below bytes whole block from q within below =
    let front : length (take (512 * whole) bytes) ≡ 512 * whole = length-take-le (512 * whole) bytes within in
    block_at-front (take (512 * whole) bytes) (replicate (512 * block - 512 * whole) 0 ++ from) q (omega arith) ∙ block_at-take bytes (512 * whole) q (omega arith)

behind_between : (bytes : List ℕ) (whole block : ℕ) (from : List ℕ) (q : ℕ) → 512 * whole ≤ length bytes → whole ≤ q → q < block → block_at (behind bytes whole block from) q ≡ zeros
behind_between bytes whole block from q within past below =
    block_at-back (take (512 * whole) bytes) (replicate (512 * block - 512 * whole) 0 ++ from) whole q (q - whole) (length-take-le (512 * whole) bytes within) (omega arith)
    ∙ block_at-front (replicate (512 * block - 512 * whole) 0) from (q - whole) (omega (arith, length-gap (512 * block - 512 * whole)))
    ∙ block_at-zeros (512 * block - 512 * whole) (q - whole) (omega arith)

behind_here : (bytes : List ℕ) (whole block : ℕ) (from : List ℕ) → length from ≡ 512 → 512 * whole ≤ length bytes → whole ≤ block → block_at (behind bytes whole block from) block ≡ from
behind_here bytes whole block from size within past =
    block_at-back (take (512 * whole) bytes) (replicate (512 * block - 512 * whole) 0 ++ from) whole block (block - whole) (length-take-le (512 * whole) bytes within) (omega arith)
    ∙ block_at-back (replicate (512 * block - 512 * whole) 0) from (block - whole) (block - whole) 0 (omega (arith, length-gap (512 * block - 512 * whole))) (omega arith)
    ∙ block_at-whole from size

image_of-replaced : (bytes : List ℕ) (block : ℕ) (from : List ℕ) → length from ≡ 512 → block < length bytes / 512 → image_of (replaced bytes block from) ≡ put (image_of bytes) block from
image_of-replaced bytes block from size inside =
    let long : length (replaced bytes block from) ≡ length bytes = replaced_length bytes block from size inside in
    let count : length (replaced bytes block from) / 512 ≡ max (length bytes / 512) (block + 1) = omega arith in
    same_image _ _ _ _ count (λ q. at_cases q block (length bytes / 512) _ (block_at (replaced bytes block from) q) (block_at bytes q) from zeros count
    (λ e. ap (block_at (replaced bytes block from)) e ∙ replaced_here bytes block from size inside)
    (λ other below. replaced_old bytes block from q size inside other)
    (λ past below. absurd (omega arith)))

image_of-extended : (bytes : List ℕ) (block : ℕ) (from : List ℕ) → length from ≡ 512 → length bytes / 512 ≤ block → image_of (extended bytes block from) ≡ put (image_of bytes) block from
image_of-extended bytes block from size past =
    let within : 512 * (length bytes / 512) ≤ length bytes = omega arith in
    let long : length (extended bytes block from) ≡ 512 * block + 512 = length-behind bytes (length bytes / 512) block from size within past in
    let count : length (extended bytes block from) / 512 ≡ max (length bytes / 512) (block + 1) = omega arith in
    same_image _ _ _ _ count (λ q. at_cases q block (length bytes / 512) _ (block_at (extended bytes block from) q) (block_at bytes q) from zeros count
    (λ e. ap (block_at (extended bytes block from)) e ∙ behind_here bytes (length bytes / 512) block from size within past)
    (λ other below. behind_below bytes (length bytes / 512) block from q within below)
    (λ past below. behind_between bytes (length bytes / 512) block from q within past below))

pub written-inside : (bytes : List ℕ) (block : ℕ) (from : List ℕ) → block < length bytes / 512 → written bytes block from ≡ replaced bytes block from
written-inside bytes block from inside = ap (λ b. cond b (replaced bytes block from) (extended bytes block from)) (lt-ltb block (length bytes / 512) inside)

pub written-past : (bytes : List ℕ) (block : ℕ) (from : List ℕ) → length bytes / 512 ≤ block → written bytes block from ≡ extended bytes block from
written-past bytes block from past = ap (λ b. cond b (replaced bytes block from) (extended bytes block from)) (le-ltb block (length bytes / 512) past)

pub image_of-written : (bytes : List ℕ) (block : ℕ) (from : List ℕ) → length from ≡ 512 → image_of (written bytes block from) ≡ put (image_of bytes) block from
image_of-written bytes block from size =
    elim (either_way block (length bytes / 512)) [
      | inl inside ↦ ap image_of (written-inside bytes block from inside) ∙ image_of-replaced bytes block from size inside
      | inr past ↦ ap image_of (written-past bytes block from past) ∙ image_of-extended bytes block from size past
    ]

pub at-inside : (bytes : List ℕ) (block : ℕ) → block < length bytes / 512 → (image_of bytes).at block ≡ block_at bytes block
at-inside bytes block inside = ap (λ b. cond b (block_at bytes block) zeros) (lt-ltb block (length bytes / 512) inside)

pub at-past : (bytes : List ℕ) (block : ℕ) → length bytes / 512 ≤ block → (image_of bytes).at block ≡ zeros
at-past bytes block past = ap (λ b. cond b (block_at bytes block) zeros) (le-ltb block (length bytes / 512) past)
