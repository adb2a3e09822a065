-- What a store's buffer shows after a block is read from it or written to it: `used` of its bytes count.
use Rattle.std.proofs.Common.{ℕ, ◌+◌, ◌-◌, ◌*◌, ◌/◌, ◌<◌, ◌≤◌, ◌≡◌, List, ◌++◌, length, take, drop, replicate, ap, ◌∙◌, sym, arith, append_assoc}
use Rattle.std.proofs.lemmas.List.{length-append, length-take-le, length-drop, length-replicate, take-take, drop-take, drop-drop}
use Rattle.std.proofs.lemmas.Slice.{take-put_mid}
use Rattle.std.proofs.Math.Seq.{take-append-add}
use borrow.Rule.Slice.PartMut.{put_mid}
use Rattle.mb_edge.specs.Blocks.{block_at, image_of, replaced, extended, written}
use Rattle.mb_edge.proofs.BlockParts.{block_at-take, zeros_are}
use Rattle.mb_edge.proofs.Images.{written-inside, written-past, at-inside, at-past}

block_at-is : (bytes : List ℕ) (block n : ℕ) → n ≡ 512 → take n (drop (512 * block) bytes) ≡ block_at bytes block
unfolding block_at
block_at-is bytes block n e = ap (λ (k : ℕ). take k (drop (512 * block) bytes)) e

pub gives_inside : (bytes : List ℕ) (used block n : ℕ) → n ≡ 512 → used ≤ length bytes → block < used / 512 → take n (drop (512 * block) bytes) ≡ (image_of (take used bytes)).at block
gives_inside bytes used block n e within inside =
    let long : length (take used bytes) ≡ used = length-take-le used bytes within in
    let here : block < length (take used bytes) / 512 = rw long inside in
    block_at-is bytes block n e ∙ sym (block_at-take bytes used block (omega arith)) ∙ sym (at-inside (take used bytes) block here)

pub gives_past : (bytes : List ℕ) (used block n : ℕ) → n ≡ 512 → used ≤ length bytes → used / 512 ≤ block → replicate n 0 ≡ (image_of (take used bytes)).at block
gives_past bytes used block n e within past =
    let long : length (take used bytes) ≡ used = length-take-le used bytes within in
    let beyond : length (take used bytes) / 512 ≤ block = rw long past in
    zeros_are n e ∙ sym (at-past (take used bytes) block beyond)

replaced_part : (bytes : List ℕ) (used block : ℕ) (from : List ℕ) → 512 * block + 512 ≤ used
    → replaced (take used bytes) block from ≡ take (512 * block) bytes ++ (from ++ take (used - (512 * block + 512)) (drop (512 * block + 512) bytes))
replaced_part bytes used block from within =
    let cut : used ≡ 512 * block + 512 + (used - (512 * block + 512)) = omega arith in
    let rest : drop (512 * block + 512) (take used bytes) ≡ take (used - (512 * block + 512)) (drop (512 * block + 512) bytes) =
    ap (λ (n : ℕ). drop (512 * block + 512) (take n bytes)) cut ∙ drop-take (512 * block + 512) (used - (512 * block + 512)) bytes in
    ap (λ (front : List ℕ). front ++ (from ++ drop (512 * block + 512) (take used bytes))) (take-take (512 * block) used bytes (omega arith))
    ∙ ap (λ (back : List ℕ). take (512 * block) bytes ++ (from ++ back)) rest

pub puts_inside : (bytes : List ℕ) (used block k : ℕ) (new from : List ℕ) → k ≡ 512 → new ≡ from → length from ≡ 512 → used ≤ length bytes → block < used / 512
    → take used (put_mid (512 * block) k bytes new) ≡ written (take used bytes) block from
puts_inside bytes used block k new from wide same size within inside =
    let start : length (take (512 * block) bytes) ≡ 512 * block = length-take-le (512 * block) bytes (omega arith) in
    let long : length (take used bytes) ≡ used = length-take-le used bytes within in
    let here : block < length (take used bytes) / 512 = rw long inside in
    let broad : length new ≡ 512 = ap length same ∙ size in
    let cut : used ≡ length (take (512 * block) bytes) + (length new + (used - (512 * block + 512))) = omega arith in
    let after : drop k (drop (512 * block) bytes) ≡ drop (512 * block + 512) bytes =
    drop-drop k (512 * block) bytes ∙ ap (λ (n : ℕ). drop (512 * block + n) bytes) wide in
    ap (λ (n : ℕ). take n (put_mid (512 * block) k bytes new)) cut
    ∙ take-append-add (take (512 * block) bytes) (new ++ drop k (drop (512 * block) bytes)) (length new + (used - (512 * block + 512)))
    ∙ ap (λ (back : List ℕ). take (512 * block) bytes ++ back) (take-append-add new (drop k (drop (512 * block) bytes)) (used - (512 * block + 512)))
    ∙ ap (λ (back : List ℕ). take (512 * block) bytes ++ (new ++ take (used - (512 * block + 512)) back)) after
    ∙ ap (λ (middle : List ℕ). take (512 * block) bytes ++ (middle ++ take (used - (512 * block + 512)) (drop (512 * block + 512) bytes))) same
    ∙ sym (replaced_part bytes used block from (omega arith))
    ∙ sym (written-inside (take used bytes) block from here)

extended_part : (bytes : List ℕ) (used block : ℕ) (from : List ℕ) → used ≤ length bytes
    → extended (take used bytes) block from ≡ take (512 * (used / 512)) bytes ++ (replicate (512 * block - 512 * (used / 512)) 0 ++ from)
extended_part bytes used block from within =
    ap (λ (n : ℕ). take (512 * (n / 512)) (take used bytes) ++ (replicate (512 * block - 512 * (n / 512)) 0 ++ from)) (length-take-le used bytes within)
    ∙ ap (λ (front : List ℕ). front ++ (replicate (512 * block - 512 * (used / 512)) 0 ++ from)) (take-take (512 * (used / 512)) used bytes (omega arith))

-- a buffer whose bytes from `start` to `end` were replaced is at least as long as that
reaches : (xs gap : List ℕ) (start wide : ℕ) → start ≤ length xs → length gap ≡ wide → start + wide ≤ length (put_mid start wide xs gap)
reaches xs gap start wide within size =
    let front : length (take start xs) ≡ start = length-take-le start xs within in
    rw (length-append, length-append) (omega arith)

pub puts_past : (bytes : List ℕ) (used block k : ℕ) (gap new from : List ℕ) → new ≡ from → length from ≡ 512 → used ≤ length bytes → used / 512 ≤ block
    → gap ≡ replicate (512 * block - 512 * (used / 512)) 0
    → take (512 * block + 512) (put_mid (512 * block) k (put_mid (512 * (used / 512)) (512 * block - 512 * (used / 512)) bytes gap) new) ≡ written (take used bytes) block from
puts_past bytes used block k gap new from same size within past clear =
    let broad : length new ≡ 512 = ap length same ∙ size in
    let gap_size : length gap ≡ 512 * block - 512 * (used / 512) = ap length clear ∙ length-replicate {A = ℕ} (512 * block - 512 * (used / 512)) 0 in
    let long : length (take used bytes) ≡ used = length-take-le used bytes within in
    let beyond : length (take used bytes) / 512 ≤ block = rw long past in
    let room : 512 * (used / 512) ≤ length bytes = omega arith in
    let reach : 512 * (used / 512) + (512 * block - 512 * (used / 512)) ≤ length (put_mid (512 * (used / 512)) (512 * block - 512 * (used / 512)) bytes gap) =
    reaches bytes gap (512 * (used / 512)) (512 * block - 512 * (used / 512)) room gap_size in
    take-put_mid (512 * block) k (put_mid (512 * (used / 512)) (512 * block - 512 * (used / 512)) bytes gap) new (512 * block + 512) (omega arith) (omega arith)
    ∙ ap (λ (front : List ℕ). front ++ new) (take-put_mid (512 * (used / 512)) (512 * block - 512 * (used / 512)) bytes gap (512 * block) (omega arith) room)
    ∙ append_assoc (take (512 * (used / 512)) bytes) gap new
    ∙ ap (λ (middle : List ℕ). take (512 * (used / 512)) bytes ++ (middle ++ new)) clear
    ∙ ap (λ (back : List ℕ). take (512 * (used / 512)) bytes ++ (replicate (512 * block - 512 * (used / 512)) 0 ++ back)) same
    ∙ sym (extended_part bytes used block from within)
    ∙ sym (written-past (take used bytes) block from beyond)

pub length-part : (xs : List ℕ) (start wide : ℕ) → start + wide ≤ length xs → length (take wide (drop start xs)) ≡ wide
length-part xs start wide within = length-take-le wide (drop start xs) (rw length-drop (omega arith))
