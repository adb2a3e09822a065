-- A chain block's list and its bytes: what was written reads back, and what was read writes back.
use Rattle.std.proofs.Common.{ℕ, ◌≡◌, ◌+◌, ◌*◌, ◌<◌, ◌≤◌, inr, List, [], length, get_or, sym, ap, ◌∙◌, arith}
use Rattle.std.proofs.lemmas.List.{append-nil}
use Rattle.mb_word.specs.Numbers.{word_at, long_at, put_at, word_bytes, AreBytes, SameFrom}
use Rattle.mb_word.specs.Fields.{chain_entry}
use Rattle.mb_word.proofs.Parts.{long_behind}
use Rattle.mb_word.proofs.Values.{length-word_bytes, word_unchanged}
use Rattle.mb_word.proofs.Writes.{put_at_same}
use Rattle.mb_layout.specs.ChainBlock.{chain_at, chain_bytes, FitsChain}
use Rattle.mb_layout.specs.Listed.{listed, longs_bytes}
use Rattle.mb_layout.specs.declared.chains.Chain.{Chain}
use Rattle.mb_layout.proofs.NumberLists.{listed_is, length-listed, length-longs_bytes, longs_item, longs_unchanged}
use Rattle.mb_layout.proofs.Steps.{Put, more, Alike, alike_front, alike_put, word_alike, long_alike}

-- the two writes, one behind the other, are the write of the list's bytes
pub chain_put : (b b1 b2 : List ℕ) (chain : Chain) → 202 ≤ length b → length chain.list ≡ 50
    → b1 ≡ put_at b 0 (word_bytes chain.count) → b2 ≡ put_at b1 2 (longs_bytes chain.list) → Put b b2 0 202 (chain_bytes chain)
unfolding chain_bytes
chain_put b b1 b2 chain fits len e1 e2 =
    let p1 : Put b b1 0 2 (word_bytes chain.count) = record { len = length-word_bytes chain.count; put = e1 } in
    more p1 (longs_bytes chain.list) 200 (omega (arith, length-longs_bytes chain.list)) (omega arith) e2

pub length-chain_bytes : (chain : Chain) → length chain.list ≡ 50 → length (chain_bytes chain) ≡ 202
unfolding chain_bytes word_bytes
length-chain_bytes chain len = omega (arith, length-longs_bytes chain.list)

count_first : (chain : Chain) → FitsChain chain → word_at (chain_bytes chain) 0 ≡ chain.count
unfolding chain_bytes word_bytes word_at
count_first chain fits = omega arith

item_behind : (chain : Chain) → FitsChain chain → (k : ℕ) → k < 50 → long_at (chain_bytes chain) (2 + 4 * k) ≡ get_or chain.list k 0
unfolding chain_bytes
item_behind chain fits k below =
    long_behind (word_bytes chain.count) (longs_bytes chain.list) 2 (4 * k) (length-word_bytes chain.count)
    ∙ ap (λ r. long_at r (4 * k)) (sym (append-nil (longs_bytes chain.list)))
    ∙ longs_item chain.list [] k (omega arith) (fits.item k)

-- what was written reads back
pub chain_back : (b : List ℕ) (chain : Chain) → 202 ≤ length b → FitsChain chain → chain_at (put_at b 0 (chain_bytes chain)) ≡ chain
chain_back b chain in_b fits =
    let len = length-chain_bytes chain fits.items in
    let z = put_at b 0 (chain_bytes chain) in
    let same : Alike z (chain_bytes chain) 0 0 202 = λ k below. alike_put b 0 (chain_bytes chain) (omega arith) k (omega arith) in
    let count = word_alike z (chain_bytes chain) 0 0 (λ k below. same k (omega arith)) ∙ count_first chain fits in
    let list : listed (chain_entry z) 50 ≡ chain.list =
    sym (listed_is (chain_entry z) chain.list 50 fits.items (λ k below.
    sym (long_alike z (chain_bytes chain) (2 + 4 * k) (2 + 4 * k) (alike_front z (chain_bytes chain) 202 (2 + 4 * k) 4 same (omega arith)) ∙ item_behind chain fits k below))) in
    λ i. record { count = count i; list = list i }

-- what was read, written where it stood, changes nothing
pub chain_unchanged : (b : List ℕ) → AreBytes b → 202 ≤ length b → put_at b 0 (chain_bytes (chain_at b)) ≡ b
chain_unchanged b bytes in_b =
    sym (chain_put b b b (chain_at b) in_b (length-listed (chain_entry b) 50)
    (sym (word_unchanged b 0 bytes (omega arith)))
    (sym (longs_unchanged b 2 50 bytes (omega arith)))).put

-- what stands behind the list stays
pub chain_kept : (b : List ℕ) (chain : Chain) → length b ≡ 512 → length chain.list ≡ 50 → SameFrom (put_at b 0 (chain_bytes chain)) b 202 310
chain_kept b chain in_b items =
    let len = length-chain_bytes chain items in
    put_at_same b 0 (chain_bytes chain) 202 310 (omega arith) (inr (omega arith))
