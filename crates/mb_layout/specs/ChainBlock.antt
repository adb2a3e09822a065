-- A block of the free chain as a value and as bytes (V7 filsys(5)).
use Rattle.std.specs.Prelude.{◌≡◌, ◌<◌, ◌++◌, ℕ, List, length, slice_index}
use Rattle.mb_word.specs.Numbers.{word_bytes}
use Rattle.mb_word.specs.Fields.{chain_count, chain_entry}
use Rattle.mb_layout.specs.Listed.{listed, longs_bytes}
use Rattle.mb_layout.specs.declared.chains.Chain.{Chain}

-- the value that the bytes of the block stand for
abbrev pub chain_at : List ℕ → Chain
chain_at b = record { count = chain_count b; list = listed (chain_entry b) 50 }

-- its 202 bytes
unfoldable pub chain_bytes : Chain → List ℕ
chain_bytes chain = word_bytes chain.count ++ longs_bytes chain.list

-- each field is within the range of its type, and the list has its length
pub record FitsChain (chain : Chain) : Type 0 where
  pub count : chain.count < 65536
  pub items : length chain.list ≡ 50
  pub item : (k : ℕ) → slice_index chain.list k < 4294967296
