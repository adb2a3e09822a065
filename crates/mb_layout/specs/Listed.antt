-- Lists of numbers in a block.
use Rattle.std.specs.Prelude.{ℕ, List, map}
use Rattle.std.specs.List.{range_with_len, flat_map}
use Rattle.mb_word.specs.Numbers.{word_bytes, long_bytes}

-- the first n values of a function of the index
unfoldable pub listed : (ℕ → ℕ) → ℕ → List ℕ
listed f n = map f (range_with_len 0 n)

-- the bytes of words, and of longs, one after the other
unfoldable pub words_bytes : List ℕ → List ℕ
words_bytes xs = flat_map word_bytes xs

unfoldable pub longs_bytes : List ℕ → List ℕ
longs_bytes xs = flat_map long_bytes xs
