-- The entries of an index block, and the addresses of an inode's area: what was written reads back, and
-- the others stay.
use Rattle.std.proofs.Common.{ℕ, ◌≡◌, ◌≢◌, ◌+◌, ◌*◌, ◌<◌, ◌≤◌, inl, inr, List, length, get_or, arith}
use Rattle.std.proofs.lemmas.Bool.{cases_lt}
use Rattle.mb_word.specs.Numbers.{addr_at, put_at, long_bytes, addr_bytes, AreBytes}
use Rattle.mb_word.specs.Fields.{index_entry}
use Rattle.mb_word.proofs.Values.{long_at-same, addr_at-same, long_back, long_unchanged, length-long_bytes, length-addr_bytes}
use Rattle.mb_word.proofs.Writes.{put_at_same, put_at_kept}

pub index_back : (b : List ℕ) (place address : ℕ) → 4 * place + 4 ≤ length b → address < 4294967296 → index_entry (put_at b (4 * place) (long_bytes address)) place ≡ address
index_back b place address in_b small = long_back b (4 * place) address in_b small

pub index_unchanged : (b : List ℕ) (place : ℕ) → AreBytes b → 4 * place + 4 ≤ length b → put_at b (4 * place) (long_bytes (index_entry b place)) ≡ b
index_unchanged b place bytes in_b = long_unchanged b (4 * place) bytes in_b

pub index_others : (b : List ℕ) (place other address : ℕ) → 4 * place + 4 ≤ length b → other ≢ place → index_entry (put_at b (4 * place) (long_bytes address)) other ≡ index_entry b other
index_others b place other address in_b apart =
    let len = length-long_bytes address in
    long_at-same (put_at b (4 * place) (long_bytes address)) b (4 * other) (put_at_same b (4 * place) (long_bytes address) (4 * other) 4 (omega arith) (elim (cases_lt other place) [
      | inl below ↦ inl (omega arith)
      | inr above ↦ inr (omega arith)
    ]))

-- the other addresses of an area
pub address_others : (area : List ℕ) (place other address : ℕ) → 3 * place + 3 ≤ length area → other ≢ place → addr_at (put_at area (3 * place) (addr_bytes address)) (3 * other) ≡ addr_at area (3 * other)
address_others area place other address in_area apart =
    let len = length-addr_bytes address in
    addr_at-same (put_at area (3 * place) (addr_bytes address)) area (3 * other) (put_at_same area (3 * place) (addr_bytes address) (3 * other) 3 (omega arith) (elim (cases_lt other place) [
      | inl below ↦ inl (omega arith)
      | inr above ↦ inr (omega arith)
    ]))

-- the byte behind the addresses
pub spare_kept : (area : List ℕ) (place address : ℕ) → place < 13 → length area ≡ 40 → get_or (put_at area (3 * place) (addr_bytes address)) 39 0 ≡ get_or area 39 0
spare_kept area place address below len =
    let three = length-addr_bytes address in
    put_at_kept area (3 * place) (addr_bytes address) 39 (omega arith) (inr (omega arith))
