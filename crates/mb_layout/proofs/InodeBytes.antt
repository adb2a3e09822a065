-- An inode and its bytes: what was written reads back, what was read writes back, and the other inodes
-- of the block stay.
use Rattle.std.proofs.Common.{ℕ, ◌≡◌, ◌≢◌, ◌+◌, ◌*◌, ◌<◌, ◌≤◌, inl, inr, List, ◌++◌, length, take, drop, get_or, refl, sym, ap, ◌∙◌, arith}
use Rattle.std.proofs.lemmas.Bool.{cases_lt}
use Rattle.std.proofs.lemmas.List.{append_assoc, length-append, take_at}
use Rattle.mb_word.specs.Numbers.{word_at, long_at, put_at, word_bytes, long_bytes, AreBytes}
use Rattle.mb_word.specs.Fields.{area_of, address_of}
use Rattle.mb_word.proofs.Parts.{part_unchanged, part_behind, long_behind, get_or-part, length-part}
use Rattle.mb_word.proofs.Values.{length-word_bytes, length-long_bytes, word_unchanged, long_unchanged}
use Rattle.mb_word.proofs.Writes.{put_at_same, length-put_at}
use Rattle.mb_layout.specs.Inode.{dinode_at, dinode_bytes, address_in, FitsDinode}
use Rattle.mb_layout.specs.declared.dinodes.Dinode.{Dinode}
use Rattle.mb_layout.proofs.Steps.{Put, more, Alike, alike_part, alike_same, alike_put, word_alike, long_alike, addr_alike, part_alike}

-- the nine writes, one behind the other, are the write of the inode's bytes
pub dinode_put : (b b1 b2 b3 b4 b5 b6 b7 b8 b9 : List ℕ) (at : ℕ) (d : Dinode) → at + 64 ≤ length b → length d.area ≡ 40
    → b1 ≡ put_at b at (word_bytes d.mode)
    → b2 ≡ put_at b1 (at + 2) (word_bytes d.nlink)
    → b3 ≡ put_at b2 (at + 4) (word_bytes d.uid)
    → b4 ≡ put_at b3 (at + 6) (word_bytes d.gid)
    → b5 ≡ put_at b4 (at + 8) (long_bytes d.size)
    → b6 ≡ put_at b5 (at + 12) d.area
    → b7 ≡ put_at b6 (at + 52) (long_bytes d.atime)
    → b8 ≡ put_at b7 (at + 56) (long_bytes d.mtime)
    → b9 ≡ put_at b8 (at + 60) (long_bytes d.ctime)
    → Put b b9 at 64 (dinode_bytes d)
unfolding dinode_bytes
dinode_put b b1 b2 b3 b4 b5 b6 b7 b8 b9 at d fits area e1 e2 e3 e4 e5 e6 e7 e8 e9 =
    let p1 : Put b b1 at 2 (word_bytes d.mode) = record { len = length-word_bytes d.mode; put = e1 } in
    let p2 = more p1 (word_bytes d.nlink) 2 (length-word_bytes d.nlink) (omega arith) e2 in
    let p3 = more p2 (word_bytes d.uid) 2 (length-word_bytes d.uid) (omega arith) e3 in
    let p4 = more p3 (word_bytes d.gid) 2 (length-word_bytes d.gid) (omega arith) e4 in
    let p5 = more p4 (long_bytes d.size) 4 (length-long_bytes d.size) (omega arith) e5 in
    let p6 = more p5 d.area 40 area (omega arith) e6 in
    let p7 = more p6 (long_bytes d.atime) 4 (length-long_bytes d.atime) (omega arith) e7 in
    let p8 = more p7 (long_bytes d.mtime) 4 (length-long_bytes d.mtime) (omega arith) e8 in
    more p8 (long_bytes d.ctime) 4 (length-long_bytes d.ctime) (omega arith) e9

-- the bytes before the area, and those behind it
head : Dinode → List ℕ
head d = word_bytes d.mode ++ (word_bytes d.nlink ++ (word_bytes d.uid ++ (word_bytes d.gid ++ long_bytes d.size)))

tail : Dinode → List ℕ
tail d = long_bytes d.atime ++ (long_bytes d.mtime ++ long_bytes d.ctime)

pieces : (d : Dinode) → dinode_bytes d ≡ head d ++ (d.area ++ tail d)
unfolding dinode_bytes head tail
pieces d = simp append_assoc

length-head : (d : Dinode) → length (head d) ≡ 12
unfolding head word_bytes long_bytes
length-head d = refl

pub length-dinode_bytes : (d : Dinode) → length d.area ≡ 40 → length (dinode_bytes d) ≡ 64
unfolding head tail word_bytes long_bytes
length-dinode_bytes d area = ap length (pieces d) ∙ omega (arith, length-append (head d) (d.area ++ tail d), length-append d.area (tail d))

-- the bytes before the area as a list read to its end
front : (d : Dinode) (rest : List ℕ) → FitsDinode d
    → (word_at (head d ++ rest) 0 ≡ d.mode) × (word_at (head d ++ rest) 2 ≡ d.nlink) × (word_at (head d ++ rest) 4 ≡ d.uid)
    × (word_at (head d ++ rest) 6 ≡ d.gid) × (long_at (head d ++ rest) 8 ≡ d.size)
unfolding head word_bytes long_bytes word_at long_at
front d rest fits = (omega arith, omega arith, omega arith, omega arith, omega arith)

back : (d : Dinode) → FitsDinode d
    → (long_at (tail d) 0 ≡ d.atime) × (long_at (tail d) 4 ≡ d.mtime) × (long_at (tail d) 8 ≡ d.ctime)
unfolding tail word_bytes long_bytes word_at long_at
back d fits = (omega arith, omega arith, omega arith)

-- an inode's bytes alone
pub dinode_of_bytes : (d : Dinode) → FitsDinode d → dinode_at (dinode_bytes d) 0 ≡ d
dinode_of_bytes d fits =
    let low = front d (d.area ++ tail d) fits in
    let high = back d fits in
    let before = length-head d in
    let late : (k : ℕ) → long_at (head d ++ (d.area ++ tail d)) (52 + k) ≡ long_at (tail d) k =
    λ k. ap (long_at (head d ++ (d.area ++ tail d))) (omega arith)
    ∙ long_behind (head d) (d.area ++ tail d) 12 (40 + k) before
    ∙ long_behind d.area (tail d) 40 k fits.area in
    let area : take 40 (drop 12 (head d ++ (d.area ++ tail d))) ≡ d.area =
    part_behind (head d) (d.area ++ tail d) 12 0 40 before ∙ take_at d.area (tail d) 40 fits.area in
    ap (λ r. dinode_at r 0) (pieces d) ∙ (λ i. record {
      mode = low.0 i;
      nlink = low.1 i;
      uid = low.2 i;
      gid = low.3 i;
      size = low.4 i;
      area = area i;
      atime = (late 0 ∙ high.0) i;
      mtime = (late 4 ∙ high.1) i;
      ctime = (late 8 ∙ high.2) i;
    })

-- an inode is read from its own 64 bytes
pub dinode_alike : (a b : List ℕ) (p q : ℕ) → 64 * p + 64 ≤ length a → 64 * q + 64 ≤ length b → Alike a b (64 * p) (64 * q) 64 → dinode_at a p ≡ dinode_at b q
dinode_alike a b p q in_a in_b same =
    let part : (j m : ℕ) → j + m ≤ 64 → Alike a b (64 * p + j) (64 * q + j) m = λ j m within. alike_part a b (64 * p) (64 * q) 64 j m same within in
    λ i. record {
      mode = word_alike a b (64 * p) (64 * q) (λ k below. same k (omega arith)) i;
      nlink = word_alike a b (64 * p + 2) (64 * q + 2) (part 2 2 (omega arith)) i;
      uid = word_alike a b (64 * p + 4) (64 * q + 4) (part 4 2 (omega arith)) i;
      gid = word_alike a b (64 * p + 6) (64 * q + 6) (part 6 2 (omega arith)) i;
      size = long_alike a b (64 * p + 8) (64 * q + 8) (part 8 4 (omega arith)) i;
      area = part_alike a b (64 * p + 12) (64 * q + 12) 40 (omega arith) (omega arith) (part 12 40 (omega arith)) i;
      atime = long_alike a b (64 * p + 52) (64 * q + 52) (part 52 4 (omega arith)) i;
      mtime = long_alike a b (64 * p + 56) (64 * q + 56) (part 56 4 (omega arith)) i;
      ctime = long_alike a b (64 * p + 60) (64 * q + 60) (part 60 4 (omega arith)) i;
    }

-- what was written reads back
pub dinode_back : (b : List ℕ) (place : ℕ) (d : Dinode) → 64 * place + 64 ≤ length b → FitsDinode d → dinode_at (put_at b (64 * place) (dinode_bytes d)) place ≡ d
dinode_back b place d in_b fits =
    let len = length-dinode_bytes d fits.area in
    let z = put_at b (64 * place) (dinode_bytes d) in
    let same : length z ≡ length b = length-put_at b (64 * place) (dinode_bytes d) (omega arith) in
    dinode_alike z (dinode_bytes d) place 0 (omega arith) (omega arith)
    (λ k below. alike_put b (64 * place) (dinode_bytes d) (omega arith) k (omega arith))
    ∙ dinode_of_bytes d fits

-- what was read, written where it stood, changes nothing
pub dinode_unchanged : (b : List ℕ) (place : ℕ) → AreBytes b → 64 * place + 64 ≤ length b → put_at b (64 * place) (dinode_bytes (dinode_at b place)) ≡ b
dinode_unchanged b place bytes in_b =
    let at = 64 * place in
    sym (dinode_put b b b b b b b b b b at (dinode_at b place) in_b (length-part b (at + 12) 40 (omega arith))
    (sym (word_unchanged b at bytes (omega arith)))
    (sym (word_unchanged b (at + 2) bytes (omega arith)))
    (sym (word_unchanged b (at + 4) bytes (omega arith)))
    (sym (word_unchanged b (at + 6) bytes (omega arith)))
    (sym (long_unchanged b (at + 8) bytes (omega arith)))
    (sym (part_unchanged b (at + 12) 40 (omega arith)))
    (sym (long_unchanged b (at + 52) bytes (omega arith)))
    (sym (long_unchanged b (at + 56) bytes (omega arith)))
    (sym (long_unchanged b (at + 60) bytes (omega arith)))).put

-- the other inodes of the block stay
pub dinode_others : (b : List ℕ) (place other : ℕ) (d : Dinode) → 64 * place + 64 ≤ length b → 64 * other + 64 ≤ length b → length d.area ≡ 40 → other ≢ place → dinode_at (put_at b (64 * place) (dinode_bytes d)) other ≡ dinode_at b other
dinode_others b place other d in_b other_in_b area apart =
    let len = length-dinode_bytes d area in
    let z = put_at b (64 * place) (dinode_bytes d) in
    let same : length z ≡ length b = length-put_at b (64 * place) (dinode_bytes d) (omega arith) in
    dinode_alike z b other other (omega arith) other_in_b
    (alike_same z b (64 * other) 64 (put_at_same b (64 * place) (dinode_bytes d) (64 * other) 64 (omega arith) (elim (cases_lt other place) [
      | inl below ↦ inl (omega arith)
      | inr above ↦ inr (omega arith)
    ])))

-- an inode's addresses are read from its area
pub address_in_area : (b : List ℕ) (place k : ℕ) → 64 * place + 64 ≤ length b → k < 13 → address_of b place k ≡ address_in (dinode_at b place) k
address_in_area b place k in_b below =
    addr_alike b (area_of b place) (64 * place + 12 + 3 * k) (3 * k)
    (λ j within. ap (λ i. get_or b i 0) (omega arith) ∙ sym (get_or-part b (64 * place + 12) 40 (3 * k + j) (omega arith)))
