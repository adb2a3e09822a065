-- The bytes of inodes that a step on blocks leaves as they are.
use Rattle.std.proofs.Common.{ℕ, ◌≡◌, ◌≢◌, ◌<◌, List, slice_index, refl, ap, ◌∙◌, arith}
use Rattle.mb_word.specs.Fields.{isize_of, inode_block}
use Rattle.mb_word.specs.Numbers.{SameFrom}
use Rattle.mb_blocks.proofs.Keeping.{sizes_same}
use Rattle.mb_blocks.specs.Inodes.{KeepsFields}

pub fields_off : (old new : ℕ → List ℕ) (ino : ℕ) → SameFrom (new 1) (old 1) 0 6 → SameFrom (new 1) (old 1) 208 304 → ((block : ℕ) → block ≢ 1 → block < isize_of (old 1) → new block ≡ old block)
    → inode_block ino < isize_of (old 1) → KeepsFields old new ino
fields_off old new ino front back low within = record {
  front = front;
  back = back;
  head = λ k from to. ap (λ (b : List ℕ). slice_index b k) (low (inode_block ino) (omega arith) within);
  tail = λ k from to. ap (λ (b : List ℕ). slice_index b k) (low (inode_block ino) (omega arith) within);
  beside = λ other some listed apart k from to. ap (λ (b : List ℕ). slice_index b k) (low (inode_block other) (omega arith) listed);
}

pub fields_same : (blocks : ℕ → List ℕ) (ino : ℕ) → KeepsFields blocks blocks ino
fields_same blocks ino = record { front = λ k from to. refl; back = λ k from to. refl; head = λ k from to. refl; tail = λ k from to. refl; beside = λ other some listed apart k from to. refl }

pub fields_then : (old mid new : ℕ → List ℕ) (ino : ℕ) → KeepsFields old mid ino → KeepsFields mid new ino → KeepsFields old new ino
fields_then old mid new ino one two =
    let same = sizes_same old mid one.front in
    record {
      front = λ k from to. two.front k from to ∙ one.front k from to;
      back = λ k from to. two.back k from to ∙ one.back k from to;
      head = λ k from to. two.head k from to ∙ one.head k from to;
      tail = λ k from to. two.tail k from to ∙ one.tail k from to;
      beside = λ other some listed apart k from to. two.beside other some (omega (arith, listed, same.0)) apart k from to ∙ one.beside other some listed apart k from to;
    }
