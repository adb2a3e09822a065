-- One inode of a block written: its fields and addresses, and those of the seven others.
use Rattle.std.proofs.Common.{ℕ, ◌≡◌, ◌+◌, ◌*◌, ◌≤◌, inl, inr, List, length, get_or, ap, sym, ◌∙◌, arith}
use Rattle.std.proofs.lemmas.Bool.{cases_lt}
use Rattle.mb_word.specs.Numbers.{put_at, SameFrom}
use Rattle.mb_word.proofs.Parts.{get_or-part}
use Rattle.mb_word.proofs.Writes.{put_at_same, length-put_at}
use Rattle.mb_layout.specs.Inode.{dinode_at, dinode_bytes, address_in}
use Rattle.mb_layout.specs.InodeWrites.{HasDinode, KeepsDinode}
use Rattle.mb_layout.specs.LayoutLaws.{DinodeWritten}
use Rattle.mb_layout.specs.declared.dinodes.Dinode.{Dinode}
use Rattle.mb_layout.proofs.InodeBytes.{length-dinode_bytes, dinode_alike, dinode_back, address_in_area}
use Rattle.mb_layout.proofs.Steps.{alike_same}

-- the value at a place is its fields and addresses
pub has_dinode : (b : List ℕ) (place : ℕ) (d : Dinode) → 64 * place + 64 ≤ length b → dinode_at b place ≡ d → HasDinode b place d
has_dinode b place d in_b is = record {
  mode = ap (λ (x : Dinode). x.mode) is;
  nlink = ap (λ (x : Dinode). x.nlink) is;
  uid = ap (λ (x : Dinode). x.uid) is;
  gid = ap (λ (x : Dinode). x.gid) is;
  size = ap (λ (x : Dinode). x.size) is;
  address = λ k below. address_in_area b place k in_b below ∙ ap (λ x. address_in x k) is;
  byte = ap (λ i. get_or b i 0) (omega arith) ∙ sym (get_or-part b (64 * place + 12) 40 39 (omega arith)) ∙ ap (λ (x : Dinode). get_or x.area 39 0) is;
  atime = ap (λ (x : Dinode). x.atime) is;
  mtime = ap (λ (x : Dinode). x.mtime) is;
  ctime = ap (λ (x : Dinode). x.ctime) is;
}

-- an inode whose 64 bytes stay
pub keeps_dinode : (old new : List ℕ) (place : ℕ) → 64 * place + 64 ≤ length old → 64 * place + 64 ≤ length new → SameFrom new old (64 * place) 64 → KeepsDinode old new place
keeps_dinode old new place in_old in_new same =
    let is : dinode_at new place ≡ dinode_at old place = dinode_alike new old place place in_new in_old (alike_same new old (64 * place) 64 same) in
    record {
      mode = ap (λ (x : Dinode). x.mode) is;
      nlink = ap (λ (x : Dinode). x.nlink) is;
      uid = ap (λ (x : Dinode). x.uid) is;
      gid = ap (λ (x : Dinode). x.gid) is;
      size = ap (λ (x : Dinode). x.size) is;
      address = λ k below. address_in_area new place k in_new below ∙ ap (λ x. address_in x k) is ∙ sym (address_in_area old place k in_old below);
      atime = ap (λ (x : Dinode). x.atime) is;
      mtime = ap (λ (x : Dinode). x.mtime) is;
      ctime = ap (λ (x : Dinode). x.ctime) is;
      bytes = same;
    }

pub dinode_written : DinodeWritten
dinode_written b place d long below fits =
    let new = put_at b (64 * place) (dinode_bytes d) in
    let len : length (dinode_bytes d) ≡ 64 = length-dinode_bytes d fits.area in
    let sized : length new ≡ 512 = length-put_at b (64 * place) (dinode_bytes d) (omega arith) ∙ long in
    record {
      sized = sized;
      here = has_dinode new place d (omega arith) (dinode_back b place d (omega arith) fits);
      others = λ other within apart. keeps_dinode b new other (omega arith) (omega arith)
          (put_at_same b (64 * place) (dinode_bytes d) (64 * other) 64 (omega arith) (elim (cases_lt other place) [
            | inl before ↦ inl (omega arith)
            | inr after ↦ inr (omega arith)
          ]));
    }
