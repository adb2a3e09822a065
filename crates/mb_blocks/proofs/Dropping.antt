-- An inode let go, written, and its blocks put back; and the steps for some of the inodes alone.
use Rattle.std.proofs.Common.{ℕ, ◌≡◌, ◌<◌, Bool, true, List, [], ◌++◌, refl, subst, append_assoc}
use Rattle.mb_word.specs.Fields.{isize_of, inode_block}
use Rattle.mb_tree.specs.Blocks.{pointers, first_list, list_in, IsFreeChain}
use Rattle.mb_tree.specs.Places.{Place, IsPlace}
use Rattle.mb_tree.proofs.Chains.{chain_once}
use Rattle.mb_blocks.specs.Conserved.{Conserves}
use Rattle.mb_blocks.specs.FreeLists.{AreFreed, HasFreed, onto}
use Rattle.mb_blocks.specs.Growing.{Reaches}
use Rattle.mb_blocks.specs.Inodes.{IsRewritten}
use Rattle.mb_blocks.specs.Laid.{IsLaid}
use Rattle.mb_blocks.specs.Owners.{Enumerates, without}
use Rattle.mb_blocks.proofs.Conserving.{conserved_less, conserved_then}
use Rattle.mb_blocks.proofs.FreeingAll.{freed_all}
use Rattle.mb_blocks.proofs.LettingGo.{laid_fewer, laid_less}
use Rattle.mb_blocks.proofs.Owning.{without_apart}
use Rattle.mb_blocks.proofs.PartWriting.{rewritten_conserved, rewritten_laid}
use Rattle.mb_blocks.proofs.Reaching.{reached}

module _ (has : ℕ → Bool) (old mid new : ℕ → List ℕ) (ino : ℕ) (list chain : List ℕ) (laid : IsLaid has old [] chain) (is : has ino ≡ true) (lists : Enumerates old ino list)
    (low : inode_block ino < isize_of (old 1)) (written : IsRewritten old mid ino) (freed : AreFreed mid new list) where
  abbrev rest : ℕ → Bool
  rest = without has ino

  less : IsLaid rest old (list ++ []) chain
  less = laid_less has old ino list [] chain laid is lists

  tops : rest ino ≡ true → (p : ℕ) → p < 13 → (pointers mid).top ino p ≡ (pointers old).top ino p
  tops t = absurd (without_apart has ino ino t refl)

  all : HasFreed rest mid new list [] chain (onto list chain)
  all = freed_all rest mid new list [] chain (rewritten_laid rest old mid ino (list ++ []) chain less low written tops) freed

  pub dropped_laid : IsLaid rest new [] (onto list chain)
  dropped_laid = all.laid

  pub dropped_conserved : Conserves has rest old new chain (onto list chain)
  dropped_conserved =
      let once : Conserves rest rest old mid ((list ++ []) ++ chain) ((list ++ []) ++ chain) = rewritten_conserved rest old mid ino (list ++ []) chain less low written tops in
      let both : Conserves rest rest old new ((list ++ []) ++ chain) (onto list chain) =
      conserved_then rest rest rest old mid new ((list ++ []) ++ chain) ((list ++ []) ++ chain) (onto list chain) laid.wide once all.conserves in
      conserved_then has rest rest old old new chain (list ++ chain) (onto list chain) laid.wide (conserved_less has old ino list [] chain laid is lists)
      (subst (λ xs. Conserves rest rest old new xs (onto list chain)) (append_assoc list [] chain) both)

-- the way to a place of one of fewer inodes
pub reached_fewer : (few has : ℕ → Bool) (old new : ℕ → List ℕ) (loose chain left : List ℕ) (q : Place) → ((i : ℕ) → few i ≡ true → has i ≡ true)
    → IsLaid has old loose chain → IsPlace few q → Reaches old new q → IsFreeChain new left → Conserves few few old new (loose ++ chain) (loose ++ left)
reached_fewer few has old new loose chain left q within laid is reaches free =
    let got = reached few loose old new chain q (laid_fewer few has old loose chain within laid) is reaches in
    subst (λ xs. Conserves few few old new (loose ++ chain) (loose ++ xs)) (chain_once (list_in new) (first_list new) got.left left got.laid.free free) got.conserves
