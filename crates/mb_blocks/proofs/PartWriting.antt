-- The bytes of a part written where it stands, and the fields of an inode that lead to no block.
use Rattle.std.proofs.Common.{ℕ, ◌≡◌, ◌≢◌, inl, inr, ◌<◌, ◌≤◌, Bool, true, List, ◌++◌, length, slice_index, Some, refl, sym, ap, subst, ◌∙◌, arith}
use Rattle.std.proofs.lemmas.Bool.{cases_eq}
use Rattle.std.proofs.lemmas.List.Elements.{All-weaker}
use Rattle.mb_word.specs.Fields.{isize_of, nfree_of, free_of, inode_block, inode_place, address_of, index_entry}
use Rattle.mb_tree.specs.Blocks.{pointers, part_address, part_in, first_list, list_in}
use Rattle.mb_tree.specs.Cost.{most_parts}
use Rattle.mb_tree.specs.Places.{Place, at, level, IsPlace, place_of}
use Rattle.mb_tree.specs.Volume.{IsOpenToFiles}
use Rattle.mb_blocks.specs.FreeLists.{IsSameList}
use Rattle.mb_blocks.specs.Laid.{IndexesLeadOn, IsBare, IsLaid}
use Rattle.mb_blocks.specs.Owners.{ino_of, without}
use Rattle.mb_blocks.specs.Pointing.{KeepsHeld, KeepsPointers}
use Rattle.mb_blocks.proofs.Freeing.{same_list}
use Rattle.mb_blocks.specs.Conserved.{Conserves}
use Rattle.mb_blocks.proofs.Conserving.{conserved_by}
use Rattle.mb_blocks.proofs.InodeStays.{top_stays}
use Rattle.mb_blocks.proofs.Keeping.{laid_kept, laid_listed, listed_held}
use Rattle.mb_blocks.proofs.Listing.{chain_alike}
use Rattle.mb_blocks.proofs.Owning.{place_apart, place_was, without_has}
use Rattle.mb_blocks.proofs.PartBytes.{part_found}
use Rattle.mb_blocks.proofs.PartPlaces.{part_place, place_is, place_once}
use Rattle.mb_blocks.proofs.Pointing.{at_alike, its_pointers}
use Rattle.mb_blocks.proofs.Reached.{part_by}
use Rattle.mb_blocks.proofs.Rearranged.{all_right}
use Rattle.mb_blocks.specs.Inodes.{IsRewritten}

-- index blocks lead on as they did where the addresses stay
pub lead_pointers : (has : ℕ → Bool) (old new : ℕ → List ℕ) → KeepsPointers has old new → IndexesLeadOn has old → IndexesLeadOn has new
lead_pointers has old new keeps leads q h up some =
    let e = at_alike has old new keeps q h in
    let was : 0 < at (pointers old) q = omega (arith, some, e) in
    let on = leads q h up was in
    let same : new (at (pointers new) q) ≡ old (at (pointers old) q) = ap new e ∙ keeps.indexes q h up was in
    (on.0, on.1, λ none. on.2 (ap (λ b. index_entry b on.0) (sym same) ∙ none))

module _ (has : ℕ → Bool) (old new : ℕ → List ℕ) (ino part : ℕ) (loose chain : List ℕ) (laid : IsLaid has old loose chain) (is : has ino ≡ true) (below : part < most_parts)
    (some : 0 < part_address old ino part) (others : (block : ℕ) → block ≢ part_address old ino part → new block ≡ old block) (long : length (new (part_address old ino part)) ≡ 512) where
  place : IsPlace has (place_of ino part)
  place = place_is has ino part is below

  bottom : level (place_of ino part) ≡ 0
  bottom = (part_place ino part below).bottom

  open_to : IsOpenToFiles old (part_address old ino part)
  open_to = laid.in_range (place_of ino part) place some

  pub low_same : (block : ℕ) → block < isize_of (old 1) → new block ≡ old block
  low_same block low = others block (let from = open_to.from in omega (arith, from, low))

  pub first_same : new 1 ≡ old 1
  first_same = low_same 1 (let wide = laid.wide in omega (arith, wide))

  off_place : (q : Place) → IsPlace has q → 0 < at (pointers old) q → (q ≡ place_of ino part → ⊥) → new (at (pointers old) q) ≡ old (at (pointers old) q)
  off_place q h there apart = others (at (pointers old) q) (λ e. apart (laid.once q (place_of ino part) h place there e))

  pub written_pointers : KeepsPointers has old new
  written_pointers = record {
    tops = λ i p h low. ap (λ (b : List ℕ). address_of b (inode_place i) p) (low_same (inode_block i) (laid.inodes i h).1);
    indexes = λ q h up there. off_place q h there (λ e. (let l : level q ≡ level (place_of ino part) = ap level e in let b = bottom in omega (arith, up, l, b)));
  }

  pub written_laid : IsLaid has new loose chain
  written_laid =
      laid_kept has old new (λ k from to. ap (λ (b : List ℕ). slice_index b k) first_same) written_pointers loose chain loose chain laid
      (λ b. elim (cases_eq b (part_address old ino part)) [
        | inl e ↦ ap (λ x. length (new x)) e ∙ long
        | inr apart ↦ ap length (others b apart) ∙ laid.sized b
      ])
      (chain_alike (list_in old) (list_in new) (first_list old) (first_list new) chain
      (All-weaker (IsBare has old) (λ b. list_in old b ≡ list_in new b) (λ b bare. same_list old new b (others b (λ e. bare (place_of ino part) place (sym e)))) chain
      (all_right (IsBare has old) loose chain laid.spare.bare))
      (subst (λ (bytes : List ℕ). IsSameList (record { count = nfree_of bytes; entry = free_of bytes }) (first_list old)) (sym first_same) (record { count = refl; entry = λ j low. refl })) laid.free)
      laid.spare

  pub written_others : KeepsHeld (without has ino) old new
  written_others = record {
    tops = λ i p h low. written_pointers.tops i p (without_has has ino i h) low;
    blocks = λ q h there. off_place q (place_was has ino q h) there
        (λ e. place_apart has ino q h (ap ino_of e ∙ (part_place ino part below).owner));
  }

  pub beside_part : (p : ℕ) → p ≢ part → part_in new ino p ≡ part_in old ino p
  beside_part p apart =
      part_by old new ino p
      (λ low. at_alike has old new written_pointers (place_of ino p) (place_is has ino p is low))
      (λ low there. off_place (place_of ino p) (place_is has ino p is low) there (λ e. apart (place_once ino p ino part low below e).1))

  pub written_part : part_in new ino part ≡ Some (new (part_address old ino part))
  written_part = part_found new ino part (part_address old ino part) below (at_alike has old new written_pointers (place_of ino part) place) some

-- ---- an inode written whose addresses stay

module _ (has : ℕ → Bool) (old new : ℕ → List ℕ) (ino : ℕ) (loose chain : List ℕ) (laid : IsLaid has old loose chain) (low : inode_block ino < isize_of (old 1)) (written : IsRewritten old new ino)
    (tops : has ino ≡ true → (p : ℕ) → p < 13 → (pointers new).top ino p ≡ (pointers old).top ino p) where
  pub rewritten_sized : (block : ℕ) → length (new block) ≡ 512
  rewritten_sized block = elim (cases_eq block (inode_block ino)) [
    | inl e ↦ ap (λ b. length (new b)) e ∙ written.sized
    | inr apart ↦ ap length (written.others block apart) ∙ laid.sized block
  ]

  pub rewritten_first : new 1 ≡ old 1
  rewritten_first = written.others 1 (omega arith)

  beyond : (block : ℕ) → isize_of (old 1) ≤ block → new block ≡ old block
  beyond block from = written.others block (omega (arith, low, from))

  all_tops : (i p : ℕ) → has i ≡ true → p < 13 → (pointers new).top i p ≡ (pointers old).top i p
  all_tops i p h few = elim (cases_eq i ino) [
    | inl same ↦ subst (λ x. (pointers new).top x p ≡ (pointers old).top x p) (sym same) (tops (sym (ap has same) ∙ h) p few)
    | inr apart ↦ top_stays old new i (rewritten_sized (inode_block i)) (laid.sized (inode_block i)) (written.beside i (laid.inodes i h).0 apart) p few
  ]

  pub rewritten_held : KeepsHeld has old new
  rewritten_held = listed_held has old new loose chain laid rewritten_first beyond rewritten_sized all_tops

  pub rewritten_laid : IsLaid has new loose chain
  rewritten_laid = laid_listed has old new loose chain laid rewritten_first beyond rewritten_sized all_tops

  pub rewritten_conserved : Conserves has has old new (loose ++ chain) (loose ++ chain)
  rewritten_conserved =
      conserved_by has old new (loose ++ chain) (loose ++ chain) (its_pointers has old new rewritten_held) (λ b among. among) (λ b among. among)
      (λ b from unhad. beyond b from) (written.others 0 (omega arith)) (λ k from to. ap (λ (b : List ℕ). slice_index b k) rewritten_first)
