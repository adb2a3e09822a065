-- Steps that take no address away: what is had after them was had before.
use Rattle.std.proofs.Common.{ℕ, ◌≡◌, inl, inr, ◌<◌, Bool, true, ◌&&◌, List, [], sym, ap, subst, ◌∙◌, arith}
use Rattle.std.specs.List.{Contains}
use Rattle.std.proofs.lemmas.List.Elements.{All-contains}
use Rattle.mb_kinds.specs.Image.{Image}
use Rattle.mb_tree.specs.Blocks.{pointers, first_list, list_in}
use Rattle.mb_tree.specs.Places.{Place, at, IsPlace}
use Rattle.mb_tree.specs.Volume.{body_has_addresses, has_addresses, node_has_addresses}
use Rattle.mb_tree.specs.declared.nodes.Node.{Node}
use Rattle.mb_tree.specs.declared.trees.Tree.{Tree}
use Rattle.mb_tree.proofs.Chains.{chain_once}
use Rattle.mb_tree.proofs.FiniteMaps.{get_here, get_there, one_or_not}
use Rattle.mb_blocks.specs.Conserved.{Conserves}
use Rattle.mb_blocks.specs.Laid.{IsBare, IsHad, IsLaid}
use Rattle.mb_blocks.specs.Laid.IsHad.{by_none, by_place}
use Rattle.mb_blocks.specs.Owners.{ino_of}
use Rattle.mb_blocks.specs.Pointing.{KeepsPointers}
use Rattle.mb_blocks.proofs.Owning.{place_over}
use Rattle.mb_blocks.proofs.Pointing.{at_alike}
use Rattle.mb_nodes.specs.Stored.{Follows, IsStored, with_node}
use Rattle.mb_nodes.specs.Underway.{AgreesOff, IsUnderway}
use Rattle.mb_moves.specs.Advancing.{Advances}
use Rattle.mb_moves.specs.Looking.{looked_at}
use Rattle.mb_moves.proofs.Nearness.{advances_by, and_both, and_left, and_right, had_over, place_tested, tested_place}

-- every address that is there stays
abbrev pub LosesNone : (ℕ → Bool) → (ℕ → List ℕ) → (ℕ → List ℕ) → Type 0
LosesNone has old new = (q : Place) → IsPlace has q → 0 < at (pointers old) q → at (pointers new) q ≡ at (pointers old) q

pub loses_by : (has : ℕ → Bool) (old new : ℕ → List ℕ) → KeepsPointers has old new → LosesNone has old new
loses_by has old new keeps q h some = at_alike has old new keeps q h

pub loses_then : (has : ℕ → Bool) (old mid new : ℕ → List ℕ) → LosesNone has old mid → LosesNone has mid new → LosesNone has old new
loses_then has old mid new one two q h some = (let e = one q h some in two q h (omega (arith, some, e)) ∙ e)

pub loses_fewer : (few has : ℕ → Bool) (old new : ℕ → List ℕ) → ((i : ℕ) → few i ≡ true → has i ≡ true) → LosesNone has old new → LosesNone few old new
loses_fewer few has old new within one q h some = one q (place_over few has q (within (ino_of q)) h) some

module _ (has more : ℕ → Bool) (old new : ℕ → List ℕ) (chain left : List ℕ) (within : (i : ℕ) → has i ≡ true → more i ≡ true) (laid : IsLaid more new [] left)
    (conserves : Conserves has more old new chain left) (none : LosesNone has old new) (looks : ℕ → Bool) where
  still : (q : Place) → IsPlace has q → IsPlace more q
  still q h = place_over has more q (within (ino_of q)) h

  -- a block that is free now was free
  was_free : (block : ℕ) → 0 < block → Contains left block → IsHad has old chain block → IsHad (λ i. has i && looks i) old chain block
  was_free block some among (by_none was) = by_none was
  was_free block some among (by_place r h e) =
      absurd (All-contains (IsBare more new) left block laid.spare.bare among r (still r h) (none r h (omega (arith, some, e)) ∙ e))

  -- a block that an address leads to now was free, or stood at this address
  was_there : (block : ℕ) → 0 < block → (q : Place) → IsPlace more q → looks (ino_of q) ≡ true → at (pointers new) q ≡ block → IsHad has old chain block → IsHad (λ i. has i && looks i) old chain block
  was_there block some q h t e (by_none was) = by_none was
  was_there block some q h t e (by_place r there f) =
      let g = none r there (omega (arith, some, f)) in
      let same : r ≡ q = laid.once r q (still r there) h (omega (arith, some, f, g)) (g ∙ f ∙ sym e) in
      by_place r (tested_place has looks r there (ap (λ x. looks (ino_of x)) same ∙ t)) f

  pub had_before : (block : ℕ) → 0 < block → IsHad (λ i. more i && looks i) new left block → IsHad (λ i. has i && looks i) old chain block
  had_before block some (by_none among) = was_free block some among (conserves.already block some (by_none among))
  had_before block some (by_place q h e) =
      let is = place_tested more looks q h in
      was_there block some q is.0 is.1 e (conserves.already block some (by_place q is.0 e))

-- such a step at one inode, which is put into the tree
module _ (image : Image) (tree : Tree) (chain : List ℕ) (stored : IsStored image tree chain) (ino : ℕ) (has : ℕ → Bool) (agrees : AgreesOff tree ino has) (joins : has_addresses tree ino ≡ true → has ino ≡ true)
    (now : ℕ → List ℕ) (left : List ℕ) (under : IsUnderway image tree chain ino has now left) (none : LosesNone (has_addresses tree) image.at now) (node : Node) (is : body_has_addresses node.body ≡ true → has ino ≡ true)
    (looks : ℕ → Bool) where
  within : (i : ℕ) → has_addresses tree i ≡ true → has i ≡ true
  within i t = elim (one_or_not i ino) [
    | inl e ↦ ap has e ∙ joins (ap (has_addresses tree) (sym e) ∙ t)
    | inr apart ↦ agrees i apart ∙ t
  ]

  next_within : (i : ℕ) → has_addresses (with_node tree ino node) i ≡ true → has i ≡ true
  next_within i t = elim (one_or_not i ino) [
    | inl e ↦ ap has e ∙ is (sym (ap node_has_addresses (get_here tree.nodes ino node)) ∙ ap (has_addresses (with_node tree ino node)) (sym e) ∙ t)
    | inr apart ↦ agrees i apart ∙ sym (ap node_has_addresses (get_there tree.nodes ino node i apart)) ∙ t
  ]

  over : (i : ℕ) → looked_at (with_node tree ino node) looks i ≡ true → (has i && looks i) ≡ true
  over i t =
      and_both (has i) (looks i) (next_within i (and_left (has_addresses (with_node tree ino node) i) (looks i) t))
      (and_right (has_addresses (with_node tree ino node) i) (looks i) t)

  pub grown_advances : (free : List ℕ) → Follows image tree now (with_node tree ino node) free → Advances image tree looks now (with_node tree ino node) free
  grown_advances free follows =
      let same : left ≡ free = chain_once (list_in now) (first_list now) left free under.laid.free follows.stored.spare.listed in
      advances_by image tree looks chain stored (with_node tree ino node) now free follows
      (λ block some had. had_before (has_addresses tree) has image.at now chain left within under.laid under.conserves none looks block some
      (subst (λ xs. IsHad (λ i. has i && looks i) now xs block) (sym same)
      (had_over (looked_at (with_node tree ino node) looks) (λ i. has i && looks i) now free block over had)))
