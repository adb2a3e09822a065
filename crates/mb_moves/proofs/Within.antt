-- Within a step, between its writes.
use Rattle.std.proofs.Common.{ℕ, ◌≡◌, ◌≢◌, ◌⊎◌, inl, inr, ◌<◌, ◌≤◌, Bool, true, false, ◌&&◌, ◌||◌, nat_eq, cond, nat_lt, List, [], ◌∷◌, length, Some, None, Err, refl, sym, ap, subst, ◌∙◌, arith}
use Rattle.std.specs.FinMap as fin
use Rattle.std.proofs.lemmas.Bool.Decides.{nat_tests}
use Rattle.mb_kinds.specs.Image.{Image}
use Rattle.mb_kinds.specs.declared.errors.Errno.TheVariants.{ENOSPC}
use Rattle.mb_word.specs.Fields.{isize_of, fsize_of, ninode_of, inode_block}
use Rattle.mb_word.proofs.Values.{word_at-same}
use Rattle.mb_tree.specs.Blocks.{pointers, part_address}
use Rattle.mb_tree.specs.Cost.{most_parts}
use Rattle.mb_tree.specs.Effect.{fitting}
use Rattle.mb_tree.specs.Places.{Place, Pointers, at, IsPlace, place_of}
use Rattle.mb_tree.specs.Volume.{body_has_addresses, has_addresses, node_has_addresses}
use Rattle.mb_tree.specs.declared.nodes.Body.TheVariants.{Directory}
use Rattle.mb_tree.specs.declared.nodes.Node.{Node}
use Rattle.mb_tree.specs.declared.nodes.PlainSlot.{PlainSlot}
use Rattle.mb_tree.specs.declared.trees.Tree.{Tree}
use Rattle.mb_tree.proofs.FiniteMaps.{one_or_not}
use Rattle.mb_iface.specs.Near.IsNear.{super_block}
use Rattle.mb_blocks.specs.Growing.{Reaches, hole, missing}
use Rattle.mb_blocks.specs.Inodes.{IsRewritten}
use Rattle.mb_blocks.specs.Laid.{IsHad, IsLaid}
use Rattle.mb_blocks.specs.Laid.IsHad.{by_none, by_place}
use Rattle.mb_blocks.specs.Owners.{ino_of}
use Rattle.mb_blocks.proofs.Keeping.{sizes_same}
use Rattle.mb_blocks.proofs.LettingGo.{hole_under, laid_fewer}
use Rattle.mb_blocks.proofs.Owning.{place_mine, place_over}
use Rattle.mb_blocks.proofs.PartPlaces.{place_is}
use Rattle.mb_blocks.proofs.PartWriting.{first_same, rewritten_held, written_laid, written_pointers}
use Rattle.mb_blocks.proofs.Pointing.{at_alike, its_pointers}
use Rattle.mb_blocks.proofs.Reached.{fields, got}
use Rattle.mb_bmap.specs.Reaching.{IsReady}
use Rattle.mb_nodes.specs.Stored.{IsStored}
use Rattle.mb_nodes.proofs.GrowRefused.{make_refused}
use Rattle.mb_nodes.proofs.OneInode.{in_list, laid_stored}
use Rattle.mb_moves.specs.Advancing.{IsNearTo}
use Rattle.mb_moves.specs.Looking.{and_one, looked_at}
use Rattle.mb_moves.specs.Midway.{IsMidway}
use Rattle.mb_moves.proofs.Asking.{inode_near, node_looked, ready_among}
use Rattle.mb_moves.proofs.Making.{joined, under_mid}
use Rattle.mb_moves.proofs.Nearness.{and_left, had_near}

pub at_node : (image : Image) (tree : Tree) (chain : List ℕ) (looks : ℕ → Bool) → IsStored image tree chain → (ino : ℕ) (node : Node) → fin.get tree.nodes ino ≡ Some node
    → body_has_addresses node.body ≡ true → looks ino ≡ true → IsMidway image tree looks (looked_at tree looks) image.at ino
at_node image tree chain looks stored ino node has with_addresses looked = record {
  left = chain;
  ready = ready_among image tree chain stored (looked_at tree looks) (λ i t. and_left (has_addresses tree i) (looks i) t) ino (node_looked tree looks ino node has with_addresses looked);
  near = λ block some. had_near image tree looks chain stored block;
}

-- a free inode written with holes for addresses
module _ (image : Image) (tree : Tree) (chain : List ℕ) (looks : ℕ → Bool) (stored : IsStored image tree chain) (ino : ℕ) (within : (1 ≤ ino) × (ino ≤ tree.last)) (none : fin.get tree.nodes ino ≡ None)
    (mid : ℕ → List ℕ) (written : IsRewritten image.at mid ino) (holes : (p : ℕ) → p < 13 → (pointers mid).top ino p ≡ 0) where
  abbrev few : ℕ → Bool
  few = looked_at tree looks

  abbrev fewer : ℕ → Bool
  fewer = and_one few ino

  in_more : (i : ℕ) → fewer i ≡ true → and_one (has_addresses tree) ino i ≡ true
  in_more i t = either (has_addresses tree i) (looks i) (nat_eq i ino) t
    where
      either : (a b c : Bool) → ((a && b) || c) ≡ true → (a || c) ≡ true
      either true b c f = refl
      either false b c f = f

  mine : fewer ino ≡ true
  mine = (let t : nat_eq ino ino ≡ true = grind (arith, nat_tests) in ap (λ b. few ino || b) t ∙ or_true (few ino))
    where
      or_true : (b : Bool) → (b || true) ≡ true
      or_true true = refl
      or_true false = refl

  others : (i : ℕ) → i ≢ ino → fewer i ≡ true → few i ≡ true
  others i apart t = (let off : nat_eq i ino ≡ false = grind (arith, nat_tests) in sym (ap (λ b. few i || b) off ∙ or_false (few i)) ∙ t)
    where
      or_false : (b : Bool) → (b || false) ≡ b
      or_false true = refl
      or_false false = refl

  laid : IsLaid few image.at [] chain
  laid = laid_fewer few (has_addresses tree) image.at [] chain (λ i t. and_left (has_addresses tree i) (looks i) t) (laid_stored image tree chain stored)

  stays : (q : Place) → IsPlace few q → at (pointers mid) q ≡ at (pointers image.at) q
  stays =
      at_alike few image.at mid
      (its_pointers few image.at mid
      (rewritten_held few image.at mid ino [] chain laid (in_list image tree chain stored ino (let w = within in omega (arith, w.0)) within.1) written
      (λ t. (let off : has_addresses tree ino ≡ false = ap node_has_addresses none in let clash : true ≡ false = sym (and_left (has_addresses tree ino) (looks ino) t) ∙ off in cc))))

  was_near : (block : ℕ) → 0 < block → IsHad fewer mid chain block → IsNearTo image tree looks block
  was_near block some (by_none among) = had_near image tree looks chain stored block (by_none among)
  was_near block some (by_place q h e) = elim (one_or_not (ino_of q) ino) [
    | inl same ↦ absurd (let gone = hole_under mid ino holes q (place_mine fewer ino q h same) in omega (arith, some, e, gone))
    | inr apart ↦ (let is = place_over fewer few q (others (ino_of q) apart) h in had_near image tree looks chain stored block (by_place q is (sym (stays q is) ∙ e)))
  ]

  first : mid 1 ≡ image.at 1
  first = written.others 1 (omega arith)

  pub ready_mid : (has : ℕ → Bool) → ((i : ℕ) → has i ≡ true → and_one (has_addresses tree) ino i ≡ true) → has ino ≡ true → IsReady has mid chain ino
  ready_mid has inside is = record {
    laid = laid_fewer has (and_one (has_addresses tree) ino) mid [] chain inside (under_mid image tree chain looks stored ino within none mid written holes).laid;
    is = is;
    few_inodes = subst (λ (b : List ℕ). isize_of b ≤ 8193) (sym first) stored.sizes.few_inodes;
    few_blocks = subst (λ (b : List ℕ). fsize_of b ≤ 262144) (sym first) stored.sizes.few_blocks;
    cached = subst (λ (b : List ℕ). ninode_of b ≤ 100) (sym first) stored.cached;
  }

  pub at_birth : IsMidway image tree looks fewer mid ino
  at_birth = record { left = chain; ready = ready_mid fewer in_more mine; near = was_near }

-- one block at most is missing on the way to a first part
hole_few : (address : ℕ) → hole address ≤ 1
hole_few address = elim (nat_lt 0 address) as (λ b. cond b 0 1 ≤ 1) [ true ↦ omega arith | false ↦ omega arith ]

first_few : (ps : Pointers) (ino : ℕ) → missing ps (place_of ino 0) ≤ 1
unfolding place_of
first_few ps ino = hole_few (ps.top ino 0)

nothing : (xs : List ℕ) → length xs < 1 → xs ≡ []
nothing [] short = refl
nothing (x ∷ xs) short = absurd (omega (arith, short))

pub making_refused : (image : Image) (tree : Tree) (chain : List ℕ) → IsStored image tree chain → (ino : ℕ) → (1 ≤ ino) × (ino ≤ tree.last) → fin.get tree.nodes ino ≡ None
    → (mid : ℕ → List ℕ) → IsRewritten image.at mid ino → ((p : ℕ) → p < 13 → (pointers mid).top ino p ≡ 0)
    → ((has : ℕ → Bool) (left : List ℕ) → IsReady has mid left ino → length left < missing (pointers mid) (place_of ino 0))
    → (wanted : Node) (slots : List PlainSlot) → wanted.body ≡ Directory slots → 0 < length slots → fitting tree (fin.insert tree.nodes ino wanted) ≡ Err ENOSPC
making_refused image tree chain stored ino within none mid written holes short wanted slots is some =
    let few = first_few (pointers mid) ino in
    let looks : ℕ → Bool = λ i. false in
    let less = short (and_one (has_addresses tree) ino) chain (ready_mid image tree chain looks stored ino within none mid written holes (and_one (has_addresses tree) ino) (λ i t. t) (joined image tree chain looks stored ino within none mid written holes)) in
    make_refused image tree chain stored ino within none (nothing chain (omega (arith, less, few))) wanted slots is some

-- the next writes
module _ (image : Image) (tree : Tree) (looks has : ℕ → Bool) (old new : ℕ → List ℕ) (ino part : ℕ) (midway : IsMidway image tree looks has old ino) (below : part < most_parts) where
  pub midway_reached : Reaches old new (place_of ino part) → IsMidway image tree looks has new ino
  midway_reached reaches =
      let ready = midway.ready in
      let reach = got has old midway.left ready.laid ino part ready.is below new reaches in
      let keeps = fields has old midway.left ready.laid ino part ready.is below new reaches in
      let same = sizes_same old new keeps.front in
      record {
        left = reach.left;
        ready = record {
          laid = reach.laid;
          is = ready.is;
          few_inodes = (let was = ready.few_inodes in omega (arith, was, same.0));
          few_blocks = (let was = ready.few_blocks in omega (arith, was, same.1));
          cached =
              (let count : ninode_of (new 1) ≡ ninode_of (old 1) = word_at-same (new 1) (old 1) 208 (λ k from to. keeps.back k from (omega arith)) in
              let was = ready.cached in
              omega (arith, count, was));
        };
        near = λ block some had. midway.near block some (reach.conserves.already block some had);
      }

  module _ (some : 0 < part_address old ino part) (beside : (block : ℕ) → block ≢ part_address old ino part → new block ≡ old block) (long : length (new (part_address old ino part)) ≡ 512) where
    was_had : (block : ℕ) → IsHad has new midway.left block → IsHad has old midway.left block
    was_had block (by_none among) = by_none among
    was_had block (by_place q h e) =
        by_place q h (sym (at_alike has old new (written_pointers has old new ino part [] midway.left midway.ready.laid midway.ready.is below some beside long) q h) ∙ e)

    pub midway_written : IsMidway image tree looks has new ino
    midway_written =
        let ready = midway.ready in
        let same = first_same has old new ino part [] midway.left ready.laid ready.is below some beside long in
        record {
          left = midway.left;
          ready = record {
            laid = written_laid has old new ino part [] midway.left ready.laid ready.is below some beside long;
            is = ready.is;
            few_inodes = subst (λ (b : List ℕ). isize_of b ≤ 8193) (sym same) ready.few_inodes;
            few_blocks = subst (λ (b : List ℕ). fsize_of b ≤ 262144) (sym same) ready.few_blocks;
            cached = subst (λ (b : List ℕ). ninode_of b ≤ 100) (sym same) ready.cached;
          };
          near = λ block real had. midway.near block real (was_had block had);
        }

-- what is asked for
module _ (image : Image) (tree : Tree) (chain : List ℕ) (looks has : ℕ → Bool) (now : ℕ → List ℕ) (ino : ℕ) (stored : IsStored image tree chain) (low : 1 ≤ ino) (high : ino ≤ tree.last)
    (midway : IsMidway image tree looks has now ino) where
  asked_near : (block : ℕ) → 0 < block → (block ≡ 1) ⊎ ((block ≡ inode_block ino) ⊎ IsHad has now midway.left block) → IsNearTo image tree looks block
  asked_near block some (inl is) = super_block is
  asked_near block some (inr (inl is)) = subst (IsNearTo image tree looks) (sym is) (inode_near image tree chain stored looks ino low high)
  asked_near block some (inr (inr had)) = midway.near block some had

  pub midway_near : ((block : ℕ) → 0 < block → (block ≡ 1) ⊎ ((block ≡ inode_block ino) ⊎ IsHad has now midway.left block) → IsNearTo image tree looks block)
      × ((part : ℕ) → part < most_parts → 0 < part_address now ino part → IsNearTo image tree looks (part_address now ino part))
  midway_near = (asked_near, λ part below some. midway.near (part_address now ino part) some (by_place (place_of ino part) (place_is has ino part midway.ready.is below) refl))
