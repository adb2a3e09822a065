-- An operation under way in one inode: its blocks are laid, the other inodes stay, and its last step stores the next tree.
use Rattle.std.proofs.Common.{ℕ, ◌≡◌, ◌≢◌, ◌⊎◌, inl, inr, ◌+◌, ◌<◌, ◌≤◌, Bool, true, false, not, ◌&&◌, nat_eq, List, [], length, slice_index, refl, sym, ap, subst, ◌∙◌, arith, ◌*◌}
use Rattle.std.specs.FinMap as fin
use Rattle.std.proofs.Math.Path.{fun_ext}
use Rattle.std.proofs.lemmas.Bool.Decides.{nat_tests}
use Rattle.mb_kinds.specs.Image.{Image}
use Rattle.mb_word.specs.Fields.{isize_of, ninode_of, inode_block, inode_place}
use Rattle.mb_word.proofs.Values.{word_at-same}
use Rattle.mb_tree.specs.Blocks.{pointers, part_address}
use Rattle.mb_tree.specs.Cost.{cost_at, body_cost, most_parts}
use Rattle.mb_tree.specs.Places.{place_of}
use Rattle.mb_tree.specs.Volume.{HasNode, HasInode, body_has_addresses, node_has_addresses, has_addresses}
use Rattle.mb_tree.specs.declared.nodes.Node.{Node}
use Rattle.mb_tree.specs.declared.trees.Tree.{Tree}
use Rattle.mb_tree.proofs.FiniteMaps.{get_here, get_there, one_or_not}
use Rattle.mb_blocks.specs.Conserved.{Conserves}
use Rattle.mb_blocks.specs.Growing.{Reaches}
use Rattle.mb_blocks.specs.Laid.{IndexesLeadOn, IsLaid}
use Rattle.mb_blocks.specs.Laid.IsHad.{by_place}
use Rattle.mb_blocks.specs.Owners.{without}
use Rattle.mb_blocks.specs.Pointing.{KeepsHeld}
use Rattle.mb_blocks.proofs.Conserving.{conserved_by, conserved_more, conserved_same, conserved_then}
use Rattle.mb_blocks.proofs.Keeping.{sizes_same}
use Rattle.mb_blocks.proofs.LettingGo.{laid_more, lead_more}
use Rattle.mb_blocks.proofs.Owning.{place_over, without_has}
use Rattle.mb_blocks.proofs.PartPlaces.{part_place, place_is}
use Rattle.mb_blocks.proofs.PartWriting.{lead_pointers}
use Rattle.mb_blocks.proofs.Pointing.{held_same, its_pointers}
use Rattle.mb_blocks.proofs.Reaching.{lead_reached}
use Rattle.mb_blocks.specs.Inodes.{IsBorn, IsRewritten}
use Rattle.mb_nodes.specs.Stored.{Follows, IsStored}
use Rattle.mb_nodes.specs.Underway.{AgreesOff, IsUnderway}
use Rattle.mb_nodes.proofs.KeptFrom.{kept_bytes, kept_cache, kept_conserved, kept_free, kept_unused}
use Rattle.mb_nodes.proofs.OneInode.{in_list, laid_stored, leads_stored, others_then, stored_by_one}
use Rattle.mb_blocks.proofs.Reached as reached
use Rattle.mb_blocks.proofs.PartWriting as writing

module _ (image : Image) (tree : Tree) (chain : List ℕ) (stored : IsStored image tree chain) (ino : ℕ) (within : (1 ≤ ino) × (ino ≤ tree.last)) where
  pub begun : IsUnderway image tree chain ino (has_addresses tree) image.at chain
  begun = record {
    laid = laid_stored image tree chain stored;
    leads = leads_stored image tree chain stored;
    keeps = record { bytes = λ j some low apart k from to. refl; held = held_same (without (has_addresses tree) ino) image.at; front = λ k from to. refl; cached = stored.cached; back = λ k from to. refl; byte = refl };
    conserves = conserved_same (has_addresses tree) image.at chain;
  }

  module _ (has : ℕ → Bool) (agrees : AgreesOff tree ino has) (old : ℕ → List ℕ) (left : List ℕ) (under : IsUnderway image tree chain ino has old left) where
    rest_same : without has ino ≡ without (has_addresses tree) ino
    rest_same = fun_ext (λ j. elim (one_or_not j ino) [
      | inl is ↦
          (let on : nat_eq j ino ≡ true = grind (arith, nat_tests) in
          ap (λ b. has j && not b) on ∙ and_false (has j) ∙ sym (ap (λ b. has_addresses tree j && not b) on ∙ and_false (has_addresses tree j)))
      | inr apart ↦ ap (λ b. b && not (nat_eq j ino)) (agrees j apart)
    ])
      where
        and_false : (b : Bool) → (b && false) ≡ false
        and_false true = refl
        and_false false = refl

    pub listed : (j : ℕ) → 0 < j → j ≤ tree.last → inode_block j < isize_of (old 1)
    listed j some low = (let was = in_list image tree chain stored j some low in let same = sizes_same image.at old under.keeps.front in omega (arith, was, same.0))

    pub mine_listed : inode_block ino < isize_of (old 1)
    mine_listed = listed ino (let w = within in omega (arith, w.0)) within.1

    -- the way to a part made
    pub after_reaching : (part : ℕ) (new : ℕ → List ℕ) (reaches : Reaches old new (place_of ino part)) (is : has ino ≡ true) (below : part < most_parts)
        → IsUnderway image tree chain ino has new (reached.got has old left under.laid ino part is below new reaches).left
    after_reaching part new reaches is below =
        let got = reached.got has old left under.laid ino part is below new reaches in
        let fields = reached.fields has old left under.laid ino part is below new reaches in
        record {
          laid = got.laid;
          leads = lead_reached has old new [] left (place_of ino part) (reached.way_place has old left under.laid ino part is below new reaches) (part_place ino part below).bottom got under.leads;
          keeps = others_then tree image.at old new ino under.keeps (record {
            bytes = λ j some last apart. fields.beside j some (listed j some last) apart;
            held = subst (λ h. KeepsHeld h old new) rest_same (reached.others_held has old left under.laid ino part is below new reaches);
            front = fields.front;
            cached =
                (let same : ninode_of (new 1) ≡ ninode_of (old 1) = word_at-same (new 1) (old 1) 208 (λ k from to. fields.back k from (omega arith)) in
                let was = under.keeps.cached in
                omega (arith, same, was));
            back = fields.back;
            byte = fields.tail (64 * inode_place ino + 51) (omega arith) (omega arith);
          });
          conserves = conserved_then (has_addresses tree) has has image.at old new chain left got.left stored.sizes.some_inodes under.conserves got.conserves;
        }

    -- a part's bytes written
    pub after_writing : has ino ≡ true → (part : ℕ) → part < most_parts → (new : ℕ → List ℕ) → 0 < part_address old ino part
        → ((block : ℕ) → block ≢ part_address old ino part → new block ≡ old block) → length (new (part_address old ino part)) ≡ 512 → IsUnderway image tree chain ino has new left
    after_writing is part below new some others long =
        let first = writing.first_same has old new ino part [] left under.laid is below some others long in
        let low_is = writing.low_same has old new ino part [] left under.laid is below some others long in
        record {
          laid = writing.written_laid has old new ino part [] left under.laid is below some others long;
          leads = lead_pointers has old new (writing.written_pointers has old new ino part [] left under.laid is below some others long) under.leads;
          keeps = others_then tree image.at old new ino under.keeps (record {
            bytes = λ j real last apart k from to. ap (λ (b : List ℕ). slice_index b k) (writing.low_same has old new ino part [] left under.laid is below some others long (inode_block j) (listed j real last));
            held = subst (λ h. KeepsHeld h old new) rest_same (writing.written_others has old new ino part [] left under.laid is below some others long);
            front = λ k from to. ap (λ (b : List ℕ). slice_index b k) first;
            cached = subst (λ (b : List ℕ). ninode_of b ≤ 100) (sym first) under.keeps.cached;
            back = λ k from to. ap (λ (b : List ℕ). slice_index b k) first;
            byte = ap (λ (b : List ℕ). slice_index b (64 * inode_place ino + 51)) (low_is (inode_block ino) mine_listed);
          });
          conserves = conserved_then (has_addresses tree) has has image.at old new chain left left stored.sizes.some_inodes under.conserves
              (conserved_by has old new left left (writing.written_pointers has old new ino part [] left under.laid is below some others long) (λ b among. among) (λ b among. among)
              (λ b from unhad. others b (λ e. unhad (by_place (place_of ino part) (place_is has ino part is below) (sym e))))
              (low_is 0 (let wide = under.laid.wide in omega (arith, wide))) (λ k from to. ap (λ (b : List ℕ). slice_index b k) first));
        }

    -- the inode written, its addresses as before where it has some
    pub after_rewriting : (new : ℕ → List ℕ) → IsRewritten old new ino → (has ino ≡ true → (p : ℕ) → p < 13 → (pointers new).top ino p ≡ (pointers old).top ino p) → IsUnderway image tree chain ino has new left
    after_rewriting new written tops =
        let held = writing.rewritten_held has old new ino [] left under.laid mine_listed written tops in
        let first = writing.rewritten_first has old new ino [] left under.laid mine_listed written tops in
        record {
          laid = writing.rewritten_laid has old new ino [] left under.laid mine_listed written tops;
          leads = lead_pointers has old new (its_pointers has old new held) under.leads;
          keeps = others_then tree image.at old new ino under.keeps (record {
            bytes = λ j some last apart. written.beside j some apart;
            held = subst (λ h. KeepsHeld h old new) rest_same (record {
              tops = λ i p h low. held.tops i p (without_has has ino i h) low;
              blocks = λ q h some. held.blocks q (place_over (without has ino) has q (without_has has ino _) h) some;
            });
            front = λ k from to. ap (λ (b : List ℕ). slice_index b k) first;
            cached = subst (λ (b : List ℕ). ninode_of b ≤ 100) (sym first) under.keeps.cached;
            back = λ k from to. ap (λ (b : List ℕ). slice_index b k) first;
            byte = written.byte;
          });
          conserves = conserved_then (has_addresses tree) has has image.at old new chain left left stored.sizes.some_inodes under.conserves
              (conserved_by has old new left left (its_pointers has old new held) (λ b among. among) (λ b among. among)
              (λ b from unhad. written.others b (let low = mine_listed in omega (arith, from, low))) (written.others 0 (omega arith)) (λ k from to. ap (λ (b : List ℕ). slice_index b k) first));
        }

    -- an inode without an address joins those with addresses
    pub after_birth : (more : ℕ → Bool) → ((i : ℕ) → has i ≡ true → more i ≡ true) → ((i : ℕ) → more i ≡ true → (has i ≡ true) ⊎ IsBorn old i) → IsUnderway image tree chain ino more old left
    after_birth more within_more adds = record { laid = laid_more has more old adds [] left under.laid; leads = lead_more has more old adds under.leads; keeps = under.keeps; conserves = conserved_then (has_addresses tree) has more image.at old old chain left left stored.sizes.some_inodes under.conserves (conserved_more has more old left within_more adds) }

    -- the last step
    pub finished : (node : Node) → has ino ≡ body_has_addresses node.body → HasNode old ino node → body_cost node.body + length left ≡ cost_at (fin.get tree.nodes ino) + length chain
        → Follows image tree old (record tree { nodes = fin.insert tree.nodes ino node }) left
    finished node is here pays =
        let next : Tree = record tree { nodes = fin.insert tree.nodes ino node } in
        let same : has_addresses next ≡ has = fun_ext (λ j. elim (one_or_not j ino) [
          | inl e ↦ ap (has_addresses next) e ∙ ap node_has_addresses (get_here tree.nodes ino node) ∙ sym (ap has e ∙ is)
          | inr apart ↦ ap node_has_addresses (get_there tree.nodes ino node j apart) ∙ sym (agrees j apart)
        ]) in
        let after : IsStored (record image { at = old }) next left = stored_by_one image old tree next chain left ino stored within
        (record { last = refl; cap = refl; others = λ j apart. get_there tree.nodes ino node j apart }) under.keeps under.laid.sized
        (subst (HasInode old ino) (sym (get_here tree.nodes ino node)) here)
        (subst (λ h. IsLaid h old [] left) (sym same) under.laid)
        (subst (λ h. IndexesLeadOn h old) (sym same) under.leads)
        (let a : cost_at (fin.get next.nodes ino) ≡ body_cost node.body = ap cost_at (get_here tree.nodes ino node) in omega (arith, a, pays)) in
        record {
          stored = after;
          kept = kept_conserved image (record image { at = old }) tree next chain left stored after (subst (λ h. Conserves (has_addresses tree) h image.at old chain left) (sym same) under.conserves)
              (kept_unused image tree ino old under.keeps) (kept_cache image tree chain stored ino old under.keeps) (kept_bytes image tree chain stored ino old under.keeps)
              (kept_free image tree chain stored ino old under.keeps (λ none. absurd (here.used none)));
        }
