-- Bytes put into a file with its size and times, and the operation on a volume.
use Rattle.std.proofs.Common.{ℕ, ◌≡◌, inl, inr, ◌+◌, ◌<◌, ◌≤◌, Bool, true, max, nat_le, Option, None, Some, Ok, Err, List, [], length, refl, sym, ap, subst, ◌∙◌, arith}
use Rattle.std.specs.FinMap as fin
use Rattle.std.specs.Ordering.{nat_cmp}
use Rattle.std.proofs.lemmas.Bool.Decides.{nat_tests}
use Rattle.mb_kinds.specs.Image.{Image}
use Rattle.mb_kinds.specs.declared.errors.Errno.TheVariants.{EFBIG, ENOSPC}
use Rattle.mb_tree.specs.Answers.{Answer, ◌>>◌, need}
use Rattle.mb_tree.specs.Cost.{cost}
use Rattle.mb_tree.specs.Effect.{fitting, put_bytes, tree_after, touched, wrote, written as grown_body}
use Rattle.mb_tree.specs.Fits.{FitsPut}
use Rattle.mb_tree.specs.Maps.{Numbered, changed_at}
use Rattle.mb_tree.specs.Views.{over, IsPart}
use Rattle.mb_tree.specs.Volume.{IsVolume, body_has_addresses, has_addresses, node_has_addresses}
use Rattle.mb_tree.specs.declared.nodes.Body.{Body}
use Rattle.mb_tree.specs.declared.nodes.Body.TheVariants.{Regular}
use Rattle.mb_tree.specs.declared.nodes.Node.{Node}
use Rattle.mb_tree.specs.declared.operations.FsOp.{FsOp}
use Rattle.mb_tree.specs.declared.operations.FsOp.TheVariants.{Put}
use Rattle.mb_tree.specs.declared.trees.Tree.{Tree}
use Rattle.mb_iface.specs.Acting.{Acts, with_changes}
use Rattle.mb_kinds.specs.Changed.{ChangeList, changed}
use Rattle.mb_iface.specs.Near.IsNear.{super_block, free}
use Rattle.mb_iface.specs.OpenCounts.{count_of}
use Rattle.mb_iface.specs.declared.replies.Acted.TheVariants as acted
use Rattle.mb_iface.specs.declared.replies.Need.{Need}
use Rattle.mb_blocks.proofs.Owning.{mine_owner, mine_place}
use Rattle.mb_nodes.specs.Stored.{IsStored, with_node}
use Rattle.mb_moves.specs.Advancing.{AdvancesTo, IsNearTo}
use Rattle.mb_moves.specs.Looking.{touches}
use Rattle.mb_moves.proofs.Asking.{inode_near}
use Rattle.mb_moves.proofs.Done.{operation_done, operation_refused}
use Rattle.mb_moves.proofs.InARow.{changed_in_turn, near_before, stored_after, stored_at_first}
use Rattle.mb_moves.proofs.Nearness.{place_near, tested_place}
use Rattle.mb_moves.proofs.Touching.{near_touched}
use Rattle.mb_moves.proofs.Trees.{put_twice}
use Rattle.mb_file.specs.Clearing.{IsFileAt}
use Rattle.mb_file.specs.Finding.{AsksForOwn, IsBlockOfInode, LacksFree}
use Rattle.mb_file.specs.Finding.IsBlockOfInode.{inode, led_to}
use Rattle.mb_file.specs.Putting.{LacksForPut, PutsBytes, PutsWhole, SetsSize, with_parts}
use Rattle.mb_file.specs.declared.puts.Written.{Written}
use Rattle.mb_file.specs.declared.puts.Written.TheVariants as written
use Rattle.mb_file.proofs.Acting.{changed_here, named_looked}
use Rattle.mb_file.proofs.Answering.{small_addresses}
use Rattle.mb_file.proofs.ErasingSteps.{within_none}
use Rattle.mb_file.proofs.Holding.{its_number}
use Rattle.mb_file.proofs.PuttingBytes.{file_put}

-- the node that is written, by its size and parts
wrote_is : (node : Node) (size : ℕ) (parts : Numbered (List ℕ)) (moment offset : ℕ) (bytes : List ℕ) → node.body ≡ Regular size parts
    → with_parts (touched moment node) (max size (offset + length bytes)) (put_bytes parts offset bytes) ≡ wrote moment offset bytes node
wrote_is node size parts moment offset bytes body = ap (λ (b : Body). record (touched moment node) { body = grown_body offset bytes b }) (sym body)

module _ (shown : ℕ → Option (List ℕ)) (old new : ChangeList) (ino offset : ℕ) (bytes : List ℕ) (moment : ℕ) where
  -- a block of the inode is near
  pub whole_asked_own : (need : Need) → AsksForOwn shown old ino need → PutsWhole shown old new ino offset bytes moment (written.Need need)
  whole_asked_own need asks = (
    asks.0,
    λ image tree chain part stored looks node file.
        (let base = with_changes image old in
        let is : has_addresses tree ino ≡ true = ap node_has_addresses file.has ∙ ap body_has_addresses file.body in
        near image tree chain stored looks node file is (asks.1 image.at part (small_addresses base tree chain stored ino is))),
  )
    where
      near : (image : Image) (tree : Tree) (chain : List ℕ) → IsStored (with_changes image old) tree chain → (looks : ℕ → Bool) (node : Node) → IsFileAt tree looks ino node → has_addresses tree ino ≡ true
          → IsBlockOfInode (over image.at (changed old)) ino need.first → IsNearTo (with_changes image old) tree looks need.first
      near image tree chain stored looks node file is (inode own) =
          let n = its_number (with_changes image old) tree chain stored ino node file.has in
          subst (IsNearTo (with_changes image old) tree looks) (sym own) (inode_near (with_changes image old) tree chain stored looks ino n.0 n.1)
      near image tree chain stored looks node file is (led_to q mine leads) =
          let there = mine_place (has_addresses tree) ino is q mine in
          subst (IsNearTo (with_changes image old) tree looks) leads
          (place_near (with_changes image old) tree looks q (tested_place (has_addresses tree) looks q there (ap looks (mine_owner (has_addresses tree) ino q mine) ∙ file.looked)))

  pub whole_refused : (mid : ChangeList) → PutsBytes shown old mid ino offset bytes written.NoneLeft → PutsWhole shown old new ino offset bytes moment written.NoneLeft
  whole_refused mid puts image tree chain part stored looks node file =
      puts image tree chain part stored looks node file (wrote moment offset bytes node) (max file.size (offset + length bytes)) (ap (grown_body offset bytes) file.body)

  module _ (mid : ChangeList) (end : ℕ) (is_end : end ≡ offset + length bytes) (puts : PutsBytes shown old mid ino offset bytes written.Done) where
    pub whole_by : (result : Written) → SetsSize shown mid new ino end moment result → PutsWhole shown old new ino offset bytes moment result
    whole_by written.Done sets = (
      λ w. sets.0 (puts.0 w),
      λ image tree chain part stored looks node file.
          (let then_parts = put_bytes file.parts offset bytes in
          let then_node = with_parts node file.size then_parts in
          let then_tree = with_node tree ino then_node in
          let gone = puts.1 image tree chain part stored looks node file in
          let left = stored_after image tree then_tree looks old mid gone in
          let step = sets.1 image then_tree left.0 part left.1 looks then_node (file_put tree looks ino node file.size then_parts file.looked) in
          let last = with_parts (touched moment then_node) (max file.size end) then_parts in
          let nodes_now : fin.insert then_tree.nodes ino last ≡ fin.insert tree.nodes ino (wrote moment offset bytes node) =
          put_twice tree.nodes ino then_node last
          ∙ ap (λ e. fin.insert tree.nodes ino (with_parts (touched moment node) (max file.size e) then_parts)) is_end
          ∙ ap (fin.insert tree.nodes ino) (wrote_is node file.size file.parts moment offset bytes file.body) in
          subst (λ nodes. AdvancesTo image tree looks old new (record tree { nodes = nodes })) nodes_now
          (changed_in_turn image tree then_tree (with_node then_tree ino last) looks old mid new gone step)),
    )
    whole_by written.NoneLeft sets = absurd sets
    whole_by (written.Need need) sets = (
      sets.0,
      λ image tree chain part stored looks node file.
          (let then_parts = put_bytes file.parts offset bytes in
          let then_node = with_parts node file.size then_parts in
          let then_tree = with_node tree ino then_node in
          let gone = puts.1 image tree chain part stored looks node file in
          let left = stored_after image tree then_tree looks old mid gone in
          near_before image tree then_tree looks old mid need.first gone (let above = sets.0.above in omega (arith, above))
          (sets.1 image then_tree left.0 part left.1 looks then_node (file_put tree looks ino node file.size then_parts file.looked))),
    )
    whole_by written.NoMemory sets = tt

-- ---- the operation

fitting_stored : (image : Image) (tree : Tree) (nodes : Numbered Node) (chain : List ℕ) → IsStored image (record tree { nodes = nodes }) chain → fitting tree nodes ≡ Ok (record tree { nodes = nodes })
fitting_stored image tree nodes chain stored =
    let c = stored.capacity in
    let t : nat_le (cost (record tree { nodes = nodes })) tree.cap ≡ true = grind (arith, nat_tests) in
    rw t refl

module _ (shown : ℕ → Option (List ℕ)) (image : Image) (tree : Tree) (part : IsPart shown image.at) (volume : IsVolume image tree) (opens : fin.FinMap nat_cmp ℕ) (demanded : Option ℕ) (ino offset : ℕ) (bytes : List ℕ) (moment : ℕ) where
  abbrev op : FsOp
  op = Put ino offset bytes moment

  its_file_at : (fits : FitsPut tree ino bytes) → IsFileAt tree (touches tree op) ino fits.regular.node
  its_file_at fits = record { looked = named_looked tree op ino refl; has = fits.regular.has; size = fits.regular.size; parts = fits.regular.parts; body = fits.regular.body }

  module _ (small : offset + length bytes ≤ 1082201088) where
    put_is : (result : Answer Tree) → (fits : FitsPut tree ino bytes) → fitting tree (fin.insert tree.nodes ino (wrote moment offset bytes fits.regular.node)) ≡ result → tree_after tree (count_of opens) op None ≡ result
    put_is result fits e =
        let t : nat_le (offset + length bytes) 1082201088 ≡ true = grind (arith, nat_tests) in
        ap (λ b. need b EFBIG >> fitting tree (changed_at tree.nodes ino (wrote moment offset bytes))) t
        ∙ ap (fitting tree) (changed_here tree.nodes ino fits.regular.node (wrote moment offset bytes) fits.regular.has) ∙ e

    pub put_done : (changes : ChangeList) → PutsWhole shown [] changes ino offset bytes moment written.Done → Acts shown image tree opens op demanded (acted.Done changes None)
    put_done changes puts fits =
        let first = stored_at_first image tree volume in
        let node = fits.regular.node in
        let next = with_node tree ino (wrote moment offset bytes node) in
        let gone = puts.1 image tree first.1 part first.2 (touches tree op) node (its_file_at fits) in
        let left = stored_after image tree next (touches tree op) [] changes gone in
        operation_done shown image tree next (touches tree op) (count_of opens) op demanded None changes volume fits refl
        (put_is (Ok next) fits (fitting_stored (with_changes image changes) tree (fin.insert tree.nodes ino (wrote moment offset bytes node)) left.0 left.1)) gone (puts.0 (within_none shown))

    pub put_no_space : (changes : ChangeList) → PutsWhole shown [] changes ino offset bytes moment written.NoneLeft → Acts shown image tree opens op demanded (acted.Refused ENOSPC)
    put_no_space changes puts fits =
        let first = stored_at_first image tree volume in
        operation_refused tree (count_of opens) op demanded None ENOSPC refl
        (put_is (Err ENOSPC) fits (puts image tree first.1 part first.2 (touches tree op) fits.regular.node (its_file_at fits)))

    pub put_asked : (changes : ChangeList) (need : Need) → PutsWhole shown [] changes ino offset bytes moment (written.Need need) → Acts shown image tree opens op demanded (acted.Need need)
    put_asked changes need puts fits =
        let first = stored_at_first image tree volume in
        (near_touched image tree op need.first).1 (puts.1 image tree first.1 part first.2 (touches tree op) fits.regular.node (its_file_at fits))

-- ---- what is wanted

module _ (shown : ℕ → Option (List ℕ)) (old : ChangeList) (ino : ℕ) where
  pub own_wanted : (need : Need) → AsksForOwn shown old ino need → LacksForPut shown old ino (Some need)
  own_wanted need asks = whole_asked_own shown old old ino 0 [] 0 need asks

  pub free_wanted : (result : Option Need) → LacksFree shown old result → LacksForPut shown old ino result
  free_wanted None lacks = tt
  free_wanted (Some need) lacks = (
    lacks.0,
    λ image tree chain part stored looks node file. elim (lacks.1 image.at chain part stored.spare.listed) [
      | inl first ↦ super_block first
      | inr among ↦ free chain stored.spare.listed among
    ],
  )
