-- Bytes put into one part of a file, which is made where it is a hole.
use Rattle.std.proofs.Common.{ℕ, ◌≡◌, ◌⊎◌, inl, inr, ◌+◌, ◌<◌, ◌≤◌, Bool, true, cond, nat_lt, Option, Some, None, List, length, unwrap_or, refl, sym, ap, subst, ◌∙◌, arith}
use Rattle.std.specs.FinMap as fin
use Rattle.std.proofs.lemmas.Bool.{cases_eq}
use Rattle.std.proofs.lemmas.Bool.Decides.{nat_tests}
use Rattle.mb_kinds.specs.Image.{Image, zeros}
use Rattle.mb_word.specs.Numbers.{put_at}
use Rattle.mb_word.proofs.Writes.{length-put_at}
use Rattle.mb_tree.specs.Blocks.{pointers, part_address, part_in}
use Rattle.mb_tree.specs.Cost.{most_parts}
use Rattle.mb_tree.specs.Inodes.{part_at}
use Rattle.mb_tree.specs.Maps.{Numbered}
use Rattle.mb_tree.specs.Places.{Place, at, place_of}
use Rattle.mb_tree.specs.Places.Place.{Top, Under}
use Rattle.mb_tree.specs.Views.{over}
use Rattle.mb_tree.specs.Volume.{HasBody, HasFile, body_has_addresses, has_addresses, node_has_addresses}
use Rattle.mb_tree.specs.declared.nodes.Body.{Body}
use Rattle.mb_tree.specs.declared.nodes.Node.{Node}
use Rattle.mb_tree.specs.declared.trees.Tree.{Tree}
use Rattle.mb_tree.proofs.FiniteMaps.{get_here, get_there, one_or_not, same}
use Rattle.mb_iface.specs.Acting.{with_changes}
use Rattle.mb_kinds.specs.Changed.{ChangeList, changed, put_block}
use Rattle.mb_iface.specs.Edits.{HasEdited}
use Rattle.mb_iface.specs.Needs.{IsNeed}
use Rattle.mb_iface.specs.declared.replies.Need.{Need}
use Rattle.mb_iface.proofs.ChangedBlocks.{put_block_same, put_block_other}
use Rattle.mb_blocks.specs.Growing.{MakesPlace, Reaches, hole, missing}
use Rattle.mb_blocks.proofs.PartBytes.{held_part, part_found}
use Rattle.mb_blocks.proofs.Pointing.{zero_entry}
use Rattle.mb_blocks.proofs.Reached.{got, way_place}
use Rattle.mb_bmap.specs.Reaching.{ReachesPart}
use Rattle.mb_bmap.specs.declared.reaches.Reached.TheVariants as reached
use Rattle.mb_nodes.specs.Stored.{IsStored, with_node}
use Rattle.mb_nodes.proofs.CostGrows.{no_space}
use Rattle.mb_nodes.proofs.OneInode.{laid_stored}
use Rattle.mb_moves.specs.Advancing.{Advances, IsNearTo}
use Rattle.mb_moves.proofs.Asking.{part_near, reaching_near, ready_for}
use Rattle.mb_moves.proofs.Growing.{filled_advances}
use Rattle.mb_moves.proofs.InARow.{nothing_done, one_after_another}
use Rattle.mb_moves.proofs.Setting.{put_advances}
use Rattle.mb_moves.proofs.Trees.{put_same, put_twice}
use Rattle.mb_file.specs.Clearing.{IsFileAt}
use Rattle.mb_file.specs.Putting.{IsRefusedByParts, PutsPart, with_parts}
use Rattle.mb_file.specs.declared.puts.Written.TheVariants as written
use Rattle.mb_file.proofs.Holding.{its_inode, its_number}

-- ---- a place that holds a block is reached without a change

above_held : (blocks : ℕ → List ℕ) (above : Place) (k : ℕ) → 0 < at (pointers blocks) (Under above k) → 0 < at (pointers blocks) above
above_held blocks above k some = elim (cases_eq (at (pointers blocks) above) 0) [
  | inl none ↦ absurd (let e : at (pointers blocks) (Under above k) ≡ 0 = ap (λ b. (pointers blocks).entry b k) none ∙ zero_entry blocks k in omega (arith, some, e))
  | inr real ↦ omega (arith, real)
]

made_still : (old new : ℕ → List ℕ) (q : Place) → 0 < at (pointers old) q → MakesPlace old new q → new ≡ old
made_still old new q some (inl there) = there.1
made_still old new q some (inr (none, block, more)) = absurd (omega (arith, some, none))

reached_still : (old new : ℕ → List ℕ) (q : Place) → 0 < at (pointers old) q → Reaches old new q → new ≡ old
reached_still old new (Top ino p) some makes = made_still old new (Top ino p) some makes
reached_still old new (Under above k) some (mid, reaches, makes) =
    let first : mid ≡ old = reached_still old mid above (above_held old above k some) reaches in
    made_still mid new (Under above k) (subst (λ (blocks : ℕ → List ℕ). 0 < at (pointers blocks) (Under above k)) (sym first) some) makes ∙ first

hole_some : (address : ℕ) → 0 < address → hole address ≡ 0
hole_some address is = (let t : nat_lt 0 address ≡ true = grind (arith, nat_tests) in ap (λ b. cond b 0 1) t)

none_missing : (blocks : ℕ → List ℕ) (q : Place) → 0 < at (pointers blocks) q → missing (pointers blocks) q ≡ 0
none_missing blocks (Top ino p) some = hole_some (at (pointers blocks) (Top ino p)) some
none_missing blocks (Under above k) some =
    let a = none_missing blocks above (above_held blocks above k some) in
    let b = hole_some (at (pointers blocks) (Under above k)) some in
    omega (arith, a, b)

-- ---- maps of parts

put_over : (m : Numbered (List ℕ)) (k : ℕ) (x y : List ℕ) → fin.insert (fin.insert m k x) k y ≡ fin.insert m k y
put_over m k x y = same _ _ (λ q. elim (one_or_not q k) [
  | inl is ↦ rw is (get_here (fin.insert m k x) k y ∙ sym (get_here m k y))
  | inr apart ↦ get_there (fin.insert m k x) k y q apart ∙ get_there m k x q apart ∙ sym (get_there m k y q apart)
])

-- ---- the part reached: it is there now, and the other parts as before

pub record IsReachedPart (image : Image) (tree : Tree) (looks : ℕ → Bool) (ino : ℕ) (node : Node) (size : ℕ) (parts : Numbered (List ℕ)) (part : ℕ) (mid : ℕ → List ℕ) : Type 0 where
  pub now : Numbered (List ℕ)
  pub left : List ℕ
  pub there : fin.get now part ≡ Some (part_at parts part)
  pub then : (bytes : List ℕ) → fin.insert now part bytes ≡ fin.insert parts part bytes
  pub advances : Advances image tree looks mid (with_node tree ino (with_parts node size now)) left

module _ (image : Image) (tree : Tree) (chain : List ℕ) (looks : ℕ → Bool) (stored : IsStored image tree chain) (ino : ℕ) (node : Node) (file : IsFileAt tree looks ino node) (part : ℕ) (below : part < most_parts) where
  abbrev with_addresses : has_addresses tree ino ≡ true
  with_addresses = ap node_has_addresses file.has ∙ ap body_has_addresses file.body

  pub its_file : HasFile image.at ino file.size file.parts
  its_file = subst (HasBody image.at ino) file.body (its_inode image tree chain stored ino node file.has).body

  pub itself_again : tree ≡ with_node tree ino (with_parts node file.size file.parts)
  itself_again =
      let same_node : with_parts node file.size file.parts ≡ node = ap (λ (b : Body). record node { body = b }) (sym file.body) in
      ap (λ nodes. record tree { nodes = nodes }) (sym (put_same tree.nodes ino node file.has) ∙ ap (fin.insert tree.nodes ino) (sym same_node))

  module _ (mid : ℕ → List ℕ) (reaches : Reaches image.at mid (place_of ino part)) where
    by_part : (found : Option (List ℕ)) → fin.get file.parts part ≡ found → IsReachedPart image tree looks ino node file.size file.parts part mid
    by_part None none =
        let went = filled_advances image tree chain looks stored ino node file.has file.size file.parts part file.body none below mid reaches in
        record {
          now = fin.insert file.parts part zeros;
          left = went.0;
          there = get_here file.parts part zeros ∙ ap Some (sym (ap (λ o. unwrap_or o zeros) none));
          then = λ bytes. put_over file.parts part zeros bytes;
          advances = went.1;
        }
    by_part (Some was) there =
        let held = held_part image.at ino part was (sym (its_file.each part) ∙ there) in
        let still : mid ≡ image.at = reached_still image.at mid (place_of ino part) held.1 reaches in
        record {
          now = file.parts;
          left = chain;
          there = there ∙ ap Some (sym (ap (λ o. unwrap_or o zeros) there));
          then = λ bytes. refl;
          advances = subst (λ (next : Tree). Advances image tree looks mid next chain) itself_again
              (subst (λ (blocks : ℕ → List ℕ). Advances image tree looks blocks tree chain) (sym still) (nothing_done image tree chain looks stored));
        }

    pub part_reached : IsReachedPart image tree looks ino node file.size file.parts part mid
    part_reached = by_part (fin.get file.parts part) refl

    pub reached_block : (0 < part_address mid ino part) × (part_address mid ino part < 262144)
    reached_block =
        let reach = got (has_addresses tree) image.at chain (laid_stored image tree chain stored) ino part with_addresses below mid reaches in
        let now = part_reached in
        let place = way_place (has_addresses tree) image.at chain (laid_stored image tree chain stored) ino part with_addresses below mid reaches in
        let open_to = reach.laid.in_range (place_of ino part) place reach.here in
        let few = now.advances.follows.stored.sizes.few_blocks in
        let low = open_to.below in
        (reach.here, omega (arith, low, few))

    -- and its bytes written
    module _ (new : ℕ → List ℕ) (place : ℕ) (bytes : List ℕ) (fits : place + length bytes ≤ 512) (wrote : new ≡ put_block mid (part_address mid ino part) (put_at (mid (part_address mid ino part)) place bytes)) where
      abbrev its : IsReachedPart image tree looks ino node file.size file.parts part mid
      its = part_reached

      abbrev then_image : Image
      then_image = record image { at = mid }

      abbrev then_tree : Tree
      then_tree = with_node tree ino (with_parts node file.size its.now)

      then_stored : IsStored then_image then_tree its.left
      then_stored = its.advances.follows.stored

      here : new (part_address mid ino part) ≡ put_at (mid (part_address mid ino part)) place bytes
      here = ap (λ f. f (part_address mid ino part)) wrote ∙ put_block_same mid (part_address mid ino part) _

      then_file : HasFile mid ino file.size its.now
      then_file = (its_inode then_image then_tree its.left then_stored ino (with_parts node file.size its.now) (get_here tree.nodes ino (with_parts node file.size its.now))).body

      old_bytes : mid (part_address mid ino part) ≡ part_at file.parts part
      old_bytes =
          let found : part_in mid ino part ≡ Some (mid (part_address mid ino part)) = part_found mid ino part (part_address mid ino part) below refl reached_block.0 in
          let both : Some (mid (part_address mid ino part)) ≡ Some (part_at file.parts part) = sym found ∙ sym (then_file.each part) ∙ its.there in
          cc

      pub part_advances : (left : List ℕ) × Advances image tree looks new (with_node tree ino (with_parts node file.size (fin.insert file.parts part (put_at (part_at file.parts part) place bytes)))) left
      part_advances =
          let long : length (new (part_address mid ino part)) ≡ 512 =
          ap length here ∙ length-put_at (mid (part_address mid ino part)) place bytes (let l = then_stored.bytes (part_address mid ino part) in omega (arith, l, fits)) ∙ then_stored.bytes (part_address mid ino part) in
          let step = put_advances then_image then_tree its.left looks then_stored ino (with_parts node file.size its.now) (get_here tree.nodes ino (with_parts node file.size its.now)) file.size its.now part (part_at file.parts part) refl its.there new
          (λ block apart. ap (λ f. f block) wrote ∙ put_block_other mid (part_address mid ino part) _ block apart) long in
          let bytes_now : fin.insert its.now part (new (part_address mid ino part)) ≡ fin.insert file.parts part (put_at (part_at file.parts part) place bytes) =
          its.then (new (part_address mid ino part)) ∙ ap (fin.insert file.parts part) (here ∙ ap (λ b. put_at b place bytes) old_bytes) in
          let nodes_now : fin.insert then_tree.nodes ino (with_parts node file.size (fin.insert its.now part (new (part_address mid ino part)))) ≡ fin.insert tree.nodes ino (with_parts node file.size (fin.insert file.parts part (put_at (part_at file.parts part) place bytes))) =
          put_twice tree.nodes ino (with_parts node file.size its.now) (with_parts node file.size (fin.insert its.now part (new (part_address mid ino part))))
          ∙ ap (λ m. fin.insert tree.nodes ino (with_parts node file.size m)) bytes_now in (
            its.left,
            subst (λ nodes. Advances image tree looks new (record tree { nodes = nodes }) its.left) nodes_now
                (one_after_another image tree then_tree _ looks mid new its.left its.left its.advances step),
          )

    -- the part's block is near
    pub part_block_near : IsNearTo image tree looks (part_address mid ino part)
    part_block_near =
        let its = part_reached in
        its.advances.near (part_address mid ino part) reached_block.0
        (part_near (record image { at = mid }) (with_node tree ino (with_parts node file.size its.now)) looks ino part (with_parts node file.size its.now) (get_here tree.nodes ino (with_parts node file.size its.now)) refl file.looked below)

  refused_by : (found : Option (List ℕ)) → fin.get file.parts part ≡ found → length chain < missing (pointers image.at) (place_of ino part) → IsRefusedByParts tree ino file.parts part
  refused_by None none short wanted other more is there within = no_space image tree chain stored ino node file.has file.size file.parts part file.body none below short wanted other more is there within
  refused_by (Some was) there short wanted other more is more_there within = absurd (
      let held = held_part image.at ino part was (sym (its_file.each part) ∙ there) in
      let none = none_missing image.at (place_of ino part) held.1 in
      omega (arith, none, short))

  pub part_refused : length chain < missing (pointers image.at) (place_of ino part) → IsRefusedByParts tree ino file.parts part
  part_refused short = refused_by (fin.get file.parts part) refl short

-- ---- what the answers say

module _ (shown : ℕ → Option (List ℕ)) (old new : ChangeList) (ino part place : ℕ) (below : part < most_parts) (bytes : List ℕ) where
  pub puts_none : ReachesPart shown old new ino part reached.NoneLeft → PutsPart shown old new ino part place bytes written.NoneLeft
  puts_none reaches image tree chain is_part stored looks node file =
      let base = with_changes image old in
      let ready = (ready_for base tree chain stored ino node file.has (ap body_has_addresses file.body)).0 in
      part_refused base tree chain looks stored ino node file part below (reaches image.at (has_addresses tree) chain is_part ready)

  pub puts_asked : (mid : ChangeList) (need : Need) → ReachesPart shown old mid ino part (reached.Need need) → PutsPart shown old new ino part place bytes (written.Need need)
  puts_asked mid need reaches = (
    reaches.0,
    λ image tree chain is_part stored looks node file.
        (let base = with_changes image old in
        let n = its_number base tree chain stored ino node file.has in
        let ready = (ready_for base tree chain stored ino node file.has (ap body_has_addresses file.body)).1 looks file.looked in
        reaching_near base tree chain stored looks ino need.first n.0 n.1 (reaches.1 image.at _ chain is_part ready)),
  )

  module _ (mid : ChangeList) (block : ℕ) (reaches : ReachesPart shown old mid ino part (reached.At block)) where
    -- no address of a volume is 0 here, or so great
    pub puts_never : (block ≡ 0) ⊎ (262144 ≤ block) → PutsPart shown old new ino part place bytes written.NoneLeft
    puts_never which image tree chain is_part stored looks node file = absurd (
        let base = with_changes image old in
        let ready = (ready_for base tree chain stored ino node file.has (ap body_has_addresses file.body)).0 in
        let went = reaches.1 image.at (has_addresses tree) chain is_part ready in
        let range = reached_block base tree chain looks stored ino node file part below (over image.at (changed mid)) went.0 in
        let e = went.1 in
        elim which [ inl none ↦ omega (arith, range.0, e, none) | inr far ↦ omega (arith, range.1, e, far) ])

    pub puts_done : place + length bytes ≤ 512 → HasEdited shown mid new block place bytes → PutsPart shown old new ino part place bytes written.Done
    puts_done fits edited = (
      λ w. edited.within (reaches.0 w),
      λ image tree chain is_part stored looks node file.
          (let base = with_changes image old in
          let ready = (ready_for base tree chain stored ino node file.has (ap body_has_addresses file.body)).0 in
          let went = reaches.1 image.at (has_addresses tree) chain is_part ready in
          let now = over image.at (changed mid) in
          let wrote : over image.at (changed new) ≡ put_block now (part_address now ino part) (put_at (now (part_address now ino part)) place bytes) =
          edited.wrote image.at is_part ∙ ap (λ b. put_block now b (put_at (now b) place bytes)) (sym went.1) in
          part_advances base tree chain looks stored ino node file part below now went.0 (over image.at (changed new)) place bytes fits wrote),
    )

    pub puts_lacking : (need : Need) → IsNeed shown need → need.first ≡ block → PutsPart shown old new ino part place bytes (written.Need need)
    puts_lacking need is own = (
      is,
      λ image tree chain is_part stored looks node file.
          (let base = with_changes image old in
          let ready = (ready_for base tree chain stored ino node file.has (ap body_has_addresses file.body)).0 in
          let went = reaches.1 image.at (has_addresses tree) chain is_part ready in
          subst (IsNearTo base tree looks) (went.1 ∙ sym own) (part_block_near base tree chain looks stored ino node file part below (over image.at (changed mid)) went.0)),
    )
