-- A node's blocks let go and put back on the free chain: the node emptied, or gone.
use Rattle.std.proofs.Common.{ℕ, ◌≡◌, ◌⊎◌, inl, inr, ◌+◌, ◌*◌, ◌<◌, ◌≤◌, Bool, true, false, not, ◌&&◌, List, [], ◌++◌, length, map, slice_index, Some, None, nat_eq, refl, sym, ap, subst, ◌∙◌, arith, append_assoc}
use Rattle.std.specs.FinMap as fin
use Rattle.std.specs.FinMap.{get-empty}
use Rattle.std.specs.Ordering.{nat_cmp}
use Rattle.std.proofs.Math.Path.{fun_ext}
use Rattle.std.proofs.lemmas.Bool.{cases_eq}
use Rattle.std.proofs.lemmas.Bool.Decides.{nat_tests}
use Rattle.mb_kinds.specs.Image.{Image}
use Rattle.mb_word.specs.Fields.{isize_of, ninode_of, inode_block, inode_place, mode_of, size_of, address_of, index_entry}
use Rattle.mb_word.proofs.Values.{word_at-same}
use Rattle.mb_tree.specs.Blocks.{pointers, part_in}
use Rattle.mb_tree.specs.Cost.{cost_at, body_cost, index_blocks}
use Rattle.mb_tree.specs.Places.{at, place_of}
use Rattle.mb_tree.specs.Volume.{HasFile, HasBody, HasNode, HasInode, body_has_addresses, node_has_addresses, has_addresses}
use Rattle.mb_tree.specs.declared.nodes.Body.{Body}
use Rattle.mb_tree.specs.declared.nodes.Body.TheVariants.{Regular, Directory, Special}
use Rattle.mb_tree.specs.declared.nodes.Node.{Node}
use Rattle.mb_tree.specs.declared.trees.Tree.{Tree}
use Rattle.mb_tree.proofs.FiniteMaps.{get_here, get_there, gone_here, gone_there, one_or_not, entries_none}
use Rattle.mb_tree.specs.Views.{IsWiped, Kept}
use Rattle.std.specs.List.{Contains}
use Rattle.mb_blocks.specs.Conserved.{Conserves}
use Rattle.mb_blocks.specs.FreeLists.{AreFreed, HasFreed, onto}
use Rattle.mb_blocks.specs.Laid.{IndexesLeadOn, IsLaid}
use Rattle.mb_blocks.specs.Owners.{without}
use Rattle.mb_blocks.specs.Pointing.{KeepsHeld}
use Rattle.mb_blocks.proofs.Conserving.{conserved_by, conserved_less, conserved_more, conserved_same, conserved_then}
use Rattle.mb_blocks.proofs.FreeingAll.{freed_all, onto_length}
use Rattle.mb_tree.proofs.Groups.{no_blocks}
use Rattle.mb_blocks.proofs.InodeStays.{inode_stays, top_stays}
use Rattle.mb_blocks.proofs.Keeping.{laid_listed, listed_held, sizes_same}
use Rattle.mb_blocks.proofs.LettingGo.{hole_under, laid_less, laid_more, lead_more}
use Rattle.mb_blocks.proofs.Owning.{place_was, without_apart, without_has, without_of}
use Rattle.mb_blocks.proofs.PartBytes.{part_missing}
use Rattle.mb_blocks.proofs.PartPlaces.{place_is}
use Rattle.mb_blocks.proofs.Pointing.{at_alike, held_then, its_pointers}
use Rattle.mb_blocks.specs.Inodes.{HasFields, IsBorn, IsRewritten}
use Rattle.mb_nodes.specs.Bodies.{LetsGo}
use Rattle.mb_nodes.specs.Bodies.LetsGo.{listed, special}
use Rattle.mb_nodes.specs.Stored.{IsStored}
use Rattle.mb_nodes.specs.Underway.{KeepsOthers}
use Rattle.mb_nodes.proofs.KeptFrom.{kept_bytes, kept_cache, kept_conserved, kept_free, kept_unused}
use Rattle.mb_nodes.proofs.NodeParts.{addressed, node_cost}
use Rattle.mb_nodes.proofs.OneInode.{in_list, in_tree, laid_stored, leads_stored, stored_by_one}

-- the index blocks that stay lead on as before
pub lead_kept : (has : ℕ → Bool) (old new : ℕ → List ℕ) → KeepsHeld has old new → IndexesLeadOn has old → IndexesLeadOn has new
lead_kept has old new keeps leads q h up some =
    let e = at_alike has old new (its_pointers has old new keeps) q h in
    let was : 0 < at (pointers old) q = omega (arith, some, e) in
    let on = leads q h up was in
    let same : new (at (pointers new) q) ≡ old (at (pointers old) q) = ap new e ∙ keeps.blocks q h was in
    (on.0, on.1, λ none. on.2 (ap (λ b. index_entry b on.0) (sym same) ∙ none))

and_true : (b : Bool) → (b && true) ≡ b
and_true true = refl
and_true false = refl

and_false : (b : Bool) → (b && false) ≡ false
and_false true = refl
and_false false = refl

-- a special file costs nothing
none_cost : (body : Body) → body_has_addresses body ≡ false → 0 ≡ body_cost body
none_cost (Regular size parts) t = cc
none_cost (Directory slots) t = cc
none_cost (Special size area) t = no_blocks

module _ (image : Image) (tree : Tree) (chain : List ℕ) (stored : IsStored image tree chain) (ino : ℕ) (node : Node) (has : fin.get tree.nodes ino ≡ Some node) where
  abbrev rest : ℕ → Bool
  rest = without (has_addresses tree) ino

  -- an inode without addresses is not left out
  none_less : body_has_addresses node.body ≡ false → rest ≡ has_addresses tree
  none_less t = fun_ext (λ j. elim (one_or_not j ino) [
    | inl is ↦
        (let off : has_addresses tree ino ≡ false = ap node_has_addresses has ∙ t in
        let here : has_addresses tree j ≡ false = ap (has_addresses tree) is ∙ off in
        ap (λ b. b && not (nat_eq j ino)) here ∙ sym here)
    | inr apart ↦
        (let off : nat_eq j ino ≡ false = grind (arith, nat_tests) in
        ap (λ b. has_addresses tree j && not b) off ∙ and_true (has_addresses tree j))
  ])

  laid_let : (body : Body) (list : List ℕ) → body ≡ node.body → LetsGo image.at ino body list → IsLaid rest image.at (list ++ []) chain
  laid_let body list is (listed b l t lists) =
      laid_less (has_addresses tree) image.at ino list [] chain (laid_stored image tree chain stored)
      (addressed image tree chain stored ino node has (ap body_has_addresses (sym is) ∙ t)) lists
  laid_let body list is (special b t) = subst (λ h. IsLaid h image.at [] chain) (sym (none_less (ap body_has_addresses (sym is) ∙ t))) (laid_stored image tree chain stored)

  let_cost : (body : Body) (list : List ℕ) → body ≡ node.body → LetsGo image.at ino body list → length list ≡ body_cost node.body
  let_cost body list is (listed b l t lists) = node_cost image tree chain stored ino node has (ap body_has_addresses (sym is) ∙ t) list lists
  let_cost body list is (special b t) = none_cost body t ∙ ap body_cost is

  -- the inode is written, and then the blocks are freed
  module _ (mid new : ℕ → List ℕ) (list : List ℕ) (lets : LetsGo image.at ino node.body list) (written : IsRewritten image.at mid ino) (freed : AreFreed mid new list) where
    within : (1 ≤ ino) × (ino ≤ tree.last)
    within = stored.numbers ino node has

    low_block : inode_block ino < isize_of (image.at 1)
    low_block = in_list image tree chain stored ino (let n = within in omega (arith, n.0)) within.1

    first : mid 1 ≡ image.at 1
    first = written.others 1 (omega arith)

    beyond : (block : ℕ) → isize_of (image.at 1) ≤ block → mid block ≡ image.at block
    beyond block from = written.others block (let low = low_block in omega (arith, low, from))

    mid_sized : (block : ℕ) → length (mid block) ≡ 512
    mid_sized block = elim (cases_eq block (inode_block ino)) [
      | inl is ↦ ap (λ b. length (mid b)) is ∙ written.sized
      | inr apart ↦ ap length (written.others block apart) ∙ stored.bytes block
    ]

    tops_mid : (j p : ℕ) → rest j ≡ true → p < 13 → (pointers mid).top j p ≡ (pointers image.at).top j p
    tops_mid j p t low =
        let r = in_tree image tree chain stored j (without_has (has_addresses tree) ino j t) in
        top_stays image.at mid j (mid_sized (inode_block j)) (stored.bytes (inode_block j)) (written.beside j (omega (arith, r.0)) (without_apart (has_addresses tree) ino j t)) p low

    let_go : IsLaid rest image.at (list ++ []) chain
    let_go = laid_let node.body list refl lets

    all : HasFreed rest mid new list [] chain (onto list chain)
    all = freed_all rest mid new list [] chain (laid_listed rest image.at mid (list ++ []) chain let_go first beyond mid_sized tops_mid) freed

    keeps : KeepsHeld rest image.at new
    keeps = held_then rest image.at mid new (listed_held rest image.at mid (list ++ []) chain let_go first beyond mid_sized tops_mid) all.held

    size_same : isize_of (mid 1) ≡ isize_of (image.at 1)
    size_same = ap (λ (bytes : List ℕ). isize_of bytes) first

    block_same : (j : ℕ) → 0 < j → j ≤ tree.last → new (inode_block j) ≡ mid (inode_block j)
    block_same j some below = all.rest.listed (inode_block j) (omega arith) (let low = in_list image tree chain stored j some below in let e = size_same in omega (arith, low, e))

    others_stay : KeepsOthers tree image.at new ino
    others_stay = record {
      bytes = λ j some below apart k from to. ap (λ (b : List ℕ). slice_index b k) (block_same j some below) ∙ written.beside j some apart k from to;
      held = keeps;
      back = λ k from to. all.rest.back k from to ∙ ap (λ (b : List ℕ). slice_index b k) first;
      byte = ap (λ (b : List ℕ). slice_index b (64 * inode_place ino + 51)) (block_same ino (let n = within in omega (arith, n.0)) within.1) ∙ written.byte;
      front = λ k from to. all.rest.front k from to ∙ ap (λ (b : List ℕ). slice_index b k) first;
      cached =
          (let same : ninode_of (new 1) ≡ ninode_of (mid 1) = word_at-same (new 1) (mid 1) 208 (λ k from to. all.rest.back k from (omega arith)) in
          let was = stored.cached in
          let e : ninode_of (mid 1) ≡ ninode_of (image.at 1) = ap (λ (b : List ℕ). ninode_of b) first in
          omega (arith, same, was, e));
    }

    leads_rest : IndexesLeadOn rest new
    leads_rest = lead_kept rest image.at new keeps (λ q h. leads_stored image tree chain stored q (place_was (has_addresses tree) ino q h))

    -- the blocks that the node cost are free
    paid : length (onto list chain) ≡ cost_at (fin.get tree.nodes ino) + length chain
    paid =
        let a = onto_length list chain in
        let b = let_cost node.body list refl lets in
        let c : cost_at (fin.get tree.nodes ino) ≡ body_cost node.body = ap cost_at has in
        omega (arith, a, b, c)

    -- ---- the node is gone

    abbrev gone : Tree
    gone = record tree { nodes = fin.remove tree.nodes ino }

    gone_has : has_addresses gone ≡ rest
    gone_has = fun_ext (λ j. elim (one_or_not j ino) [
      | inl is ↦
          (let here : has_addresses gone j ≡ false = ap (has_addresses gone) is ∙ ap node_has_addresses (gone_here tree.nodes ino) in
          let on : nat_eq j ino ≡ true = grind (arith, nat_tests) in
          here ∙ sym (ap (λ b. has_addresses tree j && not b) on ∙ and_false (has_addresses tree j)))
      | inr apart ↦
          (let off : nat_eq j ino ≡ false = grind (arith, nat_tests) in
          ap node_has_addresses (gone_there tree.nodes ino j apart) ∙ sym (ap (λ b. has_addresses tree j && not b) off ∙ and_true (has_addresses tree j)))
    ])

    pub erased : mode_of (mid (inode_block ino)) (inode_place ino) ≡ 0 → IsStored (record image { at = new }) gone (onto list chain)
    erased free =
        stored_by_one image new tree gone chain (onto list chain) ino stored within
        (record { last = refl; cap = refl; others = λ j apart. gone_there tree.nodes ino j apart }) others_stay all.laid.sized
        (subst (HasInode new ino) (sym (gone_here tree.nodes ino)) (ap (λ (b : List ℕ). mode_of b (inode_place ino)) (block_same ino (let n = within in omega (arith, n.0)) within.1) ∙ free))
        (subst (λ h. IsLaid h new [] (onto list chain)) (sym gone_has) all.laid)
        (subst (λ h. IndexesLeadOn h new) (sym gone_has) leads_rest)
        (let a = paid in let none : cost_at (fin.get gone.nodes ino) ≡ 0 = ap cost_at (gone_here tree.nodes ino) in omega (arith, a, none))

    -- what is accounted for without the node
    let_conserved : (body : Body) (xs : List ℕ) → body ≡ node.body → LetsGo image.at ino body xs → Conserves (has_addresses tree) rest image.at image.at chain (xs ++ chain)
    let_conserved body xs is (listed b l t lists) =
        conserved_less (has_addresses tree) image.at ino xs [] chain (laid_stored image tree chain stored) (addressed image tree chain stored ino node has (ap body_has_addresses (sym is) ∙ t)) lists
    let_conserved body xs is (special b t) = subst (λ h. Conserves (has_addresses tree) h image.at image.at chain chain) (sym (none_less (ap body_has_addresses (sym is) ∙ t))) (conserved_same (has_addresses tree) image.at chain)

    pub gone_conserved : Conserves (has_addresses tree) rest image.at new chain (onto list chain)
    gone_conserved =
        let wide = stored.sizes.some_inodes in
        let e : (list ++ []) ++ chain ≡ list ++ chain = append_assoc list [] chain in
        let written_held = listed_held rest image.at mid (list ++ []) chain let_go first beyond mid_sized tops_mid in
        let middle : Conserves rest rest image.at mid (list ++ chain) ((list ++ []) ++ chain) =
        conserved_by rest image.at mid (list ++ chain) ((list ++ []) ++ chain) (its_pointers rest image.at mid written_held)
        (λ b among. subst (λ xs. Contains xs b) (sym e) among) (λ b among. subst (λ xs. Contains xs b) e among)
        (λ b from unhad. beyond b from) (written.others 0 (omega arith)) (λ k from to. ap (λ (b : List ℕ). slice_index b k) first) in
        conserved_then (has_addresses tree) rest rest image.at image.at new chain (list ++ chain) (onto list chain) wide (let_conserved node.body list refl lets)
        (conserved_then rest rest rest image.at mid new (list ++ chain) ((list ++ []) ++ chain) (onto list chain) wide middle all.conserves)

    pub erased_kept : mode_of (mid (inode_block ino)) (inode_place ino) ≡ 0 → IsWiped (mid (inode_block ino)) (inode_place ino) → Kept tree image gone (record image { at = new })
    erased_kept free wiped =
        kept_conserved image (record image { at = new }) tree gone chain (onto list chain) stored (erased free)
        (subst (λ h. Conserves (has_addresses tree) h image.at new chain (onto list chain)) (sym gone_has) gone_conserved)
        (kept_unused image tree ino new others_stay) (kept_cache image tree chain stored ino new others_stay) (kept_bytes image tree chain stored ino new others_stay)
        (kept_free image tree chain stored ino new others_stay
        (λ none. inl (λ k low apart. ap (λ (b : List ℕ). slice_index b (64 * inode_place ino + k)) (block_same ino (let n = within in omega (arith, n.0)) within.1) ∙ wiped k low apart)))

    -- ---- the node is an empty file

    module _ (left : Node) (size : ℕ) (empty : left.body ≡ Regular size fin.empty) (fields : HasFields mid ino left) (long : size_of (mid (inode_block ino)) (inode_place ino) ≡ size)
        (holes : (p : ℕ) → p < 13 → (pointers mid).top ino p ≡ 0) where
      abbrev blank : Tree
      blank = record tree { nodes = fin.insert tree.nodes ino left }

      mine_block : new (inode_block ino) ≡ mid (inode_block ino)
      mine_block = block_same ino (let n = within in omega (arith, n.0)) within.1

      holes_now : (p : ℕ) → p < 13 → (pointers new).top ino p ≡ 0
      holes_now p low = ap (λ (b : List ℕ). address_of b (inode_place ino) p) mine_block ∙ holes p low

      no_part : (blocks : ℕ → List ℕ) → ((p : ℕ) → p < 13 → (pointers blocks).top ino p ≡ 0) → (part : ℕ) → part_in blocks ino part ≡ None
      no_part blocks none part = part_missing blocks ino part (λ below. hole_under blocks ino none (place_of ino part) (place_is (nat_eq ino) ino part (grind (arith, nat_tests)) below))

      file : HasFile mid ino size fin.empty
      file = record { sized = long; each = λ part. get-empty nat_cmp part ∙ sym (no_part mid holes part) }

      node_mid : HasNode mid ino left
      node_mid = record {
        used = fields.used;
        mode = fields.mode;
        nlink = fields.nlink;
        uid = fields.uid;
        gid = fields.gid;
        atime = fields.atime;
        mtime = fields.mtime;
        ctime = fields.ctime;
        body = subst (HasBody mid ino) (sym empty) file;
      }

      node_now : HasNode new ino left
      node_now = inode_stays mid new ino (all.laid.sized (inode_block ino)) written.sized (λ k from to. ap (λ (b : List ℕ). slice_index b k) mine_block) (Some left)
          (λ t part. no_part new holes_now part ∙ sym (no_part mid holes part)) node_mid

      now_listed : inode_block ino < isize_of (new 1)
      now_listed = (let low = low_block in let same = sizes_same image.at new others_stay.front in omega (arith, low, same.0))

      adds : (i : ℕ) → has_addresses blank i ≡ true → (rest i ≡ true) ⊎ IsBorn new i
      adds i t = elim (one_or_not i ino) [
        | inl is ↦ inr (subst (IsBorn new) (sym is) (record { some = (let n = within in omega (arith, n.0)); listed = now_listed; holes = holes_now }))
        | inr apart ↦ inl (without_of (has_addresses tree) ino i (sym (ap node_has_addresses (get_there tree.nodes ino left i apart)) ∙ t) apart)
      ]

      no_keys : fin.keys (fin.empty {X = List ℕ} {R = nat_cmp}) ≡ []
      no_keys = ap (map (λ (e : ℕ × List ℕ). e.0)) entries_none

      costs_nothing : 0 ≡ body_cost left.body
      costs_nothing = no_blocks ∙ ap (λ (ks : List ℕ). length ks + index_blocks ks) (sym no_keys) ∙ ap body_cost (sym empty)

      pub cleared : IsStored (record image { at = new }) blank (onto list chain)
      cleared =
          stored_by_one image new tree blank chain (onto list chain) ino stored within
          (record { last = refl; cap = refl; others = λ j apart. get_there tree.nodes ino left j apart }) others_stay all.laid.sized
          (subst (HasInode new ino) (sym (get_here tree.nodes ino left)) node_now)
          (laid_more rest (has_addresses blank) new adds [] (onto list chain) all.laid)
          (lead_more rest (has_addresses blank) new adds leads_rest)
          (let a = paid in let none : cost_at (fin.get blank.nodes ino) ≡ 0 = ap cost_at (get_here tree.nodes ino left) ∙ sym costs_nothing in omega (arith, a, none))

      more_still : (i : ℕ) → rest i ≡ true → has_addresses blank i ≡ true
      more_still i t = ap node_has_addresses (get_there tree.nodes ino left i (without_apart (has_addresses tree) ino i t)) ∙ without_has (has_addresses tree) ino i t

      pub cleared_kept : Kept tree image blank (record image { at = new })
      cleared_kept =
          kept_conserved image (record image { at = new }) tree blank chain (onto list chain) stored cleared
          (conserved_then (has_addresses tree) rest (has_addresses blank) image.at new new chain (onto list chain) (onto list chain) stored.sizes.some_inodes gone_conserved
          (conserved_more rest (has_addresses blank) new (onto list chain) more_still adds))
          (kept_unused image tree ino new others_stay) (kept_cache image tree chain stored ino new others_stay) (kept_bytes image tree chain stored ino new others_stay)
          (kept_free image tree chain stored ino new others_stay (λ none. absurd (node_now.used none)))
