-- The bytes of a volume determine its tree.
use Rattle.std.proofs.Common.{◌≡◌, ◌≢◌, ◌⊎◌, inl, inr, ℕ, zero, suc, ◌+◌, ◌*◌, ◌<◌, ◌≤◌, true, false, ◌||◌, List, Option, Some, None, length, map, refl, sym, ap, subst, ◌∙◌, arith, nat_eq, nat_le}
use Rattle.std.specs.List.{range_with_len}
use Rattle.std.proofs.lemmas.Bool.Decides.{nat_tests}
use Rattle.std.specs.FinMap as fin
use Rattle.mb_kinds.specs.Image.{Image}
use Rattle.mb_tree.specs.Maps.{Numbered}
use Rattle.mb_tree.specs.Inodes.{kind_of, is_special}
use Rattle.mb_tree.specs.Blocks.{slot_in}
use Rattle.mb_tree.specs.Cost.{cost}
use Rattle.mb_tree.specs.Trees.{HasKind, IsSound}
use Rattle.mb_tree.specs.Volume.{HasFile, HasDirectory, HasSpecial, HasBody, HasNode, HasInode, IsVolume}
use Rattle.mb_tree.specs.OneTree.{OneTree}
use Rattle.mb_tree.specs.declared.nodes.PlainSlot.{PlainSlot}
use Rattle.mb_tree.specs.declared.nodes.Node.{Node}
use Rattle.mb_tree.specs.declared.nodes.Body.{Body}
use Rattle.mb_tree.specs.declared.nodes.Body.TheVariants.{Regular, Directory, Special}
use Rattle.mb_tree.specs.declared.trees.Tree.{Tree}
use Rattle.mb_tree.proofs.Chains.{chain_once}
use Rattle.mb_tree.proofs.FiniteMaps.{same}

-- ---- the kinds

not_both : (mode one other : ℕ) → one ≢ other → nat_eq (kind_of mode) one ≡ true → nat_eq (kind_of mode) other ≡ true → ⊥
not_both mode one other apart h k =
    let e : kind_of mode ≡ one = grind (arith, nat_tests) in
    let f : kind_of mode ≡ other = grind (arith, nat_tests) in
    apart (sym e ∙ f)

special_apart : (mode one : ℕ) → one ≢ 0x2000 → one ≢ 0x6000 → nat_eq (kind_of mode) one ≡ true → is_special mode ≡ true → ⊥
special_apart mode one apart beside h k =
    elim (nat_eq (kind_of mode) 0x2000) as (λ b. nat_eq (kind_of mode) 0x2000 ≡ b → (b || nat_eq (kind_of mode) 0x6000) ≡ true → ⊥) [
      | true ↦ λ is s. not_both mode one 0x2000 apart h is
      | false ↦ λ is s. not_both mode one 0x6000 beside h s
    ] refl k

-- ---- one body

module _ (blocks : ℕ → List ℕ) (ino mode : ℕ) where
  one_file : (size other : ℕ) (parts others : Numbered (List ℕ)) → HasFile blocks ino size parts → HasFile blocks ino other others → Regular size parts ≡ Regular other others
  one_file size other parts others h k =
      let sizes : size ≡ other = sym h.sized ∙ k.sized in
      let all : parts ≡ others = same parts others (λ part. h.each part ∙ sym (k.each part)) in
      λ i. Regular (sizes i) (all i)

  one_directory : (slots others : List PlainSlot) → HasDirectory blocks ino slots → HasDirectory blocks ino others → Directory slots ≡ Directory others
  one_directory slots others h k =
      let total : 16 * length slots ≡ 16 * length others = sym h.sized ∙ k.sized in
      let few : length slots ≡ length others = omega arith in
      ap Directory (h.each ∙ ap (λ n. map (slot_in blocks ino) (range_with_len 0 n)) few ∙ sym k.each)

  one_special : (size other : ℕ) (area bytes : List ℕ) → HasSpecial blocks ino size area → HasSpecial blocks ino other bytes → Special size area ≡ Special other bytes
  one_special size other area bytes h k =
      let sizes : size ≡ other = sym h.sized ∙ k.sized in
      let kept : area ≡ bytes = sym h.kept ∙ k.kept in
      λ i. Special (sizes i) (kept i)

  one_body : (body other : Body) → HasKind mode body → HasKind mode other → HasBody blocks ino body → HasBody blocks ino other → body ≡ other
  one_body (Regular size parts) (Regular other others) kind twin h k = one_file size other parts others h k
  one_body (Regular size parts) (Directory slots) kind twin h k = absurd (not_both mode 0x8000 0x4000 (λ e. omega arith) kind twin)
  one_body (Regular size parts) (Special other area) kind twin h k = absurd (special_apart mode 0x8000 (λ e. omega arith) (λ e. omega arith) kind twin)
  one_body (Directory slots) (Regular other others) kind twin h k = absurd (not_both mode 0x4000 0x8000 (λ e. omega arith) kind twin)
  one_body (Directory slots) (Directory others) kind twin h k = one_directory slots others h k
  one_body (Directory slots) (Special other area) kind twin h k = absurd (special_apart mode 0x4000 (λ e. omega arith) (λ e. omega arith) kind twin)
  one_body (Special size area) (Regular other others) kind twin h k = absurd (special_apart mode 0x8000 (λ e. omega arith) (λ e. omega arith) twin kind)
  one_body (Special size area) (Directory others) kind twin h k = absurd (special_apart mode 0x4000 (λ e. omega arith) (λ e. omega arith) twin kind)
  one_body (Special size area) (Special other bytes) kind twin h k = one_special size other area bytes h k

-- ---- one node

one_node : (blocks : ℕ → List ℕ) (ino : ℕ) (node other : Node) → HasKind node.mode node.body → HasKind other.mode other.body → HasNode blocks ino node → HasNode blocks ino other → node ≡ other
one_node blocks ino node other kind twin h k =
    let modes : node.mode ≡ other.mode = sym h.mode ∙ k.mode in
    let nlinks : node.nlink ≡ other.nlink = sym h.nlink ∙ k.nlink in
    let uids : node.uid ≡ other.uid = sym h.uid ∙ k.uid in
    let gids : node.gid ≡ other.gid = sym h.gid ∙ k.gid in
    let read : node.atime ≡ other.atime = sym h.atime ∙ k.atime in
    let wrote : node.mtime ≡ other.mtime = sym h.mtime ∙ k.mtime in
    let changed : node.ctime ≡ other.ctime = sym h.ctime ∙ k.ctime in
    let bodies : node.body ≡ other.body = one_body blocks ino node.mode node.body other.body kind (subst (λ mode. HasKind mode other.body) (sym modes) twin) h.body k.body in
    λ i. record { mode = modes i; nlink = nlinks i; uid = uids i; gid = gids i; atime = read i; mtime = wrote i; ctime = changed i; body = bodies i }

-- the kind of a node that is there
abbrev pub HasKindAt : Option Node → Type 0
HasKindAt None = Unit {0}
HasKindAt (Some node) = HasKind node.mode node.body

one_inode : (blocks : ℕ → List ℕ) (ino : ℕ) (o p : Option Node) → HasKindAt o → HasKindAt p → HasInode blocks ino o → HasInode blocks ino p → o ≡ p
one_inode blocks ino None None kind twin h k = refl
one_inode blocks ino None (Some node) kind twin h k = absurd (k.used h)
one_inode blocks ino (Some node) None kind twin h k = absurd (h.used k)
one_inode blocks ino (Some node) (Some other) kind twin h k = ap Some (one_node blocks ino node other kind twin h k)

kind_at : (tree : Tree) → IsSound tree → (ino : ℕ) (o : Option Node) → fin.get tree.nodes ino ≡ o → HasKindAt o
kind_at tree sound ino None has = tt
kind_at tree sound ino (Some node) has = sound.kinds ino node has

-- past the numbers of a sound tree there is no node
none_past : (tree : Tree) → IsSound tree → (ino : ℕ) → ((1 ≤ ino) → (ino ≤ tree.last) → ⊥) → (o : Option Node) → fin.get tree.nodes ino ≡ o → o ≡ None
none_past tree sound ino past None has = refl
none_past tree sound ino past (Some node) has = let range = sound.numbers ino node has in absurd (past range.0 range.1)

within : (ino last : ℕ) → ((1 ≤ ino) × (ino ≤ last)) ⊎ ((1 ≤ ino) → (ino ≤ last) → ⊥)
within zero last = inr (λ a b. omega arith)
within (suc ino) last =
    elim (nat_le (suc ino) last) as (λ b. nat_le (suc ino) last ≡ b → ((1 ≤ suc ino) × (suc ino ≤ last)) ⊎ ((1 ≤ suc ino) → (suc ino ≤ last) → ⊥)) [
      | true ↦ λ e. inl (omega arith, grind (arith, nat_tests))
      | false ↦ λ e. inr (λ a b. let c : last < suc ino = grind (arith, nat_tests) in omega (arith, b, c))
    ] refl

module _ (image : Image) (tree other : Tree) (h : IsVolume image tree) (k : IsVolume image other) where
  last_once : tree.last ≡ other.last
  last_once = h.last ∙ sym k.last

  one_at : (ino : ℕ) → fin.get tree.nodes ino ≡ fin.get other.nodes ino
  one_at ino = elim (within ino tree.last) [
    | inl range ↦
        let low = range.0 in
        let high = range.1 in
        let same_last = last_once in
        one_inode image.at ino (fin.get tree.nodes ino) (fin.get other.nodes ino) (kind_at tree h.sound ino _ refl) (kind_at other k.sound ino _ refl)
        (h.inodes ino (omega arith) high) (k.inodes ino (omega arith) (omega (arith, high, same_last)))
    | inr past ↦
        let same_last = last_once in
        none_past tree h.sound ino past _ refl ∙ sym (none_past other k.sound ino (λ low high. past low (omega (arith, high, same_last))) _ refl)
  ]

  nodes_once : tree.nodes ≡ other.nodes
  nodes_once = same tree.nodes other.nodes one_at

  cost_once : cost tree ≡ cost other
  cost_once = λ i. cost (record tree { last = last_once i; nodes = nodes_once i })

  cap_once : tree.cap ≡ other.cap
  cap_once =
      let chains : h.chain ≡ k.chain = chain_once _ _ h.chain k.chain h.spare.listed k.spare.listed in
      h.capacity ∙ (λ i. cost_once i + length (chains i)) ∙ sym k.capacity

  pub tree_once : tree ≡ other
  tree_once = λ i. record { last = last_once i; cap = cap_once i; nodes = nodes_once i }

pub one_tree : OneTree
one_tree image tree other h k = tree_once image tree other h k
