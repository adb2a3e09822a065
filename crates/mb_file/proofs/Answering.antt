-- Bytes read on a volume are those of the reference tree.
use Rattle.std.proofs.Common.{ℕ, zero, suc, ◌≡◌, ◌⊎◌, inl, inr, ◌+◌, ◌-◌, ◌*◌, ◌/◌, ◌%◌, ◌<◌, ◌≤◌, true, min, Option, Some, Ok, List, [], ◌∷◌, length, get_or, map, unwrap_or, refl, sym, ap, subst, ◌∙◌, arith}
use Rattle.std.specs.Prelude.{option_map, slice_get}
use Rattle.std.specs.FinMap as fin
use Rattle.std.specs.List.{range_with_len}
use Rattle.std.specs.Ordering.{nat_cmp}
use Rattle.std.proofs.lemmas.Bool.{cases_eq}
use Rattle.mb_kinds.specs.Image.{Image, zeros}
use Rattle.mb_kinds.specs.declared.errors.Errno.TheVariants.{ENOENT}
use Rattle.mb_word.specs.Fields.{inode_block, inode_place}
use Rattle.mb_word.specs.Numbers.{AreBytes, word_at}
use Rattle.mb_word.proofs.Parts.{get_or-part}
use Rattle.mb_layout.specs.Inode.{dinode_at}
use Rattle.mb_layout.specs.declared.dinodes.Dinode.{Dinode}
use Rattle.mb_tree.specs.Answers.{◌>>=◌, some}
use Rattle.mb_tree.specs.Blocks.{pointers, part_bytes, slot_in, slot_of}
use Rattle.mb_tree.specs.Fits.{IsOpenable}
use Rattle.mb_tree.specs.Inodes.{body_size, byte_at, bytes_from, plain_slot_bytes, read_at}
use Rattle.mb_tree.specs.Places.{at}
use Rattle.mb_tree.specs.Volume.{HasBody, HasDirectory, HasFile, IsVolume, body_has_addresses, has_addresses, node_has_addresses}
use Rattle.mb_tree.specs.declared.nodes.Body.{Body}
use Rattle.mb_tree.specs.declared.nodes.Body.TheVariants.{Regular, Directory, Special}
use Rattle.mb_tree.specs.declared.nodes.Node.{Node}
use Rattle.mb_tree.specs.declared.nodes.PlainSlot.{PlainSlot}
use Rattle.mb_tree.specs.declared.trees.Tree.{Tree}
use Rattle.mb_tree.specs.Views.{over, IsPart}
use Rattle.mb_kinds.specs.Changed.{ChangeList, changed}
use Rattle.mb_iface.specs.Asking.{Finds}
use Rattle.mb_iface.specs.Near.{IsNear, IsPassed}
use Rattle.mb_iface.specs.Near.IsNear.{inode_list, held}
use Rattle.mb_iface.specs.declared.queries.Query.TheVariants.{Bytes}
use Rattle.mb_iface.specs.declared.replies.Need.{Need}
use Rattle.mb_iface.proofs.ChangedBlocks.{over_none}
use Rattle.mb_iface.specs.declared.replies.Answer.TheVariants as answer
use Rattle.mb_iface.specs.declared.replies.Asked.TheVariants as asked
use Rattle.mb_blocks.proofs.Owning.{mine_owner, mine_place}
use Rattle.mb_nodes.specs.Stored.{IsStored}
use Rattle.mb_nodes.proofs.OneInode.{in_list}
use Rattle.mb_nodes.proofs.Volumes.{stored_of}
use Rattle.mb_moves.proofs.Nearness.{top_is}
use Rattle.mb_file.specs.Finding.{AsksForOwn, HasSmallAddresses, IsBlockOfInode, OnInode}
use Rattle.mb_file.specs.Finding.IsBlockOfInode.{inode, led_to}
use Rattle.mb_file.specs.Reading.{HasBytesAt, bytes_on}
use Rattle.mb_file.proofs.Holding.{its_inode, its_number}

-- ---- the addresses of a node are small

pub small_addresses : (image : Image) (tree : Tree) (chain : List ℕ) → IsStored image tree chain → (ino : ℕ) → has_addresses tree ino ≡ true → HasSmallAddresses image.at ino
small_addresses image tree chain stored ino is = record {
  sized = stored.bytes;
  small = λ q mine. elim (cases_eq (at (pointers image.at) q) 0) [
    | inl none ↦ omega (arith, none)
    | inr real ↦
        (let open_to = stored.held.in_range q (mine_place (has_addresses tree) ino is q mine) (omega (arith, real)) in
        let below = open_to.below in
        let few = stored.sizes.few_blocks in
        omega (arith, below, few))
  ];
}

-- ---- byte by byte

same_bytes : (body : Body) (blocks : ℕ → List ℕ) (ino n index : ℕ) → ((k : ℕ) → index ≤ k → k < index + n → byte_at body k ≡ get_or (part_bytes blocks ino (k / 512)) (k % 512) 0) → bytes_from body index n ≡ bytes_on blocks ino index n
unfolding bytes_from
same_bytes body blocks ino zero index same = refl
same_bytes body blocks ino (suc n) index same =
    ap (λ b. b ∷ bytes_from body (index + 1) n) (same index (omega arith) (omega arith))
    ∙ ap (λ xs. get_or (part_bytes blocks ino (index / 512)) (index % 512) 0 ∷ xs) (same_bytes body blocks ino n (index + 1) (λ k low high. same k (omega (arith, low)) (omega (arith, high))))

file_byte : (blocks : ℕ → List ℕ) (ino size : ℕ) (parts : fin.FinMap nat_cmp (List ℕ)) → HasFile blocks ino size parts → (k : ℕ) → byte_at (Regular size parts) k ≡ get_or (part_bytes blocks ino (k / 512)) (k % 512) 0
file_byte blocks ino size parts file k = ap (λ o. get_or (unwrap_or o zeros) (k % 512) 0) (file.each (k / 512))

-- a slot's bytes, from those of its block
slot_byte : (b : List ℕ) (slot j : ℕ) → AreBytes b → j < 16 → get_or (plain_slot_bytes (slot_of b slot)) j 0 ≡ get_or b (16 * slot + j) 0
unfolding word_at
slot_byte b slot zero are low = (let lo = are (16 * slot) in let hi = are (16 * slot + 1) in let e : get_or b (16 * slot + 0) 0 ≡ get_or b (16 * slot) 0 = ap (λ i. get_or b i 0) (omega arith) in omega (arith, lo, hi, e))
slot_byte b slot (suc zero) are low = (let lo = are (16 * slot) in let hi = are (16 * slot + 1) in omega (arith, lo, hi))
slot_byte b slot (suc (suc j)) are low = get_or-part b (16 * slot + 2) 14 j (omega (arith, low)) ∙ ap (λ i. get_or b i 0) (omega arith)

slot_there : (f : ℕ → PlainSlot) (count at from : ℕ) → at < count → slice_get (map f (range_with_len from count)) at ≡ Some (f (from + at))
slot_there f zero at from low = absurd (omega (arith, low))
slot_there f (suc count) zero from low = ap (λ i. Some (f i)) (let e : from ≡ from + 0 = omega arith in e)
slot_there f (suc count) (suc at) from low = slot_there f count at (from + 1) (omega (arith, low)) ∙ ap (λ i. Some (f i)) (let e : from + 1 + at ≡ from + suc at = omega arith in e)

module _ (blocks : ℕ → List ℕ) (ino : ℕ) (slots : List PlainSlot) (directory : HasDirectory blocks ino slots) where
  directory_byte : (k : ℕ) → k < 16 * length slots → AreBytes (part_bytes blocks ino (k / 512)) → byte_at (Directory slots) k ≡ get_or (part_bytes blocks ino (k / 512)) (k % 512) 0
  directory_byte k low are =
      let there : slice_get slots (k / 16) ≡ Some (slot_in blocks ino (k / 16)) =
      ap (λ xs. slice_get xs (k / 16)) directory.each ∙ slot_there (slot_in blocks ino) (length slots) (k / 16) 0 (omega (arith, low)) ∙ ap (λ s. Some (slot_in blocks ino s)) (let e : 0 + k / 16 ≡ k / 16 = omega arith in e) in
      let part : k / 16 / 32 ≡ k / 512 = omega arith in
      ap (λ o. unwrap_or (option_map (λ (slot : PlainSlot). get_or (plain_slot_bytes slot) (k % 16) 0) o) 0) there
      ∙ ap (λ p. get_or (plain_slot_bytes (slot_of (part_bytes blocks ino p) (k / 16 % 32))) (k % 16) 0) part
      ∙ slot_byte (part_bytes blocks ino (k / 512)) (k / 16 % 32) (k % 16) are (omega arith)
      ∙ ap (λ i. get_or (part_bytes blocks ino (k / 512)) i 0) (omega arith)

-- ---- the whole answer

size_is : (blocks : ℕ → List ℕ) (ino : ℕ) (d : Dinode) → d ≡ dinode_at (blocks (inode_block ino)) (inode_place ino) → d.size < 4294967296 → (body : Body) → body_has_addresses body ≡ true → HasBody blocks ino body → body_size body ≡ d.size
size_is blocks ino d reads few (Regular size parts) t has = sym (ap (λ (x : Dinode). x.size) reads ∙ has.sized)
size_is blocks ino d reads few (Directory slots) t has = (let e : d.size ≡ 16 * length slots = ap (λ (x : Dinode). x.size) reads ∙ has.sized in omega (arith, e, few))
size_is blocks ino d reads few (Special size area) t has = cc

each_byte : (blocks : ℕ → List ℕ) (ino index n : ℕ) (body : Body) → body_has_addresses body ≡ true → HasBody blocks ino body → (n ≡ 0) ⊎ (index + n ≤ body_size body) → HasBytesAt blocks ino index n
    → (k : ℕ) → index ≤ k → k < index + n → byte_at body k ≡ get_or (part_bytes blocks ino (k / 512)) (k % 512) 0
each_byte blocks ino index n (Regular size parts) t has inside are k low high = file_byte blocks ino size parts has k
each_byte blocks ino index n (Directory slots) t has inside are k low high = directory_byte blocks ino slots has k (elim inside [ inl none ↦ absurd (omega (arith, low, high, none)) | inr within ↦ omega (arith, high, within) ]) (are k low high)
each_byte blocks ino index n (Special size area) t has inside are k low high = cc

openable_node : (tree : Tree) (ino : ℕ) → IsOpenable tree.nodes ino → (node : Node) × (fin.get tree.nodes ino ≡ Some node) × (body_has_addresses node.body ≡ true)
openable_node tree ino (inl file) = (file.node, file.has, ap body_has_addresses file.body)
openable_node tree ino (inr directory) = (directory.node, directory.has, ap body_has_addresses directory.body)

module _ (shown : ℕ → Option (List ℕ)) (changes : ChangeList) (none : changes ≡ []) (image : Image) (tree : Tree) (part : IsPart shown image.at) (volume : IsVolume image tree) (ino offset count : ℕ) where
  abbrev stored : IsStored image tree volume.chain
  stored = stored_of image tree volume

  same : over image.at (changed changes) ≡ image.at
  same = ap (λ c. over image.at (changed c)) none ∙ over_none image.at

  on_image : (says : (ℕ → List ℕ) → Type 0) → has_addresses tree ino ≡ true → OnInode shown changes ino says → says image.at
  on_image says is on =
      subst says same (on image.at part (subst (λ (blocks : ℕ → List ℕ). HasSmallAddresses blocks ino) (sym same) (small_addresses image tree volume.chain stored ino is)))

  module _ (d : Dinode) (few : d.size < 4294967296) (reads : (blocks : ℕ → List ℕ) → IsPart shown blocks → d ≡ dinode_at (over blocks (changed changes) (inode_block ino)) (inode_place ino)) (most : ℕ) (is_most : most ≡ min (d.size - offset) count) where
    read_here : d ≡ dinode_at (image.at (inode_block ino)) (inode_place ino)
    read_here = reads image.at part ∙ ap (λ (blocks : ℕ → List ℕ). dinode_at (blocks (inode_block ino)) (inode_place ino)) same

    pub found_bytes : (items : List ℕ) → OnInode shown changes ino (λ now. (items ≡ bytes_on now ino offset most) × HasBytesAt now ino offset most) → Finds image tree (Bytes ino offset count) (asked.Found (answer.Bytes items))
    found_bytes items copied askable =
        let its = openable_node tree ino askable in
        let node = its.0 in
        let body = (its_inode image tree volume.chain stored ino node its.1).body in
        let went = on_image (λ now. (items ≡ bytes_on now ino offset most) × HasBytesAt now ino offset most) (ap node_has_addresses its.1 ∙ its.2) copied in
        let size = size_is image.at ino d read_here few node.body its.2 body in
        let many : min count (body_size node.body - offset) ≡ most = omega (arith, size, is_most) in
        let inside : (most ≡ 0) ⊎ (offset + most ≤ body_size node.body) = elim (cases_eq most 0) [ inl e ↦ inl e | inr real ↦ inr (omega (arith, size, is_most, real)) ] in
        let bytes : read_at node.body offset count ≡ items =
        ap (bytes_from node.body offset) many ∙ same_bytes node.body image.at ino most offset (each_byte image.at ino offset most node.body its.2 body inside went.1) ∙ sym went.0 in
        ap (λ (o : Option Node). some o ENOENT >>= (λ (x : Node). Ok (answer.Bytes (read_at x.body offset count)))) its.1 ∙ ap (λ xs. Ok (answer.Bytes xs)) bytes

    pub found_nothing : most ≡ 0 → (items : List ℕ) → items ≡ [] → Finds image tree (Bytes ino offset count) (asked.Found (answer.Bytes items))
    found_nothing zero_most items empty = found_bytes items (λ blocks is_part has. (empty ∙ ap (bytes_on (over blocks (changed changes)) ino offset) (sym zero_most), λ k low high. absurd (omega (arith, low, high, zero_most))))

  near_own : (block : ℕ) → has_addresses tree ino ≡ true → 0 < ino → ino ≤ tree.last → IsBlockOfInode image.at ino block → IsNear image tree (IsPassed tree (Bytes ino offset count)) block
  near_own block is real below (inode own) =
      subst (IsNear image tree (IsPassed tree (Bytes ino offset count))) (sym own) (inode_list (omega arith) (in_list image tree volume.chain stored ino real below))
  near_own block is real below (led_to q mine leads) = held q (mine_place (has_addresses tree) ino is q mine) (top_is q ∙ mine_owner (has_addresses tree) ino q mine) leads

  pub asked_reading : (need : Need) → AsksForOwn shown changes ino need → Finds image tree (Bytes ino offset count) (asked.Need need)
  asked_reading need asks askable =
      let its = openable_node tree ino askable in
      let is : has_addresses tree ino ≡ true = ap node_has_addresses its.1 ∙ its.2 in
      let n = its_number image tree volume.chain stored ino its.0 its.1 in
      near_own need.first is (omega (arith, n.0)) n.1 (on_image (λ now. IsBlockOfInode now ino need.first) is asks.1)

  pub asked_inode : (need : Need) → need.first ≡ inode_block ino → Finds image tree (Bytes ino offset count) (asked.Need need)
  asked_inode need own askable =
      let its = openable_node tree ino askable in
      let n = its_number image tree volume.chain stored ino its.0 its.1 in
      subst (IsNear image tree (IsPassed tree (Bytes ino offset count))) (sym own) (inode_list (omega arith) (in_list image tree volume.chain stored ino (omega (arith, n.0)) n.1))
