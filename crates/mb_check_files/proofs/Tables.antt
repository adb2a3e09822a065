-- The table of the inodes, as more of them are kept.
use Rattle.std.proofs.Common.{◌≡◌, ◌⊎◌, inl, inr, ℕ, zero, suc, ◌+◌, ◌-◌, ◌*◌, ◌/◌, ◌%◌, ◌<◌, ◌≤◌, List, [], ◌∷◌, ◌++◌, true, length, Option, Some, None, slice_get, slice_index, refl, sym, ap, subst, ◌∙◌, arith}
use Rattle.std.proofs.lemmas.Bool.{cases_lt}
use Rattle.std.proofs.lemmas.List.{length-append}
use Rattle.std.proofs.lemmas.Option.{same_Some}
use Rattle.mb_word.specs.Fields.{inode_block, inode_place, nlink_of, mode_of, size_of, address_of}
use Rattle.mb_layout.specs.Inode.{dinode_at, address_in}
use Rattle.mb_layout.specs.declared.dinodes.Dinode.{Dinode}
use Rattle.mb_layout.proofs.InodeBytes.{address_in_area}
use Rattle.mb_tree.specs.Blocks.{part_address}
use Rattle.mb_tree.specs.Inodes.{is_directory}
use Rattle.mb_rules.specs.Files.{mode_at, size_at}
use Rattle.mb_scan_laws.proofs.Modes.{mode_in}
use Rattle.mb_check_files.specs.declared.inodes.InodeKept.{InodeKept}
use Rattle.mb_check_files.specs.declared.inodes.InodeTable.{InodeTable}
use Rattle.mb_check_files.specs.InodeTables.{HasParts, KeepsInode, KeepsInodes, ReadsInode}
use Rattle.mb_check_files.specs.PartLists.{Extends}

pub reads_inode : (blocks : ℕ → List ℕ) (block : List ℕ) (number place ino : ℕ) → 2 ≤ number → place < 8 → ino ≡ 8 * (number - 2) + 1 + place → block ≡ blocks number → length block ≡ 512 → ReadsInode blocks ino number (dinode_at block place)
reads_inode blocks block number place ino two low is same whole =
    let here : inode_block ino ≡ number = omega (arith, two, low, is) in
    let there : inode_place ino ≡ place = omega (arith, two, low, is) in
    let bytes : blocks (inode_block ino) ≡ block = ap blocks here ∙ sym same in
    record {
      stands = here;
      mode = mode_in blocks ino (omega (arith, is)) ∙ ap (λ b. mode_of b (inode_place ino)) bytes ∙ ap (mode_of block) there;
      nlink = ap (λ b. nlink_of b (inode_place ino)) bytes ∙ ap (nlink_of block) there;
      size = ap (λ b. size_of b (inode_place ino)) bytes ∙ ap (size_of block) there;
      address = λ k less. ap (λ b. address_of b (inode_place ino) k) bytes ∙ ap (λ p. address_of block p k) there ∙ address_in_area block place k (omega (arith, low, whole)) less;
    }

has_more : (old new : List ℕ) (address : ℕ → ℕ) (from size : ℕ) → Extends old new → HasParts old address from size → HasParts new address from size
has_more old new address from size more has = record {
  some = has.some;
  even = has.even;
  inside = λ p less. (let a = has.inside p less in let b = more.longer in omega (arith, a, b));
  listed = λ p less. more.same (from + p) (has.inside p less) ∙ has.listed p less;
  there = has.there;
}

get_more : {X : Type 0} (xs : List X) (y : X) (k : ℕ) (x : X) → slice_get (xs ++ (y ∷ [])) k ≡ Some x → ((k < length xs) × (slice_get xs k ≡ Some x)) ⊎ ((k ≡ length xs) × (y ≡ x))
get_more [] y zero x e = inr (refl, same_Some y x e)
get_more [] y (suc k) x e = absurd (cc)
get_more (z ∷ xs) y zero x e = inl (omega arith, e)
get_more (z ∷ xs) y (suc k) x e = elim (get_more xs y k x e) [
  | inl old ↦ inl (let a = old.0 in omega (arith, a), old.1)
  | inr new ↦ inr (ap suc new.0, new.1)
]

module _ (blocks : ℕ → List ℕ) (old new : InodeTable) (last : ℕ) (kept : InodeKept) (keeps : KeepsInodes blocks old last) (items : new.inodes.items ≡ old.inodes.items ++ (kept ∷ []))
    (more : Extends old.parts.addresses.items new.parts.addresses.items) (here : KeepsInode blocks new.parts.addresses.items (last + 1) kept) where
  get_new : (k : ℕ) (found : InodeKept) → slice_get new.inodes.items k ≡ Some found → ((k < length old.inodes.items) × (slice_get old.inodes.items k ≡ Some found)) ⊎ ((k ≡ length old.inodes.items) × (kept ≡ found))
  get_new k found e = get_more old.inodes.items kept k found (ap (λ (xs : List InodeKept). slice_get xs k) (sym items) ∙ e)

  none_new : (found : InodeKept) → slice_get new.inodes.items 0 ≡ Some found → found.mode ≡ 0
  none_new found e = elim (get_new 0 found e) [
    | inl was ↦ keeps.none found was.1
    | inr is ↦ absurd (let n = keeps.count in let z = is.0 in omega (arith, n, z))
  ]

  each_new : (ino : ℕ) (found : InodeKept) → 1 ≤ ino → ino ≤ last + 1 → slice_get new.inodes.items ino ≡ Some found → KeepsInode blocks new.parts.addresses.items ino found
  each_new ino found low high e = elim (get_new ino found e) [
    | inl was ↦ (let one = keeps.each ino found low (let n = keeps.count in let k = was.0 in omega (arith, n, k)) was.1 in record {
      mode = one.mode;
      nlink = one.nlink;
      size = one.size;
      parts = λ d. has_more old.parts.addresses.items new.parts.addresses.items (part_address blocks ino) found.first found.size more (one.parts d);
    })
    | inr is ↦ (let there : last + 1 ≡ ino = (let n = keeps.count in let k = is.0 in omega (arith, n, k)) in
        subst (λ i. KeepsInode blocks new.parts.addresses.items i found) there (subst (KeepsInode blocks new.parts.addresses.items (last + 1)) is.1 here))
  ]

  pub keeps_more : KeepsInodes blocks new (last + 1)
  keeps_more = record {
    count = ap length items ∙ length-append old.inodes.items (kept ∷ []) ∙ (let n = keeps.count in let more_one : length old.inodes.items + 1 ≡ last + 1 + 1 = omega (arith, n) in more_one);
    none = none_new;
    each = each_new;
  }

pub reads_found : (number place : ℕ) (block : List ℕ) (blocks : ℕ → List ℕ) (found : Dinode) → 2 ≤ number → place < 8 → block ≡ blocks number → length block ≡ 512 → found ≡ dinode_at block place
    → ReadsInode blocks (8 * (number - 2) + 1 + place) number found
reads_found number place block blocks found two low same whole is = subst (ReadsInode blocks (8 * (number - 2) + 1 + place) number) (sym is) (reads_inode blocks block number place (8 * (number - 2) + 1 + place) two low refl same whole)

-- what is kept of an inode that was read
pub keeps_found : (blocks : ℕ → List ℕ) (number : ℕ) (new old : List ℕ) (ino other : ℕ) (found : Dinode) (first : ℕ) → ino ≡ other → first ≡ length old → ReadsInode blocks ino number found
    → (is_directory found.mode ≡ true → HasParts new (part_address blocks ino) (length old) found.size)
    → KeepsInode blocks new other (record { mode = found.mode; nlink = found.nlink; size = found.size; first = first })
keeps_found blocks number new old ino other found first here place reads listed = subst (λ i. KeepsInode blocks new i (record { mode = found.mode; nlink = found.nlink; size = found.size; first = first })) here (record {
  mode = sym reads.mode;
  nlink = sym reads.nlink;
  size = sym reads.size;
  parts = λ d. subst (λ f. HasParts new (part_address blocks ino) f found.size) (sym place) (listed d);
})
