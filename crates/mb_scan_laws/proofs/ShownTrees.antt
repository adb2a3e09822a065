-- What a tree in the inodes of an image says of the bytes: its slots are shown, and rules 5 and 8 are kept.
use Rattle.std.proofs.Common.{◌≡◌, inl, inr, ℕ, zero, suc, ◌+◌, ◌*◌, ◌/◌, ◌%◌, ◌<◌, ◌≤◌, List, [], Bool, true, false, not, ◌&&◌, ◌||◌, nat_eq, nat_le, nat_lt, if◌then◌else◌, length, map, Option, Some, None, is_some, is_none, refl, sym, ap, subst, ◌∙◌, arith}
use Rattle.std.specs.Prelude.{IsSome, ◌↔◌}
use Rattle.std.specs.FinMap as fin
use Rattle.std.specs.List.{range_with_len}
use Rattle.std.proofs.lemmas.Bool.{cases_lt}
use Rattle.std.proofs.lemmas.Bool.Decides.{nat_tests}
use Rattle.mb_tree.specs.Blocks.{part_in, slot_in}
use Rattle.mb_tree.specs.Cost.{most_parts}
use Rattle.mb_tree.specs.Counting.{any_from, first_from}
use Rattle.mb_tree.specs.Inodes.{is_directory, is_regular, is_special}
use Rattle.mb_tree.specs.Trees.{Each, HasSize}
use Rattle.mb_tree.specs.Volume.{HasBody, body_has_addresses}
use Rattle.mb_tree.specs.declared.nodes.Body.{Body}
use Rattle.mb_tree.specs.declared.nodes.Body.TheVariants.{Regular, Directory, Special}
use Rattle.mb_tree.specs.declared.nodes.Node.{Node}
use Rattle.mb_tree.specs.declared.trees.Tree.{Tree}
use Rattle.mb_blocks.proofs.PartBytes.{some_from}
use Rattle.mb_rules.specs.Files.{mode_at, size_at, is_kind, is_size, are_parts}
use Rattle.mb_rules.specs.FilesLaws.{KeepsKind, KeepKinds}
use Rattle.mb_rules.specs.ReachedLaws.{node_slots, body_slots, ShowsSlots}
use Rattle.mb_rules.specs.Slots.{slots_at}
use Rattle.mb_rules.proofs.FilesAccepted.{found_yes}
use Rattle.mb_scan_laws.proofs.ModeTests.{Tests, is_listing, is_plain}
use Rattle.mb_scan_laws.proofs.Modes.{HasNodes, node_in, node_tests, none_free}

-- ---- searches that find nothing

pub none_found : (passes : ℕ → Bool) (low n : ℕ) → ((k : ℕ) → low ≤ k → k < low + n → passes k ≡ false) → any_from passes low n ≡ false
unfolding first_from
none_found passes low zero each = refl
none_found passes low (suc n) each =
    ap (λ b. is_some (if b then Some low else first_from passes (low + 1) n)) (each low (omega arith) (omega arith))
    ∙ none_found passes (low + 1) n (λ k from below. each k (omega (arith, from)) (omega (arith, below)))

pub all_missed : (passes : ℕ → Bool) (low n k : ℕ) → any_from passes low n ≡ false → low ≤ k → k < low + n → passes k ≡ false
all_missed passes low n k none from below =
    elim (passes k) as (λ b. passes k ≡ b → b ≡ false) [
      | true ↦ λ e. (let found = found_yes passes low n k from below e in cc)
      | false ↦ λ e. refl
    ] refl

pub not_true_false : (b : Bool) → not b ≡ true → b ≡ false
not_true_false true t = absurd (cc)
not_true_false false t = refl

-- ---- a part exactly where it lies below the size

abbrev pub part_test : Option (List ℕ) → ℕ → ℕ → Bool
part_test o low size = if nat_lt low size then is_none o else is_some o

none_some : IsSome {T = List ℕ} None → ⊥
none_some e = cc

pub test_from : (o : Option (List ℕ)) (low size : ℕ) → (IsSome o ↔ (low < size)) → part_test o low size ≡ false
test_from None low size h = elim (cases_lt low size) [
  | inl less ↦ absurd (none_some (h.1 less))
  | inr more ↦ (let t : nat_lt low size ≡ false = grind (arith, nat_tests) in ap (λ b. if b then true else false) t)
]
test_from (Some x) low size h =
    let less : low < size = h.0 (some_from (Some x) x refl) in
    let t : nat_lt low size ≡ true = grind (arith, nat_tests) in
    ap (λ b. if b then false else true) t

pub from_test : (o : Option (List ℕ)) (low size : ℕ) → part_test o low size ≡ false → IsSome o ↔ (low < size)
from_test None low size t = (
  λ some. absurd (none_some some),
  λ less. absurd (let e : nat_lt low size ≡ true = grind (arith, nat_tests) in let wrong : true ≡ false = sym (ap (λ b. if b then true else false) e) ∙ t in cc),
)
from_test (Some x) low size t = (
  λ some. elim (cases_lt low size) [
    | inl less ↦ less
    | inr more ↦ absurd (let e : nat_lt low size ≡ false = grind (arith, nat_tests) in let wrong : true ≡ false = sym (ap (λ b. if b then false else true) e) ∙ t in cc)
  ],
  λ less. some_from (Some x) x refl,
)

module _ (blocks : ℕ → List ℕ) (ino : ℕ) where
  abbrev pub misplaced : ℕ → Bool
  misplaced part = part_test (part_in blocks ino part) (512 * part) (size_at blocks ino)

  pub parts_are : ((part : ℕ) → part < most_parts → misplaced part ≡ false) → are_parts blocks ino ≡ true
  unfolding are_parts
  parts_are each = ap not (none_found misplaced 0 most_parts (λ k from below. each k below))

  pub are_then : are_parts blocks ino ≡ true → (part : ℕ) → part < most_parts → misplaced part ≡ false
  unfolding are_parts
  are_then t part below = all_missed misplaced 0 most_parts part (not_true_false (any_from misplaced 0 most_parts) t) (omega arith) below

  pub slots_by : (directory : Bool) → is_directory (mode_at blocks ino) ≡ directory → slots_at blocks ino ≡ (if directory then map (slot_in blocks ino) (range_with_len 0 (size_at blocks ino / 16)) else [])
  unfolding slots_at
  slots_by directory e = ap (λ b. if b then map (slot_in blocks ino) (range_with_len 0 (size_at blocks ino / 16)) else []) e

module _ (blocks : ℕ → List ℕ) (tree : Tree) (nodes : HasNodes blocks tree) where
  slots_in_body : (ino : ℕ) (body : Body) → HasBody blocks ino body → is_directory (mode_at blocks ino) ≡ is_listing body → body_slots body ≡ slots_at blocks ino
  slots_in_body ino (Regular size parts) has d = sym (slots_by blocks ino false d)
  slots_in_body ino (Directory slots) has d =
      let sized = has.sized in
      let n : length slots ≡ size_at blocks ino / 16 = omega (arith, sized) in
      has.each ∙ ap (λ m. map (slot_in blocks ino) (range_with_len 0 m)) n ∙ sym (slots_by blocks ino true d)
  slots_in_body ino (Special size area) has d = sym (slots_by blocks ino false d)

  slots_in : (ino : ℕ) (o : Option Node) → fin.get tree.nodes ino ≡ o → ino ≤ tree.last → node_slots o ≡ slots_at blocks ino
  slots_in ino None e low = sym (slots_by blocks ino false (ap is_directory (none_free blocks tree nodes ino low e)))
  slots_in ino (Some node) e low = slots_in_body ino node.body (node_in blocks tree nodes ino node e).body (node_tests blocks tree nodes ino node e).directory_is

  -- the slots of the tree's directories are those that the bytes show
  pub shows_slots : ShowsSlots blocks tree
  shows_slots = record { last = nodes.last; slots = λ ino low. slots_in ino (fin.get tree.nodes ino) refl (let l = nodes.last in omega (arith, low, l)) }

  -- ---- rules 5 and 8

  kind_of_body : (mode size : ℕ) (body : Body) → Tests mode (not (body_has_addresses body)) (is_listing body) (is_plain body) → is_kind mode ≡ true
  kind_of_body mode size (Regular n parts) t = ap (λ b. b || is_directory mode || is_special mode) t.regular_is
  kind_of_body mode size (Directory slots) t = ap (λ b. b || is_directory mode || is_special mode) t.regular_is ∙ ap (λ b. b || is_special mode) t.directory_is
  kind_of_body mode size (Special n area) t = ap (λ b. b || is_directory mode || is_special mode) t.regular_is ∙ ap (λ b. b || is_special mode) t.directory_is ∙ t.special_is

  abbrev size_by : Bool → Bool → ℕ → Bool
  size_by regular directory size = if regular then nat_le size 1082201088 else if directory then nat_le 32 size && nat_eq (size % 16) 0 else true

  directory_size : (size n : ℕ) → size ≡ 16 * n → 2 ≤ n → (nat_le 32 size && nat_eq (size % 16) 0) ≡ true
  directory_size size n sized two =
      let big : nat_le 32 size ≡ true = (let low : 32 ≤ size = omega (arith, sized, two) in grind (arith, nat_tests)) in
      let even : size % 16 ≡ 0 = omega (arith, sized) in
      let whole : nat_eq (size % 16) 0 ≡ true = ap (λ r. nat_eq r 0) even in
      ap (λ b. b && nat_eq (size % 16) 0) big ∙ whole

  size_of_body : (ino : ℕ) (body : Body) → HasBody blocks ino body → HasSize body → is_regular (mode_at blocks ino) ≡ is_plain body → is_directory (mode_at blocks ino) ≡ is_listing body
      → is_size (mode_at blocks ino) (size_at blocks ino) ≡ true
  size_of_body ino (Regular n parts) has size r d =
      let e = has.sized in
      let most = size.0 in
      let low : size_at blocks ino ≤ 1082201088 = omega (arith, e, most) in
      let t : nat_le (size_at blocks ino) 1082201088 ≡ true = grind (arith, nat_tests) in
      ap (λ b. size_by b (is_directory (mode_at blocks ino)) (size_at blocks ino)) r ∙ t
  size_of_body ino (Directory slots) has size r d =
      ap (λ b. size_by b (is_directory (mode_at blocks ino)) (size_at blocks ino)) r ∙ ap (λ b. size_by false b (size_at blocks ino)) d
      ∙ directory_size (size_at blocks ino) (length slots) has.sized size
  size_of_body ino (Special n area) has size r d =
      ap (λ b. size_by b (is_directory (mode_at blocks ino)) (size_at blocks ino)) r ∙ ap (λ b. size_by false b (size_at blocks ino)) d

  parts_of_body : (ino : ℕ) (body : Body) → HasBody blocks ino body → is_directory (mode_at blocks ino) ≡ is_listing body → is_directory (mode_at blocks ino) ≡ true → are_parts blocks ino ≡ true
  parts_of_body ino (Regular n parts) has d t = absurd (cc)
  parts_of_body ino (Directory slots) has d t =
      parts_are blocks ino (λ part below. subst (λ size. part_test (part_in blocks ino part) (512 * part) size ≡ false) (sym has.sized) (test_from (part_in blocks ino part) (512 * part) (16 * length slots) (has.parts part below)))
  parts_of_body ino (Special n area) has d t = absurd (cc)

  module _ (sizes : Each tree (λ ino node. HasSize node.body)) where
    keeps_by : (ino : ℕ) (o : Option Node) → fin.get tree.nodes ino ≡ o → ino ≤ tree.last → nat_eq (mode_at blocks ino) 0 ≡ false → KeepsKind blocks ino
    keeps_by ino None e low used = absurd (let free : nat_eq (mode_at blocks ino) 0 ≡ true = ap (λ m. nat_eq m 0) (none_free blocks tree nodes ino low e) in cc)
    keeps_by ino (Some node) e low used =
        let tests = node_tests blocks tree nodes ino node e in
        let has = (node_in blocks tree nodes ino node e).body in
        record {
          kind = kind_of_body (mode_at blocks ino) 0 node.body tests;
          size = size_of_body ino node.body has (sizes ino node e) tests.regular_is tests.directory_is;
          parts = λ t. parts_of_body ino node.body has tests.directory_is t;
        }

    pub keep_kinds : KeepKinds blocks
    keep_kinds ino some low used = keeps_by ino (fin.get tree.nodes ino) refl (let l = nodes.last in omega (arith, low, l)) used
