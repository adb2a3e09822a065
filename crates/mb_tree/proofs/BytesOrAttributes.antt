-- The operations that touch bytes or attributes alone keep a sound tree sound.
use Rattle.std.proofs.Common.{◌≡◌, inl, inr, ℕ, ◌+◌, ◌/◌, ◌<◌, ◌≤◌, max, true, false, List, [], ◌∷◌, length, Option, Some, None, Ok, option_map, unwrap_or, nat_le, refl, sym, ap, subst, ◌∙◌, arith}
use Rattle.std.proofs.lemmas.Bool.Decides.{nat_tests}
use Rattle.std.specs.Prelude.{bit_and, bit_or, ◌%◌, ◌*◌, ◌==◌, ◌||◌}
use Rattle.std.proofs.lemmas.Nat.{and_or_apart}
use Rattle.std.proofs.lemmas.Nat.Bits.{and_high, and_high_mask_twice}
use Rattle.std.proofs.Common.{lit≤}
use Rattle.mb_tree.specs.Inodes.{kind_of}
use Rattle.mb_tree.specs.Effect.{with_mode}
use Rattle.std.specs.FinMap as fin
use Rattle.std.specs.FinMap.{get-empty}
use Rattle.std.specs.Ordering.{nat_cmp}
use Rattle.mb_kinds.specs.declared.errors.Errno.TheVariants.{ENOSPC, EFBIG}
use Rattle.mb_tree.specs.Answers.{need}
use Rattle.mb_tree.specs.Maps.{Numbered, changed_at}
use Rattle.mb_tree.specs.Inodes.{slots_of}
use Rattle.mb_tree.specs.Cost.{cost, most_parts}
use Rattle.mb_tree.specs.Effect.{cleared, written, blanked, wrote, with_owner, with_times, put_byte, put_bytes, fitting}
use Rattle.mb_tree.specs.Trees.{HasKind, HasSize, IsSound}
use Rattle.mb_tree.specs.Laws.{KeepsSlotsAndLinks, StaysWithSlotsAndLinks, BytesOrAttributesKept}
use Rattle.mb_tree.specs.declared.nodes.Node.{Node}
use Rattle.mb_tree.specs.declared.nodes.Body.{Body}
use Rattle.mb_tree.specs.declared.nodes.Body.TheVariants.{Regular, Directory, Special}
use Rattle.mb_tree.specs.declared.trees.Tree.{Tree}
use Rattle.mb_tree.specs.declared.operations.FsOp.TheVariants.{Empty, Put, SetMode, SetOwner, SetTimes, Hold}
use Rattle.mb_tree.proofs.FiniteMaps.{get_here, get_there, one_or_not}
use Rattle.mb_tree.proofs.Always.{then_ok, same_ok}
use Rattle.mb_tree.proofs.SlotsAndLinks.{itself, slots_and_links_kept}
use Rattle.mb_tree.proofs.Cheaper.{after_op}

-- ---- bodies

abbrev pub ArePartsBelow : Numbered (List ℕ) → Type 0
ArePartsBelow parts = (part : ℕ) (bytes : List ℕ) → fin.get parts part ≡ Some bytes → part < most_parts

put_below : (parts : Numbered (List ℕ)) (index byte : ℕ) → index < 1082201088 → ArePartsBelow parts → ArePartsBelow (put_byte parts index byte)
put_below parts index byte h below part bytes has = elim (one_or_not part (index / 512)) [
  | inl is ↦ omega (arith, is)
  | inr apart ↦ below part bytes (sym (get_there parts (index / 512) _ part apart) ∙ has)
]

puts_below : (parts : Numbered (List ℕ)) (index : ℕ) (bytes : List ℕ) → index + length bytes ≤ 1082201088 → ArePartsBelow parts → ArePartsBelow (put_bytes parts index bytes)
puts_below parts index [] h below = below
puts_below parts index (byte ∷ bytes) h below = puts_below (put_byte parts index byte) (index + 1) bytes (omega arith) (put_below parts index byte (omega arith) below)

pub none_below : ArePartsBelow fin.empty
none_below part bytes has = let e : None ≡ Some bytes = sym (get-empty nat_cmp part) ∙ has in cc

kind_cleared : (mode : ℕ) (body : Body) → HasKind mode body → HasKind mode (cleared body)
kind_cleared mode (Regular size parts) h = h
kind_cleared mode (Directory slots) h = h
kind_cleared mode (Special size area) h = h

size_cleared : (body : Body) → HasSize body → HasSize (cleared body)
size_cleared (Regular size parts) h = (omega arith, none_below)
size_cleared (Directory slots) h = h
size_cleared (Special size area) h = h

slots_cleared : (body : Body) → slots_of (cleared body) ≡ slots_of body
slots_cleared (Regular size parts) = refl
slots_cleared (Directory slots) = refl
slots_cleared (Special size area) = refl

kind_written : (mode offset : ℕ) (bytes : List ℕ) (body : Body) → HasKind mode body → HasKind mode (written offset bytes body)
kind_written mode offset bytes (Regular size parts) h = h
kind_written mode offset bytes (Directory slots) h = h
kind_written mode offset bytes (Special size area) h = h

size_written : (offset : ℕ) (bytes : List ℕ) (body : Body) → offset + length bytes ≤ 1082201088 → HasSize body → HasSize (written offset bytes body)
size_written offset bytes (Regular size parts) h k = (let m : max size (offset + length bytes) ≤ 1082201088 = omega (arith, h, k.0) in m, puts_below parts offset bytes h k.1)
size_written offset bytes (Directory slots) h k = k
size_written offset bytes (Special size area) h k = k

slots_written : (offset : ℕ) (bytes : List ℕ) (body : Body) → slots_of (written offset bytes body) ≡ slots_of body
slots_written offset bytes (Regular size parts) = refl
slots_written offset bytes (Directory slots) = refl
slots_written offset bytes (Special size area) = refl

-- ---- modes

pub kind_set : (old mode : ℕ) → mode < 4096 → kind_of (bit_or (kind_of old) mode) ≡ kind_of old
kind_set old mode h =
    let high : bit_and mode 0xF000 ≡ 0 = and_high mode 4 12 ∙ (let z : mode / 4096 % 16 * 4096 ≡ 0 = omega arith in z) in
    and_or_apart 0xF000 (bit_and old 0xF000) mode high ∙ and_high_mask_twice 16 12 (lit≤ tt) old 12 (lit≤ tt)

kind_same : (old new : ℕ) (body : Body) → kind_of new ≡ kind_of old → HasKind old body → HasKind new body
kind_same old new (Regular size parts) e h = ap (λ k. k == 0x8000) e ∙ h
kind_same old new (Directory slots) e h = ap (λ k. k == 0x4000) e ∙ h
kind_same old new (Special size area) e h = ap (λ k. k == 0x2000 || k == 0x6000) e ∙ h

-- ---- trees

module _ (tree : Tree) (sound : IsSound tree) where
  changed : (ino : ℕ) (f : Node → Node) → ((x : Node) → fin.get tree.nodes ino ≡ Some x → KeepsSlotsAndLinks x (f x)) → (q : ℕ) → StaysWithSlotsAndLinks (fin.get tree.nodes q) (fin.get (changed_at tree.nodes ino f) q)
  changed ino f each q =
      elim (fin.get tree.nodes ino) as (λ (o : Option Node). fin.get tree.nodes ino ≡ o → StaysWithSlotsAndLinks (fin.get tree.nodes q) (fin.get (unwrap_or (option_map (λ x. fin.insert tree.nodes ino (f x)) o) tree.nodes) q)) [
        | None ↦ λ e. itself tree sound q (fin.get tree.nodes q) refl
        | Some x ↦ λ e. elim (one_or_not q ino) [
          | inl is ↦ subst (λ (o : Option Node). StaysWithSlotsAndLinks (fin.get tree.nodes q) o) (sym (ap (fin.get (fin.insert tree.nodes ino (f x))) is ∙ get_here tree.nodes ino (f x)))
              (subst (λ (o : Option Node). StaysWithSlotsAndLinks o (Some (f x))) (sym (ap (fin.get tree.nodes) is ∙ e)) (each x e))
          | inr apart ↦ subst (λ (o : Option Node). StaysWithSlotsAndLinks (fin.get tree.nodes q) o) (sym (get_there tree.nodes ino (f x) q apart)) (itself tree sound q (fin.get tree.nodes q) refl)
        ]
      ] refl

  -- the node changed, where the files still fit
  on_one : (ino : ℕ) (f : Node → Node) → ((x : Node) → fin.get tree.nodes ino ≡ Some x → KeepsSlotsAndLinks x (f x))
      → cost (record tree { nodes = changed_at tree.nodes ino f }) ≤ tree.cap → IsSound (record tree { nodes = changed_at tree.nodes ino f })
  on_one ino f each room = slots_and_links_kept tree (changed_at tree.nodes ino f) sound (changed ino f each) room

limit_of : (offset n : ℕ) (u : Unit {0}) → need (nat_le (offset + n) 1082201088) EFBIG ≡ Ok u → offset + n ≤ 1082201088
limit_of offset n u h = elim (nat_le (offset + n) 1082201088) as (λ b. nat_le (offset + n) 1082201088 ≡ b → need b EFBIG ≡ Ok u → offset + n ≤ 1082201088) [
  | true ↦ λ e s. grind (arith, nat_tests)
  | false ↦ λ e s. cc
] refl h

pub bytes_or_attributes_kept : BytesOrAttributesKept
bytes_or_attributes_kept tree opens (Empty ino moment) pick next sound only h =
    let room = (after_op tree sound.room opens (Empty ino moment) pick).holds next h in
    let e = same_ok {A = Tree} (record tree { nodes = changed_at tree.nodes ino (blanked moment) }) next h in
    subst IsSound e (on_one tree sound ino (blanked moment) (λ x has. record { nlink = refl; slots = slots_cleared x.body; kind = kind_cleared x.mode x.body (sound.kinds ino x has); size = size_cleared x.body (sound.sizes ino x has) })
    (subst (λ (t : Tree). cost t ≤ tree.cap) (sym e) room.0))
bytes_or_attributes_kept tree opens (Put ino offset bytes moment) pick next sound only h =
    let room = (after_op tree sound.room opens (Put ino offset bytes moment) pick).holds next h in
    let one = then_ok (need (nat_le (offset + length bytes) 1082201088) EFBIG) (fitting tree (changed_at tree.nodes ino (wrote moment offset bytes))) next h in
    let two = then_ok (need (nat_le (cost (record tree { nodes = changed_at tree.nodes ino (wrote moment offset bytes) })) tree.cap) ENOSPC) (Ok (record tree { nodes = changed_at tree.nodes ino (wrote moment offset bytes) })) next one.2 in
    let e = same_ok {A = Tree} (record tree { nodes = changed_at tree.nodes ino (wrote moment offset bytes) }) next two.2 in
    let limit = limit_of offset (length bytes) one.0 one.1 in
    subst IsSound e (on_one tree sound ino (wrote moment offset bytes) (λ x has. record { nlink = refl; slots = slots_written offset bytes x.body; kind = kind_written x.mode offset bytes x.body (sound.kinds ino x has); size = size_written offset bytes x.body limit (sound.sizes ino x has) })
    (subst (λ (t : Tree). cost t ≤ tree.cap) (sym e) room.0))
bytes_or_attributes_kept tree opens (SetMode ino mode moment) pick next sound only h =
    let room = (after_op tree sound.room opens (SetMode ino mode moment) pick).holds next h in
    let e = same_ok {A = Tree} (record tree { nodes = changed_at tree.nodes ino (with_mode mode moment) }) next h in
    subst IsSound e (on_one tree sound ino (with_mode mode moment) (λ x has. record { nlink = refl; slots = refl; kind = kind_same x.mode (bit_or (kind_of x.mode) mode) x.body (kind_set x.mode mode only) (sound.kinds ino x has); size = sound.sizes ino x has })
    (subst (λ (t : Tree). cost t ≤ tree.cap) (sym e) room.0))
bytes_or_attributes_kept tree opens (SetOwner ino uid gid moment) pick next sound only h =
    let room = (after_op tree sound.room opens (SetOwner ino uid gid moment) pick).holds next h in
    let e = same_ok {A = Tree} (record tree { nodes = changed_at tree.nodes ino (with_owner uid gid moment) }) next h in
    subst IsSound e (on_one tree sound ino (with_owner uid gid moment) (λ x has. record { nlink = refl; slots = refl; kind = sound.kinds ino x has; size = sound.sizes ino x has })
    (subst (λ (t : Tree). cost t ≤ tree.cap) (sym e) room.0))
bytes_or_attributes_kept tree opens (SetTimes ino atime mtime moment) pick next sound only h =
    let room = (after_op tree sound.room opens (SetTimes ino atime mtime moment) pick).holds next h in
    let e = same_ok {A = Tree} (record tree { nodes = changed_at tree.nodes ino (with_times atime mtime moment) }) next h in
    subst IsSound e (on_one tree sound ino (with_times atime mtime moment) (λ x has. record { nlink = refl; slots = refl; kind = sound.kinds ino x has; size = sound.sizes ino x has })
    (subst (λ (t : Tree). cost t ≤ tree.cap) (sym e) room.0))
bytes_or_attributes_kept tree opens (Hold ino) pick next sound only h = subst IsSound (same_ok tree next h) sound
bytes_or_attributes_kept tree opens _ pick next sound only h = absurd only
