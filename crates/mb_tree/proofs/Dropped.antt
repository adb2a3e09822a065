-- Inodes to which no used slot leads can be dropped.
use Rattle.std.proofs.Common.{◌≡◌, ◌≢◌, ◌⊎◌, inl, inr, ℕ, ◌+◌, ◌<◌, Bool, true, false, cond, not, ◌&&◌, List, Option, Some, None, refl, sym, ap, subst, ◌∙◌, arith, nat_eq}
use Rattle.std.specs.Prelude.{count_by, slice_get}
use Rattle.std.proofs.lemmas.Bool.Decides.{nat_tests}
use Rattle.std.specs.FinMap as fin
use Rattle.std.specs.FinMap.{get-retain_keys, nat_cmp-IsAntisymmetric}
use Rattle.std.specs.List.{list_any}
use Rattle.mb_tree.specs.Sessions.{Counts}
use Rattle.mb_tree.specs.Effect.{is_lost, release, less_open}
use Rattle.mb_tree.specs.Trees.{links_from, links_at, links, leads_to, IsSound}
use Rattle.mb_tree.specs.Laws.{StaysWithSlotsAndLinks, IsUnled, DropKept, ReleaseKept}
use Rattle.mb_tree.specs.declared.nodes.Node.{Node}
use Rattle.mb_tree.specs.declared.trees.Tree.{Tree}
use Rattle.mb_tree.specs.declared.operations.FsOp.TheVariants as op
use Rattle.mb_tree.proofs.Cheaper.{after_op}
use Rattle.mb_tree.proofs.SlotLists.{weight_one, count_some}
use Rattle.mb_tree.proofs.Sums.{sum_term}
use Rattle.mb_tree.proofs.SlotsAndLinks.{itself, stays_sound}

module _ (tree : Tree) (sound : IsSound tree) where
  -- an inode of link count 0 has no used slot that leads to it; to inode 1 none ever leads
  pub nameless : (ino : ℕ) (node : Node) → fin.get tree.nodes ino ≡ Some node → node.nlink ≡ 0 → IsUnled tree ino
  nameless ino node has none dir at other slots slot in_tree body used is =
      elim (nat_eq ino 1) as (λ t. nat_eq ino 1 ≡ t → ⊥) [
        | true ↦ λ e. let one : ino ≡ 1 = grind (arith, nat_tests) in ((sound.slots dir other slots in_tree body).leads at slot used).0 (is ∙ one)
        | false ↦ λ e.
            let apart : ino ≢ 1 = grind (arith, nat_tests) in
            let total : links tree ino ≡ 0 = sym (sound.counted ino node has apart) ∙ none in
            let low : dir < tree.last + 1 = omega (arith, (sound.numbers dir other in_tree).1) in
            let here : links_at 0 ino (fin.get tree.nodes dir) ≡ 0 = omega (arith, total, sum_term (λ d. links_at 0 ino (fin.get tree.nodes d)) dir (tree.last + 1) low) in
            let few : count_by (leads_to ino) slots ≡ 0 = sym (ap (links_at 0 ino) in_tree ∙ ap (links_from 0 ino) body) ∙ here in
            let leads : leads_to ino slot ≡ true = grind (arith, nat_tests) in
            absurd (omega (arith, few, count_some (leads_to ino) 0 slots at (omega arith), weight_one (leads_to ino) (slice_get slots at) slot used.has leads))
      ] refl

  pub lost_nlink : (opens : Counts) (ino : ℕ) (node : Node) → is_lost opens ino (Some node) ≡ true → node.nlink ≡ 0
  lost_nlink opens ino node h = elim (nat_eq node.nlink 0) as (λ b. nat_eq node.nlink 0 ≡ b → (b && nat_eq (opens ino) 0) ≡ true → node.nlink ≡ 0) [
    | true ↦ λ e s. grind (arith, nat_tests)
    | false ↦ λ e s. cc
  ] refl h

  lost_drop : (opens : Counts) (ino : ℕ) (o : Option Node) (kept : Option Node) → fin.get tree.nodes ino ≡ o → kept ≡ None → is_lost opens ino o ≡ true → (kept ≡ o) ⊎ ((kept ≡ None) × IsUnled tree ino)
  lost_drop opens ino None kept e k h = inl k
  lost_drop opens ino (Some node) kept e k h = inr (k, nameless ino node e (lost_nlink opens ino node h))

  pub released : (opens : Counts) (inos : List ℕ) (ino : ℕ) → (fin.get (less_open tree.nodes opens inos) ino ≡ fin.get tree.nodes ino) ⊎ ((fin.get (less_open tree.nodes opens inos) ino ≡ None) × IsUnled tree ino)
  released opens inos ino =
      let p : ℕ → Bool = λ q. not (list_any (nat_eq q) inos && is_lost opens q (fin.get tree.nodes q)) in
      let got : fin.get (less_open tree.nodes opens inos) ino ≡ cond (p ino) (fin.get tree.nodes ino) None = get-retain_keys tree.nodes p ino (λ x t. ap p (sym (nat_cmp-IsAntisymmetric ino x t))) in
      elim (list_any (nat_eq ino) inos) as (λ a. list_any (nat_eq ino) inos ≡ a → (fin.get (less_open tree.nodes opens inos) ino ≡ fin.get tree.nodes ino) ⊎ ((fin.get (less_open tree.nodes opens inos) ino ≡ None) × IsUnled tree ino)) [
        | false ↦ λ e. inl (got ∙ ap (λ a. cond (not (a && is_lost opens ino (fin.get tree.nodes ino))) (fin.get tree.nodes ino) None) e)
        | true ↦ λ e. elim (is_lost opens ino (fin.get tree.nodes ino)) as (λ l. is_lost opens ino (fin.get tree.nodes ino) ≡ l → (fin.get (less_open tree.nodes opens inos) ino ≡ fin.get tree.nodes ino) ⊎ ((fin.get (less_open tree.nodes opens inos) ino ≡ None) × IsUnled tree ino)) [
          | false ↦ λ l. inl (got ∙ (λ i. cond (not (e i && l i)) (fin.get tree.nodes ino) None))
          | true ↦ λ l. lost_drop opens ino (fin.get tree.nodes ino) (fin.get (less_open tree.nodes opens inos) ino) refl (got ∙ (λ i. cond (not (e i && l i)) (fin.get tree.nodes ino) None)) l
        ] refl
      ] refl

pub drop_kept : DropKept
drop_kept tree nodes sound drops room = stays_sound tree sound nodes (λ ino. elim (drops ino) [
  | inl is ↦ inl (subst (StaysWithSlotsAndLinks (fin.get tree.nodes ino)) (sym is) (itself tree sound ino (fin.get tree.nodes ino) refl))
  | inr gone ↦ inr gone
]) room

pub release_kept : ReleaseKept
release_kept tree opens inos sound =
    let room = (after_op tree sound.room opens (op.Release inos) None).holds (record tree { nodes = less_open tree.nodes (release opens inos) inos }) refl in
    drop_kept tree (less_open tree.nodes (release opens inos) inos) sound (released tree sound (release opens inos) inos) room.0
