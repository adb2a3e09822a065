-- The machine as it begins on a volume of a sound tree is valid.
use Rattle.std.proofs.Common.{◌≡◌, ◌⊎◌, inl, inr, ℕ, ◌≤◌, Bool, true, false, cond, not, ◌&&◌, Option, Some, None, option_map, refl, sym, ap, subst, ◌∙◌, arith, nat_eq}
use Rattle.std.specs.Prelude.{slice_get}
use Rattle.std.proofs.lemmas.Bool.Decides.{nat_tests}
use Rattle.std.proofs.lemmas.Option.{slice_get-map}
use Rattle.std.specs.FinMap as fin
use Rattle.std.specs.FinMap.{get-retain_keys, get-empty, nat_cmp-IsAntisymmetric}
use Rattle.std.specs.Ordering.{nat_cmp}
use Rattle.mb_kinds.specs.declared.credentials.Cred.{Cred}
use Rattle.mb_tree.specs.Maps.{Numbered}
use Rattle.mb_tree.specs.Inodes.{is_directory}
use Rattle.mb_tree.specs.Cost.{cost}
use Rattle.mb_tree.specs.Trees.{IsSound}
use Rattle.mb_tree.specs.Laws.{IsUnled}
use Rattle.mb_tree.specs.Machines.{IsSeated}
use Rattle.mb_tree.specs.Opening.{is_nameless, swept, first_seat, opening}
use Rattle.mb_tree.specs.ValidLaws.{OpeningValid}
use Rattle.mb_tree.specs.declared.nodes.Node.{Node}
use Rattle.mb_tree.specs.declared.seats.Seat.{Seat}
use Rattle.mb_tree.specs.declared.trees.Tree.{Tree}
use Rattle.mb_tree.proofs.Cheaper.{cheaper_cost, cheaper_retained}
use Rattle.mb_tree.proofs.Dropped.{nameless, drop_kept}

first_and : (a b c : Bool) → (a && b && c) ≡ true → a ≡ true
first_and true b c h = refl
first_and false b c h = cc

-- an inode is swept only where no used slot leads to it
sweeps : (tree : Tree) → IsSound tree → (ino : ℕ) (o kept : Option Node) → fin.get tree.nodes ino ≡ o → kept ≡ cond (not (is_nameless ino o)) o None → (kept ≡ o) ⊎ ((kept ≡ None) × IsUnled tree ino)
sweeps tree sound ino None kept has e = inl e
sweeps tree sound ino (Some node) kept has e =
    elim (is_nameless ino (Some node)) as (λ b. is_nameless ino (Some node) ≡ b → (kept ≡ Some node) ⊎ ((kept ≡ None) × IsUnled tree ino)) [
      | false ↦ λ is. inl (e ∙ ap (λ b. cond (not b) (Some node) None) is)
      | true ↦ λ is.
          let test : nat_eq node.nlink 0 ≡ true = first_and (nat_eq node.nlink 0) (not (is_directory node.mode)) (not (nat_eq ino 1)) is in
          let none : node.nlink ≡ 0 = grind (arith, nat_tests) in
          inr (e ∙ ap (λ b. cond (not b) (Some node) None) is, nameless tree sound ino node has none)
    ] refl

get_swept : (nodes : Numbered Node) (ino : ℕ) → fin.get (swept nodes) ino ≡ cond (not (is_nameless ino (fin.get nodes ino))) (fin.get nodes ino) None
unfolding swept
get_swept nodes ino = get-retain_keys nodes (λ q. not (is_nameless q (fin.get nodes q))) ino (λ x t. ap (λ q. not (is_nameless q (fin.get nodes q))) (sym (nat_cmp-IsAntisymmetric ino x t)))

swept_room : (tree : Tree) → IsSound tree → cost (record tree { nodes = swept tree.nodes }) ≤ tree.cap
unfolding swept
swept_room tree sound =
    let le = cheaper_cost tree (swept tree.nodes) (cheaper_retained tree.nodes (λ q. not (is_nameless q (fin.get tree.nodes q)))) in
    let room = sound.room in
    omega (arith, le, room)

pub swept_sound : (tree : Tree) → IsSound tree → IsSound (record tree { nodes = swept tree.nodes })
swept_sound tree sound = drop_kept tree (swept tree.nodes) sound (λ ino. sweeps tree sound ino (fin.get tree.nodes ino) (fin.get (swept tree.nodes) ino) refl (get_swept tree.nodes ino)) (swept_room tree sound)

nothing_there : {X A : Type 0} (key : ℕ) (x : X) → fin.get (fin.empty {X = X} {R = nat_cmp}) key ≡ Some x → A
nothing_there {X} key x has = absurd (let e : None ≡ Some x = sym (get-empty {X = X} nat_cmp key) ∙ has in cc)

seated : (tree : Tree) (cred : Cred) → IsSound tree → IsSeated tree.nodes (first_seat cred)
seated tree cred sound = record {
  cwd = record { node = sound.root.node; slots = sound.root.slots; has = sound.root.has; body = sound.root.body };
  descriptors = λ fd place has. nothing_there fd place has;
  files = λ place file has. nothing_there place file has;
}

begun : (tree : Tree) (seat : Seat) (o : Option Cred) → IsSound tree → option_map first_seat o ≡ Some seat → IsSeated tree.nodes seat
begun tree seat None sound e = absurd (let h : None ≡ Some seat = e in cc)
begun tree seat (Some cred) sound e = let is : first_seat cred ≡ seat = cc in subst (IsSeated tree.nodes) is (seated tree cred sound)

pub opening_valid : OpeningValid
opening_valid tree callers sound caller =
    let next = swept_sound tree sound in
    record { tree = next; seat = λ seat has. begun (opening tree callers).tree seat (slice_get callers caller) next (sym (slice_get-map first_seat callers caller) ∙ has) }
