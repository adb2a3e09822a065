-- Releasing the nameless files once makes the tree that opening finds.
use Rattle.std.proofs.Common.{List, [], ◌∷◌, ℕ, ◌≡◌, Bool, true, false, not, cond, ◌&&◌, ◌||◌, ◌==◌, Option, None, Some, Ok, nat_eq, refl, ap, sym, ◌∙◌, arith}
use Rattle.std.proofs.lemmas.Bool.Decides.{nat_tests}
use Rattle.std.proofs.Math.Path.{fun_ext}
use Rattle.std.specs.FinMap as fin
use Rattle.std.specs.FinMap.{get-retain_keys, nat_cmp-IsAntisymmetric}
use Rattle.std.specs.List.{AllByRecursion, list_any}
use Rattle.std.proofs.lemmas.List.Elements.{All-from_recursion}
use Rattle.mb_tree.specs.Maps.{Numbered}
use Rattle.mb_tree.specs.Effect.{is_lost, less_open, release}
use Rattle.mb_tree.specs.Inodes.{is_directory}
use Rattle.mb_tree.specs.Opening.{is_nameless, swept}
use Rattle.mb_tree.specs.Sweep.{AreNameless, opens_of_list, SweepIsRelease, NothingToSweep}
use Rattle.mb_tree.specs.Trees.{IsThere}
use Rattle.mb_tree.specs.declared.nodes.Node.{Node}
use Rattle.mb_tree.proofs.FiniteMaps.{same}

none_left : (inos : List ℕ) → release (opens_of_list inos) inos ≡ (λ ino. 0)
none_left inos = fun_ext (λ ino. omega arith)

-- a nameless file that is not open any longer is lost
lost_of : (a : Bool) (o : Option Node) (ino : ℕ) → is_nameless ino o ≡ a → (a && is_lost (λ other. 0) ino o) ≡ is_nameless ino o
lost_of a None ino is = elim a as (λ x. (x && false) ≡ false) [ true ↦ refl | false ↦ refl ]
lost_of true (Some node) ino is = first_of (nat_eq node.nlink 0) (not (is_directory node.mode)) (not (nat_eq ino 1)) is
  where
    first_of : (x y z : Bool) → (x && y && z) ≡ true → (x && (0 == 0)) ≡ (x && y && z)
    first_of true true true h = refl
    first_of true true false h = cc
    first_of true false z h = cc
    first_of false y z h = cc
lost_of false (Some node) ino is = sym is

sweeps : (nodes : Numbered Node) (inos : List ℕ) → AreNameless nodes inos → less_open nodes (release (opens_of_list inos) inos) inos ≡ swept nodes
unfolding swept
sweeps nodes inos are = ap (λ counts. less_open nodes counts inos) (none_left inos)
    ∙ ap (fin.retain_keys nodes) (fun_ext (λ ino. ap not (ap (λ b. b && is_lost (λ other. 0) ino (fin.get nodes ino)) (are ino) ∙ lost_of (is_nameless ino (fin.get nodes ino)) (fin.get nodes ino) ino refl)))

-- a nameless file is there
there_of : (nodes : Numbered Node) (ino : ℕ) (o : Option Node) → fin.get nodes ino ≡ o → is_nameless ino o ≡ true → IsThere nodes ino
there_of nodes ino None has is = cc
there_of nodes ino (Some node) has is = record { node = node; has = has }

all_there : (nodes : Numbered Node) (inos : List ℕ) → ((ino : ℕ) → list_any (nat_eq ino) inos ≡ true → IsThere nodes ino) → AllByRecursion (IsThere nodes) inos
all_there nodes [] each = tt
all_there nodes (first ∷ inos) each =
    let here : nat_eq first first ≡ true = grind (arith, nat_tests) in (
      each first (ap (λ b. b || list_any (nat_eq first) inos) here),
      all_there nodes inos (λ ino h. each ino (ap (λ b. nat_eq ino first || b) h ∙ or_true (nat_eq ino first))),
    )
  where
    or_true : (b : Bool) → (b || true) ≡ true
    or_true true = refl
    or_true false = refl

pub sweep_is_release : SweepIsRelease
sweep_is_release tree inos are some = record {
  fits = record {
    some = some;
    there = All-from_recursion (IsThere tree.nodes) inos (all_there tree.nodes inos (λ ino h. there_of tree.nodes ino (fin.get tree.nodes ino) refl (sym (are ino) ∙ h)));
    covered = λ ino. omega arith;
  };
  leads = λ i. Ok (record { tree = record tree { nodes = sweeps tree.nodes inos are i }; opens = none_left inos i });
}

pub nothing_to_sweep : NothingToSweep
unfolding swept
nothing_to_sweep nodes are = same _ nodes (λ ino.
    let stays = λ (other : ℕ). not (is_nameless other (fin.get nodes other)) in
    let got : fin.get (fin.retain_keys nodes stays) ino ≡ cond (stays ino) (fin.get nodes ino) None = get-retain_keys nodes stays ino (λ x t. ap stays (sym (nat_cmp-IsAntisymmetric ino x t))) in
    got ∙ ap (λ b. cond (not b) (fin.get nodes ino) None) (sym (are ino)))
