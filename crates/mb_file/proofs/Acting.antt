-- An operation on a volume that begins with no changes, from its steps.
use Rattle.std.proofs.Common.{ℕ, ◌≡◌, inl, true, Option, Some, None, Ok, List, [], ◌∷◌, refl, sym, ap, subst, arith}
use Rattle.std.specs.FinMap as fin
use Rattle.std.specs.Ordering.{nat_cmp}
use Rattle.std.specs.List.{Contains}
use Rattle.std.specs.Prelude.{option_map, unwrap_or}
use Rattle.mb_kinds.specs.Image.{Image}
use Rattle.mb_tree.specs.Effect.{blanked}
use Rattle.mb_tree.specs.Maps.{Numbered, changed_at}
use Rattle.mb_tree.specs.Views.{IsPart}
use Rattle.mb_tree.specs.Volume.{IsVolume}
use Rattle.mb_tree.specs.declared.nodes.Node.{Node}
use Rattle.mb_tree.specs.declared.operations.FsOp.{FsOp}
use Rattle.mb_tree.specs.declared.operations.FsOp.TheVariants.{Empty}
use Rattle.mb_tree.specs.declared.trees.Tree.{Tree}
use Rattle.mb_iface.specs.Acting.{Acts}
use Rattle.mb_kinds.specs.Changed.{ChangeList}
use Rattle.mb_iface.specs.Near.{named_by}
use Rattle.mb_iface.specs.OpenCounts.{count_of}
use Rattle.mb_iface.specs.declared.replies.Acted.TheVariants as acted
use Rattle.mb_iface.specs.declared.replies.Need.{Need}
use Rattle.mb_alloc.specs.declared.frees.Hung.TheVariants as hung
use Rattle.mb_moves.specs.Looking.{touches}
use Rattle.mb_moves.proofs.Done.{operation_done}
use Rattle.mb_moves.proofs.InARow.{stored_at_first}
use Rattle.mb_moves.proofs.Touching.{near_touched, touched_is}
use Rattle.mb_file.specs.Clearing.{Clears, IsFileAt}
use Rattle.mb_file.proofs.ErasingSteps.{within_none}

-- a node that is there, changed
pub changed_here : (nodes : Numbered Node) (ino : ℕ) (node : Node) (f : Node → Node) → fin.get nodes ino ≡ Some node → changed_at nodes ino f ≡ fin.insert nodes ino (f node)
changed_here nodes ino node f has = ap (λ o. unwrap_or (option_map (λ (x : Node). fin.insert nodes ino (f x)) o) nodes) has

-- the one inode that an operation names
pub named_looked : (tree : Tree) (op : FsOp) (ino : ℕ) → named_by op ≡ ino ∷ [] → touches tree op ino ≡ true
named_looked tree op ino names = (touched_is tree op ino).0 (inl (subst (λ (xs : List ℕ). Contains xs ino) (sym names) (0, omega arith, refl)))

module _ (shown : ℕ → Option (List ℕ)) (image : Image) (tree : Tree) (part : IsPart shown image.at) (volume : IsVolume image tree) (opens : fin.FinMap nat_cmp ℕ) (demanded : Option ℕ) (ino moment : ℕ) where
  abbrev op : FsOp
  op = Empty ino moment

  pub emptied : (changes : ChangeList) → Clears shown [] changes ino moment hung.Done → Acts shown image tree opens op demanded (acted.Done changes None)
  emptied changes clears fits =
      let first = stored_at_first image tree volume in
      let file : IsFileAt tree (touches tree op) ino fits.node = record { looked = named_looked tree op ino refl; has = fits.has; size = fits.size; parts = fits.parts; body = fits.body } in
      operation_done shown image tree _ (touches tree op) (count_of opens) op demanded None changes volume fits refl
      (ap (λ nodes. Ok (record tree { nodes = nodes })) (changed_here tree.nodes ino fits.node (blanked moment) fits.has))
      (clears.1 image tree first.1 part first.2 (touches tree op) fits.node file) (clears.0 (within_none shown))

  pub asked_emptying : (changes : ChangeList) (need : Need) → Clears shown [] changes ino moment (hung.Need need) → Acts shown image tree opens op demanded (acted.Need need)
  asked_emptying changes need clears fits =
      let first = stored_at_first image tree volume in
      let file : IsFileAt tree (touches tree op) ino fits.node = record { looked = named_looked tree op ino refl; has = fits.has; size = fits.size; parts = fits.parts; body = fits.body } in
      (near_touched image tree op need.first).1 (clears.1 image tree first.1 part first.2 (touches tree op) fits.node file)
