-- An inode made under a new name: the number chosen, the name entered, the inode made.
use Rattle.std.proofs.Common.{ℕ, ◌≡◌, ◌≢◌, Bool, true, List, Option, Some, None, Err, IfSome, sym, ap, subst, ◌∙◌, arith}
use Rattle.std.specs.FinMap as fin
use Rattle.mb_kinds.specs.Image.{Image}
use Rattle.mb_kinds.specs.declared.errors.Errno.TheVariants.{ENOSPC}
use Rattle.mb_tree.specs.Effect.{fitting}
use Rattle.mb_tree.specs.Step.{IsFreeNumber}
use Rattle.mb_tree.specs.Views.{IsPart}
use Rattle.mb_tree.specs.declared.nodes.Node.{Node}
use Rattle.mb_tree.specs.declared.nodes.PlainSlot.{PlainSlot}
use Rattle.mb_tree.specs.declared.trees.Tree.{Tree}
use Rattle.mb_tree.proofs.FiniteMaps.{get_there}
use Rattle.mb_iface.specs.Acting.{PicksNumber, with_changes}
use Rattle.mb_kinds.specs.Changed.{ChangeList, IsWithinView}
use Rattle.mb_iface.specs.Needs.{IsNeed}
use Rattle.mb_iface.specs.declared.replies.Need.{Need}
use Rattle.mb_nodes.specs.Stored.{IsStored, with_node}
use Rattle.mb_moves.specs.Advancing.{AdvancesTo}
use Rattle.mb_moves.proofs.InARow.{changed_in_turn, near_before, nothing_changed}
use Rattle.mb_moves.proofs.Trees.{refused_more}
use Rattle.mb_dirs.specs.Choosing.{Chooses, IsChoice}
use Rattle.mb_dirs.specs.Creating.{MakesIn, with_new}
use Rattle.mb_dirs.specs.Entering.{EntersName, IsGap, named_node}
use Rattle.mb_dirs.specs.Steps.{IsLookedThrough, IsNearFirst, IsUnusedIn, OnUnused}
use Rattle.mb_dirs.specs.declared.choices.Chosen.TheVariants as chosen
use Rattle.mb_dirs.specs.declared.enters.Entered.TheVariants as entered
use Rattle.mb_dirs.specs.declared.enters.Gap.{Gap}

-- ---- the number, demanded or not

chosen_within : (shown : ℕ → Option (List ℕ)) (old mid : ChangeList) (demanded : Option ℕ) (ino : ℕ) → Chooses shown old mid demanded (chosen.Number ino) → IsWithinView shown old → IsWithinView shown mid
chosen_within shown old mid None ino chooses inside = chooses.0 inside
chosen_within shown old mid (Some number) ino chooses inside = subst (IsWithinView shown) (sym chooses.0) inside

chosen_is : (shown : ℕ → Option (List ℕ)) (old mid : ChangeList) (demanded : Option ℕ) (ino : ℕ) → Chooses shown old mid demanded (chosen.Number ino) → IsChoice shown old demanded ino
chosen_is shown old mid None ino chooses = λ image tree chain part stored. (chooses.1 image tree chain part stored (λ k. true)).1
chosen_is shown old mid (Some number) ino chooses = chooses.1

pub record HasChosen (image : Image) (tree : Tree) (looks : ℕ → Bool) (old mid : ChangeList) (demanded : Option ℕ) (ino : ℕ) : Type 0 where
  pub picks : PicksNumber tree demanded (Some ino)
  pub free : IsFreeNumber tree ino
  pub step : AdvancesTo image tree looks old mid tree

chosen_step : (shown : ℕ → Option (List ℕ)) (old mid : ChangeList) (demanded : Option ℕ) (ino : ℕ) → Chooses shown old mid demanded (chosen.Number ino)
    → (image : Image) (tree : Tree) (chain : List ℕ) → IsPart shown image.at → IsStored (with_changes image old) tree chain → (looks : ℕ → Bool) → IfSome demanded (IsFreeNumber tree)
    → HasChosen image tree looks old mid demanded ino
chosen_step shown old mid None ino chooses image tree chain part stored looks free =
    let got = chooses.1 image tree chain part stored looks in
    record { picks = got.0; free = got.0; step = got.2 }
chosen_step shown old mid (Some number) ino chooses image tree chain part stored looks free = record {
  picks = ap (λ n. Some n) chooses.1;
  free = subst (IsFreeNumber tree) (sym chooses.1) free;
  step = subst (λ now. AdvancesTo image tree looks old now tree) (sym chooses.0) (nothing_changed image tree chain looks old stored);
}

module _ (shown : ℕ → Option (List ℕ)) (old mid : ChangeList) (dir links moment : ℕ) (gap : Gap) (name : List ℕ) (made : ℕ → Node) (demanded : Option ℕ) where
  number_asked_by : (asked : Option ℕ) (need : Need) (now : ChangeList) → Chooses shown old mid asked (chosen.Need need) → MakesIn shown old now dir links moment gap name made asked (chosen.Need need)
  number_asked_by None need now chooses = (chooses.0, λ image tree chain part stored looks node slots look stands free. chooses.1 image tree chain part stored looks)
  number_asked_by (Some number) need now chooses = (chooses.1.0, λ image tree chain part stored looks node slots look stands free. chooses.1.1 image tree chain part stored looks)

  pub number_asked : (need : Need) (now : ChangeList) → Chooses shown old mid demanded (chosen.Need need) → MakesIn shown old now dir links moment gap name made demanded (chosen.Need need)
  number_asked need now chooses = number_asked_by demanded need now chooses

  module _ (ino : ℕ) (chooses : Chooses shown old mid demanded (chosen.Number ino)) where
    has_chosen : (image : Image) (tree : Tree) (chain : List ℕ) → IsPart shown image.at → IsStored (with_changes image old) tree chain → (looks : ℕ → Bool) → IfSome demanded (IsFreeNumber tree)
        → HasChosen image tree looks old mid demanded ino
    has_chosen image tree chain part stored looks free = chosen_step shown old mid demanded ino chooses image tree chain part stored looks free

    abbrev named : Node → Node
    named node = named_node links moment name ino node

    apart : (tree : Tree) (looks : ℕ → Bool) (node : Node) (slots : List PlainSlot) → IsLookedThrough tree looks dir node slots → IsFreeNumber tree ino → ino ≢ dir
    apart tree looks node slots look free e = (let there = look.has in let none = subst (λ k. fin.get tree.nodes k ≡ None) e free.unused in cc)

    still_free : (tree : Tree) (looks : ℕ → Bool) (node : Node) (slots : List PlainSlot) → IsLookedThrough tree looks dir node slots → IsFreeNumber tree ino → fin.get (fin.insert tree.nodes dir (named node)) ino ≡ None
    still_free tree looks node slots look free = get_there tree.nodes dir (named node) ino (apart tree looks node slots look free) ∙ free.unused

    pub no_room : (then now : ChangeList) → EntersName shown mid then dir links moment gap name ino entered.NoneLeft → MakesIn shown old now dir links moment gap name made demanded chosen.NoneLeft
    no_room then now enters = λ image tree chain part stored looks node slots look stands free.
        (let got = has_chosen image tree chain part stored looks free in
        let short = enters image tree got.step.0 part got.step.1.follows.stored looks node slots look stands in
        record {
          picked = Some ino;
          picks = got.picks;
          full = refused_more tree (fin.insert tree.nodes dir (named node)) ino (made ino) (still_free tree looks node slots look got.free) short;
        })

    pub name_asked : (then now : ChangeList) (need : Need) → EntersName shown mid then dir links moment gap name ino (entered.Need need) → MakesIn shown old now dir links moment gap name made demanded (chosen.Need need)
    name_asked then now need enters = (
      enters.0,
      λ image tree chain part stored looks node slots look stands free.
          (let got = has_chosen image tree chain part stored looks free in
          near_before image tree tree looks old mid need.first got.step (let some = enters.0.above in omega (arith, some))
          (enters.1 image tree got.step.0 part got.step.1.follows.stored looks node slots look stands)),
    )

    module _ (then : ChangeList) (enters : EntersName shown mid then dir links moment gap name ino entered.Done) where
      both : (image : Image) (tree : Tree) (chain : List ℕ) → IsPart shown image.at → IsStored (with_changes image old) tree chain → (looks : ℕ → Bool) (node : Node) (slots : List PlainSlot)
          → IsLookedThrough tree looks dir node slots → IsGap slots gap → IfSome demanded (IsFreeNumber tree) → AdvancesTo image tree looks old then (with_node tree dir (named node))
      both image tree chain part stored looks node slots look stands free =
          let got = has_chosen image tree chain part stored looks free in
          changed_in_turn image tree tree (with_node tree dir (named node)) looks old mid then got.step (enters.1 image tree got.step.0 part got.step.1.follows.stored looks node slots look stands)

      unused : (tree : Tree) (looks : ℕ → Bool) (node : Node) (slots : List PlainSlot) → IsLookedThrough tree looks dir node slots → IsFreeNumber tree ino → IsUnusedIn (with_node tree dir (named node)) ino
      unused tree looks node slots look free = record { some = (let low = free.above in omega (arith, low)); within = free.within; unused = still_free tree looks node slots look free }

      pub inode_asked : (now : ChangeList) (need : Need) → IsNeed shown need × OnUnused shown then ino (IsNearFirst then need.first) → MakesIn shown old now dir links moment gap name made demanded (chosen.Need need)
      inode_asked now need makes = (
        makes.0,
        λ image tree chain part stored looks node slots look stands free.
            (let got = has_chosen image tree chain part stored looks free in
            let step = both image tree chain part stored looks node slots look stands free in
            near_before image tree (with_node tree dir (named node)) looks old then need.first step (let some = makes.0.above in omega (arith, some))
            (makes.1 image (with_node tree dir (named node)) step.0 part step.1.follows.stored looks (unused tree looks node slots look got.free))),
      )

      pub inode_refused : (now : ChangeList) → OnUnused shown then ino (λ image tree looks. fitting tree (fin.insert tree.nodes ino (made ino)) ≡ Err ENOSPC) → MakesIn shown old now dir links moment gap name made demanded chosen.NoneLeft
      inode_refused now short = λ image tree chain part stored looks node slots look stands free.
          (let got = has_chosen image tree chain part stored looks free in
          let step = both image tree chain part stored looks node slots look stands free in
          record {
            picked = Some ino;
            picks = got.picks;
            full = short image (with_node tree dir (named node)) step.0 part step.1.follows.stored looks (unused tree looks node slots look got.free);
          })

      pub all_done : (now : ChangeList) → (IsWithinView shown then → IsWithinView shown now) × OnUnused shown then ino (λ image tree looks. AdvancesTo image tree looks then now (with_node tree ino (made ino))) → MakesIn shown old now dir links moment gap name made demanded (chosen.Number ino)
      all_done now makes = (
        λ inside. makes.0 (enters.0 (chosen_within shown old mid demanded ino chooses inside)),
        λ image tree chain part stored looks node slots look stands free.
            (let got = has_chosen image tree chain part stored looks free in
            let step = both image tree chain part stored looks node slots look stands free in
            let last = makes.1 image (with_node tree dir (named node)) step.0 part step.1.follows.stored looks (unused tree looks node slots look got.free) in (
              got.picks,
              got.free,
              changed_in_turn image tree (with_node tree dir (named node)) (with_new tree dir links moment name made node ino) looks old then now step last,
            )),
        chosen_is shown old mid demanded ino chooses,
      )
