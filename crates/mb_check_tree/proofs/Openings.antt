-- What opening a volume answers, from what the scan found and what was read after it.
use Rattle.std.proofs.Common.{◌≡◌, ℕ, ◌+◌, List, [], length, map, Some, None, Result, Ok, Err, refl, sym, ap, subst, ◌∙◌, arith}
use Rattle.mb_kinds.specs.Image.{Image}
use Rattle.mb_kinds.specs.declared.credentials.Cred.{Cred}
use Rattle.mb_tree.specs.Maps.{Numbered}
use Rattle.mb_tree.specs.Opening.{first_seat, swept}
use Rattle.mb_tree.specs.declared.nodes.Node.{Node}
use Rattle.mb_tree.specs.declared.seats.Seat.{Seat}
use Rattle.mb_tree.specs.declared.trees.Tree.{Tree}
use Rattle.mb_rules.specs.declared.findings.Finding.{Finding}
use Rattle.mb_rules.specs.Items.{finding, walked}
use Rattle.mb_rules.specs.Scan.{scan}
use Rattle.mb_rules.specs.TreeOf.{tree_of}
use Rattle.mb_scan_laws.specs.Laws.{first_items}
use Rattle.mb_scan_laws.proofs.Storing.{stores}
use Rattle.mb_scan_laws.proofs.TreeNodes.{tree_last}
use Rattle.mb_check_files.specs.Findings.{Finds}
use Rattle.mb_check_files.specs.Surveyed.{TellsFiles}
use Rattle.mb_check_files.specs.declared.stops.Stop.{Stop}
use Rattle.mb_check_files.specs.declared.stops.Stop.TheVariants.{Broken, Device, NoMemory}
use Rattle.mb_check_files.specs.declared.surveys.VolumeFiles.{VolumeFiles}
use Rattle.mb_check.proofs.LateParts.{first_ends}
use Rattle.mb_check.specs.Whole.{IsSoundAs, fault_of}
use Rattle.mb_check.specs.declared.scans.OpenFault.{OpenFault}
use Rattle.mb_check.specs.declared.scans.Scan.{Scan}
use Rattle.mb_check_tree.specs.Opened.{AreFilesOf, AreOpened, IsOpening}
use Rattle.mb_check_tree.proofs.Bounded.{few_blocks}

module _ (image : Image) where
  found_first : (broken : Finding) → walked [] (first_items image) ≡ Err broken → scan image ≡ Some broken
  unfolding scan
  found_first broken h = ap finding (first_ends image broken h)

  none_first : (broken : Finding) → scan image ≡ None → walked [] (first_items image) ≡ Err broken → ⊥
  none_first broken none h = (let found = found_first broken h in absurd (cc))

  -- a scan that found nothing goes through its first parts
  pub first_walk : (answer : Result (List ℕ) Finding) → walked [] (first_items image) ≡ answer → scan image ≡ None → (met : List ℕ) × (walked [] (first_items image) ≡ Ok met)
  first_walk (Ok met) h none = (met, h)
  first_walk (Err broken) h none = absurd (none_first broken none h)

  pub files_opened : ((block : ℕ) → length (image.at block) ≡ 512) → (told : Scan) → IsSoundAs image told → (files : VolumeFiles) → TellsFiles image files → AreFilesOf image files
  files_opened bytes told is files tells =
      let walk = first_walk (walked [] (first_items image)) refl is.none in
      let whole = (stores image walk.0 bytes walk.1).stored.capacity in
      let few = few_blocks image walk.0 bytes walk.1 in
      let paid = tells.space.paid in
      let chain = tells.space.chain in
      record { volume = is.volume; tells = tells; whole = omega (arith, whole, paid, chain); few = omega (arith, whole, few, paid, chain) }

  -- a second look finds no broken rule
  pub stop_opened : (told : Scan) → IsSoundAs image told → (stop : Stop) (r : Result VolumeFiles OpenFault) → r ≡ Err (fault_of stop) → Finds {T = VolumeFiles} (Err stop) [] (first_items image) → AreOpened image r
  stop_opened told is (Broken broken) r same h = absurd (none_first broken is.none h)
  stop_opened told is Device r same h = subst (AreOpened image) (sym same) tt
  stop_opened told is NoMemory r same h = subst (AreOpened image) (sym same) tt

  -- the tree that was read
  pub tree_is : (files : VolumeFiles) → AreFilesOf image files → (nodes : Numbered Node) (last cap : ℕ) → nodes ≡ swept (tree_of image).nodes → last ≡ files.last → cap ≡ files.held + files.free
      → record { nodes = nodes; last = last; cap = cap } ≡ record (tree_of image) { nodes = swept (tree_of image).nodes }
  tree_is files are nodes last cap same end room =
      let whole = are.whole in
      ap (λ (n : Numbered Node). record { nodes = n; last = last; cap = cap }) same
      ∙ ap (λ n. record { nodes = swept (tree_of image).nodes; last = n; cap = cap }) (end ∙ are.tells.last ∙ sym (tree_last image))
      ∙ ap (λ n. record { nodes = swept (tree_of image).nodes; last = (tree_of image).last; cap = n }) (room ∙ whole)

  pub opened_as : (callers : List Cred) (files : VolumeFiles) → AreFilesOf image files → (tree : Tree) (seats : List Seat) → tree ≡ record (tree_of image) { nodes = swept (tree_of image).nodes } → seats ≡ map first_seat callers
      → IsOpening image callers (record { tree = tree; seats = seats })
  opened_as callers files are tree seats same begin = record {
    tree = tree_of image;
    volume = are.volume;
    opens = ap (λ (t : Tree). record { tree = t; seats = seats }) same
        ∙ ap (λ (s : List Seat). record { tree = record (tree_of image) { nodes = swept (tree_of image).nodes }; seats = s }) begin;
  }
