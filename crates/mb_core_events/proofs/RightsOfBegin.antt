-- A core that begins over a scanned disk, and what sweeping leaves under its pages.
use Rattle.std.proofs.Common.{List, [], ◌∷◌, ℕ, zero, suc, ◌+◌, ◌<◌, ◌≤◌, ◌≡◌, inl, inr, Bool, true, false, ◌&&◌, ◌||◌, nat_eq, Option, Some, None, IfSome, IsSome, length, map, refl, ap, sym, ◌∙◌, subst, arith}
use Rattle.std.proofs.lemmas.Bool.Decides.{nat_tests}
use Rattle.std.proofs.lemmas.List.Sums.{sum_by-cons}
use Rattle.std.proofs.lemmas.Map.Views.{any-filter_same}
use Rattle.std.specs.FinMap as fin
use Rattle.std.specs.FinMap.{get-empty}
use Rattle.std.specs.Ordering.{nat_cmp}
use Rattle.mb_iface.specs.OpenCounts.{count_of}
use Rattle.std.specs.Prelude.{unwrap_or}
use Rattle.mb_tree.proofs.Sums.{sum_nothing}
use Rattle.mb_tree.specs.declared.seats.PlainFile.{PlainFile}
use Rattle.std.specs.List.{list_any, range_with_len}
use Rattle.mb_kinds.specs.Image.{Image}
use Rattle.mb_kinds.specs.declared.credentials.Cred.{Cred}
use Rattle.mb_tree.specs.Effect.{TreeAndOpens, effect}
use Rattle.mb_tree.specs.Fits.{Fits}
use Rattle.mb_tree.specs.Opening.{first_seat, is_nameless, swept}
use Rattle.mb_tree.specs.Sessions.{counts, held_by, held_in}
use Rattle.mb_tree.specs.Sweep.{AreNameless, opens_of_list}
use Rattle.mb_tree.specs.Trees.{IsSound}
use Rattle.mb_tree.specs.Views.{Kept}
use Rattle.mb_tree.specs.Volume.{IsVolume}
use Rattle.mb_tree.specs.declared.nodes.Node.{Node}
use Rattle.mb_tree.specs.declared.operations.FsOp.TheVariants.{Release}
use Rattle.mb_tree.specs.declared.seats.Seat.{Seat}
use Rattle.mb_tree.specs.declared.trees.Tree.{Tree}
use Rattle.mb_tree.proofs.Always.{same_ok}
use Rattle.mb_tree.proofs.KeptVolumes.{kept_same}
use Rattle.mb_tree.proofs.OneTrees.{one_tree}
use Rattle.mb_tree.proofs.Sweeping.{nothing_to_sweep, sweep_is_release}
use Rattle.mb_iface.specs.Acting.{with_changes}
use Rattle.mb_kinds.specs.Changed.{ChangeList}
use Rattle.mb_session.specs.OpenFiles.{TellsCounts}
use Rattle.mb_rules.specs.TreeOf.{tree_of}
use Rattle.mb_check.specs.Whole.{IsSoundAs, nameless_in}
use Rattle.mb_check.specs.declared.scans.Scan.{Scan}
use Rattle.mb_cache.specs.Pages.{under}
use Rattle.mb_cache.specs.State.{CacheRoom, CacheState, seen}
use Rattle.mb_cache.proofs.Layers.{under_installed}
use Rattle.mb_core_spec.specs.Begun.{begun_core}
use Rattle.mb_core_spec.specs.Bounds.{IsConfig}
use Rattle.mb_core_spec.specs.Conditions.{MayBegin}
use Rattle.mb_core_spec.specs.State.{CoreState, JournalRoom}
use Rattle.mb_core_spec.specs.declared.config.Config.{Config}
use Rattle.mb_core_order.proofs.Overlays.{same_some, under_held}
use Rattle.mb_core_order.proofs.Redoing.{counts_are}
use Rattle.mb_core_state.specs.Opening.{ActsOnNameless}
use Rattle.mb_core_state.specs.Rooms.{fresh_cache}
use Rattle.mb_core_events.specs.Beginning.{IsBegunOver, IsSweptIf, IsUnswept}
use Rattle.mb_core_spec.specs.Right.{Right}
use Rattle.mb_core_order.proofs.Begins.{right_begins}
use Rattle.mb_tree.proofs.Opened.{opening_valid}
use Rattle.mb_core_events.proofs.RightsOfFinish.{rises_if}

-- ---- the numbers of the nameless files

in_range : (ino start n : ℕ) → start ≤ ino → ino < start + n → list_any (nat_eq ino) (range_with_len start n) ≡ true
in_range ino start zero low high = absurd (omega (arith, low, high))
in_range ino start (suc n) low high = elim (nat_eq ino start) as (λ b. nat_eq ino start ≡ b → (b || list_any (nat_eq ino) (range_with_len (start + 1) n)) ≡ true) [
  | true ↦ λ is. refl
  | false ↦ λ is. (let apart : start + 1 ≤ ino = grind (arith, nat_tests, low, is) in in_range ino (start + 1) n apart (omega (arith, high)))
] refl

there_if : (tree : Tree) → IsSound tree → (ino : ℕ) (o : Option Node) → fin.get tree.nodes ino ≡ o → (is_nameless ino o && list_any (nat_eq ino) (range_with_len 0 (tree.last + 1))) ≡ is_nameless ino o
there_if tree sound ino None has = refl
there_if tree sound ino (Some node) has =
    let low = (sound.numbers ino node has).1 in
    ap (λ b. is_nameless ino (Some node) && b) (in_range ino 0 (tree.last + 1) (omega arith) (omega (arith, low))) ∙ and_true (is_nameless ino (Some node))
  where
    and_true : (b : Bool) → (b && true) ≡ b
    and_true true = refl
    and_true false = refl

pub nameless_are : (tree : Tree) → IsSound tree → AreNameless tree.nodes (nameless_in tree)
nameless_are tree sound ino =
    any-filter_same (nat_eq ino) (λ k. is_nameless k (fin.get tree.nodes k)) (is_nameless ino (fin.get tree.nodes ino)) (λ k is. (let same : k ≡ ino = grind (arith, nat_tests, is) in ap (λ n. is_nameless n (fin.get tree.nodes n)) same)) (range_with_len 0 (tree.last + 1))
    ∙ there_if tree sound ino (fin.get tree.nodes ino) refl

-- ---- what opening finds

none_counted : (ino : ℕ) → count_of fin.empty ino ≡ 0
none_counted ino = ap (λ (o : Option ℕ). unwrap_or o 0) (get-empty {X = ℕ} nat_cmp ino)

abbrev pub IsOpened : Tree → List ℕ → Image → Image → Type 0
IsOpened tree inos image view = IsVolume view (record tree { nodes = swept tree.nodes }) × Kept tree image (record tree { nodes = swept tree.nodes }) view

nothing_opened : (tree : Tree) (image : Image) → IsVolume image tree → AreNameless tree.nodes [] → IsOpened tree [] image image
nothing_opened tree image volume are =
    let same : tree ≡ record tree { nodes = swept tree.nodes } = ap (λ nodes. record tree { nodes = nodes }) (sym (nothing_to_sweep tree.nodes are)) in
    (subst (IsVolume image) same volume, subst (λ (t : Tree). Kept tree image t image) same (kept_same tree image))

module _ {D : Type 0} (told : D → Option Image) (cache : CacheState D) (inos : List ℕ) (changes : ChangeList) (by : ActsOnNameless told cache inos changes) (tree : Tree) (image : Image) (sealed : cache.sealed ≡ []) (current : cache.current ≡ [])
    (tells : told cache.disk ≡ Some image) (volume : IsVolume image tree) (are : AreNameless tree.nodes inos) (some : 0 < length inos) where
  abbrev next : TreeAndOpens
  next = record { tree = record tree { nodes = swept tree.nodes }; opens = λ ino. 0 }

  view_is : seen told cache ≡ Some image
  view_is = rw tells (rw sealed (rw current refl))

  opened : IsOpened tree inos image (under image changes)
  opened =
      let one = sweep_is_release tree inos are some in
      let same = counts_are by.opens (opens_of_list inos) by.counted in
      let done = by.acts.acts image tree view_is volume (subst (λ f. Fits tree f (Release inos) None) (sym same) one.fits) in
      let leads = ap (λ f. effect tree f (Release inos) by.acts.picked) same ∙ ap (effect tree (opens_of_list inos) (Release inos)) done.picks ∙ one.leads in
      let is : done.held ≡ next = same_ok done.held next (sym done.effect ∙ leads) in
      let held = under_held image changes tree image fin.empty next (record {
        volume = subst (λ (h : TreeAndOpens). IsVolume (with_changes image changes) h.tree) is done.volume;
        kept = subst (λ (h : TreeAndOpens). Kept tree image h.tree (with_changes image changes)) is done.kept;
        counted = none_counted;
      }) in
      (held.volume, held.kept)

-- ---- the core

module _ {F D : Type 0} (told : D → Option Image) (faults : D → ℕ) (fs : F) (given scanned : D) (config : Config) (same : told scanned ≡ told given) where
  abbrev begun_at : CacheState D → JournalRoom → CoreState F D
  begun_at cache room = begun_core fs scanned config cache fin.empty room

  abbrev May : CoreState F D → Type 0
  May core = MayBegin told faults core.first config core.cache fin.empty

  module _ (cache_room : CacheRoom) (room : JournalRoom) where
    abbrev old : CoreState F D
    old = begun_at (fresh_cache scanned cache_room) room

    module _ (good : IsConfig config) (inos : List ℕ) (names : IfSome (told given) (λ image. IsVolume image (tree_of image) × (inos ≡ nameless_in (tree_of image)))) where
      names_of : (image : Image) (tree : Tree) → told scanned ≡ Some image → IsVolume image tree → AreNameless tree.nodes inos
      names_of image tree tells volume =
          let known = subst (λ (o : Option Image). IfSome o (λ i. IsVolume i (tree_of i) × (inos ≡ nameless_in (tree_of i)))) (sym same ∙ tells) names in
          let one : tree ≡ tree_of image = one_tree image tree (tree_of image) volume known.0 in
          subst (AreNameless tree.nodes) (ap nameless_in one ∙ sym known.1) (nameless_are tree volume.sound)

      no_opens : TellsCounts fin.empty (counts (map first_seat config.callers))
      no_opens ino = none_counted ino ∙ sym (none_open config.callers)
        where
          none_open : (creds : List Cred) → counts (map first_seat creds) ino ≡ 0
          none_open [] = refl
          none_open (cred ∷ creds) =
              let sum = sum_by-cons (λ (s : Seat). held_in s ino) (first_seat cred) (map first_seat creds) in
              let first : held_in (first_seat cred) ino ≡ 0 = sum_nothing _ 17 (λ place low. ap (held_by ino) (get-empty {X = PlainFile} nat_cmp place)) in
              let rest = none_open creds in
              omega (arith, sum, first, rest)

      pub may_begin : (new : CoreState F D) → IsSweptIf told old new inos → told new.cache.disk ≡ told scanned → faults scanned ≤ faults new.cache.disk → May new
      may_begin new (inl none) tells more = subst May (sym none.1) (record {
        config_is = good;
        stamps = λ block. omega arith;
        pins = λ block. refl;
        bare = refl;
        counted = no_opens;
        tells = λ image is. subst IsSome (sym is) refl;
        later = omega arith;
        swept = λ first image tree began now volume.
            let at : first ≡ image = same_some first image (sym began ∙ now) in
            subst (λ (i : Image). IsOpened tree inos first i) at (nothing_opened tree first volume (subst (AreNameless tree.nodes) none.0 (names_of first tree began volume)));
      })
      may_begin new (inr some) tells more = subst May (sym some.1.put.event) (record {
        config_is = good;
        stamps = λ block. (let one = (rises_if [] _ some.1.changes block refl some.1.put.are (omega arith)).1 in omega (arith, one));
        pins = λ block. refl;
        bare = refl;
        counted = no_opens;
        tells = λ image is. subst IsSome (sym (tells ∙ is)) refl;
        later = more;
        swept = λ first image tree began now volume.
            let at : first ≡ image = same_some first image (sym began ∙ sym tells ∙ now) in
            let seen : under first new.cache.sealed ≡ under first some.1.changes = some.1.put.view first ∙ under_installed first [] some.1.changes some.1.put.are.once in
            subst (λ (i : Image). IsOpened tree inos first (under i new.cache.sealed)) at
            (subst (IsOpened tree inos first) (sym seen) (opened told (fresh_cache scanned cache_room) inos some.1.changes some.1.acts tree first refl refl began volume (names_of first tree began volume) some.0));
      })

-- ---- it is in order

pub begun_right : {F D : Type 0} (told : D → Option Image) (faults : D → ℕ) (fs : F) (given : D) (config : Config) (core : CoreState F D) → IsBegunOver told faults fs given config core → MayBegin told faults core.first config core.cache fin.empty
    → Right told faults core
begun_right told faults fs given config core over may = subst (Right told faults) (sym over.begun)
    (right_begins fs core.first config core.cache fin.empty core.journal.room may.config_is may.stamps may.pins told faults may.bare may.counted may.tells may.later
    (λ first image tree began now volume. let one = may.swept first image tree began now volume in (one.0, one.1, opening_valid tree config.callers volume.sound)))

-- what the scan told, of which the begun core has the nameless files
pub names_told : (o : Option Image) (scan : Scan) → IfSome o (λ image. IsSoundAs image scan) → IfSome o (λ image. IsVolume image (tree_of image) × (scan.nameless ≡ nameless_in (tree_of image)))
names_told None scan is = tt
names_told (Some image) scan is = (is.volume, is.tells.nameless)

-- nothing was to be reclaimed: no page waits
pub unswept_begins : {F D : Type 0} (told : D → Option Image) (old new : CoreState F D) (inos : List ℕ) → old.cache.sealed ≡ [] → IsSweptIf told old new inos → (o : Option Image)
    → IfSome o (λ image. IsVolume image (tree_of image) × (inos ≡ nameless_in (tree_of image))) → IsUnswept o new.cache.sealed
unswept_begins told old new inos fresh swept None names = tt
unswept_begins told old new inos fresh (inl none) (Some image) names = λ is. ap (λ (core : CoreState _ _). core.cache.sealed) none.1 ∙ fresh
unswept_begins told old new inos fresh (inr some) (Some image) names = λ is.
    let none : length inos ≡ 0 = ap length (names.1 ∙ is) in
    let some = some.0 in
    absurd (omega (arith, none, some))
