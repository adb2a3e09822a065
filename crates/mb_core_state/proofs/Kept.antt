-- The blocks that are kept from one operation that is done again to the next are a part of what is seen.
use Rattle.std.proofs.Common.{◌≡◌, ◌∙◌, ℕ, List, [], Option, None, Some, IfSome, option_map, refl, ap, sym, subst}
use Rattle.mb_kinds.specs.Image.{Image}
use Rattle.mb_kinds.specs.Changed.{AreChanges, ChangeList, changed}
use Rattle.mb_tree.specs.Views.{IsPart, over}
use Rattle.mb_cache.specs.CacheLaws.{InstalledReads, SeenInLayers}
use Rattle.mb_cache.specs.Pages.{PageList, installed, under}
use Rattle.mb_cache.specs.State.{CacheState}
use Rattle.mb_cache.specs.Kept.{CopyList, shown}
use Rattle.mb_core_state.specs.KeptBlocks.{AreSeen}

-- no block is a part of anything
pub none_seen : {D : Type 0} (told : D → Option Image) (cache : CacheState D) (copies : CopyList) → copies ≡ [] → AreSeen told cache copies
none_seen told cache copies none = λ view tells block. subst (λ (list : CopyList). IfSome (shown list block) (λ bytes. view.at block ≡ bytes)) (sym none) tt

-- where the same is seen
pub still_seen : {D : Type 0} (told : D → Option Image) (old new : CacheState D) (copies : CopyList) → told new.disk ≡ told old.disk → new.sealed ≡ old.sealed → new.current ≡ old.current → AreSeen told old copies → AreSeen told new copies
still_seen told old new copies same sealed current part = λ view tells. part view
    (sym (ap (option_map (λ (i : Image). under (under i new.sealed) new.current)) same ∙ ap (λ pages. option_map (λ (i : Image). under (under i pages) new.current) (told old.disk)) sealed ∙ ap (λ pages. option_map (λ (i : Image). under (under i old.sealed) pages) (told old.disk)) current) ∙ tells)

-- ---- after an install

at_layers : (layers : SeenInLayers) (was view : Image) (changes : ChangeList) → view ≡ under was changes → (block : ℕ) → over was.at (changed changes) block ≡ view.at block
unfolding over
at_layers layers was view changes is block = sym (ap (λ (i : Image). i.at block) is ∙ layers was [] changes block)

moved : (kept : CopyList) (blocks now : ℕ → List ℕ) → ((block : ℕ) → blocks block ≡ now block) → IsPart (shown kept) blocks → IsPart (shown kept) now
moved kept blocks now same part block = subst (λ (bytes : List ℕ). IfSome (shown kept block) (λ found. bytes ≡ found)) (same block) (part block)

same_image : (one other : Image) → Some one ≡ Some other → one ≡ other
same_image one other h = cc

module _ (layers : SeenInLayers) (reads : InstalledReads) (changes : ChangeList) (are : AreChanges changes) (sealed current : PageList) (copies kept : CopyList)
    (follows : (blocks : ℕ → List ℕ) → IsPart (shown copies) blocks → IsPart (shown kept) (over blocks (changed changes))) where
  by_image : (tells : Option Image) → ((was : Image) → option_map (λ (i : Image). under (under i sealed) current) tells ≡ Some was → IsPart (shown copies) was.at)
      → (view : Image) → option_map (λ (i : Image). under (under i sealed) (installed current changes)) tells ≡ Some view → IsPart (shown kept) view.at
  by_image None part view is = absurd (let wrong : None ≡ Some view = is in cc)
  by_image (Some image) part view is =
      let was : Image = under (under image sealed) current in
      let now : view ≡ under was changes = sym (same_image _ _ is) ∙ reads (under image sealed) current changes are in
      moved kept (over was.at (changed changes)) view.at (at_layers layers was view changes now) (follows was.at (part was refl))

-- the blocks that went with an install
pub followed_seen : {D : Type 0} (told : D → Option Image) (old new : CacheState D) (changes : ChangeList) (copies kept : CopyList) → SeenInLayers → InstalledReads → AreChanges changes
    → told new.disk ≡ told old.disk → new.sealed ≡ old.sealed → new.current ≡ installed old.current changes
    → ((blocks : ℕ → List ℕ) → IsPart (shown copies) blocks → IsPart (shown kept) (over blocks (changed changes))) → AreSeen told old copies → AreSeen told new kept
followed_seen told old new changes copies kept layers reads are same sealed current follows part = λ view tells.
    by_image layers reads changes are old.sealed old.current copies kept follows (told old.disk) part view
    (sym (ap (option_map (λ (i : Image). under (under i new.sealed) new.current)) same ∙ ap (λ pages. option_map (λ (i : Image). under (under i pages) new.current) (told old.disk)) sealed ∙ ap (λ pages. option_map (λ (i : Image). under (under i old.sealed) pages) (told old.disk)) current) ∙ tells)
