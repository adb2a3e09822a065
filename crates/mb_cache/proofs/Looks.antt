-- Pages over an image: what is read under them.
use Rattle.std.proofs.Common.{◌≡◌, ℕ, List, Option, Some, None, unwrap_or, refl, sym, ap, ◌∙◌, option_map, IfSome, OnOk, Result, Ok, Err}
use Rattle.std.specs.Option.{option_or}
use Rattle.mb_kinds.specs.Image.{Image}
use Rattle.mb_edge.specs.Blocks.{GivesBlock}
use Rattle.mb_cache.specs.Pages.{PageList, page_at, under}
use Rattle.mb_layers.proofs.Covers.{under_at}

-- what is found where a look-up gave nothing
pub none_found : {X Y : Type 0} (f : X → Y) (found : Option X) (other : Option Y) → ((x : X) → found ≡ Some x → ⊥) → option_map f found ≡ other → None ≡ other
none_found f None other not_some same = same
none_found f (Some x) other not_some same = absurd (not_some x refl)

-- through two lists of pages
pub under_both : (image : Image) (sealed current : PageList) (block : ℕ)
    → (under (under image sealed) current).at block ≡ unwrap_or (page_at current block) (unwrap_or (page_at sealed block) (image.at block))
under_both image sealed current block =
    under_at (under image sealed) current block ∙ ap (λ bytes. unwrap_or (page_at current block) bytes) (under_at image sealed block)

found_first : (x y : Option (List ℕ)) (rest : List ℕ) → unwrap_or (option_or x y) rest ≡ unwrap_or x (unwrap_or y rest)
found_first None y rest = refl
found_first (Some x) y rest = refl

-- a block reads as its newest page, else as the disk's block
pub seen_at : (image : Image) (sealed current : PageList) (block : ℕ) → unwrap_or (option_or (page_at current block) (page_at sealed block)) (image.at block) ≡ (under (under image sealed) current).at block
seen_at image sealed current block = found_first (page_at current block) (page_at sealed block) (image.at block) ∙ sym (under_both image sealed current block)

pub seen_paged : (told : Option Image) (sealed current : PageList) (block : ℕ) (bytes : List ℕ) → Some bytes ≡ option_or (page_at current block) (page_at sealed block)
    → IfSome (option_map (λ image. under (under image sealed) current) told) (λ view. bytes ≡ view.at block)
seen_paged None sealed current block bytes found = tt
seen_paged (Some image) sealed current block bytes found = ap (λ o. unwrap_or o (image.at block)) found ∙ seen_at image sealed current block

pub seen_unpaged : (told : Option Image) (sealed current : PageList) (block : ℕ) (bytes : List ℕ) → None ≡ option_or (page_at current block) (page_at sealed block) → GivesBlock told block bytes
    → IfSome (option_map (λ image. under (under image sealed) current) told) (λ view. bytes ≡ view.at block)
seen_unpaged None sealed current block bytes missed gives = tt
seen_unpaged (Some image) sealed current block bytes missed gives = gives ∙ ap (λ o. unwrap_or o (image.at block)) missed ∙ seen_at image sealed current block

-- what a read into a buffer gave, where it gave something
pub read_unpaged : {E : Type 0} (result : Result (Unit {0}) E) (told : Option Image) (sealed current : PageList) (block : ℕ) (bytes : List ℕ) → None ≡ option_or (page_at current block) (page_at sealed block) → OnOk result (GivesBlock told block bytes)
    → OnOk result (IfSome (option_map (λ image. under (under image sealed) current) told) (λ view. bytes ≡ view.at block))
read_unpaged (Ok done) told sealed current block bytes missed gives = seen_unpaged told sealed current block bytes missed gives
read_unpaged (Err e) told sealed current block bytes missed gives = gives
