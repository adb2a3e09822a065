-- The super-block, found among the changes or in the view.
use Rattle.std.proofs.Common.{ℕ, ◌≡◌, List, Option, Some, None, IfSome, slice_get, unwrap_or, sym, ap, subst, ◌∙◌}
use Rattle.mb_kinds.specs.Changed.{ChangeList, changed}
use Rattle.mb_iface.specs.Places.{StandsAt}
use Rattle.mb_iface.proofs.Editing.{over_changed, over_unchanged}
use Rattle.mb_alloc.specs.Taking.{IsSuper}

pub super_changed : (shown : ℕ → Option (List ℕ)) (changes : ChangeList) (place key : ℕ) (bytes : List ℕ) → StandsAt changes place 1 → slice_get changes place ≡ Some (key, bytes)
    → IsSuper shown changes bytes (Some place)
super_changed shown changes place key bytes stood here =
    let same : stood.bytes ≡ bytes = ap (λ o. (unwrap_or {T = ℕ × List ℕ} o (key, bytes)).1) (sym stood.here ∙ here) in
    record {
      found = λ blocks part. over_changed blocks changes 1 bytes (stood.reads ∙ ap (λ b. Some b) same);
      placed = stood;
    }

pub super_viewed : (shown : ℕ → Option (List ℕ)) (changes : ChangeList) (bytes : List ℕ) → changed changes 1 ≡ None → shown 1 ≡ Some bytes → IsSuper shown changes bytes None
super_viewed shown changes bytes none here = record {
  found = λ blocks part. over_unchanged blocks changes 1 none ∙ subst (λ (o : Option (List ℕ)). IfSome o (λ b. blocks 1 ≡ b)) here (part 1);
  placed = none;
}
