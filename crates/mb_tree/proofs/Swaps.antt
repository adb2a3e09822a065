-- An element taken out, changed and put back.
use Rattle.std.proofs.Common.{◌≡◌, ℕ, ◌<◌, List, length, get_or, sym, ap, ◌∙◌, Some, option_map, unwrap_or, slice_get, slice_set}
use Rattle.std.proofs.lemmas.Option.{slice_get-get_or}
use Rattle.std.proofs.lemmas.List.{set-set}

pub put_back : {X : Type 0} (f : X → X) (xs ys zs : List X) (i : ℕ) (blank old new : X) → i < length xs
    → ys ≡ slice_set xs i blank → old ≡ get_or xs i old → new ≡ f old → zs ≡ slice_set ys i new
    → zs ≡ unwrap_or (option_map (λ x. slice_set xs i (f x)) (slice_get xs i)) xs
put_back f xs ys zs i blank old new h p o n q =
    q ∙ ap (λ l. slice_set l i new) p ∙ set-set xs i blank new ∙ ap (slice_set xs i) n
    ∙ ap (λ r. unwrap_or (option_map (λ x. slice_set xs i (f x)) r) xs) (sym (slice_get-get_or xs i old h ∙ ap Some (sym o)))
