-- The names in an ordered set, as a list of names.
use Rattle.std.proofs.Common.{◌≡◌, ℕ, List, [], ◌∷◌, Bool, true, false, cond, ◌||◌, bytes_eq, refl, sym, ap, ◌∙◌}
use Rattle.std.specs.List.{list_any}
use Rattle.std.specs.Cmp.Lexicographic.{slice_cmp}
use Rattle.std.specs.Ordering.{nat_cmp, is_eq}
use Rattle.std.proofs.lemmas.Map.Text.{is_eq-slice_cmp}

pub named_keys : (name : List ℕ) (keys : List (List ℕ)) → list_any (λ k. is_eq (slice_cmp nat_cmp name k)) keys ≡ list_any (bytes_eq name) keys
named_keys name [] = refl
named_keys name (key ∷ keys) = ap (λ b. b || list_any (λ k. is_eq (slice_cmp nat_cmp name k)) keys) (is_eq-slice_cmp name key) ∙ ap (λ b. bytes_eq name key || b) (named_keys name keys)

cond_or : (b c : Bool) → cond b true c ≡ (b || c)
cond_or true c = refl
cond_or false c = refl

pub named_more : (name other : List ℕ) (old new : List (List ℕ)) → list_any (λ k. is_eq (slice_cmp nat_cmp other k)) new ≡ cond (is_eq (slice_cmp nat_cmp name other)) true (list_any (λ k. is_eq (slice_cmp nat_cmp other k)) old)
    → list_any (bytes_eq other) new ≡ (bytes_eq name other || list_any (bytes_eq other) old)
named_more name other old new h =
    sym (named_keys other new) ∙ h ∙ cond_or (is_eq (slice_cmp nat_cmp name other)) (list_any (λ k. is_eq (slice_cmp nat_cmp other k)) old)
    ∙ ap (λ b. b || list_any (λ k. is_eq (slice_cmp nat_cmp other k)) old) (is_eq-slice_cmp name other) ∙ ap (λ b. bytes_eq name other || b) (named_keys other old)
