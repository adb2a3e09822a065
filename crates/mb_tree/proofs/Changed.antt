-- A node taken out of a map, changed and put back.
use Rattle.std.proofs.Common.{◌≡◌, inl, inr, ℕ, sym, ap, ◌∙◌, Some, None, option_map, unwrap_or, true, false, ◌&&◌, if◌then◌else◌, nat_eq}
use Rattle.mb_tree.specs.Sessions.{Counts}
use Rattle.mb_tree.specs.Effect.{unlinked, is_lost, less_name}
use Rattle.mb_tree.specs.declared.nodes.Node.{Node}
use Rattle.std.specs.FinMap as fin
use Rattle.mb_tree.specs.Maps.{Numbered, changed_at}
use Rattle.mb_tree.proofs.FiniteMaps.{same, get_here, get_there, gone_here, gone_there, one_or_not}

module _ {X : Type 0} where
  put_over : (m : Numbered X) (k : ℕ) (x : X) → fin.insert (fin.remove m k) k x ≡ fin.insert m k x
  put_over m k x = same _ _ (λ q. elim (one_or_not q k) [
    | inl is ↦ rw is (get_here (fin.remove m k) k x ∙ sym (get_here m k x))
    | inr not ↦ get_there (fin.remove m k) k x q not ∙ gone_there m k q not ∙ sym (get_there m k x q not)
  ])

  none_gone : (m : Numbered X) (k : ℕ) → fin.get m k ≡ None → fin.remove m k ≡ m
  none_gone m k h = same _ _ (λ q. elim (one_or_not q k) [
    | inl is ↦ rw is (gone_here m k ∙ sym h)
    | inr not ↦ gone_there m k q not
  ])

  pub rechanged : (f : X → X) (m p q : Numbered X) (k key : ℕ) (old new : X) → key ≡ k → fin.get m key ≡ Some old → p ≡ fin.remove m key → new ≡ f old → q ≡ fin.insert p key new → q ≡ changed_at m k f
  rechanged f m p q k key old new is has gone n put =
      put ∙ ap (λ p. fin.insert p key new) gone ∙ put_over m key new ∙ ap (fin.insert m key) n
      ∙ ap (λ o. unwrap_or (option_map (λ x. fin.insert m key (f x)) o) m) (sym has)
      ∙ ap (λ j. unwrap_or (option_map (λ x. fin.insert m j (f x)) (fin.get m j)) m) is

  pub unchanged : (f : X → X) (m p : Numbered X) (k key : ℕ) → key ≡ k → fin.get m key ≡ None → p ≡ fin.remove m key → p ≡ changed_at m k f
  unchanged f m p k key is none gone =
      gone ∙ none_gone m key none ∙ ap (λ o. unwrap_or (option_map (λ x. fin.insert m key (f x)) o) m) (sym none)
      ∙ ap (λ j. unwrap_or (option_map (λ x. fin.insert m j (f x)) (fin.get m j)) m) is

-- an inode that lost a name
pub lost : (opens : Counts) (moment : ℕ) (m p : Numbered Node) (k key : ℕ) (old new : Node) → key ≡ k → fin.get m key ≡ Some old → p ≡ fin.remove m key → new ≡ unlinked moment old → (nat_eq new.nlink 0 && nat_eq (opens k) 0) ≡ true → p ≡ less_name m opens moment k
lost opens moment m p k key old new is has gone n unheld =
    let at : fin.get m k ≡ Some old = ap (fin.get m) (sym is) ∙ has in
    let gone_at : p ≡ fin.remove m k = gone ∙ ap (fin.remove m) is in
    let test : is_lost opens k (option_map (unlinked moment) (fin.get m k)) ≡ true = ap (λ o. is_lost opens k (option_map (unlinked moment) o)) at ∙ ap (λ (node : Node). nat_eq node.nlink 0 && nat_eq (opens k) 0) (sym n) ∙ unheld in
    gone_at ∙ sym (ap (λ b. if b then fin.remove m k else changed_at m k (unlinked moment)) test)

pub unlost : (opens : Counts) (moment : ℕ) (m p q : Numbered Node) (k key : ℕ) (old new : Node) → key ≡ k → fin.get m key ≡ Some old → p ≡ fin.remove m key → new ≡ unlinked moment old → (nat_eq new.nlink 0 && nat_eq (opens k) 0) ≡ false → q ≡ fin.insert p key new → q ≡ less_name m opens moment k
unlost opens moment m p q k key old new is has gone n not put =
    let at : fin.get m k ≡ Some old = ap (fin.get m) (sym is) ∙ has in
    let test : is_lost opens k (option_map (unlinked moment) (fin.get m k)) ≡ false = ap (λ o. is_lost opens k (option_map (unlinked moment) o)) at ∙ ap (λ (node : Node). nat_eq node.nlink 0 && nat_eq (opens k) 0) (sym n) ∙ not in
    rechanged (unlinked moment) m p q k key old new is has gone n put ∙ sym (ap (λ b. if b then fin.remove m k else changed_at m k (unlinked moment)) test)

pub not_there : (opens : Counts) (moment : ℕ) (m p : Numbered Node) (k key : ℕ) → key ≡ k → fin.get m key ≡ None → p ≡ fin.remove m key → p ≡ less_name m opens moment k
not_there opens moment m p k key is none gone =
    let at : fin.get m k ≡ None = ap (fin.get m) (sym is) ∙ none in
    let test : is_lost opens k (option_map (unlinked moment) (fin.get m k)) ≡ false = ap (λ o. is_lost opens k (option_map (unlinked moment) o)) at in
    unchanged (unlinked moment) m p k key is none gone ∙ sym (ap (λ b. if b then fin.remove m k else changed_at m k (unlinked moment)) test)
