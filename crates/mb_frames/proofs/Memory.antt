-- What the walks of the pointer functions share. Assumes `Logic`.
use Rattle.std.proofs.Common.{◌≡◌, ℕ, zero, suc, true, false, List, [], ◌∷◌, ◌++◌, refl, subst, arith}
use seplogic.Ra.Ura.{Ura}
use base.Fraction.{full_share}
use mir.Syntax.{Ty}
use mir.Val.{Val, vstruct, of_list}
use base.Logic.{SProp, ent, sep, emp, never, never_e, id⊢, via, fst∗, snd∗}
use base.Fml.{Lft, fat, froom}
use borrow.Table.OneValue.{part_out}
use denote.Param.{layout}
use Rattle.mb_frames.specs.declared.node.Node.{Node}
use prog.Model.{Model}
use types.Logic.{Logic, sem}
use contract.Monad.{fact, fact_i, fact_use}
use types.Kit.{Item, Goal, Seq, mean, prop, ‵, raw, ◌⊛◌, ◌$◌, ◌∵◌, !, qed, by, move, keep, drop, use1, use2, some, pick, split, fsplit, fjoin, fpick, fpack, feq_i, feq_l, done}
use denote.Steps.{nothing}
use denote.RawPtr.{RawPtr, ptr_val}
use denote.Builtin.{unit}
use denote.Signature.{Slot, plain}
use denote.RattleType.{RattleType, Valss}
use denote.Struct.Struct.{Shape, Struct, within}
use Rattle.std_alloc.proofs.RcSteps.{word}
use denote.Memory.{part_at}
use denote.RawPtr.{Ptr, block_ptr, null_ptr, lies_at}
use denote.Struct.Lending.{lent_at}
use Rattle.mb_frames.specs.Pointers.{same_ptr}
use Rattle.mb_frames.specs.Cells.{Cell, places, IsFresh}
use Rattle.mb_frames.specs.Ownership.{cell_owns, cells_own, cells_lent}
use Rattle.mb_frames.specs.contracts.node.Node.{the_row as R}
use Rattle.mb_frames.proofs.Pointers.{same_ptr_eq}

module _ {M : Type 1} {𝓤 : Ura M} (𝓛 : Logic 𝓤) where
  pub cells_cut : (xs : List Cell) (c : Cell) (ys : List Cell) → ent 𝓤 (sem 𝓛 (cells_own (xs ++ c ∷ ys))) (sep 𝓤 (sem 𝓛 (cell_owns c)) (sem 𝓛 (cells_own (xs ++ ys))))
  cells_cut [] c ys = id⊢ 𝓤 _
  cells_cut (x ∷ xs) c ys = qed 𝓛 (‵ (cells_own (x ∷ xs ++ c ∷ ys)) ∷ []) ∵ fsplit ! $ move ! (1 ∷ []) $
      use1 𝓛 (‵ (cell_owns c) ⊛ ‵ (cells_own (xs ++ ys))) (cells_cut xs c ys) $ split ! $ move ! (2 ∷ 1 ∷ []) $ fjoin ! $ move ! (1 ∷ []) $ done !

  pub cells_glue : (xs : List Cell) (c : Cell) (ys : List Cell) → ent 𝓤 (sep 𝓤 (sem 𝓛 (cell_owns c)) (sem 𝓛 (cells_own (xs ++ ys)))) (sem 𝓛 (cells_own (xs ++ c ∷ ys)))
  cells_glue [] c ys = id⊢ 𝓤 _
  cells_glue (x ∷ xs) c ys = qed 𝓛 (‵ (cell_owns c) ∷ ‵ (cells_own (x ∷ xs ++ ys)) ∷ []) ∵ move ! (1 ∷ []) $ fsplit ! $ move ! (2 ∷ 1 ∷ []) $
      use2 𝓛 (‵ (cells_own (xs ++ c ∷ ys))) (cells_glue xs c ys) $ move ! (1 ∷ 0 ∷ []) $ fjoin ! $ done !

  pub cell_seen : (κ : Lft) (xs : List Cell) (c : Cell) (ys : List Cell) → ent 𝓤 (sem 𝓛 (cells_lent (xs ++ c ∷ ys) κ)) (sem 𝓛 (lent_at R c.at c.node κ))
  cell_seen κ [] c ys = fst∗ 𝓤 _ (sem 𝓛 (cells_lent ys κ))
  cell_seen κ (x ∷ xs) c ys = via 𝓤 _ (snd∗ 𝓤 (sem 𝓛 (lent_at R x.at x.node κ)) _) (cell_seen κ xs c ys)

module _ {M : Type 1} {𝓤 : Ura M} {𝓛 : Logic 𝓤} {K : Type 0} {Γ : List (Item 𝓤)} {G : Goal 𝓤 𝓛.H} where
  -- a fact that two entries show is learned, and they stay
  pub knows : K → {i j : Item 𝓤} (φ : Type 0) → ent 𝓤 (sep 𝓤 (mean 𝓛 i) (mean 𝓛 j)) (fact 𝓤 φ) → (φ → Seq K 𝓛 (i ∷ j ∷ Γ) G) → Seq K 𝓛 (i ∷ j ∷ Γ) G
  knows t {i} {j} φ h k =
      let shown : Seq K 𝓛 (i ∷ j ∷ Γ) (prop (fact 𝓤 φ)) = use2 𝓛 (raw (fact 𝓤 φ)) h $ keep t (0 ∷ []) $ done t in
      record { prf = fact_use 𝓤 φ shown.prf (λ x. (k x).prf) }

module _ {M : Type 1} {𝓤 : Ura M} (𝓛 : Logic 𝓤) (𝓜 : Model 𝓤 𝓛.H) where
  abbrev τ : Ty
  τ = layout R

  -- two nodes never lie at one place
  crowd : (p : Ptr) (x y : Node) → ent 𝓤 (sep 𝓤 (sem 𝓛 (lies_at R full_share p x)) (sem 𝓛 (lies_at R full_share p y))) (never 𝓤)
  crowd (block_ptr b o) x y = qed 𝓛 (‵ (part_at R full_share x b o) ∷ ‵ (part_at R full_share y b o) ∷ []) ∵
      use1 𝓛 (some (λ (v : Val). ‵ (fat full_share τ b o v) ⊛ ‵ (R.own_val x (v ∷ [])))) (part_out 𝓛 R refl full_share x b o) $ pick ! (λ v. split ! $
      use1 𝓛 (‵ (froom τ b o)) (𝓛.laws.at_room τ b o v) $ move ! (2 ∷ []) $
      use1 𝓛 (some (λ (v : Val). ‵ (fat full_share τ b o v) ⊛ ‵ (R.own_val y (v ∷ [])))) (part_out 𝓛 R refl full_share y b o) $ pick ! (λ w. split ! $
      use1 𝓛 (‵ (froom τ b o)) (𝓛.laws.at_room τ b o w) $ keep ! (0 ∷ 2 ∷ []) $ by ! (𝓜.room-room τ τ b o o o (omega arith, omega arith) (omega arith, omega arith))))
  crowd null_ptr x y = fst∗ 𝓤 (never 𝓤) (never 𝓤)

  -- what cannot be owned at one pointer shows two
  differ : (p q : Ptr) (F : Ptr → SProp 𝓤) → ent 𝓤 (F p) (never 𝓤) → ent 𝓤 (F q) (fact 𝓤 (same_ptr p q ≡ false))
  differ p q F h = (elim (same_ptr p q) as (λ y. same_ptr p q ≡ y → ent 𝓤 (F q) (fact 𝓤 (same_ptr p q ≡ false))) [
    | true ↦ λ e. via 𝓤 (never 𝓤) (subst (λ r. ent 𝓤 (F r) (never 𝓤)) (same_ptr_eq p q e) h) (never_e 𝓤 _)
    | false ↦ λ e. fact_i 𝓤 (same_ptr p q ≡ false) (F q) e
  ]) refl

  pub fresh : (p : Ptr) (x : Node) (cs : List Cell) → ent 𝓤 (sep 𝓤 (sem 𝓛 (lies_at R full_share p x)) (sem 𝓛 (cells_own cs))) (fact 𝓤 (IsFresh p (places cs)))
  fresh p x [] = fact_i 𝓤 (IsFresh p []) _ tt
  fresh p x (c ∷ cs) = qed 𝓛 (‵ (lies_at R full_share p x) ∷ ‵ (cells_own (c ∷ cs)) ∷ []) ∵ move ! (1 ∷ []) $ fsplit ! $ fsplit ! $ move ! (3 ∷ 0 ∷ []) $
      knows ! (same_ptr p c.at ≡ false) (differ p c.at (λ r. sep 𝓤 (sem 𝓛 (lies_at R full_share p x)) (sem 𝓛 (lies_at R full_share r c.node))) (crowd p x c.node)) (λ here. move ! (0 ∷ 3 ∷ []) $
      knows ! (IsFresh p (places cs)) (fresh p x cs) (λ rest. by ! (fact_i 𝓤 (IsFresh p (places (c ∷ cs))) _ (here, rest))))

abbrev one_field : Shape
one_field = record { name = []; args = []; types = []; fields = RawPtr ∷ [] }

abbrev pub Word : RattleType
Word = Struct one_field

-- a value of one pointer
pub word_had : {M : Type 1} {𝓤 : Ura M} {𝓛 : Logic 𝓤} {K : Type 0} {Γ : List (Item 𝓤)} {G : Goal 𝓤 𝓛.H} → K → (c : Ptr) (vs : List Val) → (vs ≡ word c ∷ [] → Seq K 𝓛 Γ G) → Seq K 𝓛 (‵ (Word.own_val (c, tt) vs) ∷ Γ) G
word_had t c vs k = fpick t (λ vss. fsplit t $ feq_l t (λ ev. fsplit t $ feq_l t (λ e. drop t $ k (subst (λ (ws : List Val). vs ≡ vstruct (of_list (ws ++ [])) ∷ []) e ev))))

abbrev pub slot_at : {n : ℕ} → ℕ → List (Slot n) → Slot n
slot_at k [] = plain (λ _. unit)
slot_at zero (s ∷ ss) = s
slot_at (suc k) (s ∷ ss) = slot_at k ss

pub word_made : {M : Type 1} {𝓤 : Ura M} (𝓛 : Logic 𝓤) (c : Ptr) → ent 𝓤 (emp 𝓤) (sem 𝓛 (Word.own_val (c, tt) (word c ∷ [])))
word_made {𝓤 = 𝓤} 𝓛 c = qed 𝓛 (raw (emp 𝓤) ∷ []) ∵ drop ! $ nothing ! $ feq_i ! (List Val) (ptr_val c ∷ []) (ptr_val c ∷ []) refl $ fjoin ! $ feq_i ! (List Val) (word c ∷ []) (word c ∷ []) refl $ fjoin ! $
    fpack ! (Valss (RawPtr ∷ [])) (within one_field (c, tt) (word c ∷ [])) (ptr_val c ∷ [], tt) $ done !
