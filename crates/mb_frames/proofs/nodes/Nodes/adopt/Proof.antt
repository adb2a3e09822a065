-- `adopt` takes the box apart, and owns the node from then on. Assumes `Logic`.
use Rattle.std.proofs.Common.{◌≡◌, List, [], ◌∷◌, ◌++◌, refl, sym, ap, ◌∙◌, subst}
use mir.Raw.{raw as bare}
use mir.Syntax.{named}
use mir.Val.{Val, vptr}
use base.Logic.{SProp, ent, emp, never, id⊢, fst∗}
use base.Fml.{ftrue, flft}
use base.Fraction.{full_share}
use prog.Wp.{WpFn}
use types.Logic.{sem}
use types.Tokens.{lft_new}
use types.Kit.{‵, raw, ◌⊛◌, some, later, await, pick, ◌$◌, ◌∵◌, !, qed, by, move, keep, drop, use0, use1, split, join, fsplit, fsplit3, fjoin, fjoin3, feq_i, feq_l, suffices}
use types.Part.{agg}
use types.Run.{of_opd, and_then, no_more, returns, enter}
use types.ByLocal.{alloc_all, pass_all, free_all, look_at, get, sets, lands_as}
use contract.BorrowLft.{◌⊑◌}
use contract.Lifetimes.{Lfts, Shares}
use contract.Monad.{fact, fact_i}
use contract.Running.{tables}
use denote.RattleType.{RattleType, owns}
use denote.Param.NoDrop.{glues}
use denote.RawPtr.{Ptr, RawPtr, block_ptr, null_ptr, ptr_val, in_a_block}
use denote.Ref.{MutBor, MutRef, mut_vals}
use denote.Signature.{plain}
use denote.Steps.{nothing, only, opens, closes}
use denote.Triple.Call.{calls_at}
use denote.Triple.Clauses.{Lasts, lasts}
use denote.Triple.Spec.{triple_of}
use denote.Triple.Walked.{Stays, stay_dropped, stay_ref, walk_of, Goes-dropped, Goes-ref}
use Rattle.core.proofs.atomic.Steps.{fm}
use Rattle.std.proofs.raw_atomic.Walks.{proved_at, leaves}
use Rattle.std.proofs.impls.GlobalAllocator.TheImpl.Met.{passed}
use Rattle.std.specs.contracts.impls.GlobalAllocator.TheImpl.{ghosts, dict}
use Rattle.std_alloc.proofs.BoxSteps.Form as box
use Rattle.std_alloc.proofs.BoxSteps.Steps.{box_out, box_in}
use Rattle.std_alloc.proofs.RcSteps.{word}
use Rattle.std_alloc.specs.contracts.boxed.Box.into_raw as callee
use Rattle.std_alloc.proofs.boxed.Box.into_raw.Met.{met}
use Rattle.mb_frames.specs.Cells.{cell, places, IsFresh}
use Rattle.mb_frames.specs.Ownership.{cell_owns}
use Rattle.mb_frames.specs.contracts.nodes.Nodes.{the_row as Nr}
use Rattle.mb_frames.specs.contracts.node.Node.{the_row as R}
use Rattle.mb_frames.proofs.node.Node.TheLaws as node_laws
use Rattle.std.proofs.alloc.Global.TheLaws as global_laws
use denote.Memory.{lone}
use Rattle.mb_frames.proofs.Destruct++none.drop.Code.{code as gone-code}
use Rattle.mb_frames.specs.contracts.nodes.Nodes.adopt as f
use Rattle.mb_frames.proofs.Boxed.{E, no_drop, Element, element_laws, Heap, heap_laws}
use Rattle.mb_frames.proofs.Memory.{slot_at, Word, word_made, knows, fresh}
use Rattle.mb_frames.proofs.nodes.Nodes.adopt.Statement.{statement}
use Rattle.mb_frames.proofs.nodes.Nodes.adopt.Code as code

abbrev stayed : Stays f.ended.signature.params f.ended.kept
stayed = (stay_ref (0 ∷ []) tt (plain (λ _. Nr)), (stay_dropped (slot_at 1 f.ended.signature.params) f.ended.kept.1.0, tt))

pub adopt_spec : {M : Type 1} → statement M
unfolding Rattle.mb_frames.proofs.Destruct++none.drop.Code.code
adopt_spec {M} 𝓤 𝓛 𝓜 𝓡 wired =
    let H = 𝓛.H in let 𝓣 = tables 𝓤 H 𝓜 𝓡 𝓡.env in let c = f.clauses 𝓛 𝓜.mem 𝓡.returns in
    let G : RattleType = Heap in let T : RattleType = Element in let dd = no_drop G in let dx = no_drop T in
    let k = triple_of 𝓛 (callee.signature T G ghosts dict dd dx) (callee.spec T G ghosts dict dd dx 𝓛 𝓜.mem 𝓡.returns) in
    let gone = code.calls-mb_frames::Destruct++none::drop 𝓡.env wired in
    let known = met 𝓤 𝓛 𝓜 𝓡 (code.calls-std_alloc::boxed::Box::into_raw 𝓡.env wired) T G element_laws heap_laws ghosts dict dd dx
    (passed 𝓡.env (code.calls-std_heap::GlobalAllocator::allocate 𝓡.env wired) (code.calls-std_heap::GlobalAllocator::deallocate 𝓡.env wired) (code.calls-std_heap::GlobalAllocator::grow 𝓡.env wired) (code.calls-std_heap::GlobalAllocator::shrink 𝓡.env wired) M 𝓤 𝓛 𝓜 𝓡)
    (glues "mb_frames::Destruct++none::drop" 𝓡.env gone G heap_laws M 𝓤 𝓛 𝓜 𝓡)
    (glues "mb_frames::Destruct++none::drop" 𝓡.env gone T element_laws M 𝓤 𝓛 𝓜 𝓡) in
    proved_at 𝓛 f.ended stayed c 𝓜 𝓡
    (Goes-ref 𝓛 1 0 tt (plain (λ _. Nr)), (Goes-dropped 𝓛 1 (slot_at 1 f.ended.signature.params) f.ended.kept.1.0 (λ κs x f. refl), tt))
    f.Key.name code.function (code.unfolded 𝓤 H 𝓜 𝓡 wired) (λ z are.
    let κ = z.0.0.0 in let q = z.0.1.0 in let self : MutBor Nr.Denot = z.0.3.0 in let rb = self.ref_ptr.0 in let ro = self.ref_ptr.1 in let d = self.now in let v = z.0.3.1.0 in
    let Post : Val → SProp 𝓤 = (walk_of 𝓛 f.ended stayed c).post z in
    let Run : List Val → SProp 𝓤 = λ ws. WpFn 𝓤 H 𝓣.C 𝓣.Λ code.function ws Post in
    qed 𝓛 (((‵ (flft κ q) ⊛ ‵ ftrue) ⊛ ‵ (owns (MutRef (named 0) κ Nr ∷ box.B E ∷ []) z.0.3 z.0.4)) ∷ raw (emp 𝓤) ∷ []) ∵
    split ! $ move ! (1 ∷ []) $ fsplit ! $ fsplit3 ! $ feq_l ! (λ e0. move ! (2 ∷ []) $ fsplit ! $
    box_out E ! v z.0.4.1.0 (λ b o hv e e1 fa. box_in E ! v b o v.value e refl $
    -- [the box; nothing; obs; open; tokens; nothing]
    let w : Val = box.word E hv b o in let typed = box.box_typed E hv b o fa in
    suffices ! (Run (vptr rb ro ∷ w ∷ [])) (subst (λ (ws : List Val × List Val). ent 𝓤 (Run (vptr rb ro ∷ w ∷ [])) (Run (ws.0 ++ (ws.1 ++ [])))) (λ j. (sym e0 j, sym e1 j)) (id⊢ 𝓤 (Run (vptr rb ro ∷ w ∷ [])))) $
    enter ! 𝓣.C 𝓣.Λ code.function (vptr rb ro ∷ w ∷ []) Post $ alloc_all ! (λ l. pass_all ! refl ((tt, tt), (typed, tt)) $
    sets ! (of_opd ! (get ! refl)) refl typed $ lft_new ! tt (λ α. lft_new ! tt (λ β.
    let κs : Lfts 2 = (α ∷ [], (β ∷ [], tt)) in let qs : Shares 2 = (full_share, (full_share, tt)) in let toks = ‵ (flft (α ∷ []) full_share) ⊛ ‵ (flft (β ∷ []) full_share) ⊛ ‵ ftrue in
    let y : k.Ghost = ((κs, qs, tt, (v, tt), (w ∷ [], tt)), tt) in let called = callee.ended T G ghosts dict dd dx in
    let inT : Type 0 = (α ∷ []) ⊑ T.lives in let inG : Type 0 = (β ∷ []) ⊑ G.lives in
    nothing ! $ move ! (1 ∷ 0 ∷ []) $ join ! $ move ! (1 ∷ 0 ∷ []) $ join ! $ move ! (1 ∷ []) $ nothing ! $ move ! (1 ∷ 0 ∷ []) $ fjoin ! $ move ! (1 ∷ 0 ∷ []) $ join ! $
    nothing ! $ use0 𝓛 (raw (fact 𝓤 inG)) (fact_i 𝓤 inG (emp 𝓤) (global_laws.the_within (β ∷ []))) $ join ! $ use0 𝓛 (raw (fact 𝓤 inT)) (fact_i 𝓤 inT (emp 𝓤) (node_laws.the_within (α ∷ []))) $ join ! $
    move ! (1 ∷ 0 ∷ []) $ join ! $ use1 𝓛 (raw (k.pre y)) (id⊢ 𝓤 _) $
    calls_at ! (fm 𝓛 𝓜 𝓡) k known y (and_then ! (get ! refl) (no_more !)) (λ u.
    use1 𝓛 (later (some (λ (r : Ptr). (toks ⊛ ‵ (RawPtr.own_val r (u ∷ []))) ⊛ some (λ (ls : Lasts called κs y.0.3). ‵ (lasts called κs y.0.3 ls) ⊛ ‵ (cell_owns (cell v.alloc r v.value)))))) (id⊢ 𝓤 (k.post y u)) $
    await ! tt $ pick ! (λ r. split ! $ move ! (1 ∷ []) $ pick ! (λ ls. split ! $ drop ! $
    in_a_block ! r (λ p. cell_owns (cell v.alloc p v.value)) (fst∗ 𝓤 (never 𝓤) (sem 𝓛 (ghosts.dealloc_token v.alloc (bare (lone R.mir)) null_ptr))) (λ b' o' e'.
    let p : Ptr = block_ptr b' o' in let made : Nr.Denot = record { mark = d.mark; cells = cell v.alloc p v.value ∷ d.cells } in
    move ! (1 ∷ []) $ split ! $ move ! (1 ∷ []) $ feq_l ! (λ eu. drop ! $
    lands_as ! (ap only eu ∙ ap ptr_val e') refl (tt, tt) $ sets ! (agg ! (and_then ! (get ! refl) (no_more !))) refl (tt, (tt, tt)) $
    -- [the cell; nothing; obs; open; tokens]
    move ! (1 ∷ []) $ drop ! $ move ! (3 ∷ []) $ split ! $ move ! (3 ∷ 4 ∷ 0 ∷ []) $ opens ! tt Nr {h = d} rb ro (λ vs. move ! (1 ∷ []) $ fsplit ! $ move ! (7 ∷ []) $ fsplit ! $ move ! (0 ∷ 3 ∷ []) $
    knows ! (IsFresh p (places d.cells)) (fresh 𝓛 𝓜 p v.value d.cells) (λ new. move ! (0 ∷ 2 ∷ []) $ fjoin ! $ fjoin ! $ move ! (1 ∷ 0 ∷ []) $ fjoin ! $ move ! (1 ∷ []) $ closes ! tt Nr made vs rb ro $ returns ! (look_at ! 0 refl) $ free_all ! refl $
    feq_i ! (List Val) z.0.4.0 (mut_vals self) e0 $ fjoin3 ! $ nothing ! $ nothing ! $ fjoin ! $ move ! (1 ∷ 0 ∷ []) $ fjoin ! $ move ! (1 ∷ 2 ∷ []) $ join ! $
    use0 𝓛 (‵ (Word.own_val (p, tt) (word p ∷ []))) (word_made 𝓛 p) $
    use0 𝓛 (raw (fact 𝓤 (IsFresh p (places d.cells)))) (fact_i 𝓤 (IsFresh p (places d.cells)) (emp 𝓤) new) $ use0 𝓛 (raw (fact 𝓤 (made.cells ≡ made.cells))) (fact_i 𝓤 (made.cells ≡ made.cells) (emp 𝓤) refl) $ join ! $
    keep ! (2 ∷ 3 ∷ 1 ∷ 0 ∷ []) $ by ! (leaves 𝓛 f.ended stayed c z (word p) (record { ptr = p }) (made, (tt, tt)) (tt, (tt, tt))))))))))))))))
