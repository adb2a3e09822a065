-- `give_back` hands the first node to a box. Assumes `Logic`.
use Rattle.std.proofs.Common.{◌≡◌, List, [], ◌∷◌, ◌++◌, refl, sym, ap, ◌∙◌, subst}
use mir.Raw.{raw as bare}
use mir.Syntax.{named}
use mir.Val.{Val, vptr}
use base.Logic.{SProp, ent, emp, never, id⊢, fst∗}
use base.Fml.{ftrue, fat, flft}
use base.Fraction.{full_share}
use prog.Wp.{WpFn}
use types.Logic.{sem}
use types.Tokens.{lft_new}
use types.Kit.{at_ret, ‵, raw, ◌⊛◌, some, later, await, pick, ◌$◌, ◌∵◌, !, qed, by, move, keep, drop, use0, use1, split, split3, join, rewrite, fsplit, fsplit3, fjoin, fjoin3, feq_i, feq_l, suffices}
use types.Part.{sub, whole}
use types.Run.{stop, fld, of_opd, and_then, no_more, first, blocks, exec, returns, enter}
use types.ByLocal.{alloc_all, pass_all, free_all, look_at, get, get_in, sets, lands_last, take_at, give_at, env}
use contract.BorrowLft.{◌⊑◌}
use contract.Lifetimes.{Lfts, Shares}
use contract.Monad.{fact, fact_i}
use contract.Running.{tables}
use denote.RattleType.{RattleType, owns}
use denote.Param.NoDrop.{glues}
use denote.RawPtr.{Ptr, block_ptr, null_ptr, in_a_block}
use denote.Ref.{MutBor, MutRef, mut_vals}
use denote.Signature.{plain}
use denote.Steps.{nothing, only, heard, opens, closes}
use denote.Triple.Call.{calls_at_last}
use denote.Triple.Clauses.{Lasts, lasts}
use denote.Triple.Spec.{triple_of}
use denote.Triple.Walked.{Stays, stay_dropped, stay_ref, walk_of, Goes-dropped, Goes-ref}
use Rattle.core.proofs.atomic.Steps.{fm}
use Rattle.std.proofs.raw_atomic.Walks.{proved_at, leaves}
use Rattle.std.proofs.impls.GlobalAllocator.TheImpl.Met.{passed}
use Rattle.std.specs.contracts.impls.GlobalAllocator.TheImpl.{ghosts, dict}
use Rattle.std_alloc.proofs.BoxSteps.Form as box
use Rattle.std_alloc.proofs.BoxSteps.Steps.{box_out, box_in}
use Rattle.std_alloc.proofs.RcSteps.{word, word-Good}
use Rattle.std_alloc.specs.contracts.boxed.Box.from_raw as callee
use Rattle.std_alloc.proofs.boxed.Box.from_raw.Met.{met}
use Rattle.mb_frames.specs.Cells.{Cell, cell, places}
use Rattle.mb_frames.specs.Ownership.{cell_owns, cells_own}
use Rattle.mb_frames.specs.contracts.nodes.Nodes.{the_row as Nr}
use Rattle.mb_frames.specs.contracts.node.Node.{the_row as R}
use Rattle.mb_frames.specs.contracts.node.NodePtr.{the_row as Np}
use Rattle.mb_frames.proofs.node.Node.TheLaws as node_laws
use Rattle.std.proofs.alloc.Global.TheLaws as global_laws
use denote.Memory.{lone}
use Rattle.mb_frames.proofs.Destruct++none.drop.Code.{code as gone-code}
use Rattle.mb_frames.specs.contracts.nodes.Nodes.give_back as f
use Rattle.mb_frames.proofs.Boxed.{E, no_drop, Element, element_laws, Heap, heap_laws}
use Rattle.mb_frames.proofs.Memory.{slot_at, word_had}
use Rattle.mb_frames.proofs.nodes.Nodes.give_back.Statement.{statement}
use Rattle.mb_frames.proofs.nodes.Nodes.give_back.Code as code
use denote.Param.{layout}
use Rattle.std.specs.Prelude.{slice_get, drop as drop_list, Some}
use Rattle.core.proofs.cell.Inside.{Good}
use Rattle.core.proofs.alloc.Calls.{handle_tells}
use Rattle.std_alloc.proofs.VecSteps.Shapes.{after}
use Rattle.mb_frames.proofs.Pointers.{first_cell}

abbrev stayed : Stays f.ended.signature.params f.ended.kept
stayed = (stay_ref (0 ∷ []) tt (plain (λ _. Nr)), (stay_dropped (slot_at 1 f.ended.signature.params) f.ended.kept.1.0, (stay_dropped (slot_at 2 f.ended.signature.params) f.ended.kept.1.1.0, tt)))

pub give_back_spec : {M : Type 1} → statement M
unfolding Rattle.mb_frames.proofs.Destruct++none.drop.Code.code
give_back_spec {M} 𝓤 𝓛 𝓜 𝓡 wired =
    let H = 𝓛.H in let 𝓣 = tables 𝓤 H 𝓜 𝓡 𝓡.env in let c = f.clauses 𝓛 𝓜.mem 𝓡.returns in
    let G : RattleType = Heap in let T : RattleType = Element in let dd = no_drop G in let B = box.B E in
    let k = triple_of 𝓛 (callee.signature T G ghosts dict dd) (callee.spec T G ghosts dict dd 𝓛 𝓜.mem 𝓡.returns) in
    let gone = code.calls-mb_frames::Destruct++none::drop 𝓡.env wired in
    let known = met 𝓤 𝓛 𝓜 𝓡 (code.calls-std_alloc::boxed::Box::from_raw 𝓡.env wired) T G element_laws heap_laws ghosts dict dd
    (passed 𝓡.env (code.calls-std_heap::GlobalAllocator::allocate 𝓡.env wired) (code.calls-std_heap::GlobalAllocator::deallocate 𝓡.env wired) (code.calls-std_heap::GlobalAllocator::grow 𝓡.env wired) (code.calls-std_heap::GlobalAllocator::shrink 𝓡.env wired) M 𝓤 𝓛 𝓜 𝓡)
    (glues "mb_frames::Destruct++none::drop" 𝓡.env gone G heap_laws M 𝓤 𝓛 𝓜 𝓡) in
    proved_at 𝓛 f.ended stayed c 𝓜 𝓡
    (Goes-ref 𝓛 1 0 tt (plain (λ _. Nr)), (Goes-dropped 𝓛 1 (slot_at 1 f.ended.signature.params) f.ended.kept.1.0 (λ κs x f. refl), (Goes-dropped 𝓛 1 (slot_at 2 f.ended.signature.params) f.ended.kept.1.1.0 (λ κs x f. refl), tt)))
    f.Key.name code.function (code.unfolded 𝓤 H 𝓜 𝓡 wired) (λ z are.
    let κ = z.0.0.0 in let q = z.0.1.0 in let self : MutBor Nr.Denot = z.0.3.0 in let rb = self.ref_ptr.0 in let ro = self.ref_ptr.1 in let d = self.now in let cs = d.cells in let a = z.0.3.1.0 in let p : Ptr = z.0.3.1.1.0.ptr in
    let Post : Val → SProp 𝓤 = (walk_of 𝓛 f.ended stayed c).post z in
    let Run : List Val → SProp 𝓤 = λ ws. WpFn 𝓤 H 𝓣.C 𝓣.Λ code.function ws Post in
    qed 𝓛 (((‵ (flft κ q) ⊛ ‵ ftrue) ⊛ ‵ (owns (MutRef (named 0) κ Nr ∷ G ∷ Np ∷ []) z.0.3 z.0.4)) ∷ raw (fact 𝓤 (slice_get (places cs) 0 ≡ Some p)) ∷ []) ∵
    move ! (1 ∷ []) $ heard ! (slice_get (places cs) 0 ≡ Some p) (λ asked.
    let n = first_cell p cs asked in let made : Nr.Denot = record { mark = d.mark; cells = n.rest } in let x = n.here.node in
    split ! $ move ! (1 ∷ []) $ fsplit ! $ fsplit3 ! $ feq_l ! (λ e0. move ! (2 ∷ []) $ fsplit ! $ handle_tells E.al ! a z.0.4.1.0 (λ hv e1 fa. move ! (1 ∷ []) $ fsplit ! $ word_had ! p z.0.4.1.1.0 (λ e2. drop ! $
    -- [the handle; obs; open; tokens]
    suffices ! (Run (vptr rb ro ∷ hv ∷ word p ∷ [])) (subst (λ (ws : List Val × List Val × List Val). ent 𝓤 (Run (vptr rb ro ∷ hv ∷ word p ∷ [])) (Run (ws.0 ++ (ws.1 ++ (ws.2 ++ []))))) (λ j. (sym e0 j, sym e1 j, sym e2 j)) (id⊢ 𝓤 (Run (vptr rb ro ∷ hv ∷ word p ∷ [])))) $
    enter ! 𝓣.C 𝓣.Λ code.function (vptr rb ro ∷ hv ∷ word p ∷ []) Post $ alloc_all ! (λ l. pass_all ! refl ((tt, tt), (fa, (word-Good [] p, tt))) $
    let En = env (code.function).locals l in
    move ! (3 ∷ []) $ split ! $ move ! (3 ∷ 4 ∷ 0 ∷ []) $ opens ! tt Nr {h = d} rb ro (λ vs. move ! (1 ∷ []) $ fsplit ! $ move ! (1 ∷ []) $
    rewrite ! 0 (λ (l : List Cell). ‵ (cells_own l)) n.cut refl $ fsplit ! $ move ! (2 ∷ 1 ∷ []) $ fjoin ! $ move ! (2 ∷ 0 ∷ 3 ∷ 4 ∷ 5 ∷ []) $ closes ! tt Nr made vs rb ro $
    -- [obs; open; the token; the cell; nothing; the handle]
    move ! (3 ∷ []) $ in_a_block ! n.here.at (λ r. cell_owns (cell n.here.alloc r x)) (fst∗ 𝓤 (never 𝓤) (sem 𝓛 (ghosts.dealloc_token n.here.alloc (bare (lone R.mir)) null_ptr))) (λ pb po e.
    let ep : p ≡ block_ptr pb po = sym n.place ∙ e in
    take_at ! 3 $ rewrite ! 0 (λ (r : Ptr). ‵ (fat full_share (layout Np) (l 3) 0 (word r))) ep refl $ give_at ! 3 $
    lft_new ! tt (λ α. lft_new ! tt (λ β.
    let κs : Lfts 2 = (α ∷ [], (β ∷ [], tt)) in let qs : Shares 2 = (full_share, (full_share, tt)) in let toks = ‵ (flft (α ∷ []) full_share) ⊛ ‵ (flft (β ∷ []) full_share) ⊛ ‵ ftrue in
    let y : k.Ghost = ((κs, qs, tt, (a, (block_ptr pb po, tt)), (hv ∷ [], (vptr pb po ∷ [], tt))), x) in let called = callee.ended T G ghosts dict dd in
    let inT : Type 0 = (α ∷ []) ⊑ T.lives in let inG : Type 0 = (β ∷ []) ⊑ G.lives in
    nothing ! $ move ! (1 ∷ 0 ∷ []) $ join ! $ move ! (1 ∷ 0 ∷ []) $ join ! $ move ! (1 ∷ []) $
    use0 𝓛 (raw (fact 𝓤 inG)) (fact_i 𝓤 inG (emp 𝓤) (global_laws.the_within (β ∷ []))) $ join ! $ use0 𝓛 (raw (fact 𝓤 inT)) (fact_i 𝓤 inT (emp 𝓤) (node_laws.the_within (α ∷ []))) $ join ! $
    move ! (5 ∷ []) $ feq_i ! (List Val) (vptr pb po ∷ []) (vptr pb po ∷ []) refl $ fjoin ! $ move ! (6 ∷ 0 ∷ []) $ fjoin ! $ move ! (2 ∷ 0 ∷ []) $ join ! $ join ! $ use1 𝓛 (raw (k.pre y)) (id⊢ 𝓤 _) $
    first ! $ blocks ! $ calls_at_last ! (fm 𝓛 𝓜 𝓡) k known y (and_then ! (get ! refl) (and_then ! (get_in ! (fld ! refl (stop !)) (sub ! 0 refl (whole !))) (no_more !))) (λ u.
    use1 𝓛 (later (some (λ (r : B.Denot). (toks ⊛ ‵ (B.own_val r (u ∷ []))) ⊛ some (λ (ls : Lasts called κs y.0.3). ‵ (lasts called κs y.0.3 ls) ⊛ (raw (fact 𝓤 (r.value ≡ x)) ⊛ raw (fact 𝓤 (r.alloc ≡ a))))))) (id⊢ 𝓤 (k.post y u)) $
    await ! tt $ pick ! (λ r. split ! $ move ! (1 ∷ []) $ pick ! (λ ls. split3 ! $ drop ! $ drop ! $ drop ! $ split ! $ drop ! $
    box_out E ! r (u ∷ []) (λ b' o' h' e' us fits. box_in E ! r b' o' r.value e' refl $ rewrite ! 0 (λ (xs : List Val). ‵ (B.own_val r xs)) (sym us) refl $
    let good : Good (layout B) u = subst (Good (layout B)) (sym (ap only us)) (box.box_typed E h' b' o' fits) in let left : Type 0 = places n.rest ≡ drop_list 1 (places cs) in
    lands_last ! refl good $ exec ! 𝓣.C 𝓣.Λ En (after 1 (code.function).body) (at_ret En Post) $ sets ! (of_opd ! (get ! refl)) refl good $
    returns ! (look_at ! 0 refl) $ free_all ! refl $ move ! (1 ∷ 2 ∷ []) $ feq_i ! (List Val) z.0.4.0 (mut_vals self) e0 $ fjoin3 ! $
    nothing ! $ nothing ! $ fjoin ! $ nothing ! $ fjoin ! $ move ! (1 ∷ 0 ∷ []) $ fjoin ! $ nothing ! $ move ! (3 ∷ 0 ∷ []) $ join ! $
    use0 𝓛 (raw (fact 𝓤 left)) (fact_i 𝓤 left (emp 𝓤) n.left) $ keep ! (1 ∷ 2 ∷ 3 ∷ 0 ∷ []) $ by ! (leaves 𝓛 f.ended stayed c z u r (made, (tt, (tt, tt))) (tt, (tt, (tt, tt))))))))))))))))))
