-- `node` shows a node that the owner lends. Assumes `Logic`.
use Rattle.std.proofs.Common.{◌≡◌, List, [], ◌∷◌, ◌++◌, refl, sym, ◌∙◌, subst}
use Rattle.std.specs.Prelude.{IsTrue}
use mir.Syntax.{named}
use mir.Val.{Val, vptr}
use base.Logic.{SProp, ent, emp, id⊢}
use base.Fml.{ftrue, fat, flft}
use base.Fraction.{full_share}
use prog.Wp.{WpFn}
use types.Kit.{‵, raw, ◌⊛◌, at_ret, ◌$◌, ◌∵◌, !, qed, by, move, keep, drop, use0, use1, split, rewrite, fsplit, fjoin, feq_i, feq_l, suffices, done}
use types.Part.{whole, sub}
use types.Run.{stop, hop, fld, from, of_opd, addr, first, blocks, exec, returns, enter}
use types.ByLocal.{alloc_all, pass_all, free_all, look_at, look_in_at, get, sets, sets_last, take_at, give_at, env}
use contract.Monad.{fact, fact_i}
use contract.Running.{tables}
use denote.RattleType.{owns}
use denote.Param.{layout}
use denote.RawPtr.{Ptr, block_ptr, null_ptr, in_a_block}
use denote.Ref.{Bor, ShrRef}
use denote.Opens.{hide, unhide}
use denote.Steps.{nothing, heard}
use denote.Struct.Lending.{lent_at}
use denote.Triple.Walked.{Stays, stay_dropped, walk_of, Goes-dropped}
use Rattle.std.proofs.raw_atomic.Walks.{proved_at, leaves}
use Rattle.std_alloc.proofs.VecSteps.Shapes.{after}
use Rattle.std_alloc.proofs.RcSteps.{word, word-Good}
use Rattle.mb_frames.specs.Cells.{is_at, node_at}
use Rattle.mb_frames.specs.Ownership.{cells_lent}
use Rattle.mb_frames.specs.contracts.nodes.Nodes.{the_row as Nr}
use Rattle.mb_frames.specs.contracts.node.Node.{the_row as R}
use Rattle.mb_frames.specs.contracts.node.NodePtr.{the_row as Np}
use Rattle.mb_frames.specs.contracts.nodes.Nodes.node as f
use Rattle.mb_frames.proofs.Pointers.{found}
use Rattle.mb_frames.proofs.Memory.{slot_at, word_had, cell_seen}
use Rattle.mb_frames.proofs.nodes.Nodes.node.Statement.{statement}
use Rattle.mb_frames.proofs.nodes.Nodes.node.Code as code

abbrev stayed : Stays f.ended.signature.params f.ended.kept
stayed = (stay_dropped (slot_at 0 f.ended.signature.params) f.ended.kept.0, (stay_dropped (slot_at 1 f.ended.signature.params) f.ended.kept.1.0, tt))

pub node_spec : {M : Type 1} → statement M
node_spec 𝓤 𝓛 𝓜 𝓡 wired =
    let H = 𝓛.H in let 𝓣 = tables 𝓤 H 𝓜 𝓡 𝓡.env in let c = f.clauses 𝓛 𝓜.mem 𝓡.returns in
    proved_at 𝓛 f.ended stayed c 𝓜 𝓡
    (Goes-dropped 𝓛 1 (slot_at 0 f.ended.signature.params) f.ended.kept.0 (λ κs x f. refl), (Goes-dropped 𝓛 1 (slot_at 1 f.ended.signature.params) f.ended.kept.1.0 (λ κs x f. refl), tt))
    f.Key.name code.function (code.unfolded 𝓤 H 𝓜 𝓡 wired) (λ z are.
    let κ = z.0.0.0 in let q = z.0.1.0 in let self : Bor Nr.Denot = z.0.3.0 in let b = self.ref_ptr.0 in let o = self.ref_ptr.1 in let cs = self.now.cells in let p : Ptr = z.0.3.1.0.ptr in
    let Post : Val → SProp 𝓤 = (walk_of 𝓛 f.ended stayed c).post z in
    let Run : List Val → SProp 𝓤 = λ ws. WpFn 𝓤 H 𝓣.C 𝓣.Λ code.function ws Post in
    qed 𝓛 (((‵ (flft κ q) ⊛ ‵ ftrue) ⊛ ‵ (owns (ShrRef (named 0) κ Nr ∷ Np ∷ []) z.0.3 z.0.4)) ∷ raw (fact 𝓤 (IsTrue (is_at p cs))) ∷ []) ∵
    move ! (1 ∷ []) $ heard ! (IsTrue (is_at p cs)) (λ asked.
    let n = found p cs asked in
    split ! $ move ! (1 ∷ []) $ fsplit ! $ fsplit ! $ feq_l ! (λ e0. move ! (1 ∷ []) $ fsplit ! $ word_had ! p z.0.4.1.0 (λ e1. drop ! $
    suffices ! (Run (vptr b o ∷ word p ∷ [])) (subst (λ (ws : List Val × List Val). ent 𝓤 (Run (vptr b o ∷ word p ∷ [])) (Run (ws.0 ++ (ws.1 ++ [])))) (λ j. (sym e0 j, sym e1 j)) (id⊢ 𝓤 (Run (vptr b o ∷ word p ∷ [])))) $
    enter ! 𝓣.C 𝓣.Λ code.function (vptr b o ∷ word p ∷ []) Post $ alloc_all ! (λ l. pass_all ! refl ((tt, tt), (word-Good [] p, tt)) $
    let En = env (code.function).locals l in
    unhide ! $ fsplit ! $ drop ! $ rewrite ! 0 (λ l. ‵ (cells_lent l κ)) n.cut refl $
    use1 𝓛 (‵ (lent_at R n.here.at n.here.node κ)) (cell_seen 𝓛 κ n.before n.here n.after) $
    in_a_block ! n.here.at (λ r. lent_at R r n.here.node κ) (qed 𝓛 (‵ (lent_at R null_ptr n.here.node κ) ∷ []) ∵ fsplit ! $ keep ! (0 ∷ []) $ done !) (λ pb po e.
    let ep : p ≡ block_ptr pb po = sym n.place ∙ e in
    let out : Bor R.Denot = record { ref_ptr = (pb, po); now = n.here.node } in let v : Val = vptr pb po in
    take_at ! 2 $ rewrite ! 0 (λ (r : Ptr). ‵ (fat full_share (layout Np) (l 2) 0 (word r))) ep refl $ give_at ! 2 $
    first ! $ blocks ! $ sets_last ! (addr ! (from ! (fld ! refl (hop ! (look_in_at ! 2 (sub ! 0 refl (whole !))) (stop !))))) refl (tt, tt) $
    exec ! 𝓣.C 𝓣.Λ En (after 1 (code.function).body) (at_ret En Post) $ sets ! (of_opd ! (get ! refl)) refl (tt, tt) $
    fsplit ! $ drop ! $ hide ! $ feq_i ! (List Val) (v ∷ []) (v ∷ []) refl $ fjoin ! $
    returns ! (look_at ! 0 refl) $ free_all ! refl $
    use0 𝓛 (raw (fact 𝓤 (n.here.node ≡ node_at p cs n.here.node))) (fact_i 𝓤 (n.here.node ≡ node_at p cs n.here.node) (emp 𝓤) (sym (n.got n.here.node))) $
    nothing ! $ nothing ! $ fjoin ! $ nothing ! $ fjoin ! $ move ! (3 ∷ 0 ∷ 2 ∷ 1 ∷ []) $
    by ! (leaves 𝓛 f.ended stayed c z v out (tt, (tt, tt)) (tt, (tt, tt)))))))))
