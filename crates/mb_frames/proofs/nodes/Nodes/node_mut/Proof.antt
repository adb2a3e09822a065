-- `node_mut` lends one node, and the owner follows it. Assumes `Logic`.
use Rattle.std.proofs.Common.{◌≡◌, ℕ, List, [], ◌∷◌, ◌++◌, refl, sym, ◌∙◌, subst}
use Rattle.std.specs.Prelude.{IsTrue}
use seplogic.Ra.Ura.{Ura}
use mir.Raw.{raw as bare}
use mir.Syntax.{named}
use mir.Val.{Val, vptr}
use base.Logic.{SProp, ent, sep, emp, never, id⊢}
use base.Fml.{GName, Fml, ftrue, fsep, fat, flft}
use base.Fraction.{full_share}
use prog.Wp.{WpFn}
use types.Logic.{Logic, sem}
use types.Kit.{‵, raw, ◌⊛◌, some, later, await, pick, at_ret, ◌$◌, ◌∵◌, !, qed, by, move, keep, drop, use0, use1, use2, split, split3, join, group, rewrite, fsplit, fsplit3, fjoin, fpack, feq_l, suffices, done}
use types.Part.{whole, sub}
use types.Run.{stop, hop, fld, from, of_opd, addr, first, blocks, exec, returns, enter}
use types.ByLocal.{alloc_all, pass_all, free_all, look_at, look_in_at, get, sets, sets_last, take_at, give_at, env}
use contract.Monad.{fact, fact_i}
use contract.Running.{tables}
use denote.RattleType.{owns}
use denote.Memory.{mem, lone, cell_at, part_at, part_of}
use denote.Param.{layout}
use denote.RawPtr.{Ptr, block_ptr, lies_at, in_a_block}
use denote.Ref.{MutBor, MutRef}
use denote.Follow.{follows, Part, lends_Part}
use denote.Steps.{nothing, heard, opens}
use denote.Triple.Walked.{Stays, stay_dropped, walk_of, Goes-dropped, Goes-spent_ref}
use denote.Signature.{plain}
use Rattle.std.proofs.raw_atomic.Walks.{proved_at, leaves}
use Rattle.std_alloc.proofs.VecSteps.Shapes.{after}
use Rattle.std_alloc.proofs.RcSteps.{word, word-Good}
use Rattle.std.specs.contracts.impls.GlobalAllocator.TheImpl.{ghosts}
use Rattle.mb_frames.specs.Cells.{Cell, cell, is_at, node_at}
use Rattle.mb_frames.specs.Ownership.{cell_owns, cells_own}
use Rattle.mb_frames.specs.Lends.{with_node}
use Rattle.mb_frames.specs.declared.node.Node.{Node}
use Rattle.mb_frames.specs.contracts.nodes.Nodes.{the_row as Nr}
use Rattle.mb_frames.specs.contracts.node.Node.{the_row as R}
use Rattle.mb_frames.specs.contracts.node.NodePtr.{the_row as Np}
use Rattle.mb_frames.specs.contracts.nodes.Nodes.node_mut as f
use Rattle.mb_frames.proofs.Mark.{Mark}
use Rattle.mb_frames.proofs.Pointers.{Found, found}
use Rattle.mb_frames.proofs.Memory.{slot_at, word_had, cells_cut, cells_glue}
use Rattle.mb_frames.proofs.nodes.Nodes.node_mut.Statement.{statement}
use Rattle.mb_frames.proofs.nodes.Nodes.node_mut.Code as code

abbrev stayed : Stays f.ended.signature.params f.ended.kept
stayed = (stay_dropped (slot_at 0 f.ended.signature.params) f.ended.kept.0, (stay_dropped (slot_at 1 f.ended.signature.params) f.ended.kept.1.0, tt))

module _ {M : Type 1} {𝓤 : Ura M} (𝓛 : Logic 𝓤) (rb ro : ℕ) (d : Nr.Denot) (p : Ptr) (n : Found p d.cells) (vs : List Val) (b o : ℕ) where
  -- all but the node
  abbrev Rest : Fml
  Rest = fsep (ghosts.dealloc_token n.here.alloc (bare (lone R.mir)) n.here.at) (fsep (cells_own (n.before ++ n.after)) (fsep (Mark.own_val (tt, tt) vs) (cell_at full_share Nr.mir vs rb ro)))

  back : n.here.at ≡ block_ptr b o → (w : Node) → ent 𝓤 (sep 𝓤 (sem 𝓛 ((mem R).own_at w b o)) (sem 𝓛 Rest)) (sem 𝓛 ((mem Nr).own_at (with_node d p w) rb ro))
  unfolding part_of
  back e w =
      let m : Cell = cell n.here.alloc n.here.at w in
      qed 𝓛 (‵ (part_at R full_share w b o) ∷ ‵ Rest ∷ []) ∵ rewrite ! 0 (λ (r : Ptr). ‵ (lies_at R full_share r w)) (sym e) refl $
      move ! (1 ∷ []) $ fsplit3 ! $ move ! (2 ∷ []) $ fsplit ! $ move ! (4 ∷ 2 ∷ []) $ fjoin ! $ move ! (0 ∷ 3 ∷ []) $
      use2 𝓛 (‵ (cells_own (n.before ++ m ∷ n.after))) (cells_glue 𝓛 n.before m n.after) $ rewrite ! 0 (λ (cs : List Cell). ‵ (cells_own cs)) (sym (n.put w)) refl $
      move ! (1 ∷ 0 ∷ []) $ fjoin ! $ move ! (1 ∷ 0 ∷ []) $ fjoin ! $
      fpack ! (List Val) (λ us. fsep (cell_at full_share Nr.mir us rb ro) (Nr.own_val (with_node d p w) us)) vs $ done !

pub node_mut_spec : {M : Type 1} → statement M
node_mut_spec 𝓤 𝓛 𝓜 𝓡 wired =
    let H = 𝓛.H in let 𝓣 = tables 𝓤 H 𝓜 𝓡 𝓡.env in let c = f.clauses 𝓛 𝓜.mem 𝓡.returns in
    proved_at 𝓛 f.ended stayed c 𝓜 𝓡
    (Goes-spent_ref 𝓛 1 (0 ∷ []) tt (plain (λ _. Nr)), (Goes-dropped 𝓛 1 (slot_at 1 f.ended.signature.params) f.ended.kept.1.0 (λ κs x f. refl), tt))
    f.Key.name code.function (code.unfolded 𝓤 H 𝓜 𝓡 wired) (λ z are.
    let κ = z.0.0.0 in let q = z.0.1.0 in let self : MutBor Nr.Denot = z.0.3.0 in let b = self.ref_ptr.0 in let o = self.ref_ptr.1 in let γ = self.ghost_name in let d = self.now in let cs = d.cells in let p : Ptr = z.0.3.1.0.ptr in
    let Post : Val → SProp 𝓤 = (walk_of 𝓛 f.ended stayed c).post z in
    let Run : List Val → SProp 𝓤 = λ ws. WpFn 𝓤 H 𝓣.C 𝓣.Λ code.function ws Post in
    let code' = Nr.coded.code d in
    qed 𝓛 (((‵ (flft κ q) ⊛ ‵ ftrue) ⊛ ‵ (owns (MutRef (named 0) κ Nr ∷ Np ∷ []) z.0.3 z.0.4)) ∷ raw (fact 𝓤 (IsTrue (is_at p cs))) ∷ []) ∵
    move ! (1 ∷ []) $ heard ! (IsTrue (is_at p cs)) (λ asked.
    let n = found p cs asked in
    split ! $ move ! (1 ∷ []) $ fsplit ! $ fsplit3 ! $ feq_l ! (λ e0. move ! (2 ∷ []) $ fsplit ! $ word_had ! p z.0.4.1.0 (λ e1. drop ! $
    -- [obs; open; tokens]
    suffices ! (Run (vptr b o ∷ word p ∷ [])) (subst (λ (ws : List Val × List Val). ent 𝓤 (Run (vptr b o ∷ word p ∷ [])) (Run (ws.0 ++ (ws.1 ++ [])))) (λ j. (sym e0 j, sym e1 j)) (id⊢ 𝓤 (Run (vptr b o ∷ word p ∷ [])))) $
    move ! (2 ∷ []) $ split ! $ move ! (2 ∷ 3 ∷ 0 ∷ []) $
    enter ! 𝓣.C 𝓣.Λ code.function (vptr b o ∷ word p ∷ []) Post $ alloc_all ! (λ l. pass_all ! refl ((tt, tt), (word-Good [] p, tt)) $
    let En = env (code.function).locals l in
    opens ! tt Nr {h = d} b o (λ vs. move ! (1 ∷ []) $ fsplit ! $ move ! (1 ∷ []) $
    rewrite ! 0 (λ (l : List Cell). ‵ (cells_own l)) n.cut refl $
    use1 𝓛 (‵ (cell_owns n.here) ⊛ ‵ (cells_own (n.before ++ n.after))) (cells_cut 𝓛 n.before n.here n.after) $ split ! $ fsplit ! $
    in_a_block ! n.here.at (λ r. lies_at R full_share r n.here.node) (id⊢ 𝓤 (never 𝓤)) (λ pb po e.
    let ep : p ≡ block_ptr pb po = sym n.place ∙ e in
    let way = back 𝓛 b o d p n vs pb po e in
    -- [the node; its block; the others; the mark; the owner's cell; the open borrow, in three entries]
    take_at ! 2 $ rewrite ! 0 (λ (r : Ptr). ‵ (fat full_share (layout Np) (l 2) 0 (word r))) ep refl $ give_at ! 2 $
    first ! $ blocks ! $ sets_last ! (addr ! (from ! (fld ! refl (hop ! (look_in_at ! 2 (sub ! 0 refl (whole !))) (stop !))))) refl (tt, tt) $
    exec ! 𝓣.C 𝓣.Λ En (after 1 (code.function).body) (at_ret En Post) $ sets ! (of_opd ! (get ! refl)) refl (tt, tt) $
    move ! (3 ∷ 4 ∷ []) $ fjoin ! $ move ! (3 ∷ 0 ∷ []) $ fjoin ! $ move ! (2 ∷ 0 ∷ []) $ fjoin ! $ move ! (2 ∷ 3 ∷ 4 ∷ 1 ∷ 0 ∷ []) $ group ! 5 $
    use1 𝓛 (later (some (λ (δ : GName). raw (Part 𝓛 Nr R (with_node d p) (named 0) κ q b o pb po γ (sem 𝓛 (Rest 𝓛 b o d p n vs pb po)) way n.here.node δ))))
    (lends_Part 𝓛 Nr R (with_node d p) (named 0) κ q b o pb po γ (sem 𝓛 (Rest 𝓛 b o d p n vs pb po)) way code' code' n.here.node) $ await ! tt $ pick ! (λ δ.
    returns ! (look_at ! 0 refl) $ free_all ! refl $
    let r : MutBor R.Denot = record { ref_ptr = (pb, po); ghost_name = δ; now = n.here.node } in let v : Val = vptr pb po in
    use1 𝓛 (‵ ((MutRef (named 0) κ R).own_val r (v ∷ [])) ⊛ ‵ (flft κ q) ⊛ ‵ (follows Nr R γ δ (with_node d p))) (id⊢ 𝓤 _) $ split3 ! $ keep ! (0 ∷ 1 ∷ 2 ∷ []) $
    use0 𝓛 (raw (fact 𝓤 (n.here.node ≡ node_at p cs n.here.node))) (fact_i 𝓤 (n.here.node ≡ node_at p cs n.here.node) (emp 𝓤) (sym (n.got n.here.node))) $
    move ! (3 ∷ 0 ∷ []) $ join ! $ nothing ! $ move ! (3 ∷ 0 ∷ []) $ join ! $ nothing ! $ nothing ! $ fjoin ! $ nothing ! $ fjoin ! $ move ! (1 ∷ 0 ∷ 3 ∷ 2 ∷ []) $
    by ! (leaves 𝓛 f.ended stayed c z v r (tt, (tt, tt)) (tt, (tt, tt)))))))))))
