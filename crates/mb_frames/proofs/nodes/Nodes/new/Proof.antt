-- `new` owns no node. Assumes `Logic`.
use Rattle.std.proofs.Common.{◌≡◌, [], ◌∷◌, refl}
use mir.Val.{Val}
use base.Logic.{SProp, emp}
use types.Kit.{‵, raw, ◌$◌, ◌∵◌, !, qed, by, move, drop, use0, fjoin}
use types.Part.{agg}
use types.Run.{and_then, no_more, returns, enter}
use types.ByLocal.{alloc_all, pass_all, free_all, look_at, get, sets}
use contract.Monad.{fact, fact_i}
use contract.Running.{tables}
use denote.Steps.{nothing}
use denote.Triple.Entry.{on_entry}
use denote.Triple.Walked.{walk_of}
use Rattle.std.proofs.raw_atomic.Walks.{proved_at, leaves}
use Rattle.mb_frames.specs.contracts.nodes.Nodes.{the_row}
use Rattle.mb_frames.specs.contracts.nodes.Nodes.new as f
use Rattle.mb_frames.proofs.nodes.Nodes.new.Statement.{statement}
use Rattle.mb_frames.proofs.nodes.Nodes.new.Code as code
use Rattle.mb_frames.proofs.Mark.{Mark, mark, mark_made}

pub new_spec : {M : Type 1} → statement M
new_spec 𝓤 𝓛 𝓜 𝓡 wired =
    let H = 𝓛.H in let 𝓣 = tables 𝓤 H 𝓜 𝓡 𝓡.env in let c = f.clauses 𝓛 𝓜.mem 𝓡.returns in
    proved_at 𝓛 f.ended tt c 𝓜 𝓡 tt f.Key.name code.function (code.unfolded 𝓤 H 𝓜 𝓡 wired) (λ z are.
    let Post : Val → SProp 𝓤 = (walk_of 𝓛 f.ended tt c).post z in
    let made : the_row.Denot = record { mark = record {}; cells = [] } in
    qed 𝓛 (raw (on_entry 𝓛 f.signature tt tt tt tt) ∷ raw (emp 𝓤) ∷ []) ∵
    enter ! 𝓣.C 𝓣.Λ code.function [] Post $ alloc_all ! (λ l. pass_all ! refl tt $
    sets ! (agg ! (no_more !)) refl (tt, tt) $ sets ! (agg ! (and_then ! (get ! refl) (no_more !))) refl (tt, (tt, tt)) $
    returns ! (look_at ! 0 refl) $ free_all ! refl $ drop ! $ drop ! $
    use0 𝓛 (raw (fact 𝓤 (made.cells ≡ []))) (fact_i 𝓤 (made.cells ≡ []) (emp 𝓤) refl) $ nothing ! $ use0 𝓛 (‵ (Mark.own_val (tt, tt) (mark ∷ []))) (mark_made 𝓛) $ fjoin ! $ nothing ! $ nothing ! $
    move ! (1 ∷ 0 ∷ 2 ∷ 3 ∷ []) $ by ! (leaves 𝓛 f.ended tt c z mark made tt tt)))
