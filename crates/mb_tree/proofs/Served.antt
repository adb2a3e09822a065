-- What a call that is served did.
use Rattle.std.proofs.Common.{◌≡◌, ℕ, Option, Ok, Err, refl, sym, ap, subst, ◌∙◌}
use Rattle.std.specs.Prelude.{slice_get}
use Rattle.mb_kinds.specs.declared.calls.Call.{Call}
use Rattle.mb_kinds.specs.declared.errors.Errno.{Errno}
use Rattle.mb_kinds.specs.declared.errors.Errno.TheVariants.{EINVAL}
use Rattle.mb_kinds.specs.declared.replies.Reply.{Reply}
use Rattle.mb_kinds.specs.declared.replies.Reply.TheVariants.{Refused}
use Rattle.mb_tree.specs.Answers.{Answer, some}
use Rattle.mb_tree.specs.Sessions.{counts, with_change}
use Rattle.mb_tree.specs.Rows.{plan}
use Rattle.mb_tree.specs.Step.{effect_of, serve, or_refused}
use Rattle.mb_tree.specs.Laws.{RefusedStays, ServedByEffect}
use Rattle.mb_tree.specs.declared.machines.Machine.{Machine}
use Rattle.mb_tree.specs.declared.plans.CallPlan.{CallPlan}
use Rattle.mb_tree.proofs.Always.{bind_ok, same_ok}
use Rattle.mb_tree.specs.Plans.{IsServedReply}
use Rattle.mb_tree.proofs.Rows.{plain_row}

pub served : ServedByEffect
served machine caller call moment pick reply next h =
    let one = bind_ok (plan machine caller call moment pick) _ (reply, next) h in
    let two = bind_ok (effect_of machine.tree (counts machine.seats) one.0.op pick) _ (reply, next) one.2 in
    let last : ◌≡◌ {A = Reply × Machine} (one.0.reply, record { tree = two.0.tree; seats = with_change machine.seats caller one.0.session }) (reply, next) = same_ok _ _ two.2 in
    record {
      planned = one.0;
      held = two.0;
      plans = one.1;
      acts = two.1;
      answers = ap (λ (s : Reply × Machine). s.0) (sym last);
      tree = ap (λ (s : Reply × Machine). s.1.tree) (sym last);
      seats = ap (λ (s : Reply × Machine). s.1.seats) (sym last);
    }

plain_plan : (machine : Machine) (caller : ℕ) (call : Call) (moment : ℕ) (pick : Option ℕ) (planned : CallPlan) → plan machine caller call moment pick ≡ Ok planned → IsServedReply planned.reply
plain_plan machine caller call moment pick planned h =
    let one = bind_ok (some (slice_get machine.seats caller) EINVAL) _ planned h in
    (plain_row machine.tree.nodes machine.seats one.0 call moment pick).holds planned one.2

refused_not_plain : (reply : Reply) (e : Errno) → reply ≡ Refused e → IsServedReply reply → ⊥
refused_not_plain reply e h plain = subst IsServedReply h plain

pub refused : RefusedStays
refused machine caller call moment pick e =
    elim (serve machine caller call moment pick) as (λ (r : Answer (Reply × Machine)). serve machine caller call moment pick ≡ r → (or_refused machine r).0 ≡ Refused e → (or_refused machine r).1 ≡ machine) [
      | Ok s ↦ λ is h. let by = served machine caller call moment pick s.0 s.1 is in absurd (refused_not_plain by.planned.reply e (sym by.answers ∙ h) (plain_plan machine caller call moment pick by.planned by.plans))
      | Err other ↦ λ is h. refl
    ] refl
