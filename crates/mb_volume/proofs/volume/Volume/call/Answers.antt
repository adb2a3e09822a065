use Rattle.std.proofs.Common.{◌≡◌, true, false, refl, ap, sym, ◌∙◌, arith}
use Rattle.mb_run.proofs.Rising.{rises_none, rises_then}
use Rattle.mb_volume.proofs.Calling.{call_answered, call_begins, call_given_up, call_waits}
use Rattle.mb_volume.proofs.Hearing.{heard_begins}
use Rattle.mb_volume.proofs.Holding.{later_same, later_then}
use Rattle.mb_volume.specs.Passing.{part_in}
use Rattle.mb_volume.specs.declared.attempt.Attempt.{Attempt}
use Rattle.mb_volume.proofs.volume.Volume.call.Goals as goal

pub loop-init : goal.loop-init
loop-init g c = record {
  can_next = tt;
  is_finite = tt;
  going = tt;
  later = later_same _ c.args.pass.now c.requires.idle;
  underway = call_begins c.args.call.now (g.H.Hook.test c.args.hook.now) c.args.pass.now c.args.pass.now c.begin-attempt.result refl c.begin-attempt.ensures.declared c.requires.most c.requires.free c.begin-attempt.ensures.attempt;
  caller = ap (λ (a : Attempt). a.crossings.caller) c.begin-attempt.ensures.attempt;
  waits = λ wrong. absurd (let both : false ≡ true = wrong in cc);
  rises = rises_none _ _ _ _ (omega arith) refl;
  heard = heard_begins (g.H.Hook.test c.args.hook.now) c.args.pass.now.caller (part_in c.args.pass.now).seat.begun (g.H.Hook.faults c.args.hook.now) (part_in c.args.pass.now).seat c.begin-attempt.result c.begin-attempt.ensures.attempt c.requires.free;
  test = refl;
}

pub returns-in-Answered-clause-ok : goal.returns-in-Answered-clause-ok
returns-in-Answered-clause-ok g c =
    call_answered c.args.call.now (g.H.Hook.test c.args.hook.now) c.args.pass.now c.loop.pass c.step.new.pass c.loop.attempt c.step.new.attempt c.loop.invariant.underway (c.loop.invariant.caller ∙ c.loop.invariant.later.caller) c.in-Answered.reply
    (rw c.loop.invariant.test at c.in-Answered.ensures.comes.leads)

pub returns-in-Answered-clause-rises : goal.returns-in-Answered-clause-rises
returns-in-Answered-clause-rises g c = rises_then _ _ _ _ _ _ c.loop.invariant.rises c.step.ensures.comes.rises

pub returns-in-Answered-clause-taken : goal.returns-in-Answered-clause-taken
returns-in-Answered-clause-taken g c = (rw c.loop.invariant.test at c.in-Answered.ensures.comes.hears) _ _ _ c.loop.invariant.heard

pub give_up-requires-clause-waits : goal.give_up-requires-clause-waits
give_up-requires-clause-waits g c =
    call_waits c.args.call.now (g.H.Hook.test c.args.hook.now) c.args.pass.now c.loop.pass c.step.new.pass c.loop.attempt c.step.new.attempt c.loop.invariant.underway (c.loop.invariant.caller ∙ c.loop.invariant.later.caller)
    (rw c.loop.invariant.test at c.in-NoMemory.ensures.comes.leads)

pub returns-in-NoMemory-clause-err : goal.returns-in-NoMemory-clause-err
returns-in-NoMemory-clause-err g c =
    call_given_up c.args.call.now (g.H.Hook.test c.args.hook.now) c.args.pass.now c.loop.pass c.step.new.pass c.loop.attempt c.step.new.attempt c.loop.invariant.underway (c.loop.invariant.caller ∙ c.loop.invariant.later.caller) c.give_up.new.pass
    c.step.ensures.comes.same (rw c.loop.invariant.test at c.in-NoMemory.ensures.comes.leads) c.give_up.ensures.quits

pub returns-in-NoMemory-clause-rises : goal.returns-in-NoMemory-clause-rises
returns-in-NoMemory-clause-rises g c =
    rises_then _ _ _ _ _ _ (rises_then _ _ _ _ _ _ c.loop.invariant.rises c.step.ensures.comes.rises) (rises_none _ _ _ _ (omega arith) c.give_up.ensures.quits.struck)

pub loop-preserved-in-Shut : goal.loop-preserved-in-Shut
loop-preserved-in-Shut g c =
    let is = (rw c.loop.invariant.test at c.in-Shut.ensures.comes.leads) (part_in c.args.pass.now) c.loop.invariant.underway in
    record {
      can_next = tt;
      is_finite = tt;
      going = c.step.ensures.going;
      later = later_then _ _ _ _ c.loop.invariant.later c.step.ensures.comes.later;
      underway = is.0;
      caller = c.step.ensures.comes.same ∙ c.loop.invariant.caller ∙ sym c.step.ensures.comes.later.caller;
      waits = λ shut. is.1;
      rises = rises_then _ _ _ _ _ _ c.loop.invariant.rises c.step.ensures.comes.rises;
      heard = (rw c.loop.invariant.test at c.in-Shut.ensures.comes.hears) _ _ _ c.loop.invariant.heard;
      test = c.step.ensures.test ∙ c.loop.invariant.test;
    }

pub loop-preserved-in-Busy : goal.loop-preserved-in-Busy
loop-preserved-in-Busy g c = record {
  can_next = tt;
  is_finite = tt;
  going = c.step.ensures.going;
  later = later_then _ _ _ _ c.loop.invariant.later c.step.ensures.comes.later;
  underway = (rw c.loop.invariant.test at c.in-Busy.ensures.comes.leads) (part_in c.args.pass.now) c.loop.invariant.underway;
  caller = c.step.ensures.comes.same ∙ c.loop.invariant.caller ∙ sym c.step.ensures.comes.later.caller;
  waits = λ wrong. absurd (let both : false ≡ true = wrong in cc);
  rises = rises_then _ _ _ _ _ _ c.loop.invariant.rises c.step.ensures.comes.rises;
  heard = (rw c.loop.invariant.test at c.in-Busy.ensures.comes.hears) _ _ _ c.loop.invariant.heard;
  test = c.step.ensures.test ∙ c.loop.invariant.test;
}

pub loop-preserved-in-Inside : goal.loop-preserved-in-Inside
loop-preserved-in-Inside g c = record {
  can_next = tt;
  is_finite = tt;
  going = c.step.ensures.going;
  later = later_then _ _ _ _ c.loop.invariant.later c.step.ensures.comes.later;
  underway = ((rw c.loop.invariant.test at c.in-Inside.ensures.comes.leads) (part_in c.args.pass.now) c.loop.invariant.underway).0;
  caller = c.step.ensures.comes.same ∙ c.loop.invariant.caller ∙ sym c.step.ensures.comes.later.caller;
  waits = λ wrong. absurd (let both : false ≡ true = wrong in cc);
  rises = rises_then _ _ _ _ _ _ c.loop.invariant.rises c.step.ensures.comes.rises;
  heard = (rw c.loop.invariant.test at c.in-Inside.ensures.comes.hears) _ _ _ c.loop.invariant.heard;
  test = c.step.ensures.test ∙ c.loop.invariant.test;
}

pub loop-preserved : goal.loop-preserved
loop-preserved g c = record {
  can_next = tt;
  is_finite = tt;
  going = c.step.ensures.going;
  later = later_then _ _ _ _ c.loop.invariant.later c.step.ensures.comes.later;
  underway = (rw c.loop.invariant.test at c.in-On.ensures.comes.leads) (part_in c.args.pass.now) c.loop.invariant.underway;
  caller = c.step.ensures.comes.same ∙ c.loop.invariant.caller ∙ sym c.step.ensures.comes.later.caller;
  waits = λ wrong. absurd (let both : false ≡ true = wrong in cc);
  rises = rises_then _ _ _ _ _ _ c.loop.invariant.rises c.step.ensures.comes.rises;
  heard = (rw c.loop.invariant.test at c.in-On.ensures.comes.hears) _ _ _ c.loop.invariant.heard;
  test = c.step.ensures.test ∙ c.loop.invariant.test;
}
