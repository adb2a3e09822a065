use Rattle.std.proofs.Common.{◌≡◌, Ok, subst, sym, ◌∙◌}
use Rattle.mb_tree.specs.Lookup.{find_place}
use Rattle.mb_calls.specs.Following.{HaltsNear, IsKept, piece_of}
use Rattle.mb_calls.specs.Halts.{NeedsOf}
use Rattle.mb_calls.specs.Halts.Scope.{lacking}
use Rattle.mb_calls.proofs.Cutting.{head_near}
use Rattle.mb_calls.proofs.Leading.{led_place}
use Rattle.mb_calls.proofs.walks.look_ahead.Goals.{in-Some, in_default-led_by}
use Rattle.mb_calls.proofs.walks.look_ahead.Goals as goal

pub returns-after-led_by-clause-kept : goal.returns-after-led_by-clause-kept
returns-after-led_by-clause-kept g c = elim c.match-led_by.branch [
  | in-Some w ↦ subst (IsKept (g.V.View.shown c.args.view.now) c.args.seat.now c.args.path.now) (sym w.walk-is) (record {
    within = c.requires.kept.within;
    followed = c.requires.kept.followed;
    place = c.requires.kept.place;
    ahead = record {
      cut = c.requires.cut;
      led = λ image tree over.
          let directory = (c.requires.kept.followed image tree over).directory in
          led_place tree over.volume.sound c.args.seat.now.cred c.args.walk.now.dir (piece_of c.args.path.now c.args.walk.now.from c.args.next) c.in-Ok-place_at.placed w.in-Some.ino directory
          (subst (λ head. find_place tree.nodes c.args.seat.now.cred c.args.walk.now.dir head ≡ Ok c.in-Ok-place_at.placed) c.in-Ok.ensures (c.in-Ok-place_at.ensures.says image tree over.part over.volume directory))
          (sym c.led_by.ensures ∙ w.in-Some.is);
    };
  })
  | in_default-led_by w ↦ subst (IsKept (g.V.View.shown c.args.view.now) c.args.seat.now c.args.path.now) (sym w.walk-is) c.requires.kept
]

pub returns-in-Err-Need-clause-lacking : goal.returns-in-Err-Need-clause-lacking
returns-in-Err-Need-clause-lacking g c = record {
  lacking = subst (λ s. NeedsOf (lacking (g.V.View.shown c.args.view.now)) s) c.in-Err-Need.field-0-is c.in-Err-Need.ensures.wants;
  near = λ image tree over. head_near (g.V.View.shown c.args.view.now) c.args.seat.now c.args.path.now c.args.walk.now c.args.next c.in-Ok.head c.requires.kept c.requires.cut c.in-Ok.ensures
      image tree over c.in-Err-Need.need.first (subst (λ s. HaltsNear image tree c.args.seat.now.cred c.args.walk.now.dir c.in-Ok.head s) c.in-Err-Need.field-0-is
      (c.in-Err-Need.ensures.near image tree over.part over.volume (c.requires.kept.followed image tree over).directory));
}
