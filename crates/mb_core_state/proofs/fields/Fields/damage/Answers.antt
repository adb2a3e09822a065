use Rattle.mb_core_state.proofs.Damaging.{both_damaged}
use Rattle.mb_core_state.proofs.fields.Fields.damage.Goals as goal

pub returns : goal.returns
returns g c = both_damaged _ c.args.self.now c.damage.new.self c.damage-2.new.self c.args.damage.now c.self.view_is c.damage_of_pages.ensures c.damage_of_counts.ensures c.damage.ensures c.damage-2.ensures
