use Rattle.std.proofs.Common.{rules, subst, sym}
use Rattle.mb_core_spec.specs.State.{CoreState}
use Rattle.mb_core_state.specs.Redoing.{IsReadAnew}
use Rattle.mb_core_state.proofs.fields.Fields.start_anew.Goals as goal

pub returns-clause-ok : goal.returns-clause-ok
returns-clause-ok g c = record {
  anew = subst (λ (core : CoreState _ _). IsReadAnew core.cache.room.clean) (sym c.self-2.view_is) c.read_anew.ensures.anew;
  folds = search rules;
  event = search rules;
}
