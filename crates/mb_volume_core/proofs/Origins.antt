-- What a core was begun on.
use Rattle.std.proofs.Common.{◌≡◌, ◌∙◌, ap}
use Rattle.mb_core_spec.specs.State.{CoreState}
use Rattle.mb_core_spec.specs.declared.config.Config.{Config}
use Rattle.mb_volume_core.specs.declared.volume_core.Origin.{Origin}

abbrev pub origin_of : {F D : Type 0} → CoreState F D → Origin D
origin_of core = record { first = core.first; config = core.config }

pub origin_is : {F D : Type 0} (core new : CoreState F D) → new.first ≡ core.first → new.config ≡ core.config → origin_of new ≡ origin_of core
origin_is {D = D} core new first config =
    let with_first : D → Origin D = λ d. record { first = d; config = new.config } in
    let with_config : Config → Origin D = λ k. record { first = core.first; config = k } in
    ap with_first first ∙ ap with_config config
