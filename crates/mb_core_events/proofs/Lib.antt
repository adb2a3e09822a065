mod Kept
pub mod Knowing
pub mod Phases
mod RightsOfBegin
mod RightsOfCalls
mod RightsOfEnter
mod RightsOfFinish
mod RightsOfGather
mod RightsOfRecovery
mod RightsOfRedo
