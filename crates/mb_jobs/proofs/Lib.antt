pub mod CallPlaces
pub mod Documents
pub mod ExitPlaces
pub mod Listed
pub mod RuleWords
pub mod StrokeLists
pub mod TakenCalls
