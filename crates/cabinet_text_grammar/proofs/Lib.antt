mod Answered
pub mod Changes
pub mod Completed
pub mod Completing
pub mod Cuts
pub mod Decided
pub mod DistinctKeys
pub mod EditLines
pub mod Equal
pub mod Escapes
mod ExamplesFaults
mod ExamplesTexts
pub mod Faults
pub mod FirstCauses
pub mod Items
pub mod KeyLemmas
mod KeyedPairs
pub mod Lacking
pub mod Legal
pub mod LegalStages
pub mod Lines
pub mod Pieces
pub mod ReadBack
pub mod Restructured
pub mod RestructuredPaths
pub mod Runs
pub mod Spelled
pub mod Stages
pub mod Start
pub mod Steps
pub mod Tables
pub mod TreeTexts
pub mod Utf8
pub mod Verdicts
pub mod Whole
mod WithoutWholes
