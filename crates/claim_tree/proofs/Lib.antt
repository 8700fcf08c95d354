pub mod Counting
pub mod TextElements
pub mod Views
pub mod MapPlaces
pub mod Insertions
pub mod OtherMembers
pub mod RemovedNodes
pub mod Positions
pub mod Walks
pub mod TreeTokens
pub mod Datas
mod FloatNames
mod TreeReading
mod Judging
mod Passes
mod ListTails
pub mod RoundTrip
pub mod Everywheres
pub mod EveryMembers
pub mod TreeTexts
pub mod OneTree
pub mod OwnReading
pub mod ReadOrdered
pub mod KeptTrees
mod KeptReading
mod PointerEscapes
mod PointerTildes
mod PointerPieces
pub mod PointerTexts
pub mod PointerRule
mod Examples
pub mod MemberNames
pub mod ObjectTrees
pub mod TreeValues
pub mod ListForms
pub mod SamePaths
pub mod PathFronts
mod PathSteps
mod PlainPointers
