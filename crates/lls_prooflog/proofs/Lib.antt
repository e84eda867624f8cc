pub mod LiteralLists
pub mod Walks
pub mod Proper
mod Turned
pub mod Soundness
pub mod Lists
mod Given
mod ReadSteps
mod ShortNumbers
mod FirstWords
pub mod Ends
pub mod InRange
pub mod PrintedNumbers
pub mod PrintedLists
pub mod PrintedSteps
pub mod FreshClauses
pub mod StepLines
pub mod Pieces
pub mod Logged
pub mod PrintedLogs
pub mod FirstLines
