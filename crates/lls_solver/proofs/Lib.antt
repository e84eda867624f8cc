pub mod Levels
pub mod Waiting
pub mod Kept
pub mod Conflicts
pub mod Clauses
pub mod Satisfied
pub mod Logs
pub mod LearntClauses
pub mod Below
pub mod Sharing
mod Ids
mod Unlearnt
pub mod Unbegun
pub mod Outcomes
pub mod Forgotten
pub mod ForgottenTogether
pub mod Marks
